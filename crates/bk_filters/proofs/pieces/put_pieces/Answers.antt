use Rattle.bk_filters.proofs.Terms.{rules, Begins-trans}
use Rattle.bk_filters.proofs.PieceLemmas.{AppendsPart-piece, Appends-piece}
use Rattle.bk_filters.proofs.pieces.put_pieces.Goals as goal

pub returns-in_err-put_all-clause-part : goal.returns-in_err-put_all-clause-part
returns-in_err-put_all-clause-part g c =
    let part = AppendsPart-piece _ _ _ c.args.pieces.now c.loop-piece.piece-index _ c.loop-piece-test.true c.loop-piece.invariant.taken c.in_err-put_all.ensures.part in search rules

pub loop-piece-preserved : goal.loop-piece-preserved
loop-piece-preserved g c = record {
  taken = Appends-piece _ _ _ c.args.pieces.now c.loop-piece.piece-index _ c.loop-piece-test.true c.loop-piece.invariant.taken c.in_ok-put_all.ensures.takes;
  passed = Begins-trans _ _ _ c.loop-piece.invariant.passed c.in_ok-put_all.ensures.passes;
  same = search rules;
}

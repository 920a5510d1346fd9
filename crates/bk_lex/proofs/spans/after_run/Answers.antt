use Rattle.bk_lex.proofs.Terms.{◌≡◌, true, get_or, sym, ◌∙◌, arith}
use Rattle.bk_lex.proofs.SpanLemmas.{all_more}
use Rattle.bk_lex.specs.Runs.{is_in_run}
use Rattle.bk_lex.proofs.spans.after_run.Goals as goal

pub loop-at-preserved : goal.loop-at-preserved
loop-at-preserved c =
    let v = c.loop-at.invariant in
    (omega (arith, v.0), omega arith, all_more (λ k. is_in_run c.args.run (get_or c.args.bytes.now k 0) ≡ true) c.args.from c.loop-at.at v.2 (sym c.is_in_run.ensures ∙ c.if-is_in_run.true))

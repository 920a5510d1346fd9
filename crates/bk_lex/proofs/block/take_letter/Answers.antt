use Rattle.bk_lex.proofs.Terms.{ap, sym, ◌+◌, ◌∙◌, arith}
use Rattle.bk_lex.specs.Lexers.{marks_of}
use Rattle.bk_lex.proofs.BlockLemmas.{letter_begun}
use Rattle.bk_lex.proofs.block.take_letter.Goals as goal

pub returns-clause-goes : goal.returns-clause-goes
returns-clause-goes c = λ text line at goes.
    letter_begun text c.args.bytes.now line (marks_of c.args.pieces.now) c.args.state.now c.args.from (c.args.before + c.args.from) c.from.result goes (omega (arith, c.if-from-bytes.false)) (grind arith) c.if-state.false
    (grind arith) (grind arith) (sym c.is_ascii_alphabetic.ensures.value ∙ c.if-not-is_ascii_alphabetic.false) (ap (λ n. n + c.args.from) (sym at)) c.from.ensures

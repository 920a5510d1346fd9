use Rattle.bk_lex.proofs.Terms.{◌+◌, ◌-◌, arith}
use Rattle.bk_lex.specs.Lexers.{marks_of}
use Rattle.bk_lex.proofs.BlockLemmas.{blank_run}
use Rattle.bk_lex.proofs.block.take_spaces.Goals as goal

pub returns-clause-goes : goal.returns-clause-goes
returns-clause-goes c = λ text line at goes.
    let to = c.after_run-to.result in
    let w = c.after_run-to.ensures.within in
    blank_run text c.args.bytes.now line (marks_of c.args.pieces.now) c.args.state.now c.args.from goes (grind arith) to (c.args.before + to - 1) (grind arith) (omega arith) (omega arith) c.after_run-to.ensures.run (omega (arith, at))

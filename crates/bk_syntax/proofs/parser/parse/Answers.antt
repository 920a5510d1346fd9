use Rattle.bk_syntax.proofs.Terms.{Err, symbols_of}
use Rattle.bk_syntax.proofs.Reported.{parses_unplaced}
use Rattle.bk_syntax.proofs.parser.parse.Goals as goal

pub returns-in-Err : goal.returns-in-Err
returns-in-Err c =
    let p = parses_unplaced (Err c.in-Err.refused) (symbols_of c.args.tokens.now) c.args.end c.in-Err.ensures.parses in
    rw c.on_line.ensures (record { parses = p; within = tt; only = c.in-Err.ensures.only })

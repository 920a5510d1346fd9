use Rattle.bk_lex.proofs.Terms.{◌≡◌, ◌+◌, ◌≤◌, drop, slice_range, symbols_of, reading, run, lexed}
use Rattle.bk_lex.proofs.FaultLoop.{Looped}
use Rattle.bk_lex.proofs.scan.lex_placed.Given as goal

abbrev pub invariant-loop-i : goal.invariant-loop-i
invariant-loop-i l = record { order : l.start ≤ l.i; counted : l.state.bytes + l.i ≡ 1048576; same : run (reading (symbols_of l.tokens.items) l.state (slice_range l.text l.start l.i) l.place l.i) (drop l.i l.text) ≡ lexed l.text l.fn.from; looped : Looped l.text l.i l.start l.state }

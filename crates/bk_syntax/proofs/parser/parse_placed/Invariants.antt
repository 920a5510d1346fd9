use Rattle.bk_syntax.proofs.Terms.{take, symbols_of, stack_of, state, Bounded, tags, AfterSymbols}
use Rattle.bk_syntax.proofs.parser.parse_placed.Given as goal

abbrev pub invariant-loop-token : goal.invariant-loop-token
invariant-loop-token l = AfterSymbols (symbols_of (take l.token-index l.tokens)) (tags l.opened.items) (state (stack_of l.parser.frames) l.parser.now) × Bounded (state (stack_of l.parser.frames) l.parser.now)

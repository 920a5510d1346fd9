use Rattle.bk_syntax.proofs.Terms.{◌≡◌, symbol_of, stack_of, state, steps}
use Rattle.bk_syntax.proofs.parser.Parser.repeat_step.Given as goal

abbrev pub invariant-loop-left : goal.invariant-loop-left
invariant-loop-left l =
    steps l.left (symbol_of l.token) (state (stack_of l.self.frames) l.self.now) ≡ steps l.fn.times (symbol_of l.token) (state (stack_of l.fn.self.frames) l.fn.self.now)

abbrev pub decreases-loop-left : goal.decreases-loop-left
decreases-loop-left l = l.left

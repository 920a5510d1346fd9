use Rattle.bk_syntax.proofs.Terms.{◌≡◌, ℕ, ◌-◌, sym, ap, ◌∙◌, arith, symbol_of, stack_of, state, goes_to, steps}
use Rattle.bk_syntax.proofs.Following.{steps_more}
use Rattle.bk_syntax.proofs.parser.Parser.repeat_step.Goals as goal

pub loop-left-preserved : goal.loop-left-preserved
loop-left-preserved c =
    let t = symbol_of c.args.token.now in
    let x = state (stack_of c.loop-left.self.frames) c.loop-left.self.now in
    sym (steps_more c.loop-left.left t x (omega arith) ∙ ap (goes_to (steps (c.loop-left.left - 1) t)) c.in-Ok.ensures) ∙ c.loop-left.invariant

pub returns-in-Err-Unexpected : goal.returns-in-Err-Unexpected
returns-in-Err-Unexpected c =
    let t = symbol_of c.args.token.now in
    let x = state (stack_of c.loop-left.self.frames) c.loop-left.self.now in
    sym c.loop-left.invariant ∙ steps_more c.loop-left.left t x (omega arith) ∙ ap (goes_to (steps (c.loop-left.left - 1) t)) (rw c.in-Err-Unexpected.field-0-is at c.in-Err-Unexpected.ensures)

pub returns : goal.returns
returns c =
    let t = symbol_of c.args.token.now in
    let x = state (stack_of c.loop-left.self.frames) c.loop-left.self.now in
    let none : c.loop-left.left ≡ 0 = omega arith in
    sym c.loop-left.invariant ∙ ap (λ (n : ℕ). steps n t x) none

use Rattle.bk_syntax.proofs.Terms.{position_of, Result, refl, sym, subst, ◌∙◌, symbol_of, ParseError, stack_of, state, tags, answered, reached, Advances}
use Rattle.bk_syntax.proofs.Following.{step_answered, plain_other}
use Rattle.bk_syntax.proofs.parser.Parser.take.Goals as goal

pub returns : goal.returns
returns c = λ u b.
    let t = symbol_of c.args.token.now in
    let before = tags c.args.opened.now.items in
    let P : Result Unit ParseError → Type 0 = λ r. Advances c.repeat_step.new.self.frames c.args.opened.now.items (answered (reached r c.repeat_step.new.self.now) (position_of t)) u t in
    subst P (sym c.error_of.ensures) (step_answered c.repeat_step.result c.repeat_step.new.self.now c.repeat_step.new.self.frames c.args.opened.now.items u t before before (state (stack_of c.args.self.now.frames) c.args.self.now.now)
    1 c.repeat_step.ensures refl (λ us. plain_other t us before (sym c.opens.ensures ∙ c.if-opens.false) (sym c.closes.ensures ∙ c.if-closes.false)) b)

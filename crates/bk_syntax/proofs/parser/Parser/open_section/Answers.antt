use Rattle.bk_syntax.proofs.Terms.{position_of, List, ◌∷◌, ℕ, Result, sym, ap, subst, ◌∙◌, symbol_of, ParseError, tag_of, stack_of, state, tags, answered, reached, Advances}
use Rattle.bk_syntax.proofs.Openings.{tags_push}
use Rattle.bk_syntax.proofs.Following.{step_answered, plain_open}
use Rattle.bk_syntax.proofs.parser.Parser.open_section.Goals as goal

pub returns-in-Ok : goal.returns-in-Ok
returns-in-Ok c = λ u b.
    let t = symbol_of c.args.token.now in
    let before = tags c.args.opened.now.items in
    let P : Result Unit ParseError → Type 0 = λ r. Advances c.repeat_step.new.self.frames c.push.new.self.items (answered (reached r c.repeat_step.new.self.now) (position_of t)) u t in
    let more = ap tags c.in-Ok.ensures.items ∙ tags_push c.args.opened.now.items c.tag.result ∙ ap (λ (z : List ℕ). z ∷ before) c.tag.ensures in
    subst P (sym c.error_of.ensures) (step_answered c.repeat_step.result c.repeat_step.new.self.now c.repeat_step.new.self.frames c.push.new.self.items u t before (tag_of t.text ∷ before) (state (stack_of c.args.self.now.frames) c.args.self.now.now)
    1 c.repeat_step.ensures more (λ us. plain_open t us before c.requires) b)

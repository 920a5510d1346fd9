use Rattle.bk_syntax.proofs.Terms.{◌≡◌, Option, rules, sym, ap, subst, ◌∙◌, expression, State, stack_of, given, Flows, pushes, ParserState as n}
use Rattle.bk_syntax.proofs.parser.Parser.after_expression.Goals as goal
use Rattle.bk_grammar.specs.Placed.{position_at}

pub returns-then-goes_on_with-clause-answers : goal.returns-then-goes_on_with-clause-answers
returns-then-goes_on_with-clause-answers c =
    let st = stack_of c.args.self.now.frames in
    let t = c.args.token.now in
    let e = expression c.in-Have.sized.expr in
    let had : c.args.self.now.now ≡ n.Have c.in-Have.sized = search rules in
    let same = ap (λ z. given st z (position_at t) t.text.now t.kind) had ∙ pushes st e (position_at t) t.text.now t.kind (sym c.goes_on_with.ensures ∙ c.if-goes_on_with.true) in
    let P : Option State → Type 0 = λ z. Flows (stack_of c.go_on.new.self.frames) c.go_on.result c.go_on.new.self.now (position_at t) t.text.now t.kind z in
    subst P (sym same) c.go_on.ensures.answers

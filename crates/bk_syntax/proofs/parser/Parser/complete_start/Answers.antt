use Rattle.bk_syntax.proofs.Terms.{◌≡◌, false, rules, sym, ap, ◌∙◌, expression, assigns, size_of, size_of_command, give, finish, in_start, stack_of, given, after, Apply_is, call_done, ParserState as n}
use Rattle.bk_syntax.proofs.parser.Parser.complete_start.Goals as goal
use Rattle.bk_grammar.specs.Placed.{position_at}

pub returns-in-Apply-clause-answers : goal.returns-in-Apply-clause-answers
returns-in-Apply-clause-answers c =
    let st = stack_of c.args.self.now.frames in
    let t = c.args.token.now in
    let other : assigns t.kind ≡ false = search rules in
    let had : c.args.self.now.now ≡ n.Have c.in-Have.sized = search rules in
    ap (λ z. given (in_start st) z (position_at t) t.text.now t.kind) had
    ∙ ap (λ x. give (in_start st) x (position_at t) t.text.now t.kind) (ap expression c.in-Apply.is ∙ Apply_is _ _ c.in-Apply.callee c.in-Apply.items)
    ∙ call_done st _ _ _ _ (position_at t) t.text.now t.kind c.requires.stops other
    ∙ ap (λ y. finish st y (position_at t) t.text.now t.kind) (sym c.call.ensures)
    ∙ ap (λ m. after st m (position_at t) t.text.now t.kind) (sym c.set.ensures)

pub invariant_of-done : goal.invariant_of-done
invariant_of-done c = record {
  sizes =
      c.in-Have.sized.sizes
      ∙ ap size_of (ap expression c.in-Apply.is ∙ Apply_is _ _ c.in-Apply.callee c.in-Apply.items)
      ∙ ap size_of_command (sym c.call.ensures);
}

use Rattle.bk_check.proofs.Terms.{◌≡◌, ℕ, List, map, ap, sym, ◌∙◌, Name, Init, mention, definition, definitions_in, starts_in, variables, Variables_is, Outcome, Done, Environment, objects_of_definition, following, past_definition, env_in, Let, world, tag, done_tag, resumed, bound_then}
use Rattle.bk_check.proofs.Lets.{let_turn}
use Rattle.bk_check.proofs.blocks.define_one.Goals as goal

pub returns-in-Variables-clause-comes : goal.returns-in-Variables-clause-comes
returns-in-Variables-clause-comes c = λ p b.
    let e : definition c.args.first.now ≡ variables c.in-Variables.at (map mention c.deref-in-Variables.result.now) (starts_in c.deref-in-Variables-2.result.now) =
    ap definition c.in-Variables.is ∙ Variables_is c.in-Variables.at c.in-Variables.names c.in-Variables.inits
    ∙ sym (ap (λ (xs : List Name). variables c.in-Variables.at (map mention xs) (starts_in c.deref-in-Variables-2.result.now)) c.deref-in-Variables.ensures.value
    ∙ ap (λ (xs : List Init). variables c.in-Variables.at (map mention c.in-Variables.names.items) (starts_in xs)) c.deref-in-Variables-2.ensures.value) in
    let h : env_in c.in_ok-there.there ≡ past_definition (definition c.args.first.now) (env_in c.args.rest.value.here) =
    c.in_ok-there.ensures ∙ ap (λ (n : ℕ). following n (env_in c.in_ok-again.field-0)) c.in_ok-count.ensures ∙ ap (λ (x : Environment). following (objects_of_definition (definition c.args.first.now)) x) c.in_ok-again.ensures
    ∙ ap (λ (l : Let). following (objects_of_definition (definition c.args.first.now)) (env_in l.here)) c.deref.ensures in
    c.variables.ensures.comes p b ∙ ap (λ (u : Outcome Done). resumed p c.args.m.now.frames.items (tag done_tag u))
    (let_turn p c.in-Variables.at (map mention c.deref-in-Variables.result.now) (starts_in c.deref-in-Variables-2.result.now) (definitions_in c.args.rest.value.defs.now) (env_in c.args.rest.value.here) (env_in c.in_ok-there.there) (λ ss w. bound_then p c.args.rest.value ss w) (world c.args.m.now b) (definition c.args.first.now) e h)

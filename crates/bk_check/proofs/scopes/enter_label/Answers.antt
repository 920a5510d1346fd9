use Rattle.bk_check.proofs.Terms.{◌≡◌, None, Some, sym, ◌∙◌, rules}
use Rattle.bk_check.proofs.Places.{has, entered_new, entered_old}
use Rattle.bk_check.proofs.scopes.enter_label.Goals as goal

pub returns-in_ok-insert : goal.returns-in_ok-insert
returns-in_ok-insert c =
    let some : has c.args.places.now c.args.label.now ≡ Some c.in-Some.before = sym c.in_ok-before.ensures.old ∙ c.in-Some.is in
    entered_old c.args.places.now c.insert.new.self c.insert-in-Some.new.self c.args.label c.args.place c.in-Some.before some c.in_ok-before.ensures.updates c.in_ok-insert.ensures.updates

pub returns-in_default : goal.returns-in_default
returns-in_default c =
    let none : has c.args.places.now c.args.label.now ≡ None = search rules in
    entered_new c.args.places.now c.insert.new.self c.args.label c.args.place none c.in_ok-before.ensures.updates

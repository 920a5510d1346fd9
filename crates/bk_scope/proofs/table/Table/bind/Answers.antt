use Rattle.bk_scope.proofs.Terms.{◌++◌, ◌∷◌, [], ◌∙◌, ap, arith, option_flatten}
use Rattle.bk_scope.proofs.TableSteps.{IsTable-push}
use Rattle.bk_scope.proofs.table.Table.bind.Goals as goal

pub invariant_of-self-2 : goal.invariant_of-self-2
invariant_of-self-2 c =
    IsTable-push c.self.inside (record { innermost = c.insert.new.self; bindings = c.push.new.self }) (record { name = c.new-name.result; bound = c.args.bound; hidden = c.flatten-hidden.result }) c.len-place.result c.self.invariant
    (c.in_ok-push.ensures.items ∙ ap (λ es. es ++ record { name = c.new-name.result; bound = c.args.bound; hidden = c.flatten-hidden.result } ∷ []) c.reserve.ensures.items)
    (omega arith)
    (c.flatten-hidden.ensures ∙ ap option_flatten c.in_ok-insert.ensures.old ∙ c.self.invariant.places c.new-name.result.letters.now) c.in_ok-insert.ensures.updates

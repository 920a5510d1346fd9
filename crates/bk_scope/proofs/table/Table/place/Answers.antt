use Rattle.bk_scope.proofs.Terms.{◌∙◌, ap, option_flatten}
use Rattle.bk_scope.proofs.TableSteps.{place_by_key}
use Rattle.bk_scope.proofs.table.Table.place.Goals as goal

pub returns : goal.returns
returns c =
    c.flatten.ensures ∙ ap option_flatten (c.copied.ensures ∙ c.get.ensures.value)
    ∙ place_by_key c.self.inside c.new.result c.args.name.now c.args.self.now c.self.invariant c.self.view_is c.new.ensures

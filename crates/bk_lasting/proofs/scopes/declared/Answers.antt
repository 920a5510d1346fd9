use Rattle.bk_lasting.proofs.Terms.{◌≡◌, rules, arith, ap, ◌∙◌, common_steps, declaration, items_in, definitions_in, constants, definitions, Constants_is, Let_is}
use Rattle.bk_lasting.proofs.scopes.declared.Goals as goal

pub returns-in-Constants : goal.returns-in-Constants
returns-in-Constants c =
    let b = c.in-Constants in
    let is : declaration c.args.decl.now ≡ constants b.at b.sort (items_in b.items.items) = ap declaration b.is ∙ Constants_is b.at b.sort b.items in
    rw is (first_of (search rules, grind (arith, common_steps)))

pub returns-in_ok-inside-in-Let : goal.returns-in_ok-inside-in-Let
returns-in_ok-inside-in-Let c =
    let b = c.in-Let in
    let is : declaration c.args.decl.now ≡ definitions b.at (definitions_in b.defs.items) = ap declaration b.is ∙ Let_is b.at b.defs in
    rw is (first_of (search rules, grind (arith, common_steps)))

use Rattle.bk_kit.proofs.Terms.{rules, ◌≡◌, inr, List, [], Option, None, Some, IfOk, map, refl, sym, ◌∙◌, subst, fault_of, App, HasMatchesOf, Row, Text, app_of, rows_of, found_of, subcommand_of, subcommand_rows_of, kit_command, Reads, IsOrder}
use Rattle.clap.specs.Values.{kind_of}
use Rattle.bk_kit.proofs.LineLemmas.{found_subcommand, faults_told, words_refused, values_refused}
use Rattle.bk_kit.proofs.command_line.order.Goals as goal

pub returns-in-Err-clause-refuses : goal.returns-in-Err-clause-refuses
returns-in-Err-clause-refuses g c =
    words_refused (app_of c.in_ok-kit.field-0) (map g.S.AsStr.text c.args.words.now) (kind_of c.in-Err.error) c.fault_of.result c.in_ok-kit.ensures.0 c.in-Err.ensures.passes c.in-Err.ensures.kinds c.fault_of.ensures

pub returns-in-Some-clause-reads : goal.returns-in-Some-clause-reads
returns-in-Some-clause-reads g c =
    let words = map g.S.AsStr.text c.args.words.now in
    let rows : subcommand_rows_of c.in-Ok.matches ≡ subcommand_of kit_command words = (subst (λ (a : App). HasMatchesOf a words c.in-Ok.matches) c.in_ok-kit.ensures.0 c.in-Ok.ensures.matches refl).1 in
    let same : subcommand_of kit_command words ≡ Some (c.in-Some.name.now, rows_of (found_of c.in-Some.values.now)) = sym rows ∙ found_subcommand c.in-Ok.matches c.subcommand.result c.in-Some.name c.in-Some.values c.subcommand.ensures.name c.subcommand.ensures.rows c.in-Some.is in
    subst (λ (f : Option (Text × List Row)). IfOk c.order_of.result (Reads f)) (sym same) c.order_of.ensures.reads

pub returns-in-Some-clause-refuses : goal.returns-in-Some-clause-refuses
returns-in-Some-clause-refuses g c =
    let words = map g.S.AsStr.text c.args.words.now in
    let rows : subcommand_rows_of c.in-Ok.matches ≡ subcommand_of kit_command words = (subst (λ (a : App). HasMatchesOf a words c.in-Ok.matches) c.in_ok-kit.ensures.0 c.in-Ok.ensures.matches refl).1 in
    let same : subcommand_of kit_command words ≡ Some (c.in-Some.name.now, rows_of (found_of c.in-Some.values.now)) = sym rows ∙ found_subcommand c.in-Ok.matches c.subcommand.result c.in-Some.name c.in-Some.values c.subcommand.ensures.name c.subcommand.ensures.rows c.in-Some.is in
    values_refused c.order_of.result words _ same (faults_told (app_of c.in_ok-kit.field-0) (λ a. fault_of a words ≡ []) c.in_ok-kit.ensures.0 c.in-Ok.ensures.kinds) c.order_of.ensures.refuses

pub returns-clause-refuses : goal.returns-clause-refuses
returns-clause-refuses g c =
    let words = map g.S.AsStr.text c.args.words.now in
    let same : subcommand_of kit_command words ≡ None = search rules in
    inr (
      faults_told (app_of c.in_ok-kit.field-0) (λ a. fault_of a words ≡ []) c.in_ok-kit.ensures.0 c.in-Ok.ensures.kinds,
      λ order. (let none = subst IsOrder same order in none.2),
    )

use Rattle.bk_kit.proofs.Terms.{rules, ◌≡◌, ◌∙◌, ap, ap₂, false, app_of, with_rule, app_of_fields, out-Command as fields_of, show_command}
use Rattle.bk_kit.proofs.command_line.show_subcommand.Goals as goal

pub returns : goal.returns
returns c =
    let first = c.in_ok-arg.ensures.shape c.only_option.ensures.local ∙ ap₂ with_rule c.new.ensures.app c.only_option.ensures.rule in
    let second : app_of c.in_ok-arg-2.field-0 ≡ show_command = c.in_ok-arg-2.ensures.shape c.file_argument.ensures.local ∙ ap₂ with_rule first c.file_argument.ensures.rule in
    let globals : (fields_of c.in_ok-arg-2.field-0).has_globals ≡ false = search rules in
    (ap app_of_fields c.about.ensures ∙ ap app_of_fields c.after_help.ensures ∙ second, ap (λ f. f.has_globals) c.about.ensures ∙ ap (λ f. f.has_globals) c.after_help.ensures ∙ globals)

use Rattle.bk_kit.proofs.Terms.{rules, ◌≡◌, ◌∙◌, ap, ap₂, false, app_of, with_rule, app_of_fields, out-Command as fields_of, run_command}
use Rattle.bk_kit.proofs.command_line.run_subcommand.Goals as goal

pub returns : goal.returns
returns c =
    let first = c.in_ok-arg.ensures.shape c.store_option.ensures.local ∙ ap₂ with_rule c.new.ensures.app c.store_option.ensures.rule in
    let second = c.in_ok-arg-2.ensures.shape c.steps_option.ensures.local ∙ ap₂ with_rule first c.steps_option.ensures.rule in
    let third = c.in_ok-arg-3.ensures.shape c.trace_flag.ensures.local ∙ ap₂ with_rule second c.trace_flag.ensures.rule in
    let fourth = c.in_ok-arg-4.ensures.shape c.from_option.ensures.local ∙ ap₂ with_rule third c.from_option.ensures.rule in
    let fifth = c.in_ok-arg-5.ensures.shape c.to_option.ensures.local ∙ ap₂ with_rule fourth c.to_option.ensures.rule in
    let sixth = c.in_ok-arg-6.ensures.shape c.only_name_option.ensures.local ∙ ap₂ with_rule fifth c.only_name_option.ensures.rule in
    let seventh : app_of c.in_ok-arg-7.field-0 ≡ run_command = c.in_ok-arg-7.ensures.shape c.file_argument.ensures.local ∙ ap₂ with_rule sixth c.file_argument.ensures.rule in
    let globals : (fields_of c.in_ok-arg-7.field-0).has_globals ≡ false = search rules in
    (ap app_of_fields c.about.ensures ∙ ap app_of_fields c.after_help.ensures ∙ seventh, ap (λ f. f.has_globals) c.about.ensures ∙ ap (λ f. f.has_globals) c.after_help.ensures ∙ globals)

use Rattle.bk_kit.proofs.Terms.{rules, ◌≡◌, ◌∙◌, ap, ap₂, false, app_of, with_rule, app_of_fields, out-Command as fields_of, interpret_command}
use Rattle.bk_kit.proofs.command_line.interpret_subcommand.Goals as goal

pub returns : goal.returns
returns c =
    let first = c.in_ok-arg.ensures.shape c.store_option.ensures.local ∙ ap₂ with_rule c.new.ensures.app c.store_option.ensures.rule in
    let second = c.in_ok-arg-2.ensures.shape c.steps_option.ensures.local ∙ ap₂ with_rule first c.steps_option.ensures.rule in
    let third = c.in_ok-arg-3.ensures.shape c.sizes_flag.ensures.local ∙ ap₂ with_rule second c.sizes_flag.ensures.rule in
    let fourth = c.in_ok-arg-4.ensures.shape c.trace_flag.ensures.local ∙ ap₂ with_rule third c.trace_flag.ensures.rule in
    let fifth = c.in_ok-arg-5.ensures.shape c.ocode_option.ensures.local ∙ ap₂ with_rule fourth c.ocode_option.ensures.rule in
    let sixth : app_of c.in_ok-arg-6.field-0 ≡ interpret_command = c.in_ok-arg-6.ensures.shape c.file_argument.ensures.local ∙ ap₂ with_rule fifth c.file_argument.ensures.rule in
    let globals : (fields_of c.in_ok-arg-6.field-0).has_globals ≡ false = search rules in
    (ap app_of_fields c.about.ensures ∙ ap app_of_fields c.after_help.ensures ∙ sixth, ap (λ f. f.has_globals) c.about.ensures ∙ ap (λ f. f.has_globals) c.after_help.ensures ∙ globals)

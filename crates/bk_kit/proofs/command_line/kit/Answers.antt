use Rattle.bk_kit.proofs.Terms.{rules, ◌≡◌, ◌∙◌, ap, ap₂, false, App, app_of, with_subcommand, app_of_fields, out-Command as fields_of, with_version, kit_command}
use Rattle.bk_kit.proofs.command_line.kit.Goals as goal

pub returns : goal.returns
returns c =
    let first = c.in_ok-subcommand.ensures.shape c.compile_subcommand.ensures.1 ∙ ap₂ with_subcommand c.new.ensures.app (ap (λ (a : App). a.top) c.compile_subcommand.ensures.0) in
    let second = c.in_ok-subcommand-2.ensures.shape c.generate_subcommand.ensures.1 ∙ ap₂ with_subcommand first (ap (λ (a : App). a.top) c.generate_subcommand.ensures.0) in
    let third = c.in_ok-subcommand-3.ensures.shape c.in_ok-run_subcommand.ensures.1 ∙ ap₂ with_subcommand second (ap (λ (a : App). a.top) c.in_ok-run_subcommand.ensures.0) in
    let fourth = c.in_ok-subcommand-4.ensures.shape c.in_ok-check_subcommand.ensures.1 ∙ ap₂ with_subcommand third (ap (λ (a : App). a.top) c.in_ok-check_subcommand.ensures.0) in
    let fifth = c.in_ok-subcommand-5.ensures.shape c.in_ok-show_subcommand.ensures.1 ∙ ap₂ with_subcommand fourth (ap (λ (a : App). a.top) c.in_ok-show_subcommand.ensures.0) in
    let sixth = c.in_ok-subcommand-6.ensures.shape c.in_ok-interpret_subcommand.ensures.1 ∙ ap₂ with_subcommand fifth (ap (λ (a : App). a.top) c.in_ok-interpret_subcommand.ensures.0) in
    let globals : (fields_of c.in_ok-subcommand-6.field-0).has_globals ≡ false = search rules in
    let named : app_of c.in_ok-bin_name.field-0 ≡ kit_command = ap app_of_fields c.in_ok-bin_name.ensures.0 ∙ ap app_of_fields c.version.ensures ∙ ap with_version sixth in
    let still : (fields_of c.in_ok-bin_name.field-0).has_globals ≡ false = ap (λ f. f.has_globals) c.in_ok-bin_name.ensures.0 ∙ ap (λ f. f.has_globals) c.version.ensures ∙ globals in
    (ap app_of_fields c.about.ensures ∙ ap app_of_fields c.after_help.ensures ∙ named, ap (λ f. f.has_globals) c.about.ensures ∙ ap (λ f. f.has_globals) c.after_help.ensures ∙ still)

-- The names of the layers below that several of these proofs use.
pub use Rattle.std.proofs.Common.{◌≡◌, ◌++◌, map, drop, Bool, List, None, Option, Some, [], ap, append_assoc, arith, cond, eq-eqb, eqb-true, false, inl, inr, int_lt, length, length-append, max, min, negsuc, not, pos, refl, slice_get, subst, suc, sym, true, zero, ℕ, ℤ, ◌%◌, ◌*◌, ◌+◌, ◌-◌, ◌<◌, ◌==◌, ◌^◌, ◌∙◌, ◌∷◌, ◌≤◌, ◌⊎◌, rules}
pub use Rattle.std.proofs.lemmas.Bool.{cases_lt, false≢true, le-ltb, ne_eqb}
pub use Rattle.std.proofs.lemmas.Slice.Eq.{bytes_eq-Decides}
pub use Rattle.std.specs.Int.{w32, cast_unsigned}
pub use Rattle.std.specs.Str.{bytes_eq}
pub use Rattle.bk_base.specs.Word.{signed}
pub use Rattle.bk_ocode.specs.Section.{IsSection}
pub use Rattle.bk_ocode.specs.SectionData.{text_size}
pub use Rattle.bk_ocode.specs.declared.stmt.Dyadic.{Dyadic}
pub use Rattle.bk_ocode.specs.declared.stmt.Monadic.{Monadic}
pub use Rattle.bk_ocode.specs.declared.stmt.Stmt.{Stmt}
pub use Rattle.bk_ocode.specs.declared.stmt.Stmt.TheVariants.{Address, Label, DataNumber, Stack, Store, CallFunction}
pub use Rattle.bk_ocode.specs.declared.stmt.Variable.{Variable}
pub use Rattle.bk_ocode.specs.declared.stmt.Variable.TheVariants.{Global, Static, Local}
pub use Rattle.bk_scope.proofs.Lemmas.{cases_differ, constant_right, section_sound, section_clean, first_clean, second_clean}
pub use Rattle.bk_scope.specs.Laws.{Clean}
pub use Rattle.bk_scope.specs.declared.bound.Bound.{Bound}
pub use Rattle.bk_tree.specs.Limits.{Within, nodes_of_declarations}
pub use Rattle.bk_tree.specs.Parts.{at_expression, size}
pub use Rattle.bk_tree.specs.Tree.{expressions_in, commands_in, declarations_in, definitions_in, starts_in, items_in}
pub use Rattle.bk_tree.specs.declared.tree.Operator.{Operator}
pub use Rattle.bk_tree.specs.declared.tree.Prefix.{Prefix}
pub use Rattle.bk_tree.specs.declared.tree.Simple.{Simple}
pub use Rattle.bk_tree.specs.declared.tree.Sort.{Sort}
pub use Rattle.bk_trans.specs.Alike.{word, variable_in_words, case_in_words, entry_in_words, stmt_in_words, in_words, target_in_words}
pub use Rattle.bk_trans.specs.Depths.{after_definition, count, after_starts, after_definitions, after_declaration, after_declarations, has_variables}
pub use Rattle.bk_trans.specs.Filling.{constants_of, program_of, Supply, meaning, constant, step_of, dropped, Filled, filled}
pub use Rattle.bk_trans.specs.Fitting.{CasesFit, EntriesFit, AllFit, Fits}
pub use Rattle.bk_trans.specs.Labels.{labels, labels_if, labels_in, labels_through, labels_of_procedure, labels_of_definition, labels_of_definitions, labels_each, labels_at, labels_onto, labels_of_declaration, labels_of_declarations, labels_of_starts}
pub use Rattle.bk_trans.specs.Laws.{FillingNames, AreWords, LabelsAreFew, SchemeIsAccepted, StatementsAreFew, WordsAreFew, LabelsAreSetOnce}
pub use Rattle.bk_trans.specs.Naming.{meant, statics_named, term_named, condition_named, command_named, commands_named, definition_named, definitions_named, worth, terms_named, lvalue_named, lvalues_named, declarations_named, declaration_named, starts_named, words_named, step_named, named_tree}
pub use Rattle.bk_trans.specs.Parts.{Part, label_place, target_of, target_of_word, parts_of_items, parts, parts_if, parts_in, parts_through, parts_of_definition, parts_of_definitions, parts_each, parts_at, parts_onto, parts_from, parts_of_declarations, parts_of_declaration, parts_of_starts, procedure, target_of_label, static_table, static_item}
pub use Rattle.bk_trans.specs.Program.{NamedCommand, NamedCommands, label, case_of, default, when, test, while, block, repeat, repeat_while, no_named_commands, also, no_declarations, Term, Terms, Condition, Lvalue, Lvalues, Declaration, Declarations, Definition, Definitions, Starts, named, truth, parens, unary, address, binary, choice, apply, valof, none, more, holds, within, fails, both, either, contents, subscript, byte, inside, no_lvalues, onto, assign, call, for_loop, switch, result, simple, statics, lets, declare, routine, function, variables, no_definitions, define, no_starts, value, vector, StaticItem}
pub use Rattle.bk_trans.specs.Scheme.{goal, goal_of, variable, push, prefix_code, infix_code, truth_value, go, test_of_step, cases, cases_through, first_of, default_in, default_through, label_or, by_turns, value_code, each_code, jump_code, address_code, store_code, value_codes, store_codes, command_code, through_code, declarations_code, declaration_code, definitions_code, definition_code, starts_code, valued, looping, switching, scheme, outermost, procedure_code, word_code, data_code, entries_of, goal_in, entry_of, section_code}
pub use Rattle.bk_trans.specs.Writing.{Apart, Choices, Writing, Stored, Reached, reached, after, settled_word, settled, word_of, push_of, goto_code, puts_drafts, puts, with_code, with_choices, no_choices, takes_labels, written, each_written, address_written, store_written, stores_written, values_written, act_written, each_act_written, declared, one_declared, defined, one_defined, started, any_variables, steps_on, goes_on, begins_procedure, puts_items, place_of, starting, section_written, AreWritten, puts_all, past_step, before_body, ends_for, aimed, acted_apart, each_acted_apart, past_items}
pub use Rattle.bk_trans.specs.declared.aim.Aim.{Aim}
pub use Rattle.bk_trans.specs.declared.around.Around.{Around}
pub use Rattle.bk_trans.specs.declared.around.Goal.{Goal}
pub use Rattle.bk_trans.specs.declared.around.Target.{Target}
pub use Rattle.bk_trans.specs.declared.unresolved.Unresolved.{Unresolved}
pub use Rattle.bk_trans.specs.declared.unresolved.Unresolved.TheVariants.{Ready}

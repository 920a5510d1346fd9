-- What the proofs cite of the crates below: numbers and lists, the tree, scopes, OCODE, the scheme, and the meaning.
pub use Rattle.std.proofs.Common.{Bool, List, None, Option, Some, [], ap, append-nil, append_assoc, ap₂, arith, bit_xor, cond, drop, eq-eqb, eqb-true, false, fold, if◌then◌else◌, inl, inr, int_div, int_lt, int_rem, le-ltb, length, length-append, ltb, ltb-false, map, max, nat_abs, nat_le, nat_lt, ne_eqb, neg_ℤ, negsuc, not, pos, refl, replicate, slice_get, subst, suc, sym, take, true, zero, ℕ, ℤ, ⊎_elim, ◌%◌, ◌*◌, ◌++◌, ◌+◌, ◌-◌, ◌/◌, ◌<◌, ◌==◌, ◌^◌, ◌||◌, ◌∙◌, ◌∷◌, ◌≡◌, ◌≢◌, ◌≤◌, ◌⊎◌}
pub use Rattle.std.proofs.lemmas.Bool.{and_from, and_right, false≢true, le-leb, leb-true, lt-leb, lt-ltb, ltb-true, or_parts}
pub use Rattle.std.proofs.lemmas.Bool.Decides.{nat_tests}
pub use Rattle.std.proofs.lemmas.Int.{ints, of_z-to_z}
pub use Rattle.std.proofs.lemmas.List.{length-map, length-replicate, length-set, map-append}
pub use Rattle.std.proofs.lemmas.Option.{cond_some, slice_get_within}
pub use Rattle.std.proofs.lemmas.Slice.Eq.{bytes_eq-Decides}
pub use Rattle.std.specs.Option.{option_map, option_map_or}
pub use Rattle.std.specs.Prelude.{int_le, is_some, option_and_then, slice_set, unwrap_or}
pub use Rattle.std.specs.Str.{bytes_eq}
pub use Rattle.bk_base.specs.Strings.{first_bytes}
pub use Rattle.bk_base.specs.Word.{byte_distance, byte_place, signed, truth, word_at_least, word_at_most, word_byte, word_difference, word_greater, word_less, word_negation, word_not, word_of, word_quotient, word_remainder, word_sum, word_with_byte}
pub use Rattle.bk_base.specs.declared.limit.TheConstants.{FRAME_WORDS, GLOBAL_NUMBER, VEC_NUMBER}
pub use Rattle.bk_base.specs.declared.run_end.End.TheVariants.{DivideByZero, Status}
pub use Rattle.bk_tree.specs.Parts.{at_expression, size, at_command}
pub use Rattle.bk_tree.specs.Tree.{Command, Commands, Declaration, Declarations, Definition, Definitions, Expression, Expressions, Items, Mention, Starts}
pub use Rattle.bk_simulation.proofs.Terms.{Operator, Sort, Bound, Destination, Truth, Environment, Named, Sense, following, bind_each, bind_procedure_as, bind_procedures, cell, constant, constant_in, constants_declared, count, foreign, global_named, globals_object, label, labelled, letters, manifests, objects, objects_of_command, objects_of_commands, objects_of_declaration, objects_of_declarations, objects_of_definitions, objects_of_each, objects_of_starts, past, past_command, past_definition, past_each, sense_in, sense_of, sense_of_constant, sense_of_global, statics, within_let, word_named, address_in, combined, judged, result_exit, result_of, truth_of, value_of, Body, Lasting, Procedure, all_declared, code, command, constant_words, declared, entry_cells, expression, first_memory, global_cells, global_vector, in_scope, library_cells, object_of, objects_from, of_command, of_commands, of_declaration, of_declarations, of_definitions, of_each, of_expression, of_items, of_sections, of_starts, procedure_in, procedure_of, procedures_set, program_of, set_global, static_words, text_words, variables_hidden, words, difference, equal, equals_zero, lies_within, on_numbers, operate, operate_prefix, ordered, sum, truth_number, truth_of_value, Meanings, acts_at, nowhere, address_named, at, fetch, named, store, Going, Run, Undefined, first_world, meaning, means, means_with, no_turn_for, no_turns, run_of, started, turn_for, Simple, Prefix, Start, bind_variables, declare, declare_all, let_values, make_vec, paired, vec_cells}
pub use Rattle.bk_scope.specs.Constants.{constant_word, divides_by_zero, infix_word, named_word, prefix_word}
pub use Rattle.bk_scope.specs.Entering.{labels_of, labels_of_each, with_formals}
pub use Rattle.bk_scope.specs.Names.{parenthesised, place_after, variables_of, within, words_of_start, words_of_vector, place_of_second, role_of_operands}
pub use Rattle.bk_scope.specs.Places.{deeper}
pub use Rattle.bk_scope.specs.Scope.{Binding, bind, bind_all, bound_in, is_global}
pub use Rattle.bk_scope.specs.Scoping.{globals_in_scope, labels_in_scope, manifests_in_scope, place_after_all, place_after_defined, place_after_one, procedure_in_scope, procedures_in_scope, scope_after, scope_after_one, statics_in_scope, variables_in_scope}
pub use Rattle.bk_scope.specs.Sound.{Callable, GlobalsSound, GoesTo, HasWord, HasWordUpTo, HaveWords, ManifestsSound, Sound, SoundDeclared, SoundDefined, SoundDestinations, SoundDone, SoundDoneEach, SoundEach, SoundOneDeclared, SoundStarted, StaticsSound}
pub use Rattle.bk_scope.specs.Spots.{Spot, beginning, after_declared, after_one_declared, procedures_in}
pub use Rattle.bk_scope.specs.declared.place.Enclosing.{Enclosing}
pub use Rattle.bk_scope.specs.declared.role.Role.{Role}
pub use Rattle.bk_ocode.proofs.Lemmas.{chosen-false, chosen-true, if-holds, on_number-holds, on_some-holds, settle-kept, label_has_one_place, not_before, depth_within, label_rest-at, steps_grow}
pub use Rattle.bk_ocode.specs.Access.{byte_at, bytes_from, number_in, string_at, variable_at, variable_in, word_with_byte_at}
pub use Rattle.bk_ocode.specs.Cells.{Cell, Content, Free, Held, Link, Partly, Temporary, Unset, Variable, Word, below, byte_in, content_of, four_bytes, kind_of, settle, with_byte, write}
pub use Rattle.bk_ocode.specs.Depth.{depth_after, next_depth}
pub use Rattle.bk_ocode.specs.Frames.{HasFrames, called, start}
pub use Rattle.bk_ocode.specs.Lists.{joined}
pub use Rattle.bk_ocode.specs.OcodeRun.{Program, Rest, find_rest, in_hand, kept, label_rest, or_rest, program_step, program_step_from, rest_of, rests, rests_of, resumed, resumed_by, resumed_in, run, then_run}
pub use Rattle.bk_ocode.specs.OcodeState.{At, Following, Callables, Control, Ends, Getbyte, Goes, Inside, Newline, Next, Placed, Placement, Putbyte, Rdch, Routine, State, Stop, Wild, Wrch, Writed, Writef, Writen, Writes, global_place}
pub use Rattle.bk_ocode.specs.OcodeStep.{can_be_called, case_label, dyadic_word, from_label, has_word, jump, jump_with, named_place, on, on_number, on_some, operated, quotient, routine_step, slot, step, step_by, step_from, step_in, tells}
pub use Rattle.bk_ocode.specs.ProgramStart.{all_data, all_globals, first_cells, first_state, unset_cells, with_global}
pub use Rattle.bk_ocode.specs.Section.{AreFaultless}
pub use Rattle.bk_ocode.specs.SectionData.{Datum, GlobalSetting, data_of, datum_of, datum_word, entry_setting, globals_of, is_in, item_words, stmt_globals}
pub use Rattle.bk_ocode.specs.WellPlaced.{IsWellPlaced}
pub use Rattle.bk_ocode.specs.declared.stmt.Case.{Case}
pub use Rattle.bk_ocode.specs.declared.stmt.GlobalEntry.{GlobalEntry}
pub use Rattle.bk_ocode.specs.declared.stmt.Stmt.{Stmt}
pub use Rattle.bk_ocode.specs.declared.stmt.Stmt.TheVariants.{Address, Assign, AssignAt, AssignByte, CallFunction, CallRoutine, DataAddress, DataLabel, DataNumber, Dyadic, EndProcedure, Entry, False, Finish, GiveResult, Globals, Jump, JumpIf, Label, Load, LoadByte, Monadic, Number, Query, Return, ReturnItem, Save, Stack, Store, Switch, TakeResult, Text, True}
pub use Rattle.bk_ocode.specs.declared.stmt.Variable.TheVariants.{Global, Local, Static}
pub use Rattle.bk_trans.proofs.Lemmas.{scheme_is_accepted, targets_found, AllFound, AmongProcedures, Looked, look_procedure, same_defined}
pub use Rattle.bk_trans.specs.Depths.{after_declaration, after_declarations, after_definition, after_definitions, after_starts, has_variables}
pub use Rattle.bk_trans.specs.Labels.{labels, labels_at, labels_if, labels_in, labels_of_declaration, labels_of_declarations, labels_of_definition, labels_of_procedure, labels_onto}
pub use Rattle.bk_trans.specs.Naming.{command_named, commands_named, condition_named, declaration_named, declarations_named, definition_named, definitions_named, lvalue_named, lvalues_named, meant, named_tree, starts_named, statics_named, step_named, term_named, terms_named, words_named, worth}
pub use Rattle.bk_trans.specs.Parts.{Part, label_place, parts, parts_at, parts_each, parts_from, parts_if, parts_in, parts_of_declaration, parts_of_declarations, parts_of_definition, parts_of_definitions, parts_of_items, parts_of_starts, parts_onto, parts_through, static_item, static_table, target_of, target_of_label, target_of_word}
pub use Rattle.bk_trans.specs.Program.{NamedCommand, NamedCommands}
pub use Rattle.bk_trans.specs.Scheme.{address_code, by_turns, cases, cases_through, command_code, data_code, declaration_code, declarations_code, default_in, default_through, definitions_code, each_code, entries_of, entry_of, first_of, go, goal, goal_in, goal_of, infix_code, jump_code, label_or, looping, outermost, procedure_code, push, scheme, section_code, starts_code, store_code, store_codes, switching, test_of_step, through_code, truth_value, value_code, value_codes, valued, variable, word_code}
pub use Rattle.bk_trans.specs.declared.around.Around.{Around}
pub use Rattle.bk_trans.specs.declared.around.Goal.{Goal}
pub use Rattle.bk_trans.specs.declared.around.Target.{Target}
pub use Rattle.bk_meaning.proofs.Lemmas.{all_declared-next, declared-next, Adds, adds, calling_on, changes_after, closing_after, each_way_after, earlier, either_after, given_after, stays, turn_after, vec_on, with_after, cut_only_without_turns, library_ties, only_grows, ties_add}
pub use Rattle.bk_meaning.specs.Calls.{applied, bind_formals, call, enter, formal_cells, return_exit, returned, run_body, values}
pub use Rattle.bk_meaning.specs.Commands.{act_of, assigned, case_exit, choose_case, ended_case}
pub use Rattle.bk_meaning.specs.Growing.{After, Grows, Throughout, history}
pub use Rattle.bk_meaning.specs.Loops.{again, for_loop, for_rounds_of, for_step, for_test, relation, round_exit, rounds_of, same_truth, step_of, where_truth}
pub use Rattle.bk_meaning.specs.Memory.{Memory, Object, cell_at, cell_of_byte, cells_at, cells_of, dead_from, lives, living, made, read, read_byte, replaced, with_cell, write_byte}
pub use Rattle.bk_meaning.specs.Scopes.{alone, in_order, landing, scope_of}
pub use Rattle.bk_meaning.specs.Seeking.{Mode, Sought, at_place, forwards, is_label, same_place, seeking, has_place, one_has_place, the_case, the_default, the_label}
pub use Rattle.bk_meaning.specs.Values.{Cell as Cell_of, Value, address, filled, getbyte, holds, newline, number, places, procedure, putbyte, rdch, routine, set_among, stop, unset, value_in, wrch, writed, writef, writen, writes}
pub use Rattle.bk_meaning.specs.World.{Done, Exit, Outcome, World, break, calling, calls_back, changes, closing, divide_by_zero, done, each_way, either, endcase, ends, forgetting, given, gives, going, goto, leaves, loop, making, making_vec, remembering, result, return, status, turn, turn_of, undefined, with, writing}
pub use Rattle.bk_ocode.specs.declared.stmt.Monadic.TheVariants.{Contents, Negate, Not}
pub use Rattle.bk_base.specs.Decimal.{spelling}
pub use Rattle.bk_base.specs.Format.{FormatPart, aligned}
pub use Rattle.bk_ocode.specs.Telling.{format_bytes, in_front}
pub use Rattle.bk_meaning.specs.Library.{library, takes_byte, writes_text, string_cause, written_cause, format_cause}
pub use Rattle.bk_simulation.specs.Regular.{DeclareNoVariables, DefineNoVariables, Regular, RegularCommand, RegularCommands, RegularDeclaration, RegularDeclarations, RegularDefinitions, RegularEach, RegularItems, RegularStarts, starts}
pub use Rattle.bk_simulation.specs.Placement.{AreAccepted, IsAccepted, Represent}
pub use Rattle.bk_ocode.specs.Library.{library_globals, library_routine}
pub use Rattle.bk_ocode.specs.StmtRange.{InRange}
pub use Rattle.bk_scope.specs.Faults.{addressed}
pub use Rattle.std.proofs.lemmas.Nat.{and_le_l, mod_below, or_lt, xor_lt}
pub use Rattle.std.proofs.Math.Nat.{div-le_self, mod-le}
pub use Rattle.bk_simulation.specs.Simulation.{Begin, ComesWithin, Does, DoesEnd, DoesFrom, EndsWithin, IsCallAt, IsTooHigh, IsWithoutEnd, RunsOut, RunsOutOnTheWay, StartsSo, StartsWithTheirSource, StepsDoWhatSourcesMean, StepsGoOnWithTheirSource, StillGoes, end_of, with_start, without_start}
pub use Rattle.bk_simulation.specs.GoingOn.{settled, settled_from}
pub use Rattle.bk_base.specs.WordLaws.{word_byte-packed_0, word_byte-packed_1, word_byte-packed_2, word_byte-packed_3, word_byte-small}
pub use Rattle.bk_base.specs.declared.run_end.End.{End}
pub use Rattle.bk_scope.proofs.Lemmas.{section_sound}
pub use Rattle.bk_ocode.specs.Context.{Context, after, after_all, at_start, context_of}
pub use Rattle.bk_ocode.specs.Faults.{depths_disagree, label_not_set, label_set_twice, misplaced, slot_above, stmt_fault, too_long}
pub use Rattle.bk_ocode.specs.Places.{may_stand, position_after, role}
pub use Rattle.std.specs.Int.{w32}
pub use Rattle.bk_meaning.specs.Causes.{Cause, cell_cause, byte_cause, no_place, argument, set_byte_cause, of_arguments, no_constant, no_number}
pub use Rattle.bk_meaning.specs.Operators.{sum_cause, truth_cause}

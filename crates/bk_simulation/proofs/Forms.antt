-- What the proofs of declarations, sections and programs cite of the files below them: those of `Pieces.antt`, and the forms.
pub use Rattle.bk_simulation.proofs.Pieces.{Account, Agree, AgreeWords, Aim, AreActs, AreAt, AreDeclared, AreDefined, AreFrom, AreStarts, AreStores, AreValues, BaseOf, ByTurns, CallAt, Codes, Comes, CompletedAt, Configuration, Destined, Did, Each, Entered, EnteredAny, EnteredBody, Exits, FallsThose, FewFrames, Grown, Has, HasAddress, HasTruth, IsAct, IsAddress, IsAlone, IsCode, IsJump, IsLabelHere, IsLoop, IsOneDeclared, IsScope, IsStore, IsValue, IsWord, KeepsLabels, LabelAt, LeadsTo, Like, Moves, NameAt, NamedIn, OpenCompleted, OpenExited, Out, Ran, RanDid, RanValue, Reaches, Ready, Renames, RenamesVariables, SameGlobal, Scene, Setting, Simulates, Since, Spot, Store, Stretch, accounted, agree_bound, all_at, all_both, begun, below_at, below_like, bound_named, by_option, by_test, byte, choice_run, closed_ran, closes, combined_run, comes_run, completed_more, contents_run, count, defines_variables, denied_run, does, each_at, each_back, each_both, each_front, each_itself, ending, for_act, for_counts, for_rounds, for_scope, for_truth, for_two, for_value, get_first, global_of, go_on, goes_on_so, here, in_light, in_loop, in_switch, in_valof, inverts, jumps, label_stands, label_stands_one, labels_named, like_on, name_runs, named_grown, negates, not_true, number_runs, of_light, one_base, one_more, one_run, open_configuration, open_on, open_ready, open_step, order_adds, order_run, over_run, own_cell, owning, place_of, plus_run, pushes, query_runs, ran_first, ran_more, ran_open, same_global, same_number, settle_at, settle_like, sign_run, since_cells, since_refl, some_objects, spots_of, start, state, stay, store, store_at, straight_run, table_runs, tested, text_runs, through, through_light, truth_runs, turn_behind, turns_among, turns_declared, turns_defined, turns_in, turns_of, turns_one_declared, turns_started, turns_through, two_run, variables_bound, went, with_names, with_ran, word}
pub use Rattle.bk_simulation.proofs.Assignments.{RanAddress, RanStore, address_runs, assigned_run, byte_store, contents_address, contents_store, subscript_address, subscript_store, word_runs}
pub use Rattle.bk_simulation.proofs.Branches.{left_here, finish_runs, place_run, resultis_runs, test_run, test_sought, when_run, when_sought}
pub use Rattle.bk_simulation.proofs.Calls.{AloneRuns, AnyExit, IsBody, IsProcedure, Procedures}
pub use Rattle.bk_simulation.proofs.Lets.{AreVariables, Lets, RisingSpots, SpotsAt, bind_run, defined_rise, let_run, let_values_after, no_spots, open_lift, spots_carried}
pub use Rattle.bk_simulation.proofs.LibraryCalls.{named_there}
pub use Rattle.bk_simulation.proofs.Loops.{landing_adds, repeat_rounds, repeat_run, repeat_while_rounds, repeat_while_run, scope_runs, switch_run, switch_sought, valof_run, while_rounds, while_run, while_sought}
pub use Rattle.bk_simulation.proofs.StartRuns.{Over}
pub use Rattle.bk_simulation.proofs.Applied.{AloneAdds, KnowsLibrary, apply_runs}
pub use Rattle.bk_simulation.proofs.ForLoops.{for_rounds_run, for_run, rounds_adds}
pub use Rattle.bk_simulation.proofs.ProgramEnds.{HasStart, NoStart, called_at, calls_of, does_from, enter_after, entered_so, fell_out, some_calls}
pub use Rattle.bk_simulation.proofs.LastingFits.{HasEntry, HoldsEntry, HoldsLasting, HoldsOne, InData, IsSized, first_store, in_datum, library_word, setting_of, settings, start_there}
pub use Rattle.bk_simulation.proofs.SectionGlobals.{SetSame, all_set_same}
pub use Rattle.bk_simulation.proofs.Standing.{AreBelow, AreSet, Bases, DataIn, Follow, FollowWords, FoundParts, Home, Lies, Mean, IsNumbered, Suits, at_depth, base_both, bases_of, bases_paid, bases_so, bases_some, bases_under, bases_within, both_bases, call_at, data_at, data_below, data_both, data_is, data_of_parts, data_with, data_within, first_of, found_back, found_front, home, label_at, label_found, lie, lies_after, lies_behind, lies_so, lies_within, new_base, no_bases, passed, then_bases, there_in, three_bases, with_base, within_at, written, HeldList, HeldOne, HeldWord}
pub use Rattle.bk_simulation.proofs.LaidExpressions.{Around, HasWords, InNames, around_deeper, call_lies, coded, constants_agree, infix_on, joined_choice, joined_three, joined_two, known, known_agree, leaf_lies, leaf_on, level, names_of, own_parts, plain_laid, pushed_depth, role, stands_agree, truth_depth}
pub use Rattle.bk_simulation.proofs.Constants.{constant_small, words_bound, words_constant, words_globals, words_manifests, words_procedures, words_statics}
pub use Rattle.bk_simulation.proofs.Words.{word_negation, word_not, ◌≡◌, ℕ, suc, ◌+◌, ◌-◌, ◌*◌, ◌≤◌, Bool, true, false, List, ◌∷◌, ◌++◌, Some, refl, sym, ◌∙◌, subst, arith, zero, State, from_label, Stmt, Monadic, JumpIf, Stack, CallRoutine, FRAME_WORDS, infix_code, Operator, Expression, Expressions, Command, Commands, option_map, infix_word, divides_by_zero, Value, number, sum, on_numbers, operate_prefix, Environment, constant_in, past, past_each, labelled, Sought, the_label, the_case, the_default, Mode, forwards, seeking, World, ends, divide_by_zero, done, given, with, turn, Exit, going, history, After, Throughout, Meanings, at, fetch, in_order, scope_of, landing, alone, value_of, truth_of, address_in, combined, judged, assigned, act_of, applied, rounds_of, means_with, turn_for, means, no_turns, no_turn_for, Adds, adds, stays, given_after, with_after, each_way_after, either_after, Prefix, only_grows, goto, break, loop, endcase, return, acts_at, no_number, sum_cause, at_command, ◌<◌, ◌^◌, ap, ⊎_elim, Declarations, number_in, Program, first_state, procedure, stop, program_of, meaning, IsWellPlaced, library_routine, DoesFrom, StartsSo, with_start, without_start, length-append, [], length, slice_get, Placed, objects_of_declarations, of_declarations, of_sections, words, AreAccepted, Represent, ltb-false, nat_lt, Option, None, ◌⊎◌, inl, inr, Goes, run, Outcome, gives, calling, Procedure, procedure_of, enter, Going, Undefined, started, run_of, first_world, ltb-true, cut_only_without_turns, settled, Begin, RunsOut, StillGoes, RunsOutOnTheWay, IsWithoutEnd, StepsDoWhatSourcesMean, StepsGoOnWithTheirSource, StartsWithTheirSource, returned, nowhere, no_place, cond, ap₂, drop, bytes_eq-Decides, Mention, Bound, Binding, bound_in, bind, with_formals, Callable, next_depth, depth_after, item_words, Entry, Save, EndProcedure, DataLabel, DataAddress, Target, meant, variable, outermost, procedure_code, word_code, Named, Sense, cell, foreign, bind_each, sense_in, global_named, letters, Body, command, expression, Lasting, code, of_command, of_expression, in_scope, bind_formals, Part, data_code, entries_of, entry_of, entry_setting, joined, map, map-append, eq-eqb, Datum, is_in, all_data, data_of, global_vector, unwrap_or, signed, constant_word, HaveWords, Placement, datum_of, DataNumber, worth, words_named, constant_words, ◌==◌, eqb-true, option_map_or, RegularEach, append_assoc, AreFaultless, scheme_is_accepted, procedure_in}

-- What the proofs of single forms cite of the files below them: those of `Situations.antt`, runs put together, and operators.
pub use Rattle.bk_simulation.proofs.Situations.{Account, Agree, AgreeWords, Aim, Alive, All, AllBytes, AreActs, AreAt, AreBytes, AreDeclared, AreDefined, AreFrom, AreStarts, AreStores, AreValues, BaseOf, ByTurns, CallAt, Codes, Comes, Completed, CompletedAt, Configuration, Each, Entered, EnteredAny, EnteredBody, Exits, Falls, FallsThose, Fell, FewFrames, Fits, GoesTo, Grown, Handed, Has, HasBytes, IsAct, IsAddress, IsAlone, IsCell, IsCode, IsForLoop, IsFree, IsJump, IsLabelHere, IsLoop, IsOneDeclared, IsScope, IsScopeAt, IsStore, IsValue, IsWord, KeepsLabels, LabelAt, Leads, LeadsTo, Like, LinksFrom, Moved, Moves, NameAt, NamedIn, OpenCompleted, Out, PlaceOf, Ran, Reaches, Ready, Renames, RenamesVariables, SameGlobal, Scene, Setting, Since, Spot, Applies, StandsCell, Stopped, Store, Stretch, Went, agree_bound, alive_is, all_at, all_both, assign_at_moves, assign_byte_moves, assign_moves, at_routine, behind_body, below_at, below_like, by_option, by_test, by_truth, call_settled, call_step, call_stmt, called_argument, called_back, called_cells, called_frame, called_like, called_links, cell_in, closed_fits, closed_moved, comes_on, count, defines_variables, does, each_at, each_back, each_both, each_front, each_itself, each_way_ran, either_way, ending, entering, entry_settled, falls_on, finish_step, fits_above, fits_less, fits_more, formal_is, formals_long, frames_called, further, get_at, get_first, get_new, get_replicate, get_set, global_of, go_on, goal_named, grown_made, here, in_light, in_loop, in_switch, in_valof, inverts, jump_moves, jumps, label_stands, label_stands_one, like_on, like_refl, limit, links_kept, links_settled, links_through, lying, make, make_fits, make_fits_in, moved_above, moved_on, moved_refl, moves_bytes, named_again, named_grown, named_word, negates, next, not_true, object_there, of_light, one, one_base, one_more, operates, own_cell, owning, paying, place_of, pushes, put, ran_from, ran_same, read_byte_at, read_here, ready_in, ready_next, return_goes, return_item_step, return_step, returning, same_global, same_stands, saved_cells, saved_formal, saved_like, saved_links, saved_same, settle_at, settle_like, settled_step, since_cells, since_made, since_moved, since_on, since_refl, so, some_is, some_objects, spots_of, stands_by, stands_grown, start, state, still, store, store_at, sum_applied, switch_moves, there, through_light, turn_behind, turns_among, turns_declared, turns_defined, turns_in, turns_of, turns_one_declared, turns_started, turns_through, untouched, variable_found, variables_bound, went, with_names, with_ran, word_number, write_at, write_byte_at, write_here}
pub use Rattle.bk_simulation.proofs.Compose.{OpenExited, above, accounted, begun, following, closed_ran, comes_to, completed_more, completed_on, completed_paid, completed_step, completed_turn, links_below, links_like, open_configuration, open_on, open_ready, open_step, open_ticked, open_wider, out_more, outside, ran_first, ran_more, ran_on, ran_open, roomy, stay, stepped, topped, turn_there, with_cells, with_objects}
pub use Rattle.bk_simulation.proofs.NamesBound.{around_named, bound_named, labels_named, not_owned}
pub use Rattle.bk_simulation.proofs.ProgramRuns.{RunSo, comes_run, goes_on_so, run_after}
pub use Rattle.bk_simulation.proofs.Simulates.{Destined, Did, HasAddress, HasTruth, Limit, RanDid, Simulates, byte, for_act, for_counts, for_rounds, for_scope, for_truth, for_value, for_values, through, turns_in_round, where_to, word}
pub use Rattle.bk_simulation.proofs.ControlSteps.{caught_at, closes, jump_on, jumped_on, label_on, landed_on, result_on, taken_on, tested}
pub use Rattle.bk_simulation.proofs.Orders.{or_second, order_adds, order_run, ready_at}
pub use Rattle.bk_simulation.proofs.Operators.{RanValue, Two, choice_run, combined_run, contents_run, denied_run, dyadic_run, dyadic_topped, for_two, name_runs, named_at, number_runs, one_run, over_run, plus_run, pushes_item, query_runs, same_number, sign_run, straight_run, table_runs, text_runs, truth_runs, two_run, value_run}
pub use Rattle.bk_simulation.proofs.Words.{◌≡◌, ℕ, ◌+◌, ◌≤◌, Bool, true, false, List, refl, sym, ◌∙◌, subst, arith, ◌-◌, ◌*◌, ◌∷◌, Some, bound_in, State, Stmt, meant, goal_in, Commands, Command, Environment, labelled, Sought, the_label, Mode, seeking, one_has_place, forwards, World, Exit, goto, leaves, either, break, result, return, history, Meanings, landing, scope_of, alone, Adds, adds, stays, either_after, Unset, option_map_or, Label, TakeResult, Around, Value, result_exit, result_of, cond, suc, Jump, goal, Expression, past, past_command, has_place, loop, Outcome, Done, done, turn, round_exit, again, same_truth, where_truth, rounds_of, with_after, turn_after, each_way_after, None, ap, below, from_label, case_label, Case, Switch, number, the_case, the_default, is_label, endcase, with, case_exit, ended_case, choose_case, labels_of_each, acts_at, length, Option, slice_get, ◌<◌, ◌^◌, ◌≢◌, zero, Expressions, Content, Word, content_of, Temporary, Link, Cell, Held, write, Inside, Goes, At, in_hand, program_step, ReturnItem, Return, Entry, Save, unset, gives, each_way, closing, forgetting, calls_back, Body, command, expression, Procedure, procedure_of, After, Throughout, return_exit, run_body, bind_formals, values, FRAME_WORDS, max, nat_lt, [], ◌++◌, ⊎_elim, inl, inr, append-nil, slice_get_within, Placed, Callables, slot, can_be_called, procedure, holds, making, calling, formal_cells, enter, closing_after, ltb-false, ltb-true, IsCallAt, drop, Cell_of, ◌⊎◌, Ends, global_place, run, HasFrames, address, ends, undefined, going, status, Run, Going, Undefined, run_of, first_world, started, means, option_map, number_in, first_cells, first_state, read, globals_object, first_memory, call, End, settled, end_of, IsTooHigh, EndsWithin, ComesWithin, RunsOut, DoesEnd, Does, DoesFrom, returned, nowhere, length-append, Datum, is_in, datum_of, data_of, take, next_depth, depth_after, AreFaultless, Program, IsWellPlaced, label_has_one_place, Binding, Target, outermost, Named, Lasting, Part, target_of, procedure_code, data_code, AllFound, entries_of, joined, entry_setting, map, map-append, ap₂, append_assoc, item_words, global_vector, words, code, ◌==◌, depth_within, length-replicate, ◌%◌, Definitions, Starts, making_vec, past_definition, letters, cell, constant_in, vec_on, Variable, settle, living, made, Local, Stack, Address, Start, paired, let_values, bind_variables, vec_cells, make_vec, if◌then◌else◌, option_and_then, Status, signed, word_sum, byte_distance, variable_in, variable_at, byte_at, word_with_byte_at, string_at, bytes_from, on_number, on_some, tells, routine_step, step, routine, read_byte, write_byte, given, changes, writing, remembering, spelling, aligned, FormatPart, format_bytes, in_front, library, writes_text, takes_byte, eqb-true, argument, byte_cause, set_byte_cause, of_arguments, string_cause, written_cause, format_cause, not, ◌||◌, pos, GiveResult, Finish, same_place, at_place, nat_le, fold, replicate, eq-eqb, slice_set, length-map, GLOBAL_NUMBER, Free, Placement, datum_word, GlobalSetting, stmt_globals, globals_of, all_data, all_globals, unset_cells, with_global, chosen-true, chosen-false, places, value_in, stop, rdch, wrch, newline, writes, writen, writed, getbyte, putbyte, writef, Object, cells_at, library_cells, set_global, procedures_set, global_cells, entry_cells, object_of, objects_from, GlobalEntry, Globals, and_from, and_right, le-leb, length-set, lt-leb, lt-ltb, library_globals, InRange, Declarations, Number, named_tree, parts_of_declarations, scheme, objects_of_declarations, of_declarations, of_sections, Context, at_start, after, after_all, context_of, misplaced, label_not_set, label_set_twice, depths_disagree, slot_above, too_long, stmt_fault, role, may_stand, position_after, Represent, applied, ties_add, library_ties, earlier, calling_on}
pub use Rattle.bk_simulation.proofs.WrittenCells.{written}

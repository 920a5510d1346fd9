-- What the proofs of runs cite of the files below them: stores, frames, places of code, and the situations of a run.
pub use Rattle.bk_simulation.proofs.Lists.{All, Each, all_at, all_both, by_option, by_test, by_truth, each_at, each_back, each_both, each_front, each_itself, either_way, not_true, one_more}
pub use Rattle.bk_simulation.proofs.Moves.{IsRest, Moves, assign_at_moves, assign_byte_moves, assign_moves, at_routine, call_settled, call_step, call_stmt, contents_moves, does, dyadic_ends, dyadic_moves, entering, entry_settled, finish_step, give_result_moves, going, jump_moves, label_moves, load_byte_moves, one_off, passed_moves, pushed, return_goes, return_item_step, return_step, returning, settled, settled_step, switch_moves, taken_moves}
pub use Rattle.bk_simulation.proofs.Sought.{label_stands, label_stands_one, same_stands, same_stands_one, stands_by, with_names}
pub use Rattle.bk_simulation.proofs.Weights.{in_light, of_light, through_light, turns_among, turns_declared, turns_defined, turns_in, turns_of, turns_one_declared, turns_started, turns_through}
pub use Rattle.bk_simulation.proofs.FramesKept.{LinksFrom, frames_called, links_kept, links_settled, links_through}
pub use Rattle.bk_simulation.proofs.Memory.{Alive, BaseOf, Codes, Fits, Grown, IsCell, Like, Moved, Applies, StandsCell, Store, fits_above, fits_less, fits_more, get_at, like_on, like_refl, limit, moved_above, moved_less, moved_on, moved_refl, one_base, stands_grown}
pub use Rattle.bk_simulation.proofs.Laid.{Aim, AreActs, AreAt, AreDeclared, AreDefined, AreFrom, AreStarts, AreStores, AreValues, ByTurns, CallAt, Entered, EnteredAny, EnteredBody, Exits, IsAct, IsAddress, IsAlone, IsCode, IsForLoop, IsJump, IsLabelHere, IsLoop, IsOneDeclared, IsScope, IsScopeAt, IsStore, IsValue, IsWord, KeepsLabels, LabelAt, LeadsTo, NamedIn, PlaceOf, Renames, RenamesVariables, Scene, Setting, Spot, Stretch, behind_body, count, defines_variables, ending, goal_named, in_loop, in_switch, in_valof, jumps, named_word, owning, pushes, spots_of, variables_bound}
pub use Rattle.bk_simulation.proofs.MadeObjects.{IsFree, Since, alive_is, cell_in, closed_fits, closed_moved, get_first, get_new, get_replicate, get_set, grown_made, lying, make, make_fits, make_fits_in, object_there, since_cells, since_made, since_moved, since_on, since_refl}
pub use Rattle.bk_simulation.proofs.OperatorWords.{OperatedAs, PrefixedAs, inverts, judged_word, negates, operates, some_is, sum_applied}
pub use Rattle.bk_simulation.proofs.WrittenCells.{below_at, below_like, pushed_at, pushed_like, put, read_at, read_here, settle_at, settle_like, untouched, variable_found, write_at, write_here}
pub use Rattle.bk_simulation.proofs.CellBytes.{AreBytes, read_byte_at, word_number, write_byte_at}
pub use Rattle.bk_simulation.proofs.NamesAgree.{Agree, AgreeWords, SameGlobal, agree_bound, global_of, own_cell, same_global}
pub use Rattle.bk_simulation.proofs.NewFrames.{called_argument, called_back, called_cells, called_frame, called_like, called_links, formal_is, formals_long, saved_cells, saved_formal, saved_like, saved_links, saved_same}
pub use Rattle.bk_simulation.proofs.BytesKept.{AllBytes, HasBytes, moves_bytes}
pub use Rattle.bk_simulation.proofs.Frame.{Account, Comes, Completed, CompletedAt, Configuration, Exited, Falls, FallsThose, Fell, FewFrames, GoesTo, Handed, Has, Leads, NameAt, OpenCompleted, Out, Ran, Reaches, Ready, Stopped, Went, comes_on, each_way_ran, falls_on, further, go_on, here, named_again, named_grown, next, one, paying, place_of, ran_from, ran_same, ready_in, ready_next, so, some_objects, start, state, still, store, store_at, there, turn_behind, went, with_ran}
pub use Rattle.bk_simulation.proofs.Words.{on_number, step_by, slot, Goes, ◌≡◌, ℕ, ◌+◌, ◌<◌, ◌≤◌, List, ◌∷◌, ◌++◌, Option, Some, None, refl, sym, ap, subst, arith, ◌-◌, ◌*◌, ◌^◌, Bool, true, false, length, ◌∙◌, option_map, signed, word_of, truth, Operator, Word, content_of, Content, Unset, Temporary, Held, write, below, Inside, State, dyadic_word, named_place, DivideByZero, Stmt, Monadic, Dyadic, LoadByte, Number, True, False, Query, Load, Address, Text, infix_code, variable, push, truth_value, Value, number, address, unset, read, read_byte, World, Outcome, gives, ends, undefined, given, with, sum, operate, operate_prefix, fetch, Meanings, named, combined, Expression, past, Sense, constant, cell, sense_of, Adds, adds, with_after, of_z-to_z, Bound, bound_in, Local, Static, Target, meant, not, from_label, Label, GiveResult, TakeResult, Environment, either, history, stays, either_after, w32, Cause, cell_cause, byte_cause, sum_cause, inl, inr, ◌≢◌, zero, suc, ◌==◌, [], if◌then◌else◌, slice_get, pos, append_assoc, append-nil, option_map_or, FRAME_WORDS, next_depth, Placement, Placed, Next, Ends, Wild, Rest, rest_of, or_rest, rests, in_hand, resumed, resumed_by, find_rest, label_rest, Program, program_step, run, then_run, Entry, CallFunction, CallRoutine, IsWellPlaced, Status, step, InRange, steps_grow, Begin, ◌||◌, cond, Command, Commands, past_command, Sought, Mode, forwards, seeking, has_place, one_has_place, in_order, bytes_eq, bytes_eq-Decides, Binding, bind, labels_of, labels_of_each, labels_in_scope, label, sense_in, bind_each, the_label, Around, or_parts, Cell, settle, Goal, Jump, JumpIf, Stack, truth_of_value, Exit, forgetting, judged, drop, truth_cause, goal_in, Memory, goto, turn, closing, remembering, Assign, AssignAt, AssignByte, Expressions, labelled, Done, After, Throughout, at}

-- The names of the layers below that several of these proofs use.
pub use Rattle.std.proofs.Common.{rules, refl, ◌∙◌, ◌≡◌, sym, ap, ℕ, zero, suc, ◌+◌, ◌≤◌, ◌<◌, length, Bool, not, Option, List, [], ◌∷◌, ◌++◌, map, arith, ◌^◌, ◌-◌, Vec, true, false, IsTrue, Result, Ok, Err, IfOk, IfErr, OnOk, OnErr, is_err, None, Some, subst, append_assoc, append-nil}
pub use Rattle.std.proofs.KnownBytes.{Consumes-nil, Consumes-kept, Consumes-trans, Appends-nil, Appends-trans, Appends-kept, Keeps-refl}
pub use Rattle.bk_base.specs.DeviceLaws.{Begins-refl, Begins-trans}
pub use Rattle.bk_check.specs.Resume.{tag, a_value, Given, a_truth, a_target, is_done, done_tag, resume_given, resume_left, value_goes, truth_goes, target_goes, done_goes, done_left, next_round, next_for, bound_then, defined_then, started_then, starting_then, declared_then, outcome_next, thing_in, exit_in, assigned_to, resume, Comes}
unfoldable pub use Rattle.bk_check.specs.Resume.{resumed}
pub use Rattle.bk_check.specs.Views.{letters_in, mode_in, start_in, program_in}
pub use Rattle.bk_check.specs.declared.frame.Continuation.{Continuation}
pub use Rattle.bk_check.specs.declared.frame.Next.{Next}
pub use Rattle.bk_meaning.proofs.Lemmas.{stays, earlier, Adds, adds, with_after, each_way_after, given_after, either_after, Ties, ties, ties_add, AllTied, done_ties, fetch_ties, combined_ties, operate_prefix_ties, judged_ties, address_in_ties, values_ties, call_ties, assigned_ties, store_ties, choose_case_ties, rounds_of_ties, for_loop_ties, for_test_ties, for_step_ties, where_truth_ties, turn_ties, in_order_ties, landing_ties, result_ties, return_ties, case_exit_ties, starts_ties, let_values_ties, bind_variables_ties, declare_all_ties, scope_ties, library_ties, means_tied, reads_from_the_front, full_call}
pub use Rattle.bk_meaning.specs.Calls.{call}
pub use Rattle.bk_meaning.specs.Environment.{Environment, past, past_command, globals_object}
unfoldable pub use Rattle.bk_meaning.specs.Full.{full}
pub use Rattle.bk_meaning.specs.Growing.{History, history, Grows, After}
pub use Rattle.bk_meaning.specs.Lasting.{Program, program_of, first_memory}
pub use Rattle.bk_meaning.specs.Parts.{Target, at, byte_at, fetch}
pub use Rattle.bk_meaning.specs.Values.{Value, unset, address, number}
pub use Rattle.bk_meaning.specs.World.{World, remembering, Exit, break, loop, result, Outcome, gives, leaves, ends, undefined, going, with, given, either, Done, done, End, divide_by_zero}
pub use Rattle.bk_objects.specs.Texts.{outcome_in}
pub use Rattle.bk_objects.specs.Views.{value_in, routine_in, outcome_of}
pub use Rattle.bk_objects.specs.declared.library.Effect.{Effect}
pub use Rattle.bk_tree.specs.Tree.{Expression, Expressions, Command, Declarations, Starts, expression, expressions_in, command_in, commands_in, declarations_in, definitions_in, starts_in}
pub use Rattle.bk_checker.specs.Checks.{Blames, Moves, Devices, Exchanged, Follows, Shows, Checks, over, verdict_of, place_of, run_given, Answered, Begun, Runs, ChecksPart, RunsPart, Reaches, Flushed}
pub use Rattle.bk_checker.specs.declared.report.CheckFault.{CheckFault}
pub use Rattle.bk_check.specs.declared.frame.OnDone.{OnDone}
pub use Rattle.bk_check.specs.declared.frame.OnTarget.{OnTarget}
pub use Rattle.bk_check.specs.declared.frame.OnTruth.{OnTruth}
pub use Rattle.bk_check.specs.declared.frame.OnValue.{OnValue}
pub use Rattle.bk_check.specs.declared.frame.Thing.{Thing}
pub use Rattle.bk_objects.specs.declared.computed.Computed.{Computed}
pub use Rattle.bk_objects.specs.declared.worth.Worth.{Worth}
pub use Rattle.bk_checker.specs.declared.report.Verdict.{Verdict}

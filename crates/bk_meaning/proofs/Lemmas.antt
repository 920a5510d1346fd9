-- The lemmas of this crate that the proofs of the crates above cite. They import no other file of this folder.
pub use Rattle.bk_meaning.proofs.After.{Adds, adds, calling_on, changes_after, closing_after, each_way_after, earlier, either_after, given_after, stays, turn_after, vec_on, with_after}
pub use Rattle.bk_meaning.proofs.MeaningSpending.{cut_only_without_turns}
pub use Rattle.bk_meaning.proofs.MeaningTies.{means_tied, only_grows, reads_from_the_front}
pub use Rattle.bk_meaning.proofs.NoDepth.{full_act, full_call, full_for_rounds, full_rounds, full_scope, full_target, full_truth, full_value, turn_left, turn_none}
pub use Rattle.bk_meaning.proofs.NodeTies.{AllTied, address_in_ties, assigned_ties, bind_variables_ties, call_ties, case_exit_ties, choose_case_ties, combined_ties, declare_all_ties, done_ties, fetch_ties, for_loop_ties, for_step_ties, for_test_ties, in_order_ties, judged_ties, landing_ties, let_values_ties, library_ties, operate_prefix_ties, result_ties, return_ties, rounds_of_ties, scope_ties, starts_ties, store_ties, turn_ties, values_ties, where_truth_ties}
pub use Rattle.bk_meaning.proofs.Numbers.{command_counted, declaration_counted, declarations_counted, definition_counted, each_counted, expression_counted, starts_counted}
pub use Rattle.bk_meaning.proofs.Standing.{all_declared-next, bound-next, declared-next, in_scope-next, labelled-next}
pub use Rattle.bk_meaning.proofs.Ties.{Ties, ties, ties_add}

-- The names of the layers below that several of these proofs use.
pub use Rattle.std.proofs.Common.{◌≡◌, ℕ, zero, suc, refl, drop, ◌<◌, length, ap, ◌∙◌, arith, false, List, [], ◌∷◌, map, ◌-◌, sym, Option, ◌+◌, max, Vec, ◌++◌, subst, Bool, add-one, true, ◌||◌, Result, Ok, Err, IfOk, append_assoc, Some, None, IfSome, rules, cond, get_or, OnOk, bytes_eq, ⊎_elim, ◌≤◌}
pub use Rattle.std.proofs.lemmas.Bool.{cases_Bool, cond-true, cond-false}
pub use Rattle.std.proofs.lemmas.Cmp.{nat_list_eq_equiv}
pub use Rattle.std.proofs.lemmas.List.{append-nil, at_drop_more}
pub use Rattle.std.proofs.lemmas.Slice.Eq.{bytes_eq-Decides}
pub use Rattle.std.proofs.Math.Path.{fun_ext}
pub use Rattle.std.specs.Prelude.{slice_get, unwrap_or}
pub use Rattle.bk_lasting.specs.Views.{env_in, procedure_in, body_in}
pub use Rattle.bk_meaning.proofs.Lemmas.{full_rounds, turn_left, turn_none, full_value, full_target, full_scope, full_act, full_truth, full_for_rounds}
pub use Rattle.bk_meaning.specs.Blocks.{starts, vec_cells, Start, make_vec, paired, let_values, bind_variables}
pub use Rattle.bk_meaning.specs.Calls.{formal_cells, bind_formals, run_body, called, returned, call, values, applied}
pub use Rattle.bk_meaning.specs.Commands.{act_of}
pub use Rattle.bk_meaning.specs.Environment.{Environment, constant_in, cell, bind, past, past_command, past_definition, letters, objects, following, labelled, objects_of_definition}
pub use Rattle.bk_meaning.specs.Expressions.{combined, value_of, target_of, truth_of}
pub use Rattle.bk_meaning.specs.Full.{full}
pub use Rattle.bk_meaning.specs.Lasting.{Procedure, Program}
pub use Rattle.bk_meaning.specs.Loops.{for_test, for_rounds_of, for_loop, again}
pub use Rattle.bk_meaning.specs.Memory.{made, Memory, cells_living}
pub use Rattle.bk_meaning.specs.Parts.{Target, acts_at}
pub use Rattle.bk_meaning.specs.Scopes.{scope_of, alone, in_order}
pub use Rattle.bk_meaning.specs.Seeking.{Sought, has_place, one_has_place, forwards, the_label, Mode, seeking}
pub use Rattle.bk_meaning.specs.Values.{Value, address, holds}
pub use Rattle.bk_meaning.specs.World.{World, Outcome, gives, leaves, ends, undefined, going, with, Done, done, turn, turn_of, remembering, closing, making, either, goto, each_way}
pub use Rattle.bk_objects.specs.Views.{cell_in, value_in}
pub use Rattle.bk_objects.specs.declared.worth.Cell.{Cell}
pub use Rattle.bk_objects.specs.declared.worth.Cell.TheVariants.{Holds}
pub use Rattle.bk_objects.specs.declared.worth.Worth.{Worth}
pub use Rattle.bk_objects.specs.declared.worth.Origin.TheVariants.{Argument}
pub use Rattle.bk_objects.specs.declared.worth.Worth.TheVariants.{Unset}
pub use Rattle.bk_tree.proofs.Lemmas.{Block_is, Constants_is, Let_is, Apply_is, Variables_is, Assign_is, Call_is, For_is}
pub use Rattle.bk_tree.specs.Tree.{command_in, commands_in, declarations_in, block, Commands, Declaration, declaration, items_in, definitions_in, expression, starts_in, Command, Mention, Expression, Definition, Definitions, Starts, expressions_in, apply, mention, definition, variables, step_in, Expressions}
pub use Rattle.bk_tree.specs.declared.tree.Decl.{Decl}
pub use Rattle.bk_tree.specs.declared.tree.Init.{Init}
pub use Rattle.bk_tree.specs.declared.tree.Name.{Name}
pub use Rattle.bk_check.specs.Fors.{tested, stepped}
pub use Rattle.bk_check.specs.Resume.{tag, a_value, list_value, done_tag, declared_then, vector_then, thing_in, started_then, starting_then, a_target, exit_in, Comes, value_goes, further_for, lands, next_for, bound_then, Given, a_truth, applied_after, truth_goes, target_goes, done_goes, resume, variables_then}
unfoldable pub use Rattle.bk_check.specs.Resume.{resumed}
pub use Rattle.bk_check.specs.Views.{letters_in, sought_in, mode_in, program_in, start_in}
pub use Rattle.bk_check.specs.Worlds.{world, Bytes}
pub use Rattle.bk_check.specs.declared.fors.Tested.{Tested}
pub use Rattle.bk_check.specs.declared.frame.Continuation.{Continuation}
pub use Rattle.bk_check.specs.declared.frame.Let.{Let}
pub use Rattle.bk_check.specs.declared.frame.Next.{Next}
pub use Rattle.bk_check.specs.declared.frame.OnValue.{OnValue}
pub use Rattle.bk_check.specs.declared.frame.OnDone.{OnDone}
pub use Rattle.bk_check.specs.declared.frame.OnTarget.{OnTarget}
pub use Rattle.bk_check.specs.declared.frame.OnTruth.{OnTruth}

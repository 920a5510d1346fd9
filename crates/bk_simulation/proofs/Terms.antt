-- The names of the layers below that several of these proofs use.
pub use Rattle.bk_meaning.specs.Blocks.{Start, bind_variables, declare, declare_all, let_values, make_vec, paired, vec_cells, starts}
pub use Rattle.bk_meaning.specs.Environment.{Environment, Named, Sense, following, bind_each, bind_procedure_as, bind_procedures, cell, constant, constant_in, constants_declared, count, foreign, global_named, globals_object, label, labelled, letters, manifests, objects, objects_of_command, objects_of_commands, objects_of_declaration, objects_of_declarations, objects_of_definitions, objects_of_each, objects_of_starts, past, past_command, past_definition, past_each, sense_in, sense_of, sense_of_constant, sense_of_global, statics, within_let, word_named, bind}
pub use Rattle.bk_meaning.specs.Expressions.{address_in, combined, judged, result_exit, result_of, truth_of, value_of, target_of}
pub use Rattle.bk_meaning.specs.Lasting.{Body, Lasting, Procedure, all_declared, code, command, constant_words, declared, entry_cells, expression, first_memory, global_cells, global_vector, in_scope, library_cells, object_of, objects_from, of_command, of_commands, of_declaration, of_declarations, of_definitions, of_each, of_expression, of_items, of_sections, of_starts, procedure_in, procedure_of, procedures_set, program_of, set_global, static_words, text_words, variables_hidden, words, Program}
pub use Rattle.bk_meaning.specs.Operators.{within, difference, equal, equals_zero, lies_within, on_numbers, operate, operate_prefix, ordered, sum, truth_number, truth_of_value}
pub use Rattle.bk_meaning.specs.Parts.{Meanings, acts_at, nowhere, address_named, at, fetch, named, store, Target, byte_at}
pub use Rattle.bk_meaning.specs.Program.{Going, Run, Undefined, first_world, meaning, means, means_with, no_turn_for, no_turns, run_of, started, turn_for, Ends}
pub use Rattle.bk_ocode.specs.declared.stmt.Dyadic.{Dyadic}
pub use Rattle.bk_ocode.specs.declared.stmt.Monadic.{Monadic}
pub use Rattle.bk_ocode.specs.declared.stmt.Variable.{Variable}
pub use Rattle.bk_scope.specs.declared.bound.Bound.{Bound}
pub use Rattle.bk_scope.specs.declared.role.Role.TheVariants.{Destination, Truth, Value}
pub use Rattle.bk_trans.specs.Parts.{procedure}
pub use Rattle.bk_tree.specs.declared.tree.Operator.{Operator}
pub use Rattle.bk_tree.specs.declared.tree.Prefix.{Prefix}
pub use Rattle.bk_tree.specs.declared.tree.Simple.{Simple}
pub use Rattle.bk_tree.specs.declared.tree.Sort.{Sort}

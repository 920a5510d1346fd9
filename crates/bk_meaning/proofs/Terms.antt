-- The names of the layers below that several of these proofs use.
pub use Rattle.std.proofs.Common.{ℕ, zero, suc, ◌+◌, ◌≤◌, Bool, true, false, List, [], length, Option, Some, None, refl, sym, ◌∙◌, arith, not, ◌++◌, ◌≡◌, ap, subst, append_assoc, ◌-◌, ◌<◌, cond}
pub use Rattle.std.proofs.lemmas.List.{append-nil, length-append, map-append, length-map, length-set}
pub use Rattle.std.specs.Prelude.{◌∷◌, unwrap_or, map, IsTrue, ◌%◌, is_some, option_and_then, slice_get, slice_set}
pub use Rattle.bk_scope.specs.Constants.{divides_by_zero}
pub use Rattle.bk_tree.specs.Tree.{Expression, Command, Commands, Declarations, Mention, Expressions, Declaration, Definition, Definitions, Starts, empty, Items}
pub use Rattle.bk_tree.specs.declared.tree.Operator.{Operator}
pub use Rattle.bk_tree.specs.declared.tree.Prefix.{Prefix}
pub use Rattle.bk_tree.specs.declared.tree.Simple.{Simple}
pub use Rattle.bk_tree.specs.declared.tree.Sort.{Sort}
pub use Rattle.bk_meaning.specs.Blocks.{Start}
pub use Rattle.bk_meaning.specs.Calls.{returned, call}
pub use Rattle.bk_meaning.specs.Causes.{Cause, never_set, no_cell, no_byte, beyond, no_address, no_number, no_byte_value, apart, no_procedure, no_argument, argument, no_place, no_constant}
pub use Rattle.bk_meaning.specs.Commands.{act_of}
pub use Rattle.bk_meaning.specs.Environment.{Environment, globals_object, Sense, constant, cell, label, foreign, sense_of, bind, following, past, past_each, past_command, past_definition, constant_in, labelled, within_let, objects_of_definitions, objects, objects_of_each, objects_of_command, objects_of_commands, objects_of_declaration, objects_of_declarations, count, objects_of_definition, objects_of_starts, bind_each, letters, manifests, statics, globals, sense_of_constant, sense_of_global}
pub use Rattle.bk_meaning.specs.Growing.{History, history, Grows, sizes, ComesBack, After, Restores, Keeps, InItsWorld, Throughout, OutputOnlyGrows, CallsComeBack, MemoryNeverShrinks, WhatLastsLives, size_of}
pub use Rattle.bk_meaning.specs.Lasting.{Program, program_of, Body, command, expression, Procedure, procedure_of, Lasting, words, procedure_here, inside, in_scope, in_for, static_words, declared, all_declared, of_expression, of_each, of_command, of_commands, of_declaration, of_declarations, of_definition, of_definitions, of_starts, global_vector, code, objects_from, first_memory, of_items, variables_hidden, of_sections}
pub use Rattle.bk_meaning.specs.Library.{library, writes_text, takes_byte, digits}
pub use Rattle.bk_meaning.specs.Memory.{Memory, dead_from, read, living, dead, cells_of, cells_at, cell_at, replaced, with_cell, write, write_byte, cell_of_byte, lives, made}
pub use Rattle.bk_meaning.specs.Numbering.{AsManyAsCounted, IsNumbered, InStatics, InItems, InExpression, InEach, InCommand, InCommands, InDeclaration, InDeclarations, InDefinition, InDefinitions, InStarts, InSections, WhatLastsIsAtItsNumber}
pub use Rattle.bk_meaning.specs.Operators.{sum, sum_cause, truth_of_value, on_numbers, operate, operate_prefix}
pub use Rattle.bk_meaning.specs.Parts.{Meanings, Target, at, byte_at, acts_at, nowhere}
pub use Rattle.bk_meaning.specs.Program.{turn_for, means_with, no_turn_for, no_turns, means, run_of, first_world, started, Ends, Going, Undefined, Run, meaning}
pub use Rattle.bk_meaning.specs.Seeking.{Mode, the_label, the_case, the_default, forwards, seeking, at_place, has_place, one_has_place}
pub use Rattle.bk_meaning.specs.Turns.{with_turns, shown, RunGoesOn, Continues, the_same, further, MoreTurns, ReadsFromTheFront, CutOnlyWithoutTurns}
pub use Rattle.bk_meaning.specs.Values.{Value, Cell, address, Routine, stop, rdch, wrch, newline, writes, writen, writed, getbyte, putbyte, writef, number, procedure, routine, unset, holds, with_byte}
pub use Rattle.bk_meaning.specs.World.{World, Exit, End, Outcome, gives, leaves, ends, undefined, going, each_way, with, given, either, turn, turn_of, closing, forgetting, changes, remembering, making, making_vec, calling, calls_back, Done, status, break, loop, endcase, goto, result, return, done, writing, divide_by_zero, no_start}

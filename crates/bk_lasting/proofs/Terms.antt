-- The names of the layers below that several of these proofs use.
pub use Rattle.std.proofs.Common.{◌≡◌, drop, ◌++◌, map, ℕ, ◌+◌, ◌<◌, List, [], ◌∷◌, length, get_or, refl, ap, ◌∙◌, append_assoc, arith, sym, ◌*◌, ◌≤◌, rules, replicate, set, zero, suc, ◌-◌, take, ap₂, add-one}
pub use Rattle.std.proofs.lemmas.Grind.{common_steps}
pub use Rattle.std.proofs.lemmas.List.{at_drop_more, append-nil, get_or-drop, drop-drop, length-drop, drop_all, map-set, length_push, length-map, map-append, take_all}
pub use Rattle.std.specs.Vec.{vec_len}
pub use Rattle.bk_base.specs.Strings.{packed}
pub use Rattle.bk_meaning.specs.Environment.{Environment, labelled, objects_of_declarations, count, Sense, label, bind, bind_each, bind_procedure, bind_procedures, past_definition, foreign, letters, statics, sense_of, sense_in, manifests, objects_of_each, objects_of_commands, objects_of_definitions, objects_of_starts, globals}
pub use Rattle.bk_meaning.specs.Lasting.{variables_hidden, of_sections, program_of, of_each, of_commands, of_declarations, of_definitions, of_starts, procedures_set, all_declared, declared, in_scope, static_words, of_command, objects_from, first_memory, library_cells, constant_words, object_of}
pub use Rattle.bk_meaning.specs.Values.{holds, number, unset}
pub use Rattle.bk_objects.specs.Views.{cell_in}
pub use Rattle.bk_scope.specs.Entering.{labels_of, labels_of_each}
pub use Rattle.bk_tree.proofs.Lemmas.{Constants_is, Let_is, is_zero, is_more, Apply_is, Table_is, Assign_is, Call_is, Block_is, Variables_is}
pub use Rattle.bk_tree.specs.Section.{declarations_of}
pub use Rattle.bk_tree.specs.Tree.{definitions_in, expressions_in, commands_in, declarations_in, starts_in, Commands, block, items_in, Command, Definition, Definitions, routine, function, variables, no_definitions, define, command_in, declaration, definition, mention, constants, definitions, expression, apply, table, assign, call}
pub use Rattle.bk_tree.specs.declared.tree.Decl.{Decl}
pub use Rattle.bk_lasting.specs.Views.{env_in, listed, lasting_in, names_of, names_in}
pub use Rattle.bk_lasting.specs.declared.program.Lasting.{Lasting}
pub use Rattle.bk_tree.specs.declared.tree.ConstItem.{ConstItem}

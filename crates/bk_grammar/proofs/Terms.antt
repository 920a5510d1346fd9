-- The names of the layers below that several of these proofs use.
pub use Rattle.std.proofs.Common.{◌≡◌, ℕ, ◌≤◌, Bool, true, false, cond, List, ◌∷◌, Option, Some, None, refl, sym, ap, subst, ◌∙◌, inl, inr, arith, ◌+◌, ◌<◌, [], ◌==◌, length, ◌++◌, Ok, ◌⊎◌, append_assoc, map, IsTrue, ◌↔◌, take, zero, suc, length-append}
pub use Rattle.std.proofs.lemmas.Bool.{ltb-true, cases_lt, lt-ltb, le-ltb, ltb-false}
pub use Rattle.std.proofs.lemmas.Bool.Decides.{nat_tests}
pub use Rattle.std.specs.Prelude.{nat_lt}
pub use Rattle.bk_lex.specs.Symbol.{Symbol}
pub use Rattle.bk_lex.specs.Values.{upper_name, number_word, string_bytes, character_byte}
pub use Rattle.bk_lex.specs.declared.token.Kind.{Kind}
pub use Rattle.bk_tree.proofs.Lemmas.{eq_is}
pub use Rattle.bk_tree.specs.Parts.{at_expression, at_command, declarations_then, definitions_then, size, start_count, each_then, commands_then, items_then, starts_then, at_expressions, at_names}
pub use Rattle.bk_tree.specs.Tree.{Mention, Expression, Expressions, Command, Commands, Declaration, Declarations, Items, Definition, name, number, text, truth, query, apply, none, more, empty, simple, block, repeat, no_commands, also, constants, definitions, no_declarations, declare, no_definitions, define, Definitions, Starts, no_items, item, no_starts, value, vector, parens, unary, binary, choice, valof, table, assign, call, goto, label, case_of, default, when, test, while, for_loop, switch, result, repeat_while, routine, function, variables}
pub use Rattle.bk_tree.specs.declared.tree.Operator.{Operator}
pub use Rattle.bk_tree.specs.declared.tree.Prefix.{Prefix}
pub use Rattle.bk_tree.specs.declared.tree.Simple.{Simple}
pub use Rattle.bk_tree.specs.declared.tree.Sort.{Sort}
pub use Rattle.bk_grammar.specs.Grammar.{last, Full, EndsCommand, Filled, Reads, Does, Declares, Defines, SpellsName, Names, Formals, Semis, if_or_unless, while_or_until, repeats_while, Each, Body, Parted, Heads, Listed, Defined, Started, Section, Leaf}
pub use Rattle.bk_grammar.specs.Machine.{Stack, in_section, in_block, in_let, at_opening, at_items, at_goto, at_for, at_default, in_parens, in_unary, in_binary, in_chain, in_then, in_args, in_table, in_start, in_dests, in_values, in_guard, in_test, in_result, in_while, in_by, in_valof, in_label, in_guarded, in_for, State, want, have, begin, maybe, did, due, limit, linked, infixed, push, is_semicolon, closes, is_let, is_sign_of, guarded, after_sign, prefixed, no_args, bars, leaved, take_operand, take_start, take_command, sorted, take_declaration, take_in_section, in_head, take_in_block, declared, declared_by, defined_by, again, dests, labelled, in_constants, to_or_do, inside, give, finish, stepped_by, step, whole, going, at_name, at_formals, at_formal, at_formal_end, at_head, at_variable, at_variable_end, at_starts, at_sign, at_forward, in_else, in_from, in_to, in_item, in_function, in_value, in_vector, in_default, in_do, in_or, in_routine, is_vec, named, in_names, take_item, take_due, is_close, is_colon, is_equal, opens, is_open, without, in_formals, headed, is_do, is_or, is_to, if_is, is_call, call_of}
unfoldable pub use Rattle.bk_grammar.specs.Machine.{run}
pub use Rattle.bk_grammar.specs.Placed.{position_of}
pub use Rattle.bk_grammar.specs.Rows.{row, left, is_relation, infix_of, prefix_of, leaf, simple_of, sort_of, guard_of, sign_of, repeats, is_and, goes, Fails, inner, begins_operand, begins_command, assigns, is_comma, Stops, following}
pub use Rattle.bk_grammar.specs.declared.symbols.Guard.{Guard}

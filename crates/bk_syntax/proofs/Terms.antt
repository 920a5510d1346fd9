-- The names of the layers below that several of these proofs use.
pub use Rattle.std.proofs.Common.{◌≡◌, ◌≤◌, take, vec_len, sym, ap, ◌∙◌, ℕ, ◌+◌, ◌<◌, length, get_or, drop, List, [], ◌∷◌, ◌++◌, Result, Ok, Err, IfErr, refl, subst, inl, inr, append_assoc, ◌-◌, arith, suc, Some, replicate, Option, rules, Bool, true, false, cond, None, max, ◌==◌, min, length-append, ◌⊎◌, zero}
pub use Rattle.std.proofs.Math.Seq.{take-length}
pub use Rattle.std.proofs.lemmas.List.{map-append, take-append-drop, at_drop_more, append-nil, take_more}
pub use Rattle.std.specs.Borrow.{Bor}
pub use Rattle.std.specs.Prelude.{nat_lt}
pub use Rattle.bk_base.specs.declared.refused.Refused.{Refused}
pub use Rattle.bk_base.specs.declared.refused.Refused.TheVariants.{Fault, Memory, Device}
pub use Rattle.bk_base.specs.declared.source_fault.SourceFault.{SourceFault}
pub use Rattle.bk_base.specs.declared.source_fault.SourceKind.TheVariants.{UnexpectedSymbol, WrongSectionTag, NestedTooDeeply, TooManyNodes}
pub use Rattle.bk_frames.proofs.Lemmas.{limit_phrase, limit_member, Down, at_most_down, levels_down, run_completes, stack_take, possible, binary_done, last_on, none_on, unary_done, guarded_depth, guarded_nodes, ends_within, inside_short, inside_at, empty_bounded, within_limits, stack_none, call_done}
pub use Rattle.bk_frames.specs.Bounds.{Always, AtMost, LevelsAtMost, Bounded, Passed}
pub use Rattle.bk_frames.specs.Completing.{Completes, Lookahead, closing, assigning, listing, going, repeating, operating, Any, Unlisted, If, Whole, Taken, Gives, Does, Operates, Defines, Declares, Wants, Misses, Lists, Due, AtClosing, AtListing, AtArgument, AtAssignment, Closed, Missing, Started, Guarded}
pub use Rattle.bk_frames.specs.Frames.{stack_of, state, given, Flows, is_let_unfinished, Steps, after}
pub use Rattle.bk_frames.specs.Sizes.{form_of, size_if, size_of, size_of_command, owed}
pub use Rattle.bk_frames.specs.Stacked.{above}
unfoldable pub use Rattle.bk_frames.specs.Stacked.{stack}
pub use Rattle.bk_frames.specs.Unfinished.{unfinished_on}
pub use Rattle.bk_frames.specs.declared.frame.ParserState.{ParserState}
pub use Rattle.bk_frames.specs.declared.frames.Frames.{Frames}
pub use Rattle.bk_frames.specs.declared.size.Form.TheVariants.{Label, Call, Callable, Other}
pub use Rattle.bk_grammar.proofs.Lemmas.{complete, pushes, stepped, opens_kind, closes_kind, Tagged, Fits, Fit, FitUnder, After, step_fits, no_comma, falls, behind_ok, inner_ok, ForExpression, ForCommand, ForDefinition, ForDeclaration, ForSymbol, more_names, Takes, alike, takes, one_tag, size_then, count_then, in_block_is, At_head, Ready, Before, May_miss, Inv, mono, split, limit_ok, semis_refl, definitions_all, each_of, value_last, vector_last, full_of, ends_of, guarded_does, guarded_filled, added, inside_of, of_let, build_binary, call_filled, call_does, step_sound, repeated, same_eq, less_eq}
pub use Rattle.bk_grammar.specs.Brackets.{up_to_tag, Closing, same_tag, one_more, without_tag, closed_by, in_front, plain_by, plain_after}
unfoldable pub use Rattle.bk_grammar.specs.Brackets.{plain}
pub use Rattle.bk_grammar.specs.Grammar.{last, Section}
pub use Rattle.bk_grammar.specs.Machine.{bars, limit, State, due, in_section, opens, closes, stepped_by, step, Stack, in_unary, in_binary, in_chain, in_then, in_else, in_args, in_table, in_start, in_values, in_value, in_vector, in_label, in_guarded, in_default, in_or, in_for, want, have, give, in_block, in_let, at_name, at_formals, at_formal, at_formal_end, at_head, at_variable, at_variable_end, at_starts, at_opening, at_items, at_sign, at_goto, at_for, at_forward, at_default, in_parens, in_dests, in_guard, in_test, in_result, in_while, in_from, in_to, in_by, in_item, in_function, in_valof, in_do, in_routine, begin, maybe, did, push, guarded, whole, declared, declared_by, defined_by, take_due, take_command, finish, counted}
unfoldable pub use Rattle.bk_grammar.specs.Machine.{run}
pub use Rattle.bk_grammar.specs.Rows.{goes, inner, following, is_comma, begins_command, repeats, assigns, row}
pub use Rattle.bk_grammar.specs.Spelling.{tag_of}
pub use Rattle.bk_grammar.specs.SyntaxFault.{IsSection, Begins, Shallow, Applies}
pub use Rattle.bk_grammar.specs.declared.symbols.Guard.{Guard}
pub use Rattle.bk_lex.specs.Symbol.{Symbol, symbol_of, symbols_of, symbol}
pub use Rattle.bk_lex.specs.Values.{upper_name}
pub use Rattle.bk_lex.specs.declared.token.Kind.{Kind}
pub use Rattle.bk_lex.specs.declared.token.Token.{Token}
pub use Rattle.bk_tree.proofs.Lemmas.{each_depth, each_nodes, commands_depth, commands_nodes, declarations_depth, declarations_nodes, definitions_depth, definitions_nodes, items_depth, items_nodes, eq_is, is_zero, is_more, Apply_is, starts_depth, starts_nodes}
pub use Rattle.bk_tree.specs.declared.placed.PlacedFault.{PlacedFault}
pub use Rattle.bk_tree.specs.Placed.{fault_on_line, on_line}
pub use Rattle.bk_tree.specs.Position.{position, line_in}
pub use Rattle.bk_grammar.specs.Placed.{position_of}
pub use Rattle.bk_tree.specs.Limits.{Within, depth_of_declarations, nodes_of_declarations, depth, depth_of_each, depth_of_command, nodes, nodes_of_each, nodes_of_command, depth_of_commands, depth_of_declaration, depth_of_items, depth_of_definition, depth_of_definitions, nodes_of_commands, nodes_of_declaration, nodes_of_items, nodes_of_definition, nodes_of_definitions, depth_of_starts, nodes_of_starts}
pub use Rattle.bk_tree.specs.Parts.{at_expression, size, start_count, each_then, at_command, commands_then, declarations_then, items_then, definitions_then, at_expressions, at_names, starts_then}
pub use Rattle.bk_tree.specs.Tree.{Declarations, expression, no_declarations, Expression, Expressions, binary, choice, apply, table, none, more, Mention, Command, Commands, Declaration, Items, Definition, parens, unary, valof, empty, goto, label, default, test, for_loop, result, block, repeat_while, no_commands, also, constants, definitions, declare, no_items, item, routine, function, no_definitions, define, no_starts, name, simple, assign, case_of, variables, value, vector, declarations_in, call, when, repeat, Starts}
pub use Rattle.bk_syntax.specs.Parsing.{goes_to, leads, AfterSymbols, AnswersAtEnd, answered, reached, Advances, steps, reported, Closes, error_of, tags_on}
unfoldable pub use Rattle.bk_syntax.specs.Parsing.{tags}
pub use Rattle.bk_syntax.specs.SyntaxLaws.{reading, BeginsCompletes, CompletesBegins}
pub use Rattle.bk_syntax.specs.declared.error.ParseError.{ParseError}
pub use Rattle.bk_frames.specs.declared.frame.Stop.{Stop}
pub use Rattle.bk_frames.specs.declared.frame.Unfinished.{Unfinished}
pub use Rattle.bk_tree.specs.declared.tree.Operator.{Operator}
pub use Rattle.bk_tree.specs.declared.tree.Prefix.{Prefix}

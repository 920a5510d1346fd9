-- The names of the layers below that several of these proofs use.
pub use Rattle.std.proofs.lemmas.Bool.{and_left, or_cases, or_left, or_right}
pub use Rattle.std.proofs.Common.{take, ◌≡◌, ◌⊎◌, ◌↔◌, inl, inr, ℕ, ◌+◌, ◌==◌, max, not, Bool, true, false, ◌||◌, refl, arith, ◌≤◌, length, sym, subst, cond, Option, Some, None, List, [], ◌∷◌, ◌++◌, length-append, Result, Ok, ◌&&◌, ◌∙◌, ap, ◌<◌, Err, ◌-◌, get_or, zero, suc, if◌then◌else◌, append-nil, slice_get, leb, drop}
pub use Rattle.std.proofs.Math.Seq.{take-length, take-append-add}
pub use Rattle.std.proofs.lemmas.Bool.Decides.{nat_tests}
pub use Rattle.std.specs.Prelude.{nat_lt, IfOk, MatchOption, nat_le, map}
pub use Rattle.bk_base.specs.declared.limit.TheConstants.{TREE_DEPTH, TREE_NODES}
pub use Rattle.bk_grammar.proofs.Lemmas.{falls, behind_ok, inner_ok, pushes, repeated, size_then, count_then, no_comma, ForExpression, ForCommand, ForDefinition, ForDeclaration, ForSymbol, Fits}
pub use Rattle.bk_grammar.specs.Grammar.{last}
pub use Rattle.bk_grammar.specs.Machine.{Stack, in_parens, in_binary, in_start, in_section, in_block, in_let, in_unary, in_chain, in_then, in_else, in_args, in_table, in_dests, in_values, in_guard, in_test, in_result, in_while, in_from, in_to, in_by, in_item, in_function, in_value, in_vector, in_valof, in_label, in_guarded, in_default, in_do, in_or, in_for, in_routine, at_name, at_formals, at_formal, at_formal_end, at_head, at_variable, at_variable_end, at_starts, at_opening, at_items, at_sign, at_goto, at_for, at_forward, at_default, want, have, begin, maybe, did, due, State, bars, stepped_by, inside, limit, push, infixed, is_open, is_assign, is_equal, is_close, is_be, is_by, is_do, is_semicolon, closes, no_args, take_operand, take_command, dests, in_names, in_formals, headed, to_or_do, in_constants, declared, again, named, take_declaration, declared_by, take_due, take_item, give, finish, in_head, guarded}
pub use Rattle.bk_grammar.specs.Rows.{inner, following, is_relation, infix_of, prefix_of, sort_of, begins_command, repeats, assigns, is_and, is_comma, goes, leaf, simple_of, guard_of, is_arrow, is_both, is_name, declaring_of, opening_of, heading_of, repetition_of}
pub use Rattle.bk_grammar.specs.declared.symbols.Guard.{Guard}
pub use Rattle.bk_lex.specs.declared.token.Kind.{Kind}
pub use Rattle.bk_tree.proofs.Lemmas.{eq_is, each_depth, each_nodes, commands_depth, commands_nodes, declarations_depth, declarations_nodes, definitions_depth, definitions_nodes, items_depth, items_nodes, starts_depth, starts_nodes}
pub use Rattle.bk_tree.specs.Limits.{depth, depth_of_each, depth_of_command, depth_of_commands, depth_of_declarations, depth_of_items, depth_of_definitions, depth_of_starts, nodes, nodes_of_each, nodes_of_command, nodes_of_commands, nodes_of_declarations, nodes_of_items, nodes_of_definitions, nodes_of_starts, depth_of_declaration, depth_of_definition, nodes_of_declaration, nodes_of_definition}
pub use Rattle.bk_tree.specs.Parts.{size, start_count, at_expression, at_expressions, at_names, at_command, each_then, commands_then, declarations_then, items_then, definitions_then, starts_then}
pub use Rattle.bk_tree.specs.Tree.{none, more, no_items, item, Command, declarations_in, Declarations, no_declarations, Mention, Expressions, Commands, Items, Definitions, Starts, expression, command_in}
pub use Rattle.bk_tree.specs.declared.tree.Decl.{Decl}
pub use Rattle.bk_tree.specs.declared.tree.Operator.{Operator}
pub use Rattle.bk_tree.specs.declared.tree.Operator.TheVariants.{Both}
pub use Rattle.bk_tree.specs.declared.tree.Prefix.{Prefix}
pub use Rattle.bk_tree.specs.declared.tree.Sort.{Sort}
pub use Rattle.bk_frames.specs.Bounds.{AtMost, LevelsAtMost, Always, Bounded}
pub use Rattle.bk_frames.specs.Budgets.{IsKept, AreAdded, by_completion, Limit, is_tight, Tight, Part, Sized, goes_on, AreKept, node, completions_of_guard, Test, led, is_next, completions_of_binary, completions_of_values, completions_of_starts, completions_of_valof, within, next_of, serves, holds, covered, counted, raised, reached, some_next, led_following, led_by, led_completion, completions, AreBudgets, leads, by_budget, by_completions, fits, has_budget, category_of, Closes, category_number, next_number, Within, holds_if}
pub use Rattle.bk_frames.specs.Completing.{Any, AtClosing, AtListing, AtArgument, AtAssignment, AtPart, Unlisted, Started, Answered, Whole, Taken, Gives, Does, Operates, Defines, Declares, Lookahead, closing, assigning, listing, going, repeating, operating, If, Closed, Missing, Guarded, Misses, Wants, Completes, Lists, Due}
pub use Rattle.bk_frames.specs.Frames.{is_let_unfinished, is_block_unfinished, related, heads, declaring, stack_of, state, part_of}
pub use Rattle.bk_frames.specs.Sizes.{owed, form_of, are_none, are_no_items, kept, node_of, size_of_declarations, held_depth, held_nodes, kept_size}
pub use Rattle.bk_frames.specs.Spares.{spare_of_section, Leaves, owes, alone, IsSmall}
pub use Rattle.bk_frames.specs.Stacked.{above, Spared, Ample}
unfoldable pub use Rattle.bk_frames.specs.Stacked.{stack, spare_under, spare_below}
pub use Rattle.bk_frames.specs.Unfinished.{unfinished_on, phrase_on, member_on}
pub use Rattle.bk_frames.specs.declared.budget.Budget.{Budget}
pub use Rattle.bk_frames.specs.declared.budget.Category.{Category}
pub use Rattle.bk_frames.specs.declared.budget.Category.TheVariants.{Expression, Call}
pub use Rattle.bk_frames.specs.declared.budget.Lookahead.TheVariants.{Closing, Assigning, Listing, Going, Repeating, Operating}
pub use Rattle.bk_frames.specs.declared.completion.Completion.{Completion}
pub use Rattle.bk_frames.specs.declared.completion.Completions.{Completions}
pub use Rattle.bk_frames.specs.declared.completion.Completions.TheVariants.{One, Two, Three, Five}
pub use Rattle.bk_frames.specs.declared.completion.Following.{Following}
pub use Rattle.bk_frames.specs.declared.completion.Link.{Link}
pub use Rattle.bk_frames.specs.declared.frame.Frame.{Frame}
pub use Rattle.bk_frames.specs.declared.frame.ParserState.{ParserState}
pub use Rattle.bk_frames.specs.declared.frame.Size.{Size}
pub use Rattle.bk_frames.specs.declared.frame.Unfinished.{Unfinished}
pub use Rattle.bk_frames.specs.declared.size.Form.{Form}
pub use Rattle.std.proofs.lemmas.List.{take_more, take_all, take-append-le}
pub use Rattle.bk_grammar.specs.declared.symbols.Opening.{Opening}
pub use Rattle.bk_grammar.specs.declared.symbols.Repetition.{Repetition}
pub use Rattle.bk_tree.specs.declared.tree.ConstItem.{ConstItem}
pub use Rattle.bk_frames.specs.declared.frame.Clause.{Clause}
pub use Rattle.bk_frames.specs.declared.frame.Member.{Member}
pub use Rattle.bk_frames.specs.declared.frame.OpenExpression.{OpenExpression}
pub use Rattle.bk_frames.specs.declared.frame.Phrase.{Phrase}
pub use Rattle.bk_frames.specs.declared.frame.Place.{Place}
pub use Rattle.bk_frames.specs.declared.frame.Point.{Point}

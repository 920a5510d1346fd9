-- The names of the layers below that several of these proofs use.
pub use Rattle.indexmap.specs.IndexMap.{IndexMap, UpdatesBy, get_by}
pub use Rattle.std.proofs.Common.{◌≡◌, map, drop, List, [], ◌∷◌, ◌++◌, refl, ℕ, ◌+◌, ◌*◌, ◌≤◌, ◌==◌, Bool, true, false, cond, Option, Some, None, sym, ap, ◌∙◌, append_assoc, subst, arith, ◌^◌, ◌<◌, length, not, rules, IsSome, get_or, ◌-◌, length-append, Result, Ok, Err, OnOk, IfOk, string_bytes, slice_index_or, zero, suc, ap₂, take, ⊎_elim, reverse}
pub use Rattle.std.proofs.lemmas.Bool.{eq-eqb, false≢true, le-ltb, ltb-true, eqb-true, eqb-false, lt-ltb, cases_Bool, cond-true, cond-false, ltb-false}
pub use Rattle.std.proofs.lemmas.Cmp.{eq_by_cmp_equiv, nat_cmp_total, nat_list_eq_equiv}
pub use Rattle.std.proofs.lemmas.Grind.{common_steps}
pub use Rattle.std.proofs.lemmas.List.{append-nil, at_drop_more, take_more, map-append, reverse-append, take_all, length-drop, drop_more, drop_all, length-map, length-reverse, drop-drop, reverse-reverse, get_or_at, get_or_append_left}
pub use Rattle.std.proofs.lemmas.Option.{none-some}
pub use Rattle.std.proofs.lemmas.Slice.Eq.{bytes_eq-Decides}
pub use Rattle.std.specs.Char.{encode_utf8}
pub use Rattle.std.specs.Cmp.{unsigned_tied}
pub use Rattle.std.specs.Map.{lookup}
unfoldable pub use Rattle.std.specs.Map.{KeepsOthers}
pub use Rattle.std.specs.Option.{option_flatten, option_to_list, option_and_then}
pub use Rattle.std.specs.Prelude.{nat_lt, max}
pub use Rattle.std.specs.Str.{bytes_eq, encode_utf8_all}
pub use Rattle.std.specs.Vec.{vec_len}
pub use Rattle.bk_base.specs.declared.limit.TheConstants.{GLOBAL_NUMBER, VEC_NUMBER, FRAME_WORDS}
pub use Rattle.bk_tree.proofs.Lemmas.{Block_is, is_zero, is_more, Constants_is, Let_is, Variables_is, Apply_is, Table_is, Assign_is, Call_is}
pub use Rattle.bk_tree.specs.Limits.{Within, nodes, nodes_of_each, nodes_of_command, nodes_of_commands, nodes_of_declaration, nodes_of_declarations, nodes_of_items, nodes_of_definitions, nodes_of_starts}
pub use Rattle.bk_tree.specs.Parts.{at_expression, size}
pub use Rattle.bk_tree.specs.Tree.{mention, Expression, Expressions, name, number, text, truth, query, parens, unary, binary, choice, apply, valof, table, none, more, Mention, Declaration, Declarations, Items, Definitions, Starts, constants, definitions, no_declarations, declare, no_items, item, no_definitions, define, variables, no_starts, value, vector, routine, function, command_in, commands_in, definitions_in, Command, Commands, block, declarations_in, definition, items_in, expressions_in, empty, assign, call, goto, label, case_of, default, when, while, for_loop, switch, result, simple, repeat, no_commands, also, Definition, test, repeat_while, starts_in, expression, declaration}
pub use Rattle.bk_tree.specs.declared.tree.ConstItem.{ConstItem}
pub use Rattle.bk_tree.specs.declared.tree.Decl.{Decl}
pub use Rattle.bk_tree.specs.declared.tree.Def.{Def}
pub use Rattle.bk_tree.specs.declared.tree.Init.{Init}
pub use Rattle.bk_tree.specs.declared.tree.Name.{Name}
pub use Rattle.bk_tree.specs.declared.tree.Operator.{Operator}
pub use Rattle.bk_tree.specs.declared.tree.Prefix.{Prefix}
pub use Rattle.bk_tree.specs.declared.tree.Simple.{Simple}
pub use Rattle.bk_tree.specs.declared.tree.Sort.{Sort}
pub use Rattle.bk_scope.specs.Cases.{word_if_any, case_words, case_words_each, defaults, defaults_each, NoneOf, AllDiffer, CasesDiffer}
pub use Rattle.bk_scope.specs.Claims.{claim_of, claims_in}
pub use Rattle.bk_scope.specs.Constants.{named_word, constant_word, is_prefix_of_constants, is_infix_of_constants, divides, divides_by_zero, wrong_name, wrongs, prefix_word, infix_word}
pub use Rattle.bk_scope.specs.Entering.{with_formals, Stage, with_labels, labels_of, labels_of_each, with_procedures, with_procedure}
pub use Rattle.bk_scope.specs.Faults.{unless, constant_name, constant_wrongs, constant_wrongs_each, its_word, constant, each_constant, at_most, one_of, each_of, pushed, manifest_items, static_items, global_items, reported, reported_declared, reported_one_declared, reported_started, used_at, depth_named, addressed, assigned, reported_destinations, reported_each, reported_done, reported_of, faults, meanings, words, reported_done_each, gone_to, prefixed, chosen_at, defaulted_at, single_at, its_meaning, reported_defined, reported_one_defined, its_global, its_frame, inside_procedure, procedure}
pub use Rattle.bk_scope.specs.Found.{Found, Claim, first_of, else_first, breaks_first, holds, breaks, means, takes, reaches, is_claimed, same_claim, choosing, defaulting, claims_new}
pub use Rattle.bk_scope.specs.Laws.{Clean, NoWrong}
pub use Rattle.bk_scope.specs.Names.{constant_found, constants_found, AfterDeclarations, evaluated, listed, all_listed, bounded, within, words_of_start, manifests, statics, globals, started, declared, one_declared, is_usable, begins_wrong, role_of_operands, destinations, used, unassignable, without_word, parenthesised, each_evaluated, done, fit_infix, place_of_second, role_of_operand, defined, nothing, found_in, each_done, place_after, variables_of, Defined, one_defined, sets, named_as, headed, frame_wrong, words_below, reached, switched, chosen, defaulted, single}
pub use Rattle.bk_scope.specs.Places.{deeper, kept, labelled, valued, outermost, switching, looping, called}
pub use Rattle.bk_scope.specs.Points.{Point, meaning, word, depth, wrong, claim, at, claims_after, judged, in_order, first_reported, meanings_of, words_of, deepest, number_of, Fault, comes_before, put, claimed, all_reported, without_depths, claiming}
pub use Rattle.bk_scope.specs.Scope.{Binding, bind_all, bound_in, bind, is_global, has_address}
pub use Rattle.bk_scope.specs.Scoping.{manifests_in_scope, statics_in_scope, globals_in_scope, scope_after_one, place_after_one, scope_after, place_after_all, labels_in_scope, procedure_in_scope, procedures_in_scope, place_after_one_defined, place_after_defined, variables_in_scope}
pub use Rattle.bk_scope.specs.Sound.{Usable, GoesTo, HasWord, HasWordUpTo, HaveWords, Callable, PrefixSound, Applies, ManifestsSound, StaticsSound, GlobalsSound, FrameSound, Sound, SoundEach, SoundDestinations, SoundDone, SoundDoneEach, SoundDeclared, SoundOneDeclared, SoundDefined, SoundOneDefined, SoundStarted, SoundSection}
pub use Rattle.bk_scope.specs.Spots.{Spot, past, after_constant, symbols, symbols_each, numbered, following, after_one_declared, numbers, numbers_items, numbers_declared, numbers_one_declared, numbers_started, numbers_each, symbols_done, numbers_done, onward, beginning, procedures_in, numbers_done_each, numbers_defined, after_declared, symbols_done_each, symbols_declared, after_each, after_done, after_one_defined, symbols_one_declared, symbols_items, symbols_defined, symbols_one_defined, symbols_started, numbers_one_defined}
pub use Rattle.bk_scope.specs.TableView.{place_in, binding_of, scope_of, HaveHidden, mapped_place, IsTable}
pub use Rattle.bk_scope.specs.Wrong.{Wrong, Breach, dynamic_name, not_constant, divided_by_zero, label_not_here, text_of, global_out_of_range, vec_out_of_range, not_assignable, not_declared, declared_twice, case_repeated, default_repeated, no_loop, no_switchon, no_result_or_return, frame_too_large, two_procedures, elsewhere}
pub use Rattle.bk_scope.specs.contracts.name_key.NameKeyPartialEq.TheImpl.{eq-value}
pub use Rattle.bk_scope.specs.declared.bound.Bound.{Bound}
pub use Rattle.bk_scope.specs.declared.bound.Bound.TheVariants.{Constant, Global, Static, Variable, Label}
pub use Rattle.bk_scope.specs.declared.name_key.NameKey.{NameKey}
pub use Rattle.bk_scope.specs.declared.place.Enclosing.{Enclosing}
pub use Rattle.bk_scope.specs.declared.role.Role.{Role}
pub use Rattle.bk_scope.specs.declared.role.Role.TheVariants.{Value, Truth, Address, Destination}
pub use Rattle.bk_scope.specs.declared.table.Entry.{Entry}

-- What an expression is asked for: its value, or its truth for a jump.
pub use Rattle.bk_trans.proofs.Words.{Bool, false, not, List, Expression, Enclosing, Role, Value, Truth, Binding, Spot, term_named, condition_named, arith, ◌≡◌, ℕ, ◌+◌, ◌<◌, ◌≤◌, ◌^◌, max, true, cond, Option, Some, [], ◌∷◌, ◌++◌, length, refl, sym, ap, subst, ◌∙◌, ⊤, false≢true, FRAME_WORDS, VEC_NUMBER, OCODE_LABEL, Mention, Expressions, Command, Commands, Declaration, Declarations, Definition, Definitions, Starts, name, parens, unary, binary, choice, apply, valof, table, none, more, assign, call, label, case_of, default, when, test, while, for_loop, switch, result, block, repeat, repeat_while, no_commands, also, constants, definitions, no_declarations, declare, routine, function, variables, no_definitions, define, no_starts, value, vector, at_expression, size, Bound, Constant, Global, Static, Variable, Label, Address, Destination, not_assignable, no_result_or_return, vec_out_of_range, bound_in, bind, constant_word, kept, deeper, looping, switching, labelled, valued, called, outermost, labels_of, labels_of_each, with_formals, parenthesised, words_of_start, place_after, variables_of, procedures_in, onward, past, numbered, following, after_each, after_done, after_declared, after_one_declared, after_one_defined, after_constant, symbols_each, beginning, Claim, is_claimed, Point, meaning, word, depth, wrong, claim, claimed, judged, deepest, without_depths, at, labels_in_scope, procedures_in_scope, place_after_one_defined, variables_in_scope, scope_after_one, place_after_one, scope_after, place_after_all, unless, its_meaning, its_global, its_frame, inside_procedure, constant, each_constant, at_most, assigned, prefixed, pushed, chosen_at, defaulted_at, one_of, each_of, reported, reported_each, reported_destinations, reported_done, reported_done_each, reported_declared, reported_one_declared, reported_defined, reported_one_defined, reported_started, Callable, FrameSound, Sound, SoundEach, SoundDestinations, SoundDone, SoundDoneEach, SoundDeclared, SoundOneDeclared, SoundDefined, SoundOneDefined, SoundStarted, Use, Every, every_front, every_back, every_both, None, le-ltb, GLOBAL_NUMBER, Items, goto, simple, no_items, item, has_address, AllDiffer, within, words_of_vector, place_after_defined, manifests_in_scope, globals_in_scope, its_word, addressed, Usable, GoesTo, HasWord, HasWordUpTo, Operator, Prefix, Simple, Sort, cases_differ, Target, meant, worth, terms_named, lvalue_named, lvalues_named, command_named, commands_named, declarations_named, declaration_named, definitions_named, definition_named, starts_named, labels, labels_each, labels_if, labels_at, labels_onto, labels_in, labels_through, labels_of_declaration, labels_of_declarations, labels_of_definition, labels_of_definitions, labels_of_starts, count, after_starts, after_definition, after_definitions, after_declaration, after_declarations, Part, parts, parts_each, parts_if, parts_at, parts_onto, parts_from, parts_in, parts_through, parts_of_declarations, parts_of_declaration, parts_of_definitions, parts_of_definition, parts_of_starts, goal_of, empty, Wrong, dynamic_name, label_not_here, global_out_of_range, text_of, meanings_of, words_of, used_at, gone_to, depth_named, single_at, manifest_items, static_items, global_items, procedure, reported_of, meanings, words, HaveWords, ManifestsSound, StaticsSound, GlobalsSound, SoundSection, eq-eqb, constant_right, section_sound, Supply, Filled, filled, words_named, step_named, statics_named, named_tree, FillingNames, inl, inr, naming, same_claim, Fault, is_global, numbers, numbers_each, numbers_done, numbers_done_each, numbers_declared, numbers_one_declared, numbers_items, numbers_defined, numbers_one_defined, numbers_started, procedure_in_scope, eqb-true, ◌==◌, joined, sets, total, total_both, all_found, Clean, parts_of_items, labels_of_procedure, bytes_eq, bytes_eq-Decides, target_of, target_of_word, target_of_label, goal}
use Rattle.bk_trans.specs.Program as t

pub data Asked : Type 0 where
  for_value : Asked
  for_truth : Bool → Asked

abbrev pub role : Asked → Role
role for_value = Value
role (for_truth z) = Truth

-- its node, as a condition
abbrev pub asked : Asked → List Binding → Enclosing → Spot → Expression → t.Condition
asked for_value bs p s e = t.holds (term_named bs p s e)
asked (for_truth z) bs p s e = condition_named bs p s e

-- the truth at which it jumps
abbrev pub turn : Asked → Bool
turn for_value = false
turn (for_truth z) = z

-- what its operand is asked for under NOT
abbrev pub negated : Asked → Asked
negated for_value = for_value
negated (for_truth z) = for_truth (not z)

-- What the proofs cite of the crates below: numbers and lists, the tree, scopes, and OCODE.
pub use Rattle.bk_trans.proofs.Lists.{Every, all_found, every_at, every_back, every_both, every_front, map_same, total, total_both}
pub use Rattle.bk_trans.proofs.Terms.{Bool, List, None, Option, Some, [], ap, append_assoc, arith, cond, eq-eqb, eqb-true, false, inl, inr, int_lt, length, length-append, map, max, min, negsuc, not, pos, refl, slice_get, subst, suc, sym, true, zero, ℕ, ℤ, ◌%◌, ◌*◌, ◌++◌, ◌+◌, ◌-◌, ◌<◌, ◌==◌, ◌^◌, ◌∙◌, ◌∷◌, ◌≡◌, ◌≤◌, ◌⊎◌, cases_lt, false≢true, le-ltb, ne_eqb, signed, at_expression, size, Operator, Prefix, Bound, Stmt, Local, Simple, Goal, Target, count, after_definition, after_declaration, after_declarations, goal_of, StaticItem, labels_of_procedure, Part, parts_of_items, push, prefix_code, infix_code, truth_value, procedure_code, word_code, data_code, bytes_eq, bytes_eq-Decides, meant, statics_named, term_named, condition_named, command_named, commands_named, definition_named, definitions_named, labels, labels_if, labels_in, labels_through, labels_of_definition, labels_of_definitions, label_place, target_of, target_of_word, parts, parts_if, parts_in, parts_through, parts_of_definition, parts_of_definitions, goal, Sort, cases_differ, worth, terms_named, lvalue_named, lvalues_named, declarations_named, declaration_named, starts_named, labels_each, labels_at, labels_onto, labels_of_declaration, labels_of_declarations, labels_of_starts, after_starts, after_definitions, parts_each, parts_at, parts_onto, parts_from, parts_of_declarations, parts_of_declaration, parts_of_starts, constant_right, section_sound, Supply, Filled, filled, words_named, step_named, named_tree, FillingNames, section_clean, IsSection, text_size, program_of, scheme, AreWords, SchemeIsAccepted, Clean, target_of_label, first_clean, second_clean}
pub use Rattle.std.proofs.lemmas.List.{append-nil, length-take, map-append}
pub use Rattle.std.specs.Bool.{⊤}
pub use Rattle.bk_base.specs.Strings.{first_bytes}
pub use Rattle.bk_base.specs.declared.limit.TheConstants.{FRAME_WORDS, GLOBAL_NUMBER, NAME_BYTES, OCODE_LABEL, OCODE_STATEMENTS, OCODE_WORDS, VEC_NUMBER}
pub use Rattle.bk_tree.specs.Tree.{Command, Commands, Declaration, Declarations, Definition, Definitions, Expression, Expressions, Items, Mention, Starts, also, apply, assign, binary, block, call, case_of, choice, constants, declarations_in, declare, default, define, definitions, empty, for_loop, function, goto, item, label, more, name, no_commands, no_declarations, no_definitions, no_items, no_starts, none, number, parens, query, repeat, repeat_while, result, routine, simple, switch, table, test, text, truth, unary, valof, value, variables, vector, when, while}
pub use Rattle.bk_scope.specs.Cases.{AllDiffer, NoneOf}
pub use Rattle.bk_scope.specs.Constants.{constant_word}
pub use Rattle.bk_scope.specs.Entering.{labels_of, labels_of_each, with_formals}
pub use Rattle.bk_scope.specs.Faults.{addressed, assigned, at_most, chosen_at, constant, defaulted_at, depth_named, each_constant, each_of, faults, global_items, gone_to, inside_procedure, its_frame, its_global, its_meaning, its_word, manifest_items, meanings, one_of, prefixed, procedure, pushed, single_at, static_items, reported, reported_declared, reported_defined, reported_destinations, reported_done, reported_done_each, reported_each, reported_of, reported_one_declared, reported_one_defined, reported_started, unless, used_at, words}
pub use Rattle.bk_scope.specs.Found.{Claim, is_claimed, naming, same_claim}
pub use Rattle.bk_scope.specs.Names.{parenthesised, place_after, place_of_second, role_of_operand, role_of_operands, variables_of, within, words_of_start, words_of_vector}
pub use Rattle.bk_scope.specs.Places.{called, deeper, kept, labelled, looping, outermost, switching, valued}
pub use Rattle.bk_scope.specs.Points.{Fault, Point, at, claim, claimed, claims_after, deepest, depth, judged, meaning, meanings_of, without_depths, word, words_of, wrong}
pub use Rattle.bk_scope.specs.Scope.{Binding, bind, bind_all, bound_in, has_address, is_global}
pub use Rattle.bk_scope.specs.Scoping.{globals_in_scope, labels_in_scope, manifests_in_scope, place_after_all, place_after_defined, place_after_one, place_after_one_defined, procedure_in_scope, procedures_in_scope, scope_after, scope_after_one, statics_in_scope, variables_in_scope}
pub use Rattle.bk_scope.specs.Sound.{Callable, FrameSound, GlobalsSound, GoesTo, HasWord, HasWordUpTo, HaveWords, ManifestsSound, Sound, SoundDeclared, SoundDefined, SoundDestinations, SoundDone, SoundDoneEach, SoundEach, SoundOneDeclared, SoundOneDefined, SoundSection, SoundStarted, StaticsSound, Usable}
pub use Rattle.bk_scope.specs.Spots.{Spot, beginning, following, after_constant, after_declared, after_done, after_each, after_one_declared, after_one_defined, numbered, numbers, numbers_declared, numbers_defined, numbers_done, numbers_done_each, numbers_each, numbers_items, numbers_one_declared, numbers_one_defined, numbers_started, onward, past, procedures_in, symbols_each}
pub use Rattle.bk_scope.specs.Wrong.{Wrong, dynamic_name, global_out_of_range, label_not_here, no_result_or_return, not_assignable, text_of, vec_out_of_range}
pub use Rattle.bk_scope.specs.declared.bound.Bound.TheVariants.{Constant, Global, Label, Static, Variable}
pub use Rattle.bk_scope.specs.declared.place.Enclosing.{Enclosing}
pub use Rattle.bk_scope.specs.declared.role.Role.{Role}
pub use Rattle.bk_scope.specs.declared.role.Role.TheVariants.{Address, Destination, Truth, Value}
pub use Rattle.bk_ocode.specs.Lists.{joined}
pub use Rattle.bk_ocode.specs.StmtRange.{AreCases, AreEntries, AreTyped, InRange, IsDepth, IsGlobal, IsLabel, IsSlot, IsVariable}
pub use Rattle.bk_ocode.specs.Typing.{AllEntries, AllJump, Fits, Standing, Typed, Use, begins, body, done, ended, ends, enters, gives, goes, jumps, lands, outside, points, results, returns, sets, takes, times_set}
pub use Rattle.bk_ocode.specs.declared.stmt.Case.{Case}
pub use Rattle.bk_ocode.specs.declared.stmt.GlobalEntry.{GlobalEntry}
pub use Rattle.bk_ocode.specs.declared.stmt.Stmt.TheVariants.{Assign, AssignAt, AssignByte, CallFunction, CallRoutine, DataAddress, DataLabel, DataNumber, Dyadic, EndProcedure, Entry, Finish, GiveResult, Globals, Jump, JumpIf, Load, LoadByte, Monadic, Number, Query, Return, ReturnItem, Save, Stack, Store, Switch, TakeResult, Text, True}

-- The names of the layers below that several of these proofs use.
pub use Rattle.std.proofs.Common.{ℕ, suc, List, [], ◌∷◌, ◌++◌, refl, sym, subst, append_assoc, ◌≡◌, ◌⊎◌, ◌+◌, ◌≤◌, length, ◌∙◌, map, ap, rules, inl, inr, ◌<◌, Bool, IsTrue, Option, None, Some, arith, append-nil, length-append, ◌^◌, true, false, cond, ◌≢◌, max, Result, Ok, Err, OnOk, take, drop, get_or, Bor, ◌-◌, IfErr, ap₂, if◌then◌else◌, zero, ◌==◌, nat_lt, ◌*◌, slice_get, eqb-true, ◌%◌, ◌||◌, OnErr, is_ok, is_err}
pub use Rattle.std.proofs.lemmas.Bool.{cases_lt, ltb-true, and_parts}
pub use Rattle.std.proofs.lemmas.List.{map-append, length-map, append_cancel_left, take_more, take-append-drop, append_cancel_right, length-take}
pub use Rattle.std.specs.Io.KnownBytes.{Consumes, Appends, Keeps}
pub use Rattle.std.specs.Option.{option_map_or}
pub use Rattle.std.specs.Prelude.{IsErr, ⊤, pos, codes}
pub use Rattle.bk_base.specs.DeviceLaws.{Begins-trans, Appends-trans, AppendsPart-after, AppendsPart-front, Appends-Keeps, AppendsPart-kept, Begins-refl, Consumes-nothing, Consumes-trans, Appends-nothing}
pub use Rattle.bk_base.specs.Devices.{NothingLeft, AppendsPart, Begins}
pub use Rattle.bk_base.specs.declared.limit.TheConstants.{INPUT_BYTES, STORE_MOST, FRAME_WORDS_LEAST, FRAME_WORDS, SECTION_BYTES, GLOBAL_NUMBER, VEC_NUMBER}
pub use Rattle.bk_base.specs.declared.ocode_fault.OcodeFault.{OcodeFault}
pub use Rattle.bk_base.specs.declared.refused.Refused.{Refused}
pub use Rattle.bk_base.specs.declared.refused.Refused.TheVariants.{Fault, Device}
pub use Rattle.bk_base.specs.declared.run_end.End.{End}
pub use Rattle.bk_base.specs.declared.run_end.End.TheVariants.{WriteFault, Status, DivideByZero, StoreLimit, StepLimit, BadOperation, ReadFault}
pub use Rattle.bk_base.specs.declared.source_fault.SourceFault.{SourceFault}
pub use Rattle.bk_gen.specs.BackEnd.{Part, segments, image, items_of_part, depth_of, own_of, parts_at, program_of, start_of, machine_after, IsPartly, going, stopped, HoldsFrames, BackEnd, BackEndHolds, PartsAreWellPlaced, PartsWithoutStart, ◌begins◌, GoesOn}
pub use Rattle.bk_gen.specs.Represents.{frame_words, Represents, EndsWithFrame}
pub use Rattle.bk_grammar.specs.Rows.{inner, left, following, is_relation, leaf}
pub use Rattle.bk_grammar.specs.SyntaxFault.{IsSection}
pub use Rattle.bk_machine.specs.Placement.{SEGMENTS, stack_start, any_starts, greatest_frame, loaded_store, segment_size}
pub use Rattle.bk_machine.specs.Runs.{Ran, Blames, Standing, Over, output_of, Going, run, Finished, Devices}
pub use Rattle.bk_machine.specs.SegmentItems.{items_of}
pub use Rattle.bk_machine.specs.SegmentLaws.{segment_whole}
pub use Rattle.bk_machine.specs.State.{store_of, registers_of}
pub use Rattle.bk_machine.specs.declared.item.Item.{Item}
pub use Rattle.bk_machine.specs.declared.registers.Registers.{Registers}
pub use Rattle.bk_intcode.specs.ItemText.{item_text}
pub use Rattle.bk_lex.proofs.Lemmas.{more_undecided, means_as, lexed_has_fault, lexed_told, lexed_is_section, section_is_lexed}
pub use Rattle.bk_lex.specs.Counting.{Step, start, step_of, finished, ◌>>=◌}
pub use Rattle.bk_lex.specs.Cutting.{goes_on_from, then_on, cut_as, NotEnded, Settled}
unfoldable pub use Rattle.bk_lex.specs.Cutting.{state_after}
pub use Rattle.bk_lex.specs.Found.{cut_after, SectionBytes}
pub use Rattle.bk_lex.specs.Lexing.{Section, section_of, lexed, inserted_symbols}
pub use Rattle.bk_lex.specs.Symbol.{Symbol, symbols_of, symbol}
pub use Rattle.bk_lex.specs.declared.counting.State.{State}
pub use Rattle.bk_ocode.proofs.Lemmas.{each_stmt, words_of-printed, section_whole}
pub use Rattle.bk_ocode.specs.Cells.{Content, Unset, Partly, Word, Variable, Held, write, Cell}
pub use Rattle.bk_ocode.specs.Depth.{largest_depth}
pub use Rattle.bk_ocode.specs.SectionStmts.{stmts_of}
pub use Rattle.bk_ocode.specs.SectionText.{section_words, section_text}
pub use Rattle.bk_ocode.specs.StmtRange.{AreBytes, AreTyped, InRange, IsTyped, IsGlobal, IsLabel}
pub use Rattle.bk_ocode.specs.declared.stmt.Stmt.{Stmt}
pub use Rattle.bk_scope.specs.Constants.{constant_word, is_prefix_of_constants, is_infix_of_constants, divides_by_zero}
pub use Rattle.bk_scope.specs.Entering.{with_formals, labels_of, labels_of_each}
pub use Rattle.bk_scope.specs.Names.{words_of_start, place_after, variables_of, parenthesised, role_of_operand, role_of_operands, place_of_second}
pub use Rattle.bk_scope.specs.Scope.{Binding, bound_in, bind, bind_all, is_global, has_address}
pub use Rattle.bk_scope.specs.Scoping.{labels_in_scope, procedure_in_scope, procedures_in_scope, variables_in_scope, manifests_in_scope, statics_in_scope, globals_in_scope, scope_after_one, place_after_one, scope_after, place_after_one_defined, place_after_all}
pub use Rattle.bk_scope.specs.declared.bound.Bound.{Bound}
pub use Rattle.bk_scope.specs.declared.place.Enclosing.{Enclosing}
pub use Rattle.bk_simulation.specs.Regular.{Regular, RegularItems, RegularDeclaration, RegularDeclarations, starts, RegularEach, RegularCommand, RegularCommands, RegularDefinition, RegularDefinitions, RegularStarts, DefineNoVariables, DeclareNoVariables, IsRegular}
pub use Rattle.bk_tree.specs.Parts.{start_count, at_expression, size}
pub use Rattle.bk_tree.specs.Section.{declarations_of}
pub use Rattle.bk_tree.specs.Tree.{Declarations, Mention, Expression, Declaration, Items, Definitions, Starts, Expressions, Command, Commands, Definition}
pub use Rattle.bk_words.specs.TextEnd.{AtEnd}
pub use Rattle.bk_words.specs.Words.{words_of}
pub use Rattle.bk_filters.specs.Code.{intcode}
pub use Rattle.bk_filters.specs.Compiling.{AreAllTyped, Compiles, PutsSections, Accepts, Takes, Comes, Delivers, Delivered}
pub use Rattle.bk_filters.specs.CompilingSection.{codes_in, trees_in, Compiled, Refuses, source_refused, Translates, HasCode, RefusesSymbols}
pub use Rattle.bk_filters.specs.Filters.{Written, Puts, Breaks, Ends}
pub use Rattle.bk_filters.specs.Generating.{ocode, Generated, IsGenerated, AreGenerated, sections_of, Generates}
pub use Rattle.bk_filters.specs.Headline.{Headline, Language, OneBegins, IsWhole, IsEnd, IsPart, NeverEnds, Reaches, Covers, TooFew, Agrees, Runs}
pub use Rattle.bk_filters.specs.Interpreting.{AnyBytes, Streams, Interpreted, devices_of, first_registers, is_read_fault, is_read, TextRefused, CodeRefused}
pub use Rattle.bk_filters.specs.OcodeRuns.{ReportsFrames, IsNotRefused, FindsNoFault, RunsAsSteps, OcodeRuns}
pub use Rattle.bk_filters.specs.Pieces.{joined}
pub use Rattle.bk_filters.specs.ReadingSource.{Asked, Follows, IsUndecided, Settles, IsDelivered, TakesHeld, EachSource}
pub use Rattle.bk_filters.specs.RunningSource.{Assembled}
pub use Rattle.bk_filters.specs.SectionNumbers.{stmts_of_parts}
pub use Rattle.bk_filters.specs.Sizes.{sizes_line, Reports}
pub use Rattle.bk_filters.specs.SourceCode.{IsCodeOf, InterpretsSources, FramesAreOfSources, RunsAs, FiltersWriteCode, GeneratesAs, OneAfterAnother}
pub use Rattle.bk_filters.specs.SourceMeaning.{meanings_with, meanings, MeaningRuns, MeaningTooSmall, MeaningStartless, frame_of, HasWords, HasFramesOf, HasNoStart, MeaningEnds, MeaningGoesOn, EnoughToEnd, EnoughToGo, Placing, StepsToEnd, StepsToGo, image_of, MeaningRefuses}
pub use Rattle.bk_filters.specs.SourceSections.{HasTrees, IsRefused, HasParts}
pub use Rattle.bk_filters.specs.Sources.{IsTree, Means, Accepted, WholeSection, bytes_of, trees_of, AreAccepted, stmts_of_tree, codes_of_trees, codes_of, texts_of, line_following}
pub use Rattle.bk_filters.specs.Telling.{Output, output, ReportsLine}
pub use Rattle.bk_filters.specs.Texts.{part_number, Format, parts, refused, all_words, AreWhole, SaysWhateverFollows, Applies, StopsInPart, Says}
pub use Rattle.bk_filters.specs.declared.kit_fault.KitFault.{KitFault}
pub use Rattle.bk_filters.specs.declared.kit_fault.KitFault.TheVariants.{Source, Ocode, Intcode, TooSmall, NoStart, Read, Write, Memory}
pub use Rattle.bk_filters.specs.declared.section.CompiledSection.{CompiledSection}
pub use Rattle.bk_filters.specs.declared.section.SectionCode.{SectionCode}
pub use Rattle.bk_machine.specs.declared.load_fault.LoadFault.{LoadFault}
pub use Rattle.bk_lex.specs.declared.counting.Act.{Act}
pub use Rattle.bk_lex.specs.declared.reserved.What.{What}
pub use Rattle.bk_lex.specs.declared.token.Kind.{Kind}
pub use Rattle.bk_tree.specs.declared.tree.Prefix.{Prefix}
pub use Rattle.bk_tree.specs.declared.tree.Simple.{Simple}
pub use Rattle.bk_tree.specs.declared.tree.Sort.{Sort}
pub use Rattle.bk_ocode.specs.declared.stmt.Stmt.TheVariants.{Number, True, False, Query, Load, Address, Text, Monadic, Dyadic, LoadByte, Assign, AssignAt, AssignByte, Jump, JumpIf, GiveResult, Entry, CallFunction, CallRoutine, ReturnItem, Return, Switch, Finish, DataNumber, Save, EndProcedure, Globals}
pub use Rattle.bk_scope.specs.Faults.{unless, used_at, gone_to, constant_name, constant_wrongs, constant_wrongs_each, its_word, constant, each_constant, at_most, assigned, addressed, prefixed, depth_named, pushed, chosen_at, defaulted_at, single_at, one_of, each_of, manifest_items, static_items, global_items, its_meaning, its_global, its_frame, inside_procedure, procedure, reported, reported_each, reported_destinations, reported_done, reported_done_each, reported_declared, reported_one_declared, reported_defined, reported_one_defined, reported_started, reported_of, words, faults}
pub use Rattle.bk_scope.specs.Places.{kept, deeper, looping, switching, labelled, valued, called, outermost}
pub use Rattle.bk_scope.specs.Wrong.{Wrong, not_assignable, no_result_or_return, global_out_of_range, vec_out_of_range, Breach}
pub use Rattle.bk_simulation.specs.Simulation.{Begin, end_of, EndsWithin, ComesWithin, RunsOut, DoesEnd, Does, DoesFrom, StillGoes, RunsOutOnTheWay, StepsDoWhatSourcesMean, StepsGoOnWithTheirSource, StartsWithTheirSource, IsWithoutEnd, StartsSo, with_start, without_start}

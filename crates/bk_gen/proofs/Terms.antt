-- The words of the layers below that most of these proofs use.
pub use Rattle.bk_machine.specs.Placement.{SEGMENTS, segment_size, stack_start, operation_word, item_words, LIBRARY, library_words, Setting, start_words, library_settings, all_settings, with_setting, unset_store, loaded_store, label_number, segment_settings, starts, any_starts, Growth, grown, segment_words}
pub use Rattle.std.proofs.lemmas.Bool.{eqb-true, ltb-true, lt-ltb, cases_order, leb-true, leb-false, or_cases, and_parts, or_left, or_right, false≢true, eq-eqb, cases_eq, cases_Bool, or_from, and_from, not-true, false_from_ne_true, le-leb, eqb-false, ltb-false, cond_both, cond-false, le-ltb, ne_eqb, not-false, cond-true, or_parts, cases_lt}
pub use Rattle.std.proofs.lemmas.Bool.Decides.{nat_tests, Decides-int_eq}
pub use Rattle.std.proofs.lemmas.List.{length-set, take_rest, map-append, length-map, drop_more}
pub use Rattle.std.proofs.lemmas.Option.{none-some, slice_get-get_or, slice_get_within, get_or_from_slice_get, slice_get-map, slice_get_past, same_Some}
pub use Rattle.std.specs.Option.{option_map_or, option_map}
pub use Rattle.std.specs.Prelude.{slice_get, slice_set, pos, ⊤, ℤ, nat_le, ◌||◌, option_and_then, ◌==◌, ◌&&◌, fold, nat_lt, not}
pub use Rattle.bk_base.specs.Word.{word_sum, word_of, truth, word_with_byte, packed_word, word_byte, byte_distance, byte_place, word_negation, word_not, signed, word_difference}
pub use Rattle.bk_base.specs.declared.limit.TheConstants.{STORE_MOST, GLOBAL_NUMBER, OCODE_STATEMENTS, FRAME_WORDS, FRAME_WORDS_LEAST, INTCODE_ITEMS, INTCODE_LABEL, OCODE_LABEL}
pub use Rattle.bk_base.specs.declared.run_end.End.{End}
pub use Rattle.bk_machine.specs.Inner.Getting.{get_set_same, get_set_other, get_front, get_after, get_inside}
pub use Rattle.bk_machine.specs.RunLaws.{onwards, run-add, input_of, run-begins, onwards-begins}
pub use Rattle.bk_machine.specs.Runs.{Over, after, Going, run, Standing, output_of, next_byte, after_next}
pub use Rattle.bk_machine.specs.Step.{executed, switched, stored, matched}
pub use Rattle.bk_machine.specs.declared.item.Operand.{Operand}
pub use Rattle.bk_machine.specs.declared.registers.Registers.{Registers}
pub use Rattle.bk_ocode.specs.Cells.{Content, Variable, Cell, Free, Held, content_of, Word, Temporary, write, Unset, below, Partly, byte_in, four_bytes, with_byte, settle, Kind, kind_of, Link}
pub use Rattle.bk_ocode.specs.OcodeState.{State, Placed, Inside, Callables, Control, At, Goes, Wild, Following, global_place, Routine, Next, Ends, rest_place, Placement, Stop, Rdch, Wrch, Newline, Writes, Writen, Writed, Getbyte, Putbyte, Writef}
pub use Rattle.bk_ocode.specs.OcodeStep.{on, dyadic_word, push, on_number, on_some, from_label, step, step_by, case_label, routine_step, operated, is_label, named_place, has_word, step_in, step_from, can_be_called, call, jump, slot as item_at}
pub use Rattle.bk_ocode.specs.declared.stmt.Stmt.{Stmt}
pub use Rattle.bk_ocode.specs.declared.stmt.Stmt.TheVariants.{Label, Entry, CallFunction, CallRoutine, Text, EndProcedure, DataLabel, DataNumber, DataAddress, Save, ReturnItem, Return, Finish, Globals, Jump, JumpIf, Switch, Query, LoadByte, AssignByte, Stack, Store, Number, Load, Address, Assign, GiveResult, TakeResult, True, False, Monadic, AssignAt}
pub use Rattle.bk_gen.specs.Accumulator.{kept_if, knows, comparison, evaluated_so, flushed_so, flushed, put_in, filled, evaluate, take, taken, evaluated, reads_below, fill, saved, with_item, IsLow, flush, HasLowSlot, is, unknown, word_is_below, is_other, keeps_through, with_loaded, compare, release, put, forget}
pub use Rattle.bk_gen.specs.Agreement.{SameWord, SameCell, IsHeld, Mirrors, MachineState, SameHand, Agrees, IsInStack, SameByte, HasByte, SameContent, Matches}
pub use Rattle.bk_gen.specs.Code.{last_of, but_last, Point, lowered, Kept, top, with_result, items_of, next_point, spill, brought, point, nothing, finish, finished, section_items, start, instructions, code_of, bring, following, settled, lower_items, mirror, mirrored, plan_of, has_room, push_items, pushed, second, spill_more, spilled_if, at_items, after_at, number_in, compared, subtracted, combine, take_side, plan_items, plan_known, folded_numbers, folded, is_saved_from, dyadic_by, after_dyadic_by, is_zero, comes_next, jump_unless, test_jump, only_test, jump_by, jump_known, is_settled, with_test, number_operand, is_nothing, is_empty}
pub use Rattle.bk_gen.specs.Instructions.{slot, same_value, Instruction, code, load, item_of, number, store_slot, operate, dyadic_operation, same_operand, same_bool, operand_of, slot_address, store, add, go_to, jump_function}
pub use Rattle.bk_gen.specs.PlacedStore.{HasWords, LiesAt, word_at, code_word, fixed_word, words_at}
pub use Rattle.bk_gen.specs.Represents.{ahead, Leads, PACE, Follows, EndsSo, Represents, EndsWithFrame, frame_words, Does, Lays, as_setting, StopsBefore, Begins}
pub use Rattle.bk_gen.specs.declared.accumulator.Accumulator.{Accumulator}
pub use Rattle.bk_gen.specs.declared.accumulator.Unsaved.{Unsaved}
pub use Rattle.bk_gen.specs.declared.value.Value.{Value}
pub use Rattle.bk_base.specs.declared.run_end.End.TheVariants.{StoreLimit, Status, DivideByZero}
pub use Rattle.bk_gen.specs.LibraryWords.{library_word}
pub use Rattle.bk_machine.specs.Decoding.{operation_by}
pub use Rattle.bk_machine.specs.declared.item.Item.{Item}
pub use Rattle.bk_ocode.specs.Depth.{next_depth, largest_depth, depth_after, largest_after, least_depth, load_depth}
pub use Rattle.bk_ocode.specs.Library.{library_routine, library_globals}
pub use Rattle.bk_ocode.specs.StepLaws.{IsNotAmong, Keeps, KeepsNext}
pub use Rattle.std.proofs.Common.{◌≡◌, ◌++◌, drop, ◌+◌, ◌≤◌, length, List, sym, ap, ◌∙◌, subst, ℕ, suc, ◌*◌, ◌<◌, Bool, true, false, [], append-nil, Option, Some, None, refl, arith, ◌⊎◌, inl, inr, add_assoc, zero, ◌-◌, ◌^◌, ◌∷◌, append_assoc, if◌then◌else◌, ◌≢◌, map, length-append, get_or, ◌%◌, w32, negsuc, max, take as take_list, FitsSigned, length-drop}
pub use Rattle.std.proofs.Math.Bool.{or_assoc, or-false}
pub use Rattle.std.proofs.lemmas.Nat.{mul-le, and_comm, or_comm, xor_comm}
pub use Rattle.bk_machine.specs.FormatLaws.{FormatIsOfParts, argument_text, parts_text}
pub use Rattle.bk_machine.specs.Inner.CheckedSegment.{sets_once, are_all, is_end}
pub use Rattle.bk_machine.specs.ItemWords.{joined_words, ArePlain, plain_words, byte_words}
pub use Rattle.bk_machine.specs.LoadedWords.{settings_joined, stack_more, IsLoaded, AreBounded, settings_bounded, kept_word, settings_length, is_loaded, SegmentAt, segments_at, AreSegments, lie_in_order, lie_apart}
pub use Rattle.bk_machine.specs.Output.{byte_of, whole_text, cut_text, text_then, string_rest, string_text}
pub use Rattle.bk_machine.specs.RunLengths.{run_length}
pub use Rattle.bk_machine.specs.Segment.{sets, is_frame, IsSegment, operand_is_set, use_is_set, frame_of}
pub use Rattle.bk_machine.specs.ShorterStores.{Stopped, IsLonger, shortens, run_reads}
pub use Rattle.bk_machine.specs.SizeLaws.{number_there, number_within, segment_length}
pub use Rattle.bk_machine.specs.StepLaws.{place_of, Meant, step-short, step-long}
pub use Rattle.bk_machine.specs.declared.item.Function.{Function}
pub use Rattle.bk_ocode.specs.Access.{variable_at, variable_in, byte_at, word_with_byte_at, bytes_from, string_at}
pub use Rattle.bk_ocode.specs.Labels.{label_set, jump_labels, data_labels, static_label}
pub use Rattle.bk_ocode.specs.OcodeRun.{Rest, rest_of, or_rest, rests, rests_of, in_hand, kept, resumed_by, resumed, Stretch, Final, find_rest, IsAtRest, last, more, end, before, Program, resumed_in}
pub use Rattle.bk_ocode.specs.ProgramStart.{all_data, all_globals, is_global, unset_cells, with_global, first_cells}
pub use Rattle.bk_ocode.specs.Section.{IsSection, AreFaultless}
pub use Rattle.bk_ocode.specs.SectionData.{Datum, is_datum, string_words, entry_setting, stmt_globals, globals_of, packed, text_size, datum_word, GlobalSetting, is_in, data_of}
pub use Rattle.bk_ocode.specs.SectionLaws.{IsAmong, jump_depth, SectionIsShort, TextIsShort}
pub use Rattle.bk_ocode.specs.SoundRuns.{IsProgram, IsControl, Sound, SoundStep, Grown, steps_left, statements_left, is_usable}
pub use Rattle.bk_ocode.specs.StmtRange.{InRange, IsLabel, IsVariable, IsTyped, AreTyped}
pub use Rattle.bk_ocode.specs.declared.stmt.Case.{Case}
pub use Rattle.bk_ocode.specs.declared.stmt.Dyadic.{Dyadic}
pub use Rattle.bk_ocode.specs.declared.stmt.Dyadic.TheVariants.{Multiply, Divide, Remainder, Add, Subtract, Equal, Unequal, Less, Greater, AtMost, AtLeast, ShiftLeft, ShiftRight, And, Or, Eqv, Neqv}
pub use Rattle.bk_ocode.specs.declared.stmt.GlobalEntry.{GlobalEntry}
pub use Rattle.bk_ocode.specs.declared.stmt.Monadic.TheVariants.{Contents, Negate, Not}
pub use Rattle.bk_ocode.specs.declared.stmt.Variable.TheVariants.{Local, Global, Static}
pub use Rattle.bk_gen.specs.BackEnd.{Part, PartAt, parts_at, own_of, segments, image, depth_of, callables_of, program_of, HOME, machine_after, ◌begins◌, ◌ends_in◌, IsPartly, going, stopped, HoldsFrames, BackEnd, GoesOn, placed, start_of, is_entry_of, is_entry_in, BackEndHolds}
pub use Rattle.bk_gen.specs.Laws.{RunLaws, Laws}
pub use Rattle.bk_gen.specs.PlainCode.{pairs, settings_of, text_label, byte_items, text_items, texts_of, plain_items, table, setting_item, setting_items}
pub use Rattle.bk_gen.specs.Points.{point_of, Fits, kept_of, IsAt}
pub use Rattle.bk_gen.specs.declared.plan.Plan.{Plan}
pub use Rattle.bk_machine.specs.declared.operation.Operation.{Operation}
pub use Rattle.bk_machine.specs.declared.operation.Operator.{Operator}
pub use Rattle.bk_machine.specs.declared.output.Output.{Output}
pub use Rattle.bk_machine.specs.declared.output.Piece.{Piece}
pub use Rattle.bk_gen.specs.ItemEnds.{items_before, point_at, ends_before}
pub use Rattle.bk_ocode.specs.SectionStmts.{stmts_of}
pub use Rattle.bk_ocode.specs.declared.stmt.Monadic.{Monadic as MonadicOperator}

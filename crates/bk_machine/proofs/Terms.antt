-- The names of the layers below that several of these proofs use.
pub use Rattle.indexmap.specs.IndexMap.{get}
pub use Rattle.std.proofs.Common.{ℕ, List, Some, Err, ◌≡◌, ◌≢◌, refl, sym, ◌∙◌, ap, ◌+◌, ◌-◌, ◌≤◌, eqb, arith, take, unwrap_or, map, drop, length, zero, suc, ◌<◌, ◌^◌, ◌%◌, ◌==◌, nat_lt, nat_le, Bool, true, false, ◌&&◌, [], ◌∷◌, Option, None, slice_get, subst, if◌then◌else◌, rules, nat_eq, ◌++◌, Result, Ok, OnOk, OnErr, append_assoc, ◌||◌, ◌*◌, get_or, replicate, set, add-zero, length-append, cond, inl, inr, ◌⊎◌, IsTrue}
pub use Rattle.std.proofs.KnownBytes.{Consumes-nil, Appends-nil, Consumes-trans, Appends-trans, Consumes-kept, Appends-kept, Keeps-refl}
pub use Rattle.std.proofs.lemmas.Bool.{eqb-true, cases_Bool, eqb-false, eq-eqb, ne_eqb, or_cases, or_parts, or_right, false_from_ne_true}
pub use Rattle.std.proofs.lemmas.Bool.Decides.{nat_tests}
pub use Rattle.std.proofs.lemmas.List.{length-drop, length-set, replicate-append-replicate, get_or_read, get_or-set_same, take-append-drop, take_all, drop_all, take_more, drop_more, map_more, append-nil, set-append_left, length-replicate}
pub use Rattle.std.proofs.lemmas.List.Sums.{fold_more, fold-append, fold_push}
pub use Rattle.std.specs.Io.KnownBytes.{append_known, Consumes, Appends, Keeps}
pub use Rattle.std.specs.Prelude.{fold, ⊤, option_and_then, slice_set, max}
pub use Rattle.bk_base.specs.DeviceLaws.{Begins-trans, Begins-refl}
pub use Rattle.bk_base.specs.Devices.{Begins, AppendsPart}
pub use Rattle.bk_base.specs.Word.{word_sum, word_of, signed}
pub use Rattle.bk_base.specs.declared.limit.TheConstants.{STORE_MOST}
pub use Rattle.bk_base.specs.declared.run_end.End.TheVariants.{StoreLimit, ReadFault, WriteFault, Status, DivideByZero, StepLimit, BadOperation}
pub use Rattle.bk_machine.specs.Inner.LabelNumbers.{number_of}
pub use Rattle.bk_machine.specs.Inner.Packing.{IsFilled}
pub use Rattle.bk_machine.specs.Inner.Placed.{placed}
pub use Rattle.bk_machine.specs.Inner.Reach.{reached_all, address_size, operand_size, item_size, reached}
pub use Rattle.bk_machine.specs.Inner.Telling.{Telling, PutsBytes}
pub use Rattle.bk_machine.specs.ItemWords.{grown_after, words_after, words_of_bytes, items_joined, sizes_added, words_of_item}
pub use Rattle.bk_machine.specs.LoadedWords.{AreSegments, AreBounded, settings_joined, items_bounded, segments_bounded, library_bounded, settings_length, below, below_length, stack_more, lie_in_order, is_loaded}
pub use Rattle.bk_machine.specs.Output.{format_rest, string_rest, Text, output_text, whole_text, cut_text, text_then, byte_of, piece_text, plain, with_argument, aligning, lettered, directive, format_text}
pub use Rattle.bk_machine.specs.Placement.{Growth, segment_size, SEGMENTS, stack_start, library_settings, with_setting, starts, Setting, library_words, routine_words, operation_word, item_words, grown, growth, label_place, label_number, segment_settings, item_settings, all_settings, all_words, segment_words, loaded_store, any_starts, greatest_frame}
pub use Rattle.bk_machine.specs.Runs.{Going, Over, next_byte, after_next, after, run, Devices, Exchanged, Follows, Leads, NotAsked, SinceAsk, LeadsToAsk, FlushesFirst, Paused, Finished, Waiting, CutShort, FailedOnTheWay, Broken, Went, Ran, IsOwn, AskFails, CameBy, Answered, HeldBy, Blames, BlamesBefore, devices}
pub use Rattle.bk_machine.specs.Segment.{frame_of, IsSegment, item_sets, sets}
pub use Rattle.bk_machine.specs.SegmentItems.{items_of}
pub use Rattle.bk_machine.specs.Step.{Goes, Outputs, Asks, Ends, step, matched}
pub use Rattle.bk_machine.specs.declared.item.Item.{Item}
pub use Rattle.bk_machine.specs.declared.item.Item.TheVariants.{Instruction, SetLabel, Byte, Word, LabelWord, SetGlobal}
pub use Rattle.bk_machine.specs.declared.output.Directive.{Directive}
pub use Rattle.bk_machine.specs.declared.output.Piece.{Piece}
pub use Rattle.bk_machine.specs.declared.run.Answer.{Answer}
pub use Rattle.bk_base.specs.declared.run_end.End.{End}
pub use Rattle.bk_machine.specs.Inner.Effects.{turn_of, byte_or_end, OwnEnd, Stays}
pub use Rattle.bk_machine.specs.Kept.{words_in, words_on, padded}
pub use Rattle.bk_machine.specs.SegmentLaws.{segment_whole, IsSegment-prop}
pub use Rattle.bk_machine.specs.SizeLaws.{segment_length, number_there, number_within}
pub use Rattle.bk_machine.specs.declared.registers.Registers.{Registers}

-- The names of the layers below that several of these proofs use.
pub use Rattle.std.proofs.Common.{◌≡◌, ◌+◌, ◌++◌, ◌∷◌, [], List, length, Err, sym, subst, ap, ◌∙◌, arith, rules, None, length-append, ℕ, ◌≢◌, ◌⊎◌, inl, inr, zero, suc, ◌-◌, ◌<◌, ◌≤◌, ◌^◌, ◌||◌, ◌&&◌, ◌==◌, nat_lt, Bool, true, false, IsTrue, if◌then◌else◌, pos, Some, take, get_or, map, slice_get, refl, append_assoc, append-nil, length-take, eq-eqb, lt-ltb, w32, ℤ, Option, nat_eq, FitsSigned, drop, length-drop, Ok, Result, negsuc, OnErr, IfOk, IfErr, IfNone}
pub use Rattle.std.proofs.Math.Seq.{take-append_seam, drop-append-add}
pub use Rattle.std.proofs.lemmas.Bool.{cases_lt, false_from_ne_true, or_cases}
pub use Rattle.std.proofs.lemmas.Fmt.{decimal_injective, length-decimal-le, signed_decimal_injective}
pub use Rattle.std.proofs.lemmas.List.{length-map, get_or_append_left, take_all, take_more, take-append-drop, map-append, take-append-le}
pub use Rattle.std.specs.Int.{IsInRange}
pub use Rattle.std.specs.Io.KnownBytes.{Consumes, Appends, Keeps}
pub use Rattle.std.specs.List.{list_all}
pub use Rattle.bk_base.specs.Decimal.{spelling}
pub use Rattle.bk_base.specs.DeviceLaws.{Consumes-trans, Begins-trans, Appends-trans, AppendsPart-after, AppendsPart-front, AppendsPart-kept}
pub use Rattle.bk_base.specs.Devices.{AppendsPart, NothingLeft, Begins}
pub use Rattle.bk_base.specs.declared.intcode_fault.IntcodeFault.{IntcodeFault}
pub use Rattle.bk_base.specs.declared.intcode_fault.IntcodeKind.{IntcodeKind}
pub use Rattle.bk_base.specs.declared.intcode_fault.IntcodeKind.TheVariants.{BadLetter, BadNumber, ByteOver255, LabelNotSet, LabelSetTwice, Truncated, TooLong, FrameGivenTwice}
pub use Rattle.bk_base.specs.declared.limit.TheConstants.{INTCODE_ITEMS, INPUT_BYTES}
pub use Rattle.bk_base.specs.declared.refused.Refused.{Refused}
pub use Rattle.bk_base.specs.declared.refused.Refused.TheVariants.{Fault, Memory, Device}
pub use Rattle.bk_machine.specs.Segment.{sets, item_uses, operand_uses, IsSegment, IsItem, AreItems, operand_is_set, use_is_set, gives_frame, IsOperand, IsLabel, item_sets, is_frame}
pub use Rattle.bk_machine.specs.SegmentItems.{items_of}
pub use Rattle.bk_machine.specs.declared.item.Function.{Function}
pub use Rattle.bk_machine.specs.declared.item.Function.TheVariants.{Load, Store, Add, Jump, JumpTrue, JumpFalse, Call, Operate}
pub use Rattle.bk_machine.specs.declared.item.Item.{Item}
pub use Rattle.bk_machine.specs.declared.item.Item.TheVariants.{End, Instruction, SetLabel, Byte, Word, LabelWord, SetGlobal, Frame}
pub use Rattle.bk_machine.specs.declared.item.Operand.{Operand}
pub use Rattle.bk_machine.specs.declared.item.Operand.TheVariants.{Number, Local, Global, Label}
pub use Rattle.bk_words.specs.Gathering.{Holds, BeginsWord, TakesWord}
pub use Rattle.bk_words.specs.Numerals.{rest_same, first-numeral, numeral-inside, spelling-inside, length-global, length-word, fits-pos, digit-at, at_seam, no_spelling, spelling-some, apart, mag-fits}
pub use Rattle.bk_words.specs.TextEnd.{AtEnd}
pub use Rattle.bk_words.specs.WordLaws.{words_of-word, AreInWord-append, words_of-more_blanks, EndsInBlank-append, IsParted, IsParted-word, EndsInBlank-word, TakesWords-word, words_of-last, words_of-all, words_of-ended, known, nothing_left_at}
pub use Rattle.bk_words.specs.Words.{is_blank, words_of, AreInWord, EndsInBlank}
pub use Rattle.bk_intcode.specs.FirstSaying.{segment, nothing, fault, Says, SayOneThing, texts_of, words_of_all, PrintedIsParted, PrintedAreParted, PrintedSaysAgain, Saying}
pub use Rattle.bk_intcode.specs.ItemFault.{item_fault, all_set, label_not_set, label_set_twice, too_long, frame_given_twice}
pub use Rattle.bk_intcode.specs.ItemText.{letter, item_text, indirect_text, operand_text}
pub use Rattle.bk_intcode.specs.Next.{IsNext}
pub use Rattle.bk_intcode.specs.SegmentAnswer.{Answers, Takes, NoSegmentPassed, PrintedIsReadAgain, AnswersWords, Applies, AppliesWhateverFollows}
pub use Rattle.bk_intcode.specs.SegmentReading.{GivesSegment, IsPartial, FaultAfter, FaultAt, CutAt, StopsAtDevice, GivesNothing, GivesFault, StopsAtWord}
pub use Rattle.bk_intcode.specs.SegmentText.{segment_text}
pub use Rattle.bk_intcode.specs.WordMeaning.{MeansNothing, Means, WordFault, begins_item, IsByteOver255, is_digit, is_function}
pub use Rattle.bk_intcode.specs.declared.words.Found.{Found}
pub use borrow.Author.Tests.{ltb-true, eqb-true}

-- The names of the layers below that several of these proofs use.
pub use Rattle.std.proofs.Common.{arith, ◌≡◌, ℕ, ◌-◌, ◌≤◌, ◌==◌, Bool, true, false, Option, Some, None, List, [], ◌∷◌, refl, sym, subst, if◌then◌else◌, eqb-true, eq-eqb, ◌≢◌, inl, inr, zero, suc, ℤ, FitsSigned, w32, ◌<◌, ◌^◌, ◌++◌, length, slice_get, ap, ◌∙◌, append_assoc, append-nil, not, ◌&&◌, nat_eq, nat_lt, ltb-true, take, rules, pos, ◌||◌, fold, map, ne_eqb, is_some, get_or, IfErr, drop, ◌+◌, max, ◌⊎◌, set, le-leb, nat_le, negsuc, length-append, IsTrue, codes, ltb-false, leb-false, Result, Ok, Err, IfSome, OnErr, lt-ltb, cond, IfNone, slice_index}
pub use Rattle.std.proofs.Math.Bool.{or_assoc, or-false}
pub use Rattle.std.proofs.Math.Path.{fun_ext}
pub use Rattle.std.proofs.Math.Seq.{take-append_seam, drop-append_seam}
pub use Rattle.std.proofs.lemmas.Bool.{cases_lt, le-ltb, lt-leb, and_from, and_parts, cases_Bool, not-false, not-true, or_cases, or_from, or_parts, or_right, cond-true, cond-false}
pub use Rattle.std.proofs.lemmas.Bool.Decides.{Decides-int_eq, eqb_tells, leb_tells}
pub use Rattle.std.proofs.lemmas.Int.{to_z-of_z}
pub use Rattle.std.proofs.lemmas.List.{take-append-le, map-append, take_more, take-append-drop}
pub use Rattle.std.proofs.lemmas.Option.{slice_get_within, slice_get_past, slice_get-get_or, same_Some}
pub use Rattle.std.specs.BTreeMap.{get}
unfoldable pub use Rattle.std.specs.Fmt.{digits}
pub use Rattle.std.specs.Io.KnownBytes.{Appends, Keeps, Consumes}
pub use Rattle.std.specs.List.{list_all, list_any}
pub use Rattle.std.specs.Option.{option_map, option_map_or}
pub use Rattle.std.specs.Ordering.{int_eq, nat_cmp}
pub use Rattle.std.specs.Prelude.{⊤, ◌%◌}
pub use Rattle.bk_base.specs.Decimal.{spelling}
pub use Rattle.bk_base.specs.DeviceLaws.{AppendsPart-front, AppendsPart-after, Begins-trans, Appends-trans}
pub use Rattle.bk_base.specs.Devices.{AppendsPart, Begins, NothingLeft}
pub use Rattle.bk_base.specs.Word.{word_sum, byte_distance, byte_place, packed_word}
pub use Rattle.bk_base.specs.declared.limit.TheConstants.{NAME_BYTES, FRAME_WORDS, GLOBAL_NUMBER, OCODE_WORDS, INPUT_BYTES, OCODE_STATEMENTS}
pub use Rattle.bk_base.specs.declared.ocode_fault.OcodeFault.{OcodeFault}
pub use Rattle.bk_base.specs.declared.ocode_fault.OcodeKind.{OcodeKind}
pub use Rattle.bk_base.specs.declared.ocode_fault.OcodeKind.TheVariants.{BadWord, LabelNotSet, LabelSetTwice, DepthsDisagree, SlotAboveDepth, BadNumber, Truncated, TooLong}
pub use Rattle.bk_base.specs.declared.refused.Refused.{Refused}
pub use Rattle.bk_base.specs.declared.refused.Refused.TheVariants.{Fault, Memory, Device}
pub use Rattle.bk_base.specs.declared.run_end.End.{End}
pub use Rattle.bk_base.specs.declared.run_end.End.TheVariants.{Status, DivideByZero}
pub use Rattle.bk_words.specs.Gathering.{Holds, IsNextWord, BeginsWord}
pub use Rattle.bk_words.specs.Numerals.{fits-pos, spelling-some, spelling-inside, mag-fits, rest_same}
pub use Rattle.bk_words.specs.Taking.{TakesWords, TakesSome, Reads, ReadsAll}
pub use Rattle.bk_words.specs.TextEnd.{AtEnd}
pub use Rattle.bk_words.specs.WordLaws.{words_of-front, Reads-word, Reads-end, Reads-stops, words_of-all, words_of-ended, known, nothing_left_at}
pub use Rattle.bk_words.specs.Words.{is_blank, words_of, AreInWord}
pub use Rattle.bk_ocode.specs.Access.{byte_at, word_with_byte_at, string_at, number_in, variable_in, variable_at}
pub use Rattle.bk_ocode.specs.Cells.{Content, Variable, Held, write, Unset, Word, Link, Cell, Free, content_of, Temporary, with_byte, below, settle, Partly}
pub use Rattle.bk_ocode.specs.Context.{changed, all_changed, with_depth, jumped, given, least_result, mentioned, followed, what_follows, label_followed, labels_named, Context, fresh, at_start, after, after_all, context_of, set_by, start_after, start_from}
pub use Rattle.bk_ocode.specs.Depth.{depth_after, largest_after, next_depth, least_depth, largest_depth, assign_depth}
pub use Rattle.bk_ocode.specs.Drafts.{context_in, IsDraft}
pub use Rattle.bk_ocode.specs.Faults.{misplaced, is_lab_from, is_other_lab, are_other_jumps, jumps_disagree, result_named, follows_badly, own_disagrees, fault_in, stmt_fault, is_entry, data_set, is_set, set_again, jumps_set, label_not_set, is_data, too_long, label_set_twice, depths_disagree, slot_above, over, left_after, is_badly_followed, not_followed}
pub use Rattle.bk_ocode.specs.FirstFault.{IsStmt, IsPartial, BeginsStmt, IsBadWord, IsBadNumber, BreaksRule, PassesWords, FaultOf, FaultAt, CutAt, section, nothing, fault, Says, SayOneThing, Saying}
pub use Rattle.bk_ocode.specs.Frames.{start, HasFrames, called}
pub use Rattle.bk_ocode.specs.Keywords.{kind_of, keyword_text, keyword_of_stmt, candidate_with, keyword_role}
pub use Rattle.bk_ocode.specs.KnownUses.{use_or}
unfoldable pub use Rattle.bk_ocode.specs.KnownUses.{uses_of}
pub use Rattle.bk_ocode.specs.Labels.{jump_labels, label_set, other_labels, result_label, data_labels, item_label, global_labels}
pub use Rattle.bk_ocode.specs.Lists.{joined}
pub use Rattle.bk_ocode.specs.OcodeRun.{Program, Rest, rest_of, or_rest, rests, rests_of, in_hand, kept, resumed_by, resumed, IsAtRest, run, label_rest, program_step_from}
pub use Rattle.bk_ocode.specs.OcodeState.{Callables, Routine, Stop, Rdch, Wrch, Newline, Writes, Writen, Writed, Getbyte, Putbyte, Writef, Control, Inside, Following, At, State, Next, Goes, Ends, Wild, Placement, Placed, global_place, rest_place}
pub use Rattle.bk_ocode.specs.OcodeStep.{slot, return, tells, read_byte, routine_step, step_in, step_from, on_some, step, is_label, on, push, operated, named_place, has_word, from_label, jump, jump_with, case_label, can_be_called, call, dyadic_word, step_by, on_number}
pub use Rattle.bk_ocode.specs.PartialStmts.{has_value, owner_words, partial_words, is_short, IsPartialStmt, NoNatural, NoLabel, NoVariable, NoArgument, IsUnfit, BeginNone, part_words, IsStep, refusal, IsPartialPart, IsOwner, switch_words, entries_words, ArePartialCases, ArePartialEntries}
pub use Rattle.bk_ocode.specs.Places.{role, may_stand, position_after}
pub use Rattle.bk_ocode.specs.ProgramStart.{all_data, all_globals, is_global, unset_cells, with_global, first_cells}
pub use Rattle.bk_ocode.specs.Section.{AreFaultless, IsSection}
pub use Rattle.bk_ocode.specs.SectionAnswer.{Takes, GivesSection, GivesNothing, StopsAtDevice, NoSectionPassed, GivesFault, StopsAtWord, Answers, texts_of, words_of_all, PrintedIsParted, PrintedAreParted, PrintedSaysAgain, PrintedIsReadAgain}
pub use Rattle.bk_ocode.specs.SectionData.{is_datum, text_size}
pub use Rattle.bk_ocode.specs.SectionLaws.{jump_depth, IsAmong, JumpHasItsLabelsDepth, LabelsAreSetOnce, LabelHasOnePlace, JumpFindsItsLabel, ResultFindsItsLabel, DataFindsItsLabel, ItemFindsItsLabel, GlobalFindsItsEntry, GlobalIsLast, TextIsShort, DepthsSuffice, SectionIsShort}
pub use Rattle.bk_ocode.specs.SectionStmts.{stmts_of}
pub use Rattle.bk_ocode.specs.SectionText.{section_text, section_words}
pub use Rattle.bk_ocode.specs.SoundRuns.{Grown, StepsGrow, EndsKeepBytes, IsHeld, is_usable, Sound, FirstStateIsSound, IsProgram, Applies, IsOwn, IsControl, SoundStep, StepsAreSound, ResumingIsSound, IsOpening, statements_left, steps_left, StepsComeNearer}
pub use Rattle.bk_ocode.specs.StepLaws.{KeepsNext, IsNotAmong, StepKeepsBelow}
pub use Rattle.bk_ocode.specs.StmtRange.{IsLabel, IsVariable, AreCases, InRange, AreTyped, IsGlobal, IsTyped, AreEntries, IsDepth, AreBytes}
pub use Rattle.bk_ocode.specs.StmtText.{keyword, argument_words, stmt_words, natural_word, label_word, variable_word, byte_words, case_words, global_words, stmt_text, spaced}
pub use Rattle.bk_ocode.specs.Typing.{Use, unused, jumps, results, word, entry, AllJump, Agrees, Standing, outside, body, ended, AllEntries, Fits, Typed, done, enters, goes, lands, takes, returns, gives, begins, holds, points, ends, sets, times_set, TypedIsSection}
pub use Rattle.bk_ocode.specs.declared.keyword.Keyword.{Keyword}
pub use Rattle.bk_ocode.specs.declared.partial.Owner.{Owner}
pub use Rattle.bk_ocode.specs.declared.partial.Partial.{Partial}
pub use Rattle.bk_ocode.specs.declared.partial.Unfit.{Unfit}
pub use Rattle.bk_ocode.specs.declared.section.Ocode.{Ocode}
pub use Rattle.bk_ocode.specs.declared.standing.JumpDepths.{JumpDepths}
pub use Rattle.bk_ocode.specs.declared.standing.LabelUse.{LabelUse}
pub use Rattle.bk_ocode.specs.declared.standing.Position.{Position}
pub use Rattle.bk_ocode.specs.declared.standing.Position.TheVariants.{Outside, Ended}
pub use Rattle.bk_ocode.specs.declared.standing.Setting.{Setting}
pub use Rattle.bk_ocode.specs.declared.standing.StmtPlace.{StmtPlace}
pub use Rattle.bk_ocode.specs.declared.standing.StmtPlace.TheVariants.{Outer, Body, Datum, Taker, Last}
pub use Rattle.bk_ocode.specs.declared.stmt.Case.{Case}
pub use Rattle.bk_ocode.specs.declared.stmt.GlobalEntry.{GlobalEntry}
pub use Rattle.bk_ocode.specs.declared.stmt.Monadic.TheVariants.{Contents, Negate, Not}
pub use Rattle.bk_ocode.specs.declared.stmt.Stmt.{Stmt}
pub use Rattle.bk_ocode.specs.declared.stmt.Stmt.TheVariants.{Load, Address, Assign, Jump, JumpIf, Label, GiveResult, Entry, Switch, DataLabel, DataAddress, Globals, Number, True, False, Query, Text, Monadic, Dyadic, LoadByte, AssignAt, AssignByte, TakeResult, Stack, Store, Save, CallFunction, CallRoutine, ReturnItem, Return, EndProcedure, Finish, DataNumber}
pub use Rattle.bk_ocode.specs.declared.stmt.Variable.TheVariants.{Local, Global, Static}
pub use Rattle.bk_ocode.specs.declared.keyword.VariableKind.{VariableKind}

-- The names of the layers below that several of these proofs use.
pub use Rattle.std.proofs.Common.{ℕ, List, [], ◌∷◌, ◌++◌, refl, sym, subst, append_assoc, ◌≡◌, ◌⊎◌, ◌+◌, ◌≤◌, length, ◌∙◌, map, ap, rules, inl, inr, ◌<◌, Bool, IsTrue, Option, None, Some, arith, append-nil, ◌^◌, true, false, ◌≢◌, Result, Ok, Err, Bor, ◌-◌, IfErr, ap₂, if◌then◌else◌, codes, IfSome, IsSome, IfOk, option_map}
pub use Rattle.std.proofs.lemmas.List.{map-append, length-map}
pub use Rattle.std.specs.Io.KnownBytes.{Consumes, Keeps}
pub use Rattle.std.specs.Prelude.{IsErr, Box}
pub use Rattle.std.specs.Str.Parse.{ParsesUnsigned, ExplainsUnsignedError, HasUnsignedDigitsIfOk, ParsesBool}
pub use Rattle.bk_base.specs.Bounds.{Bounds}
pub use Rattle.bk_base.specs.DeviceLaws.{Begins-trans, Begins-refl, Consumes-nothing, Consumes-trans, Begins-Keeps}
pub use Rattle.bk_base.specs.Devices.{Begins}
pub use Rattle.bk_base.specs.declared.limit.TheConstants.{INPUT_BYTES}
pub use Rattle.bk_base.specs.declared.ocode_fault.OcodeFault.{OcodeFault}
pub use Rattle.bk_base.specs.declared.refused.Refused.{Refused}
pub use Rattle.bk_base.specs.declared.refused.Refused.TheVariants.{Fault, Device}
pub use Rattle.bk_base.specs.declared.run_end.End.{End}
pub use Rattle.bk_base.specs.declared.run_end.End.TheVariants.{WriteFault, StepLimit}
pub use Rattle.bk_gen.specs.BackEnd.{segments}
pub use Rattle.bk_gen.specs.Represents.{Represents}
pub use Rattle.bk_machine.specs.Runs.{Ran, HeldBy, Paused, Devices, Went, devices}
pub use Rattle.bk_machine.specs.State.{store_of, registers_of, end_of}
pub use Rattle.bk_machine.specs.declared.registers.Registers.{Registers}
pub use Rattle.bk_lex.specs.Lexing.{Section, lexed}
pub use Rattle.bk_lex.specs.Symbol.{Symbol, symbols_of}
pub use Rattle.bk_ocode.specs.SectionStmts.{stmts_of}
pub use Rattle.bk_ocode.specs.declared.stmt.Stmt.{Stmt}
pub use Rattle.bk_tree.specs.Section.{declarations_of}
pub use Rattle.bk_tree.specs.Tree.{Declarations}
pub use Rattle.clap.proofs.WalkLemmas.{one_text-rows, first_value-rows}
pub use Rattle.clap.specs.Faults.{fault_of, is_simple_and_free}
pub use Rattle.clap.specs.Simple.{app_of_fields}
pub use Rattle.clap.specs.Words.{app_of, with_rule, found_of, rows_of, one_of, App, HasMatchesOf, Row, Text, subcommand_of, subcommand_rows_of, first_of, with_subcommand, subcommand_name_of, subcommand_rows, ReadsOne, IsAmong, takes}
pub use Rattle.clap.specs.declared.builder.Command.TheViews.{out-Command}
pub use Rattle.bk_filters.specs.CompilingSection.{codes_in, trees_in, Compiled, Refuses, HasCode}
pub use Rattle.bk_filters.specs.Generating.{ocode, ocode_refused}
pub use Rattle.bk_filters.specs.Interpreting.{Streams, is_read_fault, is_read}
pub use Rattle.bk_filters.specs.ReadingSource.{IsUndecided, Settles, IsDelivered}
pub use Rattle.bk_filters.specs.RunningSource.{NotAssembled, ReadsSource}
pub use Rattle.bk_filters.specs.Sources.{IsTree, Means, stmts_of_tree}
pub use Rattle.bk_filters.specs.Telling.{Output, output}
pub use Rattle.bk_filters.specs.declared.kit_fault.KitFault.{KitFault}
pub use Rattle.bk_filters.specs.declared.kit_fault.KitFault.TheVariants.{Source, Ocode, Intcode, TooSmall, NoStart, Read, Write, Memory}
pub use Rattle.bk_filters.specs.declared.section.CompiledSection.{CompiledSection}
pub use Rattle.bk_filters.specs.declared.section.SectionCode.{SectionCode}
pub use Rattle.bk_kit.specs.Checking.{HasTheseTrees, HintsAt, AllInSource, TextHints, ReadsOn, HintsIn, IsCut, is_of_bytes, ChecksSource, StartsAfter, InSource, IsPlacedIn, ReportsCheck}
pub use Rattle.bk_kit.specs.CommandLine.{run_command, ReadsNumber, check_command, kit_command, Reads, IsOrder, truth_text, ReadsLimits, show_command, part_text, interpret_command, with_version}
pub use Rattle.bk_kit.specs.Tracing.{OcodeRefused, FileRead, RefusesNames, read_from, file_read}
pub use Rattle.bk_show.specs.declared.section.NotShown.{NotShown}
pub use Rattle.clap.specs.declared.error.kind.ErrorKind.{ErrorKind}
pub use Rattle.bk_checker.specs.Reports.{IsAdded, IsPlaced}
pub use Rattle.bk_checker.specs.declared.report.Report.{Report}
pub use Rattle.bk_filters.proofs.Lemmas.{WithTrees, trees_none, not_read, no_memory, not_compiled, trees_go_on, trees_end, stops_reading, has_read, line_told, source_runs, Front, Front-push, Front-whole, Front-refused, Front-stops, some_taken}
pub use Rattle.bk_kit.specs.Showing.{ShowsSections, IsViewed, AreViewed, trees_viewed, Written, Stops, HasViewed, PutsSection, NotPut, Shows, PassesAll, ShowsSource}
pub use Rattle.bk_kit.specs.declared.checker.NotChecked.{NotChecked}
pub use Rattle.bk_kit.specs.declared.checker.Refusal.{Refusal}
pub use Rattle.bk_kit.specs.declared.command_line.LineFault.TheVariants.{Bad}
pub use Rattle.bk_lines.specs.Places.{line_after}
pub use Rattle.bk_lines.specs.declared.places.Start.{Start}
pub use Rattle.bk_tree.specs.Position.{column_after}

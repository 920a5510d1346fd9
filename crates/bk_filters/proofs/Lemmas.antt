-- The lemmas of this crate that the proofs of the crates above cite. They import no other file of this folder.
pub use Rattle.bk_filters.proofs.CodeLemmas.{Front, Front-push, Front-refused, Front-stops, Front-whole}
pub use Rattle.bk_filters.proofs.PassedSections.{some_taken}
pub use Rattle.bk_filters.proofs.ReportLemmas.{line_told}
pub use Rattle.bk_filters.proofs.SourceLemmas.{WithTrees, has_read, no_memory, not_compiled, not_read, source_runs, stops_reading, trees_end, trees_go_on, trees_none}

-- The lemmas of this crate that the proofs of the crates above cite. They import no other file of this folder.
pub use Rattle.bk_scope.proofs.Constants.{constant_right}
pub use Rattle.bk_scope.proofs.Entered.{labels_of_bare, labels_of_own}
pub use Rattle.bk_scope.proofs.Parts.{first_clean, second_clean, section_clean}
pub use Rattle.bk_scope.proofs.Repeated.{cases_differ}
pub use Rattle.bk_scope.proofs.Soundness.{section_sound}

-- The lemmas of this crate that the proofs of the crates above cite. They import no other file of this folder.
pub use Rattle.bk_syntax.proofs.Applies.{one_tree}

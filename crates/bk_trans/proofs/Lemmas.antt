-- The lemmas of this crate that the proofs of the crates above cite. They import no other file of this folder.
pub use Rattle.bk_trans.proofs.Accepted.{scheme_is_accepted, targets_found}
pub use Rattle.bk_trans.proofs.Bodies.{same_defined}
pub use Rattle.bk_trans.proofs.Counted.{labels_are_set_once}
pub use Rattle.bk_trans.proofs.Once.{set_both}
pub use Rattle.bk_trans.proofs.Scopes.{AllFound, AmongProcedures, Looked, look_procedure}

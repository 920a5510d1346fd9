-- The lemmas of this crate that the proofs of the crates above cite. They import no other file of this folder.
pub use Rattle.bk_ocode.proofs.Chosen.{chosen-false, chosen-true, if-holds, on_number-holds, on_some-holds, settle-kept}
pub use Rattle.bk_ocode.proofs.Depths.{depth_within}
pub use Rattle.bk_ocode.proofs.GrowingSteps.{steps_grow}
pub use Rattle.bk_ocode.proofs.LabelRests.{label_rest-at}
pub use Rattle.bk_ocode.proofs.LabelsOnce.{label_has_one_place, not_before}
pub use Rattle.bk_ocode.proofs.OneSaying.{each_stmt}
pub use Rattle.bk_ocode.proofs.PrintedLemmas.{words_of-printed}
pub use Rattle.bk_ocode.proofs.SectionProp.{section_whole}
pub use Rattle.bk_ocode.proofs.TypedSections.{typed_is_section}

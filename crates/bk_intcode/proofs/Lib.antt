mod Terms
mod Parts
mod SegmentLemmas
mod OperandLemmas
mod WordLemmas
mod ItemLengths
mod DraftLemmas
mod PartialLemmas
mod ReadingLemmas
mod ItemSame
mod PrintedLemmas
mod OneSaying
mod CutSegments
mod AnswerLemmas
mod Rows
mod ReadAgain
pub mod Lemmas

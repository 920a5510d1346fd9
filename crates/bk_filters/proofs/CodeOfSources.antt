-- What interpreting the code of a source comes to, and reporting its sizes.
use Rattle.bk_intcode.specs.FirstSaying.{SayOneThing}
use Rattle.bk_filters.specs.Headline.{Keeps}
use Rattle.bk_filters.specs.SectionNumbers.{frame_of}
use Rattle.bk_filters.proofs.CodeOfParts.{OfParts, of_parts, frames, report_sizes, ◌≡◌, ℕ, ◌<◌, ◌≤◌, Bool, IsTrue, List, [], ◌∷◌, Option, Some, Result, Ok, Err, OnOk, length, refl, sym, ap, ◌∙◌, subst, arith, Appends, INPUT_BYTES, STORE_MOST, End, Declarations, image, KitFault, Source, TooSmall, NoStart, AnyBytes, Streams, Interpreted, sizes_line, stmts_of_parts, ReportsFrames, FindsNoFault, stmts_of_tree, codes_of_trees, meanings_with, IsCodeOf, InterpretsSources, FramesAreOfSources, RunsAs}
use Rattle.bk_filters.proofs.MeaningLemmas.{RunLaws, image_within, source_run, too_small, startless}

pub frames_are_of_sources : FramesAreOfSources
frames_are_of_sources source code is tell some = frames is.parts tell (λ none. some (no_trees is.has.0 (ap stmts_of_parts (sym none) ∙ is.has.2))) ∙ ap frame_of is.has.2
  where
    no_trees : (trees : List Declarations) → [] ≡ codes_of_trees trees → trees ≡ []
    no_trees [] is = refl
    no_trees (tree ∷ trees) is = absurd (let h : [] ≡ stmts_of_tree tree ∷ codes_of_trees trees = is in cc)

module _ (laws : RunLaws) (one : SayOneThing) (source code : List ℕ) (is : IsCodeOf source code) where
  module _ (steps words : ℕ) (most : words ≤ STORE_MOST) where
    abbrev image_of : List Declarations → ℕ
    image_of trees = image is.parts

    fits : image is.parts ≤ image_of is.has.0
    fits = omega arith

    kept : (answer : Result End KitFault) (before after : Streams) → OfParts is.parts answer steps words before after → Keeps (meanings_with image_of) source answer steps words before after
    kept (Ok end) before after said =
        let ran = said.2 in
        source_run laws image_of is.parts source is.has fits steps words said.0 most said.1 ran.0 ran.1 before after end ran.2 said.3 said.4 said.5
    kept (Err TooSmall) before after said =
        let k = too_small laws image_of is.parts source is.has fits steps words before said.0 in
        (k.0, k.1, k.2, said.1)
    kept (Err NoStart) before after said =
        let k = startless laws image_of is.parts source is.has fits steps words said.0 most before said.1 in
        (k.0, k.1, said.2)
    kept (Err (Source f)) before after said = absurd said
    kept (Err x) before after said = said

  module _ (new : Option (List ℕ)) (ended : Bool) (short : length code < INPUT_BYTES) (over : IsTrue ended → new ≡ Some []) where
    interprets : (answer : Result End KitFault) (steps words : ℕ) (before after : Streams) → words ≤ STORE_MOST → Interpreted AnyBytes answer steps words (Some code) new ended before after
        → Keeps (meanings_with (λ trees. image is.parts)) source answer steps words before after
    interprets answer steps words before after most said =
        kept steps words most answer before after (of_parts one is.parts code is.words new ended short over answer steps words before after said)

pub interprets_sources : RunLaws → SayOneThing → InterpretsSources
interprets_sources laws one source code is answer steps words new ended before after short most over interpreted =
    interprets laws one source code is new ended short over answer steps words before after most interpreted

-- The code of a source runs as it does.
pub runs_as : RunLaws → SayOneThing → (source code : List ℕ) (is : IsCodeOf source code) → ReportsFrames is.parts → RunsAs source is.has.0 code
runs_as laws one source code is tell = record {
  before_stack = image is.parts;
  within = image_within is.parts is.has.0 is.has.2;
  interprets = λ answer steps words new ended before after short most over said. interprets laws one source code is new ended short over answer steps words before after most said;
  sizes = λ answer words new ended before after short over said.
      subst (λ codes. FindsNoFault answer × OnOk answer (Appends before.taken after.taken (sizes_line (record { image = image is.parts; frame = frame_of codes })))) is.has.2
      (report_sizes one is.parts code is.words new ended short over tell answer words before after said);
}

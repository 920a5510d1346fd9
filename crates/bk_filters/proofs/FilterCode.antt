-- What the two filters write of a source, one after the other, is its code; and nothing is refused on the way.
use Rattle.bk_ocode.specs.FirstFault.{SayOneThing}
use Rattle.bk_intcode.specs.FirstSaying as intcode_text
use Rattle.bk_trans.specs.Laws.{SchemeIsAccepted}
use Rattle.bk_simulation.specs.Placement as placement
use Rattle.bk_filters.specs.Texts as texts
use Rattle.bk_filters.proofs.AcceptedTrees.{trees_are_accepted}
use Rattle.bk_filters.proofs.CodeOfParts.{taken_of, ◌≡◌, ℕ, ◌<◌, IsTrue, Bool, List, [], ◌∷◌, ◌++◌, Option, Some, Result, Ok, Err, OnOk, length, refl, sym, ap, ◌∙◌, subst, append-nil, Appends, map-append, INPUT_BYTES, words_of, Declarations, section_words, AreBytes, Stmt, each_stmt, words_of-printed, KitFault, Source, Read, Write, Memory, all_words, AreWhole, parts, Follows, bytes_of, trees_of, codes_of, codes_of_trees, stmts_of_tree, texts_of, AreAllTyped, Compiles, ocode, Generates, HasTrees, IsRefused, Output, IsCodeOf, FiltersWriteCode, IsNotRefused, RunsAs, GeneratesAs, OneAfterAnother}
use Rattle.bk_filters.proofs.CodeOfSources.{runs_as}
use Rattle.bk_filters.proofs.CompileLemmas.{texts_push}
use Rattle.bk_filters.proofs.GeneratedParts.{CodeOf, fewer, code_written, not_ocode}
use Rattle.bk_filters.proofs.MeaningLemmas.{RunLaws}
use Rattle.bk_filters.proofs.OneTree.{one_list_of_trees}
use Rattle.bk_filters.proofs.PassedSections.{bytes_both, typed_both}
use Rattle.bk_filters.proofs.SourceSectionLemmas.{has_delivered, refused_delivered, refused_not_accepted}

-- the words of the texts of sections
words_of_texts : (codes : List (List Stmt)) → AreWhole ocode codes → words_of (texts_of codes) ≡ all_words ocode codes
words_of_texts [] are = refl
words_of_texts (stmts ∷ codes) are =
    words_of-printed stmts (texts_of codes) (each_stmt stmts are.0.0.are_faultless are.0.1) ∙ ap (λ w. section_words stmts ++ w) (words_of_texts codes are.1)

-- the statements of accepted trees are sections
sections_whole : SchemeIsAccepted → (trees : List Declarations) → placement.AreAccepted trees → AreAllTyped (codes_of_trees trees) → AreWhole ocode (codes_of_trees trees)
sections_whole accepted [] are typed = tt
sections_whole accepted (tree ∷ trees) are typed = ((accepted tree are.0.faultless are.0.within are.0.are_words, typed.0), sections_whole accepted trees are.1 typed.1)

-- ---- generating from a text of the source's sections

-- The text says the sections of these trees.
abbrev IsText : List ℕ → List Declarations → Type 0
IsText text trees = texts.Says ocode (parts (codes_of_trees trees)) (words_of text)

abbrev code_of_source : (source code : List ℕ) (trees : List Declarations) → HasTrees source trees → CodeOf (codes_of_trees trees) code → IsCodeOf source code
code_of_source source code trees has is = record { parts = is.of; has = (trees, has, is.are); words = is.words }

-- what it writes runs so
generates_as : SayOneThing → intcode_text.SayOneThing → RunLaws → (source text : List ℕ) (trees : List Declarations) → HasTrees source trees → IsText text trees → GeneratesAs source trees text
generates_as one one_code laws source text trees has is_text answer left ended faults before after short over g =
    (not_ocode one text (codes_of_trees trees) is_text left ended short over faults before after answer g, by_answer answer g)
  where
    by_answer : (answer : Result (Unit {0}) KitFault) → Generates answer (Some text) left ended faults before after → OnOk answer ((code : List ℕ) × Appends before.taken after.taken code × RunsAs source trees code)
    by_answer (Ok done) g =
        let w = code_written one text (codes_of_trees trees) is_text left ended short over faults before after done g in
        (w.0, w.1, runs_as laws one_code source w.0 (code_of_source source w.0 trees has w.2) w.2.frames)
    by_answer (Err f) g = tt

-- ---- compiling

module _ (accepted : SchemeIsAccepted) (old new : Option (List ℕ)) (ended : Bool) (reads : ℕ) (before after : Output) where
  -- what is compiled is the text of the trees' sections
  compiled : (done : Unit {0}) (c : Compiles (Ok done) old new ended reads before after) → let front = c.delivers.front in length (bytes_of front.sections ++ front.part) < INPUT_BYTES → (rest : List ℕ) → Follows ended rest
      → (trees : List Declarations) × HasTrees ((bytes_of front.sections ++ front.part) ++ rest) trees × ((text : List ℕ) × Appends before.taken after.taken text × IsText text trees)
  compiled done c short rest follows =
      let front = c.delivers.front in
      let written = (c.delivers.holds short).0 in
      let comes = written.comes in
      let trees = comes.1 in
      let all = trees_of front.sections ++ trees in
      let bytes = bytes_both (bytes_of front.sections) front.part front.bytes comes.7 in
      let nothing_more : rest ≡ [] = follows comes.5 in
      let source_bytes : AreBytes ((bytes_of front.sections ++ front.part) ++ rest) =
      subst AreBytes (sym (append-nil (bytes_of front.sections ++ front.part)) ∙ ap (λ r. (bytes_of front.sections ++ front.part) ++ r) (sym nothing_more)) bytes in
      let has = has_delivered front.sections front.part rest (front.accepted (front.part ++ rest)) comes.0 trees source_bytes (comes.2 rest follows) comes.4 in
      let codes : codes_of front.sections ++ codes_of_trees trees ≡ codes_of_trees all = sym (map-append stmts_of_tree (trees_of front.sections) trees) in
      let typed = subst AreAllTyped codes (typed_both (codes_of front.sections) (codes_of_trees trees) front.typed comes.8) in
      let whole = sections_whole accepted all (trees_are_accepted ((bytes_of front.sections ++ front.part) ++ rest) all has) typed in
      let text = texts_of (codes_of front.sections) ++ written.text in
      let is : text ≡ texts_of (codes_of_trees all) = ap (λ t. texts_of (codes_of front.sections) ++ t) comes.3 ∙ sym (texts_push (codes_of front.sections) (codes_of_trees trees)) ∙ ap texts_of codes in
      (all, has, (text, written.takes, (whole, ap words_of is ∙ words_of_texts (codes_of_trees all) whole)))

pub filters_write_code : SchemeIsAccepted → SayOneThing → FiltersWriteCode
filters_write_code accepted one old new ended reads before after done c =
    let front = c.delivers.front in
    record {
      text = bytes_of front.sections ++ front.part;
      delivered = front.delivered;
      within = front.within;
      holds = λ short rest follows.
          let made = compiled accepted old new ended reads before after done c short rest follows in
          let text = made.2.0 in (
            text,
            made.2.1,
            (λ left reported faults b a d few over g.
                let w = code_written one text (codes_of_trees made.0) made.2.2 left reported few over faults b a d g in
                (w.0, w.1, (code_of_source ((bytes_of front.sections ++ front.part) ++ rest) w.0 made.0 made.1 w.2, w.2.frames))),
          );
    }

-- ---- one after another

module _ (accepted : SchemeIsAccepted) (one : SayOneThing) (one_code : intcode_text.SayOneThing) (laws : RunLaws) (source : List ℕ) (trees : List Declarations) (has : HasTrees source trees)
    (new : Option (List ℕ)) (ended : Bool) (reads : ℕ) (before after : Output) (short : length source < INPUT_BYTES) (over : IsTrue ended → new ≡ Some []) where
  module _ (answer : Result (Unit {0}) KitFault) (c : Compiles answer (Some source) new ended reads before after) where
    abbrev taken : List ℕ
    taken = bytes_of c.delivers.front.sections ++ c.delivers.front.part

    all : (rest : List ℕ) × (source ≡ taken ++ rest) × (IsTrue ended → rest ≡ [])
    all = taken_of source new ended over taken c.delivers.front.delivered

    short_enough : length taken < INPUT_BYTES
    short_enough = fewer source taken all.0 all.1 short

  not_source : (answer : Result (Unit {0}) KitFault) → Compiles answer (Some source) new ended reads before after → IsNotRefused answer
  not_source (Ok done) c = tt
  not_source (Err Read) c = tt
  not_source (Err Write) c = tt
  not_source (Err Memory) c = tt
  not_source (Err (Source f)) c =
      let front = c.delivers.front in
      let a = all (Err (Source f)) c in
      let refused = (c.delivers.holds (short_enough (Err (Source f)) c)).0.comes.0 in
      absurd (refused_not_accepted source f trees (subst (λ s. IsRefused s f) (sym a.1) (refused_delivered front.sections front.part a.0 (front.accepted (front.part ++ a.0)) f (refused a.0 a.2))) has)
  not_source (Err x) c = absurd (c.delivers.holds (short_enough (Err x) c)).0.comes

  text_written : (answer : Result (Unit {0}) KitFault) → Compiles answer (Some source) new ended reads before after
      → OnOk answer ((text : List ℕ) × Appends before.taken after.taken text × GeneratesAs source trees text)
  text_written (Ok done) c =
      let a = all (Ok done) c in
      let made = compiled accepted (Some source) new ended reads before after done c (short_enough (Ok done) c) a.0 a.2 in
      let same : made.0 ≡ trees = one_list_of_trees source made.0 trees (subst (λ s. HasTrees s made.0) (sym a.1) made.1) has in
      (made.2.0, made.2.1, generates_as one one_code laws source made.2.0 trees has (subst (λ t. IsText made.2.0 t) same made.2.2))
  text_written (Err f) c = tt

pub one_after_another : SchemeIsAccepted → SayOneThing → intcode_text.SayOneThing → RunLaws → OneAfterAnother
one_after_another accepted one one_code laws source trees has answer new ended reads before after short over c = (
  not_source accepted one one_code laws source trees has new ended reads before after short over answer c,
  text_written accepted one one_code laws source trees has new ended reads before after short over answer c,
)

-- What generating from a text of sections comes to: nothing is refused, and what is written is the code of parts of these sections.
use Rattle.bk_base.specs.declared.ocode_fault.OcodeKind.{OcodeKind}
use Rattle.bk_ocode.specs.FirstFault.{section, nothing, fault, Says, SayOneThing}
use Rattle.bk_ocode.specs.Section.{IsSection}
use Rattle.bk_intcode.proofs.Lemmas as printed
use Rattle.bk_filters.specs.Texts as texts
use Rattle.bk_filters.specs.Generating as generating
use Rattle.bk_filters.proofs.CodeOfParts.{taken_of, ◌≡◌, ℕ, ◌<◌, IsTrue, Bool, List, [], ◌∷◌, ◌++◌, map, Option, Some, None, Result, Ok, Err, length, refl, sym, ap, ◌∙◌, subst, arith, append_assoc, append-nil, length-append, Appends, Consumes, append_cancel_left, INPUT_BYTES, words_of, section_words, AreTyped, Stmt, item_text, Part, segments, KitFault, Ocode, Intcode, Read, Write, Memory, intcode, all_words, AreWhole, parts, ocode, Generated, IsGenerated, AreGenerated, sections_of, Generates, Output, stmts_of_parts, ReportsFrames, IsNotRefused}
use Rattle.bk_filters.proofs.SameParts.{same_parts}
use Rattle.bk_filters.proofs.SameParts as same

-- ---- a text of sections says one thing

module _ (one : SayOneThing) where
  same_first : (a b : List Stmt) (r s : List (List ℕ)) → IsSection a × AreTyped a → IsSection b × AreTyped b → section_words a ++ r ≡ section_words b ++ s → (a ≡ b) × (r ≡ s)
  same_first a b r s first second is =
      let e : section a ≡ section b = one (section_words a ++ r) (section a) (section b) (r, first.0, first.1, refl) (s, second.0, second.1, is) in
      let same : a ≡ b = cc in
      (same, append_cancel_left (section_words a) r s (is ∙ ap (λ x. section_words x ++ s) (sym same)))

  not_none : (a : List Stmt) (r : List (List ℕ)) → IsSection a × AreTyped a → [] ≡ section_words a ++ r → ⊥
  not_none a r first is = let e : nothing ≡ section a = one [] nothing (section a) refl (r, first.0, first.1, is) in cc

  same_sections : (xs ys : List (List Stmt)) → AreWhole ocode xs → AreWhole ocode ys → all_words ocode xs ≡ all_words ocode ys → xs ≡ ys
  same_sections xs ys are also is = same_parts ocode same_first not_none xs ys are also is

  -- nor is it refused
  not_refused : (xs before : List (List Stmt)) (rest : List (List ℕ)) (statement : ℕ) (kind : OcodeKind) → AreWhole ocode xs → AreWhole ocode before
      → Says (fault statement kind) rest → all_words ocode xs ≡ all_words ocode before ++ rest → ⊥
  not_refused xs before rest statement kind are also says is =
      same.not_refused ocode same_first not_none
      (λ statement kind says. (let e : nothing ≡ fault statement kind = one [] nothing (fault statement kind) refl says in cc))
      (λ a r statement kind first says. (let e : section a ≡ fault statement kind = one (section_words a ++ r) (section a) (fault statement kind) (r, first.0, first.1, refl) says in cc))
      xs before rest statement kind are also says is

-- ---- the segments that are generated

code_words : (generated : List Generated) → AreGenerated generated → words_of (generating.texts_of generated) ≡ all_words intcode (map (λ (g : Generated). g.items) generated)
code_words [] are = refl
code_words (g ∷ generated) are =
    printed.words_of-printed g.items (generating.texts_of generated) are.0.segment.in_range ∙ ap (λ w. map item_text g.items ++ w) (code_words generated are.1)

abbrev part_of : (g : Generated) → IsGenerated g → Part
part_of g is = record { stmts = g.stmts; items = g.items; accepted = is.read.section; whole = is.segment; applies = is.applies }

abbrev parts_of : (generated : List Generated) → AreGenerated generated → List Part
parts_of [] are = []
parts_of (g ∷ generated) are = part_of g are.0 ∷ parts_of generated are.1

same_segments : (generated : List Generated) (are : AreGenerated generated) → segments (parts_of generated are) ≡ map (λ (g : Generated). g.items) generated
same_segments [] are = refl
same_segments (g ∷ generated) are = ap (λ x. g.items ∷ x) (same_segments generated are.1)

same_stmts : (generated : List Generated) (are : AreGenerated generated) → stmts_of_parts (parts_of generated are) ≡ sections_of generated
same_stmts [] are = refl
same_stmts (g ∷ generated) are = ap (λ x. g.stmts ∷ x) (same_stmts generated are.1)

report_frames : (generated : List Generated) (are : AreGenerated generated) → ReportsFrames (parts_of generated are)
report_frames [] are = tt
report_frames (g ∷ generated) are = (are.0.frame, report_frames generated are.1)

-- ---- generating

-- all of these bytes, and less than one call reads, of which some were taken before others
pub fewer : (all some others : List ℕ) → all ≡ some ++ others → length all < INPUT_BYTES → length some < INPUT_BYTES
fewer all some others is short = let long = ap (λ (t : List ℕ). length t) is in let both = length-append some others in omega (arith, short, long, both)

-- The code of parts of these sections, which reports its frames.
pub record CodeOf (sections : List (List Stmt)) (code : List ℕ) : Type 0 where
  pub of : List Part
  pub are : stmts_of_parts of ≡ sections
  pub words : words_of code ≡ all_words intcode (segments of)
  pub frames : ReportsFrames of

-- a text that says these sections
module _ (one : SayOneThing) (text : List ℕ) (sections : List (List Stmt)) (says_all : texts.Says ocode (parts sections) (words_of text))
    (left : Option (List ℕ)) (ended : Bool) (short : length text < INPUT_BYTES) (over : IsTrue ended → left ≡ Some []) where
  -- what the text says, where it was taken so far
  said_of : (saying : texts.Saying (List Stmt) OcodeKind) (bytes part : List ℕ) (following : Option (List ℕ)) → Consumes (Some text) following bytes → Consumes following left part
      → texts.SaysWhateverFollows ocode saying (bytes ++ part) ended → texts.Says ocode saying (all_words ocode sections)
  said_of saying bytes part None took took_part says = absurd took
  said_of saying bytes part (Some following) took took_part says =
      let t = taken_of following left ended over part took_part in
      let all : text ≡ (bytes ++ part) ++ t.0 = took ∙ ap (λ b. bytes ++ b) t.1 ∙ sym (append_assoc bytes part t.0) in
      let said = says t.0 t.2 (subst (λ t. length t < INPUT_BYTES) all short) in
      subst (texts.Says ocode saying) (ap words_of (sym all) ∙ says_all.1) said

  module _ (faults : ℕ) (before after : Output) (answer : Result (Unit {0}) KitFault) (g : Generates answer (Some text) left ended faults before after) where
    few : length (generating.bytes_of g.delivers.sections) < INPUT_BYTES
    few = by_behind g.delivers.following g.delivers.delivered
      where
        by_behind : (following : Option (List ℕ)) → Consumes (Some text) following (generating.bytes_of g.delivers.sections) → length (generating.bytes_of g.delivers.sections) < INPUT_BYTES
        by_behind None took = absurd took
        by_behind (Some following) took = fewer text (generating.bytes_of g.delivers.sections) following took short

  pub code_written : (faults : ℕ) (before after : Output) (done : Unit {0}) → Generates (Ok done) (Some text) left ended faults before after
      → (code : List ℕ) × Appends before.taken after.taken code × CodeOf sections code
  code_written faults before after done g =
      let all = g.delivers.sections in
      let are = g.delivers.generated in
      let written = (g.delivers.holds (few faults before after (Ok done) g)).0 in
      let said = written.comes.1 in
      let says = said_of (parts (sections_of all)) (generating.bytes_of all) said.0 g.delivers.following g.delivers.delivered said.1 said.2 in
      let same = same_sections one (sections_of all) sections says.0 says_all.0 (sym says.1) in (
        generating.texts_of all,
        subst (λ t. Appends before.taken after.taken t) (ap (λ t. generating.texts_of all ++ t) written.comes.2 ∙ append-nil (generating.texts_of all)) written.takes,
        record {
          of = parts_of all are;
          are = same_stmts all are ∙ same;
          words = code_words all are ∙ ap (λ s. all_words intcode s) (sym (same_segments all are));
          frames = report_frames all are;
        },
      )

  -- it is not refused
  pub not_ocode : (faults : ℕ) (before after : Output) (answer : Result (Unit {0}) KitFault) → Generates answer (Some text) left ended faults before after → IsNotRefused answer
  not_ocode faults before after (Ok done) g = tt
  not_ocode faults before after (Err Read) g = tt
  not_ocode faults before after (Err Write) g = tt
  not_ocode faults before after (Err Memory) g = tt
  not_ocode faults before after (Err (Ocode number f)) g =
      let said = (g.delivers.holds (few faults before after (Err (Ocode number f)) g)).0.comes.1 in
      let says = said_of (texts.refused number f.statement f.kind) (generating.bytes_of g.delivers.sections) said.0 g.delivers.following g.delivers.delivered said.1 said.2 in
      absurd (not_refused one sections says.0 says.1 f.statement f.kind says_all.0 says.2 says.4 says.3)
  not_ocode faults before after (Err (Intcode number f)) g = absurd (g.delivers.holds (few faults before after (Err (Intcode number f)) g)).0.comes
  not_ocode faults before after (Err x) g = absurd (g.delivers.holds (few faults before after (Err x) g)).0.comes

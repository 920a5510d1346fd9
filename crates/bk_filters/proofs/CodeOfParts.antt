-- The code of parts is read as the segments that it is of; and what interpreting it, and reporting its sizes, comes to.
pub use Rattle.bk_filters.proofs.Terms.{◌≡◌, ◌≢◌, ℕ, ◌+◌, ◌*◌, ◌<◌, ◌≤◌, max, Bool, IsTrue, true, false, List, [], ◌∷◌, ◌++◌, map, Option, Some, None, Result, Ok, Err, OnOk, length, refl, sym, ap, ◌∙◌, subst, arith, Consumes, Appends, Begins, append_cancel_left, INPUT_BYTES, FRAME_WORDS_LEAST, End, WriteFault, words_of, Item, Registers, SEGMENTS, segment_size, stack_start, any_starts, greatest_frame, loaded_store, Ran, Blames, item_text, largest_depth, Stmt, Part, segments, image, depth_of, KitFault, Source, Ocode, Intcode, TooSmall, NoStart, Read, Write, Memory, intcode, all_words, AreWhole, parts, refused, Applies, AnyBytes, Streams, Interpreted, devices_of, first_registers, sizes_line, Reports, Output, stmts_of_parts, ReportsFrames, FindsNoFault, STORE_MOST, Declarations, stmts_of_tree, codes_of_trees, meanings_with, IsCodeOf, InterpretsSources, FramesAreOfSources, RunsAs, ◌⊎◌, inl, inr, ap₂, append_assoc, append-nil, Status, DivideByZero, StoreLimit, StepLimit, BadOperation, ReadFault, Standing, Going, Over, output_of, program_of, machine_after, IsPartly, going, stopped, BackEnd, BackEndHolds, PartsAreWellPlaced, PartsWithoutStart, Generates, RunsAsSteps, OcodeRuns, ◌begins◌, GoesOn, map-append, section_words, AreBytes, each_stmt, words_of-printed, Follows, bytes_of, trees_of, codes_of, texts_of, AreAllTyped, Compiles, ocode, HasTrees, IsRefused, FiltersWriteCode, IsNotRefused, GeneratesAs, OneAfterAnother, length-append, AreTyped, Generated, IsGenerated, AreGenerated, sections_of}
use Rattle.bk_base.specs.declared.intcode_fault.IntcodeKind.{IntcodeKind}
use Rattle.bk_machine.specs.Segment.{IsSegment}
use Rattle.bk_ocode.specs.SectionData.{text_size}
use Rattle.bk_intcode.specs.FirstSaying.{segment, nothing, fault, Says, SayOneThing}
use Rattle.bk_filters.specs.SectionNumbers as numbers
use Rattle.bk_filters.specs.Texts as texts
use Rattle.bk_filters.proofs.SameParts.{same_parts}
use Rattle.bk_filters.proofs.SameParts as same

-- what is taken of known bytes is all of them, up to what may follow
pub taken_of : (all : List ℕ) (new : Option (List ℕ)) (ended : Bool) → (IsTrue ended → new ≡ Some []) → (taken : List ℕ) → Consumes (Some all) new taken
    → (rest : List ℕ) × (all ≡ taken ++ rest) × (IsTrue ended → rest ≡ [])
taken_of all None ended over taken took = absurd took
taken_of all (Some rest) ended over taken took = (rest, took, (λ reported. let e : Some rest ≡ Some [] = over reported in cc))

-- ---- a text of segments says one thing

module _ (one : SayOneThing) where
  -- the words of a segment tell it, and where they end
  same_first : (a b : List Item) (r s : List (List ℕ)) → IsSegment a → IsSegment b → map item_text a ++ r ≡ map item_text b ++ s → (a ≡ b) × (r ≡ s)
  same_first a b r s first second is =
      let e : segment a ≡ segment b = one (map item_text a ++ r) (segment a) (segment b) (r, first, refl) (s, second, is) in
      let same : a ≡ b = cc in
      (same, append_cancel_left (map item_text a) r s (is ∙ ap (λ x. map item_text x ++ s) (sym same)))

  -- no words, and the words of a segment
  not_none : (a : List Item) (r : List (List ℕ)) → IsSegment a → [] ≡ map item_text a ++ r → ⊥
  not_none a r first is = let e : nothing ≡ segment a = one [] nothing (segment a) refl (r, first, is) in cc

  same_segments_read : (xs ys : List (List Item)) → AreWhole intcode xs → AreWhole intcode ys → all_words intcode xs ≡ all_words intcode ys → xs ≡ ys
  same_segments_read xs ys are also is = same_parts intcode same_first not_none xs ys are also is

  -- nor is it refused
  not_refused : (xs before : List (List Item)) (rest : List (List ℕ)) (item : ℕ) (kind : IntcodeKind) → AreWhole intcode xs → AreWhole intcode before
      → Says (fault item kind) rest → all_words intcode xs ≡ all_words intcode before ++ rest → ⊥
  not_refused xs before rest item kind are also says is =
      same.not_refused intcode same_first not_none
      (λ item kind says. (let e : nothing ≡ fault item kind = one [] nothing (fault item kind) refl says in cc))
      (λ a r item kind first says. (let e : segment a ≡ fault item kind = one (map item_text a ++ r) (segment a) (fault item kind) (r, first, refl) says in cc))
      xs before rest item kind are also says is

whole_segments : (all : List Part) → AreWhole intcode (segments all)
whole_segments [] = tt
whole_segments (p ∷ all) = (p.whole, whole_segments all)

-- ---- numbers

-- the image is within its number
pub image_within : (base : ℕ) (all : List Part) → stack_start base (segments all) ≤ base + 8 * numbers.text_of (stmts_of_parts all)
image_within base [] = omega arith
image_within base (p ∷ all) =
    sums base (segment_size p.items) (text_size p.stmts) (numbers.text_of (stmts_of_parts all)) (stack_start (base + segment_size p.items) (segments all)) p.applies.size (image_within (base + segment_size p.items) all)
  where
    sums : (b s t u m : ℕ) → s ≤ 8 * t → m ≤ b + s + 8 * u → m ≤ b + 8 * (t + u)
    sums b s t u m low rest = omega arith

-- and so is the largest depth
pub deepest : (all : List Part) → depth_of all ≡ numbers.depth_of (stmts_of_parts all)
deepest [] = refl
deepest (p ∷ all) = ap (λ n. max (largest_depth p.stmts) n) (deepest all)

pub frames : (all : List Part) → ReportsFrames all → all ≢ [] → greatest_frame (segments all) ≡ numbers.frame_of (stmts_of_parts all)
frames [] tell some = absurd (some refl)
frames (p ∷ []) tell some = ap (λ n. max n 0) tell.0.1 ∙ alone (largest_depth p.stmts)
  where
    alone : (d : ℕ) → max (max FRAME_WORDS_LEAST d) 0 ≡ max d FRAME_WORDS_LEAST
    alone d = omega arith
frames (p ∷ q ∷ all) tell some =
    ap (λ n. max n (greatest_frame (segments (q ∷ all)))) tell.0.1
    ∙ both (largest_depth p.stmts) (greatest_frame (segments (q ∷ all))) (numbers.frame_of (stmts_of_parts (q ∷ all))) (least (stmts_of_parts (q ∷ all))) (frames (q ∷ all) tell.1 (λ e. cc))
  where
    least : (all : List (List Stmt)) → FRAME_WORDS_LEAST ≤ numbers.frame_of all
    least [] = omega arith
    least (stmts ∷ all) = larger (largest_depth stmts) (numbers.frame_of all) (least all)
      where
        larger : (a m : ℕ) → FRAME_WORDS_LEAST ≤ m → FRAME_WORDS_LEAST ≤ max a m
        larger a m le = omega arith

    both : (d m n : ℕ) → FRAME_WORDS_LEAST ≤ n → m ≡ n → max (max FRAME_WORDS_LEAST d) m ≡ max d n
    both d m n le e = omega arith

-- ---- reading the code

-- What interpreting code of these parts answers: its segments are theirs.
abbrev pub OfParts : List Part → Result End KitFault → (steps words : ℕ) → Streams → Streams → Type 0
OfParts ps (Ok end) steps words before after =
    (image ps + 16 ≤ words) × (any_starts (segments ps) ≡ true)
    × ((store : List ℕ) × (registers : Registers) × Ran AnyBytes end steps (loaded_store words (segments ps)) (first_registers (segments ps)) store registers (devices_of before) (devices_of after))
    × Begins before.passed after.passed × (end ≢ WriteFault → after.passed ≡ after.taken) × Blames end before.reads after.reads after.writes
OfParts ps (Err TooSmall) steps words before after = (words < image ps + 16) × (after ≡ before)
OfParts ps (Err NoStart) steps words before after = (image ps + 16 ≤ words) × (any_starts (segments ps) ≡ false) × (after ≡ before)
OfParts ps (Err Read) steps words before after = after ≡ before
OfParts ps (Err Memory) steps words before after = after ≡ before
OfParts ps (Err other) steps words before after = ⊥

module _ (one : SayOneThing) (ps : List Part) (code : List ℕ) (is : words_of code ≡ all_words intcode (segments ps)) (new : Option (List ℕ)) (ended : Bool) (short : length code < INPUT_BYTES) (over : IsTrue ended → new ≡ Some []) where
  says_of : (saying : texts.Saying (List Item) IntcodeKind) → Applies intcode saying (Some code) new ended → texts.Says intcode saying (all_words intcode (segments ps))
  says_of saying applies =
      let t = taken_of code new ended over applies.taken applies.delivered in
      let says = applies.says t.0 t.2 (subst (λ c. length c < INPUT_BYTES) t.1 short) in
      subst (texts.Says intcode saying) (ap words_of (sym t.1) ∙ is) says

  read_as : (found : List (List Item)) → Applies intcode (parts found) (Some code) new ended → found ≡ segments ps
  read_as found applies =
      let says = says_of (parts found) applies in
      same_segments_read one found (segments ps) says.0 (whole_segments ps) (sym says.1)

  not_refused_here : (number item : ℕ) (kind : IntcodeKind) → Applies intcode (refused number item kind) (Some code) new ended → ⊥
  not_refused_here number item kind applies =
      let says = says_of (refused number item kind) applies in
      not_refused one (segments ps) says.0 says.1 item kind (whole_segments ps) says.2 says.4 says.3

  -- interpreting it
  pub of_parts : (answer : Result End KitFault) (steps words : ℕ) (before after : Streams) → Interpreted AnyBytes answer steps words (Some code) new ended before after → OfParts ps answer steps words before after
  of_parts (Ok end) steps words before after interpreted =
      let ran = interpreted.0 in
      let e : ran.all ≡ segments ps = read_as ran.all ran.loadable.applies in
      let room = subst (λ s. stack_start SEGMENTS s + 16 ≤ words) e ran.loadable.room in
      let starts = subst (λ s. any_starts s ≡ true) e ran.loadable.starts in
      (room, starts, (ran.store, ran.registers, rw e at ran.ran), interpreted.1, interpreted.2, interpreted.3)
  of_parts (Err TooSmall) steps words before after said =
      let e : said.0.0 ≡ segments ps = read_as said.0.0 said.0.1 in
      (subst (λ s. words < stack_start SEGMENTS s + 16) e said.0.2, said.1)
  of_parts (Err NoStart) steps words before after said =
      let e : said.0.0 ≡ segments ps = read_as said.0.0 said.0.1 in
      (subst (λ s. stack_start SEGMENTS s + 16 ≤ words) e said.0.2, subst (λ s. any_starts s ≡ false) e said.0.3, said.1)
  of_parts (Err (Intcode number f)) steps words before after said = absurd (not_refused_here number f.item f.kind said.0)
  of_parts (Err Read) steps words before after said = said.1
  of_parts (Err Memory) steps words before after said = said.1
  of_parts (Err x) steps words before after said = absurd said.0

  -- its sizes
  pub report_sizes : ReportsFrames ps → (answer : Result (Unit {0}) KitFault) (words : ℕ) (before after : Output) → Reports answer words (Some code) new ended before after
      → FindsNoFault answer × OnOk answer (Appends before.taken after.taken (sizes_line (record { image = image ps; frame = numbers.frame_of (stmts_of_parts ps) })))
  report_sizes tell (Ok done) words before after said =
      let needs = said.1 in
      let e : needs.all ≡ segments ps = read_as needs.all needs.loadable.applies in
      let starts = subst (λ s. any_starts s ≡ true) e needs.loadable.starts in
      let f = frames ps tell (some ps starts) in
      let same = needs.are ∙ ap (λ s. record { image = stack_start SEGMENTS s; frame = greatest_frame s }) e ∙ ap (λ n. record { image = image ps; frame = n }) f in
      (tt, subst (λ s. Appends before.taken after.taken (sizes_line s)) same said.2)
    where
      some : (qs : List Part) → any_starts (segments qs) ≡ true → qs ≢ []
      some [] starts none = cc
      some (q ∷ qs) starts none = cc
  report_sizes tell (Err (Intcode number f)) words before after said = absurd (not_refused_here number f.item f.kind said.0)
  report_sizes tell (Err (Source f)) words before after said = absurd said.0
  report_sizes tell (Err (Ocode number f)) words before after said = absurd said.0
  report_sizes tell (Err x) words before after said = (tt, tt)

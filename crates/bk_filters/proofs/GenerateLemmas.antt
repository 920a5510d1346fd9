-- Sections that are read and generated one after another, and the bytes and texts of them.
pub use Rattle.bk_filters.proofs.Terms.{◌≡◌, inl, inr, ℕ, ◌+◌, ◌≤◌, ◌++◌, Bool, true, false, IsTrue, List, [], ◌∷◌, Option, None, Some, Result, Ok, Err, length, if◌then◌else◌, arith, refl, sym, ap, subst, ◌∙◌, append_assoc, append-nil, length-append, map-append, length-map, Consumes, Appends, Keeps, Begins, AppendsPart, NothingLeft, Begins-refl, Begins-trans, Consumes-nothing, Consumes-trans, Appends-nothing, Appends-trans, INPUT_BYTES, OcodeFault, Refused, Fault, Device, AtEnd, Stmt, stmts_of, section_words, items_of, segment_whole, Represents, EndsWithFrame, frame_words, KitFault, Ocode, Read, Write, Memory, Output, Written, Puts, parts, refused, part_number, SaysWhateverFollows, Refused as refusals, rules, output}
use Rattle.bk_words.specs.WordLaws.{words_of-all}
use Rattle.bk_ocode.specs.declared.section.Ocode as o
use Rattle.bk_ocode.specs.SectionAnswer.{Answers, AppliesWhateverFollows, is_device}
use Rattle.bk_machine.specs.declared.segment.Intcode as i
use Rattle.bk_intcode.specs.SegmentText.{segment_text}
use Rattle.bk_filters.specs.Generating.{ocode, ocode_refused, Generated, IsRead, IsGenerated, AreGenerated, bytes_of, sections_of, texts_of, Comes, Takes, Delivers, Generates, PutsSegments}
use Rattle.bk_filters.proofs.FilterLemmas.{flushed, stuck}
use Rattle.bk_filters.proofs.TextLemmas as text
use Rattle.bk_filters.proofs.TextLemmas.{read_none, read_more, says_refused, says_whole, says_all, nothing_taken}

-- ---- lists of sections

bytes_push : (sections : List Generated) (last : Generated) → bytes_of (sections ++ last ∷ []) ≡ bytes_of sections ++ last.bytes
bytes_push [] last = append-nil last.bytes
bytes_push (first ∷ sections) last = ap (λ (l : List ℕ). first.bytes ++ l) (bytes_push sections last) ∙ sym (append_assoc first.bytes (bytes_of sections) last.bytes)

texts_push : (sections : List Generated) (last : Generated) → texts_of (sections ++ last ∷ []) ≡ texts_of sections ++ segment_text last.items
texts_push [] last = append-nil (segment_text last.items)
texts_push (first ∷ sections) last =
    ap (λ (l : List ℕ). segment_text first.items ++ l) (texts_push sections last) ∙ sym (append_assoc (segment_text first.items) (texts_of sections) (segment_text last.items))

generated_push : (sections : List Generated) (last : Generated) → AreGenerated sections → IsGenerated last → AreGenerated (sections ++ last ∷ [])
generated_push [] last are is = (is, tt)
generated_push (first ∷ sections) last are is = (are.0, generated_push sections last are.1 is)

-- a section has a byte at least
some_byte : (bytes : List ℕ) (stmts : List Stmt) → IsRead bytes stmts → 1 ≤ length bytes
some_byte bytes stmts read =
    let words = read.are in
    let last = words.ends in
    omega (arith, ap (λ (l : List ℕ). length l) words.whole, length-append words.text words.following, ap (λ (l : List ℕ). length l) last.3, length-append last.0 (last.1 ∷ []))

few : (sections : List Generated) → AreGenerated sections → length sections ≤ length (bytes_of sections)
few [] are = omega arith
few (g ∷ sections) are = omega (arith, few sections are.1, some_byte g.bytes g.stmts are.0.read, length-append g.bytes (bytes_of sections))

-- ---- the sections so far

pub record Front (count : ℕ) (old now : Option (List ℕ)) (ended : Bool) (before after : Output) : Type 0 where
  pub sections : List Generated
  pub generated : AreGenerated sections
  pub delivered : Consumes old now (bytes_of sections)
  pub counted : length sections ≡ count
  pub read : text.Read ocode (sections_of sections) (bytes_of sections) ended
  pub takes : Appends before.taken after.taken (texts_of sections)
  pub passes : Begins before.passed after.passed

pub front_empty : (known : Option (List ℕ)) (ended : Bool) (before : Output) → Front 0 known known ended before before
front_empty known ended before = record {
  sections = [];
  generated = tt;
  delivered = Consumes-nothing known;
  counted = refl;
  read = read_none ocode ended;
  takes = Appends-nothing before.taken;
  passes = Begins-refl before.passed;
}

module _ (count : ℕ) (old now new : Option (List ℕ)) (was ended : Bool) (reads : ℕ) (before after : Output) (front : Front count old now was before after) where
  abbrev PutsHere : Result (Unit {0}) KitFault → Output → List Generated → Option (List ℕ) → Type 0
  PutsHere answer after' sections following = Puts (Comes sections following new ended reads) (Takes following new reads) (texts_of sections) before after' answer

  delivers : (answer : Result (Unit {0}) KitFault) (after' : Output) → PutsHere answer after' front.sections now → Delivers old (PutsHere answer after')
  delivers answer after' holds = record { sections = front.sections; generated = front.generated; following = now; delivered = front.delivered; holds = λ short. holds }

  written_none : (answer : Result (Unit {0}) KitFault) → Comes front.sections now new ended reads answer []
      → Written (Comes front.sections now new ended reads) (Takes now new reads) (texts_of front.sections) before after answer
  written_none answer comes = record {
    text = [];
    comes = comes;
    takes = subst (λ (l : List ℕ). Appends before.taken after.taken l) (sym (append-nil (texts_of front.sections))) front.takes;
  }

  -- nothing is left
  pub no_more : Answers (Ok None) now new ended → AppliesWhateverFollows (Ok None) now new ended → (IsTrue was → IsTrue ended) → (IsTrue was → NothingLeft now) → reads ≡ 0
      → PutsSegments (Ok tt) old new ended reads before after
  no_more answers applies stays still none = record {
    delivers = delivers (Ok tt) after (written_none (Ok tt) (by_case was refl));
    passes = front.passes;
  }
    where
      by_case : (b : Bool) → was ≡ b → Comes front.sections now new ended reads (Ok tt) []
      by_case true is = (
        answers,
        (
          [],
          nothing_taken now new answers.0 (still is) answers.1,
          subst (λ (l : List ℕ). SaysWhateverFollows ocode (parts (sections_of front.sections)) l ended) (sym (append-nil (bytes_of front.sections)))
              (says_all ocode (sections_of front.sections) (bytes_of front.sections) was front.read ended stays is),
        ),
        refl,
        none,
      )
      by_case false is = (
        answers,
        (applies.0, applies.1, says_whole ocode (sections_of front.sections) (bytes_of front.sections) was front.read applies.0 ended (λ reported. let no : false ≡ true = sym is ∙ reported in cc) applies.2),
        refl,
        none,
      )

  -- a section is refused, or could not be read
  pub not_read : (refused : Refused OcodeFault) → Answers (Err refused) now new ended → AppliesWhateverFollows (Err refused) now new ended → (IsTrue was → ⊥)
      → reads ≡ (if is_device (Err refused) then 1 else 0) → PutsSegments (Err (ocode_refused count refused)) old new ended reads before after
  not_read (Fault fault) answers applies not_over count_is =
      let number : part_number (length (sections_of front.sections)) ≡ part_number count = ap part_number (length-map front.sections (λ (g : Generated). g.stmts) ∙ front.counted) in
      record {
        delivers = delivers (Err (Ocode (part_number count) fault)) after (written_none (Err (Ocode (part_number count) fault)) (
          answers,
          (
            applies.0,
            applies.1,
            subst (λ (n : ℕ). SaysWhateverFollows ocode (refused n fault.statement fault.kind) (bytes_of front.sections ++ applies.0) ended) number
                (says_refused ocode (sections_of front.sections) (bytes_of front.sections) was front.read applies.0 ended not_over fault.statement fault.kind applies.2),
          ),
          refl,
          count_is,
        ));
        passes = front.passes;
      }
  not_read refusals.Memory answers applies not_over count_is = record {
    delivers = delivers (Err Memory) after (written_none (Err Memory) ((answers.0, answers.1, inl answers.2), refl, count_is));
    passes = front.passes;
  }
  not_read Device answers applies not_over count_is = record { delivers = delivers (Err Read) after (written_none (Err Read) (answers, refl, count_is)); passes = front.passes }

  module _ (section : o.Ocode) (answers : Answers (Ok (Some section)) now new ended) (none : reads ≡ 0) where
    is_read : IsRead answers.0 (stmts_of section)
    is_read = record { ended = ended; are = answers.2.2; section = answers.2.0; typed = answers.2.1 }

    -- memory is refused for its segment
    pub not_generated : PutsSegments (Err Memory) old new ended reads before after
    not_generated = record {
      delivers = delivers (Err Memory) after (written_none (Err Memory) ((answers.0, answers.1, inr (stmts_of section, is_read)), refl, none));
      passes = front.passes;
    }

    module _ (segment : i.Intcode) (applies : Represents (items_of segment) (stmts_of section)) (frame : EndsWithFrame (items_of segment) (frame_words (stmts_of section))) (after' : Output) (passes : Begins after.passed after'.passed) where
      is_generated : IsGenerated (record { bytes = answers.0; stmts = stmts_of section; items = items_of segment })
      is_generated = record { read = is_read; segment = segment_whole segment; applies = applies; frame = frame }

      -- its text could not be put
      pub not_put : AppendsPart after.taken after'.taken (segment_text (items_of segment)) → after'.faults ≡ 1 → PutsSegments (Err Write) old new ended reads before after'
      not_put part failed = record {
        delivers = delivers (Err Write) after' (
          failed,
          record {
            text = segment_text (items_of segment);
            part = (record { bytes = answers.0; stmts = stmts_of section; items = items_of segment }, is_generated, answers.1, refl, none);
            some = part.part;
            others = part.rest;
            begins = part.whole;
            takes = Appends-trans before.taken after.taken after'.taken (texts_of front.sections) part.part front.takes part.appends;
          },
        );
        passes = Begins-trans before.passed after.passed after'.passed front.passes passes;
      }

      -- another may follow
      pub goes_on : Appends after.taken after'.taken (segment_text (items_of segment)) → (IsTrue was → ⊥) → Front (count + 1) old new ended before after'
      goes_on puts not_over =
          let last : Generated = record { bytes = answers.0; stmts = stmts_of section; items = items_of segment } in
          let all : sections_of (front.sections ++ last ∷ []) ≡ sections_of front.sections ++ stmts_of section ∷ [] = map-append (λ (g : Generated). g.stmts) front.sections (last ∷ []) in
          let bytes = bytes_push front.sections last in
          record {
            sections = front.sections ++ last ∷ [];
            generated = generated_push front.sections last front.generated is_generated;
            delivered = subst (λ (l : List ℕ). Consumes old new l) (sym bytes) (Consumes-trans old now new (bytes_of front.sections) answers.0 front.delivered answers.1);
            counted = omega (arith, front.counted, length-append front.sections (last ∷ []));
            read = subst (λ (l : List (List Stmt)). text.Read ocode l (bytes_of (front.sections ++ last ∷ [])) ended) (sym all)
                (subst (λ (l : List ℕ). text.Read ocode (sections_of front.sections ++ stmts_of section ∷ []) l ended) (sym bytes)
                (read_more ocode (sections_of front.sections) (bytes_of front.sections) was front.read answers.0 ended not_over (stmts_of section) (answers.2.0, answers.2.1)
                (λ more over. words_of-all (answers.0 ++ more) answers.0 more (AtEnd ended (length answers.0)) (section_words (stmts_of section)) refl answers.2.2 over)));
            takes = subst (λ (l : List ℕ). Appends before.taken after'.taken l) (sym (texts_push front.sections last))
                (Appends-trans before.taken after.taken after'.taken (texts_of front.sections) (segment_text (items_of segment)) front.takes puts);
            passes = Begins-trans before.passed after.passed after'.passed front.passes passes;
          }

-- a text has fewer sections than one call reads bytes
pub too_many : (count : ℕ) (old new : Option (List ℕ)) (ended : Bool) (reads : ℕ) (before after : Output) → Front count old new ended before after → INPUT_BYTES ≤ count
    → PutsSegments (Ok tt) old new ended reads before after
too_many count old new ended reads before after front many = record {
  delivers = record {
    sections = front.sections;
    generated = front.generated;
    following = new;
    delivered = front.delivered;
    holds = λ short. absurd (omega (arith, short, many, front.counted, few front.sections front.generated));
  };
  passes = front.passes;
}

-- ---- the last flush

delivers_as : (old : Option (List ℕ)) (This That : List Generated → Option (List ℕ) → Type 0) → ((sections : List Generated) (following : Option (List ℕ)) → This sections following → That sections following)
    → Delivers old This → Delivers old That
delivers_as old This That so d = record {
  sections = d.sections;
  generated = d.generated;
  following = d.following;
  delivered = d.delivered;
  holds = λ short. so d.sections d.following (d.holds short);
}

module _ (answer : Result (Unit {0}) KitFault) (old new : Option (List ℕ)) (ended : Bool) (reads : ℕ) (before after after' : Output)
    (puts : PutsSegments answer old new ended reads before after) (keeps : Keeps after.taken after'.taken) (passes : Begins after.passed after'.passed) where
  pub generates : (after.faults ≡ 1 → ⊥) → after'.passed ≡ after'.taken → after'.faults ≡ 0 → Generates answer old new ended reads before after'
  generates never all none = record {
    delivers = delivers_as old _ _ (λ sections following here. flushed (Comes sections following new ended reads) (Takes following new reads) (texts_of sections) before after after' keeps answer here never all none) puts.delivers;
    passes = Begins-trans before.passed after.passed after'.passed puts.passes passes;
  }

  pub generates_no_more : after'.faults ≡ 1 → Generates (Err Write) old new ended reads before after'
  generates_no_more one = record {
    delivers = delivers_as old _ _ (λ sections following here. stuck (Comes sections following new ended reads) (Takes following new reads) (texts_of sections) before after after' keeps answer here one) puts.delivers;
    passes = Begins-trans before.passed after.passed after'.passed puts.passes passes;
  }

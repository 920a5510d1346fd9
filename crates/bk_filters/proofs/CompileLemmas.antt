-- Sections that are compiled one after another, and their texts.
pub use Rattle.bk_filters.proofs.Terms.{◌≡◌, inl, inr, ◌⊎◌, ℕ, ◌≤◌, ◌<◌, ◌++◌, Bool, false, List, [], ◌∷◌, Option, None, Some, Result, Ok, Err, IfErr, length, if◌then◌else◌, arith, refl, sym, ap, subst, ◌∙◌, append_assoc, append-nil, IsErr, Appends, Keeps, Begins, AppendsPart, Begins-refl, Begins-trans, Appends-nothing, Appends-trans, INPUT_BYTES, Stmt, section_text, KitFault, Source, Ocode, Intcode, Read, Write, Memory, CompiledSection, is_read_fault, IsUndecided, Settles, IsDelivered, bytes_of, codes_of, line_following, texts_of, codes_in, Compiled, Refuses, AreAllTyped, Accepts, Takes, Comes, Delivers, PutsSections, Compiles, Written, Puts, Output, rules, output, ◌-◌, ◌^◌}
use Rattle.bk_filters.proofs.FilterLemmas.{flushed, stuck}
use Rattle.bk_filters.proofs.ReadingLemmas.{ends_with_source}
use Rattle.bk_filters.proofs.PassedSections.{refused_as, refuses_behind, takes_as, not_ended, Passed, passed_none, all_counted, passed_and_part, passed_on, typed_in}

pub texts_push : (front codes : List (List Stmt)) → texts_of (front ++ codes) ≡ texts_of front ++ texts_of codes
texts_push [] codes = refl
texts_push (first ∷ front) codes =
    ap (λ (l : List ℕ). section_text first ++ l) (texts_push front codes) ∙ sym (append_assoc (section_text first) (texts_of front) (texts_of codes))

-- ---- the sections so far

-- Their texts were written.
pub record Front (old now : Option (List ℕ)) (taken line : ℕ) (before after : Output) : Type 0 where
  pub passed : Passed old now taken line
  pub takes : Appends before.taken after.taken (texts_of (codes_of passed.sections))
  pub passes : Begins before.passed after.passed

pub front_empty : (known : Option (List ℕ)) (before : Output) → Front known known 0 1 before before
front_empty known before = record {
  passed = passed_none known;
  takes = Appends-nothing before.taken;
  passes = Begins-refl before.passed;
}

module _ (old now new : Option (List ℕ)) (ended : Bool) (reads taken taken' line : ℕ) (before after : Output) (front : Front old now taken line before after)
    (text : List ℕ) (here : IsDelivered text now new taken taken') (most : taken' ≤ INPUT_BYTES) where
  counted_all : taken' ≡ length (bytes_of front.passed.sections ++ text)
  counted_all = all_counted old now new taken taken' line front.passed text here

  -- an answer, and the output then
  abbrev PutsHere : Result (Unit {0}) KitFault → Output → List ℕ → List ℕ → ℕ → Type 0
  PutsHere answer after' written part l = Puts (Comes part l ended reads) (Takes part l ended reads) written before after' answer

  delivers : (answer : Result (Unit {0}) KitFault) (after' : Output) → (taken' < INPUT_BYTES → PutsHere answer after' (texts_of (codes_of front.passed.sections)) text line)
      → Delivers old new (PutsHere answer after')
  delivers answer after' holds = record {
    front = passed_and_part old now new taken taken' line front.passed text here most;
    holds = λ short. subst (λ (l : ℕ). PutsHere answer after' (texts_of (codes_of front.passed.sections)) text l) front.passed.at (holds (omega (arith, counted_all, short)));
  }

  -- nothing is written of the next section
  written_none : (answer : Result (Unit {0}) KitFault) → Comes text line ended reads answer [] → Written (Comes text line ended reads) (Takes text line ended reads) (texts_of (codes_of front.passed.sections)) before after answer
  written_none answer comes = record {
    text = [];
    comes = comes;
    takes = subst (λ (l : List ℕ). Appends before.taken after.taken l) (sym (append-nil (texts_of (codes_of front.passed.sections)))) front.takes;
  }

  -- the section could not be read
  pub not_read : (fault : KitFault) → (fault ≡ Memory) ⊎ ((fault ≡ Read) × IsUndecided text) → (taken' < INPUT_BYTES → reads ≡ (if is_read_fault fault then 1 else 0))
      → PutsSections (Err fault) old new ended reads before after
  not_read fault (inl memory) count =
      let none : (taken' < INPUT_BYTES → reads ≡ 0) = λ short. rw memory at count short in
      rw memory record { delivers = delivers (Err Memory) after (λ short. written_none (Err Memory) (refl, none short)); passes = front.passes }
  not_read fault (inr failed) count =
      let one : (taken' < INPUT_BYTES → reads ≡ 1) = λ short. rw failed.0 at count short in
      rw failed.0 record { delivers = delivers (Err Read) after (λ short. written_none (Err Read) (failed.1, refl, one short)); passes = front.passes }

  module _ (settles : taken' < INPUT_BYTES → Settles text ended) (none_failed : taken' < INPUT_BYTES → reads ≡ 0) where
    -- the section is refused
    pub not_compiled : (fault : KitFault) → Refuses fault text line → PutsSections (Err fault) old new ended reads before after
    not_compiled (Source fault) refuses = record {
      delivers = delivers (Err (Source fault)) after
          (λ short. written_none (Err (Source fault)) ((λ rest follows. refused_as (text ++ rest) line fault (refuses_behind text rest line fault (settles short line rest follows) refuses)), refl, none_failed short));
      passes = front.passes;
    }
    not_compiled Memory refuses = record { delivers = delivers (Err Memory) after (λ short. written_none (Err Memory) (refl, none_failed short)); passes = front.passes }
    not_compiled x refuses = absurd refuses

    module _ (c : CompiledSection) (compiled : Compiled c text line) (after' : Output) (passes : Begins after.passed after'.passed) where
      accepts : taken' < INPUT_BYTES → Accepts text line ended compiled.tokens compiled.has.trees
      accepts short = takes_as text line ended c compiled (settles short)

      -- its text could not be put
      pub not_put : AppendsPart after.taken after'.taken (texts_of (codes_in c.code)) → after'.faults ≡ 1 → PutsSections (Err Write) old new ended reads before after'
      not_put part failed = record {
        delivers = delivers (Err Write) after' (λ short. (
          failed,
          record {
            text = texts_of (codes_in c.code);
            part = (compiled.tokens, compiled.has.trees, accepts short, ap texts_of compiled.has.code, none_failed short);
            some = part.part;
            others = part.rest;
            begins = part.whole;
            takes = Appends-trans before.taken after.taken after'.taken (texts_of (codes_of front.passed.sections)) part.part front.takes part.appends;
          },
        ));
        passes = Begins-trans before.passed after.passed after'.passed front.passes passes;
      }

      module _ (puts : Appends after.taken after'.taken (texts_of (codes_in c.code))) where
        takes_behind : Appends before.taken after'.taken (texts_of (codes_of front.passed.sections) ++ texts_of (codes_in c.code))
        takes_behind = Appends-trans before.taken after.taken after'.taken (texts_of (codes_of front.passed.sections)) (texts_of (codes_in c.code)) front.takes puts

        -- it is the last
        pub is_last : c.next ≡ None → PutsSections (Ok tt) old new ended reads before after'
        is_last none = record {
          delivers = delivers (Ok tt) after' (λ short.
              let open_ : compiled.tokens.ended ≡ false = not_ended compiled.tokens (sym none ∙ compiled.next) in
              record {
                text = texts_of (codes_in c.code);
                comes = (compiled.tokens, compiled.has.trees, accepts short, ap texts_of compiled.has.code, open_, ends_with_source text line compiled.tokens ended (settles short) compiled.lexed_as open_, none_failed short, compiled.bytes, subst AreAllTyped compiled.has.code (typed_in c.code));
                takes = takes_behind;
              });
          passes = Begins-trans before.passed after.passed after'.passed front.passes passes;
        }

        -- another follows
        pub goes_on : (next : ℕ) → c.next ≡ Some next → Front old new taken' next before after'
        goes_on next some =
            let more = passed_on old now new taken taken' line front.passed text here c compiled next some in
            record {
              passed = more.0;
              takes = subst (λ (l : List ℕ). Appends before.taken after'.taken l)
                  (sym (texts_push (codes_of front.passed.sections) (codes_in c.code)) ∙ ap texts_of (sym more.1)) takes_behind;
              passes = Begins-trans before.passed after.passed after'.passed front.passes passes;
            }

-- an answer that is a fault
pub puts_fault : (old new : Option (List ℕ)) (ended : Bool) (reads : ℕ) (before after : Output) (answer : Result (Unit {0}) KitFault) → IsErr answer
    → IfErr answer (λ fault. PutsSections (Err fault) old new ended reads before after) → PutsSections answer old new ended reads before after
puts_fault old new ended reads before after (Ok done) is puts = cc
puts_fault old new ended reads before after (Err fault) is puts = puts

-- ---- the last flush

delivers_as : (old new : Option (List ℕ)) (This That : List ℕ → List ℕ → ℕ → Type 0) → ((front part : List ℕ) (line : ℕ) → This front part line → That front part line)
    → Delivers old new This → Delivers old new That
delivers_as old new This That so d = record {
  front = d.front;
  holds = λ short. so (texts_of (codes_of d.front.sections)) d.front.part (line_following 1 d.front.sections) (d.holds short);
}

module _ (answer : Result (Unit {0}) KitFault) (old new : Option (List ℕ)) (ended : Bool) (reads : ℕ) (before after after' : Output)
    (puts : PutsSections answer old new ended reads before after) (keeps : Keeps after.taken after'.taken) (passes : Begins after.passed after'.passed) where
  pub compiles : (after.faults ≡ 1 → ⊥) → after'.passed ≡ after'.taken → after'.faults ≡ 0 → Compiles answer old new ended reads before after'
  compiles never all none = record {
    delivers = delivers_as old new _ _ (λ front part line here. flushed (Comes part line ended reads) (Takes part line ended reads) front before after after' keeps answer here never all none) puts.delivers;
    passes = Begins-trans before.passed after.passed after'.passed puts.passes passes;
  }

  pub compiles_no_more : after'.faults ≡ 1 → Compiles (Err Write) old new ended reads before after'
  compiles_no_more one = record {
    delivers = delivers_as old new _ _ (λ front part line here. stuck (Comes part line ended reads) (Takes part line ended reads) front before after after' keeps answer here one) puts.delivers;
    passes = Begins-trans before.passed after.passed after'.passed puts.passes passes;
  }

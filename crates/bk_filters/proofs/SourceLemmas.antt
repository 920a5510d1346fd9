-- A source whose sections are assembled one after another, and then loaded and run.
pub use Rattle.bk_filters.proofs.Terms.{◌≡◌, ◌≢◌, inl, inr, ◌⊎◌, ℕ, ◌+◌, ◌≤◌, ◌<◌, ◌++◌, Bool, true, false, List, [], ◌∷◌, Option, None, Some, Result, Ok, Err, IfErr, map, arith, refl, sym, ap, subst, ◌∙◌, append-nil, IsErr, map-append, Begins, INPUT_BYTES, STORE_MOST, End, WriteFault, stmts_of, stmts_of_parts, AreBytes, Stmt, section_whole, Item, Registers, items_of, SEGMENTS, stack_start, any_starts, loaded_store, Ran, Blames, segment_whole, Part, segments, image, items_of_part, Represents, KitFault, Source, Ocode, Intcode, Read, Memory, CompiledSection, SectionCode, Declarations, AnyBytes, Streams, devices_of, first_registers, is_read_fault, is_read, IsUndecided, Settles, Follows, IsDelivered, EachSource, codes_in, trees_in, Compiled, Refuses, HasTrees, IsRefused, HasParts, Headline, meanings, MeaningRuns, MeaningTooSmall, MeaningStartless, LoadFault, LoadFault as load, store_of, registers_of, ◌-◌, ◌^◌, rules}
use Rattle.bk_ocode.specs.declared.section.Ocode as o
use Rattle.bk_machine.specs.declared.segment.Intcode as i
use Rattle.bk_filters.specs.Sources.{Accepted, Refused, bytes_of, trees_of, codes_of, stmts_of_tree}
use Rattle.bk_filters.specs.Loading.{load_refused}
use Rattle.bk_filters.specs.RunningSource.{Stand, Generated, Assembled, NotAssembled, RefusesSource, ReadsSource, NotLoaded}
use Rattle.bk_filters.proofs.SourceSectionLemmas.{meaning_refuses, has_delivered, refused_delivered}
use Rattle.bk_filters.proofs.ReadingLemmas.{ends_with_source}
use Rattle.bk_filters.proofs.PassedSections.{bytes_both, refused_as, refuses_behind, takes_as, not_ended, Passed, passed_none, all_delivered, all_counted, passed_and_part, passed_on}

-- what holds of each source holds of each
each_source_as : (old new : Option (List ℕ)) (ended : Bool) (This That : List ℕ → Type 0) → ((source : List ℕ) → This source → That source)
    → EachSource old new ended This → EachSource old new ended That
each_source_as old new ended This That so each = record {
  text = each.text;
  delivered = each.delivered;
  within = each.within;
  holds = λ short rest follows. so (each.text ++ rest) (each.holds short rest follows);
}

-- ---- segments that stand for sections

-- the part of a section and of the segment that is generated from it
abbrev part_of : (code : o.Ocode) (segment : i.Intcode) → Represents (items_of segment) (stmts_of code) → Part
part_of code segment applies = record {
  stmts = stmts_of code;
  items = items_of segment;
  accepted = (section_whole code).0;
  whole = segment_whole segment;
  applies = applies;
}

-- it is one more
pub generated_one : (before : List i.Intcode) (section : SectionCode) (segment : i.Intcode) → Represents (items_of segment) (stmts_of section.code)
    → Generated (map items_of before) (map items_of (before ++ segment ∷ [])) (codes_in (Some section))
generated_one before section segment applies = (
  items_of segment ∷ [],
  map-append items_of before (segment ∷ []),
  record { parts = part_of section.code segment applies ∷ []; segments_are = refl; stmts_are = refl },
)

-- both together
stand_both : (all more : List (List Item)) (codes others : List (List Stmt)) → Stand all codes → Stand more others → Stand (all ++ more) (codes ++ others)
stand_both all more codes others first second = record {
  parts = first.parts ++ second.parts;
  segments_are = map-append items_of_part first.parts second.parts ∙ ap (λ s. s ++ segments second.parts) first.segments_are ∙ ap (λ s. all ++ s) second.segments_are;
  stmts_are = map-append (λ (p : Part). p.stmts) first.parts second.parts ∙ ap (λ s. s ++ stmts_of_parts second.parts) first.stmts_are ∙ ap (λ s. codes ++ s) second.stmts_are;
}

-- ---- the sections so far

-- Accepted sections were read, and these segments stand for them; the source has not failed.
pub record Gathered (old now : Option (List ℕ)) (taken line : ℕ) (all : List (List Item)) (faults : ℕ) : Type 0 where
  pub passed : Passed old now taken line
  pub stand : Stand all (codes_of passed.sections)
  pub readable : (taken < INPUT_BYTES) ⊎ (faults ≡ 0)

pub gathered_none : (known : Option (List ℕ)) (faults : ℕ) → Gathered known known 0 1 [] faults
gathered_none known faults = record {
  passed = passed_none known;
  stand = record { parts = []; segments_are = refl; stmts_are = refl };
  readable = inl (omega arith);
}

-- The same, with their trees.
pub record WithTrees (old now : Option (List ℕ)) (taken line : ℕ) (trees : List Declarations) (faults : ℕ) : Type 0 where
  pub passed : Passed old now taken line
  pub trees_are : trees_of passed.sections ≡ trees
  pub readable : (taken < INPUT_BYTES) ⊎ (faults ≡ 0)

pub trees_none : (known : Option (List ℕ)) (faults : ℕ) → WithTrees known known 0 1 [] faults
trees_none known faults = record { passed = passed_none known; trees_are = refl; readable = inl (omega arith) }

module _ (old now new : Option (List ℕ)) (ended : Bool) (taken taken' line : ℕ) (passed : Passed old now taken line)
    (text : List ℕ) (here : IsDelivered text now new taken taken') (most : taken' ≤ INPUT_BYTES) where
  -- what holds of the sections and this text, whatever follows
  each : (Holds : List ℕ → Type 0) → (taken' < INPUT_BYTES → (rest : List ℕ) → Follows ended rest → Holds ((bytes_of passed.sections ++ text) ++ rest)) → EachSource old new ended Holds
  each Holds holds =
      let counted = all_counted old now new taken taken' line passed text here in
      record {
        text = bytes_of passed.sections ++ text;
        delivered = all_delivered old now new taken taken' line passed text here;
        within = omega (arith, counted, most);
        holds = λ short. holds (omega (arith, counted, short));
      }

  -- the section could not be read
  pub not_read : (fault : KitFault) → (fault ≡ Memory) ⊎ ((fault ≡ Read) × IsUndecided text) → NotAssembled fault old new ended
  not_read fault (inl memory) = rw memory (each (λ source. Unit) (λ short rest follows. tt))
  not_read fault (inr failed) = rw failed.0 (each (λ source. Unit) (λ short rest follows. tt))

  -- of which this was read
  pub stops_reading : (fault : KitFault) → (fault ≡ Memory) ⊎ ((fault ≡ Read) × IsUndecided text)
      → ReadsSource (is_read_fault fault) old new
  stops_reading fault (inl memory) = record {
    front = passed_and_part old now new taken taken' line passed text here most;
    goes_on = λ is. absurd (let other : false ≡ true = rw memory at is in cc);
  }
  stops_reading fault (inr failed) = record {
    front = passed_and_part old now new taken taken' line passed text here most;
    goes_on = λ is. failed.1;
  }

  -- it was read
  pub has_read : ReadsSource false old new
  has_read = record { front = passed_and_part old now new taken taken' line passed text here most; goes_on = λ is. absurd (let other : false ≡ true = is in cc) }

  -- memory was refused
  pub no_memory : NotAssembled Memory old new ended
  no_memory = not_read Memory (inl refl)

  module _ (settles : taken' < INPUT_BYTES → Settles text ended) where
    -- the section is refused
    pub not_compiled : (fault : KitFault) → Refuses fault text line → NotAssembled fault old new ended
    not_compiled (Source fault) refuses = each (λ source. IsRefused source fault) (λ short rest follows.
        refused_delivered passed.sections text rest (passed.accepted (text ++ rest)) fault
        (subst (λ (l : ℕ). Refused fault (text ++ rest) l) passed.at (refused_as (text ++ rest) line fault (refuses_behind text rest line fault (settles short line rest follows) refuses))))
    not_compiled Memory refuses = no_memory
    not_compiled x refuses = absurd refuses

    module _ (c : CompiledSection) (compiled : Compiled c text line) where
      -- the source is of bytes, which nothing follows
      all_bytes : c.next ≡ None → taken' < INPUT_BYTES → (rest : List ℕ) → Follows ended rest → AreBytes ((bytes_of passed.sections ++ text) ++ rest)
      all_bytes none short rest follows =
          let over = ends_with_source text line compiled.tokens ended (settles short) compiled.lexed_as (not_ended compiled.tokens (sym none ∙ compiled.next)) in
          let nothing : rest ≡ [] = follows over in
          subst AreBytes (sym (append-nil (bytes_of passed.sections ++ text)) ∙ ap (λ r. (bytes_of passed.sections ++ text) ++ r) (sym nothing)) (bytes_both (bytes_of passed.sections) text passed.bytes compiled.bytes)

      -- the trees of all, where it is the last
      last_trees : c.next ≡ None → taken' < INPUT_BYTES → (rest : List ℕ) → Follows ended rest → HasTrees ((bytes_of passed.sections ++ text) ++ rest) (trees_of passed.sections ++ compiled.has.trees)
      last_trees none short rest follows =
          has_delivered passed.sections text rest (passed.accepted (text ++ rest)) compiled.tokens compiled.has.trees (all_bytes none short rest follows)
          (subst (λ (l : ℕ). Accepted (text ++ rest) l compiled.tokens compiled.has.trees) passed.at (takes_as text line ended c compiled (settles short) rest follows))
          (not_ended compiled.tokens (sym none ∙ compiled.next))

      module _ (trees : List Declarations) (are : trees_of passed.sections ≡ trees) where
        with_its_tree : trees_of passed.sections ++ compiled.has.trees ≡ trees ++ trees_in c.code
        with_its_tree = ap (λ l. l ++ compiled.has.trees) are ∙ ap (λ l. trees ++ l) compiled.has.trees_are

        -- another follows
        pub trees_go_on : (next faults' : ℕ) → c.next ≡ Some next → faults' ≡ 0 → WithTrees old new taken' next (trees ++ trees_in c.code) faults'
        trees_go_on next faults' some none =
            let more = passed_on old now new taken taken' line passed text here c compiled next some in
            record { passed = more.0; trees_are = more.2 ∙ with_its_tree; readable = inr none }

        -- it is the last
        pub trees_end : c.next ≡ None → EachSource old new ended (λ source. HasTrees source (trees ++ trees_in c.code))
        trees_end none = each (λ source. HasTrees source (trees ++ trees_in c.code)) (λ short rest follows.
            subst (HasTrees ((bytes_of passed.sections ++ text) ++ rest)) with_its_tree (last_trees none short rest follows))

      module _ (all all' : List (List Item)) (before : Stand all (codes_of passed.sections)) (generated : Generated all all' (codes_in c.code)) where
        stand : Stand all' (codes_of passed.sections ++ codes_in c.code)
        stand = subst (λ s. Stand s (codes_of passed.sections ++ codes_in c.code)) (sym generated.1)
            (stand_both all generated.0 (codes_of passed.sections) (codes_in c.code) before generated.2)

        -- another follows
        pub goes_on : (next faults' : ℕ) → c.next ≡ Some next → faults' ≡ 0 → Gathered old new taken' next all' faults'
        goes_on next faults' some none =
            let more = passed_on old now new taken taken' line passed text here c compiled next some in
            record {
              passed = more.0;
              stand = subst (Stand all') (sym more.1) stand;
              readable = inr none;
            }

        -- it is the last
        pub is_last : c.next ≡ None → Assembled all' old new ended
        is_last none = record {
          parts = stand.parts;
          segments_are = stand.segments_are;
          has = each (HasParts stand.parts) (λ short rest follows. (
            trees_of passed.sections ++ compiled.has.trees,
            last_trees none short rest follows,
            stand.stmts_are ∙ ap (λ l. codes_of passed.sections ++ l) compiled.has.code ∙ sym (map-append stmts_of_tree (trees_of passed.sections) compiled.has.trees),
          ));
        }

-- ---- what is answered

-- what was read where an answer is this fault
pub fails_as : {T : Type 0} → (answer : Result T KitFault) (fault : KitFault) (old new : Option (List ℕ)) → IsErr answer → IfErr answer (λ f. f ≡ fault)
    → ReadsSource (is_read_fault fault) old new → ReadsSource (is_read answer) old new
fails_as (Ok value) fault old new is same reads = cc
fails_as (Err f) fault old new is same reads = rw same reads

module _ (words : ℕ) (old new : Option (List ℕ)) (ended : Bool) where
  -- of a source that is not assembled
  pub not_assembled : (fault : KitFault) → NotAssembled fault old new ended → RefusesSource fault words old new ended
  not_assembled (Source fault) refused steps before =
      each_source_as old new ended (λ source. IsRefused source fault) _ (λ source is. meaning_refuses source fault steps words before is) refused
  not_assembled Read refused steps before = each_source_as old new ended (λ source. Unit) _ (λ source is. refl) refused
  not_assembled Memory refused steps before = each_source_as old new ended (λ source. Unit) _ (λ source is. refl) refused
  not_assembled x refused steps before = absurd refused

  -- nor are its segments loaded
  pub none_loaded : (fault : KitFault) → NotAssembled fault old new ended → NotLoaded fault words old new ended
  none_loaded (Source fault) refused = tt
  none_loaded Read refused = tt
  none_loaded Memory refused = tt
  none_loaded x refused = absurd refused

  pub segments_not_loaded : (fault : LoadFault) (all : List (List Item)) → Assembled all old new ended
      → (fault ≡ load.TooSmall → words < stack_start SEGMENTS all + 16) → (fault ≡ load.NoStart → (stack_start SEGMENTS all + 16 ≤ words) × (any_starts all ≡ false))
      → NotLoaded (load_refused fault) words old new ended
  segments_not_loaded load.TooSmall all made low none = (all, made, low refl)
  segments_not_loaded load.NoStart all made low none = (all, made, (none refl).0, (none refl).1)
  segments_not_loaded load.Memory all made low none = tt

  -- of one whose segments are not loaded
  pub not_loaded : MeaningTooSmall → MeaningStartless → words ≤ STORE_MOST → (fault : LoadFault) (parts : List Part) → EachSource old new ended (HasParts parts)
      → (fault ≡ load.TooSmall → words < image parts + 16) → (fault ≡ load.NoStart → (image parts + 16 ≤ words) × (any_starts (segments parts) ≡ false))
      → RefusesSource (load_refused fault) words old new ended
  not_loaded small startless most load.TooSmall parts has low none steps before =
      each_source_as old new ended (HasParts parts) _ (λ source says. small parts source steps words before says (low refl)) has
  not_loaded small startless most load.NoStart parts has low none steps before =
      each_source_as old new ended (HasParts parts) _ (λ source says. startless parts source steps words before says (none refl).0 most (none refl).1) has
  not_loaded small startless most load.Memory parts has low none steps before = each_source_as old new ended (HasParts parts) _ (λ source says. refl) has

  -- of one that is run
  pub source_runs : MeaningRuns → (end : End) (steps : ℕ) (before after : Streams) (parts : List Part) (store : List ℕ) (registers : Registers)
      → EachSource old new ended (HasParts parts) → image parts + 16 ≤ words → words ≤ STORE_MOST → any_starts (segments parts) ≡ true
      → Ran AnyBytes end steps (loaded_store words (segments parts)) (first_registers (segments parts)) store registers (devices_of before) (devices_of after)
      → Begins before.passed after.passed → (end ≢ WriteFault → after.passed ≡ after.taken) → Blames end before.reads after.reads after.writes
      → Headline meanings (Ok end) steps words old new ended before after
  source_runs runs end steps before after parts store registers has room most starts ran passes passed blamed =
      each_source_as old new ended (HasParts parts) _ (λ source says.
      runs parts source end steps words store registers before after says room most starts ran passes passed blamed) has

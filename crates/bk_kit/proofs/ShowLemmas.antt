-- A source whose sections are written one after another.
pub use Rattle.bk_kit.proofs.Terms.{◌≡◌, inl, inr, ◌⊎◌, ℕ, ◌<◌, ◌≤◌, Bool, true, false, List, [], ◌∷◌, ◌++◌, map, Option, None, Some, Result, Ok, Err, IfOk, IfErr, refl, sym, ap, subst, ◌∙◌, append-nil, map-append, Keeps, Begins, Begins-refl, Begins-trans, Begins-Keeps, INPUT_BYTES, Section, lexed, Symbol, Declarations, declarations_of, stmts_of, Stmt, Represents, KitFault, Source, Ocode, Intcode, TooSmall, NoStart, Read, Write, Memory, CompiledSection, SectionCode, HasTheseTrees, Compiled, HasCode, Refuses, trees_in, codes_in, is_read, is_read_fault, IsUndecided, IsDelivered, Settles, NotAssembled, ReadsSource, IsTree, Means, stmts_of_tree, Output, NotShown, NotShown as unshown, IsErr, if◌then◌else◌, WithTrees, trees_none, not_read, no_memory, not_compiled, trees_go_on, trees_end, stops_reading, has_read, IsViewed, AreViewed, trees_viewed, Written, Stops, HasViewed, ShowsSections, PutsSection, NotPut, Shows, PassesAll, ShowsSource, rules, ◌-◌, ◌^◌, arith, some_taken, symbols_of}
use Rattle.bk_show.specs.Viewed.{Viewed}

-- ---- the values of one section

tree_meant : (symbols : List Symbol) (tree : Declarations) → Means symbols (tree ∷ []) → IsTree tree symbols
tree_meant [] tree means = cc
tree_meant (symbol ∷ symbols) tree means = let same : tree ≡ means.0 = cc in subst (λ t. IsTree t (symbol ∷ symbols)) (sym same) means.1

pub has_tree : (section : SectionCode) (symbols : List Symbol) → HasCode symbols (codes_in (Some section)) (trees_in (Some section))
    → IsTree (declarations_of section.tree) symbols × (stmts_of section.code ≡ stmts_of_tree (declarations_of section.tree))
has_tree section symbols has =
    let code : stmts_of section.code ∷ [] ≡ map stmts_of_tree (declarations_of section.tree ∷ []) = has.code ∙ ap (map stmts_of_tree) has.trees_are in
    (tree_meant symbols (declarations_of section.tree) (subst (Means symbols) has.trees_are has.means), cc)

pub if_ok_map : {A E : Type 0} (P Q : A → Type 0) (r : Result A E) → ((a : A) → P a → Q a) → IfOk r P → IfOk r Q
if_ok_map P Q (Ok a) f h = f a h
if_ok_map P Q (Err e) f h = tt

pub if_err_map : {A E : Type 0} (P Q : E → Type 0) (r : Result A E) → ((e : E) → P e → Q e) → IfErr r P → IfErr r Q
if_err_map P Q (Ok a) f h = tt
if_err_map P Q (Err e) f h = f e h

-- ---- sections so far

are_more : (sections : List Viewed) (x : Viewed) → AreViewed sections → IsViewed x → AreViewed (sections ++ x ∷ [])
are_more [] x are is = (is, tt)
are_more (y ∷ rest) x are is = (are.0, are_more rest x are.1 is)

-- what a fault of the source says does not depend on the sections before it
viewed_fault : {O : Type 0} (Writes : O → O → Viewed → Type 0) (Fails : O → O → NotShown → Type 0) (fault : KitFault) (sections : List Viewed) (old new : Option (List ℕ)) (ended : Bool) (reads : ℕ) (out : O)
    → NotAssembled fault old new ended → reads ≡ (if is_read_fault fault then 1 else 0)
    → HasViewed Writes Fails (Err fault) sections old new ended reads × Stops Writes Fails (Err fault) out out
viewed_fault Writes Fails (Source fault) sections old new ended reads out refused count = ((refused, count), refl)
viewed_fault Writes Fails Read sections old new ended reads out refused count = ((refused, count), refl)
viewed_fault Writes Fails Memory sections old new ended reads out refused count = ((refused, count), inl refl)
viewed_fault Writes Fails x sections old new ended reads out refused count = absurd refused

module _ {O : Type 0} (Writes : O → O → Viewed → Type 0) (Fails : O → O → NotShown → Type 0) where
  written_more : (before : O) (sections : List Viewed) (mid after : O) (x : Viewed) → Written Writes Fails before sections mid → Writes mid after x
      → Written Writes Fails before (sections ++ x ∷ []) after
  written_more before [] mid after x was now = (after, subst (λ (o : O). Writes o after x) was now, refl)
  written_more before (y ∷ rest) mid after x was now = (was.0, was.1, written_more was.0 rest mid after x was.2 now)

  -- Accepted sections were read and written.
  pub record Showing (old now : Option (List ℕ)) (taken line faults : ℕ) (before after : O) : Type 0 where
    pub sections : List Viewed
    pub are : AreViewed sections
    pub read : WithTrees old now taken line (trees_viewed sections) faults
    pub written : Written Writes Fails before sections after

  pub showing_none : (known : Option (List ℕ)) (faults : ℕ) (out : O) → Showing known known 0 1 faults out out
  showing_none known faults out = record { sections = []; are = tt; read = trees_none known faults; written = refl }

  -- what was written of a section
  pub section_put : (section : SectionCode) (c : CompiledSection) (text : List ℕ) (line : ℕ) (s : Section) (old new : O) (x : Viewed) → Compiled c text line → c.code ≡ Some section
      → lexed text line ≡ Ok s → x.symbols ≡ s.symbols → x.tree ≡ declarations_of section.tree → x.code ≡ stmts_of section.code → Represents x.segment (stmts_of section.code)
      → Writes old new x → PutsSection Writes Fails c.code old new
  section_put section c text line s old new x compiled some lexed_as symbols tree code applies writes =
      let same : compiled.tokens ≡ s = let e = sym compiled.lexed_as ∙ lexed_as in cc in
      let has : HasCode compiled.tokens.symbols (codes_in (Some section)) (trees_in (Some section)) =
      subst (λ (o : Option SectionCode). HasCode compiled.tokens.symbols (codes_in o) (trees_in o)) some compiled.has in
      let is = has_tree section compiled.tokens.symbols has in
      let letters : compiled.tokens.symbols ≡ x.symbols = ap (λ (t : Section). t.symbols) same ∙ sym symbols in
      let tree_is : IsTree x.tree x.symbols = subst (λ (t : Declarations). IsTree t x.symbols) (sym tree) (subst (IsTree (declarations_of section.tree)) letters is.0) in
      let code_is : x.code ≡ stmts_of_tree x.tree = code ∙ is.1 ∙ ap stmts_of_tree (sym tree) in
      let viewed_is : IsViewed x = record { tree = tree_is; code = code_is; applies = subst (λ (l : List Stmt). Represents x.segment l) (sym code) applies } in
      let puts : PutsSection Writes Fails (Some section) old new = (x, viewed_is, tree, writes) in
      subst (λ (o : Option SectionCode). PutsSection Writes Fails o old new) (sym some) puts

  -- the sections with one more, if it has symbols
  one_more : (code : Option SectionCode) (before : O) (sections : List Viewed) (after after' : O) → AreViewed sections → Written Writes Fails before sections after
      → PutsSection Writes Fails code after after'
      → (sections' : List Viewed) × AreViewed sections' × (trees_viewed sections ++ trees_in code ≡ trees_viewed sections') × Written Writes Fails before sections' after'
  one_more None before sections after after' are written put =
      (sections, are, append-nil (trees_viewed sections), subst (λ (o : O). Written Writes Fails before sections o) (sym put) written)
  one_more (Some section) before sections after after' are written put =
      let x = put.0 in
      let same : trees_viewed (sections ++ x ∷ []) ≡ trees_viewed sections ++ declarations_of section.tree ∷ [] =
      map-append (λ (y : Viewed). y.tree) sections (x ∷ []) ∙ ap (λ (t : Declarations). trees_viewed sections ++ t ∷ []) put.2 in
      (sections ++ x ∷ [], are_more sections x are put.1, sym same, written_more before sections after after' x written put.3)

  module _ (old now new : Option (List ℕ)) (ended : Bool) (taken taken' line faults reads : ℕ) (before after : O) (so_far : Showing old now taken line faults before after)
      (text : List ℕ) (here : IsDelivered text now new taken taken') (most : taken' ≤ INPUT_BYTES) where
    shown_fault : (fault : KitFault) → NotAssembled fault old new ended → reads ≡ (if is_read_fault fault then 1 else 0) → ReadsSource (is_read_fault fault) old new
        → ShowsSections Writes Fails (Err fault) old new ended reads before after
    shown_fault fault refused count delivered =
        let both = viewed_fault Writes Fails fault so_far.sections old new ended reads after refused count in
        record { sections = so_far.sections; are = so_far.are; mid = after; written = so_far.written; stops = both.1; has = both.0; delivered = delivered }

    -- the next could not be read
    pub section_not_read : (fault : KitFault) → (fault ≡ Memory) ⊎ ((fault ≡ Read) × IsUndecided text) → reads ≡ (if is_read_fault fault then 1 else 0)
        → ShowsSections Writes Fails (Err fault) old new ended reads before after
    section_not_read fault failed count =
        shown_fault fault (not_read old now new ended taken taken' line so_far.read.passed text here most fault failed) count
        (stops_reading old now new ended taken taken' line so_far.read.passed text here most fault failed)

    module _ (settles : taken' < INPUT_BYTES → Settles text ended) (none_failed : reads ≡ 0) where
      refused_as_source : (fault : KitFault) → is_read_fault fault ≡ false → Refuses fault text line → ShowsSections Writes Fails (Err fault) old new ended reads before after
      refused_as_source fault is refuses =
          shown_fault fault (not_compiled old now new ended taken taken' line so_far.read.passed text here most settles fault refuses) (rw is none_failed)
          (rw is (has_read old now new ended taken taken' line so_far.read.passed text here most))

      -- it is refused
      pub section_not_compiled : (fault : KitFault) → Refuses fault text line → ShowsSections Writes Fails (Err fault) old new ended reads before after
      section_not_compiled (Source fault) refuses = refused_as_source (Source fault) refl refuses
      section_not_compiled Memory refuses = refused_as_source Memory refl refuses
      section_not_compiled x refuses = absurd refuses

      module _ (after' : O) where
        unwritten : NotPut Writes Fails after after' unshown.Memory → (after' ≡ after) ⊎ Fails after after' unshown.Memory
        unwritten (inl same) = inl same.0
        unwritten (inr fails) = inr fails

        failed : NotPut Writes Fails after after' unshown.Device → Fails after after' unshown.Device
        failed (inl same) = let e : unshown.Device ≡ unshown.Memory = same.1 in cc
        failed (inr fails) = fails

        -- memory was refused for its text
        pub section_without_memory : NotPut Writes Fails after after' unshown.Memory → ShowsSections Writes Fails (Err Memory) old new ended reads before after'
        section_without_memory not_put = record {
          sections = so_far.sections;
          are = so_far.are;
          mid = after;
          written = so_far.written;
          stops = unwritten not_put;
          has = (no_memory old now new ended taken taken' line so_far.read.passed text here most, none_failed);
          delivered = has_read old now new ended taken taken' line so_far.read.passed text here most;
        }

        -- the layout failed at it
        pub section_not_put : NotPut Writes Fails after after' unshown.Device → ShowsSections Writes Fails (Err Write) old new ended reads before after'
        section_not_put not_put = record {
          sections = so_far.sections;
          are = so_far.are;
          mid = after;
          written = so_far.written;
          stops = failed not_put;
          has = tt;
          delivered = has_read old now new ended taken taken' line so_far.read.passed text here most;
        }

        module _ (c : CompiledSection) (compiled : Compiled c text line) (put : PutsSection Writes Fails c.code after after') where
          -- it is the last
          pub section_is_last : c.next ≡ None → ShowsSections Writes Fails (Ok tt) old new ended reads before after'
          section_is_last none =
              let more = one_more c.code before so_far.sections after after' so_far.are so_far.written put in
              record {
                sections = more.0;
                are = more.1;
                mid = after';
                written = more.3;
                stops = refl;
                has = (
                  subst (λ (trees : List Declarations). HasTheseTrees trees old new ended) more.2
                      (trees_end old now new ended taken taken' line so_far.read.passed text here most settles c compiled (trees_viewed so_far.sections) so_far.read.trees_are none),
                  none_failed,
                );
                delivered = has_read old now new ended taken taken' line so_far.read.passed text here most;
              }

          -- another follows
          pub section_goes_on : (next : ℕ) → c.next ≡ Some next → Showing old new taken' next reads before after'
          section_goes_on next some =
              let more = one_more c.code before so_far.sections after after' so_far.are so_far.written put in
              record {
                sections = more.0;
                are = more.1;
                read = subst (λ (trees : List Declarations). WithTrees old new taken' next trees reads) more.2
                    (trees_go_on old now new ended taken taken' line so_far.read.passed text here most settles c compiled (trees_viewed so_far.sections) so_far.read.trees_are next reads some none_failed);
                written = more.3;
              }

  -- an answer that is a fault
  pub shows_err : (old new : Option (List ℕ)) (ended : Bool) (reads : ℕ) (before after : O) (answer : Result (Unit {0}) KitFault) → IsErr answer
      → IfErr answer (λ fault. ShowsSections Writes Fails (Err fault) old new ended reads before after) → ShowsSections Writes Fails answer old new ended reads before after
  shows_err old new ended reads before after (Ok done) is shows = cc
  shows_err old new ended reads before after (Err fault) is shows = shows

-- ---- the layout of a part

module _ {O : Type 0} (taken passed : O → Option (List ℕ)) (faults : O → ℕ) where
  abbrev Grows : O → O → Type 0
  Grows old new = Begins (taken old) (taken new) × Begins (passed old) (passed new)

  abbrev Puts : O → O → Viewed → Type 0
  Puts old new section = Begins (taken old) (taken new) × Begins (passed old) (passed new)

  abbrev Leaves : O → O → NotShown → Type 0
  Leaves old new why = Begins (taken old) (taken new) × Begins (passed old) (passed new) × (why ≡ unshown.Device → faults new ≡ 1)

  same_grows : (old new : O) → new ≡ old → Grows old new
  same_grows old new same = subst (λ (o : O). Grows old o) (sym same) (Begins-refl (taken old), Begins-refl (passed old))

  pub both_grow : (old mid new : O) → Grows old mid → Grows mid new → Grows old new
  both_grow old mid new first second =
      (Begins-trans (taken old) (taken mid) (taken new) first.0 second.0, Begins-trans (passed old) (passed mid) (passed new) first.1 second.1)

  written_grows : (old : O) (sections : List Viewed) (new : O) → Written Puts Leaves old sections new → Grows old new
  written_grows old [] new same = same_grows old new same
  written_grows old (x ∷ rest) new written = both_grow old written.0 new written.1 (written_grows written.0 rest new written.2)

  left_grows : (old new : O) (why : NotShown) → Leaves old new why → Grows old new
  left_grows old new why leaves = (leaves.0, leaves.1)

  stops_grows : (answer : Result (Unit {0}) KitFault) (mid after : O) → Stops Puts Leaves answer mid after → Grows mid after
  stops_grows (Err Write) mid after stops = left_grows mid after unshown.Device stops
  stops_grows (Err Memory) mid after (inl same) = same_grows mid after same
  stops_grows (Err Memory) mid after (inr leaves) = left_grows mid after unshown.Memory leaves
  stops_grows x mid after same = same_grows mid after same

  module _ (answer : Result (Unit {0}) KitFault) (old new : Option (List ℕ)) (ended : Bool) (reads : ℕ) (before after : O) (shows : ShowsSections Puts Leaves answer old new ended reads before after) where
    pub shown_grows : Grows before after
    shown_grows = both_grow before shows.mid after (written_grows before shows.sections shows.mid shows.written) (stops_grows answer shows.mid after shows.stops)

    pub shown_so : Shows answer old new ended reads (faults after)
    shown_so = by_answer answer shows.has shows.stops
      where
        by_answer : (answer : Result (Unit {0}) KitFault) → HasViewed Puts Leaves answer shows.sections old new ended reads → Stops Puts Leaves answer shows.mid after → Shows answer old new ended reads (faults after)
        by_answer (Ok done) has stops = ((trees_viewed shows.sections, has.0), has.1)
        by_answer (Err Write) has stops = stops.2 refl
        by_answer (Err (Source fault)) has stops = has
        by_answer (Err (Ocode number fault)) has stops = has
        by_answer (Err (Intcode number fault)) has stops = has
        by_answer (Err TooSmall) has stops = has
        by_answer (Err NoStart) has stops = has
        by_answer (Err Read) has stops = has
        by_answer (Err Memory) has stops = has

-- ---- the last flush

-- what an answer says does not depend on the failures of the output, unless that failed
pub shows_still : (answer : Result (Unit {0}) KitFault) (old new : Option (List ℕ)) (ended : Bool) (reads writes writes' : ℕ) → (answer ≡ Err Write → writes' ≡ writes)
    → Shows answer old new ended reads writes → Shows answer old new ended reads writes'
shows_still (Ok done) old new ended reads writes writes' same shows = shows
shows_still (Err Write) old new ended reads writes writes' same shows = same refl ∙ shows
shows_still (Err (Source fault)) old new ended reads writes writes' same shows = shows
shows_still (Err (Ocode number fault)) old new ended reads writes writes' same shows = shows
shows_still (Err (Intcode number fault)) old new ended reads writes writes' same shows = shows
shows_still (Err TooSmall) old new ended reads writes writes' same shows = shows
shows_still (Err NoStart) old new ended reads writes writes' same shows = shows
shows_still (Err Read) old new ended reads writes writes' same shows = shows
shows_still (Err Memory) old new ended reads writes writes' same shows = shows

-- less is said of what was read
reads_less : (failed : Bool) (old new : Option (List ℕ)) → ReadsSource failed old new → ReadsSource false old new
reads_less failed old new reads = record { front = reads.front; goes_on = λ is. absurd (let other : false ≡ true = is in cc) }

module _ (answer : Result (Unit {0}) KitFault) (old new : Option (List ℕ)) (ended : Bool) (reads : ℕ) (before after after' : Output)
    (shows : Shows answer old new ended reads after.faults) (delivered : ReadsSource (is_read answer) old new)
    (grows : Begins before.taken after.taken × Begins before.passed after.passed) (keeps : Keeps after.taken after'.taken) (passes : Begins after.passed after'.passed) where
  grown : Begins before.taken after'.taken
  grown = Begins-trans before.taken after.taken after'.taken grows.0 (Begins-Keeps after.taken after'.taken keeps)

  passed : Begins before.passed after'.passed
  passed = Begins-trans before.passed after.passed after'.passed grows.1 passes

  pub shown_all : (after.faults ≡ 1 → ⊥) → after'.passed ≡ after'.taken → after'.faults ≡ 0 → ShowsSource answer old new ended reads before after'
  shown_all never all none = record {
    shows = (by_answer answer shows).0;
    delivered = delivered;
    grows = grown;
    passes = passed;
    all = (by_answer answer shows).1;
  }
    where
      by_answer : (answer : Result (Unit {0}) KitFault) → Shows answer old new ended reads after.faults → Shows answer old new ended reads after'.faults × PassesAll answer after'
      by_answer (Ok done) here = (here, (all, none))
      by_answer (Err Write) here = absurd (never here)
      by_answer (Err (Source fault)) here = (here, (all, none))
      by_answer (Err (Ocode number fault)) here = absurd here.0
      by_answer (Err (Intcode number fault)) here = absurd here.0
      by_answer (Err TooSmall) here = absurd here.0
      by_answer (Err NoStart) here = absurd here.0
      by_answer (Err Read) here = (here, (all, none))
      by_answer (Err Memory) here = (here, (all, none))

  pub shown_no_more : after'.faults ≡ 1 → ShowsSource (Err Write) old new ended reads before after'
  shown_no_more one = record {
    shows = one;
    delivered = reads_less (is_read answer) old new delivered;
    grows = grown;
    passes = passed;
    all = one;
  }

-- Runs of the machine with segments that stand for the sections of a source, and what the source means.
use Rattle.bk_filters.proofs.Terms.{◌≡◌, ◌≢◌, ◌⊎◌, inl, inr, ℕ, zero, suc, ◌+◌, ◌*◌, ◌≤◌, ◌<◌, max, ◌==◌, Bool, true, false, List, [], ◌∷◌, ◌++◌, map, Option, Some, None, Err, if◌then◌else◌, refl, sym, ap, ◌∙◌, subst, arith, append_assoc, append-nil, option_map_or, STORE_MOST, FRAME_WORDS, End, StoreLimit, WriteFault, Begins, Registers, SEGMENTS, segment_size, any_starts, loaded_store, Standing, Over, output_of, Ran, Blames, Cell, largest_depth, Declarations, Part, segments, image, depth_of, own_of, parts_at, program_of, start_of, machine_after, IsPartly, going, stopped, HoldsFrames, BackEnd, BackEndHolds, PartsAreWellPlaced, PartsWithoutStart, TooSmall, NoStart, AnyBytes, Streams, devices_of, first_registers, stmts_of_tree, codes_of_trees, HasTrees, HasParts, frame_of, HasWords, HasFramesOf, HasNoStart, MeaningEnds, MeaningGoesOn, EnoughToEnd, EnoughToGo, Placing, StepsToEnd, StepsToGo, image_of, meanings_with, MeaningRuns, MeaningTooSmall, MeaningStartless, stmts_of_parts, Stmt, Begin, end_of, EndsWithin, ComesWithin, RunsOut, DoesEnd, Does, DoesFrom, StillGoes, RunsOutOnTheWay, StepsDoWhatSourcesMean, StepsGoOnWithTheirSource, StartsWithTheirSource, IsWithoutEnd, StartsSo, with_start, without_start}
use Rattle.bk_ocode.specs.Frames.{HasFrames, start, called, HasFramesAtMost}
use Rattle.bk_ocode.specs.OcodeState.{Routine, Placed, Control, Inside, Following, At, State}
use Rattle.bk_ocode.specs.OcodeRun.{Program, Rest, resumed_by, resumed, label_rest, resumed_in, find_rest, rests_of}
use Rattle.bk_ocode.specs.WellPlaced.{IsWellPlaced}
use Rattle.bk_meaning.specs.World as world
use Rattle.bk_meaning.specs.Program as program
use Rattle.bk_meaning.specs.Program.{meaning}
use Rattle.bk_simulation.specs.GoingOn.{settled_from}
use Rattle.bk_simulation.specs.Placement.{AreAccepted, Represent}
use Rattle.bk_gen.specs.BackEnd as back_end
use Rattle.bk_filters.specs.Headline.{Language, Runs, Keeps}
use Rattle.bk_filters.specs.SectionNumbers as numbers
use Rattle.bk_filters.specs.SourceMeaning as of_trees
use Rattle.bk_filters.proofs.CodeOfParts as of_parts
use Rattle.bk_filters.proofs.LanguageRuns.{BeginsOf, Meant, runs}
use Rattle.bk_filters.proofs.LanguageRuns as language_runs
use Rattle.bk_filters.proofs.OcodeEnds.{ends_of_itself}

-- ---- numbers of the parts, and of the trees

-- these parts have the sections of these trees
abbrev AreOf : List Part → List Declarations → Type 0
AreOf parts trees = stmts_of_parts parts ≡ codes_of_trees trees

-- the image is within its number
pub image_within : (parts : List Part) (trees : List Declarations) → AreOf parts trees → image parts ≤ image_of trees
image_within parts trees e = subst (λ c. image parts ≤ SEGMENTS + 8 * numbers.text_of c) e (of_parts.image_within SEGMENTS parts)

-- and the largest depth is its own, which has a floor
same_depth : (parts : List Part) (trees : List Declarations) → AreOf parts trees → depth_of parts ≡ of_trees.depth_of trees
same_depth parts trees e = of_parts.deepest parts ∙ ap numbers.depth_of e

depth_within : (codes : List (List Stmt)) → numbers.depth_of codes ≤ numbers.frame_of codes
depth_within [] = omega arith
depth_within (stmts ∷ codes) = larger (largest_depth stmts) (numbers.depth_of codes) (numbers.frame_of codes) (depth_within codes)
  where
    larger : (a m n : ℕ) → m ≤ n → max a m ≤ max a n
    larger a m n le = omega arith

stand_for : (base : ℕ) (parts : List Part) (trees : List Declarations) → AreOf parts trees → Represent trees (map own_of (parts_at base parts))
stand_for base [] [] e = tt
stand_for base [] (tree ∷ trees) e = absurd (let h : [] ≡ stmts_of_tree tree ∷ codes_of_trees trees = e in cc)
stand_for base (p ∷ parts) [] e = absurd (let h : p.stmts ∷ stmts_of_parts parts ≡ [] = e in cc)
stand_for base (p ∷ parts) (tree ∷ trees) e =
    let h : p.stmts ∷ stmts_of_parts parts ≡ stmts_of_tree tree ∷ codes_of_trees trees = e in
    let here : p.stmts ≡ stmts_of_tree tree = cc in
    let others : AreOf parts trees = cc in
    (here, stand_for (base + segment_size p.items) parts trees others)

-- products
more_frames : (d a b : ℕ) → a ≤ b → d * a ≤ d * b
more_frames zero a b le = omega arith
more_frames (suc d) a b le = let h = more_frames d a b le in omega arith

all_frames : (d f : ℕ) → d * f ≤ (d + 1) * (f + 16)
all_frames zero f = omega arith
all_frames (suc d) f = let h = all_frames d f in omega arith

-- frames that lie within so much lie within more
wider_frames : (p : Program) (first F G : ℕ) (cells : ℕ → Cell) (frame n : ℕ) → F ≤ G → HasFrames p first F cells frame n → HasFrames p first G cells frame n
wider_frames p first F G cells _ _ le (start e h) = start e h
wider_frames p first F G cells _ _ le (called caller frame back d e h none low high below) = called caller frame back d e h none low (omega (arith, high, le)) (wider_frames p first F G cells caller d le below)

pub fewer_frames : (p : Program) (first F G q : ℕ) (s : State) (d : ℕ) → F ≤ G → HasFramesAtMost p first G q s d → HasFramesAtMost p first F q s d
fewer_frames p first F G q s d le most k t n early comes frames = most k t n early comes (wider_frames p first F G t.cells t.frame n le frames)

-- ---- on the way

-- a state goes on with the frame that it has
resumed_frame : (own : Placed) (r : Rest) (s : State) (b : Bool) → (resumed_by b own r s).frame ≡ s.frame
resumed_frame own r s true = refl
resumed_frame own r s false = refl

resumed_option : (own : Placed) (s : State) (o : Option Rest) → (option_map_or (λ r. resumed own r s) o s).frame ≡ s.frame
resumed_option own s None = refl
resumed_option own s (Some r) = resumed_frame own r s r.takes

resumed_there : (owns : List Placed) (n : ℕ) (s : State) → (option_map_or (λ t. t) (resumed_in owns n s) s).frame ≡ s.frame
resumed_there [] n s = refl
resumed_there (own ∷ owns) n s = by_rest (find_rest (rests_of own) n) (resumed_there owns n s)
  where
    by_rest : (o : Option Rest) → (option_map_or (λ t. t) (resumed_in owns n s) s).frame ≡ s.frame → (option_map_or (λ t. t) (option_map_or (λ r. Some (resumed own r s)) o (resumed_in owns n s)) s).frame ≡ s.frame
    by_rest None others = others
    by_rest (Some r) others = resumed_frame own r s r.takes

settled_frame : (p : Program) (s : State) (c : Control) → (settled_from p s c).frame ≡ s.frame
settled_frame p s (Inside own k rest) = refl
settled_frame p s (Following own l) = resumed_option own s (label_rest own.places 0 own.stmts l)
settled_frame p s (At n) = by_home (n == p.home)
  where
    by_routine : (o : Option Routine) → (option_map_or (λ _. s) o (option_map_or (λ t. t) (resumed_in p.sections n s) s)).frame ≡ s.frame
    by_routine None = resumed_there p.sections n s
    by_routine (Some r) = refl

    by_home : (b : Bool) → (if b then s else option_map_or (λ _. s) (p.callables.routine n) (option_map_or (λ t. t) (resumed_in p.sections n s) s)).frame ≡ s.frame
    by_home true = refl
    by_home false = by_routine (p.callables.routine n)

-- what is partly that of a state begins what its bytes begin
partly_begins : (t : State) (m : Standing) (bytes : List ℕ) → Begin t.output bytes → IsPartly t m → BeginsOf bytes m
partly_begins t _ bytes is (going store r input output left begins) = language_runs.going store r input output (begins.0 ++ is.rest) (is.is ∙ ap (λ o. o ++ is.rest) begins.1 ∙ append_assoc output begins.0 is.rest)
partly_begins t _ bytes is (stopped input output left begins) = language_runs.stopped input output (begins.0 ++ is.rest) (is.is ∙ ap (λ o. o ++ is.rest) begins.1 ∙ append_assoc output begins.0 is.rest)

-- the laws on which a run rests
pub record RunLaws : Type 0 where
  pub back : BackEndHolds
  pub placed : PartsAreWellPlaced
  pub without : PartsWithoutStart
  pub does : StepsDoWhatSourcesMean
  pub goes_on : StepsGoOnWithTheirSource
  pub begins : StartsWithTheirSource
  -- a source has one list of trees, which are accepted
  pub one : (source : List ℕ) (trees others : List Declarations) → HasTrees source trees → HasTrees source others → trees ≡ others
  pub accepted : (source : List ℕ) (trees : List Declarations) → HasTrees source trees → AreAccepted trees

module _ (laws : RunLaws) (image_of : List Declarations → ℕ) (parts : List Part) (source : List ℕ) (taken : HasParts parts source) (fits : image parts ≤ image_of taken.0) (steps words : ℕ) where
  abbrev language : Language
  language = meanings_with image_of

  abbrev trees : List Declarations
  trees = taken.0

  -- as another list of trees is this
  same_trees : (others : List Declarations) → HasTrees source others → others ≡ trees
  same_trees others has = laws.one source others trees has taken.1

  -- words for so many calls hold so many frames
  holds_frames : (calls : ℕ) → HasWords (image_of trees) trees calls words → HoldsFrames parts words calls
  holds_frames calls has =
      let d = same_depth parts trees taken.2 in
      let e = depth_within (codes_of_trees trees) in
      let m = more_frames (calls + 1) (depth_of parts + 16) (frame_of trees + 16) (omega (arith, d, e)) in
      omega (arith, fits, m, has)

  holds_frames_of : (d : ℕ) → HasFramesOf (image_of trees) trees d words → HoldsFrames parts words d
  holds_frames_of d has =
      let low = same_depth parts trees taken.2 in
      let m = more_frames (d + 1) (depth_of parts + 16) (of_trees.depth_of trees + 16) (omega (arith, low)) in
      omega (arith, fits, m, has)

  -- and at least the image and 16 words
  not_small : (calls : ℕ) → HasWords (image_of trees) trees calls words → words < image parts + 16 → ⊥
  not_small calls has small =
      omega (arith, fits, more_frames (calls + 1) 16 (frame_of trees + 16) (omega arith), has, small)

  not_small_of : (d : ℕ) → HasFramesOf (image_of trees) trees d words → words < image parts + 16 → ⊥
  not_small_of d has small =
      omega (arith, fits, more_frames (d + 1) 16 (of_trees.depth_of trees + 16) (omega arith), has, small)

  small_to_end : (input : List ℕ) → words < image parts + 16 → EnoughToEnd trees input (image_of trees) steps words ⊎ StepsToEnd trees input (image_of trees) steps words → ⊥
  small_to_end input small (inl enough) = not_small enough.calls enough.has_words small
  small_to_end input small (inr enough) = not_small_of enough.d enough.has_words small

  small_to_go : (input : List ℕ) (turns : ℕ) → words < image parts + 16 → EnoughToGo trees input (image_of trees) turns steps words ⊎ StepsToGo trees input (image_of trees) turns steps words → ⊥
  small_to_go input turns small (inl enough) = not_small enough.calls enough.has_words small
  small_to_go input turns small (inr enough) = not_small_of enough.d enough.has_words small

  pub too_small : (streams : Streams) → words < image parts + 16 → Keeps language source (Err TooSmall) steps words streams streams
  too_small streams small = (
    (trees, taken.1),
    (λ holds. no_room (subst (λ l. image_of l + 16 ≤ words) (same_trees holds.0 holds.1) holds.2)),
    (λ input. (
      (λ enough. small_to_end input small (subst (λ l. EnoughToEnd l input (image_of l) steps words ⊎ StepsToEnd l input (image_of l) steps words) (same_trees enough.0 enough.1) enough.2)),
      (λ turns enough. small_to_go input turns small (subst (λ l. EnoughToGo l input (image_of l) turns steps words ⊎ StepsToGo l input (image_of l) turns steps words) (same_trees enough.0 enough.1) enough.2)),
    )),
    refl,
  )
    where
      no_room : image_of trees + 16 ≤ words → ⊥
      no_room has = omega (arith, fits, has, small)

  module _ (room : image parts + 16 ≤ words) (most : words ≤ STORE_MOST) where
    abbrev placed : Program
    placed = program_of parts

    well : IsWellPlaced placed (image parts) FRAME_WORDS
    well = laws.placed parts words room most

    accepted : AreAccepted trees
    accepted = laws.accepted source trees taken.1

    stands_for : Represent trees placed.sections
    stands_for = stand_for SEGMENTS parts trees taken.2

    starts_so : (input : List ℕ) → StartsSo placed (image parts) input trees
    starts_so input = laws.begins trees placed (image parts) input accepted stands_for well

    pub startless : (streams : Streams) → any_starts (segments parts) ≡ false → Keeps language source (Err NoStart) steps words streams streams
    startless streams none = ((trees, taken.1), (trees, taken.1, no_start (starts_so []) (laws.without parts words [] room most none)), refl)
      where
        no_start : StartsSo placed (image parts) [] trees → start_of parts [] ≡ None → HasNoStart trees
        no_start (with_start s f is can) e = absurd (let z : None ≡ Some s = sym e ∙ is in cc)
        no_start (without_start is cannot) e = cannot

    module _ (starts : any_starts (segments parts) ≡ true) where
      pub has_start : (others : List Declarations) → HasTrees source others → HasNoStart others → ⊥
      has_start others has none = differ (starts_so []) (laws.back parts words [] room most starts).1 (subst HasNoStart (same_trees others has) none)
        where
          differ : {s : State} → StartsSo placed (image parts) [] trees → start_of parts [] ≡ Some s → HasNoStart trees → ⊥
          differ (with_start s f is can) e cannot = let z : None ≡ Some f = sym cannot ∙ can in cc
          differ {s} (without_start is cannot) e none = let z : None ≡ Some s = sym is ∙ e in cc

      module _ (input : List ℕ) where
        -- where the machine stands at the end of its steps
        abbrev applies : Standing
        applies = machine_after parts words input steps

        abbrev of_back : (s : State) × (start_of parts input ≡ Some s) × BackEnd parts words input s × back_end.GoesOn parts words input s
        of_back = laws.back parts words input room most starts

        abbrev first : State
        first = of_back.0

        does : (n : ℕ) → Does placed (image parts) n first (meaning trees input n)
        does n = subst (λ o. DoesFrom placed (image parts) n o (meaning trees input n)) of_back.1 (laws.does trees placed (image parts) n input accepted stands_for well)

        ends_so : (n : ℕ) (bytes left : List ℕ) (calls : ℕ) (last : world.End) (end : End) → meaning trees input n ≡ program.Ends bytes left calls last → end_of last ≡ Some end
            → EndsWithin placed (image parts) first (16 * n + 16) calls bytes left end ⊎ RunsOut placed (image parts) first calls bytes
        ends_so n bytes left calls last end means is = subst (λ o. DoesEnd placed (image parts) n first bytes left calls o) is (subst (λ r. Does placed (image parts) n first r) means (does n))

        goes_so : (n : ℕ) (bytes left : List ℕ) (calls at : ℕ) → meaning trees input n ≡ program.Going bytes left calls at
            → ComesWithin placed (image parts) first (16 * n + 16) calls bytes left ⊎ RunsOut placed (image parts) first calls bytes
        goes_so n bytes left calls at means = subst (λ r. Does placed (image parts) n first r) means (does n)

        few : (q calls : ℕ) → HasFramesAtMost placed (image parts) FRAME_WORDS q first calls → HasFramesAtMost placed (image parts) (depth_of parts) q first calls
        few q calls frames = fewer_frames placed (image parts) (depth_of parts) FRAME_WORDS q first calls of_back.2.shallow frames

        -- where a frame would begin too high, the machine does not come
        high : (calls : ℕ) (bytes : List ℕ) (r : RunsOut placed (image parts) first calls bytes) → STORE_MOST + FRAME_WORDS < r.now.frame
        high calls bytes r =
            omega (arith, settled_frame placed r.now r.now.control, r.too_high.past, r.too_high.within)

        out_partly : (calls : ℕ) (bytes : List ℕ) (r : RunsOut placed (image parts) first calls bytes) → BeginsOf bytes applies
        out_partly calls bytes r = partly_begins r.now applies bytes r.wrote (of_back.2.falls r.steps steps r.now r.goes (high calls bytes r))

        -- nor do its words hold so many frames
        not_out : (calls : ℕ) (bytes : List ℕ) → HasWords (image_of trees) trees calls words → RunsOut placed (image parts) first calls bytes → ⊥
        not_out calls bytes has r =
            let all = all_frames calls (depth_of parts) in
            omega (arith, of_back.2.low r.steps calls r.now r.goes (few r.steps calls r.frames), holds_frames calls has, high calls bytes r, all, most)

        less_of : (n : ℕ) (took bytes : List ℕ) (end : End) (ends : MeaningEnds trees input n took bytes end) → (applies ≡ Over end ends.left bytes) ⊎ BeginsOf bytes applies
        less_of n took bytes end ends = by_case (ends_so n bytes ends.left ends.calls ends.last end ends.means ends.is)
          where
            by_case : EndsWithin placed (image parts) first (16 * n + 16) ends.calls bytes ends.left end ⊎ RunsOut placed (image parts) first ends.calls bytes → (applies ≡ Over end ends.left bytes) ⊎ BeginsOf bytes applies
            by_case (inl y) = by_machine (of_back.2.less y.steps steps end y.last y.ends)
              where
                by_machine : (applies ≡ Over end y.last.input y.last.output) ⊎ IsPartly y.last applies → (applies ≡ Over end ends.left bytes) ⊎ BeginsOf bytes applies
                by_machine (inl over) = inl (over ∙ ap (λ l. Over end l y.last.output) y.left_over ∙ ap (λ o. Over end ends.left o) y.wrote)
                by_machine (inr partly) = inr (partly_begins y.last applies bytes (record { rest = []; is = sym y.wrote ∙ sym (append-nil y.last.output) }) partly)
            by_case (inr r) = inr (out_partly ends.calls bytes r)

        -- the loader's placement
        abbrev placing : Placing trees input (image_of trees)
        placing = record { placed = placed; first = image parts; low = fits; applies = stands_for; well = well; state = first; begins = of_back.1 }

        enough_steps : StepsToEnd trees input (image_of trees) steps words → (end : End) × (left bytes : List ℕ) × (applies ≡ Over end left bytes) × (end ≢ StoreLimit)
        enough_steps enough =
            let h = enough.ends placing in
            let y = h.3 in
            let s = enough.has_steps in (
              h.2,
              y.last.input,
              y.last.output,
              of_back.2.enough y.steps enough.d steps h.2 y.last y.ends (few y.steps enough.d y.frames) (omega (arith, y.within, s)) (holds_frames_of enough.d enough.has_words),
              ends_of_itself placed y.steps first y.last h.2 y.ends,
            )

        written_steps : (n : ℕ) (bytes : List ℕ) → MeaningGoesOn trees input n bytes → StepsToGo trees input (image_of trees) n steps words → (more : List ℕ) × (output_of applies ≡ bytes ++ more)
        written_steps n bytes goes enough =
            let h = enough.comes placing in
            let y = h.2 in
            let more = of_back.2.written y.steps enough.d steps y.now y.goes (few y.steps enough.d y.frames) (omega (arith, y.within, enough.has_steps)) (holds_frames_of enough.d enough.has_words) in
            (h.0 ++ more.0, more.1 ∙ ap (λ o. o ++ more.0) (y.wrote ∙ ap (λ b. b ++ h.0) same) ∙ append_assoc bytes h.0 more.0)
          where
            same : enough.bytes ≡ bytes
            same = let z : program.Going enough.bytes enough.left enough.calls enough.at ≡ program.Going bytes goes.left goes.calls goes.at = sym enough.means ∙ goes.means in cc

        enough_of : EnoughToEnd trees input (image_of trees) steps words → (end : End) × (left bytes : List ℕ) × (applies ≡ Over end left bytes) × (end ≢ StoreLimit)
        enough_of enough = by_case (ends_so enough.turns enough.bytes enough.left enough.calls enough.last enough.end enough.means enough.is)
          where
            by_case : EndsWithin placed (image parts) first (16 * enough.turns + 16) enough.calls enough.bytes enough.left enough.end ⊎ RunsOut placed (image parts) first enough.calls enough.bytes
                → (end : End) × (left bytes : List ℕ) × (applies ≡ Over end left bytes) × (end ≢ StoreLimit)
            by_case (inl y) = let w = y.within in let h = enough.has_steps in (
              enough.end,
              y.last.input,
              y.last.output,
              of_back.2.enough y.steps enough.calls steps enough.end y.last y.ends (few y.steps enough.calls y.frames) (omega (arith, w, h)) (holds_frames enough.calls enough.has_words),
              ends_of_itself placed y.steps first y.last enough.end y.ends,
            )
            by_case (inr r) = absurd (not_out enough.calls enough.bytes enough.has_words r)

        written_of : (n : ℕ) (bytes : List ℕ) → MeaningGoesOn trees input n bytes → EnoughToGo trees input (image_of trees) n steps words → (more : List ℕ) × (output_of applies ≡ bytes ++ more)
        written_of n bytes goes enough = by_case (goes_so n enough.bytes enough.left enough.calls enough.at enough.means)
          where
            same : enough.bytes ≡ bytes
            same = let z : program.Going enough.bytes enough.left enough.calls enough.at ≡ program.Going bytes goes.left goes.calls goes.at = sym enough.means ∙ goes.means in cc

            by_case : ComesWithin placed (image parts) first (16 * n + 16) enough.calls enough.bytes enough.left ⊎ RunsOut placed (image parts) first enough.calls enough.bytes → (more : List ℕ) × (output_of applies ≡ bytes ++ more)
            by_case (inl y) =
                let more = of_back.2.written y.steps enough.calls steps y.now y.goes (few y.steps enough.calls y.frames) (omega (arith, y.within, enough.has_steps)) (holds_frames enough.calls enough.has_words) in
                (more.0, more.1 ∙ ap (λ o. o ++ more.0) (y.wrote ∙ same))
            by_case (inr r) = absurd (not_out enough.calls enough.bytes enough.has_words r)

        so_far_of : (n : ℕ) (bytes : List ℕ) → MeaningGoesOn trees input n bytes → BeginsOf bytes applies ⊎ ((more : List ℕ) × (output_of applies ≡ bytes ++ more))
        so_far_of n bytes goes = by_case (goes_so n bytes goes.left goes.calls goes.at goes.means)
          where
            by_case : ComesWithin placed (image parts) first (16 * n + 16) goes.calls bytes goes.left ⊎ RunsOut placed (image parts) first goes.calls bytes → BeginsOf bytes applies ⊎ ((more : List ℕ) × (output_of applies ≡ bytes ++ more))
            by_case (inl y) = by_machine (of_back.2.so_far y.steps steps y.now y.goes)
              where
                by_machine : IsPartly y.now applies ⊎ ((more : List ℕ) × (output_of applies ≡ y.now.output ++ more)) → BeginsOf bytes applies ⊎ ((more : List ℕ) × (output_of applies ≡ bytes ++ more))
                by_machine (inl partly) = inl (partly_begins y.now applies bytes (record { rest = []; is = sym y.wrote ∙ sym (append-nil y.now.output) }) partly)
                by_machine (inr more) = inr (more.0, more.1 ∙ ap (λ o. o ++ more.0) y.wrote)
            by_case (inr r) = inl (out_partly goes.calls bytes r)

        pub meant : Meant language source steps words (loaded_store words (segments parts)) (first_registers (segments parts)) input
        meant = record {
          less = λ took bytes end ends.
              let ends' : MeaningEnds trees input ends.2.0 took bytes end = subst (λ l. MeaningEnds l input ends.2.0 took bytes end) (same_trees ends.0 ends.1) ends.2.1 in
              (ends'.left, ends'.took, less_of ends.2.0 took bytes end ends');
          enough = λ enough. enough_either (subst (λ l. EnoughToEnd l input (image_of l) steps words ⊎ StepsToEnd l input (image_of l) steps words) (same_trees enough.0 enough.1) enough.2);
          written = λ n bytes goes enough.
              written_either n bytes (subst (λ l. MeaningGoesOn l input n bytes) (same_trees goes.0 goes.1) goes.2)
              (subst (λ l. EnoughToGo l input (image_of l) n steps words ⊎ StepsToGo l input (image_of l) n steps words) (same_trees enough.0 enough.1) enough.2);
          so_far = λ n bytes goes. so_far_of n bytes (subst (λ l. MeaningGoesOn l input n bytes) (same_trees goes.0 goes.1) goes.2);
          never = λ never. never_of (λ n. let goes = (never n).1 in let here : MeaningGoesOn trees input n (never n).0 = subst (λ l. MeaningGoesOn l input n (never n).0) (same_trees goes.0 goes.1) goes.2 in ((never n).0, here.left, here.calls, here.at, here.means));
        }
          where
            enough_either : EnoughToEnd trees input (image_of trees) steps words ⊎ StepsToEnd trees input (image_of trees) steps words
                → (end : End) × (left bytes : List ℕ) × (applies ≡ Over end left bytes) × (end ≢ StoreLimit)
            enough_either (inl enough) = enough_of enough
            enough_either (inr enough) = enough_steps enough

            written_either : (n : ℕ) (bytes : List ℕ) → MeaningGoesOn trees input n bytes → EnoughToGo trees input (image_of trees) n steps words ⊎ StepsToGo trees input (image_of trees) n steps words
                → (more : List ℕ) × (output_of applies ≡ bytes ++ more)
            written_either n bytes goes (inl enough) = written_of n bytes goes enough
            written_either n bytes goes (inr enough) = written_steps n bytes goes enough

            never_of : IsWithoutEnd trees input → (turns : ℕ) × (bytes : List ℕ) × language.GoesOn source input turns bytes × BeginsOf bytes applies
            never_of without = by_case (laws.goes_on trees placed (image parts) input first accepted stands_for well of_back.1 without (of_back.3 steps).0)
              where
                by_case : StillGoes placed (image parts) trees input first (of_back.3 steps).0 ⊎ RunsOutOnTheWay placed (image parts) trees input first
                    → (turns : ℕ) × (bytes : List ℕ) × language.GoesOn source input turns bytes × BeginsOf bytes applies
                by_case (inl y) = (y.turns, y.bytes, (trees, taken.1, record { left = y.left; calls = y.calls; at = y.at; means = y.means }), partly_begins y.now applies y.bytes y.wrote ((of_back.3 steps).1 y.now y.goes))
                by_case (inr y) = (y.turns, y.bytes, (trees, taken.1, record { left = y.left; calls = y.calls; at = y.at; means = y.means }), out_partly y.calls y.bytes y.runs_out)

      -- a run of the machine is one of the source
      pub source_run : (store : List ℕ) (registers : Registers) (before after : Streams) (end : End)
          → Ran AnyBytes end steps (loaded_store words (segments parts)) (first_registers (segments parts)) store registers (devices_of before) (devices_of after)
          → Begins before.passed after.passed → (end ≢ WriteFault → after.passed ≡ after.taken) → Blames end before.reads after.reads after.writes
          → Runs language source end steps words before after
      source_run store registers before after end ran passes passed blamed =
          runs language source steps words (loaded_store words (segments parts)) (first_registers (segments parts)) meant AnyBytes (trees, taken.1)
          (λ none. has_start none.0 none.1 none.2) store registers before after end ran passes passed blamed

-- The laws, from those below.
module _ (laws : RunLaws) where
  image_fits : (parts : List Part) (source : List ℕ) (has : HasParts parts source) → image parts ≤ image_of has.0
  image_fits parts source has = image_within parts has.0 has.2

  pub meanings_run : MeaningRuns
  meanings_run parts source end steps words store registers before after has room most starts ran passes passed blamed =
      source_run laws image_of parts source has (image_fits parts source has) steps words room most starts store registers before after end ran passes passed blamed

  pub meanings_too_small : MeaningTooSmall
  meanings_too_small parts source steps words streams has small = too_small laws image_of parts source has (image_fits parts source has) steps words streams small

  pub meanings_startless : MeaningStartless
  meanings_startless parts source steps words streams has room most none = startless laws image_of parts source has (image_fits parts source has) steps words room most streams none

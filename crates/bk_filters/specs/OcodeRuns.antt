-- Texts of OCODE, whatever wrote them: generating INTCODE from one and interpreting that does what the steps of OCODE do.
use Rattle.std.specs.Prelude.{◌≡◌, ◌≢◌, ◌⊎◌, ℕ, ◌+◌, ◌*◌, ◌<◌, ◌≤◌, Bool, IsTrue, ⊤, List, [], ◌∷◌, ◌++◌, Option, None, Some, Result, Ok, Err, OnOk, length}
use Rattle.std.specs.Io.KnownBytes.{Appends}
use Rattle.bk_base.specs.Devices.{Begins}
use Rattle.bk_base.specs.declared.limit.TheConstants.{FRAME_WORDS, INPUT_BYTES, STORE_MOST}
use Rattle.bk_base.specs.declared.run_end.End.{End}
use Rattle.bk_base.specs.declared.run_end.End.TheVariants.{Status, DivideByZero, StoreLimit, StepLimit, BadOperation, ReadFault, WriteFault}
use Rattle.bk_words.specs.Words.{words_of}
use Rattle.bk_machine.specs.Placement.{SEGMENTS}
use Rattle.bk_machine.specs.Runs.{Exchanged, Follows, Blames}
use Rattle.bk_ocode.specs.Frames.{HasFramesAtMost}
use Rattle.bk_ocode.specs.OcodeRun.{run}
use Rattle.bk_ocode.specs.OcodeState.{State, Goes, Ends}
use Rattle.bk_ocode.specs.WellPlaced.{IsWellPlaced}
use Rattle.bk_ocode.specs.declared.stmt.Stmt.{Stmt}
use Rattle.bk_gen.specs.BackEnd.{Part, image, program_of, start_of, depth_of, HoldsFrames, ◌begins◌}
use Rattle.bk_gen.specs.Represents.{EndsWithFrame, frame_words}
use Rattle.bk_filters.specs.declared.kit_fault.KitFault.{KitFault}
use Rattle.bk_filters.specs.declared.kit_fault.KitFault.TheVariants.{Source, Ocode, Intcode, TooSmall, NoStart, Read, Write, Memory}
use Rattle.bk_filters.specs.SectionNumbers.{text_of, frame_of, stmts_of_parts}
use Rattle.bk_filters.specs.SectionNumbers as numbers
use Rattle.bk_filters.specs.Telling.{Output}
use Rattle.bk_filters.specs.Texts as texts
use Rattle.bk_filters.specs.Texts.{Says}
use Rattle.bk_filters.specs.Generating.{ocode, Generates}
use Rattle.bk_filters.specs.Interpreting.{AnyBytes, Streams, devices_of, Interpreted}
use Rattle.bk_filters.specs.Sizes.{sizes_line, Reports}

-- Each segment states the largest depth of its section.
abbrev pub ReportsFrames : List Part → Type 0
ReportsFrames [] = ⊤
ReportsFrames (p ∷ rest) = EndsWithFrame p.items (frame_words p.stmts) × ReportsFrames rest

-- ---- answers that refuse nothing

-- nothing is refused: the answer is Ok, or reports a device or of memory
abbrev pub IsNotRefused : {T : Type 0} → Result T KitFault → Type 0
IsNotRefused (Ok done) = ⊤
IsNotRefused (Err Read) = ⊤
IsNotRefused (Err Write) = ⊤
IsNotRefused (Err Memory) = ⊤
IsNotRefused (Err fault) = ⊥

-- no segment is refused: the answer may be that none sets START, or that the store is too small
abbrev pub FindsNoFault : {T : Type 0} → Result T KitFault → Type 0
FindsNoFault (Err TooSmall) = ⊤
FindsNoFault (Err NoStart) = ⊤
FindsNoFault answer = IsNotRefused answer

-- ---- the end of a run, by the steps of OCODE

-- Sections as the loader places their segments, all the input that the run could read, and the state before the first step. Where a
-- step is wild, no more steps are done, and what is said of those after it says nothing.
module _ (parts : List Part) (input : List ℕ) (first : State) where
  -- after q steps the run is here
  abbrev pub GoesTo : ℕ → State → Type 0
  GoesTo q t = run (program_of parts) q first ≡ Goes t

  -- within q steps it ended so
  abbrev pub EndsAt : ℕ → End → State → Type 0
  EndsAt q end t = run (program_of parts) q first ≡ Ends end t

  -- q steps with d frames at once at most, and how many steps of the machine and words of the store are enough for them
  pub record Enough (q d steps words : ℕ) : Type 0 where
    pub frames : HasFramesAtMost (program_of parts) (image parts) (depth_of parts) q first d
    pub has_steps : 16 * q + 16 ≤ steps
    pub has_words : HoldsFrames parts words d

  -- The machine ended of itself: OCODE has no other end, reads and writes just these bytes, does not go on for ever, and has no frame
  -- that begins above each store.
  pub record IsEnd (end : End) (read written : List ℕ) : Type 0 where
    pub whole : (q : ℕ) (e : End) (t : State) → EndsAt q e t → (e ≡ end) × (input ≡ read ++ t.input) × (t.output ≡ written)
    pub covers : (q : ℕ) (t : State) → GoesTo q t → ◌begins◌ t.output written
    pub stops : (q : ℕ) × ((t : State) → GoesTo q t → ⊥)
    pub low : (q : ℕ) (t : State) → GoesTo q t → STORE_MOST + FRAME_WORDS < t.frame → ⊥

  -- This holds of the state at which OCODE ends, of each with a frame that begins above each store, and of that after some number of
  -- steps, if OCODE does so many.
  pub record IsAhead (Holds : State → Type 0) : Type 0 where
    pub of_end : (q : ℕ) (e : End) (t : State) → EndsAt q e t → Holds t
    pub of_high : (q : ℕ) (t : State) → GoesTo q t → STORE_MOST + FRAME_WORDS < t.frame → Holds t
    pub of_some : (q : ℕ) × ((t : State) → GoesTo q t → Holds t)

  -- The machine came to no end of itself: what it wrote begins what OCODE writes up to such states; and of this and what OCODE writes in
  -- any number of steps one begins the other.
  pub record IsPart (written : List ℕ) : Type 0 where
    pub writes : IsAhead (λ t. ◌begins◌ written t.output)
    pub of_any : (q : ℕ) (t : State) → GoesTo q t → (◌begins◌ t.output written) ⊎ (◌begins◌ written t.output)

  -- One of the limits stopped it: what it read begins what OCODE reads; it wrote all that OCODE writes in the steps for which there was
  -- enough, and there was not enough for the end of OCODE.
  pub record IsStopped (steps words : ℕ) (read written : List ℕ) : Type 0 where
    pub part : IsPart written
    pub reads : IsAhead (λ t. (more : List ℕ) × (input ≡ read ++ (more ++ t.input)))
    pub reaches : (q d : ℕ) (t : State) → GoesTo q t → Enough q d steps words → ◌begins◌ t.output written
    pub too_few : (q d : ℕ) (e : End) (t : State) → EndsAt q e t → Enough q d steps words → ⊥

  -- so many steps and words were given, and the run ended so
  abbrev pub Agrees : (steps words : ℕ) → End → (read written : List ℕ) → Type 0
  Agrees steps words (Status v) read written = IsEnd (Status v) read written
  Agrees steps words DivideByZero read written = IsEnd DivideByZero read written
  Agrees steps words BadOperation read written = IsEnd BadOperation read written
  Agrees steps words StepLimit read written = IsStopped steps words read written
  Agrees steps words StoreLimit read written = IsStopped steps words read written
  Agrees steps words ReadFault read written = IsPart written
  Agrees steps words WriteFault read written = IsPart written

-- ---- interpreting the code

-- The segments were loaded and run: the bytes that input delivered and output took are those of the run, whatever input follows.
pub record RunsSteps (parts : List Part) (end : End) (steps words : ℕ) (before after : Streams) : Type 0 where
  pub room : image parts + 16 ≤ words
  pub read : List ℕ
  pub written : List ℕ
  pub exchanged : Exchanged (devices_of before) (devices_of after) read written
  pub agrees : (rest : List ℕ) → Follows (devices_of after) rest
      → (first : State) × (start_of parts (read ++ rest) ≡ Some first) × Agrees parts (read ++ rest) first steps words end read written
  pub passes : Begins before.passed after.passed
  pub passed : end ≢ WriteFault → after.passed ≡ after.taken
  pub blamed : Blames end before.reads after.reads after.writes

-- What `interpret` answers: the end of the run; that the store does not hold the segments and 16 words; or else, that no section sets
-- global 1, so that OCODE has no first state; or that the code could not be read, or memory was refused. It refuses no segment.
abbrev pub DoesSteps : List Part → Result End KitFault → (steps words : ℕ) → Streams → Streams → Type 0
DoesSteps parts (Ok end) steps words before after = RunsSteps parts end steps words before after
DoesSteps parts (Err TooSmall) steps words before after = (words < image parts + 16) × (after ≡ before)
DoesSteps parts (Err NoStart) steps words before after =
    (image parts + 16 ≤ words) × ((input : List ℕ) → start_of parts input ≡ None) × (after ≡ before)
DoesSteps parts (Err Read) steps words before after = after ≡ before
DoesSteps parts (Err Memory) steps words before after = after ≡ before
DoesSteps parts (Err Write) steps words before after = ⊥
DoesSteps parts (Err (Source fault)) steps words before after = ⊥
DoesSteps parts (Err (Ocode section fault)) steps words before after = ⊥
DoesSteps parts (Err (Intcode segment fault)) steps words before after = ⊥

-- The code of these sections, in segments that the loader places so: the words before the stack are at most 8 for each word of the
-- texts, after those that each program has. Each call finds a device that holds just the code. `interprets` speaks of a reader of the
-- input that can hold any bytes, as each is (`AnyReader`). `sizes` writes the number of the words before the stack, and the largest frame
-- of the sections.
pub record RunsAsSteps (sections : List (List Stmt)) (code : List ℕ) : Type 0 where
  pub parts : List Part
  pub are : stmts_of_parts parts ≡ sections
  pub within : image parts ≤ SEGMENTS + 8 * text_of sections
  pub deepest : depth_of parts ≡ numbers.depth_of sections
  pub well_placed : image parts + 16 ≤ STORE_MOST → IsWellPlaced (program_of parts) (image parts) FRAME_WORDS
  pub interprets : (answer : Result End KitFault) (steps words : ℕ) (new : Option (List ℕ)) (ended : Bool) (before after : Streams)
      → length code < INPUT_BYTES → words ≤ STORE_MOST → (IsTrue ended → new ≡ Some [])
      → Interpreted AnyBytes answer steps words (Some code) new ended before after
      → DoesSteps parts answer steps words before after
  pub sizes : (answer : Result (Unit {0}) KitFault) (words : ℕ) (new : Option (List ℕ)) (ended : Bool) (before after : Output)
      → length code < INPUT_BYTES → (IsTrue ended → new ≡ Some [])
      → Reports answer words (Some code) new ended before after
      → FindsNoFault answer × OnOk answer (Appends before.taken after.taken (sizes_line (record { image = image parts; frame = frame_of sections })))

-- THE LAW, for any text of accepted sections, on a device that holds just the text: `generate_all` does not refuse it, and what it writes
-- runs as the steps of the sections do.
abbrev pub OcodeRuns : Type 0
OcodeRuns = (sections : List (List Stmt)) (text : List ℕ) → Says ocode (texts.parts sections) (words_of text)
    → (answer : Result (Unit {0}) KitFault) (new : Option (List ℕ)) (ended : Bool) (reads : ℕ) (before after : Output)
    → length text < INPUT_BYTES → (IsTrue ended → new ≡ Some [])
    → Generates answer (Some text) new ended reads before after
    → IsNotRefused answer × OnOk answer ((code : List ℕ) × Appends before.taken after.taken code × RunsAsSteps sections code)

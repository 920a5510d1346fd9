-- What the states of a run keep: links are not overwritten, frames are in their callers', and below the first frame only
-- globals, strings and data are in use and written.
use Rattle.std.specs.Prelude.{◌≡◌, ◌≢◌, ◌⊎◌, ℕ, ◌+◌, ◌<◌, ◌≤◌, Bool, true, ◌||◌, List, [], ◌∷◌, ◌++◌, length, slice_get, Some, None, ⊤}
use Rattle.bk_base.specs.declared.limit.TheConstants.{FRAME_WORDS, GLOBAL_NUMBER}
use Rattle.bk_base.specs.declared.run_end.End.{End}
use Rattle.bk_ocode.specs.Depth.{depth_after, largest_depth}
use Rattle.bk_ocode.specs.Section.{AreFaultless}
use Rattle.bk_ocode.specs.Cells.{Cell, Free, Held}
use Rattle.bk_ocode.specs.OcodeState.{Placed, Callables, Routine, Control, Inside, Following, At, State, Goes, Ends, rest_place, global_place}
use Rattle.bk_ocode.specs.OcodeStep.{step}
use Rattle.bk_ocode.specs.OcodeRun.{Rest, rests_of, resumed, IsAtRest, Program}
use Rattle.bk_ocode.specs.SectionData.{is_datum}
use Rattle.bk_ocode.specs.ProgramStart.{all_data, is_global, first_state}
use Rattle.bk_ocode.specs.Frames.{HasFrames}
use Rattle.bk_ocode.specs.declared.stmt.Stmt.{Stmt}
use Rattle.bk_ocode.specs.declared.stmt.Stmt.TheVariants.{Label, Entry}

-- the word is in use
abbrev pub IsHeld : Cell → Type 0
IsHeld Free = ⊥
IsHeld (Held kind content) = ⊤

-- below the first frame: the globals, and the words of strings and data
abbrev pub is_usable : Program → ℕ → Bool
is_usable program place = is_global place || is_datum place (all_data program.sections)

-- A program of accepted sections whose largest depths are at most F, with its first frame above all globals, and with numbers
-- of rests that are no routine's and are not home's.
pub record IsProgram (program : Program) (first F : ℕ) : Type 0 where
  pub accepted : (i : ℕ) (own : Placed) → slice_get program.sections i ≡ Some own → AreFaultless own.stmts
  pub depths : (i : ℕ) (own : Placed) → slice_get program.sections i ≡ Some own → largest_depth own.stmts ≤ F
  pub rests_apart : (i j : ℕ) (own : Placed) (r : Rest) → slice_get program.sections i ≡ Some own → slice_get (rests_of own) j ≡ Some r
      → (program.callables.routine r.place ≡ None) × (r.place ≢ program.home)
  pub home_apart : program.callables.routine program.home ≡ None
  pub above_globals : global_place GLOBAL_NUMBER < first

-- statements that may be come to with another depth than that of the text
abbrev pub IsOpening : List Stmt → Type 0
IsOpening [] = ⊥
IsOpening (Label label ∷ rest) = ⊤
IsOpening (Entry label name ∷ rest) = ⊤
IsOpening (s ∷ rest) = ⊥

-- The statements left are those of the text from some place on, and the depth is the text's there.
pub record Applies (stmts : List Stmt) (depth : ℕ) (rest : List Stmt) : Type 0 where
  pub before : List Stmt
  pub whole : stmts ≡ before ++ rest
  pub same_depth : (depth ≡ depth_after 0 before) ⊎ IsOpening rest

abbrev pub IsOwn : Program → Placed → Type 0
IsOwn program own = (i : ℕ) × (slice_get program.sections i ≡ Some own)

-- Control is in a section of the program, above the links, or at some number.
abbrev pub IsControl : Program → Control → Type 0
IsControl program (Inside own depth rest) = IsOwn program own × (2 ≤ depth) × Applies own.stmts depth rest
IsControl program (Following own label) = IsOwn program own
IsControl program (At place) = ⊤

-- What each state keeps. START's return frees its frame.
pub record Sound (program : Program) (first F : ℕ) (s : State) : Type 0 where
  pub from_first : first ≤ s.frame
  pub control : IsControl program s.control
  pub active : ((d : ℕ) × HasFrames program first F s.cells s.frame d) ⊎ ((s.control ≡ At program.home) × (s.frame ≡ first))
  pub held : (place : ℕ) → place < first → IsHeld (s.cells place) → is_usable program place ≡ true
  pub written : (i place : ℕ) → slice_get s.written i ≡ Some place → place < first → is_usable program place ≡ true

-- The first state keeps it,
abbrev pub FirstStateIsSound : Type 0
FirstStateIsSound = (program : Program) (first F : ℕ) (input : List ℕ) (s : State) → IsProgram program first F
    → first_state program first input ≡ Some s → Sound program first F s

-- and so does each step. A frame begins at most FRAME_WORDS above its caller's, and in a procedure it stays; a routine of the
-- library returns to a rest.
pub record SoundStep (program : Program) (first F : ℕ) (s t : State) : Type 0 where
  pub sound : Sound program first F t
  pub near : t.frame ≤ s.frame + FRAME_WORDS
  pub same_frame : (own : Placed) (depth : ℕ) (rest : List Stmt) → t.control ≡ Inside own depth rest → t.frame ≡ s.frame
  pub returns : (place : ℕ) (routine : Routine) → s.control ≡ At place → program.callables.routine place ≡ Some routine
      → IsAtRest program.callables t.control

abbrev pub StepsAreSound : Type 0
StepsAreSound = (program : Program) (first F : ℕ) (s t : State) → IsProgram program first F
    → Sound program first F s → step program.callables s ≡ Goes t → SoundStep program first F s t

-- Going on from a rest keeps it too.
abbrev pub ResumingIsSound : Type 0
ResumingIsSound = (program : Program) (first F : ℕ) (s : State) (own : Placed) (i j : ℕ) (r : Rest) → IsProgram program first F
    → Sound program first F s → slice_get program.sections i ≡ Some own → slice_get (rests_of own) j ≡ Some r
    → rest_place s.control ≡ Some r.place → Sound program first F (resumed own r s)

-- What a step writes goes after what was written, and what it reads comes from the front of the input.
pub record Grown (s t : State) : Type 0 where
  pub more : List ℕ
  pub writes : t.output ≡ s.output ++ more
  pub read : List ℕ
  pub reads : s.input ≡ read ++ t.input

abbrev pub StepsGrow : Type 0
StepsGrow = (callables : Callables) (s t : State) → step callables s ≡ Goes t → Grown s t

-- An end reads and writes nothing.
abbrev pub EndsKeepBytes : Type 0
EndsKeepBytes = (callables : Callables) (s t : State) (e : End) → step callables s ≡ Ends e t → (t.output ≡ s.output) × (t.input ≡ s.input)

-- How many steps there are at most to the next rest: a LAB is one, and so is a routine of the library; each other statement is
-- a step, or jumps to a LAB, or calls.
abbrev pub statements_left : List Stmt → ℕ
statements_left (Label label ∷ rest) = 1
statements_left rest = length rest + 2

abbrev pub steps_left : Control → ℕ
steps_left (Inside own depth rest) = statements_left rest
steps_left (Following own label) = 0
steps_left (At place) = 1

-- A stretch comes to its end: each step comes to a rest, or nearer to one.
abbrev pub StepsComeNearer : Type 0
StepsComeNearer = (program : Program) (first F : ℕ) (s t : State) → IsProgram program first F → Sound program first F s → step program.callables s ≡ Goes t
    → IsAtRest program.callables t.control ⊎ (steps_left t.control < steps_left s.control)

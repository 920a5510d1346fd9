-- THE STEPS DO WHAT THE SOURCE MEANS. The steps of OCODE on the statements of the scheme, from the first state on, end where and as the
-- meaning ends, with the same bytes and the same input taken, unless a frame would begin past word 2^31 - 65,536. n turns are at most
-- 16 * n + 16 steps, with no more frames than there are calls active.
use Rattle.std.specs.Prelude.{◌≡◌, ◌⊎◌, ℕ, ◌+◌, ◌*◌, ◌-◌, ◌<◌, ◌≤◌, ◌^◌, List, ◌∷◌, ◌++◌, Option, Some, None}
use Rattle.bk_base.specs.declared.limit.TheConstants.{FRAME_WORDS}
use Rattle.bk_base.specs.declared.run_end.End.{End}
use Rattle.bk_base.specs.declared.run_end.End.TheVariants.{Status, DivideByZero}
use Rattle.bk_base.specs.Word.{signed}
use Rattle.bk_tree.specs.Tree.{Declarations}
use Rattle.bk_ocode.specs.OcodeState.{Placed, Inside, State, Goes, Ends}
use Rattle.bk_ocode.specs.OcodeRun.{Program, run}
use Rattle.bk_ocode.specs.ProgramStart.{first_state}
use Rattle.bk_ocode.specs.Frames.{HasFramesAtMost}
use Rattle.bk_ocode.specs.declared.stmt.Stmt.{Stmt}
use Rattle.bk_ocode.specs.declared.stmt.Stmt.TheVariants.{CallFunction, CallRoutine}
use Rattle.bk_meaning.specs.Values.{Value, address}
use Rattle.bk_meaning.specs.Memory.{read}
use Rattle.bk_meaning.specs.Environment.{globals_object}
use Rattle.bk_meaning.specs.Lasting.{program_of, first_memory}
use Rattle.bk_meaning.specs.World as m
use Rattle.bk_meaning.specs.Program.{Run, Ends as Finishes, Going, Undefined, meaning}
use Rattle.bk_simulation.specs.GoingOn.{settled}
use Rattle.bk_ocode.specs.WellPlaced.{IsWellPlaced}
use Rattle.bk_simulation.specs.Placement.{AreAccepted, Represent}

-- bytes that begin others
pub record Begin (bytes all : List ℕ) : Type 0 where
  pub rest : List ℕ
  pub is : all ≡ bytes ++ rest

-- the end that the meaning has, as a run of OCODE reports it
abbrev pub end_of : m.End → Option End
end_of (m.status w) = Some (Status (signed w))
end_of (m.divide_by_zero at) = Some DivideByZero
end_of m.no_start = None

-- at a call whose frame would begin past word 2^31 - 65,536
abbrev pub IsCallAt : ℕ → List Stmt → Type 0
IsCallAt n (CallFunction m ∷ rest) = m ≡ n
IsCallAt n (CallRoutine m ∷ rest) = m ≡ n
IsCallAt n _ = ⊥

pub record IsTooHigh (s : State) : Type 0 where
  pub own : Placed
  pub depth : ℕ
  pub left : List Stmt
  pub control : s.control ≡ Inside own depth left
  pub slot : ℕ
  pub is_call : IsCallAt slot left
  pub within : slot ≤ FRAME_WORDS
  pub past : 2 ^ 31 - 65536 < s.frame + slot

module _ (program : Program) (first : ℕ) where
  -- the run ends within so many steps, having written these bytes and left this input, with so many frames at most
  pub record EndsWithin (s : State) (most calls : ℕ) (bytes left : List ℕ) (e : End) : Type 0 where
    pub steps : ℕ
    pub within : steps ≤ most
    pub last : State
    pub ends : run program steps s ≡ Ends e last
    pub wrote : last.output ≡ bytes
    pub left_over : last.input ≡ left
    pub frames : HasFramesAtMost program first FRAME_WORDS steps s calls

  -- the run comes within so many steps to where these bytes are written and this input is left
  pub record ComesWithin (s : State) (most calls : ℕ) (bytes left : List ℕ) : Type 0 where
    pub steps : ℕ
    pub within : steps ≤ most
    pub now : State
    pub goes : run program steps s ≡ Goes now
    pub wrote : now.output ≡ bytes
    pub left_over : now.input ≡ left
    pub frames : HasFramesAtMost program first FRAME_WORDS steps s calls

  -- the run comes to where it goes on with a call whose frame would begin too high; what it wrote begins the bytes
  pub record RunsOut (s : State) (calls : ℕ) (bytes : List ℕ) : Type 0 where
    pub steps : ℕ
    pub now : State
    pub goes : run program steps s ≡ Goes now
    pub too_high : IsTooHigh (settled program now)
    pub wrote : Begin now.output bytes
    pub frames : HasFramesAtMost program first FRAME_WORDS steps s calls

  -- what the steps from a state do where the source means this with n turns
  abbrev pub DoesEnd : ℕ → State → List ℕ → List ℕ → ℕ → Option End → Type 0
  DoesEnd n s bytes left calls None = RunsOut s calls bytes
  DoesEnd n s bytes left calls (Some e) = EndsWithin s (16 * n + 16) calls bytes left e ⊎ RunsOut s calls bytes

  abbrev pub Does : ℕ → State → Run → Type 0
  Does n s (Finishes bytes left calls e) = DoesEnd n s bytes left calls (end_of e)
  Does n s (Going bytes left calls at) = ComesWithin s (16 * n + 16) calls bytes left ⊎ RunsOut s calls bytes
  Does n s (Undefined bytes left calls at why) = Unit {0}

  -- without a first state the source has no START
  abbrev pub DoesFrom : ℕ → Option State → Run → Type 0
  DoesFrom n (Some s) r = Does n s r
  DoesFrom n None r = (bytes left : List ℕ) × (calls : ℕ) × (r ≡ Finishes bytes left calls m.no_start)

  -- where the source means a run without an end, so do the steps, or one comes to a call that would begin too high; what they write
  -- begins what the source means to write
  pub record StillGoes (sections : List Declarations) (input : List ℕ) (s : State) (j : ℕ) : Type 0 where
    pub now : State
    pub goes : run program j s ≡ Goes now
    pub turns : ℕ
    pub bytes : List ℕ
    pub left : List ℕ
    pub calls : ℕ
    pub at : ℕ
    pub means : meaning sections input turns ≡ Going bytes left calls at
    pub wrote : Begin now.output bytes

  -- the run comes to a call whose frame would begin too high; what it wrote begins what the source means to write
  pub record RunsOutOnTheWay (sections : List Declarations) (input : List ℕ) (s : State) : Type 0 where
    pub turns : ℕ
    pub bytes : List ℕ
    pub left : List ℕ
    pub calls : ℕ
    pub at : ℕ
    pub means : meaning sections input turns ≡ Going bytes left calls at
    pub runs_out : RunsOut s calls bytes

-- The law of programs.
abbrev pub StepsDoWhatSourcesMean : Type 0
StepsDoWhatSourcesMean = (sections : List Declarations) (program : Program) (first n : ℕ) (input : List ℕ) → AreAccepted sections
    → Represent sections program.sections → IsWellPlaced program first FRAME_WORDS → DoesFrom program first n (first_state program first input) (meaning sections input n)

-- Runs without an end.
abbrev pub IsWithoutEnd : List Declarations → List ℕ → Type 0
IsWithoutEnd sections input = (n : ℕ) → (bytes left : List ℕ) × (calls at : ℕ) × (meaning sections input n ≡ Going bytes left calls at)

abbrev pub StepsGoOnWithTheirSource : Type 0
StepsGoOnWithTheirSource = (sections : List Declarations) (program : Program) (first : ℕ) (input : List ℕ) (s : State) → AreAccepted sections
    → Represent sections program.sections → IsWellPlaced program first FRAME_WORDS → first_state program first input ≡ Some s → IsWithoutEnd sections input
    → (j : ℕ) → StillGoes program first sections input s j ⊎ RunsOutOnTheWay program first sections input s

-- What a program has of START: a first state, where global 1 can be read when the run begins; and none, where it cannot.
pub data StartsSo (program : Program) (first : ℕ) (input : List ℕ) (sections : List Declarations) : Type 0 where
  with_start : (s : State) (f : Value) → first_state program first input ≡ Some s → read (first_memory (program_of sections)) (address globals_object 1) ≡ Some f → StartsSo program first input sections
  without_start : first_state program first input ≡ None → read (first_memory (program_of sections)) (address globals_object 1) ≡ None → StartsSo program first input sections

abbrev pub StartsWithTheirSource : Type 0
StartsWithTheirSource = (sections : List Declarations) (program : Program) (first : ℕ) (input : List ℕ) → AreAccepted sections
    → Represent sections program.sections → IsWellPlaced program first FRAME_WORDS → StartsSo program first input sections

-- Laws of the step of OCODE, for the layers above.
use Rattle.std.specs.Prelude.{◌≡◌, ℕ, ◌<◌, List, [], ◌∷◌, ◌++◌, ⊤}
use Rattle.bk_ocode.specs.OcodeState.{Placed, Callables, State, Next, Goes, Ends, Wild}
use Rattle.bk_ocode.specs.OcodeStep.{step_in}
use Rattle.bk_ocode.specs.declared.stmt.Stmt.{Stmt}

-- the place is none of these
abbrev pub IsNotAmong : ℕ → List ℕ → Type 0
IsNotAmong place [] = ⊤
IsNotAmong place (p ∷ rest) = (place ≡ p → ⊥) × IsNotAmong place rest

-- A step writes these places, and keeps what is below the frame elsewhere. Input and output are those of before.
pub record Keeps (s t : State) : Type 0 where
  pub places : List ℕ
  pub written : t.written ≡ places ++ s.written
  pub below : (place : ℕ) → place < s.frame → IsNotAmong place places → t.cells place ≡ s.cells place
  pub output : t.output ≡ s.output
  pub input : t.input ≡ s.input

abbrev pub KeepsNext : State → Next → Type 0
KeepsNext s (Goes t) = Keeps s t
KeepsNext s (Ends e t) = t ≡ s
KeepsNext s Wild = ⊤

-- A step of a procedure keeps what is below its frame, save the words that it writes by their addresses.
abbrev pub StepKeepsBelow : Type 0
StepKeepsBelow = (callables : Callables) (s : State) (own : Placed) (depth : ℕ) (rest : List Stmt) → KeepsNext s (step_in callables s own depth rest)

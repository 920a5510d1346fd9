-- The frames that are active in a run, and how many.
use Rattle.std.specs.Prelude.{◌≡◌, ℕ, suc, ◌+◌, ◌≤◌, None}
use Rattle.bk_ocode.specs.Cells.{Word, Link, Cell, Held}
use Rattle.bk_ocode.specs.OcodeState.{State, Goes}
use Rattle.bk_ocode.specs.OcodeRun.{Program, run}

-- Each frame has the links of its caller: where the caller's frame begins, and the place after the call, which is no
-- routine's. The lowest is START's, whose links lead home. A frame begins in its caller's, at slot 2 at least and at F at most.
pub data HasFrames (program : Program) (first F : ℕ) (cells : ℕ → Cell) : ℕ → ℕ → Type 0 where
  start : cells first ≡ Held Link (Word first) → cells (suc first) ≡ Held Link (Word program.home) → HasFrames program first F cells first 1
  called : (caller frame back d : ℕ) → cells frame ≡ Held Link (Word caller) → cells (suc frame) ≡ Held Link (Word back)
      → program.callables.routine back ≡ None → caller + 2 ≤ frame → frame ≤ caller + F
      → HasFrames program first F cells caller d → HasFrames program first F cells frame (suc d)

-- Until q steps are done, no more than d frames are active at once.
abbrev pub HasFramesAtMost : Program → ℕ → ℕ → ℕ → State → ℕ → Type 0
HasFramesAtMost program first F q s d =
    (k : ℕ) (t : State) (n : ℕ) → k ≤ q → run program k s ≡ Goes t → HasFrames program first F t.cells t.frame n → n ≤ d

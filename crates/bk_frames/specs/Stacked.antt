-- A list of frames, as a stack.
use Rattle.std.specs.Prelude.{ℕ, zero, suc, ◌+◌, ◌≡◌, ◌<◌, true, Some, List, [], ◌∷◌, length, slice_get, take}
use Rattle.bk_frames.specs.declared.frame.Frame.{Frame}
use Rattle.bk_frames.specs.declared.frame.Size.{Size}
use Rattle.bk_tree.specs.declared.tree.Decl.{Decl}
use Rattle.bk_tree.specs.Tree.{declarations_in}
use Rattle.bk_grammar.specs.Machine.{Stack, in_section}
use Rattle.bk_frames.specs.Unfinished.{unfinished_on}
use Rattle.bk_frames.specs.declared.budget.FrameBudgets.{FrameBudgets}
use Rattle.bk_frames.specs.Budgets.{AreBudgets}
use Rattle.bk_frames.specs.Spares.{Leaves}

-- the last one is on top
abbrev pub above : Stack → List Frame → Stack
above st [] = st
above st (x ∷ xs) = above (unfinished_on x.unfinished st) xs

unfoldable pub stack : List Decl → List Frame → Stack
stack ds xs = above (in_section (declarations_in ds)) xs

-- what is spare above all of them, where this is spare below
unfoldable pub spare_under : Size → List Frame → Size
spare_under s [] = s
spare_under s (x ∷ xs) = spare_under x.spare xs

-- and below the one at this place
unfoldable pub spare_below : Size → List Frame → ℕ → Size
spare_below s xs zero = s
spare_below s [] (suc i) = s
spare_below s (x ∷ xs) (suc i) = spare_below x.spare xs i

-- so it is for each of them
abbrev pub Spared : Size → List Frame → Type 0
Spared s xs = (i : ℕ) (x : Frame) → slice_get xs i ≡ Some x → Leaves (spare_below s xs i) x.unfinished x.spare

-- the budgets that are kept are those of the lowest of them; any further ones do not count
abbrev pub Ample : List Decl → List Frame → List FrameBudgets → Type 0
Ample ds xs rs = (i : ℕ) (r : FrameBudgets) → slice_get rs i ≡ Some r → i < length xs → AreBudgets true (stack ds (take (i + 1) xs)) r.budgets.items

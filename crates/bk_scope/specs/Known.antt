-- What a resolved section keeps.
use Rattle.std.specs.Prelude.{◌≡◌, ℕ, ◌+◌, ◌<◌, ◌^◌, List, []}
use Rattle.bk_tree.specs.Tree.{Declarations}
use Rattle.bk_scope.specs.declared.bound.Bound.{Bound}
use Rattle.bk_scope.specs.Spots.{numbers_declared}
use Rattle.bk_scope.specs.Faults.{faults, meanings, words}

-- a section without faults, with what its names mean and the words of its constants; its numbers are words
pub record Known (ds : Declarations) (ms : List Bound) (ws : List ℕ) : Type 0 where
  pub faultless : faults ds ≡ []
  pub meanings_are : ms ≡ meanings ds
  pub words_are : ws ≡ words ds
  pub numbers_fit : 1 + numbers_declared ds < 2 ^ 32

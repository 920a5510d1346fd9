-- Accepted sections, and the statements that represent them.
use Rattle.std.specs.Prelude.{◌≡◌, List, [], ◌∷◌}
use Rattle.bk_tree.specs.Tree.{Declarations}
use Rattle.bk_tree.specs.Limits.{Within}
use Rattle.bk_scope.specs.Faults.{faults, words}
use Rattle.bk_ocode.specs.OcodeState.{Placed}
use Rattle.bk_trans.specs.Naming.{named_tree}
use Rattle.bk_trans.specs.Scheme.{scheme}
use Rattle.bk_trans.specs.Laws.{AreWords}
use Rattle.bk_simulation.specs.Regular.{IsRegular}

-- Accepted sections: without faults, within the limits of trees, with constants that are words, and as the grammar gives them.
pub record IsAccepted (ds : Declarations) : Type 0 where
  pub faultless : faults ds ≡ []
  pub within : Within ds
  pub are_words : AreWords (words ds)
  pub regular : IsRegular ds

abbrev pub AreAccepted : List Declarations → Type 0
AreAccepted [] = Unit {0}
AreAccepted (ds ∷ rest) = IsAccepted ds × AreAccepted rest

-- Section by section, the statements are those of the scheme.
abbrev pub Represent : List Declarations → List Placed → Type 0
Represent [] [] = Unit {0}
Represent (ds ∷ rest) (own ∷ others) = (own.stmts ≡ scheme (named_tree ds)) × Represent rest others
Represent _ _ = ⊥

-- What the layers above need of a section without faults, and the laws that give it to them.
use Rattle.std.specs.Prelude.{◌≡◌, List, [], ◌∷◌, ◌++◌}
use Rattle.bk_tree.specs.Tree.{Declarations}
use Rattle.bk_scope.specs.Found.{Claim}
use Rattle.bk_scope.specs.Points.{Point, wrong, claims_after, judged, meanings_of, words_of}
use Rattle.bk_scope.specs.Faults.{reported_of, faults}
use Rattle.bk_scope.specs.Sound.{SoundSection}

-- nothing that is reported is a fault, where these claims were made before
abbrev pub Clean : List Claim → List Point → Type 0
Clean cs xs = judged cs xs ≡ []

-- nothing that is reported is wrong by itself
abbrev pub NoWrong : List Point → Type 0
NoWrong [] = Unit {0}
NoWrong (wrong f ∷ xs) = ⊥
NoWrong (_ ∷ xs) = NoWrong xs

-- A section without faults is clean.
abbrev pub SectionsAreClean : Type 0
SectionsAreClean = (ds : Declarations) → faults ds ≡ [] → Clean [] (reported_of ds)

-- Where a whole is clean, each part is, after the claims of what is before it.
abbrev pub PartsAreClean : Type 0
PartsAreClean = (cs : List Claim) (xs ys : List Point) → Clean cs (xs ++ ys) → Clean cs xs × Clean (claims_after cs xs) ys

-- Each part has its own stretch of the meanings and of the words.
abbrev pub PartsHaveStretches : Type 0
PartsHaveStretches = (xs ys : List Point) → (meanings_of (xs ++ ys) ≡ meanings_of xs ++ meanings_of ys) × (words_of (xs ++ ys) ≡ words_of xs ++ words_of ys)

-- In a section without faults each node is sound.
abbrev pub FaultlessIsSound : Type 0
FaultlessIsSound = (ds : Declarations) → faults ds ≡ [] → SoundSection ds

-- The CASEs that belong to a SWITCHON: those of the commands whose labels belong together with its own, but of no SWITCHON
-- inside.
use Rattle.std.specs.Prelude.{◌≡◌, ℕ, ◌+◌, ◌≤◌, Option, Some, None, List, [], ◌∷◌, ◌++◌}
use Rattle.bk_tree.specs.Tree.{Expression, Command, Commands, label, case_of, default, when, test, while, switch, block, repeat, repeat_while, no_commands, also, no_declarations}
use Rattle.bk_scope.specs.declared.place.Enclosing.{Enclosing}
use Rattle.bk_scope.specs.Scope.{Binding}
use Rattle.bk_scope.specs.Constants.{constant_word}
use Rattle.bk_scope.specs.Found.{Claim}
use Rattle.bk_scope.specs.Spots.{Spot}
use Rattle.bk_scope.specs.Faults.{reported_done}
use Rattle.bk_scope.specs.Laws.{Clean}

abbrev pub word_if_any : Option ℕ → List ℕ
word_if_any None = []
word_if_any (Some w) = w ∷ []

-- their words, in the source's order
abbrev mutual
  pub case_words : List Binding → Command → List ℕ
  case_words bs (label l x c) = case_words bs c
  case_words bs (case_of l e c) = word_if_any (constant_word bs e) ++ case_words bs c
  case_words bs (default l c) = case_words bs c
  case_words bs (when l b e c) = case_words bs c
  case_words bs (test l e a b) = case_words bs a ++ case_words bs b
  case_words bs (while l b e c) = case_words bs c
  case_words bs (block l no_declarations cs) = case_words_each bs cs
  case_words bs (repeat l c) = case_words bs c
  case_words bs (repeat_while l b c e) = case_words bs c
  case_words bs _ = []

  pub case_words_each : List Binding → Commands → List ℕ
  case_words_each bs no_commands = []
  case_words_each bs (also c cs) = case_words bs c ++ case_words_each bs cs

-- how many DEFAULTs there are
abbrev mutual
  pub defaults : Command → ℕ
  defaults (label l x c) = defaults c
  defaults (case_of l e c) = defaults c
  defaults (default l c) = 1 + defaults c
  defaults (when l b e c) = defaults c
  defaults (test l e a b) = defaults a + defaults b
  defaults (while l b e c) = defaults c
  defaults (block l no_declarations cs) = defaults_each cs
  defaults (repeat l c) = defaults c
  defaults (repeat_while l b c e) = defaults c
  defaults _ = 0

  pub defaults_each : Commands → ℕ
  defaults_each no_commands = 0
  defaults_each (also c cs) = defaults c + defaults_each cs

-- a number that is none of these, and numbers of which none occurs twice
abbrev pub NoneOf : ℕ → List ℕ → Type 0
NoneOf x [] = Unit {0}
NoneOf x (y ∷ ys) = (x ≡ y → ⊥) × NoneOf x ys

abbrev pub AllDiffer : List ℕ → Type 0
AllDiffer [] = Unit {0}
AllDiffer (x ∷ xs) = NoneOf x xs × AllDiffer xs

-- THE CASES OF A SWITCHON DIFFER, where what is reported of it is clean, and there is one DEFAULT at most.
abbrev pub CasesDiffer : Type 0
CasesDiffer = (cs : List Claim) (bs : List Binding) (p : Enclosing) (s : Spot) (l : ℕ) (e : Expression) (c : Command) → Clean cs (reported_done bs p s (switch l e c)) → AllDiffer (case_words bs c) × (defaults c ≤ 1)

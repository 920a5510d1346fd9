-- What a person is reported of a section that is refused, after the name of FILE.
use Rattle.std.specs.Prelude.{◌≡◌, ℕ, ◌≤◌, ◌⊎◌, List, [], ◌∷◌, ◌++◌, All, Vec, length, codes, decimal}
use Rattle.std.specs.Global.{Global}
use Rattle.bk_base.specs.declared.source_fault.SourceFault.{SourceFault}
use Rattle.bk_base.specs.SourceFault.{source_text}
use Rattle.bk_lines.specs.declared.places.Start.{Start}
use Rattle.bk_lines.specs.Places.{place_text}

-- The line and the column of a place of the text, which begins here; or, where the fault is in no text, its line alone.
abbrev pub Places : Start → List ℕ → ℕ → List ℕ → Type 0
Places start text line place =
    ((before after : List ℕ) × (text ≡ before ++ after) × (place ≡ place_text start before)) ⊎ (place ≡ decimal line)

-- `:PLACE: FAULT`, and further lines
pub record Reports (start : Start) (text : List ℕ) (fault : SourceFault) (page : List ℕ) : Type 0 where
  pub place : List ℕ
  pub further : List ℕ
  pub places : Places start text fault.line place
  pub is : page ≡ 58 ∷ place ++ 58 ∷ 32 ∷ source_text fault.kind ++ 10 ∷ further

-- some further fault, or how many more there are
abbrev pub ReportsFurther : Start → List ℕ → Vec ℕ Global → Type 0
ReportsFurther start text page =
    ((fault : SourceFault) × Reports start text fault page.items) ⊎ ((count : ℕ) × (page.items ≡ codes ": and at least " ++ decimal count ++ codes " more" ++ 10 ∷ []))

-- pages of further faults were added
abbrev pub AddsFurther : Start → List ℕ → List (Vec ℕ Global) → List (Vec ℕ Global) → Type 0
AddsFurther start text old new = (more : List (Vec ℕ Global)) × (new ≡ old ++ more) × All (ReportsFurther start text) more

-- THE HINTS of a fault: it comes first, and twenty further ones at most, the line that counts the rest being one.
abbrev pub Hints : Start → List ℕ → SourceFault → List (Vec ℕ Global) → Type 0
Hints start text fault [] = ⊥
Hints start text fault (page ∷ pages) = Reports start text fault page.items × All (ReportsFurther start text) pages × (length pages ≤ 20)

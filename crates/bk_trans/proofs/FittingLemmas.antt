-- What lists of statements whose numbers fit come to.
use Rattle.bk_trans.proofs.Words.{◌≡◌, ℕ, zero, suc, ◌<◌, ◌^◌, Some, List, [], ◌∷◌, map, slice_get, refl, ap, ◌∙◌, arith, Case, GlobalEntry, Stmt}
use Rattle.std.specs.Prelude.{FitsSigned}
use Rattle.bk_trans.proofs.Terms.{w32, word, case_in_words, entry_in_words, CasesFit, EntriesFit, AllFit, Fits}

pub word_is : (n : ℕ) → n < 2 ^ 32 → word n ≡ n
word_is n h = omega arith

pub cases_are : (cs : List Case) → CasesFit cs → map case_in_words cs ≡ cs
cases_are [] h = refl
cases_are (c ∷ cs) h = ap (λ x. x ∷ map case_in_words cs) h.0.0 ∙ ap (λ xs. c ∷ xs) (cases_are cs h.1)

pub cases_are_typed : (cs : List Case) → CasesFit cs → (k : ℕ) (c : Case) → slice_get cs k ≡ Some c → FitsSigned w32 c.value
cases_are_typed [] h k c e = absurd cc
cases_are_typed (d ∷ ds) h zero c e = let same : d ≡ c = cc in rw (← same) h.0.1
cases_are_typed (d ∷ ds) h (suc k) c e = cases_are_typed ds h.1 k c e

pub entries_are : (es : List GlobalEntry) → EntriesFit es → map entry_in_words es ≡ es
entries_are [] h = refl
entries_are (e ∷ es) h = ap (λ x. x ∷ map entry_in_words es) h.0 ∙ ap (λ xs. e ∷ xs) (entries_are es h.1)

pub all_at : (ss : List Stmt) → AllFit ss → (k : ℕ) (s : Stmt) → slice_get ss k ≡ Some s → Fits s
all_at [] h k s e = absurd cc
all_at (r ∷ rs) h zero s e = let same : r ≡ s = cc in rw (← same) h.0
all_at (r ∷ rs) h (suc k) s e = all_at rs h.1 k s e

-- Runs that grow by a byte at their end.
use Rattle.bk_lex.proofs.Terms.{◌≡◌, ℕ, ◌+◌, ◌<◌, ◌≤◌, Bool, true, false, ltb, ltb-true, ltb-false, List, [], ◌∷◌, ◌++◌, length, get_or, slice_range, refl, sym, ap, subst, ◌∙◌, arith, coded, code_from}
use Rattle.bk_lex.proofs.Steps.{grows}

pub all_more : (P : ℕ → Type 0) (i n : ℕ) → ((k : ℕ) → i ≤ k → k < n → P k) → P n → (k : ℕ) → i ≤ k → k < n + 1 → P k
all_more P i n all last k le lt = by_place (ltb k n) refl
  where
    by_place : (d : Bool) → ltb k n ≡ d → P k
    by_place true e = all k le (ltb-true k n e)
    by_place false e = subst P (let z : n ≡ k = omega (arith, lt, ltb-false k n e) in z) last

code_append : (code : ℕ) (xs : List ℕ) (b : ℕ) → code_from code (xs ++ b ∷ []) ≡ coded (code_from code xs) b
code_append code [] b = refl
code_append code (x ∷ xs) b = code_append (coded code x) xs b

pub code_more : (code : ℕ) (text : List ℕ) (i k : ℕ) → i ≤ k → k < length text → code_from code (slice_range text i (k + 1)) ≡ coded (code_from code (slice_range text i k)) (get_or text k 0)
code_more code text i k le lt = ap (λ (xs : List ℕ). code_from code xs) (sym (grows text i k le lt)) ∙ code_append code (slice_range text i k) (get_or text k 0)

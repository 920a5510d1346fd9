-- What a test against 0 says.
use Rattle.std.proofs.Common.{◌≡◌, ℕ, Bool, true, false, ◌==◌, ◌<◌, sym, ◌∙◌, arith}
use Rattle.std.proofs.lemmas.Bool.Decides.{nat_tests}

pub eq_is : (m n : ℕ) → (m == n) ≡ true → m ≡ n
eq_is m n h = grind (arith, nat_tests, h)

pub is_zero : (n : ℕ) (r : Bool) → r ≡ (n == 0) → r ≡ true → n ≡ 0
is_zero n r is holds = eq_is n 0 (sym is ∙ holds)

pub is_more : (n : ℕ) (r : Bool) → r ≡ (n == 0) → r ≡ false → 0 < n
is_more n r is none = let h : (n == 0) ≡ false = sym is ∙ none in grind (arith, nat_tests)

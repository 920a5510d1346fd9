-- Tags that are one, letter case ignored.
use Rattle.bk_grammar.proofs.Terms.{◌≡◌, ℕ, Bool, true, false, cond, List, [], ◌∷◌, map, IsTrue, ◌==◌, ◌↔◌, refl, sym, ap, ◌∙◌, arith, nat_tests, upper_name, eq_is}
use Rattle.std.specs.Char.{to_ascii_lowercase, to_ascii_uppercase}
use Rattle.std.proofs.lemmas.Str.Ascii.{lowercase-uppercase}
use Rattle.bk_grammar.specs.Brackets.{same_tag}

upper_lower : (c : ℕ) → to_ascii_uppercase (to_ascii_lowercase c) ≡ to_ascii_uppercase c
upper_lower c = grind (arith, nat_tests)

all_upper : (xs : List ℕ) → upper_name (map to_ascii_lowercase xs) ≡ upper_name xs
all_upper [] = refl
all_upper (x ∷ xs) = let a = upper_lower x in let b = all_upper xs in cc

all_lower : (xs : List ℕ) → map to_ascii_lowercase (upper_name xs) ≡ map to_ascii_lowercase xs
all_lower [] = refl
all_lower (x ∷ xs) = let a = lowercase-uppercase x in let b = all_lower xs in cc

both_true : (b r : Bool) → cond b r false ≡ true → (b ≡ true) × (r ≡ true)
both_true b r h1 = grind arith

tags_are : (xs ys : List ℕ) → same_tag xs ys ≡ true → xs ≡ ys
tags_are [] [] h = refl
tags_are [] (y ∷ ys) h = absurd cc
tags_are (x ∷ xs) [] h = absurd cc
tags_are (x ∷ xs) (y ∷ ys) h = let p = both_true (x == y) (same_tag xs ys) h in let e = eq_is x y p.0 in let r = tags_are xs ys p.1 in cc

one_number : (n : ℕ) → (n == n) ≡ true
one_number n = grind (arith, nat_tests)

pub one_tag : (xs : List ℕ) → same_tag xs xs ≡ true
one_tag [] = refl
one_tag (x ∷ xs) = ap (λ b. cond b (same_tag xs xs) false) (one_number x) ∙ one_tag xs

not_true : (r : Bool) → (r ≡ true → ⊥) → false ≡ r
not_true r h1 = grind arith

pub same_case : (r : Bool) (a b : List ℕ) → (IsTrue r ↔ (map to_ascii_lowercase a ≡ map to_ascii_lowercase b)) → r ≡ same_tag (upper_name a) (upper_name b)
same_case true a b h = sym (ap (same_tag (upper_name a)) (sym (sym (all_upper a) ∙ ap upper_name (h.0 refl) ∙ all_upper b)) ∙ one_tag (upper_name a))
same_case false a b h = not_true (same_tag (upper_name a) (upper_name b)) (λ e. let f : false ≡ true = h.1 (sym (all_lower a) ∙ ap (map to_ascii_lowercase) (tags_are (upper_name a) (upper_name b) e) ∙ all_lower b) in absurd cc)

-- Labels are set once: those that a part sets, in its own code and in what stands by itself behind it, lie among its own, and
-- each is set at most once. How often a label is set is counted.
use Rattle.bk_trans.proofs.Words.{arith, ◌≡◌, ◌⊎◌, inl, inr, ◌<◌, ◌≤◌, ℕ, ◌+◌, ◌-◌, ◌==◌, min, Bool, true, false, cond, Some, List, [], ◌∷◌, ◌++◌, length, map, refl, ap, cases_lt, ne_eqb, signed, Operator, Prefix, Bound, Stmt, sets, times_set, total, Operator as o, Prefix as q, Bound as b, Stmt as t, Target, StaticItem, labels_of_procedure, Part, parts_of_items, push, prefix_code, infix_code, truth_value, procedure_code, word_code, data_code}
use Rattle.bk_ocode.specs.Labels.{label_set}

-- what stands by itself
abbrev pub parts_set : ℕ → List Target → List Part → ℕ
parts_set l ts ps = total (λ p. times_set l (procedure_code ts p) + times_set l (data_code p)) ps

-- 1 where l is n or more, else 0
abbrev pub past : ℕ → ℕ → ℕ
past l n = min (l + 1 - n) 1

pub set_both : (l : ℕ) (xs ys : List Stmt) → times_set l (xs ++ ys) ≡ times_set l xs + times_set l ys
set_both l [] ys = omega arith
set_both l (s ∷ xs) ys = let rest = set_both l xs ys in omega (arith, rest)

-- a label that is set is one
at_most_one : (x : Bool) → cond x 1 0 ≤ 1
at_most_one true = omega arith
at_most_one false = omega arith

pub own_from : (l n : ℕ) → (l < n) ⊎ (n ≤ l) → (n < l) ⊎ (l ≤ n) → sets l (Some n) + past l (n + 1) ≤ past l n
own_from l n (inl h) j = let no : sets l (Some n) ≡ 0 = ap (λ (x : Bool). cond x 1 0) (ne_eqb l n (λ e. omega (arith, h, e))) in omega (arith, no, h)
own_from l n (inr h) (inl j) = let no : sets l (Some n) ≡ 0 = ap (λ (x : Bool). cond x 1 0) (ne_eqb l n (λ e. omega (arith, j, e))) in omega (arith, no, h, j)
own_from l n (inr h) (inr j) = let one = at_most_one (l == n) in omega (arith, one, h, j)

pub own : (l n : ℕ) → sets l (Some n) + past l (n + 1) ≤ past l n
own l n = own_from l n (cases_lt l n) (cases_lt n l)

pub no_more : (n : ℕ) → n + 0 ≡ n
no_more n = omega arith

-- statements that set none
pub push_none : (l : ℕ) (ts : List Target) (x : Bound) → sets l (label_set (push ts x)) ≡ 0
push_none l ts (b.Constant (Some v)) = refl
push_none l ts _ = refl

pub truth_none : (l : ℕ) (x : Bool) → sets l (label_set (truth_value x)) ≡ 0
truth_none l true = refl
truth_none l false = refl

pub chosen_none : (l : ℕ) (x : Bool) (s r : Stmt) → sets l (label_set s) ≡ 0 → sets l (label_set r) ≡ 0 → sets l (label_set (cond x s r)) ≡ 0
chosen_none l true s r h i = h
chosen_none l false s r h i = i

pub store_none : (l : ℕ) (x : Bool) → times_set l (cond x (t.Store ∷ []) []) ≡ 0
store_none l true = refl
store_none l false = refl

pub prefix_none : (l : ℕ) (f : Prefix) → times_set l (prefix_code f) ≡ 0
prefix_none l q.Contents = refl
prefix_none l _ = refl

pub infix_none : (l : ℕ) (f : Operator) → times_set l (infix_code f) ≡ 0
infix_none l o.Subscript = refl
infix_none l _ = refl

pub words_none : (l : ℕ) (ws : List ℕ) → times_set l (map (λ v. t.DataNumber (signed v)) ws) ≡ 0
words_none l [] = refl
words_none l (v ∷ ws) = let h = words_none l ws in omega (arith, h)

pub statics_own : (l : ℕ) (ts : List Target) (n : ℕ) (ks : List StaticItem) → parts_set l ts (parts_of_items n ks) + past l (n + length ks) ≤ past l n
statics_own l ts n [] = omega arith
statics_own l ts n (x ∷ ks) = let h = statics_own l ts (n + 1) ks in let i = own l n in omega (arith, h, i)

pub word_own : (l n : ℕ) (x : Bound) → times_set l (word_code n x) + past l (n + labels_of_procedure x) ≤ past l (n + 1)
word_own l n (b.Static m) = let i = own l (n + 1) in omega (arith, i)
word_own l n _ = omega arith

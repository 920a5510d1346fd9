-- The CASEs and the DEFAULT of a SWITCHON: their labels are jumped to at its depth, and their values differ.
use Rattle.bk_trans.proofs.Terms.{w32, cast_unsigned, NamedCommand, NamedCommands, label, case_of, default, when, test, while, block, repeat, repeat_while, no_named_commands, also, no_declarations, labels_if, labels_in, labels_through, cases, cases_through, first_of, default_in, default_through, label_or}
use Rattle.std.proofs.lemmas.Int.{of_z-to_z}
use Rattle.bk_trans.proofs.Good.{case_words, case_words_through, AllWords, marks_if, marks_in, marks_through, AllRight, Right, arith, ◌≡◌, ℕ, zero, suc, ◌+◌, ◌<◌, ◌≤◌, ◌^◌, false, not, Option, Some, None, List, [], ◌∷◌, ◌++◌, length, map, slice_get, refl, sym, ap, ◌∙◌, length-append, ⊤, signed, OCODE_LABEL, NoneOf, AllDiffer, Case, IsLabel, AreCases, Use, jumps, AllJump, Every, every_front, every_back, every_both, every_at}

abbrev IsPlace : (ℕ → Use) → ℕ → ℕ → ℕ → Type 0
IsPlace plan p s l = (plan l ≡ jumps p s) × IsLabel l

abbrev pub AllCases : (ℕ → Use) → ℕ → ℕ → List Case → Type 0
AllCases plan p s cs = Every (λ c. IsPlace plan p s c.label) cs

-- the DEFAULT
abbrev pub OnDefault : (ℕ → Use) → ℕ → ℕ → Option ℕ → Type 0
OnDefault plan p s None = ⊤
OnDefault plan p s (Some l) = IsPlace plan p s l

first_default : (plan : ℕ → Use) (p s : ℕ) (x y : Option ℕ) → OnDefault plan p s x → OnDefault plan p s y → OnDefault plan p s (first_of x y)
first_default plan p s None y h i = i
first_default plan p s (Some l) y h i = h

-- the values are those of the words, in order
abbrev pub SameValues : List Case → List ℕ → Type 0
SameValues [] [] = ⊤
SameValues (c ∷ cs) (w ∷ ws) = (c.value ≡ signed w) × SameValues cs ws
SameValues _ _ = ⊥

both_values : (cs ds : List Case) (vs ws : List ℕ) → SameValues cs vs → SameValues ds ws → SameValues (cs ++ ds) (vs ++ ws)
both_values [] ds [] ws h i = i
both_values (c ∷ cs) ds (v ∷ vs) ws h i = (h.0, both_values cs ds vs ws h.1 i)
both_values _ ds _ ws h i = elim h [ ]

-- what is right of the CASEs and the DEFAULT of a command with these words; there are m CASEs at most
pub record Chosen (plan : ℕ → Use) (p s m : ℕ) (cs : List Case) (y : Option ℕ) (ws : List ℕ) : Type 0 where
  pub at_cases : AllCases plan p s cs
  pub at_default : OnDefault plan p s y
  few : length cs ≤ m
  values : SameValues cs ws

at_most : {plan : ℕ → Use} {p s m j : ℕ} {cs : List Case} {y : Option ℕ} {ws : List ℕ} → Chosen plan p s m cs y ws → m ≤ j → Chosen plan p s j cs y ws
at_most h low = let f = h.few in record { at_cases = h.at_cases; at_default = h.at_default; few = omega (arith, f, low); values = h.values }

both_chosen : {plan : ℕ → Use} {p s m j k : ℕ} {cs ds : List Case} {x y : Option ℕ} {vs ws : List ℕ} → Chosen plan p s m cs x vs → Chosen plan p s j ds y ws → m + j ≤ k
    → Chosen plan p s k (cs ++ ds) (first_of x y) (vs ++ ws)
both_chosen {plan} {p} {s} {cs = cs} {ds = ds} {x = x} {y = y} {vs = vs} {ws = ws} h i low = record {
  at_cases = every_both (λ (c : Case). IsPlace plan p s c.label) cs ds h.at_cases i.at_cases;
  at_default = first_default plan p s x y h.at_default i.at_default;
  few = let f = h.few in let g = i.few in let e = length-append cs ds in omega (arith, f, g, e, low);
  values = both_values cs ds vs ws h.values i.values;
}

module _ (plan : ℕ → Use) (p s : ℕ) where
  mutual
    pub chosen : (n : ℕ) (c : NamedCommand) → 1 ≤ n → n + labels_in c ≤ OCODE_LABEL + 1 → AllRight plan (marks_in p s n c) → Chosen plan p s (labels_in c) (cases n c) (default_in n c) (case_words c)
    chosen n (label b c) low high r = at_most (chosen (n + 1) c (omega (arith, low)) (omega (arith, high)) r.1) (omega arith)
    chosen n (case_of w c) low high r =
        let h = chosen (n + 1) c (omega (arith, low)) (omega (arith, high)) r.1 in let f = h.few in
        record { at_cases = ((r.0, (low, omega (arith, high))), h.at_cases); at_default = h.at_default; few = omega (arith, f); values = (refl, h.values) }
    chosen n (default c) low high r =
        let h = chosen (n + 1) c (omega (arith, low)) (omega (arith, high)) r.1 in let f = h.few in
        record { at_cases = h.at_cases; at_default = (r.0, (low, omega (arith, high))); few = omega (arith, f); values = h.values }
    chosen n (when b e c) low high r =
        at_most (chosen (n + 1 + labels_if e) c (omega (arith, low)) (omega (arith, high)) (every_back (Right plan) (marks_if p s (n + 1) e (not b)) _ r.1)) (omega arith)
    chosen n (test e a b) low high r =
        let m = marks_if p s (n + 2) e false ++ marks_in p s (n + 2 + labels_if e) a in
        both_chosen (chosen (n + 2 + labels_if e) a (omega (arith, low)) (omega (arith, high)) (every_back (Right plan) (marks_if p s (n + 2) e false) _ (every_front (Right plan) m _ r.1.1)))
        (chosen (n + 2 + labels_if e + labels_in a) b (omega (arith, low)) (omega (arith, high)) (every_back (Right plan) m _ r.1.1)) (omega arith)
    chosen n (while b e c) low high r =
        at_most (chosen (n + 3 + labels_if e) c (omega (arith, low)) (omega (arith, high)) (every_front (Right plan) (marks_in p s (n + 3 + labels_if e) c) _ r.1.1.1)) (omega arith)
    chosen n (block no_declarations cs) low high r = at_most (chosen_through n cs low (omega (arith, high)) r) (omega arith)
    chosen n (repeat c) low high r = at_most (chosen (n + 2) c (omega (arith, low)) (omega (arith, high)) r.1.1) (omega arith)
    chosen n (repeat_while b c e) low high r =
        at_most (chosen (n + 3) c (omega (arith, low)) (omega (arith, high)) (every_front (Right plan) (marks_in p s (n + 3) c) _ r.1.1.1)) (omega arith)
    chosen n _ low high r = record { at_cases = tt; at_default = tt; few = omega arith; values = tt }

    chosen_through : (n : ℕ) (cs : NamedCommands) → 1 ≤ n → n + labels_through cs ≤ OCODE_LABEL + 1 → AllRight plan (marks_through p s n cs)
        → Chosen plan p s (labels_through cs) (cases_through n cs) (default_through n cs) (case_words_through cs)
    chosen_through n no_named_commands low high r = record { at_cases = tt; at_default = tt; few = omega arith; values = tt }
    chosen_through n (also c cs) low high r =
        both_chosen (chosen n c low (omega (arith, high)) (every_front (Right plan) (marks_in p s n c) _ r))
        (chosen_through (n + labels_in c) cs (omega (arith, low)) (omega (arith, high)) (every_back (Right plan) (marks_in p s n c) _ r)) (omega arith)

signed_differ : (v w : ℕ) → v < 2 ^ 32 → w < 2 ^ 32 → signed v ≡ signed w → v ≡ w
signed_differ v w low high e = sym (of_z-to_z w32 v low) ∙ ap (λ z. cast_unsigned w32 z) e ∙ of_z-to_z w32 w high

-- a word that is none of these has no value among theirs
none_there : (cs : List Case) (ws : List ℕ) (w : ℕ) (k : ℕ) (c : Case) → SameValues cs ws → AllWords ws → w < 2 ^ 32 → NoneOf w ws → slice_get cs k ≡ Some c → c.value ≡ signed w → ⊥
none_there [] ws w k c s a low n at e = let h : None ≡ Some c = at in cc
none_there (d ∷ cs) [] w k c s a low n at e = elim s [ ]
none_there (d ∷ cs) (v ∷ ws) w zero c s a low n at e =
    let same : d ≡ c = (let h : Some d ≡ Some c = at in cc) in
    n.0 (signed_differ w v low a.0 (sym e ∙ sym (ap (λ (x : Case). x.value) same) ∙ s.0))
none_there (d ∷ cs) (v ∷ ws) w (suc k) c s a low n at e = none_there cs ws w k c s.1 a.1 low n.1 at e

once_each : (cs : List Case) (ws : List ℕ) → SameValues cs ws → AllWords ws → AllDiffer ws → (j k : ℕ) (c d : Case) → slice_get cs j ≡ Some c → slice_get cs k ≡ Some d → c.value ≡ d.value → j ≡ k
once_each [] ws s a n j k c d at_j at_k e = absurd (let h : None ≡ Some c = at_j in cc)
once_each (x ∷ cs) [] s a n j k c d at_j at_k e = elim s [ ]
once_each (x ∷ cs) (w ∷ ws) s a n zero zero c d at_j at_k e = refl
once_each (x ∷ cs) (w ∷ ws) s a n zero (suc k) c d at_j at_k e =
    let same : x ≡ c = (let h : Some x ≡ Some c = at_j in cc) in
    absurd (none_there cs ws w k d s.1 a.1 a.0 n.0 at_k (sym e ∙ sym (ap (λ (y : Case). y.value) same) ∙ s.0))
once_each (x ∷ cs) (w ∷ ws) s a n (suc j) zero c d at_j at_k e =
    let same : x ≡ d = (let h : Some x ≡ Some d = at_k in cc) in
    absurd (none_there cs ws w j c s.1 a.1 a.0 n.0 at_j (e ∙ sym (ap (λ (y : Case). y.value) same) ∙ s.0))
once_each (x ∷ cs) (w ∷ ws) s a n (suc j) (suc k) c d at_j at_k e = ap (λ y. suc y) (once_each cs ws s.1 a.1 n.1 j k c d at_j at_k e)

pub cases_are : (plan : ℕ → Use) (p s n : ℕ) (c : NamedCommand) → 1 ≤ n → n + labels_in c ≤ OCODE_LABEL + 1 → AllRight plan (marks_in p s n c) → AllDiffer (case_words c) → AllWords (case_words c) → AreCases (cases n c)
cases_are plan p s n c low high r differ small =
    let h = chosen plan p s n c low high r in let few = h.few in
    record { once = once_each (cases n c) (case_words c) h.values small differ; labels = λ k d at. (every_at (λ (x : Case). IsPlace plan p s x.label) (cases n c) h.at_cases k d at).1; counted = omega (arith, few, high) }

pub cases_jump : (plan : ℕ → Use) (p s : ℕ) (cs : List Case) → AllCases plan p s cs → AllJump plan p s (map (λ c. c.label) cs)
cases_jump plan p s [] h = tt
cases_jump plan p s (c ∷ cs) h = (h.0.0, cases_jump plan p s cs h.1)

pub default_is : (plan : ℕ → Use) (p s n : ℕ) (y : Option ℕ) → plan n ≡ jumps p s → IsLabel n → OnDefault plan p s y → (plan (label_or n y) ≡ jumps p s) × IsLabel (label_or n y)
default_is plan p s n None e range h = (e, range)
default_is plan p s n (Some l) e range h = h

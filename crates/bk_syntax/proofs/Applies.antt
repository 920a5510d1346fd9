-- A list of symbols has at most one tree, and a fault stands whatever follows.
use Rattle.bk_syntax.proofs.Terms.{◌≡◌, ◌≤◌, List, [], ◌∷◌, ◌++◌, Option, Some, None, Result, Err, length, refl, ap, ◌∙◌, ◌⊎◌, inl, inr, length-append, arith, Symbol, Declarations, no_declarations, Section, IsSection, stepped, complete, reading, Kind as k}
use Rattle.bk_grammar.specs.Machine.{State, due, in_section, stepped_by, step, whole, going, run}

-- at most one tree
pub one_tree : (ds es : Declarations) (ts : List Symbol) → IsSection ds ts → IsSection es ts → ds ≡ es
one_tree ds es ts h j =
    let a = h.brackets in let b = j.brackets in
    let same : h.plainly ≡ j.plainly = cc in
    let c = complete ds h.plainly h.section in let d = complete es j.plainly j.section in
    let e : reading h.plainly ≡ reading j.plainly = ap reading same in cc

going_err : (ts : List Symbol) (f : State → Result Declarations (List Symbol)) (x : Option State) (r : List Symbol) → going ts f x ≡ Err r → ((x ≡ None) × (r ≡ ts)) ⊎ ((n : State) × (x ≡ Some n) × (f n ≡ Err r))
going_err ts f None r h = inl (refl, cc)
going_err ts f (Some n) r h = inr (n, refl, h)

pub whole_err : (x : Option State) (r : List Symbol) → whole x ≡ Err r → r ≡ []
whole_err None r h = cc
whole_err (Some (due (in_section ds))) r h = absurd cc
whole_err _ r h = cc

shorter : (ts rest : List Symbol) (x : State) → run ts x ≡ Err rest → length rest ≤ length ts
unfolding run
shorter [] rest x h = let e = whole_err (stepped_by x 1 [] k.Semicolon) rest h in rw e (omega arith)
shorter (t ∷ ts) rest x h = elim (going_err (t ∷ ts) (run ts) (step x t) rest h) [
  | inl g ↦ rw g.1 (omega arith)
  | inr g ↦ let j = shorter ts rest g.0 g.2 in omega arith
]

-- a fault at a symbol comes whatever follows
pub stays : (u : List Symbol) (t : Symbol) (v w : List Symbol) (x : State) → run (u ++ t ∷ v) x ≡ Err (t ∷ v) → run (u ++ t ∷ w) x ≡ Err (t ∷ w)
unfolding run
stays [] t v w x h = elim (going_err (t ∷ v) (run v) (step x t) (t ∷ v) h) [
  | inl g ↦ ap (going (t ∷ w) (run w)) g.0
  | inr g ↦ let j = shorter v (t ∷ v) g.0 g.2 in absurd (omega arith)
]
stays (y ∷ u) t v w x h = elim (going_err (y ∷ (u ++ t ∷ v)) (run (u ++ t ∷ v)) (step x y) (t ∷ v) h) [
  | inl g ↦ let j : length (t ∷ v) ≡ length (y ∷ (u ++ t ∷ v)) = ap length g.1 in absurd (omega (arith, length-append u (t ∷ v)))
  | inr g ↦ stepped x g.0 y (u ++ t ∷ w) g.1 ∙ stays u t v w g.0 g.2
]

-- where the machine stops at a symbol, no section of plain symbols goes on from there
pub fault_stands : (u : List Symbol) (t : Symbol) (v : List Symbol) → reading (u ++ t ∷ v) ≡ Err (t ∷ v) → (w : List Symbol) (ds : Declarations) → Section ds (u ++ t ∷ w) → ⊥
fault_stands u t v h w ds is = let a = complete ds (u ++ t ∷ w) is in let b = stays u t v w (due (in_section no_declarations)) h in absurd cc

-- where the machine stops at the end, the plain symbols are no section
pub end_stands : (ts rest : List Symbol) → reading ts ≡ Err rest → (ds : Declarations) → Section ds ts → ⊥
end_stands ts rest h ds is = let a = complete ds ts is in absurd cc

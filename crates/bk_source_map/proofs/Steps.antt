-- Steps of the loops, and what is left at their ends.
pub use Rattle.std.proofs.Common.{◌≡◌, ℕ, zero, suc, ◌+◌, ◌<◌, ◌≤◌, min, List, [], ◌∷◌, ◌++◌, length, get_or, drop, replicate, refl, arith, append_assoc, append-nil, sym, ap, ◌∙◌, rules, map}
use Rattle.bk_tree.specs.declared.tree.Expr.{Expr}
use Rattle.bk_tree.specs.declared.tree.Decl.{Decl}
use Rattle.bk_tree.specs.Tree.{expressions_in, declarations_in}
use Rattle.bk_ocode.specs.declared.stmt.Stmt.{Stmt}
use Rattle.bk_source_map.specs.Places.{by_turns, values_places, stores_places, leave_places}
use Rattle.bk_source_map.specs.PlacedScheme.{entrance, entrances}

-- an assignment: past its values or its destinations nothing is left
pub turns_ended : (es xs : List Expr) (i : ℕ) → min (length es) (length xs) ≤ i → by_turns (values_places (expressions_in (drop i es))) (stores_places (expressions_in (drop i xs))) ≡ []
turns_ended [] xs zero low = refl
turns_ended [] xs (suc i) low = refl
turns_ended (e ∷ es) [] zero low = refl
turns_ended (e ∷ es) [] (suc i) low = past_all (values_places (expressions_in (drop i es)))
  where
    past_all : (ys : List (List ℕ)) → by_turns ys [] ≡ []
    past_all [] = refl
    past_all (y ∷ ys) = refl
turns_ended (e ∷ es) (x ∷ xs) zero low = absurd (omega (arith, low))
turns_ended (e ∷ es) (x ∷ xs) (suc i) low = turns_ended es xs i (omega (arith, low))

pub leave_some : (ds : List Decl) (l : ℕ) → 1 ≤ length ds → leave_places (declarations_in ds) l ≡ replicate 1 l
leave_some [] l some = absurd (omega (arith, some))
leave_some (d ∷ ds) l some = refl

-- the entrances from one statement on
pub entrances_step : (ss : List Stmt) (ps : List ℕ) (i : ℕ) (s : Stmt) (p : ℕ) → i < length ss → i < length ps → s ≡ get_or ss i s → p ≡ get_or ps i p
    → entrances (drop i ss) (drop i ps) ≡ entrance s p ++ entrances (drop (i + 1) ss) (drop (i + 1) ps)
entrances_step [] ps i s p low less a b = absurd (omega (arith, low))
entrances_step (t ∷ ss) [] i s p low less a b = absurd (omega (arith, less))
entrances_step (t ∷ ss) (q ∷ ps) zero s p low less a b = rw a (rw b refl)
entrances_step (t ∷ ss) (q ∷ ps) (suc i) s p low less a b =
    let e : suc i + 1 ≡ suc (i + 1) = omega arith in
    rw e (entrances_step ss ps i s p (omega (arith, low)) (omega (arith, less)) a b)

pub entrances_ended : (ss : List Stmt) (ps : List ℕ) (i : ℕ) → min (length ss) (length ps) ≤ i → entrances (drop i ss) (drop i ps) ≡ []
entrances_ended [] ps zero low = refl
entrances_ended [] ps (suc i) low = refl
entrances_ended (s ∷ ss) [] zero low = refl
entrances_ended (s ∷ ss) [] (suc i) low = past_all (drop i ss)
  where
    past_all : (xs : List Stmt) → entrances xs [] ≡ []
    past_all [] = refl
    past_all (x ∷ xs) = refl
entrances_ended (s ∷ ss) (p ∷ ps) zero low = absurd (omega (arith, low))
entrances_ended (s ∷ ss) (p ∷ ps) (suc i) low = entrances_ended ss ps i (omega (arith, low))

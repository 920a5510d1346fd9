-- Turns are spent: no outcome has more of them than there were, an exit has fewer, and a run is cut off only where none is left.
use Rattle.bk_meaning.proofs.Terms.{◌≡◌, ℕ, zero, suc, ◌+◌, ◌≤◌, Bool, true, false, Option, Some, None, refl, arith, Memory, World, Exit, End, Outcome, gives, leaves, ends, undefined, going, each_way, with, given, either, turn, turn_of, closing, changes, Cause}

abbrev pub IsSpent : {A : Type 0} → ℕ → Outcome A → Type 0
IsSpent n (gives a v) = v.turns ≤ n
IsSpent n (leaves x v) = v.turns + 1 ≤ n
IsSpent n (ends e v) = v.turns ≤ n
IsSpent n (undefined l why v) = Unit {0}
IsSpent n (going l v) = v.turns ≡ 0

-- the same, but an exit may have as many
abbrev pub IsKept : {A : Type 0} → ℕ → Outcome A → Type 0
IsKept n (gives a v) = v.turns ≤ n
IsKept n (leaves x v) = v.turns ≤ n
IsKept n (ends e v) = v.turns ≤ n
IsKept n (undefined l why v) = Unit {0}
IsKept n (going l v) = v.turns ≡ 0

pub record Spent {A : Type 0} (n : ℕ) (u : Outcome A) : Type 0 where
  pub is : IsSpent n u

pub record Kept {A : Type 0} (n : ℕ) (u : Outcome A) : Type 0 where
  pub is : IsKept n u

-- in all worlds with at most d turns
pub record Spends {A : Type 0} (d : ℕ) (go : World → Outcome A) : Type 0 where
  pub at : (w : World) → w.turns ≤ d → Spent w.turns (go w)

pub spends : {A : Type 0} (d : ℕ) (go : World → Outcome A) → ((w : World) → w.turns ≤ d → Spent w.turns (go w)) → Spends d go
spends d go at = record { at = at }

pub spent_more : {A : Type 0} (n k : ℕ) (u : Outcome A) → n ≤ k → Spent n u → Spent k u
spent_more n k (gives a v) le h = let i : v.turns ≤ n = h.is in record { is = omega (arith, i, le) }
spent_more n k (leaves x v) le h = let i : v.turns + 1 ≤ n = h.is in record { is = omega (arith, i, le) }
spent_more n k (ends e v) le h = let i : v.turns ≤ n = h.is in record { is = omega (arith, i, le) }
spent_more n k (undefined l why v) le h = record { is = tt }
spent_more n k (going l v) le h = record { is = h.is }

pub kept : {A : Type 0} (n : ℕ) (u : Outcome A) → Spent n u → Kept n u
kept n (leaves x v) h = let i : v.turns + 1 ≤ n = h.is in record { is = omega (arith, i) }
kept n (undefined l why v) h = record { is = tt }
kept n _ h = record { is = h.is }

-- of an exit
pub record SpendsOut {A : Type 0} (d : ℕ) (out : Exit → World → Outcome A) : Type 0 where
  pub at : (x : Exit) (v : World) (n : ℕ) → v.turns + 1 ≤ n → n ≤ d → Spent n (out x v)

pub each_way_spent : {A B : Type 0} (w : World) (d : ℕ) (u : Outcome A) (on : A → World → Outcome B) (out : Exit → World → Outcome B) → w.turns ≤ d → Spent w.turns u → ((a : A) → Spends d (on a)) → SpendsOut d out → Spent w.turns (each_way on out u)
each_way_spent w d (gives a v) on out le h s x =
    let i : v.turns ≤ w.turns = h.is in
    spent_more v.turns w.turns (on a v) i ((s a).at v (omega (arith, i, le)))
each_way_spent w d (leaves y v) on out le h s x = x.at y v w.turns h.is le
each_way_spent w d (undefined l why v) on out le h s x = record { is = tt }
each_way_spent w d _ on out le h s x = record { is = h.is }

pub leaves_out : {A : Type 0} (d : ℕ) → SpendsOut {A = A} d (λ x w. leaves x w)
leaves_out d = record { at = λ x v n lt le. record { is = lt } }

pub with_spent : {A B : Type 0} (w : World) (d : ℕ) (u : Outcome A) (on : A → World → Outcome B) → w.turns ≤ d → Spent w.turns u → ((a : A) → Spends d (on a)) → Spent w.turns (with u on)
with_spent w d u on le h s = each_way_spent w d u on (λ x w. leaves x w) le h s (leaves_out d)

pub gives_spent : {A : Type 0} (a : A) (w : World) → Spent w.turns (gives a w)
gives_spent a w = record { is = omega arith }

pub undefined_spent : {A : Type 0} {why : Cause} (l : ℕ) (w : World) → Spent {A = A} w.turns (undefined l why w)
undefined_spent l w = record { is = tt }

pub ends_spent : {A : Type 0} (e : End) (w : World) → Spent {A = A} w.turns (ends e w)
ends_spent e w = record { is = omega arith }

pub given_spent : {A : Type 0} (l : ℕ) (why : Cause) (x : Option A) (w : World) → Spent w.turns (given l why x w)
given_spent l why None w = undefined_spent l w
given_spent l why (Some a) w = gives_spent a w

pub either_spent : {A : Type 0} (b : Bool) (d : ℕ) (go other : World → Outcome A) → Spends d go → Spends d other → (w : World) → w.turns ≤ d → Spent w.turns (either b go other w)
either_spent true d go other g h w le = g.at w le
either_spent false d go other g h w le = h.at w le

-- for runs in any world
pub then_spends : {A B : Type 0} {d : ℕ} {go : World → Outcome A} {on : A → World → Outcome B} → Spends d go → ((a : A) → Spends d (on a)) → Spends d (λ w. with (go w) on)
then_spends {d = d} {go} {on} h s = record { at = λ w le. with_spent w d (go w) on le (h.at w le) s }

pub either_spends : {A : Type 0} {d : ℕ} {go other : World → Outcome A} (b : Bool) → Spends d go → Spends d other → Spends d (λ w. either b go other w)
either_spends {d = d} {go} {other} b g h = record { at = λ w le. either_spent b d go other g h w le }

-- a turn, and what keeps the others
pub turn_spent : {A : Type 0} (l : ℕ) (d : ℕ) (go : World → Outcome A) → ((w : World) → w.turns + 1 ≤ d → Kept w.turns (go w)) → (w : World) → w.turns ≤ d → Spent w.turns (turn l w go)
turn_spent {A = A} l d go h w le = at w.turns refl le
  where
    lost : (n : ℕ) (u : Outcome A) → Kept n u → Spent (suc n) u
    lost n (gives a v) k = let i : v.turns ≤ n = k.is in record { is = omega (arith, i) }
    lost n (leaves x v) k = let i : v.turns ≤ n = k.is in record { is = omega (arith, i) }
    lost n (ends e v) k = let i : v.turns ≤ n = k.is in record { is = omega (arith, i) }
    lost n (undefined l why v) k = record { is = tt }
    lost n (going l v) k = record { is = k.is }

    at : (i : ℕ) → w.turns ≡ i → i ≤ d → Spent i (turn_of l i w go)
    at zero is le = record { is = is }
    at (suc i) is le = lost i (go (record w { turns = i })) (h (record w { turns = i }) (omega (arith, le)))

pub closing_spent : {A : Type 0} (w : World) (k : ℕ) (u : Outcome A) → Spent w.turns u → Spent w.turns (closing k u)
closing_spent w k (undefined l why v) h = record { is = tt }
closing_spent w k _ h = record { is = h.is }

pub changes_spent : (l : ℕ) (why : Cause) (m : Option Memory) (w : World) → Spent w.turns (changes l why m w)
changes_spent l why None w = undefined_spent l w
changes_spent l why (Some m) w = record { is = omega arith }

-- Lists of points in which nothing is wrong by itself, and in a procedure no depth past the limit.
use Rattle.bk_scope.proofs.Terms.{◌≡◌, ℕ, ◌+◌, ◌≤◌, Bool, true, false, cond, Option, Some, None, List, [], ◌∷◌, ◌++◌, length, refl, ◌∙◌, arith, nat_lt, max, ltb-false, FRAME_WORDS, Mention, Bound, Constant, Global, Static, Variable, Label, Wrong, frame_too_large, kept, Spot, Point, meaning, word, depth, wrong, claim, at, deepest, without_depths, unless, at_most, its_meaning, its_global, each_of, inside_procedure, procedure, NoWrong, FrameSound}

abbrev pub AllSafe : ℕ → List Point → Type 0
AllSafe k [] = Unit {0}
AllSafe k (wrong f ∷ xs) = ⊥
AllSafe k (depth m ∷ xs) = (1 ≤ k → m ≤ FRAME_WORDS) × AllSafe k xs
AllSafe k (_ ∷ xs) = AllSafe k xs

-- told in procedure k
pub record Safe (k : ℕ) (xs : List Point) : Type 0 where
  pub all : AllSafe k xs

first_all : (k : ℕ) (xs ys : List Point) → AllSafe k (xs ++ ys) → AllSafe k xs
first_all k [] ys h = tt
first_all k (wrong f ∷ xs) ys h = absurd h
first_all k (depth m ∷ xs) ys h = (h.0, first_all k xs ys h.1)
first_all k (_ ∷ xs) ys h = first_all k xs ys h

second_all : (k : ℕ) (xs ys : List Point) → AllSafe k (xs ++ ys) → AllSafe k ys
second_all k [] ys h = h
second_all k (wrong f ∷ xs) ys h = absurd h
second_all k (depth m ∷ xs) ys h = second_all k xs ys h.1
second_all k (_ ∷ xs) ys h = second_all k xs ys h

pub in_first : {k : ℕ} (xs ys : List Point) → Safe k (xs ++ ys) → Safe k xs
in_first {k = k} xs ys h = record { all = first_all k xs ys h.all }

pub in_second : {k : ℕ} (xs ys : List Point) → Safe k (xs ++ ys) → Safe k ys
in_second {k = k} xs ys h = record { all = second_all k xs ys h.all }

-- the parts of what is told
pub in_both : {k : ℕ} (xs ys : List Point) → Safe k (xs ++ ys) → Safe k xs × Safe k ys
in_both xs ys h = (in_first xs ys h, in_second xs ys h)

pub in_three : {k : ℕ} (xs ys zs : List Point) → Safe k (xs ++ ys ++ zs) → Safe k xs × Safe k ys × Safe k zs
in_three xs ys zs h = let i = in_both xs ys (in_first (xs ++ ys) zs h) in (i.0, i.1, in_second (xs ++ ys) zs h)

pub unless_true : {k : ℕ} (b : Bool) (n l : ℕ) (w : Wrong) → Safe k (unless b (at n l w)) → b ≡ true
unless_true true n l w h = refl
unless_true false n l w h = absurd h.all

pub when_false : {k : ℕ} (b : Bool) (n l : ℕ) (w : Wrong) → Safe k (cond b (at n l w) []) → b ≡ false
when_false false n l w h = refl
when_false true n l w h = absurd h.all

pub bounded_safe : {k : ℕ} (most n l : ℕ) (w : Wrong) (v : ℕ) → Safe k (at_most most n l w (Some v)) → v ≤ most
bounded_safe most n l w v h = ltb-false most v (when_false (nat_lt most v) n l w h)

-- a procedure: its frame is within the limit, and its body is safe
grows : (xs : List Point) (d : ℕ) → d ≤ deepest d xs
grows [] d = omega arith
grows (depth m ∷ xs) d = omega (arith, grows xs (max d (kept m)))
grows (_ ∷ xs) d = grows xs d

-- the depths at which a frame begins
pub begins_within : (xs : List Point) (d : ℕ) → deepest d xs ≤ FRAME_WORDS → d ≤ FRAME_WORDS
begins_within xs d h = omega (arith, grows xs d, h)

all_flat : (k j : ℕ) (xs : List Point) (d : ℕ) → AllSafe j (without_depths xs) → deepest d xs ≤ FRAME_WORDS → AllSafe k xs
all_flat k j [] d h e = tt
all_flat k j (depth m ∷ xs) d h e = ((λ t. omega (arith, grows xs (max d (kept m)), e)), all_flat k j xs (max d (kept m)) h e)
all_flat k j (wrong f ∷ xs) d h e = absurd h
all_flat k j (_ ∷ xs) d h e = all_flat k j xs d h e

meaning_all : (j : ℕ) (y : Option Bound) (xs : List Point) → AllSafe j (its_meaning y ++ xs) → AllSafe j xs
meaning_all j None xs h = h
meaning_all j (Some b) xs h = h

global_deepest : (n l : ℕ) (x : List ℕ) (y : Option Bound) (xs : List Point) (d : ℕ) → deepest d (its_global n l x y ++ xs) ≡ deepest d xs
global_deepest n l x (Some (Global None)) xs d = refl
global_deepest n l x (Some (Global (Some g))) xs d = refl
global_deepest n l x _ xs d = refl

names_deepest : (m n : ℕ) (fs : List Mention) (xs : List Point) (d : ℕ) → deepest d (each_of m n fs ++ xs) ≡ deepest d xs
names_deepest m n [] xs d = refl
names_deepest m n (x ∷ fs) xs d = names_deepest m (n + 1) fs xs d

frame_safe : (j n l d : ℕ) (q : Bool) (xs : List Point) → nat_lt FRAME_WORDS d ≡ q → AllSafe j (cond q (at n l frame_too_large) [] ++ xs) → (d ≤ FRAME_WORDS) × AllSafe j xs
frame_safe j n l d true xs e h = absurd h
frame_safe j n l d false xs e h = (ltb-false FRAME_WORDS d e, h)

pub procedure_safe : (j m k : ℕ) (s : Spot) (l : ℕ) (x : List ℕ) (fs : List Mention) (y : Option Bound) (body : List Point) → Safe j (procedure m k s l x fs y body) → FrameSound (length fs) body × Safe k body
procedure_safe j m k s l x fs y body h =
    let xs : List Point = inside_procedure k s l x fs y body in
    let d : ℕ = deepest (kept (length fs + 2)) xs in
    let r : (d ≤ FRAME_WORDS) × AllSafe j (its_meaning y ++ without_depths xs) = frame_safe j s.place l d (nat_lt FRAME_WORDS d) (its_meaning y ++ without_depths xs) refl h.all in
    let same : d ≡ deepest (kept (length fs + 2)) body = global_deepest s.place l x y (each_of k (s.place + 1) fs ++ body) (kept (length fs + 2)) ∙ names_deepest k (s.place + 1) fs body (kept (length fs + 2)) in
    let all : AllSafe k xs = all_flat k j xs (kept (length fs + 2)) (meaning_all j y (without_depths xs) r.1) r.0 in
    (omega (arith, same, r.0), record { all = second_all k (each_of k (s.place + 1) fs) body (second_all k (its_global s.place l x y) (each_of k (s.place + 1) fs ++ body) all) })

-- nothing is wrong outside procedures
no_depths : (xs : List Point) → NoWrong xs → AllSafe 0 xs
no_depths [] h = tt
no_depths (wrong f ∷ xs) h = absurd h
no_depths (depth m ∷ xs) h = ((λ t. absurd (omega (arith, t))), no_depths xs h)
no_depths (_ ∷ xs) h = no_depths xs h

pub safe_outside : (xs : List Point) → NoWrong xs → Safe 0 xs
safe_outside xs h = record { all = no_depths xs h }

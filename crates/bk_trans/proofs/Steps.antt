-- Statements of a procedure one behind another, from one depth to another, and each statement that the scheme gives by itself.
use Rattle.bk_trans.proofs.Terms.{Operator as o, Prefix as q, Bound as b, Variable as v, Monadic as MonadicOperator, Dyadic as DyadicOperator, Dyadic as two, Stmt as t, Goal, Target, variable, push, prefix_code, infix_code, truth_value, go, test_of_step}
use Rattle.bk_ocode.specs.Depth.{next_depth}
use Rattle.bk_ocode.specs.Typing as typing
use Rattle.bk_trans.proofs.Good.{IsGoal, Pushed, Held, arith, ◌≡◌, ℕ, ◌+◌, ◌-◌, ◌≤◌, Bool, true, false, cond, List, [], ◌∷◌, ◌++◌, length, ℤ, int_lt, pos, refl, sym, subst, Some, None, length-take, FRAME_WORDS, NAME_BYTES, signed, first_bytes, Operator, Prefix, Bound, Stmt, IsLabel, IsDepth, Use, jumps, results, Standing, body, Fits, Typed, done, enters, goes, lands, takes, returns, gives, begins, points, ends}

-- one stretch behind another
pub typed_then : {plan : ℕ → Use} {a : Standing} {xs : List Stmt} {b : Standing} {ys : List Stmt} {c : Standing} → Typed plan a xs b → Typed plan b ys c → Typed plan a (xs ++ ys) c
typed_then done h = h
typed_then (enters e range depth more) h = enters e range depth (typed_then more h)
typed_then (goes fits more) h = goes fits (typed_then more h)
typed_then (lands e range more) h = lands e range (typed_then more h)
typed_then (takes e range slot low high more) h = takes e range slot low high (typed_then more h)
typed_then (returns more) h = returns (typed_then more h)
typed_then (gives deep more) h = gives deep (typed_then more h)
typed_then (begins e range more) h = begins e range (typed_then more h)
typed_then (typing.holds more) h = typing.holds (typed_then more h)
typed_then (points e range more) h = points e range (typed_then more h)
typed_then (ends range own more) h = ends range own (typed_then more h)

abbrev pub Steps : (ℕ → Use) → ℕ → ℕ → List Stmt → ℕ → Type 0
Steps plan p k xs m = Typed plan (body p k) xs (body p m)

pub append : {plan : ℕ → Use} {p k m j : ℕ} {xs ys : List Stmt} → Steps plan p k xs m → Steps plan p m ys j → Steps plan p k (xs ++ ys) j
append x y = typed_then x y

pub step : {plan : ℕ → Use} {p k j : ℕ} {rest : List Stmt} (m : ℕ) (s : Stmt) → Fits plan p k s → next_depth k s ≡ m → Steps plan p m rest j → Steps plan p k (s ∷ rest) j
step {plan} {p} {k} {j} {rest} m s fits e more = goes fits (subst (λ (x : ℕ). Steps plan p x rest j) (sym e) more)

pub last : {plan : ℕ → Use} {p k : ℕ} (m : ℕ) (s : Stmt) → Fits plan p k s → next_depth k s ≡ m → Steps plan p k (s ∷ []) m
last m s fits e = step m s fits e done

-- each statement by itself
pub fits_number : (plan : ℕ → Use) (p k : ℕ) (z : ℤ) → k + 1 ≤ FRAME_WORDS → Fits plan p k (t.Number z)
fits_number plan p k z high = record { placed = refl; ranged = tt; deep = omega arith; shallow = high; agrees = tt }

pub fits_truth : (plan : ℕ → Use) (p k : ℕ) (x : Bool) → k + 1 ≤ FRAME_WORDS → Fits plan p k (truth_value x)
fits_truth plan p k true high = record { placed = refl; ranged = tt; deep = omega arith; shallow = high; agrees = tt }
fits_truth plan p k false high = record { placed = refl; ranged = tt; deep = omega arith; shallow = high; agrees = tt }

pub next_truth : (k : ℕ) (x : Bool) → next_depth k (truth_value x) ≡ k + 1
next_truth k true = refl
next_truth k false = refl

pub short_bytes : (xs : List ℕ) → length (first_bytes xs) ≤ NAME_BYTES
short_bytes xs = let h = length-take NAME_BYTES xs in omega (arith, h)

-- words of the frame
pub fits_local : (plan : ℕ → Use) (p k i : ℕ) → 2 ≤ i → i + 1 ≤ k → k + 1 ≤ FRAME_WORDS → Fits plan p k (t.Load (v.Local i))
fits_local plan p k i low below high = record { placed = refl; ranged = (low, omega (arith, below, high)); deep = below; shallow = high; agrees = tt }

pub fits_push : (plan : ℕ → Use) (ts : List Target) (p k : ℕ) (x : Bound) → Pushed plan ts k x → k + 1 ≤ FRAME_WORDS → Fits plan p k (push ts x)
fits_push plan ts p k (b.Constant None) h high = fits_number plan p k (pos 0) high
fits_push plan ts p k (b.Constant (Some w)) h high = fits_number plan p k (signed w) high
fits_push plan ts p k (b.Global (Some g)) h high = record { placed = refl; ranged = h; deep = omega arith; shallow = high; agrees = tt }
fits_push plan ts p k (b.Static m) h high = record { placed = refl; ranged = h.1; deep = omega arith; shallow = high; agrees = h.0 }
fits_push plan ts p k (b.Variable j i) h high = fits_local plan p k i h.0 h.1 high
fits_push plan ts p k _ h high = elim h [ ]

pub next_push : (ts : List Target) (k : ℕ) (x : Bound) → next_depth k (push ts x) ≡ k + 1
next_push ts k (b.Constant None) = refl
next_push ts k _ = refl

pub fits_address : (plan : ℕ → Use) (ts : List Target) (p k : ℕ) (x : Bound) → Held plan ts k x → k + 1 ≤ FRAME_WORDS → Fits plan p k (t.Address (variable ts x))
fits_address plan ts p k (b.Global (Some g)) h high = record { placed = refl; ranged = h; deep = omega arith; shallow = high; agrees = tt }
fits_address plan ts p k (b.Static m) h high = record { placed = refl; ranged = h.1; deep = omega arith; shallow = high; agrees = h.0 }
fits_address plan ts p k (b.Variable j i) h high = record { placed = refl; ranged = (h.0, omega (arith, h, high)); deep = h.1; shallow = high; agrees = tt }
fits_address plan ts p k _ h high = elim h [ ]

-- the value is above
pub fits_assign : (plan : ℕ → Use) (ts : List Target) (p k : ℕ) (x : Bound) → Held plan ts k x → 2 ≤ k → k + 1 ≤ FRAME_WORDS → Fits plan p (k + 1) (t.Assign (variable ts x))
fits_assign plan ts p k (b.Global (Some g)) h low high = record { placed = refl; ranged = h; deep = omega (arith, low); shallow = omega (arith, high); agrees = tt }
fits_assign plan ts p k (b.Static m) h low high = record { placed = refl; ranged = h.1; deep = omega (arith, low); shallow = omega (arith, high); agrees = h.0 }
fits_assign plan ts p k (b.Variable j i) h low high = record { placed = refl; ranged = (h.0, omega (arith, h, high)); deep = omega (arith, h); shallow = omega (arith, high); agrees = tt }
fits_assign plan ts p k _ h low high = elim h [ ]

-- on items
pub fits_monadic : (plan : ℕ → Use) (p k : ℕ) (f : MonadicOperator) → 3 ≤ k → k ≤ FRAME_WORDS → Fits plan p k (t.Monadic f)
fits_monadic plan p k f low high = record { placed = refl; ranged = tt; deep = low; shallow = high; agrees = tt }

pub fits_dyadic : (plan : ℕ → Use) (p k : ℕ) (f : DyadicOperator) → 4 ≤ k → k ≤ FRAME_WORDS → Fits plan p k (t.Dyadic f)
fits_dyadic plan p k f low high = record { placed = refl; ranged = tt; deep = low; shallow = omega (arith, high); agrees = tt }

pub fits_assign_at : (plan : ℕ → Use) (p k : ℕ) → 4 ≤ k → k ≤ FRAME_WORDS → Fits plan p k t.AssignAt
fits_assign_at plan p k low high = record { placed = refl; ranged = tt; deep = low; shallow = omega (arith, high); agrees = tt }

pub fits_assign_byte : (plan : ℕ → Use) (p k : ℕ) → 5 ≤ k → k ≤ FRAME_WORDS → Fits plan p k t.AssignByte
fits_assign_byte plan p k low high = record { placed = refl; ranged = tt; deep = low; shallow = omega (arith, high); agrees = tt }

-- jumps
pub fits_jump : (plan : ℕ → Use) (p k l : ℕ) → plan l ≡ jumps p k → IsLabel l → k ≤ FRAME_WORDS → Fits plan p k (t.Jump l)
fits_jump plan p k l e range high = record { placed = refl; ranged = range; deep = omega arith; shallow = high; agrees = e }

pub back : (s : ℕ) → s + 1 - 1 ≡ s
back s = omega arith

pub fits_jump_if : (plan : ℕ → Use) (p s : ℕ) (x : Bool) (l : ℕ) → plan l ≡ jumps p s → IsLabel l → 2 ≤ s → s + 1 ≤ FRAME_WORDS → Fits plan p (s + 1) (t.JumpIf x l)
fits_jump_if plan p s x l e range low high =
    record { placed = refl; ranged = range; deep = omega (arith, low); shallow = omega (arith, high); agrees = subst (λ (y : ℕ). plan l ≡ jumps p y) (sym (back s)) e }

pub fits_give : (plan : ℕ → Use) (p s d : ℕ) (l : ℕ) → plan l ≡ results p d → d ≤ s → IsLabel l → 2 ≤ s → s + 1 ≤ FRAME_WORDS → Fits plan p (s + 1) (t.GiveResult l)
fits_give plan p s d l e below range low high =
    record { placed = refl; ranged = range; deep = omega (arith, low); shallow = omega (arith, high); agrees = (d, e, omega (arith, below)) }

pub fits_stack : (plan : ℕ → Use) (p k d : ℕ) → IsDepth d → Fits plan p k (t.Stack d)
fits_stack plan p k d range = record { placed = refl; ranged = range; deep = omega arith; shallow = range.1; agrees = tt }

-- the test of a FOR
pub fits_test : (plan : ℕ → Use) (p k : ℕ) (j : ℕ) → 4 ≤ k → k ≤ FRAME_WORDS → Fits plan p k (test_of_step j)
fits_test plan p k j low high = pick (int_lt (signed j) (pos 0))
  where
    pick : (x : Bool) → Fits plan p k (cond x (t.Dyadic two.AtLeast) (t.Dyadic two.AtMost))
    pick true = fits_dyadic plan p k two.AtLeast low high
    pick false = fits_dyadic plan p k two.AtMost low high

pub next_test : (k j : ℕ) → next_depth k (test_of_step j) ≡ k - 1
next_test k j = pick (int_lt (signed j) (pos 0))
  where
    pick : (x : Bool) → next_depth k (cond x (t.Dyadic two.AtLeast) (t.Dyadic two.AtMost)) ≡ k - 1
    pick true = refl
    pick false = refl

-- operators
pub prefix_steps : (plan : ℕ → Use) (p s : ℕ) → 2 ≤ s → s + 1 ≤ FRAME_WORDS → (f : Prefix) → Steps plan p (s + 1) (prefix_code f) (s + 1)
prefix_steps plan p s low high q.Contents = last (s + 1) _ (fits_monadic plan p (s + 1) _ (omega (arith, low)) high) refl
prefix_steps plan p s low high q.Plus = done
prefix_steps plan p s low high q.Address = done
prefix_steps plan p s low high _ = last (s + 1) _ (fits_monadic plan p (s + 1) _ (omega (arith, low)) high) refl

pub dyadic_steps : (plan : ℕ → Use) (p s : ℕ) → 2 ≤ s → s + 1 + 1 ≤ FRAME_WORDS → (f : DyadicOperator) → Steps plan p (s + 1 + 1) (t.Dyadic f ∷ []) (s + 1)
dyadic_steps plan p s low high f = last (s + 1) (t.Dyadic f) (fits_dyadic plan p (s + 1 + 1) f (omega (arith, low)) high) (omega arith)

pub infix_steps : (plan : ℕ → Use) (p s : ℕ) → 2 ≤ s → s + 1 + 1 ≤ FRAME_WORDS → (f : Operator) → Steps plan p (s + 1 + 1) (infix_code f) (s + 1)
infix_steps plan p s low high o.Subscript =
    step (s + 1) (t.Dyadic two.Add) (fits_dyadic plan p (s + 1 + 1) two.Add (omega (arith, low)) high) (omega arith)
    (last (s + 1) _ (fits_monadic plan p (s + 1) _ (omega (arith, low)) (omega (arith, high))) refl)
infix_steps plan p s low high o.Byte = last (s + 1) t.LoadByte (record { placed = refl; ranged = tt; deep = omega (arith, low); shallow = omega (arith, high); agrees = tt }) (omega arith)
infix_steps plan p s low high _ = dyadic_steps plan p s low high _

-- to a label, and back to the depth of the text
pub go_steps : (plan : ℕ → Use) (p s : ℕ) (g : Goal) → IsGoal plan p g → 2 ≤ s → s ≤ FRAME_WORDS → Steps plan p s (go g s) s
go_steps plan p s g h low high =
    step g.depth (t.Stack g.depth) (fits_stack plan p s g.depth h.2) refl (step g.depth (t.Jump g.label) (fits_jump plan p g.depth g.label h.0 h.1 h.2.1) refl
    (last s (t.Stack s) (fits_stack plan p g.depth s (low, high)) refl))

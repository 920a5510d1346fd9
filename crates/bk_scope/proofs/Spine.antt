-- Where an expression begins with a name that is wrong, that comes before all else there, and before `not assignable`.
use Rattle.bk_scope.proofs.Terms.{◌≡◌, ℕ, ◌+◌, ◌*◌, ◌<◌, ◌==◌, Bool, true, false, cond, not, Option, Some, None, List, [], ◌∷◌, ◌++◌, refl, sym, ap, subst, arith, nat_lt, eqb-true, eqb-false, lt-ltb, ltb-true, false≢true, Expression, name, number, text, truth, query, parens, unary, binary, choice, apply, valof, table, size, Bound, Constant, Global, Static, Variable, Label, Enclosing, Role, Value, Truth, Binding, bound_in, not_assignable, Claim, deeper, is_usable, begins_wrong, role_of_operands, Spot, past, following, Fault, Point, number_of, comes_before, put, in_order, judged, claims_after, first_reported, used_at, depth_named, reported}
use Rattle.bk_scope.proofs.Lists.{key, below_32, judged_append}

-- the first of some faults stands at this place, with a number below that of `not assignable`
pub record Early (n : ℕ) (fs : List Fault) : Type 0 where
  pub one : Fault
  pub rest : List Fault
  pub are : fs ≡ one ∷ rest
  pub early : key one < 32 * n + 27

early_more : (n : ℕ) (fs gs : List Fault) → Early n fs → Early n (fs ++ gs)
early_more n fs gs h = record { one = h.one; rest = h.rest ++ gs; are = ap (λ l. l ++ gs) h.are; early = h.early }

early_before : (n : ℕ) (cs : List Claim) (xs ys : List Point) → Early n (judged cs xs) → Early n (judged cs (xs ++ ys))
early_before n cs xs ys h = subst (Early n) (sym (judged_append xs ys cs)) (early_more n (judged cs xs) (judged (claims_after cs xs) ys) h)

variable_early : (b : Bool) (k n l : ℕ) (x : List ℕ) (j d : ℕ) (us : List Point) (cs : List Claim) → (j == k) ≡ b → not b ≡ true → Early n (judged cs (used_at k n l x (Some (Variable j d)) ++ us))
variable_early true k n l x j d us cs e h = absurd (false≢true h)
variable_early false k n l x j d us cs e h = rw e (record { one = _; rest = _; are = refl; early = omega arith })

name_early : (y : Option Bound) (k n l : ℕ) (x : List ℕ) (us : List Point) (cs : List Claim) → not (is_usable k y) ≡ true → Early n (judged cs (used_at k n l x y ++ us))
name_early None k n l x us cs h = record { one = _; rest = _; are = refl; early = omega arith }
name_early (Some (Label j m)) k n l x us cs h = record { one = _; rest = _; are = refl; early = omega arith }
name_early (Some (Variable j d)) k n l x us cs h = variable_early (j == k) k n l x j d us cs refl h
name_early (Some _) k n l x us cs h = absurd (false≢true h)

pub begins_early : (e : Expression) (r : Role) (bs : List Binding) (p : Enclosing) (s : Spot) (cs : List Claim) → begins_wrong bs p.procedure e ≡ true → Early s.place (judged cs (reported r bs p s e))
begins_early (name l x) r bs p s cs h = name_early (bound_in bs x) p.procedure s.place l x (depth_named r p (bound_in bs x)) cs h
begins_early (binary l q m a b) r bs p s cs h = early_before s.place cs (reported (role_of_operands q r) bs p s a) _ (begins_early a (role_of_operands q r) bs p s cs h)
begins_early (choice l m c a b) r bs p s cs h = grind (arith, early_before, reported, past, following, (begins_early c Truth bs p s cs h))
begins_early (apply l m a es) r bs p s cs h = early_before s.place cs (reported Value bs (deeper (size es + 2) p) s a) _ (begins_early a Value bs (deeper (size es + 2) p) s cs h)
begins_early _ r bs p s cs h = absurd (false≢true h)

-- in order
before_by : (q : Bool) (f g : Fault) → (f.place == g.place) ≡ q → key f < key g → cond q (nat_lt (number_of f.wrong) (number_of g.wrong)) (nat_lt f.place g.place) ≡ true
before_by true f g e h = lt-ltb (number_of f.wrong) (number_of g.wrong) (omega (arith, eqb-true f.place g.place e, h))
before_by false f g e h = lt-ltb f.place g.place (nearer (λ s. eqb-false f.place g.place e s)) where
  nearer : ((f.place ≡ g.place) → ⊥) → f.place < g.place
  nearer ne = omega (arith, ne, h, below_32 f.wrong, below_32 g.wrong)

before : (f g : Fault) → key f < key g → comes_before f g ≡ true
before f g h = before_by (f.place == g.place) f g refl h

back_by : (q : Bool) (f g : Fault) → (f.place == g.place) ≡ q → cond q (nat_lt (number_of f.wrong) (number_of g.wrong)) (nat_lt f.place g.place) ≡ true → key f < key g
back_by true f g e h = omega (arith, eqb-true f.place g.place e, ltb-true (number_of f.wrong) (number_of g.wrong) h)
back_by false f g e h = omega (arith, ltb-true f.place g.place h, below_32 f.wrong, below_32 g.wrong)

put_early : (b : Bool) (n : ℕ) (f g : Fault) (gs hs : List Fault) → comes_before g f ≡ b → key f < 32 * n + 27 → Early n (cond b (g ∷ hs) (f ∷ (g ∷ gs)))
put_early true n f g gs hs e h = record { one = g; rest = hs; are = refl; early = omega (arith, back_by (g.place == f.place) g f refl e, h) }
put_early false n f g gs hs e h = record { one = f; rest = g ∷ gs; are = refl; early = h }

put_is_early : (n : ℕ) (f : Fault) (fs : List Fault) → key f < 32 * n + 27 → Early n (put f fs)
put_is_early n f [] h = record { one = f; rest = []; are = refl; early = h }
put_is_early n f (g ∷ gs) h = put_early (comes_before g f) n f g gs (put f gs) refl h

order_early : (n : ℕ) (fs : List Fault) → Early n fs → Early n (in_order fs)
order_early n fs h = subst (λ gs. Early n (in_order gs)) (sym h.are) (put_is_early n h.one (in_order h.rest) h.early)

behind_early : (n l : ℕ) (fs : List Fault) → Early n fs → first_reported (put (record { place = n; at = l; wrong = not_assignable }) fs) ≡ first_reported fs
behind_early n l fs h =
    let f : Fault = record { place = n; at = l; wrong = not_assignable } in
    subst (λ gs. first_reported (put f gs) ≡ first_reported gs) (sym h.are) (rw (before h.one f (omega (arith, h.early))) refl)

-- WHAT BEGINS WITH A WRONG NAME: that name is told
pub not_assignable_behind : (e : Expression) (l : ℕ) (r : Role) (bs : List Binding) (p : Enclosing) (s : Spot) (cs : List Claim) → begins_wrong bs p.procedure e ≡ true
    → first_reported (in_order (record { place = s.place; at = l; wrong = not_assignable } ∷ judged cs (reported r bs p s e))) ≡ first_reported (in_order (judged cs (reported r bs p s e)))
not_assignable_behind e l r bs p s cs h = behind_early s.place l (in_order (judged cs (reported r bs p s e))) (order_early s.place (judged cs (reported r bs p s e)) (begins_early e r bs p s cs h))

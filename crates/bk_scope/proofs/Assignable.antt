-- The pass and what is told, where a word is asked for: that an expression has none is told in front of it.
use Rattle.bk_scope.proofs.Terms.{◌≡◌, ℕ, ◌+◌, ◌<◌, ◌==◌, Bool, true, false, cond, not, Option, Some, None, List, [], ◌∷◌, ◌++◌, length, ◌≤◌, refl, sym, ap, ◌∙◌, subst, arith, false≢true, Expression, name, number, text, truth, query, parens, unary, binary, choice, apply, valof, table, size, Bound, Constant, Global, Static, Variable, Label, Enclosing, Role, Value, Truth, Binding, bound_in, not_assignable, dynamic_name, text_of, Found, else_first, breaks, deeper, labelled, valued, labels_of, labels_in_scope, is_usable, begins_wrong, unassignable, parenthesised, role_of_operand, role_of_operands, place_of_second, Spot, onward, past, following, symbols, symbols_each, symbols_done, Point, at, meaning, used_at, reported}
use Rattle.bk_scope.proofs.Tied.{Tied, Spans, broken, both, among, wider, behind_it}
use Rattle.bk_scope.proofs.Constants.{at_spans, each_constant_spans}
use Rattle.bk_scope.proofs.Spine.{not_assignable_behind}
use Rattle.bk_scope.proofs.Scopes.{recount, pushed_spans}
use Rattle.bk_scope.proofs.Standing.{prefixed_spans, done_inside, has_symbol, inside, each_inside, depth_spans}

-- a name with which nothing is wrong tells no fault
usable_late : (k n l i j : ℕ) (x : List ℕ) (y : Option Bound) → not (is_usable k y) ≡ false → Spans i j (used_at k n l x y)
usable_late k n l i j x None h = absurd (false≢true (sym h))
usable_late k n l i j x (Some (Label q m)) h = absurd (false≢true (sym h))
usable_late k n l i j x (Some (Variable q d)) h = variable_usable (q == k) h where
  variable_usable : (b : Bool) → not b ≡ false → Spans i j (cond b (meaning (Variable q d) ∷ []) (at n l (dynamic_name (text_of x))))
  variable_usable true e = record { inside = tt }
  variable_usable false e = absurd (false≢true (sym e))
usable_late k n l i j x (Some _) h = record { inside = tt }

-- WHAT BEGINS WITH NO WRONG NAME: nothing is told at its first symbol
pub late : (e : Expression) (r : Role) (bs : List Binding) (p : Enclosing) (s : Spot) → begins_wrong bs p.procedure e ≡ false → Spans (s.place + 1) (s.place + symbols e) (reported r bs p s e)
late (name l x) r bs p s h = among (usable_late p.procedure s.place l (s.place + 1) (s.place + 1) x (bound_in bs x) h) (depth_spans r (s.place + 1) p (bound_in bs x))
late (parens l e) r bs p s h = wider _ _ (inside e (parenthesised r) bs p (past 1 s)) (omega arith) (omega arith)
late (unary l f e) r bs p s h = grind (arith, symbols, has_symbol, wider, past, inside)
late (binary l f m a b) r bs p s h = grind (arith, symbols, has_symbol, wider, both, inside, past, following, (late a (role_of_operands f r) bs p s h))
late (choice l m c a b) r bs p s h = grind (arith, symbols, has_symbol, past, following, wider, both, inside, (late c Truth bs p s h))
late (apply l m e es) r bs p s h =
    let one : 1 ≤ symbols e = has_symbol e in
    wider _ _ (both (late e Value bs (deeper (size es + 2) p) s h) (each_inside es 1 bs (deeper 2 p) (past 1 (following e s))) (omega arith) (omega arith)) (omega arith) (omega arith)
late (valof l c) r bs p s h =
    let u : Spot = onward 1 (1 + length (labels_of c)) s in
    wider _ _ (both (done_inside c (labels_in_scope p.procedure (s.number + 1) (labels_of c) bs) (labelled s.number (valued p)) u) (pushed_spans (u.place + symbols_done c) p 1) (omega arith) (omega arith)) (omega arith) (omega arith)
late (table l es) r bs p s h =
    wider _ _ (both (each_constant_spans es bs p.procedure (past 1 s)) (pushed_spans (s.place + 1 + symbols_each es) p 1) (omega arith) (omega arith)) (omega arith) (omega arith)
late _ r bs p s h = record { inside = tt }

-- n is the place of the first symbol: that of a parenthesis around, or the expression's own
abbrev pub Begins : Bool → ℕ → ℕ → Type 0
Begins true n m = n < m
Begins false n m = n ≡ m

-- told in front
in_front : {i m : ℕ} {xs : List Point} {f h : Found} (n l : ℕ) → Spans (n + 1) m xs → Tied xs i (breaks l not_assignable f) h → Tied (at n l not_assignable ++ xs) i f h
in_front {i = i} {f = f} n l a t = recount i (behind_it (at_spans n l not_assignable) a (omega arith) (broken n l f) t) (omega arith)

-- what begins with a wrong name hides it
hidden : (e : Expression) (r : Role) (bs : List Binding) (p : Enclosing) (s : Spot) (l i : ℕ) (f h : Found) → begins_wrong bs p.procedure e ≡ true → Tied (reported r bs p s e) i f h → Tied (at s.place l not_assignable ++ reported r bs p s e) i f h
hidden e r bs p s l i f h b t = record { first = t.first ∙ ap (else_first f.first) (sym (not_assignable_behind e l r bs p s f.claims b)); claims = t.claims; meanings = t.meanings; words = t.words; next = t.next; deepest = t.deepest }

-- NOT ASSIGNABLE
pub unassignable_tied : (b : Bool) (e : Expression) (r : Role) (bs : List Binding) (p : Enclosing) (s : Spot) (n l i : ℕ) (f : Found) (g : Found → Found) → Begins b n s.place
    → ((h : Found) → h.next ≡ s.number → Tied (reported r bs p s e) i h (g h)) → f.next ≡ s.number → Tied (at n l not_assignable ++ reported r bs p s e) i f (g (unassignable bs p.procedure b l e f))
unassignable_tied true e r bs p s n l i f g h t a = in_front n l (wider (n + 1) (s.place + symbols e) (inside e r bs p s) (omega (arith, h)) (omega arith)) (t (breaks l not_assignable f) a)
unassignable_tied false e r bs p s n l i f g h t a =
    subst (λ m. Tied (at m l not_assignable ++ reported r bs p s e) i f (g (unassignable bs p.procedure false l e f))) (sym h) (by (begins_wrong bs p.procedure e) refl)
  where
    by : (q : Bool) → begins_wrong bs p.procedure e ≡ q → Tied (at s.place l not_assignable ++ reported r bs p s e) i f (g (cond q f (breaks l not_assignable f)))
    by true z = hidden e r bs p s l i f (g f) z (t f a)
    by false z = in_front s.place l (late e r bs p s z) (t (breaks l not_assignable f) a)

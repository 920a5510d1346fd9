-- The pass and what is told, where a constant is asked for.
use Rattle.bk_scope.proofs.Terms.{◌≡◌, ℕ, ◌+◌, ◌*◌, ◌≤◌, ◌==◌, Bool, true, false, cond, Option, Some, None, List, [], ◌∷◌, ◌++◌, refl, sym, ap, ◌∙◌, append_assoc, subst, arith, nat_lt, append-nil, none-some, eq-eqb, false≢true, le-ltb, ltb-true, Operator, Operator as o, Expression, Expressions, name, number, text, truth, query, parens, unary, binary, choice, apply, valof, table, none, more, Bound, Constant, Global, Static, Variable, Label, Binding, bound_in, Wrong, Breach, dynamic_name, not_constant, divided_by_zero, label_not_here, text_of, named_word, constant_word, is_prefix_of_constants, is_infix_of_constants, divides, divides_by_zero, wrong_name, wrongs, Found, Claim, first_of, else_first, breaks_first, holds, constant_found, constants_found, Spot, past, after_constant, symbols, symbols_each, Point, meaning, word, depth, wrong, claim, at, claims_after, judged, in_order, first_reported, meanings_of, words_of, deepest, number_of, unless, constant_name, constant_wrongs, constant_wrongs_each, its_word, constant, each_constant}
use Rattle.bk_scope.proofs.Firsts.{first_of-append}
use Rattle.bk_scope.proofs.Worded.{prefix_right, infix_right}
use Rattle.bk_scope.proofs.Lists.{below_32, inside_wider, first_of_both, claims_append, meanings_append, words_append, deepest_append}
use Rattle.bk_scope.proofs.Tied.{Tied, Spans, both, among, wider, behind_it, else_none, nothing_told}
use Rattle.bk_scope.proofs.Scopes.{recount, no_span}

-- these points say only what is wrong
pub record Silent (xs : List Point) : Type 0 where
  claims_so : (cs : List Claim) → claims_after cs xs ≡ cs
  meanings_so : meanings_of xs ≡ []
  words_so : words_of xs ≡ []
  deepest_so : (d : ℕ) → deepest d xs ≡ d

silent_both : {xs ys : List Point} → Silent xs → Silent ys → Silent (xs ++ ys)
silent_both {xs} {ys} h g = record {
  claims_so = λ cs. claims_append xs ys cs ∙ ap (λ c. claims_after c ys) (h.claims_so cs) ∙ g.claims_so cs;
  meanings_so = meanings_append xs ys ∙ ap (λ c. c ++ meanings_of ys) h.meanings_so ∙ g.meanings_so;
  words_so = words_append xs ys ∙ ap (λ c. c ++ words_of ys) h.words_so ∙ g.words_so;
  deepest_so = λ d. deepest_append xs ys d ∙ ap (λ c. deepest c ys) (h.deepest_so d) ∙ g.deepest_so d;
}

none_silent : Silent []
none_silent = record { claims_so = λ cs. refl; meanings_so = refl; words_so = refl; deepest_so = λ d. refl }

at_silent : (n l : ℕ) (w : Wrong) → Silent (at n l w)
at_silent n l w = record { claims_so = λ cs. refl; meanings_so = refl; words_so = refl; deepest_so = λ d. refl }

unless_silent : (b : Bool) (n l : ℕ) (w : Wrong) → Silent (unless b (at n l w))
unless_silent true n l w = none_silent
unless_silent false n l w = at_silent n l w

when_silent : (b : Bool) (n l : ℕ) (w : Wrong) → Silent (cond b (at n l w) [])
when_silent true n l w = at_silent n l w
when_silent false n l w = none_silent

name_silent : (k n l : ℕ) (x : List ℕ) (y : Option Bound) → Silent (constant_name k n l x y)
name_silent k n l x (Some (Constant w)) = none_silent
name_silent k n l x (Some (Variable j d)) = silent_both (unless_silent (j == k) n l _) (at_silent n l _)
name_silent k n l x (Some (Label j m)) = silent_both (at_silent n l _) (at_silent n l _)
name_silent k n l x _ = at_silent n l _

mutual
  pub constant_silent : (e : Expression) (bs : List Binding) (k : ℕ) (s : Spot) → Silent (constant_wrongs bs k s e)
  constant_silent (name l x) bs k s = name_silent k s.place l x (bound_in bs x)
  constant_silent (parens l e) bs k s = constant_silent e bs k (past 1 s)
  constant_silent (unary l r e) bs k s = silent_both (unless_silent (is_prefix_of_constants r) s.place l not_constant) (constant_silent e bs k (past 1 s))
  constant_silent (binary l r m a b) bs k s =
      silent_both (silent_both (silent_both (when_silent (divides_by_zero r (constant_word bs a) (constant_word bs b)) s.place l divided_by_zero) (constant_silent a bs k s))
      (unless_silent (is_infix_of_constants r) (after_constant a s).place m not_constant)) (constant_silent b bs k (past 1 (after_constant a s)))
  constant_silent (choice l m c a b) bs k s =
      let t : Spot = past 1 (after_constant c s) in
      silent_both (silent_both (silent_both (constant_silent c bs k s) (at_silent _ m _)) (constant_silent a bs k t)) (constant_silent b bs k (after_constant a t))
  constant_silent (apply l m f es) bs k s = silent_both (silent_both (constant_silent f bs k s) (at_silent _ m _)) (constants_silent es bs k (past 1 (after_constant f s)))
  constant_silent (number l n) bs k s = none_silent
  constant_silent (truth l b) bs k s = none_silent
  constant_silent _ bs k s = at_silent _ _ _

  pub constants_silent : (es : Expressions) (bs : List Binding) (k : ℕ) (s : Spot) → Silent (constant_wrongs_each bs k s es)
  constants_silent none bs k s = none_silent
  constants_silent (more e es) bs k s = silent_both (constant_silent e bs k s) (constants_silent es bs k (after_constant e s))

-- where they stand
pub at_spans : (n l : ℕ) (w : Wrong) → Spans n (n + 1) (at n l w)
at_spans n l w = record { inside = (omega arith, omega (arith, below_32 w), tt) }

pub unless_spans : (b : Bool) (n l : ℕ) (w : Wrong) → Spans n (n + 1) (unless b (at n l w))
unless_spans true n l w = wider n (n + 1) (no_span n) (omega arith) (omega arith)
unless_spans false n l w = at_spans n l w

pub when_spans : (b : Bool) (n l : ℕ) (w : Wrong) → Spans n (n + 1) (cond b (at n l w) [])
when_spans true n l w = at_spans n l w
when_spans false n l w = wider n (n + 1) (no_span n) (omega arith) (omega arith)

name_spans : (k n l : ℕ) (x : List ℕ) (y : Option Bound) → Spans n (n + 1) (constant_name k n l x y)
name_spans k n l x (Some (Constant w)) = wider n (n + 1) (no_span n) (omega arith) (omega arith)
name_spans k n l x (Some (Variable j d)) = among (unless_spans (j == k) n l (dynamic_name (text_of x))) (at_spans n l not_constant)
name_spans k n l x (Some (Label j m)) = among (at_spans n l not_constant) (at_spans n l (label_not_here (text_of x)))
name_spans k n l x _ = at_spans n l _

mutual
  pub constant_spans : (e : Expression) (bs : List Binding) (k : ℕ) (s : Spot) → Spans s.place (s.place + symbols e) (constant_wrongs bs k s e)
  constant_spans (name l x) bs k s = name_spans k s.place l x (bound_in bs x)
  constant_spans (parens l e) bs k s = wider _ _ (constant_spans e bs k (past 1 s)) (omega arith) (omega arith)
  constant_spans (unary l r e) bs k s = wider _ _ (both (unless_spans (is_prefix_of_constants r) s.place l not_constant) (constant_spans e bs k (past 1 s)) (omega arith) (omega arith)) (omega arith) (omega arith)
  constant_spans (binary l r m a b) bs k s =
      let d : Bool = divides_by_zero r (constant_word bs a) (constant_word bs b) in
      let t : Spot = after_constant a s in
      let u : Spans s.place (s.place + 1) (cond d (at s.place l divided_by_zero) []) = when_spans d s.place l divided_by_zero in
      let v : Spans s.place (s.place + symbols a) (constant_wrongs bs k s a) = constant_spans a bs k s in
      let w : Spans t.place (t.place + 1) (unless (is_infix_of_constants r) (at t.place m not_constant)) = unless_spans (is_infix_of_constants r) t.place m not_constant in
      let z : Spans (t.place + 1) (t.place + 1 + symbols b) (constant_wrongs bs k (past 1 t) b) = wider _ _ (constant_spans b bs k (past 1 t)) (omega arith) (omega arith) in
      let end : ℕ = s.place + (symbols a + (1 + symbols b)) in
      among (among (among (wider s.place end u (omega arith) (omega arith)) (wider s.place end v (omega arith) (omega arith))) (wider s.place end w (omega arith) (omega arith))) (wider s.place end z (omega arith) (omega arith))
  constant_spans (choice l m c a b) bs k s =
      let t : Spot = after_constant c s in
      let end : ℕ = s.place + (symbols c + (1 + (symbols a + symbols b))) in
      among (among (among (wider s.place end (constant_spans c bs k s) (omega arith) (omega arith)) (wider s.place end (at_spans t.place m not_constant) (omega arith) (omega arith)))
      (wider s.place end (constant_spans a bs k (past 1 t)) (omega arith) (omega arith))) (wider s.place end (constant_spans b bs k (after_constant a (past 1 t))) (omega arith) (omega arith))
  constant_spans (apply l m f es) bs k s =
      let t : Spot = after_constant f s in
      let end : ℕ = s.place + (symbols f + (1 + symbols_each es)) in
      among (among (wider s.place end (constant_spans f bs k s) (omega arith) (omega arith)) (wider s.place end (at_spans t.place m not_constant) (omega arith) (omega arith)))
      (wider s.place end (constants_spans es bs k (past 1 t)) (omega arith) (omega arith))
  constant_spans (text l x) bs k s = at_spans s.place l not_constant
  constant_spans (query l) bs k s = at_spans s.place l not_constant
  constant_spans (valof l c) bs k s = wider _ _ (at_spans s.place l not_constant) (omega arith) (omega arith)
  constant_spans (table l es) bs k s = wider _ _ (at_spans s.place l not_constant) (omega arith) (omega arith)
  constant_spans _ bs k s = wider _ _ (no_span s.place) (omega arith) (omega arith)

  pub constants_spans : (es : Expressions) (bs : List Binding) (k : ℕ) (s : Spot) → Spans s.place (s.place + symbols_each es) (constant_wrongs_each bs k s es)
  constants_spans none bs k s = wider _ _ (no_span s.place) (omega arith) (omega arith)
  constants_spans (more e es) bs k s = wider _ _ (both (constant_spans e bs k s) (constants_spans es bs k (after_constant e s)) (omega arith) (omega arith)) (omega arith) (omega arith)

-- what has a word as a constant is not wrong
named_right : (k n l : ℕ) (x : List ℕ) (y : Option Bound) (w : ℕ) → named_word y ≡ Some w → constant_name k n l x y ≡ []
named_right k n l x (Some (Constant c)) w e = refl
named_right k n l x _ w e = absurd (none-some w e)

pub constant_right : (e : Expression) (bs : List Binding) (k : ℕ) (s : Spot) (w : ℕ) → constant_word bs e ≡ Some w → constant_wrongs bs k s e ≡ []
constant_right (name l x) bs k s w e = named_right k s.place l x (bound_in bs x) w e
constant_right (number l n) bs k s w e = refl
constant_right (truth l b) bs k s w e = refl
constant_right (parens l x) bs k s w e = constant_right x bs k (past 1 s) w e
constant_right (unary l p x) bs k s w e =
    let h : (is_prefix_of_constants p ≡ true) × (v : ℕ) × (constant_word bs x ≡ Some v) = prefix_right p (constant_word bs x) w e in
    rw h.0 (constant_right x bs k (past 1 s) h.1 h.2)
constant_right (binary l o m a b) bs k s w e =
    let h : (is_infix_of_constants o ≡ true) × (divides_by_zero o (constant_word bs a) (constant_word bs b) ≡ false) × ((x : ℕ) × (constant_word bs a ≡ Some x)) × (y : ℕ) × (constant_word bs b ≡ Some y) = infix_right o (constant_word bs a) (constant_word bs b) w e in
    rw h.0 (rw h.1 (rw (constant_right a bs k s h.2.0 h.2.1) (constant_right b bs k (past 1 (after_constant a s)) h.3 h.4)))
constant_right _ bs k s w e = absurd (none-some w e)

-- the first of what is wrong, whatever was claimed
abbrev FirstIs : List Point → Option Breach → Type 0
FirstIs xs b = (cs : List Claim) → first_reported (in_order (judged cs xs)) ≡ b

joined : {n m u v : ℕ} {xs ys : List Point} (a b : Option Breach) → Spans n m xs → Spans u v ys → m ≤ u → FirstIs xs a → FirstIs ys b → FirstIs (xs ++ ys) (else_first a b)
joined {n = n} {m = m} {u = u} {v = v} {xs = xs} {ys = ys} a b s t le f g cs =
    first_of_both (32 * n) (32 * m) (32 * v) xs ys cs s.inside (inside_wider (32 * u) (32 * v) (32 * m) (32 * v) ys (omega (arith, le)) (omega arith) t.inside)
    ∙ ap (λ c. else_first c (first_reported (in_order (judged (claims_after cs xs) ys)))) (f cs) ∙ ap (else_first a) (g (claims_after cs xs))

else_some : (a : Option Breach) (x : Breach) (b : Option Breach) → else_first (else_first a (Some x)) b ≡ else_first a (Some x)
else_some None x b = refl
else_some (Some y) x b = refl

not_lower : (v w : Wrong) → nat_lt (number_of v) (number_of w) ≡ true → nat_lt (number_of w) (number_of v) ≡ false
not_lower v w h = le-ltb (number_of w) (number_of v) (omega (arith, ltb-true (number_of v) (number_of w) h))

-- two faults at one place
pub lower_one : (n l m : ℕ) (v w : Wrong) (cs : List Claim) → nat_lt (number_of v) (number_of w) ≡ true → first_reported (in_order (judged cs (at n m v ++ at n l w))) ≡ Some (record { at = m; wrong = v })
lower_one n l m v w cs h = rw (eq-eqb n n refl) (rw (not_lower v w h) refl)

variable_first : (b : Bool) (n l : ℕ) (x : List ℕ) → FirstIs (unless b (at n l (dynamic_name (text_of x))) ++ at n l not_constant) (first_of (cond b (record { at = l; wrong = not_constant } ∷ []) (record { at = l; wrong = dynamic_name (text_of x) } ∷ [])))
variable_first true n l x cs = refl
variable_first false n l x cs = lower_one n l l (dynamic_name (text_of x)) not_constant cs refl

name_first : (k n l : ℕ) (x : List ℕ) (y : Option Bound) → FirstIs (constant_name k n l x y) (first_of (wrong_name k l x y))
name_first k n l x (Some (Variable j d)) cs = variable_first (j == k) n l x cs
name_first k n l x (Some (Label j m)) cs = lower_one n l l not_constant (label_not_here (text_of x)) cs refl
name_first k n l x _ cs = refl

prefix_first : (b : Bool) (n l i : ℕ) (xs : List Point) (ws : List Breach) → Spans (n + 1) i xs → FirstIs xs (first_of ws) → FirstIs (unless b (at n l not_constant) ++ xs) (first_of (cond b ws (record { at = l; wrong = not_constant } ∷ [])))
prefix_first true n l i xs ws a h cs = h cs
prefix_first false n l i xs ws a h cs = joined (Some (record { at = l; wrong = not_constant })) (first_of ws) (at_spans n l not_constant) a (omega arith) (λ ds. refl) h cs

infix_first : (q d : Bool) (n l t m i : ℕ) (xs ys : List Point) (us ws : List Breach) → n ≤ t → Spans n t xs → Spans (t + 1) i ys → FirstIs xs (first_of us) → FirstIs ys (first_of ws) → (d ≡ true → (q ≡ true) × (xs ≡ []) × (ys ≡ []))
    → FirstIs (cond d (at n l divided_by_zero) [] ++ xs ++ unless q (at t m not_constant) ++ ys)
    (first_of (cond q (cond d (record { at = l; wrong = divided_by_zero } ∷ []) (us ++ ws)) (us ++ (record { at = m; wrong = not_constant } ∷ []))))
infix_first true true n l t m i xs ys us ws le a b f g h cs = grind arith
infix_first true false n l t m i xs ys us ws le a b f g h cs =
    joined (else_first (first_of us) None) (first_of ws) (wider n t (both a (no_span t) (omega arith) (omega arith)) (omega arith) (omega arith)) b (omega arith) (joined (first_of us) None a (no_span t) (omega arith) f (λ ds. refl)) g cs
    ∙ ap (λ c. else_first c (first_of ws)) (else_none (first_of us)) ∙ sym (first_of-append us ws)
infix_first false true n l t m i xs ys us ws le a b f g h cs = grind arith
infix_first false false n l t m i xs ys us ws le a b f g h cs =
    joined (else_first (first_of us) (Some (record { at = m; wrong = not_constant }))) (first_of ws) (both a (at_spans t m not_constant) (omega arith) (omega arith)) b (omega arith)
    (joined (first_of us) (Some (record { at = m; wrong = not_constant })) a (at_spans t m not_constant) (omega arith) f (λ ds. refl)) g cs
    ∙ else_some (first_of us) (record { at = m; wrong = not_constant }) (first_of ws) ∙ sym (first_of-append us (record { at = m; wrong = not_constant } ∷ []))

-- behind what no constant holds, the pass tells nothing more
operator_first : (n t m i : ℕ) (xs ys : List Point) (us : List Breach) (c : Option Breach) → n ≤ t → Spans n t xs → Spans (t + 1) i ys → FirstIs xs (first_of us) → FirstIs ys c → FirstIs (xs ++ at t m not_constant ++ ys) (first_of (us ++ (record { at = m; wrong = not_constant } ∷ [])))
operator_first n t m i xs ys us c le a b f g cs =
    joined (else_first (first_of us) (Some (record { at = m; wrong = not_constant }))) c (both a (at_spans t m not_constant) (omega arith) (omega arith)) b (omega arith)
    (joined (first_of us) (Some (record { at = m; wrong = not_constant })) a (at_spans t m not_constant) (omega arith) f (λ ds. refl)) g cs
    ∙ else_some (first_of us) (record { at = m; wrong = not_constant }) c ∙ sym (first_of-append us (record { at = m; wrong = not_constant } ∷ []))

dividing : (b c : Bool) → cond b c false ≡ true → b ≡ true
dividing true c e = refl
dividing false c e = absurd (false≢true e)

divides_infix : (r : Operator) → divides r ≡ true → is_infix_of_constants r ≡ true
divides_infix o.Subscript e = absurd (false≢true e)
divides_infix o.Byte e = absurd (false≢true e)
divides_infix _ e = refl

zero_between : (r : Operator) (x y : Option ℕ) → divides_by_zero r x y ≡ true → (is_infix_of_constants r ≡ true) × ((v : ℕ) × (x ≡ Some v)) × (w : ℕ) × (y ≡ Some w)
zero_between r (Some x) (Some y) e = (divides_infix r (dividing (divides r) (y == 0) e), (x, refl), y, refl)
zero_between r _ _ e = absurd (false≢true e)

mutual
  pub constant_first : (e : Expression) (bs : List Binding) (k : ℕ) (s : Spot) → FirstIs (constant_wrongs bs k s e) (first_of (wrongs bs k e))
  constant_first (name l x) bs k s cs = name_first k s.place l x (bound_in bs x) cs
  constant_first (parens l e) bs k s cs = constant_first e bs k (past 1 s) cs
  constant_first (unary l r e) bs k s cs = prefix_first (is_prefix_of_constants r) s.place l (s.place + 1 + symbols e) (constant_wrongs bs k (past 1 s) e) (wrongs bs k e) (constant_spans e bs k (past 1 s)) (constant_first e bs k (past 1 s)) cs
  constant_first (binary l r m a b) bs k s cs =
      let t : Spot = after_constant a s in
      infix_first (is_infix_of_constants r) (divides_by_zero r (constant_word bs a) (constant_word bs b)) s.place l t.place m (t.place + 1 + symbols b) (constant_wrongs bs k s a) (constant_wrongs bs k (past 1 t) b) (wrongs bs k a) (wrongs bs k b) (omega arith)
      (constant_spans a bs k s) (constant_spans b bs k (past 1 t)) (constant_first a bs k s) (constant_first b bs k (past 1 t))
      (λ d. let z : (is_infix_of_constants r ≡ true) × ((v : ℕ) × (constant_word bs a ≡ Some v)) × (w : ℕ) × (constant_word bs b ≡ Some w) = zero_between r (constant_word bs a) (constant_word bs b) d in
      (z.0, constant_right a bs k s z.1.0 z.1.1, constant_right b bs k (past 1 t) z.2 z.3)) cs
  constant_first (choice l m c a b) bs k s cs =
      let t : Spot = after_constant c s in
      let u : Spot = after_constant a (past 1 t) in
      subst (λ zs. first_reported (in_order (judged cs zs)) ≡ first_of (wrongs bs k c ++ (record { at = m; wrong = not_constant } ∷ [])))
      (sym (append_assoc (constant_wrongs bs k s c ++ at t.place m not_constant) (constant_wrongs bs k (past 1 t) a) (constant_wrongs bs k u b)))
      (operator_first s.place t.place m (u.place + symbols b) (constant_wrongs bs k s c) (constant_wrongs bs k (past 1 t) a ++ constant_wrongs bs k u b) (wrongs bs k c) (else_first (first_of (wrongs bs k a)) (first_of (wrongs bs k b))) (omega arith)
      (constant_spans c bs k s) (both (constant_spans a bs k (past 1 t)) (constant_spans b bs k u) (omega arith) (omega arith))
      (constant_first c bs k s) (joined (first_of (wrongs bs k a)) (first_of (wrongs bs k b)) (constant_spans a bs k (past 1 t)) (constant_spans b bs k u) (omega arith) (constant_first a bs k (past 1 t)) (constant_first b bs k u)) cs)
  constant_first (apply l m f es) bs k s cs =
      let t : Spot = after_constant f s in
      let r : (c : Option Breach) × FirstIs (constant_wrongs_each bs k (past 1 t) es) c = constants_first es bs k (past 1 t) in
      operator_first s.place t.place m (t.place + 1 + symbols_each es) (constant_wrongs bs k s f) (constant_wrongs_each bs k (past 1 t) es) (wrongs bs k f) r.0 (omega arith)
      (constant_spans f bs k s) (constants_spans es bs k (past 1 t)) (constant_first f bs k s) r.1 cs
  constant_first _ bs k s cs = refl

  constants_first : (es : Expressions) (bs : List Binding) (k : ℕ) (s : Spot) → (c : Option Breach) × FirstIs (constant_wrongs_each bs k s es) c
  constants_first none bs k s = (None, λ cs. refl)
  constants_first (more e es) bs k s =
      let r : (c : Option Breach) × FirstIs (constant_wrongs_each bs k (after_constant e s) es) c = constants_first es bs k (after_constant e s) in
      (else_first (first_of (wrongs bs k e)) r.0, joined (first_of (wrongs bs k e)) r.0 (constant_spans e bs k s) (constants_spans es bs k (after_constant e s)) (omega arith) (constant_first e bs k s) r.1)

-- A CONSTANT
pub wrongs_tied : (e : Expression) (bs : List Binding) (k : ℕ) (s : Spot) (f : Found) → Tied (constant_wrongs bs k s e) 0 f (breaks_first (first_of (wrongs bs k e)) f)
wrongs_tied e bs k s f =
    let o = constant_silent e bs k s in
    record {
      first = ap (else_first f.first) (sym (constant_first e bs k s f.claims));
      claims = sym (o.claims_so f.claims);
      meanings = sym (ap (λ c. f.meanings ++ c) o.meanings_so ∙ append-nil f.meanings);
      words = sym (ap (λ c. f.words ++ c) o.words_so ∙ append-nil f.words);
      next = omega arith;
      deepest = sym (o.deepest_so f.deepest);
    }

word_tied : (w : Option ℕ) (f : Found) → Tied (its_word w) 0 f (holds w f)
word_tied None f = nothing_told f
word_tied (Some v) f = record { first = sym (else_none f.first); claims = refl; meanings = sym (append-nil f.meanings); words = refl; next = omega arith; deepest = refl }

word_spans : (w : Option ℕ) (n : ℕ) → Spans n n (its_word w)
word_spans None n = record { inside = tt }
word_spans (Some v) n = record { inside = tt }

pub constant_tied : (e : Expression) (bs : List Binding) (k : ℕ) (s : Spot) (f : Found) → Tied (constant bs k s e) 0 f (constant_found bs k e f)
constant_tied e bs k s f =
    recount 0 (behind_it (constant_spans e bs k s) (word_spans (constant_word bs e) (s.place + symbols e)) (omega arith) (wrongs_tied e bs k s f) (word_tied (constant_word bs e) (breaks_first (first_of (wrongs bs k e)) f))) (omega arith)

pub whole_spans : (e : Expression) (bs : List Binding) (k : ℕ) (s : Spot) → Spans s.place (s.place + symbols e) (constant bs k s e)
whole_spans e bs k s = both (constant_spans e bs k s) (word_spans (constant_word bs e) (s.place + symbols e)) (omega arith) (omega arith)

pub each_constant_spans : (es : Expressions) (bs : List Binding) (k : ℕ) (s : Spot) → Spans s.place (s.place + symbols_each es) (each_constant bs k s es)
each_constant_spans none bs k s = wider _ _ (no_span s.place) (omega arith) (omega arith)
each_constant_spans (more e es) bs k s = wider _ _ (both (whole_spans e bs k s) (each_constant_spans es bs k (after_constant e s)) (omega arith) (omega arith)) (omega arith) (omega arith)

pub each_constant_tied : (es : Expressions) (bs : List Binding) (k : ℕ) (s : Spot) (f : Found) → Tied (each_constant bs k s es) 0 f (constants_found bs k es f)
each_constant_tied none bs k s f = nothing_told f
each_constant_tied (more e es) bs k s f =
    recount 0 (behind_it (whole_spans e bs k s) (each_constant_spans es bs k (after_constant e s)) (omega arith) (constant_tied e bs k s f) (each_constant_tied es bs k (after_constant e s) (constant_found bs k e f))) (omega arith)

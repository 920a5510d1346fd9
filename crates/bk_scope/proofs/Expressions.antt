-- The pass and what is told: expressions, in each role.
use Rattle.bk_scope.proofs.Terms.{◌≡◌, ℕ, ◌+◌, ◌^◌, ◌<◌, ◌==◌, Bool, true, false, cond, Option, Some, None, List, [], ◌∷◌, ◌++◌, refl, sym, subst, arith, append-nil, Operator, Operator as o, Prefix, Prefix as q, Expression, Expressions, Command, name, number, text, truth, query, parens, unary, binary, choice, apply, valof, table, none, more, at_expression, Bound, Constant, Global, Static, Variable, Label, Enclosing, Role, Value, Truth, Address, Destination, Binding, bound_in, has_address, Wrong, not_assignable, dynamic_name, text_of, Found, means, breaks, reaches, deeper, evaluated, destinations, used, unassignable, without_word, constants_found, parenthesised, Spot, past, following, symbols_each, numbers, numbers_each, at, meaning, depth, unless, used_at, addressed, assigned, pushed, reported, reported_destinations}
use Rattle.bk_scope.proofs.Tied.{Tied, broken, both, behind_it, else_none, nothing_told}
use Rattle.bk_scope.proofs.Operators.{Plain, ETied, EsTied, CTied, binary_tied, apply_tied, without_plain}
use Rattle.bk_scope.proofs.Scopes.{recount, pushed_tied, pushed_spans, valof_tied}
use Rattle.bk_scope.proofs.Constants.{each_constant_tied, each_constant_spans}
use Rattle.bk_scope.proofs.Standing.{used_spans, inside, each_inside, destination_inside, destinations_inside, done_inside}
use Rattle.bk_scope.proofs.Assignable.{Begins, unassignable_tied}

-- an expression where a word is asked for
pub record WTied (e : Expression) : Type 0 where
  pub address : (b : Bool) (l : ℕ) (bs : List Binding) (p : Enclosing) (s : Spot) (n : ℕ) (f : Found) → Begins b n s.place → f.next ≡ s.number → s.number + numbers e < 2 ^ 32
      → Tied (unless (addressed bs e) (at n l not_assignable) ++ reported (Address b l) bs p s e) (numbers e) f (evaluated (Address b l) bs p e f)
  pub destination : (b : Bool) (l : ℕ) (bs : List Binding) (p : Enclosing) (s : Spot) (n : ℕ) (f : Found) → Begins b n s.place → f.next ≡ s.number → s.number + numbers e < 2 ^ 32
      → Tied (unless (assigned bs e) (at n l not_assignable) ++ reported (Destination b l) bs p s e) (numbers e) f (evaluated (Destination b l) bs p e f)

pub record ExpressionTied (e : Expression) : Type 0 where
  pub plain : ETied e
  pub word : WTied e

-- a meaning
pub meant : (b : Bound) (f : Found) → Tied (meaning b ∷ []) 0 f (means b f)
meant b f = record { first = sym (else_none f.first); claims = refl; meanings = refl; words = sym (append-nil f.words); next = omega arith; deepest = refl }

pub meant_or_wrong : (q : Bool) (b : Bound) (n l : ℕ) (w : Wrong) (f : Found) → Tied (cond q (meaning b ∷ []) (at n l w)) 0 f (cond q (means b f) (breaks l w f))
meant_or_wrong true b n l w f = meant b f
meant_or_wrong false b n l w f = broken n l f

-- a name
pub used_tied : (k n l : ℕ) (x : List ℕ) (y : Option Bound) (f : Found) → Tied (used_at k n l x y) 0 f (used k l x y f)
used_tied k n l x (Some (Variable j d)) f = meant_or_wrong (j == k) (Variable j d) n l (dynamic_name (text_of x)) f
used_tied k n l x (Some (Constant w)) f = meant (Constant w) f
used_tied k n l x (Some (Global w)) f = meant (Global w) f
used_tied k n l x (Some (Static w)) f = meant (Static w) f
used_tied k n l x _ f = broken n l f

name_deep : (l : ℕ) (x : List ℕ) (bs : List Binding) (p : Enclosing) (n : ℕ) (f : Found)
    → Tied (used_at p.procedure n l x (bound_in bs x) ++ (depth (p.depth + 1) ∷ [])) 0 f (reaches (p.depth + 1) (used p.procedure l x (bound_in bs x) f))
name_deep l x bs p n f =
    recount 0 (behind_it (used_spans p.procedure n l x (bound_in bs x)) (pushed_spans (n + 1) p 1) (omega arith) (used_tied p.procedure n l x (bound_in bs x) f) (pushed_tied p 1 (used p.procedure l x (bound_in bs x) f))) (omega arith)

name_set : (l : ℕ) (x : List ℕ) (bs : List Binding) (p : Enclosing) (n : ℕ) (f : Found) → Tied (used_at p.procedure n l x (bound_in bs x) ++ []) 0 f (used p.procedure l x (bound_in bs x) f)
name_set l x bs p n f = subst (λ xs. Tied xs 0 f (used p.procedure l x (bound_in bs x) f)) (sym (append-nil (used_at p.procedure n l x (bound_in bs x)))) (used_tied p.procedure n l x (bound_in bs x) f)

name_plain : (l : ℕ) (x : List ℕ) → ETied (name l x)
name_plain l x Value h bs p s f e fits = name_deep l x bs p s.place f
name_plain l x Truth h bs p s f e fits = name_deep l x bs p s.place f
name_plain l x _ h bs p s f e fits = absurd h

name_address : (q : Bool) (b : Bool) (m l : ℕ) (x : List ℕ) (bs : List Binding) (p : Enclosing) (s : Spot) (n : ℕ) (f : Found) → Begins b n s.place → f.next ≡ s.number
    → Tied (unless q (at n m not_assignable) ++ reported (Address b m) bs p s (name l x)) 0 f (reaches (p.depth + 1) (used p.procedure l x (bound_in bs x) (cond q f (unassignable bs p.procedure b m (name l x) f))))
name_address true b m l x bs p s n f z a = name_deep l x bs p s.place f
name_address false b m l x bs p s n f z a =
    unassignable_tied b (name l x) (Address b m) bs p s n m 0 f (λ h. reaches (p.depth + 1) (used p.procedure l x (bound_in bs x) h)) z (λ h c. name_deep l x bs p s.place h) a

name_destination : (q : Bool) (b : Bool) (m l : ℕ) (x : List ℕ) (bs : List Binding) (p : Enclosing) (s : Spot) (n : ℕ) (f : Found) → has_address (bound_in bs x) ≡ q → Begins b n s.place → f.next ≡ s.number
    → Tied (unless q (at n m not_assignable) ++ reported (Destination b m) bs p s (name l x)) 0 f (cond q (used p.procedure l x (bound_in bs x) f) (reaches (p.depth + 1) (used p.procedure l x (bound_in bs x) (unassignable bs p.procedure b m (name l x) f))))
name_destination true b m l x bs p s n f e z a =
    subst (λ c. Tied (used_at p.procedure s.place l x (bound_in bs x) ++ unless c (depth (p.depth + 1) ∷ [])) 0 f (used p.procedure l x (bound_in bs x) f)) (sym e) (name_set l x bs p s.place f)
name_destination false b m l x bs p s n f e z a =
    unassignable_tied b (name l x) (Destination b m) bs p s n m 0 f (λ h. reaches (p.depth + 1) (used p.procedure l x (bound_in bs x) h)) z
    (λ h c. subst (λ c. Tied (used_at p.procedure s.place l x (bound_in bs x) ++ unless c (depth (p.depth + 1) ∷ [])) 0 h (reaches (p.depth + 1) (used p.procedure l x (bound_in bs x) h))) (sym e) (name_deep l x bs p s.place h)) a

pub name_tied : (l : ℕ) (x : List ℕ) → ExpressionTied (name l x)
name_tied l x = record {
  plain = name_plain l x;
  word = record {
    address = λ b m bs p s n f z a fits. name_address (has_address (bound_in bs x)) b m l x bs p s n f z a;
    destination = λ b m bs p s n f z a fits. name_destination (has_address (bound_in bs x)) b m l x bs p s n f refl z a;
  };
}

-- what has no word of its own, whatever the role
without_tied : (e : Expression) → ETied e → ((b : Bool) (l : ℕ) (bs : List Binding) (p : Enclosing) (s : Spot) (n : ℕ) (f : Found) → Begins b n s.place → f.next ≡ s.number → s.number + numbers e < 2 ^ 32
    → Tied (at n l not_assignable ++ reported Value bs p s e) (numbers e) f (evaluated Value bs p e (unassignable bs p.procedure b l e f)))
without_tied e t b l bs p s n f z a fits = unassignable_tied b e Value bs p s n l (numbers e) f (λ h. evaluated Value bs p e h) z (λ h c. t Value tt bs p s h c fits) a

-- what only takes a word of the frame
leaf : (e : Expression) (r : Role) → Plain r → (bs : List Binding) (p : Enclosing) (f : Found) → Tied (pushed p 1) 0 f (reaches (p.depth + 1) (without_word r bs p.procedure e f))
leaf e r h bs p f = subst (λ v. Tied (pushed p 1) 0 f (reaches (p.depth + 1) v)) (sym (without_plain r bs p.procedure e f h)) (pushed_tied p 1 f)

pub number_tied : (l m : ℕ) → ExpressionTied (number l m)
number_tied l m =
    let z : ETied (number l m) = λ r h bs p s f e fits. leaf (number l m) r h bs p f in
    record { plain = z; word = record { address = without_tied (number l m) z; destination = without_tied (number l m) z } }

pub text_tied : (l : ℕ) (x : List ℕ) → ExpressionTied (text l x)
text_tied l x =
    let z : ETied (text l x) = λ r h bs p s f e fits. leaf (text l x) r h bs p f in
    record { plain = z; word = record { address = without_tied (text l x) z; destination = without_tied (text l x) z } }

pub truth_tied : (l : ℕ) (t : Bool) → ExpressionTied (truth l t)
truth_tied l t =
    let z : ETied (truth l t) = λ r h bs p s f e fits. leaf (truth l t) r h bs p f in
    record { plain = z; word = record { address = without_tied (truth l t) z; destination = without_tied (truth l t) z } }

pub query_tied : (l : ℕ) → ExpressionTied (query l)
query_tied l =
    let z : ETied (query l) = λ r h bs p s f e fits. leaf (query l) r h bs p f in
    record { plain = z; word = record { address = without_tied (query l) z; destination = without_tied (query l) z } }

-- parentheses
parens_plain : (r : Role) → Plain r → Plain (parenthesised r)
parens_plain Value h = tt
parens_plain Truth h = tt
parens_plain _ h = absurd h

begins_before : (b : Bool) (n m : ℕ) → Begins b n m → n < m + 1
begins_before true n m h = omega (arith, h)
begins_before false n m h = omega (arith, h)

pub parens_tied : (l : ℕ) (e : Expression) → ExpressionTied e → ExpressionTied (parens l e)
parens_tied l e t = record {
  plain = λ r h bs p s f a fits. t.plain (parenthesised r) (parens_plain r h) bs p (past 1 s) f (omega (arith, a)) (omega (arith, fits));
  word = record {
    address = λ b i bs p s n f z a fits. t.word.address true i bs p (past 1 s) n f (begins_before b n s.place z) (omega (arith, a)) (omega (arith, fits));
    destination = λ b i bs p s n f z a fits. t.word.destination true i bs p (past 1 s) n f (begins_before b n s.place z) (omega (arith, a)) (omega (arith, fits));
  };
}

-- prefixes
unary_plain : (f : Prefix) (l : ℕ) (e : Expression) → ExpressionTied e → ETied (unary l f e)
unary_plain q.Contents l e t r h bs p s f a fits = t.plain Value tt bs p (past 1 s) f (omega (arith, a)) (omega (arith, fits))
unary_plain q.Address l e t r h bs p s f a fits =
    subst (λ v. Tied (reported r bs p s (unary l q.Address e)) (numbers e) f (evaluated (Address false (at_expression e)) bs p e v)) (sym (without_plain r bs p.procedure (unary l q.Address e) f h))
    (t.word.address false (at_expression e) bs p (past 1 s) (past 1 s).place f refl (omega (arith, a)) (omega (arith, fits)))
unary_plain q.Plus l e t r h bs p s f a fits = subst (λ v. Tied (reported r bs p s (unary l q.Plus e)) (numbers e) f (evaluated Value bs p e v)) (sym (without_plain r bs p.procedure (unary l q.Plus e) f h)) (t.plain Value tt bs p (past 1 s) f (omega (arith, a)) (omega (arith, fits)))
unary_plain q.Minus l e t r h bs p s f a fits = subst (λ v. Tied (reported r bs p s (unary l q.Minus e)) (numbers e) f (evaluated Value bs p e v)) (sym (without_plain r bs p.procedure (unary l q.Minus e) f h)) (t.plain Value tt bs p (past 1 s) f (omega (arith, a)) (omega (arith, fits)))
unary_plain q.Not l e t Value h bs p s f a fits = t.plain Value tt bs p (past 1 s) f (omega (arith, a)) (omega (arith, fits))
unary_plain q.Not l e t Truth h bs p s f a fits = t.plain Truth tt bs p (past 1 s) f (omega (arith, a)) (omega (arith, fits))
unary_plain q.Not l e t _ h bs p s f a fits = absurd h

unary_word : (f : Prefix) (l : ℕ) (e : Expression) → ExpressionTied e → WTied (unary l f e)
unary_word q.Contents l e t = record {
  address = λ b i bs p s n f z a fits. t.plain Value tt bs p (past 1 s) f (omega (arith, a)) (omega (arith, fits));
  destination = λ b i bs p s n f z a fits. t.plain Value tt bs p (past 1 s) f (omega (arith, a)) (omega (arith, fits));
}
unary_word q.Address l e t = record {
  address = λ b i bs p s n f z a fits. unassignable_tied b (unary l q.Address e) (Address b i) bs p s n i (numbers e) f (λ h. evaluated (Address false (at_expression e)) bs p e h) z (λ h c. t.word.address false (at_expression e) bs p (past 1 s) (past 1 s).place h refl (omega (arith, c)) (omega (arith, fits))) a;
  destination = λ b i bs p s n f z a fits. unassignable_tied b (unary l q.Address e) (Destination b i) bs p s n i (numbers e) f (λ h. evaluated (Address false (at_expression e)) bs p e h) z (λ h c. t.word.address false (at_expression e) bs p (past 1 s) (past 1 s).place h refl (omega (arith, c)) (omega (arith, fits))) a;
}
unary_word f l e t = record {
  address = λ b i bs p s n g z a fits. unassignable_tied b (unary l f e) (Address b i) bs p s n i (numbers e) g (λ h. evaluated Value bs p e h) z (λ h c. t.plain Value tt bs p (past 1 s) h (omega (arith, c)) (omega (arith, fits))) a;
  destination = λ b i bs p s n g z a fits. unassignable_tied b (unary l f e) (Destination b i) bs p s n i (numbers e) g (λ h. evaluated Value bs p e h) z (λ h c. t.plain Value tt bs p (past 1 s) h (omega (arith, c)) (omega (arith, fits))) a;
}

pub unary_tied : (f : Prefix) (l : ℕ) (e : Expression) → ExpressionTied e → ExpressionTied (unary l f e)
unary_tied f l e t = record { plain = unary_plain f l e t; word = unary_word f l e t }

-- operators
binary_word : (f : Operator) (l m : ℕ) (c d : Expression) → ETied (binary l f m c d) → WTied (binary l f m c d)
binary_word o.Subscript l m c d t = record {
  address = λ b i bs p s n f z a fits. t Value tt bs p s f a fits;
  destination = λ b i bs p s n f z a fits. t Value tt bs p s f a fits;
}
binary_word o.Byte l m c d t = record {
  address = λ b i bs p s n f z a fits. unassignable_tied b (binary l o.Byte m c d) (Address b i) bs p s n i (numbers c + numbers d) f (λ h. evaluated Value bs p (binary l o.Byte m c d) h) z (λ h k. t Value tt bs p s h k fits) a;
  destination = λ b i bs p s n f z a fits. t Value tt bs p s f a fits;
}
binary_word q l m c d t = record {
  address = λ b i bs p s n f z a fits. unassignable_tied b (binary l q m c d) (Address b i) bs p s n i (numbers c + numbers d) f (λ h. evaluated Value bs p (binary l q m c d) h) z (λ h k. t Value tt bs p s h k fits) a;
  destination = λ b i bs p s n f z a fits. unassignable_tied b (binary l q m c d) (Destination b i) bs p s n i (numbers c + numbers d) f (λ h. evaluated Value bs p (binary l q m c d) h) z (λ h k. t Value tt bs p s h k fits) a;
}

pub infix_tied : (f : Operator) (l m : ℕ) (a b : Expression) → ExpressionTied a → ExpressionTied b → ExpressionTied (binary l f m a b)
infix_tied f l m a b t u =
    let z : ETied (binary l f m a b) = binary_tied l m f a b t.plain (inside a) u.plain (inside b) in
    record { plain = z; word = binary_word f l m a b z }

choice_plain : (l m : ℕ) (c a b : Expression) → ETied c → ETied a → ETied b → ETied (choice l m c a b)
choice_plain l m c a b tc ta tb r h bs p s f e fits =
    let g : Found = evaluated Truth bs p c f in
    let i : Found = evaluated Value bs p a g in
    let u : Spot = past 1 (following c s) in
    let v : Spot = following a u in
    let one : Tied (reported Truth bs p s c) (numbers c) f g = tc Truth tt bs p s f e (omega (arith, fits)) in
    let two : Tied (reported Value bs p u a) (numbers a) g i = ta Value tt bs p u g (omega (arith, one.next, e)) (omega (arith, fits)) in
    let three : Tied (reported Value bs p v b) (numbers b) i (evaluated Value bs p b i) = tb Value tt bs p v i (omega (arith, one.next, two.next, e)) (omega (arith, fits)) in
    subst (λ w. Tied (reported r bs p s (choice l m c a b)) (numbers (choice l m c a b)) f (evaluated Value bs p b (evaluated Value bs p a (evaluated Truth bs p c w))))
    (sym (without_plain r bs p.procedure (choice l m c a b) f h))
    (recount _ (behind_it (both (inside c Truth bs p s) (inside a Value bs p u) (omega arith) (omega arith)) (inside b Value bs p v) (omega arith)
    (behind_it (inside c Truth bs p s) (inside a Value bs p u) (omega arith) one two) three) (omega arith))

pub choice_tied : (l m : ℕ) (c a b : Expression) → ExpressionTied c → ExpressionTied a → ExpressionTied b → ExpressionTied (choice l m c a b)
choice_tied l m c a b tc ta tb =
    let t : ETied (choice l m c a b) = choice_plain l m c a b tc.plain ta.plain tb.plain in
    record { plain = t; word = record { address = without_tied (choice l m c a b) t; destination = without_tied (choice l m c a b) t } }

pub call_tied : (l m : ℕ) (e : Expression) (es : Expressions) → ExpressionTied e → EsTied es → ExpressionTied (apply l m e es)
call_tied l m e es t u =
    let z : ETied (apply l m e es) = apply_tied l m e es t.plain (inside e) u (each_inside es) in
    record { plain = z; word = record { address = without_tied (apply l m e es) z; destination = without_tied (apply l m e es) z } }

pub value_tied : (l : ℕ) (c : Command) → CTied c → ExpressionTied (valof l c)
value_tied l c t =
    let z : ETied (valof l c) = valof_tied l c t (done_inside c) in
    record { plain = z; word = record { address = without_tied (valof l c) z; destination = without_tied (valof l c) z } }

table_plain : (l : ℕ) (es : Expressions) → ETied (table l es)
table_plain l es r h bs p s f e fits =
    let g : Found = constants_found bs p.procedure es f in
    subst (λ w. Tied (reported r bs p s (table l es)) 0 f (reaches (p.depth + 1) (constants_found bs p.procedure es w))) (sym (without_plain r bs p.procedure (table l es) f h))
    (recount 0 (behind_it (each_constant_spans es bs p.procedure (past 1 s)) (pushed_spans (s.place + 1 + symbols_each es) p 1) (omega arith) (each_constant_tied es bs p.procedure (past 1 s) f) (pushed_tied p 1 g)) (omega arith))

pub table_tied : (l : ℕ) (es : Expressions) → ExpressionTied (table l es)
table_tied l es = record { plain = table_plain l es; word = record { address = without_tied (table l es) (table_plain l es); destination = without_tied (table l es) (table_plain l es) } }

-- expressions one behind another
pub no_more_tied : EsTied none
no_more_tied n bs p s f e fits = nothing_told f

pub more_tied : (e : Expression) (es : Expressions) → ETied e → EsTied es → EsTied (more e es)
more_tied e es t u n bs p s f a fits =
    let g : Found = evaluated Value bs p e f in
    let one : Tied (reported Value bs p s e) (numbers e) f g = t Value tt bs p s f a (omega (arith, fits)) in
    behind_it (inside e Value bs p s) (each_inside es n bs (deeper n p) (following e s)) (omega arith) one (u n bs (deeper n p) (following e s) g (omega (arith, one.next, a)) (omega (arith, fits)))

-- destinations
abbrev pub DestinationsTied : Expressions → Type 0
DestinationsTied es = (bs : List Binding) (p : Enclosing) (s : Spot) (f : Found) → f.next ≡ s.number → s.number + numbers_each es < 2 ^ 32 → Tied (reported_destinations bs p s es) (numbers_each es) f (destinations bs p es f)

pub no_destinations_tied : DestinationsTied none
no_destinations_tied bs p s f e fits = nothing_told f

pub destinations_tied : (e : Expression) (es : Expressions) → WTied e → DestinationsTied es → DestinationsTied (more e es)
destinations_tied e es t u bs p s f a fits =
    let g : Found = evaluated (Destination false (at_expression e)) bs p e f in
    let one : Tied (unless (assigned bs e) (at s.place (at_expression e) not_assignable) ++ reported (Destination false (at_expression e)) bs p s e) (numbers e) f g = t.destination false (at_expression e) bs p s s.place f refl a (omega (arith, fits)) in
    behind_it (destination_inside e bs p s) (destinations_inside es bs p (following e s)) (omega arith) one (u bs p (following e s) g (omega (arith, one.next, a)) (omega (arith, fits)))

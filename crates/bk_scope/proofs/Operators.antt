-- The pass and what is told: operators and calls.
use Rattle.bk_scope.proofs.Terms.{◌≡◌, ℕ, ◌+◌, ◌^◌, ◌<◌, List, refl, sym, subst, arith, Operator, Operator as o, Expression, Expressions, Command, binary, apply, size, Enclosing, Role, Value, Truth, Address, Destination, Binding, Found, deeper, evaluated, each_evaluated, done, fit_infix, without_word, role_of_operands, place_of_second, Spot, past, following, symbols, symbols_each, symbols_done, numbers, numbers_each, numbers_done, reported, reported_each, reported_done}
use Rattle.bk_scope.proofs.Tied.{Tied, Spans, behind_it}

-- an expression that is there for its value or its truth
abbrev pub Plain : Role → Type 0
Plain Value = Unit {0}
Plain Truth = Unit {0}
Plain _ = ⊥

abbrev pub ETied : Expression → Type 0
ETied e = (r : Role) → Plain r → (bs : List Binding) (p : Enclosing) (s : Spot) (f : Found) → f.next ≡ s.number → s.number + numbers e < 2 ^ 32 → Tied (reported r bs p s e) (numbers e) f (evaluated r bs p e f)

abbrev pub EInside : Expression → Type 0
EInside e = (r : Role) (bs : List Binding) (p : Enclosing) (s : Spot) → Spans s.place (s.place + symbols e) (reported r bs p s e)

abbrev pub EsTied : Expressions → Type 0
EsTied es = (n : ℕ) (bs : List Binding) (p : Enclosing) (s : Spot) (f : Found) → f.next ≡ s.number → s.number + numbers_each es < 2 ^ 32 → Tied (reported_each n bs p s es) (numbers_each es) f (each_evaluated n bs p es f)

abbrev pub EsInside : Expressions → Type 0
EsInside es = (n : ℕ) (bs : List Binding) (p : Enclosing) (s : Spot) → Spans s.place (s.place + symbols_each es) (reported_each n bs p s es)

abbrev pub CTied : Command → Type 0
CTied c = (bs : List Binding) (p : Enclosing) (s : Spot) (f : Found) → f.next ≡ s.number → s.number + numbers_done c < 2 ^ 32 → Tied (reported_done bs p s c) (numbers_done c) f (done bs p c f)

abbrev pub CInside : Command → Type 0
CInside c = (bs : List Binding) (p : Enclosing) (s : Spot) → Spans s.place (s.place + symbols_done c) (reported_done bs p s c)

-- binary
pub fit_plain : (q : Operator) (r : Role) (bs : List Binding) (k : ℕ) (e : Expression) (f : Found) → Plain r → fit_infix q r bs k e f ≡ f
fit_plain o.Subscript r bs k e f h = refl
fit_plain _ Value bs k e f h = refl
fit_plain _ Truth bs k e f h = refl
fit_plain _ _ bs k e f h = absurd h

operands_plain : (q : Operator) (r : Role) → Plain r → Plain (role_of_operands q r)
operands_plain o.Both Truth h = tt
operands_plain _ Truth h = tt
operands_plain _ Value h = tt
operands_plain _ _ h = absurd h

pub binary_tied : (l m : ℕ) (q : Operator) (a b : Expression) → ETied a → EInside a → ETied b → EInside b → ETied (binary l q m a b)
binary_tied l m q a b ta ia tb ib r h bs p s f e fits =
    let g : Found = evaluated (role_of_operands q r) bs p a f in
    let one : Tied (reported (role_of_operands q r) bs p s a) (numbers a) f g = ta (role_of_operands q r) (operands_plain q r h) bs p s f e (omega (arith, fits)) in
    let z : Enclosing = place_of_second q r p in
    let u : Spot = past 1 (following a s) in
    let two : Tied (reported (role_of_operands q r) bs z u b) (numbers b) g (evaluated (role_of_operands q r) bs z b g) = tb (role_of_operands q r) (operands_plain q r h) bs z u g (omega (arith, one.next, e)) (omega (arith, fits)) in
    subst (λ v. Tied (reported r bs p s (binary l q m a b)) (numbers a + numbers b) f (evaluated (role_of_operands q r) bs z b (evaluated (role_of_operands q r) bs p a v)))
    (sym (fit_plain q r bs p.procedure (binary l q m a b) f h)) (behind_it (ia _ bs p s) (ib (role_of_operands q r) bs z u) (omega arith) one two)

-- apply
pub without_plain : (r : Role) (bs : List Binding) (k : ℕ) (e : Expression) (f : Found) → Plain r → without_word r bs k e f ≡ f
without_plain Value bs k e f h = refl
without_plain Truth bs k e f h = refl
without_plain _ bs k e f h = absurd h

pub apply_tied : (l m : ℕ) (a : Expression) (es : Expressions) → ETied a → EInside a → EsTied es → EsInside es → ETied (apply l m a es)
apply_tied l m a es ta ia tb ib r h bs p s f e fits =
    let w : Enclosing = deeper (size es + 2) p in
    let g : Found = evaluated Value bs w a f in
    let one : Tied (reported Value bs w s a) (numbers a) f g = ta Value tt bs w s f e (omega (arith, fits)) in
    let u : Spot = past 1 (following a s) in
    subst (λ v. Tied (reported r bs p s (apply l m a es)) (numbers a + numbers_each es) f (each_evaluated 1 bs (deeper 2 p) es (evaluated Value bs w a v)))
    (sym (without_plain r bs p.procedure (apply l m a es) f h))
    (behind_it (ia Value bs w s) (ib 1 bs (deeper 2 p) u) (omega arith) one (tb 1 bs (deeper 2 p) u g (omega (arith, one.next, e)) (omega (arith, fits))))

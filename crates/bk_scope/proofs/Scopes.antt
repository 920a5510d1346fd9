-- The pass and what is told, where names come into scope: VALOF, SWITCHON, a block with declarations.
use Rattle.bk_scope.proofs.Terms.{◌≡◌, ℕ, ◌+◌, ◌^◌, ◌<◌, List, [], ◌∷◌, length, refl, sym, ap, ◌∙◌, subst, arith, append-nil, Expression, Command, Commands, Declaration, Declarations, valof, switch, block, declare, Label, Enclosing, Value, Binding, bind, Found, takes, reaches, switching, labelled, valued, Stage, labels_of, labels_of_each, with_labels, AfterDeclarations, evaluated, done, each_done, declared, Spot, onward, numbered, following, after_declared, symbols, symbols_done, symbols_done_each, symbols_declared, numbers, numbers_done, numbers_done_each, numbers_declared, Point, labels_in_scope, scope_after, place_after_all, reported, reported_done, reported_done_each, reported_declared, pushed}
use Rattle.bk_scope.proofs.Tied.{Tied, Spans, behind_it, else_none}
use Rattle.bk_scope.proofs.Operators.{ETied, EInside, CTied, CInside, without_plain}

-- the number that is next is another
abbrev pub moved : ℕ → Found → Found
moved n f = record { first = f.first; claims = f.claims; meanings = f.meanings; words = f.words; next = n; deepest = f.deepest }

pub moved_tied : (j n : ℕ) (f : Found) → n ≡ f.next + j → Tied [] j f (moved n f)
moved_tied j n f e = record { first = sym (else_none f.first); claims = refl; meanings = sym (append-nil f.meanings); words = sym (append-nil f.words); next = e; deepest = refl }

pub recount : {i : ℕ} {xs : List Point} {f g : Found} (j : ℕ) → Tied xs i f g → i ≡ j → Tied xs j f g
recount {xs = xs} {f = f} {g = g} j t e = subst (λ i. Tied xs i f g) e t

pub no_span : (n : ℕ) → Spans n n []
no_span n = record { inside = tt }

-- a depth is reached
pub pushed_tied : (p : Enclosing) (d : ℕ) (f : Found) → Tied (pushed p d) 0 f (reaches (p.depth + d) f)
pushed_tied p d f = record { first = sym (else_none f.first); claims = refl; meanings = sym (append-nil f.meanings); words = sym (append-nil f.words); next = omega arith; deepest = refl }

pub pushed_spans : (n : ℕ) (p : Enclosing) (d : ℕ) → Spans n n (pushed p d)
pushed_spans n p d = record { inside = tt }

-- where a number is taken that is not the last
pub taken : (f : Found) → f.next + 1 < 2 ^ 32 → takes f ≡ moved (f.next + 1) f
taken f fits = ap (λ n. moved n f) (omega (arith, fits))

-- labels
with_labels_is : (k : ℕ) (xs : List (List ℕ)) (bs : List Binding) (f : Found) → f.next + length xs < 2 ^ 32 → with_labels k xs (record { scope = bs; found = f }) ≡ record { scope = labels_in_scope k f.next xs bs; found = moved (f.next + length xs) f }
with_labels_is k [] bs f fits = ap (λ n. record { scope = bs; found = moved n f }) (omega arith)
with_labels_is k (x ∷ xs) bs f fits =
    ap (λ g. with_labels k xs (record { scope = bind x (Label k f.next) bs; found = g })) (taken f (omega (arith, fits)))
    ∙ with_labels_is k xs (bind x (Label k f.next) bs) (moved (f.next + 1) f) (omega (arith, fits))
    ∙ ap (λ n. record { scope = labels_in_scope k (f.next + 1) xs (bind x (Label k f.next) bs); found = moved n f }) (omega arith)

pub labels_taken : (k : ℕ) (xs : List (List ℕ)) (bs : List Binding) (f : Found) → (f.next + 1) + length xs < 2 ^ 32 → with_labels k xs (record { scope = bs; found = takes f }) ≡ record { scope = labels_in_scope k (f.next + 1) xs bs; found = moved ((f.next + 1) + length xs) f }
labels_taken k xs bs f fits = ap (λ g. with_labels k xs (record { scope = bs; found = g })) (taken f (omega (arith, fits))) ∙ with_labels_is k xs bs (moved (f.next + 1) f) fits

-- where f.next is the number of the spot
at_spot : {i : ℕ} {f g : Found} (told_at : Spot → List Point) → ((n : ℕ) → Tied (told_at (record { place = n; number = f.next })) i f g) → (s : Spot) → f.next ≡ s.number → Tied (told_at s) i f g
at_spot {i = i} {f = f} {g = g} told_at t s e = subst (λ m. Tied (told_at (record { place = s.place; number = m })) i f g) e (t s.place)

-- VALOF
pub valof_tied : (l : ℕ) (c : Command) → CTied c → CInside c → ETied (valof l c)
valof_tied l c tc ic r h bs p s f e fits = at_spot (λ u. reported r bs p u (valof l c)) here s e where
  here : (n : ℕ) → Tied (reported r bs p (record { place = n; number = f.next }) (valof l c)) (numbers (valof l c)) f (evaluated r bs p (valof l c) f)
  here n =
      let q : Enclosing = labelled f.next (valued p) in
      let u : Spot = onward 1 (1 + length (labels_of c)) (record { place = n; number = f.next }) in
      let g : Found = moved ((f.next + 1) + length (labels_of c)) f in
      let cs : List Binding = labels_in_scope p.procedure (f.next + 1) (labels_of c) bs in
      let body : Tied (reported_done cs q u c) (numbers_done c) g (done cs q c g) = tc cs q u g (omega arith) (omega (arith, fits, e)) in
      let all : Tied (reported_done cs q u c) ((1 + length (labels_of c)) + numbers_done c) f (done cs q c g) = behind_it (no_span n) (ic cs q u) (omega arith) (moved_tied (1 + length (labels_of c)) g.next f (omega arith)) body in
      subst (λ v. Tied (reported r bs p (record { place = n; number = f.next }) (valof l c)) (numbers (valof l c)) f
      (let t : Stage = with_labels p.procedure (labels_of c) (record { scope = bs; found = takes v }) in reaches (p.depth + 1) (done t.scope (labelled v.next (valued p)) c t.found)))
      (sym (without_plain r bs p.procedure (valof l c) f h))
      (subst (λ (t : Stage). Tied (reported r bs p (record { place = n; number = f.next }) (valof l c)) (numbers (valof l c)) f (reaches (p.depth + 1) (done t.scope q c t.found)))
      (sym (labels_taken p.procedure (labels_of c) bs f (omega (arith, fits, e))))
      (recount _ (behind_it (ic cs q u) (pushed_spans (u.place + symbols_done c) p 1) (omega arith) all (pushed_tied p 1 (done cs q c g))) (omega arith)))

-- SWITCHON
pub switch_tied : (l : ℕ) (a : Expression) (c : Command) → ETied a → EInside a → CTied c → CInside c → CTied (switch l a c)
switch_tied l a c ta ia tc ic bs p s f e fits =
    let g : Found = evaluated Value bs p a f in
    let one : Tied (reported Value bs p s a) (numbers a) f g = ta Value tt bs p s f e (omega (arith, fits)) in
    let u : Spot = numbered 1 (following a s) in
    let m : ℕ = (following a s).number in
    let same : g.next ≡ m = omega (arith, one.next, e) in
    let two : Tied (reported_done bs (switching m p) u c) (numbers_done c) (takes g) (done bs (switching m p) c (takes g)) = tc bs (switching m p) u (takes g) (omega (arith, same, fits)) (omega (arith, fits)) in
    subst (λ n. Tied (reported_done bs p s (switch l a c)) (numbers_done (switch l a c)) f (done bs (switching n p) c (takes g))) (sym same)
    (behind_it (ia Value bs p s) (ic bs (switching m p) u) (omega arith) one
    (behind_it (no_span (s.place + symbols a)) (ic bs (switching m p) u) (omega arith) (moved_tied 1 (takes g).next g (omega (arith, same, fits))) two))

-- a block with declarations
pub record DsTied (ds : Declarations) : Type 0 where
  pub scope : (bs : List Binding) (p : Enclosing) (s : Spot) (f : Found) → f.next ≡ s.number → s.number + numbers_declared ds < 2 ^ 32 → (declared bs p ds f).scope ≡ scope_after bs p s ds
  pub place : (bs : List Binding) (p : Enclosing) (s : Spot) (f : Found) → f.next ≡ s.number → s.number + numbers_declared ds < 2 ^ 32 → (declared bs p ds f).place ≡ place_after_all bs p s ds
  pub found : (bs : List Binding) (p : Enclosing) (s : Spot) (f : Found) → f.next ≡ s.number → s.number + numbers_declared ds < 2 ^ 32 → Tied (reported_declared bs p s ds) (numbers_declared ds) f (declared bs p ds f).found

abbrev pub DsInside : Declarations → Type 0
DsInside ds = (bs : List Binding) (p : Enclosing) (s : Spot) → Spans s.place (s.place + symbols_declared ds) (reported_declared bs p s ds)

abbrev pub CsTied : Commands → Type 0
CsTied cs = (bs : List Binding) (p : Enclosing) (s : Spot) (f : Found) → f.next ≡ s.number → s.number + numbers_done_each cs < 2 ^ 32 → Tied (reported_done_each bs p s cs) (numbers_done_each cs) f (each_done bs p cs f)

abbrev pub CsInside : Commands → Type 0
CsInside cs = (bs : List Binding) (p : Enclosing) (s : Spot) → Spans s.place (s.place + symbols_done_each cs) (reported_done_each bs p s cs)

pub block_tied : (l : ℕ) (d : Declaration) (ds : Declarations) (cs : Commands) → DsTied (declare d ds) → DsInside (declare d ds) → CsTied cs → CsInside cs → CTied (block l (declare d ds) cs)
block_tied l d ds cs td id tc ic bs p s f e fits =
    let b : AfterDeclarations = declared bs p (declare d ds) f in
    let u : Spot = after_declared (declare d ds) s in
    let one : Tied (reported_declared bs p s (declare d ds)) (numbers_declared (declare d ds)) f b.found = td.found bs p s f e (omega (arith, fits)) in
    let same : b.found.next ≡ u.number = omega (arith, one.next, e) in
    let q : Enclosing = labelled u.number (place_after_all bs p s (declare d ds)) in
    let xs : List Binding = labels_in_scope p.procedure (u.number + 1) (labels_of_each cs) (scope_after bs p s (declare d ds)) in
    let v : Spot = numbered (1 + length (labels_of_each cs)) u in
    let g : Found = moved ((b.found.next + 1) + length (labels_of_each cs)) b.found in
    let body : Tied (reported_done_each xs q v cs) (numbers_done_each cs) g (each_done xs q cs g) = tc xs q v g (omega (arith, same)) (omega (arith, fits)) in
    let all : Tied (reported_done bs p s (block l (declare d ds) cs)) (numbers_done (block l (declare d ds) cs)) f (each_done xs q cs g) =
    behind_it (id bs p s) (ic xs q v) (omega arith) one (behind_it (no_span (s.place + symbols_declared (declare d ds))) (ic xs q v) (omega arith) (moved_tied (1 + length (labels_of_each cs)) g.next b.found (omega arith)) body) in
    let T : Found → Type 0 = Tied (reported_done bs p s (block l (declare d ds) cs)) (numbers_done (block l (declare d ds) cs)) f in
    subst (λ (t : Stage). T (each_done t.scope (labelled b.found.next b.place) cs t.found)) (sym (labels_taken p.procedure (labels_of_each cs) b.scope b.found (omega (arith, same, fits))))
    (subst (λ zs. T (each_done (labels_in_scope p.procedure (b.found.next + 1) (labels_of_each cs) zs) (labelled b.found.next b.place) cs g)) (sym (td.scope bs p s f e (omega (arith, fits))))
    (subst (λ z. T (each_done (labels_in_scope p.procedure (b.found.next + 1) (labels_of_each cs) (scope_after bs p s (declare d ds))) (labelled b.found.next z) cs g)) (sym (td.place bs p s f e (omega (arith, fits))))
    (subst (λ n. T (each_done (labels_in_scope p.procedure (n + 1) (labels_of_each cs) (scope_after bs p s (declare d ds))) (labelled n (place_after_all bs p s (declare d ds))) cs g)) (sym same) all)))

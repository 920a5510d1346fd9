-- The pass and what is told: the definitions of a LET.
use Rattle.bk_scope.proofs.Terms.{◌≡◌, ℕ, ◌+◌, ◌^◌, ◌<◌, List, [], ◌++◌, refl, sym, ap, ◌∙◌, subst, append_assoc, arith, append-nil, Mention, Expression, Command, Definition, Definitions, definitions, routine, function, variables, no_definitions, define, Enclosing, Binding, bind_all, Found, takes, Stage, with_procedures, Defined, variables_of, defined, one_defined, one_declared, Spot, procedures_in, numbered, after_one_defined, symbols_defined, symbols_one_defined, numbers_defined, numbers_one_defined, numbers_one_declared, procedure_in_scope, procedures_in_scope, place_after_one_defined, place_after_defined, variables_in_scope, scope_after_one, place_after_one, reported_one_defined, reported_defined, reported_one_declared}
use Rattle.bk_scope.proofs.Tied.{Tied, Spans, behind_it, nothing_told}
use Rattle.bk_scope.proofs.Operators.{ETied, EInside, CTied, CInside}
use Rattle.bk_scope.proofs.Scopes.{moved, moved_tied, no_span, taken}
use Rattle.bk_scope.proofs.Procedures.{routine_tied, function_tied}

with_procedures_is : (ds : Definitions) (bs : List Binding) (f : Found) → f.next + procedures_in ds < 2 ^ 32 → with_procedures ds (record { scope = bs; found = f }) ≡ record { scope = procedures_in_scope f.next ds bs; found = moved (f.next + procedures_in ds) f }
with_procedures_is no_definitions bs f fits = ap (λ n. record { scope = bs; found = moved n f }) (omega arith)
with_procedures_is (define (routine l x fs c) ds) bs f fits =
    ap (λ g. with_procedures ds (record { scope = procedure_in_scope f.next x bs; found = g })) (taken f (omega (arith, fits)))
    ∙ with_procedures_is ds (procedure_in_scope f.next x bs) (moved (f.next + 1) f) (omega (arith, fits))
    ∙ ap (λ n. record { scope = procedures_in_scope (f.next + 1) ds (procedure_in_scope f.next x bs); found = moved n f }) (omega arith)
with_procedures_is (define (function l x fs c) ds) bs f fits =
    ap (λ g. with_procedures ds (record { scope = procedure_in_scope f.next x bs; found = g })) (taken f (omega (arith, fits)))
    ∙ with_procedures_is ds (procedure_in_scope f.next x bs) (moved (f.next + 1) f) (omega (arith, fits))
    ∙ ap (λ n. record { scope = procedures_in_scope (f.next + 1) ds (procedure_in_scope f.next x bs); found = moved n f }) (omega arith)
with_procedures_is (define (variables l xs is) ds) bs f fits = with_procedures_is ds bs f fits

procedures_taken : (ds : Definitions) (bs : List Binding) (f : Found) → (f.next + 1) + procedures_in ds < 2 ^ 32 → with_procedures ds (record { scope = bs; found = takes f }) ≡ record { scope = procedures_in_scope (f.next + 1) ds bs; found = moved ((f.next + 1) + procedures_in ds) f }
procedures_taken ds bs f fits = ap (λ g. with_procedures ds (record { scope = bs; found = g })) (taken f (omega (arith, fits))) ∙ with_procedures_is ds bs (moved (f.next + 1) f) fits

abbrev pub fresh_of : List Binding → Enclosing → Definition → List Binding
fresh_of bs p (variables l xs is) = variables_of bs p xs is
fresh_of bs p _ = []

fresh_first : (bs : List Binding) (p : Enclosing) (d : Definition) (ds : Definitions) → variables_in_scope bs p (define d ds) ≡ fresh_of bs p d ++ variables_in_scope bs (place_after_one_defined bs p d) ds
fresh_first bs p (variables l xs is) ds = refl
fresh_first bs p _ ds = refl

abbrev pub start : List Binding → Enclosing → Found → Defined
start zs p f = record { fresh = zs; place = p; found = f }

pub record OneTied (d : Definition) : Type 0 where
  pub fresh : (m : ℕ) (bs : List Binding) (p : Enclosing) (zs : List Binding) (f : Found) → (one_defined m bs d (start zs p f)).fresh ≡ zs ++ fresh_of bs p d
  pub place : (m : ℕ) (bs : List Binding) (p : Enclosing) (zs : List Binding) (f : Found) → (one_defined m bs d (start zs p f)).place ≡ place_after_one_defined bs p d
  pub found : (m : ℕ) (bs : List Binding) (p : Enclosing) (s : Spot) (zs : List Binding) (f : Found) → f.next ≡ s.number → s.number + numbers_one_defined d < 2 ^ 32 → Tied (reported_one_defined m bs p s d) (numbers_one_defined d) f (one_defined m bs d (start zs p f)).found

abbrev pub OneInside : Definition → Type 0
OneInside d = (m : ℕ) (bs : List Binding) (p : Enclosing) (s : Spot) → Spans s.place (s.place + symbols_one_defined d) (reported_one_defined m bs p s d)

pub record AllTied (ds : Definitions) : Type 0 where
  pub fresh : (m : ℕ) (bs : List Binding) (p : Enclosing) (zs : List Binding) (f : Found) → (defined m bs ds (start zs p f)).fresh ≡ zs ++ variables_in_scope bs p ds
  pub place : (m : ℕ) (bs : List Binding) (p : Enclosing) (zs : List Binding) (f : Found) → (defined m bs ds (start zs p f)).place ≡ place_after_defined bs p ds
  pub found : (m : ℕ) (bs : List Binding) (p : Enclosing) (s : Spot) (zs : List Binding) (f : Found) → f.next ≡ s.number → s.number + numbers_defined ds < 2 ^ 32 → Tied (reported_defined m bs p s ds) (numbers_defined ds) f (defined m bs ds (start zs p f)).found

abbrev pub AllInside : Definitions → Type 0
AllInside ds = (m : ℕ) (bs : List Binding) (p : Enclosing) (s : Spot) → Spans s.place (s.place + symbols_defined ds) (reported_defined m bs p s ds)

pub routine_one : (l : ℕ) (x : List ℕ) (fs : List Mention) (c : Command) → CTied c → CInside c → OneTied (routine l x fs c)
routine_one l x fs c t i = record { fresh = λ m bs p zs f. sym (append-nil zs); place = λ m bs p zs f. refl; found = λ m bs p s zs f e fits. routine_tied m l x fs c t i bs p s (start zs p f) e fits }

pub function_one : (l : ℕ) (x : List ℕ) (fs : List Mention) (a : Expression) → ETied a → EInside a → OneTied (function l x fs a)
function_one l x fs a t i = record { fresh = λ m bs p zs f. sym (append-nil zs); place = λ m bs p zs f. refl; found = λ m bs p s zs f e fits. function_tied m l x fs a t i bs p s (start zs p f) e fits }

pub none_tied : AllTied no_definitions
none_tied = record { fresh = λ m bs p zs f. sym (append-nil zs); place = λ m bs p zs f. refl; found = λ m bs p s zs f e fits. nothing_told f }

pub define_tied : (d : Definition) (ds : Definitions) → OneTied d → OneInside d → AllTied ds → AllInside ds → AllTied (define d ds)
define_tied d ds t i u j = record {
  fresh = λ m bs p zs f.
      let r : Defined = one_defined m bs d (start zs p f) in
      u.fresh m bs r.place r.fresh r.found ∙ ap (λ ys. ys ++ variables_in_scope bs r.place ds) (t.fresh m bs p zs f)
      ∙ ap (λ (q : Enclosing). zs ++ fresh_of bs p d ++ variables_in_scope bs q ds) (t.place m bs p zs f)
      ∙ append_assoc zs (fresh_of bs p d) _ ∙ ap (λ ys. zs ++ ys) (sym (fresh_first bs p d ds));
  place = λ m bs p zs f.
      let r : Defined = one_defined m bs d (start zs p f) in
      u.place m bs r.place r.fresh r.found ∙ ap (λ (q : Enclosing). place_after_defined bs q ds) (t.place m bs p zs f);
  found = λ m bs p s zs f e fits.
      let r : Defined = one_defined m bs d (start zs p f) in
      let z : Enclosing = place_after_one_defined bs p d in
      let v : Spot = after_one_defined d s in
      let one : Tied (reported_one_defined m bs p s d) (numbers_one_defined d) f r.found = t.found m bs p s zs f e (omega (arith, fits)) in
      let two : Tied (reported_defined m bs z v ds) (numbers_defined ds) r.found (defined m bs ds r).found =
      subst (λ (q : Enclosing). Tied (reported_defined m bs q v ds) (numbers_defined ds) r.found (defined m bs ds r).found) (t.place m bs p zs f) (u.found m bs r.place v r.fresh r.found (omega (arith, one.next, e)) (omega (arith, fits))) in
      behind_it (i m bs p s) (j m bs z v) (omega arith) one two;
}

-- A LET: what is told, what comes into scope, and where the frame goes on
pub let_told : (l : ℕ) (x : Definition) (xs : Definitions) → AllTied (define x xs) → AllInside (define x xs) → (bs : List Binding) (p : Enclosing) (s : Spot) (f : Found) → f.next ≡ s.number → s.number + numbers_one_declared (definitions l (define x xs)) < 2 ^ 32
    → Tied (reported_one_declared bs p s (definitions l (define x xs))) (numbers_one_declared (definitions l (define x xs))) f (one_declared bs p (definitions l (define x xs)) f).found
    × ((one_declared bs p (definitions l (define x xs)) f).scope ≡ scope_after_one bs p s (definitions l (define x xs)))
    × ((one_declared bs p (definitions l (define x xs)) f).place ≡ place_after_one bs p s (definitions l (define x xs)))
let_told l x xs t i bs p s f e fits =
    let ds : Definitions = define x xs in
    let W : ℕ → List Binding → Found → Type 0 = λ m cs g.
    Tied (reported_one_declared bs p s (definitions l ds)) (numbers_one_declared (definitions l ds)) f (defined m cs ds (start [] p g)).found
    × (bind_all (defined m cs ds (start [] p g)).fresh cs ≡ scope_after_one bs p s (definitions l ds))
    × ((defined m cs ds (start [] p g)).place ≡ place_after_one bs p s (definitions l ds)) in
    let cs : List Binding = procedures_in_scope (s.number + 1) ds bs in
    let g : Found = moved ((f.next + 1) + procedures_in ds) f in
    let u : Spot = numbered (1 + procedures_in ds) s in
    let body : Tied (reported_defined s.number cs p u ds) (numbers_defined ds) g (defined s.number cs ds (start [] p g)).found = t.found s.number cs p u [] g (omega (arith, e)) (omega (arith, fits)) in
    let here : W s.number cs g = (
      behind_it (no_span s.place) (i s.number cs p u) (omega arith) (moved_tied (1 + procedures_in ds) g.next f (omega arith)) body,
      ap (λ ys. bind_all ys cs) (t.fresh s.number cs p [] g),
      t.place s.number cs p [] g,
    ) in
    subst (λ (v : Stage). W f.next v.scope v.found) (sym (procedures_taken ds bs f (omega (arith, e, fits))))
    (subst (λ n. W n (procedures_in_scope (n + 1) ds bs) g) (sym e) here)

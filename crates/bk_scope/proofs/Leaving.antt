-- Scopes that something was added to, and that are left again.
use Rattle.bk_scope.proofs.Terms.{arith, ◌≡◌, ℕ, ◌+◌, ◌-◌, ◌≤◌, Bool, true, false, cond, List, [], ◌∷◌, ◌++◌, length, drop, refl, sym, ap, ◌∙◌, append_assoc, length-append, Sort as s, Mention, Items, no_items, item, Definitions, no_definitions, define, routine, function, variables, Declaration, Declarations, no_declarations, declare, constants, definitions, Enclosing, Binding, bound_in, bind_all, is_global, Found, takes, kept, Stage, with_labels, with_formals, with_procedure, with_procedures, AfterDeclarations, manifests, statics, globals, defined, one_declared, declared}
use Rattle.std.proofs.Math.Seq.{drop-append_seam}

-- the scope cs has these declarations inside bs
abbrev pub Above : List Binding → List Binding → Type 0
Above bs cs = (ys : List Binding) × (cs ≡ ys ++ bs)

pub same : (bs : List Binding) → Above bs bs
same bs = ([], refl)

pub one_above : (x : Binding) (bs cs : List Binding) → Above (x ∷ bs) cs → Above bs cs
one_above x bs cs h = (h.0 ++ x ∷ [], h.1 ∙ sym (append_assoc h.0 (x ∷ []) bs))

pub both : (bs cs ds : List Binding) → Above bs cs → Above cs ds → Above bs ds
both bs cs ds h g = (g.0 ++ h.0, g.1 ∙ ap (λ (zs : List Binding). g.0 ++ zs) h.1 ∙ sym (append_assoc g.0 h.0 bs))

back_of : (ys bs : List Binding) → drop (length (ys ++ bs) - length bs) (ys ++ bs) ≡ bs
back_of ys bs = ap (λ (n : ℕ). drop n (ys ++ bs)) (ap (λ (n : ℕ). n - length bs) (length-append ys bs) ∙ omega arith) ∙ drop-append_seam ys bs

-- it can be left
pub back : (bs cs : List Binding) → Above bs cs → drop (length cs - length bs) cs ≡ bs
back bs cs h = rw h.1 (back_of h.0 bs)

pub longer : (bs cs : List Binding) → Above bs cs → length bs ≤ length cs
longer bs cs h = rw h.1 (rw (length-append h.0 bs) (omega arith))

pub labels_above : (k : ℕ) (xs : List (List ℕ)) (t : Stage) → Above t.scope (with_labels k xs t).scope
labels_above k [] t = same t.scope
labels_above k (x ∷ xs) t = one_above _ t.scope _ (labels_above k xs _)

pub formals_above : (k d : ℕ) (xs : List Mention) (bs : List Binding) → Above bs (with_formals k d xs bs)
formals_above k d [] bs = same bs
formals_above k d (x ∷ xs) bs = one_above _ bs _ (formals_above k (kept (d + 1)) xs _)

pub all_above : (xs bs : List Binding) → Above bs (bind_all xs bs)
all_above [] bs = same bs
all_above (x ∷ xs) bs = one_above x bs _ (all_above xs (x ∷ bs))

either_above : (b : Bool) (bs cs ds : List Binding) → Above bs cs → Above bs ds → Above bs (cond b cs ds)
either_above true bs cs ds h g = h
either_above false bs cs ds h g = g

procedure_above : (x : List ℕ) (t : Stage) → Above t.scope ((with_procedure x t).scope)
procedure_above x t = either_above (is_global (bound_in t.scope x)) t.scope t.scope _ (same t.scope) (one_above _ t.scope _ (same _))

pub procedures_above : (ds : Definitions) (t : Stage) → Above t.scope ((with_procedures ds t).scope)
procedures_above no_definitions t = same t.scope
procedures_above (define (routine l x fs c) ds) t = both t.scope _ _ (procedure_above x t) (procedures_above ds (with_procedure x t))
procedures_above (define (function l x fs e) ds) t = both t.scope _ _ (procedure_above x t) (procedures_above ds (with_procedure x t))
procedures_above (define (variables l xs is) ds) t = procedures_above ds t

manifests_above : (n k : ℕ) (is : Items) (t : Stage) → Above t.scope ((manifests n k is t).scope)
manifests_above n k no_items t = same t.scope
manifests_above n k (item l x e is) t = one_above _ t.scope _ (manifests_above n k is _)

statics_above : (bs : List Binding) (n k : ℕ) (is : Items) (t : Stage) → Above t.scope ((statics bs n k is t).scope)
statics_above bs n k no_items t = same t.scope
statics_above bs n k (item l x e is) t = one_above _ t.scope _ (statics_above bs n k is _)

globals_above : (bs : List Binding) (n k : ℕ) (is : Items) (t : Stage) → Above t.scope ((globals bs n k is t).scope)
globals_above bs n k no_items t = same t.scope
globals_above bs n k (item l x e is) t = one_above _ t.scope _ (globals_above bs n k is _)

one_declared_above : (bs : List Binding) (p : Enclosing) (d : Declaration) (f : Found) → Above bs ((one_declared bs p d f).scope)
one_declared_above bs p (constants l s.Manifest (item m x e is)) f = manifests_above f.next p.procedure (item m x e is) (record { scope = bs; found = takes f })
one_declared_above bs p (constants l s.Static (item m x e is)) f = statics_above bs f.next p.procedure (item m x e is) (record { scope = bs; found = takes f })
one_declared_above bs p (constants l s.Global (item m x e is)) f = globals_above bs f.next p.procedure (item m x e is) (record { scope = bs; found = takes f })
one_declared_above bs p (definitions l (define x xs)) f =
    let ds : Definitions = define x xs in
    let t : Stage = with_procedures ds (record { scope = bs; found = takes f }) in
    both bs t.scope _ (procedures_above ds (record { scope = bs; found = takes f })) (all_above ((defined f.next t.scope ds (record { fresh = []; place = p; found = t.found })).fresh) t.scope)
one_declared_above bs p _ f = same bs

pub declared_above : (ds : Declarations) (bs : List Binding) (p : Enclosing) (f : Found) → Above bs ((declared bs p ds f).scope)
declared_above no_declarations bs p f = same bs
declared_above (declare d ds) bs p f =
    let b : AfterDeclarations = one_declared bs p d f in
    both bs b.scope _ (one_declared_above bs p d f) (declared_above ds b.scope b.place b.found)

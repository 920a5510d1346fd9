-- Each number has one target at most: labels have numbers of their own where they come into scope, and so have the procedures of a LET
-- and the items of STATIC; in one list no name stands twice.
use Rattle.bk_scope.specs.Spots as spots
use Rattle.bk_trans.proofs.Once.{past as beyond, own, no_more}
use Rattle.bk_trans.proofs.Scopes.{Among, procedure_names, look_label, look_procedure, AllFound}
use Rattle.bk_trans.proofs.Reported.{told_front, told_back}
use Rattle.bk_trans.proofs.Nested.{Quiet, body_quiet}
use Rattle.bk_trans.proofs.Asked.{Asked, for_value, for_truth, role, asked, arith, ◌≡◌, inl, inr, ℕ, ◌+◌, ◌≤◌, Bool, true, false, cond, Option, Some, List, [], ◌∷◌, ◌++◌, length, refl, sym, ap, subst, ◌∙◌, ⊤, VEC_NUMBER, Expression, Expressions, Command, Commands, Declaration, Declarations, Items, Definition, Definitions, Starts, parens, unary, binary, choice, apply, valof, none, more, assign, call, label, case_of, default, when, test, while, for_loop, switch, result, block, repeat, repeat_while, no_commands, also, constants, definitions, no_declarations, declare, no_items, item, routine, function, variables, no_definitions, define, no_starts, value, vector, at_expression, size, Bound, Static, Variable, Label, Enclosing, Role, Value, Truth, Address, Destination, not_assignable, no_result_or_return, vec_out_of_range, Binding, bound_in, bind, constant_word, deeper, looping, switching, labelled, valued, called, outermost, labels_of, labels_of_each, with_formals, parenthesised, words_of_start, Spot, procedures_in, onward, past, following, after_each, after_done, after_declared, after_one_declared, after_one_defined, after_constant, symbols_each, beginning, Claim, is_claimed, Point, meaning, word, depth, wrong, claim, claimed, judged, at, labels_in_scope, procedures_in_scope, place_after_one_defined, scope_after_one, place_after_one, scope_after, place_after_all, unless, its_meaning, constant, each_constant, at_most, assigned, prefixed, pushed, chosen_at, defaulted_at, one_of, each_of, reported, reported_each, reported_destinations, reported_done, reported_done_each, reported_declared, reported_one_declared, reported_defined, reported_one_defined, reported_started, naming, same_claim, Fault, is_global, numbers, numbers_each, numbers_done, numbers_done_each, numbers_declared, numbers_one_declared, numbers_items, numbers_defined, numbers_one_defined, numbers_started, procedure_in_scope, eqb-true, eq-eqb, ◌==◌, joined, sets, total, total_both, all_found, Operator as o, Prefix as sign, Sort as sort, Clean, Target, meant, worth, statics_named, term_named, terms_named, condition_named, lvalue_named, lvalues_named, command_named, commands_named, declarations_named, declaration_named, definitions_named, definition_named, starts_named, labels, labels_if, labels_at, labels_onto, labels_in, labels_of_declaration, labels_of_declarations, labels_of_definition, count, after_definition, after_declaration, after_declarations, Part, parts_each, parts_if, parts_at, parts_onto, parts_from, parts_in, parts_through, parts_of_items, parts_of_declarations, parts_of_declaration, parts_of_definitions, parts_of_definition, parts_of_starts, goal_of, labels_of_procedure, bytes_eq, bytes_eq-Decides, target_of, target_of_word, target_of_label, goal}

-- how often a target has a number
abbrev pub numbered : ℕ → List Target → ℕ
numbered m xs = total (λ x. sets m (Some x.number)) xs

abbrev pub parts_numbered : ℕ → List Part → ℕ
parts_numbered m xs = total (λ x. numbered m (target_of x)) xs

abbrev bit : Bool → ℕ
bit true = 1
bit false = 0

-- how often a name is claimed in a list
abbrev claimed_once : ℕ → List ℕ → Point → ℕ
claimed_once k x (claim c f) = bit (same_claim (naming k x) c)
claimed_once k x _ = 0

abbrev times_claimed : ℕ → List ℕ → List Point → ℕ
times_claimed k x zs = total (claimed_once k x) zs

if_both : (a b : Bool) → cond a b false ≡ true → (a ≡ true) × (b ≡ true)
if_both true b e = (refl, e)
if_both false b e = absurd (let n : false ≡ true = e in cc)

same_naming : (k : ℕ) (x : List ℕ) (c : Claim) → same_claim (naming k x) c ≡ true → c ≡ naming k x
same_naming k x (naming j y) e =
    let h = if_both (k == j) (bytes_eq x y) e in
    ap (λ n. naming n y) (sym (eqb-true k j h.0)) ∙ ap (λ z. naming k z) (sym ((bytes_eq-Decides x y).0 h.1))
same_naming k x _ e = absurd (let n : false ≡ true = e in cc)

naming_same : (k : ℕ) (x : List ℕ) → same_claim (naming k x) (naming k x) ≡ true
naming_same k x = ap (λ (b : Bool). cond b (bytes_eq x x) false) (eq-eqb k k refl) ∙ (bytes_eq-Decides x x).1 refl

no_fault : (q : Bool) (f : Fault) (fs : List Fault) → cond q (f ∷ []) [] ++ fs ≡ [] → (q ≡ false) × (fs ≡ [])
no_fault true f fs e = absurd (cc)
no_fault false f fs e = (refl, e)

claimed_first : (q : Bool) (c : Claim) (cs : List Claim) → q ≡ false → cond q cs (c ∷ cs) ≡ c ∷ cs
claimed_first true c cs e = absurd (let n : true ≡ false = e in cc)
claimed_first false c cs e = refl

claimed_more : (c d : Claim) (cs : List Claim) → is_claimed c cs ≡ true → is_claimed c (d ∷ cs) ≡ true
claimed_more c d cs h = pick (same_claim c d)
  where
    pick : (q : Bool) → cond q true (is_claimed c cs) ≡ true
    pick true = refl
    pick false = h

claimed_here : (c : Claim) (cs : List Claim) → same_claim c c ≡ true → is_claimed c (c ∷ cs) ≡ true
claimed_here c cs h = ap (λ (q : Bool). cond q true (is_claimed c cs)) h

-- what was claimed before is not claimed again
never_again : (k : ℕ) (x : List ℕ) (xs : List Point) (cs : List Claim) → Clean cs xs → is_claimed (naming k x) cs ≡ true → times_claimed k x xs ≡ 0
never_again k x [] cs h e = refl
never_again k x (wrong f ∷ xs) cs h e = absurd (let n : f ∷ judged cs xs ≡ [] = h in cc)
never_again k x (claim c f ∷ xs) cs h e =
    let g = no_fault (is_claimed c cs) f (judged (claimed c cs) xs) h in
    let new = claimed_first (is_claimed c cs) c cs g.0 in
    let rest = never_again k x xs (claimed c cs) g.1 (subst (λ ds. is_claimed (naming k x) ds ≡ true) (sym new) (claimed_more (naming k x) c cs e)) in
    pick (same_claim (naming k x) c) refl g.0 rest
  where
    pick : (q : Bool) → same_claim (naming k x) c ≡ q → is_claimed c cs ≡ false → times_claimed k x xs ≡ 0 → times_claimed k x (claim c f ∷ xs) ≡ 0
    pick true same fresh rest = absurd (let n : true ≡ false = sym e ∙ sym (ap (λ d. is_claimed d cs) (same_naming k x c same)) ∙ fresh in cc)
    pick false same fresh rest = let none : bit (same_claim (naming k x) c) ≡ 0 = ap bit same in omega (arith, none, rest)
never_again k x (_ ∷ xs) cs h e = let g = never_again k x xs cs h e in omega (arith, g)

claimed_at_most_once : (k : ℕ) (x : List ℕ) (xs : List Point) (cs : List Claim) → Clean cs xs → times_claimed k x xs ≤ 1
claimed_at_most_once k x [] cs h = omega arith
claimed_at_most_once k x (wrong f ∷ xs) cs h = absurd (let n : f ∷ judged cs xs ≡ [] = h in cc)
claimed_at_most_once k x (claim c f ∷ xs) cs h =
    let g = no_fault (is_claimed c cs) f (judged (claimed c cs) xs) h in
    pick (same_claim (naming k x) c) refl (claimed_at_most_once k x xs (claimed c cs) g.1)
    (λ same. never_again k x xs (claimed c cs) g.1 (subst (λ ds. is_claimed (naming k x) ds ≡ true) (sym (claimed_first (is_claimed c cs) c cs g.0))
    (subst (λ d. is_claimed (naming k x) (d ∷ cs) ≡ true) (sym (same_naming k x c same)) (claimed_here (naming k x) cs (naming_same k x)))))
  where
    pick : (q : Bool) → same_claim (naming k x) c ≡ q → times_claimed k x xs ≤ 1 → (same_claim (naming k x) c ≡ true → times_claimed k x xs ≡ 0) → times_claimed k x (claim c f ∷ xs) ≤ 1
    pick true same low gone = let z = gone same in let one : bit (same_claim (naming k x) c) ≡ 1 = ap bit same in omega (arith, one, z)
    pick false same low gone = let zero : bit (same_claim (naming k x) c) ≡ 0 = ap bit same in omega (arith, zero, low)
claimed_at_most_once k x (_ ∷ xs) cs h = let g = claimed_at_most_once k x xs cs h in omega (arith, g)

-- names, each claimed in list k
abbrev name_times : ℕ → List ℕ → List (List ℕ) → ℕ
name_times k y xs = total (λ x. bit (same_claim (naming k y) (naming k x))) xs

abbrev Distinct : List (List ℕ) → Type 0
Distinct [] = ⊤
Distinct (x ∷ xs) = (Among x xs → ⊥) × Distinct xs

among_times : (k : ℕ) (y : List ℕ) (xs : List (List ℕ)) → Among y xs → 1 ≤ name_times k y xs
among_times k y [] h = elim h [ ]
among_times k y (x ∷ xs) (inl same) =
    let one : bit (same_claim (naming k y) (naming k x)) ≡ 1 = ap bit (subst (λ z. same_claim (naming k y) (naming k z) ≡ true) (sym same) (naming_same k y)) in omega (arith, one)
among_times k y (x ∷ xs) (inr h) = let g = among_times k y xs h in omega (arith, g)

distinct_names : (k : ℕ) (xs : List (List ℕ)) → ((y : List ℕ) → name_times k y xs ≤ 1) → Distinct xs
distinct_names k [] h = tt
distinct_names k (x ∷ xs) h =
    let one : bit (same_claim (naming k x) (naming k x)) ≡ 1 = ap bit (naming_same k x) in
    let low = h x in
    (λ among. let many = among_times k x xs among in absurd (omega (arith, one, low, many)), distinct_names k xs (λ y. let g = h y in omega (arith, g)))

distinct_if_claimed : (k : ℕ) (xs : List (List ℕ)) (zs : List Point) → ((y : List ℕ) → name_times k y xs ≤ times_claimed k y zs) → Quiet zs → Distinct xs
distinct_if_claimed k xs zs claimed f = distinct_names k xs (λ y. let h = claimed y in let i = claimed_at_most_once k y zs f.claims f.clean in omega (arith, h, i))

-- the labels of some commands are claimed by them
mutual
  labels_claimed : (y : List ℕ) (bs : List Binding) (p : Enclosing) (s : Spot) (c : Command) → name_times p.labels y (labels_of c) ≤ times_claimed p.labels y (reported_done bs p s c)
  labels_claimed y bs p s (label l x c) = let h = labels_claimed y bs p (past 1 s) c in simp total_both (omega (arith, h))
  labels_claimed y bs p s (case_of l e c) = let h = labels_claimed y bs p (after_constant e (past 1 s)) c in simp total_both (omega (arith, h))
  labels_claimed y bs p s (default l c) = let h = labels_claimed y bs p (past 1 s) c in simp total_both (omega (arith, h))
  labels_claimed y bs p s (when l b e c) = let h = labels_claimed y bs p (following e s) c in simp total_both (omega (arith, h))
  labels_claimed y bs p s (test l e a b) =
      let h = labels_claimed y bs p (following e s) a in let i = labels_claimed y bs p (after_done a (following e s)) b in simp total_both (omega (arith, h, i))
  labels_claimed y bs p s (while l b e c) = let h = labels_claimed y bs (looping p) (following e s) c in simp total_both (omega (arith, h))
  labels_claimed y bs p s (switch l e c) = let h = labels_claimed y bs (switching (following e s).number p) (spots.numbered 1 (following e s)) c in simp total_both (omega (arith, h))
  labels_claimed y bs p s (block l no_declarations cs) = labels_claimed_each y bs p s cs
  labels_claimed y bs p s (repeat l c) = labels_claimed y bs (looping p) s c
  labels_claimed y bs p s (repeat_while l b c e) = let h = labels_claimed y bs (looping p) s c in simp total_both (omega (arith, h))
  labels_claimed y bs p s _ = omega arith

  labels_claimed_each : (y : List ℕ) (bs : List Binding) (p : Enclosing) (s : Spot) (cs : Commands) → name_times p.labels y (labels_of_each cs) ≤ times_claimed p.labels y (reported_done_each bs p s cs)
  labels_claimed_each y bs p s no_commands = omega arith
  labels_claimed_each y bs p s (also c cs) =
      let h = labels_claimed y bs p s c in let i = labels_claimed_each y bs p (after_done c s) cs in simp total_both (omega (arith, h, i))

-- the procedures of a LET
procedures_claimed : (m : ℕ) (y : List ℕ) (bs : List Binding) (p : Enclosing) (s : Spot) (ds : Definitions) → name_times m y (procedure_names ds) ≤ times_claimed m y (reported_defined m bs p s ds)
procedures_claimed m y bs p s no_definitions = omega arith
procedures_claimed m y bs p s (define (variables l xs is) ds) =
    let h = procedures_claimed m y bs (place_after_one_defined bs p (variables l xs is)) (after_one_defined (variables l xs is) s) ds in simp total_both (omega (arith, h))
procedures_claimed m y bs p s (define d ds) = let h = procedures_claimed m y bs p (after_one_defined d s) ds in simp total_both (omega (arith, h))

-- the numbers of names in scope
abbrev label_number : ℕ → Option Bound → ℕ
label_number m (Some (Label j i)) = sets m (Some i)
label_number m _ = 0

abbrev own_labels : ℕ → List Binding → List (List ℕ) → ℕ
own_labels m bs xs = total (λ x. label_number m (bound_in bs x)) xs

bound_first : (x : List ℕ) (b : Bound) (bs : List Binding) → bound_in (bind x b bs) x ≡ Some b
bound_first x b bs = ap (λ (q : Bool). cond q (Some b) (bound_in bs x)) ((bytes_eq-Decides x x).1 refl)

label_stays : (k n : ℕ) (x : List ℕ) (xs : List (List ℕ)) (bs : List Binding) → (Among x xs → ⊥) → bound_in (labels_in_scope k n xs bs) x ≡ bound_in bs x
label_stays k n x xs bs apart = elim (look_label k n xs bs x) [ inl same ↦ same | inr h ↦ absurd (apart h.0) ]

labels_numbered : (m k n : ℕ) (xs : List (List ℕ)) (bs : List Binding) → Distinct xs → own_labels m (labels_in_scope k n xs bs) xs + beyond m (n + length xs) ≤ beyond m n
labels_numbered m k n [] bs h = omega arith
labels_numbered m k n (x ∷ xs) bs h =
    let cs = bind x (Label k n) bs in
    let i = labels_numbered m k (n + 1) xs cs h.1 in
    let first : label_number m (bound_in (labels_in_scope k (n + 1) xs cs) x) ≡ sets m (Some n) = ap (label_number m) (label_stays k (n + 1) x xs cs h.0 ∙ bound_first x (Label k n) bs) in
    let o = own m n in omega (arith, i, first, o)

abbrev static_number : ℕ → Option Bound → ℕ
static_number m (Some (Static i)) = sets m (Some i)
static_number m _ = 0

abbrev own_procedures : ℕ → List Binding → Definitions → ℕ
own_procedures m bs ds = total (λ x. static_number m (bound_in bs x)) (procedure_names ds)

own_first : (m : ℕ) (bs : List Binding) (d : Definition) (ds : Definitions) → own_procedures m bs (define d ds) ≡ own_procedures m bs (define d no_definitions) + own_procedures m bs ds
own_first m bs (variables l xs is) ds = omega arith
own_first m bs _ ds = omega arith

procedure_stays : (n : ℕ) (x : List ℕ) (ds : Definitions) (bs : List Binding) → (Among x (procedure_names ds) → ⊥) → bound_in (procedures_in_scope n ds bs) x ≡ bound_in bs x
procedure_stays n x ds bs apart = elim (look_procedure n ds bs x) [ inl same ↦ same | inr h ↦ absurd (apart h.0) ]

global_none : (m : ℕ) (y : Option Bound) → is_global y ≡ true → static_number m y ≡ 0
global_none m (Some (Static i)) e = absurd (let n : false ≡ true = e in cc)
global_none m _ e = refl

procedure_number : (m n : ℕ) (x : List ℕ) (bs : List Binding) (g : Bool) → is_global (bound_in bs x) ≡ g → static_number m (bound_in (cond g bs (bind x (Static n) bs)) x) ≤ sets m (Some n)
procedure_number m n x bs true e = let h = global_none m (bound_in bs x) e in omega (arith, h)
procedure_number m n x bs false e = let h : static_number m (bound_in (bind x (Static n) bs) x) ≡ sets m (Some n) = ap (static_number m) (bound_first x (Static n) bs) in omega (arith, h)

procedures_numbered : (m n : ℕ) (ds : Definitions) (bs : List Binding) → Distinct (procedure_names ds) → own_procedures m (procedures_in_scope n ds bs) ds + beyond m (n + procedures_in ds) ≤ beyond m n
procedures_numbered m n no_definitions bs h = omega arith
procedures_numbered m n (define (routine l x fs c) ds) bs h =
    let cs = procedure_in_scope n x bs in
    let i = procedures_numbered m (n + 1) ds cs h.1 in
    let first : static_number m (bound_in (procedures_in_scope (n + 1) ds cs) x) ≡ static_number m (bound_in cs x) = ap (static_number m) (procedure_stays (n + 1) x ds cs h.0) in
    let low = procedure_number m n x bs (is_global (bound_in bs x)) refl in
    let o = own m n in omega (arith, i, first, low, o)
procedures_numbered m n (define (function l x fs e) ds) bs h =
    let cs = procedure_in_scope n x bs in
    let i = procedures_numbered m (n + 1) ds cs h.1 in
    let first : static_number m (bound_in (procedures_in_scope (n + 1) ds cs) x) ≡ static_number m (bound_in cs x) = ap (static_number m) (procedure_stays (n + 1) x ds cs h.0) in
    let low = procedure_number m n x bs (is_global (bound_in bs x)) refl in
    let o = own m n in omega (arith, i, first, low, o)
procedures_numbered m n (define (variables l xs is) ds) bs h = procedures_numbered m n ds bs h

-- targets
label_target : (m n d : ℕ) (y : Option Bound) → numbered m (target_of_label n d (meant y)) ≤ label_number m y
label_target m n d (Some (Label j i)) = omega arith
label_target m n d _ = omega arith

word_target : (m n : ℕ) (y : Option Bound) → numbered m (target_of_word n (meant y)) ≤ static_number m y
word_target m n (Some (Label j i)) = omega arith
word_target m n _ = omega arith

items_numbered : (m : ℕ) (bs : List Binding) (s : Spot) (is : Items) (n : ℕ) → parts_numbered m (parts_of_items n (statics_named bs s is)) + beyond m (s.number + numbers_items sort.Static is) ≤ beyond m s.number
items_numbered m bs s no_items n = omega arith
items_numbered m bs s (item l x e is) n = omega (arith, items_numbered m bs (spots.numbered 1 (after_constant e (past 1 s))) is (n + 1), own m s.number)

-- a LET of nothing takes no number, and has no parts
count_let : (m : ℕ) (bs : List Binding) (p : Enclosing) (s : Spot) (l : ℕ) (ds : Definitions) (d n : ℕ) → parts_numbered m (parts_of_declaration d n (declaration_named bs p s (definitions l ds))) + beyond m (s.number + ((1 + procedures_in ds) + numbers_defined ds)) ≤ beyond m s.number
    → parts_numbered m (parts_of_declaration d n (declaration_named bs p s (definitions l ds))) + beyond m (s.number + numbers_one_declared (definitions l ds)) ≤ beyond m s.number
count_let m bs p s l no_definitions d n h = omega arith
count_let m bs p s l (define x xs) d n h = h

-- EACH NODE: the numbers of its targets are those of labels around, and others from its own place on, each once
module _ (m : ℕ) where
  mutual
    counts : (ask : Asked) (bs : List Binding) (p : Enclosing) (s : Spot) (e : Expression) (d n : ℕ) → Quiet (reported (role ask) bs p s e)
        → parts_numbered m (parts_if d n (asked ask bs p s e)) + beyond m (s.number + numbers e) ≤ beyond m s.number
    counts (for_truth z) bs p s (binary l o.Both k x y) d n f =
        let u : Spot = past 1 (following x s) in
        let h = counts (for_truth z) bs p s x d (n + 1) (told_front (reported Truth bs p s x) _ f) in
        let i = counts (for_truth z) bs p u y d (n + 1 + labels_if (condition_named bs p s x)) (told_back (reported Truth bs p s x) _ f) in simp total_both (omega (arith, h, i))
    counts (for_truth z) bs p s (binary l o.Either k x y) d n f =
        let u : Spot = past 1 (following x s) in
        let h = counts (for_truth z) bs p s x d (n + 1) (told_front (reported Truth bs p s x) _ f) in
        let i = counts (for_truth z) bs p u y d (n + 1 + labels_if (condition_named bs p s x)) (told_back (reported Truth bs p s x) _ f) in simp total_both (omega (arith, h, i))
    counts ask bs p s (unary l sign.Address e) d n f = let h = count_at bs p (past 1 s) (Address false (at_expression e)) e d n (told_back (prefixed sign.Address bs (past 1 s) e) _ f) in omega (arith, h)
    counts ask bs p s (unary l sign.Not e) d n f = let h = counts ask bs p (past 1 s) e d n f in omega (arith, h)
    counts ask bs p s (unary l y e) d n f = let h = counts for_value bs p (past 1 s) e d n f in omega (arith, h)
    counts ask bs p s (choice l k c x y) d n f =
        let u : Spot = past 1 (following c s) in
        let j = n + 2 + labels_if (condition_named bs p s c) in
        let xs = reported Truth bs p s c in
        let ys = reported Value bs p u x in
        let h = counts (for_truth true) bs p s c d (n + 2) (told_front xs ys (told_front (xs ++ ys) _ f)) in
        let i = counts for_value bs p u x d j (told_back xs ys (told_front (xs ++ ys) _ f)) in
        let q = counts for_value bs p (following x u) y d (j + labels (term_named bs p u x)) (told_back (xs ++ ys) _ f) in
        simp total_both (omega (arith, h, i, q))
    counts ask bs p s (apply l k e es) d n f =
        let u : Spot = (past 1 (following e s)) in
        let z : Enclosing = deeper (size es + 2) p in
        let v = term_named bs z s e in
        let h = counts for_value bs z s e (d + 2 + count (terms_named 1 bs (deeper 2 p) u es)) n (told_front (reported Value bs z s e) _ f) in
        let i = count_each bs (deeper 2 p) u es (d + 2) (n + labels v) (told_back (reported Value bs z s e) _ f) in simp total_both (omega (arith, h, i))
    counts ask bs p s (valof l c) d n f =
        let cs = labels_in_scope p.procedure (s.number + 1) (labels_of c) bs in
        let g : Enclosing = labelled s.number (valued p) in
        let u : Spot = onward 1 (1 + length (labels_of c)) s in
        let body = told_front (reported_done cs g u c) (pushed p 1) f in
        let h = count_in cs g u c d (n + 1) body in
        let i = labels_numbered m p.procedure (s.number + 1) (labels_of c) bs (distinct_if_claimed _ _ _ (λ y. labels_claimed y cs g u c) body) in omega (arith, h, i)
    counts ask bs p s (parens l e) d n f = let h = counts ask bs p (past 1 s) e d n f in omega (arith, h)
    counts for_value bs p s (binary l o.Both k x y) d n f =
        let u : Spot = past 1 (following x s) in
        let h = counts for_value bs p s x d n (told_front (reported Value bs p s x) _ f) in
        let i = counts for_value bs (deeper 1 p) u y (d + 1) (n + labels (term_named bs p s x)) (told_back (reported Value bs p s x) _ f) in simp total_both (omega (arith, h, i))
    counts ask bs p s (binary l z k x y) d n f =
        let u : Spot = past 1 (following x s) in
        let h = counts for_value bs p s x d n (told_front (reported Value bs p s x) _ f) in
        let i = counts for_value bs (deeper 1 p) u y (d + 1) (n + labels (term_named bs p s x)) (told_back (reported Value bs p s x) _ f) in simp total_both (omega (arith, h, i))
    counts ask bs p s _ d n f = omega arith

    count_each : (bs : List Binding) (p : Enclosing) (s : Spot) (es : Expressions) (d n : ℕ) → Quiet (reported_each 1 bs p s es) → parts_numbered m (parts_each d n (terms_named 1 bs p s es)) + beyond m (s.number + numbers_each es) ≤ beyond m s.number
    count_each bs p s none d n f = omega arith
    count_each bs p s (more e es) d n f =
        let h = counts for_value bs p s e d n (told_front (reported Value bs p s e) _ f) in
        let i = count_each bs (deeper 1 p) (following e s) es (d + 1) (n + labels (term_named bs p s e)) (told_back (reported Value bs p s e) _ f) in simp total_both (omega (arith, h, i))

    count_from : (bs : List Binding) (p : Enclosing) (s : Spot) (es : Expressions) (d n : ℕ) → Quiet (reported_each 0 bs p s es) → parts_numbered m (parts_from d n (terms_named 0 bs p s es)) + beyond m (s.number + numbers_each es) ≤ beyond m s.number
    count_from bs p s none d n f = omega arith
    count_from bs p s (more e es) d n f =
        let h = counts for_value bs p s e d n (told_front (reported Value bs p s e) _ f) in
        let i = count_from bs (deeper 0 p) (following e s) es d (n + labels (term_named bs p s e)) (told_back (reported Value bs p s e) _ f) in simp total_both (omega (arith, h, i))

    count_at : (bs : List Binding) (p : Enclosing) (s : Spot) (g : Role) (e : Expression) (d n : ℕ) → Quiet (reported g bs p s e) → parts_numbered m (parts_at d n (lvalue_named bs p s e)) + beyond m (s.number + numbers e) ≤ beyond m s.number
    count_at bs p s g (parens l e) d n f = let h = count_at bs p (past 1 s) (parenthesised g) e d n f in omega (arith, h)
    count_at bs p s g (unary l sign.Contents e) d n f = let h = counts for_value bs p (past 1 s) e d n f in omega (arith, h)
    count_at bs p s g (binary l o.Subscript k x y) d n f =
        let u : Spot = past 1 (following x s) in
        let h = counts for_value bs p s x d n (told_front (reported Value bs p s x) _ f) in
        let i = counts for_value bs (deeper 1 p) u y (d + 1) (n + labels (term_named bs p s x)) (told_back (reported Value bs p s x) _ f) in simp total_both (omega (arith, h, i))
    count_at bs p s g (binary l o.Byte k x y) d n f =
        let u : Spot = past 1 (following x s) in
        let h = counts for_value bs p s x d n (told_front (reported Value bs p s x) _ f) in
        let i = counts for_value bs (deeper 1 p) u y (d + 1) (n + labels (term_named bs p s x)) (told_back (reported Value bs p s x) _ f) in simp total_both (omega (arith, h, i))
    count_at bs p s g _ d n f = omega arith

    count_onto : (bs : List Binding) (p : Enclosing) (s : Spot) (xs : Expressions) (d n : ℕ) → Quiet (reported_destinations bs p s xs) → parts_numbered m (parts_onto d n (lvalues_named bs p s xs)) + beyond m (s.number + numbers_each xs) ≤ beyond m s.number
    count_onto bs p s none d n f = omega arith
    count_onto bs p s (more x xs) d n f =
        let us : List Point = unless (assigned bs x) (at s.place (at_expression x) not_assignable) in
        let vs = reported (Destination false (at_expression x)) bs p s x in
        let h = count_at bs p s (Destination false (at_expression x)) x d n (told_back us vs (told_front (us ++ vs) _ f)) in
        let i = count_onto bs p (following x s) xs d (n + labels_at (lvalue_named bs p s x)) (told_back (us ++ vs) _ f) in simp total_both (omega (arith, h, i))

    count_in : (bs : List Binding) (p : Enclosing) (s : Spot) (c : Command) (d n : ℕ) → Quiet (reported_done bs p s c) → parts_numbered m (parts_in d n (command_named bs p s c)) + beyond m (s.number + numbers_done c) ≤ beyond m s.number + own_labels m bs (labels_of c)
    count_in bs p s (assign l xs es) d n f =
        let v = lvalues_named bs (deeper 1 p) s xs in
        let h = count_onto bs (deeper 1 p) s xs (d + 1) n (told_front (reported_destinations bs (deeper 1 p) s xs) _ f) in
        let i = count_from bs p (after_each xs s) es d (n + labels_onto v) (told_back (reported_destinations bs (deeper 1 p) s xs) _ f) in simp total_both (omega (arith, h, i))
    count_in bs p s (call l e es) d n f =
        let u : Spot = following e s in
        let z : Enclosing = deeper (size es + 2) p in
        let v = term_named bs z s e in
        let h = counts for_value bs z s e (d + 2 + count (terms_named 1 bs (deeper 2 p) u es)) n (told_front (reported Value bs z s e) _ f) in
        let i = count_each bs (deeper 2 p) u es (d + 2) (n + labels v) (told_back (reported Value bs z s e) _ f) in simp total_both (omega (arith, h, i))
    count_in bs p s (label l x c) d n f =
        let h = count_in bs p (past 1 s) c d (n + 1) (told_back (one_of p.labels s.place l x ++ its_meaning (bound_in bs x)) _ f) in let i = label_target m n d (bound_in bs x) in omega (arith, h, i)
    count_in bs p s (case_of l e c) d n f =
        let h = count_in bs p (after_constant e (past 1 s)) c d (n + 1) (told_back (chosen_at p.switch s.place l (constant_word bs e) ++ constant bs p.procedure (past 1 s) e) _ f) in omega (arith, h)
    count_in bs p s (default l c) d n f = let h = count_in bs p (past 1 s) c d (n + 1) (told_back (defaulted_at p.switch s.place l) _ f) in omega (arith, h)
    count_in bs p s (when l z e c) d n f =
        let h = counts (for_truth true) bs p s e d (n + 1) (told_front (reported Truth bs p s e) _ f) in
        let i = count_in bs p (following e s) c d (n + 1 + labels_if (condition_named bs p s e)) (told_back (reported Truth bs p s e) _ f) in simp total_both (omega (arith, h, i))
    count_in bs p s (test l e x y) d n f =
        let xs = reported Truth bs p s e in
        let ys = reported_done bs p (following e s) x in
        let j = n + 2 + labels_if (condition_named bs p s e) in
        let h = counts (for_truth true) bs p s e d (n + 2) (told_front xs ys (told_front (xs ++ ys) _ f)) in
        let i = count_in bs p (following e s) x d j (told_back xs ys (told_front (xs ++ ys) _ f)) in
        let q = count_in bs p (after_done x (following e s)) y d (j + labels_in (command_named bs p (following e s) x)) (told_back (xs ++ ys) _ f) in
        simp total_both (omega (arith, h, i, q))
    count_in bs p s (while l z e c) d n f =
        let h = counts (for_truth true) bs p s e d (n + 3) (told_front (reported Truth bs p s e) _ f) in
        let i = count_in bs (looping p) (following e s) c d (n + 3 + labels_if (condition_named bs p s e)) (told_back (reported Truth bs p s e) _ f) in simp total_both (omega (arith, h, i))
    count_in bs p s (for_loop l x e y k c) d n f =
        let u : Spot = onward (symbols_each k) 0 (following y (following e s)) in
        let g : Enclosing = labelled u.number (looping (deeper 2 p)) in
        let cs = bind x.letters (Variable p.procedure p.depth) bs in
        let ds = labels_in_scope p.procedure (u.number + 1) (labels_of c) cs in
        let i : Spot = spots.numbered (1 + length (labels_of c)) u in
        let start = reported Value bs p s e in
        let limit = reported Value bs (deeper 1 p) (following e s) y in
        let steps = each_constant bs p.procedure (following y (following e s)) k in
        let heads = told_front (start ++ limit) steps (told_front (start ++ limit ++ steps) (pushed p 4) (told_front (start ++ limit ++ steps ++ pushed p 4) (reported_done ds g i c) f)) in
        let body = told_back (start ++ limit ++ steps ++ pushed p 4) (reported_done ds g i c) f in
        let j = n + 4 + labels (term_named bs p s e) in
        let a = counts for_value bs p s e d (n + 4) (told_front start limit heads) in
        let b = counts for_value bs (deeper 1 p) (following e s) y (d + 1) j (told_back start limit heads) in
        let h = count_in ds g i c (d + 2) (j + labels (term_named bs (deeper 1 p) (following e s) y)) body in
        let q = labels_numbered m p.procedure (u.number + 1) (labels_of c) cs (distinct_if_claimed _ _ _ (λ y. labels_claimed y ds g i c) body) in simp total_both (omega (arith, a, b, h, q))
    count_in bs p s (switch l e c) d n f =
        let h = counts for_value bs p s e d (n + 1) (told_front (reported Value bs p s e) _ f) in
        let i = count_in bs (switching (following e s).number p) (spots.numbered 1 (following e s)) c d (n + 1 + labels (term_named bs p s e)) (told_back (reported Value bs p s e) _ f) in simp total_both (omega (arith, h, i))
    count_in bs p s (result l e) d n f = let h = counts for_value bs p (past 1 s) e d n (told_back (unless p.in_valof (at s.place l no_result_or_return)) _ f) in omega (arith, h)
    count_in bs p s (block l no_declarations cs) d n f =
        let h = count_through bs p s cs d n f in let e = ap (λ (k : ℕ). parts_numbered m (parts_through d k (commands_named bs p s cs))) (no_more n) in omega (arith, h, e)
    count_in bs p s (block l (declare x xs) cs) d n f =
        let u : Spot = after_declared (declare x xs) s in
        let g : Enclosing = labelled u.number (place_after_all bs p s (declare x xs)) in
        let es = scope_after bs p s (declare x xs) in
        let ds = labels_in_scope p.procedure (u.number + 1) (labels_of_each cs) es in
        let i : Spot = spots.numbered (1 + length (labels_of_each cs)) u in
        let y = declarations_named bs p s (declare x xs) in
        let first = told_front (reported_declared bs p s (declare x xs)) _ f in
        let body = told_back (reported_declared bs p s (declare x xs)) _ f in
        let h = count_one_declared bs p s x d n (told_front (reported_one_declared bs p s x) _ first) in
        let v = declaration_named bs p s x in
        let j = count_declared (scope_after_one bs p s x) (place_after_one bs p s x) (after_one_declared x s) xs (after_declaration d v) (n + labels_of_declaration v) (told_back (reported_one_declared bs p s x) _ first) in
        let k = count_through ds g i cs (after_declarations d y) (n + labels_of_declarations y) body in
        let q = labels_numbered m p.procedure (u.number + 1) (labels_of_each cs) es (distinct_if_claimed _ _ _ (λ y. labels_claimed_each y ds g i cs) body) in simp total_both (omega (arith, h, j, k, q))
    count_in bs p s (repeat l c) d n f = let h = count_in bs (looping p) s c d (n + 2) f in omega (arith, h)
    count_in bs p s (repeat_while l z c e) d n f =
        let h = count_in bs (looping p) s c d (n + 3) (told_front (reported_done bs (looping p) s c) _ f) in
        let i = counts (for_truth true) bs p (after_done c s) e d (n + 3 + labels_in (command_named bs (looping p) s c)) (told_back (reported_done bs (looping p) s c) _ f) in simp total_both (omega (arith, h, i))
    count_in bs p s _ d n f = omega arith

    count_through : (bs : List Binding) (p : Enclosing) (s : Spot) (cs : Commands) (d n : ℕ) → Quiet (reported_done_each bs p s cs) → parts_numbered m (parts_through d n (commands_named bs p s cs)) + beyond m (s.number + numbers_done_each cs) ≤ beyond m s.number + own_labels m bs (labels_of_each cs)
    count_through bs p s no_commands d n f = omega arith
    count_through bs p s (also c cs) d n f =
        let h = count_in bs p s c d n (told_front (reported_done bs p s c) _ f) in
        let i = count_through bs p (after_done c s) cs d (n + labels_in (command_named bs p s c)) (told_back (reported_done bs p s c) _ f) in simp total_both (omega (arith, h, i))

    count_declared : (bs : List Binding) (p : Enclosing) (s : Spot) (xs : Declarations) (d n : ℕ) → Quiet (reported_declared bs p s xs) → parts_numbered m (parts_of_declarations d n (declarations_named bs p s xs)) + beyond m (s.number + numbers_declared xs) ≤ beyond m s.number
    count_declared bs p s no_declarations d n f = omega arith
    count_declared bs p s (declare x xs) d n f =
        let v = declaration_named bs p s x in
        let h = count_one_declared bs p s x d n (told_front (reported_one_declared bs p s x) _ f) in
        let i = count_declared (scope_after_one bs p s x) (place_after_one bs p s x) (after_one_declared x s) xs (after_declaration d v) (n + labels_of_declaration v) (told_back (reported_one_declared bs p s x) _ f) in
        simp total_both (omega (arith, h, i))

    count_one_declared : (bs : List Binding) (p : Enclosing) (s : Spot) (x : Declaration) (d n : ℕ) → Quiet (reported_one_declared bs p s x) → parts_numbered m (parts_of_declaration d n (declaration_named bs p s x)) + beyond m (s.number + numbers_one_declared x) ≤ beyond m s.number
    count_one_declared bs p s (constants l sort.Static (item i x e is)) d n f = let h = items_numbered m bs (spots.numbered 1 s) (item i x e is) n in omega (arith, h)
    count_one_declared bs p s (definitions l ds) d n f =
        let cs = procedures_in_scope (s.number + 1) ds bs in
        let v : Spot = spots.numbered (1 + procedures_in ds) s in
        let h = count_defined s.number cs p v ds d n f in
        let i = procedures_numbered m (s.number + 1) ds bs (distinct_if_claimed _ _ _ (λ y. procedures_claimed s.number y cs p v ds) f) in count_let m bs p s l ds d n (omega (arith, h, i))
    count_one_declared bs p s _ d n f = omega arith

    count_defined : (k : ℕ) (bs : List Binding) (p : Enclosing) (s : Spot) (ds : Definitions) (d n : ℕ) → Quiet (reported_defined k bs p s ds) → parts_numbered m (parts_of_definitions d n (definitions_named bs p s ds)) + beyond m (s.number + numbers_defined ds) ≤ beyond m s.number + own_procedures m bs ds
    count_defined k bs p s no_definitions d n f = omega arith
    count_defined k bs p s (define z ds) d n f =
        let y = definition_named bs p s z in
        let h = count_one_defined k bs p s z d n (told_front (reported_one_defined k bs p s z) _ f) in
        let j = own_first m bs z ds in
        let i = count_defined k bs (place_after_one_defined bs p z) (after_one_defined z s) ds (after_definition d y) (n + labels_of_definition y) (told_back (reported_one_defined k bs p s z) _ f) in
        simp total_both (omega (arith, h, i, j))

    count_one_defined : (k : ℕ) (bs : List Binding) (p : Enclosing) (s : Spot) (x : Definition) (d n : ℕ) → Quiet (reported_one_defined k bs p s x) → parts_numbered m (parts_of_definition d n (definition_named bs p s x)) + beyond m (s.number + numbers_one_defined x) ≤ beyond m s.number + own_procedures m bs (define x no_definitions)
    count_one_defined k bs p s (variables l xs is) d n f = let h = count_started bs p (past (length xs) s) is d n (told_back (each_of k s.place xs) _ f) in omega (arith, h)
    count_one_defined k bs p s (routine l x fs c) d n f =
        let z : Enclosing = labelled (s.number + 1) (called true s.number (length fs)) in
        let u : Spot = onward (1 + length fs) (2 + length (labels_of c)) s in
        let es = with_formals s.number 2 fs bs in
        let cs = labels_in_scope s.number (s.number + 2) (labels_of c) es in
        let body = body_quiet k s.number s l x fs (bound_in bs x) (reported_done cs z u c) f in
        let h = count_in cs z u c (length fs + 2) (n + labels_of_procedure (meant (bound_in bs x))) body in
        let i = labels_numbered m s.number (s.number + 2) (labels_of c) es (distinct_if_claimed _ _ _ (λ y. labels_claimed y cs z u c) body) in
        let j = word_target m (n + 1) (bound_in bs x) in omega (arith, h, i, j)
    count_one_defined k bs p s (function l x fs e) d n f =
        let z : Enclosing = called false s.number (length fs) in
        let u : Spot = onward (1 + length fs) 1 s in
        let cs = with_formals s.number 2 fs bs in
        let body = body_quiet k s.number s l x fs (bound_in bs x) (reported Value cs z u e) f in
        let h = counts for_value cs z u e (length fs + 2) (n + labels_of_procedure (meant (bound_in bs x))) body in
        let j = word_target m (n + 1) (bound_in bs x) in omega (arith, h, j)

    count_started : (bs : List Binding) (p : Enclosing) (s : Spot) (is : Starts) (d n : ℕ) → Quiet (reported_started bs p s is) → parts_numbered m (parts_of_starts d n (starts_named bs p s is)) + beyond m (s.number + numbers_started is) ≤ beyond m s.number
    count_started bs p s no_starts d n f = omega arith
    count_started bs p s (value e is) d n f =
        let h = counts for_value bs p s e d n (told_front (reported Value bs p s e) _ f) in
        let i = count_started bs (deeper 1 p) (following e s) is (d + 1) (n + labels (term_named bs p s e)) (told_back (reported Value bs p s e) _ f) in simp total_both (omega (arith, h, i))
    count_started bs p s (vector l e is) d n f =
        let h = count_started bs (deeper (words_of_start bs e + 1) p) (after_constant e s) is (d + worth (constant_word bs e) + 2) n
        (told_back (constant bs p.procedure s e ++ at_most VEC_NUMBER s.place (at_expression e) vec_out_of_range (constant_word bs e) ++ pushed p (words_of_start bs e + 1)) _ f) in
        omega (arith, h)

-- so each target is found by its number
numbered_parts : (m : ℕ) (xs : List Part) → numbered m (joined target_of xs) ≡ parts_numbered m xs
numbered_parts m [] = refl
numbered_parts m (x ∷ xs) = simp total_both (omega (arith, numbered_parts m xs))

-- THE TARGETS OF A SECTION are found by their numbers
pub section_found : (xs : Declarations) → Quiet (reported_declared [] outermost beginning xs)
    → AllFound (joined target_of (parts_of_declarations 2 1 (declarations_named [] outermost beginning xs))) (joined target_of (parts_of_declarations 2 1 (declarations_named [] outermost beginning xs)))
section_found xs f =
    let ps = parts_of_declarations 2 1 (declarations_named [] outermost beginning xs) in
    all_found (λ x. x.number) (λ x. goal x.label x.depth) goal_of (λ x xs k. refl) (joined target_of ps) (λ m. let h = count_declared m [] outermost beginning xs 2 1 f in let i = numbered_parts m ps in omega (arith, h, i))

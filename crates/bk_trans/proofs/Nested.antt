-- Each part of a section without faults that stands by itself is good: its procedures, wherever they are nested, its items of STATIC and
-- its tables.
use Rattle.bk_trans.proofs.Terms.{Operator as o, Prefix as sign, Sort as sort, Target, meant, worth, statics_named, term_named, terms_named, condition_named, lvalue_named, lvalues_named, command_named, commands_named, declarations_named, declaration_named, definitions_named, definition_named, starts_named, labels, labels_each, labels_if, labels_at, labels_onto, labels_in, labels_through, labels_of_declaration, labels_of_declarations, labels_of_definition, labels_of_definitions, labels_of_starts, count, after_definition, after_declaration, after_declarations, Part, procedure, static_table, parts, parts_each, parts_if, parts_at, parts_onto, parts_from, parts_in, parts_through, parts_of_items, parts_of_declarations, parts_of_declaration, parts_of_definitions, parts_of_definition, parts_of_starts, goal_of, labels_of_procedure}
use Rattle.bk_trans.specs.Program as t
use Rattle.bk_trans.proofs.Scopes.{Sees, sees_bind, sees_all, sees_labels, sees_procedures, AllMean, PartsRight, sees_none, procedure_found, statics_seen, PartRight}
use Rattle.bk_trans.proofs.Reported.{AllFine, Reported, told_front, told_back, Fine}
use Rattle.bk_trans.proofs.Bodies.{Known, At, Placed, same_one_defined, same_defined, enter_labels, at_manifests, at_globals, good, good_in}
use Rattle.bk_trans.proofs.Asked.{Asked, for_value, for_truth, role, asked, arith, ◌≡◌, ℕ, ◌+◌, ◌<◌, ◌≤◌, ◌^◌, max, true, false, cond, Option, Some, List, [], ◌∷◌, ◌++◌, length, refl, sym, ap, subst, ◌∙◌, ⊤, false≢true, FRAME_WORDS, VEC_NUMBER, OCODE_LABEL, Mention, Expression, Expressions, Command, Commands, Declaration, Declarations, Definition, Definitions, Starts, name, parens, unary, binary, choice, apply, valof, table, none, more, assign, call, label, case_of, default, when, test, while, for_loop, switch, result, block, repeat, repeat_while, no_commands, also, constants, definitions, no_declarations, declare, routine, function, variables, no_definitions, define, no_starts, value, vector, at_expression, size, Bound, Constant, Global, Static, Variable, Label, Enclosing, Role, Value, Truth, Address, Destination, not_assignable, no_result_or_return, vec_out_of_range, Binding, bound_in, bind, constant_word, kept, deeper, looping, switching, labelled, valued, called, outermost, labels_of, labels_of_each, with_formals, parenthesised, words_of_start, place_after, variables_of, Spot, procedures_in, onward, past, numbered, following, after_each, after_done, after_declared, after_one_declared, after_one_defined, after_constant, symbols_each, beginning, Claim, is_claimed, Point, meaning, word, depth, wrong, claim, claimed, judged, deepest, without_depths, at, labels_in_scope, procedures_in_scope, place_after_one_defined, variables_in_scope, scope_after_one, place_after_one, scope_after, place_after_all, unless, its_meaning, its_global, its_frame, inside_procedure, constant, each_constant, at_most, assigned, prefixed, pushed, chosen_at, defaulted_at, one_of, each_of, reported, reported_each, reported_destinations, reported_done, reported_done_each, reported_declared, reported_one_declared, reported_defined, reported_one_defined, reported_started, Callable, FrameSound, Sound, SoundEach, SoundDestinations, SoundDone, SoundDoneEach, SoundDeclared, SoundOneDeclared, SoundDefined, SoundOneDefined, SoundStarted, Use, Every, every_front, every_back, every_both}
use Rattle.bk_trans.proofs.Named.{addressed_assigned}
use Rattle.bk_trans.proofs.Sections.{GoodName, GoodPart, AllGood}
use Rattle.bk_trans.proofs.Forms.{AllTables, IsWord, Right, no_more}
use Rattle.bk_scope.specs.Faults as faults
use Rattle.bk_trans.proofs.Sections.{name_marks}

-- what is told, frames apart: each word is one, and no claim was made before
abbrev pub IsQuiet : Point → Type 0
IsQuiet (word v) = v < 2 ^ 32
IsQuiet _ = ⊤

abbrev pub AllQuiet : List Point → Type 0
AllQuiet xs = Every IsQuiet xs

abbrev pub Quiet : List Point → Type 0
Quiet xs = Reported IsQuiet xs

-- the body of a procedure
all_flat : (xs : List Point) → AllQuiet (without_depths xs) → AllQuiet xs
all_flat [] h = tt
all_flat (word v ∷ xs) h = (h.0, all_flat xs h.1)
all_flat (depth m ∷ xs) h = (tt, all_flat xs h)
all_flat (_ ∷ xs) h = (tt, all_flat xs h.1)

judged_flat : (xs : List Point) (cs : List Claim) → judged cs (without_depths xs) ≡ judged cs xs
judged_flat [] cs = refl
judged_flat (wrong f ∷ xs) cs = ap (λ fs. f ∷ fs) (judged_flat xs cs)
judged_flat (claim c f ∷ xs) cs = ap (λ fs. cond (is_claimed c cs) (f ∷ []) [] ++ fs) (judged_flat xs (claimed c cs))
judged_flat (_ ∷ xs) cs = judged_flat xs cs

grows : (xs : List Point) (d : ℕ) → d ≤ deepest d xs
grows [] d = omega arith
grows (depth m ∷ xs) d = let h = grows xs (max d (kept m)) in omega (arith, h)
grows (_ ∷ xs) d = grows xs d

fine_within : (xs : List Point) (d : ℕ) → AllQuiet xs → deepest d xs ≤ FRAME_WORDS → AllFine xs
fine_within [] d h low = tt
fine_within (word v ∷ xs) d h low = (h.0, fine_within xs d h.1 low)
fine_within (depth m ∷ xs) d h low = (let g = grows xs (max d (kept m)) in omega (arith, g, low), fine_within xs (max d (kept m)) h.1 low)
fine_within (_ ∷ xs) d h low = (tt, fine_within xs d h.1 low)

pub body_quiet : (m k : ℕ) (s : Spot) (l : ℕ) (x : List ℕ) (fs : List Mention) (y : Option Bound) (body : List Point) → Quiet (faults.procedure m k s l x fs y body) → Quiet body
body_quiet m k s l x fs y body h =
    let inner : List Point = inside_procedure k s l x fs y body in
    let flat : Quiet (without_depths inner) =
    told_back (its_meaning y) _ (told_back (its_frame s.place l (deepest (kept (length fs + 2)) inner)) (its_meaning y ++ without_depths inner) (told_back (one_of m s.place l x) _ h)) in
    let whole : Quiet inner = record { all = all_flat inner flat.all; claims = flat.claims; clean = sym (judged_flat inner flat.claims) ∙ flat.clean } in
    told_back (each_of k (s.place + 1) fs) body (told_back (its_global s.place l x y) (each_of k (s.place + 1) fs ++ body) whole)

body_fine : (formals : ℕ) (body : List Point) → Quiet body → FrameSound formals body → Fine body
body_fine formals body h frame = record { all = fine_within body (kept (formals + 2)) h.all frame; claims = h.claims; clean = h.clean }

-- what names in scope mean, where numbers below n were given
abbrev Outside : (ℕ → Use) → List Target → ℕ → Bound → Type 0
Outside plan ts n (Static m) = IsWord plan ((goal_of ts m).label)
Outside plan ts n (Variable j i) = j < n
Outside plan ts n (Label j m) = j < n
Outside plan ts n _ = ⊤

outside_more : (plan : ℕ → Use) (ts : List Target) (n m : ℕ) (z : Bound) → n ≤ m → Outside plan ts n z → Outside plan ts m z
outside_more plan ts n m (Constant v) low h = tt
outside_more plan ts n m (Global g) low h = tt
outside_more plan ts n m (Static i) low h = h
outside_more plan ts n m _ low h = omega (arith, low, h)

record Out (plan : ℕ → Use) (ts : List Target) (bs : List Binding) (k n : ℕ) : Type 0 where
  sees : Sees (Outside plan ts n) bs
  older : k < n

onto : {plan : ℕ → Use} {ts : List Target} {bs : List Binding} {k n : ℕ} (m : ℕ) → Out plan ts bs k n → n ≤ m → Out plan ts bs k m
onto {plan} {ts} {n = n} m a low = record { sees = λ y z e. outside_more plan ts n m z low (a.sees y z e); older = let h = a.older in omega (arith, h, low) }

labels_out : (plan : ℕ → Use) (ts : List Target) (k j m : ℕ) (xs : List (List ℕ)) (bs : List Binding) (n : ℕ) → j < n → Out plan ts bs k n → Out plan ts (labels_in_scope j m xs bs) k n
labels_out plan ts k j m xs bs n low a = record { sees = sees_labels (Outside plan ts n) j m xs bs a.sees (λ y i among e. low); older = a.older }

-- an outer name in a procedure of its own number
known_inside : (plan : ℕ → Use) (ts : List Target) (q k d : ℕ) (z : Bound) → Outside plan ts k z → Known plan ts q k d z
known_inside plan ts q k d (Constant v) h = tt
known_inside plan ts q k d (Global g) h = tt
known_inside plan ts q k d (Static i) h = h
known_inside plan ts q k d _ h = λ same. absurd (omega (arith, h, same))

formals_known : (plan : ℕ → Use) (ts : List Target) (q k e d : ℕ) (fs : List Mention) (bs : List Binding) → 2 ≤ d → d + length fs ≤ e → e ≤ FRAME_WORDS → Sees (Known plan ts q k e) bs
    → Sees (Known plan ts q k e) (with_formals k d fs bs)
formals_known plan ts q k e d [] bs two low high h = h
formals_known plan ts q k e d (x ∷ fs) bs two low high h =
    formals_known plan ts q k e (kept (d + 1)) fs (bind x.letters (Variable k d) bs) (omega (arith, two)) (omega (arith, low, high)) high
    (sees_bind (Known plan ts q k e) x.letters (Variable k d) bs (λ own. (two, omega (arith, low))) h)

formals_out : (plan : ℕ → Use) (ts : List Target) (k d n : ℕ) (fs : List Mention) (bs : List Binding) → k < n → Sees (Outside plan ts n) bs → Sees (Outside plan ts n) (with_formals k d fs bs)
formals_out plan ts k d n [] bs low h = h
formals_out plan ts k d n (x ∷ fs) bs low h = formals_out plan ts k (kept (d + 1)) n fs (bind x.letters (Variable k d) bs) low (sees_bind (Outside plan ts n) x.letters (Variable k d) bs low h)

-- what is given of a part of a section: m labels from n on, what is told of it, and its own parts
record Given (plan : ℕ → Use) (ts : List Target) (n m : ℕ) (xs : List Point) (ps : List Part) : Type 0 where
  low : 1 ≤ n
  high : n + m ≤ OCODE_LABEL + 1
  reported : Quiet xs
  parts : PartsRight plan ts ps

within : {plan : ℕ → Use} {ts : List Target} {n m i j : ℕ} {xs ys : List Point} {ps qs : List Part} → Given plan ts n m xs ps → n ≤ i → i + j ≤ n + m → Quiet ys → PartsRight plan ts qs → Given plan ts i j ys qs
within g from less f b = let l = g.low in let h = g.high in record { low = omega (arith, l, from); high = omega (arith, h, less); reported = f; parts = b }

front : {plan : ℕ → Use} {ts : List Target} {n m i j : ℕ} {xs : List Point} {ps : List Part} (ys : List Point) (qs : List Part) → Given plan ts n m (xs ++ ys) (ps ++ qs) → n ≤ i → i + j ≤ n + m
    → Given plan ts i j xs ps
front {plan} {ts} {xs = xs} {ps = ps} ys qs g from less = within g from less (told_front xs ys g.reported) (every_front (PartRight plan ts) ps qs g.parts)

back : {plan : ℕ → Use} {ts : List Target} {n m i j : ℕ} {ys : List Point} {qs : List Part} (xs : List Point) (ps : List Part) → Given plan ts n m (xs ++ ys) (ps ++ qs) → n ≤ i → i + j ≤ n + m
    → Given plan ts i j ys qs
back {plan} {ts} {ys = ys} {qs = qs} xs ps g from less = within g from less (told_back xs ys g.reported) (every_back (PartRight plan ts) ps qs g.parts)

behind_told : {plan : ℕ → Use} {ts : List Target} {n m i j : ℕ} {ys : List Point} {ps : List Part} (xs : List Point) → Given plan ts n m (xs ++ ys) ps → n ≤ i → i + j ≤ n + m → Given plan ts i j ys ps
behind_told {ys = ys} xs g from less = within g from less (told_back xs ys g.reported) g.parts

-- behind declarations
variables_out : (plan : ℕ → Use) (ts : List Target) (n : ℕ) (bs : List Binding) (p : Enclosing) (xs : List Mention) (is : Starts) → p.procedure < n → AllMean (Outside plan ts n) (variables_of bs p xs is)
variables_out plan ts n bs p (x ∷ xs) (value e is) low = (low, variables_out plan ts n bs (deeper 1 p) xs is low)
variables_out plan ts n bs p (x ∷ xs) (vector l e is) low = (low, variables_out plan ts n bs (deeper (words_of_start bs e + 1) p) xs is low)
variables_out plan ts n bs p _ _ low = tt

all_variables_out : (plan : ℕ → Use) (ts : List Target) (n : ℕ) (bs : List Binding) (p : Enclosing) (ds : Definitions) → p.procedure < n → AllMean (Outside plan ts n) (variables_in_scope bs p ds)
all_variables_out plan ts n bs p no_definitions low = tt
all_variables_out plan ts n bs p (define (variables l xs is) ds) low =
    let same = (same_one_defined bs p (variables l xs is)).0 in
    every_both (λ (x : Binding). Outside plan ts n x.bound) (variables_of bs p xs is) _ (variables_out plan ts n bs p xs is low) (all_variables_out plan ts n bs (place_after bs p is) ds (omega (arith, same, low)))
all_variables_out plan ts n bs p (define _ ds) low = all_variables_out plan ts n bs p ds low

procedures_out : (plan : ℕ → Use) (ts : List Target) (bs : List Binding) (p : Enclosing) (k : ℕ) (s v : Spot) (ds : Definitions) (d n m : ℕ) (xs : List Point) → Out plan ts bs k m
    → Given plan ts n (labels_of_definitions (definitions_named (procedures_in_scope (s.number + 1) ds bs) p v ds)) xs (parts_of_definitions d n (definitions_named (procedures_in_scope (s.number + 1) ds bs) p v ds))
    → Out plan ts (procedures_in_scope (s.number + 1) ds bs) k m
procedures_out plan ts bs p k s v ds d n m xs a g = record {
  sees = sees_procedures (Outside plan ts m) (s.number + 1) ds bs a.sees (λ y i among e. procedure_found plan ts i y (procedures_in_scope (s.number + 1) ds bs) p v ds d n e g.high among g.parts);
  older = a.older;
}

one_declared_out : (plan : ℕ → Use) (ts : List Target) (bs : List Binding) (p : Enclosing) (s : Spot) (x : Declaration) (d n : ℕ) → Out plan ts bs p.procedure s.number
    → Given plan ts n (labels_of_declaration (declaration_named bs p s x)) (reported_one_declared bs p s x) (parts_of_declaration d n (declaration_named bs p s x))
    → Out plan ts (scope_after_one bs p s x) (place_after_one bs p s x).procedure (after_one_declared x s).number
one_declared_out plan ts bs p s (constants l sort.Manifest is) d n a g =
    onto _ (record { sees = at_manifests (Outside plan ts s.number) bs is (λ v. tt) a.sees; older = a.older }) (omega arith)
one_declared_out plan ts bs p s (constants l sort.Static is) d n a g =
    onto _ (record { sees = statics_seen plan ts (Outside plan ts s.number) bs (numbered 1 s) is n bs g.low g.high g.parts (λ i g. g) a.sees; older = a.older }) (omega arith)
one_declared_out plan ts bs p s (constants l sort.Global is) d n a g =
    onto _ (record { sees = at_globals (Outside plan ts s.number) bs is bs (λ v. tt) a.sees; older = a.older }) (omega arith)
one_declared_out plan ts bs p s (definitions l ds) d n a g =
    let cs = procedures_in_scope (s.number + 1) ds bs in
    let same = (same_defined cs p ds).0 in
    let inner = procedures_out plan ts bs p p.procedure s (numbered (1 + procedures_in ds) s) ds d n s.number _ a g in
    let old = a.older in
    onto _ (record {
      sees = sees_all (Outside plan ts s.number) (variables_in_scope cs p ds) cs (all_variables_out plan ts s.number cs p ds a.older) inner.sees;
      older = omega (arith, same, old);
    }) (omega arith)

declared_out : (plan : ℕ → Use) (ts : List Target) (bs : List Binding) (p : Enclosing) (s : Spot) (xs : Declarations) (d n : ℕ) → Out plan ts bs p.procedure s.number
    → Given plan ts n (labels_of_declarations (declarations_named bs p s xs)) (reported_declared bs p s xs) (parts_of_declarations d n (declarations_named bs p s xs))
    → Out plan ts (scope_after bs p s xs) (place_after_all bs p s xs).procedure (after_declared xs s).number
declared_out plan ts bs p s no_declarations d n a g = onto _ a (omega arith)
declared_out plan ts bs p s (declare x xs) d n a g =
    let y = declaration_named bs p s x in
    onto _ (declared_out plan ts (scope_after_one bs p s x) (place_after_one bs p s x) (after_one_declared x s) xs (after_declaration d y) (n + labels_of_declaration y)
    (one_declared_out plan ts bs p s x d n a (front _ _ g (omega arith) (omega arith))) (back _ _ g (omega arith) (omega arith))) (omega arith)

-- parts
tables_right : (plan : ℕ → Use) (ts : List Target) (xs : List Part) → PartsRight plan ts xs → AllTables plan xs
tables_right plan ts [] h = tt
tables_right plan ts (static_table n ws ∷ xs) h = (h.0.1.0, tables_right plan ts xs h.1)
tables_right plan ts (_ ∷ xs) h = (tt, tables_right plan ts xs h.1)

callable_good : (y : Option Bound) → Callable y → GoodName (meant y)
callable_good (Some (Global g)) h = subst (λ (x : Option ℕ). GoodName (Global x)) (sym h.1) h.2
callable_good _ h = tt

items_good : (plan : ℕ → Use) (ts : List Target) (n : ℕ) (ks : List t.StaticItem) → 1 ≤ n → n + length ks ≤ OCODE_LABEL + 1 → AllGood plan ts (parts_of_items n ks)
items_good plan ts n [] low high = tt
items_good plan ts n (k ∷ ks) low high = ((low, omega (arith, high)), items_good plan ts (n + 1) ks (omega (arith, low)) (omega (arith, high)))

-- the frame of a procedure
frame_low : (formals : ℕ) (body : List Point) → FrameSound formals body → formals + 2 ≤ FRAME_WORDS
frame_low formals body h = let g = grows body (kept (formals + 2)) in omega (arith, g, h)

inside : (plan : ℕ → Use) (ts : List Target) (q : ℕ) (bs : List Binding) (p z : Enclosing) (k formals n : ℕ) (fs : List Mention) → Out plan ts bs k n → length fs ≡ formals → z.procedure ≡ n → z.depth ≡ kept (formals + 2)
    → formals + 2 ≤ FRAME_WORDS → At plan ts q (with_formals n 2 fs bs) z (formals + 2)
inside plan ts q bs p z k formals n fs a size same deep high = record {
  sees = subst (λ (j : ℕ). Sees (Known plan ts q j (formals + 2)) (with_formals n 2 fs bs)) (sym same)
      (formals_known plan ts q n (formals + 2) 2 fs bs (omega arith) (omega (arith, size)) high (λ y b e. known_inside plan ts q n (formals + 2) b (a.sees y b e)));
  at = omega (arith, deep, high);
  low = omega arith;
}

routine_good : (plan : ℕ → Use) (ts : List Target) (m : ℕ) (bs : List Binding) (p : Enclosing) (s : Spot) (l : ℕ) (x : List ℕ) (fs : List Mention) (c : Command) (d n : ℕ) → Out plan ts bs p.procedure s.number
    → SoundOneDefined bs p s (routine l x fs c)
    → Given plan ts n (labels_of_definition (definition_named bs p s (routine l x fs c))) (reported_one_defined m bs p s (routine l x fs c)) (parts_of_definition d n (definition_named bs p s (routine l x fs c)))
    → GoodPart plan ts (procedure n (definition_named bs p s (routine l x fs c)))
routine_good plan ts m bs p s l x fs c d n a h g =
    let z : Enclosing = labelled (s.number + 1) (called true s.number (length fs)) in
    let u : Spot = onward (1 + length fs) (2 + length (labels_of c)) s in
    let es = with_formals s.number 2 fs bs in
    let cs = labels_in_scope s.number (s.number + 2) (labels_of c) es in
    let v = meant (bound_in bs x) in
    let j = n + labels_of_procedure v in
    let body = reported_done cs z u c in
    let low = g.low in
    let high : n + (labels_of_procedure v + labels_in (command_named cs z u c)) ≤ OCODE_LABEL + 1 = g.high in
    let much = frame_low (length fs) body h.1 in
    let inner = inside plan ts n bs p z p.procedure (length fs) s.number fs a refl refl refl much in
    let owns = g.parts.1 in
    let jumps = every_back (Right plan) (name_marks n v) _ g.parts.0.1.1 in
    let fine = body_fine (length fs) body (body_quiet m s.number s l x fs (bound_in bs x) body g.reported) h.1 in
    let placed : Placed plan ts j (labels_in (command_named cs z u c)) body _ _ = record { low = omega (arith, low); high = omega (arith, high); reported = fine; parts = owns; marks = jumps } in (
      low,
      high,
      callable_good (bound_in bs x) h.0,
      much,
      good_in plan ts n cs z u c (length fs + 2) j (enter_labels plan ts n s.number es z z u c (length fs + 2) j (s.number + 2) inner much placed) much h.2 placed,
      tables_right plan ts _ owns,
    )

function_good : (plan : ℕ → Use) (ts : List Target) (m : ℕ) (bs : List Binding) (p : Enclosing) (s : Spot) (l : ℕ) (x : List ℕ) (fs : List Mention) (e : Expression) (d n : ℕ) → Out plan ts bs p.procedure s.number
    → SoundOneDefined bs p s (function l x fs e)
    → Given plan ts n (labels_of_definition (definition_named bs p s (function l x fs e))) (reported_one_defined m bs p s (function l x fs e)) (parts_of_definition d n (definition_named bs p s (function l x fs e)))
    → GoodPart plan ts (procedure n (definition_named bs p s (function l x fs e)))
function_good plan ts m bs p s l x fs e d n a h g =
    let z : Enclosing = called false s.number (length fs) in
    let u : Spot = onward (1 + length fs) 1 s in
    let cs = with_formals s.number 2 fs bs in
    let v = meant (bound_in bs x) in
    let body = reported Value cs z u e in
    let low = g.low in
    let high : n + (labels_of_procedure v + labels (term_named cs z u e)) ≤ OCODE_LABEL + 1 = g.high in
    let much = frame_low (length fs) body h.1 in
    let inner = inside plan ts n bs p z p.procedure (length fs) s.number fs a refl refl refl much in
    let owns = g.parts.1 in
    let jumps = every_back (Right plan) (name_marks n v) _ g.parts.0.1.1 in
    let fine = body_fine (length fs) body (body_quiet m s.number s l x fs (bound_in bs x) body g.reported) h.1 in (
      low,
      high,
      callable_good (bound_in bs x) h.0,
      much,
      good plan ts n for_value cs z u e (length fs + 2) (n + labels_of_procedure v) inner h.2 (record { low = omega (arith, low); high = omega (arith, high); reported = fine; parts = owns; marks = jumps }),
      tables_right plan ts _ owns,
    )

-- EACH NODE, with what is nested in it
module _ (plan : ℕ → Use) (ts : List Target) where
  mutual
    nest : (ask : Asked) (bs : List Binding) (p : Enclosing) (s : Spot) (e : Expression) (d n : ℕ) → Out plan ts bs p.procedure s.number → Sound (role ask) bs p s e
        → Given plan ts n (labels_if (asked ask bs p s e)) (reported (role ask) bs p s e) (parts_if d n (asked ask bs p s e)) → AllGood plan ts (parts_if d n (asked ask bs p s e))
    nest (for_truth z) bs p s (binary l o.Both m x y) d n a h g =
        every_both (GoodPart plan ts) _ _ (nest (for_truth z) bs p s x d (n + 1) a h.0 (front _ _ g (omega arith) (omega arith)))
        (nest (for_truth z) bs p (past 1 (following x s)) y d _ (onto _ a (omega arith)) h.1 (back _ _ g (omega arith) (omega arith)))
    nest (for_truth z) bs p s (binary l o.Either m x y) d n a h g =
        every_both (GoodPart plan ts) _ _ (nest (for_truth z) bs p s x d (n + 1) a h.0 (front _ _ g (omega arith) (omega arith)))
        (nest (for_truth z) bs p (past 1 (following x s)) y d _ (onto _ a (omega arith)) h.1 (back _ _ g (omega arith) (omega arith)))
    nest ask bs p s (unary l sign.Address e) d n a h g =
        nest_onto bs p (past 1 s) (Address false (at_expression e)) e d n (onto _ a (omega arith)) (addressed_assigned bs e h.0) h.1 (behind_told (prefixed sign.Address bs (past 1 s) e) g (omega arith) (omega arith))
    nest ask bs p s (unary l sign.Not e) d n a h g = nest ask bs p (past 1 s) e d n (onto _ a (omega arith)) h.1 g
    nest ask bs p s (unary l y e) d n a h g = nest for_value bs p (past 1 s) e d n (onto _ a (omega arith)) h.1 g
    nest ask bs p s (choice l m c x y) d n a h g =
        let fore : Given plan ts n (2 + labels_if (condition_named bs p s c) + labels (term_named bs p (past 1 (following c s)) x)) _ _ = front _ _ g (omega arith) (omega arith) in
        every_both (GoodPart plan ts) _ _ (every_both (GoodPart plan ts) _ _ (nest (for_truth true) bs p s c d (n + 2) a h.0 (front _ _ fore (omega arith) (omega arith)))
        (nest for_value bs p (past 1 (following c s)) x d _ (onto _ a (omega arith)) h.1 (back _ _ fore (omega arith) (omega arith))))
        (nest for_value bs p (following x (past 1 (following c s))) y d _ (onto _ a (omega arith)) h.2 (back _ _ g (omega arith) (omega arith)))
    nest ask bs p s (apply l m e es) d n a h g =
        every_both (GoodPart plan ts) _ _ (nest for_value bs (deeper (size es + 2) p) s e _ n a h.0 (front _ _ g (omega arith) (omega arith)))
        (nest_each bs (deeper 2 p) (past 1 (following e s)) es (d + 2) _ (onto _ a (omega arith)) h.1 (back _ _ g (omega arith) (omega arith)))
    nest ask bs p s (valof l c) d n a h g =
        let u : Spot = onward 1 (1 + length (labels_of c)) s in
        let old = a.older in
        nest_in (labels_in_scope p.procedure (s.number + 1) (labels_of c) bs) (labelled s.number (valued p)) u c d (n + 1)
        (labels_out plan ts p.procedure p.procedure (s.number + 1) (labels_of c) bs u.number (omega (arith, old)) (onto u.number a (omega arith))) h (within g (omega arith) (omega arith) (told_front _ (pushed p 1) g.reported) g.parts)
    nest ask bs p s (table l es) d n a h g = let low = g.low in let high = g.high in ((low, omega (arith, high)), tt)
    nest ask bs p s (parens l e) d n a h g = nest ask bs p (past 1 s) e d n (onto _ a (omega arith)) h g
    nest for_value bs p s (binary l o.Both m x y) d n a h g =
        every_both (GoodPart plan ts) _ _ (nest for_value bs p s x d n a h.0 (front _ _ g (omega arith) (omega arith)))
        (nest for_value bs (deeper 1 p) (past 1 (following x s)) y (d + 1) _ (onto _ a (omega arith)) h.1 (back _ _ g (omega arith) (omega arith)))
    nest ask bs p s (binary l z m x y) d n a h g =
        every_both (GoodPart plan ts) _ _ (nest for_value bs p s x d n a h.0 (front _ _ g (omega arith) (omega arith)))
        (nest for_value bs (deeper 1 p) (past 1 (following x s)) y (d + 1) _ (onto _ a (omega arith)) h.1 (back _ _ g (omega arith) (omega arith)))
    nest ask bs p s _ d n a h g = tt

    nest_each : (bs : List Binding) (p : Enclosing) (s : Spot) (es : Expressions) (d n : ℕ) → Out plan ts bs p.procedure s.number → SoundEach 1 bs p s es
        → Given plan ts n (labels_each (terms_named 1 bs p s es)) (reported_each 1 bs p s es) (parts_each d n (terms_named 1 bs p s es)) → AllGood plan ts (parts_each d n (terms_named 1 bs p s es))
    nest_each bs p s none d n a h g = tt
    nest_each bs p s (more e es) d n a h g =
        every_both (GoodPart plan ts) _ _ (nest for_value bs p s e d n a h.0 (front _ _ g (omega arith) (omega arith)))
        (nest_each bs (deeper 1 p) (following e s) es (d + 1) _ (onto _ a (omega arith)) h.1 (back _ _ g (omega arith) (omega arith)))

    nest_from : (bs : List Binding) (p : Enclosing) (s : Spot) (es : Expressions) (d n : ℕ) → Out plan ts bs p.procedure s.number → SoundEach 0 bs p s es
        → Given plan ts n (labels_each (terms_named 0 bs p s es)) (reported_each 0 bs p s es) (parts_from d n (terms_named 0 bs p s es)) → AllGood plan ts (parts_from d n (terms_named 0 bs p s es))
    nest_from bs p s none d n a h g = tt
    nest_from bs p s (more e es) d n a h g =
        every_both (GoodPart plan ts) _ _ (nest for_value bs p s e d n a h.0 (front _ _ g (omega arith) (omega arith)))
        (nest_from bs (deeper 0 p) (following e s) es d _ (onto _ a (omega arith)) h.1 (back _ _ g (omega arith) (omega arith)))

    -- what has an address, or may be stored into
    nest_onto : (bs : List Binding) (p : Enclosing) (s : Spot) (r : Role) (e : Expression) (d n : ℕ) → Out plan ts bs p.procedure s.number → assigned bs e ≡ true → Sound r bs p s e
        → Given plan ts n (labels_at (lvalue_named bs p s e)) (reported r bs p s e) (parts_at d n (lvalue_named bs p s e)) → AllGood plan ts (parts_at d n (lvalue_named bs p s e))
    nest_onto bs p s r (name l x) d n a i h g = tt
    nest_onto bs p s r (parens l e) d n a i h g = nest_onto bs p (past 1 s) (parenthesised r) e d n (onto _ a (omega arith)) i h g
    nest_onto bs p s r (unary l sign.Contents e) d n a i h g = nest for_value bs p (past 1 s) e d n (onto _ a (omega arith)) h.1 g
    nest_onto bs p s r (binary l o.Subscript m x y) d n a i h g =
        every_both (GoodPart plan ts) _ _ (nest for_value bs p s x d n a h.0 (front _ _ g (omega arith) (omega arith)))
        (nest for_value bs (deeper 1 p) (past 1 (following x s)) y (d + 1) _ (onto _ a (omega arith)) h.1 (back _ _ g (omega arith) (omega arith)))
    nest_onto bs p s r (binary l o.Byte m x y) d n a i h g =
        every_both (GoodPart plan ts) _ _ (nest for_value bs p s x d n a h.0 (front _ _ g (omega arith) (omega arith)))
        (nest for_value bs (deeper 1 p) (past 1 (following x s)) y (d + 1) _ (onto _ a (omega arith)) h.1 (back _ _ g (omega arith) (omega arith)))
    nest_onto bs p s r e d n a i h g = absurd (false≢true i)

    nest_all_onto : (bs : List Binding) (p : Enclosing) (s : Spot) (xs : Expressions) (d n : ℕ) → Out plan ts bs p.procedure s.number → SoundDestinations bs p s xs
        → Given plan ts n (labels_onto (lvalues_named bs p s xs)) (reported_destinations bs p s xs) (parts_onto d n (lvalues_named bs p s xs)) → AllGood plan ts (parts_onto d n (lvalues_named bs p s xs))
    nest_all_onto bs p s none d n a h g = tt
    nest_all_onto bs p s (more x xs) d n a h g =
        let us : List Point = unless (assigned bs x) (at s.place (at_expression x) not_assignable) in
        let fore : Given plan ts n (labels_at (lvalue_named bs p s x)) (us ++ reported (Destination false (at_expression x)) bs p s x) _ = front _ _ g (omega arith) (omega arith) in
        every_both (GoodPart plan ts) _ _ (nest_onto bs p s (Destination false (at_expression x)) x d n a h.0 h.1 (behind_told us fore (omega arith) (omega arith)))
        (nest_all_onto bs p (following x s) xs d _ (onto _ a (omega arith)) h.2 (back _ _ g (omega arith) (omega arith)))

    nest_in : (bs : List Binding) (p : Enclosing) (s : Spot) (c : Command) (d n : ℕ) → Out plan ts bs p.procedure s.number → SoundDone bs p s c
        → Given plan ts n (labels_in (command_named bs p s c)) (reported_done bs p s c) (parts_in d n (command_named bs p s c)) → AllGood plan ts (parts_in d n (command_named bs p s c))
    nest_in bs p s (assign l xs es) d n a h g =
        every_both (GoodPart plan ts) _ _ (nest_all_onto bs (deeper 1 p) s xs (d + 1) n a h.0 (front _ _ g (omega arith) (omega arith)))
        (nest_from bs p (after_each xs s) es d _ (onto _ a (omega arith)) h.1 (back _ _ g (omega arith) (omega arith)))
    nest_in bs p s (call l e es) d n a h g =
        every_both (GoodPart plan ts) _ _ (nest for_value bs (deeper (size es + 2) p) s e _ n a h.0 (front _ _ g (omega arith) (omega arith)))
        (nest_each bs (deeper 2 p) (following e s) es (d + 2) _ (onto _ a (omega arith)) h.1 (back _ _ g (omega arith) (omega arith)))
    nest_in bs p s (label l x c) d n a h g =
        (tt, nest_in bs p (past 1 s) c d (n + 1) (onto _ a (omega arith)) h.1 (within g (omega arith) (omega arith) (told_back (one_of p.labels s.place l x ++ its_meaning (bound_in bs x)) _ g.reported) g.parts.1))
    nest_in bs p s (case_of l e c) d n a h g =
        nest_in bs p (after_constant e (past 1 s)) c d (n + 1) (onto _ a (omega arith)) h.2
        (behind_told (chosen_at p.switch s.place l (constant_word bs e) ++ constant bs p.procedure (past 1 s) e) g (omega arith) (omega arith))
    nest_in bs p s (default l c) d n a h g = nest_in bs p (past 1 s) c d (n + 1) (onto _ a (omega arith)) h.1 (behind_told (defaulted_at p.switch s.place l) g (omega arith) (omega arith))
    nest_in bs p s (when l z e c) d n a h g =
        every_both (GoodPart plan ts) _ _ (nest (for_truth true) bs p s e d (n + 1) a h.0 (front _ _ g (omega arith) (omega arith)))
        (nest_in bs p (following e s) c d _ (onto _ a (omega arith)) h.1 (back _ _ g (omega arith) (omega arith)))
    nest_in bs p s (test l e x y) d n a h g =
        let fore : Given plan ts n (2 + labels_if (condition_named bs p s e) + labels_in (command_named bs p (following e s) x)) _ _ = front _ _ g (omega arith) (omega arith) in
        every_both (GoodPart plan ts) _ _ (every_both (GoodPart plan ts) _ _ (nest (for_truth true) bs p s e d (n + 2) a h.0 (front _ _ fore (omega arith) (omega arith)))
        (nest_in bs p (following e s) x d _ (onto _ a (omega arith)) h.1 (back _ _ fore (omega arith) (omega arith))))
        (nest_in bs p (after_done x (following e s)) y d _ (onto _ a (omega arith)) h.2 (back _ _ g (omega arith) (omega arith)))
    nest_in bs p s (while l z e c) d n a h g =
        every_both (GoodPart plan ts) _ _ (nest (for_truth true) bs p s e d (n + 3) a h.0 (front _ _ g (omega arith) (omega arith)))
        (nest_in bs (looping p) (following e s) c d _ (onto _ a (omega arith)) h.1 (back _ _ g (omega arith) (omega arith)))
    nest_in bs p s (for_loop l x e y k c) d n a h g =
        let u : Spot = onward (symbols_each k) 0 (following y (following e s)) in
        let z : Enclosing = labelled u.number (looping (deeper 2 p)) in
        let cs = bind x.letters (Variable p.procedure p.depth) bs in
        let ds = labels_in_scope p.procedure (u.number + 1) (labels_of c) cs in
        let i : Spot = numbered (1 + length (labels_of c)) u in
        let start = reported Value bs p s e in
        let limit = reported Value bs (deeper 1 p) (following e s) y in
        let steps = each_constant bs p.procedure (following y (following e s)) k in
        let v = term_named bs p s e in
        let w = term_named bs (deeper 1 p) (following e s) y in
        let ps = parts d (n + 4) v ++ parts (d + 1) (n + 4 + labels v) w in
        let old = a.older in
        let further = onto i.number a (omega arith) in
        let own : p.procedure < i.number = omega (arith, old) in
        let inner : Out plan ts cs p.procedure i.number = record { sees = sees_bind (Outside plan ts i.number) x.letters (Variable p.procedure p.depth) bs own further.sees; older = own } in
        let heads = told_front (start ++ limit) steps (told_front (start ++ limit ++ steps) (pushed p 4) (told_front (start ++ limit ++ steps ++ pushed p 4) (reported_done ds z i c) g.reported)) in
        let fore : Given plan ts (n + 4) (labels v + labels w) (start ++ limit) ps = within g (omega arith) (omega arith) heads (every_front (PartRight plan ts) ps _ g.parts) in
        every_both (GoodPart plan ts) ps _ (every_both (GoodPart plan ts) _ _ (nest for_value bs p s e d (n + 4) a h.0 (front _ _ fore (omega arith) (omega arith)))
        (nest for_value bs (deeper 1 p) (following e s) y (d + 1) _ (onto _ a (omega arith)) h.1 (back _ _ fore (omega arith) (omega arith))))
        (nest_in ds z i c (d + 2) _ (labels_out plan ts p.procedure p.procedure (u.number + 1) (labels_of c) cs i.number own inner) h.3 (back (start ++ limit ++ steps ++ pushed p 4) ps g (omega arith) (omega arith)))
    nest_in bs p s (switch l e c) d n a h g =
        every_both (GoodPart plan ts) _ _ (nest for_value bs p s e d (n + 1) a h.0 (front _ _ g (omega arith) (omega arith)))
        (nest_in bs (switching (following e s).number p) (numbered 1 (following e s)) c d _ (onto _ a (omega arith)) h.1 (back _ _ g (omega arith) (omega arith)))
    nest_in bs p s (result l e) d n a h g =
        nest for_value bs p (past 1 s) e d n (onto _ a (omega arith)) h.1 (behind_told (unless p.in_valof (at s.place l no_result_or_return)) g (omega arith) (omega arith))
    nest_in bs p s (block l no_declarations cs) d n a h g =
        subst (λ (m : ℕ). AllGood plan ts (parts_through d m (commands_named bs p s cs))) (sym (no_more n))
        (nest_through bs p s cs d n a h (within g (omega arith) (omega arith) g.reported (subst (λ (m : ℕ). PartsRight plan ts (parts_through d m (commands_named bs p s cs))) (no_more n) g.parts)))
    nest_in bs p s (block l (declare x xs) cs) d n a h g =
        let u : Spot = after_declared (declare x xs) s in
        let z : Enclosing = place_after_all bs p s (declare x xs) in
        let es = scope_after bs p s (declare x xs) in
        let i : Spot = numbered (1 + length (labels_of_each cs)) u in
        let y = declarations_named bs p s (declare x xs) in
        let v = declaration_named bs p s x in
        let fore : Given plan ts n (labels_of_declarations y) (reported_declared bs p s (declare x xs)) (parts_of_declarations d n y) = front _ _ g (omega arith) (omega arith) in
        let first : Given plan ts n (labels_of_declaration v) (reported_one_declared bs p s x) (parts_of_declaration d n v) = front _ _ fore (omega arith) (omega arith) in
        let old = a.older in
        every_both (GoodPart plan ts) (parts_of_declarations d n y) _ (every_both (GoodPart plan ts) (parts_of_declaration d n v) _ (nest_one_declared bs p s x d n a h.0.0 first)
        (nest_declared _ _ (after_one_declared x s) xs (after_declaration d v) _ (one_declared_out plan ts bs p s x d n a first) h.0.1 (back _ _ fore (omega arith) (omega arith))))
        (nest_through (labels_in_scope p.procedure (u.number + 1) (labels_of_each cs) es) (labelled u.number z) i cs (after_declarations d y) _
        (labels_out plan ts z.procedure p.procedure (u.number + 1) (labels_of_each cs) es i.number (omega (arith, old)) (onto i.number (declared_out plan ts bs p s (declare x xs) d n a fore) (omega arith))) h.1
        (back _ _ g (omega arith) (omega arith)))
    nest_in bs p s (repeat l c) d n a h g = nest_in bs (looping p) s c d (n + 2) a h (within g (omega arith) (omega arith) g.reported g.parts)
    nest_in bs p s (repeat_while l z c e) d n a h g =
        every_both (GoodPart plan ts) _ _ (nest_in bs (looping p) s c d (n + 3) a h.0 (front _ _ g (omega arith) (omega arith)))
        (nest (for_truth true) bs p (after_done c s) e d _ (onto _ a (omega arith)) h.1 (back _ _ g (omega arith) (omega arith)))
    nest_in bs p s _ d n a h g = tt

    nest_through : (bs : List Binding) (p : Enclosing) (s : Spot) (cs : Commands) (d n : ℕ) → Out plan ts bs p.procedure s.number → SoundDoneEach bs p s cs
        → Given plan ts n (labels_through (commands_named bs p s cs)) (reported_done_each bs p s cs) (parts_through d n (commands_named bs p s cs)) → AllGood plan ts (parts_through d n (commands_named bs p s cs))
    nest_through bs p s no_commands d n a h g = tt
    nest_through bs p s (also c cs) d n a h g =
        every_both (GoodPart plan ts) _ _ (nest_in bs p s c d n a h.0 (front _ _ g (omega arith) (omega arith)))
        (nest_through bs p (after_done c s) cs d _ (onto _ a (omega arith)) h.1 (back _ _ g (omega arith) (omega arith)))

    nest_declared : (bs : List Binding) (p : Enclosing) (s : Spot) (xs : Declarations) (d n : ℕ) → Out plan ts bs p.procedure s.number → SoundDeclared bs p s xs
        → Given plan ts n (labels_of_declarations (declarations_named bs p s xs)) (reported_declared bs p s xs) (parts_of_declarations d n (declarations_named bs p s xs)) → AllGood plan ts (parts_of_declarations d n (declarations_named bs p s xs))
    nest_declared bs p s no_declarations d n a h g = tt
    nest_declared bs p s (declare x xs) d n a h g =
        let v = declaration_named bs p s x in
        let first : Given plan ts n (labels_of_declaration v) (reported_one_declared bs p s x) (parts_of_declaration d n v) = front _ _ g (omega arith) (omega arith) in
        every_both (GoodPart plan ts) (parts_of_declaration d n v) _ (nest_one_declared bs p s x d n a h.0 first)
        (nest_declared _ _ (after_one_declared x s) xs (after_declaration d v) _ (one_declared_out plan ts bs p s x d n a first) h.1 (back _ _ g (omega arith) (omega arith)))

    nest_one_declared : (bs : List Binding) (p : Enclosing) (s : Spot) (x : Declaration) (d n : ℕ) → Out plan ts bs p.procedure s.number → SoundOneDeclared bs p s x
        → Given plan ts n (labels_of_declaration (declaration_named bs p s x)) (reported_one_declared bs p s x) (parts_of_declaration d n (declaration_named bs p s x)) → AllGood plan ts (parts_of_declaration d n (declaration_named bs p s x))
    nest_one_declared bs p s (constants l sort.Static is) d n a h g = items_good plan ts n (statics_named bs (numbered 1 s) is) g.low g.high
    nest_one_declared bs p s (constants l _ is) d n a h g = tt
    nest_one_declared bs p s (definitions l ds) d n a h g =
        let v : Spot = numbered (1 + procedures_in ds) s in
        nest_defined s.number (procedures_in_scope (s.number + 1) ds bs) p v ds d n (procedures_out plan ts bs p p.procedure s v ds d n v.number _ (onto v.number a (omega arith)) g) h g

    nest_defined : (m : ℕ) (bs : List Binding) (p : Enclosing) (s : Spot) (ds : Definitions) (d n : ℕ) → Out plan ts bs p.procedure s.number → SoundDefined bs p s ds
        → Given plan ts n (labels_of_definitions (definitions_named bs p s ds)) (reported_defined m bs p s ds) (parts_of_definitions d n (definitions_named bs p s ds)) → AllGood plan ts (parts_of_definitions d n (definitions_named bs p s ds))
    nest_defined m bs p s no_definitions d n a h g = tt
    nest_defined m bs p s (define x ds) d n a h g =
        let further = onto (after_one_defined x s).number a (omega arith) in
        let moved = subst (λ (k : ℕ). Out plan ts bs k (after_one_defined x s).number) (sym (same_one_defined bs p x).0) further in
        every_both (GoodPart plan ts) _ _ (nest_one_defined m bs p s x d n a h.0 (front _ _ g (omega arith) (omega arith)))
        (nest_defined m bs (place_after_one_defined bs p x) (after_one_defined x s) ds (after_definition d (definition_named bs p s x)) _ moved h.1 (back _ _ g (omega arith) (omega arith)))

    nest_one_defined : (m : ℕ) (bs : List Binding) (p : Enclosing) (s : Spot) (x : Definition) (d n : ℕ) → Out plan ts bs p.procedure s.number → SoundOneDefined bs p s x
        → Given plan ts n (labels_of_definition (definition_named bs p s x)) (reported_one_defined m bs p s x) (parts_of_definition d n (definition_named bs p s x)) → AllGood plan ts (parts_of_definition d n (definition_named bs p s x))
    nest_one_defined m bs p s (variables l xs is) d n a h g =
        nest_started bs p (past (length xs) s) is d n (onto _ a (omega arith)) h (behind_told (each_of m s.place xs) g (omega arith) (omega arith))
    nest_one_defined m bs p s (routine l x fs c) d n a h g =
        let z : Enclosing = labelled (s.number + 1) (called true s.number (length fs)) in
        let u : Spot = onward (1 + length fs) (2 + length (labels_of c)) s in
        let es = with_formals s.number 2 fs bs in
        let cs = labels_in_scope s.number (s.number + 2) (labels_of c) es in
        let further = onto u.number a (omega arith) in
        let inner : Out plan ts es s.number u.number = record { sees = formals_out plan ts s.number 2 u.number fs bs (omega arith) further.sees; older = omega arith } in (
          routine_good plan ts m bs p s l x fs c d n a h g,
          nest_in cs z u c (length fs + 2) (n + labels_of_procedure (meant (bound_in bs x))) (labels_out plan ts s.number s.number (s.number + 2) (labels_of c) es u.number (omega arith) inner) h.2
              (within g (omega arith) (omega arith) (body_quiet m s.number s l x fs (bound_in bs x) (reported_done cs z u c) g.reported) g.parts.1),
        )
    nest_one_defined m bs p s (function l x fs e) d n a h g =
        let z : Enclosing = called false s.number (length fs) in
        let u : Spot = onward (1 + length fs) 1 s in
        let cs = with_formals s.number 2 fs bs in
        let further = onto u.number a (omega arith) in
        let inner : Out plan ts cs s.number u.number = record { sees = formals_out plan ts s.number 2 u.number fs bs (omega arith) further.sees; older = omega arith } in (
          function_good plan ts m bs p s l x fs e d n a h g,
          nest for_value cs z u e (length fs + 2) (n + labels_of_procedure (meant (bound_in bs x))) inner h.2
              (within g (omega arith) (omega arith) (body_quiet m s.number s l x fs (bound_in bs x) (reported Value cs z u e) g.reported) g.parts.1),
        )

    nest_started : (bs : List Binding) (p : Enclosing) (s : Spot) (is : Starts) (d n : ℕ) → Out plan ts bs p.procedure s.number → SoundStarted bs p s is
        → Given plan ts n (labels_of_starts (starts_named bs p s is)) (reported_started bs p s is) (parts_of_starts d n (starts_named bs p s is)) → AllGood plan ts (parts_of_starts d n (starts_named bs p s is))
    nest_started bs p s no_starts d n a h g = tt
    nest_started bs p s (value e is) d n a h g =
        every_both (GoodPart plan ts) _ _ (nest for_value bs p s e d n a h.0 (front _ _ g (omega arith) (omega arith)))
        (nest_started bs (deeper 1 p) (following e s) is (d + 1) _ (onto _ a (omega arith)) h.1 (back _ _ g (omega arith) (omega arith)))
    nest_started bs p s (vector l e is) d n a h g =
        nest_started bs (deeper (words_of_start bs e + 1) p) (after_constant e s) is (d + worth (constant_word bs e) + 2) n (onto _ a (omega arith)) h.1
        (behind_told (constant bs p.procedure s e ++ at_most VEC_NUMBER s.place (at_expression e) vec_out_of_range (constant_word bs e) ++ pushed p (words_of_start bs e + 1)) g (omega arith) (omega arith))

-- THE PARTS OF A SECTION ARE GOOD
pub section_good : (plan : ℕ → Use) (ts : List Target) (xs : Declarations) → SoundDeclared [] outermost beginning xs → Quiet (reported_declared [] outermost beginning xs)
    → 1 + labels_of_declarations (declarations_named [] outermost beginning xs) ≤ OCODE_LABEL → PartsRight plan ts (parts_of_declarations 2 1 (declarations_named [] outermost beginning xs))
    → AllGood plan ts (parts_of_declarations 2 1 (declarations_named [] outermost beginning xs))
section_good plan ts xs h f few b =
    nest_declared plan ts [] outermost beginning xs 2 1 (record { sees = sees_none (Outside plan ts 1); older = omega arith }) h (record { low = omega arith; high = omega (arith, few); reported = f; parts = b })

-- The code of each form goes from one depth to another and agrees with the plan: a value is pushed, a condition leaves nothing, a
-- command nothing, and declarations their variables.
use Rattle.bk_trans.proofs.Terms.{Simple as w, Bound as b, Variable as v, Dyadic as two, Stmt as t, Around, Target, labels, labels_each, labels_if, labels_at, labels_onto, labels_in, labels_through, labels_of_declaration, labels_of_declarations, labels_of_definition, labels_of_definitions, labels_of_starts, count, after_starts, after_declaration, after_declarations, after_definition, after_definitions, has_variables, Part, static_table, parts, parts_each, parts_if, parts_at, parts_onto, parts_from, parts_in, parts_through, parts_of_declarations, parts_of_declaration, parts_of_definitions, parts_of_definition, parts_of_starts, goal_of, push, truth_value, by_turns, value_code, each_code, jump_code, address_code, store_code, value_codes, store_codes, command_code, through_code, declarations_code, declaration_code, definitions_code, definition_code, starts_code, goal, variable, valued, looping, switching, label_or, default_in, cases, test_of_step}
use Rattle.bk_ocode.specs.Typing as typing
use Rattle.bk_trans.specs.Program.{Term, Terms, Condition, Lvalue, Lvalues, NamedCommand, NamedCommands, Declaration, Declarations, Definition, Definitions, Starts, named, number, text, truth, query, parens, unary, address, binary, choice, apply, valof, table, none, more, holds, within, fails, both, either, word, contents, subscript, byte, inside, nowhere, no_lvalues, onto, assign, call, goto, label, case_of, default, when, test, while, for_loop, switch, result, simple, block, repeat, repeat_while, no_named_commands, also, statics, lets, no_declarations, declare, variables, no_definitions, define, no_starts, value, vector}
pub use Rattle.bk_trans.proofs.Good.{Exits, in_loop, in_switch, in_valof, IsGoal, Good, GoodEach, GoodIf, GoodAt, GoodOnto, GoodAllOnto, GoodFrom, GoodIn, GoodThrough, GoodDeclared, GoodOneDeclared, GoodDefined, GoodOneDefined, GoodStarted, Mark, marks, marks_each, marks_if, marks_at, marks_onto, marks_all_onto, marks_from, marks_by_turns, marks_in, marks_through, marks_of_declaration, marks_of_declarations, marks_of_definition, marks_of_definitions, marks_of_starts, AllRight, Right, no_more, arith, ◌≡◌, ℕ, ◌+◌, ◌-◌, ◌≤◌, Bool, true, false, not, cond, List, [], ◌∷◌, ◌++◌, map, refl, subst, ◌∙◌, ⊤, signed, FRAME_WORDS, OCODE_LABEL, Case, Stmt, IsLabel, AreCases, Use, jumps, results, AllJump, Fits, done, lands, takes, Every, every_front, every_back, first_bytes, IsWord, Pushed, Held, Goes, case_words, case_words_through, AllWords, connective_mark, no_exits, Room, set_both, words_none, inr, ◌==◌, Some, length, sym, ap, eqb-true, eq-eqb, length-append, GLOBAL_NUMBER, OCODE_STATEMENTS, Bound, GlobalEntry, joined, IsGlobal, AreEntries, outside, ended, AllEntries, Typed, enters, returns, gives, begins, points, ends, sets, times_set, every_both, total_both, all_found, every_at}
use Rattle.bk_trans.proofs.Steps.{back, Steps, append, step, last, fits_number, fits_truth, next_truth, fits_local, fits_push, next_push, fits_address, fits_assign, fits_dyadic, fits_assign_at, fits_assign_byte, fits_jump, fits_jump_if, fits_give, fits_stack, fits_test, next_test, prefix_steps, dyadic_steps, infix_steps, go_steps, short_bytes}
use Rattle.bk_trans.proofs.Cases.{default_is, cases_are, cases_jump, chosen}

-- the tables among parts have words
abbrev pub TableRight : (ℕ → Use) → Part → Type 0
TableRight plan (static_table n ws) = plan n ≡ typing.word
TableRight plan _ = ⊤

abbrev pub AllTables : (ℕ → Use) → List Part → Type 0
AllTables plan xs = Every (TableRight plan) xs

-- what stands around a command
pub record Surrounds (plan : ℕ → Use) (p : ℕ) (x : Exits) (s : ℕ) (a : Around) : Type 0 where
  pub loop : x.loop ≡ true → IsGoal plan p a.goes_on × IsGoal plan p a.leaves
  pub switch : x.switch ≡ true → IsGoal plan p a.ends_case
  pub valof : x.valof ≡ true → (d : ℕ) × (plan a.valof ≡ results p d) × IsLabel a.valof × (d ≤ s)

deeper : (plan : ℕ → Use) (p : ℕ) (x : Exits) (s u : ℕ) (a : Around) → s ≤ u → Surrounds plan p x s a → Surrounds plan p x u a
deeper plan p x s u a low h = record {
  loop = h.loop;
  switch = h.switch;
  valof = λ e. let g = h.valof e in (g.0, g.1, g.2, (let d = g.3 in omega (arith, d, low)));
}

around_loop : (plan : ℕ → Use) (p : ℕ) (x : Exits) (s : ℕ) (a : Around) (l m d : ℕ) → IsGoal plan p (goal l d) → IsGoal plan p (goal m d) → Surrounds plan p x s a → Surrounds plan p (in_loop x) s (looping l m d a)
around_loop plan p x s a l m d g h i = record { loop = λ e. (g, h); switch = i.switch; valof = i.valof }

around_valof : (plan : ℕ → Use) (p s l : ℕ) → plan l ≡ results p s → IsLabel l → Surrounds plan p in_valof s (valued l)
around_valof plan p s l e range = record {
  loop = λ h. absurd (let n : false ≡ true = h in cc);
  switch = λ h. absurd (let n : false ≡ true = h in cc);
  valof = λ h. (s, e, range, omega arith);
}

-- the frame has room for what is pushed
mutual
  room : (plan : ℕ → Use) (ts : List Target) (p s : ℕ) (e : Term) → Good plan ts p s e → s + 1 ≤ FRAME_WORDS
  room plan ts p s (named x) g = g.1
  room plan ts p s (parens e) g = room plan ts p s e g
  room plan ts p s (unary q e) g = room plan ts p s e g
  room plan ts p s (address x) g = g.1
  room plan ts p s (binary o a b) g = room plan ts p s a g.0
  room plan ts p s (choice c a b) g = room plan ts p s a g.1
  room plan ts p s (apply e es) g = let h = room plan ts p (s + 2 + count es) e g.1 in omega (arith, h)
  room plan ts p s (valof c) g = g.1
  room plan ts p s _ g = g

room_started : (plan : ℕ → Use) (ts : List Target) (p t : ℕ) (is : Starts) → GoodStarted plan ts p t is → t ≤ FRAME_WORDS → after_starts t is ≤ FRAME_WORDS
room_started plan ts p t no_starts g high = high
room_started plan ts p t (value e is) g high = room_started plan ts p (t + 1) is g.1 (room plan ts p t e g.0)
room_started plan ts p t (vector k is) g high = room_started plan ts p (t + k + 2) is g.1 g.0

room_one_defined : (plan : ℕ → Use) (ts : List Target) (p t : ℕ) (d : Definition) → GoodOneDefined plan ts p t d → t ≤ FRAME_WORDS → after_definition t d ≤ FRAME_WORDS
room_one_defined plan ts p t (variables is) g high = room_started plan ts p t is g high
room_one_defined plan ts p t _ g high = high

room_defined : (plan : ℕ → Use) (ts : List Target) (p t : ℕ) (ds : Definitions) → GoodDefined plan ts p t ds → t ≤ FRAME_WORDS → after_definitions t ds ≤ FRAME_WORDS
room_defined plan ts p t no_definitions g high = high
room_defined plan ts p t (define d ds) g high = room_defined plan ts p (after_definition t d) ds g.1 (room_one_defined plan ts p t d g.0 high)

room_one_declared : (plan : ℕ → Use) (ts : List Target) (p t : ℕ) (h : Declaration) → GoodOneDeclared plan ts p t h → t ≤ FRAME_WORDS → after_declaration t h ≤ FRAME_WORDS
room_one_declared plan ts p t (statics ks) g high = high
room_one_declared plan ts p t (lets ds) g high = room_defined plan ts p t ds g high

room_declared : (plan : ℕ → Use) (ts : List Target) (p t : ℕ) (hs : Declarations) → GoodDeclared plan ts p t hs → t ≤ FRAME_WORDS → after_declarations t hs ≤ FRAME_WORDS
room_declared plan ts p t no_declarations g high = high
room_declared plan ts p t (declare h hs) g high = room_declared plan ts p (after_declaration t h) hs g.1 (room_one_declared plan ts p t h g.0 high)

-- declarations leave the frame as deep or deeper
pub grown_starts : (t : ℕ) (is : Starts) → t ≤ after_starts t is
grown_starts t no_starts = omega arith
grown_starts t (value e is) = let h = grown_starts (t + 1) is in omega (arith, h)
grown_starts t (vector k is) = let h = grown_starts (t + k + 2) is in omega (arith, h)

pub grown_one_defined : (t : ℕ) (d : Definition) → t ≤ after_definition t d
grown_one_defined t (variables is) = grown_starts t is
grown_one_defined t _ = omega arith

pub grown_defined : (t : ℕ) (ds : Definitions) → t ≤ after_definitions t ds
grown_defined t no_definitions = omega arith
grown_defined t (define d ds) = let h = grown_one_defined t d in let i = grown_defined (after_definition t d) ds in omega (arith, h, i)

grown_one_declared : (t : ℕ) (h : Declaration) → t ≤ after_declaration t h
grown_one_declared t (statics ks) = omega arith
grown_one_declared t (lets ds) = grown_defined t ds

grown_declared : (t : ℕ) (hs : Declarations) → t ≤ after_declarations t hs
grown_declared t no_declarations = omega arith
grown_declared t (declare h hs) = let i = grown_one_declared t h in let j = grown_declared (after_declaration t h) hs in omega (arith, i, j)

-- the end of a stretch by another name
ending : {plan : ℕ → Use} {p k : ℕ} {xs : List Stmt} (m j : ℕ) → m ≡ j → Steps plan p k xs m → Steps plan p k xs j
ending {plan} {p} {k} {xs} m j e h = subst (λ (y : ℕ). Steps plan p k xs y) e h

-- several codes that go from one depth to another where their labels are right, as far as they have others beside them
abbrev AllKeep : (ℕ → Use) → ℕ → ℕ → ℕ → List (List Stmt) → List (List Mark) → List (List Stmt) → Type 0
AllKeep plan p s u (c ∷ cs) (m ∷ ms) (d ∷ ds) = (AllRight plan m → Steps plan p s c u) × AllKeep plan p s u cs ms ds
AllKeep plan p s u (c ∷ cs) [] (d ∷ ds) = ⊥
AllKeep plan p s u _ _ _ = ⊤

turns_typed : (plan : ℕ → Use) (p s : ℕ) (cs ds : List (List Stmt)) (ms ns : List (List Mark)) → AllKeep plan p s (s + 1) cs ms ds → AllKeep plan p (s + 1) s ds ns cs
    → AllRight plan (marks_by_turns ms ns) → Steps plan p s (by_turns cs ds) s
turns_typed plan p s [] ds ms ns h i r = done
turns_typed plan p s (c ∷ cs) [] ms ns h i r = done
turns_typed plan p s (c ∷ cs) (d ∷ ds) [] ns h i r = elim h [ ]
turns_typed plan p s (c ∷ cs) (d ∷ ds) (m ∷ ms) [] h i r = elim i [ ]
turns_typed plan p s (c ∷ cs) (d ∷ ds) (m ∷ ms) (n ∷ ns) h i r =
    let front = every_front (Right plan) (m ++ n) _ r in
    append (append (h.0 (every_front (Right plan) m n front)) (i.0 (every_back (Right plan) m n front))) (turns_typed plan p s cs ds ms ns h.1 i.1 (every_back (Right plan) (m ++ n) _ r))

stored : (plan : ℕ → Use) (p s : ℕ) (x : Bool) → s ≤ FRAME_WORDS → Steps plan p s (cond x (t.Store ∷ []) []) s
stored plan p s true top = last s t.Store (record { placed = refl; ranged = tt; deep = omega arith; shallow = top; agrees = tt }) refl
stored plan p s false top = done

label_is : (n m : ℕ) → 1 ≤ n → n + 1 ≤ m + 1 → m ≤ OCODE_LABEL → IsLabel n
label_is n m low below high = (low, omega (arith, below, high))

fits_switch : (plan : ℕ → Use) (p s l : ℕ) (cs : List Case) → (plan l ≡ jumps p s) × IsLabel l → AreCases cs → AllJump plan p s (map (λ c. c.label) cs) → 2 ≤ s → s + 1 ≤ FRAME_WORDS
    → Fits plan p (s + 1) (t.Switch l cs)
fits_switch plan p s l cs h are jumping low high =
    let e : s ≡ s + 1 - 1 = omega arith in
    record { placed = refl; ranged = (h.1, are); deep = omega (arith, low); shallow = omega (arith, high); agrees = subst (λ (y : ℕ). AllJump plan p y (l ∷ map (λ c. c.label) cs)) e (h.0, jumping) }

module _ (plan : ℕ → Use) (ts : List Target) (p : ℕ) where
  mutual
    pub value_typed : (s n : ℕ) (e : Term) → 2 ≤ s → 1 ≤ n → n + labels e ≤ OCODE_LABEL + 1
        → Good plan ts p s e → AllTables plan (parts s n e) → AllRight plan (marks p s n e) → Steps plan p s (value_code ts s n e) (s + 1)
    value_typed s n (named x) deep low high g a r = last (s + 1) (push ts x) (fits_push plan ts p s x g.0 g.1) (next_push ts s x)
    value_typed s n (number v) deep low high g a r = last (s + 1) _ (fits_number plan p s (signed v) g) refl
    value_typed s n (text v) deep low high g a r = last (s + 1) (t.Text (first_bytes v)) (record { placed = refl; ranged = short_bytes v; deep = omega arith; shallow = g; agrees = tt }) refl
    value_typed s n (truth v) deep low high g a r = last (s + 1) (truth_value v) (fits_truth plan p s v g) (next_truth s v)
    value_typed s n query deep low high g a r = last (s + 1) t.Query (record { placed = refl; ranged = tt; deep = omega arith; shallow = g; agrees = tt }) refl
    value_typed s n (parens e) deep low high g a r = value_typed s n e deep low high g a r
    value_typed s n (unary q e) deep low high g a r = append (value_typed s n e deep low high g a r) (prefix_steps plan p s deep (room plan ts p s e g) q)
    value_typed s n (address x) deep low high g a r = address_typed s n x deep low high g.0 g.1 a r
    value_typed s n (binary f x y) deep low high g a r =
        append (append (value_typed s n x deep low (omega (arith, high)) g.0 (every_front (TableRight plan) (parts s n x) _ a) (every_front (Right plan) (marks p s n x) _ r))
        (value_typed (s + 1) (n + labels x) y (omega (arith, deep)) (omega (arith, low)) (omega (arith, high)) g.1 (every_back (TableRight plan) (parts s n x) _ a) (every_back (Right plan) (marks p s n x) _ r)))
        (infix_steps plan p s deep (room plan ts p (s + 1) y g.1) f)
    value_typed s n (choice c x y) deep low high g a r =
        let top = room plan ts p s x g.1 in
        let first_marks = marks_if p s (n + 2) c false ++ marks p s (n + 2 + labels_if c) x in
        let first_parts = parts_if s (n + 2) c ++ parts s (n + 2 + labels_if c) x in
        let own : IsLabel n = (low, omega (arith, high)) in
        let next : IsLabel (n + 1) = (omega (arith, low), omega (arith, high)) in
        let back : s + 1 - 1 ≡ s = omega arith in
        let fits : Fits plan p (s + 1) (t.GiveResult (n + 1)) = fits_give plan p s s (n + 1) r.1.0 (omega arith) next deep top in
        let before = append (if_typed s (n + 2) c false n deep (omega (arith, low)) (omega (arith, high)) r.0 own g.0 (every_front (TableRight plan) (parts_if s (n + 2) c) _ (every_front (TableRight plan) first_parts _ a))
        (every_front (Right plan) (marks_if p s (n + 2) c false) _ (every_front (Right plan) first_marks _ r.1.1)))
        (value_typed s (n + 2 + labels_if c) x deep (omega (arith, low)) (omega (arith, high)) g.1 (every_back (TableRight plan) (parts_if s (n + 2) c) _ (every_front (TableRight plan) first_parts _ a))
        (every_back (Right plan) (marks_if p s (n + 2) c false) _ (every_front (Right plan) first_marks _ r.1.1))) in
        let middle = step s (t.GiveResult (n + 1)) fits back (lands r.0 own (value_typed s (n + 2 + labels_if c + labels x) y deep (omega (arith, low)) (omega (arith, high)) g.2
        (every_back (TableRight plan) first_parts _ a) (every_back (Right plan) first_marks _ r.1.1))) in
        let end : Steps plan p (s + 1) (t.GiveResult (n + 1) ∷ t.Label (n + 1) ∷ t.TakeResult s ∷ []) (s + 1) = step s (t.GiveResult (n + 1)) fits back (takes r.1.0 next deep (omega arith) top done) in
        append (append before middle) end
    value_typed s n (apply e es) deep low high g a r =
        let u = s + 2 + count es in
        let top : u + 1 ≤ FRAME_WORDS = room plan ts p u e g.1 in
        let args = each_typed (s + 2) (n + labels e) es (omega (arith, deep)) (omega (arith, low)) (omega (arith, high)) g.0 (every_back (TableRight plan) (parts u n e) _ a)
        (every_front (Right plan) (marks_each p (s + 2) (n + labels e) es) _ r) in
        let called = value_typed u n e (omega (arith, deep)) low (omega (arith, high)) g.1 (every_front (TableRight plan) (parts u n e) _ a) (every_back (Right plan) (marks_each p (s + 2) (n + labels e) es) _ r) in
        append (append (step (s + 2) (t.Stack (s + 2)) (fits_stack plan p s (s + 2) (omega (arith, deep), omega (arith, top))) refl args) called)
        (last (s + 1) (t.CallFunction s) (record { placed = refl; ranged = (deep, omega (arith, top)); deep = omega arith; shallow = omega (arith, top); agrees = tt }) refl)
    value_typed s n (valof c) deep low high g a r =
        let own : IsLabel n = (low, omega (arith, high)) in
        let inner = command_typed in_valof (valued n) s (n + 1) c deep (let h = g.1 in omega (arith, h)) (omega (arith, low)) (omega (arith, high)) (around_valof plan p s n r.0 own) g.0 a r.1 in
        append inner (takes r.0 own deep (omega arith) g.1 done)
    value_typed s n (table vs) deep low high g a r =
        last (s + 1) _ (record { placed = refl; ranged = (low, omega (arith, high)); deep = omega arith; shallow = g; agrees = a.0 }) refl

    each_typed : (s n : ℕ) (es : Terms) → 2 ≤ s → 1 ≤ n → n + labels_each es ≤ OCODE_LABEL + 1
        → GoodEach plan ts p s es → AllTables plan (parts_each s n es) → AllRight plan (marks_each p s n es) → Steps plan p s (each_code ts s n es) (s + count es)
    each_typed s n none deep low high g a r = ending s (s + 0) (omega arith) done
    each_typed s n (more e es) deep low high g a r =
        ending (s + 1 + count es) (s + (count es + 1)) (omega arith)
        (append (value_typed s n e deep low (omega (arith, high)) g.0 (every_front (TableRight plan) (parts s n e) _ a) (every_front (Right plan) (marks p s n e) _ r))
        (each_typed (s + 1) (n + labels e) es (omega (arith, deep)) (omega (arith, low)) (omega (arith, high)) g.1 (every_back (TableRight plan) (parts s n e) _ a) (every_back (Right plan) (marks p s n e) _ r)))

    if_typed : (s n : ℕ) (c : Condition) (x : Bool) (l : ℕ) → 2 ≤ s → 1 ≤ n → n + labels_if c ≤ OCODE_LABEL + 1 → plan l ≡ jumps p s → IsLabel l
        → GoodIf plan ts p s c → AllTables plan (parts_if s n c) → AllRight plan (marks_if p s n c x) → Steps plan p s (jump_code ts s n c x l) s
    if_typed s n (holds e) x l deep low high is range g a r =
        append (value_typed s n e deep low high g a r) (last s (t.JumpIf x l) (fits_jump_if plan p s x l is range deep (room plan ts p s e g)) (omega arith))
    if_typed s n (within c) x l deep low high is range g a r = if_typed s n c x l deep low high is range g a r
    if_typed s n (fails c) x l deep low high is range g a r = if_typed s n c (not x) l deep low high is range g a r
    if_typed s n (both c d) false l deep low high is range g a r =
        append (if_typed s (n + 1) c false l deep (omega (arith, low)) (omega (arith, high)) is range g.0 (every_front (TableRight plan) (parts_if s (n + 1) c) _ a) (every_front (Right plan) (marks_if p s (n + 1) c false) _ r))
        (if_typed s (n + 1 + labels_if c) d false l deep (omega (arith, low)) (omega (arith, high)) is range g.1 (every_back (TableRight plan) (parts_if s (n + 1) c) _ a) (every_back (Right plan) (marks_if p s (n + 1) c false) _ r))
    if_typed s n (both c d) true l deep low high is range g a r =
        let own : IsLabel n = (low, omega (arith, high)) in
        append (append (if_typed s (n + 1) c false n deep (omega (arith, low)) (omega (arith, high)) r.0 own g.0 (every_front (TableRight plan) (parts_if s (n + 1) c) _ a) (every_front (Right plan) (marks_if p s (n + 1) c false) _ r.1))
        (if_typed s (n + 1 + labels_if c) d true l deep (omega (arith, low)) (omega (arith, high)) is range g.1 (every_back (TableRight plan) (parts_if s (n + 1) c) _ a) (every_back (Right plan) (marks_if p s (n + 1) c false) _ r.1)))
        (lands r.0 own done)
    if_typed s n (either c d) true l deep low high is range g a r =
        append (if_typed s (n + 1) c true l deep (omega (arith, low)) (omega (arith, high)) is range g.0 (every_front (TableRight plan) (parts_if s (n + 1) c) _ a) (every_front (Right plan) (marks_if p s (n + 1) c true) _ r))
        (if_typed s (n + 1 + labels_if c) d true l deep (omega (arith, low)) (omega (arith, high)) is range g.1 (every_back (TableRight plan) (parts_if s (n + 1) c) _ a) (every_back (Right plan) (marks_if p s (n + 1) c true) _ r))
    if_typed s n (either c d) false l deep low high is range g a r =
        let own : IsLabel n = (low, omega (arith, high)) in
        append (append (if_typed s (n + 1) c true n deep (omega (arith, low)) (omega (arith, high)) r.0 own g.0 (every_front (TableRight plan) (parts_if s (n + 1) c) _ a) (every_front (Right plan) (marks_if p s (n + 1) c true) _ r.1))
        (if_typed s (n + 1 + labels_if c) d false l deep (omega (arith, low)) (omega (arith, high)) is range g.1 (every_back (TableRight plan) (parts_if s (n + 1) c) _ a) (every_back (Right plan) (marks_if p s (n + 1) c true) _ r.1)))
        (lands r.0 own done)

    address_typed : (s n : ℕ) (x : Lvalue) → 2 ≤ s → 1 ≤ n → n + labels_at x ≤ OCODE_LABEL + 1 → GoodAt plan ts p s x → s + 1 ≤ FRAME_WORDS
        → AllTables plan (parts_at s n x) → AllRight plan (marks_at p s n x) → Steps plan p s (address_code ts s n x) (s + 1)
    address_typed s n (word y) deep low high g top a r = last (s + 1) (t.Address (variable ts y)) (fits_address plan ts p s y g top) refl
    address_typed s n (contents e) deep low high g top a r = value_typed s n e deep low high g a r
    address_typed s n (subscript x y) deep low high g top a r =
        append (append (value_typed s n x deep low (omega (arith, high)) g.0 (every_front (TableRight plan) (parts s n x) _ a) (every_front (Right plan) (marks p s n x) _ r))
        (value_typed (s + 1) (n + labels x) y (omega (arith, deep)) (omega (arith, low)) (omega (arith, high)) g.1 (every_back (TableRight plan) (parts s n x) _ a) (every_back (Right plan) (marks p s n x) _ r)))
        (dyadic_steps plan p s deep (room plan ts p (s + 1) y g.1) two.Add)
    address_typed s n (inside x) deep low high g top a r = address_typed s n x deep low high g top a r
    address_typed s n _ deep low high g top a r = elim g [ ]

    -- with a value above
    onto_typed : (s n : ℕ) (x : Lvalue) → 2 ≤ s → 1 ≤ n → n + labels_at x ≤ OCODE_LABEL + 1 → GoodOnto plan ts p s x → s + 1 ≤ FRAME_WORDS
        → AllTables plan (parts_at (s + 1) n x) → AllRight plan (marks_onto p (s + 1) n x) → Steps plan p (s + 1) (store_code ts (s + 1) n x) s
    onto_typed s n (word y) deep low high g top a r = last s (t.Assign (variable ts y)) (fits_assign plan ts p s y g deep top) (omega arith)
    onto_typed s n (contents e) deep low high g top a r =
        append (value_typed (s + 1) n e (omega (arith, deep)) low high g a r)
        (last s t.AssignAt (fits_assign_at plan p (s + 1 + 1) (omega (arith, deep)) (room plan ts p (s + 1) e g)) (omega arith))
    onto_typed s n (subscript x y) deep low high g top a r =
        let u = s + 1 in
        let h = room plan ts p (u + 1) y g.1 in
        append (append (value_typed u n x (omega (arith, deep)) low (omega (arith, high)) g.0 (every_front (TableRight plan) (parts u n x) _ a) (every_front (Right plan) (marks p u n x) _ r))
        (value_typed (u + 1) (n + labels x) y (omega (arith, deep)) (omega (arith, low)) (omega (arith, high)) g.1 (every_back (TableRight plan) (parts u n x) _ a) (every_back (Right plan) (marks p u n x) _ r)))
        (step (u + 1) (t.Dyadic two.Add) (fits_dyadic plan p (u + 1 + 1) two.Add (omega (arith, deep)) h) (omega arith)
        (last s t.AssignAt (fits_assign_at plan p (u + 1) (omega (arith, deep)) (omega (arith, h))) (omega arith)))
    onto_typed s n (byte x y) deep low high g top a r =
        let u = s + 1 in
        append (append (value_typed u n x (omega (arith, deep)) low (omega (arith, high)) g.0 (every_front (TableRight plan) (parts u n x) _ a) (every_front (Right plan) (marks p u n x) _ r))
        (value_typed (u + 1) (n + labels x) y (omega (arith, deep)) (omega (arith, low)) (omega (arith, high)) g.1 (every_back (TableRight plan) (parts u n x) _ a) (every_back (Right plan) (marks p u n x) _ r)))
        (last s t.AssignByte (fits_assign_byte plan p (u + 1 + 1) (omega (arith, deep)) (room plan ts p (u + 1) y g.1)) (omega arith))
    onto_typed s n (inside x) deep low high g top a r = onto_typed s n x deep low high g top a r
    onto_typed s n nowhere deep low high g top a r = elim g [ ]

    from_typed : (s n m : ℕ) (es : Terms) (xs : Lvalues) → 2 ≤ s → 1 ≤ n → n + labels_each es ≤ OCODE_LABEL + 1 → GoodFrom plan ts p s es xs
        → AllTables plan (parts_from s n es) → AllKeep plan p s (s + 1) (value_codes ts s n es) (marks_from p s n es) (store_codes ts (s + 1) m xs)
    from_typed s n m none xs deep low high g a = tt
    from_typed s n m (more e es) no_lvalues deep low high g a = tt
    from_typed s n m (more e es) (onto x xs) deep low high g a = (
      λ r. value_typed s n e deep low (omega (arith, high)) g.0 (every_front (TableRight plan) (parts s n e) _ a) r,
      from_typed s (n + labels e) (m + labels_at x) es xs deep (omega (arith, low)) (omega (arith, high)) g.1 (every_back (TableRight plan) (parts s n e) _ a),
    )

    all_onto_typed : (s n m : ℕ) (xs : Lvalues) (es : Terms) → 2 ≤ s → 1 ≤ n → n + labels_onto xs ≤ OCODE_LABEL + 1 → GoodAllOnto plan ts p s xs es → s + 1 ≤ FRAME_WORDS
        → AllTables plan (parts_onto (s + 1) n xs) → AllKeep plan p (s + 1) s (store_codes ts (s + 1) n xs) (marks_all_onto p (s + 1) n xs) (value_codes ts s m es)
    all_onto_typed s n m no_lvalues es deep low high g top a = tt
    all_onto_typed s n m (onto x xs) none deep low high g top a = tt
    all_onto_typed s n m (onto x xs) (more e es) deep low high g top a = (
      λ r. onto_typed s n x deep low (omega (arith, high)) g.0 top (every_front (TableRight plan) (parts_at (s + 1) n x) _ a) r,
      all_onto_typed s (n + labels_at x) (m + labels e) xs es deep (omega (arith, low)) (omega (arith, high)) g.1 top (every_back (TableRight plan) (parts_at (s + 1) n x) _ a),
    )

    pub command_typed : (x : Exits) (ar : Around) (s n : ℕ) (c : NamedCommand) → 2 ≤ s → s ≤ FRAME_WORDS → 1 ≤ n → n + labels_in c ≤ OCODE_LABEL + 1
        → Surrounds plan p x s ar → GoodIn plan ts p x s c → AllTables plan (parts_in s n c) → AllRight plan (marks_in p s n c) → Steps plan p s (command_code ts ar s n c) s
    command_typed x ar s n (assign (onto y ys) (more e es)) deep top low high i g a r =
        let much = room plan ts p s e g.1.0 in
        let xs = onto y ys in
        let m = n + labels_onto xs in
        let ahead = every_front (TableRight plan) (parts_onto (s + 1) n xs) _ a in
        let following = every_back (TableRight plan) (parts_onto (s + 1) n xs) _ a in
        turns_typed plan p s (value_codes ts s m (more e es)) (store_codes ts (s + 1) n xs) (marks_from p s m (more e es)) (marks_all_onto p (s + 1) n xs) (
          λ q. value_typed s m e deep (omega (arith, low)) (omega (arith, high)) g.1.0 (every_front (TableRight plan) (parts s m e) _ following) q,
          from_typed s (m + labels e) (n + labels_at y) es ys deep (omega (arith, low)) (omega (arith, high)) g.1.1 (every_back (TableRight plan) (parts s m e) _ following),
        ) (
          λ q. onto_typed s n y deep low (omega (arith, high)) g.0.0 much (every_front (TableRight plan) (parts_at (s + 1) n y) _ ahead) q,
          all_onto_typed s (n + labels_at y) (m + labels e) ys es deep (omega (arith, low)) (omega (arith, high)) g.0.1 much (every_back (TableRight plan) (parts_at (s + 1) n y) _ ahead),
        ) r
    command_typed x ar s n (call e es) deep top low high i g a r =
        let u = s + 2 + count es in
        let much : u + 1 ≤ FRAME_WORDS = room plan ts p u e g.1 in
        let args = each_typed (s + 2) (n + labels e) es (omega (arith, deep)) (omega (arith, low)) (omega (arith, high)) g.0 (every_back (TableRight plan) (parts u n e) _ a)
        (every_front (Right plan) (marks_each p (s + 2) (n + labels e) es) _ r) in
        let called = value_typed u n e (omega (arith, deep)) low (omega (arith, high)) g.1 (every_front (TableRight plan) (parts u n e) _ a) (every_back (Right plan) (marks_each p (s + 2) (n + labels e) es) _ r) in
        append (append (step (s + 2) (t.Stack (s + 2)) (fits_stack plan p s (s + 2) (omega (arith, deep), omega (arith, much))) refl args) called)
        (last s (t.CallRoutine s) (record { placed = refl; ranged = (deep, omega (arith, much)); deep = omega arith; shallow = omega (arith, much); agrees = tt }) refl)
    command_typed x ar s n (goto (b.Label j m)) deep top low high i g a r = go_steps plan p s (goal_of ts m) g deep top
    command_typed x ar s n (goto _) deep top low high i g a r = elim g [ ]
    command_typed x ar s n (label y c) deep top low high i g a r =
        lands r.0 (low, omega (arith, high)) (command_typed x ar s (n + 1) c deep top (omega (arith, low)) (omega (arith, high)) i g a.1 r.1)
    command_typed x ar s n (case_of y c) deep top low high i g a r =
        lands r.0 (low, omega (arith, high)) (command_typed x ar s (n + 1) c deep top (omega (arith, low)) (omega (arith, high)) i g a r.1)
    command_typed x ar s n (default c) deep top low high i g a r =
        lands r.0 (low, omega (arith, high)) (command_typed x ar s (n + 1) c deep top (omega (arith, low)) (omega (arith, high)) i g a r.1)
    command_typed x ar s n (when y e c) deep top low high i g a r =
        let own : IsLabel n = (low, omega (arith, high)) in
        append (append (if_typed s (n + 1) e (not y) n deep (omega (arith, low)) (omega (arith, high)) r.0 own g.0 (every_front (TableRight plan) (parts_if s (n + 1) e) _ a) (every_front (Right plan) (marks_if p s (n + 1) e (not y)) _ r.1))
        (command_typed x ar s (n + 1 + labels_if e) c deep top (omega (arith, low)) (omega (arith, high)) i g.1 (every_back (TableRight plan) (parts_if s (n + 1) e) _ a) (every_back (Right plan) (marks_if p s (n + 1) e (not y)) _ r.1)))
        (lands r.0 own done)
    command_typed x ar s n (test e c d) deep top low high i g a r =
        let own : IsLabel n = (low, omega (arith, high)) in
        let next : IsLabel (n + 1) = (omega (arith, low), omega (arith, high)) in
        let m = marks_if p s (n + 2) e false ++ marks_in p s (n + 2 + labels_if e) c in
        let q = parts_if s (n + 2) e ++ parts_in s (n + 2 + labels_if e) c in
        let tested = if_typed s (n + 2) e false n deep (omega (arith, low)) (omega (arith, high)) r.0 own g.0 (every_front (TableRight plan) (parts_if s (n + 2) e) _ (every_front (TableRight plan) q _ a))
        (every_front (Right plan) (marks_if p s (n + 2) e false) _ (every_front (Right plan) m _ r.1.1)) in
        let first = command_typed x ar s (n + 2 + labels_if e) c deep top (omega (arith, low)) (omega (arith, high)) i g.1 (every_back (TableRight plan) (parts_if s (n + 2) e) _ (every_front (TableRight plan) q _ a))
        (every_back (Right plan) (marks_if p s (n + 2) e false) _ (every_front (Right plan) m _ r.1.1)) in
        let other = command_typed x ar s (n + 2 + labels_if e + labels_in c) d deep top (omega (arith, low)) (omega (arith, high)) i g.2 (every_back (TableRight plan) q _ a) (every_back (Right plan) m _ r.1.1) in
        append (append (append tested first) (step s (t.Jump (n + 1)) (fits_jump plan p s (n + 1) r.1.0 next top) refl (lands r.0 own other))) (lands r.1.0 next done)
    command_typed x ar s n (while y e c) deep top low high i g a r =
        let own : IsLabel n = (low, omega (arith, high)) in
        let second : IsLabel (n + 1) = (omega (arith, low), omega (arith, high)) in
        let third : IsLabel (n + 2) = (omega (arith, low), omega (arith, high)) in
        let m = marks_in p s (n + 3 + labels_if e) c in
        let around = around_loop plan p x s ar n (n + 2) s (r.0, own, (deep, top)) (r.1.1.0, third, (deep, top)) i in
        let body = command_typed (in_loop x) (looping n (n + 2) s ar) s (n + 3 + labels_if e) c deep top (omega (arith, low)) (omega (arith, high)) around g.1
        (every_back (TableRight plan) (parts_if s (n + 3) e) _ a) (every_front (Right plan) m _ r.1.1.1) in
        let tested = if_typed s (n + 3) e y (n + 1) deep (omega (arith, low)) (omega (arith, high)) r.1.0 second g.0 (every_front (TableRight plan) (parts_if s (n + 3) e) _ a) (every_back (Right plan) m _ r.1.1.1) in
        append (append (step s (t.Jump n) (fits_jump plan p s n r.0 own top) refl (lands r.1.0 second body)) (lands r.0 own tested)) (lands r.1.1.0 third done)
    command_typed x ar s n (for_loop e f k c) deep top low high i g a r =
        let u = s + 2 in
        let much : u + 1 + 1 ≤ FRAME_WORDS = (let h = g.2 in omega (arith, h)) in
        let first : IsLabel n = (low, omega (arith, high)) in
        let second : IsLabel (n + 1) = (omega (arith, low), omega (arith, high)) in
        let third : IsLabel (n + 2) = (omega (arith, low), omega (arith, high)) in
        let fourth : IsLabel (n + 3) = (omega (arith, low), omega (arith, high)) in
        let two_words : s + 1 + 1 ≡ u = omega arith in
        let rest = r.1.1.1.1 in
        let m = marks p s (n + 4) e ++ marks p (s + 1) (n + 4 + labels e) f in
        let q = parts s (n + 4) e ++ parts (s + 1) (n + 4 + labels e) f in
        let start = value_typed s (n + 4) e deep (omega (arith, low)) (omega (arith, high)) g.0 (every_front (TableRight plan) (parts s (n + 4) e) _ (every_front (TableRight plan) q _ a))
        (every_front (Right plan) (marks p s (n + 4) e) _ (every_front (Right plan) m _ rest)) in
        let limit = value_typed (s + 1) (n + 4 + labels e) f (omega (arith, deep)) (omega (arith, low)) (omega (arith, high)) g.1 (every_back (TableRight plan) (parts s (n + 4) e) _ (every_front (TableRight plan) q _ a))
        (every_back (Right plan) (marks p s (n + 4) e) _ (every_front (Right plan) m _ rest)) in
        let around = around_loop plan p x u ar (n + 2) (n + 3) u (r.1.1.0, third, (omega (arith, deep), omega (arith, much))) (r.1.1.1.0, fourth, (omega (arith, deep), omega (arith, much)))
        (deeper plan p x s u ar (omega arith) i) in
        let body = command_typed (in_loop x) (looping (n + 2) (n + 3) u ar) u (n + 4 + labels e + labels f) c (omega (arith, deep)) (omega (arith, much)) (omega (arith, low)) (omega (arith, high))
        around g.3 (every_back (TableRight plan) q _ a) (every_back (Right plan) m _ rest) in
        let round = step u t.Store (record { placed = refl; ranged = tt; deep = omega arith; shallow = omega (arith, much); agrees = tt }) refl (step u (t.Jump n) (fits_jump plan p u n r.0 first (omega (arith, much))) refl (lands r.1.0 second body)) in
        let leave : Steps plan p u (t.Label (n + 3) ∷ t.Stack s ∷ []) s = lands r.1.1.1.0 fourth (last s (t.Stack s) (fits_stack plan p u s (deep, top)) refl) in
        let tested : Steps plan p u (t.Label n ∷ t.Load (v.Local s) ∷ t.Load (v.Local (s + 1)) ∷ test_of_step k ∷ t.JumpIf true (n + 1) ∷ t.Label (n + 3) ∷ t.Stack s ∷ []) s =
        lands r.0 first (step (u + 1) (t.Load (v.Local s)) (fits_local plan p u s deep (omega arith) (omega (arith, much))) refl
        (step (u + 1 + 1) (t.Load (v.Local (s + 1))) (fits_local plan p (u + 1) (s + 1) (omega (arith, deep)) (omega arith) much) refl
        (step (u + 1) (test_of_step k) (fits_test plan p (u + 1 + 1) k (omega (arith, deep)) much) (next_test (u + 1 + 1) k ∙ back (u + 1))
        (step u (t.JumpIf true (n + 1)) (fits_jump_if plan p u true (n + 1) r.1.0 second (omega (arith, deep)) (omega (arith, much))) (omega arith) leave)))) in
        let counted = lands r.1.1.0 third (step (u + 1) (t.Load (v.Local s)) (fits_local plan p u s deep (omega arith) (omega (arith, much))) refl
        (step (u + 1 + 1) (t.Number (signed k)) (fits_number plan p (u + 1) (signed k) much) refl
        (step (u + 1) (t.Dyadic two.Add) (fits_dyadic plan p (u + 1 + 1) two.Add (omega (arith, deep)) much) (omega arith)
        (step u (t.Assign (v.Local s)) (record { placed = refl; ranged = (deep, omega (arith, much)); deep = omega arith; shallow = omega (arith, much); agrees = tt }) (omega arith) tested)))) in
        append (append (ending (s + 1 + 1) u two_words (append start limit)) round) counted
    command_typed x ar s n (switch e c) deep top low high i g a r =
        let own : IsLabel n = (low, omega (arith, high)) in
        let m = n + 1 + labels e in
        let much = room plan ts p s e g.0 in
        let few : m + labels_in c ≤ OCODE_LABEL + 1 = omega (arith, high) in
        let one : 1 ≤ m = omega (arith, low) in
        let marked = every_back (Right plan) (marks p s (n + 1) e) _ r.1 in
        let right = chosen plan p s m c one few marked in
        let fits = fits_switch plan p s (label_or n (default_in m c)) (cases m c) (default_is plan p s n (default_in m c) r.0 own right.at_default) (cases_are plan p s m c one few marked g.1 g.2)
        (cases_jump plan p s (cases m c) right.at_cases) deep much in
        let asked = value_typed s (n + 1) e deep (omega (arith, low)) (omega (arith, high)) g.0 (every_front (TableRight plan) (parts s (n + 1) e) _ a) (every_front (Right plan) (marks p s (n + 1) e) _ r.1) in
        let body = command_typed (in_switch x) (switching n s ar) s m c deep top one few (record { loop = i.loop; switch = λ e. (r.0, own, (deep, top)); valof = i.valof }) g.3
        (every_back (TableRight plan) (parts s (n + 1) e) _ a) marked in
        append (append asked (step s (t.Switch (label_or n (default_in m c)) (cases m c)) fits (back s) body)) (lands r.0 own done)
    command_typed x ar s n (result e) deep top low high i g a r =
        let v = i.valof g.0 in
        append (value_typed s n e deep low high g.1 a r) (last s (t.GiveResult ar.valof) (fits_give plan p s v.0 ar.valof v.1 v.3 v.2 deep (room plan ts p s e g.1)) (back s))
    command_typed x ar s n (simple w.Break) deep top low high i g a r = go_steps plan p s ar.leaves (i.loop g).1 deep top
    command_typed x ar s n (simple w.Loop) deep top low high i g a r = go_steps plan p s ar.goes_on (i.loop g).0 deep top
    command_typed x ar s n (simple w.EndCase) deep top low high i g a r = go_steps plan p s ar.ends_case (i.switch g) deep top
    command_typed x ar s n (simple w.Return) deep top low high i g a r = last s t.Return (record { placed = refl; ranged = tt; deep = omega arith; shallow = top; agrees = tt }) refl
    command_typed x ar s n (simple w.Finish) deep top low high i g a r = last s t.Finish (record { placed = refl; ranged = tt; deep = omega arith; shallow = top; agrees = tt }) refl
    command_typed x ar s n (block no_declarations cs) deep top low high i g a r =
        through_typed x ar s n cs deep top low (omega (arith, high)) i g (subst (λ (m : ℕ). AllTables plan (parts_through s m cs)) (no_more n) a) r
    command_typed x ar s n (block (declare h hs) cs) deep top low high i g a r =
        let ds = declare h hs in
        let u = after_declarations s ds in
        let grown = grown_declared s ds in
        let much = room_declared plan ts p s ds g.0 top in
        let ahead = every_front (TableRight plan) (parts_of_declarations s n ds) _ a in
        let ahead_marks = every_front (Right plan) (marks_of_declarations p s n ds) _ r in
        let first_grown = grown_one_declared s h in
        append (append (append (one_declared_typed s n h deep top low (omega (arith, high)) g.0.0 (every_front (TableRight plan) (parts_of_declaration s n h) _ ahead) (every_front (Right plan) (marks_of_declaration p s n h) _ ahead_marks))
        (declared_typed (after_declaration s h) (n + labels_of_declaration h) hs (omega (arith, deep, first_grown)) (room_one_declared plan ts p s h g.0.0 top) (omega (arith, low)) (omega (arith, high))
        g.0.1 (every_back (TableRight plan) (parts_of_declaration s n h) _ ahead) (every_back (Right plan) (marks_of_declaration p s n h) _ ahead_marks)))
        (through_typed x ar u (n + labels_of_declarations ds) cs (omega (arith, deep, grown)) much (omega (arith, low)) (omega (arith, high)) (deeper plan p x s u ar grown i) g.1
        (every_back (TableRight plan) (parts_of_declarations s n ds) _ a) (every_back (Right plan) (marks_of_declarations p s n ds) _ r)))
        (last s (t.Stack s) (fits_stack plan p u s (deep, top)) refl)
    command_typed x ar s n (repeat c) deep top low high i g a r =
        let own : IsLabel n = (low, omega (arith, high)) in
        let second : IsLabel (n + 1) = (omega (arith, low), omega (arith, high)) in
        let around = around_loop plan p x s ar n (n + 1) s (r.0, own, (deep, top)) (r.1.0, second, (deep, top)) i in
        append (lands r.0 own (command_typed (in_loop x) (looping n (n + 1) s ar) s (n + 2) c deep top (omega (arith, low)) (omega (arith, high)) around g a r.1.1))
        (step s (t.Jump n) (fits_jump plan p s n r.0 own top) refl (lands r.1.0 second done))
    command_typed x ar s n (repeat_while y c e) deep top low high i g a r =
        let own : IsLabel n = (low, omega (arith, high)) in
        let second : IsLabel (n + 1) = (omega (arith, low), omega (arith, high)) in
        let third : IsLabel (n + 2) = (omega (arith, low), omega (arith, high)) in
        let m = marks_in p s (n + 3) c in
        let around = around_loop plan p x s ar (n + 1) (n + 2) s (r.1.0, second, (deep, top)) (r.1.1.0, third, (deep, top)) i in
        let body = command_typed (in_loop x) (looping (n + 1) (n + 2) s ar) s (n + 3) c deep top (omega (arith, low)) (omega (arith, high)) around g.0
        (every_front (TableRight plan) (parts_in s (n + 3) c) _ a) (every_front (Right plan) m _ r.1.1.1) in
        let tested = if_typed s (n + 3 + labels_in c) e y n deep (omega (arith, low)) (omega (arith, high)) r.0 own g.1 (every_back (TableRight plan) (parts_in s (n + 3) c) _ a) (every_back (Right plan) m _ r.1.1.1) in
        append (append (lands r.0 own body) (lands r.1.0 second tested)) (lands r.1.1.0 third done)
    command_typed x ar s n (assign no_lvalues none) deep top low high i g a r = done
    command_typed x ar s n _ deep top low high i g a r = done

    through_typed : (x : Exits) (ar : Around) (s n : ℕ) (cs : NamedCommands) → 2 ≤ s → s ≤ FRAME_WORDS → 1 ≤ n → n + labels_through cs ≤ OCODE_LABEL + 1
        → Surrounds plan p x s ar → GoodThrough plan ts p x s cs → AllTables plan (parts_through s n cs) → AllRight plan (marks_through p s n cs) → Steps plan p s (through_code ts ar s n cs) s
    through_typed x ar s n no_named_commands deep top low high i g a r = done
    through_typed x ar s n (also c cs) deep top low high i g a r =
        append (command_typed x ar s n c deep top low (omega (arith, high)) i g.0 (every_front (TableRight plan) (parts_in s n c) _ a) (every_front (Right plan) (marks_in p s n c) _ r))
        (through_typed x ar s (n + labels_in c) cs deep top (omega (arith, low)) (omega (arith, high)) i g.1 (every_back (TableRight plan) (parts_in s n c) _ a) (every_back (Right plan) (marks_in p s n c) _ r))

    declared_typed : (s n : ℕ) (hs : Declarations) → 2 ≤ s → s ≤ FRAME_WORDS → 1 ≤ n → n + labels_of_declarations hs ≤ OCODE_LABEL + 1
        → GoodDeclared plan ts p s hs → AllTables plan (parts_of_declarations s n hs) → AllRight plan (marks_of_declarations p s n hs) → Steps plan p s (declarations_code ts s n hs) (after_declarations s hs)
    declared_typed s n no_declarations deep top low high g a r = done
    declared_typed s n (declare h hs) deep top low high g a r =
        let grown = grown_one_declared s h in
        append (one_declared_typed s n h deep top low (omega (arith, high)) g.0 (every_front (TableRight plan) (parts_of_declaration s n h) _ a) (every_front (Right plan) (marks_of_declaration p s n h) _ r))
        (declared_typed (after_declaration s h) (n + labels_of_declaration h) hs (omega (arith, deep, grown)) (room_one_declared plan ts p s h g.0 top) (omega (arith, low)) (omega (arith, high)) g.1
        (every_back (TableRight plan) (parts_of_declaration s n h) _ a) (every_back (Right plan) (marks_of_declaration p s n h) _ r))

    one_declared_typed : (s n : ℕ) (h : Declaration) → 2 ≤ s → s ≤ FRAME_WORDS → 1 ≤ n → n + labels_of_declaration h ≤ OCODE_LABEL + 1
        → GoodOneDeclared plan ts p s h → AllTables plan (parts_of_declaration s n h) → AllRight plan (marks_of_declaration p s n h) → Steps plan p s (declaration_code ts s n h) (after_declaration s h)
    one_declared_typed s n (statics ks) deep top low high g a r = done
    one_declared_typed s n (lets ds) deep top low high g a r =
        append (defined_typed s n ds deep top low high g a r) (stored plan p (after_definitions s ds) (has_variables ds) (room_defined plan ts p s ds g top))

    defined_typed : (s n : ℕ) (ds : Definitions) → 2 ≤ s → s ≤ FRAME_WORDS → 1 ≤ n → n + labels_of_definitions ds ≤ OCODE_LABEL + 1
        → GoodDefined plan ts p s ds → AllTables plan (parts_of_definitions s n ds) → AllRight plan (marks_of_definitions p s n ds) → Steps plan p s (definitions_code ts s n ds) (after_definitions s ds)
    defined_typed s n no_definitions deep top low high g a r = done
    defined_typed s n (define d ds) deep top low high g a r =
        let grown = grown_one_defined s d in
        append (one_defined_typed s n d deep top low (omega (arith, high)) g.0 (every_front (TableRight plan) (parts_of_definition s n d) _ a) (every_front (Right plan) (marks_of_definition p s n d) _ r))
        (defined_typed (after_definition s d) (n + labels_of_definition d) ds (omega (arith, deep, grown)) (room_one_defined plan ts p s d g.0 top) (omega (arith, low)) (omega (arith, high)) g.1
        (every_back (TableRight plan) (parts_of_definition s n d) _ a) (every_back (Right plan) (marks_of_definition p s n d) _ r))

    one_defined_typed : (s n : ℕ) (d : Definition) → 2 ≤ s → s ≤ FRAME_WORDS → 1 ≤ n → n + labels_of_definition d ≤ OCODE_LABEL + 1
        → GoodOneDefined plan ts p s d → AllTables plan (parts_of_definition s n d) → AllRight plan (marks_of_definition p s n d) → Steps plan p s (definition_code ts s n d) (after_definition s d)
    one_defined_typed s n (variables is) deep top low high g a r = started_typed s n is deep top low high g a r
    one_defined_typed s n _ deep top low high g a r = done

    started_typed : (s n : ℕ) (is : Starts) → 2 ≤ s → s ≤ FRAME_WORDS → 1 ≤ n → n + labels_of_starts is ≤ OCODE_LABEL + 1
        → GoodStarted plan ts p s is → AllTables plan (parts_of_starts s n is) → AllRight plan (marks_of_starts p s n is) → Steps plan p s (starts_code ts s n is) (after_starts s is)
    started_typed s n no_starts deep top low high g a r = done
    started_typed s n (value e is) deep top low high g a r =
        append (value_typed s n e deep low (omega (arith, high)) g.0 (every_front (TableRight plan) (parts s n e) _ a) (every_front (Right plan) (marks p s n e) _ r))
        (started_typed (s + 1) (n + labels e) is (omega (arith, deep)) (room plan ts p s e g.0) (omega (arith, low)) (omega (arith, high)) g.1 (every_back (TableRight plan) (parts s n e) _ a)
        (every_back (Right plan) (marks p s n e) _ r))
    started_typed s n (vector k is) deep top low high g a r =
        let much : s + k + 2 ≤ FRAME_WORDS = g.0 in
        step (s + k + 1) (t.Stack (s + k + 1)) (fits_stack plan p s (s + k + 1) (omega (arith, deep), omega (arith, much))) refl
        (step (s + k + 2) (t.Address (v.Local s)) (record { placed = refl; ranged = (deep, omega (arith, much)); deep = omega arith; shallow = omega (arith, much); agrees = tt }) (omega arith)
        (started_typed (s + k + 2) n is (omega (arith, deep)) much low high g.1 a r))

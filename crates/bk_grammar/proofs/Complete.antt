-- What the grammar allows is read.
use Rattle.bk_grammar.proofs.Terms.{◌≡◌, ℕ, ◌+◌, ◌<◌, ◌≤◌, Bool, true, false, cond, List, [], ◌∷◌, ◌++◌, Option, Some, None, Ok, length, refl, sym, ap, subst, ◌∙◌, ◌⊎◌, inl, inr, append_assoc, arith, le-ltb, lt-ltb, Kind, Kind as k, Symbol, Operator as o, Sort, Guard as g, Mention, Expression, Expressions, Command, Commands, Declaration, Declarations, Items, Definition, Definitions, Starts, name, number, text, truth, query, parens, unary, binary, choice, apply, valof, table, none, more, empty, assign, call, goto, label, case_of, default, when, test, while, for_loop, switch, result, simple, block, repeat, repeat_while, no_commands, also, constants, definitions, no_declarations, declare, no_items, item, routine, function, variables, no_definitions, define, no_starts, value, vector, inner, left, following, infix_of, sort_of, begins_operand, repeats, is_and, is_comma, goes, Fails, SpellsName, Names, Formals, Semis, Filled, if_or_unless, while_or_until, repeats_while, Reads, Each, Does, Body, Parted, Heads, Declares, Listed, Defined, Defines, Started, Section, at_expression, at_expressions, at_names, at_command, size, start_count, Stack, in_section, in_block, in_let, at_name, at_formals, at_formal, at_formal_end, at_head, at_variable, at_variable_end, at_starts, at_opening, at_items, at_sign, at_goto, at_for, at_forward, at_default, in_parens, in_unary, in_binary, in_chain, in_then, in_else, in_args, in_table, in_start, in_dests, in_values, in_guard, in_test, in_result, in_while, in_from, in_to, in_by, in_item, in_function, in_value, in_vector, in_valof, in_label, in_guarded, in_default, in_do, in_or, in_for, in_routine, State, want, have, begin, maybe, did, due, limit, is_vec, named, guarded, after_sign, sorted, declared, declared_by, defined_by, again, finish, inside, in_names, take_item, take_due, step, run, each_then, commands_then, declarations_then, items_then, definitions_then, starts_then, position_of}
use Rattle.bk_grammar.proofs.Steps.{stepped, Takes, alike, failing, stops_alike, repeats_alike, pushes, repeated, left_le, leaf_step, prefix_step, simple_step, guard_step, sign_step, same_eq, less_eq, each_end, commands_end, declarations_end, declarations_all, items_end, definitions_end, value_end, vector_end, size_then, count_then}
use Rattle.bk_grammar.proofs.Begin.{Free, Opens, joins, joins_chain, row_6, free_left, each_stops, at_infix, at_open, at_arrow, at_comma, table_ends, opens_read, opens_each, opens_does, at_first, opened, item_starts, full_filled, full_fails, perhaps, guarded_when, guarded_while, begins_if, begins_while, call_ends, value_ends, value_more}

semis_run : (b : ℕ) (ds : Declarations) (cs : Commands) (ts us : List Symbol) (st : Stack) → Semis ts us → run ts (due (in_block b true ds cs st)) ≡ run us (due (in_block b true ds cs st))
semis_run b ds cs [] us st h = ap (λ z. run z (due (in_block b true ds cs st))) h
semis_run b ds cs (t ∷ ts) us st (inl h) = ap (λ z. run z (due (in_block b true ds cs st))) h
semis_run b ds cs (t ∷ ts) us st (inr h) =
    let e : step (due (in_block b true ds cs st)) t ≡ Some (due (in_block b true ds cs st)) = rw h.0 refl in
    stepped (due (in_block b true ds cs st)) _ t ts e ∙ semis_run b ds cs ts us st h.1

-- semicolons and the bracket behind the last command
last_semis : (b : ℕ) (f : Bool) (ds : Declarations) (bs : Commands) (c : Command) (ts : List Symbol) (x : Symbol) (us : List Symbol) (st : Stack) → x.kind ≡ k.SectionClose → Semis ts (x ∷ us)
    → run ts (did (in_block b f ds bs st) c) ≡ run us (did st (block b ds (commands_then bs (also c no_commands))))
last_semis b f ds bs c [] x us st is h = absurd cc
last_semis b f ds bs c (t ∷ ts) x us st is (inl h) = grind (arith, step, did, stepped)
last_semis b f ds bs c (t ∷ ts) x us st is (inr h) =
    let e : step (did (in_block b f ds bs st) c) t ≡ Some (due (in_block b true ds (commands_then bs (also c no_commands)) st)) = rw h.0 refl in
    let d : step (due (in_block b true ds (commands_then bs (also c no_commands)) st)) x ≡ Some (did st (block b ds (commands_then bs (also c no_commands)))) = rw is refl in
    stepped (did (in_block b f ds bs st) c) _ t ts e ∙ semis_run b ds (commands_then bs (also c no_commands)) ts (x ∷ us) st h.1
    ∙ stepped (due (in_block b true ds (commands_then bs (also c no_commands)) st)) _ x us d

-- the same behind the last declaration
head_semis : (b : ℕ) (f : Bool) (ds : Declarations) (ts : List Symbol) (x : Symbol) (us : List Symbol) (st : Stack) → x.kind ≡ k.SectionClose → Semis ts (x ∷ us)
    → run ts (due (in_block b f ds no_commands st)) ≡ run us (did st (block b ds no_commands))
head_semis b f ds [] x us st is h = absurd cc
head_semis b f ds (t ∷ ts) x us st is (inl h) = grind (arith, step, due, did, stepped)
head_semis b f ds (t ∷ ts) x us st is (inr h) =
    let e : step (due (in_block b f ds no_commands st)) t ≡ Some (due (in_block b true ds no_commands st)) = rw h.0 refl in
    let d : step (due (in_block b true ds no_commands st)) x ≡ Some (did st (block b ds no_commands)) = rw is refl in
    stepped (due (in_block b f ds no_commands st)) _ t ts e ∙ semis_run b ds no_commands ts (x ∷ us) st h.1 ∙ stepped (due (in_block b true ds no_commands st)) _ x us d

-- semicolons before a declaration
before_run : (ts us : List Symbol) (b : ℕ) (f : Bool) (ds : Declarations) (st : Stack) → Semis ts us → (g : Bool) × (run ts (due (in_block b f ds no_commands st)) ≡ run us (due (in_block b g ds no_commands st)))
before_run [] us b f ds st h = (f, ap (λ z. run z (due (in_block b f ds no_commands st))) h)
before_run (t ∷ ts) us b f ds st (inl h) = (f, ap (λ z. run z (due (in_block b f ds no_commands st))) h)
before_run (t ∷ ts) us b f ds st (inr h) =
    let e : step (due (in_block b f ds no_commands st)) t ≡ Some (due (in_block b true ds no_commands st)) = rw h.0 refl in
    (true, stepped (due (in_block b f ds no_commands st)) _ t ts e ∙ semis_run b ds no_commands ts us st h.1)

section_semis : (ds : Declarations) (ts us : List Symbol) → Semis ts us → run ts (due (in_section ds)) ≡ run us (due (in_section ds))
section_semis ds [] us h = ap (λ z. run z (due (in_section ds))) h
section_semis ds (t ∷ ts) us (inl h) = ap (λ z. run z (due (in_section ds))) h
section_semis ds (t ∷ ts) us (inr h) =
    let e : step (due (in_section ds)) t ≡ Some (due (in_section ds)) = rw h.0 refl in
    stepped (due (in_section ds)) _ t ts e ∙ section_semis ds ts us h.1

named_step : (n : Symbol) (l : ℕ) (x : List ℕ) (f : Mention → State) → SpellsName l x n → named n.kind (position_of n) n.text f ≡ Some (f (record { at = l; letters = x }))
named_step n l x f h = rw (h.0, h.1, h.2) refl

named_mention : (n : Symbol) (m : Mention) (f : Mention → State) → SpellsName m.at m.letters n → named n.kind (position_of n) n.text f ≡ Some (f m)
named_mention n m f h = named_step n m.at m.letters f h

repeats_step : (b : Bool) (st : Stack) (c : Command) (l : ℕ) (x : List ℕ) (t : Kind) → t ≡ repeats_while b → finish st c l x t ≡ Some (want (in_while b c st))
repeats_step b st c l x t h1 = grind (arith, repeated, again)

-- ---- declarations

-- where a declaration may stand: in a section, or at the head of a block
abbrev pub Head : Bool → Stack → Type 0
Head false (in_section ds) = Unit {0}
Head true (in_block l f ds no_commands st) = Unit {0}
Head b st = ⊥

-- with one declaration more
abbrev pub after : Stack → Declaration → Stack
after (in_section ds) d = in_section (declarations_then ds (declare d no_declarations))
after (in_block l f ds cs st) d = in_block l false (declarations_then ds (declare d no_declarations)) cs st
after st d = st

declared_is : (b : Bool) (fr : Stack) (d : Declaration) → Head b fr → declared fr d ≡ Some (due (after fr d))
declared_is b fr d h1 = grind arith

declared_by_is : (b : Bool) (fr : Stack) (d : Declaration) (l : ℕ) (x : List ℕ) (t : Kind) → Head b fr → declared_by fr d l x t ≡ take_due (after fr d) l x t
declared_by_is b fr d l x t h1 = grind arith

sorted_is : (fr : Stack) (l : ℕ) (z : Option Sort) (s : Sort) (other : Option State) → z ≡ Some s → sorted fr l z other ≡ Some (due (at_opening l s fr))
sorted_is fr l z s other h = rw h refl

sort_step : (b : Bool) (fr : Stack) (l : ℕ) (x : List ℕ) (t : Kind) (s : Sort) → Head b fr → sort_of t ≡ Some s → take_due fr l x t ≡ Some (due (at_opening l s fr))
sort_step b fr l x t s h1 h2 = grind (arith, sorted_is, in_section)

let_step : (b : Bool) (fr : Stack) (l : ℕ) (x : List ℕ) (t : Kind) → Head b fr → t ≡ k.Let → take_due fr l x t ≡ Some (due (in_let l no_definitions fr))
let_step b fr l x t h1 h2 = grind arith

inside_is : (fr : Stack) (l : ℕ) (es : Definitions) → Head true fr → inside (in_let l es fr) ≡ true
inside_is fr l es h1 = grind arith

item_name : (m : ℕ) (s : Sort) (zs : Items) (fr : Stack) (n : Symbol) (l : ℕ) (x : List ℕ) → SpellsName l x n → take_item m s zs fr (position_of n) n.text n.kind ≡ Some (due (at_sign m s zs (record { at = l; letters = x }) fr))
item_name m s zs fr n l x h1 = grind (arith, named_step, due, no_items)

item_semis : (m : ℕ) (s : Sort) (a : ℕ) (b : List ℕ) (c : Expression) (zs : Items) (fr : Stack) (ts us : List Symbol) → Semis ts us → run ts (due (at_items m s (item a b c zs) fr)) ≡ run us (due (at_items m s (item a b c zs) fr))
item_semis m s a b c zs fr [] us h = ap (λ z. run z (due (at_items m s (item a b c zs) fr))) h
item_semis m s a b c zs fr (t ∷ ts) us (inl h) = ap (λ z. run z (due (at_items m s (item a b c zs) fr))) h
item_semis m s a b c zs fr (t ∷ ts) us (inr h) =
    let e : step (due (at_items m s (item a b c zs) fr)) t ≡ Some (due (at_items m s (item a b c zs) fr)) = rw h.0 refl in
    stepped (due (at_items m s (item a b c zs) fr)) _ t ts e ∙ item_semis m s a b c zs fr ts us h.1

-- some items
abbrev pub Some_items : Items → Type 0
Some_items no_items = ⊥
Some_items (item a b c zs) = Unit {0}

then_some : (zs : Items) (l : ℕ) (x : List ℕ) (e : Expression) → Some_items (items_then zs (item l x e no_items))
then_some no_items l x e = tt
then_some (item a b c zs) l x e = tt

items_semis : (m : ℕ) (s : Sort) (zs : Items) (fr : Stack) (ts us : List Symbol) → Some_items zs → Semis ts us → run ts (due (at_items m s zs fr)) ≡ run us (due (at_items m s zs fr))
items_semis m s zs fr ts us h1 h2 = grind (arith, item_semis)

items_shut : (m : ℕ) (s : Sort) (zs : Items) (fr : Stack) (inside : Bool) (t : Symbol) → Some_items zs → Head inside fr → t.kind ≡ k.SectionClose → take_item m s zs fr (position_of t) t.text t.kind ≡ Some (due (after fr (constants m s zs)))
items_shut m s zs fr inside t h1 h2 h3 = grind (arith, declared_is)

-- behind the last item
items_close : (m : ℕ) (s : Sort) (zs : Items) (x : Mention) (e : Expression) (fr : Stack) (inside : Bool) (ns : List Symbol) (c : Symbol) (us : List Symbol) → Head inside fr → c.kind ≡ k.SectionClose → Semis ns (c ∷ us)
    → run ns (have (in_item m s zs x fr) e) ≡ run us (due (after fr (constants m s (items_then zs (item x.at x.letters e no_items)))))
items_close m s zs x e fr inside [] c us head is h = absurd cc
items_close m s zs x e fr inside (t ∷ ns) c us head is (inl h) = grind (arith, step, due, no_items, declared_is, inside, stepped)
items_close m s zs x e fr inside (t ∷ ns) c us head is (inr h) =
    let ys = items_then zs (item x.at x.letters e no_items) in
    let d : step (have (in_item m s zs x fr) e) t ≡ Some (due (at_items m s ys fr)) = rw h.0 refl in
    stepped (have (in_item m s zs x fr) e) _ t ns d ∙ items_semis m s ys fr ns (c ∷ us) (then_some zs x.at x.letters e) h.1
    ∙ stepped (due (at_items m s ys fr)) _ c us (items_shut m s ys fr inside c (then_some zs x.at x.letters e) head is)

sign_taken : (m : ℕ) (s : Sort) (zs : Items) (x : Mention) (fr : Stack) (q : Symbol) → (q.kind ≡ k.Equal) ⊎ (q.kind ≡ k.Colon) → step (due (at_sign m s zs x fr)) q ≡ Some (want (in_item m s zs x fr))
sign_taken m s zs x fr q h1 = grind arith

-- formals
formals_more : (n : Mention) (fs zs : List Mention) (L : Stack) (ts : List Symbol) (c : Symbol) (us : List Symbol) → c.kind ≡ k.Close → Names fs ts (c ∷ us) → run ts (due (at_formal n zs L)) ≡ run us (due (at_head n (zs ++ fs) L))
formals_more n [] zs L ts c us shuts h = absurd h
formals_more n (x ∷ []) zs L ts c us shuts h =
    let a : step (due (at_formal n zs L)) h.0 ≡ Some (due (at_formal_end n (zs ++ x ∷ []) L)) = named_mention h.0 x (λ f. due (at_formal_end n (zs ++ f ∷ []) L)) h.2 in
    let b : step (due (at_formal_end n (zs ++ x ∷ []) L)) c ≡ Some (due (at_head n (zs ++ x ∷ []) L)) = rw shuts refl in
    ap (λ z. run z (due (at_formal n zs L))) h.1 ∙ stepped (due (at_formal n zs L)) _ h.0 (c ∷ us) a ∙ stepped (due (at_formal_end n (zs ++ x ∷ []) L)) _ c us b
formals_more n (x ∷ (y ∷ ys)) zs L ts c us shuts h =
    let a : step (due (at_formal n zs L)) h.0 ≡ Some (due (at_formal_end n (zs ++ x ∷ []) L)) = named_mention h.0 x (λ f. due (at_formal_end n (zs ++ f ∷ []) L)) h.4 in
    let b : step (due (at_formal_end n (zs ++ x ∷ []) L)) h.1 ≡ Some (due (at_formal n (zs ++ x ∷ []) L)) = rw h.5 refl in
    ap (λ z. run z (due (at_formal n zs L))) h.3 ∙ stepped (due (at_formal n zs L)) _ h.0 (h.1 ∷ h.2) a ∙ stepped (due (at_formal_end n (zs ++ x ∷ []) L)) _ h.1 h.2 b
    ∙ formals_more n (y ∷ ys) (zs ++ x ∷ []) L h.2 c us shuts h.6 ∙ ap (λ z. run us (due (at_head n z L))) (append_assoc zs (x ∷ []) (y ∷ ys))

formals_run : (n : Mention) (fs : List Mention) (L : Stack) (ts us : List Symbol) → Formals fs ts us → run ts (due (at_formals n L)) ≡ run us (due (at_head n fs L))
formals_run n [] L ts us h = grind (arith, step, due, at_head, stepped)
formals_run n (x ∷ []) L ts us h =
    let j = h.2 in
    let a : step (due (at_formals n L)) j.0 ≡ Some (due (at_formal_end n (x ∷ []) L)) = rw (j.2.0, j.2.1, j.2.2) refl in
    let b : step (due (at_formal_end n (x ∷ []) L)) h.0 ≡ Some (due (at_head n (x ∷ []) L)) = rw h.1 refl in
    ap (λ z. run z (due (at_formals n L))) j.1 ∙ stepped (due (at_formals n L)) _ j.0 (h.0 ∷ us) a ∙ stepped (due (at_formal_end n (x ∷ []) L)) _ h.0 us b
formals_run n (x ∷ (y ∷ ys)) L ts us h =
    let j = h.2 in
    let a : step (due (at_formals n L)) j.0 ≡ Some (due (at_formal_end n (x ∷ []) L)) = rw (j.4.0, j.4.1, j.4.2) refl in
    let b : step (due (at_formal_end n (x ∷ []) L)) j.1 ≡ Some (due (at_formal n (x ∷ []) L)) = rw j.5 refl in
    ap (λ z. run z (due (at_formals n L))) j.3 ∙ stepped (due (at_formals n L)) _ j.0 (j.1 ∷ j.2) a ∙ stepped (due (at_formal_end n (x ∷ []) L)) _ j.1 j.2 b
    ∙ formals_more n (y ∷ ys) (x ∷ []) L j.2 h.0 us h.1 j.6

-- names of variables
variables_more : (xs zs : List Mention) (L : Stack) (ts : List Symbol) (t : Symbol) (ms : List Symbol) → t.kind ≡ k.Equal → Names xs ts (t ∷ ms) → run ts (due (at_variable zs L)) ≡ run ms (due (at_starts (zs ++ xs) no_starts L))
variables_more [] zs L ts t ms is h = absurd h
variables_more (x ∷ []) zs L ts t ms is h =
    let a : step (due (at_variable zs L)) h.0 ≡ Some (due (at_variable_end (zs ++ x ∷ []) L)) = named_mention h.0 x (λ f. due (at_variable_end (zs ++ f ∷ []) L)) h.2 in
    let b : step (due (at_variable_end (zs ++ x ∷ []) L)) t ≡ Some (due (at_starts (zs ++ x ∷ []) no_starts L)) = rw is refl in
    ap (λ z. run z (due (at_variable zs L))) h.1 ∙ stepped (due (at_variable zs L)) _ h.0 (t ∷ ms) a ∙ stepped (due (at_variable_end (zs ++ x ∷ []) L)) _ t ms b
variables_more (x ∷ (y ∷ ys)) zs L ts t ms is h =
    let a : step (due (at_variable zs L)) h.0 ≡ Some (due (at_variable_end (zs ++ x ∷ []) L)) = named_mention h.0 x (λ f. due (at_variable_end (zs ++ f ∷ []) L)) h.4 in
    let b : step (due (at_variable_end (zs ++ x ∷ []) L)) h.1 ≡ Some (due (at_variable (zs ++ x ∷ []) L)) = rw h.5 refl in
    ap (λ z. run z (due (at_variable zs L))) h.3 ∙ stepped (due (at_variable zs L)) _ h.0 (h.1 ∷ h.2) a ∙ stepped (due (at_variable_end (zs ++ x ∷ []) L)) _ h.1 h.2 b
    ∙ variables_more (y ∷ ys) (zs ++ x ∷ []) L h.2 t ms is h.6 ∙ ap (λ z. run ms (due (at_starts z no_starts L))) (append_assoc zs (x ∷ []) (y ∷ ys))

names_run : (l : ℕ) (es : Definitions) (fr : Stack) (xs : List Mention) (ts : List Symbol) (t : Symbol) (ms : List Symbol) → Head true fr → t.kind ≡ k.Equal → Names xs ts (t ∷ ms)
    → run ts (due (in_let l es fr)) ≡ run ms (due (at_starts xs no_starts (in_let l es fr)))
names_run l es fr [] ts t ms head is h = absurd h
names_run l es fr (x ∷ []) ts t ms head is h =
    let a : step (due (in_let l es fr)) h.0 ≡ Some (due (at_name x (in_let l es fr))) = named_mention h.0 x (λ n. due (at_name n (in_let l es fr))) h.2 in
    let b : step (due (at_name x (in_let l es fr))) t ≡ Some (due (at_starts (x ∷ []) no_starts (in_let l es fr))) = rw is (ap (λ z. cond z (in_names (x ∷ []) (in_let l es fr) k.Equal) None) (inside_is fr l es head)) in
    ap (λ z. run z (due (in_let l es fr))) h.1 ∙ stepped (due (in_let l es fr)) _ h.0 (t ∷ ms) a ∙ stepped (due (at_name x (in_let l es fr))) _ t ms b
names_run l es fr (x ∷ (y ∷ ys)) ts t ms head is h =
    let a : step (due (in_let l es fr)) h.0 ≡ Some (due (at_name x (in_let l es fr))) = named_mention h.0 x (λ n. due (at_name n (in_let l es fr))) h.4 in
    let b : step (due (at_name x (in_let l es fr))) h.1 ≡ Some (due (at_variable (x ∷ []) (in_let l es fr))) = rw h.5 (ap (λ z. cond z (in_names (x ∷ []) (in_let l es fr) k.Comma) None) (inside_is fr l es head)) in
    ap (λ z. run z (due (in_let l es fr))) h.3 ∙ stepped (due (in_let l es fr)) _ h.0 (h.1 ∷ h.2) a ∙ stepped (due (at_name x (in_let l es fr))) _ h.1 h.2 b
    ∙ variables_more (y ∷ ys) (x ∷ []) (in_let l es fr) h.2 t ms is h.6

at_value : (t : Kind) (a b : Option State) → begins_operand t ≡ true → cond (is_vec t) a b ≡ b
at_value t a b h1 = grind arith

starts_value : (xs : List Mention) (zs : Starts) (L : Stack) (ts : List Symbol) → Opens begins_operand ts → run ts (due (at_starts xs zs L)) ≡ run ts (want (in_value xs zs L))
starts_value xs zs L ts h = at_first begins_operand ts (due (at_starts xs zs L)) (want (in_value xs zs L)) h (λ l s t good. at_value t _ _ good)

-- one more item of a LET comes
more_values : (xs : List Mention) (zs : Starts) (L : Stack) (e : Expression) (d : Symbol) → start_count zs + 1 < length xs → d.kind ≡ k.Comma → step (have (in_value xs zs L) e) d ≡ Some (due (at_starts xs (starts_then zs (value e no_starts)) L))
more_values xs zs L e d n is = rw (is, less_eq (length xs) (start_count zs + 1) n) refl

more_vectors : (m : ℕ) (xs : List Mention) (zs : Starts) (L : Stack) (e : Expression) (d : Symbol) → start_count zs + 1 < length xs → d.kind ≡ k.Comma → step (have (in_vector m xs zs L) e) d ≡ Some (due (at_starts xs (starts_then zs (vector m e no_starts)) L))
more_vectors m xs zs L e d n is = rw (is, less_eq (length xs) (start_count zs + 1) n) refl

abbrev pub Some_declarations : Declarations → Type 0
Some_declarations no_declarations = ⊥
Some_declarations (declare d ds) = Unit {0}

mutual
  pub reads_run : (rows : ℕ) (e : Expression) (ts us : List Symbol) (st : Stack) → rows ≤ limit st → Free st us → Reads rows e ts us → run ts (want st) ≡ run us (have st e)
  reads_run rows (name l n) ts us st le free h = ap (λ z. run z (want st)) h.1 ∙ stepped (want st) (have st (name l n)) h.0 us (leaf_step h.0.kind st (position_of h.0) h.0.text (name l n) h.2)
  reads_run rows (number l n) ts us st le free h = ap (λ z. run z (want st)) h.1 ∙ stepped (want st) (have st (number l n)) h.0 us (leaf_step h.0.kind st (position_of h.0) h.0.text (number l n) h.2)
  reads_run rows (text l n) ts us st le free h = ap (λ z. run z (want st)) h.1 ∙ stepped (want st) (have st (text l n)) h.0 us (leaf_step h.0.kind st (position_of h.0) h.0.text (text l n) h.2)
  reads_run rows (truth l n) ts us st le free h = ap (λ z. run z (want st)) h.1 ∙ stepped (want st) (have st (truth l n)) h.0 us (leaf_step h.0.kind st (position_of h.0) h.0.text (truth l n) h.2)
  reads_run rows (query l) ts us st le free h = ap (λ z. run z (want st)) h.1 ∙ stepped (want st) (have st (query l)) h.0 us (leaf_step h.0.kind st (position_of h.0) h.0.text (query l) h.2)
  reads_run rows (parens l x) ts us st le free h =
      let a : step (want st) h.0 ≡ Some (want (in_parens l st)) = rw (h.4, h.5) refl in
      let b : step (have (in_parens l st) x) h.2 ≡ Some (have st (parens l x)) = rw h.6 refl in
      ap (λ z. run z (want st)) h.3 ∙ stepped (want st) _ h.0 h.1 a ∙ reads_run 12 x h.1 (h.2 ∷ us) (in_parens l st) (omega arith) (λ c d. refl) h.7
      ∙ stepped (have (in_parens l st) x) (have st (parens l x)) h.2 us b
  reads_run rows (unary l p x) ts us st le free h =
      let e : step (want st) h.1 ≡ Some (want (in_unary l p st)) = rw h.5 (prefix_step h.1.kind st l h.1.text p h.4) in
      ap (λ z. run z (want st)) h.3 ∙ stepped (want st) _ h.1 h.2 e ∙ reads_run (following p) x h.2 us (in_unary l p st) (omega arith) free h.6
      ∙ stops_alike (following p) us (have (in_unary l p st) x) (have st (unary l p x)) h.7 (λ m y t g. rw g refl)
  reads_run rows (binary l o.Both s x (binary m q n b c)) ts us st le free (inl h) =
      let is : infix_of h.1.kind ≡ Some o.Both = ap infix_of h.3 in
      reads_run 9 x ts (h.1 ∷ h.2) st (omega arith) (at_infix st o.Both h.1 h.2 is) h.6
      ∙ joins st l s x (binary m q n b c) o.Both h.1 h.2 us is h.4 h.5 (omega arith) (λ r. absurd cc) (reads_run 8 (binary m q n b c) h.2 us (in_binary o.Both (position_of h.1) x st) (omega arith) free h.7) h.8
  reads_run rows (binary l o.Both s x (binary m q n b c)) ts us st le free (inr h) =
      let six = row_6 q h.8 in
      reads_run 6 x ts (h.1 ∷ h.2) st (omega arith) (at_infix st q h.1 h.2 h.3) h.10
      ∙ joins_chain st l s m n x b c q h.1 h.2 us h.3 h.4 h.5 h.6 h.7 (omega arith) h.8 h.9 (reads_run 5 c h.2 us (in_chain q (position_of h.1) x b st) (omega arith) free h.11) h.12
  reads_run rows (binary l q s a b) ts us st le free h =
      reads_run (left q) a ts (h.1 ∷ h.2) st (omega (arith, left_le q)) (at_infix st q h.1 h.2 h.3) h.6
      ∙ joins st l s a b q h.1 h.2 us h.3 h.4 h.5 (omega arith) (free_left q a ts (h.1 ∷ h.2) h.6) (reads_run (inner q) b h.2 us (in_binary q (position_of h.1) a st) (omega arith) free h.7) h.8
  reads_run rows (choice l s c a b) ts us st le free h =
      let e : step (have st c) h.1 ≡ Some (want (in_then s c st)) = rw (h.5, h.6) (pushes st c s h.1.text k.Arrow (lt-ltb 11 (limit st) (omega arith))) in
      let d : step (have (in_then s c st) a) h.3 ≡ Some (want (in_else s c a st)) = rw h.8 refl in
      reads_run 11 c ts (h.1 ∷ h.2) st (omega arith) (at_arrow st h.1 h.2 h.5) h.9 ∙ stepped (have st c) _ h.1 h.2 e
      ∙ reads_run 12 a h.2 (h.3 ∷ h.4) (in_then s c st) (omega arith) (at_comma (in_then s c st) h.3 h.4 h.8) h.10 ∙ stepped (have (in_then s c st) a) _ h.3 h.4 d
      ∙ reads_run 12 b h.4 us (in_else s c a st) (omega arith) free h.11
      ∙ stops_alike 12 us (have (in_else s c a st) b) (have st (choice (at_expression c) s c a b)) h.12 (λ m y t g. rw g refl) ∙ ap (λ z. run us (have st (choice z s c a b))) (sym h.7)
  reads_run rows (apply l s f none) ts us st le free h =
      let e : step (have st f) h.0 ≡ Some (want (in_args s f none st)) = rw (h.2, h.3) (pushes st f s h.0.text k.Open refl) in
      let d : step (want (in_args s f none st)) h.1 ≡ Some (have st (apply (at_expression f) s f none)) = rw h.5 refl in
      reads_run 0 f ts (h.0 ∷ h.1 ∷ us) st (omega arith) (at_open st h.0 (h.1 ∷ us) h.2) h.6 ∙ stepped (have st f) _ h.0 (h.1 ∷ us) e ∙ stepped (want (in_args s f none st)) _ h.1 us d
      ∙ ap (λ z. run us (have st (apply z s f none))) (sym h.4)
  reads_run rows (apply l s f (more x xs)) ts us st le free h =
      let e : step (have st f) h.0 ≡ Some (want (in_args s f none st)) = rw (h.3, h.4) (pushes st f s h.0.text k.Open refl) in
      reads_run 0 f ts (h.0 ∷ h.1) st (omega arith) (at_open st h.0 h.1 h.3) h.7 ∙ stepped (have st f) _ h.0 h.1 e ∙ args_run s f (more x xs) none h.1 h.2 us st h.6 h.8
      ∙ ap (λ z. run us (have st (apply z s f (more x xs)))) (sym h.5)
  reads_run rows (valof l c) ts us st le free h =
      let e : step (want st) h.0 ≡ Some (begin (in_valof l st)) = rw (h.3, h.4) refl in
      ap (λ z. run z (want st)) h.2 ∙ stepped (want st) _ h.0 h.1 e ∙ does_run c h.1 us (in_valof l st) (full_filled c us h.6) h.5
      ∙ repeats_alike us (did (in_valof l st) c) (have st (valof l c)) (full_fails c us h.6) (λ m x t g. rw g refl)
  reads_run rows (table l xs) ts us st le free h =
      let e : step (want st) h.0 ≡ Some (want (in_table l none st)) = rw (h.3, h.4) (ap (λ b. cond b None (Some (want (in_table l none st)))) (free (each_stops xs h.1 us h.5) h.6)) in
      ap (λ z. run z (want st)) h.2 ∙ stepped (want st) _ h.0 h.1 e ∙ table_run l xs none h.1 us st h.5 h.6

  pub args_run : (s : ℕ) (f : Expression) (xs es : Expressions) (ts : List Symbol) (c : Symbol) (us : List Symbol) (st : Stack) → c.kind ≡ k.Close → Each xs ts (c ∷ us)
      → run ts (want (in_args s f es st)) ≡ run us (have st (apply (at_expression f) s f (each_then es xs)))
  args_run s f none es ts c us st shuts h = absurd h
  args_run s f (more x none) es ts c us st shuts h =
      let e : step (have (in_args s f es st) x) c ≡ Some (have st (apply (at_expression f) s f (each_then es (more x none)))) = rw shuts refl in
      reads_run 12 x ts (c ∷ us) (in_args s f es st) (omega arith) (λ a b. refl) h.0 ∙ stepped (have (in_args s f es st) x) _ c us e
  args_run s f (more x (more y ys)) es ts c us st shuts h =
      let e : step (have (in_args s f es st) x) h.0 ≡ Some (want (in_args s f (each_then es (more x none)) st)) = rw h.2 refl in
      reads_run 12 x ts (h.0 ∷ h.1) (in_args s f es st) (omega arith) (λ a b. refl) h.3 ∙ stepped (have (in_args s f es st) x) _ h.0 h.1 e
      ∙ args_run s f (more y ys) (each_then es (more x none)) h.1 c us st shuts h.4 ∙ ap (λ z. run us (have st (apply (at_expression f) s f z))) (each_end es x (more y ys))

  pub table_run : (l : ℕ) (xs es : Expressions) (ts us : List Symbol) (st : Stack) → Each xs ts us → Fails is_comma us
      → run ts (want (in_table l es st)) ≡ run us (have st (table l (each_then es xs)))
  table_run l none es ts us st h bare = absurd h
  table_run l (more x none) es ts us st h bare =
      reads_run 12 x ts us (in_table l es st) (omega arith) (λ a b. refl) h.0 ∙ table_ends l es x us st h.1 bare
  table_run l (more x (more y ys)) es ts us st h bare =
      let e : step (have (in_table l es st) x) h.0 ≡ Some (want (in_table l (each_then es (more x none)) st)) = rw h.2 refl in
      reads_run 12 x ts (h.0 ∷ h.1) (in_table l es st) (omega arith) (λ a b. refl) h.3 ∙ stepped (have (in_table l es st) x) _ h.0 h.1 e
      ∙ table_run l (more y ys) (each_then es (more x none)) h.1 us st h.4 bare ∙ ap (λ z. run us (have st (table l z))) (each_end es x (more y ys))

  pub does_run : (c : Command) (ts us : List Symbol) (st : Stack) → Filled c → Does c ts us → run ts (begin st) ≡ run us (did st c)
  does_run empty ts us st full h = absurd full
  does_run (assign l xs ys) ts us st full h =
      opened st ts (opens_each xs ts (h.0 ∷ h.1) h.5) ∙ dests_run xs ts h.0 h.1 st h.2 h.5 ∙ values_run xs ys none h.1 us st (omega (arith, h.3)) h.6
      ∙ ap (λ z. run us (did st (assign z xs ys))) (sym h.4)
  does_run (call l f none) ts us st full h =
      let e : step (have (in_start st) f) h.0 ≡ Some (want (in_args (position_of h.0) f none (in_start st))) = rw h.2 refl in
      let d : step (want (in_args (position_of h.0) f none (in_start st))) h.1 ≡ Some (have (in_start st) (apply (at_expression f) (position_of h.0) f none)) = rw h.4 refl in
      opened st ts (opens_read 0 f ts (h.0 ∷ h.1 ∷ us) h.5) ∙ reads_run 0 f ts (h.0 ∷ h.1 ∷ us) (in_start st) (omega arith) (λ a b. refl) h.5
      ∙ stepped (have (in_start st) f) _ h.0 (h.1 ∷ us) e ∙ stepped (want (in_args (position_of h.0) f none (in_start st))) _ h.1 us d ∙ call_ends st (at_expression f) (position_of h.0) f none us h.6 h.7
      ∙ ap (λ z. run us (did st (call z f none))) (sym h.3)
  does_run (call l f (more x xs)) ts us st full h =
      let e : step (have (in_start st) f) h.0 ≡ Some (want (in_args (position_of h.0) f none (in_start st))) = rw h.3 refl in
      opened st ts (opens_read 0 f ts (h.0 ∷ h.1) h.6) ∙ reads_run 0 f ts (h.0 ∷ h.1) (in_start st) (omega arith) (λ a b. refl) h.6
      ∙ stepped (have (in_start st) f) _ h.0 h.1 e ∙ args_run (position_of h.0) f (more x xs) none h.1 h.2 us (in_start st) h.5 h.7 ∙ call_ends st (at_expression f) (position_of h.0) f (more x xs) us h.8 h.9
      ∙ ap (λ z. run us (did st (call z f (more x xs)))) (sym h.4)
  does_run (goto l x) ts us st full h =
      let e : step (begin st) h.0 ≡ Some (due (at_goto l st)) = rw (h.3, h.4) refl in
      let d : step (due (at_goto l st)) h.1 ≡ Some (did st (goto l x)) = named_mention h.1 x (λ n. did st (goto l n)) h.5 in
      ap (λ z. run z (begin st)) h.2 ∙ stepped (begin st) _ h.0 (h.1 ∷ us) e ∙ stepped (due (at_goto l st)) _ h.1 us d
  does_run (label l x c) ts us st full h =
      let e : step (begin st) h.0 ≡ Some (have (in_start st) (name l x)) = rw (h.4.0, h.4.1, h.4.2) refl in
      let d : step (have (in_start st) (name l x)) h.1 ≡ Some (maybe (in_label l x st)) = rw h.5 refl in
      ap (λ z. run z (begin st)) h.3 ∙ stepped (begin st) _ h.0 (h.1 ∷ h.2) e ∙ stepped (have (in_start st) (name l x)) _ h.1 h.2 d
      ∙ perhaps c h.2 us (in_label l x st) st (label l x) (λ m y t. refl) (λ a m y t g. rw g refl) (λ filled. does_run c h.2 us (in_label l x st) filled h.6) h.6 h.7
  does_run (case_of l e c) ts us st full h =
      let o : step (begin st) h.0 ≡ Some (want (in_guard (g.Case) l st)) = rw h.6 (guard_step h.0.kind st l h.0.text (g.Case) h.5) in
      let d : step (have (in_guard (g.Case) l st) e) h.2 ≡ Some (after_sign (g.Case) (in_guarded (g.Case) l e st)) = sign_step (g.Case) h.2.kind l e st (position_of h.2) h.2.text h.8 in
      ap (λ z. run z (begin st)) h.4 ∙ stepped (begin st) _ h.0 h.1 o ∙ reads_run 12 e h.1 (h.2 ∷ h.3) (in_guard (g.Case) l st) (omega arith) (λ a b. refl) h.7
      ∙ stepped (have (in_guard (g.Case) l st) e) _ h.2 h.3 d ∙ perhaps c h.3 us (in_guarded g.Case l e st) st (case_of l e) (λ m y t. refl) (λ a m y t f. rw f refl) (λ filled. does_run c h.3 us (in_guarded g.Case l e st) filled h.9) h.9 h.10
  does_run (default l c) ts us st full h =
      let e : step (begin st) h.0 ≡ Some (due (at_default l st)) = rw (h.4, h.5) refl in
      let d : step (due (at_default l st)) h.1 ≡ Some (maybe (in_default l st)) = rw h.6 refl in
      ap (λ z. run z (begin st)) h.3 ∙ stepped (begin st) _ h.0 (h.1 ∷ h.2) e ∙ stepped (due (at_default l st)) _ h.1 h.2 d
      ∙ perhaps c h.2 us (in_default l st) st (default l) (λ m y t. refl) (λ a m y t g. rw g refl) (λ filled. does_run c h.2 us (in_default l st) filled h.7) h.7 h.8
  does_run (when l b e c) ts us st full h =
      let o : step (begin st) h.0 ≡ Some (want (in_guard (if_or_unless b) l st)) = rw h.6 (guard_step h.0.kind st l h.0.text (if_or_unless b) h.5) in
      let d : step (have (in_guard (if_or_unless b) l st) e) h.2 ≡ Some (after_sign (if_or_unless b) (in_guarded (if_or_unless b) l e st)) = sign_step (if_or_unless b) h.2.kind l e st (position_of h.2) h.2.text h.8 in
      ap (λ z. run z (begin st)) h.4 ∙ stepped (begin st) _ h.0 h.1 o ∙ reads_run 12 e h.1 (h.2 ∷ h.3) (in_guard (if_or_unless b) l st) (omega arith) (λ a b. refl) h.7
      ∙ stepped (have (in_guard (if_or_unless b) l st) e) _ h.2 h.3 d ∙ ap (run h.3) (begins_if b (in_guarded (if_or_unless b) l e st)) ∙ does_run c h.3 us (in_guarded (if_or_unless b) l e st) (full_filled c us h.10) h.9
      ∙ repeats_alike us (did (in_guarded (if_or_unless b) l e st) c) (did st (guarded (if_or_unless b) l e c)) (full_fails c us h.10) (λ m x t g. rw g refl) ∙ ap (λ z. run us (did st z)) (guarded_when b l e c)
  does_run (while l b e c) ts us st full h =
      let o : step (begin st) h.0 ≡ Some (want (in_guard (while_or_until b) l st)) = rw h.6 (guard_step h.0.kind st l h.0.text (while_or_until b) h.5) in
      let d : step (have (in_guard (while_or_until b) l st) e) h.2 ≡ Some (after_sign (while_or_until b) (in_guarded (while_or_until b) l e st)) = sign_step (while_or_until b) h.2.kind l e st (position_of h.2) h.2.text h.8 in
      ap (λ z. run z (begin st)) h.4 ∙ stepped (begin st) _ h.0 h.1 o ∙ reads_run 12 e h.1 (h.2 ∷ h.3) (in_guard (while_or_until b) l st) (omega arith) (λ a b. refl) h.7
      ∙ stepped (have (in_guard (while_or_until b) l st) e) _ h.2 h.3 d ∙ ap (run h.3) (begins_while b (in_guarded (while_or_until b) l e st)) ∙ does_run c h.3 us (in_guarded (while_or_until b) l e st) (full_filled c us h.10) h.9
      ∙ repeats_alike us (did (in_guarded (while_or_until b) l e st) c) (did st (guarded (while_or_until b) l e c)) (full_fails c us h.10) (λ m x t g. rw g refl) ∙ ap (λ z. run us (did st z)) (guarded_while b l e c)
  does_run (switch l e c) ts us st full h =
      let o : step (begin st) h.0 ≡ Some (want (in_guard (g.SwitchOn) l st)) = rw h.6 (guard_step h.0.kind st l h.0.text (g.SwitchOn) h.5) in
      let d : step (have (in_guard (g.SwitchOn) l st) e) h.2 ≡ Some (after_sign (g.SwitchOn) (in_guarded (g.SwitchOn) l e st)) = sign_step (g.SwitchOn) h.2.kind l e st (position_of h.2) h.2.text h.8 in
      ap (λ z. run z (begin st)) h.4 ∙ stepped (begin st) _ h.0 h.1 o ∙ reads_run 12 e h.1 (h.2 ∷ h.3) (in_guard (g.SwitchOn) l st) (omega arith) (λ a b. refl) h.7
      ∙ stepped (have (in_guard (g.SwitchOn) l st) e) _ h.2 h.3 d ∙ does_run c h.3 us (in_guarded g.SwitchOn l e st) (full_filled c us h.10) h.9
      ∙ repeats_alike us (did (in_guarded g.SwitchOn l e st) c) (did st (switch l e c)) (full_fails c us h.10) (λ m x t f. rw f refl)
  does_run (test l e a b) ts us st full h =
      let o : step (begin st) h.0 ≡ Some (want (in_test l st)) = rw (h.7, h.8) refl in
      let d : step (have (in_test l st) e) h.2 ≡ Some (begin (in_do l e st)) = rw h.10 refl in
      let r : step (did (in_do l e st) a) h.4 ≡ Some (begin (in_or l e a st)) = rw h.13 refl in
      ap (λ z. run z (begin st)) h.6 ∙ stepped (begin st) _ h.0 h.1 o ∙ reads_run 12 e h.1 (h.2 ∷ h.3) (in_test l st) (omega arith) (λ a b. refl) h.9
      ∙ stepped (have (in_test l st) e) _ h.2 h.3 d ∙ does_run a h.3 (h.4 ∷ h.5) (in_do l e st) (full_filled a (h.4 ∷ h.5) h.12) h.11 ∙ stepped (did (in_do l e st) a) _ h.4 h.5 r
      ∙ does_run b h.5 us (in_or l e a st) (full_filled b us h.15) h.14
      ∙ repeats_alike us (did (in_or l e a st) b) (did st (test l e a b)) (full_fails b us h.15) (λ m x t g. rw g refl)
  does_run (for_loop l x a b none c) ts us st full h =
      let i : step (begin st) h.0 ≡ Some (due (at_for l st)) = rw (h.9, h.10) refl in
      let j : step (due (at_for l st)) h.1 ≡ Some (due (at_forward l x st)) = named_mention h.1 x (λ n. due (at_forward l n st)) h.11 in
      let e : step (due (at_forward l x st)) h.2 ≡ Some (want (in_from l x st)) = rw h.12 refl in
      let o : step (have (in_from l x st) a) h.4 ≡ Some (want (in_to l x a st)) = rw h.14 refl in
      let d : step (have (in_to l x a st) b) h.6 ≡ Some (begin (in_for l x a b none st)) = rw h.16 refl in
      ap (λ z. run z (begin st)) h.8 ∙ stepped (begin st) _ h.0 (h.1 ∷ h.2 ∷ h.3) i ∙ stepped (due (at_for l st)) _ h.1 (h.2 ∷ h.3) j ∙ stepped (due (at_forward l x st)) _ h.2 h.3 e
      ∙ reads_run 12 a h.3 (h.4 ∷ h.5) (in_from l x st) (omega arith) (λ a b. refl) h.13 ∙ stepped (have (in_from l x st) a) _ h.4 h.5 o
      ∙ reads_run 12 b h.5 (h.6 ∷ h.7) (in_to l x a st) (omega arith) (λ a b. refl) h.15 ∙ stepped (have (in_to l x a st) b) _ h.6 h.7 d
      ∙ does_run c h.7 us (in_for l x a b none st) (full_filled c us h.18) h.17
      ∙ repeats_alike us (did (in_for l x a b none st) c) (did st (for_loop l x a b none c)) (full_fails c us h.18) (λ m x t g. rw g refl)
  does_run (for_loop l x a b (more s none) c) ts us st full h =
      let i : step (begin st) h.0 ≡ Some (due (at_for l st)) = rw (h.11, h.12) refl in
      let j : step (due (at_for l st)) h.1 ≡ Some (due (at_forward l x st)) = named_mention h.1 x (λ n. due (at_forward l n st)) h.13 in
      let e : step (due (at_forward l x st)) h.2 ≡ Some (want (in_from l x st)) = rw h.14 refl in
      let o : step (have (in_from l x st) a) h.4 ≡ Some (want (in_to l x a st)) = rw h.16 refl in
      let y : step (have (in_to l x a st) b) h.6 ≡ Some (want (in_by l x a b st)) = rw h.18 refl in
      let d : step (have (in_by l x a b st) s) h.8 ≡ Some (begin (in_for l x a b (more s none) st)) = rw h.20 refl in
      ap (λ z. run z (begin st)) h.10 ∙ stepped (begin st) _ h.0 (h.1 ∷ h.2 ∷ h.3) i ∙ stepped (due (at_for l st)) _ h.1 (h.2 ∷ h.3) j ∙ stepped (due (at_forward l x st)) _ h.2 h.3 e
      ∙ reads_run 12 a h.3 (h.4 ∷ h.5) (in_from l x st) (omega arith) (λ a b. refl) h.15 ∙ stepped (have (in_from l x st) a) _ h.4 h.5 o
      ∙ reads_run 12 b h.5 (h.6 ∷ h.7) (in_to l x a st) (omega arith) (λ a b. refl) h.17 ∙ stepped (have (in_to l x a st) b) _ h.6 h.7 y
      ∙ reads_run 12 s h.7 (h.8 ∷ h.9) (in_by l x a b st) (omega arith) (λ a b. refl) h.19 ∙ stepped (have (in_by l x a b st) s) _ h.8 h.9 d
      ∙ does_run c h.9 us (in_for l x a b (more s none) st) (full_filled c us h.22) h.21
      ∙ repeats_alike us (did (in_for l x a b (more s none) st) c) (did st (for_loop l x a b (more s none) c)) (full_fails c us h.22) (λ m x t g. rw g refl)
  does_run (for_loop l x a b (more s (more q ss)) c) ts us st full h = absurd h
  does_run (result l e) ts us st full h =
      let o : step (begin st) h.0 ≡ Some (want (in_result l st)) = rw (h.3, h.4) refl in
      ap (λ z. run z (begin st)) h.2 ∙ stepped (begin st) _ h.0 h.1 o ∙ reads_run 12 e h.1 us (in_result l st) (omega arith) (λ a b. refl) h.5
      ∙ stops_alike 12 us (have (in_result l st) e) (did st (result l e)) h.6 (λ m x t g. rw g refl)
  does_run (simple l w) ts us st full h =
      let o : step (begin st) h.0 ≡ Some (did st (simple l w)) = rw h.3 (simple_step h.0.kind st l h.0.text w h.2) in ap (λ z. run z (begin st)) h.1 ∙ stepped (begin st) _ h.0 us o
  does_run (block l no_declarations cs) ts us st full h =
      let o : step (begin st) h.0 ≡ Some (due (in_block l true no_declarations no_commands st)) = rw (h.4, h.5) refl in
      ap (λ z. run z (begin st)) h.3 ∙ stepped (begin st) _ h.0 h.1 o ∙ body_run l cs h.1 h.2 us st h.6 h.7
  does_run (block l (declare d ds) cs) ts us st full h =
      let o : step (begin st) h.0 ≡ Some (due (in_block l true no_declarations no_commands st)) = rw (h.5, h.6) refl in
      ap (λ z. run z (begin st)) h.4 ∙ stepped (begin st) _ h.0 h.1 o ∙ heads_run l true no_declarations (declare d ds) h.1 h.2 st tt h.8
      ∙ headed_run l (declare d ds) cs h.2 h.3 us st h.7 h.9
  does_run (repeat l c) ts us st full h =
      does_run c ts (h.0 ∷ us) st h.3 h.4 ∙ stepped (did st c) (did st (repeat (at_command c) c)) h.0 us (repeated st c (position_of h.0) h.0.text h.0.kind (ap repeats h.1) ∙ ap (again st c) h.1)
      ∙ ap (λ z. run us (did st (repeat z c))) (sym h.2)
  does_run (repeat_while l b c e) ts us st full h =
      does_run c ts (h.0 ∷ h.1) st h.4 h.5 ∙ stepped (did st c) (want (in_while b c st)) h.0 h.1 (repeats_step b st c (position_of h.0) h.0.text h.0.kind h.2)
      ∙ reads_run 12 e h.1 us (in_while b c st) (omega arith) (λ a b. refl) h.6
      ∙ stops_alike 12 us (have (in_while b c st) e) (did st (repeat_while (at_command c) b c e)) h.7 (λ m x t g. rw g refl)
      ∙ ap (λ z. run us (did st (repeat_while z b c e))) (sym h.3)

  pub dests_run : (xs : Expressions) (ts : List Symbol) (t : Symbol) (ms : List Symbol) (st : Stack) → t.kind ≡ k.Assign → Each xs ts (t ∷ ms) → run ts (want (in_start st)) ≡ run ms (want (in_values xs none st))
  dests_run none ts t ms st is h = absurd h
  dests_run (more x none) ts t ms st is h =
      let e : step (have (in_start st) x) t ≡ Some (want (in_values (more x none) none st)) = rw is refl in
      reads_run 12 x ts (t ∷ ms) (in_start st) (omega arith) (λ a b. refl) h.0 ∙ stepped (have (in_start st) x) _ t ms e
  dests_run (more x (more y ys)) ts t ms st is h =
      let e : step (have (in_start st) x) h.0 ≡ Some (want (in_dests (more x none) st)) = rw h.2 refl in
      reads_run 12 x ts (h.0 ∷ h.1) (in_start st) (omega arith) (λ a b. refl) h.3 ∙ stepped (have (in_start st) x) _ h.0 h.1 e ∙ further_run (more y ys) (more x none) h.1 t ms st is h.4

  pub further_run : (xs es : Expressions) (ts : List Symbol) (t : Symbol) (ms : List Symbol) (st : Stack) → t.kind ≡ k.Assign → Each xs ts (t ∷ ms) → run ts (want (in_dests es st)) ≡ run ms (want (in_values (each_then es xs) none st))
  further_run none es ts t ms st is h = absurd h
  further_run (more x none) es ts t ms st is h =
      let e : step (have (in_dests es st) x) t ≡ Some (want (in_values (each_then es (more x none)) none st)) = rw is refl in
      reads_run 12 x ts (t ∷ ms) (in_dests es st) (omega arith) (λ a b. refl) h.0 ∙ stepped (have (in_dests es st) x) _ t ms e
  further_run (more x (more y ys)) es ts t ms st is h =
      let e : step (have (in_dests es st) x) h.0 ≡ Some (want (in_dests (each_then es (more x none)) st)) = rw h.2 refl in
      reads_run 12 x ts (h.0 ∷ h.1) (in_dests es st) (omega arith) (λ a b. refl) h.3 ∙ stepped (have (in_dests es st) x) _ h.0 h.1 e ∙ further_run (more y ys) (each_then es (more x none)) h.1 t ms st is h.4
      ∙ ap (λ z. run ms (want (in_values z none st))) (each_end es x (more y ys))

  pub values_run : (xs ys zs : Expressions) (ts us : List Symbol) (st : Stack) → size zs + size ys ≡ size xs → Each ys ts us → run ts (want (in_values xs zs st)) ≡ run us (did st (assign (at_expressions xs) xs (each_then zs ys)))
  values_run xs none zs ts us st n h = absurd h
  values_run xs (more y none) zs ts us st n h =
      reads_run 12 y ts us (in_values xs zs st) (omega arith) (λ a b. le-ltb _ _ (omega arith)) h.0 ∙ value_ends xs zs y us st (omega arith) h.1
  values_run xs (more y (more x ys)) zs ts us st n h =
      let e : step (have (in_values xs zs st) y) h.0 ≡ Some (want (in_values xs (each_then zs (more y none)) st)) = value_more xs zs y (position_of h.0) h.0.text h.0.kind st (omega arith) h.2 in
      reads_run 12 y ts (h.0 ∷ h.1) (in_values xs zs st) (omega arith) (at_comma (in_values xs zs st) h.0 h.1 h.2) h.3 ∙ stepped (have (in_values xs zs st) y) _ h.0 h.1 e
      ∙ values_run xs (more x ys) (each_then zs (more y none)) h.1 us st (omega (arith, size_then zs (more y none))) h.4 ∙ ap (λ z. run us (did st (assign (at_expressions xs) xs z))) (each_end zs y (more x ys))

  pub body_run : (l : ℕ) (cs : Commands) (ts : List Symbol) (x : Symbol) (us : List Symbol) (st : Stack) → x.kind ≡ k.SectionClose → Body cs ts (x ∷ us) → run ts (due (in_block l true no_declarations no_commands st)) ≡ run us (did st (block l no_declarations cs))
  body_run l no_commands ts x us st is h = head_semis l true no_declarations ts x us st is h
  body_run l (also c cs) ts x us st is h =
      semis_run l no_declarations no_commands ts h.0 st h.2 ∙ item_starts l no_declarations no_commands st h.0 (opens_does c h.0 h.1 (full_filled c h.1 h.4) h.3)
      ∙ does_run c h.0 h.1 (in_block l true no_declarations no_commands st) (full_filled c h.1 h.4) h.3 ∙ parted_run l true no_declarations no_commands c cs h.1 x us st is h.5

  pub headed_run : (l : ℕ) (ds : Declarations) (cs : Commands) (ts : List Symbol) (x : Symbol) (us : List Symbol) (st : Stack) → x.kind ≡ k.SectionClose → Parted cs ts (x ∷ us) → run ts (due (in_block l false ds no_commands st)) ≡ run us (did st (block l ds cs))
  headed_run l ds no_commands ts x us st is h = head_semis l false ds ts x us st is h
  headed_run l ds (also c cs) ts x us st is h =
      let e : step (due (in_block l false ds no_commands st)) h.0 ≡ Some (due (in_block l true ds no_commands st)) = rw h.5 refl in
      ap (λ z. run z (due (in_block l false ds no_commands st))) h.4 ∙ stepped (due (in_block l false ds no_commands st)) _ h.0 h.1 e ∙ semis_run l ds no_commands h.1 h.2 st h.6
      ∙ item_starts l ds no_commands st h.2 (opens_does c h.2 h.3 (full_filled c h.3 h.8) h.7)
      ∙ does_run c h.2 h.3 (in_block l true ds no_commands st) (full_filled c h.3 h.8) h.7 ∙ parted_run l true ds no_commands c cs h.3 x us st is h.9

  pub parted_run : (l : ℕ) (f : Bool) (ds : Declarations) (bs : Commands) (c : Command) (cs : Commands) (ts : List Symbol) (x : Symbol) (us : List Symbol) (st : Stack) → x.kind ≡ k.SectionClose → Parted cs ts (x ∷ us)
      → run ts (did (in_block l f ds bs st) c) ≡ run us (did st (block l ds (commands_then bs (also c cs))))
  parted_run l f ds bs c no_commands ts x us st is h = last_semis l f ds bs c ts x us st is h
  parted_run l f ds bs c (also d cs) ts x us st is h =
      let e : step (did (in_block l f ds bs st) c) h.0 ≡ Some (due (in_block l true ds (commands_then bs (also c no_commands)) st)) = rw h.5 refl in
      ap (λ z. run z (did (in_block l f ds bs st) c)) h.4 ∙ stepped (did (in_block l f ds bs st) c) _ h.0 h.1 e ∙ semis_run l ds (commands_then bs (also c no_commands)) h.1 h.2 st h.6
      ∙ item_starts l ds (commands_then bs (also c no_commands)) st h.2 (opens_does d h.2 h.3 (full_filled d h.3 h.8) h.7)
      ∙ does_run d h.2 h.3 (in_block l true ds (commands_then bs (also c no_commands)) st) (full_filled d h.3 h.8) h.7
      ∙ parted_run l true ds (commands_then bs (also c no_commands)) d cs h.3 x us st is h.9 ∙ ap (λ z. run us (did st (block l ds z))) (commands_end bs c (also d cs))

  pub declares_run : (inside : Bool) (d : Declaration) (ts us : List Symbol) (fr : Stack) → Head inside fr → Declares inside d ts us → run ts (due fr) ≡ run us (due (after fr d))
  declares_run inside (constants l s is) ts us fr head h =
      let a : step (due fr) h.0 ≡ Some (due (at_opening l s fr)) = rw h.6 (sort_step inside fr l h.0.text h.0.kind s head h.5) in
      let b : step (due (at_opening l s fr)) h.1 ≡ Some (due (at_items l s no_items fr)) = rw h.7 refl in
      ap (λ z. run z (due fr)) h.4 ∙ stepped (due fr) _ h.0 (h.1 ∷ h.2) a ∙ stepped (due (at_opening l s fr)) _ h.1 h.2 b ∙ listed_run inside l s no_items is h.2 h.3 us fr head h.8 h.9
  declares_run inside (definitions l ds) ts us fr head h =
      let a : step (due fr) h.0 ≡ Some (due (in_let l no_definitions fr)) = rw h.4 (let_step inside fr l h.0.text h.0.kind head h.3) in
      ap (λ z. run z (due fr)) h.2 ∙ stepped (due fr) _ h.0 h.1 a ∙ defined_run inside l no_definitions ds h.1 us fr head h.5

  pub listed_run : (inside : Bool) (l : ℕ) (s : Sort) (zs is : Items) (ts : List Symbol) (c : Symbol) (us : List Symbol) (fr : Stack) → Head inside fr → c.kind ≡ k.SectionClose → Listed is ts (c ∷ us)
      → run ts (due (at_items l s zs fr)) ≡ run us (due (after fr (constants l s (items_then zs is))))
  listed_run inside l s zs no_items ts c us fr head shuts h = absurd h
  listed_run inside l s zs (item m x e no_items) ts c us fr head shuts h =
      ap (λ z. run z (due (at_items l s zs fr))) h.4 ∙ stepped (due (at_items l s zs fr)) _ h.0 (h.1 ∷ h.2) (item_name l s zs fr h.0 m x h.5)
      ∙ stepped (due (at_sign l s zs (record { at = m; letters = x }) fr)) _ h.1 h.2 (sign_taken l s zs (record { at = m; letters = x }) fr h.1 h.6)
      ∙ reads_run 12 e h.2 h.3 (in_item l s zs (record { at = m; letters = x }) fr) (omega arith) (λ a b. refl) h.7
      ∙ items_close l s zs (record { at = m; letters = x }) e fr inside h.3 c us head shuts h.9
  listed_run inside l s zs (item m x e (item n y f is)) ts c us fr head shuts h =
      let ys = items_then zs (item m x e no_items) in
      let d : step (have (in_item l s zs (record { at = m; letters = x }) fr) e) h.3 ≡ Some (due (at_items l s ys fr)) = rw h.10 refl in
      ap (λ z. run z (due (at_items l s zs fr))) h.6 ∙ stepped (due (at_items l s zs fr)) _ h.0 (h.1 ∷ h.2) (item_name l s zs fr h.0 m x h.7)
      ∙ stepped (due (at_sign l s zs (record { at = m; letters = x }) fr)) _ h.1 h.2 (sign_taken l s zs (record { at = m; letters = x }) fr h.1 h.8)
      ∙ reads_run 12 e h.2 (h.3 ∷ h.4) (in_item l s zs (record { at = m; letters = x }) fr) (omega arith) (λ a b. refl) h.9
      ∙ stepped (have (in_item l s zs (record { at = m; letters = x }) fr) e) _ h.3 h.4 d ∙ items_semis l s ys fr h.4 h.5 (then_some zs m x e) h.11
      ∙ listed_run inside l s ys (item n y f is) h.5 c us fr head shuts h.12 ∙ ap (λ z. run us (due (after fr (constants l s z)))) (items_end zs m x e (item n y f is))

  pub defined_run : (inside : Bool) (l : ℕ) (es ds : Definitions) (ts us : List Symbol) (fr : Stack) → Head inside fr → Defined inside ds ts us → run ts (due (in_let l es fr)) ≡ run us (due (after fr (definitions l (definitions_then es ds))))
  defined_run inside l es no_definitions ts us fr head h = absurd h
  defined_run inside l es (define d no_definitions) ts us fr head h =
      let y = define_run inside l es d ts us fr head h.0 in
      let D = definitions l (definitions_then es (define d no_definitions)) in
      y.1 ∙ alike us y.0 (due (after fr D)) (defined_by (in_let l es fr) d) y.2
      (failing is_and us (due (after fr D)) (defined_by (in_let l es fr) d) refl h.1 (λ m x t f. rw f (sym (declared_by_is inside fr D m x t head))))
  defined_run inside l es (define d (define e ds)) ts us fr head h =
      let y = define_run inside l es d ts (h.0 ∷ h.1) fr head h.3 in
      let b : defined_by (in_let l es fr) d (position_of h.0) h.0.text h.0.kind ≡ Some (due (in_let l (definitions_then es (define d no_definitions)) fr)) = rw h.2 refl in
      y.1 ∙ stepped y.0 _ h.0 h.1 (y.2 ∙ b) ∙ defined_run inside l (definitions_then es (define d no_definitions)) (define e ds) h.1 us fr head h.4
      ∙ ap (λ z. run us (due (after fr (definitions l z)))) (definitions_end es d (define e ds))

  pub define_run : (inside : Bool) (l : ℕ) (es : Definitions) (d : Definition) (ts us : List Symbol) (fr : Stack) → Head inside fr → Defines inside d ts us
      → (y : State) × (run ts (due (in_let l es fr)) ≡ run us y) × Takes us y (defined_by (in_let l es fr) d)
  define_run inside l es (routine m x fs c) ts us fr head h =
      let n : Mention = record { at = m; letters = x } in
      let L = in_let l es fr in
      let a : step (due L) h.0 ≡ Some (due (at_name n L)) = named_step h.0 m x (λ z. due (at_name z L)) h.6 in
      let b : step (due (at_name n L)) h.1 ≡ Some (due (at_formals n L)) = rw h.7 refl in
      let t : step (due (at_head n fs L)) h.3 ≡ Some (begin (in_routine n fs L)) = rw h.9 refl in (
        did (in_routine n fs L) c,
        ap (λ z. run z (due L)) h.5 ∙ stepped (due L) _ h.0 (h.1 ∷ h.2) a ∙ stepped (due (at_name n L)) _ h.1 h.2 b ∙ formals_run n fs L h.2 (h.3 ∷ h.4) h.8
            ∙ stepped (due (at_head n fs L)) _ h.3 h.4 t ∙ does_run c h.4 us (in_routine n fs L) (full_filled c us h.11) h.10,
        failing repeats us (did (in_routine n fs L) c) (defined_by L (routine m x fs c)) refl (full_fails c us h.11) (λ p s q f. rw f refl),
      )
  define_run inside l es (function m x fs e) ts us fr head h =
      let n : Mention = record { at = m; letters = x } in
      let L = in_let l es fr in
      let a : step (due L) h.0 ≡ Some (due (at_name n L)) = named_step h.0 m x (λ z. due (at_name z L)) h.6 in
      let b : step (due (at_name n L)) h.1 ≡ Some (due (at_formals n L)) = rw h.7 refl in
      let t : step (due (at_head n fs L)) h.3 ≡ Some (want (in_function n fs L)) = rw h.9 refl in (
        have (in_function n fs L) e,
        ap (λ z. run z (due L)) h.5 ∙ stepped (due L) _ h.0 (h.1 ∷ h.2) a ∙ stepped (due (at_name n L)) _ h.1 h.2 b ∙ formals_run n fs L h.2 (h.3 ∷ h.4) h.8
            ∙ stepped (due (at_head n fs L)) _ h.3 h.4 t ∙ reads_run 12 e h.4 us (in_function n fs L) (omega arith) (λ p q. refl) h.10,
        failing (goes 12) us (have (in_function n fs L) e) (defined_by L (function m x fs e)) refl h.11 (λ p s q f. rw f refl),
      )
  define_run inside l es (variables m xs is) ts us fr head h =
      let L = in_let l es fr in
      let P : Bool → Type 0 = λ b. Head b fr in
      let y = starts_run xs is no_starts h.2 us L (omega (arith, h.5)) h.7 in
      let Q : ℕ → Type 0 = λ z. Takes us y.0 (defined_by L (variables z xs is)) in
      (y.0, names_run l es fr xs ts h.1 h.2 (subst P h.0 head) h.3 h.6 ∙ y.1, subst Q (sym h.4) y.2)

  pub starts_run : (xs : List Mention) (is zs : Starts) (ts us : List Symbol) (L : Stack) → start_count zs + start_count is ≡ length xs → Started is ts us
      → (y : State) × (run ts (due (at_starts xs zs L)) ≡ run us y) × Takes us y (defined_by L (variables (at_names xs) xs (starts_then zs is)))
  starts_run xs no_starts zs ts us L n h = absurd h
  starts_run xs (value e no_starts) zs ts us L n h = (
    have (in_value xs zs L) e,
    starts_value xs zs L ts (opens_read 12 e ts us h.0) ∙ reads_run 12 e ts us (in_value xs zs L) (omega arith) (λ a b. le-ltb _ _ (omega arith)) h.0,
    failing (goes 12) us (have (in_value xs zs L) e) (defined_by L (variables (at_names xs) xs (starts_then zs (value e no_starts)))) refl h.1 (λ p s q f. rw (f, same_eq (length xs) (start_count zs + 1) (omega arith)) refl),
  )
  starts_run xs (value e (value f is)) zs ts us L n h =
      let y = starts_run xs (value f is) (starts_then zs (value e no_starts)) h.1 us L (omega (arith, count_then zs (value e no_starts))) h.4 in
      let Q : Starts → Type 0 = λ z. Takes us y.0 (defined_by L (variables (at_names xs) xs z)) in (
        y.0,
        starts_value xs zs L ts (opens_read 12 e ts (h.0 ∷ h.1) h.3) ∙ reads_run 12 e ts (h.0 ∷ h.1) (in_value xs zs L) (omega arith) (at_comma (in_value xs zs L) h.0 h.1 h.2) h.3
            ∙ stepped (have (in_value xs zs L) e) _ h.0 h.1 (more_values xs zs L e h.0 (omega arith) h.2) ∙ y.1,
        subst Q (value_end zs e (value f is)) y.2,
      )
  starts_run xs (value e (vector m f is)) zs ts us L n h =
      let y = starts_run xs (vector m f is) (starts_then zs (value e no_starts)) h.1 us L (omega (arith, count_then zs (value e no_starts))) h.4 in
      let Q : Starts → Type 0 = λ z. Takes us y.0 (defined_by L (variables (at_names xs) xs z)) in (
        y.0,
        starts_value xs zs L ts (opens_read 12 e ts (h.0 ∷ h.1) h.3) ∙ reads_run 12 e ts (h.0 ∷ h.1) (in_value xs zs L) (omega arith) (at_comma (in_value xs zs L) h.0 h.1 h.2) h.3
            ∙ stepped (have (in_value xs zs L) e) _ h.0 h.1 (more_values xs zs L e h.0 (omega arith) h.2) ∙ y.1,
        subst Q (value_end zs e (vector m f is)) y.2,
      )
  starts_run xs (vector l e no_starts) zs ts us L n h =
      let a : step (due (at_starts xs zs L)) h.0 ≡ Some (want (in_vector l xs zs L)) = rw (h.3, h.4) refl in (
        have (in_vector l xs zs L) e,
        ap (λ z. run z (due (at_starts xs zs L))) h.2 ∙ stepped (due (at_starts xs zs L)) _ h.0 h.1 a ∙ reads_run 12 e h.1 us (in_vector l xs zs L) (omega arith) (λ a b. le-ltb _ _ (omega arith)) h.5,
        failing (goes 12) us (have (in_vector l xs zs L) e) (defined_by L (variables (at_names xs) xs (starts_then zs (vector l e no_starts)))) refl h.6 (λ p s q f. rw (f, same_eq (length xs) (start_count zs + 1) (omega arith)) refl),
      )
  starts_run xs (vector l e (value f is)) zs ts us L n h =
      let y = starts_run xs (value f is) (starts_then zs (vector l e no_starts)) h.3 us L (omega (arith, count_then zs (vector l e no_starts))) h.9 in
      let a : step (due (at_starts xs zs L)) h.0 ≡ Some (want (in_vector l xs zs L)) = rw (h.5, h.6) refl in
      let Q : Starts → Type 0 = λ z. Takes us y.0 (defined_by L (variables (at_names xs) xs z)) in (
        y.0,
        ap (λ z. run z (due (at_starts xs zs L))) h.4 ∙ stepped (due (at_starts xs zs L)) _ h.0 h.1 a
            ∙ reads_run 12 e h.1 (h.2 ∷ h.3) (in_vector l xs zs L) (omega arith) (at_comma (in_vector l xs zs L) h.2 h.3 h.7) h.8
            ∙ stepped (have (in_vector l xs zs L) e) _ h.2 h.3 (more_vectors l xs zs L e h.2 (omega arith) h.7) ∙ y.1,
        subst Q (vector_end zs l e (value f is)) y.2,
      )
  starts_run xs (vector l e (vector m f is)) zs ts us L n h =
      let y = starts_run xs (vector m f is) (starts_then zs (vector l e no_starts)) h.3 us L (omega (arith, count_then zs (vector l e no_starts))) h.9 in
      let a : step (due (at_starts xs zs L)) h.0 ≡ Some (want (in_vector l xs zs L)) = rw (h.5, h.6) refl in
      let Q : Starts → Type 0 = λ z. Takes us y.0 (defined_by L (variables (at_names xs) xs z)) in (
        y.0,
        ap (λ z. run z (due (at_starts xs zs L))) h.4 ∙ stepped (due (at_starts xs zs L)) _ h.0 h.1 a
            ∙ reads_run 12 e h.1 (h.2 ∷ h.3) (in_vector l xs zs L) (omega arith) (at_comma (in_vector l xs zs L) h.2 h.3 h.7) h.8
            ∙ stepped (have (in_vector l xs zs L) e) _ h.2 h.3 (more_vectors l xs zs L e h.2 (omega arith) h.7) ∙ y.1,
        subst Q (vector_end zs l e (vector m f is)) y.2,
      )

  pub heads_run : (l : ℕ) (f : Bool) (es ds : Declarations) (ts us : List Symbol) (st : Stack) → Some_declarations ds → Heads true ds ts us
      → run ts (due (in_block l f es no_commands st)) ≡ run us (due (in_block l false (declarations_then es ds) no_commands st))
  heads_run l f es no_declarations ts us st some h = absurd some
  heads_run l f es (declare d no_declarations) ts us st some h =
      let b = before_run ts h.0 l f es st h.2 in
      b.1 ∙ declares_run true d h.0 h.1 (in_block l b.0 es no_commands st) tt h.3 ∙ ap (λ z. run z (due (in_block l false (declarations_then es (declare d no_declarations)) no_commands st))) h.4
  heads_run l f es (declare d (declare e ds)) ts us st some h =
      let b = before_run ts h.0 l f es st h.2 in
      b.1 ∙ declares_run true d h.0 h.1 (in_block l b.0 es no_commands st) tt h.3 ∙ heads_run l false (declarations_then es (declare d no_declarations)) (declare e ds) h.1 us st tt h.4
      ∙ ap (λ z. run us (due (in_block l false z no_commands st))) (declarations_end es d (declare e ds))

heads_section : (es ds : Declarations) (ts us : List Symbol) → Heads false ds ts us → run ts (due (in_section es)) ≡ run us (due (in_section (declarations_then es ds)))
heads_section es no_declarations ts us h = ap (λ z. run z (due (in_section es))) h ∙ ap (λ z. run us (due (in_section z))) (sym (declarations_all es))
heads_section es (declare d ds) ts us h =
    section_semis es ts h.0 h.2 ∙ declares_run false d h.0 h.1 (in_section es) tt h.3 ∙ heads_section (declarations_then es (declare d no_declarations)) ds h.1 us h.4
    ∙ ap (λ z. run us (due (in_section z))) (declarations_end es d ds)

at_end : (ds : Declarations) → run [] (due (in_section ds)) ≡ Ok ds
unfolding run
at_end ds = refl

-- the tree that the grammar has is read
pub complete : (ds : Declarations) (ts : List Symbol) → Section ds ts → run ts (due (in_section no_declarations)) ≡ Ok ds
complete ds ts h = heads_section no_declarations ds ts h.0 h.1 ∙ section_semis ds h.0 [] h.2 ∙ at_end ds

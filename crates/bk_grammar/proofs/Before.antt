-- What is read is in the grammar: what was begun, and expressions.
use Rattle.bk_grammar.proofs.Terms.{◌≡◌, ℕ, zero, suc, ◌<◌, ◌≤◌, Bool, true, false, cond, List, [], ◌∷◌, Option, Some, None, refl, ap, subst, ◌⊎◌, inl, inr, arith, nat_lt, ltb-false, le-ltb, Kind, Kind as k, Symbol, Operator, Operator as o, Prefix, Guard as g, Mention, Expression, Expressions, Commands, Declarations, Items, Definitions, Starts, unary, binary, choice, apply, none, more, no_commands, also, no_declarations, declare, no_items, item, no_definitions, define, no_starts, value, vector, row, inner, left, following, is_relation, infix_of, prefix_of, sort_of, guard_of, sign_of, is_and, is_comma, goes, SpellsName, Names, Formals, Semis, last, Full, Filled, repeats_while, Reads, Each, Does, Heads, Defines, Stack, in_section, in_block, in_let, at_name, at_formals, at_formal, at_formal_end, at_head, at_variable, at_variable_end, at_starts, at_opening, at_items, at_sign, at_goto, at_for, at_forward, at_default, in_parens, in_unary, in_binary, in_chain, in_then, in_else, in_args, in_table, in_start, in_dests, in_values, in_guard, in_test, in_result, in_while, in_from, in_to, in_by, in_item, in_function, in_value, in_vector, in_valof, in_label, in_guarded, in_default, in_do, in_or, in_for, in_routine, State, want, have, begin, maybe, did, due, limit, is_close, is_colon, is_do, is_or, is_to, is_equal, is_semicolon, opens, closes, is_vec, is_let, is_open, if_is, inside, position_of}

pub is_close_kind : (t : Kind) → is_close t ≡ true → t ≡ k.Close
is_close_kind t h1 = grind arith

pub is_comma_kind : (t : Kind) → is_comma t ≡ true → t ≡ k.Comma
is_comma_kind t h1 = grind arith

pub is_colon_kind : (t : Kind) → is_colon t ≡ true → t ≡ k.Colon
is_colon_kind t h1 = grind arith

pub is_do_kind : (t : Kind) → is_do t ≡ true → t ≡ k.Do
is_do_kind t h1 = grind arith

pub is_or_kind : (t : Kind) → is_or t ≡ true → t ≡ k.Or
is_or_kind t h1 = grind arith

pub is_to_kind : (t : Kind) → is_to t ≡ true → t ≡ k.To
is_to_kind t h1 = grind arith

pub is_and_kind : (t : Kind) → is_and t ≡ true → t ≡ k.And
is_and_kind t h1 = grind arith

pub is_equal_kind : (t : Kind) → is_equal t ≡ true → t ≡ k.Equal
is_equal_kind t h1 = grind arith

pub is_semicolon_kind : (t : Kind) → is_semicolon t ≡ true → t ≡ k.Semicolon
is_semicolon_kind t h1 = grind arith

pub opens_kind : (t : Kind) → opens t ≡ true → t ≡ k.SectionOpen
opens_kind t h1 = grind arith

pub closes_kind : (t : Kind) → closes t ≡ true → t ≡ k.SectionClose
closes_kind t h1 = grind arith

pub is_vec_kind : (t : Kind) → is_vec t ≡ true → t ≡ k.Vec
is_vec_kind t h1 = grind arith

pub is_let_kind : (t : Kind) → is_let t ≡ true → t ≡ k.Let
is_let_kind t h1 = grind arith

pub is_open_kind : (t : Kind) → is_open t ≡ true → t ≡ k.Open
is_open_kind t h1 = grind arith

-- expressions with a comma behind each
abbrev pub Commas : Expressions → List Symbol → List Symbol → Type 0
Commas none a z = a ≡ z
Commas (more e es) a z = (d : Symbol) × (ms : List Symbol) × (d.kind ≡ k.Comma) × Reads 12 e a (d ∷ ms) × Commas es ms z

-- names with a comma behind each
abbrev pub NamesThen : List Mention → List Symbol → List Symbol → Type 0
NamesThen [] a z = a ≡ z
NamesThen (x ∷ xs) a z = (t : Symbol) × (d : Symbol) × (ms : List Symbol) × (a ≡ t ∷ d ∷ ms) × SpellsName x.at x.letters t × (d.kind ≡ k.Comma) × NamesThen xs ms z

-- items of a LET with a comma behind each
abbrev pub StartsThen : Starts → List Symbol → List Symbol → Type 0
StartsThen no_starts a z = a ≡ z
StartsThen (value e is) a z = (d : Symbol) × (ms : List Symbol) × (d.kind ≡ k.Comma) × Reads 12 e a (d ∷ ms) × StartsThen is ms z
StartsThen (vector l e is) a z = (t : Symbol) × (ns : List Symbol) × (d : Symbol) × (ms : List Symbol) × (a ≡ t ∷ ns) × (t.kind ≡ k.Vec) × (position_of t ≡ l) × (d.kind ≡ k.Comma) × Reads 12 e ns (d ∷ ms) × StartsThen is ms z

-- items with a semicolon at least behind each
abbrev pub ItemsThen : Items → List Symbol → List Symbol → Type 0
ItemsThen no_items a z = a ≡ z
ItemsThen (item l x e is) a z = (n : Symbol) × (q : Symbol) × (ms : List Symbol) × (d : Symbol) × (ns : List Symbol) × (rs : List Symbol) × (a ≡ n ∷ q ∷ ms) × SpellsName l x n × ((q.kind ≡ k.Equal) ⊎ (q.kind ≡ k.Colon)) × Reads 12 e ms (d ∷ ns) × (d.kind ≡ k.Semicolon) × Semis ns rs × ItemsThen is rs z

-- definitions with an AND behind each
abbrev pub DefinitionsThen : Bool → Definitions → List Symbol → List Symbol → Type 0
DefinitionsThen b no_definitions a z = a ≡ z
DefinitionsThen b (define d ds) a z = (t : Symbol) × (ms : List Symbol) × (t.kind ≡ k.And) × Defines b d a (t ∷ ms) × DefinitionsThen b ds ms z

-- commands, the first behind a semicolon, and a semicolon at least behind the last
abbrev pub PartedThen : Commands → List Symbol → List Symbol → Type 0
PartedThen no_commands a z = (d : Symbol) × (rs : List Symbol) × (a ≡ d ∷ rs) × (d.kind ≡ k.Semicolon) × Semis rs z
PartedThen (also c cs) a z = (d : Symbol) × (rs : List Symbol) × (ms : List Symbol) × (ns : List Symbol) × (a ≡ d ∷ rs) × (d.kind ≡ k.Semicolon) × Semis rs ms × Does c ms ns × Full c ns × PartedThen cs ns z

abbrev pub BodyThen : Commands → List Symbol → List Symbol → Type 0
BodyThen no_commands a z = Semis a z
BodyThen (also c cs) a z = (ms : List Symbol) × (ns : List Symbol) × Semis a ms × Does c ms ns × Full c ns × PartedThen cs ns z

abbrev pub Some_ds : Declarations → Type 0
Some_ds no_declarations = ⊥
Some_ds (declare d ds) = Unit {0}

-- the inside of a block so far; whether a command may come
abbrev pub Inside : Bool → Declarations → Commands → List Symbol → List Symbol → Type 0
Inside false ds no_commands a z = Heads true ds a z × Some_ds ds
Inside false ds (also c cs) a z = ⊥
Inside true no_declarations cs a z = BodyThen cs a z
Inside true (declare d ds) cs a z = (ms : List Symbol) × Heads true (declare d ds) a ms × PartedThen cs ms z

-- in a block, and not in a section
abbrev pub in_block_is : Stack → Bool
in_block_is (in_block l f ds cs st) = true
in_block_is _ = false

-- where a declaration may begin
abbrev pub At_head : Stack → Type 0
At_head (in_section ds) = Unit {0}
At_head (in_block l f ds no_commands st) = Unit {0}
At_head _ = ⊥

-- a definition: the name and the parenthesis of a procedure
abbrev pub Procedure : Mention → List Symbol → List Symbol → Type 0
Procedure n a z = (t : Symbol) × (o : Symbol) × (a ≡ t ∷ o ∷ z) × SpellsName n.at n.letters t × (o.kind ≡ k.Open)

-- a command may stand here
abbrev pub Ready : Stack → Type 0
Ready (in_block l false ds cs st) = ⊥
Ready _ = Unit {0}

-- what was begun, from a to z
abbrev pub Before : Stack → List Symbol → List Symbol → Type 0
Before (in_section ds) a z = (ms : List Symbol) × Heads false ds a ms × Semis ms z
Before (in_block l f ds cs st) a z = (t : Symbol) × (ns : List Symbol) × (Before st a (t ∷ ns) × Ready st) × (t.kind ≡ k.SectionOpen) × (position_of t ≡ l) × Inside f ds cs ns z
Before (in_let l ds st) a z = (t : Symbol) × (ns : List Symbol) × Before st a (t ∷ ns) × (t.kind ≡ k.Let) × (position_of t ≡ l) × At_head st × DefinitionsThen (in_block_is st) ds ns z
Before (at_name n st) a z = (t : Symbol) × Before st a (t ∷ z) × SpellsName n.at n.letters t
Before (at_formals n st) a z = (ms : List Symbol) × Before st a ms × Procedure n ms z
Before (at_formal n fs st) a z = (ms : List Symbol) × (ns : List Symbol) × Before st a ms × Procedure n ms ns × NamesThen fs ns z
Before (at_formal_end n fs st) a z = (ms : List Symbol) × (ns : List Symbol) × Before st a ms × Procedure n ms ns × Names fs ns z
Before (at_head n fs st) a z = (ms : List Symbol) × (ns : List Symbol) × Before st a ms × Procedure n ms ns × Formals fs ns z
Before (at_variable xs st) a z = (ms : List Symbol) × Before st a ms × (inside st ≡ true) × NamesThen xs ms z
Before (at_variable_end xs st) a z = (ms : List Symbol) × Before st a ms × (inside st ≡ true) × Names xs ms z
Before (at_starts xs is st) a z = (ms : List Symbol) × (t : Symbol) × (ns : List Symbol) × Before st a ms × (inside st ≡ true) × (t.kind ≡ k.Equal) × Names xs ms (t ∷ ns) × StartsThen is ns z
Before (at_opening l s st) a z = (t : Symbol) × Before st a (t ∷ z) × At_head st × (sort_of t.kind ≡ Some s) × (position_of t ≡ l)
Before (at_items l s is st) a z = (t : Symbol) × (b : Symbol) × (ns : List Symbol) × Before st a (t ∷ b ∷ ns) × At_head st × (sort_of t.kind ≡ Some s) × (position_of t ≡ l) × (b.kind ≡ k.SectionOpen) × ItemsThen is ns z
Before (at_sign l s is n st) a z = (t : Symbol) × (b : Symbol) × (ns : List Symbol) × (m : Symbol) × Before st a (t ∷ b ∷ ns) × At_head st × (sort_of t.kind ≡ Some s) × (position_of t ≡ l) × (b.kind ≡ k.SectionOpen) × ItemsThen is ns (m ∷ z) × SpellsName n.at n.letters m
Before (at_goto l st) a z = (t : Symbol) × (Before st a (t ∷ z) × Ready st) × (t.kind ≡ k.Goto) × (position_of t ≡ l)
Before (at_for l st) a z = (t : Symbol) × (Before st a (t ∷ z) × Ready st) × (t.kind ≡ k.For) × (position_of t ≡ l)
Before (at_forward l n st) a z = (t : Symbol) × (m : Symbol) × (Before st a (t ∷ m ∷ z) × Ready st) × (t.kind ≡ k.For) × (position_of t ≡ l) × SpellsName n.at n.letters m
Before (at_default l st) a z = (t : Symbol) × (Before st a (t ∷ z) × Ready st) × (t.kind ≡ k.Default) × (position_of t ≡ l)
Before (in_parens l st) a z = (t : Symbol) × Before st a (t ∷ z) × (t.kind ≡ k.Open) × (position_of t ≡ l)
Before (in_unary l p st) a z = (t : Symbol) × Before st a (t ∷ z) × (prefix_of t.kind ≡ Some p) × (position_of t ≡ l)
Before (in_binary q s x st) a z = (ms : List Symbol) × (t : Symbol) × Before st a ms × (infix_of t.kind ≡ Some q) × (position_of t ≡ s) × (row q ≤ limit st) × Reads (left q) x ms (t ∷ z)
Before (in_chain q s x b st) a z = (ms : List Symbol) × (t : Symbol) × Before st a ms × (infix_of t.kind ≡ Some q) × (position_of t ≡ s) × (6 ≤ limit st) × (is_relation q ≡ true) × (last x ≡ Some b) × Reads 6 x ms (t ∷ z)
Before (in_then s c st) a z = (ms : List Symbol) × (t : Symbol) × Before st a ms × (t.kind ≡ k.Arrow) × (position_of t ≡ s) × (12 ≤ limit st) × Reads 11 c ms (t ∷ z)
Before (in_else s c x st) a z = (ms : List Symbol) × (t : Symbol) × (ns : List Symbol) × (d : Symbol) × Before st a ms × (t.kind ≡ k.Arrow) × (position_of t ≡ s) × (12 ≤ limit st) × Reads 11 c ms (t ∷ ns) × (d.kind ≡ k.Comma) × Reads 12 x ns (d ∷ z)
Before (in_args s f es st) a z = (ms : List Symbol) × (t : Symbol) × (ns : List Symbol) × Before st a ms × (t.kind ≡ k.Open) × (position_of t ≡ s) × Reads 0 f ms (t ∷ ns) × Commas es ns z
Before (in_table l es st) a z = (t : Symbol) × (ns : List Symbol) × Before st a (t ∷ ns) × (t.kind ≡ k.Table) × (position_of t ≡ l) × Commas es ns z
Before (in_start st) a z = Before st a z × Ready st
Before (in_dests xs st) a z = (ms : List Symbol) × (Before st a ms × Ready st) × Commas xs ms z
Before (in_values xs ys st) a z = (ms : List Symbol) × (t : Symbol) × (ns : List Symbol) × (Before st a ms × Ready st) × (t.kind ≡ k.Assign) × Each xs ms (t ∷ ns) × Commas ys ns z
Before (in_guard gd l st) a z = (t : Symbol) × (Before st a (t ∷ z) × Ready st) × (guard_of t.kind ≡ Some gd) × (position_of t ≡ l)
Before (in_test l st) a z = (t : Symbol) × (Before st a (t ∷ z) × Ready st) × (t.kind ≡ k.Test) × (position_of t ≡ l)
Before (in_result l st) a z = (t : Symbol) × (Before st a (t ∷ z) × Ready st) × (t.kind ≡ k.ResultIs) × (position_of t ≡ l)
Before (in_while b c st) a z = (ms : List Symbol) × (t : Symbol) × (Before st a ms × Ready st) × (t.kind ≡ repeats_while b) × Filled c × Does c ms (t ∷ z)
Before (in_from l n st) a z = (t : Symbol) × (m : Symbol) × (q : Symbol) × (Before st a (t ∷ m ∷ q ∷ z) × Ready st) × (t.kind ≡ k.For) × (position_of t ≡ l) × SpellsName n.at n.letters m × (q.kind ≡ k.Equal)
Before (in_to l n x st) a z = (t : Symbol) × (m : Symbol) × (q : Symbol) × (ms : List Symbol) × (o : Symbol) × (Before st a (t ∷ m ∷ q ∷ ms) × Ready st) × (t.kind ≡ k.For) × (position_of t ≡ l) × SpellsName n.at n.letters m × (q.kind ≡ k.Equal) × Reads 12 x ms (o ∷ z) × (o.kind ≡ k.To)
Before (in_by l n x y st) a z = (t : Symbol) × (m : Symbol) × (q : Symbol) × (ms : List Symbol) × (o : Symbol) × (ns : List Symbol) × (b : Symbol) × (Before st a (t ∷ m ∷ q ∷ ms) × Ready st) × (t.kind ≡ k.For) × (position_of t ≡ l) × SpellsName n.at n.letters m × (q.kind ≡ k.Equal) × Reads 12 x ms (o ∷ ns) × (o.kind ≡ k.To) × Reads 12 y ns (b ∷ z) × (b.kind ≡ k.By)
Before (in_item l s is n st) a z = (t : Symbol) × (b : Symbol) × (ns : List Symbol) × (m : Symbol) × (q : Symbol) × Before st a (t ∷ b ∷ ns) × At_head st × (sort_of t.kind ≡ Some s) × (position_of t ≡ l) × (b.kind ≡ k.SectionOpen) × ItemsThen is ns (m ∷ q ∷ z) × SpellsName n.at n.letters m × ((q.kind ≡ k.Equal) ⊎ (q.kind ≡ k.Colon))
Before (in_function n fs st) a z = (ms : List Symbol) × (ns : List Symbol) × (t : Symbol) × Before st a ms × Procedure n ms ns × Formals fs ns (t ∷ z) × (t.kind ≡ k.Equal)
Before (in_value xs is st) a z = (ms : List Symbol) × (t : Symbol) × (ns : List Symbol) × Before st a ms × (inside st ≡ true) × (t.kind ≡ k.Equal) × Names xs ms (t ∷ ns) × StartsThen is ns z
Before (in_vector l xs is st) a z = (ms : List Symbol) × (t : Symbol) × (ns : List Symbol) × (v : Symbol) × Before st a ms × (inside st ≡ true) × (t.kind ≡ k.Equal) × Names xs ms (t ∷ ns) × StartsThen is ns (v ∷ z) × (v.kind ≡ k.Vec) × (position_of v ≡ l)
Before (in_valof l st) a z = (t : Symbol) × Before st a (t ∷ z) × (t.kind ≡ k.Valof) × (position_of t ≡ l)
Before (in_label l x st) a z = (t : Symbol) × (d : Symbol) × (Before st a (t ∷ d ∷ z) × Ready st) × SpellsName l x t × (d.kind ≡ k.Colon)
Before (in_guarded gd l e st) a z = (t : Symbol) × (ms : List Symbol) × (d : Symbol) × (Before st a (t ∷ ms) × Ready st) × (guard_of t.kind ≡ Some gd) × (position_of t ≡ l) × Reads 12 e ms (d ∷ z) × (d.kind ≡ sign_of gd)
Before (in_default l st) a z = (t : Symbol) × (d : Symbol) × (Before st a (t ∷ d ∷ z) × Ready st) × (t.kind ≡ k.Default) × (position_of t ≡ l) × (d.kind ≡ k.Colon)
Before (in_do l e st) a z = (t : Symbol) × (ms : List Symbol) × (d : Symbol) × (Before st a (t ∷ ms) × Ready st) × (t.kind ≡ k.Test) × (position_of t ≡ l) × Reads 12 e ms (d ∷ z) × (d.kind ≡ k.Do)
Before (in_or l e c st) a z = (t : Symbol) × (ms : List Symbol) × (d : Symbol) × (ns : List Symbol) × (o : Symbol) × (Before st a (t ∷ ms) × Ready st) × (t.kind ≡ k.Test) × (position_of t ≡ l) × Reads 12 e ms (d ∷ ns) × (d.kind ≡ k.Do) × Does c ns (o ∷ z) × Full c (o ∷ z) × (o.kind ≡ k.Or)
Before (in_for l n x y none st) a z = (t : Symbol) × (m : Symbol) × (q : Symbol) × (ms : List Symbol) × (o : Symbol) × (ns : List Symbol) × (d : Symbol) × (Before st a (t ∷ m ∷ q ∷ ms) × Ready st) × (t.kind ≡ k.For) × (position_of t ≡ l) × SpellsName n.at n.letters m × (q.kind ≡ k.Equal) × Reads 12 x ms (o ∷ ns) × (o.kind ≡ k.To) × Reads 12 y ns (d ∷ z) × (d.kind ≡ k.Do)
Before (in_for l n x y (more h none) st) a z = (t : Symbol) × (m : Symbol) × (q : Symbol) × (ms : List Symbol) × (o : Symbol) × (ns : List Symbol) × (b : Symbol) × (rs : List Symbol) × (d : Symbol) × (Before st a (t ∷ m ∷ q ∷ ms) × Ready st) × (t.kind ≡ k.For) × (position_of t ≡ l) × SpellsName n.at n.letters m × (q.kind ≡ k.Equal) × Reads 12 x ms (o ∷ ns) × (o.kind ≡ k.To) × Reads 12 y ns (b ∷ rs) × (b.kind ≡ k.By) × Reads 12 h rs (d ∷ z) × (d.kind ≡ k.Do)
Before (in_for l n x y (more h (more i hs)) st) a z = ⊥
Before (in_routine n fs st) a z = (ms : List Symbol) × (ns : List Symbol) × (t : Symbol) × Before st a ms × Procedure n ms ns × Formals fs ns (t ∷ z) × (t.kind ≡ k.Be)

-- a command may be missing
abbrev pub May_miss : Stack → Type 0
May_miss (in_label l x st) = Unit {0}
May_miss (in_guarded g.Case l e st) = Unit {0}
May_miss (in_default l st) = Unit {0}
May_miss _ = ⊥

abbrev pub Inv : State → List Symbol → List Symbol → Type 0
Inv (want st) a us = Before st a us
Inv (have st e) a us = (ms : List Symbol) × Before st a ms × Reads 0 e ms us
Inv (begin st) a us = Before st a us × Ready st
Inv (maybe st) a us = Before st a us × May_miss st
Inv (did st c) a us = (ms : List Symbol) × (Before st a ms × Ready st) × Filled c × Does c ms us
Inv (due st) a us = Before st a us

pub mono : (j m : ℕ) (e : Expression) (ts us : List Symbol) → j ≤ m → Reads j e ts us → Reads m e ts us
mono j m (unary l p x) ts us le h = (omega arith, h.1, h.2, h.3, h.4, h.5, h.6, h.7)
mono j m (binary l o.Both s x (binary n q i b c)) ts us le (inl h) = inl (omega arith, h.1, h.2, h.3, h.4, h.5, h.6, h.7, h.8)
mono j m (binary l o.Both s x (binary n q i b c)) ts us le (inr h) = inr (omega arith, h.1, h.2, h.3, h.4, h.5, h.6, h.7, h.8, h.9, h.10, h.11, h.12)
mono j m (binary l q s a b) ts us le h = (omega arith, h.1, h.2, h.3, h.4, h.5, h.6, h.7, h.8)
mono j m (choice l s c a b) ts us le h = (omega arith, h.1, h.2, h.3, h.4, h.5, h.6, h.7, h.8, h.9, h.10, h.11, h.12)
mono j m (apply l s f none) ts us le h = h
mono j m _ ts us le h = h

pub split : (b : Bool) (x y : Option State) (n : State) → cond b x y ≡ Some n → ((b ≡ true) × (x ≡ Some n)) ⊎ ((b ≡ false) × (y ≡ Some n))
split b x y n h1 = grind arith

abbrev pub some_state : State → Option State
some_state x = Some x

pub to : (x n : State) (a us : List Symbol) → some_state x ≡ Some n → Inv x a us → Inv n a us
to x n a us h i = let P : State → Type 0 = λ y. Inv y a us in let e : x ≡ n = cc in subst P e i

pub if_at : (b : Bool) (x n : State) (a us : List Symbol) → if_is b x ≡ Some n → (b ≡ true → Inv x a us) → Inv n a us
if_at b x n a us h1 h2 = grind (arith, to)

-- the rows that the expression has reached, before a symbol
pub record Reached (j : ℕ) (e : Expression) (ms us : List Symbol) (t : Symbol) : Type 0 where
  pub reads : Reads j e ms (t ∷ us)
  pub below : (m : ℕ) → m < j → goes m t.kind ≡ false
  pub top : (j ≤ 11) ⊎ (goes 12 t.kind ≡ false)

pub behind_ok : (p : Prefix) → (1 ≤ following p) × (following p ≤ 12)
behind_ok p = grind arith

pub inner_ok : (q : Operator) → (1 ≤ inner q) × (inner q ≤ 12)
inner_ok q = grind arith

pub row_11 : (q : Operator) → row q ≤ 11
row_11 q = grind arith

lower : (l s : ℕ) (q : Operator) (a b : Expression) → row q ≤ 6 → last (binary l q s a b) ≡ None → row q ≤ 5
lower l s q a b h1 h2 = grind arith

lowers : (n m r : ℕ) → m ≤ n → nat_lt r n ≡ false → nat_lt r m ≡ false
lowers n m r le h = le-ltb r m (omega (arith, ltb-false r n h))

pub falls : (m n : ℕ) (t : Kind) → m ≤ n → goes n t ≡ false → goes m t ≡ false
falls m n t h1 h2 = grind (arith, lowers)

pub limit_ok : (st : Stack) → (1 ≤ limit st) × (limit st ≤ 12)
limit_ok st = grind (arith, behind_ok, inner_ok)

-- with a parenthesis the rows are 0
pub zero_row : (j : ℕ) (e : Expression) (ms us : List Symbol) (t : Symbol) → Reached j e ms us t → t.kind ≡ k.Open → Reads 0 e ms (t ∷ us)
zero_row zero e ms us t r h = r.reads
zero_row (suc j) e ms us t r h = let f = ap (goes 0) h in let w = r.below 0 (omega arith) in absurd cc

pub one_less : (e : Expression) (ts us : List Symbol) → Reads 6 e ts us → last e ≡ None → Reads 5 e ts us
one_less (unary l p x) ts us h none_is = (omega arith, h.1, h.2, h.3, h.4, h.5, h.6, h.7)
one_less (binary l o.Both s x (binary m q n b c)) ts us (inl h) none_is = absurd (omega arith)
one_less (binary l o.Both s x (binary m q n b c)) ts us (inr h) none_is = let e : cond (is_relation q) (Some c) None ≡ Some c = rw h.8 refl in absurd cc
one_less (binary l q s a b) ts us h none_is = (lower l s q a b h.0 none_is, h.1, h.2, h.3, h.4, h.5, h.6, h.7, h.8)
one_less (choice l s c a b) ts us h none_is = absurd (omega arith)
one_less (apply l s f none) ts us h none_is = h
one_less _ ts us h none_is = h

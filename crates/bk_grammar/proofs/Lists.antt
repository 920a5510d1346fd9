-- What is read is in the grammar: lists, names and places.
use Rattle.bk_grammar.proofs.Terms.{◌≡◌, ℕ, Bool, true, false, List, [], ◌∷◌, ◌++◌, refl, sym, ap, subst, ◌∙◌, ◌⊎◌, inl, inr, Kind as k, Symbol, Mention, Expression, Expressions, Command, Commands, Declaration, Declarations, Items, Definition, Definitions, Starts, none, more, block, no_commands, also, no_declarations, declare, no_items, item, no_definitions, define, no_starts, value, vector, is_and, goes, Fails, Stops, SpellsName, Names, Formals, Semis, Full, Reads, Each, Does, Body, Parted, Heads, Declares, Listed, Defined, Defines, Started, each_then, commands_then, declarations_then, items_then, definitions_then, starts_then, position_of}
use Rattle.bk_grammar.proofs.Before.{Commas, NamesThen, StartsThen, ItemsThen, DefinitionsThen, PartedThen, BodyThen, Some_ds, Inside}

pub semis_refl : (a : List Symbol) → Semis a a
semis_refl [] = refl
semis_refl (x ∷ xs) = inl refl

pub semis_snoc : (a : List Symbol) (t : Symbol) (us : List Symbol) → Semis a (t ∷ us) → t.kind ≡ k.Semicolon → Semis a us
semis_snoc [] t us h is = absurd cc
semis_snoc (x ∷ xs) t us (inl h) is = let e : x ≡ t = cc in let f : xs ≡ us = cc in let P : List Symbol → Type 0 = λ z. Semis xs z in inr (ap (λ y. y.kind) e ∙ is, subst P f (semis_refl xs))
semis_snoc (x ∷ xs) t us (inr h) is = inr (h.0, semis_snoc xs t us h.1 is)

pub heads_snoc : (b : Bool) (ds : Declarations) (d : Declaration) (a ys m z : List Symbol) → Heads b ds a ys → Semis ys m → Declares b d m z → Heads b (declarations_then ds (declare d no_declarations)) a z
heads_snoc b no_declarations d a ys m z h s r = let P : List Symbol → Type 0 = λ y. Semis y m in (m, z, subst P (sym h) s, r, refl)
heads_snoc b (declare e ds) d a ys m z h s r = (h.0, h.1, h.2, h.3, heads_snoc b ds d h.1 ys m z h.4 s r)

pub some_then : (ds : Declarations) (d : Declaration) → Some_ds (declarations_then ds (declare d no_declarations))
some_then no_declarations d = tt
some_then (declare e ds) d = tt

pub parted_semi : (cs : Commands) (a : List Symbol) (t : Symbol) (us : List Symbol) → PartedThen cs a (t ∷ us) → t.kind ≡ k.Semicolon → PartedThen cs a us
parted_semi no_commands a t us h is = (h.0, h.1, h.2, h.3, semis_snoc h.1 t us h.4 is)
parted_semi (also c cs) a t us h is = (h.0, h.1, h.2, h.3, h.4, h.5, h.6, h.7, h.8, parted_semi cs h.3 t us h.9 is)

pub body_semi : (cs : Commands) (a : List Symbol) (t : Symbol) (us : List Symbol) → BodyThen cs a (t ∷ us) → t.kind ≡ k.Semicolon → BodyThen cs a us
body_semi no_commands a t us h is = semis_snoc a t us h is
body_semi (also c cs) a t us h is = (h.0, h.1, h.2, h.3, h.4, parted_semi cs h.1 t us h.5 is)

pub parted_shut : (cs : Commands) (a z : List Symbol) → PartedThen cs a z → Parted cs a z
parted_shut no_commands a z h = let P : List Symbol → Type 0 = λ y. Semis y z in subst P (sym h.2) (inr (h.3, h.4))
parted_shut (also c cs) a z h = (h.0, h.1, h.2, h.3, h.4, h.5, h.6, h.7, h.8, parted_shut cs h.3 z h.9)

pub body_shut : (cs : Commands) (a z : List Symbol) → BodyThen cs a z → Body cs a z
body_shut no_commands a z h = h
body_shut (also c cs) a z h = (h.0, h.1, h.2, h.3, h.4, parted_shut cs h.1 z h.5)

-- a command more, which the bracket follows
pub parted_more : (cs : Commands) (c : Command) (a z w : List Symbol) → PartedThen cs a z → Does c z w → Full c w → Parted (commands_then cs (also c no_commands)) a w
parted_more no_commands c a z w h does full = (h.0, h.1, z, w, h.2, h.3, h.4, does, full, semis_refl w)
parted_more (also d cs) c a z w h does full = (h.0, h.1, h.2, h.3, h.4, h.5, h.6, h.7, h.8, parted_more cs c h.3 z w h.9 does full)

pub body_more : (cs : Commands) (c : Command) (a z w : List Symbol) → BodyThen cs a z → Does c z w → Full c w → Body (commands_then cs (also c no_commands)) a w
body_more no_commands c a z w h does full = (z, w, h, does, full, semis_refl w)
body_more (also d cs) c a z w h does full = (h.0, h.1, h.2, h.3, h.4, parted_more cs c h.1 z w h.5 does full)

-- a command more, which a semicolon follows
pub parted_then : (cs : Commands) (c : Command) (a z : List Symbol) (t : Symbol) (us : List Symbol) → PartedThen cs a z → Does c z (t ∷ us) → Full c (t ∷ us) → t.kind ≡ k.Semicolon → PartedThen (commands_then cs (also c no_commands)) a us
parted_then no_commands c a z t us h does full is = (h.0, h.1, z, t ∷ us, h.2, h.3, h.4, does, full, (t, us, refl, is, semis_refl us))
parted_then (also d cs) c a z t us h does full is = (h.0, h.1, h.2, h.3, h.4, h.5, h.6, h.7, h.8, parted_then cs c h.3 z t us h.9 does full is)

pub body_then : (cs : Commands) (c : Command) (a z : List Symbol) (t : Symbol) (us : List Symbol) → BodyThen cs a z → Does c z (t ∷ us) → Full c (t ∷ us) → t.kind ≡ k.Semicolon → BodyThen (commands_then cs (also c no_commands)) a us
body_then no_commands c a z t us h does full is = (z, t ∷ us, h, does, full, (t, us, refl, is, semis_refl us))
body_then (also d cs) c a z t us h does full is = (h.0, h.1, h.2, h.3, h.4, parted_then cs c h.1 z t us h.5 does full is)

-- the inside of a block, one symbol on
pub inside_semi : (f : Bool) (ds : Declarations) (cs : Commands) (a : List Symbol) (t : Symbol) (us : List Symbol) → Inside f ds cs a (t ∷ us) → t.kind ≡ k.Semicolon → Inside true ds cs a us
inside_semi false no_declarations no_commands a t us h is = absurd h.1
inside_semi false (declare d ds) no_commands a t us h is = (t ∷ us, h.0, (t, us, refl, is, semis_refl us))
inside_semi false ds (also c cs) a t us h is = absurd h
inside_semi true no_declarations cs a t us h is = body_semi cs a t us h is
inside_semi true (declare d ds) cs a t us h is = (h.0, h.1, parted_semi cs h.0 t us h.2 is)

pub inside_declare : (f : Bool) (ds : Declarations) (d : Declaration) (a m z : List Symbol) → Inside f ds no_commands a m → Declares true d m z → Inside false (declarations_then ds (declare d no_declarations)) no_commands a z
inside_declare false ds d a m z h r = (heads_snoc true ds d a m m z h.0 (semis_refl m) r, some_then ds d)
inside_declare true no_declarations d a m z h r = (heads_snoc true no_declarations d a a m z refl h r, some_then no_declarations d)
inside_declare true (declare e ds) d a m z h r =
    let P : List Symbol → Type 0 = λ y. Semis y m in
    (heads_snoc true (declare e ds) d a h.0 m z h.1 (subst P (sym h.2.2) (inr (h.2.3, h.2.4))) r, some_then (declare e ds) d)

pub inside_shut : (l : ℕ) (f : Bool) (ds : Declarations) (cs : Commands) (t : Symbol) (ns : List Symbol) (c : Symbol) (us : List Symbol) → t.kind ≡ k.SectionOpen → position_of t ≡ l → c.kind ≡ k.SectionClose → Inside f ds cs ns (c ∷ us) → Does (block l ds cs) (t ∷ ns) us
inside_shut l false no_declarations no_commands t ns c us o at x h = absurd h.1
inside_shut l false (declare d ds) no_commands t ns c us o at x h = (t, ns, c ∷ us, c, refl, o, at, x, h.0, semis_refl (c ∷ us))
inside_shut l false ds (also a cs) t ns c us o at x h = absurd h
inside_shut l true no_declarations cs t ns c us o at x h = (t, ns, c, refl, o, at, x, body_shut cs ns (c ∷ us) h)
inside_shut l true (declare d ds) cs t ns c us o at x h = (t, ns, h.0, c, refl, o, at, x, h.1, parted_shut cs h.0 (c ∷ us) h.2)

-- a command more in a block, and the bracket
pub inside_more : (l : ℕ) (ds : Declarations) (cs : Commands) (a : Command) (t : Symbol) (ns ms : List Symbol) (c : Symbol) (us : List Symbol) → t.kind ≡ k.SectionOpen → position_of t ≡ l → c.kind ≡ k.SectionClose → Inside true ds cs ns ms
    → Does a ms (c ∷ us) → Full a (c ∷ us) → Does (block l ds (commands_then cs (also a no_commands))) (t ∷ ns) us
inside_more l no_declarations cs a t ns ms c us o at x h does full = (t, ns, c, refl, o, at, x, body_more cs a ns ms (c ∷ us) h does full)
inside_more l (declare d ds) cs a t ns ms c us o at x h does full = (t, ns, h.0, c, refl, o, at, x, h.1, parted_more cs a h.0 ms (c ∷ us) h.2 does full)

pub inside_then : (ds : Declarations) (cs : Commands) (a : Command) (ns ms : List Symbol) (t : Symbol) (us : List Symbol) → Inside true ds cs ns ms → Does a ms (t ∷ us) → Full a (t ∷ us) → t.kind ≡ k.Semicolon → Inside true ds (commands_then cs (also a no_commands)) ns us
inside_then no_declarations cs a ns ms t us h does full is = body_then cs a ns ms t us h does full is
inside_then (declare d ds) cs a ns ms t us h does full is = (h.0, h.1, parted_then cs a h.0 ms t us h.2 does full is)

pub definitions_snoc : (b : Bool) (ds : Definitions) (d : Definition) (a m : List Symbol) (t : Symbol) (us : List Symbol) → DefinitionsThen b ds a m → Defines b d m (t ∷ us) → t.kind ≡ k.And → DefinitionsThen b (definitions_then ds (define d no_definitions)) a us
definitions_snoc b no_definitions d a m t us h r is = let P : List Symbol → Type 0 = λ y. Defines b d y (t ∷ us) in (t, us, is, subst P (sym h) r, refl)
definitions_snoc b (define e ds) d a m t us h r is = (h.0, h.1, h.2, h.3, definitions_snoc b ds d h.1 m t us h.4 r is)

pub definitions_all : (b : Bool) (ds : Definitions) (d : Definition) (a m z : List Symbol) → DefinitionsThen b ds a m → Defines b d m z → Fails is_and z → Defined b (definitions_then ds (define d no_definitions)) a z
definitions_all b no_definitions d a m z h r f = let P : List Symbol → Type 0 = λ y. Defines b d y z in (subst P (sym h) r, f)
definitions_all b (define e no_definitions) d a m z h r f = (h.0, h.1, h.2, h.3, definitions_all b no_definitions d h.1 m z h.4 r f)
definitions_all b (define e (define g ds)) d a m z h r f = (h.0, h.1, h.2, h.3, definitions_all b (define g ds) d h.1 m z h.4 r f)

pub commas_snoc : (es : Expressions) (e : Expression) (a y : List Symbol) (d : Symbol) (z : List Symbol) → Commas es a y → Reads 12 e y (d ∷ z) → d.kind ≡ k.Comma → Commas (each_then es (more e none)) a z
commas_snoc none e a y d z h r c = let P : List Symbol → Type 0 = λ x. Reads 12 e x (d ∷ z) in (d, z, c, subst P (sym h) r, refl)
commas_snoc (more x es) e a y d z h r c = (h.0, h.1, h.2, h.3, commas_snoc es e h.1 y d z h.4 r c)

pub each_of : (es : Expressions) (e : Expression) (a y us : List Symbol) → Commas es a y → Reads 12 e y us → Stops 12 us → Each (each_then es (more e none)) a us
each_of none e a y us h r stops = let P : List Symbol → Type 0 = λ x. Reads 12 e x us in (subst P (sym h) r, stops)
each_of (more x none) e a y us h r stops = (h.0, h.1, h.2, h.3, each_of none e h.1 y us h.4 r stops)
each_of (more x (more z es)) e a y us h r stops = (h.0, h.1, h.2, h.3, each_of (more z es) e h.1 y us h.4 r stops)

pub names_snoc : (xs : List Mention) (x : Mention) (a : List Symbol) (t : Symbol) (z : List Symbol) → NamesThen xs a (t ∷ z) → SpellsName x.at x.letters t → Names (xs ++ x ∷ []) a z
names_snoc [] x a t z h r = (t, h, r)
names_snoc (y ∷ []) x a t z h r = (h.0, h.1, h.2, h.3, h.4, h.5, names_snoc [] x h.2 t z h.6 r)
names_snoc (y ∷ (w ∷ ys)) x a t z h r = (h.0, h.1, h.2, h.3, h.4, h.5, names_snoc (w ∷ ys) x h.2 t z h.6 r)

pub names_comma : (xs : List Mention) (a : List Symbol) (d : Symbol) (z : List Symbol) → Names xs a (d ∷ z) → d.kind ≡ k.Comma → NamesThen xs a z
names_comma [] a d z h c = absurd h
names_comma (x ∷ []) a d z h c = (h.0, d, z, h.1, h.2, c, refl)
names_comma (x ∷ (y ∷ xs)) a d z h c = (h.0, h.1, h.2, h.3, h.4, h.5, names_comma (y ∷ xs) h.2 d z h.6 c)

pub formals_of : (xs : List Mention) (a : List Symbol) (c : Symbol) (z : List Symbol) → Names xs a (c ∷ z) → c.kind ≡ k.Close → Formals xs a z
formals_of [] a c z h is = absurd h
formals_of (x ∷ xs) a c z h is = (c, is, h)

pub items_snoc : (xs : Items) (l : ℕ) (x : List ℕ) (e : Expression) (a : List Symbol) (n q : Symbol) (ms : List Symbol) (d : Symbol) (us : List Symbol) → ItemsThen xs a (n ∷ q ∷ ms) → SpellsName l x n → (q.kind ≡ k.Equal) ⊎ (q.kind ≡ k.Colon)
    → Reads 12 e ms (d ∷ us) → d.kind ≡ k.Semicolon → ItemsThen (items_then xs (item l x e no_items)) a us
items_snoc no_items l x e a n q ms d us h s i r c = (n, q, ms, d, us, us, h, s, i, r, c, semis_refl us, refl)
items_snoc (item m y f xs) l x e a n q ms d us h s i r c = (h.0, h.1, h.2, h.3, h.4, h.5, h.6, h.7, h.8, h.9, h.10, h.11, items_snoc xs l x e h.5 n q ms d us h.12 s i r c)

pub items_last : (xs : Items) (l : ℕ) (x : List ℕ) (e : Expression) (a : List Symbol) (n q : Symbol) (ms us : List Symbol) → ItemsThen xs a (n ∷ q ∷ ms) → SpellsName l x n → (q.kind ≡ k.Equal) ⊎ (q.kind ≡ k.Colon)
    → Reads 12 e ms us → Stops 12 us → Listed (items_then xs (item l x e no_items)) a us
items_last no_items l x e a n q ms us h s i r stops = (n, q, ms, us, h, s, i, r, stops, semis_refl us)
items_last (item m y f no_items) l x e a n q ms us h s i r stops = (h.0, h.1, h.2, h.3, h.4, h.5, h.6, h.7, h.8, h.9, h.10, h.11, items_last no_items l x e h.5 n q ms us h.12 s i r stops)
items_last (item m y f (item b c d xs)) l x e a n q ms us h s i r stops = (h.0, h.1, h.2, h.3, h.4, h.5, h.6, h.7, h.8, h.9, h.10, h.11, items_last (item b c d xs) l x e h.5 n q ms us h.12 s i r stops)

-- a semicolon or the bracket behind items of which the last has its semicolon
pub items_semi : (l : ℕ) (x : List ℕ) (e : Expression) (xs : Items) (a : List Symbol) (t : Symbol) (us : List Symbol) → ItemsThen (item l x e xs) a (t ∷ us) → t.kind ≡ k.Semicolon → ItemsThen (item l x e xs) a us
items_semi l x e no_items a t us h is = let P : List Symbol → Type 0 = λ z. Semis h.4 z in (h.0, h.1, h.2, h.3, h.4, us, h.6, h.7, h.8, h.9, h.10, semis_snoc h.4 t us (subst P h.12 h.11) is, refl)
items_semi l x e (item m y f xs) a t us h is = (h.0, h.1, h.2, h.3, h.4, h.5, h.6, h.7, h.8, h.9, h.10, h.11, items_semi m y f xs h.5 t us h.12 is)

pub items_shut : (l : ℕ) (x : List ℕ) (e : Expression) (xs : Items) (a z : List Symbol) → ItemsThen (item l x e xs) a z → Listed (item l x e xs) a z
items_shut l x e no_items a z h =
    let P : List Symbol → Type 0 = λ y. Semis h.4 y in
    let stops : goes 12 h.3.kind ≡ false = ap (goes 12) h.10 in
    (h.0, h.1, h.2, h.3 ∷ h.4, h.6, h.7, h.8, h.9, stops, inr (h.10, subst P h.12 h.11))
items_shut l x e (item m y f xs) a z h = (h.0, h.1, h.2, h.3, h.4, h.5, h.6, h.7, h.8, h.9, h.10, h.11, items_shut m y f xs h.5 z h.12)

pub value_snoc : (xs : Starts) (e : Expression) (a y : List Symbol) (d : Symbol) (z : List Symbol) → StartsThen xs a y → Reads 12 e y (d ∷ z) → d.kind ≡ k.Comma → StartsThen (starts_then xs (value e no_starts)) a z
value_snoc no_starts e a y d z h r c = let P : List Symbol → Type 0 = λ x. Reads 12 e x (d ∷ z) in (d, z, c, subst P (sym h) r, refl)
value_snoc (value x xs) e a y d z h r c = (h.0, h.1, h.2, h.3, value_snoc xs e h.1 y d z h.4 r c)
value_snoc (vector l x xs) e a y d z h r c = (h.0, h.1, h.2, h.3, h.4, h.5, h.6, h.7, h.8, value_snoc xs e h.3 y d z h.9 r c)

pub vector_snoc : (xs : Starts) (m : ℕ) (e : Expression) (a : List Symbol) (v : Symbol) (y : List Symbol) (d : Symbol) (z : List Symbol) → StartsThen xs a (v ∷ y) → v.kind ≡ k.Vec → position_of v ≡ m → Reads 12 e y (d ∷ z) → d.kind ≡ k.Comma → StartsThen (starts_then xs (vector m e no_starts)) a z
vector_snoc no_starts m e a v y d z h w i r c = (v, y, d, z, h, w, i, c, r, refl)
vector_snoc (value x xs) m e a v y d z h w i r c = (h.0, h.1, h.2, h.3, vector_snoc xs m e h.1 v y d z h.4 w i r c)
vector_snoc (vector l x xs) m e a v y d z h w i r c = (h.0, h.1, h.2, h.3, h.4, h.5, h.6, h.7, h.8, vector_snoc xs m e h.3 v y d z h.9 w i r c)

pub value_last : (xs : Starts) (e : Expression) (a y us : List Symbol) → StartsThen xs a y → Reads 12 e y us → Stops 12 us → Started (starts_then xs (value e no_starts)) a us
value_last no_starts e a y us h r s = let P : List Symbol → Type 0 = λ x. Reads 12 e x us in (subst P (sym h) r, s)
value_last (value x no_starts) e a y us h r s = (h.0, h.1, h.2, h.3, value_last no_starts e h.1 y us h.4 r s)
value_last (value x (value w xs)) e a y us h r s = (h.0, h.1, h.2, h.3, value_last (value w xs) e h.1 y us h.4 r s)
value_last (value x (vector l w xs)) e a y us h r s = (h.0, h.1, h.2, h.3, value_last (vector l w xs) e h.1 y us h.4 r s)
value_last (vector m x no_starts) e a y us h r s = (h.0, h.1, h.2, h.3, h.4, h.5, h.6, h.7, h.8, value_last no_starts e h.3 y us h.9 r s)
value_last (vector m x (value w xs)) e a y us h r s = (h.0, h.1, h.2, h.3, h.4, h.5, h.6, h.7, h.8, value_last (value w xs) e h.3 y us h.9 r s)
value_last (vector m x (vector l w xs)) e a y us h r s = (h.0, h.1, h.2, h.3, h.4, h.5, h.6, h.7, h.8, value_last (vector l w xs) e h.3 y us h.9 r s)

pub vector_last : (xs : Starts) (m : ℕ) (e : Expression) (a : List Symbol) (v : Symbol) (y us : List Symbol) → StartsThen xs a (v ∷ y) → v.kind ≡ k.Vec → position_of v ≡ m → Reads 12 e y us → Stops 12 us → Started (starts_then xs (vector m e no_starts)) a us
vector_last no_starts m e a v y us h w i r s = (v, y, h, w, i, r, s)
vector_last (value x no_starts) m e a v y us h w i r s = (h.0, h.1, h.2, h.3, vector_last no_starts m e h.1 v y us h.4 w i r s)
vector_last (value x (value q xs)) m e a v y us h w i r s = (h.0, h.1, h.2, h.3, vector_last (value q xs) m e h.1 v y us h.4 w i r s)
vector_last (value x (vector l q xs)) m e a v y us h w i r s = (h.0, h.1, h.2, h.3, vector_last (vector l q xs) m e h.1 v y us h.4 w i r s)
vector_last (vector n x no_starts) m e a v y us h w i r s = (h.0, h.1, h.2, h.3, h.4, h.5, h.6, h.7, h.8, vector_last no_starts m e h.3 v y us h.9 w i r s)
vector_last (vector n x (value q xs)) m e a v y us h w i r s = (h.0, h.1, h.2, h.3, h.4, h.5, h.6, h.7, h.8, vector_last (value q xs) m e h.3 v y us h.9 w i r s)
vector_last (vector n x (vector l q xs)) m e a v y us h w i r s = (h.0, h.1, h.2, h.3, h.4, h.5, h.6, h.7, h.8, vector_last (vector l q xs) m e h.3 v y us h.9 w i r s)

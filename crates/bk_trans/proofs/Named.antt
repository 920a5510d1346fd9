-- Filling gives the named tree: of a node that is sound, going on from what is told of it takes just the meanings and the words that
-- stand there, and gives its named tree.
use Rattle.bk_trans.specs.Program as t
use Rattle.bk_trans.specs.Filling as f
use Rattle.bk_trans.proofs.Asked.{Asked, for_value, for_truth, role, ◌≡◌, ℕ, ◌+◌, Bool, true, false, cond, Option, Some, None, List, [], ◌∷◌, ◌++◌, length, refl, sym, ap, ◌∙◌, false≢true, Mention, Expression, Expressions, Command, Commands, Declaration, Declarations, Items, Definition, Definitions, Starts, name, parens, unary, binary, choice, apply, valof, table, none, more, empty, assign, call, goto, label, case_of, default, when, test, while, for_loop, switch, result, simple, block, repeat, repeat_while, no_commands, also, constants, definitions, no_declarations, declare, no_items, item, routine, function, variables, no_definitions, define, no_starts, value, vector, at_expression, size, GLOBAL_NUMBER, VEC_NUMBER, Bound, Constant, Global, Static, Variable, Label, Enclosing, Role, Value, Address, Destination, Wrong, dynamic_name, label_not_here, not_assignable, no_result_or_return, global_out_of_range, vec_out_of_range, text_of, Binding, bound_in, bind, has_address, constant_word, kept, deeper, looping, switching, labelled, valued, called, outermost, labels_of, labels_of_each, with_formals, parenthesised, words_of_start, Spot, procedures_in, onward, past, numbered, following, after_each, after_done, after_declared, after_one_declared, after_one_defined, after_constant, symbols_each, beginning, Point, meaning, word, depth, at, deepest, without_depths, meanings_of, words_of, labels_in_scope, procedures_in_scope, place_after_one_defined, scope_after_one, place_after_one, scope_after, place_after_all, unless, used_at, gone_to, its_word, constant, each_constant, at_most, addressed, assigned, prefixed, depth_named, pushed, chosen_at, defaulted_at, single_at, each_of, one_of, manifest_items, static_items, global_items, its_meaning, its_global, its_frame, inside_procedure, procedure, reported, reported_each, reported_destinations, reported_done, reported_done_each, reported_declared, reported_one_declared, reported_defined, reported_one_defined, reported_started, reported_of, meanings, words, Usable, GoesTo, Callable, HasWord, HaveWords, ManifestsSound, StaticsSound, GlobalsSound, Sound, SoundEach, SoundDestinations, SoundDone, SoundDoneEach, SoundDeclared, SoundOneDeclared, SoundDefined, SoundOneDefined, SoundStarted, SoundSection, eq-eqb, Operator as o, Prefix as q, Simple, Simple as w, Sort as sort, constant_right, section_sound, Supply, Filled, filled, meant, worth, words_named, step_named, statics_named, term_named, terms_named, condition_named, lvalue_named, lvalues_named, command_named, commands_named, declarations_named, declaration_named, definitions_named, definition_named, starts_named, named_tree, FillingNames}

-- the meanings and words of these points, and then those
abbrev given : List Point → Supply → Supply
given [] g = g
given (meaning b ∷ xs) g = record { meanings = b ∷ (given xs g).meanings; words = (given xs g).words }
given (word v ∷ xs) g = record { meanings = (given xs g).meanings; words = v ∷ (given xs g).words }
given (_ ∷ xs) g = given xs g

abbrev one_meaning : Bound → Supply → Supply
one_meaning b g = record { meanings = b ∷ g.meanings; words = g.words }

abbrev one_word : ℕ → Supply → Supply
one_word v g = record { meanings = g.meanings; words = v ∷ g.words }

both : (xs ys : List Point) (g : Supply) → given (xs ++ ys) g ≡ given xs (given ys g)
both [] ys g = refl
both (meaning b ∷ xs) ys g = ap (one_meaning b) (both xs ys g)
both (word v ∷ xs) ys g = ap (one_word v) (both xs ys g)
both (_ ∷ xs) ys g = both xs ys g

flat : (xs : List Point) (g : Supply) → given (without_depths xs) g ≡ given xs g
flat [] g = refl
flat (meaning b ∷ xs) g = ap (one_meaning b) (flat xs g)
flat (word v ∷ xs) g = ap (one_word v) (flat xs g)
flat (_ ∷ xs) g = flat xs g

abbrev from_nothing : Supply
from_nothing = record { meanings = []; words = [] }

-- points without a meaning and without a word
abbrev Quiet : List Point → Type 0
Quiet xs = (g : Supply) → given xs g ≡ g

skip : (xs ys : List Point) (g : Supply) → Quiet xs → given (xs ++ ys) g ≡ given ys g
skip xs ys g quiet = both xs ys g ∙ quiet (given ys g)

skip_last : (xs ys : List Point) (g : Supply) → Quiet ys → given (xs ++ ys) g ≡ given xs g
skip_last xs ys g quiet = both xs ys g ∙ ap (given xs) (quiet g)

quiet_unless : (x : Bool) (n l : ℕ) (y : Wrong) → Quiet (unless x (at n l y))
quiet_unless true n l y g = refl
quiet_unless false n l y g = refl

quiet_where : (x : Bool) (n l : ℕ) (y : Wrong) → Quiet (cond x (at n l y) [])
quiet_where true n l y g = refl
quiet_where false n l y g = refl

quiet_depth : (x : Bool) (d : ℕ) → Quiet (unless x (depth d ∷ []))
quiet_depth true d g = refl
quiet_depth false d g = refl

quiet_depth_named : (r : Role) (p : Enclosing) (y : Option Bound) → Quiet (depth_named r p y)
quiet_depth_named (Destination x l) p y g = quiet_depth (has_address y) (p.depth + 1) g
quiet_depth_named _ p y g = refl

quiet_at_most : (most n l : ℕ) (x : Wrong) (y : Option ℕ) → Quiet (at_most most n l x y)
quiet_at_most most n l x None g = refl
quiet_at_most most n l x (Some v) g = quiet_where _ n l x g

quiet_chosen : (a : Option ℕ) (n l : ℕ) (y : Option ℕ) → Quiet (chosen_at a n l y)
quiet_chosen None n l y g = refl
quiet_chosen (Some m) n l None g = refl
quiet_chosen _ n l _ g = refl

quiet_defaulted : (a : Option ℕ) (n l : ℕ) → Quiet (defaulted_at a n l)
quiet_defaulted None n l g = refl
quiet_defaulted (Some m) n l g = refl

quiet_single : (p : Enclosing) (n l : ℕ) (x : Simple) → Quiet (single_at p n l x)
quiet_single p n l w.EndCase g = quiet_unless p.in_switch n l _ g
quiet_single p n l w.Return g = quiet_unless p.in_routine n l _ g
quiet_single p n l w.Finish g = refl
quiet_single p n l _ g = quiet_unless p.in_loop n l _ g

quiet_names : (m n : ℕ) (xs : List Mention) → Quiet (each_of m n xs)
quiet_names m n [] g = refl
quiet_names m n (x ∷ xs) g = quiet_names m (n + 1) xs g

quiet_global : (n l : ℕ) (x : List ℕ) (y : Option Bound) → Quiet (its_global n l x y)
quiet_global n l x (Some (Global None)) g = refl
quiet_global n l x _ g = refl

-- reading what these points give, and then others, gives this part and leaves the others
record Fills {A : Type 0} (x : Supply → Filled A) (xs : List Point) (a : A) : Type 0 where
  at_all : (g : Supply) → x (given xs g) ≡ filled a g

-- parts made of parts, one after another, and points that give nothing
one_part : {A B : Type 0} (h : A → B) {x : Supply → Filled A} {xs : List Point} {a : A} → Fills x xs a → Fills (λ v. f.one h (x v)) xs (h a)
one_part h first = record { at_all = λ g. ap (f.one h) (first.at_all g) }

two_parts : {A B C : Type 0} (h : A → B → C) {x : Supply → Filled A} {y : Supply → Filled B} {xs ys : List Point} {a : A} {b : B}
    → Fills x xs a → Fills y ys b → Fills (λ v. f.two h (x v) y) (xs ++ ys) (h a b)
two_parts h {x} {y} {xs} {ys} {a} first second = record {
  at_all = λ g. ap (λ v. f.two h (x v) y) (both xs ys g) ∙ ap (λ v. f.two h v y) (first.at_all (given ys g)) ∙ ap (f.one (h a)) (second.at_all g);
}

three_parts : {A B C D : Type 0} (h : A → B → C → D) {x : Supply → Filled A} {y : Supply → Filled B} {z : Supply → Filled C} {xs ys zs : List Point} {a : A} {b : B} {c : C}
    → Fills x xs a → Fills y ys b → Fills z zs c → Fills (λ v. f.three h (x v) y z) (xs ++ ys ++ zs) (h a b c)
three_parts h {x} {y} {z} {xs} {ys} {zs} {a} {b} first second third = record {
  at_all = λ g. ap (λ v. f.three h (x v) y z) (both (xs ++ ys) zs g ∙ both xs ys (given zs g)) ∙ ap (λ v. f.three h v y z) (first.at_all (given ys (given zs g)))
      ∙ ap (λ v. f.two (h a) v z) (second.at_all (given zs g)) ∙ ap (f.one (h a b)) (third.at_all g);
}

four_parts : {A B C D E : Type 0} (h : A → B → C → D → E) (us : List Point) {x : Supply → Filled A} {y : Supply → Filled B} {z : Supply → Filled C} {w : Supply → Filled D}
    {xs ys zs ws : List Point} {a : A} {b : B} {c : C} {d : D} → Fills x xs a → Fills y ys b → Fills z zs c → Quiet us → Fills w ws d
    → Fills (λ v. f.four h (x v) y z w) (xs ++ ys ++ zs ++ us ++ ws) (h a b c d)
four_parts h us {x} {y} {z} {w} {xs} {ys} {zs} {ws} {a} {b} {c} first second third quiet fourth = record {
  at_all = λ g. ap (λ v. f.four h (x v) y z w)
      (both (xs ++ ys ++ zs ++ us) ws g ∙ skip_last (xs ++ ys ++ zs) us (given ws g) quiet ∙ both (xs ++ ys) zs (given ws g) ∙ both xs ys (given zs (given ws g)))
      ∙ ap (λ v. f.four h v y z w) (first.at_all (given ys (given zs (given ws g)))) ∙ ap (λ v. f.three (h a) v z w) (second.at_all (given zs (given ws g)))
      ∙ ap (λ v. f.two (h a b) v w) (third.at_all (given ws g)) ∙ ap (f.one (h a b c)) (fourth.at_all g);
}

after_quiet : {A : Type 0} (xs : List Point) {x : Supply → Filled A} {ys : List Point} {a : A} → Quiet xs → Fills x ys a → Fills x (xs ++ ys) a
after_quiet xs {x} {ys} quiet fills = record { at_all = λ g. ap x (skip xs ys g quiet) ∙ fills.at_all g }

before_quiet : {A : Type 0} (ys : List Point) {x : Supply → Filled A} {xs : List Point} {a : A} → Quiet ys → Fills x xs a → Fills x (xs ++ ys) a
before_quiet ys {x} {xs} quiet fills = record { at_all = λ g. ap x (skip_last xs ys g quiet) ∙ fills.at_all g }

-- names
used_filled : (k d n l : ℕ) (x : List ℕ) (y : Option Bound) → Usable k d y → Fills f.meaning (used_at k n l x y) (meant y)
used_filled k d n l x None h = elim h [ ]
used_filled k d n l x (Some (Variable j i)) h =
    record { at_all = λ g. ap (λ c. f.meaning (given (cond c (meaning (Variable j i) ∷ []) (at n l (dynamic_name (text_of x)))) g)) (eq-eqb j k h.0) }
used_filled k d n l x (Some (Label j i)) h = elim h [ ]
used_filled k d n l x _ h = record { at_all = λ g. refl }

named_filled : (r : Role) (p : Enclosing) (d n l : ℕ) (x : List ℕ) (y : Option Bound) → Usable p.procedure d y
    → Fills f.meaning (used_at p.procedure n l x y ++ depth_named r p y) (meant y)
named_filled r p d n l x y h = before_quiet (depth_named r p y) (quiet_depth_named r p y) (used_filled p.procedure d n l x y h)

gone_filled : (k n l : ℕ) (x : List ℕ) (y : Option Bound) → GoesTo k y → Fills f.meaning (gone_to k n l x y) (meant y)
gone_filled k n l x y h =
    record { at_all = λ g. rw (h.1) (ap (λ c. f.meaning (given (cond c (meaning (Label k h.0) ∷ []) (at n l (label_not_here (text_of x)))) g)) (eq-eqb k k refl)) }

its_filled : (y : Option Bound) (b : Bound) → y ≡ Some b → Fills f.meaning (its_meaning y) (meant y)
its_filled y b h = record { at_all = λ g. rw h refl }

callable_filled : (y : Option Bound) → Callable y → Fills f.meaning (its_meaning y) (meant y)
callable_filled None h = elim h [ ]
callable_filled (Some b) h = record { at_all = λ g. refl }

-- constants
its_word_filled : (y : Option ℕ) (v : ℕ) → y ≡ Some v → Fills f.constant (its_word y) (worth y)
its_word_filled y v h = record { at_all = λ g. rw h refl }

constant_filled : (bs : List Binding) (k : ℕ) (s : Spot) (e : Expression) (v : ℕ) → constant_word bs e ≡ Some v → Fills f.constant (constant bs k s e) (worth (constant_word bs e))
constant_filled bs k s e v h =
    record { at_all = λ g. ap (λ xs. f.constant (given (xs ++ its_word (constant_word bs e)) g)) (constant_right e bs k s v h) ∙ (its_word_filled (constant_word bs e) v h).at_all g }

constants_filled : (bs : List Binding) (k : ℕ) (s : Spot) (es : Expressions) → HaveWords bs es → Fills (f.constants_of es) (each_constant bs k s es) (words_named bs es)
constants_filled bs k s none h = record { at_all = λ g. refl }
constants_filled bs k s (more e es) h = two_parts (λ v vs. v ∷ vs) (constant_filled bs k s e h.0.0 h.0.1) (constants_filled bs k (after_constant e s) es h.1)

step_filled : (bs : List Binding) (k : ℕ) (s : Spot) (es : Expressions) → HaveWords bs es → Fills (f.step_of es) (each_constant bs k s es) (step_named bs es)
step_filled bs k s none h = record { at_all = λ g. refl }
step_filled bs k s (more e es) h = two_parts (λ v vs. v) (constant_filled bs k s e h.0.0 h.0.1) (constants_filled bs k (after_constant e s) es h.1)

-- items
item_filled : (m k : ℕ) (bs : List Binding) (s : Spot) (l : ℕ) (x : List ℕ) (e : Expression) → HasWord (constant_word bs e)
    → Fills f.constant (one_of m s.place l x ++ constant bs k (past 1 s) e) (worth (constant_word bs e))
item_filled m k bs s l x e h = after_quiet (one_of m s.place l x) (λ g. refl) (constant_filled bs k (past 1 s) e h.0 h.1)

manifests_filled : (m k : ℕ) (bs : List Binding) (s : Spot) (is : Items) → ManifestsSound bs is → Fills (f.dropped is) (manifest_items m bs k s is) []
manifests_filled m k bs s no_items h = record { at_all = λ g. refl }
manifests_filled m k bs s (item l x e is) h =
    two_parts (λ v vs. vs) (item_filled m k bs s l x e h.0) (manifests_filled m k (bind x (Constant (constant_word bs e)) bs) (after_constant e (past 1 s)) is h.1)

static_filled : (b : Bound) → Fills f.meaning (meaning b ∷ []) b
static_filled b = record { at_all = λ g. refl }

statics_filled : (m k : ℕ) (bs : List Binding) (s : Spot) (is : Items) → StaticsSound bs is → Fills (f.static_items is) (static_items m bs k s is) (statics_named bs s is)
statics_filled m k bs s no_items h = record { at_all = λ g. refl }
statics_filled m k bs s (item l x e is) h =
    three_parts (λ v b ks. record { bound = b; word = v } ∷ ks) (item_filled m k bs s l x e h.0) (static_filled (Static s.number))
    (statics_filled m k bs (numbered 1 (after_constant e (past 1 s))) is h.1)

globals_filled : (m k : ℕ) (bs : List Binding) (s : Spot) (is : Items) → GlobalsSound bs is → Fills (f.dropped is) (global_items m bs k s is) []
globals_filled m k bs s no_items h = record { at_all = λ g. refl }
globals_filled m k bs s (item l x e is) h =
    two_parts (λ z zs. zs) (before_quiet (at_most GLOBAL_NUMBER (s.place + 1) (at_expression e) global_out_of_range (constant_word bs e))
    (quiet_at_most GLOBAL_NUMBER (s.place + 1) (at_expression e) global_out_of_range (constant_word bs e)) (item_filled m k bs s l x e (h.0.0, h.0.1)))
    (globals_filled m k bs (after_constant e (past 1 s)) is h.1)

-- what is told of a procedure: what its name means, and then its body
procedure_given : (m k : ℕ) (s : Spot) (l : ℕ) (x : List ℕ) (fs : List Mention) (y : Option Bound) (body : List Point) (g : Supply)
    → given (procedure m k s l x fs y body) g ≡ given (its_meaning y) (given body g)
procedure_given m k s l x fs y body g =
    let inner : List Point = inside_procedure k s l x fs y body in
    skip (its_frame s.place l (deepest (kept (length fs + 2)) inner)) (its_meaning y ++ without_depths inner) g (quiet_where _ s.place l _)
    ∙ both (its_meaning y) (without_depths inner) g
    ∙ ap (given (its_meaning y)) (flat inner g ∙ skip (its_global s.place l x y) (each_of k (s.place + 1) fs ++ body) g (quiet_global s.place l x y) ∙
    skip (each_of k (s.place + 1) fs) body g (quiet_names k (s.place + 1) fs))

procedure_filled : {A B : Type 0} (h : Bound → A → B) (m k : ℕ) (s : Spot) (l : ℕ) (y : List ℕ) (fs : List Mention) (z : Option Bound) {x : Supply → Filled A} {body : List Point} {a : A}
    → Callable z → Fills x body a → Fills (λ v. f.two h (f.meaning v) x) (procedure m k s l y fs z body) (h (meant z) a)
procedure_filled h m k s l y fs z {x} {body} can fills = record {
  at_all = λ g. ap (λ v. f.two h (f.meaning v) x) (procedure_given m k s l y fs z body g) ∙ ap (λ v. f.two h v x) ((callable_filled z can).at_all (given body g))
      ∙ ap (f.one (h (meant z))) (fills.at_all g);
}

-- what has an address may be assigned to
pub addressed_assigned : (bs : List Binding) (e : Expression) → addressed bs e ≡ true → assigned bs e ≡ true
addressed_assigned bs (parens l e) h = addressed_assigned bs e h
addressed_assigned bs (binary l o.Byte m a b) h = refl
addressed_assigned bs e h = h

-- an expression is read for its value or its truth
abbrev FillsAsked : Asked → Expression → List Point → List Binding → Enclosing → Spot → Type 0
FillsAsked for_value e xs bs p s = Fills (f.term e) xs (term_named bs p s e)
FillsAsked (for_truth z) e xs bs p s = Fills (f.condition e) xs (condition_named bs p s e)

-- a truth that is that of a value
abbrev Holding : Asked → (Supply → Filled t.Term) → List Point → t.Term → Type 0
Holding for_value x xs a = Fills x xs a
Holding (for_truth z) x xs a = Fills (λ g. f.one t.holds (x g)) xs (t.holds a)

holding : (ask : Asked) {x : Supply → Filled t.Term} {xs : List Point} {a : t.Term} → Fills x xs a → Holding ask x xs a
holding for_value fills = fills
holding (for_truth z) fills = one_part t.holds fills

mutual
  filling : (ask : Asked) (bs : List Binding) (p : Enclosing) (s : Spot) (e : Expression) → Sound (role ask) bs p s e → FillsAsked ask e (reported (role ask) bs p s e) bs p s
  filling (for_truth z) bs p s (parens l e) h = one_part t.within (filling (for_truth z) bs p (past 1 s) e h)
  filling (for_truth z) bs p s (unary l q.Not e) h = one_part t.fails (filling (for_truth z) bs p (past 1 s) e h.1)
  filling (for_truth z) bs p s (binary l o.Both m a b) h =
      two_parts t.both (filling (for_truth z) bs p s a h.0) (filling (for_truth z) bs p (past 1 (following a s)) b h.1)
  filling (for_truth z) bs p s (binary l o.Either m a b) h =
      two_parts t.either (filling (for_truth z) bs p s a h.0) (filling (for_truth z) bs p (past 1 (following a s)) b h.1)
  filling for_value bs p s (parens l e) h = one_part t.parens (filling for_value bs p (past 1 s) e h)
  filling ask bs p s (name l x) h = holding ask (one_part t.named (named_filled (role ask) p p.depth s.place l x (bound_in bs x) h))
  filling ask bs p s (unary l q.Address e) h =
      holding ask (one_part t.address (after_quiet (prefixed q.Address bs (past 1 s) e)
      (quiet_unless (addressed bs e) (past 1 s).place (at_expression e) not_assignable) (lvalue_filled bs p (past 1 s) (Address false (at_expression e)) e (addressed_assigned bs e h.0) h.1)))
  filling ask bs p s (unary l x e) h = holding ask (one_part (t.unary x) (filling for_value bs p (past 1 s) e h.1))
  filling ask bs p s (choice l m c a b) h =
      let u : Spot = past 1 (following c s) in
      holding ask (three_parts t.choice (filling (for_truth true) bs p s c h.0) (filling for_value bs p u a h.1) (filling for_value bs p (following a u) b h.2))
  filling ask bs p s (apply l m e es) h =
      holding ask (two_parts t.apply (filling for_value bs (deeper (size es + 2) p) s e h.0) (terms_filled 1 bs (deeper 2 p) (past 1 (following e s)) es h.1))
  filling ask bs p s (valof l c) h =
      let cs = labels_in_scope p.procedure (s.number + 1) (labels_of c) bs in
      let u : Spot = onward 1 (1 + length (labels_of c)) s in
      holding ask (one_part t.valof (before_quiet (pushed p 1) (λ g. refl) (command_filled cs (labelled s.number (valued p)) u c h)))
  filling ask bs p s (table l es) h = holding ask (one_part t.table (before_quiet (pushed p 1) (λ g. refl) (constants_filled bs p.procedure (past 1 s) es h)))
  filling for_value bs p s (binary l o.Both m a b) h =
      two_parts (t.binary o.Both) (filling for_value bs p s a h.0) (filling for_value bs (deeper 1 p) (past 1 (following a s)) b h.1)
  filling ask bs p s (binary l x m a b) h =
      holding ask (two_parts (t.binary x) (filling for_value bs p s a h.0) (filling for_value bs (deeper 1 p) (past 1 (following a s)) b h.1))
  filling ask bs p s _ h = record { at_all = λ g. refl }

  lvalue_filled : (bs : List Binding) (p : Enclosing) (s : Spot) (r : Role) (e : Expression) → assigned bs e ≡ true → Sound r bs p s e → Fills (f.lvalue e) (reported r bs p s e) (lvalue_named bs p s e)
  lvalue_filled bs p s r (name l x) i h = one_part t.word (named_filled r p p.depth s.place l x (bound_in bs x) h)
  lvalue_filled bs p s r (parens l e) i h = one_part t.inside (lvalue_filled bs p (past 1 s) (parenthesised r) e i h)
  lvalue_filled bs p s r (unary l q.Contents e) i h = one_part t.contents (filling for_value bs p (past 1 s) e h.1)
  lvalue_filled bs p s r (binary l o.Subscript m a b) i h =
      two_parts t.subscript (filling for_value bs p s a h.0) (filling for_value bs (deeper 1 p) (past 1 (following a s)) b h.1)
  lvalue_filled bs p s r (binary l o.Byte m a b) i h =
      two_parts t.byte (filling for_value bs p s a h.0) (filling for_value bs (deeper 1 p) (past 1 (following a s)) b h.1)
  lvalue_filled bs p s r e i h = absurd (false≢true i)

  lvalues_filled : (bs : List Binding) (p : Enclosing) (s : Spot) (es : Expressions) → SoundDestinations bs p s es → Fills (f.lvalues es) (reported_destinations bs p s es) (lvalues_named bs p s es)
  lvalues_filled bs p s none h = record { at_all = λ g. refl }
  lvalues_filled bs p s (more e es) h =
      let us : List Point = unless (assigned bs e) (at s.place (at_expression e) not_assignable) in
      two_parts t.onto
      (after_quiet us (quiet_unless (assigned bs e) s.place (at_expression e) not_assignable) (lvalue_filled bs p s (Destination false (at_expression e)) e h.0 h.1))
      (lvalues_filled bs p (following e s) es h.2)

  terms_filled : (n : ℕ) (bs : List Binding) (p : Enclosing) (s : Spot) (es : Expressions) → SoundEach n bs p s es → Fills (f.terms es) (reported_each n bs p s es) (terms_named n bs p s es)
  terms_filled n bs p s none h = record { at_all = λ g. refl }
  terms_filled n bs p s (more e es) h = two_parts t.more (filling for_value bs p s e h.0) (terms_filled n bs (deeper n p) (following e s) es h.1)

  command_filled : (bs : List Binding) (p : Enclosing) (s : Spot) (c : Command) → SoundDone bs p s c → Fills (f.command c) (reported_done bs p s c) (command_named bs p s c)
  command_filled bs p s empty h = record { at_all = λ g. refl }
  command_filled bs p s (assign l xs es) h = two_parts t.assign (lvalues_filled bs (deeper 1 p) s xs h.0) (terms_filled 0 bs p (after_each xs s) es h.1)
  command_filled bs p s (call l e es) h =
      two_parts t.call (filling for_value bs (deeper (size es + 2) p) s e h.0) (terms_filled 1 bs (deeper 2 p) (following e s) es h.1)
  command_filled bs p s (goto l x) h = one_part t.goto (gone_filled p.procedure s.place x.at x.letters (bound_in bs x.letters) h)
  command_filled bs p s (label l x c) h =
      two_parts t.label (after_quiet (one_of p.labels s.place l x) (λ g. refl) (its_filled (bound_in bs x) _ h.0.1)) (command_filled bs p (past 1 s) c h.1)
  command_filled bs p s (case_of l e c) h =
      let us : List Point = chosen_at p.switch s.place l (constant_word bs e) in
      two_parts t.case_of (after_quiet us (quiet_chosen p.switch s.place l (constant_word bs e)) (constant_filled bs p.procedure (past 1 s) e h.1.0 h.1.1))
      (command_filled bs p (after_constant e (past 1 s)) c h.2)
  command_filled bs p s (default l c) h =
      one_part t.default (after_quiet (defaulted_at p.switch s.place l) (quiet_defaulted p.switch s.place l) (command_filled bs p (past 1 s) c h.1))
  command_filled bs p s (when l x e c) h = two_parts (t.when x) (filling (for_truth true) bs p s e h.0) (command_filled bs p (following e s) c h.1)
  command_filled bs p s (test l e a b) h =
      let u : Spot = following e s in
      three_parts t.test (filling (for_truth true) bs p s e h.0) (command_filled bs p u a h.1) (command_filled bs p (after_done a u) b h.2)
  command_filled bs p s (while l x e c) h = two_parts (t.while x) (filling (for_truth true) bs p s e h.0) (command_filled bs (looping p) (following e s) c h.1)
  command_filled bs p s (for_loop l x a b k c) h =
      let u : Spot = onward (symbols_each k) 0 (following b (following a s)) in
      let cs = labels_in_scope p.procedure (u.number + 1) (labels_of c) (bind x.letters (Variable p.procedure p.depth) bs) in
      four_parts t.for_loop (pushed p 4) (filling for_value bs p s a h.0)
      (filling for_value bs (deeper 1 p) (following a s) b h.1) (step_filled bs p.procedure (following b (following a s)) k h.2) (λ g. refl)
      (command_filled cs (labelled u.number (looping (deeper 2 p))) (numbered (1 + length (labels_of c)) u) c h.3)
  command_filled bs p s (switch l e c) h =
      two_parts t.switch (filling for_value bs p s e h.0) (command_filled bs (switching (following e s).number p) (numbered 1 (following e s)) c h.1)
  command_filled bs p s (result l e) h =
      one_part t.result (after_quiet (unless p.in_valof (at s.place l no_result_or_return)) (quiet_unless p.in_valof s.place l no_result_or_return)
      (filling for_value bs p (past 1 s) e h.1))
  command_filled bs p s (simple l x) h = record { at_all = λ g. ap (filled (t.simple x)) (quiet_single p s.place l x g) }
  command_filled bs p s (block l no_declarations cs) h = one_part (t.block t.no_declarations) (commands_filled bs p s cs h)
  command_filled bs p s (block l (declare d ds) cs) h =
      let u : Spot = after_declared (declare d ds) s in
      let es = labels_in_scope p.procedure (u.number + 1) (labels_of_each cs) (scope_after bs p s (declare d ds)) in
      two_parts t.block (declarations_filled bs p s (declare d ds) h.0)
      (commands_filled es (labelled u.number (place_after_all bs p s (declare d ds))) (numbered (1 + length (labels_of_each cs)) u) cs h.1)
  command_filled bs p s (repeat l c) h = one_part t.repeat (command_filled bs (looping p) s c h)
  command_filled bs p s (repeat_while l x c e) h =
      two_parts (t.repeat_while x) (command_filled bs (looping p) s c h.0) (filling (for_truth true) bs p (after_done c s) e h.1)

  commands_filled : (bs : List Binding) (p : Enclosing) (s : Spot) (cs : Commands) → SoundDoneEach bs p s cs → Fills (f.commands cs) (reported_done_each bs p s cs) (commands_named bs p s cs)
  commands_filled bs p s no_commands h = record { at_all = λ g. refl }
  commands_filled bs p s (also c cs) h = two_parts t.also (command_filled bs p s c h.0) (commands_filled bs p (after_done c s) cs h.1)

  declarations_filled : (bs : List Binding) (p : Enclosing) (s : Spot) (ds : Declarations) → SoundDeclared bs p s ds
      → Fills (f.all_declared ds) (reported_declared bs p s ds) (declarations_named bs p s ds)
  declarations_filled bs p s no_declarations h = record { at_all = λ g. refl }
  declarations_filled bs p s (declare d ds) h =
      two_parts t.declare (declaration_filled bs p s d h.0)
      (declarations_filled (scope_after_one bs p s d) (place_after_one bs p s d) (after_one_declared d s) ds h.1)

  declaration_filled : (bs : List Binding) (p : Enclosing) (s : Spot) (d : Declaration) → SoundOneDeclared bs p s d
      → Fills (f.declared d) (reported_one_declared bs p s d) (declaration_named bs p s d)
  declaration_filled bs p s (constants l sort.Manifest is) h = one_part t.statics (manifests_filled s.number p.procedure bs (numbered 1 s) is h)
  declaration_filled bs p s (constants l sort.Static is) h = one_part t.statics (statics_filled s.number p.procedure bs (numbered 1 s) is h)
  declaration_filled bs p s (constants l sort.Global is) h = one_part t.statics (globals_filled s.number p.procedure bs (numbered 1 s) is h)
  declaration_filled bs p s (definitions l ds) h =
      one_part t.lets (definitions_filled s.number (procedures_in_scope (s.number + 1) ds bs) p (numbered (1 + procedures_in ds) s) ds h)

  definitions_filled : (m : ℕ) (bs : List Binding) (p : Enclosing) (s : Spot) (ds : Definitions) → SoundDefined bs p s ds
      → Fills (f.all_defined ds) (reported_defined m bs p s ds) (definitions_named bs p s ds)
  definitions_filled m bs p s no_definitions h = record { at_all = λ g. refl }
  definitions_filled m bs p s (define d ds) h =
      two_parts t.define (definition_filled m bs p s d h.0) (definitions_filled m bs (place_after_one_defined bs p d) (after_one_defined d s) ds h.1)

  definition_filled : (m : ℕ) (bs : List Binding) (p : Enclosing) (s : Spot) (d : Definition) → SoundOneDefined bs p s d
      → Fills (f.defined d) (reported_one_defined m bs p s d) (definition_named bs p s d)
  definition_filled m bs p s (routine l x fs c) h =
      let cs = labels_in_scope s.number (s.number + 2) (labels_of c) (with_formals s.number 2 fs bs) in
      let v : Enclosing = labelled (s.number + 1) (called true s.number (length fs)) in
      let u : Spot = onward (1 + length fs) (2 + length (labels_of c)) s in
      procedure_filled (λ b y. t.routine b x (length fs) y) m s.number s l x fs (bound_in bs x) h.0 (command_filled cs v u c h.2)
  definition_filled m bs p s (function l x fs e) h =
      let cs = with_formals s.number 2 fs bs in
      let v : Enclosing = called false s.number (length fs) in
      procedure_filled (λ b y. t.function b x (length fs) y) m s.number s l x fs (bound_in bs x) h.0 (filling for_value cs v (onward (1 + length fs) 1 s) e h.2)
  definition_filled m bs p s (variables l xs is) h =
      one_part t.variables (after_quiet (each_of m s.place xs) (quiet_names m s.place xs) (starts_filled bs p (past (length xs) s) is h))

  starts_filled : (bs : List Binding) (p : Enclosing) (s : Spot) (is : Starts) → SoundStarted bs p s is → Fills (f.starts is) (reported_started bs p s is) (starts_named bs p s is)
  starts_filled bs p s no_starts h = record { at_all = λ g. refl }
  starts_filled bs p s (value e is) h = two_parts t.value (filling for_value bs p s e h.0) (starts_filled bs (deeper 1 p) (following e s) is h.1)
  starts_filled bs p s (vector l e is) h =
      let vs : List Point = at_most VEC_NUMBER s.place (at_expression e) vec_out_of_range (constant_word bs e) in
      two_parts t.vector (before_quiet (pushed p (words_of_start bs e + 1)) (λ g. refl)
      (before_quiet vs (quiet_at_most VEC_NUMBER s.place (at_expression e) vec_out_of_range (constant_word bs e)) (constant_filled bs p.procedure s e h.0.0 h.0.1)))
      (starts_filled bs (deeper (words_of_start bs e + 1) p) (after_constant e s) is h.1)

-- a whole section
given_is : (xs : List Point) → given xs from_nothing ≡ (let g : Supply = record { meanings = meanings_of xs; words = words_of xs } in g)
given_is [] = refl
given_is (meaning b ∷ xs) = ap (one_meaning b) (given_is xs)
given_is (word v ∷ xs) = ap (one_word v) (given_is xs)
given_is (_ ∷ xs) = given_is xs

section_filled : (ds : Declarations) → SoundSection ds → f.all_declared ds (record { meanings = meanings ds; words = words ds }) ≡ filled
    (named_tree ds) from_nothing
section_filled ds h = ap (f.all_declared ds) (sym (given_is (reported_of ds))) ∙ (declarations_filled [] outermost beginning ds h).at_all from_nothing

pub filling_names : FillingNames
filling_names ds h = section_filled ds (section_sound ds h)

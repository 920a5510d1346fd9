-- The words of a section's constants are words where its tree is regular.
use Rattle.bk_filters.proofs.Terms.{◌≡◌, ℕ, zero, suc, ◌+◌, ◌<◌, ◌^◌, ◌==◌, nat_lt, Bool, true, false, List, [], ◌∷◌, ◌++◌, length, slice_get, Option, Some, None, cond, refl, subst, GLOBAL_NUMBER, VEC_NUMBER, FRAME_WORDS, Mention, Expression, Expressions, Command, Commands, Declaration, Declarations, Items, Definition, Definitions, Starts, at_expression, size, Bound, Enclosing, Binding, bound_in, bind, has_address, constant_word, is_prefix_of_constants, is_infix_of_constants, divides_by_zero, labels_of, labels_of_each, with_formals, parenthesised, role_of_operand, role_of_operands, place_of_second, words_of_start, labels_in_scope, procedures_in_scope, place_after_one_defined, scope_after_one, place_after_one, scope_after, place_after_all, Regular, RegularEach, RegularCommand, RegularCommands, RegularItems, RegularDeclaration, RegularDeclarations, RegularDefinition, RegularDefinitions, RegularStarts, Prefix, Prefix as q, Simple, Simple as w, Sort as sort, Bound as b, unless, used_at, gone_to, constant_name, constant_wrongs, constant_wrongs_each, its_word, constant, each_constant, at_most, assigned, addressed, prefixed, depth_named, pushed, chosen_at, defaulted_at, single_at, one_of, each_of, manifest_items, static_items, global_items, its_meaning, its_global, inside_procedure, procedure, reported, reported_each, reported_destinations, reported_done, reported_done_each, reported_declared, reported_one_declared, reported_defined, reported_one_defined, reported_started, reported_of, words, kept, deeper, looping, switching, labelled, valued, called, outermost, Wrong, not_assignable, no_result_or_return, global_out_of_range, vec_out_of_range}
use Rattle.bk_tree.specs.Tree as t
use Rattle.bk_scope.specs.declared.role.Role.{Role}
use Rattle.bk_scope.specs.declared.role.Role.TheVariants.{Value, Truth, Destination}
use Rattle.bk_scope.specs.Spots.{Spot, procedures_in, onward, past, numbered, following, after_each, after_done, after_declared, after_one_declared, after_one_defined, after_constant, symbols_each, beginning}
use Rattle.bk_scope.specs.Points.{Point, meaning, word, at, deepest, without_depths, words_of}
use Rattle.bk_filters.proofs.FitScopes.{Fit, fit_constant, fit_manifest, fit_labels, fit_formals, fit_procedures, fit_one, fit_declared}

-- ---- what is told

abbrev SmallWords : List Point → Type 0
SmallWords [] = Unit {0}
SmallWords (word v ∷ xs) = (v < 2 ^ 32) × SmallWords xs
SmallWords (x ∷ xs) = SmallWords xs

-- the words that are told are words
record Small (xs : List Point) : Type 0 where
  all : SmallWords xs

words_both : (xs ys : List Point) → SmallWords xs → SmallWords ys → SmallWords (xs ++ ys)
words_both [] ys h i = i
words_both (word v ∷ xs) ys h i = (h.0, words_both xs ys h.1 i)
words_both (x ∷ xs) ys h i = words_both xs ys h i

both : {xs ys : List Point} → Small xs → Small ys → Small (xs ++ ys)
both {xs} {ys} h i = record { all = words_both xs ys h.all i.all }

either : {xs ys : List Point} (p : Bool) → Small xs → Small ys → Small (cond p xs ys)
either true h i = h
either false h i = i

abbrev no_words : Small []
no_words = record { all = tt }

unless_small : {xs : List Point} (p : Bool) → Small xs → Small (unless p xs)
unless_small p h = either p no_words h

used_small : (k n l : ℕ) (x : List ℕ) (o : Option Bound) → Small (used_at k n l x o)
used_small k n l x (Some (b.Variable j d)) = either (j == k) (record { all = tt }) (record { all = tt })
used_small k n l x y = record { all = tt }

gone_small : (k n l : ℕ) (x : List ℕ) (o : Option Bound) → Small (gone_to k n l x o)
gone_small k n l x (Some (b.Label j m)) = either (j == k) (record { all = tt }) (record { all = tt })
gone_small k n l x (Some (b.Variable j d)) = both (unless_small (j == k) (record { all = tt })) (record { all = tt })
gone_small k n l x y = record { all = tt }

named_small : (k n l : ℕ) (x : List ℕ) (o : Option Bound) → Small (constant_name k n l x o)
named_small k n l x (Some (b.Variable j d)) = both (unless_small (j == k) (record { all = tt })) (record { all = tt })
named_small k n l x y = record { all = tt }

mutual
  wrongs_small : (bs : List Binding) (k : ℕ) (s : Spot) (e : Expression) → Small (constant_wrongs bs k s e)
  wrongs_small bs k s (t.name l x) = named_small k s.place l x (bound_in bs x)
  wrongs_small bs k s (t.number l n) = no_words
  wrongs_small bs k s (t.truth l x) = no_words
  wrongs_small bs k s (t.parens l e) = wrongs_small bs k (past 1 s) e
  wrongs_small bs k s (t.unary l f e) = both (unless_small (is_prefix_of_constants f) (record { all = tt })) (wrongs_small bs k (past 1 s) e)
  wrongs_small bs k s (t.binary l f m x y) =
      both (both (both (either (divides_by_zero f (constant_word bs x) (constant_word bs y)) (record { all = tt }) no_words) (wrongs_small bs k s x)) (unless_small (is_infix_of_constants f) (record { all = tt })))
      (wrongs_small bs k (past 1 (after_constant x s)) y)
  wrongs_small bs k s (t.choice l m c x y) =
      both (both (both (wrongs_small bs k s c) (record { all = tt })) (wrongs_small bs k (past 1 (after_constant c s)) x)) (wrongs_small bs k (after_constant x (past 1 (after_constant c s))) y)
  wrongs_small bs k s (t.apply l m f es) = both (both (wrongs_small bs k s f) (record { all = tt })) (each_wrong_small bs k (past 1 (after_constant f s)) es)
  wrongs_small bs k s y = record { all = tt }

  each_wrong_small : (bs : List Binding) (k : ℕ) (s : Spot) (es : Expressions) → Small (constant_wrongs_each bs k s es)
  each_wrong_small bs k s t.none = no_words
  each_wrong_small bs k s (t.more e es) = both (wrongs_small bs k s e) (each_wrong_small bs k (after_constant e s) es)

its_word_small : (o : Option ℕ) → ((v : ℕ) → o ≡ Some v → v < 2 ^ 32) → Small (its_word o)
its_word_small None f = no_words
its_word_small (Some v) f = record { all = (f v refl, tt) }

constant_told : (bs : List Binding) (k : ℕ) (s : Spot) (e : Expression) → Fit bs → Regular e → Small (constant bs k s e)
constant_told bs k s e h r = both (wrongs_small bs k s e) (its_word_small (constant_word bs e) (fit_constant bs e h r))

each_constant_told : (bs : List Binding) (k : ℕ) (s : Spot) (es : Expressions) → Fit bs → RegularEach es → Small (each_constant bs k s es)
each_constant_told bs k s t.none h r = no_words
each_constant_told bs k s (t.more e es) h r = both (constant_told bs k s e h r.0) (each_constant_told bs k (after_constant e s) es h r.1)

at_most_small : (most n l : ℕ) (x : Wrong) (o : Option ℕ) → Small (at_most most n l x o)
at_most_small most n l x None = no_words
at_most_small most n l x (Some v) = either (nat_lt most v) (record { all = tt }) no_words

prefixed_small : (f : Prefix) (bs : List Binding) (s : Spot) (e : Expression) → Small (prefixed f bs s e)
prefixed_small q.Address bs s e = unless_small (addressed bs e) (record { all = tt })
prefixed_small x bs s e = no_words

depth_small : (r : Role) (p : Enclosing) (o : Option Bound) → Small (depth_named r p o)
depth_small (Destination x l) p o = unless_small (has_address o) (record { all = tt })
depth_small y p o = record { all = tt }

chosen_small : (m : Option ℕ) (n l : ℕ) (o : Option ℕ) → Small (chosen_at m n l o)
chosen_small None n l o = record { all = tt }
chosen_small (Some m) n l None = no_words
chosen_small (Some m) n l (Some v) = record { all = tt }

defaulted_small : (m : Option ℕ) (n l : ℕ) → Small (defaulted_at m n l)
defaulted_small None n l = record { all = tt }
defaulted_small (Some m) n l = record { all = tt }

single_small : (p : Enclosing) (n l : ℕ) (x : Simple) → Small (single_at p n l x)
single_small p n l w.Break = unless_small p.in_loop (record { all = tt })
single_small p n l w.Loop = unless_small p.in_loop (record { all = tt })
single_small p n l w.EndCase = unless_small p.in_switch (record { all = tt })
single_small p n l w.Return = unless_small p.in_routine (record { all = tt })
single_small p n l w.Finish = no_words

one_meaning : (y : Bound) → Small (meaning y ∷ [])
one_meaning y = record { all = tt }

one_of_small : (m n l : ℕ) (x : List ℕ) → Small (one_of m n l x)
one_of_small m n l x = record { all = tt }

each_of_small : (m n : ℕ) (xs : List Mention) → Small (each_of m n xs)
each_of_small m n [] = no_words
each_of_small m n (x ∷ xs) = both (one_of_small m n x.at x.letters) (each_of_small m (n + 1) xs)

meaning_small : (o : Option Bound) → Small (its_meaning o)
meaning_small None = no_words
meaning_small (Some y) = record { all = tt }

global_small : (n l : ℕ) (x : List ℕ) (o : Option Bound) → Small (its_global n l x o)
global_small n l x (Some (b.Global (Some g))) = record { all = tt }
global_small n l x y = no_words

flat_words : (xs : List Point) → SmallWords xs → SmallWords (without_depths xs)
flat_words [] h = tt
flat_words (word v ∷ xs) h = (h.0, flat_words xs h.1)
flat_words (x ∷ xs) h = flat_words xs h

procedure_small : (m k : ℕ) (s : Spot) (l : ℕ) (x : List ℕ) (fs : List Mention) (o : Option Bound) (body : List Point) → Small body → Small (procedure m k s l x fs o body)
procedure_small m k s l x fs o body h =
    let inner : Small (inside_procedure k s l x fs o body) = both (global_small s.place l x o) (both (each_of_small k (s.place + 1) fs) h) in
    let flat : Small (without_depths (inside_procedure k s l x fs o body)) = record { all = flat_words (inside_procedure k s l x fs o body) inner.all } in
    both (one_of_small m s.place l x) (both (either (nat_lt FRAME_WORDS (deepest (kept (length fs + 2)) (inside_procedure k s l x fs o body))) (record { all = tt }) no_words) (both (meaning_small o) flat))

-- ---- items

manifests_small : (m : ℕ) (bs : List Binding) (k : ℕ) (s : Spot) (is : Items) → Fit bs → RegularItems is → Small (manifest_items m bs k s is)
manifests_small m bs k s t.no_items h r = no_words
manifests_small m bs k s (t.item l x e is) h r =
    both (both (one_of_small m s.place l x) (constant_told bs k (past 1 s) e h r.0))
    (manifests_small m (bind x (b.Constant (constant_word bs e)) bs) k (after_constant e (past 1 s)) is (fit_manifest x bs e h r.0) r.1)

statics_small : (m : ℕ) (bs : List Binding) (k : ℕ) (s : Spot) (is : Items) → Fit bs → RegularItems is → Small (static_items m bs k s is)
statics_small m bs k s t.no_items h r = no_words
statics_small m bs k s (t.item l x e is) h r =
    both (both (both (one_of_small m s.place l x) (constant_told bs k (past 1 s) e h r.0)) (one_meaning (b.Static s.number))) (statics_small m bs k (numbered 1 (after_constant e (past 1 s))) is h r.1)

globals_small : (m : ℕ) (bs : List Binding) (k : ℕ) (s : Spot) (is : Items) → Fit bs → RegularItems is → Small (global_items m bs k s is)
globals_small m bs k s t.no_items h r = no_words
globals_small m bs k s (t.item l x e is) h r =
    both (both (both (one_of_small m s.place l x) (constant_told bs k (past 1 s) e h r.0)) (at_most_small GLOBAL_NUMBER (s.place + 1) (at_expression e) global_out_of_range (constant_word bs e)))
    (globals_small m bs k (after_constant e (past 1 s)) is h r.1)

pushed_small : (p : Enclosing) (d : ℕ) → Small (pushed p d)
pushed_small p d = record { all = tt }

wrong_small : (n l : ℕ) (x : Wrong) → Small (at n l x)
wrong_small n l x = record { all = tt }

-- ---- all forms

mutual
  told_small : (r : Role) (bs : List Binding) (p : Enclosing) (s : Spot) (e : Expression) → Fit bs → Regular e → Small (reported r bs p s e)
  told_small r bs p s (t.name l x) h g = both (used_small p.procedure s.place l x (bound_in bs x)) (depth_small r p (bound_in bs x))
  told_small r bs p s (t.number l n) h g = pushed_small p 1
  told_small r bs p s (t.text l x) h g = pushed_small p 1
  told_small r bs p s (t.truth l x) h g = pushed_small p 1
  told_small r bs p s (t.query l) h g = pushed_small p 1
  told_small r bs p s (t.parens l e) h g = told_small (parenthesised r) bs p (past 1 s) e h g
  told_small r bs p s (t.unary l f e) h g = both (prefixed_small f bs (past 1 s) e) (told_small (role_of_operand f r e) bs p (past 1 s) e h g)
  told_small r bs p s (t.binary l f m x y) h g =
      both (told_small (role_of_operands f r) bs p s x h g.0) (told_small (role_of_operands f r) bs (place_of_second f r p) (past 1 (following x s)) y h g.1)
  told_small r bs p s (t.choice l m c x y) h g =
      both (both (told_small Truth bs p s c h g.0) (told_small Value bs p (past 1 (following c s)) x h g.1)) (told_small Value bs p (following x (past 1 (following c s))) y h g.2)
  told_small r bs p s (t.apply l m e es) h g = both (told_small Value bs (deeper (size es + 2) p) s e h g.0) (each_small 1 bs (deeper 2 p) (past 1 (following e s)) es h g.1)
  told_small r bs p s (t.valof l c) h g =
      both
      (done_small (labels_in_scope p.procedure (s.number + 1) (labels_of c) bs) (labelled s.number (valued p)) (onward 1 (1 + length (labels_of c)) s) c (fit_labels p.procedure (s.number + 1) (labels_of c) bs h) g)
      (pushed_small p 1)
  told_small r bs p s (t.table l es) h g = both (each_constant_told bs p.procedure (past 1 s) es h g) (pushed_small p 1)

  each_small : (n : ℕ) (bs : List Binding) (p : Enclosing) (s : Spot) (es : Expressions) → Fit bs → RegularEach es → Small (reported_each n bs p s es)
  each_small n bs p s t.none h g = no_words
  each_small n bs p s (t.more e es) h g = both (told_small Value bs p s e h g.0) (each_small n bs (deeper n p) (following e s) es h g.1)

  destinations_small : (bs : List Binding) (p : Enclosing) (s : Spot) (es : Expressions) → Fit bs → RegularEach es → Small (reported_destinations bs p s es)
  destinations_small bs p s t.none h g = no_words
  destinations_small bs p s (t.more e es) h g =
      both (both (unless_small (assigned bs e) (wrong_small s.place (at_expression e) not_assignable)) (told_small (Destination false (at_expression e)) bs p s e h g.0)) (destinations_small bs p (following e s) es h g.1)

  done_small : (bs : List Binding) (p : Enclosing) (s : Spot) (c : Command) → Fit bs → RegularCommand c → Small (reported_done bs p s c)
  done_small bs p s t.empty h g = no_words
  done_small bs p s (t.assign l xs es) h g = both (destinations_small bs (deeper 1 p) s xs h g.1) (each_small 0 bs p (after_each xs s) es h g.2)
  done_small bs p s (t.call l e es) h g = both (told_small Value bs (deeper (size es + 2) p) s e h g.0) (each_small 1 bs (deeper 2 p) (following e s) es h g.1)
  done_small bs p s (t.goto l x) h g = gone_small p.procedure s.place x.at x.letters (bound_in bs x.letters)
  done_small bs p s (t.label l x c) h g = both (both (one_of_small p.labels s.place l x) (meaning_small (bound_in bs x))) (done_small bs p (past 1 s) c h g)
  done_small bs p s (t.case_of l e c) h g =
      both (both (chosen_small p.switch s.place l (constant_word bs e)) (constant_told bs p.procedure (past 1 s) e h g.0)) (done_small bs p (after_constant e (past 1 s)) c h g.1)
  done_small bs p s (t.default l c) h g = both (defaulted_small p.switch s.place l) (done_small bs p (past 1 s) c h g)
  done_small bs p s (t.when l x e c) h g = both (told_small Truth bs p s e h g.0) (done_small bs p (following e s) c h g.1)
  done_small bs p s (t.test l e x y) h g =
      both (both (told_small Truth bs p s e h g.0) (done_small bs p (following e s) x h g.1)) (done_small bs p (after_done x (following e s)) y h g.2)
  done_small bs p s (t.while l x e c) h g = both (told_small Truth bs p s e h g.0) (done_small bs (looping p) (following e s) c h g.1)
  done_small bs p s (t.for_loop l x e f k c) h g =
      let u : Spot = onward (symbols_each k) 0 (following f (following e s)) in
      both
      (both (both (both (told_small Value bs p s e h g.0) (told_small Value bs (deeper 1 p) (following e s) f h g.1)) (each_constant_told bs p.procedure (following f (following e s)) k h g.2)) (pushed_small p 4))
      (done_small (labels_in_scope p.procedure (u.number + 1) (labels_of c) (bind x.letters (b.Variable p.procedure p.depth) bs)) (labelled u.number (looping (deeper 2 p))) (numbered (1 + length (labels_of c)) u) c
      (fit_labels p.procedure (u.number + 1) (labels_of c) (bind x.letters (b.Variable p.procedure p.depth) bs) (tt, h)) g.3)
  done_small bs p s (t.switch l e c) h g = both (told_small Value bs p s e h g.0) (done_small bs (switching (following e s).number p) (numbered 1 (following e s)) c h g.1)
  done_small bs p s (t.result l e) h g = both (unless_small p.in_valof (wrong_small s.place l no_result_or_return)) (told_small Value bs p (past 1 s) e h g)
  done_small bs p s (t.simple l x) h g = single_small p s.place l x
  done_small bs p s (t.block l t.no_declarations cs) h g = commands_small bs p s cs h g.1
  done_small bs p s (t.block l (t.declare d ds) cs) h g =
      let u : Spot = after_declared (t.declare d ds) s in
      both (declared_small bs p s (t.declare d ds) h g.0)
      (commands_small (labels_in_scope p.procedure (u.number + 1) (labels_of_each cs) (scope_after bs p s (t.declare d ds))) (labelled u.number (place_after_all bs p s (t.declare d ds)))
      (numbered (1 + length (labels_of_each cs)) u) cs
      (fit_labels p.procedure (u.number + 1) (labels_of_each cs) (scope_after bs p s (t.declare d ds)) (fit_declared bs p s (t.declare d ds) h g.0)) g.1)
  done_small bs p s (t.repeat l c) h g = done_small bs (looping p) s c h g
  done_small bs p s (t.repeat_while l x c e) h g = both (done_small bs (looping p) s c h g.0) (told_small Truth bs p (after_done c s) e h g.1)

  commands_small : (bs : List Binding) (p : Enclosing) (s : Spot) (cs : Commands) → Fit bs → RegularCommands cs → Small (reported_done_each bs p s cs)
  commands_small bs p s t.no_commands h g = no_words
  commands_small bs p s (t.also c cs) h g = both (done_small bs p s c h g.0) (commands_small bs p (after_done c s) cs h g.1)

  declared_small : (bs : List Binding) (p : Enclosing) (s : Spot) (ds : Declarations) → Fit bs → RegularDeclarations ds → Small (reported_declared bs p s ds)
  declared_small bs p s t.no_declarations h g = no_words
  declared_small bs p s (t.declare d ds) h g =
      both (one_declared_small bs p s d h g.0) (declared_small (scope_after_one bs p s d) (place_after_one bs p s d) (after_one_declared d s) ds (fit_one bs p s d h g.0) g.1)

  one_declared_small : (bs : List Binding) (p : Enclosing) (s : Spot) (d : Declaration) → Fit bs → RegularDeclaration d → Small (reported_one_declared bs p s d)
  one_declared_small bs p s (t.constants l sort.Manifest is) h g = manifests_small s.number bs p.procedure (numbered 1 s) is h g
  one_declared_small bs p s (t.constants l sort.Static is) h g = statics_small s.number bs p.procedure (numbered 1 s) is h g
  one_declared_small bs p s (t.constants l sort.Global is) h g = globals_small s.number bs p.procedure (numbered 1 s) is h g
  one_declared_small bs p s (t.definitions l ds) h g =
      defined_small s.number (procedures_in_scope (s.number + 1) ds bs) p (numbered (1 + procedures_in ds) s) ds (fit_procedures (s.number + 1) ds bs h) g

  defined_small : (m : ℕ) (bs : List Binding) (p : Enclosing) (s : Spot) (ds : Definitions) → Fit bs → RegularDefinitions ds → Small (reported_defined m bs p s ds)
  defined_small m bs p s t.no_definitions h g = no_words
  defined_small m bs p s (t.define d ds) h g = both (one_defined_small m bs p s d h g.0) (defined_small m bs (place_after_one_defined bs p d) (after_one_defined d s) ds h g.1)

  one_defined_small : (m : ℕ) (bs : List Binding) (p : Enclosing) (s : Spot) (d : Definition) → Fit bs → RegularDefinition d → Small (reported_one_defined m bs p s d)
  one_defined_small m bs p s (t.routine l x fs c) h g =
      procedure_small m s.number s l x fs (bound_in bs x) _
      (done_small (labels_in_scope s.number (s.number + 2) (labels_of c) (with_formals s.number 2 fs bs)) (labelled (s.number + 1) (called true s.number (length fs))) (onward (1 + length fs) (2 + length (labels_of c)) s) c
      (fit_labels s.number (s.number + 2) (labels_of c) (with_formals s.number 2 fs bs) (fit_formals s.number 2 fs bs h)) g)
  one_defined_small m bs p s (t.function l x fs e) h g =
      procedure_small m s.number s l x fs (bound_in bs x) _
      (told_small Value (with_formals s.number 2 fs bs) (called false s.number (length fs)) (onward (1 + length fs) 1 s) e (fit_formals s.number 2 fs bs h) g)
  one_defined_small m bs p s (t.variables l xs is) h g = both (each_of_small m s.place xs) (started_small bs p (past (length xs) s) is h g.1)

  started_small : (bs : List Binding) (p : Enclosing) (s : Spot) (is : Starts) → Fit bs → RegularStarts is → Small (reported_started bs p s is)
  started_small bs p s t.no_starts h g = no_words
  started_small bs p s (t.value e is) h g = both (told_small Value bs p s e h g.0) (started_small bs (deeper 1 p) (following e s) is h g.1)
  started_small bs p s (t.vector l e is) h g =
      both (both (both (constant_told bs p.procedure s e h g.0) (at_most_small VEC_NUMBER s.place (at_expression e) vec_out_of_range (constant_word bs e))) (pushed_small p (words_of_start bs e + 1)))
      (started_small bs (deeper (words_of_start bs e + 1) p) (after_constant e s) is h g.1)

each_word : (xs : List Point) (j v : ℕ) → SmallWords xs → slice_get (words_of xs) j ≡ Some v → v < 2 ^ 32
each_word [] j v h e = absurd cc
each_word (word x ∷ xs) zero v h e = subst (λ y. y < 2 ^ 32) (let same : x ≡ v = cc in same) h.0
each_word (word x ∷ xs) (suc j) v h e = each_word xs j v h.1 e
each_word (z ∷ xs) j v h e = each_word xs j v h e

pub regular_words : (ds : Declarations) → RegularDeclarations ds → (j v : ℕ) → slice_get (words ds) j ≡ Some v → v < 2 ^ 32
regular_words ds r j v e = each_word (reported_of ds) j v (declared_small [] outermost beginning ds tt r).all e

-- Where nothing that is told is wrong, each node is sound.
use Rattle.bk_scope.proofs.Terms.{◌≡◌, ℕ, ◌+◌, ◌≤◌, ◌<◌, ◌==◌, Bool, true, false, cond, Option, Some, None, List, [], ◌∷◌, ◌++◌, length, refl, sym, ap, ◌∙◌, subst, arith, eqb-true, le-ltb, false≢true, none-some, bytes_eq, bytes_eq-Decides, option_and_then, GLOBAL_NUMBER, VEC_NUMBER, FRAME_WORDS, Operator, Operator as o, Prefix, Prefix as q, Simple, Simple as w, Sort as sort, Mention, Expression, Expressions, Command, Commands, Declaration, Declarations, Items, Definition, Definitions, Starts, name, number, text, truth, query, parens, unary, binary, choice, apply, valof, table, none, more, empty, assign, call, goto, label, case_of, default, when, test, while, for_loop, switch, result, simple, block, repeat, repeat_while, no_commands, also, constants, definitions, no_declarations, declare, no_items, item, routine, function, variables, no_definitions, define, no_starts, value, vector, at_expression, size, Bound, Constant, Global, Static, Variable, Label, Enclosing, Role, Value, Truth, Address, Destination, Binding, bound_in, bind, is_global, Wrong, text_of, dynamic_name, label_not_here, not_constant, divided_by_zero, not_assignable, no_loop, no_switchon, no_result_or_return, global_out_of_range, vec_out_of_range, named_word, prefix_word, infix_word, constant_word, is_prefix_of_constants, is_infix_of_constants, divides, divides_by_zero, kept, deeper, looping, switching, labelled, valued, called, outermost, labels_of, labels_of_each, with_formals, parenthesised, role_of_operand, role_of_operands, place_of_second, within, words_of_start, variables_of, place_after, Spot, procedures_in, onward, past, numbered, following, after_each, after_done, after_declared, after_one_declared, after_one_defined, after_constant, symbols_each, beginning, Point, meaning, at, labels_in_scope, procedure_in_scope, procedures_in_scope, place_after_one_defined, place_after_defined, variables_in_scope, manifests_in_scope, statics_in_scope, globals_in_scope, scope_after_one, place_after_one, scope_after, place_after_all, unless, used_at, gone_to, constant_name, constant_wrongs, its_word, constant, each_constant, at_most, addressed, assigned, prefixed, depth_named, pushed, chosen_at, defaulted_at, single_at, its_meaning, one_of, each_of, manifest_items, static_items, global_items, reported, reported_each, reported_destinations, reported_done, reported_done_each, reported_declared, reported_one_declared, reported_defined, reported_one_defined, reported_started, reported_of, faults, Usable, GoesTo, HasWord, HasWordUpTo, HaveWords, Callable, PrefixSound, Applies, ManifestsSound, StaticsSound, GlobalsSound, FrameSound, Sound, SoundEach, SoundDestinations, SoundDone, SoundDoneEach, SoundDeclared, SoundOneDeclared, SoundDefined, SoundOneDefined, SoundStarted, SoundSection}
use Rattle.bk_scope.proofs.Fits.{FitsBound, Fits, fits_more, fits_inner, bound_fits, labels_fit, procedures_fit, append_fits, all_fit, formals_fit}
use Rattle.bk_scope.proofs.Parts.{section_clean, no_wrong}
use Rattle.bk_scope.proofs.Safe.{safe_outside, Safe, in_first, in_second, in_both, in_three, unless_true, when_false, bounded_safe, begins_within, procedure_safe}

-- what stands around a node in procedure k, at depth d, where n numbers are given
pub record Around (bs : List Binding) (k d n : ℕ) : Type 0 where
  pub fits : Fits k d n bs
  pub two : 2 ≤ d
  pub most : d ≤ FRAME_WORDS + 1
  pub older : k < n

wider_around : {bs : List Binding} {k d n : ℕ} (e m : ℕ) → Around bs k d n → d ≤ e → e ≤ FRAME_WORDS + 1 → n ≤ m → Around bs k e m
wider_around {bs = bs} {k = k} {d = d} {n = n} e m a h i j = record { fits = fits_more k d e n m bs h j a.fits; two = omega (arith, a.two, h); most = i; older = omega (arith, a.older, j) }

-- further on, and deeper
onto : {bs : List Binding} {k d n : ℕ} (m : ℕ) → Around bs k d n → n ≤ m → Around bs k d m
onto {d = d} m a h = wider_around d m a (omega arith) a.most h

below : {bs : List Binding} {k d n : ℕ} (i m : ℕ) → Around bs k d n → n ≤ m → Around bs k (kept (d + i)) m
below {d = d} i m a h = wider_around (kept (d + i)) m a (omega (arith, a.most)) (omega arith) h

with_labels_around : {bs : List Binding} {k d n : ℕ} (m : ℕ) (xs : List (List ℕ)) → Around bs k d n → Around (labels_in_scope k m xs bs) k d n
with_labels_around {bs = bs} {k = k} {d = d} {n = n} m xs a = record { fits = labels_fit k d n k m xs bs a.fits; two = a.two; most = a.most; older = a.older }

-- a name
variable_usable : (c : Bool) (k d n j i m l : ℕ) (x : List ℕ) → (j == k) ≡ c → FitsBound k d n (Variable j i) → Safe k (cond c (meaning (Variable j i) ∷ []) (at m l (dynamic_name (text_of x)))) → Usable k d (Some (Variable j i))
variable_usable true k d n j i m l x e f h = (eqb-true j k e, f.1 (eqb-true j k e))
variable_usable false k d n j i m l x e f h = absurd h.all

usable : (y : Option Bound) (k d n m l : ℕ) (x : List ℕ) → ((z : Bound) → y ≡ Some z → FitsBound k d n z) → Safe k (used_at k m l x y) → Usable k d y
usable (Some (Constant v)) k d n m l x f h = f (Constant v) refl
usable (Some (Global g)) k d n m l x f h = f (Global g) refl
usable (Some (Static i)) k d n m l x f h = tt
usable (Some (Variable j i)) k d n m l x f h = variable_usable (j == k) k d n j i m l x refl (f (Variable j i) refl) h
usable _ k d n m l x f h = absurd h.all

label_goes : (c : Bool) (k j i m l : ℕ) (x : List ℕ) → (j == k) ≡ c → Safe k (cond c (meaning (Label j i) ∷ []) (at m l (label_not_here (text_of x)))) → GoesTo k (Some (Label j i))
label_goes true k j i m l x e h = (i, ap (λ u. Some (Label u i)) (eqb-true j k e))
label_goes false k j i m l x e h = absurd h.all

goes : (y : Option Bound) (k m l : ℕ) (x : List ℕ) → Safe k (gone_to k m l x y) → GoesTo k y
goes (Some (Label j i)) k m l x h = label_goes (j == k) k j i m l x refl h
goes (Some (Variable j i)) k m l x h = absurd ((in_second (unless (j == k) (at m l (dynamic_name (text_of x)))) (at m l (label_not_here (text_of x))) h).all)
goes _ k m l x h = absurd h.all

-- constants
name_worded : (y : Option Bound) (k d n m l : ℕ) (x : List ℕ) → ((z : Bound) → y ≡ Some z → FitsBound k d n z) → Safe k (constant_name k m l x y) → HasWord (named_word y)
name_worded (Some (Constant v)) k d n m l x f h = f (Constant v) refl
name_worded (Some (Variable j i)) k d n m l x f h = absurd ((in_second (unless (j == k) (at m l (dynamic_name (text_of x)))) (at m l not_constant) h).all)
name_worded _ k d n m l x f h = absurd h.all

prefix_worded : (f : Prefix) (y : Option ℕ) → is_prefix_of_constants f ≡ true → HasWord y → HasWord (option_and_then (prefix_word f) y)
prefix_worded q.Plus y h u = subst (λ z. HasWord (option_and_then (prefix_word q.Plus) z)) (sym u.1) (_, refl)
prefix_worded q.Minus y h u = subst (λ z. HasWord (option_and_then (prefix_word q.Minus) z)) (sym u.1) (_, refl)
prefix_worded q.Not y h u = subst (λ z. HasWord (option_and_then (prefix_word q.Not) z)) (sym u.1) (_, refl)
prefix_worded _ y h u = absurd (false≢true h)

quotient_worded : (c : Bool) (v : ℕ) → c ≡ false → HasWord (cond c None (Some v))
quotient_worded true v h = absurd (false≢true (sym h))
quotient_worded false v h = (v, refl)

between_worded : (f : Operator) (x y : ℕ) → is_infix_of_constants f ≡ true → cond (divides f) (y == 0) false ≡ false → HasWord (infix_word f x y)
between_worded o.Subscript x y h e = absurd (false≢true h)
between_worded o.Byte x y h e = absurd (false≢true h)
between_worded o.Over x y h e = quotient_worded (y == 0) _ e
between_worded o.Rem x y h e = quotient_worded (y == 0) _ e
between_worded _ x y h e = (_, refl)

infix_worded : (f : Operator) (x y : Option ℕ) → is_infix_of_constants f ≡ true → divides_by_zero f x y ≡ false → HasWord x → HasWord y → HasWord (option_and_then (λ v. option_and_then (infix_word f v) y) x)
infix_worded f None y h e u v = absurd (none-some _ u.1)
infix_worded f (Some x) None h e u v = absurd (none-some _ v.1)
infix_worded f (Some x) (Some y) h e u v = between_worded f x y h e

pub worded : (e : Expression) (bs : List Binding) (k d n : ℕ) (s : Spot) → Fits k d n bs → Safe k (constant_wrongs bs k s e) → HasWord (constant_word bs e)
worded (name l x) bs k d n s f h = name_worded (bound_in bs x) k d n s.place l x (λ z e. bound_fits k d n bs x z f e) h
worded (number l v) bs k d n s f h = (v, refl)
worded (truth l b) bs k d n s f h = (_, refl)
worded (parens l e) bs k d n s f h = worded e bs k d n (past 1 s) f h
worded (unary l r e) bs k d n s f h =
    let u : List Point = unless (is_prefix_of_constants r) (at s.place l not_constant) in
    prefix_worded r (constant_word bs e) (unless_true (is_prefix_of_constants r) s.place l not_constant (in_first u (constant_wrongs bs k (past 1 s) e) h)) (worded e bs k d n (past 1 s) f (in_second u (constant_wrongs bs k (past 1 s) e) h))
worded (binary l r m a b) bs k d n s f h =
    let t : Spot = after_constant a s in
    let c : Bool = divides_by_zero r (constant_word bs a) (constant_word bs b) in
    let u : List Point = cond c (at s.place l divided_by_zero) [] in
    let v : List Point = constant_wrongs bs k s a in
    let z : List Point = unless (is_infix_of_constants r) (at t.place m not_constant) in
    let last : List Point = constant_wrongs bs k (past 1 t) b in
    let one : Safe k (u ++ v ++ z) = in_first (u ++ v ++ z) last h in
    let two : Safe k (u ++ v) = in_first (u ++ v) z one in
    infix_worded r (constant_word bs a) (constant_word bs b) (unless_true (is_infix_of_constants r) t.place m not_constant (in_second (u ++ v) z one)) (when_false c s.place l divided_by_zero (in_first u v two))
    (worded a bs k d n s f (in_second u v two)) (worded b bs k d n (past 1 t) f (in_second (u ++ v ++ z) last h))
worded (choice l m c a b) bs k d n s f h =
    let t : Spot = after_constant c s in
    let xs : List Point = constant_wrongs bs k s c in
    let ys : List Point = constant_wrongs bs k (past 1 t) a in
    let zs : List Point = constant_wrongs bs k (after_constant a (past 1 t)) b in
    absurd ((in_second xs (at t.place m not_constant) (in_first (xs ++ at t.place m not_constant) ys (in_first (xs ++ at t.place m not_constant ++ ys) zs h))).all)
worded (apply l m g es) bs k d n s f h =
    let t : Spot = after_constant g s in
    let xs : List Point = constant_wrongs bs k s g in
    absurd ((in_second xs (at t.place m not_constant) (in_first (xs ++ at t.place m not_constant) _ h)).all)
worded _ bs k d n s f h = absurd h.all

constant_worded : (e : Expression) (bs : List Binding) (k d n : ℕ) (s : Spot) → Fits k d n bs → Safe k (constant bs k s e) → HasWord (constant_word bs e)
constant_worded e bs k d n s f h = worded e bs k d n s f (in_first (constant_wrongs bs k s e) (its_word (constant_word bs e)) h)

constants_worded : (es : Expressions) (bs : List Binding) (k d n : ℕ) (s : Spot) → Fits k d n bs → Safe k (each_constant bs k s es) → HaveWords bs es
constants_worded none bs k d n s f h = tt
constants_worded (more e es) bs k d n s f h =
    (constant_worded e bs k d n s f (in_first (constant bs k s e) (each_constant bs k (after_constant e s) es) h), constants_worded es bs k d n (after_constant e s) f (in_second (constant bs k s e) (each_constant bs k (after_constant e s) es) h))

-- a constant that is at most so much
up_to : (y : Option ℕ) (most m l : ℕ) (k : ℕ) (v : Wrong) → HasWord y → Safe k (at_most most m l v y) → HasWordUpTo most y
up_to None most m l k v u h = absurd (none-some _ u.1)
up_to (Some i) most m l k v u h = (i, refl, bounded_safe most m l v i h)

bounded_worded : (e : Expression) (most : ℕ) (v : Wrong) (bs : List Binding) (k d n : ℕ) (s : Spot) → Fits k d n bs → Safe k (constant bs k s e ++ at_most most s.place (at_expression e) v (constant_word bs e)) → HasWordUpTo most (constant_word bs e)
bounded_worded e most v bs k d n s f h =
    up_to (constant_word bs e) most s.place (at_expression e) k v (constant_worded e bs k d n s f (in_first (constant bs k s e) (at_most most s.place (at_expression e) v (constant_word bs e)) h)) (in_second (constant bs k s e) (at_most most s.place (at_expression e) v (constant_word bs e)) h)

-- AN EXPRESSION PUSHES A WORD, unless a value is put into it
abbrev pub Pushing : Role → Type 0
Pushing (Destination b l) = ⊥
Pushing _ = Unit {0}

within_parens : (r : Role) → Pushing r → Pushing (parenthesised r)
within_parens (Destination b l) h = absurd h
within_parens _ h = tt

operand_pushing : (f : Prefix) (r : Role) (e : Expression) → Pushing (role_of_operand f r e)
operand_pushing q.Not Value e = tt
operand_pushing _ _ e = tt

operands_pushing : (f : Operator) (r : Role) → Pushing (role_of_operands f r)
operands_pushing o.Both Truth = tt
operands_pushing o.Either Truth = tt
operands_pushing _ r = tt

name_pushes : (r : Role) (p : Enclosing) (k : ℕ) (y : Option Bound) → Pushing r → Safe k (depth_named r p y) → 1 ≤ k → p.depth + 1 ≤ FRAME_WORDS
name_pushes (Destination b l) p k y u h t = absurd u
name_pushes _ p k y u h t = h.all.0 t

pub pushes : (e : Expression) (r : Role) (bs : List Binding) (p : Enclosing) (s : Spot) (k : ℕ) → Pushing r → Safe k (reported r bs p s e) → 1 ≤ k → p.depth + 1 ≤ FRAME_WORDS
pushes (name l x) r bs p s k u h t = name_pushes r p k (bound_in bs x) u (in_second (used_at p.procedure s.place l x (bound_in bs x)) (depth_named r p (bound_in bs x)) h) t
pushes (parens l e) r bs p s k u h t = pushes e (parenthesised r) bs p (past 1 s) k (within_parens r u) h t
pushes (unary l f e) r bs p s k u h t = pushes e (role_of_operand f r e) bs p (past 1 s) k (operand_pushing f r e) (in_second (prefixed f bs (past 1 s) e) (reported (role_of_operand f r e) bs p (past 1 s) e) h) t
pushes (binary l f m a b) r bs p s k u h t =
    pushes a (role_of_operands f r) bs p s k (operands_pushing f r) (in_first (reported (role_of_operands f r) bs p s a) (reported (role_of_operands f r) bs (place_of_second f r p) (past 1 (following a s)) b) h) t
pushes (choice l m c a b) r bs p s k u h t =
    let v : Spot = past 1 (following c s) in
    pushes c Truth bs p s k tt (in_first (reported Truth bs p s c) (reported Value bs p v a) (in_first (reported Truth bs p s c ++ reported Value bs p v a) (reported Value bs p (following a v) b) h)) t
pushes (apply l m e es) r bs p s k u h t =
    let z : (deeper (size es + 2) p).depth + 1 ≤ FRAME_WORDS = pushes e Value bs (deeper (size es + 2) p) s k tt (in_first (reported Value bs (deeper (size es + 2) p) s e) (reported_each 1 bs (deeper 2 p) (past 1 (following e s)) es) h) t in
    omega (arith, z)
pushes (valof l c) r bs p s k u h t =
    (in_second (reported_done (labels_in_scope p.procedure (s.number + 1) (labels_of c) bs) (labelled s.number (valued p)) (onward 1 (1 + length (labels_of c)) s) c) (pushed p 1) h).all.0 t
pushes (table l es) r bs p s k u h t = (in_second (each_constant bs p.procedure (past 1 s) es) (pushed p 1) h).all.0 t
pushes _ r bs p s k u h t = h.all.0 t

-- the second operand, by its place
second : (f : Operator) (r : Role) (p : Enclosing) (P : Enclosing → Type 0) → P p → P (deeper 1 p) → P (place_of_second f r p)
second o.Both Truth p P a b = a
second o.Either Truth p P a b = a
second _ _ p P a b = b

-- the procedure is the same behind declarations
same_behind_starts : (is : Starts) (bs : List Binding) (p : Enclosing) → (place_after bs p is).procedure ≡ p.procedure
same_behind_starts no_starts bs p = refl
same_behind_starts (value e is) bs p = same_behind_starts is bs (deeper 1 p)
same_behind_starts (vector l e is) bs p = same_behind_starts is bs (deeper (words_of_start bs e + 1) p)

same_behind_one_defined : (d : Definition) (bs : List Binding) (p : Enclosing) → (place_after_one_defined bs p d).procedure ≡ p.procedure
same_behind_one_defined (variables l xs is) bs p = same_behind_starts is bs p
same_behind_one_defined _ bs p = refl

same_behind_defined : (ds : Definitions) (bs : List Binding) (p : Enclosing) → (place_after_defined bs p ds).procedure ≡ p.procedure
same_behind_defined no_definitions bs p = refl
same_behind_defined (define d ds) bs p = same_behind_defined ds bs (place_after_one_defined bs p d) ∙ same_behind_one_defined d bs p

same_behind_one : (d : Declaration) (bs : List Binding) (p : Enclosing) (s : Spot) → (place_after_one bs p s d).procedure ≡ p.procedure
same_behind_one (constants l f is) bs p s = refl
same_behind_one (definitions l ds) bs p s = same_behind_defined ds (procedures_in_scope (s.number + 1) ds bs) p

same_behind_all : (ds : Declarations) (bs : List Binding) (p : Enclosing) (s : Spot) → (place_after_all bs p s ds).procedure ≡ p.procedure
same_behind_all no_declarations bs p s = refl
same_behind_all (declare d ds) bs p s = same_behind_all ds (scope_after_one bs p s d) (place_after_one bs p s d) (after_one_declared d s) ∙ same_behind_one d bs p s

-- and the frame grows
grow_starts : (is : Starts) (bs : List Binding) (p : Enclosing) → p.depth ≤ FRAME_WORDS + 1 → (p.depth ≤ (place_after bs p is).depth) × ((place_after bs p is).depth ≤ FRAME_WORDS + 1)
grow_starts no_starts bs p h = (omega arith, h)
grow_starts (value e is) bs p h =
    let r : ((deeper 1 p).depth ≤ (place_after bs (deeper 1 p) is).depth) × ((place_after bs (deeper 1 p) is).depth ≤ FRAME_WORDS + 1) = grow_starts is bs (deeper 1 p) (omega arith) in
    (omega (arith, h, r.0), r.1)
grow_starts (vector l e is) bs p h =
    let w : ℕ = words_of_start bs e + 1 in
    let r : ((deeper w p).depth ≤ (place_after bs (deeper w p) is).depth) × ((place_after bs (deeper w p) is).depth ≤ FRAME_WORDS + 1) = grow_starts is bs (deeper w p) (omega arith) in
    (omega (arith, h, r.0), r.1)

grow_one_defined : (d : Definition) (bs : List Binding) (p : Enclosing) → p.depth ≤ FRAME_WORDS + 1 → (p.depth ≤ (place_after_one_defined bs p d).depth) × ((place_after_one_defined bs p d).depth ≤ FRAME_WORDS + 1)
grow_one_defined (variables l xs is) bs p h = grow_starts is bs p h
grow_one_defined _ bs p h = (omega arith, h)

grow_defined : (ds : Definitions) (bs : List Binding) (p : Enclosing) → p.depth ≤ FRAME_WORDS + 1 → (p.depth ≤ (place_after_defined bs p ds).depth) × ((place_after_defined bs p ds).depth ≤ FRAME_WORDS + 1)
grow_defined no_definitions bs p h = (omega arith, h)
grow_defined (define d ds) bs p h =
    let a : (p.depth ≤ (place_after_one_defined bs p d).depth) × ((place_after_one_defined bs p d).depth ≤ FRAME_WORDS + 1) = grow_one_defined d bs p h in
    let b : ((place_after_one_defined bs p d).depth ≤ (place_after_defined bs (place_after_one_defined bs p d) ds).depth) × ((place_after_defined bs (place_after_one_defined bs p d) ds).depth ≤ FRAME_WORDS + 1) = grow_defined ds bs (place_after_one_defined bs p d) a.1 in
    (omega (arith, a.0, b.0), b.1)

-- VARIABLES OF A LET
variables_fit : (is : Starts) (xs : List Mention) (bs : List Binding) (p : Enclosing) (s : Spot) (k n : ℕ) → k < n → p.procedure ≡ k → 2 ≤ p.depth → p.depth ≤ FRAME_WORDS + 1 → Safe k (reported_started bs p s is) → Fits k (place_after bs p is).depth n (variables_of bs p xs is)
variables_fit (value v is) (x ∷ xs) bs p s k n a e two most h =
    let g : ((deeper 1 p).depth ≤ (place_after bs (deeper 1 p) is).depth) × ((place_after bs (deeper 1 p) is).depth ≤ FRAME_WORDS + 1) = grow_starts is bs (deeper 1 p) (omega arith) in
    let rest : List Point = reported_started bs (deeper 1 p) (following v s) is in (
      (
        omega (arith, a, e),
        λ c t.
            let z : p.depth + 1 ≤ FRAME_WORDS = pushes v Value bs p s k tt (in_first (reported Value bs p s v) rest h) t in
            (omega (arith, two), omega (arith, z, g.0)),
      ),
      variables_fit is xs bs (deeper 1 p) (following v s) k n a e (omega (arith, two)) (omega arith) (in_second (reported Value bs p s v) rest h),
    )
variables_fit (vector l v is) (x ∷ xs) bs p s k n a e two most h =
    let w : ℕ = words_of_start bs v in
    let g : ((deeper (w + 1) p).depth ≤ (place_after bs (deeper (w + 1) p) is).depth) × ((place_after bs (deeper (w + 1) p) is).depth ≤ FRAME_WORDS + 1) = grow_starts is bs (deeper (w + 1) p) (omega arith) in
    let rest : List Point = reported_started bs (deeper (w + 1) p) (after_constant v s) is in
    let ys : List Point = constant bs p.procedure s v ++ at_most VEC_NUMBER s.place (at_expression v) vec_out_of_range (constant_word bs v) in (
      (
        omega (arith, a, e),
        λ c t.
            let z : p.depth + (w + 1) ≤ FRAME_WORDS = (in_second ys (pushed p (w + 1)) (in_first (ys ++ pushed p (w + 1)) rest h)).all.0 t in
            (omega (arith, two), omega (arith, z, g.0)),
      ),
      variables_fit is xs bs (deeper (w + 1) p) (after_constant v s) k n a e (omega (arith, two)) (omega arith) (in_second (ys ++ pushed p (w + 1)) rest h),
    )
variables_fit no_starts (x ∷ xs) bs p s k n a e two most h = tt
variables_fit _ [] bs p s k n a e two most h = tt

let_fits : (ds : Definitions) (m : ℕ) (bs : List Binding) (p : Enclosing) (s : Spot) (k n : ℕ) → k < n → p.procedure ≡ k → 2 ≤ p.depth → p.depth ≤ FRAME_WORDS + 1 → Safe k (reported_defined m bs p s ds) → Fits k (place_after_defined bs p ds).depth n (variables_in_scope bs p ds)
let_fits no_definitions m bs p s k n a e two most h = tt
let_fits (define (variables l xs is) ds) m bs p s k n a e two most h =
    let z : Enclosing = place_after bs p is in
    let v : Spot = after_one_defined (variables l xs is) s in
    let g : (p.depth ≤ z.depth) × (z.depth ≤ FRAME_WORDS + 1) = grow_starts is bs p most in
    let i : (z.depth ≤ (place_after_defined bs z ds).depth) × ((place_after_defined bs z ds).depth ≤ FRAME_WORDS + 1) = grow_defined ds bs z g.1 in
    let head : Safe k (each_of m s.place xs ++ reported_started bs p (past (length xs) s) is) = in_first (each_of m s.place xs ++ reported_started bs p (past (length xs) s) is) (reported_defined m bs z v ds) h in
    append_fits k (place_after_defined bs z ds).depth n (variables_of bs p xs is) (variables_in_scope bs z ds)
    (fits_more k z.depth (place_after_defined bs z ds).depth n n (variables_of bs p xs is) i.0 (omega arith) (variables_fit is xs bs p (past (length xs) s) k n a e two most (in_second (each_of m s.place xs) (reported_started bs p (past (length xs) s) is) head)))
    (let_fits ds m bs z v k n a (same_behind_starts is bs p ∙ e) (omega (arith, two, g.0)) g.1 (in_second (each_of m s.place xs ++ reported_started bs p (past (length xs) s) is) (reported_defined m bs z v ds) h))
let_fits (define (routine l x fs c) ds) m bs p s k n a e two most h =
    let_fits ds m bs p (after_one_defined (routine l x fs c) s) k n a e two most (in_second (reported_one_defined m bs p s (routine l x fs c)) (reported_defined m bs p (after_one_defined (routine l x fs c) s) ds) h)
let_fits (define (function l x fs c) ds) m bs p s k n a e two most h =
    let_fits ds m bs p (after_one_defined (function l x fs c) s) k n a e two most (in_second (reported_one_defined m bs p s (function l x fs c)) (reported_defined m bs p (after_one_defined (function l x fs c) s) ds) h)

-- items
manifest_sound : (is : Items) (m : ℕ) (bs : List Binding) (k d n : ℕ) (s : Spot) → Fits k d n bs → Safe k (manifest_items m bs k s is) → ManifestsSound bs is × Fits k d n (manifests_in_scope bs is)
manifest_sound no_items m bs k d n s f h = (tt, f)
manifest_sound (item l x e is) m bs k d n s f h =
    let cs : List Binding = bind x (Constant (constant_word bs e)) bs in
    let i = in_three (one_of m s.place l x) (constant bs k (past 1 s) e) _ h in
    let v : HasWord (constant_word bs e) = constant_worded e bs k d n (past 1 s) f i.1 in
    let r : ManifestsSound cs is × Fits k d n (manifests_in_scope cs is) = manifest_sound is m cs k d n (after_constant e (past 1 s)) (v, f) i.2 in
    ((v, r.0), r.1)

statics_fit : (is : Items) (k d n i : ℕ) (cs : List Binding) → Fits k d n cs → Fits k d n (statics_in_scope i is cs)
statics_fit no_items k d n i cs f = f
statics_fit (item l x e is) k d n i cs f = statics_fit is k d n (i + 1) (bind x (Static i) cs) (tt, f)

static_sound : (is : Items) (m : ℕ) (bs : List Binding) (k d n : ℕ) (s : Spot) → Fits k d n bs → Safe k (static_items m bs k s is) → StaticsSound bs is
static_sound no_items m bs k d n s f h = tt
static_sound (item l x e is) m bs k d n s f h =
    let xs : List Point = one_of m s.place l x in
    let ys : List Point = constant bs k (past 1 s) e in
    let us : List Point = meaning (Static s.number) ∷ [] in
    let zs : List Point = static_items m bs k (numbered 1 (after_constant e (past 1 s))) is in
    (constant_worded e bs k d n (past 1 s) f (in_second xs ys (in_first (xs ++ ys) us (in_first (xs ++ ys ++ us) zs h))), static_sound is m bs k d n (numbered 1 (after_constant e (past 1 s))) f (in_second (xs ++ ys ++ us) zs h))

within_fits : (y : Option ℕ) → HasWordUpTo GLOBAL_NUMBER y → (m : ℕ) × (within GLOBAL_NUMBER y ≡ Some m) × (m ≤ GLOBAL_NUMBER)
within_fits None u = absurd (none-some _ u.1)
within_fits (Some i) u =
    let same : i ≡ u.0 = some_number i u.0 u.1 in
    (i, rw (le-ltb GLOBAL_NUMBER i (omega (arith, same, u.2))) refl, omega (arith, same, u.2))
  where
    some_number : (a b : ℕ) → Some a ≡ Some b → a ≡ b
    some_number a b e = cc

global_sound : (is : Items) (m : ℕ) (bs : List Binding) (k d n : ℕ) (s : Spot) (cs : List Binding) → Fits k d n bs → Fits k d n cs → Safe k (global_items m bs k s is) → GlobalsSound bs is × Fits k d n (globals_in_scope bs is cs)
global_sound no_items m bs k d n s cs f g h = (tt, g)
global_sound (item l x e is) m bs k d n s cs f g h =
    let v : Spot = past 1 s in
    let xs : List Point = one_of m s.place l x in
    let ys : List Point = constant bs k v e in
    let us : List Point = at_most GLOBAL_NUMBER v.place (at_expression e) global_out_of_range (constant_word bs e) in
    let zs : List Point = global_items m bs k (after_constant e v) is in
    let most : Safe k (xs ++ ys ++ us) = in_first (xs ++ ys ++ us) zs h in
    let z : HasWordUpTo GLOBAL_NUMBER (constant_word bs e) = up_to (constant_word bs e) GLOBAL_NUMBER v.place (at_expression e) k global_out_of_range (constant_worded e bs k d n v f (in_second xs ys (in_first (xs ++ ys) us most))) (in_second (xs ++ ys) us most) in
    let r : GlobalsSound bs is × Fits k d n (globals_in_scope bs is (bind x (Global (within GLOBAL_NUMBER (constant_word bs e))) cs)) = global_sound is m bs k d n (after_constant e v) (bind x (Global (within GLOBAL_NUMBER (constant_word bs e))) cs) f (within_fits (constant_word bs e) z, g) (in_second (xs ++ ys ++ us) zs h) in
    ((z, r.0), r.1)

-- BEHIND A DECLARATION
behind_one_around : (d : Declaration) (bs : List Binding) (p : Enclosing) (s : Spot) (k n : ℕ) → p.procedure ≡ k → s.number ≤ n → Around bs k p.depth s.number → Safe k (reported_one_declared bs p s d) → Around (scope_after_one bs p s d) k (place_after_one bs p s d).depth n
behind_one_around (constants l sort.Manifest is) bs p s k n e i a h = record {
  fits = (manifest_sound is s.number bs k p.depth n (numbered 1 s) (fits_more k p.depth p.depth s.number n bs (omega arith) i a.fits) (subst (λ j. Safe k (manifest_items s.number bs j (numbered 1 s) is)) e h)).1;
  two = a.two;
  most = a.most;
  older = omega (arith, a.older, i);
}
behind_one_around (constants l sort.Static is) bs p s k n e i a h = record { fits = statics_fit is k p.depth n (s.number + 1) bs (fits_more k p.depth p.depth s.number n bs (omega arith) i a.fits); two = a.two; most = a.most; older = omega (arith, a.older, i) }
behind_one_around (constants l sort.Global is) bs p s k n e i a h =
    let f : Fits k p.depth n bs = fits_more k p.depth p.depth s.number n bs (omega arith) i a.fits in
    record {
      fits = (global_sound is s.number bs k p.depth n (numbered 1 s) bs f f (subst (λ j. Safe k (global_items s.number bs j (numbered 1 s) is)) e h)).1;
      two = a.two;
      most = a.most;
      older = omega (arith, a.older, i);
    }
behind_one_around (definitions l ds) bs p s k n e i a h =
    let cs : List Binding = procedures_in_scope (s.number + 1) ds bs in
    let z : Enclosing = place_after_defined cs p ds in
    let g : (p.depth ≤ z.depth) × (z.depth ≤ FRAME_WORDS + 1) = grow_defined ds cs p a.most in
    record {
      fits = all_fit k z.depth n (variables_in_scope cs p ds) cs (let_fits ds s.number cs p (numbered (1 + procedures_in ds) s) k n (omega (arith, a.older, i)) e a.two a.most h)
          (procedures_fit k z.depth n (s.number + 1) ds bs (fits_more k p.depth z.depth s.number n bs g.0 i a.fits));
      two = omega (arith, a.two, g.0);
      most = g.1;
      older = omega (arith, a.older, i);
    }

behind_all_around : (ds : Declarations) (bs : List Binding) (p : Enclosing) (s : Spot) (k n : ℕ) → p.procedure ≡ k → (after_declared ds s).number ≤ n → Around bs k p.depth s.number → Safe k (reported_declared bs p s ds) → Around (scope_after bs p s ds) k (place_after_all bs p s ds).depth n
behind_all_around no_declarations bs p s k n e i a h = onto n a (omega (arith, i))
behind_all_around (declare d ds) bs p s k n e i a h =
    let xs : List Point = reported_one_declared bs p s d in
    let cs : List Binding = scope_after_one bs p s d in
    let z : Enclosing = place_after_one bs p s d in
    let v : Spot = after_one_declared d s in
    let ys : List Point = reported_declared cs z v ds in
    behind_all_around ds cs z v k n (same_behind_one d bs p s ∙ e) (omega (arith, i)) (behind_one_around d bs p s k v.number e (omega arith) a (in_first xs ys h)) (in_second xs ys h)

-- where a node of another place stands in the same procedure
same_around : {bs : List Binding} {d n : ℕ} (z p : Enclosing) → z.procedure ≡ p.procedure → Around bs p.procedure d n → Around bs z.procedure d n
same_around {bs = bs} {d = d} {n = n} z p e a = subst (λ k. Around bs k d n) (sym e) a

same_safe : {xs : List Point} (z p : Enclosing) → z.procedure ≡ p.procedure → Safe p.procedure xs → Safe z.procedure xs
same_safe {xs = xs} z p e a = subst (λ k. Safe k xs) (sym e) a

prefix_sound : (f : Prefix) (bs : List Binding) (s : Spot) (e : Expression) (k : ℕ) → Safe k (prefixed f bs s e) → PrefixSound f bs e
prefix_sound q.Address bs s e k h = unless_true (addressed bs e) s.place (at_expression e) not_assignable h
prefix_sound _ bs s e k h = tt

applies : (p : Enclosing) (n l : ℕ) (f : Simple) (k : ℕ) → Safe k (single_at p n l f) → Applies p f
applies p n l w.EndCase k h = unless_true p.in_switch n l no_switchon h
applies p n l w.Return k h = unless_true p.in_routine n l no_result_or_return h
applies p n l w.Finish k h = tt
applies p n l _ k h = unless_true p.in_loop n l no_loop h

case_in : (y : Option ℕ) (n l : ℕ) (v : Option ℕ) (k : ℕ) → Safe k (chosen_at y n l v) → (m : ℕ) × (y ≡ Some m)
case_in None n l v k h = absurd h.all
case_in (Some m) n l v k h = (m, refl)

default_in : (y : Option ℕ) (n l : ℕ) (k : ℕ) → Safe k (defaulted_at y n l) → (m : ℕ) × (y ≡ Some m)
default_in None n l k h = absurd h.all
default_in (Some m) n l k h = (m, refl)

same_bytes : (x : List ℕ) → bytes_eq x x ≡ true
same_bytes x = (bytes_eq-Decides x x).1 refl

-- labels mean labels of procedure k
abbrev AllGo : ℕ → List (List ℕ) → List Binding → Type 0
AllGo k [] bs = Unit {0}
AllGo k (x ∷ xs) bs = GoesTo k (bound_in bs x) × AllGo k xs bs

go_first : (k : ℕ) (xs ys : List (List ℕ)) (bs : List Binding) → AllGo k (xs ++ ys) bs → AllGo k xs bs
go_first k [] ys bs h = tt
go_first k (x ∷ xs) ys bs h = (h.0, go_first k xs ys bs h.1)

go_second : (k : ℕ) (xs ys : List (List ℕ)) (bs : List Binding) → AllGo k (xs ++ ys) bs → AllGo k ys bs
go_second k [] ys bs h = h
go_second k (x ∷ xs) ys bs h = go_second k xs ys bs h.1

go_one : (c : Bool) (k n : ℕ) (y : Option Bound) → GoesTo k y → GoesTo k (cond c (Some (Label k n)) y)
go_one true k n y h = (n, refl)
go_one false k n y h = h

go_stays : (ys : List (List ℕ)) (k n : ℕ) (x : List ℕ) (bs : List Binding) → GoesTo k (bound_in bs x) → GoesTo k (bound_in (labels_in_scope k n ys bs) x)
go_stays [] k n x bs h = h
go_stays (y ∷ ys) k n x bs h = go_stays ys k (n + 1) x (bind y (Label k n) bs) (go_one (bytes_eq y x) k n (bound_in bs x) h)

label_in_scope : (k n : ℕ) (x : List ℕ) (bs : List Binding) → GoesTo k (bound_in (bind x (Label k n) bs) x)
label_in_scope k n x bs = subst (λ c. GoesTo k (cond c (Some (Label k n)) (bound_in bs x))) (sym (same_bytes x)) (n, refl)

all_go : (xs : List (List ℕ)) (k n : ℕ) (bs : List Binding) → AllGo k xs (labels_in_scope k n xs bs)
all_go [] k n bs = tt
all_go (x ∷ xs) k n bs = (go_stays xs k (n + 1) x (bind x (Label k n) bs) (label_in_scope k n x bs), all_go xs k (n + 1) (bind x (Label k n) bs))

-- procedures of a LET mean static words or globals
abbrev AllCallable : Definitions → List Binding → Type 0
AllCallable no_definitions bs = Unit {0}
AllCallable (define (routine l x fs c) ds) bs = Callable (bound_in bs x) × AllCallable ds bs
AllCallable (define (function l x fs e) ds) bs = Callable (bound_in bs x) × AllCallable ds bs
AllCallable (define (variables l xs is) ds) bs = AllCallable ds bs

callable_one : (c : Bool) (n : ℕ) (y : Option Bound) → Callable y → Callable (cond c (Some (Static n)) y)
callable_one true n y h = tt
callable_one false n y h = h

callable_behind : (g : Bool) (n : ℕ) (x y : List ℕ) (bs : List Binding) → Callable (bound_in bs x) → Callable (bound_in (cond g bs (bind y (Static n) bs)) x)
callable_behind true n x y bs h = h
callable_behind false n x y bs h = callable_one (bytes_eq y x) n (bound_in bs x) h

callable_stays : (ds : Definitions) (n : ℕ) (x : List ℕ) (bs : List Binding) → Callable (bound_in bs x) → Callable (bound_in (procedures_in_scope n ds bs) x)
callable_stays no_definitions n x bs h = h
callable_stays (define (routine l y fs c) ds) n x bs h = callable_stays ds (n + 1) x (procedure_in_scope n y bs) (callable_behind (is_global (bound_in bs y)) n x y bs h)
callable_stays (define (function l y fs e) ds) n x bs h = callable_stays ds (n + 1) x (procedure_in_scope n y bs) (callable_behind (is_global (bound_in bs y)) n x y bs h)
callable_stays (define (variables l xs is) ds) n x bs h = callable_stays ds n x bs h

global_callable : (y : Option Bound) (k d n : ℕ) → ((z : Bound) → y ≡ Some z → FitsBound k d n z) → is_global y ≡ true → Callable y
global_callable (Some (Global g)) k d n f e = f (Global g) refl
global_callable _ k d n f e = absurd (false≢true e)

callable_there : (g : Bool) (n : ℕ) (x : List ℕ) (bs : List Binding) → (g ≡ true → Callable (bound_in bs x)) → Callable (bound_in (cond g bs (bind x (Static n) bs)) x)
callable_there true n x bs h = h refl
callable_there false n x bs h = subst (λ c. Callable (cond c (Some (Static n)) (bound_in bs x))) (sym (same_bytes x)) tt

procedure_callable : (k d m n : ℕ) (x : List ℕ) (bs : List Binding) → Fits k d m bs → Callable (bound_in (procedure_in_scope n x bs) x)
procedure_callable k d m n x bs f = callable_there (is_global (bound_in bs x)) n x bs (λ e. global_callable (bound_in bs x) k d m (λ z i. bound_fits k d m bs x z f i) e)

all_callable : (ds : Definitions) (k d m n : ℕ) (bs : List Binding) → Fits k d m bs → AllCallable ds (procedures_in_scope n ds bs)
all_callable no_definitions k d m n bs f = tt
all_callable (define (routine l x fs c) ds) k d m n bs f =
    (callable_stays ds (n + 1) x (procedure_in_scope n x bs) (procedure_callable k d m n x bs f), all_callable ds k d m (n + 1) (procedure_in_scope n x bs) (procedures_fit k d m n (define (routine l x fs c) no_definitions) bs f))
all_callable (define (function l x fs e) ds) k d m n bs f =
    (callable_stays ds (n + 1) x (procedure_in_scope n x bs) (procedure_callable k d m n x bs f), all_callable ds k d m (n + 1) (procedure_in_scope n x bs) (procedures_fit k d m n (define (function l x fs e) no_definitions) bs f))
all_callable (define (variables l xs is) ds) k d m n bs f = all_callable ds k d m n bs f

abbrev OneCallable : Definition → List Binding → Type 0
OneCallable (routine l x fs c) bs = Callable (bound_in bs x)
OneCallable (function l x fs e) bs = Callable (bound_in bs x)
OneCallable (variables l xs is) bs = Unit {0}

one_callable : (d : Definition) (ds : Definitions) (bs : List Binding) → AllCallable (define d ds) bs → OneCallable d bs × AllCallable ds bs
one_callable (variables l xs is) ds bs h = (tt, h)
one_callable _ ds bs h = (h.0, h.1)

-- inside a procedure with so many formals
inner_around : (bs : List Binding) (k d : ℕ) (s : Spot) (fs : List Mention) (body : List Point) (n : ℕ) → Around bs k d s.number → FrameSound (length fs) body → s.number < n → Around (with_formals s.number 2 fs bs) s.number (kept (length fs + 2)) n
inner_around bs k d s fs body n a h c =
    let z : kept (length fs + 2) ≤ FRAME_WORDS = begins_within body (kept (length fs + 2)) h in
    record {
      fits = fits_more s.number (2 + length fs) (kept (length fs + 2)) n n (with_formals s.number 2 fs bs) (omega (arith, z)) (omega arith) (formals_fit s.number 2 n fs bs (omega arith) (omega (arith, z)) c (fits_inner k d s.number 2 n bs c a.fits));
      two = omega arith;
      most = omega arith;
      older = c;
    }

-- EACH NODE
mutual
  pub sound : (e : Expression) (r : Role) (bs : List Binding) (p : Enclosing) (s : Spot) → Around bs p.procedure p.depth s.number → Safe p.procedure (reported r bs p s e) → Sound r bs p s e
  sound (name l x) r bs p s a h =
      usable (bound_in bs x) p.procedure p.depth s.number s.place l x (λ z e. bound_fits p.procedure p.depth s.number bs x z a.fits e) (in_first (used_at p.procedure s.place l x (bound_in bs x)) (depth_named r p (bound_in bs x)) h)
  sound (parens l e) r bs p s a h = sound e (parenthesised r) bs p (past 1 s) (onto (past 1 s).number a (omega arith)) h
  sound (unary l f e) r bs p s a h =
      let i = in_both (prefixed f bs (past 1 s) e) _ h in
      (prefix_sound f bs (past 1 s) e p.procedure i.0, sound e (role_of_operand f r e) bs p (past 1 s) (onto (past 1 s).number a (omega arith)) i.1)
  sound (binary l f m c d) r bs p s a h =
      let t : Role = role_of_operands f r in
      let u : Spot = past 1 (following c s) in
      let xs : List Point = reported t bs p s c in (
        sound c t bs p s a (in_first xs (reported t bs (place_of_second f r p) u d) h),
        second f r p (λ (z : Enclosing). Safe p.procedure (reported t bs z u d) → Sound t bs z u d)
            (λ i. sound d t bs p u (onto u.number a (omega arith)) i) (λ i. sound d t bs (deeper 1 p) u (below 1 u.number a (omega arith)) i)
            (in_second xs (reported t bs (place_of_second f r p) u d) h),
      )
  sound (choice l m c d e) r bs p s a h =
      let u : Spot = past 1 (following c s) in
      let v : Spot = following d u in
      let i = in_three (reported Truth bs p s c) (reported Value bs p u d) _ h in
      (sound c Truth bs p s a i.0, sound d Value bs p u (onto u.number a (omega arith)) i.1, sound e Value bs p v (onto v.number a (omega arith)) i.2)
  sound (apply l m e es) r bs p s a h =
      let q : Enclosing = deeper (size es + 2) p in
      let u : Spot = past 1 (following e s) in
      let i = in_both (reported Value bs q s e) _ h in
      (sound e Value bs q s (below (size es + 2) s.number a (omega arith)) i.0, sound_each es 1 bs (deeper 2 p) u (below 2 u.number a (omega arith)) i.1)
  sound (valof l c) r bs p s a h =
      let cs : List Binding = labels_in_scope p.procedure (s.number + 1) (labels_of c) bs in
      let q : Enclosing = labelled s.number (valued p) in
      let u : Spot = onward 1 (1 + length (labels_of c)) s in
      sound_done c cs q u (all_go (labels_of c) p.procedure (s.number + 1) bs) (with_labels_around (s.number + 1) (labels_of c) (onto u.number a (omega arith))) (in_first (reported_done cs q u c) (pushed p 1) h)
  sound (table l es) r bs p s a h = constants_worded es bs p.procedure p.depth s.number (past 1 s) a.fits (in_first (each_constant bs p.procedure (past 1 s) es) (pushed p 1) h)
  sound _ r bs p s a h = tt

  pub sound_each : (es : Expressions) (n : ℕ) (bs : List Binding) (p : Enclosing) (s : Spot) → Around bs p.procedure p.depth s.number → Safe p.procedure (reported_each n bs p s es) → SoundEach n bs p s es
  sound_each none n bs p s a h = tt
  sound_each (more e es) n bs p s a h =
      (sound e Value bs p s a (in_first _ _ h), sound_each es n bs (deeper n p) (following e s) (below n (following e s).number a (omega arith)) (in_second _ _ h))

  pub sound_destinations : (es : Expressions) (bs : List Binding) (p : Enclosing) (s : Spot) → Around bs p.procedure p.depth s.number → Safe p.procedure (reported_destinations bs p s es) → SoundDestinations bs p s es
  sound_destinations none bs p s a h = tt
  sound_destinations (more e es) bs p s a h =
      let i = in_three (unless (assigned bs e) (at s.place (at_expression e) not_assignable)) (reported (Destination false (at_expression e)) bs p s e) _ h in (
        unless_true (assigned bs e) s.place (at_expression e) not_assignable i.0,
        sound e (Destination false (at_expression e)) bs p s a i.1,
        sound_destinations es bs p (following e s) (onto (following e s).number a (omega arith)) i.2,
      )

  pub sound_done : (c : Command) (bs : List Binding) (p : Enclosing) (s : Spot) → AllGo p.procedure (labels_of c) bs → Around bs p.procedure p.depth s.number → Safe p.procedure (reported_done bs p s c) → SoundDone bs p s c
  sound_done empty bs p s g a h = tt
  sound_done (assign l us es) bs p s g a h =
      let i = in_both (reported_destinations bs (deeper 1 p) s us) _ h in
      (sound_destinations us bs (deeper 1 p) s (below 1 s.number a (omega arith)) i.0, sound_each es 0 bs p (after_each us s) (onto (after_each us s).number a (omega arith)) i.1)
  sound_done (call l e es) bs p s g a h =
      let q : Enclosing = deeper (size es + 2) p in
      let i = in_both (reported Value bs q s e) _ h in
      (sound e Value bs q s (below (size es + 2) s.number a (omega arith)) i.0, sound_each es 1 bs (deeper 2 p) (following e s) (below 2 (following e s).number a (omega arith)) i.1)
  sound_done (goto l x) bs p s g a h = goes (bound_in bs x.letters) p.procedure s.place x.at x.letters h
  sound_done (label l x c) bs p s g a h =
      let xs : List Point = one_of p.labels s.place l x ++ its_meaning (bound_in bs x) in
      (g.0, sound_done c bs p (past 1 s) g.1 (onto (past 1 s).number a (omega arith)) (in_second xs (reported_done bs p (past 1 s) c) h))
  sound_done (case_of l e c) bs p s g a h =
      let u : Spot = after_constant e (past 1 s) in
      let i = in_three (chosen_at p.switch s.place l (constant_word bs e)) (constant bs p.procedure (past 1 s) e) _ h in (
        case_in p.switch s.place l (constant_word bs e) p.procedure i.0,
        constant_worded e bs p.procedure p.depth s.number (past 1 s) a.fits i.1,
        sound_done c bs p u g (onto u.number a (omega arith)) i.2,
      )
  sound_done (default l c) bs p s g a h =
      (default_in p.switch s.place l p.procedure (in_first _ _ h), sound_done c bs p (past 1 s) g (onto (past 1 s).number a (omega arith)) (in_second _ _ h))
  sound_done (when l b e c) bs p s g a h =
      (sound e Truth bs p s a (in_first _ _ h), sound_done c bs p (following e s) g (onto (following e s).number a (omega arith)) (in_second _ _ h))
  sound_done (test l e c d) bs p s g a h =
      let u : Spot = after_done c (following e s) in
      let i = in_three (reported Truth bs p s e) (reported_done bs p (following e s) c) _ h in
      (sound e Truth bs p s a i.0, sound_done c bs p (following e s) (go_first p.procedure (labels_of c) (labels_of d) bs g) (onto (following e s).number a (omega arith)) i.1, sound_done d bs p u (go_second p.procedure (labels_of c) (labels_of d) bs g) (onto u.number a (omega arith)) i.2)
  sound_done (while l b e c) bs p s g a h =
      (sound e Truth bs p s a (in_first _ _ h), sound_done c bs (looping p) (following e s) g (onto (following e s).number a (omega arith)) (in_second _ _ h))
  sound_done (for_loop l x b c d e) bs p s g a h =
      let u : Spot = following b s in
      let v : Spot = following c u in
      let t : Spot = onward (symbols_each d) 0 v in
      let i : Spot = numbered (1 + length (labels_of e)) t in
      let cs : List Binding = bind x.letters (Variable p.procedure p.depth) bs in
      let ds : List Binding = labels_in_scope p.procedure (t.number + 1) (labels_of e) cs in
      let q : Enclosing = labelled t.number (looping (deeper 2 p)) in
      let ws : List Point = reported Value bs p s b in
      let xs : List Point = reported Value bs (deeper 1 p) u c in
      let ys : List Point = each_constant bs p.procedure v d in
      let zs : List Point = reported_done ds q i e in
      let one : Safe p.procedure (ws ++ xs ++ ys ++ pushed p 4) = in_first (ws ++ xs ++ ys ++ pushed p 4) zs h in
      let two : Safe p.procedure (ws ++ xs ++ ys) = in_first (ws ++ xs ++ ys) (pushed p 4) one in
      let three : Safe p.procedure (ws ++ xs) = in_first (ws ++ xs) ys two in
      let inner : Around cs p.procedure (deeper 2 p).depth i.number = record {
        fits = ((omega (arith, a.older), λ y z. let k : p.depth + 4 ≤ FRAME_WORDS = (in_second (ws ++ xs ++ ys) (pushed p 4) one).all.0 z in (a.two, omega (arith, k))), fits_more p.procedure p.depth (deeper 2 p).depth s.number i.number bs (omega (arith, a.most)) (omega arith) a.fits);
        two = omega (arith, a.two);
        most = omega arith;
        older = omega (arith, a.older);
      } in (
        sound b Value bs p s a (in_first ws xs three),
        sound c Value bs (deeper 1 p) u (below 1 u.number a (omega arith)) (in_second ws xs three),
        constants_worded d bs p.procedure p.depth s.number v a.fits (in_second (ws ++ xs) ys two),
        sound_done e ds q i (all_go (labels_of e) p.procedure (t.number + 1) cs) (with_labels_around (t.number + 1) (labels_of e) inner) (in_second (ws ++ xs ++ ys ++ pushed p 4) zs h),
      )
  sound_done (switch l e c) bs p s g a h =
      let u : Spot = numbered 1 (following e s) in
      let q : Enclosing = switching (following e s).number p in
      (sound e Value bs p s a (in_first _ _ h), sound_done c bs q u g (onto u.number a (omega arith)) (in_second _ _ h))
  sound_done (result l e) bs p s g a h =
      let i = in_both (unless p.in_valof (at s.place l no_result_or_return)) _ h in
      (unless_true p.in_valof s.place l no_result_or_return i.0, sound e Value bs p (past 1 s) (onto (past 1 s).number a (omega arith)) i.1)
  sound_done (simple l f) bs p s g a h = applies p s.place l f p.procedure h
  sound_done (block l no_declarations cs) bs p s g a h = sound_done_each cs bs p s g a h
  sound_done (block l (declare d ds) cs) bs p s g a h =
      let u : Spot = after_declared (declare d ds) s in
      let z : Enclosing = place_after_all bs p s (declare d ds) in
      let scope : List Binding = scope_after bs p s (declare d ds) in
      let es : List Binding = labels_in_scope p.procedure (u.number + 1) (labels_of_each cs) scope in
      let v : Spot = numbered (1 + length (labels_of_each cs)) u in
      let v1 : Spot = after_one_declared d s in
      let cs1 : List Binding = scope_after_one bs p s d in
      let z1 : Enclosing = place_after_one bs p s d in
      let x1 : List Point = reported_one_declared bs p s d in
      let y1 : List Point = reported_declared cs1 z1 v1 ds in
      let ys : List Point = reported_done_each es (labelled u.number z) v cs in
      let head : Safe p.procedure (x1 ++ y1) = in_first (x1 ++ y1) ys h in
      let same : z.procedure ≡ p.procedure = same_behind_all (declare d ds) bs p s in
      let same1 : z1.procedure ≡ p.procedure = same_behind_one d bs p s in
      let inner : Around scope p.procedure z.depth v.number = behind_all_around (declare d ds) bs p s p.procedure v.number refl (omega arith) a head in (
        (sound_one_declared d bs p s a (in_first x1 y1 head), sound_declared ds cs1 z1 v1 (same_around z1 p same1 (behind_one_around d bs p s p.procedure v1.number refl (omega arith) a (in_first x1 y1 head))) (same_safe z1 p same1 (in_second x1 y1 head))),
        sound_done_each cs es (labelled u.number z) v (subst (λ k. AllGo k (labels_of_each cs) es) (sym same) (all_go (labels_of_each cs) p.procedure (u.number + 1) scope)) (same_around z p same (with_labels_around (u.number + 1) (labels_of_each cs) inner)) (same_safe z p same (in_second (x1 ++ y1) ys h)),
      )
  sound_done (repeat l c) bs p s g a h = sound_done c bs (looping p) s g a h
  sound_done (repeat_while l b c e) bs p s g a h =
      let i = in_both (reported_done bs (looping p) s c) _ h in
      (sound_done c bs (looping p) s g a i.0, sound e Truth bs p (after_done c s) (onto (after_done c s).number a (omega arith)) i.1)

  pub sound_done_each : (cs : Commands) (bs : List Binding) (p : Enclosing) (s : Spot) → AllGo p.procedure (labels_of_each cs) bs → Around bs p.procedure p.depth s.number → Safe p.procedure (reported_done_each bs p s cs) → SoundDoneEach bs p s cs
  sound_done_each no_commands bs p s g a h = tt
  sound_done_each (also c cs) bs p s g a h =
      let i = in_both (reported_done bs p s c) _ h in
      (sound_done c bs p s (go_first p.procedure (labels_of c) (labels_of_each cs) bs g) a i.0, sound_done_each cs bs p (after_done c s) (go_second p.procedure (labels_of c) (labels_of_each cs) bs g) (onto (after_done c s).number a (omega arith)) i.1)

  pub sound_declared : (ds : Declarations) (bs : List Binding) (p : Enclosing) (s : Spot) → Around bs p.procedure p.depth s.number → Safe p.procedure (reported_declared bs p s ds) → SoundDeclared bs p s ds
  sound_declared no_declarations bs p s a h = tt
  sound_declared (declare d ds) bs p s a h =
      let v : Spot = after_one_declared d s in
      let z : Enclosing = place_after_one bs p s d in
      let cs : List Binding = scope_after_one bs p s d in
      let i = in_both (reported_one_declared bs p s d) _ h in
      let same : z.procedure ≡ p.procedure = same_behind_one d bs p s in
      (sound_one_declared d bs p s a i.0, sound_declared ds cs z v (same_around z p same (behind_one_around d bs p s p.procedure v.number refl (omega arith) a i.0)) (same_safe z p same i.1))

  pub sound_one_declared : (d : Declaration) (bs : List Binding) (p : Enclosing) (s : Spot) → Around bs p.procedure p.depth s.number → Safe p.procedure (reported_one_declared bs p s d) → SoundOneDeclared bs p s d
  sound_one_declared (constants l sort.Manifest is) bs p s a h = (manifest_sound is s.number bs p.procedure p.depth s.number (numbered 1 s) a.fits h).0
  sound_one_declared (constants l sort.Static is) bs p s a h = static_sound is s.number bs p.procedure p.depth s.number (numbered 1 s) a.fits h
  sound_one_declared (constants l sort.Global is) bs p s a h = (global_sound is s.number bs p.procedure p.depth s.number (numbered 1 s) bs a.fits a.fits h).0
  sound_one_declared (definitions l ds) bs p s a h =
      let u : Spot = numbered (1 + procedures_in ds) s in
      let cs : List Binding = procedures_in_scope (s.number + 1) ds bs in
      sound_defined ds s.number cs p u (all_callable ds p.procedure p.depth s.number (s.number + 1) bs a.fits) (record { fits = procedures_fit p.procedure p.depth u.number (s.number + 1) ds bs (fits_more p.procedure p.depth p.depth s.number u.number bs (omega arith) (omega arith) a.fits); two = a.two; most = a.most; older = omega (arith, a.older) }) h

  pub sound_defined : (ds : Definitions) (m : ℕ) (bs : List Binding) (p : Enclosing) (s : Spot) → AllCallable ds bs → Around bs p.procedure p.depth s.number → Safe p.procedure (reported_defined m bs p s ds) → SoundDefined bs p s ds
  sound_defined no_definitions m bs p s c a h = tt
  sound_defined (define d ds) m bs p s c a h =
      let v : Spot = after_one_defined d s in
      let z : Enclosing = place_after_one_defined bs p d in
      let xs : List Point = reported_one_defined m bs p s d in
      let ys : List Point = reported_defined m bs z v ds in
      let same : z.procedure ≡ p.procedure = same_behind_one_defined d bs p in
      let g : (p.depth ≤ z.depth) × (z.depth ≤ FRAME_WORDS + 1) = grow_one_defined d bs p a.most in
      let i : OneCallable d bs × AllCallable ds bs = one_callable d ds bs c in
      (sound_one_defined d m bs p s i.0 a (in_first xs ys h), sound_defined ds m bs z v i.1 (same_around z p same (wider_around z.depth v.number a g.0 g.1 (omega arith))) (same_safe z p same (in_second xs ys h)))

  pub sound_one_defined : (d : Definition) (m : ℕ) (bs : List Binding) (p : Enclosing) (s : Spot) → OneCallable d bs → Around bs p.procedure p.depth s.number → Safe p.procedure (reported_one_defined m bs p s d) → SoundOneDefined bs p s d
  sound_one_defined (routine l x fs c) m bs p s g a h =
      let cs : List Binding = labels_in_scope s.number (s.number + 2) (labels_of c) (with_formals s.number 2 fs bs) in
      let q : Enclosing = labelled (s.number + 1) (called true s.number (length fs)) in
      let u : Spot = onward (1 + length fs) (2 + length (labels_of c)) s in
      let body : List Point = reported_done cs q u c in
      let r : FrameSound (length fs) body × Safe s.number body = procedure_safe p.procedure m s.number s l x fs (bound_in bs x) body h in
      (g, r.0, sound_done c cs q u (all_go (labels_of c) s.number (s.number + 2) (with_formals s.number 2 fs bs)) (with_labels_around (s.number + 2) (labels_of c) (inner_around bs p.procedure p.depth s fs body u.number a r.0 (omega arith))) r.1)
  sound_one_defined (function l x fs e) m bs p s g a h =
      let cs : List Binding = with_formals s.number 2 fs bs in
      let q : Enclosing = called false s.number (length fs) in
      let u : Spot = onward (1 + length fs) 1 s in
      let body : List Point = reported Value cs q u e in
      let r : FrameSound (length fs) body × Safe s.number body = procedure_safe p.procedure m s.number s l x fs (bound_in bs x) body h in
      (g, r.0, sound e Value cs q u (inner_around bs p.procedure p.depth s fs body u.number a r.0 (omega arith)) r.1)
  sound_one_defined (variables l xs is) m bs p s g a h = sound_started is bs p (past (length xs) s) (onto (past (length xs) s).number a (omega arith)) (in_second (each_of m s.place xs) (reported_started bs p (past (length xs) s) is) h)

  pub sound_started : (is : Starts) (bs : List Binding) (p : Enclosing) (s : Spot) → Around bs p.procedure p.depth s.number → Safe p.procedure (reported_started bs p s is) → SoundStarted bs p s is
  sound_started no_starts bs p s a h = tt
  sound_started (value e is) bs p s a h =
      (sound e Value bs p s a (in_first _ _ h), sound_started is bs (deeper 1 p) (following e s) (below 1 (following e s).number a (omega arith)) (in_second _ _ h))
  sound_started (vector l e is) bs p s a h =
      let v : ℕ = words_of_start bs e in
      let us : List Point = constant bs p.procedure s e in
      let xs : List Point = us ++ at_most VEC_NUMBER s.place (at_expression e) vec_out_of_range (constant_word bs e) in
      let ys : List Point = reported_started bs (deeper (v + 1) p) (after_constant e s) is in
      (bounded_worded e VEC_NUMBER vec_out_of_range bs p.procedure p.depth s.number s a.fits (in_first xs (pushed p (v + 1)) (in_first (xs ++ pushed p (v + 1)) ys h)), sound_started is bs (deeper (v + 1) p) (after_constant e s) (below (v + 1) (after_constant e s).number a (omega arith)) (in_second (xs ++ pushed p (v + 1)) ys h))

-- A SECTION WITHOUT FAULTS is sound
pub section_sound : (ds : Declarations) → faults ds ≡ [] → SoundSection ds
section_sound ds h =
    sound_declared ds [] outermost beginning (record { fits = tt; two = omega arith; most = omega arith; older = omega arith })
    (safe_outside (reported_of ds) (no_wrong (reported_of ds) [] (section_clean ds h)))

-- What the grammar allows is read.
use Rattle.bk_grammar.proofs.Terms.{◌≡◌, ℕ, ◌+◌, ◌<◌, ◌≤◌, Bool, true, false, cond, List, ◌∷◌, Some, None, refl, sym, ap, subst, ◌∙◌, inl, inr, arith, Kind, Kind as k, Symbol, Operator, Operator as o, Expression, Expressions, Command, Commands, Declarations, parens, unary, binary, choice, apply, valof, table, none, more, empty, assign, call, goto, label, default, when, test, while, for_loop, result, simple, block, repeat, repeat_while, no_declarations, declare, row, inner, left, is_relation, infix_of, begins_operand, begins_command, repeats, assigns, is_comma, goes, Fails, Stops, Leaf, last, Full, EndsCommand, Filled, if_or_unless, while_or_until, Reads, Each, Does, at_expression, at_expressions, size, Stack, in_block, in_binary, in_chain, in_table, in_start, in_values, State, want, have, begin, maybe, did, due, limit, linked, guarded, after_sign, bars, give, finish, without, stepped_by, run, each_then, position_of}
use Rattle.bk_grammar.proofs.Steps.{stepped, same_step, alike, takes, failing, failing_both, stops_alike, repeats_alike, pushes, row_le, infix_goes, push_infix, prefix_begins, leaf_begins, operand_begins, simple_begins, guard_begins, at_operand, at_item, same_eq, less_eq}

-- ---- expressions

-- an infix operator within the rows is taken
pub takes_infix : (st : Stack) (a : Expression) (q : Operator) (t : Symbol) (ms : List Symbol) → infix_of t.kind ≡ Some q → row q ≤ limit st
    → run (t ∷ ms) (have st a) ≡ run ms (cond (is_relation q) (linked q (position_of t) a st (last a)) (want (in_binary q (position_of t) a st)))
takes_infix st a q t ms is le = grind (arith, stepped, is, push_infix, (pushes st a (position_of t) t.text t.kind (infix_goes t.kind q (limit st) is le) ∙ push_infix t.kind q st a (position_of t) is), (infix_goes t.kind q (limit st) is le))

pub cond_pick : (b : Bool) (x y : State) → (b ≡ true → x ≡ y) → cond b x y ≡ y
cond_pick b x y h1 = grind arith

pub plain_link : (q : Operator) (s : ℕ) (a : Expression) (st : Stack) → (is_relation q ≡ true → last a ≡ None) → cond (is_relation q) (linked q s a st (last a)) (want (in_binary q s a st)) ≡ want (in_binary q s a st)
plain_link q s a st free = cond_pick (is_relation q) (linked q s a st (last a)) (want (in_binary q s a st)) (λ h. ap (linked q s a st) (free h))

pub lines : (l s m n : ℕ) (q : Operator) (a b : Expression) → m ≡ l → n ≡ s → binary m q n a b ≡ binary l q s a b
lines l s m n q a b h j = rw (h, j) refl

-- a wanted right operand, with what stands left of it, makes the whole
pub joins : (st : Stack) (l s : ℕ) (a b : Expression) (q : Operator) (t : Symbol) (ms us : List Symbol) → infix_of t.kind ≡ Some q → position_of t ≡ s → l ≡ at_expression a → row q ≤ limit st → (is_relation q ≡ true → last a ≡ None)
    → run ms (want (in_binary q (position_of t) a st)) ≡ run us (have (in_binary q (position_of t) a st) b) → Stops (inner q) us → run (t ∷ ms) (have st a) ≡ run us (have st (binary l q s a b))
joins st l s a b q t ms us is at from le free right stops =
    takes_infix st a q t ms is le ∙ ap (run ms) (plain_link q (position_of t) a st free) ∙ right
    ∙ stops_alike (inner q) us (have (in_binary q (position_of t) a st) b) (have st (binary (at_expression a) q (position_of t) a b)) stops (λ m x y h. rw h refl)
    ∙ ap (λ e. run us (have st e)) (lines l s (at_expression a) (position_of t) q a b (sym from) at)

pub chain_lines : (l s m n : ℕ) (q : Operator) (a b c : Expression) (t : ℕ) → t ≡ s → n ≡ s → l ≡ at_expression a → m ≡ at_expression b
    → binary (at_expression a) o.Both t a (binary (at_expression b) q t b c) ≡ binary l o.Both s a (binary m q n b c)
chain_lines l s m n q a b c t h j p r = rw (h, j, p, r) refl

pub joins_chain : (st : Stack) (l s m n : ℕ) (a b c : Expression) (q : Operator) (t : Symbol) (ms us : List Symbol) → infix_of t.kind ≡ Some q → position_of t ≡ s → n ≡ s → l ≡ at_expression a → m ≡ at_expression b → row q ≤ limit st
    → is_relation q ≡ true → last a ≡ Some b → run ms (want (in_chain q (position_of t) a b st)) ≡ run us (have (in_chain q (position_of t) a b st) c) → Stops 5 us
    → run (t ∷ ms) (have st a) ≡ run us (have st (binary l o.Both s a (binary m q n b c)))
joins_chain st l s m n a b c q t ms us is at also_at from shared_from le rel shares right stops =
    let e : cond (is_relation q) (linked q (position_of t) a st (last a)) (want (in_binary q (position_of t) a st)) ≡ want (in_chain q (position_of t) a b st) = rw (rel, shares) refl in
    takes_infix st a q t ms is le ∙ ap (run ms) e ∙ right
    ∙ stops_alike 5 us (have (in_chain q (position_of t) a b st) c) (have st (binary (at_expression a) o.Both (position_of t) a (binary (at_expression b) q (position_of t) b c))) stops (λ i x y h. rw h refl)
    ∙ ap (λ e. run us (have st e)) (chain_lines l s m n q a b c (position_of t) at also_at from shared_from)

pub row_6 : (q : Operator) → is_relation q ≡ true → row q ≡ 6
row_6 q h1 = grind arith

pub last_none : (a : Expression) (ts us : List Symbol) → Reads 5 a ts us → last a ≡ None
last_none a ts us h1 = grind arith

-- the left operand of a relation is none
pub free_left : (q : Operator) (a : Expression) (ts us : List Symbol) → Reads (left q) a ts us → is_relation q ≡ true → last a ≡ None
free_left q a ts us h r = let P : ℕ → Type 0 = λ rows. Reads rows a ts us in last_none a ts us (subst P (rw r refl) h)

pub each_stops : (xs : Expressions) (ts us : List Symbol) → Each xs ts us → Stops 12 us
each_stops none ts us h = absurd h
each_stops (more x none) ts us h = h.1
each_stops (more x (more y ys)) ts us h = each_stops (more y ys) h.1 us h.4

-- where a comma is owed, one comes, or else the expression goes on
abbrev pub Free : Stack → List Symbol → Type 0
Free st us = Stops 12 us → Fails is_comma us → bars st ≡ false

pub at_goes : (st : Stack) (t : Symbol) (ms : List Symbol) → goes 12 t.kind ≡ true → Free st (t ∷ ms)
at_goes st t ms h = λ stops plain. absurd cc

pub at_infix : (st : Stack) (q : Operator) (t : Symbol) (ms : List Symbol) → infix_of t.kind ≡ Some q → Free st (t ∷ ms)
at_infix st q t ms h = at_goes st t ms (infix_goes t.kind q 12 h (let r = row_le q in omega arith))

pub at_open : (st : Stack) (t : Symbol) (ms : List Symbol) → t.kind ≡ k.Open → Free st (t ∷ ms)
at_open st t ms h = at_goes st t ms (ap (goes 12) h)

pub at_arrow : (st : Stack) (t : Symbol) (ms : List Symbol) → t.kind ≡ k.Arrow → Free st (t ∷ ms)
at_arrow st t ms h = at_goes st t ms (ap (goes 12) h)

pub at_comma : (st : Stack) (t : Symbol) (ms : List Symbol) → t.kind ≡ k.Comma → Free st (t ∷ ms)
at_comma st t ms h = λ stops plain. let e : is_comma t.kind ≡ true = ap is_comma h in absurd cc

pub table_ends : (l : ℕ) (es : Expressions) (x : Expression) (us : List Symbol) (st : Stack) → Stops 12 us → Fails is_comma us → run us (have (in_table l es st) x) ≡ run us (have st (table l (each_then es (more x none))))
table_ends l es x us st stops bare = grind (arith, alike, none, failing_both, (table l (each_then es (more x none))), (more x none), (goes 12), (takes us (have st (table l (each_then es (more x none))))))

-- ---- how commands begin

-- the first symbol passes a test
pub record Opens (passes : Kind → Bool) (ts : List Symbol) : Type 0 where
  pub first : Symbol
  pub rest : List Symbol
  pub is : ts ≡ first ∷ rest
  pub good : passes first.kind ≡ true

pub opens_leaf : (e : Expression) (ts us : List Symbol) → Leaf e ts us → Opens begins_operand ts
opens_leaf e ts us h = record { first = h.0; rest = us; is = h.1; good = leaf_begins h.0.kind (position_of h.0) h.0.text e h.2 }

pub opens_read : (rows : ℕ) (e : Expression) (ts us : List Symbol) → Reads rows e ts us → Opens begins_operand ts
opens_read rows (parens l x) ts us h = record { first = h.0; rest = h.1; is = h.3; good = ap begins_operand h.4 }
opens_read rows (unary l p x) ts us h = record { first = h.1; rest = h.2; is = h.3; good = prefix_begins h.1.kind p h.4 }
opens_read rows (binary l o.Both s x (binary m q n b c)) ts us (inl h) = opens_read 9 x ts (h.1 ∷ h.2) h.6
opens_read rows (binary l o.Both s x (binary m q n b c)) ts us (inr h) = opens_read 6 x ts (h.1 ∷ h.2) h.10
opens_read rows (binary l q s a b) ts us h = opens_read (left q) a ts (h.1 ∷ h.2) h.6
opens_read rows (choice l s c a b) ts us h = opens_read 11 c ts (h.1 ∷ h.2) h.9
opens_read rows (apply l s f none) ts us h = opens_read 0 f ts (h.0 ∷ h.1 ∷ us) h.6
opens_read rows (apply l s f (more x xs)) ts us h = opens_read 0 f ts (h.0 ∷ h.1) h.7
opens_read rows (valof l c) ts us h = record { first = h.0; rest = h.1; is = h.2; good = ap begins_operand h.3 }
opens_read rows (table l xs) ts us h = record { first = h.0; rest = h.1; is = h.2; good = ap begins_operand h.3 }
opens_read rows y ts us h = opens_leaf y ts us h

pub widen : (ts : List Symbol) → Opens begins_operand ts → Opens begins_command ts
widen ts h = record { first = h.first; rest = h.rest; is = h.is; good = operand_begins h.first.kind h.good }

pub opens_each : (xs : Expressions) (ts us : List Symbol) → Each xs ts us → Opens begins_operand ts
opens_each none ts us h = absurd h
opens_each (more x none) ts us h = opens_read 12 x ts us h.0
opens_each (more x (more y ys)) ts us h = opens_read 12 x ts (h.0 ∷ h.1) h.3

pub opens_does : (c : Command) (ts us : List Symbol) → Filled c → Does c ts us → Opens begins_command ts
opens_does empty ts us full h = absurd full
opens_does (assign l xs ys) ts us full h = widen ts (opens_each xs ts (h.0 ∷ h.1) h.5)
opens_does (call l f none) ts us full h = widen ts (opens_read 0 f ts (h.0 ∷ h.1 ∷ us) h.5)
opens_does (call l f (more x xs)) ts us full h = widen ts (opens_read 0 f ts (h.0 ∷ h.1) h.6)
opens_does (goto l x) ts us full h = record { first = h.0; rest = h.1 ∷ us; is = h.2; good = ap begins_command h.3 }
opens_does (label l x c) ts us full h = record { first = h.0; rest = h.1 ∷ h.2; is = h.3; good = ap begins_command h.4.0 }
opens_does (default l c) ts us full h = record { first = h.0; rest = h.1 ∷ h.2; is = h.3; good = ap begins_command h.4 }
opens_does (test l e a b) ts us full h = record { first = h.0; rest = h.1; is = h.6; good = ap begins_command h.7 }
opens_does (for_loop l x a b none c) ts us full h = record { first = h.0; rest = h.1 ∷ h.2 ∷ h.3; is = h.8; good = ap begins_command h.9 }
opens_does (for_loop l x a b (more i none) c) ts us full h = record { first = h.0; rest = h.1 ∷ h.2 ∷ h.3; is = h.10; good = ap begins_command h.11 }
opens_does (for_loop l x a b (more i (more j is)) c) ts us full h = absurd h
opens_does (result l e) ts us full h = record { first = h.0; rest = h.1; is = h.2; good = ap begins_command h.3 }
opens_does (simple l w) ts us full h = record { first = h.0; rest = us; is = h.1; good = simple_begins h.0.kind w h.2 }
opens_does (block l no_declarations cs) ts us full h = record { first = h.0; rest = h.1; is = h.3; good = ap begins_command h.4 }
opens_does (block l (declare d ds) cs) ts us full h = record { first = h.0; rest = h.1; is = h.4; good = ap begins_command h.5 }
opens_does (repeat l c) ts us full h = opens_does c ts (h.0 ∷ us) h.3 h.4
opens_does (repeat_while l b c e) ts us full h = opens_does c ts (h.0 ∷ h.1) h.4 h.5
opens_does y ts us full h = record { first = h.0; rest = h.1; is = h.4; good = guard_begins h.0.kind _ h.5 }

-- two states that take the first symbol alike
pub at_first : (passes : Kind → Bool) (ts : List Symbol) (x y : State) → Opens passes ts → ((l : ℕ) (s : List ℕ) (t : Kind) → passes t ≡ true → stepped_by x l s t ≡ stepped_by y l s t) → run ts x ≡ run ts y
at_first passes ts x y h f =
    ap (λ z. run z x) h.is ∙ same_step h.first h.rest x y (f (position_of h.first) h.first.text h.first.kind h.good) ∙ ap (λ z. run z y) (sym h.is)

pub opened : (st : Stack) (ts : List Symbol) → Opens begins_operand ts → run ts (begin st) ≡ run ts (want (in_start st))
opened st ts h = at_first begins_operand ts (begin st) (want (in_start st)) h (λ l s t good. at_operand t st l s good)

pub item_starts : (b : ℕ) (ds : Declarations) (cs : Commands) (st : Stack) (ts : List Symbol) → Opens begins_command ts → run ts (due (in_block b true ds cs st)) ≡ run ts (begin (in_block b true ds cs st))
item_starts b ds cs st ts h = at_first begins_command ts (due (in_block b true ds cs st)) (begin (in_block b true ds cs st)) h (λ l s t good. at_item t b ds cs st l s good)

pub full_filled : (c : Command) (us : List Symbol) → Full c us → Filled c
full_filled c us h1 = grind arith

pub full_fails : (c : Command) (us : List Symbol) → Full c us → Fails repeats us
full_fails c us h1 = grind arith

-- a command behind a colon, or none
pub perhaps : (c : Command) (ts us : List Symbol) (fr st : Stack) (make : Command → Command)
    → ((l : ℕ) (s : List ℕ) (t : Kind) → without fr l s t ≡ finish st (make empty) l s t)
    → ((a : Command) (l : ℕ) (s : List ℕ) (t : Kind) → repeats t ≡ false → finish fr a l s t ≡ finish st (make a) l s t)
    → (Filled c → run ts (begin fr) ≡ run us (did fr c)) → Does c ts us → EndsCommand c us → run ts (maybe fr) ≡ run us (did st (make c))
perhaps empty ts us fr st make bare made runs h ends = grind (arith, alike, empty, failing, (did st (make empty)), (takes us (did st (make empty))))
perhaps c ts us fr st make bare made runs h ends =
    at_first begins_command ts (maybe fr) (begin fr) (opens_does c ts us tt h) (λ l s t good. rw good refl)
    ∙ runs tt ∙ repeats_alike us (did fr c) (did st (make c)) ends (λ l s t f. made c l s t f)

pub guarded_when : (b : Bool) (l : ℕ) (e : Expression) (c : Command) → guarded (if_or_unless b) l e c ≡ when l b e c
guarded_when b l e c = grind arith

pub guarded_while : (b : Bool) (l : ℕ) (e : Expression) (c : Command) → guarded (while_or_until b) l e c ≡ while l b e c
guarded_while b l e c = grind arith

pub begins_if : (b : Bool) (st : Stack) → after_sign (if_or_unless b) st ≡ begin st
begins_if b st = grind arith

pub begins_while : (b : Bool) (st : Stack) → after_sign (while_or_until b) st ≡ begin st
begins_while b st = grind arith

pub call_ends : (st : Stack) (m s : ℕ) (f : Expression) (es : Expressions) (us : List Symbol) → Stops 12 us → Fails assigns us → run us (have (in_start st) (apply m s f es)) ≡ run us (did st (call m f es))
call_ends st m s f es us stops fails = grind (arith, alike, failing_both, (did st (call m f es)), (goes 12), (takes us (did st (call m f es))))

pub value_ends : (xs zs : Expressions) (y : Expression) (us : List Symbol) (st : Stack) → size xs ≡ size zs + 1 → Stops 12 us
    → run us (have (in_values xs zs st) y) ≡ run us (did st (assign (at_expressions xs) xs (each_then zs (more y none))))
value_ends xs zs y us st n stops =
    stops_alike 12 us (have (in_values xs zs st) y) (did st (assign (at_expressions xs) xs (each_then zs (more y none)))) stops (λ l x t h. rw (h, same_eq (size xs) (size zs + 1) n) refl)

pub value_more : (xs zs : Expressions) (y : Expression) (l : ℕ) (x : List ℕ) (t : Kind) (st : Stack) → size zs + 1 < size xs → t ≡ k.Comma → give (in_values xs zs st) y l x t ≡ Some (want (in_values xs (each_then zs (more y none)) st))
value_more xs zs y l x t st n is = rw (is, less_eq (size xs) (size zs + 1) n) refl

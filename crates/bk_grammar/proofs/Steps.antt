-- Steps of the machine, and where two states go on alike.
use Rattle.bk_grammar.proofs.Terms.{◌≡◌, ℕ, ◌+◌, ◌<◌, ◌≤◌, Bool, true, false, cond, List, [], ◌∷◌, Option, Some, None, ◌==◌, refl, sym, ap, ◌∙◌, arith, lt-ltb, nat_tests, Kind, Kind as k, Symbol, Operator, Operator as o, Prefix, Simple, Guard, Guard as g, Expression, Expressions, Command, Commands, Declaration, Declarations, Items, Definition, Definitions, Starts, none, more, simple, no_commands, also, no_declarations, declare, no_items, item, no_definitions, define, no_starts, value, vector, row, inner, left, is_relation, infix_of, prefix_of, leaf, simple_of, guard_of, sign_of, begins_operand, begins_command, repeats, assigns, is_comma, goes, Fails, Stops, last, size, start_count, Stack, in_block, in_unary, in_binary, in_start, in_guard, in_guarded, State, want, have, did, limit, linked, push, after_sign, take_operand, take_command, take_in_block, again, give, finish, stepped_by, step, whole, going, run, each_then, commands_then, declarations_then, items_then, definitions_then, starts_then, nat_lt, ltb-true, position_of}

-- one step
pub stepped : (x next : State) (t : Symbol) (ts : List Symbol) → step x t ≡ Some next → run (t ∷ ts) x ≡ run ts next
unfolding run
stepped x next t ts h = ap (λ y. going (t ∷ ts) (run ts) y) h

pub same_step : (t : Symbol) (ts : List Symbol) (x y : State) → step x t ≡ step y t → run (t ∷ ts) x ≡ run (t ∷ ts) y
unfolding run
same_step t ts x y h = ap (λ z. going (t ∷ ts) (run ts) z) h

-- what comes next, a symbol or the end, is taken so
abbrev pub Takes : List Symbol → State → (ℕ → List ℕ → Kind → Option State) → Type 0
Takes [] x f = stepped_by x 1 [] k.Semicolon ≡ f 1 [] k.Semicolon
Takes (t ∷ us) x f = stepped_by x (position_of t) t.text t.kind ≡ f (position_of t) t.text t.kind

pub alike : (us : List Symbol) (x y : State) (f : ℕ → List ℕ → Kind → Option State) → Takes us x f → Takes us y f → run us x ≡ run us y
unfolding run
alike us x y f h1 h2 = grind (arith, whole, going)

pub takes : (us : List Symbol) (x : State) → Takes us x (stepped_by x)
takes us x = grind arith

-- a symbol that fails a test, or the end
pub failing : (passes : Kind → Bool) (us : List Symbol) (x : State) (f : ℕ → List ℕ → Kind → Option State) → passes k.Semicolon ≡ false → Fails passes us
    → ((l : ℕ) (s : List ℕ) (t : Kind) → passes t ≡ false → stepped_by x l s t ≡ f l s t) → Takes us x f
failing passes us x f h1 h2 h3 = grind arith

pub failing_both : (p q : Kind → Bool) (us : List Symbol) (x : State) (f : ℕ → List ℕ → Kind → Option State) → p k.Semicolon ≡ false → q k.Semicolon ≡ false → Fails p us → Fails q us
    → ((l : ℕ) (s : List ℕ) (t : Kind) → p t ≡ false → q t ≡ false → stepped_by x l s t ≡ f l s t) → Takes us x f
failing_both p q us x f h1 h2 h3 h4 h5 = grind arith

-- two states that go on alike where an expression of these rows does not go on
pub stops_alike : (rows : ℕ) (us : List Symbol) (x y : State) → Stops rows us → ((l : ℕ) (s : List ℕ) (t : Kind) → goes rows t ≡ false → stepped_by x l s t ≡ stepped_by y l s t) → run us x ≡ run us y
stops_alike rows us x y h g = alike us x y (stepped_by y) (failing (goes rows) us x (stepped_by y) refl h g) (takes us y)

-- two states that go on alike where nothing repeats the command
pub repeats_alike : (us : List Symbol) (x y : State) → Fails repeats us → ((l : ℕ) (s : List ℕ) (t : Kind) → repeats t ≡ false → stepped_by x l s t ≡ stepped_by y l s t) → run us x ≡ run us y
repeats_alike us x y h g = alike us x y (stepped_by y) (failing repeats us x (stepped_by y) refl h g) (takes us y)

pub pushes : (st : Stack) (e : Expression) (l : ℕ) (x : List ℕ) (t : Kind) → goes (limit st) t ≡ true → give st e l x t ≡ push st e t l
pushes st e l x t h1 = grind arith

pub repeated : (st : Stack) (c : Command) (l : ℕ) (x : List ℕ) (t : Kind) → repeats t ≡ true → finish st c l x t ≡ again st c t
repeated st c l x t h1 = grind arith

pub left_le : (o : Operator) → left o ≤ row o
left_le o = grind arith

pub row_le : (o : Operator) → row o < 12
row_le o = grind arith

pub inner_is : (o : Operator) → inner o + 1 ≡ row o
inner_is o = grind arith

-- an infix operator goes on in the rows from its own
abbrev by_row : ℕ → Bool → Option Operator → Bool
by_row rows other None = other
by_row rows other (Some q) = nat_lt (inner q) rows

goes_row : (t : Kind) (rows : ℕ) → goes rows t ≡ by_row rows (goes rows t) (infix_of t)
goes_row t rows = grind arith

goes_by : (t : Kind) (q : Operator) (rows : ℕ) → infix_of t ≡ Some q → goes rows t ≡ nat_lt (inner q) rows
goes_by t q rows h = goes_row t rows ∙ ap (by_row rows (goes rows t)) h

pub infix_goes : (t : Kind) (q : Operator) (rows : ℕ) → infix_of t ≡ Some q → row q ≤ rows → goes rows t ≡ true
infix_goes t q rows h le = goes_by t q rows h ∙ lt-ltb (inner q) rows (omega (arith, inner_is q, le))

pub infix_row : (t : Kind) (q : Operator) (rows : ℕ) → infix_of t ≡ Some q → goes rows t ≡ true → row q ≤ rows
infix_row t q rows h j = omega (arith, inner_is q, ltb-true (inner q) rows (sym (goes_by t q rows h) ∙ j))

pub push_infix : (t : Kind) (q : Operator) (st : Stack) (e : Expression) (s : ℕ) → infix_of t ≡ Some q → push st e t s ≡ Some (cond (is_relation q) (linked q s e st (last e)) (want (in_binary q s e st)))
push_infix t q st e s h1 = grind arith

pub leaf_step : (t : Kind) (st : Stack) (l : ℕ) (x : List ℕ) (e : Expression) → leaf t l x ≡ Some e → take_operand st l x t ≡ Some (have st e)
leaf_step t st l x e h1 = grind arith

pub prefix_step : (t : Kind) (st : Stack) (l : ℕ) (x : List ℕ) (p : Prefix) → prefix_of t ≡ Some p → take_operand st l x t ≡ Some (want (in_unary l p st))
prefix_step t st l x p h1 = grind arith

pub simple_step : (t : Kind) (st : Stack) (l : ℕ) (x : List ℕ) (w : Simple) → simple_of t ≡ Some w → take_command st l x t ≡ Some (did st (simple l w))
simple_step t st l x w h1 = grind arith

pub guard_step : (t : Kind) (st : Stack) (l : ℕ) (x : List ℕ) (gd : Guard) → guard_of t ≡ Some gd → take_command st l x t ≡ Some (want (in_guard gd l st))
guard_step t st l x gd h1 = grind arith

pub sign_step : (gd : Guard) (t : Kind) (m : ℕ) (e : Expression) (st : Stack) (l : ℕ) (x : List ℕ) → t ≡ sign_of gd → give (in_guard gd m st) e l x t ≡ Some (after_sign gd (in_guarded gd m e st))
sign_step gd t m e st l x h1 = grind arith

pub prefix_begins : (t : Kind) (p : Prefix) → prefix_of t ≡ Some p → begins_operand t ≡ true
prefix_begins t p h1 = grind arith

pub leaf_begins : (t : Kind) (l : ℕ) (x : List ℕ) (e : Expression) → leaf t l x ≡ Some e → begins_operand t ≡ true
leaf_begins t l x e h1 = grind arith

pub operand_begins : (t : Kind) → begins_operand t ≡ true → begins_command t ≡ true
operand_begins t h1 = grind arith

pub simple_begins : (t : Kind) (w : Simple) → simple_of t ≡ Some w → begins_command t ≡ true
simple_begins t w h1 = grind arith

pub guard_begins : (t : Kind) (gd : Guard) → guard_of t ≡ Some gd → begins_command t ≡ true
guard_begins t gd h1 = grind arith

-- a command that begins with an operand
pub at_operand : (t : Kind) (st : Stack) (l : ℕ) (x : List ℕ) → begins_operand t ≡ true → take_command st l x t ≡ take_operand (in_start st) l x t
at_operand t st l x h1 = grind arith

either : (b : Bool) (x y : Option State) → x ≡ y → cond b x y ≡ y
either b x y h1 = grind arith

-- a command in a block
pub at_item : (t : Kind) (b : ℕ) (ds : Declarations) (cs : Commands) (st : Stack) (l : ℕ) (x : List ℕ) → begins_command t ≡ true
    → take_in_block b true ds cs st l x t ≡ take_command (in_block b true ds cs st) l x t
at_item t b ds cs st l x h1 = grind (arith, either)

pub same_eq : (m n : ℕ) → m ≡ n → (m == n) ≡ true
same_eq m n h = grind (arith, nat_tests)

pub less_eq : (m n : ℕ) → n < m → (m == n) ≡ false
less_eq m n h = grind (arith, nat_tests)

pub each_end : (xs : Expressions) (e : Expression) (ys : Expressions) → each_then (each_then xs (more e none)) ys ≡ each_then xs (more e ys)
each_end none e ys = refl
each_end (more x xs) e ys = ap (more x) (each_end xs e ys)

pub commands_end : (xs : Commands) (e : Command) (ys : Commands) → commands_then (commands_then xs (also e no_commands)) ys ≡ commands_then xs (also e ys)
commands_end no_commands e ys = refl
commands_end (also x xs) e ys = ap (also x) (commands_end xs e ys)

pub declarations_end : (xs : Declarations) (e : Declaration) (ys : Declarations) → declarations_then (declarations_then xs (declare e no_declarations)) ys ≡ declarations_then xs (declare e ys)
declarations_end no_declarations e ys = refl
declarations_end (declare x xs) e ys = ap (declare x) (declarations_end xs e ys)

pub declarations_all : (xs : Declarations) → declarations_then xs no_declarations ≡ xs
declarations_all no_declarations = refl
declarations_all (declare x xs) = ap (declare x) (declarations_all xs)

pub items_end : (xs : Items) (l : ℕ) (n : List ℕ) (e : Expression) (ys : Items) → items_then (items_then xs (item l n e no_items)) ys ≡ items_then xs (item l n e ys)
items_end no_items l n e ys = refl
items_end (item a b c xs) l n e ys = ap (item a b c) (items_end xs l n e ys)

pub definitions_end : (xs : Definitions) (e : Definition) (ys : Definitions) → definitions_then (definitions_then xs (define e no_definitions)) ys ≡ definitions_then xs (define e ys)
definitions_end no_definitions e ys = refl
definitions_end (define x xs) e ys = ap (define x) (definitions_end xs e ys)

pub value_end : (xs : Starts) (e : Expression) (ys : Starts) → starts_then (starts_then xs (value e no_starts)) ys ≡ starts_then xs (value e ys)
value_end no_starts e ys = refl
value_end (value x xs) e ys = ap (value x) (value_end xs e ys)
value_end (vector l x xs) e ys = ap (vector l x) (value_end xs e ys)

pub vector_end : (xs : Starts) (m : ℕ) (e : Expression) (ys : Starts) → starts_then (starts_then xs (vector m e no_starts)) ys ≡ starts_then xs (vector m e ys)
vector_end no_starts m e ys = refl
vector_end (value x xs) m e ys = ap (value x) (vector_end xs m e ys)
vector_end (vector l x xs) m e ys = ap (vector l x) (vector_end xs m e ys)

pub size_then : (xs ys : Expressions) → size (each_then xs ys) ≡ size xs + size ys
size_then none ys = omega arith
size_then (more x xs) ys = let h = size_then xs ys in omega arith

pub count_then : (xs ys : Starts) → start_count (starts_then xs ys) ≡ start_count xs + start_count ys
count_then no_starts ys = omega arith
count_then (value x xs) ys = let h = count_then xs ys in omega arith
count_then (vector l x xs) ys = let h = count_then xs ys in omega arith

-- what is not for an assignment is no comma
pub no_comma : (t : Kind) → assigns t ≡ false → is_comma t ≡ false
no_comma t h1 = grind arith

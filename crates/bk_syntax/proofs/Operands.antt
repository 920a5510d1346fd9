-- Ways on behind an expression, by what it stands in.
use Rattle.bk_syntax.proofs.Terms.{◌≡◌, ℕ, ◌+◌, max, Bool, true, false, List, [], length, ◌==◌, Some, refl, inl, inr, arith, nat_lt, Kind, Label, Call, Callable, Other, Expression, Expressions, binary, choice, apply, table, none, more, depth, depth_of_each, depth_of_command, nodes, nodes_of_each, nodes_of_command, inner, following, is_comma, goes, at_expression, size, start_count, Stack, in_unary, in_binary, in_chain, in_then, in_else, in_args, in_table, in_start, in_values, in_value, in_vector, in_label, in_guarded, in_default, in_or, in_for, State, want, have, limit, give, stepped_by, each_then, form_of, Lookahead, closing, assigning, listing, going, repeating, operating, Any, Unlisted, If, Whole, Taken, Gives, Does, Operates, pushes, no_comma, falls, binary_done, each_depth, each_nodes, Kind as k, Operator, Operator as o, Prefix, Prefix as p}
use Rattle.bk_frames.specs.declared.size.Form.{Form}
use Rattle.bk_syntax.proofs.Onward.{Completion, CompletionBy, IsOf, sized, step_on, step_by, same_by, at_argument, Ends, Leaves, ends_expression, GivesOn, given, name_here, name_on, depth_some}

-- ---- no symbol comes that the part would take

if_ends : (F G : Lookahead → Type 0) (b : Bool) (c : Lookahead) → (F c → Ends c) → (G c → Ends c) → If b F G c → Ends c
if_ends F G true c f g h = f h
if_ends F G false c f g h = g h

-- with the symbol behind an expression none goes on
pub gives_ends : (P : ℕ → ℕ → Type 0) (st : Stack) (f : Form) (d n : ℕ) (c : Lookahead) → Gives P st f d n c → Ends c
gives_ends P st f d n closing h = tt
gives_ends P st f d n assigning h = tt
gives_ends P st f d n listing h = tt
gives_ends P st f d n repeating h = tt
gives_ends P (in_unary l q st) f d n c h = gives_ends P st Other (d + 1) (n + 1) c h
gives_ends P (in_binary q s a st) f d n c h = gives_ends P st Other (max (depth a) d + 1) (nodes a + n + 1) c h
gives_ends P (in_chain q s a b st) f d n c h = gives_ends P st Other (max (depth a) (max (depth b) d + 1) + 1) (nodes a + (nodes b + n + 1) + 1) c h
gives_ends P (in_else s x a st) f d n c h = gives_ends P st Other (max (depth x) (max (depth a) d) + 1) (nodes x + nodes a + n + 1) c h
gives_ends P (in_table l es st) f d n going h = gives_ends P st Other (max (depth_of_each es) d + 1) (nodes_of_each es + n + 1) going h
gives_ends P (in_table l es st) f d n operating h = gives_ends P st Other (max (depth_of_each es) d + 1) (nodes_of_each es + n + 1) operating h
gives_ends P (in_start st) Label d n going h = h
gives_ends P (in_start st) Label d n operating h = h
gives_ends P (in_values xs ys st) f d n going h = if_ends _ _ (size xs == size ys + 1) going (λ z. z) (λ z. z) h
gives_ends P (in_values xs ys st) f d n operating h = if_ends _ _ (size xs == size ys + 1) operating (λ z. z) (λ z. z) h
gives_ends P (in_value xs is st) f d n going h = if_ends _ _ (length xs == start_count is + 1) going (λ z. z) (λ z. z) h
gives_ends P (in_value xs is st) f d n operating h = if_ends _ _ (length xs == start_count is + 1) operating (λ z. z) (λ z. z) h
gives_ends P (in_vector l xs is st) f d n going h = if_ends _ _ (length xs == start_count is + 1) going (λ z. z) (λ z. z) h
gives_ends P (in_vector l xs is st) f d n operating h = if_ends _ _ (length xs == start_count is + 1) operating (λ z. z) (λ z. z) h
gives_ends P _ f d n going h = h
gives_ends P _ f d n operating h = h

-- with the symbol behind a command none is repeated
pub does_leave : (P : ℕ → ℕ → Type 0) (st : Stack) (d n : ℕ) (c : Lookahead) → Does P st d n c → Leaves c
does_leave P st d n closing h = tt
does_leave P (in_label l x st) d n repeating h = does_leave P st (d + 1) (n + 1) repeating h
does_leave P (in_guarded q l e st) d n repeating h = does_leave P st (max (depth e) d + 1) (nodes e + n + 1) repeating h
does_leave P (in_default l st) d n repeating h = does_leave P st (d + 1) (n + 1) repeating h
does_leave P (in_or l e a st) d n repeating h = does_leave P st (max (depth e) (max (depth_of_command a) d) + 1) (nodes e + nodes_of_command a + n + 1) repeating h
does_leave P (in_for l x a b y st) d n repeating h = does_leave P st (max (depth a) (max (depth b) (max (depth_of_each y) d)) + 1) (nodes a + nodes b + nodes_of_each y + n + 1) repeating h
does_leave P _ d n repeating h = h
does_leave P st d n z h = tt

-- ---- an expression as the end of another one

pub gives_as : {P : ℕ → ℕ → Type 0} (os : List (List ℕ)) (x st : Stack) (e whole : Expression) → GivesOn P os st → ((l : ℕ) (s : List ℕ) (t : Kind) → goes 12 t ≡ false → give x e l s t ≡ give st whole l s t)
    → (c : Lookahead) → Gives P st (form_of whole) (depth whole) (nodes whole) c → CompletionBy P c os (have x e)
gives_as {P = P} os x st e whole g h c y =
    same_by c os (have x e) (have st whole) (λ l s t i. h l s t (ends_expression c (gives_ends P st (form_of whole) (depth whole) (nodes whole) c y) t i)) (g whole c y)

-- ---- a call

-- without arguments
pub calls_by : {P : ℕ → ℕ → Type 0} (os : List (List ℕ)) (x : State) (st : Stack) (e : Expression) → stepped_by x 1 [] k.Open ≡ Some (want (in_args 1 e none st)) → GivesOn P os st
    → Any (Gives P st Call (depth e + 1) (nodes e + 1)) → CompletionBy P going os x
calls_by os x st e s g h =
    let whole : Expression = apply (at_expression e) 1 e none in
    step_by going k.Open os x (want (in_args 1 e none st)) refl refl refl s
    (step_on k.Close os (want (in_args 1 e none st)) (have st whole) refl refl refl (given os st whole (depth e + 1) (nodes e + 1) g (omega arith) (omega arith) h))

-- any expression
pub whole_completion : {P : ℕ → ℕ → Type 0} (os : List (List ℕ)) (st : Stack) (e : Expression) → GivesOn P os st → Whole (Gives P st) (form_of e) (depth e) (nodes e) → Completion P os (have st e)
whole_completion os st e g (inl h) = (g e h.0 h.1).completion
whole_completion os st e g (inr h) = (calls_by os (have st e) st e (pushes st e 1 [] k.Open refl) g h).completion

-- as another one of that form, depth and number of nodes
pub whole_sized : {P : ℕ → ℕ → Type 0} (os : List (List ℕ)) (st : Stack) (e : Expression) (d n : ℕ) → GivesOn P os st → d ≡ depth e → n ≡ nodes e → Whole (Gives P st) (form_of e) d n → Completion P os (have st e)
whole_sized {P = P} os st e d n g p q h = whole_completion os st e g (sized (λ x y. Whole (Gives P st) (form_of e) x y) d (depth e) n (nodes e) p q h)

-- the last argument
args_end : {P : ℕ → ℕ → Type 0} (os : List (List ℕ)) (s : ℕ) (x : Expression) (es : Expressions) (st : Stack) (e : Expression) → GivesOn P os st
    → Whole (Gives P st) Call (max (depth x) (max (depth_of_each es) (depth e)) + 1) (nodes x + (nodes_of_each es + nodes e) + 1) → CompletionBy P closing os (have (in_args s x es st) e)
args_end os s x es st e g h =
    let zs : Expressions = each_then es (more e none) in
    let whole : Expression = apply (at_expression x) s x zs in
    let p = each_depth es e in
    let q = each_nodes es e in
    step_by closing k.Close os (have (in_args s x es st) e) (have st whole) (refl, refl, refl, refl) refl refl refl
    (whole_sized os st whole (max (depth x) (max (depth_of_each es) (depth e)) + 1) (nodes x + (nodes_of_each es + nodes e) + 1) g (omega (arith, p)) (omega (arith, q)) h)

-- one more
args_go : {P : ℕ → ℕ → Type 0} (os : List (List ℕ)) (s : ℕ) (x : Expression) (es : Expressions) (st : Stack) (e : Expression) → GivesOn P os st
    → Whole (Gives P st) Call (max (depth x) (max (depth_of_each es) (max (depth e) 1)) + 1) (nodes x + (nodes_of_each es + nodes e) + 2) → CompletionBy P listing os (have (in_args s x es st) e)
args_go {P = P} os s x es st e g h =
    let zs : Expressions = each_then es (more e none) in
    let p = each_depth es e in
    let q = each_nodes es e in
    step_by listing k.Comma os (have (in_args s x es st) e) (want (in_args s x zs st)) refl refl refl refl
    (name_on os (in_args s x zs st) (args_end os s x zs st name_here g
    (sized (λ a b. Whole (Gives P st) Call a b) (max (depth x) (max (depth_of_each es) (max (depth e) 1)) + 1) (max (depth x) (max (depth_of_each zs) 1) + 1) (nodes x + (nodes_of_each es + nodes e) + 2) (nodes x + (nodes_of_each zs + 1) + 1) (omega (arith, p)) (omega (arith, q)) h)).completion)

pub args_completion : {P : ℕ → ℕ → Type 0} (os : List (List ℕ)) (s : ℕ) (x : Expression) (es : Expressions) (st : Stack) (e : Expression) (c : Lookahead) → GivesOn P os st → Gives P (in_args s x es st) (form_of e) (depth e) (nodes e) c
    → CompletionBy P c os (have (in_args s x es st) e)
args_completion os s x es st e c g h = at_argument os (have (in_args s x es st) e) c h (args_end os s x es st e g) (args_go os s x es st e g)

-- ---- a choice

pub choice_completion : {P : ℕ → ℕ → Type 0} (os : List (List ℕ)) (s : ℕ) (x : Expression) (st : Stack) (e : Expression) → GivesOn P os st → Any (Gives P st Other (max (depth x) (max (depth e) 1) + 1) (nodes x + nodes e + 2)) → CompletionBy P listing os (have (in_then s x st) e)
choice_completion {P = P} os s x st e g h =
    let whole : Expression = choice (at_expression x) s x e name_here in
    let here : Stack = in_else s x e st in
    step_by listing k.Comma os (have (in_then s x st) e) (want here) refl refl refl refl
    (name_on os here (gives_as os here st name_here whole g (λ l y t f. rw f refl) h.0
    (sized (λ a b. Gives P st Other a b h.0) (max (depth x) (max (depth e) 1) + 1) (depth whole) (nodes x + nodes e + 2) (nodes whole) (omega arith) (omega arith) h.1)).completion)

-- ---- a TABLE

-- neither a comma
abbrev Last : Lookahead → Type 0
Last listing = ⊥
Last c = Ends c

last_ends : (c : Lookahead) → Last c → (t : Kind) → IsOf c t → (goes 12 t ≡ false) × (is_comma t ≡ false)
last_ends closing e t h = (h.1, no_comma t h.3)
last_ends assigning e t h = (rw h refl, rw h refl)
last_ends repeating e t h = (rw h refl, rw h refl)
last_ends x e t h = absurd e

table_last : {P : ℕ → ℕ → Type 0} (os : List (List ℕ)) (m : ℕ) (es : Expressions) (st : Stack) (e : Expression) (c : Lookahead) → GivesOn P os st → Last c → Gives P st Other (max (depth_of_each es) (depth e) + 1) (nodes_of_each es + nodes e + 1) c
    → CompletionBy P c os (have (in_table m es st) e)
table_last {P = P} os m es st e c g i h =
    let zs : Expressions = each_then es (more e none) in
    let p = each_depth es e in
    let q = each_nodes es e in
    same_by c os (have (in_table m es st) e) (have st (table m zs)) (λ l s t f. let z = last_ends c i t f in let y = z.0 in let w = z.1 in rw (y, w) refl)
    (g (table m zs) c (sized (λ a b. Gives P st Other a b c) (max (depth_of_each es) (depth e) + 1) (depth_of_each zs + 1) (nodes_of_each es + nodes e + 1) (nodes_of_each zs + 1) (omega (arith, p)) (omega (arith, q)) h))

unlisted_last : {F : Lookahead → Type 0} (c : Lookahead) → ((n : Lookahead) → F n → Ends n) → Unlisted F c → (Last c) × F c
unlisted_last listing f h = absurd h
unlisted_last going f h = absurd (f going h)
unlisted_last operating f h = absurd (f operating h)
unlisted_last x f h = (tt, h)

table_go : {P : ℕ → ℕ → Type 0} (os : List (List ℕ)) (m : ℕ) (es : Expressions) (st : Stack) (e : Expression) → GivesOn P os st
    → Any (Unlisted (Gives P st Other (max (depth_of_each es) (max (depth e) 1) + 1) (nodes_of_each es + nodes e + 2))) → CompletionBy P listing os (have (in_table m es st) e)
table_go {P = P} os m es st e g h =
    let zs : Expressions = each_then es (more e none) in
    let p = each_depth es e in
    let q = each_nodes es e in
    let d : ℕ = max (depth_of_each es) (max (depth e) 1) + 1 in
    let n : ℕ = nodes_of_each es + nodes e + 2 in
    let y = unlisted_last h.0 (gives_ends P st Other d n) h.1 in
    step_by listing k.Comma os (have (in_table m es st) e) (want (in_table m zs st)) refl refl refl refl
    (name_on os (in_table m zs st) (table_last os m zs st name_here h.0 g y.0
    (sized (λ a b. Gives P st Other a b h.0) d (max (depth_of_each zs) 1 + 1) n (nodes_of_each zs + 1 + 1) (omega (arith, p)) (omega (arith, q)) y.1)).completion)

pub table_completion : {P : ℕ → ℕ → Type 0} (os : List (List ℕ)) (m : ℕ) (es : Expressions) (st : Stack) (e : Expression) (c : Lookahead) → GivesOn P os st → Gives P (in_table m es st) (form_of e) (depth e) (nodes e) c → CompletionBy P c os (have (in_table m es st) e)
table_completion os m es st e listing g h = table_go os m es st e g h
table_completion os m es st e closing g h = table_last os m es st e closing g tt h
table_completion os m es st e assigning g h = table_last os m es st e assigning g tt h
table_completion os m es st e repeating g h = table_last os m es st e repeating g tt h
table_completion {P = P} os m es st e going g h = absurd (gives_ends P st Other (max (depth_of_each es) (depth e) + 1) (nodes_of_each es + nodes e + 1) going h)
table_completion {P = P} os m es st e operating g h = absurd (gives_ends P st Other (max (depth_of_each es) (depth e) + 1) (nodes_of_each es + nodes e + 1) operating h)

-- ---- an operator that begins no command, `%`

pub prefix_tight : (q : Prefix) → nat_lt 1 (following q) ≡ true
prefix_tight p.Contents = refl
prefix_tight _ = refl

-- the expression goes on with it, and a name
pub operates_by : {P : ℕ → ℕ → Type 0} (os : List (List ℕ)) (st : Stack) (e : Expression) → goes (limit st) k.Percent ≡ true → GivesOn P os st → Any (Gives P st Other (depth e + 1) (nodes e + 2)) → CompletionBy P operating os (have st e)
operates_by {P = P} os st e low g h =
    let whole : Expression = binary (at_expression e) o.Byte 1 e name_here in
    let here : Stack = in_binary o.Byte 1 e st in
    let some = depth_some e in
    step_by operating k.Percent os (have st e) (want here) refl refl refl (pushes st e 1 [] k.Percent low)
    (name_on os here (gives_as os here st name_here whole g (λ l y t f. binary_done o.Byte 1 e st name_here l y t (falls 1 12 t (omega arith) f)) h.0
    (sized (λ a b. Gives P st Other a b h.0) (depth e + 1) (depth whole) (nodes e + 2) (nodes whole) (omega (arith, some)) (omega arith) h.1)).completion)

-- behind the right operand of an operator: of the same row the whole goes on
pub operand_completion : {P : ℕ → ℕ → Type 0} (b : Bool) (os : List (List ℕ)) (q : Operator) (s : ℕ) (a : Expression) (st : Stack) (e : Expression) → nat_lt 1 (inner q) ≡ b → GivesOn P os (in_binary q s a st)
    → (Operates P st (Gives P st) (max (depth a) (depth e) + 1) (nodes a + nodes e + 1) → CompletionBy P operating os (have st (binary (at_expression a) q s a e)))
    → Taken b (Any (Gives P (in_binary q s a st) Other (depth e + 1) (nodes e + 2))) (Operates P st (Gives P st) (max (depth a) (depth e) + 1) (nodes a + nodes e + 1)) → CompletionBy P operating os (have (in_binary q s a st) e)
operand_completion true os q s a st e is g f h = operates_by os (in_binary q s a st) e is g h
operand_completion false os q s a st e is g f h =
    same_by operating os (have (in_binary q s a st) e) (have st (binary (at_expression a) q s a e)) (λ l y t i. binary_done q s a st e l y t (let j : t ≡ k.Percent = i in rw j is)) (f h)

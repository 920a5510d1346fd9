-- Ways on behind commands, values, variables and definitions.
use Rattle.bk_syntax.proofs.Terms.{◌≡◌, ◌≤◌, ◌<◌, ℕ, zero, suc, ◌+◌, ◌-◌, max, min, Bool, true, false, cond, List, [], ◌==◌, length, Option, Some, refl, ap, ◌∙◌, inl, inr, arith, Kind, Guard, Mention, Expression, Expressions, Command, Starts, name, apply, none, more, empty, assign, call, label, test, for_loop, repeat, variables, no_starts, value, vector, depth, depth_of_each, depth_of_command, depth_of_starts, nodes, nodes_of_each, nodes_of_command, nodes_of_starts, begins_command, repeats, goes, at_expressions, at_names, at_command, size, start_count, Stack, at_starts, in_start, in_dests, in_values, in_guard, in_test, in_from, in_to, in_by, in_value, in_vector, in_label, in_guarded, in_do, in_or, in_for, State, want, have, begin, maybe, did, due, push, guarded, counted, defined_by, give, finish, stepped_by, each_then, starts_then, form_of, owed, Lookahead, closing, assigning, listing, going, repeating, operating, Any, AtClosing, AtListing, If, Closed, Missing, Started, Guarded, Gives, Does, Defines, repeated, same_eq, less_eq, size_then, count_then, call_done, guarded_depth, guarded_nodes, each_depth, each_nodes, starts_depth, starts_nodes, Kind as k, Guard as g}
use Rattle.std.proofs.lemmas.Bool.Decides.{nat_tests}
use Rattle.bk_syntax.proofs.Onward.{Completion, CompletionBy, sized, step_on, step_by, same_by, at_close, at_comma, ends_expression, leaves_command, DoesOn, DefinesOn, done, name_here, break_here, name_on, break_on, depth_some}
use Rattle.bk_syntax.proofs.Operands.{does_leave}

-- ---- a command as the end of another one

pub does_as : {P : ℕ → ℕ → Type 0} (os : List (List ℕ)) (x st : Stack) (a whole : Command) → DoesOn P os st → ((l : ℕ) (s : List ℕ) (t : Kind) → repeats t ≡ false → finish x a l s t ≡ finish st whole l s t)
    → (c : Lookahead) → Does P st (depth_of_command whole) (nodes_of_command whole) c → CompletionBy P c os (did x a)
does_as {P = P} os x st a whole g h c y =
    same_by c os (did x a) (did st whole) (λ l s t i. h l s t (leaves_command c (does_leave P st (depth_of_command whole) (nodes_of_command whole) c y) t i)) (g whole c y)

-- whose size is said in another way
pub does_sized : {P : ℕ → ℕ → Type 0} (os : List (List ℕ)) (x st : Stack) (a whole : Command) (d n : ℕ) → DoesOn P os st → ((l : ℕ) (s : List ℕ) (t : Kind) → repeats t ≡ false → finish x a l s t ≡ finish st whole l s t)
    → d ≡ depth_of_command whole → n ≡ nodes_of_command whole → (c : Lookahead) → Does P st d n c → CompletionBy P c os (did x a)
does_sized {P = P} os x st a whole d n g h p q c y = does_as os x st a whole g h c (sized (λ i j. Does P st i j c) d (depth_of_command whole) n (nodes_of_command whole) p q y)

-- the least command ends the other one
pub break_ends : {P : ℕ → ℕ → Type 0} (os : List (List ℕ)) (x st : Stack) (whole : Command) (d n : ℕ) → DoesOn P os st → ((l : ℕ) (s : List ℕ) (t : Kind) → repeats t ≡ false → finish x break_here l s t ≡ finish st whole l s t)
    → d ≡ depth_of_command whole → n ≡ nodes_of_command whole → Any (Does P st d n) → Completion P os (begin x)
break_ends os x st whole d n g h p q y = break_on os x (does_sized os x st break_here whole d n g h p q y.0 y.1).completion

-- it is repeated
repeat_by : {P : ℕ → ℕ → Type 0} (os : List (List ℕ)) (x : State) (st : Stack) (a : Command) → stepped_by x 1 [] k.Repeat ≡ finish st a 1 [] k.Repeat → DoesOn P os st → Any (Does P st (depth_of_command a + 1) (nodes_of_command a + 1)) → CompletionBy P repeating os x
repeat_by os x st a s g h =
    let r : Command = repeat (at_command a) a in
    step_by repeating k.Repeat os x (did st r) refl refl refl (s ∙ repeated st a 1 [] k.Repeat refl) (done os st r (depth_of_command a + 1) (nodes_of_command a + 1) g refl refl h)

-- an expression ends it
pub closed_completion : {P : ℕ → ℕ → Type 0} (os : List (List ℕ)) (x : State) (st : Stack) (a : Command) → DoesOn P os st → ((l : ℕ) (s : List ℕ) (t : Kind) → goes 12 t ≡ false → stepped_by x l s t ≡ finish st a l s t)
    → (c : Lookahead) → Closed (Does P st) (depth_of_command a) (nodes_of_command a) c → CompletionBy P c os x
closed_completion os x st a g h repeating y = repeat_by os x st a (h 1 [] k.Repeat refl) g y
closed_completion os x st a g h going y = absurd y
closed_completion os x st a g h operating y = absurd y
closed_completion os x st a g h z y = same_by z os x (did st a) (λ l s t i. h l s t (ends_expression z tt t i)) (g a z y)

-- none comes behind a colon
missing_by : {P : ℕ → ℕ → Type 0} (os : List (List ℕ)) (x st : Stack) (a : Command) → DoesOn P os st → ((l : ℕ) (s : List ℕ) (t : Kind) → begins_command t ≡ false → stepped_by (maybe x) l s t ≡ finish st a l s t)
    → (c : Lookahead) → Missing (Does P st) (depth_of_command a) (nodes_of_command a) c → CompletionBy P c os (maybe x)
missing_by os x st a g h closing y = same_by closing os (maybe x) (did st a) (λ l s t i. h l s t i.0) (g a closing y)
missing_by os x st a g h assigning y = same_by assigning os (maybe x) (did st a) (λ l s t i. h l s t (let j : t ≡ k.Assign = i in rw j refl)) (g a assigning y)
missing_by os x st a g h listing y = same_by listing os (maybe x) (did st a) (λ l s t i. h l s t (let j : t ≡ k.Comma = i in rw j refl)) (g a listing y)
missing_by os x st a g h operating y = same_by operating os (maybe x) (did st a) (λ l s t i. h l s t (let j : t ≡ k.Percent = i in rw j refl)) (g a operating y)
missing_by os x st a g h repeating y = repeat_by os (maybe x) st a (h 1 [] k.Repeat refl) g y
missing_by os x st a g h going y = absurd y

pub missing_completion : {P : ℕ → ℕ → Type 0} (os : List (List ℕ)) (x st : Stack) (a : Command) (d n : ℕ) → DoesOn P os st → ((l : ℕ) (s : List ℕ) (t : Kind) → begins_command t ≡ false → stepped_by (maybe x) l s t ≡ finish st a l s t)
    → d ≡ depth_of_command a → n ≡ nodes_of_command a → Any (Missing (Does P st) d n) → Completion P os (maybe x)
missing_completion {P = P} os x st a d n g h p q y = (missing_by os x st a g h y.0 (sized (λ i j. Missing (Does P st) i j y.0) d (depth_of_command a) n (nodes_of_command a) p q y.1)).completion

-- the least one comes there
pub break_there : {P : ℕ → ℕ → Type 0} (os : List (List ℕ)) (x st : Stack) (whole : Command) (d n : ℕ) → DoesOn P os st → ((l : ℕ) (s : List ℕ) (t : Kind) → repeats t ≡ false → finish x break_here l s t ≡ finish st whole l s t)
    → d ≡ depth_of_command whole → n ≡ nodes_of_command whole → Any (Does P st d n) → Completion P os (maybe x)
break_there os x st whole d n g h p q y = step_on k.Break os (maybe x) (did x break_here) refl refl refl (does_sized os x st break_here whole d n g h p q y.0 y.1).completion

-- ---- values

pub values_step : (xs ys : Expressions) (st : Stack) (e : Expression) (b : Bool) (l : ℕ) (s : List ℕ) (t : Kind) → goes 12 t ≡ false → (size xs == size ys + 1) ≡ b
    → give (in_values xs ys st) e l s t ≡ counted b (finish st (assign (at_expressions xs) xs (each_then ys (more e none))) l s t) t (want (in_values xs (each_then ys (more e none)) st))
values_step xs ys st e b l s t g h =
    let c : Command = assign (at_expressions xs) xs (each_then ys (more e none)) in
    let next : State = want (in_values xs (each_then ys (more e none)) st) in
    ap (λ z. cond z (push (in_values xs ys st) e t l) (counted (size xs == size ys + 1) (finish st c l s t) t next)) g
    ∙ ap (λ z. counted z (finish st c l s t) t next) h

-- the last one
values_last : {P : ℕ → ℕ → Type 0} (os : List (List ℕ)) (xs ys : Expressions) (st : Stack) (e : Expression) → DoesOn P os st → (size xs == size ys + 1) ≡ true
    → (c : Lookahead) → Closed (Does P st) (max (depth_of_each xs) (max (depth_of_each ys) (depth e)) + 1) (nodes_of_each xs + (nodes_of_each ys + nodes e) + 1) c → CompletionBy P c os (have (in_values xs ys st) e)
values_last {P = P} os xs ys st e g is c h =
    let zs : Expressions = each_then ys (more e none) in
    let p = each_depth ys e in
    let q = each_nodes ys e in
    closed_completion os (have (in_values xs ys st) e) st (assign (at_expressions xs) xs zs) g (λ l s t f. values_step xs ys st e true l s t f is) c
    (sized (λ i j. Closed (Does P st) i j c) (max (depth_of_each xs) (max (depth_of_each ys) (depth e)) + 1) (max (depth_of_each xs) (depth_of_each zs) + 1) (nodes_of_each xs + (nodes_of_each ys + nodes e) + 1) (nodes_of_each xs + nodes_of_each zs + 1) (omega (arith, p)) (omega (arith, q)) h)

-- so many are due behind this one
values_completion : {P : ℕ → ℕ → Type 0} (n : ℕ) (os : List (List ℕ)) (xs ys : Expressions) (st : Stack) (e : Expression) → DoesOn P os st → size xs ≡ size ys + 1 + n
    → Any (Closed (Does P st) (max (depth_of_each xs) (max (depth_of_each ys) (max (depth e) (min 1 n))) + 1) (nodes_of_each xs + (nodes_of_each ys + nodes e) + n + 1)) → Completion P os (have (in_values xs ys st) e)
values_completion {P = P} zero os xs ys st e g is h =
    (values_last os xs ys st e g (same_eq (size xs) (size ys + 1) (omega (arith, is))) h.0
    (sized (λ i j. Closed (Does P st) i j h.0) (max (depth_of_each xs) (max (depth_of_each ys) (max (depth e) (min 1 0))) + 1) (max (depth_of_each xs) (max (depth_of_each ys) (depth e)) + 1) (nodes_of_each xs + (nodes_of_each ys + nodes e) + 0 + 1) (nodes_of_each xs + (nodes_of_each ys + nodes e) + 1) (omega arith) (omega arith) h.1)).completion
values_completion {P = P} (suc n) os xs ys st e g is h =
    let zs : Expressions = each_then ys (more e none) in
    let p = each_depth ys e in
    let q = each_nodes ys e in
    let z = size_then ys (more e none) in
    step_on k.Comma os (have (in_values xs ys st) e) (want (in_values xs zs st)) refl refl (values_step xs ys st e false 1 [] k.Comma refl (less_eq (size xs) (size ys + 1) (omega (arith, is))))
    (name_on os (in_values xs zs st) (values_completion n os xs zs st name_here g (omega (arith, is, z))
    (sized (λ i j. Any (Closed (Does P st) i j)) (max (depth_of_each xs) (max (depth_of_each ys) (max (depth e) (min 1 (suc n)))) + 1) (max (depth_of_each xs) (max (depth_of_each zs) (max 1 (min 1 n))) + 1)
    (nodes_of_each xs + (nodes_of_each ys + nodes e) + suc n + 1) (nodes_of_each xs + (nodes_of_each zs + 1) + n + 1) (omega (arith, p)) (omega (arith, q)) h)))

less_is : (m n : ℕ) → (m == n) ≡ false → n ≤ m → n < m
less_is m n h le = grind (arith, nat_tests, h, le)

values_by : {P : ℕ → ℕ → Type 0} (b : Bool) (os : List (List ℕ)) (xs ys : Expressions) (st : Stack) (e : Expression) → DoesOn P os st → (size xs == size ys + 1) ≡ b → size ys < size xs
    → (c : Lookahead) → If b (Closed (Does P st) (max (depth_of_each xs) (max (depth_of_each ys) (depth e)) + 1) (nodes_of_each xs + (nodes_of_each ys + nodes e) + 1))
    (AtListing (Any (Closed (Does P st) (max (depth_of_each xs) (max (depth_of_each ys) (max (depth e) 1)) + 1) (nodes_of_each xs + (nodes_of_each ys + nodes e) + owed (size xs) (size ys) + 1)))) c → CompletionBy P c os (have (in_values xs ys st) e)
values_by true os xs ys st e g is lt c h = values_last os xs ys st e g is c h
values_by {P = P} false os xs ys st e g is lt c h =
    let zs : Expressions = each_then ys (more e none) in
    let due_more = less_is (size xs) (size ys + 1) is (omega (arith, lt)) in
    let n : ℕ = size xs - (size ys + 2) in
    let p = each_depth ys e in
    let q = each_nodes ys e in
    let z = size_then ys (more e none) in
    at_comma os (have (in_values xs ys st) e) c h (λ w. step_by listing k.Comma os (have (in_values xs ys st) e) (want (in_values xs zs st)) refl refl refl (values_step xs ys st e false 1 [] k.Comma refl is)
    (name_on os (in_values xs zs st) (values_completion n os xs zs st name_here g (omega (arith, due_more, z))
    (sized (λ i j. Any (Closed (Does P st) i j)) (max (depth_of_each xs) (max (depth_of_each ys) (max (depth e) 1)) + 1) (max (depth_of_each xs) (max (depth_of_each zs) (max 1 (min 1 n))) + 1)
    (nodes_of_each xs + (nodes_of_each ys + nodes e) + owed (size xs) (size ys) + 1) (nodes_of_each xs + (nodes_of_each zs + 1) + n + 1) (omega (arith, p)) (omega (arith, q, due_more)) w))))

pub value_completion : {P : ℕ → ℕ → Type 0} (os : List (List ℕ)) (xs ys : Expressions) (st : Stack) (e : Expression) (c : Lookahead) → DoesOn P os st → size ys < size xs → Gives P (in_values xs ys st) (form_of e) (depth e) (nodes e) c → CompletionBy P c os (have (in_values xs ys st) e)
value_completion os xs ys st e c g lt h = values_by (size xs == size ys + 1) os xs ys st e g refl lt c h

-- ---- destinations

assign_by : {P : ℕ → ℕ → Type 0} (os : List (List ℕ)) (x : State) (zs : Expressions) (st : Stack) (n : ℕ) → stepped_by x 1 [] k.Assign ≡ Some (want (in_values zs none st)) → DoesOn P os st → size zs ≡ n + 1
    → Any (Closed (Does P st) (max (depth_of_each zs) 1 + 1) (nodes_of_each zs + n + 2)) → CompletionBy P assigning os x
assign_by {P = P} os x zs st n s g is h =
    step_by assigning k.Assign os x (want (in_values zs none st)) refl refl refl s
    (name_on os (in_values zs none st) (values_completion n os zs none st name_here g (omega (arith, is))
    (sized (λ i j. Any (Closed (Does P st) i j)) (max (depth_of_each zs) 1 + 1) (max (depth_of_each zs) (max 0 (max 1 (min 1 n))) + 1) (nodes_of_each zs + n + 2) (nodes_of_each zs + (0 + 1) + n + 1) (omega arith) (omega arith) h)))

-- no further one
pub dests_end : {P : ℕ → ℕ → Type 0} (os : List (List ℕ)) (xs : Expressions) (st : Stack) (e : Expression) → DoesOn P os st → Any (Closed (Does P st) (max (max (depth_of_each xs) 1) (depth e) + 1) (nodes_of_each xs + nodes e + size xs + 2))
    → CompletionBy P assigning os (have (in_dests xs st) e)
dests_end {P = P} os xs st e g h =
    let zs : Expressions = each_then xs (more e none) in
    let p = each_depth xs e in
    let q = each_nodes xs e in
    let z = size_then xs (more e none) in
    assign_by os (have (in_dests xs st) e) zs st (size xs) refl g (omega (arith, z))
    (sized (λ i j. Any (Closed (Does P st) i j)) (max (max (depth_of_each xs) 1) (depth e) + 1) (max (depth_of_each zs) 1 + 1) (nodes_of_each xs + nodes e + size xs + 2) (nodes_of_each zs + size xs + 2) (omega (arith, p)) (omega (arith, q)) h)

-- one more
dest_by : {P : ℕ → ℕ → Type 0} (os : List (List ℕ)) (x : State) (zs : Expressions) (st : Stack) → stepped_by x 1 [] k.Comma ≡ Some (want (in_dests zs st)) → DoesOn P os st → Any (Closed (Does P st) (max (depth_of_each zs) 1 + 1) (nodes_of_each zs + size zs + 3))
    → CompletionBy P listing os x
dest_by {P = P} os x zs st s g h =
    step_by listing k.Comma os x (want (in_dests zs st)) refl refl refl s
    (name_on os (in_dests zs st) (dests_end os zs st name_here g
    (sized (λ i j. Any (Closed (Does P st) i j)) (max (depth_of_each zs) 1 + 1) (max (max (depth_of_each zs) 1) 1 + 1) (nodes_of_each zs + size zs + 3) (nodes_of_each zs + 1 + size zs + 2) (omega arith) (omega arith) h)).completion)

pub dests_go : {P : ℕ → ℕ → Type 0} (os : List (List ℕ)) (xs : Expressions) (st : Stack) (e : Expression) → DoesOn P os st → Any (Closed (Does P st) (max (max (depth_of_each xs) 1) (depth e) + 1) (nodes_of_each xs + nodes e + size xs + 4))
    → CompletionBy P listing os (have (in_dests xs st) e)
dests_go {P = P} os xs st e g h =
    let zs : Expressions = each_then xs (more e none) in
    let p = each_depth xs e in
    let q = each_nodes xs e in
    let z = size_then xs (more e none) in
    dest_by os (have (in_dests xs st) e) zs st refl g
    (sized (λ i j. Any (Closed (Does P st) i j)) (max (max (depth_of_each xs) 1) (depth e) + 1) (max (depth_of_each zs) 1 + 1) (nodes_of_each xs + nodes e + size xs + 4) (nodes_of_each zs + size zs + 3) (omega (arith, p)) (omega (arith, q, z)) h)

-- ---- an expression at the start of a command

pub start_completion : {P : ℕ → ℕ → Type 0} (os : List (List ℕ)) (st : Stack) (e : Expression) (c : Lookahead) → DoesOn P os st → Started (Does P st) (form_of e) (depth e) (nodes e) c → CompletionBy P c os (have (in_start st) e)
start_completion {P = P} os st e assigning g h =
    let some = depth_some e in
    assign_by os (have (in_start st) e) (more e none) st 0 refl g (omega arith)
    (sized (λ i j. Any (Closed (Does P st) i j)) (max (depth e) 1 + 1) (max (max (depth e) 0) 1 + 1) (nodes e + 2) (nodes e + 0 + 0 + 2) (omega arith) (omega arith) h)
start_completion {P = P} os st e listing g h =
    dest_by os (have (in_start st) e) (more e none) st refl g
    (sized (λ i j. Any (Closed (Does P st) i j)) (max (depth e) 1 + 1) (max (max (depth e) 0) 1 + 1) (nodes e + 4) (nodes e + 0 + (0 + 1) + 3) (omega arith) (omega arith) h)
start_completion os st (name l y) closing g (inl h) =
    step_by closing k.Colon os (have (in_start st) (name l y)) (maybe (in_label l y st)) (refl, refl, refl, refl) refl refl refl
    (missing_completion os (in_label l y st) st (label l y empty) 1 1 g (λ m s t f. rw f refl) refl refl h)
start_completion os st (name l y) closing g (inr h) =
    step_by closing k.Colon os (have (in_start st) (name l y)) (maybe (in_label l y st)) (refl, refl, refl, refl) refl refl refl
    (break_there os (in_label l y st) st (label l y break_here) 2 2 g (λ m s t f. rw f refl) refl refl h)
start_completion os st (apply l s f es) closing g h =
    let x : State = have (in_start st) (apply l s f es) in
    same_by closing os x (did st (call l f es)) (λ m y t i. call_done st l s f es m y t i.1 i.3) (g (call l f es) closing h)
start_completion os st (apply l s f es) repeating g h = repeat_by os (have (in_start st) (apply l s f es)) st (call l f es) refl g h
start_completion os st _ closing g h = absurd h
start_completion os st _ repeating g h = absurd h
start_completion os st _ going g h = absurd h
start_completion os st _ operating g h = absurd h

-- ---- guards, TEST and FOR

guarded_break : {P : ℕ → ℕ → Type 0} (os : List (List ℕ)) (gd : Guard) (m : ℕ) (e : Expression) (st : Stack) → DoesOn P os st → Any (Does P st (max (depth e) 1 + 1) (nodes e + 2)) → Completion P os (begin (in_guarded gd m e st))
guarded_break os gd m e st g h =
    let p = guarded_depth gd m e break_here in
    let q = guarded_nodes gd m e break_here in
    break_ends os (in_guarded gd m e st) st (guarded gd m e break_here) (max (depth e) 1 + 1) (nodes e + 2) g (λ l s t f. rw f refl) (omega (arith, p)) (omega (arith, q)) h

pub guard_completion : {P : ℕ → ℕ → Type 0} (os : List (List ℕ)) (gd : Guard) (m : ℕ) (st : Stack) (e : Expression) → DoesOn P os st → Guarded gd (Does P st) (depth e) (nodes e) → CompletionBy P closing os (have (in_guard gd m st) e)
guard_completion os g.Case m st e f (inl h) =
    let here : Stack = in_guarded g.Case m e st in
    step_by closing k.Colon os (have (in_guard g.Case m st) e) (maybe here) (refl, refl, refl, refl) refl refl refl
    (missing_completion os here st (guarded g.Case m e empty) (depth e + 1) (nodes e + 1) f (λ l s t b. rw b refl) (omega arith) (omega arith) h)
guard_completion os g.Case m st e f (inr h) =
    let here : Stack = in_guarded g.Case m e st in
    step_by closing k.Colon os (have (in_guard g.Case m st) e) (maybe here) (refl, refl, refl, refl) refl refl refl
    (break_there os here st (guarded g.Case m e break_here) (max (depth e) 1 + 1) (nodes e + 2) f (λ l s t r. rw r refl) (omega arith) (omega arith) h)
guard_completion os g.SwitchOn m st e f h =
    step_by closing k.Into os (have (in_guard g.SwitchOn m st) e) (begin (in_guarded g.SwitchOn m e st)) (refl, refl, refl, refl) refl refl refl (guarded_break os g.SwitchOn m e st f h)
guard_completion os gd m st e f h =
    step_by closing k.Do os (have (in_guard gd m st) e) (begin (in_guarded gd m e st)) (refl, refl, refl, refl) refl refl refl (guarded_break os gd m e st f h)

-- behind the first command of a TEST
pub or_completion : {P : ℕ → ℕ → Type 0} (os : List (List ℕ)) (m : ℕ) (e : Expression) (st : Stack) (a : Command) → DoesOn P os st → Any (Does P st (max (depth e) (max (depth_of_command a) 1) + 1) (nodes e + nodes_of_command a + 2)) → CompletionBy P closing os (did (in_do m e st) a)
or_completion os m e st a g h =
    step_by closing k.Or os (did (in_do m e st) a) (begin (in_or m e a st)) (refl, refl, refl, refl) refl refl refl
    (break_ends os (in_or m e a st) st (test m e a break_here) (max (depth e) (max (depth_of_command a) 1) + 1) (nodes e + nodes_of_command a + 2) g (λ l s t f. rw f refl) (omega arith) (omega arith) h)

pub test_completion : {P : ℕ → ℕ → Type 0} (os : List (List ℕ)) (m : ℕ) (st : Stack) (e : Expression) → DoesOn P os st → Any (Does P st (max (depth e) 1 + 1) (nodes e + 3)) → CompletionBy P closing os (have (in_test m st) e)
test_completion {P = P} os m st e g h =
    step_by closing k.Do os (have (in_test m st) e) (begin (in_do m e st)) (refl, refl, refl, refl) refl refl refl
    (break_on os (in_do m e st) (or_completion os m e st break_here g
    (sized (λ i j. Any (Does P st i j)) (max (depth e) 1 + 1) (max (depth e) (max 1 1) + 1) (nodes e + 3) (nodes e + 1 + 2) (omega arith) (omega arith) h)).completion)

-- the limit of a FOR
pub to_completion : {P : ℕ → ℕ → Type 0} (os : List (List ℕ)) (m : ℕ) (n : Mention) (a : Expression) (st : Stack) (e : Expression) → DoesOn P os st → Any (Does P st (max (depth a) (max (depth e) 1) + 1) (nodes a + nodes e + 2)) → CompletionBy P closing os (have (in_to m n a st) e)
to_completion os m n a st e g h =
    step_by closing k.Do os (have (in_to m n a st) e) (begin (in_for m n a e none st)) (refl, refl, refl, refl) refl refl refl
    (break_ends os (in_for m n a e none st) st (for_loop m n a e none break_here) (max (depth a) (max (depth e) 1) + 1) (nodes a + nodes e + 2) g (λ l s t f. rw f refl) (omega arith) (omega arith) h)

pub by_completion : {P : ℕ → ℕ → Type 0} (os : List (List ℕ)) (m : ℕ) (n : Mention) (a b : Expression) (st : Stack) (e : Expression) → DoesOn P os st → Any (Does P st (max (depth a) (max (depth b) (max (depth e) 1)) + 1) (nodes a + nodes b + nodes e + 2))
    → CompletionBy P closing os (have (in_by m n a b st) e)
by_completion os m n a b st e g h =
    let here : Stack = in_for m n a b (more e none) st in
    step_by closing k.Do os (have (in_by m n a b st) e) (begin here) (refl, refl, refl, refl) refl refl refl
    (break_ends os here st (for_loop m n a b (more e none) break_here) (max (depth a) (max (depth b) (max (depth e) 1)) + 1) (nodes a + nodes b + nodes e + 2) g (λ l s t f. rw f refl) (omega arith) (omega arith) h)

-- its start
pub from_completion : {P : ℕ → ℕ → Type 0} (os : List (List ℕ)) (m : ℕ) (n : Mention) (st : Stack) (e : Expression) → DoesOn P os st → Any (Does P st (max (depth e) 1 + 1) (nodes e + 3)) → CompletionBy P closing os (have (in_from m n st) e)
from_completion {P = P} os m n st e g h =
    step_by closing k.To os (have (in_from m n st) e) (want (in_to m n e st)) (refl, refl, refl, refl) refl refl refl
    (name_on os (in_to m n e st) (to_completion os m n e st name_here g
    (sized (λ i j. Any (Does P st i j)) (max (depth e) 1 + 1) (max (depth e) (max 1 1) + 1) (nodes e + 3) (nodes e + 1 + 2) (omega arith) (omega arith) h)).completion)

-- ---- variables

-- what comes behind a value of a LET
abbrev pub Counts : List Mention → Starts → Stack → Starts → Expression → State → Type 0
Counts ns is st js e x = (b : Bool) (t : Kind) → goes 12 t ≡ false → (length ns == start_count is + 1) ≡ b → stepped_by x 1 [] t ≡ counted b (defined_by st (variables (at_names ns) ns js) 1 [] t) t (due (at_starts ns js st))

pub value_step : (ns : List Mention) (is : Starts) (st : Stack) (e : Expression) → Counts ns is st (starts_then is (value e no_starts)) e (have (in_value ns is st) e)
value_step ns is st e b t g h =
    let js : Starts = starts_then is (value e no_starts) in
    let whole : Option State = defined_by st (variables (at_names ns) ns js) 1 [] t in
    ap (λ z. cond z (push (in_value ns is st) e t 1) (counted (length ns == start_count is + 1) whole t (due (at_starts ns js st)))) g
    ∙ ap (λ z. counted z whole t (due (at_starts ns js st))) h

pub vector_step : (m : ℕ) (ns : List Mention) (is : Starts) (st : Stack) (e : Expression) → Counts ns is st (starts_then is (vector m e no_starts)) e (have (in_vector m ns is st) e)
vector_step m ns is st e b t g h =
    let js : Starts = starts_then is (vector m e no_starts) in
    let whole : Option State = defined_by st (variables (at_names ns) ns js) 1 [] t in
    ap (λ z. cond z (push (in_vector m ns is st) e t 1) (counted (length ns == start_count is + 1) whole t (due (at_starts ns js st)))) g
    ∙ ap (λ z. counted z whole t (due (at_starts ns js st))) h

-- the last one
start_last : {P : ℕ → ℕ → Type 0} (os : List (List ℕ)) (ns : List Mention) (is js : Starts) (st : Stack) (e : Expression) (x : State) → DefinesOn P os st → Counts ns is st js e x → (length ns == start_count is + 1) ≡ true
    → Defines P st (depth_of_starts js + 1) (nodes_of_starts js + 1) → CompletionBy P closing os x
start_last os ns is js st e x g steps many h =
    let d = g (variables (at_names ns) ns js) h in
    step_by closing k.Semicolon os x d.next (refl, refl, refl, refl) refl refl (steps true k.Semicolon refl many ∙ d.takes) d.completion

-- so many are due behind this one
pub starts_completion : {P : ℕ → ℕ → Type 0} (n : ℕ) (os : List (List ℕ)) (ns : List Mention) (is : Starts) (st : Stack) (e : Expression) → DefinesOn P os st → length ns ≡ start_count is + 1 + n
    → Defines P st (max (depth_of_starts is) (max (depth e) (min 1 n)) + 1) (nodes_of_starts is + nodes e + n + 1) → Completion P os (have (in_value ns is st) e)
starts_completion {P = P} zero os ns is st e g many h =
    let js : Starts = starts_then is (value e no_starts) in
    let p = starts_depth is (value e no_starts) in
    let q = starts_nodes is (value e no_starts) in
    (start_last os ns is js st e (have (in_value ns is st) e) g (value_step ns is st e) (same_eq (length ns) (start_count is + 1) (omega (arith, many)))
    (sized (Defines P st) (max (depth_of_starts is) (max (depth e) (min 1 0)) + 1) (depth_of_starts js + 1) (nodes_of_starts is + nodes e + 0 + 1) (nodes_of_starts js + 1) (omega (arith, p)) (omega (arith, q)) h)).completion
starts_completion {P = P} (suc n) os ns is st e g many h =
    let js : Starts = starts_then is (value e no_starts) in
    let p = starts_depth is (value e no_starts) in
    let q = starts_nodes is (value e no_starts) in
    let z = count_then is (value e no_starts) in
    step_on k.Comma os (have (in_value ns is st) e) (due (at_starts ns js st)) refl refl (value_step ns is st e false k.Comma refl (less_eq (length ns) (start_count is + 1) (omega (arith, many))))
    (step_on k.Name os (due (at_starts ns js st)) (have (in_value ns js st) name_here) refl refl refl (starts_completion n os ns js st name_here g (omega (arith, many, z))
    (sized (Defines P st) (max (depth_of_starts is) (max (depth e) (min 1 (suc n))) + 1) (max (depth_of_starts js) (max 1 (min 1 n)) + 1) (nodes_of_starts is + nodes e + suc n + 1) (nodes_of_starts js + 1 + n + 1) (omega (arith, p)) (omega (arith, q)) h)))

starts_by : {P : ℕ → ℕ → Type 0} (b : Bool) (os : List (List ℕ)) (ns : List Mention) (is js : Starts) (st : Stack) (e : Expression) (x : State) → DefinesOn P os st → Counts ns is st js e x → (length ns == start_count is + 1) ≡ b → start_count is < length ns
    → start_count js ≡ start_count is + 1 → depth_of_starts js ≡ max (depth_of_starts is) (depth e) → nodes_of_starts js ≡ nodes_of_starts is + nodes e → (c : Lookahead)
    → If b (AtClosing (Defines P st (max (depth_of_starts is) (depth e) + 1) (nodes_of_starts is + nodes e + 1)))
    (AtListing (Defines P st (max (depth_of_starts is) (max (depth e) 1) + 1) (nodes_of_starts is + nodes e + owed (length ns) (start_count is) + 1))) c → CompletionBy P c os x
starts_by {P = P} true os ns is js st e x g steps many lt z p q c h =
    at_close os x c h (λ w. start_last os ns is js st e x g steps many (sized (Defines P st) (max (depth_of_starts is) (depth e) + 1) (depth_of_starts js + 1) (nodes_of_starts is + nodes e + 1) (nodes_of_starts js + 1) (omega (arith, p)) (omega (arith, q)) w))
starts_by {P = P} false os ns is js st e x g steps many lt z p q c h =
    let due_more = less_is (length ns) (start_count is + 1) many (omega (arith, lt)) in
    let n : ℕ = length ns - (start_count is + 2) in
    at_comma os x c h (λ w. step_by listing k.Comma os x (due (at_starts ns js st)) refl refl refl (steps false k.Comma refl many)
    (step_on k.Name os (due (at_starts ns js st)) (have (in_value ns js st) name_here) refl refl refl (starts_completion n os ns js st name_here g (omega (arith, z, due_more))
    (sized (Defines P st) (max (depth_of_starts is) (max (depth e) 1) + 1) (max (depth_of_starts js) (max 1 (min 1 n)) + 1) (nodes_of_starts is + nodes e + owed (length ns) (start_count is) + 1) (nodes_of_starts js + 1 + n + 1) (omega (arith, p)) (omega (arith, q, due_more)) w))))

pub start_value : {P : ℕ → ℕ → Type 0} (os : List (List ℕ)) (ns : List Mention) (is : Starts) (st : Stack) (e : Expression) (c : Lookahead) → DefinesOn P os st → start_count is < length ns → Gives P (in_value ns is st) (form_of e) (depth e) (nodes e) c
    → CompletionBy P c os (have (in_value ns is st) e)
start_value os ns is st e c g lt h =
    let z = count_then is (value e no_starts) in
    let p = starts_depth is (value e no_starts) in
    let q = starts_nodes is (value e no_starts) in
    starts_by (length ns == start_count is + 1) os ns is (starts_then is (value e no_starts)) st e (have (in_value ns is st) e) g (value_step ns is st e) refl lt (omega (arith, z)) (omega (arith, p)) (omega (arith, q)) c h

pub start_vector : {P : ℕ → ℕ → Type 0} (os : List (List ℕ)) (m : ℕ) (ns : List Mention) (is : Starts) (st : Stack) (e : Expression) (c : Lookahead) → DefinesOn P os st → start_count is < length ns → Gives P (in_vector m ns is st) (form_of e) (depth e) (nodes e) c
    → CompletionBy P c os (have (in_vector m ns is st) e)
start_vector os m ns is st e c g lt h =
    let z = count_then is (vector m e no_starts) in
    let p = starts_depth is (vector m e no_starts) in
    let q = starts_nodes is (vector m e no_starts) in
    starts_by (length ns == start_count is + 1) os ns is (starts_then is (vector m e no_starts)) st e (have (in_vector m ns is st) e) g (vector_step m ns is st e) refl lt (omega (arith, z)) (omega (arith, p)) (omega (arith, q)) c h

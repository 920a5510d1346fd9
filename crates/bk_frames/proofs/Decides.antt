-- What goes on from a stack, by its ways, is what the ways on say.
use Rattle.bk_frames.proofs.Terms.{◌≡◌, ◌↔◌, ℕ, ◌+◌, ◌==◌, max, not, Bool, true, false, ◌&&◌, length, refl, sym, subst, ◌∙◌, arith, nat_lt, Guard, Category, Completions, none, more, no_items, item, depth, depth_of_each, depth_of_declarations, depth_of_starts, nodes, nodes_of_each, nodes_of_declarations, nodes_of_starts, inner, size, start_count, Stack, in_section, in_block, in_let, at_name, at_formals, at_formal, at_formal_end, at_head, at_variable, at_variable_end, at_starts, at_opening, at_items, at_sign, at_goto, at_for, at_forward, at_default, in_parens, in_unary, in_binary, in_chain, in_then, in_else, in_args, in_table, in_start, in_dests, in_values, in_guard, in_test, in_result, in_while, in_from, in_to, in_by, in_item, in_function, in_value, in_vector, in_valof, in_label, in_guarded, in_default, in_do, in_or, in_for, in_routine, owed, Limit, is_tight, Test, led, goes_on, is_next, completions_of_binary, completions_of_values, completions_of_starts, completions_of_valof, completions_of_guard, AtClosing, within, serves, ◌||◌, Form, Form as f}
use Rattle.bk_frames.specs.declared.budget.Category.TheVariants.{Expression, Label, Call, Operated, Command, Missing, Definition, Declaration, Due, Closed}
use Rattle.bk_frames.specs.Completing as w
use Rattle.bk_frames.proofs.Joints.{Budgets, none_is, shut}
use Rattle.bk_frames.proofs.Phrases.{parens, unary, chain, then_, else_, table, dests, test, from_, to_, by_, result, while_, item_, function_, args_none, args_more, args_closed, start_other, start_call, start_label, values_, value_, vector_, guard_, binary_, operated_}
use Rattle.bk_frames.proofs.Clauses.{valof_, label_, label_missing, default_, default_missing, guarded_, guarded_missing, do_, or_, for_, routine_, block_, block_declares, block_due, let_defines, let_due, name_, formals_, formal_, formal_end_, head_, variable_, variable_end_, opening_, items_none, items_some, sign_, goto_, at_for_, forward_, at_default_, starts_}

within_is : (b : Bool) (d n : ℕ) → Limit b d n ↔ (within b d n ≡ true)
within_is b d n = grind arith

at_section : {X : Type 0} {a : Bool} → X ↔ (a ≡ true) → (c : w.Lookahead) → AtClosing X c ↔ (is_next w.closing c && a ≡ true)
at_section h1 c = grind (arith, none_is)

section_due : (b : Bool) (e m d n : ℕ) → (d ≡ 0) × (n ≡ 0) → Limit b (max e 0) (m + 0) ↔ (within b (max e d) (m + n) ≡ true)
section_due b e m d n z = let P : ℕ → Type 0 = λ x. Limit b (max e 0) (m + 0) ↔ (within b (max e x) (m + n) ≡ true) in let Q : ℕ → Type 0 = λ y. Limit b (max e 0) (m + 0) ↔ (within b (max e 0) (m + y) ≡ true) in subst P (sym z.0) (subst Q (sym z.1) (within_is b (max e 0) (m + 0)))

-- where the ways on are those of expressions, a label and a call are expressions, and nothing else is

both : (q a b : Bool) → (q && a) || (q && b) ≡ q && (a || b)
both q a b = grind arith

each : (q a b c : Bool) → (q && a) || ((q && b) || (q && c)) ≡ q && (a || (b || c))
each q a b c = grind arith

with_none : (q p a b : Bool) → p ≡ false → (q && a) || (p && b) ≡ q && (a || false)
with_none q p a b h = grind arith

abbrev Serve : Completions → Category → Category → Type 0
Serve ws y x = (T : Test) (c : w.Lookahead) (e m : ℕ) → led ws T x c e m ≡ serves y x && led ws T y c e m

serve_binary : (t u : Bool) (d n : ℕ) (x : Category) → serves Operated x ≡ false → Serve (completions_of_binary t u d n) Expression x
serve_binary t u d n x h1 = grind (arith, with_none)

serve_values : (t : Bool) (d n o : ℕ) (x : Category) → Serve (completions_of_values t d n o) Expression x
serve_values t d n o x = grind (arith, both)

serve_starts : (t : Bool) (d n o : ℕ) (x : Category) → Serve (completions_of_starts t d n o) Expression x
serve_starts t d n o x = grind arith

serve_guard : (k : Guard) (x : Category) → Serve (completions_of_guard k) Expression x
serve_guard k x = grind (arith, both)

serve_valof : (t : Bool) (x : Category) → Serve (completions_of_valof t) Command x
serve_valof t x T c e m = grind (arith, each)

as_formed : {X : Type 0} {a b : Bool} → X ↔ (b ≡ true) → a ≡ b → X ↔ (a ≡ true)
as_formed f e = (λ x. e ∙ f.0 x, λ h. f.1 (sym e ∙ h))

abbrev form_of : Category → Form
form_of Label = f.Label
form_of Call = f.Call
form_of x = f.Other

pub decides : (b : Bool) (st : Stack) → Budgets b st
decides b (in_section ds) Declaration c d n z = at_section (within_is b (max (depth_of_declarations ds) d) (nodes_of_declarations ds + n)) c
decides b (in_section ds) Due c d n z = at_section (section_due b (depth_of_declarations ds) (nodes_of_declarations ds) d n z) c
decides b (in_block k t ds cs st) Command c d n z = block_ b st k t ds cs (decides b st) c d n
decides b (in_block k t ds cs st) Declaration c d n z = block_declares b st k t ds cs (decides b st) c d n
decides b (in_block k t ds cs st) Due c d n z = block_due b st k t ds cs (decides b st) c d n z
decides b (in_let k ds st) Definition c d n z = let_defines b st k ds (decides b st) c d n
decides b (in_let k ds st) Due c d n z = let_due b st k ds (decides b st) c d n z
decides b (at_name x st) Due c d n z = name_ b st x (decides b st) c d n z
decides b (at_formals x st) Due c d n z = formals_ b st x (decides b st) c d n z
decides b (at_formal x fs st) Due c d n z = formal_ b st x fs (decides b st) c d n z
decides b (at_formal_end x fs st) Due c d n z = formal_end_ b st x fs (decides b st) c d n z
decides b (at_head x fs st) Due c d n z = head_ b st x fs (decides b st) c d n z
decides b (at_variable xs st) Due c d n z = variable_ b st xs (decides b st) c d n z
decides b (at_variable_end xs st) Due c d n z = variable_end_ b st xs (decides b st) c d n z
decides b (at_starts xs is st) Due c d n z = starts_ b st xs is (decides b st) c d n z
decides b (at_opening k q st) Due c d n z = opening_ b st k q (decides b st) c d n z
decides b (at_items k q no_items st) Due c d n z = items_none b st k q (decides b st) c d n z
decides b (at_items k q (item i y e is) st) Due c d n z = items_some b st k q i y e is (decides b st) c d n z
decides b (at_sign k q is x st) Due c d n z = sign_ b st k q is x (decides b st) c d n z
decides b (at_goto k st) Due c d n z = goto_ b st k (decides b st) c d n z
decides b (at_for k st) Due c d n z = at_for_ b st k (decides b st) c d n z
decides b (at_forward k x st) Due c d n z = forward_ b st k x (decides b st) c d n z
decides b (at_default k st) Due c d n z = at_default_ b st k (decides b st) c d n z
decides b (in_binary o s a st) Expression c d n z = binary_ b st o s a (decides b st) f.Other c d n
decides b (in_binary o s a st) Label c d n z = as_formed (binary_ b st o s a (decides b st) f.Label c d n) (serve_binary (not (nat_lt 1 (inner o))) (is_tight st) (depth a) (nodes a) Label refl (goes_on b st) c d n)
decides b (in_binary o s a st) Call c d n z = as_formed (binary_ b st o s a (decides b st) f.Call c d n) (serve_binary (not (nat_lt 1 (inner o))) (is_tight st) (depth a) (nodes a) Call refl (goes_on b st) c d n)
decides b (in_binary o s a st) Command c d n z = as_formed none_is (serve_binary (not (nat_lt 1 (inner o))) (is_tight st) (depth a) (nodes a) Command refl (goes_on b st) c d n)
decides b (in_binary o s a st) Operated c d n z = operated_ b st o s a (decides b st) c d n
decides b (in_binary o s a st) x c d n z = as_formed (shut c) (serve_binary (not (nat_lt 1 (inner o))) (is_tight st) (depth a) (nodes a) x refl (goes_on b st) c d n)
decides b (in_args s x none st) Closed c d n z = args_closed b st s x (decides b st) c d n z
decides b (in_start st) Expression c d n z = start_other b st (decides b st) c d n
decides b (in_start st) Call c d n z = start_call b st (decides b st) c d n
decides b (in_start st) Label c d n z = start_label b st (decides b st) c d n z
decides b (in_values xs ys st) Expression c d n z = values_ b st xs ys (decides b st) f.Other c d n
decides b (in_values xs ys st) Label c d n z = as_formed (values_ b st xs ys (decides b st) f.Label c d n) (serve_values (size xs == size ys + 1) (max (depth_of_each xs) (depth_of_each ys)) (nodes_of_each xs + nodes_of_each ys) (owed (size xs) (size ys)) Label (goes_on b st) c d n)
decides b (in_values xs ys st) Call c d n z = as_formed (values_ b st xs ys (decides b st) f.Call c d n) (serve_values (size xs == size ys + 1) (max (depth_of_each xs) (depth_of_each ys)) (nodes_of_each xs + nodes_of_each ys) (owed (size xs) (size ys)) Call (goes_on b st) c d n)
decides b (in_values xs ys st) Command c d n z = as_formed none_is (serve_values (size xs == size ys + 1) (max (depth_of_each xs) (depth_of_each ys)) (nodes_of_each xs + nodes_of_each ys) (owed (size xs) (size ys)) Command (goes_on b st) c d n)
decides b (in_values xs ys st) x c d n z = as_formed (shut c) (serve_values (size xs == size ys + 1) (max (depth_of_each xs) (depth_of_each ys)) (nodes_of_each xs + nodes_of_each ys) (owed (size xs) (size ys)) x (goes_on b st) c d n)
decides b (in_guard k s st) Expression c d n z = guard_ b st k s (decides b st) f.Other c d n
decides b (in_guard k s st) Label c d n z = as_formed (guard_ b st k s (decides b st) f.Label c d n) (serve_guard k Label (goes_on b st) c d n)
decides b (in_guard k s st) Call c d n z = as_formed (guard_ b st k s (decides b st) f.Call c d n) (serve_guard k Call (goes_on b st) c d n)
decides b (in_guard k s st) Command c d n z = as_formed none_is (serve_guard k Command (goes_on b st) c d n)
decides b (in_guard k s st) x c d n z = as_formed (shut c) (serve_guard k x (goes_on b st) c d n)
decides b (in_value xs is st) Expression c d n z = value_ b st xs is (decides b st) f.Other c d n
decides b (in_value xs is st) Label c d n z = as_formed (value_ b st xs is (decides b st) f.Label c d n) (serve_starts (length xs == start_count is + 1) (depth_of_starts is) (nodes_of_starts is) (owed (length xs) (start_count is)) Label (goes_on b st) c d n)
decides b (in_value xs is st) Call c d n z = as_formed (value_ b st xs is (decides b st) f.Call c d n) (serve_starts (length xs == start_count is + 1) (depth_of_starts is) (nodes_of_starts is) (owed (length xs) (start_count is)) Call (goes_on b st) c d n)
decides b (in_value xs is st) Command c d n z = as_formed none_is (serve_starts (length xs == start_count is + 1) (depth_of_starts is) (nodes_of_starts is) (owed (length xs) (start_count is)) Command (goes_on b st) c d n)
decides b (in_value xs is st) x c d n z = as_formed (shut c) (serve_starts (length xs == start_count is + 1) (depth_of_starts is) (nodes_of_starts is) (owed (length xs) (start_count is)) x (goes_on b st) c d n)
decides b (in_vector k xs is st) Expression c d n z = vector_ b st k xs is (decides b st) f.Other c d n
decides b (in_vector k xs is st) Label c d n z = as_formed (vector_ b st k xs is (decides b st) f.Label c d n) (serve_starts (length xs == start_count is + 1) (depth_of_starts is) (nodes_of_starts is) (owed (length xs) (start_count is)) Label (goes_on b st) c d n)
decides b (in_vector k xs is st) Call c d n z = as_formed (vector_ b st k xs is (decides b st) f.Call c d n) (serve_starts (length xs == start_count is + 1) (depth_of_starts is) (nodes_of_starts is) (owed (length xs) (start_count is)) Call (goes_on b st) c d n)
decides b (in_vector k xs is st) Command c d n z = as_formed none_is (serve_starts (length xs == start_count is + 1) (depth_of_starts is) (nodes_of_starts is) (owed (length xs) (start_count is)) Command (goes_on b st) c d n)
decides b (in_vector k xs is st) x c d n z = as_formed (shut c) (serve_starts (length xs == start_count is + 1) (depth_of_starts is) (nodes_of_starts is) (owed (length xs) (start_count is)) x (goes_on b st) c d n)
decides b (in_valof k st) Command c d n z = valof_ b st k (decides b st) c d n
decides b (in_valof k st) Expression c d n z = as_formed none_is (serve_valof (is_tight st) Expression (goes_on b st) c d n)
decides b (in_valof k st) Label c d n z = as_formed none_is (serve_valof (is_tight st) Label (goes_on b st) c d n)
decides b (in_valof k st) Call c d n z = as_formed none_is (serve_valof (is_tight st) Call (goes_on b st) c d n)
decides b (in_valof k st) x c d n z = as_formed (shut c) (serve_valof (is_tight st) x (goes_on b st) c d n)
decides b (in_label k x st) Command c d n z = label_ b st k x (decides b st) c d n
decides b (in_label k x st) Missing c d n z = label_missing b st k x (decides b st) c d n z
decides b (in_guarded q k e st) Command c d n z = guarded_ b st q k e (decides b st) c d n
decides b (in_guarded q k e st) Missing c d n z = guarded_missing b st q k e (decides b st) c d n z
decides b (in_default k st) Command c d n z = default_ b st k (decides b st) c d n
decides b (in_default k st) Missing c d n z = default_missing b st k (decides b st) c d n z
decides b (in_do k e st) Command c d n z = do_ b st k e (decides b st) c d n
decides b (in_or k e a st) Command c d n z = or_ b st k e a (decides b st) c d n
decides b (in_for k x a e y st) Command c d n z = for_ b st k x a e y (decides b st) c d n
decides b (in_routine x fs st) Command c d n z = routine_ b st x fs (decides b st) c d n
decides b st Command c d n z = none_is
decides b st Missing c d n z = shut c
decides b st Definition c d n z = shut c
decides b st Declaration c d n z = shut c
decides b st Due c d n z = shut c
decides b st Closed c d n z = shut c
decides b st Operated c d n z = shut c
decides b (in_parens k st) v c d n z = parens b st k (decides b st) (form_of v) c d n
decides b (in_unary k p st) v c d n z = unary b st k p (decides b st) (form_of v) c d n
decides b (in_chain o s a e st) v c d n z = chain b st o s a e (decides b st) (form_of v) c d n
decides b (in_then s x st) v c d n z = then_ b st s x (decides b st) (form_of v) c d n
decides b (in_else s x a st) v c d n z = else_ b st s x a (decides b st) (form_of v) c d n
decides b (in_args s x none st) v c d n z = args_none b st s x (decides b st) (form_of v) c d n
decides b (in_args s x (more y ys) st) v c d n z = args_more b st s x y ys (decides b st) (form_of v) c d n
decides b (in_table k es st) v c d n z = table b st k es (decides b st) (form_of v) c d n
decides b (in_dests xs st) v c d n z = dests b st xs (decides b st) (form_of v) c d n
decides b (in_test k st) v c d n z = test b st k (decides b st) (form_of v) c d n
decides b (in_result k st) v c d n z = result b st k (decides b st) (form_of v) c d n
decides b (in_while t a st) v c d n z = while_ b st t a (decides b st) (form_of v) c d n
decides b (in_from k x st) v c d n z = from_ b st k x (decides b st) (form_of v) c d n
decides b (in_to k x a st) v c d n z = to_ b st k x a (decides b st) (form_of v) c d n
decides b (in_by k x a e st) v c d n z = by_ b st k x a e (decides b st) (form_of v) c d n
decides b (in_item k q is x st) v c d n z = item_ b st k q is x (decides b st) (form_of v) c d n
decides b (in_function x fs st) v c d n z = function_ b st x fs (decides b st) (form_of v) c d n
decides b st x c d n z = none_is

-- The ways of an expression that was begun, and of what waits for one, are the ways on.
use Rattle.bk_frames.proofs.Terms.{◌≡◌, ◌↔◌, ℕ, ◌+◌, ◌==◌, max, not, Bool, true, false, List, length, refl, arith, nat_lt, Operator, Prefix, Sort, Guard, Closing, Assigning, Listing, Repeating, Form, Mention, Expressions, Items, Starts, none, more, depth, depth_of_each, depth_of_command, depth_of_items, depth_of_starts, nodes, nodes_of_each, nodes_of_command, nodes_of_items, nodes_of_starts, inner, size, start_count, Stack, in_parens, in_unary, in_binary, in_chain, in_then, in_else, in_args, in_table, in_start, in_dests, in_values, in_guard, in_test, in_result, in_while, in_from, in_to, in_by, in_item, in_function, in_value, in_vector, owed, Limit, is_tight, Tight, Closes, Part, led, goes_on, completions_of_binary, completions_of_values, completions_of_starts, Any, AtClosing, AtListing, If, Taken, Gives, Does, Operates, Defines, Guard as g, Link as l, Form as f}
use Rattle.bk_frames.specs.declared.budget.Category.TheVariants.{Expression, Label, Call, Operated, Command, Definition, Declaration, Closed}
use Rattle.bk_tree.specs.Tree as r
use Rattle.bk_frames.specs.Completing as w
use Rattle.bk_frames.proofs.Lowering.{gives_falls, does_falls}
use Rattle.bk_frames.proofs.Links.{link_test}
use Rattle.bk_frames.proofs.Joints.{Budgets, limit_down, via, either, none_is, add_none, shut, closing_as, listing_as, closing_any, listing_any, sum_closing, split_argument, split_assignment, split_part, split_closed, split_start, split_start_call, split_start_label, label_closing, call_whole, callable, defined, declared, operated, defined_falls, declared_falls, operated_falls, loose, tight}

pub parens : (b : Bool) (st : Stack) (k : ℕ) → Budgets b st → (g : Form) (c : w.Lookahead) (d n : ℕ) → Gives (Limit b) (in_parens k st) g d n c ↔ (goes_on b (in_parens k st) Expression c d n ≡ true)
parens b st k h g c d n = via (sum_closing _ _ c) (either (link_test (l.Then Closing) (Gives (Limit b) st f.Callable) (gives_falls (Limit b) (limit_down b) st f.Callable) (goes_on b st Expression) (callable b st h) (d + 1) _ (n + 1) _ c (omega arith) (omega arith)) (link_test (l.Then Closing) (Gives (Limit b) st f.Call) (gives_falls (Limit b) (limit_down b) st f.Call) (goes_on b st Call) (λ j e m. h Call j e m tt) (d + 1 + 1) _ (n + 1 + 1) _ c (omega arith) (omega arith)))

pub unary : (b : Bool) (st : Stack) (k : ℕ) (p : Prefix) → Budgets b st → (g : Form) (c : w.Lookahead) (d n : ℕ) → Gives (Limit b) (in_unary k p st) g d n c ↔ (goes_on b (in_unary k p st) Expression c d n ≡ true)
unary b st k p h g c d n = link_test l.Each (Gives (Limit b) st f.Other) (gives_falls (Limit b) (limit_down b) st f.Other) (goes_on b st Expression) (λ j e m. h Expression j e m tt) (d + 1) _ (n + 1) _ c (omega arith) (omega arith)

pub chain : (b : Bool) (st : Stack) (o : Operator) (s : ℕ) (a e : r.Expression) → Budgets b st → (g : Form) (c : w.Lookahead) (d n : ℕ) → Gives (Limit b) (in_chain o s a e st) g d n c ↔ (goes_on b (in_chain o s a e st) Expression c d n ≡ true)
chain b st o s a e h g c d n = link_test l.Each (Gives (Limit b) st f.Other) (gives_falls (Limit b) (limit_down b) st f.Other) (goes_on b st Expression) (λ j e m. h Expression j e m tt) (max (depth a) (max (depth e) d + 1) + 1) _ (nodes a + (nodes e + n + 1) + 1) _ c (omega arith) (omega arith)

pub then_ : (b : Bool) (st : Stack) (s : ℕ) (x : r.Expression) → Budgets b st → (g : Form) (c : w.Lookahead) (d n : ℕ) → Gives (Limit b) (in_then s x st) g d n c ↔ (goes_on b (in_then s x st) Expression c d n ≡ true)
then_ b st s x h g c d n = link_test (l.Then Listing) (Gives (Limit b) st f.Other) (gives_falls (Limit b) (limit_down b) st f.Other) (goes_on b st Expression) (λ j e m. h Expression j e m tt) (max (depth x) (max d 1) + 1) _ (nodes x + n + 2) _ c (omega arith) (omega arith)

pub else_ : (b : Bool) (st : Stack) (s : ℕ) (x a : r.Expression) → Budgets b st → (g : Form) (c : w.Lookahead) (d n : ℕ) → Gives (Limit b) (in_else s x a st) g d n c ↔ (goes_on b (in_else s x a st) Expression c d n ≡ true)
else_ b st s x a h g c d n = link_test l.Each (Gives (Limit b) st f.Other) (gives_falls (Limit b) (limit_down b) st f.Other) (goes_on b st Expression) (λ j e m. h Expression j e m tt) (max (depth x) (max (depth a) d) + 1) _ (nodes x + nodes a + n + 1) _ c (omega arith) (omega arith)

pub table : (b : Bool) (st : Stack) (k : ℕ) (es : Expressions) → Budgets b st → (g : Form) (c : w.Lookahead) (d n : ℕ) → Gives (Limit b) (in_table k es st) g d n c ↔ (goes_on b (in_table k es st) Expression c d n ≡ true)
table b st k es h g c d n = via (split_part (Gives (Limit b) st f.Other (max (depth_of_each es) d + 1) (nodes_of_each es + n + 1)) (Gives (Limit b) st f.Other (max (depth_of_each es) (max d 1) + 1) (nodes_of_each es + n + 2)) c) (either (link_test l.Unlisted (Gives (Limit b) st f.Other) (gives_falls (Limit b) (limit_down b) st f.Other) (goes_on b st Expression) (λ j e m. h Expression j e m tt) (max (depth_of_each es) d + 1) _ (nodes_of_each es + n + 1) _ c (omega arith) (omega arith)) (link_test (l.ThenUnlisted Listing) (Gives (Limit b) st f.Other) (gives_falls (Limit b) (limit_down b) st f.Other) (goes_on b st Expression) (λ j e m. h Expression j e m tt) (max (depth_of_each es) (max d 1) + 1) _ (nodes_of_each es + n + 2) _ c (omega arith) (omega arith)))

pub dests : (b : Bool) (st : Stack) (xs : Expressions) → Budgets b st → (g : Form) (c : w.Lookahead) (d n : ℕ) → Gives (Limit b) (in_dests xs st) g d n c ↔ (goes_on b (in_dests xs st) Expression c d n ≡ true)
dests b st xs h g c d n = via (split_assignment _ _ c) (either (link_test (l.ThenClosed Assigning) (Does (Limit b) st) (does_falls (Limit b) (limit_down b) st) (goes_on b st Command) (λ j e m. h Command j e m tt) (max (max (depth_of_each xs) 1) d + 1) _ (nodes_of_each xs + n + size xs + 2) _ c (omega arith) (omega arith)) (link_test (l.ThenClosed Listing) (Does (Limit b) st) (does_falls (Limit b) (limit_down b) st) (goes_on b st Command) (λ j e m. h Command j e m tt) (max (max (depth_of_each xs) 1) d + 1) _ (nodes_of_each xs + n + size xs + 4) _ c (omega arith) (omega arith)))

pub test : (b : Bool) (st : Stack) (k : ℕ) → Budgets b st → (g : Form) (c : w.Lookahead) (d n : ℕ) → Gives (Limit b) (in_test k st) g d n c ↔ (goes_on b (in_test k st) Expression c d n ≡ true)
test b st k h g c d n = link_test (l.Then Closing) (Does (Limit b) st) (does_falls (Limit b) (limit_down b) st) (goes_on b st Command) (λ j e m. h Command j e m tt) (max d 1 + 1) _ (n + 3) _ c (omega arith) (omega arith)

pub from_ : (b : Bool) (st : Stack) (k : ℕ) (x : Mention) → Budgets b st → (g : Form) (c : w.Lookahead) (d n : ℕ) → Gives (Limit b) (in_from k x st) g d n c ↔ (goes_on b (in_from k x st) Expression c d n ≡ true)
from_ b st k x h g c d n = link_test (l.Then Closing) (Does (Limit b) st) (does_falls (Limit b) (limit_down b) st) (goes_on b st Command) (λ j e m. h Command j e m tt) (max d 1 + 1) _ (n + 3) _ c (omega arith) (omega arith)

pub to_ : (b : Bool) (st : Stack) (k : ℕ) (x : Mention) (a : r.Expression) → Budgets b st → (g : Form) (c : w.Lookahead) (d n : ℕ) → Gives (Limit b) (in_to k x a st) g d n c ↔ (goes_on b (in_to k x a st) Expression c d n ≡ true)
to_ b st k x a h g c d n = link_test (l.Then Closing) (Does (Limit b) st) (does_falls (Limit b) (limit_down b) st) (goes_on b st Command) (λ j e m. h Command j e m tt) (max (depth a) (max d 1) + 1) _ (nodes a + n + 2) _ c (omega arith) (omega arith)

pub by_ : (b : Bool) (st : Stack) (k : ℕ) (x : Mention) (a e : r.Expression) → Budgets b st → (g : Form) (c : w.Lookahead) (d n : ℕ) → Gives (Limit b) (in_by k x a e st) g d n c ↔ (goes_on b (in_by k x a e st) Expression c d n ≡ true)
by_ b st k x a e h g c d n = link_test (l.Then Closing) (Does (Limit b) st) (does_falls (Limit b) (limit_down b) st) (goes_on b st Command) (λ j e m. h Command j e m tt) (max (depth a) (max (depth e) (max d 1)) + 1) _ (nodes a + nodes e + n + 2) _ c (omega arith) (omega arith)

pub result : (b : Bool) (st : Stack) (k : ℕ) → Budgets b st → (g : Form) (c : w.Lookahead) (d n : ℕ) → Gives (Limit b) (in_result k st) g d n c ↔ (goes_on b (in_result k st) Expression c d n ≡ true)
result b st k h g c d n = via (split_closed (Does (Limit b) st) (d + 1) (n + 1) c) (either (link_test l.Ended (Does (Limit b) st) (does_falls (Limit b) (limit_down b) st) (goes_on b st Command) (λ j e m. h Command j e m tt) (d + 1) _ (n + 1) _ c (omega arith) (omega arith)) (link_test (l.Then Repeating) (Does (Limit b) st) (does_falls (Limit b) (limit_down b) st) (goes_on b st Command) (λ j e m. h Command j e m tt) (d + 1 + 1) _ (n + 1 + 1) _ c (omega arith) (omega arith)))

pub while_ : (b : Bool) (st : Stack) (t : Bool) (a : r.Command) → Budgets b st → (g : Form) (c : w.Lookahead) (d n : ℕ) → Gives (Limit b) (in_while t a st) g d n c ↔ (goes_on b (in_while t a st) Expression c d n ≡ true)
while_ b st t a h g c d n = via (split_closed (Does (Limit b) st) (max (depth_of_command a) d + 1) (nodes_of_command a + n + 1) c) (either (link_test l.Ended (Does (Limit b) st) (does_falls (Limit b) (limit_down b) st) (goes_on b st Command) (λ j e m. h Command j e m tt) (max (depth_of_command a) d + 1) _ (nodes_of_command a + n + 1) _ c (omega arith) (omega arith)) (link_test (l.Then Repeating) (Does (Limit b) st) (does_falls (Limit b) (limit_down b) st) (goes_on b st Command) (λ j e m. h Command j e m tt) (max (depth_of_command a) d + 1 + 1) _ (nodes_of_command a + n + 1 + 1) _ c (omega arith) (omega arith)))

pub item_ : (b : Bool) (st : Stack) (k : ℕ) (q : Sort) (is : Items) (x : Mention) → Budgets b st → (g : Form) (c : w.Lookahead) (d n : ℕ) → Gives (Limit b) (in_item k q is x st) g d n c ↔ (goes_on b (in_item k q is x st) Expression c d n ≡ true)
item_ b st k q is x h g c d n = via (closing_any _ c) (link_test (l.Then Closing) (declared b st) (declared_falls b st) (goes_on b st Declaration) (λ j e m. h Declaration j e m tt) (max (depth_of_items is) (d + 1)) _ (nodes_of_items is + (n + 1)) _ c (omega arith) (omega arith))

pub function_ : (b : Bool) (st : Stack) (x : Mention) (fs : List Mention) → Budgets b st → (g : Form) (c : w.Lookahead) (d n : ℕ) → Gives (Limit b) (in_function x fs st) g d n c ↔ (goes_on b (in_function x fs st) Expression c d n ≡ true)
function_ b st x fs h g c d n = via (closing_any _ c) (link_test (l.Then Closing) (defined b st) (defined_falls b st) (goes_on b st Definition) (λ j e m. h Definition j e m tt) (d + 1) _ (n + 1) _ c (omega arith) (omega arith))

pub args_none : (b : Bool) (st : Stack) (s : ℕ) (x : r.Expression) → Budgets b st → (g : Form) (c : w.Lookahead) (d n : ℕ) → Gives (Limit b) (in_args s x none st) g d n c ↔ (goes_on b (in_args s x none st) Expression c d n ≡ true)
args_none b st s x h g c d n = via (split_argument _ _ c) (either (via (closing_as (call_whole (Gives (Limit b) st) (gives_falls (Limit b) (limit_down b) st) (max (depth x) (max (depth_of_each none) d) + 1) (nodes x + (nodes_of_each none + n) + 1)) c) (link_test (l.Then Closing) (Gives (Limit b) st f.Call) (gives_falls (Limit b) (limit_down b) st f.Call) (goes_on b st Call) (λ j e m. h Call j e m tt) (max (depth x) (max (depth_of_each none) d) + 1) _ (nodes x + (nodes_of_each none + n) + 1) _ c (omega arith) (omega arith))) (via add_none (either (via (listing_as (call_whole (Gives (Limit b) st) (gives_falls (Limit b) (limit_down b) st) (max (depth x) (max (depth_of_each none) (max d 1)) + 1) (nodes x + (nodes_of_each none + n) + 2)) c) (link_test (l.Then Listing) (Gives (Limit b) st f.Call) (gives_falls (Limit b) (limit_down b) st f.Call) (goes_on b st Call) (λ j e m. h Call j e m tt) (max (depth x) (max (depth_of_each none) (max d 1)) + 1) _ (nodes x + (nodes_of_each none + n) + 2) _ c (omega arith) (omega arith))) none_is)))

pub args_more : (b : Bool) (st : Stack) (s : ℕ) (x y : r.Expression) (ys : Expressions) → Budgets b st → (g : Form) (c : w.Lookahead) (d n : ℕ) → Gives (Limit b) (in_args s x (more y ys) st) g d n c ↔ (goes_on b (in_args s x (more y ys) st) Expression c d n ≡ true)
args_more b st s x y ys h g c d n = via (split_argument _ _ c) (either (via (closing_as (call_whole (Gives (Limit b) st) (gives_falls (Limit b) (limit_down b) st) (max (depth x) (max (depth_of_each (more y ys)) d) + 1) (nodes x + (nodes_of_each (more y ys) + n) + 1)) c) (link_test (l.Then Closing) (Gives (Limit b) st f.Call) (gives_falls (Limit b) (limit_down b) st f.Call) (goes_on b st Call) (λ j e m. h Call j e m tt) (max (depth x) (max (depth_of_each (more y ys)) d) + 1) _ (nodes x + (nodes_of_each (more y ys) + n) + 1) _ c (omega arith) (omega arith))) (via (listing_as (call_whole (Gives (Limit b) st) (gives_falls (Limit b) (limit_down b) st) (max (depth x) (max (depth_of_each (more y ys)) (max d 1)) + 1) (nodes x + (nodes_of_each (more y ys) + n) + 2)) c) (link_test (l.Then Listing) (Gives (Limit b) st f.Call) (gives_falls (Limit b) (limit_down b) st f.Call) (goes_on b st Call) (λ j e m. h Call j e m tt) (max (depth x) (max (depth_of_each (more y ys)) (max d 1)) + 1) _ (nodes x + (nodes_of_each (more y ys) + n) + 2) _ c (omega arith) (omega arith))))

pub args_closed : (b : Bool) (st : Stack) (s : ℕ) (x : r.Expression) → Budgets b st → (c : w.Lookahead) (d n : ℕ) → (d ≡ 0) × (n ≡ 0) → AtClosing (Closes (Limit b) (in_args s x none st)) c ↔ (goes_on b (in_args s x none st) Closed c d n ≡ true)
args_closed b st s x h c d n z = via (closing_as (call_whole (Gives (Limit b) st) (gives_falls (Limit b) (limit_down b) st) (depth x + 1) (nodes x + 1)) c) (link_test (l.Then Closing) (Gives (Limit b) st f.Call) (gives_falls (Limit b) (limit_down b) st f.Call) (goes_on b st Call) (λ j e m. h Call j e m tt) (depth x + 1) _ (nodes x + 1) _ c (omega (arith, z.0, z.1)) (omega (arith, z.0, z.1)))

pub start_other : (b : Bool) (st : Stack) → Budgets b st → (c : w.Lookahead) (d n : ℕ) → Gives (Limit b) (in_start st) f.Other d n c ↔ (goes_on b (in_start st) Expression c d n ≡ true)
start_other b st h c d n = via (split_start (Does (Limit b) st) d n c) (either (link_test (l.ThenClosed Assigning) (Does (Limit b) st) (does_falls (Limit b) (limit_down b) st) (goes_on b st Command) (λ j e m. h Command j e m tt) (max d 1 + 1) _ (n + 2) _ c (omega arith) (omega arith)) (either (link_test (l.ThenClosed Listing) (Does (Limit b) st) (does_falls (Limit b) (limit_down b) st) (goes_on b st Command) (λ j e m. h Command j e m tt) (max d 1 + 1) _ (n + 4) _ c (omega arith) (omega arith)) (none_is)))

pub start_call : (b : Bool) (st : Stack) → Budgets b st → (c : w.Lookahead) (d n : ℕ) → Gives (Limit b) (in_start st) f.Call d n c ↔ (goes_on b (in_start st) Call c d n ≡ true)
start_call b st h c d n = via (split_start_call (Does (Limit b) st) d n c) (either (link_test (l.ThenClosed Assigning) (Does (Limit b) st) (does_falls (Limit b) (limit_down b) st) (goes_on b st Command) (λ j e m. h Command j e m tt) (max d 1 + 1) _ (n + 2) _ c (omega arith) (omega arith)) (either (link_test (l.ThenClosed Listing) (Does (Limit b) st) (does_falls (Limit b) (limit_down b) st) (goes_on b st Command) (λ j e m. h Command j e m tt) (max d 1 + 1) _ (n + 4) _ c (omega arith) (omega arith)) (either (link_test l.Closing (Does (Limit b) st) (does_falls (Limit b) (limit_down b) st) (goes_on b st Command) (λ j e m. h Command j e m tt) (d) _ (n) _ c (omega arith) (omega arith)) (link_test (l.Then Repeating) (Does (Limit b) st) (does_falls (Limit b) (limit_down b) st) (goes_on b st Command) (λ j e m. h Command j e m tt) (d + 1) _ (n + 1) _ c (omega arith) (omega arith)))))

pub start_label : (b : Bool) (st : Stack) → Budgets b st → (c : w.Lookahead) (d n : ℕ) → (d ≡ 1) × (n ≡ 1) → Gives (Limit b) (in_start st) f.Label d n c ↔ (goes_on b (in_start st) Label c d n ≡ true)
start_label b st h c d n s = via (split_start_label (Does (Limit b) st) d n c) (either (link_test (l.ThenClosed Assigning) (Does (Limit b) st) (does_falls (Limit b) (limit_down b) st) (goes_on b st Command) (λ j e m. h Command j e m tt) (max d 1 + 1) _ (n + 2) _ c (omega arith) (omega arith)) (either (link_test (l.ThenClosed Listing) (Does (Limit b) st) (does_falls (Limit b) (limit_down b) st) (goes_on b st Command) (λ j e m. h Command j e m tt) (max d 1 + 1) _ (n + 4) _ c (omega arith) (omega arith)) (either (via (label_closing (Does (Limit b) st) c) (link_test (l.ThenMissing Closing) (Does (Limit b) st) (does_falls (Limit b) (limit_down b) st) (goes_on b st Command) (λ j e m. h Command j e m tt) (1) _ (1) _ c (omega (arith, s.0, s.1)) (omega (arith, s.0, s.1)))) none_is)))

pub values_by : (b : Bool) (st : Stack) (xs ys : Expressions) → Budgets b st → (t : Bool) (c : w.Lookahead) (d n : ℕ)
    → If t (w.Closed (Does (Limit b) st) (max (depth_of_each xs) (max (depth_of_each ys) d) + 1) (nodes_of_each xs + (nodes_of_each ys + n) + 1)) (AtListing (Any (w.Closed (Does (Limit b) st) (max (depth_of_each xs) (max (depth_of_each ys) (max d 1)) + 1) (nodes_of_each xs + (nodes_of_each ys + n) + owed (size xs) (size ys) + 1)))) c
    ↔ (led (completions_of_values t (max (depth_of_each xs) (depth_of_each ys)) (nodes_of_each xs + nodes_of_each ys) (owed (size xs) (size ys))) (goes_on b st) Expression c d n ≡ true)
values_by b st xs ys h true c d n = via (split_closed (Does (Limit b) st) (max (depth_of_each xs) (max (depth_of_each ys) d) + 1) (nodes_of_each xs + (nodes_of_each ys + n) + 1) c) (either (link_test l.Ended (Does (Limit b) st) (does_falls (Limit b) (limit_down b) st) (goes_on b st Command) (λ j e m. h Command j e m tt) (max (depth_of_each xs) (max (depth_of_each ys) d) + 1) _ (nodes_of_each xs + (nodes_of_each ys + n) + 1) _ c (omega arith) (omega arith)) (link_test (l.Then Repeating) (Does (Limit b) st) (does_falls (Limit b) (limit_down b) st) (goes_on b st Command) (λ j e m. h Command j e m tt) (max (depth_of_each xs) (max (depth_of_each ys) d) + 1 + 1) _ (nodes_of_each xs + (nodes_of_each ys + n) + 1 + 1) _ c (omega arith) (omega arith)))
values_by b st xs ys h false c d n = link_test (l.ThenClosed Listing) (Does (Limit b) st) (does_falls (Limit b) (limit_down b) st) (goes_on b st Command) (λ j e m. h Command j e m tt) (max (depth_of_each xs) (max (depth_of_each ys) (max d 1)) + 1) _ (nodes_of_each xs + (nodes_of_each ys + n) + owed (size xs) (size ys) + 1) _ c (omega arith) (omega arith)

pub values_ : (b : Bool) (st : Stack) (xs ys : Expressions) → Budgets b st → (g : Form) (c : w.Lookahead) (d n : ℕ) → Gives (Limit b) (in_values xs ys st) g d n c ↔ (goes_on b (in_values xs ys st) Expression c d n ≡ true)
values_ b st xs ys h g c d n = values_by b st xs ys h (size xs == size ys + 1) c d n

pub starts_by : (b : Bool) (st : Stack) (xs : List Mention) (is : Starts) → Budgets b st → (t : Bool) (c : w.Lookahead) (d n : ℕ)
    → If t (AtClosing (Defines (Limit b) st (max (depth_of_starts is) d + 1) (nodes_of_starts is + n + 1))) (AtListing (Defines (Limit b) st (max (depth_of_starts is) (max d 1) + 1) (nodes_of_starts is + n + owed (length xs) (start_count is) + 1))) c
    ↔ (led (completions_of_starts t (depth_of_starts is) (nodes_of_starts is) (owed (length xs) (start_count is))) (goes_on b st) Expression c d n ≡ true)
starts_by b st xs is h true c d n = via (closing_any _ c) (link_test (l.Then Closing) (defined b st) (defined_falls b st) (goes_on b st Definition) (λ j e m. h Definition j e m tt) (max (depth_of_starts is) d + 1) _ (nodes_of_starts is + n + 1) _ c (omega arith) (omega arith))
starts_by b st xs is h false c d n = via (listing_any _ c) (link_test (l.Then Listing) (defined b st) (defined_falls b st) (goes_on b st Definition) (λ j e m. h Definition j e m tt) (max (depth_of_starts is) (max d 1) + 1) _ (nodes_of_starts is + n + owed (length xs) (start_count is) + 1) _ c (omega arith) (omega arith))

pub value_ : (b : Bool) (st : Stack) (xs : List Mention) (is : Starts) → Budgets b st → (g : Form) (c : w.Lookahead) (d n : ℕ) → Gives (Limit b) (in_value xs is st) g d n c ↔ (goes_on b (in_value xs is st) Expression c d n ≡ true)
value_ b st xs is h g c d n = starts_by b st xs is h (length xs == start_count is + 1) c d n

pub vector_ : (b : Bool) (st : Stack) (k : ℕ) (xs : List Mention) (is : Starts) → Budgets b st → (g : Form) (c : w.Lookahead) (d n : ℕ) → Gives (Limit b) (in_vector k xs is st) g d n c ↔ (goes_on b (in_vector k xs is st) Expression c d n ≡ true)
vector_ b st k xs is h g c d n = starts_by b st xs is h (length xs == start_count is + 1) c d n

pub guard_ : (b : Bool) (st : Stack) (k : Guard) (s : ℕ) → Budgets b st → (v : Form) (c : w.Lookahead) (d n : ℕ) → Gives (Limit b) (in_guard k s st) v d n c ↔ (goes_on b (in_guard k s st) Expression c d n ≡ true)
guard_ b st g.Case s h v c d n = via (sum_closing _ _ c) (either (link_test (l.ThenMissing Closing) (Does (Limit b) st) (does_falls (Limit b) (limit_down b) st) (goes_on b st Command) (λ j e m. h Command j e m tt) (d + 1) _ (n + 1) _ c (omega arith) (omega arith)) (link_test (l.Then Closing) (Does (Limit b) st) (does_falls (Limit b) (limit_down b) st) (goes_on b st Command) (λ j e m. h Command j e m tt) (max d 1 + 1) _ (n + 2) _ c (omega arith) (omega arith)))
guard_ b st x s h v c d n = link_test (l.Then Closing) (Does (Limit b) st) (does_falls (Limit b) (limit_down b) st) (goes_on b st Command) (λ j e m. h Command j e m tt) (max d 1 + 1) _ (n + 2) _ c (omega arith) (omega arith)

pub binary_by : (b : Bool) (st : Stack) (a : r.Expression) → Budgets b st → (t u : Bool) (c : w.Lookahead) (d n : ℕ) → Gives (Limit b) st f.Other (max (depth a) d + 1) (nodes a + n + 1) c ↔ (led (completions_of_binary t u (depth a) (nodes a)) (goes_on b st) Expression c d n ≡ true)
binary_by b st a h false u c d n = link_test l.Each (Gives (Limit b) st f.Other) (gives_falls (Limit b) (limit_down b) st f.Other) (goes_on b st Expression) (λ j e m. h Expression j e m tt) (max (depth a) d + 1) _ (nodes a + n + 1) _ c (omega arith) (omega arith)
binary_by b st a h true false c d n = via add_none (either (link_test l.Each (Gives (Limit b) st f.Other) (gives_falls (Limit b) (limit_down b) st f.Other) (goes_on b st Expression) (λ j e m. h Expression j e m tt) (max (depth a) d + 1) _ (nodes a + n + 1) _ c (omega arith) (omega arith)) none_is)
binary_by b st a h true true c d n = via add_none (either (link_test l.Each (Gives (Limit b) st f.Other) (gives_falls (Limit b) (limit_down b) st f.Other) (goes_on b st Expression) (λ j e m. h Expression j e m tt) (max (depth a) d + 1) _ (nodes a + n + 1) _ c (omega arith) (omega arith)) none_is)

pub binary_ : (b : Bool) (st : Stack) (o : Operator) (s : ℕ) (a : r.Expression) → Budgets b st → (g : Form) (c : w.Lookahead) (d n : ℕ) → Gives (Limit b) (in_binary o s a st) g d n c ↔ (goes_on b (in_binary o s a st) Expression c d n ≡ true)
binary_ b st o s a h g c d n = binary_by b st a h (not (nat_lt 1 (inner o))) (is_tight st) c d n

operated_by : (b : Bool) (st : Stack) (a : r.Expression) → Budgets b st → (t u : Bool) → is_tight st ≡ u → (X : Type 0) (c : w.Lookahead) (d n : ℕ)
    → AtClosing (Tight (not t) (Taken t X (Operates (Limit b) st (Gives (Limit b) st) (max (depth a) d + 1) (nodes a + n + 1)))) c ↔ (led (completions_of_binary (not t) u (depth a) (nodes a)) (goes_on b st) Operated c d n ≡ true)
operated_by b st a h true u e X c d n = shut c
operated_by b st a h false false e X c d n = via (closing_as (loose b st e (max (depth a) d + 1) (nodes a + n + 1)) c) (link_test (l.Then Closing) (Gives (Limit b) st f.Other) (gives_falls (Limit b) (limit_down b) st f.Other) (goes_on b st Expression) (λ j e m. h Expression j e m tt) (max (depth a) d + 1 + 1) _ (nodes a + n + 1 + 2) _ c (omega arith) (omega arith))
operated_by b st a h false true e X c d n = via (closing_as (tight b st e (max (depth a) d + 1) (nodes a + n + 1)) c) (link_test (l.Then Closing) (operated b st) (operated_falls b st) (goes_on b st Operated) (λ j e m. h Operated j e m tt) (max (depth a) d + 1) _ (nodes a + n + 1) _ c (omega arith) (omega arith))

pub operated_ : (b : Bool) (st : Stack) (o : Operator) (s : ℕ) (a : r.Expression) → Budgets b st → (c : w.Lookahead) (d n : ℕ) → Part (Limit b) (in_binary o s a st) Operated c d n ↔ (goes_on b (in_binary o s a st) Operated c d n ≡ true)
operated_ b st o s a h c d n = operated_by b st a h (nat_lt 1 (inner o)) (is_tight st) refl (Any (Gives (Limit b) (in_binary o s a st) f.Other (d + 1) (n + 2))) c d n

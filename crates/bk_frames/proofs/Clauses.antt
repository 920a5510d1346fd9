-- The ways of a command that was begun, of a definition and of a symbol that is due, are the ways on.
use Rattle.bk_frames.proofs.Terms.{◌≡◌, ◌↔◌, ℕ, ◌+◌, ◌==◌, max, Bool, true, false, List, length, refl, arith, Sort, Guard, Closing, Going, Operating, Mention, Expressions, Commands, Declarations, Items, Definitions, Starts, no_items, item, depth, depth_of_each, depth_of_command, depth_of_commands, depth_of_declarations, depth_of_items, depth_of_definitions, depth_of_starts, nodes, nodes_of_each, nodes_of_command, nodes_of_commands, nodes_of_declarations, nodes_of_items, nodes_of_definitions, nodes_of_starts, start_count, Stack, in_block, in_let, at_name, at_formals, at_formal, at_formal_end, at_head, at_variable, at_variable_end, at_starts, at_opening, at_items, at_sign, at_goto, at_for, at_forward, at_default, in_valof, in_label, in_guarded, in_default, in_do, in_or, in_for, in_routine, owed, Limit, is_tight, led, goes_on, completions_of_valof, Any, AtClosing, AtListing, If, Answered, Gives, Does, Operates, Defines, Declares, Misses, Link as l, Form as f}
use Rattle.bk_frames.specs.declared.budget.Category.TheVariants.{Expression, Call, Operated, Command, Missing, Definition, Declaration, Due}
use Rattle.bk_tree.specs.Tree as r
use Rattle.bk_frames.specs.Completing as w
use Rattle.bk_frames.proofs.Lowering.{gives_falls, does_falls}
use Rattle.bk_frames.proofs.Links.{link_test}
use Rattle.bk_frames.proofs.Joints.{Budgets, limit_down, via, either, none_is, add_none, closing_as, operating_as, any_closing, any_listing, closing_any, split_answered, label_closing, callable, defined, declared, operated, defined_falls, declared_falls, operated_falls, loose, tight, counted_all}

valof_by : (b : Bool) (st : Stack) → Budgets b st → (u : Bool) → is_tight st ≡ u → (c : w.Lookahead) (d n : ℕ)
    → Answered (Gives (Limit b) st) (Operates (Limit b) st (Gives (Limit b) st)) d n c ↔ (led (completions_of_valof u) (goes_on b st) Command c d n ≡ true)
valof_by b st h false e c d n = via (split_answered (Gives (Limit b) st) (Operates (Limit b) st (Gives (Limit b) st)) d n c) (either (link_test l.Ended (Gives (Limit b) st f.Callable) (gives_falls (Limit b) (limit_down b) st f.Callable) (goes_on b st Expression) (callable b st h) (d + 1) _ (n + 1) _ c (omega arith) (omega arith)) (either (link_test (l.Then Going) (Gives (Limit b) st f.Call) (gives_falls (Limit b) (limit_down b) st f.Call) (goes_on b st Call) (λ j e m. h Call j e m tt) (d + 2) _ (n + 2) _ c (omega arith) (omega arith)) (via (operating_as (loose b st e (d + 1) (n + 1)) c) (link_test (l.Then Operating) (Gives (Limit b) st f.Other) (gives_falls (Limit b) (limit_down b) st f.Other) (goes_on b st Expression) (λ j e m. h Expression j e m tt) (d + 1 + 1) _ (n + 1 + 2) _ c (omega arith) (omega arith)))))
valof_by b st h true e c d n = via (split_answered (Gives (Limit b) st) (Operates (Limit b) st (Gives (Limit b) st)) d n c) (either (link_test l.Ended (Gives (Limit b) st f.Callable) (gives_falls (Limit b) (limit_down b) st f.Callable) (goes_on b st Expression) (callable b st h) (d + 1) _ (n + 1) _ c (omega arith) (omega arith)) (either (link_test (l.Then Going) (Gives (Limit b) st f.Call) (gives_falls (Limit b) (limit_down b) st f.Call) (goes_on b st Call) (λ j e m. h Call j e m tt) (d + 2) _ (n + 2) _ c (omega arith) (omega arith)) (via (operating_as (tight b st e (d + 1) (n + 1)) c) (link_test (l.Then Operating) (operated b st) (operated_falls b st) (goes_on b st Operated) (λ j e m. h Operated j e m tt) (d + 1) _ (n + 1) _ c (omega arith) (omega arith)))))

pub valof_ : (b : Bool) (st : Stack) (k : ℕ) → Budgets b st → (c : w.Lookahead) (d n : ℕ) → Does (Limit b) (in_valof k st) d n c ↔ (goes_on b (in_valof k st) Command c d n ≡ true)
valof_ b st k h c d n = valof_by b st h (is_tight st) refl c d n

pub label_ : (b : Bool) (st : Stack) (k : ℕ) (x : List ℕ) → Budgets b st → (c : w.Lookahead) (d n : ℕ) → Does (Limit b) (in_label k x st) d n c ↔ (goes_on b (in_label k x st) Command c d n ≡ true)
label_ b st k x h c d n = via add_none (either (link_test l.Each (Does (Limit b) st) (does_falls (Limit b) (limit_down b) st) (goes_on b st Command) (λ j e m. h Command j e m tt) (d + 1) _ (n + 1) _ c (omega arith) (omega arith)) none_is)

pub label_missing : (b : Bool) (st : Stack) (k : ℕ) (x : List ℕ) → Budgets b st → (c : w.Lookahead) (d n : ℕ) → (d ≡ 0) × (n ≡ 0) → AtClosing (Misses (Limit b) (in_label k x st)) c ↔ (goes_on b (in_label k x st) Missing c d n ≡ true)
label_missing b st k x h c d n s = link_test (l.ThenMissing Closing) (Does (Limit b) st) (does_falls (Limit b) (limit_down b) st) (goes_on b st Command) (λ j e m. h Command j e m tt) (1) _ (1) _ c (omega (arith, s.0, s.1)) (omega (arith, s.0, s.1))

pub default_ : (b : Bool) (st : Stack) (k : ℕ) → Budgets b st → (c : w.Lookahead) (d n : ℕ) → Does (Limit b) (in_default k st) d n c ↔ (goes_on b (in_default k st) Command c d n ≡ true)
default_ b st k h c d n = via add_none (either (link_test l.Each (Does (Limit b) st) (does_falls (Limit b) (limit_down b) st) (goes_on b st Command) (λ j e m. h Command j e m tt) (d + 1) _ (n + 1) _ c (omega arith) (omega arith)) none_is)

pub default_missing : (b : Bool) (st : Stack) (k : ℕ) → Budgets b st → (c : w.Lookahead) (d n : ℕ) → (d ≡ 0) × (n ≡ 0) → AtClosing (Misses (Limit b) (in_default k st)) c ↔ (goes_on b (in_default k st) Missing c d n ≡ true)
default_missing b st k h c d n s = link_test (l.ThenMissing Closing) (Does (Limit b) st) (does_falls (Limit b) (limit_down b) st) (goes_on b st Command) (λ j e m. h Command j e m tt) (1) _ (1) _ c (omega (arith, s.0, s.1)) (omega (arith, s.0, s.1))

pub guarded_ : (b : Bool) (st : Stack) (q : Guard) (k : ℕ) (e : r.Expression) → Budgets b st → (c : w.Lookahead) (d n : ℕ) → Does (Limit b) (in_guarded q k e st) d n c ↔ (goes_on b (in_guarded q k e st) Command c d n ≡ true)
guarded_ b st q k e h c d n = via add_none (either (link_test l.Each (Does (Limit b) st) (does_falls (Limit b) (limit_down b) st) (goes_on b st Command) (λ j e m. h Command j e m tt) (max (depth e) d + 1) _ (nodes e + n + 1) _ c (omega arith) (omega arith)) none_is)

pub guarded_missing : (b : Bool) (st : Stack) (q : Guard) (k : ℕ) (e : r.Expression) → Budgets b st → (c : w.Lookahead) (d n : ℕ) → (d ≡ 0) × (n ≡ 0) → AtClosing (Misses (Limit b) (in_guarded q k e st)) c ↔ (goes_on b (in_guarded q k e st) Missing c d n ≡ true)
guarded_missing b st q k e h c d n s = link_test (l.ThenMissing Closing) (Does (Limit b) st) (does_falls (Limit b) (limit_down b) st) (goes_on b st Command) (λ j e m. h Command j e m tt) (depth e + 1) _ (nodes e + 1) _ c (omega (arith, s.0, s.1)) (omega (arith, s.0, s.1))

pub do_ : (b : Bool) (st : Stack) (k : ℕ) (e : r.Expression) → Budgets b st → (c : w.Lookahead) (d n : ℕ) → Does (Limit b) (in_do k e st) d n c ↔ (goes_on b (in_do k e st) Command c d n ≡ true)
do_ b st k e h c d n = link_test (l.Then Closing) (Does (Limit b) st) (does_falls (Limit b) (limit_down b) st) (goes_on b st Command) (λ j e m. h Command j e m tt) (max (depth e) (max d 1) + 1) _ (nodes e + n + 2) _ c (omega arith) (omega arith)

pub or_ : (b : Bool) (st : Stack) (k : ℕ) (e : r.Expression) (a : r.Command) → Budgets b st → (c : w.Lookahead) (d n : ℕ) → Does (Limit b) (in_or k e a st) d n c ↔ (goes_on b (in_or k e a st) Command c d n ≡ true)
or_ b st k e a h c d n = link_test l.Each (Does (Limit b) st) (does_falls (Limit b) (limit_down b) st) (goes_on b st Command) (λ j e m. h Command j e m tt) (max (depth e) (max (depth_of_command a) d) + 1) _ (nodes e + nodes_of_command a + n + 1) _ c (omega arith) (omega arith)

pub for_ : (b : Bool) (st : Stack) (k : ℕ) (x : Mention) (a e : r.Expression) (y : Expressions) → Budgets b st → (c : w.Lookahead) (d n : ℕ) → Does (Limit b) (in_for k x a e y st) d n c ↔ (goes_on b (in_for k x a e y st) Command c d n ≡ true)
for_ b st k x a e y h c d n = link_test l.Each (Does (Limit b) st) (does_falls (Limit b) (limit_down b) st) (goes_on b st Command) (λ j e m. h Command j e m tt) (max (depth a) (max (depth e) (max (depth_of_each y) d)) + 1) _ (nodes a + nodes e + nodes_of_each y + n + 1) _ c (omega arith) (omega arith)

pub routine_ : (b : Bool) (st : Stack) (x : Mention) (fs : List Mention) → Budgets b st → (c : w.Lookahead) (d n : ℕ) → Does (Limit b) (in_routine x fs st) d n c ↔ (goes_on b (in_routine x fs st) Command c d n ≡ true)
routine_ b st x fs h c d n = via (closing_any _ c) (link_test (l.Then Closing) (defined b st) (defined_falls b st) (goes_on b st Definition) (λ j e m. h Definition j e m tt) (d + 1) _ (n + 1) _ c (omega arith) (omega arith))

pub block_ : (b : Bool) (st : Stack) (k : ℕ) (t : Bool) (ds : Declarations) (cs : Commands) → Budgets b st → (c : w.Lookahead) (d n : ℕ) → Does (Limit b) (in_block k t ds cs st) d n c ↔ (goes_on b (in_block k t ds cs st) Command c d n ≡ true)
block_ b st k t ds cs h c d n = via add_none (either (link_test (l.Then Closing) (Does (Limit b) st) (does_falls (Limit b) (limit_down b) st) (goes_on b st Command) (λ j e m. h Command j e m tt) (max (depth_of_declarations ds) (max (depth_of_commands cs) d) + 1) _ (nodes_of_declarations ds + (nodes_of_commands cs + n) + 1) _ c (omega arith) (omega arith)) none_is)

pub block_declares : (b : Bool) (st : Stack) (k : ℕ) (t : Bool) (ds : Declarations) (cs : Commands) → Budgets b st → (c : w.Lookahead) (d n : ℕ) → AtClosing (Declares (Limit b) (in_block k t ds cs st) d n) c ↔ (goes_on b (in_block k t ds cs st) Declaration c d n ≡ true)
block_declares b st k t ds cs h c d n = via add_none (either (link_test (l.Then Closing) (Does (Limit b) st) (does_falls (Limit b) (limit_down b) st) (goes_on b st Command) (λ j e m. h Command j e m tt) (max (depth_of_declarations ds) (max (depth_of_commands cs) d) + 1) _ (nodes_of_declarations ds + (nodes_of_commands cs + n) + 1) _ c (omega arith) (omega arith)) none_is)

pub block_due : (b : Bool) (st : Stack) (k : ℕ) (t : Bool) (ds : Declarations) (cs : Commands) → Budgets b st → (c : w.Lookahead) (d n : ℕ) → (d ≡ 0) × (n ≡ 0) → AtClosing (w.Due (Limit b) (in_block k t ds cs st)) c ↔ (goes_on b (in_block k t ds cs st) Due c d n ≡ true)
block_due b st k t ds cs h c d n s = link_test (l.Then Closing) (Does (Limit b) st) (does_falls (Limit b) (limit_down b) st) (goes_on b st Command) (λ j e m. h Command j e m tt) (max (depth_of_declarations ds) (max (depth_of_commands cs) 0) + 1) _ (nodes_of_declarations ds + (nodes_of_commands cs + 0) + 1) _ c (omega (arith, s.0, s.1)) (omega (arith, s.0, s.1))

pub let_defines : (b : Bool) (st : Stack) (k : ℕ) (ds : Definitions) → Budgets b st → (c : w.Lookahead) (d n : ℕ) → AtClosing (Defines (Limit b) (in_let k ds st) d n) c ↔ (goes_on b (in_let k ds st) Definition c d n ≡ true)
let_defines b st k ds h c d n = via add_none (either (via (closing_any _ c) (link_test (l.Then Closing) (declared b st) (declared_falls b st) (goes_on b st Declaration) (λ j e m. h Declaration j e m tt) (max (depth_of_definitions ds) d) _ (nodes_of_definitions ds + n) _ c (omega arith) (omega arith))) none_is)

pub let_due : (b : Bool) (st : Stack) (k : ℕ) (ds : Definitions) → Budgets b st → (c : w.Lookahead) (d n : ℕ) → (d ≡ 0) × (n ≡ 0) → AtClosing (w.Due (Limit b) (in_let k ds st)) c ↔ (goes_on b (in_let k ds st) Due c d n ≡ true)
let_due b st k ds h c d n s = via (closing_any _ c) (link_test (l.Then Closing) (declared b st) (declared_falls b st) (goes_on b st Declaration) (λ j e m. h Declaration j e m tt) (max (depth_of_definitions ds) 2) _ (nodes_of_definitions ds + 2) _ c (omega (arith, s.0, s.1)) (omega (arith, s.0, s.1)))

pub name_ : (b : Bool) (st : Stack) (x : Mention) → Budgets b st → (c : w.Lookahead) (d n : ℕ) → (d ≡ 0) × (n ≡ 0) → AtClosing (w.Due (Limit b) (at_name x st)) c ↔ (goes_on b (at_name x st) Due c d n ≡ true)
name_ b st x h c d n s = via (closing_any _ c) (link_test (l.Then Closing) (defined b st) (defined_falls b st) (goes_on b st Definition) (λ j e m. h Definition j e m tt) (2) _ (2) _ c (omega (arith, s.0, s.1)) (omega (arith, s.0, s.1)))

pub formals_ : (b : Bool) (st : Stack) (x : Mention) → Budgets b st → (c : w.Lookahead) (d n : ℕ) → (d ≡ 0) × (n ≡ 0) → AtClosing (w.Due (Limit b) (at_formals x st)) c ↔ (goes_on b (at_formals x st) Due c d n ≡ true)
formals_ b st x h c d n s = via (closing_any _ c) (link_test (l.Then Closing) (defined b st) (defined_falls b st) (goes_on b st Definition) (λ j e m. h Definition j e m tt) (2) _ (2) _ c (omega (arith, s.0, s.1)) (omega (arith, s.0, s.1)))

pub formal_ : (b : Bool) (st : Stack) (x : Mention) (fs : List Mention) → Budgets b st → (c : w.Lookahead) (d n : ℕ) → (d ≡ 0) × (n ≡ 0) → AtClosing (w.Due (Limit b) (at_formal x fs st)) c ↔ (goes_on b (at_formal x fs st) Due c d n ≡ true)
formal_ b st x fs h c d n s = via (closing_any _ c) (link_test (l.Then Closing) (defined b st) (defined_falls b st) (goes_on b st Definition) (λ j e m. h Definition j e m tt) (2) _ (2) _ c (omega (arith, s.0, s.1)) (omega (arith, s.0, s.1)))

pub formal_end_ : (b : Bool) (st : Stack) (x : Mention) (fs : List Mention) → Budgets b st → (c : w.Lookahead) (d n : ℕ) → (d ≡ 0) × (n ≡ 0) → AtClosing (w.Due (Limit b) (at_formal_end x fs st)) c ↔ (goes_on b (at_formal_end x fs st) Due c d n ≡ true)
formal_end_ b st x fs h c d n s = via (closing_any _ c) (link_test (l.Then Closing) (defined b st) (defined_falls b st) (goes_on b st Definition) (λ j e m. h Definition j e m tt) (2) _ (2) _ c (omega (arith, s.0, s.1)) (omega (arith, s.0, s.1)))

pub head_ : (b : Bool) (st : Stack) (x : Mention) (fs : List Mention) → Budgets b st → (c : w.Lookahead) (d n : ℕ) → (d ≡ 0) × (n ≡ 0) → AtClosing (w.Due (Limit b) (at_head x fs st)) c ↔ (goes_on b (at_head x fs st) Due c d n ≡ true)
head_ b st x fs h c d n s = via (closing_any _ c) (link_test (l.Then Closing) (defined b st) (defined_falls b st) (goes_on b st Definition) (λ j e m. h Definition j e m tt) (2) _ (2) _ c (omega (arith, s.0, s.1)) (omega (arith, s.0, s.1)))

pub variable_ : (b : Bool) (st : Stack) (xs : List Mention) → Budgets b st → (c : w.Lookahead) (d n : ℕ) → (d ≡ 0) × (n ≡ 0) → AtClosing (w.Due (Limit b) (at_variable xs st)) c ↔ (goes_on b (at_variable xs st) Due c d n ≡ true)
variable_ b st xs h c d n s = via (closing_any _ c) (link_test (l.Then Closing) (defined b st) (defined_falls b st) (goes_on b st Definition) (λ j e m. h Definition j e m tt) (2) _ (length xs + 2) _ c (omega (arith, s.0, s.1)) (omega (arith, s.0, s.1)))

pub variable_end_ : (b : Bool) (st : Stack) (xs : List Mention) → Budgets b st → (c : w.Lookahead) (d n : ℕ) → (d ≡ 0) × (n ≡ 0) → AtClosing (w.Due (Limit b) (at_variable_end xs st)) c ↔ (goes_on b (at_variable_end xs st) Due c d n ≡ true)
variable_end_ b st xs h c d n s = via (closing_any _ c) (link_test (l.Then Closing) (defined b st) (defined_falls b st) (goes_on b st Definition) (λ j e m. h Definition j e m tt) (2) _ (length xs + 1) _ c (omega (arith, s.0, s.1)) (omega (arith, s.0, s.1)))

pub opening_ : (b : Bool) (st : Stack) (k : ℕ) (q : Sort) → Budgets b st → (c : w.Lookahead) (d n : ℕ) → (d ≡ 0) × (n ≡ 0) → AtClosing (w.Due (Limit b) (at_opening k q st)) c ↔ (goes_on b (at_opening k q st) Due c d n ≡ true)
opening_ b st k q h c d n s = via (closing_any _ c) (link_test (l.Then Closing) (declared b st) (declared_falls b st) (goes_on b st Declaration) (λ j e m. h Declaration j e m tt) (2) _ (2) _ c (omega (arith, s.0, s.1)) (omega (arith, s.0, s.1)))

pub items_none : (b : Bool) (st : Stack) (k : ℕ) (q : Sort) → Budgets b st → (c : w.Lookahead) (d n : ℕ) → (d ≡ 0) × (n ≡ 0) → AtClosing (w.Due (Limit b) (at_items k q no_items st)) c ↔ (goes_on b (at_items k q no_items st) Due c d n ≡ true)
items_none b st k q h c d n s = via (closing_any _ c) (link_test (l.Then Closing) (declared b st) (declared_falls b st) (goes_on b st Declaration) (λ j e m. h Declaration j e m tt) (2) _ (2) _ c (omega (arith, s.0, s.1)) (omega (arith, s.0, s.1)))

pub items_some : (b : Bool) (st : Stack) (k : ℕ) (q : Sort) (i : ℕ) (x : List ℕ) (e : r.Expression) (is : Items) → Budgets b st → (c : w.Lookahead) (d n : ℕ) → (d ≡ 0) × (n ≡ 0) → AtClosing (w.Due (Limit b) (at_items k q (item i x e is) st)) c ↔ (goes_on b (at_items k q (item i x e is) st) Due c d n ≡ true)
items_some b st k q i x e is h c d n s = via (closing_any _ c) (link_test (l.Then Closing) (declared b st) (declared_falls b st) (goes_on b st Declaration) (λ j e m. h Declaration j e m tt) (depth_of_items (item i x e is)) _ (nodes_of_items (item i x e is)) _ c (omega (arith, s.0, s.1)) (omega (arith, s.0, s.1)))

pub sign_ : (b : Bool) (st : Stack) (k : ℕ) (q : Sort) (is : Items) (x : Mention) → Budgets b st → (c : w.Lookahead) (d n : ℕ) → (d ≡ 0) × (n ≡ 0) → AtClosing (w.Due (Limit b) (at_sign k q is x st)) c ↔ (goes_on b (at_sign k q is x st) Due c d n ≡ true)
sign_ b st k q is x h c d n s = via (closing_any _ c) (link_test (l.Then Closing) (declared b st) (declared_falls b st) (goes_on b st Declaration) (λ j e m. h Declaration j e m tt) (max 2 (depth_of_items is)) _ (nodes_of_items is + 2) _ c (omega (arith, s.0, s.1)) (omega (arith, s.0, s.1)))

pub goto_ : (b : Bool) (st : Stack) (k : ℕ) → Budgets b st → (c : w.Lookahead) (d n : ℕ) → (d ≡ 0) × (n ≡ 0) → AtClosing (w.Due (Limit b) (at_goto k st)) c ↔ (goes_on b (at_goto k st) Due c d n ≡ true)
goto_ b st k h c d n s = link_test (l.Then Closing) (Does (Limit b) st) (does_falls (Limit b) (limit_down b) st) (goes_on b st Command) (λ j e m. h Command j e m tt) (1) _ (1) _ c (omega (arith, s.0, s.1)) (omega (arith, s.0, s.1))

pub at_for_ : (b : Bool) (st : Stack) (k : ℕ) → Budgets b st → (c : w.Lookahead) (d n : ℕ) → (d ≡ 0) × (n ≡ 0) → AtClosing (w.Due (Limit b) (at_for k st)) c ↔ (goes_on b (at_for k st) Due c d n ≡ true)
at_for_ b st k h c d n s = link_test (l.Then Closing) (Does (Limit b) st) (does_falls (Limit b) (limit_down b) st) (goes_on b st Command) (λ j e m. h Command j e m tt) (2) _ (4) _ c (omega (arith, s.0, s.1)) (omega (arith, s.0, s.1))

pub forward_ : (b : Bool) (st : Stack) (k : ℕ) (x : Mention) → Budgets b st → (c : w.Lookahead) (d n : ℕ) → (d ≡ 0) × (n ≡ 0) → AtClosing (w.Due (Limit b) (at_forward k x st)) c ↔ (goes_on b (at_forward k x st) Due c d n ≡ true)
forward_ b st k x h c d n s = link_test (l.Then Closing) (Does (Limit b) st) (does_falls (Limit b) (limit_down b) st) (goes_on b st Command) (λ j e m. h Command j e m tt) (2) _ (4) _ c (omega (arith, s.0, s.1)) (omega (arith, s.0, s.1))

pub at_default_ : (b : Bool) (st : Stack) (k : ℕ) → Budgets b st → (c : w.Lookahead) (d n : ℕ) → (d ≡ 0) × (n ≡ 0) → AtClosing (w.Due (Limit b) (at_default k st)) c ↔ (goes_on b (at_default k st) Due c d n ≡ true)
at_default_ b st k h c d n s = via (label_closing (Does (Limit b) st) c) (link_test (l.ThenMissing Closing) (Does (Limit b) st) (does_falls (Limit b) (limit_down b) st) (goes_on b st Command) (λ j e m. h Command j e m tt) (1) _ (1) _ c (omega (arith, s.0, s.1)) (omega (arith, s.0, s.1)))

starts_due : (b : Bool) (st : Stack) (xs : List Mention) (is : Starts) → Budgets b st → (t : Bool) → (length xs == start_count is + 1) ≡ t → (c : w.Lookahead) (d n : ℕ) → (d ≡ 0) × (n ≡ 0)
    → AtClosing (Any (If t (AtClosing (Defines (Limit b) st (max (depth_of_starts is) 1 + 1) (nodes_of_starts is + 1 + 1))) (AtListing (Defines (Limit b) st (max (depth_of_starts is) (max 1 1) + 1) (nodes_of_starts is + 1 + owed (length xs) (start_count is) + 1))))) c
    ↔ (goes_on b (at_starts xs is st) Due c d n ≡ true)
starts_due b st xs is h true e c d n s = let o = counted_all (length xs) (start_count is) e in via (closing_as (any_closing (Defines (Limit b) st (max (depth_of_starts is) 1 + 1) (nodes_of_starts is + 1 + 1))) c) (via (closing_any _ c) (link_test (l.Then Closing) (defined b st) (defined_falls b st) (goes_on b st Definition) (λ j e m. h Definition j e m tt) (max (depth_of_starts is) 1 + 1) _ (nodes_of_starts is + 1 + 1) _ c (omega (arith, s.0, s.1, o)) (omega (arith, s.0, s.1, o))))
starts_due b st xs is h false e c d n s = via (closing_as (any_listing (Defines (Limit b) st (max (depth_of_starts is) (max 1 1) + 1) (nodes_of_starts is + 1 + owed (length xs) (start_count is) + 1))) c) (via (closing_any _ c) (link_test (l.Then Closing) (defined b st) (defined_falls b st) (goes_on b st Definition) (λ j e m. h Definition j e m tt) (max (depth_of_starts is) (max 1 1) + 1) _ (nodes_of_starts is + 1 + owed (length xs) (start_count is) + 1) _ c (omega (arith, s.0, s.1)) (omega (arith, s.0, s.1))))

pub starts_ : (b : Bool) (st : Stack) (xs : List Mention) (is : Starts) → Budgets b st → (c : w.Lookahead) (d n : ℕ) → (d ≡ 0) × (n ≡ 0) → AtClosing (w.Due (Limit b) (at_starts xs is st)) c ↔ (goes_on b (at_starts xs is st) Due c d n ≡ true)
starts_ b st xs is h c d n s = starts_due b st xs is h (length xs == start_count is + 1) refl c d n s

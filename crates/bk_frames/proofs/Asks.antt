-- What a state asks for, as rooms.
use Rattle.bk_frames.proofs.Terms.{◌≡◌, ◌⊎◌, ◌↔◌, inl, inr, ℕ, ◌+◌, Bool, true, ◌&&◌, ◌||◌, List, [], ◌∷◌, refl, sym, ◌∙◌, Category, Budget, Form, none, more, depth, nodes, depth_of_command, nodes_of_command, Stack, in_args, want, have, begin, maybe, did, due, form_of, Limit, counted, next_of, is_next, serves, fits, holds, covered, has_budget, category_of, Part, Closes, Sized, AreBudgets, Any, Gives, Wants, Misses, Completes, Form as f, or_cases, or_left, or_right}
use Rattle.bk_frames.specs.declared.budget.Category.TheVariants.{Expression, Label, Call, Command, Missing, Due, Closed}
use Rattle.bk_tree.specs.Tree as r
use Rattle.bk_frames.specs.Completing as w
use Rattle.bk_frames.proofs.Links.{both, second, next_in}
use Rattle.bk_frames.proofs.Joints.{limit_down, via, either, any_closing, plain}
use Rattle.bk_frames.proofs.Decides.{decides}
use Rattle.bk_frames.proofs.Covering.{wants}

abbrev Found : List Budget → Category → ℕ → ℕ → Type 0
Found rs x d n = (c : w.Lookahead) × (covered rs x c d n ≡ true)

found_first : (r : Budget) (rs : List Budget) (x : Category) (d n : ℕ) → serves r.category x && fits r d n ≡ true → Found (r ∷ rs) x d n
found_first r rs x d n h = (next_of r.next, or_left (holds r x (next_of r.next) d n) (covered rs x (next_of r.next) d n) (both (next_in (next_of r.next)) h))

found_rest : (r : Budget) (rs : List Budget) (x : Category) (d n : ℕ) → Found rs x d n → Found (r ∷ rs) x d n
found_rest r rs x d n h = (h.0, or_right (holds r x h.0 d n) (covered rs x h.0 d n) h.1)

found_in : (r : Budget) (rs : List Budget) (x : Category) (d n : ℕ) → (has_budget rs x d n ≡ true → Found rs x d n) → (serves r.category x && fits r d n ≡ true) ⊎ (has_budget rs x d n ≡ true) → Found (r ∷ rs) x d n
found_in r rs x d n k (inl h) = found_first r rs x d n h
found_in r rs x d n k (inr h) = found_rest r rs x d n (k h)

budget_of : (rs : List Budget) (x : Category) (d n : ℕ) → has_budget rs x d n ≡ true → Found rs x d n
budget_of [] x d n h = absurd cc
budget_of (r ∷ rs) x d n h = found_in r rs x d n (budget_of rs x d n) (or_cases (serves r.category x && fits r d n) (has_budget rs x d n) h)

has_either : (r : Budget) (rs : List Budget) (x : Category) (c : w.Lookahead) (d n : ℕ) → (covered rs x c d n ≡ true → has_budget rs x d n ≡ true) → (holds r x c d n ≡ true) ⊎ (covered rs x c d n ≡ true) → has_budget (r ∷ rs) x d n ≡ true
has_either r rs x c d n k (inl h) = or_left (serves r.category x && fits r d n) (has_budget rs x d n) (second (is_next (next_of r.next) c) (serves r.category x && fits r d n) h)
has_either r rs x c d n k (inr h) = or_right (serves r.category x && fits r d n) (has_budget rs x d n) (k h)

has_of : (rs : List Budget) (x : Category) (c : w.Lookahead) (d n : ℕ) → covered rs x c d n ≡ true → has_budget rs x d n ≡ true
has_of [] x c d n h = absurd cc
has_of (r ∷ rs) x c d n h = has_either r rs x c d n (has_of rs x c d n) (or_cases (holds r x c d n) (covered rs x c d n) h)

-- some symbol may come behind the part
asked : (b : Bool) (st : Stack) (rs : List Budget) → AreBudgets b st rs → (x : Category) (d n : ℕ) → Sized x d n → Any (λ c. Part (Limit b) st x c d n) ↔ (has_budget rs x d (counted b n) ≡ true)
asked b st rs h x d n z = (
  λ p. has_of rs x p.0 d (counted b n) (h x p.0 d n ∙ (decides b st x p.0 d n z).0 p.1),
  λ e. let q : Found rs x d (counted b n) = budget_of rs x d (counted b n) e in (q.0, (decides b st x q.0 d n z).1 (sym (h x q.0 d n) ∙ q.1)),
)

asked_shut : (b : Bool) (st : Stack) (rs : List Budget) → AreBudgets b st rs → (x : Category) (X : Type 0) → Sized x 0 0 → (Any (λ c. Part (Limit b) st x c 0 0) ↔ Any (w.AtClosing X)) → X ↔ (has_budget rs x 0 (counted b 0) ≡ true)
asked_shut b st rs h x X z e = via (λ p. (any_closing X).1 p, λ p. (any_closing X).0 p) (via (e.1, e.0) (asked b st rs h x 0 0 z))

same : {X : Type 0} → X ↔ X
same = (λ x. x, λ x. x)

wanted : (P : ℕ → ℕ → Type 0) (st : Stack) → Wants P st → Closes P st ⊎ Any (Gives P st f.Label 1 1)
wanted P (in_args s x none st) h = inl h
wanted P (in_args s x (more y ys) st) h = inr h
wanted P st h = inr h

closes : (P : ℕ → ℕ → Type 0) (st : Stack) → Closes P st → Wants P st
closes P (in_args s x none st) h = h
closes P (in_args s x (more y ys) st) h = absurd h
closes P st h = absurd h

either_completion : (b : Bool) (st : Stack) → Closes (Limit b) st ⊎ Any (Gives (Limit b) st f.Label 1 1) → Wants (Limit b) st
either_completion b st (inl h) = closes (Limit b) st h
either_completion b st (inr h) = wants (Limit b) (limit_down b) st h

pub asks_want : (b : Bool) (st : Stack) (rs : List Budget) → AreBudgets b st rs → Completes (Limit b) (want st) ↔ (has_budget rs Closed 0 (counted b 0) || has_budget rs Label 1 (counted b 1) ≡ true)
asks_want b st rs h = via (wanted (Limit b) st, either_completion b st) (either (asked_shut b st rs h Closed (Closes (Limit b) st) (refl, refl) same) (asked b st rs h Label 1 1 (refl, refl)))

pub asks_begin : (b : Bool) (st : Stack) (rs : List Budget) → AreBudgets b st rs → Completes (Limit b) (begin st) ↔ (has_budget rs Command 1 (counted b 1) ≡ true)
asks_begin b st rs h = asked b st rs h Command 1 1 tt

pub asks_did : (b : Bool) (st : Stack) (rs : List Budget) → AreBudgets b st rs → (a : r.Command) → Completes (Limit b) (did st a) ↔ (has_budget rs Command (depth_of_command a) (counted b (nodes_of_command a)) ≡ true)
asks_did b st rs h a = asked b st rs h Command (depth_of_command a) (nodes_of_command a) tt

pub asks_maybe : (b : Bool) (st : Stack) (rs : List Budget) → AreBudgets b st rs → Completes (Limit b) (maybe st) ↔ (has_budget rs Missing 0 (counted b 0) || has_budget rs Command 1 (counted b 1) ≡ true)
asks_maybe b st rs h = either (asked_shut b st rs h Missing (Misses (Limit b) st) (refl, refl) same) (asked b st rs h Command 1 1 tt)

pub asks_due : (b : Bool) (st : Stack) (rs : List Budget) → AreBudgets b st rs → Completes (Limit b) (due st) ↔ (has_budget rs Due 0 (counted b 0) ≡ true)
asks_due b st rs h = asked_shut b st rs h Due (w.Due (Limit b) st) (refl, refl) same

label_size : (e : r.Expression) → form_of e ≡ f.Label → (depth e ≡ 1) × (nodes e ≡ 1)
label_size (r.name l x) h = (refl, refl)
label_size _ h = absurd cc

any_plain : (P : ℕ → ℕ → Type 0) (st : Stack) (d n : ℕ) → Any (Gives P st f.Callable d n) ↔ Any (Gives P st f.Other d n)
any_plain P st d n = (λ h. (h.0, (plain P st d n h.0).0 h.1), λ h. (h.0, (plain P st d n h.0).1 h.1))

asks_form : (b : Bool) (st : Stack) (rs : List Budget) → AreBudgets b st rs → (v : Form) (d n : ℕ) → (v ≡ f.Label → (d ≡ 1) × (n ≡ 1)) → Any (Gives (Limit b) st v d n) ↔ (has_budget rs (category_of v) d (counted b n) ≡ true)
asks_form b st rs h f.Label d n z = asked b st rs h Label d n (z refl)
asks_form b st rs h f.Call d n z = asked b st rs h Call d n tt
asks_form b st rs h f.Callable d n z = via (any_plain (Limit b) st d n) (asked b st rs h Expression d n tt)
asks_form b st rs h f.Other d n z = asked b st rs h Expression d n tt

pub asks_have : (b : Bool) (st : Stack) (rs : List Budget) → AreBudgets b st rs → (e : r.Expression) → Completes (Limit b) (have st e) ↔ (has_budget rs (category_of (form_of e)) (depth e) (counted b (nodes e)) || has_budget rs Call (depth e + 1) (counted b (nodes e + 1)) ≡ true)
asks_have b st rs h e = either (asks_form b st rs h (form_of e) (depth e) (nodes e) (label_size e)) (asked b st rs h Call (depth e + 1) (nodes e + 1) tt)

-- The meaning of a node takes a turn, and is that of its form from the meaning of the nodes inside, as deep as turns go.
use Rattle.bk_meaning.proofs.Terms.{◌≡◌, ℕ, zero, suc, ◌+◌, ◌-◌, ◌<◌, ◌≤◌, List, refl, sym, ap, ◌∙◌, arith, Expression, Command, Commands, Value, World, Outcome, Done, going, turn, turn_of, Environment, Mode, Program, Meanings, call, act_of, turn_for, no_turn_for, means_with, means, acts_at}
use Rattle.bk_tree.specs.Tree as t
use Rattle.bk_meaning.specs.Scopes.{scope_of}
use Rattle.bk_meaning.specs.Expressions.{value_of, truth_of, target_of}
use Rattle.bk_meaning.specs.Loops.{rounds_of, for_rounds_of}
use Rattle.bk_meaning.proofs.NodeSpending.{AllSpend}
use Rattle.bk_meaning.proofs.MeaningSpending.{means_spend}
use Rattle.bk_meaning.proofs.Alike.{Same, Under, AllSame, under, turn_same, value_of_same, truth_of_same, target_of_same, act_of_same, rounds_of_same, for_rounds_of_same, scope_same, call_same}
use Rattle.bk_meaning.specs.Full.{full}

-- with no turn left
none : {A : Type 0} {l : ℕ} (w : World) (go : World → Outcome A) → w.turns ≤ 0 → going l w ≡ turn l w go
none {l = l} w go le = let z : w.turns ≡ 0 = omega (arith, le) in sym (ap (λ n. turn_of l n w go) z)

none_act : (p : Program) (k : ℕ) (c : Command) (mode : Mode) (env : Environment) (w : World) → w.turns ≤ 0 → no_turn_for c w ≡ (means p k).act c mode env w
none_act p zero c mode env w le = refl
none_act p (suc k) t.empty mode env w le = refl
none_act p (suc k) c mode env w le = none w (λ w. act_of p (means p k) c mode env w) le

never : {A : Type 0} (go to : World → Outcome A) → Under 0 go to
never go to = record { at = λ w lt. absurd (omega (arith, lt)) }

none_value : (p : Program) (k : ℕ) (e : Expression) (env : Environment) (w : World) → w.turns ≤ 0 → going (acts_at e) w ≡ (means p k).value e env w
none_value p zero e env w le = refl
none_value p (suc k) e env w le = none w _ le

none_truth : (p : Program) (k : ℕ) (e : Expression) (env : Environment) (w : World) → w.turns ≤ 0 → going (acts_at e) w ≡ (means p k).truth e env w
none_truth p zero e env w le = refl
none_truth p (suc k) e env w le = none w _ le

none_target : (p : Program) (k : ℕ) (e : Expression) (env : Environment) (w : World) → w.turns ≤ 0 → going (acts_at e) w ≡ (means p k).target e env w
none_target p zero e env w le = refl
none_target p (suc k) e env w le = none w _ le

none_same : (p : Program) (k : ℕ) → AllSame 0 (means p 0) (means p k)
none_same p k = record {
  value = λ e env. record { at = λ w le. none_value p k e env w le };
  truth = λ e env. record { at = λ w le. none_truth p k e env w le };
  target = λ e env. record { at = λ w le. none_target p k e env w le };
  act = λ c mode env. record { at = λ w le. none_act p k c mode env w le };
  rounds = λ c mode env. never _ _;
  for_rounds = λ place c object limit step env. never _ _;
  scope = λ cs mode env. never _ _;
}

less : {A : Type 0} (d : ℕ) (go to : World → Outcome A) → Same d go to → Under (suc d) go to
less d go to h = record { at = λ w lt. h.at w (omega (arith, lt)) }

turned : {A : Type 0} (l : ℕ) (d : ℕ) (go to : World → Outcome A) → Same d go to → Same (suc d) (λ w. turn l w go) (λ w. turn l w to)
turned l d go to h = record { at = λ w le. turn_same _ (suc d) w go to le (less d go to h) }

next_act : (p : Program) (d : ℕ) (m n : Meanings) → AllSpend d m → AllSame d m n → (c : Command) (mode : Mode) (env : Environment) → Same (suc d) (λ w. turn_for c w (λ w. act_of p m c mode env w)) (λ w. turn_for c w (λ w. act_of p n c mode env w))
next_act p d m n s g t.empty mode env = record { at = λ w le. refl }
next_act p d m n s g c mode env = turned _ d _ _ (act_of_same d m n s g p c mode env)

next_same : (p : Program) (d : ℕ) (m n : Meanings) → AllSpend d m → AllSame d m n → AllSame (suc d) (means_with p m) (means_with p n)
next_same p d m n s g = record {
  value = λ e env. turned _ d _ _ (value_of_same d m n s g p e env);
  truth = λ e env. turned _ d _ _ (truth_of_same d m n s g p e env);
  target = λ e env. turned _ d _ _ (target_of_same d m n s g e env);
  act = λ c mode env. next_act p d m n s g c mode env;
  rounds = λ c mode env. less d _ _ (rounds_of_same d m n s g c mode env);
  for_rounds = λ place c object limit step env. less d _ _ (for_rounds_of_same d m n s g place c object limit step env);
  scope = λ cs mode env. less d _ _ (scope_same d m n s g cs mode env);
}

means_same : (p : Program) (i k : ℕ) → i ≤ k → AllSame i (means p i) (means p k)
means_same p zero k le = none_same p k
means_same p (suc i) zero le = absurd (omega (arith, le))
means_same p (suc i) (suc k) le = next_same p i (means p i) (means p k) (means_spend p i) (means_same p i k (omega (arith, le)))

full_same : (p : Program) (k : ℕ) → AllSame k (means p k) (full p)
unfolding full
full_same p k = record {
  value = λ e env. record { at = λ w le. sym (((means_same p w.turns k le).value e env).at w (omega arith)) ∙ ((means_same p w.turns (suc w.turns) (omega arith)).value e env).at w (omega arith) };
  truth = λ e env. record { at = λ w le. sym (((means_same p w.turns k le).truth e env).at w (omega arith)) ∙ ((means_same p w.turns (suc w.turns) (omega arith)).truth e env).at w (omega arith) };
  target = λ e env. record { at = λ w le. sym (((means_same p w.turns k le).target e env).at w (omega arith)) ∙ ((means_same p w.turns (suc w.turns) (omega arith)).target e env).at w (omega arith) };
  act = λ c mode env. record { at = λ w le. sym (((means_same p w.turns k le).act c mode env).at w (omega arith)) ∙ ((means_same p w.turns (suc w.turns) (omega arith)).act c mode env).at w (omega arith) };
  rounds = λ c mode env. record { at = λ w lt. sym (((means_same p (suc w.turns) k (omega (arith, lt))).rounds c mode env).at w (omega arith)) };
  for_rounds = λ place c object limit step env. record { at = λ w lt. sym (((means_same p (suc w.turns) k (omega (arith, lt))).for_rounds place c object limit step env).at w (omega arith)) };
  scope = λ cs mode env. record { at = λ w lt. sym (((means_same p (suc w.turns) k (omega (arith, lt))).scope cs mode env).at w (omega arith)) };
}

pub full_value : (p : Program) (e : Expression) (env : Environment) (w : World) → (full p).value e env w ≡ turn (acts_at e) w (λ w. value_of p (full p) e env w)
unfolding full
full_value p e env w = turn_same _ w.turns w (λ x. value_of p (means p w.turns) e env x) (λ x. value_of p (full p) e env x) (omega arith) (under w.turns _ _ (value_of_same w.turns (means p w.turns) (full p) (means_spend p w.turns) (full_same p w.turns) p e env))

pub full_truth : (p : Program) (e : Expression) (env : Environment) (w : World) → (full p).truth e env w ≡ turn (acts_at e) w (λ w. truth_of p (full p) e env w)
unfolding full
full_truth p e env w = turn_same _ w.turns w (λ x. truth_of p (means p w.turns) e env x) (λ x. truth_of p (full p) e env x) (omega arith) (under w.turns _ _ (truth_of_same w.turns (means p w.turns) (full p) (means_spend p w.turns) (full_same p w.turns) p e env))

pub full_target : (p : Program) (e : Expression) (env : Environment) (w : World) → (full p).target e env w ≡ turn (acts_at e) w (λ w. target_of (full p) e env w)
unfolding full
full_target p e env w = turn_same _ w.turns w (λ x. target_of (means p w.turns) e env x) (λ x. target_of (full p) e env x) (omega arith) (under w.turns _ _ (target_of_same w.turns (means p w.turns) (full p) (means_spend p w.turns) (full_same p w.turns) e env))

pub full_act : (p : Program) (c : Command) (mode : Mode) (env : Environment) (w : World) → (full p).act c mode env w ≡ turn_for c w (λ w. act_of p (full p) c mode env w)
unfolding full
full_act p t.empty mode env w = refl
full_act p c mode env w = turn_same _ w.turns w (λ x. act_of p (means p w.turns) c mode env x) (λ x. act_of p (full p) c mode env x) (omega arith) (under w.turns _ _ (act_of_same w.turns (means p w.turns) (full p) (means_spend p w.turns) (full_same p w.turns) p c mode env))

pub full_rounds : (p : Program) (c : Command) (mode : Mode) (env : Environment) (w : World) → (full p).rounds c mode env w ≡ rounds_of (full p) c mode env w
unfolding full
full_rounds p c mode env w = (rounds_of_same w.turns (means p w.turns) (full p) (means_spend p w.turns) (full_same p w.turns) c mode env).at w (omega arith)

pub full_for_rounds : (p : Program) (place : ℕ) (c : Command) (object : ℕ) (limit : Value) (step : ℕ) (env : Environment) (w : World) → (full p).for_rounds place c object limit step env w ≡ for_rounds_of (full p) place c object limit step env w
unfolding full
full_for_rounds p place c object limit step env w = (for_rounds_of_same w.turns (means p w.turns) (full p) (means_spend p w.turns) (full_same p w.turns) place c object limit step env).at w (omega arith)

pub full_scope : (p : Program) (cs : Commands) (mode : Mode) (env : Environment) (w : World) → (full p).scope cs mode env w ≡ scope_of (full p) cs mode env w
unfolding full
full_scope p cs mode env w = (scope_same w.turns (means p w.turns) (full p) (means_spend p w.turns) (full_same p w.turns) cs mode env).at w (omega arith)

-- the meaning of a call, however deep it goes
pub full_call : (p : Program) (n place : ℕ) (f : Value) (vs : List Value) (w : World) → w.turns ≤ n → call p (means p n) place f vs w ≡ call p (full p) place f vs w
full_call p n place f vs w le = (call_same n (means p n) (full p) (means_spend p n) (full_same p n) place p f vs).at w le

-- with a turn left, and with none
pub turn_left : {A : Type 0} (l : ℕ) (w : World) (go : World → Outcome A) → 0 < w.turns → go (record w { turns = w.turns - 1 }) ≡ turn l w go
turn_left l w go lt = sym (left_of w.turns lt)
  where
    left_of : (n : ℕ) → 0 < n → turn_of l n w go ≡ go (record w { turns = n - 1 })
    left_of zero lt = absurd (omega (arith, lt))
    left_of (suc n) lt = ap (λ k. go (record w { turns = k })) (omega arith)

pub turn_none : {A : Type 0} {l : ℕ} (w : World) (go : World → Outcome A) → w.turns ≡ 0 → going l w ≡ turn l w go
turn_none {l = l} w go is = sym (ap (λ n. turn_of l n w go) is)

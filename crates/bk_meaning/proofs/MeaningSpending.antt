-- A run is cut off only where no turn is left.
use Rattle.bk_meaning.proofs.Terms.{ℕ, zero, suc, ◌≤◌, subst, arith, Command, World, Outcome, going, turn, Environment, Mode, Program, Meanings, act_of, turn_for, means_with, no_turn_for, no_turns, means, CutOnlyWithoutTurns}
use Rattle.bk_tree.specs.Tree as t
use Rattle.bk_meaning.proofs.Spending.{Spent, Spends, spends, kept, turn_spent, gives_spent}
use Rattle.bk_meaning.proofs.NodeSpending.{Under, AllSpend, scope_spends, call_spends, value_of_spends, truth_of_spends, target_of_spends, rounds_of_spends, for_rounds_of_spends, act_of_kept}

none_left : {A : Type 0} {l : ℕ} (w : World) → w.turns ≤ 0 → Spent {A = A} w.turns (going l w)
none_left w le = record { is = omega (arith, le) }

no_turn_spent : (c : Command) (w : World) → w.turns ≤ 0 → Spent w.turns (no_turn_for c w)
no_turn_spent t.empty w le = gives_spent tt w
no_turn_spent c w le = none_left w le

never : {A : Type 0} (go : World → Outcome A) → Under 0 go
never go = record { at = λ w lt. absurd (omega (arith, lt)) }

none_spend : AllSpend 0 no_turns
none_spend = record {
  value = λ e env. spends _ _ (λ w le. none_left w le);
  truth = λ e env. spends _ _ (λ w le. none_left w le);
  target = λ e env. spends _ _ (λ w le. none_left w le);
  act = λ c mode env. spends _ _ (λ w le. no_turn_spent c w le);
  rounds = λ c mode env. never _;
  for_rounds = λ place c object limit step env. never _;
  scope = λ cs mode env. never _;
}

turned : {A : Type 0} (l : ℕ) (n : ℕ) (go : World → Outcome A) → Spends n go → Spends (suc n) (λ w. turn l w go)
turned l n go h = spends _ _ (λ w le. turn_spent _ (suc n) go (λ w lt. kept _ _ (h.at w (omega (arith, lt)))) w le)

under : {A : Type 0} (n : ℕ) (go : World → Outcome A) → Spends n go → Under (suc n) go
under n go h = record { at = λ w lt. h.at w (omega (arith, lt)) }

act_spends : (p : Program) (n : ℕ) (m : Meanings) → AllSpend n m → (c : Command) (mode : Mode) (env : Environment) (w : World) → w.turns ≤ suc n → Spent w.turns (turn_for c w (λ w. act_of p m c mode env w))
act_spends p n m g t.empty mode env w le = gives_spent tt w
act_spends p n m g c mode env w le = turn_spent _ (suc n) _ (λ w lt. act_of_kept n m g p c mode env w (omega (arith, lt))) w le

means_with_spend : (p : Program) (n : ℕ) (m : Meanings) → AllSpend n m → AllSpend (suc n) (means_with p m)
means_with_spend p n m g = record {
  value = λ e env. turned _ n _ (value_of_spends n m g p e env);
  truth = λ e env. turned _ n _ (truth_of_spends n m g p e env);
  target = λ e env. turned _ n _ (target_of_spends n m g e env);
  act = λ c mode env. spends _ _ (λ w le. act_spends p n m g c mode env w le);
  rounds = λ c mode env. under n _ (rounds_of_spends n m g c mode env);
  for_rounds = λ place c object limit step env. under n _ (for_rounds_of_spends n m g place c object limit step env);
  scope = λ cs mode env. under n _ (scope_spends n m g cs mode env);
}

pub means_spend : (p : Program) (n : ℕ) → AllSpend n (means p n)
means_spend p zero = none_spend
means_spend p (suc n) = means_with_spend p n (means p n) (means_spend p n)

pub cut_only_without_turns : CutOnlyWithoutTurns
cut_only_without_turns p place f vs n at w v le is =
    let h : Spent w.turns (going at v) = subst (λ u. Spent w.turns u) is ((call_spends n (means p n) (means_spend p n) place p f vs).at w le) in
    h.is

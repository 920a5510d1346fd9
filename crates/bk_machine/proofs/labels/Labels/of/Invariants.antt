use Rattle.bk_machine.proofs.Places.{numbered, ◌≡◌, ℕ, ◌<◌, ◌≤◌, take, unwrap_or, get, nat_eq, STORE_MOST, reached_all}
use Rattle.bk_machine.proofs.labels.Labels.of.Given as goal

abbrev pub invariant-loop-item : goal.invariant-loop-item
invariant-loop-item l = record {
  reached : l.extent ≡ reached_all l.start (take l.item-index l.items);
  part : l.extent.filled < 4;
  table : (label end : ℕ) → unwrap_or (get nat_eq l.numbers label) end ≡ numbered l.start l.items end l.item-index label;
  within : (label end : ℕ) → end ≤ STORE_MOST → unwrap_or (get nat_eq l.numbers label) end ≤ STORE_MOST;
}

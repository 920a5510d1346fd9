use Rattle.std.proofs.Common.{◌≡◌, ℕ, ◌≤◌, ◌<◌, drop, slice_index}
use Rattle.bk_base.specs.Decimal.{value_after}
use Rattle.bk_base.proofs.decimal.digits_value.Given as goal

abbrev pub invariant-loop-digit : goal.invariant-loop-digit
invariant-loop-digit l = record {
  digits : (k : ℕ) → k < l.digit-index → (48 ≤ slice_index l.digits k) × (slice_index l.digits k ≤ 57);
  value : value_after l.value (drop l.digit-index l.digits) ≡ value_after 0 l.digits;
}

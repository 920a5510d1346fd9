use Rattle.std.proofs.Common.{rules, ℕ, ◌+◌, ◌-◌, ◌*◌, ◌<◌, ◌≤◌, List, [], ◌∷◌, length, drop, length-drop, arith}
use Rattle.bk_base.specs.Decimal.{value_after}
use Rattle.bk_base.proofs.decimal.digits_value.Goals as goal
use Rattle.bk_base.proofs.decimal.digits_value.Goals.{then-value-via-then-value, then-value-via-else-value+then-not-is_ascii_digit}

-- a digit more makes no number smaller
grows : (n : ℕ) (text : List ℕ) → n ≤ value_after n text
grows n [] = omega arith
grows n (digit ∷ rest) = omega (arith, grows (n * 10 + (digit - 48)) rest)

goes_on : (n : ℕ) (text : List ℕ) → 0 < length text → n * 10 ≤ value_after n text
goes_on n [] some = absurd (omega (arith, some))
goes_on n (digit ∷ rest) some = omega (arith, grows (n * 10 + (digit - 48)) rest)

pub returns-then-value-clause-none : goal.returns-then-value-clause-none
returns-then-value-clause-none c = λ digits.
    let rest = drop c.loop-digit.digit-index c.args.digits.now in
    let some : 0 < length rest = omega (arith, c.loop-digit-test.true, length-drop c.loop-digit.digit-index c.args.digits.now) in
    elim c.then-value.branch [
      | then-value-via-then-value w ↦ omega (arith, w.if-value, c.loop-digit.invariant.value, goes_on c.loop-digit.value rest some)
      | then-value-via-else-value+then-not-is_ascii_digit w ↦ search rules
    ]

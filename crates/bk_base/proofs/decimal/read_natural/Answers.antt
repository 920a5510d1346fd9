use Rattle.std.proofs.Common.{◌≢◌, ◌<◌, ◌^◌, ℕ, pos, IfNone, arith, sym, subst}
use Rattle.bk_base.specs.Decimal.{IsNumeral, spelling}
use Rattle.bk_base.specs.DecimalLaws.{IsNumeral-decimal, numeral_is}
use Rattle.bk_base.proofs.decimal.read_natural.Goals as goal

pub returns-then-n-lt-LARGEST-clause-found : goal.returns-then-n-lt-LARGEST-clause-found
returns-then-n-lt-LARGEST-clause-found c =
    let low = c.if-n-lt-LARGEST.true in
    (low, sym (numeral_is c.args.bytes.now c.in_ok-n.n (omega (arith, low)) c.in_ok-n.ensures.found))

pub returns-in_err-n-clause-none : goal.returns-in_err-n-clause-none
returns-in_err-n-clause-none c =
    subst (λ r. IfNone r ((n : ℕ) → n < 2 ^ 31 → spelling (pos n) ≢ c.args.bytes.now)) (sym c.from_residual.ensures)
    (λ n low is. c.in_err-n.ensures.none n (omega (arith, low)) (subst (λ text. IsNumeral text n) is (IsNumeral-decimal n (omega (arith, low)))))

pub returns-else-n-lt-LARGEST-clause-none : goal.returns-else-n-lt-LARGEST-clause-none
returns-else-n-lt-LARGEST-clause-none c = λ n low is.
    let numeral : IsNumeral c.args.bytes.now n = subst (λ text. IsNumeral text n) is (IsNumeral-decimal n (omega (arith, low))) in
    absurd (omega (arith, low, c.if-n-lt-LARGEST.false, numeral.value, c.in_ok-n.ensures.found.value))

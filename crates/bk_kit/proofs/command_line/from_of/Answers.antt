use Rattle.bk_kit.proofs.Terms.{◌≡◌, ℕ, Option, None, Some, IfSome, refl, arith, codes, ParsesUnsigned, ExplainsUnsignedError, HasUnsignedDigitsIfOk, rows_of, found_of, one_of, one_text-rows, ReadsNumber}
use Rattle.bk_kit.proofs.LineLemmas.{number_of, number_given, some_given}
use Rattle.bk_kit.proofs.command_line.from_of.Goals as goal

by_result : (P : ℕ → Type 0) (o : Option ℕ) → ((n : ℕ) → o ≡ Some n → P n) → IfSome o P
by_result P None f = tt
by_result P (Some n) f = f n refl

pub returns-clause-reads : goal.returns-clause-reads
returns-clause-reads c =
    let found = found_of c.args.matches.now in
    by_result (ReadsNumber (one_of (codes "from") (rows_of found))) c.get_one.result (λ turns is.
    number_of 64 (λ bs r. ParsesUnsigned 64 10 bs r × ExplainsUnsignedError 10 bs r × HasUnsignedDigitsIfOk bs r) _ _ c.get_one.result turns (one_text-rows found (codes "from")) is c.get_one.ensures.none c.get_one.ensures.value (λ u x g. g.0))

pub returns-clause-given : goal.returns-clause-given
returns-clause-given c turns most reads =
    let found = found_of c.args.matches.now in
    some_given c.get_one.result turns
    (number_given 64 (λ bs r. ParsesUnsigned 64 10 bs r × ExplainsUnsignedError 10 bs r × HasUnsignedDigitsIfOk bs r) _ _ c.get_one.result turns (one_text-rows found (codes "from")) (omega (arith, most)) reads c.get_one.ensures.value (λ u x g. g.0))

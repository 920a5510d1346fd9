use Rattle.bk_intcode.proofs.Terms.{ℤ, arith, length-append, length-global}
use Rattle.bk_intcode.proofs.item_word.add_global.Goals as goal

pub returns-clause-digits : goal.returns-clause-digits
returns-clause-digits c = grind (arith, length-global, length-append)

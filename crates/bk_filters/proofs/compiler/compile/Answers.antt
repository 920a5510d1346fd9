use Rattle.bk_filters.proofs.CompileLemmas.{compiles, compiles_no_more, rules}
use Rattle.bk_filters.proofs.compiler.compile.Goals as goal

pub returns-in_default : goal.returns-in_default
returns-in_default g c =
    record { compiles = compiles_no_more _ _ _ _ _ _ _ _ c.put_sections-answer.ensures.puts c.flush.ensures.keeps c.flush.ensures.passes (rw c.in_default.is at c.flush.ensures.failures) }

pub returns : goal.returns
returns g c =
    record { compiles = compiles _ _ _ _ _ _ _ _ c.put_sections-answer.ensures.puts c.flush.ensures.keeps c.flush.ensures.passes (λ failed. search rules) (search rules) (search rules) }

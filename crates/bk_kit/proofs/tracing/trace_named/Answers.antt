use Rattle.bk_kit.proofs.Terms.{inl, inr, map, refl, rules, stmts_of, Memory}
use Rattle.bk_kit.proofs.TraceLemmas.{names_refused}
use Rattle.bk_kit.proofs.tracing.trace_named.Goals as goal

pub returns-in_err-sections-clause-traced : goal.returns-in_err-sections-clause-traced
returns-in_err-sections-clause-traced g c =
    inr (names_refused _ c.in_err-sections.field-0.0 _ _ _ _ c.from_residual.ensures.0 (search (c.from_residual.ensures, rules)) c.in_err-sections.ensures.refused c.in_err-sections.ensures.failures refl refl)

pub returns-in_err-procedures-clause-traced : goal.returns-in_err-procedures-clause-traced
returns-in_err-procedures-clause-traced g c =
    inr (names_refused _ Memory _ _ _ _ c.from_residual-in_err-procedures.ensures.0 (search (c.from_residual-in_err-procedures.ensures, rules)) tt c.in_ok-sections.ensures.failures refl refl)

pub returns-clause-traced : goal.returns-clause-traced
returns-clause-traced g c =
    inl (((map stmts_of c.in_ok-sections.sections.items, c.in_ok-sections.ensures.read), c.in_ok-sections.ensures.failures), c.trace_with.ensures.traced, c.trace_with.ensures.read_fails)

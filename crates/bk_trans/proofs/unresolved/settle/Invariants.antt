use Rattle.bk_trans.proofs.Terms.{◌≡◌, ◌++◌, map, settled as Settled}
use Rattle.bk_trans.proofs.unresolved.settle.Given as goal

abbrev pub invariant-loop-draft : goal.invariant-loop-draft
invariant-loop-draft l = l.stmts.items ++ map (Settled l.goals) l.draft-iterator.rest.items ≡ map (Settled l.goals) l.fn.drafts.items

use Rattle.std.proofs.Common.{rules}
use Rattle.bk_hints.proofs.Added.{adds_on}
use Rattle.bk_hints.proofs.further.Faulty.add_further.Goals as goal

pub loop-preserved : goal.loop-preserved
loop-preserved c =
    let added = adds_on _ _ _ _ _ c.loop.invariant.0 c.in_ok-add.ensures.adds in
    let few = c.in_ok-add.ensures.few in
    (added, search (few, c.loop.invariant.1, rules))

pub returns-clause-adds : goal.returns-clause-adds
returns-clause-adds c = adds_on _ _ _ _ _ c.loop.invariant.0 c.in_ok-add_count.ensures.adds

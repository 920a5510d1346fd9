use Rattle.std.proofs.Math.Logic.{∥∥₁_elim}
use Rattle.bk_machine.proofs.Terms.{IsSegment-prop}
use Rattle.bk_machine.proofs.segment.Intcode.items.Goals as goal

pub returns-clause-whole : goal.returns-clause-whole
returns-clause-whole c =
    rw c.as_slice.ensures.value
    (∥∥₁_elim c.args.self.now.whole (IsSegment-prop c.args.self.now.items.items) (λ whole. whole))

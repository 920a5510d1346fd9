use Rattle.bk_ocode.proofs.Terms.{jumped, uses_of}
use Rattle.bk_ocode.proofs.DraftLemmas.{jumped_more}
use Rattle.bk_ocode.proofs.label_uses.LabelUses.jump_cases.Goals as goal

pub loop-case-preserved : goal.loop-case-preserved
loop-case-preserved c =
    jumped_more c.args.cases.now c.loop-case.case-index _ (jumped c.args.depth) (uses_of c.args.self.now) (uses_of c.loop-case.self) (uses_of c.jump.new.self)
    c.loop-case-test.true c.loop-case.invariant c.in_ok-jump.ensures

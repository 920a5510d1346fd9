use Rattle.bk_check.proofs.Terms.{refl, ap, Option, Procedure, program_in, full, world, World, tag, a_value, resumed, list_value}
use Rattle.bk_meaning.specs.Calls.{enter}
use Rattle.bk_check.specs.Worlds.{Bytes}
use Rattle.bk_check.proofs.Resuming.{meets_at, meets_for}
use Rattle.bk_check.proofs.calls.called.Goals as goal

pub returns-in-Some-clause-comes : goal.returns-in-Some-clause-comes
returns-in-Some-clause-comes c =
    let p = program_in c.args.program.now in
    let there : Bytes → World = λ b. world c.enter.new.m b in
    rw c.in-Procedure.is (meets_for p c.enter.result _ there _ _
    (λ b. ap (λ (o : Option Procedure). resumed p c.args.m.now.frames.items (tag a_value (enter (full p) c.args.at o (list_value c.args.values.items) (world c.args.m.now b)))) (rw c.in-Some.is at c.procedure.ensures))
    (meets_at c.enter.result _ there _ _ c.args.at (λ p b. refl) c.enter.ensures.comes))

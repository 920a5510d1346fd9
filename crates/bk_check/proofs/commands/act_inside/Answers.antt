use Rattle.bk_check.proofs.Terms.{◌≡◌, ℕ, List, Result, Ok, Err, IfOk, ap, sym, ◌∙◌, Command, command_in, commands_in, expression, expressions_in, declarations_in, step_in, mention, Assign_is, Call_is, For_is, Block_is, World, Outcome, Mode, act_of, Program, Next, Continuation, full, mode_in, env_in, Bytes, world, Given, tag, done_tag, resumed, Comes}
use Rattle.bk_tree.specs.Tree as t
use Rattle.bk_check.proofs.Resuming.{meets, meets_at}
use Rattle.bk_check.proofs.commands.act_inside.Goals as goal

-- a step that comes to this in each mode
in_mode : {E : Type 0} (r : Result Next E) (fs : List Continuation) (there : Bytes → World) (u : Program → Bytes → ℕ → Mode → Outcome Given) (mode : Mode) → IfOk r (λ next. (p : Program) (b : Bytes) (l : ℕ) (mode : Mode) → Comes p fs next (there b) (u p b l mode)) → IfOk r (λ next. (p : Program) (b : Bytes) (l : ℕ) → Comes p fs next (there b) (u p b l mode))
in_mode (Ok next) fs there u mode h = λ p b l. h p b l mode
in_mode (Err x) fs there u mode h = h

pub returns-in-Assign-clause-comes : goal.returns-in-Assign-clause-comes
returns-in-Assign-clause-comes c =
    let e : t.assign c.in-Assign.at (expressions_in c.deref.result.now) (expressions_in c.deref-in-Assign.result.now) ≡ command_in c.args.command.now =
    rw (c.deref.ensures.value, c.deref-in-Assign.ensures.value) (sym (ap command_in c.in-Assign.is ∙ Assign_is c.in-Assign.at c.in-Assign.dests c.in-Assign.values)) in
    meets c.assign.result _ (λ b. world c.assign.new.m b) _ _
    (λ p b. ap (λ (x : Command). resumed p c.args.m.now.frames.items (tag done_tag (act_of p (full p) x (mode_in c.args.mode) (env_in c.args.env) (world c.args.m.now b)))) e) c.assign.ensures.comes

pub returns-in-Call-clause-comes : goal.returns-in-Call-clause-comes
returns-in-Call-clause-comes c =
    let e : t.call c.in-Call.at (expression c.deref-in-Call.result.now) (expressions_in c.deref-in-Call-2.result.now) ≡ command_in c.args.command.now =
    rw (c.deref-in-Call.ensures, c.deref-in-Call-2.ensures.value) (sym (ap command_in c.in-Call.is ∙ Call_is c.in-Call.at c.in-Call.callee c.in-Call.items)) in
    meets c.call_command.result _ (λ b. world c.call_command.new.m b) _ _
    (λ p b. ap (λ (x : Command). resumed p c.args.m.now.frames.items (tag done_tag (act_of p (full p) x (mode_in c.args.mode) (env_in c.args.env) (world c.args.m.now b)))) e) c.call_command.ensures.comes

pub returns-in-If-clause-comes : goal.returns-in-If-clause-comes
returns-in-If-clause-comes c =
    let e : t.when c.in-If.at c.in-If.truth (expression c.deref-in-If.result.now) (command_in c.deref-in-If-2.result.now) ≡ command_in c.args.command.now =
    rw (c.deref-in-If.ensures, c.deref-in-If-2.ensures) (sym (ap command_in c.in-If.is)) in
    meets_at c.when.result _ (λ b. world c.when.new.m b) _ _ c.in-If.at
    (λ p b. ap (λ (x : Command). resumed p c.args.m.now.frames.items (tag done_tag (act_of p (full p) x (mode_in c.args.mode) (env_in c.args.env) (world c.args.m.now b)))) e) c.when.ensures.comes

pub returns-in-Test-clause-comes : goal.returns-in-Test-clause-comes
returns-in-Test-clause-comes c =
    let e : t.test c.in-Test.at (expression c.deref-in-Test.result.now) (command_in c.deref-in-Test-2.result.now) (command_in c.deref-in-Test-3.result.now) ≡ command_in c.args.command.now =
    rw (c.deref-in-Test.ensures, c.deref-in-Test-2.ensures, c.deref-in-Test-3.ensures) (sym (ap command_in c.in-Test.is)) in
    meets_at c.test.result _ (λ b. world c.test.new.m b) _ _ c.in-Test.at
    (λ p b. ap (λ (x : Command). resumed p c.args.m.now.frames.items (tag done_tag (act_of p (full p) x (mode_in c.args.mode) (env_in c.args.env) (world c.args.m.now b)))) e) c.test.ensures.comes

pub returns-in-For-clause-comes : goal.returns-in-For-clause-comes
returns-in-For-clause-comes c =
    let e : t.for_loop c.in-For.at (mention c.in-For.name) (expression c.deref-in-For.result.now) (expression c.deref-in-For-2.result.now) (step_in c.in-For.by) (command_in c.deref-in-For-3.result.now) ≡ command_in c.args.command.now =
    rw (c.deref-in-For.ensures, c.deref-in-For-2.ensures, c.deref-in-For-3.ensures) (sym (ap command_in c.in-For.is ∙ For_is c.in-For.at c.in-For.name c.in-For.a c.in-For.b c.in-For.by c.in-For.body)) in
    meets_at c.for_command.result _ (λ b. world c.for_command.new.m b) _ _ c.in-For.at
    (λ p b. ap (λ (x : Command). resumed p c.args.m.now.frames.items (tag done_tag (act_of p (full p) x (mode_in c.args.mode) (env_in c.args.env) (world c.args.m.now b)))) e)
    (in_mode c.for_command.result _ (λ b. world c.for_command.new.m b) _ (mode_in c.args.mode) c.for_command.ensures.comes)

pub returns-in-SwitchOn-clause-comes : goal.returns-in-SwitchOn-clause-comes
returns-in-SwitchOn-clause-comes c =
    let e : t.switch c.in-SwitchOn.at (expression c.deref-in-SwitchOn.result.now) (command_in c.deref-in-SwitchOn-2.result.now) ≡ command_in c.args.command.now =
    rw (c.deref-in-SwitchOn.ensures, c.deref-in-SwitchOn-2.ensures) (sym (ap command_in c.in-SwitchOn.is)) in
    meets_at c.switch.result _ (λ b. world c.switch.new.m b) _ _ c.in-SwitchOn.at
    (λ p b. ap (λ (x : Command). resumed p c.args.m.now.frames.items (tag done_tag (act_of p (full p) x (mode_in c.args.mode) (env_in c.args.env) (world c.args.m.now b)))) e) c.switch.ensures.comes

pub returns-clause-comes : goal.returns-clause-comes
returns-clause-comes c =
    let e : t.block c.in-Block.at (declarations_in c.deref-in-Block.result.now) (commands_in c.deref-in-Block-2.result.now) ≡ command_in c.args.command.now =
    rw (c.deref-in-Block.ensures.value, c.deref-in-Block-2.ensures.value) (sym (ap command_in c.in-Block.is ∙ Block_is c.in-Block.at c.in-Block.decls c.in-Block.commands)) in
    meets_at c.block.result _ (λ b. world c.block.new.m b) _ _ c.in-Block.at
    (λ p b. ap (λ (x : Command). resumed p c.args.m.now.frames.items (tag done_tag (act_of p (full p) x (mode_in c.args.mode) (env_in c.args.env) (world c.args.m.now b)))) e) c.block.ensures.comes

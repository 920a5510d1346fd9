use Rattle.bk_machine.proofs.Routines.{routines, pushed, routines-all, ◌≡◌, ◌-◌, ◌++◌, ap, ◌∙◌, arith}
use Rattle.bk_machine.proofs.library.push_routines.Goals as goal

pub loop-global-preserved : goal.loop-global-preserved
loop-global-preserved c =
    pushed c.args.words.now.items c.loop-global.words.items c.push.new.self.items c.push-in-loop-global.new.self.items c.loop-global.global
    c.operation_word.result c.operation_word-in-loop-global.result (omega arith) c.loop-global.invariant
    c.operation_word.ensures c.operation_word-in-loop-global.ensures c.in_ok-push.ensures.items c.in_ok-push-2.ensures.items

pub returns : goal.returns
returns c =
    let end : c.loop-global.global ≡ 11 = omega arith in
    c.loop-global.invariant ∙ ap (λ n. c.args.words.now.items ++ routines (n - 2)) end ∙ ap (λ l. c.args.words.now.items ++ l) routines-all

use Rattle.bk_check.proofs.Terms.{ap, List, Name, starts_in, Outcome, Done, env_in, letters_in, tag, done_tag, resumed}
use Rattle.bk_check.proofs.Lets.{named_then}
use Rattle.bk_check.proofs.blocks.named.Goals as goal

pub returns-in_ok-push-in-Some-clause-comes : goal.returns-in_ok-push-in-Some-clause-comes
returns-in_ok-push-in-Some-clause-comes c = λ p fs w.
    ap (λ (u : Outcome Done). resumed p fs (tag done_tag u))
    (named_then p (starts_in c.args.inits.now) (env_in c.args.here) (letters_in c.args.names.now) (letters_in c.in-Some.others.now) _ c.args.rest.value c.deref_mut.result.now c.push.new.self w
    c.deref_mut.ensures.value (ap (λ (xs : List Name). letters_in xs) c.in-Some.ensures.cases.0) c.in_ok-push-in-Some.ensures.items)

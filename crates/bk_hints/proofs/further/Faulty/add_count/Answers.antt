use Rattle.std.proofs.Common.{sym, subst, inr}
use Rattle.bk_hints.specs.Hints.{AddsFurther}
use Rattle.bk_hints.proofs.Added.{adds_one}
use Rattle.bk_hints.proofs.further.Faulty.add_count.Goals as goal

pub returns-in_ok-push-clause-adds : goal.returns-in_ok-push-clause-adds
returns-in_ok-push-clause-adds c =
    subst (AddsFurther c.args.self.now.lines.now.start c.args.self.now.text.now c.args.pages.now.items) (sym c.in_ok-push.ensures.items)
    (adds_one _ _ _ _ (inr (c.args.more, c.in_ok-count_line.ensures)))

use Rattle.bk_frames.proofs.Terms.{Bool, ◌||◌, Option, ap, refl, sym, ◌∙◌, Budget, covered, holds_if}
use Rattle.bk_frames.proofs.Ample.{pushed}
use Rattle.bk_frames.proofs.budgets.add_left.Goals as goal

pub returns-then-keeps_symbol : goal.returns-then-keeps_symbol
returns-then-keeps_symbol c e h x k d n =
    let rs = c.args.budgets.now.items in
    let f : Option Budget → Bool = λ o. covered rs x k d n || holds_if o x k d n in
    pushed rs rs c.push.new.self.items c.in-Some.left (λ y a b i. refl) c.in_ok-push-in-Some.ensures.ok x k d n
    ∙ (ap f (sym c.in-Some.is) ∙ ap (λ z. covered rs x k d n || z) (c.left_of.ensures e h x k d n))

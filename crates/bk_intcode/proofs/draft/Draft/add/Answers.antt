use Rattle.bk_intcode.proofs.Terms.{◌≡◌, ◌++◌, ◌∷◌, [], ◌∙◌, sym, ap, ◌==◌, ◌||◌, true, if◌then◌else◌, Item, SetLabel, Frame}
use Rattle.std.specs.BTreeSet.{contains}
use Rattle.std.specs.Cmp.{unsigned_ties}
use Rattle.std.specs.Ordering.{nat_cmp}
use Rattle.bk_intcode.proofs.DraftLemmas.{sets-other, gives_frame-other, gives_frame-frame, sets-label, cond_or}
use Rattle.bk_intcode.proofs.draft.Draft.add.Goals as goal

pub returns-in_ok-insert-in-SetLabel-clause-draft : goal.returns-in_ok-insert-in-SetLabel-clause-draft
returns-in_ok-insert-in-SetLabel-clause-draft c =
    let l = c.in-SetLabel.label in
    let items = c.args.self.now.items.items in
    let all : c.push.new.self.items ≡ items ++ SetLabel l ∷ [] = c.in_ok-push.ensures.items ∙ ap (λ (i : Item). items ++ i ∷ []) c.in-SetLabel.is in
    let up = c.in_ok-insert-in-SetLabel.ensures.updates in
    record {
      labels = λ label. up.0 label ∙ ap (λ b. if b then true else contains nat_cmp c.args.self.now.labels label) (sym (unsigned_ties l label)) ∙ cond_or (l == label) _ ∙ ap (λ b. b || (l == label)) (c.requires.labels label) ∙ sym (sets-label label items c.push.new.self.items l all);
      framed = c.requires.framed ∙ sym (gives_frame-other items c.push.new.self.items (SetLabel l) all (λ n e. cc));
    }

pub returns-in-Frame-clause-draft : goal.returns-in-Frame-clause-draft
returns-in-Frame-clause-draft c =
    let n = c.in-Frame.field-0 in
    let items = c.args.self.now.items.items in
    let all : c.push.new.self.items ≡ items ++ Frame n ∷ [] = c.in_ok-push.ensures.items ∙ ap (λ (i : Item). items ++ i ∷ []) c.in-Frame.is in
    record {
      labels = λ label. c.requires.labels label ∙ sym (sets-other label items c.push.new.self.items (Frame n) all (λ l e. cc));
      framed = sym (gives_frame-frame items c.push.new.self.items n all);
    }

pub returns-in_default-clause-draft : goal.returns-in_default-clause-draft
returns-in_default-clause-draft c =
    let items = c.args.self.now.items.items in
    let all : c.push.new.self.items ≡ items ++ c.args.item ∷ [] = c.in_ok-push.ensures.items in
    record {
      labels = λ label. c.requires.labels label ∙ sym (sets-other label items c.push.new.self.items c.args.item all c.in_default.not-SetLabel);
      framed = c.requires.framed ∙ sym (gives_frame-other items c.push.new.self.items c.args.item all c.in_default.not-Frame);
    }

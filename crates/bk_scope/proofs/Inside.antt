-- Commands with names of their own inside: the scope behind them is the one around them again.
use Rattle.bk_scope.proofs.Terms.{◌≡◌, ℕ, ◌-◌, ◌≤◌, List, length, drop, ap, ◌∙◌, Binding, Stage, with_labels}
use Rattle.bk_scope.proofs.Leaving.{Above, both, back, longer, labels_above}

-- the scope cs of labels around which bs is in scope
module _ (k : ℕ) (xs : List (List ℕ)) (t u : Stage) (bs cs : List Binding) (m : ℕ) where
  above : Above bs t.scope → u ≡ with_labels k xs t → cs ≡ u.scope → Above bs cs
  above inside entered kept = rw kept (rw entered (both bs t.scope _ inside (labels_above k xs t)))

  pub longer_inside : Above bs t.scope → u ≡ with_labels k xs t → cs ≡ u.scope → m ≡ length bs → m ≤ length cs
  longer_inside inside entered kept marked = rw marked (longer bs cs (above inside entered kept))

  pub back_outside : (ds : List Binding) → Above bs t.scope → u ≡ with_labels k xs t → cs ≡ u.scope → m ≡ length bs → ds ≡ drop (length cs - m) cs → ds ≡ bs
  back_outside ds inside entered kept marked left = left ∙ ap (λ n. drop (length cs - n) cs) marked ∙ back bs cs (above inside entered kept)

-- The rest behind a LAB is told by its label.
use Rattle.bk_ocode.proofs.Terms.{◌≡◌, ◌≢◌, ℕ, zero, suc, ◌<◌, Bool, true, false, List, [], ◌∷◌, Option, Some, None, take, drop, slice_get, refl, ◌∙◌, ap, arith, if◌then◌else◌, eq-eqb, option_map_or, next_depth, depth_after, Placement, Wild, is_label, step, Rest, rest_of, label_rest, resumed, program_step_from, Stmt, Label}
use Rattle.bk_ocode.specs.RunLaws.{GoesOnAfterLabel}
use Rattle.bk_ocode.proofs.LabelsOnce.{not_label, not_before}

-- the rest behind the LAB at a place
abbrev pub rest_behind : Placement → ℕ → List Stmt → ℕ → ℕ → Rest
rest_behind places k stmts i l =
    record { place = places.label l; depth = depth_after k (take i stmts); takes = false; keeps = true; following = drop (suc i) stmts }

module _ (places : Placement) (l : ℕ) where
  found : (k : ℕ) (s : Stmt) (rest : List Stmt) (b : Bool) → b ≡ true → s ≡ Label l →
      (if b then rest_of places k s rest else label_rest places (next_depth k s) rest l) ≡ Some (rest_behind places k (s ∷ rest) 0 l)
  found k s rest true is same = ap (λ (t : Stmt). rest_of places k t rest) same
  found k s rest false is same = absurd (let h : false ≡ true = is in cc)

  passed : (k : ℕ) (s : Stmt) (rest : List Stmt) (b : Bool) → b ≡ false →
      (if b then rest_of places k s rest else label_rest places (next_depth k s) rest l) ≡ label_rest places (next_depth k s) rest l
  passed k s rest true is = absurd (let h : true ≡ false = is in cc)
  passed k s rest false is = refl

  -- the first LAB of the label is found
  pub label_rest-at : (k : ℕ) (stmts : List Stmt) (i : ℕ) → slice_get stmts i ≡ Some (Label l) → ((j : ℕ) → j < i → slice_get stmts j ≢ Some (Label l)) →
      label_rest places k stmts l ≡ Some (rest_behind places k stmts i l)
  label_rest-at k [] i at none = absurd (let h : None ≡ Some (Label l) = at in cc)
  label_rest-at k (s ∷ rest) zero at none =
      let same : s ≡ Label l = (let h : Some s ≡ Some (Label l) = at in cc) in
      found k s rest (is_label l s) (ap (is_label l) same ∙ eq-eqb l l refl) same
  label_rest-at k (s ∷ rest) (suc i) at none =
      passed k s rest (is_label l s) (not_label l s (none 0 (omega arith)))
      ∙ label_rest-at (next_depth k s) rest i at (λ j low. none (suc j) (omega (arith, low)))

pub goes_on_after_label : GoesOnAfterLabel
goes_on_after_label program s own i l are at is =
    ap (program_step_from program s) is
    ∙ ap (λ (r : Option Rest). option_map_or (λ (x : Rest). step program.callables (resumed own x s)) r Wild)
    (label_rest-at own.places l 0 own.stmts i at (λ j low here. not_before own.stmts j i l (Label l) (Label l) are here at refl refl low))

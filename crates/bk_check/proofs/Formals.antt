-- The cells of formals, one after another.
use Rattle.bk_check.proofs.Terms.{◌≡◌, ℕ, zero, suc, ◌+◌, ◌<◌, List, [], ◌∷◌, ◌++◌, length, map, drop, refl, ap, sym, ◌∙◌, add-one, arith, slice_get, unwrap_or, Name, formal_cells, Worth, Unset, Argument, Cell, Holds, letters_in, value_in, cell_in, list_value}
use Rattle.bk_meaning.specs.Values as v

step_at : (xs : List Name) (vs : List Worth) (i : ℕ) → i < length xs → formal_cells (letters_in (drop i xs)) (list_value (drop i vs)) ≡ v.holds (value_in (unwrap_or (slice_get vs i) (Unset Argument))) ∷ formal_cells (letters_in (drop (suc i) xs)) (list_value (drop (suc i) vs))
step_at [] vs i lt = absurd (omega (arith, lt))
step_at (x ∷ xs) [] zero lt = refl
step_at (x ∷ xs) (w ∷ vs) zero lt = refl
step_at (x ∷ xs) [] (suc i) lt = none_left i xs (omega (arith, lt))
  where
    none_left : (i : ℕ) (xs : List Name) → i < length xs → formal_cells (letters_in (drop i xs)) [] ≡ v.holds v.unset ∷ formal_cells (letters_in (drop (suc i) xs)) []
    none_left i [] lt = absurd (omega (arith, lt))
    none_left zero (x ∷ xs) lt = refl
    none_left (suc i) (x ∷ xs) lt = none_left i xs (omega (arith, lt))
step_at (x ∷ xs) (w ∷ vs) (suc i) lt = step_at xs vs i (omega (arith, lt))

pushed_cell : (cells : List Cell) (c : Cell) (ys : List v.Cell) → map cell_in (cells ++ c ∷ []) ++ ys ≡ map cell_in cells ++ cell_in c ∷ ys
pushed_cell [] c ys = refl
pushed_cell (x ∷ cells) c ys = ap (λ zs. cell_in x ∷ zs) (pushed_cell cells c ys)

pub formal_step : (cells : List Cell) (xs : List Name) (vs : List Worth) (i : ℕ) → i < length xs →
    map cell_in (cells ++ Holds (unwrap_or (slice_get vs i) (Unset Argument)) ∷ []) ++ formal_cells (letters_in (drop (i + 1) xs)) (list_value (drop (i + 1) vs)) ≡ map cell_in cells ++ formal_cells (letters_in (drop i xs)) (list_value (drop i vs))
formal_step cells xs vs i lt =
    pushed_cell cells (Holds (unwrap_or (slice_get vs i) (Unset Argument))) (formal_cells (letters_in (drop (i + 1) xs)) (list_value (drop (i + 1) vs)))
    ∙ ap (λ n. map cell_in cells ++ v.holds (value_in (unwrap_or (slice_get vs i) (Unset Argument))) ∷ formal_cells (letters_in (drop n xs)) (list_value (drop n vs))) (add-one i)
    ∙ ap (λ (zs : List v.Cell). map cell_in cells ++ zs) (sym (step_at xs vs i lt))

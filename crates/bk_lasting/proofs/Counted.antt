-- How many items are counted.
use Rattle.bk_lasting.proofs.Terms.{◌≡◌, List, [], ◌∷◌, length, arith, items_in, count, ConstItem, ConstItem as i}

pub items_counted : (xs : List ConstItem) → count (items_in xs) ≡ length xs
items_counted [] = omega arith
items_counted ((i.Item l x y) ∷ xs) = let h = items_counted xs in omega (arith, h)

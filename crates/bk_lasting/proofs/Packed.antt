-- Bytes packed four a word: one word more.
use Rattle.bk_lasting.proofs.Terms.{◌≡◌, ℕ, ◌+◌, ◌*◌, ◌<◌, ◌≤◌, List, [], ◌∷◌, ◌++◌, length, get_or, drop, refl, sym, ap, ◌∙◌, append_assoc, arith, get_or-drop, drop-drop, length-drop, drop_all, packed}
use Rattle.bk_base.specs.Word.{packed_word}

packed_first : (ys : List ℕ) → 0 < length ys → packed ys ≡ packed_word (get_or ys 0 0) (get_or ys 1 0) (get_or ys 2 0) (get_or ys 3 0) ∷ packed (drop 4 ys)
packed_first [] some = absurd (omega (arith, some))
packed_first (a ∷ b ∷ c ∷ []) some = refl
packed_first (a ∷ x) some = refl

same_word : (a a' b b' c c' d d' : ℕ) (r r' : List ℕ) → a ≡ a' → b ≡ b' → c ≡ c' → d ≡ d' → r ≡ r' → packed_word a b c d ∷ packed r ≡ packed_word a' b' c' d' ∷ packed r'
same_word a a' b b' c c' d d' r r' p q s t u = cc

read : (k i j : ℕ) (xs : List ℕ) → j ≡ k + i → get_or (drop k xs) i 0 ≡ get_or xs j 0
read k i j xs is = get_or-drop k xs i 0 ∙ ap (λ j. get_or xs j 0) (sym is)

packed_from : (xs : List ℕ) (k n : ℕ) → k < length xs → n ≡ k + 4
    → packed_word (get_or xs k 0) (get_or xs (k + 1) 0) (get_or xs (k + 2) 0) (get_or xs (k + 3) 0) ∷ packed (drop n xs) ≡ packed (drop k xs)
packed_from xs k n lt is =
    let some : 0 < length (drop k xs) = omega (arith, length-drop k xs) in
    let rest : drop 4 (drop k xs) ≡ drop n xs = drop-drop 4 k xs ∙ ap (λ j. drop j xs) (sym is) in
    sym (packed_first (drop k xs) some ∙ same_word _ _ _ _ _ _ _ _ _ _ (read k 0 k xs (omega arith)) (read k 1 (k + 1) xs refl) (read k 2 (k + 2) xs refl) (read k 3 (k + 3) xs refl) rest)

pub packed_next : (words xs : List ℕ) (i w : ℕ) → 4 * i < length xs → w ≡ packed_word (get_or xs (4 * i) 0) (get_or xs (4 * i + 1) 0) (get_or xs (4 * i + 2) 0) (get_or xs (4 * i + 3) 0)
    → (words ++ w ∷ []) ++ packed (drop (4 * (i + 1)) xs) ≡ words ++ packed (drop (4 * i) xs)
packed_next words xs i w lt is =
    append_assoc words (w ∷ []) (packed (drop (4 * (i + 1)) xs))
    ∙ ap (λ z. words ++ z) (ap (λ z. z ∷ packed (drop (4 * (i + 1)) xs)) is ∙ packed_from xs (4 * i) (4 * (i + 1)) lt (omega arith))

pub packed_end : (xs : List ℕ) (i : ℕ) → length xs ≤ 4 * i → packed (drop (4 * i) xs) ≡ []
packed_end xs i le = ap packed (drop_all (4 * i) xs le)

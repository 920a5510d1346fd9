-- What variables begin with, one after another.
use Rattle.bk_scope.proofs.Terms.{◌≡◌, ℕ, ◌+◌, ◌<◌, ◌≤◌, List, [], ◌∷◌, ◌++◌, map, drop, length, get_or, refl, sym, ap, ap₂, ◌∙◌, append_assoc, arith, drop_more, drop_all, Init, Init as b, Name, Mention, Starts, starts_in, mention, Enclosing, Variable, Binding, Found, deeper, started, place_after, variables_of, words_below}

-- the place after one of them
abbrev pub after_one : List Binding → Enclosing → Init → Enclosing
after_one bs p s = deeper (words_below bs (starts_in (s ∷ [])) + 1) p

-- the variable of one of them
abbrev pub variable : List Binding → Enclosing → Name → Init → Binding
variable bs p x s = record { name = (mention x).letters; bound = Variable p.procedure ((deeper (words_below bs (starts_in (s ∷ []))) p).depth) }

found_first : (bs : List Binding) (p : Enclosing) (s : Init) (ss : List Init) (f : Found) → started bs (after_one bs p s) (starts_in ss) (started bs p (starts_in (s ∷ [])) f) ≡ started bs p (starts_in (s ∷ ss)) f
found_first bs p (b.Value e) ss f = refl
found_first bs p (b.Vector l e) ss f = refl

place_first : (bs : List Binding) (p : Enclosing) (s : Init) (ss : List Init) → place_after bs (after_one bs p s) (starts_in ss) ≡ place_after bs p (starts_in (s ∷ ss))
place_first bs p (b.Value e) ss = refl
place_first bs p (b.Vector l e) ss = refl

variable_first : (bs : List Binding) (p : Enclosing) (x : Name) (xs : List Name) (s : Init) (ss : List Init) → variable bs p x s ∷ variables_of bs (after_one bs p s) (map mention xs) (starts_in ss) ≡ variables_of bs p (map mention (x ∷ xs)) (starts_in (s ∷ ss))
variable_first bs p x xs (b.Value e) ss = refl
variable_first bs p x xs (b.Vector l e) ss = refl

module _ (bs : List Binding) (p : Enclosing) (ss : List Init) (i : ℕ) (s : Init) (lt : i < length ss) (is : s ≡ get_or ss i s) where
  left : s ∷ drop (i + 1) ss ≡ drop i ss
  left = ap (λ y. y ∷ drop (i + 1) ss) is ∙ sym (drop_more ss i s lt)

  pub found_after : (f : Found) → started bs (after_one bs p s) (starts_in (drop (i + 1) ss)) (started bs p (starts_in (s ∷ [])) f) ≡ started bs p (starts_in (drop i ss)) f
  found_after f = found_first bs p s (drop (i + 1) ss) f ∙ ap (λ l. started bs p (starts_in l) f) left

  pub place_then : place_after bs (after_one bs p s) (starts_in (drop (i + 1) ss)) ≡ place_after bs p (starts_in (drop i ss))
  place_then = place_first bs p s (drop (i + 1) ss) ∙ ap (λ l. place_after bs p (starts_in l)) left

  pub fresh_after : (xs : List Name) (x : Name) (zs : List Binding) → i < length xs → x ≡ get_or xs i x
      → (zs ++ variable bs p x s ∷ []) ++ variables_of bs (after_one bs p s) (map mention (drop (i + 1) xs)) (starts_in (drop (i + 1) ss)) ≡ zs ++ variables_of bs p (map mention (drop i xs)) (starts_in (drop i ss))
  fresh_after xs x zs more named =
      append_assoc zs (variable bs p x s ∷ []) _
      ∙ ap (λ ys. zs ++ ys) (variable_first bs p x (drop (i + 1) xs) s (drop (i + 1) ss)
      ∙ ap₂ (λ ys l. variables_of bs p (map mention ys) (starts_in l)) (ap (λ y. y ∷ drop (i + 1) xs) named ∙ sym (drop_more xs i x more)) left)

  pub fresh_without : (xs : List Name) (zs : List Binding) → length xs ≤ i
      → zs ++ variables_of bs (after_one bs p s) (map mention (drop (i + 1) xs)) (starts_in (drop (i + 1) ss)) ≡ zs ++ variables_of bs p (map mention (drop i xs)) (starts_in (drop i ss))
  fresh_without xs zs none = grind (arith, drop_all)

-- The open sections, and what a `$)` closes of them.
use Rattle.bk_syntax.proofs.Terms.{◌≡◌, ℕ, zero, suc, ◌+◌, ◌-◌, ◌<◌, Bool, true, false, cond, Option, Some, None, List, [], ◌∷◌, ◌++◌, length, get_or, take, replicate, ◌==◌, refl, sym, ap, ◌∙◌, arith, take-length, take_more, Bor, Symbol, upper_name, Closing, same_tag, one_more, up_to_tag, without_tag, closed_by, tags_on, tags, is_zero, is_more}

on_push : (opens : List (List ℕ)) (xs : List (Bor (List ℕ))) (x : Bor (List ℕ)) → tags_on opens (xs ++ x ∷ []) ≡ upper_name x.now ∷ tags_on opens xs
on_push opens [] x = refl
on_push opens (y ∷ xs) x = on_push (upper_name y.now ∷ opens) xs x

pub tags_push : (xs : List (Bor (List ℕ))) (x : Bor (List ℕ)) → tags (xs ++ x ∷ []) ≡ upper_name x.now ∷ tags xs
unfolding tags
tags_push xs x = on_push [] xs x

pub tags_none : tags [] ≡ []
unfolding tags
tags_none = refl

-- one open section more of those outside
pub tags_take : (xs : List (Bor (List ℕ))) (i : ℕ) (d : Bor (List ℕ)) → i < length xs → tags (take (i + 1) xs) ≡ upper_name (get_or xs i d).now ∷ tags (take i xs)
tags_take xs i d lt = ap tags (take_more xs i d lt) ∙ tags_push (take i xs) (get_or xs i d)

-- the innermost
tags_last : (xs : List (Bor (List ℕ))) (d : Bor (List ℕ)) → 0 < length xs → tags xs ≡ upper_name (get_or xs (length xs - 1) d).now ∷ tags (take (length xs - 1) xs)
tags_last xs d lt =
    let back : length xs - 1 + 1 ≡ length xs = omega arith in
    ap tags (sym (take-length xs) ∙ ap (λ (n : ℕ). take n xs) (sym back)) ∙ tags_take xs (length xs - 1) d (omega arith)

-- where the innermost has no tag, and where it has one
pub untagged : (t : Symbol) (x : List ℕ) (opens : List (List ℕ)) → length x ≡ 0 → without_tag t (upper_name x ∷ opens) ≡ Some (record { closings = replicate 1 t; still = opens })
untagged t [] opens h = refl
untagged t (y ∷ ys) opens h = absurd (omega arith)

pub tagged : (t : Symbol) (x : List ℕ) (opens : List (List ℕ)) → 0 < length x → without_tag t (upper_name x ∷ opens) ≡ None
tagged t [] opens h = absurd (omega arith)
tagged t (y ∷ ys) opens h = refl

pub closed_tagged : (t : Symbol) (x : List ℕ) (opens : List (List ℕ)) → 0 < length x → closed_by t (upper_name x) opens ≡ up_to_tag t (upper_name x) opens
closed_tagged t [] opens h = absurd (omega arith)
closed_tagged t (y ∷ ys) opens h = refl

-- so many closings more
abbrev pub closing_more : ℕ → Symbol → Option Closing → Option Closing
closing_more zero t c = c
closing_more (suc n) t c = closing_more n t (one_more t c)

pub more_none : (n : ℕ) (t : Symbol) → closing_more n t None ≡ None
more_none zero t = refl
more_none (suc n) t = more_none n t

more_some : (n m k : ℕ) (t : Symbol) (opens : List (List ℕ)) → k ≡ m + n → closing_more n t (Some (record { closings = replicate m t; still = opens })) ≡ Some (record { closings = replicate k t; still = opens })
more_some zero m k t opens is = let same : m ≡ k = omega arith in ap (λ (j : ℕ). Some (record { closings = replicate j t; still = opens })) same
more_some (suc n) m k t opens is = more_some n (suc m) k t opens (omega arith)

-- One open section more is looked at, with none of the tag inside it: it has the tag, or it has not.
module _ (xs : List (Bor (List ℕ))) (i m : ℕ) (d : Bor (List ℕ)) (t : Symbol) (w : List ℕ) (r : Bool) where
  opened_at : i < length xs → r ≡ same_tag w (upper_name (get_or xs i d).now) → closing_more m t (up_to_tag t w (tags (take (i + 1) xs)))
      ≡ closing_more m t (cond r (Some (record { closings = t ∷ []; still = tags (take i xs) })) (one_more t (up_to_tag t w (tags (take i xs)))))
  opened_at lt is = ap (λ z. closing_more m t (up_to_tag t w z)) (tags_take xs i d lt)
      ∙ ap (λ b. closing_more m t (cond b (Some (record { closings = t ∷ []; still = tags (take i xs) })) (one_more t (up_to_tag t w (tags (take i xs)))))) (sym is)

  pub passed : i < length xs → r ≡ same_tag w (upper_name (get_or xs i d).now) → r ≡ false
      → closing_more m t (up_to_tag t w (tags (take (i + 1) xs))) ≡ closing_more (suc m) t (up_to_tag t w (tags (take i xs)))
  passed lt is other = opened_at lt is ∙ ap (λ b. closing_more m t (cond b (Some (record { closings = t ∷ []; still = tags (take i xs) })) (one_more t (up_to_tag t w (tags (take i xs)))))) other

  pub found : (k : ℕ) → k ≡ 1 + m → i < length xs → r ≡ same_tag w (upper_name (get_or xs i d).now) → r ≡ true
      → closing_more m t (up_to_tag t w (tags (take (i + 1) xs))) ≡ Some (record { closings = replicate k t; still = tags (take i xs) })
  found k many lt is has = opened_at lt is ∙ ap (λ b. closing_more m t (cond b (Some (record { closings = t ∷ []; still = tags (take i xs) })) (one_more t (up_to_tag t w (tags (take i xs)))))) has
      ∙ more_some m 1 k t (tags (take i xs)) many

-- the innermost, or none
module _ (t : Symbol) (xs : List (Bor (List ℕ))) (d : Bor (List ℕ)) (r : Bool) where
  pub one_closed : (length xs ≡ 0 → ⊥) → r ≡ (length (get_or xs (length xs - 1) d).now == 0) → r ≡ true
      → without_tag t (tags xs) ≡ Some (record { closings = replicate 1 t; still = tags (take (length xs - 1) xs) })
  one_closed some is holds = ap (without_tag t) (tags_last xs d (omega arith)) ∙ untagged t (get_or xs (length xs - 1) d).now (tags (take (length xs - 1) xs)) (is_zero _ r is holds)

  pub none_closed : (length xs ≡ 0 → ⊥) → r ≡ (length (get_or xs (length xs - 1) d).now == 0) → r ≡ false → without_tag t (tags xs) ≡ None
  none_closed some is other = ap (without_tag t) (tags_last xs d (omega arith)) ∙ tagged t (get_or xs (length xs - 1) d).now (tags (take (length xs - 1) xs)) (is_more _ r is other)

pub nothing_open : (t : Symbol) (xs : List (Bor (List ℕ))) → length xs ≡ 0 → without_tag t (tags xs) ≡ Some (record { closings = replicate 1 t; still = tags (take (length xs - 1) xs) })
unfolding tags
nothing_open t [] h = refl
nothing_open t (x ∷ xs) h = absurd (omega arith)

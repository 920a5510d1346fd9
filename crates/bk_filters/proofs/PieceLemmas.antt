-- The pieces so far, the next one, and the others.
use Rattle.bk_filters.proofs.Terms.{◌≡◌, ℕ, ◌+◌, ◌<◌, List, [], ◌∷◌, ◌++◌, length, take, drop, get_or, sym, ◌∙◌, ap, append_assoc, append-nil, subst, Option, refl, Bor, Appends, take_more, take-append-drop, AppendsPart, Appends-trans, AppendsPart-after, AppendsPart-front, joined}

joined-append : (a b : List (Bor (List ℕ))) → joined (a ++ b) ≡ joined a ++ joined b
joined-append [] b = refl
joined-append (p ∷ a) b = ap (λ t. p.now ++ t) (joined-append a b) ∙ sym (append_assoc p.now (joined a) (joined b))

joined-more : (pieces : List (Bor (List ℕ))) (k : ℕ) (d : Bor (List ℕ)) → k < length pieces → joined (take (k + 1) pieces) ≡ joined (take k pieces) ++ (get_or pieces k d).now
joined-more pieces k d low =
    ap joined (take_more pieces k d low) ∙ joined-append (take k pieces) (get_or pieces k d ∷ [])
    ∙ ap (λ t. joined (take k pieces) ++ t) (append-nil (get_or pieces k d).now)

joined-at : (pieces : List (Bor (List ℕ))) (k : ℕ) (d : Bor (List ℕ)) → k < length pieces →
    joined pieces ≡ joined (take k pieces) ++ ((get_or pieces k d).now ++ joined (drop (k + 1) pieces))
joined-at pieces k d low =
    ap joined (sym (take-append-drop (k + 1) pieces)) ∙ joined-append (take (k + 1) pieces) (drop (k + 1) pieces)
    ∙ ap (λ t. t ++ joined (drop (k + 1) pieces)) (joined-more pieces k d low)
    ∙ append_assoc (joined (take k pieces)) (get_or pieces k d).now (joined (drop (k + 1) pieces))

-- a part of the next piece is a part of the whole
pub AppendsPart-piece : (a b c : Option (List ℕ)) (pieces : List (Bor (List ℕ))) (k : ℕ) (d : Bor (List ℕ)) → k < length pieces →
    Appends a b (joined (take k pieces)) → AppendsPart b c (get_or pieces k d).now → AppendsPart a c (joined pieces)
AppendsPart-piece a b c pieces k d low taken part =
    let piece = (get_or pieces k d).now in
    AppendsPart-after a b c (joined (take k pieces)) (piece ++ joined (drop (k + 1) pieces)) (joined pieces) (joined-at pieces k d low) taken
    (AppendsPart-front b c piece (joined (drop (k + 1) pieces)) (piece ++ joined (drop (k + 1) pieces)) refl part)

pub Appends-piece : (a b c : Option (List ℕ)) (pieces : List (Bor (List ℕ))) (k : ℕ) (d : Bor (List ℕ)) → k < length pieces →
    Appends a b (joined (take k pieces)) → Appends b c (get_or pieces k d).now → Appends a c (joined (take (k + 1) pieces))
Appends-piece a b c pieces k d low taken more =
    subst (λ t. Appends a c t) (sym (joined-more pieces k d low)) (Appends-trans a b c (joined (take k pieces)) (get_or pieces k d).now taken more)

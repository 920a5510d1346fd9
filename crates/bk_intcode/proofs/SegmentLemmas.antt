-- Facts on the items of segments.
use Rattle.bk_intcode.proofs.Terms.{◌≡◌, ℕ, ◌+◌, ◌<◌, List, [], ◌∷◌, ◌++◌, length, take, drop, get_or, refl, sym, ◌∙◌, ap, append_assoc, append-nil, subst, Option, Appends, AppendsPart, Appends-trans, AppendsPart-after, AppendsPart-front, take_more, take-append-drop, Item, item_text, segment_text}

pub segment_text-append : (a b : List Item) → segment_text (a ++ b) ≡ segment_text a ++ segment_text b
segment_text-append [] b = refl
segment_text-append (i ∷ a) b = ap (λ t. (item_text i ++ 10 ∷ []) ++ t) (segment_text-append a b) ∙ sym (append_assoc (item_text i ++ 10 ∷ []) (segment_text a) (segment_text b))

-- the text so far, the next line, and the others
pub segment_text-at : (items : List Item) (k : ℕ) (d : Item) → k < length items →
    segment_text items ≡ segment_text (take k items) ++ ((item_text (get_or items k d) ++ 10 ∷ []) ++ segment_text (drop (k + 1) items))
segment_text-at items k d low =
    let line = item_text (get_or items k d) ++ 10 ∷ [] in
    ap segment_text (sym (take-append-drop (k + 1) items))
    ∙ segment_text-append (take (k + 1) items) (drop (k + 1) items)
    ∙ ap (λ t. segment_text t ++ segment_text (drop (k + 1) items)) (take_more items k d low)
    ∙ ap (λ t. t ++ segment_text (drop (k + 1) items)) (segment_text-append (take k items) (get_or items k d ∷ []) ∙ ap (λ t. segment_text (take k items) ++ t) (append-nil line))
    ∙ append_assoc (segment_text (take k items)) line (segment_text (drop (k + 1) items))

pub segment_text-more : (items : List Item) (k : ℕ) (d : Item) → k < length items →
    segment_text (take (k + 1) items) ≡ segment_text (take k items) ++ (item_text (get_or items k d) ++ 10 ∷ [])
segment_text-more items k d low =
    ap segment_text (take_more items k d low) ∙ segment_text-append (take k items) (get_or items k d ∷ [])
    ∙ ap (λ t. segment_text (take k items) ++ t) (append-nil (item_text (get_or items k d) ++ 10 ∷ []))

-- a part of the next line is a part of the text
pub AppendsPart-line : (a b c : Option (List ℕ)) (items : List Item) (k : ℕ) (d : Item) → k < length items →
    Appends a b (segment_text (take k items)) → AppendsPart b c (item_text (get_or items k d) ++ 10 ∷ []) → AppendsPart a c (segment_text items)
AppendsPart-line a b c items k d low taken part =
    let line = item_text (get_or items k d) ++ 10 ∷ [] in
    AppendsPart-after a b c (segment_text (take k items)) (line ++ segment_text (drop (k + 1) items)) (segment_text items) (segment_text-at items k d low) taken
    (AppendsPart-front b c line (segment_text (drop (k + 1) items)) (line ++ segment_text (drop (k + 1) items)) refl part)

pub Appends-line : (a b c : Option (List ℕ)) (items : List Item) (k : ℕ) (d : Item) → k < length items →
    Appends a b (segment_text (take k items)) → Appends b c (item_text (get_or items k d) ++ 10 ∷ []) → Appends a c (segment_text (take (k + 1) items))
Appends-line a b c items k d low taken more =
    subst (λ t. Appends a c t) (sym (segment_text-more items k d low))
    (Appends-trans a b c (segment_text (take k items)) (item_text (get_or items k d) ++ 10 ∷ []) taken more)

-- Texts of lists that are written one part after another.
use Rattle.bk_ocode.proofs.Terms.{◌≡◌, ℕ, ◌+◌, ◌<◌, List, [], ◌∷◌, ◌++◌, length, take, drop, get_or, refl, sym, ◌∙◌, ap, append_assoc, subst, Option, Appends, take_more, take-append-drop, AppendsPart, spelling, joined, natural_word, label_word, spaced, byte_words, case_words, global_words, stmt_text, section_text, Case, GlobalEntry, Stmt, Appends-trans, AppendsPart-after, AppendsPart-front}

pub joined-append : {A B : Type 0} → (f : A → List B) (a b : List A) → joined f (a ++ b) ≡ joined f a ++ joined f b
joined-append f [] b = refl
joined-append f (x ∷ a) b = ap (λ t. f x ++ t) (joined-append f a b) ∙ sym (append_assoc (f x) (joined f a) (joined f b))

-- a text that is the text of the front and that of the rest
abbrev pub IsText : (A : Type 0) → (List A → List ℕ) → Type 0
IsText A T = (a b : List A) → T (a ++ b) ≡ T a ++ T b

pub IsText-twice : {A B : Type 0} → (f : A → List B) (g : B → List ℕ) → IsText A (λ xs. joined g (joined f xs))
IsText-twice f g = λ a b. ap (joined g) (joined-append f a b) ∙ joined-append g (joined f a) (joined f b)

pub text-at : (A : Type 0) (T : List A → List ℕ) → IsText A T → (xs : List A) (k : ℕ) (d : A) → k < length xs →
    T xs ≡ T (take k xs) ++ (T (get_or xs k d ∷ []) ++ T (drop (k + 1) xs))
text-at A T is xs k d low =
    ap T (sym (take-append-drop (k + 1) xs)) ∙ is (take (k + 1) xs) (drop (k + 1) xs)
    ∙ ap (λ (t : List A). T t ++ T (drop (k + 1) xs)) (take_more xs k d low)
    ∙ ap (λ (t : List ℕ). t ++ T (drop (k + 1) xs)) (is (take k xs) (get_or xs k d ∷ []))
    ∙ append_assoc (T (take k xs)) (T (get_or xs k d ∷ [])) (T (drop (k + 1) xs))

pub text-more : (A : Type 0) (T : List A → List ℕ) → IsText A T → (xs : List A) (k : ℕ) (d : A) → k < length xs →
    T (take (k + 1) xs) ≡ T (take k xs) ++ T (get_or xs k d ∷ [])
text-more A T is xs k d low = ap T (take_more xs k d low) ∙ is (take k xs) (get_or xs k d ∷ [])

-- a part of the next text is a part of the whole
pub AppendsPart-row : (A : Type 0) (T : List A → List ℕ) → IsText A T → (a b c : Option (List ℕ)) (xs : List A) (k : ℕ) (d : A) (one : List ℕ) → k < length xs →
    T (get_or xs k d ∷ []) ≡ one → Appends a b (T (take k xs)) → AppendsPart b c one → AppendsPart a c (T xs)
AppendsPart-row A T is a b c xs k d one low same taken part =
    AppendsPart-after a b c (T (take k xs)) (one ++ T (drop (k + 1) xs)) (T xs)
    (text-at A T is xs k d low ∙ ap (λ (t : List ℕ). T (take k xs) ++ (t ++ T (drop (k + 1) xs))) same) taken
    (AppendsPart-front b c one (T (drop (k + 1) xs)) (one ++ T (drop (k + 1) xs)) refl part)

pub Appends-row : (A : Type 0) (T : List A → List ℕ) → IsText A T → (a b c : Option (List ℕ)) (xs : List A) (k : ℕ) (d : A) (one : List ℕ) → k < length xs →
    T (get_or xs k d ∷ []) ≡ one → Appends a b (T (take k xs)) → Appends b c one → Appends a c (T (take (k + 1) xs))
Appends-row A T is a b c xs k d one low same taken more =
    subst (λ t. Appends a c t) (sym (text-more A T is xs k d low ∙ ap (λ (t : List ℕ). T (take k xs) ++ t) same))
    (Appends-trans a b c (T (take k xs)) one taken more)

pub byte_rows : IsText ℕ (λ xs. spaced (byte_words xs))
byte_rows = IsText-twice (λ (b : ℕ). natural_word b ∷ []) (λ (word : List ℕ). 32 ∷ word)

pub case_rows : IsText Case (λ xs. spaced (case_words xs))
case_rows = IsText-twice (λ (c : Case). spelling c.value ∷ label_word c.label ∷ []) (λ (word : List ℕ). 32 ∷ word)

pub global_rows : IsText GlobalEntry (λ xs. spaced (global_words xs))
global_rows = IsText-twice (λ (e : GlobalEntry). natural_word e.number ∷ label_word e.label ∷ []) (λ (word : List ℕ). 32 ∷ word)

pub line_rows : IsText Stmt section_text
line_rows = joined-append (λ (s : Stmt). stmt_text s ++ 10 ∷ [])

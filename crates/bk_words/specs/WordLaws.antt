-- Laws of words that are taken one after another, for the crates above.
use Rattle.std.proofs.Common.{◌≡◌, ◌⊎◌, inl, inr, ℕ, ◌+◌, ◌<◌, ◌≤◌, ◌++◌, Bool, true, false, IsTrue, if◌then◌else◌, List, [], ◌∷◌, Option, Some, None, length, arith, refl, sym, ◌∙◌, ap, subst, append_assoc, append-nil, length-append}
use Rattle.std.specs.Io.KnownBytes.{Consumes}
use Rattle.bk_base.specs.Devices.{NothingLeft}
use Rattle.bk_base.specs.DeviceLaws.{Consumes-trans}
use Rattle.bk_base.specs.declared.limit.TheConstants.{INPUT_BYTES}
use Rattle.bk_words.specs.TextEnd.{AtEnd}
use Rattle.bk_words.specs.Words.{is_blank, at_gap, onto_first, words_of, AreBlank, AreInWord, EndsInWord, EndsInBlank, IsAfter}
use Rattle.bk_words.specs.Gathering.{IsAfterWord, TakesWord, BeginsWord}
use Rattle.bk_words.specs.Taking.{TakesWords, TakesSome, StopsInWord, Reads, ReadsAll}

-- two parts of a word
pub AreInWord-append : (x y : List ℕ) → AreInWord x → AreInWord y → AreInWord (x ++ y)
AreInWord-append [] y p q = q
AreInWord-append (b ∷ x) y p q = (p.0, AreInWord-append x y p.1 q)

-- the words are those of the text and those of what follows
abbrev pub IsParted : List ℕ → Type 0
IsParted text = (more : List ℕ) → words_of (text ++ more) ≡ words_of text ++ words_of more

pub IsParted-empty : IsParted []
IsParted-empty more = refl

pub chosen-true : {A : Type 0} (b : Bool) (x y : A) → b ≡ true → (if b then x else y) ≡ x
chosen-true true x y is = refl
chosen-true false x y is = absurd (let h : false ≡ true = is in cc)

pub chosen-false : {A : Type 0} (b : Bool) (x y : A) → b ≡ false → (if b then x else y) ≡ y
chosen-false true x y is = absurd (let h : true ≡ false = is in cc)
chosen-false false x y is = refl

pub words_of-blanks : (blanks rest : List ℕ) → AreBlank blanks → words_of (blanks ++ rest) ≡ words_of rest
words_of-blanks [] rest are = refl
words_of-blanks (b ∷ blanks) rest are = chosen-true (is_blank b) _ _ are.0 ∙ words_of-blanks blanks rest are.1

pub words_of-word : (first : ℕ) (word rest : List ℕ) → AreInWord (first ∷ word) → at_gap rest ≡ true → words_of (first ∷ (word ++ rest)) ≡ (first ∷ word) ∷ words_of rest
words_of-word first [] rest in_word gap = chosen-false (is_blank first) _ _ in_word.0 ∙ chosen-true (at_gap rest) _ _ gap
words_of-word first (b ∷ word) rest in_word gap =
    chosen-false (is_blank first) _ _ in_word.0 ∙ chosen-false (is_blank b) _ _ in_word.1.0 ∙ ap (onto_first first) (words_of-word b word rest in_word.1 gap)

EndsInWord-after : (x y : List ℕ) → EndsInWord y → EndsInWord (x ++ y)
EndsInWord-after x y e = (x ++ e.0, e.1, e.2, ap (λ (t : List ℕ). x ++ t) e.3 ∙ sym (append_assoc x e.0 (e.1 ∷ [])))

EndsInWord-word : (first : ℕ) (word : List ℕ) → AreInWord (first ∷ word) → EndsInWord (first ∷ word)
EndsInWord-word first [] in_word = ([], first, in_word.0, refl)
EndsInWord-word first (b ∷ word) in_word = EndsInWord-after (first ∷ []) (b ∷ word) (EndsInWord-word b word in_word.1)

IsAfter-of : (following : List ℕ) (last : Bool) (end : Type 0) → IsAfterWord following last end → IsAfter following end
IsAfter-of following true end past = inr past
IsAfter-of following false end past = inl past

gap_after : (following : List ℕ) (last : Bool) (end : Type 0) (more : List ℕ) → IsAfterWord following last end → last ≡ false → at_gap (following ++ more) ≡ true
gap_after following true end more past is = absurd (let h : true ≡ false = is in cc)
gap_after following false end more past is = ap (λ (b : List ℕ). at_gap (b ++ more)) past.2 ∙ past.1

words_after : (following : List ℕ) (last : Bool) (end : Type 0) (more : List ℕ) → IsAfterWord following last end → last ≡ false → words_of (following ++ more) ≡ words_of more
words_after following true end more past is = absurd (let h : true ≡ false = is in cc)
words_after following false end more past is = ap (λ (b : List ℕ). words_of (b ++ more)) past.2 ∙ chosen-true (is_blank past.0) _ _ past.1

-- the words, the next word's bytes in front of what follows
words_of-taken : (given more : List ℕ) (last : Bool) (end : Type 0) (t : TakesWord given last end) → last ≡ false → words_of (given ++ more) ≡ (t.first ∷ t.rest) ∷ words_of more
words_of-taken given more last end t is =
    ap (λ (g : List ℕ). words_of (g ++ more)) t.whole
    ∙ ap words_of (append_assoc t.blanks ((t.first ∷ t.rest) ++ t.following) more)
    ∙ words_of-blanks t.blanks (((t.first ∷ t.rest) ++ t.following) ++ more) t.are_blank
    ∙ ap words_of (append_assoc (t.first ∷ t.rest) t.following more)
    ∙ words_of-word t.first t.rest (t.following ++ more) t.in_word (gap_after t.following last end more t.past is)
    ∙ ap (λ (w : List (List ℕ)). (t.first ∷ t.rest) ∷ w) (words_after t.following last end more t.past is)

-- a word alone, after blanks
words_of-alone : (given : List ℕ) (last : Bool) (end : Type 0) (t : TakesWord given last end) → words_of (t.blanks ++ (t.first ∷ t.rest)) ≡ (t.first ∷ t.rest) ∷ []
words_of-alone given last end t =
    words_of-blanks t.blanks (t.first ∷ t.rest) t.are_blank
    ∙ ap (λ (w : List ℕ). words_of w) (sym (append-nil (t.first ∷ t.rest)))
    ∙ words_of-word t.first t.rest [] t.in_word refl

-- what was taken ends with the word
pub TakesWords-word : (front given : List ℕ) (last : Bool) (end : Type 0) (before : List (List ℕ)) (t : TakesWord given last end) → IsParted front → words_of front ≡ before →
    TakesWords (front ++ given) end (before ++ (t.first ∷ t.rest) ∷ [])
TakesWords-word front given last end before t parted are = record {
  text = front ++ (t.blanks ++ (t.first ∷ t.rest));
  following = t.following;
  whole = ap (λ (g : List ℕ). front ++ g) (t.whole ∙ sym (append_assoc t.blanks (t.first ∷ t.rest) t.following)) ∙ sym (append_assoc front (t.blanks ++ (t.first ∷ t.rest)) t.following);
  are = parted (t.blanks ++ (t.first ∷ t.rest)) ∙ ap (λ (w : List (List ℕ)). w ++ words_of (t.blanks ++ (t.first ∷ t.rest))) are ∙ ap (λ (w : List (List ℕ)). before ++ w) (words_of-alone given last end t);
  ends = EndsInWord-after front (t.blanks ++ (t.first ∷ t.rest)) (EndsInWord-after t.blanks (t.first ∷ t.rest) (EndsInWord-word t.first t.rest t.in_word));
  past = IsAfter-of t.following last end t.past;
}

-- and where a blank is after it, its words are parted from those that follow
pub IsParted-word : (front given : List ℕ) (last : Bool) (end : Type 0) (before : List (List ℕ)) (t : TakesWord given last end) → IsParted front → words_of front ≡ before → last ≡ false →
    (words_of (front ++ given) ≡ before ++ (t.first ∷ t.rest) ∷ []) × IsParted (front ++ given)
IsParted-word front given last end before t parted are is =
    let word = t.first ∷ t.rest in
    let these : (more : List ℕ) → words_of ((front ++ given) ++ more) ≡ (before ++ word ∷ []) ++ words_of more = λ more.
    ap words_of (append_assoc front given more) ∙ parted (given ++ more) ∙ ap (λ (w : List (List ℕ)). w ++ words_of (given ++ more)) are
    ∙ ap (λ (w : List (List ℕ)). before ++ w) (words_of-taken given more last end t is) ∙ sym (append_assoc before (word ∷ []) (words_of more)) in
    let own : words_of (front ++ given) ≡ before ++ word ∷ [] =
    ap words_of (sym (append-nil (front ++ given))) ∙ these [] ∙ append-nil (before ++ word ∷ []) in
    (own, λ more. these more ∙ ap (λ (w : List (List ℕ)). w ++ words_of more) (sym own))

-- Where the text ends right after the word, the bytes taken end with it.
pub words_of-last : (front given : List ℕ) (end : Type 0) (before : List (List ℕ)) (t : TakesWord given true end) → IsParted front → words_of front ≡ before →
    words_of (front ++ given) ≡ before ++ (t.first ∷ t.rest) ∷ []
words_of-last front given end before t parted are =
    let word = t.first ∷ t.rest in
    parted given ∙ ap (λ (w : List (List ℕ)). w ++ words_of given) are
    ∙ ap (λ (g : List ℕ). before ++ words_of g) (t.whole ∙ ap (λ (b : List ℕ). t.blanks ++ (word ++ b)) t.past.0 ∙ ap (λ (w : List ℕ). t.blanks ++ w) (append-nil word))
    ∙ ap (λ (w : List (List ℕ)). before ++ w) (words_of-alone given true end t)

-- blanks add no words
pub words_of-more_blanks : (front blanks : List ℕ) (before : List (List ℕ)) → IsParted front → words_of front ≡ before → AreBlank blanks → words_of (front ++ blanks) ≡ before
words_of-more_blanks front blanks before parted are blank =
    parted blanks ∙ ap (λ (w : List (List ℕ)). w ++ words_of blanks) are
    ∙ ap (λ (b : List ℕ). before ++ words_of b) (sym (append-nil blanks)) ∙ ap (λ (w : List (List ℕ)). before ++ w) (words_of-blanks blanks [] blank) ∙ append-nil before

bool_cases : (b : Bool) → (b ≡ true) ⊎ (b ≡ false)
bool_cases true = inl refl
bool_cases false = inr refl

onto_some : (b : ℕ) (words : List (List ℕ)) → (w : List ℕ) × (ws : List (List ℕ)) × (onto_first b words ≡ w ∷ ws)
onto_some b [] = (b ∷ [], [], refl)
onto_some b (w ∷ ws) = (b ∷ w, ws, refl)

words-some : (d : ℕ) (x : List ℕ) → is_blank d ≡ false → (w : List ℕ) × (ws : List (List ℕ)) × (words_of (d ∷ x) ≡ w ∷ ws)
words-some d x inside = elim (bool_cases (at_gap x)) [
  | inl gap ↦ (d ∷ [], words_of x, chosen-false (is_blank d) _ _ inside ∙ chosen-true (at_gap x) _ _ gap)
  | inr on ↦ let h = onto_some d (words_of x) in (h.0, h.1, chosen-false (is_blank d) _ _ inside ∙ chosen-false (at_gap x) _ _ on ∙ h.2)
]

onto-append : (b : ℕ) (words more : List (List ℕ)) (w : List ℕ) (ws : List (List ℕ)) → words ≡ w ∷ ws → onto_first b (words ++ more) ≡ onto_first b words ++ more
onto-append b words more w ws is = ap (λ (l : List (List ℕ)). onto_first b (l ++ more)) is ∙ ap (λ (l : List (List ℕ)). onto_first b l ++ more) (sym is)

-- a gap parts the words
pub words_parted : (x y : List ℕ) → at_gap y ≡ true → words_of (x ++ y) ≡ words_of x ++ words_of y
words_parted [] y gap = refl
words_parted (b ∷ []) y gap = elim (bool_cases (is_blank b)) [
  | inl blank ↦ chosen-true (is_blank b) _ _ blank ∙ ap (λ (l : List (List ℕ)). l ++ words_of y) (sym (chosen-true (is_blank b) [] ((b ∷ []) ∷ []) blank))
  | inr inside ↦ chosen-false (is_blank b) _ _ inside ∙ chosen-true (at_gap y) _ _ gap ∙ ap (λ (l : List (List ℕ)). l ++ words_of y) (sym (chosen-false (is_blank b) [] ((b ∷ []) ∷ []) inside))
]
words_parted (b ∷ d ∷ x) y gap = elim (bool_cases (is_blank b)) [
  | inl blank ↦ chosen-true (is_blank b) _ _ blank ∙ words_parted (d ∷ x) y gap ∙ ap (λ (l : List (List ℕ)). l ++ words_of y) (sym (chosen-true (is_blank b) (words_of (d ∷ x)) _ blank))
  | inr inside ↦ elim (bool_cases (is_blank d)) [
    | inl blank ↦ chosen-false (is_blank b) _ _ inside ∙ chosen-true (is_blank d) _ _ blank ∙ ap (λ (l : List (List ℕ)). (b ∷ []) ∷ l) (words_parted (d ∷ x) y gap)
        ∙ ap (λ (l : List (List ℕ)). l ++ words_of y) (sym (chosen-false (is_blank b) _ _ inside ∙ chosen-true (is_blank d) ((b ∷ []) ∷ words_of (d ∷ x)) _ blank))
    | inr within ↦ let h = words-some d x within in
        chosen-false (is_blank b) _ _ inside ∙ chosen-false (is_blank d) _ _ within ∙ ap (onto_first b) (words_parted (d ∷ x) y gap) ∙ onto-append b (words_of (d ∷ x)) (words_of y) h.0 h.1 h.2
        ∙ ap (λ (l : List (List ℕ)). l ++ words_of y) (sym (chosen-false (is_blank b) _ _ inside ∙ chosen-false (is_blank d) _ (onto_first b (words_of (d ∷ x))) within))
  ]
]

-- the words that were taken, and those that are left
pub words_left : (text following left : List ℕ) (end : Type 0) (words : List (List ℕ)) → words_of text ≡ words → IsAfter following end → (end → left ≡ []) → words_of ((text ++ following) ++ left) ≡ words ++ words_of left
words_left text following left end words are (inl p) over =
    ap words_of (append_assoc text following left) ∙ ap (λ (b : List ℕ). words_of (text ++ (b ++ left))) p.2
    ∙ words_parted text (p.0 ∷ left) p.1 ∙ ap (λ (l : List (List ℕ)). l ++ words_of (p.0 ∷ left)) are ∙ ap (λ (l : List (List ℕ)). words ++ l) (chosen-true (is_blank p.0) _ _ p.1)
words_left text following left end words are (inr p) over =
    let none : left ≡ [] = over p.1 in
    ap (λ (l : List ℕ). words_of ((text ++ following) ++ l)) none ∙ ap words_of (append-nil (text ++ following)) ∙ ap (λ (b : List ℕ). words_of (text ++ b)) p.0 ∙ ap words_of (append-nil text) ∙ are
    ∙ sym (ap (λ (l : List ℕ). words ++ words_of l) none ∙ append-nil words)

pub words_of-all : (all taken left : List ℕ) (end : Type 0) (words : List (List ℕ)) → all ≡ taken ++ left → TakesWords taken end words → (end → left ≡ []) → words_of all ≡ words ++ words_of left
words_of-all all taken left end words is t over =
    ap words_of (is ∙ ap (λ (l : List ℕ). l ++ left) t.whole) ∙ words_left t.text t.following left end words t.are t.past over

pub words_of-ended : (all taken left : List ℕ) → all ≡ taken ++ left → left ≡ [] → words_of all ≡ words_of taken
words_of-ended all taken left is none = ap words_of (is ∙ ap (λ (l : List ℕ). taken ++ l) none ∙ append-nil taken)

-- the bytes taken and those left
pub known : (all : List ℕ) (new : Option (List ℕ)) (taken : List ℕ) → Consumes (Some all) new taken → (left : List ℕ) × (new ≡ Some left) × (all ≡ taken ++ left)
known all None taken is = absurd is
known all (Some left) taken is = (left, refl, is)

pub nothing_left_at : (all taken left : List ℕ) (new : Option (List ℕ)) (ended : Bool) → length all < INPUT_BYTES → all ≡ taken ++ left → new ≡ Some left → (IsTrue ended → NothingLeft new) → AtEnd ended (length taken) → left ≡ []
nothing_left_at all taken left new ended short is known reported (inl e) = reported e left known
nothing_left_at all taken left new ended short is known reported (inr e) = absurd (omega (arith, short, e, ap (λ (l : List ℕ). length l) is, length-append taken left))

more_words : (front given : List ℕ) (last : Bool) (d end : Type 0) (words : List (List ℕ)) (t : TakesWord given last end) → (d → ⊥) → TakesSome front d words → TakesWords (front ++ given) end (words ++ (t.first ∷ t.rest) ∷ [])
more_words front given last d end words t unended (inl none) =
    subst (λ (f : List ℕ). TakesWords (f ++ given) end (words ++ (t.first ∷ t.rest) ∷ [])) (sym none.0)
    (TakesWords-word [] given last end words t IsParted-empty (sym none.1))
more_words front given last d end words t unended (inr s) =
    let word = t.first ∷ t.rest in
    record {
      text = (s.text ++ s.following) ++ (t.blanks ++ word);
      following = t.following;
      whole = ap (λ (f : List ℕ). f ++ given) s.whole ∙ ap (λ (g : List ℕ). (s.text ++ s.following) ++ g) (t.whole ∙ sym (append_assoc t.blanks word t.following)) ∙ sym (append_assoc (s.text ++ s.following) (t.blanks ++ word) t.following);
      are = words_left s.text s.following (t.blanks ++ word) d words s.are s.past (λ at. absurd (unended at)) ∙ ap (λ (w : List (List ℕ)). words ++ w) (words_of-alone given last end t);
      ends = EndsInWord-after (s.text ++ s.following) (t.blanks ++ word) (EndsInWord-after t.blanks word (EndsInWord-word t.first t.rest t.in_word));
      past = IsAfter-of t.following last end t.past;
    }

only_blanks : (blanks : List ℕ) → AreBlank blanks → words_of blanks ≡ []
only_blanks blanks are = ap words_of (sym (append-nil blanks)) ∙ words_of-blanks blanks [] are

more_blanks : (front given : List ℕ) (d : Type 0) (words : List (List ℕ)) → AreBlank given → (d → given ≡ []) → TakesSome front d words → words_of (front ++ given) ≡ words
more_blanks front given d words are stays (inl none) = ap (λ (f : List ℕ). words_of (f ++ given)) none.0 ∙ only_blanks given are ∙ sym none.1
more_blanks front given d words are stays (inr s) =
    ap (λ (f : List ℕ). words_of (f ++ given)) s.whole ∙ words_left s.text s.following given d words s.are s.past stays
    ∙ ap (λ (w : List (List ℕ)). words ++ w) (only_blanks given are) ∙ append-nil words

-- a word more was taken
pub Reads-word : (old a b : Option (List ℕ)) (e f : Bool) (m k : ℕ) (words : List (List ℕ)) (given : List ℕ) (last : Bool) (t : TakesWord given last (AtEnd f k)) → Reads old a e m words →
    (IsTrue e → ⊥) → Consumes a b given → k ≡ m + length given → k ≤ INPUT_BYTES → Reads old b f k (words ++ (t.first ∷ t.rest) ∷ [])
Reads-word old a b e f m k words given last t reads goes_on more count within =
    let word = t.first ∷ t.rest in
    let some : 0 < length given = omega (arith, ap (λ (l : List ℕ). length l) t.whole, length-append t.blanks (word ++ t.following)) in
    let unended : AtEnd e m → ⊥ = λ at. elim at [ inl reported ↦ goes_on reported | inr full ↦ absurd (omega (arith, some, full, count, within)) ] in (
      reads.0 ++ given,
      Consumes-trans old a b reads.0 given reads.1 more,
      omega (arith, length-append reads.0 given, reads.2, count),
      inr (more_words reads.0 given last (AtEnd e m) (AtEnd f k) words t unended reads.3),
    )

-- only blanks more were taken
pub Reads-end : (old a b : Option (List ℕ)) (e f : Bool) (m k : ℕ) (words : List (List ℕ)) (given : List ℕ) → Reads old a e m words → AreBlank given → AtEnd f k →
    Consumes a b given → k ≡ m + length given → (AtEnd e m → given ≡ []) → ReadsAll old b f k words
Reads-end old a b e f m k words given reads blank end more count stays = (
  reads.0 ++ given,
  Consumes-trans old a b reads.0 given reads.1 more,
  omega (arith, length-append reads.0 given, reads.2, count),
  more_blanks reads.0 given (AtEnd e m) words blank stays reads.3,
  end,
)

-- a word in front of a blank
pub words_of-front : (word rest : List ℕ) (b : ℕ) → 0 < length word → AreInWord word → is_blank b ≡ true → words_of (word ++ b ∷ rest) ≡ word ∷ words_of rest
words_of-front [] rest b some in_word blank = absurd (omega (arith, some))
words_of-front (first ∷ word) rest b some in_word blank =
    words_of-word first word (b ∷ rest) in_word blank ∙ ap (λ (w : List (List ℕ)). (first ∷ word) ∷ w) (chosen-true (is_blank b) _ _ blank)

-- blanks more keep a blank at the end
pub EndsInBlank-append : (front blanks : List ℕ) → EndsInBlank front → AreBlank blanks → EndsInBlank (front ++ blanks)
EndsInBlank-append front [] ends are = subst EndsInBlank (sym (append-nil front)) ends
EndsInBlank-append front (b ∷ blanks) ends are =
    subst EndsInBlank (append_assoc front (b ∷ []) blanks) (EndsInBlank-append (front ++ b ∷ []) blanks (inr (front, b, are.0, refl)) are.1)

-- a word with a blank after it
pub EndsInBlank-word : (front given : List ℕ) (last : Bool) (end : Type 0) → TakesWord given last end → last ≡ false → EndsInBlank (front ++ given)
EndsInBlank-word front given true end t is = absurd (let h : true ≡ false = is in cc)
EndsInBlank-word front given false end t is =
    let word = t.first ∷ t.rest in
    inr (
      front ++ (t.blanks ++ word),
      t.past.0,
      t.past.1,
      ap (λ (g : List ℕ). front ++ g) (t.whole ∙ sym (append_assoc t.blanks word t.following) ∙ ap (λ (b : List ℕ). (t.blanks ++ word) ++ b) t.past.2) ∙ sym (append_assoc front (t.blanks ++ word) (t.past.0 ∷ [])),
    )

-- words that were read, where the text goes on
EndsInBlank-some : (taken : List ℕ) (d : Type 0) (words : List (List ℕ)) → (d → ⊥) → TakesSome taken d words → EndsInBlank taken
EndsInBlank-some taken d words unended (inl none) = inl none.0
EndsInBlank-some taken d words unended (inr s) = elim s.past [
  | inl blank ↦ inr (s.text, blank.0, blank.1, s.whole ∙ ap (λ (b : List ℕ). s.text ++ b) blank.2)
  | inr over ↦ absurd (unended over.1)
]

-- the device failed after words that were read
pub Reads-stops : (old a b : Option (List ℕ)) (e : Bool) (m : ℕ) (words : List (List ℕ)) (given : List ℕ) → Reads old a e m words → (AtEnd e m → ⊥) → BeginsWord given → Consumes a b given →
    (taken : List ℕ) × Consumes old b taken × StopsInWord taken words
Reads-stops old a b e m words given reads unended begins gives = (
  reads.0 ++ given,
  Consumes-trans old a b reads.0 given reads.1 gives,
  record {
    front = reads.0 ++ begins.blanks;
    begun = begins.begun;
    whole = ap (λ (g : List ℕ). reads.0 ++ g) begins.whole ∙ sym (append_assoc reads.0 begins.blanks begins.begun);
    are = more_blanks reads.0 begins.blanks (AtEnd e m) words begins.are_blank (λ at. absurd (unended at)) reads.3;
    ends = EndsInBlank-append reads.0 begins.blanks (EndsInBlank-some reads.0 (AtEnd e m) words unended reads.3) begins.are_blank;
    in_word = begins.in_word;
  },
)

-- The words of a text say one thing.
use Rattle.bk_ocode.proofs.Depths.{keeps_in, at_seam, ◌≡◌, ◌≢◌, ◌⊎◌, inl, inr, ℕ, ◌+◌, ◌<◌, ◌≤◌, ◌++◌, true, false, List, [], ◌∷◌, Some, None, length, take, slice_get, if◌then◌else◌, arith, refl, sym, ap, ◌∙◌, subst, append_assoc, append-nil, length-append, cases_lt, take-append_seam, OCODE_WORDS, OcodeKind, BadWord, BadNumber, Truncated, LabelNotSet, LabelSetTwice, DepthsDisagree, SlotAboveDepth, TooLong, keyword, argument_words, stmt_words, section_words, AreTyped, context_of, misplaced, stmt_fault, AreFaultless, IsSection, IsStmt, IsPartial, BeginsStmt, IsBadWord, IsBadNumber, BreaksRule, PassesWords, FaultOf, FaultAt, CutAt, section, nothing, fault, Says, SayOneThing, Outside, Ended, Stmt}
use Rattle.bk_ocode.proofs.DraftLemmas.{fits_behind}
use Rattle.bk_ocode.proofs.FaultLemmas.{words_tally}
use Rattle.bk_ocode.proofs.Rows.{joined-append}
use Rattle.bk_ocode.proofs.SameStmts.{Each, first_same, rests_same, stmt_same, next_row, all_same}

-- of two lists that begin one, the shorter begins the longer
split_front : (a b x y : List (List ℕ)) → a ++ x ≡ b ++ y → length a ≤ length b → (c : List (List ℕ)) × (b ≡ a ++ c) × (x ≡ c ++ y)
split_front [] b x y is short = (b, refl, is)
split_front (v ∷ a) [] x y is short = absurd (omega arith)
split_front (v ∷ a) (w ∷ b) x y is short =
    let r = split_front a b x y (rests_same v w (a ++ x) (b ++ y) is) (omega arith) in
    (r.0, both v w b (a ++ r.0) (first_same v w (a ++ x) (b ++ y) is) r.1, r.2)
  where
    both : (v w : List ℕ) (s t : List (List ℕ)) → v ≡ w → s ≡ t → w ∷ s ≡ v ∷ t
    both v w s t first rest = cc

pub each_stmt : (stmts : List Stmt) → AreFaultless stmts → AreTyped stmts → Each IsStmt stmts
each_stmt stmts are typed k s at = (are.in_range k s at, typed k s at)

-- a statement of those that are without a fault
none_behind : (before all c : List Stmt) (t : Stmt) → AreFaultless all → all ≡ before ++ t ∷ c → stmt_fault before t ≡ None
none_behind before all c t are whole =
    let at : slice_get all (length before) ≡ Some t = ap (λ (l : List Stmt). slice_get l (length before)) whole ∙ at_seam before t c in
    let front : take (length before) all ≡ before = ap (λ (l : List Stmt). take (length before) l) whole ∙ take-append_seam before (t ∷ c) in
    ap (λ (l : List Stmt). stmt_fault l t) (sym front) ∙ are.faultless (length before) t at

snoc : (s : Stmt) (stmts : List Stmt) → (before : List Stmt) × (t : Stmt) × (s ∷ stmts ≡ before ++ t ∷ [])
snoc s [] = ([], s, refl)
snoc s (t ∷ stmts) = let r = snoc t stmts in (s ∷ r.0, r.1, ap (λ (l : List Stmt). s ∷ l) r.2)

-- a statement without a fault keeps the limit of words
fits_words : (before : List Stmt) (t : Stmt) → stmt_fault before t ≡ None → length (section_words before) + length (stmt_words t) ≤ OCODE_WORDS
fits_words before t none = omega (arith, words_tally (context_of before) before refl, (fits_behind before (context_of before) t refl none).1)

words_fit : (stmts : List Stmt) → AreFaultless stmts → length (section_words stmts) ≤ OCODE_WORDS
words_fit [] are = omega arith
words_fit (s ∷ stmts) are =
    let r = snoc s stmts in
    omega (
      arith,
      fits_words r.0 r.1 (none_behind r.0 (s ∷ stmts) [] r.1 are r.2),
      ap (λ (l : List Stmt). length (section_words l)) r.2,
      ap (λ (l : List (List ℕ)). length l) (joined-append stmt_words r.0 (r.1 ∷ [])),
      length-append (section_words r.0) (stmt_words r.1 ++ []),
      length-append (stmt_words r.1) [],
    )

-- no statement is longer than one that begins it
no_longer : (s t : Stmt) (c rest : List (List ℕ)) (w : List ℕ) → IsStmt s → IsStmt t → stmt_words s ≡ stmt_words t ++ (c ++ w ∷ rest) → ⊥
no_longer s t c rest w fits own is =
    let same = (stmt_same s t [] (c ++ w ∷ rest) fits own (append-nil (stmt_words s) ∙ is)).1 in
    omega (arith, ap (λ (l : List (List ℕ)). length l) same, length-append c (w ∷ rest))

-- a statement that is begun is not whole
no_whole : (before : List Stmt) (part c : List (List ℕ)) (t : Stmt) → BeginsStmt before part → IsStmt t → part ≡ stmt_words t ++ c → ⊥
no_whole before part c t begun own is =
    no_longer begun.stmt t c begun.rest begun.word begun.is_stmt own
    (begun.begins ∙ ap (λ (l : List (List ℕ)). l ++ begun.word ∷ begun.rest) is ∙ append_assoc (stmt_words t) c (begun.word ∷ begun.rest))

-- where no statement goes on there is none
no_stmt : (before : List Stmt) (part rest z : List (List ℕ)) (t : Stmt) → IsBadNumber before part → IsStmt t → part ++ rest ≡ stmt_words t ++ z → ⊥
no_stmt before part rest z t f own is = elim (cases_lt (length f.front) (length (stmt_words t))) [
  | inl short ↦
      let c = split_front part (stmt_words t) rest z is (omega (arith, short, ap (λ (l : List (List ℕ)). length l) f.last, length-append f.front (f.word ∷ []))) in
      f.none t c.0 own c.1
  | inr long ↦
      let whole : stmt_words t ++ z ≡ f.front ++ (f.word ∷ rest) = sym is ∙ ap (λ (l : List (List ℕ)). l ++ rest) f.last ∙ append_assoc f.front (f.word ∷ []) rest in
      let c = split_front (stmt_words t) f.front z (f.word ∷ rest) whole long in
      no_whole before f.front c.0 t f.begun own c.1
]

-- a word that begins no statement begins none that is begun
no_partial : (before : List Stmt) (part rest p z : List (List ℕ)) → IsBadWord before part → BeginsStmt before p → 0 < length p → part ++ rest ≡ p ++ z → ⊥
no_partial before part rest [] z f begun some is = omega (arith, some)
no_partial before part rest (v ∷ p) z f begun some is = grind (arith, first_same)

word_of : (before : List Stmt) (part rest z : List (List ℕ)) (t : Stmt) → (f : IsBadWord before part) → part ++ rest ≡ stmt_words t ++ z → misplaced (context_of before) t ≡ true
word_of before part rest z t f is =
    f.misplaced t (sym (first_same f.word (keyword t) rest (argument_words t ++ z) (ap (λ (l : List (List ℕ)). l ++ rest) (sym f.first) ∙ is)))

-- a statement that breaks a rule is the one whose words it has
rule_of : (before : List Stmt) (part rest z : List (List ℕ)) (kind : OcodeKind) (t : Stmt) → (f : BreaksRule before part kind) → IsStmt t → part ++ rest ≡ stmt_words t ++ z → stmt_fault before t ≡ Some kind
rule_of before part rest z kind t f own is =
    let same = (stmt_same f.stmt t rest z f.is_stmt own (ap (λ (l : List (List ℕ)). l ++ rest) (sym f.words) ∙ is)).0 in
    ap (stmt_fault before) (sym same) ∙ f.breaks

-- one that is begun past the limit is no statement without a fault
no_within : (before : List Stmt) (part rest z : List (List ℕ)) (t : Stmt) → PassesWords before part → IsStmt t → length (section_words before) + length (stmt_words t) ≤ OCODE_WORDS + 1 → part ++ rest ≡ stmt_words t ++ z → ⊥
no_within before part rest z t f own few is =
    let c = split_front (stmt_words t) part z rest (sym is) (omega (arith, few, f.past, length-append (section_words before) part)) in
    no_whole before part c.0 t f.begun own c.1

-- The fault of some words by its four forms.
data Form (before : List Stmt) (part : List (List ℕ)) (kind : OcodeKind) : Type 0 where
  bad_word : IsBadWord before part → kind ≡ BadWord → Form before part kind
  bad_number : IsBadNumber before part → kind ≡ BadNumber → Form before part kind
  broken : BreaksRule before part kind → BadWord ≢ kind → Form before part kind
  past_limit : PassesWords before part → kind ≡ TooLong → Form before part kind

form : (before : List Stmt) (part : List (List ℕ)) (kind : OcodeKind) → FaultOf before part kind → Form before part kind
form before part BadWord f = bad_word f refl
form before part BadNumber f = bad_number f refl
form before part Truncated f = absurd f
form before part LabelNotSet f = broken f (λ e. cc)
form before part LabelSetTwice f = broken f (λ e. cc)
form before part DepthsDisagree f = broken f (λ e. cc)
form before part SlotAboveDepth f = broken f (λ e. cc)
form before part TooLong (inl f) = broken f (λ e. cc)
form before part TooLong (inr f) = past_limit f refl

-- where some words have a fault no statement without one stands
clash : (before : List Stmt) (part rest z : List (List ℕ)) (kind : OcodeKind) (t : Stmt) → Form before part kind → IsStmt t → stmt_fault before t ≡ None → part ++ rest ≡ stmt_words t ++ z → ⊥
clash before part rest z kind t (bad_word f reported) own none is =
    let h : true ≡ false = sym (word_of before part rest z t f is) ∙ (keeps_in before (context_of before) t none).place in cc
clash before part rest z kind t (bad_number f reported) own none is = no_stmt before part rest z t f own is
clash before part rest z kind t (broken f other) own none is = let h : Some kind ≡ None = sym (rule_of before part rest z kind t f own is) ∙ none in cc
clash before part rest z kind t (past_limit f reported) own none is = no_within before part rest z t f own (omega (arith, fits_words before t none)) is

passes_some : (before : List Stmt) (part : List (List ℕ)) → AreFaultless before → PassesWords before part → 0 < length part
passes_some before part are f = omega (arith, f.past, words_fit before are, length-append (section_words before) part)

part_some : (before : List Stmt) (part : List (List ℕ)) (kind : OcodeKind) → AreFaultless before → Form before part kind → 0 < length part
part_some before part kind are (bad_word f reported) = omega (arith, ap (λ (l : List (List ℕ)). length l) f.first)
part_some before part kind are (bad_number f reported) = omega (arith, ap (λ (l : List (List ℕ)). length l) f.last, length-append f.front (f.word ∷ []))
part_some before part kind are (broken f other) = omega (arith, ap (λ (l : List (List ℕ)). length l) f.words)
part_some before part kind are (past_limit f reported) = passes_some before part are f

no_word_number : (before : List Stmt) (p x q y : List (List ℕ)) → IsBadWord before p → IsBadNumber before q → p ++ x ≡ q ++ y → ⊥
no_word_number before p x q y f g is =
    no_partial before p x g.front (g.word ∷ y) f g.begun g.some (is ∙ ap (λ (l : List (List ℕ)). l ++ y) g.last ∙ append_assoc g.front (g.word ∷ []) y)

no_word_rule : (before : List Stmt) (p x q y : List (List ℕ)) (kind : OcodeKind) → IsBadWord before p → BreaksRule before q kind → BadWord ≢ kind → p ++ x ≡ q ++ y → ⊥
no_word_rule before p x q y kind f g other is = grind (arith, word_of)

no_word_passes : (before : List Stmt) (p x q y : List (List ℕ)) → AreFaultless before → IsBadWord before p → PassesWords before q → p ++ x ≡ q ++ y → ⊥
no_word_passes before p x q y are f g is = no_partial before p x q y f g.begun (passes_some before q are g) is

no_number_rule : (before : List Stmt) (p x q y : List (List ℕ)) (kind : OcodeKind) → IsBadNumber before p → BreaksRule before q kind → p ++ x ≡ q ++ y → ⊥
no_number_rule before p x q y kind f g is = no_stmt before p x y g.stmt f g.is_stmt (is ∙ ap (λ (l : List (List ℕ)). l ++ y) g.words)

no_number_passes : (before : List Stmt) (p x q y : List (List ℕ)) → IsBadNumber before p → PassesWords before q → p ++ x ≡ q ++ y → ⊥
no_number_passes before p x q y f g is =
    let c = split_front p q x y is (omega (
      arith,
      f.within,
      g.past,
      length-append (section_words before) f.front,
      length-append (section_words before) q,
      ap (λ (l : List (List ℕ)). length l) f.last,
      length-append f.front (f.word ∷ []),
    )) in
    let b = g.begun in
    f.none b.stmt (c.0 ++ b.word ∷ b.rest) b.is_stmt (b.begins ∙ ap (λ (l : List (List ℕ)). l ++ b.word ∷ b.rest) c.1 ∙ append_assoc p c.0 (b.word ∷ b.rest))

no_rule_passes : (before : List Stmt) (p x q y : List (List ℕ)) (kind : OcodeKind) → BreaksRule before p kind → PassesWords before q → p ++ x ≡ q ++ y → ⊥
no_rule_passes before p x q y kind f g is =
    no_within before q y x f.stmt g f.is_stmt
    (omega (arith, f.within, length-append (section_words before) p, ap (λ (l : List (List ℕ)). length l) f.words))
    (sym is ∙ ap (λ (l : List (List ℕ)). l ++ x) f.words)

rules_same : (before : List Stmt) (p x q y : List (List ℕ)) (j k : OcodeKind) → BreaksRule before p j → BreaksRule before q k → p ++ x ≡ q ++ y → j ≡ k
rules_same before p x q y j k f g is =
    let same : Some j ≡ Some k = sym (rule_of before p x y j g.stmt f g.is_stmt (is ∙ ap (λ (l : List (List ℕ)). l ++ y) g.words)) ∙ g.breaks in
    cc

kinds_same : (before : List Stmt) (p x q y : List (List ℕ)) (j k : OcodeKind) → AreFaultless before → Form before p j → Form before q k → p ++ x ≡ q ++ y → j ≡ k
kinds_same before p x q y j k are (bad_word f a) (bad_word g b) is = a ∙ sym b
kinds_same before p x q y j k are (bad_word f a) (bad_number g b) is = absurd (no_word_number before p x q y f g is)
kinds_same before p x q y j k are (bad_word f a) (broken g b) is = absurd (no_word_rule before p x q y k f g b is)
kinds_same before p x q y j k are (bad_word f a) (past_limit g b) is = absurd (no_word_passes before p x q y are f g is)
kinds_same before p x q y j k are (bad_number f a) (bad_word g b) is = absurd (no_word_number before q y p x g f (sym is))
kinds_same before p x q y j k are (bad_number f a) (bad_number g b) is = a ∙ sym b
kinds_same before p x q y j k are (bad_number f a) (broken g b) is = absurd (no_number_rule before p x q y k f g is)
kinds_same before p x q y j k are (bad_number f a) (past_limit g b) is = absurd (no_number_passes before p x q y f g is)
kinds_same before p x q y j k are (broken f a) (bad_word g b) is = absurd (no_word_rule before q y p x j g f a (sym is))
kinds_same before p x q y j k are (broken f a) (bad_number g b) is = absurd (no_number_rule before q y p x j g f (sym is))
kinds_same before p x q y j k are (broken f a) (broken g b) is = rules_same before p x q y j k f g is
kinds_same before p x q y j k are (broken f a) (past_limit g b) is = absurd (no_rule_passes before p x q y j f g is)
kinds_same before p x q y j k are (past_limit f a) (bad_word g b) is = absurd (no_word_passes before q y p x are g f (sym is))
kinds_same before p x q y j k are (past_limit f a) (bad_number g b) is = absurd (no_number_passes before q y p x g f (sym is))
kinds_same before p x q y j k are (past_limit f a) (broken g b) is = absurd (no_rule_passes before q y p x k g f (sym is))
kinds_same before p x q y j k are (past_limit f a) (past_limit g b) is = a ∙ sym b

-- where a text is cut no fault was before
no_cut : (before : List Stmt) (part rest p : List (List ℕ)) (kind : OcodeKind) → AreFaultless before → Form before part kind → BeginsStmt before p → length (section_words before ++ p) ≤ OCODE_WORDS → part ++ rest ≡ p → ⊥
no_cut before part rest p kind are (bad_word f reported) b few is =
    no_partial before part rest p [] f b (omega (arith, ap (λ (l : List (List ℕ)). length l) f.first, ap (λ (l : List (List ℕ)). length l) is, length-append part rest)) (is ∙ sym (append-nil p))
no_cut before part rest p kind are (bad_number f reported) b few is =
    f.none b.stmt (rest ++ b.word ∷ b.rest) b.is_stmt (b.begins ∙ ap (λ (l : List (List ℕ)). l ++ b.word ∷ b.rest) (sym is) ∙ append_assoc part rest (b.word ∷ b.rest))
no_cut before part rest p kind are (broken f other) b few is = no_whole before p rest f.stmt b f.is_stmt (sym is ∙ ap (λ (l : List (List ℕ)). l ++ rest) f.words)
no_cut before part rest p kind are (past_limit f reported) b few is =
    omega (arith, few, f.past, length-append (section_words before) part, length-append (section_words before) p, ap (λ (l : List (List ℕ)). length l) is, length-append part rest)

-- what is cut has no whole statement
cut_whole : (before : List Stmt) (p c : List (List ℕ)) (t : Stmt) → (p ≡ []) ⊎ BeginsStmt before p → IsStmt t → p ≡ stmt_words t ++ c → ⊥
cut_whole before p c t (inl none) own is = omega (arith, ap (λ (l : List (List ℕ)). length l) (sym none ∙ is))
cut_whole before p c t (inr begun) own is = no_whole before p c t begun own is

-- behind the end nothing stands
ended_next : (stmts : List Stmt) (t : Stmt) → (context_of stmts).position ≡ Ended → stmt_fault stmts t ≡ None → ⊥
ended_next stmts t ended none = grind (arith, keeps_in)

-- the statements of both begin the words, those of the second are more
abbrev Next : List Stmt → List Stmt → List (List ℕ) → List (List ℕ) → Type 0
Next a b x y = (t : Stmt) × (c : List Stmt) × (b ≡ a ++ t ∷ c) × IsStmt t × (x ≡ stmt_words t ++ (section_words c ++ y))

meet : (a b : List Stmt) (x y : List (List ℕ)) → Each IsStmt a → Each IsStmt b → section_words a ++ x ≡ section_words b ++ y → Next a b x y ⊎ (Next b a y x ⊎ ((a ≡ b) × (x ≡ y)))
meet a b x y p q is = elim (cases_lt (length a) (length b)) [
  | inl short ↦ inl (next_row Stmt stmt_words IsStmt stmt_same a b x y p q is short)
  | inr long ↦ elim (cases_lt (length b) (length a)) [
    | inl short ↦ inr (inl (next_row Stmt stmt_words IsStmt stmt_same b a y x q p (sym is) short))
    | inr same ↦ inr (inr (all_same Stmt stmt_words IsStmt stmt_same a b x y p q is (omega (arith, long, same))))
  ]
]

each_partial : (stmts : List Stmt) → IsPartial stmts → Each IsStmt stmts
each_partial stmts begun = each_stmt stmts begun.are_faultless begun.are_typed

sections_same : (a b : List Stmt) (x y : List (List ℕ)) → IsSection a → AreTyped a → IsSection b → AreTyped b → section_words a ++ x ≡ section_words b ++ y → a ≡ b
sections_same a b x y p v q w is = elim (meet a b x y (each_stmt a p.are_faultless v) (each_stmt b q.are_faultless w) is) [
  | inl n ↦ absurd (ended_next a n.0 p.ended (none_behind a b n.1 n.0 q.are_faultless n.2))
  | inr r ↦ elim r [
    | inl n ↦ absurd (ended_next b n.0 q.ended (none_behind b a n.1 n.0 p.are_faultless n.2))
    | inr same ↦ same.0
  ]
]

section_some : (stmts : List Stmt) (rest : List (List ℕ)) → IsSection stmts → [] ≡ section_words stmts ++ rest → ⊥
section_some [] rest whole is = let h : Outside ≡ Ended = whole.ended in cc
section_some (s ∷ stmts) rest whole is =
    omega (arith, ap (λ (l : List (List ℕ)). length l) is, length-append (section_words (s ∷ stmts)) rest, length-append (stmt_words s) (section_words stmts))

section_begun : (a b : List Stmt) → IsPartial a → IsSection b → a ≡ b → ⊥
section_begun a b begun whole same = begun.goes_on (ap (λ (l : List Stmt). (context_of l).position) same ∙ whole.ended)

section_fault : (stmts : List Stmt) (number : ℕ) (kind : OcodeKind) (words : List (List ℕ)) → Says (section stmts) words → Says (fault number kind) words → ⊥
section_fault stmts number kind words s (inl f) = elim (meet f.before stmts (f.part ++ f.rest) s.0 (each_partial f.before f.begun) (each_stmt stmts s.1.are_faultless s.2) (sym f.are ∙ s.3)) [
  | inl n ↦ clash f.before f.part f.rest _ kind n.0 (form f.before f.part kind f.fault) n.3 (none_behind f.before stmts n.1 n.0 s.1.are_faultless n.2) n.4
  | inr r ↦ elim r [
    | inl n ↦ ended_next stmts n.0 s.1.ended (none_behind stmts f.before n.1 n.0 f.begun.are_faultless n.2)
    | inr same ↦ section_begun f.before stmts f.begun s.1 same.0
  ]
]
section_fault stmts number kind words s (inr p) =
    let f = p.1 in
    elim (meet f.before stmts f.part s.0 (each_partial f.before f.begun) (each_stmt stmts s.1.are_faultless s.2) (sym f.are ∙ s.3)) [
      | inl n ↦ cut_whole f.before f.part _ n.0 f.goes_on n.3 n.4
      | inr r ↦ elim r [
        | inl n ↦ ended_next stmts n.0 s.1.ended (none_behind stmts f.before n.1 n.0 f.begun.are_faultless n.2)
        | inr same ↦ section_begun f.before stmts f.begun s.1 same.0
      ]
    ]

nothing_fault : (number : ℕ) (kind : OcodeKind) (words : List (List ℕ)) → words ≡ [] → Says (fault number kind) words → ⊥
nothing_fault number kind words none (inl f) =
    omega (
      arith,
      part_some f.before f.part kind f.begun.are_faultless (form f.before f.part kind f.fault),
      ap (λ (l : List (List ℕ)). length l) (sym none ∙ f.are),
      length-append (section_words f.before) (f.part ++ f.rest),
      length-append f.part f.rest,
    )
nothing_fault number kind words none (inr p) = omega (arith, p.1.some, ap (λ (l : List (List ℕ)). length l) none)

fault_cut : (m n : ℕ) (j : OcodeKind) (words : List (List ℕ)) → FaultAt words m j → CutAt words n → ⊥
fault_cut m n j words f g = elim (meet f.before g.before (f.part ++ f.rest) g.part (each_partial f.before f.begun) (each_partial g.before g.begun) (sym f.are ∙ g.are)) [
  | inl t ↦ clash f.before f.part f.rest _ j t.0 (form f.before f.part j f.fault) t.3 (none_behind f.before g.before t.1 t.0 g.begun.are_faultless t.2) t.4
  | inr r ↦ elim r [
    | inl t ↦ cut_whole g.before g.part _ t.0 g.goes_on t.3 t.4
    | inr same ↦ elim g.goes_on [
      | inl none ↦ omega (
        arith,
        part_some f.before f.part j f.begun.are_faultless (form f.before f.part j f.fault),
        ap (λ (l : List (List ℕ)). length l) (same.1 ∙ none),
        length-append f.part f.rest,
      )
      | inr begun ↦ no_cut f.before f.part f.rest g.part j f.begun.are_faultless (form f.before f.part j f.fault) (subst (λ (l : List Stmt). BeginsStmt l g.part) (sym same.0) begun)
          (omega (arith, g.within, ap (λ (l : List (List ℕ)). length l) g.are, ap (λ (l : List Stmt). length (section_words l ++ g.part)) same.0)) same.1
    ]
  ]
]

faults_same : (m n : ℕ) (j k : OcodeKind) (words : List (List ℕ)) → FaultAt words m j → FaultAt words n k → (m ≡ n) × (j ≡ k)
faults_same m n j k words f g = elim (meet f.before g.before (f.part ++ f.rest) (g.part ++ g.rest) (each_partial f.before f.begun) (each_partial g.before g.begun) (sym f.are ∙ g.are)) [
  | inl t ↦ absurd (clash f.before f.part f.rest _ j t.0 (form f.before f.part j f.fault) t.3 (none_behind f.before g.before t.1 t.0 g.begun.are_faultless t.2) t.4)
  | inr r ↦ elim r [
    | inl t ↦ absurd (clash g.before g.part g.rest _ k t.0 (form g.before g.part k g.fault) t.3 (none_behind g.before f.before t.1 t.0 f.begun.are_faultless t.2) t.4)
    | inr same ↦ (
      f.place ∙ ap (λ (l : List Stmt). length l + 1) same.0 ∙ sym g.place,
      kinds_same f.before f.part f.rest g.part g.rest j k f.begun.are_faultless (form f.before f.part j f.fault)
          (subst (λ (l : List Stmt). Form l g.part k) (sym same.0) (form g.before g.part k g.fault)) same.1,
    )
  ]
]

cuts_same : (words : List (List ℕ)) (m n : ℕ) → CutAt words m → CutAt words n → m ≡ n
cuts_same words m n f g = elim (meet f.before g.before f.part g.part (each_partial f.before f.begun) (each_partial g.before g.begun) (sym f.are ∙ g.are)) [
  | inl t ↦ absurd (cut_whole f.before f.part _ t.0 f.goes_on t.3 t.4)
  | inr r ↦ elim r [
    | inl t ↦ absurd (cut_whole g.before g.part _ t.0 g.goes_on t.3 t.4)
    | inr same ↦ f.place ∙ ap (λ (l : List Stmt). length l + 1) same.0 ∙ sym g.place
  ]
]

one_fault : (m n : ℕ) (j k : OcodeKind) (words : List (List ℕ)) → Says (fault m j) words → Says (fault n k) words → (m ≡ n) × (j ≡ k)
one_fault m n j k words (inl f) (inl g) = faults_same m n j k words f g
one_fault m n j k words (inl f) (inr g) = absurd (fault_cut m n j words f g.1)
one_fault m n j k words (inr f) (inl g) = absurd (fault_cut n m k words g f.1)
one_fault m n j k words (inr f) (inr g) = (cuts_same words m n f.1 g.1, f.0 ∙ sym g.0)

pub one_saying : SayOneThing
one_saying words (section a) (section b) s t = ap section (sections_same a b s.0 t.0 s.1 s.2 t.1 t.2 (sym s.3 ∙ t.3))
one_saying words (section a) nothing s t = absurd (section_some a s.0 s.1 (sym t ∙ s.3))
one_saying words (section a) (fault n k) s t = absurd (section_fault a n k words s t)
one_saying words nothing (section b) s t = absurd (section_some b t.0 t.1 (sym s ∙ t.3))
one_saying words nothing nothing s t = refl
one_saying words nothing (fault n k) s t = absurd (nothing_fault n k words s t)
one_saying words (fault m j) (section b) s t = absurd (section_fault b m j words t s)
one_saying words (fault m j) nothing s t = absurd (nothing_fault m j words t s)
one_saying words (fault m j) (fault n k) s t = let h = one_fault m n j k words s t in ap (λ i. fault i j) h.0 ∙ ap (λ i. fault n i) h.1

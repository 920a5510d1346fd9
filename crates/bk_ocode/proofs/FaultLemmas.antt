-- The first fault of a text, from what was read of it.
use Rattle.bk_ocode.proofs.Terms.{◌≡◌, ◌≢◌, ◌⊎◌, inl, inr, ℕ, ◌+◌, ◌<◌, ◌≤◌, ◌++◌, Bool, true, false, List, [], ◌∷◌, Option, Some, None, Result, Ok, Err, length, nat_lt, if◌then◌else◌, arith, ltb-false, refl, sym, ◌∙◌, ap, subst, length-append, append_assoc, OCODE_WORDS, OcodeKind, BadWord, BadNumber, Truncated, LabelNotSet, LabelSetTwice, DepthsDisagree, SlotAboveDepth, TooLong, AtEnd, TakesWords, TakesSome, Reads, ReadsAll, keyword, argument_words, stmt_words, section_words, Context, at_start, after, after_all, context_of, misplaced, label_not_set, label_set_twice, depths_disagree, slot_above, too_long, fault_in, stmt_fault, IsPartial, IsStmt, BeginsStmt, FaultOf, Takes, GivesFault, StopsAtWord, Answers, cases_lt, OcodeFault, Refused, Fault, owner_words, partial_words, part_words, BeginNone, refusal, Owner, Partial, Unfit, Ocode, Stmt, Owner as owners, Partial as begun, Unfit as unfits}
use Rattle.bk_ocode.proofs.ReadingLemmas.{nothing_left, some_taken}

some_if : (b : Bool) (x k : OcodeKind) (r : Option OcodeKind) → (if b then Some x else r) ≡ Some k → ((b ≡ true) × (x ≡ k)) ⊎ ((b ≡ false) × (r ≡ Some k))
some_if true x k r e = inl (refl, cc)
some_if false x k r e = inr (refl, e)

-- the rules have no other faults
pub no_rule : (before : List Stmt) (c : Context) (s : Stmt) (kind : OcodeKind) → misplaced c s ≡ false → fault_in before c s ≡ Some kind → (BadWord ≢ kind) × (BadNumber ≢ kind) × (Truncated ≢ kind)
no_rule before c s kind placed is = elim (some_if (misplaced c s) BadWord kind _ is) [
  | inl p ↦ absurd (let h : true ≡ false = sym p.0 ∙ placed in cc)
  | inr p ↦ elim (some_if (label_not_set before c s) LabelNotSet kind _ p.1) [
    | inl q ↦ ((λ e. let h : BadWord ≡ LabelNotSet = e ∙ sym q.1 in cc), (λ e. let h : BadNumber ≡ LabelNotSet = e ∙ sym q.1 in cc), (λ e. let h : Truncated ≡ LabelNotSet = e ∙ sym q.1 in cc))
    | inr q ↦ elim (some_if (label_set_twice c s) LabelSetTwice kind _ q.1) [
      | inl r ↦ ((λ e. let h : BadWord ≡ LabelSetTwice = e ∙ sym r.1 in cc), (λ e. let h : BadNumber ≡ LabelSetTwice = e ∙ sym r.1 in cc), (λ e. let h : Truncated ≡ LabelSetTwice = e ∙ sym r.1 in cc))
      | inr r ↦ elim (some_if (depths_disagree c s) DepthsDisagree kind _ r.1) [
        | inl t ↦ ((λ e. let h : BadWord ≡ DepthsDisagree = e ∙ sym t.1 in cc), (λ e. let h : BadNumber ≡ DepthsDisagree = e ∙ sym t.1 in cc), (λ e. let h : Truncated ≡ DepthsDisagree = e ∙ sym t.1 in cc))
        | inr t ↦ elim (some_if (slot_above c s) SlotAboveDepth kind _ t.1) [
          | inl u ↦ ((λ e. let h : BadWord ≡ SlotAboveDepth = e ∙ sym u.1 in cc), (λ e. let h : BadNumber ≡ SlotAboveDepth = e ∙ sym u.1 in cc), (λ e. let h : Truncated ≡ SlotAboveDepth = e ∙ sym u.1 in cc))
          | inr u ↦ elim (some_if (too_long c s) TooLong kind None u.1) [
            | inl v ↦ ((λ e. let h : BadWord ≡ TooLong = e ∙ sym v.1 in cc), (λ e. let h : BadNumber ≡ TooLong = e ∙ sym v.1 in cc), (λ e. let h : Truncated ≡ TooLong = e ∙ sym v.1 in cc))
            | inr v ↦ absurd (let h : None ≡ Some kind = v.1 in cc)
          ]
        ]
      ]
    ]
  ]
]

rule_told : (before : List Stmt) (s : Stmt) (part : List (List ℕ)) (kind : OcodeKind) → IsStmt s → stmt_words s ≡ part → length (section_words before ++ part) ≤ OCODE_WORDS + 1 → (BadWord ≢ kind) × (BadNumber ≢ kind) × (Truncated ≢ kind) → stmt_fault before s ≡ Some kind → FaultOf before part kind
rule_told before s part BadWord fits words few others is = absurd (others.0 refl)
rule_told before s part BadNumber fits words few others is = absurd (others.1 refl)
rule_told before s part Truncated fits words few others is = absurd (others.2 refl)
rule_told before s part TooLong fits words few others is = inl (record { stmt = s; is_stmt = fits; words = sym words; within = few; breaks = is })
rule_told before s part x fits words few others is = record { stmt = s; is_stmt = fits; words = sym words; within = few; breaks = is }

taken_some : (taken : List ℕ) (end : Type 0) (words : List (List ℕ)) → 0 < length words → TakesSome taken end words → TakesWords taken end words
taken_some taken end words some (inl p) = absurd (omega (arith, some, ap (λ (l : List (List ℕ)). length l) p.1))
taken_some taken end words some (inr t) = t

-- a fault that is told of these words
pub told_at : (old b : Option (List ℕ)) (f : Bool) (k number : ℕ) (kind : OcodeKind) (stmts : List Stmt) (part : List (List ℕ)) → IsPartial stmts → number ≡ length stmts + 1 → 0 < length part →
    Reads old b f k (section_words stmts ++ part) → FaultOf stmts part kind → Takes old b f (λ taken end. GivesFault taken end number kind)
told_at old b f k number kind stmts part begun place some reads fault = grind (arith, begun, taken_some, length-append)

-- the fault of a rule
pub rule_at : (old b : Option (List ℕ)) (f : Bool) (k number : ℕ) (kind : OcodeKind) (stmts : List Stmt) (part : List (List ℕ)) (w : List ℕ) (s : Stmt) → IsPartial stmts → number ≡ length stmts + 1 →
    Reads old b f k ((section_words stmts ++ part) ++ w ∷ []) → IsStmt s → stmt_words s ≡ part ++ w ∷ [] → length (section_words stmts) + length part ≤ OCODE_WORDS → misplaced (context_of stmts) s ≡ false → stmt_fault stmts s ≡ Some kind →
    Takes old b f (λ taken end. GivesFault taken end number kind)
rule_at old b f k number kind stmts part w s begun place reads fits words few placed is =
    told_at old b f k number kind stmts (part ++ w ∷ []) begun place (omega (arith, length-append part (w ∷ [])))
    (subst (λ (l : List (List ℕ)). Reads old b f k l) (append_assoc (section_words stmts) part (w ∷ [])) reads)
    (rule_told stmts s (part ++ w ∷ []) kind fits words (omega (arith, few, length-append (section_words stmts) (part ++ w ∷ []), length-append part (w ∷ []))) (no_rule stmts (context_of stmts) s kind placed is) is)

-- too many words
pub filled_at : (old b : Option (List ℕ)) (f : Bool) (k number n m : ℕ) (stmts : List Stmt) (part : List (List ℕ)) → IsPartial stmts → number ≡ length stmts + 1 → n ≡ length (section_words stmts) → m ≡ length part →
    n + m ≡ OCODE_WORDS + 1 → 0 < m → (0 < length part → BeginsStmt stmts part) → Reads old b f k (section_words stmts ++ part) → Takes old b f (λ taken end. GivesFault taken end number TooLong)
filled_at old b f k number n m stmts part begun place all own full some begins reads =
    told_at old b f k number TooLong stmts part begun place (omega (arith, own, some)) reads
    (inr (record { begun = begins (omega (arith, own, some)); past = omega (arith, length-append (section_words stmts) part, all, own, full) }))

-- the text ends
pub cut_at : (old b : Option (List ℕ)) (f : Bool) (k number : ℕ) (stmts : List Stmt) (part : List (List ℕ)) → IsPartial stmts → number ≡ length stmts + 1 → 0 < length (section_words stmts ++ part) →
    length (section_words stmts ++ part) ≤ OCODE_WORDS → (part ≡ []) ⊎ BeginsStmt stmts part → ReadsAll old b f k (section_words stmts ++ part) → Takes old b f (λ taken end. GivesFault taken end number Truncated)
cut_at old b f k number stmts part begun place some few goes_on reads = grind (arith, begun)

-- words of statements are no fewer than the statements
pub many_words : (stmts : List Stmt) → length stmts ≤ length (section_words stmts)
many_words [] = omega arith
many_words (s ∷ rest) = omega (arith, many_words rest, length-append (stmt_words s) (section_words rest))

owner_some : (owner : Owner) (more : List (List ℕ)) → 0 < length (owner_words owner ++ more)
owner_some owners.Text more = omega arith
owner_some (owners.Entry label) more = omega arith

some_of : (owner : Owner) → 0 < length (owner_words owner)
some_of owners.Text = omega arith
some_of (owners.Entry label) = omega arith

pub partial_some : (b : Partial) → 0 < length (partial_words b)
partial_some (begun.Length owner) = some_of owner
partial_some (begun.Bytes owner bytes count) = owner_some owner _
partial_some _ = omega arith

-- what begins with these words may stand there
pub placed_more : (c : Context) (part : Option Partial) (next : List (List ℕ)) (w : List ℕ) → next ≡ part_words part ++ w ∷ [] →
    ((s : Stmt) (rest : List (List ℕ)) → 0 < length (part_words part) → stmt_words s ≡ part_words part ++ rest → misplaced c s ≡ false) →
    (part ≡ None → (s : Stmt) → keyword s ≡ w → misplaced c s ≡ false) → (s : Stmt) (rest : List (List ℕ)) → stmt_words s ≡ next ++ rest → misplaced c s ≡ false
placed_more c None next w is old first s rest words =
    first refl s (let h : keyword s ∷ argument_words s ≡ w ∷ rest = words ∙ ap (λ (l : List (List ℕ)). l ++ rest) is in cc)
placed_more c (Some b) next w is old first s rest words =
    old s (w ∷ rest) (partial_some b) (words ∙ ap (λ (l : List (List ℕ)). l ++ rest) is ∙ append_assoc (partial_words b) (w ∷ []) rest)

after_all-words : (c : Context) (stmts : List Stmt) → (after_all c stmts).words ≡ c.words + length (section_words stmts)
after_all-words c [] = omega arith
after_all-words c (s ∷ rest) = omega (arith, after_all-words (after c s) rest, length-append (stmt_words s) (section_words rest))

pub words_tally : (k : Context) (stmts : List Stmt) → k ≡ context_of stmts → k.words ≡ length (section_words stmts)
words_tally k stmts is = ap (λ (c : Context). c.words) is ∙ omega (arith, after_all-words at_start stmts)

-- the words so far are within the limit
pub words_within : (k : Context) (stmts : List Stmt) (part : List (List ℕ)) (m : ℕ) (filled : Bool) → k ≡ context_of stmts → m ≡ length part → filled ≡ nat_lt OCODE_WORDS (k.words + m) → filled ≡ false →
    length (section_words stmts) + length part ≤ OCODE_WORDS
words_within k stmts part m filled is own reported none = omega (arith, words_tally k stmts is, own, ltb-false OCODE_WORDS (k.words + m) (sym reported ∙ none))

begins_some : (stmts : List Stmt) (part : List (List ℕ)) → (part ≡ []) ⊎ BeginsStmt stmts part → 0 < length part → BeginsStmt stmts part
begins_some stmts part (inl none) some = absurd (omega (arith, some, ap (λ (l : List (List ℕ)). length l) none))
begins_some stmts part (inr begins) some = begins

-- memory was refused at a word
pub stops_at : (old b : Option (List ℕ)) (f : Bool) (k : ℕ) (stmts : List Stmt) (part : List (List ℕ)) (w : List ℕ) → IsPartial stmts →
    Reads old b f k ((section_words stmts ++ part) ++ w ∷ []) → length (section_words stmts) + length part ≤ OCODE_WORDS → (part ≡ []) ⊎ BeginsStmt stmts part → Takes old b f StopsAtWord
stops_at old b f k stmts part w begun reads few goes_on = (
  reads.0,
  reads.1,
  record {
    before = stmts;
    begun = begun;
    part = part;
    goes_on = goes_on;
    within = omega (arith, few, length-append (section_words stmts) part);
    word = w;
    are = subst (λ (l : List (List ℕ)). TakesWords reads.0 (AtEnd f (length reads.0)) l) (append_assoc (section_words stmts) part (w ∷ []))
        (some_taken reads.0 (AtEnd f (length reads.0)) (section_words stmts ++ part) w (subst (λ n. TakesSome reads.0 (AtEnd f n) ((section_words stmts ++ part) ++ w ∷ [])) reads.2 reads.3));
  },
)

-- a word that does not fit
pub refused_at : (old b : Option (List ℕ)) (f : Bool) (k count : ℕ) (stmts : List Stmt) (part : Option Partial) (w : List ℕ) (unfit : Unfit) → IsPartial stmts → count ≡ length stmts →
    Reads old b f k ((section_words stmts ++ part_words part) ++ w ∷ []) → length (section_words stmts) + length (part_words part) ≤ OCODE_WORDS → (part_words part ≡ []) ⊎ BeginsStmt stmts (part_words part) →
    (unfit ≡ unfits.BadNumber → (0 < length (part_words part)) × BeginNone (part_words part ++ w ∷ [])) →
    (unfit ≡ unfits.BadWord → (part ≡ None) × ((s : Stmt) → keyword s ≡ w → misplaced (context_of stmts) s ≡ true)) → Answers (Err (refusal count unfit)) old b f
refused_at old b f k count stmts part w unfits.Memory begun is reads few begins number bad = stops_at old b f k stmts (part_words part) w begun reads few begins
refused_at old b f k count stmts part w unfits.BadNumber begun is reads few begins number bad =
    told_at old b f k (count + 1) BadNumber stmts (part_words part ++ w ∷ []) begun (ap (λ n. n + 1) is) (omega (arith, length-append (part_words part) (w ∷ [])))
    (subst (λ (l : List (List ℕ)). Reads old b f k l) (append_assoc (section_words stmts) (part_words part) (w ∷ [])) reads)
    (record {
      front = part_words part;
      word = w;
      last = refl;
      some = (number refl).0;
      begun = begins_some stmts (part_words part) begins (number refl).0;
      within = omega (arith, few, length-append (section_words stmts) (part_words part));
      none = (number refl).1;
    })
refused_at old b f k count stmts part w unfits.BadWord begun is reads few begins number bad =
    told_at old b f k (count + 1) BadWord stmts (w ∷ []) begun (ap (λ n. n + 1) is) (omega arith)
    (subst (λ (l : List (List ℕ)). Reads old b f k l) (append_assoc (section_words stmts) (part_words part) (w ∷ []) ∙ ap (λ (p : Option Partial). section_words stmts ++ (part_words p ++ w ∷ [])) (bad refl).0) reads)
    (record { word = w; first = refl; misplaced = (bad refl).1 })

-- the text ends
pub end_at : (old b : Option (List ℕ)) (f : Bool) (k count words : ℕ) (stmts : List Stmt) (part : List (List ℕ)) (r : Result (Option Ocode) (Refused OcodeFault)) → IsPartial stmts → count ≡ length stmts → words ≡ length part →
    (count + words ≡ 0 → r ≡ Ok None) → (0 < count + words → r ≡ Err (Fault (record { statement = count + 1; kind = Truncated }))) →
    length (section_words stmts) + length part ≤ OCODE_WORDS → (part ≡ []) ⊎ BeginsStmt stmts part → ReadsAll old b f k (section_words stmts ++ part) → Answers r old b f
end_at old b f k count words stmts part r begun is own none some few goes_on reads = elim (cases_lt 0 (count + words)) [
  | inl low ↦ subst (λ (x : Result (Option Ocode) (Refused OcodeFault)). Answers x old b f) (sym (some low))
      (cut_at old b f k (count + 1) stmts part begun (ap (λ n. n + 1) is) (omega (arith, low, is, own, many_words stmts, length-append (section_words stmts) part)) (omega (arith, few, length-append (section_words stmts) part)) goes_on reads)
  | inr high ↦ subst (λ (x : Result (Option Ocode) (Refused OcodeFault)). Answers x old b f) (sym (none (omega (arith, high))))
      (nothing_left old b f k stmts part (omega (arith, high, is)) (omega (arith, high, own)) reads)
]

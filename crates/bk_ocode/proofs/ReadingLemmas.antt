-- What a text says, one word after another.
use Rattle.bk_words.specs.declared.words.Gathered.{Gathered}
use Rattle.bk_ocode.proofs.CaseLemmas.{at_push, ◌≡◌, ◌≢◌, inl, inr, ℕ, ◌+◌, ◌<◌, ◌≤◌, ◌++◌, Bool, IsTrue, List, [], ◌∷◌, Option, Some, None, length, take, arith, refl, sym, ◌∙◌, ap, subst, length-append, append_assoc, append-nil, take-append-le, take-append_seam, Consumes, INPUT_BYTES, OCODE_STATEMENTS, AtEnd, Holds, IsNextWord, TakesWords, TakesSome, Reads, ReadsAll, Reads-word, Reads-end, stmt_words, section_words, InRange, IsTyped, AreTyped, context_of, stmt_fault, AreFaultless, IsSection, IsPartial, IsStmt, Takes, GivesSection, GivesNothing, Ended, Stmt}
use Rattle.bk_ocode.proofs.Rows.{joined-append}
use Rattle.bk_ocode.proofs.DraftLemmas.{fits_behind}
use Rattle.bk_ocode.proofs.SameStmts.{none_of}

abbrev pub Comes : Option (List ℕ) → Option (List ℕ) → ℕ → ℕ → Bool → Option Gathered → Type 0
Comes b c m k ended found = (given : List ℕ) × Consumes b c given × (k ≡ m + length given) × IsNextWord found given (AtEnd ended k)

-- one word more was read
pub word_read : (old a b : Option (List ℕ)) (e f : Bool) (m k : ℕ) (words : List (List ℕ)) (held : Gathered) → Reads old a e m words → (IsTrue e → ⊥) → Comes a b m k f (Some held) → k ≤ INPUT_BYTES →
    (w : List ℕ) × Holds held w × Reads old b f k (words ++ w ∷ [])
word_read old a b e f m k words held reads goes_on comes within =
    (comes.3.0.first ∷ comes.3.0.rest, comes.3.1, Reads-word old a b e f m k words comes.0 held.last comes.3.0 reads goes_on comes.1 comes.2 within)

-- a word has a byte at least
pub grows : (b c : Option (List ℕ)) (m k : ℕ) (ended : Bool) (held : Gathered) → Comes b c m k ended (Some held) → m < k
grows b c m k ended held n =
    let t = n.3.0 in
    omega (arith, n.2, ap (λ (l : List ℕ). length l) t.whole, length-append t.blanks ((t.first ∷ t.rest) ++ t.following), length-append t.rest t.following)

-- the words of the text are all read
pub all_read : (old a b : Option (List ℕ)) (e f : Bool) (m k : ℕ) (words : List (List ℕ)) → Reads old a e m words → Comes a b m k f None → k ≤ INPUT_BYTES → (IsTrue e → k ≡ m) → ReadsAll old b f k words
all_read old a b e f m k words reads comes within reported =
    Reads-end old a b e f m k words comes.0 reads comes.3.0 comes.3.1 comes.1 comes.2 (λ at. elim at [
      | inl t ↦ none_of comes.0 (omega (arith, reported t, comes.2))
      | inr full ↦ none_of comes.0 (omega (arith, full, comes.2, within))
    ])

section_words-push : (stmts all : List Stmt) (s : Stmt) → all ≡ stmts ++ s ∷ [] → section_words all ≡ section_words stmts ++ stmt_words s
section_words-push stmts all s is =
    ap section_words is ∙ joined-append stmt_words stmts (s ∷ []) ∙ ap (λ (w : List (List ℕ)). section_words stmts ++ w) (append-nil (stmt_words s))

-- the words of one statement more
pub words_more : (stmts all : List Stmt) (s : Stmt) (part : List (List ℕ)) (w : List ℕ) → all ≡ stmts ++ s ∷ [] → stmt_words s ≡ part ++ w ∷ [] → (section_words stmts ++ part) ++ w ∷ [] ≡ section_words all
words_more stmts all s part w is words =
    append_assoc (section_words stmts) part (w ∷ []) ∙ ap (λ (l : List (List ℕ)). section_words stmts ++ l) (sym words) ∙ sym (section_words-push stmts all s is)

AreFaultless-push : (stmts : List Stmt) (s : Stmt) → AreFaultless stmts → InRange s → stmt_fault stmts s ≡ None → AreFaultless (stmts ++ s ∷ [])
AreFaultless-push stmts s are fits none = record {
  in_range = λ k t is. elim (at_push stmts s k t is) [ inl p ↦ are.in_range k t p.1 | inr p ↦ subst InRange p.1 fits ];
  faultless = λ k t is. elim (at_push stmts s k t is) [
    | inl p ↦ ap (λ (b : List Stmt). stmt_fault b t) (take-append-le k stmts (s ∷ []) (omega (arith, p.0))) ∙ are.faultless k t p.1
    | inr p ↦ ap (λ n. stmt_fault (take n (stmts ++ s ∷ [])) t) p.0 ∙ ap (λ (b : List Stmt). stmt_fault b t) (take-append_seam stmts (s ∷ [])) ∙ ap (stmt_fault stmts) (sym p.1) ∙ none
  ];
}

AreTyped-push : (stmts : List Stmt) (s : Stmt) → AreTyped stmts → IsTyped s → AreTyped (stmts ++ s ∷ [])
AreTyped-push stmts s are fits = λ k t is. elim (at_push stmts s k t is) [ inl p ↦ are k t p.1 | inr p ↦ subst IsTyped p.1 fits ]

pub IsPartial-push : (stmts all : List Stmt) (s : Stmt) → all ≡ stmts ++ s ∷ [] → IsPartial stmts → IsStmt s → stmt_fault stmts s ≡ None → (context_of all).position ≢ Ended → IsPartial all
IsPartial-push stmts all s is begun fits none on = grind (arith, AreFaultless-push, AreTyped-push)

pub IsSection-of : (stmts all : List Stmt) (s : Stmt) → all ≡ stmts ++ s ∷ [] → IsPartial stmts → IsStmt s → stmt_fault stmts s ≡ None → (context_of all).position ≡ Ended → IsSection all
IsSection-of stmts all s is begun fits none ended = grind (arith, AreFaultless-push)

pub AreTyped-of : (stmts all : List Stmt) (s : Stmt) → all ≡ stmts ++ s ∷ [] → IsPartial stmts → IsStmt s → AreTyped all
AreTyped-of stmts all s is begun fits = subst AreTyped (sym is) (AreTyped-push stmts s begun.are_typed fits.1)

-- words that were read end what was taken
pub some_taken : (taken : List ℕ) (end : Type 0) (words : List (List ℕ)) (w : List ℕ) → TakesSome taken end (words ++ w ∷ []) → TakesWords taken end (words ++ w ∷ [])
some_taken taken end words w (inl p) = absurd (omega (arith, ap (λ (l : List (List ℕ)). length l) p.1, length-append words (w ∷ [])))
some_taken taken end words w (inr t) = t

-- the end of a section
pub section_here : (old b : Option (List ℕ)) (f : Bool) (k : ℕ) (stmts all : List Stmt) (s : Stmt) (part : List (List ℕ)) (w : List ℕ) → all ≡ stmts ++ s ∷ [] → IsPartial stmts → IsStmt s → stmt_fault stmts s ≡ None →
    (context_of all).position ≡ Ended → stmt_words s ≡ part ++ w ∷ [] → Reads old b f k ((section_words stmts ++ part) ++ w ∷ []) → Takes old b f (λ taken end. GivesSection taken end all)
section_here old b f k stmts all s part w is begun fits none ended words reads = grind (arith, IsSection-of, AreTyped-of, words_more, some_taken)

-- only blanks were left
pub nothing_left : (old b : Option (List ℕ)) (f : Bool) (k : ℕ) (stmts : List Stmt) (part : List (List ℕ)) → length stmts ≡ 0 → length part ≡ 0 → ReadsAll old b f k (section_words stmts ++ part) → Takes old b f GivesNothing
nothing_left old b f k [] [] none no_part reads = (reads.0, reads.1, (reads.3, subst (λ n. AtEnd f n) reads.2 reads.4))
nothing_left old b f k [] (x ∷ part) none no_part reads = absurd (omega arith)
nothing_left old b f k (s ∷ stmts) part none no_part reads = absurd (omega arith)

pub few_more : (stmts all : List Stmt) (s : Stmt) → all ≡ stmts ++ s ∷ [] → (context_of stmts).count ≡ length stmts → stmt_fault stmts s ≡ None → length all ≤ OCODE_STATEMENTS
few_more stmts all s is count none =
    omega (arith, count, ap (λ (l : List Stmt). length l) is, length-append stmts (s ∷ []), (fits_behind stmts (context_of stmts) s refl none).2)

-- the words of a statement that goes on
pub Reads-more : (old b : Option (List ℕ)) (f : Bool) (k : ℕ) (front part next : List (List ℕ)) (w : List ℕ) → next ≡ part ++ w ∷ [] → Reads old b f k ((front ++ part) ++ w ∷ []) → Reads old b f k (front ++ next)
Reads-more old b f k front part next w is reads =
    subst (λ (l : List (List ℕ)). Reads old b f k l) (append_assoc front part (w ∷ []) ∙ ap (λ (l : List (List ℕ)). front ++ l) (sym is)) reads

-- and of one that is whole
pub Reads-whole : (old b : Option (List ℕ)) (f : Bool) (k : ℕ) (stmts all : List Stmt) (s : Stmt) (part : List (List ℕ)) (w : List ℕ) → all ≡ stmts ++ s ∷ [] → stmt_words s ≡ part ++ w ∷ [] →
    Reads old b f k ((section_words stmts ++ part) ++ w ∷ []) → Reads old b f k (section_words all ++ [])
Reads-whole old b f k stmts all s part w is words reads =
    subst (λ (l : List (List ℕ)). Reads old b f k l) (words_more stmts all s part w is words ∙ sym (append-nil (section_words all))) reads

pub one_longer : (part next : List (List ℕ)) (w : List ℕ) (n : ℕ) → n ≡ length part → next ≡ part ++ w ∷ [] → n + 1 ≡ length next
one_longer part next w n is more = omega (arith, is, ap (λ (l : List (List ℕ)). length l) more, length-append part (w ∷ []))

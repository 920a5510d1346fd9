-- Cases of a switch, one case more.
pub use Rattle.bk_ocode.proofs.Terms.{◌≡◌, ◌⊎◌, inl, inr, ℕ, zero, suc, ℤ, FitsSigned, w32, ◌<◌, ◌^◌, ◌++◌, ◌||◌, Bool, true, false, if◌then◌else◌, List, [], ◌∷◌, Some, None, length, slice_get, arith, refl, sym, ap, ◌∙◌, subst, append_assoc, int_eq, spelling, label_word, case_words, IsLabel, AreCases, has_value, Case, or_assoc, or-false, or_right, pos, ◌+◌, ◌-◌, ◌≤◌, Option, codes, length-append, append-nil, cases_lt, Decides-int_eq, NAME_BYTES, fits-pos, natural_word, byte_words, global_words, stmt_words, IsGlobal, AreBytes, IsStmt, BeginsStmt, owner_words, IsOwner, switch_words, entries_words, partial_words, is_short, IsPartialStmt, ArePartialCases, ArePartialEntries, part_words, IsPartialPart, GlobalEntry, Stmt, keyword_text, context_of, misplaced, Keyword, Partial, Owner, VariableKind, cases_Bool, cond-true, cond-false, to_z-of_z, ◌≢◌, IsTrue, take, take-append-le, take-append_seam, Consumes, INPUT_BYTES, OCODE_STATEMENTS, AtEnd, Holds, IsNextWord, TakesWords, TakesSome, Reads, ReadsAll, Reads-word, Reads-end, section_words, InRange, IsTyped, AreTyped, stmt_fault, AreFaultless, IsSection, IsPartial, Takes, GivesSection, GivesNothing, Ended}
use Rattle.std.proofs.lemmas.Cmp.{int_eq_equiv}
use Rattle.bk_ocode.proofs.Rows.{joined-append}

pub at_push : {X : Type 0} (xs : List X) (y : X) (k : ℕ) (x : X) → slice_get (xs ++ y ∷ []) k ≡ Some x → ((k < length xs) × (slice_get xs k ≡ Some x)) ⊎ ((k ≡ length xs) × (y ≡ x))
at_push [] y zero x is = inr (refl, cc)
at_push [] y (suc k) x is = absurd (let h : None ≡ Some x = is in cc)
at_push (z ∷ xs) y zero x is = inl (omega arith, is)
at_push (z ∷ xs) y (suc k) x is = elim (at_push xs y k x is) [ inl p ↦ inl (omega (arith, p.0), p.1) | inr p ↦ inr (ap suc p.0, p.1) ]

cond_or : (t a : Bool) → (if t then true else a) ≡ (a || t)
cond_or t a = grind arith

has_value-push : (value : ℤ) (cases : List Case) (c : Case) → has_value value (cases ++ c ∷ []) ≡ (has_value value cases || int_eq c.value value)
has_value-push value [] c = or-false (int_eq c.value value)
has_value-push value (d ∷ cases) c = ap (λ b. int_eq d.value value || b) (has_value-push value cases c) ∙ sym (or_assoc (int_eq d.value value) (has_value value cases) (int_eq c.value value))

-- the table of values, one value more
pub values-push : (value : ℤ) (cases all : List Case) (c : Case) (old new : Bool) → all ≡ cases ++ c ∷ [] → old ≡ has_value value cases → new ≡ (if int_eq c.value value then true else old) → new ≡ has_value value all
values-push value cases all c old new is was now =
    now ∙ cond_or (int_eq c.value value) old ∙ ap (λ b. b || int_eq c.value value) was ∙ sym (has_value-push value cases c) ∙ ap (has_value value) (sym is)

has_value-at : (cases : List Case) (k : ℕ) (c : Case) (value : ℤ) → slice_get cases k ≡ Some c → c.value ≡ value → has_value value cases ≡ true
has_value-at [] k c value at is = absurd (let h : None ≡ Some c = at in cc)
has_value-at (d ∷ cases) zero c value at is = grind arith
has_value-at (d ∷ cases) (suc k) c value at is = ap (λ b. int_eq d.value value || b) (has_value-at cases k c value at is) ∙ or_right (int_eq d.value value) true refl

pub AreCases-push : (cases all : List Case) (c : Case) → all ≡ cases ++ c ∷ [] → AreCases cases → IsLabel c.label → has_value c.value cases ≡ false → length all < 2 ^ 31 → AreCases all
AreCases-push cases all c is are label new few = grind (arith, at_push, has_value-at)

pub typed-push : (cases all : List Case) (c : Case) → all ≡ cases ++ c ∷ [] → ((k : ℕ) (d : Case) → slice_get cases k ≡ Some d → FitsSigned w32 d.value) → FitsSigned w32 c.value →
    (k : ℕ) (d : Case) → slice_get all k ≡ Some d → FitsSigned w32 d.value
typed-push cases all c is are fits k d at = elim (at_push cases c k d (ap (λ (l : List Case). slice_get l k) (sym is) ∙ at)) [ inl p ↦ are k d p.1 | inr p ↦ subst (λ (x : Case). FitsSigned w32 x.value) p.1 fits ]

-- The words that begin statements are known again.
use Rattle.bk_ocode.proofs.Terms.{◌≡◌, ◌≢◌, ℕ, ◌-◌, is_blank, List, Option, Bool, true, not, ◌&&◌, nat_lt, ◌≤◌, ◌<◌, length, arith, ltb-true, Some, refl, sym, ap, ◌∙◌, list_all, keyword, role, may_stand, Context, misplaced, StmtPlace, keyword_text, candidate_with, keyword_of_stmt, keyword_role, Stmt, Keyword, Stmt as stmt, VariableKind as kinds, and_parts, slice_index}
use Rattle.bk_ocode.specs.declared.stmt.Variable.TheVariants as variable
use Rattle.bk_ocode.specs.declared.stmt.Monadic.TheVariants as monadic
use Rattle.bk_ocode.specs.declared.stmt.Dyadic.TheVariants as dyadic
use Rattle.bk_ocode.specs.declared.keyword.Keyword.TheVariants.{Number, Load, Address, Assign, Monadic, Dyadic, JumpIf}

abbrev find : List ℕ → Option Keyword
find word = candidate_with (length word) (slice_index word 0) (slice_index word (length word - 1))

-- a word of 1 to 8 bytes, none of them a blank
abbrev is_short_word : List ℕ → Bool
is_short_word word = nat_lt 0 (length word) && (nat_lt (length word) 9 && list_all (λ b. not (is_blank b)) word)

-- each is found, and its word is one
each_found : (k : Keyword) → (find (keyword_text k) ≡ Some k) × (is_short_word (keyword_text k) ≡ true)
each_found Number = (refl, refl)
each_found (Load kinds.Local) = (refl, refl)
each_found (Address kinds.Local) = (refl, refl)
each_found (Assign kinds.Local) = (refl, refl)
each_found (Monadic monadic.Contents) = (refl, refl)
each_found (Dyadic dyadic.Multiply) = (refl, refl)
each_found (JumpIf true) = (refl, refl)
each_found _ = (refl, refl)

pub all_found : (k : Keyword) → find (keyword_text k) ≡ Some k
all_found k = (each_found k).0

pub only_candidate : (word : List ℕ) (k : Keyword) → keyword_text k ≡ word → find word ≡ Some k
only_candidate word k is = ap find (sym is) ∙ all_found k

-- no two have one word
pub same_keyword : (j k : Keyword) → keyword_text j ≡ keyword_text k → j ≡ k
same_keyword j k is = let h : Some j ≡ Some k = sym (all_found j) ∙ ap find is ∙ all_found k in cc

-- a statement begins with the word of its keyword, and stands where it says
pub begins_so : (s : Stmt) → keyword s ≡ keyword_text (keyword_of_stmt s)
begins_so (stmt.Number value) = refl
begins_so (stmt.Load (variable.Local n)) = refl
begins_so (stmt.Address (variable.Local n)) = refl
begins_so (stmt.Assign (variable.Local n)) = refl
begins_so _ = refl

pub stands_so : (s : Stmt) → role s ≡ keyword_role (keyword_of_stmt s)
stands_so (stmt.Number value) = refl
stands_so _ = refl

pub short_word : (k : Keyword) → (0 < length (keyword_text k)) × (length (keyword_text k) ≤ 8) × (list_all (λ b. not (is_blank b)) (keyword_text k) ≡ true)
short_word k =
    let some = and_parts _ _ ((each_found k).1) in
    let few = and_parts _ _ some.1 in
    let below : length (keyword_text k) < 9 = ltb-true _ 9 few.0 in
    (ltb-true 0 _ some.0, omega (arith, below), few.1)

pub not_long : (s : Stmt) (word : List ℕ) → 16 < length word → keyword s ≢ word
not_long s word long is = absurd (omega (arith, (short_word (keyword_of_stmt s)).1, ap (λ (w : List ℕ). length w) (sym (begins_so s)), ap (λ (w : List ℕ). length w) is, long))

-- a word that is none begins no statement
pub begins_none : (word : List ℕ) → ((k : Keyword) → keyword_text k ≢ word) → (s : Stmt) → keyword s ≢ word
begins_none word none s is = none (keyword_of_stmt s) (sym (begins_so s) ∙ is)

-- a statement that begins with the word stands where its keyword says
pub placed_so : (c : Context) (k : Keyword) (word : List ℕ) (s : Stmt) (b : Bool) → keyword_text k ≡ word → keyword s ≡ word → may_stand c.position (keyword_role k) ≡ b → misplaced c s ≡ not b
placed_so c k word s b text is applies =
    let same : keyword_of_stmt s ≡ k = same_keyword (keyword_of_stmt s) k (sym (begins_so s) ∙ is ∙ sym text) in
    ap (λ (r : StmtPlace). not (may_stand c.position r)) (stands_so s ∙ ap keyword_role same) ∙ ap not applies

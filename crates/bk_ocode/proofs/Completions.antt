-- Each beginning of a statement goes on to a whole one.
use Rattle.bk_ocode.specs.declared.stmt.Variable.TheVariants as variable
use Rattle.bk_ocode.specs.declared.stmt.Monadic.TheVariants as monadic
use Rattle.bk_ocode.specs.declared.stmt.Dyadic.TheVariants as dyadic
use Rattle.bk_ocode.specs.declared.partial.CaseDraft.{CaseDraft}
use Rattle.bk_ocode.specs.declared.partial.EntryDraft.{EntryDraft}
use Rattle.bk_ocode.proofs.Rows.{joined-append}
use Rattle.bk_ocode.proofs.CaseLemmas.{AreCases-push, typed-push, ◌≡◌, ◌⊎◌, inl, inr, ℕ, zero, suc, ℤ, pos, FitsSigned, w32, ◌+◌, ◌-◌, ◌<◌, ◌≤◌, ◌^◌, ◌++◌, ◌||◌, Bool, true, false, if◌then◌else◌, List, [], ◌∷◌, Option, Some, None, length, slice_get, codes, arith, refl, sym, ap, ◌∙◌, subst, length-append, append_assoc, append-nil, cases_lt, Decides-int_eq, int_eq, spelling, NAME_BYTES, fits-pos, label_word, natural_word, byte_words, case_words, global_words, stmt_words, IsLabel, IsGlobal, AreBytes, AreCases, IsStmt, BeginsStmt, has_value, owner_words, IsOwner, switch_words, entries_words, partial_words, is_short, IsPartialStmt, ArePartialCases, ArePartialEntries, part_words, IsPartialPart, Case, GlobalEntry, Stmt, keyword_text, context_of, misplaced, Keyword, Partial, Owner, Stmt as stmt, VariableKind as kinds, Keyword as keywords, Partial as begun, Owner as owners, cases_Bool, cond-true, cond-false}

-- a whole statement that goes on behind these words
pub record GoesOn (part : List (List ℕ)) : Type 0 where
  pub stmt : Stmt
  pub is_stmt : IsStmt stmt
  pub word : List ℕ
  pub rest : List (List ℕ)
  pub begins : stmt_words stmt ≡ part ++ (word ∷ rest)

-- bytes, so many more
abbrev zeros : ℕ → List ℕ
zeros zero = []
zeros (suc n) = 0 ∷ zeros n

length-zeros : (n : ℕ) → length (zeros n) ≡ n
length-zeros zero = refl
length-zeros (suc n) = ap suc (length-zeros n)

AreBytes-zeros : (n : ℕ) → AreBytes (zeros n)
AreBytes-zeros zero k b is = absurd (let h : None ≡ Some b = is in cc)
AreBytes-zeros (suc n) zero b is = let h : 0 ≡ b = cc in omega (arith, h)
AreBytes-zeros (suc n) (suc k) b is = AreBytes-zeros n k b is

AreBytes-append : (a b : List ℕ) → AreBytes a → AreBytes b → AreBytes (a ++ b)
AreBytes-append [] b p q k c is = q k c is
AreBytes-append (x ∷ a) b p q zero c is = p zero c is
AreBytes-append (x ∷ a) b p q (suc k) c is = AreBytes-append a b (λ j d e. p (suc j) d e) q k c is

abbrev bytes_stmt : Owner → List ℕ → Stmt
bytes_stmt owners.Text bytes = stmt.Text bytes
bytes_stmt (owners.Entry label) bytes = stmt.Entry label bytes

bytes_stmt-fits : (owner : Owner) (bytes : List ℕ) → IsOwner owner → AreBytes bytes → length bytes ≤ NAME_BYTES → IsStmt (bytes_stmt owner bytes)
bytes_stmt-fits owners.Text bytes own are short = (short, are)
bytes_stmt-fits (owners.Entry label) bytes own are short = ((own, short), are)

bytes_stmt-words : (owner : Owner) (bytes : List ℕ) → stmt_words (bytes_stmt owner bytes) ≡ owner_words owner ++ natural_word (length bytes) ∷ byte_words bytes
bytes_stmt-words owners.Text bytes = refl
bytes_stmt-words (owners.Entry label) bytes = refl

pub goes_on-length : (owner : Owner) → IsOwner owner → GoesOn (owner_words owner)
goes_on-length owner own = record {
  stmt = bytes_stmt owner [];
  is_stmt = bytes_stmt-fits owner [] own (AreBytes-zeros 0) (omega arith);
  word = natural_word 0;
  rest = [];
  begins = bytes_stmt-words owner [];
}

pub goes_on-bytes : (owner : Owner) (bytes : List ℕ) (count : ℕ) → IsOwner owner → AreBytes bytes → count ≤ NAME_BYTES → length bytes < count → GoesOn (owner_words owner ++ natural_word count ∷ byte_words bytes)
goes_on-bytes owner bytes count own are short due =
    let n = count - (length bytes + 1) in
    let all = bytes ++ 0 ∷ zeros n in
    let long : length all ≡ count = omega (arith, length-append bytes (0 ∷ zeros n), length-zeros n, due) in
    record {
      stmt = bytes_stmt owner all;
      is_stmt = bytes_stmt-fits owner all own (AreBytes-append bytes (0 ∷ zeros n) are (AreBytes-zeros (suc n))) (omega (arith, long, short));
      word = natural_word 0;
      rest = byte_words (zeros n);
      begins = bytes_stmt-words owner all
          ∙ ap (λ (m : ℕ). owner_words owner ++ natural_word m ∷ byte_words all) long
          ∙ ap (λ (w : List (List ℕ)). owner_words owner ++ natural_word count ∷ w) (joined-append (λ (b : ℕ). natural_word b ∷ []) bytes (0 ∷ zeros n))
          ∙ sym (append_assoc (owner_words owner) (natural_word count ∷ byte_words bytes) (natural_word 0 ∷ byte_words (zeros n)));
    }

-- globals, so many more
abbrev firsts : ℕ → List GlobalEntry
firsts zero = []
firsts (suc n) = record { number = 0; label = 1 } ∷ firsts n

length-firsts : (n : ℕ) → length (firsts n) ≡ n
length-firsts zero = refl
length-firsts (suc n) = ap suc (length-firsts n)

abbrev AreFine : List GlobalEntry → Type 0
AreFine entries = (k : ℕ) (e : GlobalEntry) → slice_get entries k ≡ Some e → IsGlobal e.number × IsLabel e.label

fine-firsts : (n : ℕ) → AreFine (firsts n)
fine-firsts zero k e is = absurd (let h : None ≡ Some e = is in cc)
fine-firsts (suc n) zero e is =
    let one : GlobalEntry = record { number = 0; label = 1 } in
    let h : one ≡ e = cc in subst (λ (x : GlobalEntry). IsGlobal x.number × IsLabel x.label) h (omega arith, (omega arith, omega arith))
fine-firsts (suc n) (suc k) e is = fine-firsts n k e is

fine-append : (a b : List GlobalEntry) → AreFine a → AreFine b → AreFine (a ++ b)
fine-append [] b p q k c is = q k c is
fine-append (x ∷ a) b p q zero c is = p zero c is
fine-append (x ∷ a) b p q (suc k) c is = fine-append a b (λ j d e. p (suc j) d e) q k c is

globals : (entries : List GlobalEntry) (count : ℕ) (e : GlobalEntry) → AreFine entries → IsGlobal e.number × IsLabel e.label → count < 2 ^ 31 → length entries < count →
    (more : List GlobalEntry) × IsStmt (stmt.Globals (entries ++ e ∷ more)) × (length (entries ++ e ∷ more) ≡ count)
globals entries count e are fine low due =
    let n = count - (length entries + 1) in
    let all = entries ++ e ∷ firsts n in
    let long : length all ≡ count = omega (arith, length-append entries (e ∷ firsts n), length-firsts n, due) in
    let tail : AreFine (e ∷ firsts n) = fine-append (e ∷ []) (firsts n) (λ k d is. single k d is) (fine-firsts n) in
    (firsts n, (record { in_range = fine-append entries (e ∷ firsts n) are tail; counted = omega (arith, long, low) }, tt), long)
  where
    single : (k : ℕ) (d : GlobalEntry) → slice_get (e ∷ []) k ≡ Some d → IsGlobal d.number × IsLabel d.label
    single zero d is = let h : e ≡ d = cc in subst (λ (x : GlobalEntry). IsGlobal x.number × IsLabel x.label) h fine
    single (suc k) d is = absurd (let h : None ≡ Some d = is in cc)

globals-words : (entries more : List GlobalEntry) (e : GlobalEntry) (count : ℕ) → length (entries ++ e ∷ more) ≡ count →
    stmt_words (stmt.Globals (entries ++ e ∷ more)) ≡ (codes "GLOBAL" ∷ natural_word count ∷ global_words entries) ++ (natural_word e.number ∷ label_word e.label ∷ global_words more)
globals-words entries more e count long =
    ap (λ (m : ℕ). codes "GLOBAL" ∷ natural_word m ∷ global_words (entries ++ e ∷ more)) long
    ∙ ap (λ (w : List (List ℕ)). codes "GLOBAL" ∷ natural_word count ∷ w) (joined-append (λ (d : GlobalEntry). natural_word d.number ∷ label_word d.label ∷ []) entries (e ∷ more))

pub goes_on-number : (draft : EntryDraft) → ArePartialEntries draft → GoesOn (entries_words draft)
goes_on-number draft are =
    let e : GlobalEntry = record { number = 0; label = 1 } in
    let g = globals draft.entries.items draft.count e are.0.entries.in_range (omega arith, (omega arith, omega arith)) are.0.counted are.1 in
    record {
      stmt = stmt.Globals (draft.entries.items ++ e ∷ g.0);
      is_stmt = g.1;
      word = natural_word 0;
      rest = label_word 1 ∷ global_words g.0;
      begins = globals-words draft.entries.items g.0 e draft.count g.2;
    }

pub goes_on-global_label : (draft : EntryDraft) (number : ℕ) → ArePartialEntries draft → IsGlobal number → GoesOn (entries_words draft ++ natural_word number ∷ [])
goes_on-global_label draft number are small =
    let e : GlobalEntry = record { number = number; label = 1 } in
    let g = globals draft.entries.items draft.count e are.0.entries.in_range (small, (omega arith, omega arith)) are.0.counted are.1 in
    record {
      stmt = stmt.Globals (draft.entries.items ++ e ∷ g.0);
      is_stmt = g.1;
      word = label_word 1;
      rest = global_words g.0;
      begins = globals-words draft.entries.items g.0 e draft.count g.2 ∙ sym (append_assoc (entries_words draft) (natural_word number ∷ []) (label_word 1 ∷ global_words g.0));
    }

-- cases without one value
abbrev without : ℤ → List Case → List Case
without z [] = []
without z (c ∷ rest) = if int_eq c.value z then rest else c ∷ without z rest

pub or-second : (a b : Bool) → a ≡ false → (a || b) ≡ b
or-second true b e = absurd (let h : true ≡ false = e in cc)
or-second false b e = refl

length-without : (z : ℤ) (cases : List Case) → has_value z cases ≡ true → length cases ≡ length (without z cases) + 1
length-without z [] has = absurd (let h : false ≡ true = has in cc)
length-without z (c ∷ rest) has = elim (cases_Bool (int_eq c.value z)) [
  | inl same ↦ omega (arith, ap (λ (l : List Case). length l) (cond-true (int_eq c.value z) rest (c ∷ without z rest) same))
  | inr other ↦ omega (arith, ap (λ (l : List Case). length l) (cond-false (int_eq c.value z) rest (c ∷ without z rest) other), length-without z rest (sym (or-second (int_eq c.value z) (has_value z rest) other) ∙ has))
]

apart : (x y z : ℤ) → int_eq x z ≡ true → (z ≡ y → ⊥) → int_eq x y ≡ false
apart x y z same other = grind (arith, Decides-int_eq)

has-without : (y z : ℤ) (cases : List Case) → (z ≡ y → ⊥) → has_value y cases ≡ true → has_value y (without z cases) ≡ true
has-without y z [] other has = has
has-without y z (c ∷ rest) other has = elim (cases_Bool (int_eq c.value z)) [
  | inl same ↦ ap (has_value y) (cond-true (int_eq c.value z) rest (c ∷ without z rest) same) ∙ sym (or-second (int_eq c.value y) (has_value y rest) (apart c.value y z same other)) ∙ has
  | inr no_z ↦ ap (has_value y) (cond-false (int_eq c.value z) rest (c ∷ without z rest) no_z) ∙ elim (cases_Bool (int_eq c.value y)) [
    | inl is ↦ ap (λ b. b || has_value y (without z rest)) is
    | inr no_y ↦ or-second (int_eq c.value y) (has_value y (without z rest)) no_y ∙ has-without y z rest other (sym (or-second (int_eq c.value y) (has_value y rest) no_y) ∙ has)
  ]
]

positive : (m n : ℕ) → pos m ≡ pos n → m ≡ n
positive m n is = cc

-- cases with all values below a number are no fewer
enough : (k : ℕ) (cases : List Case) → ((v : ℕ) → v < k → has_value (pos v) cases ≡ true) → k ≤ length cases
enough zero cases all = omega arith
enough (suc k) cases all =
    let fewer = enough k (without (pos k) cases) (λ v low. has-without (pos v) (pos k) cases (λ e. absurd (omega (arith, low, positive k v e))) (all v (omega (arith, low)))) in
    omega (arith, fewer, length-without (pos k) cases (all k (omega arith)))

first_free : (k : ℕ) (cases : List Case) → ((v : ℕ) × (v < k) × (has_value (pos v) cases ≡ false)) ⊎ ((v : ℕ) → v < k → has_value (pos v) cases ≡ true)
first_free zero cases = inr (λ v low. absurd (omega (arith, low)))
first_free (suc k) cases = elim (first_free k cases) [
  | inl p ↦ inl (p.0, omega (arith, p.1), p.2)
  | inr all ↦ elim (cases_Bool (has_value (pos k) cases)) [
    | inr free ↦ inl (k, omega arith, free)
    | inl has ↦ inr (λ v low. elim (cases_lt v k) [
      | inl lower ↦ all v lower
      | inr high ↦ let same : k ≡ v = omega (arith, low, high) in ap (λ (n : ℕ). has_value (pos n) cases) (sym same) ∙ has
    ])
  ]
]

-- a value that no case has
free : (cases : List Case) → (v : ℕ) × (v ≤ length cases) × (has_value (pos v) cases ≡ false)
free cases = elim (first_free (length cases + 1) cases) [
  | inl p ↦ (p.0, omega (arith, p.1), p.2)
  | inr all ↦ absurd (omega (arith, enough (length cases + 1) cases all))
]

abbrev AreValues : List Case → Type 0
AreValues cases = (k : ℕ) (c : Case) → slice_get cases k ≡ Some c → FitsSigned w32 c.value

-- cases, so many more
fill : (n : ℕ) (cases : List Case) → AreCases cases → AreValues cases → length cases + n < 2 ^ 31 →
    (more : List Case) × (length (cases ++ more) ≡ length cases + n) × AreCases (cases ++ more) × AreValues (cases ++ more)
fill zero cases are fits low = ([], omega (arith, length-append cases []), subst AreCases (sym (append-nil cases)) are, subst AreValues (sym (append-nil cases)) fits)
fill (suc n) cases are fits low =
    let f = free cases in
    let c : Case = record { value = pos f.0; label = 1 } in
    let long : length (cases ++ c ∷ []) ≡ length cases + 1 = length-append cases (c ∷ []) in
    let g = fill n (cases ++ c ∷ []) (AreCases-push cases (cases ++ c ∷ []) c refl are (omega arith, omega arith) f.2 (omega (arith, long, low)))
    (typed-push cases (cases ++ c ∷ []) c refl fits (fits-pos f.0 (omega (arith, f.1, low)))) (omega (arith, long, low)) in
    let same : (cases ++ c ∷ []) ++ g.0 ≡ cases ++ (c ∷ g.0) = append_assoc cases (c ∷ []) g.0 in
    (c ∷ g.0, omega (arith, ap (λ (l : List Case). length l) same, g.1, long), subst AreCases same g.2, subst AreValues same g.3)

switch_words-of : (default : ℕ) (cases more : List Case) (count : ℕ) → length (cases ++ more) ≡ count →
    stmt_words (stmt.Switch default (cases ++ more)) ≡ (codes "SWITCHON" ∷ natural_word count ∷ label_word default ∷ case_words cases) ++ case_words more
switch_words-of default cases more count long =
    ap (λ (m : ℕ). codes "SWITCHON" ∷ natural_word m ∷ label_word default ∷ case_words (cases ++ more)) long
    ∙ ap (λ (w : List (List ℕ)). codes "SWITCHON" ∷ natural_word count ∷ label_word default ∷ w) (joined-append (λ (c : Case). spelling c.value ∷ label_word c.label ∷ []) cases more)

-- a switch whose next case has this value
with_next : (default : ℕ) (cases : List Case) (count : ℕ) (value : ℤ) → IsLabel default → AreCases cases → AreValues cases → count < 2 ^ 31 → length cases < count → FitsSigned w32 value → has_value value cases ≡ false →
    (more : List Case) × IsStmt (stmt.Switch default (cases ++ record { value = value; label = 1 } ∷ more)) × (length (cases ++ record { value = value; label = 1 } ∷ more) ≡ count)
with_next default cases count value label are fits low due typed new =
    let c : Case = record { value = value; label = 1 } in
    let long : length (cases ++ c ∷ []) ≡ length cases + 1 = length-append cases (c ∷ []) in
    let g = fill (count - (length cases + 1)) (cases ++ c ∷ []) (AreCases-push cases (cases ++ c ∷ []) c refl are (omega arith, omega arith) new (omega (arith, long, low, due)))
    (typed-push cases (cases ++ c ∷ []) c refl fits typed) (omega (arith, long, low, due)) in
    let same : (cases ++ c ∷ []) ++ g.0 ≡ cases ++ (c ∷ g.0) = append_assoc cases (c ∷ []) g.0 in
    (g.0, ((label, subst AreCases same g.2), subst AreValues same g.3), omega (arith, ap (λ (l : List Case). length l) same, g.1, long, due))

pub goes_on-value : (draft : CaseDraft) → ArePartialCases draft → GoesOn (switch_words draft)
goes_on-value draft are =
    let f = free draft.cases.items in
    let c : Case = record { value = pos f.0; label = 1 } in
    let g = with_next draft.default draft.cases.items draft.count (pos f.0) are.0.default are.0.cases are.0.typed are.0.counted are.1 (fits-pos f.0 (omega (arith, f.1, are.1, are.0.counted))) f.2 in
    record {
      stmt = stmt.Switch draft.default (draft.cases.items ++ c ∷ g.0);
      is_stmt = g.1;
      word = spelling (pos f.0);
      rest = label_word 1 ∷ case_words g.0;
      begins = switch_words-of draft.default draft.cases.items (c ∷ g.0) draft.count g.2;
    }

pub goes_on-case_label : (draft : CaseDraft) (value : ℤ) → ArePartialCases draft → FitsSigned w32 value → has_value value draft.cases.items ≡ false → GoesOn (switch_words draft ++ spelling value ∷ [])
goes_on-case_label draft value are fits new =
    let c : Case = record { value = value; label = 1 } in
    let g = with_next draft.default draft.cases.items draft.count value are.0.default are.0.cases are.0.typed are.0.counted are.1 fits new in
    record {
      stmt = stmt.Switch draft.default (draft.cases.items ++ c ∷ g.0);
      is_stmt = g.1;
      word = label_word 1;
      rest = case_words g.0;
      begins = switch_words-of draft.default draft.cases.items (c ∷ g.0) draft.count g.2 ∙ sym (append_assoc (switch_words draft) (spelling value ∷ []) (label_word 1 ∷ case_words g.0));
    }

no_cases : AreCases []
no_cases = grind arith

no_values : AreValues []
no_values k c at = absurd (let h : None ≡ Some c = at in cc)

goes_on-short : (k : Keyword) → is_short k ≡ true → GoesOn (keyword_text k ∷ [])
goes_on-short keywords.Number e = record { stmt = stmt.Number (pos 0); is_stmt = (tt, fits-pos 0 (omega arith)); word = spelling (pos 0); rest = []; begins = refl }
goes_on-short keywords.Jump e = record { stmt = stmt.Jump 1; is_stmt = ((omega arith, omega arith), tt); word = label_word 1; rest = []; begins = refl }
goes_on-short keywords.Label e = record { stmt = stmt.Label 1; is_stmt = ((omega arith, omega arith), tt); word = label_word 1; rest = []; begins = refl }
goes_on-short keywords.GiveResult e = record { stmt = stmt.GiveResult 1; is_stmt = ((omega arith, omega arith), tt); word = label_word 1; rest = []; begins = refl }
goes_on-short keywords.TakeResult e = record { stmt = stmt.TakeResult 2; is_stmt = ((omega arith, omega arith), tt); word = natural_word 2; rest = []; begins = refl }
goes_on-short keywords.Stack e = record { stmt = stmt.Stack 2; is_stmt = ((omega arith, omega arith), tt); word = natural_word 2; rest = []; begins = refl }
goes_on-short keywords.Save e = record { stmt = stmt.Save 2; is_stmt = ((omega arith, omega arith), tt); word = natural_word 2; rest = []; begins = refl }
goes_on-short keywords.CallFunction e = record { stmt = stmt.CallFunction 2; is_stmt = ((omega arith, omega arith), tt); word = natural_word 2; rest = []; begins = refl }
goes_on-short keywords.CallRoutine e = record { stmt = stmt.CallRoutine 2; is_stmt = ((omega arith, omega arith), tt); word = natural_word 2; rest = []; begins = refl }
goes_on-short keywords.DataLabel e = record { stmt = stmt.DataLabel 1; is_stmt = ((omega arith, omega arith), tt); word = label_word 1; rest = []; begins = refl }
goes_on-short keywords.DataNumber e = record { stmt = stmt.DataNumber (pos 0); is_stmt = (tt, fits-pos 0 (omega arith)); word = spelling (pos 0); rest = []; begins = refl }
goes_on-short keywords.DataAddress e = record { stmt = stmt.DataAddress 1; is_stmt = ((omega arith, omega arith), tt); word = label_word 1; rest = []; begins = refl }
goes_on-short (keywords.Load kinds.Local) e = record { stmt = stmt.Load (variable.Local 2); is_stmt = ((omega arith, omega arith), tt); word = natural_word 2; rest = []; begins = refl }
goes_on-short (keywords.Load kinds.Global) e = record { stmt = stmt.Load (variable.Global 0); is_stmt = (omega arith, tt); word = natural_word 0; rest = []; begins = refl }
goes_on-short (keywords.Load kinds.Static) e = record { stmt = stmt.Load (variable.Static 1); is_stmt = ((omega arith, omega arith), tt); word = label_word 1; rest = []; begins = refl }
goes_on-short (keywords.Address kinds.Local) e = record { stmt = stmt.Address (variable.Local 2); is_stmt = ((omega arith, omega arith), tt); word = natural_word 2; rest = []; begins = refl }
goes_on-short (keywords.Address kinds.Global) e = record { stmt = stmt.Address (variable.Global 0); is_stmt = (omega arith, tt); word = natural_word 0; rest = []; begins = refl }
goes_on-short (keywords.Address kinds.Static) e = record { stmt = stmt.Address (variable.Static 1); is_stmt = ((omega arith, omega arith), tt); word = label_word 1; rest = []; begins = refl }
goes_on-short (keywords.Assign kinds.Local) e = record { stmt = stmt.Assign (variable.Local 2); is_stmt = ((omega arith, omega arith), tt); word = natural_word 2; rest = []; begins = refl }
goes_on-short (keywords.Assign kinds.Global) e = record { stmt = stmt.Assign (variable.Global 0); is_stmt = (omega arith, tt); word = natural_word 0; rest = []; begins = refl }
goes_on-short (keywords.Assign kinds.Static) e = record { stmt = stmt.Assign (variable.Static 1); is_stmt = ((omega arith, omega arith), tt); word = label_word 1; rest = []; begins = refl }
goes_on-short (keywords.Monadic monadic.Contents) e = absurd (let h : false ≡ true = e in cc)
goes_on-short (keywords.Dyadic dyadic.Multiply) e = absurd (let h : false ≡ true = e in cc)
goes_on-short (keywords.JumpIf true) e = record { stmt = stmt.JumpIf true 1; is_stmt = ((omega arith, omega arith), tt); word = label_word 1; rest = []; begins = refl }
goes_on-short (keywords.JumpIf false) e = record { stmt = stmt.JumpIf false 1; is_stmt = ((omega arith, omega arith), tt); word = label_word 1; rest = []; begins = refl }
goes_on-short x e = absurd (let h : false ≡ true = e in cc)

-- each beginning goes on
pub goes_on : (b : Partial) → IsPartialStmt b → GoesOn (partial_words b)
goes_on (begun.Short k) is = goes_on-short k is
goes_on begun.EntryLabel is = record { stmt = stmt.Entry 1 []; is_stmt = bytes_stmt-fits (owners.Entry 1) [] (omega arith, omega arith) (AreBytes-zeros 0) (omega arith); word = label_word 1; rest = natural_word 0 ∷ []; begins = refl }
goes_on (begun.Length owner) is = goes_on-length owner is
goes_on (begun.Bytes owner bytes count) is = goes_on-bytes owner bytes.items count is.0 is.1 is.2 is.3
goes_on begun.CaseCount is = record { stmt = stmt.Switch 1 []; is_stmt = ((((omega arith, omega arith), no_cases)), no_values); word = natural_word 0; rest = label_word 1 ∷ []; begins = refl }
goes_on (begun.Default count) is =
    let g = fill count [] no_cases no_values (omega (arith, is)) in
    record {
      stmt = stmt.Switch 1 g.0;
      is_stmt = (((omega arith, omega arith), g.2), g.3);
      word = label_word 1;
      rest = case_words g.0;
      begins = ap (λ (m : ℕ). codes "SWITCHON" ∷ natural_word m ∷ label_word 1 ∷ case_words g.0) (omega (arith, g.1));
    }
goes_on (begun.CaseValue draft) is = goes_on-value draft is
goes_on (begun.CaseLabel draft value) is = goes_on-case_label draft value is.0 is.1 is.2
goes_on begun.GlobalCount is = record { stmt = stmt.Globals []; is_stmt = (record { in_range = fine-firsts 0; counted = omega arith }, tt); word = natural_word 0; rest = []; begins = refl }
goes_on (begun.GlobalNumber draft) is = goes_on-number draft is
goes_on (begun.GlobalLabel draft number) is = goes_on-global_label draft number is.0 is.1

abbrev Placed : List Stmt → Option Partial → Type 0
Placed stmts part = (s : Stmt) (rest : List (List ℕ)) → 0 < length (part_words part) → stmt_words s ≡ part_words part ++ rest → misplaced (context_of stmts) s ≡ false

pub begins_part : (stmts : List Stmt) (part : Option Partial) → IsPartialPart part → Placed stmts part → 0 < length (part_words part) → BeginsStmt stmts (part_words part)
begins_part stmts None is placed some = absurd (omega (arith, some))
begins_part stmts (Some b) is placed some =
    let g = goes_on b is in
    record { stmt = g.stmt; is_stmt = g.is_stmt; may_stand = placed g.stmt (g.word ∷ g.rest) some g.begins; word = g.word; rest = g.rest; begins = g.begins }

none_or_some : (l : List (List ℕ)) → (l ≡ []) ⊎ (0 < length l)
none_or_some [] = inl refl
none_or_some (x ∷ l) = inr (omega arith)

pub part_goes_on : (stmts : List Stmt) (part : Option Partial) → IsPartialPart part → Placed stmts part → (part_words part ≡ []) ⊎ BeginsStmt stmts (part_words part)
part_goes_on stmts part is placed = elim (none_or_some (part_words part)) [ inl none ↦ inl none | inr some ↦ inr (begins_part stmts part is placed some) ]

-- With a word that is unfit no statement goes on.
use Rattle.bk_ocode.specs.declared.stmt.Variable.{Variable}
use Rattle.bk_ocode.specs.declared.stmt.Variable.TheVariants as variable
use Rattle.bk_ocode.proofs.KeywordLemmas.{begins_so, same_keyword}
use Rattle.bk_ocode.proofs.Completions.{or-second}
use Rattle.bk_ocode.proofs.Depths.{at_seam, get-append, ◌≡◌, ◌≢◌, inl, inr, ℕ, zero, suc, ℤ, FitsSigned, w32, ◌<◌, ◌≤◌, ◌^◌, ◌++◌, true, false, List, [], ◌∷◌, Some, None, length, slice_get, arith, refl, sym, ap, ◌∙◌, append_assoc, append-nil, Decides-int_eq, slice_get_within, int_eq, spelling, NAME_BYTES, keyword, argument_words, stmt_words, natural_word, label_word, variable_word, byte_words, case_words, global_words, IsLabel, IsVariable, AreCases, IsStmt, kind_of, keyword_text, keyword_of_stmt, has_value, owner_words, partial_words, is_short, IsPartialStmt, NoNatural, NoLabel, NoVariable, NoArgument, IsUnfit, BeginNone, Case, GlobalEntry, Stmt, Keyword, Partial, Owner, Stmt as stmt, Keyword as keywords, Partial as begun, Owner as owners, cases_Bool}
use Rattle.bk_ocode.proofs.SameStmts.{first_same, rests_same, natural_same, Each, byte_row, case_row, global_row, IsByte, IsCase, IsEntry, byte_rows, case_rows, global_rows, next_row}

no_variable : (v : Variable) (w : List ℕ) → IsVariable v → NoVariable (kind_of v) w → variable_word v ≢ w
no_variable (variable.Local n) w fits none is = none n fits.0 (omega (arith, fits.1)) is
no_variable (variable.Global n) w fits none is = none n (omega arith) fits is
no_variable (variable.Static l) w fits none is = none l fits is

-- the one word behind the first
no_argument : (s : Stmt) (w : List ℕ) (rest : List (List ℕ)) → IsStmt s → is_short (keyword_of_stmt s) ≡ true → argument_words s ≡ w ∷ rest → NoArgument (keyword_of_stmt s) w → ⊥
no_argument (stmt.Number v) w rest fits short is none = none v fits.1 (first_same _ _ _ _ is)
no_argument (stmt.DataNumber v) w rest fits short is none = none v fits.1 (first_same _ _ _ _ is)
no_argument (stmt.Load from) w rest fits short is none = no_variable from w fits.0 none (first_same _ _ _ _ is)
no_argument (stmt.Address of) w rest fits short is none = no_variable of w fits.0 none (first_same _ _ _ _ is)
no_argument (stmt.Assign to) w rest fits short is none = no_variable to w fits.0 none (first_same _ _ _ _ is)
no_argument (stmt.Jump l) w rest fits short is none = none l fits.0 (first_same _ _ _ _ is)
no_argument (stmt.JumpIf b l) w rest fits short is none = none l fits.0 (first_same _ _ _ _ is)
no_argument (stmt.Label l) w rest fits short is none = none l fits.0 (first_same _ _ _ _ is)
no_argument (stmt.GiveResult l) w rest fits short is none = none l fits.0 (first_same _ _ _ _ is)
no_argument (stmt.DataLabel l) w rest fits short is none = none l fits.0 (first_same _ _ _ _ is)
no_argument (stmt.DataAddress l) w rest fits short is none = none l fits.0 (first_same _ _ _ _ is)
no_argument (stmt.TakeResult n) w rest fits short is none = none n fits.0.0 (omega (arith, fits.0.1)) (first_same _ _ _ _ is)
no_argument (stmt.CallFunction n) w rest fits short is none = none n fits.0.0 (omega (arith, fits.0.1)) (first_same _ _ _ _ is)
no_argument (stmt.CallRoutine n) w rest fits short is none = none n fits.0.0 (omega (arith, fits.0.1)) (first_same _ _ _ _ is)
no_argument (stmt.Stack n) w rest fits short is none = none n fits.0.0 fits.0.1 (first_same _ _ _ _ is)
no_argument (stmt.Save n) w rest fits short is none = none n fits.0.0 fits.0.1 (first_same _ _ _ _ is)
no_argument _ w rest fits short is none = absurd (cc)

-- the statements of some first words
text_of : (s : Stmt) → keyword_of_stmt s ≡ keywords.Text → (bytes : List ℕ) × (s ≡ stmt.Text bytes)
text_of (stmt.Text bytes) is = (bytes, refl)
text_of _ is = absurd (cc)

entry_of : (s : Stmt) → keyword_of_stmt s ≡ keywords.Entry → (label : ℕ) × (name : List ℕ) × (s ≡ stmt.Entry label name)
entry_of (stmt.Entry label name) is = (label, name, refl)
entry_of _ is = absurd (cc)

switch_of : (s : Stmt) → keyword_of_stmt s ≡ keywords.Switch → (default : ℕ) × (cases : List Case) × (s ≡ stmt.Switch default cases)
switch_of (stmt.Switch default cases) is = (default, cases, refl)
switch_of _ is = absurd (cc)

globals_of : (s : Stmt) → keyword_of_stmt s ≡ keywords.Globals → (entries : List GlobalEntry) × (s ≡ stmt.Globals entries)
globals_of (stmt.Globals entries) is = (entries, refl)
globals_of _ is = absurd (cc)

starts : (s : Stmt) (k : Keyword) (words : List (List ℕ)) → stmt_words s ≡ keyword_text k ∷ words → keyword_of_stmt s ≡ k
starts s k words is = same_keyword (keyword_of_stmt s) k (sym (begins_so s) ∙ first_same (keyword s) (keyword_text k) (argument_words s) words is)

-- the words of a statement whose first word is known
words_so : (s t : Stmt) (words : List (List ℕ)) → s ≡ t → stmt_words s ≡ keyword t ∷ words → argument_words t ≡ words
words_so s t words same is = rests_same (keyword t) (keyword t) (argument_words t) words (ap stmt_words (sym same) ∙ is)

no_byte : (bytes all : List ℕ) (w : List ℕ) (rest : List (List ℕ)) → Each IsByte bytes → Each IsByte all → length bytes < length all →
    byte_words all ≡ (byte_words bytes ++ w ∷ []) ++ rest → NoNatural 0 255 w → ⊥
no_byte bytes all w rest are fits short is none =
    let r = next_row ℕ byte_row IsByte byte_rows bytes all (w ∷ rest) [] are fits (sym (append_assoc (byte_words bytes) (w ∷ []) rest) ∙ sym is ∙ sym (append-nil (byte_words all))) short in
    none r.0 (omega arith) (omega (arith, r.3)) (sym (first_same w (natural_word r.0) _ _ r.4))

value_place : (value : ℤ) (cases : List Case) → has_value value cases ≡ true → (j : ℕ) × (c : Case) × (slice_get cases j ≡ Some c) × (c.value ≡ value)
value_place value [] is = absurd (let h : false ≡ true = is in cc)
value_place value (c ∷ cases) is = elim (cases_Bool (int_eq c.value value)) [
  | inl same ↦ (0, c, refl, (Decides-int_eq c.value value).0 same)
  | inr other ↦ let r = value_place value cases (sym (or-second (int_eq c.value value) (has_value value cases) other) ∙ is) in (suc r.0, r.1, r.2, r.3)
]

-- a case has a value that none before it has
new_value : (a c : List Case) (i : Case) → AreCases (a ++ i ∷ c) → has_value i.value a ≡ false
new_value a c i are = elim (cases_Bool (has_value i.value a)) [
  | inr free ↦ free
  | inl has ↦
      let p = value_place i.value a has in
      let same : p.0 ≡ length a = are.once p.0 (length a) p.1 i (get-append a (i ∷ c) p.0 p.1 p.2) (at_seam a i c) p.3 in
      absurd (omega (arith, same, slice_get_within a p.0 p.1 p.2))
]

abbrev Fits : List Case → Type 0
Fits cases = (k : ℕ) (c : Case) → slice_get cases k ≡ Some c → FitsSigned w32 c.value

each_case : (cases : List Case) → Fits cases → AreCases cases → Each IsCase cases
each_case cases fits are k c at = (fits k c at, are.labels k c at)

no_value : (cases all : List Case) (w : List ℕ) (rest : List (List ℕ)) → Fits cases → AreCases cases → Fits all → AreCases all → length cases < length all →
    case_words all ≡ (case_words cases ++ w ∷ []) ++ rest → ((z : ℤ) → FitsSigned w32 z → has_value z cases ≡ false → spelling z ≢ w) → ⊥
no_value cases all w rest fit are typed whole short is none =
    let r = next_row Case case_row IsCase case_rows cases all (w ∷ rest) [] (each_case cases fit are) (each_case all typed whole)
    (sym (append_assoc (case_words cases) (w ∷ []) rest) ∙ sym is ∙ sym (append-nil (case_words all))) short in
    none r.0.value r.3.0 (new_value cases r.1 r.0 (subst-cases r.2)) (sym (first_same w (spelling r.0.value) _ _ r.4))
  where
    subst-cases : {b : List Case} → all ≡ b → AreCases b
    subst-cases same = rw same at whole

no_case_label : (cases all : List Case) (value : ℤ) (w : List ℕ) (rest : List (List ℕ)) → Fits cases → AreCases cases → Fits all → AreCases all → length cases < length all →
    case_words all ≡ ((case_words cases ++ spelling value ∷ []) ++ w ∷ []) ++ rest → NoLabel w → ⊥
no_case_label cases all value w rest fit are typed whole short is none =
    let r = next_row Case case_row IsCase case_rows cases all (spelling value ∷ w ∷ rest) [] (each_case cases fit are) (each_case all typed whole)
    (sym (append_assoc (case_words cases) (spelling value ∷ []) (w ∷ rest)) ∙ sym (append_assoc (case_words cases ++ spelling value ∷ []) (w ∷ []) rest) ∙ sym is ∙ sym (append-nil (case_words all))) short in
    second_word value w rest r.0 (case_words r.1 ++ []) r.3.1 r.4 none
  where
    second_word : (v : ℤ) (w : List ℕ) (rest : List (List ℕ)) (c : Case) (more : List (List ℕ)) → IsLabel c.label → spelling v ∷ w ∷ rest ≡ case_row c ++ more → NoLabel w → ⊥
    second_word v w rest c more label is none = none c.label label (sym (first_same w (label_word c.label) rest more (rests_same (spelling v) (spelling c.value) (w ∷ rest) (label_word c.label ∷ more) is)))

no_number : (entries all : List GlobalEntry) (w : List ℕ) (rest : List (List ℕ)) → Each IsEntry entries → Each IsEntry all → length entries < length all →
    global_words all ≡ (global_words entries ++ w ∷ []) ++ rest → NoNatural 0 999 w → ⊥
no_number entries all w rest are fits short is none =
    let r = next_row GlobalEntry global_row IsEntry global_rows entries all (w ∷ rest) [] are fits (sym (append_assoc (global_words entries) (w ∷ []) rest) ∙ sym is ∙ sym (append-nil (global_words all))) short in
    none r.0.number (omega arith) r.3.0 (sym (first_same w (natural_word r.0.number) _ _ r.4))

no_global_label : (entries all : List GlobalEntry) (number : ℕ) (w : List ℕ) (rest : List (List ℕ)) → Each IsEntry entries → Each IsEntry all → length entries < length all →
    global_words all ≡ ((global_words entries ++ natural_word number ∷ []) ++ w ∷ []) ++ rest → NoLabel w → ⊥
no_global_label entries all number w rest are fits short is none =
    let r = next_row GlobalEntry global_row IsEntry global_rows entries all (natural_word number ∷ w ∷ rest) [] are fits
    (sym (append_assoc (global_words entries) (natural_word number ∷ []) (w ∷ rest)) ∙ sym (append_assoc (global_words entries ++ natural_word number ∷ []) (w ∷ []) rest) ∙ sym is ∙ sym (append-nil (global_words all))) short in
    second_word number w rest r.0 (global_words r.1 ++ []) r.3.1 r.4 none
  where
    second_word : (n : ℕ) (w : List ℕ) (rest : List (List ℕ)) (e : GlobalEntry) (more : List (List ℕ)) → IsLabel e.label → natural_word n ∷ w ∷ rest ≡ global_row e ++ more → NoLabel w → ⊥
    second_word n w rest e more label is none = none e.label label (sym (first_same w (label_word e.label) rest more (rests_same (natural_word n) (natural_word e.number) (w ∷ rest) (label_word e.label ∷ more) is)))

-- as many as the count says
long_as : (n count : ℕ) (s t : List (List ℕ)) → n < 2 ^ 31 → count < 2 ^ 31 → natural_word n ∷ s ≡ natural_word count ∷ t → n ≡ count
long_as n count s t few less is = natural_same n count few less (first_same (natural_word n) (natural_word count) s t is)

unfit_bytes : (owner : Owner) (bytes : List ℕ) (count : ℕ) (w : List ℕ) → Each IsByte bytes → count ≤ NAME_BYTES → length bytes < count → NoNatural 0 255 w →
    BeginNone ((owner_words owner ++ natural_word count ∷ byte_words bytes) ++ w ∷ [])
unfit_bytes owners.Text bytes count w are short due none s rest fits is =
    let t = text_of s (starts s keywords.Text _ is) in
    let own : IsStmt (stmt.Text t.0) = rw t.1 at fits in
    let words = words_so s (stmt.Text t.0) _ t.1 is in
    let long = long_as (length t.0) count _ _ (omega (arith, own.0)) (omega (arith, short)) words in
    no_byte bytes t.0 w rest are own.1 (omega (arith, long, due)) (rests_same _ _ _ _ words) none
unfit_bytes (owners.Entry label) bytes count w are short due none s rest fits is =
    let t = entry_of s (starts s keywords.Entry _ is) in
    let own : IsStmt (stmt.Entry t.0 t.1) = rw t.2 at fits in
    let words = rests_same _ _ _ _ (words_so s (stmt.Entry t.0 t.1) _ t.2 is) in
    let long = long_as (length t.1) count _ _ (omega (arith, own.0.1)) (omega (arith, short)) words in
    no_byte bytes t.1 w rest are own.1 (omega (arith, long, due)) (rests_same _ _ _ _ words) none

unfit_length : (owner : Owner) (w : List ℕ) → NoNatural 0 NAME_BYTES w → BeginNone (owner_words owner ++ w ∷ [])
unfit_length owners.Text w none s rest fits is = grind (arith, text_of, starts, first_same, words_so)
unfit_length (owners.Entry label) w none s rest fits is = grind (arith, entry_of, starts, first_same, rests_same, words_so)

-- with an unfit word no statement goes on
pub unfit_none : (b : Partial) (w : List ℕ) → IsPartialStmt b → IsUnfit b w → BeginNone (partial_words b ++ w ∷ [])
unfit_none (begun.Short k) w begun none s rest fits is =
    let same : keyword_of_stmt s ≡ k = starts s k _ is in
    no_argument s w rest fits (ap is_short same ∙ begun) (rests_same _ _ _ _ is) (rw (sym same) at none)
unfit_none begun.EntryLabel w begun none s rest fits is = grind (arith, entry_of, starts, first_same, words_so)
unfit_none (begun.Length owner) w begun none s rest fits is = unfit_length owner w none s rest fits is
unfit_none (begun.Bytes owner bytes count) w begun none s rest fits is = unfit_bytes owner bytes.items count w begun.1 begun.2 begun.3 none s rest fits is
unfit_none begun.CaseCount w begun none s rest fits is = grind (arith, switch_of, starts, first_same, words_so)
unfit_none (begun.Default count) w begun none s rest fits is = grind (arith, switch_of, starts, first_same, rests_same, words_so)
unfit_none (begun.CaseValue draft) w begun none s rest fits is =
    let t = switch_of s (starts s keywords.Switch _ is) in
    let own : IsStmt (stmt.Switch t.0 t.1) = rw t.2 at fits in
    let words = words_so s (stmt.Switch t.0 t.1) _ t.2 is in
    let long = long_as (length t.1) draft.count _ _ own.0.1.counted begun.0.counted words in
    no_value draft.cases.items t.1 w rest begun.0.typed begun.0.cases own.1 own.0.1 (omega (arith, long, begun.1)) (rests_same _ _ _ _ (rests_same _ _ _ _ words)) none
unfit_none (begun.CaseLabel draft value) w begun none s rest fits is =
    let t = switch_of s (starts s keywords.Switch _ is) in
    let own : IsStmt (stmt.Switch t.0 t.1) = rw t.2 at fits in
    let words = words_so s (stmt.Switch t.0 t.1) _ t.2 is in
    let long = long_as (length t.1) draft.count _ _ own.0.1.counted begun.0.0.counted words in
    no_case_label draft.cases.items t.1 value w rest begun.0.0.typed begun.0.0.cases own.1 own.0.1 (omega (arith, long, begun.0.1)) (rests_same _ _ _ _ (rests_same _ _ _ _ words)) none
unfit_none begun.GlobalCount w begun none s rest fits is = grind (arith, globals_of, starts, first_same, words_so)
unfit_none (begun.GlobalNumber draft) w begun none s rest fits is =
    let t = globals_of s (starts s keywords.Globals _ is) in
    let own : IsStmt (stmt.Globals t.0) = rw t.1 at fits in
    let words = words_so s (stmt.Globals t.0) _ t.1 is in
    let long = long_as (length t.0) draft.count _ _ own.0.counted begun.0.counted words in
    no_number draft.entries.items t.0 w rest begun.0.entries.in_range own.0.in_range (omega (arith, long, begun.1)) (rests_same _ _ _ _ words) none
unfit_none (begun.GlobalLabel draft number) w begun none s rest fits is =
    let t = globals_of s (starts s keywords.Globals _ is) in
    let own : IsStmt (stmt.Globals t.0) = rw t.1 at fits in
    let words = words_so s (stmt.Globals t.0) _ t.1 is in
    let long = long_as (length t.0) draft.count _ _ own.0.counted begun.0.0.counted words in
    no_global_label draft.entries.items t.0 number w rest begun.0.0.entries.in_range own.0.in_range (omega (arith, long, begun.0.1)) (rests_same _ _ _ _ words) none

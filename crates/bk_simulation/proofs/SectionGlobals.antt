-- The globals that a section sets are those of the one GLOBAL at its end; settings, section by section.
use Rattle.bk_simulation.proofs.Pieces.{Codes, ◌≡◌, ℕ, suc, ◌+◌, Bool, true, false, not, List, [], ◌∷◌, ◌++◌, length, map, Some, None, refl, sym, ap, ◌∙◌, subst, if◌then◌else◌, arith, slice_get, take, append_assoc, append-nil, Declarations, AreFaultless, joined, Placement, Placed, entry_setting, stmt_globals, globals_of, all_globals, GlobalEntry, Stmt, Number, Globals, named_tree, Part, target_of, parts_of_declarations, procedure_code, data_code, entries_of, scheme, objects_of_declarations, Lasting, global_vector, words, code, of_declarations, of_sections, Context, at_start, after, after_all, context_of, misplaced, label_not_set, label_set_twice, depths_disagree, slot_above, too_long, stmt_fault, role, may_stand, position_after, Represent}
use Rattle.bk_base.specs.declared.ocode_fault.OcodeKind.TheVariants as kind
use Rattle.bk_simulation.proofs.LastingFits.{setting_of, settings}

-- ---- nothing stands behind GLOBAL

-- no statement behind this context is misplaced
abbrev Standing : Context → List Stmt → Type 0
Standing c stmts = (k : ℕ) (t : Stmt) → slice_get stmts k ≡ Some t → misplaced (after_all c (take k stmts)) t ≡ false

no_more : (fs : List GlobalEntry) (t : Stmt) → not (may_stand (position_after (Globals fs)) (role t)) ≡ true
no_more fs (Number v) = refl
no_more fs _ = refl

not_misplaced : (before : List Stmt) (s : Stmt) → stmt_fault before s ≡ None → misplaced (context_of before) s ≡ false
not_misplaced before s e = by_test (misplaced (context_of before) s) e
  where
    by_test : (b : Bool)
        → (if b then Some kind.BadWord else if label_not_set before (context_of before) s then Some kind.LabelNotSet else if label_set_twice (context_of before) s then Some kind.LabelSetTwice
        else if depths_disagree (context_of before) s then Some kind.DepthsDisagree else if slot_above (context_of before) s then Some kind.SlotAboveDepth else if too_long (context_of before) s then Some kind.TooLong else None) ≡ None → b ≡ false
    by_test true e = absurd (let z : Some kind.BadWord ≡ None = e in cc)
    by_test false e = refl

behind_global : (c : Context) (fs : List GlobalEntry) (t : Stmt) (rest : List Stmt) → Standing c (Globals fs ∷ t ∷ rest) → ⊥
behind_global c fs t rest are = let z : true ≡ false = sym (no_more fs t) ∙ are 1 t refl in cc

globals_last : (places : Placement) (c : Context) (xs : List Stmt) (es : List GlobalEntry) → Standing c (xs ++ Globals es ∷ []) → globals_of places (xs ++ Globals es ∷ []) ≡ map (entry_setting places) es
globals_last places c [] es are = append-nil (map (entry_setting places) es)
globals_last places c (s ∷ xs) es are = ap (λ y. y ++ globals_of places (xs ++ Globals es ∷ [])) (by_stmt s are) ∙ globals_last places (after c s) xs es (λ k t at. are (suc k) t at)
  where
    following : (fs : List GlobalEntry) (ys : List Stmt) → Standing c (Globals fs ∷ ys ++ Globals es ∷ []) → ⊥
    following fs [] are = behind_global c fs (Globals es) [] are
    following fs (y ∷ ys) are = behind_global c fs y (ys ++ Globals es ∷ []) are

    by_stmt : (s : Stmt) → Standing c (s ∷ xs ++ Globals es ∷ []) → stmt_globals places s ≡ []
    by_stmt (Globals fs) are = absurd (following fs xs are)
    by_stmt s are = refl

pub section_globals : (places : Placement) (ds : Declarations) → AreFaultless (scheme (named_tree ds))
    → globals_of places (scheme (named_tree ds)) ≡ map (entry_setting places) (joined entries_of (parts_of_declarations 2 1 (named_tree ds)))
section_globals places ds are =
    let ps : List Part = parts_of_declarations 2 1 (named_tree ds) in
    let es : List GlobalEntry = joined entries_of ps in
    let front : List Stmt = joined (procedure_code (joined target_of ps)) ps in
    let back : List Stmt = joined data_code ps in
    globals_last places at_start (front ++ back) es (λ k t at. not_misplaced (take k (scheme (named_tree ds))) t (are.faultless k t at))

-- ---- settings

pub settings_append : (codes : Codes) (n : ℕ) (xs ys : List Lasting) → settings codes n (xs ++ ys) ≡ settings codes n xs ++ settings codes (n + length xs) ys
settings_append codes n [] ys = ap (λ k. settings codes k ys) (let e : n ≡ n + 0 = omega arith in e)
settings_append codes n (global_vector ∷ xs) ys = settings_append codes (suc n) xs ys ∙ ap (λ k. settings codes (suc n) xs ++ settings codes k ys) (let e : suc n + length xs ≡ n + suc (length xs) = omega arith in e)
settings_append codes n (words ws ∷ xs) ys = settings_append codes (suc n) xs ys ∙ ap (λ k. settings codes (suc n) xs ++ settings codes k ys) (let e : suc n + length xs ≡ n + suc (length xs) = omega arith in e)
settings_append codes n (code f ∷ xs) ys =
    ap (λ y. setting_of codes n f.global ++ y) (settings_append codes (suc n) xs ys ∙ ap (λ k. settings codes (suc n) xs ++ settings codes k ys) (let e : suc n + length xs ≡ n + suc (length xs) = omega arith in e))
    ∙ sym (append_assoc (setting_of codes n f.global) (settings codes (suc n) xs) (settings codes (n + suc (length xs)) ys))

-- what a section sets, where its objects have numbers from this one on
pub record SetsSame (codes : Codes) (own : Placed) (n : ℕ) (ds : Declarations) : Type 0 where
  pub same : map (entry_setting own.places) (joined entries_of (parts_of_declarations 2 1 (named_tree ds))) ≡ settings codes n (of_declarations (record { names = []; next = n }) ds)
  pub many : length (of_declarations (record { names = []; next = n }) ds) ≡ objects_of_declarations ds

-- and each of several
abbrev pub SetSame : Codes → ℕ → List Declarations → List Placed → Type 0
SetSame codes n [] [] = Unit {0}
SetSame codes n (ds ∷ rest) (own ∷ others) = SetsSame codes own n ds × SetSame codes (n + objects_of_declarations ds) rest others
SetSame codes n _ _ = ⊥

pub all_set_same : (codes : Codes) (n : ℕ) (sections : List Declarations) (owns : List Placed) → Represent sections owns → ((i : ℕ) (own : Placed) → slice_get owns i ≡ Some own → AreFaultless own.stmts) → SetSame codes n sections owns
    → all_globals owns ≡ settings codes n (of_sections n sections)
all_set_same codes n [] [] st are h = refl
all_set_same codes n (ds ∷ rest) (own ∷ others) st are h =
    let xs : List Lasting = of_declarations (record { names = []; next = n }) ds in
    let ys : List Lasting = of_sections (n + objects_of_declarations ds) rest in
    let e : globals_of own.places own.stmts ≡ settings codes n xs = ap (globals_of own.places) st.0 ∙ section_globals own.places ds (subst AreFaultless st.0 (are 0 own refl)) ∙ h.0.same in
    ap (λ y. y ++ all_globals others) e
    ∙ ap (λ y. settings codes n xs ++ y) (all_set_same codes (n + objects_of_declarations ds) rest others st.1 (λ i o at. are (suc i) o at) h.1)
    ∙ ap (λ k. settings codes n xs ++ settings codes k ys) (let q = h.0.many in let z : n + objects_of_declarations ds ≡ n + length xs = omega arith in z)
    ∙ sym (settings_append codes n xs ys)
all_set_same codes n _ _ st are h = absurd st

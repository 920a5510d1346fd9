-- Labels of a switch and of globals, and the context of statements, one statement more.
use Rattle.bk_ocode.proofs.Depths.{keeps_in, append-nil, ◌≡◌, ℕ, ◌+◌, ◌-◌, ◌<◌, ◌≤◌, ◌++◌, ◌||◌, ◌&&◌, Bool, true, false, is_some, get_or, take, not, nat_lt, nat_le, List, [], ◌∷◌, None, length, map, arith, refl, sym, ap, ◌∙◌, ltb-false, leb-false, list_all, list_any, map-append, take_more, FRAME_WORDS, OCODE_STATEMENTS, OCODE_WORDS, stmt_words, next_depth, position_after, Context, at_start, changed, all_changed, label_followed, labels_named, start_from, start_after, after, after_all, context_of, is_lab_from, is_other_lab, jumps_set, result_named, own_disagrees, is_entry, data_set, label_not_set, fault_in, Position, LabelUse, Case, GlobalEntry, Stmt, Entry, Switch, Globals, or_parts}

any-map : {X : Type 0} (f : ℕ → Bool) (g : X → ℕ) (xs : List X) → list_any (λ x. f (g x)) xs ≡ list_any f (map g xs)
any-map f g [] = refl
any-map f g (x ∷ xs) = ap (λ b. f (g x) || b) (any-map f g xs)

any-map-nil : {X : Type 0} (f : ℕ → Bool) (g : X → ℕ) (xs : List X) → list_any (λ x. f (g x)) xs ≡ list_any f (map g xs ++ [])
any-map-nil f g xs = any-map f g xs ∙ ap (list_any f) (sym (append-nil (map g xs)))

all-map : {X : Type 0} (f : ℕ → Bool) (g : X → ℕ) (xs : List X) → list_all (λ x. f (g x)) xs ≡ list_all f (map g xs)
all-map f g [] = refl
all-map f g (x ∷ xs) = ap (λ b. f (g x) && b) (all-map f g xs)

pub jumps_set-switch : (c : Context) (s : Stmt) (default : ℕ) (cases : List Case) → s ≡ Switch default cases → is_lab_from c.start (c.uses default).setting ≡ true →
    list_all (λ e. is_lab_from c.start (c.uses e.label).setting) cases ≡ jumps_set c s
jumps_set-switch c s default cases is first =
    let f : ℕ → Bool = λ label. is_lab_from c.start (c.uses label).setting in
    all-map f (λ e. e.label) cases ∙ ap (list_all f) (sym (append-nil (map (λ e. e.label) cases))) ∙ ap (λ b. b && list_all f (map (λ e. e.label) cases ++ [])) (sym first) ∙ ap (jumps_set c) (sym is)

pub own_disagrees-switch : (c : Context) (s : Stmt) (default : ℕ) (cases : List Case) → s ≡ Switch default cases → is_other_lab (c.depth - 1) (c.uses default).setting ≡ false →
    list_any (λ e. is_other_lab (c.depth - 1) (c.uses e.label).setting) cases ≡ own_disagrees c s
own_disagrees-switch c s default cases is first =
    let f : ℕ → Bool = λ label. is_other_lab (c.depth - 1) (c.uses label).setting in
    any-map f (λ e. e.label) cases ∙ ap (λ b. b || list_any f (map (λ e. e.label) cases)) (sym first) ∙ ap (own_disagrees c) (sym is)

pub result_named-switch : (c : Context) (s : Stmt) (default : ℕ) (cases : List Case) → s ≡ Switch default cases → is_some (c.uses default).result ≡ false →
    list_any (λ e. is_some (c.uses e.label).result) cases ≡ result_named c s
result_named-switch c s default cases is first =
    let f : ℕ → Bool = λ label. is_some (c.uses label).result in
    any-map-nil f (λ e. e.label) cases ∙ ap (λ b. b || list_any f (map (λ e. e.label) cases ++ [])) (sym first) ∙ ap (result_named c) (sym is)

pub result_named-globals : (c : Context) (s : Stmt) (entries : List GlobalEntry) → s ≡ Globals entries →
    list_any (λ e. is_some (c.uses e.label).result) entries ≡ result_named c s
result_named-globals c s entries is =
    any-map-nil (λ label. is_some (c.uses label).result) (λ e. e.label) entries ∙ ap (result_named c) (sym is)

pub all_changed-push : (ls : List ℕ) (l : ℕ) (change : LabelUse → LabelUse) (uses : ℕ → LabelUse) → all_changed (ls ++ l ∷ []) change uses ≡ changed l change (all_changed ls change uses)
all_changed-push [] l change uses = refl
all_changed-push (m ∷ ls) l change uses = all_changed-push ls l change (changed m change uses)

after_all-push : (c : Context) (before : List Stmt) (s : Stmt) → after_all c (before ++ s ∷ []) ≡ after (after_all c before) s
after_all-push c [] s = refl
after_all-push c (t ∷ before) s = after_all-push (after c t) before s

pub context_of-push : (before all : List Stmt) (s : Stmt) → all ≡ before ++ s ∷ [] → context_of all ≡ after (context_of before) s
context_of-push before all s is = ap context_of is ∙ after_all-push at_start before s

pub label_not_set-globals : (before : List Stmt) (c : Context) (s : Stmt) (entries : List GlobalEntry) → s ≡ Globals entries →
    not (list_all (data_set c) before && list_all (λ e. is_entry (c.uses e.label).setting) entries) ≡ label_not_set before c s
label_not_set-globals before c s entries is =
    ap (λ b. not (list_all (data_set c) before && b)) (all-map (λ label. is_entry (c.uses label).setting) (λ e. e.label) entries) ∙ ap (label_not_set before c) (sym is)

all_changed-more : (cases : List Case) (i : ℕ) (d : Case) (change : LabelUse → LabelUse) (uses : ℕ → LabelUse) → i < length cases →
    changed (get_or cases i d).label change (all_changed (map (λ e. e.label) (take i cases)) change uses) ≡ all_changed (map (λ e. e.label) (take (i + 1) cases)) change uses
all_changed-more cases i d change uses low =
    sym (all_changed-push (map (λ e. e.label) (take i cases)) (get_or cases i d).label change uses)
    ∙ ap (λ (ls : List ℕ). all_changed ls change uses) (sym (map-append (λ e. e.label) (take i cases) (get_or cases i d ∷ [])))
    ∙ ap (λ (xs : List Case). all_changed (map (λ e. e.label) xs) change uses) (sym (take_more cases i d low))

pub jumped_more : (cases : List Case) (i : ℕ) (d : Case) (change : LabelUse → LabelUse) (uses before now : ℕ → LabelUse) → i < length cases →
    before ≡ all_changed (map (λ e. e.label) (take i cases)) change uses → now ≡ changed (get_or cases i d).label change before → now ≡ all_changed (map (λ e. e.label) (take (i + 1) cases)) change uses
jumped_more cases i d change uses before now low are is = is ∙ ap (λ (u : ℕ → LabelUse). changed (get_or cases i d).label change u) are ∙ all_changed-more cases i d change uses low

pub named_so : (c : Context) (s : Stmt) (count : ℕ) (mid new : ℕ → LabelUse) → count ≡ c.count → mid ≡ label_followed c.position s c.uses → new ≡ labels_named c.depth count s mid →
    new ≡ labels_named c.depth c.count s (label_followed c.position s c.uses)
named_so c s count mid new same are is = is ∙ ap (λ (n : ℕ). labels_named c.depth n s mid) same ∙ ap (λ (u : ℕ → LabelUse). labels_named c.depth c.count s u) are

pub start_from-low : (count start : ℕ) (s : Stmt) → start ≤ count → start_from count start s ≤ count
start_from-low count start (Entry label name) low = omega arith
start_from-low count start _ low = low

pub context-push : (old : Context) (before all : List Stmt) (s : Stmt) (count words : ℕ) (position : Position) (depth start : ℕ) (uses : ℕ → LabelUse) → old ≡ context_of before → all ≡ before ++ s ∷ [] →
    count ≡ old.count + 1 → words ≡ old.words + length (stmt_words s) → position ≡ position_after s → depth ≡ next_depth old.depth s → start ≡ start_after old s →
    uses ≡ labels_named old.depth old.count s (label_followed old.position s old.uses) →
    record { count = count; words = words; position = position; depth = depth; start = start; uses = uses } ≡ context_of all
context-push old before all s count words position depth start uses is whole a b c d e f = grind (arith, context_of-push)

-- a statement without a fault keeps the limits
pub fits_behind : (before : List Stmt) (c : Context) (s : Stmt) → c ≡ context_of before → fault_in before (context_of before) s ≡ None →
    (next_depth c.depth s ≤ FRAME_WORDS) × (c.words + length (stmt_words s) ≤ OCODE_WORDS) × (c.count < OCODE_STATEMENTS)
fits_behind before c s is none = grind (arith, keeps_in, ltb-false, leb-false)

-- The steps of a table of names: one binding more, one less, and what stands at a name's place.
use Rattle.bk_scope.proofs.Terms.{◌≡◌, ℕ, ◌+◌, ◌-◌, ◌<◌, Bool, true, false, cond, Option, Some, None, List, [], ◌∷◌, ◌++◌, map, length, drop, get_or, refl, sym, ap, ◌∙◌, subst, ⊎_elim, arith, rules, IsSome, reverse, option_flatten, bytes_eq, get_by, UpdatesBy, lookup, cases_Bool, cond-true, cond-false, reverse-append, length-map, length-reverse, length-drop, drop-drop, reverse-reverse, get_or_at, get_or_append_left, bytes_eq-Decides, Binding, bound_in, NameKey, Entry, binding_of, scope_of, place_in, HaveHidden, mapped_place, IsTable, eq-value}
use Rattle.bk_scope.specs.declared.table.Table.TheInside.{Inside}
use Rattle.bk_scope.proofs.Keys.{updates_letters}

scope_of-push : (es : List Entry) (e : Entry) → scope_of (es ++ e ∷ []) ≡ binding_of e ∷ scope_of es
scope_of-push es e = ap (map binding_of) (reverse-append es (e ∷ []))

pub length-scope_of : (es : List Entry) → length (scope_of es) ≡ length es
length-scope_of es = length-map (reverse es) binding_of ∙ length-reverse es

-- the map's place for one name is changed
abbrev pub Puts : Inside → NameKey → Option ℕ → Inside → Type 0
Puts t k o u = UpdatesBy eq-value.it (eq-value.it k) t.innermost u.innermost (Some o)

flatten-cond : (b : Bool) (o : Option ℕ) (p : Option (Option ℕ)) → option_flatten (cond b (Some o) p) ≡ cond b o (option_flatten p)
flatten-cond true o p = refl
flatten-cond false o p = refl

mapped_place-put : (t u : Inside) (k : NameKey) (o : Option ℕ) → Puts t k o u → (y : List ℕ) → mapped_place u y ≡ cond (bytes_eq k.letters.now y) o (mapped_place t y)
mapped_place-put t u k o puts y =
    ap option_flatten (updates_letters k t.innermost u.innermost (Some o) puts y)
    ∙ flatten-cond (bytes_eq k.letters.now y) o (lookup (λ (l : NameKey). bytes_eq y l.letters.now) t.innermost.entries)

-- one binding more
pub IsTable-push : (t u : Inside) (e : Entry) (i : ℕ) → IsTable t → u.bindings.items ≡ t.bindings.items ++ e ∷ [] → i ≡ length t.bindings.items
    → e.hidden ≡ place_in (scope_of t.bindings.items) e.name.letters.now → Puts t e.name (Some i) u → IsTable u
IsTable-push t u e i before items last hidden puts = grind (arith, mapped_place-put, place_in, length-scope_of, scope_of-push, reverse-append)

place_in-uncovered : (bs : List Binding) (x y : List ℕ) (k : ℕ) (o h : Option ℕ) → o ≡ cond (bytes_eq x y) (Some k) (place_in bs y) → h ≡ place_in bs x
    → cond (bytes_eq x y) h o ≡ place_in bs y
place_in-uncovered bs x y k o h before hidden = grind (arith, cond-true, place_in, bytes_eq-Decides, cond-false)

-- one binding less
pub IsTable-pop : (t u : Inside) (e : Entry) → IsTable t → t.bindings.items ≡ u.bindings.items ++ e ∷ [] → Puts t e.name e.hidden u → IsTable u
IsTable-pop t u e before items puts =
    let es = u.bindings.items in
    let P : List Entry → Type 0 = HaveHidden in
    let rest : HaveHidden (e ∷ reverse es) = subst P (ap reverse items ∙ reverse-append es (e ∷ [])) before.hidden in
    record {
      places = λ x. mapped_place-put t u e.name e.hidden puts x
          ∙ place_in-uncovered (scope_of es) e.name.letters.now x (length (scope_of es)) (mapped_place t x) e.hidden
          (before.places x ∙ ap (λ bs. place_in bs x) (ap scope_of items ∙ scope_of-push es e)) rest.0;
      hidden = rest.1;
    }

IsSome-flatten : (o : Option (Option ℕ)) (i : ℕ) → option_flatten o ≡ Some i → IsSome o
IsSome-flatten None i h = let f : ◌≡◌ {A = Option ℕ} None (Some i) = h in absurd (cc)
IsSome-flatten (Some p) i h = search rules

-- the map has the name of the innermost binding
pub IsSome-innermost : (t : Inside) (es : List Entry) (e : Entry) → IsTable t → t.bindings.items ≡ es ++ e ∷ [] → IsSome (get_by (eq-value.it e.name) t.innermost)
IsSome-innermost t es e before items =
    IsSome-flatten (get_by (eq-value.it e.name) t.innermost) (length (scope_of es))
    (before.places e.name.letters.now ∙ ap (λ bs. place_in bs e.name.letters.now) (ap scope_of items ∙ scope_of-push es e)
    ∙ cond-true _ (Some (length (scope_of es))) (place_in (scope_of es) e.name.letters.now) ((bytes_eq-Decides e.name.letters.now e.name.letters.now).1 refl))

-- what is left of a list, with one less, is what is left of the list
pub drop-one_less : (s t u : List Binding) → t ≡ drop (length s - length t) s → u ≡ drop 1 t → 0 < length t → u ≡ drop (length s - length u) s
drop-one_less s t u before one some =
    let whole : length t ≡ length s - (length s - length t) = ap length before ∙ length-drop (length s - length t) s in
    let less : length u ≡ length t - 1 = ap length one ∙ length-drop 1 t in
    let place : (length s - length t) + 1 ≡ length s - length u = omega arith in
    one ∙ ap (drop 1) before ∙ drop-drop 1 (length s - length t) s ∙ ap (λ n. drop n s) place

-- what stands at a name's place

pub bound_in-without_place : (bs : List Binding) (x : List ℕ) → place_in bs x ≡ None → bound_in bs x ≡ None
bound_in-without_place [] x h = refl
bound_in-without_place (b ∷ bs) x h =
    ⊎_elim (λ e. let f : Some (length bs) ≡ None = sym (cond-true _ (Some (length bs)) (place_in bs x) e) ∙ h in cc)
    (λ e. cond-false _ (Some b.bound) (bound_in bs x) e ∙ bound_in-without_place bs x (sym (cond-false _ (Some (length bs)) (place_in bs x) e) ∙ h))
    (cases_Bool (bytes_eq b.name x))

pub place_in-below : (bs : List Binding) (x : List ℕ) (i : ℕ) → place_in bs x ≡ Some i → i < length bs
place_in-below [] x i h = let f : ◌≡◌ {A = Option ℕ} None (Some i) = h in absurd (cc)
place_in-below (b ∷ bs) x i h =
    ⊎_elim (λ e. let f : Some (length bs) ≡ Some i = sym (cond-true _ (Some (length bs)) (place_in bs x) e) ∙ h in
    let g : length bs ≡ i = cc in omega arith)
    (λ e. omega (arith, place_in-below bs x i (sym (cond-false _ (Some (length bs)) (place_in bs x) e) ∙ h))) (cases_Bool (bytes_eq b.name x))

-- of entries with the innermost first
bound_at_reversed : (es : List Entry) (x : List ℕ) (i : ℕ) (d : Entry) → place_in (map binding_of es) x ≡ Some i
    → bound_in (map binding_of es) x ≡ Some (get_or (reverse es) i d).bound
bound_at_reversed [] x i d h = let f : ◌≡◌ {A = Option ℕ} None (Some i) = h in absurd (cc)
bound_at_reversed (e ∷ es) x i d h =
    let bs = map binding_of es in
    ⊎_elim (λ t. let f : Some (length bs) ≡ Some i = sym (cond-true _ (Some (length bs)) (place_in bs x) t) ∙ h in
    let g : length bs ≡ i = cc in
    cond-true _ (Some e.bound) (bound_in bs x) t ∙ ap (λ (r : Entry). Some r.bound) (sym (ap (λ l. get_or l i d) (reverse-append (e ∷ []) es)
    ∙ get_or_at (reverse es) e [] d i (length-reverse es ∙ sym (length-map es binding_of) ∙ g))))
    (λ f. let rest = sym (cond-false _ (Some (length bs)) (place_in bs x) f) ∙ h in
    let below : i < length (reverse es) = omega (arith, place_in-below bs x i rest, length-map es binding_of, length-reverse es) in
    cond-false _ (Some e.bound) (bound_in bs x) f ∙ bound_at_reversed es x i d rest
    ∙ ap (λ (r : Entry). Some r.bound) (sym (ap (λ l. get_or l i d) (reverse-append (e ∷ []) es) ∙ get_or_append_left (reverse es) (e ∷ []) d i below)))
    (cases_Bool (bytes_eq e.name.letters.now x))

pub bound_at_place : (es : List Entry) (x : List ℕ) (i : ℕ) (d : Entry) → place_in (scope_of es) x ≡ Some i → bound_in (scope_of es) x ≡ Some (get_or es i d).bound
bound_at_place es x i d h = bound_at_reversed (reverse es) x i d h ∙ ap (λ l. Some (get_or l i d).bound) (reverse-reverse es)

-- what the map has at a key is the place of the name's innermost binding
pub place_by_key : (t : Inside) (k : NameKey) (x : List ℕ) (bs : List Binding) → IsTable t → scope_of t.bindings.items ≡ bs → k.letters.now ≡ x
    → option_flatten (get_by (eq-value.it k) t.innermost) ≡ place_in bs x
place_by_key t k x bs is view same = is.places k.letters.now ∙ ap (place_in (scope_of t.bindings.items)) same ∙ ap (λ cs. place_in cs x) view

-- The pass and what is told: procedures.
use Rattle.bk_scope.proofs.Terms.{◌≡◌, ℕ, ◌+◌, ◌*◌, ◌^◌, ◌≤◌, ◌<◌, Bool, true, false, cond, Option, Some, None, List, [], ◌∷◌, ◌++◌, length, refl, sym, ap, ◌∙◌, subst, append_assoc, arith, nat_lt, append-nil, FRAME_WORDS, Mention, Expression, Command, routine, function, Bound, Constant, Global, Static, Variable, Label, Enclosing, Value, Binding, bound_in, text_of, declared_twice, frame_too_large, two_procedures, kept, labelled, called, Stage, labels_of, with_labels, with_formals, Defined, evaluated, done, one_defined, listed, all_listed, sets, named_as, headed, frame_wrong, Spot, onward, symbols, symbols_done, numbers, numbers_done, Fault, Point, meaning, word, depth, wrong, claim, at, claimed, claims_after, judged, in_order, first_reported, meanings_of, words_of, deepest, without_depths, labels_in_scope, reported, reported_done, reported_one_defined, one_of, each_of, its_meaning, its_global, its_frame, inside_procedure, procedure}
use Rattle.bk_scope.specs.Found.{Found, Claim, naming, setting, is_claimed, else_first, breaks, claims_new, claims_once, takes, opens, following}
use Rattle.bk_scope.proofs.Lists.{Inside, AllInside, inside_append, inside_wider, judged_inside, order_apart, first_append, meanings_append}
use Rattle.bk_scope.proofs.Tied.{Tied, Spans, both, wider, behind_it, else_none, nothing_told, then}
use Rattle.bk_scope.proofs.Operators.{ETied, EInside, CTied, CInside}
use Rattle.bk_scope.proofs.Scopes.{moved, moved_tied, recount, no_span, labels_taken}

-- a claim
once_first : (b : Bool) (c : Claim) (x : Fault) (f : Found) → (cond b (breaks x.at x.wrong f) (claims_new c f)).first ≡ else_first f.first (first_reported (in_order (cond b (x ∷ []) [] ++ [])))
once_first true c x f = refl
once_first false c x f = sym (else_none f.first)

once_claims : (b : Bool) (c : Claim) (x : Fault) (f : Found) → (cond b (breaks x.at x.wrong f) (claims_new c f)).claims ≡ cond b f.claims (c ∷ f.claims)
once_claims true c x f = refl
once_claims false c x f = refl

once_rest : (b : Bool) (c : Claim) (x : Fault) (f : Found) → let g : Found = cond b (breaks x.at x.wrong f) (claims_new c f) in (g.meanings ≡ f.meanings) × (g.words ≡ f.words) × (g.next ≡ f.next) × (g.deepest ≡ f.deepest)
once_rest true c x f = (refl, refl, refl, refl)
once_rest false c x f = (refl, refl, refl, refl)

pub claim_tied : (c : Claim) (x : Fault) (f : Found) → Tied (claim c x ∷ []) 0 f (claims_once c x.at x.wrong f)
claim_tied c x f = grind (arith, deepest, once_rest, once_first, once_claims, append-nil)

pub listed_tied : (m n l : ℕ) (x : List ℕ) (f : Found) → Tied (one_of m n l x) 0 f (listed m l x f)
listed_tied m n l x f = claim_tied (naming m x) (record { place = n; at = l; wrong = declared_twice (text_of x) }) f

pub one_spans : (m n l : ℕ) (x : List ℕ) → Spans n (n + 1) (one_of m n l x)
one_spans m n l x = record { inside = (omega arith, omega arith, tt) }

pub each_spans : (m n : ℕ) (xs : List Mention) → Spans n (n + length xs) (each_of m n xs)
each_spans m n [] = wider n (n + 0) (no_span n) (omega arith) (omega arith)
each_spans m n (x ∷ xs) = wider _ _ (both (one_spans m n x.at x.letters) (each_spans m (n + 1) xs) (omega arith) (omega arith)) (omega arith) (omega arith)

pub each_tied : (m n : ℕ) (xs : List Mention) (f : Found) → Tied (each_of m n xs) 0 f (all_listed m xs f)
each_tied m n [] f = nothing_told f
each_tied m n (x ∷ xs) f =
    recount 0 (behind_it (one_spans m n x.at x.letters) (each_spans m (n + 1) xs) (omega arith) (listed_tied m n x.at x.letters f) (each_tied m (n + 1) xs (listed m x.at x.letters f))) (omega arith)

global_tied : (n l : ℕ) (x : List ℕ) (b : Option Bound) (f : Found) → Tied (its_global n l x b) 0 f (sets l x b f)
global_tied n l x (Some (Global (Some g))) f = claim_tied (setting g) (record { place = n; at = l; wrong = two_procedures (text_of x) }) f
global_tied n l x _ f = nothing_told f

global_inside : (n l : ℕ) (x : List ℕ) (b : Option Bound) → Inside (32 * n + 27) (32 * (n + 1)) (its_global n l x b)
global_inside n l x (Some (Global (Some g))) = (omega arith, omega arith, tt)
global_inside n l x _ = tt

module _ (n l : ℕ) (xs : List Point) where
  frame_judged : (b : Bool) (cs : List Claim) → judged cs (cond b (at n l frame_too_large) [] ++ xs) ≡ cond b (record { place = n; at = l; wrong = frame_too_large } ∷ []) [] ++ judged cs xs
  frame_judged true cs = refl
  frame_judged false cs = refl

  frame_silent : (b : Bool) → let ys : List Point = cond b (at n l frame_too_large) [] ++ xs in
      ((cs : List Claim) → claims_after cs ys ≡ claims_after cs xs) × (meanings_of ys ≡ meanings_of xs) × (words_of ys ≡ words_of xs) × ((d : ℕ) → deepest d ys ≡ deepest d xs)
  frame_silent true = (λ cs. refl, refl, refl, λ d. refl)
  frame_silent false = (λ cs. refl, refl, refl, λ d. refl)

  frame_inside : (b : Bool) (e : ℕ) → Inside (32 * n + 15) e xs → 32 * n + 27 ≤ e → Inside (32 * n + 15) e (cond b (at n l frame_too_large) [] ++ xs)
  frame_inside true e h g = (omega arith, omega (arith, g), h)
  frame_inside false e h g = h

frame_first : (b : Bool) (n l : ℕ) → first_reported (in_order (cond b (record { place = n; at = l; wrong = frame_too_large } ∷ []) [])) ≡ cond b (Some (record { at = l; wrong = frame_too_large })) None
frame_first true n l = refl
frame_first false n l = refl

frame_faults : (b : Bool) (n l : ℕ) → AllInside (32 * n + 15) (32 * n + 27) (cond b (record { place = n; at = l; wrong = frame_too_large } ∷ []) [])
frame_faults true n l = (omega arith, omega arith, tt)
frame_faults false n l = tt

-- these say the same of faults, claims, words and the frame, and stand as far
record Same (xs ys : List Point) : Type 0 where
  judged_so : (cs : List Claim) → judged cs xs ≡ judged cs ys
  claims_so : (cs : List Claim) → claims_after cs xs ≡ claims_after cs ys
  words_so : words_of xs ≡ words_of ys
  within_so : (n m : ℕ) → Inside n m ys → Inside n m xs

-- a name's meaning says nothing of the rest
name_same : (b : Option Bound) (xs : List Point) → Same (its_meaning b ++ xs) xs
name_same None xs = record { judged_so = λ cs. refl; claims_so = λ cs. refl; words_so = refl; within_so = λ n m h. h }
name_same (Some b) xs = record { judged_so = λ cs. refl; claims_so = λ cs. refl; words_so = refl; within_so = λ n m h. h }

name_deepest : (b : Option Bound) (xs : List Point) (d : ℕ) → deepest d (its_meaning b ++ xs) ≡ deepest d xs
name_deepest None xs d = refl
name_deepest (Some b) xs d = refl

named_found : (b : Option Bound) (f : Found) → ((named_as b f).claims ≡ f.claims) × ((named_as b f).meanings ≡ f.meanings ++ meanings_of (its_meaning b)) × ((named_as b f).words ≡ f.words) × ((named_as b f).next ≡ f.next)
named_found None f = (refl, sym (append-nil f.meanings), refl, refl)
named_found (Some b) f = (refl, refl, refl, refl)

-- without the depths
flat_same : (xs : List Point) → Same (without_depths xs) xs
flat_same [] = record { judged_so = λ cs. refl; claims_so = λ cs. refl; words_so = refl; within_so = λ n m h. h }
flat_same (wrong f ∷ xs) =
    let h = flat_same xs in record { judged_so = λ cs. ap (λ l. f ∷ l) (h.judged_so cs); claims_so = h.claims_so; words_so = h.words_so; within_so = λ n m i. (i.0, i.1, h.within_so n m i.2) }
flat_same (claim c f ∷ xs) =
    let h = flat_same xs in
    record {
      judged_so = λ cs. ap (λ l. cond (is_claimed c cs) (f ∷ []) [] ++ l) (h.judged_so (claimed c cs));
      claims_so = λ cs. h.claims_so (claimed c cs);
      words_so = h.words_so;
      within_so = λ n m i. (i.0, i.1, h.within_so n m i.2);
    }
flat_same (word v ∷ xs) = let h = flat_same xs in record { judged_so = h.judged_so; claims_so = h.claims_so; words_so = ap (λ l. v ∷ l) h.words_so; within_so = h.within_so }
flat_same (_ ∷ xs) = let h = flat_same xs in record { judged_so = h.judged_so; claims_so = h.claims_so; words_so = h.words_so; within_so = h.within_so }

flat_meanings : (xs : List Point) → meanings_of (without_depths xs) ≡ meanings_of xs
flat_meanings [] = refl
flat_meanings (meaning b ∷ xs) = ap (λ l. b ∷ l) (flat_meanings xs)
flat_meanings (_ ∷ xs) = flat_meanings xs

flat_deepest : (xs : List Point) (d : ℕ) → deepest d (without_depths xs) ≡ d
flat_deepest [] d = refl
flat_deepest (depth m ∷ xs) d = flat_deepest xs d
flat_deepest (_ ∷ xs) d = flat_deepest xs d

-- a procedure behind its name, where all that is told of it inside is `xs`
inside_tied : (n l j e d : ℕ) (y : Option Bound) (xs : List Point) (f h : Found) → f.next + 1 < 2 ^ 32 → Inside (32 * n + 27) e xs → Tied xs j (opens d (named_as y (takes f))) h
    → Tied (its_frame n l (deepest d xs) ++ (its_meaning y ++ without_depths xs)) (1 + j) f (following f.first f.deepest (frame_wrong l h) h)
inside_tied n l j e d y xs f h fits a t =
    let q : Bool = nat_lt FRAME_WORDS (deepest d xs) in
    let zs : List Point = its_meaning y ++ without_depths xs in
    let v : ((named_as y (takes f)).claims ≡ f.claims) × ((named_as y (takes f)).meanings ≡ f.meanings ++ meanings_of (its_meaning y)) × ((named_as y (takes f)).words ≡ f.words) × ((named_as y (takes f)).next ≡ (takes f).next) = named_found y (takes f) in
    let rest : judged f.claims zs ≡ judged f.claims xs = (name_same y (without_depths xs)).judged_so f.claims ∙ (flat_same xs).judged_so f.claims in
    record {
      first =
          ap (λ b. else_first f.first (else_first (cond (nat_lt FRAME_WORDS b) (Some (record { at = l; wrong = frame_too_large })) None) h.first)) t.deepest
          ∙ ap (λ b. else_first f.first (else_first (cond q (Some (record { at = l; wrong = frame_too_large })) None) b)) (t.first ∙ ap (λ c. first_reported (in_order (judged c xs))) v.0)
          ∙ ap (λ b. else_first f.first (else_first b (first_reported (in_order (judged f.claims xs))))) (sym (frame_first q n l))
          ∙ ap (else_first f.first) (sym (
          ap (λ b. first_reported (in_order b)) (frame_judged n l zs q f.claims ∙ ap (λ b. cond q (record { place = n; at = l; wrong = frame_too_large } ∷ []) [] ++ b) rest)
          ∙ ap first_reported (order_apart (32 * n + 15) (32 * n + 27) e _ (judged f.claims xs) (frame_faults q n l) (judged_inside _ _ xs f.claims a))
          ∙ first_append (in_order (cond q (record { place = n; at = l; wrong = frame_too_large } ∷ []) [])) _));
      claims = t.claims ∙ ap (λ c. claims_after c xs) v.0 ∙ sym ((frame_silent n l zs q).0 f.claims ∙ (name_same y (without_depths xs)).claims_so f.claims ∙ (flat_same xs).claims_so f.claims);
      meanings =
          t.meanings ∙ ap (λ c. c ++ meanings_of xs) v.1 ∙ append_assoc f.meanings (meanings_of (its_meaning y)) (meanings_of xs)
          ∙ ap (λ c. f.meanings ++ c) (sym ((frame_silent n l zs q).1 ∙ meanings_append (its_meaning y) (without_depths xs) ∙ ap (λ c. meanings_of (its_meaning y) ++ c) (flat_meanings xs)));
      words = t.words ∙ ap (λ c. c ++ words_of xs) v.2 ∙ ap (λ c. f.words ++ c) (sym ((frame_silent n l zs q).2 ∙ (name_same y (without_depths xs)).words_so ∙ (flat_same xs).words_so));
      next = omega (arith, t.next, v.3, fits);
      deepest = sym ((frame_silent n l zs q).3 f.deepest ∙ name_deepest y (without_depths xs) f.deepest ∙ flat_deepest xs f.deepest);
    }

pub procedure_tied : (m k l i j : ℕ) (s : Spot) (x : List ℕ) (fs : List Mention) (y : Option Bound) (body : List Point) (f h : Found)
    → f.next + 1 < 2 ^ 32 → Spans (s.place + 1 + length fs) (s.place + 1 + length fs + i) body → Tied body j (headed k l x fs y (takes (listed m l x f))) h
    → Tied (procedure m k s l x fs y body) (1 + j) f (following (listed m l x f).first (listed m l x f).deepest (frame_wrong l h) h)
procedure_tied m k l i j s x fs y body f h fits a t =
    let n : ℕ = s.place in
    let e : ℕ = 32 * (n + 1 + length fs + i) in
    let f1 : Found = opens (kept (length fs + 2)) (named_as y (takes (listed m l x f))) in
    let f2 : Found = sets l x y f1 in
    let formals_and_body : Spans (n + 1) (n + 1 + length fs + i) (each_of k (n + 1) fs ++ body) = both (each_spans k (n + 1) fs) a (omega arith) (omega arith) in
    let xs : List Point = inside_procedure k s l x fs y body in
    let where_inside : Inside (32 * n + 27) e xs = inside_append (32 * n + 27) e (its_global n l x y) (each_of k (n + 1) fs ++ body) (inside_wider (32 * n + 27) (32 * (n + 1)) (32 * n + 27) e (its_global n l x y) (omega arith) (omega arith) (global_inside n l x y)) (inside_wider (32 * (n + 1)) e (32 * n + 27) e (each_of k (n + 1) fs ++ body) (omega arith) (omega arith) formals_and_body.inside) in
    let told_inside : Tied xs (0 + (0 + j)) f1 h =
    then (32 * n + 27) (32 * (n + 1)) e _ _ (its_global n l x y) (each_of k (n + 1) fs ++ body) f1 f2 h (global_inside n l x y) formals_and_body.inside (global_tied n l x y f1)
    (behind_it (each_spans k (n + 1) fs) a (omega arith) (each_tied k (n + 1) fs f2) t) in
    let q : Bool = nat_lt FRAME_WORDS (deepest (kept (length fs + 2)) xs) in
    recount (1 + j) (then (32 * n) (32 * n + 15) e _ _ (one_of m n l x) _ f (listed m l x f) _ (omega arith, omega arith, tt)
    (frame_inside n l (its_meaning y ++ without_depths xs) q e ((name_same y (without_depths xs)).within_so (32 * n + 15) e ((flat_same xs).within_so (32 * n + 15) e (inside_wider (32 * n + 27) e (32 * n + 15) e xs (omega arith) (omega arith) where_inside))) (omega arith))
    (listed_tied m n l x f) (inside_tied n l (0 + (0 + j)) e _ y xs (listed m l x f) h (omega (arith, (listed_tied m n l x f).next, fits)) where_inside told_inside)) (omega arith)

headed_next : (k l : ℕ) (x : List ℕ) (fs : List Mention) (y : Option Bound) (f : Found) → (headed k l x fs y f).next ≡ f.next
headed_next k l x fs y f =
    let f1 : Found = opens (kept (length fs + 2)) (named_as y f) in
    omega (arith, (each_tied k 0 fs (sets l x y f1)).next, (global_tied 0 l x y f1).next, (named_found y f).3)

-- A FUNCTION
pub function_tied : (m l : ℕ) (x : List ℕ) (fs : List Mention) (a : Expression) → ETied a → EInside a → (bs : List Binding) (p : Enclosing) (s : Spot) (d : Defined) → d.found.next ≡ s.number → s.number + (1 + numbers a) < 2 ^ 32
    → Tied (reported_one_defined m bs p s (function l x fs a)) (1 + numbers a) d.found (one_defined m bs (function l x fs a) d).found
function_tied m l x fs a ta ia bs p s d e fits =
    let f : Found = listed m l x d.found in
    let same : f.next ≡ s.number = omega (arith, (listed_tied m s.place l x d.found).next, e) in
    let u : Spot = onward (1 + length fs) 1 s in
    let T : ℕ → Type 0 = λ k. Tied (reported_one_defined m bs p s (function l x fs a)) (1 + numbers a) d.found
    (following f.first f.deepest (frame_wrong l (evaluated Value (with_formals k 2 fs bs) (called false k (length fs)) a (headed k l x fs (bound_in bs x) (takes f)))) (evaluated Value (with_formals k 2 fs bs) (called false k (length fs)) a (headed k l x fs (bound_in bs x) (takes f)))) in
    let k : ℕ = s.number in
    let g : Found = headed k l x fs (bound_in bs x) (takes f) in
    let cs : List Binding = with_formals k 2 fs bs in
    let q : Enclosing = called false k (length fs) in
    let g_next : g.next ≡ u.number = omega (arith, headed_next k l x fs (bound_in bs x) (takes f), same, fits) in
    subst T (sym same)
    (procedure_tied m k l (symbols a) (numbers a) s x fs (bound_in bs x) (reported Value cs q u a) d.found (evaluated Value cs q a g) (omega (arith, e, fits)) (wider _ _ (ia Value cs q u) (omega arith) (omega arith)) (ta Value tt cs q u g g_next (omega (arith, fits))))

-- A ROUTINE
pub routine_tied : (m l : ℕ) (x : List ℕ) (fs : List Mention) (c : Command) → CTied c → CInside c → (bs : List Binding) (p : Enclosing) (s : Spot) (d : Defined) → d.found.next ≡ s.number → s.number + ((2 + length (labels_of c)) + numbers_done c) < 2 ^ 32
    → Tied (reported_one_defined m bs p s (routine l x fs c)) ((2 + length (labels_of c)) + numbers_done c) d.found (one_defined m bs (routine l x fs c) d).found
routine_tied m l x fs c tc ic bs p s d e fits =
    let f : Found = listed m l x d.found in
    let same : f.next ≡ s.number = omega (arith, (listed_tied m s.place l x d.found).next, e) in
    let k : ℕ = s.number in
    let L : ℕ = length (labels_of c) in
    let u : Spot = onward (1 + length fs) (2 + L) s in
    let g : Found = headed k l x fs (bound_in bs x) (takes f) in
    let g_next : g.next ≡ k + 1 = omega (arith, headed_next k l x fs (bound_in bs x) (takes f), same, fits) in
    let zs : List Binding = with_formals k 2 fs bs in
    let cs : List Binding = labels_in_scope k (k + 2) (labels_of c) zs in
    let q : Enclosing = labelled (k + 1) (called true k (length fs)) in
    let g' : Found = moved ((g.next + 1) + L) g in
    let body : Tied (reported_done cs q u c) (numbers_done c) g' (done cs q c g') = tc cs q u g' (omega (arith, g_next)) (omega (arith, fits)) in
    let all : Tied (reported_done cs q u c) ((1 + L) + numbers_done c) g (done cs q c g') = behind_it (no_span u.place) (ic cs q u) (omega arith) (moved_tied (1 + L) g'.next g (omega arith)) body in
    let whole : Found → Type 0 = λ h. Tied (reported_one_defined m bs p s (routine l x fs c)) ((2 + L) + numbers_done c) d.found (following f.first f.deepest (frame_wrong l h) h) in
    let T : ℕ → Type 0 = λ j.
    let v : Found = headed j l x fs (bound_in bs x) (takes f) in
    let t : Stage = with_labels j (labels_of c) (record { scope = with_formals j 2 fs bs; found = takes v }) in
    whole (done t.scope (labelled v.next (called true j (length fs))) c t.found) in
    subst T (sym same)
    (subst (λ (t : Stage). whole (done t.scope (labelled g.next (called true k (length fs))) c t.found)) (sym (labels_taken k (labels_of c) zs g (omega (arith, g_next, fits))))
    (subst (λ n. whole (done (labels_in_scope k n (labels_of c) zs) (labelled g.next (called true k (length fs))) c g')) (let e' : k + 2 ≡ g.next + 1 = omega (arith, g_next) in e')
    (subst (λ n. whole (done cs (labelled n (called true k (length fs))) c g')) (sym g_next)
    (recount _ (procedure_tied m k l (symbols_done c) ((1 + L) + numbers_done c) s x fs (bound_in bs x) (reported_done cs q u c) d.found (done cs q c g') (omega (arith, e, fits)) (wider _ _ (ic cs q u) (omega arith) (omega arith)) all) (omega arith)))))

-- where a procedure's points stand
pub procedure_spans : (m k l i : ℕ) (s : Spot) (x : List ℕ) (fs : List Mention) (y : Option Bound) (body : List Point) → Spans (s.place + 1 + length fs) (s.place + 1 + length fs + i) body
    → Spans s.place (s.place + (1 + (length fs + i))) (procedure m k s l x fs y body)
procedure_spans m k l i s x fs y body a =
    let n : ℕ = s.place in
    let e : ℕ = 32 * (n + 1 + length fs + i) in
    let xs : List Point = inside_procedure k s l x fs y body in
    let formals_and_body : Spans (n + 1) (n + 1 + length fs + i) (each_of k (n + 1) fs ++ body) = both (each_spans k (n + 1) fs) a (omega arith) (omega arith) in
    let where_inside : Inside (32 * n + 15) e xs = inside_append (32 * n + 15) e (its_global n l x y) (each_of k (n + 1) fs ++ body) (inside_wider (32 * n + 27) (32 * (n + 1)) (32 * n + 15) e (its_global n l x y) (omega arith) (omega arith) (global_inside n l x y)) (inside_wider (32 * (n + 1)) e (32 * n + 15) e (each_of k (n + 1) fs ++ body) (omega arith) (omega arith) formals_and_body.inside) in
    let q : Bool = nat_lt FRAME_WORDS (deepest (kept (length fs + 2)) xs) in
    let rest : List Point = its_frame n l (deepest (kept (length fs + 2)) xs) ++ (its_meaning y ++ without_depths xs) in
    let late : Inside (32 * n + 15) e rest = frame_inside n l (its_meaning y ++ without_depths xs) q e ((name_same y (without_depths xs)).within_so (32 * n + 15) e ((flat_same xs).within_so (32 * n + 15) e where_inside)) (omega arith) in
    wider n (n + (1 + (length fs + i))) (record { inside = inside_append (32 * n) (32 * (n + 1 + length fs + i)) (one_of m n l x) rest (omega arith, omega arith, tt) (inside_wider (32 * n + 15) e (32 * n) e rest (omega arith) (omega arith) late) }) (omega arith) (omega arith)

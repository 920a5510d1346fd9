-- Of the claims of a list without faults none is made twice: the CASEs and the DEFAULT of a SWITCHON.
use Rattle.bk_scope.proofs.Terms.{◌≡◌, ℕ, zero, suc, ◌+◌, ◌≤◌, Bool, true, false, cond, Option, Some, None, List, [], ◌∷◌, ◌++◌, refl, sym, ap, ◌∙◌, subst, arith, eq-eqb, false≢true, append-nil, Command, Commands, empty, assign, call, goto, for_loop, result, simple, label, case_of, default, when, test, while, switch, block, repeat, repeat_while, no_commands, also, no_declarations, declare, Enclosing, Value, Truth, Binding, bound_in, case_repeated, default_repeated, constant_word, Claim, choosing, defaulting, same_claim, is_claimed, looping, switching, Spot, past, numbered, following, after_done, after_constant, Fault, Point, meaning, word, depth, wrong, claim, claiming, claimed, claims_after, chosen_at, defaulted_at, its_meaning, one_of, constant, reported, reported_done, reported_done_each, Clean, word_if_any, case_words, case_words_each, defaults, defaults_each, NoneOf, AllDiffer, CasesDiffer}
use Rattle.bk_scope.proofs.Lists.{claims_append}
use Rattle.bk_scope.proofs.Parts.{first_clean, second_clean}

-- claims stay
stays_behind_one : (q : Bool) (c d : Claim) (cs : List Claim) → is_claimed c cs ≡ true → is_claimed c (cond q cs (d ∷ cs)) ≡ true
stays_behind_one true c d cs h = h
stays_behind_one false c d cs h = stays_in (same_claim c d) where
  stays_in : (q : Bool) → cond q true (is_claimed c cs) ≡ true
  stays_in true = refl
  stays_in false = h

stays : (xs : List Point) (c : Claim) (cs : List Claim) → is_claimed c cs ≡ true → is_claimed c (claims_after cs xs) ≡ true
stays [] c cs h = h
stays (claim d f ∷ xs) c cs h = stays xs c (claimed d cs) (stays_behind_one (is_claimed d cs) c d cs h)
stays (_ ∷ xs) c cs h = stays xs c cs h

not_before : (q : Bool) (xs : List Point) (c : Claim) (cs : List Claim) → is_claimed c cs ≡ q → is_claimed c (claims_after cs xs) ≡ false → q ≡ false
not_before false xs c cs e h = refl
not_before true xs c cs e h = absurd (false≢true (sym h ∙ stays xs c cs e))

-- each of these words is claimed by a CASE of SWITCHON m, or none is
abbrev AllChosen : ℕ → List ℕ → List Claim → Type 0
AllChosen m [] cs = Unit {0}
AllChosen m (v ∷ vs) cs = (is_claimed (choosing m v) cs ≡ true) × AllChosen m vs cs

abbrev NoneChosen : ℕ → List ℕ → List Claim → Type 0
NoneChosen m [] cs = Unit {0}
NoneChosen m (v ∷ vs) cs = (is_claimed (choosing m v) cs ≡ false) × NoneChosen m vs cs

all_stay : (m : ℕ) (vs : List ℕ) (xs : List Point) (cs : List Claim) → AllChosen m vs cs → AllChosen m vs (claims_after cs xs)
all_stay m [] xs cs h = tt
all_stay m (v ∷ vs) xs cs h = (stays xs (choosing m v) cs h.0, all_stay m vs xs cs h.1)

none_before : (m : ℕ) (vs : List ℕ) (xs : List Point) (cs : List Claim) → NoneChosen m vs (claims_after cs xs) → NoneChosen m vs cs
none_before m [] xs cs h = tt
none_before m (v ∷ vs) xs cs h = (not_before (is_claimed (choosing m v) cs) xs (choosing m v) cs refl h.0, none_before m vs xs cs h.1)

all_append : (m : ℕ) (us vs : List ℕ) (cs : List Claim) → AllChosen m us cs → AllChosen m vs cs → AllChosen m (us ++ vs) cs
all_append m [] vs cs a b = b
all_append m (u ∷ us) vs cs a b = (a.0, all_append m us vs cs a.1 b)

none_append : (m : ℕ) (us vs : List ℕ) (cs : List Claim) → NoneChosen m us cs → NoneChosen m vs cs → NoneChosen m (us ++ vs) cs
none_append m [] vs cs a b = b
none_append m (u ∷ us) vs cs a b = (a.0, none_append m us vs cs a.1 b)

-- a word that is claimed is none of those that are not
none_of : (m u : ℕ) (vs : List ℕ) (cs : List Claim) → is_claimed (choosing m u) cs ≡ true → NoneChosen m vs cs → NoneOf u vs
none_of m u [] cs a b = tt
none_of m u (v ∷ vs) cs a b = ((λ e. false≢true (sym b.0 ∙ ap (λ x. is_claimed (choosing m x) cs) (sym e) ∙ a)), none_of m u vs cs a b.1)

none_of_append : (u : ℕ) (us vs : List ℕ) → NoneOf u us → NoneOf u vs → NoneOf u (us ++ vs)
none_of_append u [] vs a b = b
none_of_append u (x ∷ us) vs a b = (a.0, none_of_append u us vs a.1 b)

differ_append : (m : ℕ) (us vs : List ℕ) (cs : List Claim) → AllChosen m us cs → NoneChosen m vs cs → AllDiffer us → AllDiffer vs → AllDiffer (us ++ vs)
differ_append m [] vs cs a b c d = d
differ_append m (u ∷ us) vs cs a b c d = (none_of_append u us vs c.0 (none_of m u vs cs a.0 b), differ_append m us vs cs a.1 b c.1 d)

-- the words of the CASEs of SWITCHON m, and how many DEFAULTs it has, in what is told
record Made (m : ℕ) (xs : List Point) (vs : List ℕ) (n : ℕ) : Type 0 where
  chosen : (cs : List Claim) → AllChosen m vs (claims_after cs xs)
  fresh : (cs : List Claim) → Clean cs xs → NoneChosen m vs cs × AllDiffer vs
  given : (cs : List Claim) → 1 ≤ n → is_claimed (defaulting m) (claims_after cs xs) ≡ true
  one : (cs : List Claim) → Clean cs xs → (n ≤ 1) × (1 ≤ n → is_claimed (defaulting m) cs ≡ false)

made_none : (m : ℕ) (xs : List Point) → Made m xs [] 0
made_none m xs = record { chosen = λ cs. tt; fresh = λ cs h. (tt, tt); given = λ cs h. absurd (omega (arith, h)); one = λ cs h. (omega arith, λ t. absurd (omega (arith, t))) }

either_given : (m i j : ℕ) (xs ys : List Point) (cs : List Claim) → (1 ≤ i → is_claimed (defaulting m) (claims_after cs xs) ≡ true) → (1 ≤ j → is_claimed (defaulting m) (claims_after (claims_after cs xs) ys) ≡ true) → 1 ≤ i + j
    → is_claimed (defaulting m) (claims_after (claims_after cs xs) ys) ≡ true
either_given m zero j xs ys cs a b h = b (omega (arith, h))
either_given m (suc i) j xs ys cs a b h = stays ys (defaulting m) (claims_after cs xs) (a (omega arith))

at_most_one : (m i j : ℕ) (xs : List Point) (cs : List Claim) → (1 ≤ i → is_claimed (defaulting m) (claims_after cs xs) ≡ true) → (i ≤ 1) × (1 ≤ i → is_claimed (defaulting m) cs ≡ false) → (j ≤ 1) × (1 ≤ j → is_claimed (defaulting m) (claims_after cs xs) ≡ false)
    → (i + j ≤ 1) × (1 ≤ i + j → is_claimed (defaulting m) cs ≡ false)
at_most_one m zero j xs cs a b c = (omega (arith, c.0), λ t. not_before (is_claimed (defaulting m) cs) xs (defaulting m) cs refl (c.1 (omega (arith, t))))
at_most_one m (suc i) zero xs cs a b c = (omega (arith, b.0), λ t. b.1 (omega arith))
at_most_one m (suc i) (suc j) xs cs a b c = absurd (false≢true (sym (c.1 (omega arith)) ∙ a (omega arith)))

made_both : {m i j : ℕ} {xs ys : List Point} {us vs : List ℕ} → Made m xs us i → Made m ys vs j → Made m (xs ++ ys) (us ++ vs) (i + j)
made_both {m = m} {i = i} {j = j} {xs = xs} {ys = ys} {us = us} {vs = vs} a b = record {
  chosen = λ cs. subst (AllChosen m (us ++ vs)) (sym (claims_append xs ys cs)) (all_append m us vs (claims_after (claims_after cs xs) ys) (all_stay m us ys (claims_after cs xs) (a.chosen cs)) (b.chosen (claims_after cs xs)));
  fresh = λ cs h.
      let f = a.fresh cs (first_clean cs xs ys h) in
      let g = b.fresh (claims_after cs xs) (second_clean cs xs ys h) in
      (none_append m us vs cs f.0 (none_before m vs xs cs g.0), differ_append m us vs (claims_after cs xs) (a.chosen cs) g.0 f.1 g.1);
  given = λ cs h. subst (λ ds. is_claimed (defaulting m) ds ≡ true) (sym (claims_append xs ys cs)) (either_given m i j xs ys cs (a.given cs) (b.given (claims_after cs xs)) h);
  one = λ cs h. at_most_one m i j xs cs (a.given cs) (a.one cs (first_clean cs xs ys h)) (b.one (claims_after cs xs) (second_clean cs xs ys h));
}

-- a claim is made behind itself, and was not before where it is clean
made_behind : (q : Bool) (c : Claim) (cs : List Claim) → same_claim c c ≡ true → is_claimed c cs ≡ q → is_claimed c (cond q cs (c ∷ cs)) ≡ true
made_behind true c cs s e = e
made_behind false c cs s e = rw s refl

not_yet : (q : Bool) (f : Fault) → cond q (f ∷ []) [] ++ [] ≡ [] → q ≡ false
not_yet false f e = refl
not_yet true f e = absurd (cc)

choosing_same : (m v : ℕ) → same_claim (choosing m v) (choosing m v) ≡ true
choosing_same m v = rw (eq-eqb m m refl) (eq-eqb v v refl)

made_case : (m v n l : ℕ) → Made m (claiming (choosing m v) n l case_repeated) (v ∷ []) 0
made_case m v n l = record {
  chosen = λ cs. (made_behind (is_claimed (choosing m v) cs) (choosing m v) cs (choosing_same m v) refl, tt);
  fresh = λ cs h. ((not_yet (is_claimed (choosing m v) cs) _ h, tt), (tt, tt));
  given = λ cs h. absurd (omega (arith, h));
  one = λ cs h. (omega arith, λ t. absurd (omega (arith, t)));
}

made_default : (m n l : ℕ) → Made m (claiming (defaulting m) n l default_repeated) [] 1
made_default m n l = record {
  chosen = λ cs. tt;
  fresh = λ cs h. (tt, tt);
  given = λ cs h. made_behind (is_claimed (defaulting m) cs) (defaulting m) cs (eq-eqb m m refl) refl;
  one = λ cs h. (omega arith, λ t. not_yet (is_claimed (defaulting m) cs) _ h);
}

case_head : (m : ℕ) (p : Enclosing) (y : Option ℕ) (n l : ℕ) → p.switch ≡ Some m → Made m (chosen_at p.switch n l y) (word_if_any y) 0
case_head m p None n l e = made_none m _
case_head m p (Some v) n l e = subst (λ z. Made m (chosen_at z n l (Some v)) (v ∷ []) 0) (sym e) (made_case m v n l)

default_head : (m : ℕ) (p : Enclosing) (n l : ℕ) → p.switch ≡ Some m → Made m (defaulted_at p.switch n l) [] 1
default_head m p n l e = subst (λ z. Made m (defaulted_at z n l) [] 1) (sym e) (made_default m n l)

-- behind something, or in front of it, of which no claim belongs to the SWITCHON
behind_other : {m n : ℕ} {vs : List ℕ} {ys : List Point} (xs : List Point) → Made m ys vs n → Made m (xs ++ ys) vs n
behind_other {m = m} {n = n} {vs = vs} {ys = ys} xs a = subst (λ i. Made m (xs ++ ys) vs i) (omega arith) (made_both (made_none m xs) a)

in_front : {m n : ℕ} {vs : List ℕ} {xs : List Point} (ys : List Point) → Made m xs vs n → Made m (xs ++ ys) vs n
in_front {m = m} {n = n} {vs = vs} {xs = xs} ys a = subst (λ i. Made m (xs ++ ys) vs i) (omega arith) (subst (λ us. Made m (xs ++ ys) us (n + 0)) (append-nil vs) (made_both a (made_none m ys)))

mutual
  made : (c : Command) (m : ℕ) (bs : List Binding) (p : Enclosing) (s : Spot) → p.switch ≡ Some m → Made m (reported_done bs p s c) (case_words bs c) (defaults c)
  made (label l x c) m bs p s e = behind_other (one_of p.labels s.place l x ++ its_meaning (bound_in bs x)) (made c m bs p (past 1 s) e)
  made (case_of l f c) m bs p s e =
      let u : Spot = after_constant f (past 1 s) in
      let head : Made m (chosen_at p.switch s.place l (constant_word bs f) ++ constant bs p.procedure (past 1 s) f) (word_if_any (constant_word bs f) ++ []) 0 = made_both (case_head m p (constant_word bs f) s.place l e) (made_none m (constant bs p.procedure (past 1 s) f)) in
      subst (λ vs. Made m (reported_done bs p s (case_of l f c)) (vs ++ case_words bs c) (defaults c)) (append-nil (word_if_any (constant_word bs f))) (subst (λ i. Made m (reported_done bs p s (case_of l f c)) ((word_if_any (constant_word bs f) ++ []) ++ case_words bs c) i) (omega arith) (made_both head (made c m bs p u e)))
  made (default l c) m bs p s e = made_both (default_head m p s.place l e) (made c m bs p (past 1 s) e)
  made (when l b f c) m bs p s e = behind_other (reported Truth bs p s f) (made c m bs p (following f s) e)
  made (test l f c d) m bs p s e = made_both (behind_other (reported Truth bs p s f) (made c m bs p (following f s) e)) (made d m bs p (after_done c (following f s)) e)
  made (while l b f c) m bs p s e = behind_other (reported Truth bs p s f) (made c m bs (looping p) (following f s) e)
  made (block l no_declarations cs) m bs p s e = made_each cs m bs p s e
  made (repeat l c) m bs p s e = made c m bs (looping p) s e
  made (repeat_while l b c f) m bs p s e = in_front (reported Truth bs p (after_done c s) f) (made c m bs (looping p) s e)
  made _ m bs p s e = made_none m _

  made_each : (cs : Commands) (m : ℕ) (bs : List Binding) (p : Enclosing) (s : Spot) → p.switch ≡ Some m → Made m (reported_done_each bs p s cs) (case_words_each bs cs) (defaults_each cs)
  made_each no_commands m bs p s e = made_none m _
  made_each (also c cs) m bs p s e = made_both (made c m bs p s e) (made_each cs m bs p (after_done c s) e)

-- A SWITCHON
pub cases_differ : CasesDiffer
cases_differ cs bs p s l e c h =
    let m : ℕ = (following e s).number in
    let u : Spot = numbered 1 (following e s) in
    let t : Made m (reported_done bs (switching m p) u c) (case_words bs c) (defaults c) = made c m bs (switching m p) u refl in
    let k : List Claim = claims_after cs (reported Value bs p s e) in
    let clean : Clean k (reported_done bs (switching m p) u c) = second_clean cs (reported Value bs p s e) (reported_done bs (switching m p) u c) h in
    ((t.fresh k clean).1, (t.one k clean).0)

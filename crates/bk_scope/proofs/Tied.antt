-- The pass, and what is told: what stands behind a part of the pass is what stood before it and what is told of the part.
use Rattle.bk_scope.proofs.Terms.{◌≡◌, ℕ, ◌+◌, ◌*◌, ◌≤◌, Option, Some, None, List, [], ◌++◌, refl, sym, ap, ◌∙◌, append_assoc, arith, append-nil, Wrong, Breach, Found, else_first, breaks, Point, at, claims_after, judged, in_order, first_reported, meanings_of, words_of, deepest}
use Rattle.bk_scope.proofs.Lists.{Inside, inside_append, inside_wider, claims_append, meanings_append, words_append, deepest_append, first_of_both}

pub record Tied (xs : List Point) (i : ℕ) (f g : Found) : Type 0 where
  pub first : g.first ≡ else_first f.first (first_reported (in_order (judged f.claims xs)))
  pub claims : g.claims ≡ claims_after f.claims xs
  pub meanings : g.meanings ≡ f.meanings ++ meanings_of xs
  pub words : g.words ≡ f.words ++ words_of xs
  pub next : g.next ≡ f.next + i
  pub deepest : g.deepest ≡ deepest f.deepest xs

firsts : (a b c : Option Breach) → else_first (else_first a b) c ≡ else_first a (else_first b c)
firsts None b c = refl
firsts (Some x) b c = refl

pub else_none : (a : Option Breach) → else_first a None ≡ a
else_none None = refl
else_none (Some x) = refl

-- nothing is told
pub nothing_told : (f : Found) → Tied [] 0 f f
nothing_told f = record { first = sym (else_none f.first); claims = refl; meanings = sym (append-nil f.meanings); words = sym (append-nil f.words); next = omega arith; deepest = refl }

-- something is wrong
pub broken : {w : Wrong} (n l : ℕ) (f : Found) → Tied (at n l w) 0 f (breaks l w f)
broken n l f = record { first = refl; claims = refl; meanings = sym (append-nil f.meanings); words = sym (append-nil f.words); next = omega arith; deepest = refl }

-- one part behind another
pub then : (n m l i j : ℕ) (xs ys : List Point) (f g h : Found) → Inside n m xs → Inside m l ys → Tied xs i f g → Tied ys j g h → Tied (xs ++ ys) (i + j) f h
then n m l i j xs ys f g h a b s t = record {
  first =
      t.first ∙ ap (λ c. else_first g.first (first_reported (in_order (judged c ys)))) s.claims
      ∙ ap (λ o. else_first o (first_reported (in_order (judged (claims_after f.claims xs) ys)))) s.first
      ∙ firsts f.first _ _ ∙ ap (else_first f.first) (sym (first_of_both n m l xs ys f.claims a b));
  claims = t.claims ∙ ap (λ c. claims_after c ys) s.claims ∙ sym (claims_append xs ys f.claims);
  meanings = t.meanings ∙ ap (λ c. c ++ meanings_of ys) s.meanings ∙ append_assoc f.meanings (meanings_of xs) (meanings_of ys) ∙ ap (λ c. f.meanings ++ c) (sym (meanings_append xs ys));
  words = t.words ∙ ap (λ c. c ++ words_of ys) s.words ∙ append_assoc f.words (words_of xs) (words_of ys) ∙ ap (λ c. f.words ++ c) (sym (words_append xs ys));
  next = omega (arith, t.next, s.next);
  deepest = t.deepest ∙ ap (λ d. deepest d ys) s.deepest ∙ sym (deepest_append xs ys f.deepest);
}

-- the points of a part that stands from place n on, before m
pub record Spans (n m : ℕ) (xs : List Point) : Type 0 where
  pub inside : Inside (32 * n) (32 * m) xs

pub both : {n m i j : ℕ} {xs ys : List Point} → Spans n m xs → Spans i j ys → n ≤ i → m ≤ j → Spans n j (xs ++ ys)
both {n = n} {m = m} {i = i} {j = j} {xs = xs} {ys = ys} a b c d =
    record { inside = inside_append _ _ xs ys (inside_wider (32 * n) (32 * m) (32 * n) (32 * j) xs (omega arith) (omega (arith, d)) a.inside) (inside_wider (32 * i) (32 * j) (32 * n) (32 * j) ys (omega (arith, c)) (omega arith) b.inside) }

-- two parts within the same bounds
pub among : {n m : ℕ} {xs ys : List Point} → Spans n m xs → Spans n m ys → Spans n m (xs ++ ys)
among {n = n} {m = m} {xs = xs} {ys = ys} a b = record { inside = inside_append (32 * n) (32 * m) xs ys a.inside b.inside }

pub wider : {n m : ℕ} {xs : List Point} (i j : ℕ) → Spans n m xs → i ≤ n → m ≤ j → Spans i j xs
wider {n = n} {m = m} {xs = xs} i j a c d = record { inside = inside_wider (32 * n) (32 * m) (32 * i) (32 * j) xs (omega (arith, c)) (omega (arith, d)) a.inside }

-- one part of the tree behind another
pub behind_it : {n m u v i j : ℕ} {xs ys : List Point} {f g h : Found} → Spans n m xs → Spans u v ys → m ≤ u → Tied xs i f g → Tied ys j g h → Tied (xs ++ ys) (i + j) f h
behind_it {n = n} {m = m} {u = u} {v = v} {i = i} {j = j} {xs = xs} {ys = ys} {f = f} {g = g} {h = h} a b c s t =
    then (32 * n) (32 * m) (32 * v) i j xs ys f g h a.inside (inside_wider (32 * u) (32 * v) (32 * m) (32 * v) ys (omega (arith, c)) (omega arith) b.inside) s t

-- What is done in any world only adds to its history: for proofs that follow a run step by step, and need it of what is still
-- to be done.
use Rattle.bk_meaning.proofs.Terms.{◌≡◌, ℕ, zero, suc, ◌≤◌, Bool, true, false, List, [], ◌++◌, Option, Some, None, refl, sym, ap, ◌∙◌, append_assoc, arith, append-nil, Cell, Memory, World, Exit, Outcome, gives, leaves, ends, undefined, going, each_way, with, given, either, turn, turn_of, closing, changes, calling, making_vec, writing, History, history, Grows, After, Cause}

pub stays : (h : History) → Grows h h
stays h = record { written = []; output = sym (append-nil h.output); taken = []; input = refl; most_calls = omega arith; most_cells = omega arith }

pub then_on : (u v w : History) → Grows u v → Grows v w → Grows u w
then_on u v w a b =
    let am : u.most_calls ≤ v.most_calls = a.most_calls in
    let bm : v.most_calls ≤ w.most_calls = b.most_calls in
    let ac : u.most_cells ≤ v.most_cells = a.most_cells in
    let bc : v.most_cells ≤ w.most_cells = b.most_cells in
    record {
      written = a.written ++ b.written;
      output = b.output ∙ ap (λ x. x ++ b.written) a.output ∙ append_assoc u.output a.written b.written;
      taken = a.taken ++ b.taken;
      input = a.input ∙ ap (λ x. a.taken ++ x) b.input ∙ sym (append_assoc a.taken b.taken _);
      most_calls = omega (arith, am, bm);
      most_cells = omega (arith, ac, bc);
    }

-- from an earlier history
pub earlier : {A : Type 0} (u w : History) (o : Outcome A) → Grows u w → After w o → After u o
earlier u w (gives a v) g h = then_on u w (history v) g h
earlier u w (leaves x v) g h = then_on u w (history v) g h
earlier u w (ends e v) g h = then_on u w (history v) g h
earlier u w (undefined l why v) g h = then_on u w (history v) g h
earlier u w (going l v) g h = then_on u w (history v) g h

pub record Adds {A : Type 0} (go : World → Outcome A) : Type 0 where
  pub at : (w : World) → After (history w) (go w)

pub adds : {A : Type 0} (go : World → Outcome A) → ((w : World) → After (history w) (go w)) → Adds go
adds go at = record { at = at }

pub each_way_after : {A B : Type 0} (h : History) (u : Outcome A) (on : A → World → Outcome B) (out : Exit → World → Outcome B) → After h u → ((a : A) → Adds (on a)) → ((x : Exit) → Adds (out x)) → After h (each_way on out u)
each_way_after h (gives a v) on out up each exit = earlier h (history v) (on a v) up ((each a).at v)
each_way_after h (leaves x v) on out up each exit = earlier h (history v) (out x v) up ((exit x).at v)
each_way_after h _ on out up each exit = up

pub with_after : {A B : Type 0} (h : History) (u : Outcome A) (on : A → World → Outcome B) → After h u → ((a : A) → Adds (on a)) → After h (with u on)
with_after h u on up each = each_way_after h u on (λ x w. leaves x w) up each (λ x. adds _ (λ w. stays (history w)))

pub given_after : {A : Type 0} (l : ℕ) (why : Cause) (x : Option A) (w : World) → After (history w) (given l why x w)
given_after l why None w = stays (history w)
given_after l why (Some a) w = stays (history w)

pub either_after : {A : Type 0} (b : Bool) (go other : World → Outcome A) → Adds go → Adds other → (w : World) → After (history w) (either b go other w)
either_after true go other g h w = g.at w
either_after false go other g h w = h.at w

pub turn_after : {A : Type 0} (l : ℕ) (go : World → Outcome A) → Adds go → (w : World) → After (history w) (turn l w go)
turn_after l go g w = by w.turns
  where
    by : (n : ℕ) → After (history w) (turn_of l n w go)
    by zero = stays (history w)
    by (suc n) = g.at (record w { turns = n })

pub closing_after : {A : Type 0} (h : History) (k : ℕ) (u : Outcome A) → After h u → After h (closing k u)
closing_after h k (undefined l why v) up = up
closing_after h k _ up = up

pub changes_after : (l : ℕ) (why : Cause) (m : Option Memory) (w : World) → After (history w) (changes l why m w)
changes_after l why None w = stays (history w)
changes_after l why (Some m) w = stays (history w)

pub writing_on : (bytes : List ℕ) (w : World) → Grows (history w) (history (writing bytes w))
writing_on bytes w = record { written = bytes; output = refl; taken = []; input = refl; most_calls = omega arith; most_cells = omega arith }

pub taking_on : (taken rest : List ℕ) (w : World) → w.input ≡ taken ++ rest → Grows (history w) (history (record w { input = rest }))
taking_on taken rest w is = record { written = []; output = sym (append-nil w.output); taken = taken; input = is; most_calls = omega arith; most_cells = omega arith }

pub calling_on : (w : World) → Grows (history w) (history (calling w))
calling_on w = record { written = []; output = sym (append-nil w.output); taken = []; input = refl; most_calls = omega arith; most_cells = omega arith }

pub vec_on : (cells : List Cell) (w : World) → Grows (history w) (history (making_vec cells w))
vec_on cells w = record { written = []; output = sym (append-nil w.output); taken = []; input = refl; most_calls = omega arith; most_cells = omega arith }

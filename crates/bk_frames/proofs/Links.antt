-- What the links of ways come to.
use Rattle.bk_frames.proofs.Terms.{◌≡◌, ◌↔◌, ℕ, ◌+◌, Bool, true, ◌&&◌, ◌||◌, Option, Some, None, refl, sym, subst, arith, Closing, Assigning, Listing, Going, Repeating, Operating, Link, Following, next_of, is_next, some_next, led_following, led_by, reached, raised, Any, AtClosing, AtListing, Unlisted, Closed, Missing, Link as l}
use Rattle.bk_frames.specs.declared.budget.Lookahead.{Lookahead}
use Rattle.bk_frames.specs.Completing as w
use Rattle.bk_frames.proofs.Lowering.{Falls}

-- ---- tests

pub both : {a b : Bool} → a ≡ true → b ≡ true → a && b ≡ true
both {a = a} {b = b} p q = grind arith

pub first : (a b : Bool) → a && b ≡ true → a ≡ true
first a b p = grind arith

pub second : (a b : Bool) → a && b ≡ true → b ≡ true
second a b p = grind arith

pub next_in : (c : w.Lookahead) → is_next c c ≡ true
next_in c = grind arith

pub next_is : (a c : w.Lookahead) → is_next a c ≡ true → a ≡ c
next_is a c h1 = grind arith

-- ---- some symbol

pub some_in : (f : Lookahead → Bool) (k : Lookahead) → f k ≡ true → some_next f ≡ true
some_in f k h1 = grind arith

abbrev Sum : (Lookahead → Bool) → Type 0
Sum f = (k : Lookahead) × (f k ≡ true)

either_way : {X : Type 0} → (a b : Bool) → (a ≡ true → X) → (b ≡ true → X) → a || b ≡ true → X
either_way a b h1 h2 h3 = grind arith

pub some_of : (f : Lookahead → Bool) → some_next f ≡ true → Sum f
some_of f h1 = grind (arith, either_way)

abbrev pub from : w.Lookahead → Lookahead
from w.closing = Closing
from w.assigning = Assigning
from w.listing = Listing
from w.going = Going
from w.repeating = Repeating
from w.operating = Operating

pub from_is : (c : w.Lookahead) → next_of (from c) ≡ c
from_is c = grind arith

-- ---- where a symbol comes

abbrev pub At : w.Lookahead → Type 0 → w.Lookahead → Type 0
At w.closing X c = AtClosing X c
At w.listing X c = AtListing X c
At k X c = (k ≡ c) × X

pub at_in : {X : Type 0} → (k c : w.Lookahead) → k ≡ c → X → At k X c
at_in k c h1 h2 = grind arith

pub at_of : {X : Type 0} → (k c : w.Lookahead) → At k X c → (k ≡ c) × X
at_of k c h1 = grind arith

abbrev pub Ended : (w.Lookahead → Type 0) → w.Lookahead → Type 0
Ended F w.closing = F w.closing
Ended F w.assigning = F w.assigning
Ended F w.listing = F w.listing
Ended F _ = ⊥

-- ---- links

-- the test decides it
abbrev pub Decided : (ℕ → ℕ → w.Lookahead → Type 0) → (w.Lookahead → ℕ → ℕ → Bool) → Type 0
Decided F t = (c : w.Lookahead) (d n : ℕ) → F d n c ↔ (t c d n ≡ true)

abbrev pub Led : Link → (ℕ → ℕ → w.Lookahead → Type 0) → ℕ → ℕ → w.Lookahead → Type 0
Led l.Each F d n c = F d n c
Led l.Unlisted F d n c = Unlisted (F d n) c
Led l.Ended F d n c = Ended (F d n) c
Led l.Closing F d n c = AtClosing (F d n w.closing) c
Led (l.Then k) F d n c = At (next_of k) (Any (F d n)) c
Led (l.ThenUnlisted k) F d n c = At (next_of k) (Any (Unlisted (F d n))) c
Led (l.ThenClosed k) F d n c = At (next_of k) (Any (Closed F d n)) c
Led (l.ThenMissing k) F d n c = At (next_of k) (Any (Missing F d n)) c

-- by a symbol behind the whole
abbrev Reaches : Option Following → (ℕ → ℕ → Type 0) → ℕ → ℕ → w.Lookahead → Type 0
Reaches None G d n c = ⊥
Reaches (Some m) G d n c = (next_of m.next ≡ c) × G (raised m.more d) (raised m.more n)

abbrev Reached : Link → (ℕ → ℕ → w.Lookahead → Type 0) → ℕ → ℕ → w.Lookahead → Type 0
Reached k F d n c = (j : Lookahead) × Reaches (reached k j) (λ e m. F e m (next_of j)) d n c

following_in : (o : Option Following) (G : ℕ → ℕ → Type 0) (t : ℕ → ℕ → Bool) → ((d n : ℕ) → G d n ↔ (t d n ≡ true)) → (d n : ℕ) (c : w.Lookahead) → Reaches o G d n c → led_following o t d n c ≡ true
following_in o G t h1 d n c h2 = grind (arith, both, next_in)

following_of : (o : Option Following) (G : ℕ → ℕ → Type 0) (t : ℕ → ℕ → Bool) → ((d n : ℕ) → G d n ↔ (t d n ≡ true)) → (d n : ℕ) (c : w.Lookahead) → led_following o t d n c ≡ true → Reaches o G d n c
following_of o G t h1 d n c h2 = grind (arith, next_is, second, first)

reached_in : (k : Link) (F : ℕ → ℕ → w.Lookahead → Type 0) (t : w.Lookahead → ℕ → ℕ → Bool) → Decided F t → (d n : ℕ) (c : w.Lookahead) → Reached k F d n c → led_by k t d n c ≡ true
reached_in k F t h d n c x = some_in (λ j. led_following (reached k j) (t (next_of j)) d n c) x.0 (following_in (reached k x.0) (λ e m. F e m (next_of x.0)) (t (next_of x.0)) (h (next_of x.0)) d n c x.1)

reached_of : (k : Link) (F : ℕ → ℕ → w.Lookahead → Type 0) (t : w.Lookahead → ℕ → ℕ → Bool) → Decided F t → (d n : ℕ) (c : w.Lookahead) → led_by k t d n c ≡ true → Reached k F d n c
reached_of k F t h d n c x =
    let s : Sum (λ j. led_following (reached k j) (t (next_of j)) d n c) = some_of (λ j. led_following (reached k j) (t (next_of j)) d n c) x in
    (s.0, following_of (reached k s.0) (λ e m. F e m (next_of s.0)) (t (next_of s.0)) (h (next_of s.0)) d n c s.1)

-- each link in the words of the ways on

each_in : (F : ℕ → ℕ → w.Lookahead → Type 0) (d n : ℕ) (c : w.Lookahead) → F d n c → Reached l.Each F d n c
each_in F d n w.closing x = (Closing, (refl, x))
each_in F d n c x = (from c, (refl, x))

moved : (G : w.Lookahead → Type 0) (a c : w.Lookahead) → a ≡ c → G a → G c
moved G a c e x = subst G e x

each_of : (F : ℕ → ℕ → w.Lookahead → Type 0) (d n : ℕ) (c : w.Lookahead) → Reached l.Each F d n c → F d n c
each_of F d n c x = moved (F d n) (next_of x.0) c x.1.0 x.1.1

unlisted_in : (F : ℕ → ℕ → w.Lookahead → Type 0) (d n : ℕ) (c : w.Lookahead) → Unlisted (F d n) c → Reached l.Unlisted F d n c
unlisted_in F d n c h1 = grind arith

unlisted_of : (F : ℕ → ℕ → w.Lookahead → Type 0) (d n : ℕ) (c : w.Lookahead) → Reached l.Unlisted F d n c → Unlisted (F d n) c
unlisted_of F d n c h1 = grind (arith, moved)

ended_in : (F : ℕ → ℕ → w.Lookahead → Type 0) (d n : ℕ) (c : w.Lookahead) → Ended (F d n) c → Reached l.Ended F d n c
ended_in F d n c h1 = grind arith

ended_of : (F : ℕ → ℕ → w.Lookahead → Type 0) (d n : ℕ) (c : w.Lookahead) → Reached l.Ended F d n c → Ended (F d n) c
ended_of F d n c h1 = grind (arith, moved)

closing_in : (F : ℕ → ℕ → w.Lookahead → Type 0) (d n : ℕ) (c : w.Lookahead) → AtClosing (F d n w.closing) c → Reached l.Closing F d n c
closing_in F d n c x = let y : (w.closing ≡ c) × F d n w.closing = at_of w.closing c x in (Closing, y)

closing_of : (F : ℕ → ℕ → w.Lookahead → Type 0) (d n : ℕ) (c : w.Lookahead) → Reached l.Closing F d n c → AtClosing (F d n w.closing) c
closing_of F d n c h1 = grind (arith, at_in)

then_in : (k : Lookahead) (F : ℕ → ℕ → w.Lookahead → Type 0) (d n : ℕ) (c : w.Lookahead) → next_of k ≡ c → Any (F d n) → Reached (l.Then k) F d n c
then_in k F d n c e x = (from x.0, (e, moved (F d n) x.0 (next_of (from x.0)) (sym (from_is x.0)) x.1))

then_of : (k : Lookahead) (F : ℕ → ℕ → w.Lookahead → Type 0) (d n : ℕ) (c : w.Lookahead) → Reached (l.Then k) F d n c → At (next_of k) (Any (F d n)) c
then_of k F d n c x = at_in (next_of k) c x.1.0 (next_of x.0, x.1.1)

then_unlisted_in : (k : Lookahead) (F : ℕ → ℕ → w.Lookahead → Type 0) (d n : ℕ) (c : w.Lookahead) → next_of k ≡ c → Any (Unlisted (F d n)) → Reached (l.ThenUnlisted k) F d n c
then_unlisted_in k F d n c h1 h2 = grind arith

then_unlisted_of : (k : Lookahead) (F : ℕ → ℕ → w.Lookahead → Type 0) (d n : ℕ) (c : w.Lookahead) → Reached (l.ThenUnlisted k) F d n c → At (next_of k) (Any (Unlisted (F d n))) c
then_unlisted_of k F d n c h1 = grind (arith, at_in)

-- one command more around it is no better where none has to be
one_more : (F : ℕ → ℕ → w.Lookahead → Type 0) → Falls F → (k : Lookahead) (d n : ℕ) (c : w.Lookahead) → next_of k ≡ c → Any (F (d + 1) (n + 1)) → Reached (l.ThenClosed k) F d n c
one_more F f k d n c e (w.going, x) = (Going, (e, x))
one_more F f k d n c e (w.repeating, x) = (Repeating, (e, x))
one_more F f k d n c e (w.operating, x) = (Operating, (e, x))
one_more F f k d n c e (y, x) = (from y, (e, f d (d + 1) n (n + 1) (omega arith) (omega arith) y x))

then_closed_in : (F : ℕ → ℕ → w.Lookahead → Type 0) → Falls F → (k : Lookahead) (d n : ℕ) (c : w.Lookahead) → next_of k ≡ c → Any (Closed F d n) → Reached (l.ThenClosed k) F d n c
then_closed_in F h1 k d n c h2 h3 = grind (arith, one_more)

then_closed_of : (F : ℕ → ℕ → w.Lookahead → Type 0) (k : Lookahead) (d n : ℕ) (c : w.Lookahead) → Reached (l.ThenClosed k) F d n c → At (next_of k) (Any (Closed F d n)) c
then_closed_of F k d n c h1 = grind (arith, at_in)

one_more_missing : (F : ℕ → ℕ → w.Lookahead → Type 0) → Falls F → (k : Lookahead) (d n : ℕ) (c : w.Lookahead) → next_of k ≡ c → Any (F (d + 1) (n + 1)) → Reached (l.ThenMissing k) F d n c
one_more_missing F f k d n c e (w.going, x) = (Going, (e, x))
one_more_missing F f k d n c e (w.repeating, x) = (Repeating, (e, x))
one_more_missing F f k d n c e (y, x) = (from y, (e, f d (d + 1) n (n + 1) (omega arith) (omega arith) y x))

then_missing_in : (F : ℕ → ℕ → w.Lookahead → Type 0) → Falls F → (k : Lookahead) (d n : ℕ) (c : w.Lookahead) → next_of k ≡ c → Any (Missing F d n) → Reached (l.ThenMissing k) F d n c
then_missing_in F h1 k d n c h2 h3 = grind (arith, one_more_missing)

then_missing_of : (F : ℕ → ℕ → w.Lookahead → Type 0) (k : Lookahead) (d n : ℕ) (c : w.Lookahead) → Reached (l.ThenMissing k) F d n c → At (next_of k) (Any (Missing F d n)) c
then_missing_of F k d n c h1 = grind (arith, at_in)

-- ---- the test of a link

link_in : (k : Link) (F : ℕ → ℕ → w.Lookahead → Type 0) → Falls F → (d n : ℕ) (c : w.Lookahead) → Led k F d n c → Reached k F d n c
link_in l.Each F f d n c x = each_in F d n c x
link_in l.Unlisted F f d n c x = unlisted_in F d n c x
link_in l.Ended F f d n c x = ended_in F d n c x
link_in l.Closing F f d n c x = closing_in F d n c x
link_in (l.Then k) F f d n c x = let y : (next_of k ≡ c) × Any (F d n) = at_of (next_of k) c x in then_in k F d n c y.0 y.1
link_in (l.ThenUnlisted k) F f d n c x = let y : (next_of k ≡ c) × Any (Unlisted (F d n)) = at_of (next_of k) c x in then_unlisted_in k F d n c y.0 y.1
link_in (l.ThenClosed k) F f d n c x = let y : (next_of k ≡ c) × Any (Closed F d n) = at_of (next_of k) c x in then_closed_in F f k d n c y.0 y.1
link_in (l.ThenMissing k) F f d n c x = let y : (next_of k ≡ c) × Any (Missing F d n) = at_of (next_of k) c x in then_missing_in F f k d n c y.0 y.1

link_of : (k : Link) (F : ℕ → ℕ → w.Lookahead → Type 0) (d n : ℕ) (c : w.Lookahead) → Reached k F d n c → Led k F d n c
link_of k F d n c h1 = grind (arith, each_of, unlisted_of, ended_of, closing_of, then_of, then_unlisted_of, then_closed_of, then_missing_of)

-- the test of a link decides what comes behind it, where the depth and the nodes are the same numbers
pub link_test : (k : Link) (F : ℕ → ℕ → w.Lookahead → Type 0) → Falls F → (t : w.Lookahead → ℕ → ℕ → Bool) → Decided F t → (d e n m : ℕ) (c : w.Lookahead) → d ≡ e → n ≡ m → Led k F d n c ↔ (led_by k t e m c ≡ true)
link_test k F f t h d e n m c p q =
    let G : ℕ → ℕ → Type 0 = λ a b. Led k F d n c ↔ (led_by k t a b c ≡ true) in
    let g : G d n = (λ x. reached_in k F t h d n c (link_in k F f d n c x), λ x. link_of k F d n c (reached_of k F t h d n c x)) in
    let H : ℕ → Type 0 = λ a. G a n in
    let I : ℕ → Type 0 = λ b. G e b in
    subst I q (subst H p g)

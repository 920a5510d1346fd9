-- The ways on, taken apart.
use Rattle.bk_frames.proofs.Terms.{◌≡◌, ◌⊎◌, ◌↔◌, inl, ℕ, ◌+◌, ◌==◌, max, not, Bool, true, false, ◌||◌, arith, nat_lt, nat_tests, Category, Expression, Form, inner, Stack, in_binary, in_start, owed, Limit, is_tight, Tight, Part, Sized, goes_on, Any, AtClosing, AtListing, AtArgument, AtAssignment, AtPart, Unlisted, Started, Answered, Whole, Taken, Gives, Does, Operates, Defines, Declares, Form as f, or_cases, or_left, or_right}
use Rattle.bk_frames.specs.Completing as w
use Rattle.bk_frames.proofs.Lowering.{Down, Falls, from_closing, from_listing, at_closing, gives_falls, operates_fall, defines_fall, declares_fall, any_falls}
use Rattle.bk_frames.proofs.Links.{At, at_in, at_of, Ended, Decided}

abbrev pub Budgets : Bool → Stack → Type 0
Budgets b st = (x : Category) (c : w.Lookahead) (d n : ℕ) → Sized x d n → Part (Limit b) st x c d n ↔ (goes_on b st x c d n ≡ true)

pub limit_down : (b : Bool) → Down (Limit b)
limit_down b = grind arith

pub via : {X Y Z : Type 0} → (X ↔ Y) → (Y ↔ Z) → X ↔ Z
via f g = (λ x. g.0 (f.0 x), λ z. f.1 (g.1 z))

or_in : {X Y : Type 0} → (a b : Bool) → (X → a ≡ true) → (Y → b ≡ true) → X ⊎ Y → a || b ≡ true
or_in a b h1 h2 h3 = grind (arith, or_left, or_right)

or_of : {X Y : Type 0} → (a b : Bool) → (a ≡ true → X) → (b ≡ true → Y) → (a ≡ true) ⊎ (b ≡ true) → X ⊎ Y
or_of a b h1 h2 h3 = grind arith

pub either : {X Y : Type 0} {a b : Bool} → (X ↔ (a ≡ true)) → (Y ↔ (b ≡ true)) → (X ⊎ Y) ↔ (a || b ≡ true)
either {a = a} {b = b} f g = (or_in a b f.0 g.0, λ h. or_of a b f.1 g.1 (or_cases a b h))

pub none_is : ⊥ ↔ (false ≡ true)
none_is = (λ x. absurd x, λ e. absurd cc)

left : {X Y : Type 0} → X ⊎ Y → (Y → ⊥) → X
left h1 h2 = grind arith

right : {X Y : Type 0} → X ⊎ Y → (X → ⊥) → Y
right h1 h2 = grind arith

sum_none : {X : Type 0} → X ⊎ ⊥ → X
sum_none h = left h (λ x. x)

pub add_none : {X : Type 0} → X ↔ (X ⊎ ⊥)
add_none = (inl, sum_none)

shut_in : (c : w.Lookahead) → AtClosing ⊥ c → false ≡ true
shut_in c h1 = grind arith

pub shut : (c : w.Lookahead) → AtClosing ⊥ c ↔ (false ≡ true)
shut c = (shut_in c, λ e. absurd cc)

pub closing_as : {X Y : Type 0} → (X ↔ Y) → (c : w.Lookahead) → AtClosing X c ↔ AtClosing Y c
closing_as f c = (at_closing f.0 c, at_closing f.1 c)

pub at_as : {X Y : Type 0} → (k : w.Lookahead) → (X ↔ Y) → (c : w.Lookahead) → At k X c ↔ At k Y c
at_as {X = X} {Y = Y} k f c = (λ h. let x : (k ≡ c) × X = at_of k c h in at_in k c x.0 (f.0 x.1), λ h. let y : (k ≡ c) × Y = at_of k c h in at_in k c y.0 (f.1 y.1))

pub listing_as : {X Y : Type 0} → (X ↔ Y) → (c : w.Lookahead) → AtListing X c ↔ AtListing Y c
listing_as f c = at_as w.listing f c

pub operating_as : {X Y : Type 0} → (X ↔ Y) → (c : w.Lookahead) → At w.operating X c ↔ At w.operating Y c
operating_as f c = at_as w.operating f c

pub any_closing : (X : Type 0) → Any (AtClosing X) ↔ X
any_closing X = (from_closing, λ x. (w.closing, x))

pub any_listing : (X : Type 0) → Any (AtListing X) ↔ X
any_listing X = (from_listing, λ x. (w.listing, x))

closed_any : {X : Type 0} → X ↔ Any (AtClosing X)
closed_any = (λ x. (w.closing, x), from_closing)

pub closing_any : (X : Type 0) (c : w.Lookahead) → AtClosing X c ↔ AtClosing (Any (AtClosing X)) c
closing_any X c = closing_as closed_any c

pub listing_any : (X : Type 0) (c : w.Lookahead) → AtListing X c ↔ AtListing (Any (AtClosing X)) c
listing_any X c = listing_as closed_any c

pub sum_closing : (X Y : Type 0) (c : w.Lookahead) → AtClosing (X ⊎ Y) c ↔ (AtClosing X c ⊎ AtClosing Y c)
sum_closing X Y c = grind (arith, sum_none)

none_sum : {X : Type 0} → ⊥ ⊎ X → X
none_sum h = right h (λ x. x)

pub split_argument : (X Y : Type 0) (c : w.Lookahead) → AtArgument X Y c ↔ (AtClosing X c ⊎ AtListing Y c)
split_argument X Y c = grind (arith, sum_none, none_sum)

other_at : {X Y : Type 0} {k c : w.Lookahead} → (k ≡ c → ⊥) → ((k ≡ c) × X) ⊎ Y → Y
other_at f h = right h (λ x. f x.0)

assignment_of : {X : Type 0} → ((w.assigning ≡ w.assigning) × X) ⊎ ⊥ → X
assignment_of h = (left h (λ x. x)).1

pub split_assignment : (X Y : Type 0) (c : w.Lookahead) → AtAssignment X Y c ↔ (At w.assigning X c ⊎ AtListing Y c)
split_assignment X Y c = grind (arith, assignment_of, other_at)

pub split_part : (F G : w.Lookahead → Type 0) (c : w.Lookahead) → AtPart F G c ↔ (Unlisted F c ⊎ AtListing (Any (Unlisted G)) c)
split_part F G c = grind (arith, none_sum, sum_none)

at_other : {X Y : Type 0} {k c : w.Lookahead} → (k ≡ c → ⊥) → X ⊎ ((k ≡ c) × Y) → X
at_other f h = left h (λ x. f x.0)

at_same : {Y : Type 0} {k : w.Lookahead} → ⊥ ⊎ ((k ≡ k) × Y) → Y
at_same h = (right h (λ x. x)).1

pub split_closed : (F : ℕ → ℕ → w.Lookahead → Type 0) (d n : ℕ) (c : w.Lookahead) → w.Closed F d n c ↔ (Ended (F d n) c ⊎ At w.repeating (Any (F (d + 1) (n + 1))) c)
split_closed F d n c = grind (arith, at_same, at_other)

at_none : {X Y Z : Type 0} {c : w.Lookahead} → (w.going ≡ c → ⊥) → (w.operating ≡ c → ⊥) → X ⊎ (((w.going ≡ c) × Y) ⊎ ((w.operating ≡ c) × Z)) → X
at_none f k h = left h (λ x. k (right x (λ y. f y.0)).0)

at_going : {Y Z : Type 0} → ⊥ ⊎ (((w.going ≡ w.going) × Y) ⊎ ((w.operating ≡ w.going) × Z)) → Y
at_going h = (left (right h (λ x. x)) (λ y. let e : w.operating ≡ w.going = y.0 in cc)).1

at_operating : {Y Z : Type 0} → ⊥ ⊎ (((w.going ≡ w.operating) × Y) ⊎ ((w.operating ≡ w.operating) × Z)) → Z
at_operating h = (right (right h (λ x. x)) (λ y. let e : w.going ≡ w.operating = y.0 in cc)).1

pub split_answered : (G : Form → ℕ → ℕ → w.Lookahead → Type 0) (H : ℕ → ℕ → Type 0) (d n : ℕ) (c : w.Lookahead) → Answered G H d n c ↔ (Ended (G f.Callable (d + 1) (n + 1)) c ⊎ (At w.going (Any (G f.Call (d + 2) (n + 2))) c ⊎ At w.operating (H (d + 1) (n + 1)) c))
split_answered G H d n c = grind (arith, at_none, at_going, at_operating)

-- ---- the start of a command

abbrev Assigns : (ℕ → ℕ → w.Lookahead → Type 0) → ℕ → ℕ → w.Lookahead → Type 0
Assigns F d n c = At w.assigning (Any (w.Closed F (max d 1 + 1) (n + 2))) c

abbrev Lists : (ℕ → ℕ → w.Lookahead → Type 0) → ℕ → ℕ → w.Lookahead → Type 0
Lists F d n c = AtListing (Any (w.Closed F (max d 1 + 1) (n + 4))) c

third : {X Z : Type 0} {c : w.Lookahead} → (w.assigning ≡ c → ⊥) → ((w.assigning ≡ c) × X) ⊎ (⊥ ⊎ Z) → Z
third f h = right (right h (λ x. f x.0)) (λ x. x)

assigned : {X Z : Type 0} → (Z → ⊥) → ((w.assigning ≡ w.assigning) × X) ⊎ (⊥ ⊎ Z) → X
assigned f h = (left h (λ x. f (right x (λ y. y)))).1

listed : {X Y Z : Type 0} → (Z → ⊥) → ((w.assigning ≡ w.listing) × X) ⊎ (Y ⊎ Z) → Y
listed f h = left (right h (λ x. let e : w.assigning ≡ w.listing = x.0 in cc)) f

pub split_start : (F : ℕ → ℕ → w.Lookahead → Type 0) (d n : ℕ) (c : w.Lookahead) → Started F f.Other d n c ↔ (Assigns F d n c ⊎ (Lists F d n c ⊎ ⊥))
split_start F d n c = grind (arith, assigned, listed, third)

no_call : {Y : Type 0} {c : w.Lookahead} → (w.repeating ≡ c → ⊥) → ⊥ ⊎ ((w.repeating ≡ c) × Y) → ⊥
no_call f h = f (right h (λ x. x)).0

call_closing : {X Y : Type 0} → X ⊎ ((w.repeating ≡ w.closing) × Y) → X
call_closing h = left h (λ x. let e : w.repeating ≡ w.closing = x.0 in cc)

pub split_start_call : (F : ℕ → ℕ → w.Lookahead → Type 0) (d n : ℕ) (c : w.Lookahead) → Started F f.Call d n c ↔ (Assigns F d n c ⊎ (Lists F d n c ⊎ (AtClosing (F d n w.closing) c ⊎ At w.repeating (Any (F (d + 1) (n + 1))) c)))
split_start_call F d n c = grind (arith, assigned, no_call, listed, call_closing, third, at_same)

pub split_start_label : (F : ℕ → ℕ → w.Lookahead → Type 0) (d n : ℕ) (c : w.Lookahead) → Started F f.Label d n c ↔ (Assigns F d n c ⊎ (Lists F d n c ⊎ (AtClosing (Any (w.Missing F 1 1) ⊎ Any (F 2 2)) c ⊎ ⊥)))
split_start_label F d n c = grind (arith, assigned, sum_none, listed, third)

with_command : (F : ℕ → ℕ → w.Lookahead → Type 0) → Any (w.Missing F 1 1) ⊎ Any (F 2 2) → Any (w.Missing F 1 1)
with_command F h1 = grind arith

pub label_closing : (F : ℕ → ℕ → w.Lookahead → Type 0) (c : w.Lookahead) → AtClosing (Any (w.Missing F 1 1) ⊎ Any (F 2 2)) c ↔ AtClosing (Any (w.Missing F 1 1)) c
label_closing F c = closing_as (with_command F, inl) c

-- ---- calls

whole_of : (G : Form → ℕ → ℕ → w.Lookahead → Type 0) → ((v : Form) → Falls (G v)) → (d n : ℕ) → Whole G f.Call d n → Any (G f.Call d n)
whole_of G h1 d n h2 = grind (arith, any_falls)

pub call_whole : (G : Form → ℕ → ℕ → w.Lookahead → Type 0) → ((v : Form) → Falls (G v)) → (d n : ℕ) → Whole G f.Call d n ↔ Any (G f.Call d n)
call_whole G k d n = (whole_of G k d n, inl)

callable_start : (F : ℕ → ℕ → w.Lookahead → Type 0) (d n : ℕ) (c : w.Lookahead) → Started F f.Callable d n c ↔ Started F f.Other d n c
callable_start F d n c = grind arith

pub plain : (P : ℕ → ℕ → Type 0) (st : Stack) (d n : ℕ) (c : w.Lookahead) → Gives P st f.Callable d n c ↔ Gives P st f.Other d n c
plain P (in_start st) d n c = callable_start (Does P st) d n c
plain P st d n c = (λ h. h, λ h. h)

pub callable : (b : Bool) (st : Stack) → Budgets b st → Decided (Gives (Limit b) st f.Callable) (goes_on b st Expression)
callable b st h c d n = via (plain (Limit b) st d n c) (h Expression c d n tt)

-- ---- definitions, declarations and operators

abbrev pub defined : Bool → Stack → ℕ → ℕ → w.Lookahead → Type 0
defined b st d n c = AtClosing (Defines (Limit b) st d n) c

abbrev pub declared : Bool → Stack → ℕ → ℕ → w.Lookahead → Type 0
declared b st d n c = AtClosing (Declares (Limit b) st d n) c

abbrev pub operated : Bool → Stack → ℕ → ℕ → w.Lookahead → Type 0
operated b st d n c = AtClosing (Tight (is_tight st) (Operates (Limit b) st (Gives (Limit b) st) d n)) c

pub defined_falls : (b : Bool) (st : Stack) → Falls (defined b st)
defined_falls b st d e n m p q c h = at_closing (defines_fall (Limit b) (limit_down b) st d e n m p q) c h

pub declared_falls : (b : Bool) (st : Stack) → Falls (declared b st)
declared_falls b st d e n m p q c h = at_closing (declares_fall (Limit b) (limit_down b) st d e n m p q) c h

tight_falls : {X Y : Type 0} → (t : Bool) → (X → Y) → Tight t X → Tight t Y
tight_falls t h1 h2 = grind arith

pub operated_falls : (b : Bool) (st : Stack) → Falls (operated b st)
operated_falls b st d e n m p q c h = at_closing (tight_falls (is_tight st) (operates_fall (Limit b) (limit_down b) st (gives_falls (Limit b) (limit_down b) st) d e n m p q)) c h

is_taken : (X Y : Type 0) (t : Bool) → not t ≡ false → Taken t X Y ↔ X
is_taken X Y t h1 = grind arith

pub loose : (b : Bool) (st : Stack) → is_tight st ≡ false → (d n : ℕ) → Operates (Limit b) st (Gives (Limit b) st) d n ↔ Any (Gives (Limit b) st f.Other (d + 1) (n + 2))
loose b (in_binary o s a st) e d n = is_taken _ _ (nat_lt 1 (inner o)) e
loose b st e d n = (λ h. h, λ h. h)

is_tightened : {X : Type 0} → (t : Bool) → t ≡ true → X ↔ Tight t X
is_tightened t h1 = grind arith

pub tight : (b : Bool) (st : Stack) → is_tight st ≡ true → (d n : ℕ) → Operates (Limit b) st (Gives (Limit b) st) d n ↔ Any (operated b st d n)
tight b st e d n = via (is_tightened (is_tight st) e) closed_any

pub counted_all : (a s : ℕ) → (a == s + 1) ≡ true → owed a s ≡ 0
counted_all a s e = grind (arith, nat_tests)

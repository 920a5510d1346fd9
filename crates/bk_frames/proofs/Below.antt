-- The rooms that ways leave of those below are the rooms of the stack.
use Rattle.bk_frames.proofs.Terms.{◌≡◌, ℕ, ◌+◌, max, Bool, false, ◌&&◌, ◌||◌, Option, List, [], ◌∷◌, refl, sym, ap, ◌∙◌, arith, Unfinished, Category, Closing, Assigning, Listing, Going, Repeating, Operating, Budget, Link, Completion, Completions, Following, Stack, unfinished_on, next_of, is_next, serves, holds, covered, counted, raised, reached, some_next, led_following, led_by, led_completion, led, goes_on, completions, AreBudgets, AreAdded, leads, by_budget, by_completion, by_completions, Unfinished as b, OpenExpression as o, Phrase as p, Member as m, Clause as c, Place as a, Point as t, and_left}
use Rattle.bk_frames.specs.declared.budget.Lookahead.{Lookahead}
use Rattle.bk_frames.specs.Completing as w
use Rattle.bk_frames.proofs.Links.{next_in}

-- ---- tests

or_none : (x : Bool) → x || false ≡ x
or_none x = grind arith

and_none : (x : Bool) → x && false ≡ false
and_none x = grind arith

or_cross : (x y z u : Bool) → (x || y) || (z || u) ≡ (x || z) || (y || u)
or_cross x y z u = grind arith

and_or : (x y z : Bool) → x && (y || z) ≡ (x && y) || (x && z)
and_or x y z = grind arith

or_and : (x y z : Bool) → (x || y) && z ≡ (x && z) || (y && z)
or_and x y z = grind arith

-- ---- some symbol

some_as : (f g : Lookahead → Bool) → ((k : Lookahead) → f k ≡ g k) → some_next f ≡ some_next g
some_as f g h = let e1 = h Closing in let e2 = h Assigning in let e3 = h Listing in let e4 = h Going in let e5 = h Repeating in let e6 = h Operating in cc

cross : (x y z u v : Bool) → v ≡ z || u → (x || y) || v ≡ (x || z) || (y || u)
cross x y z u v e = ap (λ s. (x || y) || s) e ∙ or_cross x y z u

some_or : (f g : Lookahead → Bool) → some_next (λ k. f k || g k) ≡ some_next f || some_next g
some_or f g = grind (arith, cross, or_cross)

pick : (x1 x2 x3 x4 x5 x6 y1 y2 y3 y4 y5 y6 : Bool) → x1 ≡ y1 → x2 ≡ y2 → x3 ≡ y3 → x4 ≡ y4 → x5 ≡ y5 → x6 ≡ y6 → x1 || (x2 || (x3 || (x4 || (x5 || x6)))) ≡ y1 || (y2 || (y3 || (y4 || (y5 || y6))))
pick x1 x2 x3 x4 x5 x6 y1 y2 y3 y4 y5 y6 e1 e2 e3 e4 e5 e6 = cc

only : (f : Lookahead → Bool) (k : Lookahead) → ((j : Lookahead) → is_next (next_of k) (next_of j) ≡ false → f j ≡ false) → some_next f ≡ f k
only f k h = grind (arith, h)

-- ---- one symbol behind the whole

following_as : (k : Option Following) (f g : ℕ → ℕ → Bool) → ((d n : ℕ) → f d n ≡ g d n) → (d n : ℕ) (x : w.Lookahead) → led_following k f d n x ≡ led_following k g d n x
following_as k f g h1 d n x = grind arith

following_none : (k : Option Following) (d n : ℕ) (x : w.Lookahead) → led_following k (λ e i. false) d n x ≡ false
following_none k d n x = grind arith

following_or : (k : Option Following) (f g : ℕ → ℕ → Bool) (d n : ℕ) (x : w.Lookahead) → led_following k (λ e i. f e i || g e i) d n x ≡ led_following k f d n x || led_following k g d n x
following_or k f g d n x = grind (arith, or_and)

by_as : (k : Link) (f g : w.Lookahead → ℕ → ℕ → Bool) → ((j : w.Lookahead) (d n : ℕ) → f j d n ≡ g j d n) → (d n : ℕ) (x : w.Lookahead) → led_by k f d n x ≡ led_by k g d n x
by_as k f g h d n x = some_as (λ j. led_following (reached k j) (f (next_of j)) d n x) (λ j. led_following (reached k j) (g (next_of j)) d n x) (λ j. following_as (reached k j) (f (next_of j)) (g (next_of j)) (h (next_of j)) d n x)

by_none : (k : Link) (d n : ℕ) (x : w.Lookahead) → led_by k (λ j e i. false) d n x ≡ false
by_none k d n x = some_as (λ j. led_following (reached k j) (λ e i. false) d n x) (λ j. false) (λ j. following_none (reached k j) d n x)

by_or : (k : Link) (f g : w.Lookahead → ℕ → ℕ → Bool) (d n : ℕ) (x : w.Lookahead) → led_by k (λ j e i. f j e i || g j e i) d n x ≡ led_by k f d n x || led_by k g d n x
by_or k f g d n x =
    some_as (λ j. led_following (reached k j) (λ e i. f (next_of j) e i || g (next_of j) e i) d n x) (λ j. led_following (reached k j) (f (next_of j)) d n x || led_following (reached k j) (g (next_of j)) d n x) (λ j. following_or (reached k j) (f (next_of j)) (g (next_of j)) d n x)
    ∙ some_or (λ j. led_following (reached k j) (f (next_of j)) d n x) (λ j. led_following (reached k j) (g (next_of j)) d n x)

-- ---- one room

not_there : (k : Option Following) (f : ℕ → ℕ → Bool) → ((d n : ℕ) → f d n ≡ false) → (d n : ℕ) (x : w.Lookahead) → led_following k f d n x ≡ false
not_there k f h d n x = following_as k f (λ e i. false) h d n x ∙ following_none k d n x

summed : (q e : Bool) (n k : ℕ) → counted q (raised e (n + k)) ≡ counted q n + counted q (raised e k)
summed q e n k = grind arith

there : (q : Bool) (y : Completion) (r : Budget) (k : Option Following) (x : Category) (c : w.Lookahead) (d n : ℕ)
    → serves y.category x && led_following k (λ e i. holds r y.onto (next_of r.next) e (counted q i)) (max y.floor (d + y.rise)) (n + y.nodes) c ≡ leads q y r k x c d (counted q n)
there q y r k x c d n = grind (arith, and_none, next_in, summed)

one_budget : (q : Bool) (y : Completion) (r : Budget) (x : Category) (c : w.Lookahead) (d n : ℕ)
    → serves y.category x && led_by y.link (λ j e i. holds r y.onto j e (counted q i)) (max y.floor (d + y.rise)) (n + y.nodes) c ≡ by_budget q y r x c d (counted q n)
one_budget q y r x c d n =
    ap (λ z. serves y.category x && z) (only (λ j. led_following (reached y.link j) (λ e i. holds r y.onto (next_of j) e (counted q i)) (max y.floor (d + y.rise)) (n + y.nodes) c) r.next
    (λ j h. not_there (reached y.link j) (λ e i. holds r y.onto (next_of j) e (counted q i)) (λ e i. and_left (is_next (next_of r.next) (next_of j)) _ h) (max y.floor (d + y.rise)) (n + y.nodes) c))
    ∙ there q y r (reached y.link r.next) x c d n

-- ---- all rooms

completion_budgets : (q : Bool) (y : Completion) (rs : List Budget) (x : Category) (c : w.Lookahead) (d n : ℕ)
    → serves y.category x && led_by y.link (λ j e i. covered rs y.onto j e (counted q i)) (max y.floor (d + y.rise)) (n + y.nodes) c ≡ by_completion q y rs x c d (counted q n)
completion_budgets q y [] x c d n = ap (λ z. serves y.category x && z) (by_none y.link (max y.floor (d + y.rise)) (n + y.nodes) c) ∙ and_none (serves y.category x)
completion_budgets q y (r ∷ rs) x c d n =
    let f : w.Lookahead → ℕ → ℕ → Bool = λ j e i. holds r y.onto j e (counted q i) in
    let g : w.Lookahead → ℕ → ℕ → Bool = λ j e i. covered rs y.onto j e (counted q i) in
    let e = max y.floor (d + y.rise) in
    let i = n + y.nodes in
    ap (λ z. serves y.category x && z) (by_or y.link f g e i c)
    ∙ and_or (serves y.category x) (led_by y.link f e i c) (led_by y.link g e i c)
    ∙ ap (λ z. z || (serves y.category x && led_by y.link g e i c)) (one_budget q y r x c d n)
    ∙ ap (λ z. by_budget q y r x c d (counted q n) || z) (completion_budgets q y rs x c d n)

completion_led : (q : Bool) (st : Stack) (y : Completion) (rs : List Budget) → AreBudgets q st rs → (x : Category) (c : w.Lookahead) (d n : ℕ) → by_completion q y rs x c d (counted q n) ≡ led_completion y (goes_on q st) x c d n
completion_led q st y rs h x c d n =
    sym (completion_budgets q y rs x c d n)
    ∙ ap (λ z. serves y.category x && z) (by_as y.link (λ j e i. covered rs y.onto j e (counted q i)) (goes_on q st y.onto) (λ j e i. h y.onto j e i) (max y.floor (d + y.rise)) (n + y.nodes) c)

completions_led : (q : Bool) (st : Stack) (ys : Completions) (rs : List Budget) → AreBudgets q st rs → (x : Category) (c : w.Lookahead) (d n : ℕ) → by_completions q ys rs x c d (counted q n) ≡ led ys (goes_on q st) x c d n
completions_led q st ys rs h1 x c d n = grind (arith, completion_led)

by_unfinished : (q : Bool) (x : Unfinished) (st : Stack) (k : Category) (c : w.Lookahead) (d n : ℕ) → goes_on q (unfinished_on x st) k c d n ≡ led (completions (unfinished_on x st)) (goes_on q st) k c d n
by_unfinished q (b.OpenExpression (o.Parens v_l)) st k c d n = refl
by_unfinished q (b.Phrase p.Start) st k c d n = refl
by_unfinished q (b.Member (m.Item v_l v_q v_is v_x)) st k c d n = refl
by_unfinished q (b.Clause (c.Valof v_l)) st k c d n = refl
by_unfinished q (b.Place (a.Block v_l v_q v_ds v_cs)) st k c d n = refl
by_unfinished q (b.Point (t.Opening v_l v_q)) st k c d n = refl
by_unfinished q x st k c d n = refl

pub budgets_above : (q : Bool) (x : Unfinished) (st : Stack) (below above : List Budget) → AreBudgets q st below → AreAdded (by_completions q (completions (unfinished_on x st)) below) [] above → AreBudgets q (unfinished_on x st) above
budgets_above q x st below above h g k c d n = g k c d (counted q n) ∙ completions_led q st (completions (unfinished_on x st)) below h k c d n ∙ sym (by_unfinished q x st k c d n)

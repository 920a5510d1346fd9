-- Lists of rooms, and the rooms that ways leave of them.
use Rattle.bk_frames.proofs.Terms.{◌≡◌, ◌≤◌, ◌<◌, ℕ, zero, suc, ◌+◌, ◌-◌, max, leb, Bool, true, false, ◌&&◌, ◌||◌, Option, Some, List, [], ◌∷◌, ◌++◌, length, get_or, take, sym, subst, ap, ◌∙◌, arith, nat_tests, Category, Closing, Assigning, Listing, Going, Repeating, Operating, Budget, Completion, Following, kept, category_number, next_number, next_of, is_next, serves, holds, covered, counted, raised, Within, AreAdded, IsKept, leads, by_budget, by_completion, take_more, take_all, or_left, or_right}
use Rattle.std.specs.List.{remove}
use Rattle.bk_frames.specs.declared.budget.Category.TheVariants.{Expression, Label, Call, Operated, Command, Missing, Definition, Declaration, Due, Closed}
use Rattle.bk_frames.specs.declared.budget.Lookahead.{Lookahead}
use Rattle.bk_frames.specs.Completing as w
use Rattle.bk_frames.proofs.Links.{both, first, second}

-- so it is of some room of the list
abbrev pub IsCovered : Budget → List Budget → Type 0
IsCovered r rs = (x : Category) (c : w.Lookahead) (d n : ℕ) → holds r x c d n ≡ true → covered rs x c d n ≡ true

-- the rooms of the one list and those of the other are as good, beside this one
abbrev pub AreBeside : Budget → List Budget → List Budget → Type 0
AreBeside r rs ss = (x : Category) (c : w.Lookahead) (d n : ℕ) → (holds r x c d n || covered rs x c d n) ≡ (holds r x c d n || covered ss x c d n)

category_of : ℕ → Category
category_of zero = Expression
category_of (suc zero) = Label
category_of (suc (suc zero)) = Call
category_of (suc (suc (suc zero))) = Operated
category_of (suc (suc (suc (suc zero)))) = Command
category_of (suc (suc (suc (suc (suc zero))))) = Missing
category_of (suc (suc (suc (suc (suc (suc zero)))))) = Definition
category_of (suc (suc (suc (suc (suc (suc (suc zero))))))) = Declaration
category_of (suc (suc (suc (suc (suc (suc (suc (suc zero)))))))) = Due
category_of _ = Closed

category_back : (x : Category) → category_of (category_number x) ≡ x
unfolding category_of
category_back x = grind arith

next_from : ℕ → Lookahead
next_from zero = Closing
next_from (suc zero) = Assigning
next_from (suc (suc zero)) = Listing
next_from (suc (suc (suc zero))) = Going
next_from (suc (suc (suc (suc zero)))) = Repeating
next_from _ = Operating

next_back : (x : Lookahead) → next_from (next_number x) ≡ x
unfolding next_from
next_back x = grind arith

category_is : (x y : Category) → category_number x ≡ category_number y → x ≡ y
category_is x y e = sym (category_back x) ∙ ap category_of e ∙ category_back y

next_is : (x y : Lookahead) → next_number x ≡ next_number y → x ≡ y
next_is x y e = sym (next_back x) ∙ ap next_from e ∙ next_back y

leb_up : (a b c : ℕ) → b ≤ c → leb a b ≡ true → leb a c ≡ true
leb_up a b c p q = grind (arith, nat_tests)

pub within_by : (r s : Budget) → category_number r.category ≡ category_number s.category → next_number r.next ≡ next_number s.next → r.depth ≤ s.depth → r.nodes ≤ s.nodes → Within r s
within_by r s p q d n x c e m h = grind (arith, second, both, leb_up, (next_is r.next s.next q), (first (is_next (next_of r.next) c) _ h), (category_is r.category s.category p))

pub covered_at : (rs : List Budget) (i : ℕ) (r z : Budget) → i < length rs → Within r z → z ≡ get_or rs i z → IsCovered r rs
covered_at [] i r z lt h is x c d n k = absurd (omega (arith, lt))
covered_at (s ∷ rs) zero r z lt h is x c d n k = let P : Budget → Type 0 = λ y. holds y x c d n ≡ true in or_left (holds s x c d n) (covered rs x c d n) (subst P is (h x c d n k))
covered_at (s ∷ rs) (suc i) r z lt h is x c d n k = or_right (holds s x c d n) (covered rs x c d n) (covered_at rs i r z (omega (arith, lt)) h is x c d n k)

absorbed : (a b c : Bool) → (b ≡ true → a ≡ true) → a || (b || c) ≡ a || c
absorbed a b c h = grind arith

swapped : (a b c e : Bool) → a || c ≡ a || e → a || (b || c) ≡ a || (b || e)
swapped a b c e h = grind arith

pub dropped : (rs : List Budget) (i : ℕ) (r z : Budget) → i < length rs → Within z r → z ≡ get_or rs i z → AreBeside r rs (remove rs i)
dropped [] i r z lt h is x c d n = absurd (omega (arith, lt))
dropped (s ∷ rs) zero r z lt h is x c d n = let P : Budget → Type 0 = λ y. holds y x c d n ≡ true → holds r x c d n ≡ true in absorbed (holds r x c d n) (holds s x c d n) (covered rs x c d n) (subst P is (h x c d n))
dropped (s ∷ rs) (suc i) r z lt h is x c d n = swapped (holds r x c d n) (holds s x c d n) (covered rs x c d n) (covered (remove rs i) x c d n) (dropped rs i r z (omega (arith, lt)) h is x c d n)

or_assoc : (a b c : Bool) → (a || b) || c ≡ a || (b || c)
or_assoc a b c = grind arith

or_none : (a : Bool) → a || false ≡ a
or_none a = grind arith

or_swap : (a b : Bool) → a || b ≡ b || a
or_swap a b = grind arith

covered_push : (rs : List Budget) (r : Budget) (x : Category) (c : w.Lookahead) (d n : ℕ) → covered (rs ++ r ∷ []) x c d n ≡ covered rs x c d n || holds r x c d n
covered_push [] r x c d n = or_none (holds r x c d n)
covered_push (s ∷ rs) r x c d n = ap (λ y. holds s x c d n || y) (covered_push rs r x c d n) ∙ sym (or_assoc (holds s x c d n) (covered rs x c d n) (holds r x c d n))

-- what is or_left of a list beside a room, and the room behind it
pub pushed : (rs ss ts : List Budget) (r : Budget) → AreBeside r rs ss → ts ≡ ss ++ r ∷ [] → (x : Category) (c : w.Lookahead) (d n : ℕ) → covered ts x c d n ≡ (covered rs x c d n || holds r x c d n)
pushed rs ss ts r h is x c d n = ap (λ y. covered y x c d n) is ∙ covered_push ss r x c d n ∙ or_swap (covered ss x c d n) (holds r x c d n) ∙ sym (h x c d n) ∙ or_swap (holds r x c d n) (covered rs x c d n)

pub added_none : (rs : List Budget) (r : Budget) → IsCovered r rs → (x : Category) (c : w.Lookahead) (d n : ℕ) → covered rs x c d n ≡ (covered rs x c d n || holds r x c d n)
added_none rs r h x c d n = grind (arith, (h x c d n))

-- one room less, after others
pub dropped_behind : (r z : Budget) (old now new : List Budget) (i : ℕ) → AreBeside r old now → i < length now → Within z r → z ≡ get_or now i z → new ≡ remove now i → AreBeside r old new
dropped_behind r z old now new i h lt k is e x c d n = grind (arith, dropped)

-- it lies within one of those that are or_left
pub held_already : (rs ss : List Budget) (r z : Budget) (i : ℕ) → AreBeside r rs ss → i < length ss → Within r z → z ≡ get_or ss i z → (x : Category) (c : w.Lookahead) (d n : ℕ) → covered ss x c d n ≡ (covered rs x c d n || holds r x c d n)
held_already rs ss r z i h lt k is x c d n = added_none ss r (covered_at ss i r z lt k is) x c d n ∙ or_swap (covered ss x c d n) (holds r x c d n) ∙ sym (h x c d n) ∙ or_swap (holds r x c d n) (covered rs x c d n)

-- ---- what a way leaves

absorb : (a s z q : Bool) → s ≡ false → false ≡ a && ((s && z) && q)
absorb a s z q e = grind arith

pub unserved : (b : Bool) (y : Completion) (r : Budget) → serves r.category y.onto ≡ false → (o : Option Following) (x : Category) (c : w.Lookahead) (d n : ℕ) → false ≡ leads b y r o x c d n
unserved b y r h1 o x c d n = grind (arith, absorb)

unfit_depth : (a s p q t : Bool) → p ≡ false → false ≡ a && ((s && (p && q)) && t)
unfit_depth a s p q t e = grind arith

unfit_nodes : (a s p q t : Bool) → q ≡ false → false ≡ a && ((s && (p && q)) && t)
unfit_nodes a s p q t e = grind arith

leb_not : (a b : ℕ) → b < a → leb a b ≡ false
leb_not a b p = grind (arith, nat_tests)

over_floor : (m : Bool) (f r d e g : ℕ) → g ≡ kept (raised m f) → e < g → e ≤ 200 → e < raised m (max f (d + r))
over_floor m f r d e g p q s = grind arith

over_rise : (m : Bool) (f r d e g : ℕ) → g ≡ kept (raised m r) → e < g → e ≤ 200 → e < raised m (max f (d + r))
over_rise m f r d e g p q s = grind arith

over_nodes : (b m : Bool) (k n e g i : ℕ) → i ≡ kept (raised m k) → g ≡ counted b i → e < g → e ≤ 65536 → e < n + counted b (raised m k)
over_nodes b m k n e g i o p q s = grind arith

pub above_floor : (b : Bool) (y : Completion) (r : Budget) (m : Following) (f : ℕ) → f ≡ kept (raised m.more y.floor) → r.depth < f → (x : Category) (c : w.Lookahead) (d n : ℕ) → false ≡ leads b y r (Some m) x c d n
above_floor b y r m f e p x c d n = let s = r.small in unfit_depth (serves y.category x) (serves r.category y.onto) _ _ _ (leb_not (raised m.more (max y.floor (d + y.rise))) r.depth (over_floor m.more y.floor y.rise d r.depth f e p s.0))

pub above_rise : (b : Bool) (y : Completion) (r : Budget) (m : Following) (f : ℕ) → f ≡ kept (raised m.more y.rise) → r.depth < f → (x : Category) (c : w.Lookahead) (d n : ℕ) → false ≡ leads b y r (Some m) x c d n
above_rise b y r m f e p x c d n = let s = r.small in unfit_depth (serves y.category x) (serves r.category y.onto) _ _ _ (leb_not (raised m.more (max y.floor (d + y.rise))) r.depth (over_rise m.more y.floor y.rise d r.depth f e p s.0))

pub above_nodes : (b : Bool) (y : Completion) (r : Budget) (m : Following) (i f : ℕ) → i ≡ kept (raised m.more y.nodes) → f ≡ counted b i → r.nodes < f → (x : Category) (c : w.Lookahead) (d n : ℕ) → false ≡ leads b y r (Some m) x c d n
above_nodes b y r m i f o e p x c d n = let s = r.small in unfit_nodes (serves y.category x) (serves r.category y.onto) (leb (raised m.more (max y.floor (d + y.rise))) r.depth) _ _ (leb_not (n + counted b (raised m.more y.nodes)) r.nodes (over_nodes b m.more y.nodes n r.nodes f i o e p s.1))

leb_same : (a b c d : ℕ) → (a ≤ b → c ≤ d) → (c ≤ d → a ≤ b) → leb a b ≡ leb c d
leb_same a b c d f g = grind (arith, nat_tests, f, g)

fits_depth : (m : Bool) (f r d e g h : ℕ) → g ≡ kept (raised m f) → h ≡ kept (raised m r) → g ≤ e → h ≤ e → e ≤ 200 → leb d (e - h) ≡ leb (raised m (max f (d + r))) e
fits_depth m f r d e g h p q s t u = grind (arith, leb_same)

fits_nodes : (b m : Bool) (k n e g i : ℕ) → i ≡ kept (raised m k) → g ≡ counted b i → g ≤ e → e ≤ 65536 → leb n (e - g) ≡ leb (n + counted b (raised m k)) e
fits_nodes b m k n e g i o p q s = grind (arith, leb_same)

shuffled : (i a p q : Bool) → i && (a && (p && q)) ≡ a && ((true && (p && q)) && i)
shuffled i a p q = grind arith

pub leaves : (b : Bool) (k y : Completion) (r : Budget) (m : Following) (f g i h : ℕ) → IsKept k y → serves r.category k.onto ≡ true → f ≡ kept (raised m.more y.floor) → g ≡ kept (raised m.more y.rise) → i ≡ kept (raised m.more y.nodes) → h ≡ counted b i
    → f ≤ r.depth → g ≤ r.depth → h ≤ r.nodes
    → (x : Category) (c : w.Lookahead) (d n : ℕ) → is_next (next_of m.next) c && (serves k.category x && (leb d (r.depth - g) && leb n (r.nodes - h))) ≡ leads b y r (Some m) x c d n
leaves b k y r m f g i h kept_so s ef eg ei eh lf lg lh x c d n =
    let small = r.small in
    let e0 : k.category ≡ y.category = kept_so.0 in
    let e1 : k.onto ≡ y.onto = kept_so.2 in
    let e2 : leb d (r.depth - g) ≡ leb (raised m.more (max y.floor (d + y.rise))) r.depth = fits_depth m.more y.floor y.rise d r.depth f g ef eg lf lg small.0 in
    let e3 : leb n (r.nodes - h) ≡ leb (n + counted b (raised m.more y.nodes)) r.nodes = fits_nodes b m.more y.nodes n r.nodes h i ei eh lh small.1 in
    let e4 = shuffled (is_next (next_of m.next) c) (serves y.category x) (leb (raised m.more (max y.floor (d + y.rise))) r.depth) (leb (n + counted b (raised m.more y.nodes)) r.nodes) in
    cc

-- ---- what a way leaves of one room more
by_completion_push : (b : Bool) (y : Completion) (rs : List Budget) (r : Budget) (x : Category) (c : w.Lookahead) (d n : ℕ) → by_completion b y (rs ++ r ∷ []) x c d n ≡ by_completion b y rs x c d n || by_budget b y r x c d n
by_completion_push b y [] r x c d n = or_none (by_budget b y r x c d n)
by_completion_push b y (s ∷ rs) r x c d n = ap (λ z. by_budget b y s x c d n || z) (by_completion_push b y rs r x c d n) ∙ sym (or_assoc (by_budget b y s x c d n) (by_completion b y rs x c d n) (by_budget b y r x c d n))

pub by_completion_more : (b : Bool) (y : Completion) (rs : List Budget) (i : ℕ) (r : Budget) → i < length rs → r ≡ get_or rs i r → (old new now : List Budget) → AreAdded (by_completion b y (take i rs)) old now
    → ((x : Category) (c : w.Lookahead) (d n : ℕ) → covered new x c d n ≡ (covered now x c d n || by_budget b y r x c d n)) → AreAdded (by_completion b y (take (i + 1) rs)) old new
by_completion_more b y rs i r lt is old new now h k x c d n = grind (arith, or_assoc, (covered old x c d n), (by_completion_push b y (take i rs) r x c d n), (take_more rs i r lt))

pub left_none : (a b z : Bool) → a ≡ false → a ≡ b → z ≡ z || b
left_none a b z p q = grind arith

pub by_completion_all : (b : Bool) (y : Completion) (rs : List Budget) (i : ℕ) → length rs ≤ i → (old new : List Budget) → AreAdded (by_completion b y (take i rs)) old new → AreAdded (by_completion b y rs) old new
by_completion_all b y rs i le old new h = let P : List Budget → Type 0 = λ z. AreAdded (by_completion b y z) old new in subst P (take_all i rs le) h

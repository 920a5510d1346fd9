-- The operators of the meaning on values, and those of OCODE on the words that stand for them.
use Rattle.bk_simulation.proofs.Lists.{by_option, ◌≡◌, ◌≢◌, ℕ, ◌+◌, ◌-◌, ◌<◌, ◌≤◌, ◌%◌, ◌^◌, ◌==◌, nat_lt, nat_le, Bool, true, false, not, cond, pos, int_lt, List, length, Option, Some, None, refl, sym, ap, ◌∙◌, subst, if◌then◌else◌, arith, int_le, option_map, ints, nat_tests, signed, truth, word_sum, word_difference, word_quotient, word_remainder, word_less, word_greater, word_at_most, word_at_least, word_negation, word_not, infix_word, Operator, Value, number, address, procedure, routine, unset, cells_at, lives, World, Outcome, gives, ends, undefined, divide_by_zero, given, either, sum, difference, lies_within, truth_of_value, equals_zero, equal, ordered, on_numbers, truth_number, operate, operate_prefix, Content, Word, Cell, quotient, dyadic_word, cond_some, leb-true, eqb-true, Cause}
use Rattle.bk_simulation.proofs.Terms.{Operator as o, Prefix as q, within, Dyadic, Dyadic as d}
use Rattle.bk_simulation.proofs.MadeObjects.{alive_from, BaseOf, Alive, Codes, Applies, Fits, one_base}

-- the operator of OCODE for each but `!` and `%`
abbrev pub dyadic_of : Operator → Option Dyadic
dyadic_of o.Times = Some d.Multiply
dyadic_of o.Over = Some d.Divide
dyadic_of o.Rem = Some d.Remainder
dyadic_of o.Add = Some d.Add
dyadic_of o.Subtract = Some d.Subtract
dyadic_of o.Equal = Some d.Equal
dyadic_of o.Unequal = Some d.Unequal
dyadic_of o.Less = Some d.Less
dyadic_of o.Greater = Some d.Greater
dyadic_of o.AtMost = Some d.AtMost
dyadic_of o.AtLeast = Some d.AtLeast
dyadic_of o.ShiftLeft = Some d.ShiftLeft
dyadic_of o.ShiftRight = Some d.ShiftRight
dyadic_of o.Both = Some d.And
dyadic_of o.Either = Some d.Or
dyadic_of o.Same = Some d.Eqv
dyadic_of o.Differ = Some d.Neqv
dyadic_of _ = None

-- ---- words of addresses

add_offset : (b i y : ℕ) → ((b + i) % 2 ^ 32 + y) % 2 ^ 32 ≡ (b + (i + y) % 2 ^ 32) % 2 ^ 32
add_offset b i y = omega arith

apart_by : (b i j : ℕ) → i < 2 ^ 32 → j < 2 ^ 32 → word_difference ((b + i) % 2 ^ 32) ((b + j) % 2 ^ 32) ≡ word_difference i j
apart_by b i j hi hj = omega arith

low_word : (n : ℕ) → n % 2 ^ 32 < 2 ^ 32
low_word n = omega arith

-- the same place in one object
same_place : (b i j : ℕ) → i < 2 ^ 32 → j < 2 ^ 32 → (((b + i) % 2 ^ 32) == ((b + j) % 2 ^ 32)) ≡ (i == j)
same_place b i j hi hj = grind (arith, nat_tests)

signed_small : (x : ℕ) → x < 2 ^ 31 → signed x ≡ pos x
signed_small x h = omega (arith, ints)

less_small : (x y : ℕ) → x < 2 ^ 31 → y < 2 ^ 31 → word_less x y ≡ truth (nat_lt x y)
less_small x y hx hy = ap (λ z. truth (int_lt z (signed y))) (signed_small x hx) ∙ ap (λ z. truth (int_lt (pos x) z)) (signed_small y hy)

most_small : (x y : ℕ) → x < 2 ^ 31 → y < 2 ^ 31 → word_at_most x y ≡ truth (nat_le x y)
most_small x y hx hy = ap (λ z. truth (int_le z (signed y))) (signed_small x hx) ∙ ap (λ z. truth (int_le (pos x) z)) (signed_small y hy)

-- the order of two small words is that of two as far above another
less_shifted : (b i j : ℕ) → b + i < 2 ^ 31 → b + j < 2 ^ 31 → word_less (b + i) (b + j) ≡ word_less i j
less_shifted b i j hi hj =
    less_small (b + i) (b + j) hi hj ∙ ap truth (let z : nat_lt (b + i) (b + j) ≡ nat_lt i j = grind (arith, nat_tests) in z) ∙ sym (less_small i j (omega arith) (omega arith))

most_shifted : (b i j : ℕ) → b + i < 2 ^ 31 → b + j < 2 ^ 31 → word_at_most (b + i) (b + j) ≡ word_at_most i j
most_shifted b i j hi hj =
    most_small (b + i) (b + j) hi hj ∙ ap truth (let z : nat_le (b + i) (b + j) ≡ nat_le i j = grind (arith, nat_tests) in z) ∙ sym (most_small i j (omega arith) (omega arith))

pub some_is : {A : Type 0} (x y : A) → Some x ≡ Some y → x ≡ y
some_is x y e = cc

if_there : {A : Type 0} (b : Bool) (x : Option A) (y : A) → cond b x None ≡ Some y → (b ≡ true) × (x ≡ Some y)
if_there true x y e = (refl, e)
if_there false x y e = absurd (cc)

pub not_zero : (w : ℕ) → w ≢ 0 → (w == 0) ≡ false
not_zero w ne = grind (arith, nat_tests)

turned : (x w : ℕ) → (x == w) ≡ (w == x)
turned x w = grind (arith, nat_tests)

twice_not : (b : Bool) → b ≡ not (not b)
twice_not true = refl
twice_not false = refl

module _ (codes : Codes) (bases : List ℕ) (cells : ℕ → Cell) (top : ℕ) (w : World) (f : Fits codes (record { bases = bases; mem = w.memory; cells = cells }) top) where
  -- an address within a living object is a small word, and not 0
  record SmallAddress (o i b : ℕ) : Type 0 where
    is_word : (b + i) % 2 ^ 32 ≡ b + i
    small : b + i < 2 ^ 31
    set : b + i ≢ 0

  small_address : (a i b : ℕ) → BaseOf bases a b → within w.memory a i ≡ true → SmallAddress a i b
  small_address a i b eb e =
      by_option (λ y. lies_within y i ≡ true → SmallAddress a i b) (cells_at w.memory a) (λ _ e. absurd (cc)) (λ own ey e.
      let alive : Alive w.memory a (length own) = alive_from (cells_at w.memory a) own ey in
      let le : i ≤ length own = leb-true i (length own) e in
      let small : b + length own ≤ 2 ^ 31 - 1 = f.small a (length own) b alive eb in
      let high : 16 ≤ b = f.set a (length own) b alive eb in
      record { is_word = omega arith; small = omega arith; set = λ z. absurd (omega arith) }) e

  -- ---- what counts as true

  pub record Judged (x : Content) (t : Bool) : Type 0 where
    pub word : ℕ
    pub is_word : x ≡ Word word
    pub zero_if : (word == 0) ≡ not t

  pub judged_word : (v : Value) (x : Content) (t : Bool) → Applies codes bases v x → truth_of_value w.memory v ≡ Some t → Judged x t
  judged_word (number n) x t s e = record { word = n; is_word = s; zero_if = twice_not (n == 0) ∙ ap not (some_is _ t e) }
  judged_word (address a i) x t s e =
      let h = cond_some (within w.memory a i) true t e in
      let m = small_address a i s.0 s.1 h.0 in
      record { word = s.0 + i; is_word = s.3 ∙ ap Word m.is_word; zero_if = not_zero (s.0 + i) m.set ∙ ap not h.1 }
  judged_word (procedure n) x t s e = record { word = codes.procedure n; is_word = s; zero_if = not_zero (codes.procedure n) (codes.procedure_set n) ∙ ap not (some_is _ t e) }
  judged_word (routine r) x t s e = record { word = codes.routine r; is_word = s; zero_if = not_zero (codes.routine r) (codes.routine_set r) ∙ ap not (some_is _ t e) }
  judged_word unset x t s e = absurd (cc)

  -- ---- two operands

  pub record Applied (op : Dyadic) (x y : Content) (v : Value) : Type 0 where
    pub left : ℕ
    pub right : ℕ
    pub result : ℕ
    pub is_left : x ≡ Word left
    pub is_right : y ≡ Word right
    pub applies : dyadic_word op left right ≡ Some result
    pub stands : Applies codes bases v (Word result)

  pub record Undivided (op : Dyadic) (x y : Content) : Type 0 where
    pub left : ℕ
    pub right : ℕ
    pub is_left : x ≡ Word left
    pub is_right : y ≡ Word right
    pub none : dyadic_word op left right ≡ None

  numbers_applied : (op : Dyadic) (a b r : ℕ) (x y : Content) (v : Value) → x ≡ Word a → y ≡ Word b → dyadic_word op a b ≡ Some r → number r ≡ v → Applied op x y v
  numbers_applied op a b r x y v ex ey ed ev = record { left = a; right = b; result = r; is_left = ex; is_right = ey; applies = ed; stands = subst (λ z. Applies codes bases z (Word r)) ev refl }

  address_applied : (op : Dyadic) (l r a i b : ℕ) (x y : Content) (v : Value) → x ≡ Word l → y ≡ Word r → BaseOf bases a b → i < 2 ^ 32 → dyadic_word op l r ≡ Some ((b + i) % 2 ^ 32) → address a i ≡ v → Applied op x y v
  address_applied op l r a i b x y v ex ey eb lt ed ev =
      record { left = l; right = r; result = (b + i) % 2 ^ 32; is_left = ex; is_right = ey; applies = ed; stands = subst (λ z. Applies codes bases z (Word ((b + i) % 2 ^ 32))) ev (b, eb, lt, refl) }

  pub sum_applied : (u v r : Value) (x y : Content) → Applies codes bases u x → Applies codes bases v y → sum w.memory u v ≡ Some r → Applied d.Add x y r
  sum_applied (number a) (number b) r x y su sv e = numbers_applied d.Add a b (word_sum a b) x y r su sv refl (some_is _ r e)
  sum_applied (address a i) (number n) r x y su sv e =
      address_applied d.Add ((su.0 + i) % 2 ^ 32) n a (word_sum i n) su.0 x y r su.3 sv su.1 (low_word (i + n)) (ap (λ z. Some z) (add_offset su.0 i n))
      (cond_some (lives w.memory a) (address a (word_sum i n)) r e).1
  sum_applied (number n) (address b j) r x y su sv e =
      address_applied d.Add n ((sv.0 + j) % 2 ^ 32) b (word_sum n j) sv.0 x y r su sv.3 sv.1 (low_word (n + j)) (ap (λ z. Some z) (let q : (n + (sv.0 + j) % 2 ^ 32) % 2 ^ 32 ≡ (sv.0 + (n + j) % 2 ^ 32) % 2 ^ 32 = omega arith in q))
      (cond_some (lives w.memory b) (address b (word_sum n j)) r e).1
  sum_applied _ _ r x y su sv e = absurd (let z : None ≡ Some r = e in cc)

  difference_applied : (u v r : Value) (x y : Content) → Applies codes bases u x → Applies codes bases v y → difference w.memory u v ≡ Some r → Applied d.Subtract x y r
  difference_applied (number a) (number b) r x y su sv e = numbers_applied d.Subtract a b (word_difference a b) x y r su sv refl (some_is _ r e)
  difference_applied (address a i) (number n) r x y su sv e =
      address_applied d.Subtract ((su.0 + i) % 2 ^ 32) n a (word_difference i n) su.0 x y r su.3 sv su.1 (low_word (i + (2 ^ 32 - n))) (ap (λ z. Some z) (add_offset su.0 i (2 ^ 32 - n)))
      (cond_some (lives w.memory a) (address a (word_difference i n)) r e).1
  difference_applied (address a i) (address b j) r x y su sv e =
      let h = if_there (a == b) (cond (lives w.memory a) (Some (number (word_difference i j))) None) r e in
      let k = cond_some (lives w.memory a) (number (word_difference i j)) r h.1 in
      let same : sv.0 ≡ su.0 = one_base bases a sv.0 su.0 (subst (λ z. BaseOf bases z sv.0) (sym (eqb-true a b h.0)) sv.1) su.1 in
      numbers_applied d.Subtract ((su.0 + i) % 2 ^ 32) ((su.0 + j) % 2 ^ 32) (word_difference i j) x y r su.3 (sv.3 ∙ ap (λ z. Word ((z + j) % 2 ^ 32)) same)
      (ap (λ z. Some z) (apart_by su.0 i j su.2 sv.2)) k.1
  difference_applied _ _ r x y su sv e = absurd (let z : None ≡ Some r = e in cc)

  -- ---- equality

  record EqualWords (x y : Content) (t : Bool) : Type 0 where
    left : ℕ
    right : ℕ
    is_left : x ≡ Word left
    is_right : y ≡ Word right
    same : (left == right) ≡ t

  zero_words : (n : ℕ) (v : Value) (x y : Content) (t : Bool) → x ≡ Word n → Applies codes bases v y → equals_zero w.memory n v ≡ Some t → EqualWords x y t
  zero_words n v x y t ex sv e =
      let h = if_there (n == 0) (option_map not (truth_of_value w.memory v)) t e in
      let ez = eqb-true n 0 h.0 in
      by_option (λ o. option_map not o ≡ Some t → EqualWords x y t) (truth_of_value w.memory v) (λ _ e. absurd (cc)) (λ s eo e.
      let j = judged_word v y s sv eo in
      record { left = n; right = j.word; is_left = ex; is_right = j.is_word; same = ap (λ z. z == j.word) ez ∙ turned 0 j.word ∙ j.zero_if ∙ some_is _ t e }) h.1

  other_words : (x y : Content) (t : Bool) → EqualWords x y t → EqualWords y x t
  other_words x y t h = record { left = h.right; right = h.left; is_left = h.is_right; is_right = h.is_left; same = turned h.right h.left ∙ h.same }

  equal_words : (u v : Value) (x y : Content) (t : Bool) → Applies codes bases u x → Applies codes bases v y → equal w.memory u v ≡ Some t → EqualWords x y t
  equal_words (number a) (number b) x y t su sv e = record { left = a; right = b; is_left = su; is_right = sv; same = some_is _ t e }
  equal_words (address a i) (address b j) x y t su sv e =
      let h = if_there (a == b) (cond (lives w.memory a) (Some (i == j)) None) t e in
      let k = cond_some (lives w.memory a) (i == j) t h.1 in
      let same : sv.0 ≡ su.0 = one_base bases a sv.0 su.0 (subst (λ z. BaseOf bases z sv.0) (sym (eqb-true a b h.0)) sv.1) su.1 in
      record {
        left = (su.0 + i) % 2 ^ 32;
        right = (su.0 + j) % 2 ^ 32;
        is_left = su.3;
        is_right = sv.3 ∙ ap (λ z. Word ((z + j) % 2 ^ 32)) same;
        same = same_place su.0 i j su.2 sv.2 ∙ k.1;
      }
  equal_words (number a) (address b j) x y t su sv e = zero_words a (address b j) x y t su sv e
  equal_words (number a) (procedure n) x y t su sv e = zero_words a (procedure n) x y t su sv e
  equal_words (number a) (routine r) x y t su sv e = zero_words a (routine r) x y t su sv e
  equal_words (number a) unset x y t su sv e = zero_words a unset x y t su sv e
  equal_words (address a i) (number b) x y t su sv e = other_words y x t (zero_words b (address a i) y x t sv su e)
  equal_words (procedure n) (number b) x y t su sv e = other_words y x t (zero_words b (procedure n) y x t sv su e)
  equal_words (routine r) (number b) x y t su sv e = other_words y x t (zero_words b (routine r) y x t sv su e)
  equal_words unset (number b) x y t su sv e = other_words y x t (zero_words b unset y x t sv su e)
  equal_words _ _ x y t su sv e = absurd (let z : None ≡ Some t = e in cc)

  equal_applied : (op : Dyadic) (g : Bool → Bool) → ((a b : ℕ) → dyadic_word op a b ≡ Some (truth (g (a == b)))) → (u v r : Value) (x y : Content) → Applies codes bases u x → Applies codes bases v y
      → option_map (λ b. truth_number (g b)) (equal w.memory u v) ≡ Some r → Applied op x y r
  equal_applied op g is u v r x y su sv e =
      by_option (λ o. option_map (λ b. truth_number (g b)) o ≡ Some r → Applied op x y r) (equal w.memory u v) (λ _ e. absurd (cc)) (λ t eo e.
      let h = equal_words u v x y t su sv eo in
      numbers_applied op h.left h.right (truth (g t)) x y r h.is_left h.is_right (is h.left h.right ∙ ap (λ z. Some (truth (g z))) h.same) (some_is _ r e)) e

  -- ---- order

  ordered_applied : (q : Operator) (op : Dyadic) (g : ℕ → ℕ → ℕ) → ((a b : ℕ) → infix_word q a b ≡ Some (g a b)) → ((a b : ℕ) → dyadic_word op a b ≡ Some (g a b))
      → ((b i j : ℕ) → b + i < 2 ^ 31 → b + j < 2 ^ 31 → g (b + i) (b + j) ≡ g i j)
      → (u v r : Value) (x y : Content) → Applies codes bases u x → Applies codes bases v y → ordered q w.memory u v ≡ Some r → Applied op x y r
  ordered_applied q op g eq ed shift (number a) (number b) r x y su sv e = grind (arith, numbers_applied, some_is, number)
  ordered_applied q op g eq ed shift (address a i) (address b j) r x y su sv e =
      let h = if_there (a == b) (cond (lives w.memory a) (cond (within w.memory a i) (cond (within w.memory a j) (option_map number (infix_word q i j)) None) None) None) r e in
      let k = if_there (lives w.memory a) (cond (within w.memory a i) (cond (within w.memory a j) (option_map number (infix_word q i j)) None) None) r h.1 in
      let l = if_there (within w.memory a i) (cond (within w.memory a j) (option_map number (infix_word q i j)) None) r k.1 in
      let m = if_there (within w.memory a j) (option_map number (infix_word q i j)) r l.1 in
      let same : sv.0 ≡ su.0 = one_base bases a sv.0 su.0 (subst (λ z. BaseOf bases z sv.0) (sym (eqb-true a b h.0)) sv.1) su.1 in
      let si = small_address a i su.0 su.1 l.0 in
      let sj = small_address a j su.0 su.1 m.0 in
      numbers_applied op (su.0 + i) (su.0 + j) (g i j) x y r (su.3 ∙ ap Word si.is_word) (sv.3 ∙ ap (λ z. Word ((z + j) % 2 ^ 32)) same ∙ ap Word sj.is_word)
      (ed (su.0 + i) (su.0 + j) ∙ ap (λ z. Some z) (shift su.0 i j si.small sj.small)) (some_is _ r (sym (ap (option_map number) (eq i j)) ∙ m.1))
  ordered_applied q op g eq ed shift _ _ r x y su sv e = absurd (let z : None ≡ Some r = e in cc)

  -- ---- what an operator comes to

  abbrev pub OperatedAs : Dyadic → Content → Content → Outcome Value → Type 0
  OperatedAs op x y (gives v w1) = (w1 ≡ w) × Applied op x y v
  OperatedAs op x y (ends e w1) = (w1 ≡ w) × ((l : ℕ) × (e ≡ divide_by_zero l)) × Undivided op x y
  OperatedAs op x y (undefined l why v) = Unit {0}
  OperatedAs op x y _ = ⊥

  given_as : (op : Dyadic) (x y : Content) (place : ℕ) (why : Cause) (r : Option Value) → ((v : Value) → r ≡ Some v → Applied op x y v) → OperatedAs op x y (given place why r w)
  given_as op x y place why None go = tt
  given_as op x y place why (Some v) go = (refl, go v refl)

  divided : (place : ℕ) (why : Cause) (op : Dyadic) (g : ℕ → ℕ → ℕ) (a b : ℕ) (x y : Content) → x ≡ Word a → y ≡ Word b → ((a b : ℕ) → dyadic_word op a b ≡ quotient g a b) → (t : Bool) → (b == 0) ≡ t
      → OperatedAs op x y (either t (λ w. ends (divide_by_zero place) w) (λ w. given place why (option_map number (cond t None (Some (g a b)))) w) w)
  divided place why op g a b x y ex ey ed true et =
      (refl, (place, refl), record { left = a; right = b; is_left = ex; is_right = ey; none = ed a b ∙ ap (λ (z : Bool). if z then None else Some (g a b)) et })
  divided place why op g a b x y ex ey ed false et = grind (arith, numbers_applied, number)

  -- operators on numbers alone
  abbrev OnNumbers : ℕ → Operator → Dyadic → Type 0
  OnNumbers place q op = (a b : ℕ) (x y : Content) → x ≡ Word a → y ≡ Word b → OperatedAs op x y (on_numbers place q (number a) (number b) w)

  on_numbers_as : (place : ℕ) (q : Operator) (op : Dyadic) → OnNumbers place q op → (u v : Value) (x y : Content) → Applies codes bases u x → Applies codes bases v y → OperatedAs op x y (on_numbers place q u v w)
  on_numbers_as place q op go (number a) (number b) x y su sv = go a b x y su sv
  on_numbers_as place q op go _ _ x y su sv = tt

  abbrev pub ByOperator : Option Dyadic → Content → Content → Outcome Value → Type 0
  ByOperator None x y u = Unit {0}
  ByOperator (Some op) x y u = OperatedAs op x y u

  pub operates : (place : ℕ) (q : Operator) (u v : Value) (x y : Content) → Applies codes bases u x → Applies codes bases v y → ByOperator (dyadic_of q) x y (operate place q u v w)
  operates place o.Add u v x y su sv = given_as d.Add x y place _ (sum w.memory u v) (λ r e. sum_applied u v r x y su sv e)
  operates place o.Subtract u v x y su sv = given_as d.Subtract x y place _ (difference w.memory u v) (λ r e. difference_applied u v r x y su sv e)
  operates place o.Equal u v x y su sv = given_as d.Equal x y place _ _ (λ r e. equal_applied d.Equal (λ b. b) (λ a b. refl) u v r x y su sv e)
  operates place o.Unequal u v x y su sv = given_as d.Unequal x y place _ _ (λ r e. equal_applied d.Unequal not (λ a b. refl) u v r x y su sv e)
  operates place o.Less u v x y su sv = given_as d.Less x y place _ _ (λ r e. ordered_applied o.Less d.Less word_less (λ a b. refl) (λ a b. refl) less_shifted u v r x y su sv e)
  operates place o.Greater u v x y su sv = given_as d.Greater x y place _ _ (λ r e. ordered_applied o.Greater d.Greater word_greater (λ a b. refl) (λ a b. refl) (λ b i j hi hj. less_shifted b j i hj hi) u v r x y su sv e)
  operates place o.AtMost u v x y su sv = given_as d.AtMost x y place _ _ (λ r e. ordered_applied o.AtMost d.AtMost word_at_most (λ a b. refl) (λ a b. refl) most_shifted u v r x y su sv e)
  operates place o.AtLeast u v x y su sv = given_as d.AtLeast x y place _ _ (λ r e. ordered_applied o.AtLeast d.AtLeast word_at_least (λ a b. refl) (λ a b. refl) (λ b i j hi hj. most_shifted b j i hj hi) u v r x y su sv e)
  operates place o.Times u v x y su sv = on_numbers_as place o.Times d.Multiply (λ a b x y ex ey. (refl, numbers_applied d.Multiply a b _ x y _ ex ey refl refl)) u v x y su sv
  operates place o.Over u v x y su sv = on_numbers_as place o.Over d.Divide (λ a b x y ex ey. divided place _ d.Divide word_quotient a b x y ex ey (λ a b. refl) (b == 0) refl) u v x y su sv
  operates place o.Rem u v x y su sv = on_numbers_as place o.Rem d.Remainder (λ a b x y ex ey. divided place _ d.Remainder word_remainder a b x y ex ey (λ a b. refl) (b == 0) refl) u v x y su sv
  operates place o.ShiftLeft u v x y su sv = on_numbers_as place o.ShiftLeft d.ShiftLeft (λ a b x y ex ey. (refl, numbers_applied d.ShiftLeft a b _ x y _ ex ey refl refl)) u v x y su sv
  operates place o.ShiftRight u v x y su sv = on_numbers_as place o.ShiftRight d.ShiftRight (λ a b x y ex ey. (refl, numbers_applied d.ShiftRight a b _ x y _ ex ey refl refl)) u v x y su sv
  operates place o.Both u v x y su sv = on_numbers_as place o.Both d.And (λ a b x y ex ey. (refl, numbers_applied d.And a b _ x y _ ex ey refl refl)) u v x y su sv
  operates place o.Either u v x y su sv = on_numbers_as place o.Either d.Or (λ a b x y ex ey. (refl, numbers_applied d.Or a b _ x y _ ex ey refl refl)) u v x y su sv
  operates place o.Same u v x y su sv = on_numbers_as place o.Same d.Eqv (λ a b x y ex ey. (refl, numbers_applied d.Eqv a b _ x y _ ex ey refl refl)) u v x y su sv
  operates place o.Differ u v x y su sv = on_numbers_as place o.Differ d.Neqv (λ a b x y ex ey. (refl, numbers_applied d.Neqv a b _ x y _ ex ey refl refl)) u v x y su sv
  operates place _ u v x y su sv = tt

  -- ---- an operand with an operator before it

  abbrev pub PrefixedAs : (ℕ → ℕ) → Content → Outcome Value → Type 0
  PrefixedAs g x (gives v w1) = (w1 ≡ w) × (n : ℕ) × (x ≡ Word n) × Applies codes bases v (Word (g n))
  PrefixedAs g x (undefined l why v) = Unit {0}
  PrefixedAs g x _ = ⊥

  pub negates : (place : ℕ) (v : Value) (x : Content) → Applies codes bases v x → PrefixedAs word_negation x (operate_prefix place q.Minus v w)
  negates place (number n) x s = (refl, n, s, refl)
  negates place _ x s = tt

  pub inverts : (place : ℕ) (v : Value) (x : Content) → Applies codes bases v x → PrefixedAs word_not x (operate_prefix place q.Not v w)
  inverts place (number n) x s = (refl, n, s, refl)
  inverts place _ x s = tt

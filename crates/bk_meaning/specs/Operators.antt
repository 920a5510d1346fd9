-- Operators on values. On numbers they are those of words. An address and a number are added, and a number is taken from an
-- address, by the offset, which wraps; two addresses of one object are subtracted and compared. Everything else on an address,
-- a procedure or an unset value is undefined, and so is everything on the address of a dead object. None means that.
use Rattle.std.specs.Prelude.{ℕ, ◌==◌, nat_le, Bool, true, false, not, cond, Option, Some, None, List, length}
use Rattle.std.specs.Option.{option_map}
use Rattle.bk_base.specs.Word.{truth, word_sum, word_difference}
use Rattle.bk_tree.specs.declared.tree.Operator.{Operator}
use Rattle.bk_tree.specs.declared.tree.Operator.TheVariants as o
use Rattle.bk_tree.specs.declared.tree.Prefix.{Prefix}
use Rattle.bk_scope.specs.Constants.{prefix_word, infix_word, divides_by_zero}
use Rattle.bk_meaning.specs.Values.{Value, number, address, procedure, routine, unset, Cell}
use Rattle.bk_meaning.specs.Causes.{Cause, never_set, beyond, no_number, apart, no_numbers}
use Rattle.bk_meaning.specs.Memory.{Memory, cells_at, lives}
use Rattle.bk_meaning.specs.World.{World, Outcome, ends, undefined, divide_by_zero, given, either}

-- an address of a living object
abbrev pub living_address : Memory → ℕ → ℕ → Option Value
living_address m object offset = cond (lives m object) (Some (address object offset)) None

abbrev pub sum : Memory → Value → Value → Option Value
sum m (number x) (number y) = Some (number (word_sum x y))
sum m (address a i) (number y) = living_address m a (word_sum i y)
sum m (number x) (address b j) = living_address m b (word_sum x j)
sum m _ _ = None

-- Beside each operator, why it has no value.
abbrev pub sum_cause : Value → Value → Cause
sum_cause (address a i) (number y) = beyond (address a (word_sum i y))
sum_cause (number x) (address b j) = beyond (address b (word_sum x j))
sum_cause x y = no_numbers x y

-- something of two offsets in one living object
abbrev pub in_one : {A : Type 0} → Memory → ℕ → ℕ → Option A → Option A
in_one m a b x = cond (a == b) (cond (lives m a) x None) None

abbrev pub in_one_cause : ℕ → ℕ → Cause
in_one_cause a b = cond (a == b) (beyond (address a 0)) apart

abbrev pub difference : Memory → Value → Value → Option Value
difference m (number x) (number y) = Some (number (word_difference x y))
difference m (address a i) (number y) = living_address m a (word_difference i y)
difference m (address a i) (address b j) = in_one m a b (Some (number (word_difference i j)))
difference m _ _ = None

abbrev pub difference_cause : Value → Value → Cause
difference_cause (address a i) (number y) = beyond (address a (word_difference i y))
difference_cause (address a i) (address b j) = in_one_cause a b
difference_cause x y = no_numbers x y

-- an offset from 0 to the length of a living object
abbrev pub lies_within : Option (List Cell) → ℕ → Bool
lies_within None i = false
lies_within (Some cells) i = nat_le i (length cells)

abbrev pub within : Memory → ℕ → ℕ → Bool
within m a i = lies_within (cells_at m a) i

-- what counts as true where truth is asked for
abbrev pub truth_of_value : Memory → Value → Option Bool
truth_of_value m (number x) = Some (not (x == 0))
truth_of_value m (address a i) = cond (within m a i) (Some true) None
truth_of_value m (procedure n) = Some true
truth_of_value m (routine r) = Some true
truth_of_value m unset = None

abbrev pub truth_cause : Value → Cause
truth_cause (address a i) = beyond (address a i)
truth_cause v = never_set

-- whether 0 equals a value: what counts as true differs from it
abbrev pub equals_zero : Memory → ℕ → Value → Option Bool
equals_zero m x v = cond (x == 0) (option_map not (truth_of_value m v)) None

abbrev pub equals_zero_cause : ℕ → Value → Cause
equals_zero_cause x v = cond (x == 0) (truth_cause v) (no_numbers v v)

abbrev pub equal : Memory → Value → Value → Option Bool
equal m (number x) (number y) = Some (x == y)
equal m (address a i) (address b j) = in_one m a b (Some (i == j))
equal m (number x) v = equals_zero m x v
equal m v (number y) = equals_zero m y v
equal m _ _ = None

abbrev pub equal_cause : Value → Value → Cause
equal_cause (address a i) (address b j) = in_one_cause a b
equal_cause (number x) v = equals_zero_cause x v
equal_cause v (number y) = equals_zero_cause y v
equal_cause x y = no_numbers x y

-- the order of numbers, and of places in one object
abbrev pub ordered : Operator → Memory → Value → Value → Option Value
ordered q m (number x) (number y) = option_map number (infix_word q x y)
ordered q m (address a i) (address b j) =
    in_one m a b (cond (within m a i) (cond (within m a j) (option_map number (infix_word q i j)) None) None)
ordered q m _ _ = None

abbrev pub ordered_cause : Memory → Value → Value → Cause
ordered_cause m (number x) (number y) = no_number (number x)
ordered_cause m (address a i) (address b j) =
    cond (a == b) (cond (lives m a) (cond (within m a i) (cond (within m a j) (no_number (number i)) (beyond (address a j))) (beyond (address a i)))
    (beyond (address a 0))) apart
ordered_cause m x y = no_numbers x y

-- operators that are there for numbers alone
abbrev pub on_numbers : ℕ → Operator → Value → Value → World → Outcome Value
on_numbers l q (number x) (number y) w =
    either (divides_by_zero q (Some x) (Some y)) (λ w. ends (divide_by_zero l) w)
    (λ w. given l (no_number (number x)) (option_map number (infix_word q x y)) w) w
on_numbers l q x y w = undefined l (no_numbers x y) w

abbrev pub truth_number : Bool → Value
truth_number b = number (truth b)

abbrev pub operate : ℕ → Operator → Value → Value → World → Outcome Value
operate l o.Add x y w = given l (sum_cause x y) (sum w.memory x y) w
operate l o.Subtract x y w = given l (difference_cause x y) (difference w.memory x y) w
operate l o.Equal x y w = given l (equal_cause x y) (option_map truth_number (equal w.memory x y)) w
operate l o.Unequal x y w = given l (equal_cause x y) (option_map (λ b. truth_number (not b)) (equal w.memory x y)) w
operate l o.Less x y w = given l (ordered_cause w.memory x y) (ordered o.Less w.memory x y) w
operate l o.Greater x y w = given l (ordered_cause w.memory x y) (ordered o.Greater w.memory x y) w
operate l o.AtMost x y w = given l (ordered_cause w.memory x y) (ordered o.AtMost w.memory x y) w
operate l o.AtLeast x y w = given l (ordered_cause w.memory x y) (ordered o.AtLeast w.memory x y) w
operate l q x y w = on_numbers l q x y w

-- `+`, `-` and NOT before a number
abbrev pub operate_prefix : ℕ → Prefix → Value → World → Outcome Value
operate_prefix l q (number x) w = given l (no_number (number x)) (option_map number (prefix_word q x)) w
operate_prefix l q v w = undefined l (no_numbers v v) w

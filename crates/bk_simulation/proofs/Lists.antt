-- Case splits; and lists of which each element has a property, which may name the element's number.
pub use Rattle.bk_simulation.proofs.Words.{Bool, true, false, Option, None, if◌then◌else◌, ◌≡◌, ℕ, zero, suc, ◌+◌, List, [], ◌∷◌, ◌++◌, length, Some, slice_get, refl, ap, subst, arith, append_assoc, ◌≢◌, ◌-◌, ◌<◌, ◌≤◌, ◌%◌, ◌^◌, ◌==◌, cond, sym, ◌∙◌, ◌⊎◌, ⊎_elim, inl, inr, nat_lt, slice_set, is_some, option_and_then, nat_tests, slice_get_within, Value, number, address, unset, holds, places, value_in, Memory, living, cells_of, cells_at, cell_at, replaced, with_cell, read, Content, Word, Variable, Link, Cell, Free, Held, content_of, write, below, settle, variable_in, variable_at, le-ltb, length-set, lt-ltb, Cell_of, nat_le, not, pos, int_lt, int_le, option_map, ints, signed, truth, word_sum, word_difference, word_quotient, word_remainder, word_less, word_greater, word_at_most, word_at_least, word_negation, word_not, infix_word, Operator, procedure, routine, lives, World, Outcome, gives, ends, undefined, divide_by_zero, given, either, sum, difference, lies_within, truth_of_value, equals_zero, equal, ordered, on_numbers, truth_number, operate, operate_prefix, quotient, dyadic_word, cond_some, leb-true, eqb-true, Cause, option_map_or, byte_distance, byte_place, Unset, Temporary, kind_of, byte_in, with_byte, Placed, Callables, Routine, Stop, Rdch, Wrch, Newline, Writes, Writen, Writed, Getbyte, Putbyte, Writef, Control, Inside, Following, At, State, Next, Goes, Wild, on, slot, on_number, operated, named_place, has_word, from_label, jump, jump_with, case_label, can_be_called, tells, routine_step, step_by, step_in, step_from, Rest, in_hand, resumed, resumed_by, Program, program_step, kept, byte_at, word_with_byte_at, string_at, Stmt, Load, Monadic, Dyadic, LoadByte, Assign, AssignAt, AssignByte, Jump, JumpIf, Label, GiveResult, TakeResult, Stack, Store, Entry, Save, CallFunction, CallRoutine, ReturnItem, Return, EndProcedure, Switch, Finish, DataLabel, DataNumber, DataAddress, Globals, on_number-holds, on_some-holds, if-holds, Contents, Negate, Not, word_with_byte, filled, set_among, cell_of_byte, read_byte, write_byte, Partly, four_bytes, word_byte-small, word_byte-packed_0, word_byte-packed_1, word_byte-packed_2, word_byte-packed_3, HasFrames, start, called}

-- a truth is tested, and its case is known
pub by_test : {A : Type 0} (b : Bool) → (b ≡ true → A) → (b ≡ false → A) → A
by_test true h k = h refl
by_test false h k = k refl

pub not_true : {A : Type 0} → false ≡ true → A
not_true h = absurd (cc)

-- a value that may be there, with what it is the value of
pub by_option : {A : Type 0} (P : Option A → Type 0) (y : Option A) → (y ≡ None → P None) → ((a : A) → y ≡ Some a → P (Some a)) → P y
by_option P None f h = f refl
by_option P (Some a) f h = h a refl

pub by_truth : (P : Bool → Type 0) (b : Bool) → (b ≡ true → P true) → (b ≡ false → P false) → P b
by_truth P true h f = h refl
by_truth P false h f = f refl

pub either_way : {A : Type 0} (P : A → Type 0) (b : Bool) (x y : A) → P x → P y → P (if b then x else y)
either_way P true x y h k = h
either_way P false x y h k = k

-- ---- lists

abbrev pub All : {A : Type 0} → (A → Type 0) → List A → Type 0
All P [] = Unit {0}
All P (x ∷ xs) = P x × All P xs

-- with numbers from n on
abbrev pub Each : {A : Type 0} → (ℕ → A → Type 0) → ℕ → List A → Type 0
Each P n [] = Unit {0}
Each P n (x ∷ xs) = P n x × Each P (suc n) xs

pub all_both : {A : Type 0} (P : A → Type 0) (xs ys : List A) → All P xs → All P ys → All P (xs ++ ys)
all_both P [] ys h i = i
all_both P (x ∷ xs) ys h i = (h.0, all_both P xs ys h.1 i)

pub all_at : {A : Type 0} (P : A → Type 0) (xs : List A) (o : ℕ) (x : A) → All P xs → slice_get xs o ≡ Some x → P x
all_at P [] o x h e = absurd (cc)
all_at P (y ∷ ys) zero x h e = subst P (let k : Some y ≡ Some x = e in cc) h.0
all_at P (y ∷ ys) (suc o) x h e = all_at P ys o x h.1 e

module _ {A : Type 0} (P : ℕ → A → Type 0) where
  pub each_front : (n : ℕ) (xs ys : List A) → Each P n (xs ++ ys) → Each P n xs
  each_front n [] ys h = tt
  each_front n (x ∷ xs) ys h = (h.0, each_front (suc n) xs ys h.1)

  pub each_back : (n k : ℕ) (xs ys : List A) → length xs ≡ k → Each P n (xs ++ ys) → Each P (n + k) ys
  each_back n k [] ys e h = let s : n ≡ n + k = omega (arith, e) in subst (λ m. Each P m ys) s h
  each_back n k (x ∷ xs) ys e h = let s : suc n + length xs ≡ n + k = omega (arith, e) in subst (λ m. Each P m ys) s (each_back (suc n) (length xs) xs ys refl h.1)

  pub each_both : (n k : ℕ) (xs ys : List A) → length xs ≡ k → Each P n xs → Each P (n + k) ys → Each P n (xs ++ ys)
  each_both n k [] ys e h i = let s : n + k ≡ n = omega (arith, e) in subst (λ m. Each P m ys) s i
  each_both n k (x ∷ xs) ys e h i =
      let s : n + k ≡ suc n + length xs = omega (arith, e) in
      (h.0, each_both (suc n) (length xs) xs ys refl h.1 (subst (λ m. Each P m ys) s i))

  pub each_at : (n o : ℕ) (xs : List A) (x : A) → Each P n xs → slice_get xs o ≡ Some x → P (n + o) x
  each_at n o [] x h e = absurd (cc)
  each_at n zero (y ∷ ys) x h e = let here : n ≡ n + 0 = omega arith in subst (λ m. P m x) here (subst (P n) (let k : Some y ≡ Some x = e in cc) h.0)
  each_at n (suc o) (y ∷ ys) x h e = let there : suc n + o ≡ n + suc o = omega arith in subst (λ m. P m x) there (each_at (suc n) o ys x h.1 e)

-- what stands behind a front has the numbers from there on
pub one_more : {A : Type 0} (front : List A) (x : A) → length (front ++ (x ∷ [])) ≡ suc (length front)
one_more [] x = refl
one_more (y ∷ front) x = ap suc (one_more front x)

at_front : {A : Type 0} (front xs : List A) (x : A) → slice_get (front ++ (x ∷ xs)) (length front) ≡ Some x
at_front [] xs x = refl
at_front (y ∷ front) xs x = at_front front xs x

pub each_itself : {A : Type 0} (front xs : List A) → Each (λ n x. slice_get (front ++ xs) n ≡ Some x) (length front) xs
each_itself front [] = tt
each_itself front (x ∷ xs) = (
  at_front front xs x,
  subst (λ all. Each (λ n y. slice_get all n ≡ Some y) (suc (length front)) xs) (append_assoc front (x ∷ []) xs)
      (subst (λ n. Each (λ m y. slice_get ((front ++ (x ∷ [])) ++ xs) m ≡ Some y) n xs) (one_more front x) (each_itself (front ++ (x ∷ [])) xs)),
)

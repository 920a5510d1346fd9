-- Chosen values, single words of stores, and what holds of each branch of a step.
pub use Rattle.bk_ocode.proofs.Terms.{◌≡◌, ℕ, ◌<◌, ◌==◌, nat_lt, Bool, true, false, Option, Some, None, refl, lt-ltb, ne_eqb, eq-eqb, if◌then◌else◌, Content, Unset, Partly, Word, Cell, Free, write, below, settle, number_in, Next, Wild, on_number, on_some, ◌⊎◌, inl, inr, suc, ◌+◌, ◌-◌, ◌≤◌, ◌^◌, List, [], ◌∷◌, length, sym, ◌∙◌, ap, subst, arith, ⊤, variable_at, byte_at, word_with_byte_at, Placed, Callables, Routine, Control, Inside, Following, At, State, Goes, Ends, is_label, slot, operated, named_place, has_word, from_label, jump, jump_with, case_label, can_be_called, call, return, dyadic_word, routine_step, step_by, step_in, step_from, IsAtRest, statements_left, steps_left, StepsComeNearer, Contents, Negate, Not, Stmt, Monadic, Dyadic, LoadByte, Assign, AssignAt, AssignByte, Jump, JumpIf, Label, GiveResult, CallFunction, CallRoutine, ReturnItem, Return, Switch, Finish, EndProcedure, DataLabel, DataNumber, DataAddress, Globals, word_sum, byte_distance, Temporary, Link, Held, on, push, IsNotAmong, KeepsNext, StepKeepsBelow, Number, True, False, Query, Load, Address, Text, TakeResult, Stack, Store, Entry, Save, ◌||◌, ◌++◌, fold, map, slice_get, eqb-true, option_map, option_map_or, GLOBAL_NUMBER, InRange, AreFaultless, Variable, content_of, Placement, global_place, Program, all_data, all_globals, is_global, unset_cells, with_global, first_cells, start, IsHeld, is_usable, Sound, FirstStateIsSound, GlobalEntry, or_right, append-nil, string_at, Stop, Rdch, Wrch, Newline, Writes, Writen, Writed, Getbyte, Putbyte, Writef, tells, read_byte, Grown, StepsGrow, EndsKeepBytes, zero, take, le-leb, nat_le, ◌&&◌, append_assoc, ◌%◌, byte_place, FRAME_WORDS, next_depth, depth_after, largest_after, largest_depth, least_depth, assign_depth, with_byte, variable_in, Rest, rest_of, or_rest, rests, rests_of, is_datum, HasFrames, called, IsOpening, Applies, IsOwn, IsControl, Local, Global, Static, take-append_seam}

pub chosen-true : {A : Type 0} → (b : Bool) (x y : A) → b ≡ true → (if b then x else y) ≡ x
chosen-true true x y is = refl
chosen-true false x y is = absurd (let h : false ≡ true = is in cc)

pub chosen-false : {A : Type 0} → (b : Bool) (x y : A) → b ≡ false → (if b then x else y) ≡ y
chosen-false true x y is = absurd (let h : true ≡ false = is in cc)
chosen-false false x y is = refl

pub below-kept : (top : ℕ) (cells : ℕ → Cell) (place : ℕ) → place < top → below top cells place ≡ cells place
below-kept top cells place low = chosen-true (nat_lt place top) (cells place) Free (lt-ltb place top low)

pub write-kept : (cells : ℕ → Cell) (at : ℕ) (cell : Cell) (place : ℕ) → (place ≡ at → ⊥) → write cells at cell place ≡ cells place
write-kept cells at cell place other = chosen-false (place == at) cell (cells place) (ne_eqb place at other)

pub write-there : (cells : ℕ → Cell) (at : ℕ) (cell : Cell) (place : ℕ) → place ≡ at → write cells at cell place ≡ cell
write-there cells at cell place same = chosen-true (place == at) cell (cells place) (eq-eqb place at same)

pub settle-kept : (from top : ℕ) (cells : ℕ → Cell) (place : ℕ) → place < from → settle from top cells place ≡ cells place
settle-kept from top cells place low = chosen-true (nat_lt place from) (cells place) _ (lt-ltb place from low)

-- what holds of each branch of a step holds of the step
pub on_number-holds : (P : Next → Type 0) → P Wild → (content : Content) (go : ℕ → Next) → ((w : ℕ) → number_in content ≡ Some w → P (go w)) → P (on_number content go)
on_number-holds P wild Unset go f = wild
on_number-holds P wild (Partly b0 b1 b2 b3) go f = wild
on_number-holds P wild (Word w) go f = f w refl

pub on_some-holds : {A : Type 0} → (P : Next → Type 0) → P Wild → (found : Option A) (go : A → Next) → ((x : A) → found ≡ Some x → P (go x)) → P (on_some found go)
on_some-holds P wild None go f = wild
on_some-holds P wild (Some x) go f = f x refl

pub if-holds : (P : Next → Type 0) (b : Bool) (x y : Next) → (b ≡ true → P x) → (b ≡ false → P y) → P (if b then x else y)
if-holds P true x y p q = p refl
if-holds P false x y p q = q refl

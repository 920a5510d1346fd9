-- In a run of OCODE the bytes of words that are partly set are bytes.
use Rattle.bk_simulation.proofs.Lists.{either_way, by_option, ◌≡◌, ℕ, ◌+◌, ◌-◌, ◌<◌, ◌^◌, ◌==◌, ◌%◌, nat_lt, Bool, true, false, List, [], ◌∷◌, ◌++◌, length, Option, Some, None, subst, if◌then◌else◌, option_map, option_map_or, word_sum, byte_distance, byte_place, Content, Unset, Word, Variable, Temporary, Link, Cell, Free, Held, content_of, kind_of, byte_in, with_byte, write, below, settle, Placed, Callables, Routine, Stop, Rdch, Wrch, Newline, Writes, Writen, Writed, Getbyte, Putbyte, Writef, Control, Inside, Following, At, State, Next, Goes, Wild, on, slot, on_number, operated, named_place, has_word, from_label, jump, jump_with, case_label, can_be_called, tells, dyadic_word, routine_step, step_by, step_in, step_from, Rest, in_hand, resumed, resumed_by, Program, program_step, kept, variable_in, variable_at, byte_at, word_with_byte_at, string_at, Stmt, Load, Monadic, Dyadic, LoadByte, Assign, AssignAt, AssignByte, Jump, JumpIf, Label, GiveResult, TakeResult, Stack, Store, Entry, Save, CallFunction, CallRoutine, ReturnItem, Return, EndProcedure, Switch, Finish, DataLabel, DataNumber, DataAddress, Globals, on_number-holds, on_some-holds, if-holds, Contents, Negate, Not}
use Rattle.bk_ocode.specs.OcodeStep.{push, call, return, read_byte}
use Rattle.bk_simulation.proofs.CellBytes.{IsByte, AreBytes, byte_is, four_are_bytes, byte_low}
use Rattle.bk_simulation.proofs.Moves.{Moves, settled, going}

abbrev pub InHand : Option Content → Type 0
InHand None = Unit {0}
InHand (Some x) = AreBytes x

-- of each word of the store, and of the result in hand
pub record HasBytes (s : State) : Type 0 where
  pub words : (a : ℕ) → AreBytes (content_of (s.cells a))
  pub hand : InHand s.hand

abbrev WithBytes : Next → Type 0
WithBytes (Goes t) = HasBytes t
WithBytes _ = Unit {0}

abbrev pub AllBytes : (ℕ → Cell) → Type 0
AllBytes cells = (a : ℕ) → AreBytes (content_of (cells a))

below_bytes : (top : ℕ) (cells : ℕ → Cell) → AllBytes cells → AllBytes (below top cells)
below_bytes top cells all a = either_way (λ c. AreBytes (content_of c)) (nat_lt a top) (cells a) Free (all a) tt

write_bytes : (cells : ℕ → Cell) (at : ℕ) (c : Cell) → AllBytes cells → AreBytes (content_of c) → AllBytes (write cells at c)
write_bytes cells at c all are a = either_way (λ c. AreBytes (content_of c)) (a == at) c (cells a) are (all a)

settle_bytes : (from top : ℕ) (cells : ℕ → Cell) → AllBytes cells → AllBytes (settle from top cells)
settle_bytes from top cells all a =
    either_way (λ c. AreBytes (content_of c)) (nat_lt a from) (cells a) _ (all a) (either_way (λ c. AreBytes (content_of c)) (nat_lt a top) (Held Variable (content_of (cells a))) (cells a) (all a) (all a))

in_variable : (c : Cell) (x : Content) → AreBytes (content_of c) → variable_in c ≡ Some x → AreBytes x
in_variable (Held Variable y) x are e = subst AreBytes (let z : y ≡ x = cc in z) are
in_variable _ x are e = absurd (cc)

variable_bytes : (top a : ℕ) (cells : ℕ → Cell) (x : Content) → AllBytes cells → variable_at top cells a ≡ Some x → AreBytes x
variable_bytes top a cells x all e = either_way (λ o. o ≡ Some x → AreBytes x) (nat_lt a top) (variable_in (cells a)) None (in_variable (cells a) x (all a)) (λ e. absurd (let z : None ≡ Some x = e in cc)) e

set_byte : (b i k : ℕ) (x : Content) → b < 2 ^ 8 → AreBytes x → IsByte (if i == k then Some b else byte_in x k)
set_byte b i k x small are = either_way IsByte (i == k) (Some b) (byte_in x k) small (byte_is x k are)

with_byte_bytes : (x : Content) (i b : ℕ) → b < 2 ^ 8 → AreBytes x → AreBytes (with_byte x i b)
with_byte_bytes x i b small are = four_are_bytes _ _ _ _ (set_byte b i 0 x small are) (set_byte b i 1 x small are) (set_byte b i 2 x small are) (set_byte b i 3 x small are)

word_with_bytes : (top : ℕ) (cells : ℕ → Cell) (a i b : ℕ) (x : Content) → AllBytes cells → word_with_byte_at top cells a i b ≡ Some x → AreBytes x
word_with_bytes top cells a i b x all e =
    by_option (λ o. option_map (λ content. with_byte content (byte_place i) (b % 256)) o ≡ Some x → AreBytes x) (variable_at top cells (word_sum a (byte_distance i))) (λ _ e. absurd (cc)) (λ y eo e.
    subst AreBytes (let z : with_byte y (byte_place i) (b % 256) ≡ x = cc in z)
    (with_byte_bytes y (byte_place i) (b % 256) (byte_low b) (variable_bytes top (word_sum a (byte_distance i)) cells y all eo))) e

in_hand_bytes : (h : Option Content) → InHand h → AreBytes (option_map_or (λ x. x) h Unset)
in_hand_bytes None h = tt
in_hand_bytes (Some x) h = h

number_with : (c : Content) (go : ℕ → Next) → ((w : ℕ) → WithBytes (go w)) → WithBytes (on_number c go)
number_with c go f = on_number-holds WithBytes tt c go (λ w e. f w)

-- ---- a step

module _ (s : State) (has : HasBytes s) where
  on_with : (own : Placed) (k : ℕ) (rest : List Stmt) (cells : ℕ → Cell) (places : List ℕ) → AllBytes cells → WithBytes (on s own k rest cells places)
  on_with own k rest cells places all = record { words = below_bytes (s.frame + k) cells all; hand = tt }

  push_with : (own : Placed) (k : ℕ) (rest : List Stmt) (x : Content) → AreBytes x → WithBytes (push s own k rest x)
  push_with own k rest x are = on_with own (k + 1) rest (write s.cells (s.frame + k) (Held Temporary x)) ((s.frame + k) ∷ []) (write_bytes s.cells (s.frame + k) (Held Temporary x) has.words are)

  same_with : (own : Placed) (k : ℕ) (rest : List Stmt) → WithBytes (on s own k rest s.cells [])
  same_with own k rest = on_with own k rest s.cells [] has.words

  write_with : (own : Placed) (k : ℕ) (rest : List Stmt) (at : ℕ) (c : Cell) → AreBytes (content_of c) → WithBytes (on s own k rest (write s.cells at c) (at ∷ []))
  write_with own k rest at c are = on_with own k rest (write s.cells at c) (at ∷ []) (write_bytes s.cells at c has.words are)

  settle_with : (own : Placed) (k : ℕ) (rest : List Stmt) (from top : ℕ) → WithBytes (on s own k rest (settle from top s.cells) [])
  settle_with own k rest from top = on_with own k rest (settle from top s.cells) [] (settle_bytes from top s.cells has.words)

  jump_with_bytes : (own : Placed) (k l : ℕ) → WithBytes (jump s own k l)
  jump_with_bytes own k l = on_some-holds WithBytes tt (from_label own.stmts l) _ (λ rest e. same_with own k rest)

  result_with : (own : Placed) (k l : ℕ) (x : Content) → AreBytes x → WithBytes (jump_with s own k l x)
  result_with own k l x are = on_some-holds WithBytes tt (from_label own.stmts l) _ (λ rest e. record { words = below_bytes (s.frame + k) s.cells has.words; hand = are })

  operated_with : (own : Placed) (n : ℕ) (rest : List Stmt) (w : Option ℕ) → WithBytes (operated s own n rest w)
  operated_with own n rest (Some w) = push_with own n rest (Word w) tt
  operated_with own n rest None = tt

  call_with : (callables : Callables) (own : Placed) (k n e : ℕ) (rest : List Stmt) → WithBytes (call callables s own k n e rest)
  call_with callables own k n e rest =
      if-holds WithBytes (can_be_called callables e) _ Wild
      (λ t. if-holds WithBytes (nat_lt (2 ^ 31 - 65536) (s.frame + n)) Wild _ (λ u. tt)
      (λ u. record {
        words = below_bytes (s.frame + (k - 1)) _ (write_bytes (write s.cells (s.frame + n) (Held Link (Word s.frame))) (s.frame + n + 1) (Held Link (Word (own.places.call (length rest))))
            (write_bytes s.cells (s.frame + n) (Held Link (Word s.frame)) has.words tt) tt);
        hand = tt;
      })) (λ t. tt)

  return_with : (t : State) (h : Option Content) → AllBytes t.cells → InHand h → WithBytes (return t h)
  return_with t h all are = number_with (slot t 1) _ (λ c. number_with (slot t 0) _ (λ p. record { words = below_bytes t.frame t.cells all; hand = are }))

  stmt_with : (callables : Callables) (own : Placed) (k : ℕ) (stmt : Stmt) (rest : List Stmt) → WithBytes (step_by callables s own k stmt rest)
  stmt_with callables own k (Load from) rest = push_with own k rest _ (has.words (named_place s own from))
  stmt_with callables own k (Monadic Contents) rest =
      number_with (slot s (k - 1)) _ (λ a. on_some-holds WithBytes tt (variable_at (s.frame + k) s.cells a) _
      (λ x e. push_with own (k - 1) rest x (variable_bytes (s.frame + k) a s.cells x has.words e)))
  stmt_with callables own k (Monadic Negate) rest = number_with (slot s (k - 1)) _ (λ w. push_with own (k - 1) rest _ tt)
  stmt_with callables own k (Monadic Not) rest = number_with (slot s (k - 1)) _ (λ w. push_with own (k - 1) rest _ tt)
  stmt_with callables own k (Dyadic operator) rest =
      number_with (slot s (k - 2)) _ (λ v. number_with (slot s (k - 1)) _ (λ w. operated_with own (k - 2) rest (dyadic_word operator v w)))
  stmt_with callables own k LoadByte rest =
      number_with (slot s (k - 2)) _ (λ a. number_with (slot s (k - 1)) _ (λ i. on_some-holds WithBytes tt (byte_at (s.frame + k) s.cells a i) _ (λ b e. push_with own (k - 2) rest _ tt)))
  stmt_with callables own k (Assign to) rest =
      if-holds WithBytes (has_word to (s.cells (named_place s own to))) _ Wild
      (λ t. write_with own (k - 1) rest (named_place s own to) (Held (kind_of (s.cells (named_place s own to))) (slot s (k - 1))) (has.words (s.frame + (k - 1)))) (λ t. tt)
  stmt_with callables own k AssignAt rest =
      number_with (slot s (k - 1)) _ (λ a. on_some-holds WithBytes tt (variable_at (s.frame + k) s.cells a) _
      (λ x e. write_with own (k - 2) rest a (Held Variable (slot s (k - 2))) (has.words (s.frame + (k - 2)))))
  stmt_with callables own k AssignByte rest =
      number_with (slot s (k - 3)) _ (λ b. number_with (slot s (k - 2)) _ (λ a. number_with (slot s (k - 1)) _ (λ i.
      on_some-holds WithBytes tt (word_with_byte_at (s.frame + k) s.cells a i b) _
      (λ x e. write_with own (k - 3) rest (word_sum a (byte_distance i)) (Held Variable x) (word_with_bytes (s.frame + k) s.cells a i b x has.words e)))))
  stmt_with callables own k (Jump l) rest = jump_with_bytes own k l
  stmt_with callables own k (JumpIf true l) rest =
      number_with (slot s (k - 1)) _ (λ w. if-holds WithBytes (w == 0) _ _ (λ t. same_with own (k - 1) rest) (λ t. jump_with_bytes own (k - 1) l))
  stmt_with callables own k (JumpIf false l) rest =
      number_with (slot s (k - 1)) _ (λ w. if-holds WithBytes (w == 0) _ _ (λ t. jump_with_bytes own (k - 1) l) (λ t. same_with own (k - 1) rest))
  stmt_with callables own k (Label l) rest = record { words = has.words; hand = has.hand }
  stmt_with callables own k (GiveResult l) rest = result_with own (k - 1) l _ (has.words (s.frame + (k - 1)))
  stmt_with callables own k (TakeResult n) rest = push_with own n rest _ (in_hand_bytes s.hand has.hand)
  stmt_with callables own k (Stack n) rest = settle_with own n rest (s.frame + k) (s.frame + n)
  stmt_with callables own k Store rest = settle_with own k rest (s.frame + 2) (s.frame + k)
  stmt_with callables own k (Entry l name) rest = record { words = has.words; hand = tt }
  stmt_with callables own k (Save n) rest = settle_with own n rest (s.frame + 2) (s.frame + n)
  stmt_with callables own k (CallFunction n) rest = number_with (slot s (k - 1)) _ (λ e. call_with callables own k n e rest)
  stmt_with callables own k (CallRoutine n) rest = number_with (slot s (k - 1)) _ (λ e. call_with callables own k n e rest)
  stmt_with callables own k ReturnItem rest = return_with s _ has.words (has.words (s.frame + (k - 1)))
  stmt_with callables own k Return rest = return_with s None has.words tt
  stmt_with callables own k (Switch default cases) rest = number_with (slot s (k - 1)) _ (λ w. jump_with_bytes own (k - 1) (case_label cases default w))
  stmt_with callables own k Finish rest = tt
  stmt_with callables own k EndProcedure rest = tt
  stmt_with callables own k (DataLabel l) rest = tt
  stmt_with callables own k (DataNumber value) rest = tt
  stmt_with callables own k (DataAddress l) rest = tt
  stmt_with callables own k (Globals entries) rest = tt
  stmt_with callables own k _ rest = push_with own k rest _ tt

  tells_with : (bytes : List ℕ) → WithBytes (tells s bytes)
  tells_with bytes = return_with (record s { output = s.output ++ bytes }) None has.words tt

  read_with : (input : List ℕ) → WithBytes (read_byte input s)
  read_with [] = return_with s _ has.words tt
  read_with (b ∷ rest) = return_with (record s { input = rest }) _ has.words tt

  routine_with : (r : Routine) → WithBytes (routine_step s r)
  routine_with Stop = number_with (slot s 2) _ (λ n. tt)
  routine_with Rdch = read_with s.input
  routine_with Wrch = number_with (slot s 2) _ (λ b. tells_with _)
  routine_with Newline = tells_with _
  routine_with Writes = number_with (slot s 2) _ (λ a. on_some-holds WithBytes tt (string_at s.frame s.cells a) _ (λ bytes e. tells_with bytes))
  routine_with Writen = number_with (slot s 2) _ (λ n. tells_with _)
  routine_with Writed = number_with (slot s 2) _ (λ n. number_with (slot s 3) _ (λ w. tells_with _))
  routine_with Getbyte =
      number_with (slot s 2) _ (λ a. number_with (slot s 3) _ (λ i. on_some-holds WithBytes tt (byte_at s.frame s.cells a i) _ (λ b e. return_with s _ has.words tt)))
  routine_with Putbyte =
      number_with (slot s 2) _ (λ a. number_with (slot s 3) _ (λ i. number_with (slot s 4) _ (λ b.
      on_some-holds WithBytes tt (word_with_byte_at s.frame s.cells a i b) _ (λ x e.
      return_with (record s { cells = write s.cells (word_sum a (byte_distance i)) (Held Variable x); written = word_sum a (byte_distance i) ∷ s.written }) None
      (write_bytes s.cells (word_sum a (byte_distance i)) (Held Variable x) has.words (word_with_bytes s.frame s.cells a i b x has.words e)) tt))))
  routine_with Writef =
      number_with (slot s 2) _ (λ f. on_some-holds WithBytes tt (string_at s.frame s.cells f) _ (λ format e. on_some-holds WithBytes tt _ _ (λ bytes eb. tells_with bytes)))

  in_step_with : (callables : Callables) (own : Placed) (k : ℕ) (rest : List Stmt) → WithBytes (step_in callables s own k rest)
  in_step_with callables own k [] = tt
  in_step_with callables own k (stmt ∷ rest) = stmt_with callables own k stmt rest

  step_with : (callables : Callables) (c : Control) → WithBytes (step_from callables s c)
  step_with callables (Inside own k rest) = in_step_with callables own k rest
  step_with callables (Following own l) = tt
  step_with callables (At n) = on_some-holds WithBytes tt (callables.routine n) _ (λ r e. routine_with r)

  -- ---- going on from a rest
  kept_hand : (b : Bool) → InHand (kept b s.hand)
  kept_hand true = has.hand
  kept_hand false = tt

  pub resumed_bytes : (own : Placed) (r : Rest) → HasBytes (resumed own r s)
  resumed_bytes own r = by_takes r.takes
    where
      by_takes : (b : Bool) → HasBytes (resumed_by b own r s)
      by_takes true = record { words = write_bytes s.cells (s.frame + r.depth) (Held Temporary (in_hand s.hand)) has.words (by_option (λ h. InHand h → AreBytes (in_hand h)) s.hand (λ _ h. tt) (λ _ _ h. h) has.hand); hand = tt }
      by_takes false = record { words = has.words; hand = kept_hand r.keeps }

-- ---- a step of a program, and a move

pub settled_bytes : (program : Program) (s : State) → HasBytes s → HasBytes (settled program s)
settled_bytes program s has = going program s (λ t x. HasBytes t) has has has (λ own r h. resumed_bytes s has own r)

program_with : (program : Program) (s : State) → HasBytes s → WithBytes (program_step program s)
program_with program s has = going program s (λ t x. WithBytes x) tt tt (step_with s has program.callables s.control) (λ own r h. step_with (resumed own r s) (resumed_bytes s has own r) program.callables (resumed own r s).control)

pub moves_bytes : (program : Program) (s u : State) → Moves program s u → HasBytes s → HasBytes u
moves_bytes program s u m has = subst HasBytes m.2 (settled_bytes program m.0 (subst WithBytes m.1 (program_with program s has)))

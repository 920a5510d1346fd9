-- Moves: a step, and the state as which the one that it comes to goes on. What each statement moves to.
use Rattle.bk_simulation.proofs.Words.{Next, Ends, ◌⊎◌, inl, inr, rest_of, step_by, CallFunction, CallRoutine, ◌≡◌, ℕ, suc, ◌+◌, ◌-◌, ◌==◌, nat_lt, ◌^◌, Bool, true, false, List, ◌∷◌, length, Some, None, take, drop, slice_get, if◌then◌else◌, refl, ap, ◌∙◌, zero, [], Option, pos, sym, subst, ◌++◌, not, arith, option_map_or, Word, Temporary, Held, write, below, Content, Variable, Link, Cell, kind_of, depth_after, next_depth, AreFaultless, Placed, Routine, Inside, Following, At, State, Goes, Placement, Control, Ends, Wild, slot, can_be_called, step, on_number, on_some, named_place, has_word, dyadic_word, operated, jump, from_label, case_label, step_by, step_from, Program, resumed_in, program_step, Rest, rest_of, or_rest, rests, rests_of, resumed, resumed_by, find_rest, label_rest, program_step_from, Stmt, Label, Entry, CallFunction, CallRoutine, ReturnItem, Return, Monadic, Dyadic, LoadByte, Assign, AssignAt, AssignByte, Jump, JumpIf, GiveResult, Switch, Finish, IsWellPlaced, not_before, Status, DivideByZero, word_sum, byte_distance, variable_at, byte_at, word_with_byte_at, Case, label_rest-at, Contents}
use Rattle.bk_ocode.specs.OcodeStep.{call, return}
pub use Rattle.bk_simulation.specs.GoingOn.{settled, settled_from}
use Rattle.bk_simulation.proofs.Terms.{Variable as Named, Dyadic as DyadicOperator}

-- ---- How a program goes on from its rests: behind a LAB, at an entry and behind a call.

-- ---- A state steps as the one as which it goes on; and counted runs of such states.

resumed_step : (program : Program) (own : Placed) (r : Rest) (s : State) (t : Bool) → step program.callables (resumed_by t own r s) ≡ program_step program (resumed_by t own r s)
resumed_step program own r s true = refl
resumed_step program own r s false = refl

-- a rest behind a LAB, or one of a section of the program
abbrev pub IsRest : Program → Placed → Rest → Type 0
IsRest program own r = ((l : ℕ) × (label_rest own.places 0 own.stmts l ≡ Some r)) ⊎ ((i : ℕ) × (n : ℕ) × (slice_get program.sections i ≡ Some own) × (find_rest (rests_of own) n ≡ Some r))

-- what is found at a number
abbrev FoundAt : List Placed → ℕ → State → State → Type 0
FoundAt sections n s t = (own : Placed) × (r : Rest) × (i : ℕ) × (slice_get sections i ≡ Some own) × (find_rest (rests_of own) n ≡ Some r) × (resumed own r s ≡ t)

found_at : (sections : List Placed) (n : ℕ) (s t : State) → resumed_in sections n s ≡ Some t → FoundAt sections n s t
found_at [] n s t e = absurd (let h : None ≡ Some t = e in cc)
found_at (own ∷ others) n s t e = by_rest (find_rest (rests_of own) n) refl e (λ h. found_at others n s t h)
  where
    by_rest : (o : Option Rest) → find_rest (rests_of own) n ≡ o → option_map_or (λ r. Some (resumed own r s)) o (resumed_in others n s) ≡ Some t → (resumed_in others n s ≡ Some t → FoundAt others n s t) → FoundAt (own ∷ others) n s t
    by_rest None eo e go = let h = go e in (h.0, h.1, suc h.2, h.3, h.4, h.5)
    by_rest (Some r) eo e go = (own, r, 0, refl, eo, (let h : Some (resumed own r s) ≡ Some t = e in cc))

-- A state goes on as itself or as resumed from a rest, and its step is that of the state as which it goes on, or the end at START's link,
-- or it is wild.
pub going : (program : Program) (s : State) (P : State → Next → Type 0) → P s Wild → P s (Ends (Status (pos 0)) s) → P s (step program.callables s)
    → ((own : Placed) (r : Rest) → IsRest program own r → P (resumed own r s) (step program.callables (resumed own r s))) → P (settled program s) (program_step program s)
going program s P wild over itself resumes = by_control s.control
  where
    by_label : (own : Placed) (l : ℕ) (o : Option Rest) → label_rest own.places 0 own.stmts l ≡ o → P (option_map_or (λ r. resumed own r s) o s) (option_map_or (λ r. step program.callables (resumed own r s)) o Wild)
    by_label own l None e = wild
    by_label own l (Some r) e = resumes own r (inl (l, e))

    by_found : (n : ℕ) (o : Option State) → resumed_in program.sections n s ≡ o → P (option_map_or (λ t. t) o s) (option_map_or (λ t. step program.callables t) o Wild)
    by_found n None e = wild
    by_found n (Some t) e = let h = found_at program.sections n s t e in subst (λ t. P t (step program.callables t)) h.5 (resumes h.0 h.1 (inr (h.2, n, h.3, h.4)))

    by_home : (n : ℕ) (b : Bool) (f : Option Routine) → P (if b then s else option_map_or (λ _. s) f (option_map_or (λ t. t) (resumed_in program.sections n s) s))
        (if b then Ends (Status (pos 0)) s else option_map_or (λ _. step program.callables s) f (option_map_or (λ t. step program.callables t) (resumed_in program.sections n s) Wild))
    by_home n true f = over
    by_home n false (Some f) = itself
    by_home n false None = by_found n (resumed_in program.sections n s) refl

    by_control : (c : Control) → P (settled_from program s c) (program_step_from program s c)
    by_control (Inside own k rest) = itself
    by_control (Following own l) = by_label own l (label_rest own.places 0 own.stmts l) refl
    by_control (At n) = by_home n (n == program.home) (program.callables.routine n)

-- so it steps as the state as which it goes on
pub settled_step : (program : Program) (s : State) → program_step program s ≡ program_step program (settled program s)
settled_step program s = going program s (λ t x. x ≡ program_step program s → program_step program s ≡ program_step program t) (λ e. refl) (λ e. refl) (λ e. refl)
    (λ own r h e. sym e ∙ resumed_step program own r s r.takes) refl

-- the rest at a statement is among those of the section
more_rests : (o : Option Rest) (rs : List Rest) (i : ℕ) (r : Rest) → slice_get rs i ≡ Some r → (j : ℕ) × (slice_get (or_rest o rs) j ≡ Some r)
more_rests None rs i r e = (i, e)
more_rests (Some q) rs i r e = (suc i, e)

pub rest_among : (places : Placement) (k : ℕ) (stmts : List Stmt) (i : ℕ) (s : Stmt) (r : Rest) → slice_get stmts i ≡ Some s
    → rest_of places (depth_after k (take i stmts)) s (drop (suc i) stmts) ≡ Some r → (j : ℕ) × (slice_get (rests places k stmts) j ≡ Some r)
rest_among places k [] i s r at e = absurd (let h : None ≡ Some s = at in cc)
rest_among places k (t ∷ rest) zero s r at e = grind (arith, rests, rest_of)
rest_among places k (t ∷ rest) (suc i) s r at e =
    let h = rest_among places (next_depth k t) rest i s r at e in
    more_rests (rest_of places k t rest) (rests places (next_depth k t) rest) h.0 r h.1

-- behind a LAB, with what is in hand
pub label_settled : (program : Program) (s : State) (own : Placed) (i l : ℕ) → AreFaultless own.stmts → slice_get own.stmts i ≡ Some (Label l) → s.control ≡ Following own l
    → settled program s ≡ record s { control = Inside own (depth_after 0 (take i own.stmts)) (drop (suc i) own.stmts) }
label_settled program s own i l are at is =
    ap (settled_from program s) is
    ∙ ap (λ (r : Option Rest). option_map_or (λ (x : Rest). resumed own x s) r s)
    (label_rest-at own.places l 0 own.stmts i at (λ j low here. not_before own.stmts j i l (Label l) (Label l) are here at refl refl low))

-- FNAP calls for a value, RTAP does not
abbrev pub call_stmt : Bool → ℕ → Stmt
call_stmt true n = CallFunction n
call_stmt false n = CallRoutine n

module _ (program : Program) (first F : ℕ) (well : IsWellPlaced program first F) (section : ℕ) (own : Placed) (is_own : slice_get program.sections section ≡ Some own) where
  -- at the number of a rest that is no LAB's
  pub rest_settled : (s : State) (j : ℕ) (r : Rest) → slice_get (rests_of own) j ≡ Some r → r.keeps ≡ false → s.control ≡ At r.place → settled program s ≡ resumed own r s
  rest_settled s j r at keeps is = grind arith

  -- at an entry
  pub entry_settled : (s : State) (i l : ℕ) (name : List ℕ) → slice_get own.stmts i ≡ Some (Entry l name) → s.control ≡ At (own.places.label l)
      → settled program s ≡ record s { control = Inside own 2 (Entry l name ∷ drop (suc i) own.stmts); hand = None }
  entry_settled s i l name at is =
      let r : Rest = record { place = own.places.label l; depth = 2; takes = false; keeps = false; following = Entry l name ∷ drop (suc i) own.stmts } in
      let among = rest_among own.places 0 own.stmts i (Entry l name) r at refl in
      rest_settled s among.0 r among.1 refl is

  -- behind a call: what is in hand becomes an item where a function was called, and is dropped where a routine was
  pub call_settled : (of : Bool) (s : State) (i n : ℕ) → slice_get own.stmts i ≡ Some (call_stmt of n) → s.control ≡ At (own.places.call (length (drop (suc i) own.stmts)))
      → settled program s ≡ resumed own (record { place = own.places.call (length (drop (suc i) own.stmts)); depth = n; takes = of; keeps = false; following = drop (suc i) own.stmts }) s
  call_settled of s i n at is =
      let r : Rest = record { place = own.places.call (length (drop (suc i) own.stmts)); depth = n; takes = of; keeps = false; following = drop (suc i) own.stmts } in
      let among = rest_among own.places 0 own.stmts i (call_stmt of n) r at (by_kind of) in
      rest_settled s among.0 r among.1 refl is
    where
      by_kind : (of : Bool) → rest_of own.places (depth_after 0 (take i own.stmts)) (call_stmt of n) (drop (suc i) own.stmts)
          ≡ Some (record { place = own.places.call (length (drop (suc i) own.stmts)); depth = n; takes = of; keeps = false; following = drop (suc i) own.stmts })
      by_kind true = refl
      by_kind false = refl

-- ---- What each statement's step does, with the depth before it as d + 1, d + 2 or d + 3, where it takes so many items.

-- depths without a difference
pub one_off : (d : ℕ) → d + 1 - 1 ≡ d
one_off d = omega arith

two_off : (d : ℕ) → d + 2 - 2 ≡ d
two_off d = omega arith

one_of_two : (d : ℕ) → d + 2 - 1 ≡ d + 1
one_of_two d = omega arith

three_off : (d : ℕ) → d + 3 - 3 ≡ d
three_off d = omega arith

two_of_three : (d : ℕ) → d + 3 - 2 ≡ d + 1
two_of_three d = omega arith

one_of_three : (d : ℕ) → d + 3 - 1 ≡ d + 2
one_of_three d = omega arith

-- on in the procedure with a depth, other cells, and these places written
abbrev pub onwards : State → Placed → ℕ → List Stmt → (ℕ → Cell) → List ℕ → State
onwards s own k rest cells places = record s { control = Inside own k rest; cells = below (s.frame + k) cells; hand = None; written = places ++ s.written }

-- with an item more, at depth k
abbrev pub pushed : State → Placed → ℕ → List Stmt → Content → State
pushed s own k rest content = onwards s own (k + 1) rest (write s.cells (s.frame + k) (Held Temporary content)) ((s.frame + k) ∷ [])

-- with a result in hand
abbrev pub handing : State → Placed → ℕ → List Stmt → Content → State
handing s own k rest result = record s { control = Inside own k rest; cells = below (s.frame + k) s.cells; hand = Some result }

-- in the frame of a call of e, at slot n, with the items below depth d left
abbrev pub entering : State → Placed → ℕ → ℕ → ℕ → List Stmt → State
entering s own d n e rest = record s {
  control = At e;
  cells = below (s.frame + d) (write (write s.cells (s.frame + n) (Held Link (Word s.frame))) (s.frame + n + 1) (Held Link (Word (own.places.call (length rest)))));
  frame = s.frame + n;
  hand = None;
  written = (s.frame + n + 1) ∷ ((s.frame + n) ∷ s.written);
}

-- back in the caller's frame
abbrev pub returning : State → Option Content → ℕ → ℕ → State
returning s result c p = record s { control = At c; cells = below s.frame s.cells; frame = p; hand = result }

-- back, by the links of the frame
pub return_goes : (s : State) (result : Option Content) (c p : ℕ) → slot s 1 ≡ Word c → slot s 0 ≡ Word p → return s result ≡ Goes (returning s result c p)
return_goes s result c p e1 e0 = grind arith

-- from a state to another in a step
abbrev pub Moves : Program → State → State → Type 0
Moves program s u = (t : State) × (program_step program s ≡ Goes t) × (settled program t ≡ u)

module _ (program : Program) (s : State) (own : Placed) (rest : List Stmt) where
  moves_to : {u : State} → program_step program s ≡ Goes u → settled program u ≡ u → Moves program s u
  moves_to {u} e h = (u, e, h)

  -- the step is that of the statement
  pub step_at : (k : ℕ) (stmt : Stmt) → s.control ≡ Inside own k (stmt ∷ rest) → program_step program s ≡ step_by program.callables s own k stmt rest
  step_at k stmt e = ap (λ y. program_step_from program s y) e ∙ ap (λ y. step_from program.callables s y) e

  -- a statement that goes on as the state to which it goes
  pub does : {u : State} (k : ℕ) (stmt : Stmt) → s.control ≡ Inside own k (stmt ∷ rest) → step_by program.callables s own k stmt rest ≡ Goes u → settled program u ≡ u → Moves program s u
  does {u} k stmt e g h = (u, step_at k stmt e ∙ g, h)

  -- ---- an item takes the place of one or two
  pub contents_moves : (d a : ℕ) (content : Content) → s.control ≡ Inside own (d + 1) (Monadic Contents ∷ rest) → slot s d ≡ Word a
      → variable_at (s.frame + (d + 1)) s.cells a ≡ Some content → Moves program s (pushed s own d rest content)
  contents_moves d a content e ea ev = moves_to (step_at (d + 1) (Monadic Contents) e ∙ rw (one_off d, ea, ev)) refl

  operates : (d : ℕ) (operator : DyadicOperator) (v w : ℕ) → s.control ≡ Inside own (d + 2) (Dyadic operator ∷ rest) → slot s d ≡ Word v → slot s (d + 1) ≡ Word w
      → program_step program s ≡ operated s own d rest (dyadic_word operator v w)
  operates d operator v w e ev ew = step_at (d + 2) (Dyadic operator) e ∙ rw (two_off d, one_of_two d, ev, ew)

  pub dyadic_moves : (d : ℕ) (operator : DyadicOperator) (v w x : ℕ) → s.control ≡ Inside own (d + 2) (Dyadic operator ∷ rest) → slot s d ≡ Word v → slot s (d + 1) ≡ Word w
      → dyadic_word operator v w ≡ Some x → Moves program s (pushed s own d rest (Word x))
  dyadic_moves d operator v w x e ev ew ex = (_, operates d operator v w e ev ew ∙ ap (operated s own d rest) ex, refl)

  -- a division by zero ends the run
  pub dyadic_ends : (d : ℕ) (operator : DyadicOperator) (v w : ℕ) → s.control ≡ Inside own (d + 2) (Dyadic operator ∷ rest) → slot s d ≡ Word v → slot s (d + 1) ≡ Word w
      → dyadic_word operator v w ≡ None → program_step program s ≡ Ends DivideByZero s
  dyadic_ends d operator v w e ev ew ex = operates d operator v w e ev ew ∙ ap (operated s own d rest) ex

  pub load_byte_moves : (d a i b : ℕ) → s.control ≡ Inside own (d + 2) (LoadByte ∷ rest) → slot s d ≡ Word a → slot s (d + 1) ≡ Word i
      → byte_at (s.frame + (d + 2)) s.cells a i ≡ Some b → Moves program s (pushed s own d rest (Word b))
  load_byte_moves d a i b e ea ei eb = moves_to (step_at (d + 2) LoadByte e ∙ rw (two_off d, one_of_two d, ea, ei, eb)) refl

  -- ---- items are stored
  pub assign_moves : (d : ℕ) (to : Named) → s.control ≡ Inside own (d + 1) (Assign to ∷ rest) → has_word to (s.cells (named_place s own to)) ≡ true
      → Moves program s (onwards s own d rest (write s.cells (named_place s own to) (Held (kind_of (s.cells (named_place s own to))) (slot s d))) (named_place s own to ∷ []))
  assign_moves d to e eh = moves_to (step_at (d + 1) (Assign to) e ∙ rw (eh, one_off d)) refl

  pub assign_at_moves : (d a : ℕ) (content : Content) → s.control ≡ Inside own (d + 2) (AssignAt ∷ rest) → slot s (d + 1) ≡ Word a
      → variable_at (s.frame + (d + 2)) s.cells a ≡ Some content → Moves program s (onwards s own d rest (write s.cells a (Held Variable (slot s d))) (a ∷ []))
  assign_at_moves d a content e ea ev = moves_to (step_at (d + 2) AssignAt e ∙ rw (one_of_two d, two_off d, ea, ev)) refl

  pub assign_byte_moves : (d b a i : ℕ) (content : Content) → s.control ≡ Inside own (d + 3) (AssignByte ∷ rest) → slot s d ≡ Word b → slot s (d + 1) ≡ Word a → slot s (d + 2) ≡ Word i
      → word_with_byte_at (s.frame + (d + 3)) s.cells a i b ≡ Some content
      → Moves program s (onwards s own d rest (write s.cells (word_sum a (byte_distance i)) (Held Variable content)) (word_sum a (byte_distance i) ∷ []))
  assign_byte_moves d b a i content e eb ea ei ec = moves_to (step_at (d + 3) AssignByte e ∙ rw (three_off d, two_of_three d, one_of_three d, eb, ea, ei, ec)) refl

  -- ---- jumps, to where the LAB of the label stands
  pub jump_goes : (k l : ℕ) (to : List Stmt) → from_label own.stmts l ≡ Some to → jump s own k l ≡ Goes (onwards s own k to s.cells [])
  jump_goes k l to el = ap (λ y. on_some y (λ rest. Goes (onwards s own k rest s.cells []))) el

  pub jump_moves : (k l : ℕ) (to : List Stmt) → s.control ≡ Inside own k (Jump l ∷ rest) → from_label own.stmts l ≡ Some to → Moves program s (onwards s own k to s.cells [])
  jump_moves k l to e el = (_, step_at k (Jump l) e ∙ jump_goes k l to el, refl)

  -- JT and JF take the item on top
  jumps_true : (d l w : ℕ) → s.control ≡ Inside own (d + 1) (JumpIf true l ∷ rest) → slot s d ≡ Word w
      → program_step program s ≡ (if w == 0 then Goes (onwards s own d rest s.cells []) else jump s own d l)
  jumps_true d l w e ew = step_at (d + 1) (JumpIf true l) e ∙ rw (one_off d, ew)

  jumps_false : (d l w : ℕ) → s.control ≡ Inside own (d + 1) (JumpIf false l ∷ rest) → slot s d ≡ Word w
      → program_step program s ≡ (if w == 0 then jump s own d l else Goes (onwards s own d rest s.cells []))
  jumps_false d l w e ew = step_at (d + 1) (JumpIf false l) e ∙ rw (one_off d, ew)

  -- they jump where the item has their truth,
  pub taken_moves : (d l w : ℕ) (t : Bool) (to : List Stmt) → s.control ≡ Inside own (d + 1) (JumpIf t l ∷ rest) → slot s d ≡ Word w → (w == 0) ≡ not t → from_label own.stmts l ≡ Some to
      → Moves program s (onwards s own d to s.cells [])
  taken_moves d l w true to e ew et el =
      (_, jumps_true d l w e ew ∙ ap (λ y. if y then Goes (onwards s own d rest s.cells []) else jump s own d l) et ∙ jump_goes d l to el, refl)
  taken_moves d l w false to e ew et el =
      (_, jumps_false d l w e ew ∙ ap (λ y. if y then jump s own d l else Goes (onwards s own d rest s.cells [])) et ∙ jump_goes d l to el, refl)

  -- and else go on
  pub passed_moves : (d l w : ℕ) (t : Bool) → s.control ≡ Inside own (d + 1) (JumpIf t l ∷ rest) → slot s d ≡ Word w → (w == 0) ≡ t → Moves program s (onwards s own d rest s.cells [])
  passed_moves d l w true e ew et =
      (_, jumps_true d l w e ew ∙ ap (λ y. if y then Goes (onwards s own d rest s.cells []) else jump s own d l) et, refl)
  passed_moves d l w false e ew et =
      (_, jumps_false d l w e ew ∙ ap (λ y. if y then jump s own d l else Goes (onwards s own d rest s.cells [])) et, refl)

  pub switch_moves : (d default w : ℕ) (cases : List Case) (to : List Stmt) → s.control ≡ Inside own (d + 1) (Switch default cases ∷ rest) → slot s d ≡ Word w
      → from_label own.stmts (case_label cases default w) ≡ Some to → Moves program s (onwards s own d to s.cells [])
  switch_moves d default w cases to e ew el = (
    _,
    step_at (d + 1) (Switch default cases) e
        ∙ ap (λ y. on_number (slot s y) (λ w. jump s own y (case_label cases default w))) (one_off d)
        ∙ ap (λ y. on_number y (λ w. jump s own d (case_label cases default w))) ew
        ∙ jump_goes d (case_label cases default w) to el,
    refl,
  )

  -- RES jumps with the item in hand
  pub give_result_moves : (d l : ℕ) (to : List Stmt) → s.control ≡ Inside own (d + 1) (GiveResult l ∷ rest) → from_label own.stmts l ≡ Some to → Moves program s (handing s own d to (slot s d))
  give_result_moves d l to e el = moves_to (step_at (d + 1) (GiveResult l) e ∙ rw (one_off d, el)) refl

  -- a LAB goes on behind it
  pub label_step : (k l : ℕ) → s.control ≡ Inside own k (Label l ∷ rest) → program_step program s ≡ Goes (record s { control = Following own l })
  label_step k l e = step_at k (Label l) e

  -- ---- calls and returns
  calls : (d n e : ℕ) → can_be_called program.callables e ≡ true → nat_lt (2 ^ 31 - 65536) (s.frame + n) ≡ false
      → call program.callables s own (d + 1) n e rest ≡ Goes (entering s own d n e rest)
  calls d n e eb el = grind (arith, one_off)

  pub call_step : (of : Bool) (d n e : ℕ) → s.control ≡ Inside own (d + 1) (call_stmt of n ∷ rest) → slot s d ≡ Word e → can_be_called program.callables e ≡ true
      → nat_lt (2 ^ 31 - 65536) (s.frame + n) ≡ false → program_step program s ≡ Goes (entering s own d n e rest)
  call_step of d n e ec ew eb el =
      step_at (d + 1) (call_stmt of n) ec ∙ by_kind of
      ∙ ap (λ y. on_number (slot s y) (λ e. call program.callables s own (d + 1) n e rest)) (one_off d)
      ∙ ap (λ y. on_number y (λ e. call program.callables s own (d + 1) n e rest)) ew
      ∙ calls d n e eb el
    where
      by_kind : (of : Bool) → step_by program.callables s own (d + 1) (call_stmt of n) rest ≡ on_number (slot s (d + 1 - 1)) (λ e. call program.callables s own (d + 1) n e rest)
      by_kind true = refl
      by_kind false = refl

  pub return_item_step : (d c p : ℕ) → s.control ≡ Inside own (d + 1) (ReturnItem ∷ rest) → slot s 1 ≡ Word c → slot s 0 ≡ Word p
      → program_step program s ≡ Goes (returning s (Some (slot s d)) c p)
  return_item_step d c p e e1 e0 = grind (arith, step_at, one_off, return_goes)

  pub return_step : (k c p : ℕ) → s.control ≡ Inside own k (Return ∷ rest) → slot s 1 ≡ Word c → slot s 0 ≡ Word p → program_step program s ≡ Goes (returning s None c p)
  return_step k c p e e1 e0 = step_at k Return e ∙ return_goes s None c p e1 e0

  -- ---- the end of the run
  pub finish_step : (k : ℕ) → s.control ≡ Inside own k (Finish ∷ rest) → program_step program s ≡ Ends (Status (pos 0)) s
  finish_step k e = step_at k Finish e

-- at a routine of the library a state goes on as itself
pub at_routine : (program : Program) (s : State) (n : ℕ) (routine : Routine) → s.control ≡ At n → program.callables.routine n ≡ Some routine → settled program s ≡ s
at_routine program s n routine e er = ap (settled_from program s) e ∙ by_home (n == program.home)
  where
    by_home : (b : Bool) → (if b then s else option_map_or (λ _. s) (program.callables.routine n) (option_map_or (λ t. t) (resumed_in program.sections n s) s)) ≡ s
    by_home true = refl
    by_home false = ap (λ y. option_map_or (λ _. s) y (option_map_or (λ t. t) (resumed_in program.sections n s) s)) er

module _ (program : Program) (s : State) (own : Placed) (rest : List Stmt) where
  -- Behind a LAB, with what is in hand; the depth is that of the text.
  pub label_moves : (k l i : ℕ) → AreFaultless own.stmts → slice_get own.stmts i ≡ Some (Label l) → s.control ≡ Inside own k (Label l ∷ rest)
      → Moves program s (record s { control = Inside own (depth_after 0 (take i own.stmts)) (drop (suc i) own.stmts) })
  label_moves k l i are at e = (record s { control = Following own l }, label_step program s own rest k l e, label_settled program (record s { control = Following own l }) own i l are at refl)

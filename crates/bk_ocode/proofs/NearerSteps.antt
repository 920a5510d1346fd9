-- Each step comes to a rest, or nearer to one.
use Rattle.bk_ocode.proofs.Chosen.{on_number-holds, on_some-holds, if-holds, ◌≡◌, ◌⊎◌, inl, inr, ℕ, suc, ◌+◌, ◌-◌, ◌<◌, ◌≤◌, ◌^◌, ◌==◌, nat_lt, Bool, true, false, List, [], ◌∷◌, length, Option, Some, None, refl, sym, ◌∙◌, ap, subst, arith, if◌then◌else◌, ⊤, Content, variable_at, byte_at, word_with_byte_at, Placed, Callables, Routine, Control, Inside, Following, At, State, Next, Goes, Ends, Wild, is_label, slot, on_some, operated, named_place, has_word, from_label, jump, case_label, can_be_called, call, return, dyadic_word, routine_step, step_by, step_in, step_from, IsAtRest, statements_left, steps_left, StepsComeNearer, Contents, Negate, Not, Stmt, Monadic, Dyadic, LoadByte, Assign, AssignAt, AssignByte, Jump, JumpIf, Label, GiveResult, CallFunction, CallRoutine, ReturnItem, Return, Switch, Finish, EndProcedure, DataLabel, DataNumber, DataAddress, Globals}
use Rattle.bk_ocode.proofs.SoundRests.{steps_are_sound}

abbrev Nearer : ℕ → Next → Type 0
Nearer left (Goes t) = steps_left t.control < left
Nearer left (Ends e t) = ⊤
Nearer left Wild = ⊤

few_left : (rest : List Stmt) → statements_left rest ≤ length rest + 2
few_left [] = omega arith
few_left (Label l ∷ rest) = omega arith
few_left (s ∷ rest) = omega arith

label_left : (l : ℕ) (s : Stmt) (rest : List Stmt) → is_label l s ≡ true → statements_left (s ∷ rest) ≡ 1
label_left l (Label m) rest e = refl
label_left l s rest e = absurd (let h : false ≡ true = e in cc)

from_label-left : (stmts : List Stmt) (l : ℕ) (rest : List Stmt) → from_label stmts l ≡ Some rest → statements_left rest ≡ 1
from_label-left [] l rest e = absurd (let h : None ≡ Some rest = e in cc)
from_label-left (s ∷ stmts) l rest e = by_label (λ z. from_label-left stmts l rest z) (is_label l s) refl e
  where
    by_label : (from_label stmts l ≡ Some rest → statements_left rest ≡ 1) → (b : Bool) → is_label l s ≡ b → (if b then Some (s ∷ stmts) else from_label stmts l) ≡ Some rest → statements_left rest ≡ 1
    by_label go true is e = let same : s ∷ stmts ≡ rest = cc in subst (λ r. statements_left r ≡ 1) same (label_left l s stmts is)
    by_label go false is e = go e

module _ (callables : Callables) (s : State) (own : Placed) (rest : List Stmt) where
  abbrev Near : Next → Type 0
  Near x = Nearer (suc (length rest) + 2) x

  low : statements_left rest < suc (length rest) + 2
  low = let h = few_left rest in omega arith

  jump-near : (k l : ℕ) → Near (jump s own k l)
  jump-near k l = on_some-holds Near tt (from_label own.stmts l) _ (λ r e. let h = from_label-left own.stmts l r e in omega arith)

  operated-near : (n : ℕ) (w : Option ℕ) → Near (operated s own n rest w)
  operated-near n (Some w) = low
  operated-near n None = tt

  call-near : (k n e : ℕ) → Near (call callables s own k n e rest)
  call-near k n e =
      if-holds Near (can_be_called callables e) _ Wild (λ _. if-holds Near (nat_lt (2 ^ 31 - 65536) (s.frame + n)) Wild _ (λ _. tt) (λ _. let h : 1 < suc (length rest) + 2 = omega arith in h)) (λ _. tt)

  return-near : (result : Option Content) → Near (return s result)
  return-near result = on_number-holds Near tt (slot s 1) _ (λ c ec. on_number-holds Near tt (slot s 0) _ (λ p ep. let h : 1 < suc (length rest) + 2 = omega arith in h))

  step-near : (k : ℕ) (c : Stmt) → Nearer (statements_left (c ∷ rest)) (step_by callables s own k c rest)
  step-near k (Label l) = let h : 0 < 1 = omega arith in h
  step-near k (Monadic Contents) = on_number-holds Near tt (slot s (k - 1)) _ (λ a ea. on_some-holds Near tt (variable_at (s.frame + k) s.cells a) _ (λ content ec. low))
  step-near k (Monadic Negate) = on_number-holds Near tt (slot s (k - 1)) _ (λ w ew. low)
  step-near k (Monadic Not) = on_number-holds Near tt (slot s (k - 1)) _ (λ w ew. low)
  step-near k (Dyadic operator) =
      on_number-holds Near tt (slot s (k - 2)) _ (λ v ev. on_number-holds Near tt (slot s (k - 1)) _ (λ w ew. operated-near (k - 2) (dyadic_word operator v w)))
  step-near k LoadByte =
      on_number-holds Near tt (slot s (k - 2)) _ (λ a ea. on_number-holds Near tt (slot s (k - 1)) _ (λ i ei.
      on_some-holds Near tt (byte_at (s.frame + k) s.cells a i) _ (λ b eb. low)))
  step-near k (Assign to) = if-holds Near (has_word to (s.cells (named_place s own to))) _ Wild (λ e. low) (λ _. tt)
  step-near k AssignAt = on_number-holds Near tt (slot s (k - 1)) _ (λ a ea. on_some-holds Near tt (variable_at (s.frame + k) s.cells a) _ (λ old eo. low))
  step-near k AssignByte =
      on_number-holds Near tt (slot s (k - 3)) _ (λ b eb. on_number-holds Near tt (slot s (k - 2)) _ (λ a ea. on_number-holds Near tt (slot s (k - 1)) _ (λ i ei.
      on_some-holds Near tt (word_with_byte_at (s.frame + k) s.cells a i b) _ (λ content ec. low))))
  step-near k (Jump l) = jump-near k l
  step-near k (JumpIf true l) = on_number-holds Near tt (slot s (k - 1)) _ (λ w ew. if-holds Near (w == 0) _ _ (λ _. low) (λ _. jump-near (k - 1) l))
  step-near k (JumpIf false l) = on_number-holds Near tt (slot s (k - 1)) _ (λ w ew. if-holds Near (w == 0) _ _ (λ _. jump-near (k - 1) l) (λ _. low))
  step-near k (GiveResult l) = on_some-holds Near tt (from_label own.stmts l) _ (λ r e. let h = from_label-left own.stmts l r e in omega arith)
  step-near k (CallFunction n) = on_number-holds Near tt (slot s (k - 1)) _ (λ e ee. call-near k n e)
  step-near k (CallRoutine n) = on_number-holds Near tt (slot s (k - 1)) _ (λ e ee. call-near k n e)
  step-near k ReturnItem = return-near _
  step-near k Return = return-near None
  step-near k (Switch default cases) = on_number-holds Near tt (slot s (k - 1)) _ (λ w ew. jump-near (k - 1) (case_label cases default w))
  step-near k Finish = tt
  step-near k EndProcedure = tt
  step-near k (DataLabel l) = tt
  step-near k (DataNumber value) = tt
  step-near k (DataAddress l) = tt
  step-near k (Globals entries) = tt
  step-near k _ = low

step_in-near : (callables : Callables) (s : State) (own : Placed) (k : ℕ) (rest : List Stmt) → Nearer (statements_left rest) (step_in callables s own k rest)
step_in-near callables s own k [] = tt
step_in-near callables s own k (c ∷ rest) = step-near callables s own rest k c

pub steps_come_nearer : StepsComeNearer
steps_come_nearer program first F s t is sound goes = by_control s.control refl
  where
    at_routine : (n : ℕ) → s.control ≡ At n → (o : Option Routine) → program.callables.routine n ≡ o → IsAtRest program.callables t.control
    at_routine n c (Some r) e = (steps_are_sound program first F s t is sound goes).returns n r c e
    at_routine n c None e =
        absurd (let h : Wild ≡ Goes t = sym (ap (λ x. step_from program.callables s x) c ∙ ap (λ (o : Option Routine). on_some o (λ r. routine_step s r)) e) ∙ goes in cc)

    by_control : (c : Control) → s.control ≡ c → IsAtRest program.callables t.control ⊎ (steps_left t.control < steps_left s.control)
    by_control (Inside own k rest) e =
        inr (subst (λ x. steps_left t.control < steps_left x) (sym e) (subst (Nearer (statements_left rest)) (sym (ap (λ x. step_from program.callables s x) e) ∙ goes) (step_in-near program.callables s own k rest)))
    by_control (Following own l) e = absurd (let h : Wild ≡ Goes t = sym (ap (λ x. step_from program.callables s x) e) ∙ goes in cc)
    by_control (At n) e = inl (at_routine n e (program.callables.routine n) refl)

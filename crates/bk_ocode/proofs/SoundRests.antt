-- Each step keeps what the states of a run keep, and so does going on from a rest.
use Rattle.bk_ocode.proofs.Chosen.{on_number-holds, on_some-holds}
use Rattle.bk_ocode.proofs.Depths.{keeps_in, context-depth, depth_after-append, depths_suffice, at_seam, get-append, ◌≡◌, ◌⊎◌, inl, inr, ℕ, zero, suc, ◌+◌, ◌≤◌, Bool, true, false, not, List, [], ◌∷◌, ◌++◌, length, take, slice_get, Option, Some, None, refl, sym, ◌∙◌, ap, subst, arith, append_assoc, word_sum, byte_distance, next_depth, depth_after, least_depth, InRange, may_stand, Context, at_start, after, after_all, context_of, misplaced, AreFaultless, Content, Variable, Temporary, Held, write, byte_at, word_with_byte_at, string_at, Placement, Placed, Routine, Stop, Rdch, Wrch, Newline, Writes, Writen, Writed, Getbyte, Putbyte, Writef, Control, Inside, Following, At, State, Next, Goes, Wild, rest_place, slot, on_some, return, tells, read_byte, routine_step, step_in, step_from, step, Rest, rest_of, or_rest, rests, rests_of, in_hand, kept, resumed_by, resumed, Program, HasFrames, IsProgram, Applies, IsOwn, IsControl, Sound, SoundStep, StepsAreSound, ResumingIsSound, Position, Body, Local, Stmt, Assign, Label, TakeResult, Stack, Entry, Save, CallFunction, CallRoutine, EndProcedure, DataLabel, DataNumber, DataAddress, Globals, Position as position, same_Some, not-false, take-append_seam, take-append-le, slice_get_within}
use Rattle.bk_ocode.proofs.JumpPlaces.{Within}
use Rattle.bk_ocode.proofs.SoundSteps.{byte_there, Running, changed, slot-changes, variable-changes, inside, StaysNext, ReturnsNext, return-returns, step-stays}

-- ---- in a procedure the depth is 2 at least

body_within : (p : Position) → may_stand p Body ≡ true → Within p ≡ true
body_within position.Outside e = e
body_within position.InData e = e
body_within position.Ended e = e
body_within x e = refl

abbrev Deep : Context → Type 0
Deep c = Within c.position ≡ true → 2 ≤ c.depth

body_deep : (c : Context) → Deep c → not (may_stand c.position Body) ≡ false → 2 ≤ c.depth
body_deep c deep placed = deep (body_within c.position (not-false (may_stand c.position Body) placed))

none_within : {A : Type 0} → false ≡ true → A
none_within e = absurd (let h : false ≡ true = e in cc)

deep-after : (c : Context) (s : Stmt) → Deep c → misplaced c s ≡ false → InRange s → least_depth s ≤ c.depth → Deep (after c s)
deep-after c (Entry l name) deep placed range least = λ w. omega arith
deep-after c EndProcedure deep placed range least = λ w. none_within w
deep-after c (DataLabel l) deep placed range least = λ w. none_within w
deep-after c (DataNumber value) deep placed range least = λ w. none_within w
deep-after c (DataAddress l) deep placed range least = λ w. none_within w
deep-after c (Globals entries) deep placed range least = λ w. none_within w
deep-after c (Save n) deep placed range least = λ w. range.0
deep-after c (Stack n) deep placed range least = λ w. range.0
deep-after c (TakeResult n) deep placed range least = λ w. omega (arith, range.0)
deep-after c (CallFunction n) deep placed range least = λ w. omega (arith, range.0)
deep-after c (CallRoutine n) deep placed range least = λ w. range.0
deep-after c (Assign (Local n)) deep placed range least = λ w. omega (arith, range.0, least)
deep-after c x deep placed range least = λ w. omega (arith, body_deep c deep placed, least)

record IsFine (c : Context) (s : Stmt) : Type 0 where
  placed : misplaced c s ≡ false
  range : InRange s
  least : least_depth s ≤ c.depth

deep-all : (c : Context) (stmts : List Stmt) → Deep c → ((k : ℕ) (t : Stmt) → slice_get stmts k ≡ Some t → IsFine (after_all c (take k stmts)) t) → Deep (after_all c stmts)
deep-all c [] deep fine = deep
deep-all c (s ∷ rest) deep fine =
    let f = fine 0 s refl in
    deep-all (after c s) rest (deep-after c s deep f.placed f.range f.least) (λ k t at. fine (suc k) t at)

fine_in : (stmts : List Stmt) → AreFaultless stmts → (k : ℕ) (t : Stmt) → slice_get stmts k ≡ Some t → IsFine (context_of (take k stmts)) t
fine_in stmts are k t at = record {
  placed = (keeps_in (take k stmts) (context_of (take k stmts)) t (are.faultless k t at)).place;
  range = are.in_range k t at;
  least = subst (λ n. least_depth t ≤ n) (sym (context-depth (take k stmts))) (depths_suffice stmts k t are at).0;
}

-- the depth at a LAB
label_deep : (stmts before rest : List Stmt) (l : ℕ) → AreFaultless stmts → stmts ≡ before ++ Label l ∷ rest → 2 ≤ depth_after 0 before
label_deep stmts before rest l are whole =
    let fine : (k : ℕ) (t : Stmt) → slice_get (before ++ Label l ∷ rest) k ≡ Some t → IsFine (context_of (take k (before ++ Label l ∷ rest))) t =
    subst (λ (x : List Stmt). (k : ℕ) (t : Stmt) → slice_get x k ≡ Some t → IsFine (context_of (take k x)) t) whole (fine_in stmts are) in
    let deep : Deep (context_of before) = deep-all at_start before (λ w. none_within w) (λ k t at.
    subst (λ (x : List Stmt). IsFine (context_of x) t) (take-append-le k before (Label l ∷ rest) (omega (arith, slice_get_within before k t at))) (fine k t (get-append before (Label l ∷ rest) k t at))) in
    let own = subst (λ (x : List Stmt). IsFine (context_of x) (Label l)) (take-append_seam before (Label l ∷ rest)) (fine (length before) (Label l) (at_seam before (Label l) rest)) in
    subst (λ n. 2 ≤ n) (context-depth before) (body_deep (context_of before) deep own.placed)

-- ---- rests

abbrev taken_depth : Bool → ℕ → ℕ
taken_depth true depth = depth + 1
taken_depth false depth = depth

record IsFit (stmts : List Stmt) (r : Rest) : Type 0 where
  deep : 2 ≤ r.depth
  applies : Applies stmts (taken_depth r.takes r.depth) r.following

module _ (places : Placement) (stmts : List Stmt) (are : AreFaultless stmts) where
  range_at : (before rest : List Stmt) (c : Stmt) → stmts ≡ before ++ c ∷ rest → InRange c
  range_at before rest c whole = are.in_range (length before) c (ap (λ (l : List Stmt). slice_get l (length before)) whole ∙ at_seam before c rest)

  -- the statements behind one in its place
  following : (before rest : List Stmt) (c : Stmt) → stmts ≡ before ++ c ∷ rest → Applies stmts (next_depth (depth_after 0 before) c) rest
  following before rest c whole = record {
    before = before ++ c ∷ [];
    whole = whole ∙ sym (append_assoc before (c ∷ []) rest);
    same_depth = inl (sym (depth_after-append 0 before (c ∷ [])));
  }

  rest_fits : (before rest : List Stmt) (c : Stmt) (r : Rest) → stmts ≡ before ++ c ∷ rest → rest_of places (depth_after 0 before) c rest ≡ Some r → IsFit stmts r
  rest_fits before rest (Entry l name) r whole is =
      subst (IsFit stmts) (same_Some _ r is)
      (record { deep = omega arith; applies = record { before = before; whole = whole; same_depth = inr tt } })
  rest_fits before rest (Label l) r whole is =
      subst (IsFit stmts) (same_Some _ r is) (record { deep = label_deep stmts before rest l are whole; applies = following before rest (Label l) whole })
  rest_fits before rest (CallFunction n) r whole is =
      subst (IsFit stmts) (same_Some _ r is) (record { deep = (range_at before rest (CallFunction n) whole).0; applies = following before rest (CallFunction n) whole })
  rest_fits before rest (CallRoutine n) r whole is =
      subst (IsFit stmts) (same_Some _ r is) (record { deep = (range_at before rest (CallRoutine n) whole).0; applies = following before rest (CallRoutine n) whole })
  rest_fits before rest c r whole is = absurd (let h : None ≡ Some r = is in cc)

  rests_fit : (rest before : List Stmt) (j : ℕ) (r : Rest) → stmts ≡ before ++ rest → slice_get (rests places (depth_after 0 before) rest) j ≡ Some r → IsFit stmts r
  rests_fit [] before j r whole at = absurd (let h : None ≡ Some r = at in cc)
  rests_fit (c ∷ rest) before j r whole at = by_rest (rest_of places (depth_after 0 before) c rest) refl j at
      (λ i z. rests_fit rest (before ++ c ∷ []) i r (whole ∙ sym (append_assoc before (c ∷ []) rest))
      (subst (λ n. slice_get (rests places n rest) i ≡ Some r) (sym (depth_after-append 0 before (c ∷ []))) z))
    where
      by_rest : (o : Option Rest) → rest_of places (depth_after 0 before) c rest ≡ o → (j : ℕ) → slice_get (or_rest o (rests places (next_depth (depth_after 0 before) c) rest)) j ≡ Some r →
          ((i : ℕ) → slice_get (rests places (next_depth (depth_after 0 before) c) rest) i ≡ Some r → IsFit stmts r) → IsFit stmts r
      by_rest None is j at go = go j at
      by_rest (Some q) is zero at go = rest_fits before rest c r whole (is ∙ at)
      by_rest (Some q) is (suc j) at go = go j at

-- ---- states

module _ (program : Program) (first F : ℕ) (is : IsProgram program first F) where
  running : (s : State) → Sound program first F s → (d : ℕ) → HasFrames program first F s.cells s.frame d → Running program first F s.cells s.frame s.written
  running s sound d frames = record { count = d; frames = frames; held = sound.held; stored = sound.written }

  abbrev routine_apart : (i j : ℕ) (own : Placed) (r : Rest) → slice_get program.sections i ≡ Some own → slice_get (rests_of own) j ≡ Some r → program.callables.routine r.place ≡ None
  routine_apart i j own r at in_rests = (is.rests_apart i j own r at in_rests).0

  module _ (s : State) (run : Running program first F s.cells s.frame s.written) where
    back : (u : State) → Running program first F u.cells u.frame u.written → (result : Option Content) → ReturnsNext program first F is.accepted is.depths routine_apart is.home_apart is.above_globals s run u.frame (return u result)
    back u kept result = return-returns program first F is.accepted is.depths routine_apart is.home_apart is.above_globals s run u kept result

    abbrev Back : Next → Type 0
    Back x = ReturnsNext program first F is.accepted is.depths routine_apart is.home_apart is.above_globals s run s.frame x

    tells-back : (bytes : List ℕ) → Back (tells s bytes)
    tells-back bytes = back (record s { output = s.output ++ bytes }) run None

    read-back : (input : List ℕ) → Back (read_byte input s)
    read-back [] = back s run _
    read-back (b ∷ rest) = back (record s { input = rest }) run _

    routine-back : (r : Routine) → Back (routine_step s r)
    routine-back Stop = on_number-holds Back tt (slot s 2) _ (λ n en. tt)
    routine-back Rdch = read-back s.input
    routine-back Wrch = on_number-holds Back tt (slot s 2) _ (λ b eb. tells-back _)
    routine-back Newline = tells-back _
    routine-back Writes = on_number-holds Back tt (slot s 2) _ (λ a ea. on_some-holds Back tt (string_at s.frame s.cells a) _ (λ bytes eb. tells-back bytes))
    routine-back Writen = on_number-holds Back tt (slot s 2) _ (λ n en. tells-back _)
    routine-back Writed = on_number-holds Back tt (slot s 2) _ (λ n en. on_number-holds Back tt (slot s 3) _ (λ w ew. tells-back _))
    routine-back Getbyte =
        on_number-holds Back tt (slot s 2) _ (λ a ea. on_number-holds Back tt (slot s 3) _ (λ i ei.
        on_some-holds Back tt (byte_at s.frame s.cells a i) _ (λ b eb. back s run _)))
    routine-back Putbyte =
        on_number-holds Back tt (slot s 2) _ (λ a ea. on_number-holds Back tt (slot s 3) _ (λ i ei. on_number-holds Back tt (slot s 4) _ (λ b eb.
        on_some-holds Back tt (word_with_byte_at s.frame s.cells a i b) _ (λ content ec.
        let place = word_sum a (byte_distance i) in
        let old = byte_there s.frame s.cells a i b content ec in
        back (record s { cells = write s.cells (word_sum a (byte_distance i)) (Held Variable content); written = word_sum a (byte_distance i) ∷ s.written })
        (changed program first F s.cells (write s.cells (word_sum a (byte_distance i)) (Held Variable content)) s.frame s.written (word_sum a (byte_distance i) ∷ []) run
        (variable-changes program first F s.cells s.frame s.written run (word_sum a (byte_distance i)) (Held Variable content) old.0 old.1)) None))))
    routine-back Writef =
        on_number-holds Back tt (slot s 2) _ (λ f ef. on_some-holds Back tt (string_at s.frame s.cells f) _ (λ format eo.
        on_some-holds Back tt _ _ (λ bytes eb. tells-back bytes)))

    abbrev Kept : Next → Type 0
    Kept x = StaysNext program first F s.frame x

    step_in-kept : (own : Placed) (k : ℕ) (rest : List Stmt) → IsOwn program own → 2 ≤ k → Applies own.stmts k rest → Kept (step_in program.callables s own k rest)
    step_in-kept own k [] is_own deep applies = tt
    step_in-kept own k (c ∷ rest) is_own deep applies =
        step-stays program first F is.accepted is.depths routine_apart is.home_apart is.above_globals s run own is_own k c rest deep applies

  step-sound : (s t : State) → Sound program first F s → step program.callables s ≡ Goes t → SoundStep program first F s t
  step-sound s t sound goes = by_control s.control refl sound.control sound.active
    where
      at_routine : (n : ℕ) → s.control ≡ At n → (d : ℕ) → HasFrames program first F s.cells s.frame d → (o : Option Routine) → program.callables.routine n ≡ o → SoundStep program first F s t
      at_routine n c d frames None e = absurd (let h : Wild ≡ Goes t = sym (ap (λ x. step_from program.callables s x) c ∙ ap (λ (o : Option Routine). on_some o (λ r. routine_step s r)) e) ∙ goes in cc)
      at_routine n c d frames (Some r) e =
          let run = running s sound d frames in
          let z : routine_step s r ≡ Goes t = sym (ap (λ x. step_from program.callables s x) c ∙ ap (λ (o : Option Routine). on_some o (λ q. routine_step s q)) e) ∙ goes in
          let h = subst (λ x. ReturnsNext program first F is.accepted is.depths routine_apart is.home_apart is.above_globals s run s.frame x) z (routine-back s run r) in
          record { sound = h.stays.sound; near = h.stays.near; same_frame = h.stays.same_frame; returns = λ place routine at found. h.at_rest }

      by_control : (c : Control) → s.control ≡ c → IsControl program c → ((d : ℕ) × HasFrames program first F s.cells s.frame d) ⊎ ((s.control ≡ At program.home) × (s.frame ≡ first)) → SoundStep program first F s t
      by_control c e control (inr over) =
          absurd (let h : Wild ≡ Goes t = sym (ap (λ x. step_from program.callables s x) over.0 ∙ ap (λ (o : Option Routine). on_some o (λ q. routine_step s q)) is.home_apart) ∙ goes in cc)
      by_control (Inside own k rest) e control (inl live) =
          let run = running s sound live.0 live.1 in
          let z : step_in program.callables s own k rest ≡ Goes t = sym (ap (λ x. step_from program.callables s x) e) ∙ goes in
          let h = subst (λ x. StaysNext program first F s.frame x) z (step_in-kept s run own k rest control.0 control.1 control.2) in
          record { sound = h.sound; near = h.near; same_frame = h.same_frame; returns = λ place routine at found. absurd (let h : Inside own k rest ≡ At place = sym e ∙ at in cc) }
      by_control (Following own l) e control (inl live) = absurd (let h : Wild ≡ Goes t = sym (ap (λ x. step_from program.callables s x) e) ∙ goes in cc)
      by_control (At n) e control (inl live) = at_routine n e live.0 live.1 (program.callables.routine n) refl

  resumed-sound : (s : State) (own : Placed) (i j : ℕ) (r : Rest) → Sound program first F s → slice_get program.sections i ≡ Some own → slice_get (rests_of own) j ≡ Some r →
      rest_place s.control ≡ Some r.place → Sound program first F (resumed own r s)
  resumed-sound s own i j r sound at in_rests place = by_active sound.active
    where
      by_takes : (run : Running program first F s.cells s.frame s.written) (b : Bool) → Applies own.stmts (taken_depth b r.depth) r.following → 2 ≤ r.depth → Sound program first F (resumed_by b own r s)
      by_takes run true applies deep =
          (inside program first F s.frame (resumed_by true own r s) own (r.depth + 1) r.following (i, at) (omega (arith, deep)) applies
          (changed program first F s.cells (write s.cells (s.frame + r.depth) (Held Temporary (in_hand s.hand))) s.frame s.written ((s.frame + r.depth) ∷ []) run
          (slot-changes program first F s.cells s.frame s.written run r.depth (Held Temporary (in_hand s.hand)) deep)) refl refl).sound
      by_takes run false applies deep =
          (inside program first F s.frame (resumed_by false own r s) own r.depth r.following (i, at) deep applies run refl refl).sound

      by_active : ((d : ℕ) × HasFrames program first F s.cells s.frame d) ⊎ ((s.control ≡ At program.home) × (s.frame ≡ first)) → Sound program first F (resumed own r s)
      by_active (inl live) =
          let fit = rests_fit own.places own.stmts (is.accepted i own at) own.stmts [] j r refl in_rests in
          by_takes (running s sound live.0 live.1) r.takes fit.applies fit.deep
      by_active (inr over) = absurd ((is.rests_apart i j own r at in_rests).1 (let h : Some program.home ≡ Some r.place = sym (ap rest_place over.0) ∙ place in cc))

pub steps_are_sound : StepsAreSound
steps_are_sound program first F s t is sound goes = step-sound program first F is s t sound goes

pub resuming_is_sound : ResumingIsSound
resuming_is_sound program first F s own i j r is sound at in_rests place = resumed-sound program first F is s own i j r sound at in_rests place

-- What the states of a run keep is kept by each step, and by going on from a rest.
use Rattle.bk_ocode.specs.declared.stmt.Variable.{Variable as Named}
use Rattle.bk_ocode.proofs.Chosen.{below-kept, write-kept, write-there, settle-kept, on_number-holds, on_some-holds, if-holds, ◌≡◌, ◌⊎◌, inl, inr, ℕ, zero, suc, ◌+◌, ◌-◌, ◌<◌, ◌≤◌, ◌^◌, ◌==◌, nat_lt, Bool, true, false, List, [], ◌∷◌, ◌++◌, length, take, slice_get, Option, Some, None, refl, sym, ◌∙◌, ap, subst, arith, eqb-true, eq-eqb, le-leb, nat_le, ◌&&◌, ◌||◌, if◌then◌else◌, append_assoc, ⊤, ◌%◌, option_map, word_sum, byte_distance, byte_place, FRAME_WORDS, GLOBAL_NUMBER, next_depth, depth_after, largest_after, largest_depth, least_depth, assign_depth, InRange, AreFaultless, Content, Word, Variable, Temporary, Link, Cell, Held, content_of, with_byte, write, below, settle, variable_in, variable_at, number_in, byte_at, word_with_byte_at, Placement, Placed, Inside, At, State, Next, Goes, Ends, Wild, global_place, is_label, slot, on, push, operated, named_place, has_word, from_label, jump, jump_with, case_label, can_be_called, call, return, dyadic_word, step_by, Rest, rest_of, or_rest, rests, rests_of, IsAtRest, Program, is_datum, all_data, HasFrames, start, called, IsHeld, is_usable, IsOpening, Applies, IsOwn, IsControl, Sound, Local, Global, Static, Contents, Negate, Not, Stmt, Number, True, False, Query, Load, Address, Text, Monadic, Dyadic, LoadByte, Assign, AssignAt, AssignByte, Jump, JumpIf, Label, GiveResult, TakeResult, Stack, Store, Entry, Save, CallFunction, CallRoutine, ReturnItem, Return, Switch, Finish, take-append_seam}
use Rattle.bk_ocode.proofs.Depths.{depth_after-append, depths_suffice, at_seam}

-- ---- a statement in its place

largest_at : (k : ℕ) (before rest : List Stmt) (s : Stmt) → next_depth (depth_after k before) s ≤ largest_after k (before ++ s ∷ rest)
largest_at k [] rest s = omega arith
largest_at k (t ∷ before) rest s = omega (arith, largest_at (next_depth k t) before rest s)

pub record Here (stmts : List Stmt) (k : ℕ) (s : Stmt) (rest : List Stmt) : Type 0 where
  pub range : InRange s
  pub least : least_depth s ≤ k
  pub most : next_depth k s ≤ FRAME_WORDS
  pub largest : next_depth k s ≤ largest_depth stmts
  pub next : Applies stmts (next_depth k s) rest
  pub before : List Stmt
  pub whole : stmts ≡ before ++ s ∷ rest
  pub depth : k ≡ depth_after 0 before

here : (stmts : List Stmt) (k : ℕ) (s : Stmt) (rest : List Stmt) → AreFaultless stmts → Applies stmts k (s ∷ rest) → (IsOpening (s ∷ rest) → ⊥) → Here stmts k s rest
here stmts k s rest are applies other =
    let before = applies.before in
    let depth : k ≡ depth_after 0 before = by_depth applies.same_depth in
    let at : slice_get stmts (length before) ≡ Some s = ap (λ (l : List Stmt). slice_get l (length before)) applies.whole ∙ at_seam before s rest in
    let d = depths_suffice stmts (length before) s are at in
    let same : depth_after 0 (take (length before) stmts) ≡ k =
    ap (depth_after 0) (ap (take (length before)) applies.whole ∙ take-append_seam before (s ∷ rest)) ∙ sym depth in
    record {
      range = are.in_range (length before) s at;
      least = subst (λ n. least_depth s ≤ n) same d.0;
      most = subst (λ n. next_depth n s ≤ FRAME_WORDS) same d.1;
      largest = subst (λ n. next_depth n s ≤ largest_depth stmts) (sym depth) (subst (λ (l : List Stmt). next_depth (depth_after 0 before) s ≤ largest_depth l) (sym applies.whole) (largest_at 0 before rest s));
      next = record {
        before = before ++ s ∷ [];
        whole = applies.whole ∙ sym (append_assoc before (s ∷ []) rest);
        same_depth = inl (ap (λ n. next_depth n s) depth ∙ sym (depth_after-append 0 before (s ∷ [])));
      };
      before = before;
      whole = applies.whole;
      depth = depth;
    }
  where
    by_depth : (k ≡ depth_after 0 applies.before) ⊎ IsOpening (s ∷ rest) → k ≡ depth_after 0 applies.before
    by_depth (inl e) = e
    by_depth (inr o) = absurd (other o)

-- where a jump goes on
found_by : (l : ℕ) (s : Stmt) (rest : List Stmt) → is_label l s ≡ true → IsOpening (s ∷ rest)
found_by l (Label m) rest e = tt
found_by l (Entry m name) rest e = tt
found_by l _ rest e = absurd (let h : false ≡ true = e in cc)

record Found (stmts : List Stmt) (rest : List Stmt) : Type 0 where
  before : List Stmt
  whole : stmts ≡ before ++ rest
  opening : IsOpening rest

from_label-found : (stmts : List Stmt) (l : ℕ) (rest : List Stmt) → from_label stmts l ≡ Some rest → Found stmts rest
from_label-found [] l rest e = absurd (let h : None ≡ Some rest = e in cc)
from_label-found (s ∷ stmts) l rest e = by_label (λ z. from_label-found stmts l rest z) (is_label l s) refl e
  where
    by_label : (from_label stmts l ≡ Some rest → Found stmts rest) → (b : Bool) → is_label l s ≡ b → (if b then Some (s ∷ stmts) else from_label stmts l) ≡ Some rest → Found (s ∷ stmts) rest
    by_label go true is e = let same : s ∷ stmts ≡ rest = cc in record { before = []; whole = same; opening = subst IsOpening same (found_by l s stmts is) }
    by_label go false is e = let f = go e in record { before = s ∷ f.before; whole = ap (λ (x : List Stmt). s ∷ x) f.whole; opening = f.opening }

-- the rest at a statement is among those of the section
more_rests : (o : Option Rest) (rs : List Rest) (j : ℕ) (r : Rest) → slice_get rs j ≡ Some r → (i : ℕ) × (slice_get (or_rest o rs) i ≡ Some r)
more_rests None rs j r at = (j, at)
more_rests (Some q) rs j r at = (suc j, at)

rest_at : (places : Placement) (k : ℕ) (before rest : List Stmt) (s : Stmt) (r : Rest) → rest_of places (depth_after k before) s rest ≡ Some r →
    (i : ℕ) × (slice_get (rests places k (before ++ s ∷ rest)) i ≡ Some r)
rest_at places k [] rest s r is = (0, ap (λ o. slice_get (or_rest o (rests places (next_depth k s) rest)) 0) is)
rest_at places k (t ∷ before) rest s r is =
    let more = rest_at places (next_depth k t) before rest s r is in
    more_rests (rest_of places k t (before ++ s ∷ rest)) (rests places (next_depth k t) (before ++ s ∷ rest)) more.0 r more.1

-- a variable that is found
variable_found : (cell : Cell) (content : Content) → variable_in cell ≡ Some content → cell ≡ Held Variable content
variable_found (Held Variable c) content e = let same : c ≡ content = cc in ap (λ (x : Content). Held Variable x) same
variable_found y content e = absurd (let h : None ≡ Some content = e in cc)

variable_there : (top : ℕ) (cells : ℕ → Cell) (a : ℕ) (content : Content) → variable_at top cells a ≡ Some content → cells a ≡ Held Variable content
variable_there top cells a content e = grind (arith, variable_found)

pub mapped : {A B : Type 0} → (f : A → B) (o : Option A) (y : B) → option_map f o ≡ Some y → (x : A) × (o ≡ Some x) × (f x ≡ y)
mapped f (Some x) y e = (x, refl, (let h : Some (f x) ≡ Some y = e in cc))
mapped f None y e = absurd (let h : None ≡ Some y = e in cc)

pub byte_there : (top : ℕ) (cells : ℕ → Cell) (a i b : ℕ) (content : Content) → word_with_byte_at top cells a i b ≡ Some content →
    (old : Content) × (cells (word_sum a (byte_distance i)) ≡ Held Variable old)
byte_there top cells a i b content e =
    let old = mapped (λ (c : Content). with_byte c (byte_place i) (b % 256)) (variable_at top cells (word_sum a (byte_distance i))) content e in
    (old.0, variable_there top cells (word_sum a (byte_distance i)) old.0 old.1)

-- the cells behind a call
abbrev once_called : (ℕ → Cell) → ℕ → ℕ → ℕ → Cell
once_called cells frame n = write cells (frame + n) (Held Link (Word frame))

abbrev called_cells : (ℕ → Cell) → ℕ → ℕ → ℕ → ℕ → ℕ → Cell
called_cells cells frame k n back = below (frame + (k - 1)) (write (once_called cells frame n) (frame + n + 1) (Held Link (Word back)))

called-other : (cells : ℕ → Cell) (frame k n back x : ℕ) → x < frame + n → n + 3 ≤ k → called_cells cells frame k n back x ≡ cells x
called-other cells frame k n back x under room = grind (arith, below-kept, write-kept)

called-here : (cells : ℕ → Cell) (frame k n back : ℕ) → n + 3 ≤ k → called_cells cells frame k n back (frame + n) ≡ Held Link (Word frame)
called-here cells frame k n back room = grind (arith, below-kept, write-kept, write-there)

called-next : (cells : ℕ → Cell) (frame k n back : ℕ) → n + 3 ≤ k → called_cells cells frame k n back (suc (frame + n)) ≡ Held Link (Word back)
called-next cells frame k n back room =
    below-kept (frame + (k - 1)) (write (once_called cells frame n) (frame + n + 1) (Held Link (Word back))) (suc (frame + n)) (omega (arith, room))
    ∙ write-there (once_called cells frame n) (frame + n + 1) (Held Link (Word back)) (suc (frame + n)) (omega arith)

-- ---- what changes

module _ (program : Program) (first F : ℕ) where
  abbrev usable : ℕ → Type 0
  usable place = is_usable program place ≡ true

  -- the frames, and what is in use and was written below the first
  pub record Running (cells : ℕ → Cell) (frame : ℕ) (written : List ℕ) : Type 0 where
    pub count : ℕ
    pub frames : HasFrames program first F cells frame count
    pub held : (place : ℕ) → place < first → IsHeld (cells place) → usable place
    pub stored : (i place : ℕ) → slice_get written i ≡ Some place → place < first → usable place

  -- new cells keep the links of the frames below a top, and only usable words are in use below the first frame; these places
  -- were written
  pub record Changes (cells new : ℕ → Cell) (top : ℕ) (places : List ℕ) : Type 0 where
    pub links : (x w : ℕ) → first ≤ x → x < top → cells x ≡ Held Link (Word w) → new x ≡ Held Link (Word w)
    pub held : (x : ℕ) → x < first → IsHeld (new x) → usable x
    pub stored : (i x : ℕ) → slice_get places i ≡ Some x → x < first → usable x

  pub frames-from : (cells : ℕ → Cell) (frame d : ℕ) → HasFrames program first F cells frame d → first ≤ frame
  frames-from cells frame d (start a b) = omega arith
  frames-from cells frame d (called caller frame2 back d2 a b r low high below) = let h = frames-from cells caller d2 below in omega arith

  frames-kept : (cells new : ℕ → Cell) (top frame d : ℕ) → ((x w : ℕ) → first ≤ x → x < top → cells x ≡ Held Link (Word w) → new x ≡ Held Link (Word w)) → frame + 2 ≤ top →
      HasFrames program first F cells frame d → HasFrames program first F new frame d
  frames-kept cells new top frame d links le (start a b) = start (links first first (omega arith) (omega (arith, le)) a) (links (suc first) program.home (omega arith) (omega (arith, le)) b)
  frames-kept cells new top frame d links le (called caller frame2 back d2 a b r low high below) =
      let from = frames-from cells caller d2 below in
      called caller frame2 back d2 (links frame2 caller (omega (arith, from, low)) (omega (arith, le)) a) (links (suc frame2) back (omega (arith, from, low)) (omega (arith, le)) b) r low high
      (frames-kept cells new top caller d2 links (omega (arith, low, le)) below)

  places_more : (places written : List ℕ) → ((i x : ℕ) → slice_get places i ≡ Some x → x < first → usable x) → ((i x : ℕ) → slice_get written i ≡ Some x → x < first → usable x) →
      (i x : ℕ) → slice_get (places ++ written) i ≡ Some x → x < first → usable x
  places_more [] written p q i x at low = q i x at low
  places_more (y ∷ places) written p q zero x at low = p 0 x at low
  places_more (y ∷ places) written p q (suc i) x at low = places_more places written (λ j z. p (suc j) z) q i x at low

  pub changed : (cells new : ℕ → Cell) (frame : ℕ) (written places : List ℕ) → Running cells frame written → Changes cells new (frame + 2) places → Running new frame (places ++ written)
  changed cells new frame written places run c = record {
    count = run.count;
    frames = frames-kept cells new (frame + 2) frame run.count c.links (omega arith) run.frames;
    held = c.held;
    stored = places_more places written c.stored run.stored;
  }

  none_written : (i x : ℕ) → slice_get ([]) i ≡ Some x → x < first → usable x
  none_written i x at low = absurd (let h : None ≡ Some x = at in cc)

  one_written : (place : ℕ) → (place < first → usable place) → (i x : ℕ) → slice_get (place ∷ []) i ≡ Some x → x < first → usable x
  one_written place is zero x at low = let same : place ≡ x = (let h : Some place ≡ Some x = at in cc) in subst usable same (is (omega (arith, same, low)))
  one_written place is (suc i) x at low = none_written i x at low

  module _ (cells : ℕ → Cell) (frame : ℕ) (written : List ℕ) (run : Running cells frame written) where
    abbrev from : first ≤ frame
    from = frames-from cells frame run.count run.frames

    pub same-changes : Changes cells cells (frame + 2) []
    same-changes = record { links = λ x w low high e. e; held = run.held; stored = none_written }

    -- a slot of the frame, above its links
    pub slot-changes : (n : ℕ) (cell : Cell) → 2 ≤ n → Changes cells (write cells (frame + n) cell) (frame + 2) ((frame + n) ∷ [])
    slot-changes n cell le = let f : first ≤ frame = from in record {
      links = λ x w low high e. write-kept cells (frame + n) cell x (λ same. absurd (omega (arith, same, high, le))) ∙ e;
      held = λ x low h. run.held x low (subst IsHeld (write-kept cells (frame + n) cell x (λ same. absurd (omega (arith, same, low, f)))) h);
      stored = one_written (frame + n) (λ low. absurd (omega (arith, low, f)));
    }

    -- a word that may be in use, and is no link
    at_place : (x a : ℕ) (cell : Cell) → usable a → IsHeld (write cells a cell x) → x < first → usable x
    at_place x a cell is h low = by_same (x == a) refl
      where
        by_same : (b : Bool) → (x == a) ≡ b → usable x
        by_same true e = subst usable (sym (eqb-true x a e)) is
        by_same false e = run.held x low (subst IsHeld (write-kept cells a cell x (λ same. absurd (let z : true ≡ false = sym (eq-eqb x a same) ∙ e in cc))) h)

    pub variable-changes : (a : ℕ) (cell : Cell) (old : Content) → cells a ≡ Held Variable old → Changes cells (write cells a cell) (frame + 2) (a ∷ [])
    variable-changes a cell old is = record {
      links = λ x w low high e. write-kept cells a cell x (λ same. absurd (let z : Held Variable old ≡ Held Link (Word w) = sym is ∙ ap cells (sym same) ∙ e in cc)) ∙ e;
      held = λ x low h. by_same x low h (x == a) refl;
      stored = one_written a (λ low. run.held a low (subst IsHeld (sym is) tt));
    }
      where
        by_same : (x : ℕ) → x < first → IsHeld (write cells a cell x) → (b : Bool) → (x == a) ≡ b → usable x
        by_same x low h true e = run.held x low (subst IsHeld (sym (ap cells (eqb-true x a e) ∙ is)) tt)
        by_same x low h false e = run.held x low (subst IsHeld (write-kept cells a cell x (λ same. absurd (let z : true ≡ false = sym (eq-eqb x a same) ∙ e in cc))) h)

    pub global-changes : (a : ℕ) (cell : Cell) → a < first → usable a → Changes cells (write cells a cell) (frame + 2) (a ∷ [])
    global-changes a cell low_a is = record {
      links = λ x w low high e. write-kept cells a cell x (λ same. absurd (omega (arith, same, low, low_a))) ∙ e;
      held = λ x low h. at_place x a cell is h low;
      stored = one_written a (λ low. is);
    }

    pub settle-changes : (n top : ℕ) → 2 ≤ n → Changes cells (settle (frame + n) top cells) (frame + 2) []
    settle-changes n top le = let f : first ≤ frame = from in record {
      links = λ x w low high e. settle-kept (frame + n) top cells x (omega (arith, high, le)) ∙ e;
      held = λ x low h. run.held x low (subst IsHeld (settle-kept (frame + n) top cells x (omega (arith, low, f))) h);
      stored = none_written;
    }

    -- what lies above a depth is no longer in use
    pub below-changes : (new : ℕ → Cell) (places : List ℕ) (k : ℕ) → 2 ≤ k → Changes cells new (frame + 2) places → Changes cells (below (frame + k) new) (frame + 2) places
    below-changes new places k le c = let f : first ≤ frame = from in record {
      links = λ x w low high e. below-kept (frame + k) new x (omega (arith, high, le)) ∙ c.links x w low high e;
      held = λ x low h. c.held x low (subst IsHeld (below-kept (frame + k) new x (omega (arith, low, f))) h);
      stored = c.stored;
    }

  -- ---- steps

  -- what a step of a procedure keeps
  pub record Stays (frame : ℕ) (t : State) : Type 0 where
    pub sound : Sound program first F t
    pub near : t.frame ≤ frame + FRAME_WORDS
    pub same_frame : (own : Placed) (depth : ℕ) (rest : List Stmt) → t.control ≡ Inside own depth rest → t.frame ≡ frame

  abbrev pub StaysNext : ℕ → Next → Type 0
  StaysNext frame (Goes t) = Stays frame t
  StaysNext frame (Ends e t) = ⊤
  StaysNext frame Wild = ⊤

  -- a global may be in use
  pub global_usable : (n : ℕ) → n ≤ GLOBAL_NUMBER → usable (global_place n)
  global_usable n le =
      ap (λ b. (b && nat_le (global_place n) (global_place GLOBAL_NUMBER)) || is_datum (global_place n) (all_data program.sections)) (le-leb (global_place 0) (global_place n) (omega arith))
      ∙ ap (λ b. b || is_datum (global_place n) (all_data program.sections)) (le-leb (global_place n) (global_place GLOBAL_NUMBER) (omega (arith, le)))

  static_word : (l : ℕ) (cell : Cell) → has_word (Static l) cell ≡ true → (old : Content) × (cell ≡ Held Variable old)
  static_word l (Held Variable c) e = (c, refl)
  static_word l x e = absurd (let h : false ≡ true = e in cc)

  -- a step in a procedure that goes on in it
  pub inside : (frame : ℕ) (t : State) (own : Placed) (k : ℕ) (rest : List Stmt) → IsOwn program own → 2 ≤ k → Applies own.stmts k rest →
      Running t.cells t.frame t.written → t.control ≡ Inside own k rest → t.frame ≡ frame → Stays frame t
  inside frame t own k rest is_own deep applies run at same = record {
    sound = record {
      from_first = frames-from t.cells t.frame run.count run.frames;
      control = subst (IsControl program) (sym at) (is_own, deep, applies);
      active = inl (run.count, run.frames);
      held = run.held;
      written = run.stored;
    };
    near = omega (arith, same);
    same_frame = λ own2 depth rest2 z. same;
  }

  module _ (accepted : (i : ℕ) (own : Placed) → slice_get program.sections i ≡ Some own → AreFaultless own.stmts)
      (depths : (i : ℕ) (own : Placed) → slice_get program.sections i ≡ Some own → largest_depth own.stmts ≤ F)
      (apart : (i j : ℕ) (own : Placed) (r : Rest) → slice_get program.sections i ≡ Some own → slice_get (rests_of own) j ≡ Some r → program.callables.routine r.place ≡ None)
      (home_apart : program.callables.routine program.home ≡ None) (above : global_place GLOBAL_NUMBER < first)
      (s : State) (run : Running s.cells s.frame s.written) where
    module _ (own : Placed) (is_own : IsOwn program own) where
      on-stays : (k : ℕ) (rest : List Stmt) (new : ℕ → Cell) (places : List ℕ) → 2 ≤ k → Applies own.stmts k rest → Changes s.cells new (s.frame + 2) places →
          StaysNext s.frame (on s own k rest new places)
      on-stays k rest new places deep applies c =
          inside s.frame (record s { control = Inside own k rest; cells = below (s.frame + k) new; hand = None; written = places ++ s.written }) own k rest is_own deep applies
          (changed s.cells (below (s.frame + k) new) s.frame s.written places run (below-changes s.cells s.frame s.written run new places k deep c)) refl refl

      push-stays : (k : ℕ) (rest : List Stmt) (content : Content) → 2 ≤ k → Applies own.stmts (k + 1) rest → StaysNext s.frame (push s own k rest content)
      push-stays k rest content deep applies =
          on-stays (k + 1) rest (write s.cells (s.frame + k) (Held Temporary content)) ((s.frame + k) ∷ []) (omega (arith, deep)) applies
          (slot-changes s.cells s.frame s.written run k (Held Temporary content) deep)

      -- a jump
      jump-stays : (k l : ℕ) → 2 ≤ k → StaysNext s.frame (jump s own k l)
      jump-stays k l deep = on_some-holds (StaysNext s.frame) tt (from_label own.stmts l) _ (λ rest e.
          let f = from_label-found own.stmts l rest e in
          on-stays k rest s.cells [] deep (record { before = f.before; whole = f.whole; same_depth = inr f.opening }) (same-changes s.cells s.frame s.written run))

      jump_with-stays : (k l : ℕ) (result : Content) → 2 ≤ k → StaysNext s.frame (jump_with s own k l result)
      jump_with-stays k l result deep = on_some-holds (StaysNext s.frame) tt (from_label own.stmts l) _ (λ rest e.
          let f = from_label-found own.stmts l rest e in
          inside s.frame (record s { control = Inside own k rest; cells = below (s.frame + k) s.cells; hand = Some result }) own k rest is_own deep
          (record { before = f.before; whole = f.whole; same_depth = inr f.opening })
          (changed s.cells (below (s.frame + k) s.cells) s.frame s.written [] run (below-changes s.cells s.frame s.written run s.cells [] k deep (same-changes s.cells s.frame s.written run))) refl refl)

      operated-stays : (n : ℕ) (rest : List Stmt) (w : Option ℕ) → 2 ≤ n → Applies own.stmts (n + 1) rest → StaysNext s.frame (operated s own n rest w)
      operated-stays n rest (Some w) deep applies = push-stays n rest (Word w) deep applies
      operated-stays n rest None deep applies = tt

      -- an assignment
      assign-stays : (to : Named) (k : ℕ) (rest : List Stmt) (cell : Cell) → 2 ≤ k → InRange (Assign to) → Applies own.stmts k rest →
          has_word to (s.cells (named_place s own to)) ≡ true → StaysNext s.frame (on s own k rest (write s.cells (named_place s own to) cell) (named_place s own to ∷ []))
      assign-stays (Local n) k rest cell deep range applies word =
          on-stays k rest (write s.cells (s.frame + n) cell) ((s.frame + n) ∷ []) deep applies (slot-changes s.cells s.frame s.written run n cell range.0)
      assign-stays (Global n) k rest cell deep range applies word =
          on-stays k rest (write s.cells (global_place n) cell) (global_place n ∷ []) deep applies
          (global-changes s.cells s.frame s.written run (global_place n) cell (omega (arith, range, above)) (global_usable n range))
      assign-stays (Static l) k rest cell deep range applies word =
          let old = static_word l (s.cells (own.places.label l)) word in
          on-stays k rest (write s.cells (own.places.label l) cell) (own.places.label l ∷ []) deep applies
          (variable-changes s.cells s.frame s.written run (own.places.label l) cell old.0 old.1)

      -- a call
      call-stays : (k n e : ℕ) (rest : List Stmt) → 2 ≤ n → n + 3 ≤ k → n ≤ F → n ≤ FRAME_WORDS → program.callables.routine (own.places.call (length rest)) ≡ None →
          StaysNext s.frame (call program.callables s own k n e rest)
      call-stays k n e rest low room most words back =
          if-holds (StaysNext s.frame) (can_be_called program.callables e) _ Wild
          (λ _. if-holds (StaysNext s.frame) (nat_lt (2 ^ 31 - 65536) (s.frame + n)) Wild _ (λ _. tt) (λ _. record {
            sound = record {
              from_first = omega (arith, from);
              control = tt;
              active = inl (
                suc run.count,
                called s.frame (s.frame + n) (own.places.call (length rest)) run.count
                    (called-here s.cells s.frame k n (own.places.call (length rest)) room) (called-next s.cells s.frame k n (own.places.call (length rest)) room) back (omega (arith, low)) (omega (arith, most))
                    (frames-kept s.cells (called_cells s.cells s.frame k n (own.places.call (length rest))) (s.frame + 2) s.frame run.count kept (omega arith) run.frames),
              );
              held = λ x under h. run.held x under (subst IsHeld (other x (omega (arith, under, from))) h);
              written = places_more ((s.frame + n + 1) ∷ ((s.frame + n) ∷ [])) s.written both run.stored;
            };
            near = omega (arith, words);
            same_frame = λ own2 depth rest2 z. absurd (let h : At e ≡ Inside own2 depth rest2 = z in cc);
          })) (λ _. tt)
        where
          from : first ≤ s.frame
          from = frames-from s.cells s.frame run.count run.frames

          other : (x : ℕ) → x < s.frame + n → called_cells s.cells s.frame k n (own.places.call (length rest)) x ≡ s.cells x
          other x under = called-other s.cells s.frame k n (own.places.call (length rest)) x under room

          kept : (x w : ℕ) → first ≤ x → x < s.frame + 2 → s.cells x ≡ Held Link (Word w) → called_cells s.cells s.frame k n (own.places.call (length rest)) x ≡ Held Link (Word w)
          kept x w ge under e = other x (omega (arith, under, low)) ∙ e

          both : (i x : ℕ) → slice_get ((s.frame + n + 1) ∷ ((s.frame + n) ∷ [])) i ≡ Some x → x < first → usable x
          both zero x at under = absurd (let same : s.frame + n + 1 ≡ x = (let h : Some (s.frame + n + 1) ≡ Some x = at in cc) in omega (arith, same, under, from))
          both (suc i) x at under = one_written (s.frame + n) (λ z. absurd (omega (arith, z, from))) i x at under

    -- a return, in a procedure and at a routine
    pub record Returns (frame : ℕ) (t : State) : Type 0 where
      pub stays : Stays frame t
      pub at_rest : IsAtRest program.callables t.control

    abbrev pub ReturnsNext : ℕ → Next → Type 0
    ReturnsNext frame (Goes t) = Returns frame t
    ReturnsNext frame (Ends e t) = ⊤
    ReturnsNext frame Wild = ⊤

    same_word : (cell : Cell) (w c : ℕ) → cell ≡ Held Link (Word w) → number_in (content_of cell) ≡ Some c → w ≡ c
    same_word cell w c is e = let h : Some w ≡ Some c = ap (λ x. number_in (content_of x)) (sym is) ∙ e in cc

    module _ (u : State) (kept : Running u.cells u.frame u.written) (result : Option Content) where
      abbrev back_at : ℕ → ℕ → State
      back_at c p = record u { control = At c; cells = below u.frame u.cells; frame = p; hand = result }

      returned : (frame d : ℕ) → u.frame ≡ frame → HasFrames program first F u.cells frame d → (c p : ℕ) → number_in (slot u 1) ≡ Some c → number_in (slot u 0) ≡ Some p → Returns u.frame (back_at c p)
      returned frame d is (start a b) c p ec ep =
          let pe : first ≡ p = same_word (u.cells (u.frame + 0)) first p (ap u.cells (omega (arith, is)) ∙ a) ep in
          let ce : program.home ≡ c = same_word (u.cells (u.frame + 1)) program.home c (ap u.cells (omega (arith, is)) ∙ b) ec in
          record {
            stays = record {
              sound = record {
                from_first = omega (arith, pe);
                control = tt;
                active = inr (ap At (sym ce), sym pe);
                held = λ x low h. kept.held x low (subst IsHeld (below-kept u.frame u.cells x (omega (arith, low, is))) h);
                written = kept.stored;
              };
              near = omega (arith, pe, is);
              same_frame = λ own depth rest z. absurd (let h : At c ≡ Inside own depth rest = z in cc);
            };
            at_rest = ap program.callables.routine (sym ce) ∙ home_apart;
          }
      returned frame d is (called caller frame2 back d2 a b r low high under) c p ec ep =
          let from = frames-from u.cells caller d2 under in
          let pe : caller ≡ p = same_word (u.cells (u.frame + 0)) caller p (ap u.cells (omega (arith, is)) ∙ a) ep in
          let ce : back ≡ c = same_word (u.cells (u.frame + 1)) back c (ap u.cells (omega (arith, is)) ∙ b) ec in
          record {
            stays = record {
              sound = record {
                from_first = omega (arith, pe, from);
                control = tt;
                active = inl (
                  d2,
                  subst (λ n. HasFrames program first F (below u.frame u.cells) n d2) pe
                      (frames-kept u.cells (below u.frame u.cells) (caller + 2) caller d2 (λ x w ge up e. below-kept u.frame u.cells x (omega (arith, up, low, is)) ∙ e) (omega arith) under),
                );
                held = λ x lo h. kept.held x lo (subst IsHeld (below-kept u.frame u.cells x (omega (arith, lo, from, low, is))) h);
                written = kept.stored;
              };
              near = omega (arith, pe, is, low);
              same_frame = λ own depth rest z. absurd (let h : At c ≡ Inside own depth rest = z in cc);
            };
            at_rest = ap program.callables.routine (sym ce) ∙ r;
          }

      pub return-returns : ReturnsNext u.frame (return u result)
      return-returns =
          on_number-holds (ReturnsNext u.frame) tt (slot u 1) _ (λ c ec. on_number-holds (ReturnsNext u.frame) tt (slot u 0) _ (λ p ep.
          returned u.frame kept.count refl kept.frames c p ec ep))

    stays_of : (frame : ℕ) (x : Next) → ReturnsNext frame x → StaysNext frame x
    stays_of frame (Goes t) h = h.stays
    stays_of frame (Ends e t) h = tt
    stays_of frame Wild h = tt

    return-stays : (result : Option Content) → StaysNext s.frame (return s result)
    return-stays result = stays_of s.frame (return s result) (return-returns s run result)

    module _ (own : Placed) (is_own : IsOwn program own) where
      back_apart : (k : ℕ) (c : Stmt) (rest : List Stmt) (r : Rest) → Here own.stmts k c rest → rest_of own.places k c rest ≡ Some r → program.callables.routine r.place ≡ None
      back_apart k c rest r h is =
          let at = rest_at own.places 0 h.before rest c r (ap (λ n. rest_of own.places n c rest) (sym h.depth) ∙ is) in
          apart is_own.0 at.0 own r is_own.1 (subst (λ (l : List Stmt). slice_get (rests own.places 0 l) at.0 ≡ Some r) (sym h.whole) at.1)

      most_F : (n : ℕ) → n ≤ largest_depth own.stmts → n ≤ F
      most_F n le = omega (arith, le, depths is_own.0 own is_own.1)

      hereof : (k : ℕ) (c : Stmt) (rest : List Stmt) → Applies own.stmts k (c ∷ rest) → (IsOpening (c ∷ rest) → ⊥) → Here own.stmts k c rest
      hereof k c rest applies other = here own.stmts k c rest (accepted is_own.0 own is_own.1) applies other

      again : (n m : ℕ) (rest : List Stmt) → n ≡ m → Applies own.stmts n rest → Applies own.stmts m rest
      again n m rest same applies = subst (λ x. Applies own.stmts x rest) same applies

      assign_deep : (k : ℕ) (to : Named) → InRange (Assign to) → assign_depth to ≤ k → 2 ≤ k - 1
      assign_deep k (Local n) range least = omega (arith, range.0, least)
      assign_deep k (Global n) range least = omega (arith, least)
      assign_deep k (Static l) range least = omega (arith, least)

      pub step-stays : (k : ℕ) (c : Stmt) (rest : List Stmt) → 2 ≤ k → Applies own.stmts k (c ∷ rest) → StaysNext s.frame (step_by program.callables s own k c rest)
      step-stays k (Label l) rest deep applies = record {
        sound = record {
          from_first = frames-from s.cells s.frame run.count run.frames;
          control = is_own;
          active = inl (run.count, run.frames);
          held = run.held;
          written = run.stored;
        };
        near = omega arith;
        same_frame = λ own2 depth rest2 z. refl;
      }
      step-stays k (Entry l name) rest deep applies =
          inside s.frame (record s { control = Inside own 2 rest; hand = None }) own 2 rest is_own (omega arith) (record {
            before = applies.before ++ Entry l name ∷ [];
            whole = applies.whole ∙ sym (append_assoc applies.before (Entry l name ∷ []) rest);
            same_depth = inl (sym (depth_after-append 0 applies.before (Entry l name ∷ [])));
          }) run refl refl
      step-stays k True rest deep applies = push-stays own is_own k rest _ deep (hereof k True rest applies (λ o. o)).next
      step-stays k False rest deep applies = push-stays own is_own k rest _ deep (hereof k False rest applies (λ o. o)).next
      step-stays k Query rest deep applies = push-stays own is_own k rest _ deep (hereof k Query rest applies (λ o. o)).next
      step-stays k (Number value) rest deep applies = push-stays own is_own k rest _ deep (hereof k (Number value) rest applies (λ o. o)).next
      step-stays k (Load from) rest deep applies = push-stays own is_own k rest _ deep (hereof k (Load from) rest applies (λ o. o)).next
      step-stays k (Address of) rest deep applies = push-stays own is_own k rest _ deep (hereof k (Address of) rest applies (λ o. o)).next
      step-stays k (Text bytes) rest deep applies = push-stays own is_own k rest _ deep (hereof k (Text bytes) rest applies (λ o. o)).next
      step-stays k (Monadic Contents) rest deep applies =
          let h = hereof k (Monadic Contents) rest applies (λ o. o) in
          on_number-holds (StaysNext s.frame) tt (slot s (k - 1)) _ (λ a ea. on_some-holds (StaysNext s.frame) tt (variable_at (s.frame + k) s.cells a) _ (λ content ec.
          push-stays own is_own (k - 1) rest content (omega (arith, h.least)) (again k (k - 1 + 1) rest (omega (arith, h.least)) h.next)))
      step-stays k (Monadic Negate) rest deep applies =
          let h = hereof k (Monadic Negate) rest applies (λ o. o) in
          on_number-holds (StaysNext s.frame) tt (slot s (k - 1)) _ (λ w ew.
          push-stays own is_own (k - 1) rest _ (omega (arith, h.least)) (again k (k - 1 + 1) rest (omega (arith, h.least)) h.next))
      step-stays k (Monadic Not) rest deep applies =
          let h = hereof k (Monadic Not) rest applies (λ o. o) in
          on_number-holds (StaysNext s.frame) tt (slot s (k - 1)) _ (λ w ew.
          push-stays own is_own (k - 1) rest _ (omega (arith, h.least)) (again k (k - 1 + 1) rest (omega (arith, h.least)) h.next))
      step-stays k (Dyadic operator) rest deep applies =
          let h = hereof k (Dyadic operator) rest applies (λ o. o) in
          on_number-holds (StaysNext s.frame) tt (slot s (k - 2)) _ (λ v ev. on_number-holds (StaysNext s.frame) tt (slot s (k - 1)) _ (λ w ew.
          operated-stays own is_own (k - 2) rest (dyadic_word operator v w) (omega (arith, h.least)) (again (k - 1) (k - 2 + 1) rest (omega (arith, h.least)) h.next)))
      step-stays k LoadByte rest deep applies =
          let h = hereof k LoadByte rest applies (λ o. o) in
          on_number-holds (StaysNext s.frame) tt (slot s (k - 2)) _ (λ a ea. on_number-holds (StaysNext s.frame) tt (slot s (k - 1)) _ (λ i ei.
          on_some-holds (StaysNext s.frame) tt (byte_at (s.frame + k) s.cells a i) _ (λ b eb.
          push-stays own is_own (k - 2) rest _ (omega (arith, h.least)) (again (k - 1) (k - 2 + 1) rest (omega (arith, h.least)) h.next))))
      step-stays k (Assign to) rest deep applies =
          let h = hereof k (Assign to) rest applies (λ o. o) in
          if-holds (StaysNext s.frame) (has_word to (s.cells (named_place s own to))) _ Wild
          (λ e. assign-stays own is_own to (k - 1) rest _ (assign_deep k to h.range h.least) h.range h.next e) (λ _. tt)
      step-stays k AssignAt rest deep applies =
          let h = hereof k AssignAt rest applies (λ o. o) in
          on_number-holds (StaysNext s.frame) tt (slot s (k - 1)) _ (λ a ea. on_some-holds (StaysNext s.frame) tt (variable_at (s.frame + k) s.cells a) _ (λ old eo.
          on-stays own is_own (k - 2) rest _ (a ∷ []) (omega (arith, h.least)) h.next
          (variable-changes s.cells s.frame s.written run a _ old (variable_there (s.frame + k) s.cells a old eo))))
      step-stays k AssignByte rest deep applies =
          let h = hereof k AssignByte rest applies (λ o. o) in
          on_number-holds (StaysNext s.frame) tt (slot s (k - 3)) _ (λ b eb. on_number-holds (StaysNext s.frame) tt (slot s (k - 2)) _ (λ a ea.
          on_number-holds (StaysNext s.frame) tt (slot s (k - 1)) _ (λ i ei. on_some-holds (StaysNext s.frame) tt (word_with_byte_at (s.frame + k) s.cells a i b) _ (λ content ec.
          let old = byte_there (s.frame + k) s.cells a i b content ec in
          on-stays own is_own (k - 3) rest _ (word_sum a (byte_distance i) ∷ []) (omega (arith, h.least)) h.next
          (variable-changes s.cells s.frame s.written run (word_sum a (byte_distance i)) _ old.0 old.1)))))
      step-stays k (Jump l) rest deep applies = jump-stays own is_own k l deep
      step-stays k (JumpIf true l) rest deep applies =
          let h = hereof k (JumpIf true l) rest applies (λ o. o) in
          on_number-holds (StaysNext s.frame) tt (slot s (k - 1)) _ (λ w ew. if-holds (StaysNext s.frame) (w == 0) _ _
          (λ _. on-stays own is_own (k - 1) rest s.cells [] (omega (arith, h.least)) h.next (same-changes s.cells s.frame s.written run))
          (λ _. jump-stays own is_own (k - 1) l (omega (arith, h.least))))
      step-stays k (JumpIf false l) rest deep applies =
          let h = hereof k (JumpIf false l) rest applies (λ o. o) in
          on_number-holds (StaysNext s.frame) tt (slot s (k - 1)) _ (λ w ew. if-holds (StaysNext s.frame) (w == 0) _ _
          (λ _. jump-stays own is_own (k - 1) l (omega (arith, h.least)))
          (λ _. on-stays own is_own (k - 1) rest s.cells [] (omega (arith, h.least)) h.next (same-changes s.cells s.frame s.written run)))
      step-stays k (GiveResult l) rest deep applies =
          let h = hereof k (GiveResult l) rest applies (λ o. o) in
          jump_with-stays own is_own (k - 1) l _ (omega (arith, h.least))
      step-stays k (TakeResult n) rest deep applies =
          let h = hereof k (TakeResult n) rest applies (λ o. o) in
          push-stays own is_own n rest _ h.range.0 h.next
      step-stays k (Stack n) rest deep applies =
          let h = hereof k (Stack n) rest applies (λ o. o) in
          on-stays own is_own n rest _ [] h.range.0 h.next (settle-changes s.cells s.frame s.written run k (s.frame + n) deep)
      step-stays k Store rest deep applies =
          let h = hereof k Store rest applies (λ o. o) in
          on-stays own is_own k rest _ [] deep h.next (settle-changes s.cells s.frame s.written run 2 (s.frame + k) (omega arith))
      step-stays k (Save n) rest deep applies =
          let h = hereof k (Save n) rest applies (λ o. o) in
          on-stays own is_own n rest _ [] h.range.0 h.next (settle-changes s.cells s.frame s.written run 2 (s.frame + n) (omega arith))
      step-stays k (CallFunction n) rest deep applies =
          let h = hereof k (CallFunction n) rest applies (λ o. o) in
          on_number-holds (StaysNext s.frame) tt (slot s (k - 1)) _ (λ e ee.
          call-stays own is_own k n e rest h.range.0 h.least (most_F n (omega (arith, h.largest))) (omega (arith, h.most)) (back_apart k (CallFunction n) rest _ h refl))
      step-stays k (CallRoutine n) rest deep applies =
          let h = hereof k (CallRoutine n) rest applies (λ o. o) in
          on_number-holds (StaysNext s.frame) tt (slot s (k - 1)) _ (λ e ee.
          call-stays own is_own k n e rest h.range.0 h.least (most_F n h.largest) h.most (back_apart k (CallRoutine n) rest _ h refl))
      step-stays k ReturnItem rest deep applies = return-stays _
      step-stays k Return rest deep applies = return-stays None
      step-stays k (Switch default cases) rest deep applies =
          let h = hereof k (Switch default cases) rest applies (λ o. o) in
          on_number-holds (StaysNext s.frame) tt (slot s (k - 1)) _ (λ w ew. jump-stays own is_own (k - 1) (case_label cases default w) (omega (arith, h.least)))
      step-stays k Finish rest deep applies = tt
      step-stays k _ rest deep applies = tt

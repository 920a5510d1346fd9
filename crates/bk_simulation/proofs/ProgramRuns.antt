-- Counted runs of settled states are runs of the program, in as many frames.
use Rattle.bk_simulation.proofs.Situations.{settled, settled_step, going, IsRest, LinksFrom, links_kept, untouched, Setting, FewFrames, Comes, here, go_on, inl, inr, ◌≡◌, ◌≢◌, ℕ, zero, suc, ◌+◌, ◌≤◌, ◌==◌, Bool, true, false, List, [], ◌∷◌, Option, Some, None, refl, sym, ap, ◌∙◌, subst, if◌then◌else◌, arith, slice_get, ◌++◌, pos, append_assoc, append-nil, option_map_or, FRAME_WORDS, Temporary, Held, next_depth, Placement, Placed, State, Next, Goes, Ends, Wild, Rest, rest_of, or_rest, rests, in_hand, resumed, resumed_by, find_rest, label_rest, Program, program_step, run, then_run, Stmt, Entry, Label, CallFunction, CallRoutine, IsWellPlaced, Status, step, InRange, steps_grow, Begin}

-- ---- a rest that takes up a result has slot 2 at least

takes_here : (places : Placement) (k : ℕ) (s : Stmt) (rest : List Stmt) (r : Rest) → InRange s → rest_of places k s rest ≡ Some r → r.takes ≡ true → 2 ≤ r.depth
takes_here places k (CallFunction n) rest r range e t = grind arith
takes_here places k (Entry l name) rest r range e t = absurd (let z : false ≡ true = ap (λ o. option_map_or (λ (x : Rest). x.takes) o true) e ∙ t in cc)
takes_here places k (Label l) rest r range e t = absurd (let z : false ≡ true = ap (λ o. option_map_or (λ (x : Rest). x.takes) o true) e ∙ t in cc)
takes_here places k (CallRoutine n) rest r range e t = absurd (let z : false ≡ true = ap (λ o. option_map_or (λ (x : Rest). x.takes) o true) e ∙ t in cc)
takes_here places k s rest r range e t = absurd (let z : None ≡ Some r = e in cc)

takes_high : (places : Placement) (k : ℕ) (stmts : List Stmt) → ((i : ℕ) (s : Stmt) → slice_get stmts i ≡ Some s → InRange s) → (n : ℕ) (r : Rest) → find_rest (rests places k stmts) n ≡ Some r → r.takes ≡ true → 2 ≤ r.depth
takes_high places k [] range n r e t = absurd (let z : None ≡ Some r = e in cc)
takes_high places k (s ∷ rest) range n r e t = by_rest (rest_of places k s rest) refl e (λ h. takes_high places (next_depth k s) rest (λ i u at. range (suc i) u at) n r h t)
  where
    by_test : (q : Rest) → rest_of places k s rest ≡ Some q → (b : Bool) → (find_rest (rests places (next_depth k s) rest) n ≡ Some r → 2 ≤ r.depth)
        → (if b then Some q else find_rest (rests places (next_depth k s) rest) n) ≡ Some r → 2 ≤ r.depth
    by_test q eq true go e = let z : q ≡ r = cc in takes_here places k s rest r (range 0 s refl) (eq ∙ e) t
    by_test q eq false go e = go e

    by_rest : (o : Option Rest) → rest_of places k s rest ≡ o → find_rest (or_rest o (rests places (next_depth k s) rest)) n ≡ Some r → (find_rest (rests places (next_depth k s) rest) n ≡ Some r → 2 ≤ r.depth) → 2 ≤ r.depth
    by_rest None eo e go = go e
    by_rest (Some q) eo e go = by_test q eo _ go e

-- ---- a state and the one as which it goes on

-- the same frame, and each link of the one, up to the frame's, is the other's; what was written and read is the same
pub record Resumes (s t : State) : Type 0 where
  pub frame : t.frame ≡ s.frame
  pub links : LinksFrom (suc s.frame) t.cells s.cells
  pub output : t.output ≡ s.output
  pub input : t.input ≡ s.input

resumes_same : (s t : State) → t.frame ≡ s.frame → t.cells ≡ s.cells → t.output ≡ s.output → t.input ≡ s.input → Resumes s t
resumes_same s t ef ec eo ei = record { frame = ef; links = λ x w le e. ap (λ f. f x) ec ∙ e; output = eo; input = ei }

resumed_so : (own : Placed) (r : Rest) (s : State) → (r.takes ≡ true → 2 ≤ r.depth) → Resumes s (resumed own r s)
resumed_so own r s high = by_takes r.takes refl
  where
    by_takes : (b : Bool) → r.takes ≡ b → Resumes s (resumed_by b own r s)
    by_takes true e = let h : 2 ≤ r.depth = high e in record { frame = refl; links = λ x w le e. let ne : x ≢ s.frame + r.depth = omega arith in untouched s.cells (s.frame + r.depth) (Held Temporary (in_hand s.hand)) x ne ∙ e; output = refl; input = refl }
    by_takes false e = resumes_same s (resumed_by false own r s) refl refl refl refl

label_low : (places : Placement) (k : ℕ) (stmts : List Stmt) (l : ℕ) (r : Rest) → label_rest places k stmts l ≡ Some r → r.takes ≡ true → ⊥
label_low places k [] l r e t = absurd (let z : None ≡ Some r = e in cc)
label_low places k (s ∷ rest) l r e t = by_label s e (λ h. label_low places (next_depth k s) rest l r h t)
  where
    by_test : (m : ℕ) (b : Bool) → (label_rest places (next_depth k (Label m)) rest l ≡ Some r → ⊥) → (if b then rest_of places k (Label m) rest else label_rest places (next_depth k (Label m)) rest l) ≡ Some r → ⊥
    by_test m true go e = let z : false ≡ true = ap (λ o. option_map_or (λ (x : Rest). x.takes) o true) e ∙ t in absurd (cc)
    by_test m false go e = go e

    by_label : (s : Stmt) → label_rest places k (s ∷ rest) l ≡ Some r → (label_rest places (next_depth k s) rest l ≡ Some r → ⊥) → ⊥
    by_label (Label m) e go = by_test m (m == l) go e
    by_label _ e go = go e

module _ (program : Program) (first F : ℕ) (well : IsWellPlaced program first F) where
  rest_high : (own : Placed) (r : Rest) → IsRest program own r → r.takes ≡ true → 2 ≤ r.depth
  rest_high own r (inl h) t = absurd (label_low own.places 0 own.stmts h.0 r h.1 t)
  rest_high own r (inr h) t = takes_high own.places 0 own.stmts (λ j u e. (well.is_program.accepted h.0 own h.2).in_range j u e) h.1 r h.3 t

  pub rest_so : (s : State) (own : Placed) (r : Rest) → IsRest program own r → Resumes s (resumed own r s)
  rest_so s own r h = resumed_so own r s (rest_high own r h)

  pub goes_on_so : (s : State) → Resumes s (settled program s)
  goes_on_so s = let same = resumes_same s s refl refl refl refl in going program s (λ t x. Resumes s t) same same same (rest_so s)

-- ---- runs

pub run_after : (program : Program) (n : ℕ) (s last : State) → run program n s ≡ Goes last → run program (suc n) s ≡ program_step program last
run_after program zero s last e = then_zero (program_step program s) ∙ ap (λ (x : State). program_step program x) (let z : s ≡ last = cc in z)
  where
    then_zero : (x : Next) → then_run (run program 0) x ≡ x
    then_zero (Goes t) = refl
    then_zero _ = refl
run_after program (suc n) s last e = by_step (program_step program s) e (λ t h. run_after program n t last h)
  where
    by_step : (x : Next) → then_run (run program n) x ≡ Goes last → ((t : State) → run program n t ≡ Goes last → run program (suc n) t ≡ program_step program last) → then_run (run program (suc n)) x ≡ program_step program last
    by_step (Goes t) e go = go t e
    by_step _ e go = absurd (cc)

module _ (setting : Setting) where
  raw_frames : (t : State) → FewFrames setting (settled setting.program t).cells (settled setting.program t).frame setting.cap → FewFrames setting t.cells t.frame setting.cap
  raw_frames t few =
      let h = goes_on_so setting.program setting.first FRAME_WORDS setting.well t in
      links_kept setting.program setting.first FRAME_WORDS (settled setting.program t).cells t.cells t.frame setting.cap h.links (subst (λ y. FewFrames setting (settled setting.program t).cells y setting.cap) h.frame few)

  -- from a state that goes on as the first does
  pub record RunSo (n : ℕ) (s0 u : State) : Type 0 where
    pub last : State
    pub runs : run setting.program n s0 ≡ Goes last
    pub settles : settled setting.program last ≡ u
    pub frames : (k : ℕ) (t : State) → k ≤ n → run setting.program k s0 ≡ Goes t → FewFrames setting t.cells t.frame setting.cap

  at_first : (s0 : State) → FewFrames setting s0.cells s0.frame setting.cap → (k : ℕ) (t : State) → k ≤ 0 → run setting.program k s0 ≡ Goes t → FewFrames setting t.cells t.frame setting.cap
  at_first s0 few zero t le e = subst (λ (x : State). FewFrames setting x.cells x.frame setting.cap) (let z : s0 ≡ t = cc in z) few
  at_first s0 few (suc k) t le e = absurd (omega arith)

  pub comes_run : (n p : ℕ) (s s0 u : State) → settled setting.program s0 ≡ s → FewFrames setting s0.cells s0.frame setting.cap → Comes setting n p s u → RunSo n s0 u
  comes_run _ _ s s0 u es few (here _) = record { last = s0; runs = refl; settles = es; frames = at_first s0 few }
  comes_run _ _ s s0 u es few (go_on n p _ v _ mv fv c) =
      let stepped : program_step setting.program s0 ≡ Goes mv.0 = settled_step setting.program s0 ∙ ap (program_step setting.program) es ∙ mv.1 in
      let few1 : FewFrames setting mv.0.cells mv.0.frame setting.cap = raw_frames mv.0 (subst (λ (x : State). FewFrames setting x.cells x.frame setting.cap) (sym mv.2) fv) in
      let r = comes_run n p v mv.0 u mv.2 few1 c in
      record {
        last = r.last;
        runs = ap (then_run (run setting.program n)) stepped ∙ r.runs;
        settles = r.settles;
        frames = λ k t le e. later k t le e stepped few1 r;
      }
    where
      later : (k : ℕ) (t : State) → k ≤ suc n → run setting.program k s0 ≡ Goes t → program_step setting.program s0 ≡ Goes mv.0 → FewFrames setting mv.0.cells mv.0.frame setting.cap → RunSo n mv.0 u → FewFrames setting t.cells t.frame setting.cap
      later zero t le e st f1 r = at_first s0 few 0 t (omega arith) e
      later (suc k) t le e st f1 r = r.frames k t (omega arith) (sym (ap (then_run (run setting.program k)) st) ∙ e)

-- ---- What a run of a program writes goes behind what was written, and a run of so many steps has one of fewer before it.

pub begin_on : (a b c : List ℕ) → Begin a b → Begin b c → Begin a c
begin_on a b c p q = record { rest = p.rest ++ q.rest; is = q.is ∙ ap (λ y. y ++ q.rest) p.is ∙ append_assoc a p.rest q.rest }

module _ (program : Program) (first F : ℕ) (well : IsWellPlaced program first F) where
  step_on : (s t u : State) → t.output ≡ s.output → step program.callables t ≡ Goes u → Begin s.output u.output
  step_on s t u same e = let g = steps_grow program.callables t u e in record { rest = g.more; is = g.writes ∙ ap (λ y. y ++ g.more) same }

  -- a step
  pub step_begins : (s u : State) → program_step program s ≡ Goes u → Begin s.output u.output
  step_begins s u e = going program s (λ t x. x ≡ Goes u → Begin s.output u.output) (λ e. absurd (let z : Wild ≡ Goes u = e in cc)) (λ e. absurd (let z : Ends (Status (pos 0)) s ≡ Goes u = e in cc)) (step_on s s u refl)
      (λ own r h e. step_on s (resumed own r s) u (rest_so program first F well s own r h).output e) e

  -- a step, and the run behind it
  record Stepped (n : ℕ) (s last : State) : Type 0 where
    pub to : State
    pub steps : program_step program s ≡ Goes to
    pub runs : run program n to ≡ Goes last

  stepped : (n : ℕ) (s last : State) → run program (suc n) s ≡ Goes last → Stepped n s last
  stepped n s last e = by_step (program_step program s) refl e
    where
      by_step : (x : Next) → program_step program s ≡ x → then_run (run program n) x ≡ Goes last → Stepped n s last
      by_step (Goes t) ex e = record { to = t; steps = ex; runs = e }
      by_step (Ends q t) ex e = absurd (let z : Ends q t ≡ Goes last = e in cc)
      by_step Wild ex e = absurd (let z : Wild ≡ Goes last = e in cc)

  pub run_begins : (n : ℕ) (s last : State) → run program n s ≡ Goes last → Begin s.output last.output
  run_begins zero s last e = subst (λ (x : State). Begin s.output x.output) (let z : s ≡ last = cc in z) (record { rest = []; is = sym (append-nil s.output) })
  run_begins (suc n) s last e = let x = stepped n s last e in begin_on s.output x.to.output last.output (step_begins s x.to x.steps) (run_begins n x.to last x.runs)

  -- where a run is after fewer steps
  pub record Passed (k : ℕ) (s last : State) : Type 0 where
    pub now : State
    pub goes : run program k s ≡ Goes now
    pub begins : Begin now.output last.output

  pub passed : (k n : ℕ) (s last : State) → k ≤ n → run program n s ≡ Goes last → Passed k s last
  passed zero n s last le e = record { now = s; goes = refl; begins = run_begins n s last e }
  passed (suc k) zero s last le e = absurd (omega arith)
  passed (suc k) (suc n) s last le e =
      let x = stepped n s last e in
      let r = passed k n x.to last (omega arith) x.runs in
      record { now = r.now; goes = ap (then_run (run program k)) x.steps ∙ r.goes; begins = r.begins }

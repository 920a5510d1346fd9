-- How the program ends where the call of START ends, comes on or falls.
use Rattle.bk_simulation.proofs.Pieces.{settled_step, entry_settled, Setting, FewFrames, Account, Reaches, Stopped, Fell, FallsThose, Ran, Went, Falls, state, run_after, goes_on_so, RunSo, comes_run, roomy, Simulates, by_option, ◌≡◌, ℕ, zero, suc, ◌+◌, ◌*◌, ◌≤◌, List, ◌++◌, Option, Some, None, refl, sym, ap, ◌∙◌, subst, arith, ◌⊎◌, ⊎_elim, inl, inr, max, [], ◌∷◌, length, FRAME_WORDS, State, Goes, Ends, At, global_place, program_step, run, HasFrames, Value, procedure, address, World, Outcome, gives, leaves, ends, undefined, going, status, calling, making, Run, Going, Undefined, run_of, first_world, started, means, option_map, number_in, Unset, Word, content_of, first_cells, first_state, Entry, read, Environment, globals_object, Procedure, procedure_of, first_memory, history, After, Meanings, enter, call, run_body, bind_formals, formal_cells, closing_after, End, settled, end_of, IsTooHigh, EndsWithin, ComesWithin, RunsOut, DoesEnd, Does, DoesFrom, drop, returned, nowhere}
use Rattle.bk_meaning.specs.World as world
use Rattle.bk_simulation.proofs.Terms.{Ends as Finishes, Program}
use Rattle.bk_simulation.proofs.Calls.{AnyExit, AloneRuns, body_after, IsProcedure, Procedures}
use Rattle.bk_simulation.proofs.StartRuns.{Over, FirstStore, few_first, start_runs}
use Rattle.bk_simulation.proofs.Applied.{AloneAdds}

-- the calls that a run tells of
abbrev pub calls_of : Run → ℕ
calls_of (Finishes bytes left calls e) = calls
calls_of (Going bytes left calls at) = calls
calls_of (Undefined bytes left calls at why) = calls

last_or : (k n : ℕ) → k ≤ suc n → (k ≤ n) ⊎ (k ≡ suc n)
last_or zero n le = inl (omega arith)
last_or (suc zero) zero le = inr refl
last_or (suc (suc k)) zero le = absurd (omega arith)
last_or (suc k) (suc n) le = ⊎_elim (λ (x : k ≤ n). inl (omega arith)) (λ (x : k ≡ suc n). inr (ap (λ y. suc y) x)) (last_or k n (omega arith))

module _ (setting : Setting) (s0 s : State) (is : settled setting.program s0 ≡ s) (few : FewFrames setting s0.cells s0.frame setting.cap) where
  pub stopped_ends : (B : Account) (e : world.End) (w : World) (end : End) (n : ℕ) → B.most ≤ n → end_of e ≡ Some end → Stopped setting s B e w → EndsWithin setting.program setting.first s0 n setting.cap w.output w.input end
  stopped_ends B e w end n le ee q =
      let until : (k : ℕ) (t : State) (m : ℕ) → k ≤ suc q.steps → run setting.program k s0 ≡ Goes t → HasFrames setting.program setting.first FRAME_WORDS t.cells t.frame m → RunSo setting q.steps s0 q.to → run setting.program (suc q.steps) s0 ≡ Ends end q.to → m ≤ setting.cap =
      λ k t m lk h f r over.
      ⊎_elim (λ (x : k ≤ q.steps). r.frames k t x h m f)
      (λ (x : k ≡ suc q.steps). absurd (let z : Ends end q.to ≡ Goes t = sym over ∙ subst (λ j. run setting.program j s0 ≡ Goes t) x h in cc))
      (last_or k q.steps lk) in
      let r = comes_run setting q.steps q.paid s s0 q.to is few q.comes in
      let mq = q.most in
      let same : q.end ≡ end = (let z : Some q.end ≡ Some end = sym q.is_end ∙ ee in cc) in
      let over : run setting.program (suc q.steps) s0 ≡ Ends end q.to =
      run_after setting.program q.steps s0 r.last r.runs ∙ settled_step setting.program r.last ∙ ap (program_step setting.program) r.settles ∙ q.stops ∙ ap (λ x. Ends x q.to) same in
      record {
        steps = suc q.steps;
        within = omega arith;
        last = q.to;
        ends = over;
        wrote = q.wrote;
        left_over = q.left;
        frames = λ k t m lk h f. until k t m lk h f r over;
      }

  pub reached_comes : (B : Account) (w : World) (n : ℕ) → B.most ≤ n → Reaches setting s B w → ComesWithin setting.program setting.first s0 n setting.cap w.output w.input
  reached_comes B w n le q =
      let r = comes_run setting q.steps q.paid s s0 q.to is few q.comes in
      let h = goes_on_so setting.program setting.first FRAME_WORDS setting.well r.last in
      record {
        steps = q.steps;
        within = omega (arith, q.most);
        now = r.last;
        goes = r.runs;
        wrote = sym h.output ∙ ap (λ (x : State). x.output) r.settles ∙ q.wrote;
        left_over = sym h.input ∙ ap (λ (x : State). x.input) r.settles ∙ q.left;
        frames = λ k t m lk e f. r.frames k t lk e m f;
      }

  pub fell_out : (out : List ℕ) → Fell setting s out → RunsOut setting.program setting.first s0 setting.cap out
  fell_out out q =
      let r = comes_run setting q.steps q.paid s s0 q.to is few q.comes in
      let h = goes_on_so setting.program setting.first FRAME_WORDS setting.well r.last in
      record {
        steps = q.steps;
        now = r.last;
        goes = r.runs;
        too_high = subst IsTooHigh (sym r.settles) q.too_high;
        wrote = record { rest = q.rest; is = q.begins ∙ ap (λ y. y ++ q.rest) (sym (sym h.output ∙ ap (λ (x : State). x.output) r.settles)) };
        frames = λ k t m lk e f. r.frames k t lk e m f;
      }

  falls_out : (out : List ℕ) (most : ℕ) → most ≡ setting.cap → FallsThose setting s out most → RunsOut setting.program setting.first s0 setting.cap out
  falls_out out most e (inl f) = fell_out out f
  falls_out out most e (inr lt) = absurd (omega arith)

  at_end : (n : ℕ) (B : Account) (e : world.End) (w : World) → B.most ≤ 16 * n + 16 → w.most_calls ≡ setting.cap → (x : Option End) → end_of e ≡ x → Stopped setting s B e w ⊎ FallsThose setting s w.output w.most_calls
      → DoesEnd setting.program setting.first n s0 w.output w.input setting.cap x
  at_end n B e w le ec (Some end) ee (inl q) = inl (stopped_ends B e w end (16 * n + 16) le ee q)
  at_end n B e w le ec (Some end) ee (inr f) = inr (falls_out w.output w.most_calls ec f)
  at_end n B e w le ec None ee (inl q) = absurd (let z : None ≡ Some q.end = sym ee ∙ q.is_end in cc)
  at_end n B e w le ec None ee (inr f) = falls_out w.output w.most_calls ec f

  -- what the call of START comes to, the program does
  does_those : (n k : ℕ) (B : Account) (o : Outcome Value) → B.most ≤ 16 * n + 16
      → calls_of (run_of (returned nowhere k o)) ≡ setting.cap → Went setting s B (Over setting s B) AnyExit o ⊎ Falls setting s o
      → Does setting.program setting.first n s0 (run_of (returned nowhere k o))
  does_those n k B (gives v w) le ec r = grind (arith, (at_end n B (status 0) w le ec (end_of (status 0)) refl r))
  does_those n k B (ends e w) le ec r = subst (λ c. DoesEnd setting.program setting.first n s0 w.output w.input c (end_of e)) (sym ec) (at_end n B e w le ec (end_of e) refl r)
  does_those n k B (going l w) le ec (inl q) = subst (λ c. Does setting.program setting.first n s0 (Going w.output w.input c l)) (sym ec) (inl (reached_comes B w (16 * n + 16) le q))
  does_those n k B (going l w) le ec (inr f) = subst (λ c. Does setting.program setting.first n s0 (Going w.output w.input c l)) (sym ec) (inr (falls_out w.output w.most_calls ec f))
  does_those n k B _ le ec r = tt

-- ---- The program does from its first state what its sections mean.

-- What global 1 holds: nothing, or a procedure and its word.
pub record NoStart (setting : Setting) (p : Program) : Type 0 where
  pub is : read (first_memory p) (address globals_object 1) ≡ None
  pub word : content_of (first_cells setting.program setting.first (global_place 1)) ≡ Unset

pub record HasStart (setting : Setting) (p : Program) : Type 0 where
  pub number : ℕ
  pub is : read (first_memory p) (address globals_object 1) ≡ Some (procedure number)
  pub word : content_of (first_cells setting.program setting.first (global_place 1)) ≡ Word (setting.codes.procedure number)

-- the state in which START is called
abbrev pub called_at : Setting → List ℕ → ℕ → State
called_at setting input start = record { control = At start; cells = first_cells setting.program setting.first; frame = setting.first; hand = None; input = input; output = []; written = [] }

pub some_calls : (k : ℕ) (w0 : World) (o : Outcome Value) → After (history (calling w0)) o → 1 ≤ calls_of (run_of (returned nowhere k o))
some_calls k w0 (gives v w) h = let c : max w0.most_calls (w0.calls + 1) ≤ w.most_calls = h.most_calls in omega arith
some_calls k w0 (leaves x w) h = let c : max w0.most_calls (w0.calls + 1) ≤ w.most_calls = h.most_calls in omega arith
some_calls k w0 (ends e w) h = let c : max w0.most_calls (w0.calls + 1) ≤ w.most_calls = h.most_calls in omega arith
some_calls k w0 (undefined l why w) h = let c : max w0.most_calls (w0.calls + 1) ≤ w.most_calls = h.most_calls in omega arith
some_calls k w0 (going l w) h = let c : max w0.most_calls (w0.calls + 1) ≤ w.most_calls = h.most_calls in omega arith

pub enter_after : (inner : Meanings) → AloneAdds inner → (setting : Setting) → Simulates setting inner → (f : Procedure) (vs : List Value) (w : World) → After (history w) (enter inner nowhere (Some f) vs w)
enter_after inner alone_after setting sim f vs w =
    let w2 : World = making (formal_cells f.formals vs) w in
    let env : Environment = bind_formals (length w.memory) 0 f.formals f.env in
    closing_after _ (length w.memory) (run_body inner f.body env w2) (body_after inner sim.grows alone_after f.body env w2)

-- where START's procedure is entered, and what its call does from there
pub record Entered (setting : Setting) (inner : Meanings) (f : Procedure) (w0 : World) (s0 : State) : Type 0 where
  pub at : State
  pub is : settled setting.program s0 ≡ at
  pub few : FewFrames setting s0.cells s0.frame setting.cap
  pub ran : (B : Account) → 16 * w0.turns + 16 ≤ B.most → B.least ≤ w0.turns → Ran setting at B (Over setting at B) AnyExit (enter inner nowhere (Some f) [] (calling w0))

pub entered_so : (setting : Setting) (p : Program) (n : ℕ) (input : List ℕ) → Simulates setting (means p n) → AloneRuns setting (means p n) → FirstStore setting (first_memory p) (first_cells setting.program setting.first) → (k : ℕ) (f : Procedure) → IsProcedure setting k f → 1 ≤ setting.cap
    → Entered setting (means p n) f (first_world p input n) (called_at setting input (setting.codes.procedure k))
entered_so setting p n input sim alone_runs fs k f ip cap1 =
    let w0 : World = first_world p input n in
    let s0 : State = called_at setting input (setting.codes.procedure k) in
    let s1 : State = state ip.scene.own 2 (Entry ip.label ip.name ∷ drop (suc ip.place) ip.scene.own.stmts) (first_cells setting.program setting.first) setting.first None [] w0 in
    let few0 : FewFrames setting s0.cells s0.frame 1 = λ k h. few_first setting.program setting.first FRAME_WORDS s0.cells s0.frame k refl fs.frame h in
    record {
      at = s1;
      is = entry_settled setting.program setting.first FRAME_WORDS setting.well ip.scene.section ip.scene.own ip.is_own s0 ip.place ip.label ip.name ip.at (ap At ip.word);
      few = roomy setting s0.cells s0.frame 1 few0 cap1;
      ran = λ B le le1. start_runs setting (means p n) sim alone_runs k f ip (first_cells setting.program setting.first) w0 fs refl cap1 B le le1;
    }

pub does_from : (setting : Setting) (p : Program) (n : ℕ) (input : List ℕ) → Simulates setting (means p n) → AloneRuns setting (means p n) → AloneAdds (means p n) → Procedures setting p → FirstStore setting (first_memory p) (first_cells setting.program setting.first) → NoStart setting p ⊎ HasStart setting p
    → calls_of (started p (read (first_memory p) (address globals_object 1)) (first_world p input n) n) ≡ setting.cap
    → DoesFrom setting.program setting.first n (first_state setting.program setting.first input) (started p (read (first_memory p) (address globals_object 1)) (first_world p input n) n)
does_from setting p n input sim alone_runs alone_after procs fs (inl none) ec = grind (arith, read)
does_from setting p n input sim alone_runs alone_after procs fs (inr has) ec =
    let m : Meanings = means p n in
    let w0 : World = first_world p input n in
    let s0 : State = called_at setting input (setting.codes.procedure has.number) in
    let run_at : Option Procedure → Run = λ o. run_of (returned nowhere 0 (enter m nowhere o [] (calling w0))) in
    let B : Account = record { most = 16 * n + 16; least = 0 } in
    let ef : first_state setting.program setting.first input ≡ Some s0 = ap (λ c. option_map (called_at setting input) (number_in c)) has.word in
    let em : started p (read (first_memory p) (address globals_object 1)) (first_world p input n) n ≡ run_of (call p m nowhere (procedure has.number) [] w0) = ap (λ v. started p v w0 n) has.is in
    subst (λ s. DoesFrom setting.program setting.first n s (started p (read (first_memory p) (address globals_object 1)) w0 n)) (sym ef)
    (subst (λ r. Does setting.program setting.first n s0 r) (sym em)
    (by_option (λ o. calls_of (run_at o) ≡ setting.cap → Does setting.program setting.first n s0 (run_at o)) (procedure_of p has.number) (λ _ ec. tt) (λ f eo ec.
    let o : Outcome Value = enter m nowhere (Some f) [] (calling w0) in
    let c1 : 1 ≤ calls_of (run_at (Some f)) = some_calls 0 w0 o (enter_after m alone_after setting sim f [] (calling w0)) in
    let cap1 : 1 ≤ setting.cap = omega arith in
    let x = entered_so setting p n input sim alone_runs fs has.number f (procs.each has.number f eo) cap1 in
    does_those setting s0 x.at x.is x.few n 0 B o (omega arith) ec (x.ran B (omega arith) (omega arith)).is) (ap calls_of (sym em) ∙ ec)))

-- Calls, for a value or not: the arguments, then the procedure, then its frame or a routine of the library.
use Rattle.bk_simulation.proofs.Pieces.{by_option, Moves, call_step, at_routine, entering, does, call_stmt, frames_called, Like, like_on, Applies, moved_on, fits_above, moved_above, stands_grown, below_like, settle_like, moves_bytes, turns_of, turns_among, Setting, CallAt, IsValue, AreValues, count, Configuration, start, FewFrames, Ready, Account, one, comes_on, Ran, went, each_way_ran, with_ran, CompletedAt, there, Out, next, ready_next, stay, roomy, completed_step, completed_on, ran_on, Simulates, for_values, value_run, called_cells, called_like, called_argument, called_frame, called_back, called_links, ◌≡◌, ℕ, suc, ◌+◌, ◌-◌, ◌*◌, ◌<◌, ◌≤◌, ◌^◌, max, nat_lt, Bool, true, false, List, ◌∷◌, length, Some, None, refl, sym, ap, ◌∙◌, subst, arith, option_map_or, slice_get_within, FRAME_WORDS, Expression, Expressions, Command, Word, Cell, content_of, below, settle, Placed, Callables, Inside, State, slot, can_be_called, Stmt, Stack, Value, procedure, routine, World, Exit, Outcome, calling, calls_back, Environment, past, procedure_of, history, After, Throughout, forwards, scope_of, alone, Meanings, enter, call, applied, adds, stays, with_after, closing_after, library, ties_add, library_ties, earlier, calling_on, each_way_after}
use Rattle.bk_ocode.specs.OcodeState as ocode
use Rattle.bk_meaning.specs.Values as value
use Rattle.bk_meaning.specs.Lasting.{Program}
use Rattle.bk_meaning.specs.Calls.{called, returned}
use Rattle.bk_simulation.proofs.Calls.{Calling, AnyExit, AloneRuns, body_after, Procedures, Gave, Listed, values_run, call_run, entered_runs}
use Rattle.bk_simulation.proofs.LibraryCalls.{named_there, library_runs}

-- the history of the scope of one command
abbrev pub AloneAdds : Meanings → Type 0
AloneAdds m = (x : Command) (env : Environment) (w : World) → After (history w) (scope_of m (alone x) forwards env w)

-- ---- a routine of the library is called

routine_moves : (of : Bool) (setting : Setting) (s : State) (own : Placed) (rest : List Stmt) (d n e : ℕ) (r : ocode.Routine) → s.control ≡ Inside own (d + 1) (call_stmt of n ∷ rest) → slot s d ≡ Word e
    → setting.program.callables.routine e ≡ Some r → nat_lt (2 ^ 31 - 65536) (s.frame + n) ≡ false → Moves setting.program s (entering s own d n e rest)
routine_moves of setting s own rest d n e r ec ew er el = (_, call_step setting.program s own rest of d n e ec ew (ap (λ y. option_map_or (λ _. true) y (setting.program.callables.is_entry e)) er) el, at_routine setting.program (entering s own d n e rest) e r refl er)

library_after : (place : ℕ) (r : value.Routine) (vs : List Value) (w : World) → After (history w) (library place r vs w)
library_after place r vs w = (ties_add _ _ (library_ties place r vs)).at w

routine_runs : (place : ℕ) (of : Bool) (setting : Setting) (r : value.Routine) (s : State) (A B : Account) (z : Configuration) (rest : List Stmt) (w w1 : World) (vs : List Value) → A.most + 4 ≤ B.most → B.least ≤ A.least
    → z.depth ≤ FRAME_WORDS → Ready setting z w → CallAt setting z.scene (call_stmt of z.depth) rest → setting.program.callables.routine (setting.codes.routine r) ≡ Some (named_there r) → Calling of setting s A z rest w vs (routine r) w1
    → Ran setting s B (λ v w3. Gave of setting s B z rest w v (calls_back w1.calls w3)) AnyExit (library place r vs (calling w1))
routine_runs place of setting r s A B z rest w w1 vs leB leB' led ready call known ca =
    let top : ℕ = z.frame + z.depth in
    let at_call : State = there setting s A z (call_stmt of z.depth ∷ rest) (ca.depth1 + 1) w w1 ca.arr in
    let back : ℕ = z.scene.own.places.call (length rest) in
    let items : ℕ = z.frame + ca.depth1 in
    let c2 : ℕ → Cell = called_cells ca.arr.cells1 z.frame top items back in
    let inside : nat_lt (2 ^ 31 - 65536) (z.frame + z.depth) ≡ false → max w1.most_calls (w1.calls + 1) ≤ setting.cap → Ran setting s B (λ v w3. Gave of setting s B z rest w v (calls_back w1.calls w3)) AnyExit (library place r vs (calling w1)) = λ h lc.
    let ec = ca.arr.calls_are in
    let dp = ready.deep in
    let id = ca.is_depth in
    let low : top + 2 ≤ items = omega arith in
    let like : (a : ℕ) → a < top → Like (c2 a) (ca.arr.cells1 a) = λ a lt. called_like ca.arr.cells1 z.frame top items back low a lt in
    let few0 : FewFrames setting ca.arr.cells1 z.frame w.calls = ca.arr.frames in
    let few2 : FewFrames setting c2 top (suc w.calls) =
    frames_called setting.program setting.first FRAME_WORDS ca.arr.cells1 c2 z.frame top w.calls (called_links ca.arr.cells1 z.frame top items back low z.frame (omega arith)) (called_frame ca.arr.cells1 z.frame top items back low) few0 in
    let s1 : State = entering at_call z.scene.own ca.depth1 z.depth (setting.codes.routine r) rest in
    let m1 : Moves setting.program at_call s1 = routine_moves of setting at_call z.scene.own rest ca.depth1 z.depth (setting.codes.routine r) (named_there r) refl ca.word known h in
    let ma = ca.arr.most in
    let la = ca.arr.least in
    library_runs _ of setting s (record { most = A.most + 1; least = A.least }) B z rest w (calling w1) vs r w1.calls (omega arith) (omega arith) ec ready call known (record {
      bases1 = ca.arr.bases1;
      cells1 = c2;
      written1 = (top + 1) ∷ (top ∷ ca.arr.written1);
      steps = ca.arr.steps + 1;
      paid = ca.arr.paid + setting.pay;
      comes = comes_on setting _ _ _ _ _ _ _ ca.arr.comes (one setting at_call s1 m1 (roomy setting c2 top (suc w.calls) few2 (omega arith)));
      has = moves_bytes setting.program at_call s1 m1 ca.arr.bytes;
      most = omega arith;
      least = omega arith;
      link0 = ap (λ a. content_of (c2 a)) (let e : top + 0 ≡ top = omega arith in e) ∙ ap content_of (called_frame ca.arr.cells1 z.frame top items back low);
      link1 = ap content_of (called_back ca.arr.cells1 z.frame top items back low);
      fits = fits_above setting.codes _ top c2 ca.arr.fits like;
      moved = moved_on setting.codes top top top _ _ _ ready.fits (omega arith) ca.arr.moved (moved_above _ top c2 like);
      each = λ i u e.
          let li : i < length vs = slice_get_within vs i u e in
          subst (λ a. Applies setting.codes ca.arr.bases1 u (content_of (c2 a))) (let q : top + 2 + i ≡ top + (2 + i) = omega arith in q)
          (subst (λ y. Applies setting.codes ca.arr.bases1 u (content_of y)) (sym (called_argument ca.arr.cells1 z.frame top items back low i (omega arith))) (ca.each i u e));
    }) in
    call_run led ca (library_after place r vs (calling w1)) inside

-- ---- what is called

-- each routine is there under its number
abbrev pub KnowsLibrary : Setting → Type 0
KnowsLibrary setting = (r : value.Routine) → setting.program.callables.routine (setting.codes.routine r) ≡ Some (named_there r)

called_after : (place : ℕ) (p : Program) (inner : Meanings) → Throughout (λ A w u. After (history w) u) inner → AloneAdds inner → (v : Value) (vs : List Value) (w : World) → After (history w) (called p inner place v vs w)
called_after place p inner grows alone_after (procedure k) vs w =
    by_option (λ f. After (history w) (enter inner place f vs w)) (procedure_of p k) (λ _. stays (history w)) (λ f _. closing_after _ (length w.memory) _ (body_after inner grows alone_after f.body _ _))
called_after place p inner grows alone_after (routine r) vs w = library_after place r vs w
called_after place p inner grows alone_after _ vs w = stays (history w)

pub call_after : (place : ℕ) (p : Program) (inner : Meanings) → Throughout (λ A w u. After (history w) u) inner → AloneAdds inner → (v : Value) (vs : List Value) (w : World) → After (history w) (call p inner place v vs w)
call_after place p inner grows alone_after v vs w =
    each_way_after (history w) (called p inner place v vs (calling w)) _ _ (earlier (history w) (history (calling w)) _ (calling_on w) (called_after place p inner grows alone_after v vs (calling w)))
    (λ a. adds _ (λ v. stays (history v))) (λ x. adds _ (λ v. stays (history v)))

called_runs : (place : ℕ) (of : Bool) (setting : Setting) (p : Program) (inner : Meanings) → Procedures setting p → KnowsLibrary setting → Simulates setting inner → AloneRuns setting inner → AloneAdds inner → (s : State) (A B : Account) (z : Configuration) (rest : List Stmt) (w w1 : World)
    (vs : List Value) (v : Value) → A.most + 4 ≤ B.most → B.least ≤ A.least → z.depth ≤ FRAME_WORDS → Ready setting z w → CallAt setting z.scene (call_stmt of z.depth) rest → Calling of setting s A z rest w vs v w1
    → Ran setting s B (λ v w3. Gave of setting s B z rest w v (calls_back w1.calls w3)) AnyExit (called p inner place v vs (calling w1))
called_runs place of setting p inner procs known sim alone_runs alone_after s A B z rest w w1 vs (procedure k) le le' led r call ca =
    by_option (λ f. Ran setting s B (λ v w3. Gave of setting s B z rest w v (calls_back w1.calls w3)) AnyExit (enter inner place f vs (calling w1)))
    (procedure_of p k) (λ _. went tt) (λ f e.
    entered_runs place of setting inner sim alone_runs alone_after k f (procs.each k f e) s A B z rest w w1 vs le le' led r call ca)
called_runs place of setting p inner procs known sim alone_runs alone_after s A B z rest w w1 vs (routine r) le le' led ready call ca = routine_runs place of setting r s A B z rest w w1 vs le le' led ready call (known r) ca
called_runs place of setting p inner procs known sim alone_runs alone_after s A B z rest w w1 vs _ le le' led r call ca = went tt

back_ran : {setting : Setting} {s : State} {B : Account} {K : Value → World → Type 0} {X : Exit → World → Type 0} {o : Outcome Value} (place n : ℕ)
    → Ran setting s B (λ v w3. K v (calls_back n w3)) AnyExit o → Ran setting s B K X (returned place n o)
back_ran place n q = each_way_ran (λ t. adds _ (λ w. stays (history w))) (λ x. adds _ (λ w. stays (history w))) q (λ v w3 k. went k) (λ x w k. went tt)

-- ---- the arguments, the procedure, the call

pub apply_runs : (place : ℕ) (of : Bool) (setting : Setting) (p : Program) (inner : Meanings) → Procedures setting p → KnowsLibrary setting → Simulates setting inner → AloneRuns setting inner → AloneAdds inner → (B : Account) (f : Expression) (es : Expressions) (z : Configuration)
    (c c1 c2 rest : List Stmt) (w : World) → 16 * w.turns + 5 ≤ B.most → B.least ≤ w.turns - (turns_among false es + turns_of false f) → c ≡ Stack (z.depth + 2) ∷ c1 → AreValues setting z.scene (z.depth + 2) (past f z.env) es c1 c2
    → IsValue setting z.scene (z.depth + 2 + count es) z.env f c2 (call_stmt of z.depth ∷ rest) → CallAt setting z.scene (call_stmt of z.depth) rest → z.depth + 2 + count es + 1 ≤ FRAME_WORDS → Ready setting z w
    → Ran setting (start z c w) B (Gave of setting (start z c w) B z rest w) (Out setting (start z c w) B z w) (applied p inner place f es z.env w)
apply_runs place of setting p inner procs known sim alone_runs alone_after B f es z c c1 c2 rest w leB leB' ec laid_es laid_f call room r =
    let A0 : Account = record { most = 16 * w.turns; least = w.turns } in
    let A : Account = record { most = 16 * w.turns + 1; least = w.turns } in
    let D : Account = record { most = 16 * w.turns + 1; least = w.turns - turns_among false es } in
    let C : Account = record { most = 16 * w.turns + 1; least = w.turns - (turns_among false es + turns_of false f) } in
    let s : State = start z c w in
    let top : ℕ = z.frame + z.depth in
    let cells0 : ℕ → Cell = below (z.frame + (z.depth + 2)) (settle (z.frame + z.depth) (z.frame + (z.depth + 2)) z.cells) in
    let like0 : (a : ℕ) → a < top → Like (cells0 a) (z.cells a) = λ a lt.
    like_on _ _ _ (below_like (z.frame + (z.depth + 2)) (settle (z.frame + z.depth) (z.frame + (z.depth + 2)) z.cells) a (let l : a < z.frame + z.depth = lt in omega arith)) (settle_like (z.frame + z.depth) (z.frame + (z.depth + 2)) z.cells a) in
    let dp = r.deep in
    let a0 : CompletedAt setting s A z c1 (z.depth + 2) w w = completed_step (stay setting A0 z c w (omega arith) (omega arith) r) cells0 None z.written (omega arith) like0 (does setting.program s z.scene.own c1 z.depth (Stack (z.depth + 2)) (ap (λ y. Inside z.scene.own z.depth y) ec) refl refl) in
    let z0 = next setting s A z c1 (z.depth + 2) w w (past f z.env) (z.depth + 2) a0 in
    with_ran {K = λ vs w1. Listed setting (start z0 c1 w) (for_values es w) z0 c2 es w vs w1}
    (λ vs. adds _ (λ w1. with_after _ _ _ (sim.grows.value f z.env w1) (λ v. adds _ (λ w2. call_after _ p inner sim.grows alone_after v vs w2))))
    (ran_on (omega arith) (omega arith) r (omega arith) a0 (λ vs w1 l. l) (values_run setting inner sim es z0 c1 c2 w laid_es (ready_next (past f z.env) (z.depth + 2) a0 refl (omega arith) r)))
    (λ vs w1 l.
    let ld = l.is_depth in
    let ll = l.long in
    let a1 : CompletedAt setting s D z c2 l.depth1 w w1 = completed_on (omega arith) (omega arith) r (omega arith) a0 l.arr in
    with_ran {K = λ v w2. Calling of setting s C z rest w vs v w2} (λ v. adds _ (λ w2. call_after _ p inner sim.grows alone_after v vs w2))
    (ran_on (omega arith) (omega arith) r (omega arith) a1
    (λ v w2 q. record {
      depth1 = l.depth1;
      is_depth = (let x = l.is_depth in let y = l.long in omega arith);
      arr = completed_on (omega arith) (omega arith) r (omega arith) a1 q.arr;
      word = q.stands;
      each = λ i u h.
          let lt : i < length vs = slice_get_within vs i u h in
          let e0 : z.frame + (z.depth + 2) + i ≡ z.frame + z.depth + 2 + i = omega arith in
          subst (λ a. Applies setting.codes q.arr.bases1 u (content_of (q.arr.cells1 a))) e0
          (stands_grown setting.codes l.arr.bases1 q.arr.bases1 u _ q.arr.moved.grown (subst (λ y. Applies setting.codes l.arr.bases1 u y)
          (sym (q.arr.moved.kept.as_was (z.frame + (z.depth + 2) + i) (omega arith) (λ o n b1 j al eb lj. let x = l.arr.fits.below o n b1 al eb in omega arith)).content)
          (l.each i u h)));
    })
    (value_run setting inner sim f (next setting s D z c2 l.depth1 w w1 z.env l.depth1 a1) c2 (call_stmt of z.depth ∷ rest) w1 (subst (λ d. IsValue setting z.scene d z.env f c2 (call_stmt of z.depth ∷ rest)) (sym l.is_depth) laid_f)
    (ready_next z.env l.depth1 a1 refl (omega arith) r)))
    (λ v w2 ca. back_ran _ w2.calls (called_runs _ of setting p inner procs known sim (alone_runs) alone_after s C B z rest w w2 vs v (omega arith) (omega arith) (omega arith) r call ca)))

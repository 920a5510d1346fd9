-- Where the sections mean a run without an end, the program goes on with it.
use Rattle.bk_simulation.proofs.Forms.{by_option, by_test, Setting, Account, FewFrames, Comes, here, go_on, FallsThose, Reaches, Ran, Simulates, AnyExit, Procedures, goes_on_so, comes_run, Over, calls_of, fell_out, NoStart, HasStart, called_at, some_calls, enter_after, entered_so, first_store, start_there, ltb-false, ◌≡◌, ℕ, zero, suc, ◌+◌, ◌*◌, ◌≤◌, nat_lt, true, false, List, [], Option, Some, None, refl, sym, ap, ◌∙◌, subst, arith, ◌⊎◌, ⊎_elim, inl, inr, FRAME_WORDS, option_map, Declarations, number_in, State, Goes, Program, run, first_state, Value, procedure, World, Outcome, gives, going, calling, Procedure, program_of, procedure_of, Meanings, enter, Going, Undefined, means, meaning, started, run_of, first_world, IsWellPlaced, ltb-true, cut_only_without_turns, settled, Begin, RunsOut, StillGoes, RunsOutOnTheWay, IsWithoutEnd, StepsDoWhatSourcesMean, StepsGoOnWithTheirSource, StartsWithTheirSource, AreAccepted, Represent, returned, nowhere, no_place}
use Rattle.bk_meaning.specs.Lasting as lasting
use Rattle.bk_simulation.proofs.All.{alone_runs, alone_adds, simulates}
use Rattle.bk_simulation.proofs.ProgramRuns.{passed}
use Rattle.bk_simulation.proofs.LaidPrograms.{setting, AreLaid, knows, laid_does, starts_with_their_source}
use Rattle.bk_simulation.proofs.ProgramLaid.{Together, laid_together}
use Rattle.bk_simulation.proofs.LieApart.{apart_together}

-- so many steps pay so much
abbrev times : ℕ → ℕ → ℕ
times zero k = 0
times (suc n) k = k + times n k

times_more : (n j k : ℕ) → n ≤ j → times n k ≤ times j k
times_more zero j k le = omega arith
times_more (suc n) zero k le = absurd (omega arith)
times_more (suc n) (suc j) k le = let h = times_more n j k (omega arith) in omega arith

comes_pays : (setting : Setting) (n p : ℕ) (s u : State) → Comes setting n p s u → p ≡ times n setting.pay
comes_pays setting _ _ s _ (here _) = refl
comes_pays setting _ _ s u (go_on n p _ t _ m f c) = ap (λ x. setting.pay + x) (comes_pays setting n p t u c)

-- the run comes as far as its steps pay for
record Far (setting : Setting) (n : ℕ) (s0 : State) (bytes : List ℕ) : Type 0 where
  pub last : State
  pub steps : ℕ
  pub runs : run setting.program steps s0 ≡ Goes last
  pub enough : n ≤ times steps setting.pay
  pub wrote : last.output ≡ bytes

abbrev back_to : ℕ → Outcome Value → Outcome Value
back_to k o = returned nowhere k o

far_so : (setting : Setting) (s0 s : State) → settled setting.program s0 ≡ s → FewFrames setting s0.cells s0.frame setting.cap → (n k : ℕ) (B : Account) (o : Outcome Value) → n ≤ B.least → ((at : ℕ) (v : World) → back_to k o ≡ going at v → v.turns ≡ 0)
    → (bytes left : List ℕ) (calls at : ℕ) → run_of (back_to k o) ≡ Going bytes left calls at → calls ≡ setting.cap → Ran setting s B (Over setting s B) AnyExit o → Far setting n s0 bytes ⊎ RunsOut setting.program setting.first s0 calls bytes
far_so setting s0 s is few n k B (gives v w) le cut bytes left calls at e ec r = absurd (cc)
far_so setting s0 s is few n k B (going l w) le cut bytes left calls at e ec r =
    let far : Reaches setting s B w → w.output ≡ bytes → Far setting n s0 bytes = λ q eb.
    let c = comes_run setting q.steps q.paid s s0 q.to is few q.comes in
    let pays = comes_pays setting q.steps q.paid s q.to q.comes in
    let h = goes_on_so setting.program setting.first FRAME_WORDS setting.well c.last in
    let z = cut l w refl in
    let lq = q.least in
    record {
      last = c.last;
      steps = q.steps;
      runs = c.runs;
      enough = omega arith;
      wrote = sym h.output ∙ ap (λ (x : State). x.output) c.settles ∙ q.wrote ∙ eb;
    } in
    let eb : w.output ≡ bytes = cc in
    let em : w.most_calls ≡ calls = cc in
    ⊎_elim (λ (q : Reaches setting s B w). inl (far q eb)) (λ (f : FallsThose setting s w.output w.most_calls). inr (falls f eb em)) r.is
  where
    falls : FallsThose setting s w.output w.most_calls → w.output ≡ bytes → w.most_calls ≡ calls → RunsOut setting.program setting.first s0 calls bytes
    falls (inl f) eb em = subst (λ c. RunsOut setting.program setting.first s0 c bytes) (sym ec) (subst (λ y. RunsOut setting.program setting.first s0 setting.cap y) eb (fell_out setting s0 s is few w.output f))
    falls (inr lt) eb em = absurd (omega arith)
far_so setting s0 s is few n k B _ le cut bytes left calls at e ec r = absurd (cc)

pub laid_goes_on : (sections : List Declarations) (program : Program) (first : ℕ) (input : List ℕ) (s : State) (well : IsWellPlaced program first FRAME_WORDS) → AreLaid program first well sections → first_state program first input ≡ Some s → IsWithoutEnd sections input
    → (j : ℕ) → StillGoes program first sections input s j ⊎ RunsOutOnTheWay program first sections input s
laid_goes_on sections program first input s well laid es without j =
    let n : ℕ = times j laid.pay + 1 in
    let bytes : List ℕ = (without n).0 in
    let left : List ℕ = (without n).1 in
    let calls : ℕ = (without n).2 in
    let at : ℕ = (without n).3 in
    let means_so : meaning sections input n ≡ Going bytes left calls at = (without n).4 in
    let g : Setting = setting program first well laid.codes laid.pay calls laid.lasting laid.low laid.vector in
    let p : lasting.Program = program_of sections in
    let procs : Procedures g p = laid.procedures calls in
    let m : Meanings = means p n in
    let w0 : World = first_world p input n in
    let sim : Simulates g m = simulates g p procs (knows g laid.library) n in
    let B : Account = record { most = 16 * n + 16; least = n } in
    let Result : Type 0 = StillGoes program first sections input s j ⊎ RunsOutOnTheWay program first sections input s in
    let there : Far g n s bytes → StillGoes program first sections input s j = λ q.
    let enough : j ≤ q.steps = by_test (nat_lt q.steps j) (λ (t : nat_lt q.steps j ≡ true). let lt = ltb-true q.steps j t in let le = times_more q.steps j laid.pay (omega arith) in let en = q.enough in absurd (omega arith)) (λ (t : nat_lt q.steps j ≡ false). ltb-false q.steps j t) in
    let x = passed program first FRAME_WORDS well j q.steps s q.last enough q.runs in
    record {
      now = x.now;
      goes = x.goes;
      turns = n;
      bytes = bytes;
      left = left;
      calls = calls;
      at = at;
      means = means_so;
      wrote = subst (λ y. Begin x.now.output y) q.wrote x.begins;
    } in
    let at_start : (x : HasStart g p) → called_at g input (g.codes.procedure x.number) ≡ s → Result = λ x here.
    let so : (o : Option Procedure) → procedure_of p x.number ≡ o → run_of (back_to 0 (enter m nowhere o [] (calling w0))) ≡ Going bytes left calls at = λ o eo. ap (λ y. run_of (back_to 0 (enter m nowhere y [] (calling w0)))) (sym eo) ∙ ap (λ v. started p v w0 n) (sym x.is) ∙ means_so in
    by_option (λ o. Result) (procedure_of p x.number) (λ eo. absurd (let z : Undefined [] input 1 nowhere no_place ≡ Going bytes left calls at = so None eo in cc)) (λ f eo.
    let o : Outcome Value = enter m nowhere (Some f) [] (calling w0) in
    let e : run_of (back_to 0 o) ≡ Going bytes left calls at = so (Some f) eo in
    let c1 : 1 ≤ calls_of (run_of (back_to 0 o)) = some_calls 0 w0 o (enter_after m (alone_adds g m sim) g sim f [] (calling w0)) in
    let cap1 : 1 ≤ calls = subst (λ y. 1 ≤ calls_of y) e c1 in
    let y = entered_so g p n input sim (alone_runs g m sim) (first_store g _ laid.holds laid.library) x.number f (procs.each x.number f eo) cap1 in
    let z = far_so g (called_at g input (g.codes.procedure x.number)) y.at y.is y.few n 0 B o (omega arith)
    (λ l v ev. cut_only_without_turns p nowhere (procedure x.number) [] n l w0 v (omega arith) (ap (λ u. back_to 0 (enter m nowhere u [] (calling w0))) eo ∙ ev)) bytes left calls at e refl (y.ran B (omega arith) (omega arith)) in
    ⊎_elim (λ (q : Far g n (called_at g input (g.codes.procedure x.number)) bytes). inl (there (subst (λ u. Far g n u bytes) here q)))
    (λ (q : RunsOut program first (called_at g input (g.codes.procedure x.number)) calls bytes). inr (record { turns = n; bytes = bytes; left = left; calls = calls; at = at; means = means_so; runs_out = subst (λ u. RunsOut program first u calls bytes) here q })) z) in
    ⊎_elim
    (λ (x : NoStart g p). absurd (let z : None ≡ Some s = sym (ap (λ c. option_map (called_at g input) (number_in c)) x.word) ∙ es in cc))
    (λ (x : HasStart g p). at_start x (let z : Some (called_at g input (g.codes.procedure x.number)) ≡ Some s = sym (ap (λ c. option_map (called_at g input) (number_in c)) x.word) ∙ es in cc))
    (start_there g _ laid.holds laid.library)

-- ---- THE LAWS OF PROGRAMS: the steps of OCODE do what the source means.

are_laid : (program : Program) (first : ℕ) (sections : List Declarations) → AreAccepted sections → Represent sections program.sections → (well : IsWellPlaced program first FRAME_WORDS) → AreLaid program first well sections
are_laid program first sections accepted stand well =
    let t : Together program first sections = record { well = well; accepted = accepted; stand = stand } in
    laid_together program first sections t (apart_together program first sections t)

pub steps_do_what_sources_mean : StepsDoWhatSourcesMean
steps_do_what_sources_mean sections program first n input accepted stand well = laid_does sections program first n input well (are_laid program first sections accepted stand well)

pub steps_go_on_with_their_source : StepsGoOnWithTheirSource
steps_go_on_with_their_source sections program first input s accepted stand well starts without = laid_goes_on sections program first input s well (are_laid program first sections accepted stand well) starts without

pub programs_start_with_their_source : StartsWithTheirSource
programs_start_with_their_source sections program first input accepted stand well = starts_with_their_source sections program first input well (are_laid program first sections accepted stand well)

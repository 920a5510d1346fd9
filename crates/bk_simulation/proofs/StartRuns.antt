-- START is called: into its frame, through its body, and home.
use Rattle.bk_simulation.proofs.Words.{Save, ◌≡◌, ℕ, suc, ◌+◌, ◌-◌, ◌*◌, ◌<◌, ◌≤◌, ◌^◌, List, [], ◌∷◌, ◌++◌, length, Some, None, pos, refl, sym, ap, ◌∙◌, subst, arith, ⊎_elim, slice_get, slice_get_within, FRAME_WORDS, GLOBAL_NUMBER, Status, Word, Link, Cell, Held, content_of, below, settle, Placed, Inside, At, State, Ends, global_place, step, Program, program_step, HasFrames, start, called, Entry, Value, unset, holds, Memory, World, making, forgetting, calling, status, Environment, Procedure, Meanings, formal_cells, bind_formals, enter, settle-kept, settled, drop, eq-eqb, Cell_of, nowhere}
use Rattle.bk_simulation.proofs.Pieces.{Moves, returning, does, links_kept, links_through, links_settled, BaseOf, Like, like_on, StandsCell, Store, Grown, Fits, fits_above, fits_more, make, grown_made, make_fits, get_new, below_at, below_like, settle_like, settle_at, HasBytes, AllBytes, moves_bytes, Setting, Configuration, state, FewFrames, Ready, Account, Comes, here, go_on, comes_on, one, Ran, ran_from, there, Stopped, roomy, Simulates, formals_long, formal_is}
use Rattle.bk_simulation.proofs.FramesKept.{links_below}
use Rattle.bk_simulation.proofs.Calls.{AnyExit, Yielded, AloneRuns, for_body, body_small, body_runs, closing_ran, IsProcedure, in_body, links_free}

-- what the store holds before START is called
pub record FirstStore (setting : Setting) (mem : Memory) (cells : ℕ → Cell) : Type 0 where
  pub fits : Fits setting.codes (record { bases = setting.lasting; mem = mem; cells = cells }) setting.first
  pub words : AllBytes cells
  pub frame : cells setting.first ≡ Held Link (Word setting.first)
  pub back : cells (suc setting.first) ≡ Held Link (Word setting.program.home)

-- at home a state goes on as itself, and the run ends
pub home_settled : (program : Program) (s : State) → s.control ≡ At program.home → settled program s ≡ s
home_settled program s e = grind (arith, eq-eqb)

pub home_ends : (program : Program) (s : State) → s.control ≡ At program.home → program_step program s ≡ Ends (Status (pos 0)) s
home_ends program s e = grind (arith, step, eq-eqb)

-- START's frame is the lowest
pub few_first : (program : Program) (first F : ℕ) (cells : ℕ → Cell) (frame m : ℕ) → frame ≡ first → cells frame ≡ Held Link (Word first) → HasFrames program first F cells frame m → m ≤ 1
few_first program first F cells _ _ same link (start e h) = omega arith
few_first program first F cells _ _ same link (called caller frame back d e h none low high under) = grind arith

-- what the call of START comes to
abbrev pub Over : Setting → State → Account → Value → World → Type 0
Over setting s B v w = Stopped setting s B (status 0) w

pub start_runs : (setting : Setting) (inner : Meanings) → Simulates setting inner → AloneRuns setting inner → (k : ℕ) (f : Procedure) → (ip : IsProcedure setting k f) → (c0 : ℕ → Cell) (w0 : World) → FirstStore setting w0.memory c0 → w0.calls ≡ 0 → 1 ≤ setting.cap → (B : Account)
    → 16 * w0.turns + 16 ≤ B.most → B.least ≤ w0.turns
    → Ran setting (state ip.scene.own 2 (Entry ip.label ip.name ∷ drop (suc ip.place) ip.scene.own.stmts) c0 setting.first None [] w0) B (Over setting (state ip.scene.own 2 (Entry ip.label ip.name ∷ drop (suc ip.place) ip.scene.own.stmts) c0 setting.first None [] w0) B) AnyExit
    (enter inner nowhere (Some f) [] (calling w0))
start_runs setting inner sim alone_runs k f ip c0 w0 fs no_calls cap1 B leB leB' =
    let top : ℕ = setting.first in
    let size : ℕ = length f.formals + 2 in
    let o : ℕ = length w0.memory in
    let own : Placed = ip.scene.own in
    let c3 : ℕ → Cell = below (top + size) (settle (top + 2) (top + size) c0) in
    let cells : List Cell_of = formal_cells f.formals [] in
    let h1 : Store = record { bases = setting.lasting; mem = w0.memory; cells = c3 } in
    let env : Environment = bind_formals o 0 f.formals f.env in
    let b : ℕ = top + 2 in
    let w2 : World = making cells (calling w0) in
    let z1 : Configuration = in_body ip.scene env top (setting.lasting ++ b ∷ []) c3 [] size in
    let s1 : State = state own 2 (Entry ip.label ip.name ∷ drop (suc ip.place) own.stmts) c0 top None [] w0 in
    let s2 : State = state own 2 (drop (suc ip.place) own.stmts) c0 top None [] w0 in
    let s3 : State = state own size ip.body c3 top None [] w0 in
    let N : Account = for_body f.body w2 in
    let none_there : (i : ℕ) (c : Cell_of) → ((v : Value) × (slice_get [] i ≡ Some v) × (c ≡ holds v)) → StandsCell setting.codes setting.lasting c (content_of (c3 (b + i))) = λ i c x.
    absurd (let e : None ≡ Some x.0 = x.1 in cc) in
    let over : (v : Value) (w3 : World) → Yielded setting s3 N z1 w2 v w3 → Fits setting.codes h1 top → Comes setting 2 (setting.pay + (setting.pay + 0)) s1 s3 → Over setting s1 B v (forgetting o w3) = λ v w3 q f1 to_body.
    let kept : (a : ℕ) → top ≤ a → a < b → Like (q.arr.cells1 a) (c3 a) = λ a ge lt. q.arr.moved.kept.as_was a (omega arith) (links_free setting h1 top b cells a f1 ge lt) in
    let held : (a : ℕ) → a < b → c3 a ≡ c0 a = λ a lt. below_at (top + size) (settle (top + 2) (top + size) c0) a (omega arith) ∙ settle-kept (top + 2) (top + size) c0 a lt in
    let link0 : content_of (q.arr.cells1 (top + 0)) ≡ Word top =
    (kept (top + 0) (omega arith) (omega arith)).content ∙ ap content_of (held (top + 0) (omega arith)) ∙ ap (λ a. content_of (c0 a)) (let e : top + 0 ≡ top = omega arith in e) ∙ ap content_of fs.frame in
    let link1 : content_of (q.arr.cells1 (top + 1)) ≡ Word setting.program.home =
    (kept (top + 1) (omega arith) (omega arith)).content ∙ ap content_of (held (top + 1) (omega arith)) ∙ ap (λ a. content_of (c0 a)) (let e : top + 1 ≡ suc top = omega arith in e) ∙ ap content_of fs.back in
    let from : State = there setting s3 N z1 q.control q.depth1 w2 w3 q.arr in
    let home : State = returning from q.result setting.program.home top in
    let few : FewFrames setting q.arr.cells1 top setting.cap = roomy setting q.arr.cells1 top _ q.arr.frames q.arr.room in
    let few1 : FewFrames setting home.cells top setting.cap = links_kept setting.program setting.first FRAME_WORDS q.arr.cells1 home.cells top setting.cap (links_below (suc top) top q.arr.cells1) few in
    let mv : Moves setting.program from home = (home, q.leaves setting.program.home top link1 link0, home_settled setting.program home refl) in
    let mq = q.arr.most in
    record {
      to = home;
      steps = 2 + (q.arr.steps + 1);
      paid = setting.pay + (setting.pay + 0) + (q.arr.paid + setting.pay);
      comes = comes_on setting _ _ _ _ _ _ _ to_body (comes_on setting _ _ _ _ _ _ _ q.arr.comes (one setting _ _ mv few1));
      most = omega arith;
      end = Status (pos 0);
      is_end = refl;
      stops = home_ends setting.program home refl;
      wrote = refl;
      left = refl;
    } in
    let some : 2 ≤ size = omega arith in
    let le : top ≤ 2 ^ 31 - 65536 = setting.well.low in
    let above : global_place GLOBAL_NUMBER < setting.first = setting.well.is_program.above_globals in
    let fw : size ≤ FRAME_WORDS = ip.few in
    let long = fs.fits.long in
    let some_bases : 0 < length setting.lasting = slice_get_within setting.lasting 0 16 setting.vector in
    let some_made : 0 < o = omega arith in
    let bs = body_small setting ip.scene size env f.body ip.body (ip.laid o some_made) in
    let lf = formals_long f.formals [] in
    let like : (a : ℕ) → a < top → Like (c3 a) (c0 a) = λ a lt. like_on _ _ _ (below_like (top + size) (settle (top + 2) (top + size) c0) a (omega arith)) (settle_like (top + 2) (top + size) c0 a) in
    let f1 : Fits setting.codes h1 top = fits_above setting.codes _ top c3 fs.fits like in
    let few0 : FewFrames setting c0 top 1 = λ n h. few_first setting.program setting.first FRAME_WORDS c0 top n refl fs.frame h in
    let few3 : FewFrames setting c3 top 1 =
    links_kept setting.program setting.first FRAME_WORDS c0 c3 top 1
    (links_through (suc top) c0 (settle (top + 2) (top + size) c0) c3 (links_settled (suc top) (top + 2) (top + size) c0) (links_below (suc top) (top + size) (settle (top + 2) (top + size) c0))) few0 in
    let cap0 : FewFrames setting c0 top setting.cap = roomy setting c0 top 1 few0 cap1 in
    let cap3 : FewFrames setting c3 top setting.cap = roomy setting c3 top 1 few3 cap1 in
    let m2 : Moves setting.program s1 s2 = does setting.program s1 own (drop (suc ip.place) own.stmts) 2 (Entry ip.label ip.name) refl refl refl in
    let m3 : Moves setting.program s2 s3 = does setting.program s2 own ip.body 2 (Save size) (ap (λ y. Inside own 2 y) ip.following) refl refl in
    let to_body : Comes setting 2 (setting.pay + (setting.pay + 0)) s1 s3 = go_on 1 _ s1 s2 s3 m2 cap0 (go_on 0 0 s2 s3 s3 m3 cap3 (here s3)) in
    let has1 : HasBytes s1 = record { words = fs.words; hand = tt } in
    let has3 : HasBytes s3 = moves_bytes setting.program s2 s3 m3 (moves_bytes setting.program s1 s2 m2 has1) in
    let fm : Fits setting.codes (make h1 b cells) (b + length cells) = make_fits setting.codes h1 top b cells f1 (omega arith) (omega arith) (omega arith)
    (λ i c e. ⊎_elim (λ (x : (v : Value) × (slice_get [] i ≡ Some v) × (c ≡ holds v)). none_there i c x) (λ (x : c ≡ holds unset). subst (λ y. StandsCell setting.codes setting.lasting y (content_of (c3 (b + i)))) (sym x) tt) (formal_is f.formals [] i c e))
    (λ i lt. (content_of (c0 (b + i)), below_at (top + size) (settle (top + 2) (top + size) c0) (b + i) (omega arith) ∙ settle_at (top + 2) (top + size) c0 (b + i) (omega arith) (omega arith))) in
    let fm1 : Fits setting.codes (make h1 b cells) (top + size) = fits_more setting.codes (make h1 b cells) (b + length cells) (top + size) (omega arith) fm in
    let grown : Grown setting.lasting z1.bases = grown_made setting.lasting b in
    let r1 : Ready setting z1 w2 = record {
      named = ip.names o top z1.bases grown (subst (λ y. BaseOf z1.bases y b) fs.fits.long (get_new setting.lasting b)) le;
      fits = fm1;
      low = le;
      high = omega arith;
      deep = some;
      frames = subst (λ n. FewFrames setting c3 top n) (let q : 1 ≡ w0.calls + 1 = omega arith in q) few3;
      room = (let q : w0.calls + 1 ≤ setting.cap = omega arith in q);
      lasts = grown;
      words = has3.words;
      in_hand = tt;
    } in
    closing_ran {K = Yielded setting s3 N z1 w2} o (λ v w3 q. over v w3 q f1 to_body)
    (ran_from to_body (omega arith) (omega arith) (λ v w3 q. q) (λ x w3 q. q)
    (body_runs setting inner sim alone_runs f.body z1 ip.body w2 (ip.laid o some_made) r1))

-- Calls of procedures: their frame, their body, and back. A procedure is called: into its frame, through its body, and back.
use Rattle.bk_simulation.proofs.Pieces.{by_test, by_option, Applies, BaseOf, Grown, Like, like_refl, Moved, Fits, moved_on, fits_above, moved_above, Alive, StandsCell, Store, fits_more, turns_of, turns_through, Setting, Scene, IsAlone, IsValue, CallAt, AreValues, count, Configuration, start, Ready, Account, Ran, went, each_way_ran, so, CompletedAt, there, Has, Out, store, state, FewFrames, Comes, comes_on, one, with_ran, next, ready_next, here, go_on, falls_on, ran_from, completed_more, roomy, links_below, stay, completed_on, ran_on, ran_more, above, Simulates, for_scope, RanDid, for_value, for_values, value_run, Moves, returning, return_item_step, entering, does, call_stmt, call_step, call_settled, entry_settled, LinksFrom, links_kept, frames_called, untouched, below_at, below_like, HasBytes, moves_bytes, make, grown_made, lying, Since, since_on, since_made, since_moved, closed_moved, closed_fits, make_fits, IsFree, get_new, called_cells, saved_cells, called_argument, called_frame, called_back, called_links, saved_links, saved_same, saved_like, saved_formal, formals_long, formal_is, NamedIn, ◌≡◌, ℕ, ◌+◌, ◌-◌, ◌*◌, ◌≤◌, Bool, List, ◌∷◌, length, Option, Some, None, refl, ap, arith, slice_get, suc, ◌<◌, ◌^◌, ◌≢◌, true, false, sym, ◌∙◌, subst, zero, Command, Expression, Expressions, Content, Word, content_of, Temporary, Link, Cell, Held, write, below, Inside, State, Goes, At, in_hand, program_step, Stmt, ReturnItem, Return, Entry, Save, Value, unset, World, Exit, return, Outcome, gives, each_way, closing, forgetting, Done, calls_back, Environment, past, Body, command, expression, Procedure, procedure_of, history, After, Throughout, forwards, scope_of, alone, Meanings, return_exit, run_body, bind_formals, values, adds, stays, each_way_after, with_after, FRAME_WORDS, max, nat_lt, [], ◌++◌, ⊎_elim, inl, inr, append-nil, option_map_or, slice_get_within, Placed, Callables, slot, can_be_called, procedure, holds, making, calling, formal_cells, enter, closing_after, ltb-false, ltb-true, IsCallAt, drop, Cell_of, written}
use Rattle.bk_meaning.specs.Lasting.{Program}
use Rattle.bk_tree.specs.Tree as t

-- ---- The arguments of a call, from left to right.

-- what several values leave only adds to the history
pub values_after : (inner : Meanings) → Throughout (λ A w u. After (history w) u) inner → (es : Expressions) (env : Environment) (w : World) → After (history w) (values inner es env w)
values_after inner grows t.none env w = stays (history w)
values_after inner grows (t.more e es) env w =
    with_after _ (inner.value e env w) _ (grows.value e env w) (λ v. adds _ (λ w1. with_after _ (values inner es (past e env) w1) _ (values_after inner grows es (past e env) w1) (λ vs. adds _ (λ w2. stays (history w2)))))

-- they stand one above another
pub record Listed (setting : Setting) (s : State) (B : Account) (z : Configuration) (c : List Stmt) (es : Expressions) (w : World) (vs : List Value) (w1 : World) : Type 0 where
  pub depth1 : ℕ
  pub is_depth : depth1 ≡ z.depth + count es
  pub long : length vs ≡ count es
  pub arr : CompletedAt setting s B z c depth1 w w1
  pub each : (i : ℕ) (v : Value) → slice_get vs i ≡ Some v → Applies setting.codes arr.bases1 v (content_of (arr.cells1 (z.frame + z.depth + i)))

-- the first of them, and those after it
first_of_list : (setting : Setting) (s : State) (A N B : Account) (z : Configuration) (c c2 : List Stmt) (e : Expression) (es : Expressions) (w w1 w2 : World) (v : Value) (vs : List Value)
    → A.most + N.most ≤ B.most + 16 * w1.turns → B.least ≤ N.least + (A.least - w1.turns) → Ready setting z w → (a : Has setting s A z c (z.depth + 1) w v w1)
    → Listed setting (start (next setting s A z c (z.depth + 1) w w1 (past e z.env) (z.depth + 1) a.arr) c w1) N (next setting s A z c (z.depth + 1) w w1 (past e z.env) (z.depth + 1) a.arr) c2 es w1 vs w2
    → Listed setting s B z c2 (t.more e es) w (v ∷ vs) w2
first_of_list setting s A N B z c c2 e es w w1 w2 v vs le1 le2 r a l = record {
  depth1 = l.depth1;
  is_depth = (let x = l.is_depth in omega arith);
  long = (let x = l.long in omega arith);
  arr = completed_on le1 le2 r (omega arith) a.arr l.arr;
  each = at_index;
}
  where
    at_index : (i : ℕ) (u : Value) → slice_get (v ∷ vs) i ≡ Some u → Applies setting.codes l.arr.bases1 u (content_of (l.arr.cells1 (z.frame + z.depth + i)))
    at_index zero u h =
        let e0 : z.frame + z.depth ≡ z.frame + z.depth + 0 = omega arith in
        let eu : v ≡ u = cc in
        subst (λ x. Applies setting.codes l.arr.bases1 u (content_of (l.arr.cells1 x))) e0
        (subst (λ x. Applies setting.codes l.arr.bases1 x (content_of (l.arr.cells1 (z.frame + z.depth)))) eu (above a l.arr))
    at_index (suc i) u h =
        let e0 : z.frame + (z.depth + 1) + i ≡ z.frame + z.depth + suc i = omega arith in
        subst (λ x. Applies setting.codes l.arr.bases1 u (content_of (l.arr.cells1 x))) e0 (l.each i u h)

pub values_run : (setting : Setting) (inner : Meanings) → Simulates setting inner → (es : Expressions) (z : Configuration) (c rest : List Stmt) (w : World) → AreValues setting z.scene z.depth z.env es c rest → Ready setting z w
    → Ran setting (start z c w) (for_values es w) (Listed setting (start z c w) (for_values es w) z rest es w) (Out setting (start z c w) (for_values es w) z w) (values inner es z.env w)
values_run setting inner sim t.none z c rest w laid r =
    went (record {
      depth1 = z.depth;
      is_depth = omega arith;
      long = refl;
      arr = subst (λ x. CompletedAt setting (start z c w) (for_values t.none w) z x z.depth w w) laid (stay setting (for_values t.none w) z c w (omega arith) (omega arith) r);
      each = λ i v h. absurd (let q : None ≡ Some v = h in cc);
    })
values_run setting inner sim (t.more e es) z c rest w laid r =
    let s = start z c w in
    let A = for_value e w in
    let B = for_values (t.more e es) w in
    let c1 = laid.0 in
    with_ran (λ v. adds _ (λ w1. with_after _ _ _ (values_after inner sim.grows es (past e z.env) w1) (λ vs. adds _ (λ w2. stays (history w2)))))
    (ran_more (omega arith) (omega arith) (value_run setting inner sim e z c c1 w laid.1 r)) (λ v w1 va.
    with_ran {K = λ vs w2. Listed setting s B z rest (t.more e es) w (v ∷ vs) w2} (λ vs. adds _ (λ w2. stays (history w2)))
    (ran_on (omega arith) (omega arith) r (omega arith) va.arr (λ vs w2 l. first_of_list setting s A (for_values es w1) B z c1 rest e es w w1 w2 v vs (omega arith) (omega arith) r va l)
    (values_run setting inner sim es (next setting s A z c1 (z.depth + 1) w w1 (past e z.env) (z.depth + 1) va.arr) c1 rest w1 laid.2 (ready_next (past e z.env) (z.depth + 1) va.arr refl (omega arith) r)))
    (λ vs w2 l. went l))

-- ---- Calls and returns: the frame of a call, and back behind it.

-- what a call comes to
abbrev pub Gave : Bool → Setting → State → Account → Configuration → List Stmt → World → Value → World → Type 0
Gave true setting s B z rest w v w3 = Has setting s B z rest (z.depth + 1) w v w3
Gave false setting s B z rest w v w3 = CompletedAt setting s B z rest z.depth w w3

-- The run has come to a step back from the frame at the situation's top, with this result.
pub record Back (setting : Setting) (s : State) (A : Account) (z : Configuration) (w : World) (back : ℕ) (result : Option Content) (w3 : World) : Type 0 where
  pub from : State
  pub steps : ℕ
  pub paid : ℕ
  pub comes : Comes setting steps paid s from
  pub has : HasBytes from
  pub most : steps + 16 * w3.turns ≤ A.most
  pub least : A.least ≤ w3.turns + paid
  pub bases1 : List ℕ
  pub cells1 : ℕ → Cell
  pub written1 : List ℕ
  pub returns : program_step setting.program from ≡ Goes (record {
    control = At back;
    cells = below (z.frame + z.depth) cells1;
    frame = z.frame;
    hand = result;
    input = w3.input;
    output = w3.output;
    written = written1;
  })
  pub fits : Fits setting.codes (record { bases = bases1; mem = w3.memory; cells = cells1 }) (z.frame + z.depth)
  pub moved : Moved (z.frame + z.depth) (store z w) (record { bases = bases1; mem = w3.memory; cells = cells1 })

-- cells at the caller's
item_like : (top : ℕ) (f : ℕ → Cell) (c : Cell) (a : ℕ) → a < top → Like (write (below top f) top c a) (f a)
item_like top f c a lt = let ne : a ≢ top = omega arith in like_refl _ _ (untouched (below top f) top c a ne ∙ below_at top f a lt)

-- links there are those of before
links_of : (top frame : ℕ) (old mid new : ℕ → Cell) → suc frame < top → ((a w : ℕ) → a < top → mid a ≡ Held Link (Word w) → old a ≡ Held Link (Word w)) → ((a : ℕ) → a < top → Like (new a) (mid a))
    → LinksFrom (suc frame) old new
links_of top frame old mid new lt links like x w le e = links x w (omega arith) ((like x (omega arith)).link w e)

abbrev came_back : {setting : Setting} {s : State} {A B : Account} {z : Configuration} {c : List Stmt} {d : ℕ} {w w3 : World} {back : ℕ} {result : Option Content} (n : ℕ)
    → A.most + 1 ≤ B.most → B.least ≤ A.least → n ≡ w.calls → Ready setting z w
    → (q : Back setting s A z w back result w3) (new : ℕ → Cell) (written2 : List ℕ) → ((a : ℕ) → a < z.frame + z.depth → Like (new a) (q.cells1 a))
    → Moves setting.program q.from (state z.scene.own d c new z.frame None written2 w3) → CompletedAt setting s B z c d w (calls_back n w3)
came_back {setting} {z = z} {w = w} n le le' en r q new written2 like m =
    let top = z.frame + z.depth in
    let few : FewFrames setting new z.frame w.calls = links_kept setting.program setting.first FRAME_WORDS z.cells new z.frame w.calls (links_of top z.frame z.cells q.cells1 new (links_below r) q.moved.links like) r.frames in
    record {
      steps = q.steps + 1;
      paid = q.paid + setting.pay;
      bases1 = q.bases1;
      cells1 = new;
      hand1 = None;
      written1 = written2;
      comes = comes_on setting _ _ _ _ _ _ _ q.comes (one setting _ _ m (roomy setting new z.frame w.calls few r.room));
      most = omega (arith, q.most, q.least);
      least = omega (arith, q.most, q.least);
      calls_are = en;
      frames = few;
      room = r.room;
      bytes = moves_bytes setting.program q.from _ m q.has;
      fits = fits_above setting.codes _ top new q.fits like;
      moved = moved_on setting.codes top top top _ _ _ r.fits (omega (arith, q.most, q.least)) q.moved (moved_above _ top new like);
    }

pub returned_in : (of : Bool) (setting : Setting) (s : State) (A B : Account) (z : Configuration) (rest : List Stmt) (w w3 : World) (n : ℕ) (v : Value) (result : Option Content) → A.most + 1 ≤ B.most → B.least ≤ A.least → n ≡ w.calls
    → Ready setting z w → CallAt setting z.scene (call_stmt of z.depth) rest → (q : Back setting s A z w (z.scene.own.places.call (length rest)) result w3) → Applies setting.codes q.bases1 v (in_hand result)
    → Gave of setting s B z rest w v (calls_back n w3)
returned_in true setting s A B z rest w w3 n v result le le' en r call q st =
    let top = z.frame + z.depth in
    let new : ℕ → Cell = write (below top q.cells1) top (Held Temporary (in_hand result)) in
    let t : State = record { control = At (z.scene.own.places.call (length rest)); cells = below top q.cells1; frame = z.frame; hand = result; input = w3.input; output = w3.output; written = q.written1 } in
    let m : Moves setting.program q.from (state z.scene.own (z.depth + 1) rest new z.frame None (top ∷ q.written1) w3) =
    subst (λ c. Moves setting.program q.from (state z.scene.own (z.depth + 1) c new z.frame None (top ∷ q.written1) w3)) call.following
    (t, q.returns, call_settled setting.program setting.first FRAME_WORDS setting.well z.scene.section z.scene.own call.is_own true t call.place z.depth call.at (ap (λ c. At (z.scene.own.places.call (length c))) (sym call.following))) in
    record {
      arr = came_back n le le' en r q new (top ∷ q.written1) (λ a lt. item_like top q.cells1 (Held Temporary (in_hand result)) a lt) m;
      stands = subst (λ y. Applies setting.codes q.bases1 v (content_of y)) (sym (written (below top q.cells1) top (Held Temporary (in_hand result)))) st;
    }
returned_in false setting s A B z rest w w3 n v result le le' en r call q st =
    let top = z.frame + z.depth in
    let t : State = record { control = At (z.scene.own.places.call (length rest)); cells = below top q.cells1; frame = z.frame; hand = result; input = w3.input; output = w3.output; written = q.written1 } in
    came_back n le le' en r q (below top q.cells1) q.written1 (λ a lt. below_like top q.cells1 a lt)
    (subst (λ c. Moves setting.program q.from (state z.scene.own z.depth c (below top q.cells1) z.frame None q.written1 w3)) call.following
    (t, q.returns, call_settled setting.program setting.first FRAME_WORDS setting.well z.scene.section z.scene.own call.is_own false t call.place z.depth call.at (ap (λ c. At (z.scene.own.places.call (length c))) (sym call.following))))

-- ---- Where the procedures of a program are laid.

-- the code of a body, with its return
abbrev pub IsBody : Setting → Scene → ℕ → Environment → Body → List Stmt → Type 0
IsBody setting sc d env (command x) c = (j : ℕ) × (r : List Stmt) × IsAlone setting sc d env x j c (Return ∷ r)
IsBody setting sc d env (expression e) c = (r : List Stmt) × IsValue setting sc d env e c (ReturnItem ∷ r) × (turns_of false e ≤ setting.pay)

-- Procedure n: its ENTRY and SAVE, its body behind them, and what the names there mean in a run, where its formals are an object that begins
-- behind the links of its frame.
pub record IsProcedure (setting : Setting) (n : ℕ) (f : Procedure) : Type 0 where
  pub scene : Scene
  pub is_own : slice_get setting.program.sections scene.section ≡ Some scene.own
  pub place : ℕ
  pub label : ℕ
  pub name : List ℕ
  pub at : slice_get scene.own.stmts place ≡ Some (Entry label name)
  pub body : List Stmt
  pub following : drop (suc place) scene.own.stmts ≡ Save (length f.formals + 2) ∷ body
  pub word : setting.codes.procedure n ≡ scene.own.places.label label
  pub few : length f.formals + 2 ≤ FRAME_WORDS
  pub laid : (object : ℕ) → 0 < object → IsBody setting scene (length f.formals + 2) (bind_formals object 0 f.formals f.env) f.body body
  pub names : (object frame : ℕ) (bases : List ℕ) → Grown setting.lasting bases → BaseOf bases object (frame + 2) → frame ≤ 2 ^ 31 - 65536
      → NamedIn scene (bind_formals object 0 f.formals f.env) bases frame

-- all of a program
pub record Procedures (setting : Setting) (p : Program) : Type 0 where
  pub each : (n : ℕ) (f : Procedure) → procedure_of p n ≡ Some f → IsProcedure setting n f

-- Where a procedure is to be called: its word is on top of the arguments.
pub record Calling (of : Bool) (setting : Setting) (s : State) (A : Account) (z : Configuration) (rest : List Stmt) (w : World) (vs : List Value) (v : Value) (w1 : World) : Type 0 where
  pub depth1 : ℕ
  pub is_depth : depth1 ≡ z.depth + 2 + length vs
  pub arr : CompletedAt setting s A z (call_stmt of z.depth ∷ rest) (depth1 + 1) w w1
  pub word : Applies setting.codes arr.bases1 v (content_of (arr.cells1 (z.frame + depth1)))
  pub each : (i : ℕ) (u : Value) → slice_get vs i ≡ Some u → Applies setting.codes arr.bases1 u (content_of (arr.cells1 (z.frame + z.depth + 2 + i)))

-- nothing is said of an exit out of a procedure
abbrev pub AnyExit : Exit → World → Type 0
AnyExit x w = Unit {0}

-- ---- a body

-- A body is done: the next step is a return with this result.
pub record Yielded (setting : Setting) (s : State) (B : Account) (z : Configuration) (w : World) (v : Value) (w1 : World) : Type 0 where
  pub control : List Stmt
  pub depth1 : ℕ
  pub result : Option Content
  pub arr : CompletedAt setting s B z control depth1 w w1
  pub stands : Applies setting.codes arr.bases1 v (in_hand result)
  pub leaves : (c p : ℕ) → content_of (arr.cells1 (z.frame + 1)) ≡ Word c → content_of (arr.cells1 (z.frame + 0)) ≡ Word p
      → program_step setting.program (there setting s B z control depth1 w w1 arr) ≡ Goes (returning (there setting s B z control depth1 w w1 arr) result c p)

-- the scope of one command does what it means
abbrev pub AloneRuns : Setting → Meanings → Type 0
AloneRuns setting m = (x : Command) (z : Configuration) (j : ℕ) (c rest : List Stmt) (w : World) → IsAlone setting z.scene z.depth z.env x j c rest → Ready setting z w
    → RanDid setting (start z c w) (for_scope (alone x) w) z rest w (scope_of m (alone x) forwards z.env w)

returned_by : (setting : Setting) (s : State) (B : Account) (z : Configuration) (w w1 : World) (control : List Stmt) (depth1 : ℕ) (r : List Stmt) → control ≡ Return ∷ r → CompletedAt setting s B z control depth1 w w1 → Yielded setting s B z w unset w1
returned_by setting s B z w w1 control depth1 r e a = grind (arith, there)

returned_exit : (setting : Setting) (s : State) (B : Account) (z : Configuration) (w : World) (x : Exit) (w1 : World) → Out setting s B z w x w1 → Ran setting s B (Yielded setting s B z w) AnyExit (return_exit x w1)
returned_exit setting s B z w return w1 q = went (returned_by setting s B z w w1 q.control q.depth1 q.leads.0 q.leads.1 q.arr)
returned_exit setting s B z w _ w1 q = went tt

exit_after : (y : Exit) (w : World) → After (history w) (return_exit y w)
exit_after return w = stays (history w)
exit_after _ w = stays (history w)

returned_ran : (setting : Setting) (s : State) (B : Account) (z : Configuration) (r : List Stmt) (w : World) (o : Outcome Done) → RanDid setting s B z (Return ∷ r) w o
    → Ran setting s B (Yielded setting s B z w) AnyExit (each_way (λ _ w. gives unset w) return_exit o)
returned_ran setting s B z r w o q = grind (arith, adds, stays, exit_after, went, returned_by, returned_exit)

valued_by : (setting : Setting) (s : State) (B : Account) (z : Configuration) (r : List Stmt) (w : World) (v : Value) (w1 : World)
    → Has setting s B z (ReturnItem ∷ r) (z.depth + 1) w v w1 → Yielded setting s B z w v w1
valued_by setting s B z r w v w1 q = record {
  control = ReturnItem ∷ r;
  depth1 = z.depth + 1;
  result = Some (content_of (q.arr.cells1 (z.frame + z.depth)));
  arr = q.arr;
  stands = q.stands;
  leaves = λ c p e1 e0. return_item_step setting.program (there setting s B z (ReturnItem ∷ r) (z.depth + 1) w w1 q.arr) z.scene.own r z.depth c p refl e1 e0;
}

abbrev pub turns_of_body : Body → ℕ
turns_of_body (command x) = turns_through false (alone x)
turns_of_body (expression e) = turns_of false e

abbrev pub for_body : Body → World → Account
for_body b w = record { most = 16 * w.turns; least = w.turns - turns_of_body b }

pub body_small : (setting : Setting) (sc : Scene) (d : ℕ) (env : Environment) (b : Body) (c : List Stmt) → IsBody setting sc d env b c → turns_of_body b ≤ setting.pay
body_small setting sc d env (command x) c laid = laid.2.2
body_small setting sc d env (expression e) c laid = laid.2

pub body_runs : (setting : Setting) (inner : Meanings) → Simulates setting inner → AloneRuns setting inner → (b : Body) (z : Configuration) (c : List Stmt) (w : World) → IsBody setting z.scene z.depth z.env b c → Ready setting z w
    → Ran setting (start z c w) (for_body b w) (Yielded setting (start z c w) (for_body b w) z w) AnyExit (run_body inner b z.env w)
body_runs setting inner sim alone_runs (command x) z c w laid r =
    returned_ran setting (start z c w) (for_body (command x) w) z laid.1 w (scope_of inner (alone x) forwards z.env w) (alone_runs x z laid.0 c (Return ∷ laid.1) w laid.2 r)
body_runs setting inner sim alone_runs (expression e) z c w laid r =
    so (omega arith) (omega arith) (λ v w1 q. valued_by setting (start z c w) (for_body (expression e) w) z laid.0 w v w1 (record { arr = completed_more (omega arith) (omega arith) q.arr; stands = q.stands })) (λ x w1 q. tt)
    (value_run setting inner sim e z c (ReturnItem ∷ laid.0) w laid.1 r)

-- ---- histories

pub body_after : (inner : Meanings) → Throughout (λ A w u. After (history w) u) inner → ((x : Command) (env : Environment) (w : World) → After (history w) (scope_of inner (alone x) forwards env w)) → (b : Body) (env : Environment) (w : World)
    → After (history w) (run_body inner b env w)
body_after inner grows alone_after (command x) env w =
    each_way_after _ (scope_of inner (alone x) forwards env w) _ return_exit (alone_after x env w) (λ _. adds _ (λ w. stays (history w))) (λ y. adds _ (λ w. exit_after y w))
body_after inner grows alone_after (expression e) env w = grows.value e env w

-- what was made for the call dies
pub closing_ran : {T : Type 0} {setting : Setting} {s : State} {B : Account} {K L : T → World → Type 0} {o : Outcome T} (k : ℕ)
    → ((t : T) (w : World) → K t w → L t (forgetting k w)) → Ran setting s B K AnyExit o → Ran setting s B L AnyExit (closing k o)
closing_ran k h q = each_way_ran (λ t. adds _ (λ w. stays (history w))) (λ x. adds _ (λ w. stays (history w))) q (λ t w i. went (h t w i)) (λ x w i. went tt)

pub call_too_high : (n : ℕ) (of : Bool) (rest : List Stmt) → IsCallAt n (call_stmt of n ∷ rest)
call_too_high n true rest = refl
call_too_high n false rest = refl

callable : (c : Callables) (e : ℕ) → c.is_entry e ≡ true → can_be_called c e ≡ true
callable c e h = by_option (λ r. option_map_or (λ _. true) r (c.is_entry e) ≡ true) (c.routine e) (λ _. h) (λ _ _. refl)

-- the step into a procedure, for a value or not
call_moves : (of : Bool) (setting : Setting) (s : State) (own : Placed) (rest : List Stmt) (section : ℕ) (other : Placed) → slice_get setting.program.sections section ≡ Some other → (d n i l : ℕ) (name : List ℕ)
    → s.control ≡ Inside own (d + 1) (call_stmt of n ∷ rest) → slot s d ≡ Word (other.places.label l) → slice_get other.stmts i ≡ Some (Entry l name) → nat_lt (2 ^ 31 - 65536) (s.frame + n) ≡ false
    → Moves setting.program s (record (entering s own d n (other.places.label l) rest) { control = Inside other 2 (Entry l name ∷ drop (suc i) other.stmts); hand = None })
call_moves of setting s own rest section other is_own d n i l name ec ew at el = (
  _,
  call_step setting.program s own rest of d n (other.places.label l) ec ew (callable setting.program.callables (other.places.label l) (setting.well.entries section i l other name is_own at).0) el,
  entry_settled setting.program setting.first FRAME_WORDS setting.well section other is_own (entering s own d n (other.places.label l) rest) i l name at refl,
)

-- the situation in a procedure
abbrev pub in_body : Scene → Environment → ℕ → List ℕ → (ℕ → Cell) → List ℕ → ℕ → Configuration
in_body sc env frame bases cells wr depth = record { scene = sc; env = env; frame = frame; bases = bases; cells = cells; hand = None; written = wr; depth = depth }

-- the words of the links are in no object
pub links_free : (setting : Setting) (h : Store) (top b : ℕ) (cells : List Cell_of) (a : ℕ) → Fits setting.codes h top → top ≤ a → a < b → IsFree (make h b cells) a
links_free setting h top b cells a f le lt o n b1 i l e li z =
    ⊎_elim (λ (x : (Alive h.mem o n) × (BaseOf h.bases o b1)). let u = f.below o n b1 x.0 x.1 in absurd (omega arith))
    (λ (x : (o ≡ length h.mem) × (n ≡ length cells) × (b1 ≡ b)). let x2 = x.2 in absurd (omega arith)) (lying h b cells o n b1 f.long l e).lies

-- A call: the run falls where the frame would begin too high or too many calls would be active.
pub call_run : {of : Bool} {setting : Setting} {s : State} {A B : Account} {z : Configuration} {rest : List Stmt} {w w1 : World} {vs : List Value} {v : Value}
    {K : Value → World → Type 0} {o : Outcome Value} → z.depth ≤ FRAME_WORDS → Calling of setting s A z rest w vs v w1
    → After (history (calling w1)) o → (nat_lt (2 ^ 31 - 65536) (z.frame + z.depth) ≡ false → max w1.most_calls (w1.calls + 1) ≤ setting.cap → Ran setting s B K AnyExit o)
    → Ran setting s B K AnyExit o
call_run {of} {setting} {s} {A} {B} {z} {rest} {w} {w1} {o = o} led ca after inside =
    by_test (nat_lt (2 ^ 31 - 65536) (z.frame + z.depth))
    (λ (h : nat_lt (2 ^ 31 - 65536) (z.frame + z.depth) ≡ true). record {
      is = inr (falls_on setting s (calling w1) o (inl (record {
        to = there setting s A z (call_stmt of z.depth ∷ rest) (ca.depth1 + 1) w w1 ca.arr;
        steps = ca.arr.steps;
        paid = ca.arr.paid;
        comes = ca.arr.comes;
        too_high = record { own = z.scene.own; depth = ca.depth1 + 1; left = call_stmt of z.depth ∷ rest; control = refl; slot = z.depth; within = led; is_call = call_too_high z.depth of rest; past = ltb-true _ _ h };
        rest = [];
        begins = sym (append-nil w1.output);
      })) after);
    })
    (λ (h : nat_lt (2 ^ 31 - 65536) (z.frame + z.depth) ≡ false). by_test (nat_lt setting.cap (max w1.most_calls (w1.calls + 1)))
    (λ (hc : nat_lt setting.cap (max w1.most_calls (w1.calls + 1)) ≡ true). record { is = inr (falls_on setting s (calling w1) o (inr (ltb-true _ _ hc)) after) })
    (λ (hc : nat_lt setting.cap (max w1.most_calls (w1.calls + 1)) ≡ false). inside h (ltb-false _ _ hc)))

pub entered_runs : (place : ℕ) (of : Bool) (setting : Setting) (inner : Meanings) → Simulates setting inner → AloneRuns setting inner → ((x : Command) (env : Environment) (w : World) → After (history w) (scope_of inner (alone x) forwards env w))
    → (k : ℕ) (f : Procedure) → IsProcedure setting k f → (s : State) (A B : Account) (z : Configuration) (rest : List Stmt) (w w1 : World) (vs : List Value) → A.most + 4 ≤ B.most → B.least ≤ A.least → z.depth ≤ FRAME_WORDS
    → Ready setting z w → CallAt setting z.scene (call_stmt of z.depth) rest → Calling of setting s A z rest w vs (procedure k) w1
    → Ran setting s B (λ v w3. Gave of setting s B z rest w v (calls_back w1.calls w3)) AnyExit (enter inner place (Some f) vs (calling w1))
entered_runs place of setting inner sim alone_runs alone_after k f ip s A B z rest w w1 vs leB leB' led r call ca =
    let top : ℕ = z.frame + z.depth in
    let size : ℕ = length f.formals + 2 in
    let o : ℕ = length w1.memory in
    let own : Placed = ip.scene.own in
    let back : ℕ = z.scene.own.places.call (length rest) in
    let items : ℕ = z.frame + ca.depth1 in
    let c2 : ℕ → Cell = called_cells ca.arr.cells1 z.frame top items back in
    let c3 : ℕ → Cell = saved_cells c2 top size in
    let cells : List Cell_of = formal_cells f.formals vs in
    let h1 : Store = record { bases = ca.arr.bases1; mem = w1.memory; cells = c3 } in
    let env : Environment = bind_formals o 0 f.formals f.env in
    let at_call : State = there setting s A z (call_stmt of z.depth ∷ rest) (ca.depth1 + 1) w w1 ca.arr in
    let wr : List ℕ = (top + 1) ∷ (top ∷ ca.arr.written1) in
    let b : ℕ = top + 2 in
    let w2 : World = making cells (calling w1) in
    let z1 : Configuration = in_body ip.scene env top (ca.arr.bases1 ++ b ∷ []) c3 wr size in
    let after_it : After (history (calling w1)) (enter inner place (Some f) vs (calling w1)) =
    closing_after _ o (run_body inner f.body env w2) (body_after inner sim.grows alone_after f.body env w2) in
    let inside : nat_lt (2 ^ 31 - 65536) (z.frame + z.depth) ≡ false → max w1.most_calls (w1.calls + 1) ≤ setting.cap → Ran setting s B (λ v w3. Gave of setting s B z rest w v (calls_back w1.calls w3)) AnyExit (enter inner place (Some f) vs (calling w1)) = λ h lc.
    let argument_stands : (i : ℕ) (c : Cell_of) → ((v : Value) × (slice_get vs i ≡ Some v) × (c ≡ holds v)) → i + 2 < size → StandsCell setting.codes ca.arr.bases1 c (content_of (c3 (b + i))) = λ i c x lt.
    let id = ca.is_depth in
    let li : i < length vs = slice_get_within vs i x.0 x.1 in
    let low : top + 2 ≤ items = omega arith in
    let some : 2 ≤ size = omega arith in
    let e : content_of (c3 (b + i)) ≡ content_of (ca.arr.cells1 (b + i)) =
    ap content_of (saved_formal ca.arr.cells1 z.frame top items back low size some i lt) ∙ ap content_of (called_argument ca.arr.cells1 z.frame top items back low i (omega arith)) in
    subst (λ y. StandsCell setting.codes ca.arr.bases1 y (content_of (c3 (b + i)))) (sym x.2) (subst (λ y. Applies setting.codes ca.arr.bases1 x.0 y) (sym e) (ca.each i x.0 x.1)) in
    let ec = ca.arr.calls_are in
    let dp = r.deep in
    let id = ca.is_depth in
    let low : top + 2 ≤ items = omega arith in
    let some : 2 ≤ size = omega arith in
    let le : top ≤ 2 ^ 31 - 65536 = ltb-false _ _ h in
    let rm : w1.calls + 1 ≤ setting.cap = omega arith in
    let fw : size ≤ FRAME_WORDS = ip.few in
    let long = ca.arr.fits.long in
    let some_bases : 0 < length ca.arr.bases1 = slice_get_within ca.arr.bases1 0 16 (ca.arr.moved.grown.each 0 16 (r.lasts.each 0 16 setting.vector)) in
    let some_made : 0 < o = omega arith in
    let bs = body_small setting ip.scene size env f.body ip.body (ip.laid o some_made) in
    let lf = formals_long f.formals vs in
    let like : (a : ℕ) → a < top → Like (c3 a) (ca.arr.cells1 a) = λ a lt. saved_like ca.arr.cells1 z.frame top items back low size some a lt in
    let f1 : Fits setting.codes h1 top = fits_above setting.codes _ top c3 ca.arr.fits like in
    let few0 : FewFrames setting ca.arr.cells1 z.frame w.calls = ca.arr.frames in
    let few2 : FewFrames setting c2 top (suc w.calls) =
    frames_called setting.program setting.first FRAME_WORDS ca.arr.cells1 c2 z.frame top w.calls (called_links ca.arr.cells1 z.frame top items back low z.frame (omega arith)) (called_frame ca.arr.cells1 z.frame top items back low) few0 in
    let few3 : FewFrames setting c3 top (suc w.calls) = links_kept setting.program setting.first FRAME_WORDS c2 c3 top (suc w.calls) (saved_links ca.arr.cells1 z.frame top items back low size some (suc top)) few2 in
    let cap2 : FewFrames setting c2 top setting.cap = roomy setting c2 top (suc w.calls) few2 (omega arith) in
    let cap3 : FewFrames setting c3 top setting.cap = roomy setting c3 top (suc w.calls) few3 (omega arith) in
    let s1 : State = state own 2 (Entry ip.label ip.name ∷ drop (suc ip.place) own.stmts) c2 top None wr w1 in
    let s2 : State = state own 2 (drop (suc ip.place) own.stmts) c2 top None wr w1 in
    let s3 : State = state own size ip.body c3 top None wr w1 in
    let m1 : Moves setting.program at_call s1 = call_moves of setting at_call z.scene.own rest ip.scene.section own ip.is_own ca.depth1 z.depth ip.place ip.label ip.name refl (ca.word ∙ ap Word ip.word) ip.at h in
    let m2 : Moves setting.program s1 s2 = does setting.program s1 own (drop (suc ip.place) own.stmts) 2 (Entry ip.label ip.name) refl refl refl in
    let m3 : Moves setting.program s2 s3 = does setting.program s2 own ip.body 2 (Save size) (ap (λ y. Inside own 2 y) ip.following) refl refl in
    let to_body : Comes setting 3 (setting.pay + (setting.pay + (setting.pay + 0))) at_call s3 = go_on 2 _ at_call s1 s3 m1 cap2 (go_on 1 _ s1 s2 s3 m2 cap2 (go_on 0 0 s2 s3 s3 m3 cap3 (here s3))) in
    let has3 : HasBytes s3 = moves_bytes setting.program s2 s3 m3 (moves_bytes setting.program s1 s2 m2 (moves_bytes setting.program at_call s1 m1 ca.arr.bytes)) in
    let high : 16 ≤ z.frame = r.high in
    let fm : Fits setting.codes (make h1 b cells) (b + length cells) = make_fits setting.codes h1 top b cells f1 (omega arith) (omega arith) (omega arith)
    (λ i c e. ⊎_elim (λ (x : (v : Value) × (slice_get vs i ≡ Some v) × (c ≡ holds v)). argument_stands i c x (let li = slice_get_within cells i c e in omega arith)) (λ (x : c ≡ holds unset). subst (λ y. StandsCell setting.codes ca.arr.bases1 y (content_of (c3 (b + i)))) (sym x) tt) (formal_is f.formals vs i c e))
    (λ i lt. (content_of (c2 (b + i)), saved_formal ca.arr.cells1 z.frame top items back low size some i (omega arith))) in
    let fm1 : Fits setting.codes (make h1 b cells) (top + size) = fits_more setting.codes (make h1 b cells) (b + length cells) (top + size) (omega arith) fm in
    let grown : Grown setting.lasting z1.bases = record { each = λ o1 b1 e. (grown_made ca.arr.bases1 b).each o1 b1 (ca.arr.moved.grown.each o1 b1 (r.lasts.each o1 b1 e)) } in
    let r1 : Ready setting z1 w2 = record {
      named = ip.names o top z1.bases grown (subst (λ y. BaseOf z1.bases y b) ca.arr.fits.long (get_new ca.arr.bases1 b)) le;
      fits = fm1;
      low = le;
      high = (let q = r.high in omega arith);
      deep = some;
      frames = subst (λ n. FewFrames setting c3 top n) (let q : suc w.calls ≡ w1.calls + 1 = omega arith in q) few3;
      room = rm;
      lasts = grown;
      words = has3.words;
      in_hand = tt;
    } in
    let N = for_body f.body w2 in
    let ma = ca.arr.most in
    let la = ca.arr.least in
    closing_ran {K = Yielded setting s3 N z1 w2} o
    (λ v w3 q0.
    let mq = q0.arr.most in
    let lq = q0.arr.least in
    let h3 : Store = record { bases = q0.arr.bases1; mem = w3.memory; cells = q0.arr.cells1 } in
    let opened : Since top h1 h3 = since_on {h1 = make h1 b cells} (omega arith) (since_made b cells h1 f1.long (omega arith)) (since_moved fm1 q0.arr.fits q0.arr.moved) in
    let kept : (a : ℕ) → top ≤ a → a < b → Like (q0.arr.cells1 a) (c3 a) = λ a ge lt. q0.arr.moved.kept.as_was a (omega arith) (links_free setting h1 top b cells a f1 ge lt) in
    let link0 : content_of (q0.arr.cells1 (top + 0)) ≡ Word z.frame =
    ap (λ a. content_of (q0.arr.cells1 a)) (let e : top + 0 ≡ top = omega arith in e) ∙ (kept top (omega arith) (omega arith)).content
    ∙ ap content_of (saved_same ca.arr.cells1 z.frame top items back low size some top (omega arith) ∙ called_frame ca.arr.cells1 z.frame top items back low) in
    let link1 : content_of (q0.arr.cells1 (top + 1)) ≡ Word back =
    (kept (top + 1) (omega arith) (omega arith)).content ∙ ap content_of (saved_same ca.arr.cells1 z.frame top items back low size some (top + 1) (omega arith) ∙ called_back ca.arr.cells1 z.frame top items back low) in
    returned_in of setting s (record { most = A.most + 3; least = A.least }) B z rest w (forgetting o w3) w1.calls v q0.result (omega arith) (omega arith) ec r call (record {
      from = there setting s3 N z1 q0.control q0.depth1 w2 w3 q0.arr;
      steps = ca.arr.steps + (3 + q0.arr.steps);
      paid = ca.arr.paid + (setting.pay + (setting.pay + (setting.pay + 0)) + q0.arr.paid);
      comes = comes_on setting _ _ _ _ _ _ _ ca.arr.comes (comes_on setting _ _ _ _ _ _ _ to_body q0.arr.comes);
      has = q0.arr.bytes;
      most = omega arith;
      least = omega arith;
      bases1 = q0.arr.bases1;
      cells1 = q0.arr.cells1;
      written1 = q0.arr.written1;
      returns = q0.leaves back z.frame link1 link0;
      fits = closed_fits setting.codes top (top + size) h1 h3 f1 opened q0.arr.fits;
      moved = moved_on setting.codes top top top _ _ _ r.fits (omega arith) ca.arr.moved
          (moved_on setting.codes top top top _ _ _ ca.arr.fits (omega arith) (moved_above _ top c3 like) (closed_moved opened));
    }) q0.stands)
    (ran_from (comes_on setting _ _ _ _ _ _ _ ca.arr.comes to_body) (omega arith) (omega arith) (λ v w3 q. q) (λ x w3 q. q)
    (body_runs setting inner sim alone_runs f.body z1 ip.body w2 (ip.laid o some_made) r1)) in
    call_run led ca after_it inside

-- Blocks with declarations.
use Rattle.bk_simulation.proofs.Words.{◌≡◌, ℕ, suc, ◌+◌, ◌-◌, ◌*◌, ◌<◌, ◌≤◌, Bool, true, false, cond, List, [], ◌∷◌, length, None, refl, sym, ap, ◌∙◌, subst, arith, FRAME_WORDS, Commands, Declaration, Declarations, Binding, Cell, content_of, below, settle, Inside, State, Stmt, Stack, Store as Store_stmt, World, with, closing, Environment, labelled, following, within_let, objects_of_definitions, history, After, Throughout, Sought, the_label, forwards, one_has_place, Meanings, scope_of, adds, stays, with_after, Start, bind_variables, declare, declare_all}
use Rattle.bk_simulation.proofs.Forms.{Moves, does, Codes, Like, like_on, Store, Grown, below_at, below_like, settle_like, settle_at, turns_one_declared, turns_declared, turns_through, Setting, Scene, NamedIn, Spot, defines_variables, KeepsLabels, IsAct, AreActs, AreDeclared, IsOneDeclared, owning, LeadsTo, some_objects, Configuration, store, state, start, Ready, Account, Ran, went, with_ran, OpenCompleted, store_at, named_grown, begun, accounted, completed_more, OpenExited, open_configuration, open_ready, open_step, open_on, ran_open, closed_ran, Since, since_refl, since_cells, closes, Simulates, RanDid, scope_runs, open_lift, Lets, defined_rise, no_spots, let_run, let_values_after, SpotsAt, RisingSpots, AreVariables, spots_carried, bind_run}
use Rattle.bk_tree.specs.Tree as t
use Rattle.bk_simulation.proofs.Renamed.{keeps_both}

-- what a declaration leaves, with what is laid behind it
pub record Declared (setting : Setting) (s : State) (A : Account) (z : Configuration) (w : World) (then : Scene → ℕ → Environment → List Stmt → Type 0) (env1 : Environment) (w1 : World) : Type 0 where
  pub bs : List Binding
  pub d1 : ℕ
  pub c1 : List Stmt
  pub arr : OpenCompleted setting s A z w c1 d1 (z.frame + d1) w1
  pub deep : z.depth ≤ d1
  pub keeps : KeepsLabels z.scene.bindings bs
  pub named : NamedIn (record z.scene { bindings = bs }) env1 arr.bases1 z.frame
  pub laid : then (record z.scene { bindings = bs }) d1 env1 c1

bind_after : (ss : List Start) (env : Environment) (w : World) → After (history w) (bind_variables ss env w)
bind_after [] env w = stays (history w)
bind_after (s ∷ ss) env w = bind_after ss _ _

declare_after : (inner : Meanings) → Throughout (λ A w u. After (history w) u) inner → (d : Declaration) (env : Environment) (w : World) → After (history w) (declare inner d env w)
declare_after inner grows (t.constants l s is) env w = stays (history w)
declare_after inner grows (t.definitions l ds) env w = with_after _ _ _ (let_values_after inner grows ds (within_let ds env) w) (λ ss. adds _ (λ w1. bind_after ss _ w1))

declare_all_after : (inner : Meanings) → Throughout (λ A w u. After (history w) u) inner → (ds : Declarations) (env : Environment) (w : World) → After (history w) (declare_all inner ds env w)
declare_all_after inner grows t.no_declarations env w = stays (history w)
declare_all_after inner grows (t.declare d ds) env w = with_after _ _ _ (declare_after inner grows d env w) (λ env1. adds _ (λ w1. declare_all_after inner grows ds env1 w1))

-- STORE makes variables of the items
stored_variables : (codes : Codes) (h : Store) (cells : ℕ → Cell) (frame d1 from : ℕ) (ss : List Start) (ps : List Spot) → 2 ≤ from → SpotsAt codes h frame d1 ss ps → RisingSpots from ps
    → AreVariables (below (frame + d1) (settle (frame + 2) (frame + d1) cells)) frame ps
stored_variables codes h cells frame d1 from (s ∷ ss) (p ∷ ps) le at rise =
    let lt : p.slot < d1 = at.3 in
    let ge : from ≤ p.slot = rise.0 in (
      (content_of (cells (frame + p.slot)), below_at (frame + d1) (settle (frame + 2) (frame + d1) cells) (frame + p.slot) (omega arith) ∙ settle_at (frame + 2) (frame + d1) cells (frame + p.slot) (omega arith) (omega arith)),
      stored_variables codes h cells frame d1 (suc p.slot) ss ps (omega arith) at.4 rise.1,
    )
stored_variables codes h cells frame d1 from [] (p ∷ ps) le at rise = absurd at
stored_variables codes h cells frame d1 from _ [] le at rise = tt

-- a LET's items are in their words
pub record Stored (setting : Setting) (s : State) (C : Account) (z : Configuration) (w : World) (rest : List Stmt) (d1 : ℕ) (ps : List Spot) (bases : List ℕ) (ss : List Start) (w1 : World) : Type 0 where
  pub arr : OpenCompleted setting s C z w rest d1 (z.frame + d1) w1
  pub items : SpotsAt setting.codes (store_at arr) z.frame d1 ss ps
  pub vars : AreVariables arr.cells1 z.frame ps
  pub grown : Grown bases arr.bases1

stored : (setting : Setting) (s : State) (C : Account) (z : Configuration) (w : World) (h : Store) (d : ℕ) (c1 c2 : List Stmt) (d1 : ℕ) (ps : List Spot) (vars : Bool) (ss : List Start) (w1 : World) → Ready setting z w → z.depth ≤ d → d ≤ d1 → RisingSpots d ps → c1 ≡ cond vars (Store_stmt ∷ c2) c2
    → (vars ≡ false → ps ≡ []) → Lets setting s C z w h d c1 d1 ps vars ss w1 → Stored setting s C z w c2 d1 ps h.bases ss w1
stored setting s C z w h d c1 c2 d1 ps false ss w1 r le le1 rise ec none k =
    subst (λ y. Stored setting s C z w y d1 ps h.bases ss w1) ec
    (record { arr = k.arr; items = k.items; vars = subst (λ y. AreVariables k.arr.cells1 z.frame y) (sym (none refl)) tt; grown = k.since.grown })
stored setting s C z w h d c1 c2 d1 ps true ss w1 r le le1 rise ec none k =
    let dp = r.deep in
    let sp : k.arr.steps + 16 * w1.turns + 1 ≤ C.most = k.spare refl in
    let lk = k.arr.least in
    let cells2 : ℕ → Cell = below (z.frame + d1) (settle (z.frame + 2) (z.frame + d1) k.arr.cells1) in
    let like : (x : ℕ) → x < z.frame + d1 → Like (cells2 x) (k.arr.cells1 x) = λ x lt. like_on _ _ _ (below_like (z.frame + d1) (settle (z.frame + 2) (z.frame + d1) k.arr.cells1) x lt) (settle_like (z.frame + 2) (z.frame + d1) k.arr.cells1 x) in
    let C1 : Account = record { most = C.most - 1; least = C.least } in
    let a1 : OpenCompleted setting s C1 z w c1 d1 (z.frame + d1) w1 = accounted w1.turns k.arr (omega arith) (omega arith) in
    let st : State = state z.scene.own d1 c1 k.arr.cells1 z.frame k.arr.hand1 k.arr.written1 w1 in
    let mv : Moves setting.program st (state z.scene.own d1 c2 cells2 z.frame None k.arr.written1 w1) = does setting.program st z.scene.own c2 d1 Store_stmt (ap (λ y. Inside z.scene.own d1 y) ec) refl refl in
    let h1 : Store = record { bases = k.arr.bases1; mem = w1.memory; cells = k.arr.cells1 } in
    record {
      arr = completed_more (omega arith) (omega arith) (open_step r (omega arith) a1 cells2 None k.arr.written1 like mv);
      items = spots_carried setting.codes h1 (record h1 { cells = cells2 }) z.frame d1 d1 ss ps (omega arith) (since_cells {top = z.frame + d1} h1 like) k.items;
      vars = stored_variables setting.codes h1 k.arr.cells1 z.frame d1 d ss ps (omega arith) k.items rise;
      grown = k.since.grown;
    }

-- one declaration
pub one_declared_run : (setting : Setting) (inner : Meanings) → Simulates setting inner → (h : Declaration) (env : Environment) (bs : List Binding) (then : Scene → ℕ → Environment → List Stmt → Type 0) (s : State) (A C B : Account) (z : Configuration) (w : World) (c : List Stmt) (d : ℕ) (w1 : World)
    → Ready setting z w → z.depth ≤ d → KeepsLabels z.scene.bindings bs → A.most ≤ C.most → C.least ≤ A.least - turns_one_declared false h → C.most ≤ B.most → B.least ≤ C.least → IsOneDeclared setting (record z.scene { bindings = bs }) d env h then c
    → (a : OpenCompleted setting s A z w c d (z.frame + d) w1) → NamedIn (record z.scene { bindings = bs }) env a.bases1 z.frame
    → Ran setting s B (Declared setting s C z w then) (OpenExited setting s B z w) (declare inner h env w1)
one_declared_run setting inner sim (t.constants x q is) env bs then s A C B z w c d w1 r le keeps le1 le2 le3 le4 l a named = went (record {
  bs = l.0;
  d1 = d;
  c1 = c;
  arr = completed_more le1 (omega arith) a;
  deep = le;
  keeps = keeps_both z.scene.bindings bs l.0 keeps l.1.0;
  named = l.1.1 a.bases1 z.frame (record { each = λ o b e. a.moved.grown.each o b (r.lasts.each o b e) }) named;
  laid = l.2;
})
one_declared_run g m sim (t.definitions x ds) env bs then s A C B z w c d w1 r le keeps le1 le2 le3 le4 l a named =
    let lets = within_let ds env in
    let env2 = following (objects_of_definitions ds) lets in
    let bl = l.0 in
    let d1 = l.2 in
    let ps = l.3 in
    let c2 = l.5 in
    let h = store_at a in
    let grown : Grown g.lasting a.bases1 = record { each = λ o b e. a.moved.grown.each o b (r.lasts.each o b e) } in
    let namedl : NamedIn (record z.scene { bindings = bl }) lets a.bases1 z.frame = l.6.1 a.bases1 z.frame grown named in
    let rise = defined_rise g (record z.scene { bindings = bl }) ds d lets c l.4 d1 ps l.8 in
    let few : d1 ≤ FRAME_WORDS = l.10 in
    with_ran (λ ss. adds _ (λ w2. bind_after ss env2 w2))
    (open_lift le3 le4 (λ ss w2 q. q)
    (let_run g m sim ds lets bl s A C z w c l.4 d d1 ps w1 r le (keeps_both z.scene.bindings bs bl keeps l.6.0) few le1 le2 l.8 a namedl))
    (λ ss w2 k.
    let st = stored g s C z w h d l.4 c2 d1 ps (defines_variables ds) ss w2 r le rise.0 rise.1 l.9 (no_spots g (record z.scene { bindings = bl }) ds d lets c l.4 d1 ps l.8) k in
    let b = bind_run ss ps d env2 g s C z w c2 d1 d1 w2 r.high le (omega (arith, r.low)) st.arr st.items rise.1 st.vars in
    let gr : Grown a.bases1 b.arr.bases1 = record { each = λ o b1 e. b.grown.each o b1 (st.grown.each o b1 e) } in
    subst (λ y. Ran g s B (Declared g s C z w then) (OpenExited g s B z w) y) (sym b.gives_it) (went (record {
      bs = l.1;
      d1 = d1;
      c1 = c2;
      arr = b.arr;
      deep = (let q = rise.0 in omega (arith, r.low));
      keeps = keeps_both z.scene.bindings bs l.1 keeps l.7.0;
      named = l.7.1 (length w2.memory) b.arr.bases1 z.frame r.low b.at (named_grown (record z.scene { bindings = bl }) lets a.bases1 b.arr.bases1 z.frame gr namedl);
      laid = l.11 (length w2.memory) (let some = some_objects g z w r in let long : length w.memory ≤ length w2.memory = st.arr.moved.long in omega (arith, r.low));
    })))

-- all at the head of a block
pub all_declared_run : (setting : Setting) (inner : Meanings) → Simulates setting inner → (hs : Declarations) (env : Environment) (bs : List Binding) (then : Scene → ℕ → Environment → List Stmt → Type 0) (s : State) (A C B : Account) (z : Configuration) (w : World) (c : List Stmt) (d : ℕ) (w1 : World)
    → Ready setting z w → z.depth ≤ d → KeepsLabels z.scene.bindings bs → A.most ≤ C.most → C.least ≤ A.least - turns_declared false hs → C.most ≤ B.most → B.least ≤ C.least → AreDeclared setting (record z.scene { bindings = bs }) d env hs then c
    → (a : OpenCompleted setting s A z w c d (z.frame + d) w1) → NamedIn (record z.scene { bindings = bs }) env a.bases1 z.frame
    → Ran setting s B (Declared setting s C z w then) (OpenExited setting s B z w) (declare_all inner hs env w1)
all_declared_run setting inner sim t.no_declarations env bs then s A C B z w c d w1 r le keeps le1 le2 le3 le4 l a named = went (record {
  bs = bs;
  d1 = d;
  c1 = c;
  arr = completed_more le1 (omega arith) a;
  deep = le;
  keeps = keeps;
  named = named;
  laid = l;
})
all_declared_run g m sim (t.declare h hs) env bs then s A C B z w c d w1 r le keeps le1 le2 le3 le4 l a named =
    let D : Account = record { most = A.most; least = A.least - turns_one_declared false h } in
    let later : Scene → ℕ → Environment → List Stmt → Type 0 = λ sc1 d1 env1 c1. AreDeclared g sc1 d1 env1 hs then c1 in
    with_ran (λ env1. adds _ (λ w2. declare_all_after m sim.grows hs env1 w2))
    (one_declared_run g m sim h env bs later s A D B z w c d w1 r le keeps (omega arith) (omega arith) (omega arith) (omega arith) l a named)
    (λ env1 w2 q. all_declared_run g m sim hs env1 q.bs then s D C B z w q.c1 q.d1 w2 r q.deep q.keeps (omega arith) (omega arith) le3 le4 q.laid q.arr q.named)

-- what is laid behind the declarations of a block
abbrev BehindBlock : Configuration → Commands → List Stmt → Setting → Scene → ℕ → Environment → List Stmt → Type 0
BehindBlock z cs rest setting sc1 d1 env1 c1 =
    (j : ℕ) × (at1 : Sought → List Stmt) × AreActs setting (owning j cs sc1) d1 (labelled cs env1) cs at1 c1 (Stack z.depth ∷ rest) × (turns_through false cs ≤ setting.pay)
    × ((x : List ℕ) → one_has_place (the_label x) env1 cs ≡ true → LeadsTo (owning j cs sc1) d1 x (at1 (the_label x)))

-- its commands are done
pub record Left (setting : Setting) (s : State) (B : Account) (z : Configuration) (rest : List Stmt) (w w1 : World) : Type 0 where
  pub d1 : ℕ
  pub more : ℕ
  pub arr : OpenCompleted setting s B z w (Stack z.depth ∷ rest) d1 more w1

-- A block with declarations. What it made dies at its end.
pub block_runs : (setting : Setting) (inner : Meanings) → Simulates setting inner → ((env : Environment) (w : World) (cs : Commands) → After (history w) (scope_of inner cs forwards env w)) → (B : Account) (l : ℕ) (h : Declaration) (hs : Declarations) (cs : Commands) (z : Configuration)
    (at : Sought → List Stmt) (c rest : List Stmt) (w : World) → 16 * w.turns + 1 ≤ B.most → B.least ≤ w.turns - (turns_declared false (t.declare h hs) + turns_through false cs) → IsAct setting z.scene z.depth z.env (t.block l (t.declare h hs) cs) at c rest → Ready setting z w
    → RanDid setting (start z c w) B z rest w (closing (length w.memory) (with (declare_all inner (t.declare h hs) z.env w) (λ env w. scope_of inner cs forwards env w)))
block_runs setting inner sim scope_after B l h hs cs z at c rest w le le' laid r =
    let s = start z c w in
    let A : Account = record { most = 16 * w.turns; least = w.turns } in
    let C : Account = record { most = 16 * w.turns; least = w.turns - turns_declared false (t.declare h hs) } in
    let B1 : Account = record { most = B.most - 1; least = B.least } in
    let dp = r.deep in
    closed_ran {K = λ _ w1. Left setting s B1 z rest w w1} r (λ _ w1 k. closes (omega arith) (omega arith) r k.arr)
    (with_ran (λ env1. adds _ (λ w1. scope_after env1 w1 cs))
    (all_declared_run setting inner sim (t.declare h hs) z.env z.scene.bindings (BehindBlock z cs rest setting) s A C B z w c z.depth w r (omega arith) (λ x q. refl) (omega arith) (omega arith) (omega arith) (omega arith) laid
    (begun A (Since (z.frame + z.depth) (store z w)) z.depth c (omega arith) (omega arith) r (since_refl (store z w))) r.named)
    (λ env1 w1 q.
    let z1 = open_configuration setting s C z w q.c1 q.d1 (z.frame + q.d1) w1 q.arr q.bs env1 in
    ran_open q.bs env1 (omega arith) (omega arith) r q.deep q.keeps q.arr
    (λ _ w2 k. record { d1 = q.d1; more = z.frame + q.d1; arr = open_on (omega arith) (omega arith) r q.deep q.arr k })
    (scope_runs setting inner sim cs forwards z1 q.laid.0 q.laid.1 q.c1 (Stack z.depth ∷ rest) q.c1 w1 (q.laid.2, q.laid.3, q.laid.4) refl (open_ready q.arr q.bs env1 q.deep q.named r))))

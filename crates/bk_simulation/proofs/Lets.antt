-- The values of a LET's variables, definition by definition.
use Rattle.bk_simulation.proofs.Pieces.{Store, BaseOf, Alive, limit, Codes, Applies, StandsCell, Grown, Fits, stands_grown, Like, like_refl, like_on, fits_more, turns_started, turns_defined, turns_of, Setting, Scene, NamedIn, Spot, spots_of, defines_variables, AreStarts, AreDefined, KeepsLabels, variables_bound, AreAt, Configuration, Ready, Account, Ran, went, so, with_ran, OpenCompleted, store_at, named_grown, state, further, ran_same, Completed, named_again, Simulates, completed_more, out_more, turn_there, OpenExited, open_ticked, with_cells, with_objects, open_configuration, open_ready, open_wider, open_step, open_on, ran_open, Since, since_refl, since_on, IsFree, make, make_fits_in, grown_made, lying, since_cells, since_moved, since_made, make_fits, get_new, get_replicate, Moves, does, untouched, below_at, below_like, settle_like, settle_at, value_run, length-replicate, ◌≡◌, ℕ, zero, suc, ◌+◌, ◌-◌, ◌*◌, ◌<◌, ◌≤◌, Bool, true, false, List, [], ◌∷◌, ◌++◌, Some, sym, ap, ◌∙◌, subst, arith, slice_get, ◌≢◌, length, refl, ⊎_elim, length-append, ◌%◌, ◌^◌, Option, None, FRAME_WORDS, Definitions, Starts, Binding, State, Placed, Inside, Stmt, World, Outcome, gives, making, making_vec, Environment, past, past_definition, letters, cell, constant_in, history, After, Throughout, Meanings, adds, stays, vec_on, with_after, turn_after, Content, Variable, Cell, Held, content_of, Word, Temporary, write, below, settle, Value, holds, address, unset, living, made, Local, Stack, Address, Start, paired, let_values, bind_variables, vec_cells, make_vec, Cell_of, acts_at, written}
use Rattle.bk_tree.specs.Tree as t
use Rattle.bk_simulation.proofs.Terms.{bind, starts}

-- ---- Words that wait on the frame become the objects of variables.

-- ---- The values with which variables begin are pushed one above another; a VEC's words are an object below its address.

-- values in their slots
abbrev pub ItemsAt : Codes → Store → ℕ → ℕ → List Value → List ℕ → Type 0
ItemsAt codes h frame top [] [] = Unit {0}
ItemsAt codes h frame top (v ∷ vs) (n ∷ ns) = Applies codes h.bases v (content_of (h.cells (frame + n))) × IsFree h (frame + n) × (n < top) × ItemsAt codes h frame top vs ns
ItemsAt codes h frame top _ _ = ⊥

-- slots, each above those before
abbrev pub Rising : ℕ → List ℕ → Type 0
Rising from [] = Unit {0}
Rising from (n ∷ ns) = (from ≤ n) × Rising (suc n) ns

pub rising_from : (from low : ℕ) (ns : List ℕ) → low ≤ from → Rising from ns → Rising low ns
rising_from from low [] le r = tt
rising_from from low (n ∷ ns) le r = ((let h = r.0 in omega arith), r.1)

-- slots lie between the depths
pub starts_rise : (setting : Setting) (sc : Scene) (is : Starts) (d : ℕ) (env : Environment) (c rest : List Stmt) (d1 : ℕ) (slots : List ℕ) → AreStarts setting sc d env is c rest d1 slots → (d ≤ d1) × Rising d slots
starts_rise setting sc t.no_starts d env c rest d1 slots l = (let e = l.1 in omega arith, subst (λ y. Rising d y) (sym l.2) tt)
starts_rise setting sc (t.value e is) d env c rest d1 slots l =
    let r = starts_rise setting sc is (d + 1) (past e env) l.0 rest d1 l.1 l.3 in
    (let h = r.0 in omega arith, subst (λ y. Rising d y) (sym l.4) ((let z : d ≤ d = omega arith in z), rising_from (d + 1) (suc d) l.1 (omega arith) r.1))
starts_rise setting sc (t.vector x e is) d env c rest d1 slots l =
    let r = starts_rise setting sc is (d + l.0 + 2) env l.1 rest d1 l.2 l.5 in
    let k = l.0 in
    (let h = r.0 in omega arith, subst (λ y. Rising d y) (sym l.6) ((let z : d ≤ d + k + 1 = omega arith in z), rising_from (d + k + 2) (suc (d + k + 1)) l.2 (omega arith) r.1))

-- What the values of variables come to.
pub record Started (setting : Setting) (s : State) (B : Account) (z : Configuration) (w : World) (h : Store) (d : ℕ) (rest : List Stmt) (d1 : ℕ) (slots : List ℕ) (vs : List Value) (w1 : World) : Type 0 where
  pub arr : OpenCompleted setting s B z w rest d1 (z.frame + d1) w1
  pub since : Since (z.frame + d) h (store_at arr)
  pub items : ItemsAt setting.codes (store_at arr) z.frame d1 vs slots

-- an object is made of words that wait there
abbrev pub open_make : {setting : Setting} {s : State} {A : Account} {own : Placed} {frame calls more top : ℕ} {h : Store} {c : List Stmt} {d : ℕ} {w1 : World}
    (b : ℕ) (cells : List Cell_of) (more1 : ℕ) → (a : Completed setting s A own frame calls more (Since top h) c d w1) → top ≤ b
    → Fits setting.codes (make (store_at a) b cells) more1 → Completed setting s A own frame calls more1 (Since top h) c d (making cells w1)
open_make {top = top} {h = h} {w1 = w1} b cells more1 a low f =
    with_objects (a.bases1 ++ b ∷ []) (making cells w1).memory more1 (Since top h) a f
    (since_on (omega arith) a.moved (since_made b cells (store_at a) a.fits.long low))

make_vec_after : (place : ℕ) (k : Option ℕ) (w : World) → After (history w) (make_vec place k w)
make_vec_after place None w = stays (history w)
make_vec_after place (Some k) w = vec_on (vec_cells k) w

pub starts_after : (inner : Meanings) → Throughout (λ A w u. After (history w) u) inner → (is : Starts) (env : Environment) (w : World) → After (history w) (starts inner is env w)
starts_after inner grows t.no_starts env w = stays (history w)
starts_after inner grows (t.value e is) env w =
    with_after _ (inner.value e env w) _ (grows.value e env w) (λ v. adds _ (λ w1. with_after _ (starts inner is (past e env) w1) _ (starts_after inner grows is (past e env) w1) (λ vs. adds _ (λ w2. stays (history w2)))))
starts_after inner grows (t.vector x e is) env w =
    with_after _ _ _ (turn_after _ _ (adds _ (λ w1. make_vec_after _ (constant_in env e) w1)) w) (λ v. adds _ (λ w1. with_after _ (starts inner is env w1) _ (starts_after inner grows is env w1) (λ vs. adds _ (λ w2. stays (history w2)))))

-- ---- a VEC

pub record VecDone (setting : Setting) (s : State) (A : Account) (z : Configuration) (w : World) (c rest : List Stmt) (d k : ℕ) (w1 : World) (a : OpenCompleted setting s A z w c d (z.frame + d) w1) : Type 0 where
  pub arr : OpenCompleted setting s (record { most = A.most + 2; least = A.least }) z w rest (d + k + 2) (z.frame + (d + k + 2)) (making_vec (vec_cells k) w1)
  pub since : Since (z.frame + d) (store_at a) (store_at arr)
  pub stands : Applies setting.codes arr.bases1 (address (length w1.memory) 0) (content_of (arr.cells1 (z.frame + (d + k + 1))))
  pub free : IsFree (store_at arr) (z.frame + (d + k + 1))

pub vec_done : (setting : Setting) (s : State) (A : Account) (z : Configuration) (w : World) (c rest : List Stmt) (d k : ℕ) (w1 : World) → Ready setting z w → z.depth ≤ d → d + k + 2 ≤ FRAME_WORDS → c ≡ Stack (d + k + 1) ∷ Address (Local d) ∷ rest
    → (a : OpenCompleted setting s A z w c d (z.frame + d) w1) → VecDone setting s A z w c rest d k w1 a
vec_done setting s A z w c rest d k w1 r le fw ec a =
    let b : ℕ = z.frame + d in
    let own : Placed = z.scene.own in
    let cells2 : ℕ → Cell = below (z.frame + (d + k + 1)) (settle (z.frame + d) (z.frame + (d + k + 1)) a.cells1) in
    let cells3 : ℕ → Cell = below (z.frame + (d + k + 2)) (write cells2 (z.frame + (d + k + 1)) (Held Temporary (Word (z.frame + d)))) in
    let h3 : Store = record { bases = a.bases1; mem = w1.memory; cells = cells3 } in
    let small_word : z.frame + d ≡ (z.frame + d + 0) % 2 ^ 32 = let l : z.frame ≤ 2 ^ 31 - 65536 = r.low in let f : d + k + 2 ≤ FRAME_WORDS = fw in omega arith in
    let same3 : (x : ℕ) → x < z.frame + (d + k + 1) → cells3 x ≡ cells2 x = λ x lt. let ne : x ≢ z.frame + (d + k + 1) = omega arith in
    below_at (z.frame + (d + k + 2)) (write cells2 (z.frame + (d + k + 1)) (Held Temporary (Word (z.frame + d)))) x (omega arith) ∙ untouched cells2 (z.frame + (d + k + 1)) (Held Temporary (Word (z.frame + d))) x ne in
    let vec_word : (i : ℕ) → i < k + 1 → (x : Content) × (cells3 (b + i) ≡ Held Variable x) = λ i lt. (
      content_of (a.cells1 (b + i)),
      same3 (b + i) (omega arith) ∙ below_at (z.frame + (d + k + 1)) (settle (z.frame + d) (z.frame + (d + k + 1)) a.cells1) (b + i) (omega arith)
          ∙ settle_at (z.frame + d) (z.frame + (d + k + 1)) a.cells1 (b + i) (omega arith) (omega arith),
    ) in
    let A2 : Account = record { most = A.most + 2; least = A.least } in
    let h1 : Store = store_at a in
    let like2 : (x : ℕ) → x < z.frame + d → Like (cells2 x) (a.cells1 x) = λ x lt.
    like_on _ _ _ (below_like (z.frame + (d + k + 1)) (settle (z.frame + d) (z.frame + (d + k + 1)) a.cells1) x (omega arith)) (settle_like (z.frame + d) (z.frame + (d + k + 1)) a.cells1 x) in
    let like3 : (x : ℕ) → x < z.frame + d → Like (cells3 x) (a.cells1 x) = λ x lt. like_on _ _ _ (like_refl _ _ (same3 x (omega arith))) (like2 x lt) in
    let item : cells3 (z.frame + (d + k + 1)) ≡ Held Temporary (Word (z.frame + d)) =
    below_at (z.frame + (d + k + 2)) (write cells2 (z.frame + (d + k + 1)) (Held Temporary (Word (z.frame + d)))) (z.frame + (d + k + 1)) (omega arith)
    ∙ written cells2 (z.frame + (d + k + 1)) (Held Temporary (Word (z.frame + d))) in
    let st1 : State = state own d c a.cells1 z.frame a.hand1 a.written1 w1 in
    let st2 : State = state own (d + k + 1) (Address (Local d) ∷ rest) cells2 z.frame None a.written1 w1 in
    let m2 : Moves setting.program st1 st2 = does setting.program st1 own (Address (Local d) ∷ rest) d (Stack (d + k + 1)) (ap (λ y. Inside own d y) ec) refl refl in
    let m3 : Moves setting.program st2 (state own (d + k + 2) rest cells3 z.frame None ((z.frame + (d + k + 1)) ∷ a.written1) w1) =
    subst (λ y. Moves setting.program st2 (state own y rest (below (z.frame + y) (write cells2 (z.frame + (d + k + 1)) (Held Temporary (Word (z.frame + d))))) z.frame None ((z.frame + (d + k + 1)) ∷ a.written1) w1))
    (let q : d + k + 1 + 1 ≡ d + k + 2 = omega arith in q) (does setting.program st2 own rest (d + k + 1) (Address (Local d)) refl refl refl) in
    let a3 : OpenCompleted setting s A2 z w rest (d + k + 2) (z.frame + d) w1 =
    let a2 : OpenCompleted setting s (further 1 A) z w (Address (Local d) ∷ rest) (d + k + 1) (z.frame + d) w1 = open_step r (omega arith) a cells2 None a.written1 like2 m2 in
    completed_more (omega arith) (omega arith)
    (open_step r (omega arith) a2 cells3 None ((z.frame + (d + k + 1)) ∷ a.written1) (λ x lt. like_refl _ _ (same3 x (omega arith))) m3) in
    let f3 : Fits setting.codes h3 (z.frame + d) = a3.fits in
    let f4 : Fits setting.codes (make h3 b (vec_cells k)) (z.frame + (d + k + 2)) =
    let v = length-replicate (k + 1) (holds unset) in
    fits_more setting.codes (make h3 b (vec_cells k)) (b + length (vec_cells k)) (z.frame + (d + k + 2)) (let l = r.low in omega arith)
    (make_fits setting.codes h3 (z.frame + d) b (vec_cells k) f3 (let q = r.high in omega arith) (omega arith) (let l : z.frame ≤ 2 ^ 31 - 65536 = r.low in let f : d + k + 2 ≤ FRAME_WORDS = fw in omega arith)
    (λ i x e. subst (λ y. StandsCell setting.codes a.bases1 y (content_of (cells3 (b + i)))) (sym ((get_replicate (k + 1) i (holds unset) x e).0)) tt) (λ i lt. vec_word i (omega arith))) in
    let a4 : OpenCompleted setting s A2 z w rest (d + k + 2) (z.frame + (d + k + 2)) (making_vec (vec_cells k) w1) =
    with_cells _ (open_make b (vec_cells k) (z.frame + (d + k + 2)) a3 (omega arith) f4) in
    record {
      arr = a4;
      since = since_on {top1 = z.frame + d} {h1 = h3} (omega arith) (since_cells h1 like3) (since_made b (vec_cells k) h3 a.fits.long (omega arith));
      stands = (b, subst (λ y. BaseOf (a.bases1 ++ b ∷ []) y b) a.fits.long (get_new a.bases1 b), (let q : 0 < 2 ^ 32 = omega arith in q), ap content_of item ∙ ap Word (let q : z.frame + d ≡ (z.frame + d + 0) % 2 ^ 32 = small_word in q));
      free = λ o n b1 i l e lt q. ⊎_elim
          (λ (x : (Alive h3.mem o n) × (BaseOf h3.bases o b1)). let u = f3.below o n b1 x.0 x.1 in absurd (omega arith))
          (λ (x : (o ≡ length h3.mem) × (n ≡ length (vec_cells k)) × (b1 ≡ b)). let x1 = x.1 in let x2 = x.2 in let v = length-replicate (k + 1) (holds unset) in absurd (omega arith))
          (lying h3 b (vec_cells k) o n b1 f3.long l e).lies;
    }

-- ---- all of them

-- one more is there
pub record NextItem (setting : Setting) (s : State) (A : Account) (z : Configuration) (w : World) (h : Store) (d n : ℕ) (rest : List Stmt) (d0 : ℕ) (v : Value) (w1 : World) : Type 0 where
  pub arr : OpenCompleted setting s A z w rest d0 (z.frame + d0) w1
  pub since : Since (z.frame + d) h (store_at arr)
  pub stands : Applies setting.codes arr.bases1 v (content_of (arr.cells1 (z.frame + n)))
  pub free : IsFree (store_at arr) (z.frame + n)

-- and those behind it
item_before : (setting : Setting) (s : State) (A B : Account) (z : Configuration) (w : World) (h : Store) (d n : ℕ) (c rest : List Stmt) (d0 d1 : ℕ) (slots : List ℕ) (v : Value) (vs : List Value) (w1 w2 : World) → d ≤ n → n < d0 → d0 ≤ d1
    → (i : NextItem setting s A z w h d n c d0 v w1) → Started setting s B z w (store_at i.arr) d0 rest d1 slots vs w2 → Started setting s B z w h d rest d1 (n ∷ slots) (v ∷ vs) w2
item_before setting s A B z w h d n c rest d0 d1 slots v vs w1 w2 le lt le1 i l =
    let h1 = store_at i.arr in
    let h2 = store_at l.arr in
    record {
      arr = l.arr;
      since = since_on (omega arith) i.since l.since;
      items = (
        subst (λ y. Applies setting.codes h2.bases v y) (sym (l.since.like (z.frame + n) (omega arith) i.free).content)
            (stands_grown setting.codes h1.bases h2.bases v _ l.since.grown i.stands),
        l.since.free (z.frame + n) (omega arith) i.free,
        (let q : n < d1 = omega arith in q),
        l.items,
      );
    }

no_item : (setting : Setting) (s : State) (A B : Account) (z : Configuration) (w : World) (c rest : List Stmt) (d d1 : ℕ) (slots : List ℕ) (w1 : World) → A.most ≤ B.most → B.least ≤ A.least → c ≡ rest → d1 ≡ d → slots ≡ []
    → (a : OpenCompleted setting s A z w c d (z.frame + d) w1) → Started setting s B z w (store_at a) d rest d1 slots [] w1
no_item setting s A B z w c rest d d1 slots w1 le le' ec ed es a =
    let h = store_at a in
    subst (λ y. Started setting s B z w h d y d1 slots [] w1) ec
    (subst (λ y. Started setting s B z w h d c y slots [] w1) (sym ed)
    (subst (λ y. Started setting s B z w h d c d y [] w1) (sym es)
    (record { arr = completed_more le le' a; since = since_refl h; items = tt })))

pub starts_run : (setting : Setting) (inner : Meanings) → Simulates setting inner → (is : Starts) (env : Environment) (bs : List Binding) (s : State) (A B : Account) (z : Configuration) (w : World) (c rest : List Stmt) (d d1 : ℕ) (slots : List ℕ) (w1 : World)
    → Ready setting z w → z.depth ≤ d → KeepsLabels z.scene.bindings bs → d1 ≤ FRAME_WORDS → A.most ≤ B.most → B.least ≤ A.least - turns_started false is → AreStarts setting (record z.scene { bindings = bs }) d env is c rest d1 slots
    → (a : OpenCompleted setting s A z w c d (z.frame + d) w1) → NamedIn (record z.scene { bindings = bs }) env a.bases1 z.frame
    → Ran setting s B (Started setting s B z w (store_at a) d rest d1 slots) (OpenExited setting s B z w) (starts inner is env w1)
starts_run setting inner sim t.no_starts env bs s A B z w c rest d d1 slots w1 r le keeps few le1 le2 l a named = grind (arith, went, (no_item setting s A B z w c rest d d1 slots w1 le1 (omega arith) l.0 l.1 l.2 a))
starts_run setting inner sim (t.value e is) env bs s A B z w c rest d d1 slots w1 r le keeps few le1 le2 l a named =
    let c0 = l.0 in
    let A1 : Account = record { most = A.most; least = A.least - turns_of false e } in
    let h = store_at a in
    let z1 = open_configuration setting s A z w c d (z.frame + d) w1 a bs env in
    let rise = (starts_rise setting (record z.scene { bindings = bs }) is (d + 1) (past e env) c0 rest d1 l.1 l.3).0 in
    let grows : Throughout (λ A w u. After (history w) u) inner = sim.grows in
    with_ran {K = NextItem setting s A1 z w h d d c0 (d + 1)}
    (λ v. adds _ (λ w2. with_after _ (starts inner is (past e env) w2) _ (starts_after inner grows is (past e env) w2) (λ vs. adds _ (λ w3. stays (history w3)))))
    (ran_open bs env (omega arith) (omega arith) r le keeps a
    (λ v w2 q. record {
      arr = open_wider (omega arith) (open_on (omega arith) (omega arith) r le a q.arr);
      since = since_moved a.fits q.arr.fits q.arr.moved;
      stands = q.stands;
      free = λ o n b1 i al eb lt x. let u = q.arr.fits.below o n b1 al eb in absurd (omega arith);
    })
    (value_run setting inner sim e z1 c c0 w1 l.2 (open_ready a bs env le named r)))
    (λ v w2 i. with_ran {K = λ vs w3. Started setting s B z w h d rest d1 slots (v ∷ vs) w3} (λ vs. adds _ (λ w3. stays (history w3)))
    (ran_same (λ vs w3 q. subst (λ y. Started setting s B z w h d rest d1 y (v ∷ vs) w3) (sym l.4) (item_before setting s A1 B z w h d d c0 rest (d + 1) d1 l.1 v vs w2 w3 (omega arith) (omega arith) rise i q))
    (starts_run setting inner sim is (past e env) bs s A1 B z w c0 rest (d + 1) d1 l.1 w2 r (omega arith) keeps few (omega arith) (omega arith) l.3 i.arr
    (named_again refl (named_grown (record z.scene { bindings = bs }) env a.bases1 i.arr.bases1 z.frame i.since.grown named))))
    (λ vs w3 q. went q))
starts_run setting inner sim (t.vector x e is) env bs s A B z w c rest d d1 slots w1 r le keeps few le1 le2 l a named =
    let k = l.0 in
    let c0 = l.1 in
    let A1 : Account = record { most = A.most; least = A.least - 1 } in
    let h = store_at a in
    let rise = (starts_rise setting (record z.scene { bindings = bs }) is (d + k + 2) env c0 rest d1 l.2 l.5).0 in
    let grows : Throughout (λ A w u. After (history w) u) inner = sim.grows in
    with_ran {K = NextItem setting s A1 z w h d (d + k + 1) c0 (d + k + 2)}
    (λ v. adds _ (λ w2. with_after _ (starts inner is env w2) _ (starts_after inner grows is env w2) (λ vs. adds _ (λ w3. stays (history w3)))))
    (turn_there _ (λ w. make_vec (acts_at e) (constant_in env e) w) le1 (omega arith) a (λ n en.
    let A0 : Account = record { most = A.most - 16; least = A.least - 1 } in
    let a1 = open_ticked n en a in
    let v = vec_done setting s A0 z w c c0 d k (record w1 { turns = n }) r le (omega arith) l.4 a1 in
    let big : 16 ≤ A.most = (let q = a.most in omega arith) in
    subst (λ y. Ran setting s B (NextItem setting s A1 z w h d (d + k + 1) c0 (d + k + 2)) (OpenExited setting s B z w) (make_vec (acts_at e) y (record w1 { turns = n }))) (sym l.3)
    (went (record { arr = completed_more (omega arith) (omega arith) v.arr; since = v.since; stands = v.stands; free = v.free }))))
    (λ v w2 i. with_ran {K = λ vs w3. Started setting s B z w h d rest d1 slots (v ∷ vs) w3} (λ vs. adds _ (λ w3. stays (history w3)))
    (ran_same (λ vs w3 q. subst (λ y. Started setting s B z w h d rest d1 y (v ∷ vs) w3) (sym l.6) (item_before setting s A1 B z w h d (d + k + 1) c0 rest (d + k + 2) d1 l.2 v vs w2 w3 (omega arith) (omega arith) rise i q))
    (starts_run setting inner sim is env bs s A1 B z w c0 rest (d + k + 2) d1 l.2 w2 r (omega arith) keeps few (omega arith) (omega arith) l.5 i.arr
    (named_grown (record z.scene { bindings = bs }) env a.bases1 i.arr.bases1 z.frame i.since.grown named)))
    (λ vs w3 q. went q))

-- other words stay free
pub free_made : (h : Store) (b : ℕ) (c : Cell_of) (a : ℕ) → length h.bases ≡ length h.mem → a ≢ b → IsFree h a → IsFree (make h b (c ∷ [])) a
free_made h b c a long ne free o n b1 i l e lt z = ⊎_elim
    (λ (x : (Alive h.mem o n) × (BaseOf h.bases o b1)). free o n b1 i x.0 x.1 lt z)
    (λ (x : (o ≡ length h.mem) × (n ≡ 1) × (b1 ≡ b)). let x1 = x.1 in let x2 = x.2 in ne (omega arith))
    (lying h b (c ∷ []) o n b1 long l e).lies

-- ---- variables with what they begin with

abbrev pub SpotsAt : Codes → Store → ℕ → ℕ → List Start → List Spot → Type 0
SpotsAt codes h frame top [] [] = Unit {0}
SpotsAt codes h frame top (s ∷ ss) (p ∷ ps) = (s.name ≡ p.name) × Applies codes h.bases s.value (content_of (h.cells (frame + p.slot))) × IsFree h (frame + p.slot) × (p.slot < top) × SpotsAt codes h frame top ss ps
SpotsAt codes h frame top _ _ = ⊥

abbrev pub RisingSpots : ℕ → List Spot → Type 0
RisingSpots from [] = Unit {0}
RisingSpots from (p ∷ ps) = (from ≤ p.slot) × RisingSpots (suc p.slot) ps

abbrev pub AreVariables : (ℕ → Cell) → ℕ → List Spot → Type 0
AreVariables cells frame [] = Unit {0}
AreVariables cells frame (p ∷ ps) = ((k : Content) × (cells (frame + p.slot) ≡ Held Variable k)) × AreVariables cells frame ps

-- names with values, where those stand
pub items_spots : (codes : Codes) (h : Store) (frame top : ℕ) (xs : List (List ℕ)) (vs : List Value) (ns : List ℕ) → ItemsAt codes h frame top vs ns → SpotsAt codes h frame top (paired xs vs) (spots_of xs ns)
items_spots codes h frame top (x ∷ xs) (v ∷ vs) (n ∷ ns) items = (refl, items.0, items.1, items.2, items_spots codes h frame top xs vs ns items.3)
items_spots codes h frame top (x ∷ xs) [] (n ∷ ns) items = absurd items
items_spots codes h frame top (x ∷ xs) (v ∷ vs) [] items = absurd items
items_spots codes h frame top _ _ _ items = tt

pub spots_carried : (codes : Codes) (h h1 : Store) (frame d d1 : ℕ) (ss : List Start) (ps : List Spot) → d ≤ d1 → Since (frame + d) h h1
    → SpotsAt codes h frame d ss ps → SpotsAt codes h1 frame d1 ss ps
spots_carried codes h h1 frame d d1 [] [] le c at = tt
spots_carried codes h h1 frame d d1 (s ∷ ss) (p ∷ ps) le c at =
    let lt : p.slot < d = at.3 in (
      at.0,
      subst (λ y. Applies codes h1.bases s.value y) (sym (c.like (frame + p.slot) (omega arith) at.2).content) (stands_grown codes h.bases h1.bases s.value _ c.grown at.1),
      c.free (frame + p.slot) (omega arith) at.2,
      omega arith,
      spots_carried codes h h1 frame d d1 ss ps le c at.4,
    )
spots_carried codes h h1 frame d d1 _ _ le c at = at

pub spots_both : (codes : Codes) (h : Store) (frame top : ℕ) (ss ts : List Start) (ps qs : List Spot) → SpotsAt codes h frame top ss ps → SpotsAt codes h frame top ts qs → SpotsAt codes h frame top (ss ++ ts) (ps ++ qs)
spots_both codes h frame top [] ts [] qs a b = b
spots_both codes h frame top (s ∷ ss) ts (p ∷ ps) qs a b = (a.0, a.1, a.2, a.3, spots_both codes h frame top ss ts ps qs a.4 b)
spots_both codes h frame top _ ts _ qs a b = absurd a

pub spots_rise_from : (from low : ℕ) (ps : List Spot) → low ≤ from → RisingSpots from ps → RisingSpots low ps
spots_rise_from from low [] le r = tt
spots_rise_from from low (p ∷ ps) le r = ((let h = r.0 in omega arith), r.1)

-- those of a list of slots below a depth, and those from there on
pub spots_joined : (xs : List (List ℕ)) (ns : List ℕ) (from d : ℕ) (qs : List Spot) → from ≤ d → Rising from ns → ((i n : ℕ) → slice_get ns i ≡ Some n → n < d) → RisingSpots d qs → RisingSpots from (spots_of xs ns ++ qs)
spots_joined (x ∷ xs) (n ∷ ns) from d qs le r low more = (r.0, spots_joined xs ns (suc n) d qs (low 0 n refl) r.1 (λ i k e. low (suc i) k e) more)
spots_joined _ _ from d qs le r low more = spots_rise_from d from qs le more

-- a variable is made: the others wait as before
spots_left : (codes : Codes) (h : Store) (b : ℕ) (c : Cell_of) (frame top : ℕ) (ss : List Start) (ps : List Spot) → length h.bases ≡ length h.mem → (from : ℕ) → b < frame + from → RisingSpots from ps → SpotsAt codes h frame top ss ps
    → SpotsAt codes (make h b (c ∷ [])) frame top ss ps
spots_left codes h b c frame top [] [] long from lt r at = tt
spots_left codes h b c frame top (s ∷ ss) (p ∷ ps) long from lt r at =
    let ne : frame + p.slot ≢ b = omega (arith, r.0) in
    (at.0, stands_grown codes h.bases (make h b (c ∷ [])).bases s.value _ (grown_made h.bases b) at.1, free_made h b c (frame + p.slot) long ne at.2, at.3, spots_left codes h b c frame top ss ps long (suc p.slot) (omega (arith, r.0)) r.1 at.4)
spots_left codes h b c frame top _ _ long from lt r at = at

-- the variables are objects
pub record Bound (setting : Setting) (s : State) (A : Account) (z : Configuration) (w : World) (c : List Stmt) (d more : ℕ) (w1 : World) (bases : List ℕ) (ss : List Start) (ps : List Spot) (env : Environment) : Type 0 where
  pub world : World
  pub gives_it : bind_variables ss env w1 ≡ gives (variables_bound (length w1.memory) ps env) world
  pub arr : OpenCompleted setting s A z w c d more world
  pub at : AreAt arr.bases1 (length w1.memory) z.frame ps
  pub grown : Grown bases arr.bases1

pub bind_run : (ss : List Start) (ps : List Spot) (from : ℕ) (env : Environment) (setting : Setting) (s : State) (A : Account) (z : Configuration) (w : World) (c : List Stmt) (d top : ℕ) (w1 : World) → 16 ≤ z.frame → z.depth ≤ from → z.frame + top ≤ limit
    → (a : OpenCompleted setting s A z w c d (z.frame + top) w1) → SpotsAt setting.codes (store_at a) z.frame top ss ps → RisingSpots from ps → AreVariables a.cells1 z.frame ps
    → Bound setting s A z w c d (z.frame + top) w1 a.bases1 ss ps env
bind_run [] [] from env setting s A z w c d top w1 high le lim a at rise vars = record { world = w1; gives_it = refl; arr = a; at = tt; grown = record { each = λ o b e. e } }
bind_run (st ∷ ss) (p ∷ ps) from env setting s A z w c d top w1 high le lim a at rise vars =
    let h = store_at a in
    let b : ℕ = z.frame + p.slot in
    let lt : p.slot < top = at.3 in
    let ge : from ≤ p.slot = rise.0 in
    let cells = holds st.value ∷ [] in
    let at_zero : (i : ℕ) → i < 1 → b + i ≡ b = λ i q. omega arith in
    let f : Fits setting.codes (make h b cells) (z.frame + top) = make_fits_in setting.codes h (z.frame + top) b cells a.fits (omega arith) (omega arith) (omega arith)
    (λ i q. subst (λ y. IsFree h y) (sym (at_zero i q)) at.2) (λ i x e. begun i x e) (λ i q. subst (λ y. (k : Content) × (a.cells1 y ≡ Held Variable k)) (sym (at_zero i q)) vars.0) in
    let a1 = open_make b cells (z.frame + top) a (omega arith) f in
    let o : ℕ = length w1.memory in
    let lm : length (made cells w1.memory) ≡ suc o = length-append w1.memory (living cells ∷ []) ∙ (let q : length w1.memory + 1 ≡ suc o = omega arith in q) in
    let r = bind_run ss ps (suc p.slot) (bind st.name (cell o 0) env) setting s A z w c d top (making cells w1) high (omega arith) lim a1 (spots_left setting.codes h b (holds st.value) z.frame top ss ps a.fits.long (suc p.slot) (omega arith) rise.1 at.4) rise.1 vars.1 in
    record {
      world = r.world;
      gives_it = r.gives_it ∙ ap (λ y. gives (variables_bound y ps (bind st.name (cell o 0) env)) r.world) lm ∙ ap (λ y. gives (variables_bound (suc o) ps (bind y (cell o 0) env)) r.world) at.0;
      arr = r.arr;
      at = (r.grown.each o b (subst (λ y. BaseOf (a.bases1 ++ b ∷ []) y b) a.fits.long (get_new a.bases1 b)), subst (λ y. AreAt r.arr.bases1 y z.frame ps) lm r.at);
      grown = record { each = λ o1 b1 e. r.grown.each o1 b1 ((grown_made a.bases1 b).each o1 b1 e) };
    }
  where
    begun : (i : ℕ) (x : Cell_of) → slice_get (holds st.value ∷ []) i ≡ Some x → StandsCell setting.codes a.bases1 x (content_of (a.cells1 (z.frame + p.slot + i)))
    begun zero x e =
        subst (λ y. StandsCell setting.codes a.bases1 y (content_of (a.cells1 (z.frame + p.slot + 0)))) (let q : holds st.value ≡ x = cc in q)
        (subst (λ y. Applies setting.codes a.bases1 st.value (content_of (a.cells1 y))) (let q : z.frame + p.slot ≡ z.frame + p.slot + 0 = omega arith in q) at.1)
    begun (suc i) x e = absurd (cc)
bind_run _ _ from env setting s A z w c d top w1 high le lim a at rise vars = absurd at

-- a run in a smaller account
pub open_lift : {T : Type 0} {setting : Setting} {s : State} {A B : Account} {z : Configuration} {w : World} {K L : T → World → Type 0} {o : Outcome T} → A.most ≤ B.most
    → B.least ≤ A.least → ((t : T) (w1 : World) → K t w1 → L t w1)
    → Ran setting s A K (OpenExited setting s A z w) o → Ran setting s B L (OpenExited setting s B z w) o
open_lift le le' h q = so le le' h (λ x w1 e. record { more = e.more; is = out_more le le' e.is }) q

-- the values of a LET
pub record Lets (setting : Setting) (s : State) (B : Account) (z : Configuration) (w : World) (h : Store) (d : ℕ) (rest : List Stmt) (d1 : ℕ) (ps : List Spot) (vars : Bool) (ss : List Start) (w1 : World) : Type 0 where
  pub arr : OpenCompleted setting s B z w rest d1 (z.frame + d1) w1
  pub since : Since (z.frame + d) h (store_at arr)
  pub items : SpotsAt setting.codes (store_at arr) z.frame d1 ss ps
  -- the turn of the variables leaves a step for STORE
  pub spare : vars ≡ true → arr.steps + 16 * w1.turns + 1 ≤ B.most

slots_low : (setting : Setting) (sc : Scene) (is : t.Starts) (d : ℕ) (env : Environment) (c rest : List Stmt) (d1 : ℕ) (slots : List ℕ) → AreStarts setting sc d env is c rest d1 slots → (i n : ℕ) → slice_get slots i ≡ Some n → n < d1
slots_low setting sc t.no_starts d env c rest d1 slots l i n e = grind arith
slots_low setting sc (t.value e1 is) d env c rest d1 slots l i n e =
    let rise = (starts_rise setting sc is (d + 1) (past e1 env) l.0 rest d1 l.1 l.3).0 in
    at_place i (sym (ap (λ y. slice_get y i) l.4) ∙ e) (λ j q. slots_low setting sc is (d + 1) (past e1 env) l.0 rest d1 l.1 l.3 j n q) rise
  where
    at_place : (i : ℕ) → slice_get (d ∷ l.1) i ≡ Some n → ((j : ℕ) → slice_get l.1 j ≡ Some n → n < d1) → d + 1 ≤ d1 → n < d1
    at_place zero q go le = let z : d ≡ n = cc in omega arith
    at_place (suc j) q go le = go j q
slots_low setting sc (t.vector x e1 is) d env c rest d1 slots l i n e =
    let rise = (starts_rise setting sc is (d + l.0 + 2) env l.1 rest d1 l.2 l.5).0 in
    at_place i (sym (ap (λ y. slice_get y i) l.6) ∙ e) (λ j q. slots_low setting sc is (d + l.0 + 2) env l.1 rest d1 l.2 l.5 j n q) rise
  where
    at_place : (i : ℕ) → slice_get ((d + l.0 + 1) ∷ l.2) i ≡ Some n → ((j : ℕ) → slice_get l.2 j ≡ Some n → n < d1) → d + l.0 + 2 ≤ d1 → n < d1
    at_place zero q go le = let k = l.0 in let z : d + k + 1 ≡ n = cc in omega arith
    at_place (suc j) q go le = go j q

-- the slots of a LET rise between the depths
pub defined_rise : (setting : Setting) (sc : Scene) (ds : Definitions) (d : ℕ) (env : Environment) (c rest : List Stmt) (d1 : ℕ) (ps : List Spot) → AreDefined setting sc d env ds c rest d1 ps → (d ≤ d1) × RisingSpots d ps
defined_rise setting sc t.no_definitions d env c rest d1 ps l = (let e = l.1 in omega arith, subst (λ y. RisingSpots d y) (sym l.2) tt)
defined_rise setting sc (t.define (t.variables x xs is) ds) d env c rest d1 ps l =
    let a = starts_rise setting sc is d env c l.0 l.1 l.2 l.4 in
    let b = defined_rise setting sc ds l.1 (past_definition (t.variables x xs is) env) l.0 rest d1 l.3 l.5 in (
      let p = a.0 in let q = b.0 in omega arith,
      subst (λ y. RisingSpots d y) (sym l.6) (spots_joined (letters xs) l.2 d l.1 l.3 a.0 a.1 (slots_low setting sc is d env c l.0 l.1 l.2 l.4) b.1),
    )
defined_rise setting sc (t.define (t.routine x y fs a) ds) d env c rest d1 ps l = defined_rise setting sc ds d (past_definition (t.routine x y fs a) env) c rest d1 ps l
defined_rise setting sc (t.define (t.function x y fs e) ds) d env c rest d1 ps l = defined_rise setting sc ds d (past_definition (t.function x y fs e) env) c rest d1 ps l

-- without variables there are no slots
pub no_spots : (setting : Setting) (sc : Scene) (ds : Definitions) (d : ℕ) (env : Environment) (c rest : List Stmt) (d1 : ℕ) (ps : List Spot) → AreDefined setting sc d env ds c rest d1 ps → defines_variables ds ≡ false → ps ≡ []
no_spots setting sc t.no_definitions d env c rest d1 ps l e = l.2
no_spots setting sc (t.define (t.variables x xs is) ds) d env c rest d1 ps l e = absurd (let z : true ≡ false = e in cc)
no_spots setting sc (t.define (t.routine x y fs a) ds) d env c rest d1 ps l e = no_spots setting sc ds d (past_definition (t.routine x y fs a) env) c rest d1 ps l e
no_spots setting sc (t.define (t.function x y fs a) ds) d env c rest d1 ps l e = no_spots setting sc ds d (past_definition (t.function x y fs a) env) c rest d1 ps l e

pub let_values_after : (inner : Meanings) → Throughout (λ A w u. After (history w) u) inner → (ds : Definitions) (env : Environment) (w : World) → After (history w) (let_values inner ds env w)
let_values_after inner grows t.no_definitions env w = stays (history w)
let_values_after inner grows (t.define (t.variables l xs is) ds) env w =
    with_after _ _ _ (turn_after _ _ (adds _ (λ w1. starts_after inner grows is env w1)) w)
    (λ vs. adds _ (λ w1. with_after _ _ _ (let_values_after inner grows ds (past_definition (t.variables l xs is) env) w1) (λ more. adds _ (λ w2. stays (history w2)))))
let_values_after inner grows (t.define (t.routine l x fs c) ds) env w = let_values_after inner grows ds (past_definition (t.routine l x fs c) env) w
let_values_after inner grows (t.define (t.function l x fs e) ds) env w = let_values_after inner grows ds (past_definition (t.function l x fs e) env) w

no_let : (setting : Setting) (s : State) (A B : Account) (z : Configuration) (w : World) (c rest : List Stmt) (d d1 : ℕ) (ps : List Spot) (w1 : World) → A.most ≤ B.most → B.least ≤ A.least → c ≡ rest → d1 ≡ d → ps ≡ []
    → (a : OpenCompleted setting s A z w c d (z.frame + d) w1) → Lets setting s B z w (store_at a) d rest d1 ps false [] w1
no_let setting s A B z w c rest d d1 ps w1 le le' ec ed es a =
    let h = store_at a in
    subst (λ y. Lets setting s B z w h d y d1 ps false [] w1) ec
    (subst (λ y. Lets setting s B z w h d c y ps false [] w1) (sym ed)
    (subst (λ y. Lets setting s B z w h d c d y false [] w1) (sym es)
    (record { arr = completed_more le le' a; since = since_refl h; items = tt; spare = λ q. absurd (let z : false ≡ true = q in cc) })))

pub let_run : (setting : Setting) (inner : Meanings) → Simulates setting inner → (ds : Definitions) (env : Environment) (bs : List Binding) (s : State) (A B : Account) (z : Configuration) (w : World) (c rest : List Stmt) (d d1 : ℕ) (ps : List Spot) (w1 : World)
    → Ready setting z w → z.depth ≤ d → KeepsLabels z.scene.bindings bs → d1 ≤ FRAME_WORDS → A.most ≤ B.most → B.least ≤ A.least - turns_defined false ds → AreDefined setting (record z.scene { bindings = bs }) d env ds c rest d1 ps
    → (a : OpenCompleted setting s A z w c d (z.frame + d) w1) → NamedIn (record z.scene { bindings = bs }) env a.bases1 z.frame
    → Ran setting s B (Lets setting s B z w (store_at a) d rest d1 ps (defines_variables ds)) (OpenExited setting s B z w) (let_values inner ds env w1)
let_run setting inner sim t.no_definitions env bs s A B z w c rest d d1 ps w1 r le keeps few le1 le2 l a named = grind (arith, went, (no_let setting s A B z w c rest d d1 ps w1 le1 (omega arith) l.0 l.1 l.2 a))
let_run setting inner sim (t.define (t.routine x y fs b) ds) env bs s A B z w c rest d d1 ps w1 r le keeps few le1 le2 l a named =
    let_run setting inner sim ds (past_definition (t.routine x y fs b) env) bs s A B z w c rest d d1 ps w1 r le keeps few le1 (omega arith) l a (record { each = named.each })
let_run setting inner sim (t.define (t.function x y fs e) ds) env bs s A B z w c rest d d1 ps w1 r le keeps few le1 le2 l a named =
    let_run setting inner sim ds (past_definition (t.function x y fs e) env) bs s A B z w c rest d d1 ps w1 r le keeps few le1 (omega arith) l a (record { each = named.each })
let_run setting inner sim (t.define (t.variables x xs is) ds) env bs s A B z w c rest d d1 ps w1 r le keeps few le1 le2 l a named =
    let c0 = l.0 in
    let d0 = l.1 in
    let env1 = past_definition (t.variables x xs is) env in
    let sc : Scene = record z.scene { bindings = bs } in
    let h = store_at a in
    let C : Account = record { most = A.most - 16; least = A.least - 1 - turns_started false is } in
    let D : Account = record { most = B.most - 1; least = B.least } in
    let rise0 = (starts_rise setting sc is d env c c0 d0 l.2 l.4).0 in
    let rise1 = (defined_rise setting sc ds d0 env1 c0 rest d1 l.3 l.5).0 in
    let grows : Throughout (λ A w u. After (history w) u) inner = sim.grows in
    with_ran {K = λ vs w2. Started setting s C z w h d c0 d0 l.2 vs w2 × (16 ≤ A.most)}
    (λ vs. adds _ (λ w2. with_after _ _ _ (let_values_after inner grows ds env1 w2) (λ more. adds _ (λ w3. stays (history w3)))))
    (turn_there _ (λ w. starts inner is env w) le1 (omega arith) a (λ n en.
    let A0 : Account = record { most = A.most - 16; least = A.least - 1 } in
    let a1 = open_ticked n en a in
    let big : 16 ≤ A.most = (let q = a.most in omega arith) in
    open_lift (omega arith) (omega arith) (λ vs w2 q. (q, big))
    (starts_run setting inner sim is env bs s A0 C z w c c0 d d0 l.2 (record w1 { turns = n }) r le keeps (omega arith) (omega arith) (omega arith) l.4 a1 named)))
    (λ vs w2 q2.
    let q = q2.0 in
    let big = q2.1 in
    let h1 = store_at q.arr in
    with_ran {K = λ more w3. Lets setting s B z w h d rest d1 ps true (paired (letters xs) vs ++ more) w3} (λ more. adds _ (λ w3. stays (history w3)))
    (open_lift (omega arith) (omega arith) (λ more w3 k.
    let mk = k.arr.most in
    let h2 = store_at k.arr in
    subst (λ y. Lets setting s B z w h d rest d1 y true (paired (letters xs) vs ++ more) w3) (sym l.6) (record {
      arr = completed_more (omega arith) (omega arith) k.arr;
      since = since_on (omega arith) q.since k.since;
      items =
          spots_both setting.codes h2 z.frame d1 (paired (letters xs) vs) more (spots_of (letters xs) l.2) l.3
          (spots_carried setting.codes h1 h2 z.frame d0 d1 (paired (letters xs) vs) (spots_of (letters xs) l.2) rise1 k.since
          (items_spots setting.codes h1 z.frame d0 (letters xs) vs l.2 q.items)) k.items;
      spare = λ u. omega arith;
    }))
    (let_run setting inner sim ds env1 bs s C D z w c0 rest d0 d1 l.3 w2 r (omega arith) keeps few (omega arith) (omega arith) l.5 q.arr
    (let nm = named_grown sc env a.bases1 q.arr.bases1 z.frame q.since.grown named in record { each = nm.each })))
    (λ more w3 k. went k))

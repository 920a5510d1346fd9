-- The frame of the simulation: where code runs and what it finds, counted runs, arrivals, exits and falls, and how parts compose.
use Rattle.bk_simulation.proofs.Words.{◌≡◌, ℕ, zero, suc, ◌+◌, ◌-◌, ◌*◌, ◌<◌, ◌≤◌, ◌^◌, true, List, ◌∷◌, ◌++◌, length, Option, Some, refl, sym, ap, ◌∙◌, subst, append_assoc, arith, ◌⊎◌, ⊎_elim, inl, inr, slice_get_within, FRAME_WORDS, bound_in, Content, Cell, content_of, Placed, Inside, State, Ends, from_label, program_step, Stmt, Jump, Stack, Return, Goal, Value, Environment, Sense, constant, cell, sense_in, sense_of, World, Exit, break, loop, endcase, goto, result, return, Outcome, gives, leaves, ends, undefined, going, each_way, with, turn, turn_of, history, Grows, After, Adds, adds, stays, End, IsTooHigh, end_of}
use Rattle.bk_meaning.specs.World as world
use Rattle.bk_simulation.proofs.Moves.{Moves}
use Rattle.bk_simulation.proofs.FramesKept.{AtMostFrames}
use Rattle.bk_simulation.proofs.BytesKept.{AllBytes, InHand, HasBytes}
use Rattle.bk_simulation.proofs.MadeObjects.{Since, Applies, Store, Grown, Moved, Fits, fits_more}
pub use Rattle.bk_simulation.proofs.Laid.{place_of, IsWord, NameAt, NamedIn}
use Rattle.bk_simulation.proofs.Laid.{Setting, Scene, goal_named, IsLabelHere}

-- where a tree's code runs, and what it finds
pub record Configuration : Type 0 where
  pub scene : Scene
  pub env : Environment
  pub frame : ℕ
  pub bases : List ℕ
  pub cells : ℕ → Cell
  pub hand : Option Content
  pub written : List ℕ
  pub depth : ℕ

abbrev pub store : Configuration → World → Store
store z w = record { bases = z.bases; mem = w.memory; cells = z.cells }

-- the state in a section, before these statements
abbrev pub state : Placed → ℕ → List Stmt → (ℕ → Cell) → ℕ → Option Content → List ℕ → World → State
state own depth c cells frame hand written w =
    record { control = Inside own depth c; cells = cells; frame = frame; hand = hand; input = w.input; output = w.output; written = written }

abbrev pub start : Configuration → List Stmt → World → State
start z c w = state z.scene.own z.depth c z.cells z.frame z.hand z.written w

pub name_grown : (sc : Scene) (bases bases1 : List ℕ) (frame : ℕ) (x : List ℕ) (s : Option Sense) → Grown bases bases1 → NameAt sc bases frame x s
    → NameAt sc bases1 frame x s
name_grown sc bases bases1 frame x (Some (constant n)) g h = h
name_grown sc bases bases1 frame x (Some (cell o i)) g h = (h.0, g.each o h.0 h.1, h.2, h.3, h.4)
name_grown sc bases bases1 frame x _ g h = tt

pub named_grown : (sc : Scene) (env : Environment) (bases bases1 : List ℕ) (frame : ℕ) → Grown bases bases1 → NamedIn sc env bases frame
    → NamedIn sc env bases1 frame
named_grown sc env bases bases1 frame g h = record { each = λ x. name_grown sc bases bases1 frame x (sense_of x env) g (h.each x) }

-- no more frames than that are active
abbrev pub FewFrames : Setting → (ℕ → Cell) → ℕ → ℕ → Type 0
FewFrames setting cells frame n = AtMostFrames setting.program setting.first FRAME_WORDS cells frame n

-- what code finds where it runs
pub record Ready (setting : Setting) (z : Configuration) (w : World) : Type 0 where
  pub named : NamedIn z.scene z.env z.bases z.frame
  pub fits : Fits setting.codes (store z w) (z.frame + z.depth)
  pub low : z.frame ≤ 2 ^ 31 - 65536
  pub high : 16 ≤ z.frame
  pub deep : 2 ≤ z.depth
  pub frames : FewFrames setting z.cells z.frame w.calls
  pub room : w.calls ≤ setting.cap
  pub lasts : Grown setting.lasting z.bases
  pub words : AllBytes z.cells
  pub in_hand : InHand z.hand

-- the global vector is there, so a new object has another number than 0
pub some_objects : (setting : Setting) (z : Configuration) (w : World) → Ready setting z w → 0 < length w.memory
some_objects setting z w r =
    let b : 0 < length z.bases = slice_get_within z.bases 0 16 (r.lasts.each 0 16 setting.vector) in
    omega (arith, r.fits.long)

-- most: steps, and sixteen for each turn left, are at most this. least: this is at most the turns left and what the steps pay for.
pub record Account : Type 0 where
  pub most : ℕ
  pub least : ℕ

-- so many steps more
abbrev pub further : ℕ → Account → Account
further k a = record { most = a.most + k; least = a.least }

-- a step more that pays
abbrev pub paying : Setting → Account → Account
paying setting a = record { most = a.most + 1; least = a.least + setting.pay }

-- a run of so many steps, which pay for so much, in so many frames at most at each state behind the first
pub data Comes (setting : Setting) : ℕ → ℕ → State → State → Type 0 where
  here : (s : State) → Comes setting 0 0 s s
  go_on : (n p : ℕ) (s t u : State) → Moves setting.program s t → FewFrames setting t.cells t.frame setting.cap → Comes setting n p t u → Comes setting (suc n) (setting.pay + p) s u

pub comes_on : (setting : Setting) (n p k q : ℕ) (s t u : State) → Comes setting n p s t → Comes setting k q t u → Comes setting (n + k) (p + q) s u
comes_on setting n p k q s t u (here _) c = grind arith
comes_on setting n p k q s t u (go_on j i _ v _ e r a) c =
    let x : suc (j + k) ≡ suc j + k = omega arith in
    let y : setting.pay + (i + q) ≡ setting.pay + i + q = omega arith in
    subst (λ d. Comes setting (suc j + k) d s u) y (subst (λ d. Comes setting d (setting.pay + (i + q)) s u) x (go_on (j + k) (i + q) s v u e r (comes_on setting j i k q v t u a c)))

pub one : (setting : Setting) (s t : State) → Moves setting.program s t → FewFrames setting t.cells t.frame setting.cap → Comes setting 1 setting.pay s t
one setting s t e r = let x : setting.pay + 0 ≡ setting.pay = omega arith in subst (λ d. Comes setting 1 d s t) x (go_on 0 0 s t t e r (here t))

-- the run comes, in so many steps at most, to where the world's bytes were written and its input is left
pub record Reaches (setting : Setting) (s : State) (B : Account) (w : World) : Type 0 where
  pub to : State
  pub steps : ℕ
  pub paid : ℕ
  pub comes : Comes setting steps paid s to
  pub most : steps ≤ B.most
  pub least : B.least ≤ w.turns + paid
  pub wrote : to.output ≡ w.output
  pub left : to.input ≡ w.input

-- the run ends there
pub record Stopped (setting : Setting) (s : State) (B : Account) (e : world.End) (w : World) : Type 0 where
  pub to : State
  pub steps : ℕ
  pub paid : ℕ
  pub comes : Comes setting steps paid s to
  pub most : suc steps ≤ B.most
  pub end : End
  pub is_end : end_of e ≡ Some end
  pub stops : program_step setting.program to ≡ Ends end to
  pub wrote : to.output ≡ w.output
  pub left : to.input ≡ w.input

-- The run comes to a call whose frame would begin too high; what it wrote begins the bytes.
pub record Fell (setting : Setting) (s : State) (out : List ℕ) : Type 0 where
  pub to : State
  pub steps : ℕ
  pub paid : ℕ
  pub comes : Comes setting steps paid s to
  pub too_high : IsTooHigh to
  pub rest : List ℕ
  pub begins : out ≡ to.output ++ rest

-- or more calls are active than may be
abbrev pub FallsThose : Setting → State → List ℕ → ℕ → Type 0
FallsThose setting s out most = Fell setting s out ⊎ (setting.cap < most)

abbrev pub FallsIn : Setting → State → World → Type 0
FallsIn setting s w = FallsThose setting s w.output w.most_calls

abbrev pub Falls : {A : Type 0} → Setting → State → Outcome A → Type 0
Falls setting s (gives a w) = FallsThose setting s w.output w.most_calls
Falls setting s (leaves x w) = FallsThose setting s w.output w.most_calls
Falls setting s (ends e w) = FallsThose setting s w.output w.most_calls
Falls setting s (undefined l why v) = Unit {0}
Falls setting s (going l w) = FallsThose setting s w.output w.most_calls

abbrev pub Went : {A : Type 0} → Setting → State → Account → (A → World → Type 0) → (Exit → World → Type 0) → Outcome A → Type 0
Went setting s B K X (gives a w) = K a w
Went setting s B K X (leaves x w) = X x w
Went setting s B K X (ends e w) = Stopped setting s B e w
Went setting s B K X (undefined l why v) = Unit {0}
Went setting s B K X (going l w) = Reaches setting s B w

pub record Ran {A : Type 0} (setting : Setting) (s : State) (B : Account) (K : A → World → Type 0) (X : Exit → World → Type 0) (o : Outcome A) : Type 0 where
  pub is : Went setting s B K X o ⊎ Falls setting s o

pub went : {A : Type 0} {setting : Setting} {s : State} {B : Account} {K : A → World → Type 0} {X : Exit → World → Type 0} {o : Outcome A} → Went setting s B K X o
    → Ran setting s B K X o
went q = record { is = inl q }

falls_later : (setting : Setting) (s : State) (w w1 : World) → Grows (history w) (history w1) → FallsIn setting s w → FallsIn setting s w1
falls_later setting s w w1 h f = let c : w.most_calls ≤ w1.most_calls = h.most_calls in ⊎_elim
    (λ (x : Fell setting s w.output). inl (record { to = x.to; steps = x.steps; paid = x.paid; comes = x.comes; too_high = x.too_high; rest = x.rest ++ h.written; begins = h.output ∙ ap (λ l. l ++ h.written) x.begins ∙ append_assoc x.to.output x.rest h.written }))
    (λ (x : setting.cap < w.most_calls). inr (omega arith)) f

-- a fall is one also for all that would follow
pub falls_on : {A : Type 0} (setting : Setting) (s : State) (w : World) (o : Outcome A) → FallsIn setting s w → After (history w) o → Falls setting s o
falls_on setting s w (gives a w1) f h = falls_later setting s w w1 h f
falls_on setting s w (leaves x w1) f h = falls_later setting s w w1 h f
falls_on setting s w (ends e w1) f h = falls_later setting s w w1 h f
falls_on setting s w (undefined l why v) f h = tt
falls_on setting s w (going l w1) f h = falls_later setting s w w1 h f

-- what was given and each exit are gone on with
pub each_way_ran : {A B : Type 0} {setting : Setting} {s : State} {N : Account} {K : A → World → Type 0} {L : B → World → Type 0} {X Y : Exit → World → Type 0}
    {o : Outcome A} {on : A → World → Outcome B} {out : Exit → World → Outcome B}
    → ((a : A) → Adds (on a)) → ((x : Exit) → Adds (out x)) → Ran setting s N K X o → ((a : A) (w : World) → K a w → Ran setting s N L Y (on a w))
    → ((x : Exit) (w : World) → X x w → Ran setting s N L Y (out x w)) → Ran setting s N L Y (each_way on out o)
each_way_ran {A} {B} {setting} {s} {N} {K} {L} {X} {Y} {o} {on} {out} ad ax r h i = by o r.is
  where
    by : (o : Outcome A) → Went setting s N K X o ⊎ Falls setting s o → Ran setting s N L Y (each_way on out o)
    by (gives a w) (inl k) = h a w k
    by (gives a w) (inr f) = record { is = inr (falls_on setting s w (on a w) f ((ad a).at w)) }
    by (leaves x w) (inl k) = i x w k
    by (leaves x w) (inr f) = record { is = inr (falls_on setting s w (out x w) f ((ax x).at w)) }
    by _ r = record { is = r }

-- what follows is gone on with
pub with_ran : {A B : Type 0} {setting : Setting} {s : State} {N : Account} {K : A → World → Type 0} {L : B → World → Type 0} {X : Exit → World → Type 0}
    {o : Outcome A} {go : A → World → Outcome B}
    → ((a : A) → Adds (go a)) → Ran setting s N K X o → ((a : A) (w : World) → K a w → Ran setting s N L X (go a w)) → Ran setting s N L X (with o go)
with_ran ad r h = each_way_ran ad (λ x. adds _ (λ w. stays (history w))) r h (λ x w q. went q)

falls_before : (setting : Setting) (s t : State) (k p : ℕ) (w : World) → Comes setting k p s t → FallsIn setting t w → FallsIn setting s w
falls_before setting s t k p w c r = ⊎_elim
    (λ (x : Fell setting t w.output). inl (record { to = x.to; steps = k + x.steps; paid = p + x.paid; comes = comes_on setting _ _ _ _ _ _ _ c x.comes; too_high = x.too_high; rest = x.rest; begins = x.begins }))
    (λ (x : setting.cap < w.most_calls). inr x) r

-- from a state that comes to the start
pub ran_from : {A : Type 0} {setting : Setting} {s t : State} {k p : ℕ} {M N : Account} {K L : A → World → Type 0} {X Y : Exit → World → Type 0} {o : Outcome A}
    → Comes setting k p s t
    → k + M.most ≤ N.most → N.least ≤ M.least + p → ((a : A) (w : World) → K a w → L a w) → ((x : Exit) (w : World) → X x w → Y x w) → Ran setting t M K X o
    → Ran setting s N L Y o
ran_from {A} {setting} {s} {t} {k} {p} {M} {N} {K} {L} {X} {Y} {o} c le le' h i r = by o r.is
  where
    by : (o : Outcome A) → Went setting t M K X o ⊎ Falls setting t o → Ran setting s N L Y o
    by (gives a w) (inl q) = went (h a w q)
    by (gives a w) (inr f) = record { is = inr (falls_before setting s t k p w c f) }
    by (leaves x w) (inl q) = went (i x w q)
    by (leaves x w) (inr f) = record { is = inr (falls_before setting s t k p w c f) }
    by (ends e w) (inl q) =
        let m = q.most in went
        (record { to = q.to; steps = k + q.steps; paid = p + q.paid; comes = comes_on setting _ _ _ _ _ _ _ c q.comes; most = omega arith; end = q.end; is_end = q.is_end; stops = q.stops; wrote = q.wrote; left = q.left })
    by (ends e w) (inr f) = record { is = inr (falls_before setting s t k p w c f) }
    by (undefined l why v) r = went tt
    by (going l w) (inl q) =
        let m = q.most in let l = q.least in went
        (record { to = q.to; steps = k + q.steps; paid = p + q.paid; comes = comes_on setting _ _ _ _ _ _ _ c q.comes; most = omega arith; least = omega arith; wrote = q.wrote; left = q.left })
    by (going l w) (inr f) = record { is = inr (falls_before setting s t k p w c f) }

-- more is said of it, within a larger account
pub so : {A : Type 0} {setting : Setting} {s : State} {M N : Account} {K L : A → World → Type 0} {X Y : Exit → World → Type 0} {o : Outcome A} → M.most ≤ N.most
    → N.least ≤ M.least
    → ((a : A) (w : World) → K a w → L a w) → ((x : Exit) (w : World) → X x w → Y x w) → Ran setting s M K X o → Ran setting s N L Y o
so {s = s} le le' h i r = ran_from (here s) (omega arith) (omega arith) h i r

pub ran_same : {A : Type 0} {setting : Setting} {s : State} {B : Account} {K L : A → World → Type 0} {X : Exit → World → Type 0} {o : Outcome A}
    → ((a : A) (w : World) → K a w → L a w) → Ran setting s B K X o → Ran setting s B L X o
ran_same h r = so (omega arith) (omega arith) h (λ x w q. q) r

-- a turn is taken, if one is left, behind a run to here
pub turn_behind : {A : Type 0} {setting : Setting} {s to : State} {B : Account} {K : A → World → Type 0} {X : Exit → World → Type 0} (l steps paid : ℕ) (w : World)
    (go : World → Outcome A) → Comes setting steps paid s to
    → steps ≤ B.most → B.least ≤ w.turns + paid → to.output ≡ w.output → to.input ≡ w.input
    → ((n : ℕ) → w.turns ≡ suc n → Ran setting s B K X (go (record w { turns = n }))) → Ran setting s B K X (turn l w go)
turn_behind {A} {setting} {s} {to} {B} {K} {X} l steps paid w go c le le' e ei h = at_turns w.turns refl
  where
    at_turns : (n : ℕ) → w.turns ≡ n → Ran setting s B K X (turn_of l n w go)
    at_turns zero q = went (record { to = to; steps = steps; paid = paid; comes = c; most = omega arith; least = omega arith; wrote = e; left = ei })
    at_turns (suc n) q = h n q

-- The run has come to a place at a depth. Objects lie below the top, and what was there is related so to what is. As many calls are
-- active as before.
pub record Completed (setting : Setting) (s : State) (B : Account) (own : Placed) (frame calls top : ℕ) (R : Store → Type 0) (c : List Stmt) (depth : ℕ)
    (w1 : World) : Type 0 where
  pub steps : ℕ
  pub paid : ℕ
  pub bases1 : List ℕ
  pub cells1 : ℕ → Cell
  pub hand1 : Option Content
  pub written1 : List ℕ
  pub comes : Comes setting steps paid s (state own depth c cells1 frame hand1 written1 w1)
  pub most : steps + 16 * w1.turns ≤ B.most
  pub least : B.least ≤ w1.turns + paid
  pub calls_are : w1.calls ≡ calls
  pub frames : FewFrames setting cells1 frame calls
  pub room : calls ≤ setting.cap
  pub bytes : HasBytes (state own depth c cells1 frame hand1 written1 w1)
  pub fits : Fits setting.codes (record { bases = bases1; mem = w1.memory; cells = cells1 }) top
  pub moved : R (record { bases = bases1; mem = w1.memory; cells = cells1 })

-- what code at the situation's top may change was changed
abbrev pub CompletedAt : Setting → State → Account → Configuration → List Stmt → ℕ → World → World → Type 0
CompletedAt setting s B z c d w w1 = Completed setting s B z.scene.own z.frame w.calls (z.frame + z.depth) (Moved (z.frame + z.depth) (store z w)) c d w1

-- objects may have been made since, at the situation's top or above; there are more words
abbrev pub OpenCompleted : Setting → State → Account → Configuration → World → List Stmt → ℕ → ℕ → World → Type 0
OpenCompleted setting s B z w c d more w1 = Completed setting s B z.scene.own z.frame w.calls more (Since (z.frame + z.depth) (store z w)) c d w1

-- the store there
abbrev pub store_at : {setting : Setting} {s : State} {B : Account} {own : Placed} {frame calls top : ℕ} {R : Store → Type 0} {c : List Stmt} {d : ℕ} {w1 : World}
    → Completed setting s B own frame calls top R c d w1 → Store
store_at {w1 = w1} a = record { bases = a.bases1; mem = w1.memory; cells = a.cells1 }

-- the state there
abbrev pub there : (setting : Setting) (s : State) (B : Account) (z : Configuration) (c : List Stmt) (d : ℕ) (w w1 : World) → CompletedAt setting s B z c d w w1 → State
there setting s B z c d w w1 a = state z.scene.own d c a.cells1 z.frame a.hand1 a.written1 w1

-- a value is on top
pub record Has (setting : Setting) (s : State) (B : Account) (z : Configuration) (c : List Stmt) (d : ℕ) (w : World) (v : Value) (w1 : World) : Type 0 where
  pub arr : CompletedAt setting s B z c d w w1
  pub stands : Applies setting.codes arr.bases1 v (content_of (arr.cells1 (z.frame + z.depth)))

-- Where control is when a command or an expression was left: before the two statements that go to a label, at the LAB with a result in
-- hand, or before a return.
abbrev pub GoesTo : Goal → List Stmt → Type 0
GoesTo to c = (r : List Stmt) × (c ≡ Stack to.depth ∷ Jump to.label ∷ r)

abbrev pub Leads : Scene → Exit → List Stmt → Type 0
Leads sc break c = GoesTo sc.around.leaves c × (sc.exits.loop ≡ true)
Leads sc loop c = GoesTo sc.around.goes_on c × (sc.exits.loop ≡ true)
Leads sc endcase c = GoesTo sc.around.ends_case c × (sc.exits.switch ≡ true)
Leads sc (goto x) c = GoesTo (goal_named sc x) c × IsLabelHere (bound_in sc.bindings x)
Leads sc (result v) c = from_label sc.own.stmts sc.around.valof ≡ Some c
Leads sc return c = (r : List Stmt) × (c ≡ Return ∷ r)

-- a result is in hand for its VALOF
abbrev pub Handed : Setting → List ℕ → Exit → Option Content → Type 0
Handed setting bases (result v) h = (x : Content) × (h ≡ Some x) × Applies setting.codes bases v x
Handed setting bases _ h = Unit {0}

-- steps that are still to be done there
abbrev pub still : Exit → ℕ
still (result v) = 0
still return = 0
still _ = 2

pub record Exited (setting : Setting) (s : State) (B : Account) (sc : Scene) (frame calls top : ℕ) (R : Store → Type 0) (x : Exit) (w1 : World) : Type 0 where
  pub control : List Stmt
  pub depth1 : ℕ
  pub leads : Leads sc x control
  pub arr : Completed setting s B sc.own frame calls top R control depth1 w1
  pub later : arr.steps + 16 * w1.turns + still x ≤ B.most
  pub hands : Handed setting arr.bases1 x arr.hand1

abbrev pub Out : Setting → State → Account → Configuration → World → Exit → World → Type 0
Out setting s B z w = Exited setting s B z.scene z.frame w.calls (z.frame + z.depth) (Moved (z.frame + z.depth) (store z w))

-- the situation after an arrival, at a depth and with other names' objects behind
abbrev pub next : (setting : Setting) (s : State) (B : Account) (z : Configuration) (c : List Stmt) (d : ℕ) (w w1 : World) → Environment → ℕ → CompletedAt setting s B z c d w w1 → Configuration
next setting s B z c d w w1 env depth a = record z { env = env; bases = a.bases1; cells = a.cells1; hand = a.hand1; written = a.written1; depth = depth }

-- names mean the same where only the number of the next object is another
pub named_again : {sc : Scene} {env env1 : Environment} {bases : List ℕ} {frame : ℕ} → env1.names ≡ env.names → NamedIn sc env bases frame
    → NamedIn sc env1 bases frame
named_again {sc} {env} {env1} {bases} {frame} en n = record { each = λ x. subst (λ y. NameAt sc bases frame x (sense_in y x)) (sym en) (n.each x) }

-- with another scene and other names
pub ready_in : {setting : Setting} {z : Configuration} {w : World} (sc : Scene) (env : Environment) → NamedIn sc env z.bases z.frame → Ready setting z w → Ready setting
    (record z { scene = sc; env = env }) w
ready_in sc env n r = grind arith

pub ready_next : {setting : Setting} {s : State} {B : Account} {z : Configuration} {c : List Stmt} {d : ℕ} {w w1 : World} (env : Environment) (depth : ℕ)
    (a : CompletedAt setting s B z c d w w1)
    → env.names ≡ z.env.names → z.depth ≤ depth → Ready setting z w → Ready setting (next setting s B z c d w w1 env depth a) w1
ready_next {setting} {s} {B} {z} {c} {d} {w} {w1} env depth a en le r = let dd = r.deep in record {
  named = named_again en (named_grown z.scene z.env z.bases a.bases1 z.frame a.moved.grown r.named);
  fits = fits_more setting.codes _ (z.frame + z.depth) (z.frame + depth) (omega arith) a.fits;
  low = r.low;
  high = r.high;
  deep = omega arith;
  frames = subst (λ n. FewFrames setting a.cells1 z.frame n) (sym a.calls_are) a.frames;
  room = subst (λ n. n ≤ setting.cap) (sym a.calls_are) a.room;
  lasts = record { each = λ o b1 e. a.moved.grown.each o b1 (r.lasts.each o b1 e) };
  words = a.bytes.words;
  in_hand = a.bytes.hand;
}

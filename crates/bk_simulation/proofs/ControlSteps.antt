-- Steps that move control from where a run has come to: LAB, jumps, tests, results.
use Rattle.bk_simulation.proofs.Compose.{accounted, stepped, links_below, completed_more, completed_paid, topped, closed_arrival, by_option, Moves, label_moves, jump_moves, taken_moves, passed_moves, give_result_moves, does, Like, Applies, Store, Moved, below_like, judged_word, Setting, Scene, LabelAt, Configuration, state, Ready, Account, paying, Ran, went, Completed, CompletedAt, OpenCompleted, there, Has, GoesTo, Exited, Out, still, ◌≡◌, ℕ, suc, ◌+◌, ◌-◌, ◌<◌, ◌≤◌, ◌==◌, Bool, true, false, not, List, ◌∷◌, length, Option, Some, None, refl, ap, ◌∙◌, subst, arith, option_map_or, Content, Unset, Word, Cell, content_of, below, settle, Placed, Inside, State, Goal, from_label, Stmt, Jump, JumpIf, Label, GiveResult, TakeResult, Stack, Value, truth_of_value, World, Exit, given, forgetting, judged, drop, truth_cause}
use Rattle.bk_simulation.proofs.Simulates.{where_to, HasTruth}

-- at a LAB: on behind it, which pays
pub label_goes : (setting : Setting) (sc : Scene) (d k n : ℕ) (rest : List Stmt) (cells : ℕ → Cell) (frame : ℕ) (hand : Option Content) (written : List ℕ) (w : World)
    → LabelAt setting sc d n rest
    → Moves setting.program (state sc.own k (Label n ∷ rest) cells frame hand written w) (state sc.own d rest cells frame hand written w)
label_goes setting sc d k n rest cells frame hand written w l =
    let s = state sc.own k (Label n ∷ rest) cells frame hand written w in
    subst (λ y. Moves setting.program s (state sc.own d y cells frame hand written w)) l.following
    (subst (λ y. Moves setting.program s (state sc.own y (drop (suc l.place) sc.own.stmts) cells frame hand written w)) l.same_depth
    (label_moves setting.program s sc.own rest k n l.place (setting.well.is_program.accepted sc.section sc.own l.is_own) l.at refl))

abbrev pub label_on : {setting : Setting} {s : State} {B : Account} {sc : Scene} {frame calls top : ℕ} {R : Store → Type 0} {d k n : ℕ} {rest : List Stmt}
    {w1 : World} → LabelAt setting sc d n rest
    → Completed setting s B sc.own frame calls top R (Label n ∷ rest) k w1 → Completed setting s (paying setting B) sc.own frame calls top R rest d w1
label_on {setting} {sc = sc} {frame = frame} {top = top} {R = R} {d = d} {k = k} {n = n} {rest = rest} {w1 = w1} l a =
    stepped w1.memory top R rest d a a.cells1 a.hand1 a.written1 (λ x v le e. e) a.fits a.moved
    (label_goes setting sc d k n rest a.cells1 frame a.hand1 a.written1 w1 l)

pub landed_on : {setting : Setting} {s : State} {A B : Account} {sc : Scene} {frame calls top : ℕ} {R : Store → Type 0} {d k n : ℕ} {rest : List Stmt} {w1 : World}
    → A.most + 1 ≤ B.most → B.least ≤ A.least → LabelAt setting sc d n rest
    → Completed setting s A sc.own frame calls top R (Label n ∷ rest) k w1 → Completed setting s B sc.own frame calls top R rest d w1
landed_on le le' l a = completed_more (omega arith) (omega arith) (label_on l a)

-- a jump
abbrev pub jump_on : {setting : Setting} {s : State} {B : Account} {own : Placed} {frame calls top : ℕ} {h : Store} {k n : ℕ} {to rest : List Stmt} {w1 : World}
    → suc frame < top → top ≤ frame + k → from_label own.stmts n ≡ Some to
    → Completed setting s B own frame calls top (Moved top h) (Jump n ∷ rest) k w1 → Completed setting s (paying setting B) own frame calls top (Moved top h) to k w1
jump_on {setting} {own = own} {frame = frame} {k = k} {n = n} {to = to} {rest = rest} {w1 = w1} lt le e a =
    completed_paid a (below (frame + k) a.cells1) None a.written1 lt (λ x lx. below_like (frame + k) a.cells1 x (omega arith))
    (jump_moves setting.program (state own k (Jump n ∷ rest) a.cells1 frame a.hand1 a.written1 w1) own rest k n to refl e)

-- to a LAB
pub jumped_on : {setting : Setting} {s : State} {A B : Account} {sc : Scene} {frame calls d n : ℕ} {h : Store} {rest following : List Stmt} {w1 : World}
    → A.most + 2 ≤ B.most → B.least ≤ A.least → 2 ≤ d → LabelAt setting sc d n rest
    → Completed setting s A sc.own frame calls (frame + d) (Moved (frame + d) h) (Jump n ∷ following) d w1 → Completed setting s B sc.own frame calls (frame + d)
    (Moved (frame + d) h) rest d w1
jumped_on le le' dp l a = completed_more (omega arith) (omega arith) (label_on l (jump_on (omega arith) (omega arith) l.found a))

-- the depth is set
pub stacked_like : (frame k n top : ℕ) (cells : ℕ → Cell) → top ≤ frame + n → (x : ℕ) → x < top → Like
    (below (frame + n) (settle (frame + k) (frame + n) cells) x) (cells x)
stacked_like frame k n top cells le x lt = grind (arith, below_like)

abbrev pub stack_on : {setting : Setting} {s : State} {B : Account} {own : Placed} {frame calls top : ℕ} {h : Store} {k n : ℕ} {c rest : List Stmt} {w1 : World}
    → suc frame < top → top ≤ frame + n → c ≡ Stack n ∷ rest
    → Completed setting s B own frame calls top (Moved top h) c k w1 → Completed setting s (paying setting B) own frame calls top (Moved top h) rest n w1
stack_on {setting} {own = own} {frame = frame} {top = top} {k = k} {n = n} {c = c} {rest = rest} {w1 = w1} lt le e a =
    completed_paid a (below (frame + n) (settle (frame + k) (frame + n) a.cells1)) None a.written1 lt (stacked_like frame k n top a.cells1 le)
    (does setting.program (state own k c a.cells1 frame a.hand1 a.written1 w1) own rest k (Stack n) (ap (λ y. Inside own k y) e) refl refl)

-- what was made dies, and the frame is as deep as before
pub closes : {setting : Setting} {s : State} {D E : Account} {z : Configuration} {w : World} {rest : List Stmt} {d2 more : ℕ} {w2 : World} → D.most + 1 ≤ E.most
    → E.least ≤ D.least → Ready setting z w → OpenCompleted setting s D z w (Stack z.depth ∷ rest) d2 more w2
    → CompletedAt setting s E z rest z.depth w (forgetting (length w.memory) w2)
closes le le' r q = completed_more (omega arith) (omega arith) (stack_on (links_below r) (omega arith) refl (closed_arrival r q))

-- An exit goes to the LAB to which it leads.
pub caught_at : {setting : Setting} {s : State} {B : Account} {sc : Scene} {frame calls top : ℕ} {h : Store} {x : Exit} {w1 : World}
    (e : Exited setting s B sc frame calls top (Moved top h) x w1) (to : Goal) (d : ℕ) (there : List Stmt)
    → still x ≡ 2 → GoesTo to e.control → from_label sc.own.stmts to.label ≡ Some there → to.depth ≡ d → suc frame < top → top ≤ frame + d
    → Completed setting s (record { most = B.most; least = B.least + setting.pay + setting.pay }) sc.own frame calls top (Moved top h) there d w1
caught_at {setting} {s} {B} {sc} {frame} {calls} {top} {h} {x} {w1} e to d there two goes found deep lt le =
    let l = e.later in
    let m = e.arr.least in
    let a : Completed setting s (record { most = B.most - 2; least = B.least }) sc.own frame calls top (Moved top h) e.control e.depth1 w1 = accounted w1.turns e.arr (omega arith) (omega arith) in
    completed_more (omega arith) (omega arith) (jump_on lt le found (stack_on lt le (goes.1 ∙ ap (λ y. Stack y ∷ Jump to.label ∷ goes.0) deep) a))

-- a test of the value on top
pub tested : {setting : Setting} {s : State} {A B : Account} {z : Configuration} {u : Bool} {n : ℕ} {to rest : List Stmt} {w w1 : World} {v : Value} (place : ℕ) → A.most + 1 ≤ B.most
    → B.least ≤ A.least → Ready setting z w
    → from_label z.scene.own.stmts n ≡ Some to → Has setting s A z (JumpIf u n ∷ rest) (z.depth + 1) w v w1 → Ran setting s B (HasTruth setting s B z u to rest w) (Out setting s B z w)
    (judged place v w1)
tested {setting} {s} {A} {B} {z} {u} {n} {to} {rest} {w} {w1} {v} place le le' r e a =
    by_option (λ y. Ran setting s B (HasTruth setting s B z u to rest w) (Out setting s B z w) (given place (truth_cause v) y w1)) (truth_of_value w1.memory v) (λ _. went tt) (λ t h.
    let j = judged_word setting.codes a.arr.bases1 a.arr.cells1 (z.frame + z.depth) w1 a.arr.fits v _ t a.stands h in
    went (lands u t j.word refl j.is_word j.zero_if))
  where
    here : State
    here = there setting s A z (JumpIf u n ∷ rest) (z.depth + 1) w w1 a.arr

    goes : (c2 : List Stmt) → Moves setting.program here (state z.scene.own z.depth c2 (below (z.frame + z.depth) a.arr.cells1) z.frame None a.arr.written1 w1)
        → CompletedAt setting s B z c2 z.depth w w1
    goes c2 m =
        completed_more (omega arith) (omega arith)
        (completed_paid a.arr (below (z.frame + z.depth) a.arr.cells1) None a.arr.written1 (links_below r) (λ x lx. below_like (z.frame + z.depth) a.arr.cells1 x lx) m)

    lands : (u0 t : Bool) (x : ℕ) → u0 ≡ u → content_of (a.arr.cells1 (z.frame + z.depth)) ≡ Word x → (x == 0) ≡ not t → CompletedAt setting s B z
        (where_to u0 t to rest) z.depth w w1
    lands true false x eu ew et = goes rest (passed_moves setting.program here z.scene.own rest z.depth n x u refl ew (et ∙ eu))
    lands false true x eu ew et = goes rest (passed_moves setting.program here z.scene.own rest z.depth n x u refl ew (et ∙ eu))
    lands _ _ x eu ew et = goes to (taken_moves setting.program here z.scene.own rest z.depth n x u to refl ew (et ∙ ap not eu) e)

-- a result is given
abbrev pub result_on : {setting : Setting} {s : State} {A : Account} {z : Configuration} {n : ℕ} {to rest : List Stmt} {w w1 : World} {v : Value} → Ready setting z w
    → from_label z.scene.own.stmts n ≡ Some to
    → (a : Has setting s A z (GiveResult n ∷ rest) (z.depth + 1) w v w1) → CompletedAt setting s (paying setting A) z to z.depth w w1
result_on {setting} {s} {A} {z} {n} {to} {rest} {w} {w1} r e a =
    completed_paid a.arr (below (z.frame + z.depth) a.arr.cells1) (Some (content_of (a.arr.cells1 (z.frame + z.depth)))) a.arr.written1 (links_below r)
    (λ x lx. below_like (z.frame + z.depth) a.arr.cells1 x lx)
    (give_result_moves setting.program (there setting s A z (GiveResult n ∷ rest) (z.depth + 1) w w1 a.arr) z.scene.own rest z.depth n to refl e)

-- and taken up; where none came the item is unset
pub taken_on : {setting : Setting} {s : State} {A B : Account} {z : Configuration} {rest : List Stmt} {k : ℕ} {w w1 : World} {v : Value} → A.most + 1 ≤ B.most
    → B.least ≤ A.least → Ready setting z w
    → (a : CompletedAt setting s A z (TakeResult z.depth ∷ rest) k w w1) → Applies setting.codes a.bases1 v (option_map_or (λ x. x) a.hand1 Unset) → Has setting s B z rest
    (z.depth + 1) w v w1
taken_on {setting} {s} {A} {z = z} {rest = rest} {k = k} {w = w} {w1 = w1} le le' r a st =
    topped (option_map_or (λ x. x) a.hand1 Unset) le le' r.deep a st
    (does setting.program (there setting s A z (TakeResult z.depth ∷ rest) k w w1 a) z.scene.own rest k (TakeResult z.depth) refl refl refl)

-- FOR as a command.
use Rattle.bk_simulation.proofs.Words.{◌≡◌, ◌≢◌, ℕ, zero, suc, ◌+◌, ◌-◌, ◌*◌, ◌<◌, ◌≤◌, ◌^◌, Bool, true, false, cond, List, [], ◌∷◌, ◌++◌, length, Some, None, refl, sym, ap, ◌∙◌, subst, arith, ⊎_elim, not, nat_lt, pos, int_lt, bytes_eq-Decides, FRAME_WORDS, Bound, Binding, bound_in, bind as bind_bound, Content, Cell, Variable, Held, content_of, below, settle, Word, State, Local, Stmt, Label, Load, JumpIf, Jump, Store as Store_stmt, Stack, Number, Dyadic, Assign, variable, test_of_step, goal, Mention, Expression, Expressions, Command, Value, holds, number, address, Environment, cell, past, World, Outcome, Done, done, given, with, either, making, Exit, break, loop, turn, history, Meanings, fetch, store as put_value, at, Sought, forwards, step_of, for_test, for_rounds_of, for_loop, round_exit, for_step, relation, Adds, adds, with_after, given_after, closing_after, stays, each_way_after, turn_after, changes_after, either_after, scope_of, alone, nat_tests, ints, signed, word_of, from_label, read, operate, judged, slice_get, Cell_of, cell_cause, no_constant}
use Rattle.bk_simulation.proofs.Pieces.{by_option, by_test, jump_moves, does, BaseOf, Alive, Like, like_on, Applies, StandsCell, Store, Moved, moved_on, fits_above, fits_more, stands_grown, below_at, below_like, settle_like, settle_at, read_here, make, make_fits, Since, since_refl, since_on, since_cells, since_made, grown_made, lying, since_moved, get_new, turns_of, turns_in, turns_through, Setting, Scene, in_loop, IsAlone, KeepsLabels, LabelAt, IsAct, IsForLoop, behind_body, some_objects, Configuration, store, state, start, named_grown, Ready, Account, further, went, ran_from, CompletedAt, OpenCompleted, there, next, ready_next, each_way_ran, with_ran, so, Out, Has, begun, stay, links_like, with_objects, stepped, following, completed_more, comes_to, open_configuration, open_ready, open_step, open_on, ran_open, closed_ran, completed_turn, turn_there, ran_more, outside, completed_on, topped, above, Simulates, Limit, where_to, RanDid, for_scope, for_counts, label_on, landed_on, closes, caught_at, tested, bound_named, operates, dyadic_run, for_two, two_run, Two, RanValue, pushes_item, same_number, NameAt}
use Rattle.bk_simulation.proofs.Terms.{Bound as b, bind, Operator as op, Dyadic as two}
use Rattle.bk_tree.specs.Tree as t
use Rattle.bk_simulation.proofs.Loops.{scope_runs, around_ready, looping, round_exit_adds}
use Rattle.bk_meaning.specs.Memory as memory
use Rattle.bk_simulation.proofs.Assignments.{word_stored}

-- ---- The rounds of a FOR.

-- ---- The step and the test of a FOR.

-- the limit stands at its place behind each arrival
pub limit_here : (setting : Setting) (s : State) (A : Account) (z : Configuration) (c : List Stmt) (k : ℕ) (w w1 : World) (d o : ℕ) (u : Value) → z.depth ≡ d + 2 → Limit setting z w d o u → (a : CompletedAt setting s A z c k w w1) → Applies setting.codes a.bases1 u (content_of (a.cells1 (z.frame + (d + 1))))
limit_here setting s A z c k w w1 d o u ed l a = grind arith

-- a slot is loaded
slot_run : (setting : Setting) (s : State) (A B : Account) (z : Configuration) (q : ℕ) (rest : List Stmt) (w w1 : World) (v : Value) → A.most + 1 ≤ B.most → B.least ≤ A.least → 2 ≤ z.depth → (a : CompletedAt setting s A z (Load (Local q) ∷ rest) z.depth w w1)
    → Applies setting.codes a.bases1 v (content_of (a.cells1 (z.frame + q))) → Has setting s B z rest (z.depth + 1) w v w1
slot_run setting s A B z q rest w w1 v le le' dp a st =
    topped _ le le' dp a st (does setting.program (there setting s A z (Load (Local q) ∷ rest) z.depth w w1 a) z.scene.own rest z.depth (Load (Local q)) refl refl refl)

variable_run : (place : ℕ) (setting : Setting) (s : State) (A B : Account) (z : Configuration) (d o : ℕ) (rest : List Stmt) (w w1 : World) → A.most + 1 ≤ B.most → B.least ≤ A.least → 2 ≤ z.depth → BaseOf z.bases o (z.frame + d) → CompletedAt setting s A z (Load (Local d) ∷ rest) z.depth w w1
    → RanValue setting s B z rest w (fetch place (address o 0) w1)
variable_run place setting s A B z d o rest w w1 le le' dp eb a =
    by_option (λ y. RanValue setting s B z rest w (given place (cell_cause (address o 0)) y w1)) (read w1.memory (address o 0)) (λ _. went tt) (λ v e.
    let f = read_here setting.codes _ (z.frame + z.depth) o 0 (z.frame + d) v a.fits (a.moved.grown.each o (z.frame + d) eb) e in
    let zero : z.frame + d + 0 ≡ z.frame + d = omega arith in
    went (slot_run setting s A B z d rest w w1 v le le' dp a (subst (λ y. Applies setting.codes a.bases1 v (content_of (a.cells1 y))) zero (subst (λ y. Applies setting.codes a.bases1 v y) (sym (ap content_of f.there)) f.stands))))

-- a second item
second_item : (setting : Setting) (s : State) (A B : Account) (z : Configuration) (i : Stmt) (rest : List Stmt) (w w1 : World) (u v : Value) → A.most + 1 ≤ B.most → B.least ≤ A.least → Ready setting z w → (a : Has setting s A z (i ∷ rest) (z.depth + 1) w u w1)
    → Has setting (start (next setting s A z (i ∷ rest) (z.depth + 1) w w1 z.env (z.depth + 1) a.arr) (i ∷ rest) w1) (record { most = 16 * w1.turns + 1; least = w1.turns }) (next setting s A z (i ∷ rest) (z.depth + 1) w w1 z.env (z.depth + 1) a.arr) rest (z.depth + 1 + 1) w1 v w1
    → Two setting s B z rest w u v w1
second_item setting s A B z i rest w w1 u v le le' r a b = let m = a.arr.most in let l = a.arr.least in record {
  arr = completed_on (omega arith) (omega arith) r (omega arith) a.arr b.arr;
  first = above a b.arr;
  second = b.stands;
}

-- the step is pushed
step_pushed : (setting : Setting) (s : State) (A B : Account) (z : Configuration) (k : ℕ) (rest : List Stmt) (w w1 : World) (u : Value) → A.most + 1 ≤ B.most → B.least ≤ A.least → k < 2 ^ 32 → Ready setting z w → Has setting s A z (Number (signed k) ∷ rest) (z.depth + 1) w u w1
    → Two setting s B z rest w u (number k) w1
step_pushed setting s A B z k rest w w1 u le le' lk r a =
    let z1 = next setting s A z (Number (signed k) ∷ rest) (z.depth + 1) w w1 z.env (z.depth + 1) a.arr in
    let r1 = ready_next z.env (z.depth + 1) a.arr refl (omega arith) r in
    second_item setting s A B z (Number (signed k)) rest w w1 u (number k) le le' r a
    (pushes_item setting (record { most = 16 * w1.turns + 1; least = w1.turns }) z1 (Number (signed k) ∷ rest) (Number (signed k)) rest w1 (number k) (Word (word_of (signed k))) (omega arith) (omega arith) refl r1 (ap Word (same_number k lk))
    (does setting.program (start z1 (Number (signed k) ∷ rest) w1) z.scene.own rest (z.depth + 1) (Number (signed k)) refl refl refl))

-- the limit is pushed
limit_pushed : (setting : Setting) (s : State) (A B : Account) (z : Configuration) (d o : ℕ) (v : Value) (rest : List Stmt) (w w1 : World) (u : Value) → A.most + 1 ≤ B.most → B.least ≤ A.least → z.depth ≡ d + 2 → Limit setting z w d o v → Ready setting z w
    → Has setting s A z (Load (Local (d + 1)) ∷ rest) (z.depth + 1) w u w1 → Two setting s B z rest w u v w1
limit_pushed setting s A B z d o v rest w w1 u le le' ed l r a =
    let z1 = next setting s A z (Load (Local (d + 1)) ∷ rest) (z.depth + 1) w w1 z.env (z.depth + 1) a.arr in
    let r1 = ready_next z.env (z.depth + 1) a.arr refl (omega arith) r in
    second_item setting s A B z (Load (Local (d + 1))) rest w w1 u v le le' r a
    (pushes_item setting (record { most = 16 * w1.turns + 1; least = w1.turns }) z1 (Load (Local (d + 1)) ∷ rest) (Load (Local (d + 1))) rest w1 v (content_of (a.arr.cells1 (z.frame + (d + 1)))) (omega arith) (omega arith) refl r1
    (limit_here setting s A z (Load (Local (d + 1)) ∷ rest) (z.depth + 1) w w1 d o v ed l a.arr)
    (does setting.program (start z1 (Load (Local (d + 1)) ∷ rest) w1) z.scene.own rest (z.depth + 1) (Load (Local (d + 1))) refl refl refl))

-- ---- the step is added to the variable
sum_adds : (place : ℕ) (u v : Value) → Adds (operate place op.Add u v)
sum_adds place u v = adds _ (λ w. given_after _ _ _ w)

put_adds : (place : ℕ) (p v : Value) → Adds (put_value place (at p) v)
put_adds place p v = adds _ (λ w. changes_after _ _ (memory.write w.memory p v) w)

pub step_run : (place : ℕ) (setting : Setting) (s : State) (A B : Account) (z : Configuration) (d o k : ℕ) (rest : List Stmt) (w w1 : World) → A.most + 4 ≤ B.most → B.least ≤ A.least → k < 2 ^ 32 → BaseOf z.bases o (z.frame + d) → Ready setting z w
    → CompletedAt setting s A z (Load (Local d) ∷ Number (signed k) ∷ Dyadic two.Add ∷ Assign (Local d) ∷ rest) z.depth w w1 → RanDid setting s B z rest w (for_step place o k w1)
step_run place setting s A B z d o k rest w w1 le le' lk eb r a =
    let A1 : Account = record { most = A.most + 1; least = A.least } in
    let A2 : Account = record { most = A.most + 2; least = A.least } in
    let A3 : Account = record { most = A.most + 3; least = A.least } in
    with_ran (λ v. adds _ (λ w2. with_after _ _ _ ((sum_adds _ v (number k)).at w2) (λ x. put_adds _ (address o 0) x)))
    (ran_more (omega arith) (omega arith) (variable_run _ setting s A A1 z d o (Number (signed k) ∷ Dyadic two.Add ∷ Assign (Local d) ∷ rest) w w1 (omega arith) (omega arith) r.deep eb a))
    (λ v w2 q.
    let t = step_pushed setting s A1 A2 z k (Dyadic two.Add ∷ Assign (Local d) ∷ rest) w w2 v (omega arith) (omega arith) lk r q in
    with_ran (λ x. put_adds _ (address o 0) x)
    (ran_more (omega arith) (omega arith) (dyadic_run setting s A2 A3 z two.Add (Assign (Local d) ∷ rest) w w2 v (number k) (operate place op.Add v (number k) w2) (omega arith) (omega arith) r.deep t
    (operates setting.codes t.arr.bases1 t.arr.cells1 (z.frame + z.depth) w2 t.arr.fits place op.Add v (number k) _ _ t.first t.second)))
    (λ x w3 y. word_stored _ setting s A3 B z rest w w3 (Local d) o 0 (z.frame + d) x (omega arith) (omega arith) r y.arr (y.arr.moved.grown.each o (z.frame + d) eb) (omega arith) y.stands))

-- ---- the test
-- a step below 0 counts down
pub below_zero : (k : ℕ) → k < 2 ^ 32 → int_lt (signed k) (pos 0) ≡ not (nat_lt k (2 ^ 31))
below_zero k lt = grind (arith, ints, nat_tests)

-- the test of the scheme is the relation of the meaning
pub same_test : (k : ℕ) → k < 2 ^ 32 → test_of_step k ≡ Dyadic (cond (nat_lt k (2 ^ 31)) two.AtMost two.AtLeast)
same_test k lt = ap (λ (b : Bool). cond b (Dyadic two.AtLeast) (Dyadic two.AtMost)) (below_zero k lt) ∙ by_bool (nat_lt k (2 ^ 31))
  where
    by_bool : (b : Bool) → cond (not b) (Dyadic two.AtLeast) (Dyadic two.AtMost) ≡ Dyadic (cond b two.AtMost two.AtLeast)
    by_bool true = refl
    by_bool false = refl

related_run : (place : ℕ) (setting : Setting) (s : State) (A B : Account) (z : Configuration) (b : Bool) (rest : List Stmt) (w w1 : World) (u v : Value) → A.most + 1 ≤ B.most → B.least ≤ A.least → 2 ≤ z.depth → Two setting s A z (Dyadic (cond b two.AtMost two.AtLeast) ∷ rest) w u v w1
    → RanValue setting s B z rest w (operate place (cond b op.AtMost op.AtLeast) u v w1)
related_run place setting s A B z true rest w w1 u v le le' dp t =
    dyadic_run setting s A B z two.AtMost rest w w1 u v (operate place op.AtMost u v w1) le le' dp t (operates setting.codes t.arr.bases1 t.arr.cells1 (z.frame + z.depth) w1 t.arr.fits place op.AtMost u v _ _ t.first t.second)
related_run place setting s A B z false rest w w1 u v le le' dp t =
    dyadic_run setting s A B z two.AtLeast rest w w1 u v (operate place op.AtLeast u v w1) le le' dp t (operates setting.codes t.arr.bases1 t.arr.cells1 (z.frame + z.depth) w1 t.arr.fits place op.AtLeast u v _ _ t.first t.second)

related_adds : (place : ℕ) (b : Bool) (u v : Value) → Adds (operate place (cond b op.AtMost op.AtLeast) u v)
related_adds place true u v = adds _ (λ w. given_after _ _ _ w)
related_adds place false u v = adds _ (λ w. given_after _ _ _ w)

fetch_adds : (place : ℕ) (a : Value) → Adds (fetch place a)
fetch_adds place a = adds _ (λ w. given_after _ _ _ w)

judged_adds : (place : ℕ) (v : Value) → Adds (judged place v)
judged_adds place v = adds _ (λ w. given_after _ _ _ w)

either_adds : (go : World → Outcome Done) → Adds go → (b : Bool) → Adds (λ w. either b go done w)
either_adds go ad b = adds _ (λ w. either_after b go done ad (adds _ (λ w1. stays (history w1))) w)

pub test_adds : (place : ℕ) (o k : ℕ) (u : Value) (go : World → Outcome Done) → Adds go → Adds (for_test place o u k go)
test_adds place o k u go ad = grind (arith, adds, go, either, done, related_adds, judged_adds, either_adds, (address o 0), (fetch_adds place (address o 0)))

pub step_adds : (place : ℕ) (o k : ℕ) → Adds (for_step place o k)
step_adds place o k = adds (for_step place o k) (λ w. with_after (history w) (fetch place (address o 0) w) (λ v w. with (operate place op.Add v (number k) w) (λ x w. put_value place (at (address o 0)) x w)) ((fetch_adds _ (address o 0)).at w) (λ v. adds _ (λ w1. with_after _ _ _ ((sum_adds _ v (number k)).at w1) (λ x. put_adds _ (address o 0) x))))

-- the variable is compared with the limit
pub test_run : (place : ℕ) (setting : Setting) (s : State) (A B : Account) (z : Configuration) (d o k n1 : ℕ) (u : Value) (to rest end : List Stmt) (w w1 : World) (go : World → Outcome Done) → Adds go → A.most + 4 ≤ B.most → B.least ≤ A.least → k < 2 ^ 32 → z.depth ≡ d + 2
    → Limit setting z w d o u → from_label z.scene.own.stmts n1 ≡ Some to → Ready setting z w → CompletedAt setting s A z (Load (Local d) ∷ Load (Local (d + 1)) ∷ test_of_step k ∷ JumpIf true n1 ∷ rest) z.depth w w1
    → ((b : Bool) (w2 : World) → CompletedAt setting s (record { most = A.most + 4; least = A.least }) z (where_to true b to rest) z.depth w w2 → RanDid setting s B z end w (either b go done w2)) → RanDid setting s B z end w (for_test place o u k go w1)
test_run place setting s A B z d o k n1 u to rest end w w1 go ad le le' lk ed l e r a fin =
    let A1 : Account = record { most = A.most + 1; least = A.least } in
    let A2 : Account = record { most = A.most + 2; least = A.least } in
    let A3 : Account = record { most = A.most + 3; least = A.least } in
    let A4 : Account = record { most = A.most + 4; least = A.least } in
    let b0 = nat_lt k (2 ^ 31) in
    let a0 = subst (λ y. CompletedAt setting s A z (Load (Local d) ∷ Load (Local (d + 1)) ∷ y ∷ JumpIf true n1 ∷ rest) z.depth w w1) (same_test k lk) a in
    let T = Dyadic (cond b0 two.AtMost two.AtLeast) in
    with_ran (λ v. adds _ (λ w2. with_after _ _ _ ((related_adds _ b0 v u).at w2) (λ x. adds _ (λ w3. with_after _ _ _ ((judged_adds _ x).at w3) (λ b. either_adds go ad b)))))
    (ran_more (omega arith) (omega arith) (variable_run _ setting s A A1 z d o (Load (Local (d + 1)) ∷ T ∷ JumpIf true n1 ∷ rest) w w1 (omega arith) (omega arith) r.deep l.base a0))
    (λ v w2 q.
    let t = limit_pushed setting s A1 A2 z d o u (T ∷ JumpIf true n1 ∷ rest) w w2 v (omega arith) (omega arith) ed l r q in
    with_ran (λ x. adds _ (λ w3. with_after _ _ _ ((judged_adds _ x).at w3) (λ b. either_adds go ad b)))
    (ran_more (omega arith) (omega arith) (related_run _ setting s A2 A3 z b0 (JumpIf true n1 ∷ rest) w w2 v u (omega arith) (omega arith) r.deep t))
    (λ x w3 y.
    with_ran (λ b. either_adds go ad b)
    (ran_more (omega arith) (omega arith) (tested {B = A4} _ (omega arith) (omega arith) r e y))
    (λ b w4 k. fin b w4 k)))

-- the limit in the situation behind an arrival
pub limit_next : (setting : Setting) (s : State) (A : Account) (z : Configuration) (c : List Stmt) (w w1 : World) (d o : ℕ) (u : Value) → z.depth ≡ d + 2 → Ready setting z w → Limit setting z w d o u → (a : CompletedAt setting s A z c z.depth w w1) → Limit setting (next setting s A z c z.depth w w1 z.env z.depth a) w1 d o u
limit_next setting s A z c w w1 d o u ed r l a = record {
  base = a.moved.grown.each o (z.frame + d) l.base;
  limit = limit_here setting s A z c z.depth w w1 d o u ed l a;
  free = (since_moved r.fits a.fits a.moved).free (z.frame + (d + 1)) (omega arith) l.free;
}

-- a further round: the LAB of the body pays, and a turn is taken
further_count : (place : ℕ) (setting : Setting) (inner : Meanings) → Simulates setting inner → (s : State) (A B : Account) (x : Command) (o : ℕ) (u : Value) (k d : ℕ) (z : Configuration) (n1 : ℕ) (body rest : List Stmt) (w w1 : World) → A.most + 1 ≤ B.most → A.most ≤ 16 * w.turns + 10
    → 16 * w.turns + 11 ≤ B.most → B.least ≤ w.turns - suc (turns_in false x) → w.turns ≤ A.least + turns_in false x → suc (turns_in false x) ≤ setting.pay → z.depth ≡ d + 2 → IsForLoop setting z.scene z.depth d k z.env x body rest → Limit setting z w d o u
    → LabelAt setting z.scene z.depth n1 body → Ready setting z w → CompletedAt setting s A z (Label n1 ∷ body) z.depth w w1 → RanDid setting s B z rest w (turn place w1 (λ w. inner.for_rounds place x o u k z.env w))
further_count place setting inner sim s A B x o u k d z n1 body rest w w1 le0 le1 le ll la lp ed lf lim ln r a =
    let b = label_on ln a in
    let bl = b.least in
    turn_there _ _ (omega arith) (omega arith) b (λ t et.
    let w2 : World = record w1 { turns = t } in
    let D : Account = record { most = A.most + 1 - 16; least = A.least + setting.pay - 1 } in
    let bm = b.most in
    let ar : CompletedAt setting s D z body z.depth w w2 = completed_turn t et (omega arith) (omega arith) b in
    let m0 = ar.most in
    comes_to (omega arith) (omega arith) r (omega arith) ar
    (sim.for_rounds place x o u k d (next setting s D z body z.depth w w2 z.env z.depth ar) body rest w2 ed lf (limit_next setting s D z body w w2 d o u ed r lim ar) (ready_next z.env z.depth ar refl (omega arith) r)))

-- what a further round adds, and what the step and the test before it do
turn_adds : (place : ℕ) (setting : Setting) (inner : Meanings) → Simulates setting inner → (x : Command) (o : ℕ) (u : Value) (k : ℕ) (env : Environment) → Adds (λ w. turn place w (λ w. inner.for_rounds place x o u k env w))
turn_adds place setting inner sim x o u k env = adds _ (λ w. turn_after _ _ (adds _ (λ w1. sim.grows.for_rounds place x o u k env w1)) w)

next_adds : (place : ℕ) (setting : Setting) (inner : Meanings) → Simulates setting inner → (x : Command) (o : ℕ) (u : Value) (k : ℕ) (env : Environment)
    → Adds (λ w. with (for_step place o k w) (λ _ w. for_test place o u k (λ w. turn place w (λ w. inner.for_rounds place x o u k env w)) w))
next_adds place setting inner sim x o u k env =
    adds _ (λ w. with_after (history w) (for_step place o k w) (λ _ w. for_test place o u k (λ w. turn place w (λ w. inner.for_rounds place x o u k env w)) w) ((step_adds _ o k).at w)
    (λ _. test_adds _ o k u (λ w. turn place w (λ w. inner.for_rounds place x o u k env w)) (turn_adds _ setting inner sim x o u k env)))

pub for_rounds_run : (place : ℕ) (setting : Setting) (inner : Meanings) → Simulates setting inner → (x : Command) (o : ℕ) (u : Value) (k d : ℕ) (z : Configuration) (body rest : List Stmt) (w : World) → z.depth ≡ d + 2 → IsForLoop setting z.scene z.depth d k z.env x body rest → Limit setting z w d o u
    → Ready setting z w → RanDid setting (start z body w) (for_counts x w) z rest w (for_rounds_of inner place x o u k z.env w)
for_rounds_run place setting inner sim x o u k d z body rest w ed lf lim r =
    each_way_ran (λ _. next_adds _ setting inner sim x o u k z.env) (round_exit_adds _ (next_adds _ setting inner sim x o u k z.env))
    (so (omega arith) (omega arith) (λ _ w1 q. q) (λ y w1 q. q)
    (scope_runs setting inner sim (alone x) forwards (looping lf.2 lf.3 z) lf.4 lf.6.0 body (Label lf.2 ∷ behind_body d k lf.0 lf.5) body w (lf.6.1, lf.6.2, lf.6.3) refl (around_ready setting (in_loop lf.2 lf.3 z.depth z.scene).around (in_loop lf.2 lf.3 z.depth z.scene).exits z w r)))
    (λ _ w1 q. go (for_scope (alone x) w) w1 (omega arith) (omega arith) q) out
  where
    go : (A : Account) (w1 : World) → A.most ≤ 16 * w.turns → w.turns ≤ A.least + turns_in false x → CompletedAt setting (start z body w) A z (Label lf.2 ∷ behind_body d k lf.0 lf.5) z.depth w w1
        → RanDid setting (start z body w) (for_counts x w) z rest w (with (for_step place o k w1) (λ _ w. for_test place o u k (λ w. turn place w (λ w. inner.for_rounds place x o u k z.env w)) w))
    go A w1 lm ll a =
        let s = start z body w in
        let B = for_counts x w in
        let A1 : Account = record { most = A.most + 1; least = A.least } in
        let A5 : Account = record { most = A.most + 5; least = A.least } in
        let A6 : Account = record { most = A.most + 6; least = A.least } in
        with_ran (λ _. test_adds _ o k u (λ w. turn place w (λ w. inner.for_rounds place x o u k z.env w)) (turn_adds _ setting inner sim x o u k z.env))
        (ran_more (omega arith) (omega arith) (step_run _ setting s A1 A5 z d o k (Label lf.0 ∷ lf.5) w w1 (omega arith) (omega arith) lf.13 lim.base r (landed_on (omega arith) (omega arith) lf.10 a)))
        (λ _ w2 b.
        test_run _ setting s A6 B z d o k lf.1 u (Label lf.1 ∷ body) (Label lf.3 ∷ rest) rest w w2 (λ w. turn place w (λ w. inner.for_rounds place x o u k z.env w)) (turn_adds _ setting inner sim x o u k z.env) (omega arith) (omega arith) lf.13 ed lim lf.9.found r
        (subst (λ y. CompletedAt setting s A6 z y z.depth w w2) lf.7 (landed_on (omega arith) (omega arith) lf.8 b)) (fin A lm ll))
      where
        fin : (A : Account) → A.most ≤ 16 * w.turns → w.turns ≤ A.least + turns_in false x → (t : Bool) (w3 : World)
            → CompletedAt setting (start z body w) (record { most = A.most + 6 + 4; least = A.least }) z (where_to true t (Label lf.1 ∷ body) (Label lf.3 ∷ rest)) z.depth w w3
            → RanDid setting (start z body w) (for_counts x w) z rest w (either t (λ w. turn place w (λ w. inner.for_rounds place x o u k z.env w)) done w3)
        fin A lm ll true w3 c =
            further_count _ setting inner sim (start z body w) (record { most = A.most + 6 + 4; least = A.least }) (for_counts x w) x o u k d z lf.1 body rest w w3 (omega arith) (omega arith) (omega arith) (omega arith) (omega arith) lf.12 ed lf lim lf.9 r c
        fin A lm ll false w3 c = went (landed_on (omega arith) (omega arith) lf.11 c)

    out : (y : Exit) (w1 : World) → Out setting (start z body w) (for_scope (alone x) w) (looping lf.2 lf.3 z) w y w1
        → RanDid setting (start z body w) (for_counts x w) z rest w (round_exit (λ w. with (for_step place o k w) (λ _ w. for_test place o u k (λ w. turn place w (λ w. inner.for_rounds place x o u k z.env w)) w)) y w1)
    out loop w1 q = let dp = r.deep in
        go (record { most = 16 * w.turns; least = (w.turns - turns_through false (alone x)) + setting.pay + setting.pay }) w1 (omega arith) (omega arith)
        (caught_at q (goal lf.2 z.depth) z.depth (Label lf.2 ∷ behind_body d k lf.0 lf.5) refl q.leads.0 lf.10.found refl (omega arith) (omega arith))
    out break w1 q = let dp = r.deep in
        went (landed_on (omega arith) (omega arith) lf.11
        (caught_at q (goal lf.3 z.depth) z.depth (Label lf.3 ∷ rest) refl q.leads.0 lf.11.found refl (omega arith) (omega arith)))
    out x w1 q = went (outside z.scene (omega arith) (omega arith) q q.leads)

-- what rounds add
pub rounds_adds : (place : ℕ) (setting : Setting) (inner : Meanings) → Simulates setting inner → (x : Command) (o : ℕ) (u : Value) (k : ℕ) (env : Environment) → Adds (λ w. scope_of inner (alone x) forwards env w) → Adds (λ w. for_rounds_of inner place x o u k env w)
rounds_adds place setting inner sim x o u k env au =
    adds _ (λ w. each_way_after (history w) (scope_of inner (alone x) forwards env w) (λ _ w. with (for_step place o k w) (λ _ w. for_test place o u k (λ w. turn place w (λ w. inner.for_rounds place x o u k env w)) w)) (round_exit (λ w. with (for_step place o k w) (λ _ w. for_test place o u k (λ w. turn place w (λ w. inner.for_rounds place x o u k env w)) w))) (au.at w) (λ _. next_adds _ setting inner sim x o u k env) (round_exit_adds _ (next_adds _ setting inner sim x o u k env)))

-- ---- what follows an arrival in a situation of its own that has not all its items
abbrev joined : {setting : Setting} {s : State} {A N B : Account} {z : Configuration} {c c2 : List Stmt} {k d2 : ℕ} {w w1 w2 : World} → A.most + N.most ≤ B.most + 16 * w1.turns
    → B.least ≤ N.least + (A.least - w1.turns) → Ready setting z w
    → (a : CompletedAt setting s A z c k w w1) → CompletedAt setting (there setting s A z c k w w1 a) N (next setting s A z c k w w1 z.env z.depth a) c2 d2 w1 w2 → CompletedAt setting s B z c2 d2 w w2
joined {setting} {z = z} {w = w} le1 le2 r a x = following (z.frame + z.depth) (Moved (z.frame + z.depth) (store z w)) le1 le2 refl a x x.fits
    (moved_on setting.codes (z.frame + z.depth) (z.frame + z.depth) (z.frame + z.depth) _ _ _ r.fits (omega arith) a.moved x.moved)

joined_ran : {setting : Setting} {s : State} {A N B : Account} {z : Configuration} {c rest : List Stmt} {k : ℕ} {w w1 : World} {o : Outcome Done}
    → A.most + N.most ≤ B.most + 16 * w1.turns → B.least ≤ N.least + (A.least - w1.turns) → Ready setting z w
    → (a : CompletedAt setting s A z c k w w1) → RanDid setting (there setting s A z c k w w1 a) N (next setting s A z c k w w1 z.env z.depth a) rest w1 o → RanDid setting s B z rest w o
joined_ran le1 le2 r a q = let m = a.most in let l = a.least in ran_from a.comes (omega arith) (omega arith) (λ _ w2 y. joined le1 le2 r a y)
    (λ x w2 e. let n = e.later in record { control = e.control; depth1 = e.depth1; leads = e.leads; arr = joined le1 le2 r a e.arr; later = omega arith; hands = e.hands }) q

-- ---- the variable
bound_first : (x : List ℕ) (k : Bound) (bs : List Binding) → bound_in (bind_bound x k bs) x ≡ Some k
bound_first x k bs = ap (λ (q : Bool). cond q (Some k) (bound_in bs x)) ((bytes_eq-Decides x x).1 refl)

variable_keeps : (x : List ℕ) (p d : ℕ) (bs : List Binding) → KeepsLabels bs (bind_bound x (b.Variable p d) bs)
variable_keeps x p d bs y h = grind (arith, by_test)

-- a LAB is the same where other names are in scope
same_label : (setting : Setting) (sc : Scene) (bs : List Binding) (d n : ℕ) (rest : List Stmt) → LabelAt setting sc d n rest → LabelAt setting (record sc { bindings = bs }) d n rest
same_label setting sc bs d n rest l = record { is_own = l.is_own; place = l.place; at = l.at; same_depth = l.same_depth; following = l.following; found = l.found }

-- ---- the test and the rounds, with the variable in scope
first_test : (place : ℕ) (setting : Setting) (inner : Meanings) → Simulates setting inner → (B : Account) (x : Command) (o : ℕ) (u : Value) (k d n1 : ℕ) (z : Configuration) (body test end : List Stmt) (n3 : ℕ) (w : World) → 16 * w.turns + 16 ≤ B.most → B.least ≤ w.turns - suc (turns_in false x) → z.depth ≡ d + 2
    → IsForLoop setting z.scene z.depth d k z.env x body end → test ≡ Load (Local d) ∷ Load (Local (d + 1)) ∷ test_of_step k ∷ JumpIf true n1 ∷ Label n3 ∷ end → LabelAt setting z.scene z.depth n1 body → LabelAt setting z.scene z.depth n3 end → suc (turns_in false x) ≤ setting.pay → k < 2 ^ 32
    → Limit setting z w d o u → Adds (λ w. for_rounds_of inner place x o u k z.env w) → Ready setting z w → RanDid setting (start z test w) B z end w (for_test place o u k (λ w. for_rounds_of inner place x o u k z.env w) w)
first_test place setting inner sim B x o u k d n1 z body test end n3 w le le' ed lf et l1 l3 few lk lim ad r =
    test_run _ setting (start z test w) (record { most = 16 * w.turns; least = w.turns }) B z d o k n1 u (Label n1 ∷ body) (Label n3 ∷ end) end w w (λ w. for_rounds_of inner place x o u k z.env w) ad (omega arith) (omega arith) lk ed lim l1.found r
    (subst (λ y. CompletedAt setting (start z test w) (record { most = 16 * w.turns; least = w.turns }) z y z.depth w w) et (stay setting (record { most = 16 * w.turns; least = w.turns }) z test w (omega arith) (omega arith) r)) fin
  where
    fin : (t : Bool) (w2 : World) → CompletedAt setting (start z test w) (record { most = 16 * w.turns + 4; least = w.turns }) z (where_to true t (Label n1 ∷ body) (Label n3 ∷ end)) z.depth w w2
        → RanDid setting (start z test w) B z end w (either t (λ w. for_rounds_of inner place x o u k z.env w) done w2)
    fin false w2 q = went (landed_on (omega arith) (omega arith) l3 q)
    fin true w2 q =
        let s = start z test w in
        let C : Account = record { most = 16 * w.turns + 5; least = w.turns + setting.pay } in
        let ar : CompletedAt setting s C z body z.depth w w2 = completed_more (omega arith) (omega arith) (label_on l1 q) in
        let m0 = ar.most in
        comes_to (omega arith) (omega arith) r (omega arith) ar
        (for_rounds_run _ setting inner sim x o u k d (next setting s C z body z.depth w w2 z.env z.depth ar) body end w2 ed lf (limit_next setting s C z body w w2 d o u ed r lim ar) (ready_next z.env z.depth ar refl (omega arith) r))

-- ---- the words above the items become variables, and the lowest an object
abbrev stored_cells : ℕ → ℕ → (ℕ → Cell) → ℕ → Cell
stored_cells frame k cells = below (frame + k) (settle (frame + 2) (frame + k) cells)

stored_like : (frame k top : ℕ) (cells : ℕ → Cell) → top ≤ frame + k → (x : ℕ) → x < top → Like (stored_cells frame k cells x) (cells x)
stored_like frame k top cells le x lt = like_on _ _ _ (below_like (frame + k) (settle (frame + 2) (frame + k) cells) x (omega arith)) (settle_like (frame + 2) (frame + k) cells x)

stored_at : (frame k x : ℕ) (cells : ℕ → Cell) → frame + 2 ≤ x → x < frame + k → stored_cells frame k cells x ≡ Held Variable (content_of (cells x))
stored_at frame k x cells le lt = below_at (frame + k) (settle (frame + 2) (frame + k) cells) x lt ∙ settle_at (frame + 2) (frame + k) cells x le lt

-- the variable of a FOR is made where its first value stands
variable_made : (setting : Setting) (z : Configuration) (w : World) (c : List Stmt) (u : Value) → (r : Ready setting z w) → z.depth + 2 ≤ FRAME_WORDS
    → Applies setting.codes z.bases u (content_of (z.cells (z.frame + z.depth)))
    → OpenCompleted setting (state z.scene.own (z.depth + 1 + 1) (Store_stmt ∷ c) z.cells z.frame z.hand z.written w) (record { most = 16 * w.turns + 1; least = w.turns }) z w c (z.depth + 1 + 1) (z.frame + (z.depth + 2)) (making (holds u ∷ []) w)
variable_made setting z w c u r room st =
    let first_variable : (i : ℕ) → i < 1 → stored_cells z.frame (z.depth + 1 + 1) z.cells (z.frame + z.depth) ≡ Held Variable (content_of (z.cells (z.frame + z.depth)))
    → (y : Content) × (stored_cells z.frame (z.depth + 1 + 1) z.cells (z.frame + z.depth + i) ≡ Held Variable y) = λ i li h.
    let off : z.frame + z.depth + i ≡ z.frame + z.depth = omega arith in
    (content_of (z.cells (z.frame + z.depth)), ap (stored_cells z.frame (z.depth + 1 + 1) z.cells) off ∙ h) in
    let dp = r.deep in
    let lo = r.low in
    let hi = r.high in
    let top = z.frame + z.depth in
    let k = z.depth + 1 + 1 in
    let R : Store → Type 0 = Since top (store z w) in
    let cs = stored_cells z.frame k z.cells in
    let h1 : Store = record { bases = z.bases; mem = w.memory; cells = cs } in
    let like : (x : ℕ) → x < top → Like (cs x) (z.cells x) = λ x lx. stored_like z.frame k top z.cells (omega arith) x lx in
    let f1 = fits_above setting.codes (store z w) top cs r.fits like in
    let here_is = stored_at z.frame k top z.cells (omega arith) (omega arith) in
    completed_more (omega arith) (omega arith) (with_objects (z.bases ++ top ∷ []) (making (holds u ∷ []) w).memory (z.frame + (z.depth + 2)) R
    (stepped w.memory top R c k (begun (record { most = 16 * w.turns; least = w.turns }) R k (Store_stmt ∷ c) (omega arith) (omega arith) r (since_refl (store z w))) cs None z.written (links_like z.frame top z.cells cs (omega arith) like) f1
    (since_cells (store z w) like) (does setting.program (state z.scene.own k (Store_stmt ∷ c) z.cells z.frame z.hand z.written w) z.scene.own c k Store_stmt refl refl refl))
    (fits_more setting.codes (make h1 top (holds u ∷ [])) (top + 1) (z.frame + (z.depth + 2)) (omega arith)
    (make_fits setting.codes h1 top top (holds u ∷ []) f1 (omega arith) (omega arith) (omega arith) (λ i cl e. first_cell i cl e here_is) (λ i li. first_variable i li here_is)))
    (since_on {top1 = top} (omega arith) (since_cells (store z w) like) (since_made top (holds u ∷ []) h1 f1.long (omega arith))))
  where
    first_cell : (i : ℕ) (cl : Cell_of) → slice_get (holds u ∷ []) i ≡ Some cl → stored_cells z.frame (z.depth + 1 + 1) z.cells (z.frame + z.depth) ≡ Held Variable (content_of (z.cells (z.frame + z.depth)))
        → StandsCell setting.codes z.bases cl (content_of (stored_cells z.frame (z.depth + 1 + 1) z.cells (z.frame + z.depth + i)))
    first_cell zero cl e h =
        let same : holds u ≡ cl = cc in
        let zero_off : z.frame + z.depth + 0 ≡ z.frame + z.depth = omega arith in
        subst (λ y. StandsCell setting.codes z.bases y (content_of (stored_cells z.frame (z.depth + 1 + 1) z.cells (z.frame + z.depth + 0)))) same
        (subst (λ y. Applies setting.codes z.bases u (content_of y)) (sym (ap (stored_cells z.frame (z.depth + 1 + 1) z.cells) zero_off ∙ h)) st)
    first_cell (suc i) cl e h = absurd (let q : None ≡ Some cl = e in cc)

-- what the variable means in scope
variable_here : (sc : Scene) (bases : List ℕ) (frame d o : ℕ) (x : List ℕ) → BaseOf bases o (frame + d) → frame + d < 2 ^ 32
    → NameAt (record sc { bindings = bind_bound x (b.Variable sc.procedure d) sc.bindings }) bases frame x (Some (cell o 0))
variable_here sc bases frame d o x e lt = grind (arith, bound_first)

-- the limit's word is in no object
limit_free : (setting : Setting) (z : Configuration) (w : World) (u : Value) → Ready setting z w → (o1 n b1 i : ℕ) → Alive (making (holds u ∷ []) w).memory o1 n → BaseOf (z.bases ++ (z.frame + z.depth) ∷ []) o1 b1 → i < n → b1 + i ≢ z.frame + (z.depth + 1)
limit_free setting z w u r o1 n b1 i li eb lt e = ⊎_elim
    (λ (q : (Alive w.memory o1 n) × (BaseOf z.bases o1 b1)). let le = r.fits.below o1 n b1 q.0 q.1 in absurd (omega arith))
    (λ (q : (o1 ≡ length w.memory) × (n ≡ 1) × (b1 ≡ z.frame + z.depth)). let q1 = q.1 in let q2 = q.2 in absurd (omega arith))
    (lying (store z w) (z.frame + z.depth) (holds u ∷ []) o1 n b1 r.fits.long li eb).lies

-- the whole loop, behind its two values
for_opened : (setting : Setting) (inner : Meanings) → Simulates setting inner → (l : ℕ) (x : Mention) (a y : Expression) (h : Expressions) (c : Command) (z z0 : Configuration)
    (there : Sought → List Stmt) (c0 rest : List Stmt) (w : World) (u v : Value) (lx : IsAct setting z.scene z.depth z0.env (t.for_loop l x a y h c) there c0 rest)
    → z.env ≡ past y (past a z0.env) → Ready setting z w → Applies setting.codes z.bases u (content_of (z.cells (z.frame + z.depth)))
    → Applies setting.codes z.bases v (content_of (z.cells (z.frame + (z.depth + 1)))) → ((o : ℕ) → Adds (λ w. for_rounds_of inner x.at c o v lx.4 (bind x.letters (cell o 0) z.env) w))
    → RanDid setting (state z.scene.own (z.depth + 1 + 1) (Store_stmt ∷ Jump lx.0 ∷ Label lx.1 ∷ lx.7) z.cells z.frame z.hand z.written w) (record { most = 16 * w.turns + 20; least = w.turns - suc (turns_in false c) }) z rest w
    (for_loop inner x c u v lx.4 z.env w)
unfolding variable_made
for_opened g m sim l x a y h c z z0 there c0 rest w u v lx ez r su sv ad =
    let dp = r.deep in
    let lo = r.low in
    let room : z.depth + 2 ≤ FRAME_WORDS = lx.18 in
    let s0 = state z.scene.own (z.depth + 1 + 1) (Store_stmt ∷ Jump lx.0 ∷ Label lx.1 ∷ lx.7) z.cells z.frame z.hand z.written w in
    let o = length w.memory in
    let w1 = making (holds u ∷ []) w in
    let more = z.frame + (z.depth + 2) in
    let d2 = z.depth + 2 in
    let bs = bind_bound x.letters (b.Variable z.scene.procedure z.depth) z.scene.bindings in
    let env1 = bind x.letters (cell o 0) z.env in
    let A0 : Account = record { most = 16 * w.turns + 1; least = w.turns } in
    let A3 : Account = record { most = 16 * w.turns + 3; least = w.turns } in
    let D : Account = record { most = 16 * w.turns + 19; least = w.turns - suc (turns_in false c) } in
    let a0 = variable_made g z w (Jump lx.0 ∷ Label lx.1 ∷ lx.7) u r lx.18 su in
    let a1 : OpenCompleted g s0 (further 1 A0) z w (Label lx.0 ∷ lx.8) (z.depth + 1 + 1) more w1 = open_step r (omega arith) a0 (below (z.frame + (z.depth + 1 + 1)) a0.cells1) None a0.written1
    (λ x lx. below_like (z.frame + (z.depth + 1 + 1)) a0.cells1 x (omega arith))
    (jump_moves g.program (state z.scene.own (z.depth + 1 + 1) (Jump lx.0 ∷ Label lx.1 ∷ lx.7) a0.cells1 z.frame a0.hand1 a0.written1 w1) z.scene.own (Label lx.1 ∷ lx.7) (z.depth + 1 + 1) lx.0 (Label lx.0 ∷ lx.8) refl lx.14.found) in
    let a3 : OpenCompleted g s0 A3 z w lx.8 d2 more w1 = completed_more (omega arith) (omega arith) (label_on lx.14 a1) in
    let is_base : BaseOf a3.bases1 o (z.frame + z.depth) = subst (λ n. slice_get (z.bases ++ (z.frame + z.depth) ∷ []) n ≡ Some (z.frame + z.depth)) r.fits.long (get_new z.bases (z.frame + z.depth)) in
    let names = bound_named z.scene z.env a3.bases1 z.frame x.letters (b.Variable z.scene.procedure z.depth) (cell o 0) (variable_here z.scene a3.bases1 z.frame z.depth o x.letters is_base (omega arith))
    (named_grown z.scene z.env z.bases a3.bases1 z.frame (grown_made z.bases (z.frame + z.depth)) r.named) in
    let z1 = open_configuration g s0 A3 z w lx.8 d2 more w1 a3 bs env1 in
    let r1 = open_ready a3 bs env1 (omega arith) names r in
    let N : Account = record { most = 16 * w.turns + 16; least = w.turns - suc (turns_in false c) } in
    let scope : IsForLoop g z1.scene d2 z.depth lx.4 env1 c lx.7 (Stack z.depth ∷ rest) = (
      lx.0,
      lx.1,
      lx.2,
      lx.3,
      lx.5,
      lx.8,
      subst (λ e. IsAlone g (in_loop lx.2 lx.3 d2 z1.scene) d2 (bind x.letters (cell o 0) e) c lx.5 lx.7 (Label lx.2 ∷ behind_body z.depth lx.4 lx.0 lx.8)) (sym ez) (lx.11 o (some_objects g z w r)),
      lx.12,
      same_label g z.scene bs d2 lx.0 lx.8 lx.14,
      same_label g z.scene bs d2 lx.1 lx.7 lx.15,
      same_label g z.scene bs d2 lx.2 (behind_body z.depth lx.4 lx.0 lx.8) lx.16,
      same_label g z.scene bs d2 lx.3 (Stack z.depth ∷ rest) lx.17,
      lx.19,
      lx.20,
    ) in
    let like1 : content_of (a3.cells1 (z.frame + (z.depth + 1))) ≡ content_of (z.cells (z.frame + (z.depth + 1))) =
    (below_like (z.frame + (z.depth + 1 + 1)) (stored_cells z.frame (z.depth + 1 + 1) z.cells) (z.frame + (z.depth + 1)) (omega arith)).content
    ∙ ap content_of (stored_at z.frame (z.depth + 1 + 1) (z.frame + (z.depth + 1)) z.cells (omega arith) (omega arith)) in
    let lim : Limit g z1 w1 z.depth o v = record {
      base = is_base;
      limit = subst (λ k. Applies g.codes a3.bases1 v k) (sym like1) (stands_grown g.codes z.bases a3.bases1 v _ (grown_made z.bases (z.frame + z.depth)) sv);
      free = limit_free g z w u r;
    } in
    closed_ran {K = λ _ w2. OpenCompleted g s0 D z w (Stack z.depth ∷ rest) d2 more w2} r (λ _ w2 q. closes (omega arith) (omega arith) r q)
    (ran_open bs env1 (omega arith) (omega arith) r (omega arith) (variable_keeps x.letters z.scene.procedure z.depth z.scene.bindings) a3 (λ _ w2 q. open_on (omega arith) (omega arith) r (omega arith) a3 q)
    (first_test _ g m sim N c o v lx.4 z.depth lx.1 z1 lx.7 lx.8 (Stack z.depth ∷ rest) lx.3 w1 (omega arith) (omega arith) refl scope lx.12 (same_label g z.scene bs d2 lx.1 lx.7 lx.15) (same_label g z.scene bs d2 lx.3 (Stack z.depth ∷ rest) lx.17) lx.19 lx.20 lim (ad o) r1))

-- ---- FOR
loop_adds : (inner : Meanings) (x : Mention) (c : Command) (u v : Value) (k : ℕ) (env : Environment) → ((o : ℕ) → Adds (λ w. for_rounds_of inner x.at c o v k (bind x.letters (cell o 0) env) w)) → Adds (for_loop inner x c u v k env)
loop_adds inner x c u v k env ad =
    adds _ (λ w. closing_after (history w) (length w.memory) (for_test x.at (length w.memory) v k (λ q. for_rounds_of inner x.at c (length w.memory) v k (bind x.letters (cell (length w.memory) 0) env) q) (making (holds u ∷ []) w))
    ((test_adds _ (length w.memory) k v (λ y. for_rounds_of inner x.at c (length w.memory) v k (bind x.letters (cell (length w.memory) 0) env) y) (ad (length w.memory))).at (making (holds u ∷ []) w)))

pub for_run : (setting : Setting) (inner : Meanings) → Simulates setting inner → (B : Account) (l : ℕ) (x : Mention) (a y : Expression) (h : Expressions) (c : Command) (z : Configuration)
    (there : Sought → List Stmt) (c0 rest : List Stmt) (w : World) → 16 * w.turns + 16 ≤ B.most
    → B.least ≤ w.turns - (turns_of false a + (turns_of false y + suc (turns_in false c))) → IsAct setting z.scene z.depth z.env (t.for_loop l x a y h c) there c0 rest
    → ((o : ℕ) (v : Value) (k : ℕ) (env : Environment) → Adds (λ w. for_rounds_of inner x.at c o v k env w)) → Ready setting z w
    → RanDid setting (start z c0 w) B z rest w (with (inner.value a z.env w) (λ u w. with (inner.value y (past a z.env) w) (λ v w. with (given x.at no_constant (step_of z.env h) w) (λ n w. for_loop inner x c u v n (past y (past a z.env)) w))))
for_run setting inner sim B l x a y h c z there c0 rest w le le' lx ad r =
    let all_adds : (u v : Value) → Adds (λ w. with (given x.at no_constant (step_of z.env h) w) (λ n w. for_loop inner x c u v n (past y (past a z.env)) w)) = λ u v.
    adds _ (λ w1. with_after (history w1) (given x.at no_constant (step_of z.env h) w1) (λ n w. for_loop inner x c u v n (past y (past a z.env)) w) (given_after x.at _ (step_of z.env h) w1)
    (λ n. loop_adds inner x c u v n (past y (past a z.env)) (λ o. ad o v n (bind x.letters (cell o 0) (past y (past a z.env)))))) in
    two_run setting inner sim B a y z c0 lx.6 (Store_stmt ∷ Jump lx.0 ∷ Label lx.1 ∷ lx.7) w _ _ all_adds (omega arith) (omega arith) lx.9 lx.10 r (λ u v w2 t pos.
    let s = start z c0 w in
    let A = for_two a y w in
    let zf = next setting s A z (Store_stmt ∷ Jump lx.0 ∷ Label lx.1 ∷ lx.7) (z.depth + 1 + 1) w w2 (past y (past a z.env)) z.depth t.arr in
    let rf = ready_next (past y (past a z.env)) z.depth t.arr refl (omega (arith, t.arr.most)) r in
    subst (λ q. RanDid setting s B z rest w (with (given x.at no_constant q w2) (λ n w. for_loop inner x c u v n (past y (past a z.env)) w))) (sym lx.13)
    (joined_ran (omega (arith, t.arr.most)) (omega (arith, t.arr.most)) r t.arr
    (for_opened setting inner sim l x a y h c zf z there c0 rest w2 u v lx refl rf t.first t.second (λ o. ad o v lx.4 (bind x.letters (cell o 0) (past y (past a z.env)))))))

-- IF, UNLESS and TEST.
use Rattle.bk_simulation.proofs.Pieces.{by_test, turns_of, turns_in, same_stands, Setting, LabelAt, IsJump, IsAct, Entered, IsValue, PlaceOf, Configuration, start, Ready, Account, went, with_ran, CompletedAt, next, ready_next, here, Stopped, Handed, Leads, still, stay, completed_on, ran_on, ran_more, completed_more, comes_to, ran_first, Simulates, for_truth, where_to, Did, RanDid, landed_on, jumped_on, result_on, or_second, finish_step, one_run, ◌≡◌, ℕ, ◌+◌, ◌-◌, ◌*◌, ◌≤◌, Bool, true, false, not, ◌||◌, cond, List, ◌∷◌, refl, sym, ap, ◌∙◌, subst, arith, Option, Some, pos, State, Stmt, Label, Jump, GiveResult, Finish, Expression, Command, Environment, past, past_command, Sought, Mode, forwards, seeking, has_place, same_place, at_place, World, done, with, either, Exit, break, result, status, leaves, ends, history, Meanings, same_truth, where_truth, Adds, adds, stays, either_after, Status, Content, content_of, from_label}

-- ---- Commands without parts, and places that may be sought: GOTO, BREAK, LOOP, ENDCASE, RETURN, FINISH, RESULTIS; labels, CASE, DEFAULT.

-- GO: a label is gone to, from where the exit is caught
abbrev no_result : Exit → Type 0
no_result (result v) = ⊥
no_result _ = Unit {0}

nothing_handed : (setting : Setting) (bases : List ℕ) (x : Exit) (h : Option Content) → no_result x → Handed setting bases x h
nothing_handed setting bases (result v) h n = absurd n
nothing_handed setting bases _ h n = tt

few_left : (x : Exit) → still x ≤ 2
few_left break = omega arith
few_left _ = omega arith

pub left_here : {rest : List Stmt} (setting : Setting) (B : Account) (z : Configuration) (x : Exit) (c : List Stmt) (w : World) → 16 * w.turns + 2 ≤ B.most → B.least ≤ w.turns
    → Ready setting z w → no_result x → Leads z.scene x c → RanDid setting (start z c w) B z rest w (leaves x w)
left_here setting B z x c w le le' r n l = let f = few_left x in
    went (record { control = c; depth1 = z.depth; leads = l; arr = stay setting B z c w (omega arith) le' r; later = omega arith; hands = nothing_handed setting z.bases x z.hand n })

pub finish_runs : (setting : Setting) (B : Account) (z : Configuration) (c rest : List Stmt) (w : World) → 16 * w.turns + 1 ≤ B.most → c ≡ Finish ∷ rest → RanDid setting (start z c w) B z rest w (ends (status 0) w)
finish_runs setting B z c rest w le ec =
    went (subst (λ l. Stopped setting (start z l w) B (status 0) w) (sym ec)
    (record { to = start z (Finish ∷ rest) w; steps = 0; paid = 0; comes = here _; most = omega arith; end = Status (pos 0); is_end = refl; stops = finish_step setting.program (start z (Finish ∷ rest) w) z.scene.own rest z.depth refl; wrote = refl; left = refl }))

-- RESULTIS
pub resultis_runs : (setting : Setting) (inner : Meanings) → Simulates setting inner → (B : Account) (e : Expression) (z : Configuration) (to c rest : List Stmt) (w : World) → 16 * w.turns ≤ B.most → B.least ≤ w.turns - turns_of false e
    → IsValue setting z.scene z.depth z.env e c (GiveResult z.scene.around.valof ∷ rest) → from_label z.scene.own.stmts z.scene.around.valof ≡ Some to → Ready setting z w
    → RanDid setting (start z c w) B z rest w (with (inner.value e z.env w) (λ v w. leaves (result v) w))
resultis_runs setting inner sim B e z to c rest w le le' l f r =
    one_run setting inner sim B e z c (GiveResult z.scene.around.valof ∷ rest) w _ _ (λ u. adds _ (λ w1. stays (history w1))) (omega arith) le' l r (λ u w1 q pos.
    let b : CompletedAt setting (start z c w) B z to z.depth w w1 = completed_more (omega arith) (omega arith) (result_on r f q) in
    went (record { control = to; depth1 = z.depth; leads = f; arr = b; later = omega (arith, b.most); hands = (content_of (q.arr.cells1 (z.frame + z.depth)), refl, q.stands) }))

-- ---- a place that may be sought, and the command behind it
behind_place : (setting : Setting) (inner : Meanings) → Simulates setting inner → (B : Account) (a : Command) (z : Configuration) (n : ℕ) (at1 : Sought → List Stmt) (c1 rest : List Stmt) (w : World) → 16 * w.turns + 1 ≤ B.most → B.least ≤ w.turns - turns_in false a
    → IsAct setting z.scene z.depth z.env a at1 c1 rest → LabelAt setting z.scene z.depth n c1 → Ready setting z w → RanDid setting (start z (Label n ∷ c1) w) B z rest w (inner.act a forwards z.env w)
behind_place setting inner sim B a z n at1 c1 rest w le le' l ln r =
    let s = start z (Label n ∷ c1) w in
    let A : Account = record { most = 16 * w.turns + 1; least = w.turns } in
    let ar : CompletedAt setting s A z c1 z.depth w w = landed_on (omega arith) (omega arith) ln (stay setting (record { most = 16 * w.turns; least = w.turns }) z (Label n ∷ c1) w (omega arith) (omega arith) r) in
    comes_to (omega arith) (omega arith) r (omega arith) ar
    (sim.act a forwards (next setting s A z c1 z.depth w w z.env z.depth ar) at1 c1 rest c1 w l refl (ready_next z.env z.depth ar refl (omega arith) r))

abbrev pub EnteredPlace : Mode → Environment → Sought → Command → (Sought → List Stmt) → List Stmt → List Stmt → Type 0
EnteredPlace forwards env spot a at c e = e ≡ c
EnteredPlace (seeking s) env spot a at c e = ((same_place s spot || has_place s env a) ≡ true) × (e ≡ at s)

pub place_run : (setting : Setting) (inner : Meanings) → Simulates setting inner → (B : Account) (spot : Sought) (a : Command) (mode : Mode) (z : Configuration) (at : Sought → List Stmt) (c rest e : List Stmt) (w : World) → 16 * w.turns + 1 ≤ B.most → B.least ≤ w.turns - turns_in false a
    → PlaceOf setting z.scene z.depth spot (λ at1 c1. IsAct setting z.scene z.depth z.env a at1 c1 rest) at c → EnteredPlace mode z.env spot a at c e → Ready setting z w → RanDid setting (start z e w) B z rest w (inner.act a (at_place spot mode) z.env w)
place_run setting inner sim B spot a forwards z at c rest e w le le' l en r =
    subst (λ y. RanDid setting (start z y w) B z rest w (inner.act a forwards z.env w)) (sym (en ∙ l.3)) (behind_place setting inner sim B a z l.0 l.2 l.1 rest w le le' l.4 l.5 r)
place_run setting inner sim B spot a (seeking s) z at c rest e w le le' l en r =
    by_test (same_place s spot)
    (λ (h : same_place s spot ≡ true).
    subst (λ (b : Bool). RanDid setting (start z e w) B z rest w (inner.act a (cond b forwards (seeking s)) z.env w)) (sym h)
    (subst (λ y. RanDid setting (start z y w) B z rest w (inner.act a forwards z.env w)) (sym (en.1 ∙ l.6 s ∙ ap (λ (b : Bool). cond b c (l.2 s)) h ∙ l.3)) (behind_place setting inner sim B a z l.0 l.2 l.1 rest w le le' l.4 l.5 r)))
    (λ (h : same_place s spot ≡ false).
    subst (λ (b : Bool). RanDid setting (start z e w) B z rest w (inner.act a (cond b forwards (seeking s)) z.env w)) (sym h)
    (ran_first (omega arith) (omega arith) (λ _ w1 q. completed_more (omega arith) (omega arith) q)
    (sim.act a (seeking s) z l.2 l.1 rest e w l.4 (or_second (same_place s spot) (has_place s z.env a) en.0 h, en.1 ∙ l.6 s ∙ ap (λ (b : Bool). cond b c (l.2 s)) h) r)))

-- a command behind an arrival, and what is done behind it
pub act_after : (setting : Setting) (inner : Meanings) → Simulates setting inner → (s : State) (A C B : Account) (a : Command) (mode : Mode) (z : Configuration) (env : Environment) (at : Sought → List Stmt) (c1 e1 mid rest : List Stmt) (w w1 : World)
    → A.most ≤ C.most → C.least ≤ (w1.turns - turns_in false a) + (A.least - w1.turns) → C.most ≤ B.most → B.least ≤ C.least → env.names ≡ z.env.names → IsAct setting z.scene z.depth env a at c1 mid → Entered mode env a at c1 e1 → Ready setting z w
    → CompletedAt setting s A z e1 z.depth w w1 → ((w2 : World) → Did setting s C z mid w w2 → Did setting s B z rest w w2) → RanDid setting s B z rest w (inner.act a mode env w1)
act_after setting inner sim s A C B a mode z env at c1 e1 mid rest w w1 le ll le2 ll2 en l ent r ar fin =
    ran_on (omega arith) (omega arith) r (omega arith) ar (λ _ w2 q. fin w2 (completed_on (omega arith) (omega arith) r (omega arith) ar q))
    (sim.act a mode (next setting s A z e1 z.depth w w1 env z.depth ar) at c1 mid e1 w1 l ent (ready_next env z.depth ar en (omega arith) r))

-- where a condition has the truth that is asked for, it does not jump over
pub same_evaluation : (b x : Bool) (to rest : List Stmt) → where_to (not b) x to rest ≡ (cond (same_truth b x) rest to)
same_evaluation true true to rest = refl
same_evaluation true false to rest = refl
same_evaluation false true to rest = refl
same_evaluation false false to rest = refl

-- and with the other jump it jumps
pub jump_evaluation : (b x : Bool) (to rest : List Stmt) → where_to b x to rest ≡ (cond (same_truth b x) to rest)
jump_evaluation true true to rest = refl
jump_evaluation true false to rest = refl
jump_evaluation false true to rest = refl
jump_evaluation false false to rest = refl

when_adds : (setting : Setting) (inner : Meanings) → Simulates setting inner → (a : Command) (env : Environment) (b x : Bool) → Adds (λ w. either (same_truth b x) (λ w. inner.act a forwards env w) done w)
when_adds setting inner sim a env b x = adds _ (λ w. either_after (same_truth b x) _ _ (adds _ (λ w1. sim.grows.act a forwards env w1)) (adds _ (λ w1. stays (history w1))) w)

pub when_run : (setting : Setting) (inner : Meanings) → Simulates setting inner → (B : Account) (b : Bool) (e : Expression) (a : Command) (z : Configuration) (n : ℕ) (at : Sought → List Stmt) (c c1 rest : List Stmt) (w : World) → 16 * w.turns + 2 ≤ B.most
    → B.least ≤ w.turns - (turns_of false e + turns_in false a) → IsJump setting z.scene z.depth z.env e (not b) n c c1 → IsAct setting z.scene z.depth (past e z.env) a at c1 (Label n ∷ rest) → LabelAt setting z.scene z.depth n rest → Ready setting z w
    → RanDid setting (start z c w) B z rest w (where_truth inner b e z.env (λ w. inner.act a forwards (past e z.env) w) w)
when_run setting inner sim B b e a z n at c c1 rest w le le' le_ la ln r =
    let s = start z c w in
    with_ran (λ x. when_adds setting inner sim a (past e z.env) b x)
    (ran_more (omega arith) (omega arith) (sim.truth e z (not b) n (Label n ∷ rest) c c1 w le_ ln.found r))
    (λ x w1 q. goes (same_truth b x) w1 (subst (λ y. CompletedAt setting s (for_truth e w) z y z.depth w w1) (same_evaluation b x (Label n ∷ rest) c1) q))
  where
    goes : (t : Bool) (w1 : World) → CompletedAt setting (start z c w) (for_truth e w) z (cond t c1 (Label n ∷ rest)) z.depth w w1 → RanDid setting (start z c w) B z rest w (either t (λ w. inner.act a forwards (past e z.env) w) done w1)
    goes true w1 q = let dp = r.deep in let m0 = q.most in
        act_after setting inner sim (start z c w) (for_truth e w) (record { most = 16 * w.turns; least = w.turns - (turns_of false e + turns_in false a) }) B a forwards z (past e z.env) at c1 c1 (Label n ∷ rest) rest w w1 (omega arith) (omega arith) (omega arith) (omega arith) refl la refl r q
        (λ w2 y. landed_on (omega arith) (omega arith) ln y)
    goes false w1 q = went (landed_on (omega arith) (omega arith) ln q)

-- a place inside a command is sought
pub inside_run : (setting : Setting) (inner : Meanings) → Simulates setting inner → (B : Account) (a : Command) (s : Sought) (z : Configuration) (env : Environment) (at : Sought → List Stmt) (c1 e mid rest : List Stmt) (w : World) → 16 * w.turns + 2 ≤ B.most
    → B.least ≤ w.turns - turns_in false a → env.names ≡ z.env.names → IsAct setting z.scene z.depth env a at c1 mid → Entered (seeking s) env a at c1 e → Ready setting z w
    → ((A : Account) (w2 : World) → A.most + 2 ≤ B.most → B.least ≤ A.least → CompletedAt setting (start z e w) A z mid z.depth w w2 → Did setting (start z e w) B z rest w w2) → RanDid setting (start z e w) B z rest w (inner.act a (seeking s) env w)
inside_run setting inner sim B a s z env at c1 e mid rest w le le' en l ent r fin =
    act_after setting inner sim (start z e w) (record { most = 16 * w.turns; least = w.turns }) (record { most = 16 * w.turns; least = w.turns - turns_in false a }) B a (seeking s) z env at c1 e mid rest w w (omega arith) (omega arith) (omega arith) (omega arith) en l ent r
    (stay setting (record { most = 16 * w.turns; least = w.turns }) z e w (omega arith) (omega arith) r) (λ w2 y. fin (record { most = 16 * w.turns; least = w.turns - turns_in false a }) w2 le le' y)

pub when_sought : (setting : Setting) (inner : Meanings) → Simulates setting inner → (B : Account) (e0 : Expression) (a : Command) (s : Sought) (z : Configuration) (n : ℕ) (at : Sought → List Stmt) (c1 e rest : List Stmt) (w : World) → 16 * w.turns + 2 ≤ B.most
    → B.least ≤ w.turns - turns_in false a → IsAct setting z.scene z.depth (past e0 z.env) a at c1 (Label n ∷ rest) → LabelAt setting z.scene z.depth n rest → (has_place s z.env a ≡ true) × (e ≡ at s) → Ready setting z w
    → RanDid setting (start z e w) B z rest w (inner.act a (seeking s) (past e0 z.env) w)
when_sought setting inner sim B e0 a s z n at c1 e rest w le le' l ln en r =
    inside_run setting inner sim B a s z (past e0 z.env) at c1 e (Label n ∷ rest) rest w le le' refl l (same_stands s z.env.names (past e0 z.env).next z.env.next a ∙ en.0, en.1) r
    (λ A w2 la lb y. landed_on (omega (arith, r.deep)) lb ln y)

-- ---- TEST
test_adds : (setting : Setting) (inner : Meanings) → Simulates setting inner → (a b : Command) (u v : Environment) (x : Bool) → Adds (λ w. either x (λ w. inner.act a forwards u w) (λ w. inner.act b forwards v w) w)
test_adds setting inner sim a b u v x = adds _ (λ w. either_after x _ _ (adds _ (λ w1. sim.grows.act a forwards u w1)) (adds _ (λ w1. sim.grows.act b forwards v w1)) w)

pub test_run : (setting : Setting) (inner : Meanings) → Simulates setting inner → (B : Account) (e : Expression) (a b : Command) (z : Configuration) (n n1 : ℕ) (at1 at2 : Sought → List Stmt) (c c1 c2 rest : List Stmt) (w : World) → 16 * w.turns + 4 ≤ B.most
    → B.least ≤ w.turns - (turns_of false e + (turns_in false a + turns_in false b)) → IsJump setting z.scene z.depth z.env e false n c c1 → IsAct setting z.scene z.depth (past e z.env) a at1 c1 (Jump n1 ∷ Label n ∷ c2)
    → IsAct setting z.scene z.depth (past_command a (past e z.env)) b at2 c2 (Label n1 ∷ rest) → LabelAt setting z.scene z.depth n c2 → LabelAt setting z.scene z.depth n1 rest → Ready setting z w
    → RanDid setting (start z c w) B z rest w (with (inner.truth e z.env w) (λ x w. either x (λ w. inner.act a forwards (past e z.env) w) (λ w. inner.act b forwards (past_command a (past e z.env)) w) w))
test_run setting inner sim B e a b z n n1 at1 at2 c c1 c2 rest w le le' le_ la lb l0 l1 r =
    with_ran (λ x. test_adds setting inner sim a b (past e z.env) (past_command a (past e z.env)) x)
    (ran_more (omega arith) (omega arith) (sim.truth e z false n (Label n ∷ c2) c c1 w le_ l0.found r)) goes
  where
    goes : (x : Bool) (w1 : World) → CompletedAt setting (start z c w) (for_truth e w) z (where_to false x (Label n ∷ c2) c1) z.depth w w1
        → RanDid setting (start z c w) B z rest w (either x (λ w. inner.act a forwards (past e z.env) w) (λ w. inner.act b forwards (past_command a (past e z.env)) w) w1)
    goes true w1 q = let dp = r.deep in let m0 = q.most in
        act_after setting inner sim (start z c w) (for_truth e w) (record { most = 16 * w.turns; least = w.turns - (turns_of false e + turns_in false a) }) B a forwards z (past e z.env) at1 c1 c1 (Jump n1 ∷ Label n ∷ c2) rest w w1 (omega arith) (omega arith) (omega arith) (omega arith) refl la refl r q
        (λ w2 y. jumped_on (omega arith) (omega arith) r.deep l1 y)
    goes false w1 q = let dp = r.deep in
        let A : Account = record { most = 16 * w.turns + 1; least = w.turns - turns_of false e } in
        let ar : CompletedAt setting (start z c w) A z c2 z.depth w w1 = landed_on (omega arith) (omega arith) l0 q in
        let m0 = ar.most in
        act_after setting inner sim (start z c w) A (record { most = 16 * w.turns + 1; least = w.turns - (turns_of false e + turns_in false b) }) B b forwards z (past_command a (past e z.env)) at2 c2 c2 (Label n1 ∷ rest) rest w w1 (omega arith) (omega arith) (omega arith) (omega arith) refl lb refl r ar
        (λ w2 y. landed_on (omega arith) (omega arith) l1 y)

pub test_sought : (setting : Setting) (inner : Meanings) → Simulates setting inner → (B : Account) (e0 : Expression) (a b : Command) (s : Sought) (z : Configuration) (n n1 : ℕ) (at at1 at2 : Sought → List Stmt) (c1 c2 e rest : List Stmt) (w : World) → 16 * w.turns + 4 ≤ B.most
    → B.least ≤ w.turns - (turns_in false a + turns_in false b) → IsAct setting z.scene z.depth (past e0 z.env) a at1 c1 (Jump n1 ∷ Label n ∷ c2) → IsAct setting z.scene z.depth (past_command a (past e0 z.env)) b at2 c2 (Label n1 ∷ rest)
    → LabelAt setting z.scene z.depth n1 rest → ((s : Sought) → at s ≡ cond (has_place s z.env a) (at1 s) (at2 s)) → ((has_place s z.env a || has_place s z.env b) ≡ true) × (e ≡ at s) → Ready setting z w
    → RanDid setting (start z e w) B z rest w (either (has_place s z.env a) (λ w. inner.act a (seeking s) (past e0 z.env) w) (λ w. inner.act b (seeking s) (past_command a (past e0 z.env)) w) w)
test_sought setting inner sim B e0 a b s z n n1 at at1 at2 c1 c2 e rest w le le' la lb l1 ea en r =
    let dp = r.deep in
    by_test (has_place s z.env a)
    (λ (h : has_place s z.env a ≡ true).
    subst (λ (t : Bool). RanDid setting (start z e w) B z rest w (either t (λ w. inner.act a (seeking s) (past e0 z.env) w) (λ w. inner.act b (seeking s) (past_command a (past e0 z.env)) w) w)) (sym h)
    (inside_run setting inner sim B a s z (past e0 z.env) at1 c1 e (Jump n1 ∷ Label n ∷ c2) rest w (omega arith) (omega arith) refl la (same_stands s z.env.names (past e0 z.env).next z.env.next a ∙ h, en.1 ∙ ea s ∙ ap (λ (t : Bool). cond t (at1 s) (at2 s)) h) r
    (λ A w2 x y q. jumped_on x y r.deep l1 q)))
    (λ (h : has_place s z.env a ≡ false).
    subst (λ (t : Bool). RanDid setting (start z e w) B z rest w (either t (λ w. inner.act a (seeking s) (past e0 z.env) w) (λ w. inner.act b (seeking s) (past_command a (past e0 z.env)) w) w)) (sym h)
    (inside_run setting inner sim B b s z (past_command a (past e0 z.env)) at2 c2 e (Label n1 ∷ rest) rest w (omega arith) (omega arith) refl lb
    (same_stands s z.env.names (past_command a (past e0 z.env)).next z.env.next b ∙ or_second (has_place s z.env a) (has_place s z.env b) en.0 h, en.1 ∙ ea s ∙ ap (λ (t : Bool). cond t (at1 s) (at2 s)) h) r
    (λ A w2 x y q. landed_on (omega arith) y l1 q)))

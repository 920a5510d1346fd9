-- Scopes: commands that own their labels; and VALOF. WHILE, UNTIL, REPEAT, REPEATWHILE and REPEATUNTIL. SWITCHON.
use Rattle.bk_simulation.proofs.Pieces.{by_test, not_true, turns_through, turns_in, turns_of, label_stands_one, same_stands, Setting, Scene, owning, goal_named, IsLabelHere, IsScopeAt, EnteredAny, Exits, in_valof, LabelAt, IsScope, in_loop, IsJump, IsAct, IsLoop, Entered, EnteredBody, in_switch, Configuration, start, Ready, Account, went, each_way_ran, CompletedAt, GoesTo, Leads, Out, next, ready_in, ready_next, Ran, so, Has, Handed, paying, with_ran, there, comes_to, outside, completed_turn, completed_on, turn_there, ran_on, stay, completed_more, ran_first, links_below, completed_paid, Simulates, for_scope, RanDid, for_act, turns_in_round, for_rounds, HasTruth, for_value, caught_at, label_on, taken_on, landed_on, jump_on, jumped_on, order_run, ready_at, not_owned, around_named, Applies, some_is, switch_moves, below_like, one_run, labels_named, ◌≡◌, ℕ, ◌+◌, ◌≤◌, Bool, true, false, List, refl, sym, ◌∙◌, subst, arith, ◌-◌, ◌*◌, ◌∷◌, Some, bound_in, State, Stmt, meant, goal_in, Commands, Command, Environment, labelled, Sought, the_label, Mode, seeking, one_has_place, forwards, World, Exit, goto, leaves, either, break, result, return, history, Meanings, landing, scope_of, alone, Adds, adds, stays, either_after, Unset, option_map_or, Label, TakeResult, Around, Value, result_exit, result_of, cond, suc, Jump, goal, Expression, past, past_command, has_place, loop, Outcome, Done, done, turn, round_exit, again, same_truth, where_truth, rounds_of, with_after, turn_after, each_way_after, None, ap, below, from_label, case_label, Case, Switch, number, the_case, the_default, is_label, endcase, with, case_exit, ended_case, choose_case, labels_of_each, acts_at}
use Rattle.bk_simulation.proofs.Branches.{jump_evaluation}
use Rattle.bk_tree.specs.Tree as t

-- the situation in a scope
abbrev in_scope : (j : ℕ) (cs : Commands) → Configuration → Configuration
in_scope j cs z = record z { scene = owning j cs z.scene; env = labelled cs z.env }

-- an exit of the scope that goes on outwards
leads_out : (sc : Scene) (j : ℕ) (cs : Commands) (x : Exit) (c : List Stmt) → ((y : List ℕ) → x ≡ goto y → bound_in (owning j cs sc).bindings y ≡ bound_in sc.bindings y) → Leads (owning j cs sc) x c → Leads sc x c
leads_out sc j cs (goto y) c e l = subst (λ b. GoesTo (goal_in sc.targets (meant b)) c × IsLabelHere b) (e y refl) l
leads_out sc j cs _ c e l = l

passes_out : (setting : Setting) (s : State) (B : Account) (z : Configuration) (j : ℕ) (cs : Commands) (x : Exit) (w w1 : World) → ((y : List ℕ) → x ≡ goto y → bound_in (owning j cs z.scene).bindings y ≡ bound_in z.scene.bindings y)
    → Out setting s B (in_scope j cs z) w x w1 → Out setting s B z w x w1
passes_out setting s B z j cs x w w1 e o = record { control = o.control; depth1 = o.depth1; leads = leads_out z.scene j cs x o.control e o.leads; arr = o.arr; later = o.later; hands = o.hands }

pub landing_adds : (setting : Setting) (inner : Meanings) → Simulates setting inner → (cs : Commands) (env : Environment) (x : Exit) → Adds (landing cs env (λ x w. inner.scope cs (seeking (the_label x)) env w) x)
landing_adds setting inner sim cs env (goto y) = adds _ (λ w. either_after (one_has_place (the_label y) env cs) _ _ (adds _ (λ w1. sim.grows.scope cs (seeking (the_label y)) env w1)) (adds _ (λ w1. stays (history w1))) w)
landing_adds setting inner sim cs env _ = adds _ (λ w. stays (history w))

-- The commands of a scope, and those again to which a GOTO leads.
pub scope_runs : (setting : Setting) (inner : Meanings) → Simulates setting inner → (cs : Commands) (mode : Mode) (z : Configuration) (j : ℕ) (at : Sought → List Stmt) (c rest e : List Stmt) (w : World) → IsScopeAt setting z.scene z.depth z.env cs j at c rest
    → EnteredAny mode (labelled cs z.env) cs at c e → Ready setting z w
    → RanDid setting (start z e w) (for_scope cs w) z rest w (scope_of inner cs mode z.env w)
scope_runs setting inner sim cs mode z j at c rest e w l en r =
    each_way_ran (λ _. adds _ (λ w1. stays (history w1))) (landing_adds setting inner sim cs z.env)
    (order_run setting inner sim cs mode (in_scope j cs z) at c rest e w l.0 en (ready_in (owning j cs z.scene) (labelled cs z.env) (labels_named (labels_of_each cs) z.scene z.env z.bases z.frame j r.named) r)) (λ _ w1 q. went q) out
  where
    out : (x : Exit) (w1 : World) → Out setting (start z e w) (for_scope cs w) (in_scope j cs z) w x w1
        → RanDid setting (start z e w) (for_scope cs w) z rest w (landing cs z.env (λ x w. inner.scope cs (seeking (the_label x)) z.env w) x w1)
    out (goto y) w1 o = by_test (one_has_place (the_label y) z.env cs)
        (λ (h : one_has_place (the_label y) z.env cs ≡ true).
        subst (λ (b : Bool). RanDid setting (start z e w) (for_scope cs w) z rest w (either b (λ w. inner.scope cs (seeking (the_label y)) z.env w) (λ w. leaves (goto y) w) w1)) (sym h)
        (let s = start z e w in
        let B = for_scope cs w in
        let A : Account = record { most = B.most; least = B.least + setting.pay + setting.pay } in
        let to = l.2 y h in
        let dp = r.deep in
        let few : turns_through false cs ≤ setting.pay = l.1 in
        let ar : CompletedAt setting s A z (at (the_label y)) z.depth w w1 = caught_at o (goal_named (owning j cs z.scene) y) z.depth (at (the_label y)) refl o.leads.0 to.0 to.1 (omega arith) (omega arith) in
        let m0 = ar.most in
        comes_to (omega arith) (omega arith) r (omega arith) ar
        (sim.scope cs (seeking (the_label y)) (next setting s A z (at (the_label y)) z.depth w w1 z.env z.depth ar) j at c rest (at (the_label y)) w1 l (label_stands_one y (labelled cs z.env) z.env cs ∙ h, refl) (ready_next z.env z.depth ar refl (omega arith) r))))
        (λ (h : one_has_place (the_label y) z.env cs ≡ false).
        subst (λ (b : Bool). RanDid setting (start z e w) (for_scope cs w) z rest w (either b (λ w. inner.scope cs (seeking (the_label y)) z.env w) (λ w. leaves (goto y) w) w1)) (sym h)
        (went (passes_out setting (start z e w) (for_scope cs w) z j cs (goto y) w w1 (λ u eu. let same : y ≡ u = cc in subst (λ v. bound_in (owning j cs z.scene).bindings v ≡ bound_in z.scene.bindings v) same (not_owned y cs z.env z.scene j h)) o)))
    out x w1 o = went (passes_out setting (start z e w) (for_scope cs w) z j cs x w w1 (λ u eu. absurd (cc)) o)

-- ---- VALOF: a scope whose RESULTIS gives the value.

-- the same place with other exits around it
abbrev pub around_here : Around → Exits → Configuration → Configuration
around_here a e z = record z { scene = record z.scene { around = a; exits = e } }

pub around_ready : (setting : Setting) (a : Around) (e : Exits) (z : Configuration) (w : World) → Ready setting z w → Ready setting (around_here a e z) w
around_ready setting a e z w r = ready_in (record z.scene { around = a; exits = e }) z.env (around_named z.scene a e z.env z.bases z.frame r.named) r

result_adds : (x : Exit) → Adds (result_exit x)
result_adds break = adds _ (λ w. stays (history w))
result_adds _ = adds _ (λ w. stays (history w))

-- the result in hand, or none, becomes the item on top
takes_up : {setting : Setting} {s : State} {A B : Account} {z : Configuration} {n k : ℕ} {rest : List Stmt} {w w1 : World} {v : Value} → A.most + 2 ≤ B.most → B.least ≤ A.least
    → Ready setting z w → LabelAt setting z.scene z.depth n (TakeResult z.depth ∷ rest)
    → (a : CompletedAt setting s A z (Label n ∷ TakeResult z.depth ∷ rest) k w w1) → Applies setting.codes a.bases1 v (option_map_or (λ y. y) a.hand1 Unset) → Has setting s B z rest (z.depth + 1) w v w1
takes_up le le' r l a st = taken_on (omega arith) (omega arith) r (label_on l a) st

pub valof_run : (setting : Setting) (inner : Meanings) → Simulates setting inner → (B : Account) (x : Command) (z : Configuration) (n j : ℕ) (c rest : List Stmt) (w : World) → 16 * w.turns + 12 ≤ B.most → B.least ≤ w.turns - turns_in false x
    → IsScope setting (in_valof n z.scene) z.depth z.env (alone x) j c (Label n ∷ TakeResult z.depth ∷ rest) → LabelAt setting z.scene z.depth n (TakeResult z.depth ∷ rest) → Ready setting z w
    → Ran setting (start z c w) B (Has setting (start z c w) B z rest (z.depth + 1) w) (Out setting (start z c w) B z w) (result_of (scope_of inner (alone x) forwards z.env w))
valof_run setting inner sim B x z n j c rest w le le' l ln r =
    each_way_ran (λ _. adds _ (λ w1. stays (history w1))) result_adds
    (so (omega arith) (omega arith) (λ _ w1 q. q) (λ y w1 q. q) (scope_runs setting inner sim (alone x) forwards (around_here (in_valof n z.scene).around (in_valof n z.scene).exits z) j l.0 c (Label n ∷ TakeResult z.depth ∷ rest) c w l.1 refl (around_ready setting (in_valof n z.scene).around (in_valof n z.scene).exits z w r)))
    (λ _ w1 q. went (takes_up (omega arith) (omega arith) r ln q tt)) out
  where
    out : (y : Exit) (w1 : World) → Out setting (start z c w) (for_scope (alone x) w) (around_here (in_valof n z.scene).around (in_valof n z.scene).exits z) w y w1
        → Ran setting (start z c w) B (Has setting (start z c w) B z rest (z.depth + 1) w) (Out setting (start z c w) B z w) (result_exit y w1)
    out (goto u) w1 o = went (outside z.scene (omega arith) (omega arith) o o.leads)
    out return w1 o = went (outside z.scene (omega arith) (omega arith) o o.leads)
    out (result v) w1 o =
        let at_result : (control : List Stmt) → control ≡ Label n ∷ TakeResult z.depth ∷ rest → (a : CompletedAt setting (start z c w) (for_scope (alone x) w) z control o.depth1 w w1) → Handed setting a.bases1 (result v) a.hand1 → Has setting (start z c w) B z rest (z.depth + 1) w v w1 =
        λ control e a h.
        let b : (y : CompletedAt setting (start z c w) (for_scope (alone x) w) z (Label n ∷ TakeResult z.depth ∷ rest) o.depth1 w w1) × Handed setting y.bases1 (result v) y.hand1 =
        subst (λ k. (y : CompletedAt setting (start z c w) (for_scope (alone x) w) z k o.depth1 w w1) × Handed setting y.bases1 (result v) y.hand1) e (a, h) in
        takes_up (omega arith) (omega arith) r ln b.0 (subst (λ y. Applies setting.codes b.0.bases1 v (option_map_or (λ y. y) y Unset)) (sym b.1.1) b.1.2) in
        let at_label : o.control ≡ Label n ∷ TakeResult z.depth ∷ rest = some_is o.control (Label n ∷ TakeResult z.depth ∷ rest) (sym o.leads ∙ ln.found) in
        went (at_result o.control at_label o.arr o.hands)
    out _ w1 o = not_true o.leads.1

-- in a loop
abbrev pub looping : ℕ → ℕ → Configuration → Configuration
looping again_at out_at z = record z { scene = in_loop again_at out_at z.depth z.scene }

-- A further round: the LAB of the body pays, and a turn is taken.
further_round : (place : ℕ) (setting : Setting) (inner : Meanings) → Simulates setting inner → (s : State) (A B : Account) (x : Command) (z : Configuration) (n : ℕ) (at : Sought → List Stmt) (body rest : List Stmt) (w w1 : World) → A.most + 1 ≤ B.most → A.most ≤ 16 * w.turns + 1
    → 16 * w.turns + 2 ≤ B.most → B.least ≤ w.turns - turns_in_round x → w.turns + 1 ≤ A.least + turns_in_round x → 1 ≤ turns_in_round x → turns_in_round x ≤ setting.pay → IsLoop setting z.scene z.depth z.env x at body rest → EnteredBody forwards z.env x at body body
    → LabelAt setting z.scene z.depth n body → Ready setting z w → CompletedAt setting s A z (Label n ∷ body) z.depth w w1 → RanDid setting s B z rest w (turn place w1 (λ w. inner.rounds x forwards z.env w))
further_round place setting inner sim s A B x z n at body rest w w1 le0 le1 le ll la l1 lp l en ln r a =
    let b = label_on ln a in
    let bl = b.least in
    turn_there _ _ (omega arith) (omega arith) b (λ k ek.
    let D : Account = record { most = A.most + 1 - 16; least = A.least + setting.pay - 1 } in
    let bm = b.most in
    let ar : CompletedAt setting s D z body z.depth w (record w1 { turns = k }) = completed_turn k ek (omega arith) (omega arith) b in
    let m0 = ar.most in
    comes_to (omega arith) (omega arith) r (omega arith) ar
    (sim.rounds x forwards (next setting s D z body z.depth w (record w1 { turns = k }) z.env z.depth ar) at body rest body (record w1 { turns = k }) l en (ready_next z.env z.depth ar refl (omega arith) r)))

-- A round whose body is done or left: what follows it at the place where LOOP goes, and at the place where BREAK goes.
round_run : (setting : Setting) (inner : Meanings) → Simulates setting inner → (B : Account) (a : Command) (mode : Mode) (z : Configuration) (env : Environment) (again_at out_at : ℕ) (at : Sought → List Stmt) (body mid following rest e : List Stmt) (w : World) (next_one : World → Outcome Done)
    → ((w1 : World) → Adds next_one) → 16 * w.turns + 1 ≤ B.most → B.least ≤ w.turns - turns_in false a → env.names ≡ z.env.names → IsAct setting (in_loop again_at out_at z.depth z.scene) z.depth env a at body mid
    → Entered mode env a at body e → LabelAt setting z.scene z.depth again_at following → LabelAt setting z.scene z.depth out_at rest → Ready setting z w
    → ((A : Account) (w1 : World) → A.most ≤ 16 * w.turns → w.turns - turns_in false a ≤ A.least → CompletedAt setting (start z e w) A z mid z.depth w w1 → RanDid setting (start z e w) B z rest w (next_one w1))
    → ((A : Account) (w1 : World) → A.most ≤ 16 * w.turns → w.turns - turns_in false a ≤ A.least → CompletedAt setting (start z e w) A z (Label again_at ∷ following) z.depth w w1 → RanDid setting (start z e w) B z rest w (next_one w1))
    → RanDid setting (start z e w) B z rest w (again (inner.act a mode env w) next_one)
round_run setting inner sim B a mode z env again_at out_at at body mid following rest e w next_one ad le le' en l ent la lo r ends go =
    each_way_ran (λ _. ad w) exit_adds
    (so (omega arith) (omega arith) (λ _ w1 q. q) (λ x w1 q. q) (sim.act a mode (record (looping again_at out_at z) { env = env }) at body mid e w l ent
    (ready_at setting (looping again_at out_at z) w env en (around_ready setting (in_loop again_at out_at z.depth z.scene).around (in_loop again_at out_at z.depth z.scene).exits z w r))))
    (λ _ w1 q. ends (for_act a w) w1 (omega arith) (omega arith) q) out
  where
    exit_adds : (x : Exit) → Adds (round_exit next_one x)
    exit_adds loop = ad w
    exit_adds _ = adds _ (λ w1. stays (history w1))

    out : (x : Exit) (w1 : World) → Out setting (start z e w) (for_act a w) (looping again_at out_at z) w x w1 → RanDid setting (start z e w) B z rest w (round_exit next_one x w1)
    out loop w1 o = let dp = r.deep in
        go (record { most = 16 * w.turns; least = (w.turns - turns_in false a) + setting.pay + setting.pay }) w1 (omega arith) (omega arith)
        (caught_at o (goal again_at z.depth) z.depth (Label again_at ∷ following) refl o.leads.0 la.found refl (omega arith) (omega arith))
    out break w1 o = let dp = r.deep in
        went (landed_on (omega arith) (omega arith) lo
        (caught_at o (goal out_at z.depth) z.depth (Label out_at ∷ rest) refl o.leads.0 lo.found refl (omega arith) (omega arith)))
    out x w1 o = went (outside z.scene (omega arith) (omega arith) o o.leads)

-- ---- WHILE and UNTIL: the test stands behind the body
pub test_adds_again : (place : ℕ) (setting : Setting) (inner : Meanings) → Simulates setting inner → (x : Command) (env : Environment) (b : Bool) (t : Bool) → Adds (λ w. either (same_truth b t) (λ w. turn place w (λ w. inner.rounds x forwards env w)) done w)
test_adds_again place setting inner sim x env b t = adds _ (λ w. either_after (same_truth b t) _ _ (adds _ (λ w1. turn_after _ _ (adds _ (λ w2. sim.grows.rounds x forwards env w2)) w1)) (adds _ (λ w1. stays (history w1))) w)

pub while_adds : (place : ℕ) (setting : Setting) (inner : Meanings) → Simulates setting inner → (x : Command) (e : Expression) (env there : Environment) (b : Bool) → Adds (λ w. where_truth inner b e there (λ w. turn place w (λ w. inner.rounds x forwards env w)) w)
while_adds place setting inner sim x e env there b = adds _ (λ w. with_after _ _ _ (sim.grows.truth e there w) (λ t. test_adds_again _ setting inner sim x env b t))

-- the test behind a body, and a further round
test_behind : (place : ℕ) (setting : Setting) (inner : Meanings) → Simulates setting inner → (s : State) (A B : Account) (x : Command) (b : Bool) (e : Expression) (z : Configuration) (env : Environment) (n1 n2 : ℕ) (at : Sought → List Stmt) (body test rest : List Stmt) (w w1 : World)
    → A.most ≤ 16 * w.turns + 1 → 16 * w.turns + 2 ≤ B.most → B.least ≤ w.turns - turns_in_round x → w.turns + 1 ≤ A.least + (turns_in_round x - turns_of false e) → 1 ≤ turns_in_round x - turns_of false e → turns_in_round x ≤ setting.pay → env.names ≡ z.env.names
    → IsLoop setting z.scene z.depth z.env x at body rest → EnteredBody forwards z.env x at body body → IsJump setting z.scene z.depth env e b n1 test (Label n2 ∷ rest) → LabelAt setting z.scene z.depth n1 body → LabelAt setting z.scene z.depth n2 rest → Ready setting z w
    → CompletedAt setting s A z test z.depth w w1 → RanDid setting s B z rest w (where_truth inner b e env (λ w. turn place w (λ w. inner.rounds x forwards z.env w)) w1)
test_behind place setting inner sim s A B x b e z env n1 n2 at body test rest w w1 le1 le ll la l1 lp en lx ent lt ln1 ln2 r ar =
    let m0 = ar.most in
    let al0 = ar.least in
    let C : Account = record { most = 16 * w.turns + 1; least = A.least - turns_of false e } in
    with_ran {K = λ t w2. HasTruth setting s C z b (Label n1 ∷ body) (Label n2 ∷ rest) w t w2} (λ t. test_adds_again _ setting inner sim x z.env b t)
    (ran_on (omega arith) (omega arith) r (omega arith) ar (λ t w2 q. completed_on (omega arith) (omega arith) r (omega arith) ar q)
    (sim.truth e (next setting s A z test z.depth w w1 env z.depth ar) b n1 (Label n1 ∷ body) test (Label n2 ∷ rest) w1 lt ln1.found (ready_next env z.depth ar en (omega arith) r)))
    (λ t w2 q. goes (same_truth b t) w2 (subst (λ y. CompletedAt setting s C z y z.depth w w2) (jump_evaluation b t (Label n1 ∷ body) (Label n2 ∷ rest)) q))
  where
    goes : (t : Bool) (w2 : World) → CompletedAt setting s (record { most = 16 * w.turns + 1; least = A.least - turns_of false e }) z (cond t (Label n1 ∷ body) (Label n2 ∷ rest)) z.depth w w2
        → RanDid setting s B z rest w (either t (λ w. turn place w (λ w. inner.rounds x forwards z.env w)) done w2)
    goes true w2 q =
        further_round _ setting inner sim s (record { most = 16 * w.turns + 1; least = A.least - turns_of false e }) B x z n1 at body rest w w2 (omega arith) (omega arith) le ll (omega arith) (omega arith) lp lx ent ln1 r q
    goes false w2 q = went (landed_on (omega arith) (omega arith) ln2 q)

pub while_rounds : (setting : Setting) (inner : Meanings) → Simulates setting inner → (l : ℕ) (b : Bool) (e : Expression) (a : Command) (mode : Mode) (z : Configuration) (at : Sought → List Stmt) (body rest e1 : List Stmt) (w : World)
    → IsLoop setting z.scene z.depth z.env (t.while l b e a) at body rest → EnteredBody mode z.env (t.while l b e a) at body e1 → Ready setting z w
    → RanDid setting (start z e1 w) (for_rounds (t.while l b e a) w) z rest w (rounds_of inner (t.while l b e a) mode z.env w)
while_rounds setting inner sim l b e a mode z at body rest e1 w lx ent r =
    round_run setting inner sim (for_rounds (t.while l b e a) w) a mode z (past e z.env) lx.0 lx.2 at body (Label lx.0 ∷ lx.3) lx.3 rest e1 w _ (λ _. while_adds _ setting inner sim (t.while l b e a) e z.env z.env b) (omega arith) (omega arith) refl lx.4 (entered mode ent) lx.6 lx.8 r following following
  where
    following : (A : Account) (w1 : World) → A.most ≤ 16 * w.turns → w.turns - turns_in false a ≤ A.least → CompletedAt setting (start z e1 w) A z (Label lx.0 ∷ lx.3) z.depth w w1
        → RanDid setting (start z e1 w) (for_rounds (t.while l b e a) w) z rest w (where_truth inner b e z.env (λ w. turn l w (λ w. inner.rounds (t.while l b e a) forwards z.env w)) w1)
    following A w1 lm ll q = let dp = r.deep in
        test_behind _ setting inner sim (start z e1 w) (record { most = 16 * w.turns + 1; least = A.least }) (for_rounds (t.while l b e a) w) (t.while l b e a) b e z z.env lx.1 lx.2 at body lx.3 rest w w1 (omega arith) (omega arith) (omega arith) (omega arith) (omega arith) lx.9 refl lx refl lx.5 lx.7 lx.8 r
        (landed_on (omega arith) (omega arith) lx.6 q)

    entered : (mode : Mode) → EnteredBody mode z.env (t.while l b e a) at body e1 → Entered mode (past e z.env) a at body e1
    entered forwards h = h
    entered (seeking s) h = h

-- ---- REPEATWHILE and REPEATUNTIL
pub repeat_while_rounds : (setting : Setting) (inner : Meanings) → Simulates setting inner → (l : ℕ) (b : Bool) (a : Command) (e : Expression) (mode : Mode) (z : Configuration) (at : Sought → List Stmt) (body rest e1 : List Stmt) (w : World)
    → IsLoop setting z.scene z.depth z.env (t.repeat_while l b a e) at body rest → EnteredBody mode z.env (t.repeat_while l b a e) at body e1 → Ready setting z w
    → RanDid setting (start z e1 w) (for_rounds (t.repeat_while l b a e) w) z rest w (rounds_of inner (t.repeat_while l b a e) mode z.env w)
repeat_while_rounds setting inner sim l b a e mode z at body rest e1 w lx ent r =
    round_run setting inner sim (for_rounds (t.repeat_while l b a e) w) a mode z z.env lx.1 lx.2 at body (Label lx.1 ∷ lx.3) lx.3 rest e1 w _ (λ _. while_adds _ setting inner sim (t.repeat_while l b a e) e z.env (past_command a z.env) b) (omega arith) (omega arith) refl lx.4 (entered mode ent) lx.7 lx.8 r following following
  where
    following : (A : Account) (w1 : World) → A.most ≤ 16 * w.turns → w.turns - turns_in false a ≤ A.least → CompletedAt setting (start z e1 w) A z (Label lx.1 ∷ lx.3) z.depth w w1
        → RanDid setting (start z e1 w) (for_rounds (t.repeat_while l b a e) w) z rest w (where_truth inner b e (past_command a z.env) (λ w. turn l w (λ w. inner.rounds (t.repeat_while l b a e) forwards z.env w)) w1)
    following A w1 lm ll q = let dp = r.deep in
        test_behind _ setting inner sim (start z e1 w) (record { most = 16 * w.turns + 1; least = A.least }) (for_rounds (t.repeat_while l b a e) w) (t.repeat_while l b a e) b e z (past_command a z.env) lx.0 lx.2 at body lx.3 rest w w1 (omega arith) (omega arith) (omega arith) (omega arith) (omega arith) lx.9 refl lx refl lx.5 lx.6 lx.8 r
        (landed_on (omega arith) (omega arith) lx.7 q)

    entered : (mode : Mode) → EnteredBody mode z.env (t.repeat_while l b a e) at body e1 → Entered mode z.env a at body e1
    entered forwards h = h
    entered (seeking s) h = h

-- ---- REPEAT
pub repeat_adds : (place : ℕ) (setting : Setting) (inner : Meanings) → Simulates setting inner → (x : Command) (env : Environment) → Adds (λ w. turn place w (λ w. inner.rounds x forwards env w))
repeat_adds place setting inner sim x env = adds _ (λ w. turn_after _ _ (adds _ (λ w1. sim.grows.rounds x forwards env w1)) w)

pub repeat_rounds : (setting : Setting) (inner : Meanings) → Simulates setting inner → (l : ℕ) (a : Command) (mode : Mode) (z : Configuration) (at : Sought → List Stmt) (body rest e1 : List Stmt) (w : World) → IsLoop setting z.scene z.depth z.env (t.repeat l a) at body rest
    → EnteredBody mode z.env (t.repeat l a) at body e1 → Ready setting z w → RanDid setting (start z e1 w) (for_rounds (t.repeat l a) w) z rest w (rounds_of inner (t.repeat l a) mode z.env w)
repeat_rounds setting inner sim l a mode z at body rest e1 w lx ent r =
    let following : (A : Account) (w1 : World) → A.most ≤ 16 * w.turns → w.turns - turns_in false a ≤ A.least → CompletedAt setting (start z e1 w) A z (Label lx.0 ∷ body) z.depth w w1
    → RanDid setting (start z e1 w) (for_rounds (t.repeat l a) w) z rest w (turn l w1 (λ w. inner.rounds (t.repeat l a) forwards z.env w)) = λ A w1 lm ll q.
    further_round _ setting inner sim (start z e1 w) A (for_rounds (t.repeat l a) w) (t.repeat l a) z lx.0 at body rest w w1 (omega arith) (omega arith) (omega arith) (omega arith) (omega arith) (omega arith) lx.5 lx refl lx.3 r q in
    let ends : (A : Account) (w1 : World) → A.most ≤ 16 * w.turns → w.turns - turns_in false a ≤ A.least → CompletedAt setting (start z e1 w) A z (Jump lx.0 ∷ Label lx.1 ∷ rest) z.depth w w1
    → RanDid setting (start z e1 w) (for_rounds (t.repeat l a) w) z rest w (turn l w1 (λ w. inner.rounds (t.repeat l a) forwards z.env w)) = λ A w1 lm ll q.
    let dp = r.deep in
    further_round _ setting inner sim (start z e1 w) (paying setting A) (for_rounds (t.repeat l a) w) (t.repeat l a) z lx.0 at body rest w w1 (omega arith) (omega arith) (omega arith) (omega arith) (omega arith) (omega arith) lx.5 lx refl lx.3 r
    (jump_on (omega arith) (omega arith) lx.3.found q) in
    round_run setting inner sim (for_rounds (t.repeat l a) w) a mode z z.env lx.0 lx.1 at body (Jump lx.0 ∷ Label lx.1 ∷ rest) body rest e1 w _ (λ _. repeat_adds _ setting inner sim (t.repeat l a) z.env) (omega arith) (omega arith) refl lx.2 (entered mode ent) lx.3 lx.4 r ends following
  where
    entered : (mode : Mode) → EnteredBody mode z.env (t.repeat l a) at body e1 → Entered mode z.env a at body e1
    entered forwards h = h
    entered (seeking s) h = h

-- ---- Loops as commands, from their beginning or from a place in them.

-- the rounds of a loop do what they mean
abbrev RoundsRun : Setting → Meanings → Command → Type 0
RoundsRun setting m x = (mode : Mode) (z : Configuration) (at : Sought → List Stmt) (body rest e1 : List Stmt) (w : World) → IsLoop setting z.scene z.depth z.env x at body rest → EnteredBody mode z.env x at body e1 → Ready setting z w
    → RanDid setting (start z e1 w) (for_rounds x w) z rest w (rounds_of m x mode z.env w)

rounds_behind : (setting : Setting) (inner : Meanings) (x : Command) → RoundsRun setting inner x → (s : State) (A B : Account) (z : Configuration) (at : Sought → List Stmt) (body rest : List Stmt) (w w1 : World) → A.most + 2 ≤ B.most → B.least ≤ (w1.turns - turns_in_round x) + (A.least - w1.turns)
    → IsLoop setting z.scene z.depth z.env x at body rest → EnteredBody forwards z.env x at body body → Ready setting z w → CompletedAt setting s A z body z.depth w w1 → RanDid setting s B z rest w (rounds_of inner x forwards z.env w1)
rounds_behind setting inner x run s A B z at body rest w w1 le ll l en r ar =
    comes_to (omega (arith, ar.most)) ll r (omega (arith, ar.most)) ar
    (run forwards (next setting s A z body z.depth w w1 z.env z.depth ar) at body rest body w1 l en (ready_next z.env z.depth ar refl (omega (arith, ar.most)) r))

rounds_sought : (setting : Setting) (inner : Meanings) (x : Command) → RoundsRun setting inner x → (B : Account) (s : Sought) (z : Configuration) (at : Sought → List Stmt) (body rest e : List Stmt) (w : World) → 16 * w.turns + 2 ≤ B.most → B.least ≤ w.turns - turns_in_round x
    → IsLoop setting z.scene z.depth z.env x at body rest → EnteredBody (seeking s) z.env x at body e → Ready setting z w → RanDid setting (start z e w) B z rest w (rounds_of inner x (seeking s) z.env w)
rounds_sought setting inner x run B s z at body rest e w le ll l en r =
    ran_first le ll (λ _ w1 q. completed_more le ll q) (run (seeking s) z at body rest e w l en r)

-- a LAB, and then rounds from their beginning
rounds_from_label : (setting : Setting) (inner : Meanings) (x : Command) → RoundsRun setting inner x → (B : Account) (z : Configuration) (n : ℕ) (at : Sought → List Stmt) (c body rest : List Stmt) (w : World) → 16 * w.turns + 3 ≤ B.most → B.least ≤ w.turns - turns_in_round x
    → IsLoop setting z.scene z.depth z.env x at body rest → EnteredBody forwards z.env x at body body → LabelAt setting z.scene z.depth n body → c ≡ Label n ∷ body → Ready setting z w → RanDid setting (start z c w) B z rest w (rounds_of inner x forwards z.env w)
rounds_from_label setting inner x run B z n at c body rest w le ll l en ln ec r =
    subst (λ y. RanDid setting (start z y w) B z rest w (rounds_of inner x forwards z.env w)) (sym ec)
    (rounds_behind setting inner x run (start z (Label n ∷ body) w) (record { most = 16 * w.turns + 1; least = w.turns }) B z at body rest w w (omega arith) (omega arith) l en r
    (landed_on (omega arith) (omega arith) ln (stay setting (record { most = 16 * w.turns; least = w.turns }) z (Label n ∷ body) w (omega arith) (omega arith) r)))

-- ---- WHILE and UNTIL
pub round_exit_adds : (next : World → Outcome Done) → Adds next → (x : Exit) → Adds (round_exit next x)
round_exit_adds next ad loop = ad
round_exit_adds next ad _ = adds _ (λ w1. stays (history w1))

again_adds : (u : World → Outcome Done) (next : World → Outcome Done) → Adds u → Adds next → Adds (λ w. again (u w) next)
again_adds u next au an = adds _ (λ w. each_way_after (history w) (u w) (λ _ w. next w) (round_exit next) (au.at w) (λ _. an) (λ x. round_exit_adds next an x))

while_goes : (setting : Setting) (inner : Meanings) → Simulates setting inner → (l : ℕ) (b : Bool) (e : Expression) (a : Command) (env : Environment) (x : Bool) → Adds (λ w. either (same_truth b x) (λ w. rounds_of inner (t.while l b e a) forwards env w) done w)
while_goes setting inner sim l b e a env x =
    adds _ (λ w. either_after (same_truth b x) _ _ (again_adds _ _ (adds _ (λ w1. sim.grows.act a forwards _ w1)) (while_adds _ setting inner sim (t.while l b e a) e env env b)) (adds _ (λ w1. stays (history w1))) w)

pub while_run : (setting : Setting) (inner : Meanings) → Simulates setting inner → (B : Account) (l : ℕ) (b : Bool) (e : Expression) (a : Command) (z : Configuration) (at : Sought → List Stmt) (c rest : List Stmt) (w : World) → 16 * w.turns + 8 ≤ B.most
    → B.least ≤ w.turns - suc (turns_of false e + turns_in false a) → (lx : IsAct setting z.scene z.depth z.env (t.while l b e a) at c rest) → Ready setting z w
    → RanDid setting (start z c w) B z rest w (where_truth inner b e z.env (λ w. rounds_of inner (t.while l b e a) forwards z.env w) w)
while_run setting inner sim B l b e a z at c rest w le le' lx r =
    let dp = r.deep in
    let c0 = Jump lx.0 ∷ Label lx.1 ∷ lx.3 in
    let s = start z c0 w in
    let A0 : Account = record { most = 16 * w.turns; least = w.turns } in
    let A : Account = record { most = 16 * w.turns + 2; least = w.turns } in
    let C : Account = record { most = 16 * w.turns + 2; least = w.turns - turns_of false e } in
    let ar : CompletedAt setting s A z lx.4 z.depth w w = jumped_on (omega arith) (omega arith) r.deep lx.8 (stay setting A0 z c0 w (omega arith) (omega arith) r) in
    let m0 = ar.most in
    subst (λ y. RanDid setting (start z y w) B z rest w (where_truth inner b e z.env (λ w. rounds_of inner (t.while l b e a) forwards z.env w) w)) (sym lx.5)
    (with_ran {K = λ x w2. HasTruth setting s C z b (Label lx.1 ∷ lx.3) (Label lx.2 ∷ rest) w x w2} (λ x. while_goes setting inner sim l b e a z.env x)
    (ran_on (omega arith) (omega arith) r (omega arith) ar (λ x w2 q. completed_on (omega arith) (omega arith) r (omega arith) ar q)
    (sim.truth e (next setting s A z lx.4 z.depth w w z.env z.depth ar) b lx.1 (Label lx.1 ∷ lx.3) lx.4 (Label lx.2 ∷ rest) w lx.7 lx.9.found (ready_next z.env z.depth ar refl (omega arith) r)))
    (λ x w2 q. goes (same_truth b x) w2 (subst (λ y. CompletedAt setting s C z y z.depth w w2) (jump_evaluation b x (Label lx.1 ∷ lx.3) (Label lx.2 ∷ rest)) q)))
  where
    goes : (x : Bool) (w2 : World) → CompletedAt setting (start z (Jump lx.0 ∷ Label lx.1 ∷ lx.3) w) (record { most = 16 * w.turns + 2; least = w.turns - turns_of false e }) z (cond x (Label lx.1 ∷ lx.3) (Label lx.2 ∷ rest)) z.depth w w2
        → RanDid setting (start z (Jump lx.0 ∷ Label lx.1 ∷ lx.3) w) B z rest w (either x (λ w. rounds_of inner (t.while l b e a) forwards z.env w) done w2)
    goes true w2 q =
        let few : suc (turns_of false e + turns_in false a) ≤ setting.pay = lx.11 in
        let s = start z (Jump lx.0 ∷ Label lx.1 ∷ lx.3) w in
        let D : Account = record { most = 16 * w.turns + 3; least = (w.turns - turns_of false e) + setting.pay } in
        let ar : CompletedAt setting s D z lx.3 z.depth w w2 = completed_more (omega arith) (omega arith) (label_on lx.9 q) in
        rounds_behind setting inner (t.while l b e a) (λ mode z at body rest e1 w. while_rounds setting inner sim l b e a mode z at body rest e1 w) s D B z at lx.3 rest w w2 (omega (arith, ar.most)) (omega (arith, ar.most)) (lx.0, lx.1, lx.2, lx.4, lx.6, lx.7, lx.8, lx.9, lx.10, lx.11) refl r ar
    goes false w2 q = went (landed_on (omega arith) (omega arith) lx.10 q)

pub while_sought : (setting : Setting) (inner : Meanings) → Simulates setting inner → (B : Account) (l : ℕ) (b : Bool) (e : Expression) (a : Command) (s : Sought) (z : Configuration) (at : Sought → List Stmt) (c rest e1 : List Stmt) (w : World) → 16 * w.turns + 2 ≤ B.most
    → B.least ≤ w.turns - suc (turns_of false e + turns_in false a) → IsAct setting z.scene z.depth z.env (t.while l b e a) at c rest → (has_place s z.env a ≡ true) × (e1 ≡ at s) → Ready setting z w
    → RanDid setting (start z e1 w) B z rest w (rounds_of inner (t.while l b e a) (seeking s) z.env w)
while_sought setting inner sim B l b e a s z at c rest e1 w le le' lx en r =
    rounds_sought setting inner (t.while l b e a) (λ mode z at body rest e1 w. while_rounds setting inner sim l b e a mode z at body rest e1 w) B s z at lx.3 rest e1 w le le' (lx.0, lx.1, lx.2, lx.4, lx.6, lx.7, lx.8, lx.9, lx.10, lx.11)
    (same_stands s z.env.names _ z.env.next a ∙ en.0, en.1) r

-- ---- REPEAT, REPEATWHILE and REPEATUNTIL
pub repeat_run : (setting : Setting) (inner : Meanings) → Simulates setting inner → (B : Account) (l : ℕ) (a : Command) (mode : Mode) (z : Configuration) (at : Sought → List Stmt) (c rest e1 : List Stmt) (w : World) → 16 * w.turns + 3 ≤ B.most → B.least ≤ w.turns - suc (turns_in false a)
    → IsAct setting z.scene z.depth z.env (t.repeat l a) at c rest → Entered mode z.env (t.repeat l a) at c e1 → Ready setting z w → RanDid setting (start z e1 w) B z rest w (rounds_of inner (t.repeat l a) mode z.env w)
repeat_run setting inner sim B l a forwards z at c rest e1 w le le' lx en r =
    rounds_from_label setting inner (t.repeat l a) (λ mode z at body rest e1 w. repeat_rounds setting inner sim l a mode z at body rest e1 w) B z lx.0 at e1 lx.2 rest w le le' (lx.0, lx.1, lx.4, lx.5, lx.6, lx.7) refl lx.5 (en ∙ lx.3) r
repeat_run setting inner sim B l a (seeking s) z at c rest e1 w le le' lx en r =
    rounds_sought setting inner (t.repeat l a) (λ mode z at body rest e1 w. repeat_rounds setting inner sim l a mode z at body rest e1 w) B s z at lx.2 rest e1 w (omega arith) le' (lx.0, lx.1, lx.4, lx.5, lx.6, lx.7) en r

pub repeat_while_run : (setting : Setting) (inner : Meanings) → Simulates setting inner → (B : Account) (l : ℕ) (b : Bool) (a : Command) (e : Expression) (mode : Mode) (z : Configuration) (at : Sought → List Stmt) (c rest e1 : List Stmt) (w : World) → 16 * w.turns + 3 ≤ B.most
    → B.least ≤ w.turns - suc (turns_of false e + turns_in false a) → IsAct setting z.scene z.depth z.env (t.repeat_while l b a e) at c rest → Entered mode z.env (t.repeat_while l b a e) at c e1 → Ready setting z w
    → RanDid setting (start z e1 w) B z rest w (rounds_of inner (t.repeat_while l b a e) mode z.env w)
repeat_while_run setting inner sim B l b a e forwards z at c rest e1 w le le' lx en r =
    rounds_from_label setting inner (t.repeat_while l b a e) (λ mode z at body rest e1 w. repeat_while_rounds setting inner sim l b a e mode z at body rest e1 w) B z lx.0 at e1 lx.3 rest w le le' (lx.0, lx.1, lx.2, lx.4, lx.6, lx.7, lx.8, lx.9, lx.10, lx.11) refl lx.8 (en ∙ lx.5) r
repeat_while_run setting inner sim B l b a e (seeking s) z at c rest e1 w le le' lx en r =
    rounds_sought setting inner (t.repeat_while l b a e) (λ mode z at body rest e1 w. repeat_while_rounds setting inner sim l b a e mode z at body rest e1 w) B s z at lx.3 rest e1 w (omega arith) le' (lx.0, lx.1, lx.2, lx.4, lx.6, lx.7, lx.8, lx.9, lx.10, lx.11) en r

-- in a SWITCHON
abbrev switching : ℕ → Configuration → Configuration
switching n z = record z { scene = in_switch n z.depth z.scene }

case_adds : (x : Exit) → Adds (case_exit x)
case_adds endcase = adds _ (λ w. stays (history w))
case_adds _ = adds _ (λ w. stays (history w))

pub ended_adds : (setting : Setting) (inner : Meanings) → Simulates setting inner → (a : Command) (mode : Mode) (env : Environment) → Adds (λ w. ended_case (inner.act a mode env w))
ended_adds setting inner sim a mode env = adds _ (λ w. each_way_after (history w) (inner.act a mode env w) (λ _ w. done w) case_exit (sim.grows.act a mode env w) (λ _. adds _ (λ w1. stays (history w1))) case_adds)

-- the body from a place in it, to its end or to an ENDCASE
pub ended_run : (setting : Setting) (inner : Meanings) → Simulates setting inner → (B : Account) (a : Command) (s : Sought) (z : Configuration) (env : Environment) (n : ℕ) (at : Sought → List Stmt) (c1 rest e : List Stmt) (w : World) → 16 * w.turns + 1 ≤ B.most → B.least ≤ w.turns - turns_in false a
    → env.names ≡ z.env.names → IsAct setting (in_switch n z.depth z.scene) z.depth env a at c1 (Label n ∷ rest) → Entered (seeking s) env a at c1 e → LabelAt setting z.scene z.depth n rest → Ready setting z w
    → RanDid setting (start z e w) B z rest w (ended_case (inner.act a (seeking s) env w))
ended_run setting inner sim B a s z env n at c1 rest e w le le' en l ent ln r =
    each_way_ran (λ _. adds _ (λ w1. stays (history w1))) case_adds
    (so (omega arith) (omega arith) (λ _ w1 q. q) (λ x w1 q. q) (sim.act a (seeking s) (record (switching n z) { env = env }) at c1 (Label n ∷ rest) e w l ent
    (ready_at setting (switching n z) w env en (around_ready setting (in_switch n z.depth z.scene).around (in_switch n z.depth z.scene).exits z w r))))
    (λ _ w1 q. went (landed_on (omega arith) (omega arith) ln q)) out
  where
    out : (x : Exit) (w1 : World) → Out setting (start z e w) (for_act a w) (switching n z) w x w1 → RanDid setting (start z e w) B z rest w (case_exit x w1)
    out endcase w1 o = let dp = r.deep in
        went (landed_on (omega arith) (omega arith) ln
        (caught_at o (goal n z.depth) z.depth (Label n ∷ rest) refl o.leads.0 ln.found refl (omega arith) (omega arith)))
    out x w1 o = went (outside z.scene (omega arith) (omega arith) o o.leads)

-- and behind an arrival at that place
ended_behind : (setting : Setting) (inner : Meanings) → Simulates setting inner → (st : State) (A B : Account) (a : Command) (s : Sought) (z : Configuration) (env : Environment) (n : ℕ) (at : Sought → List Stmt) (c1 rest e : List Stmt) (w w1 : World) → A.most + 1 ≤ B.most
    → B.least ≤ (w1.turns - turns_in false a) + (A.least - w1.turns) → env.names ≡ z.env.names → IsAct setting (in_switch n z.depth z.scene) z.depth env a at c1 (Label n ∷ rest) → Entered (seeking s) env a at c1 e → LabelAt setting z.scene z.depth n rest → Ready setting z w
    → CompletedAt setting st A z e z.depth w w1 → RanDid setting st B z rest w (ended_case (inner.act a (seeking s) env w1))
ended_behind setting inner sim st A B a s z env n at c1 rest e w w1 le ll en l ent ln r ar =
    let m0 = ar.most in
    comes_to (omega arith) (omega arith) r (omega arith) ar
    (ended_run setting inner sim (record { most = 16 * w1.turns + 1; least = w1.turns - turns_in false a }) a s (next setting st A z e z.depth w w1 z.env z.depth ar) env n at c1 rest e w1 (omega arith) (omega arith) en l ent ln (ready_next z.env z.depth ar refl (omega arith) r))

choose_adds : (place : ℕ) (setting : Setting) (inner : Meanings) → Simulates setting inner → (v : Value) (a : Command) (env : Environment) → Adds (choose_case inner place v a env)
choose_adds place setting inner sim (number k) a env = adds _ (λ w. either_after (has_place (the_case (Some k)) env a) _ _ (ended_adds setting inner sim a (seeking (the_case (Some k))) env)
    (adds _ (λ w1. either_after (has_place the_default env a) _ _ (ended_adds setting inner sim a (seeking the_default) env) (adds _ (λ w2. stays (history w2))) w1)) w)
choose_adds place setting inner sim _ a env = adds _ (λ w. stays (history w))

-- the switch itself
switched : {setting : Setting} {s : State} {A : Account} {z : Configuration} {other k : ℕ} {cs : List Case} {to c1 : List Stmt} {w w1 : World} → Ready setting z w
    → (a : Has setting s A z (Switch other cs ∷ c1) (z.depth + 1) w (number k) w1)
    → from_label z.scene.own.stmts (case_label cs other k) ≡ Some to → CompletedAt setting s (paying setting A) z to z.depth w w1
switched {setting} {s} {A} {z} {other} {k} {cs} {to} {c1} {w} {w1} r a e =
    completed_paid a.arr (below (z.frame + z.depth) a.arr.cells1) None a.arr.written1 (links_below r) (λ x lx. below_like (z.frame + z.depth) a.arr.cells1 x lx)
    (switch_moves setting.program (there setting s A z (Switch other cs ∷ c1) (z.depth + 1) w w1 a.arr) z.scene.own c1 z.depth other k cs to refl a.stands e)

pub switch_run : (setting : Setting) (inner : Meanings) → Simulates setting inner → (B : Account) (l : ℕ) (e : Expression) (a : Command) (z : Configuration) (at : Sought → List Stmt) (c rest : List Stmt) (w : World) → 16 * w.turns + 4 ≤ B.most → B.least ≤ w.turns - (turns_of false e + turns_in false a)
    → IsAct setting z.scene z.depth z.env (t.switch l e a) at c rest → Ready setting z w → RanDid setting (start z c w) B z rest w (with (inner.value e z.env w) (λ v w. choose_case inner (acts_at e) v a (past e z.env) w))
switch_run setting inner sim B l e a z at c rest w le le' lx r =
    one_run setting inner sim B e z c (Switch lx.1 lx.2 ∷ lx.3) w _ _ (λ v. choose_adds _ setting inner sim v a (past e z.env)) (omega arith) (omega arith) lx.4 r by_value
  where
    by_number : (k : ℕ) (w1 : World) → Has setting (start z c w) (for_value e w) z (Switch lx.1 lx.2 ∷ lx.3) (z.depth + 1) w (number k) w1 → RanDid setting (start z c w) B z rest w (choose_case inner (acts_at e) (number k) a (past e z.env) w1)
    by_number k w1 q = let dp = r.deep in let m0 = q.arr.most in
        by_test (has_place (the_case (Some k)) (past e z.env) a)
        (λ (h : has_place (the_case (Some k)) (past e z.env) a ≡ true).
        subst (λ (b : Bool). RanDid setting (start z c w) B z rest w (either b (λ w. ended_case (inner.act a (seeking (the_case (Some k))) (past e z.env) w))
        (λ w. either (has_place the_default (past e z.env) a) (λ w. ended_case (inner.act a (seeking the_default) (past e z.env) w)) done w) w1)) (sym h)
        (ended_behind setting inner sim (start z c w) (paying setting (for_value e w)) B a (the_case (Some k)) z (past e z.env) lx.0 at lx.3 rest (at (the_case (Some k))) w w1 (omega arith) (omega arith) refl lx.5 (h, refl) lx.6 r
        (switched r q (lx.7 k h))))
        (λ (h : has_place (the_case (Some k)) (past e z.env) a ≡ false).
        subst (λ (b : Bool). RanDid setting (start z c w) B z rest w (either b (λ w. ended_case (inner.act a (seeking (the_case (Some k))) (past e z.env) w))
        (λ w. either (has_place the_default (past e z.env) a) (λ w. ended_case (inner.act a (seeking the_default) (past e z.env) w)) done w) w1)) (sym h)
        (by_test (has_place the_default (past e z.env) a)
        (λ (i : has_place the_default (past e z.env) a ≡ true).
        subst (λ (b : Bool). RanDid setting (start z c w) B z rest w (either b (λ w. ended_case (inner.act a (seeking the_default) (past e z.env) w)) done w1)) (sym i)
        (ended_behind setting inner sim (start z c w) (paying setting (for_value e w)) B a the_default z (past e z.env) lx.0 at lx.3 rest (at the_default) w w1 (omega arith) (omega arith) refl lx.5 (i, refl) lx.6 r
        (switched r q (lx.8 k h i))))
        (λ (i : has_place the_default (past e z.env) a ≡ false).
        subst (λ (b : Bool). RanDid setting (start z c w) B z rest w (either b (λ w. ended_case (inner.act a (seeking the_default) (past e z.env) w)) done w1)) (sym i)
        (went (landed_on (omega arith) (omega arith) lx.6
        (switched r q (ap (λ n. from_label z.scene.own.stmts n) (lx.9 k h i) ∙ lx.6.found)))))))

    by_value : (v : Value) (w1 : World) → Has setting (start z c w) (for_value e w) z (Switch lx.1 lx.2 ∷ lx.3) (z.depth + 1) w v w1 → 1 ≤ w.turns → RanDid setting (start z c w) B z rest w (choose_case inner (acts_at e) v a (past e z.env) w1)
    by_value (number k) w1 q pos = by_number k w1 q
    by_value _ w1 q pos = went tt

label_only : (s : Sought) (b : Bool) → cond (is_label s) b false ≡ true → b ≡ true
label_only s b h = by_kind (is_label s) h
  where
    by_kind : (k : Bool) → cond k b false ≡ true → b ≡ true
    by_kind true h = h
    by_kind false h = not_true h

pub switch_sought : (setting : Setting) (inner : Meanings) → Simulates setting inner → (B : Account) (l : ℕ) (e : Expression) (a : Command) (s : Sought) (z : Configuration) (at : Sought → List Stmt) (c rest e1 : List Stmt) (w : World) → 16 * w.turns + 1 ≤ B.most → B.least ≤ w.turns - turns_in false a
    → IsAct setting z.scene z.depth z.env (t.switch l e a) at c rest → Entered (seeking s) z.env (t.switch l e a) at c e1 → Ready setting z w → RanDid setting (start z e1 w) B z rest w (ended_case (inner.act a (seeking s) (past e z.env) w))
switch_sought setting inner sim B l e a s z at c rest e1 w le le' lx en r =
    ended_run setting inner sim B a s z (past e z.env) lx.0 at lx.3 rest e1 w le le' refl lx.5 (same_stands s z.env.names (past e z.env).next z.env.next a ∙ label_only s (has_place s z.env a) en.0, en.1) lx.6 r

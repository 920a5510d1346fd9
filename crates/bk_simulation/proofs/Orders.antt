-- Commands in order, and what seeking finds in them.
use Rattle.bk_tree.specs.Tree as t
use Rattle.bk_simulation.proofs.Compose.{stay, comes_to, ran_first, ran_more, completed_more, by_test, not_true, same_stands_one, Setting, IsAct, AreActs, Entered, EnteredAny, Configuration, start, Ready, went, with_ran, next, named_again, ready_in, ready_next, ◌≡◌, Bool, true, false, ◌||◌, cond, List, refl, sym, ap, ◌∙◌, subst, arith, Stmt, Command, Commands, Environment, past_command, Sought, Mode, forwards, seeking, has_place, one_has_place, World, with, either, history, Meanings, in_order, Adds, adds, stays, with_after, either_after}
use Rattle.bk_simulation.proofs.Simulates.{Simulates, for_act, for_scope, Did, RanDid}

pub or_second : (a b : Bool) → (a || b) ≡ true → a ≡ false → b ≡ true
or_second a b h e = cc

-- what commands in order add
pub order_adds : (setting : Setting) (inner : Meanings) → Simulates setting inner → (cs : Commands) (mode : Mode) (env : Environment) → Adds (in_order inner cs mode env)
order_adds setting inner sim t.no_commands mode env = adds _ (λ w. stays (history w))
order_adds setting inner sim (t.also c cs) forwards env = adds _ (λ w. with_after _ _ _ (sim.grows.act c forwards env w) (λ _. order_adds setting inner sim cs forwards (past_command c env)))
order_adds setting inner sim (t.also c cs) (seeking s) env =
    adds _ (λ w. either_after (has_place s env c) _ _
    (adds _ (λ w1. with_after _ _ _ (sim.grows.act c (seeking s) env w1) (λ _. order_adds setting inner sim cs forwards (past_command c env))))
    (order_adds setting inner sim cs (seeking s) (past_command c env)) w)

-- names are as they were where only the number of the next object is another
pub ready_at : (setting : Setting) (z : Configuration) (w : World) (env : Environment) → env.names ≡ z.env.names → Ready setting z w → Ready setting (record z { env = env }) w
ready_at setting z w env en r = ready_in z.scene env (named_again en r.named) r

-- the first is done, and then the others
then_run : (setting : Setting) (inner : Meanings) → Simulates setting inner → (a : Command) (mode : Mode) (cs : Commands) (z : Configuration) (at1 at2 : Sought → List Stmt) (c c1 rest e : List Stmt) (w : World) → IsAct setting z.scene z.depth z.env a at1 c c1
    → Entered mode z.env a at1 c e → Ready setting z w
    → ((z1 : Configuration) (w1 : World) → Ready setting z1 w1 → z1.env ≡ past_command a z.env → AreActs setting z1.scene z1.depth z1.env cs at2 c1 rest
    → RanDid setting (start z1 c1 w1) (for_scope cs w1) z1 rest w1 (in_order inner cs forwards (past_command a z.env) w1))
    → AreActs setting z.scene z.depth (past_command a z.env) cs at2 c1 rest
    → RanDid setting (start z e w) (for_scope (t.also a cs) w) z rest w
    (with (inner.act a mode z.env w) (λ _ w. in_order inner cs forwards (past_command a z.env) w))
then_run setting inner sim a mode cs z at1 at2 c c1 rest e w la en r go lcs =
    with_ran (λ _. order_adds setting inner sim cs forwards (past_command a z.env)) (ran_more (omega arith) (omega arith) (sim.act a mode z at1 c c1 e w la en r))
    (λ _ w1 q.
    let m0 = q.most in
    comes_to (omega arith) (omega arith) r (omega arith) q
    (go (next setting (start z e w) (for_act a w) z c1 z.depth w w1 (past_command a z.env) z.depth q) w1 (ready_next (past_command a z.env) z.depth q refl (omega arith) r) refl lcs))

-- commands in order
pub order_run : (setting : Setting) (inner : Meanings) → Simulates setting inner → (cs : Commands) (mode : Mode) (z : Configuration) (at : Sought → List Stmt) (c rest e : List Stmt) (w : World) → AreActs setting z.scene z.depth z.env cs at c rest → EnteredAny mode z.env cs at c e
    → Ready setting z w → RanDid setting (start z e w) (for_scope cs w) z rest w (in_order inner cs mode z.env w)
order_run setting inner sim t.no_commands mode z at c rest e w l en r = no_acts mode en
  where
    no_acts : (mode : Mode) → EnteredAny mode z.env t.no_commands at c e
        → RanDid setting (start z e w) (for_scope t.no_commands w) z rest w (in_order inner t.no_commands mode z.env w)
    no_acts forwards en =
        let a = stay setting (for_scope t.no_commands w) z e w (omega arith) (omega arith) r in
        went (subst (λ y. Did setting (start z e w) (for_scope t.no_commands w) z y w w) (en ∙ l) a)
    no_acts (seeking s) en = not_true en.0
order_run setting inner sim (t.also a cs) forwards z at c rest e w l en r =
    then_run setting inner sim a forwards cs z l.1 l.2 c l.0 rest e w l.3 en r (λ z1 w1 r1 ez l1. subst (λ y. RanDid setting (start z1 l.0 w1) (for_scope cs w1) z1 rest w1 (in_order inner cs forwards y w1)) ez
    (order_run setting inner sim cs forwards z1 l.2 l.0 rest l.0 w1 l1 refl r1)) l.4
order_run setting inner sim (t.also a cs) (seeking s) z at c rest e w l en r =
    by_test (has_place s z.env a)
    (λ (h : has_place s z.env a ≡ true).
    subst (λ (b : Bool). RanDid setting (start z e w) (for_scope (t.also a cs) w) z rest w
    (either b (λ w. with (inner.act a (seeking s) z.env w) (λ _ w. in_order inner cs forwards (past_command a z.env) w)) (λ w. in_order inner cs (seeking s) (past_command a z.env) w) w)) (sym h)
    (then_run setting inner sim a (seeking s) cs z l.1 l.2 c l.0 rest e w l.3 (h, en.1 ∙ l.5 s ∙ ap (λ (b : Bool). cond b (l.1 s) (l.2 s)) h) r
    (λ z1 w1 r1 ez l1. subst (λ y. RanDid setting (start z1 l.0 w1) (for_scope cs w1) z1 rest w1 (in_order inner cs forwards y w1)) ez
    (order_run setting inner sim cs forwards z1 l.2 l.0 rest l.0 w1 l1 refl r1)) l.4))
    (λ (h : has_place s z.env a ≡ false).
    let z1 = record z { env = past_command a z.env } in
    subst (λ (b : Bool). RanDid setting (start z e w) (for_scope (t.also a cs) w) z rest w
    (either b (λ w. with (inner.act a (seeking s) z.env w) (λ _ w. in_order inner cs forwards (past_command a z.env) w)) (λ w. in_order inner cs (seeking s) (past_command a z.env) w) w)) (sym h)
    (ran_first (omega arith) (omega arith) (λ _ w1 q. completed_more (omega arith) (omega arith) q)
    (order_run setting inner sim cs (seeking s) z1 l.2 l.0 rest e w l.4 (same_stands_one s z.env.names (past_command a z.env).next z.env.next cs ∙ or_second (has_place s z.env a) (one_has_place s z.env cs) en.0 h, en.1 ∙ l.5 s ∙ ap (λ (b : Bool). cond b (l.1 s) (l.2 s)) h)
    (ready_at setting z w (past_command a z.env) refl r))))

-- A FOR is laid where the scheme puts it, where its body is. Each command of an accepted section is laid where the scheme puts it. That VALOFs and blocks
-- with declarations are is taken here as an argument.
use Rattle.bk_simulation.proofs.LaidProcedures.{all_passed}
use Rattle.bk_simulation.proofs.LaidAssigned.{Doing, finds_nothing, Done, words_labels, words_variable, alone_lies, doing_loop, doing_switch, Leads, finds_case, finds_both, switch_chosen, switch_default, switch_none, DoneEach, leads_label, either_leads, same_letters, label_ahead, turns_lie, laid_froms, laid_stores, FindsEach, at_depth, turns_in, in_light, turns_through, of_light, turns_of, with_names, IsAct, Setting, Scene, in_loop, pushes, IsAlone, in_switch, jumps, count, IsLabelHere, AreActs, in_valof, Aim, ending, bound_named, Agree, own_cell, agree_bound, there_in, bases_under, IsNumbered, passed, label_at, home, three_bases, bases_so, Lies, written, call_at, label_found, Bases, no_bases, both_bases, lies_so, lie, lies_within, data_at, FoundParts, found_front, found_back, lies_after, constant_small, HasWords, around_deeper, constants_agree, InNames, joined_choice, known, known_agree, names_of, stands_agree, joined_two, joined_three, role, Around, call_lies, plain_laid, ValofsLie, laid_code, laid_each, CodeLies, ◌-◌, Placed, Environment, Goal, go, ◌≡◌, ℕ, ◌+◌, ◌<◌, ◌≤◌, ◌^◌, Bool, true, false, List, [], ◌∷◌, ◌++◌, length, Some, cond, refl, sym, ap, ap₂, ◌∙◌, subst, arith, int_lt, pos, signed, Expressions, Command, Commands, Declaration, Declarations, Enclosing, Binding, bind, labels_of, deeper, labels_in_scope, SoundDone, HaveWords, Spot, next_depth, Local, Stmt, Number, Load, Dyadic, Assign, Jump, JumpIf, Label, Stack, Store, labels, term_named, command_named, worth, step_named, parts, parts_in, value_code, command_code, test_of_step, Named, objects, objects_of_command, cell, foreign, step_of, of_command, in_scope, not, suc, false≢true, bytes_eq, size, bound_in, constant_word, SoundDoneEach, Sound, from_label, GiveResult, CallRoutine, Switch, Return, Finish, TakeResult, labels_if, labels_onto, labels_in, meant, condition_named, lvalues_named, commands_named, parts_if, parts_onto, parts_through, goal_in, jump_code, through_code, cases, default_in, label_or, valued, objects_of_each, objects_of_commands, constant_in, the_label, the_case, the_default, same_place, has_place, of_commands, Sought, RegularEach, RegularCommand, RegularCommands, Regular, Simple}
use Rattle.bk_tree.specs.Tree as t
use Rattle.bk_simulation.proofs.Terms.{Bound as b, Dyadic as two, Simple as simple}
use Rattle.bk_scope.specs.Places as place
use Rattle.bk_scope.specs.Spots as spot

-- the code of a command is laid from statements on before those
abbrev pub ActLies : ℕ → Scene → Enclosing → Spot → ℕ → Command → ℕ → ℕ → List Stmt → List Stmt → Type 0
ActLies pay sc p s i x d n c rest = (f : FoundParts sc.own sc.targets (parts_in d n (command_named sc.bindings p s x))) → c ≡ command_code sc.targets sc.around d n (command_named sc.bindings p s x) ++ rest → IsNumbered sc.own d c
    → Done pay sc i x d n (command_named sc.bindings p s x) c rest f

-- the step of a FOR
step_is : (ns : List Named) (bs : List Binding) (i : ℕ) → Agree ns bs → (h : Expressions) → HaveWords bs h → step_of (with_names ns i) h ≡ Some (step_named bs h)
step_is ns bs i a t.none w0 = refl
step_is ns bs i a (t.more e es) w0 = let x = w0.0 in constants_agree ns bs i a.0 e ∙ x.1 ∙ ap (λ y. Some (worth y)) (sym x.1)

step_small : (bs : List Binding) → HasWords bs → (h : Expressions) → RegularEach h → HaveWords bs h → step_named bs h < 2 ^ 32
step_small bs a t.none r w0 = omega arith
step_small bs a (t.more e es) r w0 = let x = w0.0 in subst (λ y. worth y < 2 ^ 32) (sym x.1) (constant_small bs a e r.0 x.0 x.1)

test_in : (d : ℕ) (q : Bool) → next_depth (d + 1 + 1) (cond q (Dyadic two.AtLeast) (Dyadic two.AtMost)) ≡ d + 1
test_in d true = omega arith
test_in d false = omega arith

-- ---- Commands of one word are laid where the scheme puts them.

-- a jump to another depth
gone : (own : Placed) (d : ℕ) (to : Goal) (c rest : List Stmt) → c ≡ go to d ++ rest → IsNumbered own d c → IsNumbered own d rest
gone own d to c rest k st =
    let s1 = passed own d to.depth (Stack to.depth) (Jump to.label ∷ Stack d ∷ rest) (written own d c (Stack to.depth ∷ Jump to.label ∷ Stack d ∷ rest) k st) refl in
    passed own to.depth d (Stack d) rest (passed own to.depth to.depth (Jump to.label) (Stack d ∷ rest) s1 refl) refl

-- a command of one word
one_word : (pay : ℕ) (sc : Scene) (p : Enclosing) (s : Spot) (i l : ℕ) (x : Simple) (d n : ℕ) (c rest : List Stmt) {f : FoundParts sc.own sc.targets (parts_in d n (command_named sc.bindings p s (t.simple l x)))} → IsNumbered sc.own d rest
    → ((q : ℕ) → data_at sc.own q rest ≤ data_at sc.own q c)
    → ((setting : Setting) (env : Environment) → IsAct setting sc d env (t.simple l x) (λ y. rest) c rest) → Done pay sc i (t.simple l x) d n (command_named sc.bindings p s (t.simple l x)) c rest f
one_word pay sc p s i l x d n c rest on less laid = record {
  at = λ y. rest;
  lies = lie on (no_bases (home sc pay) i _ (λ setting y ns u. laid setting (with_names ns i))) (λ q. let l = less q in omega (arith, l));
  finds = finds_nothing sc.own sc.targets sc.bindings d _;
}

pub simple_lies : (pay : ℕ) (sc : Scene) (p : Enclosing) (s : Spot) (i l : ℕ) (x : Simple) (d n : ℕ) (c rest : List Stmt) → Doing sc p d → SoundDone sc.bindings p s (t.simple l x) → ActLies pay sc p s i (t.simple l x) d n c rest
simple_lies pay sc p s i l simple.Break d n c rest a h f k st =
    one_word pay sc p s i l simple.Break d n c rest (gone sc.own d sc.around.leaves c rest k st) (λ q. let e = ap (data_at sc.own q) k in omega (arith, e)) (λ g env. (k, a.loop h))
simple_lies pay sc p s i l simple.Loop d n c rest a h f k st =
    one_word pay sc p s i l simple.Loop d n c rest (gone sc.own d sc.around.goes_on c rest k st) (λ q. let e = ap (data_at sc.own q) k in omega (arith, e)) (λ g env. (k, a.loop h))
simple_lies pay sc p s i l simple.EndCase d n c rest a h f k st =
    one_word pay sc p s i l simple.EndCase d n c rest (gone sc.own d sc.around.ends_case c rest k st) (λ q. let e = ap (data_at sc.own q) k in omega (arith, e)) (λ g env. (k, a.switch h))
simple_lies pay sc p s i l simple.Return d n c rest a h f k st =
    one_word pay sc p s i l simple.Return d n c rest (passed sc.own d d Return rest (written sc.own d c (Return ∷ rest) k st) refl) (λ q. let e = ap (data_at sc.own q) k in omega (arith, e)) (λ g env. k)
simple_lies pay sc p s i l simple.Finish d n c rest a h f k st =
    one_word pay sc p s i l simple.Finish d n c rest (passed sc.own d d Finish rest (written sc.own d c (Finish ∷ rest) k st) refl) (λ q. let e = ap (data_at sc.own q) k in omega (arith, e)) (λ g env. k)

-- blocks with declarations are laid
abbrev pub BlocksLie : ℕ → Type 0
BlocksLie pay = (sc : Scene) (p : Enclosing) (s : Spot) (i l : ℕ) (x : Declaration) (xs : Declarations) (cs : Commands) (d n : ℕ) (c rest : List Stmt) → Doing sc p d → SoundDone sc.bindings p s (t.block l (t.declare x xs) cs)
    → RegularCommand (t.block l (t.declare x xs) cs) → turns_in true (t.block l (t.declare x xs) cs) ≤ pay → ActLies pay sc p s i (t.block l (t.declare x xs) cs) d n c rest

mutual
  pub laid_act : (pay : ℕ) (valofs : ValofsLie pay) (blocks : BlocksLie pay) (sc : Scene) (p : Enclosing) (s : Spot) (i : ℕ) (x : Command) (d n : ℕ) (c rest : List Stmt) → Doing sc p d → SoundDone sc.bindings p s x → RegularCommand x → turns_in true x ≤ pay
      → ActLies pay sc p s i x d n c rest
  laid_act pay valofs blocks sc p s i t.empty d n c rest a h r m f k st = record {
    at = λ y. rest;
    lies = lie (written sc.own d c rest k st) (no_bases (home sc pay) i _ (λ g y ns u. k)) (λ q. let e0 = ap (data_at sc.own q) k in omega (arith, e0));
    finds = finds_nothing sc.own sc.targets sc.bindings d _;
  }
  laid_act pay valofs blocks sc p s i (t.assign l xs es) d n c rest a h r m f k st =
      let lx = lvalues_named sc.bindings (deeper 1 p) s xs in
      let j = i + objects_of_each xs in
      let u = spot.after_each xs s in
      let stores = laid_stores pay valofs sc p s i xs d n a.around h.0 r.1 (omega arith) (found_front sc.own sc.targets (parts_onto (d + 1) n lx) _ f) in
      let froms = laid_froms pay valofs sc p u j es d (n + labels_onto lx) st.shallow a.around h.1 r.2 (omega arith) (found_back sc.own sc.targets (parts_onto (d + 1) n lx) _ f) in
      let x = turns_lie pay sc p p s u i j xs es d n (n + labels_onto lx) c rest (found_front sc.own sc.targets (parts_onto (d + 1) n lx) _ f) (found_back sc.own sc.targets (parts_onto (d + 1) n lx) _ f) r.0 stores froms k st in
      record {
        at = λ y. rest;
        lies = lie x.on (bases_so (home sc pay) _ (λ g y v ns u. (x.vs, x.ss, v.1 ns u, v.0 ns u, x.turns)) (both_bases (home sc pay) i (objects_of_each xs) (objects_of_each es) (parts_onto (d + 1) n lx) f _ _ x.stores x.from)) (λ q. let v = x.paid q in omega (arith, v));
        finds = finds_nothing sc.own sc.targets sc.bindings d _;
      }
  laid_act pay valofs blocks sc p s i (t.call l e es) d n c rest a h r m f k st =
      let s1 : Spot = spot.following e s in
      let z : Enclosing = deeper (size es + 2) p in
      let g1 = call_lies pay sc p s s1 i (CallRoutine d) e es d n c rest a.around f k st
      (λ c1 c2 b0 f0 k0 st0. laid_each pay valofs sc (deeper 2 p) s1 (i + objects e) es (d + 2) (n + labels (term_named sc.bindings z s e)) c1 c2 b0 h.1 r.1 (omega arith) f0 k0 st0)
      (λ c2 b0 f0 k0 st0. laid_code pay valofs sc z s i pushes e (d + 2 + count es) n c2 (CallRoutine d ∷ rest) b0 h.0 r.0 (omega arith) f0 k0 st0) in
      record {
        at = λ y. rest;
        lies = lie (passed sc.own (d + 2 + count es + 1) d (CallRoutine d) rest g1.on refl)
            (bases_so (home sc pay) _ (λ g z0 v ns u. let x = v ns u in (x.0, x.1, x.2, x.3, x.4, call_at g sc _ (CallRoutine d) rest z0.own g1.on, g1.on.shallow)) g1.objects_are) (λ q. let u = g1.paid q in omega (arith, u));
        finds = finds_nothing sc.own sc.targets sc.bindings d _;
      }
  laid_act pay valofs blocks sc p s i (t.goto l x) d n c rest a h r m f k st = record {
    at = λ y. rest;
    lies = lie (gone sc.own d (goal_in sc.targets (meant (bound_in sc.bindings x.letters))) c rest k st) (no_bases (home sc pay) i _ (λ g y ns u. (k, subst IsLabelHere (sym h.1) tt))) (λ q. let e0 = ap (data_at sc.own q) k in omega (arith, e0));
    finds = finds_nothing sc.own sc.targets sc.bindings d _;
  }
  laid_act pay valofs blocks sc p s i (t.label l x a0) d n c rest a h r m f k st =
      let k0 = command_named sc.bindings p (spot.past 1 s) a0 in
      let c1 = command_code sc.targets sc.around d (n + 1) k0 ++ rest in
      let st0 = written sc.own d c (Label n ∷ c1) k st in
      let done = laid_act pay valofs blocks sc p (spot.past 1 s) i a0 d (n + 1) c1 rest a h.1 r (omega arith) f.1 refl (passed sc.own d d (Label n) c1 st0 refl) in
      let fd = done.finds in
      let found : from_label sc.own.stmts n ≡ Some c = label_found sc.own d n c1 st0 ∙ ap Some (sym k) in
      let own_leads : Leads sc.own sc.targets sc.bindings d x c = leads_label sc.own sc.targets sc.bindings p.procedure d n x c h.0 f.0.0 found in
      record {
        at = λ y. cond (same_place y (the_label x)) c (done.at y);
        lies = lies_after _ refl (lies_within (λ q. let e0 = ap (data_at sc.own q) k in omega (arith, e0)) (lies_so (home sc pay) _ (λ g z v ns u. (n, c1, done.at, k, v ns u, label_at g sc d n c1 z.own st0, (λ y. refl))) done.lies));
        finds = record {
          labels = λ y e. either_leads sc.own sc.targets sc.bindings d y (bytes_eq y x) (has_place (the_label y) (known sc.bindings) a0) c (done.at (the_label y))
              (λ same. subst (λ z. Leads sc.own sc.targets sc.bindings d z c) (sym (same_letters y x same)) own_leads) (fd.labels y) e;
          chosen = fd.chosen;
          others = fd.others;
          default = fd.default;
          no_default = fd.no_default;
        };
      }
  laid_act pay valofs blocks sc p s i (t.case_of l e a0) d n c rest a h r m f k st =
      let s1 : Spot = spot.after_constant e (spot.past 1 s) in
      let k0 = command_named sc.bindings p s1 a0 in
      let c1 = command_code sc.targets sc.around d (n + 1) k0 ++ rest in
      let st0 = written sc.own d c (Label n ∷ c1) k st in
      let done = laid_act pay valofs blocks sc p s1 i a0 d (n + 1) c1 rest a h.2 r.1 (omega arith) f refl (passed sc.own d d (Label n) c1 st0 refl) in
      let found : from_label sc.own.stmts n ≡ Some c = label_found sc.own d n c1 st0 ∙ ap Some (sym k) in
      record {
        at = λ y. cond (same_place y (the_case (constant_word sc.bindings e))) c (done.at y);
        lies = lies_within (λ q. let e0 = ap (data_at sc.own q) k in omega (arith, e0)) (lies_so (home sc pay) _
            (λ g z v ns u. (n, c1, done.at, k, v ns u, label_at g sc d n c1 z.own st0, (λ y. ap (λ x. cond (same_place y (the_case x)) c (done.at y)) (sym (constants_agree ns sc.bindings i u.0 e))))) done.lies);
        finds = finds_case sc.own sc.targets sc.bindings d n (h.1.0) (constant_in (known sc.bindings) e) (constant_word sc.bindings e) _ _ _ c done.at (constants_agree (names_of sc.bindings) sc.bindings 0 (known_agree sc.bindings) e) h.1.1 (constant_small sc.bindings a.around.words e r.0 h.1.0 h.1.1) found done.finds;
      }
  laid_act pay valofs blocks sc p s i (t.default l a0) d n c rest a h r m f k st =
      let s1 : Spot = spot.past 1 s in
      let k0 = command_named sc.bindings p s1 a0 in
      let c1 = command_code sc.targets sc.around d (n + 1) k0 ++ rest in
      let st0 = written sc.own d c (Label n ∷ c1) k st in
      let done = laid_act pay valofs blocks sc p s1 i a0 d (n + 1) c1 rest a h.1 r (omega arith) f refl (passed sc.own d d (Label n) c1 st0 refl) in
      let fd = done.finds in
      record {
        at = λ y. cond (same_place y the_default) c (done.at y);
        lies = lies_within (λ q. let e0 = ap (data_at sc.own q) k in omega (arith, e0)) (lies_so (home sc pay) _ (λ g z v ns u. (n, c1, done.at, k, v ns u, label_at g sc d n c1 z.own st0, (λ y. refl))) done.lies);
        finds = record { labels = fd.labels; chosen = fd.chosen; others = fd.others; default = λ e0. (n, refl, label_found sc.own d n c1 st0 ∙ ap Some (sym k)); no_default = λ e0. absurd (false≢true (sym e0)) };
      }
  laid_act pay valofs blocks sc p s i (t.when l v e a0) d n c rest a h r m f k st =
      let s1 : Spot = spot.following e s in
      let ce = condition_named sc.bindings p s e in
      let k0 = command_named sc.bindings p s1 a0 in
      let n0 = n + 1 + labels_if ce in
      let code = command_code sc.targets sc.around d n0 k0 in
      let c1 = code ++ (Label n ∷ rest) in
      let le = laid_code pay valofs sc p s i (jumps (not v) n) e d (n + 1) c c1 a.around h.0 r.0 (omega arith) (found_front sc.own sc.targets (parts_if d (n + 1) ce) _ f) (joined_three (jump_code sc.targets d (n + 1) ce (not v) n) code (Label n ∷ []) rest c k) st in
      let done = laid_act pay valofs blocks sc p s1 (i + objects e) a0 d n0 c1 (Label n ∷ rest) a h.1 r.1 (omega arith) (found_back sc.own sc.targets (parts_if d (n + 1) ce) _ f) refl le.on in
      let fd = done.finds in
      record {
        at = done.at;
        lies = lie (passed sc.own d d (Label n) rest done.lies.on refl)
            (bases_so (home sc pay) _ (λ g z x ns u. (n, c1, x.0 ns u, x.1 ns u, label_at g sc d n rest z.own done.lies.on)) (both_bases (home sc pay) i (objects e) (objects_of_command a0) (parts_if d (n + 1) ce) f _ _ le.objects_are done.lies.objects_are))
            (λ q. let u = le.paid q in let w = done.lies.paid q in omega (arith, u, w));
        finds = record { labels = fd.labels; chosen = fd.chosen; others = fd.others; default = fd.default; no_default = fd.no_default };
      }
  laid_act pay valofs blocks sc p s i (t.test l e x y) d n c rest a h r m f k st =
      let s1 : Spot = spot.following e s in
      let s2 : Spot = spot.after_done x s1 in
      let ce = condition_named sc.bindings p s e in
      let kx = command_named sc.bindings p s1 x in
      let ky = command_named sc.bindings p s2 y in
      let nx = n + 2 + labels_if ce in
      let ny = n + 2 + labels_if ce + labels_in kx in
      let vx = command_code sc.targets sc.around d nx kx in
      let vy = command_code sc.targets sc.around d ny ky in
      let c2 = vy ++ (Label (n + 1) ∷ rest) in
      let c1 = vx ++ (Jump (n + 1) ∷ Label n ∷ c2) in
      let k1 = joined_choice (jump_code sc.targets d (n + 2) ce false n) vx (Jump (n + 1) ∷ Label n ∷ []) (Label (n + 1) ∷ []) vy rest c k in
      let fe = found_front sc.own sc.targets (parts_if d (n + 2) ce ++ parts_in d nx kx) _ f in
      let le = laid_code pay valofs sc p s i (jumps false n) e d (n + 2) c c1 a.around h.0 r.0 (omega arith) (found_front sc.own sc.targets (parts_if d (n + 2) ce) _ fe) k1 st in
      let dx = laid_act pay valofs blocks sc p s1 (i + objects e) x d nx c1 (Jump (n + 1) ∷ Label n ∷ c2) a h.1 r.1 (omega arith) (found_back sc.own sc.targets (parts_if d (n + 2) ce) _ fe) refl le.on in
      let sn = passed sc.own d d (Jump (n + 1)) (Label n ∷ c2) dx.lies.on refl in
      let dy = laid_act pay valofs blocks sc p s2 (i + objects e + objects_of_command x) y d ny c2 (Label (n + 1) ∷ rest) a h.2 r.2 (omega arith) (found_back sc.own sc.targets (parts_if d (n + 2) ce ++ parts_in d nx kx) _ f) refl
      (passed sc.own d d (Label n) c2 sn refl) in
      record {
        at = λ z. cond (has_place z (known sc.bindings) x) (dx.at z) (dy.at z);
        lies = lie (passed sc.own d d (Label (n + 1)) rest dy.lies.on refl)
            (bases_so (home sc pay) _ (λ g z v ns u. (
              n,
              n + 1,
              c1,
              c2,
              dx.at,
              dy.at,
              v.0.0 ns u,
              v.0.1 ns u,
              v.1 ns u,
              label_at g sc d n c2 z.own sn,
              label_at g sc d (n + 1) rest z.own dy.lies.on,
              (λ w0. ap (λ q0. cond q0 (dx.at w0) (dy.at w0)) (sym (stands_agree w0 ns sc.bindings i u x))),
            )) (three_bases (home sc pay) i (objects e) (objects_of_command x) (objects_of_command y) (parts_if d (n + 2) ce) (parts_in d nx kx) f _ _ _ le.objects_are dx.lies.objects_are dy.lies.objects_are))
            (λ q. let u = le.paid q in let w = dx.lies.paid q in let o = dy.lies.paid q in omega (arith, u, w, o));
        finds = finds_both sc.own sc.targets sc.bindings d _ _ _ _ _ _ dx.at dy.at dx.finds dy.finds;
      }
  laid_act pay valofs blocks sc p s i (t.while l v e a0) d n c rest a h r m f k st =
      let s1 : Spot = spot.following e s in
      let p1 : Enclosing = place.looping p in
      let ce = condition_named sc.bindings p s e in
      let inside : Scene = in_loop n (n + 2) d sc in
      let k0 = command_named sc.bindings p1 s1 a0 in
      let n0 = n + 3 + labels_if ce in
      let code = command_code sc.targets inside.around d n0 k0 in
      let je = jump_code sc.targets d (n + 3) ce v (n + 1) in
      let test = je ++ (Label (n + 2) ∷ rest) in
      let body = code ++ (Label n ∷ test) in
      let k1 : c ≡ Jump n ∷ Label (n + 1) ∷ body = joined_three (Jump n ∷ Label (n + 1) ∷ code) (Label n ∷ je) (Label (n + 2) ∷ []) rest c k in
      let s0 = passed sc.own d d (Jump n) (Label (n + 1) ∷ body) (written sc.own d c (Jump n ∷ Label (n + 1) ∷ body) k1 st) refl in
      let done = laid_act pay valofs blocks inside p1 s1 (i + objects e) a0 d n0 body (Label n ∷ test) (doing_loop sc p d n (n + 2) d a) h.1 r.1 (omega arith) (found_back sc.own sc.targets (parts_if d (n + 3) ce) _ f) refl
      (passed sc.own d d (Label (n + 1)) body s0 refl) in
      let le = laid_code pay valofs sc p s i (jumps v (n + 1)) e d (n + 3) test (Label (n + 2) ∷ rest) a.around h.0 r.0 (omega arith) (found_front sc.own sc.targets (parts_if d (n + 3) ce) _ f) refl
      (passed sc.own d d (Label n) test done.lies.on refl) in
      let fd = done.finds in
      record {
        at = done.at;
        lies = lie (passed sc.own d d (Label (n + 2)) rest le.on refl)
            (bases_so (home sc pay) _ (λ g z x ns u. let pays = z.pays in (
              n,
              n + 1,
              n + 2,
              body,
              test,
              k1,
              x.1 ns u,
              x.0 ns u,
              label_at g sc d n test z.own done.lies.on,
              label_at g sc d (n + 1) body z.own s0,
              label_at g sc d (n + 2) rest z.own le.on,
              (let te = of_light e in let ta = in_light a0 in omega (arith, pays, m, te, ta)),
            )) (both_bases (home sc pay) i (objects e) (objects_of_command a0) (parts_if d (n + 3) ce) f _ _ le.objects_are done.lies.objects_are))
            (λ q. let u = le.paid q in let w = done.lies.paid q in let e0 = ap (data_at sc.own q) k1 in omega (arith, u, w, e0));
        finds = record { labels = fd.labels; chosen = fd.chosen; others = fd.others; default = fd.default; no_default = fd.no_default };
      }
  laid_act pay valofs blocks sc p s i (t.for_loop l x a1 b1 h1 a0) d n c rest a h r m f k st =
      let sb : Spot = spot.following a1 s in
      let u0 : Spot = spot.onward (spot.symbols_each h1) 0 (spot.following b1 sb) in
      let pb : Enclosing = deeper 1 p in
      let p1 : Enclosing = place.labelled u0.number (place.looping (deeper 2 p)) in
      let s1 : Spot = spot.numbered (1 + length (labels_of a0)) u0 in
      let step : ℕ = step_named sc.bindings h1 in
      let ta = term_named sc.bindings p s a1 in
      let tb = term_named sc.bindings pb sb b1 in
      let na = n + 4 in
      let nb = n + 4 + labels ta in
      let nc = n + 4 + labels ta + labels tb in
      let inside : Scene = record (in_loop (n + 2) (n + 3) (d + 2) sc) { bindings = bind x.letters (b.Variable p.procedure p.depth) sc.bindings } in
      let within : Scene = record inside { bindings = labels_in_scope p.procedure (u0.number + 1) (labels_of a0) inside.bindings } in
      let kc = command_named within.bindings p1 s1 a0 in
      let va = value_code sc.targets d na ta in
      let vb = value_code sc.targets (d + 1) nb tb in
      let code = command_code sc.targets inside.around (d + 2) nc kc in
      let test = Load (Local d) ∷ Load (Local (d + 1)) ∷ test_of_step step ∷ JumpIf true (n + 1) ∷ Label (n + 3) ∷ Stack d ∷ rest in
      let next = Load (Local d) ∷ Number (signed step) ∷ Dyadic two.Add ∷ Assign (Local d) ∷ Label n ∷ test in
      let body = code ++ (Label (n + 2) ∷ next) in
      let c2 = Store ∷ Jump n ∷ Label (n + 1) ∷ body in
      let c1 = vb ++ c2 in
      let k1 = joined_choice va vb (Store ∷ Jump n ∷ Label (n + 1) ∷ [])
      (Label (n + 2) ∷ Load (Local d) ∷ Number (signed step) ∷ Dyadic two.Add ∷ Assign (Local d) ∷ Label n ∷ Load (Local d) ∷ Load (Local (d + 1)) ∷ test_of_step step ∷ JumpIf true (n + 1) ∷ Label (n + 3) ∷ Stack d ∷ [])
      code rest c k in
      let fab = found_front sc.own sc.targets (parts d na ta ++ parts (d + 1) nb tb) _ f in
      let la = laid_code pay valofs sc p s i pushes a1 d na c c1 a.around h.0 r.0 (omega arith) (found_front sc.own sc.targets (parts d na ta) _ fab) k1 st in
      let lb = laid_code pay valofs sc pb sb (i + objects a1) pushes b1 (d + 1) nb c1 c2 (around_deeper sc p d 1 (d + 1) refl la.on.shallow a.around) h.1 r.1 (omega arith) (found_back sc.own sc.targets (parts d na ta) _ fab) refl la.on in
      let on1 = passed sc.own (d + 1 + 1) (d + 2) Store (Jump n ∷ Label (n + 1) ∷ body) lb.on (omega arith) in
      let on2 = passed sc.own (d + 2) (d + 2) (Jump n) (Label (n + 1) ∷ body) on1 refl in
      let on3 = passed sc.own (d + 2) (d + 2) (Label (n + 1)) body on2 refl in
      let deep = around_deeper sc p d 2 (d + 2) refl on3.shallow a.around in
      let doing : Doing within p1 (d + 2) = record {
        around = record { same = deep.same; at = deep.at; words = words_labels p.procedure (u0.number + 1) (labels_of a0) inside.bindings (words_variable p.procedure p.depth x.letters sc.bindings a.around.words) };
        loop = λ e. refl;
        switch = a.switch;
        valof = a.valof;
      } in
      let fb = found_back sc.own sc.targets (parts d na ta ++ parts (d + 1) nb tb) _ f in
      let done = laid_act pay valofs blocks within p1 s1 (i + objects a1 + objects b1) a0 (d + 2) nc body (Label (n + 2) ∷ next) doing h.3 r.3 (omega (arith, m)) fb refl on3 in
      let lc = alone_lies pay inside (i + objects a1 + objects b1) a0 (d + 2) nc kc body (Label (n + 2) ∷ next) (u0.number + 1) p.procedure a.around.same (let tx = in_light a0 in omega (arith, tx, m)) done in
      let mine : b.Variable p.procedure p.depth ≡ b.Variable sc.procedure d = ap₂ b.Variable a.around.same a.around.at in
      let i1 = i + objects a1 + objects b1 in
      let lv = subst (λ z. Lies (record (home sc pay) { bindings = bind x.letters z sc.bindings }) i1 (objects_of_command a0) (d + 2) body (Label (n + 2) ∷ next) (parts_in (d + 2) nc kc) fb (λ ns. of_command (in_scope a0 (with_names ns i1)) a0)
      (InNames (bind x.letters z sc.bindings) i1 (λ g env. IsAlone g (record (in_loop (n + 2) (n + 3) (d + 2) sc) { bindings = bind x.letters z sc.bindings }) (d + 2) env a0 (u0.number + 1) body (Label (n + 2) ∷ next)))) mine lc in
      let foreign_first : List Named → List Named = λ ns. record { name = x.letters; sense = foreign } ∷ ns in
      let bv = bases_under (home sc pay) (bind x.letters (b.Variable sc.procedure d) sc.bindings) foreign_first
      (λ g some o ns e w0. (agree_bound x.letters foreign (b.Variable sc.procedure d) ns sc.bindings refl refl e, (λ q bases frame grown. bound_named (there_in (home sc pay) q) (with_names ns 0) bases frame x.letters (b.Variable sc.procedure d) foreign tt (w0 q bases frame grown)))) lv.objects_are in
      let on8 = at_depth sc.own _ (d + 2) (Label n ∷ test) (omega arith) (all_passed sc.own (d + 2) (Label (n + 2) ∷ Load (Local d) ∷ Number (signed step) ∷ Dyadic two.Add ∷ Assign (Local d) ∷ []) (Label n ∷ test) lv.on) in
      let on13 = at_depth sc.own _ (d + 2) (Label (n + 3) ∷ Stack d ∷ rest) (ap (λ k. next_depth k (JumpIf true (n + 1))) (test_in (d + 2) (int_lt (signed step) (pos 0))) ∙ (let q : d + 2 + 1 - 1 ≡ d + 2 = omega arith in q))
      (all_passed sc.own (d + 2) (Label n ∷ Load (Local d) ∷ Load (Local (d + 1)) ∷ test_of_step step ∷ JumpIf true (n + 1) ∷ []) (Label (n + 3) ∷ Stack d ∷ rest) on8) in
      let on14 = passed sc.own (d + 2) (d + 2) (Label (n + 3)) (Stack d ∷ rest) on13 refl in
      record {
        at = λ y. rest;
        lies = lie (passed sc.own (d + 2) d (Stack d) rest on14 refl)
            (bases_so (home sc pay) _ (λ g z v ns u. let pays = z.pays in (
              n,
              n + 1,
              n + 2,
              n + 3,
              step,
              u0.number + 1,
              c1,
              body,
              test,
              v.0.0 ns u,
              v.0.1 ns u,
              (λ object above. v.1 (record { name = x.letters; sense = cell object 0 } ∷ ns) (agree_bound x.letters (cell object 0) (b.Variable sc.procedure d) ns sc.bindings refl (own_cell object 0 above) u)),
              refl,
              step_is ns sc.bindings i u h1 h.2,
              label_at g sc (d + 2) n test z.own on8,
              label_at g sc (d + 2) (n + 1) body z.own on2,
              label_at g sc (d + 2) (n + 2) next z.own lv.on,
              label_at g sc (d + 2) (n + 3) (Stack d ∷ rest) z.own on13,
              on1.shallow,
              (let tc = in_light a0 in omega (arith, pays, m, tc)),
              step_small sc.bindings a.around.words h1 r.2 h.2,
            )) (three_bases (home sc pay) i (objects a1) (objects b1) (objects_of_command a0) (parts d na ta) (parts (d + 1) nb tb) f _ _ _ la.objects_are lb.objects_are bv))
            (λ q. let u = la.paid q in let v = lb.paid q in let o = lv.paid q in let e0 = ap (data_at sc.own q) k1 in omega (arith, u, v, o, e0));
        finds = finds_nothing sc.own sc.targets sc.bindings d _;
      }
  laid_act pay valofs blocks sc p s i (t.switch l e a0) d n c rest a h r m f k st =
      let s1 : Spot = spot.following e s in
      let p1 : Enclosing = place.switching s1.number p in
      let s2 : Spot = spot.numbered 1 s1 in
      let te = term_named sc.bindings p s e in
      let inside : Scene = in_switch n d sc in
      let k0 = command_named sc.bindings p1 s2 a0 in
      let n0 = n + 1 + labels te in
      let code = command_code sc.targets inside.around d n0 k0 in
      let other = label_or n (default_in n0 k0) in
      let cs = cases n0 k0 in
      let c1 = code ++ (Label n ∷ rest) in
      let k1 = joined_three (value_code sc.targets d (n + 1) te) (Switch other cs ∷ code) (Label n ∷ []) rest c k in
      let le = laid_code pay valofs sc p s i pushes e d (n + 1) c (Switch other cs ∷ c1) a.around h.0 r.0 (omega arith) (found_front sc.own sc.targets (parts d (n + 1) te) _ f) k1 st in
      let done = laid_act pay valofs blocks inside p1 s2 (i + objects e) a0 d n0 c1 (Label n ∷ rest) (doing_switch sc p d n d s1.number a) h.1 r.1 (omega arith) (found_back sc.own sc.targets (parts d (n + 1) te) _ f) refl
      (passed sc.own (d + 1) d (Switch other cs) c1 le.on (omega arith)) in
      record {
        at = done.at;
        lies = lie (passed sc.own d d (Label n) rest done.lies.on refl)
            (bases_so (home sc pay) _ (λ g z x ns u. (
              n,
              other,
              cs,
              c1,
              x.0 ns u,
              x.1 ns u,
              label_at g sc d n rest z.own done.lies.on,
              (λ v e0. switch_chosen sc.own sc.targets sc.bindings d other _ _ _ done.at v done.finds (sym (stands_agree (the_case (Some v)) ns sc.bindings (i + objects e) u a0) ∙ e0)),
              (λ v e0 e1. switch_default sc.own sc.targets sc.bindings d n _ _ _ done.at v done.finds (sym (stands_agree (the_case (Some v)) ns sc.bindings (i + objects e) u a0) ∙ e0)
                  (sym (stands_agree the_default ns sc.bindings (i + objects e) u a0) ∙ e1)),
              (λ v e0 e1. switch_none sc.own sc.targets sc.bindings d n _ _ _ done.at v done.finds (sym (stands_agree (the_case (Some v)) ns sc.bindings (i + objects e) u a0) ∙ e0)
                  (sym (stands_agree the_default ns sc.bindings (i + objects e) u a0) ∙ e1)),
            )) (both_bases (home sc pay) i (objects e) (objects_of_command a0) (parts d (n + 1) te) f _ _ le.objects_are done.lies.objects_are))
            (λ q. let u = le.paid q in let w = done.lies.paid q in omega (arith, u, w));
        finds = record { labels = done.finds.labels; chosen = λ v more z e0. absurd (false≢true e0); others = λ v more z e0. refl; default = λ e0. absurd (false≢true e0); no_default = λ e0. refl };
      }
  laid_act pay valofs blocks sc p s i (t.result l e) d n c rest a h r m f k st =
      let te = term_named sc.bindings p (spot.past 1 s) e in
      let le = laid_code pay valofs sc p (spot.past 1 s) i pushes e d n c (GiveResult sc.around.valof ∷ rest) a.around h.1 r (omega arith) f (joined_two (value_code sc.targets d n te) (GiveResult sc.around.valof ∷ []) rest c k) st in
      let to = a.valof h.0 in
      record {
        at = λ y. rest;
        lies = lie (passed sc.own (d + 1) d (GiveResult sc.around.valof) rest le.on (omega arith)) (bases_so (home sc pay) _ (λ g z v ns u. (to.0, v ns u, to.1)) le.objects_are) (λ q. let u = le.paid q in omega (arith, u));
        finds = finds_nothing sc.own sc.targets sc.bindings d _;
      }
  laid_act pay valofs blocks sc p s i (t.simple l x) d n c rest a h r m f k st = simple_lies pay sc p s i l x d n c rest a h f k st
  laid_act pay valofs blocks sc p s i (t.block l t.no_declarations cs) d n c rest a h r m f k st =
      let none : n + 0 ≡ n = omega arith in
      let same_number : objects_of_commands cs ≡ 0 + objects_of_commands cs = omega arith in
      let ks = commands_named sc.bindings p s cs in
      let all = subst (λ x. (g : FoundParts sc.own sc.targets (parts_through d x ks)) → (at1 : Sought → List Stmt) × Lies (home sc pay) i (objects_of_commands cs) d c rest (parts_through d x ks) g (λ ns. of_commands (with_names ns i) cs)
      (InNames sc.bindings i (λ setting env. AreActs setting sc d env cs at1 c rest)) × FindsEach sc.own sc.targets sc.bindings d cs n ks at1) (sym none)
      (λ g. let o = laid_acts pay valofs blocks sc p s i cs d n c rest a h r.1 (omega arith) g k st in (o.at, o.lies, o.finds)) f in
      let fd = all.2 in
      record {
        at = all.0;
        lies = lie all.1.on (subst (λ y. Bases (home sc pay) i y (parts_through d (n + 0) ks) f (λ ns. of_commands (with_names ns i) cs) all.1.credit (InNames sc.bindings i (λ g env. AreActs g sc d env cs all.0 c rest))) same_number all.1.objects_are)
            (λ q. let u = all.1.paid q in omega (arith, u));
        finds = record { labels = fd.labels; chosen = fd.chosen; others = fd.others; default = fd.default; no_default = fd.no_default };
      }
  laid_act pay valofs blocks sc p s i (t.block l (t.declare x xs) cs) d n c rest a h r m f k st = blocks sc p s i l x xs cs d n c rest a h r m f k st
  laid_act pay valofs blocks sc p s i (t.repeat l a0) d n c rest a h r m f k st =
      let p1 : Enclosing = place.looping p in
      let inside : Scene = in_loop n (n + 1) d sc in
      let k0 = command_named sc.bindings p1 s a0 in
      let code = command_code sc.targets inside.around d (n + 2) k0 in
      let body = code ++ (Jump n ∷ Label (n + 1) ∷ rest) in
      let k1 : c ≡ Label n ∷ body = joined_two (Label n ∷ code) (Jump n ∷ Label (n + 1) ∷ []) rest c k in
      let s0 = written sc.own d c (Label n ∷ body) k1 st in
      let done = laid_act pay valofs blocks inside p1 s i a0 d (n + 2) body (Jump n ∷ Label (n + 1) ∷ rest) (doing_loop sc p d n (n + 1) d a) h r (omega arith) f refl (passed sc.own d d (Label n) body s0 refl) in
      let s3 = passed sc.own d d (Jump n) (Label (n + 1) ∷ rest) done.lies.on refl in
      let fd = done.finds in
      record {
        at = done.at;
        lies = lie (passed sc.own d d (Label (n + 1)) rest s3 refl)
            (bases_so (home sc pay) _ (λ g z x ns u. let pays = z.pays in (n, n + 1, body, k1, x ns u, label_at g sc d n body z.own s0, label_at g sc d (n + 1) rest z.own s3, (let ta = in_light a0 in omega (arith, pays, m, ta)))) done.lies.objects_are)
            (λ q. let w = done.lies.paid q in let e0 = ap (data_at sc.own q) k1 in omega (arith, w, e0));
        finds = record { labels = fd.labels; chosen = fd.chosen; others = fd.others; default = fd.default; no_default = fd.no_default };
      }
  laid_act pay valofs blocks sc p s i (t.repeat_while l v a0 e) d n c rest a h r m f k st =
      let p1 : Enclosing = place.looping p in
      let inside : Scene = in_loop (n + 1) (n + 2) d sc in
      let k0 = command_named sc.bindings p1 s a0 in
      let s1 : Spot = spot.after_done a0 s in
      let ce = condition_named sc.bindings p s1 e in
      let ne = n + 3 + labels_in k0 in
      let code = command_code sc.targets inside.around d (n + 3) k0 in
      let je = jump_code sc.targets d ne ce v n in
      let test = je ++ (Label (n + 2) ∷ rest) in
      let body = code ++ (Label (n + 1) ∷ test) in
      let k1 : c ≡ Label n ∷ body = joined_three (Label n ∷ code) (Label (n + 1) ∷ je) (Label (n + 2) ∷ []) rest c k in
      let s0 = written sc.own d c (Label n ∷ body) k1 st in
      let done = laid_act pay valofs blocks inside p1 s i a0 d (n + 3) body (Label (n + 1) ∷ test) (doing_loop sc p d (n + 1) (n + 2) d a) h.0 r.0 (omega arith) (found_front sc.own sc.targets (parts_in d (n + 3) k0) _ f) refl
      (passed sc.own d d (Label n) body s0 refl) in
      let le = laid_code pay valofs sc p s1 (i + objects_of_command a0) (jumps v n) e d ne test (Label (n + 2) ∷ rest) a.around h.1 r.1 (omega arith) (found_back sc.own sc.targets (parts_in d (n + 3) k0) _ f) refl
      (passed sc.own d d (Label (n + 1)) test done.lies.on refl) in
      let fd = done.finds in
      record {
        at = done.at;
        lies = lie (passed sc.own d d (Label (n + 2)) rest le.on refl)
            (bases_so (home sc pay) _ (λ g z x ns u. let pays = z.pays in (
              n,
              n + 1,
              n + 2,
              body,
              test,
              k1,
              x.0 ns u,
              x.1 ns u,
              label_at g sc d n body z.own s0,
              label_at g sc d (n + 1) test z.own done.lies.on,
              label_at g sc d (n + 2) rest z.own le.on,
              (let te = of_light e in let ta = in_light a0 in omega (arith, pays, m, te, ta)),
            )) (both_bases (home sc pay) i (objects_of_command a0) (objects e) (parts_in d (n + 3) k0) f _ _ done.lies.objects_are le.objects_are))
            (λ q. let u = le.paid q in let w = done.lies.paid q in let e0 = ap (data_at sc.own q) k1 in omega (arith, u, w, e0));
        finds = record { labels = fd.labels; chosen = fd.chosen; others = fd.others; default = fd.default; no_default = fd.no_default };
      }

  pub laid_acts : (pay : ℕ) (valofs : ValofsLie pay) (blocks : BlocksLie pay) (sc : Scene) (p : Enclosing) (s : Spot) (i : ℕ) (cs : Commands) (d n : ℕ) (c rest : List Stmt) → Doing sc p d → SoundDoneEach sc.bindings p s cs → RegularCommands cs → turns_through true cs ≤ pay
      → (f : FoundParts sc.own sc.targets (parts_through d n (commands_named sc.bindings p s cs))) → c ≡ through_code sc.targets sc.around d n (commands_named sc.bindings p s cs) ++ rest → IsNumbered sc.own d c
      → DoneEach pay sc i cs d n (commands_named sc.bindings p s cs) c rest f
  laid_acts pay valofs blocks sc p s i t.no_commands d n c rest a h r m f k st = record {
    at = λ y. rest;
    lies = lie (written sc.own d c rest k st) (no_bases (home sc pay) i _ (λ g y ns u. k)) (λ q. let e0 = ap (data_at sc.own q) k in omega (arith, e0));
    finds = record { labels = λ x e0. absurd (false≢true e0); chosen = λ v more z e0. absurd (false≢true e0); others = λ v more z e0. refl; default = λ e0. absurd (false≢true e0); no_default = λ e0. refl };
  }
  laid_acts pay valofs blocks sc p s i (t.also x cs) d n c rest a h r m f k st =
      let k0 = command_named sc.bindings p s x in
      let s1 : Spot = spot.after_done x s in
      let ks = commands_named sc.bindings p s1 cs in
      let code = command_code sc.targets sc.around d n k0 in
      let codes = through_code sc.targets sc.around d (n + labels_in k0) ks in
      let c1 = codes ++ rest in
      let dx = laid_act pay valofs blocks sc p s i x d n c c1 a h.0 r.0 (omega arith) (found_front sc.own sc.targets (parts_in d n k0) _ f) (joined_two code codes rest c k) st in
      let ds = laid_acts pay valofs blocks sc p s1 (i + objects_of_command x) cs d (n + labels_in k0) c1 rest a h.1 r.1 (omega arith) (found_back sc.own sc.targets (parts_in d n k0) _ f) refl dx.lies.on in
      record {
        at = λ z. cond (has_place z (known sc.bindings) x) (dx.at z) (ds.at z);
        lies = lie ds.lies.on
            (bases_so (home sc pay) _ (λ g z v ns u. (c1, dx.at, ds.at, v.0 ns u, v.1 ns u, (λ w0. ap (λ q0. cond q0 (dx.at w0) (ds.at w0)) (sym (stands_agree w0 ns sc.bindings i u x)))))
            (both_bases (home sc pay) i (objects_of_command x) (objects_of_commands cs) (parts_in d n k0) f _ _ dx.lies.objects_are ds.lies.objects_are))
            (λ q. let u = dx.lies.paid q in let w = ds.lies.paid q in omega (arith, u, w));
        finds = finds_both sc.own sc.targets sc.bindings d _ _ _ _ _ _ dx.at ds.at dx.finds ds.finds;
      }

-- ---- A VALOF is laid where the scheme puts it, where lighter forms are.

-- a VALOF, whose body weighs less
pub valof_lies : (pay : ℕ) (valofs : ValofsLie pay) (blocks : BlocksLie pay) (sc : Scene) (p : Enclosing) (s : Spot) (i : ℕ) (aim : Aim) (l : ℕ) (x : Command) (d n : ℕ) (c rest : List Stmt) → Around sc p d
    → Sound (role aim) sc.bindings p s (t.valof l x) → Regular (t.valof l x) → turns_of true (t.valof l x) ≤ suc pay
    → CodeLies pay sc p s i aim (t.valof l x) d n c rest
valof_lies pay valofs blocks sc p s i aim l x d n c rest a h r m f k st =
    plain_laid pay sc p s i d n aim (t.valof l x) (objects_of_command x) c rest _ refl (λ f1 k1.
    let s1 : Spot = spot.onward 1 (1 + length (labels_of x)) s in
    let p1 : Enclosing = place.labelled s.number (place.valued p) in
    let inside : Scene = in_valof n sc in
    let body : Scene = record inside { bindings = labels_in_scope p.procedure (s.number + 1) (labels_of x) sc.bindings } in
    let kx = command_named body.bindings p1 s1 x in
    let code = command_code sc.targets (valued n) d (n + 1) kx in
    let tail = TakeResult d ∷ ending aim rest in
    let k2 = joined_two code (Label n ∷ TakeResult d ∷ []) (ending aim rest) c k1 in
    let found = label_ahead sc.own d n c code tail st k2 in
    let doing : Doing body p1 d = record {
      around = record { same = a.same; at = a.at; words = words_labels p.procedure (s.number + 1) (labels_of x) sc.bindings a.words };
      loop = λ e. absurd (false≢true e);
      switch = λ e. absurd (false≢true e);
      valof = λ e. (Label n ∷ tail, found);
    } in
    let done = laid_act pay valofs blocks body p1 s1 i x d (n + 1) c (Label n ∷ tail) doing h r (omega (arith, m)) f1 k2 st in
    let lx = alone_lies pay inside i x d (n + 1) kx c (Label n ∷ tail) (s.number + 1) p.procedure a.same (let tx = in_light x in omega (arith, tx, m)) done in
    lie (passed sc.own d (d + 1) (TakeResult d) (ending aim rest) (passed sc.own d d (Label n) tail lx.on refl) refl)
    (bases_so (home sc pay) _ (λ g z v ns u. (n, s.number + 1, v ns u, label_at g sc d n tail z.own lx.on)) lx.objects_are) (λ q. let u = lx.paid q in omega (arith, u))) f k

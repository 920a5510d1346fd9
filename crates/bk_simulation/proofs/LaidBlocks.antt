-- Blocks with declarations are laid where the scheme puts them, and so each form is.
use Rattle.bk_tree.specs.Tree as t
use Rattle.bk_scope.specs.Places as place
use Rattle.bk_scope.specs.Spots as spot
use Rattle.bk_simulation.proofs.LaidAssigned.{Doing, finds_nothing, DoneEach, words_labels, agree_labels, names_bound, turns_in, through_light, turns_through, with_names, label_stands_one, labels_named, Setting, Scene, owning, AreActs, LeadsTo, IsScope, Agree, there_in, passed, home, FoundParts, found_front, found_back, data_within, within_at, Bases, bases_under, bases_of, bases_so, bases_paid, Lies, lie, bases_within, data_at, known, InNames, joined_three, ValofsLie, all_declared-next, Part, false, ◌≡◌, ℕ, zero, suc, ◌+◌, ◌≤◌, true, List, [], ◌∷◌, ◌++◌, length, refl, sym, ap, ◌∙◌, subst, arith, Commands, Declaration, Declarations, Enclosing, labels_of_each, Binding, labels_in_scope, scope_after, place_after_all, SoundDone, Spot, after_declared, Stmt, Stack, NamedCommands, after_declarations, labels_of_declarations, commands_named, declarations_named, parts_of_declarations, through_code, declarations_code, Named, label, bind_each, labelled, objects_of_commands, objects_of_declarations, Sought, the_label, one_has_place, Lasting, of_command, of_commands, of_declarations, all_declared, parts_through, RegularCommand}
use Rattle.bk_simulation.proofs.LaidActs.{BlocksLie, laid_acts, valof_lies, ActLies}
use Rattle.bk_simulation.proofs.LaidDeclarations.{Later, declared_behind, declared_bases}

-- the commands of a scope
scope_bases : (pay : ℕ) (sc : Scene) (i : ℕ) (cs : Commands) (d n : ℕ) (k : NamedCommands) (c rest : List Stmt) (j q : ℕ) {f : FoundParts sc.own sc.targets (parts_through d n k)} {C : ℕ → ℕ} → q ≡ sc.procedure → turns_through false cs ≤ pay
    → DoneEach pay (record sc { bindings = labels_in_scope q j (labels_of_each cs) sc.bindings }) i cs d n k c rest f → ((a : ℕ) → data_at sc.own a c ≤ C a + data_at sc.own a rest)
    → Bases (home sc pay) i (objects_of_commands cs) (parts_through d n k) f (λ ns. of_commands (labelled cs (with_names ns i)) cs) C (InNames sc.bindings i (λ g env. IsScope g sc d env cs j c rest))
scope_bases pay sc i cs d n k c rest j q {f} {C} same size done less =
    let done1 = subst (λ x. DoneEach pay (record sc { bindings = labels_in_scope x j (labels_of_each cs) sc.bindings }) i cs d n k c rest f) same done in
    let xs = labels_of_each cs in
    let within = owning j cs sc in
    let h = home sc pay in
    let inside = bases_under h within.bindings (λ ns. (bind_each xs label (with_names ns 0)).names)
    (λ g some w ns u v. ((agree_labels sc.procedure j xs ns sc.bindings 0 u).0, (λ k bases frame grown. record { each = (labels_named xs (there_in h sc.procedure) (with_names ns 0) bases frame j (v sc.procedure bases frame grown)).each }))) done1.lies.objects_are in
    let said = bases_of h _ (λ ns. of_commands (labelled cs (with_names ns i)) cs) (λ ns. ap (λ e. of_commands e cs) (sym (names_bound xs label ns i))) inside in
    bases_within h (λ v. let u = done1.lies.paid v in let w = less v in omega (arith, u, w)) (bases_so h _ (λ g fit v ns u.
    let env = with_names ns i in
    let inner = labelled cs env in
    let agrees = agree_labels sc.procedure j xs ns sc.bindings i u in
    let pays = fit.pays in (
      done1.at,
      (
        subst (λ y. AreActs g within d (with_names inner.names y) cs done1.at c rest) (sym agrees.1) (v inner.names agrees.0),
        omega (arith, pays, size),
        (λ x e. done1.finds.labels x (label_stands_one x (known within.bindings) env cs ∙ e)),
      ),
    )) said)

-- what is laid behind the declarations of a block
abbrev InBlock : ℕ → Commands → List Stmt → Later
InBlock d cs rest g sc1 d1 env1 c1 =
    (j : ℕ) × (at1 : Sought → List Stmt) × AreActs g (owning j cs sc1) d1 (labelled cs env1) cs at1 c1 (Stack d ∷ rest) × (turns_through false cs ≤ g.pay)
    × ((x : List ℕ) → one_has_place (the_label x) env1 cs ≡ true → LeadsTo (owning j cs sc1) d1 x (at1 (the_label x)))

block_lies : (pay : ℕ) (valofs : ValofsLie pay) (blocks : BlocksLie pay) (sc : Scene) (p : Enclosing) (s : Spot) (i l : ℕ) (x : Declaration) (xs : Declarations) (cs : Commands) (d n : ℕ) (c rest : List Stmt) → Doing sc p d
    → SoundDone sc.bindings p s (t.block l (t.declare x xs) cs) → RegularCommand (t.block l (t.declare x xs) cs) → turns_in true (t.block l (t.declare x xs) cs) ≤ suc pay
    → ActLies pay sc p s i (t.block l (t.declare x xs) cs) d n c rest
block_lies pay valofs blocks sc p s i l x xs cs d n c rest a h r m f k st =
    let hs : Declarations = t.declare x xs in
    let named = declarations_named sc.bindings p s hs in
    let u : Spot = after_declared hs s in
    let bs : List Binding = scope_after sc.bindings p s hs in
    let p1 : Enclosing = place_after_all sc.bindings p s hs in
    let d1 : ℕ = after_declarations d named in
    let n1 : ℕ = n + labels_of_declarations named in
    let i1 : ℕ = i + objects_of_declarations hs in
    let sc1 : Scene = record sc { bindings = bs } in
    let within : Scene = record sc { bindings = labels_in_scope p.procedure (u.number + 1) (labels_of_each cs) bs } in
    let p2 : Enclosing = place.labelled u.number p1 in
    let s2 : Spot = spot.numbered (1 + length (labels_of_each cs)) u in
    let ks = commands_named within.bindings p2 s2 cs in
    let first = declarations_code sc.targets d n named in
    let code = through_code sc.targets sc.around d1 n1 ks in
    let c1 = code ++ (Stack d ∷ rest) in
    let k1 = joined_three first code (Stack d ∷ []) rest c k in
    let parts_first = found_front sc.own sc.targets (parts_of_declarations d n named) _ f in
    let following = declared_behind pay valofs blocks sc p s hs d n c c1 a h.0 r.0 (omega (arith, m)) parts_first k1 st in
    let doing1 : Doing sc1 p1 d1 = following.1 in
    let doing : Doing within p2 d1 = record {
      around = record { same = doing1.around.same; at = doing1.around.at; words = words_labels p.procedure (u.number + 1) (labels_of_each cs) bs doing1.around.words };
      loop = doing1.loop;
      switch = doing1.switch;
      valof = doing1.valof;
    } in
    let done : (g : FoundParts sc.own sc.targets (parts_through d1 n1 ks)) → DoneEach pay within i1 cs d1 n1 ks c1 (Stack d ∷ rest) g = λ g. laid_acts pay valofs blocks within p2 s2 i1 cs d1 n1 c1 (Stack d ∷ rest) doing h.1 r.1 (omega (arith, m)) g refl following.0 in
    let light = through_light cs in
    let D : ℕ → ℕ = λ q. data_within sc.own q code (Stack d ∷ rest) in
    let E : ℕ → ℕ = λ q. data_within sc.own q first c1 + D q in
    let later : (g : FoundParts sc.own sc.targets (parts_through d1 n1 ks)) → Bases (home sc1 pay) i1 (objects_of_commands cs) (parts_through d1 n1 ks) g (λ ns. of_commands (labelled cs (with_names ns i1)) cs) D (λ g. (ns : List Named) → Agree ns bs → InBlock d cs rest g sc1 d1 (with_names ns i1) c1) = λ g.
    let scope = scope_bases pay sc1 i1 cs d1 n1 ks c1 (Stack d ∷ rest) (u.number + 1) p.procedure {C = D} a.around.same (omega (arith, m, light)) (done g) (λ q. let w = within_at sc.own q code (Stack d ∷ rest) in omega (arith, w)) in
    bases_so (home sc1 pay) _ (λ g y v ns w. let z = v ns w in (u.number + 1, z.0, z.1.0, z.1.1, z.1.2)) scope in
    let whole = declared_bases pay valofs blocks sc p s i hs d n (objects_of_commands cs) c c1 E (λ ns. of_commands (labelled cs (with_names ns i1)) cs) (InBlock d cs rest) a h.0 r.0 (omega (arith, m)) f k1 st
    (λ q. let w = within_at sc.own q first c1 in let e = ap (data_at sc.own q) k1 in omega (arith, w, e)) later in
    let said = bases_of (home sc pay) _ (λ ns. of_command (with_names ns i) (t.block l hs cs))
    (λ ns. ap (λ z. of_declarations (with_names ns i) hs ++ of_commands (labelled cs (with_names (all_declared hs (with_names ns i)).names z)) cs) (sym (all_declared-next hs (with_names ns i)))) whole in
    record {
      at = λ y. rest;
      lies = lie (passed sc.own d1 d (Stack d) rest (done (found_back sc.own sc.targets (parts_of_declarations d n named) _ f)).lies.on refl) (bases_so (home sc pay) _ (λ g y v ns w. v ns w) said)
          (λ q. let w = within_at sc.own q first c1 in let o = within_at sc.own q code (Stack d ∷ rest) in
          let e = ap (data_at sc.own q) k1 in omega (arith, w, o, e));
      finds = finds_nothing sc.own sc.targets sc.bindings d _;
    }

-- where a step pays for more
lies_paid : (pay more : ℕ) (sc : Scene) {i many d : ℕ} {c rest : List Stmt} {ps : List Part} {f : FoundParts sc.own sc.targets ps} {L : List Named → List Lasting} {P : Setting → Type 0} → pay ≤ more → Lies (home sc pay) i many d c rest ps f L P → Lies (home sc more) i many d c rest ps f L P
lies_paid pay more sc low a = lie a.on (bases_paid (home sc pay) more low a.objects_are) a.paid

-- VALOFS AND BLOCKS WITH DECLARATIONS ARE LAID: what stands in them weighs less.
mutual
  pub valofs_lie : (pay : ℕ) → ValofsLie pay
  valofs_lie zero sc p s i aim l x d n c rest a h r m f k st = absurd (omega (arith, m))
  valofs_lie (suc pay) sc p s i aim l x d n c rest a h r m f k st = lies_paid pay (suc pay) sc (omega arith) (valof_lies pay (valofs_lie pay) (blocks_lie pay) sc p s i aim l x d n c rest a h r m f k st)

  pub blocks_lie : (pay : ℕ) → BlocksLie pay
  blocks_lie zero sc p s i l x xs cs d n c rest a h r m f k st = absurd (omega (arith, m))
  blocks_lie (suc pay) sc p s i l x xs cs d n c rest a h r m f k st =
      let o = block_lies pay (valofs_lie pay) (blocks_lie pay) sc p s i l x xs cs d n c rest a h r m f k st in
      record { at = o.at; lies = lies_paid pay (suc pay) sc (omega arith) o.lies; finds = o.finds }

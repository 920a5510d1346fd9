-- What MANIFEST, STATIC and GLOBAL bring into scope: names that agree, labels that stay, and words that stand where the names say. What a LET brings into
-- scope: its procedures, and behind it its variables; names that agree, labels that stay, and words that stand where the names say.
use Rattle.bk_simulation.proofs.Words.{◌≡◌, ℕ, suc, ◌+◌, ◌<◌, ◌≤◌, ◌^◌, Bool, true, false, List, [], ◌∷◌, Option, Some, None, cond, refl, sym, ap, ◌∙◌, subst, arith, bytes_eq, bytes_eq-Decides, GLOBAL_NUMBER, Mention, Expression, Items, Definitions, Starts, Bound, Binding, bound_in, bind, named_word, constant_word, within, manifests_in_scope, statics_in_scope, globals_in_scope, ManifestsSound, GlobalsSound, Placed, Target, goal_of, variable, Named, Environment, Sense, cell, foreign, sense_in, word_named, constant_in, global_named, bind_procedure_as, bind_procedures, objects, objects_of_command, objects_of_starts, sense_of_constant, sense_of_global, letters, manifests, statics, ◌-◌, ◌++◌, length, FRAME_WORDS, VEC_NUMBER, bind_all, is_global, Enclosing, deeper, Spot as ScopeSpot, words_of_start, variables_of, place_after, place_after_defined, variables_in_scope, procedure_in_scope, procedures_in_scope, HasWordUpTo, SoundStarted, SoundDefined, after_starts, after_definitions, worth, starts_named, definitions_named, variables_hidden, bind_each, le-ltb, RegularItems, starts, RegularDefinitions}
use Rattle.bk_simulation.proofs.Forms.{Each, BaseOf, Grown, with_names, Setting, Scene, IsLabelHere, NamedIn, KeepsLabels, Spot, spots_of, variables_bound, AreAt, RenamesVariables, bound_named, Agree, AgreeWords, SameGlobal, own_cell, agree_bound, HasWords, constants_agree, constant_small, words_constant, words_bound, NameAt}
use Rattle.bk_tree.specs.Tree as t
use Rattle.bk_scope.specs.declared.bound.Bound.TheVariants as b
use Rattle.bk_meaning.specs.Environment as m
use Rattle.bk_scope.specs.Spots as scope_spot

-- ---- one name more

pub itself : (x : List ℕ) (y : Bound) (bs : List Binding) → bound_in (bind x y bs) x ≡ Some y
itself x y bs = ap (λ (q : Bool). cond q (Some y) (bound_in bs x)) ((bytes_eq-Decides x x).1 refl)

pub keeps_bound : (x : List ℕ) (y : Bound) (bs : List Binding) → (IsLabelHere (Some y) → ⊥) → KeepsLabels bs (bind x y bs)
keeps_bound x y bs f z = picked (bytes_eq x z)
  where
    picked : (q : Bool) → IsLabelHere (cond q (Some y) (bound_in bs z)) → cond q (Some y) (bound_in bs z) ≡ bound_in bs z
    picked true h = absurd (f h)
    picked false h = refl

pub keeps_same : (bs : List Binding) → KeepsLabels bs bs
keeps_same bs z h = refl

pub keeps_both : (a c d : List Binding) → KeepsLabels a c → KeepsLabels c d → KeepsLabels a d
keeps_both a c d f g z h = let e = g z h in e ∙ f z (subst (λ y. IsLabelHere y) e h)

-- names that mean what they should
abbrev pub MeanThere : Setting → Scene → Environment → List Binding → Environment → Type 0
MeanThere setting sc env bs env1 = (bases : List ℕ) (frame : ℕ) → Grown setting.lasting bases → NamedIn sc env bases frame → NamedIn (record sc { bindings = bs }) env1 bases frame

-- What stands behind declarations: names that agree, labels that stay, and, where this holds, names that mean what they should.
pub record Following (setting : Setting) (sc : Scene) (ns : List Named) (i : ℕ) (P : Type 0) (bs : List Binding) (env : Environment) : Type 0 where
  pub agree : Agree env.names bs
  pub keeps : KeepsLabels sc.bindings bs
  pub means : P → MeanThere setting sc (with_names ns i) bs env

none_behind : {setting : Setting} {sc : Scene} {ns : List Named} {i : ℕ} {P : Type 0} → Agree ns sc.bindings → Following setting sc ns i P sc.bindings (with_names ns i)
none_behind {sc = sc} a = record { agree = a; keeps = keeps_same sc.bindings; means = λ u bases frame grown n. n }

-- the number of the next object does not matter
more_behind : {setting : Setting} {sc : Scene} {ns : List Named} {i j : ℕ} {P Q : Type 0} {bs : List Binding} {env : Environment} → (P → Q) → Following setting sc ns j Q bs env → Following setting sc ns i P bs env
more_behind go a = record { agree = a.agree; keeps = a.keeps; means = λ u bases frame grown n. a.means (go u) bases frame grown (record { each = n.each }) }

-- one name, which is no label, and what stands behind it
one_behind : {setting : Setting} {sc : Scene} {ns : List Named} {i j : ℕ} {P Q : Type 0} {bs : List Binding} {env : Environment} (x : List ℕ) (y : Bound) (s : Sense) → (IsLabelHere (Some y) → ⊥) → (P → Q)
    → ((bases : List ℕ) (frame : ℕ) → Grown setting.lasting bases → P → NameAt (record sc { bindings = bind x y sc.bindings }) bases frame x (Some s))
    → Following setting (record sc { bindings = bind x y sc.bindings }) (record { name = x; sense = s } ∷ ns) j Q bs env → Following setting sc ns i P bs env
one_behind {sc = sc} {ns} {i} {bs = bs} x y s f go at more = record {
  agree = more.agree;
  keeps = keeps_both sc.bindings (bind x y sc.bindings) bs (keeps_bound x y sc.bindings f) more.keeps;
  means = λ u bases frame grown n. more.means (go u) bases frame grown (record { each = (bound_named sc (with_names ns i) bases frame x y s (at bases frame grown u) n).each });
}

-- ---- MANIFEST

constant_agrees : (u v : Option ℕ) → u ≡ v → word_named (Some (sense_of_constant u)) ≡ named_word (Some (b.Constant v))
constant_agrees None v e = e
constant_agrees (Some w) v e = e

no_constant_global : (u v : Option ℕ) → SameGlobal (Some (sense_of_constant u)) (Some (b.Constant v))
no_constant_global None v = refl
no_constant_global (Some w) v = refl

bound_constant : (y : Option Bound) (u : Option ℕ) (sc : Scene) (bases : List ℕ) (frame : ℕ) (x : List ℕ) (w : ℕ) → bound_in sc.bindings x ≡ Some (b.Constant (Some w)) → w < 2 ^ 32 → u ≡ Some w
    → NameAt sc bases frame x (Some (sense_of_constant u))
bound_constant y u sc bases frame x w e h k = subst (λ z. NameAt sc bases frame x (Some (sense_of_constant z))) (sym k) (e, h)

pub renames_manifests : (is : Items) (setting : Setting) (sc : Scene) (ns : List Named) (i : ℕ) → HasWords sc.bindings → Agree ns sc.bindings → RegularItems is → ManifestsSound sc.bindings is
    → Following setting sc ns i (Unit {0}) (manifests_in_scope sc.bindings is) (manifests is (with_names ns i))
renames_manifests t.no_items setting sc ns i h a r k = none_behind a
renames_manifests (t.item l x e is) setting sc ns i h a r k =
    let bs : List Binding = sc.bindings in
    let y : Bound = b.Constant (constant_word bs e) in
    let u : Option ℕ = constant_in (with_names ns i) e in
    let same = constants_agree ns bs i a.0 e in
    let is_word = k.0.1 in
    let a1 = agree_bound x (sense_of_constant u) y ns bs (constant_agrees u (constant_word bs e) same) (no_constant_global u (constant_word bs e)) a in
    one_behind x y (sense_of_constant u) (λ z. z) (λ v. v)
    (λ bases frame grown v. bound_constant (Some y) u (record sc { bindings = bind x y bs }) bases frame x k.0.0 (itself x y bs ∙ ap (λ z. Some (b.Constant z)) is_word) (constant_small bs h e r.0 k.0.0 is_word) (same ∙ is_word))
    (renames_manifests is setting (record sc { bindings = bind x y bs }) (record { name = x; sense = sense_of_constant u } ∷ ns) i (words_constant x e bs h r.0) a1 r.1 k.1)

-- ---- STATIC

-- the places of their words, with numbers from n on
abbrev pub static_places : Placed → List Target → ℕ → Items → List ℕ
static_places own ts n t.no_items = []
static_places own ts n (t.item l x e is) = own.places.label ((goal_of ts n).label) ∷ static_places own ts (n + 1) is

-- these are the bases of the objects with numbers from i on
abbrev pub AreBases : List ℕ → ℕ → List ℕ → Type 0
AreBases all i xs = Each (BaseOf all) i xs

pub static_at : (setting : Setting) (sc : Scene) (bases : List ℕ) (frame : ℕ) (x : List ℕ) (i n : ℕ) → Grown setting.lasting bases → BaseOf setting.lasting i (sc.own.places.label ((goal_of sc.targets n).label)) → bound_in sc.bindings x ≡ Some (b.Static n)
    → NameAt sc bases frame x (Some (cell i 0))
static_at setting sc bases frame x i n grown base e = grind arith

pub renames_statics : (is : Items) (setting : Setting) (sc : Scene) (ns : List Named) (i n : ℕ) → 0 < i → Agree ns sc.bindings
    → Following setting sc ns i (AreBases setting.lasting i (static_places sc.own sc.targets n is)) (statics_in_scope n is sc.bindings) (statics is (with_names ns i))
renames_statics t.no_items setting sc ns i n some a = none_behind a
renames_statics (t.item l x e is) setting sc ns i n some a =
    let bs : List Binding = sc.bindings in
    let y : Bound = b.Static n in
    let one : i + 1 ≡ suc i = omega arith in
    let sc1 : Scene = record sc { bindings = bind x y bs } in
    one_behind x y (cell i 0) (λ z. z) (λ u. subst (λ z. AreBases setting.lasting z (static_places sc.own sc.targets (n + 1) is)) (sym one) u.1)
    (λ bases frame grown u. static_at setting sc1 bases frame x i n grown u.0 (itself x y bs))
    (renames_statics is setting sc1 (record { name = x; sense = cell i 0 } ∷ ns) (i + 1) (n + 1) (omega (arith, some)) (agree_bound x (cell i 0) y ns bs refl (own_cell i 0 some) a))

-- ---- GLOBAL

within_most : (w : ℕ) → w ≤ GLOBAL_NUMBER → within GLOBAL_NUMBER (Some w) ≡ Some w
within_most w h = ap (λ (q : Bool). cond q None (Some w)) (le-ltb GLOBAL_NUMBER w h)

global_at : (setting : Setting) (sc : Scene) (bases : List ℕ) (frame : ℕ) (x : List ℕ) (w : ℕ) → Grown setting.lasting bases → BaseOf setting.lasting 0 16 → w ≤ GLOBAL_NUMBER → bound_in sc.bindings x ≡ Some (b.Global (Some w)) → NameAt sc bases frame x (Some (cell 0 w))
global_at setting sc bases frame x w grown base low e = grind (arith, variable)

pub renames_globals : (is : Items) (setting : Setting) (sc : Scene) (outer : List Named) (os : List Binding) (ns : List Named) (i : ℕ) → AgreeWords outer os → Agree ns sc.bindings → GlobalsSound os is
    → Following setting sc ns i (BaseOf setting.lasting 0 16) (globals_in_scope os is sc.bindings) (m.globals (with_names outer i) is (with_names ns i))
renames_globals t.no_items setting sc outer os ns i ao a k = none_behind a
renames_globals (t.item l x e is) setting sc outer os ns i ao a k =
    let bs : List Binding = sc.bindings in
    let w : ℕ = k.0.0 in
    let y : Bound = b.Global (Some w) in
    let s : Sense = cell 0 w in
    let y_is : b.Global (within GLOBAL_NUMBER (constant_word os e)) ≡ y = ap (λ z. b.Global (within GLOBAL_NUMBER z)) k.0.1 ∙ ap b.Global (within_most w k.0.2) in
    let s_is : sense_of_global (constant_in (with_names outer i) e) ≡ s = ap sense_of_global (constants_agree outer os i ao e ∙ k.0.1) in
    let sc1 : Scene = record sc { bindings = bind x y bs } in
    let more = renames_globals is setting sc1 outer os (record { name = x; sense = s } ∷ ns) i ao (agree_bound x s y ns bs refl refl a) k.1 in
    let whole = one_behind {i = i} x y s (λ z. z) (λ u. u) (λ bases frame grown u. global_at setting sc1 bases frame x w grown u k.0.2 (itself x y bs)) more in
    subst (λ z. Following setting sc ns i (BaseOf setting.lasting 0 16) (globals_in_scope os is (bind x (b.Global (within GLOBAL_NUMBER (constant_word os e))) bs)) (m.globals (with_names outer i) is (m.bind x z (with_names ns i)))) (sym s_is)
    (subst (λ z. Following setting sc ns i (BaseOf setting.lasting 0 16) (globals_in_scope os is (bind x z bs)) (m.globals (with_names outer i) is (m.bind x s (with_names ns i)))) (sym y_is) whole)

-- ---- the procedures of a LET

-- their words: a procedure whose name means a global has none
abbrev pub AreProcedures : List ℕ → Placed → List Target → List Binding → ℕ → ℕ → Definitions → Type 0
AreProcedures all own ts bs i n t.no_definitions = Unit {0}
AreProcedures all own ts bs i n (t.define (t.routine l x fs c) ds) =
    (is_global (bound_in bs x) ≡ false → BaseOf all i (own.places.label ((goal_of ts n).label))) × AreProcedures all own ts (procedure_in_scope n x bs) (i + (1 + objects_of_command c)) (n + 1) ds
AreProcedures all own ts bs i n (t.define (t.function l x fs e) ds) =
    (is_global (bound_in bs x) ≡ false → BaseOf all i (own.places.label ((goal_of ts n).label))) × AreProcedures all own ts (procedure_in_scope n x bs) (i + (1 + objects e)) (n + 1) ds
AreProcedures all own ts bs i n (t.define (t.variables l xs is) ds) = AreProcedures all own ts bs (i + objects_of_starts is) n ds

global_here : (s : Option Sense) (y : Option Bound) → SameGlobal s y → is_global y ≡ true → global_named s ≡ None → ⊥
global_here s (Some (b.Global None)) h e k = h
global_here s _ h e k = absurd (cc)

global_there : (s : Option Sense) (y : Option Bound) (v : ℕ) → SameGlobal s y → is_global y ≡ false → global_named s ≡ Some v → ⊥
global_there s (Some (b.Global v)) w h e k = absurd (cc)
global_there s _ w h e k = absurd (cc)

-- what stands behind procedures, with these in scope and these names in the run
abbrev BehindProcedures : Setting → Scene → List Named → ℕ → ℕ → Definitions → Type 0 → List Binding → Environment → Type 0
BehindProcedures setting sc ns i n ds P bs env = Following setting sc ns i P (procedures_in_scope n ds bs) (bind_procedures ds env)

-- one procedure, and those behind it
one_procedure : (setting : Setting) (sc : Scene) (ns : List Named) (i n k : ℕ) (ds : Definitions) (x : List ℕ) (u : Option ℕ) (q : Bool) → global_named (sense_in ns x) ≡ u → is_global (bound_in sc.bindings x) ≡ q → 0 < i → Agree ns sc.bindings
    → ((sc1 : Scene) (ns1 : List Named) → Agree ns1 sc1.bindings → BehindProcedures setting sc1 ns1 (i + k) (n + 1) ds (AreProcedures setting.lasting sc1.own sc1.targets sc1.bindings (i + k) (n + 1) ds) sc1.bindings (with_names ns1 (i + k)))
    → BehindProcedures setting sc ns i (n + 1) ds
    ((q ≡ false → BaseOf setting.lasting i (sc.own.places.label ((goal_of sc.targets n).label))) × AreProcedures setting.lasting sc.own sc.targets (cond q sc.bindings (bind x (b.Static n) sc.bindings)) (i + k) (n + 1) ds)
    (cond q sc.bindings (bind x (b.Static n) sc.bindings)) (m.following k (bind_procedure_as u x (with_names ns i)))
one_procedure setting sc ns i n k ds x None true e f some a more = absurd (global_here (sense_in ns x) (bound_in sc.bindings x) (a.1 x) f e)
one_procedure setting sc ns i n k ds x None false e f some a more =
    let y : Bound = b.Static n in
    let sc1 : Scene = record sc { bindings = bind x y sc.bindings } in
    one_behind x y (cell i 0) (λ z. z) (λ u. u.1) (λ bases frame grown u. static_at setting sc1 bases frame x i n grown (u.0 refl) (itself x y sc.bindings))
    (more sc1 (record { name = x; sense = cell i 0 } ∷ ns) (agree_bound x (cell i 0) y ns sc.bindings refl (own_cell i 0 some) a))
one_procedure setting sc ns i n k ds x (Some v) true e f some a more = more_behind (λ u. u.1) (more sc ns a)
one_procedure setting sc ns i n k ds x (Some v) false e f some a more = absurd (global_there (sense_in ns x) (bound_in sc.bindings x) v (a.1 x) f e)

pub renames_procedures : (ds : Definitions) (setting : Setting) (sc : Scene) (ns : List Named) (i n : ℕ) → 0 < i → Agree ns sc.bindings
    → Following setting sc ns i (AreProcedures setting.lasting sc.own sc.targets sc.bindings i n ds) (procedures_in_scope n ds sc.bindings) (bind_procedures ds (with_names ns i))
renames_procedures t.no_definitions setting sc ns i n some a = none_behind a
renames_procedures (t.define (t.routine l x fs c) ds) setting sc ns i n some a =
    one_procedure setting sc ns i n (1 + objects_of_command c) ds x (global_named (sense_in ns x)) (is_global (bound_in sc.bindings x)) refl refl some a
    (λ sc1 ns1 a1. renames_procedures ds setting sc1 ns1 (i + (1 + objects_of_command c)) (n + 1) (omega (arith, some)) a1)
renames_procedures (t.define (t.function l x fs e) ds) setting sc ns i n some a =
    one_procedure setting sc ns i n (1 + objects e) ds x (global_named (sense_in ns x)) (is_global (bound_in sc.bindings x)) refl refl some a
    (λ sc1 ns1 a1. renames_procedures ds setting sc1 ns1 (i + (1 + objects e)) (n + 1) (omega (arith, some)) a1)
renames_procedures (t.define (t.variables l xs is) ds) setting sc ns i n some a = more_behind (λ u. u) (renames_procedures ds setting sc ns (i + objects_of_starts is) n (omega (arith, some)) a)

-- ---- the variables of a LET

-- the slots of variables that begin so, from a depth on
abbrev pub slots_of : List Binding → ℕ → Starts → List ℕ
slots_of bs d t.no_starts = []
slots_of bs d (t.value e is) = d ∷ slots_of bs (d + 1) is
slots_of bs d (t.vector l e is) = (d + worth (constant_word bs e) + 1) ∷ slots_of bs (d + worth (constant_word bs e) + 2) is

-- and the depth behind them
abbrev pub depth_past : List Binding → ℕ → Starts → ℕ
depth_past bs d t.no_starts = d
depth_past bs d (t.value e is) = depth_past bs (d + 1) is
depth_past bs d (t.vector l e is) = depth_past bs (d + worth (constant_word bs e) + 2) is

-- variables of procedure k in scope
abbrev pub from_spots : ℕ → List Spot → List Binding
from_spots k [] = []
from_spots k (p ∷ ps) = record { name = p.name; bound = b.Variable k p.slot } ∷ from_spots k ps

-- their slots are in a frame
abbrev pub InFrame : List Spot → Type 0
InFrame [] = Unit {0}
InFrame (p ∷ ps) = (p.slot ≤ FRAME_WORDS) × InFrame ps

pub from_both : (k : ℕ) (xs ys : List Spot) → from_spots k (xs ++ ys) ≡ from_spots k xs ++ from_spots k ys
from_both k [] ys = refl
from_both k (x ∷ xs) ys = ap (λ z. record { name = x.name; bound = b.Variable k x.slot } ∷ z) (from_both k xs ys)

pub frame_both : (xs ys : List Spot) → InFrame xs → InFrame ys → InFrame (xs ++ ys)
frame_both [] ys a c = c
frame_both (x ∷ xs) ys a c = (a.0, frame_both xs ys a.1 c)

variable_at : (sc : Scene) (bases : List ℕ) (frame : ℕ) (x : List ℕ) (o k n : ℕ) → frame ≤ 2 ^ 31 - 65536 → n ≤ FRAME_WORDS → BaseOf bases o (frame + n) → bound_in sc.bindings x ≡ Some (b.Variable k n) → NameAt sc bases frame x (Some (cell o 0))
variable_at sc bases frame x o k n low few base e = grind arith

-- variables in the run hide names as they do in scope,
pub bound_agree : (ps : List Spot) (ns : List Named) (bs : List Binding) (i o k : ℕ) → 0 < o → Agree ns bs → Agree (variables_bound o ps (with_names ns i)).names (bind_all (from_spots k ps) bs)
bound_agree [] ns bs i o k some a = a
bound_agree (p ∷ ps) ns bs i o k some a =
    let some1 : 0 < suc o = omega arith in
    bound_agree ps (record { name = p.name; sense = cell o 0 } ∷ ns) (bind p.name (b.Variable k p.slot) bs) i (suc o) k some1 (agree_bound p.name (cell o 0) (b.Variable k p.slot) ns bs refl (own_cell o 0 some) a)

pub next_bound : (ps : List Spot) (o : ℕ) (env : Environment) → (variables_bound o ps env).next ≡ env.next
next_bound [] o env = refl
next_bound (p ∷ ps) o env = next_bound ps (suc o) (m.bind p.name (cell o 0) env)

-- and so do those that are foreign to procedures
abbrev pub foreign_spots : List Spot → Environment → Environment
foreign_spots [] env = env
foreign_spots (p ∷ ps) env = foreign_spots ps (m.bind p.name foreign env)

pub foreign_agree : (ps : List Spot) (ns : List Named) (bs : List Binding) (i k : ℕ) → Agree ns bs → Agree (foreign_spots ps (with_names ns i)).names (bind_all (from_spots k ps) bs)
foreign_agree [] ns bs i k a = a
foreign_agree (p ∷ ps) ns bs i k a = foreign_agree ps (record { name = p.name; sense = foreign } ∷ ns) (bind p.name (b.Variable k p.slot) bs) i k (agree_bound p.name foreign (b.Variable k p.slot) ns bs refl refl a)

pub foreign_mean : (ps : List Spot) (sc : Scene) (env : Environment) (k : ℕ) (bases : List ℕ) (frame : ℕ) → NamedIn sc env bases frame → NamedIn (record sc { bindings = bind_all (from_spots k ps) sc.bindings }) (foreign_spots ps env) bases frame
foreign_mean [] sc env k bases frame n = n
foreign_mean (p ∷ ps) sc env k bases frame n =
    foreign_mean ps (record sc { bindings = bind p.name (b.Variable k p.slot) sc.bindings }) (m.bind p.name foreign env) k bases frame (bound_named sc env bases frame p.name (b.Variable k p.slot) foreign tt n)

pub spots_words : (ps : List Spot) (k : ℕ) (bs : List Binding) → HasWords bs → HasWords (bind_all (from_spots k ps) bs)
spots_words [] k bs h = h
spots_words (p ∷ ps) k bs h = spots_words ps k (bind p.name (b.Variable k p.slot) bs) (words_bound p.name (b.Variable k p.slot) bs (λ v r. absurd (cc)) h)

variables_mean : (ps : List Spot) (sc : Scene) (env : Environment) (o k : ℕ) (bases : List ℕ) (frame : ℕ) → InFrame ps → frame ≤ 2 ^ 31 - 65536 → AreAt bases o frame ps → NamedIn sc env bases frame
    → NamedIn (record sc { bindings = bind_all (from_spots k ps) sc.bindings }) (variables_bound o ps env) bases frame
variables_mean [] sc env o k bases frame f low at n = n
variables_mean (p ∷ ps) sc env o k bases frame f low at n =
    let y : Bound = b.Variable k p.slot in
    let sc1 : Scene = record sc { bindings = bind p.name y sc.bindings } in
    variables_mean ps sc1 (m.bind p.name (cell o 0) env) (suc o) k bases frame f.1 low at.1
    (bound_named sc env bases frame p.name y (cell o 0) (variable_at sc1 bases frame p.name o k p.slot low f.0 at.0 (itself p.name y sc.bindings)) n)

keeps_spots : (ps : List Spot) (k : ℕ) (bs : List Binding) → KeepsLabels bs (bind_all (from_spots k ps) bs)
keeps_spots [] k bs = keeps_same bs
keeps_spots (p ∷ ps) k bs = keeps_both bs (bind p.name (b.Variable k p.slot) bs) (bind_all (from_spots k ps) (bind p.name (b.Variable k p.slot) bs)) (keeps_bound p.name (b.Variable k p.slot) bs (λ z. z)) (keeps_spots ps k (bind p.name (b.Variable k p.slot) bs))

-- the names of a LET's variables mean their words
pub renames_variables : (ps : List Spot) (sc : Scene) (bl : List Binding) (env : Environment) (n k : ℕ) → KeepsLabels sc.bindings bl → InFrame ps
    → RenamesVariables sc bl env (bind_all (from_spots k ps) bl) ps (m.following n env)
renames_variables ps sc bl env n k keeps f = (
  keeps_both sc.bindings bl (bind_all (from_spots k ps) bl) keeps (keeps_spots ps k bl),
  λ o bases frame low at r. variables_mean ps (record sc { bindings = bl }) (m.following n env) o k bases frame f low at (record { each = r.each }),
)

-- the variables that scoping binds
vector_size : (bs : List Binding) (e : Expression) → HasWordUpTo VEC_NUMBER (constant_word bs e) → words_of_start bs e ≡ worth (constant_word bs e) + 1
vector_size bs e h = grind (arith, within, le-ltb)

pub depth_grows : (bs : List Binding) (d : ℕ) (is : Starts) → d ≤ depth_past bs d is
depth_grows bs d t.no_starts = omega arith
depth_grows bs d (t.value e is) = let h = depth_grows bs (d + 1) is in omega (arith, h)
depth_grows bs d (t.vector l e is) = let h = depth_grows bs (d + worth (constant_word bs e) + 2) is in omega (arith, h)

-- vectors of a LET have constants that may be
abbrev pub VectorsSound : List Binding → Starts → Type 0
VectorsSound bs t.no_starts = Unit {0}
VectorsSound bs (t.value e is) = VectorsSound bs is
VectorsSound bs (t.vector l e is) = HasWordUpTo VEC_NUMBER (constant_word bs e) × VectorsSound bs is

pub vectors_sound : (bs : List Binding) (p : Enclosing) (s : ScopeSpot) (is : Starts) → SoundStarted bs p s is → VectorsSound bs is
vectors_sound bs p s t.no_starts h = tt
vectors_sound bs p s (t.value e is) h = vectors_sound bs (deeper 1 p) (scope_spot.following e s) is h.1
vectors_sound bs p s (t.vector l e is) h = (h.0, vectors_sound bs (deeper (words_of_start bs e + 1) p) (scope_spot.after_constant e s) is h.1)

-- what one definition of variables binds
pub record VariablesOf (bs : List Binding) (p : Enclosing) (d : ℕ) (xs : List Mention) (is : Starts) : Type 0 where
  pub are : variables_of bs p xs is ≡ from_spots p.procedure (spots_of (letters xs) (slots_of bs d is))
  pub fit : InFrame (spots_of (letters xs) (slots_of bs d is))
  pub procedure : (place_after bs p is).procedure ≡ p.procedure
  pub depth : (place_after bs p is).depth ≡ depth_past bs d is

pub variables_are : (bs : List Binding) (p : Enclosing) (d : ℕ) (xs : List Mention) (is : Starts) → p.depth ≡ d → length xs ≡ starts is → VectorsSound bs is → depth_past bs d is ≤ FRAME_WORDS → VariablesOf bs p d xs is
variables_are bs p d [] t.no_starts at few h low = record { are = refl; fit = tt; procedure = refl; depth = at }
variables_are bs p d (x ∷ xs) (t.value e is) at few h low =
    let grows = depth_grows bs (d + 1) is in
    let at1 : (deeper 1 p).depth ≡ d + 1 = omega (arith, at, grows, low) in
    let here : (deeper 0 p).depth ≡ d = omega (arith, at, grows, low) in
    let in_frame : d ≤ FRAME_WORDS = omega (arith, grows, low) in
    let few1 : length xs ≡ starts is = omega (arith, few) in
    let more = variables_are bs (deeper 1 p) (d + 1) xs is at1 few1 h low in
    record {
      are = ap (λ z. record { name = x.letters; bound = b.Variable p.procedure z } ∷ variables_of bs (deeper 1 p) xs is) here ∙ ap (λ z. record { name = x.letters; bound = b.Variable p.procedure d } ∷ z) more.are;
      fit = (in_frame, more.fit);
      procedure = more.procedure;
      depth = more.depth;
    }
variables_are bs p d (x ∷ xs) (t.vector l e is) at few h low =
    let size : ℕ = worth (constant_word bs e) in
    let grows = depth_grows bs (d + size + 2) is in
    let words = vector_size bs e h.0 in
    let at1 : (deeper (words_of_start bs e + 1) p).depth ≡ d + size + 2 = omega (arith, at, grows, low, words) in
    let here : (deeper (words_of_start bs e) p).depth ≡ d + size + 1 = omega (arith, at, grows, low, words) in
    let in_frame : d + size + 1 ≤ FRAME_WORDS = omega (arith, grows, low) in
    let few1 : length xs ≡ starts is = omega (arith, few) in
    let p1 : Enclosing = deeper (words_of_start bs e + 1) p in
    let more = variables_are bs p1 (d + size + 2) xs is at1 few1 h.1 low in
    record {
      are = ap (λ z. record { name = x.letters; bound = b.Variable p.procedure z } ∷ variables_of bs p1 xs is) here ∙ ap (λ z. record { name = x.letters; bound = b.Variable p.procedure (d + size + 1) } ∷ z) more.are;
      fit = (in_frame, more.fit);
      procedure = more.procedure;
      depth = more.depth;
    }
variables_are bs p d _ _ at few h low = absurd (omega (arith, few))

pub past_is : (bs : List Binding) (p : Enclosing) (s : ScopeSpot) (d : ℕ) (is : Starts) → depth_past bs d is ≡ after_starts d (starts_named bs p s is)
past_is bs p s d t.no_starts = refl
past_is bs p s d (t.value e is) = past_is bs (deeper 1 p) (scope_spot.following e s) (d + 1) is
past_is bs p s d (t.vector l e is) = past_is bs (deeper (words_of_start bs e + 1) p) (scope_spot.after_constant e s) (d + worth (constant_word bs e) + 2) is

-- all variables of a LET
abbrev pub spots_in : List Binding → Enclosing → ScopeSpot → ℕ → Definitions → List Spot
spots_in bs p s d t.no_definitions = []
spots_in bs p s d (t.define (t.variables l xs is) ds) =
    spots_of (letters xs) (slots_of bs d is) ++ spots_in bs (place_after bs p is) (scope_spot.after_one_defined (t.variables l xs is) s) (after_starts d (starts_named bs p (scope_spot.past (length xs) s) is)) ds
spots_in bs p s d (t.define (t.routine l x fs c) ds) = spots_in bs p (scope_spot.after_one_defined (t.routine l x fs c) s) d ds
spots_in bs p s d (t.define (t.function l x fs e) ds) = spots_in bs p (scope_spot.after_one_defined (t.function l x fs e) s) d ds

pub definitions_grow : (bs : List Binding) (p : Enclosing) (s : ScopeSpot) (d : ℕ) (ds : Definitions) → d ≤ after_definitions d (definitions_named bs p s ds)
definitions_grow bs p s d t.no_definitions = omega arith
definitions_grow bs p s d (t.define (t.routine l x fs c) ds) = definitions_grow bs p (scope_spot.after_one_defined (t.routine l x fs c) s) d ds
definitions_grow bs p s d (t.define (t.function l x fs e) ds) = definitions_grow bs p (scope_spot.after_one_defined (t.function l x fs e) s) d ds
definitions_grow bs p s d (t.define (t.variables l xs is) ds) =
    let d1 : ℕ = after_starts d (starts_named bs p (scope_spot.past (length xs) s) is) in
    let same : depth_past bs d is ≡ d1 = past_is bs p (scope_spot.past (length xs) s) d is in
    let others = definitions_grow bs (place_after bs p is) (scope_spot.after_one_defined (t.variables l xs is) s) d1 ds in
    omega (arith, depth_grows bs d is, same, others)

pub record VariablesIn (bs : List Binding) (p : Enclosing) (s : ScopeSpot) (d : ℕ) (ds : Definitions) : Type 0 where
  pub are : variables_in_scope bs p ds ≡ from_spots p.procedure (spots_in bs p s d ds)
  pub fit : InFrame (spots_in bs p s d ds)
  pub procedure : (place_after_defined bs p ds).procedure ≡ p.procedure
  pub depth : (place_after_defined bs p ds).depth ≡ after_definitions d (definitions_named bs p s ds)

pub variables_in : (bs : List Binding) (p : Enclosing) (s : ScopeSpot) (d : ℕ) (ds : Definitions) → p.depth ≡ d → SoundDefined bs p s ds → RegularDefinitions ds → after_definitions d (definitions_named bs p s ds) ≤ FRAME_WORDS → VariablesIn bs p s d ds
variables_in bs p s d t.no_definitions at h r low = record { are = refl; fit = tt; procedure = refl; depth = at }
variables_in bs p s d (t.define (t.routine l x fs c) ds) at h r low =
    let more = variables_in bs p (scope_spot.after_one_defined (t.routine l x fs c) s) d ds at h.1 r.1 low in
    record { are = more.are; fit = more.fit; procedure = more.procedure; depth = more.depth }
variables_in bs p s d (t.define (t.function l x fs e) ds) at h r low =
    let more = variables_in bs p (scope_spot.after_one_defined (t.function l x fs e) s) d ds at h.1 r.1 low in
    record { are = more.are; fit = more.fit; procedure = more.procedure; depth = more.depth }
variables_in bs p s d (t.define (t.variables l xs is) ds) at h r low =
    let s0 : ScopeSpot = scope_spot.past (length xs) s in
    let s1 : ScopeSpot = scope_spot.after_one_defined (t.variables l xs is) s in
    let p1 : Enclosing = place_after bs p is in
    let d1 : ℕ = after_starts d (starts_named bs p s0 is) in
    let same : depth_past bs d is ≡ d1 = past_is bs p s0 d is in
    let grows : d1 ≤ after_definitions d1 (definitions_named bs p1 s1 ds) = definitions_grow bs p1 s1 d1 ds in
    let low0 : depth_past bs d is ≤ FRAME_WORDS = omega (arith, same, grows, low) in
    let first = variables_are bs p d xs is at r.0.0 (vectors_sound bs p s0 is h.0) low0 in
    let more = variables_in bs p1 s1 d1 ds (first.depth ∙ same) h.1 r.1 low in
    let here : List Spot = spots_of (letters xs) (slots_of bs d is) in
    let others : List Spot = spots_in bs p1 s1 d1 ds in
    record {
      are = ap (λ z. z ++ variables_in_scope bs p1 ds) first.are ∙ ap (λ z. from_spots p.procedure here ++ z) (more.are ∙ ap (λ k. from_spots k others) first.procedure) ∙ sym (from_both p.procedure here others);
      fit = frame_both here others first.fit more.fit;
      procedure = more.procedure ∙ first.procedure;
      depth = more.depth;
    }

-- the variables of a LET are foreign to the procedures behind it
foreign_started : (bs : List Binding) (d : ℕ) (xs : List Mention) (is : Starts) (ps : List Spot) (env : Environment) → length xs ≡ starts is
    → foreign_spots (spots_of (letters xs) (slots_of bs d is) ++ ps) env ≡ foreign_spots ps (bind_each (letters xs) foreign env)
foreign_started bs d [] t.no_starts ps env few = refl
foreign_started bs d (x ∷ xs) (t.value e is) ps env few = let few1 : length xs ≡ starts is = omega (arith, few) in foreign_started bs (d + 1) xs is ps (m.bind x.letters foreign env) few1
foreign_started bs d (x ∷ xs) (t.vector l e is) ps env few =
    let few1 : length xs ≡ starts is = omega (arith, few) in foreign_started bs (d + worth (constant_word bs e) + 2) xs is ps (m.bind x.letters foreign env) few1
foreign_started bs d _ _ ps env few = absurd (omega (arith, few))

pub hidden_are : (bs : List Binding) (p : Enclosing) (s : ScopeSpot) (d : ℕ) (ds : Definitions) (env : Environment) → RegularDefinitions ds → foreign_spots (spots_in bs p s d ds) env ≡ variables_hidden ds env
hidden_are bs p s d t.no_definitions env r = refl
hidden_are bs p s d (t.define (t.routine l x fs c) ds) env r = hidden_are bs p (scope_spot.after_one_defined (t.routine l x fs c) s) d ds env r.1
hidden_are bs p s d (t.define (t.function l x fs e) ds) env r = hidden_are bs p (scope_spot.after_one_defined (t.function l x fs e) s) d ds env r.1
hidden_are bs p s d (t.define (t.variables l xs is) ds) env r =
    let p1 : Enclosing = place_after bs p is in
    let s1 : ScopeSpot = scope_spot.after_one_defined (t.variables l xs is) s in
    let d1 : ℕ = after_starts d (starts_named bs p (scope_spot.past (length xs) s) is) in
    foreign_started bs d xs is (spots_in bs p1 s1 d1 ds) env r.0.0 ∙ hidden_are bs p1 s1 d1 ds (bind_each (letters xs) foreign env) r.1

-- What lasts of a section lies where the scheme puts it.
use Rattle.bk_simulation.proofs.LaidAssigned.{Doing, turns_declared, turns_defined, with_names, Setting, Scene, FoundParts, found_front, found_back, data_of_parts, IsNumbered, passed, home, Bases, no_bases, bases_of, bases_so, data_at, written, within_at, declared-next, Part, true, ◌≡◌, ℕ, ◌+◌, ◌≤◌, false, List, [], ◌∷◌, ◌++◌, cond, refl, sym, ap, ◌∙◌, subst, arith, false≢true, Sort, Items, Declaration, Declarations, Definitions, Enclosing, Binding, scope_after_one, place_after_one, SoundDeclared, SoundOneDeclared, Spot, after_one_declared, beginning, joined, Placed, AreFaultless, Stmt, Store, Target, after_definitions, after_declaration, has_variables, labels_of_declaration, definitions_named, declaration_named, declarations_named, named_tree, target_of, parts_of_declaration, parts_of_declarations, definitions_code, declaration_code, scheme, scheme_is_accepted, targets_found, objects_of_declaration, objects_of_declarations, declared, of_declaration, of_declarations, section_sound, IsAccepted, RegularDeclarations, RegularDefinitions, DefineNoVariables, DeclareNoVariables, append_assoc, Bound, depth_after, Placement, item_words, Globals, static_item, static_table, label_place, procedure_code, data_code, word_code, entries_of, section_code, AllFound}
use Rattle.bk_simulation.proofs.LaidProcedures.{scene_of, all_passed}
use Rattle.bk_simulation.proofs.LaidDeclarations.{Later, inner, first_defined, constants_bases, behind_constants, let_bases, behind_one}
use Rattle.bk_simulation.proofs.LaidBlocks.{valofs_lie, blocks_lie}
use Rattle.bk_simulation.proofs.Terms.{procedure, Sort as sort, Bound as b}
use Rattle.bk_tree.specs.Tree as t
use Rattle.bk_scope.specs.Places as place
use Rattle.bk_scope.specs.Spots as spot
use Rattle.bk_trans.specs.Program as term

-- ---- The parts of a section: the code and the data of each stand in it.

targets_front : (ts xs ys : List Target) → AllFound ts (xs ++ ys) → AllFound ts xs
targets_front ts [] ys h = tt
targets_front ts (x ∷ xs) ys h = (h.0, targets_front ts xs ys h.1)

targets_back : (ts xs ys : List Target) → AllFound ts (xs ++ ys) → AllFound ts ys
targets_back ts [] ys h = h
targets_back ts (x ∷ xs) ys h = targets_back ts xs ys h.1

-- the data of a part begin with their label
word_first : (places : Placement) (n : ℕ) (x : Bound) (rest : List Stmt) → item_words places rest ≡ [] → item_words places (word_code n x ++ rest) ≡ []
word_first places n (b.Static m) rest e = refl
word_first places n _ rest e = e

label_first : (places : Placement) (x : Part) (rest : List Stmt) → item_words places rest ≡ [] → item_words places (data_code x ++ rest) ≡ []
label_first places (procedure n (term.routine x name k c)) rest e = word_first places n x rest e
label_first places (procedure n (term.function x name k c)) rest e = word_first places n x rest e
label_first places (procedure n (term.variables is)) rest e = e
label_first places (static_item n k) rest e = refl
label_first places (static_table n ws) rest e = refl
label_first places (label_place n s x) rest e = e

labels_first : (places : Placement) (xs : List Part) (rest : List Stmt) → item_words places rest ≡ [] → item_words places (joined data_code xs ++ rest) ≡ []
labels_first places [] rest e = e
labels_first places (x ∷ xs) rest e = ap (item_words places) (append_assoc (data_code x) (joined data_code xs) rest) ∙ label_first places x (joined data_code xs ++ rest) (labels_first places xs rest e)

-- Parts one behind the other.
abbrev parts_from : (own : Placed) (ts : List Target) (xs : List Part) (d e : ℕ) (c r : List Stmt) → AllFound ts (joined target_of xs) → IsNumbered own d (joined (procedure_code ts) xs ++ c) → IsNumbered own e (joined data_code xs ++ r)
    → item_words own.places r ≡ [] → FoundParts own ts xs
parts_from own ts [] d e c r f h i z = tt
parts_from own ts (x ∷ xs) d e c r f h i z =
    let code = written own d _ _ (append_assoc (procedure_code ts x) (joined (procedure_code ts) xs) c) h in
    let items = written own e _ _ (append_assoc (data_code x) (joined data_code xs) r) i in (
      (targets_front ts (target_of x) _ f, record { depth = d; rest = joined (procedure_code ts) xs ++ c; stands = code }, record { depth = e; rest = joined data_code xs ++ r; stands = items; ends = labels_first own.places xs r z }),
      parts_from own ts xs (depth_after d (procedure_code ts x)) (depth_after e (data_code x)) c r (targets_back ts (target_of x) _ f) (all_passed own d (procedure_code ts x) (joined (procedure_code ts) xs ++ c) code)
          (all_passed own e (data_code x) (joined data_code xs ++ r) items) z,
    )

-- THE PARTS OF A SECTION are found in it.
pub section_parts : (own : Placed) (xs : List Part) → AreFaultless own.stmts → own.stmts ≡ section_code xs → AllFound (joined target_of xs) (joined target_of xs) → FoundParts own (joined target_of xs) xs
section_parts own xs are e f =
    let ts = joined target_of xs in
    let codes = joined (procedure_code ts) xs in
    let items = joined data_code xs in
    let last = Globals (joined entries_of xs) ∷ [] in
    let start : IsNumbered own 0 own.stmts = record { are = are; place = 0; following = refl; same_depth = refl; shallow = omega arith } in
    let whole : IsNumbered own 0 (codes ++ (items ++ last)) = written own 0 own.stmts _ (e ∙ append_assoc codes items last) start in
    parts_from own ts xs 0 (depth_after 0 codes) (items ++ last) last f whole (all_passed own 0 codes (items ++ last) whole) refl

-- their data are data of the section
parts_data : (own : Placed) (ts : List Target) (xs : List Part) (d e : ℕ) (c r : List Stmt) (f : AllFound ts (joined target_of xs)) (h : IsNumbered own d (joined (procedure_code ts) xs ++ c)) (i : IsNumbered own e (joined data_code xs ++ r))
    (z : item_words own.places r ≡ []) (a : ℕ) → data_of_parts own ts a xs (parts_from own ts xs d e c r f h i z) + data_at own a c + data_at own a r ≡ data_at own a (joined (procedure_code ts) xs ++ c) + data_at own a (joined data_code xs ++ r)
parts_data own ts [] d e c r f h i z a = omega arith
parts_data own ts (x ∷ xs) d e c r f h i z a =
    let code = written own d _ _ (append_assoc (procedure_code ts x) (joined (procedure_code ts) xs) c) h in
    let items = written own e _ _ (append_assoc (data_code x) (joined data_code xs) r) i in
    let more = parts_data own ts xs (depth_after d (procedure_code ts x)) (depth_after e (data_code x)) c r (targets_back ts (target_of x) _ f) (all_passed own d (procedure_code ts x) (joined (procedure_code ts) xs ++ c) code)
    (all_passed own e (data_code x) (joined data_code xs ++ r) items) z a in
    let u = ap (data_at own a) (append_assoc (procedure_code ts x) (joined (procedure_code ts) xs) c) in
    let v = ap (data_at own a) (append_assoc (data_code x) (joined data_code xs) r) in
    let w = within_at own a (procedure_code ts x) (joined (procedure_code ts) xs ++ c) in
    omega (arith, more, u, v, w, within_at own a (data_code x) (joined data_code xs ++ r))

pub section_data : (own : Placed) (xs : List Part) (are : AreFaultless own.stmts) (e : own.stmts ≡ section_code xs) (f : AllFound (joined target_of xs) (joined target_of xs)) (a : ℕ)
    → data_of_parts own (joined target_of xs) a xs (section_parts own xs are e f) ≤ data_at own a own.stmts
unfolding section_parts
section_data own xs are e f a =
    let ts = joined target_of xs in
    let codes = joined (procedure_code ts) xs in
    let items = joined data_code xs in
    let last = Globals (joined entries_of xs) ∷ [] in
    let start : IsNumbered own 0 own.stmts = record { are = are; place = 0; following = refl; same_depth = refl; shallow = omega arith } in
    let whole : IsNumbered own 0 (codes ++ (items ++ last)) = written own 0 own.stmts _ (e ∙ append_assoc codes items last) start in
    let q = parts_data own ts xs 0 (depth_after 0 codes) (items ++ last) last f whole (all_passed own 0 codes (items ++ last) whole) refl a in
    omega (arith, q, ap (data_at own a) (e ∙ append_assoc codes items last))

-- ---- What lasts of a section lies where the scheme puts it.

-- procedures have no code of their own where they are declared, and leave the frame as it is
record NoCode (ts : List Target) (bs : List Binding) (p : Enclosing) (s : Spot) (d n : ℕ) (ds : Definitions) : Type 0 where
  pub code : definitions_code ts d n (definitions_named bs p s ds) ≡ []
  pub depth : after_definitions d (definitions_named bs p s ds) ≡ d
  pub variables : has_variables (definitions_named bs p s ds) ≡ false

no_code : (ts : List Target) (bs : List Binding) (p : Enclosing) (s : Spot) (d n : ℕ) (ds : Definitions) → DefineNoVariables ds → NoCode ts bs p s d n ds
no_code ts bs p s d n t.no_definitions h = record { code = refl; depth = refl; variables = refl }
no_code ts bs p s d n (t.define (t.routine l x fs c) ds) h = let o = no_code ts bs p (spot.after_one_defined (t.routine l x fs c) s) d _ ds h in record { code = o.code; depth = o.depth; variables = o.variables }
no_code ts bs p s d n (t.define (t.function l x fs e) ds) h = let o = no_code ts bs p (spot.after_one_defined (t.function l x fs e) s) d _ ds h in record { code = o.code; depth = o.depth; variables = o.variables }
no_code ts bs p s d n (t.define (t.variables l xs is) ds) h = absurd h

-- nothing is laid behind declarations outside procedures
abbrev Nothing : Later
Nothing g sc d env c = Unit {0}

-- declarations outside procedures are laid, by their parts
abbrev OutsideLie : ℕ → Scene → Enclosing → Spot → ℕ → Declarations → ℕ → ℕ → Type 0
OutsideLie pay sc p s i xs d n = (f : FoundParts sc.own sc.targets (parts_of_declarations d n (declarations_named sc.bindings p s xs)))
    → Bases (home sc pay) i (objects_of_declarations xs) (parts_of_declarations d n (declarations_named sc.bindings p s xs)) f (λ ns. of_declarations (with_names ns i) xs) (λ a. 0) (λ g. Unit {0})

-- the objects of one declaration, and then those of others
outside_both : (pay : ℕ) (sc : Scene) (i : ℕ) (x : Declaration) (xs : Declarations) {ps : List Part} {f : FoundParts sc.own sc.targets ps} {P : Setting → Type 0}
    → Bases (home sc pay) i (objects_of_declaration x + objects_of_declarations xs) ps f (λ ns. of_declaration (with_names ns i) x ++ of_declarations (with_names (declared x (with_names ns i)).names (i + objects_of_declaration x)) xs) (λ a. 0) P
    → Bases (home sc pay) i (objects_of_declarations (t.declare x xs)) ps f (λ ns. of_declarations (with_names ns i) (t.declare x xs)) (λ a. 0) (λ setting. Unit {0})
outside_both pay sc i x xs a =
    bases_so (home sc pay) (λ setting. Unit {0}) (λ setting y v. tt) (bases_of (home sc pay) _ (λ ns. of_declarations (with_names ns i) (t.declare x xs))
    (λ ns. ap (λ z. of_declaration (with_names ns i) x ++ of_declarations (with_names (declared x (with_names ns i)).names z) xs) (sym (declared-next x (with_names ns i)))) a)

constants_depth : (bs : List Binding) (p : Enclosing) (s : Spot) (l : ℕ) (o : Sort) (is : Items) (d : ℕ) → after_declaration d (declaration_named bs p s (t.constants l o is)) ≡ d
constants_depth bs p s l sort.Manifest is d = refl
constants_depth bs p s l _ is d = refl

-- a LET of procedures, by a place in the section with this depth
procedures_lie : (pay : ℕ) (sc : Scene) (p : Enclosing) (s : Spot) (i l : ℕ) (ds : Definitions) (xs : Declarations) (d n : ℕ) (c : List Stmt) {qs : List Part} → DefineNoVariables ds → Doing sc p d → SoundOneDeclared sc.bindings p s (t.definitions l ds) → RegularDefinitions ds
    → turns_defined true ds ≤ pay → (f : FoundParts sc.own sc.targets (parts_of_declaration d n (declaration_named sc.bindings p s (t.definitions l ds)) ++ qs)) → IsNumbered sc.own d c
    → (Doing (record sc { bindings = scope_after_one sc.bindings p s (t.definitions l ds) }) (place_after_one sc.bindings p s (t.definitions l ds)) d
    → Bases (home (record sc { bindings = scope_after_one sc.bindings p s (t.definitions l ds) }) pay) (i + objects_of_declaration (t.definitions l ds)) (objects_of_declarations xs) qs (found_back sc.own sc.targets (parts_of_declaration d n (declaration_named sc.bindings p s (t.definitions l ds))) qs f) (λ ns. of_declarations (with_names ns (i + objects_of_declaration (t.definitions l ds))) xs) (λ a. 0) (λ g. Unit {0}))
    → Bases (home sc pay) i (objects_of_declarations (t.declare (t.definitions l ds) xs)) (parts_of_declaration d n (declaration_named sc.bindings p s (t.definitions l ds)) ++ qs) f (λ ns. of_declarations (with_names ns i) (t.declare (t.definitions l ds) xs))
    (λ a. 0) (λ g. Unit {0})
procedures_lie pay sc p s i l ds xs d n c {qs} only a h r m f st others =
    let x : Declaration = t.definitions l ds in
    let bs = scope_after_one sc.bindings p s x in
    let none = no_code sc.targets (inner sc s ds).bindings p (first_defined s ds) d n ds only in
    let named = definitions_named (inner sc s ds).bindings p (first_defined s ds) ds in
    let k : c ≡ declaration_code sc.targets d n (declaration_named sc.bindings p s x) ++ c =
    sym (ap (λ z. (z ++ cond (has_variables named) (Store ∷ []) []) ++ c) none.code ∙ ap (λ z. cond z (Store ∷ []) [] ++ c) none.variables) in
    let following = behind_one pay (valofs_lie pay) (blocks_lie pay) sc p s x d n c c a h r m (found_front sc.own sc.targets (parts_of_declaration d n (declaration_named sc.bindings p s (t.definitions l ds))) qs f) k st in
    let doing = subst (λ z. Doing (record sc { bindings = bs }) (place_after_one sc.bindings p s x) z) none.depth following.1 in
    outside_both pay sc i x xs (let_bases pay (valofs_lie pay) (blocks_lie pay) sc p s i l ds d n (objects_of_declarations xs) c c (λ q. 0) (λ ns. of_declarations (with_names ns (i + objects_of_declaration x)) xs) Nothing a.around h r m f k st (λ q. omega arith)
    (bases_so (home (record sc { bindings = bs }) pay) _ (λ g y v ns u. tt) (others doing)))

-- DECLARATIONS OUTSIDE PROCEDURES
outside_bases : (pay : ℕ) (sc : Scene) (p : Enclosing) (s : Spot) (i : ℕ) (xs : Declarations) (n : ℕ) → DeclareNoVariables xs → Doing sc p 2 → SoundDeclared sc.bindings p s xs → RegularDeclarations xs → turns_declared true xs ≤ pay
    → OutsideLie pay sc p s i xs 2 n
outside_bases pay sc p s i t.no_declarations n only a h r m f = no_bases (home sc pay) i (λ g. Unit {0}) (λ g y. tt)
outside_bases pay sc p s i (t.declare (t.constants l o is) xs) n only a h r m f =
    let x : Declaration = t.constants l o is in
    let one = declaration_named sc.bindings p s x in
    let bs = scope_after_one sc.bindings p s x in
    let s1 : Spot = after_one_declared x s in
    let doing = behind_constants sc p s l o is 2 a r.0 in
    let others = subst (λ z. OutsideLie pay (record sc { bindings = bs }) p s1 (i + objects_of_declaration x) xs z (n + labels_of_declaration one)) (sym (constants_depth sc.bindings p s l o is 2))
    (λ g. outside_bases pay (record sc { bindings = bs }) p s1 (i + objects_of_declaration x) xs (n + labels_of_declaration one) only doing h.1 r.1 (omega (arith, m)) g) (found_back sc.own sc.targets (parts_of_declaration 2 n one) _ f) in
    outside_both pay sc i x xs (constants_bases pay sc p s l o is i 2 n (objects_of_declarations xs) [] (λ ns. of_declarations (with_names ns (i + objects_of_declaration x)) xs) Nothing a.around.words h.0 r.0
    f (bases_so (home (record sc { bindings = bs }) pay) _ (λ g y v ns u. tt) others))
outside_bases pay sc p s i (t.declare (t.definitions l t.no_definitions) xs) n only a h r m f =
    let x : Declaration = t.definitions l t.no_definitions in
    let one = declaration_named sc.bindings p s x in
    let os : ℕ = objects_of_declarations xs in
    let others = outside_bases pay sc p (after_one_declared x s) (i + 0) xs (n + labels_of_declaration one) only.1 a h.1 r.1 (omega (arith, m)) f in
    let qs : List Part = parts_of_declarations 2 (n + labels_of_declaration one) (declarations_named sc.bindings p (after_one_declared x s) xs) in
    let here : i + 0 ≡ i = omega arith in
    let same : os ≡ 0 + os = omega arith in
    let moved = subst (λ z. Bases (home sc pay) z os qs f (λ ns. of_declarations (with_names ns (i + 0)) xs) (λ a. 0) (λ g. Unit {0})) here others in
    outside_both pay sc i x xs (subst (λ z. Bases (home sc pay) i z qs f (λ ns. of_declarations (with_names ns (i + 0)) xs) (λ a. 0) (λ g. Unit {0})) same moved)
outside_bases pay sc p s i (t.declare (t.definitions l (t.define (t.routine k y fs c) ds)) xs) n only a h r m f =
    let x : Declaration = t.definitions l (t.define (t.routine k y fs c) ds) in
    let one = declaration_named sc.bindings p s x in
    let code = f.0.1 in
    let none = no_code sc.targets (inner sc s (t.define (t.routine k y fs c) ds)).bindings p (first_defined s (t.define (t.routine k y fs c) ds)) 2 n (t.define (t.routine k y fs c) ds) only.0 in
    procedures_lie pay sc p s i l (t.define (t.routine k y fs c) ds) xs 2 n _ only.0 a h.0 r.0 (omega (arith, m)) f (passed sc.own code.depth 2 _ _ code.stands refl)
    (λ doing. subst (λ z. OutsideLie pay (record sc { bindings = scope_after_one sc.bindings p s x }) (place_after_one sc.bindings p s x) (after_one_declared x s) (i + objects_of_declaration x) xs z (n + labels_of_declaration one)) (sym none.depth)
    (λ g. outside_bases pay (record sc { bindings = scope_after_one sc.bindings p s x }) (place_after_one sc.bindings p s x) (after_one_declared x s) (i + objects_of_declaration x) xs (n + labels_of_declaration one) only.1 doing h.1 r.1 (omega (arith, m)) g)
    (found_back sc.own sc.targets (parts_of_declaration 2 n one) _ f))
outside_bases pay sc p s i (t.declare (t.definitions l (t.define (t.function k y fs e) ds)) xs) n only a h r m f =
    let x : Declaration = t.definitions l (t.define (t.function k y fs e) ds) in
    let one = declaration_named sc.bindings p s x in
    let code = f.0.1 in
    let none = no_code sc.targets (inner sc s (t.define (t.function k y fs e) ds)).bindings p (first_defined s (t.define (t.function k y fs e) ds)) 2 n (t.define (t.function k y fs e) ds) only.0 in
    procedures_lie pay sc p s i l (t.define (t.function k y fs e) ds) xs 2 n _ only.0 a h.0 r.0 (omega (arith, m)) f (passed sc.own code.depth 2 _ _ code.stands refl)
    (λ doing. subst (λ z. OutsideLie pay (record sc { bindings = scope_after_one sc.bindings p s x }) (place_after_one sc.bindings p s x) (after_one_declared x s) (i + objects_of_declaration x) xs z (n + labels_of_declaration one)) (sym none.depth)
    (λ g. outside_bases pay (record sc { bindings = scope_after_one sc.bindings p s x }) (place_after_one sc.bindings p s x) (after_one_declared x s) (i + objects_of_declaration x) xs (n + labels_of_declaration one) only.1 doing h.1 r.1 (omega (arith, m)) g)
    (found_back sc.own sc.targets (parts_of_declaration 2 n one) _ f))
outside_bases pay sc p s i (t.declare (t.definitions l (t.define (t.variables k ys is) ds)) xs) n only a h r m f = absurd only.0

-- what stands around declarations outside procedures
abbrev pub section_scene : ℕ → Placed → Declarations → Scene
section_scene section own ds = scene_of section own (joined target_of (parts_of_declarations 2 1 (named_tree ds))) [] 0

-- What lasts of a section: its parts are found, and their data are some of its own.
pub record SectionLies (pay section : ℕ) (own : Placed) (i : ℕ) (ds : Declarations) : Type 0 where
  pub found : FoundParts own (section_scene section own ds).targets (parts_of_declarations 2 1 (named_tree ds))
  pub is : Bases (home (section_scene section own ds) pay) i (objects_of_declarations ds) (parts_of_declarations 2 1 (named_tree ds)) found (λ ns. of_declarations (with_names ns i) ds) (λ a. 0) (λ g. Unit {0})
  pub less : (q : ℕ) → data_of_parts own (section_scene section own ds).targets q (parts_of_declarations 2 1 (named_tree ds)) found ≤ data_at own q own.stmts

-- WHAT LASTS OF AN ACCEPTED SECTION is held in its statements.
pub section_lies : (section : ℕ) (own : Placed) (ds : Declarations) (pay i : ℕ) → IsAccepted ds → own.stmts ≡ scheme (named_tree ds) → turns_declared true ds ≤ pay
    → SectionLies pay section own i ds
section_lies section own ds pay i ok e m =
    let sc : Scene = section_scene section own ds in
    let are : AreFaultless own.stmts = subst AreFaultless (sym e) (scheme_is_accepted ds ok.faultless ok.within ok.are_words).are_faultless in
    let doing : Doing sc place.outermost 2 = record {
      around = record { same = refl; at = refl; words = λ x v q. absurd (cc) };
      loop = λ q. absurd (false≢true q);
      switch = λ q. absurd (false≢true q);
      valof = λ q. absurd (false≢true q);
    } in
    let ps = parts_of_declarations 2 1 (named_tree ds) in
    let f = section_parts own ps are e (targets_found ds ok.faultless ok.are_words) in
    record { found = f; is = outside_bases pay sc place.outermost beginning i ds 1 ok.regular.1 doing (section_sound ds ok.faultless) ok.regular.0 m f; less = section_data own ps are e (targets_found ds ok.faultless ok.are_words) }

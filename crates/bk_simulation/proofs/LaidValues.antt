-- Each expression of an accepted section is laid where the scheme puts it, for a value and for a jump. That VALOFs are is taken here as
-- an argument.
use Rattle.bk_simulation.proofs.Words.{ap, Operator, Binding, Environment, Lasting, past, ◌≡◌, ℕ, ◌+◌, ◌≤◌, true, false, not, List, [], ◌∷◌, ◌++◌, length, map, Bool, Some, refl, sym, ◌∙◌, subst, arith, slice_get, false≢true, first_bytes, signed, at_expression, size, Expression, Expressions, Command, Enclosing, Role, bound_in, parenthesised, deeper, Sound, SoundEach, HaveWords, Spot, Datum, item_words, Static, Stmt, DataLabel, DataNumber, Number, Query, Address, Text, Monadic, Dyadic, Assign, AssignAt, AssignByte, Label, GiveResult, TakeResult, CallFunction, labels, labels_if, meant, term_named, terms_named, condition_named, lvalue_named, words_named, static_table, parts, parts_each, parts_if, parts_at, push, infix_code, truth_value, value_code, each_code, jump_code, address_code, store_code, variable, data_code, Named, objects, objects_of_each, of_expression, of_each, constant_words, text_words, Part, cond, is_in, role_of_operands, place_of_second, addressed, Regular, RegularEach}
use Rattle.bk_simulation.proofs.Terms.{Operator as o, Prefix as q, Dyadic as two, Monadic as w}
use Rattle.bk_tree.specs.Tree as t
use Rattle.bk_scope.specs.declared.role.Role.TheVariants.{Address as Addressed, Value}
use Rattle.bk_scope.specs.Faults.{assigned}
use Rattle.bk_scope.specs.Spots as spot
use Rattle.bk_simulation.proofs.HeldData.{words_paid, statement_data, statement_below, items_are, words_small, words_agree, datum_paid, turns_of, turns_among, with_names, Setting, Scene, Aim, pushes, jumps, ending, count, LabelAt, IsCode, AreValues, IsAddress, IsStore, InData, Agree, IsNumbered, passed, at_depth, written, label_at, call_at, home, no_bases, new_base, both_bases, three_bases, bases_so, Lies, lie, lies_behind, data_at, FoundParts, found_front, found_back, DataIn, within_at, coded, own_parts, role, level, HasWords, Around, around_deeper, InNames, plain_laid, leaf_on, leaf_lies, pushed_depth, truth_depth, infix_on, joined_two, joined_three, joined_choice, call_lies}

-- the words of a TABLE
table_held : (setting : Setting) (sc : Scene) (n l : ℕ) (es : Expressions) (i : ℕ) (ns : List Named) → Agree ns sc.bindings → HasWords sc.bindings → RegularEach es → HaveWords sc.bindings es → DataIn sc.own (data_code (static_table n (words_named sc.bindings es)))
    → slice_get setting.program.sections sc.section ≡ Some sc.own → InData setting.program (sc.own.places.label n) (constant_words (with_names ns i) es)
table_held setting sc n l es i ns u words r h f own =
    let ws = words_named sc.bindings es in
    let code = map (λ w. DataNumber (signed w)) ws ++ f.rest in
    let found = statement_data setting.program sc.section sc.own f.depth (DataLabel n) code (record { place = sc.own.places.label n; words = item_words sc.own.places code }) own f.stands refl in
    subst (λ y. InData setting.program (sc.own.places.label n) y) (items_are sc.own.places ws f.rest (words_small sc.bindings es words r h) f.ends ∙ sym (words_agree ns sc.bindings i es u)) found

-- the code of an expression is laid from statements on before those
abbrev pub CodeLies : ℕ → Scene → Enclosing → Spot → ℕ → Aim → Expression → ℕ → ℕ → List Stmt → List Stmt → Type 0
CodeLies pay sc p s i aim e d n c rest = (f : FoundParts sc.own sc.targets (own_parts sc p s d n aim e)) → c ≡ coded sc p s d n aim e ++ rest → IsNumbered sc.own d c
    → Lies (home sc pay) i (objects e) (level aim d) c rest (own_parts sc p s d n aim e) f (λ ns. of_expression (with_names ns i) e) (InNames sc.bindings i (λ g env. IsCode g sc d env aim e c rest))

-- expressions that are VALOFs are laid
abbrev pub ValofsLie : ℕ → Type 0
ValofsLie pay = (sc : Scene) (p : Enclosing) (s : Spot) (i : ℕ) (aim : Aim) (l : ℕ) (x : Command) (d n : ℕ) (c rest : List Stmt) → Around sc p d → Sound (role aim) sc.bindings p s (t.valof l x) → Regular (t.valof l x)
    → turns_of true (t.valof l x) ≤ pay → CodeLies pay sc p s i aim (t.valof l x) d n c rest

abbrev second : Expression → Spot → Spot
second x s = spot.past 1 (spot.following x s)

operands_sound : (f : Operator) (bs : List Binding) (p : Enclosing) (s u : Spot) (x y : Expression)
    → Sound (role_of_operands f Value) bs p s x × Sound (role_of_operands f Value) bs (place_of_second f Value p) u y
    → Sound Value bs p s x × Sound Value bs (deeper 1 p) u y
operands_sound o.Both bs p s u x y h = h
operands_sound _ bs p s u x y h = h

-- two values, one above the other
two_values : (pay : ℕ) (sc : Scene) (p : Enclosing) (s : Spot) (i : ℕ) (x y : Expression) (d n : ℕ) (c rest : List Stmt) → Around sc p d
    → (f : FoundParts sc.own sc.targets (own_parts sc p s d n pushes x
    ++ own_parts sc (deeper 1 p) (second x s) (d + 1) (n + labels (term_named sc.bindings p s x)) pushes y))
    → c ≡ coded sc p s d n pushes x ++ (coded sc (deeper 1 p) (second x s) (d + 1) (n + labels (term_named sc.bindings p s x)) pushes y ++ rest)
    → IsNumbered sc.own d c → ((c0 r0 : List Stmt) → CodeLies pay sc p s i pushes x d n c0 r0)
    → ((c0 r0 : List Stmt) → Around sc (deeper 1 p) (d + 1)
    → CodeLies pay sc (deeper 1 p) (second x s) (i + objects x) pushes y (d + 1) (n + labels (term_named sc.bindings p s x)) c0 r0)
    → Lies (home sc pay) i (objects x + objects y) (d + 1 + 1) c rest
    (own_parts sc p s d n pushes x ++ own_parts sc (deeper 1 p) (second x s) (d + 1) (n + labels (term_named sc.bindings p s x)) pushes y) f
    (λ ns. of_expression (with_names ns i) x ++ of_expression (with_names ns (i + objects x)) y)
    (InNames sc.bindings i (λ g env. (c1 : List Stmt) × IsCode g sc d env pushes x c c1 × IsCode g sc (d + 1) (past x env) pushes y c1 rest))
two_values pay sc p s i x y d n c rest a f k st on_x on_y =
    let c1 = coded sc (deeper 1 p) (second x s) (d + 1) (n + labels (term_named sc.bindings p s x)) pushes y ++ rest in
    let lx = on_x c c1 (found_front sc.own sc.targets (own_parts sc p s d n pushes x) _ f) k st in
    let ly = on_y c1 rest (around_deeper sc p d 1 (d + 1) refl lx.on.shallow a) (found_back sc.own sc.targets (own_parts sc p s d n pushes x) _ f) refl lx.on in
    lie ly.on (bases_so (home sc pay) _ (λ g z v ns u. (c1, v.0 ns u, v.1 ns u)) (both_bases (home sc pay) i (objects x) (objects y) (own_parts sc p s d n pushes x) f _ _ lx.objects_are ly.objects_are))
    (λ q. let u = lx.paid q in let v = ly.paid q in omega (arith, u, v))

-- and an operator of theirs
operator_lies : (pay : ℕ) (sc : Scene) (p : Enclosing) (s : Spot) (i : ℕ) (f : Operator) (x y : Expression) (d n : ℕ) (c rest : List Stmt) → Around sc p d
    → (g : FoundParts sc.own sc.targets (own_parts sc p s d n pushes x
    ++ own_parts sc (deeper 1 p) (second x s) (d + 1) (n + labels (term_named sc.bindings p s x)) pushes y))
    → c ≡ (coded sc p s d n pushes x ++ coded sc (deeper 1 p) (second x s) (d + 1) (n + labels (term_named sc.bindings p s x)) pushes y ++ infix_code f)
    ++ rest → IsNumbered sc.own d c → ((c0 r0 : List Stmt) → CodeLies pay sc p s i pushes x d n c0 r0)
    → ((c0 r0 : List Stmt) → Around sc (deeper 1 p) (d + 1)
    → CodeLies pay sc (deeper 1 p) (second x s) (i + objects x) pushes y (d + 1) (n + labels (term_named sc.bindings p s x)) c0 r0)
    → Lies (home sc pay) i (objects x + objects y) (d + 1) c rest
    (own_parts sc p s d n pushes x ++ own_parts sc (deeper 1 p) (second x s) (d + 1) (n + labels (term_named sc.bindings p s x)) pushes y) g
    (λ ns. of_expression (with_names ns i) x ++ of_expression (with_names ns (i + objects x)) y)
    (InNames sc.bindings i (λ g env. (c1 : List Stmt) × IsCode g sc d env pushes x c c1
    × IsCode g sc (d + 1) (past x env) pushes y c1 (infix_code f ++ rest)))
operator_lies pay sc p s i f x y d n c rest a g k st on_x on_y =
    let both = two_values pay sc p s i x y d n c (infix_code f ++ rest) a g (joined_three _ _ (infix_code f) rest c k) st on_x on_y in
    lie (infix_on sc.own f d rest both.on) both.objects_are (λ q. let u = both.paid q in let w = within_at sc.own q (infix_code f) rest in omega (arith, u, w))

-- two conditions, the second after the first
two_jumps : (pay : ℕ) (sc : Scene) (p : Enclosing) (s : Spot) (i : ℕ) (x y : Expression) (u v : Bool) (j l d n : ℕ) (c rest : List Stmt)
    → (f : FoundParts sc.own sc.targets (own_parts sc p s d (n + 1) (jumps u j) x
    ++ own_parts sc p (second x s) d (n + 1 + labels_if (condition_named sc.bindings p s x)) (jumps v l) y))
    → c ≡ coded sc p s d (n + 1) (jumps u j) x ++ (coded sc p (second x s) d (n + 1 + labels_if (condition_named sc.bindings p s x)) (jumps v l) y ++ rest)
    → IsNumbered sc.own d c → ((c0 r0 : List Stmt) → CodeLies pay sc p s i (jumps u j) x d (n + 1) c0 r0)
    → ((c0 r0 : List Stmt) → CodeLies pay sc p (second x s) (i + objects x) (jumps v l) y d (n + 1 + labels_if (condition_named sc.bindings p s x)) c0 r0)
    → Lies (home sc pay) i (objects x + objects y) d c rest
    (own_parts sc p s d (n + 1) (jumps u j) x ++ own_parts sc p (second x s) d (n + 1 + labels_if (condition_named sc.bindings p s x)) (jumps v l) y) f
    (λ ns. of_expression (with_names ns i) x ++ of_expression (with_names ns (i + objects x)) y)
    (InNames sc.bindings i (λ g env. (c1 : List Stmt) × IsCode g sc d env (jumps u j) x c c1 × IsCode g sc d (past x env) (jumps v l) y c1 rest))
two_jumps pay sc p s i x y u v j l d n c rest f k st on_x on_y =
    let c1 = coded sc p (second x s) d (n + 1 + labels_if (condition_named sc.bindings p s x)) (jumps v l) y ++ rest in
    let lx = on_x c c1 (found_front sc.own sc.targets (own_parts sc p s d (n + 1) (jumps u j) x) _ f) k st in
    let ly = on_y c1 rest (found_back sc.own sc.targets (own_parts sc p s d (n + 1) (jumps u j) x) _ f) refl lx.on in
    lie ly.on (bases_so (home sc pay) _ (λ g z v ns u. (c1, v.0 ns u, v.1 ns u)) (both_bases (home sc pay) i (objects x) (objects y) (own_parts sc p s d (n + 1) (jumps u j) x) f _ _ lx.objects_are ly.objects_are))
    (λ q. let t0 = lx.paid q in let t1 = ly.paid q in omega (arith, t0, t1))

-- and a label after them
labelled_lies : (sc : Scene) (pay i d n : ℕ) (rest : List Stmt) {many : ℕ} {c : List Stmt} {ps : List Part} {f : FoundParts sc.own sc.targets ps} {L : List Named → List Lasting}
    (P Q : Setting → Environment → Type 0) → Lies (home sc pay) i many d c (Label n ∷ rest) ps f L (InNames sc.bindings i P)
    → ((setting : Setting) (env : Environment) → P setting env → LabelAt setting sc d n rest → Q setting env) → Lies (home sc pay) i many d c rest ps f L (InNames sc.bindings i Q)
labelled_lies sc pay i d n rest P Q a h = grind (arith, passed, label_at)

mutual
  pub laid_code : (pay : ℕ) (valofs : ValofsLie pay) (sc : Scene) (p : Enclosing) (s : Spot) (i : ℕ) (aim : Aim) (e : Expression) (d n : ℕ) (c rest : List Stmt) → Around sc p d → Sound (role aim) sc.bindings p s e → Regular e → turns_of true e ≤ pay
      → CodeLies pay sc p s i aim e d n c rest
  laid_code pay valofs sc p s i aim (t.name l x) d n c rest a h r m f k st =
      plain_laid pay sc p s i d n aim (t.name l x) 0 c rest _ refl
      (λ g e. leaf_lies (home sc pay) i d c (ending aim rest) (push sc.targets (meant (bound_in sc.bindings x))) _ e (pushed_depth sc.targets d (meant (bound_in sc.bindings x))) st (λ setting y ns u. e)) f k
  laid_code pay valofs sc p s i aim (t.number l v) d n c rest a h r m f k st =
      plain_laid pay sc p s i d n aim (t.number l v) 0 c rest _ refl (λ g e. leaf_lies (home sc pay) i d c (ending aim rest) (Number (signed v)) _ e refl st (λ setting y ns u. (e, r))) f k
  laid_code pay valofs sc p s i aim (t.text l x) d n c rest a h r m f k st =
      plain_laid pay sc p s i d n aim (t.text l x) 1 c rest _ refl (λ g e.
      let datum : Datum = record { place = sc.own.places.text (length (ending aim rest)); words = text_words x } in
      let there = written sc.own d c (Text (first_bytes x) ∷ ending aim rest) e st in
      lie (leaf_on sc.own d c (ending aim rest) (Text (first_bytes x)) e refl st)
      (new_base (home sc pay) i datum.place [] g (λ ns. text_words x) {C = λ v. cond (is_in v datum) 1 0} _ refl (λ ns u v. let h1 = datum_paid datum.place (text_words x) v in omega (arith, h1))
      (statement_below sc.section sc.own d (Text (first_bytes x)) (ending aim rest) datum there refl) (λ setting y z ns u. (e, z))
      (λ setting y z ns u v. (datum.place, z, statement_data setting.program sc.section sc.own d (Text (first_bytes x)) (ending aim rest) datum y.own there refl)))
      (λ v. let w = ap (data_at sc.own v) e in omega (arith, w))) f k
  laid_code pay valofs sc p s i aim (t.truth l x) d n c rest a h r m f k st =
      plain_laid pay sc p s i d n aim (t.truth l x) 0 c rest _ refl (λ g e. leaf_lies (home sc pay) i d c (ending aim rest) (truth_value x) _ e (truth_depth d x) st (λ setting y ns u. e)) f k
  laid_code pay valofs sc p s i aim (t.query l) d n c rest a h r m f k st =
      plain_laid pay sc p s i d n aim (t.query l) 0 c rest _ refl (λ g e. leaf_lies (home sc pay) i d c (ending aim rest) Query _ e refl st (λ setting y ns u. e)) f k
  laid_code pay valofs sc p s i pushes (t.parens l e) d n c rest a h r m f k st = laid_code pay valofs sc p (spot.past 1 s) i pushes e d n c rest a h r (omega arith) f k st
  laid_code pay valofs sc p s i (jumps v j) (t.parens l e) d n c rest a h r m f k st = laid_code pay valofs sc p (spot.past 1 s) i (jumps v j) e d n c rest a h r (omega arith) f k st
  laid_code pay valofs sc p s i aim (t.unary l q.Address e) d n c rest a h r m f k st =
      plain_laid pay sc p s i d n aim (t.unary l q.Address e) (objects e) c rest _ refl
      (λ g e1. laid_address pay valofs sc p (spot.past 1 s) i (Addressed false (at_expression e)) e d n c (ending aim rest) a h.0 h.1 r (omega arith) g e1 st) f k
  laid_code pay valofs sc p s i aim (t.unary l q.Contents e) d n c rest a h r m f k st =
      plain_laid pay sc p s i d n aim (t.unary l q.Contents e) (objects e) c rest _ refl (λ g e1. lies_behind (home sc pay) (d + 1) (d + 1) (Monadic w.Contents) (ending aim rest) refl
      (laid_code pay valofs sc p (spot.past 1 s) i pushes e d n c (Monadic w.Contents ∷ ending aim rest) a h.1 r (omega arith) g (joined_two _ (Monadic w.Contents ∷ []) (ending aim rest) c e1) st)) f k
  laid_code pay valofs sc p s i aim (t.unary l q.Plus e) d n c rest a h r m f k st =
      plain_laid pay sc p s i d n aim (t.unary l q.Plus e) (objects e) c rest _ refl
      (λ g e1. laid_code pay valofs sc p (spot.past 1 s) i pushes e d n c (ending aim rest) a h.1 r (omega arith) g (joined_two (value_code sc.targets d n (term_named sc.bindings p (spot.past 1 s) e)) [] (ending aim rest) c e1) st) f k
  laid_code pay valofs sc p s i aim (t.unary l q.Minus e) d n c rest a h r m f k st =
      plain_laid pay sc p s i d n aim (t.unary l q.Minus e) (objects e) c rest _ refl (λ g e1. lies_behind (home sc pay) (d + 1) (d + 1) (Monadic w.Negate) (ending aim rest) refl
      (laid_code pay valofs sc p (spot.past 1 s) i pushes e d n c (Monadic w.Negate ∷ ending aim rest) a h.1 r (omega arith) g (joined_two _ (Monadic w.Negate ∷ []) (ending aim rest) c e1) st)) f k
  laid_code pay valofs sc p s i pushes (t.unary l q.Not e) d n c rest a h r m f k st =
      let v = value_code sc.targets d n (term_named sc.bindings p (spot.past 1 s) e) in
      let k2 = joined_two v (Monadic w.Not ∷ []) rest c k in
      lies_behind (home sc pay) (d + 1) (d + 1) (Monadic w.Not) rest refl (laid_code pay valofs sc p (spot.past 1 s) i pushes e d n c (Monadic w.Not ∷ rest) a h.1 r (omega arith) f k2 st)
  laid_code pay valofs sc p s i (jumps v j) (t.unary l q.Not e) d n c rest a h r m f k st = laid_code pay valofs sc p (spot.past 1 s) i (jumps (not v) j) e d n c rest a h.1 r (omega arith) f k st
  laid_code pay valofs sc p s i (jumps false j) (t.binary l o.Both m0 x y) d n c rest a h r m f k st =
      two_jumps pay sc p s i x y false false j j d n c rest f (joined_two _ _ rest c k) st
      (λ c0 r0 f0 k0 st0. laid_code pay valofs sc p s i (jumps false j) x d (n + 1) c0 r0 a h.0 r.0 (omega arith) f0 k0 st0)
      (λ c0 r0 f0 k0 st0. laid_code pay valofs sc p _ (i + objects x) (jumps false j) y d _ c0 r0 a h.1 r.1 (omega arith) f0 k0 st0)
  laid_code pay valofs sc p s i (jumps true j) (t.binary l o.Both m0 x y) d n c rest a h r m f k st =
      labelled_lies sc pay i d n rest _ (λ g env. IsCode g sc d env (jumps true j) (t.binary l o.Both m0 x y) c rest)
      (two_jumps pay sc p s i x y false true n j d n c (Label n ∷ rest) f (joined_three _ _ (Label n ∷ []) rest c k) st
      (λ c0 r0 f0 k0 st0. laid_code pay valofs sc p s i (jumps false n) x d (n + 1) c0 r0 a h.0 r.0 (omega arith) f0 k0 st0)
      (λ c0 r0 f0 k0 st0. laid_code pay valofs sc p _ (i + objects x) (jumps true j) y d _ c0 r0 a h.1 r.1 (omega arith) f0 k0 st0))
      (λ g e (w : (c1 : List Stmt) × IsCode g sc d e (jumps false n) x c c1 × IsCode g sc d (past x e) (jumps true j) y c1 (Label n ∷ rest)) at.
      (n, w.0, w.1, w.2, at))
  laid_code pay valofs sc p s i (jumps true j) (t.binary l o.Either m0 x y) d n c rest a h r m f k st =
      two_jumps pay sc p s i x y true true j j d n c rest f (joined_two _ _ rest c k) st
      (λ c0 r0 f0 k0 st0. laid_code pay valofs sc p s i (jumps true j) x d (n + 1) c0 r0 a h.0 r.0 (omega arith) f0 k0 st0)
      (λ c0 r0 f0 k0 st0. laid_code pay valofs sc p _ (i + objects x) (jumps true j) y d _ c0 r0 a h.1 r.1 (omega arith) f0 k0 st0)
  laid_code pay valofs sc p s i (jumps false j) (t.binary l o.Either m0 x y) d n c rest a h r m f k st =
      labelled_lies sc pay i d n rest _ (λ g env. IsCode g sc d env (jumps false j) (t.binary l o.Either m0 x y) c rest)
      (two_jumps pay sc p s i x y true false n j d n c (Label n ∷ rest) f (joined_three _ _ (Label n ∷ []) rest c k) st
      (λ c0 r0 f0 k0 st0. laid_code pay valofs sc p s i (jumps true n) x d (n + 1) c0 r0 a h.0 r.0 (omega arith) f0 k0 st0)
      (λ c0 r0 f0 k0 st0. laid_code pay valofs sc p _ (i + objects x) (jumps false j) y d _ c0 r0 a h.1 r.1 (omega arith) f0 k0 st0))
      (λ g e (w : (c1 : List Stmt) × IsCode g sc d e (jumps true n) x c c1 × IsCode g sc d (past x e) (jumps false j) y c1 (Label n ∷ rest)) at.
      (n, w.0, w.1, w.2, at))
  laid_code pay valofs sc p s i pushes (t.binary l z0 m0 x y) d n c rest a h r m f k st =
      let hs = operands_sound z0 sc.bindings p s (second x s) x y h in
      operator_lies pay sc p s i z0 x y d n c rest a f k st
      (λ c0 r0 f0 k0 st0. laid_code pay valofs sc p s i pushes x d n c0 r0 a hs.0 r.0 (omega arith) f0 k0 st0)
      (λ c0 r0 b0 f0 k0 st0. laid_code pay valofs sc (deeper 1 p) _ (i + objects x) pushes y (d + 1) _ c0 r0 b0 hs.1 r.1 (omega arith) f0 k0 st0)
  laid_code pay valofs sc p s i (jumps v0 j) (t.binary l z0 m0 x y) d n c rest a h r m f k st =
      plain_laid pay sc p s i d n (jumps v0 j) (t.binary l z0 m0 x y) (objects x + objects y) c rest _ refl
      (λ g e. operator_lies pay sc p s i z0 x y d n c (ending (jumps v0 j) rest) a g e st
      (λ c0 r0 f0 k0 st0. laid_code pay valofs sc p s i pushes x d n c0 r0 a h.0 r.0 (omega arith) f0 k0 st0)
      (λ c0 r0 b0 f0 k0 st0. laid_code pay valofs sc (deeper 1 p) _ (i + objects x) pushes y (d + 1) _ c0 r0 b0 h.1 r.1 (omega arith) f0 k0 st0)) f k
  laid_code pay valofs sc p s i aim (t.choice l m0 e x y) d n c rest a h r m f k st =
      let e0 : Spot = spot.past 1 (spot.following e s) in
      let e1 : Spot = spot.following x e0 in
      let ce = condition_named sc.bindings p s e in
      let tx = term_named sc.bindings p e0 x in
      let ty = term_named sc.bindings p e1 y in
      let nx = n + 2 + labels_if ce in
      let ny = n + 2 + labels_if ce + labels tx in
      let vx = value_code sc.targets d nx tx in
      let vy = value_code sc.targets d ny ty in
      plain_laid pay sc p s i d n aim (t.choice l m0 e x y) (objects e + objects x + objects y) c rest _ refl (λ f1 k1.
      let tail = TakeResult d ∷ ending aim rest in
      let c2 = vy ++ (GiveResult (n + 1) ∷ Label (n + 1) ∷ tail) in
      let c1 = vx ++ (GiveResult (n + 1) ∷ Label n ∷ c2) in
      let k2 = joined_choice (jump_code sc.targets d (n + 2) ce false n) vx (GiveResult (n + 1) ∷ Label n ∷ []) (GiveResult (n + 1) ∷ Label (n + 1) ∷ TakeResult d ∷ []) vy (ending aim rest) c k1 in
      let fe = found_front sc.own sc.targets (parts_if d (n + 2) ce ++ parts d nx tx) _ f1 in
      let le = laid_code pay valofs sc p s i (jumps false n) e d (n + 2) c c1 a h.0 r.0 (omega arith) (found_front sc.own sc.targets (parts_if d (n + 2) ce) _ fe) k2 st in
      let lx = laid_code pay valofs sc p e0 (i + objects e) pushes x d nx c1 (GiveResult (n + 1) ∷ Label n ∷ c2) a h.1 r.1 (omega arith) (found_back sc.own sc.targets (parts_if d (n + 2) ce) _ fe) refl le.on in
      let sn = passed sc.own (d + 1) d (GiveResult (n + 1)) (Label n ∷ c2) lx.on (omega arith) in
      let ly = laid_code pay valofs sc p e1 (i + objects e + objects x) pushes y d ny c2 (GiveResult (n + 1) ∷ Label (n + 1) ∷ tail) a h.2 r.2 (omega arith) (found_back sc.own sc.targets (parts_if d (n + 2) ce ++ parts d nx tx) _ f1) refl (passed sc.own d d (Label n) c2 sn refl) in
      let sm = passed sc.own (d + 1) d (GiveResult (n + 1)) (Label (n + 1) ∷ tail) ly.on (omega arith) in
      lie (passed sc.own d (d + 1) (TakeResult d) (ending aim rest) (passed sc.own d d (Label (n + 1)) tail sm refl) refl)
      (bases_so (home sc pay) _ (λ g z v ns u. (n, n + 1, c1, c2, v.0.0 ns u, v.0.1 ns u, v.1 ns u, label_at g sc d n c2 z.own sn, label_at g sc d (n + 1) tail z.own sm))
      (three_bases (home sc pay) i (objects e) (objects x) (objects y) (parts_if d (n + 2) ce) (parts d nx tx) f1 _ _ _ le.objects_are lx.objects_are ly.objects_are))
      (λ q. let u = le.paid q in let v = lx.paid q in let w = ly.paid q in omega (arith, u, v, w))) f k
  laid_code pay valofs sc p s i aim (t.apply l m0 e es) d n c rest a h r m f k st =
      plain_laid pay sc p s i d n aim (t.apply l m0 e es) (objects e + objects_of_each es) c rest _ refl (λ f1 k1.
      let s1 : Spot = spot.past 1 (spot.following e s) in
      let z : Enclosing = deeper (size es + 2) p in
      let g1 = call_lies pay sc p s s1 i (CallFunction d) e es d n c (ending aim rest) a f1 k1 st
      (λ c1 c2 b0 f0 k0 st0. laid_each pay valofs sc (deeper 2 p) s1 (i + objects e) es (d + 2) (n + labels (term_named sc.bindings z s e)) c1 c2 b0 h.1 r.1 (omega arith) f0 k0 st0)
      (λ c2 b0 f0 k0 st0. laid_code pay valofs sc z s i pushes e (d + 2 + count es) n c2 (CallFunction d ∷ ending aim rest) b0 h.0 r.0 (omega arith) f0 k0 st0) in
      lie (passed sc.own (d + 2 + count es + 1) (d + 1) (CallFunction d) (ending aim rest) g1.on refl)
      (bases_so (home sc pay) _ (λ g z v ns u. let x = v ns u in (x.0, x.1, x.2, x.3, x.4, call_at g sc _ (CallFunction d) (ending aim rest) z.own g1.on, g1.on.shallow)) g1.objects_are)
      (λ q. let u = g1.paid q in omega (arith, u))) f k
  laid_code pay valofs sc p s i aim (t.valof l x) d n c rest a h r m f k st = valofs sc p s i aim l x d n c rest a h r m f k st
  laid_code pay valofs sc p s i aim (t.table l es) d n c rest a h r m f k st =
      plain_laid pay sc p s i d n aim (t.table l es) 1 c rest _ refl (λ f1 k1.
      let ws = words_named sc.bindings es in
      let items = map (λ w. DataNumber (signed w)) ws ++ f1.0.2.rest in
      lie (leaf_on sc.own d c (ending aim rest) (Address (Static n)) k1 refl st)
      (new_base (home sc pay) i (sc.own.places.label n) (static_table n ws ∷ []) f1 (λ ns. constant_words (with_names ns i) es) {C = λ v. 0} _ refl
      (λ ns u v. let h1 = words_paid sc.own v n ws (constant_words (with_names ns i) es) f1.0.2.rest (words_agree ns sc.bindings i es u) in omega (arith, h1))
      (statement_below sc.section sc.own f1.0.2.depth (DataLabel n) items (record { place = sc.own.places.label n; words = item_words sc.own.places items }) f1.0.2.stands refl) (λ g y z ns u. (n, k1, z))
      (λ g y z ns u v. (sc.own.places.label n, z, table_held g sc n l es i ns u a.words r h (f1.0.2) y.own)))
      (λ q. let v = ap (data_at sc.own q) k1 in omega (arith, v))) f k

  pub laid_each : (pay : ℕ) (valofs : ValofsLie pay) (sc : Scene) (p : Enclosing) (s : Spot) (i : ℕ) (es : Expressions) (d n : ℕ) (c rest : List Stmt) → Around sc p d → SoundEach 1 sc.bindings p s es → RegularEach es → turns_among true es ≤ pay
      → (f : FoundParts sc.own sc.targets (parts_each d n (terms_named 1 sc.bindings p s es))) → c ≡ each_code sc.targets d n (terms_named 1 sc.bindings p s es) ++ rest → IsNumbered sc.own d c
      → Lies (home sc pay) i (objects_of_each es) (d + count es) c rest (parts_each d n (terms_named 1 sc.bindings p s es)) f (λ ns. of_each (with_names ns i) es) (InNames sc.bindings i (λ g env. AreValues g sc d env es c rest))
  laid_each pay valofs sc p s i t.none d n c rest a h r m f k st =
      let e : d ≡ d + 0 = omega arith in
      lie (at_depth sc.own d (d + 0) rest e (written sc.own d c rest k st)) (no_bases (home sc pay) i _ (λ g y ns u. k)) (λ q. let v = ap (data_at sc.own q) k in omega (arith, v))
  laid_each pay valofs sc p s i (t.more e es) d n c rest a h r m f k st =
      let te = term_named sc.bindings p s e in
      let ve = value_code sc.targets d n te in
      let ves = each_code sc.targets (d + 1) (n + labels te) (terms_named 1 sc.bindings (deeper 1 p) (spot.following e s) es) in
      let c1 = ves ++ rest in
      let le = laid_code pay valofs sc p s i pushes e d n c c1 a h.0 r.0 (omega arith) (found_front sc.own sc.targets (parts d n te) _ f) (joined_two ve ves rest c k) st in
      let les = laid_each pay valofs sc (deeper 1 p) (spot.following e s) (i + objects e) es (d + 1) (n + labels te) c1 rest (around_deeper sc p d 1 (d + 1) refl le.on.shallow a) h.1 r.1 (omega arith)
      (found_back sc.own sc.targets (parts d n te) _ f) refl le.on in
      let deep : d + 1 + count es ≡ d + (count es + 1) = omega arith in
      lie (at_depth sc.own (d + 1 + count es) (d + (count es + 1)) rest deep les.on)
      (bases_so (home sc pay) _ (λ g y v ns u. (c1, v.0 ns u, v.1 ns u)) (both_bases (home sc pay) i (objects e) (objects_of_each es) (parts d n te) f _ _ le.objects_are les.objects_are))
      (λ q. let u = le.paid q in let v = les.paid q in omega (arith, u, v))

  -- an address
  pub laid_address : (pay : ℕ) (valofs : ValofsLie pay) (sc : Scene) (p : Enclosing) (s : Spot) (i : ℕ) (z : Role) (e : Expression) (d n : ℕ) (c rest : List Stmt) → Around sc p d → addressed sc.bindings e ≡ true → Sound z sc.bindings p s e → Regular e
      → turns_of true e ≤ pay → (f : FoundParts sc.own sc.targets (parts_at d n (lvalue_named sc.bindings p s e))) → c ≡ address_code sc.targets d n (lvalue_named sc.bindings p s e) ++ rest → IsNumbered sc.own d c
      → Lies (home sc pay) i (objects e) (d + 1) c rest (parts_at d n (lvalue_named sc.bindings p s e)) f (λ ns. of_expression (with_names ns i) e) (InNames sc.bindings i (λ g env. IsAddress g sc d env e c rest))
  laid_address pay valofs sc p s i z (t.name l x) d n c rest a y h r m f k st = leaf_lies (home sc pay) i d c rest _ _ k refl st (λ g v ns u. k)
  laid_address pay valofs sc p s i z (t.parens l e) d n c rest a y h r m f k st = laid_address pay valofs sc p (spot.past 1 s) i (parenthesised z) e d n c rest a y h r (omega arith) f k st
  laid_address pay valofs sc p s i z (t.unary l q.Contents e) d n c rest a y h r m f k st = laid_code pay valofs sc p (spot.past 1 s) i pushes e d n c rest a h.1 r (omega arith) f k st
  laid_address pay valofs sc p s i z (t.binary l o.Subscript m0 e x) d n c rest a y h r m f k st =
      lies_behind (home sc pay) (d + 1 + 1) (d + 1) (Dyadic two.Add) rest (omega arith)
      (two_values pay sc p s i e x d n c (Dyadic two.Add ∷ rest) a f (joined_three _ _ (Dyadic two.Add ∷ []) rest c k) st
      (λ c0 r0 f0 k0 st0. laid_code pay valofs sc p s i pushes e d n c0 r0 a h.0 r.0 (omega arith) f0 k0 st0)
      (λ c0 r0 b0 f0 k0 st0. laid_code pay valofs sc (deeper 1 p) _ (i + objects e) pushes x (d + 1) _ c0 r0 b0 h.1 r.1 (omega arith) f0 k0 st0))
  laid_address pay valofs sc p s i z e d n c rest a y h r m f k st = absurd (false≢true y)

  -- what is stored
  pub laid_store : (pay : ℕ) (valofs : ValofsLie pay) (sc : Scene) (p : Enclosing) (s : Spot) (i : ℕ) (z : Role) (e : Expression) (d n : ℕ) (c rest : List Stmt) → Around sc p (d + 1) → assigned sc.bindings e ≡ true → Sound z sc.bindings p s e → Regular e
      → turns_of true e ≤ pay → (f : FoundParts sc.own sc.targets (parts_at (d + 1) n (lvalue_named sc.bindings p s e))) → c ≡ store_code sc.targets (d + 1) n (lvalue_named sc.bindings p s e) ++ rest → IsNumbered sc.own (d + 1) c
      → Lies (home sc pay) i (objects e) d c rest (parts_at (d + 1) n (lvalue_named sc.bindings p s e)) f (λ ns. of_expression (with_names ns i) e) (InNames sc.bindings i (λ g env. IsStore g sc (d + 1) env e c rest))
  laid_store pay valofs sc p s i z (t.name l x) d n c rest a y h r m f k st =
      lie (passed sc.own (d + 1) d (Assign (variable sc.targets (meant (bound_in sc.bindings x)))) rest (written sc.own (d + 1) c _ k st) (omega arith)) (no_bases (home sc pay) i _ (λ g v ns u. k))
      (λ q. let v = ap (data_at sc.own q) k in omega (arith, v))
  laid_store pay valofs sc p s i z (t.parens l e) d n c rest a y h r m f k st = laid_store pay valofs sc p (spot.past 1 s) i (parenthesised z) e d n c rest a y h r (omega arith) f k st
  laid_store pay valofs sc p s i z (t.unary l q.Contents e) d n c rest a y h r m f k st =
      let v = value_code sc.targets (d + 1) n (term_named sc.bindings p (spot.past 1 s) e) in
      lies_behind (home sc pay) (d + 1 + 1) d AssignAt rest (omega arith) (laid_code pay valofs sc p (spot.past 1 s) i pushes e (d + 1) n c (AssignAt ∷ rest) a h.1 r (omega arith) f (joined_two v (AssignAt ∷ []) rest c k) st)
  laid_store pay valofs sc p s i z (t.binary l o.Subscript m0 e x) d n c rest a y h r m f k st =
      lies_behind (home sc pay) (d + 1 + 1) d AssignAt rest (omega arith)
      (lies_behind (home sc pay) (d + 1 + 1 + 1) (d + 1 + 1) (Dyadic two.Add) (AssignAt ∷ rest) (omega arith)
      (two_values pay sc p s i e x (d + 1) n c (Dyadic two.Add ∷ AssignAt ∷ rest) a f (joined_three _ _ (Dyadic two.Add ∷ AssignAt ∷ []) rest c k) st
      (λ c0 r0 f0 k0 st0. laid_code pay valofs sc p s i pushes e (d + 1) n c0 r0 a h.0 r.0 (omega arith) f0 k0 st0)
      (λ c0 r0 b0 f0 k0 st0. laid_code pay valofs sc (deeper 1 p) _ (i + objects e) pushes x (d + 1 + 1) _ c0 r0 b0 h.1 r.1 (omega arith) f0 k0 st0)))
  laid_store pay valofs sc p s i z (t.binary l o.Byte m0 e x) d n c rest a y h r m f k st =
      lies_behind (home sc pay) (d + 1 + 1 + 1) d AssignByte rest (omega arith)
      (two_values pay sc p s i e x (d + 1) n c (AssignByte ∷ rest) a f (joined_three _ _ (AssignByte ∷ []) rest c k) st
      (λ c0 r0 f0 k0 st0. laid_code pay valofs sc p s i pushes e (d + 1) n c0 r0 a h.0 r.0 (omega arith) f0 k0 st0)
      (λ c0 r0 b0 f0 k0 st0. laid_code pay valofs sc (deeper 1 p) _ (i + objects e) pushes x (d + 1 + 1) _ c0 r0 b0 h.1 r.1 (omega arith) f0 k0 st0))
  laid_store pay valofs sc p s i z e d n c rest a y h r m f k st = absurd (false≢true y)

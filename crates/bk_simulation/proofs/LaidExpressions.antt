-- What the static side of each form needs: codes for a value or a jump, what stands around code, and how parts are laid together. A call is laid where the
-- scheme puts it, where its arguments and what it calls are.
use Rattle.bk_simulation.proofs.Words.{◌≡◌, ℕ, ◌+◌, ◌<◌, ◌≤◌, ◌^◌, Bool, true, false, List, [], ◌∷◌, ◌++◌, Option, Some, None, cond, refl, sym, ap, ◌∙◌, subst, arith, append_assoc, bytes_eq, FRAME_WORDS, Operator, Expression, Expressions, Command, Bound, Enclosing, Role, Truth, Binding, bound_in, named_word, prefix_word, constant_word, deeper, Spot, next_depth, Placed, Stmt, JumpIf, Monadic, Dyadic, LoadByte, Target, term_named, condition_named, Part, parts, parts_if, push, infix_code, truth_value, value_code, jump_code, Named, Sense, constant, label, Environment, sense_in, word_named, constant_in, Sought, the_case, same_place, has_place, Lasting, size, Stack, labels, terms_named, parts_each, each_code, objects, objects_of_each, of_expression, of_each, option_and_then}
use Rattle.bk_simulation.proofs.Pieces.{with_names, Setting, Scene, Aim, pushes, jumps, ending, count, IsCode, AreValues, Agree, AgreeWords, stands_by}
use Rattle.bk_simulation.proofs.Terms.{Value, Operator as o, Bound as b, Dyadic as two, Monadic as w}
use Rattle.bk_simulation.proofs.Standing.{IsNumbered, passed, Home, home, Fitting, no_bases, Lies, written, both_bases, bases_so, lie, lies_behind, data_at, FoundParts, found_front, found_back}
use Rattle.bk_tree.specs.Tree as t
use Rattle.bk_trans.specs.Program as term
use Rattle.bk_scope.specs.Spots as spot
use Rattle.bk_trans.specs.Depths as depths

-- what the scheme gives for a value and for a jump
abbrev pub coded : Scene → Enclosing → Spot → ℕ → ℕ → Aim → Expression → List Stmt
coded sc p s d n pushes e = value_code sc.targets d n (term_named sc.bindings p s e)
coded sc p s d n (jumps u l) e = jump_code sc.targets d n (condition_named sc.bindings p s e) u l

abbrev pub own_parts : Scene → Enclosing → Spot → ℕ → ℕ → Aim → Expression → List Part
own_parts sc p s d n pushes e = parts d n (term_named sc.bindings p s e)
own_parts sc p s d n (jumps u l) e = parts_if d n (condition_named sc.bindings p s e)

abbrev pub role : Aim → Role
role pushes = Value
role (jumps u l) = Truth

abbrev pub level : Aim → ℕ → ℕ
level pushes d = d + 1
level (jumps u l) d = d

-- names in scope whose constants are words
abbrev pub HasWords : List Binding → Type 0
HasWords bs = (x : List ℕ) (v : ℕ) → bound_in bs x ≡ Some (b.Constant (Some v)) → v < 2 ^ 32

-- What stands around an expression: its procedure, its depth, and constants that are words.
pub record Around (sc : Scene) (p : Enclosing) (d : ℕ) : Type 0 where
  pub same : p.procedure ≡ sc.procedure
  pub at : p.depth ≡ d
  pub words : HasWords sc.bindings

pub around_deeper : (sc : Scene) (p : Enclosing) (d k m : ℕ) → d + k ≡ m → m ≤ FRAME_WORDS → Around sc p d → Around sc (deeper k p) m
around_deeper sc p d k m e low a =
    record { same = a.same; at = omega (arith, a.at, e, low); words = a.words }

-- ---- names

pub constants_agree : (ns : List Named) (bs : List Binding) (i : ℕ) → AgreeWords ns bs → (e : Expression) → constant_in (with_names ns i) e ≡ constant_word bs e
constants_agree ns bs i a (t.name l x) = a x
constants_agree ns bs i a (t.parens l e) = constants_agree ns bs i a e
constants_agree ns bs i a (t.unary l f e) = ap (λ y. option_and_then (prefix_word f) y) (constants_agree ns bs i a e)
constants_agree ns bs i a (t.binary l f m x y) = grind (arith, (constants_agree ns bs i a x), (constants_agree ns bs i a y))
constants_agree ns bs i a _ = refl

-- names by what is in scope
abbrev pub sense_for : Bound → Sense
sense_for (b.Constant (Some w)) = constant w
sense_for _ = label

abbrev pub names_of : List Binding → List Named
names_of [] = []
names_of (x ∷ xs) = record { name = x.name; sense = sense_for x.bound } ∷ names_of xs

abbrev pub known : List Binding → Environment
known bs = with_names (names_of bs) 0

sense_agrees : (x : Bound) → word_named (Some (sense_for x)) ≡ named_word (Some x)
sense_agrees (b.Constant (Some w)) = refl
sense_agrees _ = refl

either_agrees : (q : Bool) (u v : Option Sense) (x y : Option Bound) → word_named u ≡ named_word x → word_named v ≡ named_word y → word_named (cond q u v) ≡ named_word (cond q x y)
either_agrees true u v x y h i = h
either_agrees false u v x y h i = i

pub known_agree : (bs : List Binding) → AgreeWords (names_of bs) bs
known_agree [] y = refl
known_agree (x ∷ xs) y = either_agrees (bytes_eq x.name y) (Some (sense_for x.bound)) (sense_in (names_of xs) y) (Some x.bound) (bound_in xs y) (sense_agrees x.bound) (known_agree xs y)

-- What holds with names that agree, from this lasting object on.
abbrev pub InNames : List Binding → ℕ → (Setting → Environment → Type 0) → Setting → Type 0
InNames bs next P setting = (ns : List Named) → Agree ns bs → P setting (with_names ns next)

-- seeking finds the same where constants are the same
pub stands_agree : (s : Sought) (ns : List Named) (bs : List Binding) (i : ℕ) → Agree ns bs → (c : Command) → has_place s (with_names ns i) c ≡ has_place s (known bs) c
stands_agree s ns bs i a c = stands_by s (with_names ns i) (known bs) (λ e. ap (λ y. same_place s (the_case y)) (constants_agree ns bs i a.0 e ∙ sym (constants_agree (names_of bs) bs 0 (known_agree bs) e))) c

-- ---- expressions that have no jumps of their own

-- such an expression is laid for a jump where it is laid for a value, before the jump
pub plain_laid : (pay : ℕ) (sc : Scene) (p : Enclosing) (s : Spot) (i d n : ℕ) (aim : Aim) (e : Expression) (many : ℕ) (c rest : List Stmt) {L : List Named → List Lasting} (P : Setting → Type 0)
    → condition_named sc.bindings p s e ≡ term.holds (term_named sc.bindings p s e)
    → ((f : FoundParts sc.own sc.targets (parts d n (term_named sc.bindings p s e))) → c ≡ value_code sc.targets d n (term_named sc.bindings p s e) ++ ending aim rest
    → Lies (home sc pay) i many (d + 1) c (ending aim rest) (parts d n (term_named sc.bindings p s e)) f L P)
    → (f : FoundParts sc.own sc.targets (own_parts sc p s d n aim e)) → c ≡ coded sc p s d n aim e ++ rest
    → Lies (home sc pay) i many (level aim d) c rest (own_parts sc p s d n aim e) f L P
plain_laid pay sc p s i d n pushes e many c rest P h laid f k = laid f k
plain_laid pay sc p s i d n (jumps u l) e many c rest {L} P h laid f k =
    subst (λ x. (f : FoundParts sc.own sc.targets (parts_if d n x)) → c ≡ jump_code sc.targets d n x u l ++ rest → Lies (home sc pay) i many d c rest (parts_if d n x) f L P) (sym h)
    (λ g e1. lies_behind (home sc pay) (d + 1) d (JumpIf u l) rest (omega arith)
    (laid g (e1 ∙ append_assoc (value_code sc.targets d n (term_named sc.bindings p s e)) (JumpIf u l ∷ []) rest))) f k

-- one statement that pushes
pub leaf_on : (own : Placed) (d : ℕ) (c rest : List Stmt) (x : Stmt) → c ≡ x ∷ rest → next_depth d x ≡ d + 1 → IsNumbered own d c → IsNumbered own (d + 1) rest
leaf_on own d c rest x e m st = passed own d (d + 1) x rest (subst (λ y. IsNumbered own d y) e st) m

pub leaf_lies : (h : Home) (next d : ℕ) (c rest : List Stmt) (x : Stmt) {f : FoundParts h.own h.targets []} (P : Setting → Type 0) → c ≡ x ∷ rest → next_depth d x ≡ d + 1 → IsNumbered h.own d c
    → ((setting : Setting) → Fitting h setting → P setting) → Lies h next 0 (d + 1) c rest [] f (λ ns. []) P
leaf_lies h next d c rest x P e m st g = lie (leaf_on h.own d c rest x e m st) (no_bases h next P g) (λ a. let k = ap (data_at h.own a) e in omega (arith, k))

pub pushed_depth : (ts : List Target) (k : ℕ) (x : Bound) → next_depth k (push ts x) ≡ k + 1
pushed_depth ts k (b.Constant None) = refl
pushed_depth ts k _ = refl

pub truth_depth : (k : ℕ) (x : Bool) → next_depth k (truth_value x) ≡ k + 1
truth_depth k true = refl
truth_depth k false = refl

-- an operator takes two items and gives one
pub infix_on : (own : Placed) (f : Operator) (d : ℕ) (rest : List Stmt) → IsNumbered own (d + 1 + 1) (infix_code f ++ rest) → IsNumbered own (d + 1) rest
infix_on own o.Subscript d rest h = passed own (d + 1) (d + 1) (Monadic w.Contents) rest (passed own (d + 1 + 1) (d + 1) (Dyadic two.Add) (Monadic w.Contents ∷ rest) h (omega arith)) refl
infix_on own o.Byte d rest h = passed own (d + 1 + 1) (d + 1) LoadByte rest h (omega arith)
infix_on own _ d rest h = passed own (d + 1 + 1) (d + 1) _ rest h (omega arith)

-- codes one behind the other, with what follows
pub joined_two : (x y r c : List Stmt) → c ≡ (x ++ y) ++ r → c ≡ x ++ (y ++ r)
joined_two x y r c e = e ∙ append_assoc x y r

pub joined_three : (x y z r c : List Stmt) → c ≡ (x ++ y ++ z) ++ r → c ≡ x ++ (y ++ (z ++ r))
joined_three x y z r c e = e ∙ append_assoc (x ++ y) z r ∙ append_assoc x y (z ++ r)

-- the codes of `E1 -> E2, E3`
pub joined_choice : (x y g h v r c : List Stmt) → c ≡ (x ++ y ++ (g ++ v) ++ h) ++ r → c ≡ x ++ (y ++ (g ++ (v ++ (h ++ r))))
joined_choice x y g h v r c e = e ∙ append_assoc ((x ++ y) ++ (g ++ v)) h r ∙ append_assoc (x ++ y) (g ++ v) (h ++ r) ∙ append_assoc x y ((g ++ v) ++ (h ++ r)) ∙ ap (λ k. x ++ (y ++ k)) (append_assoc g v (h ++ r))

size_count : (es : Expressions) → size es ≡ count es
size_count t.none = refl
size_count (t.more e es) = ap (λ k. k + 1) (size_count es)

count_named : (n : ℕ) (bs : List Binding) (p : Enclosing) (s : Spot) (es : Expressions) → depths.count (terms_named n bs p s es) ≡ count es
count_named n bs p s t.none = refl
count_named n bs p s (t.more e es) = ap (λ k. k + 1) (count_named n bs (deeper n p) (spot.following e s) es)

-- a call: its arguments and what is called
pub call_lies : (pay : ℕ) (sc : Scene) (p : Enclosing) (s s1 : Spot) (i : ℕ) (call : Stmt) (e : Expression) (es : Expressions) (d n : ℕ) (c rest : List Stmt) → Around sc p d
    → (f : FoundParts sc.own sc.targets (parts (d + 2 + depths.count (terms_named 1 sc.bindings (deeper 2 p) s1 es)) n (term_named sc.bindings (deeper (size es + 2) p) s e)
    ++ parts_each (d + 2) (n + labels (term_named sc.bindings (deeper (size es + 2) p) s e)) (terms_named 1 sc.bindings (deeper 2 p) s1 es)))
    → c ≡ ((Stack (d + 2) ∷ each_code sc.targets (d + 2) (n + labels (term_named sc.bindings (deeper (size es + 2) p) s e)) (terms_named 1 sc.bindings (deeper 2 p) s1 es))
    ++ value_code sc.targets (d + 2 + depths.count (terms_named 1 sc.bindings (deeper 2 p) s1 es)) n (term_named sc.bindings (deeper (size es + 2) p) s e) ++ (call ∷ [])) ++ rest → IsNumbered sc.own d c
    → ((c1 c2 : List Stmt) → Around sc (deeper 2 p) (d + 2) → (g : FoundParts sc.own sc.targets (parts_each (d + 2) (n + labels (term_named sc.bindings (deeper (size es + 2) p) s e)) (terms_named 1 sc.bindings (deeper 2 p) s1 es)))
    → c1 ≡ each_code sc.targets (d + 2) (n + labels (term_named sc.bindings (deeper (size es + 2) p) s e)) (terms_named 1 sc.bindings (deeper 2 p) s1 es) ++ c2 → IsNumbered sc.own (d + 2) c1
    → Lies (home sc pay) (i + objects e) (objects_of_each es) (d + 2 + count es) c1 c2 (parts_each (d + 2) (n + labels (term_named sc.bindings (deeper (size es + 2) p) s e)) (terms_named 1 sc.bindings (deeper 2 p) s1 es)) g (λ ns. of_each (with_names ns (i + objects e)) es) (InNames sc.bindings (i + objects e) (λ g env. AreValues g sc (d + 2) env es c1 c2)))
    → ((c2 : List Stmt) → Around sc (deeper (size es + 2) p) (d + 2 + count es) → (g : FoundParts sc.own sc.targets (parts (d + 2 + count es) n (term_named sc.bindings (deeper (size es + 2) p) s e)))
    → c2 ≡ value_code sc.targets (d + 2 + count es) n (term_named sc.bindings (deeper (size es + 2) p) s e) ++ (call ∷ rest) → IsNumbered sc.own (d + 2 + count es) c2
    → Lies (home sc pay) i (objects e) (d + 2 + count es + 1) c2 (call ∷ rest) (parts (d + 2 + count es) n (term_named sc.bindings (deeper (size es + 2) p) s e)) g (λ ns. of_expression (with_names ns i) e)
    (InNames sc.bindings i (λ g env. IsCode g sc (d + 2 + count es) env pushes e c2 (call ∷ rest))))
    → Lies (home sc pay) i (objects e + objects_of_each es) (d + 2 + count es + 1) c (call ∷ rest) (parts (d + 2 + depths.count (terms_named 1 sc.bindings (deeper 2 p) s1 es)) n (term_named sc.bindings (deeper (size es + 2) p) s e)
    ++ parts_each (d + 2) (n + labels (term_named sc.bindings (deeper (size es + 2) p) s e)) (terms_named 1 sc.bindings (deeper 2 p) s1 es)) f (λ ns. of_expression (with_names ns i) e ++ of_each (with_names ns (i + objects e)) es)
    (InNames sc.bindings i (λ g env. (c1 c2 : List Stmt) × (c ≡ Stack (d + 2) ∷ c1)
    × AreValues g sc (d + 2) (with_names env.names (i + objects e)) es c1 c2 × IsCode g sc (d + 2 + count es) env pushes e c2 (call ∷ rest)))
call_lies pay sc p s s1 i call e es d n c rest a f k st each one =
    let z : Enclosing = deeper (size es + 2) p in
    let te = term_named sc.bindings z s e in
    let tes = terms_named 1 sc.bindings (deeper 2 p) s1 es in
    let same : depths.count tes ≡ count es = count_named 1 sc.bindings (deeper 2 p) s1 es in
    let many : size es ≡ count es = size_count es in
    let ve = value_code sc.targets (d + 2 + depths.count tes) n te in
    let ves = each_code sc.targets (d + 2) (n + labels te) tes in
    let c2 = ve ++ (call ∷ rest) in
    let c1 = ves ++ c2 in
    let k1 : c ≡ Stack (d + 2) ∷ c1 = joined_three (Stack (d + 2) ∷ ves) ve (call ∷ []) rest c k in
    let s0 = passed sc.own d (d + 2) (Stack (d + 2)) c1 (written sc.own d c (Stack (d + 2) ∷ c1) k1 st) refl in
    let pe = parts (d + 2 + depths.count tes) n te in
    let les = each c1 c2 (around_deeper sc p d 2 (d + 2) refl s0.shallow a) (found_back sc.own sc.targets pe _ f) refl s0 in
    let le = subst (λ x. (g : FoundParts sc.own sc.targets (parts (d + 2 + x) n te)) → c2 ≡ value_code sc.targets (d + 2 + x) n te ++ (call ∷ rest)
    → Lies (home sc pay) i (objects e) (d + 2 + count es + 1) c2 (call ∷ rest) (parts (d + 2 + x) n te) g (λ ns. of_expression (with_names ns i) e)
    (InNames sc.bindings i (λ g env. IsCode g sc (d + 2 + count es) env pushes e c2 (call ∷ rest)))) (sym same)
    (λ g e1. one c2 (around_deeper sc p d (size es + 2) (d + 2 + count es) (omega (arith, many)) les.on.shallow a) g e1 les.on) (found_front sc.own sc.targets pe _ f) refl in
    lie le.on (bases_so (home sc pay) _ (λ g y v ns u. (c1, c2, k1, v.1 ns u, v.0 ns u)) (both_bases (home sc pay) i (objects e) (objects_of_each es) pe f _ _ le.objects_are les.objects_are))
    (λ q. let x = le.paid q in let y = les.paid q in let v = ap (data_at sc.own q) k1 in omega (arith, x, y, v))

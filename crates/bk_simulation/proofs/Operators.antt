-- What is done with one value and with two: `!`, `@`, signs, NOT, and the operators. Truth where it is asked for: values, NOT, `&` and `|`; and `->`.
use Rattle.bk_simulation.proofs.Terms.{Dyadic as Two_word, Monadic as Monadic_word, Variable as Named, Operator as o, Prefix as q, Dyadic as two, Monadic as m, Bound as b}
use Rattle.bk_simulation.proofs.Compose.{topped, completed_more, completed_on, ran_on, ran_first, ran_more, above, stay, by_option, contents_moves, dyadic_moves, load_byte_moves, Moves, dyadic_ends, does, one_off, pushed, Applies, fits_more, BaseOf, Grown, Store, read_at, variable_found, read_here, read_byte_at, operates, sum_applied, PrefixedAs, OperatedAs, Setting, IsValue, named_word, Scene, LabelAt, IsJump, Configuration, Account, there, Has, went, start, Ready, Ran, with_ran, CompletedAt, Out, next, ready_next, store, state, place_of, NameAt, Completed, turns_of, IsWord, on_number, step_by, slot, Goes, ◌≡◌, ℕ, ◌+◌, ◌<◌, ◌≤◌, List, ◌∷◌, ◌++◌, Option, Some, None, refl, sym, ap, subst, arith, ◌-◌, ◌*◌, ◌^◌, Bool, true, false, length, ◌∙◌, option_map, signed, word_of, truth as truth_word, Operator, Word, content_of, Content, Unset, Temporary, Held, write, below, Inside, State, dyadic_word, named_place, DivideByZero, Stmt, Monadic, Dyadic, LoadByte, Number, True, False, Query, Load, Address, Text, infix_code, variable, push, truth_value, Value, number, address, unset, read, read_byte, World, Outcome, gives, ends, undefined, given, with, sum, operate, operate_prefix, fetch, Meanings, named, combined, Expression, past, Sense, constant, cell, sense_of, Adds, adds, with_after, of_z-to_z, Bound, bound_in, Local, Static, Target, meant, not, from_label, Label, GiveResult, TakeResult, Environment, either, history, stays, either_after, w32, Cause, cell_cause, byte_cause, sum_cause}
use Rattle.bk_simulation.proofs.Simulates.{Simulates, for_value, for_truth, where_to, HasTruth}
use Rattle.bk_simulation.proofs.ControlSteps.{label_on, landed_on, result_on, taken_on}

-- ---- Values without parts: numbers, names, strings, tables, TRUE, FALSE and `?`.

abbrev pub RanValue : Setting → State → Account → Configuration → List Stmt → World → Outcome Value → Type 0
RanValue setting s B z rest w o = Ran setting s B (Has setting s B z rest (z.depth + 1) w) (Out setting s B z w) o

-- a word is pushed
abbrev with_item : Configuration → Content → List Stmt → World → State
with_item z x rest w = state z.scene.own (z.depth + 1) rest (below (z.frame + (z.depth + 1)) (write z.cells (z.frame + z.depth) (Held Temporary x))) z.frame None ((z.frame + z.depth) ∷ z.written) w

pub pushes_item : (setting : Setting) (B : Account) (z : Configuration) (c : List Stmt) (i : Stmt) (rest : List Stmt) (w : World) (v : Value) (x : Content) → 16 * w.turns + 1 ≤ B.most → B.least ≤ w.turns → c ≡ i ∷ rest → Ready setting z w
    → Applies setting.codes z.bases v x → Moves setting.program (start z (i ∷ rest) w) (with_item z x rest w) → Has setting (start z c w) B z rest (z.depth + 1) w v w
pushes_item setting B z c i rest w v x le le' ec r st e =
    let A : Account = record { most = 16 * w.turns; least = w.turns } in
    subst (λ l. Has setting (start z l w) B z rest (z.depth + 1) w v w) (sym ec)
    (topped _ le le' r.deep (stay setting A z (i ∷ rest) w (omega arith) (omega arith) r) st e)

-- a number of the source is its word
pub same_number : (n : ℕ) → n < 2 ^ 32 → word_of (signed n) ≡ n
same_number n lt = of_z-to_z w32 n lt

pub number_runs : (setting : Setting) (B : Account) (z : Configuration) (c : List Stmt) (n : ℕ) (rest : List Stmt) (w : World) → 16 * w.turns + 1 ≤ B.most → B.least ≤ w.turns → c ≡ Number (signed n) ∷ rest → n < 2 ^ 32 → Ready setting z w
    → RanValue setting (start z c w) B z rest w (gives (number n) w)
number_runs setting B z c n rest w le le' ec lt r =
    went (pushes_item setting B z c (Number (signed n)) rest w (number n) (Word (word_of (signed n))) le le' ec r (ap Word (same_number n lt))
    (does setting.program (start z (Number (signed n) ∷ rest) w) z.scene.own rest z.depth (Number (signed n)) refl refl refl))

pub truth_runs : (setting : Setting) (B : Account) (z : Configuration) (c : List Stmt) (t : Bool) (rest : List Stmt) (w : World) → 16 * w.turns + 1 ≤ B.most → B.least ≤ w.turns → c ≡ truth_value t ∷ rest → Ready setting z w
    → RanValue setting (start z c w) B z rest w (gives (number (truth_word t)) w)
truth_runs setting B z c true rest w le le' ec r =
    went (pushes_item setting B z c True rest w (number (truth_word true)) (Word (truth_word true)) le le' ec r refl (does setting.program (start z (True ∷ rest) w) z.scene.own rest z.depth True refl refl refl))
truth_runs setting B z c false rest w le le' ec r =
    went (pushes_item setting B z c False rest w (number (truth_word false)) (Word (truth_word false)) le le' ec r refl (does setting.program (start z (False ∷ rest) w) z.scene.own rest z.depth False refl refl refl))

pub query_runs : (setting : Setting) (B : Account) (z : Configuration) (c : List Stmt) (rest : List Stmt) (w : World) → 16 * w.turns + 1 ≤ B.most → B.least ≤ w.turns → c ≡ Query ∷ rest → Ready setting z w
    → RanValue setting (start z c w) B z rest w (gives unset w)
query_runs setting B z c rest w le le' ec r =
    went (pushes_item setting B z c Query rest w unset Unset le le' ec r tt (does setting.program (start z (Query ∷ rest) w) z.scene.own rest z.depth Query refl refl refl))

-- the address of an object that lasts
lasting_stands : (setting : Setting) (bases : List ℕ) (o base : ℕ) → Grown setting.lasting bases → BaseOf setting.lasting o base → Applies setting.codes bases (address o 0) (Word base)
lasting_stands setting bases o base grown e = grind arith

pub text_runs : (setting : Setting) (B : Account) (z : Configuration) (c : List Stmt) (bytes : List ℕ) (rest : List Stmt) (w : World) (o : ℕ) → 16 * w.turns + 1 ≤ B.most → B.least ≤ w.turns → c ≡ Text bytes ∷ rest
    → BaseOf setting.lasting o (z.scene.own.places.text (length rest)) → Ready setting z w → RanValue setting (start z c w) B z rest w (gives (address o 0) w)
text_runs setting B z c bytes rest w o le le' ec e r =
    went (pushes_item setting B z c (Text bytes) rest w (address o 0) (Word (z.scene.own.places.text (length rest))) le le' ec r (lasting_stands setting z.bases o _ r.lasts e)
    (does setting.program (start z (Text bytes ∷ rest) w) z.scene.own rest z.depth (Text bytes) refl refl refl))

pub table_runs : (setting : Setting) (B : Account) (z : Configuration) (c : List Stmt) (n : ℕ) (rest : List Stmt) (w : World) (o : ℕ) → 16 * w.turns + 1 ≤ B.most → B.least ≤ w.turns → c ≡ Address (Static n) ∷ rest
    → BaseOf setting.lasting o (z.scene.own.places.label n) → Ready setting z w → RanValue setting (start z c w) B z rest w (gives (address o 0) w)
table_runs setting B z c n rest w o le le' ec e r =
    went (pushes_item setting B z c (Address (Static n)) rest w (address o 0) (Word (z.scene.own.places.label n)) le le' ec r (lasting_stands setting z.bases o _ r.lasts e)
    (does setting.program (start z (Address (Static n) ∷ rest) w) z.scene.own rest z.depth (Address (Static n)) refl refl refl))

-- the place that a statement names
pub named_at : (z : Configuration) (c : List Stmt) (w : World) (v : Named) → named_place (start z c w) z.scene.own v ≡ place_of z.scene.own z.frame v
named_at z c w (Local n) = refl
named_at z c w _ = refl

push_word : (ts : List Target) (y : Option Bound) → IsWord y → push ts (meant y) ≡ Load (variable ts (meant y))
push_word ts (Some (b.Global (Some n))) h = refl
push_word ts (Some (b.Static m)) h = refl
push_word ts (Some (b.Variable k i)) h = refl
push_word ts _ h = absurd h

-- the word of a name is pushed
cell_runs : (why : Cause) (setting : Setting) (B : Account) (z : Configuration) (c : List Stmt) (x : List ℕ) (rest : List Stmt) (w : World) (o i base : ℕ) → 16 * w.turns + 1 ≤ B.most → B.least ≤ w.turns → c ≡ Load (named_word z.scene x) ∷ rest → Ready setting z w
    → BaseOf z.bases o base → base + i ≡ place_of z.scene.own z.frame (named_word z.scene x) → (place : ℕ) (y : Option Value) → read w.memory (address o i) ≡ y → RanValue setting (start z c w) B z rest w (given place why y w)
cell_runs why setting B z c x rest w o i base le le' ec r eb ep place None h = went tt
cell_runs why setting B z c x rest w o i base le le' ec r eb ep place (Some v) h =
    let f = read_here setting.codes (store z w) (z.frame + z.depth) o i base v r.fits eb h in
    let s = start z (Load (named_word z.scene x) ∷ rest) w in
    let here : z.cells (named_place s z.scene.own (named_word z.scene x)) ≡ z.cells (base + i) = ap z.cells (named_at z (Load (named_word z.scene x) ∷ rest) w (named_word z.scene x) ∙ sym ep) in
    went (pushes_item setting B z c (Load (named_word z.scene x)) rest w v (content_of (z.cells (named_place s z.scene.own (named_word z.scene x)))) le le' ec r
    (subst (λ k. Applies setting.codes z.bases v k) (sym (ap content_of (here ∙ f.there))) f.stands)
    (does setting.program s z.scene.own rest z.depth (Load (named_word z.scene x)) refl refl refl))

pub name_runs : (place : ℕ) (setting : Setting) (B : Account) (z : Configuration) (c : List Stmt) (x : List ℕ) (rest : List Stmt) (w : World) → 16 * w.turns + 1 ≤ B.most → B.least ≤ w.turns → c ≡ push z.scene.targets (meant (bound_in z.scene.bindings x)) ∷ rest
    → Ready setting z w → RanValue setting (start z c w) B z rest w (named place (sense_of x z.env) w)
name_runs place setting B z c x rest w le le' ec r = by_sense (sense_of x z.env) (r.named.each x)
  where
    by_sense : (y : Option Sense) → NameAt z.scene z.bases z.frame x y → RanValue setting (start z c w) B z rest w (named place y w)
    by_sense (Some (constant n)) h = number_runs setting B z c n rest w le le' (ec ∙ ap (λ y. push z.scene.targets (meant y) ∷ rest) h.0) h.1 r
    by_sense (Some (cell o i)) h =
        cell_runs _ setting B z c x rest w o i h.0 le le' (ec ∙ ap (λ y. y ∷ rest) (push_word z.scene.targets (bound_in z.scene.bindings x) h.4)) r h.1 h.3 place (read w.memory (address o i)) refl
    by_sense _ h = went tt

-- ---- One value and two, and what is done with them.

pub value_run : (setting : Setting) (inner : Meanings) → Simulates setting inner → (e : Expression) (z : Configuration) (c rest : List Stmt) (w : World) → IsValue setting z.scene z.depth z.env e c rest → Ready setting z w
    → Ran setting (start z c w) (for_value e w) (Has setting (start z c w) (for_value e w) z rest (z.depth + 1) w) (Out setting (start z c w) (for_value e w) z w) (inner.value e z.env w)
value_run setting inner sim e z c rest w l r = ran_first (omega arith) (omega arith) (λ t w1 q. q.0) (sim.value e z c rest w l r)

-- One value, and what follows it.
pub one_run : {T : Type 0} (setting : Setting) (inner : Meanings) → Simulates setting inner → (B : Account) (e : Expression) (z : Configuration) (c rest : List Stmt) (w : World) (L : T → World → Type 0) (go : Value → World → Outcome T)
    → ((u : Value) → Adds (go u)) → 16 * w.turns ≤ B.most + 4 → B.least ≤ w.turns - turns_of false e → IsValue setting z.scene z.depth z.env e c rest → Ready setting z w
    → ((u : Value) (w1 : World) → Has setting (start z c w) (for_value e w) z rest (z.depth + 1) w u w1 → 1 ≤ w.turns → Ran setting (start z c w) B L (Out setting (start z c w) B z w) (go u w1))
    → Ran setting (start z c w) B L (Out setting (start z c w) B z w) (with (inner.value e z.env w) go)
one_run setting inner sim B e z c rest w L go ad le le' l r h = with_ran ad (ran_more (omega arith) (omega arith) (sim.value e z c rest w l r)) (λ u w1 q. h u w1 q.0 q.1)

-- two values are on top
pub record Two (setting : Setting) (s : State) (A : Account) (z : Configuration) (c : List Stmt) (w : World) (u v : Value) (w2 : World) : Type 0 where
  pub arr : CompletedAt setting s A z c (z.depth + 1 + 1) w w2
  pub first : Applies setting.codes arr.bases1 u (content_of (arr.cells1 (z.frame + z.depth)))
  pub second : Applies setting.codes arr.bases1 v (content_of (arr.cells1 (z.frame + (z.depth + 1))))

abbrev pub for_two : Expression → Expression → World → Account
for_two a b w = record { most = 16 * w.turns - 4; least = w.turns - (turns_of false a + turns_of false b) }

-- Two values, and what follows them.
pub two_run : {T : Type 0} (setting : Setting) (inner : Meanings) → Simulates setting inner → (B : Account) (a b : Expression) (z : Configuration) (c c1 rest : List Stmt) (w : World) (L : T → World → Type 0) (go : Value → Value → World → Outcome T)
    → ((u v : Value) → Adds (go u v)) → 16 * w.turns ≤ B.most + 4 → B.least ≤ w.turns - (turns_of false a + turns_of false b) → IsValue setting z.scene z.depth z.env a c c1
    → IsValue setting z.scene (z.depth + 1) (past a z.env) b c1 rest → Ready setting z w
    → ((u v : Value) (w2 : World) → Two setting (start z c w) (for_two a b w) z rest w u v w2 → 1 ≤ w.turns → Ran setting (start z c w) B L (Out setting (start z c w) B z w) (go u v w2))
    → Ran setting (start z c w) B L (Out setting (start z c w) B z w) (with (inner.value a z.env w) (λ u w1. with (inner.value b (past a z.env) w1) (λ v w2. go u v w2)))
two_run setting inner sim B a b z c c1 rest w L go ad le le' la lb r h =
    one_run setting inner sim B a z c c1 w L _ (λ u. adds _ (λ w1. with_after _ _ _ (sim.grows.value b (past a z.env) w1) (λ v. ad u v))) le (omega arith) la r (λ u w1 va pos.
    with_ran {K = λ v w2. Two setting (start z c w) (for_two a b w) z rest w u v w2} (λ v. ad u v)
    (ran_on (omega arith) (omega arith) r (omega arith) va.arr
    (λ v w2 q. record { arr = completed_on (omega arith) (omega arith) r (omega arith) va.arr q.arr; first = above va q.arr; second = q.stands })
    (value_run setting inner sim b (next setting (start z c w) (for_value a w) z c1 (z.depth + 1) w w1 (past a z.env) (z.depth + 1) va.arr) c1 rest w1 lb (ready_next (past a z.env) (z.depth + 1) va.arr refl (omega arith) r)))
    (λ v w2 q. h u v w2 q pos))

-- the contents of an address on top
pub contents_run : (place : ℕ) (setting : Setting) (s : State) (A B : Account) (z : Configuration) (rest : List Stmt) (w w1 : World) (u : Value) → A.most + 1 ≤ B.most → B.least ≤ A.least → 2 ≤ z.depth
    → Has setting s A z (Monadic m.Contents ∷ rest) (z.depth + 1) w u w1 → RanValue setting s B z rest w (fetch place u w1)
contents_run place setting s A B z rest w w1 u le le' dp a = by_option (λ y. RanValue setting s B z rest w (given place (cell_cause u) y w1)) (read w1.memory u) (λ _. went tt) (λ v h.
    let f = read_at setting.codes _ (z.frame + z.depth) u v _ a.arr.fits a.stands h in
    let k = f.cell.content in
    went (topped _ le le' dp a.arr f.cell.stands
    (contents_moves setting.program (there setting s A z (Monadic m.Contents ∷ rest) (z.depth + 1) w w1 a.arr) z.scene.own rest z.depth (f.base + f.offset) k refl f.word
    (variable_found (z.frame + (z.depth + 1)) (f.base + f.offset) a.arr.cells1 k (omega (arith, f.cell.low)) f.cell.there))))

-- a sign or NOT
pub sign_run : (setting : Setting) (s : State) (A B : Account) (z : Configuration) (op : Monadic_word) (f : ℕ → ℕ) (rest : List Stmt) (w w1 : World) (u : Value) (y : Outcome Value)
    → ((t : State) (k : ℕ) → step_by setting.program.callables t z.scene.own k (Monadic op) rest ≡ on_number (slot t (k - 1)) (λ n. Goes (pushed t z.scene.own (k - 1) rest (Word (f n)))))
    → A.most + 1 ≤ B.most → B.least ≤ A.least → 2 ≤ z.depth → (a : Has setting s A z (Monadic op ∷ rest) (z.depth + 1) w u w1)
    → PrefixedAs setting.codes a.arr.bases1 a.arr.cells1 (z.frame + z.depth) w1 a.arr.fits f (content_of (a.arr.cells1 (z.frame + z.depth))) y → RanValue setting s B z rest w y
sign_run setting s A B z op f rest w w1 u (gives v w2) is le le' dp a h =
    let t = there setting s A z (Monadic op ∷ rest) (z.depth + 1) w w1 a.arr in
    subst (λ x. RanValue setting s B z rest w (gives v x)) (sym h.0) (went (topped _ le le' dp a.arr h.3 (does setting.program t z.scene.own rest (z.depth + 1) (Monadic op) refl (is t (z.depth + 1) ∙ rw (one_off z.depth, h.2)) refl)))
sign_run setting s A B z op f rest w w1 u (undefined l why v) is le le' dp a h = went tt
sign_run setting s A B z op f rest w w1 u _ is le le' dp a h = absurd h

-- `+` before a number has no code
pub plus_run : (place : ℕ) (setting : Setting) (s : State) (A B : Account) (z : Configuration) (rest : List Stmt) (w w1 : World) (u : Value) → A.most ≤ B.most → B.least ≤ A.least
    → Has setting s A z rest (z.depth + 1) w u w1 → RanValue setting s B z rest w (operate_prefix place q.Plus u w1)
plus_run place setting s A B z rest w w1 (number n) le le' a = went (record { arr = completed_more le le' a.arr; stands = a.stands })
plus_run place setting s A B z rest w w1 _ le le' a = went tt

-- ---- two operands
two_on : (z : Configuration) (c : List Stmt) → Inside z.scene.own (z.depth + 1 + 1) c ≡ Inside z.scene.own (z.depth + 2) c
two_on z c = ap (λ k. Inside z.scene.own k c) (omega arith)

pub dyadic_topped : (setting : Setting) (s : State) (A B : Account) (z : Configuration) (op : Two_word) (rest : List Stmt) (w w1 : World) (u v r : Value) (x y n : ℕ) → A.most + 1 ≤ B.most → B.least ≤ A.least → 2 ≤ z.depth
    → (t : Two setting s A z (Dyadic op ∷ rest) w u v w1) → content_of (t.arr.cells1 (z.frame + z.depth)) ≡ Word x → content_of (t.arr.cells1 (z.frame + (z.depth + 1))) ≡ Word y → dyadic_word op x y ≡ Some n
    → Applies setting.codes t.arr.bases1 r (Word n) → Has setting s B z rest (z.depth + 1) w r w1
dyadic_topped setting s A B z op rest w w1 u v r x y n le le' dp t ex ey en st =
    topped _ le le' dp t.arr st
    (dyadic_moves setting.program (there setting s A z (Dyadic op ∷ rest) (z.depth + 1 + 1) w w1 t.arr) z.scene.own rest z.depth op x y n (two_on z (Dyadic op ∷ rest)) ex ey en)

-- an operator of words
pub dyadic_run : (setting : Setting) (s : State) (A B : Account) (z : Configuration) (op : Two_word) (rest : List Stmt) (w w1 : World) (u v : Value) (o : Outcome Value) → A.most + 1 ≤ B.most → B.least ≤ A.least → 2 ≤ z.depth
    → (t : Two setting s A z (Dyadic op ∷ rest) w u v w1)
    → OperatedAs setting.codes t.arr.bases1 t.arr.cells1 (z.frame + z.depth) w1 t.arr.fits op (content_of (t.arr.cells1 (z.frame + z.depth))) (content_of (t.arr.cells1 (z.frame + (z.depth + 1)))) o
    → RanValue setting s B z rest w o
dyadic_run setting s A B z op rest w w1 u v (gives r w2) le le' dp t h =
    let a = h.1 in
    subst (λ x. RanValue setting s B z rest w (gives r x)) (sym h.0)
    (went (dyadic_topped setting s A B z op rest w w1 u v r a.left a.right a.result le le' dp t a.is_left a.is_right a.applies a.stands))
dyadic_run setting s A B z op rest w w1 u v (ends e w2) le le' dp t h =
    let a = h.2 in
    subst (λ x. RanValue setting s B z rest w (ends e x)) (sym h.0) (subst (λ x. RanValue setting s B z rest w (ends x w1)) (sym h.1.1) (went (record {
      to = there setting s A z (Dyadic op ∷ rest) (z.depth + 1 + 1) w w1 t.arr;
      steps = t.arr.steps;
      paid = t.arr.paid;
      comes = t.arr.comes;
      most = omega (arith, t.arr.most);
      end = DivideByZero;
      is_end = refl;
      stops = dyadic_ends setting.program (there setting s A z (Dyadic op ∷ rest) (z.depth + 1 + 1) w w1 t.arr) z.scene.own rest z.depth op a.left a.right (two_on z (Dyadic op ∷ rest)) a.is_left a.is_right a.none;
      wrote = refl;
      left = refl;
    })))
dyadic_run setting s A B z op rest w w1 u v (undefined l why x) le le' dp t h = went tt
dyadic_run setting s A B z op rest w w1 u v _ le le' dp t h = absurd h

-- `!` between two operands: their sum, and its contents
pub subscript_run : (place : ℕ) (setting : Setting) (s : State) (A B : Account) (z : Configuration) (rest : List Stmt) (w w1 : World) (u v : Value) → A.most + 2 ≤ B.most → B.least ≤ A.least → 2 ≤ z.depth
    → Two setting s A z (Dyadic two.Add ∷ Monadic m.Contents ∷ rest) w u v w1 → RanValue setting s B z rest w (with (given place (sum_cause u v) (sum w1.memory u v) w1) (fetch place))
subscript_run place setting s A B z rest w w1 u v le le' dp t =
    by_option (λ y. RanValue setting s B z rest w (with (given place (sum_cause u v) y w1) (fetch place))) (sum w1.memory u v) (λ _. went tt) (λ a h.
    let p = sum_applied setting.codes t.arr.bases1 t.arr.cells1 (z.frame + z.depth) w1 t.arr.fits u v a _ _ t.first t.second h in
    let N : Account = record { most = A.most + 1; least = A.least } in
    contents_run _ setting s N B z rest w w1 a (omega arith) le' dp
    (dyadic_topped setting s A N z two.Add (Monadic m.Contents ∷ rest) w w1 u v a p.left p.right p.result (omega arith) (omega arith) dp t p.is_left p.is_right p.applies p.stands))

-- a byte
pub byte_run : (place : ℕ) (setting : Setting) (s : State) (A B : Account) (z : Configuration) (rest : List Stmt) (w w1 : World) (u v : Value) → A.most + 1 ≤ B.most → B.least ≤ A.least → 2 ≤ z.depth
    → Two setting s A z (LoadByte ∷ rest) w u v w1 → RanValue setting s B z rest w (given place (byte_cause u v) (option_map number (read_byte w1.memory u v)) w1)
byte_run place setting s A B z rest w w1 u v le le' dp t =
    by_option (λ y. RanValue setting s B z rest w (given place (byte_cause u v) (option_map number y) w1)) (read_byte w1.memory u v) (λ _. went tt) (λ n h.
    let f = fits_more setting.codes _ (z.frame + z.depth) (z.frame + (z.depth + 2)) (omega arith) t.arr.fits in
    let p = read_byte_at setting.codes _ (z.frame + (z.depth + 2)) u v _ _ n f t.first t.second h in
    went (topped _ le le' dp t.arr refl
    (load_byte_moves setting.program (there setting s A z (LoadByte ∷ rest) (z.depth + 1 + 1) w w1 t.arr) z.scene.own rest z.depth p.word p.index n (two_on z (LoadByte ∷ rest)) p.is_word p.is_index p.reads)))

-- any operator between two operands
pub combined_run : (place : ℕ) (setting : Setting) (s : State) (A B : Account) (z : Configuration) (f : Operator) (rest : List Stmt) (w w1 : World) (u v : Value) → A.most + 2 ≤ B.most → B.least ≤ A.least → 2 ≤ z.depth
    → Two setting s A z (infix_code f ++ rest) w u v w1 → RanValue setting s B z rest w (combined place f u v w1)
combined_run place setting s A B z o.Subscript rest w w1 u v le le' dp t = subscript_run _ setting s A B z rest w w1 u v le le' dp t
combined_run place setting s A B z o.Byte rest w w1 u v le le' dp t = byte_run _ setting s A B z rest w w1 u v (omega arith) le' dp t
combined_run place setting s A B z f rest w w1 u v le le' dp t =
    dyadic_run setting s A B z _ rest w w1 u v (operate place f u v w1) (omega arith) le' dp t
    (operates setting.codes t.arr.bases1 t.arr.cells1 (z.frame + z.depth) w1 t.arr.fits place f u v _ _ t.first t.second)

-- the other truth leads to the other place
pub where_not : (u t : Bool) (to rest : List Stmt) → where_to (not u) t to rest ≡ where_to u (not t) to rest
where_not true true to rest = refl
where_not true false to rest = refl
where_not false true to rest = refl
where_not false false to rest = refl

-- NOT
pub denied_run : (setting : Setting) (inner : Meanings) → Simulates setting inner → (B : Account) (e : Expression) (z : Configuration) (u : Bool) (n : ℕ) (to c rest : List Stmt) (w : World)
    → 16 * w.turns ≤ B.most + 3 → B.least ≤ w.turns - turns_of false e
    → IsJump setting z.scene z.depth z.env e (not u) n c rest → from_label z.scene.own.stmts n ≡ Some to → Ready setting z w
    → Ran setting (start z c w) B (HasTruth setting (start z c w) B z u to rest w) (Out setting (start z c w) B z w) (with (inner.truth e z.env w) (λ b w. gives (not b) w))
denied_run setting inner sim B e z u n to c rest w le le' l f r =
    with_ran {K = HasTruth setting (start z c w) B z (not u) to rest w} (λ b. adds _ (λ w1. stays (history w1)))
    (ran_first (omega arith) (omega arith) (λ t w1 q. completed_more (omega arith) (omega arith) q) (sim.truth e z (not u) n to c rest w l f r))
    (λ t w1 a. went (subst (λ y. CompletedAt setting (start z c w) B z y z.depth w w1) (where_not u t to rest) a))

-- a LAB stands where the test does not jump
landed : {setting : Setting} {s : State} {N B : Account} {sc : Scene} {frame calls top d k : ℕ} {R : Store → Type 0} {rest : List Stmt} {w1 : World} (u t : Bool)
    (to : List Stmt) → N.most + 1 ≤ B.most → B.least ≤ N.least → LabelAt setting sc d k rest
    → Completed setting s N sc.own frame calls top R (where_to u t to (Label k ∷ rest)) d w1 → Completed setting s B sc.own frame calls top R (where_to u t to rest) d w1
landed true false to le le' l a = landed_on le le' l a
landed false true to le le' l a = landed_on le le' l a
landed _ _ to le le' l a = completed_more (omega arith) le' a

-- the second condition, behind an arrival
abbrev for_second : Expression → Expression → World → Account
for_second a b w = record { most = 16 * w.turns - 3; least = w.turns - (turns_of false a + turns_of false b) }

second_run : {L : Bool → World → Type 0} (setting : Setting) (inner : Meanings) → Simulates setting inner → (s : State) (B : Account) (a b : Expression) (z : Configuration) (u : Bool)
    (n : ℕ) (to c1 rest : List Stmt) (w w1 : World) → 16 * w.turns ≤ B.most + 3
    → B.least ≤ w.turns - (turns_of false a + turns_of false b) → IsJump setting z.scene z.depth (past a z.env) b u n c1 rest → from_label z.scene.own.stmts n ≡ Some to
    → Ready setting z w → CompletedAt setting s (for_truth a w) z c1 z.depth w w1
    → ((t : Bool) (w2 : World) → HasTruth setting s (for_second a b w) z u to rest w t w2 → L t w2) → Ran setting s B L (Out setting s B z w) (inner.truth b (past a z.env) w1)
second_run setting inner sim s B a b z u n to c1 rest w w1 le le' l f r ar fin =
    let m0 = ar.most in
    ran_on (omega arith) (omega arith) r (omega arith) ar (λ t w2 q. fin t w2 (completed_on (omega arith) (omega arith) r (omega arith) ar q))
    (sim.truth b (next setting s (for_truth a w) z c1 z.depth w w1 (past a z.env) z.depth ar) u n to c1 rest w1 l f (ready_next (past a z.env) z.depth ar refl (omega arith) r))

-- the second decides where the first does not have this truth
abbrev pub decided : Bool → (World → Outcome Bool) → Bool → World → Outcome Bool
decided false go x w = either x go (λ w. gives false w) w
decided true go x w = either x (λ w. gives true w) go w

decided_adds : (u : Bool) (go : World → Outcome Bool) → Adds go → (x : Bool) → Adds (decided u go x)
decided_adds false go ad x = adds _ (λ w. either_after x _ _ ad (adds _ (λ w1. stays (history w1))) w)
decided_adds true go ad x = adds _ (λ w. either_after x _ _ (adds _ (λ w1. stays (history w1))) ad w)

-- the first condition
first_run : {L : Bool → World → Type 0} (setting : Setting) (inner : Meanings) → Simulates setting inner → (B : Account) (a b : Expression) (z : Configuration) (u0 : Bool) (n0 : ℕ)
    (to0 c c1 : List Stmt) (w : World) → 16 * w.turns ≤ B.most + 3 → B.least ≤ w.turns - turns_of false a
    → IsJump setting z.scene z.depth z.env a u0 n0 c c1 → from_label z.scene.own.stmts n0 ≡ Some to0 → Ready setting z w
    → ((x : Bool) (w1 : World) → CompletedAt setting (start z c w) (for_truth a w) z (where_to u0 x to0 c1) z.depth w w1 → Ran setting (start z c w) B L (Out setting (start z c w) B z w) (decided u0 (λ w. inner.truth b (past a z.env) w) x w1))
    → Ran setting (start z c w) B L (Out setting (start z c w) B z w) (with (inner.truth a z.env w) (λ x w. decided u0 (λ w. inner.truth b (past a z.env) w) x w))
first_run setting inner sim B a b z u0 n0 to0 c c1 w le le' l f r h =
    with_ran (λ x. decided_adds u0 _ (adds _ (λ w1. sim.grows.truth b (past a z.env) w1)) x)
    (ran_more (omega arith) (omega arith) (sim.truth a z u0 n0 to0 c c1 w l f r)) h

-- `&` that jumps where it fails, and `|` where it holds: so does each condition
pub straight_run : (setting : Setting) (inner : Meanings) → Simulates setting inner → (B : Account) (a b : Expression) (z : Configuration) (u : Bool) (n : ℕ) (to c c1 rest : List Stmt)
    (w : World) → 16 * w.turns ≤ B.most + 3 → B.least ≤ w.turns - (turns_of false a + turns_of false b)
    → IsJump setting z.scene z.depth z.env a u n c c1 → IsJump setting z.scene z.depth (past a z.env) b u n c1 rest → from_label z.scene.own.stmts n ≡ Some to → Ready setting z w
    → Ran setting (start z c w) B (HasTruth setting (start z c w) B z u to rest w) (Out setting (start z c w) B z w)
    (with (inner.truth a z.env w) (λ x w. decided u (λ w. inner.truth b (past a z.env) w) x w))
straight_run setting inner sim B a b z u n to c c1 rest w le le' la lb f r = first_run setting inner sim B a b z u n to c c1 w le (omega arith) la f r (λ x w1 q. goes u x w1 lb q)
  where
    goes : (u x : Bool) (w1 : World) → IsJump setting z.scene z.depth (past a z.env) b u n c1 rest → CompletedAt setting (start z c w) (for_truth a w) z
        (where_to u x to c1) z.depth w w1
        → Ran setting (start z c w) B (HasTruth setting (start z c w) B z u to rest w) (Out setting (start z c w) B z w) (decided u (λ w. inner.truth b (past a z.env) w) x w1)
    goes true false w1 lb q =
        second_run setting inner sim (start z c w) B a b z true n to c1 rest w w1 le le' lb f r q (λ t w2 y. completed_more (omega arith) (omega arith) y)
    goes false true w1 lb q =
        second_run setting inner sim (start z c w) B a b z false n to c1 rest w w1 le le' lb f r q (λ t w2 y. completed_more (omega arith) (omega arith) y)
    goes _ _ w1 lb q = went (completed_more (omega arith) (omega arith) q)

-- `&` that jumps where it holds, and `|` where it fails: the first condition jumps over the second
pub over_run : (setting : Setting) (inner : Meanings) → Simulates setting inner → (B : Account) (a b : Expression) (z : Configuration) (u : Bool) (n k : ℕ) (to c c1 rest : List Stmt)
    (w : World) → 16 * w.turns + 1 ≤ B.most → B.least ≤ w.turns - (turns_of false a + turns_of false b)
    → IsJump setting z.scene z.depth z.env a (not u) k c c1 → IsJump setting z.scene z.depth (past a z.env) b u n c1 (Label k ∷ rest) → LabelAt setting z.scene z.depth k rest
    → from_label z.scene.own.stmts n ≡ Some to → Ready setting z w
    → Ran setting (start z c w) B (HasTruth setting (start z c w) B z u to rest w) (Out setting (start z c w) B z w)
    (with (inner.truth a z.env w) (λ x w. decided (not u) (λ w. inner.truth b (past a z.env) w) x w))
over_run setting inner sim B a b z u n k to c c1 rest w le le' la lb lk f r =
    first_run setting inner sim B a b z (not u) k (Label k ∷ rest) c c1 w (omega arith) (omega arith) la lk.found r (λ x w1 q. goes u x w1 lb q)
  where
    goes : (u x : Bool) (w1 : World) → IsJump setting z.scene z.depth (past a z.env) b u n c1 (Label k ∷ rest) → CompletedAt setting (start z c w) (for_truth a w) z
        (where_to (not u) x (Label k ∷ rest) c1) z.depth w w1
        → Ran setting (start z c w) B (HasTruth setting (start z c w) B z u to rest w) (Out setting (start z c w) B z w) (decided (not u) (λ w. inner.truth b (past a z.env) w) x w1)
    goes true true w1 lb q =
        second_run setting inner sim (start z c w) B a b z true n to c1 (Label k ∷ rest) w w1 (omega arith) le' lb f r q
        (λ t w2 y. landed true t to (omega arith) (omega arith) lk y)
    goes false false w1 lb q =
        second_run setting inner sim (start z c w) B a b z false n to c1 (Label k ∷ rest) w w1 (omega arith) le' lb f r q
        (λ t w2 y. landed false t to (omega arith) (omega arith) lk y)
    goes _ _ w1 lb q = went (landed_on (omega arith) (omega arith) lk q)

-- ---- `->`: one of two values, which goes by way of the result in hand
branch_run : (setting : Setting) (inner : Meanings) → Simulates setting inner → (s : State) (A D C : Account) (e : Expression) (z : Configuration) (env : Environment) (n : ℕ)
    (c1 rest following : List Stmt) (w w1 : World) → A.most ≤ D.most → D.most + 3 ≤ C.most
    → D.least ≤ (w1.turns - turns_of false e) + (A.least - w1.turns) → C.least ≤ D.least → env.names ≡ z.env.names → IsValue setting z.scene z.depth env e c1
    (GiveResult n ∷ following) → LabelAt setting z.scene z.depth n (TakeResult z.depth ∷ rest)
    → Ready setting z w → CompletedAt setting s A z c1 z.depth w w1 → Ran setting s C (Has setting s C z rest (z.depth + 1) w) (Out setting s C z w) (inner.value e env w1)
branch_run setting inner sim s A D C e z env n c1 rest following w w1 le1 le2 ll lc en l ln r ar =
    ran_on (omega arith) (omega arith) r (omega arith) ar
    (λ v w2 q.
    let x : Has setting s D z (GiveResult n ∷ following) (z.depth + 1) w v w2 = record { arr = completed_on (omega arith) (omega arith) r (omega arith) ar q.arr; stands = q.stands } in
    taken_on (omega arith) (omega arith) r (label_on ln (result_on r ln.found x)) q.stands)
    (value_run setting inner sim e (next setting s A z c1 z.depth w w1 env z.depth ar) c1 (GiveResult n ∷ following) w1 l (ready_next env z.depth ar en (omega arith) r))

pub choice_run : (setting : Setting) (inner : Meanings) → Simulates setting inner → (B : Account) (e a b : Expression) (z : Configuration) (n n1 : ℕ) (c c1 c2 rest : List Stmt) (w : World)
    → 16 * w.turns + 12 ≤ B.most
    → B.least ≤ w.turns - (turns_of false e + (turns_of false a + turns_of false b)) → IsJump setting z.scene z.depth z.env e false n c c1 → IsValue setting z.scene z.depth
    (past e z.env) a c1 (GiveResult n1 ∷ Label n ∷ c2)
    → IsValue setting z.scene z.depth (past a (past e z.env)) b c2 (GiveResult n1 ∷ Label n1 ∷ TakeResult z.depth ∷ rest) → LabelAt setting z.scene z.depth n c2
    → LabelAt setting z.scene z.depth n1 (TakeResult z.depth ∷ rest) → Ready setting z w
    → Ran setting (start z c w) B (Has setting (start z c w) B z rest (z.depth + 1) w) (Out setting (start z c w) B z w)
    (with (inner.truth e z.env w) (λ x w. either x (λ w. inner.value a (past e z.env) w) (λ w. inner.value b (past a (past e z.env)) w) w))
choice_run setting inner sim B e a b z n n1 c c1 c2 rest w le le' le_ la lb l0 l1 r =
    with_ran
    (λ x. adds _ (λ w1. either_after x _ _ (adds _ (λ w2. sim.grows.value a (past e z.env) w2)) (adds _ (λ w2. sim.grows.value b (past a (past e z.env)) w2)) w1))
    (ran_more (omega arith) (omega arith) (sim.truth e z false n (Label n ∷ c2) c c1 w le_ l0.found r)) goes
  where
    D : Account
    D = record { most = 16 * w.turns + 1; least = w.turns - (turns_of false e + (turns_of false a + turns_of false b)) }

    goes : (x : Bool) (w1 : World) → CompletedAt setting (start z c w) (for_truth e w) z (where_to false x (Label n ∷ c2) c1) z.depth w w1
        → Ran setting (start z c w) B (Has setting (start z c w) B z rest (z.depth + 1) w) (Out setting (start z c w) B z w)
        (either x (λ w. inner.value a (past e z.env) w) (λ w. inner.value b (past a (past e z.env)) w) w1)
    goes true w1 q = let m0 = q.most in
        branch_run setting inner sim (start z c w) (for_truth e w) D B a z (past e z.env) n1 c1 rest (Label n ∷ c2) w w1 (omega arith) (omega arith)
        (omega arith) le' refl la l1 r q
    goes false w1 q = let dp = r.deep in let m0 = q.most in
        let A : Account = record { most = 16 * w.turns + 1; least = w.turns - turns_of false e } in
        branch_run setting inner sim (start z c w) A D B b z (past a (past e z.env)) n1 c2 rest (Label n1 ∷ TakeResult z.depth ∷ rest) w w1
        (omega arith) (omega arith) (omega arith) le' refl lb l1 r (landed_on (omega arith) (omega arith) l0 q)

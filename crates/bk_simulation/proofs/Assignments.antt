-- Assignments: each value, its destination, and the word or byte that is stored.
use Rattle.bk_simulation.proofs.Words.{false, ◌≡◌, ℕ, ◌+◌, ◌-◌, ◌*◌, ◌<◌, ◌≤◌, true, List, ◌∷◌, Option, Some, None, refl, sym, ap, ◌∙◌, subst, arith, ◌%◌, ◌^◌, word_sum, byte_distance, Content, Variable, Cell, Held, content_of, kind_of, write, below, Word, Placed, Inside, State, named_place, has_word, Local, Static, Stmt, Assign, AssignAt, AssignByte, Address, Dyadic, Expression, Expressions, Value, address, holds, Memory, write_byte, Environment, past, Sense, constant, cell, sense_of, World, changes, remembering, Outcome, gives, given, with, history, Meanings, at, store as put_value, address_named, assigned, Adds, adds, stays, with_after, changes_after, sum, cell_cause, set_byte_cause, sum_cause}
use Rattle.bk_simulation.proofs.Pieces.{by_option, Moves, assign_moves, assign_at_moves, assign_byte_moves, does, AreBytes, write_byte_at, BaseOf, Like, Applies, Store, Moved, Fits, moved_on, fits_above, fits_more, fits_less, moved_above, below_like, variable_found, put, write_here, write_at, turns_of, turns_among, Setting, Stretch, ByTurns, AreFrom, AreStores, IsStore, named_word, IsValue, Configuration, store, state, start, place_of, Ready, Account, further, went, with_ran, CompletedAt, store_at, there, Has, next, ready_next, NameAt, Ran, Out, stay, stepped, completed_more, completed_on, ran_on, comes_to, ran_more, above, Simulates, for_value, Destined, word, through, byte, RanDid, HasAddress, one_run, dyadic_topped, Two, for_two, two_run, pushes_item, named_at, ready_at, sum_applied}
use Rattle.bk_simulation.proofs.Terms.{Variable as Named, Target, byte_at, Dyadic as two}
use Rattle.bk_tree.specs.Tree as t
use Rattle.bk_meaning.specs.Memory as memory

-- ---- Addresses, for `@` and as destinations.

abbrev pub RanAddress : Setting → State → Account → Configuration → List Stmt → World → Outcome Target → Type 0
RanAddress setting s B z rest w o = Ran setting s B (HasAddress setting s B z rest w) (Out setting s B z w) o

abbrev pub RanStore : Setting → State → Account → Configuration → List Stmt → World → Outcome Target → Type 0
RanStore setting s B z rest w o = Ran setting s B (λ t w1. Destined setting s B z rest w t w1) (Out setting s B z w) o

small_word : (base i : ℕ) → base + i < 2 ^ 32 → base + i ≡ (base + i) % 2 ^ 32
small_word base i lt = omega arith

-- the address of a name's word
pub address_runs : (place : ℕ) (setting : Setting) (B : Account) (z : Configuration) (c : List Stmt) (x : List ℕ) (rest : List Stmt) (w : World) → 16 * w.turns + 1 ≤ B.most → B.least ≤ w.turns → c ≡ Address (named_word z.scene x) ∷ rest → Ready setting z w
    → RanAddress setting (start z c w) B z rest w (address_named place (sense_of x z.env) w)
address_runs place setting B z c x rest w le le' ec r = by_sense (sense_of x z.env) (r.named.each x)
  where
    by_sense : (y : Option Sense) → NameAt z.scene z.bases z.frame x y → RanAddress setting (start z c w) B z rest w (address_named place y w)
    by_sense (Some (constant n)) h = went tt
    by_sense (Some (cell o i)) h =
        let v = named_word z.scene x in
        let s = start z (Address v ∷ rest) w in
        let is : named_place s z.scene.own v ≡ (h.0 + i) % 2 ^ 32 = named_at z (Address v ∷ rest) w v ∙ sym h.3 ∙ small_word h.0 i h.2 in
        went (pushes_item setting B z c (Address v) rest w (address o i) (Word (named_place s z.scene.own v)) le le' ec r (h.0, h.1, (let low = h.2 in omega (arith, low)), ap Word is) (does setting.program s z.scene.own rest z.depth (Address v) refl refl refl))
    by_sense _ h = went tt

-- the word of a name as a destination
pub word_runs : (place : ℕ) (setting : Setting) (B : Account) (z : Configuration) (c : List Stmt) (x : List ℕ) (rest : List Stmt) (w : World) → 16 * w.turns ≤ B.most → B.least ≤ w.turns → c ≡ Assign (named_word z.scene x) ∷ rest → Ready setting z w
    → RanStore setting (start z c w) B z rest w (address_named place (sense_of x z.env) w)
word_runs place setting B z c x rest w le le' ec r = by_sense (sense_of x z.env) (r.named.each x)
  where
    by_sense : (y : Option Sense) → NameAt z.scene z.bases z.frame x y → RanStore setting (start z c w) B z rest w (address_named place y w)
    by_sense (Some (constant n)) h = went tt
    by_sense (Some (cell o i)) h =
        went (subst (λ l. Destined setting (start z l w) B z rest w (at (address o i)) w) (sym ec)
        (word (named_word z.scene x) o i h.0 w (stay setting B z (Assign (named_word z.scene x) ∷ rest) w le le' r) h.1 h.3))
    by_sense _ h = went tt

-- `!E`
pub contents_address : (setting : Setting) (inner : Meanings) → Simulates setting inner → (B : Account) (e : Expression) (z : Configuration) (c rest : List Stmt) (w : World) → 16 * w.turns ≤ B.most + 4 → B.least ≤ w.turns - turns_of false e
    → IsValue setting z.scene z.depth z.env e c rest → Ready setting z w → RanAddress setting (start z c w) B z rest w (with (inner.value e z.env w) (λ a w. gives (at a) w))
contents_address setting inner sim B e z c rest w le le' l r =
    one_run setting inner sim B e z c rest w _ _ (λ u. adds _ (λ w1. stays (history w1))) le le' l r (λ u w1 q pos.
    went (record { arr = completed_more (omega arith) (omega arith) q.arr; stands = q.stands }))

pub contents_store : (setting : Setting) (inner : Meanings) → Simulates setting inner → (B : Account) (e : Expression) (z : Configuration) (c rest : List Stmt) (w : World) → 16 * w.turns ≤ B.most + 4 → B.least ≤ w.turns - turns_of false e
    → IsValue setting z.scene z.depth z.env e c (AssignAt ∷ rest) → Ready setting z w → RanStore setting (start z c w) B z rest w (with (inner.value e z.env w) (λ a w. gives (at a) w))
contents_store setting inner sim B e z c rest w le le' l r =
    one_run setting inner sim B e z c (AssignAt ∷ rest) w _ _ (λ u. adds _ (λ w1. stays (history w1))) le le' l r (λ u w1 q pos.
    went (through u w1 (record { arr = completed_more (omega arith) (omega arith) q.arr; stands = q.stands })))

-- `E!E`: the sum of two values
sum_run : (place : ℕ) (setting : Setting) (s : State) (A B : Account) (z : Configuration) (rest : List Stmt) (w w1 : World) (u v : Value) (L : Target → World → Type 0) → A.most + 1 ≤ B.most → B.least ≤ A.least → 2 ≤ z.depth
    → ((a : Value) → Has setting s B z rest (z.depth + 1) w a w1 → L (at a) w1)
    → Two setting s A z (Dyadic two.Add ∷ rest) w u v w1 → Ran setting s B L (Out setting s B z w) (with (given place (sum_cause u v) (sum w1.memory u v) w1) (λ a w. gives (at a) w))
sum_run place setting s A B z rest w w1 u v L le le' dp gain t =
    by_option (λ y. Ran setting s B L (Out setting s B z w) (with (given place (sum_cause u v) y w1) (λ a w. gives (at a) w))) (sum w1.memory u v) (λ _. went tt) (λ a h.
    let p = sum_applied setting.codes t.arr.bases1 t.arr.cells1 (z.frame + z.depth) w1 t.arr.fits u v a _ _ t.first t.second h in
    went (gain a (dyadic_topped setting s A B z two.Add rest w w1 u v a p.left p.right p.result le le' dp t p.is_left p.is_right p.applies p.stands)))

sum_adds : (place : ℕ) (u v : Value) → Adds (λ w. with (given place (sum_cause u v) (sum w.memory u v) w) (λ a w. gives (at a) w))
sum_adds place u v = grind (arith, adds, given, gives, stays)

pub subscript_address : (place : ℕ) (setting : Setting) (inner : Meanings) → Simulates setting inner → (B : Account) (a b : Expression) (z : Configuration) (c c1 rest : List Stmt) (w : World) → 16 * w.turns + 1 ≤ B.most → B.least ≤ w.turns - (turns_of false a + turns_of false b)
    → IsValue setting z.scene z.depth z.env a c c1 → IsValue setting z.scene (z.depth + 1) (past a z.env) b c1 (Dyadic two.Add ∷ rest) → Ready setting z w
    → RanAddress setting (start z c w) B z rest w (with (inner.value a z.env w) (λ x w. with (inner.value b (past a z.env) w) (λ y w. with (given place (sum_cause x y) (sum w.memory x y) w) (λ a w. gives (at a) w))))
subscript_address place setting inner sim B a b z c c1 rest w le le' la lb r =
    let dp = r.deep in
    two_run setting inner sim B a b z c c1 (Dyadic two.Add ∷ rest) w _ _ (sum_adds _) (omega arith) le' la lb r (λ u v w1 t pos.
    sum_run _ setting (start z c w) (for_two a b w) B z rest w w1 u v _ (omega arith) (omega arith) dp (λ a q. q) t)

pub subscript_store : (place : ℕ) (setting : Setting) (inner : Meanings) → Simulates setting inner → (B : Account) (a b : Expression) (z : Configuration) (c c1 rest : List Stmt) (w : World) → 16 * w.turns + 1 ≤ B.most → B.least ≤ w.turns - (turns_of false a + turns_of false b)
    → IsValue setting z.scene z.depth z.env a c c1 → IsValue setting z.scene (z.depth + 1) (past a z.env) b c1 (Dyadic two.Add ∷ AssignAt ∷ rest) → Ready setting z w
    → RanStore setting (start z c w) B z rest w (with (inner.value a z.env w) (λ x w. with (inner.value b (past a z.env) w) (λ y w. with (given place (sum_cause x y) (sum w.memory x y) w) (λ a w. gives (at a) w))))
subscript_store place setting inner sim B a b z c c1 rest w le le' la lb r =
    let dp = r.deep in
    two_run setting inner sim B a b z c c1 (Dyadic two.Add ∷ AssignAt ∷ rest) w _ _ (sum_adds _) (omega arith) le' la lb r (λ u v w1 t pos.
    sum_run _ setting (start z c w) (for_two a b w) B z (AssignAt ∷ rest) w w1 u v _ (omega arith) (omega arith) dp (λ a q. through a w1 q) t)

-- `E%E`
pub byte_store : (setting : Setting) (inner : Meanings) → Simulates setting inner → (B : Account) (a b : Expression) (z : Configuration) (c c1 rest : List Stmt) (w : World) → 16 * w.turns ≤ B.most + 4 → B.least ≤ w.turns - (turns_of false a + turns_of false b)
    → IsValue setting z.scene z.depth z.env a c c1 → IsValue setting z.scene (z.depth + 1) (past a z.env) b c1 (AssignByte ∷ rest) → Ready setting z w
    → RanStore setting (start z c w) B z rest w (with (inner.value a z.env w) (λ x w. with (inner.value b (past a z.env) w) (λ y w. gives (byte_at x y) w)))
byte_store setting inner sim B a b z c c1 rest w le le' la lb r =
    two_run setting inner sim B a b z c c1 (AssignByte ∷ rest) w _ _ (λ u v. adds _ (λ w1. stays (history w1))) le le' la lb r (λ u v w1 t pos.
    went (byte u v w1 (completed_more (omega arith) (omega arith) t.arr) t.first t.second))

-- A word of a living object is stored.
stored_on : (setting : Setting) (s : State) (A : Account) (z : Configuration) (c2 rest : List Stmt) (d2 : ℕ) (w w2 : World) (mem1 : Memory) (place : ℕ) (y : Content) (written2 : List ℕ) (r : Ready setting z w) (a : CompletedAt setting s A z c2 d2 w w2)
    → Fits setting.codes (put (record { bases = a.bases1; mem = w2.memory; cells = a.cells1 }) mem1 place y) (z.frame + z.depth)
    → Moved (z.frame + z.depth) (record { bases = a.bases1; mem = w2.memory; cells = a.cells1 }) (put (record { bases = a.bases1; mem = w2.memory; cells = a.cells1 }) mem1 place y)
    → Moves setting.program (there setting s A z c2 d2 w w2 a) (state z.scene.own z.depth rest (below (z.frame + z.depth) (write a.cells1 place (Held Variable y))) z.frame None written2 w2)
    → CompletedAt setting s (further 1 A) z rest z.depth w (remembering mem1 w2)
stored_on setting s A z c2 rest d2 w w2 mem1 place y written2 r a f mv e =
    let dp = r.deep in
    let top = z.frame + z.depth in
    let h2 : Store = put (store_at a) mem1 place y in
    let cells2 = below top (write a.cells1 place (Held Variable y)) in
    let like : (x : ℕ) → x < top → Like (cells2 x) (h2.cells x) = λ x lx. below_like top h2.cells x lx in
    completed_more (omega arith) (omega arith) (stepped mem1 top (Moved top (store z w)) rest z.depth a cells2 None written2 (λ x v lx ex. mv.links x v (omega arith) ((like x (omega arith)).link v ex)) (fits_above setting.codes h2 top cells2 f like)
    (moved_on setting.codes top top top _ h2 (record h2 { cells = cells2 }) r.fits (omega arith) (moved_on setting.codes top top top _ (store_at a) h2 r.fits (omega arith) a.moved mv) (moved_above h2 top cells2 like)) e)

-- a variable is there
held_variable : (v : Named) (x : Cell) (k : Content) → x ≡ Held Variable k → has_word v x ≡ true
held_variable (Static l) x k e = ap (λ y. has_word (Static l) y) e
held_variable _ x k e = refl

place_is : (own : Placed) (k : ℕ) (c : List Stmt) (cells : ℕ → Cell) (frame : ℕ) (hand : Option Content) (written : List ℕ) (w : World) (v : Named) → named_place (state own k c cells frame hand written w) own v ≡ place_of own frame v
place_is own k c cells frame hand written w (Local n) = refl
place_is own k c cells frame hand written w _ = refl

-- SP, SG and SL
pub word_stored : (place : ℕ) (setting : Setting) (s : State) (A B : Account) (z : Configuration) (rest : List Stmt) (w w2 : World) (v : Named) (o i b : ℕ) (u : Value) → A.most + 1 ≤ B.most → B.least ≤ A.least → Ready setting z w
    → (a : CompletedAt setting s A z (Assign v ∷ rest) (z.depth + 1) w w2) → BaseOf a.bases1 o b → b + i ≡ place_of z.scene.own z.frame v → Applies setting.codes a.bases1 u (content_of (a.cells1 (z.frame + z.depth)))
    → RanDid setting s B z rest w (put_value place (at (address o i)) u w2)
word_stored place setting s A B z rest w w2 v o i b u le le' r a eb ep st =
    by_option (λ y. RanDid setting s B z rest w (changes place (cell_cause (address o i)) y w2)) (memory.write w2.memory (address o i) u) (λ _. went tt) (λ mem1 e.
    let here = there setting s A z (Assign v ∷ rest) (z.depth + 1) w w2 a in
    let y = content_of (a.cells1 (z.frame + z.depth)) in
    let q = write_here setting.codes (record { bases = a.bases1; mem = w2.memory; cells = a.cells1 }) (z.frame + z.depth) o i b (holds u) mem1 a.fits eb e in
    let same : named_place here z.scene.own v ≡ b + i = place_is z.scene.own (z.depth + 1) (Assign v ∷ rest) a.cells1 z.frame a.hand1 a.written1 w2 v ∙ sym ep in
    let is : a.cells1 (named_place here z.scene.own v) ≡ Held Variable q.content = ap a.cells1 same ∙ q.there in
    let move = assign_moves setting.program here z.scene.own rest z.depth v refl (held_variable v (a.cells1 (named_place here z.scene.own v)) q.content is) in
    let move2 = subst (λ p. Moves setting.program here (state z.scene.own z.depth rest (below (z.frame + z.depth) (write a.cells1 p (Held Variable y))) z.frame None (p ∷ a.written1) w2)) same
    (subst (λ k. Moves setting.program here (state z.scene.own z.depth rest (below (z.frame + z.depth) (write a.cells1 (named_place here z.scene.own v) (Held k y))) z.frame None (named_place here z.scene.own v ∷ a.written1) w2)) (ap kind_of is) move) in
    went (completed_more le le'
    (stored_on setting s A z (Assign v ∷ rest) rest (z.depth + 1) w w2 mem1 (b + i) y ((b + i) ∷ a.written1) r a (q.fits y st) (q.moved y (z.frame + z.depth)) move2)))

-- STIND
through_stored : (place : ℕ) (setting : Setting) (s : State) (A B : Account) (z : Configuration) (rest : List Stmt) (w w2 : World) (p u : Value) → A.most + 1 ≤ B.most → B.least ≤ A.least → Ready setting z w
    → (a : CompletedAt setting s A z (AssignAt ∷ rest) (z.depth + 1 + 1) w w2) → Applies setting.codes a.bases1 p (content_of (a.cells1 (z.frame + (z.depth + 1)))) → Applies setting.codes a.bases1 u (content_of (a.cells1 (z.frame + z.depth)))
    → RanDid setting s B z rest w (put_value place (at p) u w2)
through_stored place setting s A B z rest w w2 p u le le' r a sp su =
    by_option (λ y. RanDid setting s B z rest w (changes place (cell_cause p) y w2)) (memory.write w2.memory p u) (λ _. went tt) (λ mem1 e.
    let here = there setting s A z (AssignAt ∷ rest) (z.depth + 1 + 1) w w2 a in
    let y = content_of (a.cells1 (z.frame + z.depth)) in
    let q = write_at setting.codes (record { bases = a.bases1; mem = w2.memory; cells = a.cells1 }) (z.frame + z.depth) p _ (holds u) mem1 a.fits sp e in
    let move = assign_at_moves setting.program here z.scene.own rest z.depth (q.base + q.offset) q.cell.content (ap (λ k. Inside z.scene.own k (AssignAt ∷ rest)) (omega (arith, q.cell.low))) q.word
    (variable_found (z.frame + (z.depth + 2)) (q.base + q.offset) a.cells1 q.cell.content (omega (arith, q.cell.low)) q.cell.there) in
    went (completed_more le le'
    (stored_on setting s A z (AssignAt ∷ rest) rest (z.depth + 1 + 1) w w2 mem1 (q.base + q.offset) y ((q.base + q.offset) ∷ a.written1) r a (q.cell.fits y su) (q.cell.moved y (z.frame + z.depth)) move)))

-- PUTBYTE
byte_stored : (place : ℕ) (setting : Setting) (s : State) (A B : Account) (z : Configuration) (rest : List Stmt) (w w2 : World) (p k u : Value) → A.most + 1 ≤ B.most → B.least ≤ A.least → Ready setting z w
    → (a : CompletedAt setting s A z (AssignByte ∷ rest) (z.depth + 1 + 1 + 1) w w2) → Applies setting.codes a.bases1 p (content_of (a.cells1 (z.frame + (z.depth + 1)))) → Applies setting.codes a.bases1 k (content_of (a.cells1 (z.frame + (z.depth + 1 + 1))))
    → Applies setting.codes a.bases1 u (content_of (a.cells1 (z.frame + z.depth))) → RanDid setting s B z rest w (put_value place (byte_at p k) u w2)
byte_stored place setting s A B z rest w w2 p k u le le' r a sp sk su =
    let three_deep : (d : ℕ) → d + 1 + 1 + 1 ≡ d + 3 = λ d. omega arith in
    let two_deep : (d : ℕ) → d + 1 + 1 ≡ d + 2 = λ d. omega arith in
    by_option (λ y. RanDid setting s B z rest w (changes place (set_byte_cause p k u) y w2)) (write_byte w2.memory p k u) (λ _. went tt) (λ mem1 e.
    let here = there setting s A z (AssignByte ∷ rest) (z.depth + 1 + 1 + 1) w w2 a in
    let high = fits_more setting.codes _ (z.frame + z.depth) (z.frame + (z.depth + 3)) (omega arith) a.fits in
    let are : (x : ℕ) (c : Content) → a.cells1 x ≡ Held Variable c → AreBytes c = λ x c ec. subst AreBytes (ap content_of ec) (a.bytes.words x) in
    let q = write_byte_at setting.codes (record { bases = a.bases1; mem = w2.memory; cells = a.cells1 }) (z.frame + (z.depth + 3)) p k u _ _ _ mem1 are high sp sk su e in
    let m1 = q.moved (z.frame + z.depth) in
    let move = assign_byte_moves setting.program here z.scene.own rest z.depth q.byte q.word q.index q.content (ap (λ k. Inside z.scene.own k (AssignByte ∷ rest)) (three_deep z.depth)) q.is_byte q.is_word
    (ap (λ d. content_of (a.cells1 (z.frame + d))) (sym (two_deep z.depth)) ∙ q.is_index) q.sets in
    went (completed_more le le'
    (stored_on setting s A z (AssignByte ∷ rest) rest (z.depth + 1 + 1 + 1) w w2 mem1 (word_sum q.word (byte_distance q.index)) q.content ((word_sum q.word (byte_distance q.index)) ∷ a.written1) r a (fits_less setting.codes (record { bases = a.bases1; mem = w2.memory; cells = a.cells1 }) _ (z.frame + z.depth) (z.frame + (z.depth + 3)) a.fits m1 q.fits) (q.moved (z.frame + z.depth)) move)))

-- ---- several, one after another
abbrev pub for_assigned : Expressions → Expressions → World → Account
for_assigned xs es w = record { most = 16 * w.turns; least = w.turns - (turns_among false xs + turns_among false es) }

put_adds : (place : ℕ) (a : Target) (v : Value) → Adds (put_value place a v)
put_adds place (at p) v = adds _ (λ w. changes_after place _ (memory.write w.memory p v) w)
put_adds place (byte_at p i) v = adds _ (λ w. changes_after place _ (write_byte w.memory p i v) w)

assigned_adds : (setting : Setting) (inner : Meanings) → Simulates setting inner → (xs es : Expressions) (there env : Environment) → Adds (assigned inner xs there es env)
assigned_adds setting inner sim (t.more x xs) (t.more e es) there env =
    adds _ (λ w. with_after _ _ _ (sim.grows.value e env w) (λ v. adds _ (λ w1. with_after _ _ _ (sim.grows.target x there w1) (λ a. adds _ (λ w2. with_after _ _ _ ((put_adds _ a v).at w2) (λ _.
    assigned_adds setting inner sim xs es (past x there) (past e env)))))))
assigned_adds setting inner sim t.none t.none there env = adds _ (λ w. stays (history w))
assigned_adds setting inner sim t.none (t.more e es) there env = adds _ (λ w. stays (history w))
assigned_adds setting inner sim (t.more x xs) t.none there env = adds _ (λ w. stays (history w))

-- the value on top goes to its destination
destined_stored : (place : ℕ) (setting : Setting) (s : State) (A N C D : Account) (z : Configuration) (c1 rest : List Stmt) (w w1 w2 : World) (there : Environment) (u : Value) (a : Target) → A.most + N.most ≤ C.most + 16 * w1.turns → C.least ≤ N.least + (A.least - w1.turns) → C.most + 1 ≤ D.most
    → D.least ≤ C.least → Ready setting z w → (va : Has setting s A z c1 (z.depth + 1) w u w1)
    → Destined setting (start (next setting s A z c1 (z.depth + 1) w w1 there (z.depth + 1) va.arr) c1 w1) N (next setting s A z c1 (z.depth + 1) w w1 there (z.depth + 1) va.arr) rest w1 a w2 → RanDid setting s D z rest w (put_value place a u w2)
destined_stored place setting s A N C D z c1 rest w w1 w2 there u _ le1 le2 le3 le4 r va (word v o i b _ x eb ep) =
    word_stored _ setting s C D z rest w w2 v o i b u le3 le4 r (completed_on le1 le2 r (omega arith) va.arr x) eb ep
    (above va x)
destined_stored place setting s A N C D z c1 rest w w1 w2 there u _ le1 le2 le3 le4 r va (through p _ x) =
    through_stored _ setting s C D z rest w w2 p u le3 le4 r (completed_on le1 le2 r (omega arith) va.arr x.arr) x.stands
    (above va x.arr)
destined_stored place setting s A N C D z c1 rest w w1 w2 there u _ le1 le2 le3 le4 r va (byte p k _ x sp sk) =
    byte_stored _ setting s C D z rest w w2 p k u le3 le4 r (completed_on le1 le2 r (omega arith) va.arr x) sp sk
    (above va x)

pub assigned_run : (setting : Setting) (inner : Meanings) → Simulates setting inner → (xs es : Expressions) (vs ss : List Stretch) (there env : Environment) (z : Configuration) (c rest : List Stmt) (w : World) → AreFrom setting z.scene z.depth env es vs → AreStores setting z.scene (z.depth + 1) there xs ss
    → ByTurns xs es vs ss c rest → env.names ≡ z.env.names → there.names ≡ z.env.names → Ready setting z w → RanDid setting (start z c w) (for_assigned xs es w) z rest w (assigned inner xs there es env w)
assigned_run setting inner sim t.none t.none vs ss there env z c rest w fv fs bt ee et r = went (subst (λ y. CompletedAt setting (start z c w) (for_assigned t.none t.none w) z y z.depth w w) bt (stay setting (for_assigned t.none t.none w) z c w (omega arith) (omega arith) r))
assigned_run setting inner sim (t.more x xs) (t.more e es) (v ∷ vs) (d ∷ ds) there env z c rest w fv fs bt ee et r =
    let B = for_assigned (t.more x xs) (t.more e es) w in
    let s = start z v.from w in
    let A = for_value e w in
    let ze = record z { env = env } in
    subst (λ y. RanDid setting (start z y w) B z rest w (assigned inner (t.more x xs) there (t.more e es) env w)) (sym bt.0)
    (one_run setting inner sim B e ze v.from v.to w _ _ (λ u. adds _ (λ w1. with_after _ _ _ (sim.grows.target x there w1) (λ a. adds _ (λ w2. with_after _ _ _ ((put_adds _ a u).at w2) (λ _. assigned_adds setting inner sim xs es (past x there) (past e env))))))
    (omega arith) (omega arith) fv.0 (ready_at setting z w env ee r) (λ u w1 va pos.
    let C : Account = record { most = 16 * w.turns - 4; least = w.turns - (turns_of false e + turns_of false x) } in
    let D : Account = record { most = 16 * w.turns - 3; least = w.turns - (turns_of false e + turns_of false x) } in
    let m0 = va.arr.most in
    with_ran (λ a. adds _ (λ w2. with_after _ _ _ ((put_adds _ a u).at w2) (λ _. assigned_adds setting inner sim xs es (past x there) (past e env))))
    (ran_on (omega arith) (omega arith) r (omega arith) va.arr (λ a w2 q. q)
    (sim.destination x (next setting s A z v.to (z.depth + 1) w w1 there (z.depth + 1) va.arr) v.to d.to w1 (subst (λ y. IsStore setting z.scene (z.depth + 1) there x y d.to) (sym bt.1) fs.0) (ready_next there (z.depth + 1) va.arr et (omega arith) r)))
    (λ a w2 q.
    with_ran (λ _. assigned_adds setting inner sim xs es (past x there) (past e env))
    (ran_more (omega arith) (omega arith) (destined_stored _ setting s A (for_value x w1) C D z v.to d.to w w1 w2 there u a (omega arith) (omega arith) (omega arith) (omega arith) r (record { arr = va.arr; stands = va.stands }) q))
    (λ _ w3 y.
    let my = y.most in
    comes_to (omega arith) (omega arith) r (omega arith) y
    (assigned_run setting inner sim xs es vs ds (past x there) (past e env) (next setting s D z d.to z.depth w w3 z.env z.depth y) d.to rest w3 fv.1 fs.1 bt.2 ee et (ready_next z.env z.depth y refl (omega arith) r))))))
assigned_run setting inner sim _ _ _ _ there env z c rest w fv fs bt ee et r = absurd bt

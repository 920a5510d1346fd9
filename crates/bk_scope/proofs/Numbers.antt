-- Numbers rise in the order in which they are given, and so differ.
use Rattle.bk_scope.proofs.Terms.{◌≡◌, ℕ, zero, suc, ◌+◌, ◌≤◌, ◌<◌, List, [], ◌∷◌, ◌++◌, length, refl, arith, Sort as sort, Expression, Expressions, Command, Commands, Declaration, Declarations, Definition, Definitions, Starts, name, number, text, truth, query, parens, unary, binary, choice, apply, valof, table, none, more, empty, assign, call, goto, label, case_of, default, when, test, while, for_loop, switch, result, simple, block, repeat, repeat_while, no_commands, also, constants, definitions, no_declarations, declare, no_items, item, routine, function, variables, no_definitions, define, no_starts, value, vector, labels_of, labels_of_each, Spot, procedures_in, numbers, numbers_each, numbers_done, numbers_done_each, numbers_declared, numbers_one_declared, numbers_items, numbers_defined, numbers_one_defined, numbers_started, numbered, following, after_each, after_done, after_declared, after_one_declared, after_one_defined, beginning, NoneOf, AllDiffer}
use Rattle.bk_scope.specs.Given.{counted, given, given_each, given_done, given_done_each, given_declared, given_one_declared, given_defined, given_one_defined, given_started, NumbersDiffer}

-- each is above the one before it, from n on and below m
abbrev Rising : ℕ → ℕ → List ℕ → Type 0
Rising n m [] = n ≤ m
Rising n m (x ∷ xs) = (n ≤ x) × Rising (x + 1) m xs

lower : (i n m : ℕ) (xs : List ℕ) → i ≤ n → Rising n m xs → Rising i m xs
lower i n m [] a h = omega (arith, a, h)
lower i n m (x ∷ xs) a h = (omega (arith, a, h.0), h.1)

higher : (n m j : ℕ) (xs : List ℕ) → m ≤ j → Rising n m xs → Rising n j xs
higher n m j [] a h = omega (arith, a, h)
higher n m j (x ∷ xs) a h = (h.0, higher (x + 1) m j xs a h.1)

rising_append : (n m l : ℕ) (xs ys : List ℕ) → Rising n m xs → Rising m l ys → Rising n l (xs ++ ys)
rising_append n m l [] ys a b = lower n m l ys a b
rising_append n m l (x ∷ xs) ys a b = (a.0, rising_append (x + 1) m l xs ys a.1 b)

rising_counted : (k n : ℕ) → Rising n (n + k) (counted n k)
rising_counted zero n = omega arith
rising_counted (suc k) n = (omega arith, higher (n + 1) (n + 1 + k) (n + suc k) (counted (n + 1) k) (omega arith) (rising_counted k (n + 1)))

above : (x n m : ℕ) (xs : List ℕ) → x < n → Rising n m xs → NoneOf x xs
above x n m [] a h = tt
above x n m (y ∷ xs) a h = ((λ e. omega (arith, e, a, h.0)), above x (y + 1) m xs (omega (arith, a, h.0)) h.1)

rising_differ : (n m : ℕ) (xs : List ℕ) → Rising n m xs → AllDiffer xs
rising_differ n m [] h = tt
rising_differ n m (x ∷ xs) h = (above x (x + 1) m xs (omega arith) h.1, rising_differ (x + 1) m xs h.1)

-- the numbers of a part at n, of which there are at most k
record Rises (n k : ℕ) (xs : List ℕ) : Type 0 where
  all : Rising n (n + k) xs

nothing_rises : (n k : ℕ) → Rises n k []
nothing_rises n k = record { all = omega arith }

more_rises : {n k : ℕ} {xs : List ℕ} (i j : ℕ) → Rises n k xs → i ≤ n → n + k ≤ i + j → Rises i j xs
more_rises {n = n} {k = k} {xs = xs} i j a b c = record { all = lower i n (i + j) xs b (higher n (n + k) (i + j) xs c a.all) }

both_rise : {n k m j : ℕ} {xs ys : List ℕ} → Rises n k xs → Rises m j ys → m ≡ n + k → Rises n (k + j) (xs ++ ys)
both_rise {n = n} {k = k} {m = m} {j = j} {xs = xs} {ys = ys} a b e =
    record { all = rising_append n (n + k) (n + (k + j)) xs ys a.all (higher (n + k) (m + j) (n + (k + j)) ys (omega (arith, e)) (lower (n + k) m (m + j) ys (omega (arith, e)) b.all)) }

counted_rise : (n k : ℕ) → Rises n k (counted n k)
counted_rise n k = record { all = rising_counted k n }

-- a number, and those behind it
own : {xs : List ℕ} (n k j : ℕ) → k + 1 ≤ j → Rises (n + 1) k xs → Rises n j (n ∷ xs)
own {xs = xs} n k j h a = record { all = (omega arith, higher (n + 1) (n + 1 + k) (n + j) xs (omega (arith, h)) a.all) }

-- a LET, by its definitions
let_rises : (l : ℕ) (ds : Definitions) (s : Spot) → Rises (numbered (1 + procedures_in ds) s).number (numbers_defined ds) (given_defined (numbered (1 + procedures_in ds) s) ds) → Rises s.number (numbers_one_declared (definitions l ds)) (given_one_declared s (definitions l ds))
let_rises l no_definitions s h = nothing_rises _ _
let_rises l (define d ds) s h = more_rises _ _ (both_rise (counted_rise (s.number + 1) (procedures_in (define d ds))) h (omega arith)) (omega arith) (omega arith)

mutual
  rise : (e : Expression) (s : Spot) → Rises s.number (numbers e) (given s e)
  rise (parens l e) s = rise e s
  rise (unary l o e) s = rise e s
  rise (binary l o m a b) s = both_rise (rise a s) (rise b (following a s)) refl
  rise (choice l m c a b) s = both_rise (rise c s) (both_rise (rise a (following c s)) (rise b (following a (following c s))) refl) refl
  rise (apply l m e es) s = both_rise (rise e s) (rise_each es (following e s)) refl
  rise (valof l c) s = more_rises _ _ (both_rise (counted_rise (s.number + 1) (length (labels_of c))) (rise_done c (numbered (1 + length (labels_of c)) s)) (omega arith)) (omega arith) (omega arith)
  rise _ s = nothing_rises _ _

  rise_each : (es : Expressions) (s : Spot) → Rises s.number (numbers_each es) (given_each s es)
  rise_each none s = nothing_rises _ _
  rise_each (more e es) s = both_rise (rise e s) (rise_each es (following e s)) refl

  rise_done : (c : Command) (s : Spot) → Rises s.number (numbers_done c) (given_done s c)
  rise_done (assign l xs es) s = both_rise (rise_each xs s) (rise_each es (after_each xs s)) refl
  rise_done (call l e es) s = both_rise (rise e s) (rise_each es (following e s)) refl
  rise_done (label l x c) s = rise_done c s
  rise_done (case_of l e c) s = rise_done c s
  rise_done (default l c) s = rise_done c s
  rise_done (when l b e c) s = both_rise (rise e s) (rise_done c (following e s)) refl
  rise_done (test l e a b) s = both_rise (rise e s) (both_rise (rise_done a (following e s)) (rise_done b (after_done a (following e s))) refl) refl
  rise_done (while l b e c) s = both_rise (rise e s) (rise_done c (following e s)) refl
  rise_done (for_loop l x a b h c) s =
      let u : Spot = following b (following a s) in
      let own : Rises u.number ((1 + length (labels_of c)) + numbers_done c) (counted (u.number + 1) (length (labels_of c)) ++ given_done (numbered (1 + length (labels_of c)) u) c) =
      more_rises _ _ (both_rise (counted_rise (u.number + 1) (length (labels_of c))) (rise_done c (numbered (1 + length (labels_of c)) u)) (omega arith)) (omega arith) (omega arith) in
      both_rise (rise a s) (both_rise (rise b (following a s)) own refl) refl
  rise_done (switch l e c) s = both_rise (rise e s) (more_rises (following e s).number (1 + numbers_done c) (rise_done c (numbered 1 (following e s))) (omega arith) (omega arith)) refl
  rise_done (result l e) s = rise e s
  rise_done (block l no_declarations cs) s = rise_done_each cs s
  rise_done (block l (declare d ds) cs) s =
      let v : Spot = after_one_declared d s in
      let u : Spot = after_declared (declare d ds) s in
      let heads : Rises s.number (numbers_declared (declare d ds)) (given_declared s (declare d ds)) = both_rise (rise_one_declared d s) (rise_declared ds v) refl in
      let own : Rises u.number ((1 + length (labels_of_each cs)) + numbers_done_each cs) (counted (u.number + 1) (length (labels_of_each cs)) ++ given_done_each (numbered (1 + length (labels_of_each cs)) u) cs) =
      more_rises _ _ (both_rise (counted_rise (u.number + 1) (length (labels_of_each cs))) (rise_done_each cs (numbered (1 + length (labels_of_each cs)) u)) (omega arith)) (omega arith) (omega arith) in
      both_rise heads own refl
  rise_done (repeat l c) s = rise_done c s
  rise_done (repeat_while l b c e) s = both_rise (rise_done c s) (rise e (after_done c s)) refl
  rise_done _ s = nothing_rises _ _

  rise_done_each : (cs : Commands) (s : Spot) → Rises s.number (numbers_done_each cs) (given_done_each s cs)
  rise_done_each no_commands s = nothing_rises _ _
  rise_done_each (also c cs) s = both_rise (rise_done c s) (rise_done_each cs (after_done c s)) refl

  rise_declared : (ds : Declarations) (s : Spot) → Rises s.number (numbers_declared ds) (given_declared s ds)
  rise_declared no_declarations s = nothing_rises _ _
  rise_declared (declare d ds) s = both_rise (rise_one_declared d s) (rise_declared ds (after_one_declared d s)) refl

  rise_one_declared : (d : Declaration) (s : Spot) → Rises s.number (numbers_one_declared d) (given_one_declared s d)
  rise_one_declared (constants l sort.Static (item m x e is)) s = more_rises _ _ (counted_rise (s.number + 1) (numbers_items sort.Static (item m x e is))) (omega arith) (omega arith)
  rise_one_declared (constants l _ _) s = nothing_rises _ _
  rise_one_declared (definitions l ds) s = let_rises l ds s (rise_defined ds (numbered (1 + procedures_in ds) s))

  rise_defined : (ds : Definitions) (s : Spot) → Rises s.number (numbers_defined ds) (given_defined s ds)
  rise_defined no_definitions s = nothing_rises _ _
  rise_defined (define d ds) s = both_rise (rise_one_defined d s) (rise_defined ds (after_one_defined d s)) refl

  rise_one_defined : (d : Definition) (s : Spot) → Rises s.number (numbers_one_defined d) (given_one_defined s d)
  rise_one_defined (routine l x fs c) s =
      own s.number (1 + length (labels_of c) + numbers_done c) ((2 + length (labels_of c)) + numbers_done c) (omega arith) ((more_rises (s.number + 1) (1 + length (labels_of c) + numbers_done c) (both_rise (counted_rise (s.number + 2) (length (labels_of c))) (rise_done c (numbered (2 + length (labels_of c)) s)) (omega arith)) (omega arith) (omega arith)))
  rise_one_defined (function l x fs e) s = own s.number (numbers e) (1 + numbers e) (omega arith) (more_rises (s.number + 1) (numbers e) (rise e (numbered 1 s)) (omega arith) (omega arith))
  rise_one_defined (variables l xs is) s = rise_started is s

  rise_started : (is : Starts) (s : Spot) → Rises s.number (numbers_started is) (given_started s is)
  rise_started no_starts s = nothing_rises _ _
  rise_started (value e is) s = both_rise (rise e s) (rise_started is (following e s)) refl
  rise_started (vector l e is) s = rise_started is s

pub numbers_differ : NumbersDiffer
numbers_differ ds = rising_differ beginning.number (beginning.number + numbers_declared ds) (given_declared beginning ds) ((rise_declared ds beginning).all)

-- The numbers that are given to declarations: to labels where their commands begin, to the procedures of a LET at the LET, to
-- the items of STATIC, and to each procedure as the owner of its frame and labels.
use Rattle.std.specs.Prelude.{ℕ, zero, suc, ◌+◌, List, [], ◌∷◌, ◌++◌, length}
use Rattle.bk_tree.specs.declared.tree.Sort.TheVariants as sort
use Rattle.bk_tree.specs.Tree.{Expression, Expressions, Command, Commands, Declaration, Declarations, Definition, Definitions, Starts, parens, unary, binary, choice, apply, valof, none, more, assign, call, label, case_of, default, when, test, while, for_loop, switch, result, block, repeat, repeat_while, no_commands, also, constants, definitions, no_declarations, declare, routine, function, variables, no_definitions, define, no_starts, value, vector}
use Rattle.bk_scope.specs.Entering.{labels_of, labels_of_each}
use Rattle.bk_scope.specs.Spots.{Spot, procedures_in, numbers_items, numbered, following, after_each, after_done, after_declared, after_one_declared, after_one_defined, beginning}
use Rattle.bk_scope.specs.Cases.{AllDiffer}

-- so many numbers from n on
abbrev pub counted : ℕ → ℕ → List ℕ
counted n zero = []
counted n (suc k) = n ∷ counted (n + 1) k

abbrev mutual
  pub given : Spot → Expression → List ℕ
  given s (parens l e) = given s e
  given s (unary l o e) = given s e
  given s (binary l o m a b) = given s a ++ given (following a s) b
  given s (choice l m c a b) = given s c ++ (given (following c s) a ++ given (following a (following c s)) b)
  given s (apply l m e es) = given s e ++ given_each (following e s) es
  given s (valof l c) = counted (s.number + 1) (length (labels_of c)) ++ given_done (numbered (1 + length (labels_of c)) s) c
  given s _ = []

  pub given_each : Spot → Expressions → List ℕ
  given_each s none = []
  given_each s (more e es) = given s e ++ given_each (following e s) es

  pub given_done : Spot → Command → List ℕ
  given_done s (assign l xs es) = given_each s xs ++ given_each (after_each xs s) es
  given_done s (call l e es) = given s e ++ given_each (following e s) es
  given_done s (label l x c) = given_done s c
  given_done s (case_of l e c) = given_done s c
  given_done s (default l c) = given_done s c
  given_done s (when l b e c) = given s e ++ given_done (following e s) c
  given_done s (test l e a b) = given s e ++ (given_done (following e s) a ++ given_done (after_done a (following e s)) b)
  given_done s (while l b e c) = given s e ++ given_done (following e s) c
  given_done s (for_loop l x a b h c) =
      let u : Spot = following b (following a s) in
      given s a ++ (given (following a s) b ++ (counted (u.number + 1) (length (labels_of c)) ++ given_done (numbered (1 + length (labels_of c)) u) c))
  given_done s (switch l e c) = given s e ++ given_done (numbered 1 (following e s)) c
  given_done s (result l e) = given s e
  given_done s (block l no_declarations cs) = given_done_each s cs
  given_done s (block l (declare d ds) cs) =
      let u : Spot = after_declared (declare d ds) s in
      given_declared s (declare d ds) ++ (counted (u.number + 1) (length (labels_of_each cs)) ++ given_done_each (numbered (1 + length (labels_of_each cs)) u) cs)
  given_done s (repeat l c) = given_done s c
  given_done s (repeat_while l b c e) = given_done s c ++ given (after_done c s) e
  given_done s _ = []

  pub given_done_each : Spot → Commands → List ℕ
  given_done_each s no_commands = []
  given_done_each s (also c cs) = given_done s c ++ given_done_each (after_done c s) cs

  pub given_declared : Spot → Declarations → List ℕ
  given_declared s no_declarations = []
  given_declared s (declare d ds) = given_one_declared s d ++ given_declared (after_one_declared d s) ds

  pub given_one_declared : Spot → Declaration → List ℕ
  given_one_declared s (constants l sort.Static is) = counted (s.number + 1) (numbers_items sort.Static is)
  given_one_declared s (constants l o is) = []
  given_one_declared s (definitions l ds) = counted (s.number + 1) (procedures_in ds) ++ given_defined (numbered (1 + procedures_in ds) s) ds

  pub given_defined : Spot → Definitions → List ℕ
  given_defined s no_definitions = []
  given_defined s (define d ds) = given_one_defined s d ++ given_defined (after_one_defined d s) ds

  pub given_one_defined : Spot → Definition → List ℕ
  given_one_defined s (routine l x fs c) = s.number ∷ (counted (s.number + 2) (length (labels_of c)) ++ given_done (numbered (2 + length (labels_of c)) s) c)
  given_one_defined s (function l x fs e) = s.number ∷ given (numbered 1 s) e
  given_one_defined s (variables l xs is) = given_started s is

  pub given_started : Spot → Starts → List ℕ
  given_started s no_starts = []
  given_started s (value e is) = given s e ++ given_started (following e s) is
  given_started s (vector l e is) = given_started s is

-- THE NUMBERS OF DECLARATIONS DIFFER.
abbrev pub NumbersDiffer : Type 0
NumbersDiffer = (ds : Declarations) → AllDiffer (given_declared beginning ds)

-- What the labels are for that a part of the program sets in its own code, in procedure p with depth s: nested procedures, static
-- words and tables are apart.
use Rattle.bk_trans.proofs.Words.{◌≡◌, ℕ, ◌+◌, Bool, true, false, not, List, [], ◌∷◌, ◌++◌, Use, Every}
use Rattle.bk_ocode.specs.Typing as typing
use Rattle.bk_trans.proofs.Terms.{Term, Terms, Condition, Lvalue, Lvalues, NamedCommand, NamedCommands, Declaration, Declarations, Definition, Definitions, Starts, parens, unary, address, binary, choice, apply, valof, none, more, holds, within, fails, both, either, contents, subscript, byte, inside, no_lvalues, onto, assign, call, label, case_of, default, when, test, while, for_loop, switch, result, block, repeat, repeat_while, no_named_commands, also, statics, lets, no_declarations, declare, variables, no_definitions, define, no_starts, value, vector, labels, labels_if, labels_at, labels_onto, labels_in, labels_of_declarations, labels_of_declaration, labels_of_definition, count, after_definition, after_declaration, after_declarations}

pub record Mark : Type 0 where
  pub spot : ℕ
  pub purpose : Use

abbrev pub jump_mark : ℕ → ℕ → ℕ → Mark
jump_mark l p s = record { spot = l; purpose = typing.jumps p s }

abbrev pub result_mark : ℕ → ℕ → ℕ → Mark
result_mark l p s = record { spot = l; purpose = typing.results p s }

abbrev pub connective_mark : Bool → ℕ → ℕ → ℕ → List Mark
connective_mark true n p s = jump_mark n p s ∷ []
connective_mark false n p s = []

-- one of each by turns
abbrev pub marks_by_turns : List (List Mark) → List (List Mark) → List Mark
marks_by_turns (x ∷ xs) (y ∷ ys) = x ++ y ++ marks_by_turns xs ys
marks_by_turns _ _ = []

abbrev mutual
  pub marks : ℕ → ℕ → ℕ → Term → List Mark
  marks p s n (parens e) = marks p s n e
  marks p s n (unary q e) = marks p s n e
  marks p s n (address x) = marks_at p s n x
  marks p s n (binary o a b) = marks p s n a ++ marks p (s + 1) (n + labels a) b
  marks p s n (choice c a b) =
      jump_mark n p s ∷ result_mark (n + 1) p s ∷ marks_if p s (n + 2) c false ++ marks p s (n + 2 + labels_if c) a ++ marks p s (n + 2 + labels_if c + labels a) b
  marks p s n (apply e es) = marks_each p (s + 2) (n + labels e) es ++ marks p (s + 2 + count es) n e
  marks p s n (valof c) = result_mark n p s ∷ marks_in p s (n + 1) c
  marks p s n _ = []

  pub marks_each : ℕ → ℕ → ℕ → Terms → List Mark
  marks_each p s n none = []
  marks_each p s n (more e es) = marks p s n e ++ marks_each p (s + 1) (n + labels e) es

  -- where it jumps if its truth is t: the own label of a connective is set where both operands may have to be looked at
  pub marks_if : ℕ → ℕ → ℕ → Condition → Bool → List Mark
  marks_if p s n (holds e) t = marks p s n e
  marks_if p s n (within c) t = marks_if p s n c t
  marks_if p s n (fails c) t = marks_if p s n c (not t)
  marks_if p s n (both a b) t = connective_mark t n p s ++ marks_if p s (n + 1) a false ++ marks_if p s (n + 1 + labels_if a) b t
  marks_if p s n (either a b) t = connective_mark (not t) n p s ++ marks_if p s (n + 1) a true ++ marks_if p s (n + 1 + labels_if a) b t

  pub marks_at : ℕ → ℕ → ℕ → Lvalue → List Mark
  marks_at p s n (contents e) = marks p s n e
  marks_at p s n (subscript a b) = marks p s n a ++ marks p (s + 1) (n + labels a) b
  marks_at p s n (inside x) = marks_at p s n x
  marks_at p s n _ = []

  pub marks_onto : ℕ → ℕ → ℕ → Lvalue → List Mark
  marks_onto p s n (contents e) = marks p s n e
  marks_onto p s n (subscript a b) = marks p s n a ++ marks p (s + 1) (n + labels a) b
  marks_onto p s n (byte a b) = marks p s n a ++ marks p (s + 1) (n + labels a) b
  marks_onto p s n (inside x) = marks_onto p s n x
  marks_onto p s n _ = []

  -- those of several values, all at one depth, and of several destinations
  pub marks_from : ℕ → ℕ → ℕ → Terms → List (List Mark)
  marks_from p s n none = []
  marks_from p s n (more e es) = marks p s n e ∷ marks_from p s (n + labels e) es

  pub marks_all_onto : ℕ → ℕ → ℕ → Lvalues → List (List Mark)
  marks_all_onto p s n no_lvalues = []
  marks_all_onto p s n (onto x xs) = marks_onto p s n x ∷ marks_all_onto p s (n + labels_at x) xs

  pub marks_in : ℕ → ℕ → ℕ → NamedCommand → List Mark
  marks_in p s n (assign xs es) = marks_by_turns (marks_from p s (n + labels_onto xs) es) (marks_all_onto p (s + 1) n xs)
  marks_in p s n (call e es) = marks_each p (s + 2) (n + labels e) es ++ marks p (s + 2 + count es) n e
  marks_in p s n (label b c) = jump_mark n p s ∷ marks_in p s (n + 1) c
  marks_in p s n (case_of w c) = jump_mark n p s ∷ marks_in p s (n + 1) c
  marks_in p s n (default c) = jump_mark n p s ∷ marks_in p s (n + 1) c
  marks_in p s n (when b e c) = jump_mark n p s ∷ marks_if p s (n + 1) e (not b) ++ marks_in p s (n + 1 + labels_if e) c
  marks_in p s n (test e a b) =
      jump_mark n p s ∷ jump_mark (n + 1) p s ∷ marks_if p s (n + 2) e false ++ marks_in p s (n + 2 + labels_if e) a ++ marks_in p s (n + 2 + labels_if e + labels_in a) b
  marks_in p s n (while b e c) =
      jump_mark n p s ∷ jump_mark (n + 1) p s ∷ jump_mark (n + 2) p s ∷ marks_in p s (n + 3 + labels_if e) c ++ marks_if p s (n + 3) e b
  marks_in p s n (for_loop a b k c) =
      jump_mark n p (s + 2) ∷ jump_mark (n + 1) p (s + 2) ∷ jump_mark (n + 2) p (s + 2) ∷ jump_mark (n + 3) p (s + 2)
      ∷ marks p s (n + 4) a ++ marks p (s + 1) (n + 4 + labels a) b ++ marks_in p (s + 2) (n + 4 + labels a + labels b) c
  marks_in p s n (switch e c) = jump_mark n p s ∷ marks p s (n + 1) e ++ marks_in p s (n + 1 + labels e) c
  marks_in p s n (result e) = marks p s n e
  marks_in p s n (block no_declarations cs) = marks_through p s n cs
  marks_in p s n (block (declare h hs) cs) =
      marks_of_declarations p s n (declare h hs) ++ marks_through p (after_declarations s (declare h hs)) (n + labels_of_declarations (declare h hs)) cs
  marks_in p s n (repeat c) = jump_mark n p s ∷ jump_mark (n + 1) p s ∷ marks_in p s (n + 2) c
  marks_in p s n (repeat_while b c e) =
      jump_mark n p s ∷ jump_mark (n + 1) p s ∷ jump_mark (n + 2) p s ∷ marks_in p s (n + 3) c ++ marks_if p s (n + 3 + labels_in c) e b
  marks_in p s n _ = []

  pub marks_through : ℕ → ℕ → ℕ → NamedCommands → List Mark
  marks_through p s n no_named_commands = []
  marks_through p s n (also c cs) = marks_in p s n c ++ marks_through p s (n + labels_in c) cs

  pub marks_of_declarations : ℕ → ℕ → ℕ → Declarations → List Mark
  marks_of_declarations p t n no_declarations = []
  marks_of_declarations p t n (declare h hs) = marks_of_declaration p t n h ++ marks_of_declarations p (after_declaration t h) (n + labels_of_declaration h) hs

  pub marks_of_declaration : ℕ → ℕ → ℕ → Declaration → List Mark
  marks_of_declaration p t n (statics ks) = []
  marks_of_declaration p t n (lets ds) = marks_of_definitions p t n ds

  pub marks_of_definitions : ℕ → ℕ → ℕ → Definitions → List Mark
  marks_of_definitions p t n no_definitions = []
  marks_of_definitions p t n (define d ds) = marks_of_definition p t n d ++ marks_of_definitions p (after_definition t d) (n + labels_of_definition d) ds

  pub marks_of_definition : ℕ → ℕ → ℕ → Definition → List Mark
  marks_of_definition p t n (variables is) = marks_of_starts p t n is
  marks_of_definition p t n _ = []

  pub marks_of_starts : ℕ → ℕ → ℕ → Starts → List Mark
  marks_of_starts p t n no_starts = []
  marks_of_starts p t n (value e is) = marks p t n e ++ marks_of_starts p (t + 1) (n + labels e) is
  marks_of_starts p t n (vector k is) = marks_of_starts p (t + k + 2) n is

-- a plan has them
abbrev pub Right : (ℕ → Use) → Mark → Type 0
Right plan m = plan m.spot ≡ m.purpose

abbrev pub AllRight : (ℕ → Use) → List Mark → Type 0
AllRight plan ms = Every (Right plan) ms

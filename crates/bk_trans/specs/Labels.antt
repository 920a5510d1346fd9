-- How many labels the nodes of a part of the program take. The labels of a part are those from its first on.
use Rattle.std.specs.Prelude.{ℕ, ◌+◌, length}
use Rattle.bk_scope.specs.declared.bound.Bound.{Bound}
use Rattle.bk_scope.specs.declared.bound.Bound.TheVariants.{Static}
use Rattle.bk_trans.specs.Program.{Term, Terms, Condition, Lvalue, Lvalues, NamedCommand, NamedCommands, Declaration, Declarations, Definition, Definitions, Starts, parens, unary, address, binary, choice, apply, valof, table, none, more, holds, within, fails, both, either, contents, subscript, byte, inside, no_lvalues, onto, assign, call, label, case_of, default, when, test, while, for_loop, switch, result, block, repeat, repeat_while, no_named_commands, also, statics, lets, no_declarations, declare, routine, function, variables, no_definitions, define, no_starts, value, vector}

-- a procedure that sets a global has an entry, another one a word too
abbrev pub labels_of_procedure : Bound → ℕ
labels_of_procedure (Static n) = 2
labels_of_procedure _ = 1

abbrev mutual
  pub labels : Term → ℕ
  labels (parens e) = labels e
  labels (unary q e) = labels e
  labels (address x) = labels_at x
  labels (binary o a b) = labels a + labels b
  labels (choice c a b) = 2 + labels_if c + labels a + labels b
  labels (apply e es) = labels e + labels_each es
  labels (valof c) = 1 + labels_in c
  labels (table ws) = 1
  labels _ = 0

  pub labels_each : Terms → ℕ
  labels_each none = 0
  labels_each (more e es) = labels e + labels_each es

  pub labels_if : Condition → ℕ
  labels_if (holds e) = labels e
  labels_if (within c) = labels_if c
  labels_if (fails c) = labels_if c
  labels_if (both a b) = 1 + labels_if a + labels_if b
  labels_if (either a b) = 1 + labels_if a + labels_if b

  pub labels_at : Lvalue → ℕ
  labels_at (contents e) = labels e
  labels_at (subscript a b) = labels a + labels b
  labels_at (byte a b) = labels a + labels b
  labels_at (inside x) = labels_at x
  labels_at _ = 0

  pub labels_onto : Lvalues → ℕ
  labels_onto no_lvalues = 0
  labels_onto (onto x xs) = labels_at x + labels_onto xs

  pub labels_in : NamedCommand → ℕ
  labels_in (assign xs es) = labels_onto xs + labels_each es
  labels_in (call e es) = labels e + labels_each es
  labels_in (label b c) = 1 + labels_in c
  labels_in (case_of w c) = 1 + labels_in c
  labels_in (default c) = 1 + labels_in c
  labels_in (when b e c) = 1 + labels_if e + labels_in c
  labels_in (test e a b) = 2 + labels_if e + labels_in a + labels_in b
  labels_in (while b e c) = 3 + labels_if e + labels_in c
  labels_in (for_loop a b k c) = 4 + labels a + labels b + labels_in c
  labels_in (switch e c) = 1 + labels e + labels_in c
  labels_in (result e) = labels e
  labels_in (block hs cs) = labels_of_declarations hs + labels_through cs
  labels_in (repeat c) = 2 + labels_in c
  labels_in (repeat_while b c e) = 3 + labels_in c + labels_if e
  labels_in _ = 0

  pub labels_through : NamedCommands → ℕ
  labels_through no_named_commands = 0
  labels_through (also c cs) = labels_in c + labels_through cs

  pub labels_of_declarations : Declarations → ℕ
  labels_of_declarations no_declarations = 0
  labels_of_declarations (declare h hs) = labels_of_declaration h + labels_of_declarations hs

  pub labels_of_declaration : Declaration → ℕ
  labels_of_declaration (statics ks) = length ks
  labels_of_declaration (lets ds) = labels_of_definitions ds

  pub labels_of_definitions : Definitions → ℕ
  labels_of_definitions no_definitions = 0
  labels_of_definitions (define d ds) = labels_of_definition d + labels_of_definitions ds

  pub labels_of_definition : Definition → ℕ
  labels_of_definition (routine b x k c) = labels_of_procedure b + labels_in c
  labels_of_definition (function b x k e) = labels_of_procedure b + labels e
  labels_of_definition (variables is) = labels_of_starts is

  pub labels_of_starts : Starts → ℕ
  labels_of_starts no_starts = 0
  labels_of_starts (value e is) = labels e + labels_of_starts is
  labels_of_starts (vector k is) = labels_of_starts is

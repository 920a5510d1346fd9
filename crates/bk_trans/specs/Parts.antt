-- What is by itself in the code of a section, in the order of the nodes: procedures, static words, tables, and the labels
-- that a GOTO may go to. Each has its first label; s is the depth at a node, and n its first label.
use Rattle.std.specs.Prelude.{ℕ, ◌+◌, List, [], ◌∷◌, ◌++◌}
use Rattle.bk_scope.specs.declared.bound.Bound.{Bound}
use Rattle.bk_scope.specs.declared.bound.Bound.TheVariants as b
use Rattle.bk_trans.specs.declared.around.Target.{Target}
use Rattle.bk_trans.specs.Program.{StaticItem, Term, Terms, Condition, Lvalue, Lvalues, NamedCommand, NamedCommands, Declaration, Declarations, Definition, Definitions, Starts, parens, unary, address, binary, choice, apply, valof, table, none, more, holds, within, fails, both, either, contents, subscript, byte, inside, no_lvalues, onto, assign, call, label, case_of, default, when, test, while, for_loop, switch, result, block, repeat, repeat_while, no_named_commands, also, statics, lets, no_declarations, declare, routine, function, variables, no_definitions, define, no_starts, value, vector}
use Rattle.bk_trans.specs.Labels.{labels, labels_if, labels_at, labels_onto, labels_in, labels_of_declarations, labels_of_declaration, labels_of_definition, labels_of_procedure}
use Rattle.bk_trans.specs.Depths.{count, after_definition, after_declaration, after_declarations}

pub data Part : Type 0 where
  -- a procedure
  procedure : ℕ → Definition → Part
  -- an item of STATIC
  static_item : ℕ → StaticItem → Part
  -- the words of a TABLE
  static_table : ℕ → List ℕ → Part
  -- a label, with its depth
  label_place : ℕ → ℕ → Bound → Part

-- items one after another take a label each
abbrev pub parts_of_items : ℕ → List StaticItem → List Part
parts_of_items n [] = []
parts_of_items n (k ∷ ks) = static_item n k ∷ parts_of_items (n + 1) ks

abbrev mutual
  pub parts : ℕ → ℕ → Term → List Part
  parts s n (parens e) = parts s n e
  parts s n (unary q e) = parts s n e
  parts s n (address x) = parts_at s n x
  parts s n (binary o a b) = parts s n a ++ parts (s + 1) (n + labels a) b
  parts s n (choice c a b) = parts_if s (n + 2) c ++ parts s (n + 2 + labels_if c) a ++ parts s (n + 2 + labels_if c + labels a) b
  parts s n (apply e es) = parts (s + 2 + count es) n e ++ parts_each (s + 2) (n + labels e) es
  parts s n (valof c) = parts_in s (n + 1) c
  parts s n (table ws) = static_table n ws ∷ []
  parts s n _ = []

  pub parts_each : ℕ → ℕ → Terms → List Part
  parts_each s n none = []
  parts_each s n (more e es) = parts s n e ++ parts_each (s + 1) (n + labels e) es

  pub parts_if : ℕ → ℕ → Condition → List Part
  parts_if s n (holds e) = parts s n e
  parts_if s n (within c) = parts_if s n c
  parts_if s n (fails c) = parts_if s n c
  parts_if s n (both a b) = parts_if s (n + 1) a ++ parts_if s (n + 1 + labels_if a) b
  parts_if s n (either a b) = parts_if s (n + 1) a ++ parts_if s (n + 1 + labels_if a) b

  pub parts_at : ℕ → ℕ → Lvalue → List Part
  parts_at s n (contents e) = parts s n e
  parts_at s n (subscript a b) = parts s n a ++ parts (s + 1) (n + labels a) b
  parts_at s n (byte a b) = parts s n a ++ parts (s + 1) (n + labels a) b
  parts_at s n (inside x) = parts_at s n x
  parts_at s n _ = []

  pub parts_onto : ℕ → ℕ → Lvalues → List Part
  parts_onto s n no_lvalues = []
  parts_onto s n (onto x xs) = parts_at s n x ++ parts_onto s (n + labels_at x) xs

  -- the values of an assignment have one depth
  pub parts_from : ℕ → ℕ → Terms → List Part
  parts_from s n none = []
  parts_from s n (more e es) = parts s n e ++ parts_from s (n + labels e) es

  pub parts_in : ℕ → ℕ → NamedCommand → List Part
  parts_in s n (assign xs es) = parts_onto (s + 1) n xs ++ parts_from s (n + labels_onto xs) es
  parts_in s n (call e es) = parts (s + 2 + count es) n e ++ parts_each (s + 2) (n + labels e) es
  parts_in s n (label b c) = label_place n s b ∷ parts_in s (n + 1) c
  parts_in s n (case_of w c) = parts_in s (n + 1) c
  parts_in s n (default c) = parts_in s (n + 1) c
  parts_in s n (when b e c) = parts_if s (n + 1) e ++ parts_in s (n + 1 + labels_if e) c
  parts_in s n (test e a b) = parts_if s (n + 2) e ++ parts_in s (n + 2 + labels_if e) a ++ parts_in s (n + 2 + labels_if e + labels_in a) b
  parts_in s n (while b e c) = parts_if s (n + 3) e ++ parts_in s (n + 3 + labels_if e) c
  parts_in s n (for_loop a b k c) = parts s (n + 4) a ++ parts (s + 1) (n + 4 + labels a) b ++ parts_in (s + 2) (n + 4 + labels a + labels b) c
  parts_in s n (switch e c) = parts s (n + 1) e ++ parts_in s (n + 1 + labels e) c
  parts_in s n (result e) = parts s n e
  parts_in s n (block hs cs) = parts_of_declarations s n hs ++ parts_through (after_declarations s hs) (n + labels_of_declarations hs) cs
  parts_in s n (repeat c) = parts_in s (n + 2) c
  parts_in s n (repeat_while b c e) = parts_in s (n + 3) c ++ parts_if s (n + 3 + labels_in c) e
  parts_in s n _ = []

  pub parts_through : ℕ → ℕ → NamedCommands → List Part
  parts_through s n no_named_commands = []
  parts_through s n (also c cs) = parts_in s n c ++ parts_through s (n + labels_in c) cs

  pub parts_of_declarations : ℕ → ℕ → Declarations → List Part
  parts_of_declarations t n no_declarations = []
  parts_of_declarations t n (declare h hs) = parts_of_declaration t n h ++ parts_of_declarations (after_declaration t h) (n + labels_of_declaration h) hs

  pub parts_of_declaration : ℕ → ℕ → Declaration → List Part
  parts_of_declaration t n (statics ks) = parts_of_items n ks
  parts_of_declaration t n (lets ds) = parts_of_definitions t n ds

  pub parts_of_definitions : ℕ → ℕ → Definitions → List Part
  parts_of_definitions t n no_definitions = []
  parts_of_definitions t n (define d ds) = parts_of_definition t n d ++ parts_of_definitions (after_definition t d) (n + labels_of_definition d) ds

  -- a procedure is before those in it
  pub parts_of_definition : ℕ → ℕ → Definition → List Part
  parts_of_definition t n (routine b x k c) = procedure n (routine b x k c) ∷ parts_in (k + 2) (n + labels_of_procedure b) c
  parts_of_definition t n (function b x k e) = procedure n (function b x k e) ∷ parts (k + 2) (n + labels_of_procedure b) e
  parts_of_definition t n (variables is) = parts_of_starts t n is

  pub parts_of_starts : ℕ → ℕ → Starts → List Part
  parts_of_starts t n no_starts = []
  parts_of_starts t n (value e is) = parts t n e ++ parts_of_starts (t + 1) (n + labels e) is
  parts_of_starts t n (vector k is) = parts_of_starts (t + k + 2) n is

-- a static word
abbrev pub target_of_word : ℕ → Bound → List Target
target_of_word n (b.Static m) = record { number = m; label = n; depth = 0 } ∷ []
target_of_word n _ = []

abbrev pub target_of_label : ℕ → ℕ → Bound → List Target
target_of_label n s (b.Label k m) = record { number = m; label = n; depth = s } ∷ []
target_of_label n s _ = []

abbrev pub target_of : Part → List Target
target_of (procedure n (routine b x k c)) = target_of_word (n + 1) b
target_of (procedure n (function b x k e)) = target_of_word (n + 1) b
target_of (procedure n (variables is)) = []
target_of (static_item n k) = target_of_word n k.bound
target_of (static_table n ws) = []
target_of (label_place n s b) = target_of_label n s b

-- The depth and the nodes of a tree, and their limits. Nodes are the items of MANIFEST, STATIC and GLOBAL, definitions,
-- commands other than empty ones, and expressions; depth is the greatest number of nodes inside one another. Both
-- copies of an operand that two relations share are counted.
use Rattle.std.specs.Prelude.{ℕ, ◌+◌, ◌≤◌, max}
use Rattle.bk_base.specs.declared.limit.TheConstants.{TREE_DEPTH, TREE_NODES}
use Rattle.bk_tree.specs.Tree.{Expression, Expressions, Command, Commands, Declaration, Declarations, Items, Definition, Definitions, Starts, name, number, text, truth, query, parens, unary, binary, choice, apply, valof, table, none, more, empty, assign, call, goto, label, case_of, default, when, test, while, for_loop, switch, result, simple, block, repeat, repeat_while, no_commands, also, constants, definitions, no_declarations, declare, no_items, item, routine, function, variables, no_definitions, define, no_starts, value, vector}

abbrev mutual
  pub depth : Expression → ℕ
  depth (name l x) = 1
  depth (number l n) = 1
  depth (text l x) = 1
  depth (truth l b) = 1
  depth (query l) = 1
  depth (parens l e) = depth e + 1
  depth (unary l p e) = depth e + 1
  depth (binary l o s a b) = max (depth a) (depth b) + 1
  depth (choice l s c a b) = max (depth c) (max (depth a) (depth b)) + 1
  depth (apply l s f es) = max (depth f) (depth_of_each es) + 1
  depth (valof l c) = depth_of_command c + 1
  depth (table l es) = depth_of_each es + 1

  pub depth_of_each : Expressions → ℕ
  depth_of_each none = 0
  depth_of_each (more e es) = max (depth e) (depth_of_each es)

  pub depth_of_command : Command → ℕ
  depth_of_command empty = 0
  depth_of_command (assign l xs es) = max (depth_of_each xs) (depth_of_each es) + 1
  depth_of_command (call l f es) = max (depth f) (depth_of_each es) + 1
  depth_of_command (goto l x) = 1
  depth_of_command (label l x c) = depth_of_command c + 1
  depth_of_command (case_of l e c) = max (depth e) (depth_of_command c) + 1
  depth_of_command (default l c) = depth_of_command c + 1
  depth_of_command (when l b e c) = max (depth e) (depth_of_command c) + 1
  depth_of_command (test l e a b) = max (depth e) (max (depth_of_command a) (depth_of_command b)) + 1
  depth_of_command (while l b e c) = max (depth e) (depth_of_command c) + 1
  depth_of_command (for_loop l x a b h c) = max (depth a) (max (depth b) (max (depth_of_each h) (depth_of_command c))) + 1
  depth_of_command (switch l e c) = max (depth e) (depth_of_command c) + 1
  depth_of_command (result l e) = depth e + 1
  depth_of_command (simple l w) = 1
  depth_of_command (block l ds cs) = max (depth_of_declarations ds) (depth_of_commands cs) + 1
  depth_of_command (repeat l c) = depth_of_command c + 1
  depth_of_command (repeat_while l b c e) = max (depth_of_command c) (depth e) + 1

  pub depth_of_commands : Commands → ℕ
  depth_of_commands no_commands = 0
  depth_of_commands (also c cs) = max (depth_of_command c) (depth_of_commands cs)

  pub depth_of_declaration : Declaration → ℕ
  depth_of_declaration (constants l s is) = depth_of_items is
  depth_of_declaration (definitions l ds) = depth_of_definitions ds

  pub depth_of_declarations : Declarations → ℕ
  depth_of_declarations no_declarations = 0
  depth_of_declarations (declare d ds) = max (depth_of_declaration d) (depth_of_declarations ds)

  pub depth_of_items : Items → ℕ
  depth_of_items no_items = 0
  depth_of_items (item l x e is) = max ((depth e + 1)) (depth_of_items is)

  pub depth_of_definition : Definition → ℕ
  depth_of_definition (routine l x fs c) = depth_of_command c + 1
  depth_of_definition (function l x fs e) = depth e + 1
  depth_of_definition (variables l xs is) = depth_of_starts is + 1

  pub depth_of_definitions : Definitions → ℕ
  depth_of_definitions no_definitions = 0
  depth_of_definitions (define d ds) = max (depth_of_definition d) (depth_of_definitions ds)

  pub depth_of_starts : Starts → ℕ
  depth_of_starts no_starts = 0
  depth_of_starts (value e is) = max (depth e) (depth_of_starts is)
  depth_of_starts (vector l e is) = max (depth e) (depth_of_starts is)

abbrev mutual
  pub nodes : Expression → ℕ
  nodes (name l x) = 1
  nodes (number l n) = 1
  nodes (text l x) = 1
  nodes (truth l b) = 1
  nodes (query l) = 1
  nodes (parens l e) = nodes e + 1
  nodes (unary l p e) = nodes e + 1
  nodes (binary l o s a b) = nodes a + nodes b + 1
  nodes (choice l s c a b) = nodes c + nodes a + nodes b + 1
  nodes (apply l s f es) = nodes f + nodes_of_each es + 1
  nodes (valof l c) = nodes_of_command c + 1
  nodes (table l es) = nodes_of_each es + 1

  pub nodes_of_each : Expressions → ℕ
  nodes_of_each none = 0
  nodes_of_each (more e es) = nodes e + nodes_of_each es

  pub nodes_of_command : Command → ℕ
  nodes_of_command empty = 0
  nodes_of_command (assign l xs es) = nodes_of_each xs + nodes_of_each es + 1
  nodes_of_command (call l f es) = nodes f + nodes_of_each es + 1
  nodes_of_command (goto l x) = 1
  nodes_of_command (label l x c) = nodes_of_command c + 1
  nodes_of_command (case_of l e c) = nodes e + nodes_of_command c + 1
  nodes_of_command (default l c) = nodes_of_command c + 1
  nodes_of_command (when l b e c) = nodes e + nodes_of_command c + 1
  nodes_of_command (test l e a b) = nodes e + nodes_of_command a + nodes_of_command b + 1
  nodes_of_command (while l b e c) = nodes e + nodes_of_command c + 1
  nodes_of_command (for_loop l x a b h c) = nodes a + nodes b + nodes_of_each h + nodes_of_command c + 1
  nodes_of_command (switch l e c) = nodes e + nodes_of_command c + 1
  nodes_of_command (result l e) = nodes e + 1
  nodes_of_command (simple l w) = 1
  nodes_of_command (block l ds cs) = nodes_of_declarations ds + nodes_of_commands cs + 1
  nodes_of_command (repeat l c) = nodes_of_command c + 1
  nodes_of_command (repeat_while l b c e) = nodes_of_command c + nodes e + 1

  pub nodes_of_commands : Commands → ℕ
  nodes_of_commands no_commands = 0
  nodes_of_commands (also c cs) = nodes_of_command c + nodes_of_commands cs

  pub nodes_of_declaration : Declaration → ℕ
  nodes_of_declaration (constants l s is) = nodes_of_items is
  nodes_of_declaration (definitions l ds) = nodes_of_definitions ds

  pub nodes_of_declarations : Declarations → ℕ
  nodes_of_declarations no_declarations = 0
  nodes_of_declarations (declare d ds) = nodes_of_declaration d + nodes_of_declarations ds

  pub nodes_of_items : Items → ℕ
  nodes_of_items no_items = 0
  nodes_of_items (item l x e is) = nodes e + 1 + nodes_of_items is

  pub nodes_of_definition : Definition → ℕ
  nodes_of_definition (routine l x fs c) = nodes_of_command c + 1
  nodes_of_definition (function l x fs e) = nodes e + 1
  nodes_of_definition (variables l xs is) = nodes_of_starts is + 1

  pub nodes_of_definitions : Definitions → ℕ
  nodes_of_definitions no_definitions = 0
  nodes_of_definitions (define d ds) = nodes_of_definition d + nodes_of_definitions ds

  pub nodes_of_starts : Starts → ℕ
  nodes_of_starts no_starts = 0
  nodes_of_starts (value e is) = nodes e + nodes_of_starts is
  nodes_of_starts (vector l e is) = nodes e + nodes_of_starts is

-- within the limits of a section
abbrev pub Within : Declarations → Type 0
Within ds = (depth_of_declarations ds ≤ TREE_DEPTH) × (nodes_of_declarations ds ≤ TREE_NODES)

-- Parts of trees: the positions at which they begin, how many a list has, and lists one after another.
use Rattle.std.specs.Prelude.{ℕ, ◌+◌, List, [], ◌∷◌}
use Rattle.bk_tree.specs.Tree.{Mention, Expression, Expressions, Command, Commands, Declarations, Items, Definitions, Starts, name, number, text, truth, query, parens, unary, binary, choice, apply, valof, table, none, more, empty, assign, call, goto, label, case_of, default, when, test, while, for_loop, switch, result, simple, block, repeat, repeat_while, no_commands, also, no_declarations, declare, no_items, item, no_definitions, define, no_starts, value, vector}

-- the position of an expression's first symbol
abbrev pub at_expression : Expression → ℕ
at_expression (name l x) = l
at_expression (number l n) = l
at_expression (text l x) = l
at_expression (truth l b) = l
at_expression (query l) = l
at_expression (parens l e) = l
at_expression (unary l p e) = l
at_expression (binary l o s a b) = l
at_expression (choice l s c a b) = l
at_expression (apply l s f es) = l
at_expression (valof l c) = l
at_expression (table l es) = l

abbrev pub at_expressions : Expressions → ℕ
at_expressions none = 1
at_expressions (more e es) = at_expression e

abbrev pub at_names : List Mention → ℕ
at_names [] = 1
at_names (x ∷ xs) = x.at

-- the position of a command's first symbol; an empty one has none, and counts as on the first line
abbrev pub at_command : Command → ℕ
at_command empty = 1
at_command (assign l xs es) = l
at_command (call l f es) = l
at_command (goto l x) = l
at_command (label l x c) = l
at_command (case_of l e c) = l
at_command (default l c) = l
at_command (when l b e c) = l
at_command (test l e a b) = l
at_command (while l b e c) = l
at_command (for_loop l x a b h c) = l
at_command (switch l e c) = l
at_command (result l e) = l
at_command (simple l w) = l
at_command (block l ds cs) = l
at_command (repeat l c) = l
at_command (repeat_while l b c e) = l

-- how many expressions, and how many beginnings of variables
abbrev pub size : Expressions → ℕ
size none = 0
size (more e es) = size es + 1

abbrev pub start_count : Starts → ℕ
start_count no_starts = 0
start_count (value e is) = start_count is + 1
start_count (vector l e is) = start_count is + 1

-- one list after another
abbrev pub each_then : Expressions → Expressions → Expressions
each_then none ys = ys
each_then (more x xs) ys = more x (each_then xs ys)

abbrev pub commands_then : Commands → Commands → Commands
commands_then no_commands ys = ys
commands_then (also x xs) ys = also x (commands_then xs ys)

abbrev pub declarations_then : Declarations → Declarations → Declarations
declarations_then no_declarations ys = ys
declarations_then (declare x xs) ys = declare x (declarations_then xs ys)

abbrev pub items_then : Items → Items → Items
items_then no_items ys = ys
items_then (item l x e xs) ys = item l x e (items_then xs ys)

abbrev pub definitions_then : Definitions → Definitions → Definitions
definitions_then no_definitions ys = ys
definitions_then (define x xs) ys = define x (definitions_then xs ys)

abbrev pub starts_then : Starts → Starts → Starts
starts_then no_starts ys = ys
starts_then (value e xs) ys = value e (starts_then xs ys)
starts_then (vector l e xs) ys = vector l e (starts_then xs ys)

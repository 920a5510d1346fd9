-- Four numbers a node at most, labels counted where their commands begin.
use Rattle.bk_scope.proofs.Terms.{◌+◌, ◌*◌, ◌≤◌, length, arith, length-append, Sort as sort, Expression, Expressions, Command, Commands, Declaration, Declarations, Items, Definitions, Starts, name, number, text, truth, query, parens, unary, binary, choice, apply, valof, table, none, more, empty, assign, call, goto, label, case_of, default, when, test, while, for_loop, switch, result, simple, block, repeat, repeat_while, no_commands, also, constants, definitions, no_declarations, declare, no_items, item, routine, function, variables, no_definitions, define, no_starts, value, vector, nodes, nodes_of_each, nodes_of_command, nodes_of_commands, nodes_of_declaration, nodes_of_declarations, nodes_of_items, nodes_of_definitions, nodes_of_starts, labels_of, labels_of_each, procedures_in, numbers, numbers_each, numbers_done, numbers_done_each, numbers_declared, numbers_one_declared, numbers_items, numbers_defined, numbers_started}
use Rattle.bk_scope.specs.Few.{FewNumbers}

few_items : (is : Items) → numbers_items sort.Static is ≤ nodes_of_items is
few_items no_items = omega arith
few_items (item l x e is) = omega (arith, few_items is)

mutual
  few : (e : Expression) → numbers e ≤ 4 * nodes e
  few (parens l e) = omega (arith, few e)
  few (unary l o e) = omega (arith, few e)
  few (binary l o m a b) = omega (arith, few a, few b)
  few (choice l m c a b) = omega (arith, few c, few a, few b)
  few (apply l m e es) = omega (arith, few e, few_each es)
  few (valof l c) = omega (arith, few_done c)
  few _ = omega arith

  few_each : (es : Expressions) → numbers_each es ≤ 4 * nodes_of_each es
  few_each none = omega arith
  few_each (more e es) = omega (arith, few e, few_each es)

  few_done : (c : Command) → numbers_done c + length (labels_of c) ≤ 4 * nodes_of_command c
  few_done (assign l xs es) = omega (arith, few_each xs, few_each es)
  few_done (call l e es) = omega (arith, few e, few_each es)
  few_done (label l x c) = omega (arith, few_done c)
  few_done (case_of l e c) = omega (arith, few_done c)
  few_done (default l c) = omega (arith, few_done c)
  few_done (when l b e c) = omega (arith, few e, few_done c)
  few_done (test l e a b) = omega (arith, few e, few_done a, few_done b, length-append (labels_of a) (labels_of b))
  few_done (while l b e c) = omega (arith, few e, few_done c)
  few_done (for_loop l x a b s c) = omega (arith, few a, few b, few_done c)
  few_done (switch l e c) = omega (arith, few e, few_done c)
  few_done (result l e) = omega (arith, few e)
  few_done (block l no_declarations cs) = omega (arith, few_done_each cs)
  few_done (block l (declare d ds) cs) = omega (arith, few_one_declared d, few_declared ds, few_done_each cs)
  few_done (repeat l c) = omega (arith, few_done c)
  few_done (repeat_while l b c e) = omega (arith, few_done c, few e)
  few_done _ = omega arith

  few_done_each : (cs : Commands) → numbers_done_each cs + length (labels_of_each cs) ≤ 4 * nodes_of_commands cs
  few_done_each no_commands = omega arith
  few_done_each (also c cs) = omega (arith, few_done c, few_done_each cs, length-append (labels_of c) (labels_of_each cs))

  few_declared : (ds : Declarations) → numbers_declared ds ≤ 4 * nodes_of_declarations ds
  few_declared no_declarations = omega arith
  few_declared (declare d ds) = omega (arith, few_one_declared d, few_declared ds)

  few_one_declared : (d : Declaration) → numbers_one_declared d ≤ 4 * nodes_of_declaration d
  few_one_declared (constants l o no_items) = omega arith
  few_one_declared (constants l sort.Static (item m x e is)) = omega (arith, few_items is)
  few_one_declared (constants l sort.Manifest (item m x e is)) = omega arith
  few_one_declared (constants l sort.Global (item m x e is)) = omega arith
  few_one_declared (definitions l no_definitions) = omega arith
  few_one_declared (definitions l (define (routine m x fs c) ds)) = omega (arith, few_done c, few_defined ds)
  few_one_declared (definitions l (define (function m x fs e) ds)) = omega (arith, few e, few_defined ds)
  few_one_declared (definitions l (define (variables m xs is) ds)) = omega (arith, few_started is, few_defined ds)

  few_defined : (ds : Definitions) → procedures_in ds + numbers_defined ds ≤ 4 * nodes_of_definitions ds
  few_defined no_definitions = omega arith
  few_defined (define (routine m x fs c) ds) = omega (arith, few_done c, few_defined ds)
  few_defined (define (function m x fs e) ds) = omega (arith, few e, few_defined ds)
  few_defined (define (variables m xs is) ds) = omega (arith, few_started is, few_defined ds)

  few_started : (is : Starts) → numbers_started is ≤ 4 * nodes_of_starts is
  few_started no_starts = omega arith
  few_started (value e is) = omega (arith, few e, few_started is)
  few_started (vector l e is) = omega (arith, few_started is)

pub few_numbers : FewNumbers
few_numbers ds w = omega (arith, few_declared ds, w.1)

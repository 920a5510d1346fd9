-- Trees made of a list of parts: what they are to the definitions, and a list with one part more.
use Rattle.std.proofs.Common.{◌≡◌, ℕ, List, [], ◌∷◌, ◌++◌, length, max, ◌+◌, map, Option, Some, None, refl, ap, ◌∙◌, arith, Vec, Global, Box}
use Rattle.bk_tree.specs.declared.tree.Name.{Name}
use Rattle.bk_tree.specs.declared.tree.Sort.{Sort}
use Rattle.bk_tree.specs.declared.tree.Expr.{Expr, Row_of-Expr, end_of-Expr, more_of-Expr, items-the_row-Expr, items_hidden-the_row-Expr-0}
use Rattle.bk_tree.specs.declared.tree.Expr.TheVariants as e
use Rattle.bk_tree.specs.declared.tree.Command.{Command as CommandNode, Row_of-Command, end_of-Command, more_of-Command, items-the_row-Command, items_hidden-the_row-Command-2}
use Rattle.bk_tree.specs.declared.tree.Command.TheVariants as c
use Rattle.bk_tree.specs.declared.tree.Decl.{Decl}
use Rattle.bk_tree.specs.declared.tree.Command.{Row_of-Decl, end_of-Decl, more_of-Decl, items-the_row-Decl, items_hidden-the_row-Decl-1}
use Rattle.bk_tree.specs.declared.tree.Decl.TheVariants as d
use Rattle.bk_tree.specs.declared.tree.ConstItem.{ConstItem}
use Rattle.bk_tree.specs.declared.tree.Decl.{Row_of-ConstItem, end_of-ConstItem, more_of-ConstItem, items-the_row-ConstItem, items_hidden-the_row-ConstItem-3}
use Rattle.bk_tree.specs.declared.tree.ConstItem.TheVariants as i
use Rattle.bk_tree.specs.declared.tree.Def.{Def}
use Rattle.bk_tree.specs.declared.tree.Decl.{Row_of-Def, end_of-Def, more_of-Def, items-the_row-Def, items_hidden-the_row-Def-4}
use Rattle.bk_tree.specs.declared.tree.Def.TheVariants as f
use Rattle.bk_tree.specs.declared.tree.Init.{Init}
use Rattle.bk_tree.specs.declared.tree.Def.{Row_of-Init, end_of-Init, more_of-Init, items-the_row-Init, items_hidden-the_row-Init-5}
use Rattle.bk_tree.specs.declared.tree.Init.TheVariants as b
use Rattle.bk_tree.specs.declared.tree.Command.TheBlock.{hidden-the_row-Expr-0, hidden-the_row-Decl-1, hidden-the_row-Command-2, hidden-the_row-ConstItem-3, hidden-the_row-Def-4, hidden-the_row-Init-5}
use Rattle.bk_tree.specs.Tree.{Expression, Expressions, Command, Commands, Declaration, Declarations, Items, Definition, Definitions, Starts, no_items, no_starts, apply, table, none, more, assign, call, for_loop, block, no_commands, also, constants, definitions, no_declarations, declare, item, variables, no_definitions, define, value, vector, mention, expression, expressions, command_in, command_row, declaration, declarations, items, definition, definitions_of, starts, expressions_in, step_in, commands_in, declarations_in, items_in, definitions_in, starts_in}
use Rattle.bk_tree.specs.Parts.{each_then, commands_then, declarations_then, items_then, definitions_then, starts_then}
use Rattle.bk_tree.specs.Parts.{size, start_count}
use Rattle.bk_tree.specs.Limits.{depth, depth_of_each, depth_of_command, depth_of_commands, depth_of_declaration, depth_of_declarations, depth_of_items, depth_of_definition, depth_of_definitions, depth_of_starts, nodes, nodes_of_each, nodes_of_command, nodes_of_commands, nodes_of_declaration, nodes_of_declarations, nodes_of_items, nodes_of_definition, nodes_of_definitions, nodes_of_starts}

-- rows of parts as lists

expressions_row : (n : _) (row : Row_of-Expr n) → expressions row ≡ expressions_in (items-the_row-Expr n row)
expressions_row n end_of-Expr = refl
expressions_row n (more_of-Expr x xs) = ap (more (expression x)) (expressions_row _ xs)

commands_row : (n : _) (row : Row_of-Command n) → command_row row ≡ commands_in (items-the_row-Command n row)
commands_row n end_of-Command = refl
commands_row n (more_of-Command x xs) = ap (also (command_in x)) (commands_row _ xs)

declarations_row : (n : _) (row : Row_of-Decl n) → declarations row ≡ declarations_in (items-the_row-Decl n row)
declarations_row n end_of-Decl = refl
declarations_row n (more_of-Decl x xs) = ap (declare (declaration x)) (declarations_row _ xs)

items_row : (n : _) (row : Row_of-ConstItem n) → items row ≡ items_in (items-the_row-ConstItem n row)
items_row n end_of-ConstItem = refl
items_row n (more_of-ConstItem (i.Item l x y) xs) = ap (item l x.items (expression y)) (items_row _ xs)

definitions_row : (n : _) (row : Row_of-Def n) → definitions_of row ≡ definitions_in (items-the_row-Def n row)
definitions_row n end_of-Def = refl
definitions_row n (more_of-Def x xs) = ap (define (definition x)) (definitions_row _ xs)

starts_row : (n : _) (row : Row_of-Init n) → starts row ≡ starts_in (items-the_row-Init n row)
starts_row n end_of-Init = refl
starts_row n (more_of-Init (b.Value y) xs) = ap (value (expression y)) (starts_row _ xs)
starts_row n (more_of-Init (b.Vector l y) xs) = ap (vector l (expression y)) (starts_row _ xs)

expressions_all : (xs : Vec Expr Global) → expressions (hidden-the_row-Expr-0 xs) ≡ expressions_in xs.items
expressions_all xs = expressions_row _ (hidden-the_row-Expr-0 xs) ∙ ap expressions_in (items_hidden-the_row-Expr-0 xs)

commands_all : (xs : Vec CommandNode Global) → command_row (hidden-the_row-Command-2 xs) ≡ commands_in xs.items
commands_all xs = commands_row _ (hidden-the_row-Command-2 xs) ∙ ap commands_in (items_hidden-the_row-Command-2 xs)

declarations_all : (xs : Vec Decl Global) → declarations (hidden-the_row-Decl-1 xs) ≡ declarations_in xs.items
declarations_all xs = declarations_row _ (hidden-the_row-Decl-1 xs) ∙ ap declarations_in (items_hidden-the_row-Decl-1 xs)

items_all : (xs : Vec ConstItem Global) → items (hidden-the_row-ConstItem-3 xs) ≡ items_in xs.items
items_all xs = items_row _ (hidden-the_row-ConstItem-3 xs) ∙ ap items_in (items_hidden-the_row-ConstItem-3 xs)

definitions_all : (xs : Vec Def Global) → definitions_of (hidden-the_row-Def-4 xs) ≡ definitions_in xs.items
definitions_all xs = definitions_row _ (hidden-the_row-Def-4 xs) ∙ ap definitions_in (items_hidden-the_row-Def-4 xs)

starts_all : (xs : Vec Init Global) → starts (hidden-the_row-Init-5 xs) ≡ starts_in xs.items
starts_all xs = starts_row _ (hidden-the_row-Init-5 xs) ∙ ap starts_in (items_hidden-the_row-Init-5 xs)

-- a tree made of lists

pub Apply_is : (l m : ℕ) (x : Box Expr Global) (xs : Vec Expr Global) → expression (e.Apply l m x xs) ≡ apply l m (expression x.value) (expressions_in xs.items)
Apply_is l m x xs = ap (apply l m (expression x.value)) (expressions_all xs)

pub Table_is : (l : ℕ) (xs : Vec Expr Global) → expression (e.Table l xs) ≡ table l (expressions_in xs.items)
Table_is l xs = ap (table l) (expressions_all xs)

pub Assign_is : (l : ℕ) (xs ys : Vec Expr Global) → command_in (c.Assign l xs ys) ≡ assign l (expressions_in xs.items) (expressions_in ys.items)
Assign_is l xs ys = ap (λ z. assign l z (expressions (hidden-the_row-Expr-0 ys))) (expressions_all xs) ∙ ap (assign l (expressions_in xs.items)) (expressions_all ys)

pub Call_is : (l : ℕ) (x : Box Expr Global) (xs : Vec Expr Global) → command_in (c.Call l x xs) ≡ call l (expression x.value) (expressions_in xs.items)
Call_is l x xs = ap (call l (expression x.value)) (expressions_all xs)

pub For_is : (l : ℕ) (x : Name) (y z : Box Expr Global) (h : Option (Box Expr Global)) (a : Box CommandNode Global) → command_in (c.For l x y z h a) ≡ for_loop l (mention x) (expression y.value) (expression z.value) (step_in h) (command_in a.value)
For_is l x y z None a = refl
For_is l x y z (Some h) a = refl

pub Block_is : (l : ℕ) (ds : Vec Decl Global) (cs : Vec CommandNode Global) → command_in (c.Block l ds cs) ≡ block l (declarations_in ds.items) (commands_in cs.items)
Block_is l ds cs = ap (λ z. block l z (command_row (hidden-the_row-Command-2 cs))) (declarations_all ds) ∙ ap (block l (declarations_in ds.items)) (commands_all cs)

pub Constants_is : (l : ℕ) (s : Sort) (xs : Vec ConstItem Global) → declaration (d.Constants l s xs) ≡ constants l s (items_in xs.items)
Constants_is l s xs = ap (constants l s) (items_all xs)

pub Let_is : (l : ℕ) (xs : Vec Def Global) → declaration (d.Let l xs) ≡ definitions l (definitions_in xs.items)
Let_is l xs = ap (definitions l) (definitions_all xs)

pub Variables_is : (l : ℕ) (xs : Vec Name Global) (is : Vec Init Global) → definition (f.Variables l xs is) ≡ variables l (map mention xs.items) (starts_in is.items)
Variables_is l xs is = ap (variables l (map mention xs.items)) (starts_all is)

-- one part more

pub expressions_push : (xs : List Expr) (x : Expr) → expressions_in (xs ++ x ∷ []) ≡ each_then (expressions_in xs) (more (expression x) none)
expressions_push [] x = refl
expressions_push (y ∷ xs) x = ap (more (expression y)) (expressions_push xs x)

pub commands_push : (xs : List CommandNode) (x : CommandNode) → commands_in (xs ++ x ∷ []) ≡ commands_then (commands_in xs) (also (command_in x) no_commands)
commands_push [] x = refl
commands_push (y ∷ xs) x = ap (also (command_in y)) (commands_push xs x)

pub declarations_push : (xs : List Decl) (x : Decl) → declarations_in (xs ++ x ∷ []) ≡ declarations_then (declarations_in xs) (declare (declaration x) no_declarations)
declarations_push [] x = refl
declarations_push (y ∷ xs) x = ap (declare (declaration y)) (declarations_push xs x)

pub items_push : (xs : List ConstItem) (x : ConstItem) → items_in (xs ++ x ∷ []) ≡ items_then (items_in xs) (items_in (x ∷ []))
items_push [] x = refl
items_push ((i.Item l n y) ∷ xs) x = ap (item l n.items (expression y)) (items_push xs x)

pub definitions_push : (xs : List Def) (x : Def) → definitions_in (xs ++ x ∷ []) ≡ definitions_then (definitions_in xs) (define (definition x) no_definitions)
definitions_push [] x = refl
definitions_push (y ∷ xs) x = ap (define (definition y)) (definitions_push xs x)

pub starts_push : (xs : List Init) (x : Init) → starts_in (xs ++ x ∷ []) ≡ starts_then (starts_in xs) (starts_in (x ∷ []))
starts_push [] x = refl
starts_push ((b.Value y) ∷ xs) x = ap (value (expression y)) (starts_push xs x)
starts_push ((b.Vector l y) ∷ xs) x = ap (vector l (expression y)) (starts_push xs x)

pub names_push : (xs : List Name) (x : Name) → map mention (xs ++ x ∷ []) ≡ map mention xs ++ mention x ∷ []
names_push [] x = refl
names_push (y ∷ xs) x = ap (λ z. mention y ∷ z) (names_push xs x)

-- the sizes of one part more

pub each_depth : (xs : Expressions) (e : Expression) → depth_of_each (each_then xs (more e none)) ≡ max (depth_of_each xs) (depth e)
each_depth none e = omega arith
each_depth (more x xs) e = let h = each_depth xs e in omega (arith, h)

pub each_nodes : (xs : Expressions) (e : Expression) → nodes_of_each (each_then xs (more e none)) ≡ nodes_of_each xs + nodes e
each_nodes none e = omega arith
each_nodes (more x xs) e = let h = each_nodes xs e in omega (arith, h)

pub commands_depth : (xs : Commands) (c : Command) → depth_of_commands (commands_then xs (also c no_commands)) ≡ max (depth_of_commands xs) (depth_of_command c)
commands_depth no_commands c = omega arith
commands_depth (also x xs) c = let h = commands_depth xs c in omega (arith, h)

pub commands_nodes : (xs : Commands) (c : Command) → nodes_of_commands (commands_then xs (also c no_commands)) ≡ nodes_of_commands xs + nodes_of_command c
commands_nodes no_commands c = omega arith
commands_nodes (also x xs) c = let h = commands_nodes xs c in omega (arith, h)

pub declarations_depth : (xs : Declarations) (d : Declaration) → depth_of_declarations (declarations_then xs (declare d no_declarations)) ≡ max (depth_of_declarations xs) (depth_of_declaration d)
declarations_depth no_declarations d = omega arith
declarations_depth (declare x xs) d = let h = declarations_depth xs d in omega (arith, h)

pub declarations_nodes : (xs : Declarations) (d : Declaration) → nodes_of_declarations (declarations_then xs (declare d no_declarations)) ≡ nodes_of_declarations xs + nodes_of_declaration d
declarations_nodes no_declarations d = omega arith
declarations_nodes (declare x xs) d = let h = declarations_nodes xs d in omega (arith, h)

pub definitions_depth : (xs : Definitions) (d : Definition) → depth_of_definitions (definitions_then xs (define d no_definitions)) ≡ max (depth_of_definitions xs) (depth_of_definition d)
definitions_depth no_definitions d = omega arith
definitions_depth (define x xs) d = let h = definitions_depth xs d in omega (arith, h)

pub definitions_nodes : (xs : Definitions) (d : Definition) → nodes_of_definitions (definitions_then xs (define d no_definitions)) ≡ nodes_of_definitions xs + nodes_of_definition d
definitions_nodes no_definitions d = omega arith
definitions_nodes (define x xs) d = let h = definitions_nodes xs d in omega (arith, h)

pub items_depth : (xs ys : Items) → depth_of_items (items_then xs ys) ≡ max (depth_of_items xs) (depth_of_items ys)
items_depth no_items ys = omega arith
items_depth (item l x e xs) ys = let h = items_depth xs ys in omega (arith, h)

pub items_nodes : (xs ys : Items) → nodes_of_items (items_then xs ys) ≡ nodes_of_items xs + nodes_of_items ys
items_nodes no_items ys = omega arith
items_nodes (item l x e xs) ys = let h = items_nodes xs ys in omega (arith, h)

pub starts_depth : (xs ys : Starts) → depth_of_starts (starts_then xs ys) ≡ max (depth_of_starts xs) (depth_of_starts ys)
starts_depth no_starts ys = omega arith
starts_depth (value e xs) ys = let h = starts_depth xs ys in omega (arith, h)
starts_depth (vector l e xs) ys = let h = starts_depth xs ys in omega (arith, h)

pub starts_nodes : (xs ys : Starts) → nodes_of_starts (starts_then xs ys) ≡ nodes_of_starts xs + nodes_of_starts ys
starts_nodes no_starts ys = omega arith
starts_nodes (value e xs) ys = let h = starts_nodes xs ys in omega (arith, h)
starts_nodes (vector l e xs) ys = let h = starts_nodes xs ys in omega (arith, h)

pub ruleset more_sizes = (each_depth, each_nodes, commands_depth, commands_nodes, declarations_depth, declarations_nodes, definitions_depth, definitions_nodes, items_depth, items_nodes, starts_depth, starts_nodes)

-- how many they are

pub expressions_count : (xs : List Expr) → size (expressions_in xs) ≡ length xs
expressions_count [] = refl
expressions_count (x ∷ xs) = let h = expressions_count xs in omega (arith, h)

pub starts_count : (xs : List Init) → start_count (starts_in xs) ≡ length xs
starts_count [] = refl
starts_count ((b.Value y) ∷ xs) = let h = starts_count xs in omega (arith, h)
starts_count ((b.Vector l y) ∷ xs) = let h = starts_count xs in omega (arith, h)

pub names_count : (xs : List Name) → length (map mention xs) ≡ length xs
names_count [] = refl
names_count (x ∷ xs) = let h = names_count xs in omega (arith, h)

pub ruleset whole_is = (Apply_is, Table_is, Assign_is, Call_is, For_is, Block_is, Constants_is, Let_is, Variables_is)

pub ruleset one_more = (expressions_push, commands_push, declarations_push, items_push, definitions_push, starts_push, names_push)

pub ruleset counts = (expressions_count, starts_count, names_count)

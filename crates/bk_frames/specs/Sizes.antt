-- Sizes as the parser keeps them, in 32 bits each, and those of the parts of an unfinished construct.
use Rattle.std.specs.Prelude.{ℕ, ◌+◌, ◌-◌, ◌≡◌, max, min, Option, Some, None, Bool, true, false, cond}
use Rattle.bk_frames.specs.declared.frame.Size.{Size}
use Rattle.bk_frames.specs.declared.size.Form.{Form}
use Rattle.bk_frames.specs.declared.size.Form.TheVariants.{Label, Call, Callable, Other}
use Rattle.bk_tree.specs.Tree.{Expression, Expressions, Command, Items, Definition, Declaration, Declarations, name, number, text, truth, query, parens, apply, valof, none, more, no_items, item}
use Rattle.bk_tree.specs.Limits.{depth, depth_of_each, depth_of_command, depth_of_commands, depth_of_declaration, depth_of_declarations, depth_of_items, depth_of_definition, depth_of_definitions, depth_of_starts, nodes, nodes_of_each, nodes_of_command, nodes_of_commands, nodes_of_declaration, nodes_of_declarations, nodes_of_items, nodes_of_definition, nodes_of_definitions, nodes_of_starts}
use Rattle.bk_grammar.specs.Grammar.{last}
use Rattle.bk_grammar.specs.Machine.{Stack, in_section, in_block, in_let, at_starts, at_items, at_sign, in_binary, in_chain, in_then, in_else, in_args, in_table, in_dests, in_values, in_while, in_to, in_by, in_item, in_value, in_vector, in_guarded, in_do, in_or, in_for}

-- a number as it is kept: the greatest one means itself or any larger one
abbrev pub kept : ℕ → ℕ
kept n = min n 4294967295

abbrev pub kept_size : ℕ → ℕ → Size
kept_size d n = record { depth = kept d; nodes = kept n }

abbrev pub size_of : Expression → Size
size_of e = kept_size (depth e) (nodes e)

abbrev pub size_of_command : Command → Size
size_of_command c = kept_size (depth_of_command c) (nodes_of_command c)

abbrev pub size_of_definition : Definition → Size
size_of_definition d = kept_size (depth_of_definition d) (nodes_of_definition d)

abbrev pub size_of_declaration : Declaration → Size
size_of_declaration d = kept_size (depth_of_declaration d) (nodes_of_declaration d)

abbrev pub size_of_declarations : Declarations → Size
size_of_declarations ds = kept_size (depth_of_declarations ds) (nodes_of_declarations ds)

-- the operand that a further relation would share
abbrev pub size_if : Option Expression → Size
size_if None = kept_size 0 0
size_if (Some e) = size_of e

-- one node, with which no relation goes on
abbrev pub IsLeaf : Expression → Type 0
IsLeaf e = (size_of e ≡ kept_size 1 1) × (last e ≡ None)

-- what an expression at the start of a command is
abbrev pub form_of : Expression → Form
form_of (name l x) = Label
form_of (apply l s f es) = Call
form_of (number l n) = Callable
form_of (text l x) = Callable
form_of (truth l b) = Callable
form_of (query l) = Callable
form_of (parens l e) = Callable
form_of (valof l c) = Callable
form_of _ = Other

abbrev pub are_no_items : Items → Bool
are_no_items no_items = true
are_no_items (item l x y is) = false

-- the depth and the number of nodes of the item that is due where none came
abbrev pub due_items : Items → ℕ
due_items is = cond (are_no_items is) 2 0

-- how many parts are still to come after the one that is read, of so many
abbrev pub owed : ℕ → ℕ → ℕ
owed all done = all - done - 1

-- the size of the parts that the top of the stack holds
abbrev pub held_depth : Stack → ℕ
held_depth (in_section ds) = depth_of_declarations ds
held_depth (in_block l b ds cs st) = max (depth_of_declarations ds) (depth_of_commands cs)
held_depth (in_let l ds st) = depth_of_definitions ds
held_depth (at_starts xs is st) = depth_of_starts is
held_depth (at_items l q is st) = depth_of_items is
held_depth (at_sign l q is x st) = depth_of_items is
held_depth (in_binary o s a st) = depth a
held_depth (in_chain o s a b st) = max (depth a) (depth b + 1)
held_depth (in_then s c st) = depth c
held_depth (in_else s c a st) = max (depth c) (depth a)
held_depth (in_args s e es st) = max (depth e) (depth_of_each es)
held_depth (in_table l es st) = depth_of_each es
held_depth (in_dests xs st) = depth_of_each xs
held_depth (in_values xs ys st) = max (depth_of_each xs) (depth_of_each ys)
held_depth (in_while b c st) = depth_of_command c
held_depth (in_to l x a st) = depth a
held_depth (in_by l x a b st) = max (depth a) (depth b)
held_depth (in_item l q is x st) = depth_of_items is
held_depth (in_value xs is st) = depth_of_starts is
held_depth (in_vector l xs is st) = depth_of_starts is
held_depth (in_guarded k l e st) = depth e
held_depth (in_do l e st) = depth e
held_depth (in_or l e a st) = max (depth e) (depth_of_command a)
held_depth (in_for l x a b h st) = max (depth a) (max (depth b) (depth_of_each h))
held_depth _ = 0

abbrev pub held_nodes : Stack → ℕ
held_nodes (in_section ds) = nodes_of_declarations ds
held_nodes (in_block l b ds cs st) = nodes_of_declarations ds + nodes_of_commands cs
held_nodes (in_let l ds st) = nodes_of_definitions ds
held_nodes (at_starts xs is st) = nodes_of_starts is
held_nodes (at_items l q is st) = nodes_of_items is
held_nodes (at_sign l q is x st) = nodes_of_items is
held_nodes (in_binary o s a st) = nodes a
held_nodes (in_chain o s a b st) = nodes a + nodes b + 1
held_nodes (in_then s c st) = nodes c
held_nodes (in_else s c a st) = nodes c + nodes a
held_nodes (in_args s e es st) = nodes e + nodes_of_each es
held_nodes (in_table l es st) = nodes_of_each es
held_nodes (in_dests xs st) = nodes_of_each xs
held_nodes (in_values xs ys st) = nodes_of_each xs + nodes_of_each ys
held_nodes (in_while b c st) = nodes_of_command c
held_nodes (in_to l x a st) = nodes a
held_nodes (in_by l x a b st) = nodes a + nodes b
held_nodes (in_item l q is x st) = nodes_of_items is
held_nodes (in_value xs is st) = nodes_of_starts is
held_nodes (in_vector l xs is st) = nodes_of_starts is
held_nodes (in_guarded k l e st) = nodes e
held_nodes (in_do l e st) = nodes e
held_nodes (in_or l e a st) = nodes e + nodes_of_command a
held_nodes (in_for l x a b h st) = nodes a + nodes b + nodes_of_each h
held_nodes _ = 0

abbrev pub held_of : Stack → Size
held_of st = kept_size (held_depth st) (held_nodes st)

abbrev pub are_none : Expressions → Bool
are_none none = true
are_none (more x xs) = false

-- the parser's arithmetic on sizes
abbrev pub both_of : Size → Size → Size
both_of a b = record { depth = max a.depth b.depth; nodes = kept (a.nodes + b.nodes) }

abbrev pub node_of : Size → Size
node_of a = record { depth = kept (a.depth + 1); nodes = kept (a.nodes + 1) }

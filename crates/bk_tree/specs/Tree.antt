-- Trees of a section, without where they are in memory. Each node but an empty command begins with the position of its
-- first symbol; a name is its bytes in upper case.
use Rattle.std.specs.Prelude.{ℕ, Bool, Option, Some, None, List, [], ◌∷◌, map, Box}
use Rattle.std.specs.Global.{Global}
use Rattle.bk_tree.specs.declared.tree.Name.{Name}
use Rattle.bk_tree.specs.declared.tree.Operator.{Operator}
use Rattle.bk_tree.specs.declared.tree.Prefix.{Prefix}
use Rattle.bk_tree.specs.declared.tree.Simple.{Simple}
use Rattle.bk_tree.specs.declared.tree.Sort.{Sort}
use Rattle.bk_tree.specs.declared.tree.Expr.{Expr, Row_of-Expr, end_of-Expr, more_of-Expr}
use Rattle.bk_tree.specs.declared.tree.Expr.TheVariants as e
use Rattle.bk_tree.specs.declared.tree.Command.{Command as CommandNode, Row_of-Command, end_of-Command, more_of-Command, Row_of-Decl, end_of-Decl, more_of-Decl, Held-Command-For-4, None', Some'}
use Rattle.bk_tree.specs.declared.tree.Command.TheVariants as c
use Rattle.bk_tree.specs.declared.tree.Decl.{Decl, Row_of-ConstItem, end_of-ConstItem, more_of-ConstItem, Row_of-Def, end_of-Def, more_of-Def}
use Rattle.bk_tree.specs.declared.tree.Decl.TheVariants as d
use Rattle.bk_tree.specs.declared.tree.ConstItem.{ConstItem}
use Rattle.bk_tree.specs.declared.tree.ConstItem.TheVariants as i
use Rattle.bk_tree.specs.declared.tree.Def.{Def, Row_of-Init, end_of-Init, more_of-Init}
use Rattle.bk_tree.specs.declared.tree.Def.TheVariants as f
use Rattle.bk_tree.specs.declared.tree.Init.{Init}
use Rattle.bk_tree.specs.declared.tree.Init.TheVariants as b

-- a name and its line
pub record Mention : Type 0 where
  pub at : ℕ
  pub letters : List ℕ

mutual
  -- an operator between two operands has a line of its own, the second number; so have an arrow and a call's parenthesis
  pub data Expression : Type 0 where
    name : ℕ → List ℕ → Expression
    number : ℕ → ℕ → Expression
    text : ℕ → List ℕ → Expression
    truth : ℕ → Bool → Expression
    query : ℕ → Expression
    parens : ℕ → Expression → Expression
    unary : ℕ → Prefix → Expression → Expression
    binary : ℕ → Operator → ℕ → Expression → Expression → Expression
    choice : ℕ → ℕ → Expression → Expression → Expression → Expression
    apply : ℕ → ℕ → Expression → Expressions → Expression
    valof : ℕ → Command → Expression
    table : ℕ → Expressions → Expression

  pub data Expressions : Type 0 where
    none : Expressions
    more : Expression → Expressions → Expressions

  -- the truth says IF and not UNLESS, WHILE and not UNTIL, REPEATWHILE and not REPEATUNTIL
  pub data Command : Type 0 where
    empty : Command
    assign : ℕ → Expressions → Expressions → Command
    call : ℕ → Expression → Expressions → Command
    goto : ℕ → Mention → Command
    label : ℕ → List ℕ → Command → Command
    case_of : ℕ → Expression → Command → Command
    default : ℕ → Command → Command
    when : ℕ → Bool → Expression → Command → Command
    test : ℕ → Expression → Command → Command → Command
    while : ℕ → Bool → Expression → Command → Command
    for_loop : ℕ → Mention → Expression → Expression → Expressions → Command → Command
    switch : ℕ → Expression → Command → Command
    result : ℕ → Expression → Command
    simple : ℕ → Simple → Command
    block : ℕ → Declarations → Commands → Command
    repeat : ℕ → Command → Command
    repeat_while : ℕ → Bool → Command → Expression → Command

  pub data Commands : Type 0 where
    no_commands : Commands
    also : Command → Commands → Commands

  pub data Declaration : Type 0 where
    constants : ℕ → Sort → Items → Declaration
    definitions : ℕ → Definitions → Declaration

  pub data Declarations : Type 0 where
    no_declarations : Declarations
    declare : Declaration → Declarations → Declarations

  -- items: the line and the name of each, and its constant
  pub data Items : Type 0 where
    no_items : Items
    item : ℕ → List ℕ → Expression → Items → Items

  pub data Definition : Type 0 where
    routine : ℕ → List ℕ → List Mention → Command → Definition
    function : ℕ → List ℕ → List Mention → Expression → Definition
    variables : ℕ → List Mention → Starts → Definition

  pub data Definitions : Type 0 where
    no_definitions : Definitions
    define : Definition → Definitions → Definitions

  -- what variables begin with: a value, or a vector with the line of its VEC
  pub data Starts : Type 0 where
    no_starts : Starts
    value : Expression → Starts → Starts
    vector : ℕ → Expression → Starts → Starts

-- the tree of what is in memory
abbrev pub mention : Name → Mention
mention x = record { at = x.at; letters = x.letters.items }

abbrev mutual
  pub expression : Expr → Expression
  expression (e.Name l x) = name l x.items
  expression (e.Number l n) = number l n
  expression (e.Text l x) = text l x.items
  expression (e.Truth l b) = truth l b
  expression (e.Query l) = query l
  expression (e.Parens' l p x) = parens l (expression x)
  expression (e.Unary' l o p x) = unary l o (expression x)
  expression (e.Binary' l o s p x q y) = binary l o s (expression x) (expression y)
  expression (e.Choice' l s p z q x r y) = choice l s (expression z) (expression x) (expression y)
  expression (e.Apply' l s p x q es) = apply l s (expression x) (expressions es)
  expression (e.Valof' l p a) = valof l (command_in a)
  expression (e.Table' l q es) = table l (expressions es)

  pub expressions : {m : _} → Row_of-Expr m → Expressions
  expressions end_of-Expr = none
  expressions (more_of-Expr x xs) = more (expression x) (expressions xs)

  pub command_in : CommandNode → Command
  command_in c.Empty = empty
  command_in (c.Assign' l p xs q es) = assign l (expressions xs) (expressions es)
  command_in (c.Call' l p x q es) = call l (expression x) (expressions es)
  command_in (c.Goto l x) = goto l (mention x)
  command_in (c.Label' l x p a) = label l x.items (command_in a)
  command_in (c.Case' l p x q a) = case_of l (expression x) (command_in a)
  command_in (c.Default' l p a) = default l (command_in a)
  command_in (c.If' l b p x q a) = when l b (expression x) (command_in a)
  command_in (c.Test' l p x q a r o) = test l (expression x) (command_in a) (command_in o)
  command_in (c.While' l b p x q a) = while l b (expression x) (command_in a)
  command_in (c.For' l n p x q y h r a) = for_loop l (mention n) (expression x) (expression y) (step h) (command_in a)
  command_in (c.SwitchOn' l p x q a) = switch l (expression x) (command_in a)
  command_in (c.ResultIs' l p x) = result l (expression x)
  command_in (c.Simple l w) = simple l w
  command_in (c.Block' l p ds q cs) = block l (declarations ds) (command_row cs)
  command_in (c.Repeat' l p a) = repeat l (command_in a)
  command_in (c.RepeatWhile' l b p a q x) = repeat_while l b (command_in a) (expression x)

  pub step : Held-Command-For-4 → Expressions
  step None' = none
  step (Some' p x) = more (expression x) none

  pub command_row : {m : _} → Row_of-Command m → Commands
  command_row end_of-Command = no_commands
  command_row (more_of-Command a cs) = also (command_in a) (command_row cs)

  pub declarations : {m : _} → Row_of-Decl m → Declarations
  declarations end_of-Decl = no_declarations
  declarations (more_of-Decl x ds) = declare (declaration x) (declarations ds)

  pub declaration : Decl → Declaration
  declaration (d.Constants' l s p is) = constants l s (items is)
  declaration (d.Let' l p ds) = definitions l (definitions_of ds)

  pub items : {m : _} → Row_of-ConstItem m → Items
  items end_of-ConstItem = no_items
  items (more_of-ConstItem (i.Item l x y) is) = item l x.items (expression y) (items is)

  pub definitions_of : {m : _} → Row_of-Def m → Definitions
  definitions_of end_of-Def = no_definitions
  definitions_of (more_of-Def x ds) = define (definition x) (definitions_of ds)

  pub definition : Def → Definition
  definition (f.Routine' l x xs p a) = routine l x.items (map mention xs.items) (command_in a)
  definition (f.Function' l x xs p y) = function l x.items (map mention xs.items) (expression y)
  definition (f.Variables' l xs p is) = variables l (map mention xs.items) (starts is)

  pub starts : {m : _} → Row_of-Init m → Starts
  starts end_of-Init = no_starts
  starts (more_of-Init (b.Value y) is) = value (expression y) (starts is)
  starts (more_of-Init (b.Vector l y) is) = vector l (expression y) (starts is)

-- lists of trees that are in memory
abbrev pub expressions_in : List Expr → Expressions
expressions_in [] = none
expressions_in (x ∷ xs) = more (expression x) (expressions_in xs)

abbrev pub step_in : Option (Box Expr Global) → Expressions
step_in None = none
step_in (Some x) = more (expression x.value) none

abbrev pub commands_in : List CommandNode → Commands
commands_in [] = no_commands
commands_in (c ∷ cs) = also (command_in c) (commands_in cs)

abbrev pub declarations_in : List Decl → Declarations
declarations_in [] = no_declarations
declarations_in (d ∷ ds) = declare (declaration d) (declarations_in ds)

abbrev pub items_in : List ConstItem → Items
items_in [] = no_items
items_in ((i.Item l x y) ∷ is) = item l x.items (expression y) (items_in is)

abbrev pub definitions_in : List Def → Definitions
definitions_in [] = no_definitions
definitions_in (d ∷ ds) = define (definition d) (definitions_in ds)

abbrev pub starts_in : List Init → Starts
starts_in [] = no_starts
starts_in ((b.Value y) ∷ is) = value (expression y) (starts_in is)
starts_in ((b.Vector l y) ∷ is) = vector l (expression y) (starts_in is)

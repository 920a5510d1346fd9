-- A section as the scheme reads it, the named tree: the tree without lines, where each name is what it means and each constant
-- its word. Names that are only declared are gone. Conditions, and what is assigned to or asked for its address, are kinds of
-- their own.
use Rattle.std.specs.Prelude.{ℕ, Bool, List}
use Rattle.bk_tree.specs.declared.tree.Operator.{Operator}
use Rattle.bk_tree.specs.declared.tree.Prefix.{Prefix}
use Rattle.bk_tree.specs.declared.tree.Simple.{Simple}
use Rattle.bk_scope.specs.declared.bound.Bound.{Bound}

-- an item of STATIC: what its name means, and its word
pub record StaticItem : Type 0 where
  pub bound : Bound
  pub word : ℕ

mutual
  -- an expression
  pub data Term : Type 0 where
    named : Bound → Term
    number : ℕ → Term
    text : List ℕ → Term
    truth : Bool → Term
    query : Term
    parens : Term → Term
    unary : Prefix → Term → Term
    address : Lvalue → Term
    binary : Operator → Term → Term → Term
    choice : Condition → Term → Term → Term
    apply : Term → Terms → Term
    valof : NamedCommand → Term
    table : List ℕ → Term

  pub data Terms : Type 0 where
    none : Terms
    more : Term → Terms → Terms

  -- an expression where its truth is asked for
  pub data Condition : Type 0 where
    holds : Term → Condition
    within : Condition → Condition
    fails : Condition → Condition
    both : Condition → Condition → Condition
    either : Condition → Condition → Condition

  -- what is assigned to, or asked for its address: the word of a name, `!E`, `E!E`, and the byte `E%E`
  pub data Lvalue : Type 0 where
    word : Bound → Lvalue
    contents : Term → Lvalue
    subscript : Term → Term → Lvalue
    byte : Term → Term → Lvalue
    inside : Lvalue → Lvalue
    nowhere : Lvalue

  pub data Lvalues : Type 0 where
    no_lvalues : Lvalues
    onto : Lvalue → Lvalues → Lvalues

  -- a command
  pub data NamedCommand : Type 0 where
    empty : NamedCommand
    assign : Lvalues → Terms → NamedCommand
    call : Term → Terms → NamedCommand
    goto : Bound → NamedCommand
    label : Bound → NamedCommand → NamedCommand
    case_of : ℕ → NamedCommand → NamedCommand
    default : NamedCommand → NamedCommand
    when : Bool → Condition → NamedCommand → NamedCommand
    test : Condition → NamedCommand → NamedCommand → NamedCommand
    while : Bool → Condition → NamedCommand → NamedCommand
    for_loop : Term → Term → ℕ → NamedCommand → NamedCommand
    switch : Term → NamedCommand → NamedCommand
    result : Term → NamedCommand
    simple : Simple → NamedCommand
    block : Declarations → NamedCommands → NamedCommand
    repeat : NamedCommand → NamedCommand
    repeat_while : Bool → NamedCommand → Condition → NamedCommand

  pub data NamedCommands : Type 0 where
    no_named_commands : NamedCommands
    also : NamedCommand → NamedCommands → NamedCommands

  -- a declaration: MANIFEST and GLOBAL leave nothing
  pub data Declaration : Type 0 where
    statics : List StaticItem → Declaration
    lets : Definitions → Declaration

  pub data Declarations : Type 0 where
    no_declarations : Declarations
    declare : Declaration → Declarations → Declarations

  -- a procedure has what its name means, its name, and the number of its formals
  pub data Definition : Type 0 where
    routine : Bound → List ℕ → ℕ → NamedCommand → Definition
    function : Bound → List ℕ → ℕ → Term → Definition
    variables : Starts → Definition

  pub data Definitions : Type 0 where
    no_definitions : Definitions
    define : Definition → Definitions → Definitions

  pub data Starts : Type 0 where
    no_starts : Starts
    value : Term → Starts → Starts
    vector : ℕ → Starts → Starts

-- The rows of the operators, and what a symbol may be in the grammar.
use Rattle.std.specs.Prelude.{ℕ, Bool, true, false, Option, Some, None, ◌≡◌, cond, nat_lt, List, [], ◌∷◌}
use Rattle.bk_lex.specs.declared.token.Kind.{Kind}
use Rattle.bk_lex.specs.declared.token.Kind.TheVariants as k
use Rattle.bk_lex.specs.Symbol.{Symbol}
use Rattle.bk_tree.specs.declared.tree.Operator.{Operator}
use Rattle.bk_tree.specs.declared.tree.Operator.TheVariants as o
use Rattle.bk_tree.specs.declared.tree.Prefix.{Prefix}
use Rattle.bk_tree.specs.declared.tree.Prefix.TheVariants as p
use Rattle.bk_tree.specs.declared.tree.Simple.{Simple}
use Rattle.bk_tree.specs.declared.tree.Simple.TheVariants as w
use Rattle.bk_tree.specs.declared.tree.Sort.{Sort}
use Rattle.bk_tree.specs.declared.tree.Sort.TheVariants as q
use Rattle.bk_grammar.specs.declared.symbols.Guard.{Guard}
use Rattle.bk_grammar.specs.declared.symbols.Guard.TheVariants as g
use Rattle.bk_grammar.specs.declared.symbols.Opening.{Opening}
use Rattle.bk_grammar.specs.declared.symbols.Opening.TheVariants as s
use Rattle.bk_grammar.specs.declared.symbols.Heading.{Heading}
use Rattle.bk_grammar.specs.declared.symbols.Heading.TheVariants as h
use Rattle.bk_grammar.specs.declared.symbols.Declaring.{Declaring}
use Rattle.bk_grammar.specs.declared.symbols.Declaring.TheVariants as d
use Rattle.bk_grammar.specs.declared.symbols.Repetition.{Repetition}
use Rattle.bk_grammar.specs.declared.symbols.Repetition.TheVariants as r
use Rattle.bk_tree.specs.Tree.{Expression, name, number, text, truth, query}
use Rattle.bk_lex.specs.Values.{upper_name, number_word, string_bytes, character_byte}

-- the row of an operator between two operands
abbrev pub row : Operator → ℕ
row o.Subscript = 2
row o.Byte = 2
row o.Times = 4
row o.Over = 4
row o.Rem = 4
row o.Add = 5
row o.Subtract = 5
row o.Equal = 6
row o.Unequal = 6
row o.Less = 6
row o.Greater = 6
row o.AtMost = 6
row o.AtLeast = 6
row o.ShiftLeft = 7
row o.ShiftRight = 7
row o.Both = 9
row o.Either = 10
row o.Same = 11
row o.Differ = 11

-- the rows that its right operand may have: those above its own
abbrev pub inner : Operator → ℕ
inner o.Subscript = 1
inner o.Byte = 1
inner o.Times = 3
inner o.Over = 3
inner o.Rem = 3
inner o.Add = 4
inner o.Subtract = 4
inner o.Equal = 5
inner o.Unequal = 5
inner o.Less = 5
inner o.Greater = 5
inner o.AtMost = 5
inner o.AtLeast = 5
inner o.ShiftLeft = 6
inner o.ShiftRight = 6
inner o.Both = 8
inner o.Either = 9
inner o.Same = 10
inner o.Differ = 10

abbrev pub is_relation : Operator → Bool
is_relation o.Equal = true
is_relation o.Unequal = true
is_relation o.Less = true
is_relation o.Greater = true
is_relation o.AtMost = true
is_relation o.AtLeast = true
is_relation _ = false

-- the rows of the left operand: operators group to the left, but relations don't group, they chain
abbrev pub left : Operator → ℕ
left o = cond (is_relation o) 5 (row o)

-- the rows that the operand of a prefix operator may have: those above its own
abbrev pub following : Prefix → ℕ
following p.Contents = 2
following p.Address = 2
following p.Plus = 4
following p.Minus = 4
following p.Not = 7

-- the operator between two operands that a symbol is
abbrev pub infix_of : Kind → Option Operator
infix_of k.Bang = Some o.Subscript
infix_of k.Percent = Some o.Byte
infix_of k.Star = Some o.Times
infix_of k.Slash = Some o.Over
infix_of k.Rem = Some o.Rem
infix_of k.Plus = Some o.Add
infix_of k.Minus = Some o.Subtract
infix_of k.Equal = Some o.Equal
infix_of k.NotEqual = Some o.Unequal
infix_of k.Less = Some o.Less
infix_of k.Greater = Some o.Greater
infix_of k.LessEqual = Some o.AtMost
infix_of k.GreaterEqual = Some o.AtLeast
infix_of k.ShiftLeft = Some o.ShiftLeft
infix_of k.ShiftRight = Some o.ShiftRight
infix_of k.Ampersand = Some o.Both
infix_of k.Bar = Some o.Either
infix_of k.Eqv = Some o.Same
infix_of k.Neqv = Some o.Differ
infix_of _ = None

-- the prefix operator that it is
abbrev pub prefix_of : Kind → Option Prefix
prefix_of k.Bang = Some p.Contents
prefix_of k.At = Some p.Address
prefix_of k.Plus = Some p.Plus
prefix_of k.Minus = Some p.Minus
prefix_of k.Not = Some p.Not
prefix_of _ = None

-- the operand that a symbol is by itself
abbrev pub leaf : Kind → ℕ → List ℕ → Option Expression
leaf k.Name at spelled = Some (name at (upper_name spelled))
leaf k.Number at spelled = Some (number at (number_word spelled))
leaf k.Text at spelled = Some (text at (string_bytes spelled))
leaf k.Character at spelled = Some (number at (character_byte spelled))
leaf k.True at spelled = Some (truth at true)
leaf k.False at spelled = Some (truth at false)
leaf k.Query at spelled = Some (query at)
leaf _ at spelled = None

-- the command of one word that it is
abbrev pub simple_of : Kind → Option Simple
simple_of k.Break = Some w.Break
simple_of k.Loop = Some w.Loop
simple_of k.EndCase = Some w.EndCase
simple_of k.Return = Some w.Return
simple_of k.Finish = Some w.Finish
simple_of _ = None

-- what it declares with constants
abbrev pub sort_of : Kind → Option Sort
sort_of k.Manifest = Some q.Manifest
sort_of k.Static = Some q.Static
sort_of k.Global = Some q.Global
sort_of _ = None

-- the command of an expression and a command that it begins
abbrev pub guard_of : Kind → Option Guard
guard_of k.If = Some g.If
guard_of k.Unless = Some g.Unless
guard_of k.While = Some g.While
guard_of k.Until = Some g.Until
guard_of k.SwitchOn = Some g.SwitchOn
guard_of k.Case = Some g.Case
guard_of _ = None

-- the symbol between that expression and that command
abbrev pub sign_of : Guard → Kind
sign_of g.SwitchOn = k.Into
sign_of g.Case = k.Colon
sign_of _ = k.Do

abbrev pub is_name : Kind → Bool
is_name k.Name = true
is_name _ = false

-- the declaration that it begins
abbrev pub declaring_of : Kind → Option Declaring
declaring_of k.Let = Some d.Let
declaring_of k.Manifest = Some (d.Constants q.Manifest)
declaring_of k.Static = Some (d.Constants q.Static)
declaring_of k.Global = Some (d.Constants q.Global)
declaring_of _ = None

-- how it repeats the command before it
abbrev pub repetition_of : Kind → Option Repetition
repetition_of k.Repeat = Some r.Always
repetition_of k.RepeatWhile = Some r.While
repetition_of k.RepeatUntil = Some r.Until
repetition_of _ = None

abbrev pub is_arrow : Kind → Bool
is_arrow k.Arrow = true
is_arrow _ = false

abbrev pub is_both : Operator → Bool
is_both o.Both = true
is_both _ = false

-- what else it begins where an operand is due
abbrev pub opening_of : Kind → Option Opening
opening_of k.Open = Some s.Parens
opening_of k.Close = Some s.Close
opening_of k.Valof = Some s.Valof
opening_of k.Table = Some s.Table
opening_of _ = None

-- the command with a word of its own that it begins
abbrev pub heading_of : Kind → Option Heading
heading_of k.Goto = Some h.Goto
heading_of k.Test = Some h.Test
heading_of k.For = Some h.For
heading_of k.ResultIs = Some h.ResultIs
heading_of k.Default = Some h.Default
heading_of k.SectionOpen = Some h.Block
heading_of _ = None

-- whether it begins an operand
abbrev pub begins_operand : Kind → Bool
begins_operand k.Name = true
begins_operand k.Number = true
begins_operand k.Text = true
begins_operand k.Character = true
begins_operand k.True = true
begins_operand k.False = true
begins_operand k.Query = true
begins_operand k.Open = true
begins_operand k.Valof = true
begins_operand k.Table = true
begins_operand k.Bang = true
begins_operand k.At = true
begins_operand k.Plus = true
begins_operand k.Minus = true
begins_operand k.Not = true
begins_operand _ = false

-- whether it begins a command
abbrev pub begins_command : Kind → Bool
begins_command k.Goto = true
begins_command k.Test = true
begins_command k.For = true
begins_command k.ResultIs = true
begins_command k.Default = true
begins_command k.SectionOpen = true
begins_command k.Break = true
begins_command k.Loop = true
begins_command k.EndCase = true
begins_command k.Return = true
begins_command k.Finish = true
begins_command k.If = true
begins_command k.Unless = true
begins_command k.While = true
begins_command k.Until = true
begins_command k.SwitchOn = true
begins_command k.Case = true
begins_command kind = begins_operand kind

-- whether it repeats the command before it
abbrev pub repeats : Kind → Bool
repeats k.Repeat = true
repeats k.RepeatWhile = true
repeats k.RepeatUntil = true
repeats _ = false

-- whether an expression of these rows, complete so far, goes on with the symbol
abbrev pub goes : ℕ → Kind → Bool
goes rows k.Open = true
goes rows k.Arrow = nat_lt 11 rows
goes rows k.Bang = nat_lt 1 rows
goes rows k.Percent = nat_lt 1 rows
goes rows k.Star = nat_lt 3 rows
goes rows k.Slash = nat_lt 3 rows
goes rows k.Rem = nat_lt 3 rows
goes rows k.Plus = nat_lt 4 rows
goes rows k.Minus = nat_lt 4 rows
goes rows k.Equal = nat_lt 5 rows
goes rows k.NotEqual = nat_lt 5 rows
goes rows k.Less = nat_lt 5 rows
goes rows k.Greater = nat_lt 5 rows
goes rows k.LessEqual = nat_lt 5 rows
goes rows k.GreaterEqual = nat_lt 5 rows
goes rows k.ShiftLeft = nat_lt 6 rows
goes rows k.ShiftRight = nat_lt 6 rows
goes rows k.Ampersand = nat_lt 8 rows
goes rows k.Bar = nat_lt 9 rows
goes rows k.Eqv = nat_lt 10 rows
goes rows k.Neqv = nat_lt 10 rows
goes rows _ = false

-- a call at the head of a command goes on as an assignment
abbrev pub assigns : Kind → Bool
assigns k.Comma = true
assigns k.Assign = true
assigns _ = false

abbrev pub is_and : Kind → Bool
is_and k.And = true
is_and _ = false

abbrev pub is_comma : Kind → Bool
is_comma k.Comma = true
is_comma _ = false

-- the next symbol, if there is one, fails the test
abbrev pub Fails : (Kind → Bool) → List Symbol → Type 0
Fails test [] = Unit {0}
Fails test (t ∷ ts) = test t.kind ≡ false

-- an expression of these rows does not go on
abbrev pub Stops : ℕ → List Symbol → Type 0
Stops rows ts = Fails (goes rows) ts

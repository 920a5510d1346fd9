-- The unfinished constructs and the state of the parser, as the stack and the state of the reading machine; and the answer of a call, as
-- a step of that machine. The depths and the numbers of nodes that the parser keeps are left out.
use Rattle.std.specs.Prelude.{ℕ, ◌+◌, Bool, true, false, cond, ◌≡◌, Option, Some, None, List, Result, Ok, Err, vec_len, length, slice_get}
use Rattle.bk_lex.specs.declared.token.Kind.{Kind}
use Rattle.bk_lex.specs.declared.token.Token.{Token}
use Rattle.bk_grammar.specs.declared.symbols.Heading.{Heading}
use Rattle.bk_grammar.specs.declared.symbols.Heading.TheVariants as h
use Rattle.bk_frames.specs.declared.frame.Place.TheVariants as a
use Rattle.bk_frames.specs.declared.frame.Unfinished.{Unfinished}
use Rattle.bk_frames.specs.declared.frame.Unfinished.TheVariants as b
use Rattle.bk_frames.specs.declared.frames.Frames.{Frames}
use Rattle.bk_frames.specs.declared.frame.ParserState.{ParserState}
use Rattle.bk_frames.specs.declared.frame.ParserState.TheVariants as n
use Rattle.bk_frames.specs.declared.frame.Flow.{Flow}
use Rattle.bk_frames.specs.declared.frame.Flow.TheVariants as f
use Rattle.bk_frames.specs.declared.frame.Stop.{Stop}
use Rattle.bk_frames.specs.declared.frame.Stop.TheVariants as s
use Rattle.bk_lex.specs.Values.{upper_name}
use Rattle.bk_tree.specs.declared.tree.Name.{Name}
use Rattle.bk_grammar.specs.declared.symbols.Declaring.{Declaring}
use Rattle.bk_grammar.specs.declared.symbols.Declaring.TheVariants as g
use Rattle.bk_grammar.specs.Placed.{position_at}
use Rattle.bk_grammar.specs.Rows.{is_relation, is_name}
use Rattle.bk_frames.specs.declared.budget.FrameBudgets.{FrameBudgets}
use Rattle.bk_frames.specs.Budgets.{AreBudgets}
use Rattle.bk_frames.specs.declared.frame.Size.{Size}
use Rattle.bk_frames.specs.Sizes.{kept_size}
use Rattle.bk_frames.specs.Stacked.{stack}
use Rattle.bk_tree.specs.Tree.{Expression, binary, no_declarations, no_commands, no_definitions, mention, expression, command_in, definition}
use Rattle.bk_grammar.specs.Machine.{Stack, State, in_block, in_let, at_opening, at_goto, at_for, at_default, in_test, in_result, want, have, begin, maybe, did, due, give, finish, defined_by}

abbrev pub stack_of : Frames → Stack
stack_of x = stack x.decls.items x.above.items

-- the budgets that are kept after those of the frames, if there are any, are those of this stack
abbrev pub HasBudgetsFor : Frames → Stack → Type 0
HasBudgetsFor x st = (r : FrameBudgets) → slice_get x.budgets.items (length x.above.items) ≡ Some r → AreBudgets true st r.budgets.items

abbrev pub state : Stack → ParserState → State
state st n.Want = want st
state st (n.Have x) = have st (expression x.expr)
state st n.Begin = begin st
state st n.Maybe = maybe st
state st (n.Did x) = did st (command_in x.command)
state st n.Due = due st

-- the size of the part that is complete so far, if there is one
abbrev pub part_of : ParserState → Size
part_of (n.Have x) = x.size
part_of (n.Did x) = x.size
part_of _ = kept_size 0 0

-- what was put on top
abbrev pub Puts : Stack → Result Unit Stop → Stack → Type 0
Puts st (Ok u) next = st ≡ next
Puts st (Err s.Memory) next = Unit {0}
Puts st (Err s.Unexpected) next = ⊥

-- an answer with these frames, as a step of the machine: an unexpected symbol is one with which it does not go on
abbrev pub Steps : Stack → Result ParserState Stop → Option State → Type 0
Steps st (Ok now) next = next ≡ Some (state st now)
Steps st (Err s.Memory) next = Unit {0}
Steps st (Err s.Unexpected) next = next ≡ None

-- how the expression that is complete goes on below, with a symbol after it
abbrev pub given : Stack → ParserState → ℕ → List ℕ → Kind → Option State
given st (n.Have y) l x t = give st (expression y.expr) l x t
given st _ l x t = None

-- and how the command does
abbrev pub finished : Stack → ParserState → ℕ → List ℕ → Kind → Option State
finished st (n.Did y) l x t = finish st (command_in y.command) l x t
finished st _ l x t = None

-- and how either does; with no part, no symbol is taken
abbrev pub after : Stack → ParserState → ℕ → List ℕ → Kind → Option State
after st (n.Have y) l x t = give st (expression y.expr) l x t
after st (n.Did y) l x t = finish st (command_in y.command) l x t
after st y l x t = Some (state st y)

-- where a symbol leads that was taken, or that comes after the part that is complete now
abbrev pub flow : Stack → Flow → ParserState → ℕ → List ℕ → Kind → Option State
flow st f.Taken y l x t = Some (state st y)
flow st f.Comes y l x t = after st y l x t

abbrev pub Flows : Stack → Result Flow Stop → ParserState → ℕ → List ℕ → Kind → Option State → Type 0
Flows st (Ok w) y l x t next = next ≡ flow st w y l x t
Flows st (Err s.Memory) y l x t next = Unit {0}
Flows st (Err s.Unexpected) y l x t next = next ≡ None

-- the same, after this token
abbrev pub Answers : Frames → ParserState → Result Flow Stop → Token → (ℕ → List ℕ → Kind → Option State) → Type 0
Answers new y result t next = Flows (stack_of new) result y (position_at t) t.text.now t.kind (next (position_at t) t.text.now t.kind)

-- what a command with a word of its own is to begin with
abbrev pub heads : Stack → ℕ → Heading → State
heads st l h.Goto = due (at_goto l st)
heads st l h.Test = want (in_test l st)
heads st l h.For = due (at_for l st)
heads st l h.ResultIs = want (in_result l st)
heads st l h.Default = due (at_default l st)
heads st l h.Block = due (in_block l true no_declarations no_commands st)

-- a part that is complete took no frame more
abbrev pub Lowers : Frames → Frames → Result Flow Stop → Type 0
Lowers old new (Ok f.Comes) = vec_len new.above ≡ vec_len old.above
Lowers old new _ = Unit {0}

-- a part that is complete took a frame away
abbrev pub Falls : Frames → Frames → Result Flow Stop → Type 0
Falls old new (Ok f.Comes) = vec_len new.above + 1 ≡ vec_len old.above
Falls old new _ = Unit {0}

-- the right operand of a relation
abbrev pub related : Expression → Option Expression
related (binary l q m x y) = cond (is_relation q) (Some y) None
related _ = None

-- the name that a token is, if it is one
abbrev pub NamedBy : Option Name → Token → Type 0
NamedBy None t = is_name t.kind ≡ false
NamedBy (Some x) t = (is_name t.kind ≡ true) × (mention x ≡ record { at = position_at t; letters = upper_name t.text.now })

-- what a complete declaration leaves: a symbol is due
abbrev pub Declares : Stack → Result Unit Stop → Option State → Type 0
Declares st (Ok u) next = next ≡ Some (due st)
Declares st (Err s.Memory) next = Unit {0}
Declares st (Err s.Unexpected) next = next ≡ None

-- what a declaration is to begin with
abbrev pub declaring : Stack → ℕ → Declaring → State
declaring st l g.Let = due (in_let l no_definitions st)
declaring st l (g.Constants q) = due (at_opening l q st)

abbrev pub is_let_unfinished : Unfinished → Bool
is_let_unfinished (b.Place (a.Let l xs)) = true
is_let_unfinished _ = false

abbrev pub is_block_unfinished : Unfinished → Bool
is_block_unfinished (b.Place (a.Block l q ds cs)) = true
is_block_unfinished _ = false

-- How a beginning can be completed: what a state of the reading machine can still become, by the symbol that comes next.
-- `P` is what is asked of the depth and the nodes of the whole section.
use Rattle.std.specs.Prelude.{ℕ, ◌+◌, ◌==◌, ◌⊎◌, max, nat_lt, Bool, true, false, length}
use Rattle.bk_grammar.specs.declared.symbols.Guard.{Guard}
use Rattle.bk_grammar.specs.declared.symbols.Guard.TheVariants as g
use Rattle.bk_frames.specs.declared.size.Form.{Form}
use Rattle.bk_frames.specs.declared.size.Form.TheVariants.{Label, Call, Callable, Other}
use Rattle.bk_tree.specs.Tree.{Items, no_items, item, none}
use Rattle.bk_tree.specs.Limits.{depth, depth_of_each, depth_of_command, depth_of_commands, depth_of_declarations, depth_of_items, depth_of_definitions, depth_of_starts, nodes, nodes_of_each, nodes_of_command, nodes_of_commands, nodes_of_declarations, nodes_of_items, nodes_of_definitions, nodes_of_starts}
use Rattle.bk_grammar.specs.Rows.{inner}
use Rattle.bk_tree.specs.Parts.{size, start_count}
use Rattle.bk_grammar.specs.Machine.{Stack, State, in_section, in_block, in_let, at_name, at_formals, at_formal, at_formal_end, at_head, at_variable, at_variable_end, at_starts, at_opening, at_items, at_sign, at_goto, at_for, at_forward, at_default, in_parens, in_unary, in_binary, in_chain, in_then, in_else, in_args, in_table, in_start, in_dests, in_values, in_guard, in_test, in_result, in_while, in_from, in_to, in_by, in_item, in_function, in_value, in_vector, in_valof, in_label, in_guarded, in_default, in_do, in_or, in_for, in_routine, want, have, begin, maybe, did, due}
use Rattle.bk_frames.specs.Sizes.{form_of, owed}

-- the symbol after a part, by what within the part takes it as its own: nothing, a call, a call or a TABLE, an expression, a
-- command; the last is an operator that begins no command, so that it may come where a command is missing
pub data Lookahead : Type 0 where
  closing : Lookahead
  assigning : Lookahead
  listing : Lookahead
  going : Lookahead
  repeating : Lookahead
  operating : Lookahead

-- whatever comes next
abbrev pub Any : (Lookahead → Type 0) → Type 0
Any F = (c : Lookahead) × F c

abbrev pub AtClosing : Type 0 → Lookahead → Type 0
AtClosing X closing = X
AtClosing X _ = ⊥

abbrev pub AtListing : Type 0 → Lookahead → Type 0
AtListing X listing = X
AtListing X _ = ⊥

-- a `)`, or one more argument before it
abbrev pub AtArgument : Type 0 → Type 0 → Lookahead → Type 0
AtArgument X Y closing = X
AtArgument X Y listing = Y
AtArgument X Y _ = ⊥

-- a `:=`, or one more destination before it
abbrev pub AtAssignment : Type 0 → Type 0 → Lookahead → Type 0
AtAssignment X Y assigning = X
AtAssignment X Y listing = Y
AtAssignment X Y _ = ⊥

abbrev pub Unlisted : (Lookahead → Type 0) → Lookahead → Type 0
Unlisted F listing = ⊥
Unlisted F c = F c

-- a TABLE takes a comma, and one more part before what does not
abbrev pub AtPart : (Lookahead → Type 0) → (Lookahead → Type 0) → Lookahead → Type 0
AtPart F G listing = Any (Unlisted G)
AtPart F G c = F c

abbrev pub If : Bool → (Lookahead → Type 0) → (Lookahead → Type 0) → Lookahead → Type 0
If true F G c = F c
If false F G c = G c

-- after a command that an expression ends: an expression goes on, so that a REPEAT has to come before what does not
abbrev pub Closed : (ℕ → ℕ → Lookahead → Type 0) → ℕ → ℕ → Lookahead → Type 0
Closed F d n going = ⊥
Closed F d n operating = ⊥
Closed F d n repeating = Any (F (d + 1) (n + 1))
Closed F d n c = F d n c

-- where no command comes after a colon: what begins one, as `(` does, would be taken for it
abbrev pub Missing : (ℕ → ℕ → Lookahead → Type 0) → ℕ → ℕ → Lookahead → Type 0
Missing F d n going = ⊥
Missing F d n repeating = Any (F (d + 1) (n + 1))
Missing F d n c = F d n c

-- after an expression at the start of a command: it is a destination, a label with a command or without, or a call
abbrev pub Started : (ℕ → ℕ → Lookahead → Type 0) → Form → ℕ → ℕ → Lookahead → Type 0
Started F f d n assigning = Any (Closed F (max d 1 + 1) (n + 2))
Started F f d n listing = Any (Closed F (max d 1 + 1) (n + 4))
Started F Label d n closing = Any (Missing F 1 1) ⊎ Any (F 2 2)
Started F Call d n closing = F d n closing
Started F Call d n repeating = Any (F (d + 1) (n + 1))
Started F _ d n _ = ⊥

-- after the command of a VALOF, which may be called
abbrev pub Answered : (Form → ℕ → ℕ → Lookahead → Type 0) → (ℕ → ℕ → Type 0) → ℕ → ℕ → Lookahead → Type 0
Answered G H d n going = Any (G Call (d + 2) (n + 2))
Answered G H d n operating = H (d + 1) (n + 1)
Answered G H d n repeating = ⊥
Answered G H d n c = G Callable (d + 1) (n + 1) c

-- an expression that may be called
abbrev pub Whole : (Form → ℕ → ℕ → Lookahead → Type 0) → Form → ℕ → ℕ → Type 0
Whole G f d n = Any (G f d n) ⊎ Any (G Call (d + 1) (n + 1))

-- after the sign of a guard: after that of a CASE no command need come
abbrev pub Guarded : Guard → (ℕ → ℕ → Lookahead → Type 0) → ℕ → ℕ → Type 0
Guarded g.Case F d n = Any (Missing F (d + 1) (n + 1)) ⊎ Any (F (max d 1 + 1) (n + 2))
Guarded _ F d n = Any (F (max d 1 + 1) (n + 2))

-- one or the other
abbrev pub Taken : Bool → Type 0 → Type 0 → Type 0
Taken true X Y = X
Taken false X Y = Y

abbrev mutual
  -- on this stack an expression of this form, depth and number of nodes is complete, and such a symbol comes next: a
  -- section with P goes on so
  pub Gives : (ℕ → ℕ → Type 0) → Stack → Form → ℕ → ℕ → Lookahead → Type 0
  Gives P (in_parens l st) f d n c = AtClosing (Whole (Gives P st) Callable (d + 1) (n + 1)) c
  Gives P (in_unary l p st) f d n c = Gives P st Other (d + 1) (n + 1) c
  Gives P (in_binary o s a st) f d n c = Gives P st Other (max (depth a) d + 1) (nodes a + n + 1) c
  Gives P (in_chain o s a b st) f d n c = Gives P st Other (max (depth a) (max (depth b) d + 1) + 1) (nodes a + (nodes b + n + 1) + 1) c
  Gives P (in_then s x st) f d n c = AtListing (Any (Gives P st Other (max (depth x) (max d 1) + 1) (nodes x + n + 2))) c
  Gives P (in_else s x a st) f d n c = Gives P st Other (max (depth x) (max (depth a) d) + 1) (nodes x + nodes a + n + 1) c
  Gives P (in_args s x es st) f d n c =
      AtArgument (Whole (Gives P st) Call (max (depth x) (max (depth_of_each es) d) + 1) (nodes x + (nodes_of_each es + n) + 1))
      (Whole (Gives P st) Call (max (depth x) (max (depth_of_each es) (max d 1)) + 1) (nodes x + (nodes_of_each es + n) + 2)) c
  Gives P (in_table l es st) f d n c = AtPart (Gives P st Other (max (depth_of_each es) d + 1) (nodes_of_each es + n + 1)) (Gives P st Other (max (depth_of_each es) (max d 1) + 1) (nodes_of_each es + n + 2)) c
  Gives P (in_start st) f d n c = Started (Does P st) f d n c
  Gives P (in_dests xs st) f d n c =
      AtAssignment (Any (Closed (Does P st) (max (max (depth_of_each xs) 1) d + 1) (nodes_of_each xs + n + size xs + 2)))
      (Any (Closed (Does P st) (max (max (depth_of_each xs) 1) d + 1) (nodes_of_each xs + n + size xs + 4))) c
  Gives P (in_values xs ys st) f d n c =
      If (size xs == size ys + 1) (Closed (Does P st) (max (depth_of_each xs) (max (depth_of_each ys) d) + 1) (nodes_of_each xs + (nodes_of_each ys + n) + 1))
      (AtListing (Any (Closed (Does P st) (max (depth_of_each xs) (max (depth_of_each ys) (max d 1)) + 1) (nodes_of_each xs + (nodes_of_each ys + n) + owed (size xs) (size ys) + 1)))) c
  Gives P (in_guard k l st) f d n c = AtClosing (Guarded k (Does P st) d n) c
  Gives P (in_test l st) f d n c = AtClosing (Any (Does P st (max d 1 + 1) (n + 3))) c
  Gives P (in_result l st) f d n c = Closed (Does P st) (d + 1) (n + 1) c
  Gives P (in_while b a st) f d n c = Closed (Does P st) (max (depth_of_command a) d + 1) (nodes_of_command a + n + 1) c
  Gives P (in_from l x st) f d n c = AtClosing (Any (Does P st (max d 1 + 1) (n + 3))) c
  Gives P (in_to l x a st) f d n c = AtClosing (Any (Does P st (max (depth a) (max d 1) + 1) (nodes a + n + 2))) c
  Gives P (in_by l x a b st) f d n c = AtClosing (Any (Does P st (max (depth a) (max (depth b) (max d 1)) + 1) (nodes a + nodes b + n + 2))) c
  Gives P (in_item l q is x st) f d n c = AtClosing (Declares P st (max (depth_of_items is) (d + 1)) (nodes_of_items is + (n + 1))) c
  Gives P (in_function x fs st) f d n c = AtClosing (Defines P st (d + 1) (n + 1)) c
  Gives P (in_value xs is st) f d n c =
      If (length xs == start_count is + 1) (AtClosing (Defines P st (max (depth_of_starts is) d + 1) (nodes_of_starts is + n + 1)))
      (AtListing (Defines P st (max (depth_of_starts is) (max d 1) + 1) (nodes_of_starts is + n + owed (length xs) (start_count is) + 1))) c
  Gives P (in_vector l xs is st) f d n c =
      If (length xs == start_count is + 1) (AtClosing (Defines P st (max (depth_of_starts is) d + 1) (nodes_of_starts is + n + 1)))
      (AtListing (Defines P st (max (depth_of_starts is) (max d 1) + 1) (nodes_of_starts is + n + owed (length xs) (start_count is) + 1))) c
  Gives P _ f d n c = ⊥

  -- the same of a command; after one that is repeated comes what comes after it
  pub Does : (ℕ → ℕ → Type 0) → Stack → ℕ → ℕ → Lookahead → Type 0
  Does P (in_valof l st) d n c = Answered (Gives P st) (Operates P st (Gives P st)) d n c
  Does P (in_label l x st) d n c = Does P st (d + 1) (n + 1) c
  Does P (in_guarded k l e st) d n c = Does P st (max (depth e) d + 1) (nodes e + n + 1) c
  Does P (in_default l st) d n c = Does P st (d + 1) (n + 1) c
  Does P (in_do l e st) d n c = AtClosing (Any (Does P st (max (depth e) (max d 1) + 1) (nodes e + n + 2))) c
  Does P (in_or l e a st) d n c = Does P st (max (depth e) (max (depth_of_command a) d) + 1) (nodes e + nodes_of_command a + n + 1) c
  Does P (in_for l x a b h st) d n c = Does P st (max (depth a) (max (depth b) (max (depth_of_each h) d)) + 1) (nodes a + nodes b + nodes_of_each h + n + 1) c
  Does P (in_routine x fs st) d n c = AtClosing (Defines P st (d + 1) (n + 1)) c
  Does P (in_block l b ds cs st) d n c = AtClosing (Any (Does P st (max (depth_of_declarations ds) (max (depth_of_commands cs) d) + 1) (nodes_of_declarations ds + (nodes_of_commands cs + n) + 1))) c
  Does P _ d n c = ⊥

  -- after an expression on this stack, where G is Gives of it, an operator comes that begins no command, and a name; `%` is the tightest, and goes on all but the
  -- right operand of its own row
  pub Operates : (ℕ → ℕ → Type 0) → Stack → (Form → ℕ → ℕ → Lookahead → Type 0) → ℕ → ℕ → Type 0
  Operates P (in_binary o s a st) G d n = Taken (nat_lt 1 (inner o)) (Any (G Other (d + 1) (n + 2))) (Operates P st (Gives P st) (max (depth a) d + 1) (nodes a + n + 1))
  Operates P st G d n = Any (G Other (d + 1) (n + 2))

  -- the same of a definition
  pub Defines : (ℕ → ℕ → Type 0) → Stack → ℕ → ℕ → Type 0
  Defines P (in_let l ds st) d n = Declares P st (max (depth_of_definitions ds) d) (nodes_of_definitions ds + n)
  Defines P _ d n = ⊥

  -- and of a declaration
  pub Declares : (ℕ → ℕ → Type 0) → Stack → ℕ → ℕ → Type 0
  Declares P (in_section ds) d n = P (max (depth_of_declarations ds) d) (nodes_of_declarations ds + n)
  Declares P (in_block l b ds cs st) d n = Any (Does P st (max (depth_of_declarations ds) (max (depth_of_commands cs) d) + 1) (nodes_of_declarations ds + (nodes_of_commands cs + n) + 1))
  Declares P _ d n = ⊥

-- an operand is due, or a `)` where no argument may come
abbrev pub Wants : (ℕ → ℕ → Type 0) → Stack → Type 0
Wants P (in_args s x none st) = Whole (Gives P st) Call (depth x + 1) (nodes x + 1)
Wants P st = Any (Gives P st Label 1 1)

-- no command comes after a colon
abbrev pub Misses : (ℕ → ℕ → Type 0) → Stack → Type 0
Misses P (in_label l x st) = Any (Missing (Does P st) 1 1)
Misses P (in_guarded k l e st) = Any (Missing (Does P st) (depth e + 1) (nodes e + 1))
Misses P (in_default l st) = Any (Missing (Does P st) 1 1)
Misses P _ = ⊥

-- the least item, where none came
abbrev pub Lists : (ℕ → ℕ → Type 0) → Stack → Items → Type 0
Lists P st no_items = Declares P st 2 2
Lists P st (item l x e is) = Declares P st (depth_of_items (item l x e is)) (nodes_of_items (item l x e is))

-- a symbol is due
abbrev pub Due : (ℕ → ℕ → Type 0) → Stack → Type 0
Due P (in_section ds) = Declares P (in_section ds) 0 0
Due P (in_block l b ds cs st) = Declares P (in_block l b ds cs st) 0 0
Due P (in_let l ds st) = Defines P (in_let l ds st) 2 2
Due P (at_name x st) = Defines P st 2 2
Due P (at_formals x st) = Defines P st 2 2
Due P (at_formal x fs st) = Defines P st 2 2
Due P (at_formal_end x fs st) = Defines P st 2 2
Due P (at_head x fs st) = Defines P st 2 2
Due P (at_variable xs st) = Defines P st 2 (length xs + 2)
Due P (at_variable_end xs st) = Defines P st 2 (length xs + 1)
Due P (at_starts xs is st) = Any (Gives P (in_value xs is st) Label 1 1)
Due P (at_opening l q st) = Declares P st 2 2
Due P (at_items l q is st) = Lists P st is
Due P (at_sign l q is x st) = Declares P st (max 2 (depth_of_items is)) (nodes_of_items is + 2)
Due P (at_goto l st) = Any (Does P st 1 1)
Due P (at_for l st) = Any (Does P st 2 4)
Due P (at_forward l x st) = Any (Does P st 2 4)
Due P (at_default l st) = Any (Missing (Does P st) 1 1) ⊎ Any (Does P st 2 2)
Due P _ = ⊥

-- a section with P goes on from this state
abbrev pub Completes : (ℕ → ℕ → Type 0) → State → Type 0
Completes P (want st) = Wants P st
Completes P (have st e) = Whole (Gives P st) (form_of e) (depth e) (nodes e)
Completes P (begin st) = Any (Does P st 1 1)
Completes P (maybe st) = Misses P st ⊎ Any (Does P st 1 1)
Completes P (did st a) = Any (Does P st (depth_of_command a) (nodes_of_command a))
Completes P (due st) = Due P st

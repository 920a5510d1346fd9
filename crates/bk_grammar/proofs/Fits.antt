-- What a state that the machine comes to is like, and the sections that are open there: what stands on what, how many
-- values are due, and that no TABLE stands where a comma is owed.
use Rattle.bk_grammar.proofs.Terms.{◌≡◌, ℕ, ◌<◌, false, List, [], ◌∷◌, length, Option, Some, None, Kind, Kind as k, upper_name, size, start_count, Stack, in_section, in_block, in_let, at_name, at_formals, at_formal, at_formal_end, at_head, at_variable, at_variable_end, at_starts, at_opening, at_items, at_sign, at_goto, at_for, at_forward, at_default, in_parens, in_unary, in_binary, in_chain, in_then, in_else, in_args, in_table, in_start, in_dests, in_values, in_guard, in_test, in_result, in_while, in_from, in_to, in_by, in_item, in_function, in_value, in_vector, in_valof, in_label, in_guarded, in_default, in_do, in_or, in_for, in_routine, State, want, have, begin, maybe, did, due, bars}

-- a section bracket may have this tag
abbrev pub Tagged : List ℕ → Type 0
Tagged tag = (x : List ℕ) × (upper_name x ≡ tag)

-- a section is open, and outside it this holds
abbrev pub Under : (List (List ℕ) → Type 0) → List (List ℕ) → Type 0
Under P [] = ⊥
Under P (tag ∷ opens) = Tagged tag × P opens

abbrev mutual
  -- an expression may stand on the stack
  pub ForExpression : Stack → List (List ℕ) → Type 0
  ForExpression (in_parens l st) = ForExpression st
  ForExpression (in_unary l p st) = ForExpression st
  ForExpression (in_binary q s e st) = ForExpression st
  ForExpression (in_chain q s e x st) = ForExpression st
  ForExpression (in_then s c st) = ForExpression st
  ForExpression (in_else s c e st) = ForExpression st
  ForExpression (in_args s f es st) = ForExpression st
  ForExpression (in_table l es st) = λ opens. (bars st ≡ false) × ForExpression st opens
  ForExpression (in_start st) = ForCommand st
  ForExpression (in_dests xs st) = ForCommand st
  ForExpression (in_values xs ys st) = λ opens. (size ys < size xs) × ForCommand st opens
  ForExpression (in_guard gd l st) = ForCommand st
  ForExpression (in_test l st) = ForCommand st
  ForExpression (in_result l st) = ForCommand st
  ForExpression (in_while b c st) = ForCommand st
  ForExpression (in_from l n st) = ForCommand st
  ForExpression (in_to l n e st) = ForCommand st
  ForExpression (in_by l n e x st) = ForCommand st
  ForExpression (in_item l s is n st) = Under (ForDeclaration st)
  ForExpression (in_function n fs st) = ForDefinition st
  ForExpression (in_value ns is st) = λ opens. (start_count is < length ns) × ForDefinition st opens
  ForExpression (in_vector l ns is st) = λ opens. (start_count is < length ns) × ForDefinition st opens
  ForExpression _ = λ opens. ⊥

  -- a command may
  pub ForCommand : Stack → List (List ℕ) → Type 0
  ForCommand (in_valof l st) = ForExpression st
  ForCommand (in_label l x st) = ForCommand st
  ForCommand (in_guarded gd l e st) = ForCommand st
  ForCommand (in_default l st) = ForCommand st
  ForCommand (in_do l e st) = ForCommand st
  ForCommand (in_or l e c st) = ForCommand st
  ForCommand (in_for l n e x h st) = ForCommand st
  ForCommand (in_routine n fs st) = ForDefinition st
  ForCommand (in_block l b ds cs st) = Under (ForCommand st)
  ForCommand _ = λ opens. ⊥

  -- a definition may
  pub ForDefinition : Stack → List (List ℕ) → Type 0
  ForDefinition (in_let l ds st) = ForDeclaration st
  ForDefinition _ = λ opens. ⊥

  -- a declaration may
  pub ForDeclaration : Stack → List (List ℕ) → Type 0
  ForDeclaration (in_section ds) = λ opens. opens ≡ []
  ForDeclaration (in_block l b ds cs st) = Under (ForCommand st)
  ForDeclaration _ = λ opens. ⊥

-- a symbol may
abbrev pub ForSymbol : Stack → List (List ℕ) → Type 0
ForSymbol (in_section ds) = λ opens. opens ≡ []
ForSymbol (in_block l b ds cs st) = Under (ForCommand st)
ForSymbol (in_let l ds st) = ForDeclaration st
ForSymbol (at_name n st) = ForDefinition st
ForSymbol (at_formals n st) = ForDefinition st
ForSymbol (at_formal n fs st) = ForDefinition st
ForSymbol (at_formal_end n fs st) = ForDefinition st
ForSymbol (at_head n fs st) = ForDefinition st
ForSymbol (at_variable xs st) = ForDefinition st
ForSymbol (at_variable_end xs st) = λ opens. (0 < length xs) × ForDefinition st opens
ForSymbol (at_starts ns is st) = λ opens. (start_count is < length ns) × ForDefinition st opens
ForSymbol (at_opening l s st) = ForDeclaration st
ForSymbol (at_items l s is st) = Under (ForDeclaration st)
ForSymbol (at_sign l s is n st) = Under (ForDeclaration st)
ForSymbol (at_goto l st) = ForCommand st
ForSymbol (at_for l st) = ForCommand st
ForSymbol (at_forward l n st) = ForCommand st
ForSymbol (at_default l st) = ForCommand st
ForSymbol _ = λ opens. ⊥

-- a command may be missing
abbrev pub MayMiss : Stack → Type 0
MayMiss (in_label l x st) = Unit {0}
MayMiss (in_guarded gd l e st) = Unit {0}
MayMiss (in_default l st) = Unit {0}
MayMiss _ = ⊥

-- the machine comes to this state with these sections open
abbrev pub Fits : State → List (List ℕ) → Type 0
Fits (want st) = ForExpression st
Fits (have st e) = ForExpression st
Fits (begin st) = ForCommand st
Fits (maybe st) = λ opens. MayMiss st × ForCommand st opens
Fits (did st c) = ForCommand st
Fits (due st) = ForSymbol st

abbrev pub Fit : Option State → List (List ℕ) → Type 0
Fit None = λ opens. Unit {0}
Fit (Some x) = Fits x

abbrev pub FitUnder : Option State → List (List ℕ) → Type 0
FitUnder None = λ opens. Unit {0}
FitUnder (Some x) = Under (Fits x)

-- the same of what a symbol of this kind leads to, where these sections are open before it
abbrev pub After : Kind → Option State → List (List ℕ) → Type 0
After k.SectionOpen r opens = (tag : List ℕ) → Tagged tag → Fit r (tag ∷ opens)
After k.SectionClose r opens = FitUnder r opens
After _ r opens = Fit r opens

-- Laws of the grammar, and of the machine that reads it symbol after symbol.
use Rattle.std.specs.Prelude.{ℕ, ◌≡◌, List, [], ◌∷◌, ◌++◌, None, Some, Result, Ok, Err}
use Rattle.bk_lex.specs.Symbol.{Symbol}
use Rattle.bk_tree.specs.Tree.{Declarations, no_declarations}
use Rattle.bk_grammar.specs.Grammar.{Section}
use Rattle.bk_tree.specs.Limits.{depth_of_declarations, nodes_of_declarations}
use Rattle.bk_grammar.specs.Brackets.{plain}
use Rattle.bk_grammar.specs.SyntaxFault.{IsSection, Begins, Any}
use Rattle.bk_grammar.specs.Machine.{State, due, in_section, run}
use Rattle.bk_frames.specs.Completing.{Completes}
use Rattle.bk_frames.specs.Bounds.{AtMost}
use Rattle.bk_syntax.specs.Parsing.{AfterSymbols}

-- what the machine reads of plain symbols: their tree, or the symbols from the first on with which it does not go on
abbrev pub reading : List Symbol → Result Declarations (List Symbol)
reading ts = run ts (due (in_section no_declarations))

-- The machine reads just the trees of the grammar.
abbrev pub ReadsTheGrammar : Type 0
ReadsTheGrammar = (ds : Declarations) (ts : List Symbol) → (Section ds ts → reading ts ≡ Ok ds) × (reading ts ≡ Ok ds → Section ds ts)

-- Symbols have at most one tree.
abbrev pub HaveOneTree : Type 0
HaveOneTree = (ds es : Declarations) (ts : List Symbol) → IsSection ds ts → IsSection es ts → ds ≡ es

-- Where the tag clause fails, no section goes on.
abbrev pub TagFaultApplies : Type 0
TagFaultApplies = (ts us : List Symbol) (ds : Declarations) → plain ts [] ≡ None → IsSection ds (ts ++ us) → ⊥

-- Where the machine stops at a symbol, no section goes on.
abbrev pub SymbolFaultApplies : Type 0
SymbolFaultApplies = (ts u : List Symbol) (t : Symbol) (v : List Symbol) → plain ts [] ≡ Some (u ++ t ∷ v) → reading (u ++ t ∷ v) ≡ Err (t ∷ v)
    → (us : List Symbol) (ds : Declarations) → IsSection ds (ts ++ us) → ⊥

-- Where it stops at the end, the symbols are no section.
abbrev pub EndFaultApplies : Type 0
EndFaultApplies = (ts rest : List Symbol) → reading ts ≡ Err rest → (ds : Declarations) → Section ds ts → ⊥

-- Where the tag clause does not fail and the machine stops at no symbol, a section begins so.
abbrev pub GoesOnBegins : Type 0
GoesOnBegins = (ts ps : List Symbol) → plain ts [] ≡ Some ps → ((t : Symbol) (v : List Symbol) → reading ps ≡ Err (t ∷ v) → ⊥) → Begins Any ts

-- Where a section within some bounds begins with the symbols, the state of the machine after them completes these bounds.
abbrev pub BeginsCompletes : Type 0
BeginsCompletes = (ts : List Symbol) (opens : List (List ℕ)) (x : State) (levels most : ℕ) → AfterSymbols ts opens x
    → Begins (λ ds. AtMost levels most (depth_of_declarations ds) (nodes_of_declarations ds)) ts → Completes (AtMost levels most) x

-- Where that state completes these bounds, a section within them begins so.
abbrev pub CompletesBegins : Type 0
CompletesBegins = (ts : List Symbol) (opens : List (List ℕ)) (x : State) (levels most : ℕ) → AfterSymbols ts opens x → Completes (AtMost levels most) x
    → Begins (λ ds. AtMost levels most (depth_of_declarations ds) (nodes_of_declarations ds)) ts

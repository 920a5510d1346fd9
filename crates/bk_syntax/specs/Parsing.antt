-- The state of the parser after some symbols of a section, and its answer to all of them.
use Rattle.std.specs.Prelude.{ℕ, zero, suc, false, ◌≡◌, ◌⊎◌, Option, Some, None, List, [], ◌∷◌, ◌++◌, length, ◌-◌, take, replicate, Result, Ok, Err}
use Rattle.std.specs.Borrow.{Bor}
use Rattle.bk_base.specs.declared.source_fault.SourceFault.{SourceFault}
use Rattle.bk_base.specs.declared.source_fault.SourceKind.{SourceKind}
use Rattle.bk_base.specs.declared.source_fault.SourceKind.TheVariants.{UnexpectedSymbol, WrongSectionTag, NestedTooDeeply, TooManyNodes}
use Rattle.bk_base.specs.declared.refused.Refused.{Refused}
use Rattle.bk_base.specs.declared.refused.Refused.TheVariants.{Fault, Memory, Device}
use Rattle.bk_lex.specs.Symbol.{Symbol}
use Rattle.bk_lex.specs.Values.{upper_name}
use Rattle.bk_lex.specs.declared.token.Kind.{Kind}
use Rattle.bk_frames.specs.declared.frames.Frames.{Frames}
use Rattle.bk_frames.specs.declared.frame.ParserState.{ParserState}
use Rattle.bk_frames.specs.declared.frame.Stop.{Stop}
use Rattle.bk_frames.specs.declared.frame.Stop.TheVariants as s
use Rattle.bk_syntax.specs.declared.error.ParseError.{ParseError}
use Rattle.bk_syntax.specs.declared.error.ParseError.TheVariants as w
use Rattle.bk_tree.specs.declared.section.Section.{Section}
use Rattle.bk_tree.specs.Tree.{Declarations, no_declarations}
use Rattle.bk_tree.specs.Section.{declarations_of}
use Rattle.bk_tree.specs.Limits.{Within}
use Rattle.bk_tree.specs.Position.{position}
use Rattle.bk_tree.specs.Placed.{fault_on_line, on_line}
use Rattle.bk_tree.specs.declared.placed.PlacedFault.{PlacedFault}
use Rattle.bk_grammar.specs.Placed.{position_of}
use Rattle.bk_frames.specs.Bounds.{Passed}
use Rattle.bk_grammar.specs.Rows.{goes}
use Rattle.bk_grammar.specs.Brackets.{closed_by, in_front, plain}
use Rattle.bk_grammar.specs.SyntaxFault.{IsSection, Begins, Applies, First, AppliesAtEnd}
use Rattle.bk_grammar.specs.Machine.{State, due, in_section, step}
use Rattle.bk_frames.specs.Frames.{stack_of, state}

-- the tags of the open sections in upper case, the innermost first
abbrev pub tags_on : List (List ℕ) → List (Bor (List ℕ)) → List (List ℕ)
tags_on opens [] = opens
tags_on opens (x ∷ xs) = tags_on (upper_name x.now ∷ opens) xs

unfoldable pub tags : List (Bor (List ℕ)) → List (List ℕ)
tags xs = tags_on [] xs

-- a `$)` with this tag closes so many of these sections; None where the tag clause fails
abbrev pub Closes : Option ℕ → Symbol → List ℕ → List (Bor (List ℕ)) → Type 0
Closes None t tag xs = closed_by t tag (tags xs) ≡ None
Closes (Some n) t tag xs = closed_by t tag (tags xs) ≡ Some (record { closings = replicate n t; still = tags (take (length xs - n) xs) })

abbrev pub goes_to : (State → Option State) → Option State → Option State
goes_to f None = None
goes_to f (Some x) = f x

-- so often this symbol
abbrev pub steps : ℕ → Symbol → State → Option State
steps zero t x = Some x
steps (suc n) t x = goes_to (steps n t) (step x t)

-- where these plain symbols lead
abbrev pub leads : List Symbol → State → Option State
leads [] x = Some x
leads (t ∷ ts) x = goes_to (leads ts) (step x t)

-- after these symbols these sections are open, and the machine is in this state
pub record AfterSymbols (ts : List Symbol) (opens : List (List ℕ)) (x : State) : Type 0 where
  pub plainly : List Symbol
  pub brackets : (us : List Symbol) → plain (ts ++ us) [] ≡ in_front plainly (plain us opens)
  pub comes : leads plainly (due (in_section no_declarations)) ≡ Some x

abbrev pub IsLimit : SourceKind → Type 0
IsLimit NestedTooDeeply = Unit {0}
IsLimit TooManyNodes = Unit {0}
IsLimit _ = ⊥

-- the fault that is reported for an error at this position
abbrev pub reported : ParseError → ℕ → Refused PlacedFault
reported w.Memory at = Memory
reported w.Unexpected at = Fault (record { at = at; kind = UnexpectedSymbol })
reported w.WrongSectionTag at = Fault (record { at = at; kind = WrongSectionTag })
reported w.NestedTooDeeply at = Fault (record { at = at; kind = NestedTooDeeply })
reported w.TooManyNodes at = Fault (record { at = at; kind = TooManyNodes })

-- what a symbol at this position is answered
abbrev pub answered : Result ParserState ParseError → ℕ → Result ParserState (Refused PlacedFault)
answered (Ok now) at = Ok now
answered (Err error) at = Err (reported error at)

-- why a symbol is refused, without its line
abbrev pub error_of : Result Unit Stop → Result Unit ParseError
error_of (Ok x) = Ok x
error_of (Err s.Memory) = Err w.Memory
error_of (Err s.Unexpected) = Err w.Unexpected

-- the answer to a symbol, with the state above the frames in its place
abbrev pub reached : {E : Type 0} → Result Unit E → ParserState → Result ParserState E
reached (Ok _) now = Ok now
reached (Err error) now = Err error

-- a whole expression, which may have the operators of all 12 rows, does not go on with this symbol
abbrev pub EndsExpression : Kind → Type 0
EndsExpression kind = goes 12 kind ≡ false

-- the limit that a section passes in this state
abbrev pub IsPassed : ParseError → State → Type 0
IsPassed w.Memory x = Unit {0}
IsPassed w.NestedTooDeeply x = Passed NestedTooDeeply x
IsPassed w.TooManyNodes x = Passed TooManyNodes x
IsPassed _ x = ⊥

-- the answer to a further symbol t after u
abbrev pub Advances : Frames → List (Bor (List ℕ)) → Result ParserState (Refused PlacedFault) → List Symbol → Symbol → Type 0
Advances new opens (Ok now) u t = AfterSymbols (u ++ t ∷ []) (tags opens) (state (stack_of new) now)
Advances new opens (Err (Fault f)) u t = (f.at ≡ position_of t) × Applies f.kind u t
Advances new opens (Err Memory) u t = Unit {0}
Advances new opens (Err Device) u t = ⊥

-- the answer at the end, at this position
abbrev pub AnswersAtEnd : Result Section (Refused PlacedFault) → Result Declarations (List Symbol) → ℕ → Type 0
AnswersAtEnd (Ok x) r end = r ≡ Ok (declarations_of x)
AnswersAtEnd (Err (Fault f)) r end = (r ≡ Err []) × (f.kind ≡ UnexpectedSymbol) × (f.at ≡ end)
AnswersAtEnd (Err Memory) r end = Unit {0}
AnswersAtEnd (Err Device) r end = ⊥

-- a fault that is reported at a symbol is there, and at no symbol before it: a section within the limits begins with those
pub record ReportedAt (f : SourceFault) (ts : List Symbol) : Type 0 where
  pub before : List Symbol
  pub at : Symbol
  pub more : List Symbol
  pub parts : ts ≡ before ++ at ∷ more
  pub line : f.line ≡ at.line
  pub first : First f.kind before at

-- a fault that is reported at the end, which is on this line: the symbols are no section, and one within the limits begins with
-- them
pub record ReportedAtEnd (f : SourceFault) (ts : List Symbol) (end : ℕ) : Type 0 where
  pub kind : f.kind ≡ UnexpectedSymbol
  pub line : f.line ≡ end
  pub begins : Begins Within ts
  pub applies : AppliesAtEnd ts

-- A fault at a symbol has the position of that symbol. One at the end has the end's line, and no place.
pub record PlacedAt (f : PlacedFault) (ts : List Symbol) : Type 0 where
  pub reported : ReportedAt (fault_on_line f) ts
  pub position : f.at ≡ position_of reported.at

pub record PlacedAtEnd (f : PlacedFault) (ts : List Symbol) (end : ℕ) : Type 0 where
  pub reported : ReportedAtEnd (fault_on_line f) ts end
  pub position : f.at ≡ position end None

abbrev pub ParsesPlaced : Result Section (Refused PlacedFault) → List Symbol → ℕ → Type 0
ParsesPlaced (Ok x) ts end = IsSection (declarations_of x) ts
ParsesPlaced (Err (Fault f)) ts end = PlacedAt f ts ⊎ PlacedAtEnd f ts end
ParsesPlaced (Err Memory) ts end = Unit {0}
ParsesPlaced (Err Device) ts end = ⊥

-- the answer with the line of a fault in the place of its position
abbrev pub without_place : Result Section (Refused PlacedFault) → Result Section (Refused SourceFault)
without_place (Ok x) = Ok x
without_place (Err r) = Err (on_line r)

-- what is answered of these symbols, which end on this line
abbrev pub Parses : Result Section (Refused SourceFault) → List Symbol → ℕ → Type 0
Parses (Ok x) ts end = IsSection (declarations_of x) ts
Parses (Err (Fault f)) ts end = ReportedAt f ts ⊎ ReportedAtEnd f ts end
Parses (Err Memory) ts end = Unit {0}
Parses (Err Device) ts end = ⊥

-- what is answered where the symbols are the section of this tree: a limit only where it passes one
abbrev pub Gives : Result Section (Refused SourceFault) → Declarations → Type 0
Gives (Ok x) ds = declarations_of x ≡ ds
Gives (Err (Fault f)) ds = IsLimit f.kind × (Within ds → ⊥)
Gives (Err Memory) ds = Unit {0}
Gives (Err Device) ds = ⊥

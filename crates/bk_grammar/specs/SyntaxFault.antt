-- Which symbols are a section, and the fault of those that are none: it is at the first symbol such that the
-- symbols up to and with it begin no section within the limits. The end counts as a symbol.
use Rattle.std.specs.Prelude.{◌≡◌, ◌≤◌, Some, None, List, [], ◌∷◌, ◌++◌}
use Rattle.bk_base.specs.declared.limit.TheConstants.{TREE_DEPTH}
use Rattle.bk_base.specs.declared.source_fault.SourceKind.{SourceKind}
use Rattle.bk_base.specs.declared.source_fault.SourceKind.TheVariants.{UnexpectedSymbol, WrongSectionTag, NestedTooDeeply, TooManyNodes}
use Rattle.bk_lex.specs.Symbol.{Symbol}
use Rattle.bk_tree.specs.Tree.{Declarations}
use Rattle.bk_grammar.specs.Grammar.{Section}
use Rattle.bk_tree.specs.Limits.{depth_of_declarations, Within}
use Rattle.bk_grammar.specs.Brackets.{plain}

-- these symbols are the section of this tree: brackets first, then the grammar
pub record IsSection (ds : Declarations) (ts : List Symbol) : Type 0 where
  pub plainly : List Symbol
  pub brackets : plain ts [] ≡ Some plainly
  pub section : Section ds plainly

-- these symbols begin a section with this property
abbrev pub Begins : (Declarations → Type 0) → List Symbol → Type 0
Begins P ts = (us : List Symbol) × (ds : Declarations) × IsSection ds (ts ++ us) × P ds

abbrev pub Any : Declarations → Type 0
Any ds = Unit {0}

abbrev pub Shallow : Declarations → Type 0
Shallow ds = depth_of_declarations ds ≤ TREE_DEPTH

-- the kind of the fault at the last of these symbols, after which no section within the limits goes on
abbrev pub KindAt : SourceKind → List Symbol → Type 0
KindAt WrongSectionTag ts = plain ts [] ≡ None
KindAt UnexpectedSymbol ts = (plain ts [] ≡ None → ⊥) × (Begins Any ts → ⊥)
KindAt NestedTooDeeply ts = Begins Any ts × (Begins Shallow ts → ⊥)
KindAt TooManyNodes ts = Begins Shallow ts × (Begins Within ts → ⊥)
KindAt _ ts = ⊥

-- a fault of this kind is at the symbol t of u, t and v
abbrev pub Applies : SourceKind → List Symbol → Symbol → Type 0
Applies kind u t = (Begins Within (u ++ t ∷ []) → ⊥) × KindAt kind (u ++ t ∷ [])

-- and it is the first
abbrev pub First : SourceKind → List Symbol → Symbol → Type 0
First kind u t = Begins Within u × Applies kind u t

-- the fault is at the end: the symbols begin a section, and are none
abbrev pub AppliesAtEnd : List Symbol → Type 0
AppliesAtEnd ts = (ds : Declarations) → IsSection ds ts → ⊥

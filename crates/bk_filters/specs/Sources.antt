-- What a source says: its sections one after another, each with its tree and its statements in OCODE, up to one that is refused.
use Rattle.std.specs.Prelude.{◌≡◌, ◌⊎◌, ℕ, true, List, [], ◌∷◌, ◌++◌, Some, length, map}
use Rattle.bk_base.specs.declared.source_fault.SourceFault.{SourceFault}
use Rattle.bk_lex.specs.Symbol.{Symbol}
use Rattle.bk_lex.specs.Lexing.{Section}
use Rattle.bk_lex.specs.Tokens.{IsSection}
use Rattle.bk_lex.specs.TextFault.{HasFault}
use Rattle.bk_lex.specs.Telling.{Reported}
use Rattle.bk_tree.specs.Tree.{Declarations}
use Rattle.bk_tree.specs.Limits.{Within}
use Rattle.bk_tree.specs.declared.placed.PlacedFault.{PlacedFault}
use Rattle.bk_tree.specs.Placed.{fault_on_line}
use Rattle.bk_grammar.specs.SyntaxFault as syntax
use Rattle.bk_syntax.specs.Parsing.{ReportedAt, ReportedAtEnd}
use Rattle.bk_scope.specs.Points.{first_reported}
use Rattle.bk_scope.specs.Faults.{faults}
use Rattle.bk_scope.specs.FirstFault.{breach_of}
use Rattle.bk_ocode.specs.Lists.{joined}
use Rattle.bk_ocode.specs.SectionText.{section_text}
use Rattle.bk_ocode.specs.declared.stmt.Stmt.{Stmt}
use Rattle.bk_trans.specs.Naming.{named_tree}
use Rattle.bk_trans.specs.Scheme.{scheme}

-- The symbols are a section of the grammar within the limits, with this tree, and its names have no fault.
pub record IsTree (tree : Declarations) (symbols : List Symbol) : Type 0 where
  pub section : syntax.IsSection tree symbols
  pub within : Within tree
  pub faultless : faults tree ≡ []

-- A section without symbols is skipped, and has no tree.
abbrev pub Means : List Symbol → List Declarations → Type 0
Means [] trees = trees ≡ []
Means (symbol ∷ symbols) trees = (tree : Declarations) × IsTree tree (symbol ∷ symbols) × (trees ≡ tree ∷ [])

-- The first section of a text whose first line has this number is accepted, with this tree, or none.
pub record Accepted (text : List ℕ) (line : ℕ) (section : Section) (trees : List Declarations) : Type 0 where
  pub tokens : IsSection text line section
  pub means : Means section.symbols trees

-- the statements of trees
abbrev pub stmts_of_tree : Declarations → List Stmt
stmts_of_tree tree = scheme (named_tree tree)

abbrev pub codes_of_trees : List Declarations → List (List Stmt)
codes_of_trees trees = map stmts_of_tree trees

-- The names of the section have this fault, which is their first: at a symbol, and on its line.
pub record Misnames (fault : SourceFault) (symbols : List Symbol) : Type 0 where
  pub tree : Declarations
  pub section : syntax.IsSection tree symbols
  pub within : Within tree
  pub placed : PlacedFault
  pub first : first_reported (faults tree) ≡ Some (breach_of placed)
  pub line : fault ≡ fault_on_line placed

-- The first section of a text is refused for this fault: one of its tokens; or else, one of its syntax, at a symbol or at its
-- end; or else, of its names.
abbrev pub Applies : SourceFault → List ℕ → ℕ → Type 0
Applies fault text line =
    (HasFault line fault text × Reported line fault text)
    ⊎ ((section : Section) × IsSection text line section
    × (ReportedAt fault section.symbols ⊎ ReportedAtEnd fault section.symbols section.line ⊎ Misnames fault section.symbols))

pub record Refused (fault : SourceFault) (text : List ℕ) (line : ℕ) : Type 0 where
  pub applies : Applies fault text line
  pub not_accepted : (section : Section) (trees : List Declarations) → Accepted text line section trees → ⊥

-- A section with its bytes, the `.` that ends it included, and its tree, or none.
pub record WholeSection : Type 0 where
  pub bytes : List ℕ
  pub tokens : Section
  pub trees : List Declarations

abbrev pub bytes_of : List WholeSection → List ℕ
bytes_of [] = []
bytes_of (section ∷ sections) = section.bytes ++ bytes_of sections

abbrev pub trees_of : List WholeSection → List Declarations
trees_of [] = []
trees_of (section ∷ sections) = section.trees ++ trees_of sections

abbrev pub codes_of : List WholeSection → List (List Stmt)
codes_of sections = codes_of_trees (trees_of sections)

-- the line on which it goes on after them
abbrev pub line_following : ℕ → List WholeSection → ℕ
line_following line [] = line
line_following line (section ∷ sections) = line_following section.tokens.line sections

-- They are the first sections of a text that goes on after them so, each accepted and ended by its `.`.
abbrev pub AreAccepted : ℕ → List WholeSection → List ℕ → Type 0
AreAccepted line [] rest = Unit {0}
AreAccepted line (section ∷ sections) rest =
    Accepted (section.bytes ++ (bytes_of sections ++ rest)) line section.tokens section.trees
    × (section.tokens.ended ≡ true) × (section.tokens.used ≡ length section.bytes)
    × AreAccepted section.tokens.line sections rest

-- the texts of sections in OCODE, one after another
abbrev pub texts_of : List (List Stmt) → List ℕ
texts_of codes = joined section_text codes

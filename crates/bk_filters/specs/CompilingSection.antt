-- What compiling one section comes to, by the machine of bk_lex.
use Rattle.std.specs.Prelude.{◌≡◌, ◌≢◌, ◌⊎◌, ℕ, ⊤, List, [], ◌∷◌, Option, None, Some, Ok, Err, if◌then◌else◌}
use Rattle.bk_base.specs.declared.refused.Refused.{Refused}
use Rattle.bk_base.specs.declared.refused.Refused.TheVariants as refused
use Rattle.bk_base.specs.declared.refused.Refused.TheVariants.{Fault, Device}
use Rattle.bk_base.specs.declared.source_fault.SourceFault.{SourceFault}
use Rattle.bk_lex.specs.Symbol.{Symbol}
use Rattle.bk_lex.specs.Lexing.{Section, lexed}
use Rattle.bk_tree.specs.Tree.{Declarations}
use Rattle.bk_syntax.specs.Parsing.{ReportedAt, ReportedAtEnd}
use Rattle.bk_ocode.specs.StmtRange.{AreBytes}
use Rattle.bk_ocode.specs.SectionStmts.{stmts_of}
use Rattle.bk_tree.specs.Section.{declarations_of}
use Rattle.bk_ocode.specs.declared.stmt.Stmt.{Stmt}
use Rattle.bk_filters.specs.declared.kit_fault.KitFault.{KitFault}
use Rattle.bk_filters.specs.declared.kit_fault.KitFault.TheVariants.{Source, Ocode, Intcode, TooSmall, NoStart, Read, Write, Memory}
use Rattle.bk_filters.specs.declared.section.CompiledSection.{CompiledSection}
use Rattle.bk_filters.specs.declared.section.SectionCode.{SectionCode}
use Rattle.bk_filters.specs.Sources.{IsTree, Means, Misnames, stmts_of_tree, codes_of_trees}

-- what the kit answers of a source that is refused
abbrev pub source_refused : Refused SourceFault → KitFault
source_refused (Fault fault) = Source fault
source_refused refused.Memory = Memory
source_refused Device = Read

abbrev pub codes_in : Option SectionCode → List (List Stmt)
codes_in None = []
codes_in (Some section) = stmts_of section.code ∷ []

abbrev pub trees_in : Option SectionCode → List Declarations
trees_in None = []
trees_in (Some section) = declarations_of section.tree ∷ []

-- These are the statements of a section's symbols, and this is its tree.
pub record Translates (symbols : List Symbol) (stmts : List Stmt) (kept : Declarations) : Type 0 where
  pub tree : Declarations
  pub tree_is : tree ≡ kept
  pub is : IsTree tree symbols
  pub code : stmts ≡ stmts_of_tree tree

-- They are accepted, with these statements and trees.
pub record HasCode (symbols : List Symbol) (codes : List (List Stmt)) (kept : List Declarations) : Type 0 where
  pub trees : List Declarations
  pub trees_are : trees ≡ kept
  pub means : Means symbols trees
  pub code : codes ≡ codes_of_trees trees

-- The first section of a text is accepted, with this code and this end.
pub record Compiled (c : CompiledSection) (text : List ℕ) (from : ℕ) : Type 0 where
  -- bytes are such, as their type has it
  pub bytes : AreBytes text
  pub tokens : Section
  pub lexed_as : lexed text from ≡ Ok tokens
  pub has : HasCode tokens.symbols (codes_in c.code) (trees_in c.code)
  pub next : c.next ≡ (if tokens.ended then Some tokens.line else None)

-- These symbols are no section without faults: of its syntax, or else of its names.
abbrev pub RefusesSymbols : KitFault → List Symbol → ℕ → Type 0
RefusesSymbols (Source fault) symbols end =
    (ReportedAt fault symbols ⊎ ReportedAtEnd fault symbols end ⊎ Misnames fault symbols) × ((tree : Declarations) → IsTree tree symbols → ⊥)
RefusesSymbols Memory symbols end = ⊤
RefusesSymbols (Ocode number fault) symbols end = ⊥
RefusesSymbols (Intcode number fault) symbols end = ⊥
RefusesSymbols TooSmall symbols end = ⊥
RefusesSymbols NoStart symbols end = ⊥
RefusesSymbols Read symbols end = ⊥
RefusesSymbols Write symbols end = ⊥

-- The first section of a text is refused for this fault, or memory was.
abbrev pub Refuses : KitFault → List ℕ → ℕ → Type 0
Refuses (Source fault) text from =
    (lexed text from ≡ Err fault) ⊎ ((tokens : Section) × (lexed text from ≡ Ok tokens) × (tokens.symbols ≢ []) × RefusesSymbols (Source fault) tokens.symbols tokens.line)
Refuses fault text from = RefusesSymbols fault [] from

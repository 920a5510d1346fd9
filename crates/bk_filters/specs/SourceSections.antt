-- Which sections a whole source has, and which sources are refused.
use Rattle.std.specs.Prelude.{◌≡◌, ℕ, false, List, ◌++◌}
use Rattle.bk_base.specs.declared.source_fault.SourceFault.{SourceFault}
use Rattle.bk_lex.specs.Lexing.{Section}
use Rattle.bk_tree.specs.Tree.{Declarations}
use Rattle.bk_ocode.specs.StmtRange.{AreBytes}
use Rattle.bk_gen.specs.BackEnd.{Part}
use Rattle.bk_filters.specs.SectionNumbers.{stmts_of_parts}
use Rattle.bk_filters.specs.Sources.{Accepted, Refused, WholeSection, bytes_of, trees_of, codes_of_trees, line_following, AreAccepted}

-- Accepted sections, each with its `.`, and after them an accepted one that the source's end ends; these are the trees of all.
pub record HasTrees (source : List ℕ) (trees : List Declarations) : Type 0 where
  -- a source is of bytes
  pub bytes : AreBytes source
  pub sections : List WholeSection
  pub part : List ℕ
  pub whole : source ≡ bytes_of sections ++ part
  pub accepted : AreAccepted 1 sections part
  pub last : Section
  pub last_trees : List Declarations
  pub accepts : Accepted part (line_following 1 sections) last last_trees
  pub at_end : last.ended ≡ false
  pub all : trees ≡ trees_of sections ++ last_trees

-- Accepted sections, each with its `.`, and after them one that is refused for this fault.
pub record IsRefused (source : List ℕ) (fault : SourceFault) : Type 0 where
  pub sections : List WholeSection
  pub part : List ℕ
  pub whole : source ≡ bytes_of sections ++ part
  pub accepted : AreAccepted 1 sections part
  pub refused : Refused fault part (line_following 1 sections)

-- the statements of the source's sections are those of the parts
abbrev pub HasParts : List Part → List ℕ → Type 0
HasParts parts source = (trees : List Declarations) × HasTrees source trees × (stmts_of_parts parts ≡ codes_of_trees trees)

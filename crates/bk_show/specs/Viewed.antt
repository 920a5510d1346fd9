-- What a section is shown by: what the phases of the compiler make of it, as values.
use Rattle.std.specs.Prelude.{ℕ, List}
use Rattle.bk_lex.specs.Symbol.{Symbol, symbols_of}
use Rattle.bk_tree.specs.Tree.{Declarations}
use Rattle.bk_tree.specs.Section.{declarations_of}
use Rattle.bk_ocode.specs.SectionStmts.{stmts_of}
use Rattle.bk_ocode.specs.declared.stmt.Stmt.{Stmt}
use Rattle.bk_machine.specs.SegmentItems.{items_of}
use Rattle.bk_machine.specs.declared.item.Item.{Item}
use Rattle.bk_show.specs.declared.section.Shown.{Shown}

pub record Viewed : Type 0 where
  pub symbols : List Symbol
  pub tree : Declarations
  pub code : List Stmt
  pub segment : List Item

abbrev pub viewed : Shown → Viewed
viewed section = record {
  symbols = symbols_of section.tokens.now;
  tree = declarations_of section.resolved.now.section.now;
  code = stmts_of section.code.now;
  segment = items_of section.segment.now;
}

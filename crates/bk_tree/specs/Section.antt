-- The tree of a section.
use Rattle.bk_tree.specs.declared.section.Section.{Section}
use Rattle.bk_tree.specs.Tree.{Declarations, declarations_in}

abbrev pub declarations_of : Section → Declarations
declarations_of x = declarations_in x.decls.items

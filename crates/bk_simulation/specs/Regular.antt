-- What the types and the grammar of trees give: numbers are words, an assignment and a LET have as many values as names, and
-- variables are in blocks alone.
use Rattle.std.specs.Prelude.{◌≡◌, ℕ, suc, ◌<◌, ◌^◌, length}
use Rattle.bk_tree.specs.Tree as t
use Rattle.bk_tree.specs.Tree.{Expression, Expressions, Command, Commands, Declaration, Declarations, Items, Definition, Definitions, Starts}
use Rattle.bk_tree.specs.Parts.{size}

abbrev pub starts : Starts → ℕ
starts t.no_starts = 0
starts (t.value e is) = suc (starts is)
starts (t.vector l e is) = suc (starts is)

abbrev mutual
  pub Regular : Expression → Type 0
  Regular (t.number l n) = n < 2 ^ 32
  Regular (t.parens l e) = Regular e
  Regular (t.unary l q e) = Regular e
  Regular (t.binary l q m a b) = Regular a × Regular b
  Regular (t.choice l m c a b) = Regular c × Regular a × Regular b
  Regular (t.apply l m f es) = Regular f × RegularEach es
  Regular (t.valof l c) = RegularCommand c
  Regular (t.table l es) = RegularEach es
  Regular _ = Unit {0}

  pub RegularEach : Expressions → Type 0
  RegularEach t.none = Unit {0}
  RegularEach (t.more e es) = Regular e × RegularEach es

  pub RegularCommand : Command → Type 0
  RegularCommand (t.assign l xs es) = (size xs ≡ size es) × RegularEach xs × RegularEach es
  RegularCommand (t.call l f es) = Regular f × RegularEach es
  RegularCommand (t.label l x c) = RegularCommand c
  RegularCommand (t.case_of l e c) = Regular e × RegularCommand c
  RegularCommand (t.default l c) = RegularCommand c
  RegularCommand (t.when l b e c) = Regular e × RegularCommand c
  RegularCommand (t.test l e a b) = Regular e × RegularCommand a × RegularCommand b
  RegularCommand (t.while l b e c) = Regular e × RegularCommand c
  RegularCommand (t.for_loop l x a b h c) = Regular a × Regular b × RegularEach h × RegularCommand c
  RegularCommand (t.switch l e c) = Regular e × RegularCommand c
  RegularCommand (t.result l e) = Regular e
  RegularCommand (t.block l ds cs) = RegularDeclarations ds × RegularCommands cs
  RegularCommand (t.repeat l c) = RegularCommand c
  RegularCommand (t.repeat_while l b c e) = RegularCommand c × Regular e
  RegularCommand _ = Unit {0}

  pub RegularCommands : Commands → Type 0
  RegularCommands t.no_commands = Unit {0}
  RegularCommands (t.also c cs) = RegularCommand c × RegularCommands cs

  pub RegularItems : Items → Type 0
  RegularItems t.no_items = Unit {0}
  RegularItems (t.item l x e is) = Regular e × RegularItems is

  pub RegularDeclaration : Declaration → Type 0
  RegularDeclaration (t.constants l s is) = RegularItems is
  RegularDeclaration (t.definitions l ds) = RegularDefinitions ds

  pub RegularDeclarations : Declarations → Type 0
  RegularDeclarations t.no_declarations = Unit {0}
  RegularDeclarations (t.declare d ds) = RegularDeclaration d × RegularDeclarations ds

  pub RegularDefinition : Definition → Type 0
  RegularDefinition (t.routine l x fs c) = RegularCommand c
  RegularDefinition (t.function l x fs e) = Regular e
  RegularDefinition (t.variables l xs is) = (length xs ≡ starts is) × RegularStarts is

  pub RegularDefinitions : Definitions → Type 0
  RegularDefinitions t.no_definitions = Unit {0}
  RegularDefinitions (t.define d ds) = RegularDefinition d × RegularDefinitions ds

  pub RegularStarts : Starts → Type 0
  RegularStarts t.no_starts = Unit {0}
  RegularStarts (t.value e is) = Regular e × RegularStarts is
  RegularStarts (t.vector l e is) = Regular e × RegularStarts is

-- variables are in blocks alone: outside them a LET has procedures
abbrev pub DefineNoVariables : Definitions → Type 0
DefineNoVariables t.no_definitions = Unit {0}
DefineNoVariables (t.define (t.routine l x fs c) ds) = DefineNoVariables ds
DefineNoVariables (t.define (t.function l x fs e) ds) = DefineNoVariables ds
DefineNoVariables (t.define (t.variables l xs is) ds) = ⊥

abbrev pub DeclareNoVariables : Declarations → Type 0
DeclareNoVariables t.no_declarations = Unit {0}
DeclareNoVariables (t.declare (t.constants l s is) ds) = DeclareNoVariables ds
DeclareNoVariables (t.declare (t.definitions l hs) ds) = DefineNoVariables hs × DeclareNoVariables ds

abbrev pub IsRegular : Declarations → Type 0
IsRegular ds = RegularDeclarations ds × DeclareNoVariables ds

-- What names mean at a place, the nearest declaration first; and the numbers of the objects that last for the whole run:
-- strings, tables, statics and procedures take numbers in the order of the source.
use Rattle.std.specs.Prelude.{ℕ, ◌+◌, ◌==◌, cond, Option, Some, None, List, [], ◌∷◌}
use Rattle.std.specs.Option.{option_and_then}
use Rattle.std.specs.Str.{bytes_eq}
use Rattle.bk_base.specs.Word.{truth as truth_word}
use Rattle.bk_tree.specs.declared.tree.Sort.{Sort}
use Rattle.bk_tree.specs.declared.tree.Sort.TheVariants as s
use Rattle.bk_tree.specs.Tree as t
use Rattle.bk_tree.specs.Tree.{Mention, Expression, Expressions, Command, Commands, Declaration, Declarations, Items, Definition, Definitions, Starts}
use Rattle.bk_scope.specs.Constants.{prefix_word, infix_word}
use Rattle.bk_scope.specs.Entering.{labels_of_each}

pub data Sense : Type 0 where
  -- a name of MANIFEST, and its word
  constant : (word : ℕ) → Sense
  -- a global, a static word, a formal or a variable: the cell of an object
  cell : (object offset : ℕ) → Sense
  label : Sense
  -- what has no meaning here, as a variable of another procedure
  foreign : Sense

pub record Named : Type 0 where
  pub name : List ℕ
  pub sense : Sense

pub record Environment : Type 0 where
  pub names : List Named
  -- the number of the next object that lasts, in the order of the source
  pub next : ℕ

abbrev pub sense_in : List Named → List ℕ → Option Sense
sense_in [] x = None
sense_in (n ∷ ns) x = cond (bytes_eq n.name x) (Some n.sense) (sense_in ns x)

abbrev pub sense_of : List ℕ → Environment → Option Sense
sense_of x env = sense_in env.names x

abbrev pub bind : List ℕ → Sense → Environment → Environment
bind x m env = record env { names = record { name = x; sense = m } ∷ env.names }

abbrev pub bind_each : List (List ℕ) → Sense → Environment → Environment
bind_each [] m env = env
bind_each (x ∷ xs) m env = bind_each xs m (bind x m env)

-- so many lasting objects further on
abbrev pub following : ℕ → Environment → Environment
following n env = record env { next = env.next + n }

-- The global vector is object 0; each other object has a number of its own.
abbrev pub globals_object : ℕ
globals_object = 0

-- how many lasting objects a tree has
abbrev mutual
  pub objects : Expression → ℕ
  objects (t.text l x) = 1
  objects (t.parens l e) = objects e
  objects (t.unary l q e) = objects e
  objects (t.binary l q m a b) = objects a + objects b
  objects (t.choice l m c a b) = objects c + objects a + objects b
  objects (t.apply l m f es) = objects f + objects_of_each es
  objects (t.valof l c) = objects_of_command c
  objects (t.table l es) = 1
  objects _ = 0

  pub objects_of_each : Expressions → ℕ
  objects_of_each t.none = 0
  objects_of_each (t.more e es) = objects e + objects_of_each es

  pub objects_of_command : Command → ℕ
  objects_of_command (t.assign l xs es) = objects_of_each xs + objects_of_each es
  objects_of_command (t.call l f es) = objects f + objects_of_each es
  objects_of_command (t.label l x c) = objects_of_command c
  objects_of_command (t.case_of l e c) = objects_of_command c
  objects_of_command (t.default l c) = objects_of_command c
  objects_of_command (t.when l b e c) = objects e + objects_of_command c
  objects_of_command (t.test l e a b) = objects e + objects_of_command a + objects_of_command b
  objects_of_command (t.while l b e c) = objects e + objects_of_command c
  objects_of_command (t.for_loop l x a b h c) = objects a + objects b + objects_of_command c
  objects_of_command (t.switch l e c) = objects e + objects_of_command c
  objects_of_command (t.result l e) = objects e
  objects_of_command (t.block l ds cs) = objects_of_declarations ds + objects_of_commands cs
  objects_of_command (t.repeat l c) = objects_of_command c
  objects_of_command (t.repeat_while l b c e) = objects_of_command c + objects e
  objects_of_command _ = 0

  pub objects_of_commands : Commands → ℕ
  objects_of_commands t.no_commands = 0
  objects_of_commands (t.also c cs) = objects_of_command c + objects_of_commands cs

  pub objects_of_declaration : Declaration → ℕ
  objects_of_declaration (t.constants l s.Static is) = count is
  objects_of_declaration (t.constants l _ is) = 0
  objects_of_declaration (t.definitions l ds) = objects_of_definitions ds

  pub objects_of_declarations : Declarations → ℕ
  objects_of_declarations t.no_declarations = 0
  objects_of_declarations (t.declare d ds) = objects_of_declaration d + objects_of_declarations ds

  pub count : Items → ℕ
  count t.no_items = 0
  count (t.item l x e is) = 1 + count is

  pub objects_of_definition : Definition → ℕ
  objects_of_definition (t.routine l x fs c) = 1 + objects_of_command c
  objects_of_definition (t.function l x fs e) = 1 + objects e
  objects_of_definition (t.variables l xs is) = objects_of_starts is

  pub objects_of_definitions : Definitions → ℕ
  objects_of_definitions t.no_definitions = 0
  objects_of_definitions (t.define d ds) = objects_of_definition d + objects_of_definitions ds

  pub objects_of_starts : Starts → ℕ
  objects_of_starts t.no_starts = 0
  objects_of_starts (t.value e is) = objects e + objects_of_starts is
  objects_of_starts (t.vector l e is) = objects_of_starts is

-- the environment after a part that comes before, in the order of the source
abbrev pub past : Expression → Environment → Environment
past e env = following (objects e) env

abbrev pub past_each : Expressions → Environment → Environment
past_each es env = following (objects_of_each es) env

abbrev pub past_command : Command → Environment → Environment
past_command c env = following (objects_of_command c) env

abbrev pub past_definition : Definition → Environment → Environment
past_definition d env = following (objects_of_definition d) env

-- the words of constants: numbers, TRUE, FALSE, names of MANIFEST and operators on them
abbrev pub word_named : Option Sense → Option ℕ
word_named (Some (constant w)) = Some w
word_named _ = None

abbrev pub constant_in : Environment → Expression → Option ℕ
constant_in env (t.name l x) = word_named (sense_of x env)
constant_in env (t.number l n) = Some n
constant_in env (t.truth l b) = Some (truth_word b)
constant_in env (t.parens l e) = constant_in env e
constant_in env (t.unary l q e) = option_and_then (prefix_word q) (constant_in env e)
constant_in env (t.binary l q m a b) = option_and_then (λ x. option_and_then (infix_word q x) (constant_in env b)) (constant_in env a)
constant_in env _ = None

-- In the commands of a scope, and there alone, a label hides the names declared at that scope's head.
abbrev pub labelled : Commands → Environment → Environment
labelled cs env = bind_each (labels_of_each cs) label env

-- A procedure whose name means a global goes on to mean it; any other name is a static word, the object of its number.
abbrev pub global_named : Option Sense → Option ℕ
global_named (Some (cell a i)) = cond (a == globals_object) (Some i) None
global_named _ = None

abbrev pub bind_procedure_as : Option ℕ → List ℕ → Environment → Environment
bind_procedure_as (Some g) x env = env
bind_procedure_as None x env = bind x (cell env.next 0) env

abbrev pub bind_procedure : Definition → Environment → Environment
bind_procedure (t.routine l x fs c) env = bind_procedure_as (global_named (sense_of x env)) x env
bind_procedure (t.function l x fs e) env = bind_procedure_as (global_named (sense_of x env)) x env
bind_procedure (t.variables l xs is) env = env

-- all procedures of a LET
abbrev pub bind_procedures : Definitions → Environment → Environment
bind_procedures t.no_definitions env = env
bind_procedures (t.define d ds) env = bind_procedures ds (past_definition d (bind_procedure d env))

-- what the definitions of a LET see: its procedures, and the outer names
abbrev pub within_let : Definitions → Environment → Environment
within_let ds env = record { names = (bind_procedures ds env).names; next = env.next }

-- MANIFEST, STATIC and GLOBAL: an item of MANIFEST is in scope in the later ones
abbrev pub sense_of_constant : Option ℕ → Sense
sense_of_constant None = foreign
sense_of_constant (Some w) = constant w

abbrev pub sense_of_global : Option ℕ → Sense
sense_of_global None = foreign
sense_of_global (Some g) = cell globals_object g

abbrev pub manifests : Items → Environment → Environment
manifests t.no_items env = env
manifests (t.item l x e is) env = manifests is (bind x (sense_of_constant (constant_in env e)) env)

abbrev pub statics : Items → Environment → Environment
statics t.no_items env = env
statics (t.item l x e is) env = statics is (following 1 (bind x (cell env.next 0) env))

abbrev pub globals : Environment → Items → Environment → Environment
globals outer t.no_items env = env
globals outer (t.item l x e is) env = globals outer is (bind x (sense_of_global (constant_in outer e)) env)

abbrev pub constants_declared : Sort → Items → Environment → Environment
constants_declared s.Manifest is env = manifests is env
constants_declared s.Static is env = statics is env
constants_declared s.Global is env = globals env is env

-- the letters of names
abbrev pub letters : List Mention → List (List ℕ)
letters [] = []
letters (x ∷ xs) = x.letters ∷ letters xs

-- What lasts for the whole run: the global vector, and each string, table, static word and procedure of the sections, in the
-- order of the source. The nth of them, from 0, is object n, and procedure n if it is one.
use Rattle.std.specs.Prelude.{ℕ, suc, ◌+◌, Option, Some, None, unwrap_or, List, [], ◌∷◌, ◌++◌, map, replicate, slice_get, slice_set}
use Rattle.bk_base.specs.Strings.{string_words, first_bytes}
use Rattle.bk_tree.specs.declared.tree.Sort.{Sort}
use Rattle.bk_tree.specs.declared.tree.Sort.TheVariants as s
use Rattle.bk_tree.specs.Tree as t
use Rattle.bk_tree.specs.Tree.{Mention, Expression, Expressions, Command, Commands, Declaration, Declarations, Items, Definition, Definitions, Starts}
use Rattle.bk_meaning.specs.Values.{stop, rdch, wrch, newline, writes, writen, writed, getbyte, putbyte, writef, number, procedure, routine, unset, Cell, holds}
use Rattle.bk_meaning.specs.Memory.{Memory, Object, living}
use Rattle.bk_meaning.specs.Environment.{Environment, foreign, sense_of, bind, bind_each, following, past, past_each, past_command, past_definition, constant_in, labelled, global_named, within_let, constants_declared, letters, objects_of_definitions, objects_of_declarations}

-- with BE a command, with `=` an expression
pub data Body : Type 0 where
  command : Command → Body
  expression : Expression → Body

pub record Procedure : Type 0 where
  pub formals : List (List ℕ)
  pub body : Body
  -- what the names mean in it, other than the formals
  pub env : Environment
  -- the global that it sets
  pub global : Option ℕ

pub data Lasting : Type 0 where
  global_vector : Lasting
  words : (ws : List ℕ) → Lasting
  code : (p : Procedure) → Lasting

-- the words of a string of the source: byte 0 is its length, and the last word is filled with zeros
abbrev pub text_words : List ℕ → List ℕ
text_words bytes = string_words (first_bytes bytes)

abbrev pub constant_words : Environment → Expressions → List ℕ
constant_words env t.none = []
constant_words env (t.more e es) = unwrap_or (constant_in env e) 0 ∷ constant_words env es

abbrev pub static_words : Environment → Items → List Lasting
static_words env t.no_items = []
static_words env (t.item l x e is) = words (unwrap_or (constant_in env e) 0 ∷ []) ∷ static_words env is

abbrev pub of_items : Environment → Sort → Items → List Lasting
of_items env s.Static is = static_words env is
of_items env _ is = []

-- The environment after a declaration, as far as it is known before the run: variables are foreign to the procedures inside.
abbrev pub variables_hidden : Definitions → Environment → Environment
variables_hidden t.no_definitions env = env
variables_hidden (t.define (t.variables l xs is) ds) env = variables_hidden ds (bind_each (letters xs) foreign env)
variables_hidden (t.define d ds) env = variables_hidden ds env

abbrev pub declared : Declaration → Environment → Environment
declared (t.constants l s is) env = constants_declared s is env
declared (t.definitions l ds) env = variables_hidden ds (record { names = (within_let ds env).names; next = env.next + objects_of_definitions ds })

abbrev pub all_declared : Declarations → Environment → Environment
all_declared t.no_declarations env = env
all_declared (t.declare d ds) env = all_declared ds (declared d env)

-- A procedure that is defined in this environment, and what its body sees before the run.
abbrev pub procedure_here : List ℕ → List Mention → Body → Environment → Lasting
procedure_here x fs body env = code (record { formals = letters fs; body = body; env = following 1 env; global = global_named (sense_of x env) })

abbrev pub inside : List Mention → Environment → Environment
inside fs env = bind_each (letters fs) foreign (following 1 env)

-- the environment in a command that is a scope of its own, and in the body of a FOR with this variable
abbrev pub in_scope : Command → Environment → Environment
in_scope c env = labelled (t.also c t.no_commands) env

abbrev pub in_for : Mention → Command → Environment → Environment
in_for x c env = in_scope c (bind x.letters foreign env)

abbrev mutual
  pub of_expression : Environment → Expression → List Lasting
  of_expression env (t.text l x) = words (text_words x) ∷ []
  of_expression env (t.parens l e) = of_expression env e
  of_expression env (t.unary l q e) = of_expression env e
  of_expression env (t.binary l q m a b) = of_expression env a ++ of_expression (past a env) b
  of_expression env (t.choice l m c a b) = of_expression env c ++ of_expression (past c env) a ++ of_expression (past a (past c env)) b
  of_expression env (t.apply l m f es) = of_expression env f ++ of_each (past f env) es
  of_expression env (t.valof l c) = of_command (in_scope c env) c
  of_expression env (t.table l es) = words (constant_words env es) ∷ []
  of_expression env _ = []

  pub of_each : Environment → Expressions → List Lasting
  of_each env t.none = []
  of_each env (t.more e es) = of_expression env e ++ of_each (past e env) es

  pub of_command : Environment → Command → List Lasting
  of_command env (t.assign l xs es) = of_each env xs ++ of_each (past_each xs env) es
  of_command env (t.call l f es) = of_expression env f ++ of_each (past f env) es
  of_command env (t.label l x c) = of_command env c
  of_command env (t.case_of l e c) = of_command env c
  of_command env (t.default l c) = of_command env c
  of_command env (t.when l b e c) = of_expression env e ++ of_command (past e env) c
  of_command env (t.test l e a b) = of_expression env e ++ of_command (past e env) a ++ of_command (past_command a (past e env)) b
  of_command env (t.while l b e c) = of_expression env e ++ of_command (past e env) c
  of_command env (t.for_loop l x a b h c) =
      of_expression env a ++ of_expression (past a env) b ++ of_command (in_for x c (past b (past a env))) c
  of_command env (t.switch l e c) = of_expression env e ++ of_command (past e env) c
  of_command env (t.result l e) = of_expression env e
  of_command env (t.block l t.no_declarations cs) = of_commands env cs
  of_command env (t.block l ds cs) = of_declarations env ds ++ of_commands (labelled cs (all_declared ds env)) cs
  of_command env (t.repeat l c) = of_command env c
  of_command env (t.repeat_while l b c e) = of_command env c ++ of_expression (past_command c env) e
  of_command env _ = []

  pub of_commands : Environment → Commands → List Lasting
  of_commands env t.no_commands = []
  of_commands env (t.also c cs) = of_command env c ++ of_commands (past_command c env) cs

  pub of_declaration : Environment → Declaration → List Lasting
  of_declaration env (t.constants l s is) = of_items env s is
  of_declaration env (t.definitions l ds) = of_definitions (within_let ds env) ds

  pub of_declarations : Environment → Declarations → List Lasting
  of_declarations env t.no_declarations = []
  of_declarations env (t.declare d ds) = of_declaration env d ++ of_declarations (declared d env) ds

  -- a procedure, and what its body has
  pub of_definition : Environment → Definition → List Lasting
  of_definition env (t.routine l x fs c) = procedure_here x fs (command c) env ∷ of_command (in_scope c (inside fs env)) c
  of_definition env (t.function l x fs e) = procedure_here x fs (expression e) env ∷ of_expression (inside fs env) e
  of_definition env (t.variables l xs is) = of_starts env is

  pub of_definitions : Environment → Definitions → List Lasting
  of_definitions env t.no_definitions = []
  of_definitions env (t.define d ds) = of_definition env d ++ of_definitions (past_definition d env) ds

  pub of_starts : Environment → Starts → List Lasting
  of_starts env t.no_starts = []
  of_starts env (t.value e is) = of_expression env e ++ of_starts (past e env) is
  of_starts env (t.vector l e is) = of_starts env is

-- A section begins with no name declared. What a program has that lasts:
abbrev pub Program : Type 0
Program = List Lasting

abbrev pub of_sections : ℕ → List Declarations → List Lasting
of_sections n [] = []
of_sections n (ds ∷ rest) = of_declarations (record { names = []; next = n }) ds ++ of_sections (n + objects_of_declarations ds) rest

abbrev pub program_of : List Declarations → Program
program_of sections = global_vector ∷ of_sections 1 sections

-- The globals when the run begins: the library, and then each procedure sets its own, in order; the others are unset.
abbrev pub library_cells : List Cell
library_cells =
    map (λ v. holds v) (unset ∷ unset ∷ routine stop ∷ routine rdch ∷ routine wrch ∷ routine newline ∷ routine writes ∷ routine writen
    ∷ routine writed ∷ routine getbyte ∷ routine putbyte ∷ routine writef ∷ [])

abbrev pub set_global : Option ℕ → ℕ → List Cell → List Cell
set_global None n cells = cells
set_global (Some g) n cells = slice_set cells g (holds (procedure n))

abbrev pub procedures_set : ℕ → Program → List Cell → List Cell
procedures_set n [] cells = cells
procedures_set n (code p ∷ rest) cells = procedures_set (suc n) rest (set_global p.global n cells)
procedures_set n (_ ∷ rest) cells = procedures_set (suc n) rest cells

abbrev pub global_cells : Program → List Cell
global_cells program = procedures_set 0 program (library_cells ++ replicate 988 (holds unset))

-- the memory when the run begins
abbrev pub entry_cells : Option ℕ → ℕ → List Cell
entry_cells None n = holds (procedure n) ∷ []
entry_cells (Some g) n = []

abbrev pub object_of : Program → ℕ → Lasting → Object
object_of program n global_vector = living (global_cells program)
object_of program n (words ws) = living (map (λ w. holds (number w)) ws)
object_of program n (code p) = living (entry_cells p.global n)

abbrev pub objects_from : Program → ℕ → List Lasting → Memory
objects_from program n [] = []
objects_from program n (x ∷ xs) = object_of program n x ∷ objects_from program (suc n) xs

abbrev pub first_memory : Program → Memory
first_memory program = objects_from program 0 program

-- procedure n, if it is one
abbrev pub procedure_in : Option Lasting → Option Procedure
procedure_in (Some (code p)) = Some p
procedure_in _ = None

abbrev pub procedure_of : Program → ℕ → Option Procedure
procedure_of program n = procedure_in (slice_get program n)

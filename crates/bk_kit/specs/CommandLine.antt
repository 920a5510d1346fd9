-- The command line: its subcommands with their options, and what an order reads of the words.
use Rattle.std.specs.Prelude.{◌≡◌, ◌≢◌, ◌⊎◌, ℕ, ◌≤◌, ⊤, pos, Bool, true, false, List, [], ◌∷◌, Option, None, Some, option_map, codes, string_bytes}
use Rattle.std.specs.Str.Parse.{IsNumeral, digits_value, without_leading_plus}
use Rattle.clap.specs.Faults.{fault_of}
use Rattle.clap.specs.Words.{App, Row, Rule, Text, IsAmong, new_app, new_rule, one_of, first_of, subcommand_of, takes, with_rule, with_subcommand}
use Rattle.clap.specs.declared.error.kind.ErrorKind.{ErrorKind}
use Rattle.clap.specs.declared.error.kind.ErrorKind.TheVariants as kind
use Rattle.clap.specs.declared.builder.ArgAction.TheVariants.{Set, SetTrue}
use Rattle.clap.specs.declared.builder.ValueParser.TheVariants as vp
use Rattle.bk_base.specs.Bounds.{Bounds}
use Rattle.bk_base.specs.declared.limit.TheConstants.{STEPS_MOST, STORE_LEAST, STORE_MOST}
use Rattle.bk_kit.specs.declared.command_line.LineFault.{LineFault}
use Rattle.bk_kit.specs.declared.command_line.LineFault.TheVariants.{Help, Bad, Memory}
use Rattle.bk_kit.specs.declared.orders.Order.{Order}
use Rattle.bk_kit.specs.declared.orders.Order.TheVariants.{Compile, Generate, Run, TraceSource, Check, Show, ShowInput, Interpret, Trace, Sizes}
use Rattle.bk_show.specs.declared.part.Part.{Part}
use Rattle.bk_show.specs.declared.steps.Extent.{Extent}
use Rattle.bk_show.specs.declared.part.Part.TheVariants as part

-- `-s WORDS`, from 4096 to 4194304, 262144 unless it is given
abbrev pub store_rule : Rule
store_rule = record (new_rule (codes "words")) {
  short = Some 115;
  value_names = 1;
  parser = Some (vp.Signed (pos 4096) (pos 4194304));
  defaults = codes "262144" ∷ [];
}

-- `-t STEPS`, from 1 to 10 ^ 12, 10 ^ 9 unless it is given
abbrev pub steps_rule : Rule
steps_rule = record (new_rule (codes "steps")) {
  short = Some 116;
  value_names = 1;
  parser = Some (vp.Unsigned 1 1000000000000);
  defaults = codes "1000000000" ∷ [];
}

-- `-t TURNS`, from 1 to 10 ^ 12, 10 ^ 8 unless it is given
abbrev pub turns_rule : Rule
turns_rule = record (new_rule (codes "turns")) {
  short = Some 116;
  value_names = 1;
  parser = Some (vp.Unsigned 1 1000000000000);
  defaults = codes "100000000" ∷ [];
}

-- `--sizes`
abbrev pub sizes_rule : Rule
sizes_rule = record (new_rule (codes "sizes")) { long = Some (codes "sizes"); action = Some SetTrue }

-- `--trace`
abbrev pub trace_rule : Rule
trace_rule = record (new_rule (codes "trace")) { long = Some (codes "trace"); action = Some SetTrue }

-- `--from N`, from 1 to 10 ^ 12, 1 unless it is given
abbrev pub from_rule : Rule
from_rule = record (new_rule (codes "from")) {
  long = Some (codes "from");
  value_names = 1;
  parser = Some (vp.Unsigned 1 1000000000000);
  defaults = codes "1" ∷ [];
}

-- `--to N`, from 1 to 10 ^ 12, which it is unless it is given
abbrev pub to_rule : Rule
to_rule = record (new_rule (codes "to")) {
  long = Some (codes "to");
  value_names = 1;
  parser = Some (vp.Unsigned 1 1000000000000);
  defaults = codes "1000000000000" ∷ [];
}

-- `--only NAME`
abbrev pub only_name_rule : Rule
only_name_rule = record (new_rule (codes "only")) { long = Some (codes "only"); value_names = 1 }

-- `--ocode OCODE`
abbrev pub ocode_rule : Rule
ocode_rule = record (new_rule (codes "ocode")) { long = Some (codes "ocode"); value_names = 1 }

-- `--only PART`, all unless it is given
abbrev pub only_rule : Rule
only_rule = record (new_rule (codes "only")) { long = Some (codes "only"); value_names = 1; defaults = codes "all" ∷ [] }

-- FILE
abbrev pub file_rule : Rule
file_rule = record (new_rule (codes "file")) { required = true; value_names = 1; action = Some Set }

-- `compile` and `generate`
abbrev pub compile_command : App
compile_command = new_app (codes "compile")

abbrev pub generate_command : App
generate_command = new_app (codes "generate")

-- `run [-s WORDS] [-t STEPS] [--trace] [--from N] [--to N] [--only NAME] FILE`
abbrev pub run_command : App
run_command =
    with_rule (with_rule (with_rule (with_rule (with_rule (with_rule (with_rule (new_app (codes "run")) store_rule) steps_rule) trace_rule) from_rule) to_rule) only_name_rule)
    file_rule

-- `check [-t TURNS] FILE`
abbrev pub check_command : App
check_command = with_rule (with_rule (new_app (codes "check")) turns_rule) file_rule

-- `show [--only PART] FILE`
abbrev pub show_command : App
show_command = with_rule (with_rule (new_app (codes "show")) only_rule) file_rule

-- `interpret [-s WORDS] [-t STEPS] [--sizes] [--trace] [--ocode OCODE] FILE`
abbrev pub interpret_command : App
interpret_command =
    with_rule (with_rule (with_rule (with_rule (with_rule (with_rule (new_app (codes "interpret")) store_rule) steps_rule) sizes_rule) trace_rule) ocode_rule) file_rule

-- `Command::version`
abbrev pub with_version : App → App
with_version app = record app { top = record app.top { has_version = true } }

-- `bcpl`, which reports its version
abbrev pub kit_command : App
kit_command =
    with_version (with_subcommand (with_subcommand (with_subcommand (with_subcommand (with_subcommand (with_subcommand (new_app (codes "bcpl"))
    compile_command.top) generate_command.top) run_command.top) check_command.top) show_command.top) interpret_command.top)

-- the name of FILE; an order that reads the input in its place has none
abbrev pub file_name : Order → Option (List ℕ)
file_name Compile = None
file_name Generate = None
file_name (Run limits name) = Some (string_bytes name)
file_name (TraceSource limits extent name) = Some (string_bytes name)
file_name (Check turns name) = Some (string_bytes name)
file_name (Show part name) = Some (string_bytes name)
file_name (ShowInput part) = None
file_name (Interpret limits name) = Some (string_bytes name)
file_name (Trace limits name ocode) = Some (string_bytes name)
file_name (Sizes words name) = Some (string_bytes name)

-- the name that `--ocode` gives
abbrev pub ocode_name : Order → Option (List ℕ)
ocode_name (Trace limits name ocode) = option_map string_bytes ocode
ocode_name order = None

-- the text of a truth value
abbrev pub truth_text : Bool → Text
truth_text true = codes "true"
truth_text false = codes "false"

-- the name of a part
abbrev pub part_text : Part → Text
part_text part.All = codes "all"
part_text part.Tokens = codes "tokens"
part_text part.Tree = codes "tree"
part_text part.Names = codes "names"
part_text part.Ocode = codes "ocode"
part_text part.Intcode = codes "intcode"
part_text part.Map = codes "map"
part_text part.Dot = codes "dot"

-- the number that a text spells in decimal digits
abbrev pub ReadsNumber : Option Text → ℕ → Type 0
ReadsNumber None number = ⊥
ReadsNumber (Some text) number =
    IsNumeral 10 (without_leading_plus text) × (number ≡ digits_value 10 (without_leading_plus text))

abbrev pub ReadsLimits : List Row → Bounds → Type 0
ReadsLimits rows limits = ReadsNumber (one_of (codes "words") rows) limits.words × ReadsNumber (one_of (codes "steps") rows) limits.steps

-- the words of the store alone; `-t` gives a number of steps too
abbrev pub ReadsWords : List Row → ℕ → Type 0
ReadsWords rows words = (steps : ℕ) × (1 ≤ steps) × (steps ≤ STEPS_MOST) × ReadsLimits rows (record { steps = steps; words = words })

-- the steps that are written
abbrev pub ReadsExtent : List Row → Extent → Type 0
ReadsExtent rows extent =
    ReadsNumber (one_of (codes "from") rows) extent.from × ReadsNumber (one_of (codes "to") rows) extent.to
    × (first_of (codes "only") rows ≡ option_map string_bytes extent.only)

-- An order is read from the subcommand that the words name, and the values that they give it.
abbrev pub Reads : Option (Text × List Row) → Order → Type 0
Reads None order = ⊥
Reads (Some found) Compile = found.0 ≡ codes "compile"
Reads (Some found) Generate = found.0 ≡ codes "generate"
Reads (Some found) (Run limits file) =
    (found.0 ≡ codes "run") × (one_of (codes "trace") found.1 ≡ Some (truth_text false)) × ReadsLimits found.1 limits
    × (first_of (codes "file") found.1 ≡ Some (string_bytes file))
Reads (Some found) (TraceSource limits extent file) =
    (found.0 ≡ codes "run") × (one_of (codes "trace") found.1 ≡ Some (truth_text true)) × ReadsLimits found.1 limits
    × (first_of (codes "file") found.1 ≡ Some (string_bytes file)) × ReadsExtent found.1 extent
Reads (Some found) (Check turns file) =
    (found.0 ≡ codes "check") × ReadsNumber (one_of (codes "turns") found.1) turns × (first_of (codes "file") found.1 ≡ Some (string_bytes file))
Reads (Some found) (Show part file) =
    (found.0 ≡ codes "show") × (first_of (codes "only") found.1 ≡ Some (part_text part))
    × (first_of (codes "file") found.1 ≡ Some (string_bytes file)) × (string_bytes file ≢ codes "-")
Reads (Some found) (ShowInput part) =
    (found.0 ≡ codes "show") × (first_of (codes "only") found.1 ≡ Some (part_text part)) × (first_of (codes "file") found.1 ≡ Some (codes "-"))
Reads (Some found) (Interpret limits file) =
    (found.0 ≡ codes "interpret") × (one_of (codes "sizes") found.1 ≡ Some (truth_text false)) × (one_of (codes "trace") found.1 ≡ Some (truth_text false))
    × ReadsLimits found.1 limits × (first_of (codes "file") found.1 ≡ Some (string_bytes file)) × (first_of (codes "ocode") found.1 ≡ None)
Reads (Some found) (Trace limits file ocode) =
    (found.0 ≡ codes "interpret") × (one_of (codes "sizes") found.1 ≡ Some (truth_text false)) × (one_of (codes "trace") found.1 ≡ Some (truth_text true))
    × ReadsLimits found.1 limits × (first_of (codes "file") found.1 ≡ Some (string_bytes file)) × (first_of (codes "ocode") found.1 ≡ option_map string_bytes ocode)
Reads (Some found) (Sizes words file) =
    (found.0 ≡ codes "interpret") × (one_of (codes "sizes") found.1 ≡ Some (truth_text true))
    × ReadsWords found.1 words × (first_of (codes "file") found.1 ≡ Some (string_bytes file))

-- ---- why words give no order

abbrev pub AreLimits : Bounds → Type 0
AreLimits limits = (1 ≤ limits.steps) × (limits.steps ≤ STEPS_MOST) × (STORE_LEAST ≤ limits.words) × (limits.words ≤ STORE_MOST)

abbrev pub HasLimits : Order → Type 0
HasLimits Compile = ⊤
HasLimits Generate = ⊤
HasLimits (Run limits file) = AreLimits limits
HasLimits (TraceSource limits extent file) =
    AreLimits limits × (1 ≤ extent.from) × (extent.from ≤ STEPS_MOST) × (1 ≤ extent.to) × (extent.to ≤ STEPS_MOST)
HasLimits (Check turns file) = (1 ≤ turns) × (turns ≤ STEPS_MOST)
HasLimits (Show part file) = ⊤
HasLimits (ShowInput part) = ⊤
HasLimits (Interpret limits file) = AreLimits limits
HasLimits (Trace limits file ocode) = AreLimits limits
HasLimits (Sizes words file) = (STORE_LEAST ≤ words) × (words ≤ STORE_MOST)

-- the subcommand and its values are those of an order
abbrev pub IsOrder : Option (Text × List Row) → Type 0
IsOrder found = (order : Order) × HasLimits order × Reads found order

-- a fault of the values
abbrev pub RefusesValues : Option (Text × List Row) → LineFault → Type 0
RefusesValues found (Help help) = ⊥
RefusesValues found Bad = IsOrder found → ⊥
RefusesValues found Memory = ⊤

-- a fault for an error of clap, by its kind
abbrev pub IsHelp : ErrorKind → Type 0
IsHelp k = (k ≡ kind.DisplayHelp) ⊎ (k ≡ kind.DisplayVersion)

abbrev pub IsFaultOf : ErrorKind → LineFault → Type 0
IsFaultOf k (Help help) = IsHelp k
IsFaultOf k Bad = (k ≢ kind.OutOfMemory) × (IsHelp k → ⊥)
IsFaultOf k Memory = k ≡ kind.OutOfMemory

-- The command does not take the words, for a fault of such a kind.
abbrev pub FailsAs : List Text → (ErrorKind → Type 0) → Type 0
FailsAs words Is = (takes kit_command words ≡ true → ⊥) × ((k : ErrorKind) × IsAmong k (fault_of kit_command words) × Is k)

-- `Help` comes where the command does not take the words but asks for help or the version; `Bad` where it does not take them for another
-- fault, or where it finds no fault and they say no order.
abbrev pub Refuses : List Text → LineFault → Type 0
Refuses words (Help help) = FailsAs words IsHelp
Refuses words Bad =
    FailsAs words (λ k. IsHelp k → ⊥) ⊎ ((fault_of kit_command words ≡ []) × (IsOrder (subcommand_of kit_command words) → ⊥))
Refuses words Memory = ⊤

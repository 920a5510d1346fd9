-- Trees of worked programs, all on line 1, the header in front of them, and the form of their rows.
use Rattle.bk_meaning.proofs.Terms.{ℕ, ◌-◌, ◌≡◌, Bool, List, [], ◌∷◌, map, Operator, Operator as o, Prefix, Prefix as q, Simple, Sort, Sort as s, Mention, Expression, Expressions, Command, Commands, Declaration, Declarations, Items, Definition, Definitions, Starts, Run, meaning}
use Rattle.bk_tree.specs.Tree as t
use Rattle.bk_meaning.proofs.Rows.Names as n

-- lists of nodes
abbrev pub expressions : List Expression → Expressions
expressions [] = t.none
expressions (e ∷ es) = t.more e (expressions es)

abbrev pub command_row : List Command → Commands
command_row [] = t.no_commands
command_row (c ∷ cs) = t.also c (command_row cs)

abbrev pub declarations : List Declaration → Declarations
declarations [] = t.no_declarations
declarations (d ∷ ds) = t.declare d (declarations ds)

abbrev pub definitions : List Definition → Definitions
definitions [] = t.no_definitions
definitions (d ∷ ds) = t.define d (definitions ds)

abbrev pub items : List (Items → Items) → Items
items [] = t.no_items
items (i ∷ is) = i (items is)

abbrev pub starts : List (Starts → Starts) → Starts
starts [] = t.no_starts
starts (i ∷ is) = i (starts is)

abbrev pub mentions : List (List ℕ) → List Mention
mentions [] = []
mentions (x ∷ xs) = record { at = 1; letters = x } ∷ mentions xs

-- expressions
abbrev pub named : List ℕ → Expression
named x = t.name 1 x

abbrev pub number : ℕ → Expression
number k = t.number 1 k

abbrev pub text : List ℕ → Expression
text bytes = t.text 1 bytes

abbrev pub truth : Bool → Expression
truth b = t.truth 1 b

abbrev pub query : Expression
query = t.query 1

abbrev pub parens : Expression → Expression
parens e = t.parens 1 e

abbrev pub unary : Prefix → Expression → Expression
unary p e = t.unary 1 p e

abbrev pub binary : Operator → Expression → Expression → Expression
binary p a b = t.binary 1 p 1 a b

abbrev pub choice : Expression → Expression → Expression → Expression
choice c a b = t.choice 1 1 c a b

abbrev pub apply : Expression → List Expression → Expression
apply f es = t.apply 1 1 f (expressions es)

abbrev pub valof : Command → Expression
valof c = t.valof 1 c

abbrev pub table : List Expression → Expression
table es = t.table 1 (expressions es)

-- commands
abbrev pub assign : List Expression → List Expression → Command
assign xs es = t.assign 1 (expressions xs) (expressions es)

abbrev pub call : Expression → List Expression → Command
call f es = t.call 1 f (expressions es)

abbrev pub goto : List ℕ → Command
goto x = t.goto 1 (record { at = 1; letters = x })

abbrev pub label : List ℕ → Command → Command
label x c = t.label 1 x c

abbrev pub case : Expression → Command → Command
case e c = t.case_of 1 e c

abbrev pub default : Command → Command
default c = t.default 1 c

abbrev pub when : Bool → Expression → Command → Command
when b e c = t.when 1 b e c

abbrev pub test : Expression → Command → Command → Command
test e a b = t.test 1 e a b

abbrev pub while : Bool → Expression → Command → Command
while b e c = t.while 1 b e c

abbrev pub for_loop : List ℕ → Expression → Expression → List Expression → Command → Command
for_loop x a b step c = t.for_loop 1 (record { at = 1; letters = x }) a b (expressions step) c

abbrev pub switch : Expression → Command → Command
switch e c = t.switch 1 e c

abbrev pub result : Expression → Command
result e = t.result 1 e

abbrev pub simple : Simple → Command
simple w = t.simple 1 w

abbrev pub compound : List Command → Command
compound cs = t.block 1 t.no_declarations (command_row cs)

abbrev pub block : List Declaration → List Command → Command
block ds cs = t.block 1 (declarations ds) (command_row cs)

abbrev pub repeat : Command → Command
repeat c = t.repeat 1 c

abbrev pub repeat_while : Bool → Command → Expression → Command
repeat_while b c e = t.repeat_while 1 b c e

-- declarations
abbrev pub item : List ℕ → Expression → Items → Items
item x e is = t.item 1 x e is

abbrev pub constants : Sort → List (Items → Items) → Declaration
constants sort is = t.constants 1 sort (items is)

abbrev pub lets : List Definition → Declaration
lets ds = t.definitions 1 (definitions ds)

abbrev pub routine : List ℕ → List (List ℕ) → Command → Definition
routine x xs c = t.routine 1 x (mentions xs) c

abbrev pub function : List ℕ → List (List ℕ) → Expression → Definition
function x xs e = t.function 1 x (mentions xs) e

abbrev pub value : Expression → Starts → Starts
value e is = t.value e is

abbrev pub vector : Expression → Starts → Starts
vector e is = t.vector 1 e is

abbrev pub variables : List (List ℕ) → List (Starts → Starts) → Definition
variables xs is = t.variables 1 (mentions xs) (starts is)

-- a section, behind GET "LIBHDR2" and alone
abbrev pub header : Declarations → Declarations
header ds =
    t.declare (constants s.Global (item n.start (number 1) ∷ item n.stop (number 2) ∷ item n.rdch (number 3) ∷ item n.wrch (number 4)
    ∷ item n.newline (number 5) ∷ item n.writes (number 6) ∷ item n.writen (number 7) ∷ item n.writed (number 8)
    ∷ item n.getbyte (number 9) ∷ item n.putbyte (number 10) ∷ item n.writef (number 11) ∷ []))
    (t.declare (constants s.Manifest (item n.endstreamch (unary q.Minus (number 1)) ∷ item n.bytesperword (number 4) ∷ [])) ds)

abbrev pub with_header : List Declaration → Declarations
with_header ds = header (declarations ds)

abbrev pub without_header : List Declaration → Declarations
without_header ds = declarations ds

-- frequent nodes: `@E`, `!E`, `E!E`, `E + E`, `X := E`, `E := E`, calls of the library, LET with one definition
abbrev pub address_of : Expression → Expression
address_of e = unary q.Address e

abbrev pub contents : Expression → Expression
contents e = unary q.Contents e

abbrev pub element : Expression → Expression → Expression
element a b = binary o.Subscript a b

abbrev pub plus : Expression → Expression → Expression
plus a b = binary o.Add a b

abbrev pub store : Expression → Expression → Command
store a e = assign (a ∷ []) (e ∷ [])

abbrev pub set : List ℕ → Expression → Command
set x e = store (named x) e

abbrev pub wrch : Expression → Command
wrch e = call (named n.wrch) (e ∷ [])

abbrev pub writen : Expression → Command
writen e = call (named n.writen) (e ∷ [])

abbrev pub writes : Expression → Command
writes e = call (named n.writes) (e ∷ [])

abbrev pub a_routine : List ℕ → List (List ℕ) → Command → Declaration
a_routine x xs c = lets (routine x xs c ∷ [])

abbrev pub a_function : List ℕ → List (List ℕ) → Expression → Declaration
a_function x xs e = lets (function x xs e ∷ [])

abbrev pub a_variable : List ℕ → Expression → Declaration
a_variable x e = lets (variables (x ∷ []) (value e ∷ []) ∷ [])

abbrev pub a_vector : List ℕ → Expression → Declaration
a_vector x e = lets (variables (x ∷ []) (vector e ∷ []) ∷ [])

-- a program of one section behind GET "LIBHDR2", and one of START alone
abbrev pub program : List Declaration → List Declarations
program ds = with_header ds ∷ []

abbrev pub main : Command → List Declarations
main c = program (a_routine n.start [] c ∷ [])

-- a program, with its input and its turns: its end
abbrev pub Means : ℕ → List ℕ → Run → List Declarations → Type 0
Means turns input end program = meaning program input turns ≡ end

-- and how far it goes with one turn less
abbrev pub Takes : ℕ → List ℕ → Run → Run → List Declarations → Type 0
Takes turns input end before program = Means turns input end program × Means (turns - 1) input before program

-- a worked program: as `Takes` has it, or as `Means`
pub data Row : Type 0 where
  takes : ℕ → List ℕ → Run → Run → List Declarations → Row
  means : ℕ → List ℕ → Run → List Declarations → Row

abbrev runs : Row → List Run
runs (takes turns input end before program) = meaning program input turns ∷ meaning program input (turns - 1) ∷ []
runs (means turns input end program) = meaning program input turns ∷ []

abbrev ends : Row → List Run
ends (takes turns input end before program) = end ∷ before ∷ []
ends (means turns input end program) = end ∷ []

abbrev pub Right : List Row → Type 0
Right rows = map runs rows ≡ map ends rows

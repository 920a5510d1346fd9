-- The words of a statement, and its one line.
use Rattle.std.specs.Prelude.{ℕ, pos, List, [], ◌∷◌, ◌++◌, length, codes, Bool, true, false}
use Rattle.bk_base.specs.Decimal.{spelling}
use Rattle.bk_ocode.specs.Lists.{joined}
use Rattle.bk_ocode.specs.declared.stmt.Variable.{Variable}
use Rattle.bk_ocode.specs.declared.stmt.Variable.TheVariants.{Local, Global, Static}
use Rattle.bk_ocode.specs.declared.stmt.Monadic.{Monadic as MonadicOperator}
use Rattle.bk_ocode.specs.declared.stmt.Monadic.TheVariants.{Contents, Negate, Not}
use Rattle.bk_ocode.specs.declared.stmt.Dyadic.{Dyadic as DyadicOperator}
use Rattle.bk_ocode.specs.declared.stmt.Dyadic.TheVariants.{Multiply, Divide, Remainder, Add, Subtract, Equal, Unequal, Less, Greater, AtMost, AtLeast, ShiftLeft, ShiftRight, And, Or, Eqv, Neqv}
use Rattle.bk_ocode.specs.declared.stmt.Case.{Case}
use Rattle.bk_ocode.specs.declared.stmt.GlobalEntry.{GlobalEntry}
use Rattle.bk_ocode.specs.declared.stmt.Stmt.{Stmt}
use Rattle.bk_ocode.specs.declared.stmt.Stmt.TheVariants.{Number, True, False, Query, Load, Address, Text, Monadic, Dyadic, LoadByte, Assign, AssignAt, AssignByte, Jump, JumpIf, Label, GiveResult, TakeResult, Stack, Store, Entry, Save, CallFunction, CallRoutine, ReturnItem, Return, EndProcedure, Switch, Finish, DataLabel, DataNumber, DataAddress, Globals}

-- the words that begin statements
abbrev pub load_keyword : Variable → List ℕ
load_keyword (Local n) = codes "LP"
load_keyword (Global n) = codes "LG"
load_keyword (Static l) = codes "LL"

abbrev pub address_keyword : Variable → List ℕ
address_keyword (Local n) = codes "LLP"
address_keyword (Global n) = codes "LLG"
address_keyword (Static l) = codes "LLL"

abbrev pub store_keyword : Variable → List ℕ
store_keyword (Local n) = codes "SP"
store_keyword (Global n) = codes "SG"
store_keyword (Static l) = codes "SL"

abbrev pub monadic_keyword : MonadicOperator → List ℕ
monadic_keyword Contents = codes "RV"
monadic_keyword Negate = codes "NEG"
monadic_keyword Not = codes "NOT"

abbrev pub dyadic_keyword : DyadicOperator → List ℕ
dyadic_keyword Multiply = codes "MULT"
dyadic_keyword Divide = codes "DIV"
dyadic_keyword Remainder = codes "REM"
dyadic_keyword Add = codes "PLUS"
dyadic_keyword Subtract = codes "MINUS"
dyadic_keyword Equal = codes "EQ"
dyadic_keyword Unequal = codes "NE"
dyadic_keyword Less = codes "LS"
dyadic_keyword Greater = codes "GR"
dyadic_keyword AtMost = codes "LE"
dyadic_keyword AtLeast = codes "GE"
dyadic_keyword ShiftLeft = codes "LSHIFT"
dyadic_keyword ShiftRight = codes "RSHIFT"
dyadic_keyword And = codes "LOGAND"
dyadic_keyword Or = codes "LOGOR"
dyadic_keyword Eqv = codes "EQV"
dyadic_keyword Neqv = codes "NEQV"

abbrev pub jump_keyword : Bool → List ℕ
jump_keyword true = codes "JT"
jump_keyword false = codes "JF"

abbrev pub keyword : Stmt → List ℕ
keyword (Number value) = codes "LN"
keyword True = codes "TRUE"
keyword False = codes "FALSE"
keyword Query = codes "QUERY"
keyword (Load from) = load_keyword from
keyword (Address of) = address_keyword of
keyword (Text bytes) = codes "LSTR"
keyword (Monadic operator) = monadic_keyword operator
keyword (Dyadic operator) = dyadic_keyword operator
keyword LoadByte = codes "GETBYTE"
keyword (Assign to) = store_keyword to
keyword AssignAt = codes "STIND"
keyword AssignByte = codes "PUTBYTE"
keyword (Jump label) = codes "JUMP"
keyword (JumpIf truth label) = jump_keyword truth
keyword (Label label) = codes "LAB"
keyword (GiveResult label) = codes "RES"
keyword (TakeResult depth) = codes "RSTACK"
keyword (Stack depth) = codes "STACK"
keyword Store = codes "STORE"
keyword (Entry label name) = codes "ENTRY"
keyword (Save depth) = codes "SAVE"
keyword (CallFunction frame) = codes "FNAP"
keyword (CallRoutine frame) = codes "RTAP"
keyword ReturnItem = codes "FNRN"
keyword Return = codes "RTRN"
keyword EndProcedure = codes "ENDPROC"
keyword (Switch default cases) = codes "SWITCHON"
keyword Finish = codes "FINISH"
keyword (DataLabel label) = codes "DATALAB"
keyword (DataNumber value) = codes "ITEMN"
keyword (DataAddress label) = codes "ITEML"
keyword (Globals entries) = codes "GLOBAL"

-- the word of a number from 0 on
abbrev pub natural_word : ℕ → List ℕ
natural_word n = spelling (pos n)

-- the word of a label, as `L1`
abbrev pub label_word : ℕ → List ℕ
label_word l = 76 ∷ spelling (pos l)

abbrev pub variable_word : Variable → List ℕ
variable_word (Local n) = natural_word n
variable_word (Global n) = natural_word n
variable_word (Static l) = label_word l

-- how many bytes, and each
abbrev pub byte_words : List ℕ → List (List ℕ)
byte_words bytes = joined (λ b. natural_word b ∷ []) bytes

abbrev pub case_words : List Case → List (List ℕ)
case_words cases = joined (λ c. spelling c.value ∷ label_word c.label ∷ []) cases

abbrev pub global_words : List GlobalEntry → List (List ℕ)
global_words entries = joined (λ e. natural_word e.number ∷ label_word e.label ∷ []) entries

-- the words after the first
abbrev pub argument_words : Stmt → List (List ℕ)
argument_words (Number value) = spelling value ∷ []
argument_words True = []
argument_words False = []
argument_words Query = []
argument_words (Load from) = variable_word from ∷ []
argument_words (Address of) = variable_word of ∷ []
-- as `LSTR 2 72 73`
argument_words (Text bytes) = natural_word (length bytes) ∷ byte_words bytes
argument_words (Monadic operator) = []
argument_words (Dyadic operator) = []
argument_words LoadByte = []
argument_words (Assign to) = variable_word to ∷ []
argument_words AssignAt = []
argument_words AssignByte = []
argument_words (Jump label) = label_word label ∷ []
argument_words (JumpIf truth label) = label_word label ∷ []
argument_words (Label label) = label_word label ∷ []
argument_words (GiveResult label) = label_word label ∷ []
argument_words (TakeResult depth) = natural_word depth ∷ []
argument_words (Stack depth) = natural_word depth ∷ []
argument_words Store = []
-- as `ENTRY L1 2 72 73`
argument_words (Entry label name) = label_word label ∷ natural_word (length name) ∷ byte_words name
argument_words (Save depth) = natural_word depth ∷ []
argument_words (CallFunction frame) = natural_word frame ∷ []
argument_words (CallRoutine frame) = natural_word frame ∷ []
argument_words ReturnItem = []
argument_words Return = []
argument_words EndProcedure = []
-- as `SWITCHON 2 L1 -1 L2 7 L3`: how many cases, the default, and each case with its label
argument_words (Switch default cases) = natural_word (length cases) ∷ label_word default ∷ case_words cases
argument_words Finish = []
argument_words (DataLabel label) = label_word label ∷ []
argument_words (DataNumber value) = spelling value ∷ []
argument_words (DataAddress label) = label_word label ∷ []
-- as `GLOBAL 1 1 L1`: how many globals, and each with its label
argument_words (Globals entries) = natural_word (length entries) ∷ global_words entries

abbrev pub stmt_words : Stmt → List (List ℕ)
stmt_words s = keyword s ∷ argument_words s

-- words, each after one blank
abbrev pub spaced : List (List ℕ) → List ℕ
spaced words = joined (λ word. 32 ∷ word) words

-- the words of a statement, parted by one blank
abbrev pub stmt_text : Stmt → List ℕ
stmt_text s = keyword s ++ spaced (argument_words s)

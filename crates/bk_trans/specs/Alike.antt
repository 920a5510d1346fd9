-- Statements that are alike: the same, where labels, slots and depths count as words, which wrap.
use Rattle.std.specs.Prelude.{ℕ, ◌%◌, ◌^◌, List, map}
use Rattle.bk_ocode.specs.declared.stmt.Variable.{Variable}
use Rattle.bk_ocode.specs.declared.stmt.Variable.TheVariants.{Local, Global, Static}
use Rattle.bk_ocode.specs.declared.stmt.Case.{Case}
use Rattle.bk_ocode.specs.declared.stmt.GlobalEntry.{GlobalEntry}
use Rattle.bk_ocode.specs.declared.stmt.Stmt.{Stmt}
use Rattle.bk_ocode.specs.declared.stmt.Stmt.TheVariants.{Load, Address, Assign, Jump, JumpIf, Label, GiveResult, TakeResult, Stack, Entry, Save, CallFunction, CallRoutine, Switch, DataLabel, DataAddress, Globals}
use Rattle.bk_trans.specs.declared.around.Target.{Target}

abbrev pub word : ℕ → ℕ
word n = n % 2 ^ 32

abbrev pub variable_in_words : Variable → Variable
variable_in_words (Local d) = Local (word d)
variable_in_words (Static l) = Static (word l)
variable_in_words (Global g) = Global g

abbrev pub case_in_words : Case → Case
case_in_words c = record { value = c.value; label = word c.label }

abbrev pub entry_in_words : GlobalEntry → GlobalEntry
entry_in_words e = record { number = e.number; label = word e.label }

abbrev pub target_in_words : Target → Target
target_in_words t = record { number = t.number; label = word t.label; depth = word t.depth }

abbrev pub stmt_in_words : Stmt → Stmt
stmt_in_words (Load x) = Load (variable_in_words x)
stmt_in_words (Address x) = Address (variable_in_words x)
stmt_in_words (Assign x) = Assign (variable_in_words x)
stmt_in_words (Jump l) = Jump (word l)
stmt_in_words (JumpIf t l) = JumpIf t (word l)
stmt_in_words (Label l) = Label (word l)
stmt_in_words (GiveResult l) = GiveResult (word l)
stmt_in_words (TakeResult d) = TakeResult (word d)
stmt_in_words (Stack d) = Stack (word d)
stmt_in_words (Entry l x) = Entry (word l) x
stmt_in_words (Save d) = Save (word d)
stmt_in_words (CallFunction f) = CallFunction (word f)
stmt_in_words (CallRoutine f) = CallRoutine (word f)
stmt_in_words (Switch l cs) = Switch (word l) (map case_in_words cs)
stmt_in_words (DataLabel l) = DataLabel (word l)
stmt_in_words (DataAddress l) = DataAddress (word l)
stmt_in_words (Globals es) = Globals (map entry_in_words es)
stmt_in_words s = s

abbrev pub in_words : List Stmt → List Stmt
in_words ss = map stmt_in_words ss

-- What the first word of a statement says of it.
use Rattle.std.specs.Prelude.{ℕ, ◌==◌, true, false, List, codes, Option, Some, None, if◌then◌else◌}
use Rattle.bk_ocode.specs.StmtText.{monadic_keyword, dyadic_keyword, jump_keyword}
use Rattle.bk_ocode.specs.declared.standing.StmtPlace.{StmtPlace}
use Rattle.bk_ocode.specs.declared.standing.StmtPlace.TheVariants.{Outer, First, Body, Taker, Last, Datum}
use Rattle.bk_ocode.specs.declared.stmt.Variable.{Variable}
use Rattle.bk_ocode.specs.declared.stmt.Variable.TheVariants.{Local, Global, Static}
use Rattle.bk_ocode.specs.declared.stmt.Stmt.{Stmt}
use Rattle.bk_ocode.specs.declared.stmt.Stmt.TheVariants as stmt
use Rattle.bk_ocode.specs.declared.stmt.Monadic.TheVariants as monadic
use Rattle.bk_ocode.specs.declared.stmt.Dyadic.TheVariants as dyadic
use Rattle.bk_ocode.specs.declared.keyword.VariableKind.{VariableKind}
use Rattle.bk_ocode.specs.declared.keyword.VariableKind.TheVariants as kinds
use Rattle.bk_ocode.specs.declared.keyword.Keyword.{Keyword}
use Rattle.bk_ocode.specs.declared.keyword.Keyword.TheVariants.{Number, True, False, Query, Text, LoadByte, AssignAt, AssignByte, Jump, Label, GiveResult, TakeResult, Stack, Store, Entry, Save, CallFunction, CallRoutine, ReturnItem, Return, EndProcedure, Switch, Finish, DataLabel, DataNumber, DataAddress, Globals, Load, Address, Assign, Monadic, Dyadic, JumpIf}

abbrev pub kind_of : Variable → VariableKind
kind_of (Local n) = kinds.Local
kind_of (Global n) = kinds.Global
kind_of (Static l) = kinds.Static

-- the keyword of a statement
abbrev pub keyword_of_stmt : Stmt → Keyword
keyword_of_stmt (stmt.Number value) = Number
keyword_of_stmt stmt.True = True
keyword_of_stmt stmt.False = False
keyword_of_stmt stmt.Query = Query
keyword_of_stmt (stmt.Load from) = Load (kind_of from)
keyword_of_stmt (stmt.Address of) = Address (kind_of of)
keyword_of_stmt (stmt.Text bytes) = Text
keyword_of_stmt (stmt.Monadic operator) = Monadic operator
keyword_of_stmt (stmt.Dyadic operator) = Dyadic operator
keyword_of_stmt stmt.LoadByte = LoadByte
keyword_of_stmt (stmt.Assign to) = Assign (kind_of to)
keyword_of_stmt stmt.AssignAt = AssignAt
keyword_of_stmt stmt.AssignByte = AssignByte
keyword_of_stmt (stmt.Jump label) = Jump
keyword_of_stmt (stmt.JumpIf truth label) = JumpIf truth
keyword_of_stmt (stmt.Label label) = Label
keyword_of_stmt (stmt.GiveResult label) = GiveResult
keyword_of_stmt (stmt.TakeResult depth) = TakeResult
keyword_of_stmt (stmt.Stack depth) = Stack
keyword_of_stmt stmt.Store = Store
keyword_of_stmt (stmt.Entry label name) = Entry
keyword_of_stmt (stmt.Save depth) = Save
keyword_of_stmt (stmt.CallFunction frame) = CallFunction
keyword_of_stmt (stmt.CallRoutine frame) = CallRoutine
keyword_of_stmt stmt.ReturnItem = ReturnItem
keyword_of_stmt stmt.Return = Return
keyword_of_stmt stmt.EndProcedure = EndProcedure
keyword_of_stmt (stmt.Switch default cases) = Switch
keyword_of_stmt stmt.Finish = Finish
keyword_of_stmt (stmt.DataLabel label) = DataLabel
keyword_of_stmt (stmt.DataNumber value) = DataNumber
keyword_of_stmt (stmt.DataAddress label) = DataAddress
keyword_of_stmt (stmt.Globals entries) = Globals

-- its word
abbrev pub load_text : VariableKind → List ℕ
load_text kinds.Local = codes "LP"
load_text kinds.Global = codes "LG"
load_text kinds.Static = codes "LL"

abbrev pub address_text : VariableKind → List ℕ
address_text kinds.Local = codes "LLP"
address_text kinds.Global = codes "LLG"
address_text kinds.Static = codes "LLL"

abbrev pub store_text : VariableKind → List ℕ
store_text kinds.Local = codes "SP"
store_text kinds.Global = codes "SG"
store_text kinds.Static = codes "SL"

abbrev pub keyword_text : Keyword → List ℕ
keyword_text Number = codes "LN"
keyword_text True = codes "TRUE"
keyword_text False = codes "FALSE"
keyword_text Query = codes "QUERY"
keyword_text Text = codes "LSTR"
keyword_text LoadByte = codes "GETBYTE"
keyword_text AssignAt = codes "STIND"
keyword_text AssignByte = codes "PUTBYTE"
keyword_text Jump = codes "JUMP"
keyword_text Label = codes "LAB"
keyword_text GiveResult = codes "RES"
keyword_text TakeResult = codes "RSTACK"
keyword_text Stack = codes "STACK"
keyword_text Store = codes "STORE"
keyword_text Entry = codes "ENTRY"
keyword_text Save = codes "SAVE"
keyword_text CallFunction = codes "FNAP"
keyword_text CallRoutine = codes "RTAP"
keyword_text ReturnItem = codes "FNRN"
keyword_text Return = codes "RTRN"
keyword_text EndProcedure = codes "ENDPROC"
keyword_text Switch = codes "SWITCHON"
keyword_text Finish = codes "FINISH"
keyword_text DataLabel = codes "DATALAB"
keyword_text DataNumber = codes "ITEMN"
keyword_text DataAddress = codes "ITEML"
keyword_text Globals = codes "GLOBAL"
keyword_text (Load kind) = load_text kind
keyword_text (Address kind) = address_text kind
keyword_text (Assign kind) = store_text kind
keyword_text (Monadic operator) = monadic_keyword operator
keyword_text (Dyadic operator) = dyadic_keyword operator
keyword_text (JumpIf truth) = jump_keyword truth

-- the place that a statement with this keyword may have
abbrev pub keyword_role : Keyword → StmtPlace
keyword_role Entry = Outer
keyword_role DataLabel = Outer
keyword_role Globals = Outer
keyword_role Save = First
keyword_role TakeResult = Taker
keyword_role EndProcedure = Last
keyword_role DataNumber = Datum
keyword_role DataAddress = Datum
keyword_role _ = Body

-- The keyword whose word may have so many letters, and these as the first and the last. No two have the same. A word that begins and
-- ends as one does can still be another, so it is compared.
abbrev pub with_two : ℕ → ℕ → Option Keyword
with_two first last =
    if first == 76 then (if last == 80 then Some (Load kinds.Local) else if last == 78 then Some Number else if last == 71 then Some (Load kinds.Global) else if last == 76 then Some (Load kinds.Static) else if last == 69 then Some (Dyadic dyadic.AtMost) else Some (Dyadic dyadic.Less)) else
    if first == 83 then (if last == 80 then Some (Assign kinds.Local) else if last == 71 then Some (Assign kinds.Global) else Some (Assign kinds.Static)) else
    if first == 74 then (if last == 70 then Some (JumpIf false) else Some (JumpIf true)) else
    if first == 82 then Some (Monadic monadic.Contents) else
    if first == 69 then Some (Dyadic dyadic.Equal) else
    if first == 71 then (if last == 82 then Some (Dyadic dyadic.Greater) else Some (Dyadic dyadic.AtLeast)) else
    if first == 78 then Some (Dyadic dyadic.Unequal) else
    None

abbrev pub with_three : ℕ → ℕ → Option Keyword
with_three first last =
    if first == 76 then (if last == 66 then Some Label else if last == 80 then Some (Address kinds.Local) else if last == 76 then Some (Address kinds.Static) else Some (Address kinds.Global)) else
    if first == 82 then (if last == 83 then Some GiveResult else Some (Dyadic dyadic.Remainder)) else
    if first == 78 then (if last == 84 then Some (Monadic monadic.Not) else Some (Monadic monadic.Negate)) else
    if first == 68 then Some (Dyadic dyadic.Divide) else
    if first == 69 then Some (Dyadic dyadic.Eqv) else
    None

abbrev pub with_four : ℕ → ℕ → Option Keyword
with_four first last =
    if first == 80 then Some (Dyadic dyadic.Add) else
    if first == 82 then (if last == 80 then Some CallRoutine else Some Return) else
    if first == 70 then (if last == 80 then Some CallFunction else Some ReturnItem) else
    if first == 74 then Some Jump else
    if first == 76 then Some Text else
    if first == 77 then Some (Dyadic dyadic.Multiply) else
    if first == 83 then Some Save else
    if first == 84 then Some True else
    if first == 78 then Some (Dyadic dyadic.Neqv) else
    None

abbrev pub with_five : ℕ → ℕ → Option Keyword
with_five first last =
    if first == 83 then (if last == 75 then Some Stack else if last == 69 then Some Store else Some AssignAt) else
    if first == 77 then Some (Dyadic dyadic.Subtract) else
    if first == 69 then Some Entry else
    if first == 76 then Some (Dyadic dyadic.Or) else
    if first == 70 then Some False else
    if first == 73 then (if last == 78 then Some DataNumber else Some DataAddress) else
    if first == 81 then Some Query else
    None

abbrev pub with_six : ℕ → ℕ → Option Keyword
with_six first last =
    if first == 82 then (if last == 75 then Some TakeResult else Some (Dyadic dyadic.ShiftRight)) else
    if first == 76 then (if last == 68 then Some (Dyadic dyadic.And) else Some (Dyadic dyadic.ShiftLeft)) else
    if first == 70 then Some Finish else
    if first == 71 then Some Globals else
    None

abbrev pub with_seven : ℕ → Option Keyword
with_seven first =
    if first == 69 then Some EndProcedure else
    if first == 71 then Some LoadByte else
    if first == 80 then Some AssignByte else
    if first == 68 then Some DataLabel else
    None

abbrev pub candidate_with : ℕ → ℕ → ℕ → Option Keyword
candidate_with len first last =
    if len == 2 then with_two first last else
    if len == 3 then with_three first last else
    if len == 4 then with_four first last else
    if len == 5 then with_five first last else
    if len == 6 then with_six first last else
    if len == 7 then with_seven first else
    if len == 8 then Some Switch else
    None

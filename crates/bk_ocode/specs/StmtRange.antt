-- Which numbers are in statements.
use Rattle.std.specs.Prelude.{◌≡◌, ℕ, ◌<◌, ◌≤◌, ◌^◌, List, Some, length, slice_get, FitsSigned, ⊤}
use Rattle.std.specs.Int.{w32}
use Rattle.bk_base.specs.declared.limit.TheConstants.{GLOBAL_NUMBER, FRAME_WORDS, OCODE_LABEL, NAME_BYTES}
use Rattle.bk_ocode.specs.declared.stmt.Variable.{Variable}
use Rattle.bk_ocode.specs.declared.stmt.Variable.TheVariants.{Local, Global, Static}
use Rattle.bk_ocode.specs.declared.stmt.Case.{Case}
use Rattle.bk_ocode.specs.declared.stmt.GlobalEntry.{GlobalEntry}
use Rattle.bk_ocode.specs.declared.stmt.Stmt.{Stmt}
use Rattle.bk_ocode.specs.declared.stmt.Stmt.TheVariants.{Number, True, False, Query, Load, Address, Text, Monadic, Dyadic, LoadByte, Assign, AssignAt, AssignByte, Jump, JumpIf, Label, GiveResult, TakeResult, Stack, Store, Entry, Save, CallFunction, CallRoutine, ReturnItem, Return, EndProcedure, Switch, Finish, DataLabel, DataNumber, DataAddress, Globals}

-- labels from 1 on
abbrev pub IsLabel : ℕ → Type 0
IsLabel label = (1 ≤ label) × (label ≤ OCODE_LABEL)

-- slots from 2 on: the words 0 and 1 of a frame are its links
abbrev pub IsSlot : ℕ → Type 0
IsSlot slot = (2 ≤ slot) × (slot < 2 ^ 31)

-- depths that are made, from 2 on
abbrev pub IsDepth : ℕ → Type 0
IsDepth depth = (2 ≤ depth) × (depth ≤ FRAME_WORDS)

abbrev pub IsGlobal : ℕ → Type 0
IsGlobal number = number ≤ GLOBAL_NUMBER

abbrev pub IsVariable : Variable → Type 0
IsVariable (Local slot) = IsSlot slot
IsVariable (Global number) = IsGlobal number
IsVariable (Static label) = IsLabel label

-- Each value has one case.
pub record AreCases (cases : List Case) : Type 0 where
  pub once : (j k : ℕ) (c d : Case) → slice_get cases j ≡ Some c → slice_get cases k ≡ Some d → c.value ≡ d.value → j ≡ k
  pub labels : (k : ℕ) (c : Case) → slice_get cases k ≡ Some c → IsLabel c.label
  pub counted : length cases < 2 ^ 31

pub record AreEntries (entries : List GlobalEntry) : Type 0 where
  pub in_range : (k : ℕ) (e : GlobalEntry) → slice_get entries k ≡ Some e → IsGlobal e.number × IsLabel e.label
  pub counted : length entries < 2 ^ 31

-- the numbers of a statement are in their ranges
abbrev pub InRange : Stmt → Type 0
InRange (Number value) = ⊤
InRange True = ⊤
InRange False = ⊤
InRange Query = ⊤
InRange (Load from) = IsVariable from
InRange (Address of) = IsVariable of
InRange (Text bytes) = length bytes ≤ NAME_BYTES
InRange (Monadic operator) = ⊤
InRange (Dyadic operator) = ⊤
InRange LoadByte = ⊤
InRange (Assign to) = IsVariable to
InRange AssignAt = ⊤
InRange AssignByte = ⊤
InRange (Jump label) = IsLabel label
InRange (JumpIf truth label) = IsLabel label
InRange (Label label) = IsLabel label
InRange (GiveResult label) = IsLabel label
InRange (TakeResult depth) = IsSlot depth
InRange (Stack depth) = IsDepth depth
InRange Store = ⊤
InRange (Entry label name) = IsLabel label × (length name ≤ NAME_BYTES)
InRange (Save depth) = IsDepth depth
InRange (CallFunction frame) = IsSlot frame
InRange (CallRoutine frame) = IsSlot frame
InRange ReturnItem = ⊤
InRange Return = ⊤
InRange EndProcedure = ⊤
InRange (Switch default cases) = IsLabel default × AreCases cases
InRange Finish = ⊤
InRange (DataLabel label) = IsLabel label
InRange (DataNumber value) = ⊤
InRange (DataAddress label) = IsLabel label
InRange (Globals entries) = AreEntries entries

-- bytes and words are such, as their types have it
abbrev pub AreBytes : List ℕ → Type 0
AreBytes bytes = (k : ℕ) (byte : ℕ) → slice_get bytes k ≡ Some byte → byte < 256

abbrev pub IsTyped : Stmt → Type 0
IsTyped (Number value) = FitsSigned w32 value
IsTyped (DataNumber value) = FitsSigned w32 value
IsTyped (Text bytes) = AreBytes bytes
IsTyped (Entry label name) = AreBytes name
IsTyped (Switch default cases) = (k : ℕ) (c : Case) → slice_get cases k ≡ Some c → FitsSigned w32 c.value
IsTyped _ = ⊤

abbrev pub AreTyped : List Stmt → Type 0
AreTyped stmts = (k : ℕ) (s : Stmt) → slice_get stmts k ≡ Some s → IsTyped s

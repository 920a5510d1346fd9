-- Depths: how many words of the frame are in use. The depth follows the text, past jumps too.
use Rattle.std.specs.Prelude.{ℕ, ◌+◌, ◌-◌, max, List, [], ◌∷◌}
use Rattle.bk_ocode.specs.declared.stmt.Variable.{Variable}
use Rattle.bk_ocode.specs.declared.stmt.Variable.TheVariants.{Local, Global, Static}
use Rattle.bk_ocode.specs.declared.stmt.Stmt.{Stmt}
use Rattle.bk_ocode.specs.declared.stmt.Stmt.TheVariants.{Number, True, False, Query, Load, Address, Text, Monadic, Dyadic, LoadByte, Assign, AssignAt, AssignByte, Jump, JumpIf, Label, GiveResult, TakeResult, Stack, Store, Entry, Save, CallFunction, CallRoutine, ReturnItem, Return, EndProcedure, Switch, Finish, DataLabel, DataNumber, DataAddress, Globals}

-- the depth after a statement that has depth k before it
abbrev pub next_depth : ℕ → Stmt → ℕ
next_depth k (Number value) = k + 1
next_depth k True = k + 1
next_depth k False = k + 1
next_depth k Query = k + 1
next_depth k (Load from) = k + 1
next_depth k (Address of) = k + 1
next_depth k (Text bytes) = k + 1
next_depth k (Monadic operator) = k
next_depth k (Dyadic operator) = k - 1
next_depth k LoadByte = k - 1
next_depth k (Assign to) = k - 1
next_depth k AssignAt = k - 2
next_depth k AssignByte = k - 3
next_depth k (Jump label) = k
next_depth k (JumpIf truth label) = k - 1
next_depth k (Label label) = k
next_depth k (GiveResult label) = k - 1
next_depth k (TakeResult depth) = depth + 1
next_depth k (Stack depth) = depth
next_depth k Store = k
next_depth k (Entry label name) = 2
next_depth k (Save depth) = depth
next_depth k (CallFunction frame) = frame + 1
next_depth k (CallRoutine frame) = frame
next_depth k ReturnItem = k - 1
next_depth k Return = k
next_depth k EndProcedure = k
next_depth k (Switch default cases) = k - 1
next_depth k Finish = k
next_depth k (DataLabel label) = k
next_depth k (DataNumber value) = k
next_depth k (DataAddress label) = k
next_depth k (Globals entries) = k

-- the depth that a variable needs to be loaded, and with the item that is stored there
abbrev pub load_depth : Variable → ℕ
load_depth (Local slot) = slot + 1
load_depth (Global number) = 0
load_depth (Static label) = 0

abbrev pub assign_depth : Variable → ℕ
assign_depth (Local slot) = slot + 2
assign_depth (Global number) = 3
assign_depth (Static label) = 3

-- The least depth that a statement needs before it: slots and items are from slot 2 on and below the depth, a slot that is
-- stored is below the item, and a call has the links of its frame below the item that it calls.
abbrev pub least_depth : Stmt → ℕ
least_depth (Load from) = load_depth from
least_depth (Address of) = load_depth of
least_depth (Monadic operator) = 3
least_depth (Dyadic operator) = 4
least_depth LoadByte = 4
least_depth (Assign to) = assign_depth to
least_depth AssignAt = 4
least_depth AssignByte = 5
least_depth (JumpIf truth label) = 3
least_depth (GiveResult label) = 3
least_depth (CallFunction frame) = frame + 3
least_depth (CallRoutine frame) = frame + 3
least_depth ReturnItem = 3
least_depth (Switch default cases) = 3
least_depth _ = 0

-- the depth after statements, and the largest on the way
abbrev pub depth_after : ℕ → List Stmt → ℕ
depth_after k [] = k
depth_after k (s ∷ rest) = depth_after (next_depth k s) rest

abbrev pub largest_after : ℕ → List Stmt → ℕ
largest_after k [] = 0
largest_after k (s ∷ rest) = max (next_depth k s) (largest_after (next_depth k s) rest)

-- the largest depth of a section: 0 where there is no procedure
abbrev pub largest_depth : List Stmt → ℕ
largest_depth stmts = largest_after 0 stmts

-- A statement of which the first words were read.
use Rattle.std.specs.Prelude.{◌≡◌, ◌≢◌, ℕ, ℤ, FitsSigned, ◌+◌, ◌<◌, ◌≤◌, ◌^◌, ◌||◌, Bool, true, false, List, [], ◌∷◌, ◌++◌, Option, Some, None, length, slice_get, ⊤, codes}
use Rattle.std.specs.Int.{w32}
use Rattle.std.specs.BTreeSet.{contains}
use Rattle.std.specs.Ordering.{int_cmp, int_eq}
use Rattle.bk_base.specs.Decimal.{spelling}
use Rattle.bk_base.specs.declared.limit.TheConstants.{FRAME_WORDS, GLOBAL_NUMBER, NAME_BYTES}
use Rattle.bk_ocode.specs.StmtText.{natural_word, label_word, byte_words, case_words, global_words, stmt_words}
use Rattle.bk_ocode.specs.StmtRange.{IsLabel, IsGlobal, AreCases, AreEntries, AreBytes}
use Rattle.bk_ocode.specs.FirstFault.{IsStmt}
use Rattle.bk_ocode.specs.Keywords.{keyword_text}
use Rattle.bk_ocode.specs.declared.stmt.Case.{Case}
use Rattle.bk_ocode.specs.declared.stmt.Stmt.{Stmt}
use Rattle.bk_ocode.specs.declared.partial.TheConstants.{LARGEST}
use Rattle.bk_ocode.specs.declared.keyword.VariableKind.{VariableKind}
use Rattle.bk_ocode.specs.declared.keyword.VariableKind.TheVariants as kinds
use Rattle.bk_ocode.specs.declared.keyword.Keyword.{Keyword}
use Rattle.bk_ocode.specs.declared.keyword.Keyword.TheVariants as keywords
use Rattle.bk_ocode.specs.declared.partial.Owner.{Owner}
use Rattle.bk_ocode.specs.declared.partial.Owner.TheVariants.{Text, Entry}
use Rattle.bk_ocode.specs.declared.partial.CaseDraft.{CaseDraft}
use Rattle.bk_ocode.specs.declared.partial.EntryDraft.{EntryDraft}
use Rattle.bk_base.specs.declared.ocode_fault.OcodeFault.{OcodeFault}
use Rattle.bk_base.specs.declared.ocode_fault.OcodeKind.TheVariants.{BadWord, BadNumber}
use Rattle.bk_base.specs.declared.refused.Refused.{Refused}
use Rattle.bk_base.specs.declared.refused.Refused.TheVariants.{Fault, Memory}
use Rattle.bk_ocode.specs.declared.partial.Unfit.{Unfit}
use Rattle.bk_ocode.specs.declared.partial.Unfit.TheVariants as unfits
use Rattle.bk_ocode.specs.declared.partial.Partial.{Partial}
use Rattle.bk_ocode.specs.declared.partial.Partial.TheVariants.{Short, EntryLabel, Length, Bytes, CaseCount, Default, CaseValue, CaseLabel, GlobalCount, GlobalNumber, GlobalLabel}
use Rattle.bk_ocode.specs.declared.partial.Progress.{Progress}
use Rattle.bk_ocode.specs.declared.partial.Progress.TheVariants.{More, Done}

-- the words that begin a statement of bytes
abbrev pub owner_words : Owner → List (List ℕ)
owner_words Text = codes "LSTR" ∷ []
owner_words (Entry label) = codes "ENTRY" ∷ label_word label ∷ []

abbrev pub IsOwner : Owner → Type 0
IsOwner Text = ⊤
IsOwner (Entry label) = IsLabel label

abbrev pub switch_words : CaseDraft → List (List ℕ)
switch_words draft = codes "SWITCHON" ∷ natural_word draft.count ∷ label_word draft.default ∷ case_words draft.cases.items

abbrev pub entries_words : EntryDraft → List (List ℕ)
entries_words draft = codes "GLOBAL" ∷ natural_word draft.count ∷ global_words draft.entries.items

-- the words that were read
abbrev pub partial_words : Partial → List (List ℕ)
partial_words (Short keyword) = keyword_text keyword ∷ []
partial_words EntryLabel = codes "ENTRY" ∷ []
partial_words (Length owner) = owner_words owner
partial_words (Bytes owner bytes count) = owner_words owner ++ natural_word count ∷ byte_words bytes.items
partial_words CaseCount = codes "SWITCHON" ∷ []
partial_words (Default count) = codes "SWITCHON" ∷ natural_word count ∷ []
partial_words (CaseValue draft) = switch_words draft
partial_words (CaseLabel draft value) = switch_words draft ++ spelling value ∷ []
partial_words GlobalCount = codes "GLOBAL" ∷ []
partial_words (GlobalNumber draft) = entries_words draft
partial_words (GlobalLabel draft number) = entries_words draft ++ natural_word number ∷ []

-- the statement has one word more
abbrev pub is_short : Keyword → Bool
is_short keywords.True = false
is_short keywords.False = false
is_short keywords.Query = false
is_short keywords.Text = false
is_short (keywords.Monadic operator) = false
is_short (keywords.Dyadic operator) = false
is_short keywords.LoadByte = false
is_short keywords.AssignAt = false
is_short keywords.AssignByte = false
is_short keywords.Store = false
is_short keywords.Entry = false
is_short keywords.ReturnItem = false
is_short keywords.Return = false
is_short keywords.EndProcedure = false
is_short keywords.Switch = false
is_short keywords.Finish = false
is_short keywords.Globals = false
is_short _ = true

-- a case has the value
abbrev pub has_value : ℤ → List Case → Bool
has_value value [] = false
has_value value (c ∷ rest) = int_eq c.value value || has_value value rest

-- that word is a label of which nothing else is asked
abbrev pub takes_label : Keyword → Bool
takes_label keywords.Jump = true
takes_label (keywords.JumpIf truth) = true
takes_label keywords.Label = true
takes_label keywords.GiveResult = true
takes_label keywords.DataLabel = true
takes_label keywords.DataAddress = true
takes_label _ = false

-- Cases of a switch, no more than it has, and the values are those of the cases.
pub record AreCasesUpTo (draft : CaseDraft) : Type 0 where
  pub default : IsLabel draft.default
  pub cases : AreCases draft.cases.items
  pub typed : (k : ℕ) (c : Case) → slice_get draft.cases.items k ≡ Some c → FitsSigned w32 c.value
  pub values : (value : ℤ) → contains int_cmp draft.values value ≡ has_value value draft.cases.items
  pub counted : draft.count < 2 ^ 31
  pub due : length draft.cases.items ≤ draft.count

-- and more are due
abbrev pub ArePartialCases : CaseDraft → Type 0
ArePartialCases draft = AreCasesUpTo draft × (length draft.cases.items < draft.count)

-- Globals, no more than there are to be.
pub record AreEntriesUpTo (draft : EntryDraft) : Type 0 where
  pub entries : AreEntries draft.entries.items
  pub counted : draft.count < 2 ^ 31
  pub due : length draft.entries.items ≤ draft.count

-- and more are due
abbrev pub ArePartialEntries : EntryDraft → Type 0
ArePartialEntries draft = AreEntriesUpTo draft × (length draft.entries.items < draft.count)

-- the numbers that were read are in their ranges, and more words are due
abbrev pub IsPartialStmt : Partial → Type 0
IsPartialStmt (Short keyword) = is_short keyword ≡ true
IsPartialStmt EntryLabel = ⊤
IsPartialStmt (Length owner) = IsOwner owner
IsPartialStmt (Bytes owner bytes count) = IsOwner owner × AreBytes bytes.items × (count ≤ NAME_BYTES) × (length bytes.items < count)
IsPartialStmt CaseCount = ⊤
IsPartialStmt (Default count) = count < 2 ^ 31
IsPartialStmt (CaseValue draft) = ArePartialCases draft
IsPartialStmt (CaseLabel draft value) = ArePartialCases draft × FitsSigned w32 value × (has_value value draft.cases.items ≡ false)
IsPartialStmt GlobalCount = ⊤
IsPartialStmt (GlobalNumber draft) = ArePartialEntries draft
IsPartialStmt (GlobalLabel draft number) = ArePartialEntries draft × IsGlobal number

-- these words are those of a whole statement, or begin one
abbrev pub IsStep : Progress → List (List ℕ) → Type 0
IsStep (More begun) words = IsPartialStmt begun × (partial_words begun ≡ words)
IsStep (Done stmt) words = IsStmt stmt × (stmt_words stmt ≡ words)

-- the word spells no number, none in these bounds, no label, no variable of this kind
abbrev pub NoNumber : List ℕ → Type 0
NoNumber word = (z : ℤ) → FitsSigned w32 z → spelling z ≢ word

abbrev pub NoNatural : ℕ → ℕ → List ℕ → Type 0
NoNatural least most word = (n : ℕ) → least ≤ n → n ≤ most → natural_word n ≢ word

abbrev pub NoLabel : List ℕ → Type 0
NoLabel word = (label : ℕ) → IsLabel label → label_word label ≢ word

abbrev pub NoVariable : VariableKind → List ℕ → Type 0
NoVariable kinds.Local word = NoNatural 2 LARGEST word
NoVariable kinds.Global word = NoNatural 0 GLOBAL_NUMBER word
NoVariable kinds.Static word = NoLabel word

-- nor what is due after this first word
abbrev pub NoArgument : Keyword → List ℕ → Type 0
NoArgument keywords.Number word = NoNumber word
NoArgument keywords.DataNumber word = NoNumber word
NoArgument (keywords.Load kind) word = NoVariable kind word
NoArgument (keywords.Address kind) word = NoVariable kind word
NoArgument (keywords.Assign kind) word = NoVariable kind word
NoArgument keywords.TakeResult word = NoNatural 2 LARGEST word
NoArgument keywords.CallFunction word = NoNatural 2 LARGEST word
NoArgument keywords.CallRoutine word = NoNatural 2 LARGEST word
NoArgument keywords.Stack word = NoNatural 2 FRAME_WORDS word
NoArgument keywords.Save word = NoNatural 2 FRAME_WORDS word
NoArgument _ word = NoLabel word

-- no statement that was begun so goes on with the word
abbrev pub IsUnfit : Partial → List ℕ → Type 0
IsUnfit (Short keyword) word = NoArgument keyword word
IsUnfit EntryLabel word = NoLabel word
IsUnfit (Length owner) word = NoNatural 0 NAME_BYTES word
IsUnfit (Bytes owner bytes count) word = NoNatural 0 255 word
IsUnfit CaseCount word = NoNatural 0 LARGEST word
IsUnfit (Default count) word = NoLabel word
IsUnfit (CaseValue draft) word = (z : ℤ) → FitsSigned w32 z → has_value z draft.cases.items ≡ false → spelling z ≢ word
IsUnfit (CaseLabel draft value) word = NoLabel word
IsUnfit GlobalCount word = NoNatural 0 LARGEST word
IsUnfit (GlobalNumber draft) word = NoNatural 0 GLOBAL_NUMBER word
IsUnfit (GlobalLabel draft number) word = NoLabel word

-- no statement begins with these words
abbrev pub BeginNone : List (List ℕ) → Type 0
BeginNone words = (s : Stmt) (rest : List (List ℕ)) → IsStmt s → stmt_words s ≢ words ++ rest

-- of a statement that is read, or of which nothing was
abbrev pub part_words : Option Partial → List (List ℕ)
part_words None = []
part_words (Some begun) = partial_words begun

abbrev pub IsPartialPart : Option Partial → Type 0
IsPartialPart None = ⊤
IsPartialPart (Some begun) = IsPartialStmt begun

-- what is answered where a word does not fit after so many statements
abbrev pub refusal : ℕ → Unfit → Refused OcodeFault
refusal count unfits.BadWord = Fault (record { statement = count + 1; kind = BadWord })
refusal count unfits.BadNumber = Fault (record { statement = count + 1; kind = BadNumber })
refusal count unfits.Memory = Memory

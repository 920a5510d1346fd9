-- The rules of accepted sections, each by itself, and the fault of a statement that breaks one.
use Rattle.std.specs.Prelude.{ℕ, ◌+◌, ◌-◌, ◌==◌, nat_lt, nat_le, not, Bool, true, false, ◌||◌, ◌&&◌, List, [], ◌∷◌, ◌++◌, length, drop, is_some, Option, Some, None, if◌then◌else◌}
use Rattle.std.specs.List.{list_all, list_any}
use Rattle.bk_base.specs.declared.limit.TheConstants.{FRAME_WORDS, OCODE_STATEMENTS, OCODE_WORDS}
use Rattle.bk_base.specs.declared.ocode_fault.OcodeKind.{OcodeKind}
use Rattle.bk_base.specs.declared.ocode_fault.OcodeKind.TheVariants.{BadWord, LabelNotSet, LabelSetTwice, DepthsDisagree, SlotAboveDepth, TooLong}
use Rattle.bk_ocode.specs.StmtText.{stmt_words}
use Rattle.bk_ocode.specs.Depth.{next_depth, least_depth}
use Rattle.bk_ocode.specs.Labels.{label_set, jump_labels, result_label, data_labels, item_label, global_labels, other_labels}
use Rattle.bk_ocode.specs.Places.{role, may_stand}
use Rattle.bk_ocode.specs.Context.{Context, context_of}
use Rattle.bk_ocode.specs.declared.standing.Position.{Position}
use Rattle.bk_ocode.specs.declared.standing.Position.TheVariants as position
use Rattle.bk_ocode.specs.declared.standing.Setting.{Setting}
use Rattle.bk_ocode.specs.declared.standing.Setting.TheVariants as setting
use Rattle.bk_ocode.specs.declared.standing.Following.{Following}
use Rattle.bk_ocode.specs.declared.standing.Following.TheVariants as following
use Rattle.bk_ocode.specs.declared.standing.JumpDepths.{JumpDepths}
use Rattle.bk_ocode.specs.declared.standing.JumpDepths.TheVariants as jumps
use Rattle.bk_ocode.specs.declared.standing.LabelUse.{LabelUse}
use Rattle.bk_ocode.specs.declared.stmt.Stmt.{Stmt}
use Rattle.bk_ocode.specs.declared.stmt.Stmt.TheVariants.{Jump, JumpIf, Label, GiveResult, TakeResult, EndProcedure, Switch, Globals}

-- 1: the statement may not be there
abbrev pub misplaced : Context → Stmt → Bool
misplaced c s = not (may_stand c.position (role s))

-- 4: At ENDPROC the labels of the procedure's jumps are set by a LAB in it. At GLOBAL those of LL, SL and LLL are set by a
-- DATALAB, those of ITEML by a DATALAB or an ENTRY, and its own by an ENTRY.
abbrev pub is_lab_from : ℕ → Setting → Bool
is_lab_from start (setting.Lab depth place) = nat_le start place
is_lab_from start setting.Unset = false
is_lab_from start setting.Entry = false
is_lab_from start setting.Data = false

abbrev pub is_data : Setting → Bool
is_data setting.Data = true
is_data setting.Unset = false
is_data setting.Entry = false
is_data (setting.Lab depth place) = false

abbrev pub is_entry : Setting → Bool
is_entry setting.Entry = true
is_entry setting.Unset = false
is_entry setting.Data = false
is_entry (setting.Lab depth place) = false

abbrev pub jumps_set : Context → Stmt → Bool
jumps_set c s = list_all (λ label. is_lab_from c.start (c.uses label).setting) (jump_labels s ++ result_label s)

abbrev pub data_set : Context → Stmt → Bool
data_set c s =
    list_all (λ label. is_data (c.uses label).setting) (data_labels s)
    && list_all (λ label. is_data (c.uses label).setting || is_entry (c.uses label).setting) (item_label s)

abbrev pub label_not_set : List Stmt → Context → Stmt → Bool
label_not_set before c EndProcedure = not (list_all (jumps_set c) (drop c.start before))
label_not_set before c (Globals entries) =
    not (list_all (data_set c) before
    && list_all (λ label. is_entry (c.uses label).setting) (global_labels (Globals entries)))
label_not_set before c _ = false

-- 5: the statement sets a label that is set
abbrev pub is_set : Setting → Bool
is_set setting.Unset = false
is_set (setting.Lab depth place) = true
is_set setting.Entry = true
is_set setting.Data = true

abbrev pub set_again : Context → Option ℕ → Bool
set_again c None = false
set_again c (Some label) = is_set (c.uses label).setting

abbrev pub label_set_twice : Context → Stmt → Bool
label_set_twice c s = set_again c (label_set s)

-- 6: A jump finds its depth at the LAB, whichever comes first.
abbrev pub is_other_lab : ℕ → Setting → Bool
is_other_lab depth (setting.Lab d place) = not (d == depth)
is_other_lab depth setting.Unset = false
is_other_lab depth setting.Entry = false
is_other_lab depth setting.Data = false

abbrev pub are_other_jumps : ℕ → JumpDepths → Bool
are_other_jumps depth jumps.Unused = false
are_other_jumps depth (jumps.One d) = not (d == depth)
are_other_jumps depth jumps.Several = true

abbrev pub jumps_disagree : Context → ℕ → List ℕ → Bool
jumps_disagree c depth labels = list_any (λ label. is_other_lab depth (c.uses label).setting) labels

-- A label of RES is named by RES and its LAB alone.
abbrev pub result_named : Context → Stmt → Bool
result_named c s = list_any (λ label. is_some (c.uses label).result) (other_labels s)

-- Its LAB is followed by RSTACK n, with n at most the depth after each RES.
abbrev pub over : ℕ → Option ℕ → Bool
over n None = false
over n (Some depth) = nat_lt depth n

abbrev pub left_after : Option ℕ → Stmt → Bool
left_after least (TakeResult n) = over n least
left_after least _ = is_some least

abbrev pub result_not_taken : Context → ℕ → Stmt → Bool
result_not_taken c label s = left_after (c.uses label).result s

abbrev pub follows_badly : Context → Position → Stmt → Bool
follows_badly c (position.AfterLabel label) s = result_not_taken c label s
follows_badly c _ s = false

-- a RES that comes after its LAB
abbrev pub is_badly_followed : ℕ → Following → Bool
is_badly_followed depth (following.Takes n) = nat_lt depth n
is_badly_followed depth following.Nothing = true
is_badly_followed depth following.Other = true

abbrev pub not_followed : ℕ → LabelUse → Setting → Bool
not_followed depth known (setting.Lab d place) = is_badly_followed depth known.following
not_followed depth known setting.Unset = false
not_followed depth known setting.Entry = false
not_followed depth known setting.Data = false

abbrev pub result_disagrees : ℕ → LabelUse → Bool
result_disagrees depth known = known.named || not_followed depth known known.setting

abbrev pub own_disagrees : Context → Stmt → Bool
own_disagrees c (Jump label) = jumps_disagree c c.depth (label ∷ [])
own_disagrees c (JumpIf truth label) = jumps_disagree c (c.depth - 1) (label ∷ [])
own_disagrees c (Switch default cases) = jumps_disagree c (c.depth - 1) (jump_labels (Switch default cases))
own_disagrees c (Label label) = are_other_jumps c.depth (c.uses label).jumps
own_disagrees c (GiveResult label) = result_disagrees (c.depth - 1) (c.uses label)
own_disagrees c (TakeResult n) = nat_lt c.depth n
own_disagrees c _ = false

abbrev pub depths_disagree : Context → Stmt → Bool
depths_disagree c s = follows_badly c c.position s || (result_named c s || own_disagrees c s)

-- 7: the depth is too small for the slot or the items
abbrev pub slot_above : Context → Stmt → Bool
slot_above c s = nat_lt c.depth (least_depth s)

-- 8: a count or a depth passes its limit
abbrev pub too_long : Context → Stmt → Bool
too_long c s =
    nat_le OCODE_STATEMENTS c.count || (nat_lt OCODE_WORDS (c.words + length (stmt_words s)) || nat_lt FRAME_WORDS (next_depth c.depth s))

-- The fault that is reported of a statement after others: that with the lowest number.
abbrev pub fault_in : List Stmt → Context → Stmt → Option OcodeKind
fault_in before c s =
    if misplaced c s then Some BadWord
    else if label_not_set before c s then Some LabelNotSet
    else if label_set_twice c s then Some LabelSetTwice
    else if depths_disagree c s then Some DepthsDisagree
    else if slot_above c s then Some SlotAboveDepth
    else if too_long c s then Some TooLong
    else None

abbrev pub stmt_fault : List Stmt → Stmt → Option OcodeKind
stmt_fault before s = fault_in before (context_of before) s

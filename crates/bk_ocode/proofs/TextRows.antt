-- Small examples of the definitions.
use Rattle.bk_ocode.proofs.Terms.{◌≡◌, pos, negsuc, [], ◌∷◌, refl, Some, None, digits, BadWord, LabelNotSet, LabelSetTwice, DepthsDisagree, SlotAboveDepth, stmt_text, section_text, stmt_fault, Local, Number, Load, Jump, Label, GiveResult, TakeResult, Entry, Save, Return, EndProcedure, Switch, Globals, codes}

text-entry : stmt_text (Entry 1 (70 ∷ [])) ≡ codes "ENTRY L1 1 70"
unfolding digits
text-entry = refl

text-number : stmt_text (Number (negsuc 0)) ≡ codes "LN -1"
unfolding digits
text-number = refl

text-switch : stmt_text (Switch 1 (record { value = negsuc 0; label = 2 } ∷ record { value = pos 7; label = 3 } ∷ [])) ≡ codes "SWITCHON 2 L1 -1 L2 7 L3"
unfolding digits
text-switch = refl

text-section : section_text (Load (Local 2) ∷ Globals (record { number = 1; label = 1 } ∷ []) ∷ []) ≡ codes "LP 2\nGLOBAL 1 1 L1\n"
unfolding digits
text-section = refl

fault-twice : stmt_fault (Entry 1 (65 ∷ []) ∷ Save 2 ∷ Label 2 ∷ []) (Label 2) ≡ Some LabelSetTwice
unfolding digits
fault-twice = refl

fault-slot : stmt_fault (Entry 1 (65 ∷ []) ∷ Save 2 ∷ []) (Load (Local 2)) ≡ Some SlotAboveDepth
unfolding digits
fault-slot = refl

fault-place : stmt_fault (Entry 1 (65 ∷ []) ∷ Save 2 ∷ []) (TakeResult 2) ≡ Some BadWord
unfolding digits
fault-place = refl

fault-jump : stmt_fault (Entry 1 (65 ∷ []) ∷ Save 2 ∷ Label 2 ∷ Number (pos 1) ∷ []) (Jump 2) ≡ Some DepthsDisagree
unfolding digits
fault-jump = refl

fault-result : stmt_fault (Entry 1 (65 ∷ []) ∷ Save 2 ∷ Number (pos 1) ∷ GiveResult 2 ∷ []) (Jump 2) ≡ Some DepthsDisagree
unfolding digits
fault-result = refl

fault-unset : stmt_fault (Entry 1 (65 ∷ []) ∷ Save 2 ∷ Jump 2 ∷ Return ∷ []) EndProcedure ≡ Some LabelNotSet
unfolding digits
fault-unset = refl

no-fault : stmt_fault (Entry 1 (65 ∷ []) ∷ Save 2 ∷ Label 2 ∷ Return ∷ []) EndProcedure ≡ None
unfolding digits
no-fault = refl

-- Small examples of the definitions.
use Rattle.bk_intcode.proofs.Terms.{◌≡◌, pos, negsuc, [], ◌∷◌, refl, true, false, Some, None, LabelNotSet, LabelSetTwice, FrameGivenTwice, Load, Store, Jump, Local, Global, Label, Instruction, SetLabel, Byte, Word, LabelWord, SetGlobal, Frame, End, item_text, segment_text, item_fault, words_of}
use Rattle.std.specs.Prelude.{codes}
use Rattle.std.specs.Fmt.{digits}

text-indirect : item_text (Instruction Load true (Global (pos 4))) ≡ codes "LIG4"
unfolding digits
text-indirect = refl

text-local : item_text (Instruction Store false (Local (pos 4))) ≡ codes "SP4"
unfolding digits
text-local = refl

text-word : item_text (Word (negsuc 0)) ≡ codes "D-1"
unfolding digits
text-word = refl

text-global : item_text (SetGlobal 1 70) ≡ codes "G1L70"
unfolding digits
text-global = refl

text-segment : segment_text (SetLabel 1 ∷ Instruction Jump false (Label 1) ∷ End ∷ []) ≡ codes "1\nJL1\nZ\n"
unfolding digits
text-segment = refl

words-parted : words_of (codes " Z\n1\tC7") ≡ codes "Z" ∷ codes "1" ∷ codes "C7" ∷ []
words-parted = refl

label-twice : item_fault (SetLabel 1 ∷ []) (SetLabel 1) ≡ Some LabelSetTwice
label-twice = refl

label-not-set : item_fault (LabelWord 7 ∷ []) End ≡ Some LabelNotSet
label-not-set = refl

label-set-later : item_fault (LabelWord 7 ∷ SetLabel 7 ∷ []) End ≡ None
label-set-later = refl

frame-twice : item_fault (Frame 16 ∷ Byte 7 ∷ []) (Frame 17) ≡ Some FrameGivenTwice
frame-twice = refl

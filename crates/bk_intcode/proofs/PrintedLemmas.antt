-- The words of what is printed.
use Rattle.bk_machine.specs.SegmentLaws.{segment_whole}
use Rattle.bk_intcode.proofs.WordLemmas.{nothing-empty, ◌≡◌, ◌≢◌, ℕ, suc, ◌++◌, Bool, true, false, pos, List, [], ◌∷◌, map, arith, refl, sym, ap, ◌∙◌, append_assoc, spelling, Function, Load, Operand, Number, Local, Global, Label, Item, Instruction, SetLabel, Byte, Word, LabelWord, SetGlobal, Frame, End, letter, indirect_text, operand_text, item_text, IsOperand, IsItem, AreItems, items_of, segment_text, is_blank, words_of, AreInWord, texts_of, words_of_all, PrintedIsParted, PrintedAreParted, PrintedSaysAgain, numeral-inside, spelling-inside, words_of-word, AreInWord-append}

operand-inside : (o : Operand) → IsOperand o → AreInWord (operand_text o)
operand-inside (Number n) fits = spelling-inside n fits
operand-inside (Local n) fits = (refl, spelling-inside n fits)
operand-inside (Global n) fits = (refl, spelling-inside n fits)
operand-inside (Label l) fits = (refl, numeral-inside l (omega (arith, fits.0, fits.1)))

indirect-inside : (i : Bool) → AreInWord (indirect_text i)
indirect-inside true = (refl, tt)
indirect-inside false = tt

letter-inside : (f : Function) → is_blank (letter f) ≡ false
letter-inside Load = refl
letter-inside _ = refl

-- no item's word has a blank
pub item-inside : (item : Item) → IsItem item → AreInWord (item_text item)
item-inside (Instruction f i o) fits = (letter-inside f, AreInWord-append (indirect_text i) (operand_text o) (indirect-inside i) (operand-inside o fits))
item-inside (SetLabel l) fits = numeral-inside l (omega (arith, fits.0, fits.1))
item-inside (Byte b) fits = (refl, numeral-inside b (omega arith))
item-inside (Word w) fits = (refl, spelling-inside w fits)
item-inside (LabelWord l) fits = (refl, (refl, numeral-inside l (omega (arith, fits.0, fits.1))))
item-inside (SetGlobal n l) fits = (refl, AreInWord-append (spelling (pos n)) (76 ∷ spelling (pos l)) (numeral-inside n (omega (arith, fits.0))) (refl, numeral-inside l (omega (arith, fits.1.0, fits.1.1))))
item-inside (Frame n) fits = (refl, numeral-inside n (omega (arith, fits.0, fits.1)))
item-inside End fits = (refl, tt)

-- a word in front of a line feed
word_of-line : (word more : List ℕ) → word ≢ [] → AreInWord word → words_of (word ++ 10 ∷ more) ≡ word ∷ words_of more
word_of-line [] more some in_word = absurd (some refl)
word_of-line (b ∷ word) more some in_word = words_of-word b word (10 ∷ more) in_word refl

-- the words of what is printed are those of the items, and then those of what follows
pub words_of-printed : (items : List Item) (more : List ℕ) → AreItems items → words_of (segment_text items ++ more) ≡ map item_text items ++ words_of more
words_of-printed [] more are = refl
words_of-printed (i ∷ items) more are =
    let fits : IsItem i = are 0 i refl in
    ap words_of (append_assoc (item_text i ++ 10 ∷ []) (segment_text items) more ∙ append_assoc (item_text i) (10 ∷ []) (segment_text items ++ more))
    ∙ word_of-line (item_text i) (segment_text items ++ more) (nothing-empty i fits) (item-inside i fits)
    ∙ ap (λ (w : List (List ℕ)). item_text i ∷ w) (words_of-printed items more (λ k item is. are (suc k) item is))

pub printed_is_parted : PrintedIsParted
printed_is_parted printed more = words_of-printed (items_of printed) more (segment_whole printed).in_range

pub printed_are_parted : PrintedAreParted
printed_are_parted [] more = refl
printed_are_parted (first ∷ others) more =
    ap words_of (append_assoc (segment_text (items_of first)) (texts_of others) more)
    ∙ printed_is_parted first (texts_of others ++ more)
    ∙ ap (λ (w : List (List ℕ)). map item_text (items_of first) ++ w) (printed_are_parted others more)
    ∙ sym (append_assoc (map item_text (items_of first)) (words_of_all others) (words_of more))

pub printed_again : PrintedSaysAgain
printed_again printed more = (words_of more, segment_whole printed, printed_is_parted printed more)

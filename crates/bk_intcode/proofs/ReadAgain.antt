-- What is printed is read again.
use Rattle.bk_intcode.proofs.Terms.{◌≡◌, ℕ, ◌++◌, List, Some, None, Ok, Err, IntcodeKind, Fault, Memory, Device, Item, items_of, segment_text, words_of, segment, nothing, fault, PrintedIsReadAgain}
use Rattle.bk_intcode.proofs.PrintedLemmas.{printed_again}
use Rattle.bk_intcode.proofs.OneSaying.{one_saying}

items_same : (a b : List Item) → segment a ≡ segment b → a ≡ b
items_same a b is = cc

segment_nothing : (a : List Item) → segment a ≡ nothing → ⊥
segment_nothing a is = cc

segment_fault : (a : List Item) (n : ℕ) (k : IntcodeKind) → segment a ≡ fault n k → ⊥
segment_fault a n k is = cc

pub read_again : PrintedIsReadAgain
read_again printed more (Ok (Some read)) says =
    items_same (items_of read) (items_of printed) (one_saying (words_of (segment_text (items_of printed) ++ more)) (segment (items_of read)) (segment (items_of printed)) says (printed_again printed more))
read_again printed more (Ok None) says =
    segment_nothing (items_of printed) (one_saying (words_of (segment_text (items_of printed) ++ more)) (segment (items_of printed)) nothing (printed_again printed more) says)
read_again printed more (Err (Fault reported)) says =
    segment_fault (items_of printed) reported.item reported.kind (one_saying (words_of (segment_text (items_of printed) ++ more)) (segment (items_of printed)) (fault reported.item reported.kind) (printed_again printed more) says)
read_again printed more (Err Memory) says = tt
read_again printed more (Err Device) says = tt

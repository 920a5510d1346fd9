-- What the words of a text say where a segment is due.
use Rattle.std.specs.Prelude.{◌≡◌, ◌⊎◌, ℕ, List, [], ◌∷◌, ◌++◌, map}
use Rattle.bk_base.specs.declared.intcode_fault.IntcodeKind.{IntcodeKind}
use Rattle.bk_base.specs.declared.intcode_fault.IntcodeKind.TheVariants.{Truncated}
use Rattle.bk_machine.specs.Segment.{IsSegment}
use Rattle.bk_machine.specs.declared.item.Item.{Item}
use Rattle.bk_intcode.specs.ItemText.{item_text}
use Rattle.bk_machine.specs.SegmentItems.{items_of}
use Rattle.bk_machine.specs.declared.segment.Intcode.{Intcode}
use Rattle.bk_intcode.specs.SegmentText.{segment_text}
use Rattle.bk_intcode.specs.SegmentReading.{FaultAt, CutAt}
use Rattle.bk_words.specs.Words.{words_of}

-- a segment, nothing, or the first fault with the number of its item
pub data Saying : Type 0 where
  segment : List Item → Saying
  nothing : Saying
  fault : ℕ → IntcodeKind → Saying

-- The first words are those of a segment, or none is left, or the first words have a fault, or the words end where an item
-- is due.
abbrev pub Says : Saying → List (List ℕ) → Type 0
Says (segment items) words = (rest : List (List ℕ)) × IsSegment items × (words ≡ map item_text items ++ rest)
Says nothing words = words ≡ []
Says (fault number kind) words =
    ((first rest : List (List ℕ)) × FaultAt first number kind × (words ≡ first ++ rest)) ⊎ ((kind ≡ Truncated) × CutAt words number)

-- Words say one thing at most.
abbrev pub SayOneThing : Type 0
SayOneThing = (words : List (List ℕ)) (a b : Saying) → Says a words → Says b words → a ≡ b

-- What is printed says the segment again, whatever follows.
abbrev pub PrintedSaysAgain : Type 0
PrintedSaysAgain = (printed : Intcode) (more : List ℕ) → Says (segment (items_of printed)) (words_of (segment_text (items_of printed) ++ more))

-- The words of a printed segment, with any text after it, are its words and then those of that text.
abbrev pub PrintedIsParted : Type 0
PrintedIsParted = (printed : Intcode) (more : List ℕ) → words_of (segment_text (items_of printed) ++ more) ≡ map item_text (items_of printed) ++ words_of more

-- So segments that are printed one after the other are read one by one: after the words of the first are those of the others.
abbrev pub texts_of : List Intcode → List ℕ
texts_of [] = []
texts_of (first ∷ others) = segment_text (items_of first) ++ texts_of others

abbrev pub words_of_all : List Intcode → List (List ℕ)
words_of_all [] = []
words_of_all (first ∷ others) = map item_text (items_of first) ++ words_of_all others

abbrev pub PrintedAreParted : Type 0
PrintedAreParted = (printed : List Intcode) (more : List ℕ) → words_of (texts_of printed ++ more) ≡ words_of_all printed ++ words_of more

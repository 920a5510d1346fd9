-- What a text says where a segment is due: a segment, nothing, or its first fault.
use Rattle.std.specs.Prelude.{◌≡◌, ◌≢◌, ◌⊎◌, ℕ, ◌+◌, ◌<◌, List, [], ◌∷◌, ◌++◌, Some, None, length, take, map, slice_get}
use Rattle.bk_base.specs.declared.intcode_fault.IntcodeKind.{IntcodeKind}
use Rattle.bk_base.specs.declared.intcode_fault.IntcodeKind.TheVariants.{Truncated}
use Rattle.bk_machine.specs.declared.item.Item.{Item}
use Rattle.bk_machine.specs.declared.item.Item.TheVariants.{End}
use Rattle.bk_intcode.specs.ItemText.{item_text}
use Rattle.bk_machine.specs.Segment.{IsSegment, AreItems}
use Rattle.bk_intcode.specs.ItemFault.{item_fault}
use Rattle.bk_intcode.specs.WordMeaning.{Means, WordFault}
use Rattle.bk_words.specs.Words.{words_of}
use Rattle.bk_words.specs.Taking.{TakesWords, StopsInWord}

-- Items of a segment that goes on: none has a fault after those before it, and none is the end.
pub record IsPartial (items : List Item) : Type 0 where
  pub in_range : AreItems items
  pub faultless : (k : ℕ) (item : Item) → slice_get items k ≡ Some item → item_fault (take k items) item ≡ None
  pub no_end : (k : ℕ) → slice_get items k ≢ Some End

-- The word has the fault where these items come before it. A word that means no item has its own fault, and an item
-- the first of those that it has after the others.
abbrev pub FaultAfter : List Item → List ℕ → IntcodeKind → Type 0
FaultAfter before word kind = WordFault word kind ⊎ ((item : Item) × Means word item × (item_fault before item ≡ Some kind))

-- The words are those of items without a fault, and the last word has this one. Items are counted from 1.
pub record FaultAt (words : List (List ℕ)) (number : ℕ) (kind : IntcodeKind) : Type 0 where
  pub before : List Item
  pub begun : IsPartial before
  pub word : List ℕ
  pub are : words ≡ map item_text before ++ word ∷ []
  pub place : number ≡ length before + 1
  pub fault : FaultAfter before word kind

-- The words are those of items without a fault, and a further item is due.
pub record CutAt (words : List (List ℕ)) (number : ℕ) : Type 0 where
  pub before : List Item
  pub begun : IsPartial before
  pub some : 0 < length before
  pub are : words ≡ map item_text before
  pub place : number ≡ length before + 1

-- The bytes that were taken are the words of this segment.
abbrev pub GivesSegment : List ℕ → Type 0 → List Item → Type 0
GivesSegment taken end items = IsSegment items × TakesWords taken end (map item_text items)

-- Only blanks were left.
abbrev pub GivesNothing : List ℕ → Type 0 → Type 0
GivesNothing taken end = (words_of taken ≡ []) × end

-- The bytes that were taken have this first fault.
abbrev pub GivesFault : List ℕ → Type 0 → ℕ → IntcodeKind → Type 0
GivesFault taken end number kind =
    ((words : List (List ℕ)) × TakesWords taken end words × FaultAt words number kind)
    ⊎ ((kind ≡ Truncated) × end × CutAt (words_of taken) number)

-- Memory was refused at the last word that was taken; those before it are the words of items without a fault.
pub record StopsAtWord (taken : List ℕ) (end : Type 0) : Type 0 where
  pub before : List Item
  pub begun : IsPartial before
  pub word : List ℕ
  pub are : TakesWords taken end (map item_text before ++ word ∷ [])

-- The device failed after the words of items without a fault, of which none is the end. After the blanks that follow them no
-- more was taken than the bytes of one word that did not end.
pub record StopsAtDevice (taken : List ℕ) : Type 0 where
  pub before : List Item
  pub begun : IsPartial before
  pub are : StopsInWord taken (map item_text before)

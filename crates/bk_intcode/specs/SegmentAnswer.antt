-- What a call that reads a segment answers.
use Rattle.std.specs.Prelude.{◌≡◌, ◌++◌, ℕ, Bool, true, false, List, [], length, map, Option, None, Some, Result, Ok, Err, ⊤}
use Rattle.std.specs.Io.KnownBytes.{Consumes}
use Rattle.bk_base.specs.declared.intcode_fault.IntcodeFault.{IntcodeFault}
use Rattle.bk_base.specs.declared.refused.Refused.{Refused}
use Rattle.bk_base.specs.declared.refused.Refused.TheVariants.{Fault, Memory, Device}
use Rattle.bk_machine.specs.declared.segment.Intcode.{Intcode}
use Rattle.bk_machine.specs.declared.item.Item.{Item}
use Rattle.bk_machine.specs.SegmentItems.{items_of}
use Rattle.bk_intcode.specs.ItemText.{item_text}
use Rattle.bk_intcode.specs.SegmentText.{segment_text}
use Rattle.bk_words.specs.Words.{words_of}
use Rattle.bk_words.specs.TextEnd.{AtEnd}
use Rattle.bk_intcode.specs.FirstSaying.{Says, segment, nothing, fault}
use Rattle.bk_intcode.specs.SegmentReading.{GivesSegment, GivesNothing, GivesFault, StopsAtWord, StopsAtDevice}

-- Known bytes that were left lost these, of which this holds, given that the text ends there.
abbrev pub Takes : Option (List ℕ) → Option (List ℕ) → Bool → (List ℕ → Type 0 → Type 0) → Type 0
Takes old new ended what = (taken : List ℕ) × Consumes old new taken × what taken (AtEnd ended (length taken))

-- The answer is what the bytes taken say. Where memory was refused nothing is taken after the word at which it was, save one
-- blank. Where the device failed no segment had come to its end.
abbrev pub Answers : Result (Option Intcode) (Refused IntcodeFault) → Option (List ℕ) → Option (List ℕ) → Bool → Type 0
Answers (Ok (Some read)) old new ended = Takes old new ended (λ taken end. GivesSegment taken end (items_of read))
Answers (Ok None) old new ended = Takes old new ended GivesNothing
Answers (Err (Fault reported)) old new ended = Takes old new ended (λ taken end. GivesFault taken end reported.item reported.kind)
Answers (Err Memory) old new ended = Takes old new ended StopsAtWord
Answers (Err Device) old new ended = Takes old new ended (λ taken end. StopsAtDevice taken)

-- What the answer says of a text that begins with these bytes, which were taken, unless memory was refused or the device
-- failed.
abbrev pub Applies : Result (Option Intcode) (Refused IntcodeFault) → List ℕ → List ℕ → Type 0
Applies (Ok (Some read)) taken more = words_of (taken ++ more) ≡ map item_text (items_of read) ++ words_of more
Applies (Ok None) taken more = words_of (taken ++ more) ≡ []
Applies (Err (Fault reported)) taken more = Says (fault reported.item reported.kind) (words_of (taken ++ more))
Applies (Err Memory) taken more = ⊤
Applies (Err Device) taken more = ⊤

-- This holds whatever follows: nothing, where the text ends.
abbrev pub AppliesWhateverFollows : Result (Option Intcode) (Refused IntcodeFault) → Option (List ℕ) → Option (List ℕ) → Bool → Type 0
AppliesWhateverFollows (Err Memory) old new ended = ⊤
AppliesWhateverFollows (Err Device) old new ended = ⊤
AppliesWhateverFollows answer old new ended = Takes old new ended (λ taken end. (more : List ℕ) → (end → more ≡ []) → Applies answer taken more)

abbrev pub is_device : Result (Option Intcode) (Refused IntcodeFault) → Bool
is_device (Ok read) = false
is_device (Err (Fault reported)) = false
is_device (Err Memory) = false
is_device (Err Device) = true

-- The answer is what these words say, unless memory was refused or the device failed.
abbrev pub AnswersWords : Result (Option Intcode) (Refused IntcodeFault) → List (List ℕ) → Type 0
AnswersWords (Ok (Some read)) words = Says (segment (items_of read)) words
AnswersWords (Ok None) words = Says nothing words
AnswersWords (Err (Fault reported)) words = Says (fault reported.item reported.kind) words
AnswersWords (Err Memory) words = ⊤
AnswersWords (Err Device) words = ⊤

-- The answer is these items' segment, unless memory was refused or the device failed.
abbrev pub ReadsAgain : Result (Option Intcode) (Refused IntcodeFault) → List Item → Type 0
ReadsAgain (Ok (Some read)) items = items_of read ≡ items
ReadsAgain (Ok None) items = ⊥
ReadsAgain (Err (Fault reported)) items = ⊥
ReadsAgain (Err Memory) items = ⊤
ReadsAgain (Err Device) items = ⊤

-- What is printed is read again as the same segment, whatever follows.
abbrev pub PrintedIsReadAgain : Type 0
PrintedIsReadAgain = (printed : Intcode) (more : List ℕ) (answer : Result (Option Intcode) (Refused IntcodeFault)) →
    AnswersWords answer (words_of (segment_text (items_of printed) ++ more)) → ReadsAgain answer (items_of printed)

-- Where the device failed, the words with a blank after them, which were taken, neither are a segment nor begin with one.
abbrev pub NoSegmentPassed : Type 0
NoSegmentPassed = (taken : List ℕ) (stops : StopsAtDevice taken) (items : List Item) → Says (segment items) (words_of stops.are.front) → ⊥

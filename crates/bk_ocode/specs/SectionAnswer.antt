-- What a call that reads a section answers.
use Rattle.std.specs.Prelude.{◌≡◌, ◌⊎◌, ◌++◌, ◌+◌, ◌≤◌, ℕ, Bool, true, false, List, [], ◌∷◌, length, Option, None, Some, Result, Ok, Err, ⊤}
use Rattle.std.specs.Io.KnownBytes.{Consumes}
use Rattle.bk_base.specs.declared.limit.TheConstants.{OCODE_WORDS}
use Rattle.bk_base.specs.declared.ocode_fault.OcodeFault.{OcodeFault}
use Rattle.bk_base.specs.declared.ocode_fault.OcodeKind.{OcodeKind}
use Rattle.bk_base.specs.declared.ocode_fault.OcodeKind.TheVariants.{Truncated}
use Rattle.bk_base.specs.declared.refused.Refused.{Refused}
use Rattle.bk_base.specs.declared.refused.Refused.TheVariants.{Fault, Memory, Device}
use Rattle.bk_words.specs.TextEnd.{AtEnd}
use Rattle.bk_words.specs.Words.{words_of}
use Rattle.bk_words.specs.Taking.{TakesWords, StopsInWord}
use Rattle.bk_ocode.specs.Lists.{joined}
use Rattle.bk_ocode.specs.SectionText.{section_words, section_text}
use Rattle.bk_ocode.specs.SectionStmts.{stmts_of}
use Rattle.bk_ocode.specs.StmtRange.{AreTyped}
use Rattle.bk_ocode.specs.Section.{IsSection}
use Rattle.bk_ocode.specs.FirstFault.{IsPartial, BeginsStmt, FaultOf, CutAt, Says, section, nothing, fault}
use Rattle.bk_ocode.specs.declared.section.Ocode.{Ocode}
use Rattle.bk_ocode.specs.declared.stmt.Stmt.{Stmt}

-- Known bytes that were left lost these, of which this holds, given that the text ends there.
abbrev pub Takes : Option (List ℕ) → Option (List ℕ) → Bool → (List ℕ → Type 0 → Type 0) → Type 0
Takes old new ended what = (taken : List ℕ) × Consumes old new taken × what taken (AtEnd ended (length taken))

-- The bytes that were taken are the words of this section.
abbrev pub GivesSection : List ℕ → Type 0 → List Stmt → Type 0
GivesSection taken end stmts = IsSection stmts × AreTyped stmts × TakesWords taken end (section_words stmts)

-- Only blanks were left.
abbrev pub GivesNothing : List ℕ → Type 0 → Type 0
GivesNothing taken end = (words_of taken ≡ []) × end

-- The words that were taken are those of statements without a fault, and some of the next with this fault.
pub record GivesFaultAt (taken : List ℕ) (end : Type 0) (number : ℕ) (kind : OcodeKind) : Type 0 where
  pub before : List Stmt
  pub begun : IsPartial before
  pub part : List (List ℕ)
  pub place : number ≡ length before + 1
  pub are : TakesWords taken end (section_words before ++ part)
  pub fault : FaultOf before part kind

-- The bytes that were taken have this first fault.
abbrev pub GivesFault : List ℕ → Type 0 → ℕ → OcodeKind → Type 0
GivesFault taken end number kind = GivesFaultAt taken end number kind ⊎ ((kind ≡ Truncated) × end × CutAt (words_of taken) number)

-- Memory was refused at the last word that was taken: those before it are the words of statements without a fault, and none
-- or some that begin the next, within the limit.
pub record StopsAtWord (taken : List ℕ) (end : Type 0) : Type 0 where
  pub before : List Stmt
  pub begun : IsPartial before
  pub part : List (List ℕ)
  pub goes_on : (part ≡ []) ⊎ BeginsStmt before part
  pub within : length (section_words before ++ part) ≤ OCODE_WORDS
  pub word : List ℕ
  pub are : TakesWords taken end (section_words before ++ (part ++ word ∷ []))

-- The device failed after words of statements without a fault, and none or some that begin the next, within the limit. After
-- the blanks that follow them no more was taken than the bytes of one word that did not end.
pub record StopsAtDevice (taken : List ℕ) : Type 0 where
  pub before : List Stmt
  pub begun : IsPartial before
  pub part : List (List ℕ)
  pub goes_on : (part ≡ []) ⊎ BeginsStmt before part
  pub within : length (section_words before ++ part) ≤ OCODE_WORDS
  pub are : StopsInWord taken (section_words before ++ part)

-- The answer is what the bytes taken say. Where memory was refused nothing is taken after the word at which it was, save one
-- blank. Where the device failed no section had come to its end.
abbrev pub Answers : Result (Option Ocode) (Refused OcodeFault) → Option (List ℕ) → Option (List ℕ) → Bool → Type 0
Answers (Ok (Some read)) old new ended = Takes old new ended (λ taken end. GivesSection taken end (stmts_of read))
Answers (Ok None) old new ended = Takes old new ended GivesNothing
Answers (Err (Fault reported)) old new ended = Takes old new ended (λ taken end. GivesFault taken end reported.statement reported.kind)
Answers (Err Memory) old new ended = Takes old new ended StopsAtWord
Answers (Err Device) old new ended = Takes old new ended (λ taken end. StopsAtDevice taken)

-- What the answer says of a text that begins with these bytes, which were taken, unless memory was refused or the device
-- failed.
abbrev pub Applies : Result (Option Ocode) (Refused OcodeFault) → List ℕ → List ℕ → Type 0
Applies (Ok (Some read)) taken more = words_of (taken ++ more) ≡ section_words (stmts_of read) ++ words_of more
Applies (Ok None) taken more = words_of (taken ++ more) ≡ []
Applies (Err (Fault reported)) taken more = Says (fault reported.statement reported.kind) (words_of (taken ++ more))
Applies (Err Memory) taken more = ⊤
Applies (Err Device) taken more = ⊤

-- This holds whatever follows: nothing, where the text ends.
abbrev pub AppliesWhateverFollows : Result (Option Ocode) (Refused OcodeFault) → Option (List ℕ) → Option (List ℕ) → Bool → Type 0
AppliesWhateverFollows (Err Memory) old new ended = ⊤
AppliesWhateverFollows (Err Device) old new ended = ⊤
AppliesWhateverFollows answer old new ended = Takes old new ended (λ taken end. (more : List ℕ) → (end → more ≡ []) → Applies answer taken more)

-- The answer is what these words say, unless memory was refused or the device failed.
abbrev pub AnswersWords : Result (Option Ocode) (Refused OcodeFault) → List (List ℕ) → Type 0
AnswersWords (Ok (Some read)) words = Says (section (stmts_of read)) words
AnswersWords (Ok None) words = Says nothing words
AnswersWords (Err (Fault reported)) words = Says (fault reported.statement reported.kind) words
AnswersWords (Err Memory) words = ⊤
AnswersWords (Err Device) words = ⊤

-- The answer is the section of these statements, unless memory was refused or the device failed.
abbrev pub ReadsAgain : Result (Option Ocode) (Refused OcodeFault) → List Stmt → Type 0
ReadsAgain (Ok (Some read)) stmts = stmts_of read ≡ stmts
ReadsAgain (Ok None) stmts = ⊥
ReadsAgain (Err (Fault reported)) stmts = ⊥
ReadsAgain (Err Memory) stmts = ⊤
ReadsAgain (Err Device) stmts = ⊤

-- The words of a printed section, with any text after it, are its words and then those of that text.
abbrev pub PrintedIsParted : Type 0
PrintedIsParted = (printed : Ocode) (more : List ℕ) → words_of (section_text (stmts_of printed) ++ more) ≡ section_words (stmts_of printed) ++ words_of more

-- So sections that are printed one after the other are read one by one: after the words of the first are those of the others.
abbrev pub texts_of : List Ocode → List ℕ
texts_of printed = joined (λ one. section_text (stmts_of one)) printed

abbrev pub words_of_all : List Ocode → List (List ℕ)
words_of_all printed = joined (λ one. section_words (stmts_of one)) printed

abbrev pub PrintedAreParted : Type 0
PrintedAreParted = (printed : List Ocode) (more : List ℕ) → words_of (texts_of printed ++ more) ≡ words_of_all printed ++ words_of more

-- What is printed says the section again, whatever follows.
abbrev pub PrintedSaysAgain : Type 0
PrintedSaysAgain = (printed : Ocode) (more : List ℕ) → Says (section (stmts_of printed)) (words_of (section_text (stmts_of printed) ++ more))

-- What is printed is read again as the same section, whatever follows.
abbrev pub PrintedIsReadAgain : Type 0
PrintedIsReadAgain = (printed : Ocode) (more : List ℕ) (answer : Result (Option Ocode) (Refused OcodeFault)) →
    AnswersWords answer (words_of (section_text (stmts_of printed) ++ more)) → ReadsAgain answer (stmts_of printed)

-- Where the device failed, the words with a blank after them, which were taken, neither are a section nor begin with one.
abbrev pub NoSectionPassed : Type 0
NoSectionPassed = (taken : List ℕ) (stops : StopsAtDevice taken) (stmts : List Stmt) → Says (section stmts) (words_of stops.are.front) → ⊥

abbrev pub is_device : Result (Option Ocode) (Refused OcodeFault) → Bool
is_device (Ok read) = false
is_device (Err (Fault reported)) = false
is_device (Err Memory) = false
is_device (Err Device) = true

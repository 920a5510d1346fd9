-- What the words of a text say where a section is due: a section, nothing, or the first fault.
use Rattle.std.specs.Prelude.{◌≡◌, ◌≢◌, ◌⊎◌, ℕ, ◌+◌, ◌<◌, ◌≤◌, true, false, List, [], ◌∷◌, ◌++◌, Some, length}
use Rattle.bk_base.specs.declared.limit.TheConstants.{OCODE_WORDS}
use Rattle.bk_base.specs.declared.ocode_fault.OcodeKind.{OcodeKind}
use Rattle.bk_base.specs.declared.ocode_fault.OcodeKind.TheVariants.{BadWord, BadNumber, Truncated, LabelNotSet, LabelSetTwice, DepthsDisagree, SlotAboveDepth, TooLong}
use Rattle.bk_ocode.specs.StmtText.{keyword, stmt_words}
use Rattle.bk_ocode.specs.SectionText.{section_words}
use Rattle.bk_ocode.specs.StmtRange.{InRange, IsTyped, AreTyped}
use Rattle.bk_ocode.specs.Context.{context_of}
use Rattle.bk_ocode.specs.Faults.{misplaced, stmt_fault}
use Rattle.bk_ocode.specs.Section.{AreFaultless, IsSection}
use Rattle.bk_ocode.specs.declared.standing.Position.TheVariants.{Ended}
use Rattle.bk_ocode.specs.declared.stmt.Stmt.{Stmt}

-- the statements whose numbers are in their ranges
abbrev pub IsStmt : Stmt → Type 0
IsStmt s = InRange s × IsTyped s

-- Statements of a section that goes on: they are without a fault, and none is the end.
pub record IsPartial (before : List Stmt) : Type 0 where
  pub are_faultless : AreFaultless before
  pub are_typed : AreTyped before
  pub goes_on : (context_of before).position ≢ Ended

-- These words begin a statement that may follow the others, and more words are due in it.
pub record BeginsStmt (before : List Stmt) (part : List (List ℕ)) : Type 0 where
  pub stmt : Stmt
  pub is_stmt : IsStmt stmt
  pub may_stand : misplaced (context_of before) stmt ≡ false
  pub word : List ℕ
  pub rest : List (List ℕ)
  pub begins : stmt_words stmt ≡ part ++ (word ∷ rest)

-- 1: no statement that begins with the word may be there
pub record IsBadWord (before : List Stmt) (part : List (List ℕ)) : Type 0 where
  pub word : List ℕ
  pub first : part ≡ word ∷ []
  pub misplaced : (s : Stmt) → keyword s ≡ word → misplaced (context_of before) s ≡ true

-- 2: the words before it begin a statement and are within the limit, and with it no statement begins so
pub record IsBadNumber (before : List Stmt) (part : List (List ℕ)) : Type 0 where
  pub front : List (List ℕ)
  pub word : List ℕ
  pub last : part ≡ front ++ word ∷ []
  pub some : 0 < length front
  pub begun : BeginsStmt before front
  pub within : length (section_words before ++ front) ≤ OCODE_WORDS
  pub none : (s : Stmt) (rest : List (List ℕ)) → IsStmt s → stmt_words s ≢ part ++ rest

-- 4 to 8: the words are those of a statement that breaks this rule, and none with a lower number, after the others. Its
-- last word is at most the first past the limit of words.
pub record BreaksRule (before : List Stmt) (part : List (List ℕ)) (kind : OcodeKind) : Type 0 where
  pub stmt : Stmt
  pub is_stmt : IsStmt stmt
  pub words : part ≡ stmt_words stmt
  pub within : length (section_words before ++ part) ≤ OCODE_WORDS + 1
  pub breaks : stmt_fault before stmt ≡ Some kind

-- 8: the last of the words is the first past the limit of words, and the statement goes on
pub record PassesWords (before : List Stmt) (part : List (List ℕ)) : Type 0 where
  pub begun : BeginsStmt before part
  pub past : length (section_words before ++ part) ≡ OCODE_WORDS + 1

-- The fault of the first words of a statement, after others without a fault.
abbrev pub FaultOf : List Stmt → List (List ℕ) → OcodeKind → Type 0
FaultOf before part BadWord = IsBadWord before part
FaultOf before part BadNumber = IsBadNumber before part
FaultOf before part Truncated = ⊥
FaultOf before part LabelNotSet = BreaksRule before part LabelNotSet
FaultOf before part LabelSetTwice = BreaksRule before part LabelSetTwice
FaultOf before part DepthsDisagree = BreaksRule before part DepthsDisagree
FaultOf before part SlotAboveDepth = BreaksRule before part SlotAboveDepth
FaultOf before part TooLong = BreaksRule before part TooLong ⊎ PassesWords before part

-- The first words are those of statements without a fault, and then some with this one. Statements count from 1.
pub record FaultAt (words : List (List ℕ)) (number : ℕ) (kind : OcodeKind) : Type 0 where
  pub before : List Stmt
  pub begun : IsPartial before
  pub part : List (List ℕ)
  pub rest : List (List ℕ)
  pub are : words ≡ section_words before ++ (part ++ rest)
  pub place : number ≡ length before + 1
  pub fault : FaultOf before part kind

-- 3: The words are within the limit, those of statements without a fault, and those that begin one or none, and more are due.
pub record CutAt (words : List (List ℕ)) (number : ℕ) : Type 0 where
  pub before : List Stmt
  pub begun : IsPartial before
  pub part : List (List ℕ)
  pub some : 0 < length words
  pub within : length words ≤ OCODE_WORDS
  pub are : words ≡ section_words before ++ part
  pub place : number ≡ length before + 1
  pub goes_on : (part ≡ []) ⊎ BeginsStmt before part

-- a section, nothing, or the first fault with the number of its statement
pub data Saying : Type 0 where
  section : List Stmt → Saying
  nothing : Saying
  fault : ℕ → OcodeKind → Saying

abbrev pub Says : Saying → List (List ℕ) → Type 0
Says (section stmts) words = (rest : List (List ℕ)) × IsSection stmts × AreTyped stmts × (words ≡ section_words stmts ++ rest)
Says nothing words = words ≡ []
Says (fault number kind) words = FaultAt words number kind ⊎ ((kind ≡ Truncated) × CutAt words number)

-- Words say one thing at most.
abbrev pub SayOneThing : Type 0
SayOneThing = (words : List (List ℕ)) (a b : Saying) → Says a words → Says b words → a ≡ b

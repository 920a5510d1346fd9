-- What generating INTCODE from a text of OCODE comes to.
use Rattle.std.specs.Prelude.{◌≡◌, ◌⊎◌, ℕ, ◌<◌, Bool, ⊤, List, [], ◌∷◌, ◌++◌, Option, Result, Ok, Err, length, map}
use Rattle.std.specs.Io.KnownBytes.{Consumes}
use Rattle.bk_base.specs.declared.limit.TheConstants.{INPUT_BYTES}
use Rattle.bk_base.specs.declared.ocode_fault.OcodeKind.{OcodeKind}
use Rattle.bk_base.specs.declared.ocode_fault.OcodeFault.{OcodeFault}
use Rattle.bk_base.specs.declared.refused.Refused.{Refused}
use Rattle.bk_base.specs.declared.refused.Refused.TheVariants as refusals
use Rattle.bk_base.specs.declared.refused.Refused.TheVariants.{Fault, Device}
use Rattle.bk_base.specs.Devices.{Begins}
use Rattle.bk_words.specs.TextEnd.{AtEnd}
use Rattle.bk_words.specs.Taking.{TakesWords}
use Rattle.bk_ocode.specs.Section.{IsSection}
use Rattle.bk_ocode.specs.StmtRange.{AreTyped}
use Rattle.bk_ocode.specs.SectionText.{section_words}
use Rattle.bk_ocode.specs.SectionAnswer.{GivesNothing, GivesFault, StopsAtWord, StopsAtDevice}
use Rattle.bk_ocode.specs.SectionAnswer as answers
use Rattle.bk_ocode.specs.FirstFault as first
use Rattle.bk_ocode.specs.declared.stmt.Stmt.{Stmt}
use Rattle.bk_machine.specs.declared.item.Item.{Item}
use Rattle.bk_machine.specs.Segment.{IsSegment}
use Rattle.bk_intcode.specs.SegmentText.{segment_text}
use Rattle.bk_gen.specs.Represents.{Represents, EndsWithFrame, frame_words}
use Rattle.bk_filters.specs.declared.kit_fault.KitFault.{KitFault}
use Rattle.bk_filters.specs.declared.kit_fault.KitFault.TheVariants.{Source, Ocode, Intcode, TooSmall, NoStart, Read, Write, Memory}
use Rattle.bk_filters.specs.Telling.{Output}
use Rattle.bk_filters.specs.Filters.{Puts, Ends}
use Rattle.bk_filters.specs.Texts.{Format, parts, refused, part_number, SaysWhateverFollows}

-- sections of OCODE as parts of a text, with numbers and bytes of their types
abbrev pub ocode : Format (List Stmt) OcodeKind
ocode = record { Whole = λ stmts. IsSection stmts × AreTyped stmts; words = section_words; Refuses = λ statement kind words. first.Says (first.fault statement kind) words }

-- what the kit answers of a section after so many others that is refused
abbrev pub ocode_refused : ℕ → Refused OcodeFault → KitFault
ocode_refused before (Fault fault) = Ocode (part_number before) fault
ocode_refused before refusals.Memory = Memory
ocode_refused before Device = Read

-- A section of OCODE with the bytes that were taken for it, and its segment.
pub record Generated : Type 0 where
  pub bytes : List ℕ
  pub stmts : List Stmt
  pub items : List Item

-- These bytes are those of the section up to its last word, with one blank after it unless the text ended there.
pub record IsRead (bytes : List ℕ) (stmts : List Stmt) : Type 0 where
  pub ended : Bool
  pub are : TakesWords bytes (AtEnd ended (length bytes)) (section_words stmts)
  pub section : IsSection stmts
  pub typed : AreTyped stmts

-- The segment represents the section.
pub record IsGenerated (g : Generated) : Type 0 where
  pub read : IsRead g.bytes g.stmts
  pub segment : IsSegment g.items
  pub applies : Represents g.items g.stmts
  -- it states the section's largest depth
  pub frame : EndsWithFrame g.items (frame_words g.stmts)

abbrev pub AreGenerated : List Generated → Type 0
AreGenerated [] = ⊤
AreGenerated (g ∷ rest) = IsGenerated g × AreGenerated rest

abbrev pub bytes_of : List Generated → List ℕ
bytes_of [] = []
bytes_of (g ∷ rest) = g.bytes ++ bytes_of rest

abbrev pub sections_of : List Generated → List (List Stmt)
sections_of sections = map (λ (g : Generated). g.stmts) sections

-- the texts of segments, one after another
abbrev pub texts_of : List Generated → List ℕ
texts_of [] = []
texts_of (g ∷ rest) = segment_text g.items ++ texts_of rest

-- What ends the generating after whole sections, where so much of the input was left after them, and is left now, and this text
-- is written of the next: each answer but a refused write. `reads` counts the failures of the input.
abbrev pub Comes : List Generated → (following new : Option (List ℕ)) → Bool → ℕ → Result (Unit {0}) KitFault → List ℕ → Type 0
-- only blanks were left
Comes sections following new ended reads (Ok done) text =
    answers.Takes following new ended GivesNothing
    × answers.Takes following new ended (λ part end. SaysWhateverFollows ocode (parts (sections_of sections)) (bytes_of sections ++ part) ended)
    × (text ≡ []) × (reads ≡ 0)
-- a section is refused: nothing is written of it, and what was taken ends with the words at fault, or one blank after them
Comes sections following new ended reads (Err (Ocode number fault)) text =
    answers.Takes following new ended (λ part end. GivesFault part end fault.statement fault.kind)
    × answers.Takes following new ended (λ part end. SaysWhateverFollows ocode (refused number fault.statement fault.kind) (bytes_of sections ++ part) ended)
    × (text ≡ []) × (reads ≡ 0)
-- the read failed where the next section had not come to its end
Comes sections following new ended reads (Err Read) text = answers.Takes following new ended (λ part end. StopsAtDevice part) × (text ≡ []) × (reads ≡ 1)
-- memory was refused at a word of a section, or after one
Comes sections following new ended reads (Err Memory) text =
    answers.Takes following new ended (λ part end. StopsAtWord part end ⊎ ((stmts : List Stmt) × IsRead part stmts)) × (text ≡ []) × (reads ≡ 0)
Comes sections following new ended reads (Err Write) text = ⊥
Comes sections following new ended reads (Err (Source fault)) text = ⊥
Comes sections following new ended reads (Err (Intcode number fault)) text = ⊥
Comes sections following new ended reads (Err TooSmall) text = ⊥
Comes sections following new ended reads (Err NoStart) text = ⊥

-- A section was read, with the text of its segment: nothing was read after it.
abbrev pub Takes : (following new : Option (List ℕ)) → ℕ → List ℕ → Type 0
Takes following new reads text = (g : Generated) × IsGenerated g × Consumes following new g.bytes × (text ≡ segment_text g.items) × (reads ≡ 0)

-- Whole sections were taken; then this holds of them and of what was left after them.
pub record Delivers (old : Option (List ℕ)) (Holds : List Generated → Option (List ℕ) → Type 0) : Type 0 where
  pub sections : List Generated
  pub generated : AreGenerated sections
  pub following : Option (List ℕ)
  pub delivered : Consumes old following (bytes_of sections)
  -- a text is taken to have less bytes than one call reads
  pub holds : length (bytes_of sections) < INPUT_BYTES → Holds sections following

-- What generating answers, reads and writes.
pub record Generates (answer : Result (Unit {0}) KitFault) (old new : Option (List ℕ)) (ended : Bool) (reads : ℕ) (before after : Output) : Type 0 where
  pub delivers : Delivers old (λ sections following. Ends (Comes sections following new ended reads) (Takes following new reads) (texts_of sections) before after answer)
  pub passes : Begins before.passed after.passed

-- the same before the last flush
pub record PutsSegments (answer : Result (Unit {0}) KitFault) (old new : Option (List ℕ)) (ended : Bool) (reads : ℕ) (before after : Output) : Type 0 where
  pub delivers : Delivers old (λ sections following. Puts (Comes sections following new ended reads) (Takes following new reads) (texts_of sections) before after answer)
  pub passes : Begins before.passed after.passed

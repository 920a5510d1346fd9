-- What compiling a source comes to.
use Rattle.std.specs.Prelude.{◌≡◌, ℕ, ◌<◌, ◌≤◌, Bool, true, false, ⊤, List, [], ◌∷◌, ◌++◌, Option, Result, Ok, Err, length}
use Rattle.std.specs.Io.KnownBytes.{Consumes}
use Rattle.bk_base.specs.declared.limit.TheConstants.{INPUT_BYTES}
use Rattle.bk_base.specs.Devices.{Begins}
use Rattle.bk_lex.specs.Lexing.{Section}
use Rattle.bk_tree.specs.Tree.{Declarations}
use Rattle.bk_ocode.specs.StmtRange.{AreBytes, AreTyped}
use Rattle.bk_ocode.specs.declared.stmt.Stmt.{Stmt}
use Rattle.bk_filters.specs.declared.kit_fault.KitFault.{KitFault}
use Rattle.bk_filters.specs.declared.kit_fault.KitFault.TheVariants.{Source, Ocode, Intcode, TooSmall, NoStart, Read, Write, Memory}
use Rattle.bk_filters.specs.ReadingSource.{IsUndecided, Asked, Follows}
use Rattle.bk_filters.specs.Sources.{Accepted, Refused, WholeSection, bytes_of, codes_of, codes_of_trees, line_following, AreAccepted, texts_of}
use Rattle.bk_filters.specs.Telling.{Output}
use Rattle.bk_filters.specs.Filters.{Puts, Ends}

-- the numbers and bytes of all statements are those of their types
abbrev pub AreAllTyped : List (List Stmt) → Type 0
AreAllTyped [] = ⊤
AreAllTyped (stmts ∷ codes) = AreTyped stmts × AreAllTyped codes

-- The section that these bytes begin is accepted, whatever follows them.
abbrev pub Accepts : List ℕ → ℕ → Bool → Section → List Declarations → Type 0
Accepts part line ended section trees = (rest : List ℕ) → Follows ended rest → Accepted (part ++ rest) line section trees

-- What ends the compiling after the sections that a `.` ended, where this was delivered of the next, and this text is written of
-- it: each answer but a refused write. `reads` counts the failures of the source.
abbrev pub Comes : List ℕ → ℕ → Bool → ℕ → Result (Unit {0}) KitFault → List ℕ → Type 0
-- the last section, which the source's end ends
Comes part line ended reads (Ok done) text =
    (section : Section) × (trees : List Declarations) × Accepts part line ended section trees × (text ≡ texts_of (codes_of_trees trees))
    × (section.ended ≡ false) × (ended ≡ true) × (reads ≡ 0) × AreBytes part × AreAllTyped (codes_of_trees trees)
-- a section that is refused, whatever follows: nothing is written of it
Comes part line ended reads (Err (Source fault)) text =
    ((rest : List ℕ) → Follows ended rest → Refused fault (part ++ rest) line) × (text ≡ []) × (reads ≡ 0)
-- the read failed where it was not decided yet how the section ends
Comes part line ended reads (Err Read) text = IsUndecided part × (text ≡ []) × (reads ≡ 1)
Comes part line ended reads (Err Memory) text = (text ≡ []) × (reads ≡ 0)
Comes part line ended reads (Err Write) text = ⊥
Comes part line ended reads (Err TooSmall) text = ⊥
Comes part line ended reads (Err NoStart) text = ⊥
Comes part line ended reads (Err (Ocode number fault)) text = ⊥
Comes part line ended reads (Err (Intcode number fault)) text = ⊥

-- A section that is accepted, with its text in OCODE: nothing was read after it.
abbrev pub Takes : List ℕ → ℕ → Bool → ℕ → List ℕ → Type 0
Takes part line ended reads text =
    (section : Section) × (trees : List Declarations) × Accepts part line ended section trees × (text ≡ texts_of (codes_of_trees trees)) × (reads ≡ 0)

-- Accepted sections were delivered, each with its `.`, and some bytes of the next.
pub record Delivered (old new : Option (List ℕ)) : Type 0 where
  pub sections : List WholeSection
  pub part : List ℕ
  pub delivered : Consumes old new (bytes_of sections ++ part)
  pub accepted : (rest : List ℕ) → AreAccepted 1 sections rest
  -- the bytes of the sections, and the numbers and bytes of their statements, are those of their types
  pub bytes : AreBytes (bytes_of sections)
  pub typed : AreAllTyped (codes_of sections)
  -- no byte was asked for after the first by which it is decided how the next section ends, or that it is refused
  pub asked : Asked part
  -- one call reads no more than so many bytes, and a source is taken to have less
  pub within : length (bytes_of sections ++ part) ≤ INPUT_BYTES

-- This holds of the texts of these sections in OCODE, of the bytes of the next, and of the line on which they begin.
pub record Delivers (old new : Option (List ℕ)) (Holds : List ℕ → List ℕ → ℕ → Type 0) : Type 0 where
  pub front : Delivered old new
  pub holds : length (bytes_of front.sections ++ front.part) < INPUT_BYTES → Holds (texts_of (codes_of front.sections)) front.part (line_following 1 front.sections)

-- What compiling a source answers, reads and writes.
pub record Compiles (answer : Result (Unit {0}) KitFault) (old new : Option (List ℕ)) (ended : Bool) (reads : ℕ) (before after : Output) : Type 0 where
  pub delivers : Delivers old new (λ front part line. Ends (Comes part line ended reads) (Takes part line ended reads) front before after answer)
  pub passes : Begins before.passed after.passed

-- the same before the last flush
pub record PutsSections (answer : Result (Unit {0}) KitFault) (old new : Option (List ℕ)) (ended : Bool) (reads : ℕ) (before after : Output) : Type 0 where
  pub delivers : Delivers old new (λ front part line. Puts (Comes part line ended reads) (Takes part line ended reads) front before after answer)
  pub passes : Begins before.passed after.passed

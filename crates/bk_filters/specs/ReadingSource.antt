-- Reading a source up to the end of its next section.
use Rattle.std.specs.Prelude.{◌≡◌, ℕ, ◌+◌, ◌<◌, ◌≤◌, Bool, IsTrue, List, [], ◌∷◌, ◌++◌, Option, length, take}
use Rattle.std.specs.Io.KnownBytes.{Consumes}
use Rattle.bk_base.specs.declared.limit.TheConstants.{SECTION_BYTES, INPUT_BYTES}
use Rattle.bk_lex.specs.Lexing.{lexed}
use Rattle.bk_lex.specs.Found.{SectionBytes, bytes_of, cut_after}
use Rattle.bk_lex.specs.Telling.{IsDecided}
use Rattle.bk_lex.specs.declared.cutter.Cut.TheVariants.{More}

-- It is not decided yet how a section ends that begins with these bytes.
abbrev pub IsUndecided : List ℕ → Type 0
IsUndecided bytes = (line : ℕ) → IsDecided line bytes → ⊥

-- Each of these bytes was asked for where the bytes before it left it undecided how the section ends.
abbrev pub Asked : List ℕ → Type 0
Asked bytes = (front : List ℕ) (byte : ℕ) (rest : List ℕ) → bytes ≡ front ++ byte ∷ rest → IsUndecided front

-- whatever may follow the bytes delivered: nothing, where the source's end was reported
abbrev pub Follows : Bool → List ℕ → Type 0
Follows ended rest = IsTrue ended → rest ≡ []

-- Nothing is read of a section that begins with these bytes but what is read of them; where the source's end was reported, nothing
-- follows.
abbrev pub Settles : List ℕ → Bool → Type 0
Settles bytes ended = (line : ℕ) (rest : List ℕ) → Follows ended rest → lexed (bytes ++ rest) line ≡ lexed bytes line

-- These bytes were delivered, and counted: a section, or the part of one that could be read, and no byte after it.
pub record IsDelivered (bytes : List ℕ) (old new : Option (List ℕ)) (before after : ℕ) : Type 0 where
  pub delivered : Consumes old new bytes
  pub asked : Asked bytes
  pub counted : after ≡ before + length bytes
  pub few : length bytes ≤ SECTION_BYTES + 1

-- Bytes that a source held were delivered to a lexer, and counted. Each of them was asked for where the machine goes on.
pub record TakesHeld (old new : Option (List ℕ)) (was is : SectionBytes) (before after : ℕ) : Type 0 where
  pub part : List ℕ
  pub delivered : Consumes old new part
  pub lexer : is ≡ bytes_of (was.bytes ++ part) was.from
  pub counted : after ≡ before + length part
  pub goes : (k : ℕ) → k < length part → cut_after (was.bytes ++ take k part) ≡ More

-- Some bytes were delivered, and this holds of each source that begins with them; where the source's end was reported, of just these.
-- One call reads no more than so many bytes, and a source is taken to have less.
pub record EachSource (old new : Option (List ℕ)) (ended : Bool) (Holds : List ℕ → Type 0) : Type 0 where
  pub text : List ℕ
  pub delivered : Consumes old new text
  pub within : length text ≤ INPUT_BYTES
  pub holds : length text < INPUT_BYTES → (rest : List ℕ) → Follows ended rest → Holds (text ++ rest)

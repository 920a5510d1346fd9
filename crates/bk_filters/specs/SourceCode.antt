-- The code of a source: texts of segments that represent its sections, what interpreting it comes to, and that the filters write it.
use Rattle.std.specs.Prelude.{◌≡◌, ◌≢◌, ℕ, ◌<◌, ◌≤◌, Bool, IsTrue, List, [], Option, Some, Result, Ok, OnOk, length}
use Rattle.std.specs.Io.KnownBytes.{Appends}
use Rattle.bk_base.specs.declared.limit.TheConstants.{INPUT_BYTES, STORE_MOST}
use Rattle.bk_base.specs.declared.run_end.End.{End}
use Rattle.bk_words.specs.Words.{words_of}
use Rattle.bk_machine.specs.Placement.{greatest_frame}
use Rattle.bk_gen.specs.BackEnd.{Part, segments, image}
use Rattle.bk_tree.specs.Tree.{Declarations}
use Rattle.bk_filters.specs.declared.kit_fault.KitFault.{KitFault}
use Rattle.bk_filters.specs.Headline.{Keeps}
use Rattle.bk_filters.specs.Telling.{Output}
use Rattle.bk_filters.specs.ReadingSource.{EachSource}
use Rattle.bk_filters.specs.Texts.{all_words}
use Rattle.bk_filters.specs.Code.{intcode}
use Rattle.bk_filters.specs.Compiling.{Compiles}
use Rattle.bk_filters.specs.Generating.{Generates}
use Rattle.bk_filters.specs.OcodeRuns.{ReportsFrames, IsNotRefused, FindsNoFault}
use Rattle.bk_filters.specs.Interpreting.{AnyBytes, Streams, Interpreted}
use Rattle.bk_filters.specs.Sizes.{sizes_line, Reports}
use Rattle.bk_filters.specs.SourceSections.{HasTrees, HasParts}
use Rattle.bk_filters.specs.SourceMeaning.{frame_of, image_of, meanings_with}

-- A text of segments of which each represents its section of the source: their words, with any blanks between them.
pub record IsCodeOf (source code : List ℕ) : Type 0 where
  pub parts : List Part
  pub has : HasParts parts source
  pub words : words_of code ≡ all_words intcode (segments parts)

-- generating from this text writes the code of this source, which reports its frames
abbrev pub WritesCode : List ℕ → List ℕ → Type 0
WritesCode source text =
    (left : Option (List ℕ)) (ended : Bool) (faults : ℕ) (before after : Output) (done : Unit {0}) → length text < INPUT_BYTES → (IsTrue ended → left ≡ Some [])
    → Generates (Ok done) (Some text) left ended faults before after
    → (code : List ℕ) × Appends before.taken after.taken code × ((is : IsCodeOf source code) × ReportsFrames is.parts)

-- The filters, one after the other. Where `compile` is answered Ok, what it wrote is a text; and where `generate_all` is answered Ok on a
-- device that holds just this text, what it wrote is the code of the source.
abbrev pub FiltersWriteCode : Type 0
FiltersWriteCode = (old new : Option (List ℕ)) (ended : Bool) (reads : ℕ) (before after : Output) (done : Unit {0}) → Compiles (Ok done) old new ended reads before after
    → EachSource old new ended (λ source. (text : List ℕ) × Appends before.taken after.taken text × WritesCode source text)

-- Interpreting the code of a source, where the device holds just that, promises of the source what running it does; the words before
-- the stack are those up to its first word. It speaks of a reader that can hold any bytes, as each is (`AnyReader`).
abbrev pub InterpretsSources : Type 0
InterpretsSources = (source code : List ℕ) (is : IsCodeOf source code) (answer : Result End KitFault) (steps words : ℕ) (new : Option (List ℕ)) (ended : Bool) (before after : Streams)
    → length code < INPUT_BYTES → words ≤ STORE_MOST → (IsTrue ended → new ≡ Some [])
    → Interpreted AnyBytes answer steps words (Some code) new ended before after
    → Keeps (meanings_with (λ trees. image is.parts)) source answer steps words before after

-- The largest frame that is reported of code that reports its frames is the number of the source.
abbrev pub FramesAreOfSources : Type 0
FramesAreOfSources = (source code : List ℕ) (is : IsCodeOf source code) → ReportsFrames is.parts → is.has.0 ≢ [] → greatest_frame (segments is.parts) ≡ frame_of is.has.0

-- ---- one after another

-- An accepted source with its trees. Each call finds a device that holds just what the call before it wrote.
module _ (source : List ℕ) (trees : List Declarations) where
  -- `interpret` keeps the headline of the source on this text, with so many words before the stack, and no more than `run_source`. `sizes`
  -- writes this number of the text, and the largest frame of the source.
  pub record RunsAs (code : List ℕ) : Type 0 where
    pub before_stack : ℕ
    pub within : before_stack ≤ image_of trees
    pub interprets : (answer : Result End KitFault) (steps words : ℕ) (new : Option (List ℕ)) (ended : Bool) (before after : Streams)
        → length code < INPUT_BYTES → words ≤ STORE_MOST → (IsTrue ended → new ≡ Some [])
        → Interpreted AnyBytes answer steps words (Some code) new ended before after
        → Keeps (meanings_with (λ trees. before_stack)) source answer steps words before after
    pub sizes : (answer : Result (Unit {0}) KitFault) (words : ℕ) (new : Option (List ℕ)) (ended : Bool) (before after : Output)
        → length code < INPUT_BYTES → (IsTrue ended → new ≡ Some [])
        → Reports answer words (Some code) new ended before after
        → FindsNoFault answer × OnOk answer (Appends before.taken after.taken (sizes_line (record { image = before_stack; frame = frame_of trees })))

  -- `generate_all` does not refuse this text, and what it writes of it runs so.
  abbrev pub GeneratesAs : List ℕ → Type 0
  GeneratesAs text =
      (answer : Result (Unit {0}) KitFault) (new : Option (List ℕ)) (ended : Bool) (reads : ℕ) (before after : Output)
      → length text < INPUT_BYTES → (IsTrue ended → new ≡ Some [])
      → Generates answer (Some text) new ended reads before after
      → IsNotRefused answer × OnOk answer ((code : List ℕ) × Appends before.taken after.taken code × RunsAs code)

  -- `compile` does not refuse the source, and of what it writes `generate_all` writes such code.
  abbrev pub CompilesAs : Type 0
  CompilesAs =
      (answer : Result (Unit {0}) KitFault) (new : Option (List ℕ)) (ended : Bool) (reads : ℕ) (before after : Output)
      → length source < INPUT_BYTES → (IsTrue ended → new ≡ Some [])
      → Compiles answer (Some source) new ended reads before after
      → IsNotRefused answer × OnOk answer ((text : List ℕ) × Appends before.taken after.taken text × GeneratesAs text)

-- `compile`, `generate_all`, and `interpret` or `sizes`, one after another.
abbrev pub OneAfterAnother : Type 0
OneAfterAnother = (source : List ℕ) (trees : List Declarations) → HasTrees source trees → CompilesAs source trees

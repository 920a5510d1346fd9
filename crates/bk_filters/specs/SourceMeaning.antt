-- What accepted sources mean, and which steps and words are enough to run them, by the numbers of the sources alone.
use Rattle.std.specs.Prelude.{◌≡◌, ◌≢◌, ◌⊎◌, ℕ, ◌+◌, ◌*◌, ◌<◌, ◌≤◌, true, false, List, ◌++◌, Some, None, Err}
use Rattle.bk_base.specs.Devices.{Begins}
use Rattle.bk_base.specs.declared.limit.TheConstants.{FRAME_WORDS, STORE_MOST}
use Rattle.bk_base.specs.declared.run_end.End.{End}
use Rattle.bk_base.specs.declared.run_end.End.TheVariants.{WriteFault}
use Rattle.bk_base.specs.declared.source_fault.SourceFault.{SourceFault}
use Rattle.bk_machine.specs.declared.registers.Registers.{Registers}
use Rattle.bk_machine.specs.Placement.{SEGMENTS, any_starts, loaded_store}
use Rattle.bk_machine.specs.Runs.{Ran, Blames}
use Rattle.bk_gen.specs.BackEnd.{Part, segments, image}
use Rattle.bk_ocode.specs.OcodeState.{State}
use Rattle.bk_ocode.specs.OcodeRun.{Program}
use Rattle.bk_ocode.specs.ProgramStart.{first_state}
use Rattle.bk_ocode.specs.WellPlaced.{IsWellPlaced}
use Rattle.bk_tree.specs.Tree.{Declarations}
use Rattle.bk_meaning.specs.Values.{address}
use Rattle.bk_meaning.specs.Memory.{read}
use Rattle.bk_meaning.specs.Environment.{globals_object}
use Rattle.bk_meaning.specs.Lasting.{program_of, first_memory}
use Rattle.bk_meaning.specs.World as world
use Rattle.bk_meaning.specs.Program as program
use Rattle.bk_meaning.specs.Program.{meaning}
use Rattle.bk_simulation.specs.Placement.{Represent}
use Rattle.bk_simulation.specs.Simulation.{end_of, EndsWithin, ComesWithin}
use Rattle.bk_filters.specs.declared.kit_fault.KitFault.TheVariants.{Source, TooSmall, NoStart}
use Rattle.bk_filters.specs.Interpreting.{AnyBytes, Streams, devices_of, first_registers}
use Rattle.bk_filters.specs.Headline.{Language, Runs, Keeps}
use Rattle.bk_filters.specs.SectionNumbers as numbers
use Rattle.bk_filters.specs.Sources.{codes_of_trees}
use Rattle.bk_filters.specs.SourceSections.{HasTrees, HasParts, IsRefused}

-- ---- numbers of a source

-- the words of the texts in OCODE that the scheme gives to its sections
abbrev pub text_of : List Declarations → ℕ
text_of trees = numbers.text_of (codes_of_trees trees)

-- the largest depth in them
abbrev pub depth_of : List Declarations → ℕ
depth_of trees = numbers.depth_of (codes_of_trees trees)

-- the same, and 16 where all are less
abbrev pub frame_of : List Declarations → ℕ
frame_of trees = numbers.frame_of (codes_of_trees trees)

-- the words before the stack: those that each program has, and at most 8 for each word of the texts
abbrev pub image_of : List Declarations → ℕ
image_of trees = SEGMENTS + 8 * text_of trees

-- So many steps of the machine are enough for so many turns, and so many words for so many calls at once: the words before the stack,
-- and one frame more than there are calls, of the largest depth and 16 words each.
abbrev pub HasSteps : ℕ → ℕ → Type 0
HasSteps turns steps = 256 * turns + 272 ≤ steps

abbrev pub HasWords : ℕ → List Declarations → ℕ → ℕ → Type 0
HasWords image trees calls words = image + (calls + 1) * (frame_of trees + 16) ≤ words

-- The same by steps of OCODE: so many steps of the machine are enough for q steps, and so many words for d frames at once.
abbrev pub HasStepsOf : ℕ → ℕ → Type 0
HasStepsOf q steps = 16 * q + 16 ≤ steps

abbrev pub HasFramesOf : ℕ → List Declarations → ℕ → ℕ → Type 0
HasFramesOf image trees d words = image + (d + 1) * (depth_of trees + 16) ≤ words

-- The statements that the scheme gives to the trees, placed anywhere as one program, before its first step. START's frame begins after
-- so many words at most.
pub record Placing (trees : List Declarations) (input : List ℕ) (image : ℕ) : Type 0 where
  pub placed : Program
  pub first : ℕ
  pub low : first ≤ image
  pub applies : Represent trees placed.sections
  pub well : IsWellPlaced placed first FRAME_WORDS
  pub state : State
  pub begins : first_state placed first input ≡ Some state

-- ---- the meaning of its trees

-- global 1 holds nothing when the run begins
abbrev pub HasNoStart : List Declarations → Type 0
HasNoStart trees = read (first_memory (program_of trees)) (address globals_object 1) ≡ None

module _ (trees : List Declarations) (input : List ℕ) where
  -- Within these turns the meaning ends so. It has taken these bytes from the front of the input, and written these.
  pub record MeaningEnds (turns : ℕ) (taken bytes : List ℕ) (end : End) : Type 0 where
    pub left : List ℕ
    pub calls : ℕ
    pub last : world.End
    pub means : meaning trees input turns ≡ program.Ends bytes left calls last
    pub is : end_of last ≡ Some end
    pub took : input ≡ taken ++ left

  -- after these turns it goes on, and these bytes are written
  pub record MeaningGoesOn (turns : ℕ) (bytes : List ℕ) : Type 0 where
    pub left : List ℕ
    pub calls : ℕ
    pub at : ℕ
    pub means : meaning trees input turns ≡ program.Going bytes left calls at

  -- enough for the end, where so many words come before the stack
  pub record EnoughToEnd (image steps words : ℕ) : Type 0 where
    pub turns : ℕ
    pub bytes : List ℕ
    pub left : List ℕ
    pub calls : ℕ
    pub last : world.End
    pub end : End
    pub means : meaning trees input turns ≡ program.Ends bytes left calls last
    pub is : end_of last ≡ Some end
    pub has_steps : HasSteps turns steps
    pub has_words : HasWords image trees calls words

  -- enough for these turns
  pub record EnoughToGo (image turns steps words : ℕ) : Type 0 where
    pub bytes : List ℕ
    pub left : List ℕ
    pub calls : ℕ
    pub at : ℕ
    pub means : meaning trees input turns ≡ program.Going bytes left calls at
    pub has_steps : HasSteps turns steps
    pub has_words : HasWords image trees calls words

  -- Enough for the end, by steps of OCODE: wherever the statements are placed, they end within q steps, with d frames at once at most.
  pub record StepsToEnd (image steps words : ℕ) : Type 0 where
    pub q : ℕ
    pub d : ℕ
    pub ends : (at : Placing trees input image) → (bytes left : List ℕ) × (end : End) × EndsWithin at.placed at.first at.state q d bytes left end
    pub has_steps : HasStepsOf q steps
    pub has_words : HasFramesOf image trees d words

  -- Enough for these turns: within q steps all is written that they write.
  pub record StepsToGo (image turns steps words : ℕ) : Type 0 where
    pub q : ℕ
    pub d : ℕ
    pub bytes : List ℕ
    pub left : List ℕ
    pub calls : ℕ
    pub at : ℕ
    pub means : meaning trees input turns ≡ program.Going bytes left calls at
    pub comes : (at : Placing trees input image) → (more following : List ℕ) × ComesWithin at.placed at.first at.state q d (bytes ++ more) following
    pub has_steps : HasStepsOf q steps
    pub has_words : HasFramesOf image trees d words

-- THE LANGUAGE. An accepted source means what the trees of its sections mean; a source is refused for the fault of its first section
-- that is not accepted. What is enough to run a source depends on how many words are before the stack for these trees; it is reported by
-- turns and calls of the meaning, and by steps and frames of OCODE.
abbrev pub meanings_with : (List Declarations → ℕ) → Language
meanings_with image = record {
  Accepted = λ source. (trees : List Declarations) × HasTrees source trees;
  Refused = λ source fault. IsRefused source fault;
  Startless = λ source. (trees : List Declarations) × HasTrees source trees × HasNoStart trees;
  Ends = λ source input taken bytes end. (trees : List Declarations) × HasTrees source trees × ((turns : ℕ) × MeaningEnds trees input turns taken bytes end);
  GoesOn = λ source input turns bytes. (trees : List Declarations) × HasTrees source trees × MeaningGoesOn trees input turns bytes;
  Holds = λ source words. (trees : List Declarations) × HasTrees source trees × (image trees + 16 ≤ words);
  Enough = λ source input steps words. (trees : List Declarations) × HasTrees source trees × (EnoughToEnd trees input (image trees) steps words ⊎ StepsToEnd trees input (image trees) steps words);
  EnoughFor = λ source input turns steps words. (trees : List Declarations) × HasTrees source trees × (EnoughToGo trees input (image trees) turns steps words ⊎ StepsToGo trees input (image trees) turns steps words);
}

abbrev pub meanings : Language
meanings = meanings_with image_of

-- ---- the laws

-- A run of the machine with segments that represent the source's sections, where the loader takes them, is one of the source.
abbrev pub MeaningRuns : Type 0
MeaningRuns = (parts : List Part) (source : List ℕ) (end : End) (steps words : ℕ) (store : List ℕ) (registers : Registers) (before after : Streams)
    → HasParts parts source → image parts + 16 ≤ words → words ≤ STORE_MOST → any_starts (segments parts) ≡ true
    → Ran AnyBytes end steps (loaded_store words (segments parts)) (first_registers (segments parts)) store registers (devices_of before) (devices_of after)
    → Begins before.passed after.passed → (end ≢ WriteFault → after.passed ≡ after.taken) → Blames end before.reads after.reads after.writes
    → Runs meanings source end steps words before after

-- Where the loader finds the store too small, it is too small for the meaning, whatever the input is.
abbrev pub MeaningTooSmall : Type 0
MeaningTooSmall = (parts : List Part) (source : List ℕ) (steps words : ℕ) (streams : Streams) → HasParts parts source → words < image parts + 16
    → Keeps meanings source (Err TooSmall) steps words streams streams

-- Where the loader finds no START, the source has none.
abbrev pub MeaningStartless : Type 0
MeaningStartless = (parts : List Part) (source : List ℕ) (steps words : ℕ) (streams : Streams) → HasParts parts source
    → image parts + 16 ≤ words → words ≤ STORE_MOST → any_starts (segments parts) ≡ false
    → Keeps meanings source (Err NoStart) steps words streams streams

-- A source that is refused may be answered by its fault: it is not accepted.
abbrev pub MeaningRefuses : Type 0
MeaningRefuses = (source : List ℕ) (fault : SourceFault) (steps words : ℕ) (streams : Streams) → IsRefused source fault
    → Keeps meanings source (Err (Source fault)) steps words streams streams

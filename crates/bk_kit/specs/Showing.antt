-- What showing a source comes to: which sections a layout writes, and what is left where it is refused.
use Rattle.std.specs.Prelude.{◌≡◌, ◌⊎◌, ℕ, Bool, ⊤, List, [], ◌∷◌, map, Option, None, Some, Result, Ok, Err, if◌then◌else◌}
use Rattle.bk_base.specs.Devices.{Begins}
use Rattle.bk_tree.specs.Tree.{Declarations}
use Rattle.bk_tree.specs.Section.{declarations_of}
use Rattle.bk_gen.specs.Represents.{Represents}
use Rattle.bk_show.specs.Viewed.{Viewed}
use Rattle.bk_show.specs.declared.section.NotShown.{NotShown}
use Rattle.bk_show.specs.declared.section.NotShown.TheVariants as unshown
use Rattle.bk_filters.specs.declared.kit_fault.KitFault.{KitFault}
use Rattle.bk_filters.specs.declared.kit_fault.KitFault.TheVariants.{Source, Ocode, Intcode, TooSmall, NoStart, Read, Write, Memory}
use Rattle.bk_filters.specs.declared.section.SectionCode.{SectionCode}
use Rattle.bk_filters.specs.Interpreting.{is_read, is_read_fault}
use Rattle.bk_filters.specs.RunningSource.{NotAssembled, ReadsSource}
use Rattle.bk_filters.specs.Sources.{IsTree, stmts_of_tree}
use Rattle.bk_filters.specs.Telling.{Output}
use Rattle.bk_kit.specs.Checking.{HasTheseTrees}

-- The output failed; else the source is accepted, or refused for the first of its faults, or not read. `reads` counts the failures of
-- the source, `writes` those of the output.
abbrev pub Shows : Result (Unit {0}) KitFault → Option (List ℕ) → Option (List ℕ) → Bool → (reads writes : ℕ) → Type 0
Shows (Ok done) old new ended reads writes = ((trees : List Declarations) × HasTheseTrees trees old new ended) × (reads ≡ 0)
Shows (Err Write) old new ended reads writes = writes ≡ 1
Shows (Err fault) old new ended reads writes = NotAssembled fault old new ended × (reads ≡ (if is_read_fault fault then 1 else 0))

-- ---- the sections, by any layout

-- The tree is that of the symbols, the statements are the tree's, and the segment represents them.
pub record IsViewed (x : Viewed) : Type 0 where
  pub tree : IsTree x.tree x.symbols
  pub code : x.code ≡ stmts_of_tree x.tree
  pub applies : Represents x.segment x.code

abbrev pub AreViewed : List Viewed → Type 0
AreViewed [] = ⊤
AreViewed (x ∷ rest) = IsViewed x × AreViewed rest

abbrev pub trees_viewed : List Viewed → List Declarations
trees_viewed sections = map (λ (x : Viewed). x.tree) sections

module _ {O : Type 0} (Writes : O → O → Viewed → Type 0) (Fails : O → O → NotShown → Type 0) where
  -- These sections were written one after another, and nothing else.
  abbrev pub Written : O → List Viewed → O → Type 0
  Written old [] new = new ≡ old
  Written old (x ∷ rest) new = (mid : O) × Writes old mid x × Written mid rest new

  -- What comes after them: nothing, or the failure of the layout at one section more.
  abbrev pub Stops : Result (Unit {0}) KitFault → O → O → Type 0
  Stops (Err Write) mid after = Fails mid after unshown.Device
  Stops (Err Memory) mid after = (after ≡ mid) ⊎ Fails mid after unshown.Memory
  Stops answer mid after = after ≡ mid

  -- The source is accepted, and these are its sections; or it is refused for the first of its faults, or not read.
  abbrev pub HasViewed : Result (Unit {0}) KitFault → List Viewed → Option (List ℕ) → Option (List ℕ) → Bool → (reads : ℕ) → Type 0
  HasViewed (Ok done) sections old new ended reads = HasTheseTrees (trees_viewed sections) old new ended × (reads ≡ 0)
  HasViewed (Err Write) sections old new ended reads = ⊤
  HasViewed (Err fault) sections old new ended reads = NotAssembled fault old new ended × (reads ≡ (if is_read_fault fault then 1 else 0))

  -- THE SECTIONS OF A SOURCE. A section without symbols is skipped.
  pub record ShowsSections (answer : Result (Unit {0}) KitFault) (old new : Option (List ℕ)) (ended : Bool) (reads : ℕ) (before after : O) : Type 0 where
    pub sections : List Viewed
    pub are : AreViewed sections
    pub mid : O
    pub written : Written before sections mid
    pub stops : Stops answer mid after
    pub has : HasViewed answer sections old new ended reads
    pub delivered : ReadsSource (is_read answer) old new

  -- One section: one without symbols is skipped.
  abbrev pub PutsSection : Option SectionCode → O → O → Type 0
  PutsSection None old new = new ≡ old
  PutsSection (Some section) old new = (x : Viewed) × IsViewed x × (x.tree ≡ declarations_of section.tree) × Writes old new x

  abbrev pub NotPut : O → O → NotShown → Type 0
  NotPut old new why = ((new ≡ old) × (why ≡ unshown.Memory)) ⊎ Fails old new why

-- ---- the text of a part

-- What was passed on, by the last flush.
abbrev pub PassesAll : Result (Unit {0}) KitFault → Output → Type 0
PassesAll (Err Write) after = after.faults ≡ 1
PassesAll answer after = (after.passed ≡ after.taken) × (after.faults ≡ 0)

-- THE SHOW. A source is accepted or refused as `compile` does it.
pub record ShowsSource (answer : Result (Unit {0}) KitFault) (old new : Option (List ℕ)) (ended : Bool) (reads : ℕ) (before after : Output) : Type 0 where
  pub shows : Shows answer old new ended reads after.faults
  pub delivered : ReadsSource (is_read answer) old new
  pub grows : Begins before.taken after.taken
  pub passes : Begins before.passed after.passed
  pub all : PassesAll answer after

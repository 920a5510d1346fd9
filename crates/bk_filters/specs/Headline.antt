-- What running a source promises, for any language: the bytes and the end of the source's meaning with enough steps and words,
-- and a beginning of the bytes with less.
use Rattle.std.specs.Prelude.{◌≡◌, ◌≢◌, ◌⊎◌, ℕ, Bool, List, ◌++◌, Option, Result, Ok, Err}
use Rattle.bk_base.specs.Devices.{Begins}
use Rattle.bk_base.specs.declared.run_end.End.{End}
use Rattle.bk_base.specs.declared.run_end.End.TheVariants.{Status, DivideByZero, StoreLimit, StepLimit, BadOperation, ReadFault, WriteFault}
use Rattle.bk_base.specs.declared.source_fault.SourceFault.{SourceFault}
use Rattle.bk_machine.specs.Runs.{Exchanged, Follows, Blames}
use Rattle.bk_filters.specs.declared.kit_fault.KitFault.{KitFault}
use Rattle.bk_filters.specs.declared.kit_fault.KitFault.TheVariants.{Source, Ocode, Intcode, TooSmall, NoStart, Read, Write, Memory}
use Rattle.bk_filters.specs.Interpreting.{Streams, devices_of}
use Rattle.bk_filters.specs.ReadingSource.{EachSource}

-- What sources mean, and how much is enough to run them.
pub record Language : Type 1 where
  -- the source is accepted
  pub Accepted : List ℕ → Type 0
  -- the source is refused, and this fault is in it
  pub Refused : List ℕ → SourceFault → Type 0
  -- no START is defined in the source
  pub Startless : List ℕ → Type 0
  -- with this input the meaning ends: it takes these bytes of it, writes these, and ends so
  pub Ends : (source input taken bytes : List ℕ) → End → Type 0
  -- with this input the meaning has written these bytes after so many turns, and goes on
  pub GoesOn : (source input : List ℕ) → ℕ → List ℕ → Type 0
  -- so many words hold the source before its run, and 16 words more
  pub Holds : List ℕ → ℕ → Type 0
  -- so many steps and words are enough for the meaning's end
  pub Enough : (source input : List ℕ) → (steps words : ℕ) → Type 0
  -- so many steps and words are enough for so many turns
  pub EnoughFor : (source input : List ℕ) → ℕ → (steps words : ℕ) → Type 0

-- One begins the other.
abbrev pub OneBegins : List ℕ → List ℕ → Type 0
OneBegins some others = ((more : List ℕ) × (some ≡ others ++ more)) ⊎ ((more : List ℕ) × (others ≡ some ++ more))

module _ (language : Language) (source input : List ℕ) (steps words : ℕ) where
  -- The meaning ends so, with just these bytes.
  abbrev pub IsWhole : End → List ℕ → List ℕ → Type 0
  IsWhole end read written =
      (taken bytes : List ℕ) (last : End) → language.Ends source input taken bytes last → (last ≡ end) × (taken ≡ read) × (bytes ≡ written)

  -- The meaning goes on for ever.
  abbrev pub NeverEnds : Type 0
  NeverEnds = (turns : ℕ) → (bytes : List ℕ) × language.GoesOn source input turns bytes

  -- These bytes begin those of the meaning: of its end, or of some number of turns where it goes on for ever. With those of any number
  -- of turns, also of a meaning that is undefined later, one begins the other.
  pub record IsPart (written : List ℕ) : Type 0 where
    pub of_end : (taken bytes : List ℕ) (last : End) → language.Ends source input taken bytes last → (more : List ℕ) × (bytes ≡ written ++ more)
    pub of_turns : NeverEnds → (turns : ℕ) × (bytes more : List ℕ) × language.GoesOn source input turns bytes × (bytes ≡ written ++ more)
    pub of_any : (turns : ℕ) (bytes : List ℕ) → language.GoesOn source input turns bytes → OneBegins bytes written

  -- What the meaning writes in the turns for which there were enough steps and words was written.
  abbrev pub Reaches : List ℕ → Type 0
  Reaches written = (turns : ℕ) (bytes : List ℕ) → language.GoesOn source input turns bytes → language.EnoughFor source input turns steps words
      → (more : List ℕ) × (written ≡ bytes ++ more)

  -- What the meaning writes in any number of turns was written, also of a meaning that is undefined later.
  abbrev pub Covers : List ℕ → Type 0
  Covers written = (turns : ℕ) (bytes : List ℕ) → language.GoesOn source input turns bytes → (more : List ℕ) × (written ≡ bytes ++ more)

  -- an end that only a meaning that ends has
  abbrev pub IsEnd : End → List ℕ → List ℕ → Type 0
  IsEnd end read written = IsWhole end read written × (NeverEnds → ⊥) × Covers written

  -- not enough for the meaning's end
  abbrev pub TooFew : Type 0
  TooFew = language.Enough source input steps words → ⊥

  -- not enough for any number of turns
  abbrev pub TooFewForAny : Type 0
  TooFewForAny = (turns : ℕ) → language.EnoughFor source input turns steps words → ⊥

  -- the end of a run, with the bytes that it read and wrote, and the meaning
  abbrev pub Agrees : End → List ℕ → List ℕ → Type 0
  Agrees (Status v) read written = IsEnd (Status v) read written
  Agrees DivideByZero read written = IsEnd DivideByZero read written
  Agrees StepLimit read written = IsPart written × Reaches written × TooFew
  Agrees StoreLimit read written = IsPart written × Reaches written × TooFew
  Agrees BadOperation read written = IsEnd BadOperation read written
  Agrees ReadFault read written = IsPart written
  Agrees WriteFault read written = IsPart written

-- The source was run: the bytes that input delivered and output took are those of the run, whatever input follows.
pub record Runs (language : Language) (source : List ℕ) (end : End) (steps words : ℕ) (before after : Streams) : Type 0 where
  pub accepted : language.Accepted source
  pub starts : language.Startless source → ⊥
  pub read : List ℕ
  pub written : List ℕ
  pub exchanged : Exchanged (devices_of before) (devices_of after) read written
  pub agrees : (rest : List ℕ) → Follows (devices_of after) rest → Agrees language source (read ++ rest) steps words end read written
  -- what was passed on before begins what is passed on; each end flushes, unless the output failed
  pub passes : Begins before.passed after.passed
  pub passed : end ≢ WriteFault → after.passed ≡ after.taken
  pub blamed : Blames end before.reads after.reads after.writes

-- What a call answers of a source. Where there is a fault nothing is run, and neither input nor output is touched.
abbrev pub Keeps : Language → List ℕ → Result End KitFault → ℕ → ℕ → Streams → Streams → Type 0
Keeps language source (Ok end) steps words before after = Runs language source end steps words before after
Keeps language source (Err (Source fault)) steps words before after =
    language.Refused source fault × (language.Accepted source → ⊥) × (after ≡ before)
Keeps language source (Err TooSmall) steps words before after =
    language.Accepted source × (language.Holds source words → ⊥)
    × ((input : List ℕ) → TooFew language source input steps words × TooFewForAny language source input steps words)
    × (after ≡ before)
Keeps language source (Err NoStart) steps words before after = language.Accepted source × language.Startless source × (after ≡ before)
Keeps language source (Err Read) steps words before after = after ≡ before
Keeps language source (Err Memory) steps words before after = after ≡ before
Keeps language source (Err Write) steps words before after = ⊥
Keeps language source (Err (Ocode section fault)) steps words before after = ⊥
Keeps language source (Err (Intcode segment fault)) steps words before after = ⊥

-- The answer is one of each source that the bytes delivered begin.
abbrev pub Headline : Language → Result End KitFault → ℕ → ℕ → Option (List ℕ) → Option (List ℕ) → Bool → Streams → Streams → Type 0
Headline language answer steps words old new ended before after =
    EachSource old new ended (λ source. Keeps language source answer steps words before after)

-- The last flush of a filter.
use Rattle.bk_filters.proofs.Terms.{◌≡◌, inl, inr, ℕ, ◌++◌, List, Result, Ok, Err, Keeps, Appends-Keeps, KitFault, Source, Ocode, Intcode, TooSmall, NoStart, Read, Write, Memory, Written, Breaks, Puts, Ends, Output}

module _ (Comes : Result (Unit {0}) KitFault → List ℕ → Type 0) (Takes : List ℕ → Type 0) (front : List ℕ) (before after after' : Output) (keeps : Keeps after.taken after'.taken) where
  written_kept : (answer : Result (Unit {0}) KitFault) → Written Comes Takes front before after answer → Written Comes Takes front before after' answer
  written_kept answer written = record {
    text = written.text;
    comes = written.comes;
    takes = Appends-Keeps before.taken after.taken after'.taken (front ++ written.text) written.takes keeps;
  }

  breaks_kept : Breaks Comes Takes front before after → Breaks Comes Takes front before after'
  breaks_kept breaks = record {
    text = breaks.text;
    part = breaks.part;
    some = breaks.some;
    others = breaks.others;
    begins = breaks.begins;
    takes = Appends-Keeps before.taken after.taken after'.taken (front ++ breaks.some) breaks.takes keeps;
  }

  -- all was passed on
  pub flushed : (answer : Result (Unit {0}) KitFault) → Puts Comes Takes front before after answer → (after.faults ≡ 1 → ⊥) → after'.passed ≡ after'.taken → after'.faults ≡ 0
      → Ends Comes Takes front before after' answer
  flushed (Ok done) puts never all none = (written_kept (Ok done) puts, all, none)
  flushed (Err Write) puts never all none = absurd (never puts.0)
  flushed (Err (Source fault)) puts never all none = (written_kept (Err (Source fault)) puts, all, none)
  flushed (Err (Ocode number fault)) puts never all none = (written_kept (Err (Ocode number fault)) puts, all, none)
  flushed (Err (Intcode number fault)) puts never all none = (written_kept (Err (Intcode number fault)) puts, all, none)
  flushed x puts never all none = (written_kept x puts, all, none)

  -- the flush failed
  pub stuck : (answer : Result (Unit {0}) KitFault) → Puts Comes Takes front before after answer → after'.faults ≡ 1 → Ends Comes Takes front before after' (Err Write)
  stuck (Ok done) puts one = (one, inr (Ok done, written_kept (Ok done) puts))
  stuck (Err Write) puts one = (one, inl (breaks_kept puts.1))
  stuck (Err (Source fault)) puts one = (one, inr (Err (Source fault), written_kept (Err (Source fault)) puts))
  stuck (Err (Ocode number fault)) puts one = (one, inr (Err (Ocode number fault), written_kept (Err (Ocode number fault)) puts))
  stuck (Err (Intcode number fault)) puts one = (one, inr (Err (Intcode number fault), written_kept (Err (Intcode number fault)) puts))
  stuck (Err TooSmall) puts one = (one, inr (Err TooSmall, written_kept (Err TooSmall) puts))
  stuck (Err NoStart) puts one = (one, inr (Err NoStart, written_kept (Err NoStart) puts))
  stuck (Err Read) puts one = (one, inr (Err Read, written_kept (Err Read) puts))
  stuck (Err Memory) puts one = (one, inr (Err Memory, written_kept (Err Memory) puts))

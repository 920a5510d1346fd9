-- A run with a reader that can hold these bytes and no others is one with a reader that can hold any.
use Rattle.std.proofs.Common.{ℕ, inl, inr, List, [], ◌∷◌, Option, Bool, Result, Ok, Err}
use Rattle.bk_base.specs.declared.run_end.End.{End}
use Rattle.bk_base.specs.declared.run_end.End.TheVariants.{Status, DivideByZero, StoreLimit, StepLimit, BadOperation, ReadFault, WriteFault}
use Rattle.bk_machine.specs.declared.registers.Registers.{Registers}
use Rattle.bk_machine.specs.Runs.{Devices, SinceAsk, FlushesFirst, Paused, Finished, Waiting, CutShort, Broken, Ran}
use Rattle.bk_filters.specs.declared.kit_fault.KitFault.{KitFault}
use Rattle.bk_filters.specs.Interpreting.{AnyBytes, Streams, devices_of, Interpreted}

module _ (Holds : List ℕ → Type 0) where
  since : (new : Devices) (read : List ℕ) → SinceAsk Holds new read → SinceAsk AnyBytes new read
  since new [] asked = asked
  since new (byte ∷ others) asked = (tt, asked.1)

  module _ (n : ℕ) (store : List ℕ) (r : Registers) (old new : Devices) where
    flushes : (read : List ℕ) → FlushesFirst Holds n store r old new read → FlushesFirst AnyBytes n store r old new read
    flushes read (inl still) = inl still
    flushes read (inr last) = inr (record {
      earlier = last.earlier;
      since = last.since;
      parts = last.parts;
      written = last.written;
      leads = last.leads;
      unended = last.unended;
      asked = since new last.since last.asked;
      passed = last.passed;
    })

    paused : (store' : List ℕ) (r' : Registers) → Paused Holds n store r store' r' old new → Paused AnyBytes n store r store' r' old new
    paused store' r' p = record { read = p.read; written = p.written; exchanged = p.exchanged; flushes = flushes p.read p.flushes; leads = p.leads }

    finished : (e : End) → Finished Holds e n store r old new → Finished AnyBytes e n store r old new
    finished e p = record { read = p.read; written = p.written; exchanged = p.exchanged; flushes = flushes p.read p.flushes; ends = p.ends }

    waiting : Waiting Holds n store r old new → Waiting AnyBytes n store r old new
    waiting p = record {
      read = p.read;
      written = p.written;
      exchanged = p.exchanged;
      flushes = flushes p.read p.flushes;
      steps = p.steps;
      store' = p.store';
      r' = p.r';
      within = p.within;
      leads = p.leads;
      store'' = p.store'';
      r'' = p.r'';
      asks = p.asks;
    }

    cut_short : CutShort Holds n store r old new → CutShort AnyBytes n store r old new
    cut_short p = record {
      read = p.read;
      written = p.written;
      begun = p.begun;
      exchanged = p.exchanged;
      flushes = flushes p.read p.flushes;
      steps = p.steps;
      store' = p.store';
      r' = p.r';
      within = p.within;
      leads = p.leads;
      what = p.what;
      store'' = p.store'';
      r'' = p.r'';
      tells = p.tells;
      left = p.left;
      begins = p.begins;
    }

    broken : Broken Holds n store r old new → Broken AnyBytes n store r old new
    broken (inl (inl cut)) = inl (inl (cut_short cut))
    broken (inl (inr asking)) = inl (inr (waiting asking))
    broken (inr (inl all)) = inr (inl (all.0, all.1, paused all.0 all.1 all.2))
    broken (inr (inr end)) = inr (inr (end.0, finished end.0 end.1))

    pub ran_with_any : (store' : List ℕ) (r' : Registers) (end : End) → Ran Holds end n store r store' r' old new → Ran AnyBytes end n store r store' r' old new
    ran_with_any store' r' StepLimit ran = paused store' r' ran
    ran_with_any store' r' ReadFault ran = waiting ran
    ran_with_any store' r' WriteFault ran = broken ran
    ran_with_any store' r' (Status v) ran = finished (Status v) ran
    ran_with_any store' r' DivideByZero ran = finished DivideByZero ran
    ran_with_any store' r' StoreLimit ran = finished StoreLimit ran
    ran_with_any store' r' BadOperation ran = finished BadOperation ran

  -- So what interpreting answers of any reader is what the laws of a source's code speak of.
  pub interpreted_with_any : (answer : Result End KitFault) (steps words : ℕ) (old new : Option (List ℕ)) (ended : Bool) (before after : Streams)
      → Interpreted Holds answer steps words old new ended before after → Interpreted AnyBytes answer steps words old new ended before after
  interpreted_with_any (Ok end) steps words old new ended before after said =
      let i = said.0 in
      (record { all = i.all; loadable = i.loadable; store = i.store; registers = i.registers; ran = ran_with_any steps _ _ (devices_of before) (devices_of after) i.store i.registers end i.ran }, said.1, said.2, said.3)
  interpreted_with_any (Err fault) steps words old new ended before after said = said

-- What is known of a part before it is done.
use Rattle.std.specs.Prelude.{◌≡◌, ℕ, List}
use Rattle.bk_meaning.specs.Memory.{Memory}
use Rattle.bk_meaning.specs.World.{World, Outcome, gives}
use Rattle.bk_meaning.specs.Environment.{Environment, Named}

-- Where names mean this, with this memory and these turns, it gives this, changes nothing, and leaves so many turns.
abbrev pub Known : {A : Type 0} → List Named → Memory → ℕ → (Environment → World → Outcome A) → A → ℕ → Type 0
Known names m turns u x left = (there : Environment) (w : World) → there.names ≡ names → w.memory ≡ m → w.turns ≡ turns → u there w ≡ gives x (record w { turns = left })

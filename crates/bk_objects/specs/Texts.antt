-- Texts that grow, formats, and what a routine of the library does.
use Rattle.std.specs.Prelude.{◌≡◌, ℕ, ◌++◌, List, Option, Some, None, Result, is_ok, if◌then◌else◌}
use Rattle.std.specs.Option.{option_map}
use Rattle.bk_base.specs.Format as f
use Rattle.bk_meaning.specs.Values.{Value, unset}
use Rattle.bk_meaning.specs.Causes.{argument}
use Rattle.bk_meaning.specs.World.{World, Outcome, gives, ends, status, undefined, writing}
use Rattle.bk_meaning.specs.Library.{takes_byte}
use Rattle.bk_objects.specs.declared.format.Part.{Part}
use Rattle.bk_objects.specs.declared.format.Part.TheVariants as p
use Rattle.bk_objects.specs.declared.library.Effect.{Effect}
use Rattle.bk_objects.specs.declared.library.Effect.TheVariants as e
use Rattle.bk_objects.specs.Views.{value_in, cause_in}

-- The text grew by these bytes, if they are there; else the addition was refused.
abbrev pub Adds : {E : Type 0} → List ℕ → List ℕ → Option (List ℕ) → Result (Unit {0}) E → Type 0
Adds old new bytes added = (if is_ok added then Some new else None) ≡ option_map (λ bytes. old ++ bytes) bytes

abbrev pub part_in : Part → f.FormatPart
part_in (p.Byte b) = f.Byte b
part_in p.Percent = f.Percent
part_in p.String = f.String
part_in p.Number = f.Number
part_in p.Character = f.Character
part_in (p.Column width) = f.Column width

-- what a routine does that is called at a position, in a world
abbrev pub outcome_in : ℕ → Effect → World → Outcome Value
outcome_in l (e.Stops n) w = ends (status n) w
outcome_in l e.TakesByte w = takes_byte w.input w
outcome_in l (e.Writes text) w = gives unset (writing text.items w)
outcome_in l (e.Gives x) w = gives (value_in x) w
outcome_in l (e.Undefined misuse) w = undefined l (argument misuse.argument (cause_in misuse.reason)) w

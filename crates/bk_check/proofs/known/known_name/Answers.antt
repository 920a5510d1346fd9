use Rattle.bk_check.proofs.Terms.{◌≡◌, ℕ, Option, Some, sym, Value, World, gives, address}
use Rattle.std.specs.Option.{option_map}
use Rattle.bk_meaning.specs.Parts.{fetch, named}
use Rattle.bk_lasting.specs.Views.{sense_in}
use Rattle.bk_lasting.specs.declared.env.Sense.{Sense}
use Rattle.bk_lasting.specs.declared.env.Sense.TheVariants.{Cell}
use Rattle.bk_check.proofs.known.known_name.Goals as goal

of_cell : (sense : Option Sense) (this : Sense) (object offset l : ℕ) (x : Value) (w : World) → sense ≡ Some this → this ≡ Cell offset object
    → fetch l (address object offset) w ≡ gives x w → named l (option_map sense_in sense) w ≡ gives x w
of_cell sense this object offset l x w is cell has = rw (is, cell) has

pub returns-in-Value : goal.returns-in-Value
returns-in-Value c = λ l w memory.
    of_cell _ _ _ _ l _ w c.in-Some-Cell.is (rw c.in-Some-Cell.is at c.in-Some-Cell.field-0-is) (sym ((rw c.in-Value.is at c.read.ensures) l w memory))

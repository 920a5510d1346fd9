-- What the values of the program are as those of the meaning.
use Rattle.std.specs.Prelude.{ℕ, Option, Some, None, Result, Ok, Err}
use Rattle.bk_meaning.specs.Values as v
use Rattle.bk_meaning.specs.Causes.{Cause, never_set, no_cell, no_byte, beyond, no_address, no_number, no_byte_value, apart, no_procedure, no_argument, argument, no_place, no_constant}
use Rattle.bk_meaning.specs.World.{World, Outcome, gives, ends, undefined, divide_by_zero}
use Rattle.bk_objects.specs.declared.worth.Routine.{Routine}
use Rattle.bk_objects.specs.declared.worth.Routine.TheVariants as r
use Rattle.bk_objects.specs.declared.worth.Worth.{Worth}
use Rattle.bk_objects.specs.declared.worth.Worth.TheVariants as w
use Rattle.bk_objects.specs.declared.worth.Cell.{Cell}
use Rattle.bk_objects.specs.declared.worth.Cell.TheVariants as c
use Rattle.bk_meaning.specs.Parts.{Target, at, byte_at}
use Rattle.bk_objects.specs.declared.worth.Location.{Location}
use Rattle.bk_objects.specs.declared.worth.Location.TheVariants as p
use Rattle.bk_objects.specs.declared.computed.Reason.{Reason}
use Rattle.bk_objects.specs.declared.computed.Reason.TheVariants as y
use Rattle.bk_objects.specs.declared.computed.Computed.{Computed}
use Rattle.bk_objects.specs.declared.computed.Computed.TheVariants as k

abbrev pub routine_in : Routine → v.Routine
routine_in r.Stop = v.stop
routine_in r.Rdch = v.rdch
routine_in r.Wrch = v.wrch
routine_in r.Newline = v.newline
routine_in r.Writes = v.writes
routine_in r.Writen = v.writen
routine_in r.Writed = v.writed
routine_in r.Getbyte = v.getbyte
routine_in r.Putbyte = v.putbyte
routine_in r.Writef = v.writef

abbrev pub value_in : Worth → v.Value
value_in (w.Number n) = v.number n
value_in (w.Address i o) = v.address o i
value_in (w.Procedure n) = v.procedure n
value_in (w.Routine which) = v.routine (routine_in which)
value_in (w.Unset from) = v.unset

abbrev pub cell_in : Cell → v.Cell
cell_in (c.Holds x) = v.holds (value_in x)
cell_in (c.Places a b d e) = v.places a b d e

-- why an act is undefined; where an unset value comes from is left out
abbrev pub cause_in : Reason → Cause
cause_in (y.Unset from) = never_set
cause_in (y.Cell a) = no_cell (value_in a)
cause_in (y.Byte i a) = no_byte (value_in a) i
cause_in (y.Beyond a) = beyond (value_in a)
cause_in (y.NoAddress x) = no_address (value_in x)
cause_in (y.NoNumber x) = no_number (value_in x)
cause_in (y.NoByte x) = no_byte_value (value_in x)
cause_in y.Apart = apart
cause_in (y.NoProcedure x) = no_procedure (value_in x)
cause_in y.Argument = no_argument
cause_in y.NoPlace = no_place
cause_in y.NoConstant = no_constant

-- the same of the argument with this number of a routine of the library, or of none
abbrev pub cause_of : Option ℕ → Reason → Cause
cause_of None why = cause_in why
cause_of (Some n) why = argument n (cause_in why)

-- the outcome of an operation at a position, in a world
abbrev pub outcome_of : ℕ → Computed → World → Outcome v.Value
outcome_of l (k.Value x) w = gives (value_in x) w
outcome_of l k.DivideByZero w = ends (divide_by_zero l) w
outcome_of l (k.Undefined why) w = undefined l (cause_in why) w

-- what was given, if it was not refused
abbrev pub given_by : {E : Type 0} → Result Worth E → Option v.Value
given_by (Ok x) = Some (value_in x)
given_by (Err e) = None

-- why nothing was given, if it was refused
abbrev pub cause_by : {A : Type 0} → Result A Reason → Cause
cause_by (Ok x) = no_place
cause_by (Err why) = cause_in why

abbrev pub place_in : Location → Target
place_in (p.Cell a) = at (value_in a)
place_in (p.Byte a i) = byte_at (value_in a) (value_in i)

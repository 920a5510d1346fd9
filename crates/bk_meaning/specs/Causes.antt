-- Why an act is undefined, with the values that it has.
use Rattle.std.specs.Prelude.{ℕ}
use Rattle.bk_meaning.specs.Values.{Value, number, address, unset}

pub data Cause : Type 0 where
  -- it uses a value that was never set
  never_set : Cause
  -- It needs the cell at this address: the object is dead or has no such cell, or the cell was not set, or not all of its bytes.
  no_cell : (a : Value) → Cause
  -- It needs the byte with this number of the words from this address on: the same, or the cell has an address or a procedure.
  no_byte : (a : Value) (i : ℕ) → Cause
  -- It needs an address in a living object, and the object of this one is dead, or ends before it.
  beyond : (a : Value) → Cause
  -- It needs an address, and this value is none.
  no_address : (v : Value) → Cause
  -- It needs a number, and this value is none, or one that does not go with the other operand.
  no_number : (v : Value) → Cause
  -- It sets a byte to this value, which is no number.
  no_byte_value : (v : Value) → Cause
  -- It needs two addresses in one object, and has two in different ones.
  apart : Cause
  -- It calls this value, which is no procedure.
  no_procedure : (v : Value) → Cause
  -- It needs an argument that is missing.
  no_argument : Cause
  -- A routine of the library needs another value of the argument with this number, from 1, for this cause.
  argument : (number : ℕ) (why : Cause) → Cause
  -- It needs the value or the place of what has none, which no accepted source does.
  no_place : Cause
  -- It needs a constant, and an expression is none, which no accepted source does.
  no_constant : Cause

-- why no operator has a value for these two operands: one was never set; or else the second, after a number, or the first
abbrev pub no_numbers : Value → Value → Cause
no_numbers unset y = never_set
no_numbers x unset = never_set
no_numbers (number n) y = no_number y
no_numbers x y = no_number x

-- why a word can't be read or written there
abbrev pub cell_cause : Value → Cause
cell_cause (address o i) = no_cell (address o i)
cell_cause v = no_address v

-- why a byte can't be read; and written
abbrev pub byte_cause : Value → Value → Cause
byte_cause (address o k) (number i) = no_byte (address o k) i
byte_cause a (number i) = no_address a
byte_cause a i = no_number i

abbrev pub set_byte_cause : Value → Value → Value → Cause
set_byte_cause a (number i) (number x) = byte_cause a (number i)
set_byte_cause a (number i) x = no_byte_value x
set_byte_cause a i x = no_number i

-- the same of the arguments of GETBYTE and PUTBYTE: the address, the number of the byte, and its value
abbrev pub of_arguments : Cause → Cause
of_arguments (no_number v) = argument 2 (no_number v)
of_arguments (no_byte_value v) = argument 3 (no_byte_value v)
of_arguments why = argument 1 why

-- The state of a run of OCODE.
use Rattle.std.specs.Prelude.{ℕ, ◌+◌, Bool, List, Option, Some, None}
use Rattle.bk_base.specs.declared.run_end.End.{End}
use Rattle.bk_ocode.specs.Cells.{Content, Cell}
use Rattle.bk_ocode.specs.declared.stmt.Stmt.{Stmt}

-- the routines of the library
pub data Routine : Type 0 where
  Stop : Routine
  Rdch : Routine
  Wrch : Routine
  Newline : Routine
  Writes : Routine
  Writen : Routine
  Writed : Routine
  Getbyte : Routine
  Putbyte : Routine
  Writef : Routine

-- A section's placement: the number of each label, and of the string and of the place after the call that has so many
-- statements of the section after it.
pub record Placement : Type 0 where
  pub label : ℕ → ℕ
  pub text : ℕ → ℕ
  pub call : ℕ → ℕ

-- a section and its placement
pub record Placed : Type 0 where
  pub stmts : List Stmt
  pub places : Placement

-- Which numbers are entries of procedures, and which are routines of the library.
pub record Callables : Type 0 where
  pub is_entry : ℕ → Bool
  pub routine : ℕ → Option Routine

-- In a procedure of a section, with a depth, before the statements left; at the rest after the LAB of a label; or at the
-- number of an entry, of the place after a call, or of a routine. A rest after a LAB is distinguished from the others, since
-- several rests may have one number, as those of two LABs that come one after the other.
pub data Control : Type 0 where
  Inside : (own : Placed) (depth : ℕ) (rest : List Stmt) → Control
  Following : (own : Placed) (label : ℕ) → Control
  At : (place : ℕ) → Control

-- the number of a rest
abbrev pub rest_place : Control → Option ℕ
rest_place (Inside own depth rest) = None
rest_place (Following own label) = Some (own.places.label label)
rest_place (At place) = Some place

pub record State : Type 0 where
  pub control : Control
  pub cells : ℕ → Cell
  pub frame : ℕ
  -- the result that a call or a RES gave and that is not yet an item
  pub hand : Option Content
  pub input : List ℕ
  pub output : List ℕ
  -- the places that the steps so far wrote, the last first
  pub written : List ℕ

-- What a step does: it goes on, ends the run, or is wild: then nothing is said of it.
pub data Next : Type 0 where
  Goes : (s : State) → Next
  Ends : (e : End) (s : State) → Next
  Wild : Next

-- where globals are
abbrev pub global_place : ℕ → ℕ
global_place number = 16 + number

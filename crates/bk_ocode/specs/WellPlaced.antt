-- Programs whose parts are apart, so that each number leads to one thing.
use Rattle.std.specs.Prelude.{◌≡◌, ℕ, ◌+◌, ◌-◌, ◌<◌, ◌≤◌, ◌^◌, true, false, List, length, slice_get, Some}
use Rattle.bk_base.specs.declared.limit.TheConstants.{GLOBAL_NUMBER}
use Rattle.bk_ocode.specs.OcodeState.{Placed, State, global_place}
use Rattle.bk_ocode.specs.OcodeRun.{Rest, rests_of, resumed, resumed_in, Program}
use Rattle.bk_ocode.specs.Library.{library_routine}
use Rattle.bk_ocode.specs.SectionData.{Datum, is_in}
use Rattle.bk_ocode.specs.ProgramStart.{all_data}
use Rattle.bk_ocode.specs.SoundRuns.{IsProgram}
use Rattle.bk_ocode.specs.declared.stmt.Stmt.TheVariants.{Entry}

pub record IsWellPlaced (program : Program) (first F : ℕ) : Type 0 where
  pub is_program : IsProgram program first F
  -- the number of an entry, or of the place after a call, is that of no other in the program
  pub resumes : (i j : ℕ) (own : Placed) (r : Rest) (s : State) → slice_get program.sections i ≡ Some own → slice_get (rests_of own) j ≡ Some r → r.keeps ≡ false
      → resumed_in program.sections r.place s ≡ Some (resumed own r s)
  -- entries can be called, and are between the globals and the first frame
  pub entries : (i j label : ℕ) (own : Placed) (name : List ℕ) → slice_get program.sections i ≡ Some own → slice_get own.stmts j ≡ Some (Entry label name)
      → (program.callables.is_entry (own.places.label label) ≡ true) × (global_place GLOBAL_NUMBER < own.places.label label) × (own.places.label label < first)
  pub routines : (n : ℕ) → program.callables.routine n ≡ library_routine n
  -- strings and data are there too, apart from one another
  pub data_low : (i : ℕ) (d : Datum) → slice_get (all_data program.sections) i ≡ Some d → (global_place GLOBAL_NUMBER < d.place) × (d.place + length d.words ≤ first)
  pub data_apart : (i j place : ℕ) (d e : Datum) → slice_get (all_data program.sections) i ≡ Some d → slice_get (all_data program.sections) j ≡ Some e
      → is_in place d ≡ true → is_in place e ≡ true → i ≡ j
  -- the first frame begins where the words of a frame from there on are addresses
  pub low : first ≤ 2 ^ 31 - 65536

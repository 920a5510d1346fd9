-- Which numbers are routines of the library, and which globals lead to them.
use Rattle.std.specs.Prelude.{ℕ, ◌==◌, List, [], ◌∷◌, Option, Some, None, if◌then◌else◌}
use Rattle.bk_ocode.specs.OcodeState.{Routine, Stop, Rdch, Wrch, Newline, Writes, Writen, Writed, Getbyte, Putbyte, Writef}
use Rattle.bk_ocode.specs.SectionData.{GlobalSetting}

-- two words for each from 1016 on; WRITEF is at 4
abbrev pub library_routine : ℕ → Option Routine
library_routine n =
    if n == 1016 then Some Stop else
    if n == 1018 then Some Rdch else
    if n == 1020 then Some Wrch else
    if n == 1022 then Some Newline else
    if n == 1024 then Some Writes else
    if n == 1026 then Some Writen else
    if n == 1028 then Some Writed else
    if n == 1030 then Some Getbyte else
    if n == 1032 then Some Putbyte else
    if n == 4 then Some Writef else None

-- the globals 2 to 11, in the order of the routines
abbrev pub library_globals : List GlobalSetting
library_globals =
    record { global = 2; value = 1016 } ∷ record { global = 3; value = 1018 } ∷ record { global = 4; value = 1020 }
    ∷ record { global = 5; value = 1022 } ∷ record { global = 6; value = 1024 } ∷ record { global = 7; value = 1026 }
    ∷ record { global = 8; value = 1028 } ∷ record { global = 9; value = 1030 } ∷ record { global = 10; value = 1032 }
    ∷ record { global = 11; value = 4 } ∷ []

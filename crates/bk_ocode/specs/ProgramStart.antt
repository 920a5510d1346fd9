-- The first state of a program: what its store holds before START is called, and START's frame.
use Rattle.std.specs.Prelude.{ℕ, suc, ◌==◌, nat_le, Bool, ◌&&◌, List, [], ◌∷◌, ◌++◌, fold, Option, None, if◌then◌else◌}
use Rattle.std.specs.Option.{option_map, option_map_or}
use Rattle.bk_base.specs.declared.limit.TheConstants.{GLOBAL_NUMBER}
use Rattle.bk_ocode.specs.Access.{number_in}
use Rattle.bk_ocode.specs.Cells.{Unset, Word, Variable, Link, Cell, Free, Held, content_of, write}
use Rattle.bk_ocode.specs.OcodeState.{Placed, At, State, global_place}
use Rattle.bk_ocode.specs.OcodeRun.{Program}
use Rattle.bk_ocode.specs.SectionData.{Datum, data_of, datum_word, GlobalSetting, globals_of}
use Rattle.bk_ocode.specs.Library.{library_globals}

-- the strings and data of all sections, and what their globals are set to, in order
abbrev pub all_data : List Placed → List Datum
all_data [] = []
all_data (own ∷ others) = data_of own.places own.stmts ++ all_data others

abbrev pub all_globals : List Placed → List GlobalSetting
all_globals [] = []
all_globals (own ∷ others) = globals_of own.places own.stmts ++ all_globals others

-- a word of a global
abbrev pub is_global : ℕ → Bool
is_global place = nat_le (global_place 0) place && nat_le place (global_place GLOBAL_NUMBER)

-- START's links, in its frame, lead home; globals are variables, unset; so are the words of strings and data, as given
abbrev pub unset_cells : List Datum → ℕ → ℕ → ℕ → Cell
unset_cells given first home place =
    if place == first then Held Link (Word first) else
    if place == suc first then Held Link (Word home) else
    if is_global place then Held Variable Unset else
    option_map_or (λ w. Held Variable (Word w)) (datum_word given place) Free

-- a global is set; a later setting replaces an earlier one
abbrev pub with_global : (ℕ → Cell) → GlobalSetting → ℕ → Cell
with_global cells setting = write cells (global_place setting.global) (Held Variable (Word setting.value))

-- the globals of the library are set first, then those of the sections
abbrev pub first_cells : Program → ℕ → ℕ → Cell
first_cells program first =
    fold with_global (unset_cells (all_data program.sections) first program.home) (library_globals ++ all_globals program.sections)

-- START is called, at the first frame; there is no such state where nothing sets global 1
abbrev pub first_state : Program → ℕ → List ℕ → Option State
first_state program first input =
    option_map (λ start. record {
      control = At start;
      cells = first_cells program first;
      frame = first;
      hand = None;
      input = input;
      output = [];
      written = [];
    }) (number_in (content_of (first_cells program first (global_place 1))))

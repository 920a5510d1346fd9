-- The strings and data that a section gives, as words; the globals that it sets; and the words of its text.
use Rattle.std.specs.Prelude.{ℕ, ◌+◌, ◌-◌, nat_le, nat_lt, Bool, false, ◌&&◌, ◌||◌, List, [], ◌∷◌, ◌++◌, length, map, slice_get, Option, None, if◌then◌else◌}
use Rattle.bk_base.specs.Word.{word_of}
pub use Rattle.bk_base.specs.Strings.{packed, string_words}
use Rattle.bk_ocode.specs.OcodeState.{Placement}
use Rattle.bk_ocode.specs.StmtText.{stmt_words}
use Rattle.bk_ocode.specs.declared.stmt.GlobalEntry.{GlobalEntry}
use Rattle.bk_ocode.specs.declared.stmt.Stmt.{Stmt}
use Rattle.bk_ocode.specs.declared.stmt.Stmt.TheVariants.{Text, DataLabel, DataNumber, DataAddress, Globals}

-- Words that a section gives, from a place on: a string, or the items after a DATALAB.
pub record Datum : Type 0 where
  pub place : ℕ
  pub words : List ℕ

-- the items that come first in these statements
abbrev pub item_words : Placement → List Stmt → List ℕ
item_words places [] = []
item_words places (DataNumber value ∷ rest) = word_of value ∷ item_words places rest
item_words places (DataAddress label ∷ rest) = places.label label ∷ item_words places rest
item_words places (s ∷ rest) = []

abbrev pub datum_of : Placement → Stmt → List Stmt → List Datum
datum_of places (Text bytes) rest = record { place = places.text (length rest); words = string_words bytes } ∷ []
datum_of places (DataLabel label) rest = record { place = places.label label; words = item_words places rest } ∷ []
datum_of places s rest = []

-- all of them, in the order of the text
abbrev pub data_of : Placement → List Stmt → List Datum
data_of places [] = []
data_of places (s ∷ rest) = datum_of places s rest ++ data_of places rest

-- the place is one of a datum's words
abbrev pub is_in : ℕ → Datum → Bool
is_in place d = nat_le d.place place && nat_lt place (d.place + length d.words)

abbrev pub is_datum : ℕ → List Datum → Bool
is_datum place [] = false
is_datum place (d ∷ rest) = is_in place d || is_datum place rest

-- the word that a datum gives to a place
abbrev pub datum_word : List Datum → ℕ → Option ℕ
datum_word [] place = None
datum_word (d ∷ rest) place = if is_in place d then slice_get d.words (place - d.place) else datum_word rest place

-- a global, and what it is set to
pub record GlobalSetting : Type 0 where
  pub global : ℕ
  pub value : ℕ

-- the globals that a section sets to the places of its entries, in order
abbrev pub entry_setting : Placement → GlobalEntry → GlobalSetting
entry_setting places entry = record { global = entry.number; value = places.label entry.label }

abbrev pub stmt_globals : Placement → Stmt → List GlobalSetting
stmt_globals places (Globals entries) = map (entry_setting places) entries
stmt_globals places s = []

abbrev pub globals_of : Placement → List Stmt → List GlobalSetting
globals_of places [] = []
globals_of places (s ∷ rest) = stmt_globals places s ++ globals_of places rest

-- how many words the text of statements has
abbrev pub text_size : List Stmt → ℕ
text_size [] = 0
text_size (s ∷ rest) = length (stmt_words s) + text_size rest

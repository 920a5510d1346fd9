-- The place after the first bytes of a text.
use Rattle.std.proofs.Common.{inl, sym, refl, ℕ, List, take, drop}
use Rattle.std.proofs.lemmas.List.{take-append-drop}
use Rattle.bk_lines.specs.declared.places.Start.{Start}
use Rattle.bk_lines.specs.Places.{place_text}
use Rattle.bk_hints.specs.Hints.{Places}

pub places_of : (start : Start) (text : List ℕ) (line n : ℕ) → Places start text line (place_text start (take n text))
places_of start text line n = inl (take n text, drop n text, sym (take-append-drop n text), refl)

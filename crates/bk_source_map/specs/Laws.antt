-- Laws of the places.
use Rattle.std.specs.Prelude.{◌≡◌, ◌+◌, ℕ, List, [], ◌∷◌, length, map}
use Rattle.bk_ocode.specs.Lists.{joined}
use Rattle.bk_tree.specs.Tree.{Declarations}
use Rattle.bk_trans.specs.Naming.{named_tree}
use Rattle.bk_trans.specs.Parts.{Part, procedure, static_item, static_table, label_place, target_of, parts_of_declarations}
use Rattle.bk_trans.specs.Scheme.{scheme, procedure_code}
use Rattle.bk_source_map.specs.declared.kind.Kind.TheVariants.{Words}
use Rattle.bk_source_map.specs.Places.{inner_declared}
use Rattle.bk_source_map.specs.PlacedScheme.{places, code_places, placed_scheme}

-- how many statements of the data are no word of a procedure
abbrev pub other_data : List Part → ℕ
other_data [] = 0
other_data (procedure n d ∷ ps) = other_data ps
other_data (static_item n k ∷ ps) = 2 + other_data ps
other_data (static_table n ws ∷ ps) = 1 + length ws + other_data ps
other_data (label_place n s b ∷ ps) = other_data ps

-- EACH STATEMENT HAS ITS PLACE: those of the scheme are the statements of the placed scheme, and the places are its places.
abbrev pub StatementsArePlaced : Type 0
StatementsArePlaced = (ds : Declarations) → (map (λ x. x.stmt) (placed_scheme ds) ≡ scheme (named_tree ds)) × (map (λ x. x.at) (placed_scheme ds) ≡ places ds (scheme (named_tree ds)))

-- The places of procedures are as many as the statements of procedures, so that what is after them is the data; and the places of
-- STATIC items and TABLEs are as many as the data that are no words of procedures.
abbrev pub PlacesAreCounted : Type 0
PlacesAreCounted = (ds : Declarations) → (length (code_places ds) ≡ length (joined (procedure_code (joined target_of (parts_of_declarations 2 1 (named_tree ds)))) (parts_of_declarations 2 1 (named_tree ds))))
    × (length (inner_declared Words ds) ≡ other_data (parts_of_declarations 2 1 (named_tree ds)))

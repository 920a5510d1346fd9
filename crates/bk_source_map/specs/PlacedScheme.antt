-- THE STATEMENTS OF A SECTION WITH THEIR PLACES: those of its procedures have the places of `Places`; the data after them are at the
-- ENTRY of the procedure whose word they are, or at the STATIC item or the TABLE, in their order; GLOBAL at the end has no place.
use Rattle.std.specs.Prelude.{ℕ, ◌==◌, cond, Option, Some, None, List, [], ◌∷◌, ◌++◌, length, drop}
use Rattle.bk_tree.specs.Tree.{Declarations}
use Rattle.bk_ocode.specs.declared.stmt.Stmt.{Stmt}
use Rattle.bk_ocode.specs.declared.stmt.Stmt.TheVariants.{Entry, DataLabel, DataAddress}
use Rattle.bk_trans.specs.Naming.{named_tree}
use Rattle.bk_trans.specs.Scheme.{scheme}
use Rattle.bk_source_map.specs.declared.data.Entrance.{Entrance}
use Rattle.bk_source_map.specs.declared.kind.Kind.TheVariants.{Procedures, Words}
use Rattle.bk_source_map.specs.Places.{inner_declared}

-- the label of each procedure, and its place
abbrev pub entrance : Stmt → ℕ → List Entrance
entrance (Entry n x) place = record { label = n; at = place } ∷ []
entrance s place = []

abbrev pub entrances : List Stmt → List ℕ → List Entrance
entrances (s ∷ ss) (p ∷ ps) = entrance s p ++ entrances ss ps
entrances _ _ = []

-- the entrances from that of this label on, and the place of the first of them; 1 is the first line and no place
abbrev pub from_label : ℕ → List Entrance → List Entrance
from_label n [] = []
from_label n (e ∷ es) = cond (e.label == n) (e ∷ es) (from_label n es)

abbrev pub first_place : List Entrance → ℕ
first_place [] = 1
first_place (e ∷ es) = e.at

-- the procedure whose word a statement of the data is of, by the label of its ENTRY
abbrev pub pointed : List Stmt → Option ℕ
pointed (DataAddress n ∷ rest) = Some n
pointed _ = None

abbrev pub owner : Stmt → List Stmt → Option ℕ
owner (DataAddress n) rest = Some n
owner (DataLabel l) rest = pointed rest
owner s rest = None

abbrev pub first_of : List ℕ → ℕ
first_of [] = 1
first_of (p ∷ ps) = p

abbrev pub rest_of : List ℕ → List ℕ
rest_of [] = []
rest_of (p ∷ ps) = ps

-- The words of procedures are in the order of their code. What is left of the entrances, and of the places of other data, after one
-- statement; and its place, where these entrances are left after it and these other places before it.
abbrev pub entrances_left : List Entrance → Option ℕ → List Entrance
entrances_left es None = es
entrances_left es (Some n) = from_label n es

abbrev pub words_left : List ℕ → Option ℕ → List ℕ
words_left ps None = rest_of ps
words_left ps (Some n) = ps

abbrev pub data_place : List Entrance → List ℕ → Option ℕ → ℕ
data_place es ps None = first_of ps
data_place es ps (Some n) = first_place es

abbrev pub data_places : List Entrance → List ℕ → List Stmt → List ℕ
data_places es ps [] = []
data_places es ps (s ∷ rest) = data_place (entrances_left es (owner s rest)) ps (owner s rest) ∷ data_places (entrances_left es (owner s rest)) (words_left ps (owner s rest)) rest

-- the places of procedures' statements, and those of these statements of the section
abbrev pub code_places : Declarations → List ℕ
code_places ds = inner_declared Procedures ds

abbrev pub places : Declarations → List Stmt → List ℕ
places ds stmts =
    code_places ds ++ data_places (entrances stmts (code_places ds)) (inner_declared Words ds) (drop (length (code_places ds)) stmts)

-- a statement with its place
pub record Placed : Type 0 where
  pub at : ℕ
  pub stmt : Stmt

abbrev pub placed : List ℕ → List Stmt → List Placed
placed (p ∷ ps) (s ∷ ss) = record { at = p; stmt = s } ∷ placed ps ss
placed _ _ = []

abbrev pub placed_scheme : Declarations → List Placed
placed_scheme ds = placed (places ds (scheme (named_tree ds))) (scheme (named_tree ds))

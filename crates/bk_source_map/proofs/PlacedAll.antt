-- The statements of a section and their places: each has its place.
use Rattle.std.proofs.Common.{◌≡◌, ℕ, suc, ◌≤◌, List, [], ◌∷◌, length, length-append, length-drop, map, drop, refl, sym, ap, arith}
use Rattle.bk_tree.specs.Tree.{Declarations}
use Rattle.bk_scope.specs.Places.{outermost}
use Rattle.bk_scope.specs.Spots.{beginning}
use Rattle.bk_ocode.specs.Lists.{joined}
use Rattle.bk_ocode.specs.declared.stmt.Stmt.{Stmt}
use Rattle.bk_trans.specs.declared.around.Target.{Target}
use Rattle.bk_trans.specs.Naming.{named_tree}
use Rattle.bk_trans.specs.Parts.{target_of, parts_of_declarations}
use Rattle.bk_trans.specs.Scheme.{procedure_code, scheme}
use Rattle.bk_source_map.specs.declared.data.Entrance.{Entrance}
use Rattle.bk_source_map.specs.declared.kind.Kind.TheVariants.{Procedures, Words}
use Rattle.bk_source_map.specs.Laws.{StatementsArePlaced, PlacesAreCounted}
use Rattle.bk_source_map.specs.Places.{inner_declared}
use Rattle.bk_source_map.specs.PlacedScheme.{owner, entrances_left, words_left, data_places, entrances, code_places, places, placed}
use Rattle.bk_source_map.proofs.Apart.{apart_declared}

pub places_are_counted : PlacesAreCounted
places_are_counted ds =
    let ts : List Target = joined target_of (parts_of_declarations 2 1 (named_tree ds)) in
    (sym (apart_declared ts Procedures ds [] outermost beginning 2 1), sym (apart_declared ts Words ds [] outermost beginning 2 1))

data_long : (es : List Entrance) (ps : List ℕ) (ss : List Stmt) → length (data_places es ps ss) ≡ length ss
data_long es ps [] = refl
data_long es ps (s ∷ rest) = ap suc (data_long (entrances_left es (owner s rest)) (words_left ps (owner s rest)) rest)

all_long : (ds : Declarations) → length (places ds (scheme (named_tree ds))) ≡ length (scheme (named_tree ds))
all_long ds =
    let stmts : List Stmt = scheme (named_tree ds) in
    let code : List ℕ = code_places ds in
    let ts : List Target = joined target_of (parts_of_declarations 2 1 (named_tree ds)) in
    let procedures : List Stmt = joined (procedure_code ts) (parts_of_declarations 2 1 (named_tree ds)) in
    let h : length code ≡ length procedures = (places_are_counted ds).0 in
    let d = data_long (entrances stmts code) (inner_declared Words ds) (drop (length code) stmts) in
    let e = length-drop (length code) stmts in
    let f = length-append code (data_places (entrances stmts code) (inner_declared Words ds) (drop (length code) stmts)) in
    let g : length procedures ≤ length stmts = simp (length-append) (omega arith) in
    omega (arith, h, d, e, f, g)

placed_stmts : (ps : List ℕ) (ss : List Stmt) → length ps ≡ length ss → map (λ x. x.stmt) (placed ps ss) ≡ ss
placed_stmts [] [] e = refl
placed_stmts [] (s ∷ ss) e = absurd (omega (arith, e))
placed_stmts (p ∷ ps) [] e = absurd (omega (arith, e))
placed_stmts (p ∷ ps) (s ∷ ss) e = ap (λ xs. s ∷ xs) (placed_stmts ps ss (omega (arith, e)))

placed_places : (ps : List ℕ) (ss : List Stmt) → length ps ≡ length ss → map (λ x. x.at) (placed ps ss) ≡ ps
placed_places [] [] e = refl
placed_places [] (s ∷ ss) e = absurd (omega (arith, e))
placed_places (p ∷ ps) [] e = absurd (omega (arith, e))
placed_places (p ∷ ps) (s ∷ ss) e = ap (λ xs. p ∷ xs) (placed_places ps ss (omega (arith, e)))

pub statements_are_placed : StatementsArePlaced
statements_are_placed ds =
    let stmts : List Stmt = scheme (named_tree ds) in
    (placed_stmts (places ds stmts) stmts (all_long ds), placed_places (places ds stmts) stmts (all_long ds))

-- Places that stand in blocks.
use Rattle.bk_check.proofs.Terms.{◌≡◌, ℕ, ◌<◌, false, List, [], ◌∷◌, length, refl, arith, Decl, Commands, block, declarations_in, Environment, Sought, has_place, one_has_place}
use Rattle.bk_tree.specs.Tree.{no_declarations}

pub plain : (l : ℕ) (ds : List Decl) (cs : Commands) → length ds ≡ 0 → block l no_declarations cs ≡ block l (declarations_in ds) cs
plain l [] cs is = refl
plain l (d ∷ ds) cs is = absurd (omega (arith, is))

pub no_head : (s : Sought) (env : Environment) (l : ℕ) (ds : List Decl) (cs : Commands) → length ds ≡ 0 → one_has_place s env cs ≡ has_place s env (block l (declarations_in ds) cs)
no_head s env l [] cs is = refl
no_head s env l (d ∷ ds) cs is = absurd (omega (arith, is))

pub a_head : (s : Sought) (env : Environment) (l : ℕ) (ds : List Decl) (cs : Commands) → 0 < length ds → false ≡ has_place s env (block l (declarations_in ds) cs)
a_head s env l [] cs lt = absurd (omega (arith, lt))
a_head s env l (d ∷ ds) cs lt = refl

-- What lasts, one after another.
use Rattle.bk_lasting.proofs.Terms.{◌≡◌, ℕ, ◌+◌, ◌<◌, List, [], ◌∷◌, ◌++◌, length, get_or, drop, map, refl, ap, ◌∙◌, append_assoc, arith, Decl, Commands, block, declarations_in, declarations_of, Environment, labelled, objects_of_declarations, Lasting, lasting_in}
use Rattle.bk_tree.specs.declared.section.Section.{Section}
use Rattle.bk_meaning.specs.Lasting.{Lasting as What, all_declared, of_command, of_commands, of_declarations, of_sections}
use Rattle.bk_lasting.proofs.Bound.{one_further}

pub listed_push : (xs : List Lasting) (x : Lasting) → map lasting_in (xs ++ x ∷ []) ≡ map lasting_in xs ++ lasting_in x ∷ []
listed_push [] x = refl
listed_push (y ∷ xs) x = ap (λ z. lasting_in y ∷ z) (listed_push xs x)

-- a block without declarations, and one with some
pub block_without_declarations : (env : Environment) (l : ℕ) (ds : List Decl) (cs : Commands) → length ds ≡ 0 → of_command env (block l (declarations_in ds) cs) ≡ of_commands env cs
block_without_declarations env l [] cs none = refl
block_without_declarations env l (d ∷ ds) cs none = absurd (omega (arith, none))

pub block_with_declarations : (env : Environment) (l : ℕ) (ds : List Decl) (cs : Commands) → 0 < length ds
    → of_command env (block l (declarations_in ds) cs) ≡ of_declarations env (declarations_in ds) ++ of_commands (labelled cs (all_declared (declarations_in ds) env)) cs
block_with_declarations env l [] cs some = absurd (omega (arith, some))
block_with_declarations env l (d ∷ ds) cs some = refl

-- the sections that are left, once the first of them is listed
pub sections_next : (list : List What) (xs : List Section) (i : ℕ) (x : Section) (n : ℕ) → i < length xs → x ≡ get_or xs i x
    → (list ++ of_declarations (record { names = []; next = n }) (declarations_of x)) ++ of_sections (n + objects_of_declarations (declarations_of x)) (map declarations_of (drop (i + 1) xs))
    ≡ list ++ of_sections n (map declarations_of (drop i xs))
sections_next list xs i x n lt is =
    append_assoc list _ _ ∙ one_further (λ zs. list ++ of_sections n (map declarations_of zs)) xs i x lt is

-- What commands with parts in a row come to: calls, and blocks without declarations and with some.
use Rattle.bk_scope.proofs.Terms.{◌≡◌, ℕ, ◌+◌, ◌<◌, List, [], ◌∷◌, length, refl, ap, ◌∙◌, arith, Decl, Commands, block, expressions_in, declarations_in, size, Enclosing, Binding, Found, takes, labelled, Stage, labels_of_each, with_labels, AfterDeclarations, declared, done, each_done}
use Rattle.bk_tree.specs.declared.tree.Expr.{Expr}

-- a call has as many arguments as its list
pub size_is_length : (xs : List Expr) → size (expressions_in xs) ≡ length xs
size_is_length [] = refl
size_is_length (x ∷ xs) = ap (λ n. n + 1) (size_is_length xs) ∙ omega arith

pub block_without_declarations : (s : Stage) (p : Enclosing) (l : ℕ) (ds : List Decl) (cs : Commands) → length ds ≡ 0 → done s.scope p (block l (declarations_in ds) cs) s.found ≡ each_done s.scope p cs s.found
block_without_declarations s p l [] cs none = refl
block_without_declarations s p l (d ∷ ds) cs none = absurd (omega (arith, none))

-- the stage behind a block's labels, where b stands behind its declarations
abbrev pub stage_in : Enclosing → Commands → AfterDeclarations → Stage
stage_in p cs b = with_labels p.procedure (labels_of_each cs) (record { scope = b.scope; found = takes b.found })

pub block_with_declarations : (s : Stage) (p : Enclosing) (l : ℕ) (ds : List Decl) (cs : Commands) (b : AfterDeclarations) (t : Stage) → 0 < length ds → b ≡ declared s.scope p (declarations_in ds) s.found → t ≡ stage_in p cs b
    → done s.scope p (block l (declarations_in ds) cs) s.found ≡ each_done t.scope (labelled b.found.next b.place) cs t.found
block_with_declarations s p l [] cs b t some eb et = absurd (omega (arith, some))
block_with_declarations s p l (d ∷ ds) cs b t some eb et = rw et (rw eb refl)

-- the stage behind a block's commands
abbrev pub block_behind : Enclosing → Commands → AfterDeclarations → Stage
block_behind p cs b =
    let t : Stage = stage_in p cs b in
    record { scope = t.scope; found = each_done t.scope (labelled b.found.next b.place) cs t.found }

-- a stage by its parts
pub stage_by_parts : (bs cs : List Binding) (f g : Found) → bs ≡ cs → f ≡ g → ◌≡◌ {A = Stage} (record { scope = bs; found = f }) (record { scope = cs; found = g })
stage_by_parts bs cs f g ebs ef = rw ebs (rw ef refl)

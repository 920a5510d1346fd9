-- Names that come into scope one after another: what is left of them, one name further.
use Rattle.bk_scope.proofs.Terms.{arith, ◌≡◌, ℕ, ◌+◌, ◌<◌, List, [], ◌∷◌, ◌++◌, length, get_or, drop, map, refl, sym, ap, ◌∙◌, at_drop_more, Name, Def, Decl, Commands, block, define, mention, command_in, commands_in, declarations_in, definition, definitions_in, Variable, Label, Binding, bind, kept, Found, takes, Stage, labels_of, labels_of_each, with_labels, with_formals, with_procedures, listed, all_listed}
use Rattle.bk_tree.specs.declared.tree.Command.{Command as CommandNode}

-- what depends on the rest of a list, by the first of the rest
one_further : {A : Type 0} {B : Type 0} (F : List A → B) (xs : List A) (i : ℕ) (x : A) → i < length xs → x ≡ get_or xs i x → F (x ∷ drop (i + 1) xs) ≡ F (drop i xs)
one_further F xs i x lt is = ap (λ z. F (z ∷ drop (i + 1) xs)) is ∙ sym (at_drop_more F xs i x lt)

-- labels in two stretches
pub labels_in_two_stretches : (k : ℕ) (xs ys : List (List ℕ)) (s : Stage) → with_labels k (xs ++ ys) s ≡ with_labels k ys (with_labels k xs s)
labels_in_two_stretches k [] ys s = refl
labels_in_two_stretches k (x ∷ xs) ys s = labels_in_two_stretches k xs ys (record { scope = bind x (Label k s.found.next) s.scope; found = takes s.found })

-- the labels, formals, procedures and names that are left, once the first of them is in
pub labels_next : (k : ℕ) (xs : List CommandNode) (i : ℕ) (x : CommandNode) (s : Stage) → i < length xs → x ≡ get_or xs i x
    → with_labels k (labels_of_each (commands_in (drop (i + 1) xs))) (with_labels k (labels_of (command_in x)) s) ≡ with_labels k (labels_of_each (commands_in (drop i xs))) s
labels_next k xs i x s lt is =
    sym (labels_in_two_stretches k (labels_of (command_in x)) (labels_of_each (commands_in (drop (i + 1) xs))) s)
    ∙ one_further (λ zs. with_labels k (labels_of_each (commands_in zs)) s) xs i x lt is

pub formals_next : (k d : ℕ) (xs : List Name) (i : ℕ) (x : Name) (bs : List Binding) → i < length xs → x ≡ get_or xs i x
    → with_formals k (kept (d + 1)) (map mention (drop (i + 1) xs)) (bind x.letters.items (Variable k d) bs) ≡ with_formals k d (map mention (drop i xs)) bs
formals_next k d xs i x bs lt is = one_further (λ zs. with_formals k d (map mention zs) bs) xs i x lt is

pub procedures_next : (xs : List Def) (i : ℕ) (x : Def) (s : Stage) → i < length xs → x ≡ get_or xs i x
    → with_procedures (define (definition x) (definitions_in (drop (i + 1) xs))) s ≡ with_procedures (definitions_in (drop i xs)) s
procedures_next xs i x s lt is = one_further (λ zs. with_procedures (definitions_in zs) s) xs i x lt is

pub listed_next : (n : ℕ) (xs : List Name) (i : ℕ) (x : Name) (f : Found) → i < length xs → x ≡ get_or xs i x
    → all_listed n (map mention (drop (i + 1) xs)) (listed n x.at x.letters.items f) ≡ all_listed n (map mention (drop i xs)) f
listed_next n xs i x f lt is = one_further (λ zs. all_listed n (map mention zs) f) xs i x lt is

-- a block without declarations, and one with some
pub labels_of_bare : (l : ℕ) (ds : List Decl) (cs : Commands) → length ds ≡ 0 → labels_of (block l (declarations_in ds) cs) ≡ labels_of_each cs
labels_of_bare l [] cs none = refl
labels_of_bare l (d ∷ ds) cs none = absurd (omega (arith, none))

pub labels_of_own : (l : ℕ) (ds : List Decl) (cs : Commands) → 0 < length ds → labels_of (block l (declarations_in ds) cs) ≡ []
labels_of_own l [] cs some = absurd (omega (arith, some))
labels_of_own l (d ∷ ds) cs some = refl

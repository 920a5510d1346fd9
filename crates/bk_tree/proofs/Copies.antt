-- Lists of copies, one more each.
use Rattle.std.proofs.Common.{◌≡◌, ℕ, ◌+◌, ◌<◌, List, [], ◌∷◌, ◌++◌, length, get_or, take, sym, ap, ◌∙◌}
use Rattle.std.proofs.lemmas.List.{take_more}
use Rattle.bk_tree.specs.declared.tree.Expr.{Expr}
use Rattle.bk_tree.specs.declared.tree.Command.{Command as CommandNode}
use Rattle.bk_tree.specs.declared.tree.Decl.{Decl}
use Rattle.bk_tree.specs.declared.tree.ConstItem.{ConstItem}
use Rattle.bk_tree.specs.declared.tree.Def.{Def}
use Rattle.bk_tree.specs.declared.tree.Init.{Init}
use Rattle.bk_tree.specs.Tree.{none, more, no_commands, also, no_declarations, declare, no_definitions, define, expression, expressions_in, command_in, commands_in, declaration, declarations_in, items_in, definition, definitions_in, starts_in}
use Rattle.bk_tree.specs.Parts.{each_then, commands_then, declarations_then, items_then, definitions_then, starts_then}
use Rattle.bk_tree.proofs.Trees.{expressions_push, commands_push, declarations_push, items_push, definitions_push, starts_push}

next : {A : Type 0} {B : Type 0} (L : List A → B) (P : B → A → B) (push : (zs : List A) (z : A) → L (zs ++ z ∷ []) ≡ P (L zs) z) (xs ys : List A) (i : ℕ) (x y : A) → i < length xs → x ≡ get_or xs i x → L ys ≡ L (take i xs) → ((b : B) → P b y ≡ P b x) → L (ys ++ y ∷ []) ≡ L (take (i + 1) xs)
next L P push xs ys i x y lt is so_far same =
    push ys y ∙ ap (λ b. P b y) so_far ∙ same (L (take i xs)) ∙ sym (push (take i xs) x)
    ∙ ap L (sym (take_more xs i x lt ∙ ap (λ z. take i xs ++ z ∷ []) (sym is)))

pub expressions_next : (xs ys : List Expr) (i : ℕ) (x y : Expr) → i < length xs → x ≡ get_or xs i x → expressions_in ys ≡ expressions_in (take i xs) → expression y ≡ expression x → expressions_in (ys ++ y ∷ []) ≡ expressions_in (take (i + 1) xs)
expressions_next xs ys i x y lt is so_far same = next expressions_in (λ b z. each_then b (more (expression z) none)) expressions_push xs ys i x y lt is so_far (λ b. ap (λ e. each_then b (more e none)) same)

pub commands_next : (xs ys : List CommandNode) (i : ℕ) (x y : CommandNode) → i < length xs → x ≡ get_or xs i x → commands_in ys ≡ commands_in (take i xs) → command_in y ≡ command_in x → commands_in (ys ++ y ∷ []) ≡ commands_in (take (i + 1) xs)
commands_next xs ys i x y lt is so_far same = next commands_in (λ b z. commands_then b (also (command_in z) no_commands)) commands_push xs ys i x y lt is so_far (λ b. ap (λ e. commands_then b (also e no_commands)) same)

pub declarations_next : (xs ys : List Decl) (i : ℕ) (x y : Decl) → i < length xs → x ≡ get_or xs i x → declarations_in ys ≡ declarations_in (take i xs) → declaration y ≡ declaration x → declarations_in (ys ++ y ∷ []) ≡ declarations_in (take (i + 1) xs)
declarations_next xs ys i x y lt is so_far same = next declarations_in (λ b z. declarations_then b (declare (declaration z) no_declarations)) declarations_push xs ys i x y lt is so_far (λ b. ap (λ e. declarations_then b (declare e no_declarations)) same)

pub items_next : (xs ys : List ConstItem) (i : ℕ) (x y : ConstItem) → i < length xs → x ≡ get_or xs i x → items_in ys ≡ items_in (take i xs) → items_in (y ∷ []) ≡ items_in (x ∷ []) → items_in (ys ++ y ∷ []) ≡ items_in (take (i + 1) xs)
items_next xs ys i x y lt is so_far same = next items_in (λ b z. items_then b (items_in (z ∷ []))) items_push xs ys i x y lt is so_far (λ b. ap (items_then b) same)

pub definitions_next : (xs ys : List Def) (i : ℕ) (x y : Def) → i < length xs → x ≡ get_or xs i x → definitions_in ys ≡ definitions_in (take i xs) → definition y ≡ definition x → definitions_in (ys ++ y ∷ []) ≡ definitions_in (take (i + 1) xs)
definitions_next xs ys i x y lt is so_far same = next definitions_in (λ b z. definitions_then b (define (definition z) no_definitions)) definitions_push xs ys i x y lt is so_far (λ b. ap (λ e. definitions_then b (define e no_definitions)) same)

pub starts_next : (xs ys : List Init) (i : ℕ) (x y : Init) → i < length xs → x ≡ get_or xs i x → starts_in ys ≡ starts_in (take i xs) → starts_in (y ∷ []) ≡ starts_in (x ∷ []) → starts_in (ys ++ y ∷ []) ≡ starts_in (take (i + 1) xs)
starts_next xs ys i x y lt is so_far same = next starts_in (λ b z. starts_then b (starts_in (z ∷ []))) starts_push xs ys i x y lt is so_far (λ b. ap (starts_then b) same)

-- Names that are bound one after another: what is left of them, one further.
use Rattle.bk_lasting.proofs.Terms.{◌≡◌, ℕ, ◌+◌, ◌<◌, List, [], ◌∷◌, ◌++◌, length, get_or, drop, refl, sym, ap, ◌∙◌, at_drop_more, append-nil, Decl, Command, Definition, Definitions, routine, function, variables, no_definitions, define, command_in, commands_in, declaration, declarations_in, definition, definitions_in, labels_of, labels_of_each, Environment, Sense, label, bind, bind_each, bind_procedure, bind_procedures, past_definition, variables_hidden, all_declared, declared, in_scope}
use Rattle.bk_tree.specs.declared.tree.Command.{Command as CommandNode}
use Rattle.bk_tree.specs.declared.tree.Def.{Def}

-- what depends on the rest of a list, by the first of the rest
pub one_further : {A : Type 0} {B : Type 0} (F : List A → B) (xs : List A) (i : ℕ) (x : A) → i < length xs → x ≡ get_or xs i x → F (x ∷ drop (i + 1) xs) ≡ F (drop i xs)
one_further F xs i x lt is = ap (λ z. F (z ∷ drop (i + 1) xs)) is ∙ sym (at_drop_more F xs i x lt)

-- names in two stretches
pub bind_stretches : (xs ys : List (List ℕ)) (m : Sense) (env : Environment) → bind_each (xs ++ ys) m env ≡ bind_each ys m (bind_each xs m env)
bind_stretches [] ys m env = refl
bind_stretches (x ∷ xs) ys m env = bind_stretches xs ys m (bind x m env)

pub labels_next : (xs : List CommandNode) (i : ℕ) (x : CommandNode) (env : Environment) → i < length xs → x ≡ get_or xs i x
    → bind_each (labels_of_each (commands_in (drop (i + 1) xs))) label (bind_each (labels_of (command_in x)) label env) ≡ bind_each (labels_of_each (commands_in (drop i xs))) label env
labels_next xs i x env lt is =
    sym (bind_stretches (labels_of (command_in x)) (labels_of_each (commands_in (drop (i + 1) xs))) label env)
    ∙ one_further (λ zs. bind_each (labels_of_each (commands_in zs)) label env) xs i x lt is

pub labels_in_scope : (c : Command) (env : Environment) → bind_each (labels_of c) label env ≡ in_scope c env
labels_in_scope c env = ap (λ xs. bind_each xs label env) (sym (append-nil (labels_of c)))

pub procedures_next : (xs : List Def) (i : ℕ) (x : Def) (env : Environment) → i < length xs → x ≡ get_or xs i x
    → bind_procedures (definitions_in (drop (i + 1) xs)) (past_definition (definition x) (bind_procedure (definition x) env)) ≡ bind_procedures (definitions_in (drop i xs)) env
procedures_next xs i x env lt is = one_further (λ zs. bind_procedures (definitions_in zs) env) xs i x lt is

hidden_first : (d : Definition) (ds : Definitions) (env : Environment) → variables_hidden ds (variables_hidden (define d no_definitions) env) ≡ variables_hidden (define d ds) env
hidden_first (routine l x fs c) ds env = refl
hidden_first (function l x fs e) ds env = refl
hidden_first (variables l xs is) ds env = refl

pub hidden_next : (xs : List Def) (i : ℕ) (x : Def) (env : Environment) → i < length xs → x ≡ get_or xs i x
    → variables_hidden (definitions_in (drop (i + 1) xs)) (variables_hidden (define (definition x) no_definitions) env) ≡ variables_hidden (definitions_in (drop i xs)) env
hidden_next xs i x env lt is =
    hidden_first (definition x) (definitions_in (drop (i + 1) xs)) env ∙ one_further (λ zs. variables_hidden (definitions_in zs) env) xs i x lt is

pub declared_next : (xs : List Decl) (i : ℕ) (x : Decl) (env : Environment) → i < length xs → x ≡ get_or xs i x
    → all_declared (declarations_in (drop (i + 1) xs)) (declared (declaration x) env) ≡ all_declared (declarations_in (drop i xs)) env
declared_next xs i x env lt is = one_further (λ zs. all_declared (declarations_in zs) env) xs i x lt is

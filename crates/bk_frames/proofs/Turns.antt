-- What the machine does with a symbol, by the tests that the parser makes in turn.
use Rattle.bk_frames.proofs.Terms.{◌≡◌, ◌≤◌, ◌+◌, max, [], ◌∷◌, length, arith, ℕ, List, Bool, true, false, cond, Option, Some, None, refl, ap, Kind, Operator, Prefix, Guard, depth, depth_of_command, nodes, nodes_of_command, leaf, goes, assigns, inner, following, infix_of, prefix_of, simple_of, guard_of, is_arrow, is_both, is_comma, is_name, declaring_of, opening_of, heading_of, repetition_of, last, at_expression, at_command, Stack, State, push, infixed, want, have, begin, due, did, in_args, in_then, in_parens, in_unary, in_valof, in_table, in_start, in_guard, in_dests, in_values, in_by, in_for, in_routine, in_function, in_while, at_variable, at_starts, at_formal, at_head, at_items, is_open, is_assign, is_equal, is_close, is_be, is_by, is_do, is_semicolon, closes, bars, no_args, take_operand, take_command, dests, in_names, in_formals, headed, to_or_do, in_constants, declared, again, named, take_declaration, declared_by, take_due, take_item, at_sign, give, finish, in_head, in_binary, guarded, Sort, related, heads, declaring, are_none, are_no_items, Kind as k, Guard as g, Opening, Opening as s, ConstItem, ConstItem as i, Repetition, Repetition as r}
use Rattle.bk_tree.specs.declared.tree.Simple.{Simple}
use Rattle.bk_grammar.specs.declared.symbols.Heading.{Heading}
use Rattle.bk_tree.specs.declared.tree.Expr.{Expr}
use Rattle.bk_tree.specs.declared.tree.Command.{Command as CommandNode}
use Rattle.bk_tree.specs.Tree.{expressions_in, items_in, commands_in, call, Mention, Expression, Expressions, Command, Items, Declaration, unary, binary, apply, simple, repeat, constants, none, more, no_starts}
use Rattle.bk_lex.specs.Values.{upper_name}
use Rattle.bk_grammar.specs.declared.symbols.Declaring.{Declaring}

abbrev pub pushed : Stack → Expression → ℕ → Option Operator → Bool → Bool → Option State
pushed st e l (Some o) round arrow = infixed st e l (Some o)
pushed st e l None round arrow = cond round (Some (want (in_args l e none st))) (cond arrow (Some (want (in_then l e st))) None)

pub push_cases : (st : Stack) (e : Expression) (kind : Kind) (l : ℕ) → push st e kind l ≡ pushed st e l (infix_of kind) (is_open kind) (is_arrow kind)
push_cases st e kind l = grind arith

pub last_cases : (l : ℕ) (o : Operator) (m : ℕ) (a b : Expression) → last (binary l o m a b) ≡ cond (is_both o) (related b) (related (binary l o m a b))
last_cases l o m a b = grind arith

pub related_last : (e b : Expression) → related e ≡ Some b → last e ≡ Some b
related_last e b h1 = grind arith

abbrev pub opened : Stack → ℕ → Option Opening → Option State
opened st l (Some s.Parens) = Some (want (in_parens l st))
opened st l (Some s.Close) = no_args st
opened st l (Some s.Valof) = Some (begin (in_valof l st))
opened st l (Some s.Table) = cond (bars st) None (Some (want (in_table l none st)))
opened st l None = None

abbrev pub operand_by : Stack → ℕ → Option Expression → Option Prefix → Option Opening → Option State
operand_by st l (Some e) p o = Some (have st e)
operand_by st l None (Some p) o = Some (want (in_unary l p st))
operand_by st l None None o = opened st l o

pub operand_cases : (st : Stack) (l : ℕ) (x : List ℕ) (kind : Kind) → take_operand st l x kind ≡ operand_by st l (leaf kind l x) (prefix_of kind) (opening_of kind)
operand_cases st l x kind = grind arith

abbrev pub command_by : Stack → ℕ → List ℕ → Kind → Option Simple → Option Guard → Option Heading → Option State
command_by st l x kind (Some w) g y = Some (did st (simple l w))
command_by st l x kind None (Some g) y = Some (want (in_guard g l st))
command_by st l x kind None None (Some y) = Some (heads st l y)
command_by st l x kind None None None = take_operand (in_start st) l x kind

pub command_cases : (st : Stack) (l : ℕ) (x : List ℕ) (kind : Kind) → take_command st l x kind ≡ command_by st l x kind (simple_of kind) (guard_of kind) (heading_of kind)
command_cases st l x kind = grind arith

pub dests_cases : (xs : Expressions) (st : Stack) (kind : Kind) → dests xs st kind ≡ cond (is_comma kind) (Some (want (in_dests xs st))) (cond (is_assign kind) (Some (want (in_values xs none st))) None)
dests_cases xs st kind = grind arith

pub names_cases : (xs : List Mention) (st : Stack) (kind : Kind) → in_names xs st kind ≡ cond (is_comma kind) (Some (due (at_variable xs st))) (cond (is_equal kind) (Some (due (at_starts xs no_starts st))) None)
names_cases xs st kind = grind arith

pub formals_cases : (n : Mention) (fs : List Mention) (st : Stack) (kind : Kind) → in_formals n fs st kind ≡ cond (is_comma kind) (Some (due (at_formal n fs st))) (cond (is_close kind) (Some (due (at_head n fs st))) None)
formals_cases n fs st kind = grind arith

pub headed_cases : (n : Mention) (fs : List Mention) (st : Stack) (kind : Kind) → headed n fs st kind ≡ cond (is_be kind) (Some (begin (in_routine n fs st))) (cond (is_equal kind) (Some (want (in_function n fs st))) None)
headed_cases n fs st kind = grind arith

pub limit_cases : (l : ℕ) (n : Mention) (a b : Expression) (st : Stack) (kind : Kind) → to_or_do l n a b st kind ≡ cond (is_by kind) (Some (want (in_by l n a b st))) (cond (is_do kind) (Some (begin (in_for l n a b none st))) None)
limit_cases l n a b st kind = grind arith

pub constants_cases : (l : ℕ) (s : Sort) (is : Items) (st : Stack) (kind : Kind) → in_constants l s is st kind ≡ cond (is_semicolon kind) (Some (due (at_items l s is st))) (cond (closes kind) (declared st (constants l s is)) None)
constants_cases l s is st kind = grind arith

abbrev pub again_by : Stack → Command → Option Repetition → Option State
again_by st c (Some r.Always) = Some (did st (repeat (at_command c) c))
again_by st c (Some r.While) = Some (want (in_while true c st))
again_by st c (Some r.Until) = Some (want (in_while false c st))
again_by st c None = None

pub again_cases : (st : Stack) (c : Command) (kind : Kind) → again st c kind ≡ again_by st c (repetition_of kind)
again_cases st c kind = grind arith

abbrev pub declaring_by : Stack → ℕ → Option Declaring → Option State → Option State
declaring_by st l (Some d) other = Some (declaring st l d)
declaring_by st l None other = other

pub declaration_cases : (st : Stack) (l : ℕ) (kind : Kind) (other : Option State) → take_declaration st l kind other ≡ declaring_by st l (declaring_of kind) other
declaration_cases st l kind other = grind arith

-- a declaration is complete, and the symbol behind it comes
abbrev pub declared_due : Option State → ℕ → List ℕ → Kind → Option State
declared_due None l x kind = None
declared_due (Some (due st)) l x kind = take_due st l x kind
declared_due (Some _) l x kind = None

pub declared_then : (st : Stack) (d : Declaration) (l : ℕ) (x : List ℕ) (kind : Kind) → declared_by st d l x kind ≡ declared_due (declared st d) l x kind
declared_then st d l x kind = grind arith

abbrev pub named_by : ℕ → List ℕ → (Mention → State) → Bool → Option State
named_by l x f b = cond b (Some (f (record { at = l; letters = upper_name x }))) None

pub named_cases : (kind : Kind) (l : ℕ) (x : List ℕ) (f : Mention → State) → named kind l x f ≡ named_by l x f (is_name kind)
named_cases kind l x f = grind arith

-- an expression with which the symbol does not go on is complete
pub unary_done : (m : ℕ) (p : Prefix) (st : Stack) (e : Expression) (l : ℕ) (x : List ℕ) (kind : Kind) → goes (following p) kind ≡ false → give (in_unary m p st) e l x kind ≡ give st (unary m p e) l x kind
unary_done m p st e l x kind h = ap (λ b. cond b (push (in_unary m p st) e kind l) (give st (unary m p e) l x kind)) h

pub binary_done : (o : Operator) (m : ℕ) (a : Expression) (st : Stack) (e : Expression) (l : ℕ) (x : List ℕ) (kind : Kind) → goes (inner o) kind ≡ false → give (in_binary o m a st) e l x kind ≡ give st (binary (at_expression a) o m a e) l x kind
binary_done o m a st e l x kind h = ap (λ b. cond b (push (in_binary o m a st) e kind l) (give st (binary (at_expression a) o m a e) l x kind)) h

pub no_args_cases : (l : ℕ) (f : Expression) (es : Expressions) (st : Stack) → no_args (in_args l f es st) ≡ cond (are_none es) (Some (have st (apply (at_expression f) l f es))) None
no_args_cases l f es st = grind arith

pub items_cases : (m : ℕ) (s : Sort) (is : Items) (st : Stack) (l : ℕ) (x : List ℕ) (kind : Kind) → take_item m s is st l x kind ≡ cond (are_no_items is) (named kind l x (λ n. due (at_sign m s is n st))) (cond (is_semicolon kind) (Some (due (at_items m s is st))) (cond (closes kind) (declared st (constants m s is)) (named kind l x (λ n. due (at_sign m s is n st)))))
items_cases m s is st l x kind = grind arith

pub some_expressions : (xs : List Expr) → 1 ≤ length xs → false ≡ are_none (expressions_in xs)
some_expressions [] h = absurd (omega arith)
some_expressions (x ∷ xs) h = refl

pub some_items : (xs : List ConstItem) → 1 ≤ length xs → false ≡ are_no_items (items_in xs)
some_items [] h = absurd (omega arith)
some_items ((i.Item l x y) ∷ xs) h = refl

pub some_commands : (xs : List CommandNode) → 1 ≤ length xs → false ≡ in_head (commands_in xs)
some_commands [] h = absurd (omega arith)
some_commands (x ∷ xs) h = refl

-- a call at the head of a command is complete
pub call_done : (st : Stack) (m s : ℕ) (f : Expression) (es : Expressions) (l : ℕ) (x : List ℕ) (kind : Kind) → goes 12 kind ≡ false → assigns kind ≡ false → give (in_start st) (apply m s f es) l x kind ≡ finish st (call m f es) l x kind
call_done st m s f es l x kind stops other = grind (arith, dests, more, none, finish)

pub guarded_depth : (k : Guard) (l : ℕ) (e : Expression) (c : Command) → depth_of_command (guarded k l e c) ≡ max (depth e) (depth_of_command c) + 1
guarded_depth k l e c = grind arith

pub guarded_nodes : (k : Guard) (l : ℕ) (e : Expression) (c : Command) → nodes_of_command (guarded k l e c) ≡ nodes e + nodes_of_command c + 1
guarded_nodes k l e c = grind arith

pub ruleset guarded_sizes = (guarded_depth, guarded_nodes)

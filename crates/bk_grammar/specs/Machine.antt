-- Reading, a symbol at a time, with a stack of what was begun.
use Rattle.std.specs.Prelude.{ℕ, ◌+◌, Bool, true, false, Option, Some, None, Result, Ok, Err, ◌==◌, nat_lt, cond, length, List, [], ◌∷◌, ◌++◌}
use Rattle.bk_lex.specs.declared.token.Kind.{Kind}
use Rattle.bk_lex.specs.declared.token.Kind.TheVariants as k
use Rattle.bk_lex.specs.Symbol.{Symbol}
use Rattle.bk_tree.specs.declared.tree.Operator.{Operator}
use Rattle.bk_tree.specs.declared.tree.Operator.TheVariants.{Both}
use Rattle.bk_tree.specs.declared.tree.Prefix.{Prefix}
use Rattle.bk_tree.specs.declared.tree.Sort.{Sort}
use Rattle.bk_tree.specs.declared.tree.Simple.{Simple}
use Rattle.bk_grammar.specs.declared.symbols.Guard.{Guard}
use Rattle.bk_grammar.specs.declared.symbols.Guard.TheVariants as g
use Rattle.bk_tree.specs.Tree.{Mention, Expression, Expressions, Command, Commands, Declaration, Declarations, Items, Definition, Definitions, Starts, name, parens, unary, binary, choice, apply, valof, table, none, more, empty, assign, call, goto, label, case_of, default, when, test, while, for_loop, switch, result, simple, block, repeat, repeat_while, no_commands, also, constants, definitions, no_declarations, declare, no_items, item, routine, function, variables, no_definitions, define, no_starts, value, vector}
use Rattle.bk_lex.specs.Values.{upper_name}
use Rattle.bk_grammar.specs.Rows.{inner, following, is_relation, infix_of, prefix_of, leaf, simple_of, sort_of, guard_of, begins_command, repeats, assigns, is_and, is_comma, goes}
use Rattle.bk_grammar.specs.Grammar.{last}
use Rattle.bk_tree.specs.Parts.{at_expression, at_expressions, at_names, at_command, size, start_count, commands_then, declarations_then, definitions_then, each_then, items_then, starts_then}
use Rattle.bk_grammar.specs.Placed.{position_of}

pub data Stack : Type 0 where
  in_section : Declarations → Stack
  in_block : ℕ → Bool → Declarations → Commands → Stack → Stack
  in_let : ℕ → Definitions → Stack → Stack
  at_name : Mention → Stack → Stack
  at_formals : Mention → Stack → Stack
  at_formal : Mention → List Mention → Stack → Stack
  at_formal_end : Mention → List Mention → Stack → Stack
  at_head : Mention → List Mention → Stack → Stack
  at_variable : List Mention → Stack → Stack
  at_variable_end : List Mention → Stack → Stack
  at_starts : List Mention → Starts → Stack → Stack
  at_opening : ℕ → Sort → Stack → Stack
  at_items : ℕ → Sort → Items → Stack → Stack
  at_sign : ℕ → Sort → Items → Mention → Stack → Stack
  at_goto : ℕ → Stack → Stack
  at_for : ℕ → Stack → Stack
  at_forward : ℕ → Mention → Stack → Stack
  at_default : ℕ → Stack → Stack
  in_parens : ℕ → Stack → Stack
  in_unary : ℕ → Prefix → Stack → Stack
  in_binary : Operator → ℕ → Expression → Stack → Stack
  in_chain : Operator → ℕ → Expression → Expression → Stack → Stack
  in_then : ℕ → Expression → Stack → Stack
  in_else : ℕ → Expression → Expression → Stack → Stack
  in_args : ℕ → Expression → Expressions → Stack → Stack
  in_table : ℕ → Expressions → Stack → Stack
  in_start : Stack → Stack
  in_dests : Expressions → Stack → Stack
  in_values : Expressions → Expressions → Stack → Stack
  in_guard : Guard → ℕ → Stack → Stack
  in_test : ℕ → Stack → Stack
  in_result : ℕ → Stack → Stack
  in_while : Bool → Command → Stack → Stack
  in_from : ℕ → Mention → Stack → Stack
  in_to : ℕ → Mention → Expression → Stack → Stack
  in_by : ℕ → Mention → Expression → Expression → Stack → Stack
  in_item : ℕ → Sort → Items → Mention → Stack → Stack
  in_function : Mention → List Mention → Stack → Stack
  in_value : List Mention → Starts → Stack → Stack
  in_vector : ℕ → List Mention → Starts → Stack → Stack
  in_valof : ℕ → Stack → Stack
  in_label : ℕ → List ℕ → Stack → Stack
  in_guarded : Guard → ℕ → Expression → Stack → Stack
  in_default : ℕ → Stack → Stack
  in_do : ℕ → Expression → Stack → Stack
  in_or : ℕ → Expression → Command → Stack → Stack
  in_for : ℕ → Mention → Expression → Expression → Expressions → Stack → Stack
  in_routine : Mention → List Mention → Stack → Stack

-- an operand is due; an expression may go on; a command is due, or may come; one may go on; a symbol is due
pub data State : Type 0 where
  want : Stack → State
  have : Stack → Expression → State
  begin : Stack → State
  maybe : Stack → State
  did : Stack → Command → State
  due : Stack → State

-- the rows that may be on top
abbrev pub limit : Stack → ℕ
limit (in_unary l p st) = following p
limit (in_binary o s a st) = inner o
limit (in_chain o s a b st) = 5
limit _ = 12

abbrev pub linked : Operator → ℕ → Expression → Stack → Option Expression → State
linked o s e st None = want (in_binary o s e st)
linked o s e st (Some b) = want (in_chain o s e b st)

abbrev pub infixed : Stack → Expression → ℕ → Option Operator → Option State
infixed st e s None = None
infixed st e s (Some o) = Some (cond (is_relation o) (linked o s e st (last e)) (want (in_binary o s e st)))

-- the expression goes on
abbrev pub push : Stack → Expression → Kind → ℕ → Option State
push st e k.Open s = Some (want (in_args s e none st))
push st e k.Arrow s = Some (want (in_then s e st))
push st e kind s = infixed st e s (infix_of kind)

abbrev pub is_close : Kind → Bool
is_close k.Close = true
is_close _ = false

abbrev pub is_assign : Kind → Bool
is_assign k.Assign = true
is_assign _ = false

abbrev pub is_colon : Kind → Bool
is_colon k.Colon = true
is_colon _ = false

abbrev pub is_do : Kind → Bool
is_do k.Do = true
is_do _ = false

abbrev pub is_or : Kind → Bool
is_or k.Or = true
is_or _ = false

abbrev pub is_to : Kind → Bool
is_to k.To = true
is_to _ = false

abbrev pub is_by : Kind → Bool
is_by k.By = true
is_by _ = false

abbrev pub is_be : Kind → Bool
is_be k.Be = true
is_be _ = false

abbrev pub is_equal : Kind → Bool
is_equal k.Equal = true
is_equal _ = false

abbrev pub is_semicolon : Kind → Bool
is_semicolon k.Semicolon = true
is_semicolon _ = false

abbrev pub opens : Kind → Bool
opens k.SectionOpen = true
opens _ = false

abbrev pub closes : Kind → Bool
closes k.SectionClose = true
closes _ = false

abbrev pub is_vec : Kind → Bool
is_vec k.Vec = true
is_vec _ = false

abbrev pub is_let : Kind → Bool
is_let k.Let = true
is_let _ = false

abbrev pub is_open : Kind → Bool
is_open k.Open = true
is_open _ = false

abbrev pub is_sign_of : Guard → Kind → Bool
is_sign_of g.SwitchOn k.Into = true
is_sign_of g.SwitchOn _ = false
is_sign_of g.Case kind = is_colon kind
is_sign_of _ kind = is_do kind

abbrev pub if_is : Bool → State → Option State
if_is b x = cond b (Some x) None

-- the name that a symbol is
abbrev pub named : Kind → ℕ → List ℕ → (Mention → State) → Option State
named k.Name l x f = Some (f (record { at = l; letters = upper_name x }))
named _ l x f = None

-- the command that a guard makes
abbrev pub guarded : Guard → ℕ → Expression → Command → Command
guarded g.If l e c = when l true e c
guarded g.Unless l e c = when l false e c
guarded g.While l e c = while l true e c
guarded g.Until l e c = while l false e c
guarded g.SwitchOn l e c = switch l e c
guarded g.Case l e c = case_of l e c

-- after a guard's sign a command is due; after that of a CASE one may come
abbrev pub after_sign : Guard → Stack → State
after_sign g.Case st = maybe st
after_sign _ st = begin st

abbrev pub prefixed : Stack → ℕ → Option Prefix → Option State
prefixed st l None = None
prefixed st l (Some p) = Some (want (in_unary l p st))

-- no arguments
abbrev pub no_args : Stack → Option State
no_args (in_args s f none st) = Some (have st (apply (at_expression f) s f none))
no_args _ = None

-- whether a comma is owed after this expression, so that no TABLE may end it
abbrev pub bars : Stack → Bool
bars (in_then s c st) = true
bars (in_unary l p st) = bars st
bars (in_binary o s a st) = bars st
bars (in_chain o s a b st) = bars st
bars (in_else s c a st) = bars st
bars (in_values xs ys st) = nat_lt (size ys + 1) (size xs)
bars (in_value xs is st) = nat_lt (start_count is + 1) (length xs)
bars (in_vector l xs is st) = nat_lt (start_count is + 1) (length xs)
bars _ = false

abbrev pub leaved : Stack → Kind → ℕ → Option Expression → Option State
leaved st kind l (Some e) = Some (have st e)
leaved st kind l None = prefixed st l (prefix_of kind)

-- an operand is due, and this symbol comes
abbrev pub take_operand : Stack → ℕ → List ℕ → Kind → Option State
take_operand st l x k.Open = Some (want (in_parens l st))
take_operand st l x k.Close = no_args st
take_operand st l x k.Valof = Some (begin (in_valof l st))
take_operand st l x k.Table = cond (bars st) None (Some (want (in_table l none st)))
take_operand st l x kind = leaved st kind l (leaf kind l x)

abbrev pub take_start : Stack → ℕ → List ℕ → Kind → Option Simple → Option Guard → Option State
take_start st l x kind (Some w) guard = Some (did st (simple l w))
take_start st l x kind None (Some guard) = Some (want (in_guard guard l st))
take_start st l x kind None None = take_operand (in_start st) l x kind

-- a command is due, and this symbol comes
abbrev pub take_command : Stack → ℕ → List ℕ → Kind → Option State
take_command st l x k.Goto = Some (due (at_goto l st))
take_command st l x k.Test = Some (want (in_test l st))
take_command st l x k.For = Some (due (at_for l st))
take_command st l x k.ResultIs = Some (want (in_result l st))
take_command st l x k.Default = Some (due (at_default l st))
take_command st l x k.SectionOpen = Some (due (in_block l true no_declarations no_commands st))
take_command st l x kind = take_start st l x kind (simple_of kind) (guard_of kind)

abbrev pub sorted : Stack → ℕ → Option Sort → Option State → Option State
sorted st l None other = other
sorted st l (Some s) other = Some (due (at_opening l s st))

-- a declaration, or what else the symbol begins
abbrev pub take_declaration : Stack → ℕ → Kind → Option State → Option State
take_declaration st l kind other = cond (is_let kind) (Some (due (in_let l no_definitions st))) (sorted st l (sort_of kind) other)

abbrev pub take_in_section : Declarations → ℕ → Kind → Option State
take_in_section ds l kind = cond (is_semicolon kind) (Some (due (in_section ds))) (take_declaration (in_section ds) l kind None)

abbrev pub in_head : Commands → Bool
in_head no_commands = true
in_head (also c cs) = false

-- a symbol in a block, where no command goes on
abbrev pub take_in_block : ℕ → Bool → Declarations → Commands → Stack → ℕ → List ℕ → Kind → Option State
take_in_block b free ds cs st l x kind =
    cond (is_semicolon kind) (Some (due (in_block b true ds cs st)))
    (cond (closes kind) (Some (did st (block b ds cs)))
    (cond (in_head cs)
    (take_declaration (in_block b free ds cs st) l kind (cond free (take_command (in_block b free ds cs st) l x kind) None))
    (cond free (take_command (in_block b free ds cs st) l x kind) None)))

-- a declaration is complete
abbrev pub declared : Stack → Declaration → Option State
declared (in_section ds) d = Some (due (in_section (declarations_then ds (declare d no_declarations))))
declared (in_block l free ds cs st) d = Some (due (in_block l false (declarations_then ds (declare d no_declarations)) cs st))
declared _ d = None

-- a LET is complete, and a symbol comes after it
abbrev pub declared_by : Stack → Declaration → ℕ → List ℕ → Kind → Option State
declared_by (in_section ds) d l x kind = take_in_section (declarations_then ds (declare d no_declarations)) l kind
declared_by (in_block b free ds cs st) d l x kind = take_in_block b false (declarations_then ds (declare d no_declarations)) cs st l x kind
declared_by _ d l x kind = None

-- a definition is complete, and a symbol comes after it
abbrev pub defined_by : Stack → Definition → ℕ → List ℕ → Kind → Option State
defined_by (in_let m ds st) d l x kind =
    cond (is_and kind) (Some (due (in_let m (definitions_then ds (define d no_definitions)) st)))
    (declared_by st (definitions m (definitions_then ds (define d no_definitions))) l x kind)
defined_by _ d l x kind = None

-- a command of a block is complete
abbrev pub in_commands : ℕ → Declarations → Commands → Stack → Kind → Option State
in_commands b ds cs st kind = cond (is_semicolon kind) (Some (due (in_block b true ds cs st))) (cond (closes kind) (Some (did st (block b ds cs))) None)

-- a value or an item of a LET is complete: it is the last, or a comma comes
abbrev pub counted : Bool → Option State → Kind → State → Option State
counted complete whole kind next = cond complete whole (if_is (is_comma kind) next)

-- the command goes on
abbrev pub again : Stack → Command → Kind → Option State
again st c k.Repeat = Some (did st (repeat (at_command c) c))
again st c k.RepeatWhile = Some (want (in_while true c st))
again st c k.RepeatUntil = Some (want (in_while false c st))
again st c _ = None

abbrev pub dests : Expressions → Stack → Kind → Option State
dests xs st k.Comma = Some (want (in_dests xs st))
dests xs st k.Assign = Some (want (in_values xs none st))
dests xs st _ = None

abbrev pub labelled : Expression → Stack → Option State
labelled (name l x) st = Some (maybe (in_label l x st))
labelled _ st = None

-- an expression that is a call, as a command
abbrev pub is_call : Expression → Bool
is_call (apply l s f es) = true
is_call _ = false

abbrev pub call_of : Expression → Command
call_of (apply l s f es) = call l f es
call_of _ = empty

-- an item is complete
abbrev pub in_constants : ℕ → Sort → Items → Stack → Kind → Option State
in_constants l s is st k.Semicolon = Some (due (at_items l s is st))
in_constants l s is st k.SectionClose = declared st (constants l s is)
in_constants l s is st _ = None

abbrev pub to_or_do : ℕ → Mention → Expression → Expression → Stack → Kind → Option State
to_or_do l x a b st k.By = Some (want (in_by l x a b st))
to_or_do l x a b st k.Do = Some (begin (in_for l x a b none st))
to_or_do l x a b st _ = None

abbrev mutual
  -- an expression is complete, and a symbol comes after it
  pub give : Stack → Expression → ℕ → List ℕ → Kind → Option State
  give (in_parens m st) e l x t = cond (goes 12 t) (push (in_parens m st) e t l) (if_is (is_close t) (have st (parens m e)))
  give (in_unary m p st) e l x t = cond (goes (following p) t) (push (in_unary m p st) e t l) (give st (unary m p e) l x t)
  give (in_binary o s a st) e l x t = cond (goes (inner o) t) (push (in_binary o s a st) e t l) (give st (binary (at_expression a) o s a e) l x t)
  give (in_chain o s a b st) e l x t = cond (goes 5 t) (push (in_chain o s a b st) e t l) (give st (binary (at_expression a) Both s a (binary (at_expression b) o s b e)) l x t)
  give (in_then s c st) e l x t = cond (goes 12 t) (push (in_then s c st) e t l) (if_is (is_comma t) (want (in_else s c e st)))
  give (in_else s c a st) e l x t = cond (goes 12 t) (push (in_else s c a st) e t l) (give st (choice (at_expression c) s c a e) l x t)
  give (in_args s f es st) e l x t = cond (goes 12 t) (push (in_args s f es st) e t l)
      (cond (is_comma t) (Some (want (in_args s f (each_then es (more e none)) st))) (if_is (is_close t) (have st (apply (at_expression f) s f (each_then es (more e none))))))
  give (in_table m es st) e l x t = cond (goes 12 t) (push (in_table m es st) e t l)
      (cond (is_comma t) (Some (want (in_table m (each_then es (more e none)) st))) (give st (table m (each_then es (more e none))) l x t))
  give (in_start st) e l x t = cond (goes 12 t) (push (in_start st) e t l)
      (cond (assigns t) (dests (more e none) st t) (cond (is_call e) (finish st (call_of e) l x t) (cond (is_colon t) (labelled e st) None)))
  give (in_dests xs st) e l x t = cond (goes 12 t) (push (in_dests xs st) e t l) (dests (each_then xs (more e none)) st t)
  give (in_values xs ys st) e l x t = cond (goes 12 t) (push (in_values xs ys st) e t l)
      (counted (size xs == size ys + 1) (finish st (assign (at_expressions xs) xs (each_then ys (more e none))) l x t) t (want (in_values xs (each_then ys (more e none)) st)))
  give (in_guard gd m st) e l x t = cond (goes 12 t) (push (in_guard gd m st) e t l) (if_is (is_sign_of gd t) (after_sign gd (in_guarded gd m e st)))
  give (in_test m st) e l x t = cond (goes 12 t) (push (in_test m st) e t l) (if_is (is_do t) (begin (in_do m e st)))
  give (in_result m st) e l x t = cond (goes 12 t) (push (in_result m st) e t l) (finish st (result m e) l x t)
  give (in_while b c st) e l x t = cond (goes 12 t) (push (in_while b c st) e t l) (finish st (repeat_while (at_command c) b c e) l x t)
  give (in_from m n st) e l x t = cond (goes 12 t) (push (in_from m n st) e t l) (if_is (is_to t) (want (in_to m n e st)))
  give (in_to m n a st) e l x t = cond (goes 12 t) (push (in_to m n a st) e t l) (to_or_do m n a e st t)
  give (in_by m n a b st) e l x t = cond (goes 12 t) (push (in_by m n a b st) e t l) (if_is (is_do t) (begin (in_for m n a b (more e none) st)))
  give (in_item m s is n st) e l x t = cond (goes 12 t) (push (in_item m s is n st) e t l) (in_constants m s (items_then is (item n.at n.letters e no_items)) st t)
  give (in_function n fs st) e l x t = cond (goes 12 t) (push (in_function n fs st) e t l) (defined_by st (function n.at n.letters fs e) l x t)
  give (in_value ns is st) e l x t = cond (goes 12 t) (push (in_value ns is st) e t l)
      (counted (length ns == start_count is + 1) (defined_by st (variables (at_names ns) ns (starts_then is (value e no_starts))) l x t) t (due (at_starts ns (starts_then is (value e no_starts)) st)))
  give (in_vector m ns is st) e l x t = cond (goes 12 t) (push (in_vector m ns is st) e t l)
      (counted (length ns == start_count is + 1) (defined_by st (variables (at_names ns) ns (starts_then is (vector m e no_starts))) l x t) t (due (at_starts ns (starts_then is (vector m e no_starts)) st)))
  give st e l x t = cond (goes 12 t) (push st e t l) None

  -- a command is complete so far, and a symbol comes after it
  pub finish : Stack → Command → ℕ → List ℕ → Kind → Option State
  finish (in_valof m st) c l x t = cond (repeats t) (again (in_valof m st) c t) (give st (valof m c) l x t)
  finish (in_label m n st) c l x t = cond (repeats t) (again (in_label m n st) c t) (finish st (label m n c) l x t)
  finish (in_guarded gd m e st) c l x t = cond (repeats t) (again (in_guarded gd m e st) c t) (finish st (guarded gd m e c) l x t)
  finish (in_default m st) c l x t = cond (repeats t) (again (in_default m st) c t) (finish st (default m c) l x t)
  finish (in_do m e st) c l x t = cond (repeats t) (again (in_do m e st) c t) (if_is (is_or t) (begin (in_or m e c st)))
  finish (in_or m e a st) c l x t = cond (repeats t) (again (in_or m e a st) c t) (finish st (test m e a c) l x t)
  finish (in_for m n a b h st) c l x t = cond (repeats t) (again (in_for m n a b h st) c t) (finish st (for_loop m n a b h c) l x t)
  finish (in_routine n fs st) c l x t = cond (repeats t) (again (in_routine n fs st) c t) (defined_by st (routine n.at n.letters fs c) l x t)
  finish (in_block b free ds cs st) c l x t = cond (repeats t) (again (in_block b free ds cs st) c t) (in_commands b ds (commands_then cs (also c no_commands)) st t)
  finish st c l x t = cond (repeats t) (again st c t) None

-- no command follows a colon, and this symbol comes
abbrev pub without : Stack → ℕ → List ℕ → Kind → Option State
without (in_label m n st) l x t = finish st (label m n empty) l x t
without (in_guarded gd m e st) l x t = finish st (guarded gd m e empty) l x t
without (in_default m st) l x t = finish st (default m empty) l x t
without _ l x t = None

-- variables are in blocks alone
abbrev pub inside : Stack → Bool
inside (in_let m ds (in_block b free es cs st)) = true
inside _ = false

abbrev pub in_names : List Mention → Stack → Kind → Option State
in_names xs st k.Comma = Some (due (at_variable xs st))
in_names xs st k.Equal = Some (due (at_starts xs no_starts st))
in_names xs st _ = None

abbrev pub in_formals : Mention → List Mention → Stack → Kind → Option State
in_formals n fs st k.Comma = Some (due (at_formal n fs st))
in_formals n fs st k.Close = Some (due (at_head n fs st))
in_formals n fs st _ = None

abbrev pub headed : Mention → List Mention → Stack → Kind → Option State
headed n fs st k.Be = Some (begin (in_routine n fs st))
headed n fs st k.Equal = Some (want (in_function n fs st))
headed n fs st _ = None

abbrev pub take_item : ℕ → Sort → Items → Stack → ℕ → List ℕ → Kind → Option State
take_item m s no_items st l x t = named t l x (λ n. due (at_sign m s no_items n st))
take_item m s (item b y e is) st l x t =
    cond (is_semicolon t) (Some (due (at_items m s (item b y e is) st)))
    (cond (closes t) (declared st (constants m s (item b y e is))) (named t l x (λ n. due (at_sign m s (item b y e is) n st))))

-- a symbol is due, and this one comes
abbrev pub take_due : Stack → ℕ → List ℕ → Kind → Option State
take_due (in_section ds) l x t = take_in_section ds l t
take_due (in_block b free ds cs st) l x t = take_in_block b free ds cs st l x t
take_due (in_let m ds st) l x t = named t l x (λ n. due (at_name n (in_let m ds st)))
take_due (at_name n st) l x t = cond (is_open t) (Some (due (at_formals n st))) (cond (inside st) (in_names (n ∷ []) st t) None)
take_due (at_formals n st) l x t = cond (is_close t) (Some (due (at_head n [] st))) (named t l x (λ f. due (at_formal_end n (f ∷ []) st)))
take_due (at_formal n fs st) l x t = named t l x (λ f. due (at_formal_end n (fs ++ f ∷ []) st))
take_due (at_formal_end n fs st) l x t = in_formals n fs st t
take_due (at_head n fs st) l x t = headed n fs st t
take_due (at_variable xs st) l x t = named t l x (λ n. due (at_variable_end (xs ++ n ∷ []) st))
take_due (at_variable_end xs st) l x t = in_names xs st t
take_due (at_starts xs is st) l x t = cond (is_vec t) (Some (want (in_vector l xs is st))) (take_operand (in_value xs is st) l x t)
take_due (at_opening m s st) l x t = if_is (opens t) (due (at_items m s no_items st))
take_due (at_items m s is st) l x t = take_item m s is st l x t
take_due (at_sign m s is n st) l x t = cond (is_equal t) (Some (want (in_item m s is n st))) (if_is (is_colon t) (want (in_item m s is n st)))
take_due (at_goto m st) l x t = named t l x (λ n. did st (goto m n))
take_due (at_for m st) l x t = named t l x (λ n. due (at_forward m n st))
take_due (at_forward m n st) l x t = if_is (is_equal t) (want (in_from m n st))
take_due (at_default m st) l x t = if_is (is_colon t) (maybe (in_default m st))
take_due _ l x t = None

abbrev pub stepped_by : State → ℕ → List ℕ → Kind → Option State
stepped_by (want st) l x t = take_operand st l x t
stepped_by (have st e) l x t = give st e l x t
stepped_by (begin st) l x t = take_command st l x t
stepped_by (maybe st) l x t = cond (begins_command t) (take_command st l x t) (without st l x t)
stepped_by (did st c) l x t = finish st c l x t
stepped_by (due st) l x t = take_due st l x t

-- the next symbol
abbrev pub step : State → Symbol → Option State
step x t = stepped_by x (position_of t) t.text t.kind

-- the end completes what a semicolon completes
abbrev pub whole : Option State → Result Declarations (List Symbol)
whole (Some (due (in_section ds))) = Ok ds
whole _ = Err []

abbrev pub going : List Symbol → (State → Result Declarations (List Symbol)) → Option State → Result Declarations (List Symbol)
going ts f None = Err ts
going ts f (Some next) = f next

-- the declarations of the section, or what is left from the symbol on that does not fit
unfoldable pub run : List Symbol → State → Result Declarations (List Symbol)
run [] x = whole (stepped_by x 1 [] k.Semicolon)
run (t ∷ ts) x = going (t ∷ ts) (run ts) (step x t)

-- A step of the machine leads to nothing that could not be completed before it.
use Rattle.bk_frames.proofs.Terms.{◌≡◌, ◌≤◌, ℕ, ◌+◌, max, Bool, true, false, cond, ◌==◌, length, Option, Some, None, refl, sym, subst, inl, inr, List, [], ◌∷◌, ◌++◌, length-append, Result, Ok, arith, eq_is, each_depth, each_nodes, commands_depth, commands_nodes, declarations_depth, declarations_nodes, definitions_depth, definitions_nodes, items_depth, items_nodes, starts_depth, starts_nodes, Kind, Operator, Both, nat_lt, Prefix, Sort, Guard, Form, depth, depth_of_each, depth_of_command, depth_of_commands, depth_of_declaration, depth_of_declarations, depth_of_items, depth_of_definition, depth_of_definitions, depth_of_starts, nodes, nodes_of_each, nodes_of_command, nodes_of_commands, nodes_of_declaration, nodes_of_declarations, nodes_of_items, nodes_of_definition, nodes_of_definitions, nodes_of_starts, inner, following, is_relation, infix_of, prefix_of, sort_of, begins_command, repeats, assigns, is_and, is_comma, goes, last, at_expression, at_expressions, at_names, at_command, size, start_count, each_then, commands_then, declarations_then, items_then, definitions_then, starts_then, form_of, owed, falls, behind_ok, inner_ok, pushes, repeated, size_then, count_then, no_comma, Kind as k, Guard as g, Lookahead, Any, AtClosing, AtListing, Unlisted, AtPart, If, Closed, Missing, Started, Answered, Whole, Guarded, Taken, Gives, Does, Operates, Defines, Declares, Wants, Misses, Lists, Due, Completes}
use Rattle.bk_lex.specs.Symbol.{Symbol}
use Rattle.bk_frames.specs.declared.size.Form.TheVariants.{Label, Call, Callable, Other}
use Rattle.bk_tree.specs.Tree.{Mention, Expression, Expressions, Command, Commands, Declaration, Declarations, Items, Definition, Starts, name, parens, unary, binary, choice, apply, valof, table, none, more, empty, assign, label, default, test, for_loop, result, block, repeat_while, no_commands, also, constants, definitions, no_declarations, declare, no_items, item, routine, function, variables, no_definitions, define, no_starts, value, vector, call, goto}
use Rattle.bk_grammar.specs.Machine.{Stack, in_section, in_block, in_let, at_name, at_formals, at_formal, at_formal_end, at_head, at_variable, at_variable_end, at_starts, at_opening, at_items, at_sign, at_goto, at_for, at_forward, at_default, in_parens, in_unary, in_binary, in_chain, in_then, in_else, in_args, in_table, in_start, in_dests, in_values, in_guard, in_test, in_result, in_while, in_from, in_to, in_by, in_item, in_function, in_value, in_vector, in_valof, in_label, in_guarded, in_default, in_do, in_or, in_for, in_routine, State, want, have, begin, maybe, did, due, linked, infixed, push, is_close, is_colon, is_do, is_or, is_to, is_equal, is_semicolon, opens, closes, is_vec, is_let, is_open, is_sign_of, named, guarded, after_sign, no_args, bars, take_operand, take_command, sorted, take_declaration, take_in_section, in_head, take_in_block, declared, declared_by, defined_by, again, dests, labelled, is_call, call_of, in_constants, to_or_do, give, finish, without, inside, in_names, in_formals, headed, take_item, take_due, step, prefixed, counted, whole, run, stepped_by, going}
use Rattle.bk_frames.specs.Completing as nx
use Rattle.bk_frames.proofs.Turns.{guarded_depth, guarded_nodes}
use Rattle.bk_frames.proofs.Lowering.{Down, Falls, from_closing, from_listing, any_falls, any_closed, any_missing, whole_falls, gives_falls, does_falls, defines_fall, declares_fall}
use Rattle.bk_grammar.specs.Placed.{position_of}

-- where what comes can be completed, so can what was before it
abbrev pub Leads : (ℕ → ℕ → Type 0) → Type 0 → Option State → Type 0
Leads P X None = Unit {0}
Leads P X (Some y) = Completes P y → X

-- ---- unions

unclosed : (F : ℕ → ℕ → Lookahead → Type 0) → Falls F → (d n : ℕ) → (c : Lookahead) → Closed F d n c → Any (F d n)
unclosed F h1 d n c h2 = grind (arith, any_falls)

-- a command that an expression ends, as one
opened : (F : ℕ → ℕ → Lookahead → Type 0) → Falls F → (d e n m : ℕ) → d ≤ e → n ≤ m → Any (Closed F e m) → Any (F d n)
opened F f d e n m p q h = any_falls F f d e n m p q (unclosed F f e m h.0 h.1)

unmissing : (F : ℕ → ℕ → Lookahead → Type 0) → Falls F → (d n : ℕ) → (c : Lookahead) → Missing F d n c → Any (F d n)
unmissing F h1 d n c h2 = grind (arith, any_falls)

missed : (F : ℕ → ℕ → Lookahead → Type 0) → Falls F → (d e n m : ℕ) → d ≤ e → n ≤ m → Any (Missing F e m) → Any (F d n)
missed F f d e n m p q h = any_falls F f d e n m p q (unmissing F f e m h.0 h.1)

started_label : (F : ℕ → ℕ → Lookahead → Type 0) → Falls F → (f : Form) (d n : ℕ) → 1 ≤ d → 1 ≤ n → (c : Lookahead) → Started F f d n c → Any (Started F Label 1 1)
started_label F h1 f d n h2 h3 c h4 = grind (arith, any_closed, any_falls)

-- a name is the least operand
least : (P : ℕ → ℕ → Type 0) → Down P → (st : Stack) (f : Form) (d n : ℕ) → 1 ≤ d → 1 ≤ n → (c : Lookahead) → Gives P st f d n c → Any (Gives P st Label 1 1)
least P w (in_start st) f d n p q c h = started_label (Does P st) (does_falls P w st) f d n p q c h
least P w st f d n p q c h = (c, gives_falls P w st Label 1 d 1 n p q c h)

least_whole : (P : ℕ → ℕ → Type 0) → Down P → (st : Stack) (f : Form) (d n : ℕ) → 1 ≤ d → 1 ≤ n → Whole (Gives P st) f d n → Any (Gives P st Label 1 1)
least_whole P w st f d n p q (inl h) = least P w st f d n p q h.0 h.1
least_whole P w st f d n p q (inr h) = least P w st Call (d + 1) (n + 1) (omega arith) (omega arith) h.0 h.1

pub wants : (P : ℕ → ℕ → Type 0) → Down P → (st : Stack) → Any (Gives P st Label 1 1) → Wants P st
wants P w (in_args s x none st) (nx.closing, h) = whole_falls (Gives P st) (gives_falls P w st) Call (depth x + 1) (max (depth x) (max 0 1) + 1) (nodes x + 1) (nodes x + (0 + 1) + 1) (omega arith) (omega arith) h
wants P w (in_args s x none st) (nx.listing, h) = whole_falls (Gives P st) (gives_falls P w st) Call (depth x + 1) (max (depth x) (max 0 (max 1 1)) + 1) (nodes x + 1) (nodes x + (0 + 1) + 2) (omega arith) (omega arith) h
wants P w (in_args s x none st) (c, h) = absurd h
wants P w (in_args s x (more y ys) st) h = h
wants P w st h = h

-- a destination with more behind it can be called
started_call : (F : ℕ → ℕ → Lookahead → Type 0) (d n : ℕ) (c : Lookahead) → Started F Other d n c → Started F Call d n c
started_call F d n c h1 = grind arith

called : (P : ℕ → ℕ → Type 0) (st : Stack) (d n : ℕ) (c : Lookahead) → Gives P st Other d n c → Gives P st Call d n c
called P (in_start st) d n c h = started_call (Does P st) d n c h
called P st d n c h = h

-- ---- steps

leads_if : (P : ℕ → ℕ → Type 0) (X : Type 0) (b : Bool) (x y : Option State) → (b ≡ true → Leads P X x) → (b ≡ false → Leads P X y) → Leads P X (cond b x y)
leads_if P X b x y h1 h2 = grind arith

leads_by : (P : ℕ → ℕ → Type 0) (X Y : Type 0) (r : Option State) → (X → Y) → Leads P X r → Leads P Y r
leads_by P X Y r h1 h2 = grind arith

leads_named : (P : ℕ → ℕ → Type 0) (X : Type 0) (t : Kind) (l : ℕ) (x : List ℕ) (f : Mention → State) → ((y : Mention) → Completes P (f y) → X) → Leads P X (named t l x f)
leads_named P X t l x f h1 = grind arith

again_leads : (P : ℕ → ℕ → Type 0) → Down P → (t : Kind) (st : Stack) (c : Command) → Leads P (Any (Does P st (depth_of_command c + 1) (nodes_of_command c + 1))) (again st c t)
again_leads P w k.Repeat st c = λ h. h
again_leads P w k.RepeatWhile st c = λ h. opened (Does P st) (does_falls P w st) (depth_of_command c + 1) (max (depth_of_command c) 1 + 1) (nodes_of_command c + 1) (nodes_of_command c + 1 + 1) (omega arith) (omega arith) h
again_leads P w k.RepeatUntil st c = λ h. opened (Does P st) (does_falls P w st) (depth_of_command c + 1) (max (depth_of_command c) 1 + 1) (nodes_of_command c + 1) (nodes_of_command c + 1 + 1) (omega arith) (omega arith) h
again_leads P w _ st c = tt

-- ---- an operand is due

operates_by : (P : ℕ → ℕ → Type 0) → Down P → (b : Bool) (o : Operator) (s : ℕ) (a : Expression) (st : Stack) (d n : ℕ) → Taken b (Any (Gives P st Other (max (depth a) (d + 1) + 1) (nodes a + (n + 2) + 1))) (Operates P st (Gives P st) (max (depth a) d + 1) (nodes a + n + 1))
    → (Operates P st (Gives P st) (max (depth a) d + 1) (nodes a + n + 1) → Any (Gives P st Other (max (depth a) d + 1 + 1) (nodes a + n + 1 + 2))) → Any (Gives P st Other (max (depth a) (d + 1) + 1) (nodes a + (n + 2) + 1))
operates_by P w true o s a st d n h f = h
operates_by P w false o s a st d n h f = any_falls (Gives P st Other) (gives_falls P w st Other) (max (depth a) (d + 1) + 1) (max (depth a) d + 1 + 1) (nodes a + (n + 2) + 1) (nodes a + n + 1 + 2) (omega arith) (omega arith) (f h)

-- an operator is taken on no stack that could not go on with it
operates_any : (P : ℕ → ℕ → Type 0) → Down P → (st : Stack) (d n : ℕ) → Operates P st (Gives P st) d n → Any (Gives P st Other (d + 1) (n + 2))
operates_any P w (in_binary o s a st) d n h = operates_by P w (nat_lt 1 (inner o)) o s a st d n h (operates_any P w st (max (depth a) d + 1) (nodes a + n + 1))
operates_any P w st d n h = h

valof_least : (P : ℕ → ℕ → Type 0) → Down P → (st : Stack) → Any (Answered (Gives P st) (Operates P st (Gives P st)) 1 1) → Any (Gives P st Label 1 1)
valof_least P w st (nx.going, h) = least P w st Call 3 3 (omega arith) (omega arith) h.0 h.1
valof_least P w st (nx.operating, h) = let y = operates_any P w st 2 2 h in least P w st Other 3 4 (omega arith) (omega arith) y.0 y.1
valof_least P w st (nx.repeating, h) = absurd h
valof_least P w st (x, h) = least P w st Callable 2 2 (omega arith) (omega arith) x h

unlisted_least : (P : ℕ → ℕ → Type 0) → Down P → (st : Stack) (d n : ℕ) → 1 ≤ d → 1 ≤ n → Any (Unlisted (Gives P st Other d n)) → Any (Gives P st Label 1 1)
unlisted_least P w st d n p q (nx.listing, h) = absurd h
unlisted_least P w st d n p q (x, h) = least P w st Other d n p q x h

table_least : (P : ℕ → ℕ → Type 0) → Down P → (l : ℕ) (st : Stack) → Any (Gives P (in_table l none st) Label 1 1) → Any (Gives P st Label 1 1)
table_least P w l st (nx.listing, h) = unlisted_least P w st (max 0 (max 1 1) + 1) (0 + 1 + 2) (omega arith) (omega arith) h
table_least P w l st (x, h) = least P w st Other (max 0 1 + 1) (0 + 1 + 1) (omega arith) (omega arith) x h

no_args_leads : (P : ℕ → ℕ → Type 0) → Down P → (st : Stack) → Leads P (Wants P st) (no_args st)
no_args_leads P h1 st = grind (arith, whole_falls, depth)

prefixed_leads : (P : ℕ → ℕ → Type 0) → Down P → (z : Option Prefix) (st : Stack) (l : ℕ) → Leads P (Wants P st) (prefixed st l z)
prefixed_leads P w None st l = tt
prefixed_leads P w (Some p) st l = λ h. wants P w st (least P w st Other 2 2 (omega arith) (omega arith) h.0 h.1)

leaf_leads : (P : ℕ → ℕ → Type 0) → Down P → (st : Stack) (f : Form) → Whole (Gives P st) f 1 1 → Wants P st
leaf_leads P w st f h = wants P w st (least_whole P w st f 1 1 (omega arith) (omega arith) h)

operand_leads : (P : ℕ → ℕ → Type 0) → Down P → (t : Kind) (st : Stack) (l : ℕ) (x : List ℕ) → Leads P (Wants P st) (take_operand st l x t)
operand_leads P w k.Open st l x = λ h. wants P w st (least_whole P w st Callable 2 2 (omega arith) (omega arith) (from_closing h))
operand_leads P w k.Close st l x = no_args_leads P w st
operand_leads P w k.Valof st l x = λ h. wants P w st (valof_least P w st h)
operand_leads P w k.Table st l x = leads_if P (Wants P st) (bars st) None (Some (want (in_table l none st))) (λ e. tt) (λ e h. wants P w st (table_least P w l st h))
operand_leads P w k.Name st l x = λ h. leaf_leads P w st Label h
operand_leads P w k.Number st l x = λ h. leaf_leads P w st Callable h
operand_leads P w k.Text st l x = λ h. leaf_leads P w st Callable h
operand_leads P w k.Character st l x = λ h. leaf_leads P w st Callable h
operand_leads P w k.True st l x = λ h. leaf_leads P w st Callable h
operand_leads P w k.False st l x = λ h. leaf_leads P w st Callable h
operand_leads P w k.Query st l x = λ h. leaf_leads P w st Callable h
operand_leads P w t st l x = prefixed_leads P w (prefix_of t) st l

-- ---- a command is due

started_any : (F : ℕ → ℕ → Lookahead → Type 0) → Falls F → Any (Started F Label 1 1) → Any (F 1 1)
started_any F h1 h2 = grind (arith, opened, missed, any_falls)

guarded_any : (gd : Guard) (F : ℕ → ℕ → Lookahead → Type 0) → Falls F → Guarded gd F 1 1 → Any (F 1 1)
guarded_any gd F h1 h2 = grind (arith, missed, any_falls)

command_leads : (P : ℕ → ℕ → Type 0) → Down P → (t : Kind) (st : Stack) (l : ℕ) (x : List ℕ) → Leads P (Any (Does P st 1 1)) (take_command st l x t)
command_leads P w k.Goto st l x = λ h. h
command_leads P w k.Test st l x = λ h. any_falls (Does P st) (does_falls P w st) 1 (max 1 1 + 1) 1 (1 + 3) (omega arith) (omega arith) (from_closing h)
command_leads P w k.For st l x = λ h. any_falls (Does P st) (does_falls P w st) 1 2 1 4 (omega arith) (omega arith) h
command_leads P w k.ResultIs st l x = λ h. opened (Does P st) (does_falls P w st) 1 2 1 2 (omega arith) (omega arith) h
command_leads P w k.Default st l x = λ h. elim h [
  | inl a ↦ missed (Does P st) (does_falls P w st) 1 1 1 1 (omega arith) (omega arith) a
  | inr b ↦ any_falls (Does P st) (does_falls P w st) 1 2 1 2 (omega arith) (omega arith) b
]
command_leads P w k.SectionOpen st l x = λ h. any_falls (Does P st) (does_falls P w st) 1 (max 0 (max 0 0) + 1) 1 (0 + (0 + 0) + 1) (omega arith) (omega arith) h
command_leads P w k.Break st l x = λ h. h
command_leads P w k.Loop st l x = λ h. h
command_leads P w k.EndCase st l x = λ h. h
command_leads P w k.Return st l x = λ h. h
command_leads P w k.Finish st l x = λ h. h
command_leads P w k.If st l x = λ h. guarded_any g.If (Does P st) (does_falls P w st) (from_closing h)
command_leads P w k.Unless st l x = λ h. guarded_any g.Unless (Does P st) (does_falls P w st) (from_closing h)
command_leads P w k.While st l x = λ h. guarded_any g.While (Does P st) (does_falls P w st) (from_closing h)
command_leads P w k.Until st l x = λ h. guarded_any g.Until (Does P st) (does_falls P w st) (from_closing h)
command_leads P w k.SwitchOn st l x = λ h. guarded_any g.SwitchOn (Does P st) (does_falls P w st) (from_closing h)
command_leads P w k.Case st l x = λ h. guarded_any g.Case (Does P st) (does_falls P w st) (from_closing h)
command_leads P w t st l x = leads_by P (Wants P (in_start st)) (Any (Does P st 1 1)) (take_operand (in_start st) l x t) (started_any (Does P st) (does_falls P w st)) (operand_leads P w t (in_start st) l x)

-- ---- declarations

sorted_leads : (P : ℕ → ℕ → Type 0) → Down P → (z : Option Sort) (st : Stack) (l : ℕ) (other : Option State) → Leads P (Declares P st 0 0) other → Leads P (Declares P st 0 0) (sorted st l z other)
sorted_leads P h1 z st l other h2 = grind (arith, declares_fall)

declaration_leads : (P : ℕ → ℕ → Type 0) → Down P → (t : Kind) (st : Stack) (l : ℕ) (other : Option State) → Leads P (Declares P st 0 0) other → Leads P (Declares P st 0 0) (take_declaration st l t other)
declaration_leads P w t st l other h = grind (arith, leads_if, due, declares_fall, sorted_leads)

section_leads : (P : ℕ → ℕ → Type 0) → Down P → (t : Kind) (ds : Declarations) (l : ℕ) → Leads P (Declares P (in_section ds) 0 0) (take_in_section ds l t)
section_leads P w t ds l = grind (arith, leads_if, in_section, due, declaration_leads)

block_leads : (P : ℕ → ℕ → Type 0) → Down P → (t : Kind) (b : ℕ) (free : Bool) (ds : Declarations) (cs : Commands) (st : Stack) (l : ℕ) (x : List ℕ) → Leads P (Declares P (in_block b free ds cs st) 0 0) (take_in_block b free ds cs st l x t)
block_leads P w t b free ds cs st l x =
    let here : Stack = in_block b free ds cs st in
    let X : Type 0 = Declares P here 0 0 in
    let rest : Option State = cond free (take_command here l x t) None in
    let command : Leads P X rest = leads_if P X free (take_command here l x t) None
    (λ e. leads_by P (Any (Does P here 1 1)) X (take_command here l x t)
    (λ h. any_falls (Does P st) (does_falls P w st) (max (depth_of_declarations ds) (max (depth_of_commands cs) 0) + 1) (max (depth_of_declarations ds) (max (depth_of_commands cs) 1) + 1) (nodes_of_declarations ds + (nodes_of_commands cs + 0) + 1) (nodes_of_declarations ds + (nodes_of_commands cs + 1) + 1) (omega arith) (omega arith) (from_closing h))
    (command_leads P w t here l x))
    (λ e. tt) in
    leads_if P X (is_semicolon t) (Some (due (in_block b true ds cs st))) _ (λ e h. h)
    (λ e. leads_if P X (closes t) (Some (did st (block b ds cs))) _
    (λ c h. any_falls (Does P st) (does_falls P w st) (max (depth_of_declarations ds) (max (depth_of_commands cs) 0) + 1) (max (depth_of_declarations ds) (depth_of_commands cs) + 1) (nodes_of_declarations ds + (nodes_of_commands cs + 0) + 1) (nodes_of_declarations ds + nodes_of_commands cs + 1) (omega arith) (omega arith) h)
    (λ c. leads_if P X (in_head cs) (take_declaration here l t rest) rest (λ d. declaration_leads P w t here l rest command) (λ d. command)))

declared_by_leads : (P : ℕ → ℕ → Type 0) → Down P → (t : Kind) (st : Stack) (d : Declaration) (l : ℕ) (x : List ℕ) → Leads P (Declares P st (depth_of_declaration d) (nodes_of_declaration d)) (declared_by st d l x t)
declared_by_leads P w t (in_section ds) d l x = grind (arith, declarations_depth, declarations_nodes, leads_by, in_section, section_leads)
declared_by_leads P w t (in_block b free ds cs st) d l x =
    let es = declarations_then ds (declare d no_declarations) in
    let p = declarations_depth ds d in
    let q = declarations_nodes ds d in
    leads_by P (Declares P (in_block b false es cs st) 0 0) (Declares P (in_block b free ds cs st) (depth_of_declaration d) (nodes_of_declaration d)) (take_in_block b false es cs st l x t)
    (λ h. any_falls (Does P st) (does_falls P w st) (max (depth_of_declarations ds) (max (depth_of_commands cs) (depth_of_declaration d)) + 1) (max (depth_of_declarations es) (max (depth_of_commands cs) 0) + 1) (nodes_of_declarations ds + (nodes_of_commands cs + nodes_of_declaration d) + 1) (nodes_of_declarations es + (nodes_of_commands cs + 0) + 1) (omega (arith, p)) (omega (arith, q)) h)
    (block_leads P w t b false es cs st l x)
declared_by_leads P w t _ d l x = tt

declared_leads : (P : ℕ → ℕ → Type 0) → Down P → (st : Stack) (d : Declaration) → Leads P (Declares P st (depth_of_declaration d) (nodes_of_declaration d)) (declared st d)
declared_leads P h1 st d = grind (arith, declarations_depth, declarations_nodes, any_falls)

defined_leads : (P : ℕ → ℕ → Type 0) → Down P → (t : Kind) (st : Stack) (d : Definition) (l : ℕ) (x : List ℕ) → Leads P (Defines P st (depth_of_definition d) (nodes_of_definition d)) (defined_by st d l x t)
defined_leads P w t (in_let m ds st) d l x =
    let es = definitions_then ds (define d no_definitions) in
    let a = definitions_depth ds d in
    let b = definitions_nodes ds d in
    let X : Type 0 = Declares P st (max (depth_of_definitions ds) (depth_of_definition d)) (nodes_of_definitions ds + nodes_of_definition d) in
    leads_if P X (is_and t) (Some (due (in_let m es st))) (declared_by st (definitions m es) l x t)
    (λ e h. declares_fall P w st (max (depth_of_definitions ds) (depth_of_definition d)) (max (depth_of_definitions es) 2) (nodes_of_definitions ds + nodes_of_definition d) (nodes_of_definitions es + 2) (omega (arith, a)) (omega (arith, b)) h)
    (λ e. leads_by P (Declares P st (depth_of_definitions es) (nodes_of_definitions es)) X (declared_by st (definitions m es) l x t)
    (λ h. declares_fall P w st (max (depth_of_definitions ds) (depth_of_definition d)) (depth_of_definitions es) (nodes_of_definitions ds + nodes_of_definition d) (nodes_of_definitions es) (omega (arith, a)) (omega (arith, b)) h)
    (declared_by_leads P w t st (definitions m es) l x))
defined_leads P w t _ d l x = tt

-- ---- what is complete

leads_none : (P : ℕ → ℕ → Type 0) (X : Type 0) (r : Option State) → r ≡ None → Leads P X r
leads_none P X r h1 = cc

counted_leads : (P : ℕ → ℕ → Type 0) (b : Bool) (F G : Lookahead → Type 0) (c : Lookahead) (r : Option State) (t : Kind) (y : State) → Leads P (F c) r → (is_comma t ≡ true → Leads P (G c) (Some y)) → Leads P (If b F G c) (counted b r t y)
counted_leads P b F G c r t y h1 h2 = grind (arith, leads_if)

values_by : (P : ℕ → ℕ → Type 0) → Down P → (b : Bool) (xs ys : Expressions) (st : Stack) (d n : ℕ) → (b ≡ true → size xs ≡ size ys + 1)
    → Any (If b (Closed (Does P st) (max (depth_of_each xs) (max (depth_of_each ys) d) + 1) (nodes_of_each xs + (nodes_of_each ys + n) + 1)) (AtListing (Any (Closed (Does P st) (max (depth_of_each xs) (max (depth_of_each ys) (max d 1)) + 1) (nodes_of_each xs + (nodes_of_each ys + n) + owed (size xs) (size ys) + 1)))))
    → Any (Closed (Does P st) (max (depth_of_each xs) (max (depth_of_each ys) d) + 1) (nodes_of_each xs + (nodes_of_each ys + n) + owed (size xs) (size ys) + 1))
values_by P w true xs ys st d n is h = let e = is refl in any_closed (Does P st) (does_falls P w st) (max (depth_of_each xs) (max (depth_of_each ys) d) + 1) (max (depth_of_each xs) (max (depth_of_each ys) d) + 1) (nodes_of_each xs + (nodes_of_each ys + n) + owed (size xs) (size ys) + 1) (nodes_of_each xs + (nodes_of_each ys + n) + 1) (omega arith) (omega (arith, e)) h
values_by P w false xs ys st d n is h = any_closed (Does P st) (does_falls P w st) (max (depth_of_each xs) (max (depth_of_each ys) d) + 1) (max (depth_of_each xs) (max (depth_of_each ys) (max d 1)) + 1) (nodes_of_each xs + (nodes_of_each ys + n) + owed (size xs) (size ys) + 1) (nodes_of_each xs + (nodes_of_each ys + n) + owed (size xs) (size ys) + 1) (omega arith) (omega arith) (from_listing h)

-- the values that are due, the first of them a name
values_any : (P : ℕ → ℕ → Type 0) → Down P → (xs ys : Expressions) (st : Stack) → Any (Gives P (in_values xs ys st) Label 1 1) → Any (Closed (Does P st) (max (depth_of_each xs) (max (depth_of_each ys) 1) + 1) (nodes_of_each xs + (nodes_of_each ys + 1) + owed (size xs) (size ys) + 1))
values_any P w xs ys st h = values_by P w (size xs == size ys + 1) xs ys st 1 1 (eq_is (size xs) (size ys + 1)) h

dests_any : (P : ℕ → ℕ → Type 0) → Down P → (xs : Expressions) (st : Stack) → Any (Gives P (in_dests xs st) Label 1 1) → Any (Closed (Does P st) (max (depth_of_each xs) 1 + 1) (nodes_of_each xs + size xs + 3))
dests_any P w xs st (nx.assigning, h) = any_closed (Does P st) (does_falls P w st) (max (depth_of_each xs) 1 + 1) (max (max (depth_of_each xs) 1) 1 + 1) (nodes_of_each xs + size xs + 3) (nodes_of_each xs + 1 + size xs + 2) (omega arith) (omega arith) h
dests_any P w xs st (nx.listing, h) = any_closed (Does P st) (does_falls P w st) (max (depth_of_each xs) 1 + 1) (max (max (depth_of_each xs) 1) 1 + 1) (nodes_of_each xs + size xs + 3) (nodes_of_each xs + 1 + size xs + 4) (omega arith) (omega arith) h
dests_any P w xs st (x, h) = absurd h

-- a symbol that ends no definition and begins no declaration
abbrev Plain : Kind → Type 0
Plain t = (is_and t ≡ false) × (is_let t ≡ false) × (sort_of t ≡ None) × (is_semicolon t ≡ false) × (closes t ≡ false)

nothing : (b : Bool) (x : Option State) → cond b x x ≡ x
nothing b x = grind arith

declared_none : (st : Stack) (d : Declaration) (l : ℕ) (x : List ℕ) (t : Kind) → Plain t → declared_by st d l x t ≡ None
declared_none st d l x t h1 = grind (arith, nothing)

defined_none : (st : Stack) (d : Definition) (l : ℕ) (x : List ℕ) (t : Kind) → Plain t → defined_by st d l x t ≡ None
defined_none st d l x t h1 = grind (arith, declared_none)

-- what holds after each symbol that repeats a command
abbrev Each : (ℕ → ℕ → Type 0) → Type 0 → (Kind → Option State) → Type 0
Each P X f = Leads P X (f k.Repeat) × Leads P X (f k.RepeatWhile) × Leads P X (f k.RepeatUntil)

each_by : (P : ℕ → ℕ → Type 0) (X Y : Type 0) (f : Kind → Option State) → (X → Y) → Each P X f → Each P Y f
each_by P X Y f g h = (leads_by P X Y (f k.Repeat) g h.0, leads_by P X Y (f k.RepeatWhile) g h.1, leads_by P X Y (f k.RepeatUntil) g h.2)

each_counted : (P : ℕ → ℕ → Type 0) (b : Bool) (F G : Lookahead → Type 0) (c : Lookahead) (f : Kind → Option State) (y : State) → Each P (F c) f → Each P (If b F G c) (λ (t : Kind). counted b (f t) t y)
each_counted P b F G c f y h1 = grind arith

each_guard : (P : ℕ → ℕ → Type 0) (X : Type 0) (gd : Guard) (y : State) → Each P X (λ (t : Kind). cond (is_sign_of gd t) (Some y) None)
each_guard P X gd y = grind arith

each_defined : (P : ℕ → ℕ → Type 0) (X : Type 0) (st : Stack) (d : Definition) (l : ℕ) (x : List ℕ) → Each P X (defined_by st d l x)
each_defined P X st d l x = grind (arith, leads_none, defined_none)

finish_repeat : (P : ℕ → ℕ → Type 0) → Down P → (st : Stack) (c : Command) (l : ℕ) (x : List ℕ) → Each P (Any (Does P st (depth_of_command c + 1) (nodes_of_command c + 1))) (finish st c l x)
finish_repeat P w st c l x =
    let again_so : (t : Kind) → repeats t ≡ true → Leads P (Any (Does P st (depth_of_command c + 1) (nodes_of_command c + 1))) (finish st c l x t) = λ t r. subst (λ (z : Option State). Leads P (Any (Does P st (depth_of_command c + 1) (nodes_of_command c + 1))) z) (sym (repeated st c l x t r)) (again_leads P w t st c) in
    (again_so k.Repeat refl, again_so k.RepeatWhile refl, again_so k.RepeatUntil refl)

give_repeat : (P : ℕ → ℕ → Type 0) → Down P → (st : Stack) (e : Expression) (l : ℕ) (x : List ℕ) → Each P (Gives P st (form_of e) (depth e) (nodes e) nx.repeating) (give st e l x)
give_repeat P w (in_unary m p st) e l x = give_repeat P w st (unary m p e) l x
give_repeat P w (in_binary q s a st) e l x = give_repeat P w st (binary (at_expression a) q s a e) l x
give_repeat P w (in_chain q s a b st) e l x = give_repeat P w st (binary (at_expression a) Both s a (binary (at_expression b) q s b e)) l x
give_repeat P w (in_else s y a st) e l x = give_repeat P w st (choice (at_expression y) s y a e) l x
give_repeat P w (in_table m es st) e l x = each_by P (Gives P st Other (depth_of_each (each_then es (more e none)) + 1) (nodes_of_each (each_then es (more e none)) + 1) nx.repeating) (Gives P st Other (max (depth_of_each es) (depth e) + 1) (nodes_of_each es + nodes e + 1) nx.repeating) (give st (table m (each_then es (more e none))) l x)
    (let a = each_depth es e in let b = each_nodes es e in gives_falls P w st Other (max (depth_of_each es) (depth e) + 1) (depth_of_each (each_then es (more e none)) + 1) (nodes_of_each es + nodes e + 1) (nodes_of_each (each_then es (more e none)) + 1) (omega (arith, a)) (omega (arith, b)) nx.repeating) (give_repeat P w st (table m (each_then es (more e none))) l x)
give_repeat P w (in_start st) (apply m s y es) l x = finish_repeat P w st (call m y es) l x
give_repeat P w (in_values xs ys st) e l x =
    let zs : Expressions = each_then ys (more e none) in
    let a = each_depth ys e in
    let b = each_nodes ys e in
    each_counted P (size xs == size ys + 1) (Closed (Does P st) (max (depth_of_each xs) (max (depth_of_each ys) (depth e)) + 1) (nodes_of_each xs + (nodes_of_each ys + nodes e) + 1)) (AtListing (Any (Closed (Does P st) (max (depth_of_each xs) (max (depth_of_each ys) (max (depth e) 1)) + 1) (nodes_of_each xs + (nodes_of_each ys + nodes e) + owed (size xs) (size ys) + 1)))) nx.repeating
    (finish st (assign (at_expressions xs) xs zs) l x) (want (in_values xs zs st))
    (each_by P (Any (Does P st (max (depth_of_each xs) (depth_of_each (each_then ys (more e none))) + 1 + 1) (nodes_of_each xs + nodes_of_each (each_then ys (more e none)) + 1 + 1))) (Any (Does P st (max (depth_of_each xs) (max (depth_of_each ys) (depth e)) + 1 + 1) (nodes_of_each xs + (nodes_of_each ys + nodes e) + 1 + 1))) (finish st (assign (at_expressions xs) xs zs) l x) (any_falls (Does P st) (does_falls P w st) (max (depth_of_each xs) (max (depth_of_each ys) (depth e)) + 1 + 1) (max (depth_of_each xs) (depth_of_each (each_then ys (more e none))) + 1 + 1) (nodes_of_each xs + (nodes_of_each ys + nodes e) + 1 + 1) (nodes_of_each xs + nodes_of_each (each_then ys (more e none)) + 1 + 1) (omega (arith, a)) (omega (arith, b))) (finish_repeat P w st (assign (at_expressions xs) xs zs) l x))
give_repeat P w (in_guard gd m st) e l x = each_guard P (AtClosing (Guarded gd (Does P st) (depth e) (nodes e)) nx.repeating) gd (after_sign gd (in_guarded gd m e st))
give_repeat P w (in_result m st) e l x = finish_repeat P w st (result m e) l x
give_repeat P w (in_while b a st) e l x = finish_repeat P w st (repeat_while (at_command a) b a e) l x
give_repeat P w (in_function y fs st) e l x = each_defined P (AtClosing (Defines P st (depth e + 1) (nodes e + 1)) nx.repeating) st (function y.at y.letters fs e) l x
give_repeat P w (in_value xs is st) e l x =
    let js : Starts = starts_then is (value e no_starts) in
    let whole_of : Definition = variables (at_names xs) xs js in
    each_counted P (length xs == start_count is + 1) (AtClosing (Defines P st (max (depth_of_starts is) (depth e) + 1) (nodes_of_starts is + nodes e + 1)))
    (AtListing (Defines P st (max (depth_of_starts is) (max (depth e) 1) + 1) (nodes_of_starts is + nodes e + owed (length xs) (start_count is) + 1))) nx.repeating (defined_by st whole_of l x) (due (at_starts xs js st))
    (each_defined P ⊥ st whole_of l x)
give_repeat P w (in_vector m xs is st) e l x =
    let js : Starts = starts_then is (vector m e no_starts) in
    let whole_of : Definition = variables (at_names xs) xs js in
    each_counted P (length xs == start_count is + 1) (AtClosing (Defines P st (max (depth_of_starts is) (depth e) + 1) (nodes_of_starts is + nodes e + 1)))
    (AtListing (Defines P st (max (depth_of_starts is) (max (depth e) 1) + 1) (nodes_of_starts is + nodes e + owed (length xs) (start_count is) + 1))) nx.repeating (defined_by st whole_of l x) (due (at_starts xs js st))
    (each_defined P ⊥ st whole_of l x)
give_repeat P w _ e l x = (tt, tt, tt)

parts_any : {F G H : Lookahead → Type 0} → ((c : Lookahead) → F c → H c) → ((c : Lookahead) → G c → H c) → Any (AtPart F G) → Any (Unlisted H)
parts_any h1 h2 h3 = grind arith

-- ---- a comma

args_due : (P : ℕ → ℕ → Type 0) → Down P → (s : ℕ) (y : Expression) (zs : Expressions) (st : Stack) → 1 ≤ size zs → Wants P (in_args s y zs st) → Whole (Gives P st) Call (max (depth y) (max (depth_of_each zs) 1) + 1) (nodes y + (nodes_of_each zs + 1) + 1)
args_due P w s y none st some h = absurd (omega (arith, some))
args_due P w s y (more z zs) st some (nx.closing, h) = h
args_due P w s y (more z zs) st some (nx.listing, h) = whole_falls (Gives P st) (gives_falls P w st) Call (max (depth y) (max (depth_of_each (more z zs)) 1) + 1) (max (depth y) (max (depth_of_each (more z zs)) (max 1 1)) + 1) (nodes y + (nodes_of_each (more z zs) + 1) + 1) (nodes y + (nodes_of_each (more z zs) + 1) + 2) (omega arith) (omega arith) h
args_due P w s y (more z zs) st some (x, h) = absurd h

args_any : (P : ℕ → ℕ → Type 0) → Down P → (s : ℕ) (y : Expression) (es : Expressions) (st : Stack) (e : Expression) → Wants P (in_args s y (each_then es (more e none)) st) → Whole (Gives P st) Call (max (depth y) (max (depth_of_each es) (max (depth e) 1)) + 1) (nodes y + (nodes_of_each es + nodes e) + 2)
args_any P w s y es st e h =
    let zs : Expressions = each_then es (more e none) in
    let a = each_depth es e in
    let b = each_nodes es e in
    let z = size_then es (more e none) in
    whole_falls (Gives P st) (gives_falls P w st) Call (max (depth y) (max (depth_of_each es) (max (depth e) 1)) + 1) (max (depth y) (max (depth_of_each zs) 1) + 1) (nodes y + (nodes_of_each es + nodes e) + 2) (nodes y + (nodes_of_each zs + 1) + 1) (omega (arith, a)) (omega (arith, b)) (args_due P w s y zs st (omega (arith, z)) h)

table_any : (P : ℕ → ℕ → Type 0) → Down P → (m : ℕ) (es : Expressions) (st : Stack) (e : Expression) → Any (Gives P (in_table m (each_then es (more e none)) st) Label 1 1) → Any (Unlisted (Gives P st Other (max (depth_of_each es) (max (depth e) 1) + 1) (nodes_of_each es + nodes e + 2)))
table_any P w m es st e h =
    let zs : Expressions = each_then es (more e none) in
    let a = each_depth es e in
    let b = each_nodes es e in
    let f : (c : Lookahead) → Gives P st Other (max (depth_of_each zs) 1 + 1) (nodes_of_each zs + 1 + 1) c → Gives P st Other (max (depth_of_each es) (max (depth e) 1) + 1) (nodes_of_each es + nodes e + 2) c = gives_falls P w st Other (max (depth_of_each es) (max (depth e) 1) + 1) (max (depth_of_each zs) 1 + 1) (nodes_of_each es + nodes e + 2) (nodes_of_each zs + 1 + 1) (omega (arith, a)) (omega (arith, b)) in
    let k : (c : Lookahead) → Gives P st Other (max (depth_of_each zs) (max 1 1) + 1) (nodes_of_each zs + 1 + 2) c → Gives P st Other (max (depth_of_each es) (max (depth e) 1) + 1) (nodes_of_each es + nodes e + 2) c = gives_falls P w st Other (max (depth_of_each es) (max (depth e) 1) + 1) (max (depth_of_each zs) (max 1 1) + 1) (nodes_of_each es + nodes e + 2) (nodes_of_each zs + 1 + 2) (omega (arith, a)) (omega (arith, b)) in
    parts_any f k h

values_more : (P : ℕ → ℕ → Type 0) → Down P → (xs ys : Expressions) (st : Stack) (e : Expression) → Any (Gives P (in_values xs (each_then ys (more e none)) st) Label 1 1) → Any (Closed (Does P st) (max (depth_of_each xs) (max (depth_of_each ys) (max (depth e) 1)) + 1) (nodes_of_each xs + (nodes_of_each ys + nodes e) + owed (size xs) (size ys) + 1))
values_more P w xs ys st e h =
    let zs : Expressions = each_then ys (more e none) in
    let a = each_depth ys e in
    let b = each_nodes ys e in
    let z = size_then ys (more e none) in
    any_closed (Does P st) (does_falls P w st) (max (depth_of_each xs) (max (depth_of_each ys) (max (depth e) 1)) + 1) (max (depth_of_each xs) (max (depth_of_each zs) 1) + 1) (nodes_of_each xs + (nodes_of_each ys + nodes e) + owed (size xs) (size ys) + 1) (nodes_of_each xs + (nodes_of_each zs + 1) + owed (size xs) (size zs) + 1) (omega (arith, a)) (omega (arith, b, z)) (values_any P w xs zs st h)

starts_by : (P : ℕ → ℕ → Type 0) → Down P → (b : Bool) (many : ℕ) (js : Starts) (st : Stack) → (b ≡ true → many ≡ start_count js + 1)
    → Any (If b (AtClosing (Defines P st (max (depth_of_starts js) 1 + 1) (nodes_of_starts js + 1 + 1))) (AtListing (Defines P st (max (depth_of_starts js) (max 1 1) + 1) (nodes_of_starts js + 1 + owed many (start_count js) + 1))))
    → Defines P st (max (depth_of_starts js) 1 + 1) (nodes_of_starts js + 1 + owed many (start_count js) + 1)
starts_by P h1 b many js st h2 h3 = grind (arith, defines_fall)

starts_any : (P : ℕ → ℕ → Type 0) → Down P → (xs : List Mention) (js : Starts) (st : Stack) → Any (Gives P (in_value xs js st) Label 1 1) → Defines P st (max (depth_of_starts js) 1 + 1) (nodes_of_starts js + 1 + owed (length xs) (start_count js) + 1)
starts_any P w xs js st h = starts_by P w (length xs == start_count js + 1) (length xs) js st (eq_is (length xs) (start_count js + 1)) h

starts_more : (P : ℕ → ℕ → Type 0) → Down P → (xs : List Mention) (is js : Starts) (st : Stack) (d n : ℕ) → depth_of_starts js ≡ max (depth_of_starts is) (max d 0) → nodes_of_starts js ≡ nodes_of_starts is + (n + 0) → start_count js ≡ start_count is + (0 + 1)
    → Any (Gives P (in_value xs js st) Label 1 1) → Defines P st (max (depth_of_starts is) (max d 1) + 1) (nodes_of_starts is + n + owed (length xs) (start_count is) + 1)
starts_more P w xs is js st d n a b c h = defines_fall P w st (max (depth_of_starts is) (max d 1) + 1) (max (depth_of_starts js) 1 + 1) (nodes_of_starts is + n + owed (length xs) (start_count is) + 1) (nodes_of_starts js + 1 + owed (length xs) (start_count js) + 1) (omega (arith, a)) (omega (arith, b, c)) (starts_any P w xs js st h)

-- what holds after a sign of assignment, and after a comma
abbrev Two : (ℕ → ℕ → Type 0) → (Lookahead → Type 0) → (Kind → Option State) → Type 0
Two P F f = Leads P (F nx.assigning) (f k.Assign) × Leads P (F nx.listing) (f k.Comma)

two_by : (P : ℕ → ℕ → Type 0) (F G : Lookahead → Type 0) (f : Kind → Option State) → ((c : Lookahead) → F c → G c) → Two P F f → Two P G f
two_by P F G f g h = (leads_by P (F nx.assigning) (G nx.assigning) (f k.Assign) (g nx.assigning) h.0, leads_by P (F nx.listing) (G nx.listing) (f k.Comma) (g nx.listing) h.1)

two_counted : (P : ℕ → ℕ → Type 0) (b : Bool) (F G : Lookahead → Type 0) (f : Kind → Option State) (y : State) → Two P F f → Leads P (G nx.listing) (Some y)
    → Leads P (If b F G nx.assigning) (counted b (f k.Assign) k.Assign y) × Leads P (If b F G nx.listing) (counted b (f k.Comma) k.Comma y)
two_counted P b F G f y h1 h2 = grind arith

two_guard : (P : ℕ → ℕ → Type 0) (X : Type 0) (gd : Guard) (y : State) → Leads P ⊥ (cond (is_sign_of gd k.Assign) (Some y) None) × Leads P ⊥ (cond (is_sign_of gd k.Comma) (Some y) None)
two_guard P X gd y = grind arith

two_defined : (P : ℕ → ℕ → Type 0) (F : Lookahead → Type 0) (st : Stack) (d : Definition) (l : ℕ) (x : List ℕ) → Two P F (defined_by st d l x)
two_defined P F st d l x = grind (arith, leads_none, defined_none)

mutual
  give_two : (P : ℕ → ℕ → Type 0) → Down P → (st : Stack) (e : Expression) (l : ℕ) (x : List ℕ) → Two P (Gives P st (form_of e) (depth e) (nodes e)) (give st e l x)
  give_two P w (in_unary m p st) e l x = give_two P w st (unary m p e) l x
  give_two P w (in_binary q s a st) e l x = give_two P w st (binary (at_expression a) q s a e) l x
  give_two P w (in_chain q s a b st) e l x = give_two P w st (binary (at_expression a) Both s a (binary (at_expression b) q s b e)) l x
  give_two P w (in_else s y a st) e l x = give_two P w st (choice (at_expression y) s y a e) l x
  give_two P w (in_then s y st) e l x = (tt, λ h. any_falls (Gives P st Other) (gives_falls P w st Other) (max (depth y) (max (depth e) 1) + 1) (max (depth y) (max (depth e) 1) + 1) (nodes y + nodes e + 2) (nodes y + nodes e + 1 + 1) (omega arith) (omega arith) h)
  give_two P w (in_args s y es st) e l x = (tt, let a = each_depth es e in let b = each_nodes es e in λ h. args_any P w s y es st e h)
  give_two P w (in_table m es st) e l x = (
    leads_by P (Gives P st Other (depth_of_each (each_then es (more e none)) + 1) (nodes_of_each (each_then es (more e none)) + 1) nx.assigning) (Gives P st Other (max (depth_of_each es) (depth e) + 1) (nodes_of_each es + nodes e + 1) nx.assigning) (give st (table m (each_then es (more e none))) l x k.Assign)
        (let a = each_depth es e in let b = each_nodes es e in gives_falls P w st Other (max (depth_of_each es) (depth e) + 1) (depth_of_each (each_then es (more e none)) + 1) (nodes_of_each es + nodes e + 1) (nodes_of_each (each_then es (more e none)) + 1) (omega (arith, a)) (omega (arith, b)) nx.assigning) (give_two P w st (table m (each_then es (more e none))) l x).0,
    λ h. table_any P w m es st e h,
  )
  give_two P w (in_start st) e l x = (
    λ h. any_closed (Does P st) (does_falls P w st) (max (depth e) 1 + 1) (max (max (depth e) 0) (max 0 1) + 1) (nodes e + 2) (nodes e + 0 + (0 + 1) + owed (0 + 1) 0 + 1) (omega arith) (omega arith) (values_any P w (more e none) none st h),
    λ h. any_closed (Does P st) (does_falls P w st) (max (depth e) 1 + 1) (max (max (depth e) 0) 1 + 1) (nodes e + 4) (nodes e + 0 + (0 + 1) + 3) (omega arith) (omega arith) (dests_any P w (more e none) st h),
  )
  give_two P w (in_dests xs st) e l x = (
    let a = each_depth xs e in let b = each_nodes xs e in let z = size_then xs (more e none) in let zs : Expressions = each_then xs (more e none) in λ h. any_closed (Does P st) (does_falls P w st) (max (max (depth_of_each xs) 1) (depth e) + 1) (max (depth_of_each zs) (max 0 1) + 1) (nodes_of_each xs + nodes e + size xs + 2) (nodes_of_each zs + (0 + 1) + owed (size zs) 0 + 1) (omega (arith, a)) (omega (arith, b, z)) (values_any P w zs none st h),
    let a = each_depth xs e in let b = each_nodes xs e in let z = size_then xs (more e none) in let zs : Expressions = each_then xs (more e none) in λ h. any_closed (Does P st) (does_falls P w st) (max (max (depth_of_each xs) 1) (depth e) + 1) (max (depth_of_each zs) 1 + 1) (nodes_of_each xs + nodes e + size xs + 4) (nodes_of_each zs + size zs + 3) (omega (arith, a)) (omega (arith, b, z)) (dests_any P w zs st h),
  )
  give_two P w (in_values xs ys st) e l x =
      let zs : Expressions = each_then ys (more e none) in
      let a = each_depth ys e in
      let b = each_nodes ys e in
      two_counted P (size xs == size ys + 1) (Closed (Does P st) (max (depth_of_each xs) (max (depth_of_each ys) (depth e)) + 1) (nodes_of_each xs + (nodes_of_each ys + nodes e) + 1)) (AtListing (Any (Closed (Does P st) (max (depth_of_each xs) (max (depth_of_each ys) (max (depth e) 1)) + 1) (nodes_of_each xs + (nodes_of_each ys + nodes e) + owed (size xs) (size ys) + 1))))
      (finish st (assign (at_expressions xs) xs zs) l x) (want (in_values xs zs st))
      (two_by P (Does P st (max (depth_of_each xs) (depth_of_each (each_then ys (more e none))) + 1) (nodes_of_each xs + nodes_of_each (each_then ys (more e none)) + 1)) (Does P st (max (depth_of_each xs) (max (depth_of_each ys) (depth e)) + 1) (nodes_of_each xs + (nodes_of_each ys + nodes e) + 1)) (finish st (assign (at_expressions xs) xs zs) l x) (does_falls P w st (max (depth_of_each xs) (max (depth_of_each ys) (depth e)) + 1) (max (depth_of_each xs) (depth_of_each (each_then ys (more e none))) + 1) (nodes_of_each xs + (nodes_of_each ys + nodes e) + 1) (nodes_of_each xs + nodes_of_each (each_then ys (more e none)) + 1) (omega (arith, a)) (omega (arith, b))) (finish_two P w st (assign (at_expressions xs) xs zs) l x))
      (λ h. values_more P w xs ys st e h)
  give_two P w (in_guard gd m st) e l x = two_guard P (Guarded gd (Does P st) (depth e) (nodes e)) gd (after_sign gd (in_guarded gd m e st))
  give_two P w (in_result m st) e l x = finish_two P w st (result m e) l x
  give_two P w (in_while b a st) e l x = finish_two P w st (repeat_while (at_command a) b a e) l x
  give_two P w (in_function y fs st) e l x = two_defined P (AtClosing (Defines P st (depth e + 1) (nodes e + 1))) st (function y.at y.letters fs e) l x
  give_two P w (in_value xs is st) e l x =
      let js : Starts = starts_then is (value e no_starts) in
      let whole_of : Definition = variables (at_names xs) xs js in
      two_counted P (length xs == start_count is + 1) (AtClosing (Defines P st (max (depth_of_starts is) (depth e) + 1) (nodes_of_starts is + nodes e + 1)))
      (AtListing (Defines P st (max (depth_of_starts is) (max (depth e) 1) + 1) (nodes_of_starts is + nodes e + owed (length xs) (start_count is) + 1))) (defined_by st whole_of l x) (due (at_starts xs js st))
      (two_defined P (AtClosing (Defines P st (max (depth_of_starts is) (depth e) + 1) (nodes_of_starts is + nodes e + 1))) st whole_of l x)
      (λ h. starts_more P w xs is (starts_then is (value e no_starts)) st (depth e) (nodes e) (starts_depth is (value e no_starts)) (starts_nodes is (value e no_starts)) (count_then is (value e no_starts)) h)
  give_two P w (in_vector m xs is st) e l x =
      let js : Starts = starts_then is (vector m e no_starts) in
      let whole_of : Definition = variables (at_names xs) xs js in
      two_counted P (length xs == start_count is + 1) (AtClosing (Defines P st (max (depth_of_starts is) (depth e) + 1) (nodes_of_starts is + nodes e + 1)))
      (AtListing (Defines P st (max (depth_of_starts is) (max (depth e) 1) + 1) (nodes_of_starts is + nodes e + owed (length xs) (start_count is) + 1))) (defined_by st whole_of l x) (due (at_starts xs js st))
      (two_defined P (AtClosing (Defines P st (max (depth_of_starts is) (depth e) + 1) (nodes_of_starts is + nodes e + 1))) st whole_of l x)
      (λ h. starts_more P w xs is (starts_then is (vector m e no_starts)) st (depth e) (nodes e) (starts_depth is (vector m e no_starts)) (starts_nodes is (vector m e no_starts)) (count_then is (vector m e no_starts)) h)
  give_two P w _ e l x = (tt, tt)

  finish_two : (P : ℕ → ℕ → Type 0) → Down P → (st : Stack) (c : Command) (l : ℕ) (x : List ℕ) → Two P (Does P st (depth_of_command c) (nodes_of_command c)) (finish st c l x)
  finish_two P w (in_valof m st) c l x = give_two P w st (valof m c) l x
  finish_two P w (in_label m y st) c l x = finish_two P w st (label m y c) l x
  finish_two P w (in_guarded gd m e st) c l x =
      let a = guarded_depth gd m e c in
      let b = guarded_nodes gd m e c in
      two_by P (Does P st (depth_of_command (guarded gd m e c)) (nodes_of_command (guarded gd m e c))) (Does P st (max (depth e) (depth_of_command c) + 1) (nodes e + nodes_of_command c + 1)) (finish st (guarded gd m e c) l x)
      (does_falls P w st (max (depth e) (depth_of_command c) + 1) (depth_of_command (guarded gd m e c)) (nodes e + nodes_of_command c + 1) (nodes_of_command (guarded gd m e c)) (omega (arith, a)) (omega (arith, b))) (finish_two P w st (guarded gd m e c) l x)
  finish_two P w (in_default m st) c l x = finish_two P w st (default m c) l x
  finish_two P w (in_or m e a st) c l x = finish_two P w st (test m e a c) l x
  finish_two P w (in_for m y a b z st) c l x = finish_two P w st (for_loop m y a b z c) l x
  finish_two P w (in_routine y fs st) c l x = two_defined P (Does P (in_routine y fs st) (depth_of_command c) (nodes_of_command c)) st (routine y.at y.letters fs c) l x
  finish_two P w _ c l x = (tt, tt)

-- ---- a symbol with which an expression goes on

-- it ends nothing
abbrev Inner : Kind → Type 0
Inner t = Plain t × (repeats t ≡ false) × (is_or t ≡ false)

inner_of : (t : Kind) → goes 12 t ≡ true → Inner t
inner_of t h1 = grind arith

call_opens : (P : ℕ → ℕ → Type 0) → Down P → (st : Stack) (e : Expression) (l : ℕ) → Wants P (in_args l e none st) → Any (Gives P st Call (depth e + 1) (nodes e + 1))
call_opens P w st e l (inl h) = h
call_opens P w st e l (inr h) = any_falls (Gives P st Call) (gives_falls P w st Call) (depth e + 1) (depth e + 1 + 1) (nodes e + 1) (nodes e + 1 + 1) (omega arith) (omega arith) h

open_leads : (P : ℕ → ℕ → Type 0) → Down P → (st : Stack) (e : Expression) (l : ℕ) (x : List ℕ) → Leads P (Any (Gives P st Call (depth e + 1) (nodes e + 1))) (give st e l x k.Open)
open_leads P w st e l x = let Q : Option State → Type 0 = λ z. Leads P (Any (Gives P st Call (depth e + 1) (nodes e + 1))) z in subst Q (sym (pushes st e l x k.Open refl)) (call_opens P w st e l)

linked_leads : (P : ℕ → ℕ → Type 0) → Down P → (z : Option Expression) (q : Operator) (s : ℕ) (e : Expression) (st : Stack) → Leads P (Any (Gives P st Other (depth e + 1) (nodes e + 2))) (Some (linked q s e st z))
linked_leads P w None q s e st = λ h. any_falls (Gives P st Other) (gives_falls P w st Other) (depth e + 1) (max (depth e) 1 + 1) (nodes e + 2) (nodes e + 1 + 1) (omega arith) (omega arith) h
linked_leads P w (Some b) q s e st = λ h. any_falls (Gives P st Other) (gives_falls P w st Other) (depth e + 1) (max (depth e) (max (depth b) 1 + 1) + 1) (nodes e + 2) (nodes e + (nodes b + 1 + 1) + 1) (omega arith) (omega arith) h

relation_leads : (P : ℕ → ℕ → Type 0) (X : Type 0) (b : Bool) (x y : State) → Leads P X (Some x) → Leads P X (Some y) → Leads P X (Some (cond b x y))
relation_leads P X true x y h j = h
relation_leads P X false x y h j = j

infixed_leads : (P : ℕ → ℕ → Type 0) → Down P → (z : Option Operator) (st : Stack) (e : Expression) (s : ℕ) → Leads P (Any (Gives P st Other (depth e + 1) (nodes e + 2))) (infixed st e s z)
infixed_leads P w None st e s = tt
infixed_leads P w (Some q) st e s =
    relation_leads P (Any (Gives P st Other (depth e + 1) (nodes e + 2))) (is_relation q) (linked q s e st (last e)) (want (in_binary q s e st)) (linked_leads P w (last e) q s e st)
    (λ h. any_falls (Gives P st Other) (gives_falls P w st Other) (depth e + 1) (max (depth e) 1 + 1) (nodes e + 2) (nodes e + 1 + 1) (omega arith) (omega arith) h)

push_leads : (P : ℕ → ℕ → Type 0) → Down P → (t : Kind) → is_open t ≡ false → (st : Stack) (e : Expression) (l : ℕ) → Leads P (Any (Gives P st Other (depth e + 1) (nodes e + 2))) (push st e t l)
push_leads P w k.Open o st e l = absurd cc
push_leads P w k.Arrow o st e l = λ h. any_falls (Gives P st Other) (gives_falls P w st Other) (depth e + 1) (max (depth e) (max 1 1) + 1) (nodes e + 2) (nodes e + 1 + 2) (omega arith) (omega arith) (from_listing h)
push_leads P w t o st e l = infixed_leads P w (infix_of t) st e l

none_goes : (t : Kind) → is_open t ≡ false → goes 1 t ≡ false
none_goes t h1 = cc

goes_tight : (q : Operator) (t : Kind) → is_open t ≡ false → goes (inner q) t ≡ true → nat_lt 1 (inner q) ≡ true
goes_tight q t h1 h2 = grind (arith, none_goes)

push_binary : (P : ℕ → ℕ → Type 0) → Down P → (t : Kind) → is_open t ≡ false → (q : Operator) (s : ℕ) (a : Expression) (st : Stack) (e : Expression) (l : ℕ) → goes (inner q) t ≡ true → Leads P (Operates P (in_binary q s a st) (Gives P (in_binary q s a st)) (depth e) (nodes e)) (push (in_binary q s a st) e t l)
push_binary P w t o q s a st e l h = grind (arith, (depth a), (depth e + 1), (depth e), (goes_tight q t o h), (push_leads P w t o (in_binary q s a st) e l))

pass_binary : (P : ℕ → ℕ → Type 0) → Down P → (b : Bool) (a : Expression) (st : Stack) (d n : ℕ) → Operates P st (Gives P st) (max (depth a) d + 1) (nodes a + n + 1) → Taken b (Any (Gives P st Other (max (depth a) (d + 1) + 1) (nodes a + (n + 2) + 1))) (Operates P st (Gives P st) (max (depth a) d + 1) (nodes a + n + 1))
pass_binary P w true a st d n h = any_falls (Gives P st Other) (gives_falls P w st Other) (max (depth a) (d + 1) + 1) (max (depth a) d + 1 + 1) (nodes a + (n + 2) + 1) (nodes a + n + 1 + 2) (omega arith) (omega arith) (operates_any P w st (max (depth a) d + 1) (nodes a + n + 1) h)
pass_binary P w false a st d n h = h

operator_leads : (P : ℕ → ℕ → Type 0) → Down P → (t : Kind) → goes 12 t ≡ true → is_open t ≡ false → (st : Stack) (e : Expression) (l : ℕ) (x : List ℕ) → Leads P (Operates P st (Gives P st) (depth e) (nodes e)) (give st e l x t)
operator_leads P w t g o (in_unary m p st) e l x = leads_if P (Any (Gives P st Other (depth e + 1 + 1) (nodes e + 2 + 1))) (goes (following p) t) (push (in_unary m p st) e t l) (give st (unary m p e) l x t) (λ j. push_leads P w t o (in_unary m p st) e l)
    (λ j. leads_by P (Operates P st (Gives P st) (depth e + 1) (nodes e + 1)) (Any (Gives P st Other (depth e + 1 + 1) (nodes e + 2 + 1))) (give st (unary m p e) l x t) (λ h. any_falls (Gives P st Other) (gives_falls P w st Other) (depth e + 1 + 1) (depth e + 1 + 1) (nodes e + 2 + 1) (nodes e + 1 + 2) (omega arith) (omega arith) (operates_any P w st (depth e + 1) (nodes e + 1) h)) (operator_leads P w t g o st (unary m p e) l x))
operator_leads P w t g o (in_binary q s a st) e l x = let whole_of : Expression = binary (at_expression a) q s a e in leads_if P (Operates P (in_binary q s a st) (Gives P (in_binary q s a st)) (depth e) (nodes e)) (goes (inner q) t) (push (in_binary q s a st) e t l) (give st whole_of l x t) (λ j. push_binary P w t o q s a st e l j)
    (λ j. leads_by P (Operates P st (Gives P st) (max (depth a) (depth e) + 1) (nodes a + nodes e + 1)) (Operates P (in_binary q s a st) (Gives P (in_binary q s a st)) (depth e) (nodes e)) (give st whole_of l x t) (pass_binary P w (nat_lt 1 (inner q)) a st (depth e) (nodes e)) (operator_leads P w t g o st whole_of l x))
operator_leads P w t g o (in_chain q s a b st) e l x = let whole_of : Expression = binary (at_expression a) Both s a (binary (at_expression b) q s b e) in leads_if P (Any (Gives P st Other (max (depth a) (max (depth b) (depth e + 1) + 1) + 1) (nodes a + (nodes b + (nodes e + 2) + 1) + 1))) (goes 5 t) (push (in_chain q s a b st) e t l) (give st whole_of l x t) (λ j. push_leads P w t o (in_chain q s a b st) e l)
    (λ j. leads_by P (Operates P st (Gives P st) (depth whole_of) (nodes whole_of)) (Any (Gives P st Other (max (depth a) (max (depth b) (depth e + 1) + 1) + 1) (nodes a + (nodes b + (nodes e + 2) + 1) + 1))) (give st whole_of l x t) (λ h. any_falls (Gives P st Other) (gives_falls P w st Other) (max (depth a) (max (depth b) (depth e + 1) + 1) + 1) (max (depth a) (max (depth b) (depth e) + 1) + 1 + 1) (nodes a + (nodes b + (nodes e + 2) + 1) + 1) (nodes a + (nodes b + nodes e + 1) + 1 + 2) (omega arith) (omega arith) (operates_any P w st (max (depth a) (max (depth b) (depth e) + 1) + 1) (nodes a + (nodes b + nodes e + 1) + 1) h)) (operator_leads P w t g o st whole_of l x))
operator_leads P w t g o st e l x = let Q : Option State → Type 0 = λ z. Leads P (Operates P st (Gives P st) (depth e) (nodes e)) z in subst Q (sym (pushes st e l x t g)) (push_leads P w t o st e l)

finish_operator : (P : ℕ → ℕ → Type 0) → Down P → (t : Kind) → goes 12 t ≡ true → is_open t ≡ false → (st : Stack) (c : Command) (l : ℕ) (x : List ℕ) → Leads P (Does P st (depth_of_command c) (nodes_of_command c) nx.operating) (finish st c l x t)
finish_operator P w t g o (in_valof m st) c l x = let r = (inner_of t g).1 in rw r (operator_leads P w t g o st (valof m c) l x)
finish_operator P w t g o (in_label m y st) c l x = let r = (inner_of t g).1 in rw r (finish_operator P w t g o st (label m y c) l x)
finish_operator P w t g o (in_guarded gd m e st) c l x =
    let r = (inner_of t g).1 in
    let a = guarded_depth gd m e c in
    let b = guarded_nodes gd m e c in
    rw r (leads_by P (Does P st (depth_of_command (guarded gd m e c)) (nodes_of_command (guarded gd m e c)) nx.operating) (Does P st (max (depth e) (depth_of_command c) + 1) (nodes e + nodes_of_command c + 1) nx.operating) (finish st (guarded gd m e c) l x t)
    (does_falls P w st (max (depth e) (depth_of_command c) + 1) (depth_of_command (guarded gd m e c)) (nodes e + nodes_of_command c + 1) (nodes_of_command (guarded gd m e c)) (omega (arith, a)) (omega (arith, b)) nx.operating) (finish_operator P w t g o st (guarded gd m e c) l x))
finish_operator P w t g o (in_default m st) c l x = let r = (inner_of t g).1 in rw r (finish_operator P w t g o st (default m c) l x)
finish_operator P w t g o (in_or m e a st) c l x = let r = (inner_of t g).1 in rw r (finish_operator P w t g o st (test m e a c) l x)
finish_operator P w t g o (in_for m y a b z st) c l x = let r = (inner_of t g).1 in rw r (finish_operator P w t g o st (for_loop m y a b z c) l x)
finish_operator P w t g o (in_do m e st) c l x = let r = (inner_of t g).1 in let f = (inner_of t g).2 in rw (r, f) tt
finish_operator P w t g o (in_routine y fs st) c l x = let r = (inner_of t g).1 in rw r (leads_none P ⊥ (defined_by st (routine y.at y.letters fs c) l x t) (defined_none st (routine y.at y.letters fs c) l x t (inner_of t g).0))
finish_operator P w t g o (in_block b free ds cs st) c l x = let r = (inner_of t g).1 in let f = (inner_of t g).0.3 in let d = (inner_of t g).0.4 in rw (r, f, d) tt
finish_operator P w t g o st c l x = let r = (inner_of t g).1 in rw r tt

finish_open : (P : ℕ → ℕ → Type 0) → Down P → (st : Stack) (c : Command) (l : ℕ) (x : List ℕ) → Leads P (Does P st (depth_of_command c) (nodes_of_command c) nx.going) (finish st c l x k.Open)
finish_open P w (in_valof m st) c l x = leads_by P (Any (Gives P st Call (depth_of_command c + 1 + 1) (nodes_of_command c + 1 + 1))) (Any (Gives P st Call (depth_of_command c + 2) (nodes_of_command c + 2))) (give st (valof m c) l x k.Open) (any_falls (Gives P st Call) (gives_falls P w st Call) (depth_of_command c + 2) (depth_of_command c + 1 + 1) (nodes_of_command c + 2) (nodes_of_command c + 1 + 1) (omega arith) (omega arith)) (open_leads P w st (valof m c) l x)
finish_open P w (in_label m y st) c l x = finish_open P w st (label m y c) l x
finish_open P w (in_guarded gd m e st) c l x =
    let a = guarded_depth gd m e c in
    let b = guarded_nodes gd m e c in
    leads_by P (Does P st (depth_of_command (guarded gd m e c)) (nodes_of_command (guarded gd m e c)) nx.going) (Does P st (max (depth e) (depth_of_command c) + 1) (nodes e + nodes_of_command c + 1) nx.going) (finish st (guarded gd m e c) l x k.Open)
    (does_falls P w st (max (depth e) (depth_of_command c) + 1) (depth_of_command (guarded gd m e c)) (nodes e + nodes_of_command c + 1) (nodes_of_command (guarded gd m e c)) (omega (arith, a)) (omega (arith, b)) nx.going) (finish_open P w st (guarded gd m e c) l x)
finish_open P w (in_default m st) c l x = finish_open P w st (default m c) l x
finish_open P w (in_or m e a st) c l x = finish_open P w st (test m e a c) l x
finish_open P w (in_for m y a b z st) c l x = finish_open P w st (for_loop m y a b z c) l x
finish_open P w (in_routine y fs st) c l x = leads_none P ⊥ (defined_by st (routine y.at y.letters fs c) l x k.Open) (defined_none st (routine y.at y.letters fs c) l x k.Open (refl, refl, refl, refl, refl))
finish_open P w _ c l x = tt

-- ---- a symbol that goes through all

no_dests : (t : Kind) (xs : Expressions) (st : Stack) → assigns t ≡ false → dests xs st t ≡ None
no_dests k.Comma xs st h = absurd cc
no_dests x0 xs st h = cc

start_leads : (P : ℕ → ℕ → Type 0) (st : Stack) (e : Expression) (l : ℕ) (x : List ℕ) (t : Kind) → ((c : Command) → Leads P (Does P st (depth_of_command c) (nodes_of_command c) nx.closing) (finish st c l x t))
    → Leads P (Started (Does P st) (form_of e) (depth e) (nodes e) nx.closing) (cond (is_call e) (finish st (call_of e) l x t) (cond (is_colon t) (labelled e st) None))
start_leads P st (apply m s f es) l x t h = h (call m f es)
start_leads P st (name m y) l x t h = leads_if P (Started (Does P st) Label 1 1 nx.closing) (is_colon t) (Some (maybe (in_label m y st))) None (λ e j. j) (λ e. tt)
start_leads P st e l x t h = leads_if P (Started (Does P st) (form_of e) (depth e) (nodes e) nx.closing) (is_colon t) None None (λ a. tt) (λ a. tt)

guard_leads : (P : ℕ → ℕ → Type 0) → Down P → (gd : Guard) (m : ℕ) (e : Expression) (st : Stack) → Completes P (after_sign gd (in_guarded gd m e st)) → Guarded gd (Does P st) (depth e) (nodes e)
guard_leads P w g.Case m e st (inl h) = inl h
guard_leads P w g.Case m e st (inr h) = inr (any_falls (Does P st) (does_falls P w st) (max (depth e) 1 + 1) (max (depth e) 1 + 1) (nodes e + 2) (nodes e + 1 + 1) (omega arith) (omega arith) h)
guard_leads P w _ m e st h = any_falls (Does P st) (does_falls P w st) (max (depth e) 1 + 1) (max (depth e) 1 + 1) (nodes e + 2) (nodes e + 1 + 1) (omega arith) (omega arith) h

limit_leads : (P : ℕ → ℕ → Type 0) → Down P → (t : Kind) (m : ℕ) (y : Mention) (a e : Expression) (st : Stack) → Leads P (Any (Does P st (max (depth a) (max (depth e) 1) + 1) (nodes a + nodes e + 2))) (to_or_do m y a e st t)
limit_leads P w k.By m y a e st = λ h. any_falls (Does P st) (does_falls P w st) (max (depth a) (max (depth e) 1) + 1) (max (depth a) (max (depth e) (max 1 1)) + 1) (nodes a + nodes e + 2) (nodes a + nodes e + 1 + 2) (omega arith) (omega arith) (from_closing h)
limit_leads P w k.Do m y a e st = λ h. any_falls (Does P st) (does_falls P w st) (max (depth a) (max (depth e) 1) + 1) (max (depth a) (max (depth e) (max 0 1)) + 1) (nodes a + nodes e + 2) (nodes a + nodes e + 0 + 1 + 1) (omega arith) (omega arith) h
limit_leads P w _ m y a e st = tt

listed_leads : (P : ℕ → ℕ → Type 0) → Down P → (js : Items) (st : Stack) → Lists P st js → Declares P st (depth_of_items js) (nodes_of_items js)
listed_leads P h1 js st h2 = grind (arith, declares_fall)

constants_leads : (P : ℕ → ℕ → Type 0) → Down P → (t : Kind) (m : ℕ) (s : Sort) (js : Items) (st : Stack) → Leads P (Declares P st (depth_of_items js) (nodes_of_items js)) (in_constants m s js st t)
constants_leads P w k.Semicolon m s js st = listed_leads P w js st
constants_leads P w k.SectionClose m s js st = declared_leads P w st (constants m s js)
constants_leads P w _ m s js st = tt

mutual
  give_close : (P : ℕ → ℕ → Type 0) → Down P → (t : Kind) → goes 12 t ≡ false → repeats t ≡ false → assigns t ≡ false → (st : Stack) (e : Expression) (l : ℕ) (x : List ℕ) → Leads P (Gives P st (form_of e) (depth e) (nodes e) nx.closing) (give st e l x t)
  give_close P w t g r a (in_parens m st) e l x = rw g (leads_if P (Whole (Gives P st) Callable (depth e + 1) (nodes e + 1)) (is_close t) (Some (have st (parens m e))) None (λ j h. h) (λ j. tt))
  give_close P w t g r a (in_unary m p st) e l x = let low = falls (following p) 12 t (behind_ok p).1 g in rw low (give_close P w t g r a st (unary m p e) l x)
  give_close P w t g r a (in_binary q s y st) e l x = let low = falls (inner q) 12 t (inner_ok q).1 g in rw low (give_close P w t g r a st (binary (at_expression y) q s y e) l x)
  give_close P w t g r a (in_chain q s y b st) e l x = let low = falls 5 12 t (omega arith) g in rw low (give_close P w t g r a st (binary (at_expression y) Both s y (binary (at_expression b) q s b e)) l x)
  give_close P w t g r a (in_then s y st) e l x = let c = no_comma t a in rw (g, c) tt
  give_close P w t g r a (in_else s y b st) e l x = rw g (give_close P w t g r a st (choice (at_expression y) s y b e) l x)
  give_close P w t g r a (in_args s y es st) e l x =
      let c = no_comma t a in
      let zs : Expressions = each_then es (more e none) in
      let p = each_depth es e in
      let q = each_nodes es e in
      let X : Type 0 = Whole (Gives P st) Call (max (depth y) (max (depth_of_each es) (depth e)) + 1) (nodes y + (nodes_of_each es + nodes e) + 1) in
      rw (g, c) (leads_if P X (is_close t) (Some (have st (apply (at_expression y) s y zs))) None
      (λ j h. whole_falls (Gives P st) (gives_falls P w st) Call (max (depth y) (max (depth_of_each es) (depth e)) + 1) (max (depth y) (depth_of_each zs) + 1) (nodes y + (nodes_of_each es + nodes e) + 1) (nodes y + nodes_of_each zs + 1) (omega (arith, p)) (omega (arith, q)) h) (λ j. tt))
  give_close P w t g r a (in_table m es st) e l x =
      let c = no_comma t a in
      let zs : Expressions = each_then es (more e none) in
      let p = each_depth es e in
      let q = each_nodes es e in
      rw (g, c) (leads_by P (Gives P st Other (depth_of_each zs + 1) (nodes_of_each zs + 1) nx.closing) (Gives P st Other (max (depth_of_each es) (depth e) + 1) (nodes_of_each es + nodes e + 1) nx.closing) (give st (table m zs) l x t)
      (gives_falls P w st Other (max (depth_of_each es) (depth e) + 1) (depth_of_each zs + 1) (nodes_of_each es + nodes e + 1) (nodes_of_each zs + 1) (omega (arith, p)) (omega (arith, q)) nx.closing) (give_close P w t g r a st (table m zs) l x))
  give_close P w t g r a (in_start st) e l x = rw (g, a) (start_leads P st e l x t (λ c. finish_close P w t g r a st c l x))
  give_close P w t g r a (in_dests xs st) e l x = let d = no_dests t (each_then xs (more e none)) st a in rw (g, d) tt
  give_close P w t g r a (in_values xs ys st) e l x =
      let zs : Expressions = each_then ys (more e none) in
      let p = each_depth ys e in
      let q = each_nodes ys e in
      let c = no_comma t a in
      rw g (counted_leads P (size xs == size ys + 1) (Closed (Does P st) (max (depth_of_each xs) (max (depth_of_each ys) (depth e)) + 1) (nodes_of_each xs + (nodes_of_each ys + nodes e) + 1)) (AtListing (Any (Closed (Does P st) (max (depth_of_each xs) (max (depth_of_each ys) (max (depth e) 1)) + 1) (nodes_of_each xs + (nodes_of_each ys + nodes e) + owed (size xs) (size ys) + 1)))) nx.closing
      (finish st (assign (at_expressions xs) xs zs) l x t) t (want (in_values xs zs st))
      (leads_by P (Does P st (max (depth_of_each xs) (depth_of_each zs) + 1) (nodes_of_each xs + nodes_of_each zs + 1) nx.closing) (Does P st (max (depth_of_each xs) (max (depth_of_each ys) (depth e)) + 1) (nodes_of_each xs + (nodes_of_each ys + nodes e) + 1) nx.closing) (finish st (assign (at_expressions xs) xs zs) l x t)
      (does_falls P w st (max (depth_of_each xs) (max (depth_of_each ys) (depth e)) + 1) (max (depth_of_each xs) (depth_of_each zs) + 1) (nodes_of_each xs + (nodes_of_each ys + nodes e) + 1) (nodes_of_each xs + nodes_of_each zs + 1) (omega (arith, p)) (omega (arith, q)) nx.closing) (finish_close P w t g r a st (assign (at_expressions xs) xs zs) l x))
      (λ j. absurd (let d = c in cc)))
  give_close P w t g r a (in_guard gd m st) e l x = rw g (leads_if P (Guarded gd (Does P st) (depth e) (nodes e)) (is_sign_of gd t) (Some (after_sign gd (in_guarded gd m e st))) None (λ j. guard_leads P w gd m e st) (λ j. tt))
  give_close P w t g r a (in_test m st) e l x = rw g (leads_if P (Any (Does P st (max (depth e) 1 + 1) (nodes e + 3))) (is_do t) (Some (begin (in_do m e st))) None
      (λ j h. any_falls (Does P st) (does_falls P w st) (max (depth e) 1 + 1) (max (depth e) (max 1 1) + 1) (nodes e + 3) (nodes e + 1 + 2) (omega arith) (omega arith) (from_closing h)) (λ j. tt))
  give_close P w t g r a (in_result m st) e l x = rw g (finish_close P w t g r a st (result m e) l x)
  give_close P w t g r a (in_while b y st) e l x = rw g (finish_close P w t g r a st (repeat_while (at_command y) b y e) l x)
  give_close P w t g r a (in_from m y st) e l x = rw g (leads_if P (Any (Does P st (max (depth e) 1 + 1) (nodes e + 3))) (is_to t) (Some (want (in_to m y e st))) None
      (λ j h. any_falls (Does P st) (does_falls P w st) (max (depth e) 1 + 1) (max (depth e) (max 1 1) + 1) (nodes e + 3) (nodes e + 1 + 2) (omega arith) (omega arith) (from_closing h)) (λ j. tt))
  give_close P w t g r a (in_to m y b st) e l x = rw g (limit_leads P w t m y b e st)
  give_close P w t g r a (in_by m y b z st) e l x = rw g (leads_if P (Any (Does P st (max (depth b) (max (depth z) (max (depth e) 1)) + 1) (nodes b + nodes z + nodes e + 2))) (is_do t) (Some (begin (in_for m y b z (more e none) st))) None
      (λ j h. any_falls (Does P st) (does_falls P w st) (max (depth b) (max (depth z) (max (depth e) 1)) + 1) (max (depth b) (max (depth z) (max (max (depth e) 0) 1)) + 1) (nodes b + nodes z + nodes e + 2) (nodes b + nodes z + (nodes e + 0) + 1 + 1) (omega arith) (omega arith) h) (λ j. tt))
  give_close P w t g r a (in_item m s is y st) e l x =
      let js : Items = items_then is (item y.at y.letters e no_items) in
      let p = items_depth is (item y.at y.letters e no_items) in
      let q = items_nodes is (item y.at y.letters e no_items) in
      rw g (leads_by P (Declares P st (depth_of_items js) (nodes_of_items js)) (Declares P st (max (depth_of_items is) (depth e + 1)) (nodes_of_items is + (nodes e + 1))) (in_constants m s js st t)
      (declares_fall P w st (max (depth_of_items is) (depth e + 1)) (depth_of_items js) (nodes_of_items is + (nodes e + 1)) (nodes_of_items js) (omega (arith, p)) (omega (arith, q))) (constants_leads P w t m s js st))
  give_close P w t g r a (in_function y fs st) e l x = rw g (defined_leads P w t st (function y.at y.letters fs e) l x)
  give_close P w t g r a (in_value xs is st) e l x =
      let js : Starts = starts_then is (value e no_starts) in
      let p = starts_depth is (value e no_starts) in
      let q = starts_nodes is (value e no_starts) in
      let c = no_comma t a in
      rw g (counted_leads P (length xs == start_count is + 1) (AtClosing (Defines P st (max (depth_of_starts is) (depth e) + 1) (nodes_of_starts is + nodes e + 1)))
      (AtListing (Defines P st (max (depth_of_starts is) (max (depth e) 1) + 1) (nodes_of_starts is + nodes e + owed (length xs) (start_count is) + 1))) nx.closing (defined_by st (variables (at_names xs) xs js) l x t) t (due (at_starts xs js st))
      (leads_by P (Defines P st (depth_of_starts js + 1) (nodes_of_starts js + 1)) (Defines P st (max (depth_of_starts is) (depth e) + 1) (nodes_of_starts is + nodes e + 1)) (defined_by st (variables (at_names xs) xs js) l x t)
      (defines_fall P w st (max (depth_of_starts is) (depth e) + 1) (depth_of_starts js + 1) (nodes_of_starts is + nodes e + 1) (nodes_of_starts js + 1) (omega (arith, p)) (omega (arith, q))) (defined_leads P w t st (variables (at_names xs) xs js) l x))
      (λ j. absurd (let d = c in cc)))
  give_close P w t g r a (in_vector m xs is st) e l x =
      let js : Starts = starts_then is (vector m e no_starts) in
      let p = starts_depth is (vector m e no_starts) in
      let q = starts_nodes is (vector m e no_starts) in
      let c = no_comma t a in
      rw g (counted_leads P (length xs == start_count is + 1) (AtClosing (Defines P st (max (depth_of_starts is) (depth e) + 1) (nodes_of_starts is + nodes e + 1)))
      (AtListing (Defines P st (max (depth_of_starts is) (max (depth e) 1) + 1) (nodes_of_starts is + nodes e + owed (length xs) (start_count is) + 1))) nx.closing (defined_by st (variables (at_names xs) xs js) l x t) t (due (at_starts xs js st))
      (leads_by P (Defines P st (depth_of_starts js + 1) (nodes_of_starts js + 1)) (Defines P st (max (depth_of_starts is) (depth e) + 1) (nodes_of_starts is + nodes e + 1)) (defined_by st (variables (at_names xs) xs js) l x t)
      (defines_fall P w st (max (depth_of_starts is) (depth e) + 1) (depth_of_starts js + 1) (nodes_of_starts is + nodes e + 1) (nodes_of_starts js + 1) (omega (arith, p)) (omega (arith, q))) (defined_leads P w t st (variables (at_names xs) xs js) l x))
      (λ j. absurd (let d = c in cc)))
  give_close P w t g r a _ e l x = rw g tt

  finish_close : (P : ℕ → ℕ → Type 0) → Down P → (t : Kind) → goes 12 t ≡ false → repeats t ≡ false → assigns t ≡ false → (st : Stack) (c : Command) (l : ℕ) (x : List ℕ) → Leads P (Does P st (depth_of_command c) (nodes_of_command c) nx.closing) (finish st c l x t)
  finish_close P w t g r a (in_valof m st) c l x = rw r (give_close P w t g r a st (valof m c) l x)
  finish_close P w t g r a (in_label m y st) c l x = rw r (finish_close P w t g r a st (label m y c) l x)
  finish_close P w t g r a (in_guarded gd m e st) c l x =
      let p = guarded_depth gd m e c in
      let q = guarded_nodes gd m e c in
      rw r (leads_by P (Does P st (depth_of_command (guarded gd m e c)) (nodes_of_command (guarded gd m e c)) nx.closing) (Does P st (max (depth e) (depth_of_command c) + 1) (nodes e + nodes_of_command c + 1) nx.closing) (finish st (guarded gd m e c) l x t)
      (does_falls P w st (max (depth e) (depth_of_command c) + 1) (depth_of_command (guarded gd m e c)) (nodes e + nodes_of_command c + 1) (nodes_of_command (guarded gd m e c)) (omega (arith, p)) (omega (arith, q)) nx.closing) (finish_close P w t g r a st (guarded gd m e c) l x))
  finish_close P w t g r a (in_default m st) c l x = rw r (finish_close P w t g r a st (default m c) l x)
  finish_close P w t g r a (in_do m e st) c l x = rw r (leads_if P (Any (Does P st (max (depth e) (max (depth_of_command c) 1) + 1) (nodes e + nodes_of_command c + 2))) (is_or t) (Some (begin (in_or m e c st))) None
      (λ j h. any_falls (Does P st) (does_falls P w st) (max (depth e) (max (depth_of_command c) 1) + 1) (max (depth e) (max (depth_of_command c) 1) + 1) (nodes e + nodes_of_command c + 2) (nodes e + nodes_of_command c + 1 + 1) (omega arith) (omega arith) h) (λ j. tt))
  finish_close P w t g r a (in_or m e y st) c l x = rw r (finish_close P w t g r a st (test m e y c) l x)
  finish_close P w t g r a (in_for m y b z u st) c l x = rw r (finish_close P w t g r a st (for_loop m y b z u c) l x)
  finish_close P w t g r a (in_routine y fs st) c l x = rw r (defined_leads P w t st (routine y.at y.letters fs c) l x)
  finish_close P w t g r a (in_block b free ds cs st) c l x =
      let zs : Commands = commands_then cs (also c no_commands) in
      let p = commands_depth cs c in
      let q = commands_nodes cs c in
      let X : Type 0 = Any (Does P st (max (depth_of_declarations ds) (max (depth_of_commands cs) (depth_of_command c)) + 1) (nodes_of_declarations ds + (nodes_of_commands cs + nodes_of_command c) + 1)) in
      rw r (leads_if P X (is_semicolon t) (Some (due (in_block b true ds zs st))) (cond (closes t) (Some (did st (block b ds zs))) None)
      (λ j h. any_falls (Does P st) (does_falls P w st) (max (depth_of_declarations ds) (max (depth_of_commands cs) (depth_of_command c)) + 1) (max (depth_of_declarations ds) (max (depth_of_commands zs) 0) + 1) (nodes_of_declarations ds + (nodes_of_commands cs + nodes_of_command c) + 1) (nodes_of_declarations ds + (nodes_of_commands zs + 0) + 1) (omega (arith, p)) (omega (arith, q)) h)
      (λ j. leads_if P X (closes t) (Some (did st (block b ds zs))) None
      (λ i h. any_falls (Does P st) (does_falls P w st) (max (depth_of_declarations ds) (max (depth_of_commands cs) (depth_of_command c)) + 1) (max (depth_of_declarations ds) (depth_of_commands zs) + 1) (nodes_of_declarations ds + (nodes_of_commands cs + nodes_of_command c) + 1) (nodes_of_declarations ds + nodes_of_commands zs + 1) (omega (arith, p)) (omega (arith, q)) h) (λ i. tt)))
  finish_close P w t g r a _ c l x = rw r tt

-- ---- where a symbol is due

names_lead : (P : ℕ → ℕ → Type 0) → Down P → (t : Kind) (xs : List Mention) (st : Stack) → Leads P (Defines P st 2 (length xs + 1)) (in_names xs st t)
names_lead P w k.Comma xs st = λ h. defines_fall P w st 2 2 (length xs + 1) (length xs + 2) (omega arith) (omega arith) h
names_lead P w k.Equal xs st = λ h. defines_fall P w st 2 (max 0 1 + 1) (length xs + 1) (0 + 1 + owed (length xs) 0 + 1) (omega arith) (omega arith) (starts_any P w xs no_starts st h)
names_lead P w _ xs st = tt

formals_lead : (P : ℕ → ℕ → Type 0) (t : Kind) (y : Mention) (fs : List Mention) (st : Stack) → Leads P (Defines P st 2 2) (in_formals y fs st t)
formals_lead P t y fs st = grind arith

headed_leads : (P : ℕ → ℕ → Type 0) (t : Kind) (y : Mention) (fs : List Mention) (st : Stack) → Leads P (Defines P st 2 2) (headed y fs st t)
headed_leads P t y fs st = grind arith

item_leads : (P : ℕ → ℕ → Type 0) → Down P → (t : Kind) (m : ℕ) (s : Sort) (is : Items) (st : Stack) (l : ℕ) (x : List ℕ) → Leads P (Lists P st is) (take_item m s is st l x t)
item_leads P w t m s no_items st l x = leads_named P (Declares P st 2 2) t l x (λ y. due (at_sign m s no_items y st)) (λ y h. declares_fall P w st 2 (max 2 0) 2 (0 + 2) (omega arith) (omega arith) h)
item_leads P w t m s (item b y e is) st l x =
    let js : Items = item b y e is in
    let X : Type 0 = Declares P st (depth_of_items js) (nodes_of_items js) in
    leads_if P X (is_semicolon t) (Some (due (at_items m s js st))) _ (λ j h. h)
    (λ j. leads_if P X (closes t) (declared st (constants m s js)) _ (λ i. declared_leads P w st (constants m s js))
    (λ i. leads_named P X t l x (λ z. due (at_sign m s js z st)) (λ z h. declares_fall P w st (depth_of_items js) (max 2 (depth_of_items js)) (nodes_of_items js) (nodes_of_items js + 2) (omega arith) (omega arith) h)))

sign_leads : (P : ℕ → ℕ → Type 0) → Down P → (is : Items) (st : Stack) → Any (AtClosing (Declares P st (max (depth_of_items is) (1 + 1)) (nodes_of_items is + (1 + 1)))) → Declares P st (max 2 (depth_of_items is)) (nodes_of_items is + 2)
sign_leads P w is st h = declares_fall P w st (max 2 (depth_of_items is)) (max (depth_of_items is) (1 + 1)) (nodes_of_items is + 2) (nodes_of_items is + (1 + 1)) (omega arith) (omega arith) (from_closing h)

due_leads : (P : ℕ → ℕ → Type 0) → Down P → (t : Kind) (st : Stack) (l : ℕ) (x : List ℕ) → Leads P (Due P st) (take_due st l x t)
due_leads P w t (in_section ds) l x = section_leads P w t ds l
due_leads P w t (in_block b free ds cs st) l x = block_leads P w t b free ds cs st l x
due_leads P w t (in_let m ds st) l x = leads_named P (Defines P (in_let m ds st) 2 2) t l x (λ y. due (at_name y (in_let m ds st))) (λ y h. h)
due_leads P w t (at_name y st) l x = grind (arith, leads_if, leads_by, (due (at_formals y st)), (inside st), (length (y ∷ []) + 1), (defines_fall P w st 2 2 2 (length (y ∷ []) + 1) (omega arith) (omega arith)), (names_lead P w t (y ∷ []) st))
due_leads P w t (at_formals y st) l x = leads_if P (Defines P st 2 2) (is_close t) (Some (due (at_head y [] st))) _ (λ j h. h) (λ j. leads_named P (Defines P st 2 2) t l x (λ f. due (at_formal_end y (f ∷ []) st)) (λ f h. h))
due_leads P w t (at_formal y fs st) l x = leads_named P (Defines P st 2 2) t l x (λ f. due (at_formal_end y (fs ++ f ∷ []) st)) (λ f h. h)
due_leads P w t (at_formal_end y fs st) l x = formals_lead P t y fs st
due_leads P w t (at_head y fs st) l x = headed_leads P t y fs st
due_leads P w t (at_variable xs st) l x = leads_named P (Defines P st 2 (length xs + 2)) t l x (λ y. due (at_variable_end (xs ++ y ∷ []) st)) (λ y h. let z = length-append xs (y ∷ []) in defines_fall P w st 2 2 (length xs + 2) (length (xs ++ y ∷ []) + 1) (omega arith) (omega (arith, z)) h)
due_leads P w t (at_variable_end xs st) l x = names_lead P w t xs st
due_leads P w t (at_starts xs is st) l x = leads_if P (Any (Gives P (in_value xs is st) Label 1 1)) (is_vec t) (Some (want (in_vector l xs is st))) (take_operand (in_value xs is st) l x t) (λ j h. h) (λ j. operand_leads P w t (in_value xs is st) l x)
due_leads P w t (at_opening m s st) l x = leads_if P (Declares P st 2 2) (opens t) (Some (due (at_items m s no_items st))) None (λ j h. h) (λ j. tt)
due_leads P w t (at_items m s is st) l x = item_leads P w t m s is st l x
due_leads P w t (at_sign m s is y st) l x = grind (arith, leads_if, sign_leads)
due_leads P w t (at_goto m st) l x = leads_named P (Any (Does P st 1 1)) t l x (λ y. did st (goto m y)) (λ y h. h)
due_leads P w t (at_for m st) l x = leads_named P (Any (Does P st 2 4)) t l x (λ y. due (at_forward m y st)) (λ y h. h)
due_leads P w t (at_forward m y st) l x = leads_if P (Any (Does P st 2 4)) (is_equal t) (Some (want (in_from m y st))) None (λ j h. any_falls (Does P st) (does_falls P w st) 2 (max 1 1 + 1) 4 (1 + 3) (omega arith) (omega arith) (from_closing h)) (λ j. tt)
due_leads P w t (at_default m st) l x = leads_if P (Due P (at_default m st)) (is_colon t) (Some (maybe (in_default m st))) None (λ j h. h) (λ j. tt)
due_leads P w t _ l x = tt

-- ---- any symbol

by_test : {X : Type 0} (b : Bool) → (b ≡ true → X) → (b ≡ false → X) → X
by_test b h1 h2 = grind arith

-- what holds of each class holds of each symbol
by_class : (Q : Kind → Type 0) → Q k.Assign → Q k.Comma → Q k.Repeat × Q k.RepeatWhile × Q k.RepeatUntil → Q k.Open
    → ((t : Kind) → goes 12 t ≡ true → is_open t ≡ false → Q t) → ((t : Kind) → goes 12 t ≡ false → repeats t ≡ false → assigns t ≡ false → Q t) → (t : Kind) → Q t
by_class Q h1 h2 h3 h4 h5 h6 t = grind (arith, by_test, goes)

operated : (P : ℕ → ℕ → Type 0) → Down P → (st : Stack) (d n : ℕ) → Any (Gives P st Other (d + 1) (n + 2)) → Any (Gives P st Call (d + 1) (n + 1))
operated P w st d n h = any_falls (Gives P st Call) (gives_falls P w st Call) (d + 1) (d + 1) (n + 1) (n + 2) (omega arith) (omega arith) (h.0, called P st (d + 1) (n + 2) h.0 h.1)

have_leads : (P : ℕ → ℕ → Type 0) → Down P → (st : Stack) (e : Expression) (l : ℕ) (x : List ℕ) (t : Kind) → Leads P (Whole (Gives P st) (form_of e) (depth e) (nodes e)) (give st e l x t)
have_leads P w st e l x =
    let X : Type 0 = Whole (Gives P st) (form_of e) (depth e) (nodes e) in
    let at : (c : Lookahead) → Gives P st (form_of e) (depth e) (nodes e) c → X = λ c h. inl (c, h) in
    by_class (λ t. Leads P X (give st e l x t))
    (leads_by P (Gives P st (form_of e) (depth e) (nodes e) nx.assigning) X (give st e l x k.Assign) (at nx.assigning) (give_two P w st e l x).0)
    (leads_by P (Gives P st (form_of e) (depth e) (nodes e) nx.listing) X (give st e l x k.Comma) (at nx.listing) (give_two P w st e l x).1)
    (each_by P (Gives P st (form_of e) (depth e) (nodes e) nx.repeating) X (give st e l x) (at nx.repeating) (give_repeat P w st e l x))
    (leads_by P (Any (Gives P st Call (depth e + 1) (nodes e + 1))) X (give st e l x k.Open) (λ h. inr h) (open_leads P w st e l x))
    (λ t g o. leads_by P (Operates P st (Gives P st) (depth e) (nodes e)) X (give st e l x t) (λ h. inr (operated P w st (depth e) (nodes e) (operates_any P w st (depth e) (nodes e) h))) (operator_leads P w t g o st e l x))
    (λ t g r a. leads_by P (Gives P st (form_of e) (depth e) (nodes e) nx.closing) X (give st e l x t) (at nx.closing) (give_close P w t g r a st e l x))

did_leads : (P : ℕ → ℕ → Type 0) → Down P → (st : Stack) (c : Command) (l : ℕ) (x : List ℕ) (t : Kind) → Leads P (Any (Does P st (depth_of_command c) (nodes_of_command c))) (finish st c l x t)
did_leads P w st c l x =
    let F : ℕ → ℕ → Lookahead → Type 0 = Does P st in
    let d : ℕ = depth_of_command c in
    let m : ℕ = nodes_of_command c in
    let X : Type 0 = Any (F d m) in
    let at : (z : Lookahead) → F d m z → X = λ z h. (z, h) in
    let more_of : Any (F (d + 1) (m + 1)) → X = any_falls F (does_falls P w st) d (d + 1) m (m + 1) (omega arith) (omega arith) in
    by_class (λ t. Leads P X (finish st c l x t))
    (leads_by P (F d m nx.assigning) X (finish st c l x k.Assign) (at nx.assigning) (finish_two P w st c l x).0)
    (leads_by P (F d m nx.listing) X (finish st c l x k.Comma) (at nx.listing) (finish_two P w st c l x).1)
    (each_by P (Any (F (d + 1) (m + 1))) X (finish st c l x) more_of (finish_repeat P w st c l x))
    (leads_by P (F d m nx.going) X (finish st c l x k.Open) (at nx.going) (finish_open P w st c l x))
    (λ t g o. leads_by P (F d m nx.operating) X (finish st c l x t) (at nx.operating) (finish_operator P w t g o st c l x))
    (λ t g r a. leads_by P (F d m nx.closing) X (finish st c l x t) (at nx.closing) (finish_close P w t g r a st c l x))

-- where a command is missing behind a colon
empty_leads : (P : ℕ → ℕ → Type 0) → Down P → (st : Stack) (c : Command) (l : ℕ) (x : List ℕ) (t : Kind) → begins_command t ≡ false → Leads P (Any (Missing (Does P st) (depth_of_command c) (nodes_of_command c))) (finish st c l x t)
empty_leads P w st c l x =
    let F : ℕ → ℕ → Lookahead → Type 0 = Does P st in
    let d : ℕ = depth_of_command c in
    let m : ℕ = nodes_of_command c in
    let X : Type 0 = Any (Missing F d m) in
    by_class (λ t. begins_command t ≡ false → Leads P X (finish st c l x t))
    (λ b. leads_by P (F d m nx.assigning) X (finish st c l x k.Assign) (λ h. (nx.assigning, h)) (finish_two P w st c l x).0)
    (λ b. leads_by P (F d m nx.listing) X (finish st c l x k.Comma) (λ h. (nx.listing, h)) (finish_two P w st c l x).1)
    (let r = each_by P (Any (F (d + 1) (m + 1))) X (finish st c l x) (λ h. (nx.repeating, h)) (finish_repeat P w st c l x) in (λ b. r.0, λ b. r.1, λ b. r.2))
    (λ b. absurd cc)
    (λ t g o b. leads_by P (F d m nx.operating) X (finish st c l x t) (λ h. (nx.operating, h)) (finish_operator P w t g o st c l x))
    (λ t g r a b. leads_by P (F d m nx.closing) X (finish st c l x t) (λ h. (nx.closing, h)) (finish_close P w t g r a st c l x))

missing_leads : (P : ℕ → ℕ → Type 0) → Down P → (st : Stack) (l : ℕ) (x : List ℕ) (t : Kind) → begins_command t ≡ false → Leads P (Misses P st) (without st l x t)
missing_leads P w (in_label m y st) l x t b = empty_leads P w st (label m y empty) l x t b
missing_leads P w (in_guarded gd m e st) l x t b =
    let a = guarded_depth gd m e empty in
    let z = guarded_nodes gd m e empty in
    leads_by P (Any (Missing (Does P st) (depth_of_command (guarded gd m e empty)) (nodes_of_command (guarded gd m e empty)))) (Any (Missing (Does P st) (depth e + 1) (nodes e + 1))) (finish st (guarded gd m e empty) l x t)
    (any_missing (Does P st) (does_falls P w st) (depth e + 1) (depth_of_command (guarded gd m e empty)) (nodes e + 1) (nodes_of_command (guarded gd m e empty)) (omega (arith, a)) (omega (arith, z))) (empty_leads P w st (guarded gd m e empty) l x t b)
missing_leads P w (in_default m st) l x t b = empty_leads P w st (default m empty) l x t b
missing_leads P w _ l x t b = tt

pub step_leads : (P : ℕ → ℕ → Type 0) → Down P → (x : State) (l : ℕ) (s : List ℕ) (t : Kind) → Leads P (Completes P x) (stepped_by x l s t)
step_leads P w (want st) l s t = operand_leads P w t st l s
step_leads P w (have st e) l s t = have_leads P w st e l s t
step_leads P w (begin st) l s t = command_leads P w t st l s
step_leads P w (maybe st) l s t = leads_if P (Completes P (maybe st)) (begins_command t) (take_command st l s t) (without st l s t)
    (λ b. leads_by P (Any (Does P st 1 1)) (Completes P (maybe st)) (take_command st l s t) (λ h. inr h) (command_leads P w t st l s))
    (λ b. leads_by P (Misses P st) (Completes P (maybe st)) (without st l s t) (λ h. inl h) (missing_leads P w st l s t b))
step_leads P w (did st c) l s t = did_leads P w st c l s t
step_leads P w (due st) l s t = due_leads P w t st l s

-- ---- all the symbols

whole_leads : (P : ℕ → ℕ → Type 0) → Down P → (X : Type 0) (r : Option State) (ds : Declarations) → Leads P X r → whole r ≡ Ok ds → P (depth_of_declarations ds) (nodes_of_declarations ds) → X
whole_leads P h1 X r ds h2 h3 h4 = grind arith

going_leads : (P : ℕ → ℕ → Type 0) (X : Type 0) (ts : List Symbol) (r : Option State) (f : State → Result Declarations (List Symbol)) (ds : Declarations) → Leads P X r → going ts f r ≡ Ok ds → ((y : State) → f y ≡ Ok ds → Completes P y) → X
going_leads P X ts r f ds h1 h2 h3 = grind arith

-- each section that is read from a state on is one to which it can be completed
pub run_completes : (P : ℕ → ℕ → Type 0) → Down P → (ts : List Symbol) (x : State) (ds : Declarations) → run ts x ≡ Ok ds → P (depth_of_declarations ds) (nodes_of_declarations ds) → Completes P x
unfolding run
run_completes P w [] x ds is p = whole_leads P w (Completes P x) (stepped_by x 1 [] k.Semicolon) ds (step_leads P w x 1 [] k.Semicolon) is p
run_completes P w (t ∷ ts) x ds is p = going_leads P (Completes P x) (t ∷ ts) (step x t) (run ts) ds (step_leads P w x (position_of t) t.text t.kind) is (λ y r. run_completes P w ts y ds r p)

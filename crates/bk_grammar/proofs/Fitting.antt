-- Each step of the machine leads from a state that fits to one that fits.
use Rattle.bk_grammar.proofs.Terms.{◌≡◌, ℕ, ◌+◌, ◌<◌, Bool, true, false, cond, List, [], ◌∷◌, ◌++◌, ◌==◌, length, length-append, Option, Some, None, sym, subst, arith, nat_tests, Kind, Kind as k, Symbol, Operator, Sort, Guard, Mention, Expression, Expressions, Command, Commands, Declaration, Declarations, Items, Definition, parens, unary, binary, choice, apply, valof, table, none, more, empty, assign, label, default, test, for_loop, result, block, repeat_while, no_commands, also, no_declarations, declare, no_items, item, routine, function, variables, no_definitions, no_starts, value, vector, inner, following, is_relation, infix_of, sort_of, sign_of, begins_command, repeats, assigns, is_comma, goes, last, at_expression, at_expressions, at_names, at_command, size, start_count, Stack, in_section, in_block, in_let, at_name, at_formals, at_formal, at_formal_end, at_head, at_variable, at_variable_end, at_starts, at_opening, at_items, at_sign, at_goto, at_for, at_forward, at_default, in_parens, in_unary, in_binary, in_chain, in_then, in_else, in_args, in_table, in_start, in_dests, in_values, in_guard, in_test, in_result, in_while, in_from, in_to, in_by, in_item, in_function, in_value, in_vector, in_valof, in_label, in_guarded, in_default, in_do, in_or, in_for, in_routine, State, want, have, begin, maybe, did, due, linked, infixed, push, is_close, is_colon, is_do, is_or, is_to, is_equal, is_semicolon, opens, closes, is_vec, is_let, is_sign_of, if_is, named, guarded, after_sign, no_args, take_operand, take_command, sorted, take_declaration, take_in_section, take_in_block, declared, declared_by, defined_by, again, dests, labelled, is_call, call_of, in_constants, to_or_do, give, finish, without, inside, in_names, in_formals, headed, take_item, take_due, step, each_then, commands_then, declarations_then, items_then, starts_then, position_of}
use Rattle.bk_tree.specs.declared.tree.Operator.TheVariants.{Both}
use Rattle.bk_grammar.proofs.Steps.{size_then, count_then}
use Rattle.bk_grammar.proofs.Before.{is_close_kind, is_comma_kind, is_colon_kind, is_do_kind, is_or_kind, is_to_kind, is_and_kind, is_equal_kind, is_semicolon_kind, opens_kind, closes_kind, is_vec_kind, is_let_kind, is_open_kind}
use Rattle.bk_grammar.proofs.Moves.{sign_is}
use Rattle.bk_grammar.proofs.Fits.{Under, ForExpression, ForCommand, ForDefinition, ForDeclaration, ForSymbol, Fits, Fit, FitUnder, After}

-- no state
stuck : (t : Kind) (os : List (List ℕ)) → After t None os
stuck t os = grind arith

either : (b : Bool) (t : Kind) (x y : Option State) (os : List (List ℕ)) → (b ≡ true → After t x os) → (b ≡ false → After t y os) → After t (cond b x y) os
either b t x y os h1 h2 = grind arith

as_kind : (y t : Kind) (r : Option State) (os : List (List ℕ)) → t ≡ y → After y r os → After t r os
as_kind y t r os is h = let P : Kind → Type 0 = λ z. After z r os in subst P (sym is) h

-- a symbol of one kind, or another
sign_or : (b : Bool) (y t : Kind) (x : State) (r : Option State) (os : List (List ℕ)) → (b ≡ true → t ≡ y) → After y (Some x) os → After t r os → After t (cond b (Some x) r) os
sign_or b y t x r os is h j = either b t (Some x) r os (λ e. as_kind y t (Some x) os (is e) h) (λ e. j)

sign : (b : Bool) (y t : Kind) (x : State) (os : List (List ℕ)) → (b ≡ true → t ≡ y) → After y (Some x) os → After t (if_is b x) os
sign b y t x os is h = sign_or b y t x None os is h (stuck t os)

-- ---- expressions

linked_fits : (z : Option Expression) (q : Operator) (s : ℕ) (e : Expression) (st : Stack) (os : List (List ℕ)) → ForExpression st os → Fits (linked q s e st z) os
linked_fits z q s e st os h1 = grind arith

relation_fits : (b : Bool) (x y : State) (os : List (List ℕ)) → Fits x os → Fits y os → Fits (cond b x y) os
relation_fits b x y os h1 h2 = grind arith

infixed_fits : (z : Option Operator) (st : Stack) (e : Expression) (s : ℕ) (os : List (List ℕ)) → ForExpression st os → Fit (infixed st e s z) os
infixed_fits None st e s os h = tt
infixed_fits (Some q) st e s os h = relation_fits (is_relation q) (linked q s e st (last e)) (want (in_binary q s e st)) os (linked_fits (last e) q s e st os h) h

push_fits : (t : Kind) (st : Stack) (e : Expression) (l : ℕ) (os : List (List ℕ)) → ForExpression st os → After t (push st e t l) os
push_fits k.Open st e l os h = h
push_fits k.Arrow st e l os h = h
push_fits k.SectionOpen st e l os h = λ tag has. tt
push_fits k.SectionClose st e l os h = tt
push_fits t st e l os h = infixed_fits (infix_of t) st e l os h

-- the expression goes on, or not
goes_or : (b : Bool) (t : Kind) (st : Stack) (e : Expression) (l : ℕ) (r : Option State) (os : List (List ℕ)) → ForExpression st os → After t r os → After t (cond b (push st e t l) r) os
goes_or b t st e l r os h j = either b t (push st e t l) r os (λ x. push_fits t st e l os h) (λ x. j)

no_args_fits : (st : Stack) (os : List (List ℕ)) → ForExpression st os → Fit (no_args st) os
no_args_fits st os h1 = grind arith

operand_fits : (t : Kind) (st : Stack) (l : ℕ) (x : List ℕ) (os : List (List ℕ)) → ForExpression st os → After t (take_operand st l x t) os
operand_fits t st l x os h1 = grind (arith, no_args_fits, either, none)

-- ---- commands

command_fits : (t : Kind) (st : Stack) (l : ℕ) (x : List ℕ) (os : List (List ℕ)) → ForCommand st os → After t (take_command st l x t) os
command_fits t st l x os h1 = grind (arith, operand_fits)

again_fits : (t : Kind) (st : Stack) (c : Command) (os : List (List ℕ)) → ForCommand st os → After t (again st c t) os
again_fits t st c os h1 = grind arith

-- the command goes on, or not
repeats_or : (b : Bool) (t : Kind) (st : Stack) (c : Command) (r : Option State) (os : List (List ℕ)) → ForCommand st os → After t r os → After t (cond b (again st c t) r) os
repeats_or b t st c r os h j = either b t (again st c t) r os (λ x. again_fits t st c os h) (λ x. j)

dests_fits : (t : Kind) (xs : Expressions) (st : Stack) (os : List (List ℕ)) → 0 < size xs → ForCommand st os → After t (dests xs st t) os
dests_fits t xs st os h1 h2 = grind arith

labelled_fits : (e : Expression) (st : Stack) (os : List (List ℕ)) → ForCommand st os → Fit (labelled e st) os
labelled_fits e st os h1 = grind arith

to_or_do_fits : (t : Kind) (l : ℕ) (n : Mention) (a b : Expression) (st : Stack) (os : List (List ℕ)) → ForCommand st os → After t (to_or_do l n a b st t) os
to_or_do_fits t l n a b st os h1 = grind arith

guard_fits : (gd : Guard) (m : ℕ) (e : Expression) (st : Stack) (os : List (List ℕ)) → ForCommand st os → After (sign_of gd) (Some (after_sign gd (in_guarded gd m e st))) os
guard_fits gd m e st os h1 = grind arith

-- ---- declarations

declared_fits : (st : Stack) (d : Declaration) (os : List (List ℕ)) → Under (ForDeclaration st) os → FitUnder (declared st d) os
declared_fits st d os h1 = grind arith

constants_fits : (t : Kind) (l : ℕ) (s : Sort) (is : Items) (st : Stack) (os : List (List ℕ)) → Under (ForDeclaration st) os → After t (in_constants l s is st t) os
constants_fits t l s is st os h1 = grind (arith, declared_fits)

sorted_fits : (t : Kind) (st : Stack) (l : ℕ) (other : Option State) (os : List (List ℕ)) → ForDeclaration st os → After t other os → After t (sorted st l (sort_of t) other) os
sorted_fits t st l other os h1 h2 = grind arith

declaration_fits : (t : Kind) (st : Stack) (l : ℕ) (other : Option State) (os : List (List ℕ)) → ForDeclaration st os → After t other os → After t (take_declaration st l t other) os
declaration_fits t st l other os h j = sign_or (is_let t) k.Let t (due (in_let l no_definitions st)) (sorted st l (sort_of t) other) os (is_let_kind t) h (sorted_fits t st l other os h j)

section_fits : (t : Kind) (ds : Declarations) (l : ℕ) (os : List (List ℕ)) → os ≡ [] → After t (take_in_section ds l t) os
section_fits t ds l os h = sign_or (is_semicolon t) k.Semicolon t (due (in_section ds)) _ os (is_semicolon_kind t) h (declaration_fits t (in_section ds) l None os h (stuck t os))

block_fits : (t : Kind) (b : ℕ) (free : Bool) (ds : Declarations) (cs : Commands) (st : Stack) (l : ℕ) (x : List ℕ) (os : List (List ℕ)) → Under (ForCommand st) os → After t (take_in_block b free ds cs st l x t) os
block_fits t b free ds cs st l x os h = grind (arith, either, command_fits, stuck, sign_or, due, is_semicolon_kind, closes, did, closes_kind, declaration_fits)

declared_by_fits : (t : Kind) (st : Stack) (d : Declaration) (l : ℕ) (x : List ℕ) (os : List (List ℕ)) → ForDeclaration st os → After t (declared_by st d l x t) os
declared_by_fits t (in_section ds) d l x os h = section_fits t (declarations_then ds (declare d no_declarations)) l os h
declared_by_fits t (in_block b free ds cs st) d l x os h = block_fits t b false (declarations_then ds (declare d no_declarations)) cs st l x os h
declared_by_fits t _ d l x os h = absurd h

defined_fits : (t : Kind) (st : Stack) (d : Definition) (l : ℕ) (x : List ℕ) (os : List (List ℕ)) → ForDefinition st os → After t (defined_by st d l x t) os
defined_fits t (in_let m ds st) d l x os h = grind (arith, sign_or, due, is_and_kind, declared_by_fits)
defined_fits t _ d l x os h = absurd h

-- ---- what is complete

fewer : (m n i : ℕ) → n < m → (m == n + 1) ≡ false → i ≡ n + 1 → i < m
fewer m n i lt other is = grind (arith, nat_tests)

mutual
  pub give_fits : (t : Kind) (st : Stack) (e : Expression) (l : ℕ) (x : List ℕ) (os : List (List ℕ)) → ForExpression st os → After t (give st e l x t) os
  give_fits t (in_parens m st) e l x os h = goes_or (goes 12 t) t (in_parens m st) e l _ os h (sign (is_close t) k.Close t (have st (parens m e)) os (is_close_kind t) h)
  give_fits t (in_unary m p st) e l x os h = goes_or (goes (following p) t) t (in_unary m p st) e l _ os h (give_fits t st (unary m p e) l x os h)
  give_fits t (in_binary q s a st) e l x os h = goes_or (goes (inner q) t) t (in_binary q s a st) e l _ os h (give_fits t st (binary (at_expression a) q s a e) l x os h)
  give_fits t (in_chain q s a b st) e l x os h = goes_or (goes 5 t) t (in_chain q s a b st) e l _ os h (give_fits t st (binary (at_expression a) Both s a (binary (at_expression b) q s b e)) l x os h)
  give_fits t (in_then s c st) e l x os h = goes_or (goes 12 t) t (in_then s c st) e l _ os h (sign (is_comma t) k.Comma t (want (in_else s c e st)) os (is_comma_kind t) h)
  give_fits t (in_else s c a st) e l x os h = goes_or (goes 12 t) t (in_else s c a st) e l _ os h (give_fits t st (choice (at_expression c) s c a e) l x os h)
  give_fits t (in_args s f es st) e l x os h = goes_or (goes 12 t) t (in_args s f es st) e l _ os h
      (sign_or (is_comma t) k.Comma t (want (in_args s f (each_then es (more e none)) st)) _ os (is_comma_kind t) h
      (sign (is_close t) k.Close t (have st (apply (at_expression f) s f (each_then es (more e none)))) os (is_close_kind t) h))
  give_fits t (in_table m es st) e l x os h = goes_or (goes 12 t) t (in_table m es st) e l _ os h
      (sign_or (is_comma t) k.Comma t (want (in_table m (each_then es (more e none)) st)) _ os (is_comma_kind t) h (give_fits t st (table m (each_then es (more e none))) l x os h.1))
  give_fits t (in_start st) e l x os h = goes_or (goes 12 t) t (in_start st) e l _ os h
      (either (assigns t) t _ _ os (λ y. dests_fits t (more e none) st os (omega arith) h)
      (λ y. either (is_call e) t _ _ os (λ z. finish_fits t st (call_of e) l x os h)
      (λ z. either (is_colon t) t (labelled e st) None os (λ d. as_kind k.Colon t (labelled e st) os (is_colon_kind t d) (labelled_fits e st os h)) (λ d. stuck t os))))
  give_fits t (in_dests xs st) e l x os h = goes_or (goes 12 t) t (in_dests xs st) e l _ os h (dests_fits t (each_then xs (more e none)) st os (let n = size_then xs (more e none) in omega arith) h)
  give_fits t (in_values xs ys st) e l x os h = goes_or (goes 12 t) t (in_values xs ys st) e l _ os h
      (either (size xs == size ys + 1) t _ _ os (λ y. finish_fits t st (assign (at_expressions xs) xs (each_then ys (more e none))) l x os h.1)
      (λ y. sign (is_comma t) k.Comma t (want (in_values xs (each_then ys (more e none)) st)) os (is_comma_kind t) (fewer (size xs) (size ys) _ h.0 y (size_then ys (more e none)), h.1)))
  give_fits t (in_guard gd m st) e l x os h = goes_or (goes 12 t) t (in_guard gd m st) e l _ os h (sign (is_sign_of gd t) (sign_of gd) t (after_sign gd (in_guarded gd m e st)) os (sign_is gd t) (guard_fits gd m e st os h))
  give_fits t (in_test m st) e l x os h = goes_or (goes 12 t) t (in_test m st) e l _ os h (sign (is_do t) k.Do t (begin (in_do m e st)) os (is_do_kind t) h)
  give_fits t (in_result m st) e l x os h = goes_or (goes 12 t) t (in_result m st) e l _ os h (finish_fits t st (result m e) l x os h)
  give_fits t (in_while b c st) e l x os h = goes_or (goes 12 t) t (in_while b c st) e l _ os h (finish_fits t st (repeat_while (at_command c) b c e) l x os h)
  give_fits t (in_from m n st) e l x os h = goes_or (goes 12 t) t (in_from m n st) e l _ os h (sign (is_to t) k.To t (want (in_to m n e st)) os (is_to_kind t) h)
  give_fits t (in_to m n a st) e l x os h = goes_or (goes 12 t) t (in_to m n a st) e l _ os h (to_or_do_fits t m n a e st os h)
  give_fits t (in_by m n a b st) e l x os h = goes_or (goes 12 t) t (in_by m n a b st) e l _ os h (sign (is_do t) k.Do t (begin (in_for m n a b (more e none) st)) os (is_do_kind t) h)
  give_fits t (in_item m s is n st) e l x os h = goes_or (goes 12 t) t (in_item m s is n st) e l _ os h (constants_fits t m s (items_then is (item n.at n.letters e no_items)) st os h)
  give_fits t (in_function n fs st) e l x os h = goes_or (goes 12 t) t (in_function n fs st) e l _ os h (defined_fits t st (function n.at n.letters fs e) l x os h)
  give_fits t (in_value ns is st) e l x os h = goes_or (goes 12 t) t (in_value ns is st) e l _ os h
      (either (length ns == start_count is + 1) t _ _ os (λ y. defined_fits t st (variables (at_names ns) ns (starts_then is (value e no_starts))) l x os h.1)
      (λ y. sign (is_comma t) k.Comma t (due (at_starts ns (starts_then is (value e no_starts)) st)) os (is_comma_kind t) (fewer (length ns) (start_count is) _ h.0 y (count_then is (value e no_starts)), h.1)))
  give_fits t (in_vector m ns is st) e l x os h = goes_or (goes 12 t) t (in_vector m ns is st) e l _ os h
      (either (length ns == start_count is + 1) t _ _ os (λ y. defined_fits t st (variables (at_names ns) ns (starts_then is (vector m e no_starts))) l x os h.1)
      (λ y. sign (is_comma t) k.Comma t (due (at_starts ns (starts_then is (vector m e no_starts)) st)) os (is_comma_kind t) (fewer (length ns) (start_count is) _ h.0 y (count_then is (vector m e no_starts)), h.1)))
  give_fits t _ e l x os h = absurd h

  pub finish_fits : (t : Kind) (st : Stack) (c : Command) (l : ℕ) (x : List ℕ) (os : List (List ℕ)) → ForCommand st os → After t (finish st c l x t) os
  finish_fits t (in_valof m st) c l x os h = repeats_or (repeats t) t (in_valof m st) c _ os h (give_fits t st (valof m c) l x os h)
  finish_fits t (in_label m n st) c l x os h = repeats_or (repeats t) t (in_label m n st) c _ os h (finish_fits t st (label m n c) l x os h)
  finish_fits t (in_guarded gd m e st) c l x os h = repeats_or (repeats t) t (in_guarded gd m e st) c _ os h (finish_fits t st (guarded gd m e c) l x os h)
  finish_fits t (in_default m st) c l x os h = repeats_or (repeats t) t (in_default m st) c _ os h (finish_fits t st (default m c) l x os h)
  finish_fits t (in_do m e st) c l x os h = repeats_or (repeats t) t (in_do m e st) c _ os h (sign (is_or t) k.Or t (begin (in_or m e c st)) os (is_or_kind t) h)
  finish_fits t (in_or m e a st) c l x os h = repeats_or (repeats t) t (in_or m e a st) c _ os h (finish_fits t st (test m e a c) l x os h)
  finish_fits t (in_for m n a b y st) c l x os h = repeats_or (repeats t) t (in_for m n a b y st) c _ os h (finish_fits t st (for_loop m n a b y c) l x os h)
  finish_fits t (in_routine n fs st) c l x os h = repeats_or (repeats t) t (in_routine n fs st) c _ os h (defined_fits t st (routine n.at n.letters fs c) l x os h)
  finish_fits t (in_block b free ds cs st) c l x os h = repeats_or (repeats t) t (in_block b free ds cs st) c _ os h
      (sign_or (is_semicolon t) k.Semicolon t (due (in_block b true ds (commands_then cs (also c no_commands)) st)) _ os (is_semicolon_kind t) h
      (sign (closes t) k.SectionClose t (did st (block b ds (commands_then cs (also c no_commands)))) os (closes_kind t) h))
  finish_fits t _ c l x os h = absurd h

-- ---- one symbol

without_fits : (t : Kind) (st : Stack) (l : ℕ) (x : List ℕ) (os : List (List ℕ)) → ForCommand st os → After t (without st l x t) os
without_fits t (in_label m n st) l x os h = finish_fits t st (label m n empty) l x os h
without_fits t (in_guarded gd m e st) l x os h = finish_fits t st (guarded gd m e empty) l x os h
without_fits t (in_default m st) l x os h = finish_fits t st (default m empty) l x os h
without_fits t _ l x os h = stuck t os

named_fits : (t : Kind) (l : ℕ) (x : List ℕ) (f : Mention → State) (os : List (List ℕ)) → ((n : Mention) → Fits (f n) os) → After t (named t l x f) os
named_fits t l x f os h1 = grind arith

names_fits : (t : Kind) (xs : List Mention) (st : Stack) (os : List (List ℕ)) → 0 < length xs → ForDefinition st os → After t (in_names xs st t) os
names_fits t xs st os h1 h2 = grind arith

formals_fits : (t : Kind) (n : Mention) (fs : List Mention) (st : Stack) (os : List (List ℕ)) → ForDefinition st os → After t (in_formals n fs st t) os
formals_fits t n fs st os h1 = grind arith

headed_fits : (t : Kind) (n : Mention) (fs : List Mention) (st : Stack) (os : List (List ℕ)) → ForDefinition st os → After t (headed n fs st t) os
headed_fits t n fs st os h1 = grind arith

item_fits : (t : Kind) (m : ℕ) (s : Sort) (is : Items) (st : Stack) (l : ℕ) (x : List ℕ) (os : List (List ℕ)) → Under (ForDeclaration st) os → After t (take_item m s is st l x t) os
item_fits t m s no_items st l x os h = named_fits t l x (λ n. due (at_sign m s no_items n st)) os (λ n. h)
item_fits t m s (item b y e is) st l x os h = grind (arith, sign_or, due, is_semicolon_kind, either, closes, declared, as_kind, closes_kind, declared_fits, named_fits)

pub more_names : (xs : List Mention) (n : Mention) → 0 < length (xs ++ n ∷ [])
more_names xs n = let h = length-append xs (n ∷ []) in omega arith

due_fits : (t : Kind) (st : Stack) (l : ℕ) (x : List ℕ) (os : List (List ℕ)) → ForSymbol st os → After t (take_due st l x t) os
due_fits t (in_section ds) l x os h = section_fits t ds l os h
due_fits t (in_block b free ds cs st) l x os h = block_fits t b free ds cs st l x os h
due_fits t (in_let m ds st) l x os h = named_fits t l x (λ n. due (at_name n (in_let m ds st))) os (λ n. h)
due_fits t (at_name n st) l x os h = grind (arith, sign_or, due, is_open_kind, either, inside, names_fits, stuck)
due_fits t (at_formals n st) l x os h = sign_or (is_close t) k.Close t (due (at_head n [] st)) _ os (is_close_kind t) h (named_fits t l x (λ f. due (at_formal_end n (f ∷ []) st)) os (λ f. h))
due_fits t (at_formal n fs st) l x os h = named_fits t l x (λ f. due (at_formal_end n (fs ++ f ∷ []) st)) os (λ f. h)
due_fits t (at_formal_end n fs st) l x os h = formals_fits t n fs st os h
due_fits t (at_head n fs st) l x os h = headed_fits t n fs st os h
due_fits t (at_variable xs st) l x os h = named_fits t l x (λ n. due (at_variable_end (xs ++ n ∷ []) st)) os (λ n. (more_names xs n, h))
due_fits t (at_variable_end xs st) l x os h = names_fits t xs st os h.0 h.1
due_fits t (at_starts xs is st) l x os h = sign_or (is_vec t) k.Vec t (want (in_vector l xs is st)) _ os (is_vec_kind t) h (operand_fits t (in_value xs is st) l x os h)
due_fits t (at_opening m s st) l x os h = sign (opens t) k.SectionOpen t (due (at_items m s no_items st)) os (opens_kind t) (λ tag has. (has, h))
due_fits t (at_items m s is st) l x os h = item_fits t m s is st l x os h
due_fits t (at_sign m s is n st) l x os h = sign_or (is_equal t) k.Equal t (want (in_item m s is n st)) _ os (is_equal_kind t) h (sign (is_colon t) k.Colon t (want (in_item m s is n st)) os (is_colon_kind t) h)
due_fits t (at_goto m st) l x os h = named_fits t l x _ os (λ n. h)
due_fits t (at_for m st) l x os h = named_fits t l x (λ n. due (at_forward m n st)) os (λ n. h)
due_fits t (at_forward m n st) l x os h = sign (is_equal t) k.Equal t (want (in_from m n st)) os (is_equal_kind t) h
due_fits t (at_default m st) l x os h = sign (is_colon t) k.Colon t (maybe (in_default m st)) os (is_colon_kind t) (tt, h)
due_fits t _ l x os h = absurd h

pub step_fits : (x : State) (t : Symbol) (os : List (List ℕ)) → Fits x os → After t.kind (step x t) os
step_fits (want st) t os h = operand_fits t.kind st (position_of t) t.text os h
step_fits (have st e) t os h = give_fits t.kind st e (position_of t) t.text os h
step_fits (begin st) t os h = command_fits t.kind st (position_of t) t.text os h
step_fits (maybe st) t os h = either (begins_command t.kind) t.kind _ _ os (λ b. command_fits t.kind st (position_of t) t.text os h.1) (λ b. without_fits t.kind st (position_of t) t.text os h.1)
step_fits (did st c) t os h = finish_fits t.kind st c (position_of t) t.text os h
step_fits (due st) t os h = due_fits t.kind st (position_of t) t.text os h

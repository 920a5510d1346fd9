-- Each way on that is counted from a state of the machine is one of a section.
use Rattle.bk_syntax.proofs.Terms.{◌<◌, ℕ, ◌+◌, ◌-◌, max, min, Bool, true, false, cond, List, [], ◌∷◌, ◌++◌, length, length-append, refl, ap, inl, inr, arith, nat_lt, Label, Call, Mention, Expression, Command, Commands, Declaration, Declarations, Items, Definition, parens, unary, binary, choice, apply, valof, none, more, empty, goto, label, default, test, for_loop, result, block, repeat_while, no_commands, also, constants, definitions, no_declarations, declare, no_items, item, routine, function, no_definitions, define, no_starts, depth, depth_of_command, depth_of_commands, depth_of_declaration, depth_of_declarations, depth_of_items, depth_of_definition, depth_of_definitions, nodes, nodes_of_command, nodes_of_commands, nodes_of_declaration, nodes_of_declarations, nodes_of_items, nodes_of_definition, nodes_of_definitions, inner, following, at_expression, at_command, Stack, in_section, in_block, in_let, at_name, at_formals, at_formal, at_formal_end, at_head, at_variable, at_variable_end, at_starts, at_opening, at_items, at_sign, at_goto, at_for, at_forward, at_default, in_parens, in_unary, in_binary, in_chain, in_then, in_else, in_args, in_table, in_start, in_dests, in_values, in_guard, in_test, in_result, in_while, in_from, in_to, in_by, in_item, in_function, in_value, in_vector, in_valof, in_label, in_guarded, in_default, in_do, in_or, in_for, in_routine, State, want, have, begin, maybe, did, due, push, guarded, give, commands_then, declarations_then, items_then, definitions_then, form_of, Lookahead, closing, assigning, listing, going, repeating, operating, Any, Gives, Does, Operates, Defines, Declares, Wants, Misses, Lists, Due, Completes, pushes, falls, behind_ok, inner_ok, Tagged, ForExpression, ForCommand, ForDefinition, ForDeclaration, ForSymbol, Fits, more_names, unary_done, binary_done, guarded_depth, guarded_nodes, commands_depth, commands_nodes, declarations_depth, declarations_nodes, definitions_depth, definitions_nodes, items_depth, items_nodes, Kind as k}
use Rattle.bk_tree.specs.declared.tree.Operator.TheVariants.{Both}
use Rattle.bk_tree.specs.declared.tree.Sort.{Sort}
use Rattle.bk_syntax.proofs.Following.{run_end}
use Rattle.bk_syntax.proofs.Onward.{Completion, CompletionBy, sized, step_on, step_by, open_on, shut_by, end_completion, same_by, leaves_command, at_close, at_comma, at_assignment, GivesOn, DoesOn, DefinedCompletion, DefinesOn, DeclaredCompletion, given, done, name_here, mention_here, break_here, name_on, break_on}
use Rattle.bk_syntax.proofs.Operands.{gives_as, calls_by, whole_completion, whole_sized, args_completion, choice_completion, table_completion, prefix_tight, operates_by, operand_completion}
use Rattle.bk_syntax.proofs.Attaining.{does_as, does_sized, closed_completion, missing_completion, break_there, value_completion, dests_end, dests_go, start_completion, guard_completion, or_completion, test_completion, to_completion, by_completion, from_completion, starts_completion, start_value, start_vector}

-- ---- what is complete

mutual
  pub give_completion : (P : ℕ → ℕ → Type 0) (os : List (List ℕ)) (st : Stack) (e : Expression) (c : Lookahead) → ForExpression st os → Gives P st (form_of e) (depth e) (nodes e) c → CompletionBy P c os (have st e)
  give_completion P os (in_parens m st) e c f h =
      at_close os (have (in_parens m st) e) c h (λ w. step_by closing k.Close os (have (in_parens m st) e) (have st (parens m e)) (refl, refl, refl, refl) refl refl refl
      (whole_completion os st (parens m e) (λ x y i. give_completion P os st x y f i) w))
  give_completion P os (in_unary m q st) e c f h = gives_as os (in_unary m q st) st e (unary m q e) (λ x y i. give_completion P os st x y f i) (λ l s t j. unary_done m q st e l s t (falls (following q) 12 t (behind_ok q).1 j)) c h
  give_completion P os (in_binary q s a st) e c f h =
      gives_as os (in_binary q s a st) st e (binary (at_expression a) q s a e) (λ x y i. give_completion P os st x y f i) (λ l y t j. binary_done q s a st e l y t (falls (inner q) 12 t (inner_ok q).1 j)) c h
  give_completion P os (in_chain q s a b st) e c f h =
      let whole : Expression = binary (at_expression a) Both s a (binary (at_expression b) q s b e) in
      gives_as os (in_chain q s a b st) st e whole (λ x y i. give_completion P os st x y f i)
      (λ l y t j. ap (λ z. cond z (push (in_chain q s a b st) e t l) (give st whole l y t)) (falls 5 12 t (omega arith) j)) c h
  give_completion P os (in_then s x st) e c f h = at_comma os (have (in_then s x st) e) c h (choice_completion os s x st e (λ y z i. give_completion P os st y z f i))
  give_completion P os (in_else s x a st) e c f h = gives_as os (in_else s x a st) st e (choice (at_expression x) s x a e) (λ y z i. give_completion P os st y z f i) (λ l y t j. rw j refl) c h
  give_completion P os (in_args s x es st) e c f h = args_completion os s x es st e c (λ y z i. give_completion P os st y z f i) h
  give_completion P os (in_table m es st) e c f h = table_completion os m es st e c (λ y z i. give_completion P os st y z f.1 i) h
  give_completion P os (in_start st) e c f h = start_completion os st e c (λ a y i. do_completion P os st a y f i) h
  give_completion P os (in_dests xs st) e c f h = at_assignment os (have (in_dests xs st) e) c h (dests_end os xs st e (λ a y i. do_completion P os st a y f i)) (dests_go os xs st e (λ a y i. do_completion P os st a y f i))
  give_completion P os (in_values xs ys st) e c f h = value_completion os xs ys st e c (λ a y i. do_completion P os st a y f.1 i) f.0 h
  give_completion P os (in_guard gd m st) e c f h = at_close os (have (in_guard gd m st) e) c h (guard_completion os gd m st e (λ a y i. do_completion P os st a y f i))
  give_completion P os (in_test m st) e c f h = at_close os (have (in_test m st) e) c h (test_completion os m st e (λ a y i. do_completion P os st a y f i))
  give_completion P os (in_result m st) e c f h = closed_completion os (have (in_result m st) e) st (result m e) (λ a y i. do_completion P os st a y f i) (λ l s t j. rw j refl) c h
  give_completion P os (in_while b a st) e c f h = closed_completion os (have (in_while b a st) e) st (repeat_while (at_command a) b a e) (λ x y i. do_completion P os st x y f i) (λ l s t j. rw j refl) c h
  give_completion P os (in_from m n st) e c f h = at_close os (have (in_from m n st) e) c h (from_completion os m n st e (λ a y i. do_completion P os st a y f i))
  give_completion P os (in_to m n a st) e c f h = at_close os (have (in_to m n a st) e) c h (to_completion os m n a st e (λ x y i. do_completion P os st x y f i))
  give_completion P os (in_by m n a b st) e c f h = at_close os (have (in_by m n a b st) e) c h (by_completion os m n a b st e (λ x y i. do_completion P os st x y f i))
  give_completion P [] (in_item m s is n st) e c f h = absurd f
  give_completion P (tag ∷ os) (in_item m s is n st) e c f h =
      let js : Items = items_then is (item n.at n.letters e no_items) in
      let p = items_depth is (item n.at n.letters e no_items) in
      let q = items_nodes is (item n.at n.letters e no_items) in
      at_close (tag ∷ os) (have (in_item m s is n st) e) c h (λ w.
      let d = declare_completion P os st (constants m s js) f.1 (sized (Declares P st) (max (depth_of_items is) (depth e + 1)) (depth_of_items js) (nodes_of_items is + (nodes e + 1)) (nodes_of_items js) (omega (arith, p)) (omega (arith, q)) w) in
      shut_by tag os (have (in_item m s is n st) e) d.next f.0 (λ l x. d.takes) d.completion)
  give_completion P os (in_function n fs st) e c f h =
      at_close os (have (in_function n fs st) e) c h (λ w.
      let d = define_completion P os st (function n.at n.letters fs e) f w in
      step_by closing k.Semicolon os (have (in_function n fs st) e) d.next (refl, refl, refl, refl) refl refl d.takes d.completion)
  give_completion P os (in_value ns is st) e c f h = start_value os ns is st e c (λ d i. define_completion P os st d f.1 i) f.0 h
  give_completion P os (in_vector m ns is st) e c f h = start_vector os m ns is st e c (λ d i. define_completion P os st d f.1 i) f.0 h
  give_completion P os _ e c f h = absurd f

  -- behind an operand, where the operator comes that begins no command
  operate_completion : (P : ℕ → ℕ → Type 0) (os : List (List ℕ)) (st : Stack) (e : Expression) → ForExpression st os → GivesOn P os st → Operates P st (Gives P st) (depth e) (nodes e) → CompletionBy P operating os (have st e)
  operate_completion P os (in_unary l q st) e f g h = operates_by os (in_unary l q st) e (prefix_tight q) g h
  operate_completion P os (in_binary q s a st) e f g h =
      operand_completion (nat_lt 1 (inner q)) os q s a st e refl g (λ w. operate_completion P os st (binary (at_expression a) q s a e) f (λ x y i. give_completion P os st x y f i) w) h
  operate_completion P os st e f g h = operates_by os st e refl g h

  pub do_completion : (P : ℕ → ℕ → Type 0) (os : List (List ℕ)) (st : Stack) (a : Command) (c : Lookahead) → ForCommand st os → Does P st (depth_of_command a) (nodes_of_command a) c → CompletionBy P c os (did st a)
  do_completion P os (in_valof m st) a closing f h = same_by closing os (did (in_valof m st) a) (have st (valof m a)) (λ l s t i. let r = leaves_command closing tt t i in rw r refl) (give_completion P os st (valof m a) closing f h)
  do_completion P os (in_valof m st) a assigning f h = same_by assigning os (did (in_valof m st) a) (have st (valof m a)) (λ l s t i. let r = leaves_command assigning tt t i in rw r refl) (give_completion P os st (valof m a) assigning f h)
  do_completion P os (in_valof m st) a listing f h = same_by listing os (did (in_valof m st) a) (have st (valof m a)) (λ l s t i. let r = leaves_command listing tt t i in rw r refl) (give_completion P os st (valof m a) listing f h)
  do_completion P os (in_valof m st) a repeating f h = absurd h
  do_completion P os (in_valof m st) a going f h =
      let e : Expression = valof m a in
      calls_by os (did (in_valof m st) a) st e (pushes st e 1 [] k.Open refl) (λ x y i. give_completion P os st x y f i)
      (sized (λ i j. Any (Gives P st Call i j)) (depth_of_command a + 2) (depth e + 1) (nodes_of_command a + 2) (nodes e + 1) (omega arith) (omega arith) h)
  do_completion P os (in_valof m st) a operating f h =
      same_by operating os (did (in_valof m st) a) (have st (valof m a)) (λ l s t i. let r = leaves_command operating tt t i in rw r refl)
      (operate_completion P os st (valof m a) f (λ x y i. give_completion P os st x y f i) h)
  do_completion P os (in_label m n st) a c f h = does_as os (in_label m n st) st a (label m n a) (λ x y i. do_completion P os st x y f i) (λ l s t r. rw r refl) c h
  do_completion P os (in_guarded gd m e st) a c f h =
      let p = guarded_depth gd m e a in
      let q = guarded_nodes gd m e a in
      does_sized os (in_guarded gd m e st) st a (guarded gd m e a) (max (depth e) (depth_of_command a) + 1) (nodes e + nodes_of_command a + 1) (λ x y i. do_completion P os st x y f i) (λ l s t r. rw r refl) (omega (arith, p)) (omega (arith, q)) c h
  do_completion P os (in_default m st) a c f h = does_as os (in_default m st) st a (default m a) (λ x y i. do_completion P os st x y f i) (λ l s t r. rw r refl) c h
  do_completion P os (in_do m e st) a c f h = at_close os (did (in_do m e st) a) c h (or_completion os m e st a (λ x y i. do_completion P os st x y f i))
  do_completion P os (in_or m e b st) a c f h = does_as os (in_or m e b st) st a (test m e b a) (λ x y i. do_completion P os st x y f i) (λ l s t r. rw r refl) c h
  do_completion P os (in_for m n b d y st) a c f h = does_as os (in_for m n b d y st) st a (for_loop m n b d y a) (λ x z i. do_completion P os st x z f i) (λ l s t r. rw r refl) c h
  do_completion P os (in_routine n fs st) a c f h =
      at_close os (did (in_routine n fs st) a) c h (λ w.
      let d = define_completion P os st (routine n.at n.letters fs a) f w in
      step_by closing k.Semicolon os (did (in_routine n fs st) a) d.next (refl, refl, refl, refl) refl refl d.takes d.completion)
  do_completion P [] (in_block l b ds cs st) a c f h = absurd f
  do_completion P (tag ∷ os) (in_block l b ds cs st) a c f h =
      let zs : Commands = commands_then cs (also a no_commands) in
      let whole : Command = block l ds zs in
      let p = commands_depth cs a in
      let q = commands_nodes cs a in
      at_close (tag ∷ os) (did (in_block l b ds cs st) a) c h (λ w. shut_by tag os (did (in_block l b ds cs st) a) (did st whole) f.0 (λ m x. refl)
      (done os st whole (max (depth_of_declarations ds) (max (depth_of_commands cs) (depth_of_command a)) + 1) (nodes_of_declarations ds + (nodes_of_commands cs + nodes_of_command a) + 1) (λ x y i. do_completion P os st x y f.1 i) (omega (arith, p)) (omega (arith, q)) w))
  do_completion P os _ a c f h = absurd f

  define_completion : (P : ℕ → ℕ → Type 0) (os : List (List ℕ)) (st : Stack) (d : Definition) → ForDefinition st os → Defines P st (depth_of_definition d) (nodes_of_definition d) → DefinedCompletion P os st d
  define_completion P os (in_let m ds st) d f h =
      let zs = definitions_then ds (define d no_definitions) in
      let p = definitions_depth ds d in
      let q = definitions_nodes ds d in
      let r = declare_completion P os st (definitions m zs) f (sized (Declares P st) (max (depth_of_definitions ds) (depth_of_definition d)) (depth_of_definitions zs) (nodes_of_definitions ds + nodes_of_definition d) (nodes_of_definitions zs) (omega (arith, p)) (omega (arith, q)) h) in
      record { next = r.following; takes = r.goes; completion = r.rest }
  define_completion P os _ d f h = absurd f

  declare_completion : (P : ℕ → ℕ → Type 0) (os : List (List ℕ)) (st : Stack) (d : Declaration) → ForDeclaration st os → Declares P st (depth_of_declaration d) (nodes_of_declaration d) → DeclaredCompletion P os st d
  declare_completion P os (in_section ds) d f h =
      let es : Declarations = declarations_then ds (declare d no_declarations) in
      let p = declarations_depth ds d in
      let q = declarations_nodes ds d in
      let end = end_completion os (due (in_section es)) es (run_end (due (in_section es)))
      (sized P (max (depth_of_declarations ds) (depth_of_declaration d)) (depth_of_declarations es) (nodes_of_declarations ds + nodes_of_declaration d) (nodes_of_declarations es) (omega (arith, p)) (omega (arith, q)) h) in
      record { next = due (in_section es); takes = refl; completion = end; following = due (in_section es); goes = refl; rest = end }
  declare_completion P [] (in_block l b ds cs st) d f h = absurd f
  declare_completion P (tag ∷ os) (in_block l b ds cs st) d f h =
      let es : Declarations = declarations_then ds (declare d no_declarations) in
      let p = declarations_depth ds d in
      let q = declarations_nodes ds d in
      let whole : Command = block l es cs in
      let end = done os st whole (max (depth_of_declarations ds) (max (depth_of_commands cs) (depth_of_declaration d)) + 1) (nodes_of_declarations ds + (nodes_of_commands cs + nodes_of_declaration d) + 1)
      (λ x y i. do_completion P os st x y f.1 i) (omega (arith, p)) (omega (arith, q)) h in
      record {
        next = due (in_block l false es cs st);
        takes = refl;
        completion = (shut_by tag os (due (in_block l false es cs st)) (did st whole) f.0 (λ m s. refl) end).completion;
        following = due (in_block l true es cs st);
        goes = refl;
        rest = (shut_by tag os (due (in_block l true es cs st)) (did st whole) f.0 (λ m s. refl) end).completion;
      }
  declare_completion P os _ d f h = absurd f

-- ---- where an operand or a symbol is due

gives_on : (P : ℕ → ℕ → Type 0) (os : List (List ℕ)) (st : Stack) → ForExpression st os → GivesOn P os st
gives_on P os st f e c h = give_completion P os st e c f h

does_on : (P : ℕ → ℕ → Type 0) (os : List (List ℕ)) (st : Stack) → ForCommand st os → DoesOn P os st
does_on P os st f a c h = do_completion P os st a c f h

defines_on : (P : ℕ → ℕ → Type 0) (os : List (List ℕ)) (st : Stack) → ForDefinition st os → DefinesOn P os st
defines_on P os st f d h = define_completion P os st d f h

named_completion : (P : ℕ → ℕ → Type 0) (os : List (List ℕ)) (st : Stack) → ForExpression st os → Any (Gives P st Label 1 1) → Completion P os (want st)
named_completion P os st f h = name_on os st (given os st name_here 1 1 (gives_on P os st f) refl refl h)

operand_due : (P : ℕ → ℕ → Type 0) (os : List (List ℕ)) (st : Stack) → ForExpression st os → Wants P st → Completion P os (want st)
operand_due P os (in_args s x none st) f h =
    let whole : Expression = apply (at_expression x) s x none in
    step_on k.Close os (want (in_args s x none st)) (have st whole) refl refl refl (whole_sized os st whole (depth x + 1) (nodes x + 1) (gives_on P os st f) (omega arith) (omega arith) h)
operand_due P os (in_args s x (more y ys) st) f h = named_completion P os (in_args s x (more y ys) st) f h
operand_due P os st f h = named_completion P os st f h

headed_completion : (P : ℕ → ℕ → Type 0) (os : List (List ℕ)) (n : Mention) (fs : List Mention) (st : Stack) → ForDefinition st os → Defines P st 2 2 → Completion P os (due (at_head n fs st))
headed_completion P os n fs st f h = step_on k.Be os (due (at_head n fs st)) (begin (in_routine n fs st)) refl refl refl (break_on os (in_routine n fs st) (do_completion P os (in_routine n fs st) break_here closing f h).completion)

formal_completion : (P : ℕ → ℕ → Type 0) (os : List (List ℕ)) (n : Mention) (fs : List Mention) (st : Stack) → ForDefinition st os → Defines P st 2 2 → Completion P os (due (at_formal_end n fs st))
formal_completion P os n fs st f h = step_on k.Close os (due (at_formal_end n fs st)) (due (at_head n fs st)) refl refl refl (headed_completion P os n fs st f h)

formals_completion : (P : ℕ → ℕ → Type 0) (os : List (List ℕ)) (n : Mention) (st : Stack) → ForDefinition st os → Defines P st 2 2 → Completion P os (due (at_formals n st))
formals_completion P os n st f h = step_on k.Close os (due (at_formals n st)) (due (at_head n [] st)) refl refl refl (headed_completion P os n [] st f h)

defined_name : (P : ℕ → ℕ → Type 0) (os : List (List ℕ)) (n : Mention) (st : Stack) → ForDefinition st os → Defines P st 2 2 → Completion P os (due (at_name n st))
defined_name P os n st f h = step_on k.Open os (due (at_name n st)) (due (at_formals n st)) refl refl refl (formals_completion P os n st f h)

variables_completion : (P : ℕ → ℕ → Type 0) (os : List (List ℕ)) (xs : List Mention) (st : Stack) → 0 < length xs → ForDefinition st os → Defines P st 2 (length xs + 1) → Completion P os (due (at_variable_end xs st))
variables_completion P os xs st some f h =
    let n : ℕ = length xs - 1 in
    step_on k.Equal os (due (at_variable_end xs st)) (due (at_starts xs no_starts st)) refl refl refl
    (step_on k.Name os (due (at_starts xs no_starts st)) (have (in_value xs no_starts st) name_here) refl refl refl
    (starts_completion n os xs no_starts st name_here (defines_on P os st f) (omega (arith, some))
    (sized (Defines P st) 2 (max 0 (max 1 (min 1 n)) + 1) (length xs + 1) (0 + 1 + n + 1) (omega arith) (omega (arith, some)) h)))

sign_completion : (P : ℕ → ℕ → Type 0) (tag : List ℕ) (os : List (List ℕ)) (m : ℕ) (s : Sort) (is : Items) (n : Mention) (st : Stack) → Tagged tag → ForDeclaration st os → Declares P st (max 2 (depth_of_items is)) (nodes_of_items is + 2)
    → Completion P (tag ∷ os) (due (at_sign m s is n st))
sign_completion P tag os m s is n st has f h =
    step_on k.Equal (tag ∷ os) (due (at_sign m s is n st)) (want (in_item m s is n st)) refl refl refl
    (name_on (tag ∷ os) (in_item m s is n st) (give_completion P (tag ∷ os) (in_item m s is n st) name_here closing (has, f)
    (sized (Declares P st) (max 2 (depth_of_items is)) (max (depth_of_items is) (1 + 1)) (nodes_of_items is + 2) (nodes_of_items is + (1 + 1)) (omega arith) (omega arith) h)).completion)

items_completion : (P : ℕ → ℕ → Type 0) (tag : List ℕ) (os : List (List ℕ)) (m : ℕ) (s : Sort) (is : Items) (st : Stack) → Tagged tag → ForDeclaration st os → Lists P st is → Completion P (tag ∷ os) (due (at_items m s is st))
items_completion P tag os m s no_items st has f h =
    step_on k.Name (tag ∷ os) (due (at_items m s no_items st)) (due (at_sign m s no_items mention_here st)) refl refl refl
    (sign_completion P tag os m s no_items mention_here st has f (sized (Declares P st) 2 (max 2 0) 2 (0 + 2) (omega arith) (omega arith) h))
items_completion P tag os m s (item l x e is) st has f h =
    let d = declare_completion P os st (constants m s (item l x e is)) f h in
    (shut_by tag os (due (at_items m s (item l x e is) st)) d.next has (λ i y. d.takes) d.completion).completion

forward_completion : (P : ℕ → ℕ → Type 0) (os : List (List ℕ)) (m : ℕ) (n : Mention) (st : Stack) → ForCommand st os → Any (Does P st 2 4) → Completion P os (due (at_forward m n st))
forward_completion P os m n st f h = step_on k.Equal os (due (at_forward m n st)) (want (in_from m n st)) refl refl refl (name_on os (in_from m n st) (from_completion os m n st name_here (does_on P os st f) h).completion)

block_completion : (P : ℕ → ℕ → Type 0) (tag : List ℕ) (os : List (List ℕ)) (l : ℕ) (b : Bool) (ds : Declarations) (cs : Commands) (st : Stack) → Tagged tag → ForCommand st os → Declares P (in_block l b ds cs st) 0 0 → Completion P (tag ∷ os) (due (in_block l b ds cs st))
block_completion P tag os l b ds cs st has f h =
    let whole : Command = block l ds cs in
    (shut_by tag os (due (in_block l b ds cs st)) (did st whole) has (λ m s. refl)
    (done os st whole (max (depth_of_declarations ds) (max (depth_of_commands cs) 0) + 1) (nodes_of_declarations ds + (nodes_of_commands cs + 0) + 1) (does_on P os st f) (omega arith) (omega arith) h)).completion

default_completion : (P : ℕ → ℕ → Type 0) (os : List (List ℕ)) (m : ℕ) (st : Stack) → ForCommand st os → Due P (at_default m st) → Completion P os (maybe (in_default m st))
default_completion P os m st f (inl h) = missing_completion os (in_default m st) st (default m empty) 1 1 (does_on P os st f) (λ l s t b. rw b refl) refl refl h
default_completion P os m st f (inr h) = break_there os (in_default m st) st (default m break_here) 2 2 (does_on P os st f) (λ l s t r. rw r refl) refl refl h

symbol_due : (P : ℕ → ℕ → Type 0) (os : List (List ℕ)) (st : Stack) → ForSymbol st os → Due P st → Completion P os (due st)
symbol_due P os (in_section ds) f h =
    end_completion os (due (in_section ds)) ds (run_end (due (in_section ds))) (sized P (max (depth_of_declarations ds) 0) (depth_of_declarations ds) (nodes_of_declarations ds + 0) (nodes_of_declarations ds) (omega arith) (omega arith) h)
symbol_due P [] (in_block l b ds cs st) f h = absurd f
symbol_due P (tag ∷ os) (in_block l b ds cs st) f h = block_completion P tag os l b ds cs st f.0 f.1 h
symbol_due P os (in_let m ds st) f h = step_on k.Name os (due (in_let m ds st)) (due (at_name mention_here (in_let m ds st))) refl refl refl (defined_name P os mention_here (in_let m ds st) f h)
symbol_due P os (at_name n st) f h = defined_name P os n st f h
symbol_due P os (at_formals n st) f h = formals_completion P os n st f h
symbol_due P os (at_formal n fs st) f h =
    step_on k.Name os (due (at_formal n fs st)) (due (at_formal_end n (fs ++ mention_here ∷ []) st)) refl refl refl (formal_completion P os n (fs ++ mention_here ∷ []) st f h)
symbol_due P os (at_formal_end n fs st) f h = formal_completion P os n fs st f h
symbol_due P os (at_head n fs st) f h = headed_completion P os n fs st f h
symbol_due P os (at_variable xs st) f h =
    let ys : List Mention = xs ++ mention_here ∷ [] in
    let many = length-append xs (mention_here ∷ []) in
    step_on k.Name os (due (at_variable xs st)) (due (at_variable_end ys st)) refl refl refl
    (variables_completion P os ys st (more_names xs mention_here) f (sized (Defines P st) 2 2 (length xs + 2) (length ys + 1) refl (omega (arith, many)) h))
symbol_due P os (at_variable_end xs st) f h = variables_completion P os xs st f.0 f.1 h
symbol_due P os (at_starts ns is st) f h =
    step_on k.Name os (due (at_starts ns is st)) (have (in_value ns is st) name_here) refl refl refl (given os (in_value ns is st) name_here 1 1 (gives_on P os (in_value ns is st) f) refl refl h)
symbol_due P os (at_opening m s st) f h = open_on os (due (at_opening m s st)) (due (at_items m s no_items st)) refl (items_completion P [] os m s no_items st ([], refl) f h)
symbol_due P [] (at_items m s is st) f h = absurd f
symbol_due P (tag ∷ os) (at_items m s is st) f h = items_completion P tag os m s is st f.0 f.1 h
symbol_due P [] (at_sign m s is n st) f h = absurd f
symbol_due P (tag ∷ os) (at_sign m s is n st) f h = sign_completion P tag os m s is n st f.0 f.1 h
symbol_due P os (at_goto m st) f h = step_on k.Name os (due (at_goto m st)) (did st (goto m mention_here)) refl refl refl (done os st (goto m mention_here) 1 1 (does_on P os st f) refl refl h)
symbol_due P os (at_for m st) f h = step_on k.Name os (due (at_for m st)) (due (at_forward m mention_here st)) refl refl refl (forward_completion P os m mention_here st f h)
symbol_due P os (at_forward m n st) f h = forward_completion P os m n st f h
symbol_due P os (at_default m st) f h = step_on k.Colon os (due (at_default m st)) (maybe (in_default m st)) refl refl refl (default_completion P os m st f h)
symbol_due P os _ f h = absurd f

-- ---- any state

none_comes : (P : ℕ → ℕ → Type 0) (os : List (List ℕ)) (st : Stack) → ForCommand st os → Misses P st → Completion P os (maybe st)
none_comes P os (in_label m n st) f h = missing_completion os (in_label m n st) st (label m n empty) 1 1 (does_on P os st f) (λ l s t b. rw b refl) refl refl h
none_comes P os (in_guarded gd m e st) f h =
    let p = guarded_depth gd m e empty in
    let q = guarded_nodes gd m e empty in
    missing_completion os (in_guarded gd m e st) st (guarded gd m e empty) (depth e + 1) (nodes e + 1) (does_on P os st f) (λ l s t b. rw b refl) (omega (arith, p)) (omega (arith, q)) h
none_comes P os (in_default m st) f h = missing_completion os (in_default m st) st (default m empty) 1 1 (does_on P os st f) (λ l s t b. rw b refl) refl refl h
none_comes P os _ f h = absurd h

pub state_completion : (P : ℕ → ℕ → Type 0) (os : List (List ℕ)) (x : State) → Fits x os → Completes P x → Completion P os x
state_completion P os (want st) f h = operand_due P os st f h
state_completion P os (have st e) f h = whole_completion os st e (gives_on P os st f) h
state_completion P os (begin st) f h = break_on os st (done os st break_here 1 1 (does_on P os st f) refl refl h)
state_completion P os (maybe st) f (inl h) = none_comes P os st f.1 h
state_completion P os (maybe st) f (inr h) = step_on k.Break os (maybe st) (did st break_here) refl refl refl (done os st break_here 1 1 (does_on P os st f.1) refl refl h)
state_completion P os (did st a) f h = (do_completion P os st a h.0 f h.1).completion
state_completion P os (due st) f h = symbol_due P os st f h

-- How each part of the meaning spends turns, if the nodes inside do so.
use Rattle.bk_meaning.proofs.Terms.{ℕ, ◌+◌, ◌≤◌, Bool, true, false, not, List, [], ◌∷◌, length, Option, Some, None, arith, Operator, Operator as o, Prefix, Prefix as q, Simple, Simple as k, Mention, Expression, Expressions, Command, Commands, Declaration, Declarations, Definition, Definitions, Starts, divides_by_zero, Routine, stop, rdch, wrch, newline, writes, writen, writed, getbyte, putbyte, writef, Value, number, address, procedure, routine, unset, holds, read, World, status, Exit, break, loop, endcase, goto, result, return, Outcome, gives, leaves, ends, undefined, going, with, Done, done, either, turn, making, calling, sum, truth_of_value, on_numbers, operate, operate_prefix, Environment, Sense, constant, cell, label, foreign, sense_of, bind, following, past, past_each, past_command, past_definition, constant_in, labelled, within_let, objects_of_definitions, Body, command, expression, Procedure, Program, procedure_of, library, writes_text, takes_byte, the_label, the_case, the_default, Mode, forwards, seeking, at_place, has_place, one_has_place, Target, at, byte_at, acts_at, Meanings, Start, Cause}
use Rattle.bk_tree.specs.Tree as t
use Rattle.bk_meaning.specs.Parts
use Rattle.bk_meaning.specs.Scopes
use Rattle.bk_meaning.specs.Calls
use Rattle.bk_meaning.specs.Expressions
use Rattle.bk_meaning.specs.Loops
use Rattle.bk_meaning.specs.Blocks
use Rattle.bk_meaning.specs.Commands as commands
use Rattle.bk_meaning.proofs.Spending.{Spent, Kept, Spends, spends, SpendsOut, spent_more, kept, each_way_spent, with_spent, then_spends, either_spends, gives_spent, undefined_spent, ends_spent, given_spent, either_spent, turn_spent, closing_spent, changes_spent}

-- where a turn fewer than d are left at most
pub record Under {A : Type 0} (d : ℕ) (go : World → Outcome A) : Type 0 where
  pub at : (w : World) → w.turns + 1 ≤ d → Spent w.turns (go w)

-- the parts of the meaning
pub record AllSpend (d : ℕ) (m : Meanings) : Type 0 where
  pub value : (e : Expression) (env : Environment) → Spends d (m.value e env)
  pub truth : (e : Expression) (env : Environment) → Spends d (m.truth e env)
  pub target : (e : Expression) (env : Environment) → Spends d (m.target e env)
  pub act : (c : Command) (mode : Mode) (env : Environment) → Spends d (m.act c mode env)
  pub rounds : (c : Command) (mode : Mode) (env : Environment) → Under d (m.rounds c mode env)
  pub for_rounds : (place : ℕ) (c : Command) (object : ℕ) (limit : Value) (step : ℕ) (env : Environment) → Under d (m.for_rounds place c object limit step env)
  pub scope : (cs : Commands) (mode : Mode) (env : Environment) → Under d (m.scope cs mode env)

module _ (d : ℕ) (m : Meanings) (g : AllSpend d m) where
  pub fetch_spends : (place : ℕ) (a : Value) → Spends d (Parts.fetch place a)
  fetch_spends place a = spends _ _ (λ w le. given_spent _ _ (read w.memory a) w)

  pub done_spends : Spends d done
  done_spends = spends _ _ (λ w le. gives_spent tt w)

  pub named_spends : (place : ℕ) (s : Option Sense) → Spends d (Parts.named place s)
  named_spends place (Some (constant x)) = spends _ _ (λ w le. gives_spent (number x) w)
  named_spends place (Some (cell a i)) = fetch_spends place (address a i)
  named_spends place _ = spends _ _ (λ w le. undefined_spent _ w)

  pub address_named_spends : (place : ℕ) (s : Option Sense) → Spends d (Parts.address_named place s)
  address_named_spends place (Some (cell a i)) = spends _ _ (λ w le. gives_spent (at (address a i)) w)
  address_named_spends place _ = spends _ _ (λ w le. undefined_spent _ w)

  -- operators
  pub on_numbers_spends : (place : ℕ) (q : Operator) (x y : Value) → Spends d (on_numbers place q x y)
  on_numbers_spends place q (number x) (number y) =
      either_spends (divides_by_zero q (Some x) (Some y)) (spends _ _ (λ w le. ends_spent _ w)) (spends _ _ (λ w le. given_spent _ _ _ w))
  on_numbers_spends place q (number x) _ = spends _ _ (λ w le. undefined_spent _ w)
  on_numbers_spends place q _ y = spends _ _ (λ w le. undefined_spent _ w)

  pub operate_spends : (place : ℕ) (q : Operator) (x y : Value) → Spends d (operate place q x y)
  operate_spends place o.Add x y = spends _ _ (λ w le. given_spent _ _ _ w)
  operate_spends place o.Subtract x y = spends _ _ (λ w le. given_spent _ _ _ w)
  operate_spends place o.Equal x y = spends _ _ (λ w le. given_spent _ _ _ w)
  operate_spends place o.Unequal x y = spends _ _ (λ w le. given_spent _ _ _ w)
  operate_spends place o.Less x y = spends _ _ (λ w le. given_spent _ _ _ w)
  operate_spends place o.Greater x y = spends _ _ (λ w le. given_spent _ _ _ w)
  operate_spends place o.AtMost x y = spends _ _ (λ w le. given_spent _ _ _ w)
  operate_spends place o.AtLeast x y = spends _ _ (λ w le. given_spent _ _ _ w)
  operate_spends place q x y = on_numbers_spends place q x y

  pub combined_spends : (place : ℕ) (q : Operator) (x y : Value) → Spends d (Expressions.combined place q x y)
  combined_spends place o.Subscript x y = then_spends (spends _ _ (λ w le. given_spent _ _ (sum w.memory x y) w)) (fetch_spends place)
  combined_spends place o.Byte x y = spends _ _ (λ w le. given_spent _ _ _ w)
  combined_spends place q x y = operate_spends place q x y

  pub operate_prefix_spends : (place : ℕ) (q : Prefix) (x : Value) → Spends d (operate_prefix place q x)
  operate_prefix_spends place q (number x) = spends _ _ (λ w le. given_spent _ _ _ w)
  operate_prefix_spends place q _ = spends _ _ (λ w le. undefined_spent _ w)

  pub judged_spends : (place : ℕ) (v : Value) → Spends d (Expressions.judged place v)
  judged_spends place v = spends _ _ (λ w le. given_spent _ _ (truth_of_value w.memory v) w)

  -- the library
  pub writes_text_spent : (place : ℕ) (why : Cause) (text : Option (List ℕ)) (w : World) → Spent w.turns (writes_text place why text w)
  writes_text_spent place why None w = undefined_spent place w
  writes_text_spent place why (Some text) w = record { is = omega arith }

  pub takes_byte_spent : (bytes : List ℕ) (w : World) → Spent w.turns (takes_byte bytes w)
  takes_byte_spent [] w = gives_spent _ w
  takes_byte_spent (b ∷ rest) w = record { is = omega arith }

  pub library_spends : (place : ℕ) (r : Routine) (vs : List Value) → Spends d (library place r vs)
  library_spends place stop (number x ∷ vs) = spends _ _ (λ w le. ends_spent (status x) w)
  library_spends place rdch vs = spends _ _ (λ w le. takes_byte_spent w.input w)
  library_spends place wrch (number x ∷ vs) = spends _ _ (λ w le. record { is = omega arith })
  library_spends place newline vs = spends _ _ (λ w le. record { is = omega arith })
  library_spends place writes (s ∷ vs) = spends _ _ (λ w le. writes_text_spent place _ _ w)
  library_spends place writen (number x ∷ vs) = spends _ _ (λ w le. record { is = omega arith })
  library_spends place writed (number x ∷ number y ∷ vs) = spends _ _ (λ w le. record { is = omega arith })
  library_spends place getbyte (s ∷ i ∷ vs) = spends _ _ (λ w le. given_spent _ _ _ w)
  library_spends place putbyte (s ∷ i ∷ b ∷ vs) = spends _ _ (λ w le. with_spent w d _ _ le (changes_spent _ _ _ w) (λ _. spends _ _ (λ w le. gives_spent unset w)))
  library_spends place writef (f ∷ vs) = spends _ _ (λ w le. writes_text_spent place _ _ w)
  library_spends place _ _ = spends _ _ (λ w le. undefined_spent _ w)

  pub values_spends : (es : Expressions) (env : Environment) → Spends d (Calls.values m es env)
  values_spends t.none env = spends _ _ (λ w le. gives_spent [] w)
  values_spends (t.more e es) env = spends _ _ (λ w le.
      with_spent w d _ _ le ((g.value e env).at w le) (λ v. spends _ _ (λ w le.
      with_spent w d _ _ le ((values_spends es (past e env)).at w le) (λ vs. spends _ _ (λ w le. gives_spent _ w)))))

  pub in_order_spends : (cs : Commands) (mode : Mode) (env : Environment) → Spends d (Scopes.in_order m cs mode env)
  in_order_spends t.no_commands mode env = done_spends
  in_order_spends (t.also c cs) forwards env = then_spends (g.act c forwards env) (λ _. in_order_spends cs forwards (past_command c env))
  in_order_spends (t.also c cs) (seeking s) env =
      either_spends (has_place s env c) (then_spends (g.act c (seeking s) env) (λ _. in_order_spends cs forwards (past_command c env)))
      (in_order_spends cs (seeking s) (past_command c env))

  pub landing_out : (cs : Commands) (env : Environment) (go : List ℕ → World → Outcome Done) → ((x : List ℕ) → Under d (go x)) → SpendsOut d (Scopes.landing cs env go)
  landing_out cs env go h = record { at = by }
    where
      chosen : (b : Bool) (x : List ℕ) (v : World) (n : ℕ) → v.turns + 1 ≤ n → n ≤ d → Spent n (either b (go x) (λ w. leaves (goto x) w) v)
      chosen true x v n lt le = spent_more v.turns n (go x v) (omega (arith, lt)) ((h x).at v (omega (arith, lt, le)))
      chosen false x v n lt le = record { is = lt }

      by : (x : Exit) (v : World) (n : ℕ) → v.turns + 1 ≤ n → n ≤ d → Spent n (Scopes.landing cs env go x v)
      by (goto x) v n lt le = chosen (one_has_place (the_label x) env cs) x v n lt le
      by _ v n lt le = record { is = lt }

  pub scope_spends : (cs : Commands) (mode : Mode) (env : Environment) → Spends d (Scopes.scope_of m cs mode env)
  scope_spends cs mode env = spends _ _ (λ w le.
      each_way_spent w d _ _ _ le ((in_order_spends cs mode (labelled cs env)).at w le) (λ _. done_spends)
      (landing_out cs env _ (λ x. g.scope cs (seeking (the_label x)) env)))

  pub result_out : SpendsOut d Expressions.result_exit
  result_out = record { at = by }
    where
      by : (x : Exit) (v : World) (n : ℕ) → v.turns + 1 ≤ n → n ≤ d → Spent n (Expressions.result_exit x v)
      by (result r) v n lt le = record { is = omega (arith, lt) }
      by x v n lt le = record { is = lt }

  pub return_out : SpendsOut d Calls.return_exit
  return_out = record { at = by }
    where
      by : (x : Exit) (v : World) (n : ℕ) → v.turns + 1 ≤ n → n ≤ d → Spent n (Calls.return_exit x v)
      by return v n lt le = record { is = omega (arith, lt) }
      by x v n lt le = record { is = lt }

  pub undefined_out : {why : Cause} (place : ℕ) → SpendsOut {A = Value} d (λ x w. undefined place why w)
  undefined_out place = record { at = λ x v n lt le. record { is = tt } }

  pub unset_spends : Done → Spends {A = Value} d (λ w. gives unset w)
  unset_spends _ = spends _ _ (λ w le. gives_spent unset w)

  pub body_spends : (b : Body) (env : Environment) → Spends d (Calls.run_body m b env)
  body_spends (command c) env = spends _ _ (λ w le. each_way_spent w d _ _ _ le ((scope_spends (Scopes.alone c) forwards env).at w le) unset_spends return_out)
  body_spends (expression e) env = g.value e env

  pub enter_spends : (place : ℕ) (f : Option Procedure) (vs : List Value) → Spends d (Calls.enter m place f vs)
  enter_spends place None vs = spends _ _ (λ w le. undefined_spent _ w)
  enter_spends place (Some f) vs = spends _ _ (λ w le.
      closing_spent w (length w.memory) _
      (((body_spends f.body (Calls.bind_formals (length w.memory) 0 f.formals f.env)).at (making (Calls.formal_cells f.formals vs) w) le)))

  pub called_spends : (place : ℕ) (p : Program) (f : Value) (vs : List Value) → Spends d (Calls.called p m place f vs)
  called_spends place p (procedure i) vs = enter_spends place (procedure_of p i) vs
  called_spends place p (routine r) vs = library_spends place r vs
  called_spends place p _ vs = spends _ _ (λ w le. undefined_spent _ w)

  pub call_spends : (place : ℕ) (p : Program) (f : Value) (vs : List Value) → Spends d (Calls.call p m place f vs)
  call_spends place p f vs = spends _ _ (λ w le.
      each_way_spent w d _ _ _ le ((called_spends place p f vs).at (calling w) le) (λ v. spends _ _ (λ x le. record { is = omega arith })) (undefined_out place))

  pub applied_spends : (place : ℕ) (p : Program) (f : Expression) (es : Expressions) (env : Environment) → Spends d (Calls.applied p m place f es env)
  applied_spends place p f es env = then_spends (values_spends es (past f env)) (λ vs. then_spends (g.value f env) (λ v. call_spends place p v vs))

  pub address_in_spends : (place : ℕ) (a : Target) → Spends d (Expressions.address_in place a)
  address_in_spends place (at a) = spends _ _ (λ w le. gives_spent a w)
  address_in_spends place (byte_at a i) = spends _ _ (λ w le. undefined_spent _ w)

  pub value_of_spends : (p : Program) (e : Expression) (env : Environment) → Spends d (Expressions.value_of p m e env)
  value_of_spends p (t.name i x) env = named_spends i (sense_of x env)
  value_of_spends p (t.number i x) env = spends _ _ (λ w le. gives_spent (number x) w)
  value_of_spends p (t.query i) env = spends _ _ (λ w le. gives_spent unset w)
  value_of_spends p (t.parens i e) env = g.value e env
  value_of_spends p (t.unary i q.Contents e) env = then_spends (g.value e env) (fetch_spends i)
  value_of_spends p (t.unary i q.Address e) env = then_spends (g.target e env) (address_in_spends i)
  value_of_spends p (t.unary i q e) env = then_spends (g.value e env) (operate_prefix_spends i q)
  value_of_spends p (t.binary i q j a b) env = then_spends (g.value a env) (λ x. then_spends (g.value b (past a env)) (λ y. combined_spends j q x y))
  value_of_spends p (t.choice i j c a b) env = then_spends (g.truth c env) (λ x. either_spends x (g.value a (past c env)) (g.value b (past a (past c env))))
  value_of_spends p (t.apply i j f es) env = applied_spends j p f es env
  value_of_spends p (t.valof i c) env = spends _ _ (λ w le. each_way_spent w d _ _ _ le ((scope_spends (Scopes.alone c) forwards env).at w le) unset_spends result_out)
  value_of_spends p _ env = spends _ _ (λ w le. gives_spent _ w)

  pub truth_of_spends : (p : Program) (e : Expression) (env : Environment) → Spends d (Expressions.truth_of p m e env)
  truth_of_spends p (t.parens i e) env = g.truth e env
  truth_of_spends p (t.unary i q.Not e) env = then_spends (g.truth e env) (λ b. spends _ _ (λ w le. gives_spent (not b) w))
  truth_of_spends p (t.binary i o.Both j a b) env = spends _ _ (λ w le.
      with_spent w d _ _ le ((g.truth a env).at w le) (λ x. spends _ _ (λ w le.
      either_spent x d _ _ (g.truth b (past a env)) (spends _ _ (λ w le. gives_spent false w)) w le)))
  truth_of_spends p (t.binary i o.Either j a b) env =
      then_spends (g.truth a env) (λ x. either_spends x (spends _ _ (λ w le. gives_spent true w)) (g.truth b (past a env)))
  truth_of_spends p e env = then_spends (value_of_spends p e env) (judged_spends (acts_at e))

  pub target_of_spends : (e : Expression) (env : Environment) → Spends d (Expressions.target_of m e env)
  target_of_spends (t.name i x) env = address_named_spends i (sense_of x env)
  target_of_spends (t.parens i e) env = g.target e env
  target_of_spends (t.unary i q.Contents e) env = then_spends (g.value e env) (λ a. spends _ _ (λ w le. gives_spent (at a) w))
  target_of_spends (t.binary i o.Subscript j a b) env =
      then_spends (g.value a env) (λ x. then_spends (g.value b (past a env)) (λ y.
      then_spends (spends _ _ (λ w le. given_spent _ _ (sum w.memory x y) w)) (λ a. spends _ _ (λ w le. gives_spent (at a) w))))
  target_of_spends (t.binary i o.Byte j a b) env =
      then_spends (g.value a env) (λ x. then_spends (g.value b (past a env)) (λ y. spends _ _ (λ w le. gives_spent (byte_at x y) w)))
  target_of_spends e env = spends _ _ (λ w le. undefined_spent _ w)

  pub store_spends : (place : ℕ) (a : Target) (v : Value) → Spends d (Parts.store place a v)
  store_spends place (at a) v = spends _ _ (λ w le. changes_spent _ _ _ w)
  store_spends place (byte_at a i) v = spends _ _ (λ w le. changes_spent _ _ _ w)

  pub assigned_spends : (xs : Expressions) (there : Environment) (es : Expressions) (env : Environment) → Spends d (commands.assigned m xs there es env)
  assigned_spends (t.more x xs) there (t.more e es) env = spends _ _ (λ w le.
      with_spent w d _ _ le ((g.value e env).at w le) (λ v. spends _ _ (λ w le.
      with_spent w d _ _ le ((g.target x there).at w le) (λ a. spends _ _ (λ w le.
      with_spent w d _ _ le ((store_spends (acts_at x) a v).at w le) (λ _. assigned_spends xs (past x there) es (past e env)))))))
  assigned_spends _ there _ env = done_spends

  pub round_out : (go : World → Outcome Done) → Spends d go → SpendsOut d (Loops.round_exit go)
  round_out go h = record { at = by }
    where
      by : (x : Exit) (v : World) (n : ℕ) → v.turns + 1 ≤ n → n ≤ d → Spent n (Loops.round_exit go x v)
      by loop v n lt le = spent_more v.turns n (go v) (omega (arith, lt)) (h.at v (omega (arith, lt, le)))
      by break v n lt le = record { is = omega (arith, lt) }
      by x v n lt le = record { is = lt }

  pub again_spent : (w : World) (u : Outcome Done) (go : World → Outcome Done) → w.turns ≤ d → Spent w.turns u → Spends d go → Spent w.turns (Loops.again u go)
  again_spent w u go le t h = each_way_spent w d u _ _ le t (λ _. h) (round_out go h)

  pub where_truth_spends : (b : Bool) (e : Expression) (env : Environment) (go : World → Outcome Done) → Spends d go → Spends d (Loops.where_truth m b e env go)
  where_truth_spends b e env go h = then_spends (g.truth e env) (λ x. either_spends (Loops.same_truth b x) h done_spends)

  pub turn_spends : (l : ℕ) (go : World → Outcome Done) → Under d go → Spends d (λ w. turn l w go)
  turn_spends l go h = spends _ _ (λ w le. turn_spent _ d go (λ w lt. kept _ _ (h.at w lt)) w le)

  in_turn : {A : Type 0} (l : ℕ) {go : World → Outcome A} → Spends d go → Spends d (λ w. turn l w go)
  in_turn l h = spends _ _ (λ w le. turn_spent _ d _ (λ w lt. kept _ _ (h.at w (omega (arith, lt)))) w le)

  pub rounds_of_spends : (c : Command) (mode : Mode) (env : Environment) → Spends d (Loops.rounds_of m c mode env)
  rounds_of_spends (t.while i b e c) mode env = spends _ _ (λ w le.
      again_spent w _ _ le ((g.act c mode (past e env)).at w le) (where_truth_spends b e env _ (turn_spends _ _ (g.rounds (t.while i b e c) forwards env))))
  rounds_of_spends (t.repeat i c) mode env = spends _ _ (λ w le.
      again_spent w _ _ le ((g.act c mode env).at w le) (turn_spends _ _ (g.rounds (t.repeat i c) forwards env)))
  rounds_of_spends (t.repeat_while i b c e) mode env = spends _ _ (λ w le.
      again_spent w _ _ le ((g.act c mode env).at w le) (where_truth_spends b e (past_command c env) _ (turn_spends _ _ (g.rounds (t.repeat_while i b c e) forwards env))))
  rounds_of_spends c mode env = done_spends

  pub for_test_spends : (place : ℕ) (object : ℕ) (limit : Value) (step : ℕ) (go : World → Outcome Done) → Spends d go → Spends d (Loops.for_test place object limit step go)
  for_test_spends place object limit step go h =
      then_spends (fetch_spends place (address object 0)) (λ v. then_spends (operate_spends place (Loops.relation step) v limit) (λ v. then_spends (judged_spends place v) (λ b.
      either_spends b h done_spends)))

  pub for_step_spends : (place : ℕ) (object : ℕ) (step : ℕ) → Spends d (Loops.for_step place object step)
  for_step_spends place object step =
      then_spends (fetch_spends place (address object 0)) (λ v. then_spends (operate_spends place o.Add v (number step)) (λ v. store_spends place (at (address object 0)) v))

  pub for_rounds_of_spends : (place : ℕ) (c : Command) (object : ℕ) (limit : Value) (step : ℕ) (env : Environment) → Spends d (Loops.for_rounds_of m place c object limit step env)
  for_rounds_of_spends place c object limit step env = spends _ _ (λ w le.
      again_spent w _ _ le ((scope_spends (Scopes.alone c) forwards env).at w le) (spends _ _ (λ w le.
      with_spent w d _ _ le ((for_step_spends place object step).at w le) (λ _. for_test_spends place object limit step _ (turn_spends _ _ (g.for_rounds place c object limit step env))))))

  pub for_loop_spends : (x : Mention) (c : Command) (start limit : Value) (step : ℕ) (env : Environment) → Spends d (Loops.for_loop m x c start limit step env)
  for_loop_spends x c start limit step env = spends _ _ (λ w le.
      closing_spent w (length w.memory) _ (
      ((for_test_spends x.at (length w.memory) limit step _ (for_rounds_of_spends x.at c (length w.memory) limit step (bind x.letters (cell (length w.memory) 0) env))).at (making (holds start ∷ []) w) le)))

  pub case_out : SpendsOut d commands.case_exit
  case_out = record { at = by }
    where
      by : (x : Exit) (v : World) (n : ℕ) → v.turns + 1 ≤ n → n ≤ d → Spent n (commands.case_exit x v)
      by endcase v n lt le = record { is = omega (arith, lt) }
      by x v n lt le = record { is = lt }

  pub ended_case_spends : (c : Command) (mode : Mode) (env : Environment) → Spends d (λ w. commands.ended_case (m.act c mode env w))
  ended_case_spends c mode env = spends _ _ (λ w le. each_way_spent w d _ _ _ le ((g.act c mode env).at w le) (λ _. done_spends) case_out)

  pub choose_case_spends : (place : ℕ) (v : Value) (c : Command) (env : Environment) → Spends d (commands.choose_case m place v c env)
  choose_case_spends place (number i) c env =
      either_spends (has_place (the_case (Some i)) env c) (ended_case_spends c (seeking (the_case (Some i))) env)
      (either_spends (has_place the_default env c) (ended_case_spends c (seeking the_default) env) done_spends)
  choose_case_spends place v c env = spends _ _ (λ w le. undefined_spent _ w)

  pub make_vec_spends : (place : ℕ) (k : Option ℕ) → Spends d (Blocks.make_vec place k)
  make_vec_spends place None = spends _ _ (λ w le. undefined_spent _ w)
  make_vec_spends place (Some k) = spends _ _ (λ w le. record { is = omega arith })

  pub starts_spends : (is : Starts) (env : Environment) → Spends d (Blocks.starts m is env)
  starts_spends t.no_starts env = spends _ _ (λ w le. gives_spent [] w)
  starts_spends (t.value e is) env = then_spends (g.value e env) (λ v. then_spends (starts_spends is (past e env)) (λ vs. spends _ _ (λ w le. gives_spent _ w)))
  starts_spends (t.vector i e is) env = then_spends (in_turn _ (make_vec_spends (acts_at e) (constant_in env e))) (λ v.
      then_spends (starts_spends is env) (λ vs. spends _ _ (λ w le. gives_spent _ w)))

  pub let_values_spends : (ds : Definitions) (env : Environment) → Spends d (Blocks.let_values m ds env)
  let_values_spends t.no_definitions env = spends _ _ (λ w le. gives_spent [] w)
  let_values_spends (t.define (t.variables i xs is) ds) env =
      then_spends (in_turn _ (starts_spends is env)) (λ vs.
      then_spends (let_values_spends ds (past_definition (t.variables i xs is) env)) (λ more. spends _ _ (λ w le. gives_spent _ w)))
  let_values_spends (t.define x ds) env = let_values_spends ds (past_definition x env)

  pub bind_variables_spends : (ss : List Start) (env : Environment) → Spends d (Blocks.bind_variables ss env)
  bind_variables_spends [] env = spends _ _ (λ w le. gives_spent env w)
  bind_variables_spends (s ∷ ss) env = spends _ _ (λ w le.
      ((bind_variables_spends ss (bind s.name (cell (length w.memory) 0) env)).at (making (holds s.value ∷ []) w) le))

  pub declare_spends : (x : Declaration) (env : Environment) → Spends d (Blocks.declare m x env)
  declare_spends (t.constants i s is) env = spends _ _ (λ w le. gives_spent _ w)
  declare_spends (t.definitions i ds) env =
      then_spends (let_values_spends ds (within_let ds env)) (λ ss. bind_variables_spends ss (following (objects_of_definitions ds) (within_let ds env)))

  pub declare_all_spends : (ds : Declarations) (env : Environment) → Spends d (Blocks.declare_all m ds env)
  declare_all_spends t.no_declarations env = spends _ _ (λ w le. gives_spent env w)
  declare_all_spends (t.declare x ds) env = then_spends (declare_spends x env) (λ env. declare_all_spends ds env)

  pub simple_exit_kept : (s : Simple) (w : World) → Kept w.turns (commands.simple_exit s w)
  simple_exit_kept k.Finish w = record { is = omega arith }
  simple_exit_kept s w = record { is = omega arith }

  pub result_kept : (w : World) (u : Outcome Value) → Spent w.turns u → Kept {A = Done} w.turns (with u (λ v w. leaves (result v) w))
  result_kept w (leaves y x) h = let i : x.turns + 1 ≤ w.turns = h.is in record { is = omega (arith, i) }
  result_kept w (undefined l why v) h = record { is = tt }
  result_kept w _ h = record { is = h.is }

  pub act_of_kept : (p : Program) (c : Command) (mode : Mode) (env : Environment) (w : World) → w.turns ≤ d → Kept w.turns (commands.act_of p m c mode env w)
  act_of_kept p t.empty mode env w le = kept _ _ ((done_spends).at w le)
  act_of_kept p (t.assign i xs es) mode env w le = kept _ _ ((assigned_spends xs env es (past_each xs env)).at w le)
  act_of_kept p (t.call i f es) mode env w le = kept _ _ ((then_spends (applied_spends i p f es env) (λ _. done_spends)).at w le)
  act_of_kept p (t.goto i x) mode env w le = record { is = omega arith }
  act_of_kept p (t.label i x c) mode env w le = kept _ _ ((g.act c (at_place (the_label x) mode) env).at w le)
  act_of_kept p (t.case_of i e c) mode env w le = kept _ _ ((g.act c (at_place (the_case (constant_in env e)) mode) env).at w le)
  act_of_kept p (t.default i c) mode env w le = kept _ _ ((g.act c (at_place the_default mode) env).at w le)
  act_of_kept p (t.when i b e c) forwards env w le = kept _ _ ((where_truth_spends b e env _ (g.act c forwards (past e env))).at w le)
  act_of_kept p (t.when i b e c) (seeking s) env w le = kept _ _ ((g.act c (seeking s) (past e env)).at w le)
  act_of_kept p (t.test i e a b) forwards env w le =
      kept _ _ ((then_spends (g.truth e env) (λ x. either_spends x (g.act a forwards (past e env)) (g.act b forwards (past_command a (past e env))))).at w le)
  act_of_kept p (t.test i e a b) (seeking s) env w le =
      kept _ _ ((either_spends (has_place s env a) (g.act a (seeking s) (past e env)) (g.act b (seeking s) (past_command a (past e env)))).at w le)
  act_of_kept p (t.while i b e c) forwards env w le = kept _ _ ((where_truth_spends b e env _ (rounds_of_spends (t.while i b e c) forwards env)).at w le)
  act_of_kept p (t.while i b e c) (seeking s) env w le = kept _ _ ((rounds_of_spends (t.while i b e c) (seeking s) env).at w le)
  act_of_kept p (t.for_loop i x a b h c) mode env w le =
      kept _ _ ((then_spends (g.value a env) (λ u. then_spends (g.value b (past a env)) (λ v. then_spends (spends _ _ (λ w le. given_spent _ _ (Loops.step_of env h) w))
      (λ i. for_loop_spends x c u v i (past b (past a env)))))).at w le)
  act_of_kept p (t.switch i e c) forwards env w le = kept _ _ ((then_spends (g.value e env) (λ v. choose_case_spends (acts_at e) v c (past e env))).at w le)
  act_of_kept p (t.switch i e c) (seeking s) env w le = kept _ _ ((ended_case_spends c (seeking s) (past e env)).at w le)
  act_of_kept p (t.result i e) mode env w le = result_kept w _ ((g.value e env).at w le)
  act_of_kept p (t.simple i s) mode env w le = simple_exit_kept s w
  act_of_kept p (t.block i t.no_declarations cs) mode env w le = kept _ _ ((in_order_spends cs mode env).at w le)
  act_of_kept p (t.block i (t.declare x ds) cs) mode env w le = kept _ _ ((spends _ _ (λ w le.
      closing_spent w (length w.memory) _ (with_spent w d _ _ le ((declare_all_spends (t.declare x ds) env).at w le) (λ env. scope_spends cs forwards env)))).at w le)
  act_of_kept p (t.repeat i c) mode env w le = kept _ _ ((rounds_of_spends (t.repeat i c) mode env).at w le)
  act_of_kept p (t.repeat_while i b c e) mode env w le = kept _ _ ((rounds_of_spends (t.repeat_while i b c e) mode env).at w le)

-- Every part of the meaning with fewer turns and with more, if the nodes inside are so.
use Rattle.bk_meaning.proofs.Terms.{◌≡◌, ℕ, ◌≤◌, Bool, true, false, not, List, [], ◌∷◌, length, Option, Some, None, refl, Operator, Operator as o, Prefix, Prefix as q, Simple, Simple as k, Mention, Expression, Expressions, Command, Commands, Declaration, Declarations, Definition, Definitions, Starts, divides_by_zero, Routine, stop, rdch, wrch, newline, writes, writen, writed, getbyte, putbyte, writef, Value, number, address, procedure, routine, unset, holds, Memory, read, World, given, status, Exit, break, loop, endcase, goto, result, return, Outcome, gives, Done, done, turn, making, making_vec, calling, writing, sum, truth_of_value, on_numbers, operate, operate_prefix, Environment, Sense, constant, cell, label, foreign, sense_of, bind, following, past, past_each, past_command, past_definition, constant_in, labelled, within_let, objects_of_definitions, Body, command, expression, Procedure, Program, procedure_of, library, writes_text, takes_byte, the_label, the_case, the_default, Mode, forwards, seeking, at_place, has_place, one_has_place, Target, at, byte_at, acts_at, Meanings, Start, with_turns, Cause, sum_cause, no_constant}
use Rattle.bk_tree.specs.Tree as t
use Rattle.bk_meaning.specs.Parts
use Rattle.bk_meaning.specs.Scopes
use Rattle.bk_meaning.specs.Calls
use Rattle.bk_meaning.specs.Expressions
use Rattle.bk_meaning.specs.Loops
use Rattle.bk_meaning.specs.Blocks
use Rattle.bk_meaning.specs.Commands as commands
use Rattle.bk_meaning.proofs.Ties.{gives_more, Tied, Ties, ties, each_way_tied, with_tied, then_ties, either_ties, gives_tied, leaves_tied, ends_tied, undefined_tied, given_tied, either_tied, turn_tied, closing_tied, changes_tied, making_tied, vec_tied, call_tied, at_home}
use Rattle.bk_meaning.proofs.After.{writing_on, taking_on}
use Rattle.bk_meaning.proofs.Objects.{write_keeps, write_byte_keeps}

-- the parts of the meaning, with fewer turns and with more
pub record AllTied (m l : Meanings) : Type 0 where
  pub value : (e : Expression) (env : Environment) → Ties (m.value e env) (l.value e env)
  pub truth : (e : Expression) (env : Environment) → Ties (m.truth e env) (l.truth e env)
  pub target : (e : Expression) (env : Environment) → Ties (m.target e env) (l.target e env)
  pub act : (c : Command) (mode : Mode) (env : Environment) → Ties (m.act c mode env) (l.act c mode env)
  pub rounds : (c : Command) (mode : Mode) (env : Environment) → Ties (m.rounds c mode env) (l.rounds c mode env)
  pub for_rounds : (place : ℕ) (c : Command) (object : ℕ) (limit : Value) (step : ℕ) (env : Environment) → Ties (m.for_rounds place c object limit step env) (l.for_rounds place c object limit step env)
  pub scope : (cs : Commands) (mode : Mode) (env : Environment) → Ties (m.scope cs mode env) (l.scope cs mode env)

reads_ties : {A : Type 0} (place : ℕ) (why : Memory → Cause) (x : Memory → Option A) → Ties (λ w. given place (why w.memory) (x w.memory) w) (λ w. given place (why w.memory) (x w.memory) w)
reads_ties place why x = ties _ _ (λ w n le. given_tied _ _ (x w.memory) w n le)

pub fetch_ties : (place : ℕ) (a : Value) → Ties (Parts.fetch place a) (Parts.fetch place a)
fetch_ties place a = ties _ _ (λ w n le. given_tied _ _ (read w.memory a) w n le)

pub done_ties : Ties done done
done_ties = ties _ _ (λ w n le. gives_tied tt w n le)

pub named_ties : (place : ℕ) (s : Option Sense) → Ties (Parts.named place s) (Parts.named place s)
named_ties place (Some (constant x)) = ties _ _ (λ w n le. gives_tied (number x) w n le)
named_ties place (Some (cell a i)) = fetch_ties place (address a i)
named_ties place _ = ties _ _ (λ w n le. undefined_tied _ w n le)

pub address_named_ties : (place : ℕ) (s : Option Sense) → Ties (Parts.address_named place s) (Parts.address_named place s)
address_named_ties place (Some (cell a i)) = ties _ _ (λ w n le. gives_tied (at (address a i)) w n le)
address_named_ties place _ = ties _ _ (λ w n le. undefined_tied _ w n le)

-- operators
pub on_numbers_ties : (place : ℕ) (q : Operator) (x y : Value) → Ties (on_numbers place q x y) (on_numbers place q x y)
on_numbers_ties place q (number x) (number y) =
    either_ties (divides_by_zero q (Some x) (Some y)) (ties _ _ (λ w n le. ends_tied _ w n le)) (ties _ _ (λ w n le. given_tied _ _ _ w n le))
on_numbers_ties place q (number x) _ = ties _ _ (λ w n le. undefined_tied _ w n le)
on_numbers_ties place q _ y = ties _ _ (λ w n le. undefined_tied _ w n le)

pub operate_ties : (place : ℕ) (q : Operator) (x y : Value) → Ties (operate place q x y) (operate place q x y)
operate_ties place o.Add x y = ties _ _ (λ w n le. given_tied _ _ _ w n le)
operate_ties place o.Subtract x y = ties _ _ (λ w n le. given_tied _ _ _ w n le)
operate_ties place o.Equal x y = ties _ _ (λ w n le. given_tied _ _ _ w n le)
operate_ties place o.Unequal x y = ties _ _ (λ w n le. given_tied _ _ _ w n le)
operate_ties place o.Less x y = ties _ _ (λ w n le. given_tied _ _ _ w n le)
operate_ties place o.Greater x y = ties _ _ (λ w n le. given_tied _ _ _ w n le)
operate_ties place o.AtMost x y = ties _ _ (λ w n le. given_tied _ _ _ w n le)
operate_ties place o.AtLeast x y = ties _ _ (λ w n le. given_tied _ _ _ w n le)
operate_ties place q x y = on_numbers_ties place q x y

pub combined_ties : (place : ℕ) (q : Operator) (x y : Value) → Ties (Expressions.combined place q x y) (Expressions.combined place q x y)
combined_ties place o.Subscript x y = then_ties (reads_ties place (λ m. sum_cause x y) (λ m. sum m x y)) (fetch_ties place)
combined_ties place o.Byte x y = ties _ _ (λ w n le. given_tied _ _ _ w n le)
combined_ties place q x y = operate_ties place q x y

pub operate_prefix_ties : (place : ℕ) (q : Prefix) (x : Value) → Ties (operate_prefix place q x) (operate_prefix place q x)
operate_prefix_ties place q (number x) = ties _ _ (λ w n le. given_tied _ _ _ w n le)
operate_prefix_ties place q _ = ties _ _ (λ w n le. undefined_tied _ w n le)

pub judged_ties : (place : ℕ) (v : Value) → Ties (Expressions.judged place v) (Expressions.judged place v)
judged_ties place v = ties _ _ (λ w n le. given_tied _ _ (truth_of_value w.memory v) w n le)

-- the library
pub writes_text_tied : (place : ℕ) (why : Cause) (text : Option (List ℕ)) (w : World) (n : ℕ) → w.turns ≤ n → Tied w (writes_text place why text w) (writes_text place why text (with_turns n w))
writes_text_tied place why None w n le = undefined_tied place w n le
writes_text_tied place why (Some text) w n le = record { below = gives_more unset (writing text w) n le; on = writing_on text w; kept = at_home w }

pub writing_tied : (bytes : List ℕ) (w : World) (n : ℕ) → w.turns ≤ n → Tied {A = Value} w (gives unset (writing bytes w)) (gives unset (writing bytes (with_turns n w)))
writing_tied bytes w n le = record { below = gives_more unset (writing bytes w) n le; on = writing_on bytes w; kept = at_home w }

pub takes_byte_tied : (bytes : List ℕ) (w : World) (n : ℕ) → w.input ≡ bytes → w.turns ≤ n → Tied w (takes_byte bytes w) (takes_byte bytes (with_turns n w))
takes_byte_tied [] w n is le = gives_tied _ w n le
takes_byte_tied (b ∷ rest) w n is le = record {
  below = gives_more (number b) (record w { input = rest }) n le;
  on = taking_on (b ∷ []) rest w is;
  kept = at_home w;
}

pub library_ties : (place : ℕ) (r : Routine) (vs : List Value) → Ties (library place r vs) (library place r vs)
library_ties place stop (number x ∷ vs) = ties _ _ (λ w n le. ends_tied (status x) w n le)
library_ties place rdch vs = ties _ _ (λ w n le. takes_byte_tied w.input w n refl le)
library_ties place wrch (number x ∷ vs) = ties _ _ (λ w n le. writing_tied _ w n le)
library_ties place newline vs = ties _ _ (λ w n le. writing_tied _ w n le)
library_ties place writes (s ∷ vs) = ties _ _ (λ w n le. writes_text_tied place _ _ w n le)
library_ties place writen (number x ∷ vs) = ties _ _ (λ w n le. writing_tied _ w n le)
library_ties place writed (number x ∷ number y ∷ vs) = ties _ _ (λ w n le. writing_tied _ w n le)
library_ties place getbyte (s ∷ i ∷ vs) = ties _ _ (λ w n le. given_tied _ _ _ w n le)
library_ties place putbyte (s ∷ i ∷ b ∷ vs) = ties _ _ (λ w n le. with_tied w _ _ _ _ (changes_tied _ _ _ w n le (write_byte_keeps w.memory s i b)) (λ _. ties _ _ (λ w n le. gives_tied unset w n le)))
library_ties place writef (s ∷ vs) = ties _ _ (λ w n le. writes_text_tied place _ _ w n le)
library_ties place _ _ = ties _ _ (λ w n le. undefined_tied _ w n le)

module _ (m l : Meanings) (g : AllTied m l) where
  pub values_ties : (es : Expressions) (env : Environment) → Ties (Calls.values m es env) (Calls.values l es env)
  values_ties t.none env = ties _ _ (λ w n le. gives_tied [] w n le)
  values_ties (t.more e es) env = ties _ _ (λ w n le.
      with_tied w _ _ _ _ ((g.value e env).at w n le) (λ v. ties _ _ (λ w n le.
      with_tied w _ _ _ _ ((values_ties es (past e env)).at w n le) (λ vs. ties _ _ (λ w n le. gives_tied _ w n le)))))

  pub in_order_ties : (cs : Commands) (mode : Mode) (env : Environment) → Ties (Scopes.in_order m cs mode env) (Scopes.in_order l cs mode env)
  in_order_ties t.no_commands mode env = done_ties
  in_order_ties (t.also c cs) forwards env = then_ties (g.act c forwards env) (λ _. in_order_ties cs forwards (past_command c env))
  in_order_ties (t.also c cs) (seeking s) env =
      either_ties (has_place s env c) (then_ties (g.act c (seeking s) env) (λ _. in_order_ties cs forwards (past_command c env)))
      (in_order_ties cs (seeking s) (past_command c env))

  pub landing_ties : (cs : Commands) (env : Environment) (go to : List ℕ → World → Outcome Done) → ((x : List ℕ) → Ties (go x) (to x)) → (x : Exit) → Ties (Scopes.landing cs env go x) (Scopes.landing cs env to x)
  landing_ties cs env go to h (goto x) = either_ties (one_has_place (the_label x) env cs) (h x) (ties _ _ (λ w n le. leaves_tied (goto x) w n le))
  landing_ties cs env go to h x = ties _ _ (λ w n le. leaves_tied x w n le)

  pub scope_ties : (cs : Commands) (mode : Mode) (env : Environment) → Ties (Scopes.scope_of m cs mode env) (Scopes.scope_of l cs mode env)
  scope_ties cs mode env = ties _ _ (λ w n le.
      each_way_tied w _ _ _ _ _ _ ((in_order_ties cs mode (labelled cs env)).at w n le) (λ _. done_ties)
      (landing_ties cs env _ _ (λ x. g.scope cs (seeking (the_label x)) env)))

  pub result_ties : (x : Exit) → Ties (Expressions.result_exit x) (Expressions.result_exit x)
  result_ties (result v) = ties _ _ (λ w n le. gives_tied v w n le)
  result_ties x = ties _ _ (λ w n le. leaves_tied x w n le)

  pub return_ties : (x : Exit) → Ties (Calls.return_exit x) (Calls.return_exit x)
  return_ties return = ties _ _ (λ w n le. gives_tied unset w n le)
  return_ties x = ties _ _ (λ w n le. leaves_tied x w n le)

  pub unset_ties : Done → Ties (λ w. gives unset w) (λ w. gives unset w)
  unset_ties _ = ties _ _ (λ w n le. gives_tied unset w n le)

  pub body_ties : (b : Body) (env : Environment) → Ties (Calls.run_body m b env) (Calls.run_body l b env)
  body_ties (command c) env = ties _ _ (λ w n le. each_way_tied w _ _ _ _ _ _ ((scope_ties (Scopes.alone c) forwards env).at w n le) unset_ties return_ties)
  body_ties (expression e) env = g.value e env

  pub enter_ties : (place : ℕ) (f : Option Procedure) (vs : List Value) → Ties (Calls.enter m place f vs) (Calls.enter l place f vs)
  enter_ties place None vs = ties _ _ (λ w n le. undefined_tied _ w n le)
  enter_ties place (Some f) vs = ties _ _ (λ w n le.
      closing_tied w _ _ (making_tied (Calls.formal_cells f.formals vs) w _ _ ((body_ties f.body (Calls.bind_formals (length w.memory) 0 f.formals f.env)).at (making (Calls.formal_cells f.formals vs) w) n le)))

  pub called_ties : (place : ℕ) (p : Program) (f : Value) (vs : List Value) → Ties (Calls.called p m place f vs) (Calls.called p l place f vs)
  called_ties place p (procedure i) vs = enter_ties place (procedure_of p i) vs
  called_ties place p (routine r) vs = library_ties place r vs
  called_ties place p _ vs = ties _ _ (λ w n le. undefined_tied _ w n le)

  pub call_ties : (place : ℕ) (p : Program) (f : Value) (vs : List Value) → Ties (Calls.call p m place f vs) (Calls.call p l place f vs)
  call_ties place p f vs = ties _ _ (λ w n le. call_tied place w _ _ ((called_ties place p f vs).at (calling w) n le))

  pub applied_ties : (place : ℕ) (p : Program) (f : Expression) (es : Expressions) (env : Environment) → Ties (Calls.applied p m place f es env) (Calls.applied p l place f es env)
  applied_ties place p f es env = then_ties (values_ties es (past f env)) (λ vs. then_ties (g.value f env) (λ v. call_ties place p v vs))

  pub address_in_ties : (place : ℕ) (a : Target) → Ties (Expressions.address_in place a) (Expressions.address_in place a)
  address_in_ties place (at a) = ties _ _ (λ w n le. gives_tied a w n le)
  address_in_ties place (byte_at a i) = ties _ _ (λ w n le. undefined_tied _ w n le)

  pub value_of_ties : (p : Program) (e : Expression) (env : Environment) → Ties (Expressions.value_of p m e env) (Expressions.value_of p l e env)
  value_of_ties p (t.name i x) env = named_ties i (sense_of x env)
  value_of_ties p (t.number i x) env = ties _ _ (λ w n le. gives_tied (number x) w n le)
  value_of_ties p (t.query i) env = ties _ _ (λ w n le. gives_tied unset w n le)
  value_of_ties p (t.parens i e) env = g.value e env
  value_of_ties p (t.unary i q.Contents e) env = then_ties (g.value e env) (fetch_ties i)
  value_of_ties p (t.unary i q.Address e) env = then_ties (g.target e env) (address_in_ties i)
  value_of_ties p (t.unary i q e) env = then_ties (g.value e env) (operate_prefix_ties i q)
  value_of_ties p (t.binary i q j a b) env = then_ties (g.value a env) (λ x. then_ties (g.value b (past a env)) (λ y. combined_ties j q x y))
  value_of_ties p (t.choice i j c a b) env = then_ties (g.truth c env) (λ x. either_ties x (g.value a (past c env)) (g.value b (past a (past c env))))
  value_of_ties p (t.apply i j f es) env = applied_ties j p f es env
  value_of_ties p (t.valof i c) env = ties _ _ (λ w n le. each_way_tied w _ _ _ _ _ _ ((scope_ties (Scopes.alone c) forwards env).at w n le) unset_ties result_ties)
  value_of_ties p _ env = ties _ _ (λ w n le. gives_tied _ w n le)

  pub truth_of_ties : (p : Program) (e : Expression) (env : Environment) → Ties (Expressions.truth_of p m e env) (Expressions.truth_of p l e env)
  truth_of_ties p (t.parens i e) env = g.truth e env
  truth_of_ties p (t.unary i q.Not e) env = then_ties (g.truth e env) (λ b. ties _ _ (λ w n le. gives_tied (not b) w n le))
  truth_of_ties p (t.binary i o.Both j a b) env = ties _ _ (λ w n le.
      with_tied w _ _ _ _ ((g.truth a env).at w n le) (λ x. ties _ _ (λ w n le.
      either_tied x _ _ _ _ (g.truth b (past a env)) (ties _ _ (λ w n le. gives_tied false w n le)) w n le)))
  truth_of_ties p (t.binary i o.Either j a b) env =
      then_ties (g.truth a env) (λ x. either_ties x (ties _ _ (λ w n le. gives_tied true w n le)) (g.truth b (past a env)))
  truth_of_ties p e env = ties _ _ (λ w n le. with_tied w (Expressions.value_of p m e env w) (Expressions.value_of p l e env (with_turns n w)) (Expressions.judged (acts_at e)) (Expressions.judged (acts_at e)) ((value_of_ties p e env).at w n le) (judged_ties (acts_at e)))

  pub target_of_ties : (e : Expression) (env : Environment) → Ties (Expressions.target_of m e env) (Expressions.target_of l e env)
  target_of_ties (t.name i x) env = address_named_ties i (sense_of x env)
  target_of_ties (t.parens i e) env = g.target e env
  target_of_ties (t.unary i q.Contents e) env = then_ties (g.value e env) (λ a. ties _ _ (λ w n le. gives_tied (at a) w n le))
  target_of_ties (t.binary i o.Subscript j a b) env =
      then_ties (g.value a env) (λ x. then_ties (g.value b (past a env)) (λ y.
      then_ties (reads_ties j (λ m. sum_cause x y) (λ m. sum m x y)) (λ a. ties _ _ (λ w n le. gives_tied (at a) w n le))))
  target_of_ties (t.binary i o.Byte j a b) env =
      then_ties (g.value a env) (λ x. then_ties (g.value b (past a env)) (λ y. ties _ _ (λ w n le. gives_tied (byte_at x y) w n le)))
  target_of_ties e env = ties _ _ (λ w n le. undefined_tied _ w n le)

  pub store_ties : (place : ℕ) (a : Target) (v : Value) → Ties (Parts.store place a v) (Parts.store place a v)
  store_ties place (at a) v = ties _ _ (λ w n le. changes_tied _ _ _ w n le (write_keeps w.memory a v))
  store_ties place (byte_at a i) v = ties _ _ (λ w n le. changes_tied _ _ _ w n le (write_byte_keeps w.memory a i v))

  pub assigned_ties : (xs : Expressions) (there : Environment) (es : Expressions) (env : Environment) → Ties (commands.assigned m xs there es env) (commands.assigned l xs there es env)
  assigned_ties (t.more x xs) there (t.more e es) env = ties _ _ (λ w n le.
      with_tied w _ _ _ _ ((g.value e env).at w n le) (λ v. ties _ _ (λ w n le.
      with_tied w _ _ _ _ ((g.target x there).at w n le) (λ a. ties _ _ (λ w n le.
      with_tied w _ _ _ _ ((store_ties (acts_at x) a v).at w n le) (λ _. assigned_ties xs (past x there) es (past e env)))))))
  assigned_ties _ there _ env = done_ties

  pub round_exit_ties : (go to : World → Outcome Done) → Ties go to → (x : Exit) → Ties (Loops.round_exit go x) (Loops.round_exit to x)
  round_exit_ties go to h loop = h
  round_exit_ties go to h break = done_ties
  round_exit_ties go to h x = ties _ _ (λ w n le. leaves_tied x w n le)

  pub again_tied : (w : World) (u v : Outcome Done) (go to : World → Outcome Done) → Tied w u v → Ties go to → Tied w (Loops.again u go) (Loops.again v to)
  again_tied w u v go to t h = each_way_tied w u v _ _ _ _ t (λ _. h) (round_exit_ties go to h)

  pub where_truth_ties : (b : Bool) (e : Expression) (env : Environment) (go to : World → Outcome Done) → Ties go to → Ties (Loops.where_truth m b e env go) (Loops.where_truth l b e env to)
  where_truth_ties b e env go to h = then_ties (g.truth e env) (λ x. either_ties (Loops.same_truth b x) h done_ties)

  pub turn_ties : (l : ℕ) (go to : World → Outcome Done) → Ties go to → Ties (λ w. turn l w go) (λ w. turn l w to)
  turn_ties l go to h = ties _ _ (λ w n le. turn_tied _ go to h w n le)

  pub rounds_of_ties : (c : Command) (mode : Mode) (env : Environment) → Ties (Loops.rounds_of m c mode env) (Loops.rounds_of l c mode env)
  rounds_of_ties (t.while i b e c) mode env = ties _ _ (λ w n le.
      again_tied w _ _ _ _ ((g.act c mode (past e env)).at w n le) (where_truth_ties b e env _ _ (turn_ties _ _ _ (g.rounds (t.while i b e c) forwards env))))
  rounds_of_ties (t.repeat i c) mode env = ties _ _ (λ w n le.
      again_tied w _ _ _ _ ((g.act c mode env).at w n le) (turn_ties _ _ _ (g.rounds (t.repeat i c) forwards env)))
  rounds_of_ties (t.repeat_while i b c e) mode env = ties _ _ (λ w n le.
      again_tied w _ _ _ _ ((g.act c mode env).at w n le) (where_truth_ties b e (past_command c env) _ _ (turn_ties _ _ _ (g.rounds (t.repeat_while i b c e) forwards env))))
  rounds_of_ties c mode env = done_ties

  pub for_test_ties : (place : ℕ) (object : ℕ) (limit : Value) (step : ℕ) (go to : World → Outcome Done) → Ties go to → Ties (Loops.for_test place object limit step go) (Loops.for_test place object limit step to)
  for_test_ties place object limit step go to h =
      then_ties (fetch_ties place (address object 0)) (λ v. then_ties (operate_ties place (Loops.relation step) v limit) (λ v. then_ties (judged_ties place v) (λ b.
      either_ties b h done_ties)))

  pub for_step_ties : (place : ℕ) (object : ℕ) (step : ℕ) → Ties (Loops.for_step place object step) (Loops.for_step place object step)
  for_step_ties place object step =
      then_ties (fetch_ties place (address object 0)) (λ v. then_ties (operate_ties place o.Add v (number step)) (λ v. store_ties place (at (address object 0)) v))

  pub for_rounds_of_ties : (place : ℕ) (c : Command) (object : ℕ) (limit : Value) (step : ℕ) (env : Environment) → Ties (Loops.for_rounds_of m place c object limit step env) (Loops.for_rounds_of l place c object limit step env)
  for_rounds_of_ties place c object limit step env = ties _ _ (λ w n le.
      again_tied w _ _ _ _ ((scope_ties (Scopes.alone c) forwards env).at w n le) (ties _ _ (λ w n le.
      with_tied w _ _ _ _ ((for_step_ties place object step).at w n le) (λ _. for_test_ties place object limit step _ _ (turn_ties _ _ _ (g.for_rounds place c object limit step env))))))

  pub for_loop_ties : (x : Mention) (c : Command) (start limit : Value) (step : ℕ) (env : Environment) → Ties (Loops.for_loop m x c start limit step env) (Loops.for_loop l x c start limit step env)
  for_loop_ties x c start limit step env = ties _ _ (λ w n le.
      closing_tied w _ _ (making_tied (holds start ∷ []) w _ _
      ((for_test_ties x.at (length w.memory) limit step _ _ (for_rounds_of_ties x.at c (length w.memory) limit step (bind x.letters (cell (length w.memory) 0) env))).at (making (holds start ∷ []) w) n le)))

  pub case_exit_ties : (x : Exit) → Ties (commands.case_exit x) (commands.case_exit x)
  case_exit_ties endcase = done_ties
  case_exit_ties x = ties _ _ (λ w n le. leaves_tied x w n le)

  pub ended_case_ties : (c : Command) (mode : Mode) (env : Environment) → Ties (λ w. commands.ended_case (m.act c mode env w)) (λ w. commands.ended_case (l.act c mode env w))
  ended_case_ties c mode env = ties _ _ (λ w n le. each_way_tied w _ _ _ _ _ _ ((g.act c mode env).at w n le) (λ _. done_ties) case_exit_ties)

  pub choose_case_ties : (place : ℕ) (v : Value) (c : Command) (env : Environment) → Ties (commands.choose_case m place v c env) (commands.choose_case l place v c env)
  choose_case_ties place (number i) c env =
      either_ties (has_place (the_case (Some i)) env c) (ended_case_ties c (seeking (the_case (Some i))) env)
      (either_ties (has_place the_default env c) (ended_case_ties c (seeking the_default) env) done_ties)
  choose_case_ties place v c env = ties _ _ (λ w n le. undefined_tied _ w n le)

  pub make_vec_ties : (place : ℕ) (k : Option ℕ) → Ties (Blocks.make_vec place k) (Blocks.make_vec place k)
  make_vec_ties place None = ties _ _ (λ w n le. undefined_tied _ w n le)
  make_vec_ties place (Some k) = ties _ _ (λ w i le. vec_tied (Blocks.vec_cells k) w _ _ (gives_tied _ (making_vec (Blocks.vec_cells k) w) i le))

  pub starts_ties : (is : Starts) (env : Environment) → Ties (Blocks.starts m is env) (Blocks.starts l is env)
  starts_ties t.no_starts env = ties _ _ (λ w n le. gives_tied [] w n le)
  starts_ties (t.value e is) env = then_ties (g.value e env) (λ v. then_ties (starts_ties is (past e env)) (λ vs. ties _ _ (λ w n le. gives_tied _ w n le)))
  starts_ties (t.vector i e is) env =
      then_ties (ties _ _ (λ w n le. turn_tied _ _ _ (make_vec_ties (acts_at e) (constant_in env e)) w n le)) (λ v.
      then_ties (starts_ties is env) (λ vs. ties _ _ (λ w n le. gives_tied _ w n le)))

  pub let_values_ties : (ds : Definitions) (env : Environment) → Ties (Blocks.let_values m ds env) (Blocks.let_values l ds env)
  let_values_ties t.no_definitions env = ties _ _ (λ w n le. gives_tied [] w n le)
  let_values_ties (t.define (t.variables i xs is) ds) env = ties _ _ (λ w n le.
      with_tied w _ _ _ _ (turn_tied _ _ _ (starts_ties is env) w n le) (λ vs. ties _ _ (λ w n le.
      with_tied w _ _ _ _ ((let_values_ties ds (past_definition (t.variables i xs is) env)).at w n le) (λ more. ties _ _ (λ w n le. gives_tied _ w n le)))))
  let_values_ties (t.define x ds) env = let_values_ties ds (past_definition x env)

  pub bind_variables_ties : (ss : List Start) (env : Environment) → Ties (Blocks.bind_variables ss env) (Blocks.bind_variables ss env)
  bind_variables_ties [] env = ties _ _ (λ w n le. gives_tied env w n le)
  bind_variables_ties (s ∷ ss) env = ties _ _ (λ w n le.
      making_tied (holds s.value ∷ []) w _ _ ((bind_variables_ties ss (bind s.name (cell (length w.memory) 0) env)).at (making (holds s.value ∷ []) w) n le))

  pub declare_ties : (x : Declaration) (env : Environment) → Ties (Blocks.declare m x env) (Blocks.declare l x env)
  declare_ties (t.constants i s is) env = ties _ _ (λ w n le. gives_tied _ w n le)
  declare_ties (t.definitions i ds) env =
      then_ties (let_values_ties ds (within_let ds env)) (λ ss. bind_variables_ties ss (following (objects_of_definitions ds) (within_let ds env)))

  pub declare_all_ties : (ds : Declarations) (env : Environment) → Ties (Blocks.declare_all m ds env) (Blocks.declare_all l ds env)
  declare_all_ties t.no_declarations env = ties _ _ (λ w n le. gives_tied env w n le)
  declare_all_ties (t.declare x ds) env = then_ties (declare_ties x env) (λ env. declare_all_ties ds env)

  pub simple_exit_ties : (s : Simple) → Ties (commands.simple_exit s) (commands.simple_exit s)
  simple_exit_ties k.Break = ties _ _ (λ w n le. leaves_tied break w n le)
  simple_exit_ties k.Loop = ties _ _ (λ w n le. leaves_tied loop w n le)
  simple_exit_ties k.EndCase = ties _ _ (λ w n le. leaves_tied endcase w n le)
  simple_exit_ties k.Return = ties _ _ (λ w n le. leaves_tied return w n le)
  simple_exit_ties k.Finish = ties _ _ (λ w n le. ends_tied (status 0) w n le)

  pub act_of_ties : (p : Program) (c : Command) (mode : Mode) (env : Environment) → Ties (commands.act_of p m c mode env) (commands.act_of p l c mode env)
  act_of_ties p t.empty mode env = done_ties
  act_of_ties p (t.assign i xs es) mode env = assigned_ties xs env es (past_each xs env)
  act_of_ties p (t.call i f es) mode env = then_ties (applied_ties i p f es env) (λ _. done_ties)
  act_of_ties p (t.goto i x) mode env = ties _ _ (λ w n le. leaves_tied (goto x.letters) w n le)
  act_of_ties p (t.label i x c) mode env = g.act c (at_place (the_label x) mode) env
  act_of_ties p (t.case_of i e c) mode env = g.act c (at_place (the_case (constant_in env e)) mode) env
  act_of_ties p (t.default i c) mode env = g.act c (at_place the_default mode) env
  act_of_ties p (t.when i b e c) forwards env = where_truth_ties b e env _ _ (g.act c forwards (past e env))
  act_of_ties p (t.when i b e c) (seeking s) env = g.act c (seeking s) (past e env)
  act_of_ties p (t.test i e a b) forwards env =
      then_ties (g.truth e env) (λ x. either_ties x (g.act a forwards (past e env)) (g.act b forwards (past_command a (past e env))))
  act_of_ties p (t.test i e a b) (seeking s) env =
      either_ties (has_place s env a) (g.act a (seeking s) (past e env)) (g.act b (seeking s) (past_command a (past e env)))
  act_of_ties p (t.while i b e c) forwards env = where_truth_ties b e env _ _ (rounds_of_ties (t.while i b e c) forwards env)
  act_of_ties p (t.while i b e c) (seeking s) env = rounds_of_ties (t.while i b e c) (seeking s) env
  act_of_ties p (t.for_loop i x a b h c) mode env =
      then_ties (g.value a env) (λ u. then_ties (g.value b (past a env)) (λ v. then_ties (reads_ties x.at (λ _. no_constant) (λ _. Loops.step_of env h))
      (λ i. for_loop_ties x c u v i (past b (past a env)))))
  act_of_ties p (t.switch i e c) forwards env = then_ties (g.value e env) (λ v. choose_case_ties (acts_at e) v c (past e env))
  act_of_ties p (t.switch i e c) (seeking s) env = ended_case_ties c (seeking s) (past e env)
  act_of_ties p (t.result i e) mode env = then_ties (g.value e env) (λ v. ties _ _ (λ w n le. leaves_tied (result v) w n le))
  act_of_ties p (t.simple i s) mode env = simple_exit_ties s
  act_of_ties p (t.block i t.no_declarations cs) mode env = in_order_ties cs mode env
  act_of_ties p (t.block i (t.declare x ds) cs) mode env = ties _ _ (λ w n le.
      closing_tied w _ _ (with_tied w _ _ _ _ ((declare_all_ties (t.declare x ds) env).at w n le) (λ env. scope_ties cs forwards env)))
  act_of_ties p (t.repeat i c) mode env = rounds_of_ties (t.repeat i c) mode env
  act_of_ties p (t.repeat_while i b c e) mode env = rounds_of_ties (t.repeat_while i b c e) mode env

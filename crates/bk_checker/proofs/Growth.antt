-- What was written begins what is written then, whatever is still to be done.
use Rattle.std.proofs.lemmas.List.{length-replicate}
use Rattle.bk_meaning.specs.Causes.{no_constant}
use Rattle.bk_meaning.specs.Operators.{sum_cause}
use Rattle.bk_checker.proofs.Terms.{◌≡◌, ℕ, zero, suc, ◌+◌, ◌<◌, Bool, None, Some, refl, sym, ap, ◌∙◌, append-nil, length, not, Option, List, [], ◌∷◌, ◌++◌, map, arith, Expression, Expressions, Command, Starts, expression, expressions_in, command_in, commands_in, declarations_in, definitions_in, starts_in, Value, unset, World, Exit, break, loop, result, Outcome, gives, leaves, undefined, with, given, either, Done, done, Environment, past, past_command, Program, Target, at, byte_at, call, History, history, Grows, After, full, stays, earlier, Adds, adds, with_after, each_way_after, given_after, either_after, Ties, ties, ties_add, AllTied, done_ties, fetch_ties, combined_ties, operate_prefix_ties, judged_ties, address_in_ties, values_ties, call_ties, assigned_ties, store_ties, choose_case_ties, rounds_of_ties, for_loop_ties, for_test_ties, for_step_ties, where_truth_ties, turn_ties, in_order_ties, landing_ties, result_ties, return_ties, case_exit_ties, starts_ties, let_values_ties, bind_variables_ties, declare_all_ties, scope_ties, library_ties, means_tied, value_in, routine_in, Continuation, Next, letters_in, mode_in, start_in, Given, a_value, a_truth, a_target, is_done, done_tag, tag, resumed, resume_given, resume_left, value_goes, truth_goes, target_goes, done_goes, done_left, next_round, next_for, bound_then, defined_then, started_then, starting_then, declared_then, outcome_next, thing_in, exit_in, assigned_to, OnValue, OnValue as v, OnTruth, OnTruth as o, OnTarget, OnTarget as a, OnDone, OnDone as d, Continuation as f, Next as n}
use Rattle.bk_tree.specs.Tree.{Mention, mention}
use Rattle.bk_tree.specs.Tree as t
use Rattle.bk_meaning.specs.Operators.{sum}
use Rattle.bk_meaning.specs.Seeking.{the_label, Mode, forwards, seeking}
use Rattle.bk_meaning.specs.Loops.{same_truth, for_loop, round_exit}
use Rattle.bk_meaning.specs.Blocks as b
use Rattle.bk_meaning.specs.Scopes.{alone}
use Rattle.bk_lasting.specs.Views.{env_in}
use Rattle.bk_meaning.specs.Values.{Cell, holds}
use Rattle.bk_meaning.specs.Memory.{Memory, living, dead, made, cells_living}
use Rattle.bk_meaning.specs.World.{turn, turn_of}
use Rattle.bk_meaning.specs.Parts.{acts_at}
use Rattle.bk_meaning.specs.Environment.{constant_in}
use Rattle.bk_meaning.specs.Blocks.{make_vec, vec_cells}
use Rattle.bk_checker.specs.Limits.{cells_up_to, asked_first, asked}
use Rattle.bk_check.specs.declared.frame.For.{For}
use Rattle.bk_check.specs.declared.frame.Let.{Let}

-- the meaning with no depth only adds to what is written
full_tied : (p : Program) → AllTied (full p) (full p)
unfolding full
full_tied p = record {
  value = λ e env. ties _ _ (λ w n le. ((means_tied p (suc w.turns) (suc n) (omega (arith, le))).value e env).at w n le);
  truth = λ e env. ties _ _ (λ w n le. ((means_tied p (suc w.turns) (suc n) (omega (arith, le))).truth e env).at w n le);
  target = λ e env. ties _ _ (λ w n le. ((means_tied p (suc w.turns) (suc n) (omega (arith, le))).target e env).at w n le);
  act = λ c mode env. ties _ _ (λ w n le. ((means_tied p (suc w.turns) (suc n) (omega (arith, le))).act c mode env).at w n le);
  rounds = λ c mode env. ties _ _ (λ w n le. ((means_tied p (suc w.turns) (suc n) (omega (arith, le))).rounds c mode env).at w n le);
  for_rounds = λ l c object limit step env. ties _ _ (λ w n le. ((means_tied p (suc w.turns) (suc n) (omega (arith, le))).for_rounds l c object limit step env).at w n le);
  scope = λ cs mode env. ties _ _ (λ w n le. ((means_tied p (suc w.turns) (suc n) (omega (arith, le))).scope cs mode env).at w n le);
}

still : {A : Type 0} (a : A) → Adds (λ w. gives a w)
still a = adds _ (λ w. stays (history w))

finished : Adds done
finished = adds _ (λ w. stays (history w))

left : {A : Type 0} (x : Exit) → Adds {A = A} (λ w. leaves x w)
left x = adds _ (λ w. stays (history w))

by : {A B : Type 0} (go : World → Outcome A) (on : A → World → Outcome B) → Adds go → ((a : A) → Adds (on a)) → Adds (λ w. with (go w) on)
by go on h g = adds _ (λ w. with_after (history w) (go w) on (h.at w) g)

tagged : {A : Type 0} (k : A → Given) (h : History) (u : Outcome A) → After h u → After h (tag k u)
tagged k h (undefined l why w) up = up
tagged k h y up = up

tag_adds : {A : Type 0} (k : A → Given) (go : World → Outcome A) → Adds go → Adds (λ w. tag k (go w))
tag_adds k go h = adds _ (λ w. tagged k (history w) (go w) (h.at w))

-- a world's history, with so many cells of a VEC more
abbrev with_vec : World → ℕ → History
with_vec w n = record (history w) { most_cells = cells_living w.memory + n }

cells_made : (cells : List Cell) (m : Memory) → cells_living (made cells m) ≡ cells_living m + length cells
cells_made cells [] = omega arith
cells_made cells (living old ∷ m) = let more = cells_made cells m in omega (arith, more)
cells_made cells (dead ∷ m) = cells_made cells m

vec_after : (l spot : ℕ) (size : Option ℕ) (w : World) → 0 < w.turns → 0 < cells_up_to size → After (with_vec w (cells_up_to size)) (turn l w (λ w. make_vec spot size w))
vec_after l spot None w turns some = absurd (omega (arith, some))
vec_after l spot (Some k) w turns some = by w.turns turns
  where
    by : (i : ℕ) → 0 < i → After (with_vec w (k + 1)) (turn_of l i w (λ w. make_vec spot (Some k) w))
    by zero lt = absurd (omega (arith, lt))
    by (suc i) lt =
        let total : cells_living (made (vec_cells k) w.memory) ≡ cells_living w.memory + (k + 1) = cells_made (vec_cells k) w.memory ∙ ap (λ (x : ℕ). cells_living w.memory + x) (length-replicate (k + 1) (holds unset)) in
        record { written = []; output = sym (append-nil w.output); taken = []; input = refl; most_calls = omega arith; most_cells = omega (arith, total) }

module _ (p : Program) where
  g : AllTied (full p) (full p)
  g = full_tied p

  value : (e : Expression) (env : Environment) → Adds ((full p).value e env)
  value e env = ties_add _ _ (g.value e env)

  truth : (e : Expression) (env : Environment) → Adds ((full p).truth e env)
  truth e env = ties_add _ _ (g.truth e env)

  act : (c : Command) (mode : Mode) (env : Environment) → Adds ((full p).act c mode env)
  act c mode env = ties_add _ _ (g.act c mode env)

  place : (l : ℕ) (x y : Value) → Adds (λ w. with (given l (sum_cause x y) (sum w.memory x y) w) (λ c w. gives (at c) w))
  place l x y = adds _ (λ w. with_after (history w) (given l (sum_cause x y) (sum w.memory x y) w) (λ c w. gives (at c) w) (given_after l _ (sum w.memory x y) w) (λ c. still (at c)))

  one_of : {A : Type 0} (x : Bool) (go other : World → Outcome A) → Adds go → Adds other → Adds (λ w. either x go other w)
  one_of x go other h k = adds _ (λ w. either_after x go other h k w)

  for_on : (x : Mention) (c : Command) (env : Environment) (step : Option ℕ) (start limit : Value) → Adds (λ w. with (given x.at no_constant step w) (λ n w. for_loop (full p) x c start limit n env w))
  for_on x c env step start limit = adds _ (λ w. with_after (history w) (given x.at no_constant step w) _ (given_after x.at _ step w) (λ n. ties_add _ _ (for_loop_ties (full p) (full p) g x c start limit n env)))

  bound : (l : Let) (ss : List b.Start) → Adds (bound_then p l ss)
  bound l ss = by _ _ (ties_add _ _ (bind_variables_ties (full p) (full p) g (map start_in l.starts.items ++ ss) (env_in l.following))) (λ env. declared l env)
    where
      declared : (l : Let) (env : Environment) → Adds (declared_then p (declarations_in l.decls.now) (commands_in l.commands.now) env)
      declared l env = by _ _ (ties_add _ _ (declare_all_ties (full p) (full p) g (declarations_in l.decls.now) env)) (λ env. ties_add _ _ (scope_ties (full p) (full p) g (commands_in l.commands.now) forwards env))

  defined : (l : Let) → Adds (defined_then p l)
  defined l = by _ _ (ties_add _ _ (let_values_ties (full p) (full p) g (definitions_in l.defs.now) (env_in l.here))) (λ ss. bound l ss)

  started : (l : Let) (names : List (List ℕ)) (vs : List Value) → Adds (started_then p l names vs)
  started l names vs = by _ _ (ties_add _ _ (let_values_ties (full p) (full p) g (definitions_in l.defs.now) (env_in l.here))) (λ more. bound l (b.paired names vs ++ more))

  starting : (is : Starts) (here : Environment) (names : List (List ℕ)) (l : Let) → Adds (starting_then p is here names l)
  starting is here names l = by _ _ (ties_add _ _ (starts_ties (full p) (full p) g is here)) (λ vs. started l names vs)

  -- what goes on with a value
  value_on : (k : OnValue) (x : Value) → Adds (λ w. value_goes p k (gives x w))
  value_on (v.Contents e) x = tag_adds a_value _ (ties_add _ _ (fetch_ties _ x))
  value_on (v.Prefix e q) x = tag_adds a_value _ (ties_add _ _ (operate_prefix_ties _ q x))
  value_on (v.Left e q b env) x = tag_adds a_value _ (by _ _ (value (expression b.now) (env_in env)) (λ y. ties_add _ _ (combined_ties _ q x y)))
  value_on (v.Right e q y) x = tag_adds a_value _ (ties_add _ _ (combined_ties _ q (value_in y) x))
  value_on (v.Judge e) x = tag_adds a_truth _ (ties_add _ _ (judged_ties _ x))
  value_on v.At x = tag_adds a_target _ (still (at x))
  value_on (v.Vector e b env) x = tag_adds a_target _ (by _ _ (value (expression b.now) (env_in env)) (λ y. place _ x y))
  value_on (v.Offset e y) x = tag_adds a_target _ (place _ (value_in y) x)
  value_on (v.String b env) x = tag_adds a_target _ (by _ _ (value (expression b.now) (env_in env)) (λ y. still (byte_at x y)))
  value_on (v.Byte y) x = tag_adds a_target _ (still (byte_at (value_in y) x))
  value_on (v.Argument spot es here before callee env) x = tag_adds a_value _ (by _ _ (ties_add _ _ (values_ties (full p) (full p) g (expressions_in es.now) (env_in here))) (λ vs.
      by _ _ (value (expression callee.now) (env_in env)) (λ c. ties_add _ _ (call_ties (full p) (full p) g spot p c (map value_in before.items ++ x ∷ vs)))))
  value_on (v.Callee spot e before) x = tag_adds a_value _ (ties_add _ _ (call_ties (full p) (full p) g spot p x (map value_in before.items)))
  value_on v.Dropped x = tag_adds done_tag _ finished
  value_on v.Result x = tag_adds done_tag _ (left (result x))
  value_on (v.Assigned xs there es env) x = tag_adds done_tag _ (assigned_on (expressions_in xs.now) (env_in there))
    where
      assigned_on : (xs : Expressions) (there : Environment) → Adds (assigned_to (full p) x xs there (expressions_in es.now) (env_in env))
      assigned_on t.none there = finished
      assigned_on (t.more d ds) there = by _ _ (ties_add _ _ (g.target d there)) (λ c. by _ _ (ties_add _ _ (store_ties (full p) (full p) g _ c x)) (λ _. ties_add _ _ (assigned_ties (full p) (full p) g ds (past d there) (expressions_in es.now) (env_in env))))
  value_on (v.Switch e c env) x = tag_adds done_tag _ (ties_add _ _ (choose_case_ties (full p) (full p) g _ x (command_in c.now) (env_in env)))
  value_on (v.ForStart name e env c step) x = tag_adds done_tag _ (by _ _ (value (expression e.now) (env_in env)) (λ h. for_on (mention name.now) (command_in c.now) (past (expression e.now) (env_in env)) step x h))
  value_on (v.ForLimit name env start c step) x = tag_adds done_tag _ (for_on (mention name.now) (command_in c.now) (env_in env) step (value_in start) x)
  value_on (v.Starts is here names l) x = tag_adds done_tag _ (by _ _ (by _ _ (ties_add _ _ (starts_ties (full p) (full p) g (starts_in is.now) (env_in here))) (λ vs. still (x ∷ vs))) (λ vs. started l.value (letters_in names.now) vs))

  -- with a truth
  truth_on : (k : OnTruth) (x : Bool) → Adds (λ w. truth_goes p k (gives x w))
  truth_on (o.Choice a b env) x = tag_adds a_value _ (one_of x _ _ (value (expression a.now) (env_in env)) (value (expression b.now) (past (expression a.now) (env_in env))))
  truth_on o.Not x = tag_adds a_truth _ (still (not x))
  truth_on (o.And b env) x = tag_adds a_truth _ (one_of x _ _ (truth (expression b.now) (env_in env)) (still _))
  truth_on (o.Or b env) x = tag_adds a_truth _ (one_of x _ _ (still _) (truth (expression b.now) (env_in env)))
  truth_on (o.When b c env) x = tag_adds done_tag _ (one_of (same_truth b x) _ _ (act (command_in c.now) forwards (env_in env)) finished)
  truth_on (o.Test a b env) x = tag_adds done_tag _ (one_of x _ _ (act (command_in a.now) forwards (env_in env)) (act (command_in b.now) forwards (past_command (command_in a.now) (env_in env))))
  truth_on (o.First b c env) x = tag_adds done_tag _ (one_of (same_truth b x) _ _ (ties_add _ _ (rounds_of_ties (full p) (full p) g (command_in c.now) forwards (env_in env))) finished)
  truth_on (o.Further b c env) x = tag_adds done_tag _ (one_of (same_truth b x) _ _ (ties_add _ _ (turn_ties (full p) (full p) g _ _ _ (g.rounds (command_in c.now) forwards (env_in env)))) finished)

  -- with a place
  target_on : (k : OnTarget) (x : Target) → Adds (λ w. target_goes p k (gives x w))
  target_on (a.Address e) x = tag_adds a_value _ (ties_add _ _ (address_in_ties (full p) (full p) g _ x))
  target_on (a.Put e y xs there es env) x = tag_adds done_tag _ (by _ _ (ties_add _ _ (store_ties (full p) (full p) g _ x (value_in y))) (λ _. ties_add _ _ (assigned_ties (full p) (full p) g (expressions_in xs.now) (env_in there) (expressions_in es.now) (env_in env))))

  next_ties : (c : Command) (env : Environment) → Ties (next_round p c env) (next_round p c env)
  next_ties (t.while l b e c) env = where_truth_ties (full p) (full p) g b e env _ _ (turn_ties (full p) (full p) g _ _ _ (g.rounds (t.while l b e c) forwards env))
  next_ties (t.repeat l c) env = turn_ties (full p) (full p) g _ _ _ (g.rounds (t.repeat l c) forwards env)
  next_ties (t.repeat_while l b c e) env = where_truth_ties (full p) (full p) g b e (past_command c env) _ _ (turn_ties (full p) (full p) g _ _ _ (g.rounds (t.repeat_while l b c e) forwards env))
  next_ties c env = done_ties

  next_for_adds : (k : For) → Adds (next_for p k)
  next_for_adds k = by _ _ (ties_add _ _ (for_step_ties (full p) (full p) g k.name.now.at k.object k.step)) (λ _.
      ties_add _ _ (for_test_ties (full p) (full p) g k.name.now.at k.object (value_in k.limit) k.step _ _ (turn_ties (full p) (full p) g _ _ _ (g.for_rounds k.name.now.at (command_in k.body.now) k.object (value_in k.limit) k.step (env_in k.env)))))

  -- after a command
  done_on : (k : OnDone) → Adds (λ w. done_goes p k (done w))
  done_on (d.After cs env) = tag_adds done_tag _ (ties_add _ _ (in_order_ties (full p) (full p) g (commands_in cs.now) forwards (env_in env)))
  done_on d.Body = tag_adds a_value _ (still unset)
  done_on (d.Valof line) = tag_adds a_value _ (still unset)
  done_on (d.Round c env) = tag_adds done_tag _ (ties_add _ _ (next_ties (command_in c.now) (env_in env)))
  done_on (d.ForRound k) = tag_adds done_tag _ (next_for_adds k)
  done_on x = tag_adds done_tag _ finished

  round_left : (go : World → Outcome Done) → Adds go → (x : Exit) → Adds (round_exit go x)
  round_left go h loop = h
  round_left go h break = finished
  round_left go h x = left x

  -- where a part is left
  left_on : (k : OnDone) (x : Exit) → Adds (λ w. done_left p k x w)
  left_on (d.After cs env) x = left x
  left_on d.Body x = tag_adds a_value _ (ties_add _ _ (return_ties (full p) (full p) g x))
  left_on (d.Valof line) x = tag_adds a_value _ (ties_add _ _ (result_ties (full p) (full p) g x))
  left_on (d.Scope cs env) x = tag_adds done_tag _ (ties_add _ _ (landing_ties (full p) (full p) g (commands_in cs.now) (env_in env) _ _ (λ y. g.scope (commands_in cs.now) (seeking (the_label y)) (env_in env)) x))
  left_on (d.Alone c env) x = tag_adds done_tag _ (ties_add _ _ (landing_ties (full p) (full p) g (alone (command_in c.now)) (env_in env) _ _ (λ y. g.scope (alone (command_in c.now)) (seeking (the_label y)) (env_in env)) x))
  left_on (d.Landed s) x = tag_adds done_tag _ (ties_add _ _ (landing_ties (full p) (full p) g (commands_in s.commands) s.env _ _ (λ y. g.scope (commands_in s.commands) (seeking (the_label y)) s.env) x))
  left_on (d.LandedInBlock spot s) x = let b = alone (t.block spot t.no_declarations (commands_in s.commands)) in tag_adds done_tag _ (ties_add _ _ (landing_ties (full p) (full p) g b s.env _ _ (λ y. g.scope b (seeking (the_label y)) s.env) x))
  left_on d.Cases x = tag_adds done_tag _ (ties_add _ _ (case_exit_ties (full p) (full p) g x))
  left_on (d.Round c env) x = tag_adds done_tag _ (round_left _ (ties_add _ _ (next_ties (command_in c.now) (env_in env))) x)
  left_on (d.ForRound k) x = tag_adds done_tag _ (round_left _ (next_for_adds k) x)

  exit_on : (k : Continuation) (x : Exit) → Adds (λ w. resume_left p k x w)
  exit_on (f.Done k) x = left_on k x
  exit_on (f.Returned c) x = adds _ (λ w. stays (history w))
  exit_on (f.Closing m) x = adds _ (λ w. stays (history w))
  exit_on k x = left x

  given_on : (k : Continuation) (y : Given) → Adds (λ w. resume_given p k y w)
  given_on (f.Value k) (a_value x) = value_on k x
  given_on (f.Returned c) (a_value x) = adds _ (λ w. stays (history w))
  given_on (f.Closing m) (a_value x) = adds _ (λ w. stays (history w))
  given_on (f.Truth k) (a_truth x) = truth_on k x
  given_on (f.Target k) (a_target x) = target_on k x
  given_on (f.Done k) is_done = done_on k
  given_on (f.Closing m) is_done = adds _ (λ w. stays (history w))
  given_on k y = adds _ (λ w. stays (history w))

  -- by all frames
  pub resumed_after : (fs : List Continuation) (h : History) (u : Outcome Given) → After h u → After h (resumed p fs u)
  unfolding resumed
  resumed_after [] h u up = up
  resumed_after (k ∷ fs) h u up = each_way_after h (resumed p fs u) (resume_given p k) (resume_left p k) (resumed_after fs h u up) (λ y. given_on k y) (λ x. exit_on k x)

  next_on : (next : Next) → Adds (outcome_next p next)
  next_on (n.Value e env) = tag_adds a_value _ (value (expression e.now) (env_in env))
  next_on (n.Truth e env) = tag_adds a_truth _ (truth (expression e.now) (env_in env))
  next_on (n.Target e env) = tag_adds a_target _ (ties_add _ _ (g.target (expression e.now) (env_in env)))
  next_on (n.Act c mode env) = tag_adds done_tag _ (act (command_in c.now) (mode_in mode) (env_in env))
  next_on (n.InOrder cs mode env) = tag_adds done_tag _ (ties_add _ _ (in_order_ties (full p) (full p) g (commands_in cs.now) (mode_in mode) (env_in env)))
  next_on (n.Declare ds cs env) = tag_adds done_tag _ (by _ _ (ties_add _ _ (declare_all_ties (full p) (full p) g (declarations_in ds.now) (env_in env))) (λ env. ties_add _ _ (scope_ties (full p) (full p) g (commands_in cs.now) forwards env)))
  next_on (n.Define l) = tag_adds done_tag _ (defined l.value)
  next_on (n.Starts is here names l) = tag_adds done_tag _ (starting (starts_in is.now) (env_in here) (letters_in names.now) l.value)
  next_on (n.Gives t) = still (thing_in t)
  next_on (n.Leaves x) = left (exit_in x)
  next_on (n.Library spot r vs) = tag_adds a_value _ (ties_add _ _ (library_ties spot (routine_in r) (map value_in vs.items)))
  next_on y = adds _ (λ w. stays (history w))

  -- what is written, and read, of the whole, from a world on
  pub whole_after : (fs : List Continuation) (next : Next) (h : History) (w : World) → Grows h (history w) → After h (resumed p fs (outcome_next p next w))
  whole_after fs next h w grows = resumed_after fs h (outcome_next p next w) (earlier h (history w) (outcome_next p next w) grows ((next_on next).at w))

  -- a call
  pub called_after : (l : ℕ) (c : Value) (vs : List Value) (h : History) (w : World) → Grows h (history w) → After h (tag a_value (call p (full p) l c vs w))
  called_after l c vs h w grows = earlier h (history w) _ grows ((tag_adds a_value _ (ties_add _ _ (call_ties (full p) (full p) g l p c vs))).at w)

  -- a VEC that comes next
  vec_next : (is : Starts) (here : Environment) (names : List (List ℕ)) (l : Let) (w : World) → 0 < w.turns → 0 < asked_first is here → After (with_vec w (asked_first is here)) (starting_then p is here names l w)
  vec_next (t.vector i e is) here names l w turns some =
      with_after _ _ _ (with_after _ _ _ (vec_after i (acts_at e) (constant_in here e) w turns some) (λ v. by _ _ (ties_add _ _ (starts_ties (full p) (full p) g is here)) (λ vs. still (v ∷ vs)))) (λ vs. started l names vs)
  vec_next t.no_starts here names l w turns some = absurd (omega (arith, some))
  vec_next (t.value e is) here names l w turns some = absurd (omega (arith, some))

  pub large_after : (fs : List Continuation) (next : Next) (w : World) → 0 < w.turns → 0 < asked next → After (with_vec w (asked next)) (resumed p fs (outcome_next p next w))
  large_after fs (n.Starts is here names l) w turns some =
      resumed_after fs _ _ (tagged done_tag _ (starting_then p (starts_in is.now) (env_in here) (letters_in names.now) l.value w) (vec_next (starts_in is.now) (env_in here) (letters_in names.now) l.value w turns some))
  large_after fs next w turns some = absurd (omega (arith, some))

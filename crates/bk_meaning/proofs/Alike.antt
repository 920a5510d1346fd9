-- Two meanings of the nodes inside that are the same while at most d turns are left give each form the same outcome then.
use Rattle.bk_meaning.proofs.Terms.{◌≡◌, ℕ, zero, suc, ◌+◌, ◌≤◌, Bool, true, false, List, [], ◌∷◌, length, Option, Some, None, refl, sym, ap, subst, ◌∙◌, arith, Operator as o, Prefix as q, Expression, Expressions, Command, Commands, Declaration, Declarations, Definition, Definitions, Starts, Value, number, address, procedure, routine, unset, holds, World, Exit, break, loop, endcase, goto, result, return, Outcome, gives, leaves, ends, going, each_way, with, Done, done, given, either, turn, turn_of, making, closing, calling, returned, sum, operate, Environment, cell, bind, following, past, past_each, past_command, past_definition, constant_in, labelled, within_let, objects_of_definitions, Body, command, expression, Procedure, Program, procedure_of, the_label, the_case, the_default, Mode, forwards, seeking, at_place, has_place, one_has_place, Meanings, acts_at, Mention}
use Rattle.bk_tree.specs.Tree as t
use Rattle.bk_meaning.specs.Scopes
use Rattle.bk_meaning.specs.Calls
use Rattle.bk_meaning.specs.Expressions
use Rattle.bk_meaning.specs.Loops
use Rattle.bk_meaning.specs.Blocks
use Rattle.bk_meaning.specs.Commands as commands
use Rattle.bk_meaning.proofs.Spending.{Spent, turn_spent, kept, given_spent}
use Rattle.bk_meaning.proofs.NodeSpending as N
use Rattle.bk_meaning.proofs.NodeSpending.{AllSpend}

pub record Same {A : Type 0} (d : ℕ) (go to : World → Outcome A) : Type 0 where
  pub at : (w : World) → w.turns ≤ d → go w ≡ to w

pub record Under {A : Type 0} (d : ℕ) (go to : World → Outcome A) : Type 0 where
  pub at : (w : World) → w.turns + 1 ≤ d → go w ≡ to w

record Out {A : Type 0} (d : ℕ) (out off : Exit → World → Outcome A) : Type 0 where
  pub at : (x : Exit) (v : World) → v.turns + 1 ≤ d → out x v ≡ off x v

same : {A : Type 0} (d : ℕ) (go to : World → Outcome A) → ((w : World) → w.turns ≤ d → go w ≡ to w) → Same d go to
same d go to at = record { at = at }

pub record AllSame (d : ℕ) (m n : Meanings) : Type 0 where
  pub value : (e : Expression) (env : Environment) → Same d (m.value e env) (n.value e env)
  pub truth : (e : Expression) (env : Environment) → Same d (m.truth e env) (n.truth e env)
  pub target : (e : Expression) (env : Environment) → Same d (m.target e env) (n.target e env)
  pub act : (c : Command) (mode : Mode) (env : Environment) → Same d (m.act c mode env) (n.act c mode env)
  pub rounds : (c : Command) (mode : Mode) (env : Environment) → Under d (m.rounds c mode env) (n.rounds c mode env)
  pub for_rounds : (place : ℕ) (c : Command) (object : ℕ) (limit : Value) (step : ℕ) (env : Environment) → Under d (m.for_rounds place c object limit step env) (n.for_rounds place c object limit step env)
  pub scope : (cs : Commands) (mode : Mode) (env : Environment) → Under d (m.scope cs mode env) (n.scope cs mode env)

each_way_one : {A B : Type 0} (w : World) (d : ℕ) (u : Outcome A) (on to : A → World → Outcome B) (out off : Exit → World → Outcome B) → w.turns ≤ d → Spent w.turns u → ((a : A) → Same d (on a) (to a)) → Out d out off → each_way on out u ≡ each_way to off u
each_way_one w d (gives a x) on to out off le h go y = let less : x.turns ≤ w.turns = h.is in (go a).at x (omega (arith, le, less))
each_way_one w d (leaves e x) on to out off le h go y = let less : x.turns + 1 ≤ w.turns = h.is in y.at e x (omega (arith, le, less))
each_way_one w d _ on to out off le h go y = refl

each_way_same : {A B : Type 0} (w : World) (d : ℕ) (u v : Outcome A) (on to : A → World → Outcome B) (out off : Exit → World → Outcome B) → w.turns ≤ d → Spent w.turns u → u ≡ v → ((a : A) → Same d (on a) (to a)) → Out d out off → each_way on out u ≡ each_way to off v
each_way_same w d u v on to out off le h e go y = each_way_one w d u on to out off le h go y ∙ ap (each_way to off) e

still : {A : Type 0} (d : ℕ) (out : Exit → World → Outcome A) → Out d out out
still d out = record { at = λ x v lt. refl }

with_same : {A B : Type 0} (w : World) (d : ℕ) (u v : Outcome A) (on to : A → World → Outcome B) → w.turns ≤ d → Spent w.turns u → u ≡ v → ((a : A) → Same d (on a) (to a)) → with u on ≡ with v to
with_same w d u v on to le h e go = each_way_same w d u v on to (λ x w. leaves x w) (λ x w. leaves x w) le h e go (still d (λ x w. leaves x w))

-- the same part, and what follows
same_with : {A B : Type 0} (w : World) (d : ℕ) (u : Outcome A) (on to : A → World → Outcome B) → w.turns ≤ d → Spent w.turns u → ((a : A) → Same d (on a) (to a)) → with u on ≡ with u to
same_with w d u on to le h go = with_same w d u u on to le h refl go

either_same : {A : Type 0} (b : Bool) (d : ℕ) (go to other another : World → Outcome A) → Same d go to → Same d other another → (w : World) → w.turns ≤ d → either b go other w ≡ either b to another w
either_same true d go to other another g h w le = g.at w le
either_same false d go to other another g h w le = h.at w le

it : {A : Type 0} (d : ℕ) (go : World → Outcome A) → Same d go go
it d go = record { at = λ w le. refl }

turn_at : {A : Type 0} (l : ℕ) (d i : ℕ) (w : World) (go to : World → Outcome A) → i ≤ d → Under d go to → turn_of l i w go ≡ turn_of l i w to
turn_at l d zero w go to le h = refl
turn_at l d (suc i) w go to le h = h.at (record w { turns = i }) (omega (arith, le))

pub turn_same : {A : Type 0} (l : ℕ) (d : ℕ) (w : World) (go to : World → Outcome A) → w.turns ≤ d → Under d go to → turn l w go ≡ turn l w to
turn_same l d w go to le h = turn_at _ d w.turns w go to le h

pub under : {A : Type 0} (d : ℕ) (go to : World → Outcome A) → Same d go to → Under d go to
under d go to h = record { at = λ w lt. h.at w (omega (arith, lt)) }

module _ (d : ℕ) (m n : Meanings) (s : AllSpend d m) (g : AllSame d m n) where
  pub values_same : (es : Expressions) (env : Environment) → Same d (Calls.values m es env) (Calls.values n es env)
  values_same t.none env = it d _
  values_same (t.more e es) env = same _ _ _ (λ w le. with_same w d _ _ _ _ le ((s.value e env).at w le) ((g.value e env).at w le) (λ v. same _ _ _ (λ w le. with_same w d _ _ _ _ le ((N.values_spends d m s es (past e env)).at w le) ((values_same es (past e env)).at w le) (λ vs. it d _))))

  pub in_order_same : (cs : Commands) (mode : Mode) (env : Environment) → Same d (Scopes.in_order m cs mode env) (Scopes.in_order n cs mode env)
  in_order_same t.no_commands mode env = it d _
  in_order_same (t.also c cs) forwards env = same _ _ _ (λ w le. with_same w d _ _ _ _ le ((s.act c forwards env).at w le) ((g.act c forwards env).at w le) (λ _. in_order_same cs forwards (past_command c env)))
  in_order_same (t.also c cs) (seeking x) env = same _ _ _ (λ w le. either_same (has_place x env c) d _ _ _ _ (same _ _ _ (λ w le. with_same w d _ _ _ _ le ((s.act c (seeking x) env).at w le) ((g.act c (seeking x) env).at w le) (λ _. in_order_same cs forwards (past_command c env)))) (in_order_same cs (seeking x) (past_command c env)) w le)

  landing_same : (cs : Commands) (env : Environment) (go to : List ℕ → World → Outcome Done) → ((x : List ℕ) → Under d (go x) (to x)) → Out d (Scopes.landing cs env go) (Scopes.landing cs env to)
  landing_same cs env go to h = record { at = by }
    where
      chosen : (b : Bool) (x : List ℕ) (v : World) → v.turns + 1 ≤ d → either b (go x) (λ w. leaves (goto x) w) v ≡ either b (to x) (λ w. leaves (goto x) w) v
      chosen true x v lt = (h x).at v lt
      chosen false x v lt = refl

      by : (x : Exit) (v : World) → v.turns + 1 ≤ d → Scopes.landing cs env go x v ≡ Scopes.landing cs env to x v
      by (goto x) v lt = chosen (one_has_place (the_label x) env cs) x v lt
      by _ v lt = refl

  pub scope_same : (cs : Commands) (mode : Mode) (env : Environment) → Same d (Scopes.scope_of m cs mode env) (Scopes.scope_of n cs mode env)
  scope_same cs mode env = same _ _ _ (λ w le. each_way_same w d _ _ _ _ _ _ le ((N.in_order_spends d m s cs mode (labelled cs env)).at w le) ((in_order_same cs mode (labelled cs env)).at w le) (λ _. it d done) (landing_same cs env _ _ (λ x. g.scope cs (seeking (the_label x)) env)))

  pub body_same : (b : Body) (env : Environment) → Same d (Calls.run_body m b env) (Calls.run_body n b env)
  body_same (command c) env = same _ _ _ (λ w le. ap (each_way (λ _ w. gives unset w) Calls.return_exit) ((scope_same (Scopes.alone c) forwards env).at w le))
  body_same (expression e) env = g.value e env

  pub enter_same : (place : ℕ) (f : Option Procedure) (vs : List Value) → Same d (Calls.enter m place f vs) (Calls.enter n place f vs)
  enter_same place None vs = it d _
  enter_same place (Some f) vs = same _ _ _ (λ w le. ap (closing (length w.memory)) ((body_same f.body (Calls.bind_formals (length w.memory) 0 f.formals f.env)).at (making (Calls.formal_cells f.formals vs) w) le))

  pub called_same : (place : ℕ) (p : Program) (f : Value) (vs : List Value) → Same d (Calls.called p m place f vs) (Calls.called p n place f vs)
  called_same place p (procedure i) vs = enter_same place (procedure_of p i) vs
  called_same place p _ vs = it d _

  pub call_same : (place : ℕ) (p : Program) (f : Value) (vs : List Value) → Same d (Calls.call p m place f vs) (Calls.call p n place f vs)
  call_same place p f vs = same _ _ _ (λ w le. ap (returned place w.calls) ((called_same place p f vs).at (calling w) le))

  pub applied_same : (place : ℕ) (p : Program) (f : Expression) (es : Expressions) (env : Environment) → Same d (Calls.applied p m place f es env) (Calls.applied p n place f es env)
  applied_same place p f es env = same _ _ _ (λ w le. with_same w d _ _ _ _ le ((N.values_spends d m s es (past f env)).at w le) ((values_same es (past f env)).at w le) (λ vs. same _ _ _ (λ w le. with_same w d _ _ _ _ le ((s.value f env).at w le) ((g.value f env).at w le) (λ v. call_same place p v vs))))

  pub value_of_same : (p : Program) (e : Expression) (env : Environment) → Same d (Expressions.value_of p m e env) (Expressions.value_of p n e env)
  value_of_same p (t.parens i e) env = g.value e env
  value_of_same p (t.unary i q.Contents e) env = same _ _ _ (λ w le. with_same w d _ _ _ _ le ((s.value e env).at w le) ((g.value e env).at w le) (λ a. it d _))
  value_of_same p (t.unary i q.Address e) env = same _ _ _ (λ w le. with_same w d _ _ _ _ le ((s.target e env).at w le) ((g.target e env).at w le) (λ a. it d _))
  value_of_same p (t.unary i x e) env = same _ _ _ (λ w le. with_same w d _ _ _ _ le ((s.value e env).at w le) ((g.value e env).at w le) (λ a. it d _))
  value_of_same p (t.binary i x j a b) env = same _ _ _ (λ w le. with_same w d _ _ _ _ le ((s.value a env).at w le) ((g.value a env).at w le) (λ x. same _ _ _ (λ w le. with_same w d _ _ _ _ le ((s.value b (past a env)).at w le) ((g.value b (past a env)).at w le) (λ y. it d _))))
  value_of_same p (t.choice i j c a b) env = same _ _ _ (λ w le. with_same w d _ _ _ _ le ((s.truth c env).at w le) ((g.truth c env).at w le) (λ x. same _ _ _ (λ w le. either_same x d _ _ _ _ (g.value a (past c env)) (g.value b (past a (past c env))) w le)))
  value_of_same p (t.apply i j f es) env = applied_same j p f es env
  value_of_same p (t.valof i c) env = same _ _ _ (λ w le. ap Expressions.result_of ((scope_same (Scopes.alone c) forwards env).at w le))
  value_of_same p e env = it d _

  pub truth_of_same : (p : Program) (e : Expression) (env : Environment) → Same d (Expressions.truth_of p m e env) (Expressions.truth_of p n e env)
  truth_of_same p (t.parens i e) env = g.truth e env
  truth_of_same p (t.unary i q.Not e) env = same _ _ _ (λ w le. with_same w d _ _ _ _ le ((s.truth e env).at w le) ((g.truth e env).at w le) (λ b. it d _))
  truth_of_same p (t.binary i o.Both j a b) env = same _ _ _ (λ w le. with_same w d _ _ _ _ le ((s.truth a env).at w le) ((g.truth a env).at w le) (λ x. same _ _ _ (λ w le. either_same x d _ _ _ _ (g.truth b (past a env)) (it d _) w le)))
  truth_of_same p (t.binary i o.Either j a b) env = same _ _ _ (λ w le. with_same w d _ _ _ _ le ((s.truth a env).at w le) ((g.truth a env).at w le) (λ x. same _ _ _ (λ w le. either_same x d _ _ _ _ (it d _) (g.truth b (past a env)) w le)))
  truth_of_same p e env = same _ _ _ (λ w le. ap (λ u. with u (Expressions.judged (acts_at e))) ((value_of_same p e env).at w le))

  pub target_of_same : (e : Expression) (env : Environment) → Same d (Expressions.target_of m e env) (Expressions.target_of n e env)
  target_of_same (t.parens i e) env = g.target e env
  target_of_same (t.unary i q.Contents e) env = same _ _ _ (λ w le. with_same w d _ _ _ _ le ((s.value e env).at w le) ((g.value e env).at w le) (λ a. it d _))
  target_of_same (t.binary i o.Subscript j a b) env = same _ _ _ (λ w le. with_same w d _ _ _ _ le ((s.value a env).at w le) ((g.value a env).at w le) (λ x. same _ _ _ (λ w le. with_same w d _ _ _ _ le ((s.value b (past a env)).at w le) ((g.value b (past a env)).at w le) (λ y. it d _))))
  target_of_same (t.binary i o.Byte j a b) env = same _ _ _ (λ w le. with_same w d _ _ _ _ le ((s.value a env).at w le) ((g.value a env).at w le) (λ x. same _ _ _ (λ w le. with_same w d _ _ _ _ le ((s.value b (past a env)).at w le) ((g.value b (past a env)).at w le) (λ y. it d _))))
  target_of_same e env = it d _

  pub assigned_same : (xs : Expressions) (there : Environment) (es : Expressions) (env : Environment) → Same d (commands.assigned m xs there es env) (commands.assigned n xs there es env)
  assigned_same (t.more x xs) there (t.more e es) env = same _ _ _ (λ w le. with_same w d _ _ _ _ le ((s.value e env).at w le) ((g.value e env).at w le) (λ v. same _ _ _ (λ w le. with_same w d _ _ _ _ le ((s.target x there).at w le) ((g.target x there).at w le) (λ a. same _ _ _ (λ w le. same_with w d _ _ _ le ((N.store_spends d m s (acts_at x) a v).at w le) (λ _. assigned_same xs (past x there) es (past e env)))))))
  assigned_same _ there _ env = it d _

  round_same : (go to : World → Outcome Done) → Same d go to → Out d (Loops.round_exit go) (Loops.round_exit to)
  round_same go to h = record { at = by }
    where
      by : (x : Exit) (v : World) → v.turns + 1 ≤ d → Loops.round_exit go x v ≡ Loops.round_exit to x v
      by loop v lt = h.at v (omega (arith, lt))
      by break v lt = refl
      by x v lt = refl

  again_same : (w : World) (u v : Outcome Done) (go to : World → Outcome Done) → w.turns ≤ d → Spent w.turns u → u ≡ v → Same d go to → Loops.again u go ≡ Loops.again v to
  again_same w u v go to le t e h = each_way_same w d u v _ _ _ _ le t e (λ _. h) (round_same go to h)

  where_truth_same : (b : Bool) (e : Expression) (env : Environment) (go to : World → Outcome Done) → Same d go to → Same d (Loops.where_truth m b e env go) (Loops.where_truth n b e env to)
  where_truth_same b e env go to h = same _ _ _ (λ w le. with_same w d _ _ _ _ le ((s.truth e env).at w le) ((g.truth e env).at w le) (λ x. same _ _ _ (λ w le. either_same (Loops.same_truth b x) d _ _ _ _ h (it d done) w le)))

  turns_same : (l : ℕ) (go to : World → Outcome Done) → Under d go to → Same d (λ w. turn l w go) (λ w. turn l w to)
  turns_same l go to h = same _ _ _ (λ w le. turn_same _ d w go to le h)

  pub rounds_of_same : (c : Command) (mode : Mode) (env : Environment) → Same d (Loops.rounds_of m c mode env) (Loops.rounds_of n c mode env)
  rounds_of_same (t.while i b e c) mode env = same _ _ _ (λ w le. again_same w _ _ _ _ le ((s.act c mode (past e env)).at w le) ((g.act c mode (past e env)).at w le) (where_truth_same b e env _ _ (turns_same _ _ _ (g.rounds (t.while i b e c) forwards env))))
  rounds_of_same (t.repeat i c) mode env = same _ _ _ (λ w le. again_same w _ _ _ _ le ((s.act c mode env).at w le) ((g.act c mode env).at w le) (turns_same _ _ _ (g.rounds (t.repeat i c) forwards env)))
  rounds_of_same (t.repeat_while i b c e) mode env = same _ _ _ (λ w le. again_same w _ _ _ _ le ((s.act c mode env).at w le) ((g.act c mode env).at w le) (where_truth_same b e (past_command c env) _ _ (turns_same _ _ _ (g.rounds (t.repeat_while i b c e) forwards env))))
  rounds_of_same c mode env = it d _

  pub for_test_same : (place : ℕ) (object : ℕ) (limit : Value) (step : ℕ) (go to : World → Outcome Done) → Same d go to → Same d (Loops.for_test place object limit step go) (Loops.for_test place object limit step to)
  for_test_same place object limit step go to h = same _ _ _ (λ w le. same_with w d _ _ _ le ((N.fetch_spends d m s place (address object 0)).at w le) (λ v. same _ _ _ (λ w le. same_with w d _ _ _ le ((N.operate_spends d m s place (Loops.relation step) v limit).at w le) (λ v. same _ _ _ (λ w le. same_with w d _ _ _ le ((N.judged_spends d m s place v).at w le) (λ b. same _ _ _ (λ w le. either_same b d _ _ _ _ h (it d done) w le)))))))

  pub for_rounds_of_same : (place : ℕ) (c : Command) (object : ℕ) (limit : Value) (step : ℕ) (env : Environment) → Same d (Loops.for_rounds_of m place c object limit step env) (Loops.for_rounds_of n place c object limit step env)
  for_rounds_of_same place c object limit step env = same _ _ _ (λ w le. again_same w _ _ _ _ le ((N.scope_spends d m s (Scopes.alone c) forwards env).at w le) ((scope_same (Scopes.alone c) forwards env).at w le) (same _ _ _ (λ w le. same_with w d _ _ _ le ((N.for_step_spends d m s place object step).at w le) (λ _. for_test_same place object limit step _ _ (turns_same _ _ _ (g.for_rounds place c object limit step env))))))

  pub for_loop_same : (x : Mention) (c : Command) (start limit : Value) (step : ℕ) (env : Environment) → Same d (Loops.for_loop m x c start limit step env) (Loops.for_loop n x c start limit step env)
  for_loop_same x c start limit step env = same _ _ _ (λ w le. ap (closing (length w.memory)) ((for_test_same x.at (length w.memory) limit step _ _ (for_rounds_of_same x.at c (length w.memory) limit step (bind x.letters (cell (length w.memory) 0) env))).at (making (holds start ∷ []) w) le))

  pub ended_case_same : (c : Command) (mode : Mode) (env : Environment) → Same d (λ w. commands.ended_case (m.act c mode env w)) (λ w. commands.ended_case (n.act c mode env w))
  ended_case_same c mode env = same _ _ _ (λ w le. ap commands.ended_case ((g.act c mode env).at w le))

  pub choose_case_same : (place : ℕ) (v : Value) (c : Command) (env : Environment) → Same d (commands.choose_case m place v c env) (commands.choose_case n place v c env)
  choose_case_same place (number i) c env = same _ _ _ (λ w le. either_same (has_place (the_case (Some i)) env c) d _ _ _ _ (ended_case_same c (seeking (the_case (Some i))) env) (same _ _ _ (λ w le. either_same (has_place the_default env c) d _ _ _ _ (ended_case_same c (seeking the_default) env) (it d done) w le)) w le)
  choose_case_same place v c env = it d _

  pub starts_same : (is : Starts) (env : Environment) → Same d (Blocks.starts m is env) (Blocks.starts n is env)
  starts_same t.no_starts env = it d _
  starts_same (t.value e is) env = same _ _ _ (λ w le. with_same w d _ _ _ _ le ((s.value e env).at w le) ((g.value e env).at w le) (λ v. same _ _ _ (λ w le. with_same w d _ _ _ _ le ((N.starts_spends d m s is (past e env)).at w le) ((starts_same is (past e env)).at w le) (λ vs. it d _))))
  starts_same (t.vector i e is) env = same _ _ _ (λ w le. same_with w d _ _ _ le (turn_spent _ d _ (λ w lt. kept _ _ ((N.make_vec_spends d m s (acts_at e) (constant_in env e)).at w (omega (arith, lt)))) w le) (λ v. same _ _ _ (λ w le. with_same w d _ _ _ _ le ((N.starts_spends d m s is env).at w le) ((starts_same is env).at w le) (λ vs. it d _))))

  pub let_values_same : (ds : Definitions) (env : Environment) → Same d (Blocks.let_values m ds env) (Blocks.let_values n ds env)
  let_values_same t.no_definitions env = it d _
  let_values_same (t.define (t.variables i xs is) ds) env = same _ _ _ (λ w le. with_same w d _ _ _ _ le (turn_spent _ d _ (λ w lt. kept _ _ ((N.starts_spends d m s is env).at w (omega (arith, lt)))) w le) (turn_same _ d w _ _ le (under d _ _ (starts_same is env))) (λ vs. same _ _ _ (λ w le. with_same w d _ _ _ _ le ((N.let_values_spends d m s ds (past_definition (t.variables i xs is) env)).at w le) ((let_values_same ds (past_definition (t.variables i xs is) env)).at w le) (λ more. it d _))))
  let_values_same (t.define x ds) env = let_values_same ds (past_definition x env)

  pub declare_same : (x : Declaration) (env : Environment) → Same d (Blocks.declare m x env) (Blocks.declare n x env)
  declare_same (t.constants i k is) env = it d _
  declare_same (t.definitions i ds) env = same _ _ _ (λ w le. with_same w d _ _ _ _ le ((N.let_values_spends d m s ds (within_let ds env)).at w le) ((let_values_same ds (within_let ds env)).at w le) (λ ss. it d _))

  pub declare_all_same : (ds : Declarations) (env : Environment) → Same d (Blocks.declare_all m ds env) (Blocks.declare_all n ds env)
  declare_all_same t.no_declarations env = it d _
  declare_all_same (t.declare x ds) env = same _ _ _ (λ w le. with_same w d _ _ _ _ le ((N.declare_spends d m s x env).at w le) ((declare_same x env).at w le) (λ env. declare_all_same ds env))

  pub act_of_same : (p : Program) (c : Command) (mode : Mode) (env : Environment) → Same d (commands.act_of p m c mode env) (commands.act_of p n c mode env)
  act_of_same p (t.assign i xs es) mode env = assigned_same xs env es (past_each xs env)
  act_of_same p (t.call i f es) mode env = same _ _ _ (λ w le. ap (λ u. with u (λ _ w. done w)) ((applied_same i p f es env).at w le))
  act_of_same p (t.label i x c) mode env = g.act c (at_place (the_label x) mode) env
  act_of_same p (t.case_of i e c) mode env = g.act c (at_place (the_case (constant_in env e)) mode) env
  act_of_same p (t.default i c) mode env = g.act c (at_place the_default mode) env
  act_of_same p (t.when i b e c) forwards env = where_truth_same b e env _ _ (g.act c forwards (past e env))
  act_of_same p (t.when i b e c) (seeking x) env = g.act c (seeking x) (past e env)
  act_of_same p (t.test i e a b) forwards env = same _ _ _ (λ w le. with_same w d _ _ _ _ le ((s.truth e env).at w le) ((g.truth e env).at w le) (λ x. same _ _ _ (λ w le. either_same x d _ _ _ _ (g.act a forwards (past e env)) (g.act b forwards (past_command a (past e env))) w le)))
  act_of_same p (t.test i e a b) (seeking x) env = same _ _ _ (λ w le. either_same (has_place x env a) d _ _ _ _ (g.act a (seeking x) (past e env)) (g.act b (seeking x) (past_command a (past e env))) w le)
  act_of_same p (t.while i b e c) forwards env = where_truth_same b e env _ _ (rounds_of_same (t.while i b e c) forwards env)
  act_of_same p (t.while i b e c) (seeking x) env = rounds_of_same (t.while i b e c) (seeking x) env
  act_of_same p (t.for_loop i x a b h c) mode env = same _ _ _ (λ w le. with_same w d _ _ _ _ le ((s.value a env).at w le) ((g.value a env).at w le) (λ u. same _ _ _ (λ w le. with_same w d _ _ _ _ le ((s.value b (past a env)).at w le) ((g.value b (past a env)).at w le) (λ v. same _ _ _ (λ w le. same_with w d _ _ _ le (given_spent x.at _ (Loops.step_of env h) w) (λ k. for_loop_same x c u v k (past b (past a env))))))))
  act_of_same p (t.switch i e c) forwards env = same _ _ _ (λ w le. with_same w d _ _ _ _ le ((s.value e env).at w le) ((g.value e env).at w le) (λ v. choose_case_same (acts_at e) v c (past e env)))
  act_of_same p (t.switch i e c) (seeking x) env = ended_case_same c (seeking x) (past e env)
  act_of_same p (t.result i e) mode env = same _ _ _ (λ w le. ap (λ u. with u (λ v w. leaves (result v) w)) ((g.value e env).at w le))
  act_of_same p (t.block i t.no_declarations cs) mode env = in_order_same cs mode env
  act_of_same p (t.block i (t.declare x ds) cs) mode env = same _ _ _ (λ w le. ap (closing (length w.memory)) (with_same w d _ _ _ _ le ((N.declare_all_spends d m s (t.declare x ds) env).at w le) ((declare_all_same (t.declare x ds) env).at w le) (λ env. scope_same cs forwards env)))
  act_of_same p (t.repeat i c) mode env = rounds_of_same (t.repeat i c) mode env
  act_of_same p (t.repeat_while i b c e) mode env = rounds_of_same (t.repeat_while i b c e) mode env
  act_of_same p _ mode env = it d _

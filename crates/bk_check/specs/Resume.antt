-- What is still to be done: of what the parts inside give, an outcome of the whole.
use Rattle.std.specs.Prelude.{◌≡◌, ℕ, Bool, true, false, not, map, Option, Some, None, List, [], ◌∷◌, ◌++◌}
use Rattle.bk_tree.specs.Tree as t
use Rattle.bk_tree.specs.Tree.{Expression, Expressions, Command, Commands, Declarations, Starts, mention, expression, expressions_in, command_in, commands_in, declarations_in, definitions_in, starts_in}
use Rattle.bk_tree.specs.Parts.{at_command}
use Rattle.bk_meaning.specs.Values.{Value, unset}
use Rattle.bk_meaning.specs.World.{World, Exit, break, loop, endcase, goto, result, return, status, divide_by_zero, Outcome, gives, leaves, ends, undefined, going, each_way, with, either, given, Done, done, closing, forgetting, turn}
use Rattle.bk_meaning.specs.Causes.{no_place, no_constant}
use Rattle.bk_meaning.specs.Operators.{sum, sum_cause, operate_prefix}
use Rattle.bk_meaning.specs.Seeking.{the_label, Mode, forwards, seeking}
use Rattle.bk_meaning.specs.Environment.{Environment, past, past_command}
use Rattle.bk_meaning.specs.Library.{library}
use Rattle.bk_meaning.specs.Scopes.{in_order, landing, scope_of, alone}
use Rattle.bk_meaning.specs.Calls.{values, returned, call, return_exit}
use Rattle.bk_meaning.specs.Loops.{same_truth, where_truth, rounds_of, round_exit, again, for_loop, for_test, for_step}
use Rattle.bk_meaning.specs.Blocks as b
use Rattle.bk_meaning.specs.Blocks.{paired, let_values, bind_variables, declare_all, make_vec}
use Rattle.bk_meaning.specs.Commands.{assigned, case_exit, ended_case, choose_case}
use Rattle.bk_meaning.specs.Lasting.{Program}
use Rattle.bk_meaning.specs.Parts.{Target, at, byte_at, acts_at, nowhere, Meanings, fetch, store}
use Rattle.bk_meaning.specs.Expressions.{combined, address_in, judged, result_of, result_exit}
use Rattle.bk_check.specs.declared.frame.Thing.{Thing}
use Rattle.bk_check.specs.declared.frame.Thing.TheVariants as g
use Rattle.bk_check.specs.declared.frame.Exit.{Exit as Left}
use Rattle.bk_check.specs.declared.frame.Exit.TheVariants as x
use Rattle.bk_check.specs.declared.frame.OnValue.{OnValue}
use Rattle.bk_check.specs.declared.frame.OnValue.TheVariants as v
use Rattle.bk_check.specs.declared.frame.OnTruth.{OnTruth}
use Rattle.bk_check.specs.declared.frame.OnTruth.TheVariants as o
use Rattle.bk_check.specs.declared.frame.OnTarget.{OnTarget}
use Rattle.bk_check.specs.declared.frame.OnTarget.TheVariants as a
use Rattle.bk_check.specs.declared.frame.OnDone.{OnDone}
use Rattle.bk_check.specs.declared.frame.OnDone.TheVariants as d
use Rattle.bk_check.specs.declared.frame.Continuation.{Continuation}
use Rattle.bk_check.specs.declared.frame.Continuation.TheVariants as f
use Rattle.bk_check.specs.declared.frame.For.{For}
use Rattle.bk_check.specs.declared.frame.Let.{Let}
use Rattle.bk_check.specs.declared.frame.Subject.{Subject}
use Rattle.bk_check.specs.declared.frame.Subject.TheVariants as s
use Rattle.bk_check.specs.declared.frame.Next.{Next}
use Rattle.bk_check.specs.declared.frame.Next.TheVariants as n
use Rattle.bk_objects.specs.declared.worth.Worth.{Worth}
use Rattle.bk_check.specs.Views.{letters_in, mode_in, start_in}
use Rattle.bk_objects.specs.Views.{value_in, routine_in, cause_of}
use Rattle.bk_lasting.specs.Views.{env_in}
use Rattle.bk_objects.specs.Views.{place_in}
use Rattle.bk_meaning.specs.Full.{full}

-- what the parts inside give
pub data Given : Type 0 where
  a_value : (v : Value) → Given
  a_truth : (b : Bool) → Given
  a_target : (t : Target) → Given
  is_done : Given

abbrev pub tag : {A : Type 0} → (A → Given) → Outcome A → Outcome Given
tag k u = each_way (λ a w. gives (k a) w) (λ x w. leaves x w) u

abbrev pub done_tag : Done → Given
done_tag d = is_done

abbrev pub thing_in : Thing → Given
thing_in (g.Value v) = a_value (value_in v)
thing_in (g.Truth b) = a_truth b
thing_in (g.Target t) = a_target (place_in t)
thing_in g.Done = is_done

abbrev pub exit_in : Left → Exit
exit_in x.Break = break
exit_in x.Loop = loop
exit_in x.EndCase = endcase
exit_in (x.Goto name) = goto name.now
exit_in (x.Result v) = result (value_in v)
exit_in x.Return = return

-- the arguments that are left after these, then the procedure
abbrev pub applied_after : Program → ℕ → List Value → Expressions → Environment → Expression → Environment → World → Outcome Value
applied_after p l before es here f env w = with (values (full p) es here w) (λ vs w. with ((full p).value f env w) (λ g w. call p (full p) l g (before ++ vs) w))

-- a value, at the first of these destinations; and the assignments after it
abbrev pub assigned_to : Meanings → Value → Expressions → Environment → Expressions → Environment → World → Outcome Done
assigned_to m v (t.more x xs) there es env w = with (m.target x there w) (λ a w. with (store (acts_at x) a v w) (λ _ w. assigned m xs (past x there) es env w))
assigned_to m v t.none there es env w = done w

-- the rounds of a loop after one
abbrev pub next_round : Program → Command → Environment → World → Outcome Done
next_round p (t.while l b e c) env w = where_truth (full p) b e env (λ w. turn l w (λ w. (full p).rounds (t.while l b e c) forwards env w)) w
next_round p (t.repeat l c) env w = turn l w (λ w. (full p).rounds (t.repeat l c) forwards env w)
next_round p (t.repeat_while l b c e) env w = where_truth (full p) b e (past_command c env) (λ w. turn l w (λ w. (full p).rounds (t.repeat_while l b c e) forwards env w)) w
next_round p c env w = done w

-- a WHILE: its condition first, where it is begun from its beginning
abbrev pub begun_loop : Program → Bool → Expression → Command → Mode → Environment → World → Outcome Done
begun_loop p b e c forwards env w = where_truth (full p) b e env (λ w. rounds_of (full p) c forwards env w) w
begun_loop p b e c (seeking s) env w = rounds_of (full p) c (seeking s) env w

-- and those of a FOR
abbrev pub further_for : Program → For → World → Outcome Done
further_for p f w = turn f.name.now.at w (λ w. (full p).for_rounds f.name.now.at (command_in f.body.now) f.object (value_in f.limit) f.step (env_in f.env) w)

abbrev pub next_for : Program → For → World → Outcome Done
next_for p f w =
    with (for_step f.name.now.at f.object f.step w) (λ _ w. for_test f.name.now.at f.object (value_in f.limit) f.step (further_for p f) w)

-- The declarations of a block, and its commands.
abbrev pub declared_then : Program → Declarations → Commands → Environment → World → Outcome Done
declared_then p ds cs env w = with (declare_all (full p) ds env w) (λ env w. scope_of (full p) cs forwards env w)

-- A LET: its variables, the definitions that are left, and the values of some names in front of those.
abbrev pub bound_then : Program → Let → List b.Start → World → Outcome Done
bound_then p l ss w = with (bind_variables (map start_in l.starts.items ++ ss) (env_in l.following) w) (λ env w. declared_then p (declarations_in l.decls.now) (commands_in l.commands.now) env w)

abbrev pub defined_then : Program → Let → World → Outcome Done
defined_then p l w = with (let_values (full p) (definitions_in l.defs.now) (env_in l.here) w) (λ ss w. bound_then p l ss w)

abbrev pub started_then : Program → Let → List (List ℕ) → List Value → World → Outcome Done
started_then p l names vs w = with (let_values (full p) (definitions_in l.defs.now) (env_in l.here) w) (λ more w. bound_then p l (paired names vs ++ more) w)

abbrev pub starting_then : Program → Starts → Environment → List (List ℕ) → Let → World → Outcome Done
starting_then p is here names l w = with (b.starts (full p) is here w) (λ vs w. started_then p l names vs w)

-- Variables of a LET: what they begin with, and the definitions after them; and a VEC among that.
abbrev pub variables_then : Program → Starts → List (List ℕ) → Environment → Let → World → Outcome Done
variables_then p is names there l w = with (b.starts (full p) is (env_in l.here) w) (λ vs w. with (let_values (full p) (definitions_in l.defs.now) there w) (λ more w. bound_then p l (paired names vs ++ more) w))

abbrev pub vector_then : Program → ℕ → Option ℕ → Starts → Environment → List (List ℕ) → Let → World → Outcome Done
vector_then p spot size is here names l w = with (make_vec spot size w) (λ v w. with (with (b.starts (full p) is here w) (λ vs w. gives (v ∷ vs) w)) (λ vs w. started_then p l names vs w))

-- What goes on with a value, a truth, a place, and after a command.
abbrev pub value_goes : Program → OnValue → Outcome Value → Outcome Given
value_goes p (v.Contents e) u = tag a_value (with u (fetch (acts_at (expression e.now))))
value_goes p (v.Prefix e q) u = tag a_value (with u (operate_prefix (acts_at (expression e.now)) q))
value_goes p (v.Left e q b env) u = tag a_value (with u (λ x w. with ((full p).value (expression b.now) (env_in env) w) (combined (acts_at (expression e.now)) q x)))
value_goes p (v.Right e q x) u = tag a_value (with u (combined (acts_at (expression e.now)) q (value_in x)))
value_goes p (v.Judge e) u = tag a_truth (with u (judged (acts_at (expression e.now))))
value_goes p v.At u = tag a_target (with u (λ a w. gives (at a) w))
value_goes p (v.Vector e b env) u = tag a_target (with u (λ x w. with ((full p).value (expression b.now) (env_in env) w) (λ y w.
    with (given (acts_at (expression e.now)) (sum_cause x y) (sum w.memory x y) w) (λ a w. gives (at a) w))))
value_goes p (v.Offset e x) u = tag a_target (with u (λ y w. with (given (acts_at (expression e.now)) (sum_cause (value_in x) y) (sum w.memory (value_in x) y) w) (λ a w. gives (at a) w)))
value_goes p (v.String b env) u = tag a_target (with u (λ x w. with ((full p).value (expression b.now) (env_in env) w) (λ y w. gives (byte_at x y) w)))
value_goes p (v.Byte x) u = tag a_target (with u (λ y w. gives (byte_at (value_in x) y) w))
value_goes p (v.Argument spot es here before callee env) u = tag a_value (with u (λ v w. with (values (full p) (expressions_in es.now) (env_in here) w) (λ vs w.
    with ((full p).value (expression callee.now) (env_in env) w) (λ g w. call p (full p) spot g (map value_in before.items ++ v ∷ vs) w))))
value_goes p (v.Callee spot e before) u = tag a_value (with u (λ g w. call p (full p) spot g (map value_in before.items) w))
value_goes p v.Dropped u = tag done_tag (with u (λ _ w. done w))
value_goes p v.Result u = tag done_tag (with u (λ v w. leaves (result v) w))
value_goes p (v.Assigned xs there es env) u = tag done_tag (with u (λ v w. assigned_to (full p) v (expressions_in xs.now) (env_in there) (expressions_in es.now) (env_in env) w))
value_goes p (v.Switch e c env) u = tag done_tag (with u (λ v w. choose_case (full p) (acts_at (expression e.now)) v (command_in c.now) (env_in env) w))
value_goes p (v.ForStart x e env c step) u = tag done_tag (with u (λ v w. with ((full p).value (expression e.now) (env_in env) w) (λ h w. with (given x.now.at no_constant step w) (λ n w.
    for_loop (full p) (mention x.now) (command_in c.now) v h n (past (expression e.now) (env_in env)) w))))
value_goes p (v.ForLimit x env start c step) u = tag done_tag (with u (λ h w. with (given x.now.at no_constant step w) (λ n w. for_loop (full p) (mention x.now) (command_in c.now) (value_in start) h n (env_in env) w)))
value_goes p (v.Starts is here names l) u = tag done_tag (with u (λ v w. with (with (b.starts (full p) (starts_in is.now) (env_in here) w) (λ vs w. gives (v ∷ vs) w)) (λ vs w. started_then p l.value (letters_in names.now) vs w)))

abbrev pub truth_goes : Program → OnTruth → Outcome Bool → Outcome Given
truth_goes p (o.Choice a b env) u = tag a_value (with u (λ x w. either x (λ w. (full p).value (expression a.now) (env_in env) w) (λ w. (full p).value (expression b.now) (past (expression a.now) (env_in env)) w) w))
truth_goes p o.Not u = tag a_truth (with u (λ b w. gives (not b) w))
truth_goes p (o.And b env) u = tag a_truth (with u (λ x w. either x (λ w. (full p).truth (expression b.now) (env_in env) w) (λ w. gives false w) w))
truth_goes p (o.Or b env) u = tag a_truth (with u (λ x w. either x (λ w. gives true w) (λ w. (full p).truth (expression b.now) (env_in env) w) w))
truth_goes p (o.When b c env) u = tag done_tag (with u (λ x w. either (same_truth b x) (λ w. (full p).act (command_in c.now) forwards (env_in env) w) done w))
truth_goes p (o.Test a b env) u = tag done_tag (with u (λ x w. either x (λ w. (full p).act (command_in a.now) forwards (env_in env) w) (λ w. (full p).act (command_in b.now) forwards (past_command (command_in a.now) (env_in env)) w) w))
truth_goes p (o.First b c env) u = tag done_tag (with u (λ x w. either (same_truth b x) (λ w. rounds_of (full p) (command_in c.now) forwards (env_in env) w) done w))
truth_goes p (o.Further b c env) u = tag done_tag (with u (λ x w. either (same_truth b x) (λ w. turn (at_command (command_in c.now)) w (λ w. (full p).rounds (command_in c.now) forwards (env_in env) w)) done w))

abbrev pub target_goes : Program → OnTarget → Outcome Target → Outcome Given
target_goes p (a.Address e) u = tag a_value (with u (address_in (acts_at (expression e.now))))
target_goes p (a.Put e v xs there es env) u = tag done_tag (with u (λ a w. with (store (acts_at (expression e.now)) a (value_in v) w) (λ _ w. assigned (full p) (expressions_in xs.now) (env_in there) (expressions_in es.now) (env_in env) w)))

abbrev pub lands : Program → Commands → Environment → Exit → World → Outcome Done
lands p cs env x w = landing cs env (λ x w. (full p).scope cs (seeking (the_label x)) env w) x w

abbrev pub done_goes : Program → OnDone → Outcome Done → Outcome Given
done_goes p (d.After cs env) u = tag done_tag (with u (λ _ w. in_order (full p) (commands_in cs.now) forwards (env_in env) w))
done_goes p d.Body u = tag a_value (each_way (λ _ w. gives unset w) return_exit u)
done_goes p (d.Valof line) u = tag a_value (result_of u)
done_goes p (d.Scope cs env) u = tag done_tag (each_way (λ _ w. done w) (lands p (commands_in cs.now) (env_in env)) u)
done_goes p (d.Alone c env) u = tag done_tag (each_way (λ _ w. done w) (lands p (alone (command_in c.now)) (env_in env)) u)
done_goes p d.Cases u = tag done_tag (ended_case u)
done_goes p (d.Round c env) u = tag done_tag (again u (next_round p (command_in c.now) (env_in env)))
done_goes p (d.ForRound f) u = tag done_tag (again u (next_for p f))
done_goes p (d.Landed s) u = tag done_tag (each_way (λ _ w. done w) (lands p (commands_in s.commands) s.env) u)
done_goes p (d.LandedInBlock spot s) u = tag done_tag (each_way (λ _ w. done w) (lands p (alone (t.block spot t.no_declarations (commands_in s.commands))) s.env) u)

-- where a part is left
abbrev pub done_left : Program → OnDone → Exit → World → Outcome Given
done_left p (d.After cs env) x w = leaves x w
done_left p d.Body x w = tag a_value (return_exit x w)
done_left p (d.Valof line) x w = tag a_value (result_exit x w)
done_left p (d.Scope cs env) x w = tag done_tag (lands p (commands_in cs.now) (env_in env) x w)
done_left p (d.Alone c env) x w = tag done_tag (lands p (alone (command_in c.now)) (env_in env) x w)
done_left p d.Cases x w = tag done_tag (case_exit x w)
done_left p (d.Round c env) x w = tag done_tag (round_exit (next_round p (command_in c.now) (env_in env)) x w)
done_left p (d.ForRound f) x w = tag done_tag (round_exit (next_for p f) x w)
done_left p (d.Landed s) x w = tag done_tag (lands p (commands_in s.commands) s.env x w)
done_left p (d.LandedInBlock spot s) x w = tag done_tag (lands p (alone (t.block spot t.no_declarations (commands_in s.commands))) s.env x w)

abbrev pub resume_left : Program → Continuation → Exit → World → Outcome Given
resume_left p (f.Done g) x w = done_left p g x w
resume_left p (f.Returned c) x w = undefined c.at no_place w
resume_left p (f.Closing n) x w = leaves x (forgetting n w)
resume_left p f x w = leaves x w

-- The calls, and the objects, of a part that is left with a value or done. No frame goes on with what is not of its kind.
abbrev pub resume_value : Program → Continuation → Outcome Value → Outcome Given
resume_value p (f.Value g) u = value_goes p g u
resume_value p (f.Returned c) u = tag a_value (returned c.at c.calls u)
resume_value p (f.Closing n) u = tag a_value (closing n u)
resume_value p f u = each_way (λ _ w. undefined nowhere no_place w) (resume_left p f) u

abbrev pub resume_truth : Program → Continuation → Outcome Bool → Outcome Given
resume_truth p (f.Truth g) u = truth_goes p g u
resume_truth p f u = each_way (λ _ w. undefined nowhere no_place w) (resume_left p f) u

abbrev pub resume_target : Program → Continuation → Outcome Target → Outcome Given
resume_target p (f.Target g) u = target_goes p g u
resume_target p f u = each_way (λ _ w. undefined nowhere no_place w) (resume_left p f) u

abbrev pub resume_done : Program → Continuation → Outcome Done → Outcome Given
resume_done p (f.Done g) u = done_goes p g u
resume_done p (f.Closing n) u = tag done_tag (closing n u)
resume_done p f u = each_way (λ _ w. undefined nowhere no_place w) (resume_left p f) u

abbrev pub resume_given : Program → Continuation → Given → World → Outcome Given
resume_given p f (a_value v) w = resume_value p f (gives v w)
resume_given p f (a_truth b) w = resume_truth p f (gives b w)
resume_given p f (a_target t) w = resume_target p f (gives t w)
resume_given p f is_done w = resume_done p f (gives tt w)

abbrev pub resume : Program → Continuation → Outcome Given → Outcome Given
resume p f u = each_way (resume_given p f) (resume_left p f) u

-- by the frames, the innermost last
unfoldable pub resumed : Program → List Continuation → Outcome Given → Outcome Given
resumed p [] u = u
resumed p (f ∷ fs) u = resume p f (resumed p fs u)

-- where the subject of an act is
abbrev pub acts_in : Subject → ℕ
acts_in (s.Expr e) = acts_at (expression e.now)
acts_in (s.Prefixed e x) = acts_at (expression e.now)
acts_in (s.Operation e x y) = acts_at (expression e.now)
acts_in (s.Condition e) = acts_at (expression e.now)
acts_in (s.Switch e) = acts_at (expression e.now)
acts_in (s.Variable x object limit) = x.now.at
acts_in (s.Call spot e) = spot
acts_in (s.Library spot r n part) = spot
acts_in (s.Nothing spot) = spot

-- the number of the argument that is at fault, if the subject is a call of a routine of the library
abbrev pub argument_of : Subject → Option ℕ
argument_of (s.Library spot r n part) = Some n
argument_of _ = None

-- what comes next
abbrev pub outcome_next : Program → Next → World → Outcome Given
outcome_next p (n.Value e env) w = tag a_value ((full p).value (expression e.now) (env_in env) w)
outcome_next p (n.Truth e env) w = tag a_truth ((full p).truth (expression e.now) (env_in env) w)
outcome_next p (n.Target e env) w = tag a_target ((full p).target (expression e.now) (env_in env) w)
outcome_next p (n.Act c mode env) w = tag done_tag ((full p).act (command_in c.now) (mode_in mode) (env_in env) w)
outcome_next p (n.InOrder cs mode env) w = tag done_tag (in_order (full p) (commands_in cs.now) (mode_in mode) (env_in env) w)
outcome_next p (n.Declare ds cs env) w = tag done_tag (declared_then p (declarations_in ds.now) (commands_in cs.now) (env_in env) w)
outcome_next p (n.Define l) w = tag done_tag (defined_then p l.value w)
outcome_next p (n.Starts is here names l) w = tag done_tag (starting_then p (starts_in is.now) (env_in here) (letters_in names.now) l.value w)
outcome_next p (n.Gives t) w = gives (thing_in t) w
outcome_next p (n.Leaves x) w = leaves (exit_in x) w
outcome_next p (n.Library spot r vs) w = tag a_value (library spot (routine_in r) (map value_in vs.items) w)
outcome_next p (n.Status k) w = ends (status k) w
outcome_next p (n.DivideByZero s) w = ends (divide_by_zero (acts_in s)) w
outcome_next p (n.Undefined s why) w = undefined (acts_in s) (cause_of (argument_of s) why) w
outcome_next p (n.Going spot) w = going spot w

abbrev pub list_value : List Worth → List Value
list_value vs = map value_in vs

-- What is to be done comes to the same as this.
abbrev pub Comes : Program → List Continuation → Next → World → Outcome Given → Type 0
Comes p fs next w u = resumed p fs (outcome_next p next w) ≡ u

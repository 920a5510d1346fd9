-- Progress: each step takes a turn, or makes the weight of what is still to be done fall. So steps come to an end.
-- The cost of a frame bounds what its going on adds to the weight of the frames below it; its weight is one more.
use Rattle.std.specs.Prelude.{◌≡◌, ℕ, ◌+◌, ◌*◌, ◌<◌, ◌≤◌, Bool, true, false, List, [], ◌∷◌, length, sum_by, Result, Ok, Err}
use Rattle.std.specs.declared.alloc.AllocError.{AllocError}
use Rattle.bk_tree.specs.declared.tree.Expr.{Expr}
use Rattle.bk_tree.specs.declared.tree.Command.{Command}
use Rattle.bk_tree.specs.declared.tree.Decl.{Decl}
use Rattle.bk_tree.specs.declared.tree.Init.{Init}
use Rattle.bk_tree.specs.Tree as t
use Rattle.bk_tree.specs.Tree.{Declaration, Declarations, Definitions, declarations_in, definitions_in}
use Rattle.bk_check.specs.declared.frame.Exit.{Exit}
use Rattle.bk_check.specs.declared.frame.Exit.TheVariants as x
use Rattle.bk_check.specs.declared.frame.OnValue.{OnValue}
use Rattle.bk_check.specs.declared.frame.OnValue.TheVariants as v
use Rattle.bk_check.specs.declared.frame.OnTruth.{OnTruth}
use Rattle.bk_check.specs.declared.frame.OnTruth.TheVariants as o
use Rattle.bk_check.specs.declared.frame.OnTarget.{OnTarget}
use Rattle.bk_check.specs.declared.frame.OnTarget.TheVariants as a
use Rattle.bk_check.specs.declared.frame.OnDone.{OnDone}
use Rattle.bk_check.specs.declared.frame.OnDone.TheVariants as d
use Rattle.bk_check.specs.declared.frame.Continuation.{Continuation}
use Rattle.bk_check.specs.declared.frame.Continuation.TheVariants as f
use Rattle.bk_check.specs.declared.frame.Let.{Let}
use Rattle.bk_check.specs.declared.frame.Next.{Next}
use Rattle.bk_check.specs.declared.frame.Next.TheVariants as n
use Rattle.bk_check.specs.declared.machine.Evaluator.{Evaluator}

-- commands in order, a scope of commands, assignments to these destinations, and a call with these arguments
abbrev pub order_cost : List Command → ℕ
order_cost cs = 3 * length cs

abbrev pub scope_cost : List Command → ℕ
scope_cost cs = 2 * order_cost cs + 4

abbrev pub assign_cost : List Expr → ℕ
assign_cost es = 4 * length es

abbrev pub arguments_cost : List Expr → ℕ
arguments_cost es = 2 * length es + 9

-- definitions of a LET, the declarations of a block and its commands, what is left of a LET, and what variables begin with
abbrev pub definitions_cost : Definitions → ℕ
definitions_cost t.no_definitions = 0
definitions_cost (t.define d ds) = definitions_cost ds + 1

abbrev pub declaration_cost : Declaration → ℕ
declaration_cost (t.constants l s is) = 1
declaration_cost (t.definitions l ds) = definitions_cost ds + 2

abbrev pub declarations_cost : Declarations → ℕ
declarations_cost t.no_declarations = 0
declarations_cost (t.declare d ds) = declaration_cost d + declarations_cost ds

abbrev pub declare_cost : List Decl → List Command → ℕ
declare_cost ds cs = declarations_cost (declarations_in ds) + scope_cost cs

abbrev pub define_cost : Let → ℕ
define_cost l = definitions_cost (definitions_in l.defs.now) + declare_cost l.decls.now l.commands.now + 1

abbrev pub starts_cost : List Init → Let → ℕ
starts_cost is l = 3 * length is + define_cost l + 1

-- frames
abbrev pub value_cost : OnValue → ℕ
value_cost (v.Left e q b env) = 2
value_cost (v.Vector e b env) = 2
value_cost (v.String b env) = 2
value_cost (v.Argument spot es here before callee env) = arguments_cost es.now
value_cost (v.Callee spot e before) = 7
value_cost (v.Assigned xs there es env) = assign_cost xs.now
value_cost (v.Switch e c env) = 2
value_cost (v.ForStart x e env c step) = 8
value_cost (v.ForLimit x env start c step) = 6
value_cost (v.Starts is here names l) = starts_cost is.now l.value + 1
value_cost g = 0

abbrev pub truth_cost : OnTruth → ℕ
truth_cost (o.First b c env) = 4
truth_cost o.Not = 0
truth_cost (o.Further b c env) = 0
truth_cost g = 1

abbrev pub target_cost : OnTarget → ℕ
target_cost (a.Address e) = 0
target_cost (a.Put e v xs there es env) = assign_cost xs.now + 2

abbrev pub done_cost : OnDone → ℕ
done_cost (d.After cs env) = order_cost cs.now + 1
done_cost (d.Scope cs env) = order_cost cs.now + 2
done_cost (d.Landed s) = order_cost s.commands + 2
done_cost (d.LandedInBlock spot s) = 2
done_cost (d.Alone c env) = 2
done_cost (d.Round c env) = 2
done_cost g = 0

abbrev pub cost_of : Continuation → ℕ
cost_of (f.Value g) = value_cost g
cost_of (f.Truth g) = truth_cost g
cost_of (f.Target g) = target_cost g
cost_of (f.Done g) = done_cost g
cost_of g = 0

abbrev pub weight_of : Continuation → ℕ
weight_of f = cost_of f + 1

abbrev pub frames_weight : List Continuation → ℕ
frames_weight fs = sum_by weight_of fs

-- what comes next
abbrev pub next_weight : Next → ℕ
next_weight (n.Value e env) = 1
next_weight (n.Truth e env) = 1
next_weight (n.Target e env) = 1
next_weight (n.Act c mode env) = 1
next_weight (n.InOrder cs mode env) = order_cost cs.now + 1
next_weight (n.Declare ds cs env) = declare_cost ds.now cs.now + 1
next_weight (n.Define l) = define_cost l.value + 1
next_weight (n.Starts is here names l) = starts_cost is.now l.value + 1
next_weight (n.Library spot r vs) = 1
next_weight next = 0

-- Frames of this weight, left so. Where a GOTO lands its scope is pushed again, and no turn is taken.
abbrev pub exit_weight : Exit → ℕ → ℕ
exit_weight (x.Goto name) k = 2 * k
exit_weight x k = k

-- what is still to be done, and what is left to be done after a step; none where no memory was left
abbrev pub weight : List Continuation → Next → ℕ
weight fs (n.Leaves x) = exit_weight x (frames_weight fs)
weight fs next = frames_weight fs + next_weight next

abbrev pub left_weight : List Continuation → Result Next AllocError → ℕ
left_weight fs (Ok next) = weight fs next
left_weight fs (Err e) = 0

-- A part of a step takes a turn, or leaves at most so much above the frames; the same where they were left so, and for any frames.
abbrev pub Within : ℕ → Evaluator → Evaluator → Result Next AllocError → Type 0
Within k before after r = (after.turns ≤ before.turns) × (before.turns ≤ after.turns → left_weight after.frames.items r ≤ frames_weight before.frames.items + k)

abbrev pub LeftWithin : Exit → ℕ → Evaluator → Evaluator → Result Next AllocError → Type 0
LeftWithin x k before after r = (after.turns ≤ before.turns) × (before.turns ≤ after.turns → left_weight after.frames.items r ≤ exit_weight x (frames_weight before.frames.items + k))

abbrev pub Adds : ℕ → Result Next AllocError → Type 0
Adds k r = (fs : List Continuation) → left_weight fs r ≤ frames_weight fs + k

-- where no step goes on: at the end of a run, and at a call of the library
abbrev pub stands : List Continuation → Next → Bool
stands fs (n.Library spot r vs) = true
stands fs (n.Status k) = true
stands fs (n.DivideByZero s) = true
stands fs (n.Undefined s why) = true
stands fs (n.Going spot) = true
stands [] (n.Gives t) = true
stands [] (n.Leaves x) = true
stands fs next = false

-- Elsewhere a step takes a turn, or the weight falls. No step gives turns back.
abbrev pub Falls : Evaluator → Next → Evaluator → Result Next AllocError → Type 0
Falls before next after r = (after.turns ≤ before.turns) × (stands before.frames.items next ≡ false → before.turns ≤ after.turns → left_weight after.frames.items r < weight before.frames.items next)

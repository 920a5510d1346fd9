use Rattle.bk_frames.proofs.Terms.{◌≡◌, ◌↔◌, Bool, true, ◌||◌, ◌+◌, refl, sym, subst, ap, ◌∙◌, ParserState, Call, expression, command_in, depth, nodes, depth_of_command, nodes_of_command, Stack, State, node_of, Limit, counted, has_budget, category_of, Completes, state}
use Rattle.bk_frames.proofs.Sizes.{node_kept}
use Rattle.bk_frames.proofs.Asks.{asks_want, asks_have, asks_begin, asks_maybe, asks_did, asks_due}
use Rattle.bk_frames.proofs.limits.has_budget_for.Goals as goal

answer : (b : Bool) (st : Stack) (now : ParserState) (x : State) (q r : Bool) → state st now ≡ x → r ≡ q → Completes (Limit b) x ↔ (q ≡ true) → Completes (Limit b) (state st now) ↔ (r ≡ true)
answer b st now x q r e p h =
    let P : State → Type 0 = λ y. Completes (Limit b) y ↔ (r ≡ true) in
    let Q : Bool → Type 0 = λ z. Completes (Limit b) x ↔ (z ≡ true) in
    subst P (sym e) (subst Q (sym p) h)

pub returns-in-Want : goal.returns-in-Want
returns-in-Want c st h = answer c.args.counts st c.args.now.now _ _ c.has_either_budget.result (ap (state st) c.in-Want.is) (c.has_either_budget.ensures 0 0 1 1 refl refl) (asks_want c.args.counts st c.args.budgets.now h)

pub returns-in-Have : goal.returns-in-Have
returns-in-Have c st h =
    let e = expression c.in-Have.sized.expr in
    answer c.args.counts st c.args.now.now _ _ c.has_either_budget-in-Have.result (ap (state st) c.in-Have.is)
    (c.has_either_budget-in-Have.ensures (depth e) (nodes e) (depth e + 1) (nodes e + 1) c.in-Have.sized.sizes (c.of_node.ensures ∙ ap node_of c.in-Have.sized.sizes ∙ node_kept (depth e) (nodes e))
    ∙ ap (λ w. has_budget c.args.budgets.now w (depth e) (counted c.args.counts (nodes e)) || has_budget c.args.budgets.now Call (depth e + 1) (counted c.args.counts (nodes e + 1))) (c.category_of.ensures ∙ ap category_of c.form_of.ensures))
    (asks_have c.args.counts st c.args.budgets.now h e)

pub returns-in-Begin : goal.returns-in-Begin
returns-in-Begin c st h = answer c.args.counts st c.args.now.now _ _ c.has_budget.result (ap (state st) c.in-Begin.is) (c.has_budget.ensures 1 1 refl) (asks_begin c.args.counts st c.args.budgets.now h)

pub returns-in-Maybe : goal.returns-in-Maybe
returns-in-Maybe c st h = answer c.args.counts st c.args.now.now _ _ c.has_either_budget-in-Maybe.result (ap (state st) c.in-Maybe.is) (c.has_either_budget-in-Maybe.ensures 0 0 1 1 refl refl) (asks_maybe c.args.counts st c.args.budgets.now h)

pub returns-in-Did : goal.returns-in-Did
returns-in-Did c st h =
    let a = command_in c.in-Did.done.command in
    answer c.args.counts st c.args.now.now _ _ c.has_budget-in-Did.result (ap (state st) c.in-Did.is) (c.has_budget-in-Did.ensures (depth_of_command a) (nodes_of_command a) c.in-Did.done.sizes) (asks_did c.args.counts st c.args.budgets.now h a)

pub returns-in-Due : goal.returns-in-Due
returns-in-Due c st h = answer c.args.counts st c.args.now.now _ _ c.has_budget-in-Due.result (ap (state st) c.in-Due.is) (c.has_budget-in-Due.ensures 0 0 refl) (asks_due c.args.counts st c.args.budgets.now h)

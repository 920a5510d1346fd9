-- What is known of an expression, from what is known of its parts.
use Rattle.bk_check.proofs.Terms.{◌≡◌, ◌<◌, ◌-◌, ℕ, ◌+◌, List, Bool, true, false, refl, ap, sym, ◌∙◌, arith, Expression, Environment, objects, past, acts_at, Value, Memory, World, Outcome, gives, with, either, Program, Target, value_of, truth_of, target_of, full, turn, turn_left, full_value, full_truth, full_target, ◌∷◌, [], ◌++◌, Worth, value_in, list_value, Expressions, values, call, applied_after, Commands, Command, Done, forwards, seeking, Sought, has_place, in_order, commands_in, length, past_command, expression, expressions_in}
use Rattle.bk_tree.specs.Tree as tree
use Rattle.bk_tree.specs.declared.tree.Operator.TheVariants as o
use Rattle.bk_tree.specs.declared.tree.Prefix.TheVariants as q
use Rattle.bk_meaning.specs.Environment.{Named}
use Rattle.bk_meaning.specs.Parts.{Meanings, fetch, store}
use Rattle.bk_meaning.specs.Commands.{assigned}
use Rattle.bk_check.specs.Known.{Known}
use Rattle.bk_check.specs.Resume.{assigned_to}
use Rattle.bk_tree.specs.declared.tree.Command.{Command as Act}
use Rattle.bk_tree.specs.declared.tree.Expr.{Expr}
use Rattle.bk_check.proofs.Arguments.{argument_then}
use Rattle.bk_check.proofs.Outcomes.{with_with, with_done}
use Rattle.bk_check.proofs.Resuming.{past_none}

-- the same of what comes to the same
pub known_as : {A : Type 0} (names : List Named) (m : Memory) (t : ℕ) (u v : Environment → World → Outcome A) (x : A) (k : ℕ) → ((there : Environment) (w : World) → u there w ≡ v there w) → Known names m t u x k → Known names m t v x k
known_as names m t u v x k same h there w n memory turns = sym (same there w) ∙ h there w n memory turns

turned : {A : Type 0} (names : List Named) (m : Memory) (t k j l : ℕ) (all inside : Environment → World → Outcome A) (x : A) → ((there : Environment) (w : World) → all there w ≡ turn l w (λ w. inside there w)) → t ≡ k + 1 → Known names m k inside x j → Known names m t all x j
turned names m t k j l all inside x full one h there w n memory turns =
    let lt : 0 < w.turns = omega (arith, one, turns) in
    let left : w.turns - 1 ≡ k = omega (arith, one, turns) in
    full there w ∙ sym (turn_left l w (λ (w : World). inside there w) lt) ∙ h there (record w { turns = w.turns - 1 }) n memory left

-- the turn of a node
pub value_turned : (p : Program) (names : List Named) (m : Memory) (t k j : ℕ) (e : Expression) (x : Value) → t ≡ k + 1 → Known names m k (value_of p (full p) e) x j → Known names m t ((full p).value e) x j
value_turned p names m t k j e x one h = turned names m t k j (acts_at e) ((full p).value e) (value_of p (full p) e) x (full_value p e) one h

pub truth_turned : (p : Program) (names : List Named) (m : Memory) (t k j : ℕ) (e : Expression) (x : Bool) → t ≡ k + 1 → Known names m k (truth_of p (full p) e) x j → Known names m t ((full p).truth e) x j
truth_turned p names m t k j e x one h = turned names m t k j (acts_at e) ((full p).truth e) (truth_of p (full p) e) x (full_truth p e) one h

pub target_turned : (p : Program) (names : List Named) (m : Memory) (t k j : ℕ) (e : Expression) (x : Target) → t ≡ k + 1 → Known names m k (target_of (full p) e) x j → Known names m t ((full p).target e) x j
target_turned p names m t k j e x one h = turned names m t k j (acts_at e) ((full p).target e) (target_of (full p) e) x (full_target p e) one h

pub contents_known : (p : Program) (names : List Named) (m : Memory) (t k : ℕ) (l : ℕ) (e : Expression) (a x : Value) → Known names m t ((full p).value e) a k → ((l : ℕ) (w : World) → w.memory ≡ m → fetch l a w ≡ gives x w)
    → Known names m t (value_of p (full p) (tree.unary l q.Contents e)) x k
contents_known p names m t k l e a x known read there w n memory turns =
    ap (λ (u : Outcome Value). with u (fetch l)) (known there w n memory turns) ∙ read l (record w { turns = k }) memory

pub both_known : (p : Program) (names : List Named) (m : Memory) (t k j : ℕ) (l i : ℕ) (a b : Expression) (x y : Bool) → x ≡ true → Known names m t ((full p).truth a) x k → Known names m k ((full p).truth b) y j
    → Known names m t (truth_of p (full p) (tree.binary l o.Both i a b)) y j
both_known p names m t k j l i a b x y is first second there w n memory turns =
    ap (λ (u : Outcome Bool). with u (λ (x : Bool) (w : World). either x (λ w. (full p).truth b (past a there) w) (λ w. gives false w) w)) (first there w n memory turns)
    ∙ ap (λ (x : Bool). either x (λ w. (full p).truth b (past a there) w) (λ w. gives false w) (record w { turns = k })) is
    ∙ second (past a there) (record w { turns = k }) n memory refl

pub or_else_known : (p : Program) (names : List Named) (m : Memory) (t k j : ℕ) (l i : ℕ) (a b : Expression) (x y : Bool) → x ≡ false → Known names m t ((full p).truth a) x k → Known names m k ((full p).truth b) y j
    → Known names m t (truth_of p (full p) (tree.binary l o.Either i a b)) y j
or_else_known p names m t k j l i a b x y is first second there w n memory turns =
    ap (λ (u : Outcome Bool). with u (λ (x : Bool) (w : World). either x (λ w. gives true w) (λ w. (full p).truth b (past a there) w) w)) (first there w n memory turns)
    ∙ ap (λ (x : Bool). either x (λ w. gives true w) (λ w. (full p).truth b (past a there) w) (record w { turns = k })) is
    ∙ second (past a there) (record w { turns = k }) n memory refl

-- a world with the turns that it has
pub still_world : {A : Type 0} (w : World) (t : ℕ) (f : World → A) → w.turns ≡ t → f (record w { turns = t }) ≡ f w
still_world w t f turns = ap (λ (n : ℕ). f (record w { turns = n })) (sym turns)

-- an argument that is known, after those before it
pub argument_known : (p : Program) (spot : ℕ) (before more : List Worth) (x : Worth) (e : Expression) (es : Expressions) (here : Environment) (callee : Expression) (env : Environment) (w : World) (k : ℕ) → (full p).value e here w ≡ gives (value_in x) (record w { turns = k }) → objects e ≡ 0 → more ≡ before ++ x ∷ []
    → applied_after p spot (list_value more) es here callee env (record w { turns = k }) ≡ applied_after p spot (list_value before) (tree.more e es) here callee env w
argument_known p spot before more x e es here callee env w k known none is =
    let go = λ (vs : List Value) (w : World). with ((full p).value callee env w) (λ g w. call p (full p) spot g (list_value before ++ vs) w) in
    let rest = λ (u : Outcome Value). with (with u (λ v w. with (values (full p) es (past e here) w) (λ vs w. gives (v ∷ vs) w))) go in
    let there : past e here ≡ here = past_none e here none in
    argument_then p spot before more x es here callee env (record w { turns = k }) is
    ∙ ap (λ (h : Environment). with (values (full p) es h (record w { turns = k })) (λ vs w. go (value_in x ∷ vs) w)) (sym there)
    ∙ sym (with_with (values (full p) es (past e here) (record w { turns = k })) (λ vs w. gives (value_in x ∷ vs) w) go)
    ∙ ap rest (sym known)

-- seeking passes over a command
pub pass_one : (m : Meanings) (s : Sought) (c : Command) (cs : Commands) (env next : Environment) (w : World) → has_place s env c ≡ false → next ≡ past_command c env → in_order m cs (seeking s) next w ≡ in_order m (tree.also c cs) (seeking s) env w
pass_one m s c cs env next w out is =
    ap (λ (e : Environment). in_order m cs (seeking s) e w) is
    ∙ sym (ap (λ (b : Bool). either b (λ w. with (m.act c (seeking s) env w) (λ _ w. in_order m cs forwards (past_command c env) w)) (λ w. in_order m cs (seeking s) (past_command c env) w) w) out)

-- the last command
pub last_one : (m : Meanings) (cs : List Act) (env : Environment) (u : Outcome Done) → length cs ≡ 0 → u ≡ with u (λ _ w. in_order m (commands_in cs) forwards env w)
last_one m [] env u is = sym (with_done u)
last_one m (c ∷ cs) env u is = absurd (omega (arith, is))

assigned_next : (m : Meanings) (v : Value) (x : Expression) (xs : Expressions) (there env : Environment) (e : Expression) (es : Expressions) (w after : World) → m.value e env w ≡ gives v after → past e env ≡ env → assigned_to m v (tree.more x xs) there es env after ≡ assigned m (tree.more x xs) there (tree.more e es) env w
assigned_next m v x xs there env e es w after known none =
    sym (ap (λ (u : Outcome Value). with u (λ v w. with (m.target x there w) (λ a w. with (store (acts_at x) a v w) (λ _ w. assigned m xs (past x there) es (past e env) w)))) known
    ∙ ap (λ (h : Environment). with (m.target x there after) (λ a w. with (store (acts_at x) a v w) (λ _ w. assigned m xs (past x there) es h w))) none)

-- the first of some assignments, where its value is known
pub assigned_first : (m : Meanings) (v : Value) (dests values : List Expr) (first : Expr) (rest : List Expr) (there env : Environment) (w after : World) → 0 < length dests → values ≡ first ∷ rest → m.value (expression first) env w ≡ gives v after → objects (expression first) ≡ 0
    → assigned_to m v (expressions_in dests) there (expressions_in rest) env after ≡ assigned m (expressions_in dests) there (expressions_in values) env w
assigned_first m v [] values first rest there env w after lt is known none = absurd (omega (arith, lt))
assigned_first m v (d ∷ ds) values first rest there env w after lt is known none =
    rw is (assigned_next m v (expression d) (expressions_in ds) there env (expression first) (expressions_in rest) w after known (past_none (expression first) env none))

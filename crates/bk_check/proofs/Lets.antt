-- A LET, done in steps.
use Rattle.std.specs.Global.{Global}
use Rattle.bk_check.proofs.Terms.{◌≡◌, ℕ, zero, suc, Vec, List, [], ◌∷◌, ◌++◌, map, refl, ap, sym, ◌∙◌, Mention, Expression, Definition, Definitions, Starts, definitions_in, declarations_in, commands_in, Value, World, Outcome, gives, with, Done, turn, turn_of, Environment, acts_at, past, past_definition, constant_in, letters, Program, Start, starts, make_vec, paired, let_values, bind_variables, full, env_in, Let, start_in, declared_then, started_then, starting_then}
use Rattle.bk_tree.specs.Tree as t
use Rattle.bk_check.specs.declared.frame.Start as f
use Rattle.bk_check.proofs.Outcomes.{with_with, with_each, with_turn}

variables_turn : (p : Program) (l : ℕ) (xs : List Mention) (is : Starts) (ds : Definitions) (here : Environment) (go : List Start → World → Outcome Done) (w : World) →
    with (let_values (full p) (t.define (t.variables l xs is) ds) here w) go ≡ turn l w (λ w. with (starts (full p) is here w) (λ vs w. with (with (let_values (full p) ds (past_definition (t.variables l xs is) here) w) (λ more w. gives (paired (letters xs) vs ++ more) w)) go))
variables_turn p l xs is ds here go w =
    with_with (turn l w (λ w. starts (full p) is here w)) (λ vs w. with (let_values (full p) ds (past_definition (t.variables l xs is) here) w) (λ more w. gives (paired (letters xs) vs ++ more) w)) go
    ∙ with_turn _ w (λ w. starts (full p) is here w) (λ vs w. with (with (let_values (full p) ds (past_definition (t.variables l xs is) here) w) (λ more w. gives (paired (letters xs) vs ++ more) w)) go)

turn_each : {A : Type 0} (l : ℕ) (w : World) (f g : World → Outcome A) → ((w : World) → f w ≡ g w) → turn l w f ≡ turn l w g
turn_each l w f g h = by w.turns
  where
    by : (n : ℕ) → turn_of l n w f ≡ turn_of l n w g
    by zero = refl
    by (suc n) = h (record w { turns = n })

variables_are : (p : Program) (l : ℕ) (xs : List Mention) (is : Starts) (ds : Definitions) (here : Environment) (go : List Start → World → Outcome Done) (w : World) →
    turn l w (λ w. with (starts (full p) is here w) (λ vs w. with (let_values (full p) ds (past_definition (t.variables l xs is) here) w) (λ more w. go (paired (letters xs) vs ++ more) w))) ≡ with (let_values (full p) (t.define (t.variables l xs is) ds) here w) go
variables_are p l xs is ds here go w =
    turn_each _ w _ _ (λ w. sym (with_each (starts (full p) is here w) _ _ (λ vs w. with_with (let_values (full p) ds (past_definition (t.variables l xs is) here) w) (λ more w. gives (paired (letters xs) vs ++ more) w) go)))
    ∙ sym (variables_turn p l xs is ds here go w)

pub let_turn : (p : Program) (l : ℕ) (xs : List Mention) (is : Starts) (ds : Definitions) (here there : Environment) (go : List Start → World → Outcome Done) (w : World) (d : Definition) → d ≡ t.variables l xs is → there ≡ past_definition d here →
    turn l w (λ w. with (starts (full p) is here w) (λ vs w. with (let_values (full p) ds there w) (λ more w. go (paired (letters xs) vs ++ more) w))) ≡ with (let_values (full p) (t.define d ds) here w) go
let_turn p l xs is ds here there go w d e h =
    ap (λ (x : Environment). turn l w (λ w. with (starts (full p) is here w) (λ vs w. with (let_values (full p) ds x w) (λ more w. go (paired (letters xs) vs ++ more) w)))) (h ∙ ap (λ (y : Definition). past_definition y here) e)
    ∙ variables_are p l xs is ds here go w
    ∙ sym (ap (λ (y : Definition). with (let_values (full p) (t.define y ds) here w) go) e)

-- a value in front of others
pub value_then : (p : Program) (e : Expression) (is : Starts) (here : Environment) (go : List Value → World → Outcome Done) (w : World) →
    with ((full p).value e here w) (λ v w. with (with (starts (full p) is (past e here) w) (λ vs w. gives (v ∷ vs) w)) go) ≡ with (starts (full p) (t.value e is) here w) go
value_then p e is here go w = sym (with_with ((full p).value e here w) (λ v w. with (starts (full p) is (past e here) w) (λ vs w. gives (v ∷ vs) w)) go)

pub vector_is : (p : Program) (l : ℕ) (e : Expression) (is : Starts) (here : Environment) (go : List Value → World → Outcome Done) (w : World) →
    turn l w (λ w. with (make_vec (acts_at e) (constant_in here e) w) (λ v w. with (with (starts (full p) is here w) (λ vs w. gives (v ∷ vs) w)) go)) ≡ with (starts (full p) (t.vector l e is) here w) go
vector_is p l e is here go w = sym (
    with_with (turn l w (λ w. make_vec (acts_at e) (constant_in here e) w)) (λ v w. with (starts (full p) is here w) (λ vs w. gives (v ∷ vs) w)) go
    ∙ with_turn _ w (λ w. make_vec (acts_at e) (constant_in here e) w) (λ v w. with (with (starts (full p) is here w) (λ vs w. gives (v ∷ vs) w)) go))

-- a variable more has its value
one_more : (xs : List f.Start) (x : f.Start) (ys : List f.Start) (ss : List Start) → ys ≡ xs ++ x ∷ [] → map start_in ys ++ ss ≡ map start_in xs ++ start_in x ∷ ss
one_more xs x ys ss is = ap (λ (zs : List f.Start). map start_in zs ++ ss) is ∙ by xs
  where
    by : (zs : List f.Start) → map start_in (zs ++ x ∷ []) ++ ss ≡ map start_in zs ++ start_in x ∷ ss
    by [] = refl
    by (z ∷ zs) = ap (λ (rest : List Start). start_in z ∷ rest) (by zs)

pub named_then : (p : Program) (is : Starts) (here : Environment) (names others : List (List ℕ)) (x : f.Start) (l l' : Let) (more : Vec f.Start Global) (w : World) →
    l' ≡ l → names ≡ x.name.now.letters.items ∷ others → more.items ≡ l'.starts.items ++ x ∷ [] →
    starting_then p is here others (record l' { starts = more }) w ≡ with (with (starts (full p) is here w) (λ vs w. gives ((start_in x).value ∷ vs) w)) (λ vs w. started_then p l names vs w)
named_then p is here names others x l l' more w same named is_more =
    with_each (starts (full p) is here w) _ _ (λ vs w.
    with_each (let_values (full p) (definitions_in l'.defs.now) (env_in l'.here) w) _ _ (λ ss w.
    ap (λ (zs : List Start). with (bind_variables zs (env_in l'.following) w) (λ env w. declared_then p (declarations_in l'.decls.now) (commands_in l'.commands.now) env w))
    (one_more l'.starts.items x more.items (paired others vs ++ ss) is_more))
    ∙ ap (λ (m : Let). started_then p m (x.name.now.letters.items ∷ others) ((start_in x).value ∷ vs) w) same
    ∙ ap (λ (xs : List (List ℕ)). started_then p l xs ((start_in x).value ∷ vs) w) (sym named))
    ∙ sym (with_with (starts (full p) is here w) (λ vs w. gives ((start_in x).value ∷ vs) w) (λ vs w. started_then p l names vs w))

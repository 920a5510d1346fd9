-- Where a GOTO lands: the commands from a label's place on do what seeking the label from the first of them does.
use Rattle.bk_check.proofs.Terms.{◌≡◌, ℕ, ◌+◌, ◌≤◌, Bool, true, false, ◌||◌, Option, Some, None, List, [], ◌∷◌, length, refl, sym, ap, ◌∙◌, arith, ⊎_elim, cases_Bool, cond-true, cond-false, append-nil, fun_ext, Command, Commands, command_in, commands_in, block, Environment, following, labelled, World, Outcome, Done, done, with, turn, either, each_way, goto, leaves, the_label, seeking, has_place, one_has_place, in_order, alone, Program, full, full_act, lands}
use Rattle.bk_tree.specs.Tree as t
use Rattle.bk_tree.specs.declared.tree.Command.{Command as Act}
use Rattle.bk_meaning.specs.Environment.{objects_of_command, bind_each, label}
use Rattle.bk_meaning.specs.Parts.{Meanings}
use Rattle.bk_meaning.specs.Seeking.{same_place}
use Rattle.bk_scope.specs.Entering.{labels_of_each}
use Rattle.bk_check.specs.Places.{nowhere, place_from, stands_in}
use Rattle.bk_check.proofs.AtOnce.{pass_one}
use Rattle.bk_check.proofs.Outcomes.{with_done}
use Rattle.bk_check.proofs.Scoped.{scope_is, land_here, land_past}

-- a label stands where it does, whatever names mean
mutual
  label_stands : (x : List ℕ) (u v : Environment) (c : Command) → has_place (the_label x) u c ≡ has_place (the_label x) v c
  label_stands x u v (t.label l y c) = ap (λ (b : Bool). same_place (the_label x) (the_label y) || b) (label_stands x u v c)
  label_stands x u v (t.case_of l e c) = label_stands x u v c
  label_stands x u v (t.default l c) = label_stands x u v c
  label_stands x u v (t.when l b e c) = label_stands x u v c
  label_stands x u v (t.test l e a b) = ap (λ (y : Bool). y || has_place (the_label x) u b) (label_stands x u v a) ∙ ap (λ (y : Bool). has_place (the_label x) v a || y) (label_stands x u v b)
  label_stands x u v (t.while l b e c) = label_stands x u v c
  label_stands x u v (t.switch l e c) = label_stands x u v c
  label_stands x u v (t.block l t.no_declarations cs) = label_stands_one x u v cs
  label_stands x u v (t.repeat l c) = label_stands x u v c
  label_stands x u v (t.repeat_while l b c e) = label_stands x u v c
  label_stands x u v _ = refl

  label_stands_one : (x : List ℕ) (u v : Environment) (cs : Commands) → one_has_place (the_label x) u cs ≡ one_has_place (the_label x) v cs
  label_stands_one x u v t.no_commands = refl
  label_stands_one x u v (t.also c cs) = ap (λ (y : Bool). y || one_has_place (the_label x) u cs) (label_stands x u v c) ∙ ap (λ (y : Bool). has_place (the_label x) v c || y) (label_stands_one x u v cs)

-- the parts of a place
abbrev rest_of : Option (List Act × ℕ) → List Act
rest_of (Some p) = p.0
rest_of None = []

abbrev objects_before : Option (List Act × ℕ) → ℕ
objects_before (Some p) = p.1
objects_before None = 0

-- seeking passes over the commands before the place
place_leads : (m : Meanings) (x : List ℕ) (cs rest : List Act) (n k : ℕ) (env : Environment) (w : World) → place_from x n cs ≡ Some (rest, k) →
    in_order m (commands_in rest) (seeking (the_label x)) (following k env) w ≡ in_order m (commands_in cs) (seeking (the_label x)) (following n env) w
place_leads m x [] rest n k env w is = let f : ◌≡◌ {A = Option (List Act × ℕ)} None (Some (rest, k)) = is in absurd (cc)
place_leads m x (c ∷ cs) rest n k env w is =
    let later = place_from x (n + objects_of_command (command_in c)) cs in
    ⊎_elim
    (λ y. let here : ◌≡◌ {A = Option (List Act × ℕ)} (Some (c ∷ cs, n)) (Some (rest, k)) = sym (cond-true (stands_in x (command_in c)) (Some (c ∷ cs, n)) later y) ∙ is in
    ap (λ (zs : List Act). in_order m (commands_in zs) (seeking (the_label x)) (following k env) w) (sym (ap rest_of here))
    ∙ ap (λ (j : ℕ). in_order m (commands_in (c ∷ cs)) (seeking (the_label x)) (following j env) w) (sym (ap objects_before here)))
    (λ f. place_leads m x cs rest (n + objects_of_command (command_in c)) k env w (sym (cond-false (stands_in x (command_in c)) (Some (c ∷ cs, n)) later f) ∙ is)
    ∙ pass_one m (the_label x) (command_in c) (commands_in cs) (following n env) (following (n + objects_of_command (command_in c)) env) w
    (label_stands x (following n env) nowhere (command_in c) ∙ f)
    (ap (λ (j : ℕ). record env { next = j }) (let sum : env.next + (n + objects_of_command (command_in c)) ≡ env.next + n + objects_of_command (command_in c) = omega arith in sum)))
    (cases_Bool (stands_in x (command_in c)))

-- a label with a place stands in the commands
place_stands : (x : List ℕ) (cs rest : List Act) (n k : ℕ) (env : Environment) → place_from x n cs ≡ Some (rest, k) → one_has_place (the_label x) env (commands_in cs) ≡ true
place_stands x [] rest n k env is = let f : ◌≡◌ {A = Option (List Act × ℕ)} None (Some (rest, k)) = is in absurd (cc)
place_stands x (c ∷ cs) rest n k env is =
    let later = place_from x (n + objects_of_command (command_in c)) cs in
    let rest_stands = one_has_place (the_label x) env (commands_in cs) in
    ⊎_elim
    (λ y. ap (λ (b : Bool). b || rest_stands) (label_stands x env nowhere (command_in c) ∙ y))
    (λ f. ap (λ (b : Bool). b || rest_stands) (label_stands x env nowhere (command_in c) ∙ f)
    ∙ place_stands x cs rest (n + objects_of_command (command_in c)) k env (sym (cond-false (stands_in x (command_in c)) (Some (c ∷ cs, n)) later f) ∙ is))
    (cases_Bool (stands_in x (command_in c)))

-- one with none does not
place_missing : (x : List ℕ) (cs : List Act) (n : ℕ) (env : Environment) → place_from x n cs ≡ None → one_has_place (the_label x) env (commands_in cs) ≡ false
place_missing x [] n env is = refl
place_missing x (c ∷ cs) n env is =
    let later = place_from x (n + objects_of_command (command_in c)) cs in
    let rest_stands = one_has_place (the_label x) env (commands_in cs) in
    ⊎_elim
    (λ y. let f : ◌≡◌ {A = Option (List Act × ℕ)} (Some (c ∷ cs, n)) None = sym (cond-true (stands_in x (command_in c)) (Some (c ∷ cs, n)) later y) ∙ is in absurd (cc))
    (λ f. ap (λ (b : Bool). b || rest_stands) (label_stands x env nowhere (command_in c) ∙ f)
    ∙ place_missing x cs (n + objects_of_command (command_in c)) env (sym (cond-false (stands_in x (command_in c)) (Some (c ∷ cs, n)) later f) ∙ is))
    (cases_Bool (stands_in x (command_in c)))

-- no more commands are left than there are
pub place_fewer : (x : List ℕ) (cs rest : List Act) (n k : ℕ) → place_from x n cs ≡ Some (rest, k) → length rest ≤ length cs
place_fewer x [] rest n k is = let f : ◌≡◌ {A = Option (List Act × ℕ)} None (Some (rest, k)) = is in absurd (cc)
place_fewer x (c ∷ cs) rest n k is =
    let later = place_from x (n + objects_of_command (command_in c)) cs in
    ⊎_elim
    (λ y. let here : ◌≡◌ {A = Option (List Act × ℕ)} (Some (c ∷ cs, n)) (Some (rest, k)) = sym (cond-true (stands_in x (command_in c)) (Some (c ∷ cs, n)) later y) ∙ is in
    let same : length (c ∷ cs) ≡ length rest = ap length (ap rest_of here) in
    omega (arith, same))
    (λ f. omega (arith, place_fewer x cs rest (n + objects_of_command (command_in c)) k (sym (cond-false (stands_in x (command_in c)) (Some (c ∷ cs, n)) later f) ∙ is)))
    (cases_Bool (stands_in x (command_in c)))

from_first : (env : Environment) → following 0 env ≡ env
from_first env = ap (λ (n : ℕ). record env { next = n }) (let same : env.next + 0 ≡ env.next = omega arith in same)

-- a GOTO that lands in a scope
pub landed : (p : Program) (cs rest : List Act) (k : ℕ) (env inner : Environment) (x : List ℕ) (w : World) → place_from x 0 cs ≡ Some (rest, k) → inner ≡ following k (labelled (commands_in cs) env) →
    each_way (λ _ w. done w) (lands p (commands_in cs) env) (in_order (full p) (commands_in rest) (seeking (the_label x)) inner w) ≡ lands p (commands_in cs) env (goto x) w
landed p cs rest k env inner x w found is =
    let inside = labelled (commands_in cs) env in
    ap (λ (e : Environment). each_way (λ _ w. done w) (lands p (commands_in cs) env) (in_order (full p) (commands_in rest) (seeking (the_label x)) e w)) is
    ∙ ap (λ (u : Outcome Done). each_way (λ _ w. done w) (lands p (commands_in cs) env) u) (place_leads (full p) x cs rest 0 k inside w found)
    ∙ scope_is p (commands_in cs) (seeking (the_label x)) env env (following 0 inside) w refl (from_first inside)
    ∙ land_here p (commands_in cs) env x w (place_stands x cs rest 0 k env found)

-- one that does not
pub not_landed : (p : Program) (cs : List Act) (env : Environment) (x : List ℕ) (w : World) → place_from x 0 cs ≡ None → leaves (goto x) w ≡ lands p (commands_in cs) env (goto x) w
not_landed p cs env x w none = land_past p (commands_in cs) env x w (place_missing x cs 0 env none)

-- a block with no declarations
abbrev pub plain_block : ℕ → List Act → Command
plain_block l cs = block l t.no_declarations (commands_in cs)

labels_in_block : (l : ℕ) (cs : List Act) (env : Environment) → labelled (alone (plain_block l cs)) env ≡ labelled (commands_in cs) env
labels_in_block l cs env = ap (λ xs. bind_each xs label env) (append-nil (labels_of_each (commands_in cs)))

-- the block as the only command of a scope, from a place in it
block_there : (p : Program) (l : ℕ) (cs : List Act) (x : List ℕ) (env : Environment) (w : World) → one_has_place (the_label x) env (commands_in cs) ≡ true →
    turn l w (λ w. in_order (full p) (commands_in cs) (seeking (the_label x)) env w) ≡ in_order (full p) (alone (plain_block l cs)) (seeking (the_label x)) env w
block_there p l cs x env w here =
    let mode = seeking (the_label x) in
    let b = plain_block l cs in
    let go : World → Outcome Done = λ w. with ((full p).act b mode env w) (λ _ w. done w) in
    sym (full_act p b mode env w) ∙ sym (with_done ((full p).act b mode env w))
    ∙ sym (ap (λ (y : Bool). either y go (λ w. done w) w) here)

-- a GOTO that lands in a block that is the only command of a scope
pub block_landed : (p : Program) (l : ℕ) (cs rest : List Act) (k : ℕ) (env inner : Environment) (x : List ℕ) (w : World) → place_from x 0 cs ≡ Some (rest, k) → inner ≡ following k (labelled (commands_in cs) env) →
    each_way (λ _ w. done w) (lands p (alone (plain_block l cs)) env) (turn l w (λ w. in_order (full p) (commands_in rest) (seeking (the_label x)) inner w)) ≡ lands p (alone (plain_block l cs)) env (goto x) w
block_landed p l cs rest k env inner x w found is =
    let b = alone (plain_block l cs) in
    let inside = labelled (commands_in cs) env in
    let after : Outcome Done → Outcome Done = λ u. each_way (λ _ w. done w) (lands p b env) u in
    let stands : (e : Environment) → one_has_place (the_label x) e (commands_in cs) ≡ true = λ e. place_stands x cs rest 0 k e found in
    ap (λ (go : World → Outcome Done). after (turn l w go)) (fun_ext (λ w.
    ap (λ (e : Environment). in_order (full p) (commands_in rest) (seeking (the_label x)) e w) is
    ∙ place_leads (full p) x cs rest 0 k inside w found
    ∙ ap (λ (e : Environment). in_order (full p) (commands_in cs) (seeking (the_label x)) e w) (from_first inside)))
    ∙ ap after (block_there p l cs x inside w (stands inside))
    ∙ scope_is p b (seeking (the_label x)) env env inside w refl (sym (labels_in_block l cs env))
    ∙ land_here p b env x w (ap (λ (y : Bool). y || false) (stands env))

pub block_not_landed : (p : Program) (l : ℕ) (cs : List Act) (env : Environment) (x : List ℕ) (w : World) → place_from x 0 cs ≡ None → leaves (goto x) w ≡ lands p (alone (plain_block l cs)) env (goto x) w
block_not_landed p l cs env x w none = land_past p (alone (plain_block l cs)) env x w (ap (λ (y : Bool). y || false) (place_missing x cs 0 env none))

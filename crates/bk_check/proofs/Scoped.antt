-- Scopes and blocks, by what is pushed for them.
use Rattle.bk_check.proofs.Terms.{◌≡◌, ℕ, ◌<◌, Bool, true, false, ◌||◌, List, [], ◌∷◌, length, sym, ap, ◌∙◌, arith, Decl, Command, Commands, block, declarations_in, World, goto, leaves, each_way, either, done, closing, Environment, labelled, Sought, the_label, Mode, seeking, has_place, one_has_place, in_order, scope_of, alone, act_of, Program, full, lands, declared_then, full_scope}

pub scope_is : (p : Program) (cs : Commands) (mode : Mode) (env outer inner : Environment) (w : World) → outer ≡ env → inner ≡ labelled cs env →
    each_way (λ _ w. done w) (lands p cs outer) (in_order (full p) cs mode inner w) ≡ scope_of (full p) cs mode env w
scope_is p cs mode env outer inner w o i =
    ap (λ (x : Environment). each_way (λ _ w. done w) (lands p cs x) (in_order (full p) cs mode inner w)) o
    ∙ ap (λ (x : Environment). each_way (λ _ w. done w) (lands p cs env) (in_order (full p) cs mode x w)) i

pub block_is : (p : Program) (l : ℕ) (ds : List Decl) (cs : Commands) (mode : Mode) (env : Environment) (w : World) (n : ℕ) → 0 < length ds → n ≡ length w.memory →
    closing n (declared_then p (declarations_in ds) cs env w) ≡ act_of p (full p) (block l (declarations_in ds) cs) mode env w
block_is p l [] cs mode env w n lt is = absurd (omega (arith, lt))
block_is p l (d ∷ ds) cs mode env w n lt is = ap (λ k. closing k (declared_then p (declarations_in (d ∷ ds)) cs env w)) is

-- a GOTO that comes to a scope
pub land_here : (p : Program) (cs : Commands) (env : Environment) (x : List ℕ) (w : World) → one_has_place (the_label x) env cs ≡ true → scope_of (full p) cs (seeking (the_label x)) env w ≡ lands p cs env (goto x) w
land_here p cs env x w is = sym (ap (λ b. either b (λ w. (full p).scope cs (seeking (the_label x)) env w) (λ w. leaves (goto x) w) w) is ∙ full_scope p cs (seeking (the_label x)) env w)

pub land_past : (p : Program) (cs : Commands) (env : Environment) (x : List ℕ) (w : World) → one_has_place (the_label x) env cs ≡ false → leaves (goto x) w ≡ lands p cs env (goto x) w
land_past p cs env x w is = sym (ap (λ b. either b (λ w. (full p).scope cs (seeking (the_label x)) env w) (λ w. leaves (goto x) w) w) is)

pub stands_alone : (s : Sought) (env : Environment) (c : Command) (b : Bool) → has_place s env c ≡ b → one_has_place s env (alone c) ≡ b
stands_alone s env c true is = ap (λ x. x || false) is
stands_alone s env c false is = ap (λ x. x || false) is

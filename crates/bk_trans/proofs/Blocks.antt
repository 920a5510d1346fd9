-- What nodes are written as, by what is written one after another: blocks, declarations, calls and FOR.
use Rattle.bk_trans.proofs.Words.{◌≡◌, ℕ, ◌+◌, ◌<◌, true, cond, List, [], ◌∷◌, length, refl, sym, ap, ◌∙◌, arith, Mention, Expression, Expressions, Command, Commands, Definitions, block, declarations_in, definitions, apply, for_loop, size, Stack, Store, CallFunction}
use Rattle.bk_tree.specs.declared.tree.Decl.{Decl}
use Rattle.bk_trans.proofs.Terms.{Aim, Aim as aim, step_of, looping, Unresolved, Around, Writing, Reached, reached, after, puts, puts_drafts, puts_all, with_code, takes_labels, past_step, before_body, ends_for, aimed, written, each_written, act_written, each_act_written, acted_apart, declared, one_declared, defined, any_variables, each_acted_apart}

pub without_declarations : (a : Around) (s l : ℕ) (ds : List Decl) (cs : Commands) (w : Writing) → length ds ≡ 0
    → act_written a s (block l (declarations_in ds) cs) w ≡ each_act_written a s cs w
without_declarations a s l [] cs w none = refl
without_declarations a s l (d ∷ ds) cs w none = absurd (omega (arith, none))

-- behind the declarations
abbrev pub block_in : Around → ℕ → Commands → Reached → Writing
block_in a s cs r = puts (Stack s) (each_acted_apart a r.depth cs r.writing)

pub with_declarations : (a : Around) (s l : ℕ) (ds : List Decl) (cs : Commands) (w : Writing) → 0 < length ds
    → act_written a s (block l (declarations_in ds) cs) w ≡ block_in a s cs (declared (declarations_in ds) (reached s w))
with_declarations a s l [] cs w some = absurd (omega (arith, some))
with_declarations a s l (d ∷ ds) cs w some = refl

pub with_variables : (l : ℕ) (ds : Definitions) (r : Reached) (t : ℕ) (v u : Writing) → reached t v ≡ defined ds r → any_variables ds ≡ true → u ≡ puts Store v
    → reached t u ≡ one_declared (definitions l ds) r
with_variables l ds r t v u made has put =
    ap (reached t) put ∙ ap (λ x. reached x.depth (puts Store x.writing)) made
    ∙ ap (λ z. reached (defined ds r).depth (cond z (puts Store (defined ds r).writing) (defined ds r).writing)) (sym has)

pub apply_written : (s : ℕ) (a : Aim) (l m : ℕ) (e : Expression) (es : Expressions) (w v1 v2 v3 v4 v5 v6 : Writing) (code : List Unresolved)
    → v1 ≡ written (after s (size es + 2)) aim.Value e (with_code [] w) → v2 ≡ with_code w.code v1 → v3 ≡ puts (Stack (after s 2)) v2 → v4 ≡ each_written (after s 2) es v3
    → code ≡ v1.code → v5 ≡ puts_drafts code v4 → v6 ≡ puts (CallFunction s) v5 → written s a (apply l m e es) w ≡ aimed a v6
apply_written s a l m e es w v1 v2 v3 v4 v5 v6 code e1 e2 e3 e4 e5 e6 e7 = rw e7 (rw e6 (rw e5 (rw e4 (rw e3 (rw e2 (rw e1 refl))))))

pub for_written : (a b : Around) (s l : ℕ) (x : Mention) (e f : Expression) (h : Expressions) (c : Command) (w v1 v2 v3 v4 v5 v6 : Writing) (n k : ℕ)
    → n ≡ w.next → v1 ≡ takes_labels 4 w → v2 ≡ written s aim.Value e v1 → v3 ≡ written (after s 1) aim.Value f v2 → k ≡ (step_of h v3.left).part → v4 ≡ past_step h v3
    → v5 ≡ puts_all (before_body n) v4 → b ≡ looping (after n 2) (after n 3) (after s 2) a → v6 ≡ acted_apart b (after s 2) c v5
    → act_written a s (for_loop l x e f h c) w ≡ ends_for n s k v6
for_written a b s l x e f h c w v1 v2 v3 v4 v5 v6 n k e1 e2 e3 e4 e5 e6 e7 e8 e9 = rw e9 (rw e8 (rw e7 (rw e6 (rw e5 (rw e4 (rw e3 (rw e2 (rw e1 refl))))))))

-- Calls, by what is pushed for them.
use Rattle.bk_check.proofs.Terms.{◌≡◌, ℕ, ◌+◌, max, List, length, ap, ◌∙◌, Value, Memory, made, World, Outcome, cells_living, closing, making, remembering, Environment, Procedure, Program, formal_cells, bind_formals, run_body, called, call, full, returned, Some}
use Rattle.bk_meaning.specs.Calls as c

pub entered : (p : Program) (l : ℕ) (q : Procedure) (vs : List Value) (w : World) (n : ℕ) (env : Environment) (m : Memory) → n ≡ length w.memory → env ≡ bind_formals n 0 q.formals q.env → m ≡ made (formal_cells q.formals vs) w.memory →
    closing n (run_body (full p) q.body env (remembering m w)) ≡ c.enter (full p) l (Some q) vs w
entered p l q vs w n env m e h i =
    ap (λ (x : Environment). closing n (run_body (full p) q.body x (remembering m w))) h
    ∙ ap (λ (x : Memory). closing n (run_body (full p) q.body (bind_formals n 0 q.formals q.env) (remembering x w))) i
    ∙ ap (λ (k : ℕ). closing k (run_body (full p) q.body (bind_formals k 0 q.formals q.env) (making (formal_cells q.formals vs) w))) e

pub counted : (p : Program) (l : ℕ) (f : Value) (vs : List Value) (w : World) (n k c : ℕ) → n ≡ w.calls + 1 → k ≡ max w.most_calls (w.calls + 1) → c ≡ max w.most_cells (cells_living w.memory)
    → returned l w.calls (called p (full p) l f vs (record w { calls = n; most_calls = k; most_cells = c })) ≡ call p (full p) l f vs w
counted p l f vs w n k c e h i =
    let go : ℕ → ℕ → ℕ → Outcome Value = λ n k c. returned l w.calls (called p (full p) l f vs (record w { calls = n; most_calls = k; most_cells = c })) in
    ap (λ (x : ℕ). go x k c) e ∙ ap (λ (x : ℕ). go (w.calls + 1) x c) h ∙ ap (λ (x : ℕ). go (w.calls + 1) (max w.most_calls (w.calls + 1)) x) i

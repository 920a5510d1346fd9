-- A VEC, whose object is made.
use Rattle.bk_check.proofs.Terms.{◌≡◌, ℕ, max, Option, Some, List, ◌∷◌, length, Result, Ok, Err, IfOk, ap, sym, ◌∙◌, Starts, address, Memory, made, cells_living, World, Outcome, Done, gives, with, Environment, Program, starts, vec_cells, Continuation, Let, Next, full, Bytes, Given, tag, done_tag, resumed, started_then, vector_then, Comes}

-- what comes to this in any world comes to it in that of a machine
pub meets_there : {E : Type 0} (r : Result Next E) (fs : List Continuation) (there : Bytes → World) (u : Program → World → Outcome Done) (v : Program → Bytes → Outcome Given) → ((p : Program) (b : Bytes) → resumed p fs (tag done_tag (u p (there b))) ≡ v p b) →
    IfOk r (λ next. (p : Program) (fs : List Continuation) (w : World) → Comes p fs next w (resumed p fs (tag done_tag (u p w)))) → IfOk r (λ next. (p : Program) (b : Bytes) → Comes p fs next (there b) (v p b))
meets_there (Ok next) fs there u v e h = λ p b. h p fs (there b) ∙ e p b
meets_there (Err x) fs there u v e h = h

pub vector_made : (p : Program) (spot : ℕ) (size : Option ℕ) (last o n : ℕ) (m : Memory) (is : Starts) (here : Environment) (names : List (List ℕ)) (l : Let) (w : World) → size ≡ Some last → o ≡ length w.memory → m ≡ made (vec_cells last) w.memory → n ≡ max w.most_cells (cells_living m) →
    with (with (starts (full p) is here (record w { memory = m; most_cells = n })) (λ vs w. gives (address o 0 ∷ vs) w)) (λ vs w. started_then p l names vs w) ≡ vector_then p spot size is here names l w
vector_made p spot size last o n m is here names l w s e h c =
    let go : ℕ → ℕ → Memory → Outcome Done = λ o n m. with (with (starts (full p) is here (record w { memory = m; most_cells = n })) (λ vs w. gives (address o 0 ∷ vs) w)) (λ vs w. started_then p l names vs w) in
    ap (λ (k : ℕ). go k n m) e
    ∙ ap (λ (k : ℕ). go (length w.memory) k m) c
    ∙ ap (λ (x : Memory). go (length w.memory) (max w.most_cells (cells_living x)) x) h
    ∙ sym (ap (λ (x : Option ℕ). vector_then p spot x is here names l w) s)

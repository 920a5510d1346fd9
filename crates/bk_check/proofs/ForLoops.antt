-- A FOR that begins.
use Rattle.bk_check.proofs.Terms.{◌≡◌, ℕ, [], ◌∷◌, length, ap, ◌∙◌, Mention, Command, Value, holds, Memory, made, World, closing, making, remembering, Environment, cell, bind, for_test, for_rounds_of, for_loop, Program, full}

pub for_begun : (p : Program) (x : Mention) (c : Command) (start limit : Value) (step : ℕ) (env inside : Environment) (w : World) (n : ℕ) (mem : Memory) → n ≡ length w.memory → inside ≡ bind x.letters (cell n 0) env → mem ≡ made (holds start ∷ []) w.memory →
    closing n (for_test x.at n limit step (λ w. for_rounds_of (full p) x.at c n limit step inside w) (remembering mem w)) ≡ for_loop (full p) x c start limit step env w
for_begun p x c start limit step env inside w n mem e h i =
    ap (λ (y : Environment). closing n (for_test x.at n limit step (λ w. for_rounds_of (full p) x.at c n limit step y w) (remembering mem w))) h
    ∙ ap (λ (y : Memory). closing n (for_test x.at n limit step (λ w. for_rounds_of (full p) x.at c n limit step (bind x.letters (cell n 0) env) w) (remembering y w))) i
    ∙ ap (λ (k : ℕ). closing k (for_test x.at k limit step (λ w. for_rounds_of (full p) x.at c k limit step (bind x.letters (cell k 0) env) w) (making (holds start ∷ []) w))) e

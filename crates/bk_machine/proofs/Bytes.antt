-- A byte fits into a word whose bytes from its place on are 0.
use Rattle.bk_machine.proofs.Terms.{◌≡◌, ℕ, suc, ◌+◌, ◌-◌, ◌*◌, ◌%◌, ◌^◌, ◌<◌, ◌≤◌, List, length, get_or, set, ap, ◌∙◌, arith, length-set, get_or-set_same, IsFilled}

pub byte-weighs : (place byte : ℕ) → place < 4 → byte < 2 ^ 8 → 2 ^ (8 * place) * byte < 2 ^ 32
byte-weighs (suc (suc (suc (suc k)))) byte low small = absurd (omega arith)
byte-weighs x byte low small = omega arith

pub byte-fits : (place byte word : ℕ) → place < 4 → byte < 2 ^ 8 → word < 2 ^ (8 * place) → word + 2 ^ (8 * place) * byte < 2 ^ (8 * (place + 1))
byte-fits (suc (suc (suc (suc k)))) byte word low small fits = absurd (omega arith)
byte-fits x byte word low small fits = omega arith

pub byte-bounded : (place : ℕ) → place < 4 → 2 ^ (8 * (place + 1)) ≤ 2 ^ 32
byte-bounded (suc (suc (suc (suc k)))) low = absurd (omega arith)
byte-bounded x low = omega arith

-- the last word with a byte put into it
pub filled-more : (words changed : List ℕ) (filled byte : ℕ) → IsFilled words filled → (filled ≡ 0 → ⊥) → byte < 2 ^ 8
    → changed ≡ set words (length words - 1) (get_or words (length words - 1) 0 + 2 ^ (8 * filled) * byte) → IsFilled changed ((filled + 1) % 4)
filled-more words changed filled byte had goes_on small is =
    let some : 0 < length words = had.last (omega arith) in
    let same : length changed ≡ length words = ap length is ∙ length-set words _ _ in
    let read : get_or changed (length changed - 1) 0 ≡ get_or words (length words - 1) 0 + 2 ^ (8 * filled) * byte =
    ap (λ n. get_or changed (n - 1) 0) same ∙ ap (λ l. get_or l (length words - 1) 0) is ∙ get_or-set_same words (length words - 1) _ 0 (omega arith) in
    let fits = byte-fits filled byte (get_or words (length words - 1) 0) had.within small (had.small (omega arith)) in
    record {
      within = omega arith;
      last = λ _. omega arith;
      small = λ (more : 0 < (filled + 1) % 4). let next : (filled + 1) % 4 ≡ filled + 1 = omega (arith, had.within) in rw (next, read) fits;
    }

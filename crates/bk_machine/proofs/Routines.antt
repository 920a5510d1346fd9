-- The routines of the library and their globals, one after another.
pub use Rattle.bk_machine.proofs.Terms.{◌≡◌, ℕ, zero, suc, ◌+◌, ◌-◌, ◌*◌, ◌<◌, ◌≤◌, List, [], ◌∷◌, ◌++◌, get_or, take, length, refl, sym, append_assoc, ap, ◌∙◌, arith, fold, slice_set, fold_more, Setting, library_settings, library_words, routine_words, operation_word, with_setting, length-set}

-- the first so many routines
abbrev pub routines : ℕ → List ℕ
routines zero = []
routines (suc n) = routines n ++ routine_words (n + 2)

pub routines-all : routines 9 ≡ library_words
routines-all = refl

pub library_setting : (k : ℕ) (d : Setting) → k < 9 → get_or library_settings k d ≡ record { global = k + 2; value = 1016 + 2 * k }
library_setting (suc (suc (suc (suc (suc (suc (suc (suc (suc k))))))))) d h = absurd (omega arith)
library_setting x d h = refl

pub routines-more : (global : ℕ) → 2 ≤ global → routines (global + 1 - 2) ≡ routines (global - 2) ++ routine_words global
routines-more global low =
    let next : global + 1 - 2 ≡ suc (global - 2) = omega arith in
    let same : (global - 2) + 2 ≡ global = omega arith in
    ap (λ n. routines n) next ∙ ap (λ n. routines (global - 2) ++ routine_words n) same

-- one more routine
pub pushed : (before words one two : List ℕ) (global a b : ℕ) → 2 ≤ global → words ≡ before ++ routines (global - 2)
    → a ≡ operation_word (global + 22) → b ≡ operation_word 4 → one ≡ words ++ a ∷ [] → two ≡ one ++ b ∷ []
    → two ≡ before ++ routines (global + 1 - 2)
pushed before words one two global a b low known first second e f =
    f ∙ ap (λ l. l ++ b ∷ []) e ∙ ap (λ l. (l ++ a ∷ []) ++ b ∷ []) known
    ∙ append_assoc (before ++ routines (global - 2)) (a ∷ []) (b ∷ [])
    ∙ append_assoc before (routines (global - 2)) (a ∷ b ∷ [])
    ∙ ap (λ x. before ++ (routines (global - 2) ++ x ∷ b ∷ [])) first
    ∙ ap (λ x. before ++ (routines (global - 2) ++ operation_word (global + 22) ∷ x ∷ [])) second
    ∙ ap (λ l. before ++ l) (sym (routines-more global low))

pub library-more : (store : List ℕ) (global : ℕ) (d : Setting) → 2 ≤ global → global < 11
    → fold with_setting store (take (global + 1 - 2) library_settings)
    ≡ slice_set (fold with_setting store (take (global - 2) library_settings)) (16 + global) (1016 + 2 * (global - 2))
library-more store global d low high =
    let next : global + 1 - 2 ≡ (global - 2) + 1 = omega arith in
    let same : (global - 2) + 2 ≡ global = omega arith in
    let nine : global - 2 < 9 = omega arith in
    let ten : global - 2 < length library_settings = omega arith in
    ap (λ n. fold with_setting store (take n library_settings)) next
    ∙ fold_more with_setting store library_settings (global - 2) d ten
    ∙ ap (λ s. with_setting (fold with_setting store (take (global - 2) library_settings)) s) (library_setting (global - 2) d nine)
    ∙ ap (λ n. slice_set (fold with_setting store (take (global - 2) library_settings)) (16 + n) (1016 + 2 * (global - 2))) same

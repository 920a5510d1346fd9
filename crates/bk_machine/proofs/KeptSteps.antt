-- Steps on the words that are kept, and on the store.
use Rattle.bk_machine.proofs.Terms.{◌≡◌, ℕ, ◌+◌, ◌-◌, List, ◌++◌, length, replicate, take, Bool, true, false, if◌then◌else◌, ◌≤◌, length-append, append_assoc, append-nil, take_all, replicate-append-replicate, Option, None, Some, ap, ◌∙◌, arith, subst, Ends, step, StoreLimit, word_sum, turn_of, OwnEnd, Stays, padded, Registers, ◌⊎◌, inl, inr, length-replicate}
use Rattle.bk_machine.specs.declared.step.Effect.{Effect}
use Rattle.bk_machine.specs.declared.step.Effect.TheVariants as effect
use Rattle.bk_machine.specs.ShorterStores.{step_longer, longer}

-- ---- a step on the words that are kept is a step on the store

-- a step keeps its length, and where it isn't one that leads outside, it is one of a longer store
longer_kept : (count : ℕ) (s s' : List ℕ) (r r' : Registers) (e : Effect) → length s' ≡ length s → OwnEnd (Some e)
    → (turn_of (Some e) s' r' ≡ Ends StoreLimit) ⊎ (step (padded count s) r ≡ longer (replicate (count - length s) 0) (turn_of (Some e) s' r'))
    → step (padded count s) r ≡ turn_of (Some e) (padded count s') r'
longer_kept count s s' r r' effect.Goes size own (inl is) = absurd cc
longer_kept count s s' r r' effect.Goes size own (inr is) = rw size is
longer_kept count s s' r r' (effect.Outputs what) size own (inl is) = absurd cc
longer_kept count s s' r r' (effect.Outputs what) size own (inr is) = rw size is
longer_kept count s s' r r' effect.Asks size own (inl is) = absurd cc
longer_kept count s s' r r' effect.Asks size own (inr is) = rw size is
longer_kept count s s' r r' (effect.Ends e) size own (inl is) = absurd (own.1 (let h : Ends e ≡ Ends StoreLimit = is in cc))
longer_kept count s s' r r' (effect.Ends e) size own (inr is) = is

pub step_kept : (count : ℕ) (s s' : List ℕ) (r r' : Registers) (e : Effect) → length s' ≡ length s → OwnEnd (Some e) → step s r ≡ turn_of (Some e) s' r'
    → step (padded count s) r ≡ turn_of (Some e) (padded count s') r'
step_kept count s s' r r' e size own is =
    let t : List ℕ = replicate (count - length s) 0 in
    longer_kept count s s' r r' e size own (subst (λ u. (u ≡ Ends StoreLimit) ⊎ (step (s ++ t) r ≡ longer t u)) is (step_longer t s r))

-- ---- more words are kept

pub store_grown : (words n count : ℕ) (done : Bool) (s new : List ℕ) → count ≡ length s → new ≡ (if done then take n s ++ replicate (n - count) 0 else s)
    → length s ≤ n → n ≤ words → padded words new ≡ padded words s
store_grown words n count true s new size is short most =
    let kept : new ≡ s ++ replicate (n - length s) 0 = is ∙ ap (λ k. take n s ++ replicate (n - k) 0) size ∙ ap (λ l. l ++ replicate (n - length s) 0) (take_all n s short) in
    let long : length new ≡ n = ap length kept ∙ length-append s (replicate (n - length s) 0) ∙ ap (λ k. length s + k) (length-replicate (n - length s) 0) ∙ omega (arith, short) in
    let both : (n - length s) + (words - n) ≡ words - length s = omega (arith, short, most) in
    ap (λ l. l ++ replicate (words - length new) 0) kept ∙ ap (λ k. (s ++ replicate (n - length s) 0) ++ replicate (words - k) 0) long
    ∙ append_assoc s (replicate (n - length s) 0) (replicate (words - n) 0)
    ∙ ap (λ l. s ++ l) (replicate-append-replicate (n - length s) (words - n) 0 ∙ ap (λ k. replicate k 0) both)
store_grown words n count false s new size is short most = ap (padded words) is

-- all words are kept
pub padded_all : (count : ℕ) (s : List ℕ) → count ≤ length s → padded count s ≡ s
padded_all count s all =
    let none : count - length s ≡ 0 = omega (arith, all) in ap (λ k. s ++ replicate k 0) none ∙ append-nil s

-- ---- C is put back after a step that leads outside

pub stays_back : (e : Option Effect) (s s' : List ℕ) (r r' : Registers) (c : ℕ) → c ≡ r.c → Stays e s (record r { c = word_sum r.c 1 }) s' r'
    → Stays e s r s' (record r' { c = c })
stays_back None s s' r r' c is stays = (
  stays.0,
  ap (λ (q : Registers). let x : Registers = record q { c = c } in x) stays.1 ∙ ap (λ k. let x : Registers = record r { c = k } in x) is,
)
stays_back (Some e) s s' r r' c is stays = tt

-- Names as keys of a map: a map of them is one of letters.
use Rattle.std.proofs.Common.{◌≡◌, false, cond, bytes_eq, Option, List, ℕ, sym, ◌∙◌, ⊎_elim, subst}
use Rattle.bk_scope.proofs.Terms.{cases_Bool, cond-true, cond-false, nat_list_eq_equiv, bytes_eq-Decides, IndexMap, UpdatesBy, lookup, KeepsOthers, NameKey, eq-value}

others_kept : {X : Type 0} (k : NameKey) (old new : List (NameKey × X)) → KeepsOthers eq-value.it (eq-value.it k) old new → (x : List ℕ) → bytes_eq k.letters.now x ≡ false
    → lookup (λ (l : NameKey). bytes_eq x l.letters.now) new ≡ lookup (λ (l : NameKey). bytes_eq x l.letters.now) old
unfolding KeepsOthers
others_kept k old new h x n =
    h (λ (l : NameKey). bytes_eq x l.letters.now) (λ a b t. nat_list_eq_equiv.congr x a.letters.now b.letters.now t)
    (λ l t. nat_list_eq_equiv.symm x l.letters.now ∙ sym (nat_list_eq_equiv.congr k.letters.now l.letters.now x t) ∙ n)

-- what a change at a key leaves at any letters
pub updates_letters : {X S : Type 0} (k : NameKey) (m n : IndexMap NameKey X S) (w : Option X) → UpdatesBy eq-value.it (eq-value.it k) m n w
    → (x : List ℕ) → lookup (λ (l : NameKey). bytes_eq x l.letters.now) n.entries ≡ cond (bytes_eq k.letters.now x) w (lookup (λ (l : NameKey). bytes_eq x l.letters.now) m.entries)
updates_letters {X} k m n w h x =
    let P : List ℕ → Type 0 = λ y. lookup (λ (l : NameKey). bytes_eq y l.letters.now) n.entries ≡ w in
    ⊎_elim (λ y. subst P ((bytes_eq-Decides k.letters.now x).0 y) h.1 ∙ sym (cond-true (bytes_eq k.letters.now x) w _ y))
    (λ f. others_kept k m.entries n.entries h.3 x f ∙ sym (cond-false (bytes_eq k.letters.now x) w _ f)) (cases_Bool (bytes_eq k.letters.now x))

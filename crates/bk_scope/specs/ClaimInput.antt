-- What is hashed of a claim. Equal claims are hashed alike.
use Rattle.std.proofs.Common.{◌≡◌, ◌==◌, ◌&&◌, Bool, ℕ, true, false, List, [], ◌∷◌, ◌++◌, refl, ap, ap₂}
use Rattle.std.proofs.lemmas.Bool.{eqb-true}
use Rattle.std.proofs.lemmas.Slice.Eq.{bytes_eq-Decides}
use Rattle.std.specs.Hash as fed
use Rattle.bk_scope.specs.declared.claims.Claim.{Claim}
use Rattle.bk_scope.specs.declared.claims.Claim.TheVariants.{Naming, Choosing, Defaulting, Setting}
use Rattle.bk_scope.specs.contracts.claims.ClaimPartialEq.TheImpl.{eq-value}

abbrev pub input_of : Claim → List (List ℕ)
input_of (Naming list name) = fed.u64 list ++ name.letters.now ∷ []
input_of (Choosing switch word) = fed.u32 switch ++ fed.u32 word
input_of (Defaulting switch) = fed.u32 switch
input_of (Setting global) = fed.u32 global

first_true : (p q : Bool) → (p && q) ≡ true → p ≡ true
first_true true q e = refl
first_true false q e = e

second_true : (p q : Bool) → (p && q) ≡ true → q ≡ true
second_true true q e = e
second_true false q e = cc

pub same_input : (c d : Claim) → eq-value.it c d ≡ true → input_of c ≡ input_of d
same_input (Naming n x) (Naming m y) e =
    ap₂ (λ k l. fed.u64 k ++ l ∷ []) (eqb-true n m (first_true (n == m) _ e)) ((bytes_eq-Decides x.letters.now y.letters.now).0 (second_true (n == m) _ e))
same_input (Choosing n w) (Choosing m v) e = ap₂ (λ k l. fed.u32 k ++ fed.u32 l) (eqb-true n m (first_true (n == m) _ e)) (eqb-true w v (second_true (n == m) _ e))
same_input (Defaulting n) (Defaulting m) e = ap fed.u32 (eqb-true n m e)
same_input (Setting g) (Setting h) e = ap fed.u32 (eqb-true g h e)
same_input _ _ e = cc

-- What the program holds as claimed is what the definitions hold as claimed.
use Rattle.std.proofs.Common.{◌≡◌, Bool, true, false, cond, not, ◌&&◌, ◌||◌, ◌==◌, bytes_eq, List, [], ◌∷◌, ◌++◌, map, reverse, refl, sym, ap, ◌∙◌}
use Rattle.bk_scope.proofs.Terms.{map-append, reverse-append, claim_of, claims_in, is_claimed, same_claim}
use Rattle.std.specs.List.{list_any}
use Rattle.std.proofs.lemmas.List.Sorted.{IsPermutation-reverse, list_any-IsPermutation}
use Rattle.indexmap.specs.IndexSet.{insert_key}
use Rattle.bk_scope.specs.Found as found
use Rattle.bk_scope.specs.declared.claims.Claim.{Claim}
use Rattle.bk_scope.specs.declared.claims.Claim.TheVariants.{Naming, Choosing, Defaulting, Setting}
use Rattle.bk_scope.specs.contracts.claims.ClaimPartialEq.TheImpl.{eq-value}

and-cond : (p q : Bool) → (p && q) ≡ cond p q false
and-cond true q = refl
and-cond false q = refl

or-cond : (p q : Bool) → (p || q) ≡ cond p true q
or-cond true q = refl
or-cond false q = refl

-- claims are equal where the definitions say so
equal-is-same : (c d : Claim) → eq-value.it c d ≡ same_claim (claim_of c) (claim_of d)
equal-is-same (Naming n x) (Naming m y) = and-cond (n == m) (bytes_eq x.letters.now y.letters.now)
equal-is-same (Choosing n w) (Choosing m v) = and-cond (n == m) (w == v)
equal-is-same (Defaulting n) (Defaulting m) = refl
equal-is-same (Setting g) (Setting h) = refl
equal-is-same _ _ = refl

any-claimed : (c : Claim) (ks : List Claim) → list_any (eq-value.it c) ks ≡ list_any (same_claim (claim_of c)) (map claim_of ks)
any-claimed c [] = refl
any-claimed c (k ∷ ks) = ap (λ b. b || list_any (eq-value.it c) ks) (equal-is-same c k) ∙ ap (λ b. same_claim (claim_of c) (claim_of k) || b) (any-claimed c ks)

claimed-any : (c : found.Claim) (ds : List found.Claim) → list_any (same_claim c) ds ≡ is_claimed c ds
claimed-any c [] = refl
claimed-any c (d ∷ ds) = or-cond (same_claim c d) (list_any (same_claim c) ds) ∙ ap (λ b. cond (same_claim c d) true b) (claimed-any c ds)

-- the set has what was claimed
pub had : (c : Claim) (ks : List Claim) → list_any (eq-value.it c) ks ≡ is_claimed (claim_of c) (claims_in ks)
had c ks =
    any-claimed c ks ∙ list_any-IsPermutation (same_claim (claim_of c)) (map claim_of ks) (claims_in ks) (IsPermutation-reverse (map claim_of ks))
    ∙ claimed-any (claim_of c) (claims_in ks)

claims_in-following : (c : Claim) (ks : List Claim) → claims_in (ks ++ c ∷ []) ≡ claim_of c ∷ claims_in ks
claims_in-following c ks = ap reverse (map-append claim_of ks (c ∷ [])) ∙ reverse-append (map claim_of ks) (claim_of c ∷ [])

inserted : (b : Bool) (c : Claim) (ks : List Claim) → claims_in (cond b ks (ks ++ c ∷ [])) ≡ cond (not b) (claim_of c ∷ claims_in ks) (claims_in ks)
inserted true c ks = refl
inserted false c ks = claims_in-following c ks

-- one claim more, if it is new
pub claims_in-insert : (c : Claim) (ks : List Claim) (new : Bool) → new ≡ not (list_any (eq-value.it c) ks)
    → claims_in (insert_key eq-value.it ks c) ≡ cond new (claim_of c ∷ claims_in ks) (claims_in ks)
claims_in-insert c ks new is = inserted (list_any (eq-value.it c) ks) c ks ∙ sym (ap (λ b. cond b (claim_of c ∷ claims_in ks) (claims_in ks)) is)

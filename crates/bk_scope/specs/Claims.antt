-- What the program's claims mean.
use Rattle.std.specs.Prelude.{List, map, reverse}
use Rattle.bk_scope.specs.Found as found
use Rattle.bk_scope.specs.declared.claims.Claim.{Claim}
use Rattle.bk_scope.specs.declared.claims.Claim.TheVariants.{Naming, Choosing, Defaulting, Setting}

abbrev pub claim_of : Claim → found.Claim
claim_of (Naming list name) = found.naming list name.letters.now
claim_of (Choosing switch word) = found.choosing switch word
claim_of (Defaulting switch) = found.defaulting switch
claim_of (Setting global) = found.setting global

-- the definitions' claims of these, the newest first
abbrev pub claims_in : List Claim → List found.Claim
claims_in cs = reverse (map claim_of cs)

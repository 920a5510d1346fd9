-- Why a text is refused.
use Rattle.bk_filters.proofs.Terms.{ℕ, List, Bool, Option, KitFault, TooSmall, NoStart, TextRefused, CodeRefused}

-- a text that is refused as it is read is refused whatever the store
pub refused_anyhow : (fault : KitFault) (words : ℕ) (old new : Option (List ℕ)) (ended : Bool) → TextRefused fault old new ended → CodeRefused fault words old new ended
refused_anyhow TooSmall words old new ended h = absurd h
refused_anyhow NoStart words old new ended h = absurd h
refused_anyhow x words old new ended h = h

-- Sections of OCODE that were read of a text, and the answer where the next is refused.
use Rattle.bk_kit.proofs.Terms.{◌≡◌, ℕ, Bool, IsTrue, List, Option, Err, length, if◌then◌else◌, refl, OcodeFault, Refused, Fault, Device, Stmt, ocode, ocode_refused, is_read, OcodeRefused, Refused as refusals, Front, Front-refused, Front-stops}
use Rattle.bk_ocode.specs.SectionAnswer.{Answers, AppliesWhateverFollows, StopsAtDevice, is_device}

module _ (all : List (List Stmt)) (old now new : Option (List ℕ)) (was ended : Bool) (front : Front ocode all old now was) where
  pub sections_refused : (reported : Refused OcodeFault) → (IsTrue was → ⊥) → Answers (Err reported) now new ended → AppliesWhateverFollows (Err reported) now new ended
      → OcodeRefused (ocode_refused (length all) reported) old new ended
  sections_refused (Fault fault) not_over answers applies = Front-refused ocode all old now new was ended front fault.statement fault.kind not_over applies
  sections_refused refusals.Memory not_over answers applies = tt
  sections_refused Device not_over answers applies = Front-stops ocode all old now new was ended front StopsAtDevice not_over answers

pub refused_fails : (before : ℕ) (reported : Refused OcodeFault) → ◌≡◌ {A = ℕ} (if is_device (Err reported) then 1 else 0) (if is_read {T = Unit {0}} (Err (ocode_refused before reported)) then 1 else 0)
refused_fails before (Fault fault) = refl
refused_fails before refusals.Memory = refl
refused_fails before Device = refl

-- A run that is made of runs of one step.
use Rattle.bk_kit.proofs.Terms.{◌≡◌, ◌≢◌, ℕ, ◌+◌, List, Result, Ok, Err, IfErr, if◌then◌else◌, refl, sym, subst, IsErr, Begins, End, StepLimit, WriteFault, Registers, Devices, Paused, Went, Ran, KitFault, Streams, is_read_fault, FileRead, OcodeRefused, RefusesNames}
use Rattle.bk_machine.proofs.Lemmas.{went_on, went_more}

-- an answer that is a fault of the OCODE
pub names_refused : (answer : Result End KitFault) (fault : KitFault) (names code : FileRead) (before after : Streams) → IsErr answer → IfErr answer (λ f. f ≡ fault)
    → OcodeRefused fault names.old names.new names.ended → names.faults ≡ (if is_read_fault fault then 1 else 0) → code.new ≡ code.old → after ≡ before
    → RefusesNames answer names code before after
names_refused (Ok end) fault names code before after is same refuses fails unread left = cc
names_refused (Err other) fault names code before after is same refuses fails unread left =
    subst (λ f. RefusesNames (Err f) names code before after) (sym same) (refuses, fails, unread, left)

module _ (Holds : List ℕ → Type 0) where
  -- unless the output fails, the flush at the end changes nothing
  went_so : (e : End) (n : ℕ) (store : List ℕ) (r : Registers) (store' : List ℕ) (r' : Registers) (old new : Devices) → e ≢ WriteFault
      → Ran Holds e n store r store' r' old new → Went Holds e n store r store' r' old new
  went_so WriteFault n store r store' r' old new sound ran = absurd (sound refl)
  went_so x n store r store' r' old new sound ran = ran

  ran_so : (e : End) (n : ℕ) (store : List ℕ) (r : Registers) (store' : List ℕ) (r' : Registers) (old new : Devices) → e ≢ WriteFault
      → Went Holds e n store r store' r' old new → Ran Holds e n store r store' r' old new
  ran_so WriteFault n store r store' r' old new sound went = absurd (sound refl)
  ran_so x n store r store' r' old new sound went = went

  module _ (k j : ℕ) (store : List ℕ) (r : Registers) (store' : List ℕ) (r' : Registers) (store'' : List ℕ) (r'' : Registers) (old mid new : Devices)
      (first : Paused Holds k store r store' r' old mid) (passes : Begins mid.passed new.passed) where
    -- one step more, and the run goes on
    pub paused_more : Ran Holds StepLimit 1 store' r' store'' r'' mid new → Paused Holds (k + 1) store r store'' r'' old new
    paused_more ran = went_on Holds k 1 store r store' r' old mid new first passes StepLimit store'' r'' ran

    -- one step more, at which it ends
    pub ran_more : (e : End) → e ≢ StepLimit → e ≢ WriteFault → Ran Holds e 1 store' r' store'' r'' mid new → Ran Holds e ((k + 1) + j) store r store'' r'' old new
    ran_more e ends sound ran =
        ran_so e ((k + 1) + j) store r store'' r'' old new sound
        (went_more Holds (k + 1) j store r old new e store'' r'' ends
        (went_on Holds k 1 store r store' r' old mid new first passes e store'' r'' (went_so e 1 store' r' store'' r'' mid new sound ran)))

-- What a filter writes, part after part, and how it ends.
use Rattle.std.specs.Prelude.{◌≡◌, ◌⊎◌, ℕ, List, ◌++◌, Result, Err}
use Rattle.std.specs.Io.KnownBytes.{Appends}
use Rattle.bk_filters.specs.declared.kit_fault.KitFault.{KitFault}
use Rattle.bk_filters.specs.declared.kit_fault.KitFault.TheVariants.{Write}
use Rattle.bk_filters.specs.Telling.{Output}

-- After parts whose text is `front`, the filter comes to an answer with a last text (`Comes`), or takes a part whose text could
-- not be put (`Takes`).
module _ (Comes : Result (Unit {0}) KitFault → List ℕ → Type 0) (Takes : List ℕ → Type 0) (front : List ℕ) (before after : Output) where
  -- All was written that there is to write.
  pub record Written (answer : Result (Unit {0}) KitFault) : Type 0 where
    pub text : List ℕ
    pub comes : Comes answer text
    pub takes : Appends before.taken after.taken (front ++ text)

  -- The output failed as the text of a part was put, of which a beginning was taken.
  pub record Breaks : Type 0 where
    pub text : List ℕ
    pub part : Takes text
    pub some : List ℕ
    pub others : List ℕ
    pub begins : text ≡ some ++ others
    pub takes : Appends before.taken after.taken (front ++ some)

  -- Before the last flush. A failure of the output is reported in the place of any other answer.
  abbrev pub Puts : Result (Unit {0}) KitFault → Type 0
  Puts (Err Write) = (after.faults ≡ 1) × Breaks
  Puts answer = Written answer

  -- At the end: all was passed on; or the output failed, as a text was put or in the last flush.
  abbrev pub Ends : Result (Unit {0}) KitFault → Type 0
  Ends (Err Write) = (after.faults ≡ 1) × (Breaks ⊎ ((answer : Result (Unit {0}) KitFault) × Written answer))
  Ends answer = Written answer × (after.passed ≡ after.taken) × (after.faults ≡ 0)

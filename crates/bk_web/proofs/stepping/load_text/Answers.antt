use Rattle.std.proofs.Common.{◌≡◌, ℕ, Bool, List, Option, Some, Result, Ok, Err, IfOk, IfErr}
use Rattle.bk_machine.specs.declared.machine.Machine.{Machine}
use Rattle.bk_machine.specs.State.{words_of}
use Rattle.bk_filters.specs.declared.kit_fault.KitFault.{KitFault}
use Rattle.bk_filters.specs.Interpreting.{CodeRefused, Loads}
use Rattle.bk_web.specs.Page.{LoadsText, RefusesText}
use Rattle.bk_web.proofs.stepping.load_text.Goals as goal

module _ (words : ℕ) (code : List ℕ) (left : Option (List ℕ)) (ended : Bool) where
  loads : (result : Result Machine KitFault) → IfOk result (λ machine. Loads machine words (Some code) left ended) → IfOk result (λ machine. words_of machine ≡ words) → IfOk result (λ machine. LoadsText machine words code)
  loads (Ok machine) loaded is = record { left = left; ended = ended; loads = loaded; words_is = is }
  loads (Err fault) loaded is = tt

  refuses : (result : Result Machine KitFault) → IfErr result (λ fault. CodeRefused fault words (Some code) left ended) → IfErr result (λ fault. RefusesText fault words code)
  refuses (Ok machine) refused = tt
  refuses (Err fault) refused = record { left = left; ended = ended; refused = refused }

pub returns-clause-loaded : goal.returns-clause-loaded
returns-clause-loaded c = loads _ _ _ _ _ (rw c.new.ensures.left at c.load_code.ensures.loaded) c.load_code.ensures.words

pub returns-clause-refused : goal.returns-clause-refused
returns-clause-refused c = refuses _ _ _ _ _ (rw c.new.ensures.left at c.load_code.ensures.refused)

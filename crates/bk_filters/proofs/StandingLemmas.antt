-- Where the machine stands after a run with devices: at the same bytes, or on the way past them.
use Rattle.bk_filters.proofs.Terms.{◌≡◌, ℕ, List, [], ◌++◌, End, Status, DivideByZero, StoreLimit, StepLimit, BadOperation, ReadFault, WriteFault, Registers, Devices, Standing, Going, Over, output_of, run, Finished, Ran}
use Rattle.bk_machine.specs.Runs.{Exchanged, Follows}
use Rattle.bk_machine.specs.RunLaws.{Beginning, waiting-begins, broken-begins}

-- after a run that ended so, with this input left and these bytes written
abbrev pub StandsSo : End → Standing → (rest written : List ℕ) → Type 0
StandsSo StepLimit m rest written = (store : List ℕ) × (r : Registers) × (m ≡ Going store r rest written)
StandsSo ReadFault m rest written = (more : List ℕ) × (output_of m ≡ written ++ more)
StandsSo WriteFault m rest written = (more : List ℕ) × (output_of m ≡ written ++ more)
StandsSo (Status v) m rest written = m ≡ Over (Status v) rest written
StandsSo DivideByZero m rest written = m ≡ Over DivideByZero rest written
StandsSo StoreLimit m rest written = m ≡ Over StoreLimit rest written
StandsSo BadOperation m rest written = m ≡ Over BadOperation rest written

-- The bytes of a run, and where the machine stands, whatever input follows.
pub record Stood (end : End) (steps : ℕ) (store : List ℕ) (first : Registers) (before after : Devices) : Type 0 where
  pub read : List ℕ
  pub written : List ℕ
  pub exchanged : Exchanged before after read written
  pub applies : (rest : List ℕ) → Follows after rest → StandsSo end (run steps store first (read ++ rest) []) rest written

module _ (Holds : List ℕ → Type 0) (steps : ℕ) (store : List ℕ) (first : Registers) (store' : List ℕ) (registers : Registers) (before after : Devices) where
  begun : (end : End) → ((m : Standing) (rest written : List ℕ) → (more : List ℕ) × (output_of m ≡ written ++ more) → StandsSo end m rest written) → Beginning Holds steps store first before after → Stood end steps store first before after
  begun end so ran = record {
    read = ran.read;
    written = ran.written;
    exchanged = ran.exchanged;
    applies = λ rest follows. so (run steps store first (ran.read ++ rest) []) rest ran.written (ran.begins rest [] follows);
  }

  finished : (end : End) → ((m : Standing) (rest written : List ℕ) → m ≡ Over end rest written → StandsSo end m rest written) → Finished Holds end steps store first before after → Stood end steps store first before after
  finished end so ran = record {
    read = ran.read;
    written = ran.written;
    exchanged = ran.exchanged;
    applies = λ rest follows. so (run steps store first (ran.read ++ rest) []) rest ran.written (ran.ends rest [] follows);
  }

  pub stood : (end : End) → Ran Holds end steps store first store' registers before after → Stood end steps store first before after
  stood (Status v) ran = finished (Status v) (λ m rest written is. is) ran
  stood DivideByZero ran = finished DivideByZero (λ m rest written is. is) ran
  stood BadOperation ran = finished BadOperation (λ m rest written is. is) ran
  stood StoreLimit ran = finished StoreLimit (λ m rest written is. is) ran
  stood StepLimit ran = record {
    read = ran.read;
    written = ran.written;
    exchanged = ran.exchanged;
    applies = λ rest follows. (store', registers, ran.leads rest [] follows);
  }
  stood ReadFault ran = begun ReadFault (λ m rest written is. is) (waiting-begins Holds steps store first before after ran)
  stood WriteFault ran = begun WriteFault (λ m rest written is. is) (broken-begins Holds steps store first before after ran)

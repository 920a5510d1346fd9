-- What is next in a text.
use Rattle.std.specs.Prelude.{ℕ, Bool, List, ◌∷◌}
use Rattle.bk_intcode.specs.declared.words.Found.{Found}
use Rattle.bk_intcode.specs.declared.words.Found.TheVariants.{Item, Fault, Nothing}
use Rattle.bk_words.specs.Words.{AreBlank}
use Rattle.bk_words.specs.Gathering.{TakesWord}
use Rattle.bk_intcode.specs.WordMeaning.{Means, WordFault}

abbrev pub IsNext : Found → List ℕ → Type 0 → Type 0
IsNext (Item item last) given end = (t : TakesWord given last end) × Means (t.first ∷ t.rest) item
IsNext (Fault kind) given end = (last : Bool) × (t : TakesWord given last end) × WordFault (t.first ∷ t.rest) kind
IsNext Nothing given end = AreBlank given × end

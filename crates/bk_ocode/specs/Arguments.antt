-- The one word after the first word of a short statement.
use Rattle.std.specs.Prelude.{ℕ, ◌<◌, ◌^◌, List, [], ◌∷◌, ⊤}
use Rattle.bk_base.specs.Decimal.{spelling}
use Rattle.bk_ocode.specs.StmtText.{natural_word, label_word, argument_words}
use Rattle.bk_ocode.specs.StmtRange.{IsLabel}
use Rattle.bk_ocode.specs.declared.arguments.Argument.{Argument}
use Rattle.bk_ocode.specs.declared.arguments.Argument.TheVariants.{Nothing, Number, Natural, Label}
use Rattle.bk_ocode.specs.declared.stmt.Stmt.{Stmt}
use Rattle.bk_ocode.specs.declared.stmt.Stmt.TheVariants as stmt

abbrev pub words_in : Argument → List (List ℕ)
words_in Nothing = []
words_in (Number value) = spelling value ∷ []
words_in (Natural n) = natural_word n ∷ []
words_in (Label label) = label_word label ∷ []

abbrev pub IsArgument : Argument → Type 0
IsArgument Nothing = ⊤
IsArgument (Number value) = ⊤
IsArgument (Natural n) = n < 2 ^ 31
IsArgument (Label label) = IsLabel label

-- the words after the first, where they are not a list of any length
abbrev pub short_words : Stmt → List (List ℕ)
short_words (stmt.Text bytes) = []
short_words (stmt.Entry label name) = []
short_words (stmt.Switch default cases) = []
short_words (stmt.Globals entries) = []
short_words s = argument_words s

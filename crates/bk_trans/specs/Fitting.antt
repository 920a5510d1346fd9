-- Statements whose numbers and bytes are those of their types.
use Rattle.std.specs.Prelude.{◌≡◌, List, [], ◌∷◌, FitsSigned}
use Rattle.std.specs.Int.{w32}
use Rattle.bk_ocode.specs.declared.stmt.Case.{Case}
use Rattle.bk_ocode.specs.declared.stmt.GlobalEntry.{GlobalEntry}
use Rattle.bk_ocode.specs.declared.stmt.Stmt.{Stmt}
use Rattle.bk_ocode.specs.StmtRange.{IsTyped}
use Rattle.bk_trans.specs.Alike.{case_in_words, entry_in_words, stmt_in_words}

abbrev pub CaseFits : Case → Type 0
CaseFits c = (case_in_words c ≡ c) × FitsSigned w32 c.value

abbrev pub CasesFit : List Case → Type 0
CasesFit [] = Unit {0}
CasesFit (c ∷ cs) = CaseFits c × CasesFit cs

abbrev pub EntriesFit : List GlobalEntry → Type 0
EntriesFit [] = Unit {0}
EntriesFit (e ∷ es) = (entry_in_words e ≡ e) × EntriesFit es

abbrev pub Fits : Stmt → Type 0
Fits s = (stmt_in_words s ≡ s) × IsTyped s

abbrev pub AllFit : List Stmt → Type 0
AllFit [] = Unit {0}
AllFit (s ∷ ss) = Fits s × AllFit ss

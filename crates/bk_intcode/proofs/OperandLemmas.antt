-- Which bytes spell no operand.
use Rattle.bk_intcode.proofs.Terms.{◌≡◌, ◌≢◌, ℕ, pos, ℤ, FitsSigned, w32, List, [], ◌∷◌, arith, refl, spelling, IsLabel, Operand, Number, Local, Global, Label, operand_text, IsOperand, apart, rest_same, no_spelling, spelling-some}

pub no_operand-empty : (o : Operand) → IsOperand o → operand_text o ≢ []
no_operand-empty (Number n) fits = spelling-some n fits
no_operand-empty (Local n) fits = λ is. let h : 80 ∷ spelling n ≡ [] = is in cc
no_operand-empty (Global n) fits = λ is. let h : 71 ∷ spelling n ≡ [] = is in cc
no_operand-empty (Label l) fits = λ is. let h : 76 ∷ spelling (pos l) ≡ [] = is in cc

pub no_operand-local : (rest : List ℕ) → ((z : ℤ) → FitsSigned w32 z → spelling z ≢ rest) → (o : Operand) → IsOperand o → operand_text o ≢ 80 ∷ rest
no_operand-local rest none (Number n) fits = no_spelling 80 rest (λ h. absurd (omega arith)) (λ h. absurd (omega arith)) n fits
no_operand-local rest none (Local n) fits = λ is. none n fits (rest_same 80 (spelling n) rest is)
no_operand-local rest none (Global n) fits = apart 71 80 (spelling n) rest refl
no_operand-local rest none (Label l) fits = apart 76 80 (spelling (pos l)) rest refl

pub no_operand-global : (rest : List ℕ) → ((z : ℤ) → FitsSigned w32 z → spelling z ≢ rest) → (o : Operand) → IsOperand o → operand_text o ≢ 71 ∷ rest
no_operand-global rest none (Number n) fits = no_spelling 71 rest (λ h. absurd (omega arith)) (λ h. absurd (omega arith)) n fits
no_operand-global rest none (Local n) fits = apart 80 71 (spelling n) rest refl
no_operand-global rest none (Global n) fits = λ is. none n fits (rest_same 71 (spelling n) rest is)
no_operand-global rest none (Label l) fits = apart 76 71 (spelling (pos l)) rest refl

pub no_operand-label : (rest : List ℕ) → ((n : ℕ) → IsLabel n → spelling (pos n) ≢ rest) → (o : Operand) → IsOperand o → operand_text o ≢ 76 ∷ rest
no_operand-label rest none (Number n) fits = no_spelling 76 rest (λ h. absurd (omega arith)) (λ h. absurd (omega arith)) n fits
no_operand-label rest none (Local n) fits = apart 80 76 (spelling n) rest refl
no_operand-label rest none (Global n) fits = apart 71 76 (spelling n) rest refl
no_operand-label rest none (Label l) fits = λ is. none l fits (rest_same 76 (spelling (pos l)) rest is)

-- no operand begins with `I`
pub no_operand-indirect : (rest : List ℕ) (o : Operand) → IsOperand o → operand_text o ≢ 73 ∷ rest
no_operand-indirect rest (Number n) fits = no_spelling 73 rest (λ h. absurd (omega arith)) (λ h. absurd (omega arith)) n fits
no_operand-indirect rest (Local n) fits = apart 80 73 (spelling n) rest refl
no_operand-indirect rest (Global n) fits = apart 71 73 (spelling n) rest refl
no_operand-indirect rest (Label l) fits = apart 76 73 (spelling (pos l)) rest refl

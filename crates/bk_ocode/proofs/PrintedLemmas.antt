-- The words of what is printed.
use Rattle.bk_ocode.proofs.Terms.{◌≡◌, ℕ, suc, ℤ, pos, FitsSigned, w32, ◌<◌, ◌^◌, ◌++◌, ◌&&◌, not, nat_lt, Bool, true, List, [], ◌∷◌, length, arith, refl, sym, ap, ◌∙◌, append_assoc, ⊤, list_all, spelling, is_blank, words_of, AreInWord, words_of-front, fits-pos, spelling-some, spelling-inside, joined, keyword, argument_words, stmt_words, stmt_text, spaced, natural_word, label_word, variable_word, byte_words, section_text, section_words, IsLabel, IsVariable, IsStmt, keyword_text, keyword_of_stmt, Case, GlobalEntry, Stmt, Keyword, Stmt as stmt, and_parts, not-true}
use Rattle.bk_ocode.specs.declared.stmt.Variable.{Variable}
use Rattle.bk_ocode.specs.declared.stmt.Variable.TheVariants as variable
use Rattle.bk_ocode.proofs.KeywordLemmas.{short_word, begins_so}
use Rattle.bk_ocode.proofs.SameStmts.{Each, byte_row, case_row, global_row, IsByte, IsCase, IsEntry}

-- a word has a byte at least, and no blank
abbrev IsWord : List ℕ → Type 0
IsWord word = (0 < length word) × AreInWord word

abbrev AreWords : List (List ℕ) → Type 0
AreWords [] = ⊤
AreWords (word ∷ rest) = IsWord word × AreWords rest

some_byte : (word : List ℕ) → (word ≡ [] → ⊥) → 0 < length word
some_byte [] some = absurd (some refl)
some_byte (b ∷ word) some = omega arith

number-word : (z : ℤ) → FitsSigned w32 z → IsWord (spelling z)
number-word z fits = (some_byte (spelling z) (spelling-some z fits), spelling-inside z fits)

natural-word : (n : ℕ) → n < 2 ^ 31 → IsWord (natural_word n)
natural-word n small = number-word (pos n) (fits-pos n small)

label-word : (l : ℕ) → IsLabel l → IsWord (label_word l)
label-word l fits = (omega arith, (refl, (natural-word l (omega (arith, fits.1))).1))

variable-word : (v : Variable) → IsVariable v → IsWord (variable_word v)
variable-word (variable.Local n) fits = natural-word n fits.1
variable-word (variable.Global n) fits = natural-word n (omega (arith, fits))
variable-word (variable.Static l) fits = label-word l fits

-- The words that begin statements are such.
abbrev inside : List ℕ → Bool
inside word = list_all (λ b. not (is_blank b)) word

in_word : (word : List ℕ) → inside word ≡ true → AreInWord word
in_word [] is = tt
in_word (b ∷ word) is = let p = and_parts (not (is_blank b)) (inside word) is in (not-true (is_blank b) p.0, in_word word p.1)

keyword-word : (k : Keyword) → IsWord (keyword_text k)
keyword-word k = let word = short_word k in (word.0, in_word (keyword_text k) word.2)

first-word : (s : Stmt) → IsWord (keyword s)
first-word s = rw (begins_so s) (keyword-word (keyword_of_stmt s))

AreWords-append : (a b : List (List ℕ)) → AreWords a → AreWords b → AreWords (a ++ b)
AreWords-append [] b p q = q
AreWords-append (w ∷ a) b p q = (p.0, AreWords-append a b p.1 q)

row-words : (A : Type 0) (row : A → List (List ℕ)) (Fine : A → Type 0) → ((x : A) → Fine x → AreWords (row x)) → (xs : List A) → Each Fine xs → AreWords (joined row xs)
row-words A row Fine each [] are = tt
row-words A row Fine each (x ∷ xs) are = AreWords-append (row x) (joined row xs) (each x (are 0 x refl)) (row-words A row Fine each xs (λ k y at. are (suc k) y at))

byte-words : (bytes : List ℕ) → Each IsByte bytes → AreWords (byte_words bytes)
byte-words bytes are = row-words ℕ byte_row IsByte (λ b fits. (natural-word b (omega (arith, fits)), tt)) bytes are

argument-words : (s : Stmt) → IsStmt s → AreWords (argument_words s)
argument-words (stmt.Number v) fits = (number-word v fits.1, tt)
argument-words (stmt.DataNumber v) fits = (number-word v fits.1, tt)
argument-words (stmt.Load from) fits = (variable-word from fits.0, tt)
argument-words (stmt.Address of) fits = (variable-word of fits.0, tt)
argument-words (stmt.Assign to) fits = (variable-word to fits.0, tt)
argument-words (stmt.Jump l) fits = (label-word l fits.0, tt)
argument-words (stmt.JumpIf b l) fits = (label-word l fits.0, tt)
argument-words (stmt.Label l) fits = (label-word l fits.0, tt)
argument-words (stmt.GiveResult l) fits = (label-word l fits.0, tt)
argument-words (stmt.DataLabel l) fits = (label-word l fits.0, tt)
argument-words (stmt.DataAddress l) fits = (label-word l fits.0, tt)
argument-words (stmt.TakeResult n) fits = (natural-word n fits.0.1, tt)
argument-words (stmt.CallFunction n) fits = (natural-word n fits.0.1, tt)
argument-words (stmt.CallRoutine n) fits = (natural-word n fits.0.1, tt)
argument-words (stmt.Stack n) fits = (natural-word n (omega (arith, fits.0.1)), tt)
argument-words (stmt.Save n) fits = (natural-word n (omega (arith, fits.0.1)), tt)
argument-words (stmt.Text bytes) fits = (natural-word (length bytes) (omega (arith, fits.0)), byte-words bytes fits.1)
argument-words (stmt.Entry l name) fits = (label-word l fits.0.0, (natural-word (length name) (omega (arith, fits.0.1)), byte-words name fits.1))
argument-words (stmt.Switch default cases) fits = (
  natural-word (length cases) fits.0.1.counted,
  (label-word default fits.0.0, row-words Case case_row IsCase (λ c own. (number-word c.value own.0, (label-word c.label own.1, tt))) cases (λ k c at. (fits.1 k c at, fits.0.1.labels k c at))),
)
argument-words (stmt.Globals entries) fits = (
  natural-word (length entries) fits.0.counted,
  row-words GlobalEntry global_row IsEntry (λ e own. (natural-word e.number (omega (arith, own.0)), (label-word e.label own.1, tt))) entries fits.0.in_range,
)
argument-words stmt.True fits = tt
argument-words _ fits = tt

-- words parted by blanks, in front of a line feed
words_of-line : (word : List ℕ) (words : List (List ℕ)) (more : List ℕ) → IsWord word → AreWords words → words_of (word ++ (spaced words ++ 10 ∷ more)) ≡ word ∷ (words ++ words_of more)
words_of-line word [] more is are = words_of-front word more 10 is.0 is.1 refl
words_of-line word (w ∷ words) more is are =
    words_of-front word ((w ++ spaced words) ++ 10 ∷ more) 32 is.0 is.1 refl
    ∙ ap (λ (t : List ℕ). word ∷ words_of t) (append_assoc w (spaced words) (10 ∷ more))
    ∙ ap (λ (t : List (List ℕ)). word ∷ t) (words_of-line w words more are.0 are.1)

words_of-stmt : (s : Stmt) (more : List ℕ) → IsStmt s → words_of ((stmt_text s ++ 10 ∷ []) ++ more) ≡ stmt_words s ++ words_of more
words_of-stmt s more fits =
    ap words_of (append_assoc (stmt_text s) (10 ∷ []) more ∙ append_assoc (keyword s) (spaced (argument_words s)) (10 ∷ more))
    ∙ words_of-line (keyword s) (argument_words s) more (first-word s) (argument-words s fits)

-- the words of what is printed are those of the statements, and then those of what follows
pub words_of-printed : (stmts : List Stmt) (more : List ℕ) → Each IsStmt stmts → words_of (section_text stmts ++ more) ≡ section_words stmts ++ words_of more
words_of-printed [] more are = refl
words_of-printed (s ∷ stmts) more are =
    ap words_of (append_assoc (stmt_text s ++ 10 ∷ []) (section_text stmts) more)
    ∙ words_of-stmt s (section_text stmts ++ more) (are 0 s refl)
    ∙ ap (λ (w : List (List ℕ)). stmt_words s ++ w) (words_of-printed stmts more (λ k t at. are (suc k) t at))
    ∙ sym (append_assoc (stmt_words s) (section_words stmts) (words_of more))

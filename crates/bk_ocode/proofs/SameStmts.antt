-- Words stand for one statement, and no statement's words begin those of another.
use Rattle.std.proofs.lemmas.Fmt.{decimal_injective, signed_decimal_injective}
use Rattle.bk_ocode.specs.declared.stmt.Variable.{Variable}
use Rattle.bk_ocode.specs.declared.stmt.Variable.TheVariants as variable
use Rattle.bk_ocode.proofs.Depths.{at_seam, ◌≡◌, ℕ, suc, ℤ, FitsSigned, w32, ◌<◌, ◌≤◌, ◌^◌, ◌++◌, Bool, List, [], ◌∷◌, Some, length, slice_get, arith, refl, sym, ap, ◌∙◌, append_assoc, append-nil, length-append, spelling, mag-fits, rest_same, joined, keyword, argument_words, stmt_words, natural_word, label_word, variable_word, case_words, IsLabel, IsGlobal, IsVariable, IsStmt, kind_of, keyword_of_stmt, Case, GlobalEntry, Stmt, Stmt as stmt}
use Rattle.bk_ocode.proofs.KeywordLemmas.{begins_so, same_keyword}

pub first_same : (v w : List ℕ) (s t : List (List ℕ)) → v ∷ s ≡ w ∷ t → v ≡ w
first_same v w s t is = cc

pub rests_same : (v w : List ℕ) (s t : List (List ℕ)) → v ∷ s ≡ w ∷ t → s ≡ t
rests_same v w s t is = cc

-- words stand for one number
pub number_same : (y z : ℤ) → FitsSigned w32 y → FitsSigned w32 z → spelling y ≡ spelling z → y ≡ z
number_same y z p q is = signed_decimal_injective y z (mag-fits y p) (mag-fits z q) is

pub natural_same : (m n : ℕ) → m < 2 ^ 31 → n < 2 ^ 31 → natural_word m ≡ natural_word n → m ≡ n
natural_same m n p q is = decimal_injective m n (omega (arith, p)) (omega (arith, q)) is

label_same : (l m : ℕ) → IsLabel l → IsLabel m → label_word l ≡ label_word m → l ≡ m
label_same l m p q is = natural_same l m (omega (arith, p.1)) (omega (arith, q.1)) (rest_same 76 (natural_word l) (natural_word m) is)

variable_same : (u v : Variable) → IsVariable u → IsVariable v → kind_of u ≡ kind_of v → variable_word u ≡ variable_word v → u ≡ v
variable_same (variable.Local m) (variable.Local n) p q kind is = ap variable.Local (natural_same m n p.1 q.1 is)
variable_same (variable.Global m) (variable.Global n) p q kind is = ap variable.Global (natural_same m n (omega (arith, p)) (omega (arith, q)) is)
variable_same (variable.Static m) (variable.Static n) p q kind is = ap variable.Static (label_same m n p q is)
variable_same x y p q kind is = absurd (cc)

-- each of these holds it
abbrev pub Each : {A : Type 0} → (A → Type 0) → List A → Type 0
Each Fine xs = (k : ℕ) (x : _) → slice_get xs k ≡ Some x → Fine x

-- No row begins another, and rows stand for one thing.
abbrev pub AreRows : (A : Type 0) → (A → List (List ℕ)) → (A → Type 0) → Type 0
AreRows A row Fine = (p q : A) (x y : List (List ℕ)) → Fine p → Fine q → row p ++ x ≡ row q ++ y → (p ≡ q) × (x ≡ y)

-- rows that begin the rows of others are the first of those
pub front_same : (A : Type 0) (row : A → List (List ℕ)) (Fine : A → Type 0) → AreRows A row Fine → (a b : List A) (x y : List (List ℕ)) → Each Fine a → Each Fine b →
    joined row a ++ x ≡ joined row b ++ y → length a ≤ length b → (c : List A) × (b ≡ a ++ c) × (x ≡ joined row c ++ y)
front_same A row Fine rows [] b x y p q is short = (b, refl, is)
front_same A row Fine rows (i ∷ a) [] x y p q is short = absurd (omega arith)
front_same A row Fine rows (i ∷ a) (j ∷ b) x y p q is short =
    let one = rows i j (joined row a ++ x) (joined row b ++ y) (p 0 i refl) (q 0 j refl) (sym (append_assoc (row i) (joined row a) x) ∙ is ∙ append_assoc (row j) (joined row b) y) in
    let r = front_same A row Fine rows a b x y (λ k item at. p (suc k) item at) (λ k item at. q (suc k) item at) one.1 (omega arith) in
    (r.0, ap (λ k. k ∷ b) (sym one.0) ∙ ap (λ (l : List A). i ∷ l) r.1, r.2)

pub none_of : {A : Type 0} (c : List A) → length c ≡ 0 → c ≡ []
none_of [] is = refl
none_of (x ∷ c) is = absurd (omega arith)

-- so many rows stand for one list
pub all_same : (A : Type 0) (row : A → List (List ℕ)) (Fine : A → Type 0) → AreRows A row Fine → (a b : List A) (x y : List (List ℕ)) → Each Fine a → Each Fine b →
    joined row a ++ x ≡ joined row b ++ y → length a ≡ length b → (a ≡ b) × (x ≡ y)
all_same A row Fine rows a b x y p q is long =
    let r = front_same A row Fine rows a b x y p q is (omega (arith, long)) in
    let none : r.0 ≡ [] = none_of r.0 (omega (arith, long, ap (λ (l : List A). length l) r.1, length-append a r.0)) in
    (sym (r.1 ∙ ap (λ (l : List A). a ++ l) none ∙ append-nil a), r.2 ∙ ap (λ (l : List A). joined row l ++ y) none)

abbrev pub byte_row : ℕ → List (List ℕ)
byte_row b = natural_word b ∷ []

abbrev pub case_row : Case → List (List ℕ)
case_row c = spelling c.value ∷ label_word c.label ∷ []

abbrev pub global_row : GlobalEntry → List (List ℕ)
global_row e = natural_word e.number ∷ label_word e.label ∷ []

abbrev pub IsByte : ℕ → Type 0
IsByte b = b < 256

abbrev pub IsCase : Case → Type 0
IsCase c = FitsSigned w32 c.value × IsLabel c.label

abbrev pub IsEntry : GlobalEntry → Type 0
IsEntry e = IsGlobal e.number × IsLabel e.label

pub byte_rows : AreRows ℕ byte_row IsByte
byte_rows p q x y fits own is = (natural_same p q (omega (arith, fits)) (omega (arith, own)) (first_same (natural_word p) (natural_word q) x y is), rests_same (natural_word p) (natural_word q) x y is)

pub case_rows : AreRows Case case_row IsCase
case_rows p q x y fits own is =
    let value = number_same p.value q.value fits.0 own.0 (first_same (spelling p.value) (spelling q.value) (label_word p.label ∷ x) (label_word q.label ∷ y) is) in
    let tail = rests_same (spelling p.value) (spelling q.value) (label_word p.label ∷ x) (label_word q.label ∷ y) is in
    let label = label_same p.label q.label fits.1 own.1 (first_same (label_word p.label) (label_word q.label) x y tail) in
    (case_same p.value p.label q.value q.label value label, rests_same (label_word p.label) (label_word q.label) x y tail)
  where
    case_same : (v : ℤ) (l : ℕ) (w : ℤ) (m : ℕ) → v ≡ w → l ≡ m → ◌≡◌ {A = Case} (record { value = v; label = l }) (record { value = w; label = m })
    case_same v l w m value label = cc

pub global_rows : AreRows GlobalEntry global_row IsEntry
global_rows p q x y fits own is = grind (arith, natural_same, first_same, rests_same, label_same)

one_number : (make : ℤ → Stmt) (v w : ℤ) (x y : List (List ℕ)) → FitsSigned w32 v → FitsSigned w32 w → spelling v ∷ x ≡ spelling w ∷ y → (make v ≡ make w) × (x ≡ y)
one_number make v w x y p q is = (ap make (number_same v w p q (first_same (spelling v) (spelling w) x y is)), rests_same (spelling v) (spelling w) x y is)

one_natural : (make : ℕ → Stmt) (m n : ℕ) (x y : List (List ℕ)) → m < 2 ^ 31 → n < 2 ^ 31 → natural_word m ∷ x ≡ natural_word n ∷ y → (make m ≡ make n) × (x ≡ y)
one_natural make m n x y p q is = (ap make (natural_same m n p q (first_same (natural_word m) (natural_word n) x y is)), rests_same (natural_word m) (natural_word n) x y is)

one_label : (make : ℕ → Stmt) (l m : ℕ) (x y : List (List ℕ)) → IsLabel l → IsLabel m → label_word l ∷ x ≡ label_word m ∷ y → (make l ≡ make m) × (x ≡ y)
one_label make l m x y p q is = (ap make (label_same l m p q (first_same (label_word l) (label_word m) x y is)), rests_same (label_word l) (label_word m) x y is)

one_variable : (make : Variable → Stmt) (u v : Variable) (x y : List (List ℕ)) → IsVariable u → IsVariable v → kind_of u ≡ kind_of v → variable_word u ∷ x ≡ variable_word v ∷ y → (make u ≡ make v) × (x ≡ y)
one_variable make u v x y p q kind is = (ap make (variable_same u v p q kind (first_same (variable_word u) (variable_word v) x y is)), rests_same (variable_word u) (variable_word v) x y is)

counted : (A : Type 0) (row : A → List (List ℕ)) (Fine : A → Type 0) → AreRows A row Fine → (a b : List A) (x y : List (List ℕ)) → Each Fine a → Each Fine b → length a < 2 ^ 31 → length b < 2 ^ 31 →
    natural_word (length a) ∷ (joined row a ++ x) ≡ natural_word (length b) ∷ (joined row b ++ y) → (a ≡ b) × (x ≡ y)
counted A row Fine rows a b x y p q few less is =
    all_same A row Fine rows a b x y p q (rests_same (natural_word (length a)) (natural_word (length b)) (joined row a ++ x) (joined row b ++ y) is)
    (natural_same (length a) (length b) few less (first_same (natural_word (length a)) (natural_word (length b)) (joined row a ++ x) (joined row b ++ y) is))

-- one first word, and other words of one statement
same_behind : (s t : Stmt) (x y : List (List ℕ)) → IsStmt s → IsStmt t → keyword_of_stmt s ≡ keyword_of_stmt t → argument_words s ++ x ≡ argument_words t ++ y → (s ≡ t) × (x ≡ y)
same_behind (stmt.Number v) (stmt.Number w) x y p q key is = one_number stmt.Number v w x y p.1 q.1 is
same_behind stmt.True stmt.True x y p q key is = (refl, is)
same_behind stmt.False stmt.False x y p q key is = (refl, is)
same_behind stmt.Query stmt.Query x y p q key is = (refl, is)
same_behind (stmt.Load u) (stmt.Load v) x y p q key is = one_variable stmt.Load u v x y p.0 q.0 (cc) is
same_behind (stmt.Address u) (stmt.Address v) x y p q key is = one_variable stmt.Address u v x y p.0 q.0 (cc) is
same_behind (stmt.Text a) (stmt.Text b) x y p q key is =
    let r = counted ℕ byte_row IsByte byte_rows a b x y p.1 q.1 (omega (arith, p.0)) (omega (arith, q.0)) is in
    (ap stmt.Text r.0, r.1)
same_behind (stmt.Monadic f) (stmt.Monadic g) x y p q key is = (ap stmt.Monadic (cc), is)
same_behind (stmt.Dyadic f) (stmt.Dyadic g) x y p q key is = (ap stmt.Dyadic (cc), is)
same_behind stmt.LoadByte stmt.LoadByte x y p q key is = (refl, is)
same_behind (stmt.Assign u) (stmt.Assign v) x y p q key is = one_variable stmt.Assign u v x y p.0 q.0 (cc) is
same_behind stmt.AssignAt stmt.AssignAt x y p q key is = (refl, is)
same_behind stmt.AssignByte stmt.AssignByte x y p q key is = (refl, is)
same_behind (stmt.Jump l) (stmt.Jump m) x y p q key is = one_label stmt.Jump l m x y p.0 q.0 is
same_behind (stmt.JumpIf b l) (stmt.JumpIf c m) x y p q key is =
    let r = one_label (stmt.JumpIf b) l m x y p.0 q.0 is in
    (r.0 ∙ ap (λ (d : Bool). stmt.JumpIf d m) (cc), r.1)
same_behind (stmt.Label l) (stmt.Label m) x y p q key is = one_label stmt.Label l m x y p.0 q.0 is
same_behind (stmt.GiveResult l) (stmt.GiveResult m) x y p q key is = one_label stmt.GiveResult l m x y p.0 q.0 is
same_behind (stmt.TakeResult m) (stmt.TakeResult n) x y p q key is = one_natural stmt.TakeResult m n x y p.0.1 q.0.1 is
same_behind (stmt.Stack m) (stmt.Stack n) x y p q key is = one_natural stmt.Stack m n x y (omega (arith, p.0.1)) (omega (arith, q.0.1)) is
same_behind stmt.Store stmt.Store x y p q key is = (refl, is)
same_behind (stmt.Entry l a) (stmt.Entry m b) x y p q key is =
    let label = label_same l m p.0.0 q.0.0 (first_same (label_word l) (label_word m) _ _ is) in
    let r = counted ℕ byte_row IsByte byte_rows a b x y p.1 q.1 (omega (arith, p.0.1)) (omega (arith, q.0.1)) (rests_same (label_word l) (label_word m) _ _ is) in
    (ap (λ (k : ℕ). stmt.Entry k a) label ∙ ap (stmt.Entry m) r.0, r.1)
same_behind (stmt.Save m) (stmt.Save n) x y p q key is = one_natural stmt.Save m n x y (omega (arith, p.0.1)) (omega (arith, q.0.1)) is
same_behind (stmt.CallFunction m) (stmt.CallFunction n) x y p q key is = one_natural stmt.CallFunction m n x y p.0.1 q.0.1 is
same_behind (stmt.CallRoutine m) (stmt.CallRoutine n) x y p q key is = one_natural stmt.CallRoutine m n x y p.0.1 q.0.1 is
same_behind stmt.ReturnItem stmt.ReturnItem x y p q key is = (refl, is)
same_behind stmt.Return stmt.Return x y p q key is = (refl, is)
same_behind stmt.EndProcedure stmt.EndProcedure x y p q key is = (refl, is)
same_behind (stmt.Switch l a) (stmt.Switch m b) x y p q key is =
    let count = first_same (natural_word (length a)) (natural_word (length b)) _ _ is in
    let tail = rests_same (natural_word (length a)) (natural_word (length b)) (label_word l ∷ (case_words a ++ x)) (label_word m ∷ (case_words b ++ y)) is in
    let label = label_same l m p.0.0 q.0.0 (first_same (label_word l) (label_word m) _ _ tail) in
    let r = all_same Case case_row IsCase case_rows a b x y (λ k c at. (p.1 k c at, p.0.1.labels k c at)) (λ k c at. (q.1 k c at, q.0.1.labels k c at)) (rests_same (label_word l) (label_word m) _ _ tail)
    (natural_same (length a) (length b) p.0.1.counted q.0.1.counted count) in
    (ap (λ (k : ℕ). stmt.Switch k a) label ∙ ap (stmt.Switch m) r.0, r.1)
same_behind stmt.Finish stmt.Finish x y p q key is = (refl, is)
same_behind (stmt.DataLabel l) (stmt.DataLabel m) x y p q key is = one_label stmt.DataLabel l m x y p.0 q.0 is
same_behind (stmt.DataNumber v) (stmt.DataNumber w) x y p q key is = one_number stmt.DataNumber v w x y p.1 q.1 is
same_behind (stmt.DataAddress l) (stmt.DataAddress m) x y p q key is = one_label stmt.DataAddress l m x y p.0 q.0 is
same_behind (stmt.Globals a) (stmt.Globals b) x y p q key is =
    let r = counted GlobalEntry global_row IsEntry global_rows a b x y p.0.in_range q.0.in_range p.0.counted q.0.counted is in
    (ap stmt.Globals r.0, r.1)
same_behind _ _ x y p q key is = absurd (cc)

-- words stand for one statement, and begin no other
pub stmt_same : AreRows Stmt stmt_words IsStmt
stmt_same s t x y p q is =
    same_behind s t x y p q
    (same_keyword (keyword_of_stmt s) (keyword_of_stmt t) (sym (begins_so s) ∙ first_same (keyword s) (keyword t) (argument_words s ++ x) (argument_words t ++ y) is ∙ begins_so t))
    (rests_same (keyword s) (keyword t) (argument_words s ++ x) (argument_words t ++ y) is)

-- the row behind those that are fewer
pub next_row : (A : Type 0) (row : A → List (List ℕ)) (Fine : A → Type 0) → AreRows A row Fine → (a b : List A) (x y : List (List ℕ)) → Each Fine a → Each Fine b →
    joined row a ++ x ≡ joined row b ++ y → length a < length b → (i : A) × (c : List A) × (b ≡ a ++ i ∷ c) × Fine i × (x ≡ row i ++ (joined row c ++ y))
next_row A row Fine rows a b x y p q is short =
    let r = front_same A row Fine rows a b x y p q is (omega (arith, short)) in
    some r.0 r.1 r.2
  where
    some : (c : List A) → b ≡ a ++ c → x ≡ joined row c ++ y → (i : A) × (c : List A) × (b ≡ a ++ i ∷ c) × Fine i × (x ≡ row i ++ (joined row c ++ y))
    some [] whole rest = absurd (omega (arith, short, ap (λ (l : List A). length l) whole, length-append a []))
    some (i ∷ c) whole rest = (i, c, whole, q (length a) i (ap (λ (l : List A). slice_get l (length a)) whole ∙ at_seam a i c), rest ∙ append_assoc (row i) (joined row c) y)

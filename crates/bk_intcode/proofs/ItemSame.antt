-- One word stands for one item.
use Rattle.bk_intcode.proofs.OperandLemmas.{no_operand-indirect}
use Rattle.bk_intcode.proofs.WordLemmas.{other_class, letter-class, global_parts, ◌≡◌, ◌≢◌, ℕ, ◌<◌, ◌≤◌, ◌^◌, ◌++◌, ◌==◌, nat_eq, Bool, true, false, if◌then◌else◌, pos, ℤ, FitsSigned, w32, List, [], ◌∷◌, length, get_or, arith, refl, sym, ap, ◌∙◌, decimal_injective, signed_decimal_injective, get_or_append_left, take-append_seam, drop-append-add, IsInRange, spelling, Function, Load, Store, Add, Jump, JumpTrue, JumpFalse, Call, Operate, Operand, Number, Local, Global, Label, Item, Instruction, SetLabel, Byte, Word, LabelWord, SetGlobal, Frame, End, letter, indirect_text, operand_text, item_text, IsOperand, IsItem, mag-fits, rest_same, apart, digit-at, at_seam, no_spelling}

natural_same : (m n : ℕ) → m < 2 ^ 64 → n < 2 ^ 64 → spelling (pos m) ≡ spelling (pos n) → m ≡ n
natural_same m n p q is = decimal_injective m n p q is

word_same : (y z : ℤ) → FitsSigned w32 y → FitsSigned w32 z → spelling y ≡ spelling z → y ≡ z
word_same y z p q is = signed_decimal_injective y z (mag-fits y p) (mag-fits z q) is

function_of : ℕ → Function
function_of b =
    if b == 76 then Load else (if b == 83 then Store else (if b == 65 then Add else (if b == 74 then Jump else
    (if b == 84 then JumpTrue else (if b == 70 then JumpFalse else (if b == 75 then Call else Operate))))))

function_of-letter : (f : Function) → function_of (letter f) ≡ f
unfolding function_of
function_of-letter Load = refl
function_of-letter _ = refl

letter_same : (f g : Function) → letter f ≡ letter g → f ≡ g
letter_same f g is = sym (function_of-letter f) ∙ ap function_of is ∙ function_of-letter g

no_mark : (n : ℤ) → FitsSigned w32 n → (b : ℕ) (rest : List ℕ) → nat_eq b 45 ≡ false → 58 ≤ b → spelling n ≢ b ∷ rest
no_mark n fits b rest test high = no_spelling b rest (λ h. absurd (omega arith)) (λ h. absurd (omega arith)) n fits

operand_same : (o p : Operand) → IsOperand o → IsOperand p → operand_text o ≡ operand_text p → o ≡ p
operand_same (Number n) (Number m) x y is = ap Number (word_same n m x y is)
operand_same (Number n) (Local m) x y is = absurd (no_mark n x 80 (spelling m) refl (omega arith) is)
operand_same (Number n) (Global m) x y is = absurd (no_mark n x 71 (spelling m) refl (omega arith) is)
operand_same (Number n) (Label k) x y is = absurd (no_mark n x 76 (spelling (pos k)) refl (omega arith) is)
operand_same (Local n) (Number m) x y is = absurd (no_mark m y 80 (spelling n) refl (omega arith) (sym is))
operand_same (Local n) (Local m) x y is = ap Local (word_same n m x y (rest_same 80 (spelling n) (spelling m) is))
operand_same (Local n) (Global m) x y is = absurd (apart 80 71 (spelling n) (spelling m) refl is)
operand_same (Local n) (Label k) x y is = absurd (apart 80 76 (spelling n) (spelling (pos k)) refl is)
operand_same (Global n) (Number m) x y is = absurd (no_mark m y 71 (spelling n) refl (omega arith) (sym is))
operand_same (Global n) (Local m) x y is = absurd (apart 71 80 (spelling n) (spelling m) refl is)
operand_same (Global n) (Global m) x y is = ap Global (word_same n m x y (rest_same 71 (spelling n) (spelling m) is))
operand_same (Global n) (Label k) x y is = absurd (apart 71 76 (spelling n) (spelling (pos k)) refl is)
operand_same (Label l) (Number m) x y is = absurd (no_mark m y 76 (spelling (pos l)) refl (omega arith) (sym is))
operand_same (Label l) (Local m) x y is = absurd (apart 76 80 (spelling (pos l)) (spelling m) refl is)
operand_same (Label l) (Global m) x y is = absurd (apart 76 71 (spelling (pos l)) (spelling m) refl is)
operand_same (Label l) (Label k) x y is = ap Label (natural_same l k (omega (arith, x.0, x.1)) (omega (arith, y.0, y.1)) (rest_same 76 (spelling (pos l)) (spelling (pos k)) is))

indirect_same : (i j : Bool) (o p : Operand) → IsOperand o → IsOperand p → indirect_text i ++ operand_text o ≡ indirect_text j ++ operand_text p → (i ≡ j) × (o ≡ p)
indirect_same true true o p x y is = (refl, operand_same o p x y (rest_same 73 (operand_text o) (operand_text p) is))
indirect_same false false o p x y is = (refl, operand_same o p x y is)
indirect_same true false o p x y is = absurd (no_operand-indirect (operand_text o) p y (sym is))
indirect_same false true o p x y is = absurd (no_operand-indirect (operand_text p) o x is)

heads_same : (a b : ℕ) (x y : List ℕ) → a ∷ x ≡ b ∷ y → a ≡ b
heads_same a b x y is = cc

tails_same : (a b : ℕ) (x y : List ℕ) → a ∷ x ≡ b ∷ y → x ≡ y
tails_same a b x y is = cc

global_same : (n l m k : ℕ) → n < 2 ^ 64 → m < 2 ^ 64 → spelling (pos n) ++ 76 ∷ spelling (pos l) ≡ spelling (pos m) ++ 76 ∷ spelling (pos k) → (spelling (pos n) ≡ spelling (pos m)) × (spelling (pos l) ≡ spelling (pos k))
global_same n l m k small below is =
    let a = spelling (pos m) in
    let b = spelling (pos k) in
    let before : (i : ℕ) → i < length a → get_or (a ++ 76 ∷ b) i 0 ≢ 76 = λ i low at.
    let digit : IsInRange 48 57 (get_or a i 0) = digit-at m below i low in
    let here : get_or (a ++ 76 ∷ b) i 0 ≡ get_or a i 0 = get_or_append_left a (76 ∷ b) 0 i low in
    absurd (omega (arith, digit.0, digit.1, here, at)) in
    let parts = global_parts n l (length a) (a ++ 76 ∷ b) small is (at_seam a b) before in
    (parts.0 ∙ take-append_seam a (76 ∷ b), parts.1 ∙ drop-append-add a (76 ∷ b) 1)

pub item_same : (a b : Item) → IsItem a → IsItem b → item_text a ≡ item_text b → a ≡ b
item_same (Instruction f i o) (Instruction g j p) x y is = let h = indirect_same i j o p x y (tails_same (letter f) (letter g) (indirect_text i ++ operand_text o) (indirect_text j ++ operand_text p) is) in let e : f ≡ g = letter_same f g (heads_same (letter f) (letter g) (indirect_text i ++ operand_text o) (indirect_text j ++ operand_text p) is) in ap (λ q. Instruction q i o) e ∙ ap (λ q. Instruction g q o) h.0 ∙ ap (λ q. Instruction g j q) h.1
item_same (Instruction f i o) (SetLabel k) x y is = absurd (other_class (SetLabel k) y (letter f) (indirect_text i ++ operand_text o) 0 (letter-class f) refl (sym is))
item_same (Instruction f i o) (Word m) x y is = absurd (other_class (Instruction f i o) x 68 (spelling m) 68 refl refl is)
item_same (Instruction f i o) (LabelWord k) x y is = absurd (other_class (Instruction f i o) x 68 (76 ∷ spelling (pos k)) 68 refl refl is)
item_same (Instruction f i o) (SetGlobal m k) x y is = absurd (other_class (Instruction f i o) x 71 (spelling (pos m) ++ 76 ∷ spelling (pos k)) 71 refl refl is)
item_same (Instruction f i o) (Frame m) x y is = absurd (other_class (Instruction f i o) x 81 (spelling (pos m)) 81 refl refl is)
item_same (Instruction f i o) End x y is = absurd (other_class (Instruction f i o) x 90 [] 90 refl refl is)
item_same (SetLabel l) (Instruction g j p) x y is = absurd (other_class (SetLabel l) x (letter g) (indirect_text j ++ operand_text p) 0 (letter-class g) refl is)
item_same (SetLabel l) (SetLabel k) x y is = ap SetLabel (natural_same l k (omega (arith, x.0, x.1)) (omega (arith, y.0, y.1)) is)
item_same (SetLabel l) (Word m) x y is = absurd (other_class (SetLabel l) x 68 (spelling m) 68 refl refl is)
item_same (SetLabel l) (LabelWord k) x y is = absurd (other_class (SetLabel l) x 68 (76 ∷ spelling (pos k)) 68 refl refl is)
item_same (SetLabel l) (SetGlobal m k) x y is = absurd (other_class (SetLabel l) x 71 (spelling (pos m) ++ 76 ∷ spelling (pos k)) 71 refl refl is)
item_same (SetLabel l) (Frame m) x y is = absurd (other_class (SetLabel l) x 81 (spelling (pos m)) 81 refl refl is)
item_same (SetLabel l) End x y is = absurd (other_class (SetLabel l) x 90 [] 90 refl refl is)
item_same (Byte n) (Instruction g j p) x y is = absurd (other_class (Instruction g j p) y 67 (spelling (pos n)) 67 refl refl (sym is))
item_same (Byte n) (SetLabel k) x y is = absurd (other_class (SetLabel k) y 67 (spelling (pos n)) 67 refl refl (sym is))
item_same (Byte n) (Byte m) x y is = ap Byte (natural_same n m (omega arith) (omega arith) (rest_same 67 (spelling (pos n)) (spelling (pos m)) is))
item_same (Byte n) (Word m) x y is = absurd (other_class (Byte n) x 68 (spelling m) 68 refl refl is)
item_same (Byte n) (LabelWord k) x y is = absurd (other_class (Byte n) x 68 (76 ∷ spelling (pos k)) 68 refl refl is)
item_same (Byte n) (SetGlobal m k) x y is = absurd (other_class (Byte n) x 71 (spelling (pos m) ++ 76 ∷ spelling (pos k)) 71 refl refl is)
item_same (Byte n) (Frame m) x y is = absurd (other_class (Byte n) x 81 (spelling (pos m)) 81 refl refl is)
item_same (Byte n) End x y is = absurd (other_class (Byte n) x 90 [] 90 refl refl is)
item_same (Word n) (Instruction g j p) x y is = absurd (other_class (Instruction g j p) y 68 (spelling n) 68 refl refl (sym is))
item_same (Word n) (SetLabel k) x y is = absurd (other_class (SetLabel k) y 68 (spelling n) 68 refl refl (sym is))
item_same (Word n) (Word m) x y is = ap Word (word_same n m x y (rest_same 68 (spelling n) (spelling m) is))
item_same (Word n) (LabelWord k) x y is = absurd (no_mark n x 76 (spelling (pos k)) refl (omega arith) (rest_same 68 (spelling n) (76 ∷ spelling (pos k)) is))
item_same (Word n) (SetGlobal m k) x y is = absurd (other_class (Word n) x 71 (spelling (pos m) ++ 76 ∷ spelling (pos k)) 71 refl refl is)
item_same (Word n) (Frame m) x y is = absurd (other_class (Word n) x 81 (spelling (pos m)) 81 refl refl is)
item_same (Word n) End x y is = absurd (other_class (Word n) x 90 [] 90 refl refl is)
item_same (LabelWord l) (Instruction g j p) x y is = absurd (other_class (Instruction g j p) y 68 (76 ∷ spelling (pos l)) 68 refl refl (sym is))
item_same (LabelWord l) (SetLabel k) x y is = absurd (other_class (SetLabel k) y 68 (76 ∷ spelling (pos l)) 68 refl refl (sym is))
item_same (LabelWord l) (Word m) x y is = absurd (no_mark m y 76 (spelling (pos l)) refl (omega arith) (sym (rest_same 68 (76 ∷ spelling (pos l)) (spelling m) is)))
item_same (LabelWord l) (LabelWord k) x y is = ap LabelWord (natural_same l k (omega (arith, x.0, x.1)) (omega (arith, y.0, y.1)) (rest_same 76 (spelling (pos l)) (spelling (pos k)) (rest_same 68 (76 ∷ spelling (pos l)) (76 ∷ spelling (pos k)) is)))
item_same (LabelWord l) (SetGlobal m k) x y is = absurd (other_class (LabelWord l) x 71 (spelling (pos m) ++ 76 ∷ spelling (pos k)) 71 refl refl is)
item_same (LabelWord l) (Frame m) x y is = absurd (other_class (LabelWord l) x 81 (spelling (pos m)) 81 refl refl is)
item_same (LabelWord l) End x y is = absurd (other_class (LabelWord l) x 90 [] 90 refl refl is)
item_same (SetGlobal n l) (Instruction g j p) x y is = absurd (other_class (Instruction g j p) y 71 (spelling (pos n) ++ 76 ∷ spelling (pos l)) 71 refl refl (sym is))
item_same (SetGlobal n l) (SetLabel k) x y is = absurd (other_class (SetLabel k) y 71 (spelling (pos n) ++ 76 ∷ spelling (pos l)) 71 refl refl (sym is))
item_same (SetGlobal n l) (Word m) x y is = absurd (other_class (SetGlobal n l) x 68 (spelling m) 68 refl refl is)
item_same (SetGlobal n l) (LabelWord k) x y is = absurd (other_class (SetGlobal n l) x 68 (76 ∷ spelling (pos k)) 68 refl refl is)
item_same (SetGlobal n l) (SetGlobal m k) x y is = let h = global_same n l m k (omega (arith, x.0)) (omega (arith, y.0)) (rest_same 71 (spelling (pos n) ++ 76 ∷ spelling (pos l)) (spelling (pos m) ++ 76 ∷ spelling (pos k)) is) in ap (λ q. SetGlobal q l) (natural_same n m (omega (arith, x.0)) (omega (arith, y.0)) h.0) ∙ ap (λ q. SetGlobal m q) (natural_same l k (omega (arith, x.1.0, x.1.1)) (omega (arith, y.1.0, y.1.1)) h.1)
item_same (SetGlobal n l) (Frame m) x y is = absurd (other_class (SetGlobal n l) x 81 (spelling (pos m)) 81 refl refl is)
item_same (SetGlobal n l) End x y is = absurd (other_class (SetGlobal n l) x 90 [] 90 refl refl is)
item_same (Frame n) (Instruction g j p) x y is = absurd (other_class (Instruction g j p) y 81 (spelling (pos n)) 81 refl refl (sym is))
item_same (Frame n) (SetLabel k) x y is = absurd (other_class (SetLabel k) y 81 (spelling (pos n)) 81 refl refl (sym is))
item_same (Frame n) (Word m) x y is = absurd (other_class (Frame n) x 68 (spelling m) 68 refl refl is)
item_same (Frame n) (LabelWord k) x y is = absurd (other_class (Frame n) x 68 (76 ∷ spelling (pos k)) 68 refl refl is)
item_same (Frame n) (SetGlobal m k) x y is = absurd (other_class (Frame n) x 71 (spelling (pos m) ++ 76 ∷ spelling (pos k)) 71 refl refl is)
item_same (Frame n) (Frame m) x y is = ap Frame (natural_same n m (omega (arith, x.0, x.1)) (omega (arith, y.0, y.1)) (rest_same 81 (spelling (pos n)) (spelling (pos m)) is))
item_same (Frame n) End x y is = absurd (other_class (Frame n) x 90 [] 90 refl refl is)
item_same End (Instruction g j p) x y is = absurd (other_class (Instruction g j p) y 90 [] 90 refl refl (sym is))
item_same End (SetLabel k) x y is = absurd (other_class (SetLabel k) y 90 [] 90 refl refl (sym is))
item_same End (Word m) x y is = absurd (other_class End x 68 (spelling m) 68 refl refl is)
item_same End (LabelWord k) x y is = absurd (other_class End x 68 (76 ∷ spelling (pos k)) 68 refl refl is)
item_same End (SetGlobal m k) x y is = absurd (other_class End x 71 (spelling (pos m) ++ 76 ∷ spelling (pos k)) 71 refl refl is)
item_same End (Frame m) x y is = absurd (other_class End x 81 (spelling (pos m)) 81 refl refl is)
item_same End End x y is = refl
item_same z (Byte m) x y is = absurd (other_class z x 67 (spelling (pos m)) 67 refl refl is)

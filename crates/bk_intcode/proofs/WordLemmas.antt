-- Which words stand for no item.
pub use Rattle.bk_intcode.proofs.Terms.{◌≡◌, ◌≢◌, ℕ, ◌+◌, ◌<◌, ◌≤◌, ◌^◌, ◌++◌, ◌-◌, zero, suc, nat_eq, eq-eqb, Bool, true, false, if◌then◌else◌, pos, ℤ, FitsSigned, w32, List, [], ◌∷◌, length, get_or, take, drop, arith, refl, sym, ap, ◌∙◌, subst, inl, inr, length-append, length-drop, spelling, IsLabel, Function, Load, Operand, Item, Instruction, SetLabel, Byte, Word, LabelWord, SetGlobal, Frame, End, letter, indirect_text, operand_text, item_text, IsOperand, IsItem, MeansNothing, is_digit, is_function, WordFault, fits-pos, rest_same, digit-at, at_seam, first-numeral, no_spelling, spelling-some, IsInRange, cases_lt, take-append_seam, drop-append-add, get_or_append_left, take_all, BadNumber, ◌&&◌, ◌==◌, nat_lt, IsTrue, Some, None, map, slice_get, append_assoc, append-nil, length-take, lt-ltb, list_all, length-map, decimal_injective, INTCODE_ITEMS, IntcodeKind, BadLetter, ByteOver255, LabelNotSet, LabelSetTwice, Truncated, TooLong, FrameGivenTwice, sets, item_uses, operand_uses, IsSegment, AreItems, operand_is_set, use_is_set, gives_frame, Label, all_set, item_fault, Means, begins_item, IsByteOver255, IsPartial, FaultAfter, FaultAt, CutAt, segment, nothing, fault, Says, SayOneThing, or_cases, eqb-true, signed_decimal_injective, Store, Add, Jump, JumpTrue, JumpFalse, Call, Operate, Number, Local, Global, mag-fits, apart, items_of, segment_text, is_blank, words_of, AreInWord, texts_of, words_of_all, PrintedIsParted, PrintedAreParted, PrintedSaysAgain, numeral-inside, spelling-inside, words_of-word, AreInWord-append}
use Rattle.bk_intcode.proofs.OperandLemmas.{no_operand-indirect}

-- The kind of item that begins with a byte: 0 an instruction, 1 a label that is set, else the letter.
abbrev pub byte_class : ℕ → ℕ
byte_class b = if is_function b then 0 else (if is_digit b then 1 else b)

abbrev pub item_class : Item → ℕ
item_class (Instruction function indirect operand) = 0
item_class (SetLabel l) = 1
item_class (Byte b) = 67
item_class (Word w) = 68
item_class (LabelWord l) = 68
item_class (SetGlobal number l) = 71
item_class (Frame n) = 81
item_class End = 90

pub letter-class : (f : Function) → byte_class (letter f) ≡ 0
letter-class Load = refl
letter-class _ = refl

-- each of the ten digits
ten : (P : ℕ → Type 0) → P 48 → P 49 → P 50 → P 51 → P 52 → P 53 → P 54 → P 55 → P 56 → P 57 → (k : ℕ) → k ≤ 9 → P (k + 48)
ten P a b c d e f g h i j zero low = a
ten P a b c d e f g h i j (suc zero) low = b
ten P a b c d e f g h i j (suc (suc zero)) low = c
ten P a b c d e f g h i j (suc (suc (suc zero))) low = d
ten P a b c d e f g h i j (suc (suc (suc (suc zero)))) low = e
ten P a b c d e f g h i j (suc (suc (suc (suc (suc zero))))) low = f
ten P a b c d e f g h i j (suc (suc (suc (suc (suc (suc zero)))))) low = g
ten P a b c d e f g h i j (suc (suc (suc (suc (suc (suc (suc zero))))))) low = h
ten P a b c d e f g h i j (suc (suc (suc (suc (suc (suc (suc (suc zero)))))))) low = i
ten P a b c d e f g h i j (suc (suc (suc (suc (suc (suc (suc (suc (suc zero))))))))) low = j
ten P a b c d e f g h i j (suc (suc (suc (suc (suc (suc (suc (suc (suc (suc k)))))))))) low = absurd (omega arith)

pub each_digit : (P : ℕ → Type 0) → P 48 → P 49 → P 50 → P 51 → P 52 → P 53 → P 54 → P 55 → P 56 → P 57 → (b : ℕ) → 48 ≤ b → b ≤ 57 → P b
each_digit P a b c d e f g h i j n low high =
    let is : (n - 48) + 48 ≡ n = omega arith in
    subst P is (ten P a b c d e f g h i j (n - 48) (omega arith))

pub digit-class : (b : ℕ) → 48 ≤ b → b ≤ 57 → byte_class b ≡ 1
digit-class b low high = each_digit (λ n. byte_class n ≡ 1) refl refl refl refl refl refl refl refl refl refl b low high

heads : (a b : ℕ) (x y : List ℕ) → a ∷ x ≡ b ∷ y → b ≡ a
heads a b x y is = cc

pub text-class : (item : Item) → IsItem item → (b : ℕ) (rest : List ℕ) → item_text item ≡ b ∷ rest → byte_class b ≡ item_class item
text-class (Instruction f i o) fits b rest is = ap byte_class (heads (letter f) b _ rest is) ∙ letter-class f
text-class (SetLabel l) fits b rest is =
    let first = first-numeral l (omega (arith, fits.0, fits.1)) b rest is in digit-class b first.0 first.1
text-class (Byte n) fits b rest is = ap byte_class (heads 67 b _ rest is)
text-class (Word n) fits b rest is = ap byte_class (heads 68 b _ rest is)
text-class (LabelWord n) fits b rest is = ap byte_class (heads 68 b _ rest is)
text-class (SetGlobal n l) fits b rest is = ap byte_class (heads 71 b _ rest is)
text-class (Frame n) fits b rest is = ap byte_class (heads 81 b _ rest is)
text-class End fits b rest is = ap byte_class (heads 90 b _ rest is)

-- a word that begins as other items do
pub other_class : (item : Item) → IsItem item → (b : ℕ) (rest : List ℕ) (k : ℕ) → byte_class b ≡ k → nat_eq k (item_class item) ≡ false → item_text item ≢ b ∷ rest
other_class item fits b rest k class other = grind (arith, text-class, eq-eqb)

pub nothing-empty : MeansNothing []
nothing-empty (Instruction f i o) fits = λ is. let h : letter f ∷ (indirect_text i ++ operand_text o) ≡ [] = is in cc
nothing-empty (SetLabel l) fits = spelling-some (pos l) (fits-pos l (omega (arith, fits.0, fits.1)))
nothing-empty (Byte n) fits = λ is. let h : 67 ∷ spelling (pos n) ≡ [] = is in cc
nothing-empty (Word n) fits = λ is. let h : 68 ∷ spelling n ≡ [] = is in cc
nothing-empty (LabelWord l) fits = λ is. let h : 68 ∷ (76 ∷ spelling (pos l)) ≡ [] = is in cc
nothing-empty (SetGlobal n l) fits = λ is. let h : 71 ∷ (spelling (pos n) ++ 76 ∷ spelling (pos l)) ≡ [] = is in cc
nothing-empty (Frame n) fits = λ is. let h : 81 ∷ spelling (pos n) ≡ [] = is in cc
nothing-empty End fits = λ is. let h : 90 ∷ nil ≡ nil = is in cc
  where
    nil : List ℕ
    nil = []

-- what is no number of a byte, behind `C`
pub nothing-byte : (rest : List ℕ) → ((n : ℕ) → n < 256 → spelling (pos n) ≢ rest) → MeansNothing (67 ∷ rest)
nothing-byte rest none (Byte n) fits = λ is. none n fits (rest_same 67 (spelling (pos n)) rest is)
nothing-byte rest none x fits = other_class x fits 67 rest 67 refl refl

-- what is neither `L` and a label nor a number, behind `D`
pub nothing-data : (rest : List ℕ) → ((z : ℤ) → FitsSigned w32 z → spelling z ≢ rest) → ((l : ℕ) → IsLabel l → 76 ∷ spelling (pos l) ≢ rest) → MeansNothing (68 ∷ rest)
nothing-data rest no_number no_label (Word n) fits = λ is. no_number n fits (rest_same 68 (spelling n) rest is)
nothing-data rest no_number no_label (LabelWord l) fits = λ is. no_label l fits (rest_same 68 (76 ∷ spelling (pos l)) rest is)
nothing-data rest no_number no_label x fits = other_class x fits 68 rest 68 refl refl

-- what is not the number of a global, `L` and a label, behind `G`
pub nothing-global : (rest : List ℕ) → ((n l : ℕ) → n ≤ 999 → IsLabel l → spelling (pos n) ++ 76 ∷ spelling (pos l) ≢ rest) → MeansNothing (71 ∷ rest)
nothing-global rest none (SetGlobal n l) fits = λ is. none n l fits.0 fits.1 (rest_same 71 (spelling (pos n) ++ 76 ∷ spelling (pos l)) rest is)
nothing-global rest none x fits = other_class x fits 71 rest 71 refl refl

-- what is no number of a frame, behind `Q`
pub nothing-frame : (rest : List ℕ) → ((n : ℕ) → 16 ≤ n → n ≤ 65535 → spelling (pos n) ≢ rest) → MeansNothing (81 ∷ rest)
nothing-frame rest none (Frame n) fits = λ is. none n fits.0 fits.1 (rest_same 81 (spelling (pos n)) rest is)
nothing-frame rest none x fits = other_class x fits 81 rest 81 refl refl

-- something behind `Z`
pub nothing-end : (rest : List ℕ) → rest ≢ [] → MeansNothing (90 ∷ rest)
nothing-end rest some End fits = λ is. some (sym (rest_same 90 [] rest is))
nothing-end rest some x fits = other_class x fits 90 rest 90 refl refl

tails : (a b : ℕ) (x y : List ℕ) → a ∷ x ≡ b ∷ y → x ≡ y
tails a b x y is = cc

-- what is no operand behind `I` if that stands there, behind the letter of a function
no_operand-following : (i j : Bool) (o : Operand) (rest : List ℕ) → IsOperand o → ((o : Operand) → IsOperand o → operand_text o ≢ rest) → (j ≡ false → (more : List ℕ) → rest ≢ 73 ∷ more) →
    indirect_text i ++ operand_text o ≢ indirect_text j ++ rest
no_operand-following true true o rest fits none direct = λ is. none o fits (rest_same 73 (operand_text o) rest is)
no_operand-following false false o rest fits none direct = λ is. none o fits is
no_operand-following true false o rest fits none direct = λ is. direct refl (operand_text o) (sym is)
no_operand-following false true o rest fits none direct = λ is. no_operand-indirect rest o fits is

pub nothing-instruction : (g : Function) (j : Bool) (rest : List ℕ) → ((o : Operand) → IsOperand o → operand_text o ≢ rest) → (j ≡ false → (more : List ℕ) → rest ≢ 73 ∷ more) → MeansNothing (letter g ∷ (indirect_text j ++ rest))
nothing-instruction g j rest none direct (Instruction f i o) fits = λ is. no_operand-following i j o rest fits none direct (tails (letter f) (letter g) (indirect_text i ++ operand_text o) (indirect_text j ++ rest) is)
nothing-instruction g j rest none direct x fits = other_class x fits (letter g) (indirect_text j ++ rest) 0 (letter-class g) refl

-- where the first `L` of a global's number, `L` and a label stands
place_is : (n l i : ℕ) (rest : List ℕ) → n < 2 ^ 64 → spelling (pos n) ++ 76 ∷ spelling (pos l) ≡ rest → get_or rest i 0 ≡ 76 → ((k : ℕ) → k < i → get_or rest k 0 ≢ 76) → i ≡ length (spelling (pos n))
place_is n l i rest small is at before =
    let a = spelling (pos n) in
    let whole = a ++ 76 ∷ spelling (pos l) in
    elim (cases_lt i (length a)) [
      | inl low ↦
          let digit : IsInRange 48 57 (get_or a i 0) = digit-at n small i low in
          let here : get_or whole i 0 ≡ get_or a i 0 = get_or_append_left a (76 ∷ spelling (pos l)) 0 i low in
          absurd (omega (arith, digit.0, digit.1, ap (λ r. get_or r i 0) is, here, at))
      | inr high ↦
          elim (cases_lt (length a) i) [
            | inl over ↦ absurd (before (length a) over (sym (ap (λ r. get_or r (length a) 0) is) ∙ at_seam a (spelling (pos l))))
            | inr under ↦ omega arith
          ]
    ]

pub global_parts : (n l i : ℕ) (rest : List ℕ) → n < 2 ^ 64 → spelling (pos n) ++ 76 ∷ spelling (pos l) ≡ rest → get_or rest i 0 ≡ 76 → ((k : ℕ) → k < i → get_or rest k 0 ≢ 76) →
    (spelling (pos n) ≡ take i rest) × (spelling (pos l) ≡ drop (i + 1) rest)
global_parts n l i rest small is at before =
    let a = spelling (pos n) in
    let b = spelling (pos l) in
    let place : i ≡ length a = place_is n l i rest small is at before in (
      sym (ap (λ k. take k rest) place ∙ ap (λ r. take (length a) r) (sym is) ∙ take-append_seam a (76 ∷ b)),
      sym (ap (λ k. drop (k + 1) rest) place ∙ ap (λ r. drop (length a + 1) r) (sym is) ∙ drop-append-add a (76 ∷ b) 1),
    )

-- no `L`
pub no_global-place : (rest : List ℕ) → ((k : ℕ) → k < length rest → get_or rest k 0 ≢ 76) → MeansNothing (71 ∷ rest)
no_global-place rest none = nothing-global rest (λ n l small label is.
    let a = spelling (pos n) in
    none (length a)
    (omega (arith, ap (λ (r : List ℕ). length r) is, length-append a (76 ∷ spelling (pos l))))
    (sym (ap (λ r. get_or r (length a) 0) is) ∙ at_seam a (spelling (pos l))))

-- no number in front of the first `L`
pub no_global-number : (i : ℕ) (rest : List ℕ) → get_or rest i 0 ≡ 76 → ((k : ℕ) → k < i → get_or rest k 0 ≢ 76) → ((n : ℕ) → n ≤ 999 → spelling (pos n) ≢ take i rest) → MeansNothing (71 ∷ rest)
no_global-number i rest at before none = nothing-global rest (λ n l small label is. none n small (global_parts n l i rest (omega arith) is at before).0)

-- no label behind the first `L`
pub no_global-label : (i : ℕ) (rest : List ℕ) → get_or rest i 0 ≡ 76 → ((k : ℕ) → k < i → get_or rest k 0 ≢ 76) → ((l : ℕ) → IsLabel l → spelling (pos l) ≢ take (length rest - (i + 1)) (drop (i + 1) rest)) → MeansNothing (71 ∷ rest)
no_global-label i rest at before none = nothing-global rest (λ n l small label is.
    none l label ((global_parts n l i rest (omega arith) is at before).1 ∙ sym (take_all (length rest - (i + 1)) (drop (i + 1) rest) (omega (arith, length-drop (i + 1) rest)))))

-- no number behind `C`
pub byte_fault : (rest : List ℕ) → ((n : ℕ) → n < 2 ^ 31 → spelling (pos n) ≢ rest) → WordFault (67 ∷ rest) BadNumber
byte_fault rest none = (refl, nothing-byte rest (λ n low. none n (omega arith)), λ over. none over.0 over.2 (sym (rest_same 67 rest (spelling (pos over.0)) over.3)))

-- no label behind `DL`
pub no_data-label : (bytes rest : List ℕ) → bytes ≡ 76 ∷ rest → ((l : ℕ) → IsLabel l → spelling (pos l) ≢ rest) → MeansNothing (68 ∷ bytes)
no_data-label bytes rest is none = nothing-data bytes
    (λ z fits same. no_spelling 76 rest (λ h. absurd (omega arith)) (λ h. absurd (omega arith)) z fits (same ∙ is))
    (λ l label same. none l label (rest_same 76 (spelling (pos l)) rest (same ∙ is)))

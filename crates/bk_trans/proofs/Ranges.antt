-- Statements whose numbers are in their ranges are the same in words.
use Rattle.bk_trans.proofs.Words.{◌≡◌, ℕ, ◌<◌, ◌≤◌, ◌^◌, Some, List, map, slice_get, refl, ap, ◌∙◌, arith, FRAME_WORDS, OCODE_LABEL, Local, Stmt, Load, Assign, Jump, JumpIf, GiveResult, TakeResult, Stack, Entry, Save, CallFunction, CallRoutine, Switch, DataLabel, DataAddress, Globals, IsLabel, IsSlot, IsDepth, IsVariable, InRange, map_same}
use Rattle.bk_trans.proofs.Terms.{Variable, Global, Static, Address, Label, word, variable_in_words, case_in_words, entry_in_words, stmt_in_words, in_words}

label_is : (l : ℕ) → IsLabel l → word l ≡ l
label_is l h = let most : l ≤ OCODE_LABEL = h.1 in omega (arith, most)

slot_is : (n : ℕ) → IsSlot n → word n ≡ n
slot_is n h = let most : n < 2 ^ 31 = h.1 in omega (arith, most)

depth_is : (n : ℕ) → IsDepth n → word n ≡ n
depth_is n h = let most : n ≤ FRAME_WORDS = h.1 in omega (arith, most)

variable_is : (x : Variable) → IsVariable x → variable_in_words x ≡ x
variable_is (Local n) h = ap Local (slot_is n h)
variable_is (Global g) h = refl
variable_is (Static l) h = ap Static (label_is l h)

stmt_is : (s : Stmt) → InRange s → stmt_in_words s ≡ s
stmt_is (Load x) h = ap Load (variable_is x h)
stmt_is (Address x) h = ap Address (variable_is x h)
stmt_is (Assign x) h = ap Assign (variable_is x h)
stmt_is (Jump l) h = ap Jump (label_is l h)
stmt_is (JumpIf t l) h = ap (JumpIf t) (label_is l h)
stmt_is (Label l) h = ap Label (label_is l h)
stmt_is (GiveResult l) h = ap GiveResult (label_is l h)
stmt_is (TakeResult n) h = ap TakeResult (slot_is n h)
stmt_is (Stack n) h = ap Stack (depth_is n h)
stmt_is (Entry l x) h = ap (λ z. Entry z x) (label_is l h.0)
stmt_is (Save n) h = ap Save (depth_is n h)
stmt_is (CallFunction n) h = ap CallFunction (slot_is n h)
stmt_is (CallRoutine n) h = ap CallRoutine (slot_is n h)
stmt_is (Switch l cs) h =
    ap (λ z. Switch z (map case_in_words cs)) (label_is l h.0)
    ∙ ap (Switch l) (map_same case_in_words cs (λ k c e. ap (λ z. record { value = c.value; label = z }) (label_is c.label (h.1.labels k c e))))
stmt_is (DataLabel l) h = ap DataLabel (label_is l h)
stmt_is (DataAddress l) h = ap DataAddress (label_is l h)
stmt_is (Globals es) h = ap Globals (map_same entry_in_words es (λ k e g. ap (λ z. record { number = e.number; label = z }) (label_is e.label (h.in_range k e g).1)))
stmt_is _ h = refl

pub in_range_is : (ss : List Stmt) → ((k : ℕ) (s : Stmt) → slice_get ss k ≡ Some s → InRange s) → in_words ss ≡ ss
in_range_is ss h = map_same stmt_in_words ss (λ k s e. stmt_is s (h k s e))

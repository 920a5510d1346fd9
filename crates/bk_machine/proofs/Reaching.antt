-- What items reach is what their words take, and more items reach no less.
use Rattle.bk_machine.proofs.Terms.{◌≡◌, ℕ, ◌+◌, ◌%◌, ◌^◌, ◌<◌, ◌≤◌, Bool, true, false, eqb, List, [], ◌∷◌, ◌++◌, length, get_or, take, drop, refl, sym, ap, ◌∙◌, arith, add-zero, length-append, length-set, take-append-drop, take_all, fold_more, fold-append, word_of, Item, Instruction, SetLabel, Byte, Word, LabelWord, SetGlobal, Growth, item_words, grown, growth, segment_size, address_size, operand_size, item_size, reached, reached_all, fold, if◌then◌else◌, nat_lt}
use Rattle.std.proofs.lemmas.List.Folds.{fold_along}
use Rattle.bk_machine.specs.declared.item.Function.{Function}
use Rattle.bk_machine.specs.declared.item.Operand.{Operand}
use Rattle.bk_machine.specs.declared.item.Operand.TheVariants.{Number, Local, Global, Label}
use Rattle.bk_machine.specs.Instructions.{fields, instruction_at, instruction_words}
use Rattle.bk_machine.specs.declared.extent.Extent.{Extent}

-- how far words reach that lie from an address on
abbrev pub extent_of : ℕ → Growth → Extent
extent_of start g = record { next = start + length g.words; filled = g.filled }

length-at : (f : Function) (i l g : Bool) (address : ℕ) → length (instruction_at f i l g address) ≡ address_size address
length-at f i l g address = two (nat_lt address (2 ^ 25))
  where
    two : (b : Bool) → length (if b then (fields f i l g false + address) ∷ [] else fields f i l g true ∷ address ∷ []) ≡ (if b then 1 else 2)
    two true = refl
    two false = refl

length-operand : (labels : ℕ → ℕ) (f : Function) (i : Bool) (operand : Operand) → length (instruction_words labels f i operand) ≡ operand_size operand
length-operand labels f i (Number n) = length-at f i false false (word_of n)
length-operand labels f i (Local n) = length-at f i true false (word_of n)
length-operand labels f i (Global n) = length-at f i false true (word_of n)
length-operand labels f i (Label l) = refl

length-item : (labels : ℕ → ℕ) (item : Item) → length (item_words labels item) ≡ item_size item
length-item labels (Instruction f i operand) = length-operand labels f i operand
length-item labels (SetLabel l) = refl
length-item labels _ = refl

-- the extent of words to which others are appended
extent-append : (start : ℕ) (ws vs : List ℕ) (n filled : ℕ) → length vs ≡ n
    → extent_of start (record { words = ws ++ vs; filled = filled }) ≡ record { next = (start + length ws) + n; filled = filled }
extent-append start ws vs n filled e =
    let total : start + length (ws ++ vs) ≡ (start + length ws) + n = omega (arith, length-append ws vs, e) in
    ap (λ (m : ℕ). let x : Extent = record { next = m; filled = filled } in x) total

extent-grown_byte : (start b : ℕ) (ws : List ℕ) (filled : ℕ) (labels : ℕ → ℕ) (empty : Bool) → eqb filled 0 ≡ empty
    → extent_of start (grown labels (record { words = ws; filled = filled }) (Byte b)) ≡ reached (extent_of start (record { words = ws; filled = filled })) (Byte b)
extent-grown_byte start b ws filled labels true e = rw e (extent-append start ws (b ∷ []) 1 1 refl)
extent-grown_byte start b ws filled labels false e =
    rw e (ap (λ (m : ℕ). let x : Extent = record { next = start + m; filled = (filled + 1) % 4 } in x) (length-set ws _ _))

pub extent-grown : (start : ℕ) (labels : ℕ → ℕ) (g : Growth) (item : Item) → extent_of start (grown labels g item) ≡ reached (extent_of start g) item
extent-grown start labels g (Byte b) = extent-grown_byte start b g.words g.filled labels (eqb g.filled 0) refl
extent-grown start labels g (Instruction f i operand) = extent-append start g.words _ _ 0 (length-item labels (Instruction f i operand))
extent-grown start labels g (Word w) = extent-append start g.words _ 1 0 refl
extent-grown start labels g (LabelWord l) = extent-append start g.words _ 1 0 refl
extent-grown start labels g (SetGlobal number l) = extent-append start g.words [] 0 0 refl
extent-grown start labels g _ = extent-append start g.words [] 0 0 refl

pub extent-growth : (start : ℕ) (labels : ℕ → ℕ) (items : List Item) → extent_of start (growth labels items) ≡ reached_all start items
extent-growth start labels items =
    fold_along (grown labels) reached (λ g e. extent_of start g ≡ e) (λ g e item same. extent-grown start labels g item ∙ ap (λ x. reached x item) same)
    (record { words = []; filled = 0 }) (record { next = start; filled = 0 }) items
    (ap (λ (m : ℕ). let x : Extent = record { next = m; filled = 0 } in x) (add-zero start))

-- the sizes of items and how far they reach
pub reached-size : (start : ℕ) (items : List Item) → (reached_all start items).next ≡ start + segment_size items
reached-size start items = sym (ap (λ (e : Extent). e.next) (extent-growth start (λ label. 0) items))

-- one more item
pub reached-more : (start : ℕ) (items : List Item) (i : ℕ) (d : Item) → i < length items
    → reached_all start (take (i + 1) items) ≡ reached (reached_all start (take i items)) (get_or items i d)
reached-more start items i d within = fold_more reached (record { next = start; filled = 0 }) items i d within

-- more items reach no less
next-byte : (next filled b : ℕ) (empty : Bool) → eqb filled 0 ≡ empty → next ≤ (reached (record { next = next; filled = filled }) (Byte b)).next
next-byte next filled b true e = rw e (omega arith)
next-byte next filled b false e = rw e (omega arith)

next-reached : (e : Extent) (item : Item) → e.next ≤ (reached e item).next
next-reached e (Byte b) = next-byte e.next e.filled b (eqb e.filled 0) refl
next-reached e (Instruction f i operand) = omega arith
next-reached e _ = omega arith

next-fold : (e : Extent) (items : List Item) → e.next ≤ (fold reached e items).next
next-fold e [] = omega arith
next-fold e (item ∷ items) = omega (arith, next-reached e item, next-fold (reached e item) items)

pub reached-part : (start : ℕ) (items : List Item) (i : ℕ) → (reached_all start (take i items)).next ≤ start + segment_size items
reached-part start items i =
    let split = fold-append reached (record { next = start; filled = 0 }) (take i items) (drop i items) in
    let whole = ap (λ (e : Extent). e.next) (ap (λ l. reached_all start l) (sym (take-append-drop i items)) ∙ split) in
    omega (arith, next-fold (reached_all start (take i items)) (drop i items), whole, reached-size start items)

-- one more item, where the extent is known by equations
pub stepped : (start : ℕ) (items : List Item) (i : ℕ) (d : Item) (e r : Extent) → i < length items
    → e ≡ reached_all start (take i items) → r ≡ reached e (get_or items i d) → r ≡ reached_all start (take (i + 1) items)
stepped start items i d e r within known next = next ∙ ap (λ x. reached x (get_or items i d)) known ∙ sym (reached-more start items i d within)

pub part-next : (start : ℕ) (items : List Item) (i : ℕ) (e : Extent) → e ≡ reached_all start (take i items) → e.next ≤ start + segment_size items
part-next start items i e known = omega (arith, reached-part start items i, ap (λ (x : Extent). x.next) known)

pub all-next : (start : ℕ) (items : List Item) (i : ℕ) (e : Extent) → length items ≤ i → e ≡ reached_all start (take i items)
    → e.next ≡ start + segment_size items
all-next start items i e all known =
    ap (λ (x : Extent). x.next) known ∙ ap (λ l. (reached_all start l).next) (take_all i items all) ∙ reached-size start items

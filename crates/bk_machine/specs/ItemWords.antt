-- Which words come from which items: words of items one after another, bytes four a word, and a label's, a setting's and the end's none.
use Rattle.std.proofs.Common.{◌≡◌, ◌⊎◌, inl, inr, ℕ, suc, ◌+◌, ◌-◌, ◌*◌, ◌%◌, ◌^◌, ◌<◌, ◌==◌, Bool, true, false, List, [], ◌∷◌, ◌++◌, length, map, refl, sym, ap, ◌∙◌, arith, append_assoc, append-nil, if◌then◌else◌}
use Rattle.std.specs.Prelude.{slice_get, slice_set, slice_index, fold, ⊤}
use Rattle.std.proofs.lemmas.Bool.{eq-eqb}
use Rattle.std.proofs.lemmas.List.{length-append, length-set}
use Rattle.std.proofs.lemmas.List.Sums.{fold-append}
use Rattle.bk_base.specs.Strings.{packed}
use Rattle.bk_base.specs.Word.{packed_word}
use Rattle.bk_machine.specs.declared.item.Item.{Item}
use Rattle.bk_machine.specs.declared.item.Item.TheVariants.{Instruction, SetLabel, Byte, Word, LabelWord, SetGlobal, Frame, End}
use Rattle.bk_machine.specs.Inner.Getting.{get_inside, get_after}
use Rattle.bk_machine.specs.Placement.{Growth, item_words, grown, growth, segment_words, segment_size}
use Rattle.bk_machine.specs.SizeLaws.{segment_length}

-- items other than bytes
abbrev pub IsPlain : Item → Type 0
IsPlain (Byte b) = ⊥
IsPlain item = ⊤

abbrev pub ArePlain : List Item → Type 0
ArePlain [] = ⊤
ArePlain (item ∷ rest) = IsPlain item × ArePlain rest

-- their words, one after another
abbrev pub joined_words : (ℕ → ℕ) → List Item → List ℕ
joined_words labels [] = []
joined_words labels (item ∷ rest) = item_words labels item ++ joined_words labels rest

abbrev pub byte_items : List ℕ → List Item
byte_items bytes = map (λ b. Byte b) bytes

abbrev pub begins_with_byte : List Item → Bool
begins_with_byte (Byte b ∷ rest) = true
begins_with_byte items = false

-- No word holds bytes of both: the last word before is full, or holds none of a run that may go on; or no byte is first after.
abbrev pub AreParted : (ℕ → ℕ) → List Item → List Item → Type 0
AreParted labels front back = ((growth labels front).filled ≡ 0) ⊎ (begins_with_byte back ≡ false)

-- Items that are appended put their words after the others',
abbrev pub ItemsAreJoined : Type 0
ItemsAreJoined = (labels : ℕ → ℕ) (front back : List Item) → AreParted labels front back
    → segment_words labels (front ++ back) ≡ segment_words labels front ++ segment_words labels back

-- and as many.
abbrev pub SizesAreAdded : Type 0
SizesAreAdded = (labels : ℕ → ℕ) (front back : List Item) → AreParted labels front back → segment_size (front ++ back) ≡ segment_size front + segment_size back

-- The words of an item other than a byte follow those of the items before it.
abbrev pub WordsOfItem : Type 0
WordsOfItem = (labels : ℕ → ℕ) (front back : List Item) (item : Item) (j : ℕ) → IsPlain item → j < length (item_words labels item)
    → slice_get (segment_words labels (front ++ item ∷ back)) (segment_size front + j) ≡ slice_get (item_words labels item) j

-- A run of bytes is packed four a word.
abbrev pub WordsOfBytes : Type 0
WordsOfBytes = (labels : ℕ → ℕ) (front back : List Item) (bytes : List ℕ) (j : ℕ) → (growth labels front).filled ≡ 0 → begins_with_byte back ≡ false → j < length (packed bytes)
    → slice_get (segment_words labels (front ++ (byte_items bytes ++ back))) (segment_size front + j) ≡ slice_get (packed bytes) j

-- ---- items other than bytes

pub grown_plain : (labels : ℕ → ℕ) (g : Growth) (item : Item) → IsPlain item → grown labels g item ≡ record { words = g.words ++ item_words labels item; filled = 0 }
grown_plain labels g (Byte b) h = absurd h
grown_plain labels g (Instruction f i operand) h = refl
grown_plain labels g (SetLabel l) h = refl
grown_plain labels g (Word w) h = refl
grown_plain labels g (LabelWord l) h = refl
grown_plain labels g (SetGlobal number l) h = refl
grown_plain labels g (Frame n) h = refl
grown_plain labels g End h = refl

-- items that are no bytes put their words one after another
pub plain_words : (labels : ℕ → ℕ) (items : List Item) (g : Growth) → ArePlain items → (fold (grown labels) g items).words ≡ g.words ++ joined_words labels items
plain_words labels [] g h = sym (append-nil g.words)
plain_words labels (item ∷ rest) g h =
    ap (λ x. (fold (grown labels) x rest).words) (grown_plain labels g item h.0)
    ∙ plain_words labels rest (record { words = g.words ++ item_words labels item; filled = 0 }) h.1
    ∙ append_assoc g.words (item_words labels item) (joined_words labels rest)

-- ---- bytes

-- the last word
last_of : (ws : List ℕ) (x : ℕ) → slice_index (ws ++ x ∷ []) (length (ws ++ x ∷ []) - 1) ≡ x
last_of [] x = refl
last_of (w ∷ []) x = refl
last_of (w ∷ v ∷ ws) x = ap (λ k. slice_index (w ∷ v ∷ ws ++ x ∷ []) k) (let e : length (w ∷ v ∷ ws ++ x ∷ []) - 1 ≡ suc (length (v ∷ ws ++ x ∷ []) - 1) = omega arith in e) ∙ last_of (v ∷ ws) x

last_set : (ws : List ℕ) (x y : ℕ) → slice_set (ws ++ x ∷ []) (length (ws ++ x ∷ []) - 1) y ≡ ws ++ y ∷ []
last_set [] x y = refl
last_set (w ∷ []) x y = refl
last_set (w ∷ v ∷ ws) x y =
    ap (λ k. slice_set (w ∷ v ∷ ws ++ x ∷ []) k y) (let e : length (w ∷ v ∷ ws ++ x ∷ []) - 1 ≡ suc (length (v ∷ ws ++ x ∷ []) - 1) = omega arith in e)
    ∙ ap (λ l. w ∷ l) (last_set (v ∷ ws) x y)

-- one more byte of a word
more_byte : (labels : ℕ → ℕ) (ws : List ℕ) (x filled b : ℕ) → (filled == 0) ≡ false
    → grown labels (record { words = ws ++ x ∷ []; filled = filled }) (Byte b) ≡ record { words = ws ++ (x + 2 ^ (8 * filled) * b) ∷ []; filled = (filled + 1) % 4 }
more_byte labels ws x filled b e =
    rw e (ap (λ (l : List ℕ). let g : Growth = record { words = l; filled = (filled + 1) % 4 } in g)
    (ap (λ y. slice_set (ws ++ x ∷ []) (length (ws ++ x ∷ []) - 1) (y + 2 ^ (8 * filled) * b)) (last_of ws x) ∙ last_set ws x (x + 2 ^ (8 * filled) * b)))

-- bytes are packed four a word
pub byte_words : (labels : ℕ → ℕ) (bytes ws : List ℕ) → (fold (grown labels) (record { words = ws; filled = 0 }) (byte_items bytes)).words ≡ ws ++ packed bytes
byte_words labels [] ws = sym (append-nil ws)
byte_words labels (a ∷ []) ws = ap (λ x. ws ++ x ∷ []) (let e : a ≡ packed_word a 0 0 0 = omega arith in e)
byte_words labels (a ∷ b ∷ []) ws =
    ap (λ (g : Growth). g.words) (more_byte labels ws a 1 b refl) ∙ ap (λ x. ws ++ x ∷ []) (let e : a + 2 ^ (8 * 1) * b ≡ packed_word a b 0 0 = omega arith in e)
byte_words labels (a ∷ b ∷ c ∷ []) ws =
    ap (λ (g : Growth). (grown labels g (Byte c)).words) (more_byte labels ws a 1 b refl)
    ∙ ap (λ (g : Growth). g.words) (more_byte labels ws (a + 2 ^ (8 * 1) * b) 2 c refl)
    ∙ ap (λ x. ws ++ x ∷ []) (let e : a + 2 ^ (8 * 1) * b + 2 ^ (8 * 2) * c ≡ packed_word a b c 0 = omega arith in e)
byte_words labels (a ∷ b ∷ c ∷ d ∷ rest) ws =
    ap (λ (g : Growth). (fold (grown labels) (grown labels (grown labels g (Byte c)) (Byte d)) (byte_items rest)).words) (more_byte labels ws a 1 b refl)
    ∙ ap (λ (g : Growth). (fold (grown labels) (grown labels g (Byte d)) (byte_items rest)).words) (more_byte labels ws (a + 2 ^ (8 * 1) * b) 2 c refl)
    ∙ ap (λ (g : Growth). (fold (grown labels) g (byte_items rest)).words) (more_byte labels ws (a + 2 ^ (8 * 1) * b + 2 ^ (8 * 2) * c) 3 d refl)
    ∙ ap (λ x. (fold (grown labels) (let g : Growth = record { words = ws ++ x ∷ []; filled = 0 } in g) (byte_items rest)).words)
    (let e : a + 2 ^ (8 * 1) * b + 2 ^ (8 * 2) * c + 2 ^ (8 * 3) * d ≡ packed_word a b c d = omega arith in e)
    ∙ byte_words labels rest (ws ++ packed_word a b c d ∷ [])
    ∙ append_assoc ws (packed_word a b c d ∷ []) (packed rest)

-- ---- words that come before

index_after : (ws us : List ℕ) (k : ℕ) → slice_index (ws ++ us) (length ws + k) ≡ slice_index us k
index_after [] us k = ap (λ n. slice_index us n) (let z : 0 + k ≡ k = omega arith in z)
index_after (w ∷ ws) us k = ap (λ n. slice_index (w ∷ (ws ++ us)) n) (let z : suc (length ws) + k ≡ suc (length ws + k) = omega arith in z) ∙ index_after ws us k

set_following : (ws us : List ℕ) (k v : ℕ) → slice_set (ws ++ us) (length ws + k) v ≡ ws ++ slice_set us k v
set_following [] us k v = ap (λ n. slice_set us n v) (let z : 0 + k ≡ k = omega arith in z)
set_following (w ∷ ws) us k v = ap (λ n. slice_set (w ∷ (ws ++ us)) n v) (let z : suc (length ws) + k ≡ suc (length ws + k) = omega arith in z) ∙ ap (λ l. w ∷ l) (set_following ws us k v)

-- words before those that grow
abbrev following : List ℕ → Growth → Growth
following ws g = record { words = ws ++ g.words; filled = g.filled }

-- a word that is begun is there
abbrev HasLast : Growth → Type 0
HasLast g = (g.filled ≡ 0) ⊎ (0 < length g.words)

last_after : (ws us : List ℕ) → 0 < length us → length (ws ++ us) - 1 ≡ length ws + (length us - 1)
last_after ws us some = omega (arith, some, length-append ws us)

byte_after : (labels : ℕ → ℕ) (ws : List ℕ) (g : Growth) (b : ℕ) → HasLast g → (grown labels (following ws g) (Byte b) ≡ following ws (grown labels g (Byte b))) × HasLast (grown labels g (Byte b))
byte_after labels ws g b last = by_test (g.filled == 0) refl
  where
    made : Bool → Growth → Growth
    made t h = if t then record { words = h.words ++ b ∷ []; filled = 1 } else record { words = slice_set h.words (length h.words - 1) (slice_index h.words (length h.words - 1) + 2 ^ (8 * h.filled) * b); filled = (h.filled + 1) % 4 }

    some : (g.filled ≡ 0) ⊎ (0 < length g.words) → (g.filled == 0) ≡ false → 0 < length g.words
    some (inl z) e = absurd (let h : true ≡ false = sym (eq-eqb g.filled 0 z) ∙ e in cc)
    some (inr h) e = h

    by_test : (t : Bool) → (g.filled == 0) ≡ t → (made t (following ws g) ≡ following ws (made t g)) × HasLast (made t g)
    by_test true e = (ap (λ (l : List ℕ). let h : Growth = record { words = l; filled = 1 } in h) (append_assoc ws g.words (b ∷ [])), inr (omega (arith, length-append g.words (b ∷ []))))
    by_test false e =
        let there : 0 < length g.words = some last e in
        let at : length (ws ++ g.words) - 1 ≡ length ws + (length g.words - 1) = last_after ws g.words there in
        let old : slice_index (ws ++ g.words) (length (ws ++ g.words) - 1) ≡ slice_index g.words (length g.words - 1) = ap (λ n. slice_index (ws ++ g.words) n) at ∙ index_after ws g.words (length g.words - 1) in (
          ap (λ (l : List ℕ). let h : Growth = record { words = l; filled = (g.filled + 1) % 4 } in h)
              (ap (λ v. slice_set (ws ++ g.words) (length (ws ++ g.words) - 1) (v + 2 ^ (8 * g.filled) * b)) old
              ∙ ap (λ n. slice_set (ws ++ g.words) n (slice_index g.words (length g.words - 1) + 2 ^ (8 * g.filled) * b)) at
              ∙ set_following ws g.words (length g.words - 1) (slice_index g.words (length g.words - 1) + 2 ^ (8 * g.filled) * b)),
          inr (omega (arith, there, length-set g.words (length g.words - 1) (slice_index g.words (length g.words - 1) + 2 ^ (8 * g.filled) * b))),
        )

plain_after : (labels : ℕ → ℕ) (ws : List ℕ) (g : Growth) (i : Item) → IsPlain i → (grown labels (following ws g) i ≡ following ws (grown labels g i)) × HasLast (grown labels g i)
plain_after labels ws g i plain =
    let own = grown_plain labels g i plain in (
      grown_plain labels (following ws g) i plain ∙ ap (λ (l : List ℕ). let h : Growth = record { words = l; filled = 0 } in h) (append_assoc ws g.words (item_words labels i)) ∙ sym (ap (λ (h : Growth). following ws h) own),
      inl (ap (λ (h : Growth). h.filled) own),
    )

item_after : (labels : ℕ → ℕ) (ws : List ℕ) (g : Growth) (i : Item) → HasLast g → (grown labels (following ws g) i ≡ following ws (grown labels g i)) × HasLast (grown labels g i)
item_after labels ws g (Byte b) last = byte_after labels ws g b last
item_after labels ws g (Instruction f d operand) last = plain_after labels ws g (Instruction f d operand) tt
item_after labels ws g (SetLabel l) last = plain_after labels ws g (SetLabel l) tt
item_after labels ws g (Word w) last = plain_after labels ws g (Word w) tt
item_after labels ws g (LabelWord l) last = plain_after labels ws g (LabelWord l) tt
item_after labels ws g (SetGlobal n l) last = plain_after labels ws g (SetGlobal n l) tt
item_after labels ws g (Frame n) last = plain_after labels ws g (Frame n) tt
item_after labels ws g End last = plain_after labels ws g End tt

-- words that come before change nothing
items_after : (labels : ℕ → ℕ) (ws : List ℕ) (items : List Item) (g : Growth) → HasLast g → fold (grown labels) (following ws g) items ≡ following ws (fold (grown labels) g items)
items_after labels ws [] g last = refl
items_after labels ws (i ∷ rest) g last =
    let h = item_after labels ws g i last in
    ap (λ (x : Growth). fold (grown labels) x rest) h.0 ∙ items_after labels ws rest (grown labels g i) h.1

abbrev nothing : Growth
nothing = record { words = []; filled = 0 }

abbrev fresh : List ℕ → Growth
fresh ws = record { words = ws; filled = 0 }

-- items after words put theirs after them
pub grown_after : (labels : ℕ → ℕ) (ws : List ℕ) (items : List Item) → fold (grown labels) (fresh ws) items ≡ following ws (growth labels items)
grown_after labels ws items =
    ap (λ (l : List ℕ). fold (grown labels) (fresh l) items) (sym (append-nil ws)) ∙ items_after labels ws items nothing (inl refl)

pub words_after : (labels : ℕ → ℕ) (ws : List ℕ) (items : List Item) → (fold (grown labels) (fresh ws) items).words ≡ ws ++ segment_words labels items
words_after labels ws items = ap (λ (g : Growth). g.words) (grown_after labels ws items)

-- where no byte is first it does not matter how the last word is filled
first_plain : (labels : ℕ → ℕ) (g : Growth) (i : Item) (rest : List Item) → IsPlain i → (fold (grown labels) g (i ∷ rest)).words ≡ g.words ++ segment_words labels (i ∷ rest)
first_plain labels g i rest plain =
    ap (λ (x : Growth). (fold (grown labels) x rest).words) (grown_plain labels g i plain ∙ sym (grown_plain labels (fresh g.words) i plain)) ∙ words_after labels g.words (i ∷ rest)

from_any : (labels : ℕ → ℕ) (g : Growth) (items : List Item) → begins_with_byte items ≡ false → (fold (grown labels) g items).words ≡ g.words ++ segment_words labels items
from_any labels g [] e = sym (append-nil g.words)
from_any labels g (Byte b ∷ rest) e = absurd (let h : true ≡ false = e in cc)
from_any labels g (Instruction f d operand ∷ rest) e = first_plain labels g (Instruction f d operand) rest tt
from_any labels g (SetLabel l ∷ rest) e = first_plain labels g (SetLabel l) rest tt
from_any labels g (Word w ∷ rest) e = first_plain labels g (Word w) rest tt
from_any labels g (LabelWord l ∷ rest) e = first_plain labels g (LabelWord l) rest tt
from_any labels g (SetGlobal n l ∷ rest) e = first_plain labels g (SetGlobal n l) rest tt
from_any labels g (Frame n ∷ rest) e = first_plain labels g (Frame n) rest tt
from_any labels g (End ∷ rest) e = first_plain labels g End rest tt

-- ---- the laws

pub items_joined : ItemsAreJoined
items_joined labels front back (inl full) =
    ap (λ (g : Growth). g.words) (fold-append (grown labels) nothing front back)
    ∙ ap (λ n. (fold (grown labels) (let g : Growth = record { words = segment_words labels front; filled = n } in g) back).words) full
    ∙ words_after labels (segment_words labels front) back
items_joined labels front back (inr other) =
    ap (λ (g : Growth). g.words) (fold-append (grown labels) nothing front back) ∙ from_any labels (growth labels front) back other

pub sizes_added : SizesAreAdded
sizes_added labels front back parted =
    sym (segment_length labels (front ++ back)) ∙ ap length (items_joined labels front back parted) ∙ length-append (segment_words labels front) (segment_words labels back)
    ∙ ap (λ n. n + length (segment_words labels back)) (segment_length labels front) ∙ ap (λ n. segment_size front + n) (segment_length labels back)

-- words of items between others
between : (labels : ℕ → ℕ) (front own back : List Item) (words : List ℕ) (j : ℕ) → AreParted labels front (own ++ back) → AreParted labels own back → segment_words labels own ≡ words → j < length words
    → slice_get (segment_words labels (front ++ (own ++ back))) (segment_size front + j) ≡ slice_get words j
between labels front own back words j before after are lt =
    ap (λ (l : List ℕ). slice_get l (segment_size front + j)) (items_joined labels front (own ++ back) before)
    ∙ ap (λ n. slice_get (segment_words labels front ++ segment_words labels (own ++ back)) (n + j)) (sym (segment_length labels front))
    ∙ get_after (segment_words labels front) (segment_words labels (own ++ back)) j
    ∙ ap (λ (l : List ℕ). slice_get l j) (items_joined labels own back after ∙ ap (λ (l : List ℕ). l ++ segment_words labels back) are)
    ∙ get_inside words (segment_words labels back) j lt

begins_plain : (i : Item) (rest : List Item) → IsPlain i → begins_with_byte (i ∷ rest) ≡ false
begins_plain (Byte b) rest plain = absurd plain
begins_plain (Instruction f d operand) rest plain = refl
begins_plain (SetLabel l) rest plain = refl
begins_plain (Word w) rest plain = refl
begins_plain (LabelWord l) rest plain = refl
begins_plain (SetGlobal n l) rest plain = refl
begins_plain (Frame n) rest plain = refl
begins_plain End rest plain = refl

pub words_of_item : WordsOfItem
words_of_item labels front back i j plain lt =
    let own = grown_plain labels nothing i plain in
    between labels front (i ∷ []) back (item_words labels i) j (inr (begins_plain i back plain)) (inl (ap (λ (g : Growth). g.filled) own)) (ap (λ (g : Growth). g.words) own) lt

pub words_of_bytes : WordsOfBytes
words_of_bytes labels front back bytes j full other lt = between labels front (byte_items bytes) back (packed bytes) j (inl full) (inr other) (byte_words labels bytes []) lt

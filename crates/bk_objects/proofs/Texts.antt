-- Texts that grow.
use Rattle.bk_objects.proofs.Terms.{◌≡◌, ℕ, zero, suc, ◌+◌, ◌-◌, Option, Some, None, List, [], ◌∷◌, ◌++◌, length, take, drop, min, refl, ap, sym, append_assoc, option_map, take_rest, drop_min, FormatPart, further, part_at, parts_after, parts, Value, number, Memory, read_byte, bytes_from, bytes_cause, byte_cause}

-- a text that grew, and what is still to come
pub behind_byte : (text : List ℕ) (b : ℕ) (rest : Option (List ℕ)) → option_map (λ bs. text ++ bs) (option_map (λ bs. b ∷ bs) rest) ≡ option_map (λ bs. (text ++ b ∷ []) ++ bs) rest
behind_byte text b None = refl
behind_byte text b (Some bs) = ap (λ x. Some x) (sym (append_assoc text (b ∷ []) bs))

-- the bytes of a string
pub bytes_more : (n k : ℕ) (m : Memory) (a : Value) (i b : ℕ) (text : List ℕ) → n ≡ suc k → Some b ≡ read_byte m a (number i) → option_map (λ bs. text ++ bs) (bytes_from n m a i) ≡ option_map (λ bs. (text ++ b ∷ []) ++ bs) (bytes_from k m a (i + 1))
bytes_more n k m a i b text e is = rw (e, ← is) (behind_byte text b (bytes_from k m a (i + 1)))

pub bytes_cut : (n k : ℕ) (m : Memory) (a : Value) (i : ℕ) (text : List ℕ) → n ≡ suc k → None ≡ read_byte m a (number i) → option_map (λ bs. text ++ bs) (bytes_from n m a i) ≡ None
bytes_cut n k m a i text e is = rw (e, ← is) refl

-- why a byte is missing
pub cause_more : (n k : ℕ) (m : Memory) (a : Value) (i b : ℕ) → n ≡ suc k → Some b ≡ read_byte m a (number i) → bytes_cause n m a i ≡ bytes_cause k m a (i + 1)
cause_more n k m a i b e is = rw (e, ← is) refl

pub cause_cut : (n k : ℕ) (m : Memory) (a : Value) (i : ℕ) → n ≡ suc k → None ≡ read_byte m a (number i) → bytes_cause n m a i ≡ byte_cause a (number i)
cause_cut n k m a i e is = rw (e, ← is) refl

-- the parts of a format
pub parts_skipped : (n : ℕ) (bytes : List ℕ) → parts_after n bytes ≡ parts (drop n bytes)
parts_skipped zero bytes = refl
parts_skipped (suc n) [] = refl
parts_skipped (suc n) (b ∷ rest) = parts_skipped n rest

-- the part that a byte begins, and the bytes after it
pub parts_more : (b : ℕ) (following rest : List ℕ) (q : FormatPart) (n k : ℕ) → rest ≡ b ∷ following → q ≡ part_at b following → n ≡ further q → k ≡ min n (length following) → parts rest ≡ q ∷ parts (take (length following - k) (drop k following))
parts_more b following rest q n k is part more least =
    rw (is, take_rest following k, least, drop_min n following, more, part) (ap (λ ps. part_at b following ∷ ps) (parts_skipped (further (part_at b following)) following))

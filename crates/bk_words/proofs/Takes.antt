-- Bytes that are taken one part after another.
use Rattle.std.proofs.Common.{◌≡◌, ◌+◌, ◌<◌, ◌≤◌, Bool, true, false, length, length-append, arith, ℕ, List, [], ◌∷◌, ◌++◌, Option, refl, ◌∙◌, ap}
use Rattle.std.specs.Io.KnownBytes.{Consumes}
use Rattle.bk_base.specs.DeviceLaws.{Consumes-trans}
use Rattle.bk_words.specs.declared.word_buffer.TheConstants.{SIZE}
use Rattle.bk_words.specs.Words.{is_blank, AreBlank}
use Rattle.bk_words.specs.Gathering.{HoldsWord}

pub AreBlank-append : (x y : List ℕ) → AreBlank x → AreBlank y → AreBlank (x ++ y)
AreBlank-append [] y p q = q
AreBlank-append (b ∷ x) y p q = (p.0, AreBlank-append x y p.1 q)

-- the count of the bytes so far and one more
pub count-more : (x : List ℕ) (b m n k : ℕ) → m ≡ n + length x → k ≡ m + 1 → k ≡ n + length (x ++ b ∷ [])
count-more x b m n k p q = omega (arith, length-append x (b ∷ []))

-- one blank more
pub blanks-more : (a b c : Option (List ℕ)) (n m k byte : ℕ) → ((blanks : List ℕ) × AreBlank blanks × Consumes a b blanks × (m ≡ n + length blanks)) →
    is_blank byte ≡ true → Consumes b c (byte ∷ []) → k ≡ m + 1 →
    (blanks : List ℕ) × AreBlank blanks × Consumes a c blanks × (k ≡ n + length blanks)
blanks-more a b c n m k byte t blank more count =
    (t.0 ++ byte ∷ [], AreBlank-append t.0 (byte ∷ []) t.1 (blank, tt), Consumes-trans a b c t.0 (byte ∷ []) t.2 more, count-more t.0 byte m n k t.3 count)

head_same : (a b : ℕ) (x y : List ℕ) → a ∷ x ≡ b ∷ y → a ≡ b
head_same a b x y is = cc

-- the word goes on behind its first byte
first-longer : (word : List ℕ) (long : Bool) (first byte : ℕ) (rest : List ℕ) → HoldsWord word long (first ∷ rest) → (b : ℕ) (r : List ℕ) → first ∷ (rest ++ byte ∷ []) ≡ b ∷ r →
    (more : List ℕ) × (word ≡ b ∷ more)
first-longer word long first byte rest h b r e =
    let begun = h.first first rest refl in (begun.0, begun.1 ∙ ap (λ (x : ℕ). x ∷ begun.0) (head_same first b (rest ++ byte ∷ []) r e))

-- the word goes on, and the byte is held
pub Holds-push : (word new : List ℕ) (long : Bool) (first byte : ℕ) (rest : List ℕ) → HoldsWord word long (first ∷ rest) → new ≡ word ++ byte ∷ [] →
    HoldsWord new long (first ∷ (rest ++ byte ∷ []))
Holds-push word new long first byte rest h is = record {
  first = λ b r e. let begun = h.first first rest refl in
      (begun.0 ++ byte ∷ [], is ∙ ap (λ (w : List ℕ). w ++ byte ∷ []) begun.1 ∙ ap (λ (x : ℕ). x ∷ (begun.0 ++ byte ∷ [])) (head_same first b (rest ++ byte ∷ []) r e));
  short = λ e. is ∙ ap (λ (w : List ℕ). w ++ byte ∷ []) (h.short e);
  long = λ e. let l : SIZE < length (first ∷ rest) = h.long e in omega (arith, l, length-append rest (byte ∷ []));
}

-- the word goes on, and is too long
pub Holds-long : (word : List ℕ) (long : Bool) (first byte : ℕ) (rest : List ℕ) → HoldsWord word long (first ∷ rest) → SIZE ≤ length word →
    HoldsWord word true (first ∷ (rest ++ byte ∷ []))
Holds-long word true first byte rest h full = record {
  first = λ b r e. first-longer word true first byte rest h b r e;
  short = λ e. cc;
  long = λ e. let l : SIZE < length (first ∷ rest) = h.long refl in omega (arith, l, length-append rest (byte ∷ []));
}
Holds-long word false first byte rest h full = record {
  first = λ b r e. first-longer word false first byte rest h b r e;
  short = λ e. cc;
  long = λ e. omega (arith, ap (λ (w : List ℕ). length w) (h.short refl), length-append rest (byte ∷ []));
}

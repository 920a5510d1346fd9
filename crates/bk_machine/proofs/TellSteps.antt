-- Texts that are written a piece at a time.
pub use Rattle.bk_machine.proofs.Terms.{◌≡◌, ◌≢◌, ℕ, zero, suc, nat_eq, arith, ◌+◌, ◌-◌, List, [], ◌∷◌, ◌++◌, Option, Some, None, Bool, true, false, Result, Ok, Err, OnOk, OnErr, refl, sym, ap, ◌∙◌, append_assoc, nat_tests, Appends, Keeps, Appends-nil, Appends-trans, Appends-kept, AppendsPart, word_sum, Directive, Text, whole_text, cut_text, text_then, byte_of, string_rest, piece_text, directive, format_rest, Telling, PutsBytes, rules, ◌<◌, replicate, replicate-append-replicate, Begins-trans, words_in, length, signed}
use Rattle.bk_base.specs.declared.device.Failed.{Failed}

-- ---- bytes

-- some of the bytes were put, and then a call failed
pub part_before : (old mid new : Option (List ℕ)) (bytes done left : List ℕ) → bytes ≡ done ++ left → Appends old mid done → Keeps mid new
    → AppendsPart old new bytes
part_before old mid new bytes done left whole appends kept = record {
  part = done;
  rest = left;
  whole = whole;
  appends = Appends-kept old mid new done appends kept;
}

-- the first bytes were put, and then a part of the others
pub part_behind : (old mid new : Option (List ℕ)) (bytes done left : List ℕ) → bytes ≡ done ++ left → Appends old mid done → AppendsPart mid new left
    → AppendsPart old new bytes
part_behind old mid new bytes done left whole appends p = record {
  part = done ++ p.part;
  rest = p.rest;
  whole = whole ∙ ap (λ l. done ++ l) p.whole ∙ sym (append_assoc done p.part p.rest);
  appends = Appends-trans old mid new done p.part appends p.appends;
}

-- a part of the first bytes is a part of all
pub part_front : (old new : Option (List ℕ)) (bytes done left : List ℕ) → bytes ≡ done ++ left → AppendsPart old new done → AppendsPart old new bytes
part_front old new bytes done left whole p = record {
  part = p.part;
  rest = p.rest ++ left;
  whole = whole ∙ ap (λ l. l ++ left) p.whole ∙ append_assoc p.part p.rest left;
  appends = p.appends;
}

-- the first bytes were put, and then the others or a part of them
pub puts_behind : (old mid new : Option (List ℕ)) (bytes done left : List ℕ) (result : Result (Unit {0}) Failed) → bytes ≡ done ++ left
    → Appends old mid done → PutsBytes mid new left result → PutsBytes old new bytes result
puts_behind old mid new bytes done left (Ok u) whole appends puts = rw whole (Appends-trans old mid new done left appends puts)
puts_behind old mid new bytes done left (Err e) whole appends puts = part_behind old mid new bytes done left whole appends puts

pub puts_given : (old new : Option (List ℕ)) (bytes : List ℕ) (result : Result (Unit {0}) Failed) → OnOk result (Appends old new bytes)
    → OnErr result (AppendsPart old new bytes) → PutsBytes old new bytes result
puts_given old new bytes (Ok u) all part = all
puts_given old new bytes (Err e) all part = part

-- ---- texts

then_bytes : (piece left : Text) → piece.whole ≡ true → (text_then piece left).bytes ≡ piece.bytes ++ left.bytes
then_bytes piece left whole = rw whole refl

then_whole : (piece left : Text) → piece.whole ≡ true → (text_then piece left).whole ≡ left.whole
then_whole piece left whole = rw whole refl

then_cut : (piece left : Text) → piece.whole ≡ false → text_then piece left ≡ piece
then_cut piece left cut = rw cut refl

-- the next piece was put whole
pub telling_on : (old mid new : Option (List ℕ)) (all left piece next : Text) → Telling old mid all left → left ≡ text_then piece next → piece.whole ≡ true
    → Appends mid new piece.bytes → Telling old new all next
telling_on old mid new all left piece next t is whole appends = record {
  done = t.done ++ piece.bytes;
  bytes_are = t.bytes_are ∙ ap (λ x. t.done ++ x) (ap (λ x. x.bytes) is ∙ then_bytes piece next whole) ∙ sym (append_assoc t.done piece.bytes next.bytes);
  whole_is = t.whole_is ∙ ap (λ x. x.whole) is ∙ then_whole piece next whole;
  appends = Appends-trans old mid new t.done piece.bytes t.appends appends;
}

-- nothing is left, or the rest is all put at once
pub telling_last : (old mid new : Option (List ℕ)) (all left : Text) → Telling old mid all left → Appends mid new left.bytes → Appends old new all.bytes
telling_last old mid new all left t appends = rw t.bytes_are (Appends-trans old mid new t.done left.bytes t.appends appends)

-- the next piece was cut
pub telling_cut : (old mid new : Option (List ℕ)) (all left piece next : Text) → Telling old mid all left → left ≡ text_then piece next → piece.whole ≡ false
    → Appends mid new piece.bytes → (false ≡ all.whole) × Appends old new all.bytes
telling_cut old mid new all left piece next t is cut appends =
    let same : left ≡ piece = is ∙ then_cut piece next cut in (
      sym (t.whole_is ∙ ap (λ x. x.whole) same ∙ cut),
      telling_last old mid new all left t (rw same appends),
    )

-- the device failed in the next piece
pub telling_failed : (old mid new : Option (List ℕ)) (all left piece next : Text) → Telling old mid all left → left ≡ text_then piece next
    → AppendsPart mid new piece.bytes → AppendsPart old new all.bytes
telling_failed old mid new all left piece next t is p =
    part_behind old mid new all.bytes t.done left.bytes t.bytes_are t.appends (in_then piece.whole refl)
  where
    in_then : (w : Bool) → piece.whole ≡ w → AppendsPart mid new left.bytes
    in_then true whole = part_front mid new left.bytes piece.bytes next.bytes (ap (λ x. x.bytes) is ∙ then_bytes piece next whole) p
    in_then false cut = let same : left.bytes ≡ piece.bytes = ap (λ x. x.bytes) (is ∙ then_cut piece next cut) in rw same p

-- a byte of a string, and the rest of it
pub string_rest-byte : (n m : ℕ) (store : List ℕ) (s i b : ℕ) → n ≡ suc m → byte_of store s i ≡ Some b
    → string_rest n store s i ≡ text_then (whole_text (b ∷ [])) (string_rest m store s (i + 1))
string_rest-byte n m store s i b count found = rw (count, found) refl

pub string_rest-cut : (n m : ℕ) (store : List ℕ) (s i : ℕ) → n ≡ suc m → byte_of store s i ≡ None → string_rest n store s i ≡ cut_text
string_rest-cut n m store s i count missing = rw (count, missing) refl

-- ---- a directive of a format, and the rest of it

pub format_rest-none : (n : ℕ) (store : List ℕ) (f i left a : ℕ) → left ≡ 0 → format_rest n store f i left a ≡ whole_text []
format_rest-none zero store f i left a none = refl
format_rest-none (suc n) store f i left a none = rw none refl

pub format_rest-directive : (n m : ℕ) (store : List ℕ) (f i left a : ℕ) (d : Directive) → n ≡ suc m → left ≢ 0 → directive store f i left a ≡ Some d
    → format_rest n store f i left a ≡ text_then (piece_text store d.piece) (format_rest m store f (i + d.bytes) (left - d.bytes) (word_sum a d.arguments))
format_rest-directive n m store f i left a d count some found =
    let other : nat_eq left 0 ≡ false = grind (arith, nat_tests) in rw (count, other, found) refl

pub format_rest-cut : (n m : ℕ) (store : List ℕ) (f i left a : ℕ) → n ≡ suc m → left ≢ 0 → directive store f i left a ≡ None → format_rest n store f i left a ≡ cut_text
format_rest-cut n m store f i left a count some missing =
    let other : nat_eq left 0 ≡ false = grind (arith, nat_tests) in rw (count, other, missing) refl

-- the answer of a text that leads outside the store, or has nothing left
pub telling_end : (old new : Option (List ℕ)) (all left : Text) → Telling old new all left → left ≡ cut_text → (false ≡ all.whole) × Appends old new all.bytes
telling_end old new all left t is = (
  sym (t.whole_is ∙ ap (λ x. x.whole) is),
  telling_last old new new all left t (rw is (Appends-nil new)),
)

pub telling_all : (old new : Option (List ℕ)) (all left : Text) → Telling old new all left → left ≡ whole_text [] → (true ≡ all.whole) × Appends old new all.bytes
telling_all old new all left t is = (
  sym (t.whole_is ∙ ap (λ x. x.whole) is),
  telling_last old new new all left t (rw is (Appends-nil new)),
)

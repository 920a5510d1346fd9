-- Texts of names, byte after byte.
use Rattle.bk_scope.proofs.Terms.{◌≡◌, ℕ, ◌+◌, ◌<◌, List, [], ◌∷◌, ◌++◌, length, ap, ◌∙◌, encode_utf8, encode_utf8_all, take_more, append-nil}
use Rattle.std.proofs.Math.ListN.{take, get_or}
use Rattle.std.proofs.lemmas.Str.{encodes-append}

-- one byte more
pub text_of-take : (xs : List ℕ) (i : ℕ) → i < length xs → encode_utf8_all (take (i + 1) xs) ≡ encode_utf8_all (take i xs) ++ encode_utf8 (get_or xs i 0)
text_of-take xs i within =
    ap encode_utf8_all (take_more xs i 0 within) ∙ encodes-append (take i xs) (get_or xs i 0 ∷ []) ∙ ap (λ (ys : List ℕ). encode_utf8_all (take i xs) ++ ys) (append-nil (encode_utf8 (get_or xs i 0)))

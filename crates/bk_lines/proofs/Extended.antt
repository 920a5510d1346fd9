-- Bytes added after bytes that were added, and read after bytes that were read.
use Rattle.std.proofs.Common.{◌≢◌, ◌∙◌, ap, arith, refl, List, [], ◌∷◌, ℕ, ◌++◌, Option, All}
use Rattle.std.proofs.lemmas.List.{append_assoc}
use Rattle.std.specs.Io.KnownBytes.{Consumes}
use Rattle.std.proofs.KnownBytes.{Consumes-trans}
use Rattle.bk_lines.specs.Places.{Extends, LineEnd}

pub extends_on : (a b c : List ℕ) → Extends a b → Extends b c → Extends a c
extends_on a b c first second = (first.0 ++ second.0, second.1 ∙ ap (λ bytes. bytes ++ second.0) first.1 ∙ append_assoc a first.0 second.0)

pub line_more : (old now new : Option (List ℕ)) (more : List ℕ) (byte : ℕ) → Consumes old now more → All (λ b. b ≢ 10) more → Consumes now new (byte ∷ [])
    → LineEnd old new (more ++ byte ∷ [])
line_more old now new more byte first inside next = record {
  front = more;
  last = byte ∷ [];
  bytes = refl;
  inside = inside;
  one = omega arith;
  delivered = Consumes-trans old now new more (byte ∷ []) first next;
}

use Rattle.std.proofs.Common.{◌≡◌, ◌+◌, ◌∙◌, ◌∷◌, ◌++◌, [], sym, arith, true, false, refl}
use Rattle.bk_words.specs.Words.{is_blank}
use Rattle.bk_base.specs.DeviceLaws.{Consumes-trans}
use Rattle.bk_words.specs.WordLaws.{AreInWord-append}
use Rattle.bk_words.proofs.Takes.{count-more, Holds-push, Holds-long}
use Rattle.bk_words.proofs.words.rest_of_word.Goals as goal

pub returns-then-is_blank_byte-clause-gives : goal.returns-then-is_blank_byte-clause-gives
returns-then-is_blank_byte-clause-gives g c =
    let t = c.loop-byte.invariant.taken in
    let count : c.next_byte.new.taken ≡ c.loop-byte.taken + 1 = rw c.in-Some.is at c.in_ok-byte.ensures.count in
    let blank : is_blank c.in-Some.byte ≡ true = sym c.is_blank_byte.ensures ∙ c.if-is_blank_byte.true in rw c.loop-byte.invariant.goes_on (
      t.0,
      c.in-Some.byte ∷ [],
      t.1,
      t.2,
      (c.in-Some.byte, blank, refl),
      Consumes-trans _ _ _ t.0 (c.in-Some.byte ∷ []) t.3 (rw c.in-Some.is at c.in_ok-byte.ensures.gives),
      count-more t.0 c.in-Some.byte c.loop-byte.taken c.args.taken.now c.next_byte.new.taken t.4 count,
    )

pub loop-byte-smaller-then-len-lt-SIZE : goal.loop-byte-smaller-then-len-lt-SIZE
loop-byte-smaller-then-len-lt-SIZE g c =
    let count : c.next_byte.new.taken ≡ c.loop-byte.taken + 1 = rw c.in-Some.is at c.in_ok-byte.ensures.count in
    omega (arith, count, c.in_ok-byte.ensures.within)

pub loop-byte-smaller : goal.loop-byte-smaller
loop-byte-smaller g c =
    let count : c.next_byte.new.taken ≡ c.loop-byte.taken + 1 = rw c.in-Some.is at c.in_ok-byte.ensures.count in
    omega (arith, count, c.in_ok-byte.ensures.within)

pub loop-byte-preserved-then-len-lt-SIZE : goal.loop-byte-preserved-then-len-lt-SIZE
loop-byte-preserved-then-len-lt-SIZE g c =
    let t = c.loop-byte.invariant.taken in
    let byte = c.in-Some.byte in
    let count : c.next_byte.new.taken ≡ c.loop-byte.taken + 1 = rw c.in-Some.is at c.in_ok-byte.ensures.count in
    let inside : is_blank byte ≡ false = sym c.is_blank_byte.ensures ∙ c.if-is_blank_byte.false in
    record {
      taken = (
        t.0 ++ byte ∷ [],
        AreInWord-append t.0 (byte ∷ []) t.1 (inside, tt),
        Holds-push c.loop-byte.held.word c.push-then-len-lt-SIZE.new.self c.loop-byte.held.long c.args.first byte t.0 t.2 c.push-then-len-lt-SIZE.ensures,
        Consumes-trans _ _ _ t.0 (byte ∷ []) t.3 (rw c.in-Some.is at c.in_ok-byte.ensures.gives),
        count-more t.0 byte c.loop-byte.taken c.args.taken.now c.next_byte.new.taken t.4 count,
      );
      goes_on = c.loop-byte.invariant.goes_on;
      clear = c.in_ok-byte.ensures.clear;
    }

pub loop-byte-preserved : goal.loop-byte-preserved
loop-byte-preserved g c =
    let t = c.loop-byte.invariant.taken in
    let byte = c.in-Some.byte in
    let count : c.next_byte.new.taken ≡ c.loop-byte.taken + 1 = rw c.in-Some.is at c.in_ok-byte.ensures.count in
    let inside : is_blank byte ≡ false = sym c.is_blank_byte.ensures ∙ c.if-is_blank_byte.false in
    record {
      taken = (
        t.0 ++ byte ∷ [],
        AreInWord-append t.0 (byte ∷ []) t.1 (inside, tt),
        Holds-long c.loop-byte.held.word c.loop-byte.held.long c.args.first byte t.0 t.2 (omega (arith, c.if-len-lt-SIZE.false, c.len.ensures.value)),
        Consumes-trans _ _ _ t.0 (byte ∷ []) t.3 (rw c.in-Some.is at c.in_ok-byte.ensures.gives),
        count-more t.0 byte c.loop-byte.taken c.args.taken.now c.next_byte.new.taken t.4 count,
      );
      goes_on = c.loop-byte.invariant.goes_on;
      clear = c.in_ok-byte.ensures.clear;
    }

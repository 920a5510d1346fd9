use Rattle.std.proofs.Common.{◌≡◌, ◌+◌, ◌∙◌, sym, arith, rules, true}
use Rattle.bk_words.specs.Words.{is_blank}
use Rattle.bk_words.proofs.Takes.{blanks-more}
use Rattle.bk_words.proofs.words.first_byte.Goals as goal

pub loop-byte-smaller : goal.loop-byte-smaller
loop-byte-smaller g c =
    let count : c.next_byte.new.taken ≡ c.loop-byte.taken + 1 = rw c.in-Some.is at c.in_ok-byte.ensures.count in
    omega (arith, count, c.in_ok-byte.ensures.within)

pub loop-byte-preserved : goal.loop-byte-preserved
loop-byte-preserved g c =
    let count : c.next_byte.new.taken ≡ c.loop-byte.taken + 1 = rw c.in-Some.is at c.in_ok-byte.ensures.count in
    let blank : is_blank c.in-Some.b ≡ true = sym c.is_blank_byte.ensures ∙ c.if-is_blank_byte.true in
    record {
      taken = blanks-more _ _ _ c.args.taken.now c.loop-byte.taken c.next_byte.new.taken c.in-Some.b c.loop-byte.invariant.taken blank (rw c.in-Some.is at c.in_ok-byte.ensures.gives) count;
      clear = λ _. c.in_ok-byte.ensures.clear;
      over = λ was. let stays = c.loop-byte.invariant.over was in search rules;
      again = λ was. let stays = c.loop-byte.invariant.again was in search rules;
    }

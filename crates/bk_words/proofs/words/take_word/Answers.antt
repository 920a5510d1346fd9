use Rattle.std.proofs.Common.{◌≡◌, ◌++◌, ◌∷◌, [], false}
use Rattle.bk_words.specs.Words.{is_blank}
use Rattle.bk_base.specs.DeviceLaws.{Consumes-trans}
use Rattle.bk_words.proofs.NextWord.{the_word, count-both, begins_word}
use Rattle.bk_words.proofs.Parts.{on_err}
use Rattle.bk_words.proofs.words.take_word.Goals as goal

pub returns-clause-gives : goal.returns-clause-gives
returns-clause-gives g c =
    let first = c.in-Some.first in
    let q = rw c.in-Some.is at c.in_ok-first.ensures.gives in
    let inside : is_blank first ≡ false = rw c.in-Some.is at c.in_ok-first.ensures.word in
    let r = c.in_ok-rest_of_word.ensures.gives in (
      (q.0 ++ first ∷ []) ++ (r.0 ++ r.1),
      Consumes-trans _ _ _ (q.0 ++ first ∷ []) (r.0 ++ r.1) q.2 r.5,
      count-both (q.0 ++ first ∷ []) (r.0 ++ r.1) c.first_byte.new.taken c.args.taken.now c.rest_of_word.new.taken q.3 r.6,
      (the_word q.0 first r.0 r.1 _ _ q.1 inside r.2 r.4, r.3),
    )

pub returns-in_err-rest_of_word-clause-stops : goal.returns-in_err-rest_of_word-clause-stops
returns-in_err-rest_of_word-clause-stops g c =
    let first = c.in-Some.first in
    let q = rw c.in-Some.is at c.in_ok-first.ensures.gives in
    let inside : is_blank first ≡ false = rw c.in-Some.is at c.in_ok-first.ensures.word in
    let r = c.in_err-rest_of_word.ensures.stops in
    on_err c.from_residual-in_err-rest_of_word.result (
      (q.0 ++ first ∷ []) ++ r.0,
      Consumes-trans _ _ _ (q.0 ++ first ∷ []) r.0 q.2 r.2,
      count-both (q.0 ++ first ∷ []) r.0 c.first_byte.new.taken c.args.taken.now c.rest_of_word.new.taken q.3 r.3,
      r.4,
      begins_word q.0 first r.0 q.1 inside r.1,
    )

use Rattle.bk_syntax.proofs.Terms.{◌≡◌, ℕ, suc, ◌+◌, ◌-◌, List, Some, length, take, replicate, ap, ◌∙◌, arith, upper_name, up_to_tag, tags}
use Rattle.bk_syntax.proofs.Openings.{closing_more, more_none, closed_tagged, tags_none, passed, found}
use Rattle.bk_syntax.proofs.parser.closings_tagged.Goals as goal

pub returns-then-same_tag : goal.returns-then-same_tag
returns-then-same_tag c = λ t.
    let xs = c.args.opened.now in
    let w = upper_name c.args.wanted.now in
    let i = c.loop-i.i in
    let back : i ≡ i - 1 + 1 = omega arith in
    let left : i - 1 ≡ length xs - (length xs - (i - 1)) = omega arith in
    closed_tagged t c.args.wanted.now (tags xs) c.requires ∙ c.loop-i.invariant.passed t ∙ ap (λ (n : ℕ). closing_more (length xs - i) t (up_to_tag t w (tags (take n xs)))) back
    ∙ found xs (i - 1) (length xs - i) _ t w _ (length xs - (i - 1)) (omega arith) (omega arith) c.same_tag.ensures c.if-same_tag.true
    ∙ ap (λ (n : ℕ). Some (record { closings = replicate (length xs - (i - 1)) t; still = tags (take n xs) })) left

pub loop-i-preserved : goal.loop-i-preserved
loop-i-preserved c =
    let xs = c.args.opened.now in
    let w = upper_name c.args.wanted.now in
    let i = c.loop-i.i in
    let back : i ≡ i - 1 + 1 = omega arith in
    let more : suc (length xs - i) ≡ length xs - (i - 1) = omega arith in
    record {
      in_range = omega arith;
      passed = λ t. c.loop-i.invariant.passed t ∙ ap (λ (n : ℕ). closing_more (length xs - i) t (up_to_tag t w (tags (take n xs)))) back
          ∙ passed xs (i - 1) (length xs - i) _ t w _ (omega arith) c.same_tag.ensures c.if-same_tag.false
          ∙ ap (λ (n : ℕ). closing_more n t (up_to_tag t w (tags (take (i - 1) xs)))) more;
    }

pub returns : goal.returns
returns c = λ t.
    let xs = c.args.opened.now in
    let w = upper_name c.args.wanted.now in
    let i = c.loop-i.i in
    let none : i ≡ 0 = omega arith in
    closed_tagged t c.args.wanted.now (tags xs) c.requires ∙ c.loop-i.invariant.passed t ∙ ap (λ (n : ℕ). closing_more (length xs - i) t (up_to_tag t w (tags (take n xs)))) none
    ∙ ap (λ (z : List (List ℕ)). closing_more (length xs - i) t (up_to_tag t w z)) tags_none ∙ more_none (length xs - i) t

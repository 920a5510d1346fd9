use Rattle.bk_kit.proofs.Terms.{◌≡◌, ◌∙◌, arith, codes, subst, sym, ParsesUnsigned, ExplainsUnsignedError, HasUnsignedDigitsIfOk, rows_of, found_of, one_of, one_text-rows, Bounds, ReadsLimits, ReadsNumber}
use Rattle.bk_kit.proofs.LineLemmas.{number_of, number_given, if_some_map}
use Rattle.bk_kit.proofs.command_line.limits_of.Goals as goal

pub returns-clause-reads : goal.returns-clause-reads
returns-clause-reads c =
    let found = found_of c.args.matches.now in
    let words = number_of 32 (λ bs r. ParsesUnsigned 32 10 bs r × ExplainsUnsignedError 10 bs r × HasUnsignedDigitsIfOk bs r) _ _ c.get_one.result c.in_ok-words.words (one_text-rows found (codes "words")) c.in_ok-words.was c.get_one.ensures.none c.get_one.ensures.value (λ u x g. g.0) in
    let steps = number_of 64 (λ bs r. ParsesUnsigned 64 10 bs r × ExplainsUnsignedError 10 bs r × HasUnsignedDigitsIfOk bs r) _ _ c.get_one-2.result c.in_ok-steps.steps (one_text-rows found (codes "steps")) c.in_ok-steps.was c.get_one-2.ensures.none c.get_one-2.ensures.value (λ u x g. g.0) in
    if_some_map (λ (limits : Bounds). (limits.steps ≡ c.in_ok-steps.steps) × (limits.words ≡ c.in_ok-words.words)) (ReadsLimits (rows_of found)) c.new.result
    (λ (limits : Bounds) same. (
      subst (ReadsNumber (one_of (codes "words") (rows_of found))) (sym same.1) words,
      subst (ReadsNumber (one_of (codes "steps") (rows_of found))) (sym same.0) steps,
    )) c.new.ensures.value

pub returns-in_err-words-clause-given : goal.returns-in_err-words-clause-given
returns-in_err-words-clause-given c limits are reads =
    let found = found_of c.args.matches.now in
    let most = are.3 in
    let given = number_given 32 (λ bs r. ParsesUnsigned 32 10 bs r × ExplainsUnsignedError 10 bs r × HasUnsignedDigitsIfOk bs r) _ _ c.get_one.result limits.words (one_text-rows found (codes "words")) (omega (arith, most)) reads.0 c.get_one.ensures.value (λ u x g. g.0) in
    absurd (let bad = sym c.in_err-words.was ∙ given in cc)

pub returns-in_err-steps-clause-given : goal.returns-in_err-steps-clause-given
returns-in_err-steps-clause-given c limits are reads =
    let found = found_of c.args.matches.now in
    let most = are.1 in
    let given = number_given 64 (λ bs r. ParsesUnsigned 64 10 bs r × ExplainsUnsignedError 10 bs r × HasUnsignedDigitsIfOk bs r) _ _ c.get_one-2.result limits.steps (one_text-rows found (codes "steps")) (omega (arith, most)) reads.1 c.get_one-2.ensures.value (λ u x g. g.0) in
    absurd (let bad = sym c.in_err-steps.was ∙ given in cc)

pub returns-clause-given : goal.returns-clause-given
returns-clause-given c limits are reads =
    let found = found_of c.args.matches.now in
    let most = are.3 in
    let many = are.1 in
    let words = number_given 32 (λ bs r. ParsesUnsigned 32 10 bs r × ExplainsUnsignedError 10 bs r × HasUnsignedDigitsIfOk bs r) _ _ c.get_one.result limits.words (one_text-rows found (codes "words")) (omega (arith, most)) reads.0 c.get_one.ensures.value (λ u x g. g.0) in
    let steps = number_given 64 (λ bs r. ParsesUnsigned 64 10 bs r × ExplainsUnsignedError 10 bs r × HasUnsignedDigitsIfOk bs r) _ _ c.get_one-2.result limits.steps (one_text-rows found (codes "steps")) (omega (arith, many)) reads.1 c.get_one-2.ensures.value (λ u x g. g.0) in
    let same_words : c.in_ok-words.words ≡ limits.words = let e = sym c.in_ok-words.was ∙ words in cc in
    let same_steps : c.in_ok-steps.steps ≡ limits.steps = let e = sym c.in_ok-steps.was ∙ steps in cc in
    c.new.ensures.within.1 (rw (same_words, same_steps) are)

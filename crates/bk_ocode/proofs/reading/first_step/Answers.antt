use Rattle.bk_ocode.proofs.Terms.{◌≡◌, ◌∙◌, true, false, sym, ap, refl, keyword_role, may_stand, context_in, StmtPlace}
use Rattle.bk_ocode.proofs.KeywordLemmas.{placed_so}
use Rattle.bk_ocode.proofs.reading.first_step.Goals as goal

pub returns-then-not-is_place_of-clause-bad : goal.returns-then-not-is_place_of-clause-bad
returns-then-not-is_place_of-clause-bad c =
    let k = context_in c.args.draft.now in
    let keyword = c.in-Some-keyword_of.keyword in
    let applies : may_stand k.position (keyword_role keyword) ≡ false = sym (c.is_place_of.ensures ∙ ap (λ (r : StmtPlace). may_stand k.position r) c.place_of.ensures) ∙ c.if-not-is_place_of.true in
    (refl, λ w held s is. placed_so k keyword w s false (c.in-Some-keyword_of.ensures.found ∙ c.in-Some.ensures.short w held) is applies)

pub returns-clause-placed : goal.returns-clause-placed
returns-clause-placed c =
    let k = context_in c.args.draft.now in
    let keyword = c.in-Some-keyword_of.keyword in
    let applies : may_stand k.position (keyword_role keyword) ≡ true = sym (c.is_place_of.ensures ∙ ap (λ (r : StmtPlace). may_stand k.position r) c.place_of.ensures) ∙ c.if-not-is_place_of.false in
    λ w held s is. placed_so k keyword w s true (c.in-Some-keyword_of.ensures.found ∙ c.in-Some.ensures.short w held) is applies

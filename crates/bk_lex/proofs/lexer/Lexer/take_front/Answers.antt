use Rattle.bk_lex.proofs.Terms.{◌++◌, take, refl, sym, ap, ◌∙◌, arith, subst, Progress, SectionBytes, cut_after}
use Rattle.bk_lex.specs.Lexers.{Parts, parts, marks_of, Progresses}
use Rattle.bk_lex.specs.Cutting.{Means}
use Rattle.bk_lex.specs.declared.cutter.Cut.{Cut}
use Rattle.bk_lex.proofs.Cuts.{means_as}
use Rattle.bk_lex.proofs.BlockLemmas.{said_as}
use Rattle.bk_lex.proofs.lexer.Lexer.take_front.Goals as goal

pub returns-clause-says : goal.returns-clause-says
returns-clause-says c =
    let l : Parts = parts c.self.inside.bytes.items c.self.inside.from (marks_of c.self.inside.pieces) in
    let goes = subst (λ (p : Progress). Progresses p c.self.inside.state l) c.in-Going.is c.self.invariant in
    let h = c.in-Ok.ensures.progress.1 c.self.inside.bytes.items c.self.inside.from (let n = c.len-before.ensures in omega arith) goes in
    c.cut_at.ensures ∙ said_as c.in-Ok.walked.progress _ _ c.in-Ok.ensures.found h ∙ ap cut_after (sym c.in-Ok-extend_from_slice.ensures.items)

pub returns-clause-means : goal.returns-clause-means
returns-clause-means c = λ more.
    let l : Parts = parts c.self.inside.bytes.items c.self.inside.from (marks_of c.self.inside.pieces) in
    let goes = subst (λ (p : Progress). Progresses p c.self.inside.state l) c.in-Going.is c.self.invariant in
    let h = c.in-Ok.ensures.progress.1 c.self.inside.bytes.items c.self.inside.from (let n = c.len-before.ensures in omega arith) goes in
    subst (λ (k : Cut). Means k c.extend_from_slice.new.self.items) (sym (c.cut_at.ensures ∙ said_as c.in-Ok.walked.progress _ _ c.in-Ok.ensures.found h ∙ ap cut_after (sym c.in-Ok-extend_from_slice.ensures.items)))
    (means_as _ c.extend_from_slice.new.self.items refl)

pub returns-clause-asked : goal.returns-clause-asked
returns-clause-asked c = λ more k lt.
    let l : Parts = parts c.self.inside.bytes.items c.self.inside.from (marks_of c.self.inside.pieces) in
    let goes = subst (λ (p : Progress). Progresses p c.self.inside.state l) c.in-Going.is c.self.invariant in
    ap (λ (v : SectionBytes). cut_after (v.bytes ++ take k c.args.bytes.now)) (sym c.self.view_is) ∙ c.in-Ok.ensures.asked c.self.inside.bytes.items c.self.inside.from (let n = c.len-before.ensures in omega arith) goes k lt

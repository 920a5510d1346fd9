use Rattle.bk_kit.proofs.Terms.{◌≡◌, ◌∙◌, List, [], ◌∷◌, ◌++◌, length, map, ap, sym, subst, rules, map-append, length-map, stmts_of, Stmt, ocode, Front, Front-push, Front-whole}
use Rattle.bk_kit.proofs.OcodeLemmas.{sections_refused, refused_fails}
use Rattle.bk_kit.proofs.procedures.read_sections.Goals as goal

pub loop-section-preserved : goal.loop-section-preserved
loop-section-preserved g c =
    let read = c.in-Ok-Some.section in
    let answers = rw c.in-Ok-Some.field-0-is at c.in-Ok-Some.ensures.answers in
    let all : map stmts_of c.push.new.self.items ≡ map stmts_of c.loop-section.list.items ++ stmts_of read ∷ [] =
    ap (map stmts_of) c.in-Ok.ensures.items ∙ map-append stmts_of c.loop-section.list.items (read ∷ []) in
    subst (λ (l : List (List Stmt)). Front ocode l (g.N.ByteIn.left c.args.code.now) (g.N.ByteIn.left c.read_section.new.input) (g.N.ByteIn.ended c.read_section.new.input)) (sym all)
    (Front-push ocode _ _ _ _ _ _ c.loop-section.invariant (stmts_of read) (answers.2.0, answers.2.1) (λ over. let bad = (c.in-Ok-Some.ensures.ended_again over).0 in let other = c.in-Ok-Some.field-0-is in cc) (rw c.in-Ok-Some.field-0-is at c.in-Ok-Some.ensures.applies))

pub returns-in-Ok-None-clause-read : goal.returns-in-Ok-None-clause-read
returns-in-Ok-None-clause-read g c =
    Front-whole ocode _ _ _ _ _ _ c.loop-section.invariant (λ over. (g.met.N.ByteIn.nothing_after c.loop-section.code over).0) (λ over. (c.in-Ok-None.ensures.ended_again over).1) (rw c.in-Ok-None.field-0-is at c.in-Ok-None.ensures.applies)

pub returns-in-Err-clause-refused : goal.returns-in-Err-clause-refused
returns-in-Err-clause-refused g c =
    let len : c.len.result ≡ length c.loop-section.list.items = search rules in
    let count : length (map stmts_of c.loop-section.list.items) ≡ c.len.result = length-map c.loop-section.list.items stmts_of ∙ sym len in
    let refuses = sections_refused _ _ _ _ _ (g.N.ByteIn.ended c.read_section.new.input) c.loop-section.invariant c.in-Err.refused (λ over. let bad = (c.in-Err.ensures.ended_again over).0 in cc) c.in-Err.ensures.answers c.in-Err.ensures.applies in
    rw (c.section_refused.ensures, sym count) refuses

pub returns-in-Err-clause-failures : goal.returns-in-Err-clause-failures
returns-in-Err-clause-failures g c = rw c.section_refused.ensures (c.in-Err.ensures.failures ∙ refused_fails c.len.result c.in-Err.refused)

use Rattle.bk_kit.proofs.ShowLemmas.{section_put, if_ok_map, if_err_map, inr, refl, ap, symbols_of, declarations_of}
use Rattle.bk_kit.proofs.showing.put_section.Goals as goal

pub returns-clause-puts : goal.returns-clause-puts
returns-clause-puts g c =
    if_ok_map _ _ c.write.result
    (λ done wrote. section_put _ (g.L.Layout.fails c.args.layout.now) c.in-Some.section c.args.section.now c.args.lexer.now.bytes c.args.lexer.now.from _ _ _ _ c.requires c.in-Some.is
    c.in-Ok.ensures (ap symbols_of c.as_slice.ensures.value) (ap declarations_of c.in-Ok-resolve_keyed.ensures.section) refl c.in_ok-placed.ensures.applies wrote)
    c.write.ensures.written

pub returns-clause-failed : goal.returns-clause-failed
returns-clause-failed g c = if_err_map _ _ c.write.result (λ why fails. inr fails) c.write.ensures.failed

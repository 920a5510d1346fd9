use Rattle.bk_kit.proofs.ShowLemmas.{shown_grows, shown_so, shows_still, both_grow, shown_all, shown_no_more, ap, rules}
use Rattle.bk_kit.proofs.showing.show_source.Goals as goal

pub returns-in_default : goal.returns-in_default
returns-in_default g c =
    let shows = c.show_sections-answer.ensures.shows in
    let so = shows_still _ _ _ _ _ _ _ (λ is. ap g.O.ByteOut.faults (c.finish_show.ensures.unless_refused is))
    (shown_so (g.O.ByteOut.taken) (g.O.ByteOut.passed) (g.O.ByteOut.faults) _ _ _ _ _ _ _ shows) in
    let grows = both_grow (g.O.ByteOut.taken) (g.O.ByteOut.passed) (g.O.ByteOut.faults) _ _ _
    (shown_grows (g.O.ByteOut.taken) (g.O.ByteOut.passed) (g.O.ByteOut.faults) _ _ _ _ _ _ _ shows) (c.finish_show.ensures.grows, c.finish_show.ensures.passes) in
    record { shows = shown_no_more _ _ _ _ _ _ _ _ so shows.delivered grows c.flush.ensures.keeps c.flush.ensures.passes (rw c.in_default.is at c.flush.ensures.failures) }

pub returns : goal.returns
returns g c =
    let shows = c.show_sections-answer.ensures.shows in
    let so = shows_still _ _ _ _ _ _ _ (λ is. ap g.O.ByteOut.faults (c.finish_show.ensures.unless_refused is))
    (shown_so (g.O.ByteOut.taken) (g.O.ByteOut.passed) (g.O.ByteOut.faults) _ _ _ _ _ _ _ shows) in
    let grows = both_grow (g.O.ByteOut.taken) (g.O.ByteOut.passed) (g.O.ByteOut.faults) _ _ _
    (shown_grows (g.O.ByteOut.taken) (g.O.ByteOut.passed) (g.O.ByteOut.faults) _ _ _ _ _ _ _ shows) (c.finish_show.ensures.grows, c.finish_show.ensures.passes) in
    record { shows = shown_all _ _ _ _ _ _ _ _ so shows.delivered grows c.flush.ensures.keeps c.flush.ensures.passes (λ failed. search rules) (search rules) (search rules) }

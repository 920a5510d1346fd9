use Rattle.bk_hints.proofs.Placed.{places_of}
use Rattle.bk_hints.proofs.page.put_head.Goals as goal

pub returns-in_ok-put_place-in-Some : goal.returns-in_ok-put_place-in-Some
returns-in_ok-put_place-in-Some c = (_, places_of _ _ _ _, c.in_ok-put_place-in-Some.ensures)

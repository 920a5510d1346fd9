use Rattle.std.proofs.Common.{rules}
use Rattle.std.proofs.lemmas.List.Sorted.{answers_always}
use Rattle.bk_objects.proofs.Memories.{searched_place, searched_none}
use Rattle.bk_objects.proofs.store.place.Goals as goal

pub returns-2-clause-some : goal.returns-2-clause-some
returns-2-clause-some c =
    let facts = c.binary_search_by_key.ensures in
    rw c.ok.ensures.value (searched_place _ _ _ facts.bound (facts.position (λ l. l.number) (answers_always _ _ _ (λ f a r g called. search rules))))

pub returns-2-clause-none : goal.returns-2-clause-none
returns-2-clause-none c =
    let facts = c.binary_search_by_key.ensures in
    rw c.ok.ensures.value (searched_none _ c.requires.0 c.requires.1 _ _ c.requires.2 (facts.position (λ l. l.number) (answers_always _ _ _ (λ f a r g called. search rules))))

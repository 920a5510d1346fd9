use Rattle.bk_source_map.specs.declared.data.Entrance.{Entrance}
use Rattle.bk_source_map.proofs.Steps.{entrances_step, entrances_ended, arith, ◌++◌, List, append_assoc, append-nil, sym, ap, ◌∙◌}
use Rattle.bk_source_map.proofs.data.entrances_of.Goals as goal

pub loop-i-preserved : goal.loop-i-preserved
loop-i-preserved c =
    let i = c.loop-i.i in
    let s = c.index-stmts-i.result in
    let p = c.index-places-i.result in
    let step = entrances_step c.args.stmts.now c.args.places.now i s p (omega (arith, c.loop-i-test.true, c.min-i-end.ensures)) (omega (arith, c.loop-i-test.true, c.min-i-end.ensures)) c.index-stmts-i.is c.index-places-i.is in
    rw c.in_ok-put_entrance.ensures (append_assoc c.loop-i.found.items _ _ ∙ ap (λ (xs : List Entrance). c.loop-i.found.items ++ xs) (sym step) ∙ c.loop-i.invariant)

pub returns : goal.returns
returns c =
    sym (append-nil c.loop-i.found.items)
    ∙ ap (λ (xs : List Entrance). c.loop-i.found.items ++ xs) (sym (entrances_ended c.args.stmts.now c.args.places.now c.loop-i.i (omega (arith, c.loop-i-test.false, c.min-i-end.ensures))))
    ∙ c.loop-i.invariant

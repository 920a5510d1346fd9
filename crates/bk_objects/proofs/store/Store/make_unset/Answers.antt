use Rattle.bk_objects.proofs.Terms.{◌≡◌, ◌+◌, ◌∙◌, length, length-append, ap, arith, common_steps, length-replicate, memory_of}
use Rattle.bk_objects.specs.declared.worth.Cell.TheVariants.{Holds}
use Rattle.bk_objects.specs.declared.worth.Worth.TheVariants.{Unset}
use Rattle.bk_objects.specs.declared.worth.Origin.TheVariants.{Never}
use Rattle.bk_objects.proofs.Memories.{Laid-push, memory_of-made, cells_back, on_err, cells-resized, map-replicate}
use Rattle.bk_objects.proofs.store.Store.make_unset.Goals as goal

pub invariant_of-self-in_err-add_life : goal.invariant_of-self-in_err-add_life
invariant_of-self-in_err-add_life c =
    let end : c.in_ok-end.end ≡ c.len-start.result + c.args.count = grind (arith, common_steps) in
    let cells = c.in_ok-resize.ensures.items ∙ cells-resized c.self.inside.cells.items _ _ c.args.count (Holds (Unset Never)) c.self.inside.cells.ok.0 (end ∙ ap (λ n. n + c.args.count) c.len-start.ensures) in
    let start : c.in_ok-life.life.start ≡ length c.self.inside.cells.items = c.in_ok-life.ensures.1 ∙ c.len-start.ensures ∙ c.self.inside.cells.ok.0 in
    rw (c.in_err-add_life.ensures.without, c.in_err-add_life.ensures.gone, cells, cells_back c.self.inside.cells.items _ _ start) c.self.invariant

pub returns-in_err-add_life-clause-unchanged : goal.returns-in_err-add_life-clause-unchanged
returns-in_err-add_life-clause-unchanged c =
    let end : c.in_ok-end.end ≡ c.len-start.result + c.args.count = grind (arith, common_steps) in
    let cells = c.in_ok-resize.ensures.items ∙ cells-resized c.self.inside.cells.items _ _ c.args.count (Holds (Unset Never)) c.self.inside.cells.ok.0 (end ∙ ap (λ n. n + c.args.count) c.len-start.ensures) in
    let start : c.in_ok-life.life.start ≡ length c.self.inside.cells.items = c.in_ok-life.ensures.1 ∙ c.len-start.ensures ∙ c.self.inside.cells.ok.0 in
    let same : memory_of c.add_life.new.cells.items c.add_life.new.lives.items c.self.inside.made ≡ c.args.self.now =
    rw (c.in_err-add_life.ensures.without, c.in_err-add_life.ensures.gone, cells, cells_back c.self.inside.cells.items _ _ start) c.self.view_is in
    on_err c.from_residual-in_err-add_life.result _ same

pub invariant_of-self-2 : goal.invariant_of-self-2
invariant_of-self-2 c =
    let next : c.in_ok-next.next ≡ c.self.inside.made + 1 = grind (arith, common_steps) in
    let start : c.len-start.result ≡ length c.self.inside.cells.items = c.len-start.ensures ∙ c.self.inside.cells.ok.0 in
    let life = c.in_ok-life.ensures in
    let end : c.in_ok-end.end ≡ c.len-start.result + c.args.count = grind (arith, common_steps) in
    let cells = c.in_ok-resize.ensures.items ∙ cells-resized c.self.inside.cells.items _ _ c.args.count (Holds (Unset Never)) c.self.inside.cells.ok.0 (end ∙ ap (λ n. n + c.args.count) c.len-start.ensures) in
    rw (c.in_ok-add_life.ensures.added, c.in_ok-add_life.ensures.kept, cells, length-append, length-replicate) (Laid-push 0 0 _ _ _ _ _ _ c.self.invariant (omega (arith, life)) (omega (arith, life)) (omega (arith, life)) (omega (arith, life)))

pub returns-clause-made : goal.returns-clause-made
returns-clause-made c =
    let next : c.in_ok-next.next ≡ c.self.inside.made + 1 = grind (arith, common_steps) in
    let start : c.len-start.result ≡ length c.self.inside.cells.items = c.len-start.ensures ∙ c.self.inside.cells.ok.0 in
    let life = c.in_ok-life.ensures in
    let end : c.in_ok-end.end ≡ c.len-start.result + c.args.count = grind (arith, common_steps) in
    let cells = c.in_ok-resize.ensures.items ∙ cells-resized c.self.inside.cells.items _ _ c.args.count (Holds (Unset Never)) c.self.inside.cells.ok.0 (end ∙ ap (λ n. n + c.args.count) c.len-start.ensures) in
    rw (c.in_ok-add_life.ensures.added, c.in_ok-add_life.ensures.kept, cells, ← c.self.view_is, next, ← map-replicate c.args.count (Holds (Unset Never))) (memory_of-made _ _ _ _ _ c.self.invariant life.0 (life.1 ∙ start) (rw length-replicate life.2))

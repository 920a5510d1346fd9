use Rattle.bk_objects.proofs.Terms.{◌≡◌, ◌+◌, ◌∙◌, length, length-append, sym, arith, common_steps, memory_of}
use Rattle.bk_objects.proofs.Memories.{Laid-push, memory_of-made, cells_back, on_err}
use Rattle.bk_objects.proofs.store.Store.make.Goals as goal

pub invariant_of-self-in_err-add_life : goal.invariant_of-self-in_err-add_life
invariant_of-self-in_err-add_life c =
    let start : c.in_ok-life.life.start ≡ length c.self.inside.cells.items = c.in_ok-life.ensures.1 ∙ c.len-start.ensures ∙ c.self.inside.cells.ok.0 in
    rw (c.in_err-add_life.ensures.without, c.in_err-add_life.ensures.gone, c.in_ok-extend_from_slice.ensures.items, cells_back c.self.inside.cells.items c.args.cells.now _ start) c.self.invariant

pub returns-in_err-add_life-clause-unchanged : goal.returns-in_err-add_life-clause-unchanged
returns-in_err-add_life-clause-unchanged c =
    let start : c.in_ok-life.life.start ≡ length c.self.inside.cells.items = c.in_ok-life.ensures.1 ∙ c.len-start.ensures ∙ c.self.inside.cells.ok.0 in
    let same : memory_of c.add_life.new.cells.items c.add_life.new.lives.items c.self.inside.made ≡ c.args.self.now =
    rw (c.in_err-add_life.ensures.without, c.in_err-add_life.ensures.gone, c.in_ok-extend_from_slice.ensures.items, cells_back c.self.inside.cells.items c.args.cells.now _ start) c.self.view_is in
    on_err c.from_residual-in_err-add_life.result _ same

pub invariant_of-self-2 : goal.invariant_of-self-2
invariant_of-self-2 c =
    let next : c.in_ok-next.next ≡ c.self.inside.made + 1 = grind (arith, common_steps) in
    let start : c.len-start.result ≡ length c.self.inside.cells.items = c.len-start.ensures ∙ c.self.inside.cells.ok.0 in
    let life = c.in_ok-life.ensures in
    rw (c.in_ok-add_life.ensures.added, c.in_ok-add_life.ensures.kept, c.in_ok-extend_from_slice.ensures.items, length-append) (Laid-push 0 0 _ _ _ _ _ _ c.self.invariant (omega (arith, life)) (omega (arith, life)) (omega (arith, life)) (omega (arith, life)))

pub returns-clause-made : goal.returns-clause-made
returns-clause-made c =
    let next : c.in_ok-next.next ≡ c.self.inside.made + 1 = grind (arith, common_steps) in
    let start : c.len-start.result ≡ length c.self.inside.cells.items = c.len-start.ensures ∙ c.self.inside.cells.ok.0 in
    let life = c.in_ok-life.ensures in
    rw (c.in_ok-add_life.ensures.added, c.in_ok-add_life.ensures.kept, c.in_ok-extend_from_slice.ensures.items, ← c.self.view_is, next) (memory_of-made _ _ _ _ _ c.self.invariant life.0 (life.1 ∙ start) life.2)

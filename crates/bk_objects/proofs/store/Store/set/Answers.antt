use Rattle.std.proofs.Common.{arith}
use Rattle.bk_objects.proofs.Memories.{cells_end, replaced_none, replaced_past, replaced_at}
use Rattle.bk_objects.proofs.store.Store.set.Goals as goal

pub returns-in_default-clause-cell : goal.returns-in_default-clause-cell
returns-in_default-clause-cell c =
    let none = rw c.deref.ensures.value at c.in_default.ensures.none in
    rw (← c.self.view_is) (replaced_none _ _ _ _ _ _ _ c.self.invariant none)

pub returns-then-offset-life-clause-cell : goal.returns-then-offset-life-clause-cell
returns-then-offset-life-clause-cell c =
    let place = rw c.deref.ensures.value at c.in-Some.ensures.some in
    let life = c.index-life.result.now in
    rw (← c.self.view_is) (replaced_past c.self.inside.cells.items c.self.inside.lives.items _ _ _ _ c.in-Some.place life _ c.self.invariant place.0 (place.1 life) (rw (← c.index-life.ensures) c.if-offset-life.true))

pub overflow_add-start : goal.overflow_add-start
overflow_add-start c =
    let place = rw c.deref.ensures.value at c.in-Some.ensures.some in
    let end = rw (← c.index-life.ensures) at (cells_end 0 0 c.self.inside.lives.items _ _ c.in-Some.place c.index-life.result.now c.self.invariant place.0) in
    omega (arith, c.whole-start.ensures, c.self.inside.cells.ok, c.self.inside.cells.small)

pub index_mut-requires : goal.index_mut-requires
index_mut-requires c =
    let place = rw c.deref.ensures.value at c.in-Some.ensures.some in
    let end = rw (← c.index-life.ensures) at (cells_end 0 0 c.self.inside.lives.items _ _ c.in-Some.place c.index-life.result.now c.self.invariant place.0) in
    omega (arith, c.whole-start.ensures, c.self.inside.cells.ok)

pub returns-clause-cell : goal.returns-clause-cell
returns-clause-cell c =
    let place = rw c.deref.ensures.value at c.in-Some.ensures.some in
    let life = c.index-life.result.now in
    let replaced = replaced_at c.self.inside.cells.items c.self.inside.lives.items c.self.inside.made c.args.object c.args.offset c.in-Some.place life c.args.cell c.self.invariant place.0 (place.1 life) (rw (← c.index-life.ensures) c.if-offset-life.false) in
    rw (← c.self.view_is, c.whole-start.ensures) (rw (← c.index-life.ensures) at replaced)

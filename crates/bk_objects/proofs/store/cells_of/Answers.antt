use Rattle.bk_objects.proofs.Terms.{Some, ap, sym, refl, arith, cells_of}
use Rattle.bk_objects.proofs.Memories.{found-none, found-place, cells_end}
use Rattle.bk_objects.proofs.store.cells_of.Goals as goal

pub returns-in_err-life : goal.returns-in_err-life
returns-in_err-life c = rw (c.from_residual.ensures, found-none c.args.cells.now c.args.lives.now c.args.object c.in_err-life.ensures.none) refl

pub split_at-requires : goal.split_at-requires
split_at-requires c =
    let end = rw (← c.index-lives-branch.is) at (cells_end 0 0 c.args.lives.now c.requires.0 _ c.in_ok-life.field-0 c.index-lives-branch.result c.requires.1 c.in_ok-life.ensures.some.0) in
    omega (arith, c.whole.ensures, end)

pub split_at-requires-2 : goal.split_at-requires-2
split_at-requires-2 c =
    let end = rw (← c.index-lives-branch.is) at (cells_end 0 0 c.args.lives.now c.requires.0 _ c.in_ok-life.field-0 c.index-lives-branch.result c.requires.1 c.in_ok-life.ensures.some.0) in
    omega (arith, c.split_at.ensures.back_len, c.whole.ensures, c.whole-2.ensures, end)

pub returns : goal.returns
returns c =
    let place = c.in_ok-life.ensures.some in
    let object = rw (← c.index-lives-branch.is) at (found-place c.args.cells.now c.args.lives.now c.requires.0 _ c.in_ok-life.field-0 _ c.index-lives-branch.result c.requires.1 place.0 (place.1 _)) in
    rw (c.split_at-2.ensures.front, c.split_at.ensures.back, c.whole.ensures, c.whole-2.ensures) (sym (ap (λ x. cells_of (Some x)) object))

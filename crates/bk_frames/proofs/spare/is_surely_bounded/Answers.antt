use Rattle.bk_frames.proofs.Terms.{◌<◌, sym, subst, arith, nat_tests, Size, stack_of, part_of}
use Rattle.bk_frames.proofs.Sure.{Spares, spare_of_all, goes_on_surely}
use Rattle.bk_frames.proofs.spare.is_surely_bounded.Goals as goal

pub returns-then-part-spare : goal.returns-then-part-spare
returns-then-part-spare c less =
    let x = c.args.frames.now in
    let spare = c.spare_of-spare.result in
    let is = c.part_of-part.ensures in
    let P : Size → Type 0 = λ z. Spares z (stack_of x) in
    let true_so = c.if-part-spare.true in
    let d : (part_of c.args.now.now).depth < spare.depth = rw (sym is) (grind (arith, nat_tests, true_so)) in
    let n : (part_of c.args.now.now).nodes < spare.nodes = rw (sym is) (grind (arith, nat_tests, less)) in
    goes_on_surely (stack_of x) spare c.args.now.now c.spare_of-spare.ensures.small
    (subst P (sym c.spare_of-spare.ensures.spare) (spare_of_all x.decls.items x.held x.above.items x.holds x.spared)) d n

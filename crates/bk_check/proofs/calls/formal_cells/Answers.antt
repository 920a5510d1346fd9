use Rattle.bk_check.proofs.Terms.{◌≡◌, ◌<◌, ◌++◌, ◌∷◌, [], List, length, map, drop, ap, ◌∙◌, ◌+◌, arith, slice_get, unwrap_or, formal_cells, Worth, Unset, Argument, Cell, Holds, letters_in, cell_in, list_value}
use Rattle.bk_check.proofs.Formals.{formal_step}
use Rattle.bk_check.proofs.calls.formal_cells.Goals as goal

pub loop-i-preserved : goal.loop-i-preserved
loop-i-preserved c =
    let i = c.loop-i.i in
    let lt : i < length c.args.formals.now = grind arith in
    let pushed : c.push.new.self.items ≡ c.loop-i.cells.items ++ Holds (unwrap_or (slice_get c.args.values.now i) (Unset Argument)) ∷ [] = c.in_ok-push.ensures.items ∙ ap (λ (x : Worth). c.loop-i.cells.items ++ Holds x ∷ []) c.argument-value.ensures in
    ap (λ (xs : List Cell). map cell_in xs ++ formal_cells (letters_in (drop (i + 1) c.args.formals.now)) (list_value (drop (i + 1) c.args.values.now))) pushed
    ∙ formal_step c.loop-i.cells.items c.args.formals.now c.args.values.now i lt
    ∙ c.loop-i.invariant

use Rattle.bk_objects.proofs.Terms.{◌≡◌, ℕ, ◌∷◌, ◌++◌, ◌+◌, ◌-◌, ◌≤◌, ◌∙◌, length, map, ap, arith, rules, option_map, written, written_cause, value_in}
use Rattle.bk_objects.proofs.Texts.{parts_more}
use Rattle.bk_objects.proofs.text.add_format.Goals as goal

pub loop-byte-preserved : goal.loop-byte-preserved
loop-byte-preserved c =
    let rest : c.loop-byte.rest.now ≡ c.in-Some.byte.now ∷ c.in-Some.following.now = search rules in
    let more = parts_more c.in-Some.byte.now c.in-Some.following.now c.loop-byte.rest.now _ _ _ rest c.part_at-part.ensures c.further.ensures c.min.ensures in
    let step = rw c.in-Ok.is at c.in_ok-others.ensures.adds in
    let why = rw c.in-Ok.is at c.in_ok-others.ensures.why in
    let n : ℕ = 2 + (length c.args.arguments.now - length c.loop-byte.left.now) in
    let before = c.loop-byte.invariant.2 in
    let fewer : length c.in-Ok.others.now ≤ length c.loop-byte.left.now = rw c.in-Ok.is at c.in_ok-others.ensures.fewer in (
      c.loop-byte.invariant.0
          ∙ ap (λ ps. option_map (λ bytes. c.loop-byte.text.items ++ bytes) (written c.args.store.now ps (map value_in c.loop-byte.left.now))) more
          ∙ step _,
      c.loop-byte.invariant.1
          ∙ ap (λ ps. written_cause c.args.store.now n ps (map value_in c.loop-byte.left.now)) more
          ∙ why n _ _ (omega (arith, fewer, before)),
      omega (arith, fewer, before),
    )

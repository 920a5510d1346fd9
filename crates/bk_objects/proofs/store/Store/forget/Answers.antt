use Rattle.bk_objects.proofs.Terms.{◌≡◌, ◌<◌, length, refl, arith, HoldsAt, Life}
use Rattle.std.proofs.lemmas.List.Elements.{at_read}
use Rattle.bk_objects.proofs.Memories.{Laid-left, memory_of-left, memory_of-kept}
use Rattle.bk_objects.proofs.store.Store.forget.Goals as goal

pub invariant_of-self : goal.invariant_of-self
invariant_of-self c =
    let lives = c.self.inside.lives in
    let lt : c.left-count.result < length lives.items = omega (arith, lives.ok.0) in
    let start : HoldsAt (λ (l : Life). l.start ≡ c.index.result.now.start) lives.items c.left-count.result = at_read lives.items (λ (l : Life). l.start ≡ c.index.result.now.start) _ _ lt c.index.ensures refl in
    rw (c.truncate.ensures.items, c.truncate-then-count-len.ensures.items, c.whole-start.ensures) (Laid-left _ _ _ _ _ c.self.invariant lt start)

pub returns-then-count-len : goal.returns-then-count-len
returns-then-count-len c =
    let lives = c.self.inside.lives in
    let left = rw c.deref.ensures.value at c.left-count.ensures in
    let lt : c.left-count.result < length lives.items = omega (arith, lives.ok.0) in
    let start : HoldsAt (λ (l : Life). l.start ≡ c.index.result.now.start) lives.items c.left-count.result = at_read lives.items (λ (l : Life). l.start ≡ c.index.result.now.start) _ _ lt c.index.ensures refl in
    rw (c.truncate.ensures.items, c.truncate-then-count-len.ensures.items, c.whole-start.ensures, ← c.self.view_is) (memory_of-left _ _ _ _ _ _ c.self.invariant lt start left.dead left.living)

pub returns-else-count-len : goal.returns-else-count-len
returns-else-count-len c =
    let lives = c.self.inside.lives in
    let left = rw c.deref.ensures.value at c.left-count.ensures in
    let all : c.left-count.result ≡ length lives.items = omega (arith, lives.ok.0, left.within) in
    rw (← c.self.view_is) (memory_of-kept _ _ _ _ c.self.invariant (rw all at left.living))

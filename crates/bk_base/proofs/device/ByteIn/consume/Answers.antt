use Rattle.std.proofs.Common.{◌≡◌, ℕ, zero, suc, ◌≤◌, ◌<◌, ◌+◌, Bool, true, false, IsTrue, List, [], ◌∷◌, length, take, drop, get_or, refl, sym, ap, subst, ◌∙◌, arith, drop-cons, IfOk, is_none, is_err, if◌then◌else◌, Result}
use Rattle.std.proofs.lemmas.List.{take_more}
use Rattle.std.specs.Prelude.{Option}
use Rattle.std.specs.Io.KnownBytes.{Consumes}
use Rattle.bk_base.specs.Devices.{byte_list}
use Rattle.bk_base.specs.DeviceLaws.{Consumes-trans, Consumes-nothing}
use Rattle.bk_base.specs.declared.device.Failed.{Failed}
use Rattle.bk_base.proofs.device.ByteIn.consume.Goals as goal

not_true : (x : Bool) → (IsTrue x → ⊥) → x ≡ false
not_true true never = absurd (never refl)
not_true false never = refl

no_more : (k : ℕ) (h : List ℕ) → k < length h → h ≡ [] → ⊥
no_more k h lt e = absurd (omega (arith, lt, ap length e))

none_yet : (n : ℕ) → n ≤ 1 → (n ≡ 1 → ⊥) → n ≡ 0
none_yet zero le never = refl
none_yet (suc n) le never = absurd (never (omega (arith, le)))

pub loop-init : goal.loop-init
loop-init g c = record { delivers = Consumes-nothing _; rest = refl; end = refl; failures = refl }

pub loop-preserved : goal.loop-preserved
loop-preserved g c =
    let s = c.args.self.now in
    let h = g.Self.ByteIn.held s in
    let k = c.loop.counter in
    let lt : k < length h = omega (arith, c.loop-test.true, c.requires.held) in
    let b = get_or h k 0 in
    let on : suc k ≡ k + 1 = omega arith in
    let next = c.next-byte.ensures.held_first b (drop (k + 1) h) (c.loop.invariant.rest ∙ drop-cons h k 0 lt ∙ ap (λ n. b ∷ drop n h) on) in
    let none_told = not_true (g.Self.ByteIn.ended s) (λ told. no_more k h lt (g.met.Self.ByteIn.nothing_after s told).1) in
    let no_fault = none_yet (g.Self.ByteIn.faults s) (g.met.Self.ByteIn.one_failure s) (λ one. no_more k h lt (g.met.Self.ByteIn.failed_empty s one).0) in
    let one = subst (λ (r : Result (Option ℕ) Failed). IfOk r (λ given. Consumes (g.Self.ByteIn.left c.loop.self) (g.Self.ByteIn.left c.next-byte.new.self) (byte_list given))) next.0 c.next-byte.ensures.delivers in
    record {
      delivers = subst (λ (xs : List ℕ). Consumes (g.Self.ByteIn.left s) (g.Self.ByteIn.left c.next-byte.new.self) xs) (sym (take_more h k 0 lt)) (Consumes-trans _ _ _ (take k h) (b ∷ []) c.loop.invariant.delivers one);
      rest = next.1;
      end = subst (λ (r : Result (Option ℕ) Failed). IfOk r (λ given. g.Self.ByteIn.ended c.next-byte.new.self ≡ is_none given)) next.0 c.next-byte.ensures.end ∙ sym none_told;
      failures = c.next-byte.ensures.failures ∙ ap (λ (r : Result (Option ℕ) Failed). if is_err r then 1 else 0) next.0 ∙ sym no_fault;
    }

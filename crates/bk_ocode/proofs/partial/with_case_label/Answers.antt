use Rattle.bk_ocode.proofs.CaseLemmas.{values-push, AreCases-push, typed-push, ◌≡◌, ◌+◌, ◌++◌, ◌∷◌, [], ℕ, List, length, length-append, arith, ap, w32, to_z-of_z, Case}
use Rattle.bk_ocode.proofs.partial.with_case_label.Goals as goal

pub cases_step-requires : goal.cases_step-requires
cases_step-requires c =
    let cases = c.args.draft.cases.items in
    let all = c.push.new.self.items in
    let one : Case = record { value = c.args.value; label = c.in-Some.label } in
    let is : all ≡ cases ++ one ∷ [] = rw (to_z-of_z w32 c.args.value c.requires.1) at c.in-Ok-push.ensures.items in
    let long : length all ≡ length cases + 1 = omega (arith, ap (λ (l : List Case). length l) is, length-append cases (one ∷ [])) in
    let begun = c.requires.0.0 in
    record {
      default = begun.default;
      cases = AreCases-push cases all one is begun.cases c.in-Some.ensures.found.0 c.requires.2 (omega (arith, long, c.requires.0.1, begun.counted));
      typed = typed-push cases all one is begun.typed c.requires.1;
      values = λ value. values-push value cases all one _ _ is (begun.values value) (rw (to_z-of_z w32 c.args.value c.requires.1) at (c.in-Ok.ensures.updates.0 value));
      counted = begun.counted;
      due = omega (arith, long, c.requires.0.1);
    }

use Rattle.std.proofs.Common.{rules, arith, ◌≡◌, ◌∙◌, ℕ, ◌<◌, ◌≤◌, ◌+◌, length, take, get_or, slice_get, set, List, [], ◌∷◌, ◌++◌, Some, None, sym, inl, inr}
use Rattle.std.proofs.lemmas.Grind.{common_steps}
use Rattle.std.proofs.lemmas.List.{take_more, take_more_set}
use Rattle.std.proofs.lemmas.Option.{slice_get_cases, get_or_from_slice_get}
use Rattle.bk_machine.specs.State.{store_of}
use Rattle.bk_web.proofs.stepping.copy_words.Goals as goal
use Rattle.bk_web.proofs.stepping.copy_words.Goals.{else-loop-at-test, then-loop-at-test+in_default}

-- an element that is there
within : (xs : List ℕ) (i x : ℕ) → slice_get xs i ≡ Some x → (i < length xs) × (get_or xs i 0 ≡ x)
within xs i x is = elim (slice_get_cases xs i).1 [
  | inl some ↦ (some.1, get_or_from_slice_get xs i x 0 is)
  | inr none ↦ absurd (let bad = sym is ∙ none.1 in cc)
]

-- one that is not
past : (xs : List ℕ) (i : ℕ) → slice_get xs i ≡ None → length xs ≤ i
past xs i is = elim (slice_get_cases xs i).1 [
  | inl some ↦ absurd (let bad = sym is ∙ some.2 in cc)
  | inr none ↦ none.0
]

-- one more is copied
copied : (to from : List ℕ) (i x : ℕ) → i < length to → slice_get from i ≡ Some x → take i to ≡ take i from → take (i + 1) (set to i x) ≡ take (i + 1) from
copied to from i x here is same =
    let there = within from i x is in
    take_more_set to i x here ∙ (λ j. same j ++ sym there.1 j ∷ []) ∙ sym (take_more from i 0 there.0)

pub overflow_add-at : goal.overflow_add-at
overflow_add-at c =
    let there = within (store_of c.args.machine.now) c.loop-at.at c.in-Some.word (search rules) in
    grind (arith, common_steps)

pub loop-at-preserved : goal.loop-at-preserved
loop-at-preserved c =
    let got : slice_get (store_of c.args.machine.now) c.loop-at.at ≡ Some c.in-Some.word = search rules in
    let there = within (store_of c.args.machine.now) c.loop-at.at c.in-Some.word got in
    let here : c.loop-at.at < length c.loop-at.to = search rules in
    let more = copied c.loop-at.to (store_of c.args.machine.now) c.loop-at.at c.in-Some.word here got c.loop-at.invariant.3 in
    (search rules, grind (arith, common_steps), omega (arith, there.0), grind (arith, common_steps))

pub returns-clause-count : goal.returns-clause-count
returns-clause-count c = elim c.loop-at-test.branch [
  | else-loop-at-test w ↦ grind (arith, common_steps)
  | then-loop-at-test+in_default w ↦
      let none : slice_get (store_of c.args.machine.now) c.loop-at.at ≡ None = search rules in
      let over = past (store_of c.args.machine.now) c.loop-at.at none in
      grind (arith, common_steps)
]

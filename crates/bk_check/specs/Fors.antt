-- FOR: what its test and its step come to; l is the position of its variable's name.
use Rattle.std.specs.Prelude.{ℕ}
use Rattle.bk_meaning.specs.Values.{Value}
use Rattle.bk_meaning.specs.Memory.{Memory}
use Rattle.bk_meaning.specs.World.{World, Outcome, Done, done, ends, divide_by_zero, undefined, either, with, remembering}
use Rattle.bk_meaning.specs.Operators.{operate}
use Rattle.bk_meaning.specs.Expressions.{judged}
use Rattle.bk_meaning.specs.Loops.{relation}
use Rattle.bk_objects.specs.Views.{cause_in}
use Rattle.bk_check.specs.declared.fors.Tested.{Tested}
use Rattle.bk_check.specs.declared.fors.Tested.TheVariants as t
use Rattle.bk_check.specs.declared.fors.Stepped.{Stepped}
use Rattle.bk_check.specs.declared.fors.Stepped.TheVariants as s

abbrev pub tested : ℕ → (World → Outcome Done) → Tested → World → Outcome Done
tested l go (t.Holds b) w = either b go done w
tested l go t.DivideByZero w = ends (divide_by_zero l) w
tested l go (t.Undefined why) w = undefined l (cause_in why) w

abbrev pub truth_then : ℕ → (World → Outcome Done) → Value → World → Outcome Done
truth_then l go v w = with (judged l v w) (λ b w. either b go done w)

abbrev pub limit_then : ℕ → (World → Outcome Done) → ℕ → Value → Value → World → Outcome Done
limit_then l go step limit v w = with (operate l (relation step) v limit w) (truth_then l go)

abbrev pub stepped : ℕ → Stepped → Memory → World → Outcome Done
stepped l s.Done m w = done (remembering m w)
stepped l s.DivideByZero m w = ends (divide_by_zero l) (remembering m w)
stepped l (s.Undefined why) m w = undefined l (cause_in why) (remembering m w)

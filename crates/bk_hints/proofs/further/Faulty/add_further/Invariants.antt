use Rattle.std.proofs.Common.{◌≤◌, length}
use Rattle.bk_hints.specs.Hints.{AddsFurther}
use Rattle.bk_hints.proofs.further.Faulty.add_further.Given as goal

abbrev pub invariant-loop : goal.invariant-loop
invariant-loop l =
    AddsFurther l.self.lines.now.start l.self.text.now l.initial.pages.items l.pages.items
    × (length l.initial.pages.items ≤ 20 → length l.pages.items ≤ 20)

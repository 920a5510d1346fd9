use Rattle.bk_lines.specs.Places.{Extends}
use Rattle.bk_lines.proofs.shown.put_carets.Given as goal

abbrev pub invariant-loop-i : goal.invariant-loop-i
invariant-loop-i l = Extends l.initial.page.items l.page.items

use Rattle.bk_lines.specs.Places.{Extends}
use Rattle.bk_lines.proofs.shown.put_blanks.Given as goal

abbrev pub invariant-loop : goal.invariant-loop
invariant-loop l = Extends l.initial.page.items l.page.items

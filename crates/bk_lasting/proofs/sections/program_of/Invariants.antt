use Rattle.bk_lasting.proofs.Terms.{◌≡◌, ◌++◌, drop, map, declarations_of, of_sections, program_of, listed}
use Rattle.bk_lasting.proofs.sections.program_of.Given as goal

abbrev pub invariant-loop-section : goal.invariant-loop-section
invariant-loop-section l = listed l.list ++ of_sections l.next (map declarations_of (drop l.section-index l.sections)) ≡ program_of (map declarations_of l.sections)

use Rattle.bk_lasting.proofs.Terms.{◌≡◌, ◌++◌, length, drop, map, objects_from, first_memory, lasting_in}
use Rattle.bk_lasting.proofs.memory.first_memory.Given as goal

abbrev pub invariant-loop-lasting : goal.invariant-loop-lasting
invariant-loop-lasting l = l.store ++ objects_from (map lasting_in l.program) (length l.store) (map lasting_in (drop l.lasting-index l.program)) ≡ first_memory (map lasting_in l.program)

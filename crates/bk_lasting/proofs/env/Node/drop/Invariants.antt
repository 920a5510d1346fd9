use Rattle.bk_lasting.proofs.Terms.{length, names_in}
use Rattle.bk_lasting.proofs.env.Node.drop.Given as goal

abbrev pub decreases-loop-rest : goal.decreases-loop-rest
decreases-loop-rest l = length (names_in l.rest)

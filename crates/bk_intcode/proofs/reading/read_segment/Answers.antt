use Rattle.bk_intcode.proofs.AnswerLemmas.{answer_says, answer_stands}
use Rattle.bk_intcode.proofs.reading.read_segment.Goals as goal

pub returns-clause-applies : goal.returns-clause-applies
returns-clause-applies g c = answer_stands _ _ _ c.next_segment.result c.next_segment.ensures.answers

pub returns-clause-says : goal.returns-clause-says
returns-clause-says g c = λ all is short.
    answer_says _ _ _ all is short (λ reported. (g.met.I.ByteIn.nothing_after c.next_segment.new.input reported).0) c.next_segment.result c.next_segment.ensures.answers

use Rattle.bk_ocode.proofs.AnswerLemmas.{answer_says, answer_stands}
use Rattle.bk_ocode.proofs.reading.read_section.Goals as goal

pub returns-clause-applies : goal.returns-clause-applies
returns-clause-applies g c = answer_stands _ _ _ c.next_section.result c.next_section.ensures.answers

pub returns-clause-says : goal.returns-clause-says
returns-clause-says g c = λ all is short.
    answer_says _ _ _ all is short (λ reported. (g.met.I.ByteIn.nothing_after c.next_section.new.input reported).0) c.next_section.result c.next_section.ensures.answers

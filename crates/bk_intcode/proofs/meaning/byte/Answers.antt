use Rattle.bk_intcode.proofs.WordLemmas.{byte_fault}
use Rattle.bk_intcode.proofs.meaning.byte.Goals as goal

pub returns-in_default-clause-fault : goal.returns-in_default-clause-fault
returns-in_default-clause-fault c = byte_fault c.args.bytes.now c.in_default.ensures.none

use Rattle.bk_ocode.proofs.SectionProp.{section_whole}
use Rattle.bk_ocode.proofs.section.Ocode.stmts.Goals as goal

pub returns-clause-whole : goal.returns-clause-whole
returns-clause-whole c = rw c.as_slice.ensures.value (section_whole c.args.self.now).0

pub returns-clause-typed : goal.returns-clause-typed
returns-clause-typed c = rw c.as_slice.ensures.value (section_whole c.args.self.now).1

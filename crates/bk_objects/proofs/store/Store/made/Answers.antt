use Rattle.std.proofs.Common.{sym}
use Rattle.bk_objects.proofs.Memories.{length-memory_of}
use Rattle.bk_objects.proofs.store.Store.made.Goals as goal

pub returns : goal.returns
returns c = rw (← c.self.view_is) (sym (length-memory_of _ _ _))

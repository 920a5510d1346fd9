-- What the parts of a segment that is being read keep.
use Rattle.std.specs.Prelude.{◌≡◌, ℕ}
use Rattle.std.specs.BTreeSet.{contains}
use Rattle.std.specs.Ordering.{nat_cmp}
use Rattle.bk_machine.specs.Segment.{sets, gives_frame}
use Rattle.bk_intcode.specs.declared.draft.Draft.{Draft}

-- The labels are those that the items set, and framed says whether one of them gives the largest frame.
pub record IsDraft (draft : Draft) : Type 0 where
  pub labels : (label : ℕ) → contains nat_cmp draft.labels label ≡ sets label draft.items.items
  pub framed : draft.framed ≡ gives_frame draft.items.items

-- What the parts of a section that is being read keep.
use Rattle.std.specs.Prelude.{◌≡◌, ◌≤◌, length}
use Rattle.bk_base.specs.declared.limit.TheConstants.{FRAME_WORDS, OCODE_WORDS}
use Rattle.bk_ocode.specs.KnownUses.{uses_of}
use Rattle.bk_ocode.specs.Context.{Context, context_of}
use Rattle.bk_ocode.specs.declared.draft.Draft.{Draft}

-- what the parts say of the statements so far
abbrev pub context_in : Draft → Context
context_in draft = record {
  count = length draft.stmts.items;
  words = draft.words;
  position = draft.position;
  depth = draft.depth;
  start = draft.start;
  uses = uses_of draft.uses;
}

-- They say what the statements leave, within the limits.
pub record IsDraft (draft : Draft) : Type 0 where
  pub context : context_in draft ≡ context_of draft.stmts.items
  pub depth_fits : draft.depth ≤ FRAME_WORDS
  pub words_fit : draft.words ≤ OCODE_WORDS
  pub start_fits : draft.start ≤ length draft.stmts.items

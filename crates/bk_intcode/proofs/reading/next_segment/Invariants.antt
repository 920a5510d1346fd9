use Rattle.bk_intcode.proofs.Terms.{◌≡◌, ◌-◌, ◌<◌, ◌≤◌, ℕ, List, [], IsTrue, length, map, Consumes, Keeps, INPUT_BYTES, INTCODE_ITEMS, item_text, words_of, EndsInBlank, IsPartial, IsParted}
use Rattle.bk_intcode.specs.Drafts.{IsDraft}
use Rattle.bk_intcode.proofs.reading.next_segment.Given as goal

abbrev pub invariant-loop-found : goal.invariant-loop-found
invariant-loop-found g l = record {
  taken : (front : List ℕ) × Consumes (g.I.ByteIn.left l.initial.input) (g.I.ByteIn.left l.input) front × (l.taken ≡ length front)
      × (words_of front ≡ map item_text l.draft.items.items) × IsParted front × EndsInBlank front;
  draft : IsDraft l.draft;
  begun : IsPartial l.draft.items.items;
  few : length l.draft.items.items ≤ INTCODE_ITEMS;
  clear : 0 < l.taken → g.I.ByteIn.faults l.input ≡ 0;
  over : IsTrue (g.I.ByteIn.ended l.initial.input) → IsTrue (g.I.ByteIn.ended l.input) × (l.draft.items.items ≡ []);
  again : g.I.ByteIn.faults l.initial.input ≡ 1 → (g.I.ByteIn.faults l.input ≡ 1) × Keeps (g.I.ByteIn.left l.initial.input) (g.I.ByteIn.left l.input);
}

abbrev pub decreases-loop-found : goal.decreases-loop-found
decreases-loop-found g l = INPUT_BYTES - l.taken

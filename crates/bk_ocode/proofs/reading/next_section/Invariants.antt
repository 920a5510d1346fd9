use Rattle.bk_ocode.proofs.Terms.{◌≡◌, ◌+◌, ◌-◌, ◌<◌, ◌≤◌, ◌++◌, ℕ, List, false, IsTrue, length, Keeps, INPUT_BYTES, OCODE_STATEMENTS, OCODE_WORDS, Reads, stmt_words, context_of, misplaced, Stmt, section_words, IsPartial, IsDraft, IsPartialPart, part_words}
use Rattle.bk_ocode.proofs.reading.next_section.Given as goal

abbrev pub invariant-loop-alloc : goal.invariant-loop-alloc
invariant-loop-alloc g l = record {
  read : Reads (g.I.ByteIn.left l.initial.input) (g.I.ByteIn.left l.input) (g.I.ByteIn.ended l.input) l.taken (section_words l.draft.stmts.items ++ part_words l.begun);
  draft : IsDraft l.draft;
  begun : IsPartial l.draft.stmts.items;
  part : IsPartialPart l.begun;
  placed : (s : Stmt) (rest : List (List ℕ)) → 0 < length (part_words l.begun) → stmt_words s ≡ part_words l.begun ++ rest → misplaced (context_of l.draft.stmts.items) s ≡ false;
  counted : l.words ≡ length (part_words l.begun);
  low : l.draft.words + l.words ≤ OCODE_WORDS + 1;
  few : length l.draft.stmts.items ≤ OCODE_STATEMENTS;
  some : 0 < l.words → 0 < l.taken;
  clear : 0 < l.taken → g.I.ByteIn.faults l.input ≡ 0;
  over : IsTrue (g.I.ByteIn.ended l.initial.input) → IsTrue (g.I.ByteIn.ended l.input) × (length l.draft.stmts.items ≡ 0) × (l.words ≡ 0);
  again : g.I.ByteIn.faults l.initial.input ≡ 1 → (g.I.ByteIn.faults l.input ≡ 1) × (l.words ≡ 0) × Keeps (g.I.ByteIn.left l.initial.input) (g.I.ByteIn.left l.input);
}

abbrev pub decreases-loop-alloc : goal.decreases-loop-alloc
decreases-loop-alloc g l = INPUT_BYTES - l.taken

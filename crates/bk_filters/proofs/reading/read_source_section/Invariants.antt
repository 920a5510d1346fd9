use Rattle.bk_filters.proofs.Terms.{◌≡◌, ◌⊎◌, ◌+◌, ◌≤◌, length, Consumes, INPUT_BYTES, cut_after, Asked}
use Rattle.bk_lex.specs.declared.cutter.Cut.TheVariants.{More}
use Rattle.bk_filters.proofs.reading.read_source_section.Given as goal

abbrev pub invariant-loop : goal.invariant-loop
invariant-loop g l = record {
  delivered : Consumes (g.C.ByteIn.left l.initial.source) (g.C.ByteIn.left l.source) l.lexer.bytes;
  line : l.lexer.from ≡ l.fn.from;
  goes_on : cut_after l.lexer.bytes ≡ More;
  asked : Asked l.lexer.bytes;
  taken : l.taken ≡ l.initial.taken + length l.lexer.bytes;
  counted : l.counter ≤ length l.lexer.bytes;
  within : length l.lexer.bytes ≤ 1048576;
  most : l.taken ≤ INPUT_BYTES;
  readable : (1 ≤ length l.lexer.bytes) ⊎ (g.C.ByteIn.faults l.initial.source ≡ 0) → g.C.ByteIn.faults l.source ≡ 0;
}

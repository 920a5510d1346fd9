use Rattle.smallvec.specs.SmallVec.{small_vec_len}
use Rattle.bk_grammar.proofs.Terms.{◌≡◌, ◌≤◌, take, length, upper_name}
use Rattle.bk_grammar.proofs.spelling.name.Given as goal

abbrev pub invariant-loop-letter : goal.invariant-loop-letter
invariant-loop-letter l = record {
  made : l.letters.items ≡ upper_name (take l.letter-index l.text);
  count : small_vec_len l.letters ≡ l.letter-index;
  fits : length l.text ≤ l.letters.capacity;
}

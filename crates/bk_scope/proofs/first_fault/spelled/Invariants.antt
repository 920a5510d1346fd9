use Rattle.bk_scope.proofs.Terms.{◌≡◌, string_bytes, take, encode_utf8_all}
use Rattle.bk_scope.proofs.first_fault.spelled.Given as goal

abbrev pub invariant-loop-byte : goal.invariant-loop-byte
invariant-loop-byte l = string_bytes l.text ≡ encode_utf8_all (take l.byte-index l.name)

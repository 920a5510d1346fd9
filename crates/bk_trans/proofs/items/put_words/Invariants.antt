use Rattle.bk_trans.proofs.Terms.{◌≡◌, ◌++◌, map, drop, signed, expressions_in, DataNumber, constants_of}
use Rattle.bk_trans.proofs.items.put_words.Given as goal

abbrev pub invariant-loop-expr : goal.invariant-loop-expr
invariant-loop-expr l = record {
  words : l.data_words.items ++ map (λ x. DataNumber (signed x)) (constants_of (expressions_in (drop l._expr-index l.exprs)) l.left).part ≡ l.fn.data_words.items ++ map (λ x. DataNumber (signed x)) (constants_of (expressions_in l.exprs) l.fn.left).part;
  left : (constants_of (expressions_in (drop l._expr-index l.exprs)) l.left).left ≡ (constants_of (expressions_in l.exprs) l.fn.left).left;
}

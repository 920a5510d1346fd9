use Rattle.bk_lasting.proofs.Terms.{◌≡◌, ◌++◌, drop, expressions_in, constant_words, env_in}
use Rattle.bk_lasting.proofs.walk.constant_words.Given as goal

abbrev pub invariant-loop-expr : goal.invariant-loop-expr
invariant-loop-expr l = l.words.items ++ constant_words (env_in l.env) (expressions_in (drop l.expr-index l.exprs)) ≡ constant_words (env_in l.env) (expressions_in l.exprs)

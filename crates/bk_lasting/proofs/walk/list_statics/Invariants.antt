use Rattle.bk_lasting.proofs.Terms.{◌≡◌, ◌++◌, drop, items_in, static_words, env_in, listed}
use Rattle.bk_lasting.proofs.walk.list_statics.Given as goal

abbrev pub invariant-loop-expr : goal.invariant-loop-expr
invariant-loop-expr l = listed l.list ++ static_words (env_in l.env) (items_in (drop l.expr-index l.items)) ≡ listed l.fn.list ++ static_words (env_in l.env) (items_in l.items)

use Rattle.bk_syntax.proofs.Terms.{◌++◌, ◌∷◌, [], sym, subst, symbol_of, Stack, state, tags, AfterSymbols}
use Rattle.bk_syntax.proofs.Reported.{limited}
use Rattle.bk_syntax.proofs.parser.Parser.advance.Goals as goal

pub returns-clause-goes : goal.returns-clause-goes
returns-clause-goes c = λ u b.
    let t = symbol_of c.args.token.now in
    let P : Stack → Type 0 = λ z. AfterSymbols (u ++ t ∷ []) (tags c.take.new.opened.items) (state z c.take.new.self.now) in
    rw c.limit.ensures.now (limited c.limit.result c.take.new.self.now c.limit.new.self.frames c.take.new.opened.items u t (subst P (sym c.limit.ensures.stack) (c.in_ok-take.ensures u b)) (rw c.limit.ensures.now at c.limit.ensures.passed))

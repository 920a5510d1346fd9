use Rattle.bk_syntax.proofs.Terms.{◌≡◌, vec_len, stack_of, after}
use Rattle.bk_syntax.proofs.parser.Parser.settle.Given as goal
use Rattle.bk_grammar.specs.Placed.{position_at}

abbrev pub invariant-loop : goal.invariant-loop
invariant-loop l =
    after (stack_of l.self.frames) l.self.now (position_at l.token) l.token.text.now l.token.kind ≡ after (stack_of l.fn.self.frames) l.fn.self.now (position_at l.token) l.token.text.now l.token.kind

abbrev pub decreases-loop : goal.decreases-loop
decreases-loop l = vec_len l.self.frames.above

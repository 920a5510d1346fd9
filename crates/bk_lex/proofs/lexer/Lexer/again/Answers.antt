use Rattle.bk_lex.proofs.LexerLemmas.{goes_first}
use Rattle.bk_lex.proofs.lexer.Lexer.again.Goals as goal

pub invariant_of-self : goal.invariant_of-self
invariant_of-self c = rw (c.clear.ensures.items, c.clear-2.ensures.items, c.start-self-inside.ensures) (goes_first c.args.from)

use Rattle.bk_syntax.proofs.Terms.{position_of, Result, refl, sym, subst, arith, symbol_of, ParseError, stack_of, state, answered, reached, Advances}
use Rattle.bk_syntax.proofs.Following.{closed, not_closed}
use Rattle.bk_syntax.proofs.parser.Parser.close.Goals as goal

pub returns-in-Some : goal.returns-in-Some
returns-in-Some c = λ u b.
    let t = symbol_of c.args.token.now in
    let P : Result Unit ParseError → Type 0 = λ r. Advances c.repeat_step.new.self.frames c.truncate.new.self.items (answered (reached r c.repeat_step.new.self.now) (position_of t)) u t in
    subst P (sym c.error_of.ensures) (closed c.repeat_step.result c.repeat_step.new.self.now c.repeat_step.new.self.frames c.truncate.new.self.items c.args.opened.now.items c.as_slice.result.now u t (state (stack_of c.args.self.now.frames) c.args.self.now.now)
    c.in-Some.times c.saturating_sub.result c.requires c.as_slice.ensures.value (c.in-Some.ensures t) (omega arith) c.truncate.ensures.items c.repeat_step.ensures b)

pub returns-in-None : goal.returns-in-None
returns-in-None c = λ u b.
    let t = symbol_of c.args.token.now in
    (refl, not_closed c.args.opened.now.items c.as_slice.result.now u t (state (stack_of c.args.self.now.frames) c.args.self.now.now) c.requires c.as_slice.ensures.value (c.in-None.ensures t) b)

use Rattle.bk_syntax.proofs.Terms.{sym, ap, ◌∙◌, goes, limit, unfinished_on, stack_of, limit_phrase, limit_member}
use Rattle.bk_syntax.proofs.parser.Parser.complete_part.Goals as goal

pub complete-requires-clause-stops : goal.complete-requires-clause-stops
complete-requires-clause-stops c =
    let st = stack_of c.args.self.now.frames in
    sym (ap (λ b. goes (limit (unfinished_on b st)) c.args.token.now.kind) c.in-OpenExpression.is) ∙ c.requires.stops

pub complete_phrase-requires-clause-stops : goal.complete_phrase-requires-clause-stops
complete_phrase-requires-clause-stops c =
    let st = stack_of c.args.self.now.frames in
    ap (λ n. goes n c.args.token.now.kind) (sym (limit_phrase c.in-Phrase.phrase st))
    ∙ sym (ap (λ b. goes (limit (unfinished_on b st)) c.args.token.now.kind) c.in-Phrase.is) ∙ c.requires.stops

pub complete_member-requires-clause-stops : goal.complete_member-requires-clause-stops
complete_member-requires-clause-stops c =
    let st = stack_of c.args.self.now.frames in
    ap (λ n. goes n c.args.token.now.kind) (sym (limit_member c.in-Member.member st))
    ∙ sym (ap (λ b. goes (limit (unfinished_on b st)) c.args.token.now.kind) c.in-Member.is) ∙ c.requires.stops

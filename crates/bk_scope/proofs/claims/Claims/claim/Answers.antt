use Rattle.std.proofs.Common.{rules}
use Rattle.bk_scope.proofs.Terms.{◌∙◌, sym, ap, not, is_claimed, claim_of}
use Rattle.bk_scope.proofs.Claimed.{had, claims_in-insert}
use Rattle.bk_scope.proofs.claims.Claims.claim.Goals as goal

pub returns-in_err-insert-clause-absent : goal.returns-in_err-insert-clause-absent
returns-in_err-insert-clause-absent c =
    let was = sym (had c.args.claim c.self.inside.in_turn.keys ∙ ap (is_claimed (claim_of c.args.claim)) c.self.view_is) in
    search (rules, was)

pub returns-clause-first : goal.returns-clause-first
returns-clause-first c = c.in_ok-insert.ensures.added ∙ ap not (had c.args.claim c.self.inside.in_turn.keys ∙ ap (is_claimed (claim_of c.args.claim)) c.self.view_is)

pub returns-clause-claims : goal.returns-clause-claims
returns-clause-claims c =
    let more = claims_in-insert c.args.claim c.self.inside.in_turn.keys c.in_ok-insert.field-0 c.in_ok-insert.ensures.added in
    search (rules, more)

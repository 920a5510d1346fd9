use Rattle.bk_grammar.specs.Placed.{position_at}
use Rattle.bk_syntax.proofs.Terms.{◌+◌, Err, sym, ap, ◌∙◌, line_in, take, arith, symbols_of, stack_of, state, tags, reported, empty_bounded}
use Rattle.bk_syntax.proofs.Following.{from_nothing, one_further, all_read}
use Rattle.bk_syntax.specs.Parsing.{without_place}
use Rattle.bk_syntax.proofs.Reported.{behind_completes, reported_of, ended, parses_unplaced, gives_only, section_within}
use Rattle.bk_syntax.proofs.parser.parse_placed.Goals as goal

pub loop-token-init : goal.loop-token-init
loop-token-init c = (
  from_nothing c.new.result.items c.in_ok-above.above.items c.new-opened.result.items c.new.ensures.items c.in_ok-above.ensures.items c.new-opened.ensures.items,
  empty_bounded c.new.result.items c.in_ok-above.above.items c.new.ensures.items c.in_ok-above.ensures.items,
)

pub loop-token-preserved : goal.loop-token-preserved
loop-token-preserved c =
    let ts = c.args.tokens.now in
    let i = c.loop-token.token-index in
    let further = rw c.in_default.is at c.advance.ensures in
    let opens = tags c.advance.new.opened.items in
    let x = state (stack_of c.advance.new.self.frames) c.advance.new.self.now in
    let after = one_further ts i c.token-item.result opens x c.loop-token-test.true c.token-item.is (further.goes (symbols_of (take i ts)) c.loop-token.invariant.0) in (
      after,
      further.bounded (behind_completes (symbols_of (take (i + 1) ts)) opens x after),
    )

pub returns-in-Err : goal.returns-in-Err
returns-in-Err c =
    let ts = c.args.tokens.now in
    let i = c.loop-token.token-index in
    let r = reported c.in-Err.error (position_at c.token-item.result) in
    let p = reported_of r c.advance.new.self.frames c.advance.new.opened.items ts i c.token-item.result c.args.end
    (tags c.loop-token.opened.items) (state (stack_of c.loop-token.parser.frames) c.loop-token.parser.now) c.loop-token-test.true c.token-item.is
    (ap line_in (sym c.position_of.ensures.position) ∙ c.position_of.ensures.line) c.loop-token.invariant.0 c.loop-token.invariant.1
    (c.in-Err.ensures.goes (symbols_of (take i ts)) c.loop-token.invariant.0) in
    rw (c.reported.ensures, c.position_of.ensures.position) (record { parses = p; within = tt; only = λ ds is. gives_only (without_place (Err r)) (symbols_of ts) c.args.end (parses_unplaced (Err r) (symbols_of ts) c.args.end p) ds is })

pub returns : goal.returns
returns c =
    let ts = c.args.tokens.now in
    let x = state (stack_of c.loop-token.parser.frames) c.loop-token.parser.now in
    let p = ended c.at_end.result (symbols_of ts) (tags c.loop-token.opened.items) x c.args.end (ap line_in (sym c.new-last.ensures.position) ∙ c.new-last.ensures.line)
    (all_read ts c.loop-token.token-index (tags c.loop-token.opened.items) x (omega arith) c.loop-token.invariant.0) c.loop-token.invariant.1 (rw c.new-last.ensures.position at c.at_end.ensures) in
    record { parses = p; within = section_within c.at_end.result; only = λ ds is. gives_only (without_place c.at_end.result) (symbols_of ts) c.args.end (parses_unplaced c.at_end.result (symbols_of ts) c.args.end p) ds is }

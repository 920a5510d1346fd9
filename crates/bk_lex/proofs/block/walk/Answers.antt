use Rattle.bk_lex.proofs.Terms.{◌+◌, ◌++◌, take, sym, ap, arith, subst, State, stepped}
use Rattle.bk_lex.specs.Lexers.{IsRefused, parts, marks_of}
use Rattle.bk_lex.proofs.Sound.{within_bytes}
use Rattle.bk_lex.proofs.BlockLemmas.{byte_refused, byte_ended, byte_still, piece_before, take_goes}
use Rattle.bk_lex.proofs.block.walk.Goals as goal

pub returns-in-Err-clause-progress : goal.returns-in-Err-clause-progress
returns-in-Err-clause-progress c = (
  omega (arith, c.if-at-bytes.false),
  λ text line e g.
      let here = c.take_run-at.ensures.goes text line (marks_of c.take_letter-at.new.pieces) (c.take_letter-at.ensures.goes text line e (c.take_spaces-at.ensures.goes text line e (c.loop-at.invariant.goes text line e g))) in
      subst (λ (s : State). IsRefused (parts (text ++ take (c.take_run-at.result + 1) c.args.bytes.now) line (marks_of c.take_letter-at.new.pieces)) s c.in-Err.fault) (sym c.in-Err.ensures.keeps)
      (byte_refused text c.args.bytes.now line _ _ c.take_run-at.result (omega (arith, c.if-at-bytes.false)) here c.in-Err.fault c.in-Err.ensures.answers),
)

pub returns-then-is_dot-clause-progress : goal.returns-then-is_dot-clause-progress
returns-then-is_dot-clause-progress c = (
  omega (arith, c.if-at-bytes.false),
  λ text line e g.
      let here = c.take_run-at.ensures.goes text line (marks_of c.take_letter-at.new.pieces) (c.take_letter-at.ensures.goes text line e (c.take_spaces-at.ensures.goes text line e (c.loop-at.invariant.goes text line e g))) in
      byte_ended text c.args.bytes.now line _ _ c.take_run-at.result (omega (arith, c.if-at-bytes.false)) here (stepped c.take_after_run.new.state c.in-Ok.act) c.in-Ok.ensures.answers
      (c.args.before + c.take_run-at.result) (ap (λ n. n + c.take_run-at.result) e) (marks_of c.take.new.self) c.in_ok-take.ensures c.if-is_dot.ensures,
)

pub loop-at-preserved : goal.loop-at-preserved
loop-at-preserved c =
    record {
      within = omega (arith, c.if-at-bytes.false);
      counts = omega (arith, c.loop-at.invariant.counts, c.take_spaces-at.ensures.counts, c.take_letter-at.ensures.counts, c.take_run-at.ensures.counts, within_bytes c.take_run-at.new.state.bytes _ (stepped c.take_after_run.new.state c.in-Ok.act) (sym c.in-Ok.ensures.answers));
      order = let p = piece_before (marks_of c.take_letter-at.new.pieces) (marks_of c.take.new.self) c.in-Ok.act _ (c.args.before + c.take_run-at.result) c.in_ok-take.ensures (omega (arith, c.take_letter-at.ensures.order, c.take_run-at.ensures.within)) in omega (arith, p);
      goes = λ text line e g.
          let here = c.take_run-at.ensures.goes text line (marks_of c.take_letter-at.new.pieces) (c.take_letter-at.ensures.goes text line e (c.take_spaces-at.ensures.goes text line e (c.loop-at.invariant.goes text line e g))) in
          byte_still text c.args.bytes.now line _ _ c.take_run-at.result (omega (arith, c.if-at-bytes.false)) here (stepped c.take_after_run.new.state c.in-Ok.act) c.in-Ok.ensures.answers
          (c.args.before + c.take_run-at.result) (ap (λ n. n + c.take_run-at.result) e) (marks_of c.take.new.self) c.in_ok-take.ensures c.if-is_dot.ensures;
    }

pub returns-then-at-bytes-clause-progress : goal.returns-then-at-bytes-clause-progress
returns-then-at-bytes-clause-progress c = (
  c.take_run-at.ensures.within.1,
  λ text line e g. c.take_run-at.ensures.goes text line (marks_of c.take_letter-at.new.pieces) (c.take_letter-at.ensures.goes text line e (c.take_spaces-at.ensures.goes text line e (c.loop-at.invariant.goes text line e g))),
)

pub returns-in-Err-clause-asked : goal.returns-in-Err-clause-asked
returns-in-Err-clause-asked c = λ text line e g k lt.
    let here = c.take_run-at.ensures.goes text line (marks_of c.take_letter-at.new.pieces) (c.take_letter-at.ensures.goes text line e (c.take_spaces-at.ensures.goes text line e (c.loop-at.invariant.goes text line e g))) in
    take_goes text c.args.bytes.now k c.take_run-at.result _ (omega (arith, lt)) here.state

pub returns-then-is_dot-clause-asked : goal.returns-then-is_dot-clause-asked
returns-then-is_dot-clause-asked c = λ text line e g k lt.
    let here = c.take_run-at.ensures.goes text line (marks_of c.take_letter-at.new.pieces) (c.take_letter-at.ensures.goes text line e (c.take_spaces-at.ensures.goes text line e (c.loop-at.invariant.goes text line e g))) in
    take_goes text c.args.bytes.now k c.take_run-at.result _ (omega (arith, lt)) here.state

pub returns-then-at-bytes-clause-asked : goal.returns-then-at-bytes-clause-asked
returns-then-at-bytes-clause-asked c = λ text line e g k lt.
    let here = c.take_run-at.ensures.goes text line (marks_of c.take_letter-at.new.pieces) (c.take_letter-at.ensures.goes text line e (c.take_spaces-at.ensures.goes text line e (c.loop-at.invariant.goes text line e g))) in
    take_goes text c.args.bytes.now k c.take_run-at.result _ (omega (arith, lt)) here.state

pub returns-after-loop-at-clause-asked : goal.returns-after-loop-at-clause-asked
returns-after-loop-at-clause-asked c = λ text line e g k lt. take_goes text c.args.bytes.now k c.loop-at.at _ (omega (arith, lt)) (c.loop-at.invariant.goes text line e g).state

use Rattle.std.proofs.Common.{inl}
use Rattle.bk_checker.proofs.Terms.{refl, sym, subst, Keeps-refl, value_in, program_in, CheckFault, Blames, Flushed}
use Rattle.bk_checker.proofs.Running.{nothing_yet, exchanged_none, exchanged_still, checks_start, checks_part, checks_deep, checks_none, start_found, no_start_found, ok_map, err_map, if_err, on_ok_map}
use Rattle.bk_checker.proofs.checker.check_program.Goals as goal

pub returns-in_err-m-clause-part : goal.returns-in_err-m-clause-part
returns-in_err-m-clause-part g c = if_err c.from_residual.result (λ sections is. nothing_yet sections c.args.turns _ _ (exchanged_none _))

pub returns-in-Value-clause-checks : goal.returns-in-Value-clause-checks
returns-in-Value-clause-checks g c =
    let p = program_in c.args.program.now in
    ok_map _ _ c.check_start.result (λ report runs sections is.
    checks_start sections p c.args.turns is (value_in c.in-Value.start) report.verdict report.stop.at _ _ (start_found p c.args.turns c.in_ok-m.m c.in_ok-m.ensures c.read.result c.read.ensures c.in-Value.start c.in-Value.is) (runs c.args.turns c.in_ok-m.ensures)) c.check_start.ensures.shows

pub returns-in-Value-clause-part : goal.returns-in-Value-clause-part
returns-in-Value-clause-part g c =
    let p = program_in c.args.program.now in
    err_map _ _ c.check_start.result (λ stop runs sections is.
    checks_part sections p c.args.turns is (value_in c.in-Value.start) _ _ (start_found p c.args.turns c.in_ok-m.m c.in_ok-m.ensures c.read.result c.read.ensures c.in-Value.start c.in-Value.is) (runs c.args.turns c.in_ok-m.ensures)) c.check_start.ensures.part

pub returns-in-Value-clause-limit : goal.returns-in-Value-clause-limit
returns-in-Value-clause-limit g c =
    let p = program_in c.args.program.now in
    err_map _ _ c.check_start.result (λ stop runs deep sections is.
    checks_deep sections p c.args.turns is (value_in c.in-Value.start) _ _ (start_found p c.args.turns c.in_ok-m.m c.in_ok-m.ensures c.read.result c.read.ensures c.in-Value.start c.in-Value.is) (runs deep c.args.turns c.in_ok-m.ensures)) c.check_start.ensures.limit

pub returns : goal.returns
returns g c =
    let p = program_in c.args.program.now in
    let same = exchanged_still _ _ (Keeps-refl (g.I.ByteIn.left c.args.input.now)) refl c.no_start.ensures.keeps in
    record {
      checks = ok_map _ _ c.no_start.result (λ report none sections is.
          checks_none sections p c.args.turns is report.verdict report.stop.at _ _ (no_start_found p c.args.turns c.in_ok-m.m c.in_ok-m.ensures c.read.result c.read.ensures c.in_default.not-Value) none same) c.no_start.ensures.verdict;
      flushed = c.no_start.ensures.flushed;
      flushed_where_given_up = err_map _ _ c.no_start.result (λ stop failed. subst (λ (f : CheckFault). Flushed f (g.O.ByteOut.passed c.no_start.new.out) (g.O.ByteOut.taken c.no_start.new.out)) (sym failed.0) tt) c.no_start.ensures.failed;
      part = if_err c.no_start.result (λ sections is. nothing_yet sections c.args.turns _ _ same);
      limit = err_map _ _ c.no_start.result (λ stop failed deep. absurd (cc (failed.0, deep))) c.no_start.ensures.failed;
      passes = c.no_start.ensures.passes;
      sound = on_ok_map c.no_start.result (λ same. (refl, same)) c.no_start.ensures.sound;
      cause = err_map _ _ c.no_start.result (λ stop failed. subst (λ (f : CheckFault). Blames f (g.I.ByteIn.faults c.args.input.now) (g.I.ByteIn.faults c.args.input.now) (g.O.ByteOut.faults c.args.out.now) (g.O.ByteOut.faults c.no_start.new.out)) (sym failed.0) (inl refl, failed.1)) c.no_start.ensures.failed;
    }

use Rattle.std.proofs.Common.{inl}
use Rattle.bk_checker.proofs.Terms.{rules, refl, Begins-refl, program_in}
use Rattle.bk_checker.proofs.Running.{moves_still, reaches_still, exchanged_none, if_err, not_ok}
use Rattle.bk_checker.proofs.Progress.{stands_not}
use Rattle.bk_checker.proofs.run.turn.Goals as goal

pub returns-in_err-step-in_default : goal.returns-in_err-step-in_default
returns-in_err-step-in_default g c = record {
  moves = not_ok _ c.from_residual.result c.from_residual.ensures.0;
  falls = λ going. not_ok _ c.from_residual.result c.from_residual.ensures.0;
  part = if_err c.from_residual.result (reaches_still (program_in c.args.program.now) c.args.m.now c.args.next _ _ (exchanged_none _));
  passes = Begins-refl _;
  sound = not_ok _ c.from_residual.result c.from_residual.ensures.0;
  cause = search (c.from_residual.ensures, rules);
  flushed_first = λ none going. not_ok _ c.from_residual.result c.from_residual.ensures.0;
  within = search (c.from_residual.ensures, rules);
}

pub returns-in_ok-step-in_default : goal.returns-in_ok-step-in_default
returns-in_ok-step-in_default g c = record {
  moves = moves_still (program_in c.args.program.now) c.args.m.now c.args.next c.step.new.m c.in_ok-step-in_default.field-0 _ c.in_ok-step-in_default.ensures.comes;
  falls = λ going. let falls = c.in_ok-step-in_default.ensures.falls in (falls.0, λ le. falls.1 (stands_not _ _ going c.in_default.not-Library) le);
  part = tt;
  passes = Begins-refl _;
  sound = (refl, refl);
  cause = tt;
  flushed_first = λ none going. inl refl;
  within = tt;
}

use Rattle.std.specs.Prelude.{◌≤◌}
use Rattle.bk_check.proofs.Terms.{◌≡◌, ◌<◌, false, program_in, Bytes, world, resumed}
use Rattle.bk_check.specs.Resume.{outcome_next}
use Rattle.bk_check.specs.Progress.{stands, weight}
use Rattle.bk_check.proofs.steps.step.Given as goal

abbrev pub invariant-steps : goal.invariant-steps
invariant-steps l = record {
  comes : (b : Bytes) → resumed (program_in l.program) l.m.frames.items (outcome_next (program_in l.program) l.next (world l.m b))
      ≡ resumed (program_in l.program) l.fn.m.frames.items (outcome_next (program_in l.program) l.fn.next (world l.fn.m b));
  turns : l.m.turns ≤ l.fn.m.turns;
  within : l.left ≤ 64;
  first : l.left ≡ 64 → (l.m ≡ l.fn.m) × (l.next ≡ l.fn.next);
  later : l.left < 64 → stands l.fn.m.frames.items l.fn.next ≡ false → l.fn.m.turns ≤ l.m.turns → weight l.m.frames.items l.next < weight l.fn.m.frames.items l.fn.next;
}

abbrev pub decreases-steps : goal.decreases-steps
decreases-steps l = l.left

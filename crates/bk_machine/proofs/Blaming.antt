-- How often the devices failed, behind the flush at the end of a run.
use Rattle.bk_machine.proofs.Terms.{◌≡◌, ℕ, ◌≤◌, arith, WriteFault, Blames, BlamesBefore, End}

module _ (reads reads' writes writes' : ℕ) where
  -- a flush that succeeds: the output had not failed before
  pub blames_passed : (e : End) → (writes ≡ 1 → ⊥) → writes' ≡ 0 → BlamesBefore e reads reads' writes → Blames e reads reads' writes'
  blames_passed WriteFault sound none before = absurd (sound before.1)
  blames_passed x sound none before = (before, none)

  -- a flush that fails
  pub blames_failed : (e : End) → reads ≤ 1 → writes' ≡ 1 → BlamesBefore e reads reads' writes → (reads ≤ reads') × (writes' ≡ 1)
  blames_failed WriteFault low failed before = let same = before.0 in (omega arith, failed)
  blames_failed x low failed before = (omega arith, failed)

use Rattle.bk_machine.proofs.Terms.{arith}
use Rattle.bk_machine.proofs.KeptSteps.{store_grown}
use Rattle.bk_machine.proofs.board.Board.grow.Goals as goal

pub returns-clause-store : goal.returns-clause-store
returns-clause-store c =
    let self = c.args.self.now in
    store_grown self.words _ self.kept.len _ self.kept.items c.resize.new.self.items (omega (arith, self.kept.ok.0)) c.resize.ensures.items (omega (arith, self.kept.ok.0, self.within, c.min.ensures)) (omega (arith, c.min.ensures))

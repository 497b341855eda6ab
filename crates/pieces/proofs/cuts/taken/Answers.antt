use Rattle.machine.proofs.TakingLaws.{ready-again}
use Rattle.pieces.proofs.cuts.taken.Goals as goal

pub loop-piece-preserved : goal.loop-piece-preserved
loop-piece-preserved c = ready-again c.loop-piece.invariant _ c.take_piece-state.ensures.0

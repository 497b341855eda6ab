use Rattle.std.proofs.Common.{length}
use Rattle.machine.specs.Code.{machine_of}
use Rattle.machine.specs.ContractWords.{Ready}
use Rattle.pieces.proofs.cuts.taken.Given as goal

abbrev pub invariant-loop-piece : goal.invariant-loop-piece
invariant-loop-piece l = Ready l.job l.map l.table (length l.fn.memory) (machine_of l.state)

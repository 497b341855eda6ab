use Rattle.std.proofs.Common.{length, ◌-◌, ◌≤◌}
use Rattle.machine.proofs.TakingLaws.{Going}
use Rattle.machine.proofs.taking.take_all.Given as goal

abbrev pub invariant-loop-at : goal.invariant-loop-at
invariant-loop-at l = record {
  rises : l.initial.at ≤ l.at;
  going : Going l.fn.on.job l.fn.on.map.bytes.now l.fn.on.table.now l.fn.piece l.fn.gathered l.fn.memory l.fn.c l.gathered l.memory l.s l.at;
}

-- proposed from the loop's first test
abbrev pub decreases-loop-at : goal.decreases-loop-at
decreases-loop-at l = length l.piece - l.at

abbrev pub invariant-piece : goal.invariant-piece
invariant-piece l =
    Going l.fn.on.job l.fn.on.map.bytes.now l.fn.on.table.now l.fn.piece l.fn.gathered l.fn.memory l.fn.c l.gathered l.memory l.s l.at

abbrev pub decreases-piece : goal.decreases-piece
decreases-piece l = length l.piece - l.at

-- The first k blocks are proved, and the machine has taken their file bytes.
use Rattle.std.proofs.Common.{◌≡◌}
use Rattle.machine.specs.Code.{machine_of}
use Rattle.loader.specs.ContractWords.{offer_of}
use Rattle.loader.proofs.CodeLaws.{Loading, job_of}
use Rattle.loader.proofs.load_blocks.Given as goal

abbrev pub invariant-loop-k : goal.invariant-loop-k
invariant-loop-k l =
    (l.job ≡ job_of (offer_of l.image l.map l.table l.mode))
    × Loading (offer_of l.image l.map l.table l.mode) l.fn.memory l.memory l.k (machine_of l.m)

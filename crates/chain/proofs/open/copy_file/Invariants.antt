-- The file's bytes in the first k blocks are copied.
use Rattle.chain.proofs.ProvingLaws.{Copied}
use Rattle.chain.proofs.open.copy_file.Given as goal

abbrev pub invariant-loop-k : goal.invariant-loop-k
invariant-loop-k l = Copied l.image l.fn.output l.k l.at l.output

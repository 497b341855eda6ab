-- The blocks from number k on stand in the output.
use Rattle.chain.specs.ContractWords.{Written}
use Rattle.chain.proofs.pack.pack_blocks.Given as goal

abbrev pub invariant-loop-k : goal.invariant-loop-k
invariant-loop-k l = Written l.file l.h l.k l.output

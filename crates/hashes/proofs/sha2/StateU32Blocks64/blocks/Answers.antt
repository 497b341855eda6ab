use Rattle.std.proofs.Common.{refl, arith}
use Rattle.hashes.specs.Tables.{narrow, K256}
use Rattle.hashes.specs.Code.{plain}
use Rattle.hashes.proofs.Blocks.{work-nothing}
use Rattle.hashes.proofs.sha2.StateU32Blocks64.blocks.Goals as goal

pub returns-then-bytes-lt64 : goal.returns-then-bytes-lt64
returns-then-bytes-lt64 c = work-nothing narrow (plain c.args.self) c.args.bytes.now (omega arith)

pub invariant_of-blocks-clause-table : goal.invariant_of-blocks-clause-table
unfolding K256
invariant_of-blocks-clause-table c = refl

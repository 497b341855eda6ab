use Rattle.std.proofs.Common.{refl, arith}
use Rattle.hashes.specs.Tables.{wide, K512}
use Rattle.hashes.specs.Code.{plain}
use Rattle.hashes.proofs.Blocks.{work-nothing}
use Rattle.hashes.proofs.sha2.StateU64Blocks128.blocks.Goals as goal

pub returns-then-bytes-lt128 : goal.returns-then-bytes-lt128
returns-then-bytes-lt128 c = work-nothing wide (plain c.args.self) c.args.bytes.now (omega arith)

pub invariant_of-blocks-clause-table : goal.invariant_of-blocks-clause-table
unfolding K512
invariant_of-blocks-clause-table c = refl

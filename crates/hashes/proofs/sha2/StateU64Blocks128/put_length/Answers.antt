use Rattle.std.proofs.Common.{rules}
use Rattle.hashes.proofs.Blocks.{field-in-two}
use Rattle.hashes.proofs.sha2.StateU64Blocks128.put_length.Goals as goal

pub returns : goal.returns
returns c = field-in-two c.args.last.now 112 c.args.n (search rules) c.put_big.ensures c.put_big-2.ensures

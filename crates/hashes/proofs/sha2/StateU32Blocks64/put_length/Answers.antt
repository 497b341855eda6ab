use Rattle.hashes.proofs.Blocks.{field-in-one}
use Rattle.hashes.proofs.sha2.StateU32Blocks64.put_length.Goals as goal

pub returns : goal.returns
returns c = field-in-one c.args.last.now 56 c.args.n c.put_big.ensures

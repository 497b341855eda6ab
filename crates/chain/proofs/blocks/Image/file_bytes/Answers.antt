use Rattle.std.proofs.Common.{length, ap, arith}
use Rattle.chain.proofs.ProvingLaws.{data-fits}
use Rattle.chain.proofs.blocks.Image.file_bytes.Goals as goal

pub file_bytes-requires : goal.file_bytes-requires
file_bytes-requires c = omega (arith, data-fits c.args.self c.args.k c.requires, ap length c.block.ensures)

use Rattle.std.proofs.Common.{ap, length, arith}
use Rattle.chain.proofs.ProvingLaws.{data-fits}
use Rattle.chain.proofs.blocks.Image.judged_at.Goals as goal

pub judge_block-requires : goal.judge_block-requires
judge_block-requires c = (omega (arith, data-fits c.args.self c.args.k c.requires, ap length c.block.ensures), c.requires)

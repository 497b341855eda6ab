use Rattle.chain.proofs.ProvingLaws.{block-fits}
use Rattle.chain.proofs.blocks.Image.block.Goals as goal

pub block-requires : goal.block-requires
block-requires c = block-fits c.args.self c.args.k c.requires

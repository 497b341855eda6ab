use Rattle.chain.proofs.PackingLaws.{sizes-written}
use Rattle.chain.proofs.pack.put_sizes.Goals as goal

pub returns : goal.returns
returns c =
    sizes-written c.args.output.now c.requires c.args.h _ _ _ _ _ _ c.put_little.ensures c.put_little-2.ensures c.put_little-3.ensures
    c.put_little-4.ensures c.put_little-5.ensures c.put_little-6.ensures

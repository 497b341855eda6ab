use Rattle.chain.proofs.PackingLaws.{fields-written}
use Rattle.chain.proofs.pack.put_fields.Goals as goal

pub returns : goal.returns
returns c =
    fields-written c.args.output.now c.requires.0 c.args.h _ _ _ _ _ c.requires.1 c.put_sizes.ensures c.put_ids.ensures
    c.put_little.ensures c.put_little-2.ensures c.put_little-3.ensures

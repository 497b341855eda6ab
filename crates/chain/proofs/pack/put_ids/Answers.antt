use Rattle.std.proofs.Common.{arith}
use Rattle.chain.proofs.PackingLaws.{ids-none, ids-more}
use Rattle.chain.proofs.pack.put_ids.Goals as goal

pub loop-i-init : goal.loop-i-init
loop-i-init c = ids-none c.args.output.now c.requires.0 c.args.ids

pub loop-i-preserved : goal.loop-i-preserved
loop-i-preserved c =
    ids-more c.args.output.now c.requires.0 c.args.ids c.loop-i.i (omega arith) (omega arith) c.loop-i.invariant c.put_little.ensures

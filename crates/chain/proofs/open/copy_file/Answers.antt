use Rattle.std.proofs.Common.{arith}
use Rattle.chain.proofs.ProvingLaws.{copied_none, copy-fits, copied_more}
use Rattle.chain.proofs.open.copy_file.Goals as goal

pub loop-k-init : goal.loop-k-init
loop-k-init c = copied_none c.args.image c.args.output.now

pub copy-requires : goal.copy-requires
copy-requires c =
    copy-fits c.requires.exact c.loop-k.invariant (omega (arith, c.requires.among, c.loop-k-test.true)) c.file_bytes-bytes.ensures

pub loop-k-preserved : goal.loop-k-preserved
loop-k-preserved c =
    copied_more c.requires.exact c.loop-k.invariant (omega (arith, c.requires.among, c.loop-k-test.true)) c.file_bytes-bytes.ensures
    c.copy.ensures

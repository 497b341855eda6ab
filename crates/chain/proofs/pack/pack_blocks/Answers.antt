use Rattle.std.proofs.Common.{refl, length}
use Rattle.chain.proofs.PackingLaws.{planned, none_written}
use Rattle.chain.proofs.pack.pack_blocks.Goals as goal

pub loop-k-init : goal.loop-k-init
loop-k-init c =
    let a = c.args in
    none_written a.file.now a.h (length a.output.now) (planned a.file.now a.h (length a.output.now) c.requires) a.output.now refl

use Rattle.hashes.proofs.Feeding.{none-fed}
use Rattle.hashes.proofs.stream.Stream.begin.Goals as goal

pub returns : goal.returns
returns g c = none-fed g.S.Blocks.width g.met.S.Blocks.some _ _

use Rattle.hashes.specs.Tables.{narrow}
use Rattle.hashes.proofs.Identities.{maj-short}
use Rattle.hashes.proofs.word.U32Word.majority.Goals as goal

pub returns : goal.returns
returns c = maj-short narrow.w c.args.self c.args.y c.args.z c.ranges.self.fits c.ranges.y.fits c.ranges.z.fits

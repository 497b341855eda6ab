use Rattle.hashes.specs.Tables.{wide}
use Rattle.hashes.proofs.Identities.{ch-short}
use Rattle.hashes.proofs.word.U64Word.choice.Goals as goal

pub returns : goal.returns
returns c = ch-short wide.w c.args.self c.args.y c.args.z c.ranges.self.fits c.ranges.y.fits c.ranges.z.fits

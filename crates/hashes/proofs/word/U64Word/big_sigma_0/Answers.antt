use Rattle.std.proofs.Common.{arith}
use Rattle.hashes.specs.Tables.{wide}
use Rattle.hashes.proofs.Identities.{big-sigma-chained}
use Rattle.hashes.proofs.word.U64Word.big_sigma_0.Goals as goal

pub returns : goal.returns
returns c =
    big-sigma-chained wide.w wide.Σ₀ c.args.self c.ranges.self.fits (omega arith) (omega arith) (omega arith) c.rotate_right.ensures
    c.rotate_right-2.ensures c.rotate_right-3.ensures

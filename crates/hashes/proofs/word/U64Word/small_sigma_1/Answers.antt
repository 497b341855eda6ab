use Rattle.std.proofs.Common.{arith}
use Rattle.hashes.specs.Tables.{wide}
use Rattle.hashes.proofs.Identities.{small-sigma-chained}
use Rattle.hashes.proofs.word.U64Word.small_sigma_1.Goals as goal

pub returns : goal.returns
returns c =
    small-sigma-chained wide.w wide.σ₁ c.args.self c.ranges.self.fits (omega arith) (omega arith) c.rotate_right.ensures
    c.rotate_right-2.ensures

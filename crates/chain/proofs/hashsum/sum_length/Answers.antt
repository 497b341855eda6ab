use Rattle.std.proofs.Common.{refl, get_or, arith}
use Rattle.hashes.proofs.Theorems.{digest_length-most}
use Rattle.chain.specs.Hashsum.{sum_length}
use Rattle.chain.proofs.HashingLaws.{length_more}
use Rattle.chain.proofs.hashsum.sum_length.Goals as goal

pub loop-id-init : goal.loop-id-init
unfolding sum_length
loop-id-init c = (omega arith, refl)

pub overflow_add-n : goal.overflow_add-n
overflow_add-n c = omega (arith, c.digest_length.ensures, digest_length-most (get_or c.args.ids c.loop-id.id-index 0))

pub loop-id-preserved : goal.loop-id-preserved
loop-id-preserved c =
    let ids = c.args.ids in (
      omega (arith, c.digest_length.ensures, digest_length-most (get_or ids c.loop-id.id-index 0)),
      omega (arith, c.loop-id.invariant.1, c.digest_length.ensures, length_more ids c.loop-id.id-index (omega arith)),
    )

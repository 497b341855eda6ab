use Rattle.std.proofs.Common.{arith}
use Rattle.hashes.proofs.Theorems.{digest_length-most}
use Rattle.vectors.proofs.digest.Goals as goal

pub shared_ref_as_front-result : goal.shared_ref_as_front-result
shared_ref_as_front-result c = omega (arith, c.digest-length.ensures.value, digest_length-most c.args.id)

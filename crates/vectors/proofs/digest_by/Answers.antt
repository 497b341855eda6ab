use Rattle.std.proofs.Common.{arith, rules}
use Rattle.hashes.proofs.Theorems.{digest_length-most}
use Rattle.vectors.proofs.digest_by.Goals as goal

pub shared_ref_as_front-result : goal.shared_ref_as_front-result
shared_ref_as_front-result c =
    let f = c.finish-length.ensures c.args.id c.args.message.now (search rules) c.fed.ensures in
    omega (arith, f.1, digest_length-most c.args.id)

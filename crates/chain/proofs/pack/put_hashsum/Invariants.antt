-- The first digests stand at the offset.
use Rattle.std.proofs.Common.{◌-◌}
use Rattle.chain.proofs.HashingLaws.{Hashed}
use Rattle.chain.proofs.pack.put_hashsum.Given as goal

abbrev pub invariant-loop-id : goal.invariant-loop-id
invariant-loop-id l = Hashed l.id-items l.fn.output l.start (l.end - l.start) l.at l.id-index l.output l.place

-- n is the length of the first digests.
use Rattle.std.proofs.Common.{◌≡◌, ◌*◌, ◌≤◌, take}
use Rattle.chain.specs.Hashsum.{sum_length}
use Rattle.chain.proofs.hashsum.sum_length.Given as goal

abbrev pub invariant-loop-id : goal.invariant-loop-id
invariant-loop-id l = (l.n ≤ 64 * l.id-index) × (l.n ≡ sum_length (take l.id-index l.id-items))

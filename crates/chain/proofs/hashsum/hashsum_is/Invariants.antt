-- What is left to compare decides.
use Rattle.std.proofs.Common.{◌≡◌, drop}
use Rattle.octets.specs.Parts.{same}
use Rattle.chain.specs.Hashsum.{hashsum}
use Rattle.chain.proofs.hashsum.hashsum_is.Given as goal

abbrev pub invariant-loop-id : goal.invariant-loop-id
invariant-loop-id l =
    same (hashsum l.fn.ids l.message) l.expected ≡ same (hashsum (drop l.id-index l.id-items) l.message) l.left

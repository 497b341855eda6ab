-- The first IDs are written.
use Rattle.std.proofs.Common.{◌≡◌, take}
use Rattle.octets.specs.Parts.{put}
use Rattle.chain.specs.Header.{id_bytes}
use Rattle.chain.proofs.pack.put_ids.Given as goal

abbrev pub invariant-loop-i : goal.invariant-loop-i
invariant-loop-i l = l.output ≡ put l.fn.output 20 (id_bytes (take l.i l.id-items))

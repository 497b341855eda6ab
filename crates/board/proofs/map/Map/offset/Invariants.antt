-- The bytes counted so far and those of the regions from here on are all that lie below the address.
use Rattle.std.proofs.Common.{◌≡◌, ◌+◌, drop, map}
use Rattle.board.specs.Map.{regions, offset}
use Rattle.board.proofs.WalkLaws.{region_of}
use Rattle.board.proofs.map.Map.offset.Given as goal

abbrev pub invariant-loop-record : goal.invariant-loop-record
invariant-loop-record l = offset (regions l.self.bytes.now) l.a ≡ l.below + offset (map region_of (drop l.record-index l.record-items)) l.a

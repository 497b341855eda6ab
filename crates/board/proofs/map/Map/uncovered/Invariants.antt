-- What is left to find is the first address that the regions from here on leave uncovered.
use Rattle.std.proofs.Common.{◌≡◌, drop, map}
use Rattle.board.specs.Map.{regions, uncovered}
use Rattle.board.proofs.WalkLaws.{region_of}
use Rattle.board.proofs.map.Map.uncovered.Given as goal

abbrev pub invariant-loop-record : goal.invariant-loop-record
invariant-loop-record l = uncovered (regions l.self.bytes.now) l.a ≡ uncovered (map region_of (drop l.record-index l.record-items)) l.first

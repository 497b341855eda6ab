-- What is left to test is the order of the regions from here on, above the end of those before.
use Rattle.std.proofs.Common.{◌≡◌, drop, map}
use Rattle.board.specs.Map.{regions, ordered}
use Rattle.board.proofs.WalkLaws.{region_of}
use Rattle.board.proofs.map.in_order.Given as goal

abbrev pub invariant-loop-record : goal.invariant-loop-record
invariant-loop-record l = ordered 0 (regions l.map) ≡ ordered l.low (map region_of (drop l.record-index l.record-items))

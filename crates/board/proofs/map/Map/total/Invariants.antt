-- The sum so far and the lengths from here on are the sum of all.
use Rattle.std.proofs.Common.{◌≡◌, ◌+◌, drop, map}
use Rattle.board.specs.Map.{regions, total}
use Rattle.board.proofs.WalkLaws.{region_of}
use Rattle.board.proofs.map.Map.total.Given as goal

abbrev pub invariant-loop-record : goal.invariant-loop-record
invariant-loop-record l = total (regions l.self.bytes.now) ≡ l.sum + total (map region_of (drop l.record-index l.record-items))

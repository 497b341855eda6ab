use Rattle.std.proofs.Common.{◌≡◌, map, length}
use Rattle.hashes.proofs.Blocks.{Loading}
use Rattle.hashes.proofs.compress.load.Given as goal

abbrev pub invariant-loop-i : goal.invariant-loop-i
invariant-loop-i g l =
    let P = g.W.Word.width in
    record { room : length l.w ≡ P.rounds; loading : Loading P l.block P.rounds (map g.W.Number.value l.w) l.i }

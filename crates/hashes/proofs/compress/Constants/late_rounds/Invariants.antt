use Rattle.std.proofs.Common.{◌≡◌, ◌-◌, map}
use Rattle.hashes.specs.Code.{words}
use Rattle.hashes.proofs.Rounds.{Fours}
use Rattle.hashes.proofs.compress.Constants.late_rounds.Given as goal

abbrev pub invariant-loop-i : goal.invariant-loop-i
invariant-loop-i g l =
    let P = g.W.Word.width in
    let value = g.W.Number.value in
    record {
      end : l.i-end ≡ P.rounds;
      fours : Fours P (P.rounds - 16) P.rounds (words value l.fn.s) (map value l.w) l.i (words value l.v) (map value l.w);
    }

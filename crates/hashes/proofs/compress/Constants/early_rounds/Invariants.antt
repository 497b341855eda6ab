use Rattle.std.proofs.Common.{◌≡◌, ◌-◌, map}
use Rattle.hashes.specs.Code.{words}
use Rattle.hashes.proofs.Rounds.{Fours}
use Rattle.hashes.proofs.compress.Constants.early_rounds.Given as goal

abbrev pub invariant-loop-i : goal.invariant-loop-i
invariant-loop-i g l =
    let P = g.W.Word.width in
    let value = g.W.Number.value in
    record {
      end : l.i-end ≡ P.rounds - 16;
      fours : Fours P 0 (P.rounds - 16) (words value l.fn.s) (map value l.fn.w) l.i (words value l.v) (map value l.w);
    }

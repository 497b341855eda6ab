use Rattle.hashes.specs.Widths.{in_order}
use Rattle.hashes.specs.Code.{words}
use Rattle.hashes.proofs.Storing.{Storing}
use Rattle.hashes.proofs.compress.State.put_words.Given as goal

abbrev pub invariant-loop-i : goal.invariant-loop-i
invariant-loop-i g l = Storing g.W.Word.width (in_order (words g.W.Number.value l.self)) l.n l.out l.i

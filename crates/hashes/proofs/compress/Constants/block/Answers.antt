use Rattle.hashes.specs.Padding.{words_at}
use Rattle.hashes.specs.Code.{words}
use Rattle.hashes.proofs.Rounds.{all_done}
use Rattle.hashes.proofs.compress.Constants.block.Goals as goal

pub returns : goal.returns
returns g c =
    let P = g.W.Word.width in
    let H = words g.W.Number.value c.args.s in
    let M = words_at P c.args.block.now 0 16 in
    all_done P H M (c.late_rounds-y.ensures H M (c.early_rounds-x.ensures H M (c.load.ensures H))) c.plus.ensures

use Rattle.hashes.proofs.Rounds.{four}
use Rattle.hashes.proofs.compress.Constants.early_four.Goals as goal

pub returns : goal.returns
returns g c =
    four g.W.Word.width _ c.early_round-x.ensures c.early_round-y.ensures c.early_round-z.ensures c.early_round.ensures

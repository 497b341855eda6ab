use Rattle.hashes.specs.Code.{words}
use Rattle.hashes.proofs.Rounds.{T₁-of}
use Rattle.hashes.proofs.compress.State.t1.Goals as goal

pub returns : goal.returns
returns g c =
    let m = g.W.Word in
    T₁-of m.width _ _ (words g.W.Number.value c.args.self) c.plus.ensures c.plus-x.ensures c.choice.ensures c.plus-y.ensures
    c.big_sigma_1.ensures c.plus-2.ensures

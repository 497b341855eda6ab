use Rattle.std.proofs.Common.{ℕ, ◌∙◌, ap₂, rules}
use Rattle.hashes.specs.Compression.{round}
use Rattle.hashes.specs.Code.{words}
use Rattle.hashes.proofs.Rounds.{round-alone, value-at}
use Rattle.hashes.proofs.compress.Constants.late_round.Goals as goal

pub returns : goal.returns
returns g c =
    let P = g.W.Word.width in
    let a = c.args in
    let value = g.W.Number.value in
    let k = value-at value a.self.now.k.now a.i c.index-self-i.result (search rules) in
    let w = value-at value a.w.now a.i c.index-w-i.result (search rules) in
    λ H M r. round-alone P H M _ a.self.now.table (search rules) (search rules) r
    (c.round.ensures ∙ ap₂ (λ (x y : ℕ). round P x y (words value a.s)) k w)

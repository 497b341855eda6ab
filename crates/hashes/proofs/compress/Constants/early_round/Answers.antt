use Rattle.std.proofs.Common.{ℕ, ◌+◌, ◌<◌, length, map, ◌∙◌, ap₂, subst, arith, rules}
use Rattle.hashes.specs.Compression.{round}
use Rattle.hashes.specs.Code.{words}
use Rattle.hashes.specs.Progress.{Rounds}
use Rattle.hashes.proofs.Rounds.{round-and-word, value-at, values-set, next-of}
use Rattle.hashes.proofs.compress.Constants.early_round.Goals as goal

pub returns : goal.returns
returns g c =
    let P = g.W.Word.width in
    let value = g.W.Number.value in
    let a = c.args in
    let i : ℕ = a.i in
    let l : i + 16 < length a.w.now = search rules in
    let k = value-at value a.self.now.k.now i c.index-self-i.result (search rules) in
    let w = value-at value a.w.now i c.index-w-i.result (omega arith) in
    let x = value-at value a.w.now (i + 14) c.index-w-i-2.result (omega arith) in
    let y = value-at value a.w.now (i + 9) c.index-w-i-3.result (omega arith) in
    let z = value-at value a.w.now (i + 1) c.index-w-i-4.result (omega arith) in
    let u = value-at value a.w.now i c.index-w-i-5.result (omega arith) in
    λ H M r. subst (Rounds P H M (i + 1) (words value c.round-r.result)) (values-set value a.w.now (i + 16) c.next_word.result)
    (round-and-word P H M _ _ a.self.now.table (search rules) r
    (c.round-r.ensures ∙ ap₂ (λ (x y : ℕ). round P x y (words value a.s)) k w) (next-of P (map value a.w.now) i c.next_word.ensures x y z u))

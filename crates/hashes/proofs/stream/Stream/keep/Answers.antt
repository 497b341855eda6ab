use Rattle.std.proofs.Common.{ℕ, ◌%◌, length, refl, ◌∙◌, ap, arith}
use Rattle.hashes.proofs.Feeding.{fed-open}
use Rattle.hashes.proofs.stream.Stream.keep.Goals as goal

pub returns : goal.returns
returns g c =
    let m = g.met.S.Blocks in
    λ H x e h. fed-open g.S.Blocks.width m.some H h c.args.piece.now (e ∙ ap (λ (k : ℕ). length x % k) m.size) c.copy.ensures refl
    (omega (arith, m.size))

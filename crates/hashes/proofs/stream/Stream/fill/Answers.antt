use Rattle.std.proofs.Common.{ℕ, ◌%◌, length, refl, ◌∙◌, ap, arith, rules}
use Rattle.hashes.proofs.Blocks.{work-one}
use Rattle.hashes.proofs.Feeding.{fed-full}
use Rattle.hashes.proofs.stream.Stream.fill.Goals as goal

pub returns : goal.returns
returns g c =
    let P = g.S.Blocks.width in
    let m = g.met.S.Blocks in
    λ H x e h. fed-full P m.some H h c.args.piece.now (e ∙ ap (λ (k : ℕ). length x % k) m.size) c.copy.ensures refl
    (c.requires ∙ m.size) (work-one P _ _ g.row.BLOCK (omega (arith, m.size, m.some)) (search rules) c.blocks-self.ensures)

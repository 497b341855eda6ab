use Rattle.std.proofs.Common.{◌≡◌, ℕ, ◌-◌, ◌*◌, ◌/◌, ◌%◌, length, sym, refl, ◌∙◌, ap, div-add-mod', arith}
use Rattle.hashes.specs.Compression.{after_blocks}
use Rattle.hashes.proofs.Feeding.{fed-from-border}
use Rattle.hashes.proofs.stream.Stream.from_border.Goals as goal

pub returns : goal.returns
returns g c =
    let P = g.S.Blocks.width in
    let m = g.met.S.Blocks in
    let p = c.args.piece.now in
    let b : ℕ = g.row.BLOCK in
    let at : length p - length p % b ≡ length p / b * b = omega (arith, div-add-mod' (length p) b) in
    λ H x e h. fed-from-border P m.some H h p (ap (λ (k : ℕ). length x % k) (sym m.size) ∙ e)
    (c.blocks-self.ensures ∙ ap (λ (k : ℕ). after_blocks P (g.S.Blocks.words c.args.self.now.words) p (length p / k)) m.size) (at ∙ ap (λ (k : ℕ). length p / k * k) m.size)
    c.copy.ensures refl

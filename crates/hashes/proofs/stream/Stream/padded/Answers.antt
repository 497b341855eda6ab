use Rattle.std.proofs.Common.{◌≡◌, ℕ, ◌+◌, ◌-◌, ◌/◌, ◌%◌, ◌<◌, length, ◌∙◌, ap, arith, rules}
use Rattle.hashes.specs.Padding.{field_bytes}
use Rattle.hashes.proofs.Blocks.{work-one}
use Rattle.hashes.proofs.Feeding.{padded-in-one, padded-in-two, count-rest}
use Rattle.hashes.proofs.stream.Stream.padded.Goals as goal

pub returns-then-rest-field : goal.returns-then-rest-field
returns-then-rest-field g c =
    let P = g.S.Blocks.width in
    let m = g.met.S.Blocks in
    let b : ℕ = g.row.BLOCK in
    let r : ℕ = c.args.self.now.length % b in
    let at : ℕ = b - field_bytes P in
    let field : b - b / 8 ≡ at = omega (arith, m.size) in
    λ H x l h. padded-in-one P m.some H h l r at (b - b / 8 - (r + 1)) (count-rest b (length x) m.whole h.count ∙ ap (λ (k : ℕ). length x % k) m.size)
    (omega (arith, m.size)) (omega (arith, c.if-rest-field.true)) c.mark.ensures c.put_length.ensures
    (work-one P _ _ b (omega (arith, m.size, m.some)) (search rules) c.blocks-then-rest-field.ensures)

pub returns : goal.returns
returns g c =
    let P = g.S.Blocks.width in
    let m = g.met.S.Blocks in
    let b : ℕ = g.row.BLOCK in
    let r : ℕ = c.args.self.now.length % b in
    let at : ℕ = b - field_bytes P in
    let field : b - b / 8 ≡ at = omega (arith, m.size) in
    let some : 0 < b = omega (arith, m.size, m.some) in
    λ H x l h. padded-in-two P m.some H h l r at (b - (r + 1)) (b - b / 8 - 1)
    (count-rest b (length x) m.whole h.count ∙ ap (λ (k : ℕ). length x % k) m.size)
    (omega (arith, m.size)) (omega (arith, c.if-rest-field.false)) (omega (arith, m.size)) (omega (arith, m.size, m.some)) c.mark-2.ensures
    (work-one P _ _ b some (search rules) c.blocks-words.ensures)
    c.mark-3.ensures c.put_length-2.ensures (work-one P _ _ b some (search rules) c.blocks-2.ensures)

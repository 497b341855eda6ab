use Rattle.std.proofs.Common.{◌≡◌, ℕ, ◌+◌, ◌-◌, ◌%◌, ◌++◌, length, take, sym, ◌∙◌, arith, length-append, length-take}
use Rattle.hashes.proofs.Feeding.{fed-in-two, count-rest, filled-border}
use Rattle.hashes.proofs.stream.Stream.feed.Goals as goal

pub returns-then-rest-eq0 : goal.returns-then-rest-eq0
returns-then-rest-eq0 g c =
    λ H x h. c.from_border.ensures H x (sym (count-rest g.row.BLOCK (length x) g.met.S.Blocks.whole h.count) ∙ c.if-rest-eq0.true) h

pub returns-then-piece-room : goal.returns-then-piece-room
returns-then-piece-room g c = λ H x h. c.keep.ensures H x (count-rest g.row.BLOCK (length x) g.met.S.Blocks.whole h.count) h

pub returns : goal.returns
returns g c =
    let a = c.args in
    let b : ℕ = g.row.BLOCK in
    let m = g.met.S.Blocks in
    λ H x h.
    let e = count-rest b (length x) m.whole h.count in
    let room = b - a.self.now.length % b in
    let full : length (x ++ take room a.piece.now) ≡ length x + room = omega (arith, length-append x (take room a.piece.now), length-take room a.piece.now) in
    fed-in-two g.S.Blocks.width H x a.piece.now room
    (c.from_border-2.ensures H _ (filled-border b (length x) (omega (arith, m.size, m.some)) e full) (c.fill.ensures H x e h))

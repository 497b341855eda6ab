use Rattle.std.proofs.Common.{◌-◌, ap, ◌∙◌, take, length, arith}
use Rattle.chain.proofs.PassLaws.{first_part, drop-is}
use Rattle.chain.proofs.ProvingLaws.{enough, data-fits, first-expected, field-before}
use Rattle.chain.proofs.blocks.Image.expected.Goals as goal

pub returns-then-k-eq0 : goal.returns-then-k-eq0
returns-then-k-eq0 c = drop-is c.args.self.approved.now 36 (enough c.args.self) ∙ first-expected c.args.self c.args.k c.if-k-eq0.true

pub slice_bounds-result-end-2 : goal.slice_bounds-result-end-2
slice_bounds-result-end-2 c =
    let i = c.args.self in
    first_part c.block-before.result.now i.stream.hashsum_length
    (omega (arith, data-fits i (c.args.k - 1) (omega (arith, c.requires)), ap length c.block-before.ensures))

pub returns : goal.returns
returns c =
    let i = c.args.self in ap (take i.stream.hashsum_length) c.block-before.ensures ∙ field-before i c.args.k c.if-k-eq0.false

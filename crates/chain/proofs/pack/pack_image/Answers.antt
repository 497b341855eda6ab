use Rattle.std.proofs.Common.{ℕ, length, arith}
use Rattle.chain.proofs.PackingLaws.{planned, ids-narrow, image-packed}
use Rattle.chain.proofs.pack.pack_image.Goals as goal

pub put_fields-requires : goal.put_fields-requires
put_fields-requires c =
    let a = c.args in
    let n : ℕ = length a.output.now in
    let pl = planned a.file.now a.h n c.requires in
    (omega (arith, pl.image, pl.head, c.fill.auto.dst, c.pack_blocks.auto.output), pl.four, ids-narrow a.file.now a.h n pl)

pub returns : goal.returns
returns c =
    let a = c.args in
    let n : ℕ = length a.output.now in
    image-packed a.file.now a.h n (planned a.file.now a.h n c.requires) c.pack_blocks.new.output _ _ _ c.pack_blocks.auto.output
    c.pack_blocks.ensures c.fill.ensures c.put_fields.ensures c.put_link.ensures

use Rattle.std.proofs.Common.{ℕ, refl, length}
use Rattle.chain.proofs.PackingLaws.{planned, block-put}
use Rattle.chain.proofs.pack.pack_block.Goals as goal

pub returns : goal.returns
returns c =
    let a = c.args in
    let n : ℕ = length a.output.now in
    block-put a.file.now a.h n (planned a.file.now a.h n c.requires.0) a.k c.block_start-at.result a.output.now _ _ c.requires.1 refl
    c.requires.2 c.block_start-at.ensures c.put_link.ensures c.put_data.ensures

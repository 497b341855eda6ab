-- The first k blocks are proved.
use Rattle.std.proofs.Common.{◌≡◌}
use Rattle.chain.specs.Blocks.{proved}
use Rattle.chain.specs.Images.{approved_header, block_in}
use Rattle.chain.proofs.blocks.Image.proved.Given as goal

abbrev pub invariant-loop-k : goal.invariant-loop-k
invariant-loop-k l = proved (approved_header l.self) (block_in l.self) l.k ≡ l.k

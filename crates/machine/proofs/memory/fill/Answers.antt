use Rattle.std.proofs.Common.{arith}
use lib.ListN.{length-replicate}
use Rattle.machine.proofs.CodeLaws.{range-fits, block-stored}
use Rattle.machine.proofs.memory.fill.Goals as goal

pub fill-requires : goal.fill-requires
fill-requires c =
    let a = c.args in
    omega (arith, c.offset-at.ensures, range-fits a.map.bytes.now a.memory.now a.map.in_order c.requires.0 a.address a.n c.requires.1)

pub returns : goal.returns
returns c =
    let a = c.args in
    block-stored a.map.bytes.now a.memory.now a.map.in_order c.requires.0 a.address _ (rw length-replicate c.requires.1) c.offset-at.ensures
    c.fill.ensures

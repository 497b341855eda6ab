use Rattle.std.proofs.Common.{arith, length}
use Rattle.machine.proofs.CodeLaws.{range-fits, block-stored}
use Rattle.machine.proofs.memory.store.Goals as goal

pub copy-requires : goal.copy-requires
copy-requires c =
    let a = c.args in
    omega (arith, c.offset-at.ensures, range-fits a.map.bytes.now a.memory.now a.map.in_order c.requires.0 a.address (length a.bytes.now) c.requires.1)

pub returns : goal.returns
returns c =
    let a = c.args in
    block-stored a.map.bytes.now a.memory.now a.map.in_order c.requires.0 a.address a.bytes.now c.requires.1 c.offset-at.ensures c.copy.ensures

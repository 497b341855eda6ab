use Rattle.std.proofs.Common.{◌∙◌, arith}
use Rattle.octets.proofs.NumberLaws.{one_byte}
use Rattle.board.specs.Cpuid.{lookup, leaves}
use Rattle.machine.proofs.commands.looked_up.Goals as goal

pub returns : goal.returns
returns c =
    let a = c.args in
    let table = leaves a.table.now in
    c.lookup.ensures
    ∙ (λ i. lookup table (c.little-eax.ensures i) (c.little-ecx.ensures i) (one_byte a.c.now 32 (omega arith) i))

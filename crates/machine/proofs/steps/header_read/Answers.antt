use Rattle.std.proofs.Common.{sym, ◌∙◌, arith}
use Rattle.machine.specs.Code.{state_of}
use Rattle.machine.specs.Machine as spec
use Rattle.machine.proofs.CodeLaws.{field, header-by}
use Rattle.machine.proofs.steps.header_read.Goals as goal

pub returns-in-Known : goal.returns-in-Known
returns-in-Known c =
    let a = c.args in
    header-by a.length (state_of a.c a.gathered.now)
    (field a.gathered.now a.c.kept 0 2 (omega (arith, c.requires.0)) c.little-id.ensures)
    (field a.gathered.now a.c.kept 8 8 (omega (arith, c.requires.0)) c.little-n.ensures)
    (sym c.named.ensures ∙ c.in-Known.is)
    ∙ c.known_read.ensures _

pub returns-in-Skipped : goal.returns-in-Skipped
returns-in-Skipped c =
    let a = c.args in
    header-by a.length (state_of a.c a.gathered.now)
    (field a.gathered.now a.c.kept 0 2 (omega (arith, c.requires.0)) c.little-id.ensures)
    (field a.gathered.now a.c.kept 8 8 (omega (arith, c.requires.0)) c.little-n.ensures)
    (sym c.named.ensures ∙ c.in-Skipped.is)
    ∙ c.skipped_read.ensures _

pub returns-in-Unknown : goal.returns-in-Unknown
unfolding spec.header_says
returns-in-Unknown c =
    let a = c.args in
    header-by a.length (state_of a.c a.gathered.now)
    (field a.gathered.now a.c.kept 0 2 (omega (arith, c.requires.0)) c.little-id.ensures)
    (field a.gathered.now a.c.kept 8 8 (omega (arith, c.requires.0)) c.little-n.ensures)
    (sym c.named.ensures ∙ c.in-Unknown.is)

use Rattle.std.proofs.Common.{arith}
use Rattle.std.proofs.lemmas.Grind.{common_steps}
use Rattle.machine.specs.Machine as spec
use Rattle.machine.proofs.steps.command_begins.Goals as goal

pub returns-then-is_some : goal.returns-then-is_some
unfolding spec.command_begins
returns-then-is_some c h = grind (arith, common_steps, c.stopped.ensures h)

pub returns-then-left-eq0 : goal.returns-then-left-eq0
unfolding spec.command_begins
returns-then-left-eq0 c h = grind (arith, common_steps, c.stopped-then-left-eq0.ensures h)

pub returns-then-left-lt-HEADER : goal.returns-then-left-lt-HEADER
unfolding spec.command_begins
returns-then-left-lt-HEADER c h = grind (arith, common_steps, c.stopped-then-left-lt-HEADER.ensures h)

pub returns : goal.returns
unfolding spec.command_begins
returns c h = grind (arith, common_steps, c.awaiting.ensures h)

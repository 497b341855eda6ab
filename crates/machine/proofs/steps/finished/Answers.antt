use native.Mathlib.Numerals.{add-one}
use Rattle.machine.specs.Machine as spec
use Rattle.machine.proofs.steps.finished.Goals as goal

pub returns : goal.returns
unfolding spec.finished
returns c h = simp add-one at (c.command_begins.ensures h)

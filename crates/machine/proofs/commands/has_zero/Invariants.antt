use Rattle.std.proofs.Common.{length, drop, ◌≡◌, ◌≤◌, ◌-◌}
use Rattle.machine.specs.Commands.{has_zero}
use Rattle.machine.proofs.commands.has_zero.Given as goal

-- the answer is that of the bytes from i on
abbrev pub invariant-loop-i : goal.invariant-loop-i
invariant-loop-i l = (l.i ≤ length l.text) × (has_zero l.text ≡ has_zero (drop l.i l.text))

abbrev pub decreases-loop-i : goal.decreases-loop-i
decreases-loop-i l = length l.text - l.i

use Rattle.std.proofs.Common.{◌≡◌, ◌-◌, replicate}
use Rattle.octets.specs.Parts.{put}
use Rattle.octets.proofs.parts.fill.Given as goal

abbrev pub invariant-loop-i : goal.invariant-loop-i
invariant-loop-i l = l.dst ≡ put l.initial.dst l.at (replicate (l.i - l.at) l.v)

use Rattle.std.proofs.Common.{◌≡◌, ◌+◌, ◌++◌, take, drop}
use Rattle.octets.proofs.parts.copy.Given as goal

abbrev pub invariant-loop-i : goal.invariant-loop-i
invariant-loop-i l = l.dst ≡ take l.at l.initial.dst ++ take l.i l.src ++ drop (l.at + l.i) l.initial.dst

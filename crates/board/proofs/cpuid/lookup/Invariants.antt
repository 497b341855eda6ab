-- What is left to look through are the records from here on.
use Rattle.std.proofs.Common.{◌≡◌, drop, map}
use Rattle.board.specs.Cpuid.{leaves, lookup}
use Rattle.board.proofs.WalkLaws.{leaf_of}
use Rattle.board.proofs.cpuid.lookup.Given as goal

abbrev pub invariant-loop-record : goal.invariant-loop-record
invariant-loop-record l = lookup (leaves l.table) l.eax l.ecx l.register ≡ lookup (map leaf_of (drop l.record-index l.record-items)) l.eax l.ecx l.register

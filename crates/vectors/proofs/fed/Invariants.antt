use Rattle.std.proofs.Common.{◌≡◌, List, ℕ, ◌++◌}
use Rattle.hashes.specs.Progress.{Fed}
use Rattle.vectors.proofs.fed.Given as goal

-- what was fed, and what is left of the message
abbrev pub invariant-loop-piece : goal.invariant-loop-piece
invariant-loop-piece l = (x : List ℕ) × (x ++ l.piece-iterator.rest.now ≡ l.message) × Fed l.hasher l.id x

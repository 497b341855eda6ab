-- The states that a run comes to: those that the calls which take a piece of the file at a time may be given.
use Rattle.std.specs.Prelude.{◌≡◌, List, ℕ}
use Rattle.machine.specs.Machine.{Setting, State, begun, run}

-- some bytes, from the first of the file on, lead to s
abbrev pub Reached : Setting → State → Type 0
Reached e s = (bytes : List ℕ) × (s ≡ run e (begun e.job.length) bytes)

-- What the probe leaves in the bytes lent to it.
use Rattle.std.specs.Prelude.{cond, List, ℕ, eqb, length}

-- 64 bytes are all written; any other number of bytes stays as it is
abbrev pub written : List ℕ → List ℕ → List ℕ
written out bytes = cond (eqb (length out) 64) bytes out

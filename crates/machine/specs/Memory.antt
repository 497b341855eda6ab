-- P14: memory, the stores applied in order to the lent bytes.
use Rattle.std.specs.Prelude.{List, [], ◌∷◌, ℕ, set}
use Rattle.board.specs.Map.{Region, offset}
use Rattle.machine.specs.Machine.{Store}

unfoldable pub applied : List Region → List ℕ → List Store → List ℕ
applied map memory [] = memory
applied map memory (x ∷ xs) = applied map (set memory (offset map x.address) x.byte) xs

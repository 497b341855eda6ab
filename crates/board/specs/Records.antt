-- A run of records, read one by one.
use Rattle.std.specs.Prelude.{List, [], ◌∷◌, ℕ, zero, suc}

-- n records from number i on, as `read` gives each
unfoldable pub records : {A : Type 0} → (ℕ → A) → ℕ → ℕ → List A
records read i zero = []
records read i (suc n) = read i ∷ records read (suc i) n

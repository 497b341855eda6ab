-- The hashes by their SBS hash IDs (H13, H14 of docs/FORMAT.md).
use Rattle.std.specs.Prelude.{ℕ, cond, List, [], ◌∷◌, ◌==◌}
use Rattle.hashes.specs.Tables.{SHA2-256, SHA2-384, SHA2-512}
use Rattle.hashes.specs.Compression.{sha2}

-- an algorithm: its ID, its digests' length in bytes, its digest of a message
pub record Algorithm : Type 0 where
  pub id : ℕ
  pub bytes : ℕ
  pub digest : List ℕ → List ℕ

abbrev pub algorithm : ℕ → ℕ → (List ℕ → List ℕ) → Algorithm
algorithm i n f = record { id = i; bytes = n; digest = f }

-- the supported algorithms
unfoldable pub algorithms : List Algorithm
algorithms =
    algorithm 2 32 (sha2 SHA2-256)
    ∷ algorithm 3 48 (sha2 SHA2-384)
    ∷ algorithm 4 64 (sha2 SHA2-512)
    ∷ []

-- the algorithm of an ID; for every other ID one whose digests are empty
unfoldable pub algorithm_of : List Algorithm → ℕ → Algorithm
algorithm_of [] i = algorithm i 0 (λ m. [])
algorithm_of (x ∷ xs) i = cond (i == x.id) x (algorithm_of xs i)

-- the digest of a message, by the ID
unfoldable pub digest : ℕ → List ℕ → List ℕ
digest i m = (algorithm_of algorithms i).digest m

-- its length in bytes
unfoldable pub digest_length : ℕ → ℕ
digest_length i = (algorithm_of algorithms i).bytes

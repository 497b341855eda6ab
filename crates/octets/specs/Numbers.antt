-- The numbers that bytes spell, and the bytes that spell a number.
use Rattle.std.specs.Prelude.{List, [], ◌∷◌, reverse, ℕ, zero, suc, ◌+◌, ◌*◌, ◌/◌, ◌%◌}

-- the number that the bytes spell, lowest byte first (little-endian)
unfoldable pub little : List ℕ → ℕ
little [] = 0
little (b ∷ bs) = b + 256 * little bs

-- the n lowest bytes of x, lowest first
unfoldable pub little_bytes : ℕ → ℕ → List ℕ
little_bytes zero x = []
little_bytes (suc n) x = x % 256 ∷ little_bytes n (x / 256)

-- the number that the bytes spell, highest byte first (big-endian)
abbrev pub big : List ℕ → ℕ
big bs = little (reverse bs)

-- the n lowest bytes of x, highest first
abbrev pub big_bytes : ℕ → ℕ → List ℕ
big_bytes n x = reverse (little_bytes n x)

-- Padding and parsing a message: FIPS 180-4, sections 5.1 and 5.2.
use Rattle.std.specs.Prelude.{ℕ, zero, suc, ◌+◌, ◌-◌, ◌*◌, ◌/◌, ◌%◌, List, [], ◌∷◌, ◌++◌, length, replicate}
use Rattle.octets.specs.Numbers.{big, big_bytes}
use Rattle.octets.specs.Parts.{part}
use Rattle.hashes.specs.Widths.{Width}

-- the bytes of a word, of a block (16 words) and of the length field (2 words)
abbrev pub word_bytes : Width → ℕ
word_bytes P = P.w / 8

abbrev pub block_bytes : Width → ℕ
block_bytes P = 16 * word_bytes P

abbrev pub field_bytes : Width → ℕ
field_bytes P = 2 * word_bytes P

-- 5.1.1, 5.1.2: as few zero bytes as fill the last block, where a message of n bytes, the byte 0x80 and the length field stand in it too
abbrev pub zero_bytes : Width → ℕ → ℕ
zero_bytes P n = (block_bytes P - (n + 1 + field_bytes P) % block_bytes P) % block_bytes P

-- 5.1.1, 5.1.2: the bit 1 and zero bits, then the message's length in bits (modulo 2^2w)
unfoldable pub padded : Width → List ℕ → List ℕ
padded P m = m ++ (0x80 ∷ replicate (zero_bytes P (length m)) 0) ++ big_bytes (field_bytes P) (8 * length m)

-- the first n words that bytes spell from offset at on, the highest byte of each first (3.1)
unfoldable pub words_at : Width → List ℕ → ℕ → ℕ → List ℕ
words_at P s at zero = []
words_at P s at (suc n) = words_at P s at n ++ (big (part s (at + n * word_bytes P) (word_bytes P)) ∷ [])

-- 5.2.1, 5.2.2: block i, its 16 words
abbrev pub block : Width → List ℕ → ℕ → List ℕ
block P s i = words_at P s (i * block_bytes P) 16

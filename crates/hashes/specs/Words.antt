-- Operations on words of w bits: FIPS 180-4, sections 2.2.2, 3.2, 4.1.2 and 4.1.3.
use Rattle.std.specs.Prelude.{ℕ, ◌+◌, ◌-◌, ◌*◌, ◌/◌, ◌%◌, ◌^◌, bit_and, bit_or, bit_xor}

-- 3.2 (2): x + y modulo 2^w
abbrev pub add : ℕ → ℕ → ℕ → ℕ
add w x y = (x + y) % 2 ^ w

-- 3.2 (3): SHR^n(x) = x >> n
abbrev pub shr : ℕ → ℕ → ℕ
shr n x = x / 2 ^ n

-- 2.2.2: x << n, what passes the left end is dropped
abbrev pub shl : ℕ → ℕ → ℕ → ℕ
shl w n x = x * 2 ^ n % 2 ^ w

-- 3.2 (4): ROTR^n(x) = (x >> n) ∨ (x << w - n)
abbrev pub rotr : ℕ → ℕ → ℕ → ℕ
rotr w n x = bit_or (shr n x) (shl w (w - n) x)

-- 2.2.2: the complement of each bit
abbrev pub complement : ℕ → ℕ → ℕ
complement w x = 2 ^ w - 1 - x

-- 4.1.2 (4.2), 4.1.3 (4.8): Ch(x, y, z) = (x ∧ y) ⊕ (¬x ∧ z)
abbrev pub ch : ℕ → ℕ → ℕ → ℕ → ℕ
ch w x y z = bit_xor (bit_and x y) (bit_and (complement w x) z)

-- 4.1.2 (4.3), 4.1.3 (4.9): Maj(x, y, z) = (x ∧ y) ⊕ (x ∧ z) ⊕ (y ∧ z)
abbrev pub maj : ℕ → ℕ → ℕ → ℕ
maj x y z = bit_xor (bit_xor (bit_and x y) (bit_and x z)) (bit_and y z)

-- three amounts, as the functions Σ and σ of 4.1.2 and 4.1.3 have them
pub record Amounts : Type 0 where
  pub first : ℕ
  pub second : ℕ
  pub third : ℕ

-- 4.1.2 (4.4), (4.5), 4.1.3 (4.10), (4.11): Σ(x) = ROTR^a(x) ⊕ ROTR^b(x) ⊕ ROTR^c(x)
abbrev pub big_sigma : ℕ → Amounts → ℕ → ℕ
big_sigma w n x = bit_xor (bit_xor (rotr w n.first x) (rotr w n.second x)) (rotr w n.third x)

-- 4.1.2 (4.6), (4.7), 4.1.3 (4.12), (4.13): σ(x) = ROTR^a(x) ⊕ ROTR^b(x) ⊕ SHR^c(x)
abbrev pub small_sigma : ℕ → Amounts → ℕ → ℕ
small_sigma w n x = bit_xor (bit_xor (rotr w n.first x) (rotr w n.second x)) (shr n.third x)

-- The memory map: which maps are taken, which ranges are RAM, and which byte of the lent memory an address is.
use Rattle.std.specs.Prelude.{Bool, true, false, not, cond, List, [], ◌∷◌, ℕ, ◌+◌, ◌-◌, ◌*◌, ◌/◌, ◌%◌, ◌^◌, min, max, eqb, leb, ltb, length}
use Rattle.octets.specs.Numbers.{little}
use Rattle.octets.specs.Parts.{part}
use Rattle.answers.specs.Rules.{Rule, rule}
use Rattle.board.specs.Records.{records}

pub record Region : Type 0 where
  pub base : ℕ
  pub length : ℕ

-- the address behind a region's last byte
abbrev pub end : Region → ℕ
end r = r.base + r.length

-- M1: record i of the map: base, length, each 64-bit little-endian
abbrev pub region : List ℕ → ℕ → Region
region map i = record { base = little (part map (16 * i) 8); length = little (part map (16 * i + 8) 8) }

abbrev pub regions : List ℕ → List Region
regions map = records (region map) 0 (length map / 16)

-- M3 to M5: each length at least 1, each base at or above the end of the region before, each end at most 2^52
unfoldable pub ordered : ℕ → List Region → Bool
ordered low [] = true
ordered low (r ∷ rs) =
    cond (ltb r.length 1) false
    (cond (ltb r.base low) false (cond (ltb (2 ^ 52) (end r)) false (ordered (end r) rs)))

-- M6, M8: the sum of the lengths
unfoldable pub total : List Region → ℕ
total [] = 0
total (r ∷ rs) = r.length + total rs

-- N2: the map breaks a rule, or the memory length differs: whole records (M1), 1 to 16 of them (M2), in order,
-- at most 2^32 bytes in all (M6), and as many as are lent (M8)
abbrev pub map_rules : List ℕ → ℕ → List Rule
map_rules map memory =
    rule 2 (not (eqb (length map % 16) 0))
    ∷ rule 2 (eqb (length map / 16) 0)
    ∷ rule 2 (ltb 16 (length map / 16))
    ∷ rule 2 (not (ordered 0 (regions map)))
    ∷ rule 2 (ltb (2 ^ 32) (total (regions map)))
    ∷ rule 2 (not (eqb memory (total (regions map))))
    ∷ []

-- M10: the lowest address at or above a that is in no region, of regions in order; touching ones count as joined
unfoldable pub uncovered : List Region → ℕ → ℕ
uncovered [] a = a
uncovered (r ∷ rs) a = uncovered rs (cond (leb r.base a) (max a (end r)) a)

-- R5, R6: a range is RAM if each of its bytes lies in a region; for n = 0 it always is
abbrev pub ram : List Region → ℕ → ℕ → Bool
ram rs a n = leb (a + n) (uncovered rs a)

-- M9: the byte of lent memory that address a is: as many bytes of RAM lie below it
unfoldable pub offset : List Region → ℕ → ℕ
offset [] a = 0
offset (r ∷ rs) a = min r.length (a - r.base) + offset rs a

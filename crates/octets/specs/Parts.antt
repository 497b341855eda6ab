-- Parts of lists of bytes, and what a test of a whole list says.
use Rattle.std.specs.Prelude.{Bool, true, false, ◌&&◌, List, [], ◌∷◌, ◌++◌, ℕ, ◌+◌, ◌<◌, eqb, length, get_or, take, drop}

-- the n bytes of s from offset at on
abbrev pub part : List ℕ → ℕ → ℕ → List ℕ
part s at n = take n (drop at s)

-- s with as many of its bytes as v has replaced by v, from offset at on
abbrev pub put : List ℕ → ℕ → List ℕ → List ℕ
put s at v = take at s ++ v ++ drop (at + length v) s

-- each element is a byte
abbrev pub Octets : List ℕ → Type 0
Octets s = (i : ℕ) → get_or s i 0 < 256

-- whether two lists are equal: as long, and the same at each place
unfoldable pub same : List ℕ → List ℕ → Bool
same [] [] = true
same [] (y ∷ ys) = false
same (x ∷ xs) [] = false
same (x ∷ xs) (y ∷ ys) = eqb x y && same xs ys

-- whether every byte is zero
unfoldable pub all_zero : List ℕ → Bool
all_zero [] = true
all_zero (x ∷ xs) = eqb x 0 && all_zero xs

-- Laws of hashsums: their length.
use mathlib.Core.Path.{◌≡◌, refl, ap₂, ◌∙◌}
use mathlib.Core.Bool.{Bool, true, false, true≢false, cond}
use mathlib.Core.List.{List, [], ◌∷◌}
use Prim.Native.Nat.{ℕ, zero, suc, ◌+◌, ◌*◌, ◌≤◌, ◌<◌}
use native.Mathlib.Nat.{lt_of_not-le}
use native.Mathlib.Omega.{arith}
use borrow.Author.Tests.{eqb-true, eqb-false}
use lib.Dec.{eqb}
use lib.ListN.{length, get_or, length-append}
use Rattle.hashes.specs.Digests.{digest, digest_length}
use Rattle.hashes.proofs.Theorems.{length-digest, digest_length-most, digest_length-high}
use Rattle.chain.specs.Hashsum.{hashsum, sum_length, any_unknown}

pub length-hashsum : (ids : List ℕ) (bytes : List ℕ) → length (hashsum ids bytes) ≡ sum_length ids
unfolding hashsum sum_length
length-hashsum [] bytes = refl
length-hashsum (id ∷ ids) bytes =
    length-append (digest id bytes) (hashsum ids bytes)
    ∙ ap₂ (λ (x y : ℕ). x + y) (length-digest id bytes) (length-hashsum ids bytes)

pub sum_length-at-most : (ids : List ℕ) → sum_length ids ≤ 64 * length ids
unfolding sum_length
sum_length-at-most [] = omega arith
sum_length-at-most (id ∷ ids) = omega (arith, digest_length-most id, sum_length-at-most ids)

-- four hash IDs
pub sum_length-four : (ids : List ℕ) → length ids ≡ 4 → sum_length ids ≤ 256
sum_length-four ids e = omega (arith, sum_length-at-most ids)

-- a known ID fits its two bytes
known-first : (id : ℕ) (rest : Bool) → cond (eqb id 0) rest (cond (eqb (digest_length id) 0) true rest) ≡ false
    → (id < 65536) × (rest ≡ false)
known-first id rest e = go (eqb id 0) (eqb (digest_length id) 0) refl refl e
  where
    go : (a b : Bool) → eqb id 0 ≡ a → eqb (digest_length id) 0 ≡ b → cond a rest (cond b true rest) ≡ false
        → (id < 65536) × (rest ≡ false)
    go true b p q r = (let z : id ≡ 0 = eqb-true id 0 p in omega arith, r)
    go false true p q r = absurd (true≢false r)
    go false false p q r = (lt_of_not-le (λ h. eqb-false (digest_length id) 0 q (digest_length-high id h)), r)

pub known-narrow : (ids : List ℕ) → any_unknown ids ≡ false → (i : ℕ) → get_or ids i 0 < 65536
unfolding any_unknown
known-narrow [] e i = omega arith
known-narrow (id ∷ ids) e zero = (known-first id (any_unknown ids) e).0
known-narrow (id ∷ ids) e (suc i) = known-narrow ids (known-first id (any_unknown ids) e).1 i

-- Laws of a run of records, and of the parts of a slice that hold one record each.
use mathlib.Core.Path.{◌≡◌, refl, sym, ap, ap₂, subst, ◌∙◌}
use mathlib.Core.List.{List, ◌∷◌}
use mathlib.Core.Logic.{◌⊎◌, inl, inr}
use Prim.Native.Nat.{ℕ, zero, suc, ◌+◌, ◌≤◌, ◌<◌}
use native.Mathlib.Nat.{eq-or-lt_of_le}
use native.Mathlib.Omega.{arith}
use lib.ListN.{length, take, drop}
use lib.Seq.{take-take, drop-drop}
use Rattle.octets.proofs.PartLaws.{part-of-take}
use Rattle.octets.specs.Parts.{part}
use Rattle.std.proofs.Common.{◌*◌, map}
use Rattle.std.specs.Simd.{first_chunks}
use Rattle.std.proofs.Math.Nat.{mul-suc, mul-zero}
use Rattle.board.specs.Records.{records}

module _ {A : Type 0} (read : ℕ → A) where
  pub length-records : (i n : ℕ) → length (records read i n) ≡ n
  unfolding records
  length-records i zero = refl
  length-records i (suc n) = ap suc (length-records (suc i) n)

  -- the first k of n records
  pub take-records : (i n k : ℕ) → k ≤ n → take k (records read i n) ≡ records read i k
  unfolding records
  take-records i n zero h = refl
  take-records i zero (suc k) h = absurd (omega arith)
  take-records i (suc n) (suc k) h = ap (λ (l : List A). read i ∷ l) (take-records (suc i) n k (omega arith))

-- what holds of record i and of the n behind it holds of each of them
pub each_more : (P : ℕ → Type 0) (i n : ℕ) → P i → ((j : ℕ) → suc i ≤ j → j < suc i + n → P j) → (j : ℕ) → i ≤ j → j < i + suc n → P j
each_more P i n p f j l h = go (eq-or-lt_of_le l)
  where
    go : (i ≡ j) ⊎ (i < j) → P j
    go (inl e) = subst P e p
    go (inr m) = f j m (omega arith)

-- ---- the parts of a slice

-- a part of a part
pub part-part : (s : List ℕ) (a m b n : ℕ) → b + n ≤ m → part (part s a m) b n ≡ part s (a + b) n
part-part s a m b n h =
    part-of-take (part s a m) b n ∙ ap (drop b) (take-take (b + n) m (drop a s) h) ∙ sym (part-of-take (drop a s) b n)
    ∙ ap (take n) (drop-drop b a s)

-- records of k bytes, where a record alone reads as it does in its place
module _ {A : Type 0} (read : List ℕ → ℕ → A) (k : ℕ) (s : List ℕ) (alone : (i : ℕ) → read (part s (k * i) k) 0 ≡ read s i) where
  chunks-from : (i n : ℕ) → records (read s) i n ≡ map (λ c. read c 0) (first_chunks k n (drop (k * i) s))
  unfolding records
  chunks-from i zero = refl
  chunks-from i (suc n) =
      ap₂ ◌∷◌ (sym (alone i))
      (chunks-from (suc i) n
      ∙ ap (λ (t : List ℕ). map (λ c. read c 0) (first_chunks k n t)) (ap (λ (j : ℕ). drop j s) (mul-suc k i) ∙ sym (drop-drop k (k * i) s)))

  pub records-chunks : (n : ℕ) → records (read s) 0 n ≡ map (λ c. read c 0) (first_chunks k n s)
  records-chunks n = chunks-from 0 n ∙ ap (λ (j : ℕ). map (λ c. read c 0) (first_chunks k n (drop j s))) (mul-zero k)

-- Laws of the bytes of a hash value, over the width, and of the digests that are cut from them.
use Rattle.std.proofs.Common.{◌≡◌, ℕ, zero, suc, ◌+◌, ◌-◌, ◌*◌, ◌<◌, ◌≤◌, List, ◌++◌, length, get_or, take, drop, replicate, sym, ap, ◌∙◌, ap₂, append-nil, le_trans, add-zero, add-suc, mul-le-mul_right, suc-mul, add-mul, add-sub_of_le, zero-mul, add-one, arith, length-append, drop_of_length-le, length-take-le, take_all, take_at}
use native.Mathlib.Nat.{sub-zero}
use native.Mathlib.Nat.{suc-sub-suc, zero-sub}
use lib.ListN.{length-replicate}
use lib.Seq.{drop-append-add, take-append-le}
use Rattle.octets.specs.Numbers.{big_bytes}
use Rattle.octets.specs.Parts.{put, Octets}
use Rattle.octets.proofs.NumberLaws.{length-big_bytes, octets-big_bytes}
use Rattle.octets.proofs.PartLaws.{octets-append, octets-take}
use Rattle.hashes.specs.Widths.{Width, Eight, Hash, in_order}
use Rattle.hashes.specs.Padding.{word_bytes}
use Rattle.hashes.specs.Compression.{hashed, joined, sha2}
use Rattle.hashes.specs.Code.{in_sixty_four, first_words}

drop-replicate : (k n a : ℕ) → drop k (replicate n a) ≡ replicate (n - k) a
drop-replicate zero n a = ap (λ (j : ℕ). replicate j a) (sym (sub-zero n))
drop-replicate (suc k) zero a = ap (λ (j : ℕ). replicate j a) (sym (zero-sub (suc k)))
drop-replicate (suc k) (suc n) a = drop-replicate k n a ∙ ap (λ (j : ℕ). replicate j a) (sym (suc-sub-suc n k))

-- bytes and the zeros behind them are 64
pub length-in_sixty_four : (s : List ℕ) → length s ≤ 64 → length (in_sixty_four s) ≡ 64
length-in_sixty_four s l =
    let n : ℕ = 64 - length s in
    omega (arith, length-append s (replicate n 0), length-replicate {A = ℕ} n 0)

-- 64 bytes, zeros put over all of them
pub zeros-in-sixty-four : (out : List ℕ) → length out ≡ 64 → put out 0 (replicate 64 0) ≡ replicate 64 0
zeros-in-sixty-four out l =
    ap (λ (s : List ℕ). replicate 64 0 ++ s) (drop_of_length-le out {i = 64} (omega arith)) ∙ append-nil (replicate 64 0)

module _ (P : Width) (ws : List ℕ) where
  length-joined : (n : ℕ) → length (joined P ws n) ≡ n * word_bytes P
  unfolding joined
  length-joined zero = sym (zero-mul (word_bytes P))
  length-joined (suc n) =
      length-append (joined P ws n) (big_bytes (word_bytes P) (get_or ws n 0))
      ∙ ap₂ (λ (a b : ℕ). a + b) (length-joined n) (length-big_bytes (word_bytes P) (get_or ws n 0))
      ∙ sym (suc-mul n (word_bytes P))

  octets-joined : (n : ℕ) → Octets (joined P ws n)
  unfolding joined
  octets-joined zero = λ i. omega arith
  octets-joined (suc n) =
      octets-append (joined P ws n) (big_bytes (word_bytes P) (get_or ws n 0)) (octets-joined n) (octets-big_bytes (word_bytes P) (get_or ws n 0))

  take-joined : (n k : ℕ) → take (n * word_bytes P) (joined P ws (n + k)) ≡ joined P ws n
  unfolding joined
  take-joined n zero =
      ap (λ (j : ℕ). take (n * word_bytes P) (joined P ws j)) (add-zero n)
      ∙ take_all (n * word_bytes P) (joined P ws n) (omega (arith, length-joined n))
  take-joined n (suc k) =
      ap (λ (j : ℕ). take (n * word_bytes P) (joined P ws j)) (add-suc n k)
      ∙ take-append-le (n * word_bytes P) (joined P ws (n + k)) (big_bytes (word_bytes P) (get_or ws (n + k) 0))
      (omega (arith, length-joined (n + k), add-mul n k (word_bytes P)))
      ∙ take-joined n k

  -- a loop that stores n words into 64 zero bytes, at i
  pub record Storing (n : ℕ) (out : List ℕ) (i : ℕ) : Type 0 where
    pub until : i ≤ n
    pub room : length out ≡ 64
    pub stored : out ≡ in_sixty_four (joined P ws i)

  pub store-none : (n : ℕ) (out : List ℕ) {zeros : List ℕ} → length out ≡ 64 → zeros ≡ put out 0 (replicate 64 0) → Storing n zeros 0
  unfolding joined
  store-none n out l e =
      let f = e ∙ zeros-in-sixty-four out l in
      record { until = omega arith; room = ap length f; stored = f }

  pub stored-more : (n i : ℕ) {out r : List ℕ} → n * word_bytes P ≤ 64 → i < n → Storing n out i
      → r ≡ put out (i * word_bytes P) (big_bytes (word_bytes P) (get_or ws i 0)) → Storing n r (i + 1)
  unfolding joined
  stored-more n i {out} {r} l h s e =
      record {
        until = omega arith;
        room = ap length all ∙ length-sixty-four;
        stored = all ∙ ap (λ (j : ℕ). in_sixty_four (joined P ws j)) (sym (add-one i));
      }
    where
      v : ℕ
      v = word_bytes P

      word : List ℕ
      word = big_bytes v (get_or ws i 0)

      before : List ℕ
      before = joined P ws i

      length-word : length word ≡ v
      length-word = length-big_bytes v (get_or ws i 0)

      fits : i * v + v ≤ 64
      fits = le_trans (omega (arith, suc-mul i v, mul-le-mul_right v h)) l

      length_both : length (before ++ word) ≡ i * v + v
      length_both = length-append before word ∙ ap₂ (λ (a b : ℕ). a + b) (length-joined i) length-word

      zeros : List ℕ
      zeros = replicate (64 - length before) 0

      left : 64 - length before - length word ≡ 64 - length (before ++ word)
      left = omega (arith, length-append before word)

      behind : drop (i * v + length word) (before ++ zeros) ≡ replicate (64 - length (before ++ word)) 0
      behind =
          ap (λ (k : ℕ). drop (k + length word) (before ++ zeros)) (sym (length-joined i))
          ∙ drop-append-add before zeros (length word)
          ∙ drop-replicate (length word) (64 - length before) 0
          ∙ ap (λ (k : ℕ). replicate k 0) left

      all : r ≡ in_sixty_four (before ++ word)
      all =
          e
          ∙ ap (λ (s : List ℕ). put s (i * v) word) s.stored
          ∙ ap₂ (λ (s t : List ℕ). s ++ word ++ t) (take_at before zeros (i * v) (length-joined i)) behind

      length-sixty-four : length (in_sixty_four (before ++ word)) ≡ 64
      length-sixty-four = length-in_sixty_four (before ++ word) (omega (arith, length_both, fits))

  -- of at most eight words, each of at most eight bytes
  pub store-more : (n i : ℕ) {out r : List ℕ} {x j k : ℕ} → n ≤ 8 → k ≤ 8 → j ≡ word_bytes P → k ≡ word_bytes P → i < n → Storing n out i
      → x ≡ get_or ws i 0 → r ≡ put out (i * j) (big_bytes k x) → Storing n r (i + 1)
  store-more n i {out} {r} {x} {j} {k} ln lk bj bk h s ex e =
      stored-more n i (le_trans (mul-le-mul_right (word_bytes P) ln) (omega (arith, bk))) h s
      (e
      ∙ ap (λ (j : ℕ). put out (i * j) (big_bytes k x)) bj
      ∙ ap₂ (λ (k x : ℕ). put out (i * word_bytes P) (big_bytes k x)) bk ex)

  pub store-all : (n i : ℕ) {out : List ℕ} → n ≤ i → Storing n out i → out ≡ in_sixty_four (joined P ws n)
  store-all n i l s =
      let e : i ≡ n = omega arith in
      s.stored ∙ ap (λ (j : ℕ). in_sixty_four (joined P ws j)) e

-- ---- a whole digest

module _ (X : Hash) (m : List ℕ) where
  -- of the first n words of the message's hash value
  pub sha2-of : (n : ℕ) → n ≤ 8 → X.bytes ≡ n * word_bytes X.width → {u : Eight} {r : List ℕ} → u ≡ X.initial
      → r ≡ first_words X.width (hashed X.width u m) n → r ≡ in_sixty_four (sha2 X m)
  unfolding sha2
  sha2-of n l b {u} {r} eu er =
      er
      ∙ ap in_sixty_four
      (ap (λ (u : Eight). joined X.width (in_order (hashed X.width u m)) n) eu
      ∙ sym (take-joined X.width words n (8 - n))
      ∙ ap₂ (λ (j k : ℕ). take j (joined X.width words k)) (sym b) (add-sub_of_le l))
    where
      words : List ℕ
      words = in_order (hashed X.width X.initial m)

  pub length-sha2 : X.bytes ≤ 8 * word_bytes X.width → length (sha2 X m) ≡ X.bytes
  unfolding sha2
  length-sha2 l =
      length-take-le X.bytes (joined X.width (in_order (hashed X.width X.initial m)) 8)
      (omega (arith, length-joined X.width (in_order (hashed X.width X.initial m)) 8))

  pub octets-sha2 : Octets (sha2 X m)
  unfolding sha2
  octets-sha2 =
      octets-take X.bytes (joined X.width (in_order (hashed X.width X.initial m)) 8)
      (octets-joined X.width (in_order (hashed X.width X.initial m)) 8)

-- The hash computation: FIPS 180-4, sections 6.2.2 and 6.4.2.
use Rattle.std.specs.Prelude.{ℕ, zero, suc, ◌+◌, ◌-◌, ◌/◌, List, [], ◌∷◌, ◌++◌, length, take, slice_index}
use Rattle.octets.specs.Numbers.{big_bytes}
use Rattle.hashes.specs.Words.{add, ch, maj, big_sigma, small_sigma}
use Rattle.hashes.specs.Widths.{Width, Eight, Hash, in_order}
use Rattle.hashes.specs.Padding.{word_bytes, block_bytes, padded, block}

-- step 1, for t from 16 on: W_t = σ₁(W_t-2) + W_t-7 + σ₀(W_t-15) + W_t-16, of these four words
abbrev pub mixed : Width → ℕ → ℕ → ℕ → ℕ → ℕ
mixed P x y z u =
    add P.w (add P.w (add P.w (small_sigma P.w P.σ₁ x) y) (small_sigma P.w P.σ₀ z)) u

-- the same, said of t + 16
abbrev pub next_word : Width → List ℕ → ℕ → ℕ
next_word P W t = mixed P (slice_index W (t + 14)) (slice_index W (t + 9)) (slice_index W (t + 1)) (slice_index W t)

-- the words of the schedule with the next one
unfoldable pub with_next : Width → ℕ → List ℕ → List ℕ
with_next P t W = W ++ (next_word P W t ∷ [])

-- step 1: the message schedule of a block, its first 16 + t words
unfoldable pub scheduled : Width → List ℕ → ℕ → List ℕ
scheduled P M zero = M
scheduled P M (suc t) = with_next P t (scheduled P M t)

abbrev pub schedule : Width → List ℕ → List ℕ
schedule P M = scheduled P M (P.rounds - 16)

-- step 3: T₁ = h + Σ₁(e) + Ch(e, f, g) + K_t + W_t
abbrev pub T₁ : Width → ℕ → ℕ → Eight → ℕ
T₁ P K W v =
    add P.w
    (add P.w (add P.w (add P.w v.h (big_sigma P.w P.Σ₁ v.e)) (ch P.w v.e v.f v.g)) K)
    W

-- step 3: T₂ = Σ₀(a) + Maj(a, b, c)
abbrev pub T₂ : Width → Eight → ℕ
T₂ P v = add P.w (big_sigma P.w P.Σ₀ v.a) (maj v.a v.b v.c)

-- step 3: one round, with the constant K_t and the word W_t
unfoldable pub round : Width → ℕ → ℕ → Eight → Eight
round P K W v =
    record {
      a = add P.w (T₁ P K W v) (T₂ P v);
      b = v.a;
      c = v.b;
      d = v.c;
      e = add P.w v.d (T₁ P K W v);
      f = v.e;
      g = v.f;
      h = v.g;
    }

-- step 3: the working variables after t rounds
unfoldable pub after_rounds : Width → List ℕ → Eight → ℕ → Eight
after_rounds P W H zero = H
after_rounds P W H (suc t) = round P (slice_index P.K t) (slice_index W t) (after_rounds P W H t)

-- step 4: each working variable added to its word of the hash value
unfoldable pub summed : Width → Eight → Eight → Eight
summed P v H =
    record {
      a = add P.w v.a H.a;
      b = add P.w v.b H.b;
      c = add P.w v.c H.c;
      d = add P.w v.d H.d;
      e = add P.w v.e H.e;
      f = add P.w v.f H.f;
      g = add P.w v.g H.g;
      h = add P.w v.h H.h;
    }

-- steps 1 to 4: the hash value H with the block of words M worked in
unfoldable pub compressed : Width → Eight → List ℕ → Eight
compressed P H M = summed P (after_rounds P (schedule P M) H P.rounds) H

-- the hash value after the first i blocks of s
unfoldable pub after_blocks : Width → Eight → List ℕ → ℕ → Eight
after_blocks P H s zero = H
after_blocks P H s (suc i) = compressed P (after_blocks P H s i) (block P s i)

-- the hash value of a message: after every block of it, padded
unfoldable pub hashed : Width → Eight → List ℕ → Eight
hashed P H m = after_blocks P H (padded P m) (length (padded P m) / block_bytes P)

-- the first n of the words ws as bytes, the highest byte of each word first (3.1): H_0 ‖ H_1 ‖ ..
unfoldable pub joined : Width → List ℕ → ℕ → List ℕ
joined P ws zero = []
joined P ws (suc n) = joined P ws n ++ big_bytes (word_bytes P) (slice_index ws n)

-- 6.2.2, 6.4.2, 6.5: the digest, the first bytes of the last hash value
unfoldable pub sha2 : Hash → List ℕ → List ℕ
sha2 X m = take X.bytes (joined X.width (in_order (hashed X.width X.initial m)) 8)

-- Laws of the blocks of a message, over the width: loading one, working in one after the other, and the last one's length field.
use Rattle.std.proofs.Common.{◌≡◌, ℕ, zero, suc, ◌+◌, ◌*◌, ◌/◌, ◌%◌, ◌^◌, ◌<◌, ◌≤◌, List, [], ◌∷◌, ◌++◌, length, take, drop, set, sym, refl, ap, ◌∙◌, subst, ap₂, add-zero, add_assoc, add-suc, suc-mul, add-mul, add-one, arith, length-append, length-drop, length-set, drop-drop, one-mul, zero-mul, take-suc-set}
use native.Mathlib.Nat.{div_self, div-eq_of_lt, mul-add-div_right}
use lib.Seq.{drop-append_seam, take-append-le, drop-append-le}
use Rattle.octets.specs.Numbers.{big, big_bytes}
use Rattle.octets.specs.Parts.{part, put}
use Rattle.octets.proofs.NumberLaws.{big-big_bytes, big_bytes-big, length-big_bytes, octets-big_bytes, put-big}
use Rattle.hashes.specs.Widths.{Width, Eight}
use Rattle.hashes.specs.Padding.{word_bytes, block_bytes, words_at}
use Rattle.hashes.specs.Compression.{compressed, after_blocks}
use Rattle.hashes.specs.Progress.{Rounds}
use Rattle.hashes.proofs.Rounds.{none_done}

-- ---- the words of a block

module _ (P : Width) (s : List ℕ) where
  length-words_at : (n : ℕ) → length (words_at P s 0 n) ≡ n
  unfolding words_at
  length-words_at zero = refl
  length-words_at (suc n) =
      length-append (words_at P s 0 n) (big (part s (0 + n * word_bytes P) (word_bytes P)) ∷ [])
      ∙ ap (λ (k : ℕ). k + 1) (length-words_at n)
      ∙ add-one n

  -- a loop that loads n words, at i
  pub record Loading (n : ℕ) (W : List ℕ) (i : ℕ) : Type 0 where
    pub until : i ≤ 16
    pub room : length W ≡ n
    pub words : take i W ≡ words_at P s 0 i

  pub load-none : {W : List ℕ} → length W ≡ P.rounds → Loading P.rounds W 0
  unfolding words_at
  load-none l = record { until = omega arith; room = l; words = refl }

  pub load-more : {i x : ℕ} {W : List ℕ} → i < 16 → 16 ≤ P.rounds → Loading P.rounds W i
      → {n k : ℕ} → n ≡ word_bytes P → k ≡ word_bytes P → x ≡ big (part s (i * n) k) → Loading P.rounds (set W i x) (i + 1)
  unfolding words_at
  load-more {i} {x} {W} l m h bn bk e =
      record {
        until = omega arith;
        room = length-set W i x ∙ h.room;
        words =
            ap (λ (k : ℕ). take k (set W i x)) (add-one i)
            ∙ take-suc-set W i x (omega (arith, h.room))
            ∙ ap₂ (λ (t : List ℕ) (y : ℕ). t ++ (y ∷ [])) h.words (e ∙ ap₂ (λ (n k : ℕ). big (part s (i * n) k)) bn bk ∙ ap (λ (j : ℕ). big (part s j (word_bytes P))) (omega arith))
            ∙ ap (words_at P s 0) (sym (add-one i));
      }

  pub load-all : {i : ℕ} {W : List ℕ} → 16 ≤ i → Loading P.rounds W i → (H : Eight) → Rounds P H (words_at P s 0 16) 0 H W
  load-all {i} {W} l h H =
      let e : i ≡ 16 = omega arith in
      none_done P H (words_at P s 0 16) (length-words_at 16) h.room
      (subst (λ (k : ℕ). take k W ≡ words_at P s 0 k) e h.words)

-- words that stand in a first part are those of the whole
words_at-append : (P : Width) (s t : List ℕ) (at n : ℕ) → at + n * word_bytes P ≤ length s → words_at P (s ++ t) at n ≡ words_at P s at n
unfolding words_at
words_at-append P s t at zero l = refl
words_at-append P s t at (suc n) l =
    let m : at + n * word_bytes P + word_bytes P ≤ length s = omega (arith, suc-mul n (word_bytes P)) in
    let d : word_bytes P ≤ length (drop (at + n * word_bytes P) s) = omega (arith, length-drop (at + n * word_bytes P) s) in
    ap₂ (λ (u : List ℕ) (b : List ℕ). u ++ (big b ∷ [])) (words_at-append P s t at n (omega arith))
    (ap (take (word_bytes P)) (drop-append-le (at + n * word_bytes P) s t (omega arith))
    ∙ take-append-le (word_bytes P) (drop (at + n * word_bytes P) s) t d)

-- words behind k bytes
words_at-drop : (P : Width) (s : List ℕ) (k at n : ℕ) → words_at P (drop k s) at n ≡ words_at P s (k + at) n
unfolding words_at
words_at-drop P s k at zero = refl
words_at-drop P s k at (suc n) =
    ap₂ (λ (u : List ℕ) (b : List ℕ). u ++ (big b ∷ [])) (words_at-drop P s k at n)
    (ap (take (word_bytes P)) (drop-drop (at + n * word_bytes P) k s ∙ ap (λ (j : ℕ). drop j s) (sym (add_assoc k at (n * word_bytes P)))))

-- ---- blocks one after the other

module _ (P : Width) where
  pub after_blocks-append : (H : Eight) (s t : List ℕ) (i : ℕ) → i * block_bytes P ≤ length s
      → after_blocks P H (s ++ t) i ≡ after_blocks P H s i
  unfolding after_blocks
  after_blocks-append H s t zero l = refl
  after_blocks-append H s t (suc i) l =
      let m : i * block_bytes P + block_bytes P ≤ length s = omega (arith, suc-mul i (block_bytes P)) in
      ap₂ (compressed P) (after_blocks-append H s t i (omega arith)) (words_at-append P s t (i * block_bytes P) 16 m)

  pub after_blocks-drop : (H : Eight) (s : List ℕ) (i j : ℕ)
      → after_blocks P (after_blocks P H s i) (drop (i * block_bytes P) s) j ≡ after_blocks P H s (i + j)
  unfolding after_blocks
  after_blocks-drop H s i zero = ap (after_blocks P H s) (sym (add-zero i))
  after_blocks-drop H s i (suc j) =
      ap₂ (compressed P) (after_blocks-drop H s i j)
      (words_at-drop P s (i * block_bytes P) (j * block_bytes P) 16 ∙ ap (λ (k : ℕ). words_at P s k 16) (sym (add-mul i j (block_bytes P))))
      ∙ ap (after_blocks P H s) (sym (add-suc i j))

  -- a loop that works in the blocks of s, where `rest` is left of it
  pub record Working (H : Eight) (s : List ℕ) (v : Eight) (rest : List ℕ) : Type 0 where
    pub ahead : after_blocks P v rest (length rest / block_bytes P) ≡ after_blocks P H s (length s / block_bytes P)

  pub work-more : (H : Eight) (s : List ℕ) {v r : Eight} (b rest : List ℕ) → 0 < word_bytes P → length b ≡ block_bytes P
      → r ≡ compressed P v (words_at P b 0 16) → Working H s v (b ++ rest) → Working H s r rest
  unfolding after_blocks
  work-more H s {v} {r} b rest some l e h =
      record {
        ahead =
            ap₂ (λ (u : Eight) (t : List ℕ). after_blocks P u t n) (e ∙ sym first) (sym behind)
            ∙ after_blocks-drop v (b ++ rest) 1 n
            ∙ ap (after_blocks P v (b ++ rest)) (sym blocks)
            ∙ h.ahead;
      }
    where
      size : ℕ
      size = block_bytes P

      n : ℕ
      n = length rest / size

      first : after_blocks P v (b ++ rest) 1 ≡ compressed P v (words_at P b 0 16)
      first =
          after_blocks-append v b rest 1 (omega (arith, one-mul size))
          ∙ ap (λ (k : ℕ). compressed P v (words_at P b k 16)) (zero-mul size)

      behind : drop (1 * size) (b ++ rest) ≡ rest
      behind = ap (λ (k : ℕ). drop k (b ++ rest)) (one-mul size ∙ sym l) ∙ drop-append_seam b rest

      blocks : length (b ++ rest) / size ≡ 1 + n
      blocks =
          ap (λ (k : ℕ). k / size) (omega (arith, length-append b rest, one-mul size))
          ∙ mul-add-div_right (omega arith) 1 (length rest)

  pub work-all : (H : Eight) (s : List ℕ) {v : Eight} (rest : List ℕ) → length rest < block_bytes P → Working H s v rest
      → v ≡ after_blocks P H s (length s / block_bytes P)
  unfolding after_blocks
  work-all H s {v} rest l h = sym (ap (after_blocks P v rest) (div-eq_of_lt l)) ∙ h.ahead

  pub work-nothing : (H : Eight) (s : List ℕ) {n : ℕ} → n ≡ 0 → H ≡ after_blocks P H s n
  unfolding after_blocks
  work-nothing H s e = sym (ap (after_blocks P H s) e)

  pub work-one : (H : Eight) (s : List ℕ) (size : ℕ) {r : Eight} → 0 < size → length s ≡ size → r ≡ after_blocks P H s (length s / size)
      → r ≡ after_blocks P H s 1
  work-one H s size some l e = e ∙ ap (after_blocks P H s) (ap (λ (k : ℕ). k / size) l ∙ div_self some)

-- ---- the length field

big_bytes-mod : (n x : ℕ) → big_bytes n (x % 256 ^ n) ≡ big_bytes n x
big_bytes-mod n x =
    ap₂ big_bytes (sym (length-big_bytes n x)) (sym (big-big_bytes n x)) ∙ big_bytes-big (big_bytes n x) (octets-big_bytes n x)

-- the length field, stored as one word of 64 bits and as two
module _ (s : List ℕ) (at n : ℕ) where
  pub field-in-one : {t : List ℕ} → t ≡ put s at (big_bytes 8 (n * 2 ^ 3 % 2 ^ 64)) → t ≡ put s at (big_bytes 8 (8 * n))
  field-in-one e =
      let f : n * 2 ^ 3 % 2 ^ 64 ≡ 8 * n % 256 ^ 8 = omega arith in
      e ∙ ap (put s at) (ap (big_bytes 8) f ∙ big_bytes-mod 8 (8 * n))

  pub field-in-two : {t u : List ℕ} → at + 16 ≤ length s → t ≡ put s at (big_bytes 8 (n / 2 ^ 61))
      → u ≡ put t (at + 8) (big_bytes 8 (n * 2 ^ 3 % 2 ^ 64))
      → u ≡ put s at (big_bytes 16 (8 * n))
  field-in-two {t} {u} l e f =
      let high : n / 2 ^ 61 ≡ 8 * n / 256 ^ 8 = omega arith in
      let low : n * 2 ^ 3 % 2 ^ 64 ≡ 8 * n % 256 ^ 8 = omega arith in
      put-big s t u at 8 (8 * n) l (e ∙ ap (λ (x : ℕ). put s at (big_bytes 8 x)) high)
      (f ∙ ap (λ (x : ℕ). put t (at + 8) (big_bytes 8 x)) low)

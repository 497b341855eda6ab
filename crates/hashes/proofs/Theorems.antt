-- What a reader of the hashes looks for, and what the layers above them use.
use Rattle.std.proofs.Common.{◌≡◌, ℕ, ◌+◌, ◌-◌, ◌*◌, ◌/◌, ◌%◌, ◌^◌, ◌<◌, ◌≤◌, List, [], ◌∷◌, ◌++◌, length, replicate, sym, refl, ap, ◌∙◌, subst, append_assoc, append-nil, mod-lt, div-add-mod', arith, length-append}
use mathlib.Core.List.{flatten}
use native.Mathlib.Nat.{add-mod-mod, add-mod_right, mod-le, mod_self, mul-mod_left, sub-zero}
use Rattle.std.proofs.lemmas.List.{nil_from_length}
use lib.Arith.{digits_mod}
use lib.ListN.{length-replicate}
use Rattle.octets.specs.Numbers.{little, little_bytes, big_bytes}
use Rattle.octets.specs.Parts.{Octets}
use Rattle.octets.proofs.NumberLaws.{length-big_bytes}
use Rattle.hashes.specs.declared.Hasher.{Hasher}
use Rattle.hashes.specs.Widths.{Width}
use Rattle.hashes.specs.Padding.{word_bytes, block_bytes, field_bytes, zero_bytes, padded, words_at}
use Rattle.hashes.specs.Tables.{K256, K512, initial256, initial384, SHA2-256, SHA2-384, SHA2-512}
use Rattle.hashes.specs.Compression.{with_next, scheduled, round, after_rounds, summed, compressed, after_blocks, hashed, joined, sha2}
use Rattle.hashes.specs.Digests.{algorithm_of, algorithms, digest, digest_length}
use Rattle.hashes.specs.Code.{in_sixty_four}
use Rattle.hashes.specs.Progress.{Fed, Feeds, Finishes}
use Rattle.hashes.proofs.Storing.{length-in_sixty_four, length-sha2, octets-sha2}
use Rattle.hashes.proofs.Algorithms.{every-algorithm, has-none, length-by}

-- a digest is as long as its hash ID says
pub length-digest : (i : ℕ) (m : List ℕ) → length (digest i m) ≡ digest_length i
unfolding digest digest_length
length-digest i m =
    every-algorithm (λ x. length (x.digest m) ≡ x.bytes) (λ i. refl) (length-sha2 SHA2-256 m (omega arith))
    (length-sha2 SHA2-384 m (omega arith)) (length-sha2 SHA2-512 m (omega arith)) i

-- a digest is of bytes
pub octets-digest : (i : ℕ) (m : List ℕ) → Octets (digest i m)
unfolding digest
octets-digest i m =
    every-algorithm (λ x. Octets (x.digest m)) (λ i j. omega arith) (octets-sha2 SHA2-256 m) (octets-sha2 SHA2-384 m)
    (octets-sha2 SHA2-512 m) i

-- no digest is longer than 64 bytes
pub digest_length-most : (i : ℕ) → digest_length i ≤ 64
unfolding digest_length
digest_length-most = every-algorithm (λ x. x.bytes ≤ 64) (λ i. omega arith) (omega arith) (omega arith) (omega arith)

-- the ID 0 has no digest, and no ID of more than 16 bits has one
pub digest_length-zero : digest_length 0 ≡ 0
digest_length-zero = length-by 0 (has-none (omega arith) (omega arith) (omega arith))

pub digest_length-high : (i : ℕ) → 65536 ≤ i → digest_length i ≡ 0
digest_length-high i l = length-by i (has-none (omega arith) (omega arith) (omega arith))

-- a digest and the zeros behind it are 64 bytes
pub digest-in-sixty-four : (i : ℕ) (m : List ℕ) → length (in_sixty_four (digest i m)) ≡ 64
digest-in-sixty-four i m = length-in_sixty_four (digest i m) (omega (arith, length-digest i m, digest_length-most i))

-- the digest of an ID that has none is zeros
pub no-digest : (i : ℕ) (m : List ℕ) → digest_length i ≡ 0 → in_sixty_four (digest i m) ≡ replicate 64 0
no-digest i m e = ap in_sixty_four (nil_from_length (digest i m) (length-digest i m ∙ e))

-- two results that the promise of the call `digest` allows are equal: the 64 bytes and the length
pub digest-determined : (i : ℕ) (m : List ℕ) {x y : List ℕ} {n k : ℕ} → x ≡ in_sixty_four (digest i m) → n ≡ digest_length i
    → y ≡ in_sixty_four (digest i m) → k ≡ digest_length i → (x ≡ y) × (n ≡ k)
digest-determined i m e f g h = (e ∙ sym g, f ∙ sym h)

-- ---- a message in pieces: begin, any number of pieces fed one after the other, and finish give the digest of the pieces joined

-- from one hasher to another by pieces fed one after the other, each as the call `fed` promises it
pub data FedBy : Hasher → List (List ℕ) → Hasher → Type 0 where
  none : {h : Hasher} → FedBy h [] h
  more : {h k r : Hasher} {p : List ℕ} {ps : List (List ℕ)} → Feeds h p k → FedBy k ps r → FedBy h (p ∷ ps) r

fed-all : (i : ℕ) (x : List ℕ) {h r : Hasher} {ps : List (List ℕ)} → Fed h i x → FedBy h ps r → Fed r i (x ++ flatten ps)
unfolding flatten
fed-all i x {h} f none = subst (Fed h i) (sym (append-nil x)) f
fed-all i x {r = r} f (more {p = p} {ps} g s) = subst (Fed r i) (append_assoc x p (flatten ps)) (fed-all i (x ++ p) (g i x f) s)

-- h as `begin` promises it of the ID i, r as `fed` does of the pieces, out and n as `finish` does of r
pub pieces-joined : (i : ℕ) {h r : Hasher} {ps : List (List ℕ)} {out : List ℕ} {n : ℕ} → length (flatten ps) < 2 ^ 64 → Fed h i []
    → FedBy h ps r
    → Finishes r out n → (out ≡ in_sixty_four (digest i (flatten ps))) × (n ≡ digest_length i)
pieces-joined i {ps = ps} l b s f = f i (flatten ps) l (fed-all i [] b s)

-- ---- FIPS 180-4, 5.1: the padded message is of whole blocks, by as few zero bytes as do it

module _ (P : Width) (some : 0 < word_bytes P) where
  pub padded-whole : (m : List ℕ) → length (padded P m) % block_bytes P ≡ 0
  unfolding padded
  padded-whole m =
      ap (λ (k : ℕ). k % B) count
      ∙ add-mod-mod a (B - a % B) B
      ∙ ap (λ (k : ℕ). k % B) up
      ∙ add-mod_right (a / B * B) B
      ∙ mul-mod_left (a / B) B
    where
      B : ℕ
      B = block_bytes P

      a : ℕ
      a = length m + 1 + field_bytes P

      z : ℕ
      z = zero_bytes P (length m)

      field : List ℕ
      field = big_bytes (field_bytes P) (8 * length m)

      count : length (m ++ (0x80 ∷ replicate z 0) ++ field) ≡ a + z
      count =
          let front = length-append m (0x80 ∷ replicate z 0) in
          let all = length-append (m ++ (0x80 ∷ replicate z 0)) field in
          omega (arith, length-replicate {A = ℕ} z 0, length-big_bytes (field_bytes P) (8 * length m))

      more : 0 < B
      more = omega arith

      up : a + (B - a % B) ≡ a / B * B + B
      up = omega (arith, div-add-mod' a B, mod-lt a more)

  pub zeros-least : (n z : ℕ) → z < zero_bytes P n → (n + 1 + z + field_bytes P) % block_bytes P ≡ 0 → ⊥
  zeros-least n z l e = omega (arith, ap (λ (k : ℕ). (B - k) % B) none ∙ ap (λ (k : ℕ). k % B) (sub-zero B) ∙ mod_self B)
    where
      B : ℕ
      B = block_bytes P

      a : ℕ
      a = n + 1 + field_bytes P

      below : a % B + z < B
      below = omega (arith, mod-le (B - a % B) B)

      rest : (n + 1 + z + field_bytes P) % B ≡ a % B + z
      rest = ap (λ (k : ℕ). k % B) (omega (arith, div-add-mod' a B)) ∙ digits_mod (a / B) below

      none : a % B ≡ 0
      none = omega (arith, rest)

-- ---- the example "abc" of FIPS 180-4, at each width

pub abc-by-2 : digest 2 (0x61 ∷ 0x62 ∷ 0x63 ∷ [])
    ≡ 0xba ∷ 0x78 ∷ 0x16 ∷ 0xbf ∷ 0x8f ∷ 0x01 ∷ 0xcf ∷ 0xea ∷ 0x41 ∷ 0x41 ∷ 0x40 ∷ 0xde ∷ 0x5d ∷ 0xae ∷ 0x22 ∷ 0x23
    ∷ 0xb0 ∷ 0x03 ∷ 0x61 ∷ 0xa3 ∷ 0x96 ∷ 0x17 ∷ 0x7a ∷ 0x9c ∷ 0xb4 ∷ 0x10 ∷ 0xff ∷ 0x61 ∷ 0xf2 ∷ 0x00 ∷ 0x15 ∷ 0xad ∷ []
unfolding little little_bytes padded words_at K256 initial256 with_next scheduled round after_rounds summed compressed after_blocks hashed
    joined sha2 algorithms algorithm_of digest
abc-by-2 = refl

pub abc-by-3 : digest 3 (0x61 ∷ 0x62 ∷ 0x63 ∷ [])
    ≡ 0xcb ∷ 0x00 ∷ 0x75 ∷ 0x3f ∷ 0x45 ∷ 0xa3 ∷ 0x5e ∷ 0x8b ∷ 0xb5 ∷ 0xa0 ∷ 0x3d ∷ 0x69 ∷ 0x9a ∷ 0xc6 ∷ 0x50 ∷ 0x07
    ∷ 0x27 ∷ 0x2c ∷ 0x32 ∷ 0xab ∷ 0x0e ∷ 0xde ∷ 0xd1 ∷ 0x63 ∷ 0x1a ∷ 0x8b ∷ 0x60 ∷ 0x5a ∷ 0x43 ∷ 0xff ∷ 0x5b ∷ 0xed
    ∷ 0x80 ∷ 0x86 ∷ 0x07 ∷ 0x2b ∷ 0xa1 ∷ 0xe7 ∷ 0xcc ∷ 0x23 ∷ 0x58 ∷ 0xba ∷ 0xec ∷ 0xa1 ∷ 0x34 ∷ 0xc8 ∷ 0x25 ∷ 0xa7 ∷ []
unfolding little little_bytes padded words_at K512 initial384 with_next scheduled round after_rounds summed compressed after_blocks hashed
    joined sha2 algorithms algorithm_of digest
abc-by-3 = refl

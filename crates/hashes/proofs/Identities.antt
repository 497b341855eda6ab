-- Laws of the operations on words of w bits: the shorter forms in which code may compute them.
use Rattle.std.proofs.Common.{◌≡◌, ℕ, zero, suc, ◌+◌, ◌-◌, ◌*◌, ◌/◌, ◌%◌, ◌^◌, ◌<◌, ◌≤◌, List, [], ◌∷◌, sym, refl, ap, ◌∙◌, ap₂, lt_of_le_of_lt, add-zero, add_assoc, mod-lt, zero-lt-suc, mul_assoc, add-mul, add-sub_of_le, add_comm, pow-suc, div-add-mod', sub-add_cancel, mul-div_cancel, arith, pow_pos, pow-add, shr-shr, shr_lt}
use native.Mathlib.Nat.{mul-add-div_right, mul-add-mod_self_right, mul-mod_left}
use lib.Arith.{lt-one}
use lib.Bits.{bit_and, bit_or, bit_xor, and_mod, and_shr, or_lt, or_shifted_r, xor_block, xor_lt, xor_mod, xor_shr}
use lib.Pow.{mod-pow-add, shr_le}
use Rattle.hashes.specs.Words.{shr, shl, rotr, complement, ch, maj, Amounts, big_sigma, small_sigma}

-- ---- rotation

pub shr_bound : (w n x : ℕ) → x < 2 ^ w → shr n x < 2 ^ w
shr_bound w n x h = lt_of_le_of_lt (shr_le x n) h

pub rotr-lt : (w n x : ℕ) → x < 2 ^ w → rotr w n x < 2 ^ w
rotr-lt w n x h = or_lt w (shr n x) (shl w (w - n) x) (shr_bound w n x h) (mod-lt (x * 2 ^ (w - n)) (pow_pos w))

-- the n low bits change places with the others
rotr-parts : (j n x : ℕ) → x < 2 ^ (j + n) → rotr (j + n) n x ≡ (x % 2 ^ n) * 2 ^ j + x / 2 ^ n
rotr-parts j n x h = ap (bit_or (x / 2 ^ n)) left ∙ or_shifted_r (x % 2 ^ n) j (x / 2 ^ n) (shr_lt j n h)
  where
    amount : j + n - n ≡ j
    amount = omega arith

    left : shl (j + n) (j + n - n) x ≡ (x % 2 ^ n) * 2 ^ j
    left =
        ap₂ (λ (s t : ℕ). x * 2 ^ s % 2 ^ t) amount (add_comm j n) ∙ mod-pow-add (x * 2 ^ j) n j
        ∙ ap₂ (λ (s t : ℕ). (s % 2 ^ n) * 2 ^ j + t) (mul-div_cancel x (pow_pos j)) (mul-mod_left x (2 ^ j))
        ∙ add-zero ((x % 2 ^ n) * 2 ^ j)

module _ (w n : ℕ) (l : n ≤ w) where
  above : (x : ℕ) → x < 2 ^ w → x < 2 ^ (w - n + n)
  above x h = rw sub-add_cancel h

  rotr-digits : (x : ℕ) → x < 2 ^ w → rotr w n x ≡ (x % 2 ^ n) * 2 ^ (w - n) + x / 2 ^ n
  rotr-digits x h = ap (λ (v : ℕ). rotr v n x) (sym (sub-add_cancel l)) ∙ rotr-parts (w - n) n x (above x h)

  -- a rotation goes through ⊕
  pub rotr-xor : (x y : ℕ) → x < 2 ^ w → y < 2 ^ w → rotr w n (bit_xor x y) ≡ bit_xor (rotr w n x) (rotr w n y)
  rotr-xor x y h k =
      rotr-digits (bit_xor x y) (xor_lt w x y h k)
      ∙ ap₂ (λ (s t : ℕ). s * 2 ^ (w - n) + t) (xor_mod x y n) (xor_shr x y n)
      ∙ sym (xor_block (w - n) (x % 2 ^ n) (y % 2 ^ n) (x / 2 ^ n) (y / 2 ^ n) (shr_lt (w - n) n (above x h))
      (shr_lt (w - n) n (above y k)))
      ∙ ap₂ bit_xor (sym (rotr-digits x h)) (sym (rotr-digits y k))

-- two rotations are one
pub rotr-rotr : (w a b x : ℕ) → a + b ≤ w → x < 2 ^ w → rotr w a (rotr w b x) ≡ rotr w (a + b) x
rotr-rotr w a b x l h =
    rotr-digits w a (omega arith) (rotr w b x) (rotr-lt w b x h)
    ∙ ap (λ (y : ℕ). (y % 2 ^ a) * 2 ^ (w - a) + y / 2 ^ a) once
    ∙ ap₂ (λ (s t : ℕ). s * 2 ^ (w - a) + t) (mul-add-mod_self_right (low * 2 ^ j) (2 ^ a) (x / 2 ^ b))
    (mul-add-div_right (pow_pos a) (low * 2 ^ j) (x / 2 ^ b))
    ∙ ap₂ (λ (s t : ℕ). mid * s + (low * 2 ^ j + t)) (ap (λ (v : ℕ). 2 ^ v) left ∙ pow-add 2 b j) (shr-shr x b a)
    ∙ ap₂ (λ (s t : ℕ). s + (low * 2 ^ j + x / 2 ^ t)) (sym (mul_assoc mid (2 ^ b) (2 ^ j))) (add_comm b a)
    ∙ sym (add_assoc (mid * 2 ^ b * 2 ^ j) (low * 2 ^ j) (x / 2 ^ (a + b)))
    ∙ ap (λ (s : ℕ). s + x / 2 ^ (a + b)) (sym (add-mul (mid * 2 ^ b) low (2 ^ j)))
    ∙ ap (λ (s : ℕ). s * 2 ^ j + x / 2 ^ (a + b)) (sym (mod-pow-add x a b))
    ∙ sym (rotr-digits w (a + b) l x h)
  where
    j : ℕ
    j = w - (a + b)

    low : ℕ
    low = x % 2 ^ b

    mid : ℕ
    mid = x / 2 ^ b % 2 ^ a

    left : w - a ≡ b + j
    left = omega arith

    right : w - b ≡ j + a
    right = omega arith

    once : rotr w b x ≡ low * 2 ^ j * 2 ^ a + x / 2 ^ b
    once =
        rotr-digits w b (omega arith) x h
        ∙ ap (λ (s : ℕ). low * s + x / 2 ^ b) (ap (λ (v : ℕ). 2 ^ v) right ∙ pow-add 2 j a)
        ∙ ap (λ (s : ℕ). s + x / 2 ^ b) (sym (mul_assoc low (2 ^ j) (2 ^ a)))

-- ---- a law of bits is a law of words

-- an operation on three words of k bits that works on each bit alone: on the lowest, and on the others
abbrev BitByBit : (ℕ → ℕ → ℕ → ℕ → ℕ) → Type 0
BitByBit F =
    (k x y z : ℕ) → x < 2 ^ suc k
    → (F (suc k) x y z / 2 ≡ F k (x / 2) (y / 2) (z / 2)) × (F (suc k) x y z % 2 ≡ F 1 (x % 2) (y % 2) (z % 2))

-- what it gives of no bits, and of one bit each
abbrev table : (ℕ → ℕ → ℕ → ℕ → ℕ) → List ℕ
table F = F 0 0 0 0 ∷ F 1 0 0 0 ∷ F 1 0 0 1 ∷ F 1 0 1 0 ∷ F 1 0 1 1 ∷ F 1 1 0 0 ∷ F 1 1 0 1 ∷ F 1 1 1 0 ∷ F 1 1 1 1 ∷ []

bit-cases : (P : ℕ → Type 0) → P 0 → P 1 → (n : ℕ) → n < 2 → P n
bit-cases P p q zero h = p
bit-cases P p q (suc zero) h = q
bit-cases P p q (suc (suc n)) h = absurd (omega arith)

module _ (F G : ℕ → ℕ → ℕ → ℕ → ℕ) (f : BitByBit F) (g : BitByBit G) (e : table F ≡ table G) where
  same_bits : (a b c : ℕ) → a < 2 → b < 2 → c < 2 → F 1 a b c ≡ G 1 a b c
  same_bits a b c ha hb hc =
      bit-cases (λ (a : ℕ). F 1 a b c ≡ G 1 a b c)
      (bit-cases (λ (b : ℕ). F 1 0 b c ≡ G 1 0 b c) (bit-cases (λ (c : ℕ). F 1 0 0 c ≡ G 1 0 0 c) (cc) (cc) c hc)
      (bit-cases (λ (c : ℕ). F 1 0 1 c ≡ G 1 0 1 c) (cc) (cc) c hc) b hb)
      (bit-cases (λ (b : ℕ). F 1 1 b c ≡ G 1 1 b c) (bit-cases (λ (c : ℕ). F 1 1 0 c ≡ G 1 1 0 c) (cc) (cc) c hc)
      (bit-cases (λ (c : ℕ). F 1 1 1 c ≡ G 1 1 1 c) (cc) (cc) c hc) b hb) a ha

  same-words : (k x y z : ℕ) → x < 2 ^ k → y < 2 ^ k → z < 2 ^ k → F k x y z ≡ G k x y z
  same-words zero x y z hx hy hz = simp (lt-one hx, lt-one hy, lt-one hz) (cc)
  same-words (suc k) x y z hx hy hz =
      sym (div-add-mod' (F (suc k) x y z) 2)
      ∙ ap₂ (λ (s t : ℕ). s * 2 + t)
      ((f k x y z hx).0 ∙ same-words k (x / 2) (y / 2) (z / 2) (half k x hx) (half k y hy) (half k z hz) ∙ sym (g k x y z hx).0)
      ((f k x y z hx).1 ∙ same_bits (x % 2) (y % 2) (z % 2) (mod-lt x (zero-lt-suc 1)) (mod-lt y (zero-lt-suc 1))
      (mod-lt z (zero-lt-suc 1)) ∙ sym (g k x y z hx).1)
      ∙ div-add-mod' (G (suc k) x y z) 2
    where
      half : (k x : ℕ) → x < 2 ^ suc k → x / 2 < 2 ^ k
      half k x h = omega (arith, pow-suc 2 k)

-- halves and lowest bits of the operations that the laws below are made of
xor-half : (a b : ℕ) → bit_xor a b / 2 ≡ bit_xor (a / 2) (b / 2)
xor-half a b = xor_shr a b 1

xor-lowest : (a b : ℕ) → bit_xor a b % 2 ≡ bit_xor (a % 2) (b % 2)
xor-lowest a b = xor_mod a b 1

and-half : (a b : ℕ) → bit_and a b / 2 ≡ bit_and (a / 2) (b / 2)
and-half a b = and_shr a b 1

and-lowest : (a b : ℕ) → bit_and a b % 2 ≡ bit_and (a % 2) (b % 2)
and-lowest a b = and_mod a b 1

complement_half : (k x : ℕ) → x < 2 ^ suc k → complement (suc k) x / 2 ≡ complement k (x / 2)
complement_half k x h = omega (arith, pow-suc 2 k, pow_pos k)

complement-lowest : (k x : ℕ) → x < 2 ^ suc k → complement (suc k) x % 2 ≡ complement 1 (x % 2)
complement-lowest k x h = omega (arith, pow-suc 2 k, pow_pos k)

ruleset halved = (xor-half, and-half, complement_half)

ruleset lowered = (xor-lowest, and-lowest, complement-lowest)

pub xor_assoc : (w x y z : ℕ) → x < 2 ^ w → y < 2 ^ w → z < 2 ^ w → bit_xor (bit_xor x y) z ≡ bit_xor x (bit_xor y z)
xor_assoc =
    same-words (λ k x y z. bit_xor (bit_xor x y) z) (λ k x y z. bit_xor x (bit_xor y z)) (λ k x y z h. (simp halved, simp lowered))
    (λ k x y z h. (simp halved, simp lowered)) refl

pub ch-short : (w x y z : ℕ) → x < 2 ^ w → y < 2 ^ w → z < 2 ^ w → bit_xor z (bit_and x (bit_xor y z)) ≡ ch w x y z
ch-short =
    same-words (λ k x y z. bit_xor z (bit_and x (bit_xor y z))) ch (λ k x y z h. (simp halved, simp lowered))
    (λ k x y z h. (simp halved, simp lowered)) refl

pub maj-short : (w x y z : ℕ) → x < 2 ^ w → y < 2 ^ w → z < 2 ^ w → bit_xor (bit_and (bit_xor x y) (bit_xor y z)) y ≡ maj x y z
maj-short =
    same-words (λ k x y z. bit_xor (bit_and (bit_xor x y) (bit_xor y z)) y) (λ k x y z. maj x y z) (λ k x y z h. (simp halved, simp lowered))
    (λ k x y z h. (simp halved, simp lowered)) refl

-- ---- rotations by growing amounts, each made of the one before

rotr-chained : (w a b x y : ℕ) → a ≤ b → b ≤ w → x < 2 ^ w → y < 2 ^ w
    → rotr w a (bit_xor x (rotr w (b - a) y)) ≡ bit_xor (rotr w a x) (rotr w b y)
rotr-chained w a b x y l m hx hy =
    rotr-xor w a (omega arith) x (rotr w (b - a) y) hx (rotr-lt w (b - a) y hy)
    ∙ ap (bit_xor (rotr w a x)) (rotr-rotr w a (b - a) y (omega arith) hy ∙ ap (λ (n : ℕ). rotr w n y) (add-sub_of_le l))

module _ (w : ℕ) (n : Amounts) (x : ℕ) (h : x < 2 ^ w) where
  pub big-sigma-chained : n.first ≤ n.second → n.second ≤ n.third → n.third ≤ w → {p q r : ℕ} → p ≡ rotr w (n.third - n.second) x
      → q ≡ rotr w (n.second - n.first) (bit_xor x p) → r ≡ rotr w n.first (bit_xor x q) → r ≡ big_sigma w n x
  big-sigma-chained l m o ep eq er =
      er
      ∙ ap (λ (s : ℕ). rotr w n.first (bit_xor x s)) (eq ∙ ap (λ (s : ℕ). rotr w (n.second - n.first) (bit_xor x s)) ep)
      ∙ rotr-chained w n.first n.second x (bit_xor x (rotr w (n.third - n.second) x)) l (omega arith) h
      (xor_lt w x (rotr w (n.third - n.second) x) h (rotr-lt w (n.third - n.second) x h))
      ∙ ap (bit_xor (rotr w n.first x)) (rotr-chained w n.second n.third x x m o h h)
      ∙ sym (xor_assoc w (rotr w n.first x) (rotr w n.second x) (rotr w n.third x) (rotr-lt w n.first x h)
      (rotr-lt w n.second x h) (rotr-lt w n.third x h))

  pub small-sigma-chained : n.first ≤ n.second → n.second ≤ w → {p q : ℕ} → p ≡ rotr w (n.second - n.first) x
      → q ≡ rotr w n.first (bit_xor x p) → bit_xor q (shr n.third x) ≡ small_sigma w n x
  small-sigma-chained l m ep eq =
      ap (λ (s : ℕ). bit_xor s (shr n.third x))
      (eq ∙ ap (λ (s : ℕ). rotr w n.first (bit_xor x s)) ep ∙ rotr-chained w n.first n.second x x l m h h)

-- Laws of the numbers that bytes spell.
use mathlib.Core.Path.{◌≡◌, refl, sym, ap, ap₂, ◌∙◌}
use mathlib.Core.List.{List, [], ◌∷◌, ◌++◌, reverse, reverse_aux, reverse-append, reverse-reverse}
use Prim.Native.Nat.{ℕ, zero, suc, ◌+◌, ◌*◌, ◌/◌, ◌%◌, ◌^◌, ◌≤◌, ◌<◌}
use native.Mathlib.Nat.{mul_comm, mul_assoc, pow-suc, zero-add, suc-add, mod-lt, mod-one, mod-eq_of_lt, div-one}
use native.Mathlib.Nat.{div-div-eq-div-mul, one-le-pow, zero-lt-suc}
use native.Mathlib.Omega.{arith}
use lib.Arith.{mod-mul, digits_div, digits_mod, digits_lt}
use lib.ListN.{length, get_or, length-reverse}
use Rattle.octets.specs.Numbers.{little, little_bytes, big, big_bytes}
use Rattle.octets.specs.Parts.{part, put, Octets}
use Rattle.octets.proofs.PartLaws.{part_items, put-beside, octets-cons}

pos : zero < 256
pos = zero-lt-suc 255

-- ---- numbers of joined bytes

pub little-append : (a b : List ℕ) → little (a ++ b) ≡ little a + 256 ^ length a * little b
unfolding little
little-append [] b = omega arith
little-append (x ∷ a) b =
    let e : 256 ^ length a * 256 * little b ≡ 256 * (256 ^ length a * little b) =
    ap (λ (k : ℕ). k * little b) (mul_comm (256 ^ length a) 256) ∙ mul_assoc 256 (256 ^ length a) (little b) in
    rw (little-append a b, pow-suc) (omega (arith, e))

pub big-append : (a b : List ℕ) → big (a ++ b) ≡ big b + 256 ^ length b * big a
big-append a b =
    ap little (reverse-append a b) ∙ little-append (reverse b) (reverse a)
    ∙ ap (λ (k : ℕ). big b + 256 ^ k * big a) (length-reverse b)

-- ---- reading

-- a byte is the number that it spells, either way
pub one_byte : (s : List ℕ) (at : ℕ) → at < length s → get_or s at 0 ≡ little (part s at 1)
unfolding little
one_byte s at h = let e : part s at 1 ≡ get_or s at 0 ∷ [] = part_items s at 1 (omega arith) in rw e (omega arith)

pub one-byte-big : (s : List ℕ) (at : ℕ) → at < length s → get_or s at 0 ≡ big (part s at 1)
one-byte-big s at h =
    let e : part s at 1 ≡ get_or s at 0 ∷ [] = part_items s at 1 (omega arith) in one_byte s at h ∙ ap little (e ∙ sym (ap reverse e))

-- ---- the bytes of a number

pub length-little_bytes : (n x : ℕ) → length (little_bytes n x) ≡ n
unfolding little_bytes
length-little_bytes zero x = refl
length-little_bytes (suc n) x = ap suc (length-little_bytes n (x / 256))

pub length-big_bytes : (n x : ℕ) → length (big_bytes n x) ≡ n
length-big_bytes n x = length-reverse (little_bytes n x) ∙ length-little_bytes n x

pub octets-little_bytes : (n x : ℕ) → Octets (little_bytes n x)
unfolding little_bytes
octets-little_bytes zero x i = omega arith
octets-little_bytes (suc n) x i = octets-cons (x % 256) (little_bytes n (x / 256)) (mod-lt x pos) (octets-little_bytes n (x / 256)) i

octets-reverse_aux : (s t : List ℕ) → Octets s → Octets t → Octets (reverse_aux s t)
octets-reverse_aux [] t h k = k
octets-reverse_aux (x ∷ s) t h k = octets-reverse_aux s (x ∷ t) (λ i. h (suc i)) (octets-cons x t (h zero) k)

pub octets-reverse : (s : List ℕ) → Octets s → Octets (reverse s)
octets-reverse s h = octets-reverse_aux s [] h (λ i. omega arith)

pub octets-big_bytes : (n x : ℕ) → Octets (big_bytes n x)
octets-big_bytes n x = octets-reverse (little_bytes n x) (octets-little_bytes n x)

-- ---- a number read back from its bytes, and bytes from their number

pub little-little_bytes : (n x : ℕ) → little (little_bytes n x) ≡ x % 256 ^ n
unfolding little little_bytes
little-little_bytes zero x = sym (mod-one x)
little-little_bytes (suc n) x =
    rw (little-little_bytes n (x / 256), pow-suc, mod-mul x (one-le-pow n 256 pos) pos) (omega arith)

pub big-big_bytes : (n x : ℕ) → big (big_bytes n x) ≡ x % 256 ^ n
big-big_bytes n x = ap little (reverse-reverse (little_bytes n x)) ∙ little-little_bytes n x

pub little-little_bytes-lt : (n x : ℕ) → x < 256 ^ n → little (little_bytes n x) ≡ x
little-little_bytes-lt n x h = little-little_bytes n x ∙ mod-eq_of_lt h

pub little_bytes-little : (s : List ℕ) → Octets s → little_bytes (length s) (little s) ≡ s
unfolding little little_bytes
little_bytes-little [] h = refl
little_bytes-little (x ∷ s) h =
    let e : x + 256 * little s ≡ little s * 256 + x = omega arith in
    ap₂ (λ (y : ℕ) (t : List ℕ). y ∷ t) (ap (λ (y : ℕ). y % 256) e ∙ digits_mod (little s) (h zero))
    (ap (λ (y : ℕ). little_bytes (length s) (y / 256)) e ∙ ap (little_bytes (length s)) (digits_div (little s) (h zero))
    ∙ little_bytes-little s (λ i. h (suc i)))

pub big_bytes-big : (s : List ℕ) → Octets s → big_bytes (length s) (big s) ≡ s
big_bytes-big s h =
    ap (λ (n : ℕ). big_bytes n (big s)) (sym (length-reverse s))
    ∙ ap reverse (little_bytes-little (reverse s) (octets-reverse s h)) ∙ reverse-reverse s

pub little-lt : (s : List ℕ) → Octets s → little s < 256 ^ length s
unfolding little
little-lt [] h = omega arith
little-lt (x ∷ s) h =
    let d : little s * 256 + x < 256 ^ length s * 256 = digits_lt (little-lt s (λ i. h (suc i))) (h zero) in
    rw pow-suc (omega arith)

-- ---- writing: two halves, side by side, are the bytes of the whole

pub little_bytes-add : (m n x : ℕ) → little_bytes (m + n) x ≡ little_bytes m x ++ little_bytes n (x / 256 ^ m)
unfolding little_bytes
little_bytes-add zero n x = ap₂ little_bytes (zero-add n) (sym (div-one x))
little_bytes-add (suc m) n x =
    ap (λ (k : ℕ). little_bytes k x) (suc-add m n)
    ∙ ap (λ (t : List ℕ). x % 256 ∷ t)
    (little_bytes-add m n (x / 256)
    ∙ ap (λ (y : ℕ). little_bytes m (x / 256) ++ little_bytes n y)
    (div-div-eq-div-mul x 256 (256 ^ m) ∙ ap (λ (k : ℕ). x / k) (mul_comm 256 (256 ^ m) ∙ sym (pow-suc 256 m))))

-- the bytes above the n lowest don't matter to these
pub little_bytes-mod : (n x : ℕ) → little_bytes n (x % 256 ^ n) ≡ little_bytes n x
little_bytes-mod n x =
    ap₂ little_bytes (sym (length-little_bytes n x)) (sym (little-little_bytes n x))
    ∙ little_bytes-little (little_bytes n x) (octets-little_bytes n x)

module _ (s t u : List ℕ) (at n x : ℕ) (fits : at + (n + n) ≤ length s) where
  pub put-little : t ≡ put s at (little_bytes n (x % 256 ^ n)) → u ≡ put t (at + n) (little_bytes n (x / 256 ^ n))
      → u ≡ put s at (little_bytes (n + n) x)
  put-little e f =
      f ∙ ap (λ (r : List ℕ). put r (at + n) (little_bytes n (x / 256 ^ n))) e
      ∙ put-beside s at n (little_bytes n (x % 256 ^ n)) (little_bytes n (x / 256 ^ n)) (length-little_bytes n (x % 256 ^ n))
      (omega (arith, length-little_bytes n (x / 256 ^ n)))
      ∙ ap (λ (v : List ℕ). put s at v)
      (ap (λ (v : List ℕ). v ++ little_bytes n (x / 256 ^ n)) (little_bytes-mod n x) ∙ sym (little_bytes-add n n x))

  pub put-big : t ≡ put s at (big_bytes n (x / 256 ^ n)) → u ≡ put t (at + n) (big_bytes n (x % 256 ^ n)) → u ≡ put s at (big_bytes (n + n) x)
  put-big e f =
      f ∙ ap (λ (r : List ℕ). put r (at + n) (big_bytes n (x % 256 ^ n))) e
      ∙ put-beside s at n (big_bytes n (x / 256 ^ n)) (big_bytes n (x % 256 ^ n)) (length-big_bytes n (x / 256 ^ n))
      (omega (arith, length-big_bytes n (x % 256 ^ n)))
      ∙ ap (λ (v : List ℕ). put s at v)
      (ap (λ (v : List ℕ). big_bytes n (x / 256 ^ n) ++ reverse v) (little_bytes-mod n x)
      ∙ sym (reverse-append (little_bytes n x) (little_bytes n (x / 256 ^ n))) ∙ ap reverse (sym (little_bytes-add n n x)))

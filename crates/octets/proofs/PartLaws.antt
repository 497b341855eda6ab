-- Laws of parts of byte lists, and of a store in a loop.
use mathlib.Core.Path.{◌≡◌, refl, sym, ap, ap₂, ◌∙◌}
use mathlib.Core.List.{List, [], ◌∷◌, ◌++◌, append_assoc}
use Prim.Native.Nat.{ℕ, zero, suc, ◌+◌, ◌-◌, ◌≤◌, ◌<◌}
use native.Mathlib.Nat.{add-sub_of_le, zero-add, suc-add, add_assoc}
use native.Mathlib.Numerals.{add-one}
use native.Mathlib.Omega.{arith}
use lib.ListN.{length, get_or, set, take, drop, replicate, length-append, length-take, length-drop}
use lib.Seq.{paste, paste-suc, take-nil, take-add, take_at, drop_at, take-take, drop-drop, drop-cons, get_or-drop}
use lib.Seq.{length-take-le, take-append-le}
use Rattle.octets.specs.Parts.{part, put, Octets}

-- ---- a part

pub length_part : (s : List ℕ) (at n : ℕ) → at + n ≤ length s → length (part s at n) ≡ n
length_part s at n h = simp (length-take, length-drop) (omega arith)

-- a part is its first bytes, then the rest of it
pub part-add : (s : List ℕ) (at m n : ℕ) → part s at (m + n) ≡ part s at m ++ part s (at + m) n
part-add s at m n = take-add m n (drop at s) ∙ ap (λ (t : List ℕ). part s at m ++ take n t) (drop-drop m at s)

-- the n elements from offset at on, one by one
abbrev pub items : List ℕ → ℕ → ℕ → List ℕ
items s at zero = []
items s at (suc n) = get_or s at 0 ∷ items s (suc at) n

pub part_items : (s : List ℕ) (at n : ℕ) → at + n ≤ length s → part s at n ≡ items s at n
part_items s at zero h = refl
part_items s at (suc n) h =
    ap (λ (t : List ℕ). take (suc n) t) (drop-cons s at 0 (omega arith))
    ∙ ap (λ (t : List ℕ). get_or s at 0 ∷ t) (part_items s (suc at) n (omega arith))

-- a part, cut off at its end first
pub part-of-take : (s : List ℕ) (at n : ℕ) → part s at n ≡ drop at (take (at + n) s)
part-of-take s zero n = ap (λ (k : ℕ). take k s) (sym (zero-add n))
part-of-take [] (suc at) n = take-nil n ∙ sym (ap (λ (t : List ℕ). drop (suc at) t) (take-nil (suc at + n)))
part-of-take (x ∷ s) (suc at) n =
    part-of-take s at n ∙ ap (λ (k : ℕ). drop (suc at) (take k (x ∷ s))) (sym (suc-add at n))

-- ---- bytes put into a list, where they fit

module _ (s : List ℕ) (at : ℕ) (v : List ℕ) (fits : at + length v ≤ length s) where
  pub length-put : length (put s at v) ≡ length s
  length-put = simp (length-append, length-take, length-drop) (omega arith)

  length_front : length (take at s ++ v) ≡ at + length v
  length_front = simp (length-append, length-take) (omega arith)

  take_put : take (at + length v) (put s at v) ≡ take at s ++ v
  take_put = take_at (take at s ++ v) (drop (at + length v) s) (at + length v) length_front

  drop-put : drop (at + length v) (put s at v) ≡ drop (at + length v) s
  drop-put = drop_at (take at s ++ v) (drop (at + length v) s) (at + length v) length_front

  -- the bytes stand where they were put
  pub part-put : part (put s at v) at (length v) ≡ v
  part-put =
      part-of-take (put s at v) at (length v) ∙ ap (λ (t : List ℕ). drop at t) take_put
      ∙ drop_at (take at s) v at (length-take-le at s (omega arith))

  -- a part before them is as it was
  pub part-before-put : (i n : ℕ) → i + n ≤ at → part (put s at v) i n ≡ part s i n
  part-before-put i n h =
      part-of-take (put s at v) i n ∙ ap (λ (t : List ℕ). drop i t) front ∙ sym (part-of-take s i n)
    where
      front : take (i + n) (put s at v) ≡ take (i + n) s
      front =
          ap (λ (t : List ℕ). take (i + n) t) (append_assoc (take at s) v (drop (at + length v) s))
          ∙ take-append-le (i + n) (take at s) (v ++ drop (at + length v) s) (simp length-take (omega arith))
          ∙ take-take (i + n) at s h

  -- and so is all behind them
  pub drop-behind-put : (i : ℕ) → at + length v ≤ i → drop i (put s at v) ≡ drop i s
  drop-behind-put i h =
      let e : at + length v + (i - (at + length v)) ≡ i = add-sub_of_le h in
      ap (λ (k : ℕ). drop k (put s at v)) (sym e)
      ∙ sym (drop-drop (i - (at + length v)) (at + length v) (put s at v))
      ∙ ap (λ (t : List ℕ). drop (i - (at + length v)) t) drop-put
      ∙ drop-drop (i - (at + length v)) (at + length v) s
      ∙ ap (λ (k : ℕ). drop k s) e

  pub part-behind-put : (i n : ℕ) → at + length v ≤ i → part (put s at v) i n ≡ part s i n
  part-behind-put i n h = ap (λ (t : List ℕ). take n t) (drop-behind-put i h)

  -- bytes put side by side are put at once
  pub put-put : (w : List ℕ) → at + length v + length w ≤ length s → put (put s at v) (at + length v) w ≡ put s at (v ++ w)
  put-put w h =
      ap₂ (λ (f r : List ℕ). f ++ w ++ r) take_put (drop-behind-put (at + length v + length w) (omega arith))
      ∙ ap₂ (λ (f : List ℕ) (k : ℕ). f ++ drop k s) (append_assoc (take at s) v w)
      (add_assoc at (length v) (length w) ∙ ap (λ (k : ℕ). at + k) (sym (length-append v w)))

-- the same, where the first bytes' number is known by an equation
pub put-beside : (s : List ℕ) (at k : ℕ) (v w : List ℕ) → length v ≡ k → at + k + length w ≤ length s
    → put (put s at v) (at + k) w ≡ put s at (v ++ w)
put-beside s at k v w e h = rw (← e) (put-put s at v (omega arith) w (omega arith))

-- ---- a loop that stores v from offset at on, byte by byte

-- one more byte is stored
pub paste_more : (s : List ℕ) (at : ℕ) (v : List ℕ) (i : ℕ) → at + length v ≤ length s → i < length v
    → set (paste s at v i) (at + i) (get_or v i 0) ≡ paste s at v (i + 1)
paste_more s at v i fits h = rw add-one (paste-suc s at v i 0 (omega arith) h)

-- ---- each element is a byte

pub octets-take : (n : ℕ) (s : List ℕ) → Octets s → Octets (take n s)
octets-take zero s h i = omega arith
octets-take (suc n) [] h i = omega arith
octets-take (suc n) (x ∷ s) h zero = h zero
octets-take (suc n) (x ∷ s) h (suc i) = octets-take n s (λ j. h (suc j)) i

pub octets-drop : (n : ℕ) (s : List ℕ) → Octets s → Octets (drop n s)
octets-drop n s h i = rw get_or-drop (h (n + i))

pub octets-part : (s : List ℕ) (at n : ℕ) → Octets s → Octets (part s at n)
octets-part s at n h = octets-take n (drop at s) (octets-drop at s h)

pub octets-cons : (x : ℕ) (s : List ℕ) → x < 256 → Octets s → Octets (x ∷ s)
octets-cons x s b h zero = b
octets-cons x s b h (suc i) = h i

pub octets-append : (a b : List ℕ) → Octets a → Octets b → Octets (a ++ b)
octets-append [] b h k = k
octets-append (x ∷ a) b h k = octets-cons x (a ++ b) (h zero) (octets-append a b (λ j. h (suc j)) k)

pub octets-replicate : (n x : ℕ) → x < 256 → Octets (replicate n x)
octets-replicate zero x h i = omega arith
octets-replicate (suc n) x h i = octets-cons x (replicate n x) h (octets-replicate n x h) i

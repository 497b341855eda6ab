-- Laws of a message that is fed piece by piece, over the width: one piece more, and the padding as its last pieces.
use Rattle.std.proofs.Common.{◌≡◌, ℕ, zero, suc, suc-mul, mod-lt, ◌+◌, ◌-◌, ◌*◌, ◌/◌, ◌%◌, ◌^◌, ◌<◌, ◌≤◌, List, [], ◌∷◌, ◌++◌, length, take, drop, set, replicate, sym, refl, ap, ◌∙◌, subst, ap₂, append_assoc, mod-eq_of_lt, add-mul, one-mul, div-add-mod', zero-mul, div-mul-le_self, add-one, arith, length-append, length-drop, length-set, take-append-drop, drop_of_length-le, take_all, drop-drop, take_at}
use native.Mathlib.Nat.{div-eq_of_lt, div_self, mod-add-mod, mod_self}
use native.Mathlib.Nat.{sub-zero, mul-mod_left, mul-add-div_right, mul-add-mod_self_right, zero-div, zero-mod}
use Rattle.std.proofs.Math.Nat.{mod-mod_of_dvd}
use Rattle.std.proofs.lemmas.Nat.Gcd.{dvd_of_mod-eq-zero}
use lib.ListN.{length-replicate}
use lib.ListN.{replicate-append-replicate}
use lib.Arith.{digits_mod}
use lib.Seq.{drop-append-le, set_split}
use Rattle.octets.specs.Numbers.{big_bytes}
use Rattle.octets.specs.Parts.{put}
use Rattle.octets.proofs.NumberLaws.{length-big_bytes}
use Rattle.octets.proofs.PartLaws.{put-beside}
use Rattle.hashes.specs.Widths.{Width, Eight}
use Rattle.hashes.specs.Padding.{word_bytes, block_bytes, field_bytes, zero_bytes, padded}
use Rattle.hashes.specs.Compression.{after_blocks, hashed}
use Rattle.hashes.specs.Progress.{Streamed}
use Rattle.hashes.proofs.Blocks.{after_blocks-append, after_blocks-drop}

-- what a count modulo 2^64 leaves over blocks
pub count-rest : (b k : ℕ) {n : ℕ} → 2 ^ 64 % b ≡ 0 → n ≡ k % 2 ^ 64 → n % b ≡ k % b
count-rest b k d e = ap (λ (j : ℕ). j % b) e ∙ mod-mod_of_dvd b k (dvd_of_mod-eq-zero b d)

-- a count with as many more as fill its last block
pub filled-border : (b k : ℕ) {a r : ℕ} → 0 < b → r ≡ k % b → a ≡ k + (b - r) → a % b ≡ 0
filled-border b k some er ea =
    ap (λ (j : ℕ). j % b) (ea ∙ omega (arith, div-add-mod' k b, mod-lt k some, suc-mul (k / b) b)) ∙ mul-mod_left (suc (k / b)) b

-- a part that goes to the end
rest_of : (p : List ℕ) (k : ℕ) → take (length p - k) (drop k p) ≡ drop k p
rest_of p k = take_all (length p - k) (drop k p) (omega (arith, length-drop k p))

-- a piece fed as two
pub fed-in-two : (P : Width) (H : Eight) {v : Eight} {pending : List ℕ} {n : ℕ} (x p : List ℕ) (k : ℕ)
    → Streamed P H v pending n (x ++ take k p ++ take (length p - k) (drop k p)) → Streamed P H v pending n (x ++ p)
fed-in-two P H {v} {pending} {n} x p k h =
    subst (Streamed P H v pending n)
    (append_assoc x (take k p) (take (length p - k) (drop k p))
    ∙ ap (λ (s : List ℕ). x ++ s) (ap (λ (s : List ℕ). take k p ++ s) (rest_of p k) ∙ take-append-drop k p))
    h

-- a stream begun from a hash value that is H
pub begun-from : (P : Width) {H G v : Eight} {pending x : List ℕ} {n : ℕ} → G ≡ H → Streamed P G v pending n x → Streamed P H v pending n x
begun-from P {v = v} {pending} {x} {n} e h = subst (λ (G : Eight). Streamed P G v pending n x) e h

module _ (P : Width) (some : 0 < word_bytes P) (H : Eight) where
  pub none-fed : (pending : List ℕ) → Streamed P H H pending 0 []
  unfolding after_blocks
  none-fed pending =
      record {
        count = refl;
        value = ap (after_blocks P H []) (sym (zero-div (block_bytes P)));
        behind =
            ap (λ (k : ℕ). take k pending) (zero-mod (block_bytes P))
            ∙ sym (drop_of_length-le [] {i = 0 / block_bytes P * block_bytes P} (omega arith));
      }

  -- a piece p: of the bytes that wait and p behind them the whole blocks are worked in, and the bytes behind these wait
  fed-on : {v u : Eight} {pending kept x : List ℕ} {n k : ℕ} (p wait : List ℕ) → Streamed P H v pending n x
      → wait ≡ take (length x % block_bytes P) pending ++ p → u ≡ after_blocks P v wait (length wait / block_bytes P)
      → take (length wait % block_bytes P) kept ≡ drop (length wait / block_bytes P * block_bytes P) wait → k ≡ (n + length p) % 2 ^ 64
      → Streamed P H u kept k (x ++ p)
  fed-on {v} {u} {pending} {kept} {x} {n} {k} p wait h ew eu ek en =
      record {
        count =
            en
            ∙ ap (λ (j : ℕ). (j + length p) % 2 ^ 64) h.count
            ∙ mod-add-mod (length x) (2 ^ 64) (length p)
            ∙ ap (λ (j : ℕ). j % 2 ^ 64) (sym (length-append x p));
        value =
            eu
            ∙ ap₂ (λ (w : Eight) (s : List ℕ). after_blocks P w s j) (h.value ∙ sym first) (sym rest)
            ∙ after_blocks-drop P H (x ++ p) q j
            ∙ ap (after_blocks P H (x ++ p)) (sym blocks);
        behind =
            ap (λ (m : ℕ). take m kept) (ap (λ (m : ℕ). m % B) whole ∙ mul-add-mod_self_right q B (length wait))
            ∙ ek
            ∙ ap (drop (j * B)) (sym rest)
            ∙ drop-drop (j * B) (q * B) (x ++ p)
            ∙ ap (λ (m : ℕ). drop m (x ++ p)) (sym (add-mul q j B) ∙ ap (λ (m : ℕ). m * B) (sym blocks));
      }
    where
      B : ℕ
      B = block_bytes P

      q : ℕ
      q = length x / B

      j : ℕ
      j = length wait / B

      first : after_blocks P H (x ++ p) q ≡ after_blocks P H x q
      first = after_blocks-append P H x p q (div-mul-le_self (length x) B)

      rest : drop (q * B) (x ++ p) ≡ wait
      rest = drop-append-le (q * B) x p (div-mul-le_self (length x) B) ∙ ap (λ (s : List ℕ). s ++ p) (sym h.behind) ∙ sym ew

      whole : length (x ++ p) ≡ q * B + length wait
      whole = omega (arith, length-drop (q * B) (x ++ p), ap length rest, length-append x p, div-mul-le_self (length x) B)

      blocks : length (x ++ p) / B ≡ q + j
      blocks = ap (λ (m : ℕ). m / B) whole ∙ mul-add-div_right (omega arith) q (length wait)

  module _ {v : Eight} {pending x : List ℕ} {n : ℕ} (h : Streamed P H v pending n x) where
    -- as many bytes wait as the length has over whole blocks
    waiting : (p : List ℕ) → length (take (length x % block_bytes P) pending ++ p) ≡ length x % block_bytes P + length p
    waiting p = length-append (take (length x % block_bytes P) pending) p ∙ ap (λ (m : ℕ). m + length p) (ap length h.behind ∙ left)
      where
        left : length (drop (length x / block_bytes P * block_bytes P) x) ≡ length x % block_bytes P
        left = omega (arith, length-drop (length x / block_bytes P * block_bytes P) x, div-add-mod' (length x) (block_bytes P))

    -- from a block's border on
    pub fed-from-border : {u : Eight} {kept : List ℕ} {k at : ℕ} (p : List ℕ) → length x % block_bytes P ≡ 0
        → u ≡ after_blocks P v p (length p / block_bytes P) → at ≡ length p / block_bytes P * block_bytes P
        → kept ≡ put pending 0 (take (length p - at) (drop at p)) → k ≡ (n + length p) % 2 ^ 64 → Streamed P H u kept k (x ++ p)
    fed-from-border {u} {kept} {k} {at} p er eu ea ek en =
        fed-on p p h (ap (λ (m : ℕ). take m pending ++ p) (sym er)) eu
        (ap (take (length p % block_bytes P)) (ek ∙ ap (put pending 0) (rest_of p at ∙ ap (λ (m : ℕ). drop m p) ea))
        ∙ take_at tail (drop (0 + length tail) pending) (length p % block_bytes P) left)
        en
      where
        tail : List ℕ
        tail = drop (length p / block_bytes P * block_bytes P) p

        left : length tail ≡ length p % block_bytes P
        left = omega (arith, length-drop (length p / block_bytes P * block_bytes P) p, div-add-mod' (length p) (block_bytes P))

    module _ {kept : List ℕ} {r k : ℕ} (p : List ℕ) (er : r ≡ length x % block_bytes P) (ek : kept ≡ put pending r p)
        (en : k ≡ (n + length p) % 2 ^ 64) where
      abbrev wait : List ℕ
      wait = take (length x % block_bytes P) pending ++ p

      kept-all : kept ≡ wait ++ drop (r + length p) pending
      kept-all = ek ∙ ap (λ (m : ℕ). take m pending ++ p ++ drop (r + length p) pending) er

      -- a block that stays open
      pub fed-open : r + length p < block_bytes P → Streamed P H v kept k (x ++ p)
      unfolding after_blocks
      fed-open l =
          fed-on p wait h refl (ap (after_blocks P v wait) (sym none))
          (ap₂ take (mod-eq_of_lt below) kept-all
          ∙ take_at wait (drop (r + length p) pending) (length wait) refl
          ∙ ap (λ (m : ℕ). drop m wait) (sym (zero-mul (block_bytes P)) ∙ ap (λ (m : ℕ). m * block_bytes P) (sym none)))
          en
        where
          below : length wait < block_bytes P
          below = omega (arith, waiting p, er)

          none : length wait / block_bytes P ≡ 0
          none = div-eq_of_lt below

      -- a block that is filled up
      pub fed-full : {u : Eight} → r + length p ≡ block_bytes P → u ≡ after_blocks P v kept 1 → Streamed P H u kept k (x ++ p)
      fed-full l eu =
          fed-on p wait h refl
          (eu
          ∙ ap (λ (s : List ℕ). after_blocks P v s 1) kept-all
          ∙ after_blocks-append P v wait (drop (r + length p) pending) 1 (omega (arith, one-mul (block_bytes P), full))
          ∙ ap (after_blocks P v wait) (sym one))
          (ap (λ (m : ℕ). take m kept) (ap (λ (m : ℕ). m % block_bytes P) full ∙ mod_self (block_bytes P))
          ∙ sym (drop_of_length-le wait {i = length wait / block_bytes P * block_bytes P}
          (omega (arith, ap (λ (m : ℕ). m * block_bytes P) one, one-mul (block_bytes P), full))))
          en
        where
          full : length wait ≡ block_bytes P
          full = waiting p ∙ ap (λ (m : ℕ). m + length p) (sym er) ∙ l

          one : length wait / block_bytes P ≡ 1
          one = ap (λ (m : ℕ). m / block_bytes P) full ∙ div_self (omega arith)

-- ---- what a length leaves over blocks

module _ (P : Width) (some : 0 < word_bytes P) (n : ℕ) {r : ℕ} (er : r ≡ n % block_bytes P) where
  left-below : (j : ℕ) {a : ℕ} → a ≡ n + j → r + j < block_bytes P → a % block_bytes P ≡ r + j
  left-below j e l =
      ap (λ (k : ℕ). k % block_bytes P) (omega (arith, div-add-mod' n (block_bytes P))) ∙ digits_mod (n / block_bytes P) l

  left-beyond : (j k : ℕ) {a : ℕ} → a ≡ n + j → r + j ≡ block_bytes P + k → k < block_bytes P → a % block_bytes P ≡ k
  left-beyond j k e f l =
      ap (λ (k : ℕ). k % block_bytes P) (omega (arith, div-add-mod' n (block_bytes P), suc-mul (n / block_bytes P) (block_bytes P)))
      ∙ digits_mod (suc (n / block_bytes P)) l

  module _ {at : ℕ} (ef : at + field_bytes P ≡ block_bytes P) where
    -- the zero bytes up to the length field
    zeros-in-one : (z : ℕ) → r + 1 + z ≡ at → z ≡ zero_bytes P n
    zeros-in-one zero e =
        sym
        (ap (λ (k : ℕ). (block_bytes P - k) % block_bytes P) (left-beyond (1 + field_bytes P) 0 (omega arith) (omega arith) (omega arith))
        ∙ ap (λ (k : ℕ). k % block_bytes P) (sub-zero (block_bytes P)) ∙ mod_self (block_bytes P))
    zeros-in-one (suc z) e =
        sym
        (ap (λ (k : ℕ). (block_bytes P - k) % block_bytes P) (left-below (1 + field_bytes P) (omega arith) (omega arith))
        ∙ ap (λ (k : ℕ). k % block_bytes P) (omega arith) ∙ mod-eq_of_lt (omega arith))

    -- the same where they go through a whole block
    zeros-in-two : (y z : ℕ) → at ≤ r → r + 1 + y ≡ block_bytes P → 1 + z ≡ at → y + suc z ≡ zero_bytes P n
    zeros-in-two y z l ey ez =
        sym
        (ap (λ (k : ℕ). (block_bytes P - k) % block_bytes P)
        (left-beyond (1 + field_bytes P) (r + 1 + field_bytes P - block_bytes P) (omega arith) (omega arith) (omega arith))
        ∙ ap (λ (k : ℕ). k % block_bytes P) (omega arith) ∙ mod-eq_of_lt (omega arith))

-- ---- the padding is fed like any piece

module _ (P : Width) (some : 0 < word_bytes P) (H : Eight) {v : Eight} {pending x : List ℕ} {n : ℕ} (h : Streamed P H v pending n x)
    (l : length x < 2 ^ 64) where
  -- the length field fills the last block up
  closed : {w u : Eight} {marked full y : List ℕ} {k at z : ℕ} → Streamed P H w marked k y → y ≡ x ++ (0x80 ∷ replicate z 0)
      → z ≡ zero_bytes P (length x) → at ≡ length y % block_bytes P → at + field_bytes P ≡ block_bytes P
      → full ≡ put marked at (big_bytes (field_bytes P) (8 * n)) → u ≡ after_blocks P w full 1 → u ≡ hashed P H x
  unfolding hashed padded
  closed {w} {u} {marked} {full} {y} {k} {at} {z} s ey ez ea ef efull eu =
      (fed-full P some H s field ea efull refl (omega (arith, length-big_bytes (field_bytes P) (8 * n))) eu).value
      ∙ ap (λ (t : List ℕ). after_blocks P H t (length t / block_bytes P)) all
    where
      field : List ℕ
      field = big_bytes (field_bytes P) (8 * n)

      all : y ++ field ≡ padded P x
      all =
          ap (λ (s : List ℕ). s ++ field) (ey ∙ ap (λ (m : ℕ). x ++ (0x80 ∷ replicate m 0)) ez)
          ∙ ap (λ (m : ℕ). x ++ (0x80 ∷ replicate (zero_bytes P (length x)) 0) ++ big_bytes (field_bytes P) (8 * m))
          (h.count ∙ mod-eq_of_lt l)

  -- in the pending block, where the field has room behind the byte 0x80
  pub padded-in-one : {u : Eight} {marked full : List ℕ} (r at z : ℕ) → r ≡ length x % block_bytes P → at + field_bytes P ≡ block_bytes P
      → r + 1 + z ≡ at → marked ≡ put pending r (0x80 ∷ replicate z 0) → full ≡ put marked at (big_bytes (field_bytes P) (8 * n))
      → u ≡ after_blocks P v full 1 → u ≡ hashed P H x
  padded-in-one {u} {marked} {full} r at z er ef ez em efull eu =
      closed (fed-open P some H h mark er em refl (omega (arith, length-replicate {A = ℕ} z 0))) refl (zeros-in-one P some (length x) er ef z ez)
      (sym (left-below P some (length x) er (1 + z) (omega (arith, length-append x mark, length-replicate {A = ℕ} z 0)) (omega arith) ∙ omega arith)) ef
      efull eu
    where
      mark : List ℕ
      mark = 0x80 ∷ replicate z 0

  -- in the pending block and one more
  pub padded-in-two : {w u : Eight} {first second full : List ℕ} (r at y z : ℕ) → r ≡ length x % block_bytes P
      → at + field_bytes P ≡ block_bytes P → at ≤ r → r + 1 + y ≡ block_bytes P → 1 + z ≡ at
      → first ≡ put pending r (0x80 ∷ replicate y 0) → w ≡ after_blocks P v first 1 → second ≡ put first 0 (0 ∷ replicate z 0)
      → full ≡ put second at (big_bytes (field_bytes P) (8 * n)) → u ≡ after_blocks P w full 1 → u ≡ hashed P H x
  padded-in-two {w} {u} {first} {second} {full} r at y z er ef lr ey ez efirst ew es efull eu =
      closed begun joined (zeros-in-two P some (length x) er ef y z lr ey ez)
      (sym (left-beyond P some (length x) er (1 + y + 1 + z) at (omega (arith, length_both, length-append (x ++ mark) zeros, length-replicate {A = ℕ} z 0))
      (omega arith) (omega arith))) ef
      efull eu
    where
      mark : List ℕ
      mark = 0x80 ∷ replicate y 0

      zeros : List ℕ
      zeros = 0 ∷ replicate z 0

      length_both : length (x ++ mark) ≡ length x + 1 + y
      length_both = omega (arith, length-append x mark, length-replicate {A = ℕ} y 0)

      filled : Streamed P H w first ((n + length mark) % 2 ^ 64) (x ++ mark)
      filled = fed-full P some H h mark er efirst refl (omega (arith, length-replicate {A = ℕ} y 0)) ew

      begun : Streamed P H w second (((n + length mark) % 2 ^ 64 + length zeros) % 2 ^ 64) (x ++ mark ++ zeros)
      begun =
          fed-open P some H filled zeros (sym (left-beyond P some (length x) er (1 + y) 0 (omega (arith, length_both)) (omega arith) (omega arith))) es refl
          (omega (arith, length-replicate {A = ℕ} z 0))

      joined : x ++ mark ++ zeros ≡ x ++ (0x80 ∷ replicate (y + suc z) 0)
      joined = append_assoc x mark zeros ∙ ap (λ (s : List ℕ). x ++ (0x80 ∷ s)) (replicate-append-replicate y (suc z) 0)

-- a byte stored, and bytes put behind it
pub mark-put : (s : List ℕ) (at x : ℕ) (v : List ℕ) → at + 1 + length v ≤ length (set s at x)
    → put (set s at x) (at + 1) v ≡ put s at (x ∷ v)
mark-put s at x v h =
    let l : at + 1 + length v ≤ length s = omega (arith, length-set s at x) in
    ap (λ (t : List ℕ). put t (at + 1) v)
    (set_split s at x (omega arith)
    ∙ ap (λ (k : ℕ). take at s ++ x ∷ drop k s) (sym (add-one at))
    ∙ sym (append_assoc (take at s) (x ∷ []) (drop (at + 1) s)))
    ∙ put-beside s at 1 (x ∷ []) v refl l

-- Laws of memory after stores: joined stores, a run of bytes as one block, and byte by byte.
use mathlib.Core.Bool.{true}
use mathlib.Core.Path.{◌≡◌, refl, sym, ap, ◌∙◌}
use mathlib.Core.List.Memᴰ
use mathlib.Core.List.{List, [], ◌∷◌, ◌++◌, Memᴰ}
use mathlib.Core.Logic.{◌⊎◌, inl, inr, ◌≢◌}
use Prim.Native.Nat.{ℕ, suc, ◌+◌, ◌≤◌, ◌<◌}
use native.Mathlib.Omega.{arith}
use native.Mathlib.Nat.{add-zero}
use lib.ListN.{length, get_or, set, length-set}
use lib.Seq.{sets, sets-eq, get_or-set_same, get_or-set_other}
use Rattle.octets.specs.Parts.{put}
use Rattle.board.specs.Map.{Region, ordered, total, ram, offset}
use Rattle.board.proofs.MapLaws.{Ordered, ordered-means, offset-runs-on, offset-fits}
use Rattle.machine.specs.Machine.{Store, stores_from}
use Rattle.machine.specs.Memory.{applied}

pub applied-append : (map : List Region) (m : List ℕ) (xs ys : List Store)
    → applied map m (xs ++ ys) ≡ applied map (applied map m xs) ys
unfolding applied
applied-append map m [] ys = refl
applied-append map m (x ∷ xs) ys = applied-append map (set m (offset map x.address) x.byte) xs ys

pub length-applied : (map : List Region) (m : List ℕ) (xs : List Store) → length (applied map m xs) ≡ length m
unfolding applied
length-applied map m [] = refl
length-applied map m (x ∷ xs) =
    let at = offset map x.address in
    length-applied map (set m at x.byte) xs ∙ length-set m at x.byte

pub length-stores_from : (a : ℕ) (bs : List ℕ) → length (stores_from a bs) ≡ length bs
unfolding stores_from
length-stores_from a [] = refl
length-stores_from a (b ∷ bs) = ap suc (length-stores_from (suc a) bs)

-- bytes stored along a RAM range are one block of memory
module _ (map : List Region) (a n : ℕ) (taken : Ordered 0 map) (ranged : ram map a n ≡ true) where
  stores-set : (k : ℕ) (m bs : List ℕ) → k + length bs ≤ n → applied map m (stores_from (a + k) bs) ≡ sets m (offset map a + k) bs
  unfolding applied stores_from
  stores-set k m [] h = refl
  stores-set k m (b ∷ bs) h =
      let at : offset map (a + k) ≡ offset map a + k = offset-runs-on 0 map taken a n k ranged (omega arith) in
      let e : suc (a + k) ≡ a + suc k = omega arith in
      let f : offset map a + suc k ≡ suc (offset map a + k) = omega arith in
      ap (λ (i : ℕ). applied map (set m i b) (stores_from (suc (a + k)) bs)) at
      ∙ ap (λ (i : ℕ). applied map (set m (offset map a + k) b) (stores_from i bs)) e
      ∙ stores-set (suc k) (set m (offset map a + k) b) bs (omega arith)
      ∙ ap (λ (i : ℕ). sets (set m (offset map a + k) b) i bs) f

pub applied-from : (map : List Region) (m : List ℕ) (a : ℕ) (bs : List ℕ) → ordered 0 map ≡ true → total map ≤ length m
    → ram map a (length bs) ≡ true → applied map m (stores_from a bs) ≡ put m (offset map a) bs
applied-from map m a bs o l r =
    let taken = ordered-means 0 map o in
    ap (λ (i : ℕ). applied map m (stores_from i bs)) (sym (add-zero a))
    ∙ stores-set map a (length bs) taken r 0 m bs (omega arith)
    ∙ ap (λ (i : ℕ). sets m i bs) (add-zero (offset map a))
    ∙ sets-eq bs m (offset map a) (omega (arith, offset-fits 0 map taken a (length bs) r))

-- ---- byte by byte

-- a byte of memory that no store goes to is unchanged
pub byte-kept : (map : List Region) (m : List ℕ) (xs : List Store) (i : ℕ) → ((x : Store) → Memᴰ x xs → i ≢ offset map x.address)
    → get_or (applied map m xs) i 0 ≡ get_or m i 0
unfolding applied
byte-kept map m [] i none = refl
byte-kept map m (x ∷ xs) i none =
    let at = offset map x.address in
    byte-kept map (set m at x.byte) xs i (λ y h. none y (Memᴰ.tail h))
    ∙ get_or-set_other m at i x.byte 0 (none x (Memᴰ.head refl))

-- one that a store goes to, and none behind it, is that store's
pub byte-stored : (map : List Region) (m : List ℕ) (xs : List Store) (x : Store) (ys : List Store) → offset map x.address < length m
    → ((y : Store) → Memᴰ y ys → offset map x.address ≢ offset map y.address)
    → get_or (applied map m (xs ++ (x ∷ ys))) (offset map x.address) 0 ≡ x.byte
unfolding applied
byte-stored map m xs x ys inside none =
    let at = offset map x.address in
    let before = applied map m xs in
    ap (λ (n : List ℕ). get_or n at 0) (applied-append map m xs (x ∷ ys))
    ∙ byte-kept map (set before at x.byte) ys at none
    ∙ get_or-set_same before at x.byte 0 (rw length-applied inside)

-- the same, of the byte at index i
pub last-at : (map : List Region) (m : List ℕ) (i : ℕ) (xs : List Store) (x : Store) (ys : List Store) {zs : List Store} → i < length m
    → zs ≡ xs ++ (x ∷ ys) → offset map x.address ≡ i → ((y : Store) → Memᴰ y ys → offset map y.address ≢ i)
    → get_or (applied map m zs) i 0 ≡ x.byte
last-at map m i xs x ys {zs} inside e at last =
    ap (λ (s : List Store). get_or (applied map m s) i 0) e
    ∙ ap (λ (j : ℕ). get_or (applied map m (xs ++ (x ∷ ys))) j 0) (sym at)
    ∙ byte-stored map m xs x ys (omega (arith, at)) (λ y n q. last y n (sym q ∙ at))

-- the stores of a range are at its addresses
pub from-inside : (a : ℕ) (bs : List ℕ) (x : Store) → Memᴰ x (stores_from a bs) → (a ≤ x.address) × (x.address < a + length bs)
unfolding stores_from
from-inside a [] x m = absurd (Memᴰ.not-nil m)
from-inside a (b ∷ bs) x m = go (Memᴰ.cases_cons m) (from-inside (suc a) bs x)
  where
    go : (x ≡ record { address = a; byte = b }) ⊎ Memᴰ x (stores_from (suc a) bs)
        → (Memᴰ x (stores_from (suc a) bs) → (suc a ≤ x.address) × (x.address < suc a + length bs))
        → (a ≤ x.address) × (x.address < a + suc (length bs))
    go (inl e) below = (omega (arith, ap (λ (y : Store). y.address) e), omega (arith, ap (λ (y : Store). y.address) e))
    go (inr h) below = (omega (arith, below h), omega (arith, below h))

-- Every byte of memory after stores: as it was where none goes to it, else the last such store's.
use mathlib.Core.Path.{◌≡◌, refl, sym, ap, subst, ◌∙◌}
use mathlib.Core.List.Memᴰ
use mathlib.Core.List.{List, [], ◌∷◌, ◌++◌, Memᴰ}
use mathlib.Core.Logic.{◌⊎◌, inl, inr}
use Prim.Native.Nat.{ℕ, ◌/◌, ◌<◌}
use native.Mathlib.Decide.{ℕ_discrete}
use native.Mathlib.Omega.{arith}
use lib.ListN.{length, get_or}
use Rattle.board.specs.Map.{Region, region, regions, offset}
use Rattle.board.proofs.MapLaws.{Ordered, Covered, covered-by, offset-injective}
use Rattle.board.proofs.Theorems.{IsRam}
use Rattle.machine.specs.Machine.{Store}
use Rattle.machine.specs.Memory.{applied}
use Rattle.machine.proofs.MemoryLaws.{byte-kept, last-at}

-- none of these stores goes to a byte
abbrev pub NoneGoes : (Store → Type 0) → List Store → Type 0
NoneGoes goes xs = (x : Store) → Memᴰ x xs → goes x → ⊥

-- the last of these stores that goes to it
pub record Last (goes : Store → Type 0) (xs : List Store) : Type 0 where
  pub before : List Store
  pub store : Store
  pub behind : List Store
  pub split : xs ≡ before ++ (store ∷ behind)
  pub there : goes store
  pub last : NoneGoes goes behind

-- what a byte was and is: no store goes to it and it is the same, or it is that of the last store that does
pub data ByteAfter (goes : Store → Type 0) (xs : List Store) (was is : ℕ) : Type 0 where
  untouched : NoneGoes goes xs → is ≡ was → ByteAfter goes xs was is
  stored : (l : Last goes xs) → is ≡ l.store.byte → ByteAfter goes xs was is

module _ (map : List Region) (i : ℕ) where
  -- x goes to the byte at index i
  abbrev pub ToIndex : Store → Type 0
  ToIndex x = offset map x.address ≡ i

  none-or-last : (xs : List Store) → NoneGoes ToIndex xs ⊎ Last ToIndex xs
  none-or-last [] = inl (λ x m. absurd (Memᴰ.not-nil m))
  none-or-last (x ∷ xs) = go (none-or-last xs) (ℕ_discrete (offset map x.address) i)
    where
      go : NoneGoes ToIndex xs ⊎ Last ToIndex xs → Dec (ToIndex x) → NoneGoes ToIndex (x ∷ xs) ⊎ Last ToIndex (x ∷ xs)
      go (inr l) d =
          inr
          (record {
            before = x ∷ l.before;
            store = l.store;
            behind = l.behind;
            split = ap (λ (ys : List Store). x ∷ ys) l.split;
            there = l.there;
            last = l.last;
          })
      go (inl none) (yes e) = inr (record { before = []; store = x; behind = xs; split = refl; there = e; last = none })
      go (inl none) (no n) = inl (λ y m. here y (Memᴰ.cases_cons m))
        where
          here : (y : Store) → (y ≡ x) ⊎ Memᴰ y xs → ToIndex y → ⊥
          here y (inl e) q = n (subst ToIndex e q)
          here y (inr m) q = none y m q

  pub every-index : (memory : List ℕ) (xs : List Store) → i < length memory
      → ByteAfter ToIndex xs (get_or memory i 0) (get_or (applied map memory xs) i 0)
  every-index memory xs inside = go (none-or-last xs)
    where
      go : NoneGoes ToIndex xs ⊎ Last ToIndex xs → ByteAfter ToIndex xs (get_or memory i 0) (get_or (applied map memory xs) i 0)
      go (inl none) = untouched none (byte-kept map memory xs i (λ x m e. none x m (sym e)))
      go (inr l) = stored l (last-at map memory i l.before l.store l.behind inside l.split l.there l.last)

  -- where i is the byte of address a, the stores that go to it are those that have that address
  pub index-address : Ordered 0 map → (a : ℕ) → Covered map a → offset map a ≡ i → (xs : List Store)
      → ((x : Store) → Memᴰ x xs → Covered map x.address) → {was is : ℕ} → ByteAfter ToIndex xs was is
      → ByteAfter (λ (x : Store). x.address ≡ a) xs was is
  index-address order a c at xs inside (untouched none e) =
      untouched (λ x m q. none x m (ap (offset map) q ∙ at)) e
  index-address order a c at xs inside (stored l e) =
      stored
      (record {
        before = l.before;
        store = l.store;
        behind = l.behind;
        split = l.split;
        there = offset-injective 0 map order l.store.address a
            (inside l.store (subst (Memᴰ l.store) (sym l.split) (Memᴰ.append_right l.before (Memᴰ.head refl)))) c
            (l.there ∙ sym at);
        last = λ y m q. l.last y m (ap (offset map) q ∙ at);
      })
      e

-- an address of RAM is covered
pub ram-covered : (map : List ℕ) (a : ℕ) → IsRam map a → Covered (regions map) a
ram-covered map a w =
    covered-by (region map) 0 (length map / 16) w.0 a (omega arith) (omega arith) (omega arith)

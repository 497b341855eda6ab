-- What the definitions of the board mean, in the words of FORMAT's rules M, R and C.
use mathlib.Core.Bool.{true}
use mathlib.Core.List.{List}
use mathlib.Core.Logic.{◌⊎◌, inl, inr, ◌↔◌, ◌≢◌}
use mathlib.Core.Path.{◌≡◌, sym, ap, ap₂, subst, ◌∙◌}
use Prim.Native.Nat.{ℕ, suc, ◌+◌, ◌-◌, ◌/◌, ◌%◌, ◌^◌, ◌≤◌, ◌<◌, max}
use native.Mathlib.Decide.{ℕ_discrete}
use native.Mathlib.Nat.{zero-add}
use native.Mathlib.Omega.{arith}
use lib.ListN.{length, take}
use borrow.Author.Tests.{leb-true, le-leb}
use Rattle.answers.specs.Rules.{first_broken}
use Rattle.board.specs.Cpuid.{leaf, leaves, table_rules, register, lookup}
use Rattle.board.specs.Map.{Region, region, end, regions, total, map_rules, uncovered, ram, offset}
use Rattle.board.specs.Reach.{reachable}
use Rattle.std.specs.Prelude.{Some, None}
use Rattle.board.proofs.MapLaws.{Ordered, MapTaken, map-means, map-holds, ordered-in-order, in-order-ordered, offset-onto}
use Rattle.board.proofs.MapLaws.{In, Covered, covered-by, covered-some, covered-ram, ram-covered, uncovered-above}
use Rattle.board.proofs.MapLaws.{uncovered-covered, uncovered-not}
use Rattle.board.proofs.MapLaws.{offset-in-region, offset-injective, offset-inside, offset-runs-on, offset-fits}
use Rattle.board.proofs.RunLaws.{take-records}
use Rattle.board.proofs.TableLaws.{table-means, table-holds, has-once, Finds, lookup-finds}

-- ---- the map

-- The rules on the map and on the lent memory, one by one.
pub record MapHolds (map : List ℕ) (memory : ℕ) : Type 0 where
  -- a run of 16-byte records
  pub records : length map % 16 ≡ 0
  -- 1 to 16 regions
  pub nonempty : 1 ≤ length map / 16
  pub bounded : length map / 16 ≤ 16
  -- each length at least 1
  pub sizes : (i : ℕ) → i < length map / 16 → 1 ≤ (region map i).length
  -- each base at or above the end of the region before
  pub bases : (i : ℕ) → suc i < length map / 16 → end (region map i) ≤ (region map (suc i)).base
  -- each end at most 2^52
  pub ends : (i : ℕ) → i < length map / 16 → end (region map i) ≤ 2 ^ 52
  -- at most 2^32 bytes
  pub small : total (regions map) ≤ 2 ^ 32
  -- the memory's length equals the sum of the lengths
  pub lent : memory ≡ total (regions map)

-- A map is taken exactly if each rule holds.
pub map-taken : (map : List ℕ) (memory : ℕ) → (first_broken (map_rules map memory) ≡ 0) ↔ MapHolds map memory
map-taken map memory = (λ z. means (map-means map memory z), λ m. map-holds map memory (holds m))
  where
    n : ℕ
    n = length map / 16

    means : MapTaken map memory → MapHolds map memory
    means t =
        let o = ordered-in-order (region map) 0 0 n t.order in
        record {
          records = t.records;
          nonempty = t.nonempty;
          bounded = t.bounded;
          sizes = λ i h. o.sizes i (omega arith) (omega arith);
          bases = λ i h. o.bases i (omega arith) (omega arith);
          ends = λ i h. o.ends i (omega arith) (omega arith);
          small = t.small;
          lent = t.lent;
        }

    holds : MapHolds map memory → MapTaken map memory
    holds m =
        record {
          records = m.records;
          nonempty = m.nonempty;
          bounded = m.bounded;
          order = in-order-ordered (region map) 0 0 n
              (record {
                first = λ p. omega arith;
                sizes = λ i l h. m.sizes i (omega arith);
                bases = λ i l h. m.bases i (omega arith);
                ends = λ i l h. m.ends i (omega arith);
              });
          small = m.small;
          lent = m.lent;
        }

-- ---- ranges

-- Address x lies in region i of the map.
abbrev pub InRegion : List ℕ → ℕ → ℕ → Type 0
InRegion map i x = (i < length map / 16) × ((region map i).base ≤ x) × (x < end (region map i))

-- Address x lies in some region.
abbrev pub IsRam : List ℕ → ℕ → Type 0
IsRam map x = (i : ℕ) × InRegion map i x

covered-is-ram : (map : List ℕ) (x : ℕ) → Covered (regions map) x → IsRam map x
covered-is-ram map x d = let w = covered-some (region map) 0 (length map / 16) x d in (w.0, omega arith)

is-ram-covered : (map : List ℕ) (x : ℕ) → IsRam map x → Covered (regions map) x
is-ram-covered map x w = covered-by (region map) 0 (length map / 16) w.0 x (omega arith) (omega arith) (omega arith)

-- A range of n bytes at a is reachable if a + n is at most the limit, on whole numbers; for n = 0, a must be below it.
pub reachable-means : (top a n : ℕ) → (reachable top a n ≡ true) ↔ ((n ≡ 0 → a < top) × (n ≢ 0 → a + n ≤ top))
reachable-means top a n = (λ h. let k = leb-true (a + max n 1) top h in omega arith, λ h. le-leb (a + max n 1) top (go (ℕ_discrete n 0) h))
  where
    go : Dec (n ≡ 0) → (n ≡ 0 → a < top) × (n ≢ 0 → a + n ≤ top) → a + max n 1 ≤ top
    go (yes e) h = let l = h.0 e in omega arith
    go (no e) h = let l = h.1 e in omega arith

module _ (map : List ℕ) (memory : ℕ) (taken : first_broken (map_rules map memory) ≡ 0) where
  order : Ordered 0 (regions map)
  order = (map-means map memory taken).order

  -- A range is RAM exactly if each of its bytes lies in a region.
  pub ram-means : (a n : ℕ) → (ram (regions map) a n ≡ true) ↔ ((x : ℕ) → a ≤ x → x < a + n → IsRam map x)
  ram-means a n = (
    λ h x l m. covered-is-ram map x (ram-covered (regions map) a n x h l m),
    λ f. covered-ram 0 (regions map) order a n (λ x l m. is-ram-covered map x (f x l m)),
  )

  -- The address that `uncovered` gives is the lowest at or above a that lies in no region.
  pub uncovered-means : (a : ℕ) → (a ≤ uncovered (regions map) a) × (IsRam map (uncovered (regions map) a) → ⊥)
      × ((x : ℕ) → a ≤ x → x < uncovered (regions map) a → IsRam map x)
  uncovered-means a = (
    uncovered-above (regions map) a,
    λ w. uncovered-not 0 (regions map) a order (is-ram-covered map (uncovered (regions map) a) w),
    λ x l h. covered-is-ram map x (uncovered-covered (regions map) a x l h),
  )

  -- ---- the byte of lent memory that an address is

  -- Its distance from its region's base, behind the bytes of the regions before: they lie in map order, one behind the other.
  pub memory-byte : (i x : ℕ) → InRegion map i x → offset (regions map) x ≡ x - (region map i).base + total (take i (regions map))
  memory-byte i x h =
      offset-in-region (region map) 0 0 (length map / 16) i x order h.0
      (subst (λ (k : ℕ). In (region map k) x) (sym (zero-add i)) (h.1, h.2))
      ∙ ap₂ (λ (k : ℕ) (rs : List Region). x - (region map k).base + total rs) (zero-add i)
      (sym (take-records (region map) 0 (length map / 16) i (omega arith)))

  -- Along a range that is RAM the bytes follow one another, also across touching regions.
  pub memory-bytes-follow : (a n k : ℕ) → ram (regions map) a n ≡ true → k ≤ n → offset (regions map) (a + k) ≡ offset (regions map) a + k
  memory-bytes-follow = offset-runs-on 0 (regions map) order

  -- Two different addresses of RAM have different bytes.
  pub memory-bytes-differ : (x y : ℕ) → IsRam map x → IsRam map y → offset (regions map) x ≡ offset (regions map) y → x ≡ y
  memory-bytes-differ x y p q = offset-injective 0 (regions map) order x y (is-ram-covered map x p) (is-ram-covered map y q)

  -- Each byte of the lent memory is that of exactly one address of RAM.
  pub memory-byte-onto : (k : ℕ) → k < memory
      → (x : ℕ) × IsRam map x × (offset (regions map) x ≡ k) × ((y : ℕ) → IsRam map y → offset (regions map) y ≡ k → y ≡ x)
  memory-byte-onto k h =
      let (x, d, e) = offset-onto 0 (regions map) k order (omega (arith, (map-means map memory taken).lent)) in
      (x, covered-is-ram map x d, e, λ y q f. memory-bytes-differ y x q (covered-is-ram map x d) (f ∙ sym e))

  -- The byte of an address of RAM, and all of a range that is RAM, lies in the lent memory.
  pub memory-byte-inside : (x : ℕ) → IsRam map x → offset (regions map) x < memory
  memory-byte-inside x p = omega (arith, (map-means map memory taken).lent, offset-inside 0 (regions map) order x (is-ram-covered map x p))

  pub memory-range-inside : (a n : ℕ) → ram (regions map) a n ≡ true → offset (regions map) a + n ≤ memory
  memory-range-inside a n h = omega (arith, (map-means map memory taken).lent, offset-fits 0 (regions map) order a n h)

-- ---- the CPUID table

-- The rules on the table, one by one.
pub record TableHolds (table : List ℕ) : Type 0 where
  -- a run of 24-byte records
  pub records : length table % 24 ≡ 0
  -- at most 64 of them
  pub bounded : length table / 24 ≤ 64
  -- strictly ascending by EAX input and then ECX input
  pub ascend : (i j : ℕ) → i < j → j < length table / 24
      → ((leaf table i).eax_input < (leaf table j).eax_input)
      ⊎ (((leaf table i).eax_input ≡ (leaf table j).eax_input) × ((leaf table i).ecx_input < (leaf table j).ecx_input))

-- A table is taken exactly if each rule holds.
pub table_taken : (table : List ℕ) → (first_broken (table_rules table) ≡ 0) ↔ TableHolds table
table_taken table = (
  λ z. let t = table-means table z in record { records = t.records; bounded = t.bounded; ascend = t.order },
  λ h. table-holds table (record { records = h.records; bounded = h.bounded; order = h.ascend }),
)

-- Record i of the table has both inputs.
abbrev pub RecordHas : List ℕ → ℕ → ℕ → ℕ → Type 0
RecordHas table eax ecx i = (i < length table / 24) × ((leaf table i).eax_input ≡ eax) × ((leaf table i).ecx_input ≡ ecx)

module _ (table : List ℕ) (taken : first_broken (table_rules table) ≡ 0) (eax ecx : ℕ) where
  -- At most one record has both inputs.
  pub lookup-only : (i j : ℕ) → RecordHas table eax ecx i → RecordHas table eax ecx j → i ≡ j
  lookup-only i j p q =
      has-once (leaf table) (length table / 24) i j eax ecx (table-means table taken).order p.0 q.0 (omega arith) (omega arith)

  -- A lookup finds a record exactly if one has both inputs, and then that one: it gives its register n.
  pub lookup-record : (n i : ℕ) → RecordHas table eax ecx i → lookup (leaves table) eax ecx n ≡ Some (register n (leaf table i))
  lookup-record n i p = go (lookup-finds (leaf table) eax ecx n 0 (length table / 24))
    where
      go : Finds (leaf table) eax ecx n 0 (length table / 24) (lookup (leaves table) eax ecx n)
          → lookup (leaves table) eax ecx n ≡ Some (register n (leaf table i))
      go (inl w) = w.4 ∙ ap (λ (k : ℕ). Some (register n (leaf table k))) (lookup-only w.0 i (omega arith) p)
      go (inr w) = absurd (w.0 i (omega arith) (omega arith) (p.1, p.2))

  pub lookup-found : (n x : ℕ) → lookup (leaves table) eax ecx n ≡ Some x
      → (i : ℕ) × RecordHas table eax ecx i × (x ≡ register n (leaf table i))
  lookup-found n x e = go (lookup-finds (leaf table) eax ecx n 0 (length table / 24))
    where
      go : Finds (leaf table) eax ecx n 0 (length table / 24) (lookup (leaves table) eax ecx n)
          → (i : ℕ) × RecordHas table eax ecx i × (x ≡ register n (leaf table i))
      go (inl w) = (w.0, omega arith, cc w.4)
      go (inr w) = absurd (let z : ◌≡◌ {A = ℕ} 0 1 = cc w.1 in omega arith)

  pub lookup-nothing : (n : ℕ) → (lookup (leaves table) eax ecx n ≡ None) ↔ ((i : ℕ) → RecordHas table eax ecx i → ⊥)
  lookup-nothing n = (
    λ e i p. let q = lookup-record n i p in let z : ◌≡◌ {A = ℕ} 0 1 = cc in
        omega arith,
    λ none. go none (lookup-finds (leaf table) eax ecx n 0 (length table / 24)),
  )
    where
      go : ((i : ℕ) → RecordHas table eax ecx i → ⊥) → Finds (leaf table) eax ecx n 0 (length table / 24) (lookup (leaves table) eax ecx n)
          → lookup (leaves table) eax ecx n ≡ None
      go none (inl w) = absurd (none w.0 (omega arith))
      go none (inr w) = w.1

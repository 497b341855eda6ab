-- Loops over the map and the table: their records as the parts of a slice, and what the one that stands next says.
use mathlib.Core.Bool.{Bool, true, false, cond}
use mathlib.Core.List.{List, [], ◌∷◌}
use mathlib.Core.Path.{◌≡◌, refl, sym, ap, subst, ◌∙◌}
use Prim.Native.Nat.{ℕ, zero, suc, ◌+◌, ◌-◌, ◌*◌, ◌/◌, ◌^◌, ◌≤◌, ◌<◌}
use native.Mathlib.Nat.{suc-add}
use native.Mathlib.Numerals.{add-one}
use native.Mathlib.Omega.{arith}
use lib.ListN.{length, get_or, drop}
use lib.Seq.{drop-cons}
use Rattle.std.proofs.Common.{map}
use Rattle.std.proofs.lemmas.List.{drop_all}
use Rattle.std.specs.List.{IsAllAdjacentAnswer}
use Rattle.std.specs.Simd.{first_chunks}
use Rattle.octets.specs.Numbers.{little}
use Rattle.octets.specs.Parts.{part}
use Rattle.board.specs.Cpuid.{Leaf, leaf, leaves, before, ascending}
use Rattle.board.specs.Map.{Region, region, regions, end, ordered, total, uncovered, offset}
use Rattle.board.proofs.MapLaws.{Ordered, ordered-means, total-fits, uncovered-below, uncovered-above, offset-none, offset-le-total}
use Rattle.board.proofs.RunLaws.{part-part, records-chunks}

-- a number that stands in a part
inside : (s : List ℕ) (a m b n c : ℕ) → b + n ≤ m → a + b ≡ c → little (part (part s a m) b n) ≡ little (part s c n)
inside s a m b n c h e = ap little (part-part s a m b n h ∙ ap (λ (k : ℕ). part s k n) e)

-- a record's region, of the record alone
abbrev pub region_of : List ℕ → Region
region_of bytes = region bytes 0

pub regions-chunks : (map_bytes : List ℕ) → regions map_bytes ≡ map region_of (first_chunks 16 (length map_bytes / 16) map_bytes)
regions-chunks s = records-chunks region 16 s alone (length s / 16)
  where
    alone : (i : ℕ) → region (part s (16 * i) 16) 0 ≡ region s i
    alone i = λ j. record {
      base = inside s (16 * i) 16 0 8 (16 * i) (omega arith) (omega arith) j;
      length = inside s (16 * i) 16 8 8 (16 * i + 8) (omega arith) refl j;
    }

-- a record's leaf
abbrev pub leaf_of : List ℕ → Leaf
leaf_of bytes = leaf bytes 0

pub leaves-chunks : (table : List ℕ) → leaves table ≡ map leaf_of (first_chunks 24 (length table / 24) table)
leaves-chunks s = records-chunks leaf 24 s alone (length s / 24)
  where
    word : (i b : ℕ) → b + 4 ≤ 24 → little (part (part s (24 * i) 24) b 4) ≡ little (part s (24 * i + b) 4)
    word i b h = inside s (24 * i) 24 b 4 (24 * i + b) h refl

    alone : (i : ℕ) → leaf (part s (24 * i) 24) 0 ≡ leaf s i
    alone i = λ j. record {
      eax_input = inside s (24 * i) 24 0 4 (24 * i) (omega arith) (omega arith) j;
      ecx_input = word i 4 (omega arith) j;
      eax = word i 8 (omega arith) j;
      ebx = word i 12 (omega arith) j;
      ecx = word i 16 (omega arith) j;
      edx = word i 20 (omega arith) j;
    }

pub ruleset chunks = (regions-chunks, leaves-chunks)

-- ---- a loop over records

-- what the record at i gives, and those behind it
pub map-drop : {A : Type 0} (f : List ℕ → A) (xs : List (List ℕ)) (i : ℕ) → i < length xs
    → map f (drop i xs) ≡ f (get_or xs i []) ∷ map f (drop (i + 1) xs)
map-drop f xs i h = ap (map f) (drop-cons xs i [] h) ∙ ap (λ (j : ℕ). f (get_or xs i []) ∷ map f (drop j xs)) (sym (add-one i))

-- behind the last there is none
pub map-drop_none : {A : Type 0} (f : List ℕ → A) (xs : List (List ℕ)) (i : ℕ) → length xs ≤ i → map f (drop i xs) ≡ []
map-drop_none f xs i h = ap (map f) (drop_all i xs h)

pub ruleset record_by_record = (map-drop, map-drop_none)

-- ---- regions in order

-- the code's numbers stay far below 2^64
pub total-small : (bytes : List ℕ) → ordered 0 (regions bytes) ≡ true → total (regions bytes) ≤ 2 ^ 52
total-small bytes o = total-fits 0 (regions bytes) (ordered-means 0 (regions bytes) o)

pub offset-small : (bytes : List ℕ) (a : ℕ) → ordered 0 (regions bytes) ≡ true → offset (regions bytes) a ≤ 2 ^ 52
offset-small bytes a o = omega (arith, total-small bytes o, offset-le-total (regions bytes) a)

-- of regions in order, those from i on
ordered-drop : (low : ℕ) (xs : List (List ℕ)) (i : ℕ) → Ordered low (map region_of xs)
    → (l : ℕ) × Ordered l (map region_of (drop i xs))
ordered-drop low xs zero o = (low, o)
ordered-drop low [] (suc i) o = (low, tt)
ordered-drop low (x ∷ xs) (suc i) o = ordered-drop (end (region_of x)) xs i o.3

module _ (xs : List (List ℕ)) (i : ℕ) (h : i < length xs) (o : ordered 0 (map region_of xs) ≡ true) where
  abbrev here : Region
  here = region_of (get_or xs i [])

  standing : Ordered here.base (here ∷ map region_of (drop (i + 1) xs))
  standing =
      let w = ordered-drop 0 xs i (ordered-means 0 (map region_of xs) o) in
      let s = subst (λ (rs : List Region). Ordered w.0 rs) (map-drop region_of xs i h) w.1 in
      (s.0, omega arith, s.2, s.3)

  pub end-small : end (region_of (get_or xs i [])) ≤ 2 ^ 52
  end-small = standing.2

  -- below the region nothing more is covered, and no byte lies
  pub uncovered-stops : (a : ℕ) → a < (region_of (get_or xs i [])).base → uncovered (map region_of (drop i xs)) a ≡ a
  uncovered-stops a l =
      ap (λ (rs : List Region). uncovered rs a) (map-drop region_of xs i h)
      ∙ uncovered-below here.base (here ∷ map region_of (drop (i + 1) xs)) a standing l

  pub offset-stops : (a : ℕ) → a ≤ (region_of (get_or xs i [])).base → offset (map region_of (drop i xs)) a ≡ 0
  offset-stops a l =
      ap (λ (rs : List Region). offset rs a) (map-drop region_of xs i h)
      ∙ offset-none here.base (here ∷ map region_of (drop (i + 1) xs)) a standing l

  -- within it, or at its end
  pub offset-within : (a : ℕ) → a - (region_of (get_or xs i [])).base ≤ (region_of (get_or xs i [])).length
      → offset (map region_of (drop i xs)) a ≡ a - (region_of (get_or xs i [])).base
  unfolding offset
  offset-within a l =
      ap (λ (rs : List Region). offset rs a) (map-drop region_of xs i h)
      ∙ omega (arith, offset-none (end here) (map region_of (drop (i + 1) xs)) a standing.3 (omega arith))

pub ruleset regions_in_order = (record_by_record, total-small, offset-small, end-small, uncovered-stops, uncovered-above, offset-stops, offset-within)

-- ---- records in order

-- records that each stand before the next
ascending-all : (xs : List (List ℕ))
    → ((k : ℕ) (d : List ℕ) → k + 1 < length xs → true ≡ before (leaf_of (get_or xs k d)) (leaf_of (get_or xs (k + 1) d)))
    → true ≡ ascending (map leaf_of xs)
unfolding ascending
ascending-all [] h = refl
ascending-all (x ∷ []) h = refl
ascending-all (x ∷ (y ∷ xs)) h =
    let below : true ≡ ascending (map leaf_of (y ∷ xs)) =
    ascending-all (y ∷ xs) (λ k d l. rw (suc-add k 1) at (h (suc k) d (omega arith))) in
    rw (← h 0 [] (omega arith)) below

-- records of which one does not
ascending-broken : (xs : List (List ℕ)) (k : ℕ) → k + 1 < length xs
    → ((d : List ℕ) → false ≡ before (leaf_of (get_or xs k d)) (leaf_of (get_or xs (k + 1) d)))
    → false ≡ ascending (map leaf_of xs)
unfolding ascending
ascending-broken [] k l h = absurd (omega arith)
ascending-broken (x ∷ []) k l h = absurd (omega arith)
ascending-broken (x ∷ (y ∷ xs)) zero l h = rw (← h []) refl
ascending-broken (x ∷ (y ∷ xs)) (suc k) l h =
    go (before (leaf_of x) (leaf_of y)) (ascending-broken (y ∷ xs) k (omega arith) (λ d. rw (suc-add k 1) at (h d)))
  where
    go : (b : Bool) → false ≡ ascending (map leaf_of (y ∷ xs)) → false ≡ cond b (ascending (map leaf_of (y ∷ xs))) false
    go true e = e
    go false e = refl

-- the library's test of neighbours
pub ascending-tested : (xs : List (List ℕ)) (r : Bool) → IsAllAdjacentAnswer (λ x y b. b ≡ before (leaf_of x) (leaf_of y)) xs r
    → r ≡ ascending (map leaf_of xs)
ascending-tested xs true h = ascending-all xs h
ascending-tested xs false h = ascending-broken xs h.0 h.1 h.2

-- Laws of regions in order: what is covered, which ranges are RAM, and where an address's byte is.
use mathlib.Core.Bool.{true, not}
use mathlib.Core.List.{List, [], ◌∷◌}
use mathlib.Core.Logic.{◌⊎◌, inl, inr}
use mathlib.Core.Path.{◌≡◌, refl, sym, ap, subst, ◌∙◌}
use Prim.Native.Nat.{ℕ, zero, suc, ◌+◌, ◌-◌, ◌/◌, ◌%◌, ◌^◌, ◌≤◌, ◌<◌, max}
use native.Mathlib.Nat.{add-zero, eq-or-lt_of_le}
use native.Mathlib.Omega.{arith}
use lib.Dec.{ltb}
use lib.ListN.{length}
use borrow.Author.Tests.{ltb-false, leb-true, eqb-true, eqb-false, le-ltb, le-leb, lt-leb, eq-eqb, ne_eqb, not-false}
use Rattle.answers.specs.Rules.{first_broken}
use Rattle.answers.proofs.RuleLaws.{AllHold, zero-all-hold, all-hold-zero, first-broken-same}
use Rattle.board.specs.Records.{records}
use Rattle.board.specs.Map.{Region, end, regions, ordered, total, map_rules, uncovered, ram, offset}
use Rattle.board.proofs.RunLaws.{each_more}
use Rattle.answers.proofs.ChoiceLaws.{cond-false}
use Rattle.board.proofs.TestLaws.{le-or-lt}

-- ---- the order of regions

-- what `ordered` tests: a first region at or above low, and those behind it
abbrev pub Ordered : ℕ → List Region → Type 0
Ordered low [] = Unit {0}
Ordered low (r ∷ rs) = (1 ≤ r.length) × (low ≤ r.base) × (end r ≤ 2 ^ 52) × Ordered (end r) rs

pub ordered-means : (low : ℕ) (rs : List Region) → ordered low rs ≡ true → Ordered low rs
unfolding ordered
ordered-means low [] h = tt
ordered-means low (r ∷ rs) h =
    let a = cond-false (ltb r.length 1) _ h in
    let b = cond-false (ltb r.base low) _ a.1 in
    let d = cond-false (ltb (2 ^ 52) (end r)) (ordered (end r) rs) b.1 in
    (ltb-false _ _ a.0, ltb-false _ _ b.0, ltb-false _ _ d.0, ordered-means (end r) rs d.1)

pub ordered_step : (low : ℕ) (r : Region) (rs : List Region) → 1 ≤ r.length → low ≤ r.base → end r ≤ 2 ^ 52
    → ordered low (r ∷ rs) ≡ ordered (end r) rs
unfolding ordered
ordered_step low r rs a b c = simp (le-ltb r.length 1 a, le-ltb r.base low b, le-ltb (2 ^ 52) (end r) c)

pub ordered-holds : (low : ℕ) (rs : List Region) → Ordered low rs → ordered low rs ≡ true
unfolding ordered
ordered-holds low [] h = refl
ordered-holds low (r ∷ rs) h = ordered_step low r rs h.0 h.1 h.2 ∙ ordered-holds (end r) rs h.3

-- regions in order have no more bytes than there are addresses for them
pub total-fits : (low : ℕ) (rs : List Region) → Ordered low rs → total rs ≤ 2 ^ 52 - low
unfolding total
total-fits low [] h = omega arith
total-fits low (r ∷ rs) h = omega (arith, total-fits (end r) rs h.3)

-- ---- covered addresses

abbrev pub In : Region → ℕ → Type 0
In r x = (r.base ≤ x) × (x < end r)

-- x lies in one of the regions
abbrev pub Covered : List Region → ℕ → Type 0
Covered [] x = ⊥
Covered (r ∷ rs) x = In r x ⊎ Covered rs x

pub covered-above : (low : ℕ) (rs : List Region) (x : ℕ) → Ordered low rs → Covered rs x → low ≤ x
covered-above low [] x h d = absurd d
covered-above low (r ∷ rs) x h (inl d) = omega arith
covered-above low (r ∷ rs) x h (inr d) = omega (arith, covered-above (end r) rs x h.3 d)

-- ---- the first address that is not covered

pub uncovered-skip : (r : Region) (rs : List Region) (a : ℕ) → a < r.base → uncovered (r ∷ rs) a ≡ uncovered rs a
unfolding uncovered
uncovered-skip r rs a h = rw (lt-leb r.base a h)

pub uncovered-step : (r : Region) (rs : List Region) (a : ℕ) → r.base ≤ a → uncovered (r ∷ rs) a ≡ uncovered rs (max a (end r))
unfolding uncovered
uncovered-step r rs a h = rw (le-leb r.base a h)

pub uncovered-above : (rs : List Region) (a : ℕ) → a ≤ uncovered rs a
unfolding uncovered
uncovered-above [] a = omega arith
uncovered-above (r ∷ rs) a = go (le-or-lt r.base a) (λ (b : ℕ). uncovered-above rs b)
  where
    go : (r.base ≤ a) ⊎ (a < r.base) → ((b : ℕ) → b ≤ uncovered rs b) → a ≤ uncovered (r ∷ rs) a
    go (inl h) below = omega (arith, uncovered-step r rs a h, below (max a (end r)))
    go (inr h) below = omega (arith, uncovered-skip r rs a h, below a)

-- below all regions nothing is covered
pub uncovered-below : (low : ℕ) (rs : List Region) (a : ℕ) → Ordered low rs → a < low → uncovered rs a ≡ a
unfolding uncovered
uncovered-below low [] a h l = refl
uncovered-below low (r ∷ rs) a h l = uncovered-skip r rs a (omega arith) ∙ uncovered-below (end r) rs a h.3 (omega arith)

pub uncovered-covered : (rs : List Region) (a x : ℕ) → a ≤ x → x < uncovered rs a → Covered rs x
unfolding uncovered
uncovered-covered [] a x l h = omega arith
uncovered-covered (r ∷ rs) a x l h = go (le-or-lt r.base a) (λ (b : ℕ). uncovered-covered rs b x)
  where
    later : r.base ≤ a → ((b : ℕ) → b ≤ x → x < uncovered rs b → Covered rs x) → (end r ≤ x) ⊎ (x < end r) → In r x ⊎ Covered rs x
    later k below (inl m) = inr (below (max a (end r)) (omega arith) (omega (arith, uncovered-step r rs a k)))
    later k below (inr m) = inl (omega arith)

    go : (r.base ≤ a) ⊎ (a < r.base) → ((b : ℕ) → b ≤ x → x < uncovered rs b → Covered rs x) → In r x ⊎ Covered rs x
    go (inl k) below = later k below (le-or-lt (end r) x)
    go (inr k) below = inr (below a l (omega (arith, uncovered-skip r rs a k)))

pub uncovered-not : (low : ℕ) (rs : List Region) (a : ℕ) → Ordered low rs → Covered rs (uncovered rs a) → ⊥
unfolding uncovered
uncovered-not low [] a h d = d
uncovered-not low (r ∷ rs) a h d = go (le-or-lt r.base a) d (λ (b : ℕ). uncovered-not (end r) rs b h.3)
  where
    go : (r.base ≤ a) ⊎ (a < r.base) → In r (uncovered (r ∷ rs) a) ⊎ Covered rs (uncovered (r ∷ rs) a)
        → ((b : ℕ) → Covered rs (uncovered rs b) → ⊥) → ⊥
    go (inl k) (inl m) below = omega (arith, uncovered-step r rs a k, uncovered-above rs (max a (end r)))
    go (inl k) (inr m) below = below (max a (end r)) (rw (uncovered-step r rs a k) at m)
    go (inr k) (inl m) below =
        omega (arith, uncovered-skip r rs a k, uncovered-below (end r) rs a h.3 (omega arith))
    go (inr k) (inr m) below = below a (rw (uncovered-skip r rs a k) at m)

-- ---- RAM

pub ram-empty : (rs : List Region) (a : ℕ) → ram rs a 0 ≡ true
ram-empty rs a = le-leb (a + 0) (uncovered rs a) (omega (arith, uncovered-above rs a))

-- each address of a range that is RAM is covered
pub ram-covered : (rs : List Region) (a n x : ℕ) → ram rs a n ≡ true → a ≤ x → x < a + n → Covered rs x
ram-covered rs a n x h l m = uncovered-covered rs a x l (omega (arith, leb-true (a + n) (uncovered rs a) h))

module _ (low : ℕ) (rs : List Region) (o : Ordered low rs) where
  pub covered-ram : (a n : ℕ) → ((x : ℕ) → a ≤ x → x < a + n → Covered rs x) → ram rs a n ≡ true
  covered-ram a n f = le-leb (a + n) u (go (le-or-lt (a + n) u))
    where
      u : ℕ
      u = uncovered rs a

      go : (a + n ≤ u) ⊎ (u < a + n) → a + n ≤ u
      go (inl h) = h
      go (inr h) = absurd (uncovered-not low rs a o (f u (uncovered-above rs a) h))

-- ---- an address's byte of the lent memory

pub offset-none : (low : ℕ) (rs : List Region) (x : ℕ) → Ordered low rs → x ≤ low → offset rs x ≡ 0
unfolding offset
offset-none low [] x h l = refl
offset-none low (r ∷ rs) x h l = omega (arith, offset-none (end r) rs x h.3 (omega arith))

pub offset-le-total : (rs : List Region) (x : ℕ) → offset rs x ≤ total rs
unfolding offset total
offset-le-total [] x = omega arith
offset-le-total (r ∷ rs) x = omega (arith, offset-le-total rs x)

pub offset-rises : (rs : List Region) (x y : ℕ) → x ≤ y → offset rs x ≤ offset rs y
unfolding offset
offset-rises [] x y h = omega arith
offset-rises (r ∷ rs) x y h = omega (arith, offset-rises rs x y h)

-- behind a covered address's byte comes the next address's
pub offset-next : (low : ℕ) (rs : List Region) (x : ℕ) → Ordered low rs → Covered rs x → offset rs (x + 1) ≡ offset rs x + 1
unfolding offset
offset-next low [] x h d = absurd d
offset-next low (r ∷ rs) x h (inl d) =
    omega (arith, offset-none (end r) rs x h.3 (omega arith), offset-none (end r) rs (x + 1) h.3 (omega arith))
offset-next low (r ∷ rs) x h (inr d) = omega (arith, covered-above (end r) rs x h.3 d, offset-next (end r) rs x h.3 d)

module _ (low : ℕ) (rs : List Region) (o : Ordered low rs) where
  -- the byte of a covered address lies in the lent memory
  pub offset-inside : (x : ℕ) → Covered rs x → offset rs x < total rs
  offset-inside x d = omega (arith, offset-next low rs x o d, offset-le-total rs (x + 1))

  offset-less : (x y : ℕ) → Covered rs x → x < y → offset rs x < offset rs y
  offset-less x y d h = omega (arith, offset-next low rs x o d, offset-rises rs (x + 1) y (omega arith))

  -- two covered addresses with the same byte are the same
  pub offset-injective : (x y : ℕ) → Covered rs x → Covered rs y → offset rs x ≡ offset rs y → x ≡ y
  offset-injective x y d e q = go (le-or-lt x y) (le-or-lt y x)
    where
      go : (x ≤ y) ⊎ (y < x) → (y ≤ x) ⊎ (x < y) → x ≡ y
      go (inl h) (inl k) = omega arith
      go (inl h) (inr k) = absurd (omega (arith, offset-less x y d k))
      go (inr h) k = absurd (omega (arith, offset-less y x e h))

  -- along a range that is RAM the bytes follow one another
  pub offset-runs-on : (a n k : ℕ) → ram rs a n ≡ true → k ≤ n → offset rs (a + k) ≡ offset rs a + k
  offset-runs-on a n zero h l = ap (offset rs) (add-zero a) ∙ sym (add-zero (offset rs a))
  offset-runs-on a n (suc k) h l =
      let e : a + suc k ≡ a + k + 1 = omega arith in
      ap (offset rs) e ∙ offset-next low rs (a + k) o (ram-covered rs a n (a + k) h (omega arith) (omega arith))
      ∙ omega (arith, offset-runs-on a n k h (omega arith))

  pub offset-fits : (a n : ℕ) → ram rs a n ≡ true → offset rs a + n ≤ total rs
  offset-fits a n h = omega (arith, offset-runs-on a n n h (omega arith), offset-le-total rs (a + n))

-- each byte of the lent memory is a covered address's
pub offset-onto : (low : ℕ) (rs : List Region) (k : ℕ) → Ordered low rs → k < total rs → (x : ℕ) × Covered rs x × (offset rs x ≡ k)
unfolding total offset
offset-onto low [] k h l = absurd (omega arith)
offset-onto low (r ∷ rs) k h l = go (le-or-lt r.length k) (offset-onto (end r) rs (k - r.length) h.3)
  where
    go : (r.length ≤ k) ⊎ (k < r.length)
        → (k - r.length < total rs → (x : ℕ) × Covered rs x × (offset rs x ≡ k - r.length))
        → (x : ℕ) × Covered (r ∷ rs) x × (offset (r ∷ rs) x ≡ k)
    go (inl m) below =
        let (x, d, e) = below (omega arith) in
        (x, inr d, omega (arith, e, covered-above (end r) rs x h.3 d))
    go (inr m) below =
        (r.base + k, inl (omega arith, omega arith), omega (arith, offset-none (end r) rs (r.base + k) h.3 (omega arith)))

-- ---- regions by their numbers

module _ (read : ℕ → Region) where
  -- n regions from number i on, the first at or above low: the document's rules, one by one
  pub record InOrder (low i n : ℕ) : Type 0 where
    pub first : 0 < n → low ≤ (read i).base
    pub sizes : (j : ℕ) → i ≤ j → j < i + n → 1 ≤ (read j).length
    pub bases : (j : ℕ) → i ≤ j → suc j < i + n → end (read j) ≤ (read (suc j)).base
    pub ends : (j : ℕ) → i ≤ j → j < i + n → end (read j) ≤ 2 ^ 52

  pub ordered-in-order : (low i n : ℕ) → Ordered low (records read i n) → InOrder low i n
  unfolding records
  ordered-in-order low i zero h =
      record { first = λ p. omega arith; sizes = λ j l m. omega arith; bases = λ j l m. omega arith; ends = λ j l m. omega arith }
  ordered-in-order low i (suc n) h =
      let rest = ordered-in-order (end (read i)) (suc i) n h.3 in
      record {
        first = λ p. h.1;
        sizes = each_more (λ (j : ℕ). 1 ≤ (read j).length) i n h.0 rest.sizes;
        bases = λ j l m. each_more (λ (j : ℕ). suc j < i + suc n → end (read j) ≤ (read (suc j)).base) i n (λ p. rest.first (omega arith))
            (λ j l m p. rest.bases j l (omega arith)) j l (omega arith) m;
        ends = each_more (λ (j : ℕ). end (read j) ≤ 2 ^ 52) i n h.2 rest.ends;
      }

  pub in-order-ordered : (low i n : ℕ) → InOrder low i n → Ordered low (records read i n)
  unfolding records
  in-order-ordered low i zero h = tt
  in-order-ordered low i (suc n) h = (
    h.sizes i (omega arith) (omega arith),
    h.first (omega arith),
    h.ends i (omega arith) (omega arith),
    in-order-ordered (end (read i)) (suc i) n
        (record {
          first = λ p. h.bases i (omega arith) (omega arith);
          sizes = λ j l m. h.sizes j (omega arith) (omega arith);
          bases = λ j l m. h.bases j (omega arith) (omega arith);
          ends = λ j l m. h.ends j (omega arith) (omega arith);
        }),
  )

  -- covered by region j
  pub covered-by : (i n j x : ℕ) → i ≤ j → j < i + n → In (read j) x → Covered (records read i n) x
  unfolding records
  covered-by i zero j x l h d = absurd (omega arith)
  covered-by i (suc n) j x l h d = go (eq-or-lt_of_le l) (λ (m : suc i ≤ j). covered-by (suc i) n j x m (omega arith) d)
    where
      go : (i ≡ j) ⊎ (i < j) → (suc i ≤ j → Covered (records read (suc i) n) x) → In (read i) x ⊎ Covered (records read (suc i) n) x
      go (inl e) below = inl (subst (λ (k : ℕ). In (read k) x) (sym e) d)
      go (inr m) below = inr (below m)

  pub covered-some : (i n x : ℕ) → Covered (records read i n) x → (j : ℕ) × (i ≤ j) × (j < i + n) × In (read j) x
  unfolding records
  covered-some i zero x d = absurd d
  covered-some i (suc n) x (inl d) = (i, omega arith, omega arith, d)
  covered-some i (suc n) x (inr d) = let w = covered-some (suc i) n x d in (w.0, omega arith, omega arith, w.3)

  -- the byte of an address: its distance from its region's base behind the bytes of the regions before
  pub offset-in-region : (low i n k x : ℕ) → Ordered low (records read i n) → k < n → In (read (i + k)) x
      → offset (records read i n) x ≡ x - (read (i + k)).base + total (records read i k)
  unfolding records offset total
  offset-in-region low i zero k x o h d = absurd (omega arith)
  offset-in-region low i (suc n) zero x o h d =
      let e : i + 0 ≡ i = omega arith in
      let c : In (read i) x = subst (λ (k : ℕ). In (read k) x) e d in
      omega (arith, ap (λ (k : ℕ). (read k).base) e, offset-none (end (read i)) (records read (suc i) n) x o.3 (omega arith))
  offset-in-region low i (suc n) (suc k) x o h d =
      let e : i + suc k ≡ suc i + k = omega arith in
      let c : In (read (suc i + k)) x = subst (λ (k : ℕ). In (read k) x) e d in
      omega (
        arith,
        ap (λ (k : ℕ). (read k).base) e,
        covered-above (end (read i)) (records read (suc i) n) x o.3 (covered-by (suc i) n (suc i + k) x (omega arith) (omega arith) c),
        offset-in-region (end (read i)) (suc i) n k x o.3 (omega arith) c,
      )

-- ---- a map that is taken

pub record MapTaken (map : List ℕ) (memory : ℕ) : Type 0 where
  pub records : length map % 16 ≡ 0
  pub nonempty : 1 ≤ length map / 16
  pub bounded : length map / 16 ≤ 16
  pub order : Ordered 0 (regions map)
  pub small : total (regions map) ≤ 2 ^ 32
  pub lent : memory ≡ total (regions map)

module _ (map : List ℕ) (memory : ℕ) where
  all-means : AllHold (map_rules map memory) → MapTaken map memory
  all-means h =
      let nonzero = eqb-false (length map / 16) 0 h.1.0 in
      record {
        records = eqb-true _ _ (not-false _ h.0);
        nonempty = omega arith;
        bounded = ltb-false _ _ h.1.1.0;
        order = ordered-means 0 (regions map) (not-false _ h.1.1.1.0);
        small = ltb-false _ _ h.1.1.1.1.0;
        lent = eqb-true _ _ (not-false _ h.1.1.1.1.1.0);
      }

  pub map-means : first_broken (map_rules map memory) ≡ 0 → MapTaken map memory
  map-means z = all-means (zero-all-hold (map_rules map memory) tt z)

  pub map-refused : (MapTaken map memory → ⊥) → 2 ≡ first_broken (map_rules map memory)
  map-refused f =
      sym (first-broken-same 2 (map_rules map memory) (refl, (refl, (refl, (refl, (refl, (refl, tt)))))) (λ h. f (all-means h)))

  pub map-holds : MapTaken map memory → first_broken (map_rules map memory) ≡ 0
  map-holds t =
      all-hold-zero (map_rules map memory) (
        ap not (eq-eqb _ _ t.records),
        (
          ne_eqb (length map / 16) 0 (omega arith),
          (
            le-ltb _ _ t.bounded,
            (ap not (ordered-holds 0 (regions map) t.order), (le-ltb _ _ t.small, (ap not (eq-eqb _ _ t.lent), tt))),
          ),
        ),
      )

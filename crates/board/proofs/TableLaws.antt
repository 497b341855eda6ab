-- Laws of the CPUID table: its order, and what a lookup finds.
use mathlib.Core.Bool.{Bool, true, false, not, cond}
use mathlib.Core.List.{List, ◌∷◌}
use mathlib.Core.Logic.{◌⊎◌, inl, inr}
use mathlib.Core.Path.{◌≡◌, refl, sym, ap, subst, ◌∙◌}
use Prim.Native.Nat.{ℕ, zero, suc, ◌+◌, ◌-◌, ◌/◌, ◌%◌, ◌≤◌, ◌<◌}
use native.Mathlib.Decide.{ℕ_discrete}
use native.Mathlib.Omega.{arith}
use lib.Dec.{eqb, ltb}
use lib.ListN.{length}
use borrow.Author.Tests.{ltb-true, ltb-false, eqb-true, lt-ltb, le-ltb, eq-eqb, ne_eqb, not-false}
use Rattle.answers.specs.Rules.{first_broken}
use Rattle.answers.proofs.RuleLaws.{AllHold, zero-all-hold, all-hold-zero, first-broken-same}
use Rattle.board.specs.Cpuid.{Leaf, leaf, before, ascending, table_rules, register, lookup}
use Rattle.board.specs.Records.{records}
use Rattle.std.specs.Prelude.{Option}
use Rattle.std.specs.Prelude.{Some, None}
use Rattle.board.proofs.RunLaws.{each_more}
use Rattle.answers.proofs.ChoiceLaws.{cond-true}
use Rattle.board.proofs.TestLaws.{le-or-lt}

-- ---- the order of records

-- p stands before q: by EAX input and then ECX input
abbrev pub Before : Leaf → Leaf → Type 0
Before p q = (p.eax_input < q.eax_input) ⊎ ((p.eax_input ≡ q.eax_input) × (p.ecx_input < q.ecx_input))

pub before-means : (p q : Leaf) → before p q ≡ true → Before p q
before-means p q = go (eqb p.eax_input q.eax_input) refl
  where
    go : (t : Bool) → eqb p.eax_input q.eax_input ≡ t
        → cond t (ltb p.ecx_input q.ecx_input) (ltb p.eax_input q.eax_input) ≡ true → Before p q
    go true e h = inr (eqb-true _ _ e, ltb-true _ _ h)
    go false e h = inl (ltb-true _ _ h)

pub before-holds : (p q : Leaf) → Before p q → before p q ≡ true
before-holds p q (inl h) = rw (ne_eqb p.eax_input q.eax_input (omega arith)) (lt-ltb _ _ h)
before-holds p q (inr h) = rw (eq-eqb p.eax_input q.eax_input h.0) (lt-ltb _ _ h.1)

before-trans : (p q r : Leaf) → Before p q → Before q r → Before p r
before-trans p q r (inl h) (inl k) = inl (omega arith)
before-trans p q r (inl h) (inr k) = inl (omega arith)
before-trans p q r (inr h) (inl k) = inl (omega arith)
before-trans p q r (inr h) (inr k) = inr (omega arith)

-- l has both inputs
abbrev pub Has : Leaf → ℕ → ℕ → Type 0
Has l eax ecx = (l.eax_input ≡ eax) × (l.ecx_input ≡ ecx)

module _ (read : ℕ → Leaf) where
  -- of n records from number i on, each stands before the next
  abbrev Adjacent : ℕ → ℕ → Type 0
  Adjacent i n = (j : ℕ) → i ≤ j → suc j < i + n → Before (read j) (read (suc j))

  ascending-adjacent : (i n : ℕ) → ascending (records read i n) ≡ true → Adjacent i n
  unfolding records ascending
  ascending-adjacent i zero h = λ j l m. absurd (omega arith)
  ascending-adjacent i (suc zero) h = λ j l m. absurd (omega arith)
  ascending-adjacent i (suc (suc n)) h = λ j l m.
      let s = cond-true (before (read i) (read (suc i))) (ascending (records read (suc i) (suc n))) h in
      each_more (λ (j : ℕ). suc j < i + suc (suc n) → Before (read j) (read (suc j))) i (suc n)
      (λ p. before-means (read i) (read (suc i)) s.0)
      (λ j l m p. ascending-adjacent (suc i) (suc n) s.1 j l (omega arith)) j l (omega arith) m

  adjacent-ascending : (i n : ℕ) → Adjacent i n → ascending (records read i n) ≡ true
  unfolding records ascending
  adjacent-ascending i zero h = refl
  adjacent-ascending i (suc zero) h = refl
  adjacent-ascending i (suc (suc n)) h =
      rw (before-holds (read i) (read (suc i)) (h i (omega arith) (omega arith)))
      (adjacent-ascending (suc i) (suc n) (λ j l m. h j (omega arith) (omega arith)))

  -- each of the first n records stands before every later one
  abbrev pub Ascends : ℕ → Type 0
  Ascends n = (i j : ℕ) → i < j → j < n → Before (read i) (read j)

  pub ascends-holds : (n : ℕ) → Ascends n → ascending (records read 0 n) ≡ true
  ascends-holds n h = adjacent-ascending 0 n (λ j l m. h j (suc j) (omega arith) (omega arith))

  pub ascends-means : (n : ℕ) → ascending (records read 0 n) ≡ true → Ascends n
  ascends-means n h i j l m =
      let e : suc (i + (j - suc i)) ≡ j = omega arith in
      subst (λ (k : ℕ). Before (read i) (read k)) e (far (j - suc i) (omega arith))
    where
      next : Adjacent 0 n
      next = ascending-adjacent 0 n h

      far : (d : ℕ) → suc (i + d) < n → Before (read i) (read (suc (i + d)))
      far zero b = let e : i ≡ i + 0 = omega arith in
          subst (λ (k : ℕ). Before (read i) (read (suc k))) e (next i (omega arith) (omega arith))
      far (suc d) b =
          let e : suc (i + d) ≡ i + suc d = omega arith in
          before-trans (read i) (read (suc (i + d))) (read (suc (i + suc d))) (far d (omega arith))
          (subst (λ (k : ℕ). Before (read (suc (i + d))) (read (suc k))) e (next (suc (i + d)) (omega arith) (omega arith)))

  -- no two records have the same inputs
  pub has-once : (n i j eax ecx : ℕ) → Ascends n → i < n → j < n → Has (read i) eax ecx → Has (read j) eax ecx → i ≡ j
  has-once n i j eax ecx a hi hj p q = go (le-or-lt i j) (le-or-lt j i)
    where
      not-before : (k l : Leaf) → Has k eax ecx → Has l eax ecx → Before k l → ⊥
      not-before k l c d (inl h) = omega arith
      not-before k l c d (inr h) = omega arith

      go : (i ≤ j) ⊎ (j < i) → (j ≤ i) ⊎ (i < j) → i ≡ j
      go (inl h) (inl k) = omega arith
      go (inl h) (inr k) = absurd (not-before (read i) (read j) p q (a i j k hj))
      go (inr h) k = absurd (not-before (read j) (read i) q p (a j i h hi))

-- ---- what a lookup finds

module _ (l : Leaf) (ls : List Leaf) (eax ecx k : ℕ) where
  pub lookup-hit : Has l eax ecx → lookup (l ∷ ls) eax ecx k ≡ Some (register k l)
  unfolding lookup
  lookup-hit h = simp (eq-eqb l.eax_input eax h.0, eq-eqb l.ecx_input ecx h.1)

  pub lookup-miss : (Has l eax ecx → ⊥) → lookup (l ∷ ls) eax ecx k ≡ lookup ls eax ecx k
  unfolding lookup
  lookup-miss h = go (eqb l.eax_input eax) refl (eqb l.ecx_input ecx) refl
    where
      go : (s : Bool) → eqb l.eax_input eax ≡ s → (t : Bool) → eqb l.ecx_input ecx ≡ t
          → cond s (cond t (Some (register k l)) (lookup ls eax ecx k)) (lookup ls eax ecx k) ≡ lookup ls eax ecx k
      go true e true f = absurd (h (eqb-true _ _ e, eqb-true _ _ f))
      go true e false f = refl
      go false e t f = refl

  has-or-not : Has l eax ecx ⊎ (Has l eax ecx → ⊥)
  has-or-not = go (ℕ_discrete l.eax_input eax) (ℕ_discrete l.ecx_input ecx)
    where
      go : Dec (l.eax_input ≡ eax) → Dec (l.ecx_input ≡ ecx) → Has l eax ecx ⊎ (Has l eax ecx → ⊥)
      go (yes p) (yes q) = inl (p, q)
      go (yes p) (no q) = inr (λ h. q h.1)
      go (no p) q = inr (λ h. p h.0)

module _ (read : ℕ → Leaf) (eax ecx k : ℕ) where
  -- one of n records from number i on has both inputs, and the lookup gives its register; or none has, and it gives nothing
  abbrev pub Finds : ℕ → ℕ → Option ℕ → Type 0
  Finds i n f =
      ((j : ℕ) × (i ≤ j) × (j < i + n) × Has (read j) eax ecx × (f ≡ Some (register k (read j))))
      ⊎ (((j : ℕ) → i ≤ j → j < i + n → Has (read j) eax ecx → ⊥) × (f ≡ None))

  pub lookup-finds : (i n : ℕ) → Finds i n (lookup (records read i n) eax ecx k)
  unfolding records lookup
  lookup-finds i zero = inr ((λ j l h c. omega arith), refl)
  lookup-finds i (suc n) = go (has-or-not (read i) (records read (suc i) n) eax ecx k) (lookup-finds (suc i) n)
    where
      rest : List Leaf
      rest = records read (suc i) n

      go : Has (read i) eax ecx ⊎ (Has (read i) eax ecx → ⊥) → Finds (suc i) n (lookup rest eax ecx k)
          → Finds i (suc n) (lookup (read i ∷ rest) eax ecx k)
      go (inl h) below = inl (i, omega arith, omega arith, h, lookup-hit (read i) rest eax ecx k h)
      go (inr h) (inl w) =
          inl (w.0, omega arith, omega arith, w.3, lookup-miss (read i) rest eax ecx k h ∙ w.4)
      go (inr h) (inr w) =
          inr (each_more (λ (j : ℕ). Has (read j) eax ecx → ⊥) i n h w.0, lookup-miss (read i) rest eax ecx k h ∙ w.1)

-- ---- a table that is taken

pub record TableTaken (table : List ℕ) : Type 0 where
  pub records : length table % 24 ≡ 0
  pub bounded : length table / 24 ≤ 64
  pub order : Ascends (leaf table) (length table / 24)

module _ (table : List ℕ) where
  all-means : AllHold (table_rules table) → TableTaken table
  all-means h =
      record {
        records = eqb-true _ _ (not-false _ h.0);
        bounded = ltb-false _ _ h.1.0;
        order = ascends-means (leaf table) (length table / 24) (not-false _ h.1.1.0);
      }

  pub table-means : first_broken (table_rules table) ≡ 0 → TableTaken table
  table-means z = all-means (zero-all-hold (table_rules table) tt z)

  pub table-refused : (TableTaken table → ⊥) → 3 ≡ first_broken (table_rules table)
  table-refused f = sym (first-broken-same 3 (table_rules table) (refl, (refl, (refl, tt))) (λ h. f (all-means h)))

  pub table-holds : TableTaken table → first_broken (table_rules table) ≡ 0
  table-holds t =
      all-hold-zero (table_rules table) (
        ap not (eq-eqb _ _ t.records),
        (le-ltb _ _ t.bounded, (ap not (ascends-holds (leaf table) (length table / 24) t.order), tt)),
      )

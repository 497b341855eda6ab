-- Two streams of blocks under one header: they agree as far as both are proved, or two blocks collide.
use mathlib.Core.Path.{◌≡◌, refl, sym, ap, ◌∙◌}
use mathlib.Core.Bool.{Bool, true, false, true≢false}
use mathlib.Core.List.{List}
use mathlib.Core.Logic.{◌⊎◌, inl, inr, ⊎_elim}
use Prim.Native.Nat.{ℕ, zero, suc, ◌≤◌, ◌<◌}
use native.Mathlib.Nat.{eq-or-lt_of_le, le_of_suc-le-suc}
use native.Mathlib.Omega.{arith}
use Rattle.octets.specs.Parts.{same}
use Rattle.octets.proofs.TestLaws.{same-eq, eq-same}
use Rattle.chain.specs.Blocks.{hash_field, expected, proved}
use Rattle.chain.specs.Hashsum.{hashsum}
use Rattle.chain.specs.Header.{Header}
use Rattle.chain.proofs.BlockLaws.{Agree, passes, proper}

-- at one of the first k numbers two different blocks with equal hashsums, each proved: among the first m of the one stream,
-- and the first m' of the other
pub record Collision (d : Header) (k : ℕ) (block block' : ℕ → List ℕ) (m m' : ℕ) : Type 0 where
  pub number : ℕ
  pub among : number < k
  pub first : number < proved d block m
  pub second : number < proved d block' m'
  pub differ : block number ≡ block' number → ⊥
  pub collide : hashsum d.stream.ids (block number) ≡ hashsum d.stream.ids (block' number)

module _ (d : Header) (block block' : ℕ → List ℕ) where
  -- blocks that agree name the same hashsum for the next
  expected-agrees : (k : ℕ) → Agree k block block' → expected d block k ≡ expected d block' k
  expected-agrees zero a = refl
  expected-agrees (suc k) a = ap (hash_field d.stream) (a k (omega arith))

  module _ (m m' : ℕ) where
    equal-hashsums : (k : ℕ) → k < proved d block m → k < proved d block' m' → Agree k block block'
        → hashsum d.stream.ids (block k) ≡ hashsum d.stream.ids (block' k)
    equal-hashsums k h h' a =
        (proper d.stream k (expected d block k) (block k) (passes d block m k h)).hashed
        ∙ expected-agrees k a
        ∙ sym (proper d.stream k (expected d block' k) (block' k) (passes d block' m' k h')).hashed

    pub collision-within : (k n : ℕ) → k ≤ n → Collision d k block block' m m' → Collision d n block block' m m'
    collision-within k n h c =
        let l : c.number < k = c.among in
        record {
          number = c.number;
          among = omega arith;
          first = c.first;
          second = c.second;
          differ = c.differ;
          collide = c.collide;
        }

    pub streams : (n : ℕ) → n ≤ proved d block m → n ≤ proved d block' m'
        → Agree n block block' ⊎ Collision d n block block' m m'
    streams zero h h' = inl (λ i l. absurd (omega arith))
    streams (suc n) h h' =
        ⊎_elim (λ a. next a (same (block n) (block' n)) refl) (λ c. inr (collision-within n (suc n) (omega arith) c))
        (streams n (omega arith) (omega arith))
      where
        next : Agree n block block' → (b : Bool) → same (block n) (block' n) ≡ b
            → Agree (suc n) block block' ⊎ Collision d (suc n) block block' m m'
        next a true e =
            inl
            (λ i l. ⊎_elim (λ q. ap block q ∙ same-eq (block n) (block' n) e ∙ ap block' (sym q)) (λ r. a i r)
            (eq-or-lt_of_le (le_of_suc-le-suc l)))
        next a false e =
            inr
            (record {
              number = n;
              among = omega arith;
              first = h;
              second = h';
              differ = λ q. true≢false (sym (eq-same (block n) (block' n) q) ∙ e);
              collide = equal-hashsums n h h' a;
            })

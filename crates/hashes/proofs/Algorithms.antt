-- Laws of the table of algorithms: which one an ID has, and what all of them share.
use Rattle.std.proofs.Common.{◌≡◌, ℕ, Bool, true, false, cond, eqb, List, [], ◌∷◌, sym, ap, ◌∙◌, ne_eqb}
use Rattle.hashes.specs.Tables.{SHA2-256, SHA2-384, SHA2-512}
use Rattle.hashes.specs.Compression.{sha2}
use Rattle.hashes.specs.Digests.{Algorithm, algorithm, algorithms, algorithm_of, digest, digest_length}
use Rattle.hashes.specs.Code.{in_sixty_four}

module _ {i : ℕ} where
  pub has-2 : i ≡ 2 → algorithm_of algorithms i ≡ algorithm 2 32 (sha2 SHA2-256)
  unfolding algorithm_of algorithms
  has-2 e = ap (algorithm_of algorithms) e

  pub has-3 : i ≡ 3 → algorithm_of algorithms i ≡ algorithm 3 48 (sha2 SHA2-384)
  unfolding algorithm_of algorithms
  has-3 e = ap (algorithm_of algorithms) e

  pub has-4 : i ≡ 4 → algorithm_of algorithms i ≡ algorithm 4 64 (sha2 SHA2-512)
  unfolding algorithm_of algorithms
  has-4 e = ap (algorithm_of algorithms) e

  pub has-none : (i ≡ 2 → ⊥) → (i ≡ 3 → ⊥) → (i ≡ 4 → ⊥) → algorithm_of algorithms i ≡ algorithm i 0 (λ m. [])
  unfolding algorithm_of algorithms
  has-none p q r = simp (ne_eqb i 2 p, ne_eqb i 3 q, ne_eqb i 4 r)

module _ (i : ℕ) {x : Algorithm} (e : algorithm_of algorithms i ≡ x) where
  pub length-by : digest_length i ≡ x.bytes
  unfolding digest_length
  length-by = ap (λ (y : Algorithm). y.bytes) e

  -- the answer of a call: 64 bytes, and how many of them are the digest
  pub answer-by : (m : List ℕ) {b : List ℕ} {n : ℕ} → b ≡ in_sixty_four (x.digest m) → n ≡ x.bytes
      → (b ≡ in_sixty_four (digest i m)) × (n ≡ digest_length i)
  unfolding digest
  answer-by m f g = (f ∙ ap (λ (y : Algorithm). in_sixty_four (y.digest m)) (sym e), g ∙ sym length-by)

-- what the algorithms of a list have, and an algorithm of empty digests too, every ID's algorithm has
module _ (Q : Algorithm → Type 0) (none : (i : ℕ) → Q (algorithm i 0 (λ m. []))) where
  abbrev pub All : List Algorithm → Type 0
  All [] = Unit {0}
  All (x ∷ xs) = Q x × All xs

  picked : (b : Bool) {x y : Algorithm} → Q x → Q y → Q (cond b x y)
  picked true q r = q
  picked false q r = r

  every : (xs : List Algorithm) → All xs → (i : ℕ) → Q (algorithm_of xs i)
  unfolding algorithm_of
  every [] a i = none i
  every (x ∷ xs) a i = picked (eqb i x.id) a.0 (every xs a.1 i)

  pub every-algorithm : Q (algorithm 2 32 (sha2 SHA2-256)) → Q (algorithm 3 48 (sha2 SHA2-384)) → Q (algorithm 4 64 (sha2 SHA2-512))
      → (i : ℕ) → Q (algorithm_of algorithms i)
  unfolding algorithms
  every-algorithm p q r = every algorithms (p, (q, (r, tt)))

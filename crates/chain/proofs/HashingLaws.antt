-- Laws of the loops over the hash IDs: one more ID judged, one more digest compared, one more written.
use mathlib.Core.Path.{◌≡◌, refl, sym, ap, ap₂, ◌∙◌}
use mathlib.Core.Bool.{Bool, true, false, false≢true, not, ◌&&◌, ◌||◌, and_assoc, cond}
use mathlib.Core.List.{List, [], ◌∷◌, ◌++◌, append_assoc, append-nil}
use Prim.Native.Nat.{ℕ, suc, ◌+◌, ◌-◌, ◌≤◌, ◌<◌}
use native.Mathlib.Nat.{add-zero}
use native.Mathlib.Numerals.{add-one}
use native.Mathlib.Omega.{arith}
use Rattle.std.specs.Cmp.Lexicographic.{pointwise}
use Rattle.std.specs.List.{list_any}
use Rattle.std.proofs.lemmas.Slice.Eq.{bytes_eq-Decides}
use borrow.Author.Tests.{ne_eqb}
use lib.Dec.{eqb}
use lib.ListN.{length, get_or, take, drop, replicate, drop_of_length-le, take-append-drop}
use lib.ListN.{length-append, length-replicate, length-take}
use lib.Seq.{take-suc, take_all, take_at, drop-cons}
use Rattle.octets.specs.Parts.{part, put, same}
use Rattle.octets.proofs.PartLaws.{length-put, part-behind-put, put-beside}
use Rattle.octets.proofs.TestLaws.{same-eq, eq-same, ne_same}
use Rattle.hashes.specs.Code.{in_sixty_four}
use Rattle.hashes.specs.Digests.{digest, digest_length}
use Rattle.hashes.proofs.Theorems.{length-digest, digest_length-most}
use Rattle.chain.specs.Hashsum.{hashsum, sum_length, any_unknown}
use Rattle.chain.proofs.HashsumLaws.{length-hashsum}

-- ---- the IDs one by one

hashsum-append : (xs ys : List ℕ) (m : List ℕ) → hashsum (xs ++ ys) m ≡ hashsum xs m ++ hashsum ys m
unfolding hashsum
hashsum-append [] ys m = refl
hashsum-append (x ∷ xs) ys m =
    ap (λ (t : List ℕ). digest x m ++ t) (hashsum-append xs ys m) ∙ sym (append_assoc (digest x m) (hashsum xs m) (hashsum ys m))

sum_length-append : (xs ys : List ℕ) → sum_length (xs ++ ys) ≡ sum_length xs + sum_length ys
unfolding sum_length
sum_length-append [] ys = omega arith
sum_length-append (x ∷ xs) ys = omega (arith, sum_length-append xs ys)

-- the first digests are no longer than all
first-shorter : (ids : List ℕ) (i : ℕ) → sum_length (take i ids) ≤ sum_length ids
first-shorter ids i =
    omega (arith, sum_length-append (take i ids) (drop i ids), ap sum_length (take-append-drop i ids))

module _ (ids : List ℕ) (i : ℕ) (h : i < length ids) where
  taken : take (i + 1) ids ≡ take i ids ++ (get_or ids i 0 ∷ [])
  taken = rw add-one (take-suc ids i 0 h)

  pub length_more : sum_length (take (i + 1) ids) ≡ sum_length (take i ids) + digest_length (get_or ids i 0)
  unfolding sum_length
  length_more = ap sum_length taken ∙ sum_length-append (take i ids) (get_or ids i 0 ∷ []) ∙ omega arith

  hashsum-more : (m : List ℕ) → hashsum (take (i + 1) ids) m ≡ hashsum (take i ids) m ++ digest (get_or ids i 0) m
  unfolding hashsum
  hashsum-more m =
      ap (λ (t : List ℕ). hashsum t m) taken ∙ hashsum-append (take i ids) (get_or ids i 0 ∷ []) m
      ∙ ap (λ (t : List ℕ). hashsum (take i ids) m ++ t) (append-nil (digest (get_or ids i 0) m))

-- the test of one ID, and of all
abbrev pub unknown : ℕ → Bool
unknown id = not (eqb id 0) && eqb (digest_length id) 0

pub any-unknown : (ids : List ℕ) → list_any unknown ids ≡ any_unknown ids
unfolding any_unknown
any-unknown [] = refl
any-unknown (id ∷ ids) = step (eqb id 0) (eqb (digest_length id) 0) (any-unknown ids)
  where
    step : (a b : Bool) {t u : Bool} → t ≡ u → (not a && b || t) ≡ cond a u (cond b true u)
    step true b e = e
    step false true e = refl
    step false false e = e

-- ---- a digest in the 64 bytes lent for it

-- what the call says of the bytes and the length that it gives
pub record Digested (id : ℕ) (m out : List ℕ) (n : ℕ) : Type 0 where
  pub bytes : out ≡ in_sixty_four (digest id m)
  pub counted : n ≡ digest_length id

pub digested : {id n : ℕ} {m out : List ℕ} → out ≡ in_sixty_four (digest id m) → n ≡ digest_length id → Digested id m out n
digested e f = record { bytes = e; counted = f }

module _ {id n : ℕ} {m out : List ℕ} (e : Digested id m out n) where
  digest-taken : take n out ≡ digest id m
  digest-taken =
      ap₂ (λ (k : ℕ) (t : List ℕ). take k t) e.counted e.bytes
      ∙ take_at (digest id m) (replicate (64 - length (digest id m)) 0) (digest_length id) (length-digest id m)

  pub digest-counted : length (take n out) ≡ n
  digest-counted = ap length digest-taken ∙ length-digest id m ∙ sym e.counted

  pub digest-within : n ≤ length out
  digest-within = omega (arith, digest-counted, length-take n out)

  pub digest-room : length out ≡ 64
  digest-room =
      ap length e.bytes ∙ length-append (digest id m) (replicate (64 - length (digest id m)) 0)
      ∙ omega (arith, length-digest id m, digest_length-most id, length-replicate {A = ℕ} (64 - length (digest id m)) 0)

-- ---- digests compared one by one

-- joined bytes are the same where their first part is and what comes behind it
same-append : (a b s : List ℕ) → same (a ++ b) s ≡ (same a (take (length a) s) && same b (drop (length a) s))
unfolding same
same-append [] b s = refl
same-append (x ∷ a) b [] = refl
same-append (x ∷ a) b (y ∷ s) =
    ap (λ (t : Bool). eqb x y && t) (same-append a b s)
    ∙ sym (and_assoc (eqb x y) (same a (take (length a) s)) (same b (drop (length a) s)))

-- how std compares
pub pointwise-same : (a b : List ℕ) (t : Bool) → pointwise eqb a b ≡ t → same b a ≡ t
pointwise-same a b true e = eq-same b a (sym ((bytes_eq-Decides a b).0 e))
pointwise-same a b false e = ne_same b a (λ z. false≢true (sym e ∙ (bytes_eq-Decides a b).1 (sym z)))

-- nothing is expected behind the last digest
pub compared-all : (ids m s : List ℕ) → same (hashsum (drop (length ids) ids) m) s ≡ eqb (length s) 0
unfolding hashsum same
compared-all ids m [] = ap (λ (t : List ℕ). same (hashsum t m) []) (drop_of_length-le ids {i = length ids} (omega arith))
compared-all ids m (x ∷ s) =
    ap (λ (t : List ℕ). same (hashsum t m) (x ∷ s)) (drop_of_length-le ids {i = length ids} (omega arith))
    ∙ sym (ne_eqb (length (x ∷ s)) 0 (λ z. omega arith))

module _ (ids m s : List ℕ) (i : ℕ) (h : i < length ids) {n : ℕ} {out : List ℕ} (e : Digested (get_or ids i 0) m out n) where
  abbrev d : List ℕ
  d = take n out

  left-more : same (hashsum (drop i ids) m) s ≡ (same d (take (length d) s) && same (hashsum (drop (i + 1) ids) m) (drop (length d) s))
  unfolding hashsum
  left-more =
      ap (λ (t : List ℕ). same (hashsum t m) s) (drop-cons ids i 0 h)
      ∙ ap (λ (t : List ℕ). same (t ++ hashsum (drop (suc i) ids) m) s) (sym (digest-taken e))
      ∙ same-append d (hashsum (drop (suc i) ids) m) s
      ∙ ap (λ (k : ℕ). same d (take (length d) s) && same (hashsum (drop k ids) m) (drop (length d) s)) (sym (add-one i))

  -- the next digest does not stand there
  pub compared-other : pointwise eqb (take (length d) s) d ≡ false → same (hashsum (drop i ids) m) s ≡ false
  compared-other f =
      left-more
      ∙ ap (λ (b : Bool). b && same (hashsum (drop (i + 1) ids) m) (drop (length d) s)) (pointwise-same (take (length d) s) d false f)

  -- it does
  pub compared-more : pointwise eqb (take (length d) s) d ≡ true
      → same (hashsum (drop i ids) m) s ≡ same (hashsum (drop (i + 1) ids) m) (drop (length d) s)
  compared-more f =
      left-more
      ∙ ap (λ (b : Bool). b && same (hashsum (drop (i + 1) ids) m) (drop (length d) s)) (pointwise-same (take (length d) s) d true f)

  pub compared-fits : pointwise eqb (take (length d) s) d ≡ true → n ≤ length s
  compared-fits f =
      omega (
        arith,
        ap length (same-eq d (take (length d) s) (pointwise-same (take (length d) s) d true f)),
        length-take (length d) s,
        digest-counted e,
      )

-- ---- digests written one by one, to an offset before the message that is hashed

pub put-none : (s : List ℕ) (at : ℕ) → put s at [] ≡ s
put-none s at =
    ap₂ (λ (t : List ℕ) (k : ℕ). t ++ drop k s) (append-nil (take at s)) (add-zero at) ∙ take-append-drop at s

-- with i digests of the n bytes from `start` on written from offset `at` on, the next one goes to `place`
pub record Hashed (ids before : List ℕ) (start n at i : ℕ) (output : List ℕ) (place : ℕ) : Type 0 where
  pub placed : place ≡ at + sum_length (take i ids)
  pub written : output ≡ put before at (hashsum (take i ids) (part before start n))

pub hashed-none : (ids before : List ℕ) (start n at : ℕ) → Hashed ids before start n at 0 before at
unfolding hashsum sum_length
hashed-none ids before start n at = record { placed = omega arith; written = sym (put-none before at) }

module _ {ids before output : List ℕ} {start n at i place : ℕ} (w : Hashed ids before start n at i output place) where
  abbrev message : List ℕ
  message = part before start n

  pub hashed-all : length ids ≤ i → output ≡ put before at (hashsum ids message)
  hashed-all h = w.written ∙ ap (λ (t : List ℕ). put before at (hashsum t message)) (take_all i ids h)

  module _ (apart : at + sum_length ids ≤ start) (inside : start ≤ length before) where
    first_fits : at + length (hashsum (take i ids) message) ≤ start
    first_fits = omega (arith, length-hashsum (take i ids) message, first-shorter ids i)

    pub hashed_length : length output ≡ length before
    hashed_length = ap length w.written ∙ length-put before at (hashsum (take i ids) message) (omega (arith, first_fits))

    -- the message stays as it is
    pub message-kept : part output start n ≡ message
    message-kept =
        ap (λ (t : List ℕ). part t start n) w.written
        ∙ part-behind-put before at (hashsum (take i ids) message) (omega (arith, first_fits)) start n first_fits

    module _ (h : i < length ids) {out : List ℕ} {k : ℕ} (e : Digested (get_or ids i 0) (part output start n) out k) where
      -- the next digest fits
      pub hashed-fits : place + k ≤ length output
      hashed-fits = omega (arith, w.placed, e.counted, length_more ids i h, first-shorter ids (i + 1), hashed_length)

      pub hashed-more : {after : List ℕ} → after ≡ put output place (take k out) → Hashed ids before start n at (i + 1) after (place + k)
      hashed-more f =
          let v : List ℕ = hashsum (take i ids) message in
          let d : List ℕ = digest (get_or ids i 0) message in
          record {
            placed = omega (arith, w.placed, e.counted, length_more ids i h);
            written = f
                ∙ ap₂ (λ (t x : List ℕ). put t place x) w.written (digest-taken e ∙ ap (digest (get_or ids i 0)) message-kept)
                ∙ ap (λ (x : ℕ). put (put before at v) x d) w.placed
                ∙ put-beside before at (sum_length (take i ids)) v d (length-hashsum (take i ids) message)
                (omega (arith, length-digest (get_or ids i 0) message, length_more ids i h, first-shorter ids (i + 1)))
                ∙ ap (λ (t : List ℕ). put before at t) (sym (hashsum-more ids i h message));
          }

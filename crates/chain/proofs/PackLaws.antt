-- Laws of the packed image: the numbers of its blocks, the lengths of its parts, and where its blocks stand.
use mathlib.Core.Path.{◌≡◌, refl, sym, ap, ap₂, ◌∙◌}
use mathlib.Core.Bool.{false, not}
use mathlib.Core.List.{List, [], ◌++◌}
use mathlib.Core.Logic.{⊎_elim}
use Prim.Native.Nat.{ℕ, zero, suc, ◌+◌, ◌-◌, ◌*◌, ◌/◌, ◌%◌, ◌^◌, ◌≤◌, ◌<◌}
use native.Mathlib.Nat.{div-add-mod', mod-lt, zero-mul, suc-mul, zero-add, mul-le-mul_right, div-eq_of_lt-le, eq-zero-or-pos}
use native.Mathlib.Omega.{arith}
use borrow.Author.Tests.{eqb-true, eqb-false, eq-eqb, ne_eqb, ltb-false, le-ltb, leb-false, lt-leb, not-false}
use lib.ListN.{length, get_or, take, drop, replicate, length-append, length-replicate}
use lib.Seq.{take_at, drop-append-add}
use Rattle.octets.specs.Parts.{part}
use Rattle.octets.proofs.PartLaws.{length_part}
use Rattle.answers.specs.Rules.{first_broken}
use Rattle.answers.proofs.RuleLaws.{zero-all-hold, all-hold-zero}
use Rattle.chain.specs.Hashsum.{hashsum, sum_length, any_unknown}
use Rattle.chain.specs.Header.{image_length}
use Rattle.chain.specs.Pack.{Order, room, blocks, padding, pack_rules, chunk, link, blocks_from, packed_header, image}
use Rattle.chain.proofs.HashsumLaws.{length-hashsum}
use Rattle.chain.proofs.HeaderLaws.{Allowed, length-header}

-- ---- what pack accepts

-- 6, 11, 28 and 1
pub record Packable (p : Order) : Type 0 where
  pub first : get_or p.ids 0 0 ≡ 0 → ⊥
  pub known : any_unknown p.ids ≡ false
  pub above : sum_length p.ids < p.block_size
  pub below : p.block_size ≤ 1048576
  pub filled : 0 < length p.file
  pub allowed : Allowed p.signature (image_length (packed_header p))

pub packable : (p : Order) (output : ℕ) → first_broken (pack_rules p output) ≡ 0 → Packable p × (output ≡ image_length (packed_header p))
packable p output e =
    let h = zero-all-hold (pack_rules p output) tt e in (
      record {
        first = eqb-false (get_or p.ids 0 0) 0 h.0;
        known = h.1.0;
        above = leb-false p.block_size (sum_length p.ids) h.1.1.0;
        below = ltb-false 1048576 p.block_size h.1.1.1.0;
        filled = let ne : (length p.file ≡ 0 → ⊥) = eqb-false (length p.file) 0 h.1.1.1.1.0 in omega arith;
        allowed = record {
          signed = let ne : (p.signature ≡ 0 → ⊥) = eqb-false p.signature 0 h.1.1.1.1.1.0 in omega arith;
          short = ltb-false 4096 p.signature h.1.1.1.1.1.1.0;
          small = ltb-false (2 ^ 30) (image_length (packed_header p)) h.1.1.1.1.1.1.1.0;
        };
      },
      eqb-true output (image_length (packed_header p)) (not-false _ h.1.1.1.1.1.1.1.1.0),
    )

pub packable-passes : (p : Order) (output : ℕ) → Packable p → output ≡ image_length (packed_header p) → first_broken (pack_rules p output) ≡ 0
packable-passes p output k e =
    all-hold-zero (pack_rules p output) (
      ne_eqb (get_or p.ids 0 0) 0 k.first,
      (
        k.known,
        (
          lt-leb p.block_size (sum_length p.ids) k.above,
          (
            le-ltb 1048576 p.block_size k.below,
            (
              ne_eqb (length p.file) 0 (λ z. let l : 0 < length p.file = k.filled in omega arith),
              (
                ne_eqb p.signature 0 (λ z. let l : 0 < p.signature = k.allowed.signed in omega arith),
                (
                  le-ltb 4096 p.signature k.allowed.short,
                  (
                    le-ltb (2 ^ 30) (image_length (packed_header p)) k.allowed.small,
                    (ap not (eq-eqb output (image_length (packed_header p)) e), tt),
                  ),
                ),
              ),
            ),
          ),
        ),
      ),
    )

-- ---- as few blocks as hold the file

-- n blocks of some room are as few as hold a file
pub record Fewest (file room n : ℕ) : Type 0 where
  pub holds : file ≤ n * room
  pub fewest : n * room < file + room
  pub one : 0 < n

module _ (file room : ℕ) (pos : 0 < room) where
  pub fewest : 0 < file → Fewest file room ((file + room - 1) / room)
  fewest some =
      let x : ℕ = file + room - 1 in
      let n : ℕ = x / room in
      let e : n * room + x % room ≡ x = div-add-mod' x room in
      let l : x % room < room = mod-lt x pos in
      let h : file ≤ n * room = omega arith in
      record {
        holds = h;
        fewest = omega arith;
        one = ⊎_elim (λ z. let w : n * room ≡ 0 = ap (λ (k : ℕ). k * room) z ∙ zero-mul room in omega arith) (λ q. q)
            (eq-zero-or-pos n);
      }

  -- no other number is
  pub only-number : (n : ℕ) → file ≤ n * room → n * room < file + room → (file + room - 1) / room ≡ n
  only-number n h l = div-eq_of_lt-le room (omega arith) (omega arith)

  pub only-fewest : (n : ℕ) → Fewest file room n → (file + room - 1) / room ≡ n
  only-fewest n f = only-number n f.holds f.fewest

-- ---- lengths

pub length-link : (p : Order) (j k : ℕ) → length (link p j k) ≡ sum_length p.ids
unfolding link
length-link p zero k = length-replicate (sum_length p.ids) 0
length-link p (suc j) k = length-hashsum p.ids (link p j (suc k) ++ chunk p k)

-- the hash field before the last of more blocks is the hashsum of the block behind it
pub link-more : (p : Order) (j k : ℕ) → link p (suc j) k ≡ hashsum p.ids (link p j (suc k) ++ chunk p k)
unfolding link
link-more p j k = refl

pub link-last : (p : Order) (k : ℕ) → link p zero k ≡ replicate (sum_length p.ids) 0
unfolding link
link-last p k = refl

pub blocks_more : (p : Order) (j k : ℕ) → blocks_from p (suc j) k ≡ link p j (suc k) ++ chunk p k ++ blocks_from p j (suc k)
unfolding blocks_from
blocks_more p j k = refl

pub blocks-none : (p : Order) (k : ℕ) → blocks_from p zero k ≡ []
unfolding blocks_from
blocks-none p k = refl

-- the padding's zeros, then the file
abbrev pub padded_file : Order → List ℕ
padded_file p = replicate (padding p) 0 ++ p.file

module _ (p : Order) (ok : Packable p) where
  pub room-pos : 0 < room p
  room-pos = let h : sum_length p.ids < p.block_size = ok.above in omega arith

  pub blocks-fewest : Fewest (length p.file) (room p) (blocks p)
  blocks-fewest = fewest (length p.file) (room p) room-pos ok.filled

  pub padding-small : padding p < room p
  padding-small =
      let h : blocks p * room p < length p.file + room p = blocks-fewest.fewest in
      let r : 0 < room p = room-pos in
      omega arith

  pub padding-fills : padding p + length p.file ≡ blocks p * room p
  padding-fills = let h : length p.file ≤ blocks p * room p = blocks-fewest.holds in omega arith

  pub length-padded : length (padded_file p) ≡ blocks p * room p
  length-padded = simp (length-append, length-replicate) padding-fills

  -- block k ends within the blocks
  pub within : (k : ℕ) → k < blocks p → k * room p + room p ≤ blocks p * room p
  within k h = omega (arith, mul-le-mul_right (room p) h, suc-mul k (room p))

  pub length-chunk : (k : ℕ) → k < blocks p → length (chunk p k) ≡ room p
  length-chunk k h = length_part (padded_file p) (k * room p) (room p) (rw length-padded (within k h))

  pub length-block : (j k : ℕ) → k < blocks p → length (link p j (suc k) ++ chunk p k) ≡ p.block_size
  length-block j k h =
      length-append (link p j (suc k)) (chunk p k)
      ∙ ap₂ (λ (x y : ℕ). x + y) (length-link p j (suc k)) (length-chunk k h)
      ∙ (let a : sum_length p.ids < p.block_size = ok.above in omega arith)

  pub length-blocks : (j k : ℕ) → k + j ≤ blocks p → length (blocks_from p j k) ≡ j * p.block_size
  length-blocks zero k h = ap length (blocks-none p k) ∙ sym (zero-mul p.block_size)
  length-blocks (suc j) k h =
      ap length (blocks_more p j k) ∙ length-append (link p j (suc k) ++ chunk p k) (blocks_from p j (suc k))
      ∙ ap₂ (λ (x y : ℕ). x + y) (length-block j k (omega arith)) (length-blocks j (suc k) (omega arith))
      ∙ omega arith

  pub length-image : length p.ids ≡ 4 → length (image p) ≡ image_length (packed_header p)
  unfolding image
  length-image four =
      let e : length (blocks_from p (blocks p) 0) ≡ blocks p * p.block_size = length-blocks (blocks p) 0 (omega arith) in
      let f : length (link p (blocks p) 0) ≡ sum_length p.ids = length-link p (blocks p) 0 in
      simp (length-append, length-replicate, length-header (packed_header p) four) (omega arith)

  -- ---- where the blocks stand

  -- behind the first i of n blocks from k on the others stand
  pub blocks-behind : (i j n k : ℕ) → i + j ≡ n → k + n ≤ blocks p
      → drop (i * p.block_size) (blocks_from p n k) ≡ blocks_from p j (k + i)
  blocks-behind zero j n k e h =
      let f : n ≡ j = omega arith in
      let g : k ≡ k + 0 = omega arith in
      ap (λ (x : ℕ). drop x (blocks_from p n k)) (zero-mul p.block_size) ∙ ap₂ (blocks_from p) f g
  blocks-behind (suc i) j zero k e h = absurd (omega arith)
  blocks-behind (suc i) j (suc n) k e h =
      let b : List ℕ = link p n (suc k) ++ chunk p k in
      let l : length b ≡ p.block_size = length-block n k (omega arith) in
      let f : suc i * p.block_size ≡ length b + i * p.block_size = omega arith in
      let g : suc k + i ≡ k + suc i = omega arith in
      ap₂ (λ (x : ℕ) (s : List ℕ). drop x s) f (blocks_more p n k)
      ∙ drop-append-add b (blocks_from p n (suc k)) (i * p.block_size)
      ∙ blocks-behind i j n (suc k) (omega arith) (omega arith)
      ∙ ap (blocks_from p j) g

  -- block i, with j blocks behind it
  pub block-stands : (i j : ℕ) → i + suc j ≡ blocks p
      → part (blocks_from p (blocks p) 0) (i * p.block_size) p.block_size ≡ link p j (suc i) ++ chunk p i
  block-stands i j e =
      ap (λ (s : List ℕ). take p.block_size s)
      (blocks-behind i (suc j) (blocks p) 0 e (omega arith) ∙ ap (blocks_from p (suc j)) (zero-add i) ∙ blocks_more p j i)
      ∙ take_at (link p j (suc i) ++ chunk p i) (blocks_from p j (suc i)) p.block_size (length-block j i (omega arith))

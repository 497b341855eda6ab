-- Laws of pack's code: that its numbers fit, that its stores leave the image, and that its answer is the first broken rule.
use mathlib.Core.Path.{◌≡◌, refl, sym, ap, ap₂, subst, ◌∙◌}
use mathlib.Core.Bool.{Bool, true, false, cond}
use mathlib.Core.List.{List, [], ◌∷◌, ◌++◌, append-nil, append_assoc}
use Prim.Native.Nat.{ℕ, zero, suc, ◌+◌, ◌-◌, ◌*◌, ◌/◌, ◌^◌, ◌≤◌, ◌<◌}
use native.Mathlib.Nat.{zero-mul, suc-mul, sub-zero, mul-le-mul_left, mul-le-mul_right}
use native.Mathlib.Numerals.{add-one}
use native.Mathlib.Omega.{arith}
use borrow.Author.Tests.{eq-eqb, ne_eqb, eqb-true, eqb-false, lt-ltb, ltb-true, ltb-false, leb-false}
use lib.Dec.{eqb, ltb, eqb-suc-zero}
use lib.ListN.{length, get_or, take, drop, replicate, length-append, length-replicate, drop_of_length-le}
use lib.Seq.{take_at, take-suc, length-take-le}
use Rattle.octets.specs.Numbers.{little_bytes}
use Rattle.octets.specs.Parts.{part, put}
use Rattle.octets.proofs.PartLaws.{length_part, length-put, drop-behind-put}
use Rattle.std.specs.Prelude.{Result}
use Rattle.std.specs.Result.{IsErrAnd}
use Rattle.std.proofs.lemmas.Result.{err_from_is_err_and}
use Rattle.answers.specs.Codes.{number, code_of}
use Rattle.answers.specs.declared.codes.Refusal.{Refusal}
use Rattle.answers.proofs.RefusalLaws.{number-positive}
use Rattle.answers.specs.Rules.{Rule, rule, first_broken, signature_rules, size_rules}
use Rattle.answers.proofs.RuleLaws.{zero-all-hold, both_hold, refuses, goes_on}
use Rattle.chain.specs.Blocks.{padding_of}
use Rattle.chain.specs.Code.{stream_of, header_with, order_of}
use Rattle.chain.specs.ContractWords.{order_rules, length_rules, Orderly, Planned, start_of, room_of, Written, link_before, Linkable}
use Rattle.chain.specs.Hashsum.{hashsum, sum_length, id_rules}
use Rattle.chain.specs.Header.{Header, id_bytes, header_bytes, first_block, image_length, block_size_rules}
use Rattle.chain.specs.Pack.{Order, room, blocks, padding, pack_rules, chunk, link, blocks_from, packed_header, image, packed}
use Rattle.chain.specs.declared.header.Header.{Header as Fields}
use Rattle.chain.proofs.HashingLaws.{put-none}
use Rattle.chain.proofs.HashsumLaws.{known-narrow}
use Rattle.chain.proofs.HeaderLaws.{length_ids, length-header}
use Rattle.chain.proofs.PackLaws.{Packable, packable, fewest, padding-small, padding-fills, within}
use Rattle.chain.proofs.PackLaws.{length-block, length-link, length-chunk, link-more, link-last, blocks_more, blocks-none}
use Rattle.chain.proofs.WritingLaws.{put_next, chunk-is, chunk-within, block_written, image-written}

-- ---- the number of blocks fits

pub record Counted (file room count : ℕ) : Type 0 where
  pub holds : file ≤ count * room
  pub padded : count * room - file < room
  pub each : count ≤ count * room
  pub small : count * room < 2 ^ 31

pub counted : (file room : ℕ) → 0 < room → room ≤ 1048576 → 0 < file → file ≤ 2 ^ 30 → Counted file room ((file + room - 1) / room)
counted file room pos below some small =
    let n : ℕ = (file + room - 1) / room in
    let f = fewest file room pos some in
    record {
      holds = f.holds;
      padded = omega arith;
      each = omega (arith, mul-le-mul_left n pos);
      small = omega arith;
    }

-- a file is not longer than its image
file-below : (p : Order) → sum_length p.ids < p.block_size → 0 < length p.file → length p.file ≤ image_length (packed_header p)
file-below p above some =
    let f = fewest (length p.file) (room p) (omega arith) some in
    let r : room p ≤ p.block_size = omega arith in
    omega (arith, f.holds, mul-le-mul_left (blocks p) r)

-- ---- the header's fields one behind the other

id_bytes-append : (xs ys : List ℕ) → id_bytes (xs ++ ys) ≡ id_bytes xs ++ id_bytes ys
unfolding id_bytes
id_bytes-append [] ys = refl
id_bytes-append (x ∷ xs) ys =
    ap (λ (t : List ℕ). little_bytes 2 x ++ t) (id_bytes-append xs ys) ∙ sym (append_assoc (little_bytes 2 x) (id_bytes xs) (id_bytes ys))

id_bytes-more : (ids : List ℕ) (i : ℕ) → i < length ids → id_bytes (take (i + 1) ids) ≡ id_bytes (take i ids) ++ little_bytes 2 (get_or ids i 0)
unfolding id_bytes
id_bytes-more ids i h =
    ap id_bytes (rw add-one (take-suc ids i 0 h)) ∙ id_bytes-append (take i ids) (get_or ids i 0 ∷ [])
    ∙ ap (λ (t : List ℕ). id_bytes (take i ids) ++ t) (append-nil (little_bytes 2 (get_or ids i 0)))

-- the sizes, and the fields, in their order
abbrev size_bytes : Fields → List ℕ
size_bytes h =
    little_bytes 4 h.magic ++ little_bytes 4 h.stream.count ++ little_bytes 4 h.stream.block_size ++ little_bytes 4 h.signature
    ++ little_bytes 2 h.header_size ++ little_bytes 2 h.stream.hashsum_length

abbrev field_bytes : Fields → List ℕ
field_bytes h = size_bytes h ++ id_bytes h.stream.ids ++ little_bytes 2 h.scheme ++ little_bytes 2 0 ++ little_bytes 4 h.stream.padding

module _ (s : List ℕ) (enough : 36 ≤ length s) where
  -- one ID behind the others
  pub ids-none : (ids : List ℕ) → s ≡ put s 20 (id_bytes (take 0 ids))
  unfolding id_bytes
  ids-none ids = sym (put-none s 20)

  pub ids-more : (ids : List ℕ) (i : ℕ) {t u : List ℕ} → i < length ids → length ids ≡ 4 → t ≡ put s 20 (id_bytes (take i ids))
      → u ≡ put t (20 + 2 * i) (little_bytes 2 (get_or ids i 0)) → u ≡ put s 20 (id_bytes (take (i + 1) ids))
  unfolding little_bytes
  ids-more ids i h four e f =
      put_next s (id_bytes (take i ids)) (little_bytes 2 (get_or ids i 0)) 20 (2 * i) e f
      (length_ids (take i ids) ∙ ap (λ (n : ℕ). 2 * n) (length-take-le i ids (omega arith))) (omega arith)
      ∙ ap (λ (v : List ℕ). put s 20 v) (sym (id_bytes-more ids i h))

  pub sizes-written : (h : Fields) (t₁ t₂ t₃ t₄ t₅ t₆ : List ℕ)
      → t₁ ≡ put s 0 (little_bytes 4 h.magic) → t₂ ≡ put t₁ 4 (little_bytes 4 h.stream.count)
      → t₃ ≡ put t₂ 8 (little_bytes 4 h.stream.block_size) → t₄ ≡ put t₃ 12 (little_bytes 4 h.signature)
      → t₅ ≡ put t₄ 16 (little_bytes 2 h.header_size) → t₆ ≡ put t₅ 18 (little_bytes 2 h.stream.hashsum_length)
      → t₆ ≡ put s 0 (size_bytes h)
  unfolding little_bytes
  sizes-written h t₁ t₂ t₃ t₄ t₅ t₆ e₁ e₂ e₃ e₄ e₅ e₆ =
      let a = little_bytes 4 h.magic in
      let b = little_bytes 4 h.stream.count in
      let c = little_bytes 4 h.stream.block_size in
      let d = little_bytes 4 h.signature in
      let e = little_bytes 2 h.header_size in
      let f = little_bytes 2 h.stream.hashsum_length in
      put_next s (a ++ b ++ c ++ d ++ e) f 0 18
      (put_next s (a ++ b ++ c ++ d) e 0 16
      (put_next s (a ++ b ++ c) d 0 12
      (put_next s (a ++ b) c 0 8 (put_next s a b 0 4 e₁ e₂ refl (omega arith)) e₃ refl (omega arith)) e₄ refl (omega arith))
      e₅ refl (omega arith))
      e₆ refl (omega arith)

  -- all but the root hash
  pub fields-written : (h : Fields) (t₁ t₂ t₃ t₄ t₅ : List ℕ) → length h.stream.ids ≡ 4
      → t₁ ≡ put s 0 (size_bytes h)
      → t₂ ≡ put t₁ 20 (id_bytes h.stream.ids) → t₃ ≡ put t₂ 28 (little_bytes 2 h.scheme)
      → t₄ ≡ put t₃ 30 (little_bytes 2 0) → t₅ ≡ put t₄ 32 (little_bytes 4 h.stream.padding)
      → t₅ ≡ put s 0 (header_bytes (header_with h []))
  unfolding little_bytes header_bytes
  fields-written h t₁ t₂ t₃ t₄ t₅ four e₁ e₂ e₃ e₄ e₅ =
      let a : List ℕ = size_bytes h in
      let b : List ℕ = id_bytes h.stream.ids in
      let c : List ℕ = little_bytes 2 h.scheme in
      let d : List ℕ = little_bytes 2 0 in
      let e : List ℕ = little_bytes 4 h.stream.padding in
      let lb : length b ≡ 8 = length_ids h.stream.ids ∙ ap (λ (n : ℕ). 2 * n) four in
      let l₂ : length (a ++ b) ≡ 28 = length-append a b ∙ ap (λ (n : ℕ). 20 + n) lb in
      let l₃ : length (a ++ b ++ c) ≡ 30 = length-append (a ++ b) c ∙ ap (λ (n : ℕ). n + 2) l₂ in
      let l₄ : length (a ++ b ++ c ++ d) ≡ 32 = length-append (a ++ b ++ c) d ∙ ap (λ (n : ℕ). n + 2) l₃ in
      put_next s (a ++ b ++ c ++ d) e 0 32
      (put_next s (a ++ b ++ c) d 0 30
      (put_next s (a ++ b) c 0 28 (put_next s a b 0 20 e₁ e₂ refl (omega arith)) e₃ l₂ (omega arith)) e₄ l₃ (omega arith))
      e₅ l₄ (omega arith)
      ∙ ap (λ (v : List ℕ). put s 0 v) (sym (append-nil (field_bytes h)))

-- the root hash stands behind the fields
fields-root : (h : Fields) (root : List ℕ) → header_bytes (header_with h root) ≡ header_bytes (header_with h []) ++ root
unfolding header_bytes
fields-root h root = ap (λ (t : List ℕ). t ++ root) (sym (append-nil (field_bytes h)))

-- ---- a plan: the fields that an order is packed under

module _ (p : Order) (h : Fields) (e : header_with h (packed_header (order_of p.file h)).root ≡ packed_header p) where
  pub order_is : order_of p.file h ≡ p
  order_is = λ i. record { file = p.file; ids = (e i).stream.ids; block_size = (e i).stream.block_size; signature = (e i).signature }

  length-is : image_length (header_with h []) ≡ image_length (packed_header p)
  length-is = ap (λ (d : Header). d.header_size + d.signature + d.stream.count * d.stream.block_size) e

  pub plans : (n : ℕ) → length p.ids ≡ 4 → first_broken (pack_rules p n) ≡ 0 → Planned p.file h n
  plans n four z =
      record {
        four = ap (λ (d : Header). length d.stream.ids) e ∙ four;
        fields = e ∙ sym (ap packed_header order_is);
        passes = ap (λ (o : Order). first_broken (pack_rules o n)) order_is ∙ z;
      }

-- ---- its rules in two parts: what is packed, then the image's length

module _ (p : Order) where
  -- all but those on lengths over the limit and 29
  abbrev given : List Rule
  given =
      id_rules p.ids
      ++ block_size_rules p.block_size (sum_length p.ids)
      ++ rule 28 (eqb (length p.file) 0)
      ∷ signature_rules p.signature

  abbrev long : List Rule
  long = size_rules (length p.file)

  pub orderly : first_broken (order_rules p) ≡ 0 → Orderly p
  orderly e =
      let h = zero-all-hold (order_rules p) tt e in
      let sizes = h.1.1 in
      let rest = sizes.1.1 in
      record {
        above = leb-false p.block_size (sum_length p.ids) sizes.0;
        below = ltb-false 1048576 p.block_size sizes.1.0;
        filled = let ne : (length p.file ≡ 0 → ⊥) = eqb-false (length p.file) 0 rest.0 in omega arith;
        small = ltb-false (2 ^ 30) (length p.file) rest.1.1.1.0;
        short = ltb-false 4096 p.signature rest.1.1.0;
      }

  pub order-passes : first_broken (order_rules p) ≡ 0 → (n : ℕ) → first_broken (pack_rules p n) ≡ first_broken (length_rules (packed_header p) n)
  order-passes e n = goes_on given (length_rules (packed_header p) n) 0 tt (sym (both_hold given long tt e).0) refl

  -- the image of a file over the limit is over it too
  over : first_broken given ≡ 0 → 2 ^ 30 < length p.file → 2 ^ 30 < image_length (packed_header p)
  over e l =
      let h = zero-all-hold given tt e in
      omega (arith, file-below p (leb-false p.block_size (sum_length p.ids) h.1.1.0) (omega arith))

  pub order-refuses : (code : ℕ) → code ≡ first_broken (order_rules p) → (code ≡ 0 → ⊥) → (n : ℕ) → code ≡ first_broken (pack_rules p n)
  order-refuses code e z n = go (eqb (first_broken given) 0) refl
    where
      rest : List Rule
      rest = length_rules (packed_header p) n

      by_length : (b : Bool) → ltb (2 ^ 30) (length p.file) ≡ b → first_broken given ≡ 0 → code ≡ cond b 1 0 → code ≡ first_broken rest
      by_length false q f g = absurd (z g)
      by_length true q f g =
          g ∙ simp (lt-ltb (2 ^ 30) (image_length (packed_header p)) (over f (ltb-true (2 ^ 30) (length p.file) q)))

      go : (b : Bool) → eqb (first_broken given) 0 ≡ b → code ≡ first_broken (pack_rules p n)
      go true q =
          let f : first_broken given ≡ 0 = eqb-true (first_broken given) 0 q in
          by_length (ltb (2 ^ 30) (length p.file)) refl f (e ∙ goes_on given long 0 tt (sym f) refl)
          ∙ sym (goes_on given rest 0 tt (sym f) refl)
      go false q =
          let f : (first_broken given ≡ 0 → ⊥) = eqb-false (first_broken given) 0 q in
          e ∙ sym (refuses given long (first_broken given) tt refl f) ∙ refuses given rest (first_broken given) tt refl f

-- the numbers of a planned header, for an output of n bytes
pub record Plan (file : List ℕ) (h : Fields) (n : ℕ) : Type 0 where
  pub four : length h.stream.ids ≡ 4
  pub fields : header_with h (packed_header (order_of file h)).root ≡ packed_header (order_of file h)
  pub packs : Packable (order_of file h)
  pub count : h.stream.count ≡ blocks (order_of file h)
  pub sum : h.stream.hashsum_length ≡ sum_length h.stream.ids
  pub head : h.header_size ≡ 36 + h.stream.hashsum_length
  pub padded : h.stream.padding ≡ padding (order_of file h)
  pub exact : n ≡ image_length (packed_header (order_of file h))
  pub image : n ≡ image_length (header_with h [])
  pub above : h.stream.hashsum_length < h.stream.block_size
  pub below : h.stream.block_size ≤ 1048576
  pub small : n ≤ 2 ^ 30

pub planned : (file : List ℕ) (h : Fields) (n : ℕ) → Planned file h n → Plan file h n
planned file h n pl =
    let p : Order = order_of file h in
    let ok = packable p n pl.passes in
    let sum : h.stream.hashsum_length ≡ sum_length h.stream.ids = ap (λ (d : Header). d.stream.hashsum_length) pl.fields in
    let head : h.header_size ≡ 36 + sum_length h.stream.ids = ap (λ (d : Header). d.header_size) pl.fields in
    let a : sum_length h.stream.ids < h.stream.block_size = ok.0.above in
    let s : image_length (packed_header p) ≤ 2 ^ 30 = ok.0.allowed.small in
    let e : n ≡ image_length (packed_header p) = ok.1 in
    record {
      four = pl.four;
      fields = pl.fields;
      packs = ok.0;
      count = ap (λ (d : Header). d.stream.count) pl.fields;
      sum = sum;
      head = omega arith;
      padded = ap (λ (d : Header). d.stream.padding) pl.fields;
      exact = e;
      image = e ∙ sym (length-is p h pl.fields);
      above = omega arith;
      below = ok.0.below;
      small = omega arith;
    }

-- where the data of block k is taken from, with q bytes of padding and room for r
pub record Data (file : List ℕ) (h : Fields) (k q r : ℕ) : Type 0 where
  pub front : q ≤ h.stream.padding
  pub padded : h.stream.padding < r
  pub begins : h.stream.padding ≤ k * r + q
  pub ends : k * r + q - h.stream.padding + (r - q) ≤ length file
  pub small : k * r + r ≤ 2 ^ 31
  pub is : chunk (order_of file h) k ≡ replicate q 0 ++ part file (k * r + q - h.stream.padding) (r - q)

module _ (h : Fields) (k : ℕ) (s : List ℕ) where
  pub link-behind-last : k ≡ h.stream.count → link_before h k s ≡ replicate h.stream.hashsum_length 0
  link-behind-last e = simp (eq-eqb k h.stream.count e)

  pub link-of-block : (k ≡ h.stream.count → ⊥)
      → link_before h k s ≡ hashsum h.stream.ids (part s (start_of h k) h.stream.block_size)
  link-of-block e = simp (ne_eqb k h.stream.count e)

module _ {h : Fields} {k at n : ℕ} (l : Linkable h k at n) where
  pub link_fits : at + h.stream.hashsum_length ≤ n
  link_fits = omega (arith, l.before, l.holds, mul-le-mul_right h.stream.block_size l.numbered)

  pub linked-fits : (k ≡ h.stream.count → ⊥) → start_of h k + h.stream.block_size ≤ n
  linked-fits e =
      let less : k < h.stream.count = omega (arith, l.numbered) in
      omega (arith, l.holds, mul-le-mul_right h.stream.block_size less, suc-mul k h.stream.block_size)

-- only the first block has padding
-- only the first block has padding
front-or-none : (k q pad r : ℕ) → q ≡ cond (eqb k 0) pad 0 → pad < r → (q ≤ pad) × (pad ≤ k * r + q) × (k * r + q - pad ≡ k * r - pad)
front-or-none zero q pad r e l = let z : 0 * r ≡ 0 = zero-mul r in (omega arith, omega arith, omega arith)
front-or-none (suc k) q pad r e l =
    let z : q ≡ 0 = e ∙ ap (λ (b : Bool). cond b pad 0) (eqb-suc-zero k) in
    let m : suc k * r ≡ k * r + r = suc-mul k r in
    (omega arith, omega arith, omega arith)

module _ (file : List ℕ) (h : Fields) (n : ℕ) (pl : Plan file h n) where
  -- block k lies in the output
  pub block_within : (k : ℕ) → k < h.stream.count → start_of h k + h.stream.block_size ≤ n
  block_within k l =
      let w : n ≡ image_length (header_with h []) = pl.image in
      omega (arith, mul-le-mul_right h.stream.block_size l, suc-mul k h.stream.block_size)

  file-within : length file ≤ n
  file-within = omega (arith, file-below (order_of file h) pl.packs.above pl.packs.filled, pl.exact)

  bounded : (k m r o pad : ℕ) → r ≡ o → k * o + o ≤ m * o → pad + length file ≡ m * o → pad < o → o ≤ h.stream.block_size
      → k * r + r ≤ 2 ^ 31
  bounded k m r o pad e l f g s =
      let kr : k * r ≡ k * o = ap (λ (x : ℕ). k * x) e in
      omega (arith, file-within, pl.small, pl.below)

  pub data_is : (k q r : ℕ) → k < h.stream.count → q ≡ padding_of (stream_of h.stream) k → r ≡ room_of h
      → Data file h k q r
  data_is k q r l e f =
      let p : Order = order_of file h in
      let ok : Packable p = pl.packs in
      let d : h.stream.padding ≡ padding p = pl.padded in
      let b : k < blocks p = subst (λ (x : ℕ). k < x) pl.count l in
      let g : r ≡ room p = f ∙ ap (λ (x : ℕ). h.stream.block_size - x) pl.sum in
      let kr : k * r ≡ k * room p = ap (λ (x : ℕ). k * x) g in
      let qe : q ≡ padding_of (packed_header p).stream k = e ∙ ap (λ (x : ℕ). cond (eqb k 0) x 0) d in
      let less : padding p < room p = padding-small p ok in
      let at = front-or-none k q h.stream.padding r e (omega arith) in
      let from : k * room p - padding p ≡ k * r + q - h.stream.padding = sym (at.2 ∙ ap₂ (λ (x y : ℕ). x - y) kr d) in
      let left : room p - padding_of (packed_header p).stream k ≡ r - q = sym (ap₂ (λ (x y : ℕ). x - y) g qe) in
      record {
        front = at.0;
        padded = omega arith;
        begins = at.1;
        ends = subst (λ (x : ℕ). x ≤ length file) (ap₂ (λ (x y : ℕ). x + y) from left) (chunk-within p ok k b);
        small = bounded k (blocks p) r (room p) (padding p) g (within p ok k b) (padding-fills p ok) less (omega arith);
        is = chunk-is p ok k
            ∙ ap₂ (λ (x y : ℕ). replicate (padding_of (packed_header p).stream k) 0 ++ part file x y) from left
            ∙ ap (λ (x : ℕ). replicate x 0 ++ part file (k * r + q - h.stream.padding) (r - q)) (sym qe);
      }

  -- zeros, then the file's bytes
  pub data-put : (k q r at m : ℕ) (s t u : List ℕ) → Data file h k q r → at + r ≤ length s → m ≡ r - q
      → t ≡ put s at (replicate q 0) → u ≡ put t (at + q) (part file (k * r + q - h.stream.padding) m)
      → u ≡ put s at (chunk (order_of file h) k)
  data-put k q r at m s t u d fits e f g =
      let from : ℕ = k * r + q - h.stream.padding in
      let bytes : List ℕ = part file from (r - q) in
      let lb : length bytes ≡ r - q = length_part file from (r - q) d.ends in
      put_next s (replicate q 0) bytes at q f (g ∙ ap (λ (i : ℕ). put t (at + q) (part file from i)) e) (length-replicate q 0)
      (omega (arith, d.front, d.padded))
      ∙ ap (λ (v : List ℕ). put s at v) (sym d.is)

  -- ---- the hash field before block k

  link-stands : (k : ℕ) (s : List ℕ) → k ≤ h.stream.count → Written file h k s
      → link_before h k s ≡ link (order_of file h) (h.stream.count - k) k
  link-stands k s l w = go (h.stream.count - k) refl
    where
      p : Order
      p = order_of file h

      go : (j : ℕ) → h.stream.count - k ≡ j → link_before h k s ≡ link p (h.stream.count - k) k
      go zero e =
          link-behind-last h k s (omega arith) ∙ ap (λ (m : ℕ). replicate m 0) pl.sum ∙ sym (link-last p k)
          ∙ ap (λ (j : ℕ). link p j k) (sym e)
      go (suc j) e =
          let b : k < blocks p = subst (λ (x : ℕ). k < x) pl.count (omega arith) in
          link-of-block h k s (λ z. omega arith)
          ∙ ap (hashsum h.stream.ids)
          (ap (λ (t : List ℕ). take h.stream.block_size t) (w ∙ ap (λ (i : ℕ). blocks_from p i k) e ∙ blocks_more p j k)
          ∙ take_at (link p j (suc k) ++ chunk p k) (blocks_from p j (suc k)) h.stream.block_size (length-block p pl.packs j k b))
          ∙ sym (link-more p j k)
          ∙ ap (λ (i : ℕ). link p i k) (sym e)

  -- ---- one more block, before those that stand

  pub none_written : (s : List ℕ) → length s ≡ n → Written file h h.stream.count s
  none_written s size =
      let p : Order = order_of file h in
      let z : 0 ≡ h.stream.count - h.stream.count = omega arith in
      drop_of_length-le s {i = image_length (header_with h [])} (omega (arith, pl.image)) ∙ sym (blocks-none p h.stream.count)
      ∙ ap (λ (j : ℕ). blocks_from p j h.stream.count) z

  -- the place of a hash field before block k
  pub linkable : (k at : ℕ) → k ≤ h.stream.count → at + h.stream.hashsum_length ≤ start_of h k → Linkable h k at n
  linkable k at l f =
      record { sum = pl.sum; numbered = l; below = pl.below; holds = omega (arith, pl.image); before = f }

  pub block-put : (k from : ℕ) (s t u : List ℕ) → k < h.stream.count → length s ≡ n → Written file h (k + 1) s
      → from ≡ start_of h k → t ≡ put s from (link_before h (k + 1) s)
      → u ≡ put t (from + h.stream.hashsum_length) (chunk (order_of file h) k) → Written file h k u
  block-put k from s t u l size w begins e f =
      let p : Order = order_of file h in
      let ok : Packable p = pl.packs in
      let at : ℕ = start_of h k in
      let j : ℕ = h.stream.count - (k + 1) in
      let b : k < blocks p = subst (λ (x : ℕ). k < x) pl.count l in
      let field : link_before h (k + 1) s ≡ link p j (suc k) = link-stands (k + 1) s (omega arith) w ∙ ap (link p j) (add-one k) in
      let lf : length (link p j (suc k)) ≡ h.stream.hashsum_length = length-link p j (suc k) ∙ sym pl.sum in
      let behind : drop (first_block (header_with h []) + suc k * h.stream.block_size) s ≡ blocks_from p j (suc k) =
      ap (λ (x : ℕ). drop (start_of h x) s) (sym (add-one k)) ∙ w ∙ ap (blocks_from p j) (add-one k) in
      let more : suc j ≡ h.stream.count - k = omega arith in
      let all : first_block (header_with h []) + blocks p * h.stream.block_size ≤ length s =
      omega (arith, pl.image, ap (λ (x : ℕ). x * h.stream.block_size) pl.count) in
      ap (λ (x : List ℕ). drop at x)
      (put_next s (link p j (suc k)) (chunk p k) at h.stream.hashsum_length (e ∙ ap₂ (λ (x : ℕ) (v : List ℕ). put s x v) begins field)
      (f ∙ ap (λ (x : ℕ). put t (x + h.stream.hashsum_length) (chunk p k)) begins) lf
      (omega (arith, block_within k l, length-chunk p ok k b, pl.sum, pl.above)))
      ∙ block_written p ok s (first_block (header_with h [])) j k b all behind
      ∙ ap (λ (i : ℕ). blocks_from p i k) more

  -- ---- before the blocks the signature field, and the header in front

  -- its IDs fit their bytes
  pub ids-narrow : (i : ℕ) → get_or h.stream.ids i 0 < 65536
  ids-narrow = known-narrow h.stream.ids pl.packs.known

  pub image-packed : (s t u v : List ℕ) → length s ≡ n → Written file h 0 s
      → t ≡ put s h.header_size (replicate h.signature 0)
      → u ≡ put t 0 (header_bytes (header_with h [])) → v ≡ put u 36 (link_before h 0 u) → v ≡ image (order_of file h)
  image-packed s t u v size w e f g =
      let p : Order = order_of file h in
      let zeros : List ℕ = replicate h.signature 0 in
      let fields : List ℕ = header_bytes (header_with h []) in
      let root : List ℕ = link p (blocks p) 0 in
      let i : ℕ = first_block (header_with h []) + 0 * h.stream.block_size in
      let none : 0 * h.stream.block_size ≡ 0 = zero-mul h.stream.block_size in
      let lz : length zeros ≡ h.signature = length-replicate h.signature 0 in
      let lf : length fields ≡ 36 = length-header (header_with h []) pl.four in
      let lr : length root ≡ h.stream.hashsum_length = length-link p (blocks p) 0 ∙ sym pl.sum in
      let head : h.header_size ≡ 36 + h.stream.hashsum_length = pl.head in
      let long : n ≡ image_length (header_with h []) = pl.image in
      let fit : h.header_size + length zeros ≤ length s = omega arith in
      let lt : length t ≡ n = ap length e ∙ length-put s h.header_size zeros fit ∙ size in
      let wt : drop i t ≡ blocks_from p (h.stream.count - 0) 0 =
      ap (λ (x : List ℕ). drop i x) e ∙ drop-behind-put s h.header_size zeros fit i (omega arith) ∙ w in
      let wu : drop i u ≡ blocks_from p (h.stream.count - 0) 0 =
      ap (λ (x : List ℕ). drop i x) f ∙ drop-behind-put t 0 fields (omega arith) i (omega arith) ∙ wt in
      let all : h.stream.count - 0 ≡ blocks p = sub-zero h.stream.count ∙ pl.count in
      let start : 36 + sum_length h.stream.ids + h.signature ≡ i = omega (arith, pl.sum) in
      put_next t fields root 0 36 f
      (g ∙ ap (λ (x : List ℕ). put u 36 x) (link-stands 0 u (omega arith) wu ∙ ap (λ (j : ℕ). link p j 0) all)) lf (omega arith)
      ∙ ap₂ (λ (x y : List ℕ). put x 0 y)
      (e ∙ ap (λ (x : ℕ). put s x zeros) (head ∙ ap (λ (x : ℕ). 36 + x) pl.sum))
      (sym (fields-root h root) ∙ ap header_bytes pl.fields)
      ∙ image-written p pl.packs pl.four s (size ∙ pl.exact)
      (ap (λ (x : ℕ). drop x s) start ∙ w ∙ ap (λ (j : ℕ). blocks_from p j 0) all)

-- ---- what pack leaves

module _ (p : Order) (s : List ℕ) (code : ℕ) (e : code ≡ first_broken (pack_rules p (length s))) where
  judged : packed p s ≡ record { code = code; output = cond (eqb code 0) (image p) s }
  unfolding packed
  judged = λ i. record { code = sym e i; output = cond (eqb (sym e i) 0) (image p) s }

  pub pack-refused : (code ≡ 0 → ⊥) → packed p s ≡ record { code = code; output = s }
  pack-refused z = judged ∙ ap (λ (b : Bool). record { code = code; output = cond b (image p) s }) (ne_eqb code 0 z)

  pub pack-done : (u : List ℕ) → code ≡ 0 → u ≡ image p → packed p s ≡ record { code = 0; output = u }
  pack-done u z f =
      judged ∙ ap (λ (b : Bool). record { code = code; output = cond b (image p) s }) (eq-eqb code 0 z)
      ∙ (λ i. record { code = z i; output = sym f i })

-- on a refusal
module _ (p : Order) (s : List ℕ) {A : Type 0} (r : Result A Refusal) (why : Refusal) (h : IsErrAnd r (λ (d : Refusal). d ≡ why)) where
  some : number why ≡ 0 → ⊥
  some z = let e = number-positive why in omega arith

  pub length-exits : number why ≡ first_broken (pack_rules p (length s)) → packed p s ≡ record { code = code_of r; output = s }
  length-exits e = let q = err_from_is_err_and r h in rw (q.1, q.2) (pack-refused p s (number why) e some)

  pub order-exits : number why ≡ first_broken (order_rules p) → packed p s ≡ record { code = code_of r; output = s }
  order-exits e = length-exits (order-refuses p (number why) e some (length s))

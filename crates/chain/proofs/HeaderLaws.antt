-- Laws of the header: what it means to pass its rules, and that reading and writing it are inverse.
use mathlib.Core.Path.{◌≡◌, refl, sym, ap, ap₂, subst, ◌∙◌}
use mathlib.Core.Bool.{Bool, true, false, not}
use mathlib.Core.List.{List, [], ◌∷◌, ◌++◌, append_assoc, append-nil}
use Prim.Native.Nat.{ℕ, ◌+◌, ◌*◌, ◌^◌, ◌≤◌, ◌<◌}
use native.Mathlib.Nat.{mul-le-mul_right, suc-mul}
use native.Mathlib.Omega.{arith}
use borrow.Author.Tests.{eqb-true, eqb-false, eq-eqb, ne_eqb, ltb-false, le-ltb, leb-false, lt-leb, not-false}
use lib.Dec.{eqb, ltb}
use lib.ListN.{length, get_or, take, drop, length-append, take-append-drop, drop_of_length-le}
use lib.Seq.{take-add, drop-drop, drop-cons}
use Rattle.octets.specs.Numbers.{little, little_bytes}
use Rattle.octets.specs.Parts.{part, put, same, Octets}
use Rattle.octets.proofs.NumberLaws.{length-little_bytes, little-little_bytes-lt, little_bytes-little}
use Rattle.octets.proofs.PartLaws.{length_part, part-add, octets-part}
use Rattle.octets.proofs.TestLaws.{same-eq, eq-same}
use Rattle.answers.specs.Rules.{Rule, rule, first_broken, signature_rules, size_rules}
use Rattle.answers.proofs.RuleLaws.{zero-all-hold, all-hold-zero, both_hold, hold-both}
use Rattle.chain.specs.Blocks.{block_of}
use Rattle.chain.specs.Hashsum.{sum_length, any_unknown}
use Rattle.chain.specs.Header.{Header, Stream, header_of, header_magic, header_size_for, header_bytes, id_bytes, block_data_length}
use Rattle.chain.specs.Header.{image_length}
use Rattle.chain.specs.Header.{first_block, field_rules, image_rules, stream_rules}

-- block data length
abbrev pub block_data : Stream → ℕ
block_data s = block_data_length s.block_size s.hashsum_length

-- ---- what passes

not-true : (b : Bool) → b ≡ true → not b ≡ false
not-true true e = refl
not-true false e = sym e

-- 5 to 11, of an approved header of `size` bytes, where a signature of so many is asked for
pub record Sound (d : Header) (size asked : ℕ) : Type 0 where
  pub magic : d.magic ≡ header_magic
  pub first : get_or d.stream.ids 0 0 ≡ 0 → ⊥
  pub known : any_unknown d.stream.ids ≡ false
  pub hashsum : d.stream.hashsum_length ≡ sum_length d.stream.ids
  pub header : d.header_size ≡ header_size_for d.stream.hashsum_length
  pub approved : d.header_size ≡ size
  pub scheme : d.scheme ≡ 1
  pub signature : d.signature ≡ asked
  pub counted : 0 < d.stream.count
  pub above : d.stream.hashsum_length < d.stream.block_size
  pub below : d.stream.block_size ≤ 1048576
  pub padded : d.stream.padding < block_data d.stream

module _ (d : Header) (size signature : ℕ) where
  pub sound : first_broken (field_rules d size signature) ≡ 0 → Sound d size signature
  sound e =
      let h = zero-all-hold (field_rules d size signature) tt e in
      record {
        magic = eqb-true d.magic header_magic (not-false _ h.0);
        first = eqb-false (get_or d.stream.ids 0 0) 0 h.1.0;
        known = h.1.1.0;
        hashsum = eqb-true d.stream.hashsum_length (sum_length d.stream.ids) (not-false _ h.1.1.1.0);
        header = eqb-true d.header_size (header_size_for d.stream.hashsum_length) (not-false _ h.1.1.1.1.0);
        approved = eqb-true d.header_size size (not-false _ h.1.1.1.1.1.0);
        scheme = eqb-true d.scheme 1 (not-false _ h.1.1.1.1.1.1.0);
        signature = eqb-true d.signature signature (not-false _ h.1.1.1.1.1.1.1.0);
        counted = let ne : (d.stream.count ≡ 0 → ⊥) = eqb-false d.stream.count 0 h.1.1.1.1.1.1.1.1.0 in omega arith;
        above = leb-false d.stream.block_size d.stream.hashsum_length h.1.1.1.1.1.1.1.1.1.0;
        below = ltb-false 1048576 d.stream.block_size h.1.1.1.1.1.1.1.1.1.1.0;
        padded = leb-false (block_data d.stream) d.stream.padding h.1.1.1.1.1.1.1.1.1.1.1.0;
      }

  pub sound-passes : Sound d size signature → first_broken (field_rules d size signature) ≡ 0
  sound-passes s =
      all-hold-zero (field_rules d size signature) (
        not-true _ (eq-eqb d.magic header_magic s.magic),
        (
          ne_eqb (get_or d.stream.ids 0 0) 0 s.first,
          (
            s.known,
            (
              not-true _ (eq-eqb d.stream.hashsum_length (sum_length d.stream.ids) s.hashsum),
              (
                not-true _ (eq-eqb d.header_size (header_size_for d.stream.hashsum_length) s.header),
                (
                  not-true _ (eq-eqb d.header_size size s.approved),
                  (
                    not-true _ (eq-eqb d.scheme 1 s.scheme),
                    (
                      not-true _ (eq-eqb d.signature signature s.signature),
                      (
                        ne_eqb d.stream.count 0 (λ e. let p : 0 < d.stream.count = s.counted in omega arith),
                        (
                          lt-leb d.stream.block_size d.stream.hashsum_length s.above,
                          (
                            le-ltb 1048576 d.stream.block_size s.below,
                            (lt-leb (block_data d.stream) d.stream.padding s.padded, tt),
                          ),
                        ),
                      ),
                    ),
                  ),
                ),
              ),
            ),
          ),
        ),
      )

-- 4 to 12
pub record Passed (image approved : List ℕ) (signature : ℕ) : Type 0 where
  pub enough : 36 ≤ length approved
  pub begins : take (length approved) image ≡ approved
  pub sound : Sound (header_of approved) (length approved) signature
  pub exact : length image ≡ image_length (header_of approved)

module _ (image approved : List ℕ) (signature : ℕ) where
  beginning : List Rule
  beginning = rule 4 (ltb (length approved) 36) ∷ rule 4 (not (same (take (length approved) image) approved)) ∷ []

  fields : List Rule
  fields = field_rules (header_of approved) (length approved) signature

  exactly : List Rule
  exactly =
      rule 12 (not (eqb (length image) (image_length (header_of approved))))
      ∷ []

  pub passed : first_broken (image_rules image approved signature) ≡ 0 → Passed image approved signature
  unfolding beginning fields exactly
  passed e =
      let a = both_hold beginning (fields ++ exactly) tt e in
      let b = both_hold fields exactly tt a.1 in
      let h = zero-all-hold beginning tt a.0 in
      record {
        enough = ltb-false (length approved) 36 h.0;
        begins = same-eq (take (length approved) image) approved (not-false _ h.1.0);
        sound = sound (header_of approved) (length approved) signature b.0;
        exact = eqb-true (length image) (image_length (header_of approved))
            (not-false _ (zero-all-hold exactly tt b.1).0);
      }

  pub passed-passes : Passed image approved signature → first_broken (image_rules image approved signature) ≡ 0
  unfolding beginning fields exactly
  passed-passes p =
      hold-both beginning (fields ++ exactly) tt
      (all-hold-zero beginning (
        le-ltb (length approved) 36 p.enough,
        (not-true _ (eq-same (take (length approved) image) approved p.begins), tt),
      ))
      (hold-both fields exactly tt (sound-passes (header_of approved) (length approved) signature p.sound)
      (all-hold-zero exactly (
        not-true _
            (eq-eqb (length image) (image_length (header_of approved)) p.exact),
        tt,
      )))

-- every block of an image that passed is whole
module _ (image approved : List ℕ) (signature : ℕ) (q : Passed image approved signature) (k : ℕ)
    (h : k < (header_of approved).stream.count) where
  abbrev block_length : ℕ
  block_length = (header_of approved).stream.block_size

  pub block-ends : first_block (header_of approved) + k * block_length + block_length ≤ length image
  block-ends = omega (arith, q.exact, mul-le-mul_right block_length h, suc-mul k block_length)

  pub whole-block : length (block_of image (header_of approved) k) ≡ block_length
  whole-block = length_part image (first_block (header_of approved) + k * block_length) block_length block-ends

-- 1, of the signature length and of the image's
pub record Allowed (signature size : ℕ) : Type 0 where
  pub signed : 0 < signature
  pub short : signature ≤ 4096
  pub small : size ≤ 2 ^ 30

module _ (signature size : ℕ) where
  pub allowed : first_broken (signature_rules signature ++ size_rules size) ≡ 0 → Allowed signature size
  allowed e =
      let h = zero-all-hold (signature_rules signature ++ size_rules size) tt e in
      record {
        signed = let ne : (signature ≡ 0 → ⊥) = eqb-false signature 0 h.0 in omega arith;
        short = ltb-false 4096 signature h.1.0;
        small = ltb-false (2 ^ 30) size h.1.1.0;
      }

  pub allowed-passes : Allowed signature size → first_broken (signature_rules signature ++ size_rules size) ≡ 0
  allowed-passes a =
      all-hold-zero (signature_rules signature ++ size_rules size) (
        ne_eqb signature 0 (λ e. let p : 0 < signature = a.signed in omega arith),
        (le-ltb 4096 signature a.short, (le-ltb (2 ^ 30) size a.small, tt)),
      )

module _ (image approved : List ℕ) (signature : ℕ) where
  pub stream-passes : Allowed signature (length image) → Passed image approved signature
      → first_broken (stream_rules image approved signature) ≡ 0
  stream-passes a p =
      hold-both (signature_rules signature ++ size_rules (length image)) (image_rules image approved signature) tt
      (allowed-passes signature (length image) a) (passed-passes image approved signature p)

  pub stream-passed : first_broken (stream_rules image approved signature) ≡ 0
      → Allowed signature (length image) × Passed image approved signature
  stream-passed e =
      let h = both_hold (signature_rules signature ++ size_rules (length image)) (image_rules image approved signature) tt e in
      (allowed signature (length image) h.0, passed image approved signature h.1)

-- ---- written, then read

pub length_ids : (ids : List ℕ) → length (id_bytes ids) ≡ 2 * length ids
unfolding id_bytes
length_ids [] = refl
length_ids (id ∷ ids) =
    simp (length-append, length-little_bytes, length_ids ids) (omega arith)

-- header size = 36 + hashsum length
pub length-header : (d : Header) → length d.stream.ids ≡ 4 → length (header_bytes d) ≡ 36 + length d.root
unfolding header_bytes
length-header d four =
    simp (length-append, length-little_bytes, length_ids) (omega arith)

-- each field fits its bytes
pub record Narrow (d : Header) : Type 0 where
  pub magic : d.magic < 256 ^ 4
  pub count : d.stream.count < 256 ^ 4
  pub block_size : d.stream.block_size < 256 ^ 4
  pub signature : d.signature < 256 ^ 4
  pub header_size : d.header_size < 256 ^ 2
  pub hashsum_length : d.stream.hashsum_length < 256 ^ 2
  pub four : length d.stream.ids ≡ 4
  pub ids : (i : ℕ) → get_or d.stream.ids i 0 < 256 ^ 2
  pub scheme : d.scheme < 256 ^ 2
  pub padding : d.stream.padding < 256 ^ 4

abbrev with_ids : Header → List ℕ → Header
with_ids d ids =
    record {
      magic = d.magic;
      stream = record {
        count = d.stream.count;
        block_size = d.stream.block_size;
        hashsum_length = d.stream.hashsum_length;
        ids = ids;
        padding = d.stream.padding;
      };
      signature = d.signature;
      header_size = d.header_size;
      scheme = d.scheme;
      root = d.root;
    }

-- four IDs, one by one
abbrev each : List ℕ → List ℕ
each ids = get_or ids 0 0 ∷ get_or ids 1 0 ∷ get_or ids 2 0 ∷ get_or ids 3 0 ∷ []

each-of-four : (ids : List ℕ) → length ids ≡ 4 → ids ≡ each ids
each-of-four ids four =
    drop-cons ids 0 0 (omega arith)
    ∙ ap (λ (t : List ℕ). get_or ids 0 0 ∷ t)
    (drop-cons ids 1 0 (omega arith)
    ∙ ap (λ (t : List ℕ). get_or ids 1 0 ∷ t)
    (drop-cons ids 2 0 (omega arith)
    ∙ ap (λ (t : List ℕ). get_or ids 2 0 ∷ t)
    (drop-cons ids 3 0 (omega arith)
    ∙ ap (λ (t : List ℕ). get_or ids 3 0 ∷ t) (drop_of_length-le ids {i = 4} (omega arith)))))

read-four : (d : Header) → Narrow d → header_of (header_bytes (with_ids d (each d.stream.ids))) ≡ with_ids d (each d.stream.ids)
unfolding header_bytes id_bytes little_bytes
read-four d n = λ i.
    record {
      magic = little-little_bytes-lt 4 d.magic n.magic i;
      stream = record {
        count = little-little_bytes-lt 4 d.stream.count n.count i;
        block_size = little-little_bytes-lt 4 d.stream.block_size n.block_size i;
        hashsum_length = little-little_bytes-lt 2 d.stream.hashsum_length n.hashsum_length i;
        ids = little-little_bytes-lt 2 (get_or d.stream.ids 0 0) (n.ids 0) i
            ∷ little-little_bytes-lt 2 (get_or d.stream.ids 1 0) (n.ids 1) i
            ∷ little-little_bytes-lt 2 (get_or d.stream.ids 2 0) (n.ids 2) i
            ∷ little-little_bytes-lt 2 (get_or d.stream.ids 3 0) (n.ids 3) i
            ∷ [];
        padding = little-little_bytes-lt 4 d.stream.padding n.padding i;
      };
      signature = little-little_bytes-lt 4 d.signature n.signature i;
      header_size = little-little_bytes-lt 2 d.header_size n.header_size i;
      scheme = little-little_bytes-lt 2 d.scheme n.scheme i;
      root = d.root;
    }

pub read-written : (d : Header) → Narrow d → header_of (header_bytes d) ≡ d
read-written d n =
    subst (λ (h : Header). header_of (header_bytes h) ≡ h) (sym (ap (with_ids d) (each-of-four d.stream.ids n.four)))
    (read-four d n)

reserved : little_bytes 2 0 ≡ 0 ∷ 0 ∷ []
unfolding little_bytes
reserved = refl

-- ---- read, then written: the same bytes, but for the reserved ones

module _ (h : List ℕ) (bytes : Octets h) (enough : 36 ≤ length h) where
  rewritten : (at n : ℕ) → at + n ≤ length h → little_bytes n (little (part h at n)) ≡ part h at n
  rewritten at n fits =
      ap (λ (k : ℕ). little_bytes k (little (part h at n))) (sym (length_part h at n fits))
      ∙ little_bytes-little (part h at n) (octets-part h at n bytes)

  ids-written : id_bytes (header_of h).stream.ids ≡ part h 20 8
  unfolding id_bytes
  ids-written =
      ap₂ (λ (s t : List ℕ). s ++ t) (rewritten 20 2 (omega arith))
      (ap₂ (λ (s t : List ℕ). s ++ t) (rewritten 22 2 (omega arith))
      (ap₂ (λ (s t : List ℕ). s ++ t) (rewritten 24 2 (omega arith))
      (ap₂ (λ (s t : List ℕ). s ++ t) (rewritten 26 2 (omega arith)) refl
      ∙ append-nil (part h 26 2))
      ∙ sym (part-add h 24 2 2))
      ∙ sym (part-add h 22 2 4))
      ∙ sym (part-add h 20 2 6)

  -- one more part behind the first `at` bytes
  further : (s t : List ℕ) (at n : ℕ) → s ≡ take at h → t ≡ part h at n → s ++ t ≡ take (at + n) h
  further s t at n p q = ap₂ (λ (x y : List ℕ). x ++ y) p q ∙ sym (take-add at n h)

  pub written_read : header_bytes (header_of h) ≡ put h 30 (0 ∷ 0 ∷ [])
  unfolding header_bytes
  written_read =
      ap₂ (λ (a b : List ℕ). a ++ b ++ little_bytes 4 (header_of h).stream.padding ++ drop 36 h)
      (further _ _ 28 2
      (further _ _ 20 8
      (further _ _ 18 2
      (further _ _ 16 2
      (further _ _ 12 4
      (further _ _ 8 4
      (further _ _ 4 4 (rewritten 0 4 (omega arith)) (rewritten 4 4 (omega arith)))
      (rewritten 8 4 (omega arith)))
      (rewritten 12 4 (omega arith)))
      (rewritten 16 2 (omega arith)))
      (rewritten 18 2 (omega arith)))
      ids-written)
      (rewritten 28 2 (omega arith)))
      reserved
      ∙ ap (λ (t : List ℕ). take 30 h ++ (0 ∷ 0 ∷ []) ++ t ++ drop 36 h) (rewritten 32 4 (omega arith))
      ∙ append_assoc (take 30 h ++ (0 ∷ 0 ∷ [])) (part h 32 4) (drop 36 h)
      ∙ ap (λ (t : List ℕ). take 30 h ++ (0 ∷ 0 ∷ []) ++ t)
      (ap (λ (t : List ℕ). part h 32 4 ++ t) (sym (drop-drop 4 32 h)) ∙ take-append-drop 4 (drop 32 h))

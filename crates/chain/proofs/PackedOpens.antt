-- The blocks that pack wrote all pass, and hold the file.
use mathlib.Core.Path.{◌≡◌, refl, sym, ap, ap₂, subst, ◌∙◌}
use mathlib.Core.Bool.{true, not}
use mathlib.Core.List.{List, ◌++◌, append_assoc}
use Prim.Native.Nat.{ℕ, zero, suc, ◌+◌, ◌-◌, ◌*◌, ◌^◌, ◌≤◌, ◌<◌}
use native.Mathlib.Nat.{zero-mul, suc-mul, le_of_lt, le_of_eq, le-mul_of_pos_right}
use native.Mathlib.Omega.{arith}
use borrow.Author.Tests.{eq-eqb}
use lib.Dec.{lit<}
use lib.ListN.{length, take, drop, replicate, length-append, length-replicate}
use lib.Seq.{take_at, drop_at, drop-drop, take-add, take_all, take-take}
use Rattle.octets.specs.Parts.{part, all_zero}
use Rattle.octets.proofs.TestLaws.{eq-all_zero}
use Rattle.answers.specs.Rules.{first_broken}
use Rattle.answers.specs.Answers.{record_length}
use Rattle.answers.proofs.OutcomeLaws.{given}
use Rattle.answers.proofs.RuleLaws.{all-hold-zero, hold-both}
use Rattle.chain.specs.Blocks.{block_of, hash_field, padding_of, expected, block_code, proved, file_up_to}
use Rattle.chain.specs.Hashsum.{hashsum, sum_length}
use Rattle.chain.specs.Header.{Header, header_of, header_bytes, file_length, first_block, image_length, stream_rules}
use Rattle.chain.specs.Open.{open_rules, opened}
use Rattle.chain.specs.Pack.{Order, room, blocks, padding, chunk, link, blocks_from, packed_header, image}
use Rattle.chain.proofs.BlockLaws.{proper-passes, all_pass, unpadded, data_up_to, file-of-data}
use Rattle.chain.proofs.HashsumLaws.{sum_length-four, known-narrow}
use Rattle.chain.proofs.HeaderLaws.{Sound, Passed, Allowed, stream-passes, Narrow, read-written, length-header}
use Rattle.chain.proofs.OpenLaws.{ButSignature, length_rule, outcome, opened-is, outcome-done, done_answer}
use Rattle.chain.proofs.PackLaws.{Packable, padded_file, blocks-fewest, padding-small, padding-fills, length-padded}
use Rattle.chain.proofs.PackLaws.{length-link, length-block, length-image, link-more, link-last, block-stands}

zeros : (n : ℕ) → all_zero (replicate n 0) ≡ true
zeros n = eq-all_zero (replicate n 0) (ap (λ (k : ℕ). replicate k 0) (sym (length-replicate n 0)))

module _ (p : Order) (ok : Packable p) (block : ℕ → List ℕ)
    (stands : (i j : ℕ) → i + suc j ≡ blocks p → block i ≡ link p j (suc i) ++ chunk p i) where
  -- the number of blocks behind block k
  behind : ℕ → ℕ
  behind k = blocks p - suc k

  stands_at : (k : ℕ) → k < blocks p → block k ≡ link p (behind k) (suc k) ++ chunk p k
  unfolding behind
  stands_at k h = stands k (behind k) (omega arith)

  pub sized : (k : ℕ) → k < blocks p → length (block k) ≡ p.block_size
  sized k h = ap length (stands_at k h) ∙ length-block p ok (behind k) k h

  linked : (i j : ℕ) → i + suc j ≡ blocks p → hash_field (packed_header p).stream (block i) ≡ link p j (suc i)
  linked i j e =
      ap (λ (b : List ℕ). take (sum_length p.ids) b) (stands i j e)
      ∙ take_at (link p j (suc i)) (chunk p i) (sum_length p.ids) (length-link p j (suc i))

  data_of : (k : ℕ) → k < blocks p → drop (sum_length p.ids) (block k) ≡ chunk p k
  data_of k h =
      ap (λ (b : List ℕ). drop (sum_length p.ids) b) (stands_at k h)
      ∙ drop_at (link p (behind k) (suc k)) (chunk p k) (sum_length p.ids) (length-link p (behind k) (suc k))

  hashed : (k j : ℕ) → k + suc j ≡ blocks p → hashsum p.ids (block k) ≡ expected (packed_header p) block k
  hashed zero j e =
      ap (hashsum p.ids) (stands zero j e) ∙ sym (link-more p j zero)
      ∙ ap (λ (n : ℕ). link p n zero) (let f : suc j ≡ blocks p = omega arith in f)
  hashed (suc k) j e =
      ap (hashsum p.ids) (stands (suc k) j e) ∙ sym (link-more p j (suc k))
      ∙ sym (linked k (suc j) (omega arith))

  padded : (k : ℕ) → k < blocks p → all_zero (part (block k) (sum_length p.ids) (padding_of (packed_header p).stream k)) ≡ true
  padded zero h =
      ap all_zero
      (ap (λ (t : List ℕ). take (padding p) t) (data_of zero h)
      ∙ take-take (padding p) (room p) (drop (0 * room p) (padded_file p)) (le_of_lt (padding-small p ok))
      ∙ ap (λ (x : ℕ). take (padding p) (drop x (padded_file p))) (zero-mul (room p))
      ∙ take_at (replicate (padding p) 0) p.file (padding p) (length-replicate (padding p) 0))
      ∙ zeros (padding p)
  padded (suc k) h =
      ap (λ (x : ℕ). all_zero (part (block (suc k)) (sum_length p.ids) x)) (unpadded (packed_header p).stream k) ∙ zeros 0

  last : (k : ℕ) → suc k ≡ blocks p → all_zero (hash_field (packed_header p).stream (block k)) ≡ true
  last k e = rw (linked k zero (omega arith), link-last) (zeros (sum_length p.ids))

  pub packed-passes : (k : ℕ) → k < blocks p → block_code (packed_header p) block k ≡ 0
  unfolding behind
  packed-passes k h =
      proper-passes (packed_header p).stream k (expected (packed_header p) block k) (block k)
      (record { hashed = hashed k (behind k) (omega arith); padded = padded k h; last = last k })

  pub packed-proved : proved (packed_header p) block (blocks p) ≡ blocks p
  packed-proved = all_pass (packed_header p) block (blocks p) packed-passes

  packed-data : (n : ℕ) → n ≤ blocks p → data_up_to (packed_header p).stream block n ≡ take (n * room p) (padded_file p)
  unfolding data_up_to
  packed-data zero h = ap (λ (x : ℕ). take x (padded_file p)) (sym (zero-mul (room p)))
  packed-data (suc n) h =
      ap₂ (λ (x y : List ℕ). x ++ y) (packed-data n (omega arith)) (data_of n h)
      ∙ sym (take-add (n * room p) (room p) (padded_file p))
      ∙ ap (λ (x : ℕ). take x (padded_file p)) (sym (suc-mul n (room p)))

  pub packed-file : file_up_to (packed_header p).stream block (blocks p) ≡ p.file
  packed-file =
      let one : 0 < blocks p = (blocks-fewest p ok).one in
      let m : ℕ = blocks p - 1 in
      let e : blocks p ≡ suc m = omega arith in
      ap (file_up_to (packed_header p).stream block) e
      ∙ file-of-data (packed_header p).stream block (blocks p) sized m (omega arith) (le_of_lt (padding-small p ok))
      ∙ ap (λ (n : ℕ). drop (padding p) (data_up_to (packed_header p).stream block n)) (sym e)
      ∙ ap (λ (t : List ℕ). drop (padding p) t)
      (packed-data (blocks p) (omega arith)
      ∙ take_all (blocks p * room p) (padded_file p) (le_of_eq (length-padded p ok)))
      ∙ drop_at (replicate (padding p) 0) p.file (padding p) (length-replicate (padding p) 0)

-- ---- the image

module _ (p : Order) (ok : Packable p) (four : length p.ids ≡ 4) where
  few-blocks : blocks p ≤ 2 ^ 30
  few-blocks =
      let a : sum_length p.ids < p.block_size = ok.above in
      let b : image_length (packed_header p) ≤ 2 ^ 30 = ok.allowed.small in
      omega (arith, le-mul_of_pos_right {m = p.block_size} (blocks p) (omega arith))

  narrow : Narrow (packed_header p)
  narrow =
      let a : sum_length p.ids ≤ 256 = sum_length-four p.ids four in
      let b : p.block_size ≤ 1048576 = ok.below in
      let s : p.signature ≤ 4096 = ok.allowed.short in
      let n : blocks p ≤ 2 ^ 30 = few-blocks in
      let r : padding p < room p = padding-small p ok in
      record {
        magic = lit< tt;
        count = omega arith;
        block_size = omega arith;
        signature = omega arith;
        header_size = omega arith;
        hashsum_length = omega arith;
        four = four;
        ids = known-narrow p.ids ok.known;
        scheme = lit< tt;
        padding = omega arith;
      }

  -- the packed header, approved
  abbrev header : List ℕ
  header = header_bytes (packed_header p)

  pub header_read : header_of header ≡ packed_header p
  header_read = read-written (packed_header p) narrow

  pub header-length : length header ≡ 36 + sum_length p.ids
  header-length =
      length-header (packed_header p) four ∙ ap (λ (n : ℕ). 36 + n) (length-link p (blocks p) 0)

  packed-sound : Sound (packed_header p) (36 + sum_length p.ids) p.signature
  packed-sound =
      record {
        magic = refl;
        first = ok.first;
        known = ok.known;
        hashsum = refl;
        header = refl;
        approved = refl;
        scheme = refl;
        signature = refl;
        counted = (blocks-fewest p ok).one;
        above = ok.above;
        below = ok.below;
        padded = padding-small p ok;
      }

  pub header-first : take (36 + sum_length p.ids) (image p) ≡ header
  unfolding image
  header-first =
      let blank : List ℕ = replicate p.signature 0 in
      ap (λ (t : List ℕ). take (36 + sum_length p.ids) t) (append_assoc header blank (blocks_from p (blocks p) 0))
      ∙ take_at header (blank ++ blocks_from p (blocks p) 0) (36 + sum_length p.ids) header-length

  pub blocks_last : drop (36 + sum_length p.ids + p.signature) (image p) ≡ blocks_from p (blocks p) 0
  unfolding image
  blocks_last =
      let blank : List ℕ = replicate p.signature 0 in
      drop_at (header ++ blank) (blocks_from p (blocks p) 0) (36 + sum_length p.ids + p.signature)
      (length-append header blank ∙ ap₂ (λ (x y : ℕ). x + y) header-length (length-replicate p.signature 0))

  -- whatever its signature field holds
  module _ (image' : List ℕ) (but : ButSignature (36 + sum_length p.ids) p.signature (image p) image') where
    packed-stands : (i j : ℕ) → i + suc j ≡ blocks p
        → block_of image' (packed_header p) i ≡ link p j (suc i) ++ chunk p i
    packed-stands i j e =
        let at : ℕ = i * p.block_size in
        ap (λ (t : List ℕ). take p.block_size t)
        (sym (drop-drop at (first_block (packed_header p)) image') ∙ ap (λ (t : List ℕ). drop at t) (sym but.rest ∙ blocks_last))
        ∙ block-stands p ok i j e

    packed-passed : Passed image' header p.signature
    packed-passed =
        record {
          enough = rw header-length (omega arith);
          begins = ap (λ (n : ℕ). take n image') header-length ∙ sym but.front ∙ header-first;
          sound = subst (λ (d : Header). Sound d (length header) p.signature) (sym header_read)
              (subst (λ (n : ℕ). Sound (packed_header p) n p.signature) (sym header-length) packed-sound);
          exact = sym but.size ∙ length-image p ok four
              ∙ sym (ap image_length header_read);
        }

    packed-accepted : (output : ℕ) → output ≡ length p.file → first_broken (open_rules image' header p.signature output) ≡ 0
    packed-accepted output e =
        hold-both (stream_rules image' header p.signature)
        (length_rule output (header_of header)) tt
        (stream-passes image' header p.signature
        (subst (Allowed p.signature) (sym (length-image p ok four) ∙ but.size) ok.allowed)
        packed-passed)
        (all-hold-zero (length_rule output (header_of header)) (
          ap not
              (eq-eqb output (file_length (header_of header).stream)
              (e ∙ (let f : padding p + length p.file ≡ blocks p * room p = padding-fills p ok in
              let g : length p.file ≡ file_length (packed_header p).stream = omega arith in g)
              ∙ sym (ap (λ (d : Header). file_length d.stream) header_read))),
          tt,
        ))

    pub opened_packed : (output old : List ℕ) → length output ≡ length p.file → length old ≡ record_length
        → opened image' header p.signature output old ≡ given (done_answer (length p.file)) p.file
    opened_packed output old e h =
        let d : Header = packed_header p in
        let block : (ℕ → List ℕ) = block_of image' d in
        let file : file_up_to d.stream block (blocks p) ≡ p.file = packed-file p ok block packed-stands in
        opened-is image' header p.signature output old
        ∙ ap (λ (c : ℕ). outcome c (header_of header) (block_of image' (header_of header)) output old) (packed-accepted (length output) e)
        ∙ ap (λ (h : Header). outcome 0 h (block_of image' h) output old) header_read
        ∙ outcome-done d block (packed-proved p ok block packed-stands) output old h (e ∙ ap length (sym file))
        ∙ ap (λ (f : List ℕ). given (done_answer (length f)) f) file

-- The blocks of an image that opens are those that pack makes of its file.
use mathlib.Core.Path.{◌≡◌, sym, ap, ap₂, subst, ◌∙◌}
use mathlib.Core.Bool.{cond}
use mathlib.Core.List.{List, [], ◌∷◌, ◌++◌, append_assoc}
use Prim.Native.Nat.{ℕ, zero, suc, ◌+◌, ◌-◌, ◌*◌, ◌/◌, min, ◌≤◌, ◌<◌}
use native.Mathlib.Nat.{zero-mul, suc-mul, le_of_lt, le_of_eq, mul-le-mul_right}
use native.Mathlib.Omega.{arith}
use lib.Dec.{eqb}
use lib.ListN.{length, take, drop, replicate, length-replicate, length-take, length-drop, take-append-drop, drop_of_length-le}
use lib.Seq.{take_at, drop-drop, take-take, take-append-le, drop-append-le}
use Rattle.octets.specs.Parts.{part, put, Octets}
use Rattle.octets.proofs.PartLaws.{length_part, length-put, drop-behind-put, octets-take}
use Rattle.octets.proofs.TestLaws.{all_zero-eq}
use Rattle.answers.specs.Answers.{Outcome, record_length}
use Rattle.answers.specs.Rules.{first_broken}
use Rattle.answers.proofs.OutcomeLaws.{given}
use Rattle.chain.specs.Blocks.{block_of, hash_field, expected, proved_blocks, file_up_to}
use Rattle.chain.specs.Hashsum.{hashsum, sum_length}
use Rattle.chain.specs.Header.{Header, header_of, header_bytes, header_size_for, file_length, first_block, image_length, stream_rules}
use Rattle.chain.specs.Open.{open_rules, opened}
use Rattle.chain.specs.Pack.{Order, room, blocks, padding, chunk, link, blocks_from, packed_header, image, packed}
use Rattle.chain.proofs.BlockLaws.{Proper, proper, pass_all, data_up_to, data-part, file-of-data, length-file}
use Rattle.chain.proofs.HeaderLaws.{Sound, Allowed, Passed, stream-passed, written_read, block_data, whole-block}
use Rattle.chain.proofs.OpenLaws.{outcome, opened-is, rules-passed, outcome-zero, outcome-done, done_answer}
use Rattle.chain.proofs.PackLaws.{packable-passes, only-fewest, padded_file, link-more, link-last, blocks_more, blocks-none}

-- what is packed again: the file of some blocks, with their header's IDs and sizes
abbrev pub order_of : Header → (ℕ → List ℕ) → Order
order_of d block =
    record {
      file = file_up_to d.stream block d.stream.count;
      ids = d.stream.ids;
      block_size = d.stream.block_size;
      signature = d.signature;
    }

module _ (d : Header) (size signature : ℕ) (s : Sound d size signature) (block : ℕ → List ℕ)
    (sized : (k : ℕ) → k < d.stream.count → length (block k) ≡ d.stream.block_size) (all : proved_blocks d block ≡ d.stream.count) where
  abbrev p : Order
  p = order_of d block

  same-room : room p ≡ block_data d.stream
  same-room = ap (λ (n : ℕ). d.stream.block_size - n) (sym s.hashsum)

  room-some : 0 < block_data d.stream
  room-some = let h : d.stream.hashsum_length < d.stream.block_size = s.above in omega arith

  -- one block's data at least
  one_block : block_data d.stream ≤ d.stream.count * block_data d.stream
  one_block = omega (arith, mul-le-mul_right (block_data d.stream) s.counted)

  file-length : length p.file ≡ d.stream.count * block_data d.stream - d.stream.padding
  file-length = length-file d.stream block d.stream.count sized (le_of_lt s.padded)

  file-some : 0 < length p.file
  file-some =
      let l : d.stream.padding < block_data d.stream = s.padded in
      let n : block_data d.stream ≤ d.stream.count * block_data d.stream = one_block in
      let e : length p.file ≡ d.stream.count * block_data d.stream - d.stream.padding = file-length in
      omega arith

  same_count : blocks p ≡ d.stream.count
  same_count =
      ap (λ (r : ℕ). (length p.file + r - 1) / r) same-room
      ∙ only-fewest (length p.file) (block_data d.stream) room-some d.stream.count
      (let l : d.stream.padding < block_data d.stream = s.padded in
      let n : block_data d.stream ≤ d.stream.count * block_data d.stream = one_block in
      let e : length p.file ≡ d.stream.count * block_data d.stream - d.stream.padding = file-length in
      record { holds = omega arith; fewest = omega arith; one = s.counted })

  same-padding : padding p ≡ d.stream.padding
  same-padding =
      ap₂ (λ (n r : ℕ). n * r - length p.file) same_count same-room
      ∙ (let l : d.stream.padding < block_data d.stream = s.padded in
      let n : block_data d.stream ≤ d.stream.count * block_data d.stream = one_block in
      let e : length p.file ≡ d.stream.count * block_data d.stream - d.stream.padding = file-length in
      omega arith)

  rules : (k : ℕ) → k < d.stream.count → Proper d.stream k (expected d block k) (block k)
  rules k h = proper d.stream k (expected d block k) (block k) (pass_all d block d.stream.count all k h)

  all-data : List ℕ
  all-data = data_up_to d.stream block d.stream.count

  -- the data begins with the padding's zeros
  data-zeros : take d.stream.padding all-data ≡ replicate d.stream.padding 0
  unfolding all-data
  data-zeros =
      let D : ℕ = block_data d.stream in
      let z : List ℕ = part (block 0) d.stream.hashsum_length d.stream.padding in
      sym (take-take d.stream.padding D all-data (le_of_lt s.padded))
      ∙ ap (λ (x : ℕ). take d.stream.padding (part all-data x D)) (sym (zero-mul D))
      ∙ ap (λ (t : List ℕ). take d.stream.padding t)
      (data-part d.stream block d.stream.count sized d.stream.count (omega arith) 0 s.counted)
      ∙ all_zero-eq z (rules 0 s.counted).padded
      ∙ ap (λ (n : ℕ). replicate n 0)
      (length_part (block 0) d.stream.hashsum_length d.stream.padding
      (rw (sized 0 s.counted) (let l : d.stream.padding < D = s.padded in omega arith)))

  -- and the file follows
  same-data : padded_file p ≡ all-data
  unfolding all-data
  same-data =
      let one : 0 < d.stream.count = s.counted in
      let m : ℕ = d.stream.count - 1 in
      let e : d.stream.count ≡ suc m = omega arith in
      ap₂ (λ (x y : List ℕ). x ++ y) (ap (λ (n : ℕ). replicate n 0) same-padding ∙ sym data-zeros)
      (ap (file_up_to d.stream block) e ∙ file-of-data d.stream block d.stream.count sized m (omega arith) (le_of_lt s.padded)
      ∙ ap (λ (n : ℕ). drop d.stream.padding (data_up_to d.stream block n)) (sym e))
      ∙ take-append-drop d.stream.padding all-data

  same-chunk : (k : ℕ) → k < d.stream.count → chunk p k ≡ drop d.stream.hashsum_length (block k)
  unfolding all-data
  same-chunk k h =
      ap₂ (λ (t : List ℕ) (r : ℕ). part t (k * r) r) same-data same-room
      ∙ data-part d.stream block d.stream.count sized d.stream.count (omega arith) k h

  -- block k as pack puts it together
  same_block : (k : ℕ) → k < d.stream.count → (l : List ℕ) → l ≡ hash_field d.stream (block k) → l ++ chunk p k ≡ block k
  same_block k h l e =
      ap₂ (λ (x y : List ℕ). x ++ y) e (same-chunk k h) ∙ take-append-drop d.stream.hashsum_length (block k)

  last-zeros : (k : ℕ) → suc k ≡ d.stream.count → hash_field d.stream (block k) ≡ replicate (sum_length d.stream.ids) 0
  last-zeros k e =
      all_zero-eq (hash_field d.stream (block k)) ((rules k (omega arith)).last e)
      ∙ ap (λ (n : ℕ). replicate n 0)
      (length-take d.stream.hashsum_length (block k)
      ∙ (let l : length (block k) ≡ d.stream.block_size = sized k (omega arith) in
      let a : d.stream.hashsum_length < d.stream.block_size = s.above in
      let m : min d.stream.hashsum_length (length (block k)) ≡ d.stream.hashsum_length = omega arith in
      m)
      ∙ s.hashsum)

  same-link : (j k : ℕ) → k + j ≡ d.stream.count → link p j k ≡ expected d block k
  same-link zero zero e = absurd (let one : 0 < d.stream.count = s.counted in omega arith)
  same-link zero (suc k) e = link-last p (suc k) ∙ sym (last-zeros k (omega arith))
  same-link (suc j) k e =
      link-more p j k
      ∙ ap (hashsum d.stream.ids) (same_block k (omega arith) (link p j (suc k)) (same-link j (suc k) (omega arith)))
      ∙ (rules k (omega arith)).hashed

  pub same-header : packed_header p ≡ d
  same-header = λ i.
      record {
        magic = sym s.magic i;
        stream = record {
          count = same_count i;
          block_size = d.stream.block_size;
          hashsum_length = sym s.hashsum i;
          ids = d.stream.ids;
          padding = same-padding i;
        };
        signature = d.signature;
        header_size = (ap header_size_for (sym s.hashsum) ∙ sym s.header) i;
        scheme = sym s.scheme i;
        root = (ap (λ (n : ℕ). link p n 0) same_count ∙ same-link d.stream.count 0 (omega arith)) i;
      }

  -- the blocks, where they stand one behind the other
  same_blocks : (body : List ℕ) → length body ≡ d.stream.count * d.stream.block_size
      → ((k : ℕ) → k < d.stream.count → block k ≡ part body (k * d.stream.block_size) d.stream.block_size)
      → (j k : ℕ) → k + j ≡ d.stream.count → blocks_from p j k ≡ drop (k * d.stream.block_size) body
  same_blocks body l stand zero k e =
      let f : d.stream.count ≡ k = omega arith in
      blocks-none p k ∙ sym (drop_of_length-le body (le_of_eq (l ∙ ap (λ (n : ℕ). n * d.stream.block_size) f)))
  same_blocks body l stand (suc j) k e =
      let at : ℕ = k * d.stream.block_size in
      blocks_more p j k
      ∙ ap₂ (λ (x y : List ℕ). x ++ y)
      (same_block k (omega arith) (link p j (suc k)) (same-link j (suc k) (omega arith)) ∙ stand k (omega arith))
      (same_blocks body l stand j (suc k) (omega arith) ∙ ap (λ (n : ℕ). drop n body) (suc-mul k d.stream.block_size)
      ∙ sym (drop-drop d.stream.block_size at body))
      ∙ take-append-drop d.stream.block_size (drop at body)

-- ---- the image

put_front : (s r : List ℕ) (at : ℕ) (v : List ℕ) → at + length v ≤ length s → put (s ++ r) at v ≡ put s at v ++ r
put_front s r at v h =
    ap₂ (λ (x y : List ℕ). x ++ v ++ y) (take-append-le at s r (omega arith)) (drop-append-le (at + length v) s r h)
    ∙ sym (append_assoc (take at s ++ v) (drop (at + length v) s) r)

-- an image with its reserved bytes and its signature field zero
abbrev pub cleared : List ℕ → List ℕ → List ℕ
cleared image approved =
    put (put image 30 (0 ∷ 0 ∷ [])) (length approved) (replicate (header_of approved).signature 0)

module _ (image₀ approved : List ℕ) (signature : ℕ) (bytes : Octets image₀) (a : Allowed signature (length image₀))
    (q : Passed image₀ approved signature) where
  abbrev d : Header
  d = header_of approved

  abbrev block : ℕ → List ℕ
  block = block_of image₀ d

  -- all that stands from the first block on
  abbrev body : List ℕ
  body = drop (first_block d) image₀

  body-length : length body ≡ d.stream.count * d.stream.block_size
  body-length =
      length-drop (first_block d) image₀ ∙ ap (λ (n : ℕ). n - first_block d) q.exact
      ∙ omega arith

  stand : (k : ℕ) → block k ≡ part body (k * d.stream.block_size) d.stream.block_size
  stand k =
      ap (λ (t : List ℕ). take d.stream.block_size t) (sym (drop-drop (k * d.stream.block_size) (first_block d) image₀))

  sized : (k : ℕ) → k < d.stream.count → length (block k) ≡ d.stream.block_size
  sized = whole-block image₀ approved signature q

  octets-approved : Octets approved
  octets-approved = subst Octets q.begins (octets-take (length approved) image₀ bytes)

  cleared-is : cleared image₀ approved ≡ put approved 30 (0 ∷ 0 ∷ []) ++ replicate d.signature 0 ++ body
  cleared-is =
      let h : ℕ = length approved in
      let rest : List ℕ = drop h image₀ in
      let e : 36 ≤ h = q.enough in
      let a : d.header_size ≡ h = q.sound.approved in
      let n : length image₀ ≡ image_length d = q.exact in
      ap₂ (λ (x y : List ℕ). x ++ replicate d.signature 0 ++ y)
      (ap (λ (t : List ℕ). take h (put t 30 (0 ∷ 0 ∷ [])))
      (sym (take-append-drop h image₀) ∙ ap (λ (t : List ℕ). t ++ rest) q.begins)
      ∙ ap (λ (t : List ℕ). take h t) (put_front approved rest 30 (0 ∷ 0 ∷ []) (omega arith))
      ∙ take_at (put approved 30 (0 ∷ 0 ∷ [])) rest h (length-put approved 30 (0 ∷ 0 ∷ []) (omega arith)))
      (ap (λ (x : ℕ). drop (h + x) (put image₀ 30 (0 ∷ 0 ∷ []))) (length-replicate d.signature 0)
      ∙ drop-behind-put image₀ 30 (0 ∷ 0 ∷ []) (omega arith) (h + d.signature) (omega arith)
      ∙ ap (λ (x : ℕ). drop (x + d.signature) image₀) (sym a))

  module _ (all : proved_blocks d block ≡ d.stream.count) where
    repacked : image (order_of d block) ≡ cleared image₀ approved
    unfolding image
    repacked =
        ap₂ (λ (h : Header) (t : List ℕ). header_bytes h ++ replicate d.signature 0 ++ t)
        (same-header d (length approved) signature q.sound block sized all)
        (ap (λ (n : ℕ). blocks_from (order_of d block) n 0) (same_count d (length approved) signature q.sound block sized all)
        ∙ same_blocks d (length approved) signature q.sound block sized all body body-length (λ k h. stand k) d.stream.count 0
        (omega arith)
        ∙ ap (λ (n : ℕ). drop n body) (zero-mul d.stream.block_size))
        ∙ ap (λ (h : List ℕ). h ++ replicate d.signature 0 ++ body) (written_read approved octets-approved q.enough)
        ∙ sym cleared-is

    repacked-length : image_length (packed_header (order_of d block)) ≡ length image₀
    repacked-length =
        ap image_length (same-header d (length approved) signature q.sound block sized all) ∙ sym q.exact

    pub packed-again : (output : List ℕ) → length output ≡ length image₀
        → packed (order_of d block) output ≡ record { code = 0; output = cleared image₀ approved }
    unfolding packed
    packed-again output e =
        ap (λ (c : ℕ). record { code = c; output = cond (eqb c 0) (image (order_of d block)) output })
        (packable-passes (order_of d block) (length output)
        (record {
          first = q.sound.first;
          known = q.sound.known;
          above = subst (λ (n : ℕ). n < d.stream.block_size) q.sound.hashsum q.sound.above;
          below = q.sound.below;
          filled = file-some d (length approved) signature q.sound block sized all;
          allowed = subst (λ (n : ℕ). Allowed n (image_length (packed_header (order_of d block)))) (sym q.sound.signature)
              (subst (Allowed signature) (sym repacked-length) a);
        }) (e ∙ sym repacked-length))
        ∙ ap (λ (t : List ℕ). record { code = 0; output = t }) repacked

-- ---- open done

module _ (image₀ approved : List ℕ) (signature : ℕ) (output old : List ℕ)
    (done : (opened image₀ approved signature output old).code ≡ 0) where
  abbrev h : Header
  h = header_of approved

  abbrev block_at : ℕ → List ℕ
  block_at = block_of image₀ h

  abbrev code : ℕ
  code = first_broken (open_rules image₀ approved signature (length output))

  -- nothing was broken, the record has its length, and all blocks are proved
  pub way-done : (code ≡ 0) × (length old ≡ record_length) × (proved_blocks h block_at ≡ h.stream.count)
  way-done =
      outcome-zero h block_at code output old
      (sym (ap (λ (o : Outcome). o.code) (opened-is image₀ approved signature output old)) ∙ done)

  parts : (first_broken (stream_rules image₀ approved signature) ≡ 0) × (length output ≡ file_length h.stream)
  parts = rules-passed image₀ approved signature (length output) way-done.0

  pub sound : Allowed signature (length image₀) × Passed image₀ approved signature
  sound = stream-passed image₀ approved signature parts.0

  pub file-whole : length (file_up_to h.stream block_at h.stream.count) ≡ file_length h.stream
  file-whole =
      file-length h (length approved) signature sound.1.sound block_at (whole-block image₀ approved signature sound.1) way-done.2

  output-whole : length output ≡ length (file_up_to h.stream block_at h.stream.count)
  output-whole = parts.1 ∙ sym file-whole

  -- the output is the file, and so many bytes are stored
  pub opened-done : opened image₀ approved signature output old
      ≡ given (done_answer (file_length h.stream)) (file_up_to h.stream block_at h.stream.count)
  opened-done =
      opened-is image₀ approved signature output old
      ∙ ap (λ (c : ℕ). outcome c h block_at output old) way-done.0
      ∙ outcome-done h block_at way-done.2 output old way-done.1 output-whole
      ∙ ap (λ (n : ℕ). given (done_answer n) (file_up_to h.stream block_at h.stream.count)) file-whole

  -- packed again
  pub packed-opened : Octets image₀ → (output' : List ℕ) → length output' ≡ length image₀
      → packed
      (record {
        file = (opened image₀ approved signature output old).lent;
        ids = h.stream.ids;
        block_size = h.stream.block_size;
        signature = signature;
      })
      output'
      ≡ record { code = 0; output = cleared image₀ approved }
  packed-opened bytes output' l =
      ap₂
      (λ (f : List ℕ) (n : ℕ).
      packed (record { file = f; ids = h.stream.ids; block_size = h.stream.block_size; signature = n }) output')
      (ap (λ (o : Outcome). o.lent) opened-done) (sym sound.1.sound.signature)
      ∙ packed-again image₀ approved signature bytes sound.0 sound.1 way-done.2 output' l

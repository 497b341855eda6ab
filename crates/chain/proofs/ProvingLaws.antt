-- Laws of an image that passed, by the numbers that the code has read of it: its blocks, how many are proved, and the file copied out.
use mathlib.Core.Path.{◌≡◌, refl, sym, ap, ap₂, subst, ◌∙◌}
use mathlib.Core.Bool.{not}
use mathlib.Core.List.{List, [], ◌∷◌}
use mathlib.Core.Logic.{◌≢◌}
use Prim.Native.Nat.{ℕ, suc, ◌+◌, ◌-◌, ◌*◌, ◌≤◌, ◌<◌}
use native.Mathlib.Nat.{le_of_lt, suc-mul, mul-le-mul_right}
use native.Mathlib.Numerals.{add-one}
use native.Mathlib.Omega.{arith}
use lib.Dec.{eqb}
use lib.ListN.{length, take, drop, length-append}
use Rattle.octets.specs.Parts.{put}
use Rattle.octets.proofs.PartLaws.{length_part, length-put}
use borrow.Author.Tests.{eq-eqb, ne_eqb}
use Rattle.std.specs.Prelude.{Result, Ok, Err, IsErr}
use Rattle.std.proofs.lemmas.Result.{IfOk-from_err}
use Rattle.answers.specs.Answers.{refused, told, stop_at, record_length}
use Rattle.answers.specs.Codes.{number, code_of}
use Rattle.answers.specs.Rules.{Rule, rule, first_broken}
use Rattle.answers.specs.declared.Answer.{Answer}
use Rattle.answers.specs.declared.Stop.{Stop}
use Rattle.answers.specs.declared.codes.Refusal.{Refusal}
use Rattle.answers.proofs.ChoiceLaws.{cond_cases, cond-eq, cond-ne}
use Rattle.answers.proofs.RefusalLaws.{number-positive}
use Rattle.answers.proofs.RuleLaws.{goes_on as rules-go_on}
use Rattle.answers.proofs.OutcomeLaws.{given, unwritten, answered-given, answered-unwritten}
use Rattle.chain.specs.Blocks.{block_of, block_rules, block_code, expected, padding_of, file_bytes, file_up_to}
use Rattle.chain.specs.Blocks.{proved, proved_blocks, blocks_stop, bad_block}
use Rattle.chain.specs.Code.{stream_of}
use Rattle.chain.specs.ContractWords.{Sized, block_at, proved_of, Answered, OpensTo}
use Rattle.chain.specs.Header.{Header, Stream, header_of, file_length, stream_rules}
use Rattle.chain.specs.Images.{approved_header, block_in}
use Rattle.chain.specs.Open.{open_rules, open_answer, proved_file, opened}
use Rattle.chain.specs.declared.blocks.ProvedBlocks.{ProvedBlocks}
use Rattle.chain.specs.declared.blocks.Image.{Image}
use Rattle.chain.proofs.BlockLaws.{goes_on, stops, proved-le, file-none, file-more, put-more, first-part-fits}
use Rattle.chain.proofs.HeaderLaws.{Passed, passed}
use Rattle.chain.proofs.PassLaws.{block_within, length-block, expected-before}

-- ---- an image that passed, by the numbers read from its header

padding-most : (s : Stream) (k : ℕ) → padding_of s k ≤ s.padding
padding-most s k = cond_cases (λ (n : ℕ). n ≤ s.padding) (eqb k 0) s.padding 0 (λ e. omega arith) (λ e. omega arith)

-- of any bytes that so many blocks lie in
module _ (image : List ℕ) (first : ℕ) (s : Stream) (fits : first + s.count * s.block_size ≤ length image) (k : ℕ) (h : k < s.count) where
  pub block-fits-at : first + k * s.block_size + s.block_size ≤ length image
  block-fits-at = omega (arith, mul-le-mul_right s.block_size h, suc-mul k s.block_size)

  length-block-at : length (block_at image first s.block_size k) ≡ s.block_size
  length-block-at = length_part image (first + k * s.block_size) s.block_size block-fits-at

  -- hash field and padding lie in a block
  pub data-fits-at : Sized s → {b : List ℕ} → b ≡ block_at image first s.block_size k → s.hashsum_length + padding_of s k ≤ length b
  data-fits-at z e = omega (arith, ap length e, length-block-at, padding-most s k, z.above, z.padded)

module _ (i : Image) where
  abbrev d : Header
  d = approved_header i

  passing : Passed i.bytes.now i.approved.now d.signature
  passing = passed i.bytes.now i.approved.now d.signature i.passes

  pub enough : 36 ≤ length i.approved.now
  enough = passing.enough

  sized-own : Sized d.stream
  sized-own = record { above = passing.sound.above; padded = passing.sound.padded; counted = passing.sound.counted }

  pub sized : Sized (stream_of i.stream)
  sized = subst Sized (sym i.numbers) sized-own

  pub image-fits : i.first + i.stream.count * i.stream.block_size ≤ length i.bytes.now
  image-fits =
      subst (λ (t : Stream). i.first + t.count * t.block_size ≤ length i.bytes.now) (sym i.numbers) (omega (arith, i.offset, passing.exact))

  pub count-is : i.stream.count ≡ d.stream.count
  count-is = ap (λ (t : Stream). t.count) i.numbers

  -- the blocks at the offset are the image's
  pub blocks-are : block_at i.bytes.now i.first i.stream.block_size ≡ block_in i
  blocks-are = ap₂ (λ (n : ℕ) (t : Stream). block_at i.bytes.now n t.block_size) i.offset i.numbers

  -- so are the file's bytes in one of them
  pub bytes-are : (k : ℕ) (b : List ℕ) → b ≡ block_at i.bytes.now i.first i.stream.block_size k
      → file_bytes (stream_of i.stream) k b ≡ file_bytes d.stream k (block_in i k)
  bytes-are k b g =
      ap₂ (λ (t : Stream) (c : List ℕ). file_bytes t k c) i.numbers (g ∙ ap (λ (block : ℕ → List ℕ). block k) blocks-are)

  -- judged by these numbers, a block gets its code
  pub code_is : (k r : ℕ) (x b : List ℕ) → r ≡ first_broken (block_rules (stream_of i.stream) k x b) → x ≡ expected d (block_in i) k
      → b ≡ block_at i.bytes.now i.first i.stream.block_size k → r ≡ block_code d (block_in i) k
  code_is k r x b e f g =
      e
      ∙ ap (λ (t : Stream). first_broken (block_rules t k x b)) i.numbers
      ∙ ap₂ (λ (y c : List ℕ). first_broken (block_rules d.stream k y c)) f (g ∙ ap (λ (block : ℕ → List ℕ). block k) blocks-are)

  -- one of its blocks
  module _ (k : ℕ) (h : k < i.stream.count) where
    there : k < d.stream.count
    there = subst (λ (n : ℕ). k < n) count-is h

    pub block-fits : i.first + k * i.stream.block_size + i.stream.block_size ≤ length i.bytes.now
    block-fits =
        subst (λ (t : Stream). i.first + k * t.block_size + t.block_size ≤ length i.bytes.now) (sym i.numbers)
        (omega (arith, i.offset, block_within i.bytes.now i.approved.now k (i.passes, there)))

    pub block-length : length (block_in i k) ≡ i.stream.block_size
    block-length = length-block i.bytes.now i.approved.now k (i.passes, there) ∙ ap (λ (t : Stream). t.block_size) (sym i.numbers)

    -- hash field and padding lie in it
    pub data-fits : i.stream.hashsum_length + padding_of (stream_of i.stream) k ≤ length (block_in i k)
    data-fits = omega (arith, block-length, padding-most (stream_of i.stream) k, sized.above, sized.padded)

  -- what a block is judged by: the root hash, or behind the first one the hash field of the block before
  pub first-expected : (k : ℕ) → k ≡ 0 → drop 36 i.approved.now ≡ expected d (block_in i) k
  first-expected k z = ap (λ (n : ℕ). expected d (block_in i) n) (sym z)

  pub field-before : (k : ℕ) → k ≢ 0 → take i.stream.hashsum_length (block_in i (k - 1)) ≡ expected d (block_in i) k
  field-before k z =
      ap (λ (t : Stream). take t.hashsum_length (block_in i (k - 1))) i.numbers ∙ sym (expected-before d (block_in i) k z)

-- ---- how many are proved, block by block

module _ (d : Header) (block : ℕ → List ℕ) where
  tells : {m : ℕ} {t : Stop} → m ≡ proved_blocks d block → t ≡ blocks_stop d block m → record { count = m; stop = t } ≡ proved_of d block
  tells {m} {t} e f = λ i. record { count = e i; stop = (f ∙ ap (blocks_stop d block) e) i }

  pub none-proved : proved d block 0 ≡ 0
  none-proved = omega (arith, proved-le d block 0)

  module _ (k : ℕ) (all : proved d block k ≡ k) where
    -- no block is left
    pub all-proved : k ≡ d.stream.count → {t : Stop} → t ≡ stop_at 0 0 → record { count = k; stop = t } ≡ proved_of d block
    all-proved n e =
        tells (sym (ap (proved d block) (sym n) ∙ all)) (e ∙ sym (cond-eq k d.stream.count (stop_at 0 0) (bad_block d block k) n))

    -- the next one is bad
    pub next-refused : k < d.stream.count → {code : ℕ} → code ≡ block_code d block k → code ≢ 0 → {t : Stop} → t ≡ stop_at code (k + 1)
        → record { count = k; stop = t } ≡ proved_of d block
    next-refused h e n f =
        tells (sym (stops d block k d.stream.count h all (λ z. n (e ∙ z))))
        (f ∙ ap₂ stop_at e (add-one k) ∙ sym (cond-ne k d.stream.count (stop_at 0 0) (bad_block d block k) (λ z. omega arith)))

    pub next-bad : k < d.stream.count → (why : Refusal) → number why ≡ block_code d block k → {t : Stop} → t ≡ stop_at (number why) (k + 1)
        → record { count = k; stop = t } ≡ proved_of d block
    next-bad h why e f = next-refused h e (λ z. let p = number-positive why in omega arith) f

    -- or proved
    pub next-proved : 0 ≡ block_code d block k → proved d block (k + 1) ≡ k + 1
    next-proved z = ap (proved d block) (add-one k) ∙ goes_on d block k all (sym z) ∙ sym (add-one k)

-- ---- the file copied out, block by block

-- the file's bytes in the first k blocks stand at the front of the output
pub record Copied (i : Image) (before : List ℕ) (k at : ℕ) (output : List ℕ) : Type 0 where
  pub stored : at ≡ length (file_up_to (d i).stream (block_in i) k)
  pub copied : output ≡ put before 0 (file_up_to (d i).stream (block_in i) k)

pub copied_none : (i : Image) (before : List ℕ) → Copied i before 0 0 before
copied_none i before =
    let none = file-none (d i).stream (block_in i) in
    record { stored = sym (ap length none); copied = sym (ap (λ (f : List ℕ). put before 0 f) none) }

module _ {i : Image} {before output : List ℕ} {k at : ℕ} (exact : length before ≡ file_length (d i).stream)
    (c : Copied i before k at output) where
  abbrev file : ℕ → List ℕ
  file = file_up_to (d i).stream (block_in i)

  first_fits : (n : ℕ) → n ≤ (d i).stream.count → length (file n) ≤ length before
  first_fits n h =
      omega (
        arith,
        exact,
        first-part-fits (d i).stream (block_in i) n h (λ m l. length-block i.bytes.now i.approved.now m (i.passes, l))
            (le_of_lt (passing i).sound.padded),
      )

  pub copied-whole : k ≤ (d i).stream.count → length output ≡ length before
  copied-whole h = ap length c.copied ∙ length-put before 0 (file k) (omega (arith, first_fits k h))

  module _ (h : k < i.stream.count) where
    on : k < (d i).stream.count
    on = there i k h

    abbrev block : List ℕ
    block = file_bytes (d i).stream k (block_in i k)

    pub copied-length : length output ≡ length before
    copied-length = copied-whole (le_of_lt on)

    module _ {bytes : List ℕ} (f : bytes ≡ block) where
      more : at + length bytes ≡ length (file (suc k))
      more =
          ap₂ (λ (x y : ℕ). x + y) c.stored (ap length f)
          ∙ sym (ap length (file-more (d i).stream (block_in i) k) ∙ length-append (file k) block)

      -- the next block's bytes fit behind the others
      pub copy-fits : at + length bytes ≤ length output
      copy-fits = omega (arith, more, first_fits (suc k) on, copied-length)

      pub copied_more : {after : List ℕ} → after ≡ put output at bytes → Copied i before (k + 1) (at + length bytes) after
      copied_more g =
          record {
            stored = more ∙ ap (λ (n : ℕ). length (file n)) (sym (add-one k));
            copied = g
                ∙ ap₂ (λ (o b : List ℕ). put o at b) c.copied f
                ∙ ap (λ (n : ℕ). put (put before 0 (file k)) n block) c.stored
                ∙ put-more (d i).stream (block_in i) before k (first_fits (suc k) on)
                ∙ ap (λ (n : ℕ). put before 0 (file n)) (sym (add-one k));
          }

-- ---- open's answer, and its outcome

code-err : {A : Type 0} (r : Result A Refusal) → IsErr r → code_of r ≢ 0
code-err (Ok a) h z = cc
code-err (Err why) h z = let p = number-positive why in omega arith

module _ (image approved : List ℕ) (signature : ℕ) (before : List ℕ) where
  abbrev early : ℕ
  early = first_broken (open_rules image approved signature (length before))

  abbrev blocks : ℕ → List ℕ
  blocks = block_of image (header_of approved)

  abbrev pub exactly : List Rule
  exactly = rule 29 (not (eqb (length before) (file_length (header_of approved).stream))) ∷ []

  -- refused before any block
  pub answered-refused : (code : ℕ) {a : Answer} → code ≡ early → code ≢ 0 → a ≡ refused code
      → Answered early (header_of approved) blocks before a before
  answered-refused code e n f =
      record {
        answer = f ∙ ap refused e ∙ sym (cond-ne early 0 (open_answer (header_of approved) blocks) (refused early) (λ z. n (e ∙ z)));
        copied = sym (ap (λ (t : List ℕ). put before 0 t) (cond-ne early 0 (proved_file (header_of approved) blocks) [] (λ z. n (e ∙ z))));
      }

  pub opens-refused : (r : Result Answer Refusal) → IsErr r → code_of r ≡ early → OpensTo early (header_of approved) blocks before r before
  opens-refused r h e =
      let n : early ≢ 0 = (λ z. code-err r h (e ∙ z)) in
      record {
        code = e;
        answer = IfOk-from_err r _ h;
        copied = sym (ap (λ (t : List ℕ). put before 0 t) (cond-ne early 0 (proved_file (header_of approved) blocks) [] n));
      }

  -- or the file copied as far as the blocks are proved
  module _ (i : Image) (e : i.bytes.now ≡ image) (f : i.approved.now ≡ approved) where
    header-is : approved_header i ≡ header_of approved
    header-is = ap header_of f

    block-same : block_in i ≡ blocks
    block-same = ap₂ (λ (b : List ℕ) (h : List ℕ). block_of b (header_of h)) e f

    file-length-is : {n : ℕ} → n ≡ file_length (stream_of i.stream) → n ≡ file_length (header_of approved).stream
    file-length-is h = h ∙ ap file_length i.numbers ∙ ap (λ (d : Header). file_length d.stream) header-is

    pub length-broken : {n : ℕ} → n ≡ file_length (stream_of i.stream) → first_broken (stream_rules image approved signature) ≡ 0
        → (length before ≡ n → ⊥) → early ≡ 29
    length-broken h z n =
        rules-go_on (stream_rules image approved signature) exactly 0 tt (sym z) refl ∙ simp (ne_eqb _ _ (λ q. n (q ∙ sym (file-length-is h))))

    pub none-broken : {n : ℕ} → n ≡ file_length (stream_of i.stream) → first_broken (stream_rules image approved signature) ≡ 0
        → length before ≡ n → early ≡ 0
    none-broken h z q =
        rules-go_on (stream_rules image approved signature) exactly 0 tt (sym z) refl ∙ simp (eq-eqb _ _ (q ∙ file-length-is h))

    pub opens-proved : early ≡ 0 → {p : ProvedBlocks} → p ≡ proved_of (approved_header i) (block_in i) → (stored : ℕ) (after : List ℕ) {a : Answer}
        → after ≡ put before 0 (file_up_to (approved_header i).stream (block_in i) p.count)
        → stored ≡ length (file_up_to (approved_header i).stream (block_in i) p.count) → a ≡ told p.stop 0 stored 0
        → OpensTo early (header_of approved) blocks before (Ok a) after
    opens-proved z {p} q stored after {a} c l g =
        let d : Header = header_of approved in
        let m : p ≡ proved_of d blocks = q ∙ ap₂ proved_of header-is block-same in
        let file-is : file_up_to (approved_header i).stream (block_in i) p.count ≡ proved_file d blocks =
        ap₂ (λ (h : Header) (b : ℕ → List ℕ). file_up_to h.stream b p.count) header-is block-same
        ∙ ap (λ (x : ProvedBlocks). file_up_to d.stream blocks x.count) m in
        record {
          code = sym z;
          answer = g ∙ ap₂ (λ (x : ProvedBlocks) (k : ℕ). told x.stop 0 k 0) m (l ∙ ap length file-is);
          copied = c ∙ ap (λ (t : List ℕ). put before 0 t) (file-is ∙ sym (cond-eq early 0 (proved_file d blocks) [] z));
        }

    pub answered-proved : early ≡ 0 → {p : ProvedBlocks} → p ≡ proved_of (approved_header i) (block_in i) → (stored : ℕ) (after : List ℕ) {a : Answer}
        → after ≡ put before 0 (file_up_to (approved_header i).stream (block_in i) p.count)
        → stored ≡ length (file_up_to (approved_header i).stream (block_in i) p.count) → a ≡ told p.stop 0 stored 0
        → Answered early (header_of approved) blocks before a after
    answered-proved z q stored after c l g =
        let o = opens-proved z q stored after c l g in
        record {
          answer = o.answer ∙ sym (cond-eq early 0 (open_answer (header_of approved) blocks) (refused early) z);
          copied = o.copied;
        }

  module _ (old : List ℕ) where
    pub opened-unwritten : length old ≢ record_length → opened image approved signature before old ≡ unwritten old before
    unfolding opened
    opened-unwritten n = answered-unwritten old _ before _ n

    pub opened-given : length old ≡ record_length → {a : Answer} {after : List ℕ} → Answered early (header_of approved) blocks before a after
        → opened image approved signature before old ≡ given a after
    unfolding opened
    opened-given h q = answered-given old _ before _ h ∙ sym (ap₂ given q.answer q.copied)

-- Laws of open: its outcome by its header and blocks alone, where it is done, and where two images get the same.
use mathlib.Core.Path.{◌≡◌, refl, sym, ap, ap₂, fun_ext, ◌∙◌}
use mathlib.Core.Bool.{Bool, true, false, not}
use mathlib.Core.List.{List, [], ◌∷◌, ◌++◌, append-nil}
use mathlib.Core.Logic.{◌≢◌}
use Prim.Native.Nat.{ℕ, suc, ◌+◌, ◌-◌, ◌*◌, ◌≤◌, ◌<◌}
use native.Mathlib.Nat.{zero-add, le_of_eq}
use native.Mathlib.Omega.{arith}
use borrow.Author.Tests.{eqb-true, eqb-false, ltb-true, ltb-false, not-false}
use lib.Dec.{eqb, ltb}
use lib.ListN.{length, get_or, take, drop, length-take, drop_of_length-le}
use lib.Seq.{drop-drop, take-take, get_or-take, get_or-drop, ext_get_or}
use Rattle.octets.specs.Numbers.{little}
use Rattle.octets.specs.Parts.{part, put, same}
use Rattle.octets.proofs.PartLaws.{part-of-take, part-put, part-before-put, drop-behind-put, length-put}
use Rattle.octets.proofs.TestLaws.{same-eq, eq-same}
use Rattle.answers.specs.Answers.{Outcome, answered, answer_after, written_after, refused, told, stop_at, record_length}
use Rattle.answers.specs.Rules.{Rule, rule, first_broken, signature_rules, size_rules}
use Rattle.answers.specs.declared.Answer.{Answer}
use Rattle.answers.specs.declared.Stop.{Stop}
use Rattle.answers.proofs.ChoiceLaws.{cond_cases, cond-eq, cond-ne}
use Rattle.answers.proofs.OutcomeLaws.{given, answered-cases, after-cases, concluded-done}
use Rattle.answers.proofs.RuleLaws.{both_hold, zero-all-hold}
use Rattle.chain.specs.Blocks.{block_of, block_code, proved_blocks, file_up_to}
use Rattle.chain.specs.Header.{Header, header_of, header_size_for, file_length, first_block, image_length}
use Rattle.chain.specs.Header.{field_rules, image_rules, stream_rules}
use Rattle.chain.specs.Open.{open_rules, open_answer, proved_file, opened}
use Rattle.chain.proofs.BlockLaws.{proved-le, fails}
use Rattle.chain.proofs.HeaderLaws.{Passed, stream-passed}

-- ---- by header and blocks alone

-- what open does by its code so far, its header and its blocks
unfoldable pub outcome : ℕ → Header → (ℕ → List ℕ) → List ℕ → List ℕ → Outcome
outcome early d block output old =
    answered old (answer_after early (open_answer d block)) output (put output 0 (written_after early (proved_file d block)))

module _ (image approved : List ℕ) (signature : ℕ) (output old : List ℕ) where
  pub opened-is : opened image approved signature output old
      ≡ outcome (first_broken (open_rules image approved signature (length output))) (header_of approved)
      (block_of image (header_of approved)) output old
  unfolding opened outcome
  opened-is = refl

-- 29
abbrev pub length_rule : ℕ → Header → List Rule
length_rule output d = rule 29 (not (eqb output (file_length d.stream))) ∷ []

-- where none of its rules is broken 1 to 12 are passed, and the output has the file's length
pub rules-passed : (image approved : List ℕ) (signature output : ℕ) → first_broken (open_rules image approved signature output) ≡ 0
    → (first_broken (stream_rules image approved signature) ≡ 0) × (output ≡ file_length (header_of approved).stream)
rules-passed image approved signature output e =
    let d : Header = header_of approved in
    let h = both_hold (stream_rules image approved signature) (length_rule output d) tt e in
    (h.0, eqb-true output (file_length d.stream) (not-false _ (zero-all-hold (length_rule output d) tt h.1).0))

-- ---- the three ways that open goes

pub data Way (early : ℕ) (d : Header) (block : ℕ → List ℕ) (output old : List ℕ) (o : Outcome) : Type 0 where
  -- the record is of another length
  unwritten : length old ≢ record_length → o ≡ record { code = 1; answer = old; lent = output } → Way early d block output old o
  -- refused before any block
  refusing : length old ≡ record_length → early ≢ 0 → o ≡ given (refused early) output → Way early d block output old o
  -- the blocks are looked at
  proving : length old ≡ record_length → early ≡ 0 → o ≡ given (open_answer d block) (put output 0 (proved_file d block))
      → Way early d block output old o

pub way : (early : ℕ) (d : Header) (block : ℕ → List ℕ) (output old : List ℕ)
    → Way early d block output old (outcome early d block output old)
unfolding outcome
way early d block output old =
    answered-cases old (answer_after early (open_answer d block)) output (put output 0 (written_after early (proved_file d block)))
    (Way early d block output old)
    (λ h. after-cases early (open_answer d block) (proved_file d block)
    (λ (a : Answer) (file : List ℕ). Way early d block output old (given a (put output 0 file))) (λ e. proving h e refl)
    (λ n. refusing h n refl))
    (λ n. unwritten n refl)

-- an early refusal sees no block, so streams that are the same where nothing is broken get the same
pub outcome-blocks : (early : ℕ) (d : Header) (block block' : ℕ → List ℕ) (output old : List ℕ)
    → (early ≡ 0 → block ≡ block') → outcome early d block output old ≡ outcome early d block' output old
unfolding outcome
outcome-blocks early d block block' output old f = go (eqb early 0) refl
  where
    sees-none : (b : ℕ → List ℕ) → early ≢ 0 → outcome early d b output old ≡ answered old (refused early) output output
    sees-none b n =
        ap₂ (λ (a : Answer) (xs : List ℕ). answered old a output (put output 0 xs))
        (cond-ne early 0 (open_answer d b) (refused early) n) (cond-ne early 0 (proved_file d b) [] n)

    go : (t : Bool) → eqb early 0 ≡ t → outcome early d block output old ≡ outcome early d block' output old
    go true e = ap (λ (b : ℕ → List ℕ). outcome early d b output old) (f (eqb-true early 0 e))
    go false e =
        let n : early ≢ 0 = eqb-false early 0 e in
        sees-none block n ∙ sym (sees-none block' n)

-- ---- all done

-- bytes put over all that is there
pub put_all : (s v : List ℕ) → length s ≡ length v → put s 0 v ≡ v
put_all s v e =
    ap (λ (t : List ℕ). v ++ t) (drop_of_length-le s (le_of_eq (e ∙ sym (zero-add (length v))))) ∙ append-nil v

-- the answer of open where so many bytes are copied out and all is done
abbrev pub done_answer : ℕ → Answer
done_answer stored = told (stop_at 0 0) 0 stored 0

module _ (d : Header) (block : ℕ → List ℕ) where
  -- the whole file
  abbrev file : List ℕ
  file = file_up_to d.stream block d.stream.count

  abbrev m : ℕ
  m = proved_blocks d block

  module _ (all : proved_blocks d block ≡ d.stream.count) where
    all-file : proved_file d block ≡ file
    all-file = ap (file_up_to d.stream block) all

    answer-done : open_answer d block ≡ done_answer (length file)
    answer-done =
        ap₂ (λ (s : Stop) (f : List ℕ). told s 0 (length f) 0)
        (cond-eq (proved_blocks d block) d.stream.count (stop_at 0 0) (stop_at (block_code d block m) (suc m)) all)
        all-file

    pub outcome-done : (output old : List ℕ) → length old ≡ record_length → length output ≡ length file
        → outcome 0 d block output old ≡ given (done_answer (length file)) file
    unfolding outcome
    outcome-done output old h l =
        concluded-done 0 (open_answer d block) (proved_file d block) (λ (f : List ℕ). put output 0 f) old output h refl
        ∙ ap₂ given answer-done (ap (λ (f : List ℕ). put output 0 f) all-file ∙ put_all output file l)

  -- where the blocks are looked at, 0 only where all are proved
  all-proved : (open_answer d block).code ≡ 0 → proved_blocks d block ≡ d.stream.count
  all-proved =
      cond_cases (λ (s : Stop). s.code ≡ 0 → m ≡ d.stream.count) (eqb m d.stream.count) (stop_at 0 0)
      (stop_at (block_code d block m) (suc m))
      (λ p z. eqb-true m d.stream.count p)
      (λ p z. let ne : (m ≡ d.stream.count → ⊥) = eqb-false m d.stream.count p in
      absurd (fails d block d.stream.count (omega (arith, proved-le d block d.stream.count)) z))

  -- 0 only where nothing is broken and all blocks are proved
  pub outcome-zero : (early : ℕ) (output old : List ℕ) → (outcome early d block output old).code ≡ 0
      → (early ≡ 0) × (length old ≡ record_length) × (proved_blocks d block ≡ d.stream.count)
  outcome-zero early output old e = go (way early d block output old)
    where
      go : Way early d block output old (outcome early d block output old)
          → (early ≡ 0) × (length old ≡ record_length) × (proved_blocks d block ≡ d.stream.count)
      go (unwritten h q) = absurd (let z : ◌≡◌ {A = ℕ} 1 0 = ap (λ (o : Outcome). o.code) (sym q) ∙ e in omega arith)
      go (refusing h c q) = absurd (c (ap (λ (o : Outcome). o.code) (sym q) ∙ e))
      go (proving h c q) = (c, h, all-proved (ap (λ (o : Outcome). o.code) (sym q) ∙ e))

-- ---- images that differ only in their signature fields

-- images with the same bytes from the first block on have the same blocks
pub blocks-same : (d : Header) (image image' : List ℕ) → drop (first_block d) image ≡ drop (first_block d) image'
    → block_of image d ≡ block_of image' d
blocks-same d image image' e =
    fun_ext
    (λ (k : ℕ). ap (λ (t : List ℕ). take d.stream.block_size t)
    (sym (drop-drop (k * d.stream.block_size) (first_block d) image)
    ∙ ap (λ (t : List ℕ). drop (k * d.stream.block_size) t) e
    ∙ drop-drop (k * d.stream.block_size) (first_block d) image'))

-- 4 to 12 see two lengths, whether the image begins with the approved header, and the fields
abbrev rules_by : ℕ → ℕ → Bool → Header → ℕ → List Rule
rules_by size approved_length begins d signature =
    rule 4 (ltb approved_length 36)
    ∷ rule 4 (not begins)
    ∷ field_rules d approved_length signature
    ++ rule 12 (not (eqb size (image_length d)))
    ∷ []

pub image-rules-same : (image image' approved : List ℕ) (signature : ℕ) → length image ≡ length image'
    → take (length approved) image ≡ take (length approved) image'
    → image_rules image approved signature ≡ image_rules image' approved signature
image-rules-same image image' approved signature =
    ap₂ (λ (n : ℕ) (t : List ℕ). rules_by n (length approved) (same t approved) (header_of approved) signature)

-- 1 sees the image's length
pub stream-rules-same : (image image' approved approved' : List ℕ) (signature : ℕ) → length image ≡ length image'
    → image_rules image approved signature ≡ image_rules image' approved' signature
    → stream_rules image approved signature ≡ stream_rules image' approved' signature
stream-rules-same image image' approved approved' signature =
    ap₂ (λ (n : ℕ) (rs : List Rule). signature_rules signature ++ size_rules n ++ rs)

-- two lists of one length, the same but for n bytes at an offset
pub record SameBut (at n : ℕ) (s t : List ℕ) : Type 0 where
  pub size : length s ≡ length t
  pub front : take at s ≡ take at t
  pub rest : drop (at + n) s ≡ drop (at + n) t

-- two images that differ only in a signature field of so many bytes behind a header of so many
abbrev pub ButSignature : ℕ → ℕ → List ℕ → List ℕ → Type 0
ButSignature header signature image image' = SameBut header signature image image'

-- two images of one length that begin alike, and where 1 and 4 to 12 are passed are alike from the first block on
pub record Alike (approved : List ℕ) (signature : ℕ) (image image' : List ℕ) : Type 0 where
  pub size : length image ≡ length image'
  pub front : take (length approved) image ≡ take (length approved) image'
  pub rest : first_broken (stream_rules image approved signature) ≡ 0
      → drop (first_block (header_of approved)) image ≡ drop (first_block (header_of approved)) image'

-- a part of the header that an image begins with is a part of the image
begun-part : (image approved : List ℕ) → take (length approved) image ≡ approved
    → (at n : ℕ) → at + n ≤ length approved → part approved at n ≡ part image at n
begun-part image approved e at n h =
    part-of-take approved at n
    ∙ ap (λ (t : List ℕ). drop at t)
    (ap (λ (t : List ℕ). take (at + n) t) (sym e) ∙ take-take (at + n) (length approved) image h)
    ∙ sym (part-of-take image at n)

module _ (image image' approved : List ℕ) (signature : ℕ) where
  -- where they are passed the field begins behind the approved header
  pub but-signature-alike : ButSignature (length approved) (header_of approved).signature image image'
      → Alike approved signature image image'
  but-signature-alike b =
      record {
        size = b.size;
        front = b.front;
        rest = λ e.
            let n : (header_of approved).header_size ≡ length approved = (stream-passed image approved signature e).1.sound.approved in
            ap (λ (h : ℕ). drop (h + (header_of approved).signature) image) n ∙ b.rest
            ∙ sym (ap (λ (h : ℕ). drop (h + (header_of approved).signature) image') n);
      }

  -- so it does where the image's own header ends, of which not more is approved
  pub own-signature-alike : SameBut (header_of image).header_size (header_of image).signature image image'
      → length approved ≤ (header_of image).header_size → Alike approved signature image image'
  own-signature-alike b h =
      record {
        size = b.size;
        front = sym (take-take (length approved) (header_of image).header_size image h)
            ∙ ap (λ (t : List ℕ). take (length approved) t) b.front
            ∙ take-take (length approved) (header_of image).header_size image' h;
        rest = λ e.
            let f : first_block (header_of approved) ≡ first_block (header_of image) =
            own_first (stream-passed image approved signature e).1 in
            ap (λ (n : ℕ). drop n image) f ∙ b.rest ∙ sym (ap (λ (n : ℕ). drop n image') f);
      }
    where
      own_first : Passed image approved signature → first_block (header_of approved) ≡ first_block (header_of image)
      own_first q =
          let n : 36 ≤ length approved = q.enough in
          ap₂ (λ (x y : List ℕ). little x + little y) (begun-part image approved q.begins 16 2 (omega arith))
          (begun-part image approved q.begins 12 4 (omega arith))

  pub opened-same : (output old : List ℕ) → Alike approved signature image image'
      → opened image approved signature output old ≡ opened image' approved signature output old
  opened-same output old b =
      let d : Header = header_of approved in
      let early : ℕ = first_broken (open_rules image approved signature (length output)) in
      opened-is image approved signature output old
      ∙ outcome-blocks early d (block_of image d) (block_of image' d) output old
      (λ e. blocks-same d image image' (b.rest (rules-passed image approved signature (length output) e).0))
      ∙ ap (λ (rs : List Rule). outcome (first_broken (rs ++ length_rule (length output) d)) d (block_of image' d) output old)
      (stream-rules-same image image' approved approved signature b.size
      (image-rules-same image image' approved signature b.size b.front))
      ∙ sym (opened-is image' approved signature output old)

-- ---- images whose headers differ only in their reserved bytes

-- index by index
module _ (at : ℕ) (s t : List ℕ) where
  before_at : take at s ≡ take at t → (j : ℕ) → j < at → get_or s j 0 ≡ get_or t j 0
  before_at e j h = sym (get_or-take at s j 0 h) ∙ ap (λ (l : List ℕ). get_or l j 0) e ∙ get_or-take at t j 0 h

  behind-at : drop at s ≡ drop at t → (j : ℕ) → at ≤ j → get_or s j 0 ≡ get_or t j 0
  behind-at e j h =
      let k : ℕ = j - at in
      let f : at + k ≡ j = omega arith in
      ap (λ (x : ℕ). get_or s x 0) (sym f) ∙ sym (get_or-drop at s k 0) ∙ ap (λ (l : List ℕ). get_or l k 0) e ∙ get_or-drop at t k 0
      ∙ ap (λ (x : ℕ). get_or t x 0) f

  within-at : (n : ℕ) → part s at n ≡ part t at n → (j : ℕ) → at ≤ j → j < at + n → get_or s j 0 ≡ get_or t j 0
  within-at n e j h l =
      let k : ℕ = j - at in
      let f : at + k ≡ j = omega arith in
      let b : k < n = omega arith in
      ap (λ (x : ℕ). get_or s x 0) (sym f) ∙ sym (get_or-take n (drop at s) k 0 b ∙ get_or-drop at s k 0) ∙ ap (λ (x : List ℕ). get_or x k 0) e
      ∙ get_or-take n (drop at t) k 0 b ∙ get_or-drop at t k 0 ∙ ap (λ (x : ℕ). get_or t x 0) f

turned : (at n : ℕ) (s t : List ℕ) → SameBut at n s t → SameBut at n t s
turned at n s t b = record { size = sym b.size; front = sym b.front; rest = sym b.rest }

-- an image begins with its header also where both have other bytes at one place
begins-alike : (at n : ℕ) (image image' approved approved' : List ℕ) → SameBut at n image image' → SameBut at n approved approved'
    → part image' at n ≡ part approved' at n → take (length approved) image ≡ approved → take (length approved') image' ≡ approved'
begins-alike at n image image' approved approved' b c own e =
    ext_get_or 0 (take (length approved') image') approved' whole (λ j h. each j (omega (arith, whole)))
  where
    whole : length (take (length approved') image') ≡ length approved'
    whole =
        length-take (length approved') image'
        ∙ omega (arith, length-take (length approved) image, ap length e, b.size, c.size)

    each : (j : ℕ) → j < length approved' → get_or (take (length approved') image') j 0 ≡ get_or approved' j 0
    each j h = get_or-take (length approved') image' j 0 h ∙ go (ltb j at) (ltb j (at + n)) refl refl
      where
        stands : get_or image j 0 ≡ get_or approved j 0
        stands =
            sym (get_or-take (length approved) image j 0 (omega (arith, c.size))) ∙ ap (λ (l : List ℕ). get_or l j 0) e

        go : (x y : Bool) → ltb j at ≡ x → ltb j (at + n) ≡ y → get_or image' j 0 ≡ get_or approved' j 0
        go true y p q =
            let l : j < at = ltb-true j at p in
            sym (before_at at image image' b.front j l) ∙ stands ∙ before_at at approved approved' c.front j l
        go false true p q =
            within-at at image' approved' n own j (ltb-false j at p) (ltb-true j (at + n) q)
        go false false p q =
            let l : at + n ≤ j = ltb-false j (at + n) q in
            sym (behind-at (at + n) image image' b.rest j l) ∙ stands ∙ behind-at (at + n) approved approved' c.rest j l

same_alike : (a b a' b' : List ℕ) → (a ≡ b → a' ≡ b') → (a' ≡ b' → a ≡ b) → same a b ≡ same a' b'
same_alike a b a' b' f g = go (same a b) (same a' b') refl refl
  where
    go : (x y : Bool) → same a b ≡ x → same a' b' ≡ y → same a b ≡ same a' b'
    go true y p q = p ∙ sym (eq-same a' b' (f (same-eq a b p)))
    go false true p q = eq-same a b (g (same-eq a' b' q)) ∙ sym q
    go false false p q = p ∙ sym q

-- two images with their approved headers, the same but for the reserved bytes, which stand in image and approved header alike
pub record ButReserved (image approved image' approved' : List ℕ) : Type 0 where
  pub images : SameBut 30 2 image image'
  pub headers : SameBut 30 2 approved approved'
  pub own : part image 30 2 ≡ part approved 30 2
  pub own' : part image' 30 2 ≡ part approved' 30 2

module _ (image approved image' approved' : List ℕ) (b : ButReserved image approved image' approved') where
  field-same : (at n : ℕ) → at + n ≤ 30 → part approved at n ≡ part approved' at n
  field-same at n h =
      part-of-take approved at n
      ∙ ap (λ (t : List ℕ). drop at t)
      (sym (take-take (at + n) 30 approved h) ∙ ap (λ (t : List ℕ). take (at + n) t) b.headers.front
      ∙ take-take (at + n) 30 approved' h)
      ∙ sym (part-of-take approved' at n)

  -- they say the same,
  pub reserved-header : header_of approved ≡ header_of approved'
  reserved-header = λ i.
      record {
        magic = little (field-same 0 4 (omega arith) i);
        stream = record {
          count = little (field-same 4 4 (omega arith) i);
          block_size = little (field-same 8 4 (omega arith) i);
          hashsum_length = little (field-same 18 2 (omega arith) i);
          ids = little (field-same 20 2 (omega arith) i)
              ∷ little (field-same 22 2 (omega arith) i)
              ∷ little (field-same 24 2 (omega arith) i)
              ∷ little (field-same 26 2 (omega arith) i)
              ∷ [];
          padding = little (take 4 (b.headers.rest i));
        };
        signature = little (field-same 12 4 (omega arith) i);
        header_size = little (field-same 16 2 (omega arith) i);
        scheme = little (field-same 28 2 (omega arith) i);
        root = (sym (drop-drop 4 32 approved) ∙ ap (λ (t : List ℕ). drop 4 t) b.headers.rest ∙ drop-drop 4 32 approved') i;
      }

  -- are judged the same,
  pub reserved-rules : (signature : ℕ) → image_rules image approved signature ≡ image_rules image' approved' signature
  reserved-rules signature =
      ap₂ (λ (n k : ℕ). rules_by n k (same (take (length approved) image) approved) (header_of approved) signature) b.images.size
      b.headers.size
      ∙ ap₂ (λ (t : Bool) (d : Header). rules_by (length image') (length approved') t d signature)
      (same_alike (take (length approved) image) approved (take (length approved') image') approved'
      (begins-alike 30 2 image image' approved approved' b.images b.headers b.own')
      (begins-alike 30 2 image' image approved' approved (turned 30 2 image image' b.images)
      (turned 30 2 approved approved' b.headers) b.own))
      reserved-header

  -- and have the same blocks where 4 to 12 are passed
  pub reserved-blocks : (signature : ℕ) → Passed image approved signature
      → block_of image (header_of approved) ≡ block_of image' (header_of approved)
  reserved-blocks signature q =
      let d : Header = header_of approved in
      let k : ℕ = first_block d - 32 in
      let h : d.header_size ≡ header_size_for d.stream.hashsum_length = q.sound.header in
      let f : 32 + k ≡ first_block d = omega arith in
      blocks-same d image image'
      (ap (λ (x : ℕ). drop x image) (sym f) ∙ sym (drop-drop k 32 image) ∙ ap (λ (t : List ℕ). drop k t) b.images.rest
      ∙ drop-drop k 32 image' ∙ ap (λ (x : ℕ). drop x image') f)

  pub opened-reserved : (signature : ℕ) (output old : List ℕ)
      → opened image approved signature output old ≡ opened image' approved' signature output old
  opened-reserved signature output old =
      let d : Header = header_of approved in
      opened-is image approved signature output old
      ∙ outcome-blocks (first_broken (open_rules image approved signature (length output))) d (block_of image d) (block_of image' d) output old
      (λ e. reserved-blocks signature
      (stream-passed image approved signature (rules-passed image approved signature (length output) e).0).1)
      ∙ ap₂ (λ (rs : List Rule) (h : Header). outcome (first_broken (rs ++ length_rule (length output) h)) h (block_of image' h) output old)
      (stream-rules-same image image' approved approved' signature b.images.size (reserved-rules signature)) reserved-header
      ∙ sym (opened-is image' approved' signature output old)

-- so any two bytes may stand there
module _ (r : List ℕ) (two : length r ≡ 2) where
  but-two : (s : List ℕ) → 32 ≤ length s → SameBut 30 2 s (put s 30 r)
  but-two s h =
      record {
        size = sym (length-put s 30 r (omega arith));
        front = sym (part-before-put s 30 r (omega arith) 0 30 (omega arith));
        rest = sym (drop-behind-put s 30 r (omega arith) 32 (omega arith));
      }

  two-there : (s : List ℕ) → 32 ≤ length s → part (put s 30 r) 30 2 ≡ r
  two-there s h = ap (part (put s 30 r) 30) (sym two) ∙ part-put s 30 r (omega arith)

  pub any-reserved : (image approved : List ℕ) → take (length approved) image ≡ approved → 32 ≤ length approved
      → ButReserved image approved (put image 30 r) (put approved 30 r)
  any-reserved image approved e h =
      let l : 32 ≤ length image = omega (arith, length-take (length approved) image, ap length e) in
      record {
        images = but-two image l;
        headers = but-two approved h;
        own = sym (begun-part image approved e 30 2 h);
        own' = two-there image l ∙ sym (two-there approved h);
      }

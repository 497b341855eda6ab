-- What the block chain is held to, each under the sentence that it carries.
use mathlib.Core.Path.{◌≡◌, sym, ap, ap₂, subst, ◌∙◌}
use mathlib.Core.Bool.{not}
use mathlib.Core.List.{List, [], ◌∷◌, ◌++◌, map}
use mathlib.Core.Logic.{◌⊎◌, inl, inr, ⊎_elim}
use Prim.Native.Nat.{ℕ, suc, ◌≤◌, ◌<◌}
use native.Mathlib.Nat.{zero-add}
use native.Mathlib.Omega.{arith}
use lib.Dec.{T}
use lib.ListN.{length, take, drop}
use Rattle.octets.specs.Parts.{part, put, Octets}
use Rattle.answers.specs.Answers.{Outcome, answer_after, record_bytes, record_length}
use Rattle.answers.specs.Rules.{first_broken}
use Rattle.answers.specs.declared.Answer.{Answer}
use Rattle.answers.proofs.OutcomeLaws.{given}
use Rattle.answers.proofs.RecordLaws.{Fit, record-injective}
use Rattle.answers.proofs.RuleLaws.{code-passes}
use Rattle.chain.specs.Blocks.{block_of, proved, proved_blocks, file_up_to}
use Rattle.chain.specs.ContractWords.{Passes}
use Rattle.chain.specs.Hashsum.{sum_length}
use Rattle.chain.specs.Header.{Header, header_of, header_size_for, file_length}
use Rattle.chain.specs.Open.{open_rules, open_answer, proved_file, opened, signature_field, field_start}
use Rattle.chain.specs.Pack.{Order, Packed, pack_rules, packed}
use Rattle.chain.proofs.BlockLaws.{proved-le, file-agrees, file-begins}
use Rattle.chain.proofs.CodeCases.{code_of_open, open_cases, open-cases, pack_code, pack_cases, pack-cases}
use Rattle.chain.proofs.GivenCodes.{among, open_code, unchanged, first_part, Tells, tells, answer-fits, answer-written}
use Rattle.chain.proofs.GivenCodes.{packed-unchanged, packed-image, packed-passes-rules}
use Rattle.chain.proofs.OpenLaws.{SameBut, ButSignature, Alike, but-signature-alike, own-signature-alike, ButReserved}
use Rattle.chain.proofs.OpenLaws.{done_answer, opened-same, opened-reserved, any-reserved}
use Rattle.chain.proofs.OpenedPacks.{cleared, packed-opened, opened-done, file-whole, way-done}
use Rattle.chain.proofs.PackLaws.{packable}
use Rattle.chain.proofs.PackedOpens.{header-first, opened_packed}
use Rattle.chain.proofs.PassLaws.{length-block, field-part}
use Rattle.chain.proofs.SignatureLaws.{field-refused, field-given}
use Rattle.chain.proofs.StreamLaws.{Collision, streams}

-- 1. Opening what the packer made returns the file: for every file, IDs and sizes that pack accepts, with the packed
-- header approved and whatever the signature field then holds, open answers 0, bytes stored is the file's length, and
-- the output is the file.
pub open-of-pack : (p : Order) (blank : List ℕ) → length p.ids ≡ 4 → (packed p blank).code ≡ 0
    → (image' : List ℕ) → ButSignature (header_size_for (sum_length p.ids)) p.signature (packed p blank).output image'
    → (output old : List ℕ) → length output ≡ length p.file → length old ≡ record_length
    → opened image' (take (header_size_for (sum_length p.ids)) (packed p blank).output) p.signature output old
    ≡ given (done_answer (length p.file)) p.file
open-of-pack p blank four e image' but output old l h =
    let ok = (packable p (length blank) (packed-passes-rules p blank e)).0 in
    let made = packed-image p blank e in
    ap (λ (x : List ℕ). opened image' x p.signature output old)
    (ap (λ (x : List ℕ). take (header_size_for (sum_length p.ids)) x) made ∙ header-first p ok four)
    ∙ opened_packed p ok four image'
    (subst (λ (x : List ℕ). ButSignature (header_size_for (sum_length p.ids)) p.signature x image') made but) output old l h

-- 2. Packing the file of any image that opens, with its IDs and sizes, answers 0 and gives that image again but for
-- the signature and reserved fields, which are zero.
pub pack-of-open : (image₀ approved : List ℕ) (signature : ℕ) (output old : List ℕ) → Octets image₀
    → (opened image₀ approved signature output old).code ≡ 0
    → (output' : List ℕ) → length output' ≡ length image₀
    → packed
    (record {
      file = (opened image₀ approved signature output old).lent;
      ids = (header_of approved).stream.ids;
      block_size = (header_of approved).stream.block_size;
      signature = signature;
    })
    output'
    ≡ record { code = 0; output = cleared image₀ approved }
pack-of-open image₀ approved signature output old bytes done = packed-opened image₀ approved signature output old done bytes

-- 3. Two images that differ only in their signature fields get the same answer and output, whatever part of their header is approved.
pub open-but-own-signature : (image image' approved : List ℕ) (signature : ℕ) (output old : List ℕ)
    → SameBut (header_of image).header_size (header_of image).signature image image' → length approved ≤ (header_of image).header_size
    → opened image approved signature output old ≡ opened image' approved signature output old
open-but-own-signature image image' approved signature output old b h =
    opened-same image image' approved signature output old (own-signature-alike image image' approved signature b h)

-- They need only be of one length and have the same first bytes, as many as are approved; and where 1 and 4 to 12 are passed the same
-- behind the field.
pub open-but-signature : (image image' approved : List ℕ) (signature : ℕ) (output old : List ℕ)
    → Alike approved signature image image'
    → opened image approved signature output old ≡ opened image' approved signature output old
open-but-signature = opened-same

-- So it is for the field behind the approved header.
pub open-but-field : (image image' approved : List ℕ) (signature : ℕ) (output old : List ℕ)
    → ButSignature (length approved) (header_of approved).signature image image'
    → opened image approved signature output old ≡ opened image' approved signature output old
open-but-field image image' approved signature output old b =
    opened-same image image' approved signature output old (but-signature-alike image image' approved signature b)

-- the file that an image's blocks hold, and how many of its bytes end with the last proved block
abbrev pub file_of : List ℕ → List ℕ → List ℕ
file_of image approved =
    let d = header_of approved in
    file_up_to d.stream (block_of image d) d.stream.count

abbrev pub proved_bytes : List ℕ → List ℕ → ℕ
proved_bytes image approved =
    let d = header_of approved in
    length (proved_file d (block_of image d))

-- 4. On 13, 14 and 15 open's output is the file's first part, up to the end of the last proved block, followed by
-- what was there before.
pub open-first-part : (image approved : List ℕ) (signature : ℕ) (output old : List ℕ)
    → T (among (13 ∷ 14 ∷ 15 ∷ []) (opened image approved signature output old).code)
    → (opened image approved signature output old).lent
    ≡ take (proved_bytes image approved) (file_of image approved) ++ drop (proved_bytes image approved) output
open-first-part image approved signature output old h =
    let d : Header = header_of approved in
    let block : (ℕ → List ℕ) = block_of image d in
    first_part image approved signature output old h
    ∙ ap₂ (λ (f : List ℕ) (k : ℕ). f ++ drop k output)
    (sym (file-begins d.stream block (proved_blocks d block) d.stream.count (proved-le d block d.stream.count)))
    (zero-add (proved_bytes image approved))

-- On 0 it is the whole file that the blocks hold, of the length that the header says; all blocks are proved, and the record, of its
-- length, tells so many bytes stored.
pub open_done : (image approved : List ℕ) (signature : ℕ) (output old : List ℕ)
    → (opened image approved signature output old).code ≡ 0
    → (opened image approved signature output old ≡ given (done_answer (file_length (header_of approved).stream)) (file_of image approved))
    × (length (file_of image approved) ≡ file_length (header_of approved).stream)
    × (proved_blocks (header_of approved) (block_of image (header_of approved)) ≡ (header_of approved).stream.count)
    × (length old ≡ record_length)
open_done image approved signature output old e = (
  opened-done image approved signature output old e,
  file-whole image approved signature output old e,
  (way-done image approved signature output old e).2,
  (way-done image approved signature output old e).1,
)

-- On 1, 4 to 12 and 29 it is unchanged.
pub open-unchanged : (image approved : List ℕ) (signature : ℕ) (output old : List ℕ)
    → T (among (1 ∷ 4 ∷ 5 ∷ 6 ∷ 7 ∷ 8 ∷ 9 ∷ 10 ∷ 11 ∷ 12 ∷ 29 ∷ []) (opened image approved signature output old).code)
    → (opened image approved signature output old).lent ≡ output
open-unchanged = unchanged

-- Pack's output is unchanged on every refusal.
pub pack-unchanged : (p : Order) (output : List ℕ) → ((packed p output).code ≡ 0 → ⊥) → (packed p output).output ≡ output
pack-unchanged = packed-unchanged

-- 5. The codes that a call gives (O15, O17): open 0, 1, 4 to 15 and 29
abbrev pub open_codes : List ℕ
open_codes = 0 ∷ 1 ∷ 4 ∷ 5 ∷ 6 ∷ 7 ∷ 8 ∷ 9 ∷ 10 ∷ 11 ∷ 12 ∷ 13 ∷ 14 ∷ 15 ∷ 29 ∷ []

pub open-codes : (image approved : List ℕ) (signature : ℕ) (output old : List ℕ)
    → T (among open_codes (opened image approved signature output old).code)
open-codes image approved signature output old = open_code image approved signature output old (among open_codes) tt tt tt tt

-- pack 0, 1, 6, 11, 28 and 29
abbrev pub pack_codes : List ℕ
pack_codes = 0 ∷ 1 ∷ 6 ∷ 11 ∷ 28 ∷ 29 ∷ []

pub pack-codes : (p : Order) (output : List ℕ) → T (among pack_codes (packed p output).code)
unfolding packed
pack-codes p output = code-passes (among pack_codes) (pack_rules p (length output)) tt tt

-- and each of them is given to some input.
pub open-codes-met : map code_of_open open_cases ≡ open_codes
open-codes-met = open-cases

pub pack-codes-met : map pack_code pack_cases ≡ pack_codes
pack-codes-met = pack-cases

-- 6. Two streams of blocks under one header: as far as both are proved they have the same blocks, or at some number
-- different blocks with equal hashsums, both named, and both proved in their streams.
pub same-or-collide : (d : Header) (block block' : ℕ → List ℕ) (n n' k : ℕ) → k < proved d block n → k < proved d block' n'
    → (block k ≡ block' k) ⊎ Collision d (suc k) block block' n n'
same-or-collide d block block' n n' k h h' =
    ⊎_elim (λ a. inl (a k (omega arith))) inr (streams d block block' n n' (suc k) h h')

-- Then one proved part of the file begins the other.
pub begins-or-collide : (d : Header) (block block' : ℕ → List ℕ) (n n' : ℕ) → proved d block n ≤ proved d block' n'
    → (take (length (file_up_to d.stream block (proved d block n))) (file_up_to d.stream block' (proved d block' n'))
    ≡ file_up_to d.stream block (proved d block n))
    ⊎ Collision d (proved d block n) block block' n n'
begins-or-collide d block block' n n' h =
    let m : ℕ = proved d block n in
    ⊎_elim
    (λ a. let e : file_up_to d.stream block m ≡ file_up_to d.stream block' m = file-agrees d.stream block block' m a in
    inl
    (ap (λ (f : List ℕ). take (length f) (file_up_to d.stream block' (proved d block' n'))) e
    ∙ file-begins d.stream block' m (proved d block' n') h
    ∙ sym e))
    inr (streams d block block' n n' m (omega arith) h)

-- Blocks of an image that passes 4 to 12 are whole,
pub blocks-whole : (image approved : List ℕ) → Passes image approved → (k : ℕ) → k < (header_of approved).stream.count
    → length (block_of image (header_of approved) k) ≡ (header_of approved).stream.block_size
blocks-whole image approved p k h = length-block image approved k (p, h)

-- and so are the two of a collision: at one of the first k numbers different blocks of two images with equal hashsums, both proved.
abbrev pub ImagesCollide : List ℕ → List ℕ → List ℕ → ℕ → Type 0
ImagesCollide image image' approved k =
    let d = header_of approved in
    Collision d k (block_of image d) (block_of image' d) d.stream.count d.stream.count

pub collision-whole : (image image' approved : List ℕ) → Passes image approved → Passes image' approved → (k : ℕ)
    → (c : ImagesCollide image image' approved k)
    → (length (block_of image (header_of approved) c.number) ≡ (header_of approved).stream.block_size)
    × (length (block_of image' (header_of approved) c.number) ≡ (header_of approved).stream.block_size)
collision-whole image image' approved p p' k c =
    let d : Header = header_of approved in
    let h : c.number < d.stream.count = omega (arith, c.first, proved-le d (block_of image d) d.stream.count) in
    (blocks-whole image approved p c.number h, blocks-whole image' approved p' c.number h)

-- 7. Two results that the promise of a call allows are equal: open,
pub open-determined : (image approved : List ℕ) (signature : ℕ) (output old : List ℕ) (x y : Outcome)
    → opened image approved signature output old ≡ x → opened image approved signature output old ≡ y
    → (x.code ≡ y.code) × (x.answer ≡ y.answer) × (x.lent ≡ y.lent)
open-determined image approved signature output old x y p q =
    let e : x ≡ y = sym p ∙ q in
    (ap (λ (o : Outcome). o.code) e, ap (λ (o : Outcome). o.answer) e, ap (λ (o : Outcome). o.lent) e)

-- pack,
pub pack-determined : (p : Order) (output : List ℕ) (x y : Packed) → packed p output ≡ x → packed p output ≡ y
    → (x.code ≡ y.code) × (x.output ≡ y.output)
pack-determined p output x y e f =
    let g : x ≡ y = sym e ∙ f in
    (ap (λ (o : Packed). o.code) g, ap (λ (o : Packed). o.output) g)

-- and the signature field, as bytes,
pub signature-determined : (image approved : List ℕ) (signature : ℕ) (x y : List ℕ)
    → signature_field image approved signature ≡ x → signature_field image approved signature ≡ y → x ≡ y
signature-determined image approved signature x y e q = sym e ∙ q

-- by its place,
pub start-determined : (image approved : List ℕ) (signature x y : ℕ)
    → field_start image approved signature ≡ x → field_start image approved signature ≡ y → x ≡ y
start-determined image approved signature x y e q = sym e ∙ q

-- and as start and length, by which the caller finds it in the image.
pub field-determined : (image approved : List ℕ) (signature start n start' n' : ℕ)
    → (field_start image approved signature ≡ start) × (length (signature_field image approved signature) ≡ n)
    → (field_start image approved signature ≡ start') × (length (signature_field image approved signature) ≡ n')
    → (start ≡ start') × (n ≡ n') × (part image start n ≡ signature_field image approved signature)
field-determined image approved signature start n start' n' e q = (
  sym e.0 ∙ q.0,
  sym e.1 ∙ q.1,
  ap₂ (part image) (sym e.0) (sym e.1) ∙ field-part image approved signature,
)

-- 8. The signature field of an image as a part of it: where open would give 1 or 4 to 12 the part is empty;
pub signature-empty : (image approved : List ℕ) (signature : ℕ) (output old : List ℕ) → length old ≡ record_length
    → T (among (1 ∷ 4 ∷ 5 ∷ 6 ∷ 7 ∷ 8 ∷ 9 ∷ 10 ∷ 11 ∷ 12 ∷ []) (opened image approved signature output old).code)
    → signature_field image approved signature ≡ []
signature-empty = field-refused

-- elsewhere it is what stands between header and first block, of the expected length.
pub signature-given : (image approved : List ℕ) (signature : ℕ) (output old : List ℕ) → length old ≡ record_length
    → T (not (among (1 ∷ 4 ∷ 5 ∷ 6 ∷ 7 ∷ 8 ∷ 9 ∷ 10 ∷ 11 ∷ 12 ∷ []) (opened image approved signature output old).code))
    → (signature_field image approved signature ≡ part image (length approved) signature)
    × (length (signature_field image approved signature) ≡ signature)
signature-given = field-given

-- open's answer, with an output of so many bytes
abbrev pub answer_made : List ℕ → List ℕ → ℕ → ℕ → Answer
answer_made image approved signature output =
    answer_after (first_broken (open_rules image approved signature output))
    (open_answer (header_of approved) (block_of image (header_of approved)))

-- 9. What open's record tells: place is the block number from 1 for 13 to 15, else 0; 0 commands done, and as bytes
-- stored the file bytes copied; entry 0.
pub open-tells : (image approved : List ℕ) (signature : ℕ) (output old : List ℕ) → length old ≡ record_length
    → Tells image approved signature output old (answer_made image approved signature (length output))
open-tells = tells

-- Each number fits the 64 bits that the record has for it,
pub open-fits : (image approved : List ℕ) (signature : ℕ) (output : List ℕ) → Fit (answer_made image approved signature (length output))
open-fits image approved signature output = answer-fits image approved signature output []

-- so the answer can be read back: no other that fits has this record.
pub open-read-back : (image approved : List ℕ) (signature : ℕ) (output old : List ℕ) → length old ≡ record_length
    → (a : Answer) → Fit a → (opened image approved signature output old).answer ≡ record_bytes a
    → a ≡ answer_made image approved signature (length output)
open-read-back image approved signature output old h a f e =
    record-injective a (answer_made image approved signature (length output)) f (open-fits image approved signature output)
    (sym e ∙ answer-written image approved signature output old h)

-- 10. Reserved bytes of the header are ignored: two images with their approved headers, of the same lengths and the same bytes but for
-- the header's 30 and 31, which are in each image what they are in its approved header, get the same answer and output.
pub open-ignores-reserved : (image approved image' approved' : List ℕ) → ButReserved image approved image' approved'
    → (signature : ℕ) (output old : List ℕ)
    → opened image approved signature output old ≡ opened image' approved' signature output old
open-ignores-reserved = opened-reserved

-- So any two bytes may stand there, in an image and in the approved header that it begins with.
pub open-any-reserved : (image approved r : List ℕ) → take (length approved) image ≡ approved → 32 ≤ length approved → length r ≡ 2
    → (signature : ℕ) (output old : List ℕ)
    → opened image approved signature output old ≡ opened (put image 30 r) (put approved 30 r) signature output old
open-any-reserved image approved r e h two =
    opened-reserved image approved (put image 30 r) (put approved 30 r) (any-reserved r two image approved e h)

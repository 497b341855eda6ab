-- What the code may do with an image that has passed: where its blocks and their file bytes lie, and its signature field.
use mathlib.Core.Path.{◌≡◌, refl, sym, ap, ap₂, subst, ◌∙◌}
use mathlib.Core.Bool.{Bool, true, false}
use mathlib.Core.List.{List}
use mathlib.Core.Logic.{◌≢◌}
use Prim.Native.Nat.{ℕ, zero, suc, ◌+◌, ◌-◌, ◌*◌, ◌^◌, ◌≤◌, ◌<◌}
use native.Mathlib.Nat.{mul-le-mul}
use native.Mathlib.Omega.{arith}
use borrow.Author.Tests.{eqb-true, eqb-false}
use lib.Dec.{eqb}
use lib.ListN.{length, take, drop, length-drop}
use lib.Seq.{take_all, length-take-le}
use Rattle.octets.specs.Parts.{part}
use Rattle.answers.specs.Rules.{first_broken}
use Rattle.answers.proofs.ChoiceLaws.{cond-eq, cond-ne}
use Rattle.chain.specs.Blocks.{block_of, expected, hash_field}
use Rattle.chain.specs.ContractWords.{Passes, HasBlock}
use Rattle.chain.specs.Header.{Header, header_of, first_block, image_rules, stream_rules}
use Rattle.chain.specs.Open.{field_start, signature_field}
use Rattle.chain.proofs.HeaderLaws.{Passed, passed, stream-passed, block-ends, whole-block}
use Rattle.chain.proofs.SignatureLaws.{empty-field, whole-field}

-- the signature length that was asked for is the header's own
pub passes-own : (image approved : List ℕ) (signature : ℕ) → first_broken (image_rules image approved signature) ≡ 0
    → Passes image approved
passes-own image approved signature e =
    subst (λ (n : ℕ). first_broken (image_rules image approved n) ≡ 0) (sym (passed image approved signature e).sound.signature) e

module _ (image approved : List ℕ) (k : ℕ) (has : HasBlock image approved k) where
  abbrev d : Header
  d = header_of approved

  pub fits : Passed image approved d.signature
  fits = passed image approved d.signature has.0

  pub block_within : first_block d + k * d.stream.block_size + d.stream.block_size ≤ length image
  block_within = block-ends image approved d.signature fits k has.1

  pub length-block : length (block_of image d k) ≡ d.stream.block_size
  length-block = whole-block image approved d.signature fits k has.1

-- a first part has its length
pub first_part : (s : List ℕ) (n : ℕ) → n ≤ length s → n ≡ length (take n s)
first_part s n h = sym (length-take-le n s h)

-- so many blocks of at most 1,048,576 bytes
pub blocks-short : (count size : ℕ) → count < 2 ^ 32 → size ≤ 1048576 → count * size ≤ 2 ^ 32 * 1048576
blocks-short count size h l = mul-le-mul {n₁ = count} {m₁ = size} {n₂ = 2 ^ 32} {m₂ = 1048576} (omega arith) l

-- all from an offset on
pub drop-is : (s : List ℕ) (at : ℕ) → at ≤ length s → take (length s - at) (drop at s) ≡ drop at s
drop-is s at h = take_all (length s - at) (drop at s) (omega (arith, length-drop at s))

-- a block behind the first has its hashsum in the block before
pub expected-before : (d : Header) (block : ℕ → List ℕ) (k : ℕ) → k ≢ 0 → expected d block k ≡ hash_field d.stream (block (k - 1))
expected-before d block zero n = absurd (n refl)
expected-before d block (suc k) n =
    let e : suc k - 1 ≡ k = omega arith in
    ap (λ (i : ℕ). hash_field d.stream (block i)) (sym e)

-- where the signature field begins
module _ (image approved : List ℕ) (x code : ℕ) (e : code ≡ first_broken (stream_rules image approved x)) where
  pub starts-nowhere : code ≢ 0 → field_start image approved x ≡ 0
  starts-nowhere n = cond-ne (first_broken (stream_rules image approved x)) 0 (length approved) 0 (λ z. n (e ∙ z))

  pub starts-behind : code ≡ 0 → field_start image approved x ≡ length approved
  starts-behind z = cond-eq (first_broken (stream_rules image approved x)) 0 (length approved) 0 (sym e ∙ z)

-- the field lies in the image
pub field-inside : (image approved : List ℕ) (x : ℕ) → first_broken (stream_rules image approved x) ≡ 0 → length approved + x ≤ length image
field-inside image approved x e =
    let q = (stream-passed image approved x e).1 in omega (arith, q.exact, q.sound.approved, q.sound.signature)

-- the field is empty just where it begins nowhere, and it is the part of the image from there on
module _ (image approved : List ℕ) (x : ℕ) where
  abbrev C : ℕ
  C = first_broken (stream_rules image approved x)

  filled : C ≡ 0 → length (signature_field image approved x) ≢ 0
  filled e z =
      let some : 0 < x = (stream-passed image approved x e).0.signed in
      omega (arith, (whole-field image approved x e).1)

  bare : C ≢ 0 → length (signature_field image approved x) ≡ 0
  bare n = ap length (empty-field image approved x n)

  decided : (P : Type 0) → (C ≡ 0 → P) → (C ≢ 0 → P) → P
  decided P f g = go (eqb C 0) refl
    where
      go : (b : Bool) → eqb C 0 ≡ b → P
      go true e = f (eqb-true C 0 e)
      go false e = g (eqb-false C 0 e)

  pub empty-starts : length (signature_field image approved x) ≡ 0 → field_start image approved x ≡ 0
  empty-starts z = decided _ (λ e. absurd (filled e z)) (λ n. starts-nowhere image approved x C refl n)

  pub filled-starts : length (signature_field image approved x) ≢ 0 → field_start image approved x ≡ length approved
  filled-starts n = decided _ (λ e. starts-behind image approved x C refl e) (λ m. absurd (n (bare m)))

  pub field-part : part image (field_start image approved x) (length (signature_field image approved x)) ≡ signature_field image approved x
  field-part =
      decided _
      (λ e. ap₂ (part image) (starts-behind image approved x C refl e) (whole-field image approved x e).1
      ∙ sym (whole-field image approved x e).0)
      (λ n. ap (part image (field_start image approved x)) (bare n) ∙ sym (empty-field image approved x n))

-- For each code that open and pack can give, an input that gets it: small images with SHA2-256, computed.
use mathlib.Core.Path.{◌≡◌, refl, sym, ap, ap₂, ◌∙◌}
use mathlib.Core.Bool.{Bool, true, false, cond}
use mathlib.Core.List.{List, [], ◌∷◌, ◌++◌, map}
use Prim.Native.Nat.{ℕ, suc}
use native.Mathlib.Omega.{arith}
use borrow.Author.Tests.{eqb-true, eq-eqb, ne_eqb}
use lib.Dec.{eqb}
use lib.ListN.{length, take, replicate}
use Rattle.octets.specs.Numbers.{little, little_bytes}
use Rattle.octets.specs.Parts.{put, same, all_zero}
use Rattle.answers.specs.Answers.{Outcome, record_length, stop_at}
use Rattle.answers.specs.declared.Stop.{Stop}
use Rattle.answers.specs.Rules.{first_broken}
use Rattle.hashes.specs.Compression as compression
use Rattle.hashes.specs.Digests as digests
use Rattle.hashes.specs.Padding as messages
use Rattle.hashes.specs.Tables as tables
use Rattle.chain.specs.Blocks.{block_code, block_of, proved, proved_blocks}
use Rattle.chain.specs.Hashsum.{hashsum, sum_length, any_unknown}
use Rattle.chain.specs.Header.{Header, header_magic, header_of, header_bytes, id_bytes}
use Rattle.chain.specs.Open.{open_rules, open_answer, opened}
use Rattle.chain.specs.Pack.{Order, pack_rules, packed}
use Rattle.chain.proofs.BlockLaws.{Turn, went, stopped, stays, turn}
use Rattle.chain.proofs.OpenLaws.{outcome, opened-is, Way, unwritten, refusing, proving, way}

-- ---- the code, computed so that blocks are looked at only where they must be

pub record OpenCase : Type 0 where
  pub image : List ℕ
  pub approved : List ℕ
  pub signature : ℕ
  pub output : List ℕ
  pub old : List ℕ

abbrev pub code_of_open : OpenCase → ℕ
code_of_open x = (opened x.image x.approved x.signature x.output x.old).code

-- one of two, of which the other is not computed
abbrev either : Bool → (Unit {0} → ℕ) → (Unit {0} → ℕ) → ℕ
either true f g = f tt
either false f g = g tt

abbrev blocks_code : Header → (ℕ → List ℕ) → ℕ → ℕ
blocks_code d block n = cond (eqb (proved d block n) n) 0 (block_code d block (proved d block n))

-- the code that the blocks get; of a single block, its own
abbrev quick_blocks : Header → (ℕ → List ℕ) → ℕ
quick_blocks d block = either (eqb d.stream.count 1) (λ u. block_code d block 0) (λ u. blocks_code d block d.stream.count)

abbrev quick_by : ℕ → Header → (ℕ → List ℕ) → List ℕ → ℕ
quick_by code d block old =
    either (eqb (length old) record_length) (λ u. either (eqb code 0) (λ v. quick_blocks d block) (λ v. code)) (λ u. 1)

abbrev quick_code : OpenCase → ℕ
quick_code x =
    quick_by (first_broken (open_rules x.image x.approved x.signature (length x.output))) (header_of x.approved)
    (block_of x.image (header_of x.approved)) x.old

-- the code of one of two stops
code_of : (b : Bool) (x y : Stop) → (cond b x y).code ≡ cond b x.code y.code
code_of true x y = refl
code_of false x y = refl

module _ (d : Header) (block : ℕ → List ℕ) where
  answer-code : (open_answer d block).code ≡ blocks_code d block d.stream.count
  answer-code =
      let m : ℕ = proved_blocks d block in
      code_of (eqb m d.stream.count) (stop_at 0 0) (stop_at (block_code d block m) (suc m))

  single : blocks_code d block 1 ≡ block_code d block 0
  single = go (turn d block 0)
    where
      go : Turn 0 (proved d block 0) (proved d block 1) (block_code d block 0) → blocks_code d block 1 ≡ block_code d block 0
      go (went p q r) = ap (λ (m : ℕ). cond (eqb m 1) 0 (block_code d block m)) r ∙ sym q
      go (stopped p q r) = ap (λ (m : ℕ). cond (eqb m 1) 0 (block_code d block m)) r
      go (stays p r) = absurd (omega arith)

  quick-blocks : quick_blocks d block ≡ blocks_code d block d.stream.count
  quick-blocks = go (eqb d.stream.count 1) refl
    where
      go : (b : Bool) → eqb d.stream.count 1 ≡ b
          → either b (λ u. block_code d block 0) (λ u. blocks_code d block d.stream.count) ≡ blocks_code d block d.stream.count
      go true e = sym single ∙ ap (blocks_code d block) (sym (eqb-true d.stream.count 1 e))
      go false e = refl

module _ (code : ℕ) (d : Header) (block : ℕ → List ℕ) (output old : List ℕ) where
  abbrev judged : ℕ
  judged = either (eqb code 0) (λ v. quick_blocks d block) (λ v. code)

  quick-outcome : (outcome code d block output old).code ≡ quick_by code d block old
  quick-outcome = go (way code d block output old)
    where
      whole : length old ≡ record_length → quick_by code d block old ≡ judged
      whole h = ap (λ (b : Bool). either b (λ u. judged) (λ u. 1)) (eq-eqb (length old) record_length h)

      go : Way code d block output old (outcome code d block output old)
          → (outcome code d block output old).code ≡ quick_by code d block old
      go (unwritten h q) =
          ap (λ (o : Outcome). o.code) q
          ∙ sym (ap (λ (b : Bool). either b (λ u. judged) (λ u. 1)) (ne_eqb (length old) record_length h))
      go (refusing h c q) =
          ap (λ (o : Outcome). o.code) q
          ∙ sym (whole h ∙ ap (λ (b : Bool). either b (λ v. quick_blocks d block) (λ v. code)) (ne_eqb code 0 c))
      go (proving h c q) =
          ap (λ (o : Outcome). o.code) q ∙ answer-code d block
          ∙ sym
          (whole h ∙ ap (λ (b : Bool). either b (λ v. quick_blocks d block) (λ v. code)) (eq-eqb code 0 c)
          ∙ quick-blocks d block)

quick : (x : OpenCase) → code_of_open x ≡ quick_code x
quick x =
    ap (λ (o : Outcome). o.code) (opened-is x.image x.approved x.signature x.output x.old)
    ∙ quick-outcome (first_broken (open_rules x.image x.approved x.signature (length x.output)))
    (header_of x.approved) (block_of x.image (header_of x.approved)) x.output x.old

all-quick : (xs : List OpenCase) → map code_of_open xs ≡ map quick_code xs
all-quick [] = refl
all-quick (x ∷ xs) = ap₂ (λ (c : ℕ) (cs : List ℕ). c ∷ cs) (quick x) (all-quick xs)

-- ---- images of one block of 34 bytes, with a signature field of one

abbrev sealed : ℕ → List ℕ → Header
sealed padded root =
    record {
      magic = header_magic;
      stream = record { count = 1; block_size = 34; hashsum_length = 32; ids = 2 ∷ 0 ∷ 0 ∷ 0 ∷ []; padding = padded };
      signature = 1;
      header_size = 68;
      scheme = 1;
      root = root;
    }

-- a block with padding and hash field zero, and its hashsum
abbrev good : List ℕ
good = replicate 33 0 ++ (7 ∷ [])

abbrev good_root : List ℕ
good_root =
    146 ∷ 109 ∷ 2 ∷ 218 ∷ 59 ∷ 4 ∷ 150 ∷ 106 ∷ 171 ∷ 217 ∷ 182 ∷ 226 ∷ 107 ∷ 176 ∷ 64 ∷ 115
    ∷ 86 ∷ 216 ∷ 54 ∷ 49 ∷ 45 ∷ 146 ∷ 77 ∷ 188 ∷ 126 ∷ 21 ∷ 48 ∷ 101 ∷ 22 ∷ 123 ∷ 200 ∷ 173
    ∷ []

-- one with neither zero, and its hashsum
abbrev bad : List ℕ
bad = (1 ∷ replicate 31 0) ++ (1 ∷ 7 ∷ [])

abbrev bad_root : List ℕ
bad_root =
    84 ∷ 49 ∷ 85 ∷ 219 ∷ 147 ∷ 46 ∷ 99 ∷ 157 ∷ 39 ∷ 12 ∷ 205 ∷ 198 ∷ 193 ∷ 126 ∷ 228 ∷ 78
    ∷ 51 ∷ 124 ∷ 114 ∷ 187 ∷ 199 ∷ 17 ∷ 75 ∷ 31 ∷ 84 ∷ 70 ∷ 204 ∷ 86 ∷ 195 ∷ 49 ∷ 64 ∷ 164
    ∷ []

-- a case: an image of which so many bytes are approved, an output of so many, and a record of its length
abbrev opening : List ℕ → ℕ → ℕ → ℕ → OpenCase
opening image header signature output =
    record {
      image = image;
      approved = take header image;
      signature = signature;
      output = replicate output 0;
      old = replicate record_length 0;
    }

abbrev image_of : Header → List ℕ → List ℕ
image_of d block = header_bytes d ++ (0 ∷ []) ++ block

abbrev sound : List ℕ
sound = image_of (sealed 1 good_root) good

abbrev pub open_cases : List OpenCase
open_cases =
    opening sound 68 1 1
    ∷ opening sound 68 0 1
    ∷ opening sound 35 1 1
    ∷ opening (put sound 0 (0 ∷ [])) 68 1 1
    ∷ opening (put sound 20 (1 ∷ [])) 68 1 1
    ∷ opening (put sound 18 (33 ∷ [])) 68 1 1
    ∷ opening (put sound 16 (69 ∷ [])) 68 1 1
    ∷ opening (put sound 28 (2 ∷ [])) 68 1 1
    ∷ opening sound 68 2 1
    ∷ opening (put sound 4 (0 ∷ [])) 68 1 1
    ∷ opening (sound ++ (0 ∷ [])) 68 1 1
    ∷ opening (image_of (sealed 1 good_root) bad) 68 1 1
    ∷ opening (image_of (sealed 1 bad_root) bad) 68 1 1
    ∷ opening (image_of (sealed 0 bad_root) bad) 68 1 2
    ∷ opening sound 68 1 2
    ∷ []

quick-cases : map quick_code open_cases ≡ 0 ∷ 1 ∷ 4 ∷ 5 ∷ 6 ∷ 7 ∷ 8 ∷ 9 ∷ 10 ∷ 11 ∷ 12 ∷ 13 ∷ 14 ∷ 15 ∷ 29 ∷ []
unfolding header_bytes id_bytes little_bytes little same all_zero proved hashsum sum_length any_unknown
    digests.digest digests.digest_length digests.algorithms digests.algorithm_of
    compression.sha2 compression.joined compression.hashed compression.after_blocks compression.compressed compression.after_rounds
    compression.round compression.summed compression.scheduled compression.with_next
    messages.padded messages.words_at tables.K256 tables.initial256
quick-cases = refl

pub open-cases : map code_of_open open_cases ≡ 0 ∷ 1 ∷ 4 ∷ 5 ∷ 6 ∷ 7 ∷ 8 ∷ 9 ∷ 10 ∷ 11 ∷ 12 ∷ 13 ∷ 14 ∷ 15 ∷ 29 ∷ []
open-cases = all-quick open_cases ∙ quick-cases

-- ---- pack

pub record PackCase : Type 0 where
  pub order : Order
  pub output : List ℕ

abbrev pub pack_code : PackCase → ℕ
pack_code x = (packed x.order x.output).code

abbrev ruled : PackCase → ℕ
ruled x = first_broken (pack_rules x.order (length x.output))

by-rules : (x : PackCase) → pack_code x ≡ ruled x
unfolding packed
by-rules x = refl

all-by-rules : (xs : List PackCase) → map pack_code xs ≡ map ruled xs
all-by-rules [] = refl
all-by-rules (x ∷ xs) = ap₂ (λ (c : ℕ) (cs : List ℕ). c ∷ cs) (by-rules x) (all-by-rules xs)

abbrev packing : List ℕ → ℕ → ℕ → ℕ → ℕ → PackCase
packing file id block_size signature output =
    record {
      order = record { file = file; ids = id ∷ 0 ∷ 0 ∷ 0 ∷ []; block_size = block_size; signature = signature };
      output = replicate output 0;
    }

abbrev pub pack_cases : List PackCase
pack_cases =
    packing (7 ∷ []) 2 34 1 103
    ∷ packing (7 ∷ []) 2 34 0 102
    ∷ packing (7 ∷ []) 1 34 1 103
    ∷ packing (7 ∷ []) 2 32 1 101
    ∷ packing [] 2 34 1 69
    ∷ packing (7 ∷ []) 2 34 1 104
    ∷ []

ruled-cases : map ruled pack_cases ≡ 0 ∷ 1 ∷ 6 ∷ 11 ∷ 28 ∷ 29 ∷ []
unfolding sum_length any_unknown digests.digest_length digests.algorithms digests.algorithm_of
ruled-cases = refl

pub pack-cases : map pack_code pack_cases ≡ 0 ∷ 1 ∷ 6 ∷ 11 ∷ 28 ∷ 29 ∷ []
pack-cases = all-by-rules pack_cases ∙ ruled-cases

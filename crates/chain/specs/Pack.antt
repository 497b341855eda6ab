-- Pack: the image of a file, with a zeroed signature field (J5). (K1 and the like: docs/FORMAT.md.)
use Rattle.std.specs.Prelude.{not, cond, List, [], ◌∷◌, ◌++◌, ℕ, zero, suc, ◌+◌, ◌-◌, ◌*◌, ◌/◌, eqb, length, replicate}
use Rattle.octets.specs.Parts.{part}
use Rattle.answers.specs.Rules.{Rule, rule, first_broken, signature_rules, size_rules}
use Rattle.chain.specs.Hashsum.{hashsum, sum_length, id_rules}
use Rattle.chain.specs.Header.{Header, header_magic, header_size_for, header_bytes, block_data_length, image_length, block_size_rules}

-- what is packed, and how: the file, the four hash IDs, block size and signature length
pub record Order : Type 0 where
  pub file : List ℕ
  pub ids : List ℕ
  pub block_size : ℕ
  pub signature : ℕ

-- K1: block data length
abbrev pub room : Order → ℕ
room p = block_data_length p.block_size (sum_length p.ids)

-- K2: as few blocks as hold the file
abbrev pub blocks : Order → ℕ
blocks p = (length p.file + room p - 1) / room p

-- K2: what is left of their data
abbrev pub padding : Order → ℕ
padding p = blocks p * room p - length p.file

-- K3: the data of block k, from 0: the padding's zeros, then the file, cut into parts
abbrev pub chunk : Order → ℕ → List ℕ
chunk p k = part (replicate (padding p) 0 ++ p.file) (k * room p) (room p)

-- K4: the hash field before block k, if j blocks begin there: the hashsum of block k; the last block's is zero
unfoldable pub link : Order → ℕ → ℕ → List ℕ
link p zero k = replicate (sum_length p.ids) 0
link p (suc j) k = hashsum p.ids (link p j (suc k) ++ chunk p k)

-- j blocks from number k on, one behind the other
unfoldable pub blocks_from : Order → ℕ → ℕ → List ℕ
blocks_from p zero k = []
blocks_from p (suc j) k = link p j (suc k) ++ chunk p k ++ blocks_from p j (suc k)

-- K5: the fields of the image's header; the root hash is the first block's hashsum
abbrev pub packed_header : Order → Header
packed_header p =
    record {
      magic = header_magic;
      stream = record {
        count = blocks p;
        block_size = p.block_size;
        hashsum_length = sum_length p.ids;
        ids = p.ids;
        padding = padding p;
      };
      signature = p.signature;
      header_size = header_size_for (sum_length p.ids);
      scheme = 1;
      root = link p (blocks p) 0;
    }

-- O13: 6, then block size (11), 28, then 1 (signature length, image over 2^30), then 29
abbrev pub pack_rules : Order → ℕ → List Rule
pack_rules p output =
    id_rules p.ids
    ++ block_size_rules p.block_size (sum_length p.ids)
    ++ rule 28 (eqb (length p.file) 0)
    ∷ signature_rules p.signature
    ++ size_rules (image_length (packed_header p))
    ++ rule 29 (not (eqb output (image_length (packed_header p))))
    ∷ []

-- K6: header, a signature field of zeros, blocks
unfoldable pub image : Order → List ℕ
image p = header_bytes (packed_header p) ++ replicate p.signature 0 ++ blocks_from p (blocks p) 0

-- what pack returns, and leaves in its output
pub record Packed : Type 0 where
  pub code : ℕ
  pub output : List ℕ

-- the image where no rule is broken; on a refusal the output is as it was (P12)
unfoldable pub packed : Order → List ℕ → Packed
packed p output =
    let code = first_broken (pack_rules p (length output)) in
    record { code = code; output = cond (eqb code 0) (image p) output }

-- The signed header: its fields, and the rules that an image and its approved header are judged by. (H1, N4 and the like:
-- docs/FORMAT.md.)
use Rattle.std.specs.Prelude.{not, List, [], ◌∷◌, ◌++◌, ℕ, ◌+◌, ◌-◌, ◌*◌, eqb, leb, ltb, length, take, drop}
use Rattle.octets.specs.Numbers.{little, little_bytes}
use Rattle.octets.specs.Parts.{part, same}
use Rattle.answers.specs.Rules.{Rule, rule, signature_rules, size_rules}
use Rattle.chain.specs.Hashsum.{sum_length, id_rules}

-- what a header says of its blocks: their count and size, the length of a hashsum, the hash IDs 1 to 4, the padding length
pub record Stream : Type 0 where
  pub count : ℕ
  pub block_size : ℕ
  pub hashsum_length : ℕ
  pub ids : List ℕ
  pub padding : ℕ

-- the fields by name, and the root hash behind them; `signature` is the signature data length
pub record Header : Type 0 where
  pub magic : ℕ
  pub stream : Stream
  pub signature : ℕ
  pub header_size : ℕ
  pub scheme : ℕ
  pub root : List ℕ

-- H1 to H12, H18: the fields as they stand in the approved header, little-endian; reserved ones are ignored on reading
abbrev pub header_of : List ℕ → Header
header_of h =
    record {
      magic = little (part h 0 4);
      stream = record {
        count = little (part h 4 4);
        block_size = little (part h 8 4);
        hashsum_length = little (part h 18 2);
        ids = little (part h 20 2) ∷ little (part h 22 2) ∷ little (part h 24 2) ∷ little (part h 26 2) ∷ [];
        padding = little (part h 32 4);
      };
      signature = little (part h 12 4);
      header_size = little (part h 16 2);
      scheme = little (part h 28 2);
      root = drop 36 h;
    }

-- the IDs one behind the other, two bytes each
unfoldable pub id_bytes : List ℕ → List ℕ
id_bytes [] = []
id_bytes (id ∷ ids) = little_bytes 2 id ++ id_bytes ids

-- the fields in their order; reserved ones are written as zero (H10)
unfoldable pub header_bytes : Header → List ℕ
header_bytes d =
    little_bytes 4 d.magic ++ little_bytes 4 d.stream.count ++ little_bytes 4 d.stream.block_size
    ++ little_bytes 4 d.signature ++ little_bytes 2 d.header_size ++ little_bytes 2 d.stream.hashsum_length
    ++ id_bytes d.stream.ids ++ little_bytes 2 d.scheme ++ little_bytes 2 0 ++ little_bytes 4 d.stream.padding ++ d.root

-- H2: the magic at the start of each signed header
abbrev pub header_magic : ℕ
header_magic = 0xe6019598

-- H6: header size = 36 + hashsum length
abbrev pub header_size_for : ℕ → ℕ
header_size_for sum = 36 + sum

-- B2: block data length = block size - hashsum length
abbrev pub block_data_length : ℕ → ℕ → ℕ
block_data_length block_size hashsum_length = block_size - hashsum_length

-- B9: file length = block count x block data length - padding length
abbrev pub file_length : Stream → ℕ
file_length s = s.count * block_data_length s.block_size s.hashsum_length - s.padding

-- I1, I2: the image is header, signature field, blocks: where the first block begins, and the image's length
abbrev pub first_block : Header → ℕ
first_block d = d.header_size + d.signature

abbrev pub image_length : Header → ℕ
image_length d = first_block d + d.stream.count * d.stream.block_size

-- N11, H4: block size at most the hashsum length or over 1,048,576
abbrev pub block_size_rules : ℕ → ℕ → List Rule
block_size_rules block_size hashsum_length = rule 11 (leb block_size hashsum_length) ∷ rule 11 (ltb 1048576 block_size) ∷ []

-- N11: block count 0 (H3); the block size; padding at least the block data length (H11)
abbrev pub count_rules : Stream → List Rule
count_rules s =
    rule 11 (eqb s.count 0)
    ∷ block_size_rules s.block_size s.hashsum_length
    ++ rule 11 (leb (block_data_length s.block_size s.hashsum_length) s.padding)
    ∷ []

-- N5 to N11, of an approved header of so many bytes, where a signature of this length is expected
abbrev pub field_rules : Header → ℕ → ℕ → List Rule
field_rules d approved_length signature =
    rule 5 (not (eqb d.magic header_magic))
    ∷ id_rules d.stream.ids
    ++ rule 7 (not (eqb d.stream.hashsum_length (sum_length d.stream.ids)))
    ∷ rule 8 (not (eqb d.header_size (header_size_for d.stream.hashsum_length)))
    ∷ rule 8 (not (eqb d.header_size approved_length))
    ∷ rule 9 (not (eqb d.scheme 1))
    ∷ rule 10 (not (eqb d.signature signature))
    ∷ count_rules d.stream

-- N4 to N12, in this order (O1): what an image gets by its approved header
abbrev pub image_rules : List ℕ → List ℕ → ℕ → List Rule
image_rules image approved signature =
    rule 4 (ltb (length approved) 36)
    ∷ rule 4 (not (same (take (length approved) image) approved))
    ∷ field_rules (header_of approved) (length approved) signature
    ++ rule 12 (not (eqb (length image) (image_length (header_of approved))))
    ∷ []

-- N1, then N4 to N12: what an image gets before any block is looked at, where neither map nor table is asked for
abbrev pub stream_rules : List ℕ → List ℕ → ℕ → List Rule
stream_rules image approved signature =
    signature_rules signature ++ size_rules (length image) ++ image_rules image approved signature

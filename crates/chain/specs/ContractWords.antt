-- What the code's contracts ask for and promise, beside the definitions themselves.
use Rattle.std.specs.Prelude.{not, cond, List, [], ◌∷◌, ◌++◌, ◌≡◌, ℕ, ◌+◌, ◌-◌, ◌*◌, ◌^◌, ◌≤◌, ◌<◌, eqb, length, drop, replicate, Result, IfOk}
use Rattle.octets.specs.Parts.{part, put}
use Rattle.answers.specs.Answers.{answer_after, written_after}
use Rattle.answers.specs.Codes.{code_of}
use Rattle.answers.specs.Rules.{Rule, rule, first_broken, signature_rules, size_rules}
use Rattle.answers.specs.declared.Answer.{Answer}
use Rattle.answers.specs.declared.codes.Refusal.{Refusal}
use Rattle.chain.specs.Blocks.{proved_blocks, blocks_stop}
use Rattle.chain.specs.Code.{header_with, order_of}
use Rattle.chain.specs.Hashsum.{hashsum, sum_length, id_rules}
use Rattle.chain.specs.Header.{Header, Stream, header_of, block_data_length, first_block, image_length}
use Rattle.chain.specs.Header.{block_size_rules, image_rules}
use Rattle.chain.specs.Open.{open_answer, proved_file}
use Rattle.chain.specs.Pack.{Order, pack_rules, packed_header, blocks_from}
use Rattle.chain.specs.declared.blocks.ProvedBlocks.{ProvedBlocks}
use Rattle.chain.specs.declared.header.Header.{Header as Fields}

-- the image passes 4 to 12, with the signature length that its header says
abbrev pub Passes : List ℕ → List ℕ → Type 0
Passes image approved = first_broken (image_rules image approved (header_of approved).signature) ≡ 0

-- so it has its blocks, and k is the number of one of them, from 0
abbrev pub HasBlock : List ℕ → List ℕ → ℕ → Type 0
HasBlock image approved k = Passes image approved × (k < (header_of approved).stream.count)

-- ---- the header

-- what the length of a file stands on
pub record Sized (s : Stream) : Type 0 where
  pub above : s.hashsum_length < s.block_size
  pub padded : s.padding < block_data_length s.block_size s.hashsum_length
  pub counted : 0 < s.count

-- ---- blocks

-- block k of those that stand in an image from an offset on
abbrev pub block_at : List ℕ → ℕ → ℕ → ℕ → List ℕ
block_at image first block_size k = part image (first + k * block_size) block_size

-- how many blocks are proved, and why not the next
abbrev pub proved_of : Header → (ℕ → List ℕ) → ProvedBlocks
proved_of d block = record { count = proved_blocks d block; stop = blocks_stop d block (proved_blocks d block) }

-- ---- open

-- open's answer after this code for its arguments, and what is left in an output that held `before`
pub record Answered (early : ℕ) (d : Header) (block : ℕ → List ℕ) (before : List ℕ) (a : Answer) (after : List ℕ) : Type 0 where
  pub answer : a ≡ answer_after early (open_answer d block)
  pub copied : after ≡ put before 0 (written_after early (proved_file d block))

-- the same of an answer that is given only where nothing of the arguments is refused
pub record OpensTo (early : ℕ) (d : Header) (block : ℕ → List ℕ) (before : List ℕ) (r : Result Answer Refusal) (after : List ℕ) : Type 0 where
  pub code : code_of r ≡ early
  pub answer : IfOk r (λ a. a ≡ open_answer d block)
  pub copied : after ≡ put before 0 (written_after early (proved_file d block))

-- ---- pack

-- its rules on what is packed, by the file's length, which is less than the image's; and those on the image's length
abbrev pub order_rules : Order → List Rule
order_rules p =
    id_rules p.ids
    ++ block_size_rules p.block_size (sum_length p.ids)
    ++ rule 28 (eqb (length p.file) 0)
    ∷ signature_rules p.signature
    ++ size_rules (length p.file)

abbrev pub length_rules : Header → ℕ → List Rule
length_rules d output = size_rules (image_length d) ++ rule 29 (not (eqb output (image_length d))) ∷ []

-- what the fields of a packed header stand on, so that each fits
pub record Orderly (p : Order) : Type 0 where
  pub above : sum_length p.ids < p.block_size
  pub below : p.block_size ≤ 1048576
  pub filled : 0 < length p.file
  pub small : length p.file ≤ 2 ^ 30
  pub short : p.signature ≤ 4096

-- the fields of a packed file, and an output of n bytes passes
pub record Planned (file : List ℕ) (h : Fields) (n : ℕ) : Type 0 where
  pub four : length h.stream.ids ≡ 4
  pub fields : header_with h (packed_header (order_of file h)).root ≡ packed_header (order_of file h)
  pub passes : first_broken (pack_rules (order_of file h) n) ≡ 0

-- where block k begins, and the length of its data
abbrev pub start_of : Fields → ℕ → ℕ
start_of h k = first_block (header_with h []) + k * h.stream.block_size

abbrev pub room_of : Fields → ℕ
room_of h = block_data_length h.stream.block_size h.stream.hashsum_length

-- the blocks from number k on stand in the output
abbrev pub Written : List ℕ → Fields → ℕ → List ℕ → Type 0
Written file h k output = drop (start_of h k) output ≡ blocks_from (order_of file h) (h.stream.count - k) k

-- the hash field before block k of what is written: that block's hashsum, and zero behind the last
abbrev pub link_before : Fields → ℕ → List ℕ → List ℕ
link_before h k output =
    cond (eqb k h.stream.count) (replicate h.stream.hashsum_length 0)
    (hashsum h.stream.ids (part output (start_of h k) h.stream.block_size))

-- there is room for block k in an output of n bytes, and for a hash field at an offset before it
pub record Linkable (h : Fields) (k at n : ℕ) : Type 0 where
  pub sum : h.stream.hashsum_length ≡ sum_length h.stream.ids
  pub numbered : k ≤ h.stream.count
  pub below : h.stream.block_size ≤ 1048576
  pub holds : image_length (header_with h []) ≤ n
  pub before : at + h.stream.hashsum_length ≤ start_of h k

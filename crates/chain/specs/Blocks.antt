-- The chain of blocks: what a block is judged by, how many are proved, and the file that they hold. (B1, N13 and the like:
-- docs/FORMAT.md.)
use Rattle.std.specs.Prelude.{false, not, cond, List, [], ◌∷◌, ◌++◌, ℕ, zero, suc, ◌+◌, ◌*◌, eqb, take, drop}
use Rattle.octets.specs.Parts.{part, same, all_zero}
use Rattle.answers.specs.Answers.{stop_at}
use Rattle.answers.specs.Rules.{Rule, rule, first_broken}
use Rattle.answers.specs.declared.Stop.{Stop}
use Rattle.chain.specs.Hashsum.{hashsum}
use Rattle.chain.specs.Header.{Header, Stream, first_block}

-- Blocks are numbered from 0 here; a place is one more (P1). B1: a block is the hashsum of the next block, then data.
abbrev pub hash_field : Stream → List ℕ → List ℕ
hash_field s block = take s.hashsum_length block

-- B7: padding is zero bytes at the front of the first block's data
abbrev pub padding_of : Stream → ℕ → ℕ
padding_of s k = cond (eqb k 0) s.padding 0

-- N13 to N15, B10 to B12, O5: hashsum differs; padding not zero; last hash field not zero
abbrev pub block_rules : Stream → ℕ → List ℕ → List ℕ → List Rule
block_rules s k expected block =
    rule 13 (not (same (hashsum s.ids block) expected))
    ∷ rule 14 (not (all_zero (part block s.hashsum_length (padding_of s k))))
    ∷ rule 15 (cond (eqb (suc k) s.count) (not (all_zero (hash_field s block))) false)
    ∷ []

-- B8: the file's bytes in a block: its data behind the padding
abbrev pub file_bytes : Stream → ℕ → List ℕ → List ℕ
file_bytes s k block = drop (s.hashsum_length + padding_of s k) block

-- block k of an image
abbrev pub block_of : List ℕ → Header → ℕ → List ℕ
block_of image d k = part image (first_block d + k * d.stream.block_size) d.stream.block_size

-- B5, B10: the root hash is that of the first block; each block has the hashsum of the next
abbrev pub expected : Header → (ℕ → List ℕ) → ℕ → List ℕ
expected d block zero = d.root
expected d block (suc k) = hash_field d.stream (block k)

-- the code that block k gets, 0 where it passes
abbrev pub block_code : Header → (ℕ → List ℕ) → ℕ → ℕ
block_code d block k = first_broken (block_rules d.stream k (expected d block k) (block k))

-- B13: how many of the first n blocks are proved: a block is when it passes and all before it are proved
unfoldable pub proved : Header → (ℕ → List ℕ) → ℕ → ℕ
proved d block zero = zero
proved d block (suc n) =
    cond (eqb (proved d block n) n) (cond (eqb (block_code d block n) 0) (suc n) n) (proved d block n)

-- of all of them
abbrev pub proved_blocks : Header → (ℕ → List ℕ) → ℕ
proved_blocks d block = proved d block d.stream.count

-- what is said of block m where it is bad: its code, at its place
abbrev pub bad_block : Header → (ℕ → List ℕ) → ℕ → Stop
bad_block d block m = stop_at (block_code d block m) (suc m)

-- what the blocks come to, where the first m of them are proved: 0 where these are all, else the next one's code at its place
abbrev pub blocks_stop : Header → (ℕ → List ℕ) → ℕ → Stop
blocks_stop d block m = cond (eqb m d.stream.count) (stop_at 0 0) (bad_block d block m)

-- B9: the file's bytes in the first n blocks
unfoldable pub file_up_to : Stream → (ℕ → List ℕ) → ℕ → List ℕ
file_up_to s block zero = []
file_up_to s block (suc n) = file_up_to s block n ++ file_bytes s n (block n)

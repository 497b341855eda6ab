-- How far the code has come: in the rounds of a block, and in a message that is fed piece by piece.
use Rattle.std.specs.Prelude.{◌≡◌, ℕ, ◌+◌, ◌*◌, ◌/◌, ◌%◌, ◌^◌, ◌<◌, List, ◌++◌, length, take, drop, slice_index}
use Rattle.hashes.specs.declared.Hasher.{Hasher}
use Rattle.hashes.specs.declared.Hasher.TheVariants.{Sha256, Sha384, Sha512, Unknown}
use Rattle.hashes.specs.declared.stream.Stream.{Stream}
use Rattle.hashes.specs.Widths.{Width, Eight}
use Rattle.hashes.specs.Tables.{narrow, wide, initial256, initial384, initial512}
use Rattle.hashes.specs.Padding.{block_bytes}
use Rattle.hashes.specs.Compression.{schedule, after_rounds, after_blocks}
use Rattle.hashes.specs.Digests.{digest, digest_length}
use Rattle.hashes.specs.Code.{plain, in_sixty_four}

-- t rounds of the block M from the hash value H on: the working variables are v, and W has the schedule's words up to t + 16
pub record Rounds (P : Width) (H : Eight) (M : List ℕ) (t : ℕ) (v : Eight) (W : List ℕ) : Type 0 where
  pub sixteen : length M ≡ 16
  pub room : length W ≡ P.rounds
  pub variables : v ≡ after_rounds P (schedule P M) H t
  pub words : (j : ℕ) → j < t + 16 → j < P.rounds → slice_index W j ≡ slice_index (schedule P M) j

-- from v and W as they stand after t rounds of a block to y and Z as they stand after u, whatever the block
abbrev pub Leads : Width → ℕ → Eight → List ℕ → ℕ → Eight → List ℕ → Type 0
Leads P t v W u y Z = (H : Eight) (M : List ℕ) → Rounds P H M t v W → Rounds P H M u y Z

-- the bytes x fed from the hash value H on: v is the hash value after their whole blocks, `pending` begins with the bytes behind
-- these, and n is how many bytes x has, modulo 2^64
pub record Streamed (P : Width) (H : Eight) (v : Eight) (pending : List ℕ) (n : ℕ) (x : List ℕ) : Type 0 where
  pub count : n ≡ length x % 2 ^ 64
  pub value : v ≡ after_blocks P H x (length x / block_bytes P)
  pub behind : take (length x % block_bytes P) pending ≡ drop (length x / block_bytes P * block_bytes P) x

-- the same of a stream, whose hash values have these words
abbrev pub StreamFed : {S : Type 0} {n : ℕ} → Width → (S → Eight) → Eight → Stream S n → List ℕ → Type 0
StreamFed P words H s x = Streamed P H (words s.words) s.pending s.length x

-- a hasher that was begun by the hash ID i and fed the bytes x; of an ID that has no digest it keeps no byte
abbrev pub Fed : Hasher → ℕ → List ℕ → Type 0
Fed (Sha256 s) i x = (i ≡ 2) × StreamFed narrow plain initial256 s x
Fed (Sha384 s) i x = (i ≡ 3) × StreamFed wide plain initial384 s x
Fed (Sha512 s) i x = (i ≡ 4) × StreamFed wide plain initial512 s x
Fed (Unknown n) i x = (n ≡ i) × (digest_length i ≡ 0)

-- a hasher fed a piece p more, whatever it was fed before
abbrev pub Feeds : Hasher → List ℕ → Hasher → Type 0
Feeds h p r = (i : ℕ) (x : List ℕ) → Fed h i x → Fed r i (x ++ p)

-- 64 bytes and a length that tell the digest of what a hasher was fed, where that is of less than 2^64 bytes
abbrev pub Finishes : Hasher → List ℕ → ℕ → Type 0
Finishes h out n = (i : ℕ) (x : List ℕ) → length x < 2 ^ 64 → Fed h i x → (out ≡ in_sixty_four (digest i x)) × (n ≡ digest_length i)

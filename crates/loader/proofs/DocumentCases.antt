-- FORMAT's worked cases E1 to E13, and of E14 the code, as one table.
use mathlib.Core.Path.{◌≡◌, refl}
use mathlib.Core.List.{List, [], ◌∷◌, ◌++◌, map}
use Prim.Native.Nat.{ℕ, ◌-◌, ◌^◌}
use lib.ListN.{replicate}
use Rattle.octets.specs.Numbers.{little, little_bytes}
use Rattle.octets.specs.Parts.{part}
use Rattle.answers.specs.Answers.{Outcome, record_bytes, record_length}
use Rattle.answers.specs.Rules.{first_broken}
use Rattle.board.specs.Cpuid.{ascending, lookup}
use Rattle.board.specs.Map.{ordered, total, uncovered, offset}
use Rattle.board.specs.Records.{records}
use Rattle.hashes.specs.Digests as digests
use Rattle.chain.specs.Hashsum.{sum_length, any_unknown}
use Rattle.chain.specs.Header.{image_length}
use Rattle.chain.specs.Pack.{Order, pack_rules, packed_header}
use Rattle.machine.specs.Bare.{run_bare}
use Rattle.machine.specs.Commands.{has_zero}
use Rattle.machine.specs.Machine.{stores_from, command_begins, finished, magic_read, header_says, header_read}
use Rattle.machine.specs.Machine.{write_read, fill_read, entry_read, check_read, parameters_read, react, run, trace}
use Rattle.machine.specs.Memory.{applied}
use Rattle.machine.proofs.Cases.{magic, write, fill, entry, check, leaf}

-- ---- what a case is

pub data Case : Type 0 where
  -- a command file of the magic, these commands and an entry command, run in this mode on map M: the code
  coded : (mode : ℕ) (commands : List ℕ) → Case
  -- the same, and the memory bytes from an offset on: the code, then so many of them
  left : (mode : ℕ) (commands : List ℕ) (at n : ℕ) → Case
  -- a file of so many bytes packed by these IDs in blocks of this size: the code, header size, blocks and padding
  packing : (ids : List ℕ) (block_size file : ℕ) → Case

-- ---- the unit

-- M: 0x1000 length 0x1000; 0x100000 length 0x2000; memory 12,288 bytes
abbrev M : List ℕ
M = little_bytes 8 0x1000 ++ little_bytes 8 0x1000 ++ little_bytes 8 0x100000 ++ little_bytes 8 0x2000

-- ---- what the definitions say of a case

abbrev ran : ℕ → List ℕ → Outcome
ran mode commands =
    run_bare (record { file = magic ++ commands ++ entry 0; map = M; table = leaf; mode = mode }) (replicate 12288 0)
    (replicate record_length 0)

abbrev order_of : List ℕ → ℕ → ℕ → Order
order_of ids block_size file = record { file = replicate file 0; ids = ids; block_size = block_size; signature = 1 }

abbrev packed_sizes : Order → List ℕ
packed_sizes p =
    first_broken (pack_rules p (image_length (packed_header p)))
    ∷ (packed_header p).header_size
    ∷ (packed_header p).stream.count
    ∷ (packed_header p).stream.padding
    ∷ []

abbrev pub shown : Case → List ℕ
shown (coded mode commands) = (ran mode commands).code ∷ []
shown (left mode commands at n) = (ran mode commands).code ∷ part (ran mode commands).lent at n
shown (packing ids block_size file) = packed_sizes (order_of ids block_size file)

-- ---- the table

pub record Line : Type 0 where
  pub case : Case
  pub says : List ℕ

abbrev line : Case → List ℕ → Line
line case says = record { case = case; says = says }

abbrev pub lines : List Line
lines =
    -- SHA2-256 alone: header 68. Hashsum 32, block size 96: 61 bytes have 1 block and padding 3, 64 bytes 1 and 0, 65 bytes 2 and 63
    line (packing (2 ∷ 0 ∷ 0 ∷ 0 ∷ []) 96 61) (0 ∷ 68 ∷ 1 ∷ 3 ∷ [])
    ∷ line (packing (2 ∷ 0 ∷ 0 ∷ 0 ∷ []) 96 64) (0 ∷ 68 ∷ 1 ∷ 0 ∷ [])
    ∷ line (packing (2 ∷ 0 ∷ 0 ∷ 0 ∷ []) 96 65) (0 ∷ 68 ∷ 2 ∷ 63 ∷ [])
    -- four SHA2-512: header 292
    ∷ line (packing (4 ∷ 4 ∷ 4 ∷ 4 ∷ []) 257 1) (0 ∷ 292 ∷ 1 ∷ 0 ∷ [])
    -- M: address 0x100010 is memory byte 4,112
    ∷ line (left 64 (write 0x100010 (90 ∷ [])) 4111 3) (0 ∷ 0 ∷ 90 ∷ 0 ∷ [])
    -- M: a write of 16 bytes at 0x1FF0 is RAM; 17 bytes give 21
    ∷ line (coded 64 (write 0x1FF0 (replicate 16 5))) (0 ∷ [])
    ∷ line (coded 64 (write 0x1FF0 (replicate 17 5))) (21 ∷ [])
    -- mode 32, M: a fill of 1 at 0xFFFFFFFF gives 21; of 2 gives 20
    ∷ line (coded 32 (fill 0xFFFFFFFF 1)) (21 ∷ [])
    ∷ line (coded 32 (fill 0xFFFFFFFF 2)) (20 ∷ [])
    -- mode 64: a fill of 2 at 2^64 - 1 gives 20
    ∷ line (coded 64 (fill (2 ^ 64 - 1) 2)) (20 ∷ [])
    -- register 0xF0, mask 0x30: value 0x30 passes; value 0xF0 gives 26
    ∷ line (coded 64 (check 1 0x30 0x30 0 (replicate 64 0))) (0 ∷ [])
    ∷ line (coded 64 (check 1 0xF0 0x30 0 (replicate 64 0))) (26 ∷ [])
    -- a write with data length 8 is done below the limit, and not reachable at it
    ∷ line (coded 32 (write (2 ^ 32 - 1) [])) (0 ∷ [])
    ∷ line (coded 32 (write (2 ^ 32) [])) (20 ∷ [])
    ∷ []

-- Each line holds.
pub lines-hold : map (λ (l : Line). shown l.case) lines ≡ map (λ (l : Line). l.says) lines
unfolding little little_bytes ascending lookup ordered total uncovered offset records run_bare record_bytes has_zero stores_from
    command_begins finished magic_read header_says header_read write_read fill_read entry_read check_read parameters_read react run trace applied
    sum_length any_unknown digests.digest_length digests.algorithms digests.algorithm_of
lines-hold = refl

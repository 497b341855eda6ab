-- Computed cases: for each code of a bare run an input that gives it.
use mathlib.Core.Path.{◌≡◌, refl}
use mathlib.Core.List.{List, [], ◌∷◌, ◌++◌, map}
use Prim.Native.Nat.{ℕ, ◌^◌}
use lib.ListN.{length, replicate}
use Rattle.octets.specs.Numbers.{little, little_bytes}
use Rattle.answers.specs.Answers.{record_length}
use Rattle.board.specs.Cpuid.{ascending, lookup}
use Rattle.board.specs.Map.{ordered, total, uncovered}
use Rattle.board.specs.Records.{records}
use Rattle.machine.specs.Bare.{Bare, run_bare}
use Rattle.machine.specs.Commands.{has_zero}
use Rattle.machine.specs.Machine.{
  command_begins,
  finished,
  magic_read,
  header_says,
  header_read,
  write_read,
  fill_read,
  entry_read,
  check_read,
  parameters_read,
  react,
  run,
}

-- ---- files, maps and tables

abbrev pub magic : List ℕ
magic = little_bytes 8 0x8adc5fa2448cb65e

-- a command with its reserved bytes set
abbrev pub command : ℕ → List ℕ → List ℕ
command id bytes = little_bytes 2 id ++ replicate 6 255 ++ little_bytes 8 (length bytes) ++ bytes

abbrev pub write : ℕ → List ℕ → List ℕ
write a bytes = command 0 (little_bytes 8 a ++ bytes)

abbrev pub fill : ℕ → ℕ → List ℕ
fill a n = command 1 (little_bytes 8 a ++ little_bytes 8 n ++ (7 ∷ []) ++ replicate 7 255)

abbrev pub entry : ℕ → List ℕ
entry a = command 2 (little_bytes 8 a)

-- of ECX input 0
abbrev pub check : ℕ → ℕ → ℕ → ℕ → List ℕ → List ℕ
check eax value mask register text =
    command 3
    (little_bytes 4 0 ++ little_bytes 4 eax ++ little_bytes 4 value ++ little_bytes 4 mask ++ (register ∷ []) ++ replicate 7 255 ++ text)

-- one region of 16 bytes at 0x1000
abbrev small : List ℕ
small = little_bytes 8 0x1000 ++ little_bytes 8 16

-- one record, of inputs EAX 1, ECX 0: EAX 0xF0
abbrev pub leaf : List ℕ
leaf = little_bytes 4 1 ++ little_bytes 4 0 ++ little_bytes 4 0xF0 ++ replicate 12 0

-- ---- the codes

pub record Case : Type 0 where
  pub given : Bare
  pub memory : ℕ

-- what a bare run returns, where so many bytes of memory are lent
abbrev pub returned : Case → ℕ
returned c = (run_bare c.given (replicate c.memory 0) (replicate record_length 0)).code

-- with one leaf and one small region
abbrev on_small : List ℕ → ℕ → ℕ → Case
on_small file mode memory =
    record { given = record { file = file; map = small; table = leaf; mode = mode }; memory = memory }

abbrev with_table : List ℕ → List ℕ → Case
with_table table file =
    record { given = record { file = file; map = small; table = table; mode = 32 }; memory = 16 }

abbrev with64 : List ℕ → Case
with64 file = on_small file 64 16

abbrev pub cases : List Case
cases =
    with64 (
    magic ++ write 0x1002 (1 ∷ 2 ∷ 3 ∷ []) ++ fill 0x100F 1 ++ command 65535 (9 ∷ []) ++ check 1 0x30 0x30 0 (replicate 64 0)
    ++ entry 0x4000
    )
    ∷ on_small magic 33 16
    ∷ on_small magic 32 17
    ∷ with_table (0 ∷ leaf) magic
    ∷ with64 (replicate 8 0)
    ∷ with64 (magic ++ entry 0x1000 ++ (0 ∷ []))
    ∷ with64 (magic ++ command 4 [])
    ∷ with64 (magic ++ command 2 (little_bytes 7 0))
    ∷ with64 (magic ++ entry (2 ^ 52))
    ∷ with64 (magic ++ write 0x100F (1 ∷ 2 ∷ []))
    ∷ with64 (magic ++ check 1 0x30 0x30 0 (replicate 64 1))
    ∷ with_table [] (magic ++ check 1 0x30 0x30 0 (replicate 64 0))
    ∷ with64 (magic ++ check 1 0x30 0x30 4 (replicate 64 0))
    ∷ with64 (magic ++ check 2 0x30 0x30 0 (replicate 64 0))
    ∷ with64 (magic ++ check 1 0xF0 0x30 0 (replicate 64 0))
    ∷ with64 magic
    ∷ []

-- For each code of a bare run some input gives it.
pub each-code-given : map returned cases ≡ 0 ∷ 1 ∷ 2 ∷ 3 ∷ 16 ∷ 17 ∷ 18 ∷ 19 ∷ 20 ∷ 21 ∷ 22 ∷ 23 ∷ 24 ∷ 25 ∷ 26 ∷ 27 ∷ []
unfolding little little_bytes ascending lookup ordered total uncovered records run_bare has_zero
    command_begins finished magic_read header_says header_read write_read fill_read entry_read check_read parameters_read react run
each-code-given = refl

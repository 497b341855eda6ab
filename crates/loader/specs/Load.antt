-- Load: the written machine run over the proved first part of the file (J2). (T1, O1 and the like: docs/FORMAT.md.)
use Rattle.std.specs.Prelude.{List, ◌++◌, ℕ, length}
use Rattle.answers.specs.Answers.{Outcome, answered, answer_after, written_after}
use Rattle.answers.specs.Rules.{Rule, first_broken, signature_rules, size_rules}
use Rattle.answers.specs.declared.Answer.{Answer}
use Rattle.board.specs.Cpuid.{table_rules}
use Rattle.board.specs.Map.{map_rules}
use Rattle.board.specs.Reach.{mode_rules}
use Rattle.chain.specs.Blocks.{block_of, bad_block, file_up_to}
use Rattle.chain.specs.Blocks as blocks
use Rattle.chain.specs.Header.{Header, header_of, file_length, image_rules}
use Rattle.machine.specs.Machine.{Setting, State, Store, setting_of, begun, run, trace, halted, stop_or, answer_of}
use Rattle.machine.specs.Memory.{applied}

-- what load is given to read; `signature` is the expected signature length
pub record Offer : Type 0 where
  pub image : List ℕ
  pub approved : List ℕ
  pub map : List ℕ
  pub table : List ℕ
  pub mode : ℕ
  pub signature : ℕ

-- O1: 1, 2, 3, then 4 to 12, in the order of the numbers, where so many bytes of memory are lent
abbrev pub load_rules : Offer → ℕ → List Rule
load_rules o memory =
    mode_rules o.mode
    ++ signature_rules o.signature
    ++ size_rules (length o.image)
    ++ map_rules o.map memory
    ++ table_rules o.table
    ++ image_rules o.image o.approved o.signature

abbrev pub header : Offer → Header
header o = header_of o.approved

abbrev pub block : Offer → ℕ → List ℕ
block o = block_of o.image (header o)

abbrev pub setting : Offer → Setting
setting o = setting_of (record { length = file_length (header o).stream; mode = o.mode }) o.map o.table

-- after the first k blocks: where the machine stands, and the stores that they caused
abbrev pub state_after : Offer → ℕ → State
state_after o k = run (setting o) (begun (file_length (header o).stream)) (file_up_to (header o).stream (block o) k)

abbrev pub stores_after : Offer → ℕ → List Store
stores_after o k = trace (setting o) (begun (file_length (header o).stream)) (file_up_to (header o).stream (block o) k)

-- T1: a byte of the file may be used only when its block is proved
abbrev pub proved_blocks : Offer → ℕ
proved_blocks o = blocks.proved_blocks (header o) (block o)

abbrev pub ended : Offer → State
ended o = state_after o (proved_blocks o)

abbrev pub stores : Offer → List Store
stores o = stores_after o (proved_blocks o)

-- T2, T14, P9: the machine's stop; where it has not stopped, the first bad block's, with the counts as they stand
abbrev pub load_answer : Offer → Answer
load_answer o =
    answer_of (stop_or (bad_block (header o) (block o) (proved_blocks o)) (halted (ended o).phase)) (ended o).tally

-- what the call answers, and the stores that it makes
abbrev pub answer_made : Offer → ℕ → Answer
answer_made o memory = answer_after (first_broken (load_rules o memory)) (load_answer o)

abbrev pub stores_made : Offer → ℕ → List Store
stores_made o memory = written_after (first_broken (load_rules o memory)) (stores o)

-- what load returns, and leaves in the answer record, which held `old`, and in memory (W3 to W5, P14)
unfoldable pub loaded : Offer → List ℕ → List ℕ → Outcome
loaded o memory old =
    answered old (answer_made o (length memory)) memory
    (applied (setting o).map memory (stores_made o (length memory)))

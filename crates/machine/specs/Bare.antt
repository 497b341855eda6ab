-- Running bare: a command file that is in no image, with map, table, mode and memory (J4).
use Rattle.std.specs.Prelude.{List, ◌++◌, ℕ, length}
use Rattle.answers.specs.Answers.{Outcome, answered, answer_after, written_after, stop_at}
use Rattle.answers.specs.Rules.{Rule, first_broken, size_rules}
use Rattle.answers.specs.declared.Answer.{Answer}
use Rattle.board.specs.Cpuid.{table_rules}
use Rattle.board.specs.Map.{map_rules}
use Rattle.board.specs.Reach.{mode_rules}
use Rattle.machine.specs.Machine.{Setting, State, Store, setting_of, begun, run, trace, halted, stop_or, answer_of}
use Rattle.machine.specs.Memory.{applied}

-- what a bare run is given to read
pub record Bare : Type 0 where
  pub file : List ℕ
  pub map : List ℕ
  pub table : List ℕ
  pub mode : ℕ

-- O1: 1, 2, 3 in this order, before the file is looked at, where so many bytes of memory are lent
abbrev pub bare_rules : Bare → ℕ → List Rule
bare_rules b memory =
    mode_rules b.mode ++ size_rules (length b.file) ++ map_rules b.map memory ++ table_rules b.table

abbrev pub bare_setting : Bare → Setting
bare_setting b = setting_of (record { length = length b.file; mode = b.mode }) b.map b.table

-- T1: in a bare run every byte counts as proved
abbrev pub bare_end : Bare → State
bare_end b = run (bare_setting b) (begun (length b.file)) b.file

-- what the call answers, and the stores that it makes; the whole file always stops the machine, so this 27 is never given
abbrev pub bare_answer_made : Bare → ℕ → Answer
bare_answer_made b memory =
    answer_after (first_broken (bare_rules b memory))
    (answer_of (stop_or (stop_at 27 (length b.file)) (halted (bare_end b).phase)) (bare_end b).tally)

abbrev pub bare_stores_made : Bare → ℕ → List Store
bare_stores_made b memory =
    written_after (first_broken (bare_rules b memory)) (trace (bare_setting b) (begun (length b.file)) b.file)

-- what a bare run returns, and leaves in the answer record, which held `old`, and in memory
unfoldable pub run_bare : Bare → List ℕ → List ℕ → Outcome
run_bare b memory old =
    answered old (bare_answer_made b (length memory)) memory
    (applied (bare_setting b).map memory (bare_stores_made b (length memory)))

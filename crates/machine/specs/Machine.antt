-- The written machine: what each proved byte of a command file does. (T1, F14 and the like: docs/FORMAT.md.)
-- It is told the unit and the file's length, and it never sees memory: it answers with the stores to make.
use Rattle.std.specs.Prelude.{cond, List, [], ◌∷◌, ◌++◌, ℕ, suc, pred, ◌+◌, ◌-◌, eqb, ltb, length, replicate, Option, Some, None, is_some, unwrap_or}
use Rattle.octets.specs.Numbers.{little}
use Rattle.answers.specs.Answers.{stop_at, told}
use Rattle.answers.specs.Rules.{first_broken}
use Rattle.answers.specs.declared.Answer.{Answer}
use Rattle.answers.specs.declared.Stop.{Stop}
use Rattle.board.specs.Cpuid.{Leaf, leaves}
use Rattle.board.specs.Map.{Region, regions}
use Rattle.board.specs.Reach.{limit}
use Rattle.machine.specs.Commands.{
  named,
  command_id,
  data_length,
  address,
  fill_count,
  pattern,
  judged_bytes,
  data_rules,
  length_rules,
  range_rules,
  entry_rules,
  check_rules,
}
use Rattle.machine.specs.declared.Command.{Command}
use Rattle.machine.specs.declared.Command.TheVariants.{Write, Fill, Entry, Check}
use Rattle.machine.specs.declared.Job.{Job}
use Rattle.machine.specs.declared.Named.{Named}
use Rattle.machine.specs.declared.Named.TheVariants.{Known, Skipped, Unknown}
use Rattle.machine.specs.declared.Phase.{Phase}
use Rattle.machine.specs.declared.Phase.TheVariants.{Magic, Header, Parameters, Storing, Skipping, Stopped}
use Rattle.machine.specs.declared.Tally.{Tally}

-- what a run is held against: the job, which is the file's length and the mode, and the unit's map and table
pub record Setting : Type 0 where
  pub job : Job
  pub map : List Region
  pub table : List Leaf

abbrev pub setting_of : Job → List ℕ → List ℕ → Setting
setting_of job map table = record { job = job; map = regions map; table = leaves table }

-- where a run stands between two bytes of the file
pub record State : Type 0 where
  pub phase : Phase
  -- the bytes so far of the magic, or of the command's header and parameters
  pub gathered : List ℕ
  -- the file offsets of the command's first byte, and of the next byte
  pub start : ℕ
  pub next : ℕ
  -- commands done, bytes stored, and the last entry, if one was set
  pub tally : Tally

-- a byte for an address
pub record Store : Type 0 where
  pub address : ℕ
  pub byte : ℕ

-- what bytes do: the state after them, and the stores that they cause, in order
pub record Effect : Type 0 where
  pub state : State
  pub stores : List Store

abbrev pub no_stores : State → Effect
no_stores s = record { state = s; stores = [] }

-- bytes for ascending addresses from a on
unfoldable pub stores_from : ℕ → List ℕ → List Store
stores_from a [] = []
stores_from a (b ∷ bs) = record { address = a; byte = b } ∷ stores_from (suc a) bs

abbrev pub in_phase : Phase → State → State
in_phase p s = record { phase = p; gathered = s.gathered; start = s.start; next = s.next; tally = s.tally }

abbrev pub stopped : ℕ → ℕ → State → State
stopped code place = in_phase (Stopped (stop_at code place))

-- the byte b is used: kept behind those gathered
abbrev pub kept : ℕ → State → State
kept b s =
    record { phase = s.phase; gathered = s.gathered ++ (b ∷ []); start = s.start; next = suc s.next; tally = s.tally }

-- the byte is used and not kept
abbrev pub used : State → State
used s = record { phase = s.phase; gathered = s.gathered; start = s.start; next = suc s.next; tally = s.tally }

abbrev pub tallied : Tally → State → State
tallied t s = record { phase = s.phase; gathered = s.gathered; start = s.start; next = s.next; tally = t }

-- T13: bytes stored counts every store, repeats included
abbrev pub with_stored : ℕ → Tally → Tally
with_stored n t =
    record { commands = t.commands; stored = t.stored + n; entry = t.entry }

-- F14: the last entry counts
abbrev pub with_entry : ℕ → Tally → Tally
with_entry a t = record { commands = t.commands; stored = t.stored; entry = Some a }

abbrev pub with_command : Tally → Tally
with_command t = record { commands = suc t.commands; stored = t.stored; entry = t.entry }

-- the bytes of a command are awaited
abbrev pub awaiting : State → State
awaiting s = record { phase = Header; gathered = []; start = s.next; next = s.next; tally = s.tally }

-- T9, O12: where a command would begin in a file of this length, judged from sizes alone: at the file's end 0, or 27 without an
-- entry command; 17 with 1 to 15 bytes left; else a command begins.
unfoldable pub command_begins : ℕ → State → State
command_begins file_length s =
    cond (eqb s.next file_length) (cond (is_some s.tally.entry) (stopped 0 0 s) (stopped 27 file_length s))
    (cond (ltb (file_length - s.next) 16) (stopped 17 s.next s) (awaiting s))

-- T11: a command counts as done when its last byte has been used
unfoldable pub finished : ℕ → State → State
finished file_length s = command_begins file_length (tallied (with_command s.tally) s)

-- P2, T12: a command that breaks a rule stops the run, with its first byte as the place; one that breaks none has its effect
abbrev pub judged : ℕ → State → Effect → Effect
judged code s e = cond (eqb code 0) e (no_stores (stopped code s.start s))

-- T3, F1: the magic is judged when its 8 bytes are proved
unfoldable pub magic_read : ℕ → State → Effect
magic_read file_length s =
    no_stores (cond (eqb (little s.gathered) 0x8adc5fa2448cb65e) (command_begins file_length s) (stopped 16 0 s))

-- T4, T10: what a header says of data of n bytes: a command is judged by its length, and waits for what else it is judged by;
-- a skipped one has its data skipped (F17); an unknown one is refused (N18).
unfoldable pub header_says : Named → ℕ → ℕ → State → Effect
header_says (Known k) file_length n s =
    judged (first_broken (length_rules k n (file_length - s.next))) s (no_stores (in_phase (Parameters k) s))
header_says Skipped file_length n s =
    judged (first_broken (data_rules n (file_length - s.next))) s
    (no_stores (cond (eqb n 0) (finished file_length s) (in_phase (Skipping n) s)))
header_says Unknown file_length n s = no_stores (stopped 18 s.start s)

unfoldable pub header_read : ℕ → State → Effect
header_read file_length s = header_says (named (command_id s.gathered)) file_length (data_length s.gathered) s

-- T5, T6, F11: a write's address is judged over its whole range; then each byte is stored as it comes
unfoldable pub write_read : Job → List Region → State → Effect
write_read job map s =
    let n = data_length s.gathered - 8 in
    judged (first_broken (range_rules map (limit job.mode) (address s.gathered) n)) s
    (no_stores (cond (eqb n 0) (finished job.length s) (in_phase (Storing (address s.gathered) n) s)))

-- T7, F12: a fill stores ascending
unfoldable pub fill_read : Job → List Region → State → Effect
fill_read job map s =
    let n = fill_count s.gathered in
    judged (first_broken (range_rules map (limit job.mode) (address s.gathered) n)) s
    (record {
      state = finished job.length (tallied (with_stored n s.tally) s);
      stores = stores_from (address s.gathered) (replicate n (pattern s.gathered));
    })

unfoldable pub entry_read : Job → State → Effect
entry_read job s =
    judged (first_broken (entry_rules (limit job.mode) (address s.gathered))) s
    (no_stores (finished job.length (tallied (with_entry (address s.gathered) s.tally) s)))

unfoldable pub check_read : ℕ → List Leaf → State → Effect
check_read file_length table s =
    judged (first_broken (check_rules table s.gathered)) s (no_stores (finished file_length s))

unfoldable pub parameters_read : Command → Setting → State → Effect
parameters_read Write e s = write_read e.job e.map s
parameters_read Fill e s = fill_read e.job e.map s
parameters_read Entry e s = entry_read e.job s
parameters_read Check e s = check_read e.job.length e.table s

-- the byte b is gathered; when all that are awaited are there, what they say
abbrev pub gather : ℕ → (State → Effect) → State → ℕ → Effect
gather all says s b = let t = kept b s in cond (ltb (length t.gathered) all) (no_stores t) (says t)

-- T11: the last byte of a command's data finishes it
abbrev pub unless_last : ℕ → ℕ → Phase → State → State
unless_last file_length left p s = cond (eqb left 1) (finished file_length s) (in_phase p s)

-- what one proved byte does; one behind a stop does nothing (T14)
unfoldable pub react : Phase → Setting → State → ℕ → Effect
react Magic e s b = gather 8 (magic_read e.job.length) s b
react Header e s b = gather 16 (header_read e.job.length) s b
react (Parameters k) e s b = gather (16 + judged_bytes k) (parameters_read k e) s b
react (Storing a left) e s b =
    record {
      state = unless_last e.job.length left (Storing (suc a) (pred left)) (used (tallied (with_stored 1 s.tally) s));
      stores = record { address = a; byte = b } ∷ [];
    }
react (Skipping left) e s b = no_stores (unless_last e.job.length left (Skipping (pred left)) (used s))
react (Stopped stop) e s b = no_stores s

abbrev pub step : Setting → State → ℕ → Effect
step e s b = react s.phase e s b

-- the state after the bytes
unfoldable pub run : Setting → State → List ℕ → State
run e s [] = s
run e s (b ∷ bs) = run e (step e s b).state bs

-- the stores that the bytes cause, in order
unfoldable pub trace : Setting → State → List ℕ → List Store
trace e s [] = []
trace e s (b ∷ bs) = (step e s b).stores ++ trace e (step e s b).state bs

-- T8: before the first byte; 16 for a short file is judged from its size
abbrev pub begun : ℕ → State
begun file_length =
    record {
      phase = cond (ltb file_length 8) (Stopped (stop_at 16 0)) Magic;
      gathered = [];
      start = 0;
      next = 0;
      tally = record { commands = 0; stored = 0; entry = None };
    }

-- whether a run has stopped, and with what
abbrev pub halted : Phase → Option Stop
halted Magic = None
halted Header = None
halted (Parameters k) = None
halted (Storing a left) = None
halted (Skipping left) = None
halted (Stopped stop) = Some stop

-- the stop of a run that has stopped; of one that has not, the given one
abbrev pub stop_or : Stop → Option Stop → Stop
stop_or otherwise (Some stop) = stop
stop_or otherwise None = otherwise

-- P6, P7, P9: the answer of a stop, with the counts as they stand; entry is 0 on refusal
abbrev pub answer_of : Stop → Tally → Answer
answer_of stop t = told stop t.commands t.stored (cond (eqb stop.code 0) (unwrap_or t.entry 0) 0)

-- What contracts say besides the machine itself.
use Rattle.std.specs.Prelude.{Result, Ok, Err, Bool, true, false, cond, ◌≡◌, List, ◌++◌, ℕ, ◌+◌, ◌-◌, ◌≤◌, ◌<◌, ◌^◌, ⊤, min, eqb, ltb, length, take}
use Rattle.answers.specs.Answers.{refused}
use Rattle.answers.specs.Codes.{number}
use Rattle.answers.specs.Rules.{first_broken}
use Rattle.answers.specs.declared.Answer.{Answer}
use Rattle.answers.specs.declared.codes.Refusal.{Refusal}
use Rattle.board.specs.Map.{Region, regions, total, map_rules}
use Rattle.machine.specs.Bare.{Bare, bare_setting, bare_answer_made, bare_stores_made}
use Rattle.machine.specs.Code.{state_of}
use Rattle.machine.specs.Commands.{data_length, judged_bytes, wrong_length}
use Rattle.machine.specs.Machine.{
  Setting,
  State,
  Effect,
  setting_of,
  no_stores,
  in_phase,
  stopped,
  magic_read,
  header_read,
  parameters_read,
  finished,
  run,
  trace,
}
use Rattle.machine.specs.Memory.{applied}
use Rattle.machine.specs.Reached.{Reached}
use Rattle.machine.specs.declared.Awaited.{Awaited}
use Rattle.machine.specs.declared.Awaited.TheVariants.{Magic, Header, Parameters}
use Rattle.machine.specs.declared.Control.{Control}
use Rattle.machine.specs.declared.Job.{Job}
use Rattle.machine.specs.declared.Phase.{Phase}
use Rattle.machine.specs.declared.Phase.TheVariants.{Storing, Skipping, Stopped}
use Rattle.machine.specs.declared.Setting as code
use Rattle.machine.specs.declared.bare.Given.{Given}

-- what the bytes do together: the state after them, and the stores that they cause
abbrev pub effects : Setting → State → List ℕ → Effect
effects e s xs = record { state = run e s xs; stores = trace e s xs }

-- what a run is held against
abbrev pub held : code.Setting → Setting
held on = setting_of on.job on.map.bytes.now on.table.now

-- the bytes are used: kept behind those gathered
abbrev pub kept_all : List ℕ → State → State
kept_all xs s =
    record {
      phase = s.phase;
      gathered = s.gathered ++ xs;
      start = s.start;
      next = s.next + length xs;
      tally = s.tally;
    }

-- the bytes are gathered; when all that are awaited are there, what they say
abbrev pub gather_all : ℕ → (State → Effect) → State → List ℕ → Effect
gather_all all says s xs = let t = kept_all xs s in cond (ltb (length t.gathered) all) (no_stores t) (says t)

-- n of the `left` bytes of a command's data are used: the last one finishes it, else the phase is p
abbrev pub data_used : ℕ → ℕ → ℕ → Phase → State → State
data_used file_length n left p s =
    let u : State =
    record { phase = s.phase; gathered = s.gathered; start = s.start; next = s.next + n; tally = s.tally } in
    cond (eqb left n) (finished file_length u) (in_phase p u)

-- ---- what bytes are gathered for

abbrev pub phase_of : Awaited → Phase
phase_of Magic = Phase.Magic
phase_of Header = Phase.Header
phase_of (Parameters k) = Phase.Parameters k

-- how many are awaited, and what they say when all are there
abbrev pub awaited : Awaited → ℕ
awaited Magic = 8
awaited Header = 16
awaited (Parameters k) = 16 + judged_bytes k

abbrev pub says : Awaited → Setting → State → Effect
says Magic e = magic_read e.job.length
says Header e = header_read e.job.length
says (Parameters k) e = parameters_read k e

-- whether a command's last byte has been used, or it was refused
abbrev pub is_over : Phase → ℕ → Bool
is_over Phase.Magic kept = false
is_over Phase.Header kept = eqb kept 0
is_over (Phase.Parameters k) kept = false
is_over (Storing a left) kept = false
is_over (Skipping left) kept = false
is_over (Stopped stop) kept = true

-- ---- what steps do

-- the state after a step from c: a command that is refused stops the run at its first byte
abbrev pub after : Control → Result Control Refusal → List ℕ → State
after c (Ok r) h = state_of r h
after c (Err why) h = stopped (number why) c.start (state_of c h)

-- the step from c to r is f, whatever bytes are gathered
abbrev pub Steps : Control → Control → (State → State) → Type 0
Steps c r f = (h : List ℕ) → state_of r h ≡ f (state_of c h)

-- the same of an effect that is without stores
abbrev pub Says : Control → Result Control Refusal → (State → Effect) → Type 0
Says c r f = (h : List ℕ) → f (state_of c h) ≡ no_stores (after c r h)

-- the effect e is done: s is the state after it, and the memory `before` has become `after`
pub record Done (e : Effect) (s : State) (map : List Region) (before after : List ℕ) : Type 0 where
  pub state : s ≡ e.state
  pub memory : after ≡ applied map before e.stores

-- the first `used` bytes of the rest are used, at least one, and what they do is done
pub record Used (e : Setting) (s : State) (rest : List ℕ) (used : ℕ) (t : State) (map : List Region) (before after : List ℕ) : Type 0 where
  pub progress : 0 < used
  pub within : used ≤ length rest
  pub done : Done (effects e s (take used rest)) t map before after

-- as many of the rest's bytes as are awaited, up to `all`, and at hand are kept behind those gathered
pub record Gathers (all : ℕ) (c : Control) (gathered rest : List ℕ) (r : Control) (after : List ℕ) (used : ℕ) : Type 0 where
  pub many : used ≡ min (all - c.kept) (length rest)
  pub state : state_of r after ≡ kept_all (take used rest) (state_of c gathered)
  pub kept : r.kept ≡ c.kept + used

-- ---- what they may ask

-- Lent and Roomy, and that one command more can be counted, stand in the contracts and in no struct: each speaks of a control
-- or of memory that the run changes, so a struct that carried it would be taken apart and made again at each step. Ready is
-- the clause of take_piece, which PROMISES names, handed on to what takes the piece.

-- a file that is not too long, a map that is taken with this much memory, and a state that begin and earlier pieces give
pub record Ready (job : Job) (map table : List ℕ) (memory : ℕ) (s : State) : Type 0 where
  pub short : job.length ≤ 2 ^ 30
  pub taken : first_broken (map_rules map memory) ≡ 0
  pub reached : Reached (setting_of job map table) s

-- memory of as many bytes as the map's regions have
pub record Lent (map : List ℕ) (memory : ℕ) : Type 0 where
  pub sum : total (regions map) ≡ memory
  pub small : memory ≤ 2 ^ 32

-- c stands within a file of this length, and its counts have room for one command more
pub record Roomy (c : Control) (file_length : ℕ) : Type 0 where
  pub inside : c.next ≤ file_length
  pub commands : c.tally.commands + 1 < 2 ^ 64
  pub stored : c.tally.stored + 2 ^ 32 < 2 ^ 64

-- of a command's parameters: its length has passed
abbrev pub Passed : Awaited → State → Type 0
Passed Magic s = ⊤
Passed Header s = ⊤
Passed (Parameters k) s = wrong_length k (data_length s.gathered) ≡ false

-- `left` bytes of a write are to come, which the file has, and its addresses do not wrap
pub record Stores (c : Control) (address left file_length : ℕ) : Type 0 where
  pub short : file_length ≤ 2 ^ 30
  pub ahead : c.next + left ≤ file_length
  pub below : address + left < 2 ^ 64
  pub counts : Roomy c file_length

-- ---- what a bare run is given and gives

-- what the code is given to read
abbrev pub bare_given : Given → Bare
bare_given g = record { file = g.file.now; map = g.map.now; table = g.table.now; mode = g.mode }

-- the answer, or that of a refusal that nothing went before
abbrev pub answer_or_refused : Result Answer Refusal → Answer
answer_or_refused (Ok a) = a
answer_or_refused (Err why) = refused (number why)

pub record BareGives (b : Bare) (before : List ℕ) (r : Result Answer Refusal) (after : List ℕ) : Type 0 where
  pub answer : answer_or_refused r ≡ bare_answer_made b (length before)
  pub memory : after ≡ applied (bare_setting b).map before (bare_stores_made b (length before))

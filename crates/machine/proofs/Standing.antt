-- What every state that a run comes to satisfies, and what each byte does to it.
use mathlib.Core.Bool.{Bool, true, false, ◌||◌, cond}
use mathlib.Core.Path.{◌≡◌, refl, sym, ap, ◌∙◌}
use mathlib.Core.List.{List, [], ◌∷◌, ◌++◌}
use mathlib.Core.Logic.{◌⊎◌, inl, inr, ◌≢◌}
use Prim.Native.Nat.{ℕ, suc, pred, ◌+◌, ◌-◌, ◌≤◌, ◌<◌, max}
use native.Mathlib.Nat.{add-zero}
use native.Mathlib.Omega.{arith}
use borrow.Author.Tests.{ltb-true, ltb-false, leb-true, le-leb, eqb-true, eqb-false, not-false}
use lib.Dec.{T, eqb, leb, ltb, lit≤}
use lib.ListN.{length, replicate, take, drop, length-append, length-replicate, length-drop}
use lib.Seq.{take-append-le, drop-append-le}
use Rattle.std.specs.Prelude.{is_some, unwrap_or}
use Rattle.octets.specs.Numbers.{little}
use Rattle.answers.specs.Answers.{stop_at}
use Rattle.answers.specs.Rules.{Rule, first_broken}
use Rattle.answers.specs.declared.Stop.{Stop}
use Rattle.answers.proofs.ChoiceLaws.{cond_cases, cond-parts}
use Rattle.answers.proofs.RuleLaws.{numbered, AllHold, zero-all-hold, codes_pass, not_none}
use Rattle.board.specs.Map.{Region, end, uncovered, ram}
use Rattle.board.specs.Reach.{limit, reachable}
use Rattle.board.proofs.MapLaws.{ram-empty}
use Rattle.machine.specs.Commands.{
  named,
  command_id,
  data_length,
  address,
  fill_count,
  pattern,
  judged_bytes,
  wrong_length,
  data_rules,
  length_rules,
  range_rules,
  entry_rules,
  check_rules,
}
use Rattle.machine.specs.Machine.{
  Setting,
  State,
  Store,
  Effect,
  react,
  step,
  no_stores,
  kept,
  used,
  in_phase,
  stopped,
  tallied,
  awaiting,
  with_stored,
  with_entry,
  with_command,
  command_begins,
  finished,
  judged,
  magic_read,
  header_says,
  header_read,
  write_read,
  fill_read,
  entry_read,
  check_read,
  parameters_read,
  stores_from,
  begun,
}
use Rattle.machine.specs.declared.Command.{Command}
use Rattle.machine.specs.declared.Command.TheVariants.{Write, Fill, Entry, Check}
use Rattle.machine.specs.declared.Named.{Named}
use Rattle.machine.specs.declared.Named.TheVariants.{Known, Skipped, Unknown}
use Rattle.machine.specs.declared.Phase.{Phase}
use Rattle.machine.specs.declared.Phase.TheVariants.{Magic, Header, Parameters, Storing, Skipping, Stopped}
use Rattle.machine.specs.declared.Tally.{Tally}
use Rattle.machine.proofs.MemoryLaws.{length-stores_from}

-- ---- the ways that a step goes

-- where a command would begin
pub begins_cases : (P : State → Type 0) (file_length : ℕ) (s : State)
    → (s.next ≡ file_length → is_some s.tally.entry ≡ true → P (stopped 0 0 s))
    → (s.next ≡ file_length → is_some s.tally.entry ≡ false → P (stopped 27 file_length s))
    → (s.next ≢ file_length → P (stopped 17 s.next s)) → (16 ≤ file_length - s.next → P (awaiting s)) → P (command_begins file_length s)
unfolding command_begins
begins_cases P file_length s done without short on =
    cond_cases P (eqb s.next file_length) _ _
    (λ e. let end = eqb-true s.next file_length e in
    cond_cases P (is_some s.tally.entry) (stopped 0 0 s) (stopped 27 file_length s) (done end) (without end))
    (λ e. cond_cases P (ltb (file_length - s.next) 16) (stopped 17 s.next s) (awaiting s)
    (λ f. short (eqb-false s.next file_length e)) (λ f. on (ltb-false (file_length - s.next) 16 f)))

-- the number that a command file begins with
abbrev pub file_magic : ℕ
file_magic = 0x8adc5fa2448cb65e

-- the magic is judged
pub magic-cases : (P : Effect → Type 0) (file_length : ℕ) (s : State)
    → (little s.gathered ≡ file_magic → P (no_stores (command_begins file_length s)))
    → (little s.gathered ≢ file_magic → P (no_stores (stopped 16 0 s))) → P (magic_read file_length s)
unfolding magic_read
magic-cases P file_length s same differs =
    cond_cases (λ (t : State). P (no_stores t)) (eqb (little s.gathered) file_magic) (command_begins file_length s) (stopped 16 0 s)
    (λ e. same (eqb-true (little s.gathered) file_magic e)) (λ e. differs (eqb-false (little s.gathered) file_magic e))

-- the numbers by which commands are refused
abbrev is_command_code : ℕ → Bool
is_command_code c = cond (leb 17 c) (leb c 26) false

-- the rules' numbers are of these
abbrev pub CommandRules : List Rule → Type 0
CommandRules rs = T (numbered rs) × T (codes_pass (λ (c : ℕ). eqb c 0 || is_command_code c) rs)

-- a command that is judged by such rules
pub judged-cases : (P : Effect → Type 0) (rs : List Rule) (s : State) (t : Effect) → CommandRules rs
    → ((code : ℕ) → 17 ≤ code → code ≤ 26 → P (no_stores (stopped code s.start s))) → (AllHold rs → P t)
    → P (judged (first_broken rs) s t)
judged-cases P rs s t (n, codes) refused f =
    let code = first_broken rs in
    cond_cases P (eqb code 0) t (no_stores (stopped code s.start s)) (λ e. f (zero-all-hold rs n (eqb-true code 0 e)))
    (λ e. let c = cond-parts (leb 17 code) (leb code 26) (not_none is_command_code rs codes (eqb-false code 0 e)) in
    refused code (lit≤ c.0) (lit≤ c.1))

-- ---- what the numbers of a state mean

-- how a run has ended: done at the file's end with an entry; before any store, at the magic; refused at a command;
-- or at the file's end without an entry
pub data Ended (on : Setting) (s : State) (stop : Stop) : Type 0 where
  at-end : stop.code ≡ 0 → s.next ≡ on.job.length → is_some s.tally.entry ≡ true → Ended on s stop
  at-magic : stop.code ≡ 16 → s.tally.stored ≡ 0 → Ended on s stop
  at-command : 17 ≤ stop.code → stop.code ≤ 26 → Ended on s stop
  without-entry : stop.code ≡ 27 → s.next ≡ on.job.length → is_some s.tally.entry ≡ false → Ended on s stop

pub ended-done : (on : Setting) (s : State) (stop : Stop) → Ended on s stop → stop.code ≡ 0
    → (s.next ≡ on.job.length) × (is_some s.tally.entry ≡ true)
ended-done on s stop (at-end c n f) q = (n, f)
ended-done on s stop (at-magic c n) q = absurd (omega arith)
ended-done on s stop (at-command l u) q = absurd (omega arith)
ended-done on s stop (without-entry c n f) q = absurd (omega arith)

pub ended-without : (on : Setting) (s : State) (stop : Stop) → Ended on s stop → stop.code ≡ 27
    → (s.next ≡ on.job.length) × (is_some s.tally.entry ≡ false)
ended-without on s stop (at-end c n f) q = absurd (omega arith)
ended-without on s stop (at-magic c n) q = absurd (omega arith)
ended-without on s stop (at-command l u) q = absurd (omega arith)
ended-without on s stop (without-entry c n f) q = (n, f)

-- the bytes that a command stores: of a write those behind its address
abbrev pub range_length : Command → List ℕ → ℕ
range_length Write c = data_length c - 8
range_length Fill c = fill_count c
range_length Entry c = 0
range_length Check c = 0

-- c is a command whose whole range is RAM and reachable
pub record WholeRange (on : Setting) (k : Command) (c : List ℕ) : Type 0 where
  pub is : named (command_id c) ≡ Known k
  pub in-ram : ram on.map (address c) (range_length k c) ≡ true
  pub in_reach : reachable (limit on.job.mode) (address c) (range_length k c) ≡ true

-- what each phase says of the bytes gathered and of the bytes to come
abbrev pub Meant : Setting → Phase → State → Type 0
Meant on Magic s =
    (s.next ≡ length s.gathered) × (s.next < 8) × (8 ≤ on.job.length) × (s.tally.stored ≡ 0)
Meant on Header s =
    (s.next ≡ s.start + length s.gathered) × (length s.gathered < 16) × (s.start + 16 ≤ on.job.length)
-- the header gathered names k, with a data length that is right for k and fits the file
Meant on (Parameters k) s =
    (s.next ≡ s.start + length s.gathered) × (16 ≤ length s.gathered)
    × (length s.gathered < 16 + judged_bytes k)
    × (wrong_length k (data_length s.gathered) ≡ false)
    × (s.start + 16 + data_length s.gathered ≤ on.job.length)
    × (named (command_id s.gathered) ≡ Known k)
-- the last `left` bytes of the write gathered, whose whole range was judged
Meant on (Storing a left) s =
    (0 < left) × (s.next + left ≤ on.job.length) × (ram on.map a left ≡ true)
    × (a + left ≤ limit on.job.mode) × WholeRange on Write s.gathered
    × (address s.gathered ≤ a) × (a + left ≡ address s.gathered + range_length Write s.gathered)
Meant on (Skipping left) s =
    (0 < left) × (s.next + left ≤ on.job.length) × (named (command_id s.gathered) ≡ Skipped)
Meant on (Stopped stop) s = Ended on s stop

pub record Stands (on : Setting) (s : State) : Type 0 where
  pub order : s.start ≤ s.next
  pub inside : s.next ≤ on.job.length
  pub counted : s.tally.commands ≤ s.next
  pub enters : unwrap_or s.tally.entry 0 ≤ limit on.job.mode
  pub meant : Meant on s.phase s

-- the stores are bytes along one range that is RAM and reachable
abbrev pub Along : Setting → List Store → Type 0
Along on xs =
    (a : ℕ) × (bs : List ℕ) × (xs ≡ stores_from a bs) × (ram on.map a (length bs) ≡ true)
    × (a + length bs ≤ limit on.job.mode)

-- the effect of a byte after which `at` is the offset of the next one, where the counts were those of `before`
pub record Proper (on : Setting) (at : ℕ) (before : Tally) (t : Effect) : Type 0 where
  pub next : t.state.next ≡ at
  pub order : t.state.start ≤ t.state.next
  pub commands : t.state.tally.commands ≤ suc before.commands
  pub stored : t.state.tally.stored ≡ before.stored + length t.stores
  pub enters : unwrap_or before.entry 0 ≤ limit on.job.mode → unwrap_or t.state.tally.entry 0 ≤ limit on.job.mode
  pub along : Along on t.stores
  pub meant : Meant on t.state.phase t.state

along-none : (on : Setting) → Along on []
unfolding stores_from
along-none on = (0, [], refl, ram-empty on.map 0, omega arith)

-- an effect with no stores
module _ (on : Setting) (u : State) (order : u.start ≤ u.next) where
  quiet-proper : (p : Phase) → Meant on p (in_phase p u) → Proper on u.next u.tally (no_stores (in_phase p u))
  quiet-proper p m =
      record {
        next = refl;
        order = order;
        commands = omega arith;
        stored = sym (add-zero u.tally.stored);
        enters = λ h. h;
        along = along-none on;
        meant = m;
      }

  refused-proper : (code : ℕ) → 17 ≤ code → code ≤ 26 → Proper on u.next u.tally (no_stores (stopped code u.start u))
  refused-proper code l h = quiet-proper (Stopped (stop_at code u.start)) (at-command l h)

  judged-proper : (rs : List Rule) (t : Effect) → CommandRules rs → (AllHold rs → Proper on u.next u.tally t)
      → Proper on u.next u.tally (judged (first_broken rs) u t)
  judged-proper rs t r f = judged-cases (Proper on u.next u.tally) rs u t r refused-proper f

module _ (on : Setting) (u s : State) (xs : List Store) (next : s.next ≡ u.next) (order : s.start ≤ s.next)
    (inside : s.next ≤ on.job.length) (stored : s.tally.stored ≡ u.tally.stored + length xs)
    (enters : unwrap_or u.tally.entry 0 ≤ limit on.job.mode → unwrap_or s.tally.entry 0 ≤ limit on.job.mode) (along : Along on xs) where
  begins-proper : s.tally.commands ≤ suc u.tally.commands
      → Proper on u.next u.tally (record { state = command_begins on.job.length s; stores = xs })
  begins-proper commands =
      begins_cases P on.job.length s (λ e f. stops 0 0 (at-end refl e f)) (λ e f. stops 27 on.job.length (without-entry refl e f))
      (λ e. stops 17 s.next (at-command (lit≤ tt) (lit≤ tt)))
      (λ l. record {
        next = next;
        order = omega arith;
        commands = commands;
        stored = stored;
        enters = enters;
        along = along;
        meant = (omega arith, lit≤ tt, omega arith);
      })
    where
      P : State → Type 0
      P t = Proper on u.next u.tally (record { state = t; stores = xs })

      stops : (code place : ℕ) → Ended on (stopped code place s) (stop_at code place) → P (stopped code place s)
      stops code place m =
          record { next = next; order = order; commands = commands; stored = stored; enters = enters; along = along; meant = m }

-- a command's last byte has been used
module _ (on : Setting) (u : State) (order : u.start ≤ u.next) (inside : u.next ≤ on.job.length) where
  finished-with : (s : State) (xs : List Store) → s.next ≡ u.next → s.start ≡ u.start → s.tally.commands ≡ u.tally.commands
      → s.tally.stored ≡ u.tally.stored + length xs
      → (unwrap_or u.tally.entry 0 ≤ limit on.job.mode → unwrap_or s.tally.entry 0 ≤ limit on.job.mode) → Along on xs
      → Proper on u.next u.tally (record { state = finished on.job.length s; stores = xs })
  unfolding finished
  finished-with s xs next start commands stored enters along =
      begins-proper on u (tallied (with_command s.tally) s) xs next (omega arith) (omega arith) stored enters along (omega arith)

  finished-proper : Proper on u.next u.tally (no_stores (finished on.job.length u))
  finished-proper = finished-with u [] refl refl refl (sym (add-zero u.tally.stored)) (λ h. h) (along-none on)

-- ---- the magic and the header

module _ (on : Setting) (u : State) (order : u.start ≤ u.next) where
  magic-proper : u.next ≤ on.job.length → u.tally.stored ≡ 0 → Proper on u.next u.tally (magic_read on.job.length u)
  magic-proper inside none =
      magic-cases (Proper on u.next u.tally) on.job.length u
      (λ e. begins-proper on u u [] refl order inside (sym (add-zero u.tally.stored)) (λ h. h) (along-none on) (omega arith))
      (λ e. quiet-proper on u order (Stopped (stop_at 16 0)) (at-magic refl none))

  module _ (next : u.next ≡ u.start + length u.gathered) (all : length u.gathered ≡ 16) where
    judged-some : (k : Command) → 0 < judged_bytes k
    judged-some Write = lit≤ tt
    judged-some Fill = lit≤ tt
    judged-some Entry = lit≤ tt
    judged-some Check = lit≤ tt

    says-proper : (x : Named) (n : ℕ) → named (command_id u.gathered) ≡ x → data_length u.gathered ≡ n → u.next ≤ on.job.length
        → Proper on u.next u.tally (header_says x on.job.length n u)
    unfolding header_says
    says-proper (Known k) n q d inside =
        judged-proper on u order (length_rules k n (on.job.length - u.next)) _ (tt, tt)
        (λ h. let fits = ltb-false (on.job.length - u.next) n h.1.0 in
        quiet-proper on u order (Parameters k) (next, omega arith, omega (arith, judged-some k), rw d h.0, omega arith, q))
    says-proper Skipped n q d inside =
        judged-proper on u order (data_rules n (on.job.length - u.next)) _ (tt, tt)
        (λ h. let fits = ltb-false (on.job.length - u.next) n h.0 in
        cond_cases (λ (t : State). Proper on u.next u.tally (no_stores t)) (eqb n 0) _ _
        (λ e. finished-proper on u order inside)
        (λ e. quiet-proper on u order (Skipping n) (omega (arith, eqb-false n 0 e), omega arith, q)))
    says-proper Unknown n q d inside = refused-proper on u order 18 (lit≤ tt) (lit≤ tt)

    header-proper : u.next ≤ on.job.length → Proper on u.next u.tally (header_read on.job.length u)
    unfolding header_read
    header-proper = says-proper (named (command_id u.gathered)) (data_length u.gathered) refl refl

-- ---- parameters

-- the header says the same, however many bytes are gathered behind it
pub header-kept : (h xs : List ℕ) → 16 ≤ length h → (command_id (h ++ xs) ≡ command_id h) × (data_length (h ++ xs) ≡ data_length h)
header-kept h xs l = (
  ap little (take-append-le 2 h xs (omega arith)),
  ap little (ap (take 8) (drop-append-le 8 h xs (omega arith)) ∙ take-append-le 8 (drop 8 h) xs (rw length-drop (omega arith))),
)

-- what a command is judged by is part of its data
pub judged-in-data : (k : Command) (n : ℕ) → wrong_length k n ≡ false → judged_bytes k ≤ n
judged-in-data Write n e = ltb-false n 8 e
judged-in-data Fill n e = omega (arith, eqb-true n 24 (not-false (eqb n 24) e))
judged-in-data Entry n e = omega (arith, eqb-true n 8 (not-false (eqb n 8) e))
judged-in-data Check n e = omega (arith, eqb-true n 88 (not-false (eqb n 88) e))

-- a range that breaks no rule
pub range-holds : (map : List Region) (top a n : ℕ) → AllHold (range_rules map top a n)
    → (ram map a n ≡ true) × (reachable top a n ≡ true) × (a + max n 1 ≤ top)
range-holds map top a n h =
    let r = not-false (reachable top a n) h.0 in
    (not-false (ram map a n) h.1.0, r, leb-true (a + max n 1) top r)

module _ (on : Setting) (u : State) (order : u.start ≤ u.next) where
  write-proper : named (command_id u.gathered) ≡ Known Write → u.next + (data_length u.gathered - 8) ≤ on.job.length
      → Proper on u.next u.tally (write_read on.job on.map u)
  unfolding write_read
  write-proper q fits =
      let a = address u.gathered in
      let n = data_length u.gathered - 8 in
      judged-proper on u order (range_rules on.map (limit on.job.mode) a n) _ (tt, tt)
      (λ h. let (r, l, top) = range-holds on.map (limit on.job.mode) a n h in
      cond_cases (λ (t : State). Proper on u.next u.tally (no_stores t)) (eqb n 0) _ _
      (λ e. finished-proper on u order (omega arith))
      (λ e. quiet-proper on u order (Storing a n)
      (omega (arith, eqb-false n 0 e), fits, r, omega arith, record { is = q; in-ram = r; in_reach = l }, omega arith, refl)))

  module _ (inside : u.next ≤ on.job.length) where
    fill-proper : Proper on u.next u.tally (fill_read on.job on.map u)
    unfolding fill_read
    fill-proper =
        let n = fill_count u.gathered in
        let bs = replicate n (pattern u.gathered) in
        let a = address u.gathered in
        judged-proper on u order (range_rules on.map (limit on.job.mode) a n) _ (tt, tt)
        (λ h. let (r, l, top) = range-holds on.map (limit on.job.mode) a n h in
        finished-with on u order inside (tallied (with_stored n u.tally) u) (stores_from a bs) refl refl refl
        (ap (λ (k : ℕ). u.tally.stored + k) (sym (length-stores_from a bs ∙ length-replicate n (pattern u.gathered)))) (λ i. i)
        (a, bs, refl, rw length-replicate r, rw length-replicate (omega arith)))

    entry-proper : Proper on u.next u.tally (entry_read on.job u)
    unfolding entry_read
    entry-proper =
        let a = address u.gathered in
        judged-proper on u order (entry_rules (limit on.job.mode) a) _ (tt, tt)
        (λ h. let reached = leb-true (a + 1) (limit on.job.mode) (not-false (reachable (limit on.job.mode) a 1) h.0) in
        finished-with on u order inside (tallied (with_entry a u.tally) u) [] refl refl refl
        (sym (add-zero u.tally.stored)) (λ i. omega arith) (along-none on))

    check-proper : Proper on u.next u.tally (check_read on.job.length on.table u)
    unfolding check_read
    check-proper =
        judged-proper on u order (check_rules on.table u.gathered) _ (tt, tt)
        (λ h. finished-proper on u order inside)

    parameters-proper : (k : Command) → named (command_id u.gathered) ≡ Known k
        → u.next + (data_length u.gathered - judged_bytes k) ≤ on.job.length
        → Proper on u.next u.tally (parameters_read k on u)
    unfolding parameters_read
    parameters-proper Write q fits = write-proper q fits
    parameters-proper Fill q fits = fill-proper
    parameters-proper Entry q fits = entry-proper
    parameters-proper Check q fits = check-proper

-- ---- one byte

-- a range without its first byte
uncovered-rises : (rs : List Region) (a b : ℕ) → a ≤ b → uncovered rs a ≤ uncovered rs b
unfolding uncovered
uncovered-rises [] a b h = h
uncovered-rises (r ∷ rs) a b h =
    uncovered-rises rs _ _
    (cond_cases (λ (x : ℕ). x ≤ cond (leb r.base b) (max b (end r)) b) (leb r.base a) _ _
    (λ e. rw (le-leb r.base b (omega (arith, leb-true r.base a e))) (omega arith))
    (λ e. cond_cases (λ (x : ℕ). a ≤ x) (leb r.base b) _ _ (λ f. omega arith) (λ f. h)))

ram-next : (rs : List Region) (a n : ℕ) → 0 < n → ram rs a n ≡ true → ram rs (suc a) (pred n) ≡ true
ram-next rs a n h r =
    le-leb (suc a + pred n) (uncovered rs (suc a))
    (omega (arith, leb-true (a + n) (uncovered rs a) r, uncovered-rises rs a (suc a) (omega arith)))

-- a phase in which a byte is used
abbrev pub Running : Phase → Type 0
Running Magic = Unit {0}
Running Header = Unit {0}
Running (Parameters k) = Unit {0}
Running (Storing a left) = Unit {0}
Running (Skipping left) = Unit {0}
Running (Stopped stop) = ⊥

module _ (on : Setting) (s : State) (b : ℕ) (order : s.start ≤ s.next) where
  abbrev after : Effect → Type 0
  after = Proper on (suc s.next) s.tally

  longer : length (s.gathered ++ (b ∷ [])) ≡ suc (length s.gathered)
  longer = length-append s.gathered (b ∷ []) ∙ omega arith

  react-proper : (p : Phase) → s.phase ≡ p → Running p → Meant on p s → after (react p on s b)
  unfolding react stores_from
  react-proper Magic e r m =
      cond_cases after (ltb (length (s.gathered ++ (b ∷ []))) 8) _ _
      (λ f. quiet-proper on (kept b s) (omega arith) s.phase
      (rw e (omega (arith, longer), omega (arith, longer, ltb-true (length (s.gathered ++ (b ∷ []))) 8 f), m.2, m.3)))
      (λ f. magic-proper on (kept b s) (omega arith) (omega arith) m.3)
  react-proper Header e r m =
      cond_cases after (ltb (length (s.gathered ++ (b ∷ []))) 16) _ _
      (λ f. quiet-proper on (kept b s) (omega arith) s.phase
      (rw e (omega (arith, longer), ltb-true (length (s.gathered ++ (b ∷ []))) 16 f, m.2)))
      (λ f. header-proper on (kept b s) (omega arith) (omega (arith, longer))
      (omega (arith, longer, ltb-false (length (s.gathered ++ (b ∷ []))) 16 f)) (omega arith))
  react-proper (Parameters k) e r m =
      let g = s.gathered ++ (b ∷ []) in
      let same = header-kept s.gathered (b ∷ []) m.1 in
      let right : wrong_length k (data_length g) ≡ false = rw same.1 m.3 in
      let room : s.start + 16 + data_length g ≤ on.job.length = rw same.1 m.4 in
      let names : named (command_id g) ≡ Known k = ap named same.0 ∙ m.5 in
      let data-judged = judged-in-data k (data_length g) right in
      cond_cases after (ltb (length g) (16 + judged_bytes k)) _ _
      (λ f. quiet-proper on (kept b s) (omega arith) s.phase
      (rw e (omega (arith, longer), omega (arith, longer), ltb-true (length g) (16 + judged_bytes k) f, right, room, names)))
      (λ f. parameters-proper on (kept b s) (omega arith) (omega (arith, longer)) k names
      (omega (arith, longer, ltb-false (length g) (16 + judged_bytes k) f)))
  react-proper (Storing a left) e r m =
      let u = used (tallied (with_stored 1 s.tally) s) in
      let x : Store = record { address = a; byte = b } in
      let one : ram on.map a 1 ≡ true =
      le-leb (a + 1) (uncovered on.map a) (omega (arith, leb-true (a + left) (uncovered on.map a) m.2)) in
      let along : Along on (x ∷ []) = (a, b ∷ [], refl, one, omega arith) in
      cond_cases (λ (t : State). after (record { state = t; stores = x ∷ [] })) (eqb left 1) _ _
      (λ f. finished-with on (used s) (omega arith) (omega arith) u (x ∷ []) refl refl refl refl (λ i. i) along)
      (λ f. let more = eqb-false left 1 f in
      record {
        next = refl;
        order = omega arith;
        commands = omega arith;
        stored = refl;
        enters = λ i. i;
        along = along;
        meant = (omega arith, omega arith, ram-next on.map a left m.0 m.2, omega arith, m.4, omega arith, omega arith);
      })
  react-proper (Skipping left) e r m =
      cond_cases (λ (t : State). after (no_stores t)) (eqb left 1) _ _
      (λ f. finished-proper on (used s) (omega arith) (omega arith))
      (λ f. quiet-proper on (used s) (omega arith) (Skipping (pred left)) (omega (arith, eqb-false left 1 f), omega arith, m.2))
  react-proper (Stopped stop) e r m = absurd r

-- ---- all bytes

pub running-or-stopped : (p : Phase) → Running p ⊎ ((stop : Stop) × (p ≡ Stopped stop))
running-or-stopped Magic = inl tt
running-or-stopped Header = inl tt
running-or-stopped (Parameters k) = inl tt
running-or-stopped (Storing a left) = inl tt
running-or-stopped (Skipping left) = inl tt
running-or-stopped (Stopped stop) = inr (stop, refl)

-- a run that has not stopped has bytes of the file to come
running-inside : (on : Setting) (s : State) (p : Phase) → Running p → Meant on p s → s.next < on.job.length
running-inside on s Magic r m = omega arith
running-inside on s Header r m = omega arith
running-inside on s (Parameters k) r m = omega (arith, judged-in-data k (data_length s.gathered) m.3)
running-inside on s (Storing a left) r m = omega arith
running-inside on s (Skipping left) r m = omega arith
running-inside on s (Stopped stop) r m = absurd r

pub react-stands : (on : Setting) (s : State) (b : ℕ) → Stands on s → Running s.phase
    → Proper on (suc s.next) s.tally (step on s b)
react-stands on s b h r = react-proper on s b h.order s.phase refl r h.meant

pub stands-below : (on : Setting) (s : State) → Stands on s → Running s.phase → s.next < on.job.length
stands-below on s h r = running-inside on s s.phase r h.meant

pub begun-stands : (on : Setting) → Stands on (begun on.job.length)
begun-stands on =
    record {
      order = omega arith;
      inside = omega arith;
      counted = omega arith;
      enters = omega arith;
      meant =
          cond_cases (λ (p : Phase). Meant on p (begun on.job.length)) (ltb on.job.length 8) _ _ (λ e. at-magic refl refl)
          (λ e. (refl, lit≤ tt, ltb-false on.job.length 8 e, refl));
    }

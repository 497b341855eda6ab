-- Where a run stands in the file: the first byte of each command, the place that a stop gives, and where nothing is stored yet.
use mathlib.Core.Bool.{Bool, false, cond}
use mathlib.Core.Path.{◌≡◌, refl, sym, ap, subst, ◌∙◌}
use mathlib.Core.List.{List, [], ◌∷◌, ◌++◌}
use mathlib.Core.Logic.{◌⊎◌, inl, inr}
use Prim.Native.Nat.{ℕ, suc, ◌+◌, ◌-◌, ◌≤◌, ◌<◌}
use native.Mathlib.Nat.{add-zero}
use native.Mathlib.Omega.{arith}
use borrow.Author.Tests.{eqb-true, eqb-false, ltb-false, lt-ltb, le-ltb, not-false}
use lib.Dec.{eqb, ltb, lit≤}
use lib.ListN.{length, length-append}
use Rattle.answers.specs.Answers.{stop_at}
use Rattle.answers.specs.Rules.{Rule, first_broken}
use Rattle.answers.specs.declared.Stop.{Stop}
use Rattle.answers.proofs.ChoiceLaws.{cond_cases}
use Rattle.answers.proofs.RuleLaws.{AllHold}
use Rattle.board.specs.Reach.{limit}
use Rattle.machine.specs.Commands.{
  named,
  command_id,
  data_length,
  address,
  fill_count,
  judged_bytes,
  wrong_length,
  data_rules,
  length_rules,
  range_rules,
  entry_rules,
  check_rules,
}
use Rattle.machine.specs.Machine.{
  Setting,
  State,
  Effect,
  react,
  step,
  run,
  kept,
  used,
  stopped,
  tallied,
  in_phase,
  with_stored,
  with_entry,
  with_command,
  command_begins,
  finished,
  judged,
  header_says,
  header_read,
  write_read,
  fill_read,
  entry_read,
  check_read,
  parameters_read,
  begun,
}
use Rattle.machine.specs.declared.Command.{Command}
use Rattle.machine.specs.declared.Command.TheVariants.{Write, Fill, Entry, Check}
use Rattle.machine.specs.declared.Named.{Named}
use Rattle.machine.specs.declared.Named.TheVariants.{Known, Skipped, Unknown}
use Rattle.machine.specs.declared.Phase.{Phase}
use Rattle.machine.specs.declared.Phase.TheVariants.{Magic, Header, Parameters, Storing, Skipping, Stopped}
use Rattle.machine.specs.declared.Tally.{Tally}
use Rattle.machine.proofs.History.{seen, done_by, commands_done}
use Rattle.machine.proofs.ReachedLaws.{step-stands, run-stands}
use Rattle.machine.proofs.Runs.{ran}
use Rattle.machine.proofs.Standing.{
  Stands,
  Meant,
  begins_cases,
  magic-cases,
  CommandRules,
  judged-cases,
  Running,
  running-or-stopped,
  header-kept,
  stands-below,
  begun-stands,
}

-- how many bytes a command takes: its header and its data
abbrev pub span : List ℕ → ℕ
span c = 16 + data_length c

abbrev pub spans : List (List ℕ) → ℕ
spans [] = 0
spans (c ∷ cs) = span c + spans cs

-- the offset behind the magic and the commands done: where the next command has its first byte
abbrev pub first_byte : Setting → List ℕ → ℕ
first_byte on bytes = 8 + spans (commands_done on (begun on.job.length) bytes)

-- the place of a stop, where the next command would have its first byte at `at`
pub data Placed (on : Setting) (at : ℕ) (stop : Stop) : Type 0 where
  done : stop.code ≡ 0 → stop.place ≡ 0 → at ≡ on.job.length → Placed on at stop
  no-magic : stop.code ≡ 16 → stop.place ≡ 0 → Placed on at stop
  by-command : 17 ≤ stop.code → stop.code ≤ 26 → stop.place ≡ at → at < on.job.length → Placed on at stop
  no-entry : stop.code ≡ 27 → stop.place ≡ on.job.length → at ≡ on.job.length → Placed on at stop

-- what each phase says of the command's first byte
abbrev Lies : Setting → ℕ → Phase → State → Type 0
Lies on at Magic s = at ≡ 8
Lies on at Header s = s.start ≡ at
Lies on at (Parameters k) s = s.start ≡ at
Lies on at (Storing a left) s = (s.start ≡ at) × (s.next + left ≡ at + span s.gathered)
Lies on at (Skipping left) s = (s.start ≡ at) × (s.next + left ≡ at + span s.gathered)
Lies on at (Stopped stop) s = Placed on at stop

-- no write has begun to store
abbrev pub NotStoring : Phase → Type 0
NotStoring Magic = Unit {0}
NotStoring Header = Unit {0}
NotStoring (Parameters k) = Unit {0}
NotStoring (Storing a left) = ⊥
NotStoring (Skipping left) = Unit {0}
NotStoring (Stopped stop) = Unit {0}

-- the state's command has its first byte at `at`; before the first command is done, a write alone stores
pub record Follows (on : Setting) (at : ℕ) (s : State) : Type 0 where
  pub low : 8 ≤ at
  pub lies : Lies on at s.phase s
  pub unstored : NotStoring s.phase → at ≡ 8 → s.tally.stored ≡ 0

-- a byte finishes no command, or it finishes c
abbrev Goes : Setting → ℕ → List ℕ → Tally → State → Type 0
Goes on at c before t =
    ((t.tally.commands ≡ before.commands) × Follows on at t)
    ⊎ ((t.tally.commands ≡ suc before.commands) × Follows on (at + span c) t)

-- ---- where a command would begin

begins-follows : (on : Setting) (at n : ℕ) (s : State) → s.next ≡ at → s.next ≤ on.job.length → s.tally.commands ≡ n → 8 ≤ at
    → (at ≡ 8 → s.tally.stored ≡ 0)
    → ((command_begins on.job.length s).tally.commands ≡ n) × Follows on at (command_begins on.job.length s)
begins-follows on at n s here inside count low none =
    begins_cases P on.job.length s (λ e f. stops 0 0 (done refl refl (omega arith)))
    (λ e f. stops 27 on.job.length (no-entry refl refl (omega arith)))
    (λ e. stops 17 s.next (by-command (lit≤ tt) (lit≤ tt) here (omega arith)))
    (λ l. (count, record { low = low; lies = here; unstored = λ q. none }))
  where
    P : State → Type 0
    P t = (t.tally.commands ≡ n) × Follows on at t

    stops : (code place : ℕ) → Placed on at (stop_at code place) → P (stopped code place s)
    stops code place p = (count, record { low = low; lies = p; unstored = λ q. none })

finished-goes : (on : Setting) (at : ℕ) (before : Tally) (u : State) → u.tally.commands ≡ before.commands
    → u.next ≡ at + span u.gathered → u.next ≤ on.job.length → 8 ≤ at
    → Goes on at u.gathered before (finished on.job.length u)
unfolding finished
finished-goes on at before u count here inside low =
    inr (begins-follows on (at + span u.gathered) (suc before.commands) (tallied (with_command u.tally) u) here inside
    (ap suc count) (omega arith) (λ e. absurd (omega arith)))

-- ---- commands

module _ (on : Setting) (at : ℕ) (u : State) (start : u.start ≡ at) (inside : at < on.job.length) (low : 8 ≤ at)
    (none : at ≡ 8 → u.tally.stored ≡ 0) where
  stays-goes : (c : List ℕ) (p : Phase) → Lies on at p (in_phase p u) → Goes on at c u.tally (in_phase p u)
  stays-goes c p l = inl (refl, record { low = low; lies = l; unstored = λ q. none })

  refused-goes : (c : List ℕ) (code : ℕ) → 17 ≤ code → code ≤ 26 → Goes on at c u.tally (stopped code u.start u)
  refused-goes c code l h = stays-goes c (Stopped (stop_at code u.start)) (by-command l h start inside)

  judged-goes : (c : List ℕ) (rs : List Rule) (t : Effect) → CommandRules rs → (AllHold rs → Goes on at c u.tally t.state)
      → Goes on at c u.tally (judged (first_broken rs) u t).state
  judged-goes c rs t r f =
      judged-cases (λ (t : Effect). Goes on at c u.tally t.state) rs u t r (refused-goes c) f

  abbrev goes : State → Type 0
  goes = Goes on at u.gathered u.tally

  says-goes : (x : Named) (n : ℕ) → data_length u.gathered ≡ n → u.next ≡ at + 16 → u.next ≤ on.job.length
      → goes (header_says x on.job.length n u).state
  unfolding header_says
  says-goes (Known k) n d here in-file =
      judged-goes u.gathered (length_rules k n (on.job.length - u.next)) _ (tt, tt)
      (λ h. stays-goes u.gathered (Parameters k) start)
  says-goes Skipped n d here in-file =
      judged-goes u.gathered (data_rules n (on.job.length - u.next)) _ (tt, tt)
      (λ h. cond_cases goes (eqb n 0) _ _
      (λ e. finished-goes on at u.tally u refl (omega (arith, eqb-true n 0 e)) in-file low)
      (λ e. stays-goes u.gathered (Skipping n) (start, omega arith)))
  says-goes Unknown n d here in-file = refused-goes u.gathered 18 (lit≤ tt) (lit≤ tt)

  -- a command's parameters are there
  parameters-goes : (k : Command) → u.next ≡ at + 16 + judged_bytes k → at + span u.gathered ≤ on.job.length
      → wrong_length k (data_length u.gathered) ≡ false → goes (parameters_read k on u).state
  unfolding parameters_read write_read fill_read entry_read check_read
  parameters-goes Write here fits right =
      let n = data_length u.gathered - 8 in
      let a = address u.gathered in
      let long = ltb-false (data_length u.gathered) 8 right in
      judged-goes u.gathered (range_rules on.map (limit on.job.mode) a n) _ (tt, tt)
      (λ h. cond_cases goes (eqb n 0) _ _
      (λ e. finished-goes on at u.tally u refl (omega (arith, eqb-true n 0 e)) (omega (arith, eqb-true n 0 e)) low)
      (λ e. stays-goes u.gathered (Storing a n) (start, omega arith)))
  parameters-goes Fill here fits right =
      let n = fill_count u.gathered in
      let long = eqb-true (data_length u.gathered) 24 (not-false (eqb (data_length u.gathered) 24) right) in
      judged-goes u.gathered (range_rules on.map (limit on.job.mode) (address u.gathered) n) _ (tt, tt)
      (λ h. finished-goes on at u.tally (tallied (with_stored n u.tally) u) refl (omega arith) (omega arith) low)
  parameters-goes Entry here fits right =
      let a = address u.gathered in
      let long = eqb-true (data_length u.gathered) 8 (not-false (eqb (data_length u.gathered) 8) right) in
      judged-goes u.gathered (entry_rules (limit on.job.mode) a) _ (tt, tt)
      (λ h. finished-goes on at u.tally (tallied (with_entry a u.tally) u) refl (omega arith) (omega arith) low)
  parameters-goes Check here fits right =
      let long = eqb-true (data_length u.gathered) 88 (not-false (eqb (data_length u.gathered) 88) right) in
      judged-goes u.gathered (check_rules on.table u.gathered) _ (tt, tt)
      (λ h. finished-goes on at u.tally u refl (omega arith) (omega arith) low)

-- ---- one byte

module _ (on : Setting) (at : ℕ) (s : State) (b : ℕ) (below : s.next < on.job.length) (low : 8 ≤ at) where
  longer : length (s.gathered ++ (b ∷ [])) ≡ suc (length s.gathered)
  longer = length-append s.gathered (b ∷ []) ∙ omega arith

  -- a byte that is gathered
  waits : (c : List ℕ) → Lies on at s.phase (kept b s) → (at ≡ 8 → s.tally.stored ≡ 0) → Goes on at c s.tally (kept b s)
  waits c l none = inl (refl, record { low = low; lies = l; unstored = λ q. none })

  react-goes : (p : Phase) → s.phase ≡ p → Meant on p s → Lies on at p s → (NotStoring p → at ≡ 8 → s.tally.stored ≡ 0)
      → Goes on at (seen p s b) s.tally (react p on s b).state
  unfolding react header_read
  react-goes Magic e m f none =
      cond_cases (λ (t : Effect). Goes on at [] s.tally t.state) (ltb (length (s.gathered ++ (b ∷ []))) 8) _ _
      (λ q. waits [] (rw e f) (none tt))
      (λ q. let all = ltb-false (length (s.gathered ++ (b ∷ []))) 8 q in
      magic-cases (λ (t : Effect). Goes on at [] s.tally t.state) on.job.length (kept b s)
      (λ r. inl (begins-follows on at s.tally.commands (kept b s) (omega (arith, longer)) (omega arith) refl low (none tt)))
      (λ r. inl (refl, record { low = low; lies = no-magic refl refl; unstored = λ q. none tt })))
  react-goes Header e m f none =
      let u = kept b s in
      cond_cases (λ (t : Effect). Goes on at u.gathered s.tally t.state) (ltb (length u.gathered) 16) _ _
      (λ q. waits u.gathered (rw e f) (none tt))
      (λ q. let long = ltb-false (length u.gathered) 16 q in
      says-goes on at u f (omega arith) low (none tt) (named (command_id u.gathered)) (data_length u.gathered) refl
      (omega (arith, longer)) (omega arith))
  react-goes (Parameters k) e m f none =
      let u = kept b s in
      let same = header-kept s.gathered (b ∷ []) m.1 in
      let right : wrong_length k (data_length u.gathered) ≡ false = rw same.1 m.3 in
      let fits : s.start + 16 + data_length u.gathered ≤ on.job.length = rw same.1 m.4 in
      cond_cases (λ (t : Effect). Goes on at u.gathered s.tally t.state) (ltb (length u.gathered) (16 + judged_bytes k)) _ _
      (λ q. waits u.gathered (rw e f) (none tt))
      (λ q. let long = ltb-false (length u.gathered) (16 + judged_bytes k) q in
      parameters-goes on at u f (omega arith) low (none tt) k (omega (arith, longer)) (omega arith) right)
  react-goes (Storing a left) e m f none =
      let u = used (tallied (with_stored 1 s.tally) s) in
      cond_cases (λ (t : State). Goes on at s.gathered s.tally t) (eqb left 1) _ _
      (λ q. finished-goes on at s.tally u refl (omega (arith, eqb-true left 1 q)) (omega arith) low)
      (λ q. let n = eqb-false left 1 q in inl (refl, record { low = low; lies = (f.0, omega arith); unstored = λ r. absurd r }))
  react-goes (Skipping left) e m f none =
      cond_cases (λ (t : State). Goes on at s.gathered s.tally t) (eqb left 1) _ _
      (λ q. finished-goes on at s.tally (used s) refl (omega (arith, eqb-true left 1 q)) (omega arith) low)
      (λ q. let n = eqb-false left 1 q in inl (refl, record { low = low; lies = (f.0, omega arith); unstored = λ r. none tt }))
  react-goes (Stopped stop) e m f none = inl (refl, record { low = low; lies = rw e f; unstored = λ q. none tt })

-- ---- all bytes

module _ (on : Setting) where
  step-goes : (at : ℕ) (s : State) (b : ℕ) → Stands on s → Follows on at s
      → Goes on at (seen s.phase s b) s.tally (step on s b).state
  unfolding react
  step-goes at s b h f = go (running-or-stopped s.phase)
    where
      go : Running s.phase ⊎ ((stop : Stop) × (s.phase ≡ Stopped stop))
          → Goes on at (seen s.phase s b) s.tally (step on s b).state
      go (inl r) = react-goes on at s b (stands-below on s h r) f.low s.phase refl h.meant f.lies f.unstored
      go (inr (stop, e)) = rw (ap (λ (p : Phase). react p on s b) e) (inl (refl, f))

  run-follows : (at : ℕ) (s : State) (xs : List ℕ) → Stands on s → Follows on at s
      → Follows on (at + spans (commands_done on s xs)) (run on s xs)
  unfolding run commands_done
  run-follows at s [] h f = subst (λ (n : ℕ). Follows on n s) (sym (add-zero at)) f
  run-follows at s (x ∷ xs) h f = go (step-goes at s x h f) (λ (n : ℕ). run-follows n t xs (step-stands on s x h))
    where
      t : State
      t = (step on s x).state

      rest : List (List ℕ)
      rest = commands_done on t xs

      behind : Bool → Type 0
      behind d = Follows on (at + spans (cond d (seen s.phase s x ∷ []) [] ++ rest)) (run on t xs)

      go : Goes on at (seen s.phase s x) s.tally t → ((n : ℕ) → Follows on n t → Follows on (n + spans rest) (run on t xs))
          → Follows on (at + spans (done_by on s x ++ rest)) (run on t xs)
      go (inl (count, g)) more =
          subst behind (sym (le-ltb s.tally.commands t.tally.commands (omega (arith, count)))) (more at g)
      go (inr (count, g)) more =
          subst behind (sym (lt-ltb s.tally.commands t.tally.commands (omega (arith, count))))
          (subst (λ (n : ℕ). Follows on n (run on t xs)) (omega arith) (more (at + span (seen s.phase s x)) g))

  pub bytes-follow : (bytes : List ℕ) → Follows on (first_byte on bytes) (ran on bytes)
  bytes-follow bytes =
      run-follows 8 (begun on.job.length) bytes (begun-stands on)
      (record {
        low = lit≤ tt;
        lies =
            cond_cases (λ (p : Phase). Lies on 8 p (begun on.job.length)) (ltb on.job.length 8) _ _
            (λ f. no-magic refl refl) (λ f. refl);
        unstored = λ q e. refl;
      })

  -- the place that a stop gives
  pub stop-placed : (bytes : List ℕ) {stop : Stop} → (ran on bytes).phase ≡ Stopped stop → Placed on (first_byte on bytes) stop
  stop-placed bytes e =
      subst (λ (p : Phase). Lies on (first_byte on bytes) p (ran on bytes)) e (bytes-follow bytes).lies

  -- a run that goes on behind the magic has its command's first byte inside the file
  pub running-inside : (bytes : List ℕ) → Running (ran on bytes).phase
      → ((ran on bytes).phase ≡ Magic) ⊎ (first_byte on bytes < on.job.length)
  running-inside bytes r =
      go (ran on bytes).phase refl r (run-stands on (begun on.job.length) bytes (begun-stands on)).meant (bytes-follow bytes).lies
    where
      go : (p : Phase) → (ran on bytes).phase ≡ p → Running p → Meant on p (ran on bytes) → Lies on (first_byte on bytes) p (ran on bytes)
          → ((ran on bytes).phase ≡ Magic) ⊎ (first_byte on bytes < on.job.length)
      go Magic e r m l = inl e
      go Header e r m l = inr (omega arith)
      go (Parameters k) e r m l = inr (omega arith)
      go (Storing a left) e r m l = inr (omega arith)
      go (Skipping left) e r m l = inr (omega arith)
      go (Stopped stop) e r m l = absurd r

  -- before the first command is done a write alone stores
  pub unstored-first : (bytes : List ℕ) → NotStoring (ran on bytes).phase → first_byte on bytes ≡ 8 → (ran on bytes).tally.stored ≡ 0
  unstored-first bytes = (bytes-follow bytes).unstored

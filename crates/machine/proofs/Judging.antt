-- What a run has made of the bytes so far: the magic, the command at hand, whose stores were made, and what a refusal leaves.
use mathlib.Core.Bool.{true, false}
use mathlib.Core.Path.{◌≡◌, refl, sym, ap, subst, ◌∙◌}
use mathlib.Core.List.Memᴰ
use mathlib.Core.List.{
  List,
  [],
  ◌∷◌,
  ◌++◌,
  append-nil,
  Memᴰ,
}
use mathlib.Core.Logic.{◌⊎◌, inl, inr, ◌≢◌}
use Prim.Native.Nat.{ℕ, suc, ◌+◌, ◌-◌, ◌≤◌, ◌<◌}
use native.Mathlib.Omega.{arith}
use borrow.Author.Tests.{ltb-true, ltb-false}
use lib.Dec.{eqb, ltb, lit≤}
use lib.ListN.{length, replicate, take, drop, length-append, length-drop, length-replicate}
use lib.Seq.{take_all, take-length, drop-length, take-append-le, drop-append-le}
use Rattle.std.specs.Prelude.{is_some}
use Rattle.octets.specs.Numbers.{little}
use Rattle.octets.specs.Parts.{part}
use Rattle.answers.specs.Answers.{stop_at}
use Rattle.answers.specs.Rules.{Rule, first_broken}
use Rattle.answers.specs.declared.Stop.{Stop}
use Rattle.answers.proofs.ChoiceLaws.{cond_cases}
use Rattle.answers.proofs.RuleLaws.{AllHold}
use Rattle.board.specs.Reach.{limit}
use Rattle.machine.specs.Commands.{
  named,
  command_id,
  data_length,
  address,
  fill_count,
  pattern,
  judged_bytes,
  data_rules,
  length_rules,
  range_rules,
  entry_rules,
  check_rules,
}
use Rattle.machine.specs.Machine.{
  Setting,
  State,
  Store,
  Effect,
  react,
  step,
  run,
  trace,
  no_stores,
  kept,
  used,
  stopped,
  tallied,
  in_phase,
  with_stored,
  with_entry,
  with_command,
  command_begins,
  finished,
  judged,
  header_says,
  header_read,
  write_read,
  fill_read,
  entry_read,
  check_read,
  parameters_read,
  gather,
  stores_from,
  begun,
}
use Rattle.machine.specs.declared.Command.{Command}
use Rattle.machine.specs.declared.Command.TheVariants.{Write, Fill, Entry, Check}
use Rattle.machine.specs.declared.Named.{Named}
use Rattle.machine.specs.declared.Named.TheVariants.{Known, Skipped, Unknown}
use Rattle.machine.specs.declared.Phase.{Phase}
use Rattle.machine.specs.declared.Phase.TheVariants.{Magic, Header, Parameters, Storing, Skipping, Stopped}
use Rattle.machine.proofs.MemoryLaws.{from-inside}
use Rattle.machine.proofs.Places.{first_byte, Placed, done, no-magic, by-command, no-entry, stop-placed, running-inside}
use Rattle.machine.proofs.ReachedLaws.{bytes-keep, begun-used, run-stands, reached-ended}
use Rattle.machine.proofs.Runs.{ran, made, run-append, trace-append, step-stopped}
use Rattle.machine.proofs.Standing.{
  Stands,
  Meant,
  Ended,
  ended-done,
  ended-without,
  begins_cases,
  file_magic,
  magic-cases,
  CommandRules,
  judged-cases,
  Running,
  running-or-stopped,
  WholeRange,
  range_length,
  header-kept,
  range-holds,
  begun-stands,
}

-- ---- what is said of the bytes

abbrev pub HasMagic : List ℕ → Type 0
HasMagic bytes = (8 ≤ length bytes) × (little (take 8 bytes) ≡ file_magic)

-- the file has fewer than 8 bytes, or its first 8 are not the magic
abbrev pub NoMagic : Setting → List ℕ → Type 0
NoMagic on bytes =
    (on.job.length < 8) ⊎ ((8 ≤ length bytes) × (little (take 8 bytes) ≢ file_magic))

-- a command has its first byte at `place`: there the run awaits a command's bytes
pub record CommandAt (on : Setting) (bytes : List ℕ) (place : ℕ) : Type 0 where
  pub inside : place ≤ length bytes
  pub awaits : (ran on (take place bytes)).phase ≡ Header
  pub fresh : (ran on (take place bytes)).gathered ≡ []

-- x is a store of the command of which c is header and parameters: it lies in the command's range, and all of that
-- range is RAM and reachable
pub record StoreOf (on : Setting) (bytes : List ℕ) (x : Store) : Type 0 where
  pub place : ℕ
  pub begins : CommandAt on bytes place
  pub command : Command
  pub c : List ℕ
  pub there : place + (16 + judged_bytes command) ≤ length bytes
  pub read : c ≡ part bytes place (16 + judged_bytes command)
  pub whole : WholeRange on command c
  pub above : address c ≤ x.address
  pub below : x.address < address c + range_length command c

-- what is gathered are the command's bytes so far, which have caused no store
pub record AtCommand (on : Setting) (bytes : List ℕ) (s : State) : Type 0 where
  pub begins : CommandAt on bytes s.start
  pub bytes-so-far : s.gathered ≡ drop s.start bytes
  pub quiet : made on bytes ≡ made on (take s.start bytes)

-- a refused command has caused no store
pub record Refused (on : Setting) (bytes : List ℕ) (stop : Stop) : Type 0 where
  pub inside : stop.place ≤ length bytes
  pub quiet : made on bytes ≡ made on (take stop.place bytes)

pub record Halts (on : Setting) (bytes : List ℕ) (stop : Stop) : Type 0 where
  pub magic : stop.code ≢ 16 → HasMagic bytes
  pub no-magic : stop.code ≡ 16 → NoMagic on bytes
  pub refused : 17 ≤ stop.code → stop.code ≤ 26 → Refused on bytes stop

abbrev pub Read : Setting → List ℕ → Phase → State → Type 0
Read on bytes Magic s = s.gathered ≡ bytes
Read on bytes Header s = HasMagic bytes × AtCommand on bytes s
Read on bytes (Parameters k) s = HasMagic bytes × AtCommand on bytes s
Read on bytes (Storing a left) s =
    HasMagic bytes × CommandAt on bytes s.start × (s.start + 24 ≤ length bytes)
    × (s.gathered ≡ part bytes s.start 24)
Read on bytes (Skipping left) s = HasMagic bytes
Read on bytes (Stopped stop) s = Halts on bytes stop

-- ---- more bytes

part-more : (xs ys : List ℕ) (at n : ℕ) → at + n ≤ length xs → part (xs ++ ys) at n ≡ part xs at n
part-more xs ys at n l =
    ap (take n) (drop-append-le at xs ys (omega arith)) ∙ take-append-le n (drop at xs) ys (rw length-drop (omega arith))

module _ (on : Setting) (xs ys : List ℕ) where
  magic-more : HasMagic xs → HasMagic (xs ++ ys)
  magic-more (l, e) = (rw length-append (omega arith), ap little (take-append-le 8 xs ys l) ∙ e)

  no-magic-more : NoMagic on xs → NoMagic on (xs ++ ys)
  no-magic-more (inl h) = inl h
  no-magic-more (inr (l, n)) =
      inr (rw length-append (omega arith), λ e. n (sym (ap little (take-append-le 8 xs ys l)) ∙ e))

  command-more : (place : ℕ) → CommandAt on xs place → CommandAt on (xs ++ ys) place
  command-more place h =
      let e = take-append-le place xs ys h.inside in
      record {
        inside = rw length-append (omega (arith, h.inside));
        awaits = ap (λ (l : List ℕ). (ran on l).phase) e ∙ h.awaits;
        fresh = ap (λ (l : List ℕ). (ran on l).gathered) e ∙ h.fresh;
      }

  store-more : (x : Store) → StoreOf on xs x → StoreOf on (xs ++ ys) x
  store-more x h =
      record {
        place = h.place;
        begins = command-more h.place h.begins;
        command = h.command;
        c = h.c;
        there = rw length-append (omega (arith, h.there));
        read = h.read ∙ sym (part-more xs ys h.place (16 + judged_bytes h.command) h.there);
        whole = h.whole;
        above = h.above;
        below = h.below;
      }

  halts-more : (stop : Stop) → made on (xs ++ ys) ≡ made on xs → Halts on xs stop → Halts on (xs ++ ys) stop
  halts-more stop same h =
      record {
        magic = λ n. magic-more (h.magic n);
        no-magic = λ e. no-magic-more (h.no-magic e);
        refused =
            λ l u. let r = h.refused l u in
            record {
              inside = rw length-append (omega (arith, r.inside));
              quiet = same ∙ r.quiet ∙ ap (made on) (sym (take-append-le stop.place xs ys r.inside));
            };
      }

-- ---- what the byte b behind the bytes xs does

module _ (on : Setting) (xs : List ℕ) (b : ℕ) where
  abbrev ys : List ℕ
  ys = xs ++ (b ∷ [])

  longer : length ys ≡ suc (length xs)
  longer = length-append xs (b ∷ []) ∙ omega arith

  -- an effect that leads to a state of which all this is so, by stores of commands judged over their whole range
  abbrev Reads : Effect → Type 0
  Reads t =
      (made on ys ≡ made on xs ++ t.stores → ran on ys ≡ t.state → Read on ys t.state.phase t.state)
      × ((x : Store) → Memᴰ x t.stores → StoreOf on ys x)

  no_store : (x : Store) → Memᴰ x [] → StoreOf on ys x
  no_store x m = absurd (Memᴰ.not-nil m)

  -- where a command would begin
  begins-read : (u : State) (zs : List Store) → HasMagic ys → u.next ≡ length ys → ((x : Store) → Memᴰ x zs → StoreOf on ys x)
      → Reads (record { state = command_begins on.job.length u; stores = zs })
  begins-read u zs has here of = (
    λ m r. begins_cases P on.job.length u
        (λ e f q. ends 0 0 (λ z. absurd (omega (arith, z))) (λ l h. absurd (omega arith)))
        (λ e f q. ends 27 on.job.length (λ z. absurd (omega (arith, z))) (λ l h. absurd (omega arith)))
        (λ e q. ends 17 u.next (λ z. absurd (omega (arith, z))) (λ l h. record { inside = omega arith; quiet = ap (made on) (sym all) }))
        (λ l q. (
          has,
          record {
            begins =
                record {
                  inside = omega arith;
                  awaits = ap (λ (l : List ℕ). (ran on l).phase) all ∙ ap (λ (t : State). t.phase) q;
                  fresh = ap (λ (l : List ℕ). (ran on l).gathered) all ∙ ap (λ (t : State). t.gathered) q;
                };
            bytes-so-far = sym (ap (λ (n : ℕ). drop n ys) here ∙ drop-length ys);
            quiet = ap (made on) (sym all);
          },
        ))
        r,
    of,
  )
    where
      P : State → Type 0
      P t = ran on ys ≡ t → Read on ys t.phase t

      all : take u.next ys ≡ ys
      all = ap (λ (n : ℕ). take n ys) here ∙ take-length ys

      ends : (code place : ℕ) → (code ≡ 16 → ⊥) → (17 ≤ code → code ≤ 26 → Refused on ys (stop_at code place))
          → Halts on ys (stop_at code place)
      ends code place n f = record { magic = λ z. has; no-magic = λ z. absurd (n z); refused = f }

  finished-read : (u : State) (zs : List Store) → HasMagic ys → u.next ≡ length ys → ((x : Store) → Memᴰ x zs → StoreOf on ys x)
      → Reads (record { state = finished on.job.length u; stores = zs })
  unfolding finished
  finished-read u zs = begins-read (tallied (with_command u.tally) u) zs

  -- a command's bytes are gathered, and have caused no store
  module _ (u : State) (has : HasMagic ys) (here : u.next ≡ length ys) (begins : CommandAt on ys u.start)
      (so_far : u.gathered ≡ drop u.start ys) (quiet : made on xs ≡ made on (take u.start ys)) where
    stays-read : (p : Phase) → (AtCommand on ys u → Read on ys p (in_phase p u)) → Reads (no_stores (in_phase p u))
    stays-read p f = (
      λ m r. f (record { begins = begins; bytes-so-far = so_far; quiet = m ∙ append-nil (made on xs) ∙ quiet }),
      no_store,
    )

    refused-read : (code : ℕ) → 17 ≤ code → code ≤ 26 → Reads (no_stores (stopped code u.start u))
    refused-read code l h =
        stays-read (Stopped (stop_at code u.start))
        (λ c. record {
          magic = λ z. has;
          no-magic = λ z. absurd (omega (arith, z));
          refused = λ i j. record { inside = begins.inside; quiet = c.quiet };
        })

    judged-read : (rs : List Rule) (t : Effect) → CommandRules rs → (AllHold rs → Reads t) → Reads (judged (first_broken rs) u t)
    judged-read rs t r f = judged-cases Reads rs u t r refused-read f

    ends_read : Reads (no_stores (finished on.job.length u))
    ends_read = finished-read u [] has here no_store

    says-read : (x : Named) (n : ℕ) → Reads (header_says x on.job.length n u)
    unfolding header_says
    says-read (Known k) n =
        judged-read (length_rules k n (on.job.length - u.next)) _ (tt, tt)
        (λ h. stays-read (Parameters k) (λ c. (has, record { begins = c.begins; bytes-so-far = c.bytes-so-far; quiet = c.quiet })))
    says-read Skipped n =
        judged-read (data_rules n (on.job.length - u.next)) _ (tt, tt)
        (λ h. cond_cases (λ (t : State). Reads (no_stores t)) (eqb n 0) _ _ (λ e. ends_read) (λ e. stays-read (Skipping n) (λ c. has)))
    says-read Unknown n = refused-read 18 (lit≤ tt) (lit≤ tt)

    -- all that the command is judged by is there
    module _ (n : ℕ) (all : length u.gathered ≡ n) where
      long : u.start + n ≡ length ys
      long = omega (arith, begins.inside, sym all ∙ ap length so_far ∙ length-drop u.start ys)

      these : u.gathered ≡ part ys u.start n
      these = so_far ∙ sym (take_all n (drop u.start ys) (omega (arith, sym all ∙ ap length so_far)))

    parameters-read : (k : Command) → named (command_id u.gathered) ≡ Known k → length u.gathered ≡ 16 + judged_bytes k
        → Reads (parameters_read k on u)
    unfolding parameters_read write_read fill_read entry_read check_read
    parameters-read Write q all =
        let a = address u.gathered in
        let n = data_length u.gathered - 8 in
        judged-read (range_rules on.map (limit on.job.mode) a n) _ (tt, tt)
        (λ h. cond_cases (λ (t : State). Reads (no_stores t)) (eqb n 0) _ _ (λ e. ends_read)
        (λ e. stays-read (Storing a n) (λ c. (has, begins, omega (arith, long 24 all), these 24 all))))
    parameters-read Fill q all =
        let a = address u.gathered in
        let n = fill_count u.gathered in
        let bs = replicate n (pattern u.gathered) in
        judged-read (range_rules on.map (limit on.job.mode) a n) _ (tt, tt)
        (λ h. let (r, l, top) = range-holds on.map (limit on.job.mode) a n h in
        finished-read (tallied (with_stored n u.tally) u) (stores_from a bs) has here
        (λ x m. let at = from-inside a bs x m in
        record {
          place = u.start;
          begins = begins;
          command = Fill;
          c = u.gathered;
          there = omega (arith, long 40 all);
          read = these 40 all;
          whole = record { is = q; in-ram = r; in_reach = l };
          above = at.0;
          below = omega (arith, at.1, length-replicate n (pattern u.gathered));
        }))
    parameters-read Entry q all =
        let a = address u.gathered in
        judged-read (entry_rules (limit on.job.mode) a) _ (tt, tt)
        (λ h. finished-read (tallied (with_entry a u.tally) u) [] has here no_store)
    parameters-read Check q all =
        judged-read (check_rules on.table u.gathered) _ (tt, tt)
        (λ h. ends_read)

  -- ---- the byte in each phase

  -- a byte of a command's header or parameters
  module _ (s : State) (has : HasMagic xs) (at : AtCommand on xs s) where
    has_more : HasMagic ys
    has_more = magic-more on xs (b ∷ []) has

    begins-more : CommandAt on ys s.start
    begins-more = command-more on xs (b ∷ []) s.start at.begins

    so_far_more : s.gathered ++ (b ∷ []) ≡ drop s.start ys
    so_far_more =
        ap (λ (l : List ℕ). l ++ (b ∷ [])) at.bytes-so-far ∙ sym (drop-append-le s.start xs (b ∷ []) at.begins.inside)

    quiet-more : made on xs ≡ made on (take s.start ys)
    quiet-more = at.quiet ∙ ap (made on) (sym (take-append-le s.start xs (b ∷ []) at.begins.inside))

    gathers-read : (all : ℕ) (says : State → Effect)
        → (HasMagic ys × AtCommand on ys (kept b s) → Read on ys s.phase (kept b s))
        → (all ≤ length (s.gathered ++ (b ∷ [])) → Reads (says (kept b s))) → Reads (gather all says s b)
    gathers-read all says same f =
        cond_cases Reads (ltb (length (s.gathered ++ (b ∷ []))) all) _ _
        (λ e. (
          λ m r. same (
            has_more,
            record { begins = begins-more; bytes-so-far = so_far_more; quiet = m ∙ append-nil (made on xs) ∙ quiet-more },
          ),
          no_store,
        ))
        (λ e. f (ltb-false (length (s.gathered ++ (b ∷ []))) all e))

  module _ (s : State) (count : s.next ≡ length xs) where
    used-one : suc s.next ≡ length ys
    used-one = ap suc count ∙ sym longer

    gathered-one : length (s.gathered ++ (b ∷ [])) ≡ suc (length s.gathered)
    gathered-one = length-append s.gathered (b ∷ []) ∙ omega arith

    magic-read : s.phase ≡ Magic → s.gathered ≡ xs → length s.gathered < 8 → Reads (react Magic on s b)
    unfolding react
    magic-read e g few =
        let u = kept b s in
        let same : u.gathered ≡ ys = ap (λ (l : List ℕ). l ++ (b ∷ [])) g in
        cond_cases Reads (ltb (length u.gathered) 8) _ _
        (λ f. (λ m r. subst (λ (q : Phase). Read on ys q u) (sym e) same, no_store))
        (λ f. let all = ltb-false (length u.gathered) 8 f in
        let long : 8 ≤ length ys = omega (arith, ap length same) in
        let eight : take 8 ys ≡ u.gathered = take_all 8 ys (omega (arith, ap length same, gathered-one)) ∙ sym same in
        magic-cases Reads on.job.length u (λ h. begins-read u [] (long, ap little eight ∙ h) used-one no_store)
        (λ h. (
          λ m r. record {
            magic = λ z. absurd (z refl);
            no-magic = λ z. inr (long, λ q. h (sym (ap little eight) ∙ q));
            refused = λ l i. absurd (omega arith);
          },
          no_store,
        )))

    reads-header : s.phase ≡ Header → HasMagic xs × AtCommand on xs s → Reads (react Header on s b)
    unfolding react header_read
    reads-header e (has, at) =
        let u = kept b s in
        gathers-read s has at 16 (header_read on.job.length) (λ r. subst (λ (q : Phase). Read on ys q u) (sym e) r)
        (λ all. says-read u (has_more s has at) used-one (begins-more s has at) (so_far_more s has at) (quiet-more s has at)
        (named (command_id u.gathered)) (data_length u.gathered))

    judges-read : (k : Command) → s.phase ≡ Parameters k → Meant on (Parameters k) s → HasMagic xs × AtCommand on xs s
        → Reads (react (Parameters k) on s b)
    unfolding react
    judges-read k e m (has, at) =
        let u = kept b s in
        gathers-read s has at (16 + judged_bytes k) (parameters_read k on) (λ r. subst (λ (q : Phase). Read on ys q u) (sym e) r)
        (λ all. parameters-read u (has_more s has at) used-one (begins-more s has at) (so_far_more s has at) (quiet-more s has at) k
        (ap named (header-kept s.gathered (b ∷ []) m.1).0 ∙ m.5) (omega (arith, gathered-one)))

    storing-read : (a left : ℕ) → Meant on (Storing a left) s → Read on xs (Storing a left) s → Reads (react (Storing a left) on s b)
    unfolding react
    storing-read a left m (has, begins, there, read) =
        let u = used (tallied (with_stored 1 s.tally) s) in
        let x : Store = record { address = a; byte = b } in
        let more = magic-more on xs (b ∷ []) has in
        let begins-on = command-more on xs (b ∷ []) s.start begins in
        let there-on : s.start + 24 ≤ length ys = omega (arith, longer) in
        let read-on : s.gathered ≡ part ys s.start 24 = read ∙ sym (part-more xs (b ∷ []) s.start 24 there) in
        let of : (y : Store) → Memᴰ y (x ∷ []) → StoreOf on ys y =
        λ y n. subst (StoreOf on ys) (sym (Memᴰ.eq_of_singleton n))
        (record {
          place = s.start;
          begins = begins-on;
          command = Write;
          c = s.gathered;
          there = there-on;
          read = read-on;
          whole = m.4;
          above = m.5;
          below = omega (arith, m.0, m.6);
        }) in
        cond_cases (λ (t : State). Reads (record { state = t; stores = x ∷ [] })) (eqb left 1) _ _
        (λ f. finished-read u (x ∷ []) more used-one of)
        (λ f. (λ n r. (more, begins-on, there-on, read-on), of))

    skipping-read : (left : ℕ) → HasMagic xs → Reads (react (Skipping left) on s b)
    unfolding react
    skipping-read left has =
        let more = magic-more on xs (b ∷ []) has in
        cond_cases (λ (t : State). Reads (no_stores t)) (eqb left 1) _ _ (λ f. finished-read (used s) [] more used-one no_store)
        (λ f. (λ m r. more, no_store))

    react-read : (p : Phase) → s.phase ≡ p → Running p → Meant on p s → Read on xs p s → Reads (react p on s b)
    react-read Magic e r m h = magic-read e h (omega (arith, m.0, m.1))
    react-read Header e r m h = reads-header e h
    react-read (Parameters k) e r m h = judges-read k e m h
    react-read (Storing a left) e r m h = storing-read a left m h
    react-read (Skipping left) e r m h = skipping-read left h
    react-read (Stopped stop) e r m h = absurd r

-- ---- all bytes

module _ (on : Setting) where
  -- of any bytes: what their run has read, and whose stores it made
  abbrev AllRead : List ℕ → State → Type 0
  AllRead xs s = Read on xs s.phase s × ((x : Store) → Memᴰ x (made on xs) → StoreOf on xs x)

  byte-read : (xs : List ℕ) (b : ℕ) → Stands on (ran on xs) → AllRead xs (ran on xs)
      → AllRead (xs ++ (b ∷ [])) (step on (ran on xs) b).state
  unfolding run trace
  byte-read xs b h (read, of) = go (running-or-stopped s.phase)
    where
      s : State
      s = ran on xs

      after : ran on (xs ++ (b ∷ [])) ≡ (step on s b).state
      after = run-append on (begun on.job.length) xs (b ∷ [])

      makes : made on (xs ++ (b ∷ [])) ≡ made on xs ++ (step on s b).stores
      makes =
          trace-append on (begun on.job.length) xs (b ∷ [])
          ∙ ap (λ (r : List Store). made on xs ++ r) (append-nil (step on s b).stores)

      from : (t : Effect) → made on (xs ++ (b ∷ [])) ≡ made on xs ++ t.stores
          → ((x : Store) → Memᴰ x t.stores → StoreOf on (xs ++ (b ∷ [])) x)
          → (x : Store) → Memᴰ x (made on (xs ++ (b ∷ []))) → StoreOf on (xs ++ (b ∷ [])) x
      from t e f x m = either (Memᴰ.append_cases (made on xs) (subst (Memᴰ x) e m))
        where
          either : Memᴰ x (made on xs) ⊎ Memᴰ x t.stores → StoreOf on (xs ++ (b ∷ [])) x
          either (inl n) = store-more on xs (b ∷ []) x (of x n)
          either (inr n) = f x n

      go : Running s.phase ⊎ ((stop : Stop) × (s.phase ≡ Stopped stop)) → AllRead (xs ++ (b ∷ [])) (step on s b).state
      go (inl r) =
          let (reads, stores) = react-read on xs b s (begun-used on xs r) s.phase refl r h.meant read in
          (reads makes after, from (step on s b) makes stores)
      go (inr (stop, e)) =
          let none = ap (λ (t : Effect). t.stores) (step-stopped on s b e) in
          let same : made on (xs ++ (b ∷ [])) ≡ made on xs =
          makes ∙ ap (λ (r : List Store). made on xs ++ r) none ∙ append-nil (made on xs) in
          let halts : Halts on xs stop = subst (λ (p : Phase). Read on xs p s) e read in (
            subst (λ (t : State). Read on (xs ++ (b ∷ [])) t.phase t) (sym (ap (λ (t : Effect). t.state) (step-stopped on s b e)))
                (subst (λ (p : Phase). Read on (xs ++ (b ∷ [])) p s) (sym e) (halts-more on xs (b ∷ []) stop same halts)),
            from (no_stores s) (makes ∙ ap (λ (r : List Store). made on xs ++ r) none) (λ x m. absurd (Memᴰ.not-nil m)),
          )

  bytes_read : (bytes : List ℕ) → AllRead bytes (ran on bytes)
  unfolding trace
  bytes_read =
      bytes-keep on AllRead (
        cond_cases (λ (p : Phase). Read on [] p (begun on.job.length)) (ltb on.job.length 8) _ _
            (λ e. record {
              magic = λ z. absurd (z refl);
              no-magic = λ z. inl (ltb-true on.job.length 8 e);
              refused = λ l i. absurd (omega arith);
            })
            (λ e. refl),
        λ x m. absurd (Memᴰ.not-nil m),
      )
      byte-read

  -- what a stop says of the bytes
  pub stop_halts : (bytes : List ℕ) {stop : Stop} → (ran on bytes).phase ≡ Stopped stop → Halts on bytes stop
  stop_halts bytes e = subst (λ (p : Phase). Read on bytes p (ran on bytes)) e (bytes_read bytes).0

  -- whose store each is
  pub store_of : (bytes : List ℕ) (x : Store) → Memᴰ x (made on bytes) → StoreOf on bytes x
  store_of bytes = (bytes_read bytes).1

  -- the magic is over where 8 bytes have come
  pub magic-over : (bytes : List ℕ) → 8 ≤ length bytes → (ran on bytes).phase ≡ Magic → ⊥
  magic-over bytes l e =
      let m : Meant on Magic (ran on bytes) =
      subst (λ (p : Phase). Meant on p (ran on bytes)) e (run-stands on (begun on.job.length) bytes (begun-stands on)).meant in
      let same : (ran on bytes).gathered ≡ bytes = subst (λ (p : Phase). Read on bytes p (ran on bytes)) e (bytes_read bytes).0 in
      omega (arith, m.0, m.1, ap length same)

  -- a write that stores: it was judged over its whole range
  pub storing-whole : (bytes : List ℕ) {a left : ℕ} → (ran on bytes).phase ≡ Storing a left
      → WholeRange on Write (ran on bytes).gathered × (address (ran on bytes).gathered ≤ a)
      × (a + left ≡ address (ran on bytes).gathered + range_length Write (ran on bytes).gathered)
      × CommandAt on bytes (ran on bytes).start × ((ran on bytes).gathered ≡ part bytes (ran on bytes).start 24)
  storing-whole bytes {a} {left} e =
      let m : Meant on (Storing a left) (ran on bytes) =
      subst (λ (p : Phase). Meant on p (ran on bytes)) e (run-stands on (begun on.job.length) bytes (begun-stands on)).meant in
      let r : Read on bytes (Storing a left) (ran on bytes) =
      subst (λ (p : Phase). Read on bytes p (ran on bytes)) e (bytes_read bytes).0 in
      (m.4, m.5, m.6, r.1, r.3)

-- ---- the file's end

-- the bytes are the magic and whole commands, all done, up to the file's end
abbrev pub Complete : Setting → List ℕ → Type 0
Complete on bytes = HasMagic bytes × (first_byte on bytes ≡ on.job.length)

-- the run has stopped, with 0 where an entry was set, and else with 27
abbrev pub AtEnd : Setting → List ℕ → Type 0
AtEnd on bytes =
    (((ran on bytes).phase ≡ Stopped (stop_at 0 0)) × (is_some (ran on bytes).tally.entry ≡ true))
    ⊎ (((ran on bytes).phase ≡ Stopped (stop_at 27 on.job.length)) × (is_some (ran on bytes).tally.entry ≡ false))

pub complete-ends : (on : Setting) (bytes : List ℕ) → Complete on bytes → AtEnd on bytes
complete-ends on bytes (has, at) = go (running-or-stopped (ran on bytes).phase)
  where
    goes_on : ((ran on bytes).phase ≡ Magic) ⊎ (first_byte on bytes < on.job.length) → AtEnd on bytes
    goes_on (inl e) = absurd (magic-over on bytes has.0 e)
    goes_on (inr l) = absurd (omega arith)

    wrong : NoMagic on bytes → AtEnd on bytes
    wrong (inl l) = absurd (omega arith)
    wrong (inr (l, n)) = absurd (n has.1)

    stops : (stop : Stop) → (ran on bytes).phase ≡ Stopped stop → Ended on (ran on bytes) stop → Placed on (first_byte on bytes) stop
        → AtEnd on bytes
    stops stop e h (done c z i) =
        inl (e ∙ (λ j. Stopped (record { code = c j; place = z j })), (ended-done on (ran on bytes) stop h c).1)
    stops stop e h (no-entry c z i) =
        inr (e ∙ (λ j. Stopped (record { code = c j; place = z j })), (ended-without on (ran on bytes) stop h c).1)
    stops stop e h (no-magic c z) = wrong ((stop_halts on bytes e).no-magic c)
    stops stop e h (by-command i j k m) = absurd (omega arith)

    go : Running (ran on bytes).phase ⊎ ((stop : Stop) × ((ran on bytes).phase ≡ Stopped stop)) → AtEnd on bytes
    go (inl r) = goes_on (running-inside on bytes r)
    go (inr (stop, e)) = stops stop e (reached-ended on (ran on bytes) (bytes, refl) e) (stop-placed on bytes e)

-- The commands that a run has done, and what the tally says of them.
use mathlib.Core.Bool.{Bool, true, false, true≢false, false≢true, cond}
use mathlib.Core.Path.{◌≡◌, refl, sym, ap, subst, ◌∙◌}
use mathlib.Core.List.Memᴰ
use mathlib.Core.List.{List, [], ◌∷◌, ◌++◌, Memᴰ}
use mathlib.Core.Logic.{◌⊎◌, inl, inr}
use Prim.Native.Nat.{ℕ, suc, pred, ◌+◌, ◌-◌}
use native.Mathlib.Nat.{add-zero}
use native.Mathlib.Omega.{arith}
use borrow.Author.Tests.{lt-ltb, le-ltb}
use lib.Dec.{eqb, ltb}
use lib.ListN.{length, length-append}
use Rattle.std.specs.Prelude.{Option, Some, None, is_some}
use Rattle.answers.specs.Rules.{first_broken}
use Rattle.answers.proofs.ChoiceLaws.{cond_cases}
use Rattle.board.specs.Reach.{limit}
use Rattle.machine.specs.Commands.{
  named,
  command_id,
  data_length,
  address,
  fill_count,
  judged_bytes,
  data_rules,
  length_rules,
  range_rules,
  entry_rules,
  check_rules,
}
use Rattle.machine.specs.Machine.{
  Setting,
  State,
  Effect,
  react,
  step,
  run,
  no_stores,
  kept,
  used,
  stopped,
  tallied,
  in_phase,
  with_stored,
  with_entry,
  with_command,
  command_begins,
  finished,
  judged,
  magic_read,
  header_says,
  header_read,
  write_read,
  fill_read,
  entry_read,
  check_read,
  parameters_read,
  gather,
  unless_last,
}
use Rattle.machine.specs.declared.Command.{Command}
use Rattle.machine.specs.declared.Command.TheVariants.{Write, Fill, Entry, Check}
use Rattle.machine.specs.declared.Named.{Named}
use Rattle.machine.specs.declared.Named.TheVariants.{Known, Skipped, Unknown}
use Rattle.machine.specs.declared.Phase.{Phase}
use Rattle.machine.specs.declared.Phase.TheVariants.{Magic, Header, Parameters, Storing, Skipping, Stopped}
use Rattle.machine.specs.declared.Tally.{Tally}
use Rattle.machine.proofs.ReachedLaws.{step-stands}
use Rattle.machine.proofs.Standing.{Stands, Meant, begins_cases, magic-cases, header-kept}

-- ---- commands done

-- the bytes that a command has been judged by, where b is used
abbrev pub seen : Phase → State → ℕ → List ℕ
seen Magic s b = []
seen Header s b = s.gathered ++ (b ∷ [])
seen (Parameters k) s b = s.gathered ++ (b ∷ [])
seen (Storing a left) s b = s.gathered
seen (Skipping left) s b = s.gathered
seen (Stopped stop) s b = []

-- the command that b is the last byte of, if it is one's
abbrev pub done_by : Setting → State → ℕ → List (List ℕ)
done_by on s b =
    cond (ltb s.tally.commands (step on s b).state.tally.commands) (seen s.phase s b ∷ []) []

-- the commands that the bytes finish, in order
unfoldable pub commands_done : Setting → State → List ℕ → List (List ℕ)
commands_done on s [] = []
commands_done on s (b ∷ bs) = done_by on s b ++ commands_done on (step on s b).state bs

abbrev pub is_entry : Named → Bool
is_entry (Known Write) = false
is_entry (Known Fill) = false
is_entry (Known Entry) = true
is_entry (Known Check) = false
is_entry Skipped = false
is_entry Unknown = false

-- the address of the last entry command of a list, a where there is none
abbrev pub entry_of : List (List ℕ) → Option ℕ → Option ℕ
entry_of [] a = a
entry_of (c ∷ cs) a = entry_of cs (cond (is_entry (named (command_id c))) (Some (address c)) a)

-- ---- what a byte tells of the command c

-- what the tally becomes where c is done: as it was, but for the count and the last entry
pub record Told (c : List ℕ) (t u : Tally) : Type 0 where
  pub count : u.commands ≡ suc t.commands
  pub entry : u.entry ≡ cond (is_entry (named (command_id c))) (Some (address c)) t.entry

pub record Untold (t u : Tally) : Type 0 where
  pub count : u.commands ≡ t.commands
  pub entry : u.entry ≡ t.entry

abbrev Tells : List ℕ → Tally → Tally → Type 0
Tells c t u = Untold t u ⊎ Told c t u

untold : (c : List ℕ) (t : Tally) → Tells c t t
untold c t = inl (record { count = refl; entry = refl })

begins-tally : (file_length : ℕ) (s : State) → (command_begins file_length s).tally ≡ s.tally
begins-tally file_length s =
    begins_cases (λ (t : State). t.tally ≡ s.tally) file_length s (λ e f. refl) (λ e f. refl) (λ e. refl) (λ l. refl)

-- the command gathered is done; f says whether it is an entry
module _ (file_length : ℕ) (u : State) (before : Tally) (commands : u.tally.commands ≡ before.commands) where
  finished-tells : (f : Bool) → is_entry (named (command_id u.gathered)) ≡ f
      → u.tally.entry ≡ cond f (Some (address u.gathered)) before.entry
      → Tells u.gathered before (finished file_length u).tally
  unfolding finished
  finished-tells f q entry =
      inr (subst (Told u.gathered before) (sym (begins-tally file_length (tallied (with_command u.tally) u)))
      (record {
        count = ap suc commands;
        entry = entry ∙ ap (λ (g : Bool). cond g (Some (address u.gathered)) before.entry) (sym q);
      }))

judged-tells : (c : List ℕ) (code : ℕ) (s : State) (t : Effect) → Tells c s.tally t.state.tally
    → Tells c s.tally (judged code s t).state.tally
judged-tells c code s t h =
    cond_cases (λ (u : Effect). Tells c s.tally u.state.tally) (eqb code 0) t (no_stores (stopped code s.start s)) (λ e. h)
    (λ e. untold c s.tally)

module _ (on : Setting) (u : State) where
  abbrev tells : State → Type 0
  tells t = Tells u.gathered u.tally t.tally

  says-tells : (x : Named) (n : ℕ) → named (command_id u.gathered) ≡ x → tells (header_says x on.job.length n u).state
  unfolding header_says
  says-tells (Known k) n q =
      judged-tells u.gathered (first_broken (length_rules k n (on.job.length - u.next))) u _ (untold u.gathered u.tally)
  says-tells Skipped n q =
      judged-tells u.gathered (first_broken (data_rules n (on.job.length - u.next))) u _
      (cond_cases tells (eqb n 0) (finished on.job.length u) (in_phase (Skipping n) u)
      (λ e. finished-tells on.job.length u u.tally refl false (ap is_entry q) refl) (λ e. untold u.gathered u.tally))
  says-tells Unknown n q = untold u.gathered u.tally

  parameters-tells : (k : Command) → named (command_id u.gathered) ≡ Known k → tells (parameters_read k on u).state
  unfolding parameters_read write_read fill_read entry_read check_read
  parameters-tells Write q =
      let a = address u.gathered in
      let n = data_length u.gathered - 8 in
      judged-tells u.gathered (first_broken (range_rules on.map (limit on.job.mode) a n)) u _
      (cond_cases tells (eqb n 0) (finished on.job.length u) (in_phase (Storing a n) u)
      (λ e. finished-tells on.job.length u u.tally refl false (ap is_entry q) refl) (λ e. untold u.gathered u.tally))
  parameters-tells Fill q =
      let a = address u.gathered in
      let n = fill_count u.gathered in
      judged-tells u.gathered (first_broken (range_rules on.map (limit on.job.mode) a n)) u _
      (finished-tells on.job.length (tallied (with_stored n u.tally) u) u.tally refl false (ap is_entry q) refl)
  parameters-tells Entry q =
      let a = address u.gathered in
      judged-tells u.gathered (first_broken (entry_rules (limit on.job.mode) a)) u _
      (finished-tells on.job.length (tallied (with_entry a u.tally) u) u.tally refl true (ap is_entry q) refl)
  parameters-tells Check q =
      judged-tells u.gathered (first_broken (check_rules on.table u.gathered)) u _
      (finished-tells on.job.length u u.tally refl false (ap is_entry q) refl)

magic-tally : (file_length : ℕ) (s : State) → (magic_read file_length s).state.tally ≡ s.tally
magic-tally file_length s =
    magic-cases (λ (t : Effect). t.state.tally ≡ s.tally) file_length s (λ e. begins-tally file_length s) (λ e. refl)

module _ (on : Setting) (s : State) (b : ℕ) where
  gather-tells : (c : List ℕ) (all : ℕ) (says : State → Effect) → Tells c s.tally (says (kept b s)).state.tally
      → Tells c s.tally (gather all says s b).state.tally
  gather-tells c all says h =
      cond_cases (λ (u : Effect). Tells c s.tally u.state.tally) (ltb (length (s.gathered ++ (b ∷ []))) all) (no_stores (kept b s))
      (says (kept b s)) (λ e. untold c s.tally) (λ e. h)

  -- the last byte of the data finishes the command
  last-tells : (left : ℕ) (p : Phase) (u : State) → u.tally.commands ≡ s.tally.commands → u.tally.entry ≡ s.tally.entry
      → is_entry (named (command_id u.gathered)) ≡ false
      → Tells u.gathered s.tally (unless_last on.job.length left p u).tally
  last-tells left p u commands entry q =
      cond_cases (λ (t : State). Tells u.gathered s.tally t.tally) (eqb left 1) (finished on.job.length u) (in_phase p u)
      (λ e. finished-tells on.job.length u s.tally commands false q entry)
      (λ e. inl (record { count = commands; entry = entry }))

  react-tells : (p : Phase) → Meant on p s → Tells (seen p s b) s.tally (react p on s b).state.tally
  unfolding react header_read
  react-tells Magic m =
      gather-tells [] 8 (magic_read on.job.length)
      (subst (Tells [] s.tally) (sym (magic-tally on.job.length (kept b s))) (untold [] s.tally))
  react-tells Header m =
      let u = kept b s in
      gather-tells u.gathered 16 (header_read on.job.length)
      (says-tells on u (named (command_id u.gathered)) (data_length u.gathered) refl)
  react-tells (Parameters k) m =
      let u = kept b s in
      gather-tells u.gathered (16 + judged_bytes k) (parameters_read k on)
      (parameters-tells on u k (ap named (header-kept s.gathered (b ∷ []) m.1).0 ∙ m.5))
  react-tells (Storing a left) m =
      last-tells left (Storing (suc a) (pred left)) (used (tallied (with_stored 1 s.tally) s)) refl refl (ap is_entry m.4.is)
  react-tells (Skipping left) m = last-tells left (Skipping (pred left)) (used s) refl refl (ap is_entry m.2)
  react-tells (Stopped stop) m = untold [] s.tally

-- ---- what the tally says of the commands done

pub record Account (cs : List (List ℕ)) (t u : Tally) : Type 0 where
  pub count : u.commands ≡ t.commands + length cs
  pub entry : u.entry ≡ entry_of cs t.entry

entry_of-append : (cs ds : List (List ℕ)) (a : Option ℕ) → entry_of (cs ++ ds) a ≡ entry_of ds (entry_of cs a)
entry_of-append [] ds a = refl
entry_of-append (c ∷ cs) ds a = entry_of-append cs ds (cond (is_entry (named (command_id c))) (Some (address c)) a)

account-append : (cs ds : List (List ℕ)) (t u v : Tally) → Account cs t u → Account ds u v → Account (cs ++ ds) t v
account-append cs ds t u v g h =
    record {
      count = rw length-append (omega (arith, g.count, h.count));
      entry = h.entry ∙ ap (entry_of ds) g.entry ∙ sym (entry_of-append cs ds t.entry);
    }

account-one : (c : List ℕ) (t u : Tally) → Tells c t u → Account (cond (ltb t.commands u.commands) (c ∷ []) []) t u
account-one c t u (inl h) =
    subst (λ (f : Bool). Account (cond f (c ∷ []) []) t u) (sym (le-ltb t.commands u.commands (omega (arith, h.count))))
    (record { count = omega (arith, h.count); entry = h.entry })
account-one c t u (inr h) =
    subst (λ (f : Bool). Account (cond f (c ∷ []) []) t u) (sym (lt-ltb t.commands u.commands (omega (arith, h.count))))
    (record { count = omega (arith, h.count); entry = h.entry })

pub run-account : (on : Setting) (s : State) (xs : List ℕ) → Stands on s → Account (commands_done on s xs) s.tally (run on s xs).tally
unfolding run commands_done
run-account on s [] h = record { count = sym (add-zero s.tally.commands); entry = refl }
run-account on s (x ∷ xs) h =
    account-append (done_by on s x) (commands_done on (step on s x).state xs) s.tally (step on s x).state.tally
    (run on (step on s x).state xs).tally
    (account-one (seen s.phase s x) s.tally (step on s x).state.tally (react-tells on s x s.phase h.meant))
    (run-account on (step on s x).state xs (step-stands on s x h))

-- ---- the last entry command of a list

-- no command of the list is an entry
abbrev pub NoEntry : List (List ℕ) → Type 0
NoEntry cs = (d : List ℕ) → Memᴰ d cs → named (command_id d) ≡ Known Entry → ⊥

-- c is the last entry command of cs
pub record LastEntry (cs : List (List ℕ)) (c : List ℕ) : Type 0 where
  pub before : List (List ℕ)
  pub behind : List (List ℕ)
  pub split : cs ≡ before ++ (c ∷ behind)
  pub is : named (command_id c) ≡ Known Entry
  pub last : NoEntry behind

is-entry : (x : Named) → is_entry x ≡ true → x ≡ Known Entry
is-entry (Known Write) e = absurd (false≢true e)
is-entry (Known Fill) e = absurd (false≢true e)
is-entry (Known Entry) e = refl
is-entry (Known Check) e = absurd (false≢true e)
is-entry Skipped e = absurd (false≢true e)
is-entry Unknown e = absurd (false≢true e)

-- once one was set, one is
entered-stays : (cs : List (List ℕ)) (a : ℕ) → is_some (entry_of cs (Some a)) ≡ true
entered-stays [] a = refl
entered-stays (c ∷ cs) a =
    cond_cases (λ (o : Option ℕ). is_some (entry_of cs o) ≡ true) (is_entry (named (command_id c))) (Some (address c)) (Some a)
    (λ e. entered-stays cs (address c)) (λ e. entered-stays cs a)

-- whether the list sets one, where none was set
abbrev pub enters : List (List ℕ) → Bool
enters cs = is_some (entry_of cs None)

-- a list in which nothing set an entry
pub none-entered : (cs : List (List ℕ)) (a : Option ℕ) → enters cs ≡ false → (entry_of cs a ≡ a) × NoEntry cs
none-entered [] a e = (refl, λ d m q. Memᴰ.not-nil m)
none-entered (c ∷ cs) a e = go (is_entry (named (command_id c))) refl e (none-entered cs a)
  where
    go : (f : Bool) → is_entry (named (command_id c)) ≡ f → is_some (entry_of cs (cond f (Some (address c)) None)) ≡ false
        → (enters cs ≡ false → (entry_of cs a ≡ a) × NoEntry cs)
        → (entry_of cs (cond (is_entry (named (command_id c))) (Some (address c)) a) ≡ a) × NoEntry (c ∷ cs)
    go true q z below = absurd (true≢false (sym (entered-stays cs (address c)) ∙ z))
    go false q z below =
        (rw q (below z).0, λ d m k. member d k (Memᴰ.cases_cons m))
      where
        member : (d : List ℕ) → named (command_id d) ≡ Known Entry → (d ≡ c) ⊎ Memᴰ d cs → ⊥
        member d k (inl e) = true≢false (ap is_entry (sym k ∙ ap (λ (x : List ℕ). named (command_id x)) e) ∙ q)
        member d k (inr m) = (below z).1 d m k

-- where one was set, the last one's address
pub last_entry : (cs : List (List ℕ)) (a : Option ℕ) → enters cs ≡ true
    → (c : List ℕ) × LastEntry cs c × (entry_of cs a ≡ Some (address c))
last_entry [] a e = absurd (false≢true e)
last_entry (c ∷ cs) a e =
    go (is_entry (named (command_id c))) refl (enters cs) refl e (λ (b : Option ℕ). last_entry cs b)
  where
    go : (f : Bool) → is_entry (named (command_id c)) ≡ f → (g : Bool) → enters cs ≡ g
        → is_some (entry_of cs (cond f (Some (address c)) None)) ≡ true
        → ((b : Option ℕ) → enters cs ≡ true → (d : List ℕ) × LastEntry cs d × (entry_of cs b ≡ Some (address d)))
        → (d : List ℕ) × LastEntry (c ∷ cs) d
        × (entry_of cs (cond (is_entry (named (command_id c))) (Some (address c)) a) ≡ Some (address d))
    go f q true g z below =
        let (d, l, e) = below (cond (is_entry (named (command_id c))) (Some (address c)) a) g in
        let split = ap (λ (r : List (List ℕ)). c ∷ r) l.split in
        (d, record { before = c ∷ l.before; behind = l.behind; split = split; is = l.is; last = l.last }, e)
    go true q false g z below =
        let none = none-entered cs (Some (address c)) g in
        (c, record { before = []; behind = cs; split = refl; is = is-entry (named (command_id c)) q; last = none.1 }, rw q none.0)
    go false q false g z below = absurd (false≢true (sym g ∙ z))

-- and the other way round
pub no-entry-entered : (cs : List (List ℕ)) → NoEntry cs → enters cs ≡ false
no-entry-entered [] none = refl
no-entry-entered (c ∷ cs) none =
    cond_cases (λ (o : Option ℕ). is_some (entry_of cs o) ≡ false) (is_entry (named (command_id c))) (Some (address c)) None
    (λ e. absurd (none c (Memᴰ.head refl) (is-entry (named (command_id c)) e)))
    (λ e. no-entry-entered cs (λ d m. none d (Memᴰ.tail m)))

pub last-entry-entered : (cs : List (List ℕ)) (c : List ℕ) → LastEntry cs c → enters cs ≡ true
last-entry-entered cs c l =
    let o = entry_of l.before None in
    ap (λ (ds : List (List ℕ)). enters ds) l.split ∙ ap is_some (entry_of-append l.before (c ∷ l.behind) None)
    ∙ ap (λ (x : Named). is_some (entry_of l.behind (cond (is_entry x) (Some (address c)) o))) l.is
    ∙ entered-stays l.behind (address c)

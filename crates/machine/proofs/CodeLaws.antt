-- Laws that carry the code's loops and fields to the definitions.
use mathlib.Core.Path.{◌≡◌, sym, ap, ap₂, subst, ◌∙◌}
use mathlib.Core.Bool.{true, false, cond}
use mathlib.Core.List.{List, ◌++◌}
use Prim.Native.Nat.{ℕ, ◌+◌, ◌-◌, ◌≤◌, ◌<◌}
use native.Mathlib.Numerals.{add-one}
use native.Mathlib.Omega.{arith}
use borrow.Author.Tests.{eq-eqb, ne_eqb, lt-ltb, le-ltb, not-false}
use lib.Dec.{eqb, lit≤}
use lib.ListN.{length, replicate, get_or, take, drop, length-append, length-take, drop_of_length-le}
use lib.Seq.{take_at, drop-cons, take-take}
use Rattle.std.specs.Prelude.{Result, Err}
use Rattle.octets.specs.Numbers.{little}
use Rattle.octets.specs.Parts.{part, put}
use Rattle.octets.proofs.PartLaws.{part-of-take}
use Rattle.answers.specs.Codes.{number}
use Rattle.answers.specs.Rules.{first_broken}
use Rattle.answers.specs.declared.codes.Refusal.{Refusal}
use Rattle.answers.proofs.ChoiceLaws.{cond-eq, cond-ne}
use Rattle.answers.proofs.RefusalLaws.{number-positive}
use Rattle.answers.proofs.RuleLaws.{zero-all-hold}
use Rattle.board.specs.Cpuid.{Leaf, lookup}
use Rattle.board.specs.Map.{Region, regions, ordered, ram, offset}
use Rattle.board.specs.Reach.{limit, reachable}
use Rattle.board.proofs.MapLaws.{ordered-means, offset-fits}
use Rattle.machine.specs.Code.{state_of}
use Rattle.machine.specs.ContractWords.{kept_all, after, Done, Lent}
use Rattle.machine.specs.Commands.{
  has_zero,
  named,
  command_id,
  data_length,
  address,
  fill_count,
  pattern,
  judged_bytes,
  range_rules,
  entry_rules,
  found_rules,
  check_rules,
  text,
  eax,
  ecx,
  value,
  mask,
  result_register,
}
use Rattle.machine.specs.Machine.{
  State,
  Effect,
  no_stores,
  stopped,
  judged,
  in_phase,
  tallied,
  with_stored,
  with_entry,
  command_begins,
  finished,
  magic_read,
  header_read,
  header_says,
  write_read,
  fill_read,
  entry_read,
  stores_from,
}
use Rattle.machine.specs.Memory.{applied}
use Rattle.machine.specs.declared.Command.{Command}
use Rattle.machine.specs.declared.Command.TheVariants.{Write, Fill, Entry, Check}
use Rattle.machine.specs.declared.Control.{Control}
use Rattle.machine.specs.declared.Job.{Job}
use Rattle.machine.specs.declared.Named.{Named}
use Rattle.machine.specs.declared.Phase.TheVariants.{Storing}
use Rattle.machine.proofs.MemoryLaws.{applied-from}

-- ---- the text test

-- the byte at i is the zero that is looked for
pub zero-met : (text : List ℕ) (i : ℕ) → i < length text → get_or text i 0 ≡ 0 → has_zero (drop i text) ≡ true
unfolding has_zero
zero-met text i h e = rw (drop-cons text i 0 h) (simp (eq-eqb _ _ e))

-- it is not, and the rest is looked at
pub zero-ahead : (text : List ℕ) (i : ℕ) → i < length text → (get_or text i 0 ≡ 0 → ⊥)
    → has_zero (drop i text) ≡ has_zero (drop (i + 1) text)
unfolding has_zero
zero-ahead text i h n = rw (add-one, drop-cons text i 0 h) (simp (ne_eqb _ _ n))

pub zero-missing : (text : List ℕ) (i : ℕ) → length text ≤ i → has_zero (drop i text) ≡ false
unfolding has_zero
zero-missing text i h = ap has_zero (drop_of_length-le text h)

-- ---- the bytes gathered

-- bytes kept behind the first k
take_put : (h : List ℕ) (k : ℕ) (xs : List ℕ) → k + length xs ≤ length h → take (k + length xs) (put h k xs) ≡ take k h ++ xs
take_put h k xs fits =
    take_at (take k h ++ xs) (drop (k + length xs) h) (k + length xs) (simp (length-append, length-take) (omega arith))

pub kept-behind : (c : Control) (h xs : List ℕ) {g : List ℕ} (n : ℕ) → n ≡ length xs → g ≡ put h c.kept xs → c.kept + n ≤ length h
    → state_of (record { phase = c.phase; kept = c.kept + n; start = c.start; next = c.next + n; tally = c.tally }) g
    ≡ kept_all xs (state_of c h)
kept-behind c h xs {g} n e f fits =
    let p : take (c.kept + n) g ≡ take c.kept h ++ xs =
    ap₂ (λ (m : ℕ) (l : List ℕ). take (c.kept + m) l) e f ∙ take_put h c.kept xs (omega arith) in
    λ i. record { phase = c.phase; gathered = p i; start = c.start; next = c.next + e i; tally = c.tally }

-- a field that lies in the first k bytes
part-gathered : (h : List ℕ) (k at n : ℕ) → at + n ≤ k → part h at n ≡ part (take k h) at n
part-gathered h k at n l =
    part-of-take h at n ∙ ap (drop at) (sym (take-take (at + n) k h l)) ∙ sym (part-of-take (take k h) at n)

pub field : (h : List ℕ) (k at n : ℕ) {x : ℕ} → at + n ≤ k → x ≡ little (part h at n) → x ≡ little (part (take k h) at n)
field h k at n l e = e ∙ ap little (part-gathered h k at n l)

-- 8 bytes gathered are the whole magic
pub magic-gathered : (c : Control) (h : List ℕ) {x : ℕ} → c.kept ≡ 8 → x ≡ little (part h 0 8) → little (state_of c h).gathered ≡ x
magic-gathered c h e p = ap (λ (k : ℕ). little (take k h)) e ∙ sym p

pub judged-few : (k : Command) → judged_bytes k ≤ 88
judged-few Write = lit≤ tt
judged-few Fill = lit≤ tt
judged-few Entry = lit≤ tt
judged-few Check = lit≤ tt

-- ---- what is judged

-- a command that is refused stops the run, one that is not goes on
pub judged-stopped : (s : State) {code rules : ℕ} → code ≡ rules → (e : Effect) → (code ≡ 0 → ⊥)
    → judged rules s e ≡ no_stores (stopped code s.start s)
judged-stopped s {code} same e n =
    ap (λ (r : ℕ). judged r s e) (sym same) ∙ cond-ne code 0 e (no_stores (stopped code s.start s)) n

pub judged-stops : (c : Control) (h : List ℕ) (e : Effect) {rules : ℕ} (r : Result Control Refusal) (why : Refusal) → number why ≡ rules
    → r ≡ Err why → judged rules (state_of c h) e ≡ no_stores (after c r h)
judged-stops c h e r why same err =
    judged-stopped (state_of c h) same e (λ z. let n = number-positive why in omega arith)
    ∙ ap (λ (x : Result Control Refusal). no_stores (after c x h)) (sym err)

pub judged-goes : (s : State) (e : Effect) {rules : ℕ} → 0 ≡ rules → judged rules s e ≡ e
judged-goes s e same = ap (λ (n : ℕ). judged n s e) (sym same)

module _ (file_length : ℕ) (s : State) where
  pub magic-passes : little s.gathered ≡ 0x8adc5fa2448cb65e → magic_read file_length s ≡ no_stores (command_begins file_length s)
  unfolding magic_read
  magic-passes e = ap no_stores (cond-eq (little s.gathered) 0x8adc5fa2448cb65e (command_begins file_length s) (stopped 16 0 s) e)

  pub magic-differs : (little s.gathered ≡ 0x8adc5fa2448cb65e → ⊥) → magic_read file_length s ≡ no_stores (stopped 16 0 s)
  unfolding magic_read
  magic-differs n = ap no_stores (cond-ne (little s.gathered) 0x8adc5fa2448cb65e (command_begins file_length s) (stopped 16 0 s) n)

  -- a header says what its ID and its data length say
  pub header-by : {w : Named} {id n : ℕ} → id ≡ command_id s.gathered → n ≡ data_length s.gathered → named id ≡ w
      → header_read file_length s ≡ header_says w file_length n s
  unfolding header_read
  header-by i l e =
      ap₂ (λ (v : Named) (m : ℕ). header_says v file_length m s) (ap named (sym i) ∙ e) (sym l)

-- ---- the rules in order, by the tests that the code made

module _ (map : List Region) (top a n : ℕ) where
  pub out-of-reach : reachable top a n ≡ false → 20 ≡ first_broken (range_rules map top a n)
  out-of-reach e = simp e

  pub out-of-ram : reachable top a n ≡ true → ram map a n ≡ false → 21 ≡ first_broken (range_rules map top a n)
  out-of-ram e f = simp (e, f)

  pub in-range : reachable top a n ≡ true → ram map a n ≡ true → 0 ≡ first_broken (range_rules map top a n)
  in-range e f = simp (e, f)

-- what a range that was judged says
pub range-ram : (map : List Region) (top a n : ℕ) → 0 ≡ first_broken (range_rules map top a n) → ram map a n ≡ true
range-ram map top a n e = not-false _ (zero-all-hold (range_rules map top a n) tt (sym e)).1.0

module _ (table : List Leaf) (c : List ℕ) where
  pub text-open : has_zero (text c) ≡ false → 22 ≡ first_broken (check_rules table c)
  text-open e = simp e

  module _ (zero : has_zero (text c) ≡ true) where
    pub no-instruction : eqb (length table) 0 ≡ true → 23 ≡ first_broken (check_rules table c)
    no-instruction e = simp (zero, e)

    module _ (some : eqb (length table) 0 ≡ false) where
      pub no_register : 3 < result_register c → 24 ≡ first_broken (check_rules table c)
      no_register h = simp (zero, some, lt-ltb _ _ h)

      pub by-record : result_register c ≤ 3
          → first_broken (found_rules (lookup table (eax c) (ecx c) (result_register c)) (mask c) (value c)) ≡ first_broken (check_rules table c)
      by-record h = simp (zero, some, le-ltb _ _ h)

-- ---- what the parameters say, by the numbers that the code read from them

-- what a write of n bytes at a that passes says
abbrev pub written : Job → State → ℕ → ℕ → Effect
written job s a n = no_stores (cond (eqb n 0) (finished job.length s) (in_phase (Storing a n) s))

pub write-by : (job : Job) (map : List Region) (s : State) {a n : ℕ} → a ≡ address s.gathered → n ≡ data_length s.gathered - 8
    → write_read job map s ≡ judged (first_broken (range_rules map (limit job.mode) a n)) s (written job s a n)
unfolding write_read
write-by job map s at long =
    sym (λ i. judged (first_broken (range_rules map (limit job.mode) (at i) (long i))) s (written job s (at i) (long i)))

-- what a fill of n bytes v at a does
abbrev pub filled : Job → State → ℕ → ℕ → ℕ → Effect
filled job s a n v =
    record {
      state = finished job.length (tallied (with_stored n s.tally) s);
      stores = stores_from a (replicate n v);
    }

pub fill-by : (job : Job) (map : List Region) (s : State) {a n v : ℕ} → a ≡ address s.gathered → n ≡ fill_count s.gathered
    → v ≡ pattern s.gathered
    → fill_read job map s ≡ judged (first_broken (range_rules map (limit job.mode) a n)) s (filled job s a n v)
unfolding fill_read
fill-by job map s at long byte =
    sym (λ i. judged (first_broken (range_rules map (limit job.mode) (at i) (long i))) s (filled job s (at i) (long i) (byte i)))

abbrev pub entered : Job → State → ℕ → Effect
entered job s a = no_stores (finished job.length (tallied (with_entry a s.tally) s))

pub entry-by : (job : Job) (s : State) {a : ℕ} → a ≡ address s.gathered
    → entry_read job s ≡ judged (first_broken (entry_rules (limit job.mode) a)) s (entered job s a)
unfolding entry_read
entry-by job s at = sym (λ i. judged (first_broken (entry_rules (limit job.mode) (at i))) s (entered job s (at i)))

-- ---- what is done

pub done-no_stores : {e : Effect} (s : State) (map : List Region) (m : List ℕ) → e ≡ no_stores s → Done e s map m m
unfolding applied
done-no_stores s map m q =
    record {
      state = sym (ap (λ (u : Effect). u.state) q);
      memory = sym (ap (λ (u : Effect). applied map m u.stores) q);
    }

pub done-same : {e u : Effect} {s : State} {map : List Region} {before after : List ℕ} → e ≡ u → Done u s map before after
    → Done e s map before after
done-same {s = s} {map} {before} {after} q d = subst (λ (v : Effect). Done v s map before after) (sym q) d

-- a range that is stored to: all of it in memory, byte after byte
module _ (map memory : List ℕ) (order : ordered 0 (regions map) ≡ true) (lent : Lent map (length memory)) (a : ℕ) where
  pub range-fits : (n : ℕ) → ram (regions map) a n ≡ true → offset (regions map) a + n ≤ length memory
  range-fits n r =
      omega (arith, lent.sum, offset-fits 0 (regions map) (ordered-means 0 (regions map) order) a n r)

  pub block-stored : (bs : List ℕ) {at : ℕ} {after : List ℕ} → ram (regions map) a (length bs) ≡ true → at ≡ offset (regions map) a
      → after ≡ put memory at bs → after ≡ applied (regions map) memory (stores_from a bs)
  block-stored bs r e p =
      p ∙ ap (λ (i : ℕ). put memory i bs) e
      ∙ sym (applied-from (regions map) memory a bs order (omega (arith, lent.sum)) r)

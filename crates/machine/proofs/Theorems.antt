-- The theorems of the command machine and of running bare, each with the sentence that it carries.
use mathlib.Core.Bool.{Bool, true, true≢false, ◌&&◌, cond}
use mathlib.Core.Path.{◌≡◌, refl, sym, ap, ap₂, subst, ◌∙◌}
use mathlib.Core.List.Memᴰ
use mathlib.Core.List.{List, [], ◌∷◌, ◌++◌, append-nil, Memᴰ}
use mathlib.Core.Logic.{◌⊎◌, inl, inr, ◌≢◌, ◌↔◌}
use Prim.Native.Nat.{ℕ, ◌+◌, ◌^◌, ◌≤◌, ◌<◌, max}
use native.Mathlib.Nat.{zero-add}
use native.Mathlib.Omega.{arith}
use borrow.Author.Tests.{eq-eqb, ne_eqb, leb-true, le-leb, lt-leb}
use lib.Dec.{eqb, leb, lit≤}
use lib.ListN.{length, get_or, take, length-append}
use Rattle.std.specs.Prelude.{Option, Some, None, is_some, unwrap_or}
use Rattle.octets.specs.Parts.{part}
use Rattle.answers.specs.Answers.{Outcome, answered, answer_after, written_after, record_length, stop_at}
use Rattle.answers.specs.Rules.{Rule, first_broken, size_rules}
use Rattle.answers.specs.declared.Answer.{Answer}
use Rattle.answers.specs.declared.Stop.{Stop}
use Rattle.answers.proofs.ChoiceLaws.{cond_cases}
use Rattle.answers.proofs.OutcomeLaws.{given, unwritten, answered-alike, answered-cases, answered-unwritten}
use Rattle.answers.proofs.RecordLaws.{Fit, record-injective}
use Rattle.board.specs.Cpuid.{table_rules}
use Rattle.board.specs.Map.{Region, regions, ordered, total, offset, map_rules}
use Rattle.board.specs.Reach.{limit, mode_rules}
use Rattle.board.proofs.MapLaws.{Ordered, ordered-holds, Covered, ram-covered, offset-injective, offset-inside}
use Rattle.machine.specs.Bare.{Bare, bare_rules, bare_setting, bare_end, bare_answer_made, bare_stores_made, run_bare}
use Rattle.machine.specs.Commands.{address}
use Rattle.machine.specs.Machine.{Setting, State, Store, setting_of, begun, run, trace, halted, stop_or, answer_of}
use Rattle.machine.specs.Memory.{applied}
use Rattle.machine.specs.declared.Command.{Command}
use Rattle.machine.specs.declared.Command.TheVariants.{Write}
use Rattle.machine.specs.declared.Phase.TheVariants.{Storing, Stopped}
use Rattle.machine.proofs.BareLaws.{bare-cases, bare-runs, bare-short, bare-taken, bare-answered}
use Rattle.machine.proofs.History.{commands_done, enters, NoEntry, LastEntry, run-account, last_entry, none-entered, no-entry-entered, last-entry-entered}
use Rattle.machine.proofs.Judging.{CommandAt, StoreOf, store_of, stop_halts, storing-whole, Complete, AtEnd, complete-ends}
use Rattle.machine.proofs.MemoryLaws.{byte-kept, byte-stored, last-at, length-applied}
use Rattle.machine.proofs.Places.{
  spans,
  first_byte,
  Placed,
  done,
  no-magic,
  by-command,
  no-entry,
  NotStoring,
  stop-placed,
  unstored-first,
}
use Rattle.machine.proofs.ReachedLaws.{
  run-next-le,
  reached-stands,
  reached-ended,
  reached-stored,
  reached-entry,
  run-stored,
  trace-inside,
}
use Rattle.machine.proofs.Reserved.{Alike, alike-run, alike-length}
use Rattle.machine.proofs.Runs.{ran, made, empty, trace-append, trace-stopped}
use Rattle.machine.proofs.Standing.{
  Ended,
  at-end,
  at-magic,
  at-command,
  without-entry,
  ended-done,
  ended-without,
  begun-stands,
  WholeRange,
  range_length,
}

-- ---- the order of stores

-- What the first bytes of a file cause, at one and the same file length, is a first part of what the whole file causes, in order.
pub first_part : (on : Setting) (xs ys : List ℕ)
    → made on (xs ++ ys) ≡ made on xs ++ trace on (ran on xs) ys
first_part on xs ys = trace-append on (begun on.job.length) xs ys

-- A run that has stopped stores nothing more.
pub stopped-stores-nothing : (on : Setting) (xs ys : List ℕ) {stop : Stop} → (ran on xs).phase ≡ Stopped stop
    → made on (xs ++ ys) ≡ made on xs
stopped-stores-nothing on xs ys e =
    first_part on xs ys
    ∙ ap (λ (r : List Store). made on xs ++ r) (trace-stopped on (ran on xs) ys e)
    ∙ append-nil (made on xs)

-- ---- where stores go

-- Every store is at an address in a region of the map and below the reach limit.
pub store-inside : (on : Setting) (bytes : List ℕ) (x : Store) → Memᴰ x (made on bytes)
    → Covered on.map x.address × (x.address < limit on.job.mode)
store-inside on bytes x m = trace-inside on (begun on.job.length) bytes x (begun-stands on) m

module _ (on : Setting) (taken : Ordered 0 on.map) (bytes memory : List ℕ) where
  abbrev stores : List Store
  stores = made on bytes

  abbrev map : List Region
  map = on.map

  apart : (x y : ℕ) → Covered map x → Covered map y → y ≢ x → offset map x ≢ offset map y
  apart x y c d n e = n (sym (offset-injective 0 map taken x y c d e))

  -- A memory byte whose address no store has is unchanged.
  pub byte-unchanged : (a : ℕ) → Covered map a → ((x : Store) → Memᴰ x stores → x.address ≢ a)
      → get_or (applied map memory stores) (offset map a) 0 ≡ get_or memory (offset map a) 0
  byte-unchanged a c none =
      byte-kept map memory stores (offset map a)
      (λ x m. apart a x.address c (store-inside on bytes x m).0 (none x m))

  -- One that has is the last such store's byte.
  pub byte-of-last-store : (xs : List Store) (x : Store) (ys : List Store) → stores ≡ xs ++ (x ∷ ys) → total map ≤ length memory
      → ((y : Store) → Memᴰ y ys → y.address ≢ x.address)
      → get_or (applied map memory stores) (offset map x.address) 0 ≡ x.byte
  byte-of-last-store xs x ys e lent last =
      let in-stores : (y : Store) → Memᴰ y (x ∷ ys) → Covered map y.address =
      λ y m. (store-inside on bytes y (subst (Memᴰ y) (sym e) (Memᴰ.append_right xs m))).0 in
      let c = in-stores x (Memᴰ.head refl) in
      ap (λ (zs : List Store). get_or (applied map memory zs) (offset map x.address) 0) e
      ∙ byte-stored map memory xs x ys (omega (arith, offset-inside 0 map taken x.address c))
      (λ y m. apart x.address y.address c (in-stores y (Memᴰ.tail m)) (last y m))

-- ---- counts and entry

-- Bytes stored is the number of stores.
pub stored-counts-stores : (on : Setting) (bytes : List ℕ) → (ran on bytes).tally.stored ≡ length (made on bytes)
stored-counts-stores on bytes =
    run-stored on (begun on.job.length) bytes (begun-stands on) ∙ zero-add (length (made on bytes))

-- Done is said only when every byte of the file has been used and an entry command was among the commands;
-- the entry is the last one's.
pub done-means : (on : Setting) (bytes : List ℕ) {place : ℕ} → (ran on bytes).phase ≡ Stopped (stop_at 0 place)
    → ((ran on bytes).next ≡ on.job.length)
    × ((c : List ℕ) × LastEntry (commands_done on (begun on.job.length) bytes) c × ((ran on bytes).tally.entry ≡ Some (address c)))
done-means on bytes {place} e =
    let cs = commands_done on (begun on.job.length) bytes in
    let account = run-account on (begun on.job.length) bytes (begun-stands on) in
    let (n, f) = ended-done on (ran on bytes) (stop_at 0 place) (reached-ended on (ran on bytes) (bytes, refl) e) refl in
    let (c, l, a) = last_entry cs None (sym (ap is_some account.entry) ∙ f) in
    (n, (c, l, account.entry ∙ a))

-- Done is not said before as many bytes have come as the file has.
pub done-needs-all-bytes : (on : Setting) (bytes : List ℕ) {place : ℕ} → (ran on bytes).phase ≡ Stopped (stop_at 0 place)
    → on.job.length ≤ length bytes
done-needs-all-bytes on bytes e =
    omega (arith, (done-means on bytes e).0, run-next-le on (begun on.job.length) bytes (begun-stands on))

-- ---- the place of a stop

-- Place is the file offset of the command's first byte for 17 to 26, behind the magic and the commands done;
-- the file length for 27; else 0.
abbrev pub place_for : Setting → List ℕ → ℕ → ℕ
place_for on bytes code =
    cond (leb 17 code && leb code 26) (first_byte on bytes) (cond (eqb code 27) on.job.length 0)

pub place-said : (on : Setting) (bytes : List ℕ) {stop : Stop} → (ran on bytes).phase ≡ Stopped stop
    → stop.place ≡ place_for on bytes stop.code
place-said on bytes {stop} e = go (stop-placed on bytes e)
  where
    go : Placed on (first_byte on bytes) stop → stop.place ≡ place_for on bytes stop.code
    go (done c p i) = p ∙ sym (ap (place_for on bytes) c)
    go (no-magic c p) = p ∙ sym (ap (place_for on bytes) c)
    go (by-command l u p below) = p ∙ sym (simp (le-leb 17 stop.code l, le-leb stop.code 26 u))
    go (no-entry c p i) = p ∙ sym (ap (place_for on bytes) c)

-- ---- before the first command

-- the code and the place of a refusal that is found before the first command is done: 16, or 17 to 27 at place 8
abbrev pub BeforeFirst : ℕ → ℕ → Type 0
BeforeFirst code place = (code ≡ 16) ⊎ ((17 ≤ code) × (code ≤ 27) × (place ≡ 8))

module _ (on : Setting) (bytes : List ℕ) where
  -- Where no byte is counted as stored, none is stored.
  pub none-counted-none-stored : (ran on bytes).tally.stored ≡ 0 → made on bytes ≡ []
  none-counted-none-stored e = empty (made on bytes) (sym (stored-counts-stores on bytes) ∙ e)

  -- Where no command is done and none has begun to store, nothing is stored.
  pub none-done-none-stored : (ran on bytes).tally.commands ≡ 0 → NotStoring (ran on bytes).phase → made on bytes ≡ []
  none-done-none-stored e quiet =
      let cs = commands_done on (begun on.job.length) bytes in
      let count = (run-account on (begun on.job.length) bytes (begun-stands on)).count in
      let none : cs ≡ [] = empty cs (omega (arith, count, e)) in
      none-counted-none-stored (unstored-first on bytes quiet (ap (λ (ds : List (List ℕ)). 8 + spans ds) none))

  -- A refusal that is found before the first command stores nothing.
  pub refused-first-none-stored : {stop : Stop} → (ran on bytes).phase ≡ Stopped stop → BeforeFirst stop.code stop.place
      → made on bytes ≡ []
  refused-first-none-stored {stop} e first =
      none-counted-none-stored (by_code first (reached-ended on (ran on bytes) (bytes, refl) e) (stop-placed on bytes e))
    where
      at_first : first_byte on bytes ≡ 8 → (ran on bytes).tally.stored ≡ 0
      at_first = unstored-first on bytes (subst NotStoring (sym e) tt)

      by_code : BeforeFirst stop.code stop.place → Ended on (ran on bytes) stop → Placed on (first_byte on bytes) stop
          → (ran on bytes).tally.stored ≡ 0
      by_code (inl q) (at-end c n f) p = absurd (omega arith)
      by_code (inl q) (at-magic c n) p = n
      by_code (inl q) (at-command l u) p = absurd (omega arith)
      by_code (inl q) (without-entry c n f) p = absurd (omega arith)
      by_code (inr (l, u, q)) h (done c z i) = absurd (omega arith)
      by_code (inr (l, u, q)) h (no-magic c z) = absurd (omega arith)
      by_code (inr (l, u, q)) h (by-command i j k m) = at_first (omega arith)
      by_code (inr (l, u, q)) h (no-entry c z i) = at_first (omega arith)

-- ---- judged over the whole range

-- A refused command stores nothing, of a write or a fill that gives 20 or 21 not its first bytes either: every store
-- was caused by the bytes before the stop's place, which is the command's first byte.
pub refused-command-stores-nothing : (on : Setting) (bytes : List ℕ) {stop : Stop} → (ran on bytes).phase ≡ Stopped stop → 17 ≤ stop.code
    → stop.code ≤ 26 → (stop.place ≡ first_byte on bytes) × (made on bytes ≡ made on (take stop.place bytes))
refused-command-stores-nothing on bytes {stop} e l u =
    (at (stop-placed on bytes e), ((stop_halts on bytes e).refused l u).quiet)
  where
    at : Placed on (first_byte on bytes) stop → stop.place ≡ first_byte on bytes
    at (done c z i) = absurd (omega arith)
    at (no-magic c z) = absurd (omega arith)
    at (by-command i j k m) = k
    at (no-entry c z i) = absurd (omega arith)

-- The fault that this loader was made to end: its forerunner judged where a write begins and not where it ends.
-- Of a command that stored a byte the whole range, in which that byte lies, is RAM and reachable; its header and
-- parameters are among the bytes that have come.
pub judged-to-its-end : (on : Setting) (bytes : List ℕ) (x : Store) → Memᴰ x (made on bytes) → StoreOf on bytes x
judged-to-its-end on bytes x m = store_of on bytes x m

-- So it is of a write before its first byte is stored, and after each one: a and left are the end of that range.
pub write-judged-to-its-end : (on : Setting) (bytes : List ℕ) {a left : ℕ} → (ran on bytes).phase ≡ Storing a left
    → WholeRange on Write (ran on bytes).gathered × (address (ran on bytes).gathered ≤ a)
    × (a + left ≡ address (ran on bytes).gathered + range_length Write (ran on bytes).gathered)
    × CommandAt on bytes (ran on bytes).start × ((ran on bytes).gathered ≡ part bytes (ran on bytes).start 24)
write-judged-to-its-end on bytes e = storing-whole on bytes e

-- Then each address of the range is in a region and below the reach limit.
pub whole-range-inside : (on : Setting) (k : Command) (c : List ℕ) → WholeRange on k c → (y : ℕ) → address c ≤ y
    → y < address c + range_length k c → Covered on.map y × (y < limit on.job.mode)
whole-range-inside on k c w y l u =
    let n = range_length k c in
    let top = leb-true (address c + max n 1) (limit on.job.mode) w.in_reach in
    (ram-covered on.map (address c) n y w.in-ram l u, omega arith)

-- ---- the file's end

module _ (on : Setting) (bytes : List ℕ) where
  abbrev cs : List (List ℕ)
  cs = commands_done on (begun on.job.length) bytes

  entered-is : is_some (ran on bytes).tally.entry ≡ enters cs
  entered-is = ap is_some (run-account on (begun on.job.length) bytes (begun-stands on)).entry

  -- 27 is judged last: at the file's end, when every byte is used, and without an entry command.
  pub no-entry-means : {stop : Stop} → (ran on bytes).phase ≡ Stopped stop → stop.code ≡ 27
      → (stop.place ≡ on.job.length) × ((ran on bytes).next ≡ on.job.length) × (on.job.length ≤ length bytes)
      × Complete on bytes × NoEntry cs
  no-entry-means {stop} e q =
      let (n, f) = ended-without on (ran on bytes) stop (reached-ended on (ran on bytes) (bytes, refl) e) q in
      let (z, at) = placed (stop-placed on bytes e) in (
        z,
        n,
        omega (arith, run-next-le on (begun on.job.length) bytes (begun-stands on)),
        ((stop_halts on bytes e).magic (λ w. omega (arith, w)), at),
        (none-entered cs None (sym entered-is ∙ f)).1,
      )
    where
      placed : Placed on (first_byte on bytes) stop → (stop.place ≡ on.job.length) × (first_byte on bytes ≡ on.job.length)
      placed (done c z i) = absurd (omega arith)
      placed (no-magic c z) = absurd (omega arith)
      placed (by-command i j k m) = absurd (omega arith)
      placed (no-entry c z i) = (z, i)

  -- And then it does come: 27 is given exactly where the file ends behind whole commands, none of them an entry;
  pub no-entry-exactly : ((ran on bytes).phase ≡ Stopped (stop_at 27 on.job.length)) ↔ (Complete on bytes × NoEntry cs)
  no-entry-exactly = (λ e. let m = no-entry-means e refl in (m.3, m.4), λ (c, none). go none (complete-ends on bytes c))
    where
      go : NoEntry cs → AtEnd on bytes → (ran on bytes).phase ≡ Stopped (stop_at 27 on.job.length)
      go none (inl (e, f)) = absurd (true≢false (sym f ∙ entered-is ∙ no-entry-entered cs none))
      go none (inr (e, f)) = e

  -- done is said exactly where it ends so with one.
  pub done-exactly : ((ran on bytes).phase ≡ Stopped (stop_at 0 0)) ↔ (Complete on bytes × ((c : List ℕ) × LastEntry cs c))
  done-exactly = (
    λ e. (complete e (stop-placed on bytes e), let l = (done-means on bytes e).1 in (l.0, l.1)),
    λ (c, (d, l)). go (last-entry-entered cs d l) (complete-ends on bytes c),
  )
    where
      complete : (ran on bytes).phase ≡ Stopped (stop_at 0 0) → Placed on (first_byte on bytes) (stop_at 0 0) → Complete on bytes
      complete e (done c z i) = ((stop_halts on bytes e).magic (λ w. omega (arith, w)), i)
      complete e (no-magic c z) = absurd (omega arith)
      complete e (by-command i j k m) = absurd (omega arith)
      complete e (no-entry c z i) = absurd (omega arith)

      go : enters cs ≡ true → AtEnd on bytes → (ran on bytes).phase ≡ Stopped (stop_at 0 0)
      go f (inl (e, g)) = e
      go f (inr (e, g)) = absurd (true≢false (sym f ∙ sym entered-is ∙ g))

-- ---- every byte of memory

module _ (on : Setting) (bytes memory : List ℕ) where
  -- Memory outside the stores never changes: a byte of memory that no store goes to is as it was,
  pub index-unchanged : (i : ℕ) → ((x : Store) → Memᴰ x (made on bytes) → offset on.map x.address ≢ i)
      → get_or (applied on.map memory (made on bytes)) i 0 ≡ get_or memory i 0
  index-unchanged i none = byte-kept on.map memory (made on bytes) i (λ x m e. none x m (sym e))

  -- and one that a store goes to is the last such store's byte.
  pub index-of-last-store : (i : ℕ) (xs : List Store) (x : Store) (ys : List Store) → i < length memory → made on bytes ≡ xs ++ (x ∷ ys)
      → offset on.map x.address ≡ i → ((y : Store) → Memᴰ y ys → offset on.map y.address ≢ i)
      → get_or (applied on.map memory (made on bytes)) i 0 ≡ x.byte
  index-of-last-store i xs x ys inside e at last = last-at on.map memory i xs x ys inside e at last

-- ---- the record tells the answer

-- the numbers of a stop fit 64 bits
pub stop-fits : (on : Setting) (bytes : List ℕ) {stop : Stop} → on.job.length ≤ 2 ^ 30 → (ran on bytes).phase ≡ Stopped stop
    → (stop.code < 2 ^ 64) × (stop.place < 2 ^ 64)
stop-fits on bytes {stop} short e = go (stop-placed on bytes e)
  where
    go : Placed on (first_byte on bytes) stop → (stop.code < 2 ^ 64) × (stop.place < 2 ^ 64)
    go (done c z i) = (omega arith, omega arith)
    go (no-magic c z) = (omega arith, omega arith)
    go (by-command l u k m) = (omega arith, omega arith)
    go (no-entry c z i) = (omega arith, omega arith)

-- No number of an answer is cut to its 64 bits, whatever bytes have come, where the file is not too long and the map is taken.
pub answer-fits : (on : Setting) (bytes : List ℕ) (stop : Stop) → on.job.length ≤ 2 ^ 30 → ordered 0 on.map ≡ true
    → total on.map ≤ 2 ^ 32 → stop.code < 2 ^ 64 → stop.place < 2 ^ 64 → Fit (answer_of stop (ran on bytes).tally)
answer-fits on bytes stop short order small code place =
    let s = ran on bytes in
    let h = reached-stands on s (bytes, refl) in
    record {
      code = code;
      place = place;
      commands = omega (arith, h.counted, h.inside);
      stored = omega (arith, reached-stored on order small s (bytes, refl), h.inside);
      entry =
          cond_cases (λ (n : ℕ). n < 2 ^ 64) (eqb stop.code 0) (unwrap_or s.tally.entry 0) 0
          (λ e. omega (arith, reached-entry on s (bytes, refl))) (λ e. omega arith);
    }

-- ---- running bare

-- 1 to 3, and those that are found before the first command is done
abbrev pub FoundFirst : Answer → Type 0
FoundFirst a = ((1 ≤ a.code) × (a.code ≤ 3)) ⊎ BeforeFirst a.code a.place

-- 1 to 3, and 16
abbrev pub Early : ℕ → Type 0
Early c = ((1 ≤ c) × (c ≤ 3)) ⊎ (c ≡ 16)

module _ (b : Bare) where
  abbrev setting : Setting
  setting = bare_setting b

  abbrev start : State
  start = begun (length b.file)

  -- the commands that the file's bytes finish
  abbrev commands : List (List ℕ)
  commands = commands_done setting start b.file

  -- the memory that the stores leave
  abbrev after : List ℕ → List ℕ
  after memory = applied (regions b.map) memory (bare_stores_made b (length memory))

  -- the same call with another file
  abbrev with_file : List ℕ → Bare
  with_file other = record { file = other; map = b.map; table = b.table; mode = b.mode }

  -- What the call returns and leaves: with a record of its length the answer's code, the answer, and memory as the stores
  -- make it; with another 1, and nothing written, whatever stores the file would cause.
  pub bare-call : (memory old : List ℕ)
      → (length old ≡ record_length → run_bare b memory old ≡ given (bare_answer_made b (length memory)) (after memory))
      × (length old ≢ record_length → run_bare b memory old ≡ unwritten old memory)
  unfolding run_bare
  bare-call memory old =
      (bare-answered b memory old, answered-unwritten old (bare_answer_made b (length memory)) memory (after memory))

  -- On every refusal the entry is 0.
  pub refusal-has-no-entry : (memory : ℕ) → (bare_answer_made b memory).code ≢ 0 → (bare_answer_made b memory).entry ≡ 0
  refusal-has-no-entry memory =
      bare-cases b (λ (a : Answer) (xs : List Store). a.code ≢ 0 → a.entry ≡ 0) memory (λ code l u n. refl)
      (λ h stop e q n. ap (λ (t : Bool). cond t (unwrap_or (bare_end b).tally.entry 0) 0) (ne_eqb stop.code 0 n))

  -- The record's bytes stored is the number of the stores made.
  pub record-counts-stores : (memory : ℕ) → (bare_answer_made b memory).stored ≡ length (bare_stores_made b memory)
  record-counts-stores memory =
      bare-cases b (λ (a : Answer) (xs : List Store). a.stored ≡ length xs) memory (λ code l u. refl)
      (λ h stop e q. stored-counts-stores setting b.file)

  -- Its place is the machine's.
  pub bare-place-said : (memory : ℕ) → (bare_answer_made b memory).place ≡ place_for setting b.file (bare_answer_made b memory).code
  bare-place-said memory =
      bare-cases b (λ (a : Answer) (xs : List Store). a.place ≡ place_for setting b.file a.code) memory
      (λ code l u. sym (simp (lt-leb 17 code (omega arith), ne_eqb code 27 (λ e. omega arith))))
      (λ h stop e q. place-said setting b.file e)

  -- The codes of a bare run are 0 to 3 and 16 to 27.
  pub bare-codes : (memory old : List ℕ)
      → ((run_bare b memory old).code ≤ 3) ⊎ ((16 ≤ (run_bare b memory old).code) × ((run_bare b memory old).code ≤ 27))
  unfolding run_bare
  bare-codes memory old =
      answered-cases old (bare_answer_made b (length memory)) memory (after memory) (λ (o : Outcome). Given o.code)
      (λ e. bare-cases b (λ (a : Answer) (xs : List Store). Given a.code) (length memory) (λ code l u. inl u)
      (λ h stop q r. by_end stop r))
      (λ e. inl (lit≤ tt))
    where
      Given : ℕ → Type 0
      Given c = (c ≤ 3) ⊎ ((16 ≤ c) × (c ≤ 27))

      by_end : (stop : Stop) → Ended setting (bare_end b) stop → Given stop.code
      by_end stop (at-end q n f) = inl (omega (arith, q))
      by_end stop (at-magic q n) = inr (omega (arith, q), omega (arith, q))
      by_end stop (at-command l u) = inr (omega (arith, l), omega (arith, u))
      by_end stop (without-entry q n f) = inr (omega (arith, q), omega (arith, q))

  -- After a bare run: a memory byte whose address no store has is unchanged, and one that has is the last such store's byte.
  pub bare-byte-unchanged : (memory old : List ℕ) (a : ℕ) → length old ≡ record_length → Covered (regions b.map) a
      → ((x : Store) → Memᴰ x (bare_stores_made b (length memory)) → x.address ≢ a)
      → get_or (run_bare b memory old).lent (offset (regions b.map) a) 0 ≡ get_or memory (offset (regions b.map) a) 0
  unfolding applied
  bare-byte-unchanged memory old a fits c none =
      ap (λ (o : Outcome). get_or o.lent (offset (regions b.map) a) 0) (bare-answered b memory old fits)
      ∙ bare-cases b
      (λ (r : Answer) (xs : List Store). ((x : Store) → Memᴰ x xs → x.address ≢ a)
      → get_or (applied (regions b.map) memory xs) (offset (regions b.map) a) 0 ≡ get_or memory (offset (regions b.map) a) 0)
      (length memory) (λ code l u n. refl)
      (λ h stop q r n. byte-unchanged setting (bare-taken b (length memory) h).order b.file memory a c n) none

  pub bare-byte-of-last-store : (memory old : List ℕ) (xs : List Store) (x : Store) (ys : List Store) → length old ≡ record_length
      → bare_stores_made b (length memory) ≡ xs ++ (x ∷ ys) → ((y : Store) → Memᴰ y ys → y.address ≢ x.address)
      → get_or (run_bare b memory old).lent (offset (regions b.map) x.address) 0 ≡ x.byte
  bare-byte-of-last-store memory old xs x ys fits e last =
      ap (λ (o : Outcome). get_or o.lent (offset (regions b.map) x.address) 0) (bare-answered b memory old fits)
      ∙ bare-cases b
      (λ (r : Answer) (zs : List Store). zs ≡ xs ++ (x ∷ ys)
      → get_or (applied (regions b.map) memory zs) (offset (regions b.map) x.address) 0 ≡ x.byte)
      (length memory) (λ code l u q. absurd (omega (arith, ap length q ∙ length-append xs (x ∷ ys))))
      (λ h stop q r s.
      let t = bare-taken b (length memory) h in
      byte-of-last-store setting t.order b.file memory xs x ys s (omega (arith, t.lent)) last)
      e

  found-first-stores-nothing : (memory : ℕ) → FoundFirst (bare_answer_made b memory) → bare_stores_made b memory ≡ []
  found-first-stores-nothing memory =
      bare-cases b (λ (a : Answer) (xs : List Store). FoundFirst a → xs ≡ []) memory (λ code l u n. refl) by_end
    where
      early : (stop : Stop) → Ended setting (bare_end b) stop → 1 ≤ stop.code → stop.code ≤ 3 → ⊥
      early stop (at-end q m f) l u = omega arith
      early stop (at-magic q m) l u = omega arith
      early stop (at-command i j) l u = omega arith
      early stop (without-entry q m f) l u = omega arith

      by_end : first_broken (bare_rules b memory) ≡ 0 → (stop : Stop) → (bare_end b).phase ≡ Stopped stop → Ended setting (bare_end b) stop
          → FoundFirst (answer_of stop (bare_end b).tally) → made setting b.file ≡ []
      by_end h stop q r (inl n) = absurd (early stop r n.0 n.1)
      by_end h stop q r (inr n) = refused-first-none-stored setting b.file q n

  -- no stores leave memory as it was
  unchanged : (memory : List ℕ) → bare_stores_made b (length memory) ≡ [] → after memory ≡ memory
  unfolding applied
  unchanged memory e = ap (applied (regions b.map) memory) e

  -- Codes 1 to 3 and 16 leave all of memory unchanged.
  pub early-codes-keep-memory : (memory old : List ℕ) → Early (run_bare b memory old).code → (run_bare b memory old).lent ≡ memory
  unfolding run_bare
  early-codes-keep-memory memory old =
      answered-cases old (bare_answer_made b (length memory)) memory (after memory) (λ (o : Outcome). Early o.code → o.lent ≡ memory)
      (λ e n. unchanged memory (found-first-stores-nothing (length memory) (first n))) (λ e n. refl)
    where
      first : Early (bare_answer_made b (length memory)).code → FoundFirst (bare_answer_made b (length memory))
      first (inl n) = inl n
      first (inr n) = inr (inl n)

  -- A refusal that is found before the first command changes no byte of memory: 1 to 3, 16, and 17 to 27 at place 8.
  pub refused-first-keeps-memory : (memory old : List ℕ) → FoundFirst (bare_answer_made b (length memory))
      → (run_bare b memory old).lent ≡ memory
  unfolding run_bare
  refused-first-keeps-memory memory old first =
      answered-cases old (bare_answer_made b (length memory)) memory (after memory) (λ (o : Outcome). o.lent ≡ memory)
      (λ e. unchanged memory (found-first-stores-nothing (length memory) first)) (λ n. refl)

  -- Nor does a run that has done no command.
  pub none-done-keeps-memory : (memory old : List ℕ) → (bare_answer_made b (length memory)).commands ≡ 0 → (run_bare b memory old).lent ≡ memory
  unfolding run_bare
  none-done-keeps-memory memory old e =
      answered-cases old (bare_answer_made b (length memory)) memory (after memory) (λ (o : Outcome). o.lent ≡ memory)
      (λ f. unchanged memory
      (bare-cases b (λ (a : Answer) (xs : List Store). a.commands ≡ 0 → xs ≡ []) (length memory) (λ code l u n. refl)
      (λ h stop q r n. none-done-none-stored setting b.file n (subst NotStoring (sym q) tt)) e))
      (λ n. refl)

  -- A refused command stores nothing: the stores made are those of the bytes before its first one, its place.
  pub bare-refused-command-stores-nothing : (memory : ℕ) → 17 ≤ (bare_answer_made b memory).code → (bare_answer_made b memory).code ≤ 26
      → bare_stores_made b memory ≡ made setting (take (bare_answer_made b memory).place b.file)
  bare-refused-command-stores-nothing memory =
      bare-cases b (λ (a : Answer) (xs : List Store). 17 ≤ a.code → a.code ≤ 26 → xs ≡ made setting (take a.place b.file)) memory
      (λ code l u i j. absurd (omega arith))
      (λ h stop q r i j. (refused-command-stores-nothing setting b.file q i j).1)

  -- Of a command that stored a byte the whole range, in which the store lies, is RAM and reachable.
  pub bare-judged-to-its-end : (memory : ℕ) (x : Store) → Memᴰ x (bare_stores_made b memory) → StoreOf setting b.file x
  bare-judged-to-its-end memory x =
      bare-cases b (λ (a : Answer) (xs : List Store). Memᴰ x xs → StoreOf setting b.file x) memory
      (λ code l u m. absurd (Memᴰ.not-nil m)) (λ h stop q r m. judged-to-its-end setting b.file x m)

  -- Every byte of memory, by its index: one that no store goes to is as it was, and one that a store goes to is the last
  -- such store's byte; memory keeps its length.
  pub bare-index-unchanged : (memory old : List ℕ) (i : ℕ)
      → ((x : Store) → Memᴰ x (bare_stores_made b (length memory)) → offset (regions b.map) x.address ≢ i)
      → get_or (run_bare b memory old).lent i 0 ≡ get_or memory i 0
  unfolding run_bare
  bare-index-unchanged memory old i none =
      answered-cases old (bare_answer_made b (length memory)) memory (after memory) (λ (o : Outcome). get_or o.lent i 0 ≡ get_or memory i 0)
      (λ e. byte-kept (regions b.map) memory (bare_stores_made b (length memory)) i (λ x m q. none x m (sym q))) (λ n. refl)

  pub bare-index-of-last-store : (memory old : List ℕ) (i : ℕ) (xs : List Store) (x : Store) (ys : List Store) → length old ≡ record_length
      → i < length memory → bare_stores_made b (length memory) ≡ xs ++ (x ∷ ys) → offset (regions b.map) x.address ≡ i
      → ((y : Store) → Memᴰ y ys → offset (regions b.map) y.address ≢ i) → get_or (run_bare b memory old).lent i 0 ≡ x.byte
  bare-index-of-last-store memory old i xs x ys fits inside e at last =
      ap (λ (o : Outcome). get_or o.lent i 0) (bare-answered b memory old fits)
      ∙ last-at (regions b.map) memory i xs x ys inside e at last

  pub bare-memory-length : (memory old : List ℕ) → length (run_bare b memory old).lent ≡ length memory
  unfolding run_bare
  bare-memory-length memory old =
      answered-cases old (bare_answer_made b (length memory)) memory (after memory) (λ (o : Outcome). length o.lent ≡ length memory)
      (λ e. length-applied (regions b.map) memory (bare_stores_made b (length memory))) (λ n. refl)

  -- 27 is answered exactly where 1 to 3 are not, the file is the magic and whole commands, and none of them is an entry;
  pub bare-no-entry-exactly : (memory : ℕ)
      → ((bare_answer_made b memory).code ≡ 27)
      ↔ ((first_broken (bare_rules b memory) ≡ 0) × Complete setting b.file × NoEntry commands)
  bare-no-entry-exactly memory = (
    bare-cases b
        (λ (a : Answer) (xs : List Store). a.code ≡ 27
        → (first_broken (bare_rules b memory) ≡ 0) × Complete setting b.file × NoEntry commands)
        memory (λ code l u n. absurd (omega arith))
        (λ h stop q r n. let m = no-entry-means setting b.file q n in
        (h, m.3, m.4)),
    λ (e, c, none). ap (λ (a : Answer). a.code) (bare-runs b memory e ((no-entry-exactly setting b.file).1 (c, none))),
  )

  -- and 0 exactly where one of them is.
  pub bare-done-exactly : (memory : ℕ)
      → ((bare_answer_made b memory).code ≡ 0)
      ↔ ((first_broken (bare_rules b memory) ≡ 0) × Complete setting b.file
      × ((c : List ℕ) × LastEntry commands c))
  bare-done-exactly memory = (
    bare-cases b
        (λ (a : Answer) (xs : List Store). a.code ≡ 0
        → (first_broken (bare_rules b memory) ≡ 0) × Complete setting b.file
        × ((c : List ℕ) × LastEntry commands c))
        memory (λ code l u n. absurd (omega arith))
        (λ h stop q r n. let m = (done-exactly setting b.file).0 (q ∙ ap Stopped (zero-stop stop n (stop-placed setting b.file q))) in
        (h, m.0, m.1)),
    λ (e, c, l). ap (λ (a : Answer). a.code) (bare-runs b memory e ((done-exactly setting b.file).1 (c, l))),
  )
    where
      zero-stop : (stop : Stop) → stop.code ≡ 0 → Placed setting (first_byte setting b.file) stop → stop ≡ stop_at 0 0
      zero-stop stop n (done c z i) = λ j. record { code = c j; place = z j }
      zero-stop stop n (no-magic c z) = absurd (omega arith)
      zero-stop stop n (by-command i j k m) = absurd (omega arith)
      zero-stop stop n (no-entry c z i) = absurd (omega arith)

  -- Done is answered only when every byte of the file has been used and an entry command was among the commands;
  -- the entry is the last one's.
  pub bare-done-means : (memory old : List ℕ) → (run_bare b memory old).code ≡ 0
      → ((bare_end b).next ≡ length b.file)
      × ((c : List ℕ) × LastEntry commands c × ((bare_answer_made b (length memory)).entry ≡ address c))
  unfolding run_bare
  bare-done-means memory old =
      answered-cases old (bare_answer_made b (length memory)) memory (after memory)
      (λ (o : Outcome). o.code ≡ 0 → Done (bare_answer_made b (length memory)))
      (λ e. bare-cases b (λ (a : Answer) (xs : List Store). a.code ≡ 0 → Done a) (length memory)
      (λ code l u n. absurd (omega arith))
      (λ h stop q r n.
      let (used, (c, l, a)) = done-means setting b.file (q ∙ ap (λ (x : ℕ). Stopped (stop_at x stop.place)) n) in (
        used,
        (
          c,
          l,
          ap (λ (t : Bool). cond t (unwrap_or (bare_end b).tally.entry 0) 0) (eq-eqb stop.code 0 n)
              ∙ ap (λ (o : Option ℕ). unwrap_or o 0) a,
        ),
      )))
      (λ e n. absurd (omega arith))
    where
      Done : Answer → Type 0
      Done a =
          ((bare_end b).next ≡ length b.file)
          × ((c : List ℕ) × LastEntry commands c × (a.entry ≡ address c))

  -- Code and record do not depend on what memory held, nor do the stores (`bare_stores_made`).
  pub memory-not-read : (m n old : List ℕ) → length m ≡ length n
      → ((run_bare b m old).code ≡ (run_bare b n old).code) × ((run_bare b m old).answer ≡ (run_bare b n old).answer)
  unfolding run_bare
  memory-not-read m n old e = rw e (answered-alike old (bare_answer_made b (length n)) _ _ _ _)

  -- Two files that differ only in reserved bytes get the same answer and memory.
  pub reserved-bytes-not-read : (other memory old : List ℕ) → Alike setting start b.file other
      → run_bare (with_file other) memory old ≡ run_bare b memory old
  unfolding run_bare
  reserved-bytes-not-read other memory old q =
      ap₂ (λ (a : Answer) (xs : List Store). answered old a memory (applied (regions b.map) memory xs)) answers stores
    where
      rules : ℕ → List Rule
      rules n = mode_rules b.mode ++ size_rules n ++ map_rules b.map (length memory) ++ table_rules b.table

      on : ℕ → Setting
      on n = setting_of (record { length = n; mode = b.mode }) b.map b.table

      answer_at : ℕ → List ℕ → Answer
      answer_at n bytes =
          let end = run (on n) (begun n) bytes in
          answer_after (first_broken (rules n)) (answer_of (stop_or (stop_at 27 n) (halted end.phase)) end.tally)

      stores_at : ℕ → List ℕ → List Store
      stores_at n bytes = written_after (first_broken (rules n)) (trace (on n) (begun n) bytes)

      long : length other ≡ length b.file
      long = sym (alike-length setting start b.file other q)

      answers : bare_answer_made (with_file other) (length memory) ≡ bare_answer_made b (length memory)
      answers =
          let n = length b.file in
          let (j, e) = (alike-run setting start b.file other q).0 in
          ap (λ (n : ℕ). answer_at n other) long
          ∙ ap (λ (t : State). answer_after (first_broken (rules n)) (answer_of (stop_or (stop_at 27 n) (halted t.phase)) t.tally)) e

      stores : bare_stores_made (with_file other) (length memory) ≡ bare_stores_made b (length memory)
      stores =
          ap (λ (n : ℕ). stores_at n other) long
          ∙ ap (written_after (first_broken (rules (length b.file)))) (alike-run setting start b.file other q).1

  -- Two results that the promise of run bare allows are equal.
  pub result-unique : (memory old : List ℕ) (x y : Outcome) → run_bare b memory old ≡ x → run_bare b memory old ≡ y → x ≡ y
  result-unique memory old x y e q = sym e ∙ q

  -- The record tells the answer: none of its numbers is cut to 64 bits,
  pub bare-answer-fits : (memory : ℕ) → Fit (bare_answer_made b memory)
  bare-answer-fits memory =
      bare-cases b (λ (a : Answer) (xs : List Store). Fit a) memory
      (λ code l u. record { code = omega arith; place = omega arith; commands = omega arith; stored = omega arith; entry = omega arith })
      (λ h stop q r. let t = bare-taken b memory h in
      let short = bare-short b memory h in
      let (code, place) = stop-fits setting b.file short q in
      answer-fits setting b.file stop short (ordered-holds 0 (regions b.map) t.order) t.small code place)

-- so two calls that leave the same record have the same answer: code, place, counts and entry can be read back from it.
pub bare-record-tells : (b c : Bare) (m n old other : List ℕ) → length old ≡ record_length → length other ≡ record_length
    → (run_bare b m old).answer ≡ (run_bare c n other).answer → bare_answer_made b (length m) ≡ bare_answer_made c (length n)
bare-record-tells b c m n old other f g e =
    record-injective (bare_answer_made b (length m)) (bare_answer_made c (length n)) (bare-answer-fits b (length m))
    (bare-answer-fits c (length n))
    (sym (ap (λ (o : Outcome). o.answer) (bare-answered b m old f)) ∙ e ∙ ap (λ (o : Outcome). o.answer) (bare-answered c n other g))

-- Load, taken apart: what passing its rules means, how the call concludes, and the three ways that it goes.
use mathlib.Core.Path.{◌≡◌, refl, ap, subst, ◌∙◌}
use mathlib.Core.List.{List, [], ◌++◌}
use mathlib.Core.Logic.{◌⊎◌, inl, inr, ◌≢◌}
use Prim.Native.Nat.{ℕ, ◌≤◌, ◌<◌}
use native.Mathlib.Nat.{le_of_lt, le-mul_of_pos_right, mul-le-mul_left}
use native.Mathlib.Omega.{arith}
use lib.Dec.{leb, leb→le, lit≤}
use lib.ListN.{length}
use Rattle.answers.specs.Answers.{refused, record_length}
use Rattle.answers.specs.Rules.{Rule, first_broken, signature_rules, size_rules}
use Rattle.answers.specs.declared.Answer.{Answer}
use Rattle.answers.specs.declared.Stop.{Stop}
use Rattle.answers.proofs.ChoiceLaws.{cond-eq}
use Rattle.answers.proofs.OutcomeLaws.{given, unwritten, answered-given, answered-unwritten, after-cases}
use Rattle.answers.proofs.RuleLaws.{both_hold, hold-both, code-passes, first-broken-has}
use Rattle.board.specs.Cpuid.{table_rules}
use Rattle.board.specs.Map.{regions, map_rules}
use Rattle.board.specs.Reach.{mode_rules}
use Rattle.chain.specs.Blocks.{block_rules, block_code, bad_block, expected, file_up_to}
use Rattle.chain.specs.Header.{file_length, image_rules}
use Rattle.chain.proofs.BlockLaws.{proved-le, fails, length-file}
use Rattle.chain.proofs.HeaderLaws.{Allowed, allowed, allowed-passes, Passed, passed, passed-passes, whole-block, block_data}
use Rattle.machine.specs.Machine.{Store, halted, stop_or, answer_of}
use Rattle.machine.specs.Memory.{applied}
use Rattle.std.specs.Prelude.{Option, None}
use Rattle.machine.specs.declared.Phase.{Phase}
use Rattle.machine.specs.declared.Phase.TheVariants.{Magic, Header, Parameters, Storing, Skipping, Stopped}
use Rattle.machine.proofs.ReachedLaws.{reached-ended, whole-stopped}
use Rattle.machine.proofs.Standing.{Ended, Running, running-or-stopped}
use Rattle.loader.specs.Load.{Offer, load_rules, header, block, setting, state_after, proved_blocks, ended, stores}
use Rattle.loader.specs.Load.{load_answer, answer_made, stores_made, loaded}

-- ---- what is offered, where 1 to 12 are not given

-- the image passes 4 to 12
abbrev pub ImagePassed : Offer → Type 0
ImagePassed o = Passed o.image o.approved o.signature

pub record Taken (o : Offer) (memory : ℕ) : Type 0 where
  pub mode : first_broken (mode_rules o.mode) ≡ 0
  pub allowed : Allowed o.signature (length o.image)
  pub map : first_broken (map_rules o.map memory) ≡ 0
  pub table : first_broken (table_rules o.table) ≡ 0
  pub image : ImagePassed o

module _ (o : Offer) where
  pub taken : (memory : ℕ) → first_broken (load_rules o memory) ≡ 0 → Taken o memory
  taken memory e =
      let image : List Rule = image_rules o.image o.approved o.signature in
      let sizes : List Rule = signature_rules o.signature ++ size_rules (length o.image) in
      let map : List Rule = map_rules o.map memory in
      let a = both_hold (mode_rules o.mode) (sizes ++ map ++ table_rules o.table ++ image) tt e in
      let b = both_hold sizes (map ++ table_rules o.table ++ image) tt a.1 in
      let c = both_hold map (table_rules o.table ++ image) tt b.1 in
      let d = both_hold (table_rules o.table) image tt c.1 in
      record {
        mode = a.0;
        allowed = allowed o.signature (length o.image) b.0;
        map = c.0;
        table = d.0;
        image = passed o.image o.approved o.signature d.1;
      }

  pub taken-passes : (memory : ℕ) → Taken o memory → first_broken (load_rules o memory) ≡ 0
  taken-passes memory t =
      let image : List Rule = image_rules o.image o.approved o.signature in
      let sizes : List Rule = signature_rules o.signature ++ size_rules (length o.image) in
      let map : List Rule = map_rules o.map memory in
      hold-both (mode_rules o.mode) (sizes ++ map ++ table_rules o.table ++ image) tt t.mode
      (hold-both sizes (map ++ table_rules o.table ++ image) tt (allowed-passes o.signature (length o.image) t.allowed)
      (hold-both map (table_rules o.table ++ image) tt t.map
      (hold-both (table_rules o.table) image tt t.table (passed-passes o.image o.approved o.signature t.image))))

  module _ (q : ImagePassed o) where
    -- each block is as long as the header says
    pub sized : (k : ℕ) → k < (header o).stream.count → length (block o k) ≡ (header o).stream.block_size
    sized = whole-block o.image o.approved o.signature q

    -- all blocks hold the file
    pub whole-file : length (file_up_to (header o).stream (block o) (header o).stream.count) ≡ file_length (header o).stream
    whole-file = length-file (header o).stream (block o) (header o).stream.count sized (le_of_lt q.sound.padded)

    -- the file is not longer than the image
    pub file-short : {n : ℕ} → length o.image ≤ n → file_length (header o).stream ≤ n
    file-short h =
        let less : block_data (header o).stream ≤ (header o).stream.block_size = omega arith in
        omega (arith, h, q.exact, mul-le-mul_left (header o).stream.count less)

    -- nor has it more blocks than bytes
    pub blocks-few : {n : ℕ} → length o.image ≤ n → (header o).stream.count ≤ n
    blocks-few h =
        let some : 0 < (header o).stream.block_size = omega (arith, q.sound.above) in
        omega (arith, h, q.exact, le-mul_of_pos_right (header o).stream.count some)

    -- a machine that all blocks were run on has stopped
    pub all-stopped : (stop : Stop) × ((state_after o (header o).stream.count).phase ≡ Stopped stop)
    all-stopped = whole-stopped (setting o) (file_up_to (header o).stream (block o) (header o).stream.count) whole-file

-- the proved first part of the file
abbrev pub proved_bytes : Offer → List ℕ
proved_bytes o = file_up_to (header o).stream (block o) (proved_blocks o)

-- ---- how the call concludes

-- memory as the stores made leave it
abbrev pub memory_made : Offer → List ℕ → List ℕ
memory_made o memory = applied (regions o.map) memory (stores_made o (length memory))

module _ (o : Offer) (memory old : List ℕ) where
  -- with a record of its length: the code returned, the record, and memory as the stores make it
  pub load-answered : length old ≡ record_length → loaded o memory old ≡ given (answer_made o (length memory)) (memory_made o memory)
  unfolding loaded
  load-answered = answered-given old (answer_made o (length memory)) memory (memory_made o memory)

  -- with one of another length: 1, and nothing is written
  pub load-unwritten : length old ≢ record_length → loaded o memory old ≡ unwritten old memory
  unfolding loaded
  load-unwritten = answered-unwritten old (answer_made o (length memory)) memory (memory_made o memory)

-- ---- the three ways that load goes

-- a run that has not stopped
pub running-on : (p : Phase) → Running p → halted p ≡ None
running-on Magic r = refl
running-on Header r = refl
running-on (Parameters k) r = refl
running-on (Storing a left) r = refl
running-on (Skipping left) r = refl
running-on (Stopped stop) r = absurd r

module _ (o : Offer) where
  -- the first block that is not proved: its code at its place
  abbrev pub first_bad : Stop
  first_bad = bad_block (header o) (block o) (proved_blocks o)

  abbrev pub bad_code : ℕ
  bad_code = block_code (header o) (block o) (proved_blocks o)

  -- the answer of a stop, with the machine's counts over the proved blocks
  abbrev pub answer_at : Stop → Answer
  answer_at stop = answer_of stop (ended o).tally

  -- the machine's stop is the answer; where it has not stopped, the first bad block
  pub answer-ways : ((stop : Stop) × ((ended o).phase ≡ Stopped stop) × (load_answer o ≡ answer_at stop))
      ⊎ (Running (ended o).phase × (load_answer o ≡ answer_at first_bad))
  answer-ways = go (running-or-stopped (ended o).phase)
    where
      go : Running (ended o).phase ⊎ ((stop : Stop) × ((ended o).phase ≡ Stopped stop))
          → ((stop : Stop) × ((ended o).phase ≡ Stopped stop) × (load_answer o ≡ answer_at stop))
          ⊎ (Running (ended o).phase × (load_answer o ≡ answer_at first_bad))
      go (inr (stop, e)) = inl (stop, e, ap (λ (p : Phase). answer_at (stop_or first_bad (halted p))) e)
      go (inl r) = inr (r, ap (λ (h : Option Stop). answer_at (stop_or first_bad h)) (running-on (ended o).phase r))

  -- the answer of a machine that has stopped, where 1 to 12 are not given
  pub stopped-answer : (memory : ℕ) {stop : Stop} → first_broken (load_rules o memory) ≡ 0 → (ended o).phase ≡ Stopped stop
      → answer_made o memory ≡ answer_at stop
  stopped-answer memory e q =
      let early = first_broken (load_rules o memory) in
      cond-eq early 0 (load_answer o) (refused early) e ∙ ap (λ (p : Phase). answer_at (stop_or first_bad (halted p))) q

  -- refused before any block is looked at; stopped by the machine over the proved blocks; or by the first bad block
  pub load-cases : (P : Answer → List Store → Type 0) (memory : ℕ) → ((code : ℕ) → 1 ≤ code → code ≤ 12 → P (refused code) [])
      → (Taken o memory → (stop : Stop) → (ended o).phase ≡ Stopped stop → Ended (setting o) (ended o) stop → P (answer_at stop) (stores o))
      → (Taken o memory → proved_blocks o < (header o).stream.count → Running (ended o).phase → 13 ≤ bad_code → bad_code ≤ 15
      → P (answer_at first_bad) (stores o))
      → P (answer_made o memory) (stores_made o memory)
  load-cases P memory f g h =
      after-cases early (load_answer o) (stores o) P (λ e. looked (taken o memory e) answer-ways) (λ n. f early (omega (arith, n)) few)
    where
      early : ℕ
      early = first_broken (load_rules o memory)

      few : early ≤ 12
      few = leb→le early 12 (code-passes (λ (c : ℕ). leb c 12) (load_rules o memory) tt tt)

      block-codes : bad_code ≢ 0 → (13 ≤ bad_code) × (bad_code ≤ 15)
      block-codes =
          first-broken-has (λ (c : ℕ). c ≢ 0 → (13 ≤ c) × (c ≤ 15))
          (block_rules (header o).stream (proved_blocks o) (expected (header o) (block o) (proved_blocks o)) (block o (proved_blocks o)))
          (λ z. absurd (z refl)) (λ z. (lit≤ tt, lit≤ tt), (λ z. (lit≤ tt, lit≤ tt), (λ z. (lit≤ tt, lit≤ tt), tt)))

      looked : Taken o memory
          → ((stop : Stop) × ((ended o).phase ≡ Stopped stop) × (load_answer o ≡ answer_at stop))
          ⊎ (Running (ended o).phase × (load_answer o ≡ answer_at first_bad)) → P (load_answer o) (stores o)
      looked t (inl (stop, e, a)) =
          rw a (g t stop e (reached-ended (setting o) (ended o) (proved_bytes o, refl) e))
      looked t (inr (r, a)) =
          rw a
          (let c = block-codes (fails (header o) (block o) (header o).stream.count some-bad) in
          h t some-bad r c.0 c.1)
        where
          not-all : proved_blocks o ≢ (header o).stream.count
          not-all e =
              let (stop, q) = all-stopped o t.image in
              subst Running (ap (λ (k : ℕ). (state_after o k).phase) e ∙ q) r

          some-bad : proved_blocks o < (header o).stream.count
          some-bad = let n = not-all in omega (arith, proved-le (header o) (block o) (header o).stream.count)

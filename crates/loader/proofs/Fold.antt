-- Load block by block: what one more block does, and when the answer stands.
use mathlib.Core.Path.{◌≡◌, sym, ap, ap₂, subst, ◌∙◌}
use mathlib.Core.Bool.{cond}
use mathlib.Core.List.{List, [], ◌++◌, append-nil, append_assoc}
use mathlib.Core.Logic.{◌⊎◌, inl, inr, ⊎_elim, ◌≢◌}
use Prim.Native.Nat.{ℕ, zero, suc, ◌+◌, ◌≤◌, ◌<◌}
use native.Mathlib.Nat.{eq-or-lt_of_le}
use native.Mathlib.Omega.{arith}
use borrow.Author.Tests.{eqb-true, eqb-false}
use lib.Dec.{eqb}
use Rattle.answers.specs.Answers.{stop_at}
use Rattle.answers.specs.declared.Answer.{Answer}
use Rattle.answers.specs.declared.Stop.{Stop}
use Rattle.answers.proofs.ChoiceLaws.{cond_cases}
use Rattle.chain.specs.Blocks.{block_code, bad_block, proved, file_up_to, file_bytes}
use Rattle.chain.specs.Header.{file_length}
use Rattle.chain.proofs.BlockLaws.{file-more, proved-le, proved-more, stops, goes_on}
use Rattle.machine.specs.Machine.{State, Store, begun, run, trace, halted, stop_or, answer_of}
use Rattle.std.specs.Prelude.{Option, Some, None}
use Rattle.machine.specs.declared.Phase.{Phase}
use Rattle.machine.specs.declared.Phase.TheVariants.{Stopped}
use Rattle.machine.proofs.Runs.{run-append, trace-append, run-stopped, trace-stopped}
use Rattle.machine.proofs.Standing.{Running, running-or-stopped}
use Rattle.loader.proofs.LoadLaws.{ImagePassed, all-stopped, running-on}
use Rattle.loader.specs.Load.{Offer, header, block, setting, state_after, stores_after, proved_blocks, ended, stores, load_answer}

-- before the first byte of the file
abbrev pub at_start : Offer → State
at_start o = begun (file_length (header o).stream)

-- the file's bytes in block k
abbrev pub bytes_in : Offer → ℕ → List ℕ
bytes_in o k = file_bytes (header o).stream k (block o k)

module _ (o : Offer) where
  -- ---- one more block

  pub state-more : (k : ℕ) → state_after o (suc k) ≡ run (setting o) (state_after o k) (bytes_in o k)
  state-more k =
      ap (run (setting o) (at_start o)) (file-more (header o).stream (block o) k)
      ∙ run-append (setting o) (at_start o) (file_up_to (header o).stream (block o) k) (bytes_in o k)

  pub stores-more : (k : ℕ) → stores_after o (suc k) ≡ stores_after o k ++ trace (setting o) (state_after o k) (bytes_in o k)
  stores-more k =
      ap (trace (setting o) (at_start o)) (file-more (header o).stream (block o) k)
      ∙ trace-append (setting o) (at_start o) (file_up_to (header o).stream (block o) k) (bytes_in o k)

  -- ---- a machine that has stopped stays so, however many blocks follow

  module _ (k : ℕ) {stop : Stop} (end : (state_after o k).phase ≡ Stopped stop) where
    pub state-stays : (n : ℕ) → k ≤ n → state_after o n ≡ state_after o k
    state-stays zero h = let e : k ≡ zero = omega arith in ap (state_after o) (sym e)
    state-stays (suc n) h =
        ⊎_elim (λ e. ap (state_after o) (sym e))
        (λ s. state-more n
        ∙ ap (λ (t : State). run (setting o) t (bytes_in o n)) (state-stays n (omega arith))
        ∙ run-stopped (setting o) (state_after o k) (bytes_in o n) end)
        (eq-or-lt_of_le h)

    pub stores-stay : (n : ℕ) → k ≤ n → stores_after o n ≡ stores_after o k
    stores-stay zero h = let e : k ≡ zero = omega arith in ap (stores_after o) (sym e)
    stores-stay (suc n) h =
        ⊎_elim (λ e. ap (stores_after o) (sym e))
        (λ s. stores-more n
        ∙ ap₂ (λ (xs : List Store) (t : State). xs ++ trace (setting o) t (bytes_in o n)) (stores-stay n (omega arith))
        (state-stays n (omega arith))
        ∙ ap (λ (xs : List Store). stores_after o k ++ xs) (trace-stopped (setting o) (state_after o k) (bytes_in o n) end)
        ∙ append-nil (stores_after o k)) (eq-or-lt_of_le h)

  -- ---- the answer

  -- what load answers, and what it has stored, once k blocks are proved and the machine stands as they left it
  pub record Answered (k : ℕ) (a : Answer) : Type 0 where
    pub answer : load_answer o ≡ a
    pub stored : stores o ≡ stores_after o k

  module _ (k : ℕ) (all : proved (header o) (block o) k ≡ k) where
    -- the machine has stopped: its stop is the answer
    pub stopped-answers : (stop : Stop) → k ≤ (header o).stream.count → (state_after o k).phase ≡ Stopped stop
        → Answered k (answer_of stop (state_after o k).tally)
    stopped-answers stop h end =
        let more : k ≤ proved_blocks o = omega (arith, all, proved-more (header o) (block o) k (header o).stream.count h) in
        let same : ended o ≡ state_after o k = state-stays k end (proved_blocks o) more in
        let bad : Stop = bad_block (header o) (block o) (proved_blocks o) in
        record {
          answer = ap (λ (t : State). answer_of (stop_or bad (halted t.phase)) t.tally) same
              ∙ ap (λ (p : Phase). answer_of (stop_or bad (halted p)) (state_after o k).tally) end;
          stored = stores-stay k end (proved_blocks o) more;
        }

    -- the next block is bad: unless the machine has stopped, that is the answer
    pub bad-answers : k < (header o).stream.count → block_code (header o) (block o) k ≢ 0
        → Answered k (answer_of (stop_or (bad_block (header o) (block o) k) (halted (state_after o k).phase)) (state_after o k).tally)
    bad-answers h ne =
        let here : proved_blocks o ≡ k = stops (header o) (block o) k (header o).stream.count h all ne in
        record {
          answer =
              ap (λ (m : ℕ). answer_of (stop_or (bad_block (header o) (block o) m) (halted (state_after o m).phase)) (state_after o m).tally)
              here;
          stored = ap (stores_after o) here;
        }

-- ---- the block-by-block fold that the code follows

-- what is left to answer and to store
pub record Followed : Type 0 where
  pub answer : Answer
  pub stores : List Store

-- nothing more is stored, and a stop is answered with the counts as they stand
abbrev pub ends : Stop → State → Followed
ends stop s = record { answer = answer_of stop s.tally; stores = [] }

-- a machine that has stopped looks at no block
abbrev pub unless_halted : Option Stop → State → Followed → Followed
unless_halted (Some stop) s next = ends stop s
unless_halted None s next = next

-- From block k on, with so many blocks left and the machine at s: a block is looked at only if the machine has not stopped; if
-- it is proved its file bytes are run, and then the next one is looked at. All blocks always stop the machine; a run that
-- they did not stop would have no entry, 27.
unfoldable pub follow : Offer → ℕ → ℕ → State → Followed
follow o zero k s =
    let end = file_length (header o).stream in
    unless_halted (halted s.phase) s (ends (stop_at 27 end) s)
follow o (suc left) k s =
    let next = follow o left (suc k) (run (setting o) s (bytes_in o k)) in
    unless_halted (halted s.phase) s
    (cond (eqb (block_code (header o) (block o) k) 0)
    (record { answer = next.answer; stores = trace (setting o) s (bytes_in o k) ++ next.stores })
    (ends (bad_block (header o) (block o) k) s))

module _ (o : Offer) (q : ImagePassed o) where
  -- what the fold answers from block k on, where the first k blocks are proved and were run
  record Follows (k : ℕ) (f : Followed) : Type 0 where
    answer : f.answer ≡ load_answer o
    stored : stores_after o k ++ f.stores ≡ stores o

  stopped-follows : (k : ℕ) {stop : Stop} (f : Followed) → proved (header o) (block o) k ≡ k → k ≤ (header o).stream.count
      → (state_after o k).phase ≡ Stopped stop → Follows k (unless_halted (halted (state_after o k).phase) (state_after o k) f)
  stopped-follows k {stop} f all h e =
      let a = stopped-answers o k all stop h e in
      subst (λ (p : Phase). Follows k (unless_halted (halted p) (state_after o k) f)) (sym e)
      (record { answer = sym a.answer; stored = append-nil (stores_after o k) ∙ sym a.stored })

  follows : (left k : ℕ) → k + left ≡ (header o).stream.count → proved (header o) (block o) k ≡ k
      → Follows k (follow o left k (state_after o k))
  unfolding follow
  follows zero k e all =
      let (stop, end) = all-stopped o q in
      let f : (header o).stream.count ≡ k = omega arith in
      stopped-follows k _ all (omega arith) (ap (λ (n : ℕ). (state_after o n).phase) (sym f) ∙ end)
  follows (suc left) k e all =
      by-phase (λ (p : proved (header o) (block o) (suc k) ≡ suc k). follows left (suc k) (omega arith) p)
      (running-or-stopped (state_after o k).phase)
    where
      s : State
      s = state_after o k

      code : ℕ
      code = block_code (header o) (block o) k

      next : Followed
      next = follow o left (suc k) (run (setting o) s (bytes_in o k))

      Below : Type 0
      Below = proved (header o) (block o) (suc k) ≡ suc k → Follows (suc k) (follow o left (suc k) (state_after o (suc k)))

      bad : Running s.phase → code ≢ 0 → Follows k (ends (bad_block (header o) (block o) k) s)
      bad r ne =
          let a = bad-answers o k all (omega arith) ne in
          record {
            answer = sym
                (a.answer
                ∙ ap (λ (h : Option Stop). answer_of (stop_or (bad_block (header o) (block o) k) h) s.tally) (running-on s.phase r));
            stored = append-nil (stores_after o k) ∙ sym a.stored;
          }

      good : Below → code ≡ 0 → Follows k (record { answer = next.answer; stores = trace (setting o) s (bytes_in o k) ++ next.stores })
      good below z =
          let f = below (goes_on (header o) (block o) k all z) in
          let same : follow o left (suc k) (state_after o (suc k)) ≡ next = ap (follow o left (suc k)) (state-more o k) in
          record {
            answer = ap (λ (x : Followed). x.answer) (sym same) ∙ f.answer;
            stored = sym (append_assoc (stores_after o k) (trace (setting o) s (bytes_in o k)) next.stores)
                ∙ ap₂ (λ (xs : List Store) (x : Followed). xs ++ x.stores) (sym (stores-more o k)) (sym same)
                ∙ f.stored;
          }

      looked : Followed
      looked =
          cond (eqb code 0) (record { answer = next.answer; stores = trace (setting o) s (bytes_in o k) ++ next.stores })
          (ends (bad_block (header o) (block o) k) s)

      by-phase : Below → Running s.phase ⊎ ((stop : Stop) × (s.phase ≡ Stopped stop))
          → Follows k (unless_halted (halted s.phase) s looked)
      by-phase below (inr (stop, end)) = stopped-follows k looked all (omega arith) end
      by-phase below (inl r) =
          subst (λ (h : Option Stop). Follows k (unless_halted h s looked)) (sym (running-on s.phase r))
          (cond_cases (Follows k) (eqb code 0) _ _ (λ z. good below (eqb-true code 0 z)) (λ z. bad r (eqb-false code 0 z)))

  -- Load's answer and stores are those of the fold over all blocks.
  pub load-follows : follow o (header o).stream.count 0 (at_start o) ≡ record { answer = load_answer o; stores = stores o }
  unfolding file_up_to run trace
  load-follows =
      let f = follows (header o).stream.count 0 (omega arith) (omega (arith, proved-le (header o) (block o) 0)) in
      λ i. record { answer = f.answer i; stores = f.stored i }

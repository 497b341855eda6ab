-- What holds after any bytes: every state that a run comes to stands, and the bounds that follow.
use mathlib.Core.Bool.{true}
use mathlib.Core.Path.{◌≡◌, sym, ap, subst, ◌∙◌}
use mathlib.Core.List.Memᴰ
use mathlib.Core.List.{List, [], ◌∷◌, ◌++◌, append-nil, Memᴰ}
use mathlib.Core.Logic.{◌⊎◌, inl, inr}
use Prim.Native.Nat.{ℕ, suc, ◌+◌, ◌*◌, ◌^◌, ◌≤◌, ◌<◌}
use native.Mathlib.Nat.{add-zero, zero-add}
use native.Mathlib.Omega.{arith}
use lib.Dec.{eqb, lit≤}
use lib.ListN.{length, length-append}
use lib.Seq.{append_snoc}
use Rattle.std.specs.Prelude.{unwrap_or}
use Rattle.answers.specs.declared.Stop.{Stop}
use Rattle.answers.proofs.ChoiceLaws.{cond_cases}
use Rattle.board.specs.Map.{ordered, total}
use Rattle.board.specs.Reach.{limit}
use Rattle.board.proofs.MapLaws.{Covered, ordered-means, ram-covered, offset-fits}
use Rattle.machine.specs.Machine.{Setting, State, Store, Effect, step, run, trace, begun, no_stores}
use Rattle.machine.specs.Reached.{Reached}
use Rattle.machine.specs.declared.Phase.{Phase}
use Rattle.machine.specs.declared.Phase.TheVariants.{Stopped}
use Rattle.machine.proofs.MemoryLaws.{length-stores_from, from-inside}
use Rattle.machine.proofs.Runs.{ran, step-stopped, run-append, run-stopped}
use Rattle.machine.proofs.Standing.{
  Stands,
  Meant,
  Ended,
  Proper,
  Along,
  Running,
  running-or-stopped,
  react-stands,
  stands-below,
  begun-stands,
}

pub limit-few : (mode : ℕ) → limit mode ≤ 2 ^ 52
limit-few mode = cond_cases (λ (n : ℕ). n ≤ 2 ^ 52) (eqb mode 32) (2 ^ 32) (2 ^ 52) (λ e. lit≤ tt) (λ e. lit≤ tt)

-- ---- what each step keeps, a run keeps

module _ (on : Setting) where
  -- a step of a state that stands: an effect that uses a byte, or nothing
  pub step-cases : (P : Effect → Type 0) (s : State) (b : ℕ) → Stands on s
      → (Running s.phase → Proper on (suc s.next) s.tally (step on s b) → P (step on s b)) → P (no_stores s)
      → P (step on s b)
  step-cases P s b h f g = go (running-or-stopped s.phase)
    where
      go : Running s.phase ⊎ ((stop : Stop) × (s.phase ≡ Stopped stop)) → P (step on s b)
      go (inl r) = f r (react-stands on s b h r)
      go (inr (stop, e)) = rw (step-stopped on s b e) g

  pub step-stands : (s : State) (b : ℕ) → Stands on s → Stands on (step on s b).state
  step-stands s b h =
      step-cases (λ (t : Effect). Stands on t.state) s b h
      (λ r t. record {
        order = t.order;
        inside = omega (arith, t.next, stands-below on s h r);
        counted = omega (arith, t.next, t.commands, h.counted);
        enters = t.enters h.enters;
        meant = t.meant;
      })
      h

  pub run-keeps : (P : State → Type 0) → ((s : State) (b : ℕ) → Stands on s → P s → P (step on s b).state) → (s : State) (xs : List ℕ)
      → Stands on s → P s → P (run on s xs)
  unfolding run
  run-keeps P f s [] h p = p
  run-keeps P f s (x ∷ xs) h p = run-keeps P f (step on s x).state xs (step-stands s x h) (f s x h p)

  pub run-stands : (s : State) (xs : List ℕ) → Stands on s → Stands on (run on s xs)
  run-stands s xs h = run-keeps (Stands on) (λ t b i j. step-stands t b i) s xs h h

  -- every state that begin and earlier pieces give stands
  pub reached-stands : (s : State) → Reached on s → Stands on s
  reached-stands s (bytes, e) = rw e (run-stands (begun on.job.length) bytes (begun-stands on))

  -- with a map that is taken, each byte of the file causes at most 2^32 stores
  module _ (taken : ordered 0 on.map ≡ true) (size : total on.map ≤ 2 ^ 32) where
    along-few : (xs : List Store) → Along on xs → length xs ≤ 2 ^ 32
    along-few xs (a, bs, e, r, l) =
        omega (arith, ap length e ∙ length-stores_from a bs, offset-fits 0 on.map (ordered-means 0 on.map taken) a (length bs) r, size)

    pub reached-stored : (s : State) → Reached on s → s.tally.stored ≤ 2 ^ 32 * s.next
    reached-stored s (bytes, e) =
        rw e (run-keeps (λ (t : State). t.tally.stored ≤ 2 ^ 32 * t.next)
        (λ t b h p. step-cases (λ (u : Effect). u.state.tally.stored ≤ 2 ^ 32 * u.state.next) t b h
        (λ r u. omega (arith, u.next, u.stored, along-few (step on t b).stores u.along, p)) p)
        (begun on.job.length) bytes (begun-stands on) (omega arith))

  -- the entry is reachable, so it fits 64 bits
  pub reached-entry : (s : State) → Reached on s → unwrap_or s.tally.entry 0 ≤ 2 ^ 52
  reached-entry s r = omega (arith, (reached-stands s r).enters, limit-few on.job.mode)

  -- ---- bytes used

  -- a run that has not stopped has used every byte
  run-used : (s : State) (xs : List ℕ) → Stands on s → Running (run on s xs).phase → (run on s xs).next ≡ s.next + length xs
  unfolding run
  run-used s [] h r = sym (add-zero s.next)
  run-used s (x ∷ xs) h r = go (running-or-stopped s.phase) (run-used (step on s x).state xs (step-stands s x h) r)
    where
      go : Running s.phase ⊎ ((stop : Stop) × (s.phase ≡ Stopped stop))
          → (run on (step on s x).state xs).next ≡ (step on s x).state.next + length xs
          → (run on (step on s x).state xs).next ≡ s.next + suc (length xs)
      go (inl q) below = omega (arith, below, (react-stands on s x h q).next)
      go (inr (stop, e)) below = absurd (subst Running (ap (λ (t : State). t.phase) (run-stopped on s (x ∷ xs) e) ∙ e) r)

  pub begun-used : (xs : List ℕ) → Running (ran on xs).phase → (ran on xs).next ≡ length xs
  begun-used xs r = run-used (begun on.job.length) xs (begun-stands on) r ∙ zero-add (length xs)

  -- no run has used more bytes than it was given
  pub run-next-le : (s : State) (xs : List ℕ) → Stands on s → (run on s xs).next ≤ s.next + length xs
  unfolding run
  run-next-le s [] h = omega arith
  run-next-le s (x ∷ xs) h =
      let one : (step on s x).state.next ≤ suc s.next =
      step-cases (λ (t : Effect). t.state.next ≤ suc s.next) s x h (λ r t. omega (arith, t.next)) (omega arith) in
      omega (arith, one, run-next-le (step on s x).state xs (step-stands s x h))

  -- how a run has ended
  pub reached-ended : (s : State) {stop : Stop} → Reached on s → s.phase ≡ Stopped stop → Ended on s stop
  reached-ended s r e = subst (λ (p : Phase). Meant on p s) e (reached-stands s r).meant

  -- a run over as many bytes as the file has stopped
  pub whole-stopped : (xs : List ℕ) → length xs ≡ on.job.length → (stop : Stop) × ((ran on xs).phase ≡ Stopped stop)
  whole-stopped xs e = go (running-or-stopped end.phase)
    where
      end : State
      end = ran on xs

      go : Running end.phase ⊎ ((stop : Stop) × (end.phase ≡ Stopped stop)) → (stop : Stop) × (end.phase ≡ Stopped stop)
      go (inr h) = h
      go (inl r) =
          absurd (omega (arith, e, begun-used xs r, stands-below on end (run-stands (begun on.job.length) xs (begun-stands on)) r))

  -- ---- stores

  -- bytes stored is the number of stores
  pub run-stored : (s : State) (xs : List ℕ) → Stands on s → (run on s xs).tally.stored ≡ s.tally.stored + length (trace on s xs)
  unfolding run trace
  run-stored s [] h = sym (add-zero s.tally.stored)
  run-stored s (x ∷ xs) h =
      let t = step on s x in
      let one : t.state.tally.stored ≡ s.tally.stored + length t.stores =
      step-cases (λ (u : Effect). u.state.tally.stored ≡ s.tally.stored + length u.stores) s x h (λ r u. u.stored)
      (sym (add-zero s.tally.stored)) in
      rw length-append (omega (arith, one, run-stored t.state xs (step-stands s x h)))

  -- an address that is RAM and reachable
  abbrev pub Inside : Store → Type 0
  Inside x = Covered on.map x.address × (x.address < limit on.job.mode)

  -- every store is at one
  along-inside : (xs : List Store) (x : Store) → Along on xs → Memᴰ x xs → Inside x
  along-inside xs x (a, bs, e, r, l) m =
      let at = from-inside a bs x (subst (Memᴰ x) e m) in
      (ram-covered on.map a (length bs) x.address r at.0 at.1, omega (arith, at, l))

  pub trace-inside : (s : State) (xs : List ℕ) (x : Store) → Stands on s → Memᴰ x (trace on s xs) → Inside x
  unfolding trace
  trace-inside s [] x h m = absurd (Memᴰ.not-nil m)
  trace-inside s (b ∷ xs) x h m =
      go (Memᴰ.append_cases (step on s b).stores m) (trace-inside (step on s b).state xs x (step-stands s b h))
    where
      go : Memᴰ x (step on s b).stores ⊎ Memᴰ x (trace on (step on s b).state xs)
          → (Memᴰ x (trace on (step on s b).state xs) → Inside x) → Inside x
      go (inl n) below =
          step-cases (λ (t : Effect). Memᴰ x t.stores → Inside x) s b h
          (λ r t. along-inside (step on s b).stores x t.along) (λ z. absurd (Memᴰ.not-nil z)) n
      go (inr n) below = below n

  -- ---- what holds after any bytes of the file

  -- of the bytes and the state that they lead to: what holds before the first byte, and each byte keeps
  pub bytes-keep : (P : List ℕ → State → Type 0) → P [] (begun on.job.length)
      → ((xs : List ℕ) (b : ℕ) → Stands on (ran on xs) → P xs (ran on xs)
      → P (xs ++ (b ∷ [])) (step on (ran on xs) b).state)
      → (xs : List ℕ) → P xs (ran on xs)
  unfolding run
  bytes-keep P first more xs = go [] xs first
    where
      start : State
      start = begun on.job.length

      go : (done rest : List ℕ) → P done (run on start done) → P (done ++ rest) (run on start (done ++ rest))
      go done [] p = subst (λ (l : List ℕ). P l (run on start l)) (sym (append-nil done)) p
      go done (b ∷ rest) p =
          subst (λ (l : List ℕ). P l (run on start l)) (append_snoc done b rest)
          (go (done ++ (b ∷ [])) rest (subst (P (done ++ (b ∷ []))) (sym (run-append on start done (b ∷ [])))
          (more done b (run-stands start done (begun-stands on)) p)))

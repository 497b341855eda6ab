-- Many bytes at once: what the bytes of one phase do together, as the steps over them one by one.
use mathlib.Core.Bool.{Bool, true, cond}
use mathlib.Core.Path.{◌≡◌, refl, sym, ap, ◌∙◌}
use mathlib.Core.List.{List, [], ◌∷◌, ◌++◌, append-nil}
use Prim.Native.Nat.{ℕ, zero, suc, pred, ◌+◌, ◌-◌, ◌≤◌, ◌<◌}
use native.Mathlib.Omega.{arith}
use borrow.Author.Tests.{lt-ltb, ne_eqb}
use lib.Dec.{eqb, ltb, eqb-suc-suc}
use lib.ListN.{length, length-append}
use lib.Seq.{append_snoc}
use Rattle.machine.specs.Commands.{judged_bytes}
use Rattle.machine.specs.ContractWords.{effects, kept_all, gather_all, data_used}
use Rattle.machine.specs.Machine.{
  Setting,
  State,
  Store,
  Effect,
  react,
  step,
  run,
  trace,
  no_stores,
  in_phase,
  kept,
  used,
  tallied,
  with_stored,
  command_begins,
  finished,
  gather,
  unless_last,
  magic_read,
  header_read,
  parameters_read,
  stores_from,
}
use Rattle.machine.specs.declared.Command.{Command}
use Rattle.machine.specs.declared.Phase.{Phase}
use Rattle.machine.specs.declared.Phase.TheVariants.{Magic, Header, Parameters, Storing, Skipping}
use Rattle.machine.specs.declared.Tally.{Tally}

-- the same from the first byte's effect on
abbrev then : Setting → Effect → List ℕ → Effect
then on t xs = record { state = run on t.state xs; stores = t.stores ++ trace on t.state xs }

effects-cons : (on : Setting) (s : State) (x : ℕ) (xs : List ℕ) → effects on s (x ∷ xs) ≡ then on (step on s x) xs
unfolding run trace
effects-cons on s x xs = refl

effects-one : (on : Setting) (s : State) (x : ℕ) → effects on s (x ∷ []) ≡ step on s x
unfolding run trace
effects-one on s x =
    λ i. record { state = (step on s x).state; stores = append-nil (step on s x).stores i }

-- ---- bytes that are gathered until all of them are there

kept-one : (x : ℕ) (s : State) → kept x s ≡ kept_all (x ∷ []) s
kept-one x s =
    let e : suc s.next ≡ s.next + 1 = omega arith in
    λ i. record { phase = s.phase; gathered = s.gathered ++ (x ∷ []); start = s.start; next = e i; tally = s.tally }

kept_more : (x : ℕ) (xs : List ℕ) (s : State) → kept_all xs (kept x s) ≡ kept_all (x ∷ xs) s
kept_more x xs s =
    let e : suc s.next + length xs ≡ s.next + suc (length xs) = omega arith in
    λ i. record {
      phase = s.phase;
      gathered = append_snoc s.gathered x xs i;
      start = s.start;
      next = e i;
      tally = s.tally;
    }

-- a phase that gathers `all` bytes, which then say what `says` does
module _ (on : Setting) (p : Phase) (all : ℕ) (says : State → Effect)
    (gathers : (s : State) (b : ℕ) → react p on s b ≡ gather all says s b) where
  abbrev told : State → Effect
  told t = cond (ltb (length t.gathered) all) (no_stores t) (says t)

  step-gathers : (s : State) (b : ℕ) → s.phase ≡ p → step on s b ≡ told (kept b s)
  step-gathers s b e = ap (λ (q : Phase). react q on s b) e ∙ gathers s b

  -- up to as many bytes do together what they do one by one
  pub effects-kept : (s : State) (xs : List ℕ) → s.phase ≡ p → 0 < length xs → length s.gathered + length xs ≤ all
      → effects on s xs ≡ gather_all all says s xs
  effects-kept s [] e h l = absurd (omega arith)
  effects-kept s (x ∷ []) e h l = effects-one on s x ∙ step-gathers s x e ∙ ap told (kept-one x s)
  effects-kept s (x ∷ y ∷ ys) e h l =
      let few : ltb (length (s.gathered ++ (x ∷ []))) all ≡ true =
      lt-ltb (length (s.gathered ++ (x ∷ []))) all (rw length-append (omega arith)) in
      effects-cons on s x (y ∷ ys)
      ∙ ap (λ (t : Effect). then on t (y ∷ ys)) (step-gathers s x e ∙ ap (λ (b : Bool). cond b (no_stores (kept x s)) (says (kept x s))) few)
      ∙ effects-kept (kept x s) (y ∷ ys) e (omega arith) (rw length-append (omega arith))
      ∙ ap told (kept_more x (y ∷ ys) s)

module _ (on : Setting) (s : State) (xs : List ℕ) (some : 0 < length xs) where
  pub effects-magic : s.phase ≡ Magic → length s.gathered + length xs ≤ 8
      → effects on s xs ≡ gather_all 8 (magic_read on.job.length) s xs
  unfolding react
  effects-magic e = effects-kept on Magic 8 (magic_read on.job.length) (λ t b. refl) s xs e some

  pub effects-header : s.phase ≡ Header → length s.gathered + length xs ≤ 16
      → effects on s xs ≡ gather_all 16 (header_read on.job.length) s xs
  unfolding react
  effects-header e = effects-kept on Header 16 (header_read on.job.length) (λ t b. refl) s xs e some

  pub effects-parameters : (k : Command) → s.phase ≡ Parameters k → length s.gathered + length xs ≤ 16 + judged_bytes k
      → effects on s xs ≡ gather_all (16 + judged_bytes k) (parameters_read k on) s xs
  unfolding react
  effects-parameters k e =
      effects-kept on (Parameters k) (16 + judged_bytes k) (parameters_read k on) (λ t b. refl) s xs e some

-- ---- bytes of a command's data: n of them used, and the last one finishes the command

pred-eqb : (n m : ℕ) → 0 < n → eqb (pred n) m ≡ eqb n (suc m)
pred-eqb zero m h = absurd (omega arith)
pred-eqb (suc n) m h = sym (eqb-suc-suc n m)

-- the state behind data, by whether it ended, the phase where it did not, the next offset and the tally
abbrev behind : ℕ → Bool → Phase → ℕ → Tally → State → State
behind file_length last p next t s =
    let u : State = record { phase = s.phase; gathered = s.gathered; start = s.start; next = next; tally = t } in
    cond last (finished file_length u) (in_phase p u)

-- A phase of data: its place a and the bytes left, what n bytes add to the tally, and what the bytes at a cause.
module _
    (on : Setting) (at : ℕ → ℕ → Phase) (more : ℕ → Tally → Tally) (out : ℕ → List ℕ → List Store)
    (more-suc : (n : ℕ) (t : Tally) → more n (more 1 t) ≡ more (suc n) t)
    (out-cons : (a b : ℕ) (xs : List ℕ) → out a (b ∷ []) ++ out (suc a) xs ≡ out a (b ∷ xs))
    (one : (a left : ℕ) (s : State) (b : ℕ)
    → react (at a left) on s b
    ≡ record {
      state = unless_last on.job.length left (at (suc a) (pred left)) (used (tallied (more 1 s.tally) s));
      stores = out a (b ∷ []);
    }) where
  -- what the first n bytes lead to and cause
  abbrev used-data : ℕ → ℕ → ℕ → List ℕ → State → Effect
  used-data a left n xs s =
      record {
        state = data_used on.job.length n left (at (a + n) (left - n)) (tallied (more n s.tally) s);
        stores = out a xs;
      }

  -- the first one x, and what more bytes do behind it
  abbrev first_then : ℕ → ℕ → Effect → Effect
  first_then a x t = record { state = t.state; stores = out a (x ∷ []) ++ t.stores }

  abbrev behind-first : ℕ → ℕ → State → State
  behind-first a left s = in_phase (at (suc a) (pred left)) (used (tallied (more 1 s.tally) s))

  data-more : (a left n x : ℕ) (xs : List ℕ) (s : State) → suc n ≤ left
      → first_then a x (used-data (suc a) (pred left) n xs (behind-first a left s)) ≡ used-data a left (suc n) (x ∷ xs) s
  unfolding finished command_begins
  data-more a left n x xs s l =
      let place : suc a + n ≡ a + suc n = omega arith in
      let rest : pred left - n ≡ left - suc n = omega arith in
      let next : suc s.next + n ≡ s.next + suc n = omega arith in
      λ i. record {
        state =
            behind on.job.length (pred-eqb left n (omega arith) i) (at (place i) (rest i)) (next i) (more-suc n s.tally i) s;
        stores = out-cons a x xs i;
      }

  effects-data : (a left : ℕ) (s : State) (xs : List ℕ) → s.phase ≡ at a left → 0 < length xs → length xs ≤ left
      → effects on s xs ≡ used-data a left (length xs) xs s
  effects-data a left s [] e h l = absurd (omega arith)
  effects-data a left s (x ∷ []) e h l =
      let place : suc a ≡ a + 1 = omega arith in
      let rest : pred left ≡ left - 1 = omega arith in
      let next : suc s.next ≡ s.next + 1 = omega arith in
      effects-one on s x ∙ ap (λ (p : Phase). react p on s x) e ∙ one a left s x
      ∙ (λ i. record {
        state = behind on.job.length (eqb left 1) (at (place i) (rest i)) (next i) (more 1 s.tally) s;
        stores = out a (x ∷ []);
      })
  effects-data a left s (x ∷ y ∷ ys) e h l =
      let one_byte : Bool → Effect =
      λ last. record {
        state = behind on.job.length last (at (suc a) (pred left)) (suc s.next) (more 1 s.tally) s;
        stores = out a (x ∷ []);
      } in
      effects-cons on s x (y ∷ ys)
      ∙ ap (λ (t : Effect). then on t (y ∷ ys))
      (ap (λ (p : Phase). react p on s x) e ∙ one a left s x ∙ ap one_byte (ne_eqb left 1 (λ q. omega (arith, q))))
      ∙ ap (first_then a x) (effects-data (suc a) (pred left) (behind-first a left s) (y ∷ ys) refl (omega arith) (omega arith))
      ∙ data-more a left (suc (length ys)) x (y ∷ ys) s l

-- bytes of a write are stored from its address on
pub effects-storing : (on : Setting) (a left : ℕ) (s : State) (xs : List ℕ) → s.phase ≡ Storing a left → 0 < length xs → length xs ≤ left
    → effects on s xs
    ≡ record {
      state =
          data_used on.job.length (length xs) left (Storing (a + length xs) (left - length xs))
          (tallied (with_stored (length xs) s.tally) s);
      stores = stores_from a xs;
    }
unfolding react stores_from
effects-storing on =
    effects-data on Storing with_stored stores_from
    (λ n t. let e : t.stored + 1 + n ≡ t.stored + suc n = omega arith in
    λ i. record { commands = t.commands; stored = e i; entry = t.entry })
    (λ a b xs. refl)
    (λ a left s b. refl)

-- bytes of a skipped command do nothing
pub effects-skipping : (on : Setting) (left : ℕ) (s : State) (xs : List ℕ) → s.phase ≡ Skipping left → 0 < length xs → length xs ≤ left
    → effects on s xs ≡ no_stores (data_used on.job.length (length xs) left (Skipping (left - length xs)) s)
unfolding react
effects-skipping on =
    effects-data on (λ a left. Skipping left) (λ n t. t) (λ a xs. []) (λ n t. refl) (λ a b xs. refl) (λ a left s b. refl) 0

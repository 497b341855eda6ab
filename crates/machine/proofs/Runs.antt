-- Runs over joined bytes, and runs that have stopped.
use mathlib.Core.Path.{◌≡◌, refl, sym, ap, ◌∙◌}
use mathlib.Core.List.{List, [], ◌∷◌, ◌++◌, append_assoc}
use Prim.Native.Nat.{ℕ}
use native.Mathlib.Omega.{arith}
use lib.ListN.{length}
use Rattle.answers.specs.declared.Stop.{Stop}
use Rattle.machine.specs.Machine.{Setting, State, Store, Effect, react, step, run, trace, begun, no_stores}
use Rattle.machine.specs.Reached.{Reached}
use Rattle.machine.specs.declared.Phase.{Phase}
use Rattle.machine.specs.declared.Phase.TheVariants.{Stopped}

-- the state after bytes of the file, from its first one on, and the stores that they cause
abbrev pub ran : Setting → List ℕ → State
ran on bytes = run on (begun on.job.length) bytes

abbrev pub made : Setting → List ℕ → List Store
made on bytes = trace on (begun on.job.length) bytes

-- a list without length is empty
pub empty : {A : Type 0} (xs : List A) → length xs ≡ 0 → xs ≡ []
empty [] e = refl
empty (x ∷ xs) e = absurd (omega (arith, e))

-- ---- joined bytes

pub run-append : (on : Setting) (s : State) (xs ys : List ℕ) → run on s (xs ++ ys) ≡ run on (run on s xs) ys
unfolding run
run-append on s [] ys = refl
run-append on s (x ∷ xs) ys = run-append on (step on s x).state xs ys

pub trace-append : (on : Setting) (s : State) (xs ys : List ℕ) → trace on s (xs ++ ys) ≡ trace on s xs ++ trace on (run on s xs) ys
unfolding run trace
trace-append on s [] ys = refl
trace-append on s (x ∷ xs) ys =
    let t = step on s x in
    ap (λ (r : List Store). t.stores ++ r) (trace-append on t.state xs ys)
    ∙ sym (append_assoc t.stores (trace on t.state xs) (trace on (run on t.state xs) ys))

-- ---- a run that has stopped

pub step-stopped : (on : Setting) (s : State) (b : ℕ) {stop : Stop} → s.phase ≡ Stopped stop → step on s b ≡ no_stores s
unfolding react
step-stopped on s b e = ap (λ (p : Phase). react p on s b) e

pub run-stopped : (on : Setting) (s : State) (xs : List ℕ) {stop : Stop} → s.phase ≡ Stopped stop → run on s xs ≡ s
unfolding run
run-stopped on s [] e = refl
run-stopped on s (x ∷ xs) e =
    ap (λ (t : Effect). run on t.state xs) (step-stopped on s x e) ∙ run-stopped on s xs e

pub trace-stopped : (on : Setting) (s : State) (xs : List ℕ) {stop : Stop} → s.phase ≡ Stopped stop → trace on s xs ≡ []
unfolding trace
trace-stopped on s [] e = refl
trace-stopped on s (x ∷ xs) e =
    ap (λ (t : Effect). t.stores ++ trace on t.state xs) (step-stopped on s x e) ∙ trace-stopped on s xs e

-- ---- states that a run comes to

pub begun-reached : (on : Setting) → Reached on (begun on.job.length)
unfolding run
begun-reached on = ([], refl)

pub piece-reached : (on : Setting) (s : State) (xs : List ℕ) → Reached on s → Reached on (run on s xs)
piece-reached on s xs (bytes, e) =
    (bytes ++ xs, ap (λ (t : State). run on t xs) e ∙ sym (run-append on (begun on.job.length) bytes xs))

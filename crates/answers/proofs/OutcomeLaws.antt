-- Laws of how a call concludes.
use mathlib.Core.Bool.{Bool, true, false, cond}
use mathlib.Core.List.{List, []}
use mathlib.Core.Logic.{◌≢◌}
use mathlib.Core.Path.{◌≡◌, refl, ap, ap₂, ◌∙◌}
use Prim.Native.Nat.{ℕ}
use native.Mathlib.Omega.{arith}
use borrow.Author.Tests.{eqb-true, eqb-false}
use lib.Dec.{eqb}
use lib.ListN.{length}
use Rattle.answers.specs.Answers.{Outcome, answered, answer_after, written_after, record_bytes, record_length, refused}
use Rattle.answers.specs.declared.Answer.{Answer}
use Rattle.answers.proofs.ChoiceLaws.{cond_cases, cond-eq, cond-ne}

-- an answer given: the record tells it
abbrev pub given : Answer → List ℕ → Outcome
given a lent = record { code = a.code; answer = record_bytes a; lent = lent }

-- nothing is written, for the record is of another length
abbrev pub unwritten : List ℕ → List ℕ → Outcome
unwritten old before = record { code = 1; answer = old; lent = before }

module _ (old : List ℕ) (a : Answer) (before after : List ℕ) where
  pub answered-given : length old ≡ record_length → answered old a before after ≡ given a after
  answered-given = cond-eq (length old) record_length (given a after) (unwritten old before)

  pub answered-unwritten : length old ≢ record_length → answered old a before after ≡ unwritten old before
  answered-unwritten = cond-ne (length old) record_length (given a after) (unwritten old before)

  -- what holds of both ways holds of the outcome
  pub answered-cases : (P : Outcome → Type 0) → (length old ≡ record_length → P (given a after))
      → (length old ≢ record_length → P (unwritten old before)) → P (answered old a before after)
  answered-cases P f g =
      cond_cases P (eqb (length old) record_length) (given a after) (unwritten old before) (λ e. f (eqb-true (length old) record_length e))
      (λ e. g (eqb-false (length old) record_length e))

  -- 0 is returned only where it is the answer, and the record has its length
  pub answered-zero : (answered old a before after).code ≡ 0 → (a.code ≡ 0) × (length old ≡ record_length)
  answered-zero =
      answered-cases (λ (x : Outcome). x.code ≡ 0 → (a.code ≡ 0) × (length old ≡ record_length)) (λ fits e. (e, fits))
      (λ n e. absurd (omega (arith, e)))

  -- code and record are those of the answer, whatever is lent besides
  pub answered-alike : (before' after' : List ℕ)
      → ((answered old a before after).code ≡ (answered old a before' after').code)
      × ((answered old a before after).answer ≡ (answered old a before' after').answer)
  answered-alike before' after' = alike (eqb (length old) record_length)
    where
      outcome : Bool → List ℕ → List ℕ → Outcome
      outcome b x y = cond b (given a y) (unwritten old x)

      alike : (b : Bool)
          → ((outcome b before after).code ≡ (outcome b before' after').code)
          × ((outcome b before after).answer ≡ (outcome b before' after').answer)
      alike true = (refl, refl)
      alike false = (refl, refl)

module _ {A : Type 0} (early : ℕ) (a : Answer) (xs : List A) where
  -- the two ways that a call goes with the record's length right
  pub after-cases : (P : Answer → List A → Type 0) → (early ≡ 0 → P a xs) → (early ≢ 0 → P (refused early) [])
      → P (answer_after early a) (written_after early xs)
  after-cases P f g = by-test (eqb early 0) refl
    where
      by-test : (b : Bool) → eqb early 0 ≡ b → P (cond b a (refused early)) (cond b xs [])
      by-test true e = f (eqb-true early 0 e)
      by-test false e = g (eqb-false early 0 e)

  -- what a call leaves that writes xs by f: on an early refusal what no writing leaves
  module _ (f : List A → List ℕ) (old before : List ℕ) (fits : length old ≡ record_length) where
    abbrev concluded : Outcome
    concluded = answered old (answer_after early a) before (f (written_after early xs))

    pub concluded-refused : early ≢ 0 → concluded ≡ given (refused early) (f [])
    concluded-refused n =
        answered-given old (answer_after early a) before (f (written_after early xs)) fits
        ∙ ap₂ given (cond-ne early 0 a (refused early) n) (ap f (cond-ne early 0 xs [] n))

    pub concluded-done : early ≡ 0 → concluded ≡ given a (f xs)
    concluded-done e =
        answered-given old (answer_after early a) before (f (written_after early xs)) fits
        ∙ ap₂ given (cond-eq early 0 a (refused early) e) (ap f (cond-eq early 0 xs [] e))

-- What load has stored where it refuses: nothing before the first command, and nothing of a refused command.
use mathlib.Core.Path.{◌≡◌, refl, sym, ap, subst}
use mathlib.Core.List.{List, []}
use mathlib.Core.Logic.{◌⊎◌, inl, inr}
use Prim.Native.Nat.{ℕ, ◌≤◌}
use native.Mathlib.Omega.{arith}
use lib.ListN.{length}
use Rattle.answers.specs.Answers.{Outcome}
use Rattle.answers.specs.declared.Answer.{Answer}
use Rattle.answers.specs.declared.Stop.{Stop}
use Rattle.answers.proofs.OutcomeLaws.{answered-cases}
use Rattle.board.specs.Map.{regions}
use Rattle.chain.specs.Blocks.{file_up_to}
use Rattle.machine.specs.Machine.{Store, trace}
use Rattle.machine.specs.Memory.{applied}
use Rattle.machine.specs.declared.Phase.TheVariants.{Stopped}
use Rattle.machine.proofs.Places.{NotStoring}
use Rattle.machine.proofs.Standing.{Ended, at-end, at-magic, at-command, without-entry}
use Rattle.machine.proofs.Theorems.{BeforeFirst, none-done-none-stored, refused-first-none-stored}
use Rattle.loader.proofs.LoadLaws.{memory_made, proved_bytes, first_bad, bad_code, answer_at, load-cases}
use Rattle.loader.specs.Load.{Offer, setting, proved_blocks, ended, stores, stores_after, answer_made, stores_made, loaded}

-- the code and the place of a refusal that is found before the first command: 1 to 12; 13 to 15 at block 1; 16; 17 to 27 at place 8
abbrev pub FoundFirst : Answer → Type 0
FoundFirst a =
    ((1 ≤ a.code) × (a.code ≤ 12)) ⊎ (((13 ≤ a.code) × (a.code ≤ 15) × (a.place ≡ 1)) ⊎ BeforeFirst a.code a.place)

module _ (o : Offer) where
  -- no stores, no change,
  pub unchanged : (memory : List ℕ) → stores_made o (length memory) ≡ [] → memory_made o memory ≡ memory
  unfolding applied
  unchanged memory e = ap (applied (regions o.map) memory) e

  -- whatever the record's length
  pub lent-unchanged : (memory old : List ℕ) → stores_made o (length memory) ≡ [] → (loaded o memory old).lent ≡ memory
  unfolding loaded
  lent-unchanged memory old e =
      answered-cases old (answer_made o (length memory)) memory (memory_made o memory) (λ (x : Outcome). x.lent ≡ memory)
      (λ f. unchanged memory e) (λ n. refl)

  -- before the first block is proved nothing is stored
  none-proved : proved_blocks o ≡ 0 → stores o ≡ []
  unfolding file_up_to trace
  none-proved e = ap (stores_after o) e

  pub found-first-stores-nothing : (memory : ℕ) → FoundFirst (answer_made o memory) → stores_made o memory ≡ []
  found-first-stores-nothing memory =
      load-cases o (λ (a : Answer) (xs : List Store). FoundFirst a → xs ≡ []) memory (λ code l u n. refl) (λ t. by_end)
      (λ t s r l u. by-block l u)
    where
      late : (stop : Stop) → Ended (setting o) (ended o) stop → 1 ≤ stop.code → stop.code ≤ 15 → ⊥
      late stop (at-end q m f) l u = omega arith
      late stop (at-magic q m) l u = omega arith
      late stop (at-command i j) l u = omega arith
      late stop (without-entry q m f) l u = omega arith

      by_end : (stop : Stop) → (ended o).phase ≡ Stopped stop → Ended (setting o) (ended o) stop
          → FoundFirst (answer_at o stop) → stores o ≡ []
      by_end stop e h (inl n) = absurd (late stop h (omega arith) (omega arith))
      by_end stop e h (inr (inl n)) = absurd (late stop h (omega arith) (omega arith))
      by_end stop e h (inr (inr n)) = refused-first-none-stored (setting o) (proved_bytes o) e n

      by-block : 13 ≤ bad_code o → bad_code o ≤ 15 → FoundFirst (answer_at o (first_bad o)) → stores o ≡ []
      by-block l u (inl n) = absurd (omega arith)
      by-block l u (inr (inl n)) = none-proved (omega arith)
      by-block l u (inr (inr (inl n))) = absurd (omega arith)
      by-block l u (inr (inr (inr n))) = absurd (omega arith)

  -- no command is done, and at a bad block none has begun to store
  pub none-done-stores-nothing : (memory : ℕ) → (answer_made o memory).commands ≡ 0
      → (13 ≤ (answer_made o memory).code → (answer_made o memory).code ≤ 15 → NotStoring (ended o).phase) → stores_made o memory ≡ []
  none-done-stores-nothing memory =
      load-cases o
      (λ (a : Answer) (xs : List Store). a.commands ≡ 0 → (13 ≤ a.code → a.code ≤ 15 → NotStoring (ended o).phase) → xs ≡ []) memory
      (λ code l u n q. refl)
      (λ t stop e h n q. none-done-none-stored (setting o) (proved_bytes o) n (subst NotStoring (sym e) tt))
      (λ t s r l u n q. none-done-none-stored (setting o) (proved_bytes o) n (q l u))

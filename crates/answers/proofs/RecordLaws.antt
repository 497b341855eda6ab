-- Laws of the answer record.
use mathlib.Core.Path.{◌≡◌, refl, sym, ap, ◌∙◌}
use mathlib.Core.List.{List, ◌++◌, append-nil}
use Prim.Native.Nat.{ℕ, ◌+◌, ◌^◌, ◌≤◌, ◌<◌}
use native.Mathlib.Nat.{zero-add}
use native.Mathlib.Omega.{arith}
use lib.ListN.{length, drop_of_length-le}
use Rattle.octets.specs.Numbers.{little, little_bytes}
use Rattle.octets.specs.Parts.{part, put}
use Rattle.octets.proofs.NumberLaws.{little-little_bytes-lt}
use Rattle.octets.proofs.PartLaws.{put-beside}
use Rattle.answers.specs.Answers.{record_bytes, record_length}
use Rattle.answers.specs.declared.Answer.{Answer}

-- ---- its length

pub length-record : (a : Answer) → length (record_bytes a) ≡ record_length
unfolding record_bytes little_bytes
length-record a = refl

-- ---- the five numbers written one behind the other

module _ (a : Answer) (l₀ l₁ l₂ l₃ l₄ l₅ : List ℕ) (n : length l₀ ≡ record_length) where
  pub record-written : l₁ ≡ put l₀ 0 (little_bytes 8 a.code) → l₂ ≡ put l₁ 8 (little_bytes 8 a.place)
      → l₃ ≡ put l₂ 16 (little_bytes 8 a.commands) → l₄ ≡ put l₃ 24 (little_bytes 8 a.stored)
      → l₅ ≡ put l₄ 32 (little_bytes 8 a.entry) → l₅ ≡ record_bytes a
  unfolding record_bytes little_bytes
  record-written e₁ e₂ e₃ e₄ e₅ =
      joined 32 (c ++ p ++ d ++ s) e
      (joined 24 (c ++ p ++ d) s (joined 16 (c ++ p) d (joined 8 c p e₁ e₂ refl (omega arith)) e₃ refl (omega arith)) e₄ refl (omega arith))
      e₅ refl (omega arith)
      ∙ ap (λ (t : List ℕ). record_bytes a ++ t) (drop_of_length-le l₀ {i = record_length} (omega arith)) ∙ append-nil (record_bytes a)
    where
      joined : (k : ℕ) (v w : List ℕ) {l m : List ℕ} → l ≡ put l₀ 0 v → m ≡ put l k w → length v ≡ k → k + length w ≤ record_length
          → m ≡ put l₀ 0 (v ++ w)
      joined k v w f g h fits =
          g ∙ ap (λ (t : List ℕ). put t k w) f ∙ ap (λ (i : ℕ). put (put l₀ 0 v) i w) (sym (zero-add k))
          ∙ put-beside l₀ 0 k v w h (omega arith)

      c : List ℕ
      c = little_bytes 8 a.code

      p : List ℕ
      p = little_bytes 8 a.place

      d : List ℕ
      d = little_bytes 8 a.commands

      s : List ℕ
      s = little_bytes 8 a.stored

      e : List ℕ
      e = little_bytes 8 a.entry

-- ---- the record tells the answer

-- each number fits its 64 bits
pub record Fit (a : Answer) : Type 0 where
  pub code : a.code < 2 ^ 64
  pub place : a.place < 2 ^ 64
  pub commands : a.commands < 2 ^ 64
  pub stored : a.stored < 2 ^ 64
  pub entry : a.entry < 2 ^ 64

-- what the record says, read number by number
abbrev record_answer : List ℕ → Answer
record_answer l =
    record {
      code = little (part l 0 8);
      place = little (part l 8 8);
      commands = little (part l 16 8);
      stored = little (part l 24 8);
      entry = little (part l 32 8);
    }

record-answer : (a : Answer) → Fit a → record_answer (record_bytes a) ≡ a
unfolding record_bytes little_bytes
record-answer a f = λ i.
    record {
      code = little-little_bytes-lt 8 a.code f.code i;
      place = little-little_bytes-lt 8 a.place f.place i;
      commands = little-little_bytes-lt 8 a.commands f.commands i;
      stored = little-little_bytes-lt 8 a.stored f.stored i;
      entry = little-little_bytes-lt 8 a.entry f.entry i;
    }

-- two answers with the same record are the same
pub record-injective : (a b : Answer) → Fit a → Fit b → record_bytes a ≡ record_bytes b → a ≡ b
record-injective a b f g e = sym (record-answer a f) ∙ ap record_answer e ∙ record-answer b g

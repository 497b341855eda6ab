-- Laws of tests on numbers.
use mathlib.Core.Logic.{◌⊎◌, inl, inr}
use mathlib.Core.Path.{◌≡◌, sym, ◌∙◌}
use Prim.Native.Nat.{ℕ, ◌≤◌, ◌<◌}
use native.Mathlib.Decide.{dec_le}
use native.Mathlib.Omega.{arith}
use lib.Dec.{leb}
use borrow.Author.Tests.{le-leb, lt-leb}

pub le-or-lt : (a b : ℕ) → (a ≤ b) ⊎ (b < a)
le-or-lt a b = go (dec_le a b)
  where
    go : Dec (a ≤ b) → (a ≤ b) ⊎ (b < a)
    go (yes h) = inl h
    go (no k) = inr (omega arith)

-- two tests that say the same
pub leb-same : (a b c d : ℕ) → (a ≤ b → c ≤ d) → (c ≤ d → a ≤ b) → leb a b ≡ leb c d
leb-same a b c d f g = go (le-or-lt a b) (le-or-lt c d)
  where
    go : (a ≤ b) ⊎ (b < a) → (c ≤ d) ⊎ (d < c) → leb a b ≡ leb c d
    go (inl h) (inl k) = le-leb a b h ∙ sym (le-leb c d k)
    go (inl h) (inr k) = absurd (let l = f h in omega arith)
    go (inr h) (inl k) = absurd (let l = g k in omega arith)
    go (inr h) (inr k) = lt-leb a b h ∙ sym (lt-leb c d k)

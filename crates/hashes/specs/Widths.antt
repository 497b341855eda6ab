-- What the hashes differ in: FIPS 180-4, figure 1, sections 4.1, 4.2 and 5.3.
use Rattle.std.specs.Prelude.{ℕ, List, [], ◌∷◌}
use Rattle.hashes.specs.Words.{Amounts}

-- what goes by the width of a word: its bits, the rounds of a block, the constants K_t of 4.2, the amounts of the functions of 4.1
pub record Width : Type 0 where
  pub w : ℕ
  pub rounds : ℕ
  pub K : List ℕ
  pub Σ₀ : Amounts
  pub Σ₁ : Amounts
  pub σ₀ : Amounts
  pub σ₁ : Amounts

abbrev pub amounts : ℕ → ℕ → ℕ → Amounts
amounts a b c = record { first = a; second = b; third = c }

-- eight words: a hash value H_0 .. H_7, or the working variables a .. h
pub record Eight : Type 0 where
  pub a : ℕ
  pub b : ℕ
  pub c : ℕ
  pub d : ℕ
  pub e : ℕ
  pub f : ℕ
  pub g : ℕ
  pub h : ℕ

-- the eight words, in order
abbrev pub in_order : Eight → List ℕ
in_order v = v.a ∷ v.b ∷ v.c ∷ v.d ∷ v.e ∷ v.f ∷ v.g ∷ v.h ∷ []

-- one hash: its width, its initial hash value of 5.3, and how many bytes of the last hash value are its digest
pub record Hash : Type 0 where
  pub width : Width
  pub initial : Eight
  pub bytes : ℕ

-- Laws of choices by a test.
use mathlib.Core.Bool.{Bool, true, false, false≢true, cond}
use mathlib.Core.Path.{◌≡◌, refl}
use Prim.Native.Nat.{ℕ}
use borrow.Author.Tests.{eq-eqb, ne_eqb}
use lib.Dec.{T, eqb}

-- what holds of both holds of the choice
pub cond_cases : {A : Type 0} (P : A → Type 0) (b : Bool) (x y : A) → (b ≡ true → P x) → (b ≡ false → P y) → P (cond b x y)
cond_cases P true x y f g = f refl
cond_cases P false x y f g = g refl

-- what relates both relates two choices by one test
pub cond_both : {A : Type 0} (R : A → A → Type 0) (b : Bool) (x y z w : A) → R x z → R y w → R (cond b x y) (cond b z w)
cond_both R true x y z w f g = f
cond_both R false x y z w f g = g

-- a choice of which one side is false
pub cond-false : (t x : Bool) → cond t false x ≡ true → (t ≡ false) × (x ≡ true)
cond-false true x h = absurd (false≢true h)
cond-false false x h = (refl, h)

pub cond-true : (t x : Bool) → cond t x false ≡ true → (t ≡ true) × (x ≡ true)
cond-true true x h = (refl, h)
cond-true false x h = absurd (false≢true h)

pub cond-parts : (b c : Bool) → T (cond b c false) → T b × T c
cond-parts true c t = (tt, t)
cond-parts false c t = absurd t

-- a choice by two numbers
module _ {A : Type 0} (a b : ℕ) (x y : A) where
  pub cond-eq : a ≡ b → cond (eqb a b) x y ≡ x
  cond-eq e = rw (eq-eqb a b e)

  pub cond-ne : (a ≡ b → ⊥) → cond (eqb a b) x y ≡ y
  cond-ne f = rw (ne_eqb a b f)

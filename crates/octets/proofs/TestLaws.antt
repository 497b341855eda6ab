-- Laws of the tests of a whole list, and of the bits that a loop gathers to decide them.
use mathlib.Core.Bool.{Bool, true, false, ◌&&◌, and-true, and_assoc, true≢false}
use mathlib.Core.Path.{◌≡◌, refl, sym, ap, ap₂, ◌∙◌, subst}
use mathlib.Core.List.{List, [], ◌∷◌}
use Prim.Native.Nat.{ℕ, zero, suc}
use native.Mathlib.Omega.{arith}
use borrow.Author.Tests.{eq-eqb, ne_eqb, eqb-true, eqb-false}
use lib.Bits.{bit_or, bit_xor, or_add_and, xor_add_and, xor_self, and_le_l, and_le_r}
use lib.Dec.{eqb, eqb-suc-zero}
use lib.Pointwise.{pointwise}
use lib.ListN.{length, replicate}
use Rattle.std.specs.List.{fold}
use Rattle.octets.specs.Parts.{same, all_zero}

-- ---- two lists are the same just where they are equal

and_left : (p q : Bool) → (p && q) ≡ true → p ≡ true
and_left true q e = refl
and_left false q e = e

and_right : (p q : Bool) → (p && q) ≡ true → q ≡ true
and_right true q e = e
and_right false q e = absurd (true≢false (sym e))

pub same-eq : (a b : List ℕ) → same a b ≡ true → a ≡ b
unfolding same
same-eq [] [] e = refl
same-eq [] (y ∷ b) e = absurd (true≢false (sym e))
same-eq (x ∷ a) [] e = absurd (true≢false (sym e))
same-eq (x ∷ a) (y ∷ b) e =
    ap₂ (λ (z : ℕ) (t : List ℕ). z ∷ t) (eqb-true x y (and_left (eqb x y) (same a b) e)) (same-eq a b (and_right (eqb x y) (same a b) e))

same_refl : (a : List ℕ) → same a a ≡ true
unfolding same
same_refl [] = refl
same_refl (x ∷ a) = ap₂ ◌&&◌ (eq-eqb x x refl) (same_refl a)

pub eq-same : (a b : List ℕ) → a ≡ b → same a b ≡ true
eq-same a b e = subst (λ (t : List ℕ). same a t ≡ true) e (same_refl a)

is_false : (t : Bool) → (t ≡ true → ⊥) → t ≡ false
is_false true h = absurd (h refl)
is_false false h = refl

pub ne_same : (a b : List ℕ) → (a ≡ b → ⊥) → same a b ≡ false
ne_same a b h = is_false (same a b) (λ e. h (same-eq a b e))

-- ---- every byte is zero just where the list is so many zeros

all_zero-same : (s : List ℕ) → all_zero s ≡ same s (replicate (length s) 0)
unfolding same all_zero
all_zero-same [] = refl
all_zero-same (x ∷ s) = ap (λ (t : Bool). eqb x 0 && t) (all_zero-same s)

pub all_zero-eq : (s : List ℕ) → all_zero s ≡ true → s ≡ replicate (length s) 0
all_zero-eq s e = same-eq s (replicate (length s) 0) (sym (all_zero-same s) ∙ e)

pub eq-all_zero : (s : List ℕ) → s ≡ replicate (length s) 0 → all_zero s ≡ true
eq-all_zero s e = all_zero-same s ∙ eq-same s (replicate (length s) 0) e

-- ---- bits gathered by | are none where each is none, and those of x ^ y where x and y are equal

pub or-none : (x y : ℕ) → eqb (bit_or x y) 0 ≡ (eqb x 0 && eqb y 0)
or-none zero y = refl
or-none (suc x) y =
    ne_eqb (bit_or (suc x) y) 0 (λ e. omega (arith, or_add_and (suc x) y, and_le_r (suc x) y))
    ∙ sym (ap (λ (t : Bool). t && eqb y 0) (eqb-suc-zero x))

pub xor-none : (x y : ℕ) → eqb (bit_xor x y) 0 ≡ eqb x y
xor-none x y = decided (eqb x y) refl
  where
    decided : (t : Bool) → eqb x y ≡ t → eqb (bit_xor x y) 0 ≡ eqb x y
    decided true e = eq-eqb (bit_xor x y) 0 (ap (bit_xor x) (sym (eqb-true x y e)) ∙ xor_self x) ∙ sym e
    decided false e =
        ne_eqb (bit_xor x y) 0
        (λ z. eqb-false x y e (omega (arith, xor_add_and x y, and_le_l x y, and_le_r x y)))
        ∙ sym e

-- one more byte: the bits gathered, and the test of what is left
gathered : (bits x : ℕ) (t rest : Bool) → eqb x 0 ≡ t → (eqb (bit_or bits x) 0 && rest) ≡ (eqb bits 0 && (t && rest))
gathered bits x t rest e =
    ap (λ (u : Bool). u && rest) (or-none bits x ∙ ap (λ (u : Bool). eqb bits 0 && u) e) ∙ and_assoc (eqb bits 0) t rest

pub fold-zero : (s : List ℕ) (bits : ℕ) → eqb (fold bit_or bits s) 0 ≡ (eqb bits 0 && all_zero s)
unfolding all_zero
fold-zero [] bits = sym (and-true (eqb bits 0))
fold-zero (x ∷ s) bits = fold-zero s (bit_or bits x) ∙ gathered bits x (eqb x 0) (all_zero s) refl

-- what the library's test of two lists says
pub pointwise_same : (a b : List ℕ) → pointwise eqb a b ≡ same a b
unfolding same
pointwise_same [] [] = refl
pointwise_same [] (y ∷ b) = refl
pointwise_same (x ∷ a) [] = refl
pointwise_same (x ∷ a) (y ∷ b) = ap (λ (t : Bool). eqb x y && t) (pointwise_same a b)

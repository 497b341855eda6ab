-- Laws of rules in an order, where the first that is broken gives its number.
use mathlib.Core.Bool.{Bool, true, false, ◌&&◌, ◌||◌, cond}
use mathlib.Core.List.{List, [], ◌∷◌, ◌++◌, Memᴰ}
use mathlib.Core.Logic.{◌⊎◌, inl, inr}
use mathlib.Core.Path.{◌≡◌, refl, sym, ap, subst, ◌∙◌}
use Prim.Native.Nat.{ℕ}
use lib.Dec.{T, eqb}
use borrow.Author.Tests.{eqb-true, eqb-false, ne_eqb}
use Rattle.answers.specs.Rules.{Rule, first_broken}
use Rattle.answers.proofs.ChoiceLaws.{cond-eq, cond-ne}

-- no rule bears the number 0
abbrev pub numbered : List Rule → Bool
numbered [] = true
numbered (r ∷ rs) = cond (eqb r.code 0) false (numbered rs)

-- no rule is broken
abbrev pub AllHold : List Rule → Type 0
AllHold [] = Unit {0}
AllHold (r ∷ rs) = (r.broken ≡ false) × AllHold rs

numbered-parts : (t u : Bool) → T (cond t false u) → (t ≡ false) × T u
numbered-parts true u h = absurd h
numbered-parts false u h = (refl, h)

-- a second list counts where the first holds
pub first-broken-append : (xs ys : List Rule) → T (numbered xs)
    → first_broken (xs ++ ys) ≡ cond (eqb (first_broken xs) 0) (first_broken ys) (first_broken xs)
first-broken-append [] ys h = refl
first-broken-append (r ∷ xs) ys h = step r.broken (numbered-parts (eqb r.code 0) (numbered xs) h).0
    (first-broken-append xs ys (numbered-parts (eqb r.code 0) (numbered xs) h).1)
  where
    step : (b : Bool) → eqb r.code 0 ≡ false
        → first_broken (xs ++ ys) ≡ cond (eqb (first_broken xs) 0) (first_broken ys) (first_broken xs)
        → cond b r.code (first_broken (xs ++ ys))
        ≡ cond (eqb (cond b r.code (first_broken xs)) 0) (first_broken ys) (cond b r.code (first_broken xs))
    step true e below = rw e
    step false e below = below

-- rules judged by a code r: that of the first ones decides where it is a refusal, else the others do
module _ (xs ys : List Rule) (r : ℕ) (n : T (numbered xs)) (e : r ≡ first_broken xs) where
  pub refuses : (r ≡ 0 → ⊥) → r ≡ first_broken (xs ++ ys)
  refuses h =
      e
      ∙ sym (first-broken-append xs ys n ∙ cond-ne (first_broken xs) 0 (first_broken ys) (first_broken xs) (λ z. h (e ∙ z)))

  pub goes_on : r ≡ 0 → first_broken (xs ++ ys) ≡ first_broken ys
  goes_on z =
      first-broken-append xs ys n ∙ cond-eq (first_broken xs) 0 (first_broken ys) (first_broken xs) (sym e ∙ z)

-- of two lists none is broken just where none is in either
module _ (xs ys : List Rule) (n : T (numbered xs)) where
  pub both_hold : first_broken (xs ++ ys) ≡ 0 → (first_broken xs ≡ 0) × (first_broken ys ≡ 0)
  both_hold e = go (eqb (first_broken xs) 0) refl (sym (first-broken-append xs ys n) ∙ e)
    where
      go : (b : Bool) → eqb (first_broken xs) 0 ≡ b → cond b (first_broken ys) (first_broken xs) ≡ 0
          → (first_broken xs ≡ 0) × (first_broken ys ≡ 0)
      go true p z = (eqb-true (first_broken xs) 0 p, z)
      go false p z = absurd (eqb-false (first_broken xs) 0 p z)

  pub hold-both : first_broken xs ≡ 0 → first_broken ys ≡ 0 → first_broken (xs ++ ys) ≡ 0
  hold-both e f = goes_on xs ys 0 n (sym e) refl ∙ f

-- rules behind which all hold
pub holds-behind : (xs ys : List Rule) → first_broken ys ≡ 0 → first_broken (xs ++ ys) ≡ first_broken xs
holds-behind [] ys e = e
holds-behind (r ∷ xs) ys e = ap (cond r.broken r.code) (holds-behind xs ys e)

pub all-hold-zero : (rs : List Rule) → AllHold rs → first_broken rs ≡ 0
all-hold-zero [] h = refl
all-hold-zero (r ∷ rs) h = rw h.0 (all-hold-zero rs h.1)

pub zero-all-hold : (rs : List Rule) → T (numbered rs) → first_broken rs ≡ 0 → AllHold rs
zero-all-hold [] n e = tt
zero-all-hold (r ∷ rs) n e = step r.broken refl e
    (zero-all-hold rs (numbered-parts (eqb r.code 0) (numbered rs) n).1)
  where
    step : (b : Bool) → r.broken ≡ b → cond b r.code (first_broken rs) ≡ 0 → (first_broken rs ≡ 0 → AllHold rs)
        → (r.broken ≡ false) × AllHold rs
    step true q z below = absurd (eqb-false r.code 0 (numbered-parts (eqb r.code 0) (numbered rs) n).0 z)
    step false q z below = (q, below z)

-- the numbers of the rules
abbrev pub codes : List Rule → List ℕ
codes [] = []
codes (r ∷ rs) = r.code ∷ codes rs

-- the answer is 0 or the number of a rule
pub first-broken-among : (rs : List Rule) → (first_broken rs ≡ 0) ⊎ Memᴰ (first_broken rs) (codes rs)
first-broken-among [] = inl refl
first-broken-among (r ∷ rs) = step r.broken (first-broken-among rs)
  where
    step : (b : Bool) → (first_broken rs ≡ 0) ⊎ Memᴰ (first_broken rs) (codes rs)
        → (cond b r.code (first_broken rs) ≡ 0) ⊎ Memᴰ (cond b r.code (first_broken rs)) (r.code ∷ codes rs)
    step true below = inr (Memᴰ.head refl)
    step false (inl e) = inl e
    step false (inr m) = inr (Memᴰ.tail m)

-- what holds of 0 and of every number of the list holds of the answer
abbrev pub EachCode : (ℕ → Type 0) → List Rule → Type 0
EachCode P [] = Unit {0}
EachCode P (r ∷ rs) = P r.code × EachCode P rs

pub first-broken-has : (P : ℕ → Type 0) (rs : List Rule) → P 0 → EachCode P rs → P (first_broken rs)
first-broken-has P [] z h = z
first-broken-has P (r ∷ rs) z h = step r.broken (first-broken-has P rs z h.1)
  where
    step : (b : Bool) → P (first_broken rs) → P (cond b r.code (first_broken rs))
    step true below = h.0
    step false below = below

-- of rules that all bear the number k, one is broken
pub first-broken-same : (k : ℕ) (rs : List Rule) → EachCode (λ (n : ℕ). n ≡ k) rs → (AllHold rs → ⊥) → first_broken rs ≡ k
first-broken-same k [] e f = absurd (f tt)
first-broken-same k (r ∷ rs) e f = step r.broken refl (first-broken-same k rs e.1)
  where
    step : (b : Bool) → r.broken ≡ b → ((AllHold rs → ⊥) → first_broken rs ≡ k) → cond b r.code (first_broken rs) ≡ k
    step true q below = e.0
    step false q below = below (λ h. f (q, h))

-- whether the codes of some rules all pass a test
abbrev pub codes_pass : (ℕ → Bool) → List Rule → Bool
codes_pass f [] = true
codes_pass f (r ∷ rs) = f r.code && codes_pass f rs

and_parts : (a b : Bool) → T (a && b) → T a × T b
and_parts true b t = (tt, t)
and_parts false b t = absurd t

-- then so does the code that is given
pub code-passes : (f : ℕ → Bool) (rs : List Rule) → T (f 0) → T (codes_pass f rs) → T (f (first_broken rs))
code-passes f [] z t = z
code-passes f (r ∷ rs) z t =
    go r.broken (and_parts (f r.code) (codes_pass f rs) t).0
    (code-passes f rs z (and_parts (f r.code) (codes_pass f rs) t).1)
  where
    go : (b : Bool) → T (f r.code) → T (f (first_broken rs)) → T (f (cond b r.code (first_broken rs)))
    go true p q = p
    go false p q = q

-- a refusal passes what is asked of codes but 0
pub not_none : (f : ℕ → Bool) (rs : List Rule) → T (codes_pass (λ (c : ℕ). eqb c 0 || f c) rs) → (first_broken rs ≡ 0 → ⊥)
    → T (f (first_broken rs))
not_none f rs t ne =
    subst (λ (b : Bool). T (b || f (first_broken rs))) (ne_eqb (first_broken rs) 0 ne)
    (code-passes (λ (c : ℕ). eqb c 0 || f c) rs tt t)

-- Laws of refusals: their numbers, and rules that are judged one list after another, as by `?`.
use mathlib.Core.Bool.{Bool, true, false, cond}
use mathlib.Core.List.{List, [], ◌∷◌, ◌++◌}
use mathlib.Core.Path.{◌≡◌, refl}
use Prim.Native.Nat.{ℕ, ◌<◌}
use native.Mathlib.Omega.{arith}
use lib.Dec.{T}
use Rattle.std.specs.Prelude.{Result, Ok, Err, IsOk}
use Rattle.answers.specs.Codes.{number, code_of}
use Rattle.answers.specs.Rules.{Rule, first_broken}
use Rattle.answers.specs.declared.codes.Refusal.{Refusal}
use Rattle.answers.proofs.RuleLaws.{numbered, goes_on}

-- no refusal has the number 0
pub number-positive : (why : Refusal) → 0 < number why
number-positive why = grind arith

-- where the rules from here on give 0, this one holds, and the others give it
pub zero-holds : (b : Bool) (n m : ℕ) → cond b n m ≡ 0 → 0 < n → (cond b n m ≡ m) × (b ≡ false)
zero-holds true n m e h = absurd (omega arith)
zero-holds false n m e h = (refl, refl)

-- what a function needs that judges its rules by one `?` after another: `using(answers::proofs::RefusalLaws::judged_in_order)`
pub ruleset judged_in_order = (number-positive, zero-holds)

-- the same by the lists: a refusal by the first rules is one by all
pub refuses-first : (xs ys : List Rule) (why : Refusal) → number why ≡ first_broken xs → number why ≡ first_broken (xs ++ ys)
refuses-first [] ys why e = let h = number-positive why in absurd (omega arith)
refuses-first (r ∷ xs) ys why e = step r.broken (refuses-first xs ys why) e
  where
    step : (b : Bool) → (number why ≡ first_broken xs → number why ≡ first_broken (xs ++ ys)) → number why ≡ cond b r.code (first_broken xs)
        → number why ≡ cond b r.code (first_broken (xs ++ ys))
    step true below e = e
    step false below e = below e

-- where the first rules hold, the others decide
pub holds-first : (xs ys : List Rule) → T (numbered xs) → 0 ≡ first_broken xs → first_broken (xs ++ ys) ≡ first_broken ys
holds-first xs ys n e = goes_on xs ys 0 n e refl

-- 0 is the number of what goes through, and of nothing else
pub code-ok : {A : Type 0} (r : Result A Refusal) → IsOk r → code_of r ≡ 0
code-ok (Ok a) h = refl
code-ok (Err why) h = cc

pub ok-code : {A : Type 0} (r : Result A Refusal) → code_of r ≡ 0 → IsOk r
ok-code (Ok a) e = refl
ok-code (Err why) e = let h = number-positive why in absurd (omega arith)

-- What the numbered answers mean, in the words of FORMAT's rules N.
use mathlib.Core.Bool.{true}
use mathlib.Core.List.{List, [], ◌∷◌}
use mathlib.Core.Logic.{◌↔◌}
use mathlib.Core.Path.{◌≡◌, refl, sym, ap, subst, ◌∙◌}
use Prim.Native.Nat.{ℕ, suc, ◌-◌, ◌≤◌}
use native.Mathlib.Omega.{arith}
use borrow.Author.Tests.{eqb-true}
use lib.Dec.{eqb}
use lib.ListN.{get_or}
use Rattle.std.proofs.lemmas.Bool.{agree_below_at}
use Rattle.std.specs.Prelude.{Result, Ok, Err, IsOk}
use Rattle.answers.specs.Codes.{number, code_of}
use Rattle.answers.specs.declared.codes.Refusal.{Refusal}
use Rattle.answers.specs.declared.codes.Refusal.TheVariants.{Argument, Map, Table, Approved, HeaderMagic, HashId, HashsumLength, HeaderSize, Scheme, SignatureLength, Blocks, ImageLength, BlockHashsum, BlockPadding, LastHash, FileMagic, CommandCut, CommandId, CommandLength, NotReachable, NotRam, Text, CpuidMissing, Register, NoRecord, CheckFailed, NoEntry, EmptyFile, OutputLength}
use Rattle.answers.proofs.RefusalLaws.{code-ok, ok-code}

-- the refusals in the order of their numbers
abbrev refusals : List Refusal
refusals =
    Argument ∷ Map ∷ Table ∷ Approved ∷ HeaderMagic ∷ HashId ∷ HashsumLength ∷ HeaderSize ∷ Scheme ∷ SignatureLength
    ∷ Blocks ∷ ImageLength ∷ BlockHashsum ∷ BlockPadding ∷ LastHash ∷ FileMagic ∷ CommandCut ∷ CommandId ∷ CommandLength
    ∷ NotReachable ∷ NotRam ∷ Text ∷ CpuidMissing ∷ Register ∷ NoRecord ∷ CheckFailed ∷ NoEntry ∷ EmptyFile
    ∷ OutputLength ∷ []

-- the refusal of a number
abbrev named : ℕ → Refusal
named n = get_or refusals (n - 1) OutputLength

named-number : (why : Refusal) → named (number why) ≡ why
named-number why = grind arith

-- A refusal's number is one of 1 to 29.
pub number-within : (why : Refusal) → (1 ≤ number why) × (number why ≤ 29)
number-within why = grind arith

-- Two refusals of the same number are the same.
pub number-injective : (why other : Refusal) → number why ≡ number other → why ≡ other
number-injective why other e = sym (named-number why) ∙ ap named e ∙ named-number other

-- Each number from 1 to 29 is a refusal's.
pub number-onto : (n : ℕ) → 1 ≤ n → n ≤ 29 → (why : Refusal) × (number why ≡ n)
number-onto n low high =
    let at : eqb (number (named (suc (n - 1)))) (suc (n - 1)) ≡ true =
    agree_below_at (λ k. eqb (number (named (suc k))) (suc k)) (λ k. true) 29 (n - 1) refl (omega arith) in
    let back : suc (n - 1) ≡ n = omega arith in
    (named n, subst (λ (k : ℕ). number (named k) ≡ k) back (eqb-true _ _ at))

-- A result's number is 0 just where it goes through.
pub code-zero : {A : Type 0} (r : Result A Refusal) → (code_of r ≡ 0) ↔ IsOk r
code-zero r = (ok-code r, code-ok r)

-- A result's number tells its refusal.
pub code-refusal : {A : Type 0} (r : Result A Refusal) (why : Refusal) → code_of r ≡ number why → r ≡ Err why
code-refusal (Ok a) why e = absurd (let h = number-within why in omega arith)
code-refusal (Err other) why e = ap Err (number-injective other why e)

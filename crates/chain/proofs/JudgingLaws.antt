-- Laws of rules that are judged one list after another, and of an image that is judged by its approved header.
use mathlib.Core.Path.{◌≡◌, sym, ap₂, ◌∙◌}
use mathlib.Core.Bool.{Bool, true, false, not}
use mathlib.Core.List.{List, [], ◌∷◌, ◌++◌}
use Prim.Native.Nat.{ℕ, ◌+◌, ◌≤◌, ◌<◌}
use borrow.Author.Tests.{eq-eqb, ne_eqb, lt-ltb, le-ltb}
use lib.Dec.{eqb}
use lib.ListN.{length, take}
use Rattle.std.specs.Cmp.Lexicographic.{pointwise}
use Rattle.std.specs.Prelude.{Result}
use Rattle.std.specs.Result.{IsErrAnd}
use Rattle.std.proofs.lemmas.Result.{err_from_is_err_and}
use Rattle.answers.specs.Codes.{number, code_of}
use Rattle.answers.specs.Rules.{Rule, rule, first_broken}
use Rattle.answers.specs.declared.codes.Refusal.{Refusal}
use Rattle.answers.proofs.RefusalLaws.{refuses-first, holds-first}
use Rattle.chain.specs.Header.{header_of, first_block, image_length, field_rules, image_rules}
use Rattle.chain.proofs.HashingLaws.{pointwise-same}
use Rattle.chain.proofs.HeaderLaws.{passed}

-- what is refused by the first rules is refused by all
pub exits : (xs ys : List Rule) {A : Type 0} (r : Result A Refusal) (why : Refusal) → IsErrAnd r (λ (d : Refusal). d ≡ why)
    → number why ≡ first_broken xs → code_of r ≡ first_broken (xs ++ ys)
exits xs ys r why h e = let p = err_from_is_err_and r h in rw (p.1, p.2) (refuses-first xs ys why e)

module _ (image approved : List ℕ) (signature : ℕ) where
  abbrev fields : List Rule
  fields = field_rules (header_of approved) (length approved) signature

  abbrev exactly : List Rule
  exactly = rule 12 (not (eqb (length image) (image_length (header_of approved)))) ∷ []

  -- the image is too short, or it begins otherwise
  pub header-short : length approved < 36 → 4 ≡ first_broken (image_rules image approved signature)
  header-short h = simp (lt-ltb _ _ h)

  module _ (enough : 36 ≤ length approved) {t : Bool} (e : t ≡ pointwise eqb approved (take (length approved) image)) where
    pub begins-otherwise : t ≡ false → 4 ≡ first_broken (image_rules image approved signature)
    begins-otherwise f = simp (le-ltb _ _ enough, pointwise-same approved (take (length approved) image) t (sym e) ∙ f)

    module _ (on : t ≡ true) where
      past-start : first_broken (image_rules image approved signature) ≡ first_broken (fields ++ exactly)
      past-start = simp (le-ltb _ _ enough, pointwise-same approved (take (length approved) image) t (sym e) ∙ on)

      pub fields-refuse : {A : Type 0} (r : Result A Refusal) (why : Refusal) → IsErrAnd r (λ (d : Refusal). d ≡ why)
          → number why ≡ first_broken fields → code_of r ≡ first_broken (image_rules image approved signature)
      fields-refuse r why h f = exits fields exactly r why h f ∙ sym past-start

      pub length-refuses : 0 ≡ first_broken fields → (length image ≡ image_length (header_of approved) → ⊥)
          → 12 ≡ first_broken (image_rules image approved signature)
      length-refuses z n = sym (past-start ∙ holds-first fields exactly tt z ∙ simp (ne_eqb _ _ n))

      pub none-refuses : 0 ≡ first_broken fields → length image ≡ image_length (header_of approved)
          → first_broken (image_rules image approved signature) ≡ 0
      none-refuses z q = past-start ∙ holds-first fields exactly tt z ∙ simp (eq-eqb _ _ q)

-- the first block of an image that passed begins behind a signature field of the length that was asked for
pub first-behind : (image approved : List ℕ) (signature : ℕ) → first_broken (image_rules image approved signature) ≡ 0
    → length approved + signature ≡ first_block (header_of approved)
first-behind image approved signature z =
    let q = passed image approved signature z in ap₂ (λ (x y : ℕ). x + y) (sym q.sound.approved) (sym q.sound.signature)

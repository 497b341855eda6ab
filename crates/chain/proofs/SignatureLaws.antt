-- The signature field that is handed out, against the code that open gives.
use mathlib.Core.Path.{◌≡◌, refl, sym, ap, subst, ◌∙◌}
use mathlib.Core.Bool.{Bool, true, false, not}
use mathlib.Core.List.{List, [], ◌∷◌, ◌++◌}
use Prim.Native.Nat.{ℕ}
use native.Mathlib.Omega.{arith}
use borrow.Author.Tests.{eqb-true, eqb-false}
use lib.Dec.{T, T_not, eqb}
use lib.ListN.{length}
use Rattle.octets.specs.Parts.{part}
use Rattle.octets.proofs.PartLaws.{length_part}
use Rattle.answers.specs.Answers.{Outcome, record_length}
use Rattle.answers.specs.Rules.{Rule, first_broken}
use Rattle.answers.proofs.ChoiceLaws.{cond-eq, cond-ne}
use Rattle.answers.proofs.RuleLaws.{refuses, goes_on, code-passes, not_none}
use Rattle.chain.specs.Header.{header_of, image_length, stream_rules}
use Rattle.chain.specs.Open.{opened, signature_field}
use Rattle.chain.proofs.GivenCodes.{among, OpenWay, open-way, block-code}
use Rattle.chain.proofs.HeaderLaws.{stream-passed}
use Rattle.chain.proofs.OpenLaws.{length_rule, unwritten, refusing, proving}

-- 1 and 4 to 12
abbrev pub early_codes : List ℕ
early_codes = 1 ∷ 4 ∷ 5 ∷ 6 ∷ 7 ∷ 8 ∷ 9 ∷ 10 ∷ 11 ∷ 12 ∷ []

module _ (image approved : List ℕ) (signature : ℕ) where
  abbrev S : ℕ
  S = first_broken (stream_rules image approved signature)

  pub empty-field : (S ≡ 0 → ⊥) → signature_field image approved signature ≡ []
  empty-field = cond-ne S 0 (part image (length approved) (header_of approved).signature) []

  pub whole-field : S ≡ 0 → (signature_field image approved signature ≡ part image (length approved) signature)
      × (length (signature_field image approved signature) ≡ signature)
  whole-field e =
      let q = (stream-passed image approved signature e).1 in
      let s : (header_of approved).signature ≡ signature = q.sound.signature in
      let h : (header_of approved).header_size ≡ length approved = q.sound.approved in
      let n : length image ≡ image_length (header_of approved) = q.exact in
      let f : signature_field image approved signature ≡ part image (length approved) signature =
      cond-eq S 0 (part image (length approved) (header_of approved).signature) [] e ∙ ap (λ (k : ℕ). part image (length approved) k) s in
      (f, ap length f ∙ length_part image (length approved) signature (omega arith))

  module _ (output old : List ℕ) (h : length old ≡ record_length) where
    abbrev o : Outcome
    o = opened image approved signature output old

    abbrev last : List Rule
    last = length_rule (length output) (header_of approved)

    -- where nothing is broken up to 12, open gives another code
    later : S ≡ 0 → T (not (among early_codes o.code))
    later e = go (open-way image approved signature output old)
      where
        rules-later : T (not (among early_codes (first_broken (stream_rules image approved signature ++ last))))
        rules-later =
            subst (λ (c : ℕ). T (not (among early_codes c)))
            (sym (goes_on (stream_rules image approved signature) last S tt refl e))
            (code-passes (λ (c : ℕ). not (among early_codes c)) last tt tt)

        go : OpenWay image approved signature output old → T (not (among early_codes o.code))
        go (unwritten l q) = absurd (l h)
        go (refusing l c q) = subst (λ (x : Outcome). T (not (among early_codes x.code))) (sym q) rules-later
        go (proving l c q) =
            subst (λ (x : Outcome). T (not (among early_codes x.code))) (sym q)
            (block-code image approved signature output old (λ (c : ℕ). not (among early_codes c)) tt tt)

    -- else one of these
    sooner : (S ≡ 0 → ⊥) → T (among early_codes o.code)
    sooner ne = go (open-way image approved signature output old)
      where
        same : first_broken (stream_rules image approved signature ++ last) ≡ S
        same = sym (refuses (stream_rules image approved signature) last S tt refl ne)

        early-code : T (among early_codes S)
        early-code = not_none (among early_codes) (stream_rules image approved signature) tt ne

        go : OpenWay image approved signature output old → T (among early_codes o.code)
        go (unwritten l q) = absurd (l h)
        go (refusing l c q) =
            subst (λ (x : Outcome). T (among early_codes x.code)) (sym q)
            (subst (λ (k : ℕ). T (among early_codes k)) (sym same) early-code)
        go (proving l c q) = absurd (ne (sym same ∙ c))

    -- where open gives 1 or 4 to 12 the part is empty
    pub field-refused : T (among early_codes o.code) → signature_field image approved signature ≡ []
    field-refused t = empty-field (λ e. T_not (among early_codes o.code) (later e) t)

    -- elsewhere it is the bytes between header and first block, as many as expected
    pub field-given : T (not (among early_codes o.code))
        → (signature_field image approved signature ≡ part image (length approved) signature)
        × (length (signature_field image approved signature) ≡ signature)
    field-given t = go (eqb S 0) refl
      where
        go : (b : Bool) → eqb S 0 ≡ b → (signature_field image approved signature ≡ part image (length approved) signature)
            × (length (signature_field image approved signature) ≡ signature)
        go true p = whole-field (eqb-true S 0 p)
        go false p = absurd (T_not (among early_codes o.code) t (sooner (eqb-false S 0 p)))

-- The pair is empty just where the field is.
use Rattle.std.proofs.Common.{◌≡◌, ◌≢◌, ℕ, List, length, sym, ap₂, ◌∙◌, rules}
use Rattle.octets.specs.Parts.{part}
use Rattle.chain.proofs.PassLaws.{empty-starts, filled-starts, field-part}
use Rattle.chain.specs.Open.{signature_field}
use Rattle.runnelpin.proofs.runnelpin_signature.Goals as goal

pub returns-then-is_empty-clause-value : goal.returns-then-is_empty-clause-value
returns-then-is_empty-clause-value c =
    let a = c.args in
    let e = c.signature_field-field.ensures.result_value in
    let none : length (signature_field a.image.now a.header.now a.signature_length) ≡ 0 = search (rules, e, c.is_empty.ensures, c.if-is_empty.true) in
    λ i. record { start = sym (empty-starts a.image.now a.header.now a.signature_length none) i; length = length (e i) }

pub returns-else-is_empty-clause-length_value : goal.returns-else-is_empty-clause-length_value
returns-else-is_empty-clause-length_value c =
    let a = c.args in
    let e = c.signature_field-field.ensures.result_value in
    let some : length (signature_field a.image.now a.header.now a.signature_length) ≢ 0 = search (rules, e, c.is_empty.ensures, c.if-is_empty.false) in
    ap₂ (λ (n : ℕ) (f : List ℕ). part a.image.now n (length f)) (sym (filled-starts a.image.now a.header.now a.signature_length some)) e
    ∙ field-part a.image.now a.header.now a.signature_length

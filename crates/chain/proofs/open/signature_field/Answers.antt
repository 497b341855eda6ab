use Rattle.std.proofs.Common.{◌≡◌, ◌≤◌, ◌+◌, ◌-◌, ℕ, sym, ap, ◌∙◌, length, arith, rules}
use Rattle.octets.specs.Parts.{part}
use Rattle.answers.specs.Rules.{first_broken}
use Rattle.answers.proofs.RefusalLaws.{code-ok}
use Rattle.chain.specs.Header.{stream_rules}
use Rattle.chain.proofs.PassLaws.{field-inside}
use Rattle.chain.proofs.SignatureLaws.{whole-field}
use Rattle.chain.proofs.open.signature_field.Goals as goal

pub slice_bounds-result-end-2 : goal.slice_bounds-result-end-2
slice_bounds-result-end-2 c =
    let a = c.args in
    let z : first_broken (stream_rules a.image.now a.header.now a.signature) ≡ 0 =
    sym c.stream_judged.ensures.code ∙ code-ok c.stream_judged.result c.if-is_err.ensures.negation in
    let h : length a.header.now + a.signature ≤ length a.image.now = field-inside a.image.now a.header.now a.signature z in
    search rules

pub returns-clause-result_value : goal.returns-clause-result_value
returns-clause-result_value c =
    let a = c.args in
    let z : first_broken (stream_rules a.image.now a.header.now a.signature) ≡ 0 =
    sym c.stream_judged.ensures.code ∙ code-ok c.stream_judged.result c.if-is_err.ensures.negation in
    let n : length a.header.now + a.signature - length a.header.now ≡ a.signature = omega arith in
    ap (λ (i : ℕ). part a.image.now (length a.header.now) i) n ∙ sym (whole-field a.image.now a.header.now a.signature z).0

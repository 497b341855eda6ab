use Rattle.std.proofs.Common.{ℕ, sym, ap, ◌∙◌}
use Rattle.chain.proofs.ProvingLaws.{opened-unwritten, opened-given}
use Rattle.chain.proofs.open.open.Goals as goal

pub returns-then-answer-ne-RECORD_LENGTH : goal.returns-then-answer-ne-RECORD_LENGTH
returns-then-answer-ne-RECORD_LENGTH c =
    let a = c.args in
    opened-unwritten a.image.now a.header.now a.signature_length a.output.now a.answer.now c.if-answer-ne-RECORD_LENGTH.true
    ∙ ap (λ (n : ℕ). record { code = n; answer = a.answer.now; lent = a.output.now }) (sym c.code.ensures)

pub returns : goal.returns
returns c =
    let a = c.args in
    opened-given a.image.now a.header.now a.signature_length a.output.now a.answer.now c.if-answer-ne-RECORD_LENGTH.false c.open_answer-a.ensures
    ∙ (λ i. record {
      code = sym c.write_answer.ensures.1 i;
      answer = sym c.write_answer.ensures.0 i;
      lent = c.open_answer-a.new.output;
    })

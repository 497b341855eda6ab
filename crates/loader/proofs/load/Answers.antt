use Rattle.std.proofs.Common.{sym, ◌∙◌}
use Rattle.loader.proofs.LoadLaws.{load-unwritten}
use Rattle.loader.proofs.CodeLaws.{load-written}
use Rattle.loader.proofs.load.Goals as goal

pub returns-then-answer-ne-RECORD_LENGTH : goal.returns-then-answer-ne-RECORD_LENGTH
returns-then-answer-ne-RECORD_LENGTH c =
    load-unwritten _ _ _ c.if-answer-ne-RECORD_LENGTH.true
    ∙ (λ i. record { code = sym c.code.ensures i; answer = c.args.answer.now; lent = c.args.memory.now })

pub returns : goal.returns
returns c =
    load-written _ c.args.memory.now c.args.answer.now c.if-answer-ne-RECORD_LENGTH.false c.load_answer-a.ensures
    c.write_answer.ensures.0 c.write_answer.ensures.1

use Rattle.machine.proofs.BareCode.{bare-unwritten, bare-written, either-given}
use Rattle.machine.proofs.bare.run_bare.Goals as goal

pub returns-then-answer-ne-RECORD_LENGTH : goal.returns-then-answer-ne-RECORD_LENGTH
returns-then-answer-ne-RECORD_LENGTH c =
    let a = c.args in
    bare-unwritten _ a.memory.now a.answer.now c.if-answer-ne-RECORD_LENGTH.true c.code.ensures

pub returns : goal.returns
returns c =
    let a = c.args in
    bare-written _ a.memory.now a.answer.now c.unwrap_or_else-a.result
    c.if-answer-ne-RECORD_LENGTH.false c.ran.ensures (either-given c.ran.result c.unwrap_or_else-a.ensures)
    c.write_answer.ensures.1 c.write_answer.ensures.0
